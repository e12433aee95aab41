use mathlib.Core.Path.{refl}
use Rattle.body.proofs.BodySteps.{body_start, line_number, line_ends, line_goes_on, body_ends}
use borrow.Author.Rules.{rules}
use Rattle.body.proofs.plan_lines.Goals as goal

pub loop-i-init : goal.loop-i-init
loop-i-init c = search (body_start, rules)

pub overflow_cast-i : goal.overflow_cast-i
overflow_cast-i c = search (line_number, rules)

pub loop-i-preserved : goal.loop-i-preserved
loop-i-preserved c = line_goes_on c.loop-i.invariant c.loop-i-test.true c.line_at-operation.ensures refl c.plan_line.ensures c.in-Ok.is

pub returns-in-Err : goal.returns-in-Err
returns-in-Err c = line_ends c.loop-i.invariant c.loop-i-test.true c.line_at-operation.ensures refl c.plan_line.ensures c.in-Err.is

pub returns : goal.returns
returns c = search (body_ends, rules)
