use Rattle.run.proofs.Valued.{having_start, having_name, having_small, having_listed, having_on, having_fails, having_ends}
use borrow.Author.Rules.{rules}
use Rattle.run.proofs.inner.names.all_have_values.Goals as goal

pub loop-i-init : goal.loop-i-init
loop-i-init c = search (having_start, rules)

pub overflow_cast-i : goal.overflow_cast-i
overflow_cast-i c = search (having_small, rules)

pub bounds-met-i : goal.bounds-met-i
bounds-met-i c = search (having_small, rules)

pub bounds-values-i : goal.bounds-values-i
bounds-values-i c = search (having_listed, rules)

pub has_value-requires : goal.has_value-requires
has_value-requires c = search (having_name, rules)

pub returns-then-not-has_value : goal.returns-then-not-has_value
returns-then-not-has_value c = search (having_fails, rules)

pub loop-i-preserved : goal.loop-i-preserved
loop-i-preserved c = search (having_on, rules)

pub returns : goal.returns
returns c = search (having_ends, rules)
