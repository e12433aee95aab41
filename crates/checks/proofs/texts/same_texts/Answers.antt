use Rattle.checks.proofs.TextLoops.{sizes_differ, agreeing_start, agreeing_on, agreeing_less, agreeing_greater, agreeing_none, agreeing_ends}
use borrow.Author.Rules.{rules}
use Rattle.checks.proofs.texts.same_texts.Goals as goal

pub returns-then-m-n : goal.returns-then-m-n
returns-then-m-n c = search (sizes_differ, rules)

pub loop-q-init : goal.loop-q-init
loop-q-init c = search (agreeing_start, rules)

pub loop-q-preserved : goal.loop-q-preserved
loop-q-preserved c = search (agreeing_on, rules)

pub returns-in-Less : goal.returns-in-Less
returns-in-Less c = search (agreeing_less, rules)

pub returns-in-Greater : goal.returns-in-Greater
returns-in-Greater c = search (agreeing_greater, rules)

pub returns-in-NoLiteral : goal.returns-in-NoLiteral
returns-in-NoLiteral c = search (agreeing_none, rules)

pub returns : goal.returns
returns c = search (agreeing_ends, rules)
