use Rattle.scope.proofs.Words.{unmarked_start, unmarked_on, unmarked_ends}
use borrow.Author.Rules.{rules}
use Rattle.scope.proofs.bytes.none_marked.Goals as goal

pub loop-i-init : goal.loop-i-init
loop-i-init c = search (unmarked_start, rules)

pub loop-i-preserved : goal.loop-i-preserved
loop-i-preserved c = search (unmarked_on, rules)

pub returns : goal.returns
returns c = search (unmarked_ends, rules)
