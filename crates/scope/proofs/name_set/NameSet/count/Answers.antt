use Rattle.scope.proofs.Cases.{count_fits, count_is}
use borrow.Author.Rules.{rules}
use Rattle.scope.proofs.name_set.NameSet.count.Goals as goal

pub overflow_add-result : goal.overflow_add-result
overflow_add-result c = search (count_fits, rules)

pub returns : goal.returns
returns c = search (count_is, rules)
