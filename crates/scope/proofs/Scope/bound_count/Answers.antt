use Rattle.scope.specs.Scope.{bound_count}
use borrow.Author.Rules.{rules}
use Rattle.scope.proofs.Scope.bound_count.Goals as goal

pub returns : goal.returns
unfolding bound_count
returns c = search rules
