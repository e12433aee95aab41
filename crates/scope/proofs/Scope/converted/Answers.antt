use Rattle.scope.proofs.Agreeing.{converted_or_empty}
use borrow.Author.Rules.{rules}
use Rattle.scope.proofs.Scope.converted.Goals as goal

pub returns : goal.returns
returns c = search (converted_or_empty, rules)
