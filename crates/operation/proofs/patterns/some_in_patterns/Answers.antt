use Rattle.operation.proofs.OperationParts.{without_key, with_key}
use borrow.Author.Rules.{rules}
use Rattle.operation.proofs.patterns.some_in_patterns.Goals as goal

pub returns-then-key-eq0 : goal.returns-then-key-eq0
returns-then-key-eq0 c = search (without_key, rules)

pub returns : goal.returns
returns c = search (with_key, rules)
