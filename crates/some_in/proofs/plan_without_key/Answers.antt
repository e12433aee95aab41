use Rattle.some_in.proofs.Answers.{without_key}
use borrow.Author.Rules.{rules}
use Rattle.some_in.proofs.plan_without_key.Goals as goal

pub returns : goal.returns
returns c = search (without_key, rules)
