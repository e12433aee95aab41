use Rattle.assignment.proofs.judge.Judgements.{judges}
use borrow.Author.Rules.{rules}
use Rattle.assignment.proofs.judge.judge.Goals as goal

pub returns : goal.returns
returns c = search (judges, rules)
