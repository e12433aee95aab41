use Rattle.body.proofs.SideCases.{values_paired, values_apart}
use borrow.Author.Rules.{rules}
use Rattle.body.proofs.ready.values_unready.Goals as goal

pub returns-then-sides : goal.returns-then-sides
returns-then-sides c = search (values_paired, rules)

pub returns : goal.returns
returns c = search (values_apart, rules)
