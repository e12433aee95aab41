use Rattle.sheet.proofs.space.PlanListing.{was_listed, then_listed}
use borrow.Author.Rules.{rules}
use Rattle.sheet.proofs.space.list_tables.Goals as goal

pub returns-in-Some : goal.returns-in-Some
returns-in-Some c = search (was_listed, rules)

pub returns-in-None : goal.returns-in-None
returns-in-None c = search (then_listed, rules)
