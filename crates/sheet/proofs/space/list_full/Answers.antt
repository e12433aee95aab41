use Rattle.sheet.proofs.space.PlanListing.{full_held, full_listed}
use borrow.Author.Rules.{rules}
use Rattle.sheet.proofs.space.list_full.Goals as goal

pub write_lines-requires : goal.write_lines-requires
write_lines-requires c = search (full_held, rules)

pub returns : goal.returns
returns c = search (full_listed, rules)
