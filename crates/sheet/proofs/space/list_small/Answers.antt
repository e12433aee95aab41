use Rattle.sheet.proofs.space.PlanListing.{small_held, small_listed, too_large}
use borrow.Author.Rules.{rules}
use Rattle.sheet.proofs.space.list_small.Goals as goal

pub returns-then-first-eq6 : goal.returns-then-first-eq6
returns-then-first-eq6 c = search (too_large, rules)

pub write_lines-requires : goal.write_lines-requires
write_lines-requires c = search (small_held, rules)

pub returns : goal.returns
returns c = search (small_listed, rules)
