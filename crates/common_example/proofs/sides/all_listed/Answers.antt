use Rattle.common_example.proofs.loops.SideChecks.{listed_asks, listed_told}
use borrow.Author.Rules.{rules}
use Rattle.common_example.proofs.sides.all_listed.Goals as goal

pub values_listed-requires : goal.values_listed-requires
values_listed-requires c = search (listed_asks, rules)

pub returns : goal.returns
returns c = search (listed_told, rules)
