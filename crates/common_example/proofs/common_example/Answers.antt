use Rattle.common_example.proofs.arrays.Common.{common_refused, passed_asks, common_passed}
use borrow.Author.Rules.{rules}
use Rattle.common_example.proofs.common_example.Goals as goal

pub returns-in-Err : goal.returns-in-Err
returns-in-Err c = search (common_refused, rules)

pub example_of-requires : goal.example_of-requires
example_of-requires c = passed_asks c.check_sides-checked.ensures (search rules)

pub returns : goal.returns
returns c = search (common_passed, rules)
