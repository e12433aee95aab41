use Rattle.planner.proofs.Left.{some_left, none_left, one_less}
use Rattle.some_in.proofs.Collections.{looking_start, looking_fits, looking_pair, looking_found, looking_on, looking_ends}
use borrow.Author.Rules.{rules}
use Rattle.some_in.proofs.collection.any_fits.Goals as goal

pub loop-place-init : goal.loop-place-init
loop-place-init c = search (looking_start, rules)

pub check_literal_structure-check-requires : goal.check_literal_structure-check-requires
check_literal_structure-check-requires c = search (looking_pair, some_left, rules)

pub returns-then-not-is_mismatch : goal.returns-then-not-is_mismatch
returns-then-not-is_mismatch c = search (looking_found, some_left, rules)

pub overflow_add-place-end : goal.overflow_add-place-end
overflow_add-place-end c = search (looking_fits, rules)

pub loop-place-preserved : goal.loop-place-preserved
loop-place-preserved c = search (looking_on, some_left, one_less, rules)

pub returns : goal.returns
returns c = search (looking_ends, none_left, rules)
