use Rattle.name_table.proofs.Cases.{add_table, few_used, add_barred, range_inside, add_existing, add_new}
use borrow.Author.Rules.{rules}
use Rattle.name_table.proofs.add_name.Goals as goal

pub returns-in_err-check_in_use : goal.returns-in_err-check_in_use
returns-in_err-check_in_use c = add_table _ _ _ _ _ _ _ _ _ c.check_in_use.ensures c.in_err-check_in_use.was c.from_residual.ensures.1

pub returns-then-not-is_allowed : goal.returns-then-not-is_allowed
returns-then-not-is_allowed c = search (add_barred, c.in_ok-check_in_use.was, rules)

pub slice_bounds-number_of-end : goal.slice_bounds-number_of-end
slice_bounds-number_of-end c = search (range_inside, c.in_ok-check_in_use.was, rules)

pub number_of-requires : goal.number_of-requires
number_of-requires c = search (few_used, c.in_ok-check_in_use.was, rules)

pub returns-in-Some : goal.returns-in-Some
returns-in-Some c = search (add_existing, c.in_ok-check_in_use.was, rules)

pub returns : goal.returns
returns c = search (add_new, c.in_ok-check_in_use.was, rules)
