use Rattle.name_table.proofs.Cases.{in_use_part, use_over, use_broken, use_limits, use_checked}
use borrow.Author.Rules.{rules}
use Rattle.name_table.proofs.check_in_use.Goals as goal

pub returns-then-used-gt128 : goal.returns-then-used-gt128
returns-then-used-gt128 c = search (use_over, rules)

pub slice_bounds-names-end : goal.slice_bounds-names-end
slice_bounds-names-end c = search (in_use_part, rules)

pub returns-then-has_names : goal.returns-then-has_names
returns-then-has_names c = search (use_checked, rules)

pub returns-then-within_limits : goal.returns-then-within_limits
returns-then-within_limits c = search (use_broken, rules)

pub returns : goal.returns
returns c = search (use_limits, rules)
