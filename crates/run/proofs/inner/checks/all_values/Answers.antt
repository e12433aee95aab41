use Rattle.run.proofs.Checking.{all_asks, all_no_value, all_told}
use borrow.Author.Rules.{rules}
use Rattle.run.proofs.inner.checks.all_values.Goals as goal

pub is_value-requires : goal.is_value-requires
is_value-requires c = search (all_asks, rules)

pub returns-then-not-is_value : goal.returns-then-not-is_value
returns-then-not-is_value c = search (all_no_value, rules)

pub values_listed-requires : goal.values_listed-requires
values_listed-requires c = search (all_asks, rules)

pub returns : goal.returns
returns c = search (all_told, rules)
