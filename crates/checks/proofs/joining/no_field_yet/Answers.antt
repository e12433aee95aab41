use Rattle.checks.proofs.ObjectFields.{none_computed, none_paired, none_alone}
use borrow.Author.Rules.{rules}
use Rattle.checks.proofs.joining.no_field_yet.Goals as goal

pub returns-then-literals-total : goal.returns-then-literals-total
returns-then-literals-total c = search (none_computed, rules)

pub returns-then-paired : goal.returns-then-paired
returns-then-paired c = search (none_paired, rules)

pub returns : goal.returns
returns c = search (none_alone, rules)
