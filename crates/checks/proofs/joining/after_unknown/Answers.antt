use Rattle.checks.proofs.Joins.{unknown_ends, unknown_mismatch, unknown_stays}
use borrow.Author.Rules.{rules}
use Rattle.checks.proofs.joining.after_unknown.Goals as goal

pub returns-then-is_mismatch : goal.returns-then-is_mismatch
returns-then-is_mismatch c = search (unknown_mismatch, rules)

pub returns-in-Present : goal.returns-in-Present
returns-in-Present c = search (unknown_ends, rules)

pub returns-else-is_mismatch : goal.returns-else-is_mismatch
returns-else-is_mismatch c = search (unknown_stays, rules)
