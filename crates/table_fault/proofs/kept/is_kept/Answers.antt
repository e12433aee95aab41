use Rattle.table_fault.proofs.Cases.{asked_rule, kept_whole}
use borrow.Author.Rules.{rules}
use Rattle.table_fault.proofs.kept.is_kept.Goals as goal

pub whole_kept-requires : goal.whole_kept-requires
whole_kept-requires c = (search (asked_rule, rules), search rules)

pub returns-then-rule-le-LAST_WHOLE : goal.returns-then-rule-le-LAST_WHOLE
returns-then-rule-le-LAST_WHOLE c = search (kept_whole, rules)
