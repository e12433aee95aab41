use Rattle.table_fault.proofs.Tests.{refuses_limit, refuses_deep, refuses_names, refuses_rules}
use borrow.Author.Rules.{rules}
use Rattle.table_fault.proofs.refusal_of.Goals as goal

pub returns-then-rule-le-MOST_TEXT_BYTES : goal.returns-then-rule-le-MOST_TEXT_BYTES
returns-then-rule-le-MOST_TEXT_BYTES c = search (refuses_limit, rules)

pub returns-then-rule-eq-DEPTH : goal.returns-then-rule-eq-DEPTH
returns-then-rule-eq-DEPTH c = search (refuses_deep, rules)

pub returns-then-rule-eq-EQUAL_NAMES : goal.returns-then-rule-eq-EQUAL_NAMES
returns-then-rule-eq-EQUAL_NAMES c = search (refuses_names, rules)

pub returns : goal.returns
returns c = search (refuses_rules, rules)
