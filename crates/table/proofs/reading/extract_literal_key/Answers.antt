use Rattle.table.proofs.trees.Words.{ref_string, ref_raw, ref_number, ref_false, ref_true, ref_null, ref_none}
use borrow.Author.Rules.{rules}
use Rattle.table.proofs.reading.extract_literal_key.Goals as goal

pub returns-then-first-eq0 : goal.returns-then-first-eq0
returns-then-first-eq0 c = search (ref_false, rules)

pub returns-in-1 : goal.returns-in-1
returns-in-1 c = search (ref_string, rules)

pub returns-in-2 : goal.returns-in-2
returns-in-2 c = search (ref_raw, rules)

pub returns-in-3 : goal.returns-in-3
returns-in-3 c = search (ref_number, rules)

pub returns-else-first-eq0 : goal.returns-else-first-eq0
returns-else-first-eq0 c = search (ref_true, rules)

pub returns-in-5 : goal.returns-in-5
returns-in-5 c = search (ref_null, rules)

pub returns-in_default : goal.returns-in_default
returns-in_default c = search (ref_none, rules)
