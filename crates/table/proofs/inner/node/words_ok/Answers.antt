use Rattle.table.proofs.tests.Clauses.{words_string, words_raw, words_number, words_bool, words_null, words_name, words_array, words_set, words_object, words_other, words_none}
use borrow.Author.Rules.{rules}
use Rattle.table.proofs.inner.node.words_ok.Goals as goal

pub returns-in-1 : goal.returns-in-1
returns-in-1 c = search (words_string, rules)

pub returns-in-2 : goal.returns-in-2
returns-in-2 c = search (words_raw, rules)

pub returns-in-3 : goal.returns-in-3
returns-in-3 c = search (words_number, rules)

pub returns-in-4 : goal.returns-in-4
returns-in-4 c = search (words_bool, rules)

pub returns-in-5 : goal.returns-in-5
returns-in-5 c = search (words_null, rules)

pub returns-in-6 : goal.returns-in-6
returns-in-6 c = search (words_name, rules)

pub returns-in-7 : goal.returns-in-7
returns-in-7 c = search (words_array, rules)

pub returns-in-8 : goal.returns-in-8
returns-in-8 c = search (words_set, rules)

pub returns-in-9 : goal.returns-in-9
returns-in-9 c = search (words_object, rules)

pub returns-in-10 : goal.returns-in-10
returns-in-10 c = search (words_other, rules)

pub returns-in_default : goal.returns-in_default
returns-in_default c = search (words_none, rules)
