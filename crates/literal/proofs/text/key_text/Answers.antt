use Rattle.literal.proofs.Answers.{text_null, text_false, text_true, text_number, text_string, text_none, number_room}
use borrow.Author.Rules.{rules}
use Rattle.literal.proofs.text.key_text.Goals as goal

pub returns-then-x-eq0 : goal.returns-then-x-eq0
returns-then-x-eq0 c = search (text_null, rules)

pub returns-then-x-eq1 : goal.returns-then-x-eq1
returns-then-x-eq1 c = search (text_false, rules)

pub returns-then-x-eq2 : goal.returns-then-x-eq2
returns-then-x-eq2 c = search (text_true, rules)

pub write_number-requires : goal.write_number-requires
write_number-requires c = search (number_room, rules)

pub returns-then-x-eq3 : goal.returns-then-x-eq3
returns-then-x-eq3 c = search (text_number, rules)

pub returns-then-x-eq4 : goal.returns-then-x-eq4
returns-then-x-eq4 c = search (text_string, rules)

pub returns : goal.returns
returns c = search (text_none, rules)
