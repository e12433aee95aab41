use Rattle.literal.proofs.Answers.{written_room, written_length, lent_text, written_text, compare_text, compare_no_text}
use borrow.Author.Rules.{rules}
use Rattle.literal.proofs.text.compare_to_text.Goals as goal

pub slice_bounds-out-end : goal.slice_bounds-out-end
slice_bounds-out-end c = search (written_room, rules)

pub slice_bounds-compare_bytes-end : goal.slice_bounds-compare_bytes-end
slice_bounds-compare_bytes-end c = search (written_length, rules)

pub returns-in-Lent : goal.returns-in-Lent
returns-in-Lent c = search (compare_text, lent_text, rules)

pub returns-in-Written : goal.returns-in-Written
returns-in-Written c = search (compare_text, written_text, rules)

pub returns-in-NoText : goal.returns-in-NoText
returns-in-NoText c = search (compare_no_text, rules)
