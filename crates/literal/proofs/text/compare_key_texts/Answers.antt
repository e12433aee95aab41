use Rattle.literal.proofs.Answers.{written_room, written_length, lent_text, written_text, compare_texts, compare_no_texts}
use Rattle.literal.proofs.TextOrder.{texts_by_size}
use borrow.Author.Rules.{rules}
use Rattle.literal.proofs.text.compare_key_texts.Goals as goal

pub returns-then-same_form : goal.returns-then-same_form
returns-then-same_form c = search (texts_by_size, rules)

pub slice_bounds-out-end : goal.slice_bounds-out-end
slice_bounds-out-end c = search (written_room, rules)

pub slice_bounds-compare_to_text-end : goal.slice_bounds-compare_to_text-end
slice_bounds-compare_to_text-end c = search (written_length, rules)

pub returns-in-Lent : goal.returns-in-Lent
returns-in-Lent c = search (compare_texts, lent_text, rules)

pub returns-in-Written : goal.returns-in-Written
returns-in-Written c = search (compare_texts, written_text, rules)

pub returns-in-NoText : goal.returns-in-NoText
returns-in-NoText c = search (compare_no_texts, rules)
