use Rattle.literal.proofs.Answers.{written_room, written_length}
use borrow.Author.Rules.{rules}
use Rattle.literal_test.proofs.print_text.Goals as goal

pub slice_bounds-out-end : goal.slice_bounds-out-end
slice_bounds-out-end g c = search (written_room, rules)

pub slice_bounds-write_all-end : goal.slice_bounds-write_all-end
slice_bounds-write_all-end g c = search (written_length, rules)
