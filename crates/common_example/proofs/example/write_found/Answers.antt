use Rattle.common_example.proofs.written.Giving.{found_place, found_inside, found_count, found_one, found_node, found_written}
use borrow.Author.Rules.{rules}
use Rattle.common_example.proofs.example.write_found.Goals as goal

pub overflow_cast-before : goal.overflow_cast-before
overflow_cast-before c = search (found_count, rules)

pub write_place-requires : goal.write_place-requires
write_place-requires c = search (found_place, rules)

pub size_at-size-requires : goal.size_at-size-requires
size_at-size-requires c = search (found_inside, rules)

pub overflow_add-result : goal.overflow_add-result
overflow_add-result c = search (found_node, rules)

pub overflow_sub-result : goal.overflow_sub-result
overflow_sub-result c = search (found_one, rules)

pub returns : goal.returns
returns c = search (found_written, rules)
