use Rattle.common_example.proofs.loops.writing.WriteParts.{parent_first, parent_end, parent_numbers, parent_written}
use borrow.Author.Rules.{rules}
use Rattle.common_example.proofs.writing.write_parent.Goals as goal

pub overflow_add-source : goal.overflow_add-source
overflow_add-source c = search (parent_first, rules)

pub number_parts-requires : goal.number_parts-requires
number_parts-requires c = search (parent_numbers, rules)

pub overflow_add-source-2 : goal.overflow_add-source-2
overflow_add-source-2 c = search (parent_end, rules)

pub returns : goal.returns
returns c = search (parent_written, rules)
