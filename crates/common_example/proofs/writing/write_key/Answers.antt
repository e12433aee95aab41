use Rattle.common_example.proofs.loops.writing.WriteWords.{key_link, key_asks, key_written, key_none}
use Rattle.common_example.proofs.loops.graph.PartsTold.{fields_step, items_keyless}
use borrow.Author.Rules.{rules}
use Rattle.common_example.proofs.writing.write_key.Goals as goal

pub overflow_sub-link : goal.overflow_sub-link
overflow_sub-link c = search (key_link, fields_step, rules)

pub write_literal-requires : goal.write_literal-requires
write_literal-requires c = search (key_asks, fields_step, rules)

pub returns-in-Fields : goal.returns-in-Fields
returns-in-Fields c = search (key_written, fields_step, rules)

pub returns-in-Items : goal.returns-in-Items
returns-in-Items c = key_none _ _ c.requires (items_keyless (search rules))
