use Rattle.common_example.proofs.loops.writing.WriteLoops.{keys_one, keys_none}
use Rattle.common_example.proofs.loops.graph.PartsTold.{fields_step, items_keyless}
use borrow.Author.Rules.{rules}
use Rattle.common_example.proofs.writing.key_count.Goals as goal

pub returns-in-Fields : goal.returns-in-Fields
returns-in-Fields c = keys_one _ (fields_step (search rules))

pub returns-in-Items : goal.returns-in-Items
returns-in-Items c = keys_none _ (items_keyless (search rules))
