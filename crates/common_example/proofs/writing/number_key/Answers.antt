use Rattle.common_example.proofs.loops.writing.WriteLoops.{numbered, unnumbered}
use Rattle.common_example.proofs.loops.graph.PartsTold.{fields_step, items_keyless}
use borrow.Author.Rules.{rules}
use Rattle.common_example.proofs.writing.number_key.Goals as goal

pub returns-in-Fields : goal.returns-in-Fields
returns-in-Fields c = search (numbered, fields_step, rules)

pub returns-in-Items : goal.returns-in-Items
returns-in-Items c = unnumbered _ _ _ _ (items_keyless (search rules))
