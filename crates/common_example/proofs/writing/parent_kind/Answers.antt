use Rattle.common_example.proofs.loops.writing.WriteParts.{array_own, object_own}
use borrow.Author.Rules.{rules}
use Rattle.common_example.proofs.writing.parent_kind.Goals as goal

pub returns-in-Items : goal.returns-in-Items
returns-in-Items c = search (array_own, rules)

pub returns-in-Fields : goal.returns-in-Fields
returns-in-Fields c = search (object_own, rules)
