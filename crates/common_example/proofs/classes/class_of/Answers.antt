use Rattle.common_example.proofs.loops.classes.ClassLoop.{class_told}
use borrow.Author.Rules.{rules}
use Rattle.common_example.proofs.classes.class_of.Goals as goal

pub returns : goal.returns
returns c = search (class_told, rules)
