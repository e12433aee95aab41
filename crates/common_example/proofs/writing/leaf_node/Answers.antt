use Rattle.common_example.proofs.loops.writing.WriteParts.{leaf_literal, leaf_free}
use borrow.Author.Rules.{rules}
use Rattle.common_example.proofs.writing.leaf_node.Goals as goal

pub returns-then-kind_at-eq-LITERAL : goal.returns-then-kind_at-eq-LITERAL
returns-then-kind_at-eq-LITERAL c = search (leaf_literal, rules)

pub returns : goal.returns
returns c = search (leaf_free, rules)
