use Rattle.common_example.proofs.loops.SideChecks.{root_outside_lem, list_short, ask_inside, inside_end}
use borrow.Author.Rules.{rules}
use Rattle.common_example.proofs.sides.check_root.Goals as goal

pub returns-then-not-is_node : goal.returns-then-not-is_node
returns-then-not-is_node c = search (root_outside_lem, rules)

pub returns-then-values-tables : goal.returns-then-values-tables
returns-then-values-tables c = search (list_short, rules)

pub check_inside-requires : goal.check_inside-requires
check_inside-requires c = ask_inside _ _ _ _ c.requires c.is_node.ensures c.if-not-is_node.false-raw c.if-values-tables.false

pub returns : goal.returns
returns c = search (inside_end, rules)
