use Rattle.planner.proofs.laws.Operations.{good_root, table_refuses, root_refuses, goes_on}
use borrow.Author.Rules.{rules}
use Rattle.planner.proofs.destructuring.create_plan.Goals as goal

pub returns-in-Err : goal.returns-in-Err
returns-in-Err c = search (table_refuses, rules)

pub returns-then-not-is_node : goal.returns-then-not-is_node
returns-then-not-is_node c = search (root_refuses, rules)

pub deliver_pattern-requires : goal.deliver_pattern-requires
deliver_pattern-requires c = search (good_root, rules)

pub returns : goal.returns
returns c = search (goes_on, rules)
