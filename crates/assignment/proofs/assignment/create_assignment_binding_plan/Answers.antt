use Rattle.assignment.proofs.laws.Sides.{left_outside, right_outside, both_inside}
use Rattle.planner.proofs.laws.Operations.{table_refuses, sound_well, root_node}
use borrow.Author.Rules.{rules}
use Rattle.assignment.proofs.assignment.create_assignment_binding_plan.Goals as goal

pub returns-in-Err : goal.returns-in-Err
returns-in-Err c = search (table_refuses, rules)

pub returns-then-not-is_node : goal.returns-then-not-is_node
returns-then-not-is_node c = search (left_outside, rules)

pub returns-then-not-is_node-2 : goal.returns-then-not-is_node-2
returns-then-not-is_node-2 c = search (right_outside, rules)

pub plan_assignment-requires : goal.plan_assignment-requires
plan_assignment-requires c = record {
  table = sound_well _ _ c.check-checked.ensures c.in_default.is;
  first = root_node _ _ c.is_node.ensures c.if-not-is_node.false-raw;
  second = root_node _ _ c.is_node-2.ensures c.if-not-is_node-2.false-raw;
}

pub returns : goal.returns
returns c = search (both_inside, rules)
