use Rattle.planner.proofs.laws.Operations.{table_refuses, sound_well, root_node}
use Rattle.some_in.proofs.Answers.{value_outside, collection_outside, goes_without, key_outside, goes_with}
use borrow.Author.Rules.{rules}
use Rattle.some_in.proofs.create_some_in_binding_plan.Goals as goal

pub returns-in-Err : goal.returns-in-Err
returns-in-Err c = search (table_refuses, rules)

pub returns-then-not-is_node : goal.returns-then-not-is_node
returns-then-not-is_node c = search (value_outside, rules)

pub returns-then-not-is_node-2 : goal.returns-then-not-is_node-2
returns-then-not-is_node-2 c = search (collection_outside, rules)

pub plan_without_key-requires : goal.plan_without_key-requires
plan_without_key-requires c = record {
  table = sound_well _ _ c.check-checked.ensures c.in_default.is;
  first = root_node _ _ c.is_node.ensures c.if-not-is_node.false-raw;
  second = root_node _ _ c.is_node-2.ensures c.if-not-is_node-2.false-raw;
}

pub returns-then-key-eq0 : goal.returns-then-key-eq0
returns-then-key-eq0 c = search (goes_without, rules)

pub returns-then-not-is_node-3 : goal.returns-then-not-is_node-3
returns-then-not-is_node-3 c = search (key_outside, rules)

pub plan_key-requires : goal.plan_key-requires
plan_key-requires c = record {
  pair = record {
    table = sound_well _ _ c.check-checked.ensures c.in_default.is;
    first = root_node _ _ c.is_node.ensures c.if-not-is_node.false-raw;
    second = root_node _ _ c.is_node-2.ensures c.if-not-is_node-2.false-raw;
  };
  node = root_node _ _ c.is_node-3.ensures c.if-not-is_node-3.false-raw;
}

pub returns : goal.returns
returns c = search (goes_with, rules)
