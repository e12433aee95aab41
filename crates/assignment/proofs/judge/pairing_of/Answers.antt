use Rattle.assignment.proofs.judge.PairShapes.{pairing_items, pairing_array_object, pairing_array, pairing_object_array, pairing_objects, pairing_object, pairing_single}
use borrow.Author.Rules.{rules}
use Rattle.assignment.proofs.judge.pairing_of.Goals as goal

pub returns-then-right_kind-eq-ARRAY : goal.returns-then-right_kind-eq-ARRAY
returns-then-right_kind-eq-ARRAY c = search (pairing_items, rules)

pub returns-then-right_kind-eq-OBJECT : goal.returns-then-right_kind-eq-OBJECT
returns-then-right_kind-eq-OBJECT c = search (pairing_array_object, rules)

pub returns-then-left_kind-eq-ARRAY : goal.returns-then-left_kind-eq-ARRAY
returns-then-left_kind-eq-ARRAY c = search (pairing_array, rules)

pub returns-then-right_kind-eq-ARRAY-2 : goal.returns-then-right_kind-eq-ARRAY-2
returns-then-right_kind-eq-ARRAY-2 c = search (pairing_object_array, rules)

pub returns-then-right_kind-eq-OBJECT-2 : goal.returns-then-right_kind-eq-OBJECT-2
returns-then-right_kind-eq-OBJECT-2 c = search (pairing_objects, rules)

pub returns-then-left_kind-eq-OBJECT : goal.returns-then-left_kind-eq-OBJECT
returns-then-left_kind-eq-OBJECT c = search (pairing_object, rules)

pub returns : goal.returns
returns c = search (pairing_single, rules)
