use Rattle.first_miss.proofs.nodes.WalkNodes.{no_object, ask_keys, ask_back, object_missing, object_other, objects_alike}
use borrow.Author.Rules.{rules}
use Rattle.first_miss.proofs.walking.walk_object.Goals as goal

pub returns-then-kind_of-ne-OBJECT : goal.returns-then-kind_of-ne-OBJECT
returns-then-kind_of-ne-OBJECT c = search (no_object, rules)

pub missing_key-requires : goal.missing_key-requires
missing_key-requires c = search (ask_keys, rules)

pub returns-in-Some : goal.returns-in-Some
returns-in-Some c = search (object_missing, rules)

pub other_key-requires : goal.other_key-requires
other_key-requires c = search (ask_back, rules)

pub returns-in-Some-other_key : goal.returns-in-Some-other_key
returns-in-Some-other_key c = search (object_other, rules)

pub returns : goal.returns
returns c = search (objects_alike, rules)
