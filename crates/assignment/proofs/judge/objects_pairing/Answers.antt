use Rattle.assignment.proofs.judge.PairShapes.{objects_left, objects_right, objects_both}
use borrow.Author.Rules.{rules}
use Rattle.assignment.proofs.judge.objects_pairing.Goals as goal

pub returns-then-not-literal_keys : goal.returns-then-not-literal_keys
returns-then-not-literal_keys c = search (objects_left, rules)

pub returns-then-not-literal_keys-2 : goal.returns-then-not-literal_keys-2
returns-then-not-literal_keys-2 c = search (objects_right, rules)

pub returns : goal.returns
returns c = search (objects_both, rules)
