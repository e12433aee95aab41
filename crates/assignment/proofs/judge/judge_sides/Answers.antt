use Rattle.assignment.proofs.judge.Judgements.{judge_neither, judge_as_whole, judge_items, judge_keys, judge_opposed}
use borrow.Author.Rules.{rules}
use Rattle.assignment.proofs.judge.judge_sides.Goals as goal

pub returns-then-not-either : goal.returns-then-not-either
returns-then-not-either c = search (judge_neither, rules)

pub returns-in-Whole : goal.returns-in-Whole
returns-in-Whole c = search (judge_as_whole, rules)

pub returns-in-Items : goal.returns-in-Items
returns-in-Items c = search (judge_items, rules)

pub returns-in-ByKey : goal.returns-in-ByKey
returns-in-ByKey c = search (judge_keys, rules)

pub returns-in-Opposed : goal.returns-in-Opposed
returns-in-Opposed c = search (judge_opposed, rules)
