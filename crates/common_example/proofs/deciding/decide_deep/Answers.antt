use Rattle.common_example.proofs.loops.sizes.Decisions.{deep_settles, deep_inside, deep_none, deep_large}
use borrow.Author.Rules.{rules}
use Rattle.common_example.proofs.deciding.decide_deep.Goals as goal

pub settle-requires : goal.settle-requires
settle-requires c = search (deep_settles, rules)

pub size_at-requires : goal.size_at-requires
size_at-requires c = search (deep_inside, rules)

pub returns-then-size_at-eq0 : goal.returns-then-size_at-eq0
returns-then-size_at-eq0 c = search (deep_none, rules)

pub returns : goal.returns
returns c = search (deep_large, rules)
