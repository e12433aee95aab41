use Rattle.common_example.proofs.arrays.Unifying.{patterns_roots, patterns_unified}
use borrow.Author.Rules.{rules}
use Rattle.common_example.proofs.unifying.unify_patterns.Goals as goal

pub unify_roots-requires : goal.unify_roots-requires
unify_roots-requires c = search (patterns_roots, rules)

pub returns : goal.returns
returns c = search (patterns_unified, rules)
