use Rattle.common_example.proofs.loops.graph.GraphLoops.{link_first, link_second, link_like}
use borrow.Author.Rules.{rules}
use Rattle.common_example.proofs.graph.words.link_word.Goals as goal

pub returns-then-way-eq0 : goal.returns-then-way-eq0
returns-then-way-eq0 c = search (link_first, rules)

pub returns-then-way-eq1 : goal.returns-then-way-eq1
returns-then-way-eq1 c = search (link_second, rules)

pub returns : goal.returns
returns c = search (link_like, rules)
