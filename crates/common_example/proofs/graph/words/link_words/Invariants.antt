use Rattle.common_example.proofs.loops.graph.GraphLoops.{FillingTo}
use Rattle.common_example.specs.code.arrays.Arrays.{link_word}
use Rattle.common_example.proofs.graph.words.link_words.Given as goal

abbrev pub invariant-loop-i : goal.invariant-loop-i
invariant-loop-i l = FillingTo (link_word l.ordered l.first l.second l.like) 2048 l.i l.links
