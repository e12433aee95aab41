use Rattle.table.specs.Decode.{literal_node}
use Rattle.checks.proofs.TextLoops.{Agreeing}
use Rattle.checks.proofs.texts.same_texts.Given as goal

abbrev pub invariant-loop-q : goal.invariant-loop-q
invariant-loop-q l = Agreeing (literal_node l.nodes l.numbers l.strings l.text) l.a l.m l.b l.n l.q
