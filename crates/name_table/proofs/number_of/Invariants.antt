use Rattle.name_table.proofs.Cases.{Seeking}
use Rattle.name_table.proofs.number_of.Given as goal

abbrev pub invariant-loop-name : goal.invariant-loop-name
invariant-loop-name l = Seeking l.names l.text l.bytes l.used l.name
