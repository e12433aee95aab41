use Rattle.planner.proofs.buffer.Filling.{Filling}
use Rattle.operation.specs.code.Reserved.{reserved_state_at}
use Rattle.operation.proofs.version.reserved_states.Given as goal

abbrev pub invariant-loop-i : goal.invariant-loop-i
invariant-loop-i l = Filling (reserved_state_at l.names l.text l.states) 128 l.i l.reserved
