use Rattle.columns.proofs.read.Reading.{Reading}
use Rattle.columns.proofs.decimal.digits_number.Given as goal

abbrev pub invariant-loop-byte : goal.invariant-loop-byte
invariant-loop-byte l = Reading l.bytes l.n l.byte-index
