-- Refusals that end an operation before its plan.
use Rattle.base.specs.Refusal.{array_length_mismatch, object_literal_keys_mismatch}
use Rattle.planner.specs.Operations.{Outcome, refused}
use Rattle.checks.specs.declared.LiteralStructureCheck.{LiteralStructureCheck}
use Rattle.checks.specs.declared.LiteralStructureCheck.TheVariants.{Match, Unknown, ArrayMismatch, ObjectMismatch}

-- a mismatch refuses, anything else goes on
abbrev pub unless_mismatch : LiteralStructureCheck → Outcome → Outcome
unless_mismatch Match o = o
unless_mismatch Unknown o = o
unless_mismatch (ArrayMismatch value expected actual) o = refused (array_length_mismatch value expected actual)
unless_mismatch (ObjectMismatch value pattern) o = refused (object_literal_keys_mismatch value pattern)
