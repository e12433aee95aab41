-- What a sheet's operation comes to, and its answer and plan in a lent buffer.
use Rattle.std.specs.Prelude.{ℕ, List, ◌≡◌}
use Rattle.planner.specs.Operations.{Outcome, refused, answered, written}
use Rattle.operation.specs.declared.row.Row.{Row}
use Rattle.operation.specs.Rows.{row_line}
use Rattle.operation.specs.Operation.{operation_outcome}
use Rattle.operation.specs.Numbers.{operation_of}
use Rattle.sheet.specs.Sheet.{Sheet, Parsed, unparsed, parsed, scope_of}

abbrev pub outcome_of : Sheet → Outcome
outcome_of S = operation_outcome S.held (scope_of S.operation S.marks) (operation_of S.operation)

abbrev pub outcome_of_sheet : Parsed → Outcome
outcome_of_sheet (unparsed r) = refused r
outcome_of_sheet (parsed S) = outcome_of S

-- the answer's four numbers, and the buffer at entry and at exit
pub record PlannedInto (o : Outcome) (before after : List ℕ) (r : Row) : Type 0 where
  pub answer : row_line r ≡ answered o before
  pub buffer : after ≡ written o before
