-- The call that says which rule of the tables is broken: the answer's numbers in the lent words, and that the number is the other calls'.
use Rattle.std.specs.Prelude.{ℕ, ◌≡◌, true, List}
use Rattle.base.specs.Lent.{Slices, MutSlices, old, new}
use Rattle.base.specs.Refusal.{refused, tested_or}
use Rattle.table.specs.Tables.{Tables}
use Rattle.table.specs.Check.{checked}
use Rattle.table_fault.specs.Fault.{fault_of, fault_line}
use Rattle.table_fault.specs.Promise.{fault_tested}
use Rattle.operation.specs.declared.numbers.OperationNumbers.{OperationNumbers}
use Rattle.operation.specs.Numbers.{are_listed}
use Rattle.operation.specs.Rows.{Told}
use Rattle.c_calls.specs.Given.{scope_of, given_first}

-- the check's number, the rule's, the place, 0
abbrev pub FaultCalledIn : MutSlices → Tables → Slices → ℕ → Type 0
FaultCalledIn answer T marks r = Told (fault_line (fault_of T marks.entry.now)) (old answer) (new answer) r

-- Where a call's other numbers are listed, it is refused for these tables and marks exactly where there is a fault, with its number.
pub record FaultCallPromise (T : Tables) (marks : List ℕ) : Type 0 where
  pub number : (o : OperationNumbers) → are_listed o ≡ true → fault_tested (fault_of T marks) ≡ tested_or refused (given_first T marks o) (checked T (scope_of marks o.scheduler))
