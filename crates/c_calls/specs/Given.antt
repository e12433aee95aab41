-- What a C host gives beside the tables: marks as bytes, the operation as the six numbers of a sheet's line 2.
use Rattle.std.specs.Prelude.{ℕ, ◌≡◌, false, List, eqb, get_or, Result, Ok, Err, IfOk}
use Rattle.std.specs.Result.{result_unwrap_or}
use Rattle.base.specs.Lists.{tabulate}
use Rattle.base.specs.Refusal.{Refusal, over_limit, breaks_rules, layout_broken, not_a_body, Tested, passed, refused, require}
use Rattle.scope.specs.declared.Scope.{Scope}
use Rattle.scope.specs.declared.ByteScope.{ByteScope}
use Rattle.scope.specs.declared.MarkOutside.{MarkOutside}
use Rattle.scope.specs.Bytes.{of_bytes, conversion_of, convertible}
use Rattle.scope.specs.Scope.{new_scope}
use Rattle.table.specs.Tables.{Tables}
use Rattle.table.specs.Rules.{within_limits}
use Rattle.operation.specs.declared.numbers.OperationNumbers.{OperationNumbers}
use Rattle.operation.specs.Numbers.{are_listed}
use Rattle.c_calls.specs.declared.given.GivenRefusal.{GivenRefusal}
use Rattle.c_calls.specs.declared.given.GivenRefusal.TheVariants.{LayoutBroken, NotABody, OverLimit, BreaksRules}

-- the first 128 marks, 0 past the lent ones
abbrev pub marks_of : List ℕ → List ℕ
marks_of marks = tabulate (λ i. get_or marks i 0) 0 128

-- Planning, run and report tell `_` by its bytes, so the scope's number of `_` makes no difference, and is 0.
abbrev pub byte_scope_of : List ℕ → ℕ → ByteScope
byte_scope_of marks scheduler = record { marks = marks_of marks; underscore = 0; scheduler = eqb scheduler 1 }

abbrev pub scope_of : List ℕ → ℕ → Scope
scope_of marks scheduler = of_bytes (byte_scope_of marks scheduler)

-- the scope of a conversion, or an empty one in its place, which nothing reads
abbrev pub given_scope : Result Scope MarkOutside → Scope
given_scope made = result_unwrap_or made (new_scope 0 false)

abbrev pub given_numbers : ℕ → ℕ → ℕ → ℕ → ℕ → ℕ → OperationNumbers
given_numbers operation scheduler scoping first second key =
    record { number = operation; scheduler = scheduler; scoping = scoping; first = first; second = second; key = key }

-- Run and the names report are of a pattern, whose operation is 1.
abbrev pub pattern_numbers : ℕ → ℕ → ℕ → OperationNumbers
pattern_numbers scheduler scoping pattern = given_numbers 1 scheduler scoping pattern 0 0

-- What comes before the operation, in document 01's order: 7 for numbers that are not listed, as on a sheet, then 1 of the table check, then what
-- the conversion of the marks says, its 2. All else of the table check is the operation's.
unfoldable pub tested_first : Tables → Tested → OperationNumbers → Tested
tested_first T made o = require (are_listed o) layout_broken (require (within_limits T) over_limit made)

abbrev pub given_first : Tables → List ℕ → OperationNumbers → Tested
given_first T marks o = tested_first T (convertible (byte_scope_of marks o.scheduler)) o

-- what the code says of it
abbrev pub given_refused : GivenRefusal → Refusal
given_refused LayoutBroken = layout_broken
given_refused NotABody = not_a_body
given_refused OverLimit = over_limit
given_refused BreaksRules = breaks_rules

abbrev pub given_tested : {A : Type 0} → Result A GivenRefusal → Tested
given_tested (Ok a) = passed
given_tested (Err r) = refused (given_refused r)

-- the refusal, or the scope that the marks were made into
pub record GivenTold (T : Tables) (made : Result Scope MarkOutside) (o : OperationNumbers) (r : Result Scope GivenRefusal) : Type 0 where
  pub told : given_tested r ≡ tested_first T (conversion_of made) o
  pub scope : IfOk r (λ s. made ≡ Ok s)
