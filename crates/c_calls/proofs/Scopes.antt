-- The scope, as the code makes it of marks and a number, and the refusals before the operation.
use Prim.Native.Nat.{ℕ, ◌≤◌}
use mathlib.Core.List.{List}
use mathlib.Core.Bool.{Bool, true, false, not}
use mathlib.Core.Path.{◌≡◌, refl}
use native.Mathlib.Omega.{arith}
use lib.Dec.{eqb}
use lib.ListN.{get_or}
use Rattle.base.proofs.Filling.{Filling, filling_ends}
use Rattle.scope.specs.declared.Scope.{Scope}
use Rattle.scope.specs.declared.MarkOutside.{MarkOutside}
use Rattle.std.specs.Prelude.{Result, Ok, Err, IsErrAnd}
use Rattle.std.proofs.lemmas.Result.{err_from_is_err_and}
use Rattle.scope.specs.Bytes.{ConvertedFrom}
use Rattle.table.specs.Tables.{Tables}
use Rattle.table.specs.Rules.{within_limits}
use Rattle.table.proofs.tests.Bools.{told_no, told_yes}
use Rattle.operation.specs.declared.numbers.OperationNumbers.{OperationNumbers}
use Rattle.operation.specs.Numbers.{are_listed}
use Rattle.c_calls.specs.declared.given.GivenRefusal.{GivenRefusal}
use Rattle.c_calls.specs.declared.given.GivenRefusal.TheVariants.{LayoutBroken, OverLimit, BreaksRules}
use Rattle.c_calls.specs.Given.{marks_of, byte_scope_of, tested_first, GivenTold}

pub marks_end : (marks : List ℕ) {here : List ℕ} {i : ℕ} → Filling (λ k. get_or marks k 0) 128 i here → 128 ≤ i → here ≡ marks_of marks
marks_end marks go le = let long = go.long in filling_ends go (omega arith)

pub scope_is :
    (marks : List ℕ)
    (scheduler : ℕ)
    {all : List ℕ}
    {r : Result Scope MarkOutside}
    → all ≡ marks_of marks
    → ConvertedFrom (record { marks = all; underscore = 0; scheduler = eqb scheduler 1 }) r
    → ConvertedFrom (byte_scope_of marks scheduler) r
scope_is marks scheduler e done = rw e at done

-- what comes before an operation
module _ (T : Tables) (o : OperationNumbers) {l : Bool} (listed : l ≡ are_listed o) where
  pub given_unlisted : (made : Result Scope MarkOutside) → not l ≡ true → GivenTold T made o (Err LayoutBroken)
  unfolding tested_first
  given_unlisted made t = record { told = rw (told_no listed t) refl; scope = tt }

  module _ (t : not l ≡ false) {w : Bool} (limits : w ≡ within_limits T) where
    pub given_over : (made : Result Scope MarkOutside) → not w ≡ true → GivenTold T made o (Err OverLimit)
    unfolding tested_first
    given_over made u = record { told = rw (told_yes listed t, told_no limits u) refl; scope = tt }

    pub given_marks : {made : Result Scope MarkOutside} {mark : MarkOutside} → not w ≡ false → made ≡ Err mark → {r : Result Scope GivenRefusal} → IsErrAnd r (λ x. x ≡ BreaksRules) → GivenTold T made o r
    unfolding tested_first
    given_marks u e {r} gives = let g = err_from_is_err_and r gives in rw (e, g.1, g.2) (record { told = rw (told_yes listed t, told_yes limits u) refl; scope = tt })

    pub given_made : {made : Result Scope MarkOutside} {s : Scope} → not w ≡ false → made ≡ Ok s → GivenTold T made o (Ok s)
    unfolding tested_first
    given_made u e = rw e (record { told = rw (told_yes listed t, told_yes limits u) refl; scope = refl })
