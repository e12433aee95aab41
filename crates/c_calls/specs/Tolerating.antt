-- The run with tolerances over tables: what is given beside the tables is tested first, as for a run; sometimes is 101 and never 100.
use Rattle.std.specs.Prelude.{ℕ, ◌≡◌, List, T as True}
use Rattle.base.specs.Lent.{Slices, MutSlices, old, new}
use Rattle.base.specs.Refusal.{Line, line, refusal_line, tested_or}
use Rattle.table.specs.Tables.{Tables}
use Rattle.operation.specs.Numbers.{scoping_of}
use Rattle.operation.specs.Rows.{Told}
use Rattle.tolerance.specs.Tolerance.{Answer, always, sometimes, never}
use Rattle.tolerance.specs.Answer.{ToleranceResult, turned_back_lem, answers}
use Rattle.tolerance.specs.Operations as Tolerance
use Rattle.tolerance.specs.Operations.{ToleranceOutcome, IsAnswer, tolerance_outcome, tolerance_result, plan_left, values_left, is_judged}
use Rattle.c_calls.specs.Given.{scope_of, pattern_numbers, given_first}
use Rattle.c_calls.specs.Calls.{names_set}

abbrev pub tolerance_line : ToleranceResult → Line
tolerance_line (turned_back_lem r) = refusal_line r
tolerance_line (answers always) = line 0 0 0 0
tolerance_line (answers sometimes) = line 101 0 0 0
tolerance_line (answers never) = line 100 0 0 0

module _ (T : Tables) (marks : List ℕ) (scheduler scoping pattern value : ℕ) (values lows highs : List ℕ) where
  abbrev pub tolerance_call : Answer → ToleranceOutcome
  tolerance_call a =
      tested_or Tolerance.refused (given_first T marks (pattern_numbers scheduler scoping pattern))
      (tolerance_outcome T (scope_of marks scheduler) (scoping_of scoping) pattern value values lows highs a)

  -- some answer is the one that the choices give, and with it all that is lent afterwards is told
  pub record Tolerated (buffer words valuesExit bufferExit wordsExit : List ℕ) (r : ℕ) : Type 0 where
    pub answer : Answer
    pub means : True (is_judged (tolerance_call answer)) → IsAnswer T (scope_of marks scheduler) (scoping_of scoping) pattern value values lows highs answer
    pub told : Told (tolerance_line (tolerance_result (tolerance_call answer) buffer)) words wordsExit r
    pub plan : bufferExit ≡ plan_left (tolerance_call answer) buffer
    pub list : valuesExit ≡ values_left (names_set T marks scheduler scoping pattern) (tolerance_call answer) buffer values

abbrev pub ToleratedIn : MutSlices → Slices → Slices → MutSlices → MutSlices → Tables → Slices → ℕ → ℕ → ℕ → ℕ → ℕ → Type 0
ToleratedIn values lows highs plan answer T marks scheduler scoping pattern value r =
    Tolerated T marks.entry.now scheduler scoping pattern value (old values) lows.entry.now highs.entry.now (old plan) (old answer) (new values) (new plan) (new answer) r
