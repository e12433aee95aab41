-- The run with tolerances: its four numbers, that they fit in the words, and the call.
use Prim.Native.Nat.{ℕ, ◌≤◌}
use mathlib.Core.Path.{◌≡◌, sym, ap, subst, ◌∙◌}
use mathlib.Core.List.{List}
use mathlib.Core.Logic.{inl, inr}
use mathlib.Core.Bool.{Bool, true, false, cond}
use native.Mathlib.Omega.{arith}
use lib.Dec.{T as True}
use lib.ListN.{length, replicate}
use Rattle.base.specs.Refusal.{plan_too_large, require_or, Line, tested_or, Tested, range_wrong, refusal_line}
use Rattle.scope.specs.declared.Scope.{Scope}
use Rattle.scope.specs.declared.ScopingMode.{ScopingMode}
use Rattle.scope.specs.declared.MarkOutside.{MarkOutside}
use Rattle.scope.specs.Bytes.{ConvertedFrom}
use Rattle.table.specs.Tables.{Tables}
use Rattle.planner.specs.Layout.{top, entries}
use Rattle.planner.specs.Operations.{plan_of, fits}
use Rattle.planner.specs.Short.{ShortLine}
use Rattle.planner.proofs.laws.ShortOutcomes.{short}
use Rattle.operation.specs.declared.numbers.OperationNumbers.{OperationNumbers}
use Rattle.operation.specs.declared.row.Row.{Row}
use Rattle.operation.specs.Numbers.{scoping_of}
use Rattle.operation.specs.Rows.{row_line, Told}
use Rattle.std.proofs.Common.{Result, Ok, Err}
use Rattle.run.specs.declared.RunRefusal.{RunRefusal}
use Rattle.run.specs.Answer.{run_refusal}
use Rattle.run.specs.Operations.{RunOutcome, run_outcome}
use Rattle.tolerance.specs.declared.ToleranceAnswer.{ToleranceAnswer}
use Rattle.tolerance.specs.declared.ToleranceRefusal.{ToleranceRefusal}
use Rattle.tolerance.specs.declared.ToleranceRefusal.TheVariants.{Run}
use Rattle.tolerance.specs.Tolerance.{Answer, always, sometimes, never}
use Rattle.tolerance.specs.Answer.{turned_back_lem, answers, tolerance_result_of}
use Rattle.tolerance.specs.Operations as Tolerance
use Rattle.tolerance.specs.Operations.{ToleranceOutcome, judged, after_checks, with_lowest, ranges_ok, tolerance_outcome, tolerance_result, plan_left, values_left, is_judged, Judged}
use Rattle.run.proofs.Refusing.{run_passed, Verdict, verdict}
use Rattle.c_calls.specs.declared.given.GivenRefusal.{GivenRefusal}
use Rattle.c_calls.specs.Given.{byte_scope_of, scope_of, pattern_numbers, given_first, given_refused, GivenTold}
use Rattle.c_calls.specs.Calls.{names_set}
use Rattle.c_calls.specs.Tolerating.{tolerance_line, tolerance_call, Tolerated}
use Rattle.c_calls.proofs.Shortness.{ShortRun, run_outcome_short}
use Rattle.c_calls.proofs.Called.{pattern_refused, pattern_passed, pattern_scope}

-- 1. The four numbers
pub tolerance_is : (answer : Result ToleranceAnswer ToleranceRefusal) {a : Result ToleranceAnswer ToleranceRefusal} {l : Line} → answer ≡ a → l ≡ tolerance_line (tolerance_result_of a) → l ≡ tolerance_line (tolerance_result_of answer)
tolerance_is answer e is = rw e is

pub tolerance_run : (answer : Result ToleranceAnswer ToleranceRefusal) {x : RunRefusal} {l : Line} → answer ≡ Err (Run x) → l ≡ refusal_line (run_refusal x) → l ≡ tolerance_line (tolerance_result_of answer)
tolerance_run answer e is = rw e is

-- 2. They fit in the words
module _ (T : Tables) (s : Scope) (mode : ScopingMode) (pattern value : ℕ) (values lows highs : List ℕ) (a : Answer) (buffer : List ℕ) where
  abbrev behind : Bool → ToleranceOutcome
  behind b = require_or Tolerance.refused b range_wrong (judged (entries (plan_of T s mode pattern) top) a (with_lowest T s mode pattern value values lows highs))

  abbrev Short : ToleranceOutcome → Type 0
  Short o = ShortLine (tolerance_line (tolerance_result o buffer))

  answer_short : (b : Answer) → ShortLine (tolerance_line (answers b))
  answer_short always = short (omega arith) (omega arith) (omega arith) (omega arith)
  answer_short sometimes = short (omega arith) (omega arith) (omega arith) (omega arith)
  answer_short never = short (omega arith) (omega arith) (omega arith) (omega arith)

  behind_short : length (entries (plan_of T s mode pattern) top) ≤ 512 → (b : Bool) → Short (behind b)
  unfolding tolerance_result
  behind_short few true = go (fits (entries (plan_of T s mode pattern) top) buffer)
    where
      go : (b : Bool) → ShortLine (tolerance_line (cond b (answers a) (turned_back_lem (plan_too_large (length (entries (plan_of T s mode pattern) top))))))
      go true = answer_short a
      go false = short (omega arith) (omega arith) (omega arith) (omega arith)
  behind_short few false = short (omega arith) (omega arith) (omega arith) (omega arith)

  tolerance_short : Short (tolerance_outcome T s mode pattern value values lows highs a)
  unfolding tolerance_result
  tolerance_short = go (verdict T s mode pattern value values)
    where
      go : Verdict T s mode pattern value values (run_outcome T s mode pattern value values) → Short (tolerance_outcome T s mode pattern value values lows highs a)
      go (inl x) =
          subst (λ (o : RunOutcome). Short (after_checks o (behind (ranges_ok T s mode value values lows highs)))) (sym x.is)
          (subst ShortRun x.is (run_outcome_short T s mode pattern value values))
      go (inr asks) =
          subst (λ (o : RunOutcome). Short (after_checks o (behind (ranges_ok T s mode value values lows highs)))) (sym (run_passed asks))
          (behind_short (subst ShortRun (run_passed asks) (run_outcome_short T s mode pattern value values)) (ranges_ok T s mode value values lows highs))

pub tolerance_fits : (T : Tables) (s : Scope) (mode : ScopingMode) (pattern value : ℕ) {values lows highs buffer valuesExit bufferExit : List ℕ} {answer : Result ToleranceAnswer ToleranceRefusal} {row : Row}
    → Judged T s mode pattern value values lows highs buffer valuesExit bufferExit answer → row_line row ≡ tolerance_line (tolerance_result_of answer) → ShortLine (row_line row)
tolerance_fits T s mode pattern value {values} {lows} {highs} {buffer} j is =
    subst ShortLine (sym (is ∙ ap tolerance_line j.told)) (tolerance_short T s mode pattern value values lows highs j.answer buffer)

-- 3. The call
by_first : (T : Tables) (marks : List ℕ) (scheduler scoping pattern value : ℕ) (values lows highs : List ℕ) (a : Answer) {t : Tested} → given_first T marks (pattern_numbers scheduler scoping pattern) ≡ t
    → tolerance_call T marks scheduler scoping pattern value values lows highs a ≡ tested_or Tolerance.refused t (tolerance_outcome T (scope_of marks scheduler) (scoping_of scoping) pattern value values lows highs a)
by_first T marks scheduler scoping pattern value values lows highs a =
    ap (λ (t : Tested). tested_or Tolerance.refused t (tolerance_outcome T (scope_of marks scheduler) (scoping_of scoping) pattern value values lows highs a))

module _ (T : Tables) (marks : List ℕ) (scheduler scoping pattern : ℕ) {o : OperationNumbers} (asked : o ≡ pattern_numbers scheduler scoping pattern) {made : Result Scope MarkOutside}
    (from : ConvertedFrom (byte_scope_of marks scheduler) made) {given : Result Scope GivenRefusal} (told : GivenTold T made o given) (value : ℕ) {values lows highs buffer : List ℕ} where
  pub tolerance_refused : {x : GivenRefusal} {bufferExit words wordsExit : List ℕ} {r : ℕ} → given ≡ Err x → bufferExit ≡ replicate (length buffer) 0 → Told (refusal_line (given_refused x)) words wordsExit r
      → Tolerated T marks scheduler scoping pattern value values lows highs buffer words values bufferExit wordsExit r
  unfolding tolerance_result plan_left values_left
  tolerance_refused {words = words} {wordsExit = wordsExit} {r = r} e zeros done =
      let q = by_first T marks scheduler scoping pattern value values lows highs never (pattern_refused T marks scheduler scoping pattern asked from told e) in
      record {
        answer = never;
        means = λ t. absurd (subst (λ (o : ToleranceOutcome). True (is_judged o)) q t);
        told = subst (λ (l : Line). Told l words wordsExit r) (sym (ap (λ (o : ToleranceOutcome). tolerance_line (tolerance_result o buffer)) q)) done;
        plan = zeros ∙ sym (ap (λ (o : ToleranceOutcome). plan_left o buffer) q);
        list = sym (ap (λ (o : ToleranceOutcome). values_left (names_set T marks scheduler scoping pattern) o buffer values) q);
      }

  pub tolerance_done : {valuesExit bufferExit words wordsExit : List ℕ} {mode : ScopingMode} {answer : Result ToleranceAnswer ToleranceRefusal} {row : Row} {r : ℕ} {s : Scope} → given ≡ Ok s → mode ≡ scoping_of scoping
      → Judged T s mode pattern value values lows highs buffer valuesExit bufferExit answer → row_line row ≡ tolerance_line (tolerance_result_of answer) → Told (row_line row) words wordsExit r
      → Tolerated T marks scheduler scoping pattern value values lows highs buffer words valuesExit bufferExit wordsExit r
  tolerance_done {valuesExit} {bufferExit} {words} {wordsExit} {r = r} g m j is done =
      let was = rw (pattern_scope T marks scheduler scoping pattern asked from told g, m) at j in
      let q = by_first T marks scheduler scoping pattern value values lows highs was.answer (pattern_passed T marks scheduler scoping pattern asked from told g) in
      record {
        answer = was.answer;
        means = λ t. was.means (subst (λ (o : ToleranceOutcome). True (is_judged o)) q t);
        told = subst (λ (l : Line). Told l words wordsExit r) (is ∙ (ap tolerance_line was.told ∙ sym (ap (λ (o : ToleranceOutcome). tolerance_line (tolerance_result o buffer)) q))) done;
        plan = was.plan ∙ sym (ap (λ (o : ToleranceOutcome). plan_left o buffer) q);
        list = was.list ∙ sym (ap (λ (o : ToleranceOutcome). values_left (names_set T marks scheduler scoping pattern) o buffer values) q);
      }
