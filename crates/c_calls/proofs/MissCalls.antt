-- The first miss: its four numbers, that they fit in the words, and the call.
use Prim.Native.Nat.{ℕ, ◌≤◌}
use mathlib.Core.Path.{◌≡◌, refl, sym, ap, subst, ◌∙◌}
use mathlib.Core.List.{List}
use mathlib.Core.Logic.{inl, inr}
use native.Mathlib.Omega.{arith}
use lib.Dec.{T as True}
use Rattle.base.specs.Lists.{elem}
use Rattle.base.specs.Refusal.{Line, line, tested_or, Tested, refusal_line}
use Rattle.scope.specs.declared.Scope.{Scope}
use Rattle.scope.specs.declared.ScopingMode.{ScopingMode}
use Rattle.scope.specs.declared.MarkOutside.{MarkOutside}
use Rattle.scope.specs.Bytes.{ConvertedFrom}
use Rattle.table.specs.Tables.{Tables}
use Rattle.table.specs.Decode.{expr}
use Rattle.table.specs.Expr.{parts}
use Rattle.table.specs.code.Sound.{Node}
use Rattle.table.proofs.trees.Forest.{parts_within}
use Rattle.planner.specs.Short.{ShortLine}
use Rattle.planner.proofs.laws.ShortOutcomes.{short}
use Rattle.value.proofs.Keys.{is_true}
use Rattle.operation.specs.declared.numbers.OperationNumbers.{OperationNumbers}
use Rattle.operation.specs.declared.row.Row.{Row}
use Rattle.operation.specs.Numbers.{scoping_of}
use Rattle.operation.specs.Rows.{row_line, Told}
use Rattle.std.proofs.Common.{Option, Result, Ok, Err}
use Rattle.run.specs.declared.RunRefusal.{RunRefusal}
use Rattle.run.specs.Answer.{run_refusal}
use Rattle.run.specs.Operations.{RunOutcome, run_outcome}
use Rattle.run.specs.code.Post.{RunAsks}
use Rattle.run.proofs.Running.{run_table}
use Rattle.run.proofs.Refusing.{Verdict, verdict}
use Rattle.first_miss.specs.declared.Why.{Why}
use Rattle.first_miss.specs.declared.Why.TheVariants.{NameDiffers, LiteralDiffers, NoArray, OtherLength, NoObject, KeyMissing, KeyTooMany}
use Rattle.first_miss.specs.declared.Miss.{Miss}
use Rattle.first_miss.specs.Miss.{MissOutcome, matched, missed, fault}
use Rattle.first_miss.specs.Answer.{MissResult, turned_back_lem, no_match_lem, miss_result_of}
use Rattle.first_miss.specs.Operations.{carried_result, after_checks, miss_found, miss_result, MissTold}
use Rattle.first_miss.proofs.Answered.{no_fault, result_is}
use Rattle.first_miss.proofs.Promised.{promised}
use Rattle.c_calls.specs.declared.given.GivenRefusal.{GivenRefusal}
use Rattle.c_calls.specs.Given.{byte_scope_of, scope_of, pattern_numbers, given_first, given_refused, GivenTold}
use Rattle.c_calls.specs.Misses.{why_number, miss_line, miss_call, MissCalled}
use Rattle.c_calls.proofs.Shortness.{ShortRun, run_outcome_short}
use Rattle.c_calls.proofs.Called.{pattern_refused, pattern_passed, pattern_scope}

-- 1. The four numbers
pub miss_is : (answer : Result (Option Miss) RunRefusal) {a : Result (Option Miss) RunRefusal} {l : Line} → answer ≡ a → l ≡ miss_line (miss_result_of a) → l ≡ miss_line (miss_result_of answer)
miss_is answer e is = rw e is

pub missed_is : (m : Miss) {n : ℕ} {l : Line} → n ≡ why_number m.why → l ≡ line 100 m.value m.pattern n → l ≡ miss_line (no_match_lem m)
missed_is m n is = is ∙ ap (line 100 m.value m.pattern) n

pub miss_run : (answer : Result (Option Miss) RunRefusal) {x : RunRefusal} {l : Line} → answer ≡ Err x → l ≡ refusal_line (run_refusal x) → l ≡ miss_line (miss_result_of answer)
miss_run answer e is = rw e is

-- 2. They fit in the words
why_small : (w : Why) → why_number w ≤ 7
why_small NameDiffers = omega arith
why_small LiteralDiffers = omega arith
why_small NoArray = omega arith
why_small OtherLength = omega arith
why_small NoObject = omega arith
why_small KeyMissing = omega arith
why_small KeyTooMany = omega arith

module _ (T : Tables) (s : Scope) (mode : ScopingMode) (pattern value : ℕ) (values : List ℕ) where
  abbrev Short : MissResult → Type 0
  Short o = ShortLine (miss_line o)

  few : (a : RunAsks T s mode pattern value values) (n m : ℕ) → Node T n → True (elem m (parts (expr T n))) → m ≤ 512
  few a n m v t =
      let w = run_table a in
      let p = (parts_within T w n v m (is_true t)).1 in
      let l = w.limits.nodes in
      let h = v.high in
      omega arith

  miss_short : Short (miss_result T s mode pattern value values)
  miss_short = go (verdict T s mode pattern value values)
    where
      go : Verdict T s mode pattern value values (run_outcome T s mode pattern value values) → Short (miss_result T s mode pattern value values)
      go (inl x) =
          subst (λ (o : RunOutcome). Short (after_checks o (carried_result (miss_found T s mode pattern value values)))) (sym x.is)
          (subst ShortRun x.is (run_outcome_short T s mode pattern value values))
      go (inr a) = by (miss_found T s mode pattern value values) refl
        where
          by : (o : MissOutcome) → miss_found T s mode pattern value values ≡ o → Short (miss_result T s mode pattern value values)
          by (matched env) e = subst Short (sym (result_is a ∙ ap carried_result e)) (short (omega arith) (omega arith) (omega arith) (omega arith))
          by fault e = absurd (no_fault a e)
          by (missed m) e =
              let q : miss_result T s mode pattern value values ≡ no_match_lem m = result_is a ∙ ap carried_result e in
              let i = (promised T s mode pattern value values).inside m q in
              let x = few a value m.value a.value_node_lem i.in_value in
              let y = few a pattern m.pattern a.pattern_node i.in_pattern_lem in
              let z = why_small m.why in
              subst Short (sym q) (short (omega arith) (omega arith) (omega arith) (omega arith))

pub miss_fits : (T : Tables) (s : Scope) (mode : ScopingMode) (pattern value : ℕ) {values : List ℕ} {answer : Result (Option Miss) RunRefusal} {row : Row} → MissTold T s mode pattern value values answer
    → row_line row ≡ miss_line (miss_result_of answer) → ShortLine (row_line row)
miss_fits T s mode pattern value {values} t is = subst ShortLine (sym (is ∙ ap miss_line t.answer)) (miss_short T s mode pattern value values)

-- 3. The call
module _ (T : Tables) (marks : List ℕ) (scheduler scoping pattern : ℕ) {o : OperationNumbers} (asked : o ≡ pattern_numbers scheduler scoping pattern) {made : Result Scope MarkOutside}
    (from : ConvertedFrom (byte_scope_of marks scheduler) made) {given : Result Scope GivenRefusal} (told : GivenTold T made o given) (value : ℕ) (values : List ℕ) where
  by_first : {t : Tested} → given_first T marks (pattern_numbers scheduler scoping pattern) ≡ t
      → miss_call T marks scheduler scoping pattern value values ≡ tested_or turned_back_lem t (miss_result T (scope_of marks scheduler) (scoping_of scoping) pattern value values)
  by_first = ap (λ (t : Tested). tested_or turned_back_lem t (miss_result T (scope_of marks scheduler) (scoping_of scoping) pattern value values))

  pub miss_refused : {x : GivenRefusal} {words wordsExit : List ℕ} {r : ℕ} → given ≡ Err x → Told (refusal_line (given_refused x)) words wordsExit r
      → MissCalled (miss_call T marks scheduler scoping pattern value values) words wordsExit r
  miss_refused {x} {words} {wordsExit} {r} e done =
      let q = by_first (pattern_refused T marks scheduler scoping pattern asked from told e) in
      record { answer = subst (λ (l : Line). Told l words wordsExit r) (sym (ap miss_line q)) done }

  pub miss_done : {words wordsExit : List ℕ} {mode : ScopingMode} {answer : Result (Option Miss) RunRefusal} {row : Row} {r : ℕ} {s : Scope} → given ≡ Ok s → mode ≡ scoping_of scoping
      → MissTold T s mode pattern value values answer → row_line row ≡ miss_line (miss_result_of answer) → Told (row_line row) words wordsExit r
      → MissCalled (miss_call T marks scheduler scoping pattern value values) words wordsExit r
  miss_done {words} {wordsExit} {r = r} g m t is done =
      let was = rw (pattern_scope T marks scheduler scoping pattern asked from told g, m) at t in
      let q = by_first (pattern_passed T marks scheduler scoping pattern asked from told g) in
      record { answer = subst (λ (l : Line). Told l words wordsExit r) (is ∙ (ap miss_line was.answer ∙ sym (ap miss_line q))) done }
