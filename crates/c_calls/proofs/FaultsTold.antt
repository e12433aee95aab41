-- Which rule is broken, as a C host is told of it.
use Prim.Native.Nat.{ℕ, zero, suc, ◌+◌}
use mathlib.Core.Path.{◌≡◌, refl, sym, ap, ◌∙◌, subst}
use mathlib.Core.List.{List}
use mathlib.Core.Bool.{Bool, true, false}
use native.Mathlib.Omega.{arith}
use lib.Dec.{leb}
use lib.ListN.{get_or}
use Rattle.base.specs.Lists.{all_from, tabulate}
use Rattle.base.specs.Refusal as Refusal
use Rattle.base.specs.Refusal.{over_limit, breaks_rules, passed, require, tested_or, Line, line}
use Rattle.scope.specs.Bytes.{small_marks, marks_ok, of_bytes}
use Rattle.table.specs.Tables.{Tables}
use Rattle.table.specs.Rules.{within_limits}
use Rattle.table.specs.Check.{table_refused, checked}
use Rattle.table_fault.specs.declared.BrokenRule.{BrokenRule}
use Rattle.std.proofs.Common.{Option, Some, None}
use Rattle.table_fault.specs.Rules.{mark_ok_at}
use Rattle.table_fault.specs.Fault.{Fault, no_fault_lem, broken, fault_of, fault_told, fault_line, FaultAnswered}
use Rattle.table_fault.specs.Promise.{checked_with_marks}
use Rattle.table_fault.proofs.Firsts.{fault_number, fault_promise}
use Rattle.planner.specs.Short.{ShortLine}
use Rattle.planner.proofs.laws.ShortOutcomes.{short}
use Rattle.operation.specs.declared.numbers.OperationNumbers.{OperationNumbers}
use Rattle.operation.specs.declared.row.Row.{Row}
use Rattle.operation.specs.Numbers.{are_listed}
use Rattle.operation.specs.Rows.{row_line, Told}
use Rattle.c_calls.specs.Given.{scope_of, tested_first, given_first}
use Rattle.c_calls.specs.Faults.{FaultCallPromise}

pub fault_none : (answer : Option BrokenRule) {l : Line} → answer ≡ None → l ≡ line 0 0 0 0 → l ≡ fault_line (fault_told answer)
fault_none answer e is = rw e is

pub fault_some : (answer : Option BrokenRule) {b : BrokenRule} {n : ℕ} {l : Line} → answer ≡ Some b → n ≡ (table_refused b.refused).number → l ≡ line n b.rule b.place 0
    → l ≡ fault_line (fault_told answer)
fault_some answer {b} e n is = rw e (is ∙ ap (λ (m : ℕ). line m b.rule b.place 0) n)

-- what is told fits in the words
module _ (T : Tables) (marks : List ℕ) where
  fault_short : ShortLine (fault_line (fault_of T marks))
  fault_short = go (fault_of T marks) refl
    where
      go : (f : Fault) → fault_of T marks ≡ f → ShortLine (fault_line f)
      go no_fault_lem e = short (omega arith) (omega arith) (omega arith) (omega arith)
      go (broken refusal number place) e =
          let s = (fault_promise T marks).small refusal number place e in
          let n = fault_number T marks refusal number place e in
          short (omega arith) (omega (arith, s.0)) (omega (arith, s.1)) (omega arith)

  module _ {answer : Option BrokenRule} {row : Row} (found : FaultAnswered T marks answer) (is : row_line row ≡ fault_line (fault_told answer)) where
    line_is : row_line row ≡ fault_line (fault_of T marks)
    line_is = is ∙ ap fault_line found.answer

    pub fault_fits : ShortLine (row_line row)
    fault_fits = subst ShortLine (sym line_is) fault_short

    pub fault_done : {words wordsExit : List ℕ} {r : ℕ} → Told (row_line row) words wordsExit r → Told (fault_line (fault_of T marks)) words wordsExit r
    fault_done {words} {wordsExit} {r} told = subst (λ (l : Line). Told l words wordsExit r) line_is told

-- marks at most 31
small_all : (f : ℕ → ℕ) (i k : ℕ) → small_marks (tabulate f i k) ≡ all_from (λ (j : ℕ). leb (f j) 31) i k
unfolding small_marks tabulate all_from
small_all f i zero = refl
small_all f i (suc k) = rw (small_all f (i + 1) k)

module _ (T : Tables) (marks : List ℕ) (o : OperationNumbers) (listed : are_listed o ≡ true) where
  first_checked : checked_with_marks T marks (scope_of marks o.scheduler) ≡ tested_or Refusal.refused (given_first T marks o) (checked T (scope_of marks o.scheduler))
  unfolding tested_first marks_ok
  first_checked = rw (listed, small_all (λ (i : ℕ). get_or marks i 0) 0 128) (go (within_limits T) (all_from (mark_ok_at marks) 0 128))
    where
      go : (a b : Bool) → require a over_limit (require b breaks_rules (checked T (scope_of marks o.scheduler))) ≡ tested_or Refusal.refused (require a over_limit (require b breaks_rules passed)) (checked T (scope_of marks o.scheduler))
      go true true = refl
      go true false = refl
      go false b = refl

  no_underscore : (scope_of marks o.scheduler).underscore ≡ 0
  unfolding of_bytes
  no_underscore = refl

pub fault_call_promise : (T : Tables) (marks : List ℕ) → FaultCallPromise T marks
fault_call_promise T marks = record {
  number = λ o listed. (fault_promise T marks).check (scope_of marks o.scheduler) (no_underscore T marks o listed) ∙ first_checked T marks o listed;
}
