-- Every number that a call tells fits in its word.
use Prim.Native.Nat.{ℕ, ◌≤◌}
use mathlib.Core.Path.{◌≡◌, refl}
use mathlib.Core.Bool.{Bool, true, false, cond, ◌&&◌}
use mathlib.Core.List.{List, [], ◌∷◌}
use native.Mathlib.Omega.{arith}
use lib.Dec.{leb}
use lib.ListN.{length}
use Rattle.base.specs.Refusal as Refusal
use Rattle.base.specs.Refusal.{Refusal, Tested, line, refusal_line, root_outside, list_too_short, pattern_not_simple, not_a_value, name_without_value, plan_too_large, require_or, tested_or}
use Rattle.scope.specs.declared.Scope.{Scope}
use Rattle.scope.specs.declared.ScopingMode.{ScopingMode}
use Rattle.scope.specs.Scope.{known}
use Rattle.table.specs.Tables.{Tables, name_count, is_node}
use Rattle.table.specs.Decode.{expr}
use Rattle.table.specs.Check.{checked, checked_or, all_nodes}
use Rattle.table.specs.code.Sound.{WellFormed}
use Rattle.table.proofs.trees.Facts.{sound_table}
use Rattle.table.proofs.tests.Bools.{and_true}
use Rattle.planner.specs.Operations as Plan
use Rattle.planner.specs.Operations.{Outcome, planned, fits, answered}
use Rattle.planner.specs.Short.{ShortLine, ShortRefusal, ShortOutcome}
use Rattle.planner.specs.Simple.{simple}
use Rattle.planner.proofs.laws.ShortOutcomes.{short, refusal_short, planned_short, checked_short, root_small, entries_few}
use Rattle.operation.specs.declared.Operation.{Operation}
use Rattle.operation.specs.Version.{version_outcome}
use Rattle.operation.proofs.ShortOperation.{version_short}
use Rattle.value.specs.Value.{is_value}
use Rattle.matching.specs.Matching as Matching
use Rattle.run.specs.Answer.{turned_back_lem}
use Rattle.run.specs.Operations as Run
use Rattle.run.specs.Operations.{RunOutcome, carried_out, carried_result, values_listed, known_listed, run_outcome, run_answer}
use Rattle.report.specs.Report as Report
use Rattle.report.specs.Report.{ReportOutcome, filled, report_outcome, report_answer}
use Rattle.c_calls.specs.Calls.{ran_line}

-- a refusal of the table check is short
pub table_short : (T : Tables) (s : Scope) (r : Refusal) → checked T s ≡ Refusal.refused r → ShortRefusal r
table_short T s r e =
    let h = checked_short T s [] (planned 0 0 []) (λ w i. planned_short 0 0 [] (omega arith) (omega arith) (omega arith) tt) in
    rw e at h

module _ {O : Type 0} (refuse : Refusal → O) (P : O → Type 0) (refused : (r : Refusal) → ShortRefusal r → P (refuse r)) where
  -- of a test, of the table check and the roots
  pub require_is : (test : Bool) (r : Refusal) (o : O) → ShortRefusal r → (test ≡ true → P o) → P (require_or refuse test r o)
  require_is true r o p q = q refl
  require_is false r o p q = refused r p

  checked_is : (T : Tables) (s : Scope) (roots : List ℕ) (o : O) → (WellFormed T → all_nodes T roots ≡ true → P o) → P (checked_or refuse T s roots o)
  checked_is T s roots o p = go (checked T s) refl
    where
      go : (c : Tested) → checked T s ≡ c → P (tested_or refuse c (require_or refuse (all_nodes T roots) root_outside o))
      go Refusal.passed ok = require_is (all_nodes T roots) root_outside o (refusal_short (omega arith) (omega arith)) (p (sound_table T s ok).well_formed_lem)
      go (Refusal.refused r) e = refused r (table_short T s r e)

-- a planning call
outcome_short : (o : Outcome) (buffer : List ℕ) → ShortOutcome o → ShortLine (answered o buffer)
unfolding answered
outcome_short (Plan.refused r) buffer p = p
outcome_short (planned form side es) buffer p = go (fits es buffer)
  where
    go : (b : Bool) → ShortLine (cond b (line 0 form side (length es)) (refusal_line (plan_too_large (length es))))
    go true = p.0
    go false = short (omega arith) (omega arith) p.0.four (omega arith)

pub plan_short : (T : Tables) (s : Scope) (version : ℕ) (operation : Operation) (buffer : List ℕ) → ShortLine (answered (version_outcome T s version operation) buffer)
plan_short T s version operation buffer = outcome_short (version_outcome T s version operation) buffer (version_short T s version operation)

-- a run
abbrev pub ShortRun : RunOutcome → Type 0
ShortRun (Run.refused r) = ShortRefusal r
ShortRun (carried_out es o) = length es ≤ 512

pub run_outcome_short : (T : Tables) (s : Scope) (mode : ScopingMode) (pattern value : ℕ) (values : List ℕ) → ShortRun (run_outcome T s mode pattern value values)
run_outcome_short T s mode pattern value values =
    checked_is Run.refused ShortRun (λ r p. p) T s (pattern ∷ (value ∷ [])) _ (λ w i.
    test (leb (name_count T) (length values)) list_too_short _ (refusal_short (omega arith) (omega arith)) (λ a.
    test (simple (expr T pattern)) pattern_not_simple _ (refusal_short (omega arith) (omega arith)) (λ b.
    test (is_value (expr T value) && values_listed T values) not_a_value _ (refusal_short (omega arith) (omega arith)) (λ c.
    test (known_listed T (known s mode) (expr T pattern) values) name_without_value _ (refusal_short (omega arith) (omega arith)) (λ d.
    entries_few T s mode pattern (root_small T w pattern (and_true (is_node T pattern) _ i).0))))))
  where
    test : (t : Bool) (r : Refusal) (o : RunOutcome) → ShortRefusal r → (t ≡ true → ShortRun o) → ShortRun (Run.require t r o)
    test = require_is Run.refused ShortRun (λ r p. p)

carried_short : (o : Matching.MatchOutcome) → ShortLine (ran_line (carried_result o))
carried_short (Matching.matched env) = short (omega arith) (omega arith) (omega arith) (omega arith)
carried_short Matching.missed = short (omega arith) (omega arith) (omega arith) (omega arith)
carried_short Matching.fault = short (omega arith) (omega arith) (omega arith) (omega arith)

answer_short : (o : RunOutcome) (buffer : List ℕ) → ShortRun o → ShortLine (ran_line (run_answer o buffer))
unfolding run_answer
answer_short (Run.refused r) buffer p = p
answer_short (carried_out es o) buffer p = go (fits es buffer)
  where
    go : (b : Bool) → ShortLine (ran_line (cond b (carried_result o) (turned_back_lem (plan_too_large (length es)))))
    go true = carried_short o
    go false = short (omega arith) (omega arith) (omega arith) (omega arith)

pub run_short : (T : Tables) (s : Scope) (mode : ScopingMode) (pattern value : ℕ) (values buffer : List ℕ) → ShortLine (ran_line (run_answer (run_outcome T s mode pattern value values) buffer))
run_short T s mode pattern value values buffer = answer_short (run_outcome T s mode pattern value values) buffer (run_outcome_short T s mode pattern value values)

-- a names report
abbrev ShortReport : ReportOutcome → Type 0
ShortReport o = ShortLine (report_answer o)

pub report_short : (T : Tables) (s : Scope) (root : ℕ) (list : List ℕ) → ShortLine (report_answer (report_outcome T s root list))
report_short T s root list =
    checked_is Report.refused ShortReport (λ r p. p) T s (root ∷ []) _ (λ w i.
    require_is Report.refused ShortReport (λ r p. p) (leb (name_count T) (length list)) list_too_short filled (refusal_short (omega arith) (omega arith)) (λ a.
    short (omega arith) (omega arith) (omega arith) (omega arith)))
