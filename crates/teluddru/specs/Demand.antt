-- Demand 3, whole: Run's part, the pairs' part, and that the plan of a run is the pattern call's.
use Rattle.std.specs.Prelude.{ℕ, ◌≡◌, Result, List}
use Rattle.scope.specs.declared.Scope.{Scope}
use Rattle.scope.specs.declared.ScopingMode.{ScopingMode}
use Rattle.scope.specs.Scope.{is_unbound, known}
use Rattle.table.specs.Tables.{Tables}
use Rattle.table.specs.Decode.{expr}
use Rattle.base.specs.Refusal.{Refusal}
use Rattle.planner.specs.Layout.{top, entries}
use Rattle.planner.specs.Operations.{planned, plan_of, pattern_outcome, written}
use Rattle.value.specs.Value.{value_of}
use Rattle.matching.specs.Matching.{start}
use Rattle.matching.specs.Reading.{run_entries}
use Rattle.assignment.specs.PairsDemand.{PairsDemand}
use Rattle.run.specs.declared.RunAnswer.{RunAnswer}
use Rattle.run.specs.declared.RunRefusal.{RunRefusal}
use Rattle.run.specs.Answer.{result_of}
use Rattle.run.specs.Operations.{refused, carried_out, listed, run_outcome, plan_after, planned_name, Ran}
use Rattle.run.specs.Demand as Run

module _ (T : Tables) (s : Scope) (mode : ScopingMode) (pattern value : ℕ) (values buffer : List ℕ) where
  -- the entries that are carried out, and that stand in the buffer afterwards, are those that the pattern call plans
  pub record SamePlan : Type 0 where
    pub carries : run_outcome T s mode pattern value values
        ≡ carried_out (entries (plan_of T s mode pattern) top) (run_entries (expr T) (entries (plan_of T s mode pattern) top) (value_of (expr T value)) (start (is_unbound s mode) (listed T values)))
    pub plans : pattern_outcome T s mode pattern ≡ planned 0 0 (entries (plan_of T s mode pattern) top)
    pub leaves : plan_after (run_outcome T s mode pattern value values) buffer ≡ written (pattern_outcome T s mode pattern) buffer

  -- an answer, a list and a buffer at exit that meet Run's contract
  abbrev pub Meets : Result RunAnswer RunRefusal → List ℕ → List ℕ → Type 0
  Meets r after plan = Ran (planned_name (known s mode) (expr T pattern)) (run_outcome T s mode pattern value values) values buffer after plan r

  pub record Kept (r : Result RunAnswer RunRefusal) (after plan : List ℕ) : Type 0 where
    pub promised : Run.Promised T s mode pattern value values buffer (result_of r) after
    pub plan_in_lem : plan ≡ written (pattern_outcome T s mode pattern) buffer

pub record Demand : Type 0 where
  pub run_part : Run.RunDemand
  pub pairs_part : PairsDemand
  -- of every run that is not refused before it looks for space in the buffer
  pub same_plan_lem : (T : Tables) (s : Scope) (mode : ScopingMode) (pattern value : ℕ) (values buffer : List ℕ)
      → ((a : Refusal) → run_outcome T s mode pattern value values ≡ refused a → ⊥) → SamePlan T s mode pattern value values buffer
  -- whatever meets Run's contract keeps the promise
  pub contract : (T : Tables) (s : Scope) (mode : ScopingMode) (pattern value : ℕ) (values buffer : List ℕ) (r : Result RunAnswer RunRefusal) (after plan : List ℕ)
      → Run.Hypotheses T s mode pattern value values buffer → Meets T s mode pattern value values buffer r after plan → Kept T s mode pattern value values buffer r after plan
