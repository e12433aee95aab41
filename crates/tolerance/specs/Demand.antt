-- Request 4's promises for tables. The call's contract (`Judged`) says that its answer is the one that the choices give.
use Rattle.std.specs.Prelude.{ℕ, ◌≡◌, List, Bool, T as True}
use Rattle.scope.specs.declared.Scope.{Scope}
use Rattle.scope.specs.declared.ScopingMode.{ScopingMode}
use Rattle.scope.specs.Scope.{is_unbound}
use Rattle.scope.specs.Scope as Scope
use Rattle.table.specs.Tables.{Tables}
use Rattle.table.specs.Decode.{expr}
use Rattle.value.specs.Value.{Value, value_of, node_in}
use Rattle.matching.specs.Matching.{Env, Planned}
use Rattle.run.specs.Answer as Run
use Rattle.run.specs.Answer.{RunResult, a_match, no_match_lem}
use Rattle.run.specs.Operations.{listed_node, planned_name, set_names, run_outcome, run_answer, plan_after, values_after}
use Rattle.tolerance.specs.Tolerance.{Answer, always, never}
use Rattle.tolerance.specs.Answer.{ToleranceResult, turned_back_lem, answers}
use Rattle.tolerance.specs.Operations.{ranges_in, listed_known, ranges_ok, carries, IsAnswer, with_lowest, tolerance_outcome, tolerance_result, plan_left, set_by, values_left, is_judged}
use Rattle.tolerance.specs.Promise.{carry, Promised, Exact}

module _ (T : Tables) (s : Scope) (mode : ScopingMode) (pattern value : ℕ) (values lows highs : List ℕ) where
  -- nothing up to 32 refuses
  abbrev pub Accepted : Type 0
  Accepted = True (is_judged (tolerance_outcome T s mode pattern value values lows highs never))

  abbrev pub to_set : ℕ → Bool
  to_set = planned_name (Scope.known s mode) (expr T pattern)

  -- the list at exit, if the buffer has space for the plan
  abbrev pub list_after : Answer → List ℕ
  list_after a = set_names to_set (set_by a (with_lowest T s mode pattern value values lows highs)) values

  -- Of the answer that the choices give: no other is given by them; demand 3 of each choice, and of the nodes in the list where it is always.
  pub record Promises (a : Answer) : Type 0 where
    pub only : (b : Answer) → IsAnswer T s mode pattern value values lows highs b → b ≡ a
    pub after : Env
    pub promised : Promised (is_unbound s mode) (listed_known T values) (expr T pattern) (value_of (expr T value)) (ranges_in lows highs) a after
    -- carrying the entries out is the run of the plan, which `Promised` speaks of
    pub as_planned : (v : Value) (env : Env) → carries T s mode pattern value values lows highs v env ≡ carry (is_unbound s mode) (expr T pattern) v env
    pub lists : a ≡ always → (x : ℕ) → Planned (is_unbound s mode) (expr T pattern) x → listed_node (list_after a) x ≡ node_in (after x)
    pub unlisted : ¬ (a ≡ always) → list_after a ≡ values

  -- Exact ranges: the answer, the plan buffer and the list are the present run's, with never for no match.
  abbrev pub tolerantly : RunResult → ToleranceResult
  tolerantly (Run.turned_back_lem r) = turned_back_lem r
  tolerantly a_match = answers always
  tolerantly no_match_lem = answers never

  pub record AsRun (a : Answer) (buffer : List ℕ) : Type 0 where
    pub result : tolerance_result (tolerance_outcome T s mode pattern value values lows highs a) buffer ≡ tolerantly (run_answer (run_outcome T s mode pattern value values) buffer)
    pub plan : plan_left (tolerance_outcome T s mode pattern value values lows highs a) buffer ≡ plan_after (run_outcome T s mode pattern value values) buffer
    pub list : values_left to_set (tolerance_outcome T s mode pattern value values lows highs a) buffer values ≡ values_after to_set (run_outcome T s mode pattern value values) buffer values

pub record ToleranceDemand : Type 0 where
  pub judges : (T : Tables) (s : Scope) (mode : ScopingMode) (pattern value : ℕ) (values lows highs : List ℕ) → Accepted T s mode pattern value values lows highs
      → (a : Answer) × IsAnswer T s mode pattern value values lows highs a
  pub promises : (T : Tables) (s : Scope) (mode : ScopingMode) (pattern value : ℕ) (values lows highs : List ℕ) → Accepted T s mode pattern value values lows highs
      → (a : Answer) → IsAnswer T s mode pattern value values lows highs a → Promises T s mode pattern value values lows highs a
  -- a run that is refused is refused alike
  pub present : (T : Tables) (s : Scope) (mode : ScopingMode) (pattern value : ℕ) (values lows highs : List ℕ) → True (ranges_ok T s mode value values lows highs)
      → Exact (is_unbound s mode) (listed_known T values) (value_of (expr T value)) (ranges_in lows highs)
      → (a : Answer) → (Accepted T s mode pattern value values lows highs → IsAnswer T s mode pattern value values lows highs a)
      → (buffer : List ℕ) → AsRun T s mode pattern value values lows highs a buffer
