-- A run with tolerances: 32 after the refusals of a run and before 6; its answer, the plan buffer and the list of value nodes afterwards.
use Rattle.std.specs.Prelude.{ℕ, ◌/◌, ◌≡◌, Bool, true, false, cond, ◌&&◌, ◌||◌, not, Result, List, T as True, eqb, leb, length}
use Rattle.std.proofs.Math.Option.{Option, none, some}
use Rattle.base.specs.Lent.{Slices, MutSlices, old, new}
use Rattle.base.specs.Lists.{all_from}
use Rattle.base.specs.Refusal.{Refusal, plan_too_large, require_or, range_wrong}
use Rattle.literal.specs.Literal.{is_number}
use Rattle.scope.specs.declared.Scope.{Scope}
use Rattle.scope.specs.declared.ScopingMode.{ScopingMode}
use Rattle.scope.specs.Scope.{is_unbound}
use Rattle.scope.specs.Scope as Scope
use Rattle.table.specs.Tables.{Tables, record_word, node_count}
use Rattle.table.specs.Decode.{expr, is_wildcard}
use Rattle.planner.specs.Layout.{Entry, top, entries}
use Rattle.planner.specs.Operations.{plan_of, planned, fits, zeros, written}
use Rattle.value.specs.Value.{Value, value_of}
use Rattle.matching.specs.Matching.{Env, MatchOutcome, missed, start}
use Rattle.matching.specs.Reading.{run_entries}
use Rattle.run.specs.Operations as Run
use Rattle.run.specs.Operations.{listed, all_names, set_names, planned_name, RunOutcome, run_outcome}
use Rattle.tolerance.specs.declared.ToleranceAnswer.{ToleranceAnswer}
use Rattle.tolerance.specs.declared.ToleranceRefusal.{ToleranceRefusal}
use Rattle.tolerance.specs.Answer.{ToleranceResult, turned_back_lem, answers, tolerance_result_of}
use Rattle.tolerance.specs.Tolerance.{Number, num, num_order, at_most, Ranges, has_number, Answer, always, sometimes, never, outcome_under, Means}

-- 1. The lists by node number: two words a node, as in the tables' number list.
abbrev pub is_number_in : List ℕ → ℕ → Bool
is_number_in list n = is_number (record_word 2 0 list n) (record_word 2 1 list n)

abbrev pub end_at : List ℕ → ℕ → Number
end_at list n = num (eqb (record_word 2 0 list n) 1) (record_word 2 1 list n)

abbrev pub ranges_in : List ℕ → List ℕ → Ranges Number
ranges_in lows highs = record { lowest = end_at lows; highest = end_at highs }

-- allowed numbers, the lowest not above the highest
abbrev pub range_ok : List ℕ → List ℕ → ℕ → Bool
range_ok lows highs n = is_number_in lows n && (is_number_in highs n && at_most num_order (end_at lows n) (end_at highs n))

abbrev pub long_enough : Tables → List ℕ → Bool
long_enough T list = leb (node_count T) (length list / 2)

-- 2. The known names' values: `_` is not counted as known.
abbrev pub listed_known : Tables → List ℕ → Env
listed_known T values x = cond (is_wildcard T x) none (listed T values x)

abbrev pub known_values : Tables → Scope → ScopingMode → List ℕ → Env
known_values T s mode values = start (is_unbound s mode) (listed_known T values)

-- 3. 32: a list shorter than the nodes, or a node that carries a range with ends that are none.
abbrev pub is_number_of : ℕ → Option Value → Bool
is_number_of n none = false
is_number_of n (some v) = has_number n v

module _ (T : Tables) (s : Scope) (mode : ScopingMode) (value : ℕ) (values : List ℕ) where
  -- does the node carry a range (`Measured`)?
  unfoldable pub is_measured : ℕ → Bool
  is_measured n = has_number n (value_of (expr T value)) || not (all_names T (λ x. not (is_number_of n (known_values T s mode values x))))

  unfoldable pub ranges_ok : List ℕ → List ℕ → Bool
  ranges_ok lows highs = long_enough T lows && (long_enough T highs && all_from (λ n. not (is_measured n) || range_ok lows highs n) 1 (node_count T))

-- 4. What it comes to before the buffer is looked at: a refusal; or the plan's entries, the answer, and what the present run comes to where every number is the lowest.
pub data ToleranceOutcome : Type 0 where
  refused : Refusal → ToleranceOutcome
  judged : List Entry → Answer → MatchOutcome → ToleranceOutcome

-- a run's own refusals, to 23, come first
abbrev pub after_checks : RunOutcome → ToleranceOutcome → ToleranceOutcome
after_checks (Run.refused r) o = refused r
after_checks (Run.carried_out es m) o = o

module _ (T : Tables) (s : Scope) (mode : ScopingMode) (pattern value : ℕ) (values lows highs : List ℕ) where
  -- the entries of the pattern's plan, carried out as in a run
  abbrev pub carries : Value → Env → MatchOutcome
  carries v env = run_entries (expr T) (entries (plan_of T s mode pattern) top) v env

  -- the choices give this answer
  abbrev pub IsAnswer : Answer → Type 0
  IsAnswer a = Means carries (value_of (expr T value)) (known_values T s mode values) (ranges_in lows highs) a

  abbrev pub with_lowest : MatchOutcome
  with_lowest = outcome_under carries (value_of (expr T value)) (known_values T s mode values) (end_at lows)

  abbrev pub tolerance_outcome : Answer → ToleranceOutcome
  tolerance_outcome a =
      after_checks (run_outcome T s mode pattern value values)
      (require_or refused (ranges_ok T s mode value values lows highs) range_wrong
      (judged (entries (plan_of T s mode pattern) top) a with_lowest))

-- 5. The answer, the plan buffer and the list at exit.

-- the last refusal: a plan larger than the buffer
unfoldable pub tolerance_result : ToleranceOutcome → List ℕ → ToleranceResult
tolerance_result (refused r) buffer = turned_back_lem r
tolerance_result (judged es a o) buffer = cond (fits es buffer) (answers a) (turned_back_lem (plan_too_large (length es)))

-- the plan, then zeros; of a refusal, all zeros
unfoldable pub plan_left : ToleranceOutcome → List ℕ → List ℕ
plan_left (refused r) buffer = zeros buffer
plan_left (judged es a o) buffer = written (planned 0 0 es) buffer

-- names are set where the answer is always: then every choice matches and sets each name to the same node, so that of the lowest numbers says which
abbrev pub set_by : Answer → MatchOutcome → MatchOutcome
set_by always o = o
set_by sometimes o = missed
set_by never o = missed

unfoldable pub values_left : (ℕ → Bool) → ToleranceOutcome → List ℕ → List ℕ → List ℕ
values_left to_set (refused r) buffer values = values
values_left to_set (judged es a o) buffer values = cond (fits es buffer) (set_names to_set (set_by a o) values) values

abbrev pub is_judged : ToleranceOutcome → Bool
is_judged (refused r) = false
is_judged (judged es a o) = true

-- Some answer is the one that the choices give, and so are the result, the plan buffer and the list at exit. (No two answers are: `Demand`.)
pub record Judged (T : Tables) (s : Scope) (mode : ScopingMode) (pattern value : ℕ) (values lows highs buffer valuesExit bufferExit : List ℕ) (r : Result ToleranceAnswer ToleranceRefusal) : Type 0 where
  pub answer : Answer
  pub means : True (is_judged (tolerance_outcome T s mode pattern value values lows highs answer)) → IsAnswer T s mode pattern value values lows highs answer
  pub told : tolerance_result_of r ≡ tolerance_result (tolerance_outcome T s mode pattern value values lows highs answer) buffer
  pub plan : bufferExit ≡ plan_left (tolerance_outcome T s mode pattern value values lows highs answer) buffer
  pub list : valuesExit ≡ values_left (planned_name (Scope.known s mode) (expr T pattern)) (tolerance_outcome T s mode pattern value values lows highs answer) buffer values

-- the same of what is lent, at entry and at exit
abbrev pub JudgedIn : MutSlices → Slices → Slices → MutSlices → Tables → Scope → ScopingMode → ℕ → ℕ → Result ToleranceAnswer ToleranceRefusal → Type 0
JudgedIn values lows highs plan T s mode pattern value r =
    Judged T s mode pattern value (old values) lows.entry.now highs.entry.now (old plan) (new values) (new plan) r
