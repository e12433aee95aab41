-- Run: its refusals in their order; its answer, the plan buffer and the list of value nodes afterwards.
use Rattle.std.specs.Prelude.{ℕ, ◌+◌, ◌-◌, ◌≡◌, Bool, cond, ◌&&◌, ◌||◌, not, Result, List, [], ◌∷◌, eqb, leb, length, get_or}
use Rattle.std.proofs.Math.Option.{none}
use Rattle.scope.specs.declared.Scope.{Scope}
use Rattle.scope.specs.declared.ScopingMode.{ScopingMode}
use Rattle.scope.specs.Scope.{is_unbound, known}
use Rattle.base.specs.Lent.{MutSlices, old, new}
use Rattle.table.specs.Tables.{Tables, name_count, is_node}
use Rattle.table.specs.Expr.{Expr}
use Rattle.table.specs.Decode.{expr}
use Rattle.base.specs.Lists.{all_from, tabulate}
use Rattle.base.specs.Refusal.{Refusal, plan_too_large, root_outside, list_too_short, pattern_not_simple, not_a_value, name_without_value, require_or, Tested, tested_or}
use Rattle.table.specs.Check.{checked_or, all_nodes}
use Rattle.planner.specs.Layout.{Entry, top, entries}
use Rattle.planner.specs.Operations.{plan_of, planned, fits, zeros, written}
use Rattle.planner.specs.Simple.{simple, mentions}
use Rattle.value.specs.Value.{is_value, value_of, value_at, node_in}
use Rattle.matching.specs.Matching.{Env, MatchOutcome, matched, missed, fault, start}
use Rattle.matching.specs.Reading.{run_entries}
use Rattle.run.specs.declared.RunAnswer.{RunAnswer}
use Rattle.run.specs.declared.RunRefusal.{RunRefusal}
use Rattle.run.specs.Answer.{RunResult, turned_back_lem, a_match, no_match_lem, result_of}

-- The list has at place x - 1 the node of name x's value, or 0.
abbrev pub listed_node : List ℕ → ℕ → ℕ
listed_node values x = get_or values (x - 1) 0

abbrev pub in_table : Tables → ℕ → Bool
in_table T x = leb 1 x && leb x (name_count T)

abbrev pub all_names : Tables → (ℕ → Bool) → Bool
all_names T p = all_from p 1 (name_count T)

-- a number outside the nodes is no value
abbrev pub is_value_node : Tables → ℕ → Bool
is_value_node T n = is_node T n && is_value (expr T n)

abbrev pub listed : Tables → List ℕ → Env
listed T values x = cond (in_table T x) (value_at T (listed_node values x)) none

-- 22: each listed node is a value
unfoldable pub values_listed : Tables → List ℕ → Bool
values_listed T values = all_names T (λ x. eqb (listed_node values x) 0 || is_value_node T (listed_node values x))

-- 23: each known name of the pattern is listed
unfoldable pub known_listed : Tables → (ℕ → Bool) → Expr → List ℕ → Bool
known_listed T isKnown e values = all_names T (λ x. not (mentions x e && isKnown x) || not (eqb (listed_node values x) 0))

-- What a run comes to before the buffer is looked at: a refusal, or the plan's entries and what carrying it out came to.
pub data RunOutcome : Type 0 where
  refused : Refusal → RunOutcome
  carried_out : List Entry → MatchOutcome → RunOutcome

-- a test, its refusal, and the rest
abbrev pub require : Bool → Refusal → RunOutcome → RunOutcome
require = require_or refused

abbrev pub table_first : Tested → RunOutcome → RunOutcome
table_first = tested_or refused

module _ (T : Tables) (s : Scope) (mode : ScopingMode) (pattern value : ℕ) (values : List ℕ) where
  -- the entries of the pattern's plan, carried out on the value from the listed values of the known names
  abbrev pub ran : MatchOutcome
  ran = run_entries (expr T) (entries (plan_of T s mode pattern) top) (value_of (expr T value)) (start (is_unbound s mode) (listed T values))

  abbrev pub roots : List ℕ
  roots = pattern ∷ (value ∷ [])

  -- of a table that passed the check, with the roots inside
  abbrev pub run_inside : RunOutcome
  run_inside =
      require (leb (name_count T) (length values)) list_too_short
      (require (simple (expr T pattern)) pattern_not_simple
      (require (is_value (expr T value) && values_listed T values) not_a_value
      (require (known_listed T (known s mode) (expr T pattern) values) name_without_value
      (carried_out (entries (plan_of T s mode pattern) top) ran))))

  abbrev pub run_checked : RunOutcome
  run_checked = require (all_nodes T roots) root_outside run_inside

  abbrev pub run_outcome : RunOutcome
  run_outcome = checked_or refused T s roots run_inside

-- A fault never comes up (demand 3).
abbrev pub carried_result : MatchOutcome → RunResult
carried_result (matched env) = a_match
carried_result missed = no_match_lem
carried_result fault = no_match_lem

-- the last refusal: a plan larger than the buffer
unfoldable pub run_answer : RunOutcome → List ℕ → RunResult
run_answer (refused a) buffer = turned_back_lem a
run_answer (carried_out es o) buffer = cond (fits es buffer) (carried_result o) (turned_back_lem (plan_too_large (length es)))

-- the plan, then zeros; of a refusal, all zeros
unfoldable pub plan_after : RunOutcome → List ℕ → List ℕ
plan_after (refused a) buffer = zeros buffer
plan_after (carried_out es o) buffer = written (planned 0 0 es) buffer

-- The names to be set have the nodes of their values, the others what stood there.
abbrev pub set_names : (ℕ → Bool) → MatchOutcome → List ℕ → List ℕ
set_names to_set (matched env) values = tabulate (λ i. cond (to_set (i + 1)) (node_in (env (i + 1))) (get_or values i 0)) 0 (length values)
set_names to_set missed values = values
set_names to_set fault values = values

-- the pattern's names, `_` aside, that are not known
abbrev pub planned_name : (ℕ → Bool) → Expr → ℕ → Bool
planned_name isKnown e x = mentions x e && not (isKnown x)

-- a match sets the names given, and nothing else does
unfoldable pub values_after : (ℕ → Bool) → RunOutcome → List ℕ → List ℕ → List ℕ
values_after to_set (refused a) buffer values = values
values_after to_set (carried_out es o) buffer values = cond (fits es buffer) (set_names to_set o values) values

-- the answer, the plan buffer and the list at exit
pub record Ran (names : ℕ → Bool) (o : RunOutcome) (values buffer valuesExit bufferExit : List ℕ) (r : Result RunAnswer RunRefusal) : Type 0 where
  pub answer : result_of r ≡ run_answer o buffer
  pub plan : bufferExit ≡ plan_after o buffer
  pub list : valuesExit ≡ values_after names o buffer values

-- the same of a `&mut` list and a `&mut` buffer, at entry and at exit
abbrev pub RanIn : MutSlices → MutSlices → Tables → Scope → ScopingMode → ℕ → ℕ → Result RunAnswer RunRefusal → Type 0
RanIn values plan T s mode pattern value r =
    Ran (planned_name (known s mode) (expr T pattern)) (run_outcome T s mode pattern value (old values)) (old values) (old plan) (new values) (new plan) r
