-- What is promised of the first miss: it is told exactly where a run answers no match, and all else as a run does; its nodes are the value's and the pattern's own.
use Rattle.std.specs.Prelude.{ℕ, ◌≡◌, List, T as True}
use Rattle.base.specs.Lists.{elem}
use Rattle.scope.specs.declared.Scope.{Scope}
use Rattle.scope.specs.declared.ScopingMode.{ScopingMode}
use Rattle.table.specs.Tables.{Tables}
use Rattle.table.specs.Expr.{parts}
use Rattle.table.specs.Decode.{expr}
use Rattle.planner.specs.Plan.{DestructuringPlan}
use Rattle.planner.specs.Layout.{top, entries}
use Rattle.planner.specs.Operations.{plan_of, fits}
use Rattle.value.specs.Value.{Value}
use Rattle.matching.specs.Matching.{Env, run}
use Rattle.run.specs.Answer as Run
use Rattle.run.specs.Answer.{RunResult}
use Rattle.run.specs.Operations.{run_outcome, run_answer}
use Rattle.first_miss.specs.declared.Miss.{Miss}
use Rattle.first_miss.specs.Miss.{forget, first_miss}
use Rattle.first_miss.specs.Answer.{MissResult, turned_back_lem, a_match, no_match_lem}
use Rattle.first_miss.specs.Operations.{miss_result}

-- the answer, without the miss
abbrev pub run_result : MissResult → RunResult
run_result (turned_back_lem r) = Run.turned_back_lem r
run_result a_match = Run.a_match
run_result (no_match_lem m) = Run.no_match_lem

module _ (T : Tables) (s : Scope) (mode : ScopingMode) (pattern value : ℕ) (values : List ℕ) where
  -- the nodes stand in the value and in the pattern, keys included
  pub record Inside (m : Miss) : Type 0 where
    pub in_value : True (elem m.value (parts (expr T value)))
    pub in_pattern_lem : True (elem m.pattern (parts (expr T pattern)))

  pub record Promised : Type 0 where
    -- with a buffer that has space for the plan
    pub as_run_lem : (buffer : List ℕ) → True (fits (entries (plan_of T s mode pattern) top) buffer)
        → run_result (miss_result T s mode pattern value values) ≡ run_answer (run_outcome T s mode pattern value values) buffer
    pub inside : (m : Miss) → miss_result T s mode pattern value values ≡ no_match_lem m → Inside m

pub record MissDemand : Type 0 where
  -- of any plan and any value the miss is the run's
  pub forgets : (key_node : ℕ → ℕ → ℕ) (p : DestructuringPlan) (v : Value) (env : Env) → forget (first_miss key_node p v env) ≡ run p v env
  pub promised : (T : Tables) (s : Scope) (mode : ScopingMode) (pattern value : ℕ) (values : List ℕ) → Promised T s mode pattern value values
