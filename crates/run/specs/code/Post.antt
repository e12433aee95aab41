-- What the functions of a run ask of their caller and say.
use Rattle.std.specs.Prelude.{ℕ, ◌≤◌, ◌≡◌, Bool, true, ◌&&◌, Result, Ok, Err, List, [], length, replicate}
use Rattle.base.specs.Refusal.{passed}
use Rattle.scope.specs.declared.Scope.{Scope}
use Rattle.scope.specs.declared.ScopingMode.{ScopingMode}
use Rattle.scope.specs.Scope.{is_unbound, known}
use Rattle.base.specs.Lent.{Slices, MutSlices, old, new}
use Rattle.table.specs.Tables.{Tables, name_count}
use Rattle.table.specs.Expr.{Expr}
use Rattle.table.specs.Decode.{expr}
use Rattle.table.specs.Check.{checked}
use Rattle.table.specs.code.Sound.{Node}
use Rattle.planner.specs.Plan.{plan}
use Rattle.planner.specs.Layout.{top, entries}
use Rattle.planner.specs.Operations.{plan_of}
use Rattle.planner.specs.code.Post.{pattern_words, Laid, PatternPlanned}
use Rattle.planner.specs.Simple.{simple, mentions}
use Rattle.value.specs.Value.{is_value}
use Rattle.run.specs.declared.RunAnswer.{RunAnswer}
use Rattle.run.specs.declared.RunRefusal.{RunRefusal}
use Rattle.run.specs.Answer.{run_refusal, match_result}
use Rattle.run.specs.Operations.{values_listed, known_listed, refused, carried_out, ran, run_outcome, carried_result, set_names, planned_name, Ran}

-- a run that no check refused
pub record RunAsks (T : Tables) (s : Scope) (mode : ScopingMode) (pattern value : ℕ) (values : List ℕ) : Type 0 where
  pub sound : checked T s ≡ passed
  pub pattern_node : Node T pattern
  pub value_node_lem : Node T value
  pub long : name_count T ≤ length values
  pub is_simple : simple (expr T pattern) ≡ true
  pub a_value : is_value (expr T value) ≡ true
  pub listed_values_lem : values_listed T values ≡ true
  pub known_values : known_listed T (known s mode) (expr T pattern) values ≡ true

-- its plan stands first in the scratch
pub record MatchValuesAsks (T : Tables) (s : Scope) (mode : ScopingMode) (scratch : List ℕ) (count value : ℕ) (values : List ℕ) : Type 0 where
  pub root : ℕ
  pub asks : RunAsks T s mode root value values
  pub laid : Laid (replicate pattern_words 0) 0 (entries (plan (is_unbound s mode) (expr T root) []) top) scratch count

-- a run binds the names of the pattern that are unbound
abbrev pub to_bind : (ℕ → Bool) → Expr → ℕ → Bool
to_bind unbound e x = mentions x e && unbound x

-- what a run from the values in the list came to, whatever pattern the entries are the plan of
pub record ValuesCame (T : Tables) (s : Scope) (mode : ScopingMode) (scratch : List ℕ) (count : ℕ) (binders : List ℕ) (value : ℕ) (before after : List ℕ) (r : RunAnswer) : Type 0 where
  pub each : (root : ℕ) → RunAsks T s mode root value before → PatternPlanned T s mode root 0 (replicate pattern_words 0) binders scratch count
      → (match_result r ≡ carried_result (ran T s mode root value before)) × (after ≡ set_names (to_bind (is_unbound s mode) (expr T root)) (ran T s mode root value before) before)

-- a run of a table that passed the check, with roots in it and a list that is long enough
pub record CheckedAsks (T : Tables) (s : Scope) (pattern value : ℕ) (values : List ℕ) : Type 0 where
  pub sound : checked T s ≡ passed
  pub pattern_node : Node T pattern
  pub value_node_lem : Node T value
  pub long : name_count T ≤ length values

-- what a run turns back before it plans: nothing, or with a refusal
module _ (T : Tables) (s : Scope) (mode : ScopingMode) (pattern value : ℕ) (values : List ℕ) where
  pub record CheckTold (r : Result Unit RunRefusal) : Type 0 where
    pub passes : r ≡ Ok tt → RunAsks T s mode pattern value values
    pub refuses : (a : RunRefusal) → r ≡ Err a → run_outcome T s mode pattern value values ≡ refused (run_refusal a)

-- The same of what is lent, at entry and at exit: what the values came to, a plan carried out, what is turned back.
abbrev pub ValuesCameIn : MutSlices → Tables → Scope → ScopingMode → List ℕ → ℕ → List ℕ → ℕ → RunAnswer → Type 0
ValuesCameIn values T s mode scratch count binders value r = ValuesCame T s mode scratch count binders value (old values) (new values) r

abbrev pub CarriedIn : MutSlices → MutSlices → Tables → Scope → ScopingMode → ℕ → ℕ → Result RunAnswer RunRefusal → Type 0
CarriedIn values plan T s mode pattern value r =
    Ran (planned_name (known s mode) (expr T pattern)) (carried_out (entries (plan_of T s mode pattern) top) (ran T s mode pattern value (old values))) (old values) (old plan) (new values) (new plan) r

abbrev pub CheckToldIn : Slices → Tables → Scope → ScopingMode → ℕ → ℕ → Result Unit RunRefusal → Type 0
CheckToldIn values T s mode pattern value r = CheckTold T s mode pattern value values.entry.now r
