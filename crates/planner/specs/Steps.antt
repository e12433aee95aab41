-- The steps of a pattern call after the table check, one for each time that it goes into a node: a pass in written order, which finds the
-- node that binds each name, and a pass in plan order, which writes the entries; and how deep the calls stand in each other.
use Rattle.std.specs.Prelude.{ℕ, ◌+◌, ◌*◌, ◌≤◌, max, ◌≡◌, Bool, true, [], length}
use Rattle.scope.specs.declared.Scope.{Scope}
use Rattle.scope.specs.declared.ScopingMode.{ScopingMode}
use Rattle.scope.specs.declared.ScopingMode.TheVariants.{RespectParent}
use Rattle.scope.specs.Scope.{is_unbound}
use Rattle.base.specs.Refusal.{passed}
use Rattle.table.specs.Tables.{Tables, is_node}
use Rattle.table.specs.Expr.{Expr, literal, name, wildcard, array, set, object, other, Exprs, none, item, Fields, done, field, parts, depth}
use Rattle.table.specs.Decode.{expr}
use Rattle.table.specs.Check.{checked}
use Rattle.planner.specs.Plan.{DestructuringPlan, plan}
use Rattle.planner.specs.Layout.{top, entries}
use Rattle.planner.specs.Operations.{Outcome, refused, planned, pattern_outcome, index_outcome, parameter_outcome}

-- In written order: every node but keys, the members of sets and what is inside other expressions; the values of fields that an equal key replaces too.
unfoldable mutual
  pub written_steps : Expr → ℕ
  written_steps (literal n l) = 1
  written_steps (name n x) = 1
  written_steps (wildcard n) = 1
  written_steps (array n es) = 1 + written_steps_all es
  written_steps (set n es) = 1
  written_steps (object n fs) = 1 + written_steps_fields fs
  written_steps (other n) = 1

  pub written_steps_all : Exprs → ℕ
  written_steps_all none = 0
  written_steps_all (item e es) = written_steps e + written_steps_all es

  pub written_steps_fields : Fields → ℕ
  written_steps_fields done = 0
  written_steps_fields (field k v fs) = written_steps v + written_steps_fields fs

-- In plan order: a node is gone into to write its entry.
abbrev pub plan_steps : DestructuringPlan → ℕ
plan_steps p = length (entries p top)

unfoldable pub steps : (ℕ → Bool) → Expr → ℕ
steps unbound e = written_steps e + plan_steps (plan unbound e [])

-- At least a plan's entries, and at most twice the pattern's nodes, keys counted.
pub record StepLaws (unbound : ℕ → Bool) (e : Expr) : Type 0 where
  pub least : length (entries (plan unbound e []) top) ≤ steps unbound e
  pub most : steps unbound e ≤ 2 * length (parts e)

-- The same of an operation: if it plans, its entries are at most so many steps, and these at most twice so many nodes.
abbrev pub StepsBetween : ℕ → ℕ → Outcome → Type 0
StepsBetween n nodes (refused r) = Unit {0}
StepsBetween n nodes (planned form side es) = (length es ≤ n) × (n ≤ 2 * nodes)

abbrev pub StepsOfRoot : Tables → Scope → ScopingMode → ℕ → Outcome → Type 0
StepsOfRoot T s mode root o = StepsBetween (steps (is_unbound s mode) (expr T root)) (length (parts (expr T root))) o

pub record OutcomeSteps (T : Tables) (s : Scope) (root : ℕ) : Type 0 where
  pub pattern : (mode : ScopingMode) → StepsOfRoot T s mode root (pattern_outcome T s mode root)
  pub index : StepsOfRoot T s RespectParent root (index_outcome T s root)
  pub parameter : (mode : ScopingMode) → StepsOfRoot T s mode root (parameter_outcome T s mode root)

-- Planning goes into each item and each field's value by calling itself, from the call that went into the array or object: how many calls stand in each other.
unfoldable mutual
  pub levels : Expr → ℕ
  levels (literal n l) = 1
  levels (name n x) = 1
  levels (wildcard n) = 1
  levels (array n es) = 1 + levels_all es
  levels (set n es) = 1
  levels (object n fs) = 1 + levels_fields fs
  levels (other n) = 1

  pub levels_all : Exprs → ℕ
  levels_all none = 0
  levels_all (item e es) = max (levels e) (levels_all es)

  pub levels_fields : Fields → ℕ
  levels_fields done = 0
  levels_fields (field k v fs) = max (levels v) (levels_fields fs)

-- Never more than the tree is deep, so at most 32 where the table check passes.
pub record LevelLaws : Type 0 where
  pub most : (e : Expr) → levels e ≤ depth e
  pub bounded : (T : Tables) (s : Scope) (root : ℕ) → checked T s ≡ passed → is_node T root ≡ true → levels (expr T root) ≤ 32
