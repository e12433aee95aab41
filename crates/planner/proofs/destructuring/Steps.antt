-- The steps of a pattern call are at least its entries and at most twice the pattern's nodes; its calls stand at most 32 deep in each other.
use Prim.Native.Nat.{ℕ, ◌≤◌}
use mathlib.Core.Bool.{Bool, true, false}
use mathlib.Core.List.{List, [], ◌∷◌, ◌++◌}
use native.Mathlib.Omega.{arith}
use lib.Dec.{eqb, leb}
use borrow.Author.Tests.{leb-true}
use lib.ListN.{length, length-append}
use Rattle.scope.specs.declared.Scope.{Scope}
use Rattle.scope.specs.declared.ScopingMode.{ScopingMode}
use Rattle.scope.specs.declared.ScopingMode.TheVariants.{RespectParent}
use Rattle.scope.specs.Scope.{is_unbound}
use Rattle.base.specs.Refusal as Refusal
use Rattle.base.specs.Refusal.{Refusal, Tested, root_outside, variable_already_defined}
use Rattle.table.specs.Tables.{Tables, node_count}
use Rattle.table.specs.Expr.{Expr, literal, name, wildcard, array, set, object, other, Exprs, none, item, Fields, done, field, parts, parts_all, parts_fields, depth, depth_all, depth_fields_lem}
use Rattle.table.specs.Decode.{expr}
use Rattle.table.specs.Check.{checked, all_nodes}
use Rattle.table.proofs.trees.Facts.{sound_table}
use Rattle.table.proofs.tests.Bools.{and_true}
use Rattle.planner.specs.Layout.{top}
use Rattle.planner.specs.Operations.{Outcome, require, table_first, checked_first, pattern_planned, pattern_outcome, parameter_check, parameter_outcome}
use Rattle.planner.specs.Steps.{written_steps, written_steps_all, written_steps_fields, steps, StepLaws, StepsBetween, StepsOfRoot, OutcomeSteps, levels, levels_all, levels_fields, LevelLaws}
use Rattle.planner.proofs.laws.ShortPlans.{plan_few}

mutual
  unfolding written_steps parts

  pub written_few : (e : Expr) → written_steps e ≤ length (parts e)
  written_few (literal n l) = omega arith
  written_few (name n x) = omega arith
  written_few (wildcard n) = omega arith
  written_few (array n es) = let h = written_few_all es in omega arith
  written_few (set n es) = omega arith
  written_few (object n fs) = let h = written_few_fields fs in omega arith
  written_few (other n) = omega arith

  written_few_all : (es : Exprs) → written_steps_all es ≤ length (parts_all es)
  written_few_all none = omega arith
  written_few_all (item e es) =
      let h = written_few e in
      let t = written_few_all es in
      let a = length-append (parts e) (parts_all es) in
      omega arith

  written_few_fields : (fs : Fields) → written_steps_fields fs ≤ length (parts_fields fs)
  written_few_fields done = omega arith
  written_few_fields (field k v fs) =
      let h = written_few v in
      let t = written_few_fields fs in
      let a = length-append (parts k) (parts v ++ parts_fields fs) in
      let b = length-append (parts v) (parts_fields fs) in
      omega arith

pub step_laws : (u : ℕ → Bool) (e : Expr) → StepLaws u e
unfolding steps
step_laws u e = record { least = omega arith; most = let w = written_few e in let p = plan_few u e [] top in omega arith }

-- the operations
module _ (n nodes : ℕ) (o : Outcome) (p : StepsBetween n nodes o) where
  require_between : (test : Bool) (r : Refusal) → StepsBetween n nodes (require test r o)
  require_between true r = p
  require_between false r = tt

  checked_between : (T : Tables) (s : Scope) (roots : List ℕ) → StepsBetween n nodes (checked_first T s roots o)
  checked_between T s roots = go (checked T s)
    where
      go : (c : Tested) → StepsBetween n nodes (table_first c (require (all_nodes T roots) root_outside o))
      go Refusal.passed = require_between (all_nodes T roots) root_outside
      go (Refusal.refused r) = tt

module _ (T : Tables) (s : Scope) (mode : ScopingMode) (root : ℕ) where
  planned_between : StepsOfRoot T s mode root (pattern_planned T s mode root)
  planned_between = let l = step_laws (is_unbound s mode) (expr T root) in (l.least, l.most)

  pattern_between : StepsOfRoot T s mode root (pattern_outcome T s mode root)
  pattern_between = checked_between _ _ _ planned_between T s (root ∷ [])

  parameter_between : StepsOfRoot T s mode root (parameter_outcome T s mode root)
  parameter_between =
      let node = parameter_check T s mode root in
      checked_between _ _ _ (require_between _ _ _ planned_between (eqb node 0) (variable_already_defined node)) T s (root ∷ [])

pub outcome_steps : (T : Tables) (s : Scope) (root : ℕ) → OutcomeSteps T s root
outcome_steps T s root = record {
  pattern = λ mode. pattern_between T s mode root;
  index = pattern_between T s RespectParent root;
  parameter = λ mode. parameter_between T s mode root;
}

-- how deep the calls stand in each other
mutual
  unfolding levels depth

  levels_most : (e : Expr) → levels e ≤ depth e
  levels_most (literal n l) = omega arith
  levels_most (name n x) = omega arith
  levels_most (wildcard n) = omega arith
  levels_most (array n es) = let h = levels_most_all es in omega arith
  levels_most (set n es) = omega arith
  levels_most (object n fs) = let h = levels_most_fields fs in omega arith
  levels_most (other n) = omega arith

  levels_most_all : (es : Exprs) → levels_all es ≤ depth_all es
  levels_most_all none = omega arith
  levels_most_all (item e es) = let h = levels_most e in let t = levels_most_all es in omega arith

  levels_most_fields : (fs : Fields) → levels_fields fs ≤ depth_fields_lem fs
  levels_most_fields done = omega arith
  levels_most_fields (field k v fs) = let h = levels_most v in let t = levels_most_fields fs in omega arith

pub level_laws : LevelLaws
level_laws = record {
  most = levels_most;
  bounded = λ T s root ok is.
      let (low, high) = and_true (leb 1 root) (leb root (node_count T)) is in
      let d = (sound_table T s ok).shallow root (record { low = leb-true _ _ low; high = leb-true _ _ high }) in
      let l = levels_most (expr T root) in
      omega arith;
}
