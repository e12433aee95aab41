-- Every number of an outcome of `:=` and `=` has at most six digits.
use Prim.Native.Nat.{ℕ, ◌≤◌, ◌<◌}
use mathlib.Core.Path.{◌≡◌, refl, ap}
use mathlib.Core.Bool.{Bool, true, false, cond, not}
use mathlib.Core.List.{List, [], ◌∷◌}
use native.Mathlib.Omega.{arith}
use lib.Dec.{eqb}
use lib.ListN.{length}
use Rattle.scope.specs.declared.Scope.{Scope}
use Rattle.scope.specs.declared.ScopingMode.TheVariants.{RespectParent, AllowShadowing}
use Rattle.scope.specs.Scope.{is_unbound}
use Rattle.table.specs.Tables.{Tables, is_node}
use Rattle.table.specs.Decode.{expr}
use Rattle.table.specs.code.Sound.{WellFormed}
use Rattle.table.proofs.tests.Bools.{and_true}
use Rattle.planner.specs.Layout.{Entry, top, entries, binds_any}
use Rattle.base.specs.Refusal.{colon_equals_requires_bindable_left, variable_already_defined, incompatible_destructuring_patterns}
use Rattle.planner.specs.Operations.{planned, plan_of}
use Rattle.planner.specs.Short.{ShortEntry, Every, ShortOutcome}
use Rattle.planner.proofs.laws.Operations.{root_node}
use Rattle.planner.proofs.laws.ShortPlans.{SmallTree}
use Rattle.planner.proofs.laws.ShortOutcomes.{short, refusal_short, planned_short, require_short, checked_short, root_small, entries_few, entries_short}
use Rattle.checks.specs.declared.Reading.{Reading}
use Rattle.checks.specs.Structure.{structure}
use Rattle.checks.specs.Refusals.{unless_mismatch}
use Rattle.checks.proofs.ShortChecks.{mismatch_short, structure_short}
use Rattle.assignment.specs.Pairs.{shape_of}
use Rattle.assignment.proofs.laws.ShortPairs.{pairs_short}
use Rattle.assignment.specs.declared.AssignOp.{AssignOp}
use Rattle.assignment.specs.declared.AssignOp.TheVariants.{ColEq, Eq}
use Rattle.assignment.specs.Assignment.{opposed, bind_side, binds_again, first_same_scope, colon_equals_planned, is_wildcard_expr, wildcard_side, by_sides, equals_sides, side_of, equals_planned, by_operator, assignment_outcome}

-- a root is a node of at most 512
root_low : (T : Tables) → WellFormed T → (root : ℕ) → is_node T root ≡ true → root ≤ 512
root_low T w root i =
    let v = root_node T root refl (ap not i) in
    let h = v.high in
    let l = w.limits.nodes in
    omega arith

side_low : (a b : Bool) → wildcard_side a b ≤ 3
side_low false false = omega arith
side_low true false = omega arith
side_low false true = omega arith
side_low true true = omega arith

first_short : (nodes : List ℕ) (s : Scope) (es : List Entry) → Every ShortEntry es → first_same_scope nodes s es < 1000000
unfolding first_same_scope
first_short nodes s [] p = omega arith
first_short nodes s (e ∷ es) p = go (binds_again nodes s e.kind e.node) (first_short nodes s es p.1)
  where
    go : (b : Bool) → first_same_scope nodes s es < 1000000 → cond b e.node (first_same_scope nodes s es) < 1000000
    go true r = p.0.front.two
    go false r = r

module _ (T : Tables) (s : Scope) (reading : Reading) where
  bind_short : (form binding value : ℕ) (es : List Entry) → form ≤ 6 → binding ≤ 512 → SmallTree (expr T binding) → SmallTree (expr T value) → length es ≤ 512 → Every ShortEntry es → ShortOutcome (bind_side T form binding value reading es)
  bind_short form binding value es f low small other few each =
      let c = structure reading (expr T value) (expr T binding) in
      require_short (not (opposed (shape_of (expr T binding)) (shape_of (expr T value)))) (incompatible_destructuring_patterns binding) (unless_mismatch c (planned form 0 es)) (refusal_short (omega arith) low)
      (λ t. mismatch_short c (planned form 0 es) (structure_short reading (expr T value) (expr T binding) other small) (planned_short form 0 es f (omega arith) (omega arith) each))

  module _ (w : WellFormed T) (left right : ℕ) (l : is_node T left ≡ true) (r : is_node T right ≡ true) where
    colon_short : ShortOutcome (colon_equals_planned T s left right reading)
    colon_short =
        let small = root_small T w left l in
        let es = entries (plan_of T s AllowShadowing left) top in
        let each : Every ShortEntry es = entries_short T s AllowShadowing left small in
        let low = root_low T w left l in
        require_short (binds_any es) (colon_equals_requires_bindable_left left) _ (refusal_short (omega arith) low)
        (λ t. require_short (eqb (first_same_scope T.nodes s es) 0) (variable_already_defined (first_same_scope T.nodes s es)) _
        (let f = first_short T.nodes s es each in short (omega arith) f (omega arith) (omega arith))
        (λ u. bind_short 1 left right es (omega arith) low small (root_small T w right r) (entries_few T s AllowShadowing left small) each))

    sides_short : (a b : Bool) → ShortOutcome (by_sides a b T s left right reading (entries (plan_of T s RespectParent left) top) (entries (plan_of T s RespectParent right) top))
    sides_short true true = pairs_short (is_unbound s RespectParent) (expr T right) (expr T left) [] (root_small T w right r) (root_small T w left l)
    sides_short false false = planned_short 5 0 [] (omega arith) (omega arith) (omega arith) tt
    sides_short true false =
        bind_short 2 left right (entries (plan_of T s RespectParent left) top) (omega arith) (root_low T w left l) (root_small T w left l) (root_small T w right r)
        (entries_few T s RespectParent left (root_small T w left l)) (entries_short T s RespectParent left (root_small T w left l))
    sides_short false true =
        bind_short 3 right left (entries (plan_of T s RespectParent right) top) (omega arith) (root_low T w right r) (root_small T w right r) (root_small T w left l)
        (entries_few T s RespectParent right (root_small T w right r)) (entries_short T s RespectParent right (root_small T w right r))

    equals_short : ShortOutcome (equals_planned T s left right reading)
    equals_short = go (eqb (side_of T left right) 0)
      where
        go : (b : Bool) → ShortOutcome (cond b (equals_sides T s left right reading) (planned 6 (side_of T left right) []))
        go true = sides_short (binds_any (entries (plan_of T s RespectParent left) top)) (binds_any (entries (plan_of T s RespectParent right) top))
        go false = planned_short 6 (side_of T left right) [] (omega arith) (side_low (is_wildcard_expr (expr T left)) (is_wildcard_expr (expr T right))) (omega arith) tt

    operator_short : (op : AssignOp) → ShortOutcome (by_operator op T s left right reading)
    operator_short ColEq = colon_short
    operator_short Eq = equals_short

pub assignment_short : (T : Tables) (s : Scope) (op : AssignOp) (left right : ℕ) (reading : Reading) → ShortOutcome (assignment_outcome T s op left right reading)
assignment_short T s op left right reading =
    checked_short T s (left ∷ (right ∷ [])) (by_operator op T s left right reading)
    (λ w both. let b = and_true (is_node T left) _ both in operator_short T s reading w left right b.0 (and_true (is_node T right) _ b.1).0 op)
