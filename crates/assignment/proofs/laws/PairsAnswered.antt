-- The pairs of two simple sides of a table, as they are answered.
use Prim.Native.Nat.{ℕ}
use mathlib.Core.Path.{◌≡◌, refl, ap, subst}
use mathlib.Core.Bool.{Bool, true, false, cond, not, ◌&&◌}
use mathlib.Core.List.{List, [], ◌∷◌}
use native.Mathlib.Omega.{arith}
use lib.Dec.{eqb}
use Rattle.scope.specs.declared.Scope.{Scope}
use Rattle.scope.specs.declared.ScopingMode.TheVariants.{RespectParent}
use Rattle.table.specs.Tables.{Tables, is_node}
use Rattle.table.specs.Decode.{expr}
use Rattle.base.specs.Refusal as Refusal
use Rattle.table.specs.Check.{checked, all_nodes}
use Rattle.table.specs.code.Sound.{Node, WellFormed}
use Rattle.table.proofs.tests.Bools.{and_true}
use Rattle.table.proofs.trees.Facts.{sound_table}
use Rattle.planner.specs.Answer.{planned_as}
use Rattle.base.specs.Refusal.{root_outside, incompatible_destructuring_patterns, Tested}
use Rattle.planner.specs.Layout.{Entry, top, entries, binds_any}
use Rattle.planner.specs.Simple.{simple}
use Rattle.planner.specs.Operations.{Outcome, planned, Answered, require, table_first, plan_of}
use Rattle.planner.specs.Entries.{read_entries}
use Rattle.planner.proofs.buffer.ReadBack.{read_back}
use Rattle.planner.proofs.laws.Operations.{root_node}
use Rattle.checks.specs.declared.LiteralStructureCheck.{LiteralStructureCheck}
use Rattle.checks.specs.declared.LiteralStructureCheck.TheVariants.{Match, Unknown, ArrayMismatch, ObjectMismatch}
use Rattle.checks.specs.declared.Reading.{Reading}
use Rattle.checks.specs.Structure.{structure}
use Rattle.checks.specs.Refusals.{unless_mismatch}
use Rattle.assignment.specs.Pairs.{shape_of}
use Rattle.assignment.specs.PairsPromise.{EntriesPromise}
use Rattle.assignment.proofs.laws.PairsInOrder.{pairs_promise}
use Rattle.assignment.proofs.laws.PairsPlanned.{Keeps, pairs_keep}
use Rattle.assignment.specs.declared.AssignOp.TheVariants.{Eq}
use Rattle.assignment.specs.Assignment.{opposed, bind_side, by_sides, side_of, equals_sides, equals_planned, assignment_outcome}
use Rattle.assignment.specs.PairsDemand.{AnswerPromise, PairsDemand}

module _ (T : Tables) (s : Scope) where
  bind_keeps : (form binding value : ℕ) (reading : Reading) (es : List Entry) → (form ≡ 4 → ⊥) → Keeps T s (bind_side T form binding value reading es)
  bind_keeps form binding value reading es other = go (opposed (shape_of (expr T binding)) (shape_of (expr T value))) (structure reading (expr T value) (expr T binding))
    where
      go : (b : Bool) (c : LiteralStructureCheck) → Keeps T s (require (not b) (incompatible_destructuring_patterns binding) (unless_mismatch c (planned form 0 es)))
      go true c = tt
      go false Match = λ e. absurd (other e)
      go false Unknown = λ e. absurd (other e)
      go false (ArrayMismatch v n m) = tt
      go false (ObjectMismatch v p) = tt

  module _ (left right : ℕ) (p : simple (expr T left) ≡ true) (q : simple (expr T right) ≡ true) where
    sides_keep : (reading : Reading) (w : WellFormed T) → Node T left → Node T right → (b c : Bool) (ls rs : List Entry) → Keeps T s (by_sides b c T s left right reading ls rs)
    sides_keep reading w l r true true ls rs = pairs_keep T s w left right l r p q
    sides_keep reading w l r true false ls rs = bind_keeps 2 left right reading ls (λ e. omega arith)
    sides_keep reading w l r false true ls rs = bind_keeps 3 right left reading rs (λ e. omega arith)
    sides_keep reading w l r false false ls rs = λ e. absurd (omega arith)

    outcome_keeps : (reading : Reading) → Keeps T s (assignment_outcome T s Eq left right reading)
    outcome_keeps reading = go (checked T s) refl
      where
        in_table : checked T s ≡ Refusal.passed → (b : Bool) → all_nodes T (left ∷ (right ∷ [])) ≡ b → (c : Bool) → Keeps T s (require b root_outside (cond c (equals_sides T s left right reading) (planned 6 (side_of T left right) [])))
        in_table ok false i c = tt
        in_table ok true i false = λ e. absurd (omega arith)
        in_table ok true i true =
            let b = and_true (is_node T left) (is_node T right && true) i in
            let d = and_true (is_node T right) true b.1 in
            let ls = entries (plan_of T s RespectParent left) top in
            let rs = entries (plan_of T s RespectParent right) top in
            sides_keep reading (sound_table T s ok).well_formed_lem (root_node T left refl (ap not b.0)) (root_node T right refl (ap not d.0))
            (binds_any ls) (binds_any rs) ls rs

        go : (c : Tested) → checked T s ≡ c → Keeps T s (table_first c (require (all_nodes T (left ∷ (right ∷ []))) root_outside (equals_planned T s left right reading)))
        go Refusal.passed ok = in_table ok (all_nodes T (left ∷ (right ∷ []))) refl (eqb (side_of T left right) 0)
        go (Refusal.refused r) e = tt

    buffer_keeps : (o : Outcome) → Keeps T s o → (before after : List ℕ) (side count : ℕ) → Answered o before after (planned_as 4 side count) → EntriesPromise T s (read_entries after 0 count)
    buffer_keeps o k before after side count r = (subst (Keeps T s) (read_back o r).is k) refl

    pub answer_promise : AnswerPromise T s left right
    answer_promise = record {
      entries = λ reading side es e. (rw e at (outcome_keeps reading)) refl;
      buffer = λ reading before after side count r. buffer_keeps (assignment_outcome T s Eq left right reading) (outcome_keeps reading) before after side count r;
    }

pub pairs_demand : PairsDemand
pairs_demand = record { pairs = pairs_promise; answers = answer_promise }
