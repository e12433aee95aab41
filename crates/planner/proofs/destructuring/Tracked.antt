-- The two passes together: a pattern's plan from no names.
use Prim.Native.Nat.{ℕ, ◌+◌}
use mathlib.Core.Path.{◌≡◌, ap, subst, ◌∙◌}
use mathlib.Core.List.{List, []}
use native.Mathlib.Omega.{arith}
use lib.ListN.{length, replicate}
use Rattle.table.specs.Tables.{Tables}
use Rattle.table.specs.Decode.{expr}
use Rattle.table.proofs.trees.Forest.{tree_few}
use Rattle.planner.specs.Plan.{plan}
use Rattle.planner.specs.Layout.{Entry, below, entries}
use Rattle.planner.specs.Steps.{written_steps, steps}
use Rattle.planner.specs.code.Passes.{unbound_in, binders_of, lay_out}
use Rattle.planner.specs.Entries.{Wrote}
use Rattle.planner.specs.code.Post.{StepRoom, LayAsks, PlanAsks, PlannedBy}
use Rattle.planner.proofs.Places.{long_anywhere}
use Rattle.planner.proofs.laws.Binders.{lay_plan_of}
use Rattle.planner.proofs.destructuring.Steps.{written_few}
use Rattle.planner.proofs.laws.Sizes.{lay_few_of, lay_space_of}

module _ (T : Tables) (states : List ℕ) (root position : ℕ) {start : List ℕ} (at : ℕ) (a : PlanAsks T states root start at) where
  pub tracked_room : (binders : List ℕ) → LayAsks T states binders root (below 0 position) at
  tracked_room binders = record { walks = a.walks; room = let l = a.low in omega (arith, lay_few_of T a.walks.table binders root a.walks.node (below 0 position)) }

  pub written_room : StepRoom 0 (written_steps (expr T root))
  written_room = let f = tree_few T a.walks.table root a.walks.node in let w = written_few (expr T root) in record { room = omega arith }

  pub laid_room : (binders : List ℕ) {steps : ℕ} → steps ≡ 0 + written_steps (expr T root) → StepRoom steps (length (lay_out binders (expr T root) (below 0 position)))
  laid_room binders e =
      let f = tree_few T a.walks.table root a.walks.node in
      let w = written_few (expr T root) in
      let l = lay_few_of T a.walks.table binders root a.walks.node (below 0 position) in
      record { room = omega arith }

  planned_entries : {binders : List ℕ} → binders ≡ binders_of (unbound_in states) (expr T root) start → lay_out binders (expr T root) (below 0 position) ≡ entries (plan (unbound_in states) (expr T root) []) (below 0 position)
  planned_entries {binders} b =
      let bound : binders ≡ binders_of (unbound_in states) (expr T root) (replicate 128 0) = rw a.none_bound at b in
      ap (λ (bs : List ℕ). lay_out bs (expr T root) (below 0 position)) bound ∙ lay_plan_of T a.walks.table (unbound_in states) root a.walks.node (below 0 position)

  pub tracked_steps : {binders : List ℕ} {mid later : ℕ} → binders ≡ binders_of (unbound_in states) (expr T root) start → mid ≡ 0 + written_steps (expr T root)
      → later ≡ mid + length (lay_out binders (expr T root) (below 0 position)) → later ≡ steps (unbound_in states) (expr T root)
  unfolding steps
  tracked_steps {binders} {mid} {later} b m l =
      let n = ap length (planned_entries b) ∙ long_anywhere (plan (unbound_in states) (expr T root) []) (below 0 position) in
      omega arith

  pub tracked : {binders before after : List ℕ} {r : ℕ} → binders ≡ binders_of (unbound_in states) (expr T root) start → Wrote before at (lay_out binders (expr T root) (below 0 position)) after r → PlannedBy T states root position at before binders after r
  tracked {binders} {before} {after} {r} b l =
      let bound : binders ≡ binders_of (unbound_in states) (expr T root) (replicate 128 0) = rw a.none_bound at b in
      let e = l.end in
      record {
        bound = bound;
        wrote = subst (λ (es : List Entry). Wrote before at es after r) (planned_entries b) l;
        few = omega (arith, lay_few_of T a.walks.table binders root a.walks.node (below 0 position));
        space = omega (arith, lay_space_of T a.walks.table binders root a.walks.node (below 0 position));
      }
