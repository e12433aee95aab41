-- The planning operations, answer by answer.
use Prim.Native.Nat.{ℕ, ◌+◌, ◌-◌}
use mathlib.Core.Path.{◌≡◌, refl, sym, ap, subst, ◌∙◌}
use mathlib.Core.List.{List, [], ◌∷◌}
use mathlib.Core.Bool.{Bool, true, false, not}
use native.Mathlib.Omega.{arith}
use borrow.Author.Tests.{leb-true, not-true, not-false}
use lib.Dec.{eqb, leb}
use lib.ListN.{length, get_or, replicate}
use Rattle.scope.specs.declared.Scope.{Scope}
use Rattle.scope.specs.declared.ScopingMode.{ScopingMode}
use Rattle.base.specs.Refusal as Refusal
use Rattle.std.proofs.Common.{Result, Ok, Err}
use Rattle.table.specs.declared.TableRefusal.{TableRefusal}
use Rattle.table.specs.Tables.{Tables, node_count, is_node}
use Rattle.table.specs.Check.{checked, table_refused, TableAnswered, tested_of, all_nodes}
use Rattle.base.specs.Lists.{elem}
use Rattle.table.specs.Decode.{expr}
use Rattle.scope.specs.Scope.{is_unbound}
use Rattle.table.specs.code.Sound.{Node, WellFormed}
use Rattle.table.proofs.tests.Bools.{and_true}
use Rattle.table.proofs.trees.Facts.{sound_table}
use Rattle.planner.specs.Names.{states_of}
use Rattle.planner.specs.declared.Plan.{Plan}
use Rattle.planner.specs.declared.PlanRefusal.{PlanRefusal}
use Rattle.planner.specs.declared.PlanRefusal.TheVariants.{TableRefused, RootOutside}
use Rattle.base.specs.Refusal.{Refusal, refusal_line, passed, root_outside}
use Rattle.planner.specs.Answer.{line_of}
use Rattle.planner.specs.Plan.{DestructuringPlan, after}
use Rattle.planner.specs.Layout.{top, entries}
use Rattle.planner.specs.Steps.{written_steps, plan_steps, steps}
use Rattle.planner.specs.Entries.{Wrote, Closed}
use Rattle.planner.specs.Operations.{Outcome, refused, answered, written, Answered, table_first, checked_first, plan_of, pattern_planned}
use Rattle.planner.specs.code.Passes.{unbound_in}
use Rattle.planner.specs.code.Post.{NameNumber, PlanAsks, PlannedBy, PatternAsks, PatternPlanned, GoodRoot}
use Rattle.planner.proofs.laws.Binders.{bound_agree_of}
use Rattle.planner.proofs.laws.SamePlan.{states_wild, same_plan, same_binders}
use Rattle.planner.proofs.buffer.Copies.{wrote_closed}

-- a pattern under a scope
module _ (T : Tables) (s : Scope) (mode : ScopingMode) (root : ℕ) {start : List ℕ} (at : ℕ) (a : PatternAsks T root start at) where
  module _ {states : List ℕ} (of : states ≡ states_of T.names T.text s mode) where
    pub ask_plan : PlanAsks T states root start at
    ask_plan = record { walks = record { table = a.table; states_ok = states_wild T s mode states of a.table; node = a.node }; none_bound = a.none_bound; low = a.low }

    pub pattern_planned_lem : {before binders later : List ℕ} {r : ℕ} → PlannedBy T states root 0 at before binders later r → PatternPlanned T s mode root at before binders later r
    pattern_planned_lem {before} {binders} {later} {r} p = record {
      bound = p.bound ∙ same_binders T s mode states of a.table root a.node (replicate 128 0);
      wrote = subst (λ (q : DestructuringPlan). Wrote before at (entries q top) later r) (same_plan T s mode states of a.table root a.node []) p.wrote;
      few = p.few;
      space = p.space;
    }

    pub pattern_steps : {later : ℕ} → later ≡ steps (unbound_in states) (expr T root) → later ≡ steps (is_unbound s mode) (expr T root)
    unfolding steps
    pattern_steps e = e ∙ ap (λ (p : DestructuringPlan). written_steps (expr T root) + plan_steps p) (same_plan T s mode states of a.table root a.node [])

-- the names that the plan tracks have binders
pub pattern_tracked : {T : Tables} {s : Scope} {mode : ScopingMode} {root at : ℕ} {before binders later : List ℕ} {r : ℕ} → WellFormed T → Node T root → PatternPlanned T s mode root at before binders later r
    → (x : ℕ) → NameNumber x → elem x (after (is_unbound s mode) (expr T root) []) ≡ not (eqb (get_or binders (x - 1) 0) 0)
pattern_tracked {T} {s} {mode} {root} w v p x named =
    bound_agree_of T w (is_unbound s mode) root v x named.low named.high ∙ ap (λ (bs : List ℕ). not (eqb (get_or bs (x - 1) 0) 0)) (sym p.bound)

pub refuses : (a : Refusal) {r : Result Plan PlanRefusal} {before later : List ℕ} → line_of r ≡ refusal_line a → later ≡ replicate (length before) 0 → Answered (refused a) before later r
unfolding answered written
refuses a l e = record { answer = l; buffer = e }

-- the table check, the root, and a plan that is delivered
pub check_passes : (T : Tables) (s : Scope) {c : Result Unit TableRefusal} → TableAnswered T s c → c ≡ (Ok tt) → checked T s ≡ passed
check_passes T s is sound = sym is.answer ∙ ap tested_of sound

pub sound_well : (T : Tables) (s : Scope) {c : Result Unit TableRefusal} → TableAnswered T s c → c ≡ (Ok tt) → WellFormed T
sound_well T s is sound = (sound_table T s (check_passes T s is sound)).well_formed_lem

is-node : (T : Tables) (root : ℕ) {inside : Bool} → inside ≡ is_node T root → not inside ≡ false → is_node T root ≡ true
is-node T root {inside} told in_table = sym told ∙ not-false inside in_table

pub root_node : (T : Tables) (root : ℕ) {inside : Bool} → inside ≡ is_node T root → not inside ≡ false → Node T root
root_node T root told in_table =
    let b = and_true (leb 1 root) _ (is-node T root told in_table) in
    record { low = leb-true 1 root b.0; high = leb-true root (node_count T) b.1 }

pub good_root : (T : Tables) (s : Scope) {c : Result Unit TableRefusal} → TableAnswered T s c → c ≡ (Ok tt) → (root : ℕ) {inside : Bool} → inside ≡ is_node T root → not inside ≡ false → GoodRoot T root
good_root T s is sound root told in_table = record { table = sound_well T s is sound; node = root_node T root told in_table }

-- a table that passed the check, and the roots of an operation
module _ (T : Tables) (s : Scope) (sound : checked T s ≡ passed) (roots : List ℕ) (o : Outcome) {before later : List ℕ} where
  pub roots_refuse : all_nodes T roots ≡ false → later ≡ replicate (length before) 0 → Answered (checked_first T s roots o) before later (Err RootOutside)
  roots_refuse out e = simp (sound, out) (refuses root_outside refl e)

  pub roots_pass : {r : Result Plan PlanRefusal} → all_nodes T roots ≡ true → Answered o before later r → Answered (checked_first T s roots o) before later r
  roots_pass inside p = simp (sound, inside) p

module _ (T : Tables) (s : Scope) {c : Result Unit TableRefusal} (is : TableAnswered T s c) (before : List ℕ) where
  pub table_refuses : (o : Outcome) {d : TableRefusal} {later : List ℕ} → c ≡ Err d → {r : PlanRefusal} → r ≡ TableRefused d → later ≡ replicate (length before) 0 → Answered (table_first (checked T s) o) before later (Err r)
  table_refuses o {d} p named e = let q : checked T s ≡ Refusal.refused (table_refused d) = sym is.answer ∙ ap tested_of p in simp q (refuses (table_refused d) (ap (λ (x : PlanRefusal). line_of (Err x)) named) e)

  module _ (sound : c ≡ Ok tt) where
    module _ (root : ℕ) {inside : Bool} (told : inside ≡ is_node T root) where
      pub root_refuses : (o : Outcome) {later : List ℕ} → not inside ≡ true → later ≡ replicate (length before) 0 → Answered (checked_first T s (root ∷ []) o) before later (Err RootOutside)
      root_refuses o {later} out e = let r : is_node T root ≡ false = sym told ∙ not-true inside out in roots_refuse T s (check_passes T s is sound) (root ∷ []) o (rw r) e

      module _ (in_table : not inside ≡ false) where
        -- the operation goes on
        pub goes_on : (o : Outcome) {later : List ℕ} {r : Result Plan PlanRefusal} → Answered o before later r → Answered (checked_first T s (root ∷ []) o) before later r
        goes_on o {later} {r} p = let n = is-node T root told in_table in roots_pass T s (check_passes T s is sound) (root ∷ []) o (rw n) p

-- a pattern's plan in the lent buffer
pub ask_pattern : (T : Tables) (root : ℕ) → GoodRoot T root → PatternAsks T root (replicate 128 0) 0
ask_pattern T root g = record { table = g.table; node = g.node; none_bound = refl; low = omega arith }

pub pattern_closed : (T : Tables) (s : Scope) (mode : ScopingMode) (root : ℕ) {binders before mid later : List ℕ} {count : ℕ} {r : Result Plan PlanRefusal}
    → PatternPlanned T s mode root 0 before binders mid count → Closed 0 count mid later r → Answered (pattern_planned T s mode root) before later r
pattern_closed T s mode root p d = wrote_closed 0 (entries (plan_of T s mode root) top) p.wrote d
