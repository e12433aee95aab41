-- Validation: the first name of a pattern that is defined already.
use Rattle.std.proofs.Common.{Result, Err}
use Prim.Native.Nat.{ℕ, ◌-◌}
use mathlib.Core.Path.{◌≡◌, refl, sym, ap, ◌∙◌}
use mathlib.Core.List.{List, []}
use mathlib.Core.Bool.{Bool, true, false, cond, ◌&&◌, ◌||◌, not}
use native.Mathlib.Omega.{arith}
use borrow.Author.Tests.{ne_eqb, not-true, not-false}
use lib.Dec.{eqb}
use lib.ListN.{length, get_or, replicate}
use Rattle.scope.specs.declared.Scope.{Scope}
use Rattle.scope.specs.declared.ScopingMode.{ScopingMode}
use Rattle.scope.specs.declared.ScopingMode.TheVariants.{RespectParent, AllowShadowing}
use Rattle.scope.specs.Scope.{is_unbound}
use Rattle.table.specs.Tables.{Tables, name_bytes}
use Rattle.table.specs.Names.{class_of, same_bytes, underscore_bytes, input_bytes, data_bytes}
use Rattle.table.specs.Decode.{expr, is_wildcard}
use Rattle.base.specs.Lists.{elem}
use Rattle.table.specs.code.Sound.{Named}
use Rattle.planner.specs.Entries.{Closed}
use Rattle.planner.specs.declared.Plan.{Plan}
use Rattle.planner.specs.declared.PlanRefusal.{PlanRefusal}
use Rattle.planner.specs.declared.PlanRefusal.TheVariants.{VariableAlreadyDefined}
use Rattle.planner.specs.Plan.{after}
use Rattle.planner.specs.Names.{occurrences, first_node}
use Rattle.planner.specs.Parameters.{already_defined}
use Rattle.planner.specs.Operations.{is_reserved, reserved, validated, pattern_outcome, parameter_outcome, answered, written, Answered}
use Rattle.planner.specs.code.Passes.{binder_of}
use Rattle.planner.specs.code.Post.{Walks, GoodRoot, PatternPlanned}
use Rattle.planner.specs.code.Validation.{defined_mark, flag_by, flags_of, marked_in, defined_in, first_defined, planned_if, outcome_if}
use Rattle.planner.proofs.laws.Names.{first_agree}
use Rattle.planner.proofs.laws.States.{flags_each}
use Rattle.planner.proofs.laws.Operations.{pattern_tracked, pattern_closed}
use Rattle.planner.proofs.buffer.Copies.{wrote_long}

-- the states tell `_`, and of any other name whether it is defined already
module _ (bs : List ℕ) (binder : ℕ) (u : Bool) where
  mark_below : eqb (defined_mark binder u) 2 ≡ false
  mark_below = go (eqb binder 0) u
    where
      go : (b u : Bool) → eqb (cond b (cond u 0 1) 0) 2 ≡ false
      go true true = refl
      go true false = refl
      go false u = refl

  mark_one : eqb (defined_mark binder u) 1 ≡ (eqb binder 0 && not u)
  mark_one = go (eqb binder 0) u
    where
      go : (b u : Bool) → eqb (cond b (cond u 0 1) 0) 1 ≡ (b && not u)
      go true true = refl
      go true false = refl
      go false u = refl

  class_wild : eqb (flag_by true (class_of bs) binder u) 2 ≡ same_bytes bs underscore_bytes
  unfolding class_of
  class_wild = go (same_bytes bs underscore_bytes) refl (same_bytes bs input_bytes || same_bytes bs data_bytes) refl
    where
      go : (a : Bool) → same_bytes bs underscore_bytes ≡ a → (b : Bool) → (same_bytes bs input_bytes || same_bytes bs data_bytes) ≡ b → eqb (flag_by true (class_of bs) binder u) 2 ≡ same_bytes bs underscore_bytes
      go true p b q = simp p
      go false p true q = simp (p, q)
      go false p false q = simp (p, q) mark_below

  class_defined : same_bytes bs underscore_bytes ≡ false → eqb (flag_by true (class_of bs) binder u) 1 ≡ (not (is_reserved (class_of bs)) && (eqb binder 0 && not u))
  unfolding class_of
  class_defined p = go (same_bytes bs input_bytes || same_bytes bs data_bytes) refl
    where
      go : (b : Bool) → (same_bytes bs input_bytes || same_bytes bs data_bytes) ≡ b → eqb (flag_by true (class_of bs) binder u) 1 ≡ (not (is_reserved (class_of bs)) && (eqb binder 0 && not u))
      go true q = simp (p, q)
      go false q = simp (p, q) mark_one

module _ (T : Tables) (s : Scope) (binders : List ℕ) (root : ℕ) (g : GoodRoot T root) where
  module _ (mode : ScopingMode) {states : List ℕ} (of : states ≡ flags_of T.names T.text s mode true binders) where
    flag : (x : ℕ) → Named T x → get_or states (x - 1) 0 ≡ flag_by true (class_of (name_bytes T.names T.text x)) (binder_of binders x) (is_unbound s mode x)
    flag x v = flags_each T.names T.text s mode true binders of g.table.limits.names x v.low v.high

    pub ask_first : Walks T states root
    ask_first = record {
      table = g.table;
      states_ok = record {
        wild = λ x v.
            sym (ap (λ (m : ℕ). eqb m 2) (flag x v)
            ∙ class_wild (name_bytes T.names T.text x) (binder_of binders x) (is_unbound s mode x));
      };
      node = g.node;
    }

  pub first_validated : {states : List ℕ} {r : ℕ} → states ≡ flags_of T.names T.text s RespectParent true binders → r ≡ first_node (marked_in states) (occurrences true false (expr T root)) → r ≡ first_defined T s binders root
  unfolding reserved
  first_validated {states} of e = e ∙ first_agree true false T g.table root g.node (marked_in states) (defined_in T s binders) (λ x v named.
      ap (λ (m : ℕ). eqb m 1) (flag RespectParent of x v)
      ∙ class_defined (name_bytes T.names T.text x) (binder_of binders x) (is_unbound s RespectParent x) named)

-- a pattern that is validated
module _ (T : Tables) (s : Scope) (mode : ScopingMode) (root : ℕ) (g : GoodRoot T root) {at : ℕ} {before binders mid : List ℕ} {count : ℕ} (p : PatternPlanned T s mode root at before binders mid count) where
  defined_same : (x : ℕ) → Named T x → is_wildcard T x ≡ false → defined_in T s binders x ≡ already_defined (reserved T) (is_unbound s RespectParent) (after (is_unbound s mode) (expr T root) []) x
  defined_same x v named =
      let l = v.low in
      let h = v.high in
      let few = g.table.limits.names in
      let t = pattern_tracked g.table g.node p x (record { low = omega arith; high = omega arith }) in
      let e : eqb (binder_of binders x) 0 ≡ not (elem x (after (is_unbound s mode) (expr T root) [])) = sym (ap not t ∙ twice (eqb (binder_of binders x) 0)) in
      ap (λ (b : Bool). not (reserved T x) && (b && not (is_unbound s RespectParent x))) e
    where
      twice : (b : Bool) → not (not b) ≡ b
      twice true = refl
      twice false = refl

  -- by the binders of its plan, or by the names that the plan tracks
  pub validated_by : first_defined T s binders root ≡ validated T s mode root
  unfolding validated
  validated_by = first_agree true false T g.table root g.node (defined_in T s binders) (already_defined (reserved T) (is_unbound s RespectParent) (after (is_unbound s mode) (expr T root) [])) defined_same

-- a pattern, refused or planned
module _ (T : Tables) (s : Scope) (mode : ScopingMode) (root : ℕ) (validate : Bool) {before binders mid later : List ℕ} {count : ℕ} (p : PatternPlanned T s mode root 0 before binders mid count) where
  pub unvalidated_closed : {r : Result Plan PlanRefusal} → not validate ≡ true → Closed 0 count mid later r → Answered (planned_if validate T s mode root) before later r
  unvalidated_closed off d = let v = not-true validate off in simp v (pattern_closed T s mode root p d)

  module _ (g : GoodRoot T root) (on : not validate ≡ false) {x : ℕ} (is : x ≡ first_defined T s binders root) where
    pub plan_refused : (x ≡ 0 → ⊥) → later ≡ replicate (length mid) 0 → Answered (planned_if validate T s mode root) before later (Err (VariableAlreadyDefined x))
    unfolding answered written
    plan_refused some e =
        let v = not-false validate on in
        let c : validated T s mode root ≡ x = sym (is ∙ validated_by T s mode root g p) in
        let z = ne_eqb x 0 some in
        let long = wrote_long p.wrote in
        record { answer = simp (v, c, z); buffer = simp (v, c, z) (rw long at e) }

    pub validated_closed : {r : Result Plan PlanRefusal} → x ≡ 0 → Closed 0 count mid later r → Answered (planned_if validate T s mode root) before later r
    validated_closed {r} none-defined d =
        let v = not-false validate on in
        let c : validated T s mode root ≡ 0 = sym (is ∙ validated_by T s mode root g p) ∙ none-defined in
        simp (v, c) (pattern_closed T s mode root p d)

-- a parameter, by its scoping
module _ (T : Tables) (s : Scope) {mode : ScopingMode} (root : ℕ) {before later : List ℕ} {r : Result Plan PlanRefusal} where
  pub parameter_respects : mode ≡ RespectParent → Answered (pattern_outcome T s mode root) before later r → Answered (parameter_outcome T s mode root) before later r
  parameter_respects m a = simp m (rw m at a)

  pub parameter_shadows : mode ≡ AllowShadowing → Answered (outcome_if true T s mode root) before later r → Answered (parameter_outcome T s mode root) before later r
  parameter_shadows m a = simp m (rw m at a)
