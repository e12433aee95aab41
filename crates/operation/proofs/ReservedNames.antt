-- The search for a reserved name.
use Prim.Native.Nat.{ℕ, ◌+◌, ◌-◌, ◌≤◌, ◌<◌}
use mathlib.Core.Path.{◌≡◌, refl, sym, ap, ◌∙◌}
use mathlib.Core.Bool.{Bool, true, false, cond, not, ◌&&◌, ◌||◌}
use mathlib.Core.List.{List}
use native.Mathlib.Omega.{arith}
use borrow.Author.Tests.{ne_eqb, eqb-true, not-true, not-false}
use lib.Dec.{eqb}
use lib.ListN.{get_or, set}
use Rattle.base.specs.Lists.{tabulate}
use Rattle.scope.specs.declared.Scope.{Scope}
use Rattle.scope.specs.declared.ScopingMode.{ScopingMode}
use Rattle.scope.specs.Scope.{is_unbound}
use Rattle.table.specs.declared.NameClass.{NameClass}
use Rattle.table.specs.declared.NameClass.TheVariants.{Underscore, InputOrData, Ordinary}
use Rattle.table.specs.Tables.{Tables, name_bytes}
use Rattle.table.specs.Names.{class_of, same_bytes, underscore_bytes, input_bytes, data_bytes}
use Rattle.table.specs.Decode.{expr}
use Rattle.table.specs.code.Sound.{Named}
use Rattle.planner.specs.Names.{occurrences, first_node, state_by, unbound_mark, states_of}
use Rattle.planner.specs.Operations.{is_reserved, reserved}
use Rattle.planner.specs.code.Post.{Walks, GoodRoot}
use Rattle.planner.specs.code.Validation.{marked_in}
use Rattle.planner.proofs.laws.Names.{first_agree}
use Rattle.planner.proofs.laws.States.{states_each}
use Rattle.planner.proofs.buffer.Filling.{Filling, filling_on, filling_ends, get_d_tabulate}
use Rattle.operation.specs.declared.Operation.{Operation}
use Rattle.operation.specs.declared.patterns.Patterns.{Patterns}
use Rattle.operation.specs.Version.{patterns_of, reserved_in, reserved_among, first_reserved}
use Rattle.operation.specs.code.Reserved.{reserved_state, reserved_state_at, reserved_states, listed}

-- by the class of the name
module _ (class : NameClass) (state : ℕ) where
  pub kept_underscore : {c : NameClass} → c ≡ class → c ≡ Underscore → state ≡ reserved_state class state
  kept_underscore is e = simp (sym is ∙ e)

  pub kept_reserved : {c : NameClass} → c ≡ class → c ≡ InputOrData → state ≡ reserved_state class state
  kept_reserved is e = simp (sym is ∙ e)

  pub not_reserved : {c : NameClass} → c ≡ class → c ≡ Ordinary → 0 ≡ reserved_state class state
  not_reserved is e = simp (sym is ∙ e)

pub reserved_on : (names text states : List ℕ) {i v : ℕ} {here : List ℕ} → Filling (reserved_state_at names text states) 128 i here → i < 128
    → v ≡ reserved_state (class_of (name_bytes names text (i + 1))) (get_or states i 0) → Filling (reserved_state_at names text states) 128 (i + 1) (set here i v)
reserved_on names text states go lt e = filling_on {count = 128} go lt (omega arith) e

pub reserved_end : (names text : List ℕ) (s : Scope) (mode : ScopingMode) {states here : List ℕ} {i : ℕ} → states ≡ states_of names text s mode
    → Filling (reserved_state_at names text states) 128 i here → 128 ≤ i → here ≡ reserved_states names text s mode
reserved_end names text s mode {states} is go le =
    let long = go.long in
    filling_ends go (omega arith) ∙ ap (λ (l : List ℕ). tabulate (reserved_state_at names text l) 0 128) is

-- the states tell `_`, and of any other name whether it is reserved and unbound
module _ (bs : List ℕ) (u : Bool) where
  mark_two : eqb (unbound_mark u) 2 ≡ false
  mark_two = go u
    where
      go : (u : Bool) → eqb (unbound_mark u) 2 ≡ false
      go true = refl
      go false = refl

  mark_one : eqb (unbound_mark u) 1 ≡ u
  mark_one = go u
    where
      go : (u : Bool) → eqb (unbound_mark u) 1 ≡ u
      go true = refl
      go false = refl

  class_wild : eqb (reserved_state (class_of bs) (state_by (class_of bs) u)) 2 ≡ same_bytes bs underscore_bytes
  unfolding class_of
  class_wild = go (same_bytes bs underscore_bytes) refl (same_bytes bs input_bytes || same_bytes bs data_bytes) refl
    where
      go : (a : Bool) → same_bytes bs underscore_bytes ≡ a → (b : Bool) → (same_bytes bs input_bytes || same_bytes bs data_bytes) ≡ b
          → eqb (reserved_state (class_of bs) (state_by (class_of bs) u)) 2 ≡ same_bytes bs underscore_bytes
      go true p b q = simp p
      go false p true q = simp (p, q) mark_two
      go false p false q = simp (p, q)

  class_reserved : same_bytes bs underscore_bytes ≡ false → eqb (reserved_state (class_of bs) (state_by (class_of bs) u)) 1 ≡ (is_reserved (class_of bs) && u)
  unfolding class_of
  class_reserved p = go (same_bytes bs input_bytes || same_bytes bs data_bytes) refl
    where
      go : (b : Bool) → (same_bytes bs input_bytes || same_bytes bs data_bytes) ≡ b → eqb (reserved_state (class_of bs) (state_by (class_of bs) u)) 1 ≡ (is_reserved (class_of bs) && u)
      go true q = simp (p, q) mark_one
      go false q = simp (p, q)

module _ (T : Tables) (s : Scope) (mode : ScopingMode) (root : ℕ) (g : GoodRoot T root) {states : List ℕ} (of : states ≡ reserved_states T.names T.text s mode) where
  state : (x : ℕ) → Named T x
      → get_or states (x - 1) 0 ≡ reserved_state (class_of (name_bytes T.names T.text x)) (state_by (class_of (name_bytes T.names T.text x)) (is_unbound s mode x))
  state x v =
      let l = v.low in
      let h = v.high in
      let few = g.table.limits.names in
      let all = states_of T.names T.text s mode in
      let at : 0 + (x - 1) ≡ x - 1 = omega arith in
      let same : x - 1 + 1 ≡ x = omega arith in
      ap (λ (f : List ℕ). get_or f (x - 1) 0) of
      ∙ (get_d_tabulate (reserved_state_at T.names T.text all) 0 128 (x - 1) (omega arith)
      ∙ (ap (reserved_state_at T.names T.text all) at
      ∙ (ap (λ (y : ℕ). reserved_state (class_of (name_bytes T.names T.text y)) (get_or all (x - 1) 0)) same
      ∙ ap (reserved_state (class_of (name_bytes T.names T.text x))) (states_each T.names T.text s mode refl few x l h))))

  pub ask_reserved : Walks T states root
  ask_reserved = record {
    table = g.table;
    states_ok = record { wild = λ x v. sym (ap (λ (m : ℕ). eqb m 2) (state x v) ∙ class_wild (name_bytes T.names T.text x) (is_unbound s mode x)) };
    node = g.node;
  }

  pub reserved_found : {r : ℕ} → r ≡ first_node (marked_in states) (occurrences false false (expr T root)) → r ≡ reserved_in T s mode root
  unfolding reserved_in reserved
  reserved_found e = e ∙ first_agree false false T g.table root g.node (marked_in states) (λ x. reserved T x && is_unbound s mode x) (λ x v named.
      ap (λ (m : ℕ). eqb m 1) (state x v)
      ∙ class_reserved (name_bytes T.names T.text x) (is_unbound s mode x) named)

-- one pattern after the other
module _ (T : Tables) (s : Scope) (operation : Operation) (p : Patterns) (is : listed p ≡ patterns_of operation) {node : ℕ} (found : node ≡ reserved_in T s p.scoping p.first) where
  along : {n : ℕ} → n ≡ reserved_among T s (listed p) → n ≡ first_reserved T s operation
  along e = e ∙ ap (reserved_among T s) is

  pub reserved_first : (node ≡ 0 → ⊥) → node ≡ first_reserved T s operation
  unfolding reserved_among
  reserved_first some = along (rw (sym found, ne_eqb node 0 some) refl)

  module _ (none : node ≡ 0) where
    pub reserved_none : not p.two ≡ true → 0 ≡ first_reserved T s operation
    unfolding reserved_among
    reserved_none one = along (rw (sym found ∙ none, not-true p.two one) refl)

    pub reserved_second : not p.two ≡ false → {next : ℕ} → next ≡ reserved_in T s p.scoping p.second → next ≡ first_reserved T s operation
    unfolding reserved_among
    reserved_second two {next} e = along (rw (sym found ∙ none, not-false p.two two, sym e) (go (eqb next 0) refl))
      where
        go : (b : Bool) → eqb next 0 ≡ b → next ≡ cond (eqb next 0) 0 next
        go true z = rw z (eqb-true next 0 z)
        go false z = rw z refl
