-- Fields in key order are as many as written exactly where their literal keys differ.
use Prim.Native.Nat.{ℕ, zero, suc, ◌+◌, ◌*◌, ◌≤◌, ◌<◌}
use mathlib.Core.Path.{◌≡◌, refl, sym, ap, ap₂, ◌∙◌}
use mathlib.Core.List.{List, [], ◌∷◌, map}
use mathlib.Core.Bool.{Bool, true, false, cond, ◌&&◌, ◌||◌, not, and-false}
use mathlib.Core.Option.{Option}
use native.Mathlib.Omega.{arith}
use borrow.Author.Tests.{eq-eqb, ne_eqb}
use lib.Dec.{eqb}
use lib.ListN.{length, length-append, length-map}
use Rattle.literal.specs.Literal.{Literal}
use Rattle.literal.specs.Order.{Order, less, same, more, opposite, key_order}
use Rattle.literal.proofs.Orders.{key_order_lem}
use Rattle.table.specs.Tables.{Tables}
use Rattle.table.specs.Decode.{expr, fields}
use Rattle.table.specs.code.Sound.{Node, WellFormed}
use Rattle.planner.specs.Layout.{Slot, placed, insert, FieldOrder, no_fields, add_field, held_in, in_order}
use Rattle.planner.specs.code.Passes.{key_node, field_key, order_from, order_of}
use Rattle.planner.specs.code.Post.{OrderAsks, OrderedBy}
use Rattle.table.specs.Names.{is_same}
use Rattle.planner.specs.Simple.{same_key, has_key, differing, add_key, keys_of}
use Rattle.planner.proofs.fields.FieldOrder.{AllSlots, Above, Sorted, none_sorted, insert_sorted}
use Rattle.planner.proofs.fields.Objects.{key_literal}
use Rattle.value.specs.code.Post.{KeysAsks}
use Rattle.value.proofs.Admitted.{key-node}

opposite_same : (o : Order) → is_same (opposite o) ≡ is_same o
opposite_same less = refl
opposite_same same = refl
opposite_same more = refl

pub same_key_sym : (a b : Literal) → same_key a b ≡ same_key b a
same_key_sym a b = sym (ap is_same (key_order_lem.antisymmetric a b) ∙ opposite_same (key_order a b))

-- the keys of slots
abbrev slot_key : Slot ℕ → Literal
slot_key s = s.at

abbrev slot_keys : List (Slot ℕ) → List Literal
slot_keys ss = map slot_key ss

above_no_key : (l k : Literal) (ss : List (Slot ℕ)) → key_order l k ≡ less → Above k ss → has_key l (slot_keys ss) ≡ false
unfolding AllSlots has_key
above_no_key l k [] e a = refl
above_no_key l k (t ∷ ts) e a = let h = key_order_lem.transitive l k t.at e a.0 in rw h (above_no_key l k ts e a.1)

insert_length : (s : Slot ℕ) (ss : List (Slot ℕ)) → Sorted ss → length (insert s ss) ≡ cond (has_key s.at (slot_keys ss)) (length ss) (suc (length ss))
unfolding insert Sorted has_key
insert_length s [] h = refl
insert_length s (t ∷ ts) h = go (key_order s.at t.at) refl (insert_length s ts h.1)
  where
    after : (c : Bool) → length (insert s ts) ≡ cond c (length ts) (suc (length ts)) → suc (length (insert s ts)) ≡ cond c (suc (length ts)) (suc (suc (length ts)))
    after true e = ap suc e
    after false e = ap suc e

    go : (o : Order) → key_order s.at t.at ≡ o → length (insert s ts) ≡ cond (has_key s.at (slot_keys ts)) (length ts) (suc (length ts))
        → length (placed o s t ts (insert s ts)) ≡ cond (is_same o || has_key s.at (slot_keys ts)) (suc (length ts)) (suc (suc (length ts)))
    go less e r = let none_there = above_no_key s.at t.at ts e h.0 in rw none_there
    go same e r = refl
    go more e r = after (has_key s.at (slot_keys ts)) r

swap_or : (a b c : Bool) → (a || (b || c)) ≡ (b || (a || c))
swap_or true true c = refl
swap_or true false c = refl
swap_or false b c = refl

insert_keys : (k : Literal) (s : Slot ℕ) (ss : List (Slot ℕ)) → has_key k (slot_keys (insert s ss)) ≡ (same_key k s.at || has_key k (slot_keys ss))
unfolding insert has_key
insert_keys k s [] = refl
insert_keys k s (t ∷ ts) = go (key_order s.at t.at) refl (insert_keys k s ts)
  where
    twice : (a c : Bool) → (a || c) ≡ (a || (a || c))
    twice true c = refl
    twice false c = refl

    go : (o : Order) → key_order s.at t.at ≡ o → has_key k (slot_keys (insert s ts)) ≡ (same_key k s.at || has_key k (slot_keys ts))
        → has_key k (slot_keys (placed o s t ts (insert s ts))) ≡ (same_key k s.at || (same_key k t.at || has_key k (slot_keys ts)))
    go less e r = refl
    go same e r = let q = key_order_lem.equal s.at t.at e in rw (← q) (twice (same_key k s.at) (has_key k (slot_keys ts)))
    go more e r = ap (λ (b : Bool). same_key k t.at || b) r ∙ swap_or (same_key k t.at) (same_key k s.at) (has_key k (slot_keys ts))

-- keys that differ from each other and from others
apart : List Literal → List Literal → Bool
apart [] ls = true
apart (k ∷ ks) ls = not (has_key k ls) && apart ks ls

apart_none : (ks : List Literal) → apart ks [] ≡ true
unfolding apart has_key
apart_none [] = refl
apart_none (k ∷ ks) = apart_none ks

apart_insert : (s : Slot ℕ) (ks : List Literal) (ss : List (Slot ℕ)) → apart ks (slot_keys (insert s ss)) ≡ (not (has_key s.at ks) && apart ks (slot_keys ss))
unfolding apart has_key
apart_insert s [] ss = refl
apart_insert s (k ∷ ks) ss =
    rw (insert_keys k s ss, apart_insert s ks ss, same_key_sym k s.at)
    (shuffle (same_key s.at k) (has_key k (slot_keys ss)) (has_key s.at ks) (apart ks (slot_keys ss)))
  where
    shuffle : (a b c d : Bool) → (not (a || b) && (not c && d)) ≡ (not (a || c) && (not b && d))
    shuffle true b c d = refl
    shuffle false true true d = refl
    shuffle false true false d = refl
    shuffle false false true d = refl
    shuffle false false false d = refl

-- the keys of k fields from field i on
key_list : (ℕ → Option Literal) → ℕ → ℕ → List Literal
key_list key i zero = []
key_list key i (suc k) = add_key (key i) (key_list key (i + 1) k)

abbrev Literals : (ℕ → Option Literal) → ℕ → ℕ → Type 0
Literals key i k = (j : ℕ) → j < k → (l : Literal) × (key (i + j) ≡ Option.some l)

module _ (key : ℕ → Option Literal) where
  first_literal : (i k : ℕ) → Literals key i (suc k) → (l : Literal) × (key i ≡ Option.some l)
  first_literal i k each = let z : i + 0 ≡ i = omega arith in rw z at (each 0 (omega arith))

  rest_literals : (i k : ℕ) → Literals key i (suc k) → Literals key (i + 1) k
  rest_literals i k each j lt = let e : i + (j + 1) ≡ i + 1 + j = omega arith in rw e at (each (j + 1) (omega arith))

  order_step : (i k : ℕ) (o : FieldOrder ℕ) (l : Literal) → key i ≡ Option.some l → order_from key i (suc k) o ≡ order_from key (i + 1) k (add_field (Option.some l) i o)
  unfolding order_from
  order_step i k o l q = ap (λ (x : Option Literal). order_from key (i + 1) k (add_field x i o)) q

  keys_step : (i k : ℕ) (l : Literal) → key i ≡ Option.some l → key_list key i (suc k) ≡ l ∷ key_list key (i + 1) k
  unfolding key_list
  keys_step i k l q = ap (λ (x : Option Literal). add_key x (key_list key (i + 1) k)) q

  -- literal keys leave no computed field
  none_computed : (i k : ℕ) (o : FieldOrder ℕ) → Literals key i k → o.computed ≡ [] → (order_from key i k o).computed ≡ []
  unfolding order_from
  none_computed i zero o each e = e
  none_computed i (suc k) o each e =
      let (l, q) = first_literal i k each in
      ap (λ (f : FieldOrder ℕ). f.computed) (order_step i k o l q) ∙ none_computed (i + 1) k (add_field (Option.some l) i o) (rest_literals i k each) e

  slot : ℕ → Literal → Slot ℕ
  slot i l = record { at = l; held = i }

  few : (i k : ℕ) (o : FieldOrder ℕ) → Literals key i k → Sorted o.literals → length (order_from key i k o).literals ≤ k + length o.literals
  unfolding order_from slot
  few i zero o each h = omega arith
  few i (suc k) o each h =
      let (l, q) = first_literal i k each in
      let at_most : length (insert (slot i l) o.literals) ≤ suc (length o.literals) = one (has_key l (slot_keys o.literals)) (insert_length (slot i l) o.literals h) in
      let r = few (i + 1) k (add_field (Option.some l) i o) (rest_literals i k each) (insert_sorted key_order_lem (slot i l) o.literals h) in
      let here : length (order_from key i (suc k) o).literals ≡ length (order_from key (i + 1) k (add_field (Option.some l) i o)).literals = ap (λ (f : FieldOrder ℕ). length f.literals) (order_step i k o l q) in
      omega arith
    where
      one : {n m : ℕ} (c : Bool) → n ≡ cond c m (suc m) → n ≤ suc m
      one true e = omega arith
      one false e = omega arith

  all_new : (i k : ℕ) (o : FieldOrder ℕ) → Literals key i k → Sorted o.literals
      → eqb (length (order_from key i k o).literals) (k + length o.literals) ≡ (differing (key_list key i k) && apart (key_list key i k) (slot_keys o.literals))
  unfolding order_from key_list differing apart slot
  all_new i zero o each h = let z : length o.literals ≡ 0 + length o.literals = omega arith in eq-eqb (length o.literals) (0 + length o.literals) z
  all_new i (suc k) o each h =
      let (l, q) = first_literal i k each in
      let s = slot i l in
      let sorted = insert_sorted key_order_lem s o.literals h in
      ap (λ (f : FieldOrder ℕ). eqb (length f.literals) (suc k + length o.literals)) (order_step i k o l q)
      ∙ (go l (has_key l (slot_keys o.literals)) refl (insert_length s o.literals h)
      (few (i + 1) k (add_field (Option.some l) i o) (rest_literals i k each) sorted)
      (all_new (i + 1) k (add_field (Option.some l) i o) (rest_literals i k each) sorted)
      ∙ sym (ap (λ (ls : List Literal). differing ls && apart ls (slot_keys o.literals)) (keys_step i k l q)))
    where
      ks : List Literal
      ks = key_list key (i + 1) k

      old : List Literal
      old = slot_keys o.literals

      drawn : (a b c : Bool) → (b && (not a && c)) ≡ ((not a && b) && c)
      drawn true true c = refl
      drawn true false c = refl
      drawn false b c = refl

      go : (l : Literal) (c : Bool) → has_key l old ≡ c → length (insert (slot i l) o.literals) ≡ cond c (length o.literals) (suc (length o.literals))
          → length (order_from key (i + 1) k (add_field (Option.some l) i o)).literals ≤ k + length (insert (slot i l) o.literals)
          → eqb (length (order_from key (i + 1) k (add_field (Option.some l) i o)).literals) (k + length (insert (slot i l) o.literals)) ≡ (differing ks && apart ks (slot_keys (insert (slot i l) o.literals)))
          → eqb (length (order_from key (i + 1) k (add_field (Option.some l) i o)).literals) (suc k + length o.literals) ≡ ((not (has_key l ks) && differing ks) && (not (has_key l old) && apart ks old))
      go l true p size at_most ih =
          let n = ne_eqb (length (order_from key (i + 1) k (add_field (Option.some l) i o)).literals) (suc k + length o.literals) (λ e. omega arith) in
          n ∙ sym (ap (λ (b : Bool). (not (has_key l ks) && differing ks) && (not b && apart ks old)) p ∙ and-false (not (has_key l ks) && differing ks))
      go l false p size at_most ih =
          let e : k + length (insert (slot i l) o.literals) ≡ suc k + length o.literals = omega arith in
          (rw e at ih)
          ∙ (ap (λ (b : Bool). differing ks && b) (apart_insert (slot i l) ks o.literals)
          ∙ (drawn (has_key l ks) (differing ks) (apart ks old)
          ∙ sym (ap (λ (b : Bool). (not (has_key l ks) && differing ks) && (not b && apart ks old)) p)))

-- the keys of an object's fields
module _ (T : Tables) (w : WellFormed T) (first : ℕ) where
  keys_listed : (i k : ℕ) → ((j : ℕ) → j < k → Node T (key_node T first (i + j))) → keys_of (fields (expr T) T.children (first + i * 2) k) ≡ key_list (field_key T first) i k
  unfolding keys_of fields key_list
  keys_listed i zero nodes = refl
  keys_listed i (suc k) nodes =
      let z : i + 0 ≡ i = omega arith in
      let e : first + i * 2 + 2 ≡ first + (i + 1) * 2 = omega arith in
      let here = key_literal T w (key_node T first i) (rw z at (nodes 0 (omega arith))) in
      let rest = keys_listed (i + 1) k (λ j lt. let q : i + (j + 1) ≡ i + 1 + j = omega arith in rw q at (nodes (j + 1) (omega arith))) in
      ap₂ add_key here (ap (λ (a : ℕ). keys_of (fields (expr T) T.children a k)) e ∙ rest)

module _ (T : Tables) (first size : ℕ) (a : KeysAsks T first size) where
  pub ask_order : OrderAsks T first size
  ask_order = record { table = a.children.table; listed = a.children.listed; keys = λ i lt. key-node a.children i lt }

  literals : Literals (field_key T first) 0 size
  literals j lt =
      let z : 0 + j ≡ j = omega arith in
      rw z (a.children.table.literals (key_node T first j) (key-node a.children j lt) (a.literal j lt))

  pub count_differs : {order : List ℕ} {total : ℕ} → OrderedBy T first size order total → eqb total size ≡ differing (keys_of (fields (expr T) T.children first size))
  unfolding Sorted
  count_differs {order} {total} by =
      let o = order_of T first size in
      let z : first + 0 * 2 ≡ first = omega arith in
      let keys = keys_listed T a.children.table first 0 size (λ j lt. let y : 0 + j ≡ j = omega arith in rw y (key-node a.children j lt)) in
      let empty = none_computed (field_key T first) 0 size no_fields literals refl in
      let long : length (in_order o) ≡ length o.literals = length-append (map held_in o.literals) o.computed ∙ (rw empty (omega (arith, length-map o.literals held_in))) in
      let new = all_new (field_key T first) 0 size no_fields literals (none_sorted ℕ) in
      let y : size + 0 ≡ size = omega arith in
      ap (λ (k : ℕ). eqb k size) (by.total ∙ long)
      ∙ ((rw y at new) ∙ (ap (λ (b : Bool). differing (key_list (field_key T first) 0 size) && b) (apart_none (key_list (field_key T first) 0 size))
      ∙ (right_true (differing (key_list (field_key T first) 0 size)) ∙ ap differing (sym (rw z at keys)))))
    where
      right_true : (c : Bool) → (c && true) ≡ c
      right_true true = refl
      right_true false = refl
