-- A simple object's fields in key order: what stands in a slot stands under its key in every filling.
use Prim.Native.Nat.{ℕ}
use mathlib.Core.Path.{◌≡◌, refl, ap, ◌∙◌}
use mathlib.Core.Logic.{◌⊎◌, inl, inr, ⊎_elim}
use mathlib.Core.Bool.{Bool, true, false, ◌&&◌, ◌||◌}
use mathlib.Core.List.{List, [], ◌∷◌, map}
use mathlib.Core.Option.{Option}
use mathlib.Core.Option as Option
use lib.Dec.{T}
use Rattle.literal.specs.Literal.{Literal}
use Rattle.literal.specs.Order.{Order, less, same, more, key_order}
use Rattle.literal.specs.Text.{key_text}
use Rattle.literal.proofs.Orders.{key_order_lem, never}
use Rattle.table.specs.Expr.{Expr, Fields, done, field}
use Rattle.planner.specs.Layout.{literal_key, Slot, placed, insert, FieldOrder, no_fields, add_field}
use Rattle.planner.specs.Held.{value_order, first_or, held_under}
use Rattle.planner.specs.Simple.{same_key, has_key, differing, add_key, keys_of, is_literal, admitted, simple, simple_fields}
use Rattle.planner.proofs.fields.FieldOrder.{AllSlots, insert_all}
use Rattle.checks.specs.Structure.{slot_text, insert_text, sort_texts}
use Rattle.assignment.specs.Pairs.{has_partner}
use Rattle.value.specs.Value.{Value, ValueFields, fieldᵛ, filled_field, keysᵛ, under}
use Rattle.value.proofs.Keys.{and_left, and_right, or_left, or_right, or_elim, is_true, is_false, true_is, key→, key_refl}
use Rattle.value.proofs.SameValues.{under_has}
use Rattle.matching.specs.Matching.{BlanksFields, Blanks, fill, fill_fields_lem}
use Rattle.matching.proofs.Fits.{fill_keys}
use Rattle.shape_refusals.proofs.Texts.{insert_swap, texts, first_new}

module _ {A : Type 0} where
  -- what holds of every slot
  all_slots : (P Q : Slot A → Type 0) (ss : List (Slot A)) → ((s : Slot A) → P s → Q s) → AllSlots P ss → AllSlots Q ss
  unfolding AllSlots
  all_slots P Q [] f all = tt
  all_slots P Q (s ∷ ss) f all = (f s all.0, all_slots P Q ss f all.1)

  -- holds of the one under a key
  pub held_slot : (P : Slot A → Type 0) (l : Literal) (ss : List (Slot A)) (a : A) → AllSlots P ss → held_under l ss ≡ Option.some a → P (record { at = l; held = a })
  unfolding AllSlots held_under
  held_slot P l [] a all e = never (cc)
  held_slot P l (s ∷ ss) a all e = go (same_key l s.at) refl e (λ h. held_slot P l ss a all.1 h)
    where
      go : (b : Bool) → same_key l s.at ≡ b → first_or b s.held (held_under l ss) ≡ Option.some a → (held_under l ss ≡ Option.some a → P (record { at = l; held = a })) → P (record { at = l; held = a })
      go true p q f =
          let k : l ≡ s.at = key→ l s.at (true_is p) in
          let h : s.held ≡ a = cc in
          rw k (rw (← h) all.0)
      go false p q f = f q

-- something is held under a key: in the first slot, or in the others
has_first : (b : Bool) (e : Expr) (o : Option Expr) → has_partner (first_or b e o) ≡ (b || has_partner o)
has_first true e o = refl
has_first false e o = refl

-- a slot put in hides no key, and shows its own
insert_has : (l : Literal) (s : Slot Expr) (ss : List (Slot Expr)) → T (same_key l s.at || has_partner (held_under l ss)) → T (has_partner (held_under l (insert s ss)))
unfolding held_under insert
insert_has l s [] t = rw (has_first (same_key l s.at) s.held Option.none) t
insert_has l s (u ∷ us) t = go (key_order s.at u.at) refl (or_elim (same_key l s.at) (has_partner (held_under l (u ∷ us))) t inl inr) (λ h. insert_has l s us h)
  where
    old : T (has_partner (held_under l (u ∷ us))) → T (same_key l u.at || has_partner (held_under l us))
    old h = rw (has_first (same_key l u.at) u.held (held_under l us)) at h

    under_first : (v : Slot Expr) (vs : List (Slot Expr)) → T (same_key l v.at) ⊎ T (has_partner (held_under l vs)) → T (has_partner (held_under l (v ∷ vs)))
    under_first v vs h = rw (has_first (same_key l v.at) v.held (held_under l vs)) (⊎_elim (or_left (same_key l v.at) (has_partner (held_under l vs))) (or_right (same_key l v.at) (has_partner (held_under l vs))) h)

    go : (o : Order) → key_order s.at u.at ≡ o → T (same_key l s.at) ⊎ T (has_partner (held_under l (u ∷ us)))
        → (T (same_key l s.at || has_partner (held_under l us)) → T (has_partner (held_under l (insert s us)))) → T (has_partner (held_under l (placed o s u us (insert s us))))
    go less e h f = under_first s (u ∷ us) h
    go same e h f =
        let q : s.at ≡ u.at = key_order_lem.equal s.at u.at e in
        under_first s us (⊎_elim inl (λ r. or_elim (same_key l u.at) (has_partner (held_under l us)) (old r) (λ k. inl (rw q k)) inr) h)
    go more e h f =
        under_first u (insert s us)
        (⊎_elim (λ k. inr (f (or_left (same_key l s.at) (has_partner (held_under l us)) k)))
        (λ r. or_elim (same_key l u.at) (has_partner (held_under l us)) (old r) inl (λ k. inr (f (or_right (same_key l s.at) (has_partner (held_under l us)) k)))) h)

-- so every key of the fields, and of the slots before them, is found
key_from : (l : Literal) (gs : Fields) (o : FieldOrder Expr) → T (has_key l (keys_of gs)) ⊎ T (has_partner (held_under l o.literals)) → T (has_partner (held_under l (value_order gs o).literals))
unfolding value_order keys_of has_key
key_from l done o h = ⊎_elim absurd (λ t. t) h
key_from l (field k v gs) o h = key_from l gs (add_field (literal_key k) v o) (go (literal_key k) h)
  where
    go : (κ : Option Literal) → T (has_key l (add_key κ (keys_of gs))) ⊎ T (has_partner (held_under l o.literals)) → T (has_key l (keys_of gs)) ⊎ T (has_partner (held_under l (add_field κ v o).literals))
    go Option.none t = t
    go (Option.some j) t =
        let here : T (same_key l j || has_partner (held_under l o.literals)) → T (has_partner (held_under l (add_field (Option.some j) v o).literals)) = insert_has l (record { at = j; held = v }) o.literals in
        ⊎_elim (λ a. or_elim (same_key l j) (has_key l (keys_of gs)) a (λ e. inr (here (or_left (same_key l j) (has_partner (held_under l o.literals)) e))) inl)
        (λ b. inr (here (or_right (same_key l j) (has_partner (held_under l o.literals)) b))) t

-- each literal key of an object has a slot
pub key_found : (l : Literal) (gs : Fields) → T (has_key l (keys_of gs)) → T (has_partner (held_under l (value_order gs no_fields).literals))
key_found l gs t = key_from l gs no_fields (inl t)

-- a filling of what the slot holds stands under the slot's key
pub record Found (σ : ℕ → Value) (us : ValueFields) (s : Slot Expr) : Type 0 where
  pub own : Blanks s.held
  pub there : under s.at us ≡ Option.some (fill σ s.held own)
  pub is_simple : T (simple s.held)

-- at the first field
found_here : (j : Literal) (v : Value) (fs : ValueFields) → under j (fieldᵛ j v fs) ≡ Option.some v
unfolding under
found_here j v fs = let e : same_key j j ≡ true = is_true (key_refl j) in rw e

-- past a first field of another key
found_past : (j : Literal) (v : Value) (fs : ValueFields) (l : Literal) (w : Value) → (T (has_key j (keysᵛ fs)) → ⊥) → under l fs ≡ Option.some w → under l (fieldᵛ j v fs) ≡ Option.some w
unfolding under
found_past j v fs l w new e =
    let h : T (has_key l (keysᵛ fs)) = under_has (λ u. true) l fs (rw e tt) in
    let n : same_key l j ≡ false = is_false (λ (t : T (same_key l j)). let q : l ≡ j = key→ l j t in new (rw q at h)) in
    rw n e

module _ (σ : ℕ → Value) (us : ValueFields) where
  -- slots of fields that stand in us
  found_from : (gs : Fields) (c : BlanksFields gs) (o : FieldOrder Expr) → T (differing (keys_of gs)) → T (simple_fields gs)
      → ((l : Literal) (w : Value) → under l (fill_fields_lem σ gs c) ≡ Option.some w → under l us ≡ Option.some w) → AllSlots (Found σ us) o.literals → AllSlots (Found σ us) (value_order gs o).literals
  unfolding value_order keys_of admitted fill
  found_from done c o d p inside all = all
  found_from (field k v gs) c o d p inside all =
      go (literal_key k) d (and_left (is_literal (literal_key k)) (simple v && simple_fields gs) p) inside
      (λ o' d' i' a'. found_from gs c.1 o' d' (and_right (simple v) (simple_fields gs) (and_right (is_literal (literal_key k)) (simple v && simple_fields gs) p)) i' a')
    where
      go : (κ : Option Literal) → T (differing (add_key κ (keys_of gs))) → T (is_literal κ) → ((l : Literal) (w : Value) → under l (filled_field κ (fill σ v c.0) (fill_fields_lem σ gs c.1)) ≡ Option.some w → under l us ≡ Option.some w)
          → ((o' : FieldOrder Expr) → T (differing (keys_of gs)) → ((l : Literal) (w : Value) → under l (fill_fields_lem σ gs c.1) ≡ Option.some w → under l us ≡ Option.some w) → AllSlots (Found σ us) o'.literals → AllSlots (Found σ us) (value_order gs o').literals)
          → AllSlots (Found σ us) (value_order gs (add_field κ v o)).literals
      go Option.none t lit i f = absurd lit
      go (Option.some j) t lit i f =
          let n = first_new j (keys_of gs) t in
          let here : Found σ us (record { at = j; held = v }) = record {
            own = c.0;
            there = i j (fill σ v c.0) (found_here j (fill σ v c.0) (fill_fields_lem σ gs c.1));
            is_simple = and_left (simple v) (simple_fields gs) (and_right (is_literal (literal_key k)) (simple v && simple_fields gs) p);
          } in
          f (add_field (Option.some j) v o) n.1
          (λ l w e. i l w (found_past j (fill σ v c.0) (fill_fields_lem σ gs c.1) l w (λ h. n.0 (rw (fill_keys σ gs c.1) at h)) e))
          (insert_all (Found σ us) (record { at = j; held = v }) o.literals here all)

-- of a simple object's slots
pub slots_found : (σ : ℕ → Value) (gs : Fields) (c : BlanksFields gs) → T (differing (keys_of gs)) → T (simple_fields gs) → AllSlots (Found σ (fill_fields_lem σ gs c)) (value_order gs no_fields).literals
unfolding AllSlots
slots_found σ gs c d p = found_from σ (fill_fields_lem σ gs c) gs c no_fields d p (λ l w e. e) tt

-- a slot of a new key adds its text
insert_texts : (s : Slot Expr) (ss : List (Slot Expr)) → AllSlots (λ t. T (same_key s.at t.at) → ⊥) ss → sort_texts (map slot_text (insert s ss)) ≡ insert_text (slot_text s) (sort_texts (map slot_text ss))
unfolding insert sort_texts AllSlots
insert_texts s [] new = refl
insert_texts s (t ∷ ts) new = go (key_order s.at t.at) refl (insert_texts s ts new.1)
  where
    go : (o : Order) → key_order s.at t.at ≡ o → sort_texts (map slot_text (insert s ts)) ≡ insert_text (slot_text s) (sort_texts (map slot_text ts))
        → sort_texts (map slot_text (placed o s t ts (insert s ts))) ≡ insert_text (slot_text s) (insert_text (slot_text t) (sort_texts (map slot_text ts)))
    go less e h = refl
    go same e h = absurd (new.0 (rw e tt))
    go more e h = ap (insert_text (slot_text t)) h ∙ insert_swap (slot_text t) (slot_text s) (sort_texts (map slot_text ts))

-- texts put into sorted ones, one by one
insert_all_lem : List (List ℕ) → List (List ℕ) → List (List ℕ)
insert_all_lem [] us = us
insert_all_lem (t ∷ ts) us = insert_text t (insert_all_lem ts us)

-- one more may be put in before or after
insert_all_swap : (ts : List (List ℕ)) (t : List ℕ) (us : List (List ℕ)) → insert_all_lem ts (insert_text t us) ≡ insert_text t (insert_all_lem ts us)
unfolding insert_all_lem
insert_all_swap [] t us = refl
insert_all_swap (u ∷ ts) t us = ap (insert_text u) (insert_all_swap ts t us) ∙ insert_swap u t (insert_all_lem ts us)

-- into none: sorted
insert_all_none : (ts : List (List ℕ)) → insert_all_lem ts [] ≡ sort_texts ts
unfolding insert_all_lem sort_texts
insert_all_none [] = refl
insert_all_none (t ∷ ts) = ap (insert_text t) (insert_all_none ts)

-- no slot's key is among keys to come
abbrev Apart : List Literal → Slot Expr → Type 0
Apart ks s = T (has_key s.at ks) → ⊥

-- so fields of new keys add theirs
texts_from_lem : (gs : Fields) (o : FieldOrder Expr) → T (differing (keys_of gs)) → AllSlots (Apart (keys_of gs)) o.literals
    → sort_texts (map slot_text (value_order gs o).literals) ≡ insert_all_lem (map key_text (keys_of gs)) (sort_texts (map slot_text o.literals))
unfolding value_order keys_of insert_all_lem has_key
texts_from_lem done o d apart = refl
texts_from_lem (field k v gs) o d apart = go (literal_key k) d apart (λ o' d' a'. texts_from_lem gs o' d' a')
  where
    go : (κ : Option Literal) → T (differing (add_key κ (keys_of gs))) → AllSlots (Apart (add_key κ (keys_of gs))) o.literals
        → ((o' : FieldOrder Expr) → T (differing (keys_of gs)) → AllSlots (Apart (keys_of gs)) o'.literals
        → sort_texts (map slot_text (value_order gs o').literals) ≡ insert_all_lem (map key_text (keys_of gs)) (sort_texts (map slot_text o'.literals)))
        → sort_texts (map slot_text (value_order gs (add_field κ v o)).literals) ≡ insert_all_lem (map key_text (add_key κ (keys_of gs))) (sort_texts (map slot_text o.literals))
    go Option.none d' a f = f (add_field Option.none v o) d' a
    go (Option.some l) d' a f =
        let n = first_new l (keys_of gs) d' in
        let s : Slot Expr = record { at = l; held = v } in
        let later = all_slots (Apart (l ∷ keys_of gs)) (Apart (keys_of gs)) o.literals (λ t h i. h (or_right (same_key t.at l) (has_key t.at (keys_of gs)) i)) a in
        let new = all_slots (Apart (l ∷ keys_of gs)) (λ t. T (same_key l t.at) → ⊥) o.literals
        (λ t h e. let q : l ≡ t.at = key→ l t.at e in h (or_left (same_key t.at l) (has_key t.at (keys_of gs)) (rw q (key_refl t.at)))) a in
        f (add_field (Option.some l) v o) n.1 (insert_all (Apart (keys_of gs)) s o.literals n.0 later)
        ∙ (ap (insert_all_lem (map key_text (keys_of gs))) (insert_texts s o.literals new) ∙ insert_all_swap (map key_text (keys_of gs)) (key_text l) (sort_texts (map slot_text o.literals)))

-- a simple object's slots have its keys' texts
pub slot_texts : (gs : Fields) → T (differing (keys_of gs)) → sort_texts (map slot_text (value_order gs no_fields).literals) ≡ texts (keys_of gs)
unfolding sort_texts texts AllSlots
slot_texts gs d = texts_from_lem gs no_fields d tt ∙ insert_all_none (map key_text (keys_of gs))
