-- A mismatch of the careful reading: no fillings of two simple expressions are equal, whatever values each side's names have.
use Prim.Native.Nat.{ℕ, ◌+◌}
use mathlib.Core.Path.{◌≡◌, refl, sym, ap, ◌∙◌}
use mathlib.Core.Logic.{◌⊎◌, inl, inr, ⊎_elim}
use mathlib.Core.Bool.{Bool, true, false, cond, ◌&&◌, false≢true}
use mathlib.Core.List.{List, [], ◌∷◌, map}
use mathlib.Core.Option.{Option}
use mathlib.Core.Option as Option
use borrow.Author.Tests.{eqb-false}
use lib.Dec.{T, eqb}
use Rattle.literal.specs.Literal.{Literal}
use Rattle.table.specs.Expr.{Expr, literal, name, wildcard, array, set, object, other, Exprs, none, item, Fields, done, field, count}
use Rattle.table.proofs.tests.Bools.{or_true}
use Rattle.planner.specs.Layout.{literal_key, Slot, FieldOrder, no_fields}
use Rattle.planner.specs.Held.{is_empty, value_order}
use Rattle.planner.specs.Simple.{differing, keys_of, is_literal, admitted, simple, simple_all, simple_fields}
use Rattle.planner.proofs.fields.FieldOrder.{AllSlots}
use Rattle.planner.proofs.laws.PlanLaws.{or_left, or_right}
use Rattle.checks.specs.declared.Reading.TheVariants.{Careful}
use Rattle.checks.specs.declared.LiteralStructureCheck.{LiteralStructureCheck}
use Rattle.checks.specs.declared.LiteralStructureCheck.TheVariants.{Match, Unknown, ArrayMismatch, ObjectMismatch}
use Rattle.checks.specs.Joining.{is_mismatch, and_then, joined}
use Rattle.checks.specs.Structure.{slot_text, key_texts, sort_texts, ValueField, is_under, partners, ordered_checks, field_checks, object_structure, structure, item_checks, value_fields}
use Rattle.checks.specs.Structure as Structure
use Rattle.checks.proofs.laws.Readings.{any_mismatch, joined_mismatch, last_mismatch, fields_mismatch, fields_step}
use Rattle.value.specs.Value.{Value, ValueFields, keysᵛ, within, same_key_sets, under, same, same_items, same_fields_lem, Same}
use Rattle.value.proofs.Keys.{and_left, and_right, true_is, key→}
use Rattle.matching.specs.Matching.{under_key, Blanks, BlanksAll, BlanksFields, fill, fill_all, fill_fields_lem}
use Rattle.matching.proofs.Fits.{fill_keys, field_parts}
use Rattle.shape_refusals.proofs.Plain.{written_texts}
use Rattle.shape_refusals.proofs.Texts.{texts, same_texts_lem, texts_refl}
use Rattle.shape_refusals.proofs.Slots.{Found, slots_found, slot_texts}

-- equal arrays are of one length
pub same_count : (ρ σ : ℕ → Value) (es ps : Exprs) (b : BlanksAll es) (c : BlanksAll ps) → T (same_items (fill_all ρ es b) (fill_all σ ps c)) → count es ≡ count ps
unfolding fill same count
same_count ρ σ none none b c t = refl
same_count ρ σ none (item p ps) b c t = absurd t
same_count ρ σ (item e es) none b c t = absurd t
same_count ρ σ (item e es) (item p ps) b c t =
    ap (λ (n : ℕ). 1 + n) (same_count ρ σ es ps b.1 c.1 (and_right (same (fill ρ e b.0) (fill σ p c.0)) (same_items (fill_all ρ es b.1) (fill_all σ ps c.1)) t))

-- equal objects
module _ (ρ σ : ℕ → Value) (fs gs : Fields) (b : BlanksFields fs) (c : BlanksFields gs) (t : T (same_key_sets (keysᵛ (fill_fields_lem ρ fs b)) (keysᵛ (fill_fields_lem σ gs c)))) where
  -- have the same keys
  pub same_sets : T (within (keys_of fs) (keys_of gs)) × T (within (keys_of gs) (keys_of fs))
  same_sets =
      let h : T (same_key_sets (keys_of fs) (keys_of gs)) = rw (fill_keys ρ fs b, fill_keys σ gs c) at t in
      (and_left (within (keys_of fs) (keys_of gs)) (within (keys_of gs) (keys_of fs)) h, and_right (within (keys_of fs) (keys_of gs)) (within (keys_of gs) (keys_of fs)) h)

  -- so the same texts
  agreeing : T (differing (keys_of fs)) → T (differing (keys_of gs)) → Structure.same_keys (value_order gs no_fields).literals fs ≡ true
  unfolding texts
  agreeing d e =
      let p : sort_texts (map slot_text (value_order gs no_fields).literals) ≡ sort_texts (key_texts fs) =
      slot_texts gs e ∙ (sym (same_texts_lem (keys_of fs) (keys_of gs) d e same_sets.0 same_sets.1) ∙ sym (ap sort_texts (written_texts fs))) in
      rw p (texts_refl (sort_texts (key_texts fs)))

-- a mismatch of two objects: one of their keys, or of their fields
object_mismatch : (n m : ℕ) (fs : Fields) (order : FieldOrder Expr) (c : LiteralStructureCheck) → is_mismatch (object_structure n m fs order c) ≡ true
    → (Structure.same_keys order.literals fs ≡ false) ⊎ (is_mismatch c ≡ true)
object_mismatch n m fs order c = go (is_empty order.literals) (is_empty order.computed) (Structure.same_keys order.literals fs)
  where
    go : (e b s : Bool) → is_mismatch (cond e (cond b Match Unknown) (cond s (and_then c (cond b Match Unknown)) (ObjectMismatch n m))) ≡ true → (s ≡ false) ⊎ (is_mismatch c ≡ true)
    go true true s t = absurd (false≢true t)
    go true false s t = absurd (false≢true t)
    go false b true t = inr (last_mismatch c b t)
    go false b false t = inl refl

-- a value field's own mismatch, with a slot of which P holds
abbrev Own : (Slot Expr → Type 0) → ValueField → Type 0
Own P v = (s : Slot Expr) × P s × (is_under s.at v.key ≡ true) × (is_mismatch (v.against s.held) ≡ true)

-- a mismatch of fields is the first one's own, or one of the others
fields_split : (P : Slot Expr → Type 0) (ss : List (Slot Expr)) → AllSlots P ss → (v : ValueField) (vs : List ValueField) → fields_mismatch ss (v ∷ vs) ≡ true → Own P v ⊎ (fields_mismatch ss vs ≡ true)
unfolding AllSlots ordered_checks any_mismatch partners
fields_split P [] all v vs t = absurd (false≢true t)
fields_split P (s ∷ ss) all v vs t =
    ⊎_elim (go (is_under s.at v.key) refl)
    (λ h. ⊎_elim inl (λ r. inr (fields_step s ss vs ∙ or_right (any_mismatch (partners s vs)) (fields_mismatch ss vs) r)) (fields_split P ss all.1 v vs h))
    (or_true (any_mismatch (partners s (v ∷ vs))) (fields_mismatch ss (v ∷ vs)) (sym (fields_step s ss (v ∷ vs)) ∙ t))
  where
    others : any_mismatch (partners s vs) ≡ true → Own P v ⊎ (fields_mismatch (s ∷ ss) vs ≡ true)
    others h = inr (fields_step s ss vs ∙ or_left (any_mismatch (partners s vs)) (fields_mismatch ss vs) h)

    go : (u : Bool) → is_under s.at v.key ≡ u → any_mismatch (cond u (v.against s.held ∷ partners s vs) (partners s vs)) ≡ true → Own P v ⊎ (fields_mismatch (s ∷ ss) vs ≡ true)
    go true e m = ⊎_elim (λ h. inl (s, all.0, e, h)) others (or_true (is_mismatch (v.against s.held)) (any_mismatch (partners s vs)) m)
    go false e m = others m

-- without a value field there is none
no_fields_lem : (ss : List (Slot Expr)) → fields_mismatch ss [] ≡ false
unfolding ordered_checks partners any_mismatch
no_fields_lem [] = refl
no_fields_lem (s ∷ ss) = no_fields_lem ss

-- two values under one key are the same
pub same_under : (u w x : Value) (κ : Option Literal) (l : Literal) (us : ValueFields) → is_under l κ ≡ true → under_key κ us ≡ Option.some w → Same u w → under l us ≡ Option.some x → Same u x
same_under u w x Option.none l us i e t f = absurd (false≢true i)
same_under u w x (Option.some k) l us i e t f =
    let q : k ≡ l = key→ k l (true_is i) in
    let h : under l us ≡ Option.some w = rw q at e in
    let z : w ≡ x = cc in
    rw z at t

mutual
  unfolding structure field_checks fill same admitted any_mismatch

  -- a mismatch of value and pattern
  pub check_differs : (v p : Expr) → T (simple v) → T (simple p) → is_mismatch (structure Careful v p) ≡ true → (ρ σ : ℕ → Value) (b : Blanks v) (c : Blanks p) → Same (fill ρ v b) (fill σ p c) → ⊥
  check_differs (literal n l) p x y m ρ σ b c t = false≢true m
  check_differs (name n k) p x y m ρ σ b c t = false≢true m
  check_differs (wildcard n) p x y m ρ σ b c t = false≢true m
  check_differs (array n es) (literal k l) x y m ρ σ b c t = false≢true m
  check_differs (array n es) (name k l) x y m ρ σ b c t = false≢true m
  check_differs (array n es) (wildcard k) x y m ρ σ b c t = false≢true m
  check_differs (array n es) (array k ps) x y m ρ σ b c t =
      go (eqb (count es) (count ps)) refl m (λ h. items_differ es ps x y (sym (joined_mismatch (item_checks Careful es ps)) ∙ h) ρ σ b c t)
    where
      go : (e : Bool) → eqb (count es) (count ps) ≡ e → is_mismatch (cond e (joined Careful (item_checks Careful es ps)) (ArrayMismatch n (count ps) (count es))) ≡ true → (is_mismatch (joined Careful (item_checks Careful es ps)) ≡ true → ⊥) → ⊥
      go true e h f = f h
      go false e h f = eqb-false (count es) (count ps) e (same_count ρ σ es ps b c t)
  check_differs (array n es) (set k ps) x y m ρ σ b c t = y
  check_differs (array n es) (object k gs) x y m ρ σ b c t = t
  check_differs (array n es) (other k) x y m ρ σ b c t = y
  check_differs (set n es) p x y m ρ σ b c t = x
  check_differs (object n fs) (literal k l) x y m ρ σ b c t = false≢true m
  check_differs (object n fs) (name k l) x y m ρ σ b c t = false≢true m
  check_differs (object n fs) (wildcard k) x y m ρ σ b c t = false≢true m
  check_differs (object n fs) (array k ps) x y m ρ σ b c t = t
  check_differs (object n fs) (set k ps) x y m ρ σ b c t = y
  check_differs (object n fs) (object k gs) x y m ρ σ b c t =
      let d = and_left (differing (keys_of fs)) (simple_fields fs) x in
      let e = and_left (differing (keys_of gs)) (simple_fields gs) y in
      let keys = and_left (same_key_sets (keysᵛ (fill_fields_lem ρ fs b)) (keysᵛ (fill_fields_lem σ gs c))) (same_fields_lem (fill_fields_lem ρ fs b) (fill_fields_lem σ gs c)) t in
      let equal = and_right (same_key_sets (keysᵛ (fill_fields_lem ρ fs b)) (keysᵛ (fill_fields_lem σ gs c))) (same_fields_lem (fill_fields_lem ρ fs b) (fill_fields_lem σ gs c)) t in
      let slots = (value_order gs no_fields).literals in
      ⊎_elim (λ h. false≢true (sym h ∙ agreeing ρ σ fs gs b c keys d e))
      (λ h. fields_differ fs (and_right (differing (keys_of fs)) (simple_fields fs) x) slots (sym (joined_mismatch (ordered_checks slots (value_fields Careful fs))) ∙ h) ρ σ b (fill_fields_lem σ gs c)
      (slots_found σ gs c e (and_right (differing (keys_of gs)) (simple_fields gs) y)) equal)
      (object_mismatch n k fs (value_order gs no_fields) (joined Careful (ordered_checks slots (value_fields Careful fs))) m)
  check_differs (object n fs) (other k) x y m ρ σ b c t = y
  check_differs (other n) p x y m ρ σ b c t = x

  -- of two arrays' items
  items_differ : (es ps : Exprs) → T (simple_all es) → T (simple_all ps) → any_mismatch (item_checks Careful es ps) ≡ true → (ρ σ : ℕ → Value) (b : BlanksAll es) (c : BlanksAll ps) → T (same_items (fill_all ρ es b) (fill_all σ ps c)) → ⊥
  items_differ none ps x y m ρ σ b c t = false≢true m
  items_differ (item e es) none x y m ρ σ b c t = false≢true m
  items_differ (item e es) (item p ps) x y m ρ σ b c t =
      ⊎_elim
      (λ h. check_differs e p (and_left (simple e) (simple_all es) x) (and_left (simple p) (simple_all ps) y) h ρ σ b.0 c.0 (and_left (same (fill ρ e b.0) (fill σ p c.0)) (same_items (fill_all ρ es b.1) (fill_all σ ps c.1)) t))
      (λ h. items_differ es ps (and_right (simple e) (simple_all es) x) (and_right (simple p) (simple_all ps) y) h ρ σ b.1 c.1 (and_right (same (fill ρ e b.0) (fill σ p c.0)) (same_items (fill_all ρ es b.1) (fill_all σ ps c.1)) t))
      (or_true (is_mismatch (structure Careful e p)) (any_mismatch (item_checks Careful es ps)) m)

  -- of the value's fields, with slots that are found in the other object
  fields_differ : (fs : Fields) → T (simple_fields fs) → (ss : List (Slot Expr)) → fields_mismatch ss (value_fields Careful fs) ≡ true → (ρ σ : ℕ → Value) (b : BlanksFields fs) (us : ValueFields)
      → AllSlots (Found σ us) ss → T (same_fields_lem (fill_fields_lem ρ fs b) us) → ⊥
  fields_differ done x ss m ρ σ b us found t = false≢true (sym (no_fields_lem ss) ∙ m)
  fields_differ (field k v fs) x ss m ρ σ b us found t =
      let x' = and_right (is_literal (literal_key k)) (simple v && simple_fields fs) x in
      let (w, e, equal, rest) = field_parts (literal_key k) (and_left (is_literal (literal_key k)) (simple v && simple_fields fs) x) (fill ρ v b.0) (fill_fields_lem ρ fs b.1) us t in
      ⊎_elim
      (λ o. let f = o.1 in
      check_differs v o.0.held (and_left (simple v) (simple_fields fs) x') f.is_simple o.3 ρ σ b.0 f.own
      (same_under (fill ρ v b.0) w (fill σ o.0.held f.own) (literal_key k) o.0.at us o.2 e equal f.there))
      (λ r. fields_differ fs (and_right (simple v) (simple_fields fs) x') ss r ρ σ b.1 us found rest)
      (fields_split (Found σ us) ss found (record { key = literal_key k; against = λ p. structure Careful v p }) (value_fields Careful fs) m)
