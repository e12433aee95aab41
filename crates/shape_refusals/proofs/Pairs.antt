-- A refusal 12, 15 or 16 of pairs: no fillings of the two simple sides are equal.
use Prim.Native.Nat.{ℕ, ◌+◌, ◌≤◌}
use mathlib.Core.Path.{◌≡◌, refl, sym, ap, ◌∙◌}
use mathlib.Core.Logic.{◌⊎◌, inl, inr, ⊎_elim}
use mathlib.Core.Bool.{Bool, true, false, cond, ◌&&◌, ◌||◌}
use mathlib.Core.List.{List, [], ◌∷◌, map}
use mathlib.Core.Option.{Option}
use mathlib.Core.Option as Option
use native.Mathlib.Omega.{arith}
use borrow.Author.Tests.{eqb-false}
use lib.Dec.{T, eqb}
use lib.ListN.{length, length-map}
use Rattle.base.specs.Refusal.{Refusal, array_size_mismatch, object_field_count_mismatch, object_key_not_found, incompatible_destructuring_patterns}
use Rattle.literal.specs.Literal.{Literal}
use Rattle.literal.specs.Text.{key_text}
use Rattle.literal.proofs.Orders.{never}
use Rattle.table.specs.Expr.{Expr, literal, name, wildcard, array, set, object, other, Exprs, none, item, Fields, done, field, node_of, count, count_fields}
use Rattle.planner.specs.Plan.{equality_expr}
use Rattle.planner.specs.Layout.{literal_key, Slot, no_fields}
use Rattle.planner.specs.Held.{held_under, value_order}
use Rattle.planner.specs.Simple.{has_key, differing, add_key, keys_of, is_literal, admitted, simple, simple_all, simple_fields}
use Rattle.planner.proofs.fields.FieldOrder.{AllSlots}
use Rattle.checks.specs.Structure.{slot_text, is_under}
use Rattle.checks.proofs.KeyTexts.{sort_length}
use Rattle.assignment.specs.Pairs.{pair, Flat, failed, paired, prepended, further, all_literal, distinct_keys, last_under, has_partner, check_keys, on_partner, binds, side, whole, in_parts, flatten, flatten_all, flatten_fields}
use Rattle.value.specs.Value.{Value, ValueFields, keysᵛ, within, same_key_sets, same, same_items, same_fields_lem, Same}
use Rattle.value.proofs.Keys.{and_left, and_right, is_true, key_refl, within_length}
use Rattle.matching.specs.Matching.{Blanks, BlanksAll, BlanksFields, fill, fill_all, fill_fields_lem}
use Rattle.matching.proofs.Fits.{field_parts}
use Rattle.shape_refusals.proofs.Texts.{texts}
use Rattle.shape_refusals.proofs.Slots.{held_slot, key_found, Found, slots_found, slot_texts}
use Rattle.shape_refusals.proofs.Checks.{same_count, same_sets, same_under}

-- a simple object has as many keys as fields
keys_count : (fs : Fields) → T (simple_fields fs) → length (keys_of fs) ≡ count_fields fs
unfolding admitted keys_of count_fields
keys_count done p = refl
keys_count (field k v fs) p =
    go (literal_key k) (and_left (is_literal (literal_key k)) (simple v && simple_fields fs) p)
    (keys_count fs (and_right (simple v) (simple_fields fs) (and_right (is_literal (literal_key k)) (simple v && simple_fields fs) p)))
  where
    go : (κ : Option Literal) → T (is_literal κ) → length (keys_of fs) ≡ count_fields fs → length (add_key κ (keys_of fs)) ≡ 1 + count_fields fs
    go Option.none i h = absurd i
    go (Option.some l) i h = omega arith

-- and as many slots as keys
distinct_count : (fs : Fields) → T (differing (keys_of fs)) → distinct_keys fs ≡ length (keys_of fs)
unfolding texts
distinct_count fs d =
    sym (length-map (value_order fs no_fields).literals slot_text)
    ∙ (sym (sort_length (map slot_text (value_order fs no_fields).literals)) ∙ (ap length (slot_texts fs d) ∙ (sort_length (map key_text (keys_of fs)) ∙ length-map (keys_of fs) key_text)))

-- no key of the right is missing on the left
keys_pass : (rs ls : Fields) (o : Flat) → T (simple_fields rs) → T (within (keys_of rs) (keys_of ls)) → check_keys rs ls o ≡ o
unfolding check_keys admitted keys_of within
keys_pass done ls o p w = refl
keys_pass (field k v rs) ls o p w =
    go (literal_key k) (and_left (is_literal (literal_key k)) (simple v && simple_fields rs) p) w (keys_pass rs ls o (and_right (simple v) (simple_fields rs) (and_right (is_literal (literal_key k)) (simple v && simple_fields rs) p)))
  where
    go : (κ : Option Literal) → T (is_literal κ) → T (within (add_key κ (keys_of rs)) (keys_of ls)) → (T (within (keys_of rs) (keys_of ls)) → check_keys rs ls o ≡ o)
        → cond (has_partner (last_under κ ls)) (check_keys rs ls o) (failed (object_key_not_found (node_of k))) ≡ o
    go Option.none i t f = absurd i
    go (Option.some l) i t f =
        let e : has_partner (last_under (Option.some l) ls) ≡ true = is_true (key_found l ls (and_left (has_key l (keys_of ls)) (within (keys_of rs) (keys_of ls)) t)) in
        rw e (f (and_right (has_key l (keys_of ls)) (within (keys_of rs) (keys_of ls)) t))

-- a is the refusal, 12 to 16
module _ (u : ℕ → Bool) (a : Refusal) (least : 12 ≤ a.number) (most : a.number ≤ 16) where
  -- which 18 is not
  not_18 : (n : ℕ) → failed (incompatible_destructuring_patterns n) ≡ failed a → ⊥
  not_18 n e =
      let q : incompatible_destructuring_patterns n ≡ a = cc in
      let z : 18 ≡ a.number = ap (λ (x : Refusal). x.number) q in
      omega arith

  -- two sides as one pair give 18 alone
  whole_passes : (l r : Expr) (seen : List ℕ) → whole u l r seen ≡ failed a → ⊥
  whole_passes l r seen = go (binds u l seen) (binds u r seen)
    where
      go : (x y : Bool) → side u x y l r seen ≡ failed a → ⊥
      go false false e = never (cc)
      go true false e = never (cc)
      go false true e = never (cc)
      go true true e = not_18 (node_of l) e

  -- two sides in parts fail as their parts do
  parts_fail : (l r : Expr) (seen : List ℕ) (o : Flat) → in_parts u l r seen o ≡ failed a → o ≡ failed a
  parts_fail l r seen o = go (binds u l seen || binds u r seen)
    where
      go : (x : Bool) → cond x o (paired (pair r (equality_expr l) ∷ []) seen) ≡ failed a → o ≡ failed a
      go true e = e
      go false e = never (cc)

  -- the first part fails, or the rest
  further_fails : (x : Flat) (f : List ℕ → Flat) → further x f ≡ failed a → (x ≡ failed a) ⊎ ((later : List ℕ) × (f later ≡ failed a))
  further_fails (failed r) f e = inl e
  further_fails (paired ps seen) f e = go (f seen) refl e
    where
      go : (y : Flat) → f seen ≡ y → prepended ps y ≡ failed a → (paired ps seen ≡ failed a) ⊎ ((later : List ℕ) × (f later ≡ failed a))
      go (failed r) q h = inr (seen, q ∙ h)
      go (paired qs later) q h = never (cc)

  -- a field fails with its partner, which is found in the other object
  partner_fails : (κ : Option Literal) (ls : Fields) (seen : List ℕ) (f : Expr → Flat) → on_partner (last_under κ ls) seen f ≡ failed a → (σ : ℕ → Value) (us : ValueFields) → AllSlots (Found σ us) (value_order ls no_fields).literals
      → (s : Slot Expr) × Found σ us s × (is_under s.at κ ≡ true) × (f s.held ≡ failed a)
  partner_fails Option.none ls seen f e σ us found = never (cc)
  partner_fails (Option.some l) ls seen f e σ us found = at (held_under l (value_order ls no_fields).literals) refl e
    where
      at : (x : Option Expr) → held_under l (value_order ls no_fields).literals ≡ x → on_partner x seen f ≡ failed a → (s : Slot Expr) × Found σ us s × (is_under s.at (Option.some l) ≡ true) × (f s.held ≡ failed a)
      at Option.none q h = never (cc)
      at (Option.some d) q h = (record { at = l; held = d }, held_slot (Found σ us) l (value_order ls no_fields).literals d found q, is_true (key_refl l), h)

  mutual
    unfolding flatten fill same admitted

    -- a right and a left side
    pub pairs_differ : (r l : Expr) → T (simple r) → T (simple l) → (seen : List ℕ) → flatten u r l seen ≡ failed a → (ρ σ : ℕ → Value) (b : Blanks r) (c : Blanks l) → Same (fill ρ r b) (fill σ l c) → ⊥
    pairs_differ (literal n k) l x y seen e ρ σ b c t = whole_passes l (literal n k) seen e
    pairs_differ (name n k) l x y seen e ρ σ b c t = whole_passes l (name n k) seen e
    pairs_differ (wildcard n) l x y seen e ρ σ b c t = whole_passes l (wildcard n) seen e
    pairs_differ (array n rs) (literal m k) x y seen e ρ σ b c t = t
    pairs_differ (array n rs) (name m k) x y seen e ρ σ b c t = whole_passes (name m k) (array n rs) seen (parts_fail (name m k) (array n rs) seen _ e)
    pairs_differ (array n rs) (wildcard m) x y seen e ρ σ b c t = whole_passes (wildcard m) (array n rs) seen (parts_fail (wildcard m) (array n rs) seen _ e)
    pairs_differ (array n rs) (array m ls) x y seen e ρ σ b c t =
        go (eqb (count ls) (count rs)) refl (parts_fail (array m ls) (array n rs) seen _ e) (λ h. items_differ rs ls x y seen h ρ σ b c t)
      where
        go : (q : Bool) → eqb (count ls) (count rs) ≡ q → cond q (flatten_all u rs ls seen) (failed (array_size_mismatch m (count ls) (count rs))) ≡ failed a → (flatten_all u rs ls seen ≡ failed a → ⊥) → ⊥
        go true q h f = f h
        go false q h f = eqb-false (count ls) (count rs) q (sym (same_count ρ σ rs ls b c t))
    pairs_differ (array n rs) (set m ls) x y seen e ρ σ b c t = y
    pairs_differ (array n rs) (object m ls) x y seen e ρ σ b c t = t
    pairs_differ (array n rs) (other m) x y seen e ρ σ b c t = y
    pairs_differ (set n rs) l x y seen e ρ σ b c t = x
    pairs_differ (object n rs) (literal m k) x y seen e ρ σ b c t = t
    pairs_differ (object n rs) (name m k) x y seen e ρ σ b c t = whole_passes (name m k) (object n rs) seen (parts_fail (name m k) (object n rs) seen _ e)
    pairs_differ (object n rs) (wildcard m) x y seen e ρ σ b c t = whole_passes (wildcard m) (object n rs) seen (parts_fail (wildcard m) (object n rs) seen _ e)
    pairs_differ (object n rs) (array m ls) x y seen e ρ σ b c t = t
    pairs_differ (object n rs) (set m ls) x y seen e ρ σ b c t = y
    pairs_differ (object n rs) (object m ls) x y seen e ρ σ b c t =
        go (all_literal ls && all_literal rs) (eqb (distinct_keys ls) (count_fields rs)) refl (parts_fail (object m ls) (object n rs) seen _ e)
        (λ h. fields_differ rs (and_right (differing (keys_of rs)) (simple_fields rs) x) ls seen h ρ σ b (fill_fields_lem σ ls c)
        (slots_found σ ls c (and_left (differing (keys_of ls)) (simple_fields ls) y) (and_right (differing (keys_of ls)) (simple_fields ls) y))
        (and_right (same_key_sets (keysᵛ (fill_fields_lem ρ rs b)) (keysᵛ (fill_fields_lem σ ls c))) (same_fields_lem (fill_fields_lem ρ rs b) (fill_fields_lem σ ls c)) t))
      where
        sets : T (within (keys_of rs) (keys_of ls)) × T (within (keys_of ls) (keys_of rs))
        sets = same_sets ρ σ rs ls b c (and_left (same_key_sets (keysᵛ (fill_fields_lem ρ rs b)) (keysᵛ (fill_fields_lem σ ls c))) (same_fields_lem (fill_fields_lem ρ rs b) (fill_fields_lem σ ls c)) t)

        counts : distinct_keys ls ≡ count_fields rs
        counts =
            let i = within_length (keys_of rs) (keys_of ls) (and_left (differing (keys_of rs)) (simple_fields rs) x) sets.0 in
            let j = within_length (keys_of ls) (keys_of rs) (and_left (differing (keys_of ls)) (simple_fields ls) y) sets.1 in
            let k = distinct_count ls (and_left (differing (keys_of ls)) (simple_fields ls) y) in
            let l = keys_count rs (and_right (differing (keys_of rs)) (simple_fields rs) x) in
            omega arith

        go : (q s : Bool) → eqb (distinct_keys ls) (count_fields rs) ≡ s
            → cond q (cond s (check_keys rs ls (flatten_fields u rs ls seen)) (failed (object_field_count_mismatch m (distinct_keys ls) (count_fields rs)))) (whole u (object m ls) (object n rs) seen) ≡ failed a
            → (flatten_fields u rs ls seen ≡ failed a → ⊥) → ⊥
        go true true s h f = f (sym (keys_pass rs ls (flatten_fields u rs ls seen) (and_right (differing (keys_of rs)) (simple_fields rs) x) sets.0) ∙ h)
        go true false s h f = eqb-false (distinct_keys ls) (count_fields rs) s counts
        go false q s h f = whole_passes (object m ls) (object n rs) seen h
    pairs_differ (object n rs) (other m) x y seen e ρ σ b c t = y
    pairs_differ (other n) l x y seen e ρ σ b c t = x

    -- two arrays' items
    items_differ : (rs ls : Exprs) → T (simple_all rs) → T (simple_all ls) → (seen : List ℕ) → flatten_all u rs ls seen ≡ failed a → (ρ σ : ℕ → Value) (b : BlanksAll rs) (c : BlanksAll ls) → T (same_items (fill_all ρ rs b) (fill_all σ ls c)) → ⊥
    items_differ none ls x y seen e ρ σ b c t = never (cc)
    items_differ (item r rs) none x y seen e ρ σ b c t = t
    items_differ (item r rs) (item l ls) x y seen e ρ σ b c t =
        ⊎_elim
        (λ h. pairs_differ r l (and_left (simple r) (simple_all rs) x) (and_left (simple l) (simple_all ls) y) seen h ρ σ b.0 c.0 (and_left (same (fill ρ r b.0) (fill σ l c.0)) (same_items (fill_all ρ rs b.1) (fill_all σ ls c.1)) t))
        (λ h. items_differ rs ls (and_right (simple r) (simple_all rs) x) (and_right (simple l) (simple_all ls) y) h.0 h.1 ρ σ b.1 c.1 (and_right (same (fill ρ r b.0) (fill σ l c.0)) (same_items (fill_all ρ rs b.1) (fill_all σ ls c.1)) t))
        (further_fails (flatten u r l seen) (λ later. flatten_all u rs ls later) e)

    -- the right side's fields, with the left's slots found in its filling
    fields_differ : (rs : Fields) → T (simple_fields rs) → (ls : Fields) (seen : List ℕ) → flatten_fields u rs ls seen ≡ failed a → (ρ σ : ℕ → Value) (b : BlanksFields rs) (us : ValueFields)
        → AllSlots (Found σ us) (value_order ls no_fields).literals → T (same_fields_lem (fill_fields_lem ρ rs b) us) → ⊥
    fields_differ done x ls seen e ρ σ b us found t = never (cc)
    fields_differ (field k r rs) x ls seen e ρ σ b us found t =
        let x' = and_right (is_literal (literal_key k)) (simple r && simple_fields rs) x in
        let (w, i, equal, rest) = field_parts (literal_key k) (and_left (is_literal (literal_key k)) (simple r && simple_fields rs) x) (fill ρ r b.0) (fill_fields_lem ρ rs b.1) us t in
        ⊎_elim
        (λ h. let (s, f, j, q) = partner_fails (literal_key k) ls seen (λ l. flatten u r l seen) h σ us found in
        pairs_differ r s.held (and_left (simple r) (simple_fields rs) x') f.is_simple seen q ρ σ b.0 f.own
        (same_under (fill ρ r b.0) w (fill σ s.held f.own) (literal_key k) s.at us j i equal f.there))
        (λ z. fields_differ rs (and_right (simple r) (simple_fields rs) x') ls z.0 z.1 ρ σ b.1 us found rest)
        (further_fails (on_partner (last_under (literal_key k) ls) seen (λ l. flatten u r l seen)) (λ later. flatten_fields u rs ls later) e)
