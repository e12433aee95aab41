-- A filling's values for underscores, by node: the nodes of a pattern all differ, so each underscore has its own.
use Prim.Native.Nat.{ℕ}
use mathlib.Core.Bool.{Bool, true, false, ◌&&◌, ◌||◌}
use mathlib.Core.List.{[], ◌∷◌, ◌++◌}
use mathlib.Core.Path.{◌≡◌, refl, ap, ap₂, subst, ◌∙◌}
use lib.Dec.{T, eqb, eqb_refl}
use Rattle.literal.specs.Literal.{null}
use Rattle.table.specs.Expr as Expr
use Rattle.table.specs.Expr.{Expr, literal, name, wildcard, array, set, object, other, Exprs, item, Fields, done, field, parts, parts_all, parts_fields}
use Rattle.base.specs.Lists.{elem, no_repeat}
use Rattle.table.proofs.trees.Lists.{elem_left, elem_right, no_repeat_cons, no_repeat_append}
use Rattle.planner.specs.Layout.{literal_key}
use Rattle.value.specs.Value.{Value, literalᵛ, arrayᵛ, objectᵛ, itemᵛ, proper, filled_field, value_of, values_of, value_fields_of, is_value}
use Rattle.value.proofs.Keys.{and_left, and_right, both, or_elim, is_true}
use Rattle.planner.specs.Simple.{admitted, differing, keys_of, is_literal, simple, simple_all, simple_fields, admitted_all, admitted_fields, mentions}
use Rattle.planner.specs.Names.{occurrences, names_of}
use Rattle.planner.proofs.laws.Mentions.{mentions_any, mentions_fields, mentions_item, mentions_field}
use Rattle.matching.proofs.Fits.{silent}
use Rattle.matching.specs.Matching.{ProperValue, Blanks, BlanksAll, BlanksFields, fill, fill_all, fill_fields_lem}

unfoldable pub null_value : ProperValue
unfolding proper
null_value = record { value = literalᵛ 0 null; is_proper = tt }

-- a value for each node, and the underscores' among them
module _ (β : ℕ → ProperValue) where
  unfoldable mutual
    pub blanks_by : (e : Expr) → Blanks e
    blanks_by (literal n l) = tt
    blanks_by (name n x) = tt
    blanks_by (wildcard n) = β n
    blanks_by (array n es) = blanks_all_by es
    blanks_by (set n es) = tt
    blanks_by (object n fs) = blanks_fields_by fs
    blanks_by (other n) = tt

    pub blanks_all_by : (es : Exprs) → BlanksAll es
    blanks_all_by Expr.none = tt
    blanks_all_by (item e es) = (blanks_by e, blanks_all_by es)

    pub blanks_fields_by : (fs : Fields) → BlanksFields fs
    blanks_fields_by done = tt
    blanks_fields_by (field k v fs) = (blanks_by v, blanks_fields_by fs)

own : (m : ℕ) → elem m (m ∷ []) ≡ true
unfolding elem
own m = let q : eqb m m ≡ true = is_true (eqb_refl m) in rw q

-- only the pattern's own nodes count
module _ (β γ : ℕ → ProperValue) where
  mutual
    unfolding blanks_by parts

    blanks_agree : (e : Expr) → ((m : ℕ) → elem m (parts e) ≡ true → β m ≡ γ m) → blanks_by β e ≡ blanks_by γ e
    blanks_agree (literal n l) f = refl
    blanks_agree (name n x) f = refl
    blanks_agree (wildcard n) f = f n (own n)
    blanks_agree (array n es) f = blanks_agree_all es (λ m h. f m (elem_right m (n ∷ []) (parts_all es) h))
    blanks_agree (set n es) f = refl
    blanks_agree (object n fs) f = blanks_agree_fields fs (λ m h. f m (elem_right m (n ∷ []) (parts_fields fs) h))
    blanks_agree (other n) f = refl

    blanks_agree_all : (es : Exprs) → ((m : ℕ) → elem m (parts_all es) ≡ true → β m ≡ γ m) → blanks_all_by β es ≡ blanks_all_by γ es
    blanks_agree_all Expr.none f = refl
    blanks_agree_all (item e es) f = λ i. (blanks_agree e (λ m h. f m (elem_left m (parts e) (parts_all es) h)) i, blanks_agree_all es (λ m h. f m (elem_right m (parts e) (parts_all es) h)) i)

    blanks_agree_fields : (fs : Fields) → ((m : ℕ) → elem m (parts_fields fs) ≡ true → β m ≡ γ m) → blanks_fields_by β fs ≡ blanks_fields_by γ fs
    blanks_agree_fields done f = refl
    blanks_agree_fields (field k v fs) f = λ i. (
      blanks_agree v (λ m h. f m (elem_right m (parts k) (parts v ++ parts_fields fs) (elem_left m (parts v) (parts_fields fs) h))) i,
      blanks_agree_fields fs (λ m h. f m (elem_right m (parts k) (parts v ++ parts_fields fs) (elem_right m (parts v) (parts_fields fs) h))) i,
    )

abbrev pick_blank : Bool → ProperValue → ProperValue → ProperValue
pick_blank true a b = a
pick_blank false a b = b

-- the value that a filling has for the underscore at node m
mutual
  pub blank_at : (e : Expr) → Blanks e → ℕ → ProperValue
  blank_at (literal n l) b m = null_value
  blank_at (name n x) b m = null_value
  blank_at (wildcard n) b m = b
  blank_at (array n es) b m = blank_in es b m
  blank_at (set n es) b m = null_value
  blank_at (object n fs) b m = blank_under fs b m
  blank_at (other n) b m = null_value

  blank_in : (es : Exprs) → BlanksAll es → ℕ → ProperValue
  blank_in Expr.none b m = null_value
  blank_in (item e es) b m = pick_blank (elem m (parts e)) (blank_at e b.0 m) (blank_in es b.1 m)

  blank_under : (fs : Fields) → BlanksFields fs → ℕ → ProperValue
  blank_under done b m = null_value
  blank_under (field k v fs) b m = pick_blank (elem m (parts v)) (blank_at v b.0 m) (blank_under fs b.1 m)

picked : (t : Bool) (a b : ProperValue) → t ≡ true → pick_blank t a b ≡ a
picked t a b e = rw e

passed : (t : Bool) (a b : ProperValue) → (t ≡ true → ⊥) → pick_blank t a b ≡ b
passed true a b f = absurd (f refl)
passed false a b f = refl

mutual
  unfolding blanks_by blank_at parts

  pub blanks_back : (e : Expr) (b : Blanks e) → no_repeat (parts e) ≡ true → blanks_by (blank_at e b) e ≡ b
  blanks_back (literal n l) b d = refl
  blanks_back (name n x) b d = refl
  blanks_back (wildcard n) b d = refl
  blanks_back (array n es) b d = blanks_back_all es b (no_repeat_cons n (parts_all es) d).1
  blanks_back (set n es) b d = refl
  blanks_back (object n fs) b d = blanks_back_fields fs b (no_repeat_cons n (parts_fields fs) d).1
  blanks_back (other n) b d = refl

  blanks_back_all : (es : Exprs) (b : BlanksAll es) → no_repeat (parts_all es) ≡ true → blanks_all_by (blank_in es b) es ≡ b
  blanks_back_all Expr.none b d = refl
  blanks_back_all (item e es) b d =
      let (p, q, r) = no_repeat_append (parts e) (parts_all es) d in
      let here = blanks_agree (blank_in (item e es) b) (blank_at e b.0) e (λ m h. picked (elem m (parts e)) (blank_at e b.0 m) (blank_in es b.1 m) h) ∙ blanks_back e b.0 p in
      let rest = blanks_agree_all (blank_in (item e es) b) (blank_in es b.1) es (λ m h. passed (elem m (parts e)) (blank_at e b.0 m) (blank_in es b.1 m) (λ s. r m s h)) ∙ blanks_back_all es b.1 q in
      λ i. (here i, rest i)

  blanks_back_fields : (fs : Fields) (b : BlanksFields fs) → no_repeat (parts_fields fs) ≡ true → blanks_fields_by (blank_under fs b) fs ≡ b
  blanks_back_fields done b d = refl
  blanks_back_fields (field k v fs) b d =
      let inner = (no_repeat_append (parts k) (parts v ++ parts_fields fs) d).1 in
      let (p, q, r) = no_repeat_append (parts v) (parts_fields fs) inner in
      let here = blanks_agree (blank_under (field k v fs) b) (blank_at v b.0) v (λ m h. picked (elem m (parts v)) (blank_at v b.0 m) (blank_under fs b.1 m) h) ∙ blanks_back v b.0 p in
      let rest = blanks_agree_fields (blank_under (field k v fs) b) (blank_under fs b.1) fs (λ m h. passed (elem m (parts v)) (blank_at v b.0 m) (blank_under fs b.1 m) (λ s. r m s h)) ∙ blanks_back_fields fs b.1 q in
      λ i. (here i, rest i)

-- a value has no names and no underscores: it is filled as it stands, and is a simple pattern
mutual
  unfolding fill value_of admitted

  pub fill_value : (ρ : ℕ → Value) (e : Expr) (b : Blanks e) → T (is_value e) → fill ρ e b ≡ value_of e
  fill_value ρ (literal n l) b t = refl
  fill_value ρ (name n x) b t = absurd t
  fill_value ρ (wildcard n) b t = absurd t
  fill_value ρ (array n es) b t = ap (arrayᵛ n) (fill_values ρ es b t)
  fill_value ρ (set n es) b t = absurd t
  fill_value ρ (object n fs) b t = ap (objectᵛ n) (fill_fields ρ fs b (and_right (differing (keys_of fs)) (admitted_fields false fs) t))
  fill_value ρ (other n) b t = absurd t

  fill_values : (ρ : ℕ → Value) (es : Exprs) (b : BlanksAll es) → T (admitted_all false es) → fill_all ρ es b ≡ values_of es
  fill_values ρ Expr.none b t = refl
  fill_values ρ (item e es) b t = ap₂ itemᵛ (fill_value ρ e b.0 (and_left (is_value e) (admitted_all false es) t)) (fill_values ρ es b.1 (and_right (is_value e) (admitted_all false es) t))

  fill_fields : (ρ : ℕ → Value) (fs : Fields) (b : BlanksFields fs) → T (admitted_fields false fs) → fill_fields_lem ρ fs b ≡ value_fields_of fs
  fill_fields ρ done b t = refl
  fill_fields ρ (field k v fs) b t =
      let u = and_right (is_literal (literal_key k)) (is_value v && admitted_fields false fs) t in
      ap₂ (filled_field (literal_key k)) (fill_value ρ v b.0 (and_left (is_value v) (admitted_fields false fs) u)) (fill_fields ρ fs b.1 (and_right (is_value v) (admitted_fields false fs) u))

mutual
  unfolding admitted

  pub value_simple : (e : Expr) → T (is_value e) → T (simple e)
  value_simple (literal n l) t = tt
  value_simple (name n x) t = tt
  value_simple (wildcard n) t = tt
  value_simple (array n es) t = values_simple es t
  value_simple (set n es) t = t
  value_simple (object n fs) t = both (differing (keys_of fs)) (simple_fields fs) (and_left (differing (keys_of fs)) (admitted_fields false fs) t) (fields_simple fs (and_right (differing (keys_of fs)) (admitted_fields false fs) t))
  value_simple (other n) t = t

  values_simple : (es : Exprs) → T (admitted_all false es) → T (simple_all es)
  values_simple Expr.none t = tt
  values_simple (item e es) t = both (simple e) (simple_all es) (value_simple e (and_left (is_value e) (admitted_all false es) t)) (values_simple es (and_right (is_value e) (admitted_all false es) t))

  fields_simple : (fs : Fields) → T (admitted_fields false fs) → T (simple_fields fs)
  fields_simple done t = tt
  fields_simple (field k v fs) t =
      let u = and_right (is_literal (literal_key k)) (is_value v && admitted_fields false fs) t in
      both (is_literal (literal_key k)) (simple v && simple_fields fs) (and_left (is_literal (literal_key k)) (is_value v && admitted_fields false fs) t)
      (both (simple v) (simple_fields fs) (value_simple v (and_left (is_value v) (admitted_fields false fs) u)) (fields_simple fs (and_right (is_value v) (admitted_fields false fs) u)))

mutual
  unfolding occurrences names_of elem admitted

  pub value_silent : (e : Expr) (x : ℕ) → T (is_value e) → T (mentions x e) → ⊥
  value_silent (literal n l) x t h = h
  value_silent (name n y) x t h = t
  value_silent (wildcard n) x t h = t
  value_silent (array n es) x t h = values_silent es x t h
  value_silent (set n es) x t h = t
  value_silent (object n fs) x t h = fields_silent fs x (and_right (differing (keys_of fs)) (admitted_fields false fs) t) h
  value_silent (other n) x t h = t

  values_silent : (es : Exprs) (x : ℕ) → T (admitted_all false es) → T (mentions_any x es) → ⊥
  values_silent Expr.none x t h = h
  values_silent (item e es) x t h = or_elim (mentions x e) (mentions_any x es) (subst T (mentions_item x e es) h) (λ q. value_silent e x (and_left (is_value e) (admitted_all false es) t) q) (λ q. values_silent es x (and_right (is_value e) (admitted_all false es) t) q)

  fields_silent : (fs : Fields) (x : ℕ) → T (admitted_fields false fs) → T (mentions_fields x fs) → ⊥
  fields_silent done x t h = h
  fields_silent (field k v fs) x t h =
      let u = and_right (is_literal (literal_key k)) (is_value v && admitted_fields false fs) t in
      or_elim (mentions x k) (mentions x v || mentions_fields x fs) (subst T (mentions_field x k v fs) h) (λ q. let e = silent x k (and_left (is_literal (literal_key k)) (is_value v && admitted_fields false fs) t) in rw e at q)
      (λ q. or_elim (mentions x v) (mentions_fields x fs) q (λ r. value_silent v x (and_left (is_value v) (admitted_fields false fs) u) r) (λ r. fields_silent fs x (and_right (is_value v) (admitted_fields false fs) u) r))
