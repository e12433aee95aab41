-- The tree of a node does not depend on the fuel, and unfolds by the node's kind.
use Prim.Native.Nat.{ℕ, zero, suc, ◌+◌, ◌-◌, ◌*◌, ◌≤◌, ◌<◌}
use mathlib.Core.Path.{◌≡◌, refl, ap, ◌∙◌}
use mathlib.Core.List.{List}
use mathlib.Core.Bool.{Bool, true, false}
use mathlib.Core.Option.{some}
use native.Mathlib.Omega.{arith}
use borrow.Author.Tests.{eqb-true, ne_eqb}
use lib.Dec.{eqb}
use Rattle.literal.specs.Literal.{Literal}
use Rattle.table.specs.Tables.{Tables, kind_of, first_word_of, count_of, width, width_of, child_at}
use Rattle.table.specs.Expr.{Expr, literal, array, set, object, other, Exprs, none, item, Fields, done, field, count, count_fields}
use Rattle.table.specs.Decode.{literal_at, items, fields, leaf_of, named_by, is_wildcard, headed, expr_at, expr}
use Rattle.table.specs.code.Sound.{Node, WellFormed}

-- as many as were asked for
pub count_items : (g : ℕ → Expr) (ch : List ℕ) (at k : ℕ) → count (items g ch at k) ≡ k
unfolding items count
count_items g ch at zero = refl
count_items g ch at (suc k) = let h = count_items g ch (at + 1) k in omega arith

pub count_fields_lem : (g : ℕ → Expr) (ch : List ℕ) (at k : ℕ) → count_fields (fields g ch at k) ≡ k
unfolding fields count_fields
count_fields_lem g ch at zero = refl
count_fields_lem g ch at (suc k) = let h = count_fields_lem g ch (at + 2) k in omega arith

-- two accounts of the nodes that agree at the children
module _ (g h : ℕ → Expr) (ch : List ℕ) where
  pub items_same : (at k : ℕ) → ((i : ℕ) → i < k → g (child_at ch (at + i)) ≡ h (child_at ch (at + i))) → items g ch at k ≡ items h ch at k
  unfolding items
  items_same at zero same = refl
  items_same at (suc k) same =
      let z : at + 0 ≡ at = omega arith in
      let here : g (child_at ch at) ≡ h (child_at ch at) = rw z at (same 0 (omega arith)) in
      let tail = items_same (at + 1) k (λ i lt. let e : at + (i + 1) ≡ at + 1 + i = omega arith in rw e at (same (i + 1) (omega arith))) in
      cc

  pub fields_same : (at k : ℕ) → ((i : ℕ) → i < k * 2 → g (child_at ch (at + i)) ≡ h (child_at ch (at + i))) → fields g ch at k ≡ fields h ch at k
  unfolding fields
  fields_same at zero same = refl
  fields_same at (suc k) same =
      let z : at + 0 ≡ at = omega arith in
      let key : g (child_at ch at) ≡ h (child_at ch at) = rw z at (same 0 (omega arith)) in
      let value : g (child_at ch (at + 1)) ≡ h (child_at ch (at + 1)) = same 1 (omega arith) in
      let tail = fields_same (at + 2) k (λ i lt. let e : at + (i + 2) ≡ at + 2 + i = omega arith in rw e at (same (i + 2) (omega arith))) in
      cc

-- the first of those that are left, `at` and `left` moving together
module _ (g : ℕ → Expr) (ch : List ℕ) (at left : ℕ) where
  pub items_step : 0 < left → items g ch at left ≡ item (g (child_at ch at)) (items g ch (at + 1) (left - 1))
  unfolding items
  items_step more = let a : left ≡ suc (left - 1) = omega arith in ap (λ (n : ℕ). items g ch at n) a

  pub items_end : left ≤ 0 → items g ch at left ≡ none
  unfolding items
  items_end no_more = let a : left ≡ 0 = omega arith in rw a

  pub fields_step : 0 < left → fields g ch at left ≡ field (g (child_at ch at)) (g (child_at ch (at + 1))) (fields g ch (at + 2) (left - 1))
  unfolding fields
  fields_step more = let a : left ≡ suc (left - 1) = omega arith in ap (λ (n : ℕ). fields g ch at n) a

  pub fields_end : left ≤ 0 → fields g ch at left ≡ done
  unfolding fields
  fields_end no_more = let a : left ≡ 0 = omega arith in rw a

-- how many child entries there are by kind
module _ (kind count : ℕ) where
  pub width_array : kind ≡ 7 → width_of kind count ≡ count
  unfolding width_of
  width_array k = simp k

  pub width_set : kind ≡ 8 → width_of kind count ≡ count
  unfolding width_of
  width_set k = simp k

  pub width_object : kind ≡ 9 → width_of kind count ≡ count * 2
  unfolding width_of
  width_object k = simp k

  pub width_leaf : (kind ≡ 7 → ⊥) → (kind ≡ 8 → ⊥) → (kind ≡ 9 → ⊥) → width_of kind count ≡ 0
  unfolding width_of
  width_leaf a b d = simp (ne_eqb _ _ a, ne_eqb _ _ b, ne_eqb _ _ d)

-- the items matter at an array or a set alone, the fields at an object
pub headed_same : (T : Tables) (n : ℕ) (es es' : Exprs) (fs fs' : Fields)
    → (kind_of T.nodes n ≡ 7 → es ≡ es') → (kind_of T.nodes n ≡ 8 → es ≡ es') → (kind_of T.nodes n ≡ 9 → fs ≡ fs')
    → headed T n es fs ≡ headed T n es' fs'
unfolding headed
headed_same T n es es' fs fs' a b d = go (eqb (kind_of T.nodes n) 7) refl (eqb (kind_of T.nodes n) 8) refl (eqb (kind_of T.nodes n) 9) refl
  where
    go : (s : Bool) → eqb (kind_of T.nodes n) 7 ≡ s → (t : Bool) → eqb (kind_of T.nodes n) 8 ≡ t → (u : Bool) → eqb (kind_of T.nodes n) 9 ≡ u
        → headed T n es fs ≡ headed T n es' fs'
    go true p t q u r = let e = a (eqb-true _ _ p) in simp (p, e)
    go false p true q u r = let e = b (eqb-true _ _ q) in simp (p, q, e)
    go false p false q true r = let e = d (eqb-true _ _ r) in simp (p, q, r, e)
    go false p false q false r = simp (p, q, r)

module _ (T : Tables) (w : WellFormed T) where
  pub child_node : (n : ℕ) → Node T n → (i : ℕ) → i < width T.nodes n → Node T (child_at T.children (first_word_of T.nodes n + i))
  child_node n v i lt =
      let b = w.below n v i lt in
      let l = b.0 in
      let r = b.1 in
      let h = v.high in
      record { low = l; high = omega arith }

  -- two accounts that agree below n make the same of n
  one_level : (g h : ℕ → Expr) (n : ℕ) → Node T n → ((c : ℕ) → Node T c → c < n → g c ≡ h c)
      → headed T n (items g T.children (first_word_of T.nodes n) (count_of T.nodes n)) (fields g T.children (first_word_of T.nodes n) (count_of T.nodes n))
      ≡ headed T n (items h T.children (first_word_of T.nodes n) (count_of T.nodes n)) (fields h T.children (first_word_of T.nodes n) (count_of T.nodes n))
  one_level g h n v same =
      let each : (i : ℕ) → i < width T.nodes n → g (child_at T.children (first_word_of T.nodes n + i)) ≡ h (child_at T.children (first_word_of T.nodes n + i))
      = λ i lt. same _ (child_node n v i lt) (w.below n v i lt).1 in
      headed_same T n _ _ _ _
      (λ k. items_same g h T.children (first_word_of T.nodes n) (count_of T.nodes n) (λ i lt. let e = width_array _ (count_of T.nodes n) k in each i (omega arith)))
      (λ k. items_same g h T.children (first_word_of T.nodes n) (count_of T.nodes n) (λ i lt. let e = width_set _ (count_of T.nodes n) k in each i (omega arith)))
      (λ k. fields_same g h T.children (first_word_of T.nodes n) (count_of T.nodes n) (λ i lt. let e = width_object _ (count_of T.nodes n) k in each i (omega arith)))

  fuel_same : (f g n : ℕ) → Node T n → n ≤ f → n ≤ g → expr_at T f n ≡ expr_at T g n
  unfolding expr_at
  fuel_same zero g n v le le' = let l = v.low in absurd (omega arith)
  fuel_same (suc f) zero n v le le' = let l = v.low in absurd (omega arith)
  fuel_same (suc f) (suc g) n v le le' = one_level (expr_at T f) (expr_at T g) n v (λ c u lt. fuel_same f g c u (omega arith) (omega arith))

  pub expr_unfolds : (n : ℕ) → Node T n
      → expr T n ≡ headed T n (items (expr T) T.children (first_word_of T.nodes n) (count_of T.nodes n)) (fields (expr T) T.children (first_word_of T.nodes n) (count_of T.nodes n))
  unfolding expr_at expr
  expr_unfolds n v =
      fuel_same n (suc n) n v (omega arith) (omega arith)
      ∙ one_level (expr_at T n) (expr T) n v (λ c u lt. fuel_same n c c u (omega arith) (omega arith))

  module _ (n : ℕ) (v : Node T n) where
    pub expr_name : kind_of T.nodes n ≡ 6 → expr T n ≡ named_by (is_wildcard T (first_word_of T.nodes n)) n (first_word_of T.nodes n)
    unfolding headed
    expr_name k = expr_unfolds n v ∙ simp k

    pub expr_array : kind_of T.nodes n ≡ 7 → expr T n ≡ array n (items (expr T) T.children (first_word_of T.nodes n) (count_of T.nodes n))
    unfolding headed
    expr_array k = expr_unfolds n v ∙ simp k

    pub expr_set : kind_of T.nodes n ≡ 8 → expr T n ≡ set n (items (expr T) T.children (first_word_of T.nodes n) (count_of T.nodes n))
    unfolding headed
    expr_set k = expr_unfolds n v ∙ simp k

    pub expr_object : kind_of T.nodes n ≡ 9 → expr T n ≡ object n (fields (expr T) T.children (first_word_of T.nodes n) (count_of T.nodes n))
    unfolding headed
    expr_object k = expr_unfolds n v ∙ simp k

    pub expr_leaf : (kind_of T.nodes n ≡ 6 → ⊥) → (kind_of T.nodes n ≡ 7 → ⊥) → (kind_of T.nodes n ≡ 8 → ⊥) → (kind_of T.nodes n ≡ 9 → ⊥) → expr T n ≡ leaf_of n (literal_at T n)
    unfolding headed
    expr_leaf a b d e = expr_unfolds n v ∙ simp (ne_eqb _ _ a, ne_eqb _ _ b, ne_eqb _ _ d, ne_eqb _ _ e)

    pub expr_literal : (l : Literal) → kind_of T.nodes n ≤ 5 → literal_at T n ≡ some l → expr T n ≡ literal n l
    expr_literal l k e =
        expr_leaf (λ h. omega arith) (λ h. omega arith) (λ h. omega arith) (λ h. omega arith) ∙ simp e

    pub expr_other : kind_of T.nodes n ≡ 10 → expr T n ≡ other n
    expr_other k =
        expr_leaf (λ h. omega arith) (λ h. omega arith) (λ h. omega arith) (λ h. omega arith) ∙ simp (w.others n v k)
