-- How two sides are taken, by the kinds of their nodes, and what pairs come of it.
use Prim.Native.Nat.{ℕ}
use mathlib.Core.Path.{◌≡◌, refl, sym, ap, ap₂, ◌∙◌}
use mathlib.Core.Bool.{Bool, true, false, cond, ◌&&◌, ◌||◌, not, false≢true}
use mathlib.Core.List.{List, [], ◌∷◌}
use borrow.Author.Tests.{eqb-true, eqb-false, ne_eqb, not-true, not-false}
use lib.Dec.{eqb}
use Rattle.table.specs.Tables.{Tables, kind_of, first_word_of, count_of}
use Rattle.table.specs.Expr.{Expr, literal, name, wildcard, array, set, object, other, Exprs, Fields, count, count_fields}
use Rattle.table.specs.Decode.{expr, items, is_wildcard, named_by, fields_of}
use Rattle.table.specs.code.Sound.{Node, WellFormed}
use Rattle.table.proofs.tests.Bools.{never}
use Rattle.table.proofs.trees.Trees.{expr_name, expr_array, expr_object}
use Rattle.base.specs.Refusal.{array_size_mismatch, object_field_count_mismatch, incompatible_destructuring_patterns}
use Rattle.planner.specs.Plan.{equality_expr}
use Rattle.planner.proofs.destructuring.NodeKinds.{Plain, plain_literal, plain_set, plain_other, plain_kind}
use Rattle.planner.specs.code.Post.{GoodPair}
use Rattle.assignment.specs.declared.judge.Pairing.{Pairing}
use Rattle.assignment.specs.declared.judge.Pairing.TheVariants.{Whole, Items, ByKey, Opposed}
use Rattle.assignment.specs.Pairs.{pair, Flat, failed, paired, Shape, items as itemsShape, fields as fieldsShape, single, shape_of, all_literal, distinct_keys, check_keys, binds, whole, arrays, objects, flatten, flatten_all, flatten_fields}
use Rattle.assignment.specs.code.Judging.{pairing_of, objects_pairing, kinds_pairing}
use Rattle.assignment.specs.code.KeyMatching.{literal_keys}
use Rattle.assignment.proofs.keys.Partners.{literal_keys_lem}

abbrev pub items_of : Tables → ℕ → Exprs
items_of T n = items (expr T) T.children (first_word_of T.nodes n) (count_of T.nodes n)

module _ (T : Tables) (w : WellFormed T) (n : ℕ) (v : Node T n) where
  pub shape_items : kind_of T.nodes n ≡ 7 → shape_of (expr T n) ≡ itemsShape n (items_of T n)
  shape_items k = ap shape_of (expr_array T w n v k)

  pub shape_fields : kind_of T.nodes n ≡ 9 → shape_of (expr T n) ≡ fieldsShape n (fields_of T n)
  shape_fields k = ap shape_of (expr_object T w n v k)

  pub shape_single : (kind_of T.nodes n ≡ 7 → ⊥) → (kind_of T.nodes n ≡ 9 → ⊥) → shape_of (expr T n) ≡ single
  shape_single not-7 not-9 = go (eqb (kind_of T.nodes n) 6) refl
    where
      named : (b : Bool) → shape_of (named_by b n (first_word_of T.nodes n)) ≡ single
      named true = refl
      named false = refl

      plain : (e : Expr) → expr T n ≡ e → Plain (kind_of T.nodes n) n e → shape_of (expr T n) ≡ single
      plain e q (plain_literal l h) = ap shape_of q
      plain e q (plain_set es h) = ap shape_of q
      plain e q (plain_other h) = ap shape_of q

      go : (b : Bool) → eqb (kind_of T.nodes n) 6 ≡ b → shape_of (expr T n) ≡ single
      go true p = ap shape_of (expr_name T w n v (eqb-true _ _ p)) ∙ named (is_wildcard T (first_word_of T.nodes n))
      go false p = let q = plain_kind T w n v (eqb-false _ _ p) not-7 not-9 in plain q.0 q.1 q.2

  pub shape_at : shape_of (expr T n)
      ≡ cond (eqb (kind_of T.nodes n) 7) (itemsShape n (items_of T n))
      (cond (eqb (kind_of T.nodes n) 9) (fieldsShape n (fields_of T n)) single)
  shape_at = go (eqb (kind_of T.nodes n) 7) refl (eqb (kind_of T.nodes n) 9) refl
    where
      go : (a : Bool) → eqb (kind_of T.nodes n) 7 ≡ a → (b : Bool) → eqb (kind_of T.nodes n) 9 ≡ b
          → shape_of (expr T n) ≡ cond a (itemsShape n (items_of T n)) (cond b (fieldsShape n (fields_of T n)) single)
      go true p b q = shape_items (eqb-true _ _ p)
      go false p true q = shape_fields (eqb-true _ _ q)
      go false p false q = shape_single (eqb-false _ _ p) (eqb-false _ _ q)

-- by the kinds, as the code tests them
module _ (nodes children : List ℕ) (left right : ℕ) {kind other : ℕ} (is-left : kind ≡ kind_of nodes left) (is_right : other ≡ kind_of nodes right) where
  pub pairing_items : kind ≡ 7 → other ≡ 7 → Items ≡ kinds_pairing nodes children left right
  unfolding kinds_pairing
  pairing_items k l = rw (← is-left, ← is_right, k, l)

  pub pairing_array_object : kind ≡ 7 → other ≡ 9 → Opposed ≡ kinds_pairing nodes children left right
  unfolding kinds_pairing
  pairing_array_object k l = rw (← is-left, ← is_right, k, l)

  pub pairing_array : kind ≡ 7 → (other ≡ 7 → ⊥) → (other ≡ 9 → ⊥) → Whole ≡ kinds_pairing nodes children left right
  unfolding kinds_pairing
  pairing_array k not-7 not-9 = let p = ne_eqb other 7 not-7 in let q = ne_eqb other 9 not-9 in rw (← is-left, ← is_right, k, p, q)

  pub pairing_object_array : kind ≡ 9 → other ≡ 7 → Opposed ≡ kinds_pairing nodes children left right
  unfolding kinds_pairing
  pairing_object_array k l = rw (← is-left, ← is_right, k, l)

  pub pairing_objects : {r : Pairing} → kind ≡ 9 → other ≡ 9 → r ≡ objects_pairing nodes children left right → r ≡ kinds_pairing nodes children left right
  unfolding kinds_pairing
  pairing_objects k l is = rw (← is-left, ← is_right, k, l) is

  pub pairing_object : kind ≡ 9 → (other ≡ 7 → ⊥) → (other ≡ 9 → ⊥) → Whole ≡ kinds_pairing nodes children left right
  unfolding kinds_pairing
  pairing_object k not-7 not-9 = let p = ne_eqb other 7 not-7 in let q = ne_eqb other 9 not-9 in rw (← is-left, ← is_right, k, p, q)

  pub pairing_single : (kind ≡ 7 → ⊥) → (kind ≡ 9 → ⊥) → Whole ≡ kinds_pairing nodes children left right
  unfolding kinds_pairing
  pairing_single not-7 not-9 = let p = ne_eqb kind 7 not-7 in let q = ne_eqb kind 9 not-9 in rw (← is-left, ← is_right, p, q)

-- two objects
module _ (nodes children : List ℕ) (left right : ℕ) {one : Bool} (is_one : one ≡ literal_keys nodes children left) where
  pub objects_left : not one ≡ true → Whole ≡ objects_pairing nodes children left right
  unfolding objects_pairing
  objects_left e = simp (sym is_one ∙ not-true one e)

  module _ {other : Bool} (is-other : other ≡ literal_keys nodes children right) where
    pub objects_right : not one ≡ false → not other ≡ true → Whole ≡ objects_pairing nodes children left right
    unfolding objects_pairing
    objects_right e f = simp (sym is_one ∙ not-false one e, sym is-other ∙ not-true other f)

    pub objects_both : not one ≡ false → not other ≡ false → ByKey ≡ objects_pairing nodes children left right
    unfolding objects_pairing
    objects_both e f = simp (sym is_one ∙ not-false one e, sym is-other ∙ not-false other f)

-- the kinds tell the shapes
pub pairing_is : (T : Tables) {left right : ℕ} → GoodPair T left right → kinds_pairing T.nodes T.children left right ≡ pairing_of (shape_of (expr T left)) (shape_of (expr T right))
unfolding kinds_pairing objects_pairing
pairing_is T {left} {right} g =
    rw (shape_at T g.table left g.first, shape_at T g.table right g.second)
    (go (eqb (kind_of T.nodes left) 7) (eqb (kind_of T.nodes left) 9) refl (eqb (kind_of T.nodes right) 7) (eqb (kind_of T.nodes right) 9) refl)
  where
    go : (p q : Bool) → eqb (kind_of T.nodes left) 9 ≡ q → (r s : Bool) → eqb (kind_of T.nodes right) 9 ≡ s
        → cond p (cond r Items (cond s Opposed Whole)) (cond q (cond r Opposed (cond s (cond (literal_keys T.nodes T.children left && literal_keys T.nodes T.children right) ByKey Whole) Whole)) Whole)
        ≡ pairing_of (cond p (itemsShape left (items_of T left)) (cond q (fieldsShape left (fields_of T left)) single)) (cond r (itemsShape right (items_of T right)) (cond s (fieldsShape right (fields_of T right)) single))
    go true q h true s k = refl
    go true q h false true k = refl
    go true q h false false k = refl
    go false true h true s k = refl
    go false true h false true k =
        ap₂ (λ (a b : Bool). cond (a && b) ByKey Whole)
        (literal_keys_lem T (record { table = g.table; node = g.first; object = eqb-true (kind_of T.nodes left) 9 h }))
        (literal_keys_lem T (record { table = g.table; node = g.second; object = eqb-true (kind_of T.nodes right) 9 k }))
    go false true h false false k = refl
    go false false h r s k = refl

-- what it says that neither of two tests holds
pub or_false : (a b : Bool) → (a || b) ≡ false → (a ≡ false) × (b ≡ false)
or_false true b e = absurd (false≢true (sym e))
or_false false b e = (refl, e)

-- the pairs of two trees, by how their sides are taken
module _ (u : ℕ → Bool) (seen : List ℕ) (l : Expr) where
  neither : (r : Expr) → (binds u l seen || binds u r seen) ≡ false → whole u l r seen ≡ paired (pair r (equality_expr l) ∷ []) seen
  neither r e = let b = or_false (binds u l seen) (binds u r seen) e in rw (b.0, b.1)

  pub flat_neither : (r : Expr) → (binds u l seen || binds u r seen) ≡ false → flatten u r l seen ≡ paired (pair r (equality_expr l) ∷ []) seen
  unfolding flatten
  flat_neither (literal n k) e = neither (literal n k) e
  flat_neither (name n x) e = neither (name n x) e
  flat_neither (wildcard n) e = neither (wildcard n) e
  flat_neither (array n rs) e = rw e
  flat_neither (set n rs) e = neither (set n rs) e
  flat_neither (object n rs) e = rw e
  flat_neither (other n) e = neither (other n) e

  -- an array or an object on the right, by the left's shape
  module _ (n : ℕ) where
    array_whole : (s : Shape) (rs : Exprs) (o : Flat) (f : Exprs → Flat) → pairing_of s (itemsShape n rs) ≡ Whole → arrays u s rs o f ≡ o
    array_whole (itemsShape m ls) rs o f e = never (cc)
    array_whole (fieldsShape m ls) rs o f e = never (cc)
    array_whole single rs o f e = refl

    object_whole : (s : Shape) (rs : Fields) (o : Flat) (f : Fields → Flat) → pairing_of s (fieldsShape n rs) ≡ Whole → objects u s rs o f ≡ o
    object_whole (itemsShape m ls) rs o f e = never (cc)
    object_whole (fieldsShape m ls) rs o f e = go (all_literal ls && all_literal rs) e
      where
        go : (b : Bool) → cond b ByKey Whole ≡ Whole → cond b (cond (eqb (distinct_keys ls) (count_fields rs)) (check_keys rs ls (f ls)) (failed (object_field_count_mismatch m (distinct_keys ls) (count_fields rs)))) o ≡ o
        go true p = never (cc)
        go false p = refl
    object_whole single rs o f e = refl

  pub flat_whole : (r : Expr) → (binds u l seen || binds u r seen) ≡ true → pairing_of (shape_of l) (shape_of r) ≡ Whole → flatten u r l seen ≡ whole u l r seen
  unfolding flatten
  flat_whole (literal n k) e p = refl
  flat_whole (name n x) e p = refl
  flat_whole (wildcard n) e p = refl
  flat_whole (array n rs) e p = rw e (array_whole n (shape_of l) rs (whole u l (array n rs) seen) (λ ls. flatten_all u rs ls seen) p)
  flat_whole (set n rs) e p = refl
  flat_whole (object n rs) e p = rw e (object_whole n (shape_of l) rs (whole u l (object n rs) seen) (λ ls. flatten_fields u rs ls seen) p)
  flat_whole (other n) e p = refl

  -- with the shapes at hand
  module _ {m n : ℕ} where
    pub flat_items : {ls rs : Exprs} → (r : Expr) → (binds u l seen || binds u r seen) ≡ true → shape_of l ≡ itemsShape m ls → r ≡ array n rs
        → flatten u r l seen ≡ cond (eqb (count ls) (count rs)) (flatten_all u rs ls seen) (failed (array_size_mismatch m (count ls) (count rs)))
    unfolding flatten
    flat_items {ls} {rs} r e s is =
        let bound : (binds u l seen || binds u (array n rs) seen) ≡ true = rw is at e in
        ap (λ (t : Expr). flatten u t l seen) is ∙ rw (bound, s)

    pub flat_fields : {ls rs : Fields} → (r : Expr) → (binds u l seen || binds u r seen) ≡ true → shape_of l ≡ fieldsShape m ls → r ≡ object n rs → all_literal ls ≡ true → all_literal rs ≡ true
        → flatten u r l seen ≡ cond (eqb (distinct_keys ls) (count_fields rs)) (check_keys rs ls (flatten_fields u rs ls seen)) (failed (object_field_count_mismatch m (distinct_keys ls) (count_fields rs)))
    unfolding flatten
    flat_fields {ls} {rs} r e s is ll rl =
        let bound : (binds u l seen || binds u (object n rs) seen) ≡ true = rw is at e in
        ap (λ (t : Expr). flatten u t l seen) is ∙ rw (bound, s, ll, rl)

    pub flat_array_object : {ls : Exprs} {rs : Fields} → (r : Expr) → (binds u l seen || binds u r seen) ≡ true → shape_of l ≡ itemsShape m ls → r ≡ object n rs → flatten u r l seen ≡ failed (incompatible_destructuring_patterns m)
    unfolding flatten
    flat_array_object {ls} {rs} r e s is =
        let bound : (binds u l seen || binds u (object n rs) seen) ≡ true = rw is at e in
        ap (λ (t : Expr). flatten u t l seen) is ∙ rw (bound, s)

    pub flat_object_array : {ls : Fields} {rs : Exprs} → (r : Expr) → (binds u l seen || binds u r seen) ≡ true → shape_of l ≡ fieldsShape m ls → r ≡ array n rs → flatten u r l seen ≡ failed (incompatible_destructuring_patterns m)
    unfolding flatten
    flat_object_array {ls} {rs} r e s is =
        let bound : (binds u l seen || binds u (array n rs) seen) ≡ true = rw is at e in
        ap (λ (t : Expr). flatten u t l seen) is ∙ rw (bound, s)
