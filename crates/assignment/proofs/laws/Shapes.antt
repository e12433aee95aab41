-- An array against an object, by the kinds of two nodes.
use Prim.Native.Nat.{ℕ}
use mathlib.Core.Path.{◌≡◌, refl}
use mathlib.Core.List.{List}
use mathlib.Core.Bool.{Bool, true, false, cond}
use native.Mathlib.Omega.{arith}
use borrow.Author.Tests.{eqb-true, ne_eqb}
use lib.Dec.{eqb}
use Rattle.table.specs.Tables.{Tables, kind_of}
use Rattle.table.specs.Decode.{expr, fields_of}
use Rattle.planner.specs.code.Post.{GoodPair}
use Rattle.assignment.specs.Pairs.{items, fields, single, shape_of}
use Rattle.assignment.proofs.judge.PairShapes.{items_of, shape_at}
use Rattle.assignment.specs.Assignment.{opposed}
use Rattle.assignment.specs.code.Binding.{opposed_kinds}

-- as the code tests them
module _ (nodes : List ℕ) (a b : ℕ) {left right : ℕ} (is-left : left ≡ kind_of nodes a) (is_right : right ≡ kind_of nodes b) where
  pub array_against : left ≡ 7 → eqb right 9 ≡ opposed_kinds (kind_of nodes a) (kind_of nodes b)
  unfolding opposed_kinds
  array_against e = rw (← is-left, ← is_right, e)

  pub object_against : left ≡ 9 → eqb right 7 ≡ opposed_kinds (kind_of nodes a) (kind_of nodes b)
  unfolding opposed_kinds
  object_against e = rw (← is-left, ← is_right, e)

  pub single_against : (left ≡ 7 → ⊥) → (left ≡ 9 → ⊥) → false ≡ opposed_kinds (kind_of nodes a) (kind_of nodes b)
  unfolding opposed_kinds
  single_against not-7 not-9 = let p = ne_eqb left 7 not-7 in let q = ne_eqb left 9 not-9 in rw (← is-left, ← is_right, p, q)

pub opposed_is : (T : Tables) {a b : ℕ} → GoodPair T a b → opposed_kinds (kind_of T.nodes a) (kind_of T.nodes b) ≡ opposed (shape_of (expr T a)) (shape_of (expr T b))
unfolding opposed_kinds
opposed_is T {a} {b} g =
    rw (shape_at T g.table a g.first, shape_at T g.table b g.second)
    (go (eqb (kind_of T.nodes a) 7) (eqb (kind_of T.nodes a) 9) (eqb (kind_of T.nodes b) 7) refl (eqb (kind_of T.nodes b) 9) refl)
  where
    go : (p q r : Bool) → eqb (kind_of T.nodes b) 7 ≡ r → (s : Bool) → eqb (kind_of T.nodes b) 9 ≡ s
        → cond p s (cond q r false) ≡ opposed (cond p (items a (items_of T a)) (cond q (fields a (fields_of T a)) single)) (cond r (items b (items_of T b)) (cond s (fields b (fields_of T b)) single))
    go true q true h true k = absurd (omega (arith, eqb-true (kind_of T.nodes b) 7 h, eqb-true (kind_of T.nodes b) 9 k))
    go true q true h false k = refl
    go true q false h true k = refl
    go true q false h false k = refl
    go false true true h s k = refl
    go false true false h true k = refl
    go false true false h false k = refl
    go false false r h s k = refl
