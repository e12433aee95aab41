-- The kind of a node and the expression that it is.
use Prim.Native.Nat.{ℕ, ◌+◌, ◌≤◌, ◌<◌}
use mathlib.Core.Path.{◌≡◌, refl}
use mathlib.Core.Bool.{Bool, true, false}
use native.Mathlib.Omega.{arith}
use borrow.Author.Tests.{eqb-true, eqb-false}
use lib.Dec.{eqb}
use Rattle.literal.specs.Literal.{Literal}
use Rattle.table.specs.Tables.{Tables, kind_of}
use Rattle.table.specs.Expr.{Expr, literal, set, other, Exprs}
use Rattle.table.specs.Decode.{expr}
use Rattle.table.specs.code.Sound.{Node, WellFormed}
use Rattle.table.proofs.trees.Trees.{expr_literal, expr_set, expr_other}

-- what is left where a node is neither a name nor an array nor an object: it is a leaf or a set
pub data Plain (kind n : ℕ) : Expr → Type 0 where
  plain_literal : (l : Literal) → kind ≤ 5 → Plain kind n (literal n l)
  plain_set : (es : Exprs) → 5 < kind → Plain kind n (set n es)
  plain_other : 5 < kind → Plain kind n (other n)

one_less : (k j : ℕ) → k ≤ j + 1 → (k ≡ j + 1 → ⊥) → k ≤ j
one_less k j le differs = omega (arith, differs)

low_kind : (k : ℕ) → k ≤ 10 → (k ≡ 6 → ⊥) → (k ≡ 7 → ⊥) → (k ≡ 8 → ⊥) → (k ≡ 9 → ⊥) → (k ≡ 10 → ⊥) → k ≤ 5
low_kind k h a b c d e = one_less k 5 (one_less k 6 (one_less k 7 (one_less k 8 (one_less k 9 h e) d) c) b) a

pub plain_kind : (T : Tables) → WellFormed T → (n : ℕ) → Node T n
    → (kind_of T.nodes n ≡ 6 → ⊥) → (kind_of T.nodes n ≡ 7 → ⊥) → (kind_of T.nodes n ≡ 9 → ⊥)
    → (e : Expr) × (expr T n ≡ e) × Plain (kind_of T.nodes n) n e
plain_kind T w n v not-6 not-7 not-9 = go (eqb (kind_of T.nodes n) 8) refl (eqb (kind_of T.nodes n) 10) refl
  where
    go : (a : Bool) → eqb (kind_of T.nodes n) 8 ≡ a → (b : Bool) → eqb (kind_of T.nodes n) 10 ≡ b → (e : Expr) × (expr T n ≡ e) × Plain (kind_of T.nodes n) n e
    go true p b q = let k = eqb-true (kind_of T.nodes n) 8 p in (_, expr_set T w n v k, plain_set _ (omega arith))
    go false p true q = let k = eqb-true (kind_of T.nodes n) 10 q in (other n, expr_other T w n v k, plain_other (omega arith))
    go false p false q =
        let k = w.kinds n v in
        let leaf = low_kind (kind_of T.nodes n) k.1 not-6 not-7 (eqb-false (kind_of T.nodes n) 8 p) not-9 (eqb-false (kind_of T.nodes n) 10 q) in
        let l = w.literals n v leaf in
        (literal n l.0, expr_literal T w n v l.0 leaf l.1, plain_literal l.0 leaf)
