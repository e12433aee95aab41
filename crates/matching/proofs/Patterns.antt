-- The nodes of a simple pattern: what they are, what is below them, how deep they go.
use Prim.Native.Nat.{ℕ, zero, suc, ◌+◌, ◌*◌, ◌≤◌, ◌<◌, max}
use mathlib.Core.Path.{◌≡◌, refl}
use mathlib.Core.List.{List}
use mathlib.Core.Bool.{Bool, true, false, cond, false≢true}
use native.Mathlib.Omega.{arith}
use native.Mathlib.Nat.{le-max_left, le-max_right}
use borrow.Author.Tests.{eqb-true, eqb-false}
use lib.Dec.{eqb}
use Rattle.literal.specs.Literal.{Literal}
use Rattle.table.specs.Tables.{Tables, kind_of, first_word_of, count_of, child_at}
use Rattle.table.specs.Decode.{expr, items, fields, is_wildcard, fields_of}
use Rattle.table.specs.Expr.{Expr, literal, name, wildcard, array, object, other, depth, depth_all, depth_fields_lem}
use Rattle.table.specs.code.Sound.{Node, WellFormed}
use Rattle.table.proofs.trees.Trees.{expr_name, expr_array, expr_object}
use Rattle.planner.specs.code.Passes.{value_node}
use Rattle.planner.specs.Simple.{admitted, simple}
use Rattle.planner.proofs.destructuring.NodeKinds.{Plain, plain_literal, plain_set, plain_other, plain_kind}

pub data PatternShape (T : Tables) (n : ℕ) : Expr → Type 0 where
  pattern_literal : (l : Literal) → kind_of T.nodes n ≤ 5 → PatternShape T n (literal n l)
  pattern_wildcard : kind_of T.nodes n ≡ 6 → PatternShape T n (wildcard n)
  pattern_name : kind_of T.nodes n ≡ 6 → PatternShape T n (name n (first_word_of T.nodes n))
  pattern_array : kind_of T.nodes n ≡ 7 → PatternShape T n (array n (items (expr T) T.children (first_word_of T.nodes n) (count_of T.nodes n)))
  pattern_object : kind_of T.nodes n ≡ 9 → PatternShape T n (object n (fields_of T n))

pub pattern_shape : (T : Tables) → WellFormed T → (n : ℕ) → Node T n → simple (expr T n) ≡ true → (e : Expr) × (expr T n ≡ e) × PatternShape T n e
unfolding admitted
pattern_shape T w n v is = go (eqb (kind_of T.nodes n) 6) refl (eqb (kind_of T.nodes n) 7) refl (eqb (kind_of T.nodes n) 9) refl
  where
    named : kind_of T.nodes n ≡ 6 → (c : Bool) → expr T n ≡ cond c (wildcard n) (name n (first_word_of T.nodes n)) → (e : Expr) × (expr T n ≡ e) × PatternShape T n e
    named k true q = (wildcard n, q, pattern_wildcard k)
    named k false q = (name n (first_word_of T.nodes n), q, pattern_name k)

    by : (e : Expr) → expr T n ≡ e → Plain (kind_of T.nodes n) n e → simple e ≡ true → (e : Expr) × (expr T n ≡ e) × PatternShape T n e
    by e q (plain_literal l h) t = (literal n l, q, pattern_literal l h)
    by e q (plain_set es h) t = absurd (false≢true t)
    by e q (plain_other h) t = absurd (false≢true t)

    go : (a : Bool) → eqb (kind_of T.nodes n) 6 ≡ a → (b : Bool) → eqb (kind_of T.nodes n) 7 ≡ b → (d : Bool) → eqb (kind_of T.nodes n) 9 ≡ d → (e : Expr) × (expr T n ≡ e) × PatternShape T n e
    go true p b q d r = let k = eqb-true (kind_of T.nodes n) 6 p in named k (is_wildcard T (first_word_of T.nodes n)) (expr_name T w n v k)
    go false p true q d r = let k = eqb-true (kind_of T.nodes n) 7 q in (_, expr_array T w n v k, pattern_array k)
    go false p false q true r = let k = eqb-true (kind_of T.nodes n) 9 r in (_, expr_object T w n v k, pattern_object k)
    go false p false q false r =
        let s = plain_kind T w n v (eqb-false (kind_of T.nodes n) 6 p) (eqb-false (kind_of T.nodes n) 7 q) (eqb-false (kind_of T.nodes n) 9 r) in
        by s.0 s.1 s.2 (rw s.1 at is)

-- items and values are less deep
module _ (g : ℕ → Expr) (ch : List ℕ) where
  item_depth : (at k i : ℕ) → i < k → depth (g (child_at ch (at + i))) ≤ depth_all (items g ch at k)
  unfolding items depth
  item_depth at zero i lt = absurd (omega arith)
  item_depth at (suc k) zero lt = let z : at + 0 ≡ at = omega arith in rw z (le-max_left (depth (g (child_at ch at))) (depth_all (items g ch (at + 1) k)))
  item_depth at (suc k) (suc i) lt =
      let z : at + suc i ≡ at + 1 + i = omega arith in
      let h = item_depth (at + 1) k i (omega arith) in
      let l = le-max_right (depth (g (child_at ch at))) (depth_all (items g ch (at + 1) k)) in
      rw z (omega arith)

  value_depth : (at k i : ℕ) → i < k → depth (g (child_at ch (at + i * 2 + 1))) ≤ depth_fields_lem (fields g ch at k)
  unfolding fields depth
  value_depth at zero i lt = absurd (omega arith)
  value_depth at (suc k) zero lt =
      let z : at + 0 * 2 ≡ at = omega arith in
      let a = le-max_left (depth (g (child_at ch (at + 1)))) (depth_fields_lem (fields g ch (at + 2) k)) in
      let b = le-max_right (depth (g (child_at ch at))) (max (depth (g (child_at ch (at + 1)))) (depth_fields_lem (fields g ch (at + 2) k))) in
      rw z (omega arith)
  value_depth at (suc k) (suc i) lt =
      let z : at + suc i * 2 ≡ at + 2 + i * 2 = omega arith in
      let h = value_depth (at + 2) k i (omega arith) in
      let a = le-max_right (depth (g (child_at ch (at + 1)))) (depth_fields_lem (fields g ch (at + 2) k)) in
      let b = le-max_right (depth (g (child_at ch at))) (max (depth (g (child_at ch (at + 1)))) (depth_fields_lem (fields g ch (at + 2) k))) in
      rw z (omega arith)

module _ (T : Tables) (w : WellFormed T) (n : ℕ) (v : Node T n) where
  module _ (array : kind_of T.nodes n ≡ 7) (i : ℕ) (lt : i < count_of T.nodes n) where
    pub item_deep : (rest : ℕ) → depth (expr T n) ≤ rest + 1 → depth (expr T (child_at T.children (first_word_of T.nodes n + i))) ≤ rest
    unfolding depth
    item_deep rest le =
        let h = item_depth (expr T) T.children (first_word_of T.nodes n) (count_of T.nodes n) i lt in
        let l = rw (expr_array T w n v array) at le in
        omega arith

  module _ (object : kind_of T.nodes n ≡ 9) (i : ℕ) (lt : i < count_of T.nodes n) where
    pub value_deep : (rest : ℕ) → depth (expr T n) ≤ rest + 1 → depth (expr T (value_node T (first_word_of T.nodes n) i)) ≤ rest
    unfolding depth
    value_deep rest le =
        let h = value_depth (expr T) T.children (first_word_of T.nodes n) (count_of T.nodes n) i lt in
        let l = rw (expr_object T w n v object) at le in
        omega arith

pub some_depth : (e : Expr) → 1 ≤ depth e
unfolding depth
some_depth (literal m l) = omega arith
some_depth (name m x) = omega arith
some_depth (wildcard m) = omega arith
some_depth (array m es) = omega arith
some_depth (Expr.set m es) = omega arith
some_depth (object m fs) = omega arith
some_depth (other m) = omega arith
