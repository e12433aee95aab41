-- The table's own nodes read as before when more nodes and child entries stand behind them.
use Prim.Native.Nat.{ℕ, zero, suc, ◌+◌, ◌-◌, ◌*◌, ◌/◌, ◌≤◌, ◌<◌}
use mathlib.Core.Bool.{cond}
use mathlib.Core.List.{List, ◌++◌}
use mathlib.Core.Path.{◌≡◌, refl, ap, ap₂, ◌∙◌}
use native.Mathlib.Omega.{arith}
use lib.Dec.{eqb}
use lib.ListN.{length, get_or-append}
use Rattle.table.specs.Tables.{Tables, tables, record_word, kind_of, first_word_of, count_of, width, child_at}
use Rattle.table.specs.Expr.{Expr, Exprs, item, Fields, field}
use Rattle.table.specs.Decode.{ref_of, literal_node, literal_at, items, fields, headed, expr_at, expr}
use Rattle.table.specs.code.Sound.{Node, WellFormed}
use Rattle.table.proofs.trees.Facts.{wide_kind}
use Rattle.table.proofs.trees.Trees.{headed_same, child_node, width_array, width_set, width_object}

items_moved : (g h : ℕ → Expr) (cs ds : List ℕ) (at k : ℕ) → ((i : ℕ) → i < k → g (child_at cs (at + i)) ≡ h (child_at ds (at + i))) → items g cs at k ≡ items h ds at k
unfolding items
items_moved g h cs ds at zero f = refl
items_moved g h cs ds at (suc k) f =
    let z : at + 0 ≡ at = omega arith in
    let here : g (child_at cs at) ≡ h (child_at ds at) = rw z at (f 0 (omega arith)) in
    ap₂ item here (items_moved g h cs ds (at + 1) k (λ i lt. let e : at + 1 + i ≡ at + (i + 1) = omega arith in rw e (f (i + 1) (omega arith))))

fields_moved : (g h : ℕ → Expr) (cs ds : List ℕ) (at k : ℕ) → ((i : ℕ) → i < k * 2 → g (child_at cs (at + i)) ≡ h (child_at ds (at + i))) → fields g cs at k ≡ fields h ds at k
unfolding fields
fields_moved g h cs ds at zero f = refl
fields_moved g h cs ds at (suc k) f =
    let z : at + 0 ≡ at = omega arith in
    let key : g (child_at cs at) ≡ h (child_at ds at) = rw z at (f 0 (omega arith)) in
    let value : g (child_at cs (at + 1)) ≡ h (child_at ds (at + 1)) = f 1 (omega arith) in
    let rest = fields_moved g h cs ds (at + 2) k (λ i lt. let e : at + 2 + i ≡ at + (i + 2) = omega arith in rw e (f (i + 2) (omega arith))) in
    λ j. field (key j) (value j) (rest j)

module _ (T : Tables) (w : WellFormed T) (more others : List ℕ) where
  abbrev T⁺ : Tables
  T⁺ = tables (T.nodes ++ more) (T.children ++ others) T.numbers T.names T.strings T.text

  pub word_kept : (k n : ℕ) → k < 5 → Node T n → record_word 5 k (T.nodes ++ more) n ≡ record_word 5 k T.nodes n
  unfolding record_word
  word_kept k n h v =
      let low = v.low in
      let high = v.high in
      ap (λ x. cond (eqb n 0) 0 x) (get_or-append T.nodes more 0 ((n - 1) * 5 + k) (in_words n k (length T.nodes) h low high))
    where
      in_words : (n k l : ℕ) → k < 5 → 1 ≤ n → n ≤ l / 5 → (n - 1) * 5 + k < l
      in_words n k l h a b = omega arith

  pub child_kept : (place : ℕ) → place < length T.children → child_at (T.children ++ others) place ≡ child_at T.children place
  child_kept place h = get_or-append T.children others 0 place h

  pub literal_kept : (n : ℕ) → Node T n → literal_at T⁺ n ≡ literal_at T n
  unfolding literal_node ref_of
  literal_kept n v = let a = word_kept 0 n (omega arith) v in let b = word_kept 3 n (omega arith) v in let c = word_kept 4 n (omega arith) v in rw (a, b, c)

  headed_kept : (n : ℕ) → Node T n → (es : Exprs) (fs : Fields) → headed T⁺ n es fs ≡ headed T n es fs
  unfolding headed
  headed_kept n v es fs = let a = word_kept 0 n (omega arith) v in let b = word_kept 3 n (omega arith) v in let c = literal_kept n v in rw (a, b, c)

  child_same : (n : ℕ) (v : Node T n) (g h : ℕ → Expr) → ((c : ℕ) → Node T c → g c ≡ h c) → (i : ℕ) → i < width T.nodes n
      → g (child_at (T.children ++ others) (first_word_of T.nodes n + i)) ≡ h (child_at T.children (first_word_of T.nodes n + i))
  child_same n v g h f i lt = ap g (child_kept (first_word_of T.nodes n + i) (inside n v i lt)) ∙ f (child_at T.children (first_word_of T.nodes n + i)) (child_node T w n v i lt)
    where
      inside : (n : ℕ) → Node T n → (i : ℕ) → i < width T.nodes n → first_word_of T.nodes n + i < length T.children
      inside n v i lt = let k = wide_kind T n i lt in let l = w.listed n v k.0 k.1 in omega arith

  expr_kept : (f n : ℕ) → Node T n → expr_at T⁺ f n ≡ expr_at T f n
  unfolding expr_at
  expr_kept zero n v = refl
  expr_kept (suc f) n v =
      let a = word_kept 3 n (omega arith) v in
      let b = word_kept 4 n (omega arith) v in
      let each = child_same n v (expr_at T⁺ f) (expr_at T f) (λ c u. expr_kept f c u) in
      ap₂ (λ (at k : ℕ). headed T⁺ n (items (expr_at T⁺ f) (T.children ++ others) at k) (fields (expr_at T⁺ f) (T.children ++ others) at k)) a b
      ∙ (headed_kept n v (items (expr_at T⁺ f) (T.children ++ others) (first_word_of T.nodes n) (count_of T.nodes n)) (fields (expr_at T⁺ f) (T.children ++ others) (first_word_of T.nodes n) (count_of T.nodes n))
      ∙ headed_same T n _ _ _ _
      (λ k. items_moved (expr_at T⁺ f) (expr_at T f) (T.children ++ others) T.children (first_word_of T.nodes n) (count_of T.nodes n) (λ i lt. let e = width_array (kind_of T.nodes n) (count_of T.nodes n) k in each i (omega arith)))
      (λ k. items_moved (expr_at T⁺ f) (expr_at T f) (T.children ++ others) T.children (first_word_of T.nodes n) (count_of T.nodes n) (λ i lt. let e = width_set (kind_of T.nodes n) (count_of T.nodes n) k in each i (omega arith)))
      (λ k. fields_moved (expr_at T⁺ f) (expr_at T f) (T.children ++ others) T.children (first_word_of T.nodes n) (count_of T.nodes n) (λ i lt. let e = width_object (kind_of T.nodes n) (count_of T.nodes n) k in each i (omega arith))))

  pub tree_kept : (n : ℕ) → Node T n → expr T⁺ n ≡ expr T n
  unfolding expr
  tree_kept n v = expr_kept n n v
