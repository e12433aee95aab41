-- The words of the arrays, by nodes and child entries.
use Prim.Native.Nat.{ℕ, ◌+◌, ◌-◌, ◌*◌, ◌/◌, ◌%◌, ◌≤◌, ◌<◌}
use mathlib.Core.Bool.{Bool, true, false, cond, ◌&&◌}
use mathlib.Core.List.{List}
use mathlib.Core.Option.{Option}
use mathlib.Core.Path.{◌≡◌, refl, ap, sym, ◌∙◌}
use native.Mathlib.Omega.{arith}
use borrow.Author.Tests.{ne_eqb, eqb-true, eqb-false, lt-ltb, le-leb, lt-leb, leb-true, leb-false, ltb-true, ltb-false}
use lib.Dec.{eqb, leb, ltb}
use lib.ListN.{get_or, get_or-eq_default}
use Rattle.base.specs.Lists.{tabulate}
use Rattle.base.proofs.Filling.{length_tabulate, get_d_tabulate}
use Rattle.literal.specs.Literal.{Literal}
use Rattle.table.specs.Tables.{Tables, node_count, child_at, is_node}
use Rattle.table.specs.Decode.{expr}
use Rattle.table.specs.code.Sound.{Node, WellFormed}
use Rattle.planner.specs.Simple.{simple, admitted}
use Rattle.value.specs.code.Post.{is_marked, mark_of, node_marks}
use Rattle.value.proofs.Marking.{marked_at}
use Rattle.common_example.specs.code.Graph.{head_word}
use Rattle.common_example.specs.code.arrays.Likes.{like_in, likes}
use Rattle.common_example.specs.code.arrays.NodePlaces.{node_place, side_places}
use Rattle.common_example.specs.code.arrays.Arrays.{of_node, link_by, link_word, part_by, head_part, head_word_at}

-- past the end
pub past_end : (f : ℕ → ℕ) (size i : ℕ) → size ≤ i → get_or (tabulate f 0 size) i 0 ≡ 0
past_end f size i h = let l = length_tabulate f 0 size in get_or-eq_default (tabulate f 0 size) 0 {n = i} (omega arith)

pub within_end : (f : ℕ → ℕ) (size i : ℕ) → i < size → get_or (tabulate f 0 size) i 0 ≡ f i
within_end f size i h = let z : 0 + i ≡ i = omega arith in get_d_tabulate f 0 size i h ∙ ap f z

-- 1. of a node
module _ (count : ℕ) (few : count ≤ 512) {n : ℕ} (low : 1 ≤ n) (high : n ≤ count) where
  of_filled : (f : ℕ → ℕ) → of_node (tabulate (λ i. cond (ltb i count) (f (i + 1)) 0) 0 512) n ≡ f n
  of_filled f =
      let q = ne_eqb n 0 (λ e. omega (arith, e, low)) in
      let l = lt-ltb (n - 1) count (omega arith) in
      let z : n - 1 + 1 ≡ n = omega arith in
      rw q (within_end (λ i. cond (ltb i count) (f (i + 1)) 0) 512 (n - 1) (omega arith) ∙ (ap (λ (b : Bool). cond b (f (n - 1 + 1)) 0) l ∙ ap f z))

  pub like_of : (literals : ℕ → Option Literal) → of_node (likes literals count) n ≡ like_in literals count n
  unfolding likes
  like_of literals = of_filled (like_in literals count)

pub place_of : (T : Tables) → WellFormed T → (held : List ℕ) (side n : ℕ) → Node T n → of_node (side_places T.nodes T.names T.text held side) n ≡ node_place T.nodes T.names T.text held n side
unfolding side_places
place_of T w held side n v = of_filled (node_count T) w.limits.nodes v.low v.high (λ m. node_place T.nodes T.names T.text held m side)

-- 2. a link
module _ (ordered first second like : List ℕ) where
  abbrev pub links_of : List ℕ
  links_of = tabulate (link_word ordered first second like) 0 2048

  pub link_at : (e way : ℕ) → e < 512 → way < 4 → get_or links_of (e * 4 + way) 0 ≡ link_by first second like (child_at ordered e) way
  unfolding link_word
  link_at e way h k =
      let x : (e * 4 + way) / 4 ≡ e = omega arith in
      let y : (e * 4 + way) % 4 ≡ way = omega arith in
      within_end (link_word ordered first second like) 2048 (e * 4 + way) (omega arith) ∙ rw (x, y)

-- 3. a head
module _ (T : Tables) (w : WellFormed T) (like : List ℕ) where
  abbrev pub heads_of : List ℕ
  heads_of = tabulate (head_word_at T.nodes (node_marks T true) like) 0 6156

  -- of every number
  pub marks_told : (n : ℕ) → 1 ≤ n → is_marked (node_marks T true) n ≡ (is_node T n && simple (expr T n))
  unfolding node_marks
  marks_told n low = go (leb n (node_count T)) refl
    where
      unmarked : node_count T < n → (b : Bool) → ltb (n - 1) 512 ≡ b → get_or (node_marks T true) (n - 1) 0 ≡ 0
      unmarked h true e =
          let z : n - 1 + 1 ≡ n = omega arith in
          let o = lt-leb n (node_count T) h in
          let p = le-leb 1 n low in
          within_end (λ i. mark_of (is_node T (i + 1) && admitted true (expr T (i + 1)))) 512 (n - 1) (ltb-true (n - 1) 512 e) ∙ rw (z, p, o)
      unmarked h false e = past_end (λ i. mark_of (is_node T (i + 1) && admitted true (expr T (i + 1)))) 512 (n - 1) (ltb-false (n - 1) 512 e)

      go : (b : Bool) → leb n (node_count T) ≡ b → is_marked (node_marks T true) n ≡ (is_node T n && simple (expr T n))
      go true e =
          let p = le-leb 1 n low in
          marked_at T true w refl n (record { low = low; high = leb-true n (node_count T) e }) ∙ sym (rw (p, e))
      go false e =
          let p = le-leb 1 n low in
          let u = unmarked (leb-false n (node_count T) e) (ltb (n - 1) 512) refl in
          rw (u, p, e)

  pub head_at : (n side k : ℕ) → side < 4 → k < 3 → head_word k heads_of (n * 4 + side) ≡ head_part T.nodes (node_marks T true) like n side k
  unfolding head_part
  head_at n side k s h = go (ltb n 513) refl
    where
      go : (b : Bool) → ltb n 513 ≡ b → head_word k heads_of (n * 4 + side) ≡ head_part T.nodes (node_marks T true) like n side k
      go true e =
          let l = ltb-true n 513 e in
          let x : ((n * 4 + side) * 3 + k) / 12 ≡ n = omega arith in
          let y : ((n * 4 + side) * 3 + k) / 3 % 4 ≡ side = omega arith in
          let z : ((n * 4 + side) * 3 + k) % 3 ≡ k = omega arith in
          within_end (head_word_at T.nodes (node_marks T true) like) 6156 ((n * 4 + side) * 3 + k) (omega arith) ∙ rw (x, y, z)
      go false e =
          let l = ltb-false n 513 e in
          let c = w.limits.nodes in
          let q = ne_eqb n 0 (λ i. omega (arith, i, l)) in
          let o = lt-leb n (node_count T) (omega arith) in
          let p = le-leb 1 n (omega arith) in
          let m : is_marked (node_marks T true) n ≡ false = marks_told n (omega arith) ∙ rw (p, o) in
          past_end (head_word_at T.nodes (node_marks T true) like) 6156 ((n * 4 + side) * 3 + k) (omega arith) ∙ sym (rw (q, m) (either (leb side 1)))
        where
          either : (c : Bool) → ◌≡◌ {A = ℕ} (cond c 0 0) 0
          either true = refl
          either false = refl

  -- a side's, and a name's
  pub node_part : (n side k : ℕ) → side ≤ 1 → k < 3 → head_word k heads_of (n * 4 + side) ≡ cond (is_node T n && simple (expr T n)) (part_by T.nodes like n side k) 0
  unfolding head_part
  node_part n side k s h = head_at n side k (omega arith) h ∙ go (eqb n 0) refl
    where
      go : (b : Bool) → eqb n 0 ≡ b → head_part T.nodes (node_marks T true) like n side k ≡ cond (is_node T n && simple (expr T n)) (part_by T.nodes like n side k) 0
      go true e = let i = eqb-true n 0 e in let z : leb 1 n ≡ false = lt-leb 1 n (omega arith) in rw (e, z)
      go false e =
          let i = eqb-false n 0 e in
          let q = le-leb side 1 s in
          let m = marks_told n (omega (arith, i)) in
          rw (e, q, m)

  pub name_part : (n side k : ℕ) → 1 < side → side < 4 → k < 3 → head_word k heads_of (n * 4 + side) ≡ 0
  unfolding head_part
  name_part n side k s t h = head_at n side k t h ∙ go (eqb n 0)
    where
      go : (b : Bool) → cond b 0 (cond (leb side 1) (cond (is_marked (node_marks T true) n) (part_by T.nodes like n side k) 0) 0) ≡ 0
      go true = refl
      go false = let q = lt-leb side 1 s in rw q
