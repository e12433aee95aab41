-- The loops that put the fields of objects in key order.
use Prim.Native.Nat.{ℕ, ◌+◌, ◌-◌, ◌*◌, ◌/◌, ◌%◌, ◌^◌, ◌≤◌, ◌<◌}
use mathlib.Core.Bool.{Bool, true, false}
use mathlib.Core.List.{List}
use mathlib.Core.Path.{◌≡◌, refl, ap, sym, ◌∙◌}
use native.Mathlib.Omega.{arith}
use borrow.Author.Tests.{eq-eqb, eqb-true, eqb-false}
use lib.Dec.{eqb}
use lib.ListN.{length, get_or, set, length-set}
use lib.Seq.{get_or-set_same, get_or-set_other, get_or-take}
use Rattle.base.specs.Lists.{tabulate}
use Rattle.base.proofs.Filling.{length_tabulate, get_d_tabulate}
use Rattle.table.specs.Tables.{Tables, kind_of, first_word_of, count_of, node_count, width, child_at}
use Rattle.table.specs.Decode.{expr}
use Rattle.table.specs.code.Sound.{Node, WellFormed}
use Rattle.table.proofs.trees.Trees.{width_object}
use Rattle.table.proofs.trees.Lists.{same_block, used_blocks, elem_places, places_of}
use Rattle.planner.specs.Layout.{in_order}
use Rattle.planner.specs.Simple.{simple}
use Rattle.planner.specs.code.Passes.{field_key, order_of}
use Rattle.planner.specs.code.Post.{OrderAsks, Arranged}
use Rattle.planner.proofs.fields.FieldLoops.{arranged_first}
use Rattle.planner.proofs.fields.Objects.{below_at, order_below}
use Rattle.value.specs.code.Post.{is_marked, KeysAsks}
use Rattle.value.proofs.Admitted.{object_children, keyed_object}
use Rattle.value.proofs.Distinct.{ask_order, count_differs}
use Rattle.value.proofs.Marking.{marked_at}
use Rattle.common_example.specs.code.arrays.KeyOrder.{field_word, CopyAsks, FieldsCopied, ordered_word, OrderChildrenAsks, OrderObjectAsks, OrderNodeAsks, NodeOrdered, ChildrenOrdered}

-- 1. the fields of an object
pub record Copying (children order : List ℕ) (first count : ℕ) (before : List ℕ) (words j : ℕ) (here : List ℕ) : Type 0 where
  pub asks : CopyAsks order first count before
  pub words_are : words ≡ count * 2
  pub inside : j ≤ words
  pub long : length here ≡ 512
  pub fields : (k : ℕ) → k < j → get_or here (first + k) 0 ≡ field_word children order first k
  pub rest : (e : ℕ) → ((k : ℕ) → k < j → e ≡ first + k → ⊥) → get_or here e 0 ≡ get_or before e 0

pub copying_start : (children order : List ℕ) (first count : ℕ) (before : List ℕ) {words : ℕ} → CopyAsks order first count before → words ≡ count * 2 → Copying children order first count before words 0 before
copying_start children order first count before a e = record { asks = a; words_are = e; inside = omega arith; long = a.long; fields = λ k lt. absurd (omega arith); rest = λ e away. refl }

pub words_fit : {order : List ℕ} {first count : ℕ} {before : List ℕ} → CopyAsks order first count before → count * 2 < 2 ^ 64
words_fit a = let h = a.inside in omega arith

module _ {children order : List ℕ} {first count : ℕ} {before : List ℕ} {words j : ℕ} {here : List ℕ} (go : Copying children order first count before words j here) where
  module _ (lt : j < words) where
    pub copying_place : first + j < 512
    copying_place = let h = go.asks.inside in let w = go.words_are in omega (arith, h, w, lt)

    pub copying_next : j + 1 < 2 ^ 64
    copying_next = let h = copying_place in omega arith

    module _ {field : ℕ} (f : field ≡ get_or order (j / 2) 0) where
      field_low : field < 256
      field_low = let w = go.words_are in rw f (go.asks.numbers (j / 2) (omega (arith, w, lt)))

      pub field_fits : field * 2 < 2 ^ 64
      field_fits = let h = field_low in omega arith

      pub key_fits : first + field * 2 < 2 ^ 64
      key_fits = let h = field_low in let p = copying_place in omega arith

      pub word_fits : first + field * 2 + j % 2 < 2 ^ 64
      word_fits = let h = field_low in let p = copying_place in omega arith

      pub copying_on : {v : ℕ} → v ≡ child_at children (first + field * 2 + j % 2) → Copying children order first count before words (j + 1) (set here (first + j) v)
      copying_on {v} e = record {
        asks = go.asks;
        words_are = go.words_are;
        inside = omega arith;
        long = length-set here (first + j) v ∙ go.long;
        fields = λ k below. at k below (eqb k j) refl;
        rest = λ x away. get_or-set_other here (first + j) x v 0 (away j (omega arith)) ∙ go.rest x (λ k below. away k (omega arith));
      }
        where
          at : (k : ℕ) → k < j + 1 → (b : Bool) → eqb k j ≡ b → get_or (set here (first + j) v) (first + k) 0 ≡ field_word children order first k
          at k below true q =
              let i = eqb-true k j q in
              let l = go.long in
              let p = copying_place in
              rw i (get_or-set_same here (first + j) v 0 (omega (arith, l, p)) ∙ (e ∙ ap (λ (n : ℕ). child_at children (first + n * 2 + j % 2)) f))
          at k below false q =
              let i = eqb-false k j q in
              get_or-set_other here (first + j) (first + k) v 0 (λ h. i (omega (arith, h))) ∙ go.fields k (omega (arith, below, i))

  pub copying_ends : words ≤ j → FieldsCopied children order first count before here
  copying_ends done =
      let w = go.words_are in
      let i = go.inside in
      record {
        long = go.long;
        fields = λ k lt. go.fields k (omega (arith, w, done, lt));
        rest = λ e away. go.rest e (λ k lt. away k (omega (arith, w, i, lt)));
      }

-- 2. an object
module _ {T : Tables} {n : ℕ} {before : List ℕ} (a : OrderObjectAsks T n before) {first count : ℕ} (f : first ≡ first_word_of T.nodes n) (c : count ≡ count_of T.nodes n) where
  keys : KeysAsks T first count
  keys = rw (f, c) (record { children = object_children T a.table n a.node a.object; literal = (keyed_object T a.table n a.node true a.is_simple a.object).literal })

  pub object_order : OrderAsks T first count
  object_order = ask_order T first count keys

  module _ {empty order : List ℕ} {total : ℕ} (by : Arranged T first count empty order total) where
    total_is : total ≡ count
    total_is =
        let d = (keyed_object T a.table n a.node true a.is_simple a.object).differ in
        eqb-true total count (count_differs T first count keys (arranged_first by) ∙ (rw (f, c) d))

    listed : (q : ℕ) → q < total → get_or order q 0 ≡ get_or (in_order (order_of T first count)) q 0
    listed q lt = sym (get_or-take total order q 0 lt) ∙ ap (λ (l : List ℕ). get_or l q 0) (arranged_first by).fields

    pub object_copy : CopyAsks order first total before
    object_copy =
        let l = keys.children.listed in
        let m = a.table.limits.children in
        let t = total_is in
        record {
          inside = omega (arith, l, m, t);
          numbers = λ q lt.
              let e = listed q lt in
              let s = by.total in
              let b = below_at count (in_order (order_of T first count)) q (omega (arith, s, lt)) (order_below (field_key T first) count) in
              omega (arith, e, b, l, m);
          long = a.long;
        }

    pub object_ordered : {after : List ℕ} → FieldsCopied T.children order first total before after → NodeOrdered T n before after
    object_ordered {after} d =
        let w = width_object (kind_of T.nodes n) (count_of T.nodes n) a.object in
        let t = total_is in
        record {
          long = d.long;
          fields = λ s o j lt.
              let e : get_or after (first + j) 0 ≡ field_word T.children (in_order (order_of T first count)) first j = d.fields j (omega (arith, w, t, c, lt)) ∙ ap (λ (x : ℕ). child_at T.children (first + x * 2 + j % 2)) (listed (j / 2) (omega (arith, w, t, c, lt))) in
              rw (f, c) at e;
          kept = λ m. absurd (m a.object);
          rest = λ e away. d.rest e (λ j lt h. away j (omega (arith, w, t, c, lt)) (omega (arith, h, f)));
        }

-- a node
module _ {T : Tables} {marks : List ℕ} {n : ℕ} {before : List ℕ} (a : OrderNodeAsks T marks n before) where
  told : is_marked marks n ≡ simple (expr T n)
  told = marked_at T true a.asks.table a.asks.simples n a.node

  pub unmarked_kept : (get_or marks (n - 1) 0 ≡ 1 → ⊥) → NodeOrdered T n before before
  unmarked_kept m = record {
    long = a.long;
    fields = λ s k. absurd (m (eqb-true (get_or marks (n - 1) 0) 1 (told ∙ s)));
    kept = λ k. refl;
    rest = λ e away. refl;
  }

  module _ {kind : ℕ} (k : kind ≡ kind_of T.nodes n) where
    pub other_kept : (kind ≡ 9 → ⊥) → NodeOrdered T n before before
    other_kept m = record { long = a.long; fields = λ s o. absurd (m (k ∙ o)); kept = λ o. refl; rest = λ e away. refl }

    pub simple_object : get_or marks (n - 1) 0 ≡ 1 → kind ≡ 9 → OrderObjectAsks T n before
    simple_object marked o = record {
      table = a.asks.table;
      node = a.node;
      object = sym k ∙ o;
      is_simple = sym told ∙ eq-eqb (get_or marks (n - 1) 0) 1 marked;
      long = a.long;
    }

-- 3. all nodes: no child entry serves two of them
entries_apart : (T : Tables) → WellFormed T → (m n : ℕ) → Node T m → Node T n → (m ≡ n → ⊥) → (i j : ℕ) → i < width T.nodes m → j < width T.nodes n → first_word_of T.nodes m + i ≡ first_word_of T.nodes n + j → ⊥
entries_apart T w m n v u differ i j lt lt' e =
    let a = v.low in
    let b = v.high in
    let c = u.low in
    let d = u.high in
    let x : 1 + (m - 1) ≡ m = omega arith in
    let y : 1 + (n - 1) ≡ n = omega arith in
    let p = elem_places (first_word_of T.nodes m) (width T.nodes m) i lt in
    let q = elem_places (first_word_of T.nodes n) (width T.nodes n) j lt' in
    let s = same_block (places_of T.nodes) (first_word_of T.nodes m + i) 1 (node_count T) (rw (used_blocks T.nodes 1 (node_count T)) at w.apart) (m - 1) (n - 1) (omega arith) (omega arith) (rw x p) (rw y (rw e q)) in
    differ (omega (arith, s, a, c))

pub record Ordering (T : Tables) (marks : List ℕ) (count n : ℕ) (here : List ℕ) : Type 0 where
  pub asks : OrderChildrenAsks T marks
  pub counted : count ≡ node_count T
  pub inside : n ≤ count
  pub long : length here ≡ 512
  pub items : (m : ℕ) → Node T m → kind_of T.nodes m ≡ 7 → (i : ℕ) → i < width T.nodes m → get_or here (first_word_of T.nodes m + i) 0 ≡ child_at T.children (first_word_of T.nodes m + i)
  pub fields : (m : ℕ) → Node T m → m ≤ n → simple (expr T m) ≡ true → kind_of T.nodes m ≡ 9
      → (j : ℕ) → j < width T.nodes m → get_or here (first_word_of T.nodes m + j) 0 ≡ ordered_word T m j

pub ordering_start : (T : Tables) (marks : List ℕ) {count : ℕ} {here : List ℕ} → OrderChildrenAsks T marks → here ≡ tabulate (child_at T.children) 0 512 → count ≡ node_count T → Ordering T marks count 0 here
ordering_start T marks {count} {here} a e c = record {
  asks = a;
  counted = c;
  inside = omega arith;
  long = rw e (length_tabulate (child_at T.children) 0 512);
  items = λ m v k i lt.
      let s = a.table.listed m v (omega arith) (omega arith) in
      let l = a.table.limits.children in
      let z : 0 + (first_word_of T.nodes m + i) ≡ first_word_of T.nodes m + i = omega arith in
      rw e (get_d_tabulate (child_at T.children) 0 512 (first_word_of T.nodes m + i) (omega (arith, s, l, lt)) ∙ ap (child_at T.children) z);
  fields = λ m v le. absurd (let h = v.low in omega arith);
}

module _ {T : Tables} {marks : List ℕ} {count n : ℕ} {here : List ℕ} (go : Ordering T marks count n here) where
  module _ (lt : n < count) where
    next_node : Node T (n + 1)
    next_node = let c = go.counted in record { low = omega arith; high = omega (arith, c, lt) }

    pub ordering_fits : n + 1 < 2 ^ 32
    ordering_fits = let c = go.counted in let l = go.asks.table.limits.nodes in omega (arith, c, l, lt)

    pub ordering_asks : OrderNodeAsks T marks (n + 1) here
    ordering_asks = record { asks = go.asks; node = next_node; long = go.long }

    pub ordering_on : {later : List ℕ} → NodeOrdered T (n + 1) here later → Ordering T marks count (n + 1) later
    ordering_on {later} d = record {
      asks = go.asks;
      counted = go.counted;
      inside = omega arith;
      long = d.long;
      items = λ m v k i l. item m v k i l (eqb m (n + 1)) refl;
      fields = λ m v le s k j l. field m v le s k j l (eqb m (n + 1)) refl;
    }
      where
        away : (m : ℕ) → Node T m → (m ≡ n + 1 → ⊥) → (i : ℕ) → i < width T.nodes m → get_or later (first_word_of T.nodes m + i) 0 ≡ get_or here (first_word_of T.nodes m + i) 0
        away m v differ i l = d.rest (first_word_of T.nodes m + i) (λ j l' e. entries_apart T go.asks.table m (n + 1) v next_node differ i j l l' e)

        item : (m : ℕ) → Node T m → kind_of T.nodes m ≡ 7 → (i : ℕ) → i < width T.nodes m → (b : Bool) → eqb m (n + 1) ≡ b → get_or later (first_word_of T.nodes m + i) 0 ≡ child_at T.children (first_word_of T.nodes m + i)
        item m v k i l true q =
            let e = eqb-true m (n + 1) q in
            ap (λ (x : List ℕ). get_or x (first_word_of T.nodes m + i) 0) (d.kept (λ h. let z : kind_of T.nodes m ≡ 9 = rw e h in omega (arith, z, k))) ∙ go.items m v k i l
        item m v k i l false q = away m v (eqb-false m (n + 1) q) i l ∙ go.items m v k i l

        field : (m : ℕ) → Node T m → m ≤ n + 1 → simple (expr T m) ≡ true → kind_of T.nodes m ≡ 9 → (j : ℕ) → j < width T.nodes m → (b : Bool) → eqb m (n + 1) ≡ b → get_or later (first_word_of T.nodes m + j) 0 ≡ ordered_word T m j
        field m v le s k j l true q = let e = eqb-true m (n + 1) q in rw e (d.fields (rw e at s) (rw e at k) j (rw e at l))
        field m v le s k j l false q =
            let differ = eqb-false m (n + 1) q in
            away m v differ j l ∙ go.fields m v (omega (arith, le, differ)) s k j l

  pub ordering_ends : count ≤ n → ChildrenOrdered T here
  ordering_ends done = let c = go.counted in record { items = go.items; fields = λ m v. go.fields m v (let h = v.high in omega (arith, c, done, h)) }
