-- The marks of nodes, from the lowest number on.
use Prim.Native.Nat.{ℕ, zero, suc, ◌+◌, ◌-◌, ◌*◌, ◌≤◌, ◌<◌}
use mathlib.Core.Path.{◌≡◌, refl, sym, ap, ap₂, ◌∙◌}
use mathlib.Core.List.{List}
use mathlib.Core.Bool.{Bool, true, false, cond, ◌&&◌, not, false≢true, and-false}
use native.Mathlib.Omega.{arith}
use mir.Val.{Fits}
use mir.Syntax.{w64}
use borrow.Author.Tests.{eq-eqb, ne_eqb, le-leb, lt-leb, leb-true, leb-false}
use lib.Dec.{eqb, leb}
use lib.ListN.{get_or, set, replicate}
use lib.Seq.{ext_get_or}
use Rattle.table.specs.Tables.{Tables, tables, kind_of, first_word_of, count_of, node_count, child_at, is_node}
use Rattle.table.specs.Expr.{Expr, name, wildcard}
use Rattle.table.specs.Decode.{expr, items, fields, is_wildcard, fields_of}
use Rattle.table.specs.code.Sound.{Node, WellFormed}
use Rattle.table.proofs.tests.Bools.{and_true, told_no, told_yes}
use Rattle.table.proofs.trees.Trees.{expr_literal, expr_name, expr_array, expr_object, child_node, width_array, width_object}
use Rattle.planner.specs.Layout.{literal_key}
use Rattle.planner.specs.code.Passes.{key_node}
use Rattle.base.specs.Lists.{tabulate}
use Rattle.planner.proofs.buffer.Filling.{length_tabulate, get_d_tabulate}
use Rattle.planner.specs.Simple.{keys_of, is_literal, differing, admitted, admitted_all, admitted_fields}
use Rattle.planner.proofs.destructuring.NodeKinds.{Plain, plain_literal, plain_set, plain_other, plain_kind}
use Rattle.value.specs.code.Post.{is_marked, mark_of, items_marked, fields_marked, ChildrenAsks, EntriesAsks, MarkAsks, node_marks, KeysAsks}
use Rattle.value.proofs.Changing.{Changing, changing_zeros, changing_on}
use Rattle.value.proofs.Admitted.{literal_kind_lem, array_children, object_children}

-- the first of the children, and the rest
module _ {T : Tables} {at left : ℕ} (more : 0 < left) where
  module _ (a : ChildrenAsks T at 1 left) where
    pub items_on : ChildrenAsks T (at + 1) 1 (left - 1)
    items_on = record {
      table = a.table;
      each = λ i lt. let e : at + (i + 1) ≡ at + 1 + i = omega arith in rw e at (a.each (i + 1) (omega arith));
      listed = let s = a.listed in omega arith;
    }

    pub first_item : {child : ℕ} → child ≡ child_at T.children at → Node T child
    first_item is = let e : at + 0 ≡ at = omega arith in rw is (rw e at (a.each 0 (omega arith)))

  module _ (a : ChildrenAsks T at 2 left) where
    pub fields_on : ChildrenAsks T (at + 2) 2 (left - 1)
    fields_on = record {
      table = a.table;
      each = λ i lt. let e : at + (i + 2) ≡ at + 2 + i = omega arith in rw e at (a.each (i + 2) (omega arith));
      listed = let s = a.listed in omega arith;
    }

    pub first_value : Node T (child_at T.children (at + 1))
    first_value = a.each 1 (omega arith)

    pub place_fits : Fits w64 at
    place_fits = let s = a.listed in let few = a.table.limits.children in record { fits = omega arith }

    pub value_fits : Fits w64 (at + 1)
    value_fits = let s = a.listed in let few = a.table.limits.children in record { fits = omega arith }

-- a node has its place among 512
pub node-place : {T : Tables} {n : ℕ} → WellFormed T → Node T n → n - 1 < 512
node-place w v = let l = v.low in let h = v.high in let m = w.limits.nodes in omega arith

-- items
pub record MarkingItems (ch : List ℕ) (marks : List ℕ) (at₀ left₀ at left : ℕ) : Type 0 where
  pub asks : EntriesAsks ch at 1 left
  pub same : items_marked ch marks at left ≡ items_marked ch marks at₀ left₀

pub items_start : (ch : List ℕ) (marks : List ℕ) (at left : ℕ) {more : ℕ} → EntriesAsks ch at 1 left → more ≡ left → MarkingItems ch marks at left at more
items_start ch marks at left a is = rw is (record { asks = a; same = refl })

pub items_fit : {ch : List ℕ} {at left : ℕ} → EntriesAsks ch at 1 left → Fits w64 (at + left)
items_fit a = let s = a.asks.listed in let few = a.asks.table.limits.children in record { fits = omega arith }

items_step : (ch : List ℕ) (marks : List ℕ) (at left : ℕ) → 0 < left → items_marked ch marks at left ≡ (is_marked marks (child_at ch at) && items_marked ch marks (at + 1) (left - 1))
unfolding items_marked
items_step ch marks at left more = let a : left ≡ suc (left - 1) = omega arith in ap (λ (k : ℕ). items_marked ch marks at k) a

module _ {ch : List ℕ} {marks : List ℕ} {at₀ left₀ at left : ℕ} (go : MarkingItems ch marks at₀ left₀ at left) where
  module _ (more : 0 < left) {child : ℕ} (is : child ≡ child_at ch at) where
    pub item_low : 1 ≤ child
    item_low = (first_item more go.asks.asks is).low

    pub item_place : child - 1 < 512
    item_place = node-place go.asks.asks.table (first_item more go.asks.asks is)

    pub item_marked : {rest : ℕ} → get_or marks (child - 1) 0 ≡ 1 → rest ≡ left - 1 → MarkingItems ch marks at₀ left₀ (at + 1) rest
    item_marked one last =
        let m : is_marked marks (child_at ch at) ≡ true = rw (← is) (eq-eqb (get_or marks (child - 1) 0) 1 one) in
        rw last (record { asks = record { T = go.asks.T; asks = items_on more go.asks.asks }; same = sym (items_step ch marks at left more ∙ rw m) ∙ go.same })

    pub item_unmarked : (get_or marks (child - 1) 0 ≡ 1 → ⊥) → false ≡ items_marked ch marks at₀ left₀
    item_unmarked blank =
        let m : is_marked marks (child_at ch at) ≡ false = rw (← is) (ne_eqb (get_or marks (child - 1) 0) 1 blank) in
        sym (items_step ch marks at left more ∙ rw m) ∙ go.same

  pub items_end : left ≤ 0 → true ≡ items_marked ch marks at₀ left₀
  unfolding items_marked
  items_end no_more = let z : left ≡ 0 = omega arith in rw z at go.same

-- fields
pub record MarkingFields (nodes ch : List ℕ) (marks : List ℕ) (at₀ left₀ at left : ℕ) : Type 0 where
  pub asks : EntriesAsks ch at 2 left
  pub same : fields_marked nodes ch marks at left ≡ fields_marked nodes ch marks at₀ left₀

pub fields_start : (nodes ch : List ℕ) (marks : List ℕ) (at left : ℕ) {place more : ℕ} → EntriesAsks ch at 2 left → place ≡ at → more ≡ left → MarkingFields nodes ch marks at left place more
fields_start nodes ch marks at left a is of = rw (is, of) (record { asks = a; same = refl })

fields_step : (nodes ch : List ℕ) (marks : List ℕ) (at left : ℕ) → 0 < left
    → fields_marked nodes ch marks at left ≡ (leb (kind_of nodes (child_at ch at)) 5 && (is_marked marks (child_at ch (at + 1)) && fields_marked nodes ch marks (at + 2) (left - 1)))
unfolding fields_marked
fields_step nodes ch marks at left more = let a : left ≡ suc (left - 1) = omega arith in ap (λ (k : ℕ). fields_marked nodes ch marks at k) a

module _ {nodes ch : List ℕ} {marks : List ℕ} {at₀ left₀ at left : ℕ} (go : MarkingFields nodes ch marks at₀ left₀ at left) where
  module _ (more : 0 < left) where
    pub field_value_fits : Fits w64 (at + 1)
    field_value_fits = value_fits more go.asks.asks

    pub field_fits : Fits w64 at
    field_fits = place_fits more go.asks.asks

    module _ {key kind : ℕ} (is_key : key ≡ child_at ch at) (is-kind : kind ≡ kind_of nodes key) where
      pub field_computed : 5 < kind → false ≡ fields_marked nodes ch marks at₀ left₀
      field_computed high =
          let k : leb (kind_of nodes (child_at ch at)) 5 ≡ false = rw (← is_key) (rw (← is-kind) (lt-leb kind 5 high)) in
          sym (fields_step nodes ch marks at left more ∙ rw k) ∙ go.same

      module _ (low : kind ≤ 5) {value : ℕ} (is : value ≡ child_at ch (at + 1)) where
        leads : leb (kind_of nodes (child_at ch at)) 5 ≡ true
        leads = rw (← is_key) (rw (← is-kind) (le-leb kind 5 low))

        pub field_marked : {next rest : ℕ} → get_or marks (value - 1) 0 ≡ 1 → next ≡ at + 2 → rest ≡ left - 1 → MarkingFields nodes ch marks at₀ left₀ next rest
        field_marked one on last =
            let k = leads in
            let m : is_marked marks (child_at ch (at + 1)) ≡ true = rw (← is) (eq-eqb (get_or marks (value - 1) 0) 1 one) in
            rw (on, last) (record { asks = record { T = go.asks.T; asks = fields_on more go.asks.asks }; same = sym (fields_step nodes ch marks at left more ∙ rw (k, m)) ∙ go.same })

        pub field_unmarked : (get_or marks (value - 1) 0 ≡ 1 → ⊥) → false ≡ fields_marked nodes ch marks at₀ left₀
        field_unmarked blank =
            let k = leads in
            let m : is_marked marks (child_at ch (at + 1)) ≡ false = rw (← is) (ne_eqb (get_or marks (value - 1) 0) 1 blank) in
            sym (fields_step nodes ch marks at left more ∙ rw (k, m)) ∙ go.same

    module _ {value : ℕ} (is : value ≡ child_at ch (at + 1)) where
      pub field_low : 1 ≤ value
      field_low = rw is (first_value more go.asks.asks).low

      pub field_place : value - 1 < 512
      field_place = rw is (node-place go.asks.asks.table (first_value more go.asks.asks))

  pub fields_end : left ≤ 0 → true ≡ fields_marked nodes ch marks at₀ left₀
  unfolding fields_marked
  fields_end no_more = let z : left ≡ 0 = omega arith in rw z at go.same

-- marks that are right make right what they say of items and fields
module _ (T : Tables) (w : WellFormed T) (b : Bool) (marks : List ℕ) where
  Right : ℕ → Type 0
  Right m = is_marked marks m ≡ admitted b (expr T m)

  items_right : (at k : ℕ) → ((i : ℕ) → i < k → Right (child_at T.children (at + i))) → items_marked T.children marks at k ≡ admitted_all b (items (expr T) T.children at k)
  unfolding items_marked items admitted Right
  items_right at zero each = refl
  items_right at (suc k) each =
      let z : at + 0 ≡ at = omega arith in
      ap₂ (λ (p q : Bool). p && q) (rw z at (each 0 (omega arith)))
      (items_right (at + 1) k (λ i lt. let e : at + (i + 1) ≡ at + 1 + i = omega arith in rw e at (each (i + 1) (omega arith))))

  literal_right : (n : ℕ) → Node T n → leb (kind_of T.nodes n) 5 ≡ is_literal (literal_key (expr T n))
  literal_right n v = go (leb (kind_of T.nodes n) 5) refl (is_literal (literal_key (expr T n))) refl
    where
      go : (p : Bool) → leb (kind_of T.nodes n) 5 ≡ p → (q : Bool) → is_literal (literal_key (expr T n)) ≡ q → p ≡ q
      go true e true f = refl
      go false e false f = refl
      go true e false f =
          let l = w.literals n v (leb-true (kind_of T.nodes n) 5 e) in
          let t = expr_literal T w n v l.0 (leb-true (kind_of T.nodes n) 5 e) l.1 in
          absurd (false≢true (sym f ∙ ap (λ (x : Expr). is_literal (literal_key x)) t))
      go false e true f = let h = literal_kind_lem T w n v f in let g = leb-false (kind_of T.nodes n) 5 e in absurd (omega arith)

  fields_right : (at k : ℕ) → ((i : ℕ) → i < k * 2 → Node T (child_at T.children (at + i))) → ((i : ℕ) → i < k → Right (child_at T.children (at + i * 2 + 1)))
      → fields_marked T.nodes T.children marks at k ≡ admitted_fields b (fields (expr T) T.children at k)
  unfolding fields_marked fields admitted Right
  fields_right at zero nodes each = refl
  fields_right at (suc k) nodes each =
      let y : at + 0 ≡ at = omega arith in
      let z : at + 0 * 2 + 1 ≡ at + 1 = omega arith in
      let rest = fields_right (at + 2) k
      (λ i lt. let e : at + (i + 2) ≡ at + 2 + i = omega arith in rw e at (nodes (i + 2) (omega arith)))
      (λ i lt. let e : at + (i + 1) * 2 + 1 ≡ at + 2 + i * 2 + 1 = omega arith in rw e at (each (i + 1) (omega arith))) in
      ap₂ (λ (p q : Bool). p && q) (literal_right (child_at T.children at) (rw y at (nodes 0 (omega arith))))
      (ap₂ (λ (p q : Bool). p && q) (rw z at (each 0 (omega arith))) rest)

all_literal_lem : (T : Tables) (marks : List ℕ) (at k : ℕ) → fields_marked T.nodes T.children marks at k ≡ true → (i : ℕ) → i < k → kind_of T.nodes (key_node T at i) ≤ 5
unfolding fields_marked
all_literal_lem T marks at zero e i lt = absurd (omega arith)
all_literal_lem T marks at (suc k) e zero lt =
    let z : at + 0 * 2 ≡ at = omega arith in
    rw z (leb-true (kind_of T.nodes (child_at T.children at)) 5 (and_true (leb (kind_of T.nodes (child_at T.children at)) 5) (is_marked marks (child_at T.children (at + 1)) && fields_marked T.nodes T.children marks (at + 2) k) e).0)
all_literal_lem T marks at (suc k) e (suc i) lt =
    let z : at + suc i * 2 ≡ at + 2 + i * 2 = omega arith in
    let rest = (and_true (leb (kind_of T.nodes (child_at T.children at)) 5) (is_marked marks (child_at T.children (at + 1)) && fields_marked T.nodes T.children marks (at + 2) k) e).1 in
    rw z (all_literal_lem T marks (at + 2) k (and_true (is_marked marks (child_at T.children (at + 1))) (fields_marked T.nodes T.children marks (at + 2) k) rest).1 i (omega arith))

-- a node by its kind
module _ (T : Tables) (b : Bool) (marks : List ℕ) (n : ℕ) (a : MarkAsks T b marks n) {kind : ℕ} (is-kind : kind ≡ kind_of T.nodes n) where
  node_kind : {k : ℕ} → kind ≡ k → kind_of T.nodes n ≡ k
  node_kind e = sym is-kind ∙ e

  pub admits_literal : kind ≤ 5 → true ≡ admitted b (expr T n)
  unfolding admitted
  admits_literal low =
      let h : kind_of T.nodes n ≤ 5 = rw (← is-kind) low in
      let l = a.table.literals n a.node h in
      sym (ap (admitted b) (expr_literal T a.table n a.node l.0 h l.1))

  pub admits_name : kind ≡ 6 → b ≡ admitted b (expr T n)
  unfolding admitted
  admits_name k = sym (ap (admitted b) (expr_name T a.table n a.node (node_kind k)) ∙ go (is_wildcard T (first_word_of T.nodes n)))
    where
      go : (c : Bool) → admitted b (cond c (wildcard n) (name n (first_word_of T.nodes n))) ≡ b
      go true = refl
      go false = refl

  pub admits_none : 5 < kind → (kind ≡ 6 → ⊥) → (kind ≡ 7 → ⊥) → (kind ≡ 9 → ⊥) → false ≡ admitted b (expr T n)
  unfolding admitted
  admits_none high not-6 not-7 not-9 =
      let p = plain_kind T a.table n a.node (λ k. not-6 (is-kind ∙ k)) (λ k. not-7 (is-kind ∙ k)) (λ k. not-9 (is-kind ∙ k)) in
      go p.0 p.1 p.2
    where
      go : (e : Expr) → expr T n ≡ e → Plain (kind_of T.nodes n) n e → false ≡ admitted b (expr T n)
      go e q (plain_literal l h) = absurd (omega arith)
      go e q (plain_set es h) = sym (ap (admitted b) q)
      go e q (plain_other h) = sym (ap (admitted b) q)

  module _ {first size : ℕ} (is_first : first ≡ first_word_of T.nodes n) (is_size : size ≡ count_of T.nodes n) where
    items_there : kind ≡ 7 → ChildrenAsks T first 1 size
    items_there k = rw (is_first, is_size) (array_children T a.table n a.node (node_kind k))

    fields_there : kind ≡ 9 → ChildrenAsks T first 2 size
    fields_there k = rw (is_first, is_size) (object_children T a.table n a.node (node_kind k))

    pub admits_array : {r : Bool} → kind ≡ 7 → r ≡ items_marked T.children marks first size → r ≡ admitted b (expr T n)
    unfolding admitted
    admits_array k e =
        let wide = width_array (kind_of T.nodes n) (count_of T.nodes n) (node_kind k) in
        e ∙ (rw (is_first, is_size) (items_right T a.table b marks (first_word_of T.nodes n) (count_of T.nodes n)
        (λ i lt. unfold Right in a.below (child_at T.children (first_word_of T.nodes n + i)) (child_node T a.table n a.node i (omega arith)) (a.table.below n a.node i (omega arith)).1))
        ∙ sym (ap (admitted b) (expr_array T a.table n a.node (node_kind k))))

    fields_are : kind ≡ 9 → fields_marked T.nodes T.children marks first size ≡ admitted_fields b (fields_of T n)
    fields_are k =
        let wide = width_object (kind_of T.nodes n) (count_of T.nodes n) (node_kind k) in
        rw (is_first, is_size) (fields_right T a.table b marks (first_word_of T.nodes n) (count_of T.nodes n)
        (λ i lt. child_node T a.table n a.node i (omega arith))
        (λ i lt. unfold Right in
        let e : first_word_of T.nodes n + (i * 2 + 1) ≡ first_word_of T.nodes n + i * 2 + 1 = omega arith in
        rw e at (a.below (child_at T.children (first_word_of T.nodes n + (i * 2 + 1))) (child_node T a.table n a.node (i * 2 + 1) (omega arith)) (a.table.below n a.node (i * 2 + 1) (omega arith)).1)))

    object_is : kind ≡ 9 → admitted b (expr T n) ≡ (differing (keys_of (fields_of T n)) && admitted_fields b (fields_of T n))
    unfolding admitted
    object_is k = ap (admitted b) (expr_object T a.table n a.node (node_kind k))

    module _ (k : kind ≡ 9) {keyed : Bool} (told : keyed ≡ fields_marked T.nodes T.children marks first size) where
      pub admits_unmarked : not keyed ≡ true → false ≡ admitted b (expr T n)
      admits_unmarked no_field =
          let f : admitted_fields b (fields_of T n) ≡ false = sym (fields_are k) ∙ told_no told no_field in
          sym (object_is k ∙ (ap (λ (c : Bool). differing (keys_of (fields_of T n)) && c) f ∙ and-false (differing (keys_of (fields_of T n)))))

      pub ask_keys : not keyed ≡ false → KeysAsks T first size
      ask_keys all-marked = record { children = fields_there k; literal = λ i lt. all_literal_lem T marks first size (told_yes told all-marked) i lt }

      pub admits_object : {r : Bool} → not keyed ≡ false → r ≡ differing (keys_of (fields (expr T) T.children first size)) → r ≡ admitted b (expr T n)
      admits_object all-marked e =
          let f : admitted_fields b (fields_of T n) ≡ true = sym (fields_are k) ∙ told_yes told all-marked in
          (rw (is_first, is_size) at e) ∙ sym (object_is k ∙ (ap (λ (c : Bool). differing (keys_of (fields_of T n)) && c) f ∙ and_true_right (differing (keys_of (fields_of T n)))))
        where
          and_true_right : (c : Bool) → (c && true) ≡ c
          and_true_right true = refl
          and_true_right false = refl

-- over the lists themselves, so that `search` finds them
module _ (nodes ch nu na st te : List ℕ) {b : Bool} {marks : List ℕ} {n : ℕ} (a : MarkAsks (tables nodes ch nu na st te) b marks n) {kind first size : ℕ} (is-kind : kind ≡ kind_of nodes n) (is_first : first ≡ first_word_of nodes n) (is_size : size ≡ count_of nodes n) where
  pub ask_items : kind ≡ 7 → EntriesAsks ch first 1 size
  ask_items k = record { T = tables nodes ch nu na st te; asks = items_there (tables nodes ch nu na st te) b marks n a is-kind is_first is_size k }

  pub ask_fields : kind ≡ 9 → EntriesAsks ch first 2 size
  ask_fields k = record { T = tables nodes ch nu na st te; asks = fields_there (tables nodes ch nu na st te) b marks n a is-kind is_first is_size k }

-- the pass over all nodes
pub record MarkingNodes (T : Tables) (b : Bool) (n : ℕ) (marks : List ℕ) : Type 0 where
  pub table : WellFormed T
  pub inside : n ≤ node_count T
  pub going : Changing (λ k. mark_of (admitted b (expr T (k + 1)))) (λ k. 0) 512 n marks

pub nodes_start : (T : Tables) (b : Bool) → WellFormed T → MarkingNodes T b 0 (replicate 512 0)
nodes_start T b w = record { table = w; inside = omega arith; going = changing_zeros (λ k. mark_of (admitted b (expr T (k + 1)))) 512 }

marked : (c : Bool) → eqb (mark_of c) 1 ≡ c
marked true = refl
marked false = refl

module _ {T : Tables} {b : Bool} {n : ℕ} {marks : List ℕ} (go : MarkingNodes T b n marks) where
  module _ (more : n < node_count T) where
    pub node_asks : MarkAsks T b marks (n + 1)
    node_asks = record {
      table = go.table;
      node = record { low = omega arith; high = omega arith };
      below = λ m v lt.
          let low = v.low in
          let e : m - 1 + 1 ≡ m = omega arith in
          ap (λ (k : ℕ). eqb k 1) (go.going.each (m - 1) (omega arith))
          ∙ (marked (admitted b (expr T (m - 1 + 1))) ∙ ap (λ (k : ℕ). admitted b (expr T k)) e);
    }

    pub node_room : n < 512
    node_room = let l = go.table.limits.nodes in omega arith

    pub nodes_on : {ok : Bool} {mark : ℕ} → ok ≡ admitted b (expr T (n + 1)) → mark ≡ mark_of ok → MarkingNodes T b (n + 1) (set marks n mark)
    nodes_on is of = record { table = go.table; inside = omega arith; going = changing_on go.going node_room (of ∙ ap mark_of is) }

  pub nodes_end : node_count T ≤ n → marks ≡ node_marks T b
  unfolding node_marks
  nodes_end le =
      ext_get_or 0 marks (tabulate (λ i. mark_of (is_node T (i + 1) && admitted b (expr T (i + 1)))) 0 512) (go.going.long ∙ sym (length_tabulate (λ i. mark_of (is_node T (i + 1) && admitted b (expr T (i + 1)))) 0 512)) (λ k lt.
      let long = go.going.long in
      let z : 0 + k ≡ k = omega arith in
      at k (leb (k + 1) (node_count T)) refl ∙ sym (get_d_tabulate (λ i. mark_of (is_node T (i + 1) && admitted b (expr T (i + 1)))) 0 512 k (omega arith) ∙ ap (λ (i : ℕ). mark_of (is_node T (i + 1) && admitted b (expr T (i + 1)))) z))
    where
      at : (k : ℕ) (c : Bool) → leb (k + 1) (node_count T) ≡ c → get_or marks k 0 ≡ mark_of (is_node T (k + 1) && admitted b (expr T (k + 1)))
      at k true e =
          let one = le-leb 1 (k + 1) (omega arith) in
          let high = leb-true (k + 1) (node_count T) e in
          rw (one, e) (go.going.each k (omega arith))
      at k false e =
          let one = le-leb 1 (k + 1) (omega arith) in
          let past = leb-false (k + 1) (node_count T) e in
          let n-is = go.inside in
          rw (one, e) (go.going.rest k (omega arith))

-- the mark of a node
pub marked_at : (T : Tables) (b : Bool) {marks : List ℕ} → WellFormed T → marks ≡ node_marks T b → (m : ℕ) → Node T m → is_marked marks m ≡ admitted b (expr T m)
unfolding node_marks
marked_at T b {marks} w is m v =
    let low = v.low in
    let high = v.high in
    let few = w.limits.nodes in
    let z : 0 + (m - 1) + 1 ≡ m = omega arith in
    let one = le-leb 1 m low in
    let two = le-leb m (node_count T) high in
    ap (λ (l : List ℕ). is_marked l m) is
    ∙ (ap (λ (k : ℕ). eqb k 1) (get_d_tabulate (λ i. mark_of (is_node T (i + 1) && admitted b (expr T (i + 1)))) 0 512 (m - 1) (omega arith))
    ∙ (ap (λ (k : ℕ). eqb (mark_of (is_node T k && admitted b (expr T k))) 1) z
    ∙ rw (one, two) (marked (admitted b (expr T m)))))
