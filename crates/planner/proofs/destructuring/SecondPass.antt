-- The second pass: entries by binders, in plan order, and its steps.
use Prim.Native.Nat.{ℕ, suc, ◌+◌, ◌-◌, ◌*◌, ◌^◌, ◌≤◌, ◌<◌}
use mathlib.Core.Path.{◌≡◌, refl, sym, ap, subst, ◌∙◌}
use mathlib.Core.List.{List, [], ◌∷◌, ◌++◌, append_assoc, append-nil}
use mathlib.Core.Bool.{Bool, true, false}
use native.Mathlib.Omega.{arith}
use mir.Val.{Fits}
use mir.Syntax.{w32, w64}
use borrow.Author.Tests.{eq-eqb, ne_eqb, le-leb, lt-leb}
use lib.Dec.{eqb}
use lib.ListN.{length, get_or, length-append}
use Rattle.table.specs.Tables.{Tables, kind_of, first_word_of, count_of, child_at}
use Rattle.table.specs.Expr.{Expr, literal, name, wildcard, array, set, object, other, Exprs}
use Rattle.table.specs.Decode.{expr, items, is_wildcard}
use Rattle.table.specs.code.Sound.{Node}
use Rattle.table.proofs.trees.Trees.{expr_name, expr_array, items_step, items_end, count_items, width_array}
use Rattle.planner.specs.Layout.{Entry, Place, below, entry}
use Rattle.planner.specs.Entries.{Wrote}
use Rattle.planner.specs.code.Passes.{name_kind, name_entry_kind, leaf_entry_kind, lay_out, lay_out_all, lay_out_items, lay_out_ordered, concat_at}
use Rattle.planner.specs.code.Post.{NameNumber, StepRoom, LayAsks, LayObjectAsks, LayItemsAsks, LayOrderedAsks}
use Rattle.planner.proofs.destructuring.Counting.{enter_fits, enter_room, entered, Counting, counting_start, counting_one, counting_on, counting_ends}
use Rattle.planner.proofs.destructuring.NodeKinds.{Plain, plain_literal, plain_set, plain_other, plain_kind}
use Rattle.planner.proofs.destructuring.Walking as Walking
use Rattle.planner.proofs.buffer.Copies.{wrote_none, wrote_append, wrote_long}

-- entry kinds
module _ (states binders : List ℕ) (n x : ℕ) where
  pub kind_ignores : get_or states (x - 1) 0 ≡ 2 → 2 ≡ name_entry_kind states binders n x
  kind_ignores e = simp (eq-eqb (get_or states (x - 1) 0) 2 e)

  pub kind_binds : (get_or states (x - 1) 0 ≡ 2 → ⊥) → get_or binders (x - 1) 0 ≡ n → 1 ≡ name_entry_kind states binders n x
  kind_binds d e = simp (ne_eqb (get_or states (x - 1) 0) 2 d, eq-eqb (get_or binders (x - 1) 0) n e)

  pub kind_compares : (get_or states (x - 1) 0 ≡ 2 → ⊥) → (get_or binders (x - 1) 0 ≡ n → ⊥) → 3 ≡ name_entry_kind states binders n x
  kind_compares d e = simp (ne_eqb (get_or states (x - 1) 0) 2 d, ne_eqb (get_or binders (x - 1) 0) n e)

pub leaf_low : (kind : ℕ) → kind ≤ 5 → 4 ≡ leaf_entry_kind kind
leaf_low kind h = simp (le-leb kind 5 h)

pub leaf_high : (kind : ℕ) → 5 < kind → 3 ≡ leaf_entry_kind kind
leaf_high kind h = simp (lt-leb kind 5 h)

lay_some : (b : List ℕ) (e : Expr) (key : Place) → 1 ≤ length (lay_out b e key)
unfolding lay_out
lay_some b (literal n l) key = omega arith
lay_some b (name n x) key = omega arith
lay_some b (wildcard n) key = omega arith
lay_some b (array n es) key = omega arith
lay_some b (set n es) key = omega arith
lay_some b (object n fs) key = omega arith
lay_some b (other n) key = omega arith

-- a node by its kind, as the readers gave its words
module _ (T : Tables) (states binders : List ℕ) (n : ℕ) (key : Place) (at : ℕ) (a : LayAsks T states binders n key at) where
  pub next_fits : Fits w64 (at + 1)
  next_fits = let r = a.room in let s = lay_some binders (expr T n) key in record { fits = omega arith }

  pub lay_fits : (steps : ℕ) → StepRoom steps (length (lay_out binders (expr T n) key)) → Fits w64 (steps + 1)
  lay_fits steps r = enter_fits r (lay_some binders (expr T n) key)

  -- an object's steps below it
  pub object_room : (steps : ℕ) → StepRoom steps (length (lay_out binders (expr T n) key)) → StepRoom (steps + 1) (length (lay_out binders (expr T n) key) - 1)
  object_room steps r = enter_room r (length (lay_out binders (expr T n) key) - 1) (let s = lay_some binders (expr T n) key in omega arith)

  pub object_counted : (steps : ℕ) {after : ℕ} → after ≡ steps + 1 + (length (lay_out binders (expr T n) key) - 1) → after ≡ steps + length (lay_out binders (expr T n) key)
  object_counted steps e = let s = lay_some binders (expr T n) key in omega arith

  module _ {kind : ℕ} (is-kind : kind ≡ kind_of T.nodes n) where
    node_kind : {k : ℕ} → kind ≡ k → kind_of T.nodes n ≡ k
    node_kind e = sym is-kind ∙ e

    pub ask_object : kind ≡ 9 → LayObjectAsks T states binders n key at
    ask_object k = record { asks = a; object = node_kind k }

    module _ {first : ℕ} (is_first : first ≡ first_word_of T.nodes n) where
      pub ask_name : kind ≡ 6 → NameNumber first
      ask_name k = Walking.ask_name T states n a.walks is-kind is_first k

      pub laid_name : {before after : List ℕ} {bound : ℕ} → kind ≡ 6 → bound ≡ name_entry_kind states binders n first → Wrote before at (entry bound n 0 key ∷ []) after (at + 1) → Wrote before at (lay_out binders (expr T n) key) after (at + 1)
      unfolding lay_out
      laid_name {before} {after} {bound} k is_bound p = go (is_wildcard T (first_word_of T.nodes n)) refl
        where
          wild : is_wildcard T (first_word_of T.nodes n) ≡ eqb (get_or states (first_word_of T.nodes n - 1) 0) 2
          wild = a.walks.states_ok.wild (first_word_of T.nodes n) (a.walks.table.named n a.walks.node (node_kind k))

          put : (m : ℕ) → name_entry_kind states binders n (first_word_of T.nodes n) ≡ m → Wrote before at (entry m n 0 key ∷ []) after (at + 1)
          put m e = (subst (λ (j : ℕ). Wrote before at (entry j n 0 key ∷ []) after (at + 1)) ((rw is_first at is_bound) ∙ e) p)

          go : (b : Bool) → is_wildcard T (first_word_of T.nodes n) ≡ b → Wrote before at (lay_out binders (expr T n) key) after (at + 1)
          go true q =
              let tree : expr T n ≡ wildcard n = expr_name T a.walks.table n a.walks.node (node_kind k) ∙ simp q in
              rw tree (put 2 (simp (sym wild ∙ q)))
          go false q =
              let tree : expr T n ≡ name n (first_word_of T.nodes n) = expr_name T a.walks.table n a.walks.node (node_kind k) ∙ simp q in
              rw tree (put (name_kind binders n (first_word_of T.nodes n)) (simp (sym wild ∙ q)))

      pub name_counted : (steps : ℕ) → kind ≡ 6 → steps + 1 ≡ steps + length (lay_out binders (expr T n) key)
      unfolding lay_out
      name_counted steps k = ap (λ (m : ℕ). steps + m) (go (is_wildcard T (first_word_of T.nodes n)) refl)
        where
          go : (b : Bool) → is_wildcard T (first_word_of T.nodes n) ≡ b → 1 ≡ length (lay_out binders (expr T n) key)
          go true q =
              let tree : expr T n ≡ wildcard n = expr_name T a.walks.table n a.walks.node (node_kind k) ∙ simp q in
              rw tree
          go false q =
              let tree : expr T n ≡ name n (first_word_of T.nodes n) = expr_name T a.walks.table n a.walks.node (node_kind k) ∙ simp q in
              rw tree

      module _ {size : ℕ} (is_size : size ≡ count_of T.nodes n) (k : kind ≡ 7) where
        tree : expr T n ≡ array n (items (expr T) T.children first size)
        tree = rw (is_first, is_size) (expr_array T a.walks.table n a.walks.node (node_kind k))

        items_few : 1 + size ≤ 1024
        items_few =
            let h = a.walks.table.listed n a.walks.node (let e = node_kind k in omega arith) (let e = node_kind k in omega arith) in
            let w = width_array (kind_of T.nodes n) (count_of T.nodes n) (node_kind k) in
            let few = a.walks.table.limits.children in
            omega arith

        pub ask_items : first < 2 ^ 32 → size < 2 ^ 32 → LayItemsAsks T states binders n first size 1 (at + 1)
        unfolding lay_out
        ask_items f s = record {
          walks = Walking.ask_items T states n a.walks is-kind is_first is_size k f s;
          room = let r = rw tree at a.room in omega arith;
          few = items_few;
        }

        array_steps : 1 + length (lay_out_items binders T first size 1) ≡ length (lay_out binders (expr T n) key)
        unfolding lay_out
        array_steps = let e = ap (λ (e : Expr). length (lay_out binders e key)) tree in omega arith

        pub items_room : (steps : ℕ) → StepRoom steps (length (lay_out binders (expr T n) key)) → StepRoom (steps + 1) (length (lay_out_items binders T first size 1))
        items_room steps r = enter_room r (length (lay_out_items binders T first size 1)) array_steps

        pub array_counted : (steps : ℕ) {after : ℕ} → after ≡ steps + 1 + length (lay_out_items binders T first size 1) → after ≡ steps + length (lay_out binders (expr T n) key)
        array_counted steps e = entered steps (length (lay_out binders (expr T n) key)) (length (lay_out_items binders T first size 1)) array_steps e

        pub laid_array : {before mid after : List ℕ} {r : ℕ} → Wrote before at (entry 5 n size key ∷ []) mid (at + 1) → Wrote mid (at + 1) (lay_out_items binders T first size 1) after r → Wrote before at (lay_out binders (expr T n) key) after r
        unfolding lay_out
        laid_array {before} {mid} {after} {r} p l =
            let e = count_items (expr T) T.children first size in
            rw (tree, e) (wrote_append p l)

    pub laid_plain : {before after : List ℕ} {leaf : ℕ} → (kind ≡ 6 → ⊥) → (kind ≡ 7 → ⊥) → (kind ≡ 9 → ⊥) → leaf ≡ leaf_entry_kind kind → Wrote before at (entry leaf n 0 key ∷ []) after (at + 1) → Wrote before at (lay_out binders (expr T n) key) after (at + 1)
    unfolding lay_out
    laid_plain {before} {after} {leaf} not-6 not-7 not-9 is_IsLeaf p =
        let q = plain_kind T a.walks.table n a.walks.node (λ e. not-6 (is-kind ∙ e)) (λ e. not-7 (is-kind ∙ e)) (λ e. not-9 (is-kind ∙ e)) in
        go q.0 q.1 q.2
      where
        put : (m : ℕ) → leaf_entry_kind kind ≡ m → Wrote before at (entry m n 0 key ∷ []) after (at + 1)
        put m e = (subst (λ (j : ℕ). Wrote before at (entry j n 0 key ∷ []) after (at + 1)) (is_IsLeaf ∙ e) p)

        go : (e : Expr) → expr T n ≡ e → Plain (kind_of T.nodes n) n e → Wrote before at (lay_out binders (expr T n) key) after (at + 1)
        go e t (plain_literal l h) = rw t (put 4 (sym (leaf_low kind (omega arith))))
        go e t (plain_set es h) = rw t (put 3 (sym (leaf_high kind (omega arith))))
        go e t (plain_other h) = rw t (put 3 (sym (leaf_high kind (omega arith))))

    pub plain_counted : (steps : ℕ) → (kind ≡ 6 → ⊥) → (kind ≡ 7 → ⊥) → (kind ≡ 9 → ⊥) → steps + 1 ≡ steps + length (lay_out binders (expr T n) key)
    unfolding lay_out
    plain_counted steps not-6 not-7 not-9 =
        let q = plain_kind T a.walks.table n a.walks.node (λ e. not-6 (is-kind ∙ e)) (λ e. not-7 (is-kind ∙ e)) (λ e. not-9 (is-kind ∙ e)) in
        ap (λ (m : ℕ). steps + m) (go q.0 q.1 q.2)
      where
        go : (e : Expr) → expr T n ≡ e → Plain (kind_of T.nodes n) n e → 1 ≡ length (lay_out binders (expr T n) key)
        go e t (plain_literal l h) = rw t
        go e t (plain_set es h) = rw t
        go e t (plain_other h) = rw t

pub object_next_fits : (T : Tables) (states binders : List ℕ) (n : ℕ) (key : Place) (at : ℕ) → LayObjectAsks T states binders n key at → Fits w64 (at + 1)
object_next_fits T states binders n key at a = next_fits T states binders n key at a.asks

-- the items in turn
pub record LayingItems (T : Tables) (states binders : List ℕ) (parent from left : ℕ) (before : List ℕ) (at place more position : ℕ) (mid : List ℕ) (here : ℕ) : Type 0 where
  pub asks : LayItemsAsks T states binders parent place more position here
  pub entries : List Entry
  pub wrote : Wrote before at entries mid here
  pub same : entries ++ lay_out_items binders T place more position ≡ lay_out_items binders T from left 1

pub laying_start : (T : Tables) (states binders : List ℕ) (parent from left : ℕ) (before : List ℕ) (at : ℕ) {place more : ℕ} → LayItemsAsks T states binders parent from left 1 at → place ≡ from → more ≡ left
    → LayingItems T states binders parent from left before at place more 1 before at
laying_start T states binders parent from left before at a is of = rw (is, of) (record { asks = a; entries = []; wrote = wrote_none before at; same = refl })

pub counting_items : (T : Tables) (binders : List ℕ) {start from left place more : ℕ} → StepRoom start (length (lay_out_items binders T from left 1)) → place ≡ from → more ≡ left
    → Counting start (length (lay_out_items binders T from left 1)) start (length (lay_out_items binders T place more 1))
counting_items T binders r is of = rw (is, of) (counting_start r)

module _ {T : Tables} {states binders : List ℕ} {parent from left : ℕ} {before : List ℕ} {at place more position : ℕ} {mid : List ℕ} {here : ℕ} (go : LayingItems T states binders parent from left before at place more position mid here) where
  module _ (more_left : 0 < more) {child : ℕ} (is-child : child ≡ child_at T.children place) where
    step : lay_out_items binders T place more position ≡ lay_out binders (expr T child) (below 0 position) ++ lay_out_items binders T (place + 1) (more - 1) (position + 1)
    unfolding lay_out
    step = ap (λ (es : Exprs). lay_out_all binders es position) (items_step (expr T) T.children place more more_left) ∙ simp (sym is-child)

    pub laying_child : LayAsks T states binders child (below 0 position) here
    laying_child = record {
      walks = Walking.walk_child go.asks.walks more_left is-child;
      room = let r = go.asks.room in omega (arith, ap length step, length-append (lay_out binders (expr T child) (below 0 position)) (lay_out_items binders T (place + 1) (more - 1) (position + 1)));
    }

    pub laying_below : child < parent
    laying_below = Walking.walk_below go.asks.walks more_left is-child

    pub laying_on : {next : List ℕ} {there after last : ℕ} → Wrote mid here (lay_out binders (expr T child) (below 0 position)) next there
        → after ≡ place + 1 → last ≡ more - 1 → LayingItems T states binders parent from left before at after last (position + 1) next there
    laying_on {next} {there} l on of = rw (on, of) (record {
      asks = record {
        walks = Walking.walk_on go.asks.walks more_left;
        room = let r = go.asks.room in let e = l.end in omega (arith, ap length step, length-append (lay_out binders (expr T child) (below 0 position)) (lay_out_items binders T (place + 1) (more - 1) (position + 1)));
        few = let f = go.asks.few in omega arith;
      };
      entries = go.entries ++ lay_out binders (expr T child) (below 0 position);
      wrote = wrote_append go.wrote l;
      same = append_assoc go.entries (lay_out binders (expr T child) (below 0 position)) (lay_out_items binders T (place + 1) (more - 1) (position + 1)) ∙ (ap (λ (es : List Entry). go.entries ++ es) (sym step) ∙ go.same);
    })

    -- its steps
    item_steps : length (lay_out_items binders T place more position) ≡ length (lay_out binders (expr T child) (below 0 position)) + length (lay_out_items binders T (place + 1) (more - 1) (position + 1))
    item_steps = ap length step ∙ length-append (lay_out binders (expr T child) (below 0 position)) (lay_out_items binders T (place + 1) (more - 1) (position + 1))

    module _ (start all steps : ℕ) (counting : Counting start all steps (length (lay_out_items binders T place more position))) where
      pub item_room : StepRoom steps (length (lay_out binders (expr T child) (below 0 position)))
      item_room = counting_one counting (length (lay_out binders (expr T child) (below 0 position))) (length (lay_out_items binders T (place + 1) (more - 1) (position + 1))) item_steps

      pub item_counted : {next after last : ℕ} → next ≡ steps + length (lay_out binders (expr T child) (below 0 position)) → after ≡ place + 1 → last ≡ more - 1
          → Counting start all next (length (lay_out_items binders T after last (position + 1)))
      item_counted e on of = rw (on, of) (counting_on counting (length (lay_out binders (expr T child) (below 0 position))) (length (lay_out_items binders T (place + 1) (more - 1) (position + 1))) item_steps e)

  pub items_counted : (start all steps : ℕ) → Counting start all steps (length (lay_out_items binders T place more position)) → more ≤ 0 → steps ≡ start + all
  unfolding lay_out
  items_counted start all steps counting no_more =
      let e : lay_out_items binders T place more position ≡ [] = ap (λ (es : Exprs). lay_out_all binders es position) (items_end (expr T) T.children place more no_more) in
      counting_ends counting (ap length e)

  pub laying_long : length mid ≡ length before
  laying_long = wrote_long go.wrote

  pub laying_fits : 0 < more → Fits w64 place
  laying_fits more_left = Walking.walk_fits go.asks.walks more_left

  pub laying_position : 0 < more → Fits w32 position
  laying_position more_left = let f = go.asks.few in record { fits = omega arith }

  pub laying_ends : more ≤ 0 → Wrote before at (lay_out_items binders T from left 1) mid here
  unfolding lay_out
  laying_ends no_more =
      let e : lay_out_items binders T place more position ≡ [] = ap (λ (es : Exprs). lay_out_all binders es position) (items_end (expr T) T.children place more no_more) in
      let all : go.entries ≡ lay_out_items binders T from left 1 = sym (append-nil go.entries) ∙ (ap (λ (es : List Entry). go.entries ++ es) (sym e) ∙ go.same) in
      subst (λ (es : List Entry). Wrote before at es mid here) all go.wrote

-- the fields by an order, in turn
pub record LayingFields (T : Tables) (states binders : List ℕ) (parent first : ℕ) (order : List ℕ) (total : ℕ) (before : List ℕ) (at q : ℕ) (mid : List ℕ) (here : ℕ) : Type 0 where
  pub asks : LayOrderedAsks T states binders parent first order total at
  pub inside : q ≤ total
  pub entries : List Entry
  pub wrote : Wrote before at entries mid here
  pub same : entries ++ lay_out_ordered binders T first order q (total - q) ≡ lay_out_ordered binders T first order 0 total

pub ordering_start : (T : Tables) (states binders : List ℕ) (parent first : ℕ) (order : List ℕ) (total : ℕ) (before : List ℕ) (at : ℕ) → LayOrderedAsks T states binders parent first order total at → LayingFields T states binders parent first order total before at 0 before at
ordering_start T states binders parent first order total before at a =
    let z : total - 0 ≡ total = omega arith in
    record { asks = a; inside = omega arith; entries = []; wrote = wrote_none before at; same = rw z }

pub fields_counting : (T : Tables) (binders : List ℕ) (first : ℕ) (order : List ℕ) (total steps : ℕ) → StepRoom steps (length (lay_out_ordered binders T first order 0 total))
    → Counting steps (length (lay_out_ordered binders T first order 0 total)) steps (length (lay_out_ordered binders T first order 0 (total - 0)))
fields_counting T binders first order total steps r = let z : total - 0 ≡ total = omega arith in rw z (counting_start r)

module _ {T : Tables} {states binders : List ℕ} {parent first : ℕ} {order : List ℕ} {total : ℕ} {before : List ℕ} {at q : ℕ} {mid : List ℕ} {here : ℕ} (go : LayingFields T states binders parent first order total before at q mid here) where
  pub ordering_long : length mid ≡ length before
  ordering_long = wrote_long go.wrote

  -- the field's child entries
  module _ (lt : q < total) {i : ℕ} (is_field : i ≡ get_or order q 0) where
    pub ordering_place : Fits w64 (i * 2)
    ordering_place = let e = (go.asks.each q lt).0 in record { fits = omega arith }

    pub ordering_key : Fits w64 (first + i * 2)
    ordering_key = let e = (go.asks.each q lt).0 in record { fits = omega arith }

    pub ordering_next : Fits w64 (i + 1)
    ordering_next = let e = (go.asks.each q lt).0 in record { fits = omega arith }

    pub ordering_position : Fits w32 (i + 1)
    ordering_position = let e = (go.asks.each q lt).0 in record { fits = omega arith }

    pub ordering_value : Fits w64 (first + i * 2 + 1)
    ordering_value = let e = (go.asks.each q lt).0 in record { fits = omega arith }

    module _ {key value : ℕ} (is_key : key ≡ child_at T.children (first + i * 2)) (is-value : value ≡ child_at T.children (first + i * 2 + 1)) where
      field_step : lay_out_ordered binders T first order q (total - q) ≡ lay_out binders (expr T value) (below key (i + 1)) ++ lay_out_ordered binders T first order (q + 1) (total - (q + 1))
      unfolding concat_at
      field_step =
          let a : total - q ≡ suc (total - (q + 1)) = omega arith in
          ap (λ (k : ℕ). lay_out_ordered binders T first order q k) a ∙ simp (is_key, is-value, is_field)

      here_value : Node T value × (value < parent)
      here_value = rw (is-value, is_field) ((go.asks.each q lt).1, (go.asks.each q lt).2)

      fits : here + length (lay_out binders (expr T value) (below key (i + 1))) ≤ 2 ^ 41
      fits =
          let r = go.asks.room in
          let e = go.wrote.end in
          omega (arith, ap length go.same, ap length field_step, length-append go.entries (lay_out_ordered binders T first order q (total - q)), length-append (lay_out binders (expr T value) (below key (i + 1))) (lay_out_ordered binders T first order (q + 1) (total - (q + 1))))

      pub ordering_child : LayAsks T states binders value (below key (i + 1)) here
      ordering_child = record {
        walks = record { table = go.asks.table; states_ok = go.asks.states_ok; node = here_value.0 };
        room = fits;
      }

      pub ordering_below : value < parent
      ordering_below = here_value.1

      pub ordering_on : {next : List ℕ} {there : ℕ} → Wrote mid here (lay_out binders (expr T value) (below key (i + 1))) next there
          → LayingFields T states binders parent first order total before at (q + 1) next there
      ordering_on {next} {there} l = record {
        asks = go.asks;
        inside = omega arith;
        entries = go.entries ++ lay_out binders (expr T value) (below key (i + 1));
        wrote = wrote_append go.wrote l;
        same = append_assoc go.entries (lay_out binders (expr T value) (below key (i + 1))) (lay_out_ordered binders T first order (q + 1) (total - (q + 1))) ∙ (ap (λ (es : List Entry). go.entries ++ es) (sym field_step) ∙ go.same);
      }

      -- its steps
      field_steps : length (lay_out_ordered binders T first order q (total - q)) ≡ length (lay_out binders (expr T value) (below key (i + 1))) + length (lay_out_ordered binders T first order (q + 1) (total - (q + 1)))
      field_steps = ap length field_step ∙ length-append (lay_out binders (expr T value) (below key (i + 1))) (lay_out_ordered binders T first order (q + 1) (total - (q + 1)))

      module _ (start all steps : ℕ) (counting : Counting start all steps (length (lay_out_ordered binders T first order q (total - q)))) where
        pub field_room : StepRoom steps (length (lay_out binders (expr T value) (below key (i + 1))))
        field_room = counting_one counting (length (lay_out binders (expr T value) (below key (i + 1)))) (length (lay_out_ordered binders T first order (q + 1) (total - (q + 1)))) field_steps

        pub field_counted : {next : ℕ} → next ≡ steps + length (lay_out binders (expr T value) (below key (i + 1))) → Counting start all next (length (lay_out_ordered binders T first order (q + 1) (total - (q + 1))))
        field_counted e = counting_on counting (length (lay_out binders (expr T value) (below key (i + 1)))) (length (lay_out_ordered binders T first order (q + 1) (total - (q + 1)))) field_steps e

  pub fields_counted : (start all steps : ℕ) → Counting start all steps (length (lay_out_ordered binders T first order q (total - q))) → total ≤ q → steps ≡ start + all
  unfolding concat_at
  fields_counted start all steps counting done_all =
      let z : total - q ≡ 0 = omega arith in
      let e : lay_out_ordered binders T first order q (total - q) ≡ [] = rw z in
      counting_ends counting (ap length e)

  pub ordering_ends : total ≤ q → Wrote before at (lay_out_ordered binders T first order 0 total) mid here
  unfolding concat_at
  ordering_ends done_all =
      let z : total - q ≡ 0 = omega arith in
      let e : lay_out_ordered binders T first order q (total - q) ≡ [] = rw z in
      let all : go.entries ≡ lay_out_ordered binders T first order 0 total = sym (append-nil go.entries) ∙ (ap (λ (es : List Entry). go.entries ++ es) (sym e) ∙ go.same) in
      subst (λ (es : List Entry). Wrote before at es mid here) all go.wrote

-- the measure: of a node, of an object, and of a node's items or fields
pub object_falls : {n t : ℕ} → 1 ≤ n → 4 * n ≡ t → 4 * n - 1 < t
object_falls l e = omega arith

pub items_fall : {n t : ℕ} → 1 ≤ n → 4 * n ≡ t → 4 * n - 2 < t
items_fall l e = omega arith

pub fields_fall : {T : Tables} {states binders : List ℕ} {n : ℕ} {key : Place} {at t : ℕ} → LayObjectAsks T states binders n key at → 4 * n - 1 ≡ t → 4 * n - 2 < t
fields_fall a e = let l = a.asks.walks.node.low in omega arith

pub child_falls : {child n t : ℕ} → child < n → 4 * n - 2 ≡ t → 4 * child < t
child_falls lt e = omega arith
