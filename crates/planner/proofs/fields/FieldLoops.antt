-- The loops that put an object's fields in order: the search for a key's place, the move of the numbers behind it, and the pass over the fields.
use Rattle.std.proofs.Common.{Result, Ok, Err}
use Prim.Native.Nat.{ℕ, ◌+◌, ◌-◌, ◌*◌, ◌≤◌, ◌<◌}
use mathlib.Core.Path.{◌≡◌, refl, sym, ap, ◌∙◌}
use mathlib.Core.Bool.{Bool, true, false}
use mathlib.Core.List.{List, [], ◌∷◌, ◌++◌}
use mathlib.Core.Option.{Option}
use native.Mathlib.Omega.{arith}
use lib.ListN.{length, take, drop, set, take-append-drop}
use lib.Seq.{take_at, drop-drop, drop-set-lt}
use mir.Syntax.{w64}
use mir.Val.{Fits}
use borrow.Author.Tests.{leb-true, leb-false}
use lib.Dec.{leb}
use denote.Enum.Declared.{tag_of}
use Rattle.base.specs.Insertion.{moved}
use Rattle.base.proofs.Moving.{moved_take, moved_drop}
use Rattle.literal.specs.Literal.{Literal}
use Rattle.literal.specs.Order.{compared}
use Rattle.literal.specs.declared.Comparison.{Comparison}
use Rattle.literal.specs.declared.LiteralRef.{LiteralRef}
use Rattle.literal.proofs.Orders.{key_order_lem}
use Rattle.literal.proofs.Searched.{Searches}
use Rattle.table.specs.declared.Key.{Key}
use Rattle.table.specs.declared.Key.TheVariants.{Computed}
use Rattle.table.specs.Tables.{Tables, kind_of, child_at}
use Rattle.table.specs.Decode.{literal_node, referred, ref_of}
use Rattle.table.specs.contracts.Key.{the_type as the-key}
use Rattle.table.proofs.trees.Words.{ref_none}
use Rattle.table.proofs.tests.Bytes.{node_refers}
use Rattle.planner.specs.Layout.{FieldOrder, no_fields, add_field, in_order}
use Rattle.planner.specs.code.Passes.{key_node, field_key, order_from, order_of}
use Rattle.planner.specs.code.Post.{OrderAsks, OrderedBy, Arranged}
use Rattle.planner.specs.code.Ordering.{FieldsIn, AddAsks, FieldAdded, FindAsks, FoundBy}
use Rattle.planner.proofs.laws.Sizes.{order_few}
use Rattle.planner.proofs.fields.FieldOrder.{Ordered, literals_first, keys_search, between_insert, ordered_replace, ordered_append, order_next, ordered_first}

-- the fields so far

module _ {T : Tables} {first i : ℕ} {order : List ℕ} {m total : ℕ} (f : FieldsIn T first i order m total) where
  in_order_lem : Ordered (field_key T first) (order_of T first i) order m total
  in_order_lem = ordered_first (field_key T first) key_order_lem i order f.counted f.sized f.listed

  in_few : total ≤ i
  in_few =
      let s = f.sized in
      let h = order_few (field_key T first) 0 i no_fields in
      omega arith

  pub literals_few : m ≤ total
  literals_few = literals_first in_order_lem

  in_next : {later : List ℕ} {m' total' : ℕ} → Ordered (field_key T first) (add_field (field_key T first i) i (order_of T first i)) later m' total' → FieldsIn T first (i + 1) later m' total'
  in_next o =
      let e = order_next (field_key T first) i in
      record {
        counted = o.counted ∙ sym (ap (λ (x : FieldOrder ℕ). length x.literals) e);
        sized = o.sized ∙ sym (ap (λ (x : FieldOrder ℕ). length (in_order x)) e);
        listed = o.listed ∙ sym (ap in_order e);
      }

module _ {T : Tables} {first i : ℕ} {order : List ℕ} {m total : ℕ} (a : AddAsks T first i order m total) where
  pub add_place : first + i * 2 < 512
  add_place =
      let l = a.asks.listed in
      let c = a.asks.table.limits.children in
      omega arith

  pub add_few : total ≤ 255
  add_few =
      let p = add_place in
      let f = in_few a.so_far in
      omega arith

-- the search

pub compared_keys : (nodes children numbers strings text : List ℕ) (own : Option Literal) (first j : ℕ) {b : ℕ} {r : Comparison} → b ≡ child_at children (first + j * 2)
    → r ≡ compared own (literal_node nodes numbers strings text b) → r ≡ compared own (literal_node nodes numbers strings text (child_at children (first + j * 2)))
compared_keys nodes children numbers strings text own first j is_b is-r = rw (← is_b) is-r

pub field_searches : {T : Tables} {first : ℕ} {order : List ℕ} {m : ℕ} {key : LiteralRef} → FindAsks T first order m key → length order ≡ 256
    → Searches (λ x. compared (referred T key) (field_key T first x)) order 0 m
field_searches a long = let f = a.few in keys_search key_order_lem (in_order_lem a.so_far) a.literal (omega arith)

-- one field more

-- a node that is above kind 5 is no literal
pub ref_above : (nodes : List ℕ) (n : ℕ) → 5 < kind_of nodes n → ref_of nodes n ≡ Computed
ref_above nodes n h = sym (ref_none nodes n refl refl refl (λ e. omega arith) (λ e. omega arith) (λ e. omega arith) (λ e. omega arith) (λ e. omega arith))

-- a literal is not computed
pub never_computed : {l : LiteralRef} → Key.Literal l ≡ Computed → ⊥
never_computed e = let z = ap (tag_of the-key) e in omega arith

module _ {T : Tables} {first i : ℕ} {order : List ℕ} {m total : ℕ} (a : AddAsks T first i order m total) where
  pub total_fits : Fits w64 (total + 1)
  total_fits = let f = add_few a in record { fits = omega arith }

  pub literals_fit : Fits w64 (m + 1)
  literals_fit = let l = literals_few a.so_far in let f = add_few a in record { fits = omega arith }

  module _ {node : ℕ} {key : Key} (is-node : node ≡ child_at T.children (first + i * 2)) (is_key : key ≡ ref_of T.nodes node) where
    ref_is : ref_of T.nodes (key_node T first i) ≡ key
    ref_is = rw is-node at (sym is_key)

    key_computed : key ≡ Computed → field_key T first i ≡ Option.none
    unfolding literal_node
    key_computed e = rw (ref_is, e)

    -- a computed field goes to the end
    pub added_computed : key ≡ Computed → length order ≡ 256 → {later : List ℕ} → later ≡ moved order total total i → FieldAdded T first i order total later m (total + 1)
    added_computed e long {later} is =
        let f = add_few a in
        let z : total - total ≡ 0 = omega arith in
        let t : take (total + 1) later ≡ take total order ++ (i ∷ []) =
        ap (λ (l : List ℕ). take (total + 1) l) is ∙ (moved_take order total total i (omega arith) (omega arith) ∙ rw z) in
        record {
          fields = in_next a.so_far (ordered_append key_order_lem (in_order_lem a.so_far) i later (key_computed e) t);
          grows = omega arith;
          behind = ap (drop (total + 1)) is ∙ moved_drop order total total i (omega arith) (omega arith);
        }

    -- the literal of its key
    module _ {l : LiteralRef} (is-l : key ≡ Key.Literal l) where
      key_is : referred T l ≡ field_key T first i
      key_is = node_refers T.nodes T.numbers T.strings T.text (key_node T first i) (sym ref_is) is-l

      key_found : (x : Literal) × (field_key T first i ≡ Option.some x)
      key_found = go (leb (kind_of T.nodes (key_node T first i)) 5) refl
        where
          go : (b : Bool) → leb (kind_of T.nodes (key_node T first i)) 5 ≡ b → (x : Literal) × (field_key T first i ≡ Option.some x)
          go true h = a.asks.table.literals (key_node T first i) (a.asks.keys i (omega arith)) (leb-true _ _ h)
          go false h = absurd (never_computed (sym is-l ∙ (sym ref_is ∙ ref_above T.nodes (key_node T first i) (leb-false _ _ h))))

      pub ask_find : FindAsks T first order m l
      ask_find =
          let x = key_found in
          let k = literals_few a.so_far in
          let f = add_few a in
          let p = add_place a in
          record { fields = i; total = total; so_far = a.so_far; few = omega arith; small = omega arith; own = x.0; literal = key_is ∙ x.1 }

      module _ {found_at : Result ℕ ℕ} (found : FoundBy (field_key T first) (referred T l) order m found_at) {place : ℕ} where
        pub added_equal : found_at ≡ Ok place → FieldAdded T first i order total (set order place i) m total
        added_equal e =
            let x = key_found in
            let p = rw key_is at (rw e at found.place) in
            let k = literals_few a.so_far in
            record {
              fields = in_next a.so_far (ordered_replace key_order_lem (in_order_lem a.so_far) i (set order place i) x.0 x.1 place p.0 p.1 refl);
              grows = omega arith;
              behind = drop-set-lt total order place i (omega (arith, p.0));
            }

        pub added_new : found_at ≡ Err place → length order ≡ 256 → {later : List ℕ} → later ≡ moved order place total i → FieldAdded T first i order total later (m + 1) (total + 1)
        added_new e long {later} is =
            let x = key_found in
            let b = rw key_is at (rw e at found.place) in
            let n = b.inside in
            let k = literals_few a.so_far in
            let f = add_few a in
            record {
              fields = in_next a.so_far (between_insert key_order_lem (in_order_lem a.so_far) x.1 b (omega arith) later
                  (ap (λ (r : List ℕ). take (total + 1) r) is ∙ moved_take order place total i (omega arith) (omega arith)));
              grows = omega arith;
              behind = ap (drop (total + 1)) is ∙ moved_drop order place total i (omega arith) (omega arith);
            }

  module _ {own : Option Literal} {found_at : Result ℕ ℕ} (found : FoundBy (field_key T first) own order m found_at) {place : ℕ} where
    pub found_place : found_at ≡ Ok place → place < 256
    found_place e =
        let p = rw e at found.place in
        let k = literals_few a.so_far in
        let f = add_few a in
        omega (arith, p.0)

-- the pass over the fields

pub record Arranging (T : Tables) (first count i : ℕ) (before order : List ℕ) (m total : ℕ) : Type 0 where
  pub asks : OrderAsks T first count
  pub inside : i ≤ count
  pub few : count ≤ 256
  pub few_in : total ≤ i
  pub so_far : FieldsIn T first i order m total
  pub behind : drop total order ≡ drop total before

pub arranging_start : {T : Tables} {first count : ℕ} → OrderAsks T first count → (order : List ℕ) → Arranging T first count 0 order order 0 0
unfolding order_from
arranging_start a order =
    let l = a.listed in
    let c = a.table.limits.children in
    record { asks = a; inside = omega arith; few = omega arith; few_in = omega arith; so_far = record { counted = refl; sized = refl; listed = refl }; behind = refl }

module _ {T : Tables} {first count i : ℕ} {before order : List ℕ} {m total : ℕ} (g : Arranging T first count i before order m total) where
  pub arranging_next : i < count → AddAsks T first i order m total
  arranging_next lt =
      let l = g.asks.listed in
      record { asks = record { table = g.asks.table; listed = omega arith; keys = λ j h. g.asks.keys j (omega arith) }; so_far = g.so_far }

  pub arranging_on : i < count → {later : List ℕ} {m' total' : ℕ} → FieldAdded T first i order total later m' total' → Arranging T first count (i + 1) before later m' total'
  arranging_on lt {later} {m'} {total'} f =
      let n = f.grows in
      let e : total + (total' - total) ≡ total' = omega arith in
      let past : (l : List ℕ) → drop (total' - total) (drop total l) ≡ drop total' l = λ l. drop-drop (total' - total) total l ∙ ap (λ (k : ℕ). drop k l) e in
      record {
        asks = g.asks;
        inside = omega arith;
        few = g.few;
        few_in = in_few f.fields;
        so_far = f.fields;
        behind = f.behind ∙ (sym (past order) ∙ (ap (drop (total' - total)) g.behind ∙ past before));
      }

  pub arranging_ends : count ≤ i → Arranged T first count before order total
  arranging_ends le =
      let n = g.inside in
      let e : i ≡ count = omega arith in
      let f = g.few in
      let t = g.few_in in
      record {
        total = rw e at g.so_far.sized;
        numbers = sym (take-append-drop total order) ∙ (ap (λ (l : List ℕ). l ++ drop total order) (rw e at g.so_far.listed) ∙ ap (λ (l : List ℕ). in_order (order_of T first count) ++ l) g.behind);
        few = omega arith;
      }

-- the fields in order are its first numbers
pub arranged_first : {T : Tables} {first size : ℕ} {before order : List ℕ} {r : ℕ} → Arranged T first size before order r → OrderedBy T first size order r
arranged_first {T} {first} {size} {before} {order} {r} a = record {
  total = a.total;
  fields = ap (take r) a.numbers ∙ take_at (in_order (order_of T first size)) (drop r before) r (sym a.total);
  few = a.few;
}
