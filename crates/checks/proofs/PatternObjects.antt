-- A pattern object's fields in order, and the one under a value's key.
use Rattle.std.proofs.Common.{Result, Ok, Err}
use Rattle.std.specs.Result.{result_unwrap_or}
use Prim.Native.Nat.{ℕ, zero, suc, ◌+◌, ◌*◌, ◌≤◌, ◌<◌}
use mathlib.Core.Path.{◌≡◌, refl, sym, ap, ◌∙◌}
use mathlib.Core.Bool.{Bool, true, false}
use mathlib.Core.List.{List, [], ◌∷◌, map}
use mathlib.Core.Option.{Option}
use native.Mathlib.Omega.{arith}
use borrow.Author.Tests.{leb-true, leb-false}
use lib.Dec.{leb}
use lib.ListN.{length, get_or, length-map}
use mir.Syntax.{w64}
use mir.Val.{Fits}
use Rattle.literal.specs.Literal.{Literal}
use Rattle.literal.specs.declared.LiteralRef.{LiteralRef}
use Rattle.literal.specs.Order.{Order, less, same, more, key_order}
use Rattle.literal.proofs.Orders.{key_order_lem}
use Rattle.table.specs.Names.{is_same}
use Rattle.table.specs.declared.Key.{Key}
use Rattle.table.specs.declared.Key.TheVariants.{Computed}
use Rattle.table.proofs.tests.Bytes.{node_refers}
use Rattle.table.specs.Tables.{Tables, kind_of, first_word_of, count_of, width, child_at}
use Rattle.table.specs.Expr.{Expr}
use Rattle.table.specs.Decode.{expr, fields, literal_node, literal_at, referred, ref_of}
use Rattle.table.specs.code.Sound.{Node, WellFormed}
use Rattle.table.proofs.trees.Trees.{width_object, child_node}
use Rattle.planner.specs.Layout.{Slot, FieldOrder, no_fields, add_field}
use Rattle.planner.specs.code.Passes.{key_node, value_node, field_key, order_from, order_of}
use Rattle.planner.specs.code.Post.{OrderAsks, OrderedBy}
use Rattle.planner.specs.code.Ordering.{KeyBetween, FindAsks, FoundBy}
use Rattle.planner.proofs.fields.FieldOrder.{map_slot, map_order, add_map, blank, Ordered, place_held, to_slot, sorted_less, same_before, literals_first, ordered_first}
use Rattle.planner.proofs.fields.FieldLoops.{ref_above, never_computed}
use Rattle.planner.proofs.fields.Objects.{key_literal}
use Rattle.checks.specs.Structure.{slot_text, is_under}
use Rattle.planner.specs.Held.{value_order}
use Rattle.checks.specs.code.Texts.{BothAsks, TextsCompared}
use Rattle.checks.specs.code.Post.{ObjectsAsks, order_of_node, patterns_of, KeysCompared, FieldsAsks, PartnerAsks, no_slot, PlaceIs, SlotAsks, SlotIs}
use Rattle.checks.proofs.KeyTexts.{ordered_texts, field_below, written_texts}

-- an object node's fields
module _ (T : Tables) (w : WellFormed T) (n : ℕ) (v : Node T n) (object : kind_of T.nodes n ≡ 9) where
  child : (j : ℕ) → j < count_of T.nodes n * 2 → Node T (child_at T.children (first_word_of T.nodes n + j)) × (child_at T.children (first_word_of T.nodes n + j) < n)
  child j lt =
      let e = width_object (kind_of T.nodes n) (count_of T.nodes n) object in
      let in-width : j < width T.nodes n = omega arith in
      (child_node T w n v j in-width, (w.below n v j in-width).1)

  pub object_key : (i : ℕ) → i < count_of T.nodes n → Node T (key_node T (first_word_of T.nodes n) i)
  object_key i lt = (child (i * 2) (omega arith)).0

  pub object_value : (i : ℕ) → i < count_of T.nodes n → Node T (value_node T (first_word_of T.nodes n) i) × (value_node T (first_word_of T.nodes n) i < n)
  object_value i lt =
      let e : first_word_of T.nodes n + i * 2 + 1 ≡ first_word_of T.nodes n + (i * 2 + 1) = omega arith in
      rw e (child (i * 2 + 1) (omega arith))

  pub object_listed : first_word_of T.nodes n + count_of T.nodes n * 2 ≤ length T.children
  object_listed =
      let h = w.listed n v (omega arith) (omega arith) in
      let e = width_object (kind_of T.nodes n) (count_of T.nodes n) object in
      omega arith

  pub object_few : first_word_of T.nodes n + count_of T.nodes n * 2 ≤ 512
  object_few = let l = object_listed in let c = w.limits.children in omega arith

  pub object_asks : {first size : ℕ} → first ≡ first_word_of T.nodes n → size ≡ count_of T.nodes n → OrderAsks T first size
  object_asks is_first is_size = record {
    table = w;
    listed = rw (is_first, is_size) object_listed;
    keys = λ i lt. rw is_first (object_key i (omega arith));
  }

-- the patterns in order are those of the field numbers in order
abbrev pattern_at : Tables → ℕ → ℕ → Expr
pattern_at T first i = expr T (value_node T first i)

module _ (T : Tables) (w : WellFormed T) (first : ℕ) where
  patterns_from : (i k : ℕ) (o : FieldOrder ℕ) → ((j : ℕ) → j < i + k → Node T (key_node T first j))
      → value_order (fields (expr T) T.children (first + i * 2) k) (map_order (pattern_at T first) o) ≡ map_order (pattern_at T first) (order_from (field_key T first) i k o)
  unfolding fields value_order order_from
  patterns_from i zero o keys = refl
  patterns_from i (suc k) o keys =
      let a : first + i * 2 + 2 ≡ first + (i + 1) * 2 = omega arith in
      let e = add_map (pattern_at T first) (field_key T first i) i o in
      let l = key_literal T w (key_node T first i) (keys i (omega arith)) in
      ap (λ (n : FieldOrder Expr). value_order (fields (expr T) T.children (first + i * 2 + 2) k) n) ((rw l) ∙ e)
      ∙ rw a (patterns_from (i + 1) k (add_field (field_key T first i) i o) (λ j lt. keys j (omega arith)))

pub patterns_are : (T : Tables) (w : WellFormed T) (n : ℕ) (v : Node T n) → kind_of T.nodes n ≡ 9 → patterns_of T n ≡ map_order (pattern_at T (first_word_of T.nodes n)) (order_of_node T n)
patterns_are T w n v object =
    let z : first_word_of T.nodes n + 0 * 2 ≡ first_word_of T.nodes n = omega arith in
    rw z at (patterns_from T w (first_word_of T.nodes n) 0 (count_of T.nodes n) no_fields (λ j lt. object_key T w n v object j (omega arith)))

-- the keys of two objects
module _ {T : Tables} {pattern value : ℕ} (a : ObjectsAsks T pattern value) {first count : ℕ} (is_first : first ≡ first_word_of T.nodes pattern) (is_count : count ≡ count_of T.nodes pattern) where
  pub ask_order : OrderAsks T first count
  ask_order = object_asks T a.pair.table pattern a.pair.first a.pattern_object is_first is_count

  module _ {order : List ℕ} {total : ℕ} (by : OrderedBy T first count order total) {from size : ℕ} (is_from : from ≡ first_word_of T.nodes value) (is_size : size ≡ count_of T.nodes value) where
    ask_value : OrderAsks T from size
    ask_value = object_asks T a.pair.table value a.pair.second a.value_object is_from is_size

    pub ask_both : BothAsks T first order total from size
    ask_both = record { pattern = record { count = count; asks = ask_order; by = by }; value = ask_value }

    pub keys_compared : {literals all : ℕ} {agree : Bool} → TextsCompared T first order total from size literals all agree → KeysCompared T pattern value order literals all agree
    keys_compared {literals} {all} {agree} t =
        let e = t.ordered in
        let o = ordered_texts by in
        let wt = written_texts T a.pair.table from size ask_value.keys in
        let counted : literals ≡ length (order_of T first count).literals = t.counted ∙ (ap length o ∙ length-map (order_of T first count).literals slot_text) in
        record {
          ordered = record { counted = rw (← is_first, ← is_count) counted; sized = rw (← is_first, ← is_count) (e ∙ by.total); listed = rw (← is_first, ← is_count, e) by.fields };
          few = let f = by.few in omega arith;
          same_texts_lem = rw (← is_first, ← is_count, ← is_from, ← is_size, ← o, ← wt) t.same_texts_lem;
        }

-- a mapped slot
slot_mapped : (f : ℕ → Expr) (ss : List (Slot ℕ)) (q : ℕ) → q < length ss → get_or (map (map_slot f) ss) q no_slot ≡ map_slot f (get_or ss q blank)
slot_mapped f [] q lt = absurd (omega arith)
slot_mapped f (s ∷ ss) zero lt = refl
slot_mapped f (s ∷ ss) (suc q) lt = slot_mapped f ss q (omega arith)

-- a pattern's literal fields, by their places in its order
module _ {T : Tables} {pattern value : ℕ} {order : List ℕ} {m total : ℕ} (a : FieldsAsks T pattern value order m total) where
  w : WellFormed T
  w = a.objects.pair.table

  first₀ : ℕ
  first₀ = first_word_of T.nodes pattern

  in_order : Ordered (field_key T first₀) (order_of_node T pattern) order m total
  unfolding first₀
  in_order = ordered_first (field_key T first₀) key_order_lem (count_of T.nodes pattern) order a.ordered.counted a.ordered.sized a.ordered.listed

  pub slots_few : m ≤ 256
  slots_few = let l = literals_first in_order in let f = a.few in omega arith

  slots : (patterns_of T pattern).literals ≡ map (map_slot (pattern_at T first₀)) (order_of_node T pattern).literals
  unfolding first₀
  slots = ap (λ (o : FieldOrder Expr). o.literals) (patterns_are T w pattern a.objects.pair.first a.objects.pattern_object)

  pub slots_counted : length (patterns_of T pattern).literals ≡ m
  slots_counted = ap length slots ∙ (length-map (order_of_node T pattern).literals _ ∙ sym in_order.counted)

  slot_is : (q : ℕ) → q < m → get_or (patterns_of T pattern).literals q no_slot ≡ map_slot (pattern_at T first₀) (get_or (order_of_node T pattern).literals q blank)
  slot_is q lt =
      let c = in_order.counted in
      ap (λ (ss : List (Slot Expr)). get_or ss q no_slot) slots ∙ slot_mapped (pattern_at T first₀) (order_of_node T pattern).literals q (omega arith)

  -- a literal with the keys of the slots
  module _ (l : Literal) where
    abbrev way : ℕ → Order
    way q = key_order l (get_or (order_of_node T pattern).literals q blank).at

    under : (q : ℕ) → q < m → is_under (get_or (patterns_of T pattern).literals q no_slot).at (Option.some l) ≡ is_same (way q)
    under q lt = ap (λ (s : Slot Expr). is_same (key_order l s.at)) (slot_is q lt)

    place_found : (place : ℕ) → place < m → way place ≡ same → PlaceIs (patterns_of T pattern).literals (Option.some l) place
    place_found place lt here = record {
      here = λ h. under place lt ∙ ap is_same here;
      others = λ q h d. let n = slots_counted in under q (omega arith) ∙ other_way q (omega arith) d (leb q place) refl;
    }
      where
        counted : m ≡ length (order_of_node T pattern).literals
        counted = in_order.counted

        other_way : (q : ℕ) → q < m → (q ≡ place → ⊥) → (b : Bool) → leb q place ≡ b → is_same (way q) ≡ false
        other_way q lt' d true p =
            let c = counted in
            let le : q ≤ place = leb-true q place p in
            ap is_same (same_before key_order_lem blank l (order_of_node T pattern).literals in_order.sorted place (omega arith) here q (omega (arith, d, le)))
        other_way q lt' d false p =
            let c = counted in
            let gt : place < q = leb-false q place p in
            let own = key_order_lem.equal l (get_or (order_of_node T pattern).literals place blank).at here in
            ap is_same (ap (λ (k : Literal). key_order k (get_or (order_of_node T pattern).literals q blank).at) own ∙ sorted_less blank (order_of_node T pattern).literals in_order.sorted place q gt (omega arith))

    place_none : ((q : ℕ) → q < m → is_same (way q) ≡ false) → PlaceIs (patterns_of T pattern).literals (Option.some l) m
    place_none none = record {
      here = λ h. let n = slots_counted in absurd (omega arith);
      others = λ q h d. let n = slots_counted in under q (omega arith) ∙ none q (omega arith);
    }

-- the place of a value's key
module _ {T : Tables} {pattern : ℕ} {order : List ℕ} {m key : ℕ} (a : PartnerAsks T pattern order m key) where
  table : WellFormed T
  table = a.asks.objects.pair.table

  module _ {ref : Key} (is-ref : ref ≡ ref_of T.nodes key) where
    pub place_computed : ref ≡ Computed → PlaceIs (patterns_of T pattern).literals (literal_at T key) m
    unfolding literal_node
    place_computed e =
        let r = sym is-ref ∙ e in
        let n : literal_at T key ≡ Option.none = rw r in
        let c = slots_counted a.asks in
        record { here = λ h. absurd (omega arith); others = λ q h d. ap (is_under (get_or (patterns_of T pattern).literals q no_slot).at) n }

    module _ {sought : LiteralRef} (is-sought : ref ≡ Key.Literal sought) where
      refers : referred T sought ≡ literal_at T key
      refers = node_refers T.nodes T.numbers T.strings T.text key is-ref is-sought

      own : (l : Literal) × (literal_at T key ≡ Option.some l)
      own = go (leb (kind_of T.nodes key) 5) refl
        where
          go : (b : Bool) → leb (kind_of T.nodes key) 5 ≡ b → (l : Literal) × (literal_at T key ≡ Option.some l)
          go true h = table.literals key a.node (leb-true _ _ h)
          go false h = absurd (never_computed (sym is-sought ∙ (is-ref ∙ ref_above T.nodes key (leb-false _ _ h))))

    module _ {sought : LiteralRef} (is-sought : ref ≡ Key.Literal sought) {first : ℕ} (is_first : first ≡ first_word_of T.nodes pattern) where
      pub place_find : FindAsks T first order m sought
      place_find =
          let l = own is-sought in
          let f = object_few T table pattern a.asks.objects.pair.first a.asks.objects.pattern_object in
          record {
            fields = count_of T.nodes pattern;
            total = a.total;
            so_far = rw is_first a.asks.ordered;
            few = slots_few a.asks;
            small = omega arith;
            own = l.0;
            literal = refers is-sought ∙ l.1;
          }

      module _ {found_at : Result ℕ ℕ} (found : FoundBy (field_key T first) (referred T sought) order m found_at) where
        place_absent : {place : ℕ} → found_at ≡ Err place → PlaceIs (patterns_of T pattern).literals (literal_at T key) m
        unfolding first₀
        place_absent {place} e =
            let l = own is-sought in
            let b = rw (refers is-sought, is_first) at (rw e at found.place) in
            rw l.1 (place_none a.asks l.0 (λ q lt. go l.0 l.1 b q lt (leb place q) refl))
          where
            go : (l : Literal) → literal_at T key ≡ Option.some l → KeyBetween (field_key T (first_word_of T.nodes pattern)) (literal_at T key) order m place place → (q : ℕ) → q < m → (b : Bool) → leb place q ≡ b
                → is_same (key_order l (get_or (order_of_node T pattern).literals q blank).at) ≡ false
            go l e b q lt true h = ap is_same (to_slot (in_order a.asks) e less q lt (b.behind q (leb-true _ _ h) lt))
            go l e b q lt false h = ap is_same (to_slot (in_order a.asks) e more q lt (b.before q (leb-false _ _ h)))

        place_there : {place : ℕ} → found_at ≡ Ok place → PlaceIs (patterns_of T pattern).literals (literal_at T key) place
        unfolding first₀
        place_there {place} e =
            let l = own is-sought in
            let p = rw (refers is-sought, is_first) at (rw e at found.place) in
            rw l.1 (place_found a.asks l.0 place p.0 (to_slot (in_order a.asks) l.1 same place p.0 p.1))

        pub place_or : {r : ℕ} → r ≡ result_unwrap_or found_at m → PlaceIs (patterns_of T pattern).literals (literal_at T key) r
        place_or {r} e = go found_at refl e
          where
            go : (x : Result ℕ ℕ) → found_at ≡ x → r ≡ result_unwrap_or x m → PlaceIs (patterns_of T pattern).literals (literal_at T key) r
            go (Ok place) s e = rw e (place_there s)
            go (Err place) s e = rw e (place_absent s)

-- the node at a place
module _ {T : Tables} {pattern : ℕ} {order : List ℕ} {m place : ℕ} (a : SlotAsks T pattern order m place) {first : ℕ} (is_first : first ≡ first_word_of T.nodes pattern) {j : ℕ} (is_field : j ≡ get_or order place 0) where
  slot_below : j < count_of T.nodes pattern
  slot_below =
      let l = literals_first (in_order a.asks) in
      let i = a.inside in
      let by : OrderedBy T (first_word_of T.nodes pattern) (count_of T.nodes pattern) order a.total = record { total = a.asks.ordered.sized; fields = a.asks.ordered.listed; few = a.asks.few } in
      rw is_field (field_below by place (omega arith))

  slot_few : first + j * 2 + 1 < 512
  slot_few =
      let b = slot_below in
      let f = object_few T a.asks.objects.pair.table pattern a.asks.objects.pair.first a.asks.objects.pattern_object in
      omega arith

  pub slot_double : Fits w64 (j * 2)
  slot_double = let p = slot_few in record { fits = omega arith }

  pub slot_key_lem : Fits w64 (first + j * 2)
  slot_key_lem = let p = slot_few in record { fits = omega arith }

  pub slot_value : Fits w64 (first + j * 2 + 1)
  slot_value = let p = slot_few in record { fits = omega arith }

  pub slot_node : {r : ℕ} → r ≡ child_at T.children (first + j * 2 + 1) → SlotIs T (patterns_of T pattern).literals place r
  unfolding first₀
  slot_node {r} is-r =
      let there : r ≡ value_node T (first_word_of T.nodes pattern) j = rw is_first at is-r in
      let h : j ≡ (get_or (order_of_node T pattern).literals place blank).held = is_field ∙ place_held (in_order a.asks) place a.inside in
      record {
        node = rw there (object_value T a.asks.objects.pair.table pattern a.asks.objects.pair.first a.asks.objects.pattern_object j slot_below).0;
        is = ap (expr T) there ∙ (ap (λ (i : ℕ). expr T (value_node T (first_word_of T.nodes pattern) i)) h ∙ sym (ap (λ (s : Slot Expr). s.held) (slot_is a.asks place a.inside)));
      }
