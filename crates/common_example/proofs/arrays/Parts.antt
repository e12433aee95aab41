-- The links of arrays and of simple objects lead to the places of their parts.
use Prim.Native.Nat.{ℕ, zero, suc, ◌+◌, ◌*◌, ◌/◌, ◌%◌, ◌≤◌, ◌<◌}
use mathlib.Core.Bool.{Bool, true, false}
use mathlib.Core.List.{List, [], ◌∷◌, map}
use mathlib.Core.Option.{Option, some}
use mathlib.Core.Path.{◌≡◌, refl, ap, ap₂, sym, ◌∙◌}
use native.Mathlib.Omega.{arith}
use borrow.Author.Tests.{eqb-true}
use lib.ListN.{length, get_or, length-append, length-map}
use lib.Seq.{take_all}
use Rattle.literal.specs.Literal.{Literal}
use Rattle.literal.specs.Order.{Order, less, same, more, key_order}
use Rattle.literal.proofs.Orders.{key_order_lem}
use Rattle.table.specs.Tables.{Tables, kind_of, first_word_of, count_of, node_count, child_at}
use Rattle.table.specs.Decode.{expr, literal_at, items, fields}
use Rattle.table.specs.code.Sound.{Node, WellFormed}
use Rattle.table.proofs.trees.Trees.{width_array, width_object}
use Rattle.planner.specs.Layout.{Slot, placed, insert, FieldOrder, no_fields, add_field, held_in, in_order}
use Rattle.planner.specs.Simple.{simple}
use Rattle.planner.specs.code.Passes.{key_node, value_node, field_key, order_from, order_of}
use Rattle.planner.proofs.fields.FieldOrder.{map_slot, map_order, add_map, all_at, Keyed, Ordered, blank, place_held, ordered_first}
use Rattle.planner.proofs.fields.Objects.{key_literal, below_at, order_below}
use Rattle.value.proofs.Admitted.{array_children, object_children, keyed_object, key-node, value_node_lem}
use Rattle.value.proofs.Distinct.{count_differs}
use Rattle.value.specs.code.Post.{KeysAsks}
use Rattle.common_example.specs.Unify.{keyed_in}
use Rattle.common_example.specs.Places.{GraphPlace, place_number, graph_place_of, places_of, placed_fields, keyed_of}
use Rattle.common_example.specs.Operations as Operations
use Rattle.common_example.specs.Operations.{PatternSide}
use Rattle.common_example.specs.code.Graph.{items_at, keyed_at}
use Rattle.common_example.specs.code.arrays.Likes.{like_in, likes}
use Rattle.common_example.specs.code.arrays.NodePlaces.{side_number, side_places, HeldBy, HeldOk}
use Rattle.common_example.specs.code.arrays.KeyOrder.{ChildrenOrdered}
use Rattle.common_example.proofs.unify.Renamed.{rename_keyed}
use Rattle.common_example.proofs.loops.graph.PlaceLaws.{node-place}
use Rattle.common_example.proofs.arrays.LikeLaws.{literal_or, like_found, like_own, own_like}
use Rattle.common_example.proofs.arrays.Words.{like_of, place_of, links_of, link_at}

-- fields with literal keys: none is computed, and there are at most as many as written
insert_few : (s : Slot ℕ) (ss : List (Slot ℕ)) → length (insert s ss) ≤ suc (length ss)
unfolding insert
insert_few s [] = omega arith
insert_few s (t ∷ ts) = go (key_order s.at t.at) (insert_few s ts)
  where
    go : (o : Order) → length (insert s ts) ≤ suc (length ts) → length (placed o s t ts (insert s ts)) ≤ suc (suc (length ts))
    go less h = omega arith
    go same h = omega arith
    go more h = omega arith

pub record AllLiteral (k : ℕ) (o r : FieldOrder ℕ) : Type 0 where
  pub computed : r.computed ≡ []
  pub few : length r.literals ≤ k + length o.literals

literal_order : (key : ℕ → Option Literal) (i k : ℕ) (o : FieldOrder ℕ) → ((j : ℕ) → j < k → (l : Literal) × (key (i + j) ≡ some l)) → o.computed ≡ [] → AllLiteral k o (order_from key i k o)
unfolding order_from
literal_order key i zero o each e = record { computed = e; few = omega arith }
literal_order key i (suc k) o each e =
    let z : i + 0 ≡ i = omega arith in
    let h = rw z at (each 0 (omega arith)) in
    let (l, q) = h in
    let f = insert_few (record { at = l; held = i }) o.literals in
    let r = literal_order key (i + 1) k (add_field (some l) i o) (λ j lt. let s : i + (j + 1) ≡ i + 1 + j = omega arith in rw s at (each (j + 1) (omega arith))) e in
    let g = r.few in
    rw q (record { computed = r.computed; few = omega (arith, f, g) })

-- what the arrays are made of
pub record Prepared (T : Tables) (side : Bool → PatternSide) (held : Bool → List ℕ) (ordered : List ℕ) : Type 0 where
  pub table : WellFormed T
  pub holds : (b : Bool) → HeldBy T (side b) (held b)
  pub few : (b : Bool) → HeldOk (held b)
  pub in_order : ChildrenOrdered T ordered

abbrev pub places_in : Tables → (Bool → List ℕ) → Bool → List ℕ
places_in T held b = side_places T.nodes T.names T.text (held b) (side_number b)

abbrev pub likes_in : Tables → List ℕ
likes_in T = likes (literal_at T) (node_count T)

abbrev pub links_in : Tables → (Bool → List ℕ) → List ℕ → List ℕ
links_in T held ordered = links_of ordered (places_in T held true) (places_in T held false) (likes_in T)

abbrev pub literal_in : Tables → ℕ → Literal
literal_in T n = literal_or (literal_at T n)

module _ (T : Tables) (side : Bool → PatternSide) (held : Bool → List ℕ) (ordered : List ℕ) (p : Prepared T side held ordered) where
  abbrev links : List ℕ
  links = links_in T held ordered

  abbrev place : Bool → ℕ → ℕ
  place b n = place_number (graph_place_of (Operations.held_by_side T (side b)) b (expr T n))

  -- 1. one child entry
  link_place : (b : Bool) (e n : ℕ) → e < 512 → child_at ordered e ≡ n → Node T n → get_or links (e * 4 + side_number b) 0 ≡ place b n
  link_place true e n h is v =
      link_at ordered (places_in T held true) (places_in T held false) (likes_in T) e 0 h (omega arith)
      ∙ rw is (place_of T p.table (held true) 0 n v ∙ node-place T p.table (side true) true (held true) (p.holds true) n v)
  link_place false e n h is v =
      link_at ordered (places_in T held true) (places_in T held false) (likes_in T) e 1 h (omega arith)
      ∙ rw is (place_of T p.table (held false) 1 n v ∙ node-place T p.table (side false) false (held false) (p.holds false) n v)

  link_like : (b : Bool) (e n : ℕ) → e < 512 → child_at ordered e ≡ n → Node T n → get_or links (e * 4 + (2 + side_number b)) 0 ≡ like_in (literal_at T) (node_count T) n
  link_like true e n h is v =
      link_at ordered (places_in T held true) (places_in T held false) (likes_in T) e 2 h (omega arith)
      ∙ rw is (like_of (node_count T) p.table.limits.nodes v.low v.high (literal_at T))
  link_like false e n h is v =
      link_at ordered (places_in T held true) (places_in T held false) (likes_in T) e 3 h (omega arith)
      ∙ rw is (like_of (node_count T) p.table.limits.nodes v.low v.high (literal_at T))

  -- 2. items
  items_from_lem : (b : Bool) (at k : ℕ) → ((i : ℕ) → i < k → (at + i < 512) × (child_at ordered (at + i) ≡ child_at T.children (at + i)) × Node T (child_at T.children (at + i)))
      → items_at links (at * 4 + side_number b) k ≡ map place_number (places_of (Operations.held_by_side T (side b)) b (items (expr T) T.children at k))
  unfolding items_at items places_of
  items_from_lem b at zero each = refl
  items_from_lem b at (suc k) each =
      let z : at + 0 ≡ at = omega arith in
      let s : at * 4 + side_number b + 4 ≡ (at + 1) * 4 + side_number b = omega arith in
      let h = rw z at (each 0 (omega arith)) in
      ap₂ (λ (x : ℕ) (xs : List ℕ). x ∷ xs) (link_place b at (child_at T.children at) h.0 h.1 h.2)
      (ap (λ (n : ℕ). items_at links n k) s ∙ items_from_lem b (at + 1) k (λ i lt. let q : at + (i + 1) ≡ at + 1 + i = omega arith in rw q at (each (i + 1) (omega arith))))

  pub items_are : (b : Bool) (n : ℕ) → Node T n → kind_of T.nodes n ≡ 7
      → items_at links (first_word_of T.nodes n * 4 + side_number b) (count_of T.nodes n) ≡ map place_number (places_of (Operations.held_by_side T (side b)) b (items (expr T) T.children (first_word_of T.nodes n) (count_of T.nodes n)))
  items_are b n v k = items_from_lem b (first_word_of T.nodes n) (count_of T.nodes n) (λ i lt.
      let a = array_children T p.table n v k in
      let w = width_array (kind_of T.nodes n) (count_of T.nodes n) k in
      let l = a.listed in
      let m = p.table.limits.children in
      (omega (arith, l, m, lt), p.in_order.items n v k i (omega (arith, w, lt)), a.each i (omega (arith, lt))))

  -- 3. fields
  module _ (first : ℕ) (b : Bool) where
    abbrev value_place : ℕ → GraphPlace
    value_place i = graph_place_of (Operations.held_by_side T (side b)) b (expr T (value_node T first i))

    placed_from : (i k : ℕ) (o : FieldOrder ℕ) → ((j : ℕ) → j < k → Node T (key_node T first (i + j)))
        → placed_fields (Operations.held_by_side T (side b)) b (fields (expr T) T.children (first + i * 2) k) (map_order value_place o) ≡ map_order value_place (order_from (field_key T first) i k o)
    unfolding fields placed_fields order_from
    placed_from i zero o keys = refl
    placed_from i (suc k) o keys =
        let z : i + 0 ≡ i = omega arith in
        let a : first + i * 2 + 2 ≡ first + (i + 1) * 2 = omega arith in
        let e = key_literal T p.table (key_node T first i) (rw z at (keys 0 (omega arith))) in
        let m = add_map value_place (field_key T first i) i o in
        ap (λ (x : Option Literal). placed_fields (Operations.held_by_side T (side b)) b (fields (expr T) T.children (first + i * 2 + 2) k) (add_field x (value_place i) (map_order value_place o))) e
        ∙ (ap (λ (r : FieldOrder GraphPlace). placed_fields (Operations.held_by_side T (side b)) b (fields (expr T) T.children (first + i * 2 + 2) k) r) m
        ∙ (ap (λ (n : ℕ). placed_fields (Operations.held_by_side T (side b)) b (fields (expr T) T.children n k) (map_order value_place (add_field (field_key T first i) i o))) a
        ∙ placed_from (i + 1) k (add_field (field_key T first i) i o) (λ j lt. let q : i + (j + 1) ≡ i + 1 + j = omega arith in rw q at (keys (j + 1) (omega arith)))))

    keyed_from : (at : ℕ) (ss : List (Slot ℕ))
        → ((q : ℕ) → q < length ss → (literal_in T (get_or links (at + q * 8 + 2) 0) ≡ (get_or ss q blank).at) × (get_or links (at + q * 8 + 4) 0 ≡ place_number (value_place (get_or ss q blank).held)))
        → keyed_at (literal_in T) links at (length ss) ≡ rename_keyed place_number (keyed_in (map (map_slot value_place) ss))
    unfolding keyed_at keyed_in rename_keyed
    keyed_from at [] each = refl
    keyed_from at (s ∷ ss) each =
        let z : at + 0 * 8 ≡ at = omega arith in
        let h = rw z at (each 0 (omega arith)) in
        let (x, y) = h in
        let r = keyed_from (at + 8) ss (λ q lt. let e : at + (suc q) * 8 ≡ at + 8 + q * 8 = omega arith in rw e at (each (suc q) (omega arith))) in
        rw (x, y, r)

  module _ (n : ℕ) (v : Node T n) (k : kind_of T.nodes n ≡ 9) (s : simple (expr T n) ≡ true) (b : Bool) where
    abbrev first : ℕ
    first = first_word_of T.nodes n

    abbrev count : ℕ
    count = count_of T.nodes n

    o : FieldOrder ℕ
    o = order_of T first count

    keys : KeysAsks T first count
    keys = record { children = object_children T p.table n v k; literal = (keyed_object T p.table n v true s k).literal }

    literal_keys_lem : AllLiteral count no_fields o
    unfolding o
    literal_keys_lem = literal_order (field_key T first) 0 count no_fields (λ j lt. let z : 0 + j ≡ j = omega arith in rw z (p.table.literals (key_node T first j) (key-node keys.children j lt) (keys.literal j lt))) refl

    listed_long : length (in_order o) ≡ length o.literals
    listed_long = let e = literal_keys_lem.computed in length-append (map held_in o.literals) o.computed ∙ (rw e (omega (arith, length-map o.literals held_in)))

    all_fields : length o.literals ≡ count
    unfolding o
    all_fields =
        let f = literal_keys_lem.few in
        let l = keys.children.listed in
        let m = p.table.limits.children in
        let e = listed_long in
        let d = eqb-true (length (in_order o)) count (count_differs T first count keys (record { total = refl; fields = take_all (length (in_order o)) (in_order o) (omega arith); few = omega (arith, e, f, l, m) }) ∙ (keyed_object T p.table n v true s k).differ) in
        omega (arith, d, e)

    ordered_as : Ordered (field_key T first) o (in_order o) (length o.literals) (length (in_order o))
    unfolding o
    ordered_as = ordered_first (field_key T first) key_order_lem count (in_order o) refl refl (take_all (length (in_order o)) (in_order o) (omega arith))

    abbrev slot : ℕ → Slot ℕ
    slot q = get_or o.literals q blank

    -- field q in order
    module _ (q : ℕ) (lt : q < count) where
      slot_number : get_or (in_order o) q 0 ≡ (slot q).held
      slot_number = let e = all_fields in place_held ordered_as q (omega (arith, e, lt))

      slot_low : (slot q).held < count
      unfolding o
      slot_low =
          let e = all_fields in
          let g = listed_long in
          let h = slot_number in
          let u = below_at count (in_order o) q (omega (arith, e, g, lt)) (order_below (field_key T first) count) in
          omega (arith, h, u)

      slot_key_lem : literal_at T (key_node T first (slot q).held) ≡ some (slot q).at
      slot_key_lem = let e = all_fields in all_at (Keyed (field_key T first)) blank o.literals q (omega (arith, e, lt)) ordered_as.keyed

      key_entry : child_at ordered (first + q * 2) ≡ key_node T first (slot q).held
      unfolding o
      key_entry =
          let w = width_object (kind_of T.nodes n) (count_of T.nodes n) k in
          let x : q * 2 / 2 ≡ q = omega arith in
          let y : q * 2 % 2 ≡ 0 = omega arith in
          let h = slot_number in
          let z : first + (slot q).held * 2 + 0 ≡ first + (slot q).held * 2 = omega arith in
          (rw (x, y, h, z) at (p.in_order.fields n v s k (q * 2) (omega (arith, w, lt))))

      value_entry : child_at ordered (first + (q * 2 + 1)) ≡ value_node T first (slot q).held
      unfolding o
      value_entry =
          let w = width_object (kind_of T.nodes n) (count_of T.nodes n) k in
          let x : (q * 2 + 1) / 2 ≡ q = omega arith in
          let y : (q * 2 + 1) % 2 ≡ 1 = omega arith in
          let h = slot_number in
          (rw (x, y, h) at (p.in_order.fields n v s k (q * 2 + 1) (omega (arith, w, lt))))

      key_link : get_or links (first * 4 + side_number b + q * 8 + 2) 0 ≡ like_in (literal_at T) (node_count T) (key_node T first (slot q).held)
      key_link =
          let l = keys.children.listed in
          let m = p.table.limits.children in
          let e : first * 4 + side_number b + q * 8 + 2 ≡ (first + q * 2) * 4 + (2 + side_number b) = omega arith in
          rw e (link_like b (first + q * 2) (key_node T first (slot q).held) (omega (arith, l, m, lt)) key_entry (key-node keys.children (slot q).held slot_low))

      value_link : get_or links (first * 4 + side_number b + q * 8 + 4) 0 ≡ place b (value_node T first (slot q).held)
      value_link =
          let l = keys.children.listed in
          let m = p.table.limits.children in
          let e : first * 4 + side_number b + q * 8 + 4 ≡ (first + (q * 2 + 1)) * 4 + side_number b = omega arith in
          rw e (link_place b (first + (q * 2 + 1)) (value_node T first (slot q).held) (omega (arith, l, m, lt)) value_entry (value_node_lem keys.children (slot q).held slot_low))

      key_literal_is : literal_in T (get_or links (first * 4 + side_number b + q * 8 + 2) 0) ≡ (slot q).at
      key_literal_is =
          let u = key-node keys.children (slot q).held slot_low in
          let f = like_found (literal_at T) (node_count T) u.low u.high slot_key_lem in
          let e = key_link in
          rw e (ap literal_or f.literal)

      pub key_own : own_like (literal_at T) (node_count T) (get_or links (first_word_of T.nodes n * 4 + side_number b + q * 8 + 2) 0) ≡ true
      key_own =
          let u = key-node keys.children (slot q).held slot_low in
          let e = key_link in
          rw e (like_own (literal_at T) (node_count T) u.low u.high slot_key_lem)

    pub fields_are : keyed_at (literal_in T) links (first_word_of T.nodes n * 4 + side_number b) (count_of T.nodes n)
        ≡ rename_keyed place_number (keyed_of (Operations.held_by_side T (side b)) b (fields (expr T) T.children (first_word_of T.nodes n) (count_of T.nodes n)))
    unfolding o
    fields_are =
        let z : first + 0 * 2 ≡ first = omega arith in
        let a = all_fields in
        let placed_all = rw z at (placed_from first b 0 count no_fields (λ j lt. let y : 0 + j ≡ j = omega arith in rw y (key-node keys.children j lt))) in
        ap (keyed_at (literal_in T) links (first * 4 + side_number b)) (sym a)
        ∙ (keyed_from first b (first * 4 + side_number b) o.literals (λ q lt. (key_literal_is q (omega (arith, a, lt)), value_link q (omega (arith, a, lt))))
        ∙ ap (λ (r : FieldOrder GraphPlace). rename_keyed place_number (keyed_in r.literals)) (sym placed_all))
