-- The search for a key among an object's fields in order.
use Prim.Native.Nat.{ℕ, zero, suc, ◌+◌, ◌*◌, ◌≤◌, ◌<◌}
use mathlib.Core.Path.{◌≡◌, refl, sym, ap, ◌∙◌}
use mathlib.Core.Bool.{Bool, true, false}
use mathlib.Core.List.{List, [], ◌∷◌, ◌++◌, map, append-nil}
use mathlib.Core.Option.{Option}
use Rattle.std.proofs.Common.{Result, Ok, Err}
use native.Mathlib.Omega.{arith}
use mir.Val.{Fits}
use mir.Syntax.{w64}
use borrow.Author.Tests.{leb-true, leb-false}
use lib.Dec.{leb}
use lib.ListN.{length, get_or, take, length-map, get_or-map}
use lib.Seq.{get_or-take}
use Rattle.literal.specs.Literal.{Literal, null}
use Rattle.literal.specs.declared.LiteralRef.{LiteralRef}
use Rattle.literal.specs.Order.{less, same, more, key_order}
use Rattle.literal.proofs.Orders.{key_order_lem}
use Rattle.table.specs.Names.{is_same}
use Rattle.table.specs.Tables.{Tables, first_word_of, count_of, child_at}
use Rattle.table.specs.Decode.{literal_at, literal_node, fields_of, referred, ref_of}
use Rattle.table.specs.declared.Key.{Key}
use Rattle.table.specs.declared.Key.TheVariants.{Computed}
use Rattle.table.proofs.tests.Bytes.{node_refers}
use Rattle.planner.specs.code.Ordering as planner
use Rattle.planner.specs.code.Ordering.{At, KeyBetween, FoundBy}
use Rattle.planner.specs.Layout.{Slot, held_in, FieldOrder, in_order}
use Rattle.planner.specs.code.Passes.{field_key, order_of}
use Rattle.planner.proofs.fields.FieldOrder.{Sorted, Ordered, ordered_first, to_slot, same_before}
use Rattle.planner.proofs.fields.Objects.{AllBelow, order_below}
use Rattle.planner.specs.Held.{held_under}
use Rattle.assignment.specs.Pairs.{distinct_keys}
use Rattle.assignment.specs.code.KeyMatching.{held_node, partner_of, InOrder, FindAsks}
use Rattle.assignment.proofs.keys.Partners.{empty_nil, computed_empty, distinct_count, object_listed, partner_held}

abbrev pub blank : Slot ℕ
blank = record { at = null; held = 0 }

held_found : (l : Literal) (ss : List (Slot ℕ)) (q : ℕ) → q < length ss → ((p : ℕ) → p < q → key_order l (get_or ss p blank).at ≡ more) → key_order l (get_or ss q blank).at ≡ same → held_under l ss ≡ Option.some (get_or ss q blank).held
unfolding held_under
held_found l [] q lt before here = absurd (omega arith)
held_found l (s ∷ ss) zero lt before here = rw here
held_found l (s ∷ ss) (suc q) lt before here =
    let e = before 0 (omega arith) in
    rw e (held_found l ss q (omega arith) (λ p h. before (suc p) (omega arith)) here)

held_none : (l : Literal) (ss : List (Slot ℕ)) → ((q : ℕ) → q < length ss → is_same (key_order l (get_or ss q blank).at) ≡ false) → held_under l ss ≡ Option.none
unfolding held_under
held_none l [] differ = refl
held_none l (s ∷ ss) differ = let e = differ 0 (omega arith) in rw e (held_none l ss (λ q h. differ (suc q) (omega arith)))

-- the slots of an object, and its array of field numbers
abbrev pub order_in : Tables → ℕ → FieldOrder ℕ
order_in T n = order_of T (first_word_of T.nodes n) (count_of T.nodes n)

abbrev pub slots_of : Tables → ℕ → List (Slot ℕ)
slots_of T n = (order_in T n).literals

module _ {T : Tables} {n : ℕ} {order : List ℕ} {total : ℕ} (o : InOrder T n order total) where
  in_order_lem : in_order (order_in T n) ≡ map held_in (slots_of T n)
  in_order_lem =
      let none_computed : (order_in T n).computed ≡ [] = empty_nil (order_in T n).computed (sym (computed_empty T o.asks) ∙ o.literal) in
      ap (λ (cs : List ℕ). map held_in (slots_of T n) ++ cs) none_computed ∙ append-nil (map held_in (slots_of T n))

  slots_count : total ≡ length (slots_of T n)
  slots_count = o.ordered.total ∙ (ap length in_order_lem ∙ length-map (slots_of T n) held_in)

  pub total_distinct : total ≡ distinct_keys (fields_of T n)
  total_distinct = slots_count ∙ sym (distinct_count T o.asks)

  ordered : Ordered (field_key T (first_word_of T.nodes n)) (order_in T n) order total total
  ordered = ordered_first (field_key T (first_word_of T.nodes n)) key_order_lem (count_of T.nodes n) order slots_count o.ordered.total o.ordered.fields

  held_at : (q : ℕ) → q < total → get_or order q 0 ≡ (get_or (slots_of T n) q blank).held
  held_at q lt = sym (get_or-take total order q 0 lt) ∙ (ap (λ (l : List ℕ). get_or l q 0) (o.ordered.fields ∙ in_order_lem) ∙ get_or-map held_in (slots_of T n) q blank)

  slots_sorted : Sorted (slots_of T n)
  slots_sorted = ordered.sorted

  below_at : (k : ℕ) (l : List ℕ) (q : ℕ) → q < length l → AllBelow k l → get_or l q 0 < k
  unfolding AllBelow
  below_at k [] q lt a = absurd (omega arith)
  below_at k (x ∷ xs) zero lt a = a.0
  below_at k (x ∷ xs) (suc q) lt a = below_at k xs q (omega arith) a.1

  field_low : (q : ℕ) → q < total → get_or order q 0 < count_of T.nodes n
  field_low q lt =
      let t = o.ordered.total in
      let e : get_or (take total order) q 0 ≡ get_or order q 0 = get_or-take total order q 0 lt in
      rw (← e) (rw o.ordered.fields (below_at (count_of T.nodes n) (in_order (order_of T (first_word_of T.nodes n) (count_of T.nodes n))) q (omega arith) (order_below (field_key T (first_word_of T.nodes n)) (count_of T.nodes n))))

-- the search among the fields, by the literal of the key
module _ {T : Tables} {n : ℕ} {order : List ℕ} {total key : ℕ} (asks : FindAsks T n order total key) {ref : Key} (is-ref : ref ≡ ref_of T.nodes key) where
  pub value_computed : ref ≡ Computed → 0 ≡ partner_of T n key
  unfolding literal_node partner_of
  value_computed e =
      let r = sym is-ref ∙ e in
      let none : literal_at T key ≡ Option.none = rw r in
      rw none

  module _ {sought : LiteralRef} (is-sought : ref ≡ Key.Literal sought) {first : ℕ} (is_first : first ≡ first_word_of T.nodes n) where
    refers : referred T sought ≡ literal_at T key
    refers = node_refers T.nodes T.numbers T.strings T.text key is-ref is-sought

    first_few : first + count_of T.nodes n * 2 ≤ 512
    first_few =
        let listed = object_listed T asks.in_order.asks in
        let few = asks.in_order.asks.table.limits.children in
        omega arith

    pub value_asks : planner.FindAsks T first order total sought
    value_asks =
        let o = asks.in_order.ordered in
        let f = first_few in
        record {
          fields = count_of T.nodes n;
          total = total;
          so_far = rw is_first (record { counted = slots_count asks.in_order; sized = o.total; listed = o.fields });
          few = o.few;
          small = omega arith;
          own = asks.key_ok.own;
          literal = refers ∙ asks.key_ok.literal;
        }

    module _ {found : Result ℕ ℕ} (is : FoundBy (field_key T first) (referred T sought) order total found) where
      module _ {q : ℕ} (there : found ≡ Ok q) {i : ℕ} (is-i : i ≡ get_or order q 0) where
        here : (q < total) × At same (field_key T (first_word_of T.nodes n)) (literal_at T key) order q
        here = rw (refers, is_first, there) at is.place

        place_low : first + i * 2 + 1 < 512
        place_low =
            let f = first_few in
            let l = field_low asks.in_order q here.0 in
            omega arith

        pub value_twice : Fits w64 (i * 2)
        value_twice = let p = place_low in record { fits = omega arith }

        pub value_key : Fits w64 (first + i * 2)
        value_key = let p = place_low in record { fits = omega arith }

        pub value_place : Fits w64 (first + i * 2 + 1)
        value_place = let p = place_low in record { fits = omega arith }

        pub value_found : {value : ℕ} → value ≡ child_at T.children (first + i * 2 + 1) → value ≡ partner_of T n key
        value_found {value} is-value =
            let equal = to_slot (ordered asks.in_order) asks.key_ok.literal same q here.0 here.1 in
            let c = slots_count asks.in_order in
            let in-slots : q < length (slots_of T n) = let h = here.0 in omega arith in
            let held = held_found asks.key_ok.own (slots_of T n) q in-slots
            (same_before key_order_lem blank asks.key_ok.own (slots_of T n) (slots_sorted asks.in_order) q in-slots equal) equal in
            is-value ∙ (rw (is-i, held_at asks.in_order q here.0, is_first)
            (sym (partner_held T asks.in_order.asks asks.key_ok ∙ ap (held_node T (first_word_of T.nodes n)) held)))

      pub value_absent : {place : ℕ} → found ≡ Err place → 0 ≡ partner_of T n key
      value_absent {place} e =
          let c = slots_count asks.in_order in
          sym (partner_held T asks.in_order.asks asks.key_ok
          ∙ ap (held_node T (first_word_of T.nodes n)) (held_none asks.key_ok.own (slots_of T n) (λ q lt. at q (omega arith) (leb place q) refl)))
        where
          between : KeyBetween (field_key T (first_word_of T.nodes n)) (literal_at T key) order total place place
          between = rw (refers, is_first, e) at is.place

          at : (q : ℕ) → q < total → (b : Bool) → leb place q ≡ b → is_same (key_order asks.key_ok.own (get_or (slots_of T n) q blank).at) ≡ false
          at q lt true p = ap is_same (to_slot (ordered asks.in_order) asks.key_ok.literal less q lt (between.behind q (leb-true place q p) lt))
          at q lt false p = ap is_same (to_slot (ordered asks.in_order) asks.key_ok.literal more q lt (between.before q (leb-false place q p)))
