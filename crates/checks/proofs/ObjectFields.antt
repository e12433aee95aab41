-- Two objects: which of the pattern's fields have partners, and the value's fields in turn.
use Prim.Native.Nat.{ℕ, zero, suc, ◌+◌, ◌-◌, ◌*◌, ◌≤◌, ◌<◌}
use mathlib.Core.Path.{◌≡◌, refl, sym, ap, ◌∙◌}
use mathlib.Core.Bool.{Bool, true, false, cond, ◌||◌, not}
use mathlib.Core.List.{List, [], ◌∷◌, ◌++◌}
use native.Mathlib.Omega.{arith}
use borrow.Author.Tests.{eqb-true, eqb-false, eq-eqb, ne_eqb, ltb-true, ltb-false, lt-ltb, le-ltb}
use lib.Dec.{eqb, ltb}
use lib.ListN.{length, get_or, set, take, replicate}
use lib.Seq.{get_or-set_same, get_or-set_other}
use mir.Syntax.{w64}
use mir.Val.{Fits}
use Rattle.base.specs.Lists.{all_from}
use Rattle.table.specs.Tables.{Tables, first_word_of, count_of, child_at}
use Rattle.table.specs.Expr.{Expr}
use Rattle.table.specs.Decode.{expr, literal_at, fields_of}
use Rattle.table.specs.code.Sound.{Node}
use Rattle.table.proofs.tests.Scan.{Scan, scan_start, scan_on, scan_fails, scan_ends}
use Rattle.planner.specs.Layout.{Slot}
use Rattle.planner.specs.Held.{is_empty}
use Rattle.planner.specs.code.Passes.{key_node, value_node}
use Rattle.planner.specs.code.Post.{GoodPair}
use Rattle.checks.specs.declared.Reading.{Reading}
use Rattle.checks.specs.declared.Reading.TheVariants.{Present, Careful}
use Rattle.checks.specs.declared.LiteralStructureCheck.{LiteralStructureCheck}
use Rattle.checks.specs.declared.LiteralStructureCheck.TheVariants.{Match, Unknown}
use Rattle.checks.specs.declared.joining.FieldsSoFar.{FieldsSoFar}
use Rattle.checks.specs.Joining.{joined}
use Rattle.checks.specs.Structure.{ValueField, is_under, partners, structure, value_fields}
use Rattle.checks.specs.code.Joins.{is_settled, meets, finished, end_after, NoFieldYet, FieldTaken}
use Rattle.checks.specs.code.Post.{patterns_of, FieldsAsks, fields_structure, PartnerAsks, PlaceIs, SlotAsks, SlotIs, is_marked, Unmarked, MarkedAt, values_from, slot_at, Marked, paired_at, paired_by, FieldAsks, OneMore}
use Rattle.checks.proofs.Pairing.{field_passed, field_taken, finished_none, finished_ended, fields_finished, has_more, all_paired_lem}
use Rattle.checks.proofs.PatternObjects.{object_key, object_value, object_few, slots_few, slots_counted}
use Rattle.checks.proofs.Checks.{last_unknown, last_match, values_step, values_none, values_all}

-- marks

pub none_marked : (n : ℕ) {marks : List ℕ} → marks ≡ replicate n 0 → Unmarked marks
none_marked n is = record { each = λ q. rw is (ap (λ (x : ℕ). not (eqb x 0)) (all_zeros n q)) }
  where
    all_zeros : (n q : ℕ) → ◌≡◌ {A = ℕ} (get_or (replicate n 0) q 0) 0
    all_zeros zero zero = refl
    all_zeros zero (suc q) = refl
    all_zeros (suc n) zero = refl
    all_zeros (suc n) (suc q) = all_zeros n q

marked_set : (marks : List ℕ) (q v : ℕ) → q < length marks → is_marked (set marks q v) q ≡ not (eqb v 0)
marked_set marks q v lt = ap (λ (x : ℕ). not (eqb x 0)) (get_or-set_same marks q v 0 lt)

marked_other : (marks : List ℕ) (q v k : ℕ) → (k ≡ q → ⊥) → is_marked (set marks q v) k ≡ is_marked marks k
marked_other marks q v k d = ap (λ (x : ℕ). not (eqb x 0)) (get_or-set_other marks q k v 0 d)

module _ {place : ℕ} {before : List ℕ} where
  pub mark_set : place < length before → MarkedAt place before (set before place 1)
  mark_set lt = record { here = λ h. marked_set before place 1 lt; others = λ q d. marked_other before place 1 q d }

  pub mark_none : length before ≤ place → MarkedAt place before before
  mark_none le = record { here = λ h. absurd (omega arith); others = λ q d. refl }

-- the value's fields mark their partners' places
abbrev has_partner : Tables → ℕ → ℕ → List ValueField → Bool
has_partner T pattern q vs = not (is_empty (partners (slot_at T pattern q) vs))

pub record Marking (T : Tables) (pattern value : ℕ) (order : List ℕ) (literals total first count : ℕ) (marks : List ℕ) (i : ℕ) : Type 0 where
  pub asks : FieldsAsks T pattern value order literals total
  pub begins : first ≡ first_word_of T.nodes value
  pub sized : count ≡ count_of T.nodes value
  pub small : first + count * 2 ≤ 512
  pub few : literals ≤ 256
  pub each : (q : ℕ) → q < literals → (is_marked marks q || has_partner T pattern q (values_from Careful T value i (count_of T.nodes value - i))) ≡ has_partner T pattern q (value_fields Careful (fields_of T value))

pub marking_start : {T : Tables} {pattern value : ℕ} {order : List ℕ} {literals total : ℕ} → FieldsAsks T pattern value order literals total → {first count : ℕ} → first ≡ first_word_of T.nodes value → count ≡ count_of T.nodes value
    → {marks : List ℕ} → Unmarked marks → Marking T pattern value order literals total first count marks 0
marking_start {T} {pattern} {value} a is_first is_count u =
    let f = object_few T a.objects.pair.table value a.objects.pair.second a.objects.value_object in
    record {
      asks = a;
      begins = is_first;
      sized = is_count;
      small = omega arith;
      few = slots_few a;
      each = λ q lt. let m = u.each q in rw m (ap (has_partner T pattern q) (values_all Careful a.objects));
    }

module _ {T : Tables} {pattern value : ℕ} {order : List ℕ} {literals total first count : ℕ} {marks : List ℕ} {i : ℕ} (go : Marking T pattern value order literals total first count marks i) where
  module _ (lt : i < count) where
    pub marking_double : Fits w64 (i * 2)
    marking_double = let f = go.small in record { fits = omega arith }

    pub marking_place : Fits w64 (first + i * 2)
    marking_place = let f = go.small in record { fits = omega arith }

    pub marking_next : Fits w64 (i + 1)
    marking_next = let f = go.small in record { fits = omega arith }

    module _ {key : ℕ} (is_key : key ≡ child_at T.children (first + i * 2)) where
      own_key : key ≡ key_node T (first_word_of T.nodes value) i
      own_key = rw go.begins at is_key

      pub marking_ask : PartnerAsks T pattern order literals key
      marking_ask =
          let p = go.asks.objects.pair in
          let c = go.sized in
          record { value = value; total = total; asks = go.asks; node = rw own_key (object_key T p.table value p.second go.asks.objects.value_object i (omega arith)) }

      module _ {place : ℕ} (p : PlaceIs (patterns_of T pattern).literals (literal_at T key) place) (long : length marks ≡ 256) {later : List ℕ} (m : MarkedAt place marks later) where
        pub marking_on : Marking T pattern value order literals total first count later (i + 1)
        marking_on = record {
          asks = go.asks;
          begins = go.begins;
          sized = go.sized;
          small = go.small;
          few = go.few;
          each = λ q h. one q h (eqb q place) refl;
        }
          where
            rest : List ValueField
            rest = values_from Careful T value (i + 1) (count_of T.nodes value - (i + 1))

            counted : length (patterns_of T pattern).literals ≡ literals
            counted = slots_counted go.asks

            here : (q : ℕ) → has_partner T pattern q (values_from Careful T value i (count_of T.nodes value - i)) ≡ (is_under (slot_at T pattern q).at (literal_at T key) || has_partner T pattern q rest)
            here q =
                let c = go.sized in
                ap (has_partner T pattern q) (values_step Careful go.asks.objects i (omega arith)) ∙ (has_more (slot_at T pattern q) _ rest
                ∙ ap (λ (k : ℕ). is_under (slot_at T pattern q).at (literal_at T k) || has_partner T pattern q rest) (sym own_key))

            either : (x y : Bool) → (x || (true || y)) ≡ true
            either true y = refl
            either false y = refl

            one : (q : ℕ) → q < literals → (b : Bool) → eqb q place ≡ b → (is_marked later q || has_partner T pattern q rest) ≡ has_partner T pattern q (value_fields Careful (fields_of T value))
            one q h true e =
                let c = counted in
                let is = eqb-true q place e in
                let f = go.few in
                let marked : is_marked later q ≡ true = rw is (m.here (omega arith)) in
                let under : is_under (slot_at T pattern q).at (literal_at T key) ≡ true = rw is (p.here (omega arith)) in
                let before = go.each q h in
                rw marked (sym (either (is_marked marks q) (has_partner T pattern q rest)) ∙ (sym (ap (λ (x : Bool). is_marked marks q || x) (here q ∙ ap (λ (x : Bool). x || has_partner T pattern q rest) under)) ∙ before))
            one q h false e =
                let c = counted in
                let d = eqb-false q place e in
                let marked : is_marked later q ≡ is_marked marks q = m.others q d in
                let under : is_under (slot_at T pattern q).at (literal_at T key) ≡ false = p.others q (omega arith) d in
                rw marked (sym (ap (λ (x : Bool). is_marked marks q || x) (here q ∙ ap (λ (x : Bool). x || has_partner T pattern q rest) under)) ∙ go.each q h)

  pub marking_ends : count ≤ i → Marked T pattern value literals marks
  unfolding partners
  marking_ends le = record { each = λ q h. or_false (is_marked marks q) _ (let c = go.sized in ap (has_partner T pattern q) (values_none Careful go.asks.objects i (omega arith))) ∙ go.each q h }
    where
      or_false : (x y : Bool) → y ≡ false → x ≡ (x || y)
      or_false true y e = refl
      or_false false y e = sym e

-- are all marked?
pub record Looking (marks : List ℕ) (size q : ℕ) : Type 0 where
  pub few : size ≤ 256
  pub scan : Scan (is_marked marks) 0 size q

pub marks_start : (marks : List ℕ) {size : ℕ} → size ≤ 256 → Looking marks size 0
marks_start marks {size} few = record { few = few; scan = scan_start (is_marked marks) 0 size }

module _ {marks : List ℕ} {size q : ℕ} (go : Looking marks size q) (lt : q < size) where
  pub marks_on : (get_or marks q 0 ≡ 0 → ⊥) → Looking marks size (q + 1)
  marks_on d = let z : 0 + q ≡ q = omega arith in record { few = go.few; scan = scan_on go.scan lt (rw z (ap not (ne_eqb (get_or marks q 0) 0 d))) }

  pub marks_fail : get_or marks q 0 ≡ 0 → false ≡ all_from (is_marked marks) 0 size
  marks_fail e = let z : 0 + q ≡ q = omega arith in scan_fails go.scan lt (rw z (ap not (eq-eqb (get_or marks q 0) 0 e)))

pub marks_end : {marks : List ℕ} {size q : ℕ} → Looking marks size q → size ≤ q → true ≡ all_from (is_marked marks) 0 size
marks_end go le = scan_ends go.scan le

pub paired_done : {T : Tables} {pattern value : ℕ} {order : List ℕ} {literals total : ℕ} → FieldsAsks T pattern value order literals total → {marks : List ℕ} → Marked T pattern value literals marks
    → {r : Bool} → r ≡ all_from (is_marked marks) 0 literals → r ≡ paired_at T pattern value
paired_done {T} {pattern} {value} a {marks} m is =
    let n = slots_counted a in
    is ∙ (ap (all_from (is_marked marks) 0) (sym n) ∙ all_paired_lem (patterns_of T pattern).literals (value_fields Careful (fields_of T value)) (is_marked marks) (λ q lt. m.each q (omega arith)))

-- the value's fields in turn

take_whole : {A : Type 0} (l : List A) (n : ℕ) → length l ≤ n → take n l ≡ l
take_whole [] zero le = refl
take_whole [] (suc n) le = refl
take_whole (a ∷ l) zero le = absurd (omega arith)
take_whole {A} (a ∷ l) (suc n) le = ap (λ (r : List A). a ∷ r) (take_whole l n (omega arith))

pub record CheckingFields (r : Reading) (T : Tables) (pattern value : ℕ) (order : List ℕ) (literals total count : ℕ) (so_far : FieldsSoFar) (i : ℕ) : Type 0 where
  pub asks : FieldsAsks T pattern value order literals total
  pub sized : count ≡ count_of T.nodes value
  pub few : count ≤ 256
  pub low : so_far.end ≤ literals
  pub same : finished r (patterns_of T pattern).literals (values_from r T value i (count_of T.nodes value - i)) so_far ≡ fields_structure r T pattern value

module _ {T : Tables} {pattern value : ℕ} {order : List ℕ} {literals total : ℕ} (a : FieldsAsks T pattern value order literals total) where
  computed_seen : ltb literals total ≡ not (is_empty (patterns_of T pattern).computed)
  computed_seen = go (ltb literals total) refl
    where
      go : (b : Bool) → ltb literals total ≡ b → b ≡ not (is_empty (patterns_of T pattern).computed)
      go true e = let c = last_unknown a.objects a.ordered (ltb-true literals total e) in rw c
      go false e = let c = last_match a.objects a.ordered (ltb-false literals total e) in rw c

  pub fields_start : (r : Reading) {count : ℕ} → count ≡ count_of T.nodes value → {paired : Bool} → paired ≡ paired_by r T pattern value → {so_far : FieldsSoFar} → NoFieldYet paired literals total so_far
      → CheckingFields r T pattern value order literals total count so_far 0
  fields_start r is_count {paired} is-paired {so_far} n =
      let f = object_few T a.objects.pair.table value a.objects.pair.second a.objects.value_object in
      let c = slots_counted a in
      let e = n.end_is in
      record {
        asks = a;
        sized = is_count;
        few = omega arith;
        low = omega arith;
        same = ap (λ (vs : List ValueField). finished r (patterns_of T pattern).literals vs so_far) (values_all r a.objects)
            ∙ (ap (λ (ss : List (Slot Expr)). joined r (meets r ss (value_fields r (fields_of T value)) ++ (so_far.check ∷ []))) (take_whole (patterns_of T pattern).literals so_far.end (omega arith))
            ∙ (ap (λ (d : LiteralStructureCheck). joined r (meets r (patterns_of T pattern).literals (value_fields r (fields_of T value)) ++ (d ∷ []))) n.check_is
            ∙ sym (fields_finished r (patterns_of T pattern).literals (value_fields r (fields_of T value)) (ltb literals total) (is_empty (patterns_of T pattern).computed) paired computed_seen is-paired)));
      }

module _ {r : Reading} {T : Tables} {pattern value : ℕ} {order : List ℕ} {literals total count : ℕ} {so_far : FieldsSoFar} {i : ℕ} (s : CheckingFields r T pattern value order literals total count so_far i) where
  pub fields_ask : i < count → FieldAsks T pattern value order literals i so_far
  fields_ask lt = let e = s.sized in record { total = total; asks = s.asks; inside = omega arith; low = s.low }

  pub fields_next : i < count → Fits w64 (i + 1)
  fields_next lt = let f = s.few in record { fits = omega arith }

  module _ {later : FieldsSoFar} (m : OneMore r T pattern value literals i so_far later) where
    pub fields_on : CheckingFields r T pattern value order literals total count later (i + 1)
    fields_on = record { asks = s.asks; sized = s.sized; few = s.few; low = m.low; same = m.same ∙ s.same }

    pub fields_stop : later.end ≡ 0 → later.check ≡ fields_structure r T pattern value
    fields_stop e = sym (finished_ended r (patterns_of T pattern).literals (values_from r T value (i + 1) (count_of T.nodes value - (i + 1))) e) ∙ (m.same ∙ s.same)

  pub fields_done : count ≤ i → so_far.check ≡ fields_structure r T pattern value
  fields_done le =
      let e = s.sized in
      sym (ap (λ (vs : List ValueField). finished r (patterns_of T pattern).literals vs so_far) (values_none r s.asks.objects i (omega arith)) ∙ finished_none r (patterns_of T pattern).literals so_far) ∙ s.same

-- one field
module _ {T : Tables} {pattern value : ℕ} {order : List ℕ} {literals i : ℕ} {before : FieldsSoFar} (a : FieldAsks T pattern value order literals i before) {first : ℕ} (is_first : first ≡ first_word_of T.nodes value) where
  place_few : first + i * 2 + 1 < 512
  place_few =
      let p = a.asks.objects.pair in
      let f = object_few T p.table value p.second a.asks.objects.value_object in
      let l = a.inside in
      omega arith

  pub field_double : Fits w64 (i * 2)
  field_double = let p = place_few in record { fits = omega arith }

  pub field_place : Fits w64 (first + i * 2)
  field_place = let p = place_few in record { fits = omega arith }

  pub field_next : Fits w64 (first + i * 2 + 1)
  field_next = let p = place_few in record { fits = omega arith }

  module _ {key : ℕ} (is_key : key ≡ child_at T.children (first + i * 2)) where
    field_key_lem : key ≡ key_node T (first_word_of T.nodes value) i
    field_key_lem = rw is_first at is_key

    pub ask_partner : PartnerAsks T pattern order literals key
    ask_partner =
        let p = a.asks.objects.pair in
        record { value = value; total = a.total; asks = a.asks; node = rw field_key_lem (object_key T p.table value p.second a.asks.objects.value_object i a.inside) }

    module _ {place : ℕ} (p : PlaceIs (patterns_of T pattern).literals (literal_at T key) place) where
      own_place : PlaceIs (patterns_of T pattern).literals (literal_at T (key_node T (first_word_of T.nodes value) i)) place
      own_place = rw (← field_key_lem) p

      abbrev own : Reading → ValueField
      own r = record { key = literal_at T (key_node T (first_word_of T.nodes value) i); against = structure r (expr T (value_node T (first_word_of T.nodes value) i)) }

      abbrev rest : Reading → List ValueField
      rest r = values_from r T value (i + 1) (count_of T.nodes value - (i + 1))

      as_one : (r : Reading) (c d : FieldsSoFar) → finished r (patterns_of T pattern).literals (rest r) d ≡ finished r (patterns_of T pattern).literals (own r ∷ rest r) c
          → finished r (patterns_of T pattern).literals (rest r) d ≡ finished r (patterns_of T pattern).literals (values_from r T value i (count_of T.nodes value - i)) c
      as_one r c d e = e ∙ sym (ap (λ (vs : List ValueField). finished r (patterns_of T pattern).literals vs c) (values_step r a.asks.objects i a.inside))

      pub passed : (r : Reading) → before.end ≤ place → OneMore r T pattern value literals i before before
      passed r le = record { low = a.low; same = as_one r before before (field_passed (own r) (rest r) (patterns_of T pattern).literals own_place before r le) }

      module _ (lt : place < before.end) where
        pub ask_slot : SlotAsks T pattern order literals place
        ask_slot = let l = a.low in record { value = value; total = a.total; asks = a.asks; inside = omega arith }

        module _ {other_node : ℕ} (slot : SlotIs T (patterns_of T pattern).literals place other_node) {child : ℕ} (is-child : child ≡ child_at T.children (first + i * 2 + 1)) where
          field_child : child ≡ value_node T (first_word_of T.nodes value) i
          field_child = rw is_first at is-child

          there : Node T (value_node T (first_word_of T.nodes value) i) × (value_node T (first_word_of T.nodes value) i < value)
          there = let q = a.asks.objects in object_value T q.pair.table value q.pair.second q.value_object i a.inside

          pub field_pair : GoodPair T other_node child
          field_pair = record { table = a.asks.objects.pair.table; first = slot.node; second = rw field_child there.0 }

          pub field_below : child < value
          field_below = rw field_child there.1

          module _ {r : Reading} {check : LiteralStructureCheck} (is-check : check ≡ structure r (expr T child) (expr T other_node)) {later : FieldsSoFar} (taken : FieldTaken r before place check later) where
            pub one_taken : OneMore r T pattern value literals i before later
            one_taken =
                let l = a.low in
                let n = slots_counted a.asks in
                record {
                  low = ends r (is_settled r check) taken.end_is;
                  same = as_one r before later (field_taken (own r) (rest r) (patterns_of T pattern).literals own_place before lt (omega arith)
                      (is-check ∙ (ap (λ (k : ℕ). structure r (expr T k) (expr T other_node)) field_child ∙ ap (structure r (expr T (value_node T (first_word_of T.nodes value) i))) slot.is)) r taken);
                }
              where
                ends : (r : Reading) (b : Bool) → later.end ≡ cond b (end_after r place) before.end → later.end ≤ literals
                ends Present true e = omega arith
                ends Careful true e = let l = a.low in omega arith
                ends Present false e = let l = a.low in omega arith
                ends Careful false e = let l = a.low in omega arith

-- asked in the careful reading alone
module _ (r : Reading) (T : Tables) (pattern value : ℕ) where
  pub paired_present : r ≡ Present → true ≡ paired_by r T pattern value
  paired_present e = rw e

  pub paired_careful : r ≡ Careful → {b : Bool} → b ≡ paired_at T pattern value → b ≡ paired_by r T pattern value
  paired_careful e is = rw e is

-- before the first field
module _ {literals total : ℕ} {r : FieldsSoFar} (e : r.end ≡ literals) where
  pub none_computed : literals < total → r.check ≡ Unknown → (paired : Bool) → NoFieldYet paired literals total r
  none_computed lt c paired = let t = lt-ltb literals total lt in record { check_is = rw t c; end_is = e }

  pub none_paired : total ≤ literals → {paired : Bool} → paired ≡ true → r.check ≡ Match → NoFieldYet paired literals total r
  none_paired le {paired} p c = let t = le-ltb literals total le in record { check_is = rw (t, p) c; end_is = e }

  pub none_alone : total ≤ literals → {paired : Bool} → paired ≡ false → r.check ≡ Unknown → NoFieldYet paired literals total r
  none_alone le {paired} p c = let t = le-ltb literals total le in record { check_is = rw (t, p) c; end_is = e }
