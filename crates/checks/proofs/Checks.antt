-- The structure check by nodes: arrays item by item, objects field by field.
use Prim.Native.Nat.{ℕ, ◌+◌, ◌-◌, ◌*◌, ◌≤◌, ◌<◌}
use mathlib.Core.Path.{◌≡◌, refl, sym, ap, ◌∙◌}
use mathlib.Core.Bool.{Bool, true, false, cond, not}
use mathlib.Core.List.{List, [], ◌∷◌, map}
use native.Mathlib.Omega.{arith}
use borrow.Author.Tests.{eq-eqb, ne_eqb, eqb-true, eqb-false, not-true, not-false}
use lib.Dec.{eqb}
use lib.ListN.{length, length-map, length-append}
use mir.Syntax.{w64}
use mir.Val.{Fits}
use Rattle.table.specs.Tables.{Tables, kind_of, first_word_of, count_of, width, child_at}
use Rattle.table.specs.Expr.{Expr, literal, name, wildcard, array, set, object, other}
use Rattle.table.specs.Decode.{expr, literal_at, is_wildcard, fields_of}
use Rattle.table.specs.code.Sound.{Node, WellFormed}
use Rattle.table.proofs.trees.Trees.{expr_name, expr_array, expr_object, width_array, items_step, items_end, fields_step, fields_end, child_node, count_items}
use Rattle.planner.specs.Layout.{Slot, FieldOrder, held_in}
use Rattle.planner.specs.code.Passes.{key_node, value_node}
use Rattle.planner.specs.code.Ordering.{FieldsIn}
use Rattle.planner.proofs.destructuring.NodeKinds.{Plain, plain_literal, plain_set, plain_other, plain_kind}
use Rattle.planner.proofs.fields.FieldOrder.{map_slot}
use Rattle.planner.proofs.fields.Objects.{key_literal}
use Rattle.checks.specs.declared.LiteralStructureCheck.{LiteralStructureCheck}
use Rattle.checks.specs.declared.LiteralStructureCheck.TheVariants.{Match, Unknown, ArrayMismatch, ObjectMismatch}
use Rattle.checks.specs.declared.Reading.{Reading}
use Rattle.checks.specs.Joining.{joined}
use Rattle.checks.specs.Structure.{field_checks, object_structure, slot_text, key_texts, sort_texts, same_texts, same_keys, structure, item_checks, value_fields}
use Rattle.checks.specs.code.Joins.{is_settled}
use Rattle.planner.specs.Held.{is_empty}
use Rattle.planner.specs.code.Post.{GoodPair}
use Rattle.checks.specs.code.Post.{items_at, items_structure, ItemsAsks, ObjectsAsks, order_of_node, patterns_of, KeysCompared, FieldsAsks, fields_structure, values_from}
use Rattle.checks.proofs.Joins.{two, join_one, join_match, join_settled, join_two}
use Rattle.checks.proofs.PatternObjects.{object_key, patterns_are}

-- arrays and objects by their kinds
unfoldable shape : Expr → ℕ
shape (literal n l) = 0
shape (name n x) = 0
shape (wildcard n) = 0
shape (array n es) = 7
shape (set n es) = 0
shape (object n fs) = 9
shape (other n) = 0

unlike : (r : Reading) (v p : Expr) → (shape v ≡ shape p → ⊥) → Unknown ≡ structure r v p
unfolding shape structure
unlike r (literal n l) p d = refl
unlike r (name n x) p d = refl
unlike r (wildcard n) p d = refl
unlike r (array n es) (literal m l) d = refl
unlike r (array n es) (name m x) d = refl
unlike r (array n es) (wildcard m) d = refl
unlike r (array n es) (array m ps) d = absurd (d refl)
unlike r (array n es) (set m ps) d = refl
unlike r (array n es) (object m gs) d = refl
unlike r (array n es) (other m) d = refl
unlike r (set n es) p d = refl
unlike r (object n fs) (literal m l) d = refl
unlike r (object n fs) (name m x) d = refl
unlike r (object n fs) (wildcard m) d = refl
unlike r (object n fs) (array m ps) d = refl
unlike r (object n fs) (set m ps) d = refl
unlike r (object n fs) (object m gs) d = absurd (d refl)
unlike r (object n fs) (other m) d = refl
unlike r (other n) p d = refl

leaf_unknown : (r : Reading) (v p : Expr) → shape v ≡ 0 → Unknown ≡ structure r v p
unfolding shape structure
leaf_unknown r (literal n l) p e = refl
leaf_unknown r (name n x) p e = refl
leaf_unknown r (wildcard n) p e = refl
leaf_unknown r (array n es) p e = absurd (omega arith)
leaf_unknown r (set n es) p e = refl
leaf_unknown r (object n fs) p e = absurd (omega arith)
leaf_unknown r (other n) p e = refl

module _ (T : Tables) (w : WellFormed T) (n : ℕ) (v : Node T n) where
  shape_leaf : (kind_of T.nodes n ≡ 7 → ⊥) → (kind_of T.nodes n ≡ 9 → ⊥) → shape (expr T n) ≡ 0
  unfolding shape
  shape_leaf not-7 not-9 = go (eqb (kind_of T.nodes n) 6) refl (is_wildcard T (first_word_of T.nodes n)) refl
    where
      plain : (e : Expr) → expr T n ≡ e → Plain (kind_of T.nodes n) n e → shape (expr T n) ≡ 0
      plain e q (plain_literal l h) = ap shape q
      plain e q (plain_set es h) = ap shape q
      plain e q (plain_other h) = ap shape q

      go : (a : Bool) → eqb (kind_of T.nodes n) 6 ≡ a → (b : Bool) → is_wildcard T (first_word_of T.nodes n) ≡ b → shape (expr T n) ≡ 0
      go true p true q = let tree : expr T n ≡ wildcard n = expr_name T w n v (eqb-true _ _ p) ∙ simp q in ap shape tree
      go true p false q = let tree : expr T n ≡ name n (first_word_of T.nodes n) = expr_name T w n v (eqb-true _ _ p) ∙ simp q in ap shape tree
      go false p b q = let k = plain_kind T w n v (eqb-false _ _ p) not-7 not-9 in plain k.0 k.1 k.2

  shape_array : kind_of T.nodes n ≡ 7 → shape (expr T n) ≡ 7
  unfolding shape
  shape_array k = ap shape (expr_array T w n v k)

  shape_object : kind_of T.nodes n ≡ 9 → shape (expr T n) ≡ 9
  unfolding shape
  shape_object k = ap shape (expr_object T w n v k)

  -- a node of a shape has the kind
  kind_of_shape : (k : ℕ) → shape (expr T n) ≡ k → (k ≡ 0 → ⊥) → kind_of T.nodes n ≡ k
  kind_of_shape k e some = go (eqb (kind_of T.nodes n) 7) refl (eqb (kind_of T.nodes n) 9) refl
    where
      go : (a : Bool) → eqb (kind_of T.nodes n) 7 ≡ a → (b : Bool) → eqb (kind_of T.nodes n) 9 ≡ b → kind_of T.nodes n ≡ k
      go true p b q = let i = eqb-true _ _ p in i ∙ (sym (shape_array i) ∙ e)
      go false p true q = let i = eqb-true _ _ q in i ∙ (sym (shape_object i) ∙ e)
      go false p false q = absurd (some (sym e ∙ shape_leaf (eqb-false _ _ p) (eqb-false _ _ q)))

module _ {T : Tables} {pattern value : ℕ} (a : GoodPair T pattern value) {kind other-kind : ℕ} (is-kind : kind ≡ kind_of T.nodes value) (is-other : other-kind ≡ kind_of T.nodes pattern) where
  pub kinds_differ : (r : Reading) → (other-kind ≡ kind → ⊥) → Unknown ≡ structure r (expr T value) (expr T pattern)
  kinds_differ r d = go (eqb (shape (expr T value)) 0) refl
    where
      go : (b : Bool) → eqb (shape (expr T value)) 0 ≡ b → Unknown ≡ structure r (expr T value) (expr T pattern)
      go true p = leaf_unknown r (expr T value) (expr T pattern) (eqb-true _ _ p)
      go false p =
          let some = eqb-false _ _ p in
          unlike r (expr T value) (expr T pattern) (λ e. d (is-other
          ∙ (kind_of_shape T a.table pattern a.first (shape (expr T value)) (sym e) some
          ∙ (sym (kind_of_shape T a.table value a.second (shape (expr T value)) refl some) ∙ sym is-kind))))

  pub kinds_plain : (r : Reading) → (kind ≡ 7 → ⊥) → (kind ≡ 9 → ⊥) → Unknown ≡ structure r (expr T value) (expr T pattern)
  kinds_plain r not-7 not-9 = leaf_unknown r (expr T value) (expr T pattern) (shape_leaf T a.table value a.second (λ e. not-7 (is-kind ∙ e)) (λ e. not-9 (is-kind ∙ e)))

  module _ (alike : other-kind ≡ kind) where
    pub ask_objects : kind ≡ 9 → ObjectsAsks T pattern value
    ask_objects k = record { pair = a; pattern_object = sym is-other ∙ (alike ∙ k); value_object = sym is-kind ∙ k }

    module _ (k : kind ≡ 7) {expected actual : ℕ} (is-expected : expected ≡ count_of T.nodes pattern) (is-actual : actual ≡ count_of T.nodes value) where
      pattern_array : kind_of T.nodes pattern ≡ 7
      pattern_array = sym is-other ∙ (alike ∙ k)

      value_array : kind_of T.nodes value ≡ 7
      value_array = sym is-kind ∙ k

      arrays : (r : Reading) → structure r (expr T value) (expr T pattern)
          ≡ cond (eqb actual expected) (joined r (item_checks r (items_at T (first_word_of T.nodes value) actual) (items_at T (first_word_of T.nodes pattern) expected))) (ArrayMismatch value expected actual)
      unfolding structure
      arrays r =
          let p = expr_array T a.table pattern a.first pattern_array in
          let v = expr_array T a.table value a.second value_array in
          let c = count_items (expr T) T.children (first_word_of T.nodes pattern) expected in
          let d = count_items (expr T) T.children (first_word_of T.nodes value) actual in
          rw (p, v, ← is-expected, ← is-actual, c, d)

      pub arrays_mismatch : (r : Reading) → (actual ≡ expected → ⊥) → ArrayMismatch value expected actual ≡ structure r (expr T value) (expr T pattern)
      arrays_mismatch r d = sym (arrays r ∙ simp (ne_eqb actual expected d))

      module _ (even : actual ≡ expected) {at place : ℕ} (is_at : at ≡ first_word_of T.nodes pattern) (is-place : place ≡ first_word_of T.nodes value) where
        child : (n : ℕ) (v : Node T n) → kind_of T.nodes n ≡ 7 → (i : ℕ) → i < count_of T.nodes n → Node T (child_at T.children (first_word_of T.nodes n + i)) × (child_at T.children (first_word_of T.nodes n + i) < n)
        child n v is_array i lt =
            let e = width_array (kind_of T.nodes n) (count_of T.nodes n) is_array in
            let in-width : i < width T.nodes n = omega arith in
            (child_node T a.table n v i in-width, (a.table.below n v i in-width).1)

        few : (n : ℕ) → Node T n → kind_of T.nodes n ≡ 7 → first_word_of T.nodes n + count_of T.nodes n ≤ 512
        few n v is_array =
            let e = width_array (kind_of T.nodes n) (count_of T.nodes n) is_array in
            let h = a.table.listed n v (omega arith) (omega arith) in
            let c = a.table.limits.children in
            omega arith

        pub ask_items : ItemsAsks T value at place actual
        ask_items =
            let x = few pattern a.first pattern_array in
            let y = few value a.second value_array in
            record {
              table = a.table;
              patterns = λ i lt. rw is_at (child pattern a.first pattern_array i (omega arith)).0;
              values = λ i lt. rw is-place (child value a.second value_array i (omega arith));
              small = (omega arith, omega arith);
            }

        pub arrays_done : (r : Reading) {c : LiteralStructureCheck} → c ≡ items_structure r T place at actual → c ≡ structure r (expr T value) (expr T pattern)
        arrays_done r e =
            let q = eq-eqb actual expected even in
            (rw (is_at, is-place) at e) ∙ sym (arrays r ∙ rw (q, even))

-- the items in turn
pub record CheckingItems (r : Reading) (T : Tables) (value at place left : ℕ) (so_far : LiteralStructureCheck) (i : ℕ) : Type 0 where
  pub asks : ItemsAsks T value at place left
  pub inside : i ≤ left
  pub same : joined r (so_far ∷ item_checks r (items_at T (place + i) (left - i)) (items_at T (at + i) (left - i))) ≡ items_structure r T place at left

pub items_start : (r : Reading) {T : Tables} {value at place left : ℕ} → ItemsAsks T value at place left → CheckingItems r T value at place left Match 0
items_start r {T} {value} {at} {place} {left} a =
    let x : place + 0 ≡ place = omega arith in
    let y : at + 0 ≡ at = omega arith in
    let z : left - 0 ≡ left = omega arith in
    record { asks = a; inside = omega arith; same = rw (x, y, z) (join_match r _) }

module _ {r : Reading} {T : Tables} {value at place left : ℕ} {so_far : LiteralStructureCheck} {i : ℕ} (s : CheckingItems r T value at place left so_far i) where
  pub items_pattern_fits : i < left → Fits w64 (at + i)
  items_pattern_fits lt = let m = s.asks.small.0 in record { fits = omega arith }

  pub items_value_fits : i < left → Fits w64 (place + i)
  items_value_fits lt = let m = s.asks.small.1 in record { fits = omega arith }

  pub items_next : i < left → Fits w64 (i + 1)
  items_next lt = let m = s.asks.small.0 in record { fits = omega arith }

  module _ (lt : i < left) {pattern item : ℕ} (is_pattern : pattern ≡ child_at T.children (at + i)) (is-item : item ≡ child_at T.children (place + i)) where
    pub items_pair : GoodPair T pattern item
    items_pair = record {
      table = s.asks.table;
      first = rw is_pattern (s.asks.patterns i lt);
      second = rw is-item (s.asks.values i lt).0;
    }

    pub items_below : item < value
    items_below = rw is-item (s.asks.values i lt).1

    module _ {check : LiteralStructureCheck} (is-check : check ≡ structure r (expr T item) (expr T pattern)) {later : LiteralStructureCheck} (is_later : later ≡ two r so_far check) {settled : Bool} (is-settled : settled ≡ is_settled r later) where
      step : joined r (later ∷ item_checks r (items_at T (place + (i + 1)) (left - (i + 1))) (items_at T (at + (i + 1)) (left - (i + 1)))) ≡ items_structure r T place at left
      unfolding structure
      step =
          let x : place + (i + 1) ≡ place + i + 1 = omega arith in
          let y : at + (i + 1) ≡ at + i + 1 = omega arith in
          let z : left - (i + 1) ≡ left - i - 1 = omega arith in
          let v = items_step (expr T) T.children (place + i) (left - i) (omega arith) in
          let p = items_step (expr T) T.children (at + i) (left - i) (omega arith) in
          rw (x, y, z, is_later) (sym (join_two r so_far check _) ∙ rw (is-check, is_pattern, is-item) (sym (rw (v, p)) ∙ s.same))

      pub items_on : settled ≡ false → CheckingItems r T value at place left later (i + 1)
      items_on e = record { asks = s.asks; inside = omega arith; same = step }

      pub items_stop : settled ≡ true → later ≡ items_structure r T place at left
      items_stop e = sym (join_settled r later _ (sym is-settled ∙ e)) ∙ step

  pub items_done : left ≤ i → so_far ≡ items_structure r T place at left
  unfolding structure
  items_done le =
      let v = items_end (expr T) T.children (place + i) (left - i) (omega arith) in
      sym (join_one r so_far) ∙ (sym (rw v) ∙ s.same)

-- two objects

empty_none : {A : Type 0} (l : List A) → length l ≡ 0 → is_empty l ≡ true
empty_none [] e = refl
empty_none (a ∷ l) e = absurd (omega arith)

empty_some : {A : Type 0} (l : List A) → (length l ≡ 0 → ⊥) → is_empty l ≡ false
empty_some [] d = absurd (d refl)
empty_some (a ∷ l) d = refl

texts_mapped : (f : ℕ → Expr) (ss : List (Slot ℕ)) → map slot_text (map (map_slot f) ss) ≡ map slot_text ss
texts_mapped f [] = refl
texts_mapped f (s ∷ ss) = ap (λ (ts : List (List ℕ)). slot_text s ∷ ts) (texts_mapped f ss)

-- the sizes of a pattern's order
module _ {T : Tables} {pattern value : ℕ} (a : ObjectsAsks T pattern value) {order : List ℕ} {m total : ℕ}
    (o : FieldsIn T (first_word_of T.nodes pattern) (count_of T.nodes pattern) order m total) where
  literals_length : length (patterns_of T pattern).literals ≡ m
  literals_length =
      ap (λ (x : FieldOrder Expr). length x.literals) (patterns_are T a.pair.table pattern a.pair.first a.pattern_object)
      ∙ (length-map (order_of_node T pattern).literals _ ∙ sym o.counted)

  computed_length : m + length (patterns_of T pattern).computed ≡ total
  computed_length =
      let c = ap (λ (x : FieldOrder Expr). length x.computed) (patterns_are T a.pair.table pattern a.pair.first a.pattern_object)
      ∙ length-map (order_of_node T pattern).computed _ in
      let k = o.counted in
      let s = o.sized in
      let h = length-map (order_of_node T pattern).literals held_in in
      let x = length-append (map held_in (order_of_node T pattern).literals) (order_of_node T pattern).computed in
      omega arith

  pub last_unknown : m < total → is_empty (patterns_of T pattern).computed ≡ false
  last_unknown lt = let c = computed_length in empty_some (patterns_of T pattern).computed (λ e. omega arith)

  pub last_match : total ≤ m → is_empty (patterns_of T pattern).computed ≡ true
  last_match le = let c = computed_length in empty_none (patterns_of T pattern).computed (omega arith)

module _ (r : Reading) {T : Tables} {pattern value : ℕ} (a : ObjectsAsks T pattern value) {order : List ℕ} {literals total : ℕ} {same : Bool} (k : KeysCompared T pattern value order literals total same) where
  objects : structure r (expr T value) (expr T pattern) ≡ object_structure value pattern (fields_of T value) (patterns_of T pattern) (joined r (field_checks r (patterns_of T pattern).literals (value_fields r (fields_of T value))))
  unfolding structure
  objects =
      let p = expr_object T a.pair.table pattern a.pair.first a.pattern_object in
      let v = expr_object T a.pair.table value a.pair.second a.value_object in
      rw (p, v)

  pub objects_empty : total ≡ 0 → Match ≡ structure r (expr T value) (expr T pattern)
  objects_empty z =
      let c = computed_length a k.ordered in
      let l = literals_length a k.ordered in
      let x = empty_none (patterns_of T pattern).literals (omega arith) in
      let y = empty_none (patterns_of T pattern).computed (omega arith) in
      sym (objects ∙ rw (x, y))

  pub objects_unknown : (total ≡ 0 → ⊥) → literals ≡ 0 → Unknown ≡ structure r (expr T value) (expr T pattern)
  objects_unknown d z =
      let c = computed_length a k.ordered in
      let l = literals_length a k.ordered in
      let x = empty_none (patterns_of T pattern).literals (omega arith) in
      let y = empty_some (patterns_of T pattern).computed (λ e. d (omega arith)) in
      sym (objects ∙ rw (x, y))

  module _ (some : literals ≡ 0 → ⊥) where
    keys_held : structure r (expr T value) (expr T pattern) ≡ cond same (fields_structure r T pattern value) (ObjectMismatch value pattern)
    keys_held =
        let l = literals_length a k.ordered in
        let x = empty_some (patterns_of T pattern).literals (λ e. some (omega arith)) in
        let slots = ap (λ (o : FieldOrder Expr). map slot_text o.literals) (patterns_are T a.pair.table pattern a.pair.first a.pattern_object) ∙ texts_mapped _ (order_of_node T pattern).literals in
        let e : same_keys (patterns_of T pattern).literals (fields_of T value) ≡ same =
        ap (λ (ts : List (List ℕ)). same_texts (sort_texts ts) (sort_texts (key_texts (fields_of T value)))) slots ∙ sym k.same_texts_lem in
        objects ∙ rw (x, e)

    pub objects_fields : not same ≡ false → {c : LiteralStructureCheck} → c ≡ fields_structure r T pattern value → c ≡ structure r (expr T value) (expr T pattern)
    objects_fields t e = e ∙ sym (keys_held ∙ ap (λ (b : Bool). cond b (fields_structure r T pattern value) (ObjectMismatch value pattern)) (not-false same t))

    pub objects_differ : not same ≡ true → ObjectMismatch value pattern ≡ structure r (expr T value) (expr T pattern)
    objects_differ f = sym (keys_held ∙ ap (λ (b : Bool). cond b (fields_structure r T pattern value) (ObjectMismatch value pattern)) (not-true same f))

pub ask_fields : {T : Tables} {pattern value : ℕ} → ObjectsAsks T pattern value → {order : List ℕ} {literals total : ℕ} {same : Bool} → KeysCompared T pattern value order literals total same → FieldsAsks T pattern value order literals total
ask_fields a k = record { objects = a; ordered = k.ordered; few = k.few }

-- the value's fields
module _ (r : Reading) {T : Tables} {pattern value : ℕ} (a : ObjectsAsks T pattern value) where
  pub values_step : (i : ℕ) → i < count_of T.nodes value
      → values_from r T value i (count_of T.nodes value - i) ≡ record { key = literal_at T (key_node T (first_word_of T.nodes value) i); against = structure r (expr T (value_node T (first_word_of T.nodes value) i)) } ∷ values_from r T value (i + 1) (count_of T.nodes value - (i + 1))
  unfolding structure
  values_step i lt =
      let x : first_word_of T.nodes value + (i + 1) * 2 ≡ first_word_of T.nodes value + i * 2 + 2 = omega arith in
      let z : count_of T.nodes value - (i + 1) ≡ count_of T.nodes value - i - 1 = omega arith in
      let v = fields_step (expr T) T.children (first_word_of T.nodes value + i * 2) (count_of T.nodes value - i) (omega arith) in
      let l = key_literal T a.pair.table (key_node T (first_word_of T.nodes value) i) (object_key T a.pair.table value a.pair.second a.value_object i lt) in
      rw (x, z, v, l)

  pub values_none : (i : ℕ) → count_of T.nodes value ≤ i → values_from r T value i (count_of T.nodes value - i) ≡ []
  unfolding structure
  values_none i le = let v = fields_end (expr T) T.children (first_word_of T.nodes value + i * 2) (count_of T.nodes value - i) (omega arith) in rw v

  pub values_all : values_from r T value 0 (count_of T.nodes value - 0) ≡ value_fields r (fields_of T value)
  values_all =
      let x : first_word_of T.nodes value + 0 * 2 ≡ first_word_of T.nodes value = omega arith in
      let z : count_of T.nodes value - 0 ≡ count_of T.nodes value = omega arith in
      rw (x, z)

-- the measures, by the value's node: of a pair, of two objects, of items or fields, of one field
pub object_falls : {T : Tables} {pattern value t : ℕ} → GoodPair T pattern value → 4 * value ≡ t → 4 * value - 1 < t
object_falls a e = let l = a.second.low in omega arith

pub items_fall : {T : Tables} {pattern value t : ℕ} → GoodPair T pattern value → 4 * value ≡ t → 4 * value - 2 < t
items_fall a e = let l = a.second.low in omega arith

pub fields_fall : {T : Tables} {pattern value t : ℕ} → ObjectsAsks T pattern value → 4 * value - 1 ≡ t → 4 * value - 2 < t
fields_fall a e = let l = a.pair.second.low in omega arith

pub field_falls : {T : Tables} {pattern value : ℕ} {order : List ℕ} {literals total t : ℕ} → FieldsAsks T pattern value order literals total → 4 * value - 2 ≡ t → 4 * value - 3 < t
field_falls a e = let l = a.objects.pair.second.low in omega arith

pub item_falls : {child value t : ℕ} → child < value → 4 * value - 2 ≡ t → 4 * child < t
item_falls lt e = omega arith

pub child_falls : {child value t : ℕ} → child < value → 4 * value - 3 ≡ t → 4 * child < t
child_falls lt e = omega arith
