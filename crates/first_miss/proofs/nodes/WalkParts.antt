-- The items of two arrays and the fields of two objects, in turn.
use Prim.Native.Nat.{ℕ, suc, ◌+◌, ◌-◌, ◌*◌, ◌≤◌, ◌<◌}
use mathlib.Core.Path.{◌≡◌, sym, ap, ap₂, ◌∙◌}
use mathlib.Core.List.{List}
use mathlib.Core.Bool.{true, false, not}
use mathlib.Core.Option.{Option, some}
use native.Mathlib.Omega.{arith}
use mir.Val.{Fits}
use mir.Syntax.{w64}
use borrow.Author.Tests.{ne_eqb}
use Rattle.literal.specs.Literal.{Literal}
use Rattle.table.specs.Tables.{Tables, kind_of, first_word_of, count_of, child_at}
use Rattle.table.specs.Decode.{expr, items, fields, literal_at, fields_of}
use Rattle.table.specs.Expr.{node_of}
use Rattle.table.proofs.trees.Trees.{width_array, width_object}
use Rattle.planner.specs.code.Passes.{value_node}
use Rattle.value.specs.Value.{Value, value_of, values_of, value_fields_of, value_at, under}
use Rattle.value.specs.code.Post.{node_or_none, under_from, under_in, KeyedObject, ValueNode}
use Rattle.value.proofs.Admitted.{array_item, object_value, array_children, value_node_lem, admitted_value}
use Rattle.value.proofs.Under.{some_is, node_told, Fielded, object_fielded, found_field, found_value, key_of, position_fits, position_key_fits, position_value_fits}
use Rattle.matching.specs.Matching.{Env, under_key}
use Rattle.matching.specs.code.Post.{env_of, ListOk}
use Rattle.first_miss.specs.declared.Miss.{Miss}
use Rattle.first_miss.specs.declared.Why.TheVariants.{KeyMissing}
use Rattle.std.proofs.Common.{Some, Result, Ok, Err}
use Rattle.std.specs.Prelude as Prelude
use Rattle.std.specs.Option.{IsSome}
use Rattle.first_miss.specs.Miss.{MissOutcome, missed, miss_at, next, at}
use Rattle.first_miss.specs.Operations.{key_at}
use Rattle.first_miss.specs.code.Walk.{walk, walk_items, walk_fields}
use Rattle.first_miss.specs.code.Post.{PairAsks, WalkAsks, ItemsAsks, FieldsAsks, outcome_in, Came, walk_nodes, walk_listed, walk_under}
use Rattle.first_miss.proofs.nodes.WalkNodes.{left_keyed, right_keyed}

-- what is left, after a part that matches or misses
came_on : {T : Tables} {o : MissOutcome} {list : List ℕ} {r : Result Unit Miss} → Came T o list r → r ≡ Ok tt → (f : Env → MissOutcome) → next o f ≡ f (env_of T list)
came_on {T} {list = list} t e f = let q = t.is ∙ ap (outcome_in T list) e in rw q

came_fails : {T : Tables} {o : MissOutcome} {list : List ℕ} {r : Result Unit Miss} {m : Miss} → Came T o list r → r ≡ Err m → (f : Env → MissOutcome) → next o f ≡ missed m
came_fails {T} {list = list} t e f = let q = t.is ∙ ap (outcome_in T list) e in rw q

-- 1. Items
abbrev items_from : Tables → ℕ → ℕ → ℕ → ℕ → ℕ → Env → MissOutcome
items_from T a b start from k env = walk_items (key_at T) a b (items (expr T) T.children start k) (values_of (items (expr T) T.children from k)) env

pub record WalkingItems (T : Tables) (a b start from count i : ℕ) (list₀ list : List ℕ) : Type 0 where
  pub asks : ItemsAsks T a b list₀
  pub is_start : start ≡ first_word_of T.nodes a
  pub is_from : from ≡ first_word_of T.nodes b
  pub is_count : count ≡ count_of T.nodes a
  pub inside : i ≤ count
  pub list_ok : ListOk T list
  pub same : items_from T a b (start + i) (from + i) (count - i) (env_of T list) ≡ walk_listed T a b (env_of T list₀)

pub items_start : {T : Tables} {a b start from count : ℕ} {list : List ℕ} → ItemsAsks T a b list → start ≡ first_word_of T.nodes a → from ≡ first_word_of T.nodes b → count ≡ count_of T.nodes a → WalkingItems T a b start from count 0 list list
items_start {T} {a} {b} {start} {from} {count} {list} asks is of at =
    let x : start + 0 ≡ first_word_of T.nodes a = omega arith in
    let y : from + 0 ≡ first_word_of T.nodes b = omega arith in
    let z : count - 0 ≡ count_of T.nodes a = omega arith in
    let even = asks.even in
    record { asks = asks; is_start = is; is_from = of; is_count = at; inside = omega arith; list_ok = asks.asks.list_ok; same = rw (x, y, z) (rw even) }

module _ {T : Tables} {a b start from count i : ℕ} {list₀ list : List ℕ} (go : WalkingItems T a b start from count i list₀ list) where
  pair : PairAsks T a b
  pair = go.asks.asks.pair

  module _ (more : i < count) where
    left_small : start + i < 512
    left_small =
        let l = (array_children T pair.table a pair.node go.asks.left_array).listed in
        let few = pair.table.limits.children in
        let is = go.is_start in
        let of = go.is_count in
        omega arith

    right_small : from + i < 512
    right_small =
        let l = (array_children T pair.table b pair.value_ok.node go.asks.right_array).listed in
        let few = pair.table.limits.children in
        let even = go.asks.even in
        let is = go.is_from in
        let of = go.is_count in
        omega arith

    pub items_left_fits : Fits w64 (start + i)
    items_left_fits = let s = left_small in record { fits = omega arith }

    pub items_right_fits : Fits w64 (from + i)
    items_right_fits = let s = right_small in record { fits = omega arith }

    module _ {item part : ℕ} (is-item : item ≡ child_at T.children (start + i)) (is-part : part ≡ child_at T.children (from + i)) where
      pub items_ask : WalkAsks T item part list
      items_ask =
          let left = array_children T pair.table a pair.node go.asks.left_array in
          let right = array_children T pair.table b pair.value_ok.node go.asks.right_array in
          let even = go.asks.even in
          let of = go.is_count in
          let x = go.is_start in
          let y = go.is_from in
          record {
            pair = record {
              table = pair.table;
              node = rw is-item (rw x (left.each i (omega arith)));
              is_simple = rw is-item (rw x (array_item T pair.table a pair.node true pair.is_simple go.asks.left_array i (omega arith)));
              value_ok = rw is-part (rw y (admitted_value T (child_at T.children (first_word_of T.nodes b + i)) (right.each i (omega arith)) (array_item T pair.table b pair.value_ok.node false pair.value_ok.value go.asks.right_array i (omega arith))));
            };
            list_ok = go.list_ok;
          }

      pub items_fall : {t : ℕ} → 2 * a - 1 ≡ t → 2 * item < t
      items_fall e =
          let wide = width_array (kind_of T.nodes a) (count_of T.nodes a) go.asks.left_array in
          let of = go.is_count in
          let x = go.is_start in
          let lt : item < a = rw is-item (rw x (pair.table.below a pair.node i (omega arith)).1) in
          omega arith

      abbrev later_items : Env → MissOutcome
      later_items env = items_from T a b (start + (i + 1)) (from + (i + 1)) (count - (i + 1)) env

      items_step : next (walk_nodes T item part (env_of T list)) later_items ≡ walk_listed T a b (env_of T list₀)
      unfolding items value_of walk
      items_step =
          let e : count - i ≡ suc (count - (i + 1)) = omega arith in
          let x : start + i + 1 ≡ start + (i + 1) = omega arith in
          let y : from + i + 1 ≡ from + (i + 1) = omega arith in
          ap₂ (λ (m n : ℕ). next (walk_nodes T m n (env_of T list)) later_items) is-item is-part
          ∙ (sym (ap₂ (λ (m n : ℕ). next (walk_nodes T (child_at T.children (start + i)) (child_at T.children (from + i)) (env_of T list)) (λ env. items_from T a b m n (count - (i + 1)) env)) x y)
          ∙ (sym (ap (λ (k : ℕ). items_from T a b (start + i) (from + i) k (env_of T list)) e)
          ∙ go.same))

      module _ {list' : List ℕ} {r : Result Unit Miss} (t : Came T (walk_nodes T item part (env_of T list)) list' r) where
        pub items_fail : {m : Miss} → r ≡ Err m → Came T (walk_listed T a b (env_of T list₀)) list' (Err m)
        items_fail e = record { is = sym items_step ∙ came_fails t e later_items; list_ok = t.list_ok }

        pub items_on : r ≡ Ok tt → WalkingItems T a b start from count (i + 1) list₀ list'
        items_on e = record {
          asks = go.asks;
          is_start = go.is_start;
          is_from = go.is_from;
          is_count = go.is_count;
          inside = omega arith;
          list_ok = t.list_ok;
          same = sym (came_on t e later_items) ∙ items_step;
        }

  pub items_end : count ≤ i → Came T (walk_listed T a b (env_of T list₀)) list (Ok tt)
  unfolding items value_of walk
  items_end le = let z : count - i ≡ 0 = omega arith in record { is = sym (rw z at go.same); list_ok = go.list_ok }

-- 2. Fields
pub record WalkingFields (T : Tables) (a b first count i : ℕ) (list₀ list : List ℕ) : Type 0 where
  pub asks : FieldsAsks T a b list₀
  pub is_first : first ≡ first_word_of T.nodes a
  pub is_count : count ≡ count_of T.nodes a
  pub inside : i ≤ count
  pub list_ok : ListOk T list
  pub same : walk_fields (key_at T) b (fields (expr T) T.children (first + i * 2) (count - i)) (value_fields_of (fields_of T b)) (env_of T list) ≡ walk_under T a b (env_of T list₀)

pub fields_start : {T : Tables} {a b first count : ℕ} {list : List ℕ} → FieldsAsks T a b list → first ≡ first_word_of T.nodes a → count ≡ count_of T.nodes a → WalkingFields T a b first count 0 list list
fields_start {T} {a} {b} {first} {count} asks is of =
    let x : first + 0 * 2 ≡ first_word_of T.nodes a = omega arith in
    let z : count - 0 ≡ count_of T.nodes a = omega arith in
    record { asks = asks; is_first = is; is_count = of; inside = omega arith; list_ok = asks.asks.list_ok; same = rw (x, z) }

module _ {T : Tables} {a b first count i : ℕ} {list₀ list : List ℕ} (go : WalkingFields T a b first count i list₀ list) where
  pair_of : PairAsks T a b
  pair_of = go.asks.asks.pair

  first_keyed : KeyedObject T a
  first_keyed = left_keyed pair_of go.asks.left_object

  pub fields_object : KeyedObject T b
  fields_object = right_keyed pair_of go.asks.right_object

  module _ (more : i < count) where
    pub fields_twice : Fits w64 (i * 2)
    fields_twice = position_fits T a first_keyed go.is_first go.is_count more

    pub fields_place : Fits w64 (first + i * 2)
    fields_place = position_key_fits T a first_keyed go.is_first go.is_count more

    pub fields_value : Fits w64 (first + i * 2 + 1)
    fields_value = position_value_fits T a first_keyed go.is_first go.is_count more

    fielded : Fielded T first count
    fielded = rw (go.is_first, go.is_count) (object_fielded first_keyed)

    pub fields_fall : {value : ℕ} → value ≡ child_at T.children (first + i * 2 + 1) → {t : ℕ} → 2 * a - 1 ≡ t → 2 * value < t
    fields_fall {value} is-value e =
        let wide = width_object (kind_of T.nodes a) (count_of T.nodes a) go.asks.left_object in
        let of = go.is_count in
        let x : first_word_of T.nodes a + (i * 2 + 1) ≡ first + i * 2 + 1 = let is = go.is_first in omega arith in
        let lt : value < a = rw is-value (rw x at (pair_of.table.below a pair_of.node (i * 2 + 1) (omega arith)).1) in
        omega arith

    module _ {key value : ℕ} (is_key : key ≡ child_at T.children (first + i * 2)) (is-value : value ≡ child_at T.children (first + i * 2 + 1)) {found : Prelude.Option ℕ} (is-found : found ≡ node_or_none (under_in T b key)) where
      is_there : under_in T b key ≡ 0 → ⊥
      is_there z =
          let of = go.is_count in
          let x : key ≡ key_at T a i = is_key ∙ ap (λ (y : ℕ). child_at T.children (y + i * 2)) go.is_first in
          go.asks.covered i (omega arith) (ap (under_in T b) (sym x) ∙ z)

      -- the object has every key of the pattern
      pub fields_some : IsSome found
      fields_some = some_is (under_in T b key) is-found ∙ ap not (ne_eqb (under_in T b key) 0 is_there)

    module _ {key value : ℕ} (is_key : key ≡ child_at T.children (first + i * 2)) (is-value : value ≡ child_at T.children (first + i * 2 + 1)) {found : Prelude.Option ℕ} (is-found : found ≡ node_or_none (under_in T b key)) {part : ℕ} (some_part : found ≡ Some part) where
      is-part : part ≡ under_in T b key
      is-part = (node_told is-found some_part).0

      partner : ValueNode T part
      partner =
          let (j, lt, e) = found_field T (literal_at T key) (first_word_of T.nodes b) (count_of T.nodes b) (node_told is-found some_part).1 in
          rw is-part (rw e (admitted_value T (value_node T (first_word_of T.nodes b) j) (value_node_lem (object_fielded fields_object).asks j lt)
          (object_value T pair_of.table b pair_of.value_ok.node false pair_of.value_ok.value go.asks.right_object j lt)))

      pub fields_ask : WalkAsks T value part list
      fields_ask =
          let lt : i < count_of T.nodes a = rw (← go.is_count) more in
          record {
            pair = record {
              table = pair_of.table;
              node = rw is-value (rw go.is_first (value_node_lem (object_fielded first_keyed).asks i lt));
              is_simple = rw is-value (rw go.is_first (object_value T pair_of.table a pair_of.node true pair_of.is_simple go.asks.left_object i lt));
              value_ok = partner;
            };
            list_ok = go.list_ok;
          }

      abbrev later_fields : Env → MissOutcome
      later_fields env = walk_fields (key_at T) b (fields (expr T) T.children (first + (i + 1) * 2) (count - (i + 1))) (value_fields_of (fields_of T b)) env

      field_step : next (walk_nodes T value part (env_of T list)) later_fields ≡ walk_under T a b (env_of T list₀)
      unfolding fields walk
      field_step =
          let (l, d, q) = key_of T first count fielded i more in
          let e : count - i ≡ suc (count - (i + 1)) = omega arith in
          let x : first + i * 2 + 2 ≡ first + (i + 1) * 2 = omega arith in
          let z = ne_eqb (under_in T b key) 0 (node_told is-found some_part).1 in
          let here : value_at T (under_in T b key) ≡ some (value_of (expr T part)) = rw (z, is-part) in
          let there : under l (value_fields_of (fields_of T b)) ≡ some (value_of (expr T part)) =
          found_value T (first_word_of T.nodes b) (count_of T.nodes b) (object_fielded fields_object) l
          ∙ (ap (value_at T) (sym (ap (λ (o : Option Literal). under_from T o (first_word_of T.nodes b) (count_of T.nodes b)) (ap (λ (m : ℕ). literal_at T m) is_key ∙ d))) ∙ here) in
          let own = miss_at KeyMissing b (node_of (expr T (child_at T.children (first + i * 2)))) in
          ap₂ (λ (o : Option Value) (m : ℕ). at o own (λ v. next (walk (key_at T) (expr T m) v (env_of T list)) later_fields)) (sym there) is-value
          ∙ (ap₂ (λ (o : Option Literal) (p : ℕ). at (under_key o (value_fields_of (fields_of T b))) own (λ v. next (walk (key_at T) (expr T (child_at T.children (first + i * 2 + 1))) v (env_of T list))
          (λ env. walk_fields (key_at T) b (fields (expr T) T.children p (count - (i + 1))) (value_fields_of (fields_of T b)) env))) (sym q) (sym x)
          ∙ (sym (ap (λ (k : ℕ). walk_fields (key_at T) b (fields (expr T) T.children (first + i * 2) k) (value_fields_of (fields_of T b)) (env_of T list)) e)
          ∙ go.same))

      module _ {list' : List ℕ} {r : Result Unit Miss} (t : Came T (walk_nodes T value part (env_of T list)) list' r) where
        pub fields_fail : {m : Miss} → r ≡ Err m → Came T (walk_under T a b (env_of T list₀)) list' (Err m)
        fields_fail e = record { is = sym field_step ∙ came_fails t e later_fields; list_ok = t.list_ok }

        pub fields_on : r ≡ Ok tt → WalkingFields T a b first count (i + 1) list₀ list'
        fields_on e = record { asks = go.asks; is_first = go.is_first; is_count = go.is_count; inside = omega arith; list_ok = t.list_ok; same = sym (came_on t e later_fields) ∙ field_step }

  pub fields_end : count ≤ i → Came T (walk_under T a b (env_of T list₀)) list (Ok tt)
  unfolding fields walk
  fields_end le = let z : count - i ≡ 0 = omega arith in record { is = sym (rw z at go.same); list_ok = go.list_ok }
