-- The items of an array and the fields of an object, taken as written.
use Prim.Native.Nat.{ℕ, zero, suc, ◌+◌, ◌-◌, ◌*◌, ◌≤◌, ◌<◌}
use mathlib.Core.Path.{◌≡◌, refl, sym, ap, ap₂, subst, ◌∙◌}
use mathlib.Core.List.{List, ◌∷◌}
use mathlib.Core.Bool.{Bool, true, false, not, false≢true}
use mathlib.Core.Option.{Option, some}
use native.Mathlib.Omega.{arith}
use mir.Val.{Fits}
use mir.Syntax.{w64}
use borrow.Author.Tests.{eq-eqb, ne_eqb, not-true, not-false}
use lib.ListN.{get_or, drop}
use lib.Seq.{get_or-drop, drop-drop}
use Rattle.std.specs.Prelude.{Some}
use Rattle.std.specs.Prelude as Prelude
use Rattle.std.specs.Option.{IsSome}
use Rattle.literal.specs.Literal.{Literal}
use Rattle.table.specs.Tables.{Tables, kind_of, first_word_of, count_of, child_at}
use Rattle.table.specs.Decode.{expr, items, fields, literal_at, fields_of}
use Rattle.table.specs.Expr.{Expr, array, object, node_of, depth}
use Rattle.table.specs.code.Sound.{Node, WellFormed}
use Rattle.table.proofs.tests.Bools.{and_true, told_no, told_yes}
use Rattle.table.proofs.trees.Trees.{expr_array, expr_object}
use Rattle.planner.specs.Layout.{Place, below, entry_words, literal_key}
use Rattle.planner.specs.code.Passes.{key_node, value_node}
use Rattle.planner.specs.code.Post.{pattern_words}
use Rattle.planner.specs.Plan.{array_plan, object_plan, Plans, FieldPlans, plan, plans, field_plans, after}
use Rattle.planner.specs.Simple.{keys_of, simple}
use Rattle.planner.proofs.fields.Objects.{node_of_lem}
use Rattle.value.specs.Value.{Value, value_of, values_of, value_fields_of, value_at, under, within, same_key_sets}
use Rattle.value.specs.code.Post.{node_or_none, under_from, under_in, KeyedObject, KeySetsAsks, ValueNode}
use Rattle.value.proofs.Keys.{is_true, true_is, within→}
use Rattle.value.proofs.Admitted.{value_keys, array_item, object_value, array_children, object_children, key-node, value_node_lem, keyed_object, admitted_value}
use Rattle.value.proofs.Under.{some_is, node_told, object_fielded, key_of, found_field, found_key, found_value, has_key_at}
use Rattle.value.proofs.SameValues.{ValueShape, value_literal, value_array, value_object, value_shape}
use Rattle.matching.specs.Matching.{Env, MatchOutcome, missed, fault, provided, next, at as at·, under_key, same_length, run, run_items, run_fields}
use Rattle.matching.specs.Reading.{PlacedPlan, standing}
use Rattle.matching.specs.code.Post.{node_at, env_of, ListOk, run_at, StandsAt, EntryAsks, PartsAsks, ItemsAsks, FieldsAsks, Came}
use Rattle.matching.proofs.Patterns.{item_deep, value_deep}
use Rattle.matching.proofs.Lists.{node_value}
use Rattle.matching.proofs.Standing.{stands_run, stands_inside, stands_node, stands_key}
use Rattle.matching.proofs.Entries.{missed_came, matched_came, runs, items_long, fields_long}
use Rattle.matching.proofs.reading.WrittenOrder.{fields_from}
use Rattle.matching.proofs.reading.ReadBack.{items_from}
use Rattle.matching.proofs.reading.PlanTold.{plan_keys_lem, plan_told}
use Rattle.matching.proofs.reading.Tails.{no_placed}
use Rattle.matching.proofs.reading.LinkedFields.{field_linked, item_linked}

-- lengths of items
even_length : (u : ℕ → Bool) (g : ℕ → Expr) (ch : List ℕ) (place k from : ℕ) (seen : List ℕ) → same_length (plans u (items g ch place k) seen) (values_of (items g ch from k)) ≡ true
unfolding same_length plan items value_of
even_length u g ch place zero from seen = refl
even_length u g ch place (suc k) from seen = even_length u g ch (place + 1) k (from + 1) (after u (g (child_at ch place)) seen)

uneven_length : (u : ℕ → Bool) (g : ℕ → Expr) (ch : List ℕ) (place k from m : ℕ) (seen : List ℕ) → (m ≡ k → ⊥) → same_length (plans u (items g ch place k) seen) (values_of (items g ch from m)) ≡ false
unfolding same_length plan items value_of
uneven_length u g ch place zero from zero seen uneven = absurd (uneven refl)
uneven_length u g ch place zero from (suc m) seen uneven = refl
uneven_length u g ch place (suc k) from zero seen uneven = refl
uneven_length u g ch place (suc k) from (suc m) seen uneven = uneven_length u g ch (place + 1) k (from + 1) m (after u (g (child_at ch place)) seen) (λ e. uneven (ap suc e))

-- what comes of a part, and of the rest after it
came_on : {T : Tables} {o : MatchOutcome} {after : List ℕ} {r : Bool} → Came T o after r → not r ≡ false → (f : Env → MatchOutcome) → next o f ≡ f (env_of T after)
came_on {T} {o} {after} {r} c t f = let e = c.hit (not-false r t) in rw e

came_fails : {T : Tables} {o : MatchOutcome} {after : List ℕ} {r : Bool} → Came T o after r → not r ≡ true → (f : Env → MatchOutcome) → next o f ≡ missed
came_fails {T} {o} {after} {r} c t f = let e = c.miss (not-true r t) in rw e

-- a part of an array or an object, found by its position
module _ {T : Tables} {scratch starts links : List ℕ} {at value : ℕ} (rest : ℕ) {before : List ℕ} (a : EntryAsks T scratch starts links at value (rest + 1) before)
    (m : ℕ) (v : Node T m) (is : simple (expr T m) ≡ true) (deep : depth (expr T m) ≤ rest) (seen : List ℕ) (place : Place) {child : ℕ} (stands : StandsAt scratch a.size child (standing (plan a.unbound (expr T m) seen) place)) where
  child_node : node_at scratch child ≡ m
  child_node = stands_node a.unbound (expr T m) seen place stands ∙ node_of_lem T a.table m v

  child_key : get_or scratch (child * entry_words + 3) 0 ≡ place.key
  child_key = stands_key a.unbound (expr T m) seen place stands

  child_inside : child < 512
  child_inside = let l = stands_inside a.unbound (expr T m) seen place stands in let f = a.few in omega arith

  module _ (part : ℕ) (here : List ℕ) where
    child_run : run_at T scratch child part here ≡ run (plan a.unbound (expr T m) seen) (value_of (expr T part)) (env_of T here)
    child_run = stands_run T a.table a.unbound m v is seen place a.few stands part here

    child_asks : ValueNode T part → ListOk T here → (run (plan a.unbound (expr T m) seen) (value_of (expr T part)) (env_of T here) ≡ fault → ⊥) → EntryAsks T scratch starts links child part rest here
    child_asks part_ok ok no_fault = record {
      inside = child_inside;
      table = a.table;
      size = a.size;
      few = a.few;
      linked = a.linked;
      unbound = a.unbound;
      seen = seen;
      place = place;
      stands = rw child_node stands;
      node = rw child_node v;
      is_simple = rw child_node is;
      deep = rw child_node deep;
      value_ok = part_ok;
      list_ok = ok;
      no_fault = λ e. no_fault (sym child_run ∙ e);
    }

-- the place of a child's link
module _ {kind : ℕ} {T : Tables} {scratch starts links : List ℕ} {at count value rest : ℕ} {list : List ℕ} (a : PartsAsks kind T scratch starts links at count value rest list) where
  module _ {start i : ℕ} (is_start : start ≡ get_or starts at 0) (more : i < count) where
    entry_in_size : at < a.asks.size
    entry_in_size = stands_inside a.asks.unbound (expr T (node_at scratch at)) a.asks.seen a.asks.place a.asks.stands

    link_place : start + i < 512
    link_place =
        let l = (a.asks.linked.at at entry_in_size).inside in
        let c = a.linked_count in
        omega arith

-- arrays
module _ {T : Tables} {scratch starts links : List ℕ} {at count value rest : ℕ} {list : List ℕ} (a : ItemsAsks T scratch starts links at count value rest list) where
  abbrev node : ℕ
  node = node_at scratch at

  abbrev patterns : Plans
  patterns = plans a.asks.unbound (items (expr T) T.children (first_word_of T.nodes node) (count_of T.nodes node)) a.asks.seen

  node_array : expr T node ≡ array node (items (expr T) T.children (first_word_of T.nodes node) (count_of T.nodes node))
  node_array = expr_array T a.asks.table node a.asks.node a.kind_is

  runs_array : run_at T scratch at value list ≡ run (array_plan node patterns) (value_of (expr T value)) (env_of T list)
  unfolding plan
  runs_array = runs a.asks ∙ ap (λ (e : Expr). run (plan a.asks.unbound e a.asks.seen) (value_of (expr T value)) (env_of T list)) node_array

  pub not_array : {k : ℕ} → k ≡ kind_of T.nodes value → (k ≡ 7 → ⊥) → Came T (run_at T scratch at value list) list false
  unfolding run value_of
  not_array is unlike = let s = value_shape T a.asks.table value a.asks.value_ok in missed_came T a.asks.list_ok (runs_array ∙ go s.0 s.1 s.2)
    where
      go : (e : Expr) → expr T value ≡ e → ValueShape T value e → run (array_plan node patterns) (value_of (expr T value)) (env_of T list) ≡ missed
      go e q (value_literal l h) = rw q
      go e q (value_array h) = absurd (unlike (is ∙ h))
      go e q (value_object h) = rw q

  module _ {k : ℕ} (is : k ≡ kind_of T.nodes value) (seven : k ≡ 7) where
    value_is_lem : expr T value ≡ array value (items (expr T) T.children (first_word_of T.nodes value) (count_of T.nodes value))
    value_is_lem = expr_array T a.asks.table value a.asks.value_ok.node (sym is ∙ seven)

    runs_items : run_at T scratch at value list
        ≡ provided (same_length patterns (values_of (items (expr T) T.children (first_word_of T.nodes value) (count_of T.nodes value)))) (run_items patterns (values_of (items (expr T) T.children (first_word_of T.nodes value) (count_of T.nodes value))) (env_of T list))
    unfolding run value_of
    runs_items = runs_array ∙ rw value_is_lem

    pub uneven_items : {other : ℕ} → other ≡ count_of T.nodes value → (other ≡ count → ⊥) → Came T (run_at T scratch at value list) list false
    uneven_items is-other uneven =
        let counted = a.counted in
        let u = uneven_length a.asks.unbound (expr T) T.children (first_word_of T.nodes node) (count_of T.nodes node) (first_word_of T.nodes value) (count_of T.nodes value) a.asks.seen (λ e. uneven (omega arith)) in
        missed_came T a.asks.list_ok (runs_items ∙ rw u)

-- what is left of the items is carried out with the names that are planned by then
pub record TakingItems (T : Tables) (scratch starts links : List ℕ) (at count value rest : ℕ) (before : List ℕ) (start from i : ℕ) (here : List ℕ) : Type 0 where
  pub asks : ItemsAsks T scratch starts links at count value rest before
  pub value_array : kind_of T.nodes value ≡ 7
  pub even : count_of T.nodes value ≡ count
  pub is_start : start ≡ get_or starts at 0
  pub is_from : from ≡ first_word_of T.nodes value
  pub inside : i ≤ count
  pub list_ok : ListOk T here
  pub seen : List ℕ
  pub left : drop i (items_from (patterns asks) 1) ≡ items_from (plans asks.asks.unbound (items (expr T) T.children (first_word_of T.nodes (node_at scratch at) + i) (count - i)) seen) (1 + i)
  pub same_left : run_items (plans asks.asks.unbound (items (expr T) T.children (first_word_of T.nodes (node_at scratch at) + i) (count - i)) seen) (values_of (items (expr T) T.children (from + i) (count - i))) (env_of T here) ≡ run_at T scratch at value before

pub taking_start : {T : Tables} {scratch starts links : List ℕ} {at count value rest : ℕ} {list : List ℕ} {start from : ℕ} → ItemsAsks T scratch starts links at count value rest list
    → {k : ℕ} → k ≡ kind_of T.nodes value → k ≡ 7 → {other : ℕ} → other ≡ count_of T.nodes value → other ≡ count → start ≡ get_or starts at 0 → from ≡ first_word_of T.nodes value
    → TakingItems T scratch starts links at count value rest list start from 0 list
taking_start {T} {scratch} {starts} {links} {at} {count} {value} {rest} {list} {start} {from} a is seven is-other alike is_start is_from =
    let x : first_word_of T.nodes (node_at scratch at) + 0 ≡ first_word_of T.nodes (node_at scratch at) = omega arith in
    let y : from + 0 ≡ first_word_of T.nodes value = omega arith in
    let z : count - 0 ≡ count_of T.nodes (node_at scratch at) = let c = a.counted in omega arith in
    let w : count_of T.nodes value ≡ count_of T.nodes (node_at scratch at) = let c = a.counted in omega arith in
    let o : 1 + 0 ≡ 1 = omega arith in
    let l = even_length a.asks.unbound (expr T) T.children (first_word_of T.nodes (node_at scratch at)) (count_of T.nodes (node_at scratch at)) (first_word_of T.nodes value) a.asks.seen in
    record {
      asks = a;
      value_array = sym is ∙ seven;
      even = sym is-other ∙ alike;
      is_start = is_start;
      is_from = is_from;
      inside = omega arith;
      list_ok = a.asks.list_ok;
      seen = a.asks.seen;
      left = rw (x, z, o);
      same_left = rw (x, y, z) (sym (runs_items a is seven ∙ rw w (rw l)));
    }

module _ {T : Tables} {scratch starts links : List ℕ} {at count value rest : ℕ} {before : List ℕ} {start from i : ℕ} {here : List ℕ} (go : TakingItems T scratch starts links at count value rest before start from i here) where
  table : WellFormed T
  table = go.asks.asks.table

  abbrev u : ℕ → Bool
  u = go.asks.asks.unbound

  abbrev n : ℕ
  n = node_at scratch at

  module _ (more : i < count) where
    inside_pattern : i < count_of T.nodes n
    inside_pattern = let c = go.asks.counted in omega arith

    inside_value : i < count_of T.nodes value
    inside_value = let e = go.even in omega arith

    pub taking_link : start + i < 512
    taking_link = link_place go.asks go.is_start more

    pub taking_from_fits : Fits w64 (from + i)
    taking_from_fits =
        let l = (array_children T table value go.asks.asks.value_ok.node go.value_array).listed in
        let few = table.limits.children in
        let e = go.is_from in
        let lt = inside_value in
        record { fits = omega arith }

    pattern_item : ℕ
    pattern_item = child_at T.children (first_word_of T.nodes n + i)

    item_node : Node T pattern_item
    unfolding pattern_item
    item_node = (array_children T table n go.asks.asks.node go.asks.kind_is).each i (let lt = inside_pattern in omega arith)

    item_simple : simple (expr T pattern_item) ≡ true
    unfolding pattern_item
    item_simple = array_item T table n go.asks.asks.node true go.asks.asks.is_simple go.asks.kind_is i inside_pattern

    item_shallow : depth (expr T pattern_item) ≤ rest
    unfolding pattern_item
    item_shallow = item_deep T table n go.asks.asks.node go.asks.kind_is i inside_pattern rest go.asks.asks.deep

    value_part : ValueNode T (child_at T.children (first_word_of T.nodes value + i))
    value_part =
        let v = go.asks.asks.value_ok in
        admitted_value T (child_at T.children (first_word_of T.nodes value + i))
        ((array_children T table value v.node go.value_array).each i (let lt = inside_value in omega arith))
        (array_item T table value v.node false v.value go.value_array i inside_value)

    -- what is left once the item is taken
    rest_plans : Plans
    rest_plans = plans u (items (expr T) T.children (first_word_of T.nodes n + (i + 1)) (count - (i + 1))) (after u (expr T pattern_item) go.seen)

    here_left : drop i (items_from (patterns go.asks) 1) ≡ standing (plan u (expr T pattern_item) go.seen) (below 0 (1 + i)) ∷ items_from rest_plans (1 + (i + 1))
    unfolding rest_plans pattern_item items plan items_from
    here_left =
        let e : count - i ≡ suc (count - (i + 1)) = omega arith in
        let x : first_word_of T.nodes n + i + 1 ≡ first_word_of T.nodes n + (i + 1) = omega arith in
        let y : 1 + i + 1 ≡ 1 + (i + 1) = omega arith in
        go.left ∙ rw (e, x, y)

    item_stands : {child : ℕ} → child ≡ get_or links (start + i) 0 → StandsAt scratch go.asks.asks.size child (standing (plan u (expr T pattern_item) go.seen) (below 0 (1 + i)))
    unfolding plan
    item_stands is =
        let a = go.asks.asks in
        let z : i + 0 ≡ i = omega arith in
        let long = items_long u (expr T) T.children (first_word_of T.nodes n) (count_of T.nodes n) a.seen 1 in
        let lt = inside_pattern in
        let told = rw (node_array go.asks) at (plan_told T table u n a.node a.is_simple a.seen) in
        let stands = rw (node_array go.asks) at a.stands.read in
        let first : get_or (items_from (patterns go.asks) 1) i no_placed ≡ standing (plan u (expr T pattern_item) go.seen) (below 0 (1 + i)) =
        ap (λ (j : ℕ). get_or (items_from (patterns go.asks) 1) j no_placed) (sym z) ∙ (sym (get_or-drop i (items_from (patterns go.asks) 1) 0 no_placed) ∙ ap (λ (l : List PlacedPlan). get_or l 0 no_placed) here_left) in
        let s = item_linked (expr T) scratch a.size at (get_or starts at 0) links (entry_in_size go.asks go.is_start more) (a.linked.at at (entry_in_size go.asks go.is_start more)) n (patterns go.asks) a.place a.stands.behind told stands i (omega arith) in
        let link : get_or links (start + i) 0 ≡ get_or links (get_or starts at 0 + i) 0 = ap (λ (x : ℕ). get_or links (x + i) 0) go.is_start in
        subst (λ (c : ℕ). StandsAt scratch a.size c (standing (plan u (expr T pattern_item) go.seen) (below 0 (1 + i)))) (sym (is ∙ link)) (rw first at s)

    module _ {child part : ℕ} (is-child : child ≡ get_or links (start + i) 0) (is-part : part ≡ child_at T.children (from + i)) where
      part_is : part ≡ child_at T.children (first_word_of T.nodes value + i)
      part_is = is-part ∙ ap (λ (p : ℕ). child_at T.children (p + i)) go.is_from

      -- the first of what is left, and the rest
      rest_run : Env → MatchOutcome
      rest_run env = run_items rest_plans (values_of (items (expr T) T.children (from + (i + 1)) (count - (i + 1)))) env

      step : next (run (plan u (expr T pattern_item) go.seen) (value_of (expr T part)) (env_of T here)) rest_run ≡ run_at T scratch at value before
      unfolding rest_run rest_plans pattern_item items plan value_of run
      step =
          let e : count - i ≡ suc (count - (i + 1)) = omega arith in
          let x : first_word_of T.nodes n + i + 1 ≡ first_word_of T.nodes n + (i + 1) = omega arith in
          let y : from + i + 1 ≡ from + (i + 1) = omega arith in
          ap (λ (q : ℕ). next (run (plan u (expr T pattern_item) go.seen) (value_of (expr T q)) (env_of T here)) rest_run) is-part ∙ rw (e, x, y) at go.same_left

      pub taking_asks : EntryAsks T scratch starts links child part rest here
      taking_asks =
          child_asks rest go.asks.asks pattern_item item_node item_simple item_shallow go.seen (below 0 (1 + i)) (item_stands is-child) part here (rw part_is value_part) go.list_ok
          (λ e. go.asks.asks.no_fault (sym step ∙ ap (λ (o : MatchOutcome). next o rest_run) e))

      module _ {next-list : List ℕ} {r : Bool} (c : Came T (run_at T scratch child part here) next-list r) where
        came_child : Came T (run (plan u (expr T pattern_item) go.seen) (value_of (expr T part)) (env_of T here)) next-list r
        came_child = rw (child_run rest go.asks.asks pattern_item item_node item_simple item_shallow go.seen (below 0 (1 + i)) (item_stands is-child) part here) at c

        pub taking_fails : not r ≡ true → Came T (run_at T scratch at value before) next-list false
        taking_fails t = missed_came T c.list_ok (sym step ∙ came_fails came_child t rest_run)

        pub taking_on : not r ≡ false → TakingItems T scratch starts links at count value rest before start from (i + 1) next-list
        unfolding rest_run rest_plans
        taking_on t = record {
          asks = go.asks;
          value_array = go.value_array;
          even = go.even;
          is_start = go.is_start;
          is_from = go.is_from;
          inside = omega arith;
          list_ok = c.list_ok;
          seen = after u (expr T pattern_item) go.seen;
          left = later_left;
          same_left = sym (came_on came_child t rest_run) ∙ step;
        }
          where
            later_left : drop (i + 1) (items_from (patterns go.asks) 1) ≡ items_from rest_plans (1 + (i + 1))
            later_left = sym (drop-drop 1 i (items_from (patterns go.asks) 1)) ∙ ap (drop 1) here_left

  pub taking_ends : count ≤ i → Came T (run_at T scratch at value before) here true
  unfolding items plan value_of run
  taking_ends le = let z : count - i ≡ 0 = omega arith in matched_came T go.list_ok (sym (rw z at go.same_left))

-- objects
module _ {T : Tables} {scratch starts links : List ℕ} {at count value rest : ℕ} {list : List ℕ} (a : FieldsAsks T scratch starts links at count value rest list) where
  abbrev object_node : ℕ
  object_node = node_at scratch at

  abbrev field_patterns : FieldPlans
  field_patterns = field_plans a.asks.unbound (fields_of T object_node) a.asks.seen

  node_object : expr T object_node ≡ object object_node (fields_of T object_node)
  node_object = expr_object T a.asks.table object_node a.asks.node a.kind_is

  runs_object : run_at T scratch at value list ≡ run (object_plan object_node field_patterns) (value_of (expr T value)) (env_of T list)
  unfolding plan
  runs_object = runs a.asks ∙ ap (λ (e : Expr). run (plan a.asks.unbound e a.asks.seen) (value_of (expr T value)) (env_of T list)) node_object

  pub not_object : {k : ℕ} → k ≡ kind_of T.nodes value → (k ≡ 9 → ⊥) → Came T (run_at T scratch at value list) list false
  unfolding run value_of
  not_object is unlike = let s = value_shape T a.asks.table value a.asks.value_ok in missed_came T a.asks.list_ok (runs_object ∙ go s.0 s.1 s.2)
    where
      go : (e : Expr) → expr T value ≡ e → ValueShape T value e → run (object_plan object_node field_patterns) (value_of (expr T value)) (env_of T list) ≡ missed
      go e q (value_literal l h) = rw q
      go e q (value_array h) = rw q
      go e q (value_object h) = absurd (unlike (is ∙ h))

  pattern_keyed : KeyedObject T object_node
  pattern_keyed = keyed_object T a.asks.table object_node a.asks.node true a.asks.is_simple a.kind_is

  module _ {k : ℕ} (is : k ≡ kind_of T.nodes value) (nine : k ≡ 9) where
    value_keyed : KeyedObject T value
    value_keyed = keyed_object T a.asks.table value a.asks.value_ok.node false a.asks.value_ok.value (sym is ∙ nine)

    pub ask_key_sets : KeySetsAsks T (node_at scratch at) value
    ask_key_sets = record { left = pattern_keyed; right = value_keyed }

    runs_fields : run_at T scratch at value list ≡ provided (same_key_sets (keys_of (fields_of T object_node)) (keys_of (fields_of T value))) (run_fields field_patterns (value_fields_of (fields_of T value)) (env_of T list))
    unfolding run value_of
    runs_fields =
        runs_object
        ∙ (ap (λ (e : Expr). run (object_plan object_node field_patterns) (value_of e) (env_of T list)) (expr_object T a.asks.table value a.asks.value_ok.node (sym is ∙ nine))
        ∙ ap₂ (λ (ks ls : List Literal). provided (same_key_sets ks ls) (run_fields field_patterns (value_fields_of (fields_of T value)) (env_of T list))) (plan_keys_lem a.asks.unbound (fields_of T object_node) a.asks.seen) (value_keys (fields_of T value)))

    pub other_keys : {r : Bool} → r ≡ same_key_sets (keys_of (fields_of T (node_at scratch at))) (keys_of (fields_of T value)) → not r ≡ true → Came T (run_at T scratch at value list) list false
    other_keys {r} of t = missed_came T a.asks.list_ok (runs_fields ∙ ap (λ (b : Bool). provided b (run_fields field_patterns (value_fields_of (fields_of T value)) (env_of T list))) (told_no of t))

pub record TakingFields (T : Tables) (scratch starts links : List ℕ) (at count value rest : ℕ) (before : List ℕ) (start i : ℕ) (here : List ℕ) : Type 0 where
  pub asks : FieldsAsks T scratch starts links at count value rest before
  pub value_object : KeyedObject T value
  pub keys : same_key_sets (keys_of (fields_of T (node_at scratch at))) (keys_of (fields_of T value)) ≡ true
  pub is_start : start ≡ get_or starts at 0
  pub inside : i ≤ count
  pub list_ok : ListOk T here
  pub seen : List ℕ
  pub left : drop i (fields_from (field_patterns asks) 1) ≡ fields_from (field_plans asks.asks.unbound (fields (expr T) T.children (first_word_of T.nodes (node_at scratch at) + i * 2) (count - i)) seen) (1 + i)
  pub same_left : run_fields (field_plans asks.asks.unbound (fields (expr T) T.children (first_word_of T.nodes (node_at scratch at) + i * 2) (count - i)) seen) (value_fields_of (fields_of T value)) (env_of T here) ≡ run_at T scratch at value before

pub fields_start : {T : Tables} {scratch starts links : List ℕ} {at count value rest : ℕ} {list : List ℕ} {start : ℕ} → FieldsAsks T scratch starts links at count value rest list
    → {k : ℕ} → k ≡ kind_of T.nodes value → k ≡ 9 → {r : Bool} → r ≡ same_key_sets (keys_of (fields_of T (node_at scratch at))) (keys_of (fields_of T value)) → not r ≡ false → start ≡ get_or starts at 0
    → TakingFields T scratch starts links at count value rest list start 0 list
fields_start {T} {scratch} {starts} {links} {at} {count} {value} {rest} {list} {start} a is nine of t is_start =
    let x : first_word_of T.nodes (node_at scratch at) + 0 * 2 ≡ first_word_of T.nodes (node_at scratch at) = omega arith in
    let z : count - 0 ≡ count_of T.nodes (node_at scratch at) = let c = a.counted in omega arith in
    let o : 1 + 0 ≡ 1 = omega arith in
    let s = told_yes of t in
    record {
      asks = a;
      value_object = value_keyed a is nine;
      keys = s;
      is_start = is_start;
      inside = omega arith;
      list_ok = a.asks.list_ok;
      seen = a.asks.seen;
      left = rw (x, z, o);
      same_left = rw (x, z) (sym (runs_fields a is nine ∙ rw s));
    }

module _ {T : Tables} {scratch starts links : List ℕ} {at count value rest : ℕ} {before : List ℕ} {start i : ℕ} {here : List ℕ} (go : TakingFields T scratch starts links at count value rest before start i here) where
  well : WellFormed T
  well = go.asks.asks.table

  abbrev unbound : ℕ → Bool
  unbound = go.asks.asks.unbound

  abbrev of : ℕ
  of = node_at scratch at

  abbrev first : ℕ
  first = first_word_of T.nodes of

  pub fields_object : KeyedObject T value
  fields_object = go.value_object

  module _ (more : i < count) where
    in_pattern : i < count_of T.nodes of
    in_pattern = let e = go.asks.counted in omega arith

    pub fields_link : start + i < 512
    fields_link = link_place go.asks go.is_start more

    pub fields_index_fits : Fits w64 i
    fields_index_fits = let l = fields_link in record { fits = omega arith }

    field_node : Node T (value_node T first i)
    field_node = value_node_lem (object_children T well of go.asks.asks.node go.asks.kind_is) i in_pattern

    field_key_lem : Node T (key_node T first i)
    field_key_lem = key-node (object_children T well of go.asks.asks.node go.asks.kind_is) i in_pattern

    field_simple : simple (expr T (value_node T first i)) ≡ true
    field_simple = object_value T well of go.asks.asks.node true go.asks.asks.is_simple go.asks.kind_is i in_pattern

    field_shallow : depth (expr T (value_node T first i)) ≤ rest
    field_shallow = value_deep T well of go.asks.asks.node go.asks.kind_is i in_pattern rest go.asks.asks.deep

    field_place : Place
    field_place = below (node_of (expr T (key_node T first i))) (1 + i)

    -- what is left once the field is taken
    rest_of_fields : FieldPlans
    rest_of_fields = field_plans unbound (fields (expr T) T.children (first + (i + 1) * 2) (count - (i + 1))) (after unbound (expr T (value_node T first i)) go.seen)

    fields_left : drop i (fields_from (field_patterns go.asks) 1) ≡ standing (plan unbound (expr T (value_node T first i)) go.seen) field_place ∷ fields_from rest_of_fields (1 + (i + 1))
    unfolding rest_of_fields field_place fields plan fields_from
    fields_left =
        let e : count - i ≡ suc (count - (i + 1)) = omega arith in
        let x : first + i * 2 + 2 ≡ first + (i + 1) * 2 = omega arith in
        let y : 1 + i + 1 ≡ 1 + (i + 1) = omega arith in
        go.left ∙ rw (e, x, y)

    field_stands : {child : ℕ} → child ≡ get_or links (start + i) 0 → StandsAt scratch go.asks.asks.size child (standing (plan unbound (expr T (value_node T first i)) go.seen) field_place)
    unfolding plan
    field_stands is =
        let a = go.asks.asks in
        let z : i + 0 ≡ i = omega arith in
        let long = fields_long unbound (expr T) T.children first (count_of T.nodes of) a.seen 1 in
        let lt = in_pattern in
        let told = rw (node_object go.asks) at (plan_told T well unbound of a.node a.is_simple a.seen) in
        let stands = rw (node_object go.asks) at a.stands.read in
        let head : get_or (fields_from (field_patterns go.asks) 1) i no_placed ≡ standing (plan unbound (expr T (value_node T first i)) go.seen) field_place =
        ap (λ (j : ℕ). get_or (fields_from (field_patterns go.asks) 1) j no_placed) (sym z) ∙ (sym (get_or-drop i (fields_from (field_patterns go.asks) 1) 0 no_placed) ∙ ap (λ (l : List PlacedPlan). get_or l 0 no_placed) fields_left) in
        let s = field_linked (expr T) scratch a.size at (get_or starts at 0) links (entry_in_size go.asks go.is_start more) (a.linked.at at (entry_in_size go.asks go.is_start more)) of (field_patterns go.asks) a.place a.stands.behind told stands i (omega arith) in
        let link : get_or links (start + i) 0 ≡ get_or links (get_or starts at 0 + i) 0 = ap (λ (x : ℕ). get_or links (x + i) 0) go.is_start in
        subst (λ (c : ℕ). StandsAt scratch a.size c (standing (plan unbound (expr T (value_node T first i)) go.seen) field_place)) (sym (is ∙ link)) (rw head at s)

    pub fields_child : {child : ℕ} → child ≡ get_or links (start + i) 0 → child < 512
    fields_child is = child_inside rest go.asks.asks (value_node T first i) field_node field_simple field_shallow go.seen field_place (field_stands is)

    pub fields_key_word : {child : ℕ} → child ≡ get_or links (start + i) 0 → child * entry_words + 3 < pattern_words
    fields_key_word is = let l = fields_child is in omega arith

    module _ {child : ℕ} (is-child : child ≡ get_or links (start + i) 0) {found : Prelude.Option ℕ} (is-found : found ≡ node_or_none (under_in T value (get_or scratch (child * entry_words + 3) 0))) where
      key_is : get_or scratch (child * entry_words + 3) 0 ≡ key_node T first i
      unfolding field_place
      key_is = child_key rest go.asks.asks (value_node T first i) field_node field_simple field_shallow go.seen field_place (field_stands is-child) ∙ node_of_lem T well (key_node T first i) field_key_lem

      own_key : (l : Literal) × (literal_at T (key_node T first i) ≡ some l) × (literal_key (expr T (key_node T first i)) ≡ some l)
      own_key = key_of T first (count_of T.nodes of) (object_fielded (pattern_keyed go.asks)) i in_pattern

      under_own : {l : Literal} → literal_at T (key_node T first i) ≡ some l → under_in T value (get_or scratch (child * entry_words + 3) 0) ≡ under_from T (some l) (first_word_of T.nodes value) (count_of T.nodes value)
      under_own d = ap (λ (k : ℕ). under_in T value k) key_is ∙ ap (λ (o : Option Literal). under_from T o (first_word_of T.nodes value) (count_of T.nodes value)) d

      -- the value has every key of the pattern
      is_there : under_in T value (get_or scratch (child * entry_words + 3) 0) ≡ 0 → ⊥
      is_there z =
          let (l, d, q) = own_key in
          let there = has_key_at T first (count_of T.nodes of) (object_fielded (pattern_keyed go.asks)) i in_pattern l d in
          let w = (and_true (within (keys_of (fields_of T of)) (keys_of (fields_of T value))) (within (keys_of (fields_of T value)) (keys_of (fields_of T of))) go.keys).0 in
          let has = is_true (within→ (keys_of (fields_of T of)) (keys_of (fields_of T value)) (true_is w) l there) in
          let by = found_key T (first_word_of T.nodes value) (count_of T.nodes value) (object_fielded go.value_object) l in
          let under-zero : under_from T (some l) (first_word_of T.nodes value) (count_of T.nodes value) ≡ 0 = sym (under_own d) ∙ z in
          false≢true (sym (by ∙ ap not (eq-eqb (under_from T (some l) (first_word_of T.nodes value) (count_of T.nodes value)) 0 under-zero)) ∙ has)

      pub fields_some : IsSome found
      fields_some = some_is (under_in T value (get_or scratch (child * entry_words + 3) 0)) is-found ∙ ap not (ne_eqb (under_in T value (get_or scratch (child * entry_words + 3) 0)) 0 is_there)

    module _ {child : ℕ} (is-child : child ≡ get_or links (start + i) 0) {found : Prelude.Option ℕ} (is-found : found ≡ node_or_none (under_in T value (get_or scratch (child * entry_words + 3) 0))) {part : ℕ} (some_part : found ≡ Some part) where
      part_under : {l : Literal} → literal_at T (key_node T first i) ≡ some l → part ≡ under_from T (some l) (first_word_of T.nodes value) (count_of T.nodes value)
      part_under d = (node_told is-found some_part).0 ∙ under_own is-child is-found d

      part_there : part ≡ 0 → ⊥
      part_there z = (node_told is-found some_part).1 (sym (node_told is-found some_part).0 ∙ z)

      part_ok : ValueNode T part
      part_ok =
          let v = go.asks.asks.value_ok in
          let (l, d, q) = own_key is-child is-found in
          let (j, lt, e) = found_field T (some l) (first_word_of T.nodes value) (count_of T.nodes value) (λ z. part_there (part_under d ∙ z)) in
          rw (part_under d) (rw e (admitted_value T (value_node T (first_word_of T.nodes value) j) (value_node_lem (object_fielded go.value_object).asks j lt)
          (object_value T well value v.node false v.value go.value_object.object j lt)))

      rest_fields : Env → MatchOutcome
      rest_fields env = run_fields rest_of_fields (value_fields_of (fields_of T value)) env

      field_step : next (run (plan unbound (expr T (value_node T first i)) go.seen) (value_of (expr T part)) (env_of T here)) rest_fields ≡ run_at T scratch at value before
      unfolding rest_fields rest_of_fields fields plan run
      field_step =
          let (l, d, q) = own_key is-child is-found in
          let e : count - i ≡ suc (count - (i + 1)) = omega arith in
          let x : first + i * 2 + 2 ≡ first + (i + 1) * 2 = omega arith in
          let value_is_lem : under l (value_fields_of (fields_of T value)) ≡ some (value_of (expr T part)) =
          found_value T (first_word_of T.nodes value) (count_of T.nodes value) (object_fielded go.value_object) l
          ∙ (ap (value_at T) (sym (part_under d)) ∙ node_value T part part_there) in
          sym (ap (λ (o : Option Value). at· o (λ v. next (run (plan unbound (expr T (value_node T first i)) go.seen) v (env_of T here)) rest_fields))
          (ap (λ (o : Option Literal). under_key o (value_fields_of (fields_of T value))) q ∙ value_is_lem))
          ∙ rw (e, x) at go.same_left

      pub fields_asks : EntryAsks T scratch starts links child part rest here
      fields_asks =
          child_asks rest go.asks.asks (value_node T first i) field_node field_simple field_shallow go.seen field_place (field_stands is-child) part here part_ok go.list_ok
          (λ e. go.asks.asks.no_fault (sym field_step ∙ ap (λ (o : MatchOutcome). next o rest_fields) e))

      module _ {next-list : List ℕ} {r : Bool} (c : Came T (run_at T scratch child part here) next-list r) where
        came_field : Came T (run (plan unbound (expr T (value_node T first i)) go.seen) (value_of (expr T part)) (env_of T here)) next-list r
        came_field = rw (child_run rest go.asks.asks (value_node T first i) field_node field_simple field_shallow go.seen field_place (field_stands is-child) part here) at c

        pub fields_fail : not r ≡ true → Came T (run_at T scratch at value before) next-list false
        fields_fail t = missed_came T c.list_ok (sym field_step ∙ came_fails came_field t rest_fields)

        pub fields_on : not r ≡ false → TakingFields T scratch starts links at count value rest before start (i + 1) next-list
        unfolding rest_fields rest_of_fields
        fields_on t = record {
          asks = go.asks;
          value_object = go.value_object;
          keys = go.keys;
          is_start = go.is_start;
          inside = omega arith;
          list_ok = c.list_ok;
          seen = after unbound (expr T (value_node T first i)) go.seen;
          left = later_fields;
          same_left = sym (came_on came_field t rest_fields) ∙ field_step;
        }
          where
            later_fields : drop (i + 1) (fields_from (field_patterns go.asks) 1) ≡ fields_from rest_of_fields (1 + (i + 1))
            later_fields = sym (drop-drop 1 i (fields_from (field_patterns go.asks) 1)) ∙ ap (drop 1) fields_left

  pub fields_end : count ≤ i → Came T (run_at T scratch at value before) here true
  unfolding fields plan run
  fields_end le = let z : count - i ≡ 0 = omega arith in matched_came T go.list_ok (sym (rw z at go.same_left))
