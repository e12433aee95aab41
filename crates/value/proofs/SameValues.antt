-- Equality of two value nodes, by their kinds.
use Prim.Native.Nat.{ℕ, zero, suc, ◌+◌, ◌-◌, ◌*◌, ◌≤◌, ◌<◌}
use mathlib.Core.Path.{◌≡◌, refl, sym, ap, ap₂, ◌∙◌}
use mathlib.Core.List.{List}
use mathlib.Core.Bool.{Bool, true, false, cond, ◌&&◌, ◌||◌, not, false≢true, and-false}
use mathlib.Core.Option.{Option}
use native.Mathlib.Omega.{arith}
use mir.Val.{Fits}
use mir.Syntax.{w64}
use borrow.Author.Tests.{ne_eqb, eqb-true, eqb-false, not-true, not-false}
use lib.Dec.{T as True, eqb}
use Rattle.std.specs.Prelude.{Some, None}
use Rattle.std.specs.Prelude as Prelude
use Rattle.literal.specs.Literal.{Literal}
use Rattle.table.specs.Tables.{Tables, kind_of, first_word_of, count_of, child_at}
use Rattle.table.specs.Decode.{expr, items, fields, is_wildcard, literal_at, fields_of}
use Rattle.table.specs.Expr.{Expr, literal, name, wildcard, array, object}
use Rattle.table.specs.code.Sound.{WellFormed}
use Rattle.table.proofs.trees.Trees.{expr_literal, expr_name, expr_array, expr_object, child_node, width_array, width_object}
use Rattle.planner.specs.Layout.{literal_key}
use Rattle.planner.specs.code.Passes.{value_node}
use Rattle.planner.specs.Simple.{same_key, has_key, keys_of, admitted}
use Rattle.planner.proofs.destructuring.NodeKinds.{Plain, plain_literal, plain_set, plain_other, plain_kind}
use Rattle.planner.proofs.fields.Objects.{key_literal}
use Rattle.value.specs.Value.{Value, literalᵛ, ValueFields, doneᵛ, fieldᵛ, is_value, filled_field, value_of, values_of, value_fields_of, value_at, keysᵛ, first_hit, under, within, same_key_sets, holds, same, same_items, same_fields_lem}
use Rattle.value.specs.code.Post.{same_literals, node_or_none, under_from, under_in, KeyedObject, ValueNode, SameAsks, SameItemsAsks, SameFieldsAsks}
use Rattle.value.proofs.Keys.{and_left, and_right, both, is_true, is_false, true_is, sets_by_count, sets_uneven}
use Rattle.value.proofs.Admitted.{value_keys, array_item, object_value, array_children, value_node_lem, keyed_object, admitted_value}
use Rattle.value.proofs.Under.{node_told, no_node, Fielded, object_fielded, keys_length, found_field, found_value, key_of, position_fits, position_key_fits, position_value_fits}

-- what a value node is
pub data ValueShape (T : Tables) (n : ℕ) : Expr → Type 0 where
  value_literal : (l : Literal) → kind_of T.nodes n ≤ 5 → ValueShape T n (literal n l)
  value_array : kind_of T.nodes n ≡ 7 → ValueShape T n (array n (items (expr T) T.children (first_word_of T.nodes n) (count_of T.nodes n)))
  value_object : kind_of T.nodes n ≡ 9 → ValueShape T n (object n (fields_of T n))

pub value_shape : (T : Tables) → WellFormed T → (n : ℕ) → ValueNode T n → (e : Expr) × (expr T n ≡ e) × ValueShape T n e
unfolding admitted
value_shape T w n v = go (eqb (kind_of T.nodes n) 6) refl (eqb (kind_of T.nodes n) 7) refl (eqb (kind_of T.nodes n) 9) refl
  where
    named : (c : Bool) (x : ℕ) → is_value (cond c (wildcard n) (name n x)) ≡ true → ⊥
    named true x t = false≢true t
    named false x t = false≢true t

    by : (e : Expr) → expr T n ≡ e → Plain (kind_of T.nodes n) n e → is_value e ≡ true → (e : Expr) × (expr T n ≡ e) × ValueShape T n e
    by e q (plain_literal l h) t = (literal n l, q, value_literal l h)
    by e q (plain_set es h) t = absurd (false≢true t)
    by e q (plain_other h) t = absurd (false≢true t)

    go : (a : Bool) → eqb (kind_of T.nodes n) 6 ≡ a → (b : Bool) → eqb (kind_of T.nodes n) 7 ≡ b → (d : Bool) → eqb (kind_of T.nodes n) 9 ≡ d → (e : Expr) × (expr T n ≡ e) × ValueShape T n e
    go true p b q d r = absurd (named (is_wildcard T (first_word_of T.nodes n)) (first_word_of T.nodes n) (rw (expr_name T w n v.node (eqb-true (kind_of T.nodes n) 6 p)) at v.value))
    go false p true q d r = let k = eqb-true (kind_of T.nodes n) 7 q in (_, expr_array T w n v.node k, value_array k)
    go false p false q true r = let k = eqb-true (kind_of T.nodes n) 9 r in (_, expr_object T w n v.node k, value_object k)
    go false p false q false r =
        let s = plain_kind T w n v.node (eqb-false (kind_of T.nodes n) 6 p) (eqb-false (kind_of T.nodes n) 7 q) (eqb-false (kind_of T.nodes n) 9 r) in
        by s.0 s.1 s.2 (rw s.1 at v.value)

-- items of unlike counts
items_even : (g : ℕ → Expr) (ch : List ℕ) (at k from m : ℕ) → True (same_items (values_of (items g ch at k)) (values_of (items g ch from m))) → k ≡ m
unfolding items value_of same
items_even g ch at zero from zero t = refl
items_even g ch at zero from (suc m) t = absurd t
items_even g ch at (suc k) from zero t = absurd t
items_even g ch at (suc k) from (suc m) t =
    ap suc (items_even g ch (at + 1) k (from + 1) m
    (and_right (same (value_of (g (child_at ch at))) (value_of (g (child_at ch from)))) (same_items (values_of (items g ch (at + 1) k)) (values_of (items g ch (from + 1) m))) t))

-- equal fields have their keys in the other object
pub under_has : (f : Value → Bool) (k : Literal) (gs : ValueFields) → True (holds f (under k gs)) → True (has_key k (keysᵛ gs))
unfolding under has_key keysᵛ
under_has f k doneᵛ t = absurd t
under_has f k (fieldᵛ l w gs) t = go (same_key k l) (λ h. under_has f k gs h) t
  where
    go : (b : Bool) → (True (holds f (under k gs)) → True (has_key k (keysᵛ gs))) → True (holds f (first_hit b w (under k gs))) → True (b || has_key k (keysᵛ gs))
    go true rest h = tt
    go false rest h = rest h

fields_within : (fs gs : ValueFields) → True (same_fields_lem fs gs) → True (within (keysᵛ fs) (keysᵛ gs))
unfolding same within keysᵛ
fields_within doneᵛ gs t = tt
fields_within (fieldᵛ k v fs) gs t =
    both (has_key k (keysᵛ gs)) (within (keysᵛ fs) (keysᵛ gs))
    (under_has (λ w. same v w) k gs (and_left (holds (λ w. same v w) (under k gs)) (same_fields_lem fs gs) t))
    (fields_within fs gs (and_right (holds (λ w. same v w) (under k gs)) (same_fields_lem fs gs) t))

-- two value nodes
module _ (T : Tables) (a b : ℕ) (asks : SameAsks T a b) where
  -- the values of two nodes, from what they are
  same_as : (e f : Expr) → expr T a ≡ e → expr T b ≡ f → same (value_of (expr T a)) (value_of (expr T b)) ≡ same (value_of e) (value_of f)
  same_as e f p q = ap₂ (λ (x y : Expr). same (value_of x) (value_of y)) p q

  left_shape : (e : Expr) × (expr T a ≡ e) × ValueShape T a e
  left_shape = value_shape T asks.table a asks.left

  right_shape : (e : Expr) × (expr T b ≡ e) × ValueShape T b e
  right_shape = value_shape T asks.table b asks.right

  keyed : (n : ℕ) → ValueNode T n → kind_of T.nodes n ≡ 9 → KeyedObject T n
  keyed n v k = keyed_object T asks.table n v.node false v.value k

  uneven_keys : kind_of T.nodes a ≡ 9 → kind_of T.nodes b ≡ 9 → (count_of T.nodes b ≡ count_of T.nodes a → ⊥) → same_key_sets (keysᵛ (value_fields_of (fields_of T a))) (keysᵛ (value_fields_of (fields_of T b))) ≡ false
  uneven_keys ka kb uneven =
      let l = keyed a asks.left ka in
      let r = keyed b asks.right kb in
      let p = keys_length T (first_word_of T.nodes a) (count_of T.nodes a) (object_fielded l) in
      let q = keys_length T (first_word_of T.nodes b) (count_of T.nodes b) (object_fielded r) in
      rw (value_keys (fields_of T a), value_keys (fields_of T b)) (sets_uneven (keys_of (fields_of T a)) (keys_of (fields_of T b)) (true_is l.differ) (true_is r.differ) (λ e. uneven (omega arith)))

  even_keys : kind_of T.nodes a ≡ 9 → kind_of T.nodes b ≡ 9 → count_of T.nodes b ≡ count_of T.nodes a
      → within (keysᵛ (value_fields_of (fields_of T a))) (keysᵛ (value_fields_of (fields_of T b))) ≡ same_key_sets (keysᵛ (value_fields_of (fields_of T a))) (keysᵛ (value_fields_of (fields_of T b)))
  even_keys ka kb even =
      let l = keyed a asks.left ka in
      let r = keyed b asks.right kb in
      let p = keys_length T (first_word_of T.nodes a) (count_of T.nodes a) (object_fielded l) in
      let q = keys_length T (first_word_of T.nodes b) (count_of T.nodes b) (object_fielded r) in
      rw (value_keys (fields_of T a), value_keys (fields_of T b)) (sets_by_count (keys_of (fields_of T a)) (keys_of (fields_of T b)) (true_is l.differ) (true_is r.differ) (omega arith))

  module _ {kind : ℕ} (is-kind : kind ≡ kind_of T.nodes a) where
    pub same_literal : {r : Bool} → kind ≤ 5 → r ≡ same_literals (literal_at T a) (literal_at T b) → r ≡ same (value_of (expr T a)) (value_of (expr T b))
    unfolding value_of same
    same_literal {r} low e =
        let h : kind_of T.nodes a ≤ 5 = rw (← is-kind) low in
        let (l, p) = asks.table.literals a asks.left.node h in
        let t = expr_literal T asks.table a asks.left.node l h p in
        let k = key_literal T asks.table b asks.right.node in
        let s = right_shape in
        e ∙ (ap₂ same_literals p (sym k) ∙ (go l s.0 s.1 s.2 ∙ sym (same_as (literal a l) s.0 t s.1)))
      where
        go : (l : Literal) (f : Expr) → expr T b ≡ f → ValueShape T b f → same_literals (Option.some l) (literal_key (expr T b)) ≡ same (literalᵛ a l) (value_of f)
        go l f q (value_literal m h) = ap (λ (x : Expr). same_literals (Option.some l) (literal_key x)) q
        go l f q (value_array h) = ap (λ (x : Expr). same_literals (Option.some l) (literal_key x)) q
        go l f q (value_object h) = ap (λ (x : Expr). same_literals (Option.some l) (literal_key x)) q

    module _ (high : 5 < kind) {other : ℕ} (is-other : other ≡ kind_of T.nodes b) where
      pub kinds_differ : (other ≡ kind → ⊥) → false ≡ same (value_of (expr T a)) (value_of (expr T b))
      unfolding value_of same
      kinds_differ unlike = let s = left_shape in let t = right_shape in sym (same_as s.0 t.0 s.1 t.1 ∙ go s.0 t.0 s.2 t.2)
        where
          go : (e f : Expr) → ValueShape T a e → ValueShape T b f → same (value_of e) (value_of f) ≡ false
          go e f (value_literal l h) y = absurd (omega arith)
          go e f (value_array h) (value_literal m k) = refl
          go e f (value_array h) (value_array k) = absurd (unlike (omega arith))
          go e f (value_array h) (value_object k) = refl
          go e f (value_object h) (value_literal m k) = refl
          go e f (value_object h) (value_array k) = refl
          go e f (value_object h) (value_object k) = absurd (unlike (omega arith))

      module _ (alike : other ≡ kind) {size count : ℕ} (is_size : size ≡ count_of T.nodes a) (is_count : count ≡ count_of T.nodes b) where
        pub counts_differ : (count ≡ size → ⊥) → false ≡ same (value_of (expr T a)) (value_of (expr T b))
        unfolding value_of same
        counts_differ uneven = let s = left_shape in let t = right_shape in sym (same_as s.0 t.0 s.1 t.1 ∙ go s.0 t.0 s.2 t.2)
          where
            go : (e f : Expr) → ValueShape T a e → ValueShape T b f → same (value_of e) (value_of f) ≡ false
            go e f (value_literal l h) y = absurd (omega arith)
            go e f (value_array h) (value_literal m k) = refl
            go e f (value_array h) (value_array k) = is_false (λ t. uneven (let q = items_even (expr T) T.children (first_word_of T.nodes a) (count_of T.nodes a) (first_word_of T.nodes b) (count_of T.nodes b) t in omega arith))
            go e f (value_array h) (value_object k) = refl
            go e f (value_object h) (value_literal m k) = refl
            go e f (value_object h) (value_array k) = refl
            go e f (value_object h) (value_object k) = ap (λ (x : Bool). x && same_fields_lem (value_fields_of (fields_of T a)) (value_fields_of (fields_of T b))) (uneven_keys h k (λ q. uneven (omega arith)))

        module _ (even : count ≡ size) where
          module _ (seven : kind ≡ 7) {at from : ℕ} (is_at : at ≡ first_word_of T.nodes a) (is_from : from ≡ first_word_of T.nodes b) where
            left_kind : kind_of T.nodes a ≡ 7
            left_kind = sym is-kind ∙ seven

            right_kind : kind_of T.nodes b ≡ 7
            right_kind = sym is-other ∙ (alike ∙ seven)

            pub ask_items : SameItemsAsks T a at from size
            ask_items =
                let wide = width_array (kind_of T.nodes a) (count_of T.nodes a) left_kind in
                let left-list = (array_children T asks.table a asks.left.node left_kind).listed in
                let right-list = (array_children T asks.table b asks.right.node right_kind).listed in
                let few = asks.table.limits.children in
                record {
                  table = asks.table;
                  lefts = λ i lt. rw is_at (
                    admitted_value T (child_at T.children (first_word_of T.nodes a + i)) (child_node T asks.table a asks.left.node i (omega arith)) (array_item T asks.table a asks.left.node false asks.left.value left_kind i (omega arith)),
                    (asks.table.below a asks.left.node i (omega arith)).1,
                  );
                  rights = λ i lt. rw is_from (admitted_value T (child_at T.children (first_word_of T.nodes b + i))
                      ((array_children T asks.table b asks.right.node right_kind).each i (omega arith))
                      (array_item T asks.table b asks.right.node false asks.right.value right_kind i (omega arith)));
                  left_small = omega arith;
                  right_small = omega arith;
                }

            pub same_array : {r : Bool} → r ≡ same_items (values_of (items (expr T) T.children at size)) (values_of (items (expr T) T.children from size)) → r ≡ same (value_of (expr T a)) (value_of (expr T b))
            unfolding value_of same
            same_array e =
                let sizes : size ≡ count_of T.nodes b = omega arith in
                (rw (is_at, is_from) at e)
                ∙ (ap₂ (λ (x y : ℕ). same_items (values_of (items (expr T) T.children (first_word_of T.nodes a) x)) (values_of (items (expr T) T.children (first_word_of T.nodes b) y))) is_size sizes
                ∙ sym (same_as _ _ (expr_array T asks.table a asks.left.node left_kind) (expr_array T asks.table b asks.right.node right_kind)))

          module _ (not-seven : kind ≡ 7 → ⊥) where
            left_object : kind_of T.nodes a ≡ 9
            left_object = let s = left_shape in go s.0 s.2
              where
                go : (e : Expr) → ValueShape T a e → kind_of T.nodes a ≡ 9
                go e (value_literal l h) = absurd (omega arith)
                go e (value_array h) = absurd (not-seven (is-kind ∙ h))
                go e (value_object h) = h

            right_object : kind_of T.nodes b ≡ 9
            right_object = let h = left_object in omega arith

            pub ask_fields : SameFieldsAsks T a b
            ask_fields = record { both = asks; left_object = left_object; right_object = right_object }

            pub same_object : {r : Bool} → r ≡ same_fields_lem (value_fields_of (fields_of T a)) (value_fields_of (fields_of T b)) → r ≡ same (value_of (expr T a)) (value_of (expr T b))
            unfolding value_of same
            same_object e =
                e ∙ (go (same_fields_lem (value_fields_of (fields_of T a)) (value_fields_of (fields_of T b))) refl
                ∙ sym (same_as _ _ (expr_object T asks.table a asks.left.node left_object) (expr_object T asks.table b asks.right.node right_object)))
              where
                go : (c : Bool) → same_fields_lem (value_fields_of (fields_of T a)) (value_fields_of (fields_of T b)) ≡ c → c ≡ (same_key_sets (keysᵛ (value_fields_of (fields_of T a))) (keysᵛ (value_fields_of (fields_of T b))) && c)
                go true p =
                    let w : within (keysᵛ (value_fields_of (fields_of T a))) (keysᵛ (value_fields_of (fields_of T b))) ≡ true = is_true (fields_within (value_fields_of (fields_of T a)) (value_fields_of (fields_of T b)) (true_is p)) in
                    sym (ap (λ (x : Bool). x && true) (sym (even_keys left_object right_object (omega arith)) ∙ w))
                go false p = sym (and-false (same_key_sets (keysᵛ (value_fields_of (fields_of T a))) (keysᵛ (value_fields_of (fields_of T b)))))

-- items in turn
pub record Pairing (T : Tables) (parent at from left i : ℕ) : Type 0 where
  pub asks : SameItemsAsks T parent at from left
  pub inside : i ≤ left
  pub same_left : same_items (values_of (items (expr T) T.children (at + i) (left - i))) (values_of (items (expr T) T.children (from + i) (left - i)))
      ≡ same_items (values_of (items (expr T) T.children at left)) (values_of (items (expr T) T.children from left))

pub pairing_start : {T : Tables} {parent at from left : ℕ} → SameItemsAsks T parent at from left → Pairing T parent at from left 0
pairing_start {T} {parent} {at} {from} {left} a =
    let x : at + 0 ≡ at = omega arith in
    let y : from + 0 ≡ from = omega arith in
    let z : left - 0 ≡ left = omega arith in
    record { asks = a; inside = omega arith; same_left = rw (x, y, z) }

module _ {T : Tables} {parent at from left i : ℕ} (go : Pairing T parent at from left i) where
  module _ (more : i < left) where
    pub pairing_left_fits : Fits w64 (at + i)
    pairing_left_fits = let s = go.asks.left_small in record { fits = omega arith }

    pub pairing_right_fits : Fits w64 (from + i)
    pairing_right_fits = let s = go.asks.right_small in record { fits = omega arith }

    module _ {a b : ℕ} (is-a : a ≡ child_at T.children (at + i)) (is_b : b ≡ child_at T.children (from + i)) where
      pub pairing_ask : SameAsks T a b
      pairing_ask = record { table = go.asks.table; left = rw is-a (go.asks.lefts i more).0; right = rw is_b (go.asks.rights i more) }

      pub pairing_below : a < parent
      pairing_below = rw is-a (go.asks.lefts i more).1

      module _ {r : Bool} (is : r ≡ same (value_of (expr T a)) (value_of (expr T b))) where
        step : same_items (values_of (items (expr T) T.children (at + i) (left - i))) (values_of (items (expr T) T.children (from + i) (left - i)))
            ≡ (r && same_items (values_of (items (expr T) T.children (at + (i + 1)) (left - (i + 1)))) (values_of (items (expr T) T.children (from + (i + 1)) (left - (i + 1)))))
        unfolding items value_of same
        step =
            let e : left - i ≡ suc (left - (i + 1)) = omega arith in
            let x : at + i + 1 ≡ at + (i + 1) = omega arith in
            let y : from + i + 1 ≡ from + (i + 1) = omega arith in
            ap (λ (k : ℕ). same_items (values_of (items (expr T) T.children (at + i) k)) (values_of (items (expr T) T.children (from + i) k))) e
            ∙ ap₂ (λ (c d : Bool). c && d) (sym (is ∙ ap₂ (λ (m n : ℕ). same (value_of (expr T m)) (value_of (expr T n))) is-a is_b))
            (ap₂ (λ (m n : ℕ). same_items (values_of (items (expr T) T.children m (left - (i + 1)))) (values_of (items (expr T) T.children n (left - (i + 1))))) x y)

        pub pairing_fails : not r ≡ true → false ≡ same_items (values_of (items (expr T) T.children at left)) (values_of (items (expr T) T.children from left))
        pairing_fails t = let f = not-true r t in sym (step ∙ rw f) ∙ go.same_left

        pub pairing_on : not r ≡ false → Pairing T parent at from left (i + 1)
        pairing_on t = let f = not-false r t in record { asks = go.asks; inside = omega arith; same_left = sym (step ∙ rw f) ∙ go.same_left }

  pub pairing_ends : left ≤ i → true ≡ same_items (values_of (items (expr T) T.children at left)) (values_of (items (expr T) T.children from left))
  unfolding items value_of same
  pairing_ends le = let z : left - i ≡ 0 = omega arith in rw z at go.same_left

-- fields in turn, by the first object's keys
pub record ByKey (T : Tables) (a b first size i : ℕ) : Type 0 where
  pub asks : SameFieldsAsks T a b
  pub is_first : first ≡ first_word_of T.nodes a
  pub is_size : size ≡ count_of T.nodes a
  pub inside : i ≤ size
  pub same_left : same_fields_lem (value_fields_of (fields (expr T) T.children (first + i * 2) (size - i))) (value_fields_of (fields_of T b)) ≡ same_fields_lem (value_fields_of (fields_of T a)) (value_fields_of (fields_of T b))

pub by_key_start : {T : Tables} {a b first size : ℕ} → SameFieldsAsks T a b → first ≡ first_word_of T.nodes a → size ≡ count_of T.nodes a → ByKey T a b first size 0
by_key_start {T} {a} {b} {first} {size} asks is of =
    let x : first + 0 * 2 ≡ first_word_of T.nodes a = omega arith in
    let z : size - 0 ≡ count_of T.nodes a = omega arith in
    record { asks = asks; is_first = is; is_size = of; inside = omega arith; same_left = rw (x, z) }

module _ {T : Tables} {a b first size i : ℕ} (go : ByKey T a b first size i) where
  left_keyed : KeyedObject T a
  left_keyed = keyed T a b go.asks.both a go.asks.both.left go.asks.left_object

  pub by_key_object : KeyedObject T b
  by_key_object = keyed T a b go.asks.both b go.asks.both.right go.asks.right_object

  module _ (more : i < size) where
    pub by_key_twice : Fits w64 (i * 2)
    by_key_twice = position_fits T a left_keyed go.is_first go.is_size more

    pub by_key_place : Fits w64 (first + i * 2)
    by_key_place = position_key_fits T a left_keyed go.is_first go.is_size more

    pub by_key_value : Fits w64 (first + i * 2 + 1)
    by_key_value = position_value_fits T a left_keyed go.is_first go.is_size more

    fielded : Fielded T first size
    fielded = rw (go.is_first, go.is_size) (object_fielded left_keyed)

    pub by_key_below : {value : ℕ} → value ≡ child_at T.children (first + i * 2 + 1) → value < a
    by_key_below is-value =
        let asks = go.asks.both in
        let wide = width_object (kind_of T.nodes a) (count_of T.nodes a) go.asks.left_object in
        let is_size = go.is_size in
        let e : first_word_of T.nodes a + (i * 2 + 1) ≡ first + i * 2 + 1 = let is = go.is_first in omega arith in
        rw is-value (rw e at (asks.table.below a asks.left.node (i * 2 + 1) (omega arith)).1)

    module _ {key value : ℕ} (is_key : key ≡ child_at T.children (first + i * 2)) (is-value : value ≡ child_at T.children (first + i * 2 + 1)) {found : Prelude.Option ℕ} (is-found : found ≡ node_or_none (under_in T b key)) where
      rest : Bool
      rest = same_fields_lem (value_fields_of (fields (expr T) T.children (first + (i + 1) * 2) (size - (i + 1)))) (value_fields_of (fields_of T b))

      field_step : same_fields_lem (value_fields_of (fields (expr T) T.children (first + i * 2) (size - i))) (value_fields_of (fields_of T b)) ≡ (holds (λ w. same (value_of (expr T value)) w) (value_at T (under_in T b key)) && rest)
      unfolding fields value_of same rest
      field_step =
          let (l, d, q) = key_of T first size fielded i more in
          let e : size - i ≡ suc (size - (i + 1)) = omega arith in
          let x : first + i * 2 + 2 ≡ first + (i + 1) * 2 = omega arith in
          let in-tree : under l (value_fields_of (fields_of T b)) ≡ value_at T (under_in T b key) =
          found_value T (first_word_of T.nodes b) (count_of T.nodes b) (object_fielded by_key_object) l
          ∙ ap (value_at T) (sym (ap (λ (o : Option Literal). under_from T o (first_word_of T.nodes b) (count_of T.nodes b)) (ap (λ (m : ℕ). literal_at T m) is_key ∙ d))) in
          ap (λ (k : ℕ). same_fields_lem (value_fields_of (fields (expr T) T.children (first + i * 2) k)) (value_fields_of (fields_of T b))) e
          ∙ (ap (λ (o : Option Literal). same_fields_lem (filled_field o (value_of (expr T (child_at T.children (first + i * 2 + 1)))) (value_fields_of (fields (expr T) T.children (first + i * 2 + 2) (size - (i + 1))))) (value_fields_of (fields_of T b))) q
          ∙ (ap₂ (λ (o : Option Value) (m : ℕ). holds (λ w. same (value_of (expr T m)) w) o && same_fields_lem (value_fields_of (fields (expr T) T.children (first + i * 2 + 2) (size - (i + 1)))) (value_fields_of (fields_of T b))) in-tree (sym is-value)
          ∙ ap (λ (p : ℕ). holds (λ w. same (value_of (expr T value)) w) (value_at T (under_in T b key)) && same_fields_lem (value_fields_of (fields (expr T) T.children p (size - (i + 1)))) (value_fields_of (fields_of T b))) x))

      pub by_key_missing : found ≡ None → false ≡ same_fields_lem (value_fields_of (fields_of T a)) (value_fields_of (fields_of T b))
      unfolding rest
      by_key_missing none = let z = no_node is-found none in sym (field_step ∙ ap (λ (m : ℕ). holds (λ w. same (value_of (expr T value)) w) (value_at T m) && rest) z) ∙ go.same_left

      module _ {other : ℕ} (some : found ≡ Some other) where
        is-other : other ≡ under_in T b key
        is-other = (node_told is-found some).0

        there : under_in T b key ≡ 0 → ⊥
        there = (node_told is-found some).1

        partner : ValueNode T other
        partner =
            let asks = go.asks.both in
            let (j, lt, e) = found_field T (literal_at T key) (first_word_of T.nodes b) (count_of T.nodes b) there in
            rw is-other (rw e (admitted_value T (value_node T (first_word_of T.nodes b) j) (value_node_lem (object_fielded by_key_object).asks j lt)
            (object_value T asks.table b asks.right.node false asks.right.value go.asks.right_object j lt)))

        pub by_key_ask : SameAsks T value other
        by_key_ask =
            let asks = go.asks.both in
            let lt : i < count_of T.nodes a = rw (← go.is_size) more in
            record {
              table = asks.table;
              left = rw is-value (rw go.is_first (admitted_value T (value_node T (first_word_of T.nodes a) i) (value_node_lem (object_fielded left_keyed).asks i lt)
                  (object_value T asks.table a asks.left.node false asks.left.value go.asks.left_object i lt)));
              right = partner;
            }

        module _ {r : Bool} (is : r ≡ same (value_of (expr T value)) (value_of (expr T other))) where
          told : holds (λ w. same (value_of (expr T value)) w) (value_at T (under_in T b key)) ≡ r
          told = let z = ne_eqb (under_in T b key) 0 there in rw z (sym (rw is-other at is))

          pub by_key_fails : not r ≡ true → false ≡ same_fields_lem (value_fields_of (fields_of T a)) (value_fields_of (fields_of T b))
          by_key_fails t = sym (field_step ∙ ap (λ (x : Bool). x && rest) (told ∙ not-true r t)) ∙ go.same_left

          pub by_key_on : not r ≡ false → ByKey T a b first size (i + 1)
          unfolding rest
          by_key_on t = record {
            asks = go.asks;
            is_first = go.is_first;
            is_size = go.is_size;
            inside = omega arith;
            same_left = sym (field_step ∙ ap (λ (x : Bool). x && rest) (told ∙ not-false r t)) ∙ go.same_left;
          }

  pub by_key_ends : size ≤ i → true ≡ same_fields_lem (value_fields_of (fields_of T a)) (value_fields_of (fields_of T b))
  unfolding fields value_of same
  by_key_ends le = let z : size - i ≡ 0 = omega arith in rw z at go.same_left

-- the measures: a node's is twice its number, its children's one less
pub child_falls : {child parent t : ℕ} → child < parent → 2 * parent - 1 ≡ t → 2 * child < t
child_falls lt e = omega arith

pub parts_fall : {T : Tables} {a b t : ℕ} → SameAsks T a b → 2 * a ≡ t → 2 * a - 1 < t
parts_fall asks e = let l = asks.left.node.low in omega arith
