-- Keys that an object lacks, as the code finds them.
use Prim.Native.Nat.{ℕ, suc, ◌+◌, ◌-◌, ◌*◌, ◌≤◌, ◌<◌}
use mathlib.Core.Path.{◌≡◌, refl, sym, ap, ap₂, ◌∙◌}
use mathlib.Core.List.{◌∷◌}
use mathlib.Core.Bool.{Bool, true, false, cond, not, false≢true}
use mathlib.Core.Option.{Option, none, some}
use native.Mathlib.Omega.{arith}
use mir.Val.{Fits}
use mir.Syntax.{w64}
use lib.Dec.{eqb}
use Rattle.std.specs.Prelude.{Some, None}
use Rattle.std.specs.Prelude as Prelude
use Rattle.std.specs.Option.{is_some}
use Rattle.literal.specs.Literal.{Literal}
use Rattle.literal.specs.Order.{Order, key_order, compared, comparison_of}
use Rattle.literal.specs.declared.Comparison.{Comparison}
use Rattle.literal.specs.declared.Comparison.TheVariants.{Less}
use Rattle.table.specs.Tables.{Tables, first_word_of, count_of, child_at}
use Rattle.table.specs.Decode.{expr, fields, literal_at}
use Rattle.planner.specs.Layout.{Slot}
use Rattle.planner.specs.Simple.{has_key, add_key, keys_of}
use Rattle.planner.proofs.fields.Objects.{node_of_lem}
use Rattle.value.specs.code.Post.{node_or_none, under_from, under_in, KeyedObject, KeySetsAsks}
use Rattle.value.proofs.Admitted.{key-node}
use Rattle.value.proofs.Under.{some_is, Fielded, object_fielded, found_key, key_of, position_fits, position_key_fits}
use Rattle.first_miss.specs.Miss.{slot, add_slot, is_less, lesser, missing_key, other_key}
use Rattle.first_miss.specs.code.Walk.{slots_of}
use Rattle.first_miss.specs.code.Post.{comes_before, slot_by, slot_at, IsKey, LesserAsks, keys_at, LesserTold, MissingTold, key_in}

-- 1. Key order
module _ {way : Comparison} (a b : Option Literal) (is : way ≡ compared a b) where
  pub before_less : way ≡ Less → true ≡ comes_before a b
  unfolding compared
  before_less e = go a b (sym is ∙ e)
    where
      by : (o : Order) → comparison_of o ≡ Less → true ≡ is_less o
      by Order.less p = refl
      by Order.same p = cc
      by Order.more p = cc

      go : (a b : Option Literal) → compared a b ≡ Less → true ≡ comes_before a b
      go none b p = cc
      go (some x) none p = cc
      go (some x) (some y) p = by (key_order x y) p

  pub before_not : (way ≡ Less → ⊥) → false ≡ comes_before a b
  unfolding compared
  before_not e = go a b (λ p. e (is ∙ p))
    where
      by : (o : Order) → (comparison_of o ≡ Less → ⊥) → false ≡ is_less o
      by Order.less p = absurd (p refl)
      by Order.same p = refl
      by Order.more p = refl

      go : (a b : Option Literal) → (compared a b ≡ Less → ⊥) → false ≡ comes_before a b
      go none b p = refl
      go (some x) none p = refl
      go (some x) (some y) p = by (key_order x y) p

-- 2. The least missing key so far
slot_is : {T : Tables} {n : ℕ} (k : IsKey T n) → slot_at T (Some n) ≡ some (slot k.key n)
slot_is {T} {n} k = ap (slot_by n) k.is

only_key : {T : Tables} {key : ℕ} → IsKey T key → (n : ℕ) → Some key ≡ Some n → IsKey T n
only_key {T} {key} k n e = let alike : n ≡ key = cc in rw alike k

module _ (T : Tables) (object key : ℕ) (least : Prelude.Option ℕ) (asks : LesserAsks T object key least) {found : Prelude.Option ℕ} (of : found ≡ node_or_none (under_in T object key)) {there : Bool} (is-there : there ≡ is_some found) where
  has : (l : Literal) → literal_at T key ≡ some l → has_key l (keys_at T object) ≡ there
  has l e =
      found_key T (first_word_of T.nodes object) (count_of T.nodes object) (object_fielded asks.keyed) l
      ∙ (ap (λ (x : ℕ). not (eqb x 0)) (sym (ap (λ (o : Option Literal). under_from T o (first_word_of T.nodes object) (count_of T.nodes object)) e)) ∙ sym (is-there ∙ some_is (under_in T object key) of))

  by_test : (c : Bool) → there ≡ c → (r : Prelude.Option ℕ) → ((l : Literal) → literal_at T key ≡ some l → slot_at T r ≡ cond c (slot_at T least) (some (lesser (slot l key) (slot_at T least)))) → ((n : ℕ) → r ≡ Some n → IsKey T n) → LesserTold T object key least r
  by_test c z r f ok = record {
    is = λ l e. f l e ∙ sym (ap (λ (b : Bool). cond b (slot_at T least) (some (lesser (slot l key) (slot_at T least)))) (has l e ∙ z));
    ok = ok;
  }

  pub lesser_there : there ≡ true → LesserTold T object key least least
  lesser_there t = by_test true t least (λ l e. refl) asks.least_ok

  module _ (z : there ≡ false) where
    pub lesser_first : least ≡ None → LesserTold T object key least (Some key)
    lesser_first none_yet = by_test false z (Some key) (λ l e. ap (slot_by key) e ∙ rw none_yet) (only_key asks.key_ok)

    module _ {other : ℕ} (some_yet : least ≡ Some other) {b : Bool} (is : b ≡ comes_before (literal_at T key) (literal_at T other)) where
      yet : IsKey T other
      yet = asks.least_ok other some_yet

      compared_is : (l : Literal) → literal_at T key ≡ some l → is_less (key_order l yet.key) ≡ b
      compared_is l e = sym (is ∙ ap₂ comes_before e yet.is)

      slot_yet : slot_at T least ≡ some (slot yet.key other)
      slot_yet = ap (slot_at T) some_yet ∙ slot_is yet

      kept : (l : Literal) → literal_at T key ≡ some l → some (lesser (slot l key) (slot_at T least)) ≡ some (cond b (slot l key) (slot yet.key other))
      kept l e =
          ap (λ (o : Option (Slot ℕ)). some (lesser (slot l key) o)) slot_yet
          ∙ ap (λ (c : Bool). some (cond c (slot l key) (slot yet.key other))) (compared_is l e)

      pub lesser_less : b ≡ true → LesserTold T object key least (Some key)
      lesser_less t = by_test false z (Some key) (λ l e. ap (slot_by key) e ∙ sym (kept l e ∙ ap (λ (c : Bool). some (cond c (slot l key) (slot yet.key other))) t)) (only_key asks.key_ok)

      pub lesser_kept : b ≡ false → LesserTold T object key least (Some other)
      lesser_kept t = by_test false z (Some other) (λ l e. slot_is yet ∙ sym (kept l e ∙ ap (λ (c : Bool). some (cond c (slot l key) (slot yet.key other))) t)) (only_key yet)

-- 3. All keys of an object, from the last to the first
pub record Leasting (T : Tables) (a b first left : ℕ) (least : Prelude.Option ℕ) : Type 0 where
  pub asks : KeySetsAsks T a b
  pub is_first : first ≡ first_word_of T.nodes a
  pub inside : left ≤ count_of T.nodes a
  pub same : slot_at T least ≡ missing_key (keys_at T b) (slots_of (fields (expr T) T.children (first + left * 2) (count_of T.nodes a - left)))
  pub ok : (n : ℕ) → least ≡ Some n → IsKey T n

pub leasting_start : {T : Tables} {a b first left : ℕ} → KeySetsAsks T a b → first ≡ first_word_of T.nodes a → left ≡ count_of T.nodes a → Leasting T a b first left None
unfolding missing_key slots_of fields
leasting_start {T} {a} {b} {first} {left} asks is of =
    let z : count_of T.nodes a - left ≡ 0 = omega arith in
    record { asks = asks; is_first = is; inside = omega arith; same = rw z; ok = λ n e. absurd (false≢true (cc)) }

module _ {T : Tables} {a b first left : ℕ} {least : Prelude.Option ℕ} (go : Leasting T a b first left least) where
  module _ (more : 0 < left) where
    lower : left - 1 < count_of T.nodes a
    lower = let i = go.inside in omega arith

    pub leasting_twice : Fits w64 ((left - 1) * 2)
    leasting_twice = position_fits T a go.asks.left go.is_first refl lower

    pub leasting_place : Fits w64 (first + (left - 1) * 2)
    leasting_place = position_key_fits T a go.asks.left go.is_first refl lower

    fielded : Fielded T first (count_of T.nodes a)
    fielded = rw go.is_first (object_fielded go.asks.left)

    module _ {key : ℕ} (is : key ≡ child_at T.children (first + (left - 1) * 2)) where
      pub leasting_ask : LesserAsks T b key least
      leasting_ask =
          let (l, d, q) = key_of T first (count_of T.nodes a) fielded (left - 1) lower in
          let n = key-node fielded.asks (left - 1) lower in
          record { keyed = go.asks.right; key_ok = record { key = l; is = rw is d; low = rw is n.low }; least_ok = go.ok }

      pub leasting_on : {r : Prelude.Option ℕ} → LesserTold T b key least r → Leasting T a b first (left - 1) r
      unfolding missing_key slots_of fields
      leasting_on {r} t =
          let (l, d, q) = key_of T first (count_of T.nodes a) fielded (left - 1) lower in
          let n = key-node fielded.asks (left - 1) lower in
          let m = node_of_lem T fielded.asks.table (child_at T.children (first + (left - 1) * 2)) n in
          let e : count_of T.nodes a - (left - 1) ≡ suc (count_of T.nodes a - left) = omega arith in
          let x : first + (left - 1) * 2 + 2 ≡ first + left * 2 = omega arith in
          record {
            asks = go.asks;
            is_first = go.is_first;
            inside = omega arith;
            same = t.is l (rw is d)
                ∙ (ap₂ (λ (o : Option (Slot ℕ)) (k : ℕ). cond (has_key l (keys_at T b)) o (some (lesser (slot l k) o))) go.same is
                ∙ sym (ap (λ (k : ℕ). missing_key (keys_at T b) (slots_of (fields (expr T) T.children (first + (left - 1) * 2) k))) e
                ∙ (ap₂ (λ (o : Option Literal) (k : ℕ). missing_key (keys_at T b) (add_slot o k (slots_of (fields (expr T) T.children (first + (left - 1) * 2 + 2) (count_of T.nodes a - left))))) q m
                ∙ ap (λ (y : ℕ). missing_key (keys_at T b) (slot l (child_at T.children (first + (left - 1) * 2)) ∷ slots_of (fields (expr T) T.children y (count_of T.nodes a - left)))) x)));
            ok = t.ok;
          }

  pub leasting_ends : left ≤ 0 → MissingTold T a b least
  leasting_ends le =
      let is = go.is_first in
      let z : left ≡ 0 = omega arith in
      let x : first + 0 * 2 ≡ first_word_of T.nodes a = omega arith in
      let y : count_of T.nodes a - 0 ≡ count_of T.nodes a = omega arith in
      record { is = rw (x, y) at (rw z at go.same); ok = go.ok }

-- 4. All keys of an object as written
pub record Seeking (T : Tables) (a b first size i : ℕ) : Type 0 where
  pub asks : KeySetsAsks T a b
  pub is_first : first ≡ first_word_of T.nodes a
  pub is_size : size ≡ count_of T.nodes a
  pub inside : i ≤ size
  pub same : other_key (keys_at T b) i (keys_of (fields (expr T) T.children (first + i * 2) (size - i))) ≡ other_key (keys_at T b) 0 (keys_at T a)

pub seeking_start : {T : Tables} {a b first size : ℕ} → KeySetsAsks T a b → first ≡ first_word_of T.nodes a → size ≡ count_of T.nodes a → Seeking T a b first size 0
seeking_start {T} {a} {b} {first} {size} asks is of =
    let x : first + 0 * 2 ≡ first_word_of T.nodes a = omega arith in
    let z : size - 0 ≡ count_of T.nodes a = omega arith in
    record { asks = asks; is_first = is; is_size = of; inside = omega arith; same = rw (x, z) }

module _ {T : Tables} {a b first size i : ℕ} (go : Seeking T a b first size i) where
  module _ (more : i < size) where
    pub seeking_twice : Fits w64 (i * 2)
    seeking_twice = position_fits T a go.asks.left go.is_first go.is_size more

    pub seeking_place : Fits w64 (first + i * 2)
    seeking_place = position_key_fits T a go.asks.left go.is_first go.is_size more

    pub seeking_object : KeyedObject T b
    seeking_object = go.asks.right

    all_fields : Fielded T first size
    all_fields = rw (go.is_first, go.is_size) (object_fielded go.asks.left)

    module _ {key : ℕ} {value : Prelude.Option ℕ} (is : key ≡ child_at T.children (first + i * 2)) (of : value ≡ node_or_none (under_in T b key)) {lacks : Bool} (told-lacks : is_some value ≡ not lacks) where
      here : (c : Bool) → lacks ≡ c → cond (not c) (other_key (keys_at T b) (i + 1) (keys_of (fields (expr T) T.children (first + (i + 1) * 2) (size - (i + 1))))) (some i) ≡ other_key (keys_at T b) 0 (keys_at T a)
      unfolding fields keys_of other_key
      here c p =
          let (l, d, q) = key_of T first size all_fields i more in
          let e : size - i ≡ suc (size - (i + 1)) = omega arith in
          let s : first + i * 2 + 2 ≡ first + (i + 1) * 2 = omega arith in
          let found : has_key l (keys_at T b) ≡ not c =
          found_key T (first_word_of T.nodes b) (count_of T.nodes b) (object_fielded go.asks.right) l
          ∙ (ap (λ (x : ℕ). not (eqb x 0)) (sym (ap (λ (o : Option Literal). under_from T o (first_word_of T.nodes b) (count_of T.nodes b)) (ap (λ (m : ℕ). literal_at T m) is ∙ d))) ∙ (sym (some_is (under_in T b key) of) ∙ (told-lacks ∙ ap not p))) in
          sym (ap (λ (x : Bool). cond x (other_key (keys_at T b) (i + 1) (keys_of (fields (expr T) T.children (first + (i + 1) * 2) (size - (i + 1))))) (some i)) found)
          ∙ (sym (ap (λ (x : ℕ). cond (has_key l (keys_at T b)) (other_key (keys_at T b) (i + 1) (keys_of (fields (expr T) T.children x (size - (i + 1))))) (some i)) s)
          ∙ (sym (ap (λ (o : Option Literal). other_key (keys_at T b) i (add_key o (keys_of (fields (expr T) T.children (first + i * 2 + 2) (size - (i + 1)))))) q)
          ∙ (sym (ap (λ (k : ℕ). other_key (keys_at T b) i (keys_of (fields (expr T) T.children (first + i * 2) k))) e)
          ∙ go.same)))

      pub seeking_found : lacks ≡ true → Some key ≡ key_in T a (other_key (keys_at T b) 0 (keys_at T a))
      seeking_found z =
          let f = here true z in
          let x : first + i * 2 ≡ first_word_of T.nodes a + i * 2 = let e = go.is_first in omega arith in
          ap Some (is ∙ ap (child_at T.children) x) ∙ ap (key_in T a) f

      pub seeking_on : lacks ≡ false → Seeking T a b first size (i + 1)
      seeking_on nz = record { asks = go.asks; is_first = go.is_first; is_size = go.is_size; inside = omega arith; same = here false nz }

  pub seeking_ends : size ≤ i → None ≡ key_in T a (other_key (keys_at T b) 0 (keys_at T a))
  unfolding fields keys_of other_key
  seeking_ends le =
      let z : size - i ≡ 0 = omega arith in
      let f : none ≡ other_key (keys_at T b) 0 (keys_at T a) = rw z at go.same in
      ap (key_in T a) f
