-- The tests of 32, and the ends that the classes start from.
use Prim.Native.Nat.{ℕ, zero, suc, ◌+◌, ◌-◌, ◌*◌, ◌/◌, ◌≤◌, ◌<◌}
use mathlib.Core.Path.{◌≡◌, refl, sym, ap, ap₂, ◌∙◌, fun_ext}
use mathlib.Core.List.{List}
use mathlib.Core.Bool.{Bool, true, false, cond, ◌&&◌, not, false≢true}
use mathlib.Core.Option.{Option, some}
use native.Mathlib.Omega.{arith}
use mir.Val.{Fits}
use mir.Syntax.{w64}
use borrow.Author.Tests.{eq-eqb, ne_eqb, le-leb, lt-leb, not-true, not-false}
use lib.Dec.{eqb}
use lib.ListN.{length}
use Rattle.literal.specs.Literal.{Literal, null, boolean, number, string}
use Rattle.base.specs.Lists.{all_from}
use Rattle.table.specs.Tables.{Tables, kind_of, first_word_of, count_of, child_at, record_word, node_count}
use Rattle.table.specs.Decode.{expr, items, fields, literal_at}
use Rattle.table.specs.Expr.{Expr, literal}
use Rattle.table.specs.code.Sound.{WellFormed}
use Rattle.table.proofs.tests.Scan.{Scan, scan_start, scan_on, scan_fails, scan_ends}
use Rattle.table.proofs.trees.Trees.{expr_literal, expr_array, expr_object, width_array, width_object}
use Rattle.planner.specs.Layout.{literal_key}
use Rattle.value.specs.Value.{filled_field, value_of, values_of, value_fields_of}
use Rattle.value.specs.code.Post.{ValueNode}
use Rattle.value.proofs.Admitted.{array_item, object_value, array_children, object_children, value_node_lem, keyed_object, admitted_value}
use Rattle.value.proofs.SameValues.{ValueShape, value_literal, value_array, value_object, value_shape}
use Rattle.value.proofs.Under.{Fielded, fielded_on, object_fielded, key_of}
use Rattle.tolerance.specs.Operations.{range_ok, long_enough}
use Rattle.tolerance.specs.code.Decision.{holds_at, every_number, every_number_all, every_number_under}
use Rattle.tolerance.specs.declared.number.Number.{Number as StoredNumber}
use Rattle.tolerance.specs.code.Post.{number_in, number_at, numbers_ok, numbers_ok_in, given_ok, RangesAsks, ListedAsks, NamesAsks, GivenAsks}
use Rattle.tolerance.proofs.nodes.MeetNodes.{is_num, number_literal, number_words}

-- 1. A number in a list
pub no_node : (words : List ℕ) {n : ℕ} → n ≡ 0 → ◌≡◌ {A = StoredNumber} (record { sign = 0; size = 0 }) (number_at words n)
unfolding record_word
no_node words {n} z = let e = eq-eqb n 0 z in rw e

pub some_node : (words : List ℕ) {n : ℕ} {r : StoredNumber} → (n ≡ 0 → ⊥) → r ≡ number_in words (n - 1) → r ≡ number_at words n
unfolding record_word
some_node words {n} {r} nz e =
    let z = ne_eqb n 0 nz in
    let p : (n - 1) * 2 + 0 ≡ (n - 1) * 2 = omega arith in
    rw (z, p) e

pub node_low : {n : ℕ} → (n ≡ 0 → ⊥) → 1 ≤ n
node_low nz = omega (arith, nz)

-- 2. The numbers below a node
all_shift : (f : ℕ → Bool) (i k : ℕ) → all_from f (i + 1) k ≡ all_from (λ j. f (j + 1)) i k
unfolding all_from
all_shift f i zero = refl
all_shift f i (suc k) = ap (λ (b : Bool). f (i + 1) && b) (all_shift f (i + 1) k)

module _ (p : ℕ → Bool) (g : ℕ → Expr) (ch : List ℕ) where
  abbrev ok : ℕ → Bool
  ok place = every_number p (value_of (g (child_at ch place)))

  items_all : (at k : ℕ) → every_number_all p (values_of (items g ch at k)) ≡ all_from (λ i. ok (at + i)) 0 k
  unfolding items value_of every_number all_from
  items_all at zero = refl
  items_all at (suc k) =
      let z : at + 0 ≡ at = omega arith in
      ap₂ ◌&&◌ (ap ok (sym z)) (items_all (at + 1) k ∙ (ap (λ (f : ℕ → Bool). all_from f 0 k) (fun_ext (λ i. let e : at + 1 + i ≡ at + (i + 1) = omega arith in ap ok e)) ∙ sym (all_shift (λ i. ok (at + i)) 0 k)))

fields_all : (T : Tables) (p : ℕ → Bool) (at k : ℕ) → Fielded T at k → every_number_under p (value_fields_of (fields (expr T) T.children at k)) ≡ all_from (λ i. ok p (expr T) T.children (at + 1 + i * 2)) 0 k
unfolding fields value_of every_number all_from
fields_all T p at zero f = refl
fields_all T p at (suc k) f =
    let (l, d, q) = key_of T at (suc k) f 0 (omega arith) in
    let y : at + 0 * 2 ≡ at = omega arith in
    let q' : literal_key (expr T (child_at T.children at)) ≡ some l = rw y at q in
    let z : at + 1 + 0 * 2 ≡ at + 1 = omega arith in
    ap (λ (o : Option Literal). every_number_under p (filled_field o (value_of (expr T (child_at T.children (at + 1)))) (value_fields_of (fields (expr T) T.children (at + 2) k)))) q'
    ∙ ap₂ ◌&&◌ (ap (ok p (expr T) T.children) (sym z))
    (fields_all T p (at + 2) k (fielded_on T at k f)
    ∙ (ap (λ (h : ℕ → Bool). all_from h 0 k) (fun_ext (λ i. let e : at + 2 + 1 + i * 2 ≡ at + 1 + (i + 1) * 2 = omega arith in ap (ok p (expr T) T.children) e)) ∙ sym (all_shift (λ i. ok p (expr T) T.children (at + 1 + i * 2)) 0 k)))

-- the values below a node, `step` child entries from one to the next
pub record Below (T : Tables) (p : ℕ → Bool) (n first step size : ℕ) : Type 0 where
  pub each : (i : ℕ) → i < size → ValueNode T (child_at T.children (first + i * step)) × (child_at T.children (first + i * step) < n)
  pub all : every_number p (value_of (expr T n)) ≡ all_from (λ i. ok p (expr T) T.children (first + i * step)) 0 size
  pub few : step ≤ 2
  pub small : first ≤ 1024
  pub short : size ≤ 512

module _ {T : Tables} {n : ℕ} (asks : RangesAsks T n) (p : ℕ → Bool) where
  below_array : kind_of T.nodes n ≡ 7 → Below T p n (first_word_of T.nodes n) 1 (count_of T.nodes n)
  unfolding value_of every_number
  below_array k =
      let w = asks.table in
      let v = asks.value_ok in
      let c = array_children T w n v.node k in
      let wide = width_array (kind_of T.nodes n) (count_of T.nodes n) k in
      let listed = c.listed in
      let few = w.limits.children in
      record {
        each = λ i lt.
            let e : first_word_of T.nodes n + i * 1 ≡ first_word_of T.nodes n + i = omega arith in
            rw e (admitted_value T (child_at T.children (first_word_of T.nodes n + i)) (c.each i (omega arith)) (array_item T w n v.node false v.value k i lt), (w.below n v.node i (omega arith)).1);
        all = ap (λ (x : Expr). every_number p (value_of x)) (expr_array T w n v.node k)
            ∙ (items_all p (expr T) T.children (first_word_of T.nodes n) (count_of T.nodes n)
            ∙ ap (λ (f : ℕ → Bool). all_from f 0 (count_of T.nodes n)) (fun_ext (λ i. let e : first_word_of T.nodes n + i ≡ first_word_of T.nodes n + i * 1 = omega arith in ap (ok p (expr T) T.children) e)));
        few = omega arith;
        small = omega arith;
        short = omega arith;
      }

  below_object : kind_of T.nodes n ≡ 9 → Below T p n (first_word_of T.nodes n + 1) 2 (count_of T.nodes n)
  unfolding value_of every_number
  below_object k =
      let w = asks.table in
      let v = asks.value_ok in
      let c = object_children T w n v.node k in
      let wide = width_object (kind_of T.nodes n) (count_of T.nodes n) k in
      let listed = c.listed in
      let few = w.limits.children in
      record {
        each = λ i lt.
            let e : first_word_of T.nodes n + 1 + i * 2 ≡ first_word_of T.nodes n + i * 2 + 1 = omega arith in
            let d : first_word_of T.nodes n + (i * 2 + 1) ≡ first_word_of T.nodes n + i * 2 + 1 = omega arith in
            rw e (admitted_value T (child_at T.children (first_word_of T.nodes n + i * 2 + 1)) (value_node_lem c i lt) (object_value T w n v.node false v.value k i lt), rw d at (w.below n v.node (i * 2 + 1) (omega arith)).1);
        all = ap (λ (x : Expr). every_number p (value_of x)) (expr_object T w n v.node k)
            ∙ fields_all T p (first_word_of T.nodes n) (count_of T.nodes n) (object_fielded (keyed_object T w n v.node false v.value k));
        few = omega arith;
        small = omega arith;
        short = omega arith;
      }

-- 3. A value
module _ {T : Tables} {n : ℕ} (asks : RangesAsks T n) (lows highs : List ℕ) {kind : ℕ} (is-kind : kind ≡ kind_of T.nodes n) where
  leaf : kind ≤ 5 → (l : Literal) × (literal_at T n ≡ some l) × (expr T n ≡ literal n l)
  leaf low =
      let h : kind_of T.nodes n ≤ 5 = omega arith in
      let (l, q) = asks.table.literals n asks.value_ok.node h in
      (l, q, expr_literal T asks.table n asks.value_ok.node l h q)

  pub number_met : kind ≡ 3 → {r : Bool} → r ≡ range_ok lows highs n → r ≡ numbers_ok T lows highs n
  unfolding value_of every_number
  number_met three e =
      let (l, q, t) = leaf (omega arith) in
      let w = number_words T n l (sym is-kind ∙ three) q in
      e ∙ sym (ap (λ (x : Expr). every_number (range_ok lows highs) (value_of x)) t ∙ ap (holds_at (range_ok lows highs) n) w)

  pub literal_met_lem : (kind ≡ 3 → ⊥) → kind ≤ 5 → true ≡ numbers_ok T lows highs n
  unfolding value_of every_number
  literal_met_lem not_three low =
      let (l, q, t) = leaf low in
      let f : is_num l ≡ false = number_literal T n l q ∙ (sym (ap (λ (x : ℕ). eqb x 3) is-kind) ∙ ne_eqb kind 3 not_three) in
      sym (ap (λ (x : Expr). every_number (range_ok lows highs) (value_of x)) t ∙ by l f)
    where
      by : (l : Literal) → is_num l ≡ false → holds_at (range_ok lows highs) n l ≡ true
      by null f = refl
      by (boolean b) f = refl
      by (number s k) f = absurd (false≢true (sym f))
      by (string bs) f = refl

-- its parts in turn
pub record Ranging (T : Tables) (lows highs : List ℕ) (n first step size i : ℕ) : Type 0 where
  pub table : WellFormed T
  pub below : Below T (range_ok lows highs) n first step size
  pub scan : Scan (λ j. numbers_ok T lows highs (child_at T.children (first + j * step))) 0 size i

module _ {T : Tables} {n : ℕ} (asks : RangesAsks T n) (lows highs : List ℕ) {kind : ℕ} (is-kind : kind ≡ kind_of T.nodes n) (high : 5 < kind) where
  has_parts : {first step at size : ℕ} → at ≡ first_word_of T.nodes n → step ≡ cond (eqb kind 7) 1 2 → first ≡ at + step - 1 → size ≡ count_of T.nodes n → Below T (range_ok lows highs) n first step size
  has_parts {first} {step} {at} {size} is_at is-step is_first is_size = let s = value_shape T asks.table n asks.value_ok in go s.0 s.2
    where
      go : (e : Expr) → ValueShape T n e → Below T (range_ok lows highs) n first step size
      go e (value_literal l h) = absurd (omega arith)
      go e (value_array h) =
          let k = eq-eqb kind 7 (is-kind ∙ h) in
          let one : step ≡ 1 = is-step ∙ ap (λ (b : Bool). cond b 1 2) k in
          let f : first ≡ first_word_of T.nodes n = omega arith in
          rw (f, one, is_size) (below_array asks (range_ok lows highs) h)
      go e (value_object h) =
          let k = ne_eqb kind 7 (λ q. omega arith) in
          let two : step ≡ 2 = is-step ∙ ap (λ (b : Bool). cond b 1 2) k in
          let f : first ≡ first_word_of T.nodes n + 1 = omega arith in
          rw (f, two, is_size) (below_object asks (range_ok lows highs) h)

  module _ {at step : ℕ} (is-step : step ≡ cond (eqb kind 7) 1 2) (is_at : at ≡ first_word_of T.nodes n) where
    step_some : (b : Bool) → step ≡ cond b 1 2 → 1 ≤ step
    step_some true e = omega arith
    step_some false e = omega arith

    pub first_low : 1 ≤ at + step
    first_low = let l = step_some (eqb kind 7) is-step in omega arith

    pub first_fits : Fits w64 (at + step)
    first_fits = let s = (has_parts is_at is-step refl refl).small in record { fits = omega arith }

  pub ranging_start : {step at size : ℕ} → step ≡ cond (eqb kind 7) 1 2 → at ≡ first_word_of T.nodes n → size ≡ count_of T.nodes n → Ranging T lows highs n (at + step - 1) step size 0
  ranging_start {step} {at} {size} is-step is_at is_size =
      record { table = asks.table; below = has_parts is_at is-step refl is_size; scan = scan_start (λ j. numbers_ok T lows highs (child_at T.children (at + step - 1 + j * step))) 0 size }

module _ {T : Tables} {lows highs : List ℕ} {n first step size i : ℕ} (go : Ranging T lows highs n first step size i) where
  module _ (more : i < size) where
    twice : i * step ≤ 1024
    twice = by step go.below.few
      where
        by : (s : ℕ) → s ≤ 2 → i * s ≤ 1024
        by zero le = omega arith
        by (suc zero) le = let l = go.below.short in omega arith
        by (suc (suc zero)) le = let l = go.below.short in omega arith
        by (suc (suc (suc s))) le = absurd (omega arith)

    pub ranging_times : Fits w64 (i * step)
    ranging_times = let t = twice in record { fits = omega arith }

    pub ranging_place : Fits w64 (first + i * step)
    ranging_place = let t = twice in let s = go.below.small in record { fits = omega arith }

    module _ {child : ℕ} (is : child ≡ child_at T.children (first + i * step)) where
      pub ranging_ask : RangesAsks T child
      ranging_ask = record { table = go.table; value_ok = rw is (go.below.each i more).0 }

      pub ranging_falls : {t : ℕ} → n ≡ t → child < t
      ranging_falls e = rw (← e) (rw is (go.below.each i more).1)

      module _ {r : Bool} (e : r ≡ numbers_ok T lows highs child) where
        here : numbers_ok T lows highs (child_at T.children (first + (0 + i) * step)) ≡ r
        here = let z : 0 + i ≡ i = omega arith in rw z (sym (e ∙ ap (numbers_ok T lows highs) is))

        pub ranging_fails : not r ≡ true → false ≡ numbers_ok T lows highs n
        ranging_fails t = scan_fails go.scan more (here ∙ not-true r t) ∙ sym go.below.all

        pub ranging_on : not r ≡ false → Ranging T lows highs n first step size (i + 1)
        ranging_on t = record { table = go.table; below = go.below; scan = scan_on go.scan more (here ∙ not-false r t) }

  pub ranging_ends : size ≤ i → true ≡ numbers_ok T lows highs n
  ranging_ends le = scan_ends go.scan le ∙ sym go.below.all

-- 4. All names' values, in turn
pub record Giving (T : Tables) (lows highs list : List ℕ) (i : ℕ) : Type 0 where
  pub asks : NamesAsks T list
  pub scan : Scan (numbers_ok_in T lows highs list) 0 128 i

pub giving_start : {T : Tables} {list : List ℕ} → NamesAsks T list → (lows highs : List ℕ) → Giving T lows highs list 0
giving_start {T} {list} asks lows highs = record { asks = asks; scan = scan_start (numbers_ok_in T lows highs list) 0 128 }

module _ {T : Tables} {lows highs list : List ℕ} {i : ℕ} (go : Giving T lows highs list i) where
  module _ (more : i < 128) where
    pub giving_ask : ListedAsks T list i
    giving_ask = record { table = go.asks.table; list_ok = go.asks.list_ok; inside = more }

    module _ {r : Bool} (e : r ≡ numbers_ok_in T lows highs list i) where
      giving_here : numbers_ok_in T lows highs list (0 + i) ≡ r
      giving_here = let z : 0 + i ≡ i = omega arith in rw z (sym e)

      pub giving_fails : not r ≡ true → false ≡ all_from (numbers_ok_in T lows highs list) 0 128
      giving_fails t = scan_fails go.scan more (giving_here ∙ not-true r t)

      pub giving_on : not r ≡ false → Giving T lows highs list (i + 1)
      giving_on t = record { asks = go.asks; scan = scan_on go.scan more (giving_here ∙ not-false r t) }

  pub giving_ends : 128 ≤ i → true ≡ all_from (numbers_ok_in T lows highs list) 0 128
  giving_ends le = scan_ends go.scan le

-- 5. The lists' lengths, the value and the names
module _ {T : Tables} {value : ℕ} {list : List ℕ} (asks : GivenAsks T value list) (lows highs : List ℕ) where
  pub short_low : length lows / 2 < length T.nodes / 5 → false ≡ given_ok T value lows highs list
  unfolding given_ok
  short_low lt = let e : long_enough T lows ≡ false = lt-leb (node_count T) (length lows / 2) lt in rw e

  pub given_ask : RangesAsks T value
  given_ask = record { table = asks.table; value_ok = asks.value_ok }

  pub given_names : NamesAsks T list
  given_names = record { table = asks.table; list_ok = asks.list_ok }

  module _ (low : length T.nodes / 5 ≤ length lows / 2) where
    long_low : long_enough T lows ≡ true
    long_low = le-leb (node_count T) (length lows / 2) low

    pub short_high : length highs / 2 < length T.nodes / 5 → false ≡ given_ok T value lows highs list
    unfolding given_ok
    short_high lt = let e : long_enough T highs ≡ false = lt-leb (node_count T) (length highs / 2) lt in rw (long_low, e)

    module _ (high : length T.nodes / 5 ≤ length highs / 2) {r : Bool} (e : r ≡ numbers_ok T lows highs value) where
      long_high : long_enough T highs ≡ true
      long_high = le-leb (node_count T) (length highs / 2) high

      pub given_value : not r ≡ true → false ≡ given_ok T value lows highs list
      unfolding given_ok
      given_value t = let f : numbers_ok T lows highs value ≡ false = sym e ∙ not-true r t in rw (long_low, long_high, f)

      pub given_told : not r ≡ false → {b : Bool} → b ≡ all_from (numbers_ok_in T lows highs list) 0 128 → b ≡ given_ok T value lows highs list
      unfolding given_ok
      given_told t q = let f : numbers_ok T lows highs value ≡ true = sym e ∙ not-false r t in rw (long_low, long_high, f) q
