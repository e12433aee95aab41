-- The value under a key, found in the table.
use Prim.Native.Nat.{ℕ, zero, suc, ◌+◌, ◌-◌, ◌*◌, ◌≤◌, ◌<◌}
use mathlib.Core.Path.{◌≡◌, refl, sym, ap, ◌∙◌}
use mathlib.Core.List.{List, ◌∷◌}
use mathlib.Core.Bool.{Bool, true, false, cond, ◌&&◌, ◌||◌, not, false≢true}
use mathlib.Core.Option.{Option}
use native.Mathlib.Omega.{arith}
use mir.Val.{Fits}
use mir.Syntax.{w64}
use borrow.Author.Tests.{ne_eqb, not-true, eqb-true, eqb-false}
use lib.Dec.{T as True, eqb}
use lib.ListN.{length}
use Rattle.std.specs.Prelude.{Some, None}
use Rattle.std.specs.Prelude as Prelude
use Rattle.std.specs.Option.{is_some}
use Rattle.literal.specs.Literal.{Literal}
use Rattle.literal.specs.Order.{Order, key_order, compared, comparison_of}
use Rattle.literal.specs.declared.Comparison.{Comparison}
use Rattle.literal.specs.declared.Comparison.TheVariants.{Equal}
use Rattle.table.specs.Tables.{Tables, kind_of, first_word_of, count_of, child_at}
use Rattle.table.specs.Decode.{expr, fields, literal_at, fields_of}
use Rattle.table.proofs.tests.Bools.{and_true}
use Rattle.planner.specs.Layout.{literal_key}
use Rattle.planner.specs.code.Passes.{key_node, value_node}
use Rattle.table.specs.Names.{is_same}
use Rattle.planner.specs.Simple.{same_key, has_key, differing, add_key, keys_of}
use Rattle.planner.proofs.fields.Objects.{key_literal}
use Rattle.value.specs.Value.{filled_field, value_of, value_fields_of, value_at, first_hit, under, within, same_key_sets}
use Rattle.value.specs.code.Post.{ChildrenAsks, same_literals, node_or_none, under_from, under_in, KeyedObject, KeySetsAsks}
use Rattle.value.proofs.Keys.{or_left, or_right, is_true, is_false, true_is, key→, key_refl, sets_by_count, sets_uneven}
use Rattle.value.proofs.Admitted.{object_children, key-node}
use Rattle.value.proofs.Marking.{fields_on, place_fits, value_fits}

-- the comparison of two literals
module _ {way : Comparison} (a b : Option Literal) (is : way ≡ compared a b) where
  pub literals_equal_lem : way ≡ Equal → true ≡ same_literals a b
  unfolding compared
  literals_equal_lem e = go a b (sym is ∙ e)
    where
      by : (o : Order) → comparison_of o ≡ Equal → true ≡ is_same o
      by Order.less p = cc
      by Order.same p = refl
      by Order.more p = cc

      go : (a b : Option Literal) → compared a b ≡ Equal → true ≡ same_literals a b
      go Option.none b p = cc
      go (Option.some x) Option.none p = cc
      go (Option.some x) (Option.some y) p = by (key_order x y) p

  pub literals_differ : (way ≡ Equal → ⊥) → false ≡ same_literals a b
  unfolding compared
  literals_differ e = go a b (λ p. e (is ∙ p))
    where
      by : (o : Order) → (comparison_of o ≡ Equal → ⊥) → false ≡ is_same o
      by Order.less p = refl
      by Order.same p = absurd (p refl)
      by Order.more p = refl

      go : (a b : Option Literal) → (compared a b ≡ Equal → ⊥) → false ≡ same_literals a b
      go Option.none b p = refl
      go (Option.some x) Option.none p = refl
      go (Option.some x) (Option.some y) p = by (key_order x y) p

-- a node that is there, and one that is 0
pub node_there : {n m : ℕ} → 1 ≤ n → n ≡ m → Some n ≡ node_or_none m
node_there {n} low e = let z = ne_eqb n 0 (λ p. omega arith) in rw (← e) (rw z refl)

pub node_told : {r : Prelude.Option ℕ} {n m : ℕ} → r ≡ node_or_none m → r ≡ Some n → (n ≡ m) × (m ≡ 0 → ⊥)
node_told {r} {n} {m} is e = go (eqb m 0) refl (sym e ∙ is)
  where
    go : (b : Bool) → eqb m 0 ≡ b → Some n ≡ cond b None (Some m) → (n ≡ m) × (m ≡ 0 → ⊥)
    go true p q = cc
    go false p q = (cc, eqb-false m 0 p)

pub no_node : {r : Prelude.Option ℕ} {m : ℕ} → r ≡ node_or_none m → r ≡ None → m ≡ 0
no_node {r} {m} is e = go (eqb m 0) refl (sym e ∙ is)
  where
    go : (b : Bool) → eqb m 0 ≡ b → None ≡ cond b None (Some m) → m ≡ 0
    go true p q = eqb-true m 0 p
    go false p q = cc

pub some_is : (m : ℕ) {r : Prelude.Option ℕ} → r ≡ node_or_none m → is_some r ≡ not (eqb m 0)
some_is m {r} is = ap is_some is ∙ go (eqb m 0)
  where
    go : (b : Bool) → is_some (cond b None (Some m)) ≡ not b
    go true = refl
    go false = refl

-- fields in turn
under_step : (T : Tables) (own : Option Literal) (at left : ℕ) → 0 < left
    → under_from T own at left ≡ cond (same_literals own (literal_at T (child_at T.children at))) (child_at T.children (at + 1)) (under_from T own (at + 2) (left - 1))
unfolding under_from
under_step T own at left more = let a : left ≡ suc (left - 1) = omega arith in ap (λ (k : ℕ). under_from T own at k) a

pub record Seeking (T : Tables) (own : Option Literal) (at₀ left₀ at left : ℕ) : Type 0 where
  pub asks : ChildrenAsks T at 2 left
  pub same : under_from T own at left ≡ under_from T own at₀ left₀

pub seeking_start : (T : Tables) (own : Option Literal) (at left : ℕ) {place more : ℕ} → ChildrenAsks T at 2 left → place ≡ at → more ≡ left → Seeking T own at left place more
seeking_start T own at left a is of = rw (is, of) (record { asks = a; same = refl })

module _ {T : Tables} {own : Option Literal} {at₀ left₀ at left : ℕ} (go : Seeking T own at₀ left₀ at left) where
  module _ (more : 0 < left) where
    pub seeking_value_fits : Fits w64 (at + 1)
    seeking_value_fits = value_fits more go.asks

    pub seeking_fits : Fits w64 at
    seeking_fits = place_fits more go.asks

    module _ {other : ℕ} {equal : Bool} (is : other ≡ child_at T.children at) (of : equal ≡ same_literals own (literal_at T other)) where
      pub seeking_found : {value : ℕ} → equal ≡ true → value ≡ child_at T.children (at + 1) → Some value ≡ node_or_none (under_from T own at₀ left₀)
      seeking_found alike e =
          let s : same_literals own (literal_at T (child_at T.children at)) ≡ true = rw (← is) (sym of ∙ alike) in
          let v = go.asks.each 1 (omega arith) in
          node_there (rw e v.low) (e ∙ (sym (under_step T own at left more ∙ rw s) ∙ go.same))

      pub seeking_on : {next rest : ℕ} → equal ≡ false → next ≡ at + 2 → rest ≡ left - 1 → Seeking T own at₀ left₀ next rest
      seeking_on unlike on last =
          let s : same_literals own (literal_at T (child_at T.children at)) ≡ false = rw (← is) (sym of ∙ unlike) in
          rw (on, last) (record { asks = fields_on more go.asks; same = sym (under_step T own at left more ∙ rw s) ∙ go.same })

  pub seeking_ends : left ≤ 0 → None ≡ node_or_none (under_from T own at₀ left₀)
  unfolding under_from
  seeking_ends no_more = let z : left ≡ 0 = omega arith in ap node_or_none (rw z at go.same)

-- k fields with literal keys
pub record Fielded (T : Tables) (at k : ℕ) : Type 0 where
  pub asks : ChildrenAsks T at 2 k
  pub literal : (i : ℕ) → i < k → kind_of T.nodes (key_node T at i) ≤ 5

pub fielded_on : (T : Tables) (at k : ℕ) → Fielded T at (suc k) → Fielded T (at + 2) k
fielded_on T at k f = record {
  asks = record {
    table = f.asks.table;
    each = λ i lt. let e : at + (i + 2) ≡ at + 2 + i = omega arith in rw e at (f.asks.each (i + 2) (omega arith));
    listed = let l = f.asks.listed in omega arith;
  };
  literal = λ i lt. let e : at + (i + 1) * 2 ≡ at + 2 + i * 2 = omega arith in rw e at (f.literal (i + 1) (omega arith));
}

module _ (T : Tables) where
  -- a key's literal, as the table and as the tree have it
  pub key_of : (at k : ℕ) → Fielded T at k → (i : ℕ) → i < k → (l : Literal) × (literal_at T (key_node T at i) ≡ Option.some l) × (literal_key (expr T (key_node T at i)) ≡ Option.some l)
  key_of at k f i lt =
      let n = key-node f.asks i lt in
      let (l, e) = f.asks.table.literals (key_node T at i) n (f.literal i lt) in
      (l, e, key_literal T f.asks.table (key_node T at i) n ∙ e)

  first_of_keys : (at k : ℕ) → Fielded T at (suc k) → (l : Literal) × (literal_at T (child_at T.children at) ≡ Option.some l) × (literal_key (expr T (child_at T.children at)) ≡ Option.some l)
  first_of_keys at k f = let z : at + 0 * 2 ≡ at = omega arith in rw z at (key_of at (suc k) f 0 (omega arith))

  keys_step : (at k : ℕ) (l : Literal) → literal_key (expr T (child_at T.children at)) ≡ Option.some l
      → keys_of (fields (expr T) T.children at (suc k)) ≡ l ∷ keys_of (fields (expr T) T.children (at + 2) k)
  unfolding fields keys_of
  keys_step at k l q = ap (λ (x : Option Literal). add_key x (keys_of (fields (expr T) T.children (at + 2) k))) q

  pub keys_length : (at k : ℕ) → Fielded T at k → length (keys_of (fields (expr T) T.children at k)) ≡ k
  unfolding fields keys_of
  keys_length at zero f = refl
  keys_length at (suc k) f =
      let (l, e, q) = first_of_keys at k f in
      let r = keys_length (at + 2) k (fielded_on T at k f) in
      ap length (keys_step at k l q) ∙ ap suc r

  pub has_key_at : (at k : ℕ) → Fielded T at k → (i : ℕ) → i < k → (l : Literal) → literal_at T (key_node T at i) ≡ Option.some l → True (has_key l (keys_of (fields (expr T) T.children at k)))
  unfolding has_key
  has_key_at at zero f i lt l e = absurd (omega arith)
  has_key_at at (suc k) f zero lt l e =
      let (j, d, q) = first_of_keys at k f in
      let z : at + 0 * 2 ≡ at = omega arith in
      let r : j ≡ l = let h = rw z at e in cc in
      rw (keys_step at k j q) (or_left (same_key l j) (has_key l (keys_of (fields (expr T) T.children (at + 2) k))) (rw r (key_refl l)))
  has_key_at at (suc k) f (suc i) lt l e =
      let (j, d, q) = first_of_keys at k f in
      let z : at + suc i * 2 ≡ at + 2 + i * 2 = omega arith in
      rw (keys_step at k j q) (or_right (same_key l j) (has_key l (keys_of (fields (expr T) T.children (at + 2) k))) (has_key_at (at + 2) k (fielded_on T at k f) i (omega arith) l (rw z at e)))

  -- where the keys differ, a field of an equal key is the one that is found
  found_at : (at k : ℕ) → Fielded T at k → differing (keys_of (fields (expr T) T.children at k)) ≡ true → (own : Option Literal) (i : ℕ) → i < k
      → same_literals own (literal_at T (key_node T at i)) ≡ true → value_node T at i ≡ under_from T own at k
  unfolding under_from differing
  found_at at zero f d own i lt e = absurd (omega arith)
  found_at at (suc k) f d own zero lt e =
      let z : at + 0 * 2 ≡ at = omega arith in
      rw z (let h = rw z at e in rw h)
  found_at at (suc k) f d Option.none (suc i) lt e = absurd (false≢true e)
  found_at at (suc k) f d (Option.some l) (suc i) lt e =
      let (j, p, q) = first_of_keys at k f in
      let z : at + suc i * 2 ≡ at + 2 + i * 2 = omega arith in
      let both = and_true (not (has_key j (keys_of (fields (expr T) T.children (at + 2) k)))) (differing (keys_of (fields (expr T) T.children (at + 2) k))) (rw (keys_step at k j q) at d) in
      let (m, g, h) = key_of (at + 2) k (fielded_on T at k f) i (omega arith) in
      let same-there : same_key l m ≡ true = let s = rw z at e in rw g at s in
      let l-is = key→ l m (true_is same-there) in
      let there = has_key_at (at + 2) k (fielded_on T at k f) i (omega arith) m g in
      let unlike : same_key l j ≡ false = is_false (λ (t : True (same_key l j)).
      let r : j ≡ m = sym (key→ l j t) ∙ l-is in
      let h1 = is_true (rw (← r) at there) in
      false≢true (sym (not-true (has_key j (keys_of (fields (expr T) T.children (at + 2) k))) both.0) ∙ h1)) in
      rw z (found_at (at + 2) k (fielded_on T at k f) both.1 (Option.some l) i (omega arith) (rw z at e)
      ∙ sym (ap (λ (x : Option Literal). cond (same_literals (Option.some l) x) (child_at T.children (at + 1)) (under_from T (Option.some l) (at + 2) k)) p ∙ rw unlike))

  -- what is found is the value node of a field
  pub found_field : (own : Option Literal) (at k : ℕ) → (under_from T own at k ≡ 0 → ⊥) → (i : ℕ) × (i < k) × (under_from T own at k ≡ value_node T at i)
  unfolding under_from
  found_field own at zero some-there = absurd (some-there refl)
  found_field own at (suc k) some-there = go (same_literals own (literal_at T (child_at T.children at))) some-there (λ h. found_field own (at + 2) k h)
    where
      go : (b : Bool) → (cond b (child_at T.children (at + 1)) (under_from T own (at + 2) k) ≡ 0 → ⊥)
          → ((under_from T own (at + 2) k ≡ 0 → ⊥) → (i : ℕ) × (i < k) × (under_from T own (at + 2) k ≡ value_node T (at + 2) i))
          → (i : ℕ) × (i < suc k) × (cond b (child_at T.children (at + 1)) (under_from T own (at + 2) k) ≡ value_node T at i)
      go true h rest = let z : at + 0 * 2 ≡ at = omega arith in (0, omega arith, ap (λ (a : ℕ). child_at T.children (a + 1)) (sym z))
      go false h rest = let (i, lt, e) = rest h in let z : at + 2 + i * 2 ≡ at + suc i * 2 = omega arith in (suc i, omega arith, e ∙ ap (λ (a : ℕ). child_at T.children (a + 1)) z)

  -- a key is there where something is found
  pub found_key : (at k : ℕ) → Fielded T at k → (l : Literal) → has_key l (keys_of (fields (expr T) T.children at k)) ≡ not (eqb (under_from T (Option.some l) at k) 0)
  unfolding has_key under_from fields keys_of
  found_key at zero f l = refl
  found_key at (suc k) f l =
      let (j, p, q) = first_of_keys at k f in
      let v = f.asks.each 1 (omega arith) in
      let r = found_key (at + 2) k (fielded_on T at k f) l in
      ap (has_key l) (keys_step at k j q)
      ∙ (go (same_key l j) v.low r
      ∙ sym (ap (λ (x : Option Literal). not (eqb (cond (same_literals (Option.some l) x) (child_at T.children (at + 1)) (under_from T (Option.some l) (at + 2) k)) 0)) p))
    where
      go : (b : Bool) → 1 ≤ child_at T.children (at + 1) → has_key l (keys_of (fields (expr T) T.children (at + 2) k)) ≡ not (eqb (under_from T (Option.some l) (at + 2) k) 0)
          → (b || has_key l (keys_of (fields (expr T) T.children (at + 2) k))) ≡ not (eqb (cond b (child_at T.children (at + 1)) (under_from T (Option.some l) (at + 2) k)) 0)
      go true low r = let z = ne_eqb (child_at T.children (at + 1)) 0 (λ e. omega arith) in rw z
      go false low r = r

  -- the value under a key, in the tree
  pub found_value : (at k : ℕ) → Fielded T at k → (l : Literal) → under l (value_fields_of (fields (expr T) T.children at k)) ≡ value_at T (under_from T (Option.some l) at k)
  unfolding under under_from fields value_of
  found_value at zero f l = refl
  found_value at (suc k) f l =
      let (j, p, q) = first_of_keys at k f in
      let v = f.asks.each 1 (omega arith) in
      let r = found_value (at + 2) k (fielded_on T at k f) l in
      ap (λ (x : Option Literal). under l (filled_field x (value_of (expr T (child_at T.children (at + 1)))) (value_fields_of (fields (expr T) T.children (at + 2) k)))) q
      ∙ (go (same_key l j) v.low r
      ∙ sym (ap (λ (x : Option Literal). value_at T (cond (same_literals (Option.some l) x) (child_at T.children (at + 1)) (under_from T (Option.some l) (at + 2) k))) p))
    where
      go : (b : Bool) → 1 ≤ child_at T.children (at + 1) → under l (value_fields_of (fields (expr T) T.children (at + 2) k)) ≡ value_at T (under_from T (Option.some l) (at + 2) k)
          → first_hit b (value_of (expr T (child_at T.children (at + 1)))) (under l (value_fields_of (fields (expr T) T.children (at + 2) k))) ≡ value_at T (cond b (child_at T.children (at + 1)) (under_from T (Option.some l) (at + 2) k))
      go true low r = let z = ne_eqb (child_at T.children (at + 1)) 0 (λ e. omega arith) in rw z
      go false low r = r

-- an object
pub object_fielded : {T : Tables} {n : ℕ} → KeyedObject T n → Fielded T (first_word_of T.nodes n) (count_of T.nodes n)
object_fielded {T} {n} o = record { asks = object_children T o.table n o.node o.object; literal = o.literal }

module _ (T : Tables) (n : ℕ) (o : KeyedObject T n) {first size : ℕ} (is_first : first ≡ first_word_of T.nodes n) (is_size : size ≡ count_of T.nodes n) where
  pub ask_scan : ChildrenAsks T first 2 size
  ask_scan = rw (is_first, is_size) (object_fielded o).asks

  module _ {position : ℕ} (in-object : position < size) where
    -- the field at a position of its own
    position_small : first + position * 2 + 1 < 512
    position_small = let l = ask_scan.listed in let few = o.table.limits.children in omega arith

    pub position_fits : Fits w64 (position * 2)
    position_fits = let s = position_small in record { fits = omega arith }

    pub position_key_fits : Fits w64 (first + position * 2)
    position_key_fits = let s = position_small in record { fits = omega arith }

    pub position_value_fits : Fits w64 (first + position * 2 + 1)
    position_value_fits = let s = position_small in record { fits = omega arith }

    pub position_found : (key : ℕ) {other value : ℕ} {equal : Bool} → other ≡ child_at T.children (first + position * 2) → equal ≡ same_literals (literal_at T key) (literal_at T other) → equal ≡ true
        → value ≡ child_at T.children (first + position * 2 + 1) → Some value ≡ node_or_none (under_in T n key)
    position_found key is of alike e =
        let s : same_literals (literal_at T key) (literal_at T (child_at T.children (first_word_of T.nodes n + position * 2))) ≡ true = rw (← is_first) (rw (← is) (sym of ∙ alike)) in
        let v = ask_scan.each (position * 2 + 1) (omega arith) in
        let w : first + (position * 2 + 1) ≡ first + position * 2 + 1 = omega arith in
        let low : 1 ≤ child_at T.children (first + position * 2 + 1) = (rw w at v).low in
        node_there (rw e low) ((rw is_first at e) ∙ found_at T (first_word_of T.nodes n) (count_of T.nodes n) (object_fielded o) o.differ (literal_at T key) position (rw (← is_size) in-object) s)

  pub scan_found : (key : ℕ) {r : Prelude.Option ℕ} → r ≡ node_or_none (under_from T (literal_at T key) first size) → r ≡ node_or_none (under_in T n key)
  scan_found key e = rw (is_first, is_size) at e

-- the key sets of two objects
module _ {T : Tables} {a b : ℕ} (asks : KeySetsAsks T a b) where
  own_keys : ℕ → List Literal
  own_keys n = keys_of (fields_of T n)

  differs : (n : ℕ) → KeyedObject T n → True (differing (own_keys n))
  unfolding own_keys
  differs n o = true_is o.differ

  long : (n : ℕ) → KeyedObject T n → length (own_keys n) ≡ count_of T.nodes n
  unfolding own_keys
  long n o = keys_length T (first_word_of T.nodes n) (count_of T.nodes n) (object_fielded o)

  pub sizes_differ : {size other : ℕ} → size ≡ count_of T.nodes a → other ≡ count_of T.nodes b → (other ≡ size → ⊥) → false ≡ same_key_sets (keys_of (fields_of T a)) (keys_of (fields_of T b))
  unfolding own_keys
  sizes_differ is of uneven =
      let p = long a asks.left in
      let q = long b asks.right in
      sym (sets_uneven (own_keys a) (own_keys b) (differs a asks.left) (differs b asks.right) (λ e. uneven (omega arith)))

-- the first i keys of one object are the other's
pub record Covering (T : Tables) (a b first size i : ℕ) : Type 0 where
  pub asks : KeySetsAsks T a b
  pub is_first : first ≡ first_word_of T.nodes a
  pub is_size : size ≡ count_of T.nodes a
  pub even : count_of T.nodes b ≡ size
  pub inside : i ≤ size
  pub same : within (keys_of (fields (expr T) T.children (first + i * 2) (size - i))) (keys_of (fields_of T b)) ≡ within (keys_of (fields_of T a)) (keys_of (fields_of T b))

pub covering_start : {T : Tables} {a b first size other : ℕ} → KeySetsAsks T a b → first ≡ first_word_of T.nodes a → size ≡ count_of T.nodes a → other ≡ count_of T.nodes b → other ≡ size → Covering T a b first size 0
covering_start {T} {a} {b} {first} {size} asks is of at even =
    let z : first + 0 * 2 ≡ first_word_of T.nodes a = omega arith in
    let y : size - 0 ≡ count_of T.nodes a = omega arith in
    record { asks = asks; is_first = is; is_size = of; even = sym at ∙ even; inside = omega arith; same = rw (z, y) }

module _ {T : Tables} {a b first size i : ℕ} (go : Covering T a b first size i) where
  module _ (more : i < size) where
    fielded : Fielded T first size
    fielded = rw (go.is_first, go.is_size) (object_fielded go.asks.left)

    pub covering_twice : Fits w64 (i * 2)
    covering_twice = position_fits T a go.asks.left go.is_first go.is_size more

    pub covering_place : Fits w64 (first + i * 2)
    covering_place = position_key_fits T a go.asks.left go.is_first go.is_size more

    pub covering_object : KeyedObject T b
    covering_object = go.asks.right

    module _ {key : ℕ} {found : Prelude.Option ℕ} (is : key ≡ child_at T.children (first + i * 2)) (of : found ≡ node_or_none (under_in T b key)) where
      here : (c : Bool) → is_some found ≡ not c → within (keys_of (fields (expr T) T.children (first + i * 2) (size - i))) (keys_of (fields_of T b)) ≡ (not c && within (keys_of (fields (expr T) T.children (first + (i + 1) * 2) (size - (i + 1)))) (keys_of (fields_of T b)))
      unfolding fields keys_of within
      here c p =
          let n = go.asks.left.table in
          let (l, d, q) = key_of T first size fielded i more in
          let e : size - i ≡ suc (size - (i + 1)) = omega arith in
          let s : first + i * 2 + 2 ≡ first + (i + 1) * 2 = omega arith in
          let has = found_key T (first_word_of T.nodes b) (count_of T.nodes b) (object_fielded go.asks.right) l in
          let there : under_from T (Option.some l) (first_word_of T.nodes b) (count_of T.nodes b) ≡ under_in T b key =
          sym (ap (λ (o : Option Literal). under_from T o (first_word_of T.nodes b) (count_of T.nodes b)) (ap (λ (m : ℕ). literal_at T m) is ∙ d)) in
          let has-told : has_key l (keys_of (fields_of T b)) ≡ not c = has ∙ (ap (λ (x : ℕ). not (eqb x 0)) there ∙ (sym (some_is (under_in T b key) of) ∙ p)) in
          ap (λ (k : ℕ). within (keys_of (fields (expr T) T.children (first + i * 2) k)) (keys_of (fields_of T b))) e
          ∙ (ap (λ (ks : List Literal). within ks (keys_of (fields_of T b))) (keys_step T (first + i * 2) (size - (i + 1)) l q)
          ∙ (ap (λ (x : Bool). x && within (keys_of (fields (expr T) T.children (first + i * 2 + 2) (size - (i + 1)))) (keys_of (fields_of T b))) has-told
          ∙ ap (λ (x : ℕ). not c && within (keys_of (fields (expr T) T.children x (size - (i + 1)))) (keys_of (fields_of T b))) s))

      decided : within (keys_of (fields_of T a)) (keys_of (fields_of T b)) ≡ same_key_sets (keys_of (fields_of T a)) (keys_of (fields_of T b))
      unfolding own_keys
      decided =
          let p = long go.asks a go.asks.left in
          let q = long go.asks b go.asks.right in
          let is_size = go.is_size in
          let even = go.even in
          sets_by_count (keys_of (fields_of T a)) (keys_of (fields_of T b)) (differs go.asks a go.asks.left) (differs go.asks b go.asks.right) (omega arith)

      module _ {none : Bool} (told : is_some found ≡ not none) where
        pub covering_fails : none ≡ true → false ≡ same_key_sets (keys_of (fields_of T a)) (keys_of (fields_of T b))
        covering_fails e = sym (here true (rw e at told)) ∙ (go.same ∙ decided)

        pub covering_on : none ≡ false → Covering T a b first size (i + 1)
        covering_on e = record {
          asks = go.asks;
          is_first = go.is_first;
          is_size = go.is_size;
          even = go.even;
          inside = omega arith;
          same = sym (here false (rw e at told)) ∙ go.same;
        }

  pub covering_ends : size ≤ i → true ≡ same_key_sets (keys_of (fields_of T a)) (keys_of (fields_of T b))
  unfolding own_keys within fields keys_of
  covering_ends le =
      let p = long go.asks a go.asks.left in
      let q = long go.asks b go.asks.right in
      let is_size = go.is_size in
      let even = go.even in
      let z : size - i ≡ 0 = omega arith in
      (rw z at go.same) ∙ sets_by_count (keys_of (fields_of T a)) (keys_of (fields_of T b)) (differs go.asks a go.asks.left) (differs go.asks b go.asks.right) (omega arith)
