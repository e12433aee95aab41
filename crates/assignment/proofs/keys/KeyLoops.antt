-- Literal keys, a missing key, and a field's partner, in turn.
use Prim.Native.Nat.{ℕ, suc, ◌+◌, ◌-◌, ◌*◌, ◌^◌, ◌≤◌, ◌<◌}
use mathlib.Core.Path.{◌≡◌, refl, sym, ap, ◌∙◌}
use mathlib.Core.Bool.{true, false, cond}
use mathlib.Core.List.{List}
use native.Mathlib.Omega.{arith}
use mir.Val.{Fits}
use mir.Syntax.{w32, w64}
use borrow.Author.Tests.{eq-eqb, ne_eqb, le-leb, lt-leb}
use lib.Dec.{eqb, leb}
use Rattle.table.specs.Tables.{Tables, kind_of, first_word_of, count_of, child_at}
use Rattle.table.proofs.tests.Scan.{Scan, scan_start, scan_on, scan_fails, scan_ends}
use Rattle.assignment.specs.code.KeyMatching.{partner_of, missing_from, literal_kind, literal_keys, FindAsks, MissingAsks, FieldAsks, FieldSides}

-- the keys in turn
pub record Testing (nodes children : List ℕ) (n first count i : ℕ) : Type 0 where
  pub is_first : first ≡ first_word_of nodes n
  pub is_count : count ≡ count_of nodes n
  pub small : first + count * 2 ≤ 2 ^ 40
  pub scan : Scan (literal_kind nodes children first) 0 count i

pub testing_start : (nodes children : List ℕ) (n : ℕ) {first count : ℕ} → first ≡ first_word_of nodes n → Fits w32 first → count ≡ count_of nodes n → Fits w32 count → Testing nodes children n first count 0
testing_start nodes children n {first} {count} is_first f is_count c =
    let a = f.fits in
    let b = c.fits in
    record { is_first = is_first; is_count = is_count; small = omega arith; scan = scan_start (literal_kind nodes children first) 0 count }

module _ {nodes children : List ℕ} {n first count i : ℕ} (t : Testing nodes children n first count i) where
  module _ (lt : i < count) where
    pub testing_twice : Fits w64 (i * 2)
    testing_twice = let s = t.small in record { fits = omega arith }

    pub testing_key : Fits w64 (first + i * 2)
    testing_key = let s = t.small in record { fits = omega arith }

    module _ {key kind : ℕ} (is_key : key ≡ child_at children (first + i * 2)) (is-kind : kind ≡ kind_of nodes key) where
      kind_is : kind ≡ kind_of nodes (child_at children (first + (0 + i) * 2))
      kind_is = let z : 0 + i ≡ i = omega arith in is-kind ∙ rw (z, is_key)

      pub testing_fails : 5 < kind → false ≡ literal_keys nodes children n
      unfolding literal_keys
      testing_fails h = rw (t.is_first, t.is_count) at (scan_fails t.scan lt (sym (ap (λ (k : ℕ). leb k 5) kind_is) ∙ lt-leb kind 5 h))

      pub testing_on : kind ≤ 5 → Testing nodes children n first count (i + 1)
      testing_on h = record {
        is_first = t.is_first;
        is_count = t.is_count;
        small = t.small;
        scan = scan_on t.scan lt (sym (ap (λ (k : ℕ). leb k 5) kind_is) ∙ le-leb kind 5 h);
      }

  pub testing_ends : count ≤ i → true ≡ literal_keys nodes children n
  unfolding literal_keys
  testing_ends le = rw (t.is_first, t.is_count) at (scan_ends t.scan le)

-- the first key that is missing
pub record Missing (T : Tables) (n : ℕ) (order : List ℕ) (total from count place more : ℕ) : Type 0 where
  pub asks : MissingAsks T n order total place more
  pub same : missing_from T n place more ≡ missing_from T n from count

pub missing_start : {T : Tables} {n : ℕ} {order : List ℕ} {total from count place more : ℕ} → MissingAsks T n order total from count → place ≡ from → more ≡ count
    → Missing T n order total from count place more
missing_start a is of = rw (is, of) (record { asks = a; same = refl })

module _ {T : Tables} {n : ℕ} {order : List ℕ} {total from count place more : ℕ} (m : Missing T n order total from count place more) where
  module _ (some_left : 0 < more) where
    pub missing_fits : Fits w64 place
    missing_fits = let s = m.asks.small in record { fits = omega arith }

    module _ {key : ℕ} (is_key : key ≡ child_at T.children place) where
      pub missing_ask : FindAsks T n order total key
      missing_ask = let e : place + 0 * 2 ≡ place = omega arith in record { in_order = m.asks.in_order; key_ok = rw is_key (rw e at (m.asks.keys 0 some_left)) }

      step : missing_from T n place more ≡ cond (eqb (partner_of T n key) 0) key (missing_from T n (place + 2) (more - 1))
      unfolding missing_from
      step = let a : more ≡ suc (more - 1) = omega arith in ap (λ (k : ℕ). missing_from T n place k) a ∙ simp is_key

      module _ {other : ℕ} (is-other : other ≡ partner_of T n key) where
        pub missing_found : other ≡ 0 → key ≡ missing_from T n from count
        missing_found e = let z = eq-eqb (partner_of T n key) 0 (sym is-other ∙ e) in sym (step ∙ simp z) ∙ m.same

        pub missing_on : {after last : ℕ} → (other ≡ 0 → ⊥) → after ≡ place + 2 → last ≡ more - 1 → Missing T n order total from count after last
        missing_on some-there on of =
            let z = ne_eqb (partner_of T n key) 0 (λ e. some-there (is-other ∙ e)) in
            rw (on, of) (record {
              asks = record {
                in_order = m.asks.in_order;
                keys = λ i lt. let e : place + (i + 1) * 2 ≡ place + 2 + i * 2 = omega arith in rw e at (m.asks.keys (i + 1) (omega arith));
                small = let s = m.asks.small in omega arith;
              };
              same = sym (step ∙ simp z) ∙ m.same;
            })

  pub missing_ends : more ≤ 0 → 0 ≡ missing_from T n from count
  unfolding missing_from
  missing_ends no_more = let z : more ≡ 0 = omega arith in rw z at m.same

-- a field and its partner
module _ {T : Tables} {left : ℕ} {order : List ℕ} {total place : ℕ} (a : FieldAsks T left order total place) {key : ℕ} (is_key : key ≡ child_at T.children place) where
  pub field_find : FindAsks T left order total key
  field_find = record { in_order = a.in_order; key_ok = rw is_key a.key_ok }

  pub field_told : {other value : ℕ} → other ≡ partner_of T left key → value ≡ child_at T.children (place + 1) → FieldSides T left place other value
  field_told is-other is-value = record { left_is = rw is_key at is-other; right_is = is-value }
