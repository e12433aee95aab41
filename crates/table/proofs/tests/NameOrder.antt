-- Names in the order of their bytes: the search for a place, the insertion there, and the pass over the names.
use Prim.Native.Nat.{ℕ, ◌+◌, ◌-◌, ◌/◌, ◌≤◌, ◌<◌}
use mathlib.Core.Path.{◌≡◌, refl, sym, ap, ◌∙◌}
use mathlib.Core.Logic.{◌⊎◌, inl, inr}
use mathlib.Core.Bool.{true, false, not}
use mathlib.Core.List.{List, []}
use native.Mathlib.Nat.{eq-or-lt_of_le}
use native.Mathlib.Omega.{arith}
use lib.ListN.{length, get_or, replicate}
use Rattle.std.specs.Prelude.{Result, Ok, Err}
use Rattle.base.specs.code.Search.{Placed}
use Rattle.literal.specs.Order.{Order, less, same, more, opposite, bytes_order, comparison_of}
use Rattle.literal.specs.declared.Comparison.{Comparison}
use Rattle.literal.specs.declared.Comparison.TheVariants.{Less, Equal, Greater}
use Rattle.literal.proofs.Orders.{three_ways, bytes_order_lem}
use Rattle.literal.proofs.Searched.{Searches, never_none}
use Rattle.base.specs.Insertion.{moved}
use Rattle.base.proofs.Moving.{moved_front, moved_here, moved_next, moved_length}
use Rattle.base.proofs.Search.{placed_as}
use Rattle.table.specs.Tables.{tables, name_bytes}
use Rattle.table.specs.code.NameOrder.{order_at, Ascending, NameBetween, FoundName}
use Rattle.table.specs.Rules.{differ_at, new_name_at, names_differ}
use Rattle.table.proofs.tests.Bools.{never}
use Rattle.table.proofs.tests.Bytes.{same_bytes_equal, equal_same_bytes, unequal_bytes, same_equal}
use Rattle.table.proofs.tests.Scan.{Scan, scan_start, all_on, all_of, all_not}
use Rattle.table.proofs.tests.Clauses.{names_fail}

-- the answer of a comparison
less_told : (o : Order) → comparison_of o ≡ Less → o ≡ less
less_told less e = refl
less_told same e = never (cc)
less_told more e = never (cc)

more_told : (o : Order) → comparison_of o ≡ Greater → o ≡ more
more_told less e = never (cc)
more_told same e = never (cc)
more_told more e = refl

flip_more : (a b : List ℕ) → bytes_order a b ≡ more → bytes_order b a ≡ less
flip_more a b e = bytes_order_lem.antisymmetric a b ∙ ap opposite e

flip_less : (a b : List ℕ) → bytes_order a b ≡ less → bytes_order b a ≡ more
flip_less a b e = bytes_order_lem.antisymmetric a b ∙ ap opposite e

-- what a comparison at place m says of the places before and behind
module _ {name : ℕ → List ℕ} {order : List ℕ} {count : ℕ} (a : Ascending name order count) (bytes : List ℕ) where
  more_before : (m : ℕ) → m < count → order_at name bytes order m ≡ more → (q : ℕ) → q ≤ m → order_at name bytes order q ≡ more
  more_before m lt e q le = go (eq-or-lt_of_le le)
    where
      go : (q ≡ m) ⊎ (q < m) → order_at name bytes order q ≡ more
      go (inl h) = rw h e
      go (inr h) =
          flip_less (name (get_or order q 0)) bytes
          (bytes_order_lem.transitive (name (get_or order q 0)) (name (get_or order m 0)) bytes (a.ascend q m h lt) (flip_more bytes (name (get_or order m 0)) e))

  less_behind : (m : ℕ) → m < count → order_at name bytes order m ≡ less → (q : ℕ) → m ≤ q → q < count → order_at name bytes order q ≡ less
  less_behind m lt e q le inside = go (eq-or-lt_of_le le)
    where
      go : (m ≡ q) ⊎ (m < q) → order_at name bytes order q ≡ less
      go (inl h) = rw (← h) e
      go (inr h) = bytes_order_lem.transitive bytes (name (get_or order m 0)) (name (get_or order q 0)) e (a.ascend m q h inside)

  -- `find_name`
  pub name_searches : count ≤ length order → Searches (λ x. comparison_of (bytes_order bytes (name x))) order 0 count
  name_searches fits = record {
    fits = fits;
    before = λ q lt e i le. ap comparison_of (more_before q lt (more_told _ e) i le);
    behind = λ q lt e i le inside. ap comparison_of (less_behind q lt (less_told _ e) i le inside);
    told = λ q lt e. never_none _ e;
  }

  abbrev way_at : ℕ → Comparison
  way_at q = comparison_of (order_at name bytes order q)

  pub name_found : (r : Result ℕ ℕ) → Placed (λ (q : ℕ). way_at q ≡ Greater) (λ (q : ℕ). way_at q ≡ Equal) (λ (q : ℕ). way_at q ≡ Less) count r → FoundName name bytes order count r
  name_found r = placed_as
      (λ q lt e. more_told _ e)
      (λ q lt e. same_bytes_equal bytes (name (get_or order q 0)) (sym (same_equal bytes (name (get_or order q 0)) refl e)))
      (λ q lt e. less_told _ e)
      r

-- `names_differ`: the numbers of the first i names, and each of them somewhere
pub record Naming (names text order : List ℕ) (i : ℕ) : Type 0 where
  pub long : length order ≡ 128
  pub scan : Scan (new_name_at (tables [] [] [] names [] text)) 0 (length names / 2) i
  pub few : length names / 2 ≤ 128
  pub ascending : Ascending (name_bytes names text) order i
  pub numbers : (q : ℕ) → q < i → (x : ℕ) × ((x < i) × (get_or order q 0 ≡ x + 1))
  pub places : (x : ℕ) → x < i → (q : ℕ) × ((q < i) × (get_or order q 0 ≡ x + 1))

pub naming_start : (names text : List ℕ) → length names / 2 ≤ 128 → Naming names text (replicate 128 0) 0
naming_start names text few =
    record {
      long = refl;
      scan = scan_start _ 0 (length names / 2);
      few = few;
      ascending = record { ascend = λ p q h k. absurd (omega arith) };
      numbers = λ q h. absurd (omega arith);
      places = λ x h. absurd (omega arith);
    }

module _ {names text order : List ℕ} {i : ℕ} (w : Naming names text order i) (lt : i < length names / 2) {bytes : List ℕ} (b : bytes ≡ name_bytes names text (i + 1))
    {found : Result ℕ ℕ} (is : FoundName (name_bytes names text) bytes order i found) where
  -- a name before has the same bytes
  pub naming_fails : {q : ℕ} → found ≡ Ok q → false ≡ names_differ (tables [] [] [] names [] text)
  naming_fails {q} e' =
      let old = rw e' at is in
      let x = w.numbers q old.0 in
      let e : name_bytes names text (x.0 + 1) ≡ bytes = rw (← x.1.1) (sym old.1) in
      let s = equal_same_bytes (name_bytes names text (x.0 + 1)) (name_bytes names text (i + 1)) (e ∙ b) in
      names_fail (tables [] [] [] names [] text) w.scan lt refl
      (ap not (all_not (differ_at (tables [] [] [] names [] text) i) i x.0 x.1.0 (ap not s)))

  module _ {place : ℕ} (e' : found ≡ Err place) where
    space : NameBetween (name_bytes names text) bytes order i place place
    space = rw e' at is

    pub naming_room : place ≤ i
    naming_room = space.inside

    apart : (q : ℕ) → q < i → name_bytes names text (get_or order q 0) ≡ bytes → ⊥
    apart q k e = go (three_ways q place)
      where
        equal : order_at (name_bytes names text) bytes order q ≡ same
        equal = rw e (bytes_order_lem.reflexive bytes)

        behind : place ≤ q → ⊥
        behind le = let h = sym equal ∙ space.behind q le k in never (cc)

        go : (q < place) ⊎ ((q ≡ place) ⊎ (place < q)) → ⊥
        go (inl l) = let h = sym equal ∙ space.before q l in never (cc)
        go (inr (inl l)) = behind (omega arith)
        go (inr (inr l)) = behind (omega arith)

    new_name : new_name_at (tables [] [] [] names [] text) i ≡ true
    new_name = all_of (differ_at (tables [] [] [] names [] text) i) 0 i (λ x k.
        let z : 0 + x ≡ x = omega arith in
        let q = w.places x k in
        let d = unequal_bytes (name_bytes names text (x + 1)) (name_bytes names text (i + 1)) (λ e. apart q.0 q.1.0 (ap (name_bytes names text) q.1.1 ∙ (e ∙ sym b))) in
        rw (z, ← d))

    module _ {after : List ℕ} (put : after ≡ moved order place i (i + 1)) where
      room : i < length order
      room = let l = w.long in let f = w.few in omega arith

      here : get_or after place 0 ≡ i + 1
      here = ap (λ (l : List ℕ). get_or l place 0) put ∙ moved_here order place i (i + 1) naming_room room

      front : (q : ℕ) → q < place → get_or after q 0 ≡ get_or order q 0
      front q h = ap (λ (l : List ℕ). get_or l q 0) put ∙ moved_front order place i (i + 1) naming_room room q h

      next : (q : ℕ) → place < q → q ≤ i → get_or after q 0 ≡ get_or order (q - 1) 0
      next q h k = ap (λ (l : List ℕ). get_or l q 0) put ∙ moved_next order place i (i + 1) naming_room room q h k

      -- name i + 1 stands at its place
      ascend_on : (p q : ℕ) → p < q → q < i + 1 → order_at (name_bytes names text) (name_bytes names text (get_or after p 0)) after q ≡ less
      ascend_on p q k l = go (three_ways p place) (three_ways q place)
        where
          go : (p < place) ⊎ ((p ≡ place) ⊎ (place < p)) → (q < place) ⊎ ((q ≡ place) ⊎ (place < q)) → order_at (name_bytes names text) (name_bytes names text (get_or after p 0)) after q ≡ less
          go (inl x) (inl y) = rw (front p x, front q y) (w.ascending.ascend p q k (omega (arith, naming_room)))
          go (inl x) (inr (inl y)) = rw (y, front p x, here, ← b) (flip_more bytes (name_bytes names text (get_or order p 0)) (space.before p x))
          go (inl x) (inr (inr y)) = rw (front p x, next q y (omega arith)) (w.ascending.ascend p (q - 1) (omega arith) (omega arith))
          go (inr (inl x)) (inl y) = absurd (omega arith)
          go (inr (inl x)) (inr (inl y)) = absurd (omega arith)
          go (inr (inl x)) (inr (inr y)) = rw (x, here, next q y (omega arith), ← b) (space.behind (q - 1) (omega arith) (omega arith))
          go (inr (inr x)) (inl y) = absurd (omega arith)
          go (inr (inr x)) (inr (inl y)) = absurd (omega arith)
          go (inr (inr x)) (inr (inr y)) = rw (next p x (omega arith), next q y (omega arith)) (w.ascending.ascend (p - 1) (q - 1) (omega arith) (omega arith))

      number_on : (q : ℕ) → q < i + 1 → (x : ℕ) × ((x < i + 1) × (get_or after q 0 ≡ x + 1))
      number_on q k = go (three_ways q place)
        where
          go : (q < place) ⊎ ((q ≡ place) ⊎ (place < q)) → (x : ℕ) × ((x < i + 1) × (get_or after q 0 ≡ x + 1))
          go (inl l) = let x = w.numbers q (omega (arith, naming_room)) in (x.0, (omega (arith, x.1.0), front q l ∙ x.1.1))
          go (inr (inl l)) = (i, (omega arith, ap (λ (n : ℕ). get_or after n 0) l ∙ here))
          go (inr (inr l)) = let x = w.numbers (q - 1) (omega arith) in (x.0, (omega (arith, x.1.0), next q l (omega arith) ∙ x.1.1))

      place_on : (x : ℕ) → x < i + 1 → (q : ℕ) × ((q < i + 1) × (get_or after q 0 ≡ x + 1))
      place_on x k = go (eq-or-lt_of_le (omega arith))
        where
          behind : (q : ℕ) → q < i → get_or order q 0 ≡ x + 1 → place ≤ q → (q : ℕ) × ((q < i + 1) × (get_or after q 0 ≡ x + 1))
          behind q l e le = let z : q + 1 - 1 ≡ q = omega arith in (q + 1, (omega arith, (rw z at (next (q + 1) (omega arith) (omega arith))) ∙ e))

          old : (q : ℕ) → q < i → get_or order q 0 ≡ x + 1 → (q < place) ⊎ ((q ≡ place) ⊎ (place < q)) → (q : ℕ) × ((q < i + 1) × (get_or after q 0 ≡ x + 1))
          old q l e (inl y) = (q, (omega arith, front q y ∙ e))
          old q l e (inr (inl y)) = behind q l e (omega arith)
          old q l e (inr (inr y)) = behind q l e (omega arith)

          go : (x ≡ i) ⊎ (x < i) → (q : ℕ) × ((q < i + 1) × (get_or after q 0 ≡ x + 1))
          go (inl l) = (place, (omega (arith, naming_room), here ∙ ap (λ (n : ℕ). n + 1) (sym l)))
          go (inr l) = let q = w.places x l in old q.0 q.1.0 q.1.1 (three_ways q.0 place)

      pub naming_on : Naming names text after (i + 1)
      naming_on = record {
        long = ap length put ∙ (moved_length order place i (i + 1) naming_room room ∙ w.long);
        scan = all_on w.scan lt (sym new_name) refl;
        few = w.few;
        ascending = record { ascend = ascend_on };
        numbers = number_on;
        places = place_on;
      }
