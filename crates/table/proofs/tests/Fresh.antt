-- Numbers are all new to marks of none exactly where they do not repeat.
use Prim.Native.Nat.{ℕ, zero, suc, ◌+◌, ◌-◌, ◌/◌, ◌≤◌, ◌<◌}
use mathlib.Core.Path.{◌≡◌, refl, sym, ◌∙◌}
use mathlib.Core.Bool.{Bool, true, false, not, ◌&&◌, ◌||◌, and-false, and-true, and_assoc, false≢true}
use mathlib.Core.List.{List, [], ◌∷◌, ◌++◌}
use native.Mathlib.Omega.{arith}
use native.Mathlib.Numerals.{add-one}
use borrow.Author.Tests.{ne_eqb, eqb-true, eqb-false, not-true, not-false}
use lib.Dec.{eqb}
use lib.ListN.{length, get_or, set, drop, replicate, length-set, length-replicate, drop_of_length-le}
use lib.Seq.{get_or-set_same, get_or-set_other, drop-cons}
use mir.Val.{Fits}
use mir.Syntax.{w64}
use Rattle.table.specs.Tables.{first_word_of, width}
use Rattle.base.specs.Lists.{elem, no_repeat}
use Rattle.table.specs.Rules.{places_from, used_places}
use Rattle.table.specs.code.Distinct.{fresh_all, mark_all, PlacesMarked, PlacesAsks}
use Rattle.table.proofs.tests.Bools.{crossed}

data Below (k : ℕ) : List ℕ → Type 0 where
  none : Below k []
  more : {x : ℕ} {xs : List ℕ} → x < k → Below k xs → Below k (x ∷ xs)

below_append : {k : ℕ} {xs ys : List ℕ} → Below k xs → Below k ys → Below k (xs ++ ys)
below_append none b = b
below_append (more lt a) b = more lt (below_append a b)

below_listed : (k : ℕ) (xs : List ℕ) → ((i : ℕ) → i < length xs → get_or xs i 0 < k) → Below k xs
below_listed k [] h = none
below_listed k (x ∷ xs) h = more (h 0 (omega arith)) (below_listed k xs (λ i lt. h (suc i) (omega arith)))

-- is none of them marked?
unmarked : List ℕ → List ℕ → Bool
unmarked [] marks = true
unmarked (x ∷ xs) marks = eqb (get_or marks x 0) 0 && unmarked xs marks

-- in another order
swapped : (a b c d : Bool) → (a && (b && (c && d))) ≡ ((d && b) && (a && c))
swapped true true c true = and-true c
swapped true true c false = and-false c
swapped true false c true = refl
swapped true false c false = refl
swapped false b c d = sym (and-false (d && b))

not_or : (a b : Bool) → (not a && not b) ≡ not (a || b)
not_or true b = refl
not_or false b = refl

-- one more mark
module _ (marks : List ℕ) (x : ℕ) (lt : x < length marks) where
  marked_at : (y : ℕ) → eqb (get_or (set marks x 1) y 0) 0 ≡ (eqb (get_or marks y 0) 0 && not (eqb x y))
  marked_at y = go (eqb x y) refl
    where
      go : (b : Bool) → eqb x y ≡ b → eqb (get_or (set marks x 1) y 0) 0 ≡ (eqb (get_or marks y 0) 0 && not (eqb x y))
      go true e =
          let q = eqb-true x y e in
          let here : get_or (set marks x 1) y 0 ≡ 1 = rw (← q) (get_or-set_same marks x 1 0 lt) in
          rw (here, e) (sym (and-false (eqb (get_or marks y 0) 0)))
      go false e =
          let same = get_or-set_other marks x y 1 0 (λ q. eqb-false x y e (sym q)) in
          rw (same, e) (sym (and-true (eqb (get_or marks y 0) 0)))

  unmarked_on : (ys : List ℕ) → unmarked ys (set marks x 1) ≡ (unmarked ys marks && not (elem x ys))
  unfolding unmarked elem
  unmarked_on [] = refl
  unmarked_on (y ∷ ys) =
      rw (marked_at y, unmarked_on ys, ← not_or (eqb x y) (elem x ys))
      (crossed (eqb (get_or marks y 0) 0) (not (eqb x y)) (unmarked ys marks) (not (elem x ys)))

fresh_new : (xs marks : List ℕ) → Below (length marks) xs → fresh_all xs marks ≡ (no_repeat xs && unmarked xs marks)
unfolding fresh_all no_repeat unmarked
fresh_new [] marks none = refl
fresh_new (x ∷ xs) marks (more lt b) =
    let low : Below (length (set marks x 1)) xs = rw (length-set marks x 1) b in
    rw (fresh_new xs (set marks x 1) low, unmarked_on marks x lt xs)
    (swapped (eqb (get_or marks x 0) 0) (no_repeat xs) (unmarked xs marks) (not (elem x xs)))

zeros_at : (k x : ℕ) → ◌≡◌ {A = ℕ} (get_or (replicate k 0) x 0) 0
zeros_at zero x = refl
zeros_at (suc k) zero = refl
zeros_at (suc k) (suc x) = zeros_at k x

none_marked : (xs : List ℕ) (k : ℕ) → unmarked xs (replicate k 0) ≡ true
unfolding unmarked
none_marked [] k = refl
none_marked (x ∷ xs) k = rw (zeros_at k x) (none_marked xs k)

-- at first no number is marked
fresh_start : (k : ℕ) (xs : List ℕ) → Below k xs → fresh_all xs (replicate k 0) ≡ no_repeat xs
fresh_start k xs b =
    let long = length-replicate {A = ℕ} k 0 in
    fresh_new xs (replicate k 0) (rw long b) ∙ rw (none_marked xs k) (and-true (no_repeat xs))

fresh_append : (xs ys marks : List ℕ) → fresh_all (xs ++ ys) marks ≡ (fresh_all xs marks && fresh_all ys (mark_all xs marks))
unfolding fresh_all mark_all
fresh_append [] ys marks = refl
fresh_append (x ∷ xs) ys marks =
    rw (fresh_append xs ys (set marks x 1)) (sym (and_assoc (eqb (get_or marks x 0) 0) (fresh_all xs (set marks x 1)) _))

-- `distinct_entries`: the entries that are left are new to the marks of those before just where no entry repeats
pub record Distinct (children : List ℕ) (i : ℕ) (used : List ℕ) : Type 0 where
  pub low : (j : ℕ) → j < length children → get_or children j 0 ≤ 512
  pub inside : i ≤ length children
  pub same : fresh_all (drop i children) used ≡ no_repeat children

pub distinct_start : (children : List ℕ) → ((j : ℕ) → j < length children → get_or children j 0 ≤ 512) → Distinct children 0 (replicate 513 0)
distinct_start children low =
    record { low = low; inside = omega arith; same = fresh_start 513 children (below_listed 513 children (λ i lt. let h = low i lt in omega arith)) }

module _ {children : List ℕ} {i : ℕ} {used : List ℕ} (go : Distinct children i used) where
  module _ (lt : i < length children) where
    pub entry_low : get_or children i 0 < 513
    entry_low = let h = go.low i lt in omega arith

    pub entry_fits : Fits w64 (get_or children i 0)
    entry_fits = let h = entry_low in record { fits = omega arith }

    entry_step : fresh_all (get_or children i 0 ∷ drop (i + 1) children) used ≡ no_repeat children
    entry_step = rw (add-one, ← drop-cons children i 0 lt) go.same

    pub distinct_on : get_or used (get_or children i 0) 0 ≡ 0 → Distinct children (i + 1) (set used (get_or children i 0) 1)
    unfolding fresh_all
    distinct_on new = record { low = go.low; inside = omega arith; same = rw new at entry_step }

    pub distinct_fails : (get_or used (get_or children i 0) 0 ≡ 0 → ⊥) → false ≡ no_repeat children
    unfolding fresh_all
    distinct_fails old = rw (ne_eqb (get_or used (get_or children i 0) 0) 0 old) at entry_step

  pub distinct_ends : length children ≤ i → true ≡ no_repeat children
  unfolding fresh_all
  distinct_ends le = rw (drop_of_length-le children le) at go.same

-- `mark_places`: the same of the places that are left
pub record Marking (first count i : ℕ) (before used : List ℕ) : Type 0 where
  pub low : (j : ℕ) → j < count → first + j < 512
  pub inside : i ≤ count
  pub fresh : fresh_all (places_from (first + i) (count - i)) used ≡ fresh_all (places_from first count) before
  pub marked : mark_all (places_from (first + i) (count - i)) used ≡ mark_all (places_from first count) before

pub marking_start : (first count : ℕ) (used : List ℕ) → ((j : ℕ) → j < count → first + j < 512) → Marking first count 0 used used
marking_start first count used low =
    let a : first + 0 ≡ first = omega arith in
    let b : count - 0 ≡ count = omega arith in
    record { low = low; inside = omega arith; fresh = rw (a, b); marked = rw (a, b) }

module _ {first count i : ℕ} {before used : List ℕ} (go : Marking first count i before used) where
  module _ (lt : i < count) where
    pub place_low : first + i < 512
    place_low = go.low i lt

    pub place_fits : Fits w64 (first + i)
    place_fits = let h = place_low in record { fits = omega arith }

    places_step : places_from (first + i) (count - i) ≡ (first + i) ∷ places_from (first + (i + 1)) (count - (i + 1))
    unfolding places_from
    places_step =
        let a : count - i ≡ suc (count - (i + 1)) = omega arith in
        let b : first + (i + 1) ≡ first + i + 1 = omega arith in
        rw (a, b)

    pub marking_on : get_or used (first + i) 0 ≡ 0 → Marking first count (i + 1) before (set used (first + i) 1)
    unfolding fresh_all mark_all
    marking_on new =
        record { low = go.low; inside = omega arith; fresh = rw new at (rw places_step at go.fresh); marked = rw places_step at go.marked }

    pub marking_fails : (get_or used (first + i) 0 ≡ 0 → ⊥) → PlacesMarked first count before used false
    unfolding fresh_all
    marking_fails old =
        record { fresh = rw (ne_eqb (get_or used (first + i) 0) 0 old) at (rw places_step at go.fresh); marked = λ e. absurd (false≢true e) }

  pub marking_ends : count ≤ i → PlacesMarked first count before used true
  unfolding places_from fresh_all mark_all
  marking_ends le =
      let a : count - i ≡ 0 = omega arith in
      record { fresh = rw a at go.fresh; marked = λ e. rw a at go.marked }

-- `places_apart`: the same of the nodes that are left
pub record Apart (nodes : List ℕ) (n : ℕ) (used : List ℕ) : Type 0 where
  pub ask : PlacesAsks nodes
  pub few : length nodes / 5 ≤ 512
  pub inside : n ≤ length nodes / 5
  pub same : fresh_all (used_places nodes (n + 1) (length nodes / 5 - n)) used ≡ no_repeat (used_places nodes 1 (length nodes / 5))

below_places : (k at count : ℕ) → ((i : ℕ) → i < count → at + i < k) → Below k (places_from at count)
unfolding places_from
below_places k at zero h = none
below_places k at (suc count) h =
    let z : at + 0 ≡ at = omega arith in
    more (rw z at (h 0 (omega arith))) (below_places k (at + 1) count (λ i lt. let e : at + (i + 1) ≡ at + 1 + i = omega arith in rw e at (h (i + 1) (omega arith))))

below_used : (k : ℕ) (nodes : List ℕ) (n count : ℕ) → ((j : ℕ) → j < count → (i : ℕ) → i < width nodes (n + j) → first_word_of nodes (n + j) + i < k) → Below k (used_places nodes n count)
unfolding used_places
below_used k nodes n zero h = none
below_used k nodes n (suc count) h =
    let z : n + 0 ≡ n = omega arith in
    below_append
    (below_places k (first_word_of nodes n) (width nodes n) (rw z at (h 0 (omega arith))))
    (below_used k nodes (n + 1) count (λ j lt. let e : n + (j + 1) ≡ n + 1 + j = omega arith in rw e at (h (j + 1) (omega arith))))

pub apart_start : (nodes : List ℕ) → PlacesAsks nodes → Apart nodes 0 (replicate 512 0)
apart_start nodes ask =
    let z : length nodes / 5 - 0 ≡ length nodes / 5 = omega arith in
    let low = below_used 512 nodes 1 (length nodes / 5) (λ j lt. ask.low (1 + j) (omega arith) (omega arith)) in
    record { ask = ask; few = ask.few; inside = omega arith; same = rw z (fresh_start 512 (used_places nodes 1 (length nodes / 5)) low) }

module _ {nodes : List ℕ} {n : ℕ} {used : List ℕ} (go : Apart nodes n used) where
  module _ (lt : n < length nodes / 5) where
    pub ask_places : {first count : ℕ} → first ≡ first_word_of nodes (n + 1) → count ≡ width nodes (n + 1) → (i : ℕ) → i < count → first + i < 512
    ask_places f w i l = let h = go.ask.low (n + 1) (omega arith) (omega arith) i (omega arith) in omega arith

    used_step : used_places nodes (n + 1) (length nodes / 5 - n) ≡ places_from (first_word_of nodes (n + 1)) (width nodes (n + 1)) ++ used_places nodes (n + 1 + 1) (length nodes / 5 - (n + 1))
    unfolding used_places
    used_step = let a : length nodes / 5 - n ≡ suc (length nodes / 5 - (n + 1)) = omega arith in rw a

    apart_step : (fresh_all (places_from (first_word_of nodes (n + 1)) (width nodes (n + 1))) used
        && fresh_all (used_places nodes (n + 1 + 1) (length nodes / 5 - (n + 1))) (mark_all (places_from (first_word_of nodes (n + 1)) (width nodes (n + 1))) used))
        ≡ no_repeat (used_places nodes 1 (length nodes / 5))
    apart_step = sym (fresh_append (places_from (first_word_of nodes (n + 1)) (width nodes (n + 1))) _ used) ∙ (rw used_step at go.same)

    module _ {first count : ℕ} {after : List ℕ} {r : Bool} (f : first ≡ first_word_of nodes (n + 1)) (w : count ≡ width nodes (n + 1)) (done : PlacesMarked first count used after r) where
      pub apart_on : not r ≡ false → Apart nodes (n + 1) after
      apart_on yes-all =
          let t = not-false r yes-all in
          let all : fresh_all (places_from (first_word_of nodes (n + 1)) (width nodes (n + 1))) used ≡ true = rw (← f, ← w) (sym done.fresh ∙ t) in
          let e : after ≡ mark_all (places_from (first_word_of nodes (n + 1)) (width nodes (n + 1))) used = rw (← f, ← w) (done.marked t) in
          record { ask = go.ask; few = go.few; inside = omega arith; same = rw (all, ← e) at apart_step }

      pub apart_fails : not r ≡ true → false ≡ no_repeat (used_places nodes 1 (length nodes / 5))
      apart_fails no_more =
          let t = not-true r no_more in
          let all : fresh_all (places_from (first_word_of nodes (n + 1)) (width nodes (n + 1))) used ≡ false = rw (← f, ← w) (sym done.fresh ∙ t) in
          rw all at apart_step

  pub apart_ends : length nodes / 5 ≤ n → true ≡ no_repeat (used_places nodes 1 (length nodes / 5))
  unfolding used_places fresh_all
  apart_ends le = let a : length nodes / 5 - n ≡ 0 = omega arith in rw a at go.same
