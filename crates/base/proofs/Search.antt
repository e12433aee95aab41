-- Binary search: what the library's answer says of the places.
use Prim.Native.Nat.{ℕ, ◌+◌, ◌≤◌, ◌<◌}
use mathlib.Core.Path.{◌≡◌, refl, sym, ap, ◌∙◌}
use mathlib.Core.List.{List, [], ◌∷◌}
use native.Mathlib.Omega.{arith}
use mathlib.Core.Bool.{Bool, true, false}
use lib.ListN.{length, get_or, take}
use lib.Seq.{get_or-take, length-take-le}
use denote.Ref.{Bor}
use Rattle.std.specs.Prelude.{Result, Ok, Err}
use Rattle.std.specs.declared.cmp.Ordering.{Ordering}
use Rattle.std.specs.Ordering.{ordering_index}
use Rattle.std.specs.Fn.{Mut, Called, ComputesKey}
use Rattle.std.specs.List.{AllWithin, HoldsAt}
use Rattle.std.specs.List.Sorted.{IsSearchInRange, IsBinarySearchResult, IsNonDecreasingBy, IsPartitionedBy, IsPartitionPoint}
use Rattle.std.proofs.lemmas.List.{get_or_default}
use Rattle.std.proofs.lemmas.List.Sorted.{IsNonDecreasingBy-from_default, IsPartitionPoint-from_clause}
use Rattle.base.specs.code.Search.{Between, Placed}

-- what a call of a closure answers that computes an order, and that it goes on to
module _ {F X : Type 0} {g : Mut F (Bor X × Unit {0}) Ordering} {f f' : F} {a : Bor X × Unit {0}} {r : Ordering} (ord : X → Ordering) (computes : ComputesKey g ord f) (call : Called g f a r f') where
  pub answer_told : r ≡ ord a.0.now
  answer_told = (computes.at (a ∷ []) r f' call).0

  pub goes_on : ComputesKey g ord f'
  goes_on = record { at = λ xs. (computes.at (a ∷ xs) r f' call).1 }

-- where the answers rise, those before low are `Less` and those from high on `Greater`
pub record Narrowed {X : Type 0} (ord : X → Ordering) (xs : List X) (low high : ℕ) : Type 0 where
  pub parts : IsNonDecreasingBy (λ y. ordering_index (ord y)) xs → AllWithin (λ y. ord y ≡ Ordering.Less) xs 0 low × AllWithin (λ y. ord y ≡ Ordering.Greater) xs high (length xs)

module _ {X : Type 0} (ord : X → Ordering) (xs : List X) where
  pub not_narrowed : Narrowed ord xs 0 (length xs)
  not_narrowed = record { parts = λ _. (λ k d a b. absurd (omega arith), λ k d a b. absurd (omega arith)) }

  -- an item that was read by its place
  pub read_at : (m : ℕ) (item : X) (o : Ordering) → m < length xs → item ≡ get_or xs m item → ord item ≡ o → HoldsAt (λ y. ord y ≡ o) xs m
  read_at m item o inside is told = λ d. ap ord (get_or_default xs m d item inside ∙ sym is) ∙ told

  index_0 : (a : Ordering) → ordering_index a ≤ 0 → a ≡ Ordering.Less
  index_0 Ordering.Less h = refl
  index_0 Ordering.Equal h = absurd (omega arith)
  index_0 Ordering.Greater h = absurd (omega arith)

  index_2 : (a : Ordering) → 2 ≤ ordering_index a → a ≡ Ordering.Greater
  index_2 Ordering.Less h = absurd (omega arith)
  index_2 Ordering.Equal h = absurd (omega arith)
  index_2 Ordering.Greater h = refl

  -- behind an item that is `Less`, and up to one that is `Greater`
  pub narrowed_up : (low high m : ℕ) → m < length xs → HoldsAt (λ y. ord y ≡ Ordering.Less) xs m → Narrowed ord xs low high → Narrowed ord xs (m + 1) high
  narrowed_up low high m inside less n = record { parts = λ rises. (λ k d a b. let e = less d in let r = rises k m d (omega arith) inside in index_0 _ (rw e at r), (n.parts rises).1) }

  pub narrowed_down : (low high m : ℕ) → HoldsAt (λ y. ord y ≡ Ordering.Greater) xs m → Narrowed ord xs low high → Narrowed ord xs low m
  narrowed_down low high m greater n = record { parts = λ rises. ((n.parts rises).0, λ k d a b. let e = greater d in let r = rises m k d (omega arith) b in index_2 _ (rw e at r)) }

-- what comes before a `Less` is less, and what comes behind a `Greater` is greater
module _ {X : Type 0} (ord : X → Ordering) (xs : List X) (d : X)
    (less_before : (q : ℕ) → q < length xs → ord (get_or xs q d) ≡ Ordering.Less → (i : ℕ) → i ≤ q → ord (get_or xs i d) ≡ Ordering.Less)
    (greater_behind : (q : ℕ) → q < length xs → ord (get_or xs q d) ≡ Ordering.Greater → (i : ℕ) → q ≤ i → i < length xs → ord (get_or xs i d) ≡ Ordering.Greater) where
  rising : IsNonDecreasingBy (λ y. ordering_index (ord y)) xs
  rising = IsNonDecreasingBy-from_default (λ y. ordering_index (ord y)) xs d (λ i j le lt. go i j le lt (ord (get_or xs i d)) (ord (get_or xs j d)) refl refl)
    where
      go : (i j : ℕ) → i ≤ j → j < length xs → (a b : Ordering) → ord (get_or xs i d) ≡ a → ord (get_or xs j d) ≡ b → ordering_index (ord (get_or xs i d)) ≤ ordering_index (ord (get_or xs j d))
      go i j le lt Ordering.Less b e f = rw e (omega arith)
      go i j le lt Ordering.Equal Ordering.Less e f = let h = ap ordering_index (sym e ∙ less_before j lt f i le) in absurd (omega arith)
      go i j le lt Ordering.Equal Ordering.Equal e f = rw (e, f) (omega arith)
      go i j le lt Ordering.Equal Ordering.Greater e f = rw (e, f) (omega arith)
      go i j le lt Ordering.Greater b e f = let h = greater_behind i (omega arith) e j le lt in rw (e, h) (omega arith)

  pub placed : (r : Result ℕ ℕ) → IsSearchInRange r (length xs) → IsBinarySearchResult ord xs r
      → Placed (λ (q : ℕ). ord (get_or xs q d) ≡ Ordering.Less) (λ (q : ℕ). ord (get_or xs q d) ≡ Ordering.Equal) (λ (q : ℕ). ord (get_or xs q d) ≡ Ordering.Greater) (length xs) r
  placed (Ok q) inside equal = (inside, equal d)
  placed (Err q) inside parted =
      let p = parted rising in
      record { spans = omega arith; inside = inside; before = λ i lt. p.0 i d (omega arith) lt; behind = λ i le lt. p.1 i d le lt }

-- the same of the places as they are told by others
module _ {Before At Behind Before' At' Behind' : ℕ → Type 0} {m : ℕ} (before : (q : ℕ) → q < m → Before q → Before' q) (at : (q : ℕ) → q < m → At q → At' q) (behind : (q : ℕ) → q < m → Behind q → Behind' q) where
  pub placed_as : (r : Result ℕ ℕ) → Placed Before At Behind m r → Placed Before' At' Behind' m r
  placed_as (Ok q) p = (p.0, at q p.0 p.1)
  placed_as (Err q) b =
      let n = b.inside in
      record { spans = b.spans; inside = b.inside; before = λ i lt. before i (omega arith) (b.before i lt); behind = λ i le lt. behind i lt (b.behind i le lt) }

-- the first place of those that do not pass a test, by `partition_point`
module _ {X : Type 0} (p : X → Bool) (order : List X) (d : X) (m : ℕ) (fits : m ≤ length order)
    (before : (q : ℕ) → q < m → p (get_or order q d) ≡ true → (i : ℕ) → i ≤ q → p (get_or order i d) ≡ true) where
  long : length (take m order) ≡ m
  long = length-take-le m order fits

  in_front : (q : ℕ) (e : X) → q < m → get_or (take m order) q e ≡ get_or order q d
  in_front q e lt = let n = long in get_or_default (take m order) q e d (omega arith) ∙ get_or-take m order q d lt

  pub parted : {F : Type 0} {g : Mut F (Bor X × Unit {0}) Bool} {f : F} (r : ℕ) → r ≤ length (take m order)
      → ((q : X → Bool) → ComputesKey g q f → IsPartitionedBy q (take m order) → IsPartitionPoint (λ y. q y ≡ true) (λ y. q y ≡ false) (take m order) r)
      → ((a : Bor X × Unit {0}) (r : Bool) (f' : F) → Called g f a r f' → (r ≡ p a.0.now) × (f' ≡ f))
      → Between (λ (q : ℕ). p (get_or order q d) ≡ true) (λ (q : ℕ). p (get_or order q d) ≡ false) m r r
  parted r inside clause calls =
      let n = long in
      let point = IsPartitionPoint-from_clause p (take m order) r clause
      (λ i j e le lt h. rw (in_front i e (omega arith)) (before j (omega arith) (rw (in_front j e (omega arith)) at h) i le)) calls in
      record {
        spans = omega arith;
        inside = omega arith;
        before = λ q lt. rw (in_front q d (omega arith)) at (point.0 q d (omega arith) lt);
        behind = λ q le lt. rw (in_front q d lt) at (point.1 q d le (omega arith));
      }
