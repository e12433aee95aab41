-- The library's binary search by comparisons of a literal, or of its bytes, with the items.
use Prim.Native.Nat.{ℕ, ◌≤◌, ◌<◌}
use mathlib.Core.Path.{◌≡◌, refl, ap, subst}
use mathlib.Core.List.{List}
use native.Mathlib.Omega.{arith}
use lib.ListN.{length, get_or, take}
use lib.Seq.{get_or-take, length-take-le}
use denote.Ref.{Bor}
use Rattle.std.specs.Prelude.{Result}
use Rattle.std.specs.declared.cmp.Ordering.{Ordering}
use Rattle.std.specs.Ordering.{ordering_index, ordering_reverse}
use Rattle.std.specs.Fn.{Mut, Called, ComputesKey}
use Rattle.std.specs.List.Sorted.{IsSearchInRange, IsBinarySearchResult}
use Rattle.std.proofs.lemmas.Fn.{always_returns_same}
use Rattle.base.specs.code.Search.{Placed}
use Rattle.base.proofs.Search.{placed, placed_as}
use Rattle.literal.specs.declared.Comparison.{Comparison}
use Rattle.literal.specs.declared.Comparison.TheVariants.{Less, Equal, Greater, NoLiteral}
use Rattle.literal.specs.Order.{Order, less, same, more, comparison_of, ordering_of}

-- what an item answers that is compared with what is looked for
abbrev pub answer_of : Comparison → Ordering
answer_of c = ordering_reverse (ordering_of c)

greater_of : (c : Comparison) → answer_of c ≡ Ordering.Less → c ≡ Greater
greater_of Less e = let h = ap ordering_index e in absurd (omega arith)
greater_of Equal e = let h = ap ordering_index e in absurd (omega arith)
greater_of Greater e = refl
greater_of NoLiteral e = let h = ap ordering_index e in absurd (omega arith)

less_of : (c : Comparison) → answer_of c ≡ Ordering.Greater → c ≡ Less
less_of Less e = refl
less_of Equal e = let h = ap ordering_index e in absurd (omega arith)
less_of Greater e = let h = ap ordering_index e in absurd (omega arith)
less_of NoLiteral e = let h = ap ordering_index e in absurd (omega arith)

equal_of : (c : Comparison) → (c ≡ NoLiteral → ⊥) → answer_of c ≡ Ordering.Equal → c ≡ Equal
equal_of Less told e = let h = ap ordering_index e in absurd (omega arith)
equal_of Equal told e = refl
equal_of Greater told e = let h = ap ordering_index e in absurd (omega arith)
equal_of NoLiteral told e = absurd (told refl)

-- what an order's comparison never is
abbrev weight : Comparison → ℕ
weight Less = 0
weight Equal = 0
weight Greater = 0
weight NoLiteral = 1

pub never_none : (o : Order) → comparison_of o ≡ NoLiteral → ⊥
never_none less e = let h = ap weight e in omega arith
never_none same e = let h = ap weight e in omega arith
never_none more e = let h = ap weight e in omega arith

-- `way` compares what is looked for with an item: it is greater than those before one that it is greater than, and less than those behind one that it is less than
pub record Searches {X : Type 0} (way : X → Comparison) (order : List X) (d : X) (m : ℕ) : Type 0 where
  pub fits : m ≤ length order
  pub before : (q : ℕ) → q < m → way (get_or order q d) ≡ Greater → (i : ℕ) → i ≤ q → way (get_or order i d) ≡ Greater
  pub behind : (q : ℕ) → q < m → way (get_or order q d) ≡ Less → (i : ℕ) → q ≤ i → i < m → way (get_or order i d) ≡ Less
  pub told : (q : ℕ) → q < m → way (get_or order q d) ≡ NoLiteral → ⊥

module _ {X : Type 0} {way : X → Comparison} {order : List X} {d : X} {m : ℕ} (s : Searches way order d m) where
  long : length (take m order) ≡ m
  long = length-take-le m order s.fits

  in_front : (q : ℕ) → q < m → get_or (take m order) q d ≡ get_or order q d
  in_front q lt = get_or-take m order q d lt

  pub searched : {F : Type 0} {g : Mut F (Bor X × Unit {0}) Ordering} {f : F} (r : Result ℕ ℕ)
      → IsSearchInRange r (length (take m order))
      → ((ord : X → Ordering) → ComputesKey g ord f → IsBinarySearchResult ord (take m order) r)
      → ((a : Bor X × Unit {0}) (r : Ordering) (f' : F) → Called g f a r f' → (r ≡ answer_of (way a.0.now)) × (f' ≡ f))
      → Placed (λ (q : ℕ). way (get_or order q d) ≡ Greater) (λ (q : ℕ). way (get_or order q d) ≡ Equal) (λ (q : ℕ). way (get_or order q d) ≡ Less) m r
  searched {g = g} {f = f} r inside clause calls =
      let n = long in
      let found = placed (λ x. answer_of (way x)) (take m order) d
      (λ q lt e i le. rw (in_front i (omega arith)) (ap answer_of (s.before q (omega arith) (greater_of _ (rw (in_front q (omega arith)) at e)) i le)))
      (λ q lt e i le inside. rw (in_front i (omega arith)) (ap answer_of (s.behind q (omega arith) (less_of _ (rw (in_front q (omega arith)) at e)) i le (omega arith))))
      r inside (clause (λ x. answer_of (way x)) (always_returns_same g (λ a r. r ≡ answer_of (way a.0.now)) f calls)) in
      let at = λ (q : ℕ). answer_of (way (get_or (take m order) q d)) in
      placed_as {Before = λ (q : ℕ). at q ≡ Ordering.Less} {At = λ (q : ℕ). at q ≡ Ordering.Equal} {Behind = λ (q : ℕ). at q ≡ Ordering.Greater}
      (λ q lt e. greater_of _ (rw (in_front q lt) at e))
      (λ q lt e. equal_of _ (s.told q lt) (rw (in_front q lt) at e))
      (λ q lt e. less_of _ (rw (in_front q lt) at e))
      r (subst (λ (n : ℕ). Placed (λ (q : ℕ). at q ≡ Ordering.Less) (λ (q : ℕ). at q ≡ Ordering.Equal) (λ (q : ℕ). at q ≡ Ordering.Greater) n r) n found)
