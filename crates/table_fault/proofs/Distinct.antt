-- That numbers do not repeat, said of each by those before it.
use Prim.Native.Nat.{ℕ, zero, suc, ◌+◌, ◌≤◌}
use mathlib.Core.Path.{◌≡◌, refl, sym, ap, ◌∙◌}
use mathlib.Core.Bool.{Bool, true, false, not, ◌&&◌, ◌||◌, and-false, and-true, and_assoc}
use mathlib.Core.List.{List, [], ◌∷◌, ◌++◌, append_assoc, append-nil}
use native.Mathlib.Omega.{arith}
use borrow.Author.Tests.{eqb-true, eqb-false, eq-eqb, ne_eqb}
use lib.Dec.{eqb}
use lib.ListN.{length, take}
use lib.Seq.{take-suc, take-length}
use Rattle.base.specs.Lists.{all_from, elem, no_repeat}
use Rattle.table.specs.Tables.{first_word_of, width, child_at}
use Rattle.table.specs.Rules.{places_from, used_places}
use Rattle.table_fault.specs.Rules.{new_entry_at, new_places_at}
use Rattle.table_fault.proofs.Ranges.{all_last, all_same}

eqb_swap : (x y : ℕ) → eqb x y ≡ eqb y x
eqb_swap x y = go (eqb y x) refl
  where
    go : (b : Bool) → eqb y x ≡ b → eqb x y ≡ b
    go true e = eq-eqb x y (sym (eqb-true y x e))
    go false e = ne_eqb x y (λ q. eqb-false y x e (sym q))

-- one element more, at the end
pub elem_snoc : (y x : ℕ) (xs : List ℕ) → elem y (xs ++ (x ∷ [])) ≡ (eqb x y || elem y xs)
unfolding elem
elem_snoc y x [] = rw (eqb_swap y x)
elem_snoc y x (z ∷ xs) = rw (elem_snoc y x xs) (turned (eqb y z) (eqb x y) (elem y xs))
  where
    turned : (a b c : Bool) → (a || (b || c)) ≡ (b || (a || c))
    turned true true c = refl
    turned true false c = refl
    turned false b c = refl

apart_snoc : (b e n m : Bool) → (not (b || e) && (n && not m)) ≡ ((not e && n) && not (b || m))
apart_snoc true e n m = sym (and-false (not e && n))
apart_snoc false true n m = refl
apart_snoc false false n m = refl

no_repeat_snoc : (xs : List ℕ) (x : ℕ) → no_repeat (xs ++ (x ∷ [])) ≡ (no_repeat xs && not (elem x xs))
unfolding no_repeat elem
no_repeat_snoc [] x = refl
no_repeat_snoc (y ∷ xs) x = rw (elem_snoc y x xs, no_repeat_snoc xs x) (apart_snoc (eqb x y) (elem y xs) (no_repeat xs) (elem x xs))

-- the child entries
entries_before : (children : List ℕ) (k : ℕ) → k ≤ length children → no_repeat (take k children) ≡ all_from (new_entry_at children) 0 k
unfolding no_repeat all_from new_entry_at
entries_before children zero le = refl
entries_before children (suc k) le =
    ap no_repeat (take-suc children k 0 (omega arith))
    ∙ (no_repeat_snoc (take k children) (child_at children k)
    ∙ (ap (λ (b : Bool). b && new_entry_at children k) (entries_before children k (omega arith))
    ∙ sym (all_last (new_entry_at children) k)))

pub entries_differ : (children : List ℕ) → no_repeat children ≡ all_from (new_entry_at children) 0 (length children)
entries_differ children = ap no_repeat (sym (take-length children)) ∙ entries_before children (length children) (omega arith)

-- the places of a node behind those of the nodes before it
places_behind : (at k : ℕ) (xs : List ℕ) → no_repeat (xs ++ places_from at k) ≡ (no_repeat xs && all_from (λ (p : ℕ). not (elem p xs)) at k)
unfolding places_from all_from
places_behind at zero xs = ap no_repeat (append-nil xs) ∙ sym (and-true (no_repeat xs))
places_behind at (suc k) xs =
    ap no_repeat (sym (append_assoc xs (at ∷ []) (places_from (at + 1) k)))
    ∙ (places_behind (at + 1) k (xs ++ (at ∷ []))
    ∙ rw (no_repeat_snoc xs at, others) (and_assoc (no_repeat xs) (not (elem at xs)) (all_from (λ (p : ℕ). not (elem p xs)) (at + 1) k)))
  where
    other : (p : ℕ) → eqb at p ≡ false → not (elem p (xs ++ (at ∷ []))) ≡ not (elem p xs)
    other p ne = rw (elem_snoc p at xs, ne)

    others : all_from (λ (p : ℕ). not (elem p (xs ++ (at ∷ [])))) (at + 1) k ≡ all_from (λ (p : ℕ). not (elem p xs)) (at + 1) k
    others = all_same _ _ (at + 1) k (λ p le. other p (ne_eqb at p (λ q. omega arith)))

pub used_snoc : (nodes : List ℕ) (n k : ℕ) → used_places nodes n (suc k) ≡ used_places nodes n k ++ places_from (first_word_of nodes (n + k)) (width nodes (n + k))
unfolding used_places
used_snoc nodes n zero = let e : n + 0 ≡ n = omega arith in rw e (append-nil (places_from (first_word_of nodes n) (width nodes n)))
used_snoc nodes n (suc k) =
    let e : n + 1 + k ≡ n + suc k = omega arith in
    rw (used_snoc nodes (n + 1) k, e) (sym (append_assoc (places_from (first_word_of nodes n) (width nodes n)) (used_places nodes (n + 1) k) _))

pub places_differ : (nodes : List ℕ) (k : ℕ) → no_repeat (used_places nodes 1 k) ≡ all_from (new_places_at nodes) 0 k
unfolding used_places no_repeat all_from new_places_at
places_differ nodes zero = refl
places_differ nodes (suc k) =
    let e : 1 + k ≡ k + 1 = omega arith in
    ap no_repeat (used_snoc nodes 1 k)
    ∙ (places_behind (first_word_of nodes (1 + k)) (width nodes (1 + k)) (used_places nodes 1 k)
    ∙ (rw (e, places_differ nodes k) (sym (all_last (new_places_at nodes) k))))
