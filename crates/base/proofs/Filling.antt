-- Lists that are filled from place 0 on.
use Prim.Native.Nat.{ℕ, zero, suc, ◌+◌, ◌≤◌, ◌<◌}
use mathlib.Core.Path.{◌≡◌, refl, sym, ap, ◌∙◌}
use mathlib.Core.List.{List, ◌∷◌}
use mathlib.Core.Bool.{Bool, true, false}
use native.Mathlib.Omega.{arith}
use borrow.Author.Tests.{eqb-true, eqb-false}
use lib.Dec.{eqb}
use lib.ListN.{length, get_or, set, replicate, length-set, length-replicate, get_or-replicate}
use lib.Seq.{get_or-set_same, get_or-set_other, ext_get_or}
use Rattle.base.specs.Lists.{tabulate}

-- an array filled from place 0 on
pub record Filling (f : ℕ → ℕ) (size i : ℕ) (here : List ℕ) : Type 0 where
  pub long : length here ≡ size
  pub each : (k : ℕ) → k < i → get_or here k 0 ≡ f k

pub filling_begin : (f : ℕ → ℕ) (l : List ℕ) → Filling f (length l) 0 l
filling_begin f l = record { long = refl; each = λ k lt. absurd (omega arith) }

pub filling_start : (f : ℕ → ℕ) (size : ℕ) → Filling f size 0 (replicate size 0)
filling_start f size = record { long = length-replicate size 0; each = λ k lt. absurd (omega arith) }

pub filling_on : {f : ℕ → ℕ} {size i : ℕ} {here : List ℕ} {v count : ℕ} → Filling f size i here → i < count → count ≤ size → v ≡ f i → Filling f size (i + 1) (set here i v)
filling_on {f} {size} {i} {here} {v} go lt le e = record {
  long = length-set here i v ∙ go.long;
  each = λ k below. at k below (eqb k i) refl;
}
  where
    at : (k : ℕ) → k < i + 1 → (b : Bool) → eqb k i ≡ b → get_or (set here i v) k 0 ≡ f k
    at k below true p =
        let k-is = eqb-true k i p in
        let long = go.long in
        rw k-is (get_or-set_same here i v 0 (omega arith) ∙ e)
    at k below false p =
        let differs = eqb-false k i p in
        get_or-set_other here i k v 0 differs ∙ go.each k (omega (arith, differs))

pub filling_next : {f : ℕ → ℕ} {size i : ℕ} {here : List ℕ} {v : ℕ} → Filling f size i here → i < length here → v ≡ f i → Filling f size (i + 1) (set here i v)
filling_next {f} {size} {i} {here} {v} go lt e = let long = go.long in filling_on {count = size} go (omega arith) (omega arith) e

pub length_tabulate : (f : ℕ → ℕ) (i k : ℕ) → length (tabulate f i k) ≡ k
unfolding tabulate
length_tabulate f i zero = refl
length_tabulate f i (suc k) = ap suc (length_tabulate f (i + 1) k)

pub get_d_tabulate : (f : ℕ → ℕ) (i k j : ℕ) → j < k → get_or (tabulate f i k) j 0 ≡ f (i + j)
unfolding tabulate
get_d_tabulate f i zero j lt = absurd (omega arith)
get_d_tabulate f i (suc k) zero lt = let e : i ≡ i + 0 = omega arith in ap f e
get_d_tabulate f i (suc k) (suc j) lt = let e : i + 1 + j ≡ i + suc j = omega arith in get_d_tabulate f (i + 1) k j (omega arith) ∙ ap f e

pub tabulate_next : (f : ℕ → ℕ) (i k : ℕ) → tabulate (λ j. f (j + 1)) i k ≡ tabulate f (i + 1) k
unfolding tabulate
tabulate_next f i zero = refl
tabulate_next f i (suc k) = ap (λ t. f (i + 1) ∷ t) (tabulate_next f (i + 1) k)

pub tabulate_same : (f g : ℕ → ℕ) → ((i : ℕ) → f i ≡ g i) → (i k : ℕ) → tabulate f i k ≡ tabulate g i k
unfolding tabulate
tabulate_same f g same i zero = refl
tabulate_same f g same i (suc k) = ap (λ h. h ∷ tabulate f (i + 1) k) (same i) ∙ ap (λ t. g i ∷ t) (tabulate_same f g same (i + 1) k)

module _ {f : ℕ → ℕ} {size i : ℕ} {here : List ℕ} (go : Filling f size i here) (done : length here ≤ i) where
  pub filling_ends : here ≡ tabulate f 0 size
  filling_ends =
      let long = go.long in
      ext_get_or 0 here (tabulate f 0 size) (long ∙ sym (length_tabulate f 0 size)) (λ k lt.
      let z : 0 + k ≡ k = omega arith in
      go.each k (omega arith) ∙ sym (get_d_tabulate f 0 size k (omega arith) ∙ ap f z))

pub zeros_end : {size i : ℕ} {here : List ℕ} → Filling (λ _. 0) size i here → length here ≤ i → here ≡ replicate size 0
zeros_end {size} {i} {here} go done =
    let long = go.long in
    ext_get_or 0 here (replicate size 0) (long ∙ sym (length-replicate size 0)) (λ k lt. go.each k (omega arith) ∙ sym (get_or-replicate size k 0 0 (omega arith)))
