-- Lists that are changed from place 0 on.
use Prim.Native.Nat.{ℕ, zero, suc, ◌+◌, ◌≤◌, ◌<◌}
use mathlib.Core.Path.{◌≡◌, refl, ◌∙◌}
use mathlib.Core.List.{List}
use mathlib.Core.Bool.{Bool, true, false}
use native.Mathlib.Omega.{arith}
use borrow.Author.Tests.{eqb-true, eqb-false}
use lib.Dec.{eqb}
use lib.ListN.{length, get_or, set, replicate, length-set, length-replicate}
use lib.Seq.{get_or-set_same, get_or-set_other}

-- a list whose first places are f's, the others still g's
pub record Changing (f g : ℕ → ℕ) (size i : ℕ) (here : List ℕ) : Type 0 where
  pub long : length here ≡ size
  pub each : (k : ℕ) → k < i → get_or here k 0 ≡ f k
  pub rest : (k : ℕ) → i ≤ k → get_or here k 0 ≡ g k

zero_at : (n k : ℕ) → ◌≡◌ {A = ℕ} (get_or (replicate n 0) k 0) 0
zero_at zero k = refl
zero_at (suc n) zero = refl
zero_at (suc n) (suc k) = zero_at n k

-- from zeros
pub changing_zeros : (f : ℕ → ℕ) (size : ℕ) → Changing f (λ k. 0) size 0 (replicate size 0)
changing_zeros f size = record { long = length-replicate {A = ℕ} size 0; each = λ k lt. absurd (omega arith); rest = λ k le. zero_at size k }

pub changing_on : {f g : ℕ → ℕ} {size i : ℕ} {here : List ℕ} {v : ℕ} → Changing f g size i here → i < size → v ≡ f i → Changing f g size (i + 1) (set here i v)
changing_on {f} {g} {size} {i} {here} {v} go lt e = record {
  long = length-set here i v ∙ go.long;
  each = λ k below. at k below (eqb k i) refl;
  rest = λ k le. get_or-set_other here i k v 0 (λ q. omega arith) ∙ go.rest k (omega arith);
}
  where
    at : (k : ℕ) → k < i + 1 → (b : Bool) → eqb k i ≡ b → get_or (set here i v) k 0 ≡ f k
    at k below true p =
        let k-is = eqb-true k i p in
        let long = go.long in
        rw k-is (get_or-set_same here i v 0 (omega arith) ∙ e)
    at k below false p =
        let differs = eqb-false k i p in
        get_or-set_other here i k v 0 differs ∙ go.each k (omega (arith, differs))
