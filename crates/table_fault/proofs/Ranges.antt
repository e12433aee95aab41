-- Tests of the numbers of a range.
use Prim.Native.Nat.{ℕ, zero, suc, ◌+◌, ◌-◌, ◌≤◌}
use mathlib.Core.Path.{◌≡◌, refl, sym}
use mathlib.Core.Bool.{Bool, ◌&&◌, and-true, and_assoc}
use native.Mathlib.Omega.{arith}
use Rattle.base.specs.Lists.{all_from}

-- one number more, at the end
pub all_snoc : (p : ℕ → Bool) (i k : ℕ) → all_from p i (suc k) ≡ (all_from p i k && p (i + k))
unfolding all_from
all_snoc p i zero = let e : i + 0 ≡ i = omega arith in rw e (and-true (p i))
all_snoc p i (suc k) =
    let e : i + 1 + k ≡ i + suc k = omega arith in
    rw (all_snoc p (i + 1) k, e) (sym (and_assoc (p i) (all_from p (i + 1) k) (p (i + suc k))))

pub all_same : (p q : ℕ → Bool) (i k : ℕ) → ((j : ℕ) → i ≤ j → p j ≡ q j) → all_from p i k ≡ all_from q i k
unfolding all_from
all_same p q i zero same = refl
all_same p q i (suc k) same = rw (same i (omega arith), all_same p q (i + 1) k (λ j le. same j (omega arith)))

-- places from 1, of a test that counts them from 0
pub all_shifted : (p : ℕ → Bool) (i k : ℕ) → all_from (λ (place : ℕ). p (place - 1)) (i + 1) k ≡ all_from p i k
unfolding all_from
all_shifted p i zero = refl
all_shifted p i (suc k) = let e : i + 1 - 1 ≡ i = omega arith in rw (e, all_shifted p (i + 1) k)

pub all_last : (p : ℕ → Bool) (k : ℕ) → all_from p 0 (suc k) ≡ (all_from p 0 k && p k)
all_last p k = let e : 0 + k ≡ k = omega arith in rw e at (all_snoc p 0 k)

-- one test alone
pub all_one : (b : Bool) (i : ℕ) → all_from (λ (place : ℕ). b) i 1 ≡ b
unfolding all_from
all_one b i = and-true b
