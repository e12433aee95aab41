-- Loops that test the numbers of a range in turn.
use Prim.Native.Nat.{ℕ, zero, suc, ◌+◌, ◌-◌, ◌≤◌, ◌<◌}
use mathlib.Core.Path.{◌≡◌, refl, sym, ap, ◌∙◌}
use mathlib.Core.Bool.{Bool, true, false, not, ◌&&◌, false≢true}
use native.Mathlib.Omega.{arith}
use borrow.Author.Tests.{not-true, not-false}
use Rattle.base.specs.Lists.{all_from}
use Rattle.table.proofs.tests.Bools.{and_true, crossed}

-- the tests that are left say the same as all of them
pub record Scan (p : ℕ → Bool) (from k i : ℕ) : Type 0 where
  pub inside : i ≤ k
  pub same : all_from p (from + i) (k - i) ≡ all_from p from k

all_step : (p : ℕ → Bool) (from k i : ℕ) → i < k → all_from p (from + i) (k - i) ≡ (p (from + i) && all_from p (from + (i + 1)) (k - (i + 1)))
unfolding all_from
all_step p from k i lt =
    let a : k - i ≡ suc (k - (i + 1)) = omega arith in
    let b : from + (i + 1) ≡ from + i + 1 = omega arith in
    rw (a, b)

pub scan_start : (p : ℕ → Bool) (from k : ℕ) → Scan p from k 0
scan_start p from k =
    let a : k - 0 ≡ k = omega arith in
    let b : from + 0 ≡ from = omega arith in
    record { inside = omega arith; same = rw (a, b) }

module _ {p : ℕ → Bool} {from k i : ℕ} (s : Scan p from k i) where
  pub scan_on : i < k → p (from + i) ≡ true → Scan p from k (i + 1)
  scan_on lt yes-here = record { inside = omega arith; same = rw yes-here at (rw (all_step p from k i lt) at s.same) }

  pub scan_fails : i < k → p (from + i) ≡ false → false ≡ all_from p from k
  scan_fails lt no-here = rw no-here at (rw (all_step p from k i lt) at s.same)

  pub scan_ends : k ≤ i → true ≡ all_from p from k
  unfolding all_from
  scan_ends le = let a : k - i ≡ 0 = omega arith in rw a at s.same

-- what a passed test of a range says at each of its numbers
pub all_at : (p : ℕ → Bool) (from k : ℕ) → all_from p from k ≡ true → (j : ℕ) → j < k → p (from + j) ≡ true
unfolding all_from
all_at p from zero e j lt = absurd (omega arith)
all_at p from (suc k) e zero lt = let a : from + 0 ≡ from = omega arith in rw a (and_true (p from) (all_from p (from + 1) k) e).0
all_at p from (suc k) e (suc j) lt =
    let a : from + suc j ≡ from + 1 + j = omega arith in
    rw a (all_at p (from + 1) k (and_true (p from) (all_from p (from + 1) k) e).1 j (omega arith))

pub all_of : (p : ℕ → Bool) (from k : ℕ) → ((j : ℕ) → j < k → p (from + j) ≡ true) → all_from p from k ≡ true
unfolding all_from
all_of p from zero each = refl
all_of p from (suc k) each =
    let here : from + 0 ≡ from = omega arith in
    rw (rw here at (each 0 (omega arith)))
    (all_of p (from + 1) k (λ j lt. let e : from + 1 + j ≡ from + suc j = omega arith in ap p e ∙ each (suc j) (omega arith)))

-- a number at which the test fails
pub all_not : (p : ℕ → Bool) (k j : ℕ) → j < k → p j ≡ false → all_from p 0 k ≡ false
all_not p k j lt no-here = go (all_from p 0 k) refl
  where
    go : (b : Bool) → all_from p 0 k ≡ b → all_from p 0 k ≡ false
    go true e = let z : 0 + j ≡ j = omega arith in absurd (false≢true (sym no-here ∙ (rw z at (all_at p 0 k e j lt))))
    go false e = e

-- a range from 0, tested by a callee
module _ {p : ℕ → Bool} {k i : ℕ} {r : Bool} (s : Scan p 0 k i) (lt : i < k) (is : r ≡ p i) where
  at_zero : p (0 + i) ≡ r
  at_zero = let z : 0 + i ≡ i = omega arith in rw z (sym is)

  pub all_on : not r ≡ false → Scan p 0 k (i + 1)
  all_on t = scan_on s lt (at_zero ∙ not-false r t)

  pub all_fails : not r ≡ true → false ≡ all_from p 0 k
  all_fails t = scan_fails s lt (at_zero ∙ not-true r t)

-- two tests of each number, one range after the other
pub all_both : (p q r : ℕ → Bool) → ((j : ℕ) → r j ≡ (p j && q j)) → (from k : ℕ) → all_from r from k ≡ (all_from p from k && all_from q from k)
unfolding all_from
all_both p q r both from zero = refl
all_both p q r both from (suc k) =
    rw (both from, all_both p q r both (from + 1) k) (crossed (p from) (q from) (all_from p (from + 1) k) (all_from q (from + 1) k))
