-- What a loop of n rounds has left at round i.
use Prim.Native.Nat.{ℕ, ◌+◌, ◌-◌, ◌*◌, ◌≤◌, ◌<◌}
use mathlib.Core.Path.{◌≡◌}
use native.Mathlib.Omega.{arith}
use native.Mathlib.Nat.{add-mul, one-mul}

pub some_left : {n i : ℕ} → i < n → 0 < n - i
some_left more = omega arith

pub none_left : {n i : ℕ} → n ≤ i → n - i ≤ 0
none_left over = omega arith

pub one_less : (n i : ℕ) → n - (i + 1) ≡ n - i - 1
one_less n i = omega arith

pub one_on : (at i : ℕ) → at + (i + 1) ≡ at + i + 1
one_on at i = omega arith

pub two_on : (at i : ℕ) → at + (i + 1) * 2 ≡ at + i * 2 + 2
two_on at i = omega arith

pub step_on : (at i step : ℕ) → at + (i + 1) * step ≡ at + i * step + step
step_on at i step = let p = add-mul i 1 step in omega (arith, one-mul step)
