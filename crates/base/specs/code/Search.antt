-- Binary search among places in order.
use Rattle.std.specs.Prelude.{ℕ, ◌≤◌, ◌<◌, Result, Ok, Err}

-- The place that is looked for, among m, is from low to high: what stands before it is `Before`, what stands behind it is `Behind`.
pub record Between (Before Behind : ℕ → Type 0) (m low high : ℕ) : Type 0 where
  pub spans : low ≤ high
  pub inside : high ≤ m
  pub before : (q : ℕ) → q < low → Before q
  pub behind : (q : ℕ) → high ≤ q → q < m → Behind q

-- what a search among m answers: a place that is `At`, or the one before which what is looked for goes
abbrev pub Placed : (Before At Behind : ℕ → Type 0) → ℕ → Result ℕ ℕ → Type 0
Placed Before At Behind m (Ok q) = (q < m) × At q
Placed Before At Behind m (Err q) = Between Before Behind m q q
