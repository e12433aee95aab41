-- Two strings from the front, by the chunk and by the word.
use Rattle.std.specs.Prelude.{ℕ, zero, suc, ◌+◌, ◌*◌, ◌^◌, ◌<◌, ◌≤◌, ◌≡◌, Bool, true, ◌&&◌, List, eqb, length, get_or, drop}
use Rattle.literal.specs.Order.{bytes_order}

-- what is left of two strings compares as the whole
pub record Prefix (a b : List ℕ) (i : ℕ) : Type 0 where
  pub left : i ≤ length a
  pub right : i ≤ length b
  pub rest : bytes_order (drop i a) (drop i b) ≡ bytes_order a b

-- are the k bytes from `at` on the same?
unfoldable pub same_from : List ℕ → List ℕ → ℕ → ℕ → Bool
same_from a b at zero = true
same_from a b at (suc k) = same_from a b at k && eqb (get_or a (at + k) 0) (get_or b (at + k) 0)

-- a number with the k bytes from `at` on for further digits, the highest first
unfoldable pub said : ℕ → List ℕ → ℕ → ℕ → ℕ
said high bytes at zero = high
said high bytes at (suc k) = said (high * 256 + get_or bytes at 0) bytes (at + 1) k

pub record Said (high : ℕ) (bytes : List ℕ) (at k r : ℕ) : Type 0 where
  pub is : r ≡ said high bytes at k
  pub digits : (j : ℕ) → j < k → get_or bytes (at + j) 0 < 2 ^ 8
  pub fits : r < (high + 1) * 2 ^ (8 * k)
