-- What the private functions that write a text leave in the array.
use Rattle.std.specs.Prelude.{ℕ, zero, suc, ◌+◌, ◌/◌, ◌%◌, List, ◌++◌, ◌≡◌, length, drop, set}
use Rattle.literal.specs.Text.{digit}
use Rattle.literal.specs.declared.KeyText.{KeyText}

-- a text, then what stood there
pub record Written (word before after : List ℕ) (r : KeyText) : Type 0 where
  pub answer : r ≡ KeyText.Written (length word)
  pub array : after ≡ word ++ drop (length word) before

-- the lowest digits of a number, from the last one on
unfoldable pub write_digits : List ℕ → ℕ → ℕ → ℕ → List ℕ
write_digits out start zero n = out
write_digits out start (suc k) n = write_digits (set out (start + k) (digit (n % 10))) start k (n / 10)
