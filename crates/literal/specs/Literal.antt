-- A literal: what a key, a compared value and a leaf of a value are. A raw string is the string of its bytes.
use Rattle.std.specs.Prelude.{ℕ, ◌^◌, Bool, ◌&&◌, ◌||◌, List, eqb, leb, ltb}

pub data Literal : Type 0 where
  null : Literal
  boolean : Bool → Literal
  -- is it below zero, and its size
  number : Bool → ℕ → Literal
  string : List ℕ → Literal

-- Do two words, 1 for below zero or 0, then the size, say a whole number from -2^63 to 2^64 - 1? Minus zero is none.
unfoldable pub is_number : ℕ → ℕ → Bool
is_number below size = (eqb below 0 && ltb size (2 ^ 64)) || (eqb below 1 && (leb 1 size && leb size (2 ^ 63)))
