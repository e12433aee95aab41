-- What the private function `key_of` makes of a literal, and `same_form` of two such keys.
use Rattle.std.specs.Prelude.{ℕ, Bool, true, false, ◌&&◌, eqb, length}
use Rattle.std.specs.Bool.{beq}
use Rattle.std.proofs.Math.Option.{Option, none, some}
use Rattle.literal.specs.Literal.{Literal, null, boolean, number, string}
use Rattle.literal.specs.Text.{decimal}
use Rattle.literal.specs.declared.key.SortKey.{SortKey}

abbrev pub plain_key : ℕ → SortKey
plain_key rank = record { rank = rank; below = false; size = 0 }

-- the rank of `Order`, 5 for no literal
unfoldable pub key_of : Option Literal → SortKey
key_of none = plain_key 5
key_of (some null) = plain_key 0
key_of (some (boolean false)) = plain_key 1
key_of (some (boolean true)) = plain_key 2
key_of (some (number below size)) = record { rank = 3; below = below; size = size }
key_of (some (string bs)) = plain_key 4

-- the same rank and sign, and sizes with equally many digits
abbrev pub same_form : SortKey → SortKey → Bool
same_form x y =
    eqb x.rank y.rank && (beq x.below y.below && eqb (length (decimal x.size)) (length (decimal y.size)))
