-- A decimal column: blanks, then the decimal form of a number without leading zeros, right-justified.
use Rattle.std.specs.Prelude.{ℕ, ◌+◌, ◌-◌, ◌^◌, Bool, true, cond, not, ◌&&◌, List, [], ◌∷◌, ◌++◌, Option, Some, None, eqb, leb, ltb, length, get_or, take, drop, replicate}
use Rattle.base.specs.Lists.{part}
use Rattle.literal.specs.Text.{decimal, value, signed}
use Rattle.columns.specs.declared.SignedNumber.{SignedNumber}

-- the bytes after the blanks in front
unfoldable pub after_blanks : List ℕ → List ℕ
after_blanks [] = []
after_blanks (b ∷ bs) = cond (eqb b 32) (after_blanks bs) (b ∷ bs)

abbrev pub is_digit : ℕ → Bool
is_digit b = leb 48 b && leb b 57

unfoldable pub all_digits : List ℕ → Bool
all_digits [] = true
all_digits (b ∷ bs) = is_digit b && all_digits bs

-- Digits, at least one, with no zero in front of others.
unfoldable pub is_decimal : List ℕ → Bool
is_decimal bs = ltb 0 (length bs) && (not (ltb 1 (length bs) && eqb (get_or bs 0 0) 48) && all_digits bs)

abbrev pub decimal_number : List ℕ → Option ℕ
decimal_number ds = cond (is_decimal ds) (Some (value 0 ds)) None

-- the number that a column's bytes say
unfoldable pub read_column : List ℕ → Option ℕ
read_column bytes = decimal_number (after_blanks bytes)

-- the same of six bytes alone
abbrev pub six_column : List ℕ → Option ℕ
six_column bytes = cond (eqb (length bytes) 6) (read_column bytes) None

-- the bytes of a column, if it is all there; no bytes are no number
unfoldable pub column_bytes : List ℕ → ℕ → ℕ → List ℕ
column_bytes bytes at width = cond (leb (at + width) (length bytes)) (part bytes at width) []

-- the column of six at a place
abbrev pub column_at : List ℕ → ℕ → Option ℕ
column_at bytes at = read_column (column_bytes bytes at 6)

-- a number by its sign, 1 for below zero or 0, and its size
abbrev pub by_sign : ℕ → ℕ → SignedNumber
by_sign below size = record { below = below; size = size }

-- its size has 64 bits; whether the two say an allowed number is the table check's question
unfoldable pub signed_number : ℕ → List ℕ → Option SignedNumber
signed_number below ds = cond (is_decimal ds && ltb (value 0 ds) (2 ^ 64)) (Some (by_sign below (value 0 ds))) None

-- a minus sign stands directly before the digits
abbrev pub after_sign : Bool → List ℕ → Option SignedNumber
after_sign minus bs = cond minus (signed_number 1 (drop 1 bs)) (signed_number 0 bs)

unfoldable pub read_signed : List ℕ → Option SignedNumber
read_signed bytes = after_sign (eqb (get_or (after_blanks bytes) 0 0) 45) (after_blanks bytes)

-- the column of twenty at a place
abbrev pub signed_column_at : List ℕ → ℕ → Option SignedNumber
signed_column_at bytes at = read_signed (column_bytes bytes at 20)

-- A text right-justified with blanks in `width` bytes; of a longer one the last bytes. (No answer of the planner has a number of more than six digits.)
unfoldable pub justified : ℕ → List ℕ → List ℕ
justified width text = replicate (width - length text) 32 ++ drop (length text - width) text

abbrev pub write_column : ℕ → List ℕ
write_column n = justified 6 (decimal n)

abbrev pub write_signed : Bool → ℕ → List ℕ
write_signed below size = justified 20 (signed below (decimal size))

-- bytes stored from a place on, if there is space for them
unfoldable pub stored : List ℕ → ℕ → List ℕ → List ℕ
stored out at bytes = cond (leb (at + length bytes) (length out)) (take at out ++ (bytes ++ drop (at + length bytes) out)) out

abbrev pub column_stored : List ℕ → ℕ → ℕ → List ℕ
column_stored out at n = stored out at (write_column n)
