-- What is written is read back.
use Rattle.std.specs.Prelude.{ℕ, ◌^◌, ◌<◌, Bool, cond, ◌≡◌, Some, length}
use Rattle.columns.specs.Columns.{by_sign, read_column, read_signed, write_column, write_signed}

abbrev pub below_word : Bool → ℕ
below_word below = cond below 1 0

-- The sizes below it fit in a column of twenty: with a sign 19 digits, without one 64 bits.
abbrev pub twenty_end : Bool → ℕ
twenty_end below = cond below (10 ^ 19) (2 ^ 64)

pub record ReadBack : Type 0 where
  pub column_long : (n : ℕ) → length (write_column n) ≡ 6
  pub column : (n : ℕ) → n < 10 ^ 6 → read_column (write_column n) ≡ Some n
  pub signed_long : (below : Bool) (size : ℕ) → length (write_signed below size) ≡ 20
  pub signed : (below : Bool) (size : ℕ) → size < twenty_end below → read_signed (write_signed below size) ≡ Some (by_sign (below_word below) size)
