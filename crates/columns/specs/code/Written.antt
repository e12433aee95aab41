-- What the private functions that write a column write.
use Rattle.std.specs.Prelude.{ℕ, zero, suc, ◌+◌, ◌/◌, ◌%◌, cond, List, eqb, set}

abbrev pub column_byte : ℕ → ℕ
column_byte rest = cond (eqb rest 0) 32 (48 + rest % 10)

-- what is left of a number, from the last byte on
unfoldable pub write_rest : List ℕ → ℕ → ℕ → ℕ → List ℕ
write_rest out at zero rest = out
write_rest out at (suc k) rest = write_rest (set out (at + k) (column_byte rest)) at k (rest / 10)
