-- Sets of names as two 64-bit words, a bit a name.
use Rattle.std.specs.Prelude.{ℕ, zero, suc, ◌+◌, ◌-◌, ◌/◌, ◌%◌, ◌^◌, Bool, true, false, cond, ◌&&◌, eqb, leb}
use Rattle.std.specs.Int.Bits.{bit_and, bit_or}
use Rattle.scope.specs.declared.name_set.NameSet.{NameSet}

-- a name's number is 1 to 128
unfoldable pub is_name : ℕ → Bool
is_name x = leb 1 x && leb x 128

-- bit k of a word, from 0
abbrev pub bit_of : ℕ → ℕ → Bool
bit_of w k = eqb (w / 2 ^ k % 2) 1

abbrev pub with_bit : ℕ → ℕ → ℕ
with_bit w k = bit_or w (2 ^ k)

abbrev pub without_bit : ℕ → ℕ → ℕ
without_bit w k = bit_and w ((2 ^ 64 - 1) - 2 ^ k)

-- the one or the other
abbrev pub put_bit : Bool → ℕ → ℕ → ℕ
put_bit true w k = with_bit w k
put_bit false w k = without_bit w k

-- Names 1 to 64 are the bits of `low`, 65 to 128 those of `high`; no other number is in a set.
unfoldable pub contains : NameSet → ℕ → Bool
contains s x = is_name x && cond (leb x 64) (bit_of s.low (x - 1)) (bit_of s.high (x - 65))

-- a set whose bit of the name x is put through `f`
abbrev pub at_name : (ℕ → ℕ → ℕ) → NameSet → ℕ → NameSet
at_name f s x = cond (is_name x) (cond (leb x 64) (record { low = f s.low (x - 1); high = s.high }) (record { low = s.low; high = f s.high (x - 65) })) s

unfoldable pub with_name : NameSet → ℕ → NameSet
with_name s x = at_name with_bit s x

unfoldable pub without_name : NameSet → ℕ → NameSet
without_name s x = at_name without_bit s x

abbrev pub no_names : NameSet
no_names = record { low = 0; high = 0 }

-- how many of the `count` numbers from `from` on pass a test
unfoldable pub count_from : (ℕ → Bool) → ℕ → ℕ → ℕ
count_from p from zero = 0
count_from p from (suc count) = cond (p from) 1 0 + count_from p (suc from) count

-- how many of the names 1 to 128 are in a set
unfoldable pub size_of : NameSet → ℕ
size_of s = count_from (contains s) 1 128
