-- What the private functions that read a decimal form answer.
use Rattle.std.specs.Prelude.{ℕ, ◌^◌, Bool, cond, ◌&&◌, List, Option, Some, None, eqb, ltb}
use Rattle.literal.specs.Text.{value}
use Rattle.columns.specs.Columns.{all_digits, is_decimal}

-- what digits say after the digits that say `before`, below 2^64
unfoldable pub digits_number : ℕ → List ℕ → Option ℕ
digits_number before ds = cond (all_digits ds && ltb (value before ds) (2 ^ 64)) (Some (value before ds)) None

unfoldable pub read_decimal : List ℕ → Option ℕ
read_decimal ds = cond (is_decimal ds && ltb (value 0 ds) (2 ^ 64)) (Some (value 0 ds)) None

abbrev pub are_blank : ℕ → ℕ → ℕ → ℕ → Bool
are_blank a b c d = eqb a 32 && (eqb b 32 && (eqb c 32 && eqb d 32))
