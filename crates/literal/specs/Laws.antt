-- The laws that the definitions are proved to meet.
use Rattle.std.specs.Prelude.{ℕ, ◌^◌, ◌<◌, ◌≤◌, ◌⊎◌, ◌≡◌, get_or}
use Rattle.literal.specs.Order.{Order, less, same, opposite}
use Rattle.literal.specs.Text.{decimal, value}

-- a total order, with `same` for equal things and nothing else
pub record TotalOrder {A : Type 0} (order : A → A → Order) : Type 0 where
  pub reflexive : (a : A) → order a a ≡ same
  pub equal : (a b : A) → order a b ≡ same → a ≡ b
  pub antisymmetric : (a b : A) → order b a ≡ opposite (order a b)
  pub transitive : (a b c : A) → order a b ≡ less → order b c ≡ less → order a c ≡ less
  pub total : (a b : A) → (order a b ≡ less) ⊎ ((a ≡ b) ⊎ (order b a ≡ less))

-- what two words that say a number are
pub record NumberBounds (below size : ℕ) : Type 0 where
  pub sign : below ≤ 1
  pub largest : size < 2 ^ 64
  pub below_zero : below ≡ 1 → 1 ≤ size
  pub lowest : below ≡ 1 → size ≤ 2 ^ 63

-- Read back, the decimal form gives the number, and no zero stands in front.
pub record DecimalForm (n : ℕ) : Type 0 where
  pub read_back : value 0 (decimal n) ≡ n
  pub no_zero_in_front : get_or (decimal n) 0 0 ≡ 48 → n ≡ 0
