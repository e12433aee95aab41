-- Numbers of names in an array, by the order of the names' bytes.
use Rattle.std.specs.Prelude.{ℕ, ◌<◌, ◌≡◌, List, Result, get_or}
use Rattle.base.specs.code.Search.{Between, Placed}
use Rattle.literal.specs.Order.{Order, less, more, bytes_order}

-- bytes with those of the name at place q
abbrev pub order_at : (ℕ → List ℕ) → List ℕ → List ℕ → ℕ → Order
order_at name bytes order q = bytes_order bytes (name (get_or order q 0))

-- the first `count` names strictly ascend
pub record Ascending (name : ℕ → List ℕ) (order : List ℕ) (count : ℕ) : Type 0 where
  pub ascend : (p q : ℕ) → p < q → q < count → order_at name (name (get_or order p 0)) order q ≡ less

-- the place of bytes among them is from low to high
abbrev pub NameBetween : (ℕ → List ℕ) → List ℕ → List ℕ → ℕ → ℕ → ℕ → Type 0
NameBetween name bytes order = Between (λ (q : ℕ). order_at name bytes order q ≡ more) (λ (q : ℕ). order_at name bytes order q ≡ less)

-- `find_name`: a name that has the same bytes, or the one before which the bytes go
abbrev pub FoundName : (ℕ → List ℕ) → List ℕ → List ℕ → ℕ → Result ℕ ℕ → Type 0
FoundName name bytes order = Placed (λ (q : ℕ). order_at name bytes order q ≡ more) (λ (q : ℕ). bytes ≡ name (get_or order q 0)) (λ (q : ℕ). order_at name bytes order q ≡ less)
