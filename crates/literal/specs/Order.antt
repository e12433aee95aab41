-- The order of keys: null, false, true, numbers, strings by bytes.
use Rattle.std.specs.Prelude.{ℕ, Bool, true, false, List, [], ◌∷◌, eqb, ltb}
use Rattle.std.proofs.Math.Option.{Option, none, some}
use Rattle.literal.specs.Literal.{Literal, null, boolean, number, string}
use Rattle.literal.specs.declared.Comparison.{Comparison}
use Rattle.literal.specs.declared.Comparison.TheVariants.{Less, Equal, Greater, NoLiteral}
use Rattle.std.specs.declared.cmp.Ordering.{Ordering}

pub data Order : Type 0 where
  less same more : Order

abbrev pub pick_order : Bool → Order → Order → Order
pick_order true a b = a
pick_order false a b = b

-- the second where the first is `same`
abbrev pub then : Order → Order → Order
then less o = less
then same o = o
then more o = more

abbrev pub opposite : Order → Order
opposite less = more
opposite same = same
opposite more = less

abbrev pub nat_order : ℕ → ℕ → Order
nat_order a b = pick_order (ltb a b) less (pick_order (eqb a b) same more)

-- the first byte that differs decides; a prefix comes first
unfoldable pub bytes_order : List ℕ → List ℕ → Order
bytes_order [] [] = same
bytes_order [] (b ∷ ys) = less
bytes_order (a ∷ xs) [] = more
bytes_order (a ∷ xs) (b ∷ ys) = then (nat_order a b) (bytes_order xs ys)

-- numbers by sign and size
abbrev pub number_order : Bool → ℕ → Bool → ℕ → Order
number_order true a true b = opposite (nat_order a b)
number_order true a false b = less
number_order false a true b = more
number_order false a false b = nat_order a b

abbrev pub rank : Literal → ℕ
rank null = 0
rank (boolean false) = 1
rank (boolean true) = 2
rank (number s n) = 3
rank (string bs) = 4

-- two literals of one rank
abbrev pub within_rank : Literal → Literal → Order
within_rank null b = same
within_rank (boolean x) b = same
within_rank (number s n) null = same
within_rank (number s n) (boolean y) = same
within_rank (number s n) (number t m) = number_order s n t m
within_rank (number s n) (string ys) = same
within_rank (string xs) null = same
within_rank (string xs) (boolean y) = same
within_rank (string xs) (number t m) = same
within_rank (string xs) (string ys) = bytes_order xs ys

unfoldable pub key_order : Literal → Literal → Order
key_order a b = then (nat_order (rank a) (rank b)) (within_rank a b)

-- The code's answers.
abbrev pub comparison_of : Order → Comparison
comparison_of less = Less
comparison_of same = Equal
comparison_of more = Greater

unfoldable pub compared : Option Literal → Option Literal → Comparison
compared none b = NoLiteral
compared (some a) none = NoLiteral
compared (some a) (some b) = comparison_of (key_order a b)

-- the library's word for it
abbrev pub ordering_of : Comparison → Ordering
ordering_of Less = Ordering.Less
ordering_of Equal = Ordering.Equal
ordering_of Greater = Ordering.Greater
ordering_of NoLiteral = Ordering.Equal
