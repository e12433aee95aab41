-- The text of a key: a string's bytes, a number's decimal form with any minus sign, or the word.
use Rattle.std.specs.Prelude.{ℕ, zero, suc, ◌+◌, ◌-◌, ◌*◌, ◌/◌, ◌%◌, Bool, true, false, cond, List, [], ◌∷◌, ◌++◌, ltb}
use Rattle.std.proofs.Math.Option.{Option, none, some}
use Rattle.literal.specs.Literal.{Literal, null, boolean, number, string}
use Rattle.literal.specs.Order.{bytes_order, comparison_of}
use Rattle.literal.specs.declared.Comparison.{Comparison}
use Rattle.literal.specs.declared.Comparison.TheVariants.{NoLiteral}

abbrev pub digit : ℕ → ℕ
digit d = 48 + d

-- at most this many decimal digits, the lowest ones
unfoldable pub digits : ℕ → ℕ → List ℕ
digits zero n = []
digits (suc k) n = cond (ltb n 10) (digit n ∷ []) (digits k (n / 10) ++ (digit (n % 10) ∷ []))

-- a size of 64 bits has at most 20 digits
abbrev pub decimal : ℕ → List ℕ
decimal n = digits 20 n

-- what decimal digits say, after the digits that say `before`
unfoldable pub value : ℕ → List ℕ → ℕ
value before [] = before
value before (d ∷ ds) = value (before * 10 + (d - 48)) ds

abbrev pub signed : Bool → List ℕ → List ℕ
signed true ds = 45 ∷ ds
signed false ds = ds

unfoldable pub key_text : Literal → List ℕ
key_text null = 110 ∷ 117 ∷ 108 ∷ 108 ∷ []
key_text (boolean true) = 116 ∷ 114 ∷ 117 ∷ 101 ∷ []
key_text (boolean false) = 102 ∷ 97 ∷ 108 ∷ 115 ∷ 101 ∷ []
key_text (number below size) = signed below (decimal size)
key_text (string bs) = bs

-- bytes with the text of a key
unfoldable pub text_compared : List ℕ → Option Literal → Comparison
text_compared bs none = NoLiteral
text_compared bs (some b) = comparison_of (bytes_order bs (key_text b))

unfoldable pub texts_compared : Option Literal → Option Literal → Comparison
texts_compared none b = NoLiteral
texts_compared (some a) b = text_compared (key_text a) b
