-- Equality of bytes, and the names that are told by their bytes.
use Rattle.std.specs.Prelude.{ℕ, Bool, true, false, cond, ◌||◌, List, [], ◌∷◌}
use Rattle.literal.specs.Order.{Order, less, same, more, bytes_order}
use Rattle.table.specs.declared.NameClass.{NameClass}
use Rattle.table.specs.declared.NameClass.TheVariants.{Underscore, InputOrData, Ordinary}

abbrev pub is_same : Order → Bool
is_same less = false
is_same same = true
is_same more = false

unfoldable pub same_bytes : List ℕ → List ℕ → Bool
same_bytes xs ys = is_same (bytes_order xs ys)

-- `_`
abbrev pub underscore_bytes : List ℕ
underscore_bytes = 95 ∷ []

-- `input`
abbrev pub input_bytes : List ℕ
input_bytes = 105 ∷ 110 ∷ 112 ∷ 117 ∷ 116 ∷ []

-- `data`
abbrev pub data_bytes : List ℕ
data_bytes = 100 ∷ 97 ∷ 116 ∷ 97 ∷ []

unfoldable pub class_of : List ℕ → NameClass
class_of bs = cond (same_bytes bs underscore_bytes) Underscore (cond (same_bytes bs input_bytes || same_bytes bs data_bytes) InputOrData Ordinary)
