-- The numbers of an answer, as a struct holds them, and as they are told to a C host.
use Rattle.std.specs.Prelude.{ℕ, ◌≡◌, List, [], ◌∷◌, ◌++◌, length, take, drop}
use Rattle.base.specs.Refusal.{Line, line}
use Rattle.operation.specs.declared.row.Row.{Row}

abbrev pub row_line : Row → Line
row_line r = line r.number r.second r.third r.fourth

-- An answer's four numbers in the lent words: as many as there is space for; words past the fourth stay.
unfoldable pub told : Line → List ℕ → List ℕ
told l words = take (length words) (l.number ∷ (l.second ∷ (l.third ∷ (l.fourth ∷ [])))) ++ drop 4 words

-- the words at entry and at exit; the result is the first number
pub record Told (l : Line) (before after : List ℕ) (r : ℕ) : Type 0 where
  pub result : r ≡ l.number
  pub words : after ≡ told l before
