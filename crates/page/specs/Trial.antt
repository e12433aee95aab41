-- The pages of document 01's sheet, which plans [x, x].
use Rattle.std.specs.Prelude.{ℕ, zero, suc, List, [], ◌∷◌, ◌++◌, replicate}

-- "     1array     [x, x]", "     2bind      x", "     3expressionx", and the rest of each line in blanks
abbrev pub example_lines : List ℕ
example_lines =
    32 ∷ 32 ∷ 32 ∷ 32 ∷ 32 ∷ 49 ∷ 97 ∷ 114 ∷ 114 ∷ 97 ∷ 121 ∷ 32 ∷ 32 ∷ 32 ∷ 32 ∷ 32 ∷ 91 ∷ 120 ∷ 44 ∷ 32 ∷ 120 ∷ 93 ∷ (replicate 50 32 ++ (10 ∷
    32 ∷ 32 ∷ 32 ∷ 32 ∷ 32 ∷ 50 ∷ 98 ∷ 105 ∷ 110 ∷ 100 ∷ 32 ∷ 32 ∷ 32 ∷ 32 ∷ 32 ∷ 32 ∷ 120 ∷ (replicate 55 32 ++ (10 ∷
    32 ∷ 32 ∷ 32 ∷ 32 ∷ 32 ∷ 51 ∷ 101 ∷ 120 ∷ 112 ∷ 114 ∷ 101 ∷ 115 ∷ 115 ∷ 105 ∷ 111 ∷ 110 ∷ 120 ∷ (replicate 55 32 ++ (10 ∷ []))))))

-- and 57 blank lines
abbrev pub blank_lines : ℕ → List ℕ
blank_lines zero = []
blank_lines (suc n) = replicate 72 32 ++ (10 ∷ blank_lines n)

abbrev pub example_pages : List ℕ
example_pages = example_lines ++ blank_lines 57
