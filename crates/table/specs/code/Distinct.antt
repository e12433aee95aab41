-- Marks of the numbers met so far: 0 at a number's place for one that was not.
use Rattle.std.specs.Prelude.{ℕ, ◌+◌, ◌/◌, ◌≤◌, ◌<◌, ◌≡◌, Bool, true, ◌&&◌, List, [], ◌∷◌, eqb, length, get_or, set}
use Rattle.table.specs.Tables.{first_word_of, width}
use Rattle.table.specs.Rules.{places_from}

-- are they all new, each marked before the next?
unfoldable pub fresh_all : List ℕ → List ℕ → Bool
fresh_all [] marks = true
fresh_all (x ∷ xs) marks = eqb (get_or marks x 0) 0 && fresh_all xs (set marks x 1)

unfoldable pub mark_all : List ℕ → List ℕ → List ℕ
mark_all [] marks = marks
mark_all (x ∷ xs) marks = mark_all xs (set marks x 1)

-- `mark_places`: the marks are all set where all were new
pub record PlacesMarked (first count : ℕ) (before after : List ℕ) (r : Bool) : Type 0 where
  pub fresh : r ≡ fresh_all (places_from first count) before
  pub marked : r ≡ true → after ≡ mark_all (places_from first count) before

-- `places_apart`: few nodes, and their places fit the marks
pub record PlacesAsks (nodes : List ℕ) : Type 0 where
  pub few : length nodes / 5 ≤ 512
  pub low : (n : ℕ) → 1 ≤ n → n ≤ length nodes / 5 → (i : ℕ) → i < width nodes n → first_word_of nodes n + i < 512
