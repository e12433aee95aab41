-- The lines of a rule body (request 14 of document 02): 1 to 64 assignments, some-in lines and indices, each as four words, the sheet's operation and three roots.
use Rattle.std.specs.Prelude.{ℕ, zero, suc, ◌+◌, ◌*◌, ◌/◌, ◌%◌, Bool, ◌&&◌, List, [], ◌∷◌, eqb, leb, length, get_or}
use Rattle.base.specs.Lists.{all_from}
use Rattle.operation.specs.declared.Operation.{Operation}
use Rattle.operation.specs.declared.numbers.OperationNumbers.{OperationNumbers}
use Rattle.operation.specs.Numbers.{operation_of}

-- the words of a line
abbrev pub line_words : ℕ
line_words = 4

-- whole lines
abbrev pub line_count : List ℕ → ℕ
line_count words = length words / line_words

-- line i, from 0, as a sheet's line 2 has it; scoping 1 says the present reading, and nothing else to these operations
abbrev pub numbers_at : List ℕ → ℕ → OperationNumbers
numbers_at words i =
    record {
      number = get_or words (i * line_words) 0;
      scheduler = 0;
      scoping = 1;
      first = get_or words (i * line_words + 1) 0;
      second = get_or words (i * line_words + 2) 0;
      key = get_or words (i * line_words + 3) 0;
    }

abbrev pub line_at : List ℕ → ℕ → Operation
line_at words i = operation_of (numbers_at words i)

-- k lines from line i on
unfoldable pub lines_from : List ℕ → ℕ → ℕ → List Operation
lines_from words i zero = []
lines_from words i (suc k) = line_at words i ∷ lines_from words (i + 1) k

abbrev pub operations_of : List ℕ → List Operation
operations_of words = lines_from words 0 (line_count words)

-- 2 `:=`, 3 `=`, 4 some-in, 5 index
abbrev pub is_line_at : List ℕ → ℕ → Bool
is_line_at words i = leb 2 (get_or words (i * line_words) 0) && leb (get_or words (i * line_words) 0) 5

unfoldable pub is_body : List ℕ → Bool
is_body words = eqb (length words % line_words) 0 && (leb 1 (line_count words) && (leb (line_count words) 64 && all_from (is_line_at words) 0 (line_count words)))
