-- Document 01, "Sheet", the other way: the bytes of a sheet that says an operation, tables and marks.
use Rattle.std.specs.Prelude.{ℕ, zero, suc, ◌+◌, ◌*◌, ◌^◌, ◌<◌, ◌≤◌, true, List, [], ◌∷◌, ◌++◌, ◌≡◌, eqb, length, get_or}
use Rattle.base.specs.Refusal.{passed}
use Rattle.base.specs.Lists.{part}
use Rattle.scope.specs.declared.Scope.{Scope}
use Rattle.table.specs.Check.{checked}
use Rattle.table.specs.Rules.{within_limits, whole_records, number_ok}
use Rattle.table.specs.Tables.{Tables, node_count, number_count, name_count}
use Rattle.columns.specs.Columns.{write_column, write_signed}
use Rattle.operation.specs.declared.numbers.OperationNumbers.{OperationNumbers}
use Rattle.operation.specs.Numbers.{are_listed}
use Rattle.sheet.specs.Sheet.{Sheet, parsed, parse}

-- columns of six, then LF
unfoldable pub write_columns : List ℕ → List ℕ
write_columns [] = []
write_columns (w ∷ ws) = write_column w ++ write_columns ws

unfoldable pub write_line : List ℕ → List ℕ
write_line words = write_columns words ++ (10 ∷ [])

-- lines i to i + k - 1
unfoldable pub write_lines : (ℕ → List ℕ) → ℕ → ℕ → List ℕ
write_lines line i zero = []
write_lines line i (suc k) = line i ++ write_lines line (i + 1) k

-- the words of each line
abbrev pub counts_row : Tables → List ℕ
counts_row T =
    node_count T ∷ length T.children ∷ number_count T ∷ name_count T ∷ length T.strings ∷ length T.text ∷ []

abbrev pub operation_row : OperationNumbers → List ℕ
operation_row o = o.number ∷ o.scheduler ∷ o.scoping ∷ o.first ∷ o.second ∷ o.key ∷ []

abbrev pub node_row : Tables → ℕ → List ℕ
node_row T i = part T.nodes (i * 5) 5

abbrev pub child_row : Tables → ℕ → List ℕ
child_row T i = part T.children i 1

-- start, length, marks
abbrev pub name_row : Tables → List ℕ → ℕ → List ℕ
name_row T marks i = part T.names (i * 2) 2 ++ (get_or marks i 0 ∷ [])

-- a number: one column of twenty, then LF
unfoldable pub number_line : Tables → ℕ → List ℕ
number_line T i = write_signed (eqb (get_or T.numbers (i * 2) 0) 1) (get_or T.numbers (i * 2 + 1) 0) ++ (10 ∷ [])

unfoldable pub render : Sheet → List ℕ
render S =
    write_line (counts_row S.held)
    ++ (write_line (operation_row S.operation)
    ++ (write_lines (λ i. write_line (node_row S.held i)) 0 (node_count S.held)
    ++ (write_lines (λ i. write_line (child_row S.held i)) 0 (length S.held.children)
    ++ (write_lines (number_line S.held) 0 (number_count S.held)
    ++ (write_lines (λ i. write_line (name_row S.held S.marks i)) 0 (name_count S.held)
    ++ (S.held.strings ++ S.held.text))))))

-- Words that a column of six has room for; one that isn't there counts as 0.
pub record Narrow (words : List ℕ) : Type 0 where
  pub digits : (i : ℕ) → get_or words i 0 < 10 ^ 6

-- What can stand on a sheet: whole records within the limits, in columns that have room for them, and one mark of 0 to 31 a name.
pub record Renderable (S : Sheet) : Type 0 where
  pub whole : whole_records S.held ≡ true
  pub few : within_limits S.held ≡ true
  pub operation_ok : are_listed S.operation ≡ true
  pub operation_narrow : Narrow (operation_row S.operation)
  pub nodes : Narrow S.held.nodes
  pub children : Narrow S.held.children
  pub names : Narrow S.held.names
  pub numbers : (i : ℕ) → i < number_count S.held → number_ok S.held i ≡ true
  pub as_many : length S.marks ≡ name_count S.held
  pub low : (x : ℕ) → get_or S.marks x 0 ≤ 31

-- What is rendered is parsed back; and a table that passes the check can be rendered.
pub record RoundTrip : Type 0 where
  pub back : (S : Sheet) → Renderable S → parse (render S) ≡ parsed S
  pub sound : (S : Sheet) (s : Scope) → checked S.held s ≡ passed → are_listed S.operation ≡ true → Narrow (operation_row S.operation) → length S.marks ≡ name_count S.held
      → ((x : ℕ) → get_or S.marks x 0 ≤ 31) → Renderable S
