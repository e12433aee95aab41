-- Document 01, "Sheet": what a sheet says. Line 1 has the counts, line 2 the operation; then nodes, children, numbers, names, string bytes and text bytes.
use Rattle.std.specs.Prelude.{ℕ, ◌+◌, ◌-◌, ◌*◌, Bool, ◌&&◌, List, ◌++◌, eqb, leb, length, replicate}
use Rattle.table.specs.Rules.{counts_within_limits}
use Rattle.base.specs.Refusal.{Refusal, over_limit, layout_broken, require_or}
use Rattle.base.specs.Lists.{part, all_from, tabulate}
use Rattle.scope.specs.declared.Scope.{Scope}
use Rattle.scope.specs.declared.ByteScope.{ByteScope}
use Rattle.scope.specs.Bytes.{of_bytes}
use Rattle.table.specs.Tables.{Tables, tables}
use Rattle.sheet.specs.declared.header.Counts.{Counts}
use Rattle.operation.specs.declared.numbers.OperationNumbers.{OperationNumbers}
use Rattle.operation.specs.Numbers.{are_listed}
use Rattle.sheet.specs.Lines.{number_in, column_place, line_length, number_line_length, is_line, lines_ok, number_lines_ok, column_word_at, number_word}

-- Lines 1 and 2 have six columns each; then come the nodes.
abbrev pub line1 : ℕ
line1 = 0

abbrev pub line2 : ℕ
line2 = line1 + line_length 6

abbrev pub nodes_place : ℕ
nodes_place = line2 + line_length 6

abbrev pub counts_of : List ℕ → Counts
counts_of sheet =
    record {
      nodes = number_in sheet line1 0;
      children = number_in sheet line1 1;
      numbers = number_in sheet line1 2;
      names = number_in sheet line1 3;
      strings = number_in sheet line1 4;
      text = number_in sheet line1 5;
    }

-- Limits: 512 nodes, 512 child entries, 256 numbers, 128 names, 8,192 string bytes, 16,384 text bytes.
unfoldable pub counts_ok : Counts → Bool
counts_ok c = counts_within_limits c.nodes c.children c.numbers c.names c.strings c.text

-- Where the other parts begin, and where the sheet ends: nodes are lines of five columns, children of one, numbers of one of twenty, names of three.
abbrev pub children_place : Counts → ℕ
children_place c = nodes_place + c.nodes * line_length 5

abbrev pub numbers_place : Counts → ℕ
numbers_place c = children_place c + c.children * line_length 1

abbrev pub names_place : Counts → ℕ
names_place c = numbers_place c + c.numbers * number_line_length

abbrev pub strings_place : Counts → ℕ
strings_place c = names_place c + c.names * line_length 3

abbrev pub text_place : Counts → ℕ
text_place c = strings_place c + c.strings

abbrev pub end_place : Counts → ℕ
end_place c = text_place c + c.text

abbrev pub operation_numbers : List ℕ → OperationNumbers
operation_numbers sheet =
    record {
      number = number_in sheet line2 0;
      scheduler = number_in sheet line2 1;
      scoping = number_in sheet line2 2;
      first = number_in sheet line2 3;
      second = number_in sheet line2 4;
      key = number_in sheet line2 5;
    }

-- the marks of name x, which are 0 to 31, are column 2 of its line
abbrev pub mark_word : List ℕ → ℕ → ℕ → ℕ
mark_word sheet at x = column_word_at sheet (column_place at 2) (line_length 3) 1 x

abbrev pub mark_ok : List ℕ → ℕ → ℕ → Bool
mark_ok sheet at x = leb (mark_word sheet at x) 31

abbrev pub mark_columns_ok : List ℕ → ℕ → ℕ → Bool
mark_columns_ok sheet at count = all_from (mark_ok sheet at) 0 count

-- all lines as they should be, and nothing after the text
unfoldable pub layout_ok : List ℕ → Counts → Bool
layout_ok sheet c =
    eqb (length sheet) (end_place c)
    && (is_line sheet line2 6
    && (are_listed (operation_numbers sheet)
    && (lines_ok sheet nodes_place 5 c.nodes
    && (lines_ok sheet (children_place c) 1 c.children
    && (number_lines_ok sheet (numbers_place c) c.numbers
    && (lines_ok sheet (names_place c) 3 c.names
    && mark_columns_ok sheet (names_place c) c.names))))))

-- The tables. A name's words are columns 0 and 1 of its line: start and length.
abbrev pub nodes_of : List ℕ → Counts → List ℕ
nodes_of sheet c = tabulate (column_word_at sheet nodes_place (line_length 5) 5) 0 (c.nodes * 5)

abbrev pub children_of : List ℕ → Counts → List ℕ
children_of sheet c = tabulate (column_word_at sheet (children_place c) (line_length 1) 1) 0 c.children

abbrev pub numbers_of : List ℕ → Counts → List ℕ
numbers_of sheet c = tabulate (number_word sheet (numbers_place c)) 0 (c.numbers * 2)

abbrev pub name_words_of : List ℕ → Counts → List ℕ
name_words_of sheet c = tabulate (column_word_at sheet (names_place c) (line_length 3) 2) 0 (c.names * 2)

abbrev pub marks_of : List ℕ → Counts → List ℕ
marks_of sheet c = tabulate (mark_word sheet (names_place c)) 0 c.names

abbrev pub strings_of : List ℕ → Counts → List ℕ
strings_of sheet c = part sheet (strings_place c) c.strings

abbrev pub text_of : List ℕ → Counts → List ℕ
text_of sheet c = part sheet (text_place c) c.text

abbrev pub tables_of : List ℕ → Counts → Tables
tables_of sheet c = tables (nodes_of sheet c) (children_of sheet c) (numbers_of sheet c) (name_words_of sheet c) (strings_of sheet c) (text_of sheet c)

-- What a sheet says: an operation, tables, and the marks of the names by their numbers.
pub record Sheet : Type 0 where
  pub operation : OperationNumbers
  pub held : Tables
  pub marks : List ℕ

abbrev pub sheet_of : List ℕ → Counts → Sheet
sheet_of sheet c = record { operation = operation_numbers sheet; held = tables_of sheet c; marks = marks_of sheet c }

pub data Parsed : Type 0 where
  unparsed : Refusal → Parsed
  parsed : Sheet → Parsed

-- a test, its refusal, and the rest
abbrev pub require : Bool → Refusal → Parsed → Parsed
require = require_or unparsed

-- 7 line 1 unreadable, 1 by line 1, 7 layout broken
abbrev pub parsed_by : List ℕ → Counts → Parsed
parsed_by sheet c = require (counts_ok c) over_limit (require (layout_ok sheet c) layout_broken (parsed (sheet_of sheet c)))

unfoldable pub parse : List ℕ → Parsed
parse sheet = require (is_line sheet line1 6) layout_broken (parsed_by sheet (counts_of sheet))

-- The scope. Planning tells `_` by its bytes, so the scope's number of `_` makes no difference, and is 0.
abbrev pub byte_scope_of : OperationNumbers → List ℕ → ByteScope
byte_scope_of o marks = record { marks = marks; underscore = 0; scheduler = eqb o.scheduler 1 }

-- the marks of the names, and no mark of a name past them
abbrev pub scope_of : OperationNumbers → List ℕ → Scope
scope_of o marks = of_bytes (byte_scope_of o (marks ++ replicate (128 - length marks) 0))
