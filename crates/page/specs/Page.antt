-- Document 02, request 1: the pages of a plan. An entry is a line of four cells; a page has 60 lines.
use Rattle.std.specs.Prelude.{ℕ, ◌+◌, ◌-◌, ◌*◌, ◌/◌, Bool, cond, ◌&&◌, List, [], ◌∷◌, ◌++◌, map, eqb, leb, length, take, replicate}
use Rattle.columns.specs.Columns.{write_column}
use Rattle.planner.specs.Layout.{Entry}

-- The widths of the cells: entry number, kind, the node's source text, the key node's.
abbrev pub number_width : ℕ
number_width = 6

abbrev pub kind_width : ℕ
kind_width = 10

abbrev pub source_width : ℕ
source_width = 40

abbrev pub key_width : ℕ
key_width = 16

-- a line's characters, and its bytes: these and LF
abbrev pub line_width : ℕ
line_width = number_width + (kind_width + (source_width + key_width))

abbrev pub page_line_length : ℕ
page_line_length = line_width + 1

abbrev pub page_lines : ℕ
page_lines = 60

abbrev pub blanks : ℕ → List ℕ
blanks n = replicate n 32

-- Bytes outside 32 to 126 print as `?`.
abbrev pub is_printable : ℕ → Bool
is_printable b = leb 32 b && leb b 126

abbrev pub printable : ℕ → ℕ
printable b = cond (is_printable b) b 63

-- A text to the left in so many columns. Of one that is too long all but the last column's worth, and then `~`.
unfoldable pub left_in : ℕ → List ℕ → List ℕ
left_in width text = cond (leb (length text) width) (text ++ blanks (width - length text)) (take (width - 1) text ++ (126 ∷ []))

-- the same of bytes as they print
abbrev pub cell : ℕ → List ℕ → List ℕ
cell width text = left_in width (map printable text)

-- the kinds of entries: bind, ignore, expression, literal, array, object, pair
abbrev pub kind_name : ℕ → List ℕ
kind_name kind =
    cond (eqb kind 1) (98 ∷ 105 ∷ 110 ∷ 100 ∷ [])
    (cond (eqb kind 2) (105 ∷ 103 ∷ 110 ∷ 111 ∷ 114 ∷ 101 ∷ [])
    (cond (eqb kind 3) (101 ∷ 120 ∷ 112 ∷ 114 ∷ 101 ∷ 115 ∷ 115 ∷ 105 ∷ 111 ∷ 110 ∷ [])
    (cond (eqb kind 4) (108 ∷ 105 ∷ 116 ∷ 101 ∷ 114 ∷ 97 ∷ 108 ∷ [])
    (cond (eqb kind 5) (97 ∷ 114 ∷ 114 ∷ 97 ∷ 121 ∷ [])
    (cond (eqb kind 6) (111 ∷ 98 ∷ 106 ∷ 101 ∷ 99 ∷ 116 ∷ [])
    (cond (eqb kind 7) (112 ∷ 97 ∷ 105 ∷ 114 ∷ [])
    []))))))

-- A line of a page.
pub record Cells : Type 0 where
  pub number : List ℕ
  pub kind : List ℕ
  pub source : List ℕ
  pub key : List ℕ

-- a line by its number, its entry's kind and the two texts
abbrev pub line_cells : ℕ → ℕ → List ℕ → List ℕ → Cells
line_cells number kind source key =
    record { number = write_column number; kind = cell kind_width (kind_name kind); source = cell source_width source; key = cell key_width key }

-- An entry by its number, where `source n` is the source text of node n. Where there is no key its cell is blank. (A pair's node is its value side.)
abbrev pub key_source : (ℕ → List ℕ) → ℕ → List ℕ
key_source source key = cond (eqb key 0) [] (source key)

abbrev pub entry_cells : (ℕ → List ℕ) → ℕ → Entry → Cells
entry_cells source number e = line_cells number e.kind (source e.node) (key_source source e.key)

abbrev pub blank_cells : Cells
blank_cells = record { number = blanks number_width; kind = blanks kind_width; source = blanks source_width; key = blanks key_width }

-- entries numbered from `number` on
unfoldable pub entry_lines : (ℕ → List ℕ) → ℕ → List Entry → List Cells
entry_lines source number [] = []
entry_lines source number (e ∷ es) = entry_cells source number e ∷ entry_lines source (number + 1) es

-- as many pages as so many entries need, none for none
abbrev pub page_count : ℕ → ℕ
page_count entries = (entries + (page_lines - 1)) / page_lines

-- the lines of a plan's pages: its entries, numbered from 1, then blank lines to the end of the last page
abbrev pub pages_lines : (ℕ → List ℕ) → List Entry → List Cells
pages_lines source es = entry_lines source 1 es ++ replicate (page_count (length es) * page_lines - length es) blank_cells

-- cells side by side, then LF
unfoldable pub cells_bytes : Cells → List ℕ
cells_bytes c = c.number ++ (c.kind ++ (c.source ++ (c.key ++ (10 ∷ []))))

unfoldable pub page_bytes : List Cells → List ℕ
page_bytes [] = []
page_bytes (c ∷ cs) = cells_bytes c ++ page_bytes cs
