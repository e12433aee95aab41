-- The text of a node, from its start to its end, and where it stands in the bytes of a sheet.
use Rattle.std.specs.Prelude.{ℕ, ◌+◌, ◌-◌, ◌≤◌, min, max, List, ◌≡◌, length}
use Rattle.base.specs.Lists.{part}
use Rattle.table.specs.Tables.{Tables, start_of, end_of}
use Rattle.sheet.specs.declared.header.Counts.{Counts}
use Rattle.sheet.specs.declared.source.Span.{Span}
use Rattle.sheet.specs.Sheet.{Sheet, parsed, parse, counts_of, text_place, end_place, nodes_of, tables_of}

-- none where there is no such node
unfoldable pub source_text : Tables → ℕ → List ℕ
source_text T n = part T.text (start_of T.nodes n) (end_of T.nodes n - start_of T.nodes n)

-- by the tables that bytes say, be they a sheet or not
abbrev pub source_in : List ℕ → ℕ → List ℕ
source_in sheet n = source_text (tables_of sheet (counts_of sheet)) n

-- Where byte k of the text stands in a sheet with these counts; where the text or the sheet ends, if they end before it.
abbrev pub text_byte : List ℕ → Counts → ℕ → ℕ
text_byte sheet c k = min (text_place c + k) (min (end_place c) (length sheet))

abbrev pub span : ℕ → ℕ → Span
span start end = record { start = start; end = end }

-- from the place of the node's start to that of its end; where the end comes before the start, nothing, at the start
unfoldable pub span_of : List ℕ → Counts → ℕ → Span
span_of sheet c n = span (text_byte sheet c (start_of (nodes_of sheet c) n)) (max (text_byte sheet c (start_of (nodes_of sheet c) n)) (text_byte sheet c (end_of (nodes_of sheet c) n)))

abbrev pub span_in : List ℕ → ℕ → Span
span_in sheet n = span_of sheet (counts_of sheet) n

-- a part of the sheet, and the node's text
pub record SourceSpan (sheet : List ℕ) (node : ℕ) (r : Span) : Type 0 where
  pub ordered : r.start ≤ r.end
  pub inside : r.end ≤ length sheet
  pub text : part sheet r.start (r.end - r.start) ≡ source_in sheet node

pub record SourceLaws : Type 0 where
  pub spans : (sheet : List ℕ) (n : ℕ) → SourceSpan sheet n (span_in sheet n)
  -- of a sheet it is the text by its tables
  pub read : (sheet : List ℕ) {S : Sheet} → parse sheet ≡ parsed S → (n : ℕ) → source_in sheet n ≡ source_text S.held n
