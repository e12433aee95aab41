-- What the private functions ask and answer.
use Rattle.std.specs.Prelude.{ℕ, ◌+◌, ◌*◌, ◌/◌, ◌%◌, ◌^◌, ◌<◌, ◌≤◌, Bool, true, cond, ◌&&◌, List, Option, Some, None, ◌++◌, ◌≡◌, eqb, leb, length, get_or, set, replicate}
use Rattle.scope.specs.declared.Scope.{Scope}
use Rattle.scope.specs.Bytes.{converted}
use Rattle.base.specs.Lists.{all_from}
use Rattle.columns.specs.Columns.{column_at, write_column}
use Rattle.base.specs.Refusal.{Line, line}
use Rattle.planner.specs.Layout.{entry_words}
use Rattle.planner.specs.Entries.{read_entries}
use Rattle.planner.specs.Operations.{zeros}
use Rattle.sheet.specs.declared.header.Counts.{Counts}
use Rattle.sheet.specs.declared.header.Header.{Header}
use Rattle.operation.specs.declared.numbers.OperationNumbers.{OperationNumbers}
use Rattle.operation.specs.declared.row.Row.{Row}
use Rattle.operation.specs.Rows.{row_line}
use Rattle.base.specs.Lent.{MutSlices}
use Rattle.sheet.specs.Lines.{is_readable, column_number, line_length, number_line_length, lines_ok, column_word_at, number_word}
use Rattle.sheet.specs.Sheet.{byte_scope_of, nodes_place, mark_word, children_place, numbers_place, names_place, mark_columns_ok, parse}
use Rattle.sheet.specs.Outcome.{outcome_of_sheet, PlannedInto}
use Rattle.sheet.specs.Listing.{Listing, followed, alone, lines_bytes, Printed}
use Rattle.sheet.specs.code.Header.{places_of, Limited, tables_ok, Headed}

-- so many parts of `line` bytes each, below 2^32
pub record Inside (at line count : ℕ) : Type 0 where
  pub below : at + count * line < 2 ^ 32

-- what was read of a column, into word w
pub record WordRead (sheet : List ℕ) (at w : ℕ) (before after : List ℕ) (r : Bool) : Type 0 where
  pub ok : r ≡ is_readable (column_at sheet at)
  pub stored : r ≡ true → after ≡ set before w (column_number sheet at)

-- the first words of an array
pub record Filled (f : ℕ → ℕ) (count : ℕ) (array : List ℕ) : Type 0 where
  pub each : (k : ℕ) → k < count → get_or array k 0 ≡ f k

-- lines that were read into an array: whether they are good, and their words if they are
pub record Read (f : ℕ → ℕ) (words : ℕ) (good : Bool) (array : List ℕ) (r : Bool) : Type 0 where
  pub ok : r ≡ good
  pub filled : r ≡ true → Filled f words array

-- so many lines, or line i after those before it
pub record LinesAsks (at columns count : ℕ) (out : List ℕ) : Type 0 where
  pub lines : Inside at (line_length columns) count
  pub few : columns ≤ 6
  pub room : count * columns ≤ length out

pub record LineAsks (sheet : List ℕ) (at columns i : ℕ) (out : List ℕ) : Type 0 where
  pub asked : LinesAsks at columns (i + 1) out
  pub before : Filled (column_word_at sheet at (line_length columns) columns) (i * columns) out

pub record NumbersAsks (at count : ℕ) (out : List ℕ) : Type 0 where
  pub lines : Inside at number_line_length count
  pub room : count * 2 ≤ length out

pub record NumberAsks (sheet : List ℕ) (at i : ℕ) (out : List ℕ) : Type 0 where
  pub asked : NumbersAsks at (i + 1) out
  pub before : Filled (number_word sheet at) (i * 2) out

-- names and marks, from three words a name
abbrev pub name_word : List ℕ → ℕ → ℕ
name_word rows w = get_or rows (w / 2 * 3 + w % 2) 0

abbrev pub row_mark : List ℕ → ℕ → ℕ
row_mark rows x = get_or rows (x * 3 + 2) 0

abbrev pub row_mark_ok : List ℕ → ℕ → Bool
row_mark_ok rows x = leb (row_mark rows x) 31

pub record NamesAsks (rows : List ℕ) (count : ℕ) : Type 0 where
  pub few : count ≤ 128
  pub there : count * 3 ≤ length rows

pub record MarksAsks (rows : List ℕ) (count : ℕ) (marks : List ℕ) : Type 0 where
  pub few : count ≤ 128
  pub there : count * 3 ≤ length rows
  pub room : count ≤ length marks

-- the first words of an array by a function, the rest as they were
pub record Overlaid (f : ℕ → ℕ) (count : ℕ) (before after : List ℕ) : Type 0 where
  pub long : length after ≡ length before
  pub first : Filled f count after
  pub rest : (x : ℕ) → count ≤ x → get_or after x 0 ≡ get_or before x 0

pub record MarksRead (rows : List ℕ) (count : ℕ) (before after : List ℕ) (r : Bool) : Type 0 where
  pub ok : r ≡ all_from (row_mark_ok rows) 0 count
  pub marked : r ≡ true → Overlaid (row_mark rows) count before after

-- the lines of names: their words without the marks, and the marks
pub record NamesHeld (sheet : List ℕ) (at count : ℕ) (names before marks : List ℕ) : Type 0 where
  pub words : Filled (column_word_at sheet at (line_length 3) 2) (count * 2) names
  pub marked : Overlaid (mark_word sheet at) count before marks

abbrev pub names_ok : List ℕ → ℕ → ℕ → Bool
names_ok sheet at count = lines_ok sheet at 3 count && mark_columns_ok sheet at count

pub record NamesRead (sheet : List ℕ) (at count : ℕ) (names before marks : List ℕ) (r : Bool) : Type 0 where
  pub ok : r ≡ names_ok sheet at count
  pub held : r ≡ true → NamesHeld sheet at count names before marks

-- the listing of an answer and the plan's words
unfoldable pub write_pair : ℕ → ℕ → List ℕ
write_pair left right = write_column left ++ write_column right

-- the entries that follow a line
abbrev pub entries_in : Line → ℕ
entries_in l = cond (eqb l.number 0) l.fourth 0

abbrev pub answer_lines : Line → List ℕ → Listing
answer_lines first plan = followed first (read_entries plan 0 (entries_in first))

-- the line of an entry
abbrev pub entry_length : ℕ
entry_length = line_length entry_words

pub record EntryAsks (out : List ℕ) (at : ℕ) (plan : List ℕ) (i : ℕ) : Type 0 where
  pub space : at + entry_length ≤ length out
  pub held : i * entry_words + entry_words ≤ length plan

pub record EntriesAsks (out plan : List ℕ) (count : ℕ) : Type 0 where
  pub space : line_length 4 + count * entry_length ≤ length out
  pub held : count * entry_words ≤ length plan

-- the scope of a sheet, by its marks: empty where they are refused, which a good layout rules out
abbrev pub scope_in : OperationNumbers → List ℕ → Scope
scope_in o marks = converted (byte_scope_of o marks)

-- the words of a plan in the full space
abbrev pub plan_words : ℕ
plan_words = entry_words * 1536

-- what became of a listing in the small space: it is written, or its plan needs more and nothing was written
pub record TriedBy (listing before after : List ℕ) (r : Option ℕ) : Type 0 where
  pub listed : (bytes : ℕ) → r ≡ Some bytes → Printed listing before after bytes
  pub kept : r ≡ None → after ≡ before

-- in an output or a plan that is lent
abbrev pub PrintedIn : MutSlices → List ℕ → ℕ → Type 0
PrintedIn out listing r = Printed listing out.entry.now out.exit.now r

abbrev pub TriedIn : MutSlices → List ℕ → Option ℕ → Type 0
TriedIn out listing r = TriedBy listing out.entry.now out.exit.now r

abbrev pub PlannedIn : MutSlices → List ℕ → Row → Type 0
PlannedIn plan sheet r = PlannedInto (outcome_of_sheet (parse sheet)) plan.entry.now plan.exit.now r

-- a refusal that has no place and no counts
abbrev pub refusal_bytes : ℕ → List ℕ
refusal_bytes number = lines_bytes (alone (line number 0 0 0))

pub record RefusedBy (number : ℕ) (before after : List ℕ) (r : Row) : Type 0 where
  pub answer : row_line r ≡ line number 0 0 0
  pub buffer : after ≡ zeros before

abbrev pub RefusedIn : MutSlices → ℕ → Row → Type 0
RefusedIn plan number r = RefusedBy number plan.entry.now plan.exit.now r

-- arrays that have space for the tables: a name's line has three words
pub record Roomy (c : Counts) (nodes children numbers names : List ℕ) : Type 0 where
  pub nodes_room : c.nodes * 5 ≤ length nodes
  pub children_room : c.children ≤ length children
  pub numbers_room : c.numbers * 2 ≤ length numbers
  pub names_room : c.names * 3 ≤ length names

pub record TablesAsks (h : Header) (nodes children numbers names : List ℕ) : Type 0 where
  pub limited : Limited h.counts
  pub places_are : h.places ≡ places_of h.counts
  pub roomy : Roomy h.counts nodes children numbers names

-- what was read into them
pub record TablesHeld (sheet : List ℕ) (c : Counts) (nodes children numbers names before marks : List ℕ) : Type 0 where
  pub nodes_filled : Filled (column_word_at sheet nodes_place (line_length 5) 5) (c.nodes * 5) nodes
  pub children_filled : Filled (column_word_at sheet (children_place c) (line_length 1) 1) c.children children
  pub numbers_filled : Filled (number_word sheet (numbers_place c)) (c.numbers * 2) numbers
  pub names_held : NamesHeld sheet (names_place c) c.names names before marks

pub record TablesRead (sheet : List ℕ) (c : Counts) (nodes children numbers names before marks : List ℕ) (r : Bool) : Type 0 where
  pub ok : r ≡ tables_ok sheet c
  pub held : r ≡ true → TablesHeld sheet c nodes children numbers names before marks

-- a sheet of good layout, whose tables are in arrays, and the scope of its marks
pub record SheetHeld (sheet : List ℕ) (h : Header) (nodes children numbers names : List ℕ) (s : Scope) : Type 0 where
  pub marks : List ℕ
  pub scope_made : s ≡ scope_in h.operation marks
  pub headed : Headed sheet h
  pub good : tables_ok sheet h.counts ≡ true
  pub roomy : Roomy h.counts nodes children numbers names
  pub held : TablesHeld sheet h.counts nodes children numbers names (replicate 128 0) marks
