-- Lines 1 and 2, as the code reads them.
use Rattle.std.specs.Prelude.{ℕ, ◌^◌, ◌<◌, ◌≤◌, Bool, cond, ◌&&◌, List, Result, Ok, Err, ◌≡◌, eqb, length, get_or}
use Rattle.base.specs.Refusal.{over_limit, layout_broken}
use Rattle.sheet.specs.declared.header.Counts.{Counts}
use Rattle.sheet.specs.declared.header.Places.{Places}
use Rattle.operation.specs.declared.numbers.OperationNumbers.{OperationNumbers}
use Rattle.operation.specs.Numbers.{are_listed}
use Rattle.sheet.specs.declared.header.Header.{Header}
use Rattle.sheet.specs.declared.header.SheetRefusal.{SheetRefusal}
use Rattle.sheet.specs.declared.header.SheetRefusal.TheVariants.{OverLimit, LayoutBroken}
use Rattle.sheet.specs.Lines.{is_line, lines_ok, number_lines_ok}
use Rattle.sheet.specs.Sheet.{line1, line2, nodes_place, counts_of, counts_ok, children_place, numbers_place, names_place, strings_place, text_place, end_place, operation_numbers, mark_columns_ok, sheet_of, unparsed, parsed, parse}

-- the two lines, by their words
abbrev pub counts_in : List ℕ → Counts
counts_in line =
    record {
      nodes = get_or line 0 0;
      children = get_or line 1 0;
      numbers = get_or line 2 0;
      names = get_or line 3 0;
      strings = get_or line 4 0;
      text = get_or line 5 0;
    }

abbrev pub operation_in : List ℕ → OperationNumbers
operation_in line =
    record {
      number = get_or line 0 0;
      scheduler = get_or line 1 0;
      scoping = get_or line 2 0;
      first = get_or line 3 0;
      second = get_or line 4 0;
      key = get_or line 5 0;
    }

-- where the parts begin
abbrev pub places_of : Counts → Places
places_of c =
    record {
      nodes = nodes_place;
      children = children_place c;
      numbers = numbers_place c;
      names = names_place c;
      strings = strings_place c;
      text = text_place c;
      end = end_place c;
    }

-- counts below 2^32, as any that columns say
pub record Countable (c : Counts) : Type 0 where
  pub nodes_below : c.nodes < 2 ^ 32
  pub children_below_lem : c.children < 2 ^ 32
  pub numbers_below : c.numbers < 2 ^ 32
  pub names_below : c.names < 2 ^ 32
  pub strings_below : c.strings < 2 ^ 32
  pub text_below : c.text < 2 ^ 32

-- a number as it was read, and line 1
pub record NumberRead (value r : ℕ) : Type 0 where
  pub is : r ≡ value
  pub below : r < 2 ^ 32

pub record CountsRead (sheet : List ℕ) (r : Counts) : Type 0 where
  pub is : r ≡ counts_of sheet
  pub countable : Countable r

-- counts within the limits
pub record Limited (c : Counts) : Type 0 where
  pub nodes_few : c.nodes ≤ 512
  pub children_few : c.children ≤ 512
  pub numbers_few : c.numbers ≤ 256
  pub names_few : c.names ≤ 128
  pub strings_few : c.strings ≤ 8192
  pub text_few : c.text ≤ 16384

-- the numbers of these refusals
abbrev pub refusal_number : SheetRefusal → ℕ
refusal_number OverLimit = over_limit.number
refusal_number LayoutBroken = layout_broken.number

-- 7 line 1 unreadable, 1 by line 1, 7 for the length or line 2
abbrev pub header_of : List ℕ → Counts → Header
header_of sheet c = record { counts = c; places = places_of c; operation = operation_numbers sheet }

unfoldable pub head_ok : List ℕ → Counts → Bool
head_ok sheet c = eqb (length sheet) (end_place c) && (is_line sheet line2 6 && are_listed (operation_numbers sheet))

unfoldable pub heading_by : List ℕ → Counts → Result Header SheetRefusal
heading_by sheet c = cond (counts_ok c) (cond (head_ok sheet c) (Ok (header_of sheet c)) (Err LayoutBroken)) (Err OverLimit)

unfoldable pub heading_of : List ℕ → Result Header SheetRefusal
heading_of sheet = cond (is_line sheet line1 6) (heading_by sheet (counts_of sheet)) (Err LayoutBroken)

-- the tests of the layout that are left
abbrev pub tables_ok : List ℕ → Counts → Bool
tables_ok sheet c =
    lines_ok sheet nodes_place 5 c.nodes
    && (lines_ok sheet (children_place c) 1 c.children
    && (number_lines_ok sheet (numbers_place c) c.numbers
    && (lines_ok sheet (names_place c) 3 c.names
    && mark_columns_ok sheet (names_place c) c.names)))

-- a sheet with a good header
pub record Headed (sheet : List ℕ) (h : Header) : Type 0 where
  pub limited : Limited h.counts
  pub places_are : h.places ≡ places_of h.counts
  pub operation_is : h.operation ≡ operation_numbers sheet
  pub size : length sheet ≡ end_place h.counts
  pub parses : parse sheet ≡ cond (tables_ok sheet h.counts) (parsed (sheet_of sheet h.counts)) (unparsed layout_broken)
