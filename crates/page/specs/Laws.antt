-- What holds of the pages of every plan.
use Rattle.std.specs.Prelude.{ℕ, ◌*◌, ◌≤◌, List, Ok, Err, Some, ◌≡◌, length, take}
use Rattle.columns.specs.Columns.{read_column, write_column}
use Rattle.planner.specs.Layout.{Entry}
use Rattle.planner.specs.Operations.{Outcome}
use Rattle.sheet.specs.Sheet.{parse}
use Rattle.page.specs.declared.PageRefusal.TheVariants.{BufferTooShort}
use Rattle.page.specs.Page.{page_line_length, page_lines, Cells, entry_cells, blank_cells, cells_bytes, page_bytes}
use Rattle.page.specs.Answer.{paged, pages_of, pages_of_sheet, pages_answer}

-- Every line has 72 characters and LF, whatever its texts; an entry's number stands in its cell whole.
pub record PageLineLaws : Type 0 where
  pub entry : (source : ℕ → List ℕ) (number : ℕ) (e : Entry) → length (cells_bytes (entry_cells source number e)) ≡ 73
  pub blank : length (cells_bytes blank_cells) ≡ 73
  pub number : (n : ℕ) → n ≤ 1536 → read_column (write_column n) ≡ Some n

-- The pages of a plan are whole, and have at most 113,880 bytes (26 pages of 60 lines of 73 bytes): a buffer of these is never too short.
pub record PagesSize : Type 0 where
  pub whole : (source : ℕ → List ℕ) (o : Outcome) (buffer : List ℕ) {lines : List Cells} {n : ℕ} → pages_of source o ≡ paged lines → pages_answer (paged lines) buffer ≡ Ok n
      → length (page_bytes lines) ≡ n * (page_lines * page_line_length)
  pub most : (source : ℕ → List ℕ) (o : Outcome) {lines : List Cells} → pages_of source o ≡ paged lines → length (page_bytes lines) ≤ 113880
  pub suffices : (source : ℕ → List ℕ) (o : Outcome) (buffer : List ℕ) → 113880 ≤ length buffer → pages_answer (pages_of source o) buffer ≡ Err BufferTooShort → ⊥

-- The longest sheet has 51,914 bytes: the first 51,915 of a longer input have its pages.
pub record PagesCutShort : Type 0 where
  pub cut : (sheet : List ℕ) → 51915 ≤ length sheet → pages_of_sheet (parse (take 51915 sheet)) ≡ pages_of_sheet (parse sheet)
