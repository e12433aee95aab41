-- The pages of a sheet's plan: the answer, and the page buffer afterwards.
use Rattle.std.specs.Prelude.{ℕ, ◌-◌, ◌/◌, ◌≡◌, Bool, cond, List, Result, Ok, Err, [], ◌++◌, leb, length, replicate}
use Rattle.base.specs.Lent.{MutSlices, old, new}
use Rattle.base.specs.Refusal.{Refusal, plan_too_large, page_buffer_too_short, Line, line, refusal_line}
use Rattle.planner.specs.Operations as Plan
use Rattle.planner.specs.Operations.{Outcome}
use Rattle.operation.specs.declared.row.Row.{Row}
use Rattle.operation.specs.Rows.{row_line, Told}
use Rattle.sheet.specs.Sheet.{Parsed, unparsed, parsed}
use Rattle.sheet.specs.Outcome.{outcome_of_sheet}
use Rattle.sheet.specs.Source.{source_text}
use Rattle.page.specs.declared.PageRefusal.{PageRefusal}
use Rattle.page.specs.declared.PageRefusal.TheVariants.{SheetRefused, BufferTooShort}
use Rattle.page.specs.Page.{page_lines, Cells, pages_lines, page_bytes}

-- What a sheet comes to, the space of the page buffer aside: a refusal, or the lines of whole pages.
pub data Paged : Type 0 where
  refused : Refusal → Paged
  paged : List Cells → Paged

-- From the outcome that the listing is made from, with its space for 1,536 entries.
abbrev pub pages_of : (ℕ → List ℕ) → Outcome → Paged
pages_of source (Plan.refused r) = refused r
pages_of source (Plan.planned form side es) = cond (leb (length es) 1536) (paged (pages_lines source es)) (refused (plan_too_large (length es)))

-- the source text of each node of a sheet
abbrev pub source_of_sheet : Parsed → ℕ → List ℕ
source_of_sheet (unparsed r) n = []
source_of_sheet (parsed S) n = source_text S.held n

abbrev pub pages_of_sheet : Parsed → Paged
pages_of_sheet p = pages_of (source_of_sheet p) (outcome_of_sheet p)

-- The last refusal, 30: a page buffer shorter than the pages.
abbrev pub pages_fit : List Cells → List ℕ → Bool
pages_fit lines buffer = leb (length (page_bytes lines)) (length buffer)

abbrev pub refusal_row : Refusal → Row
refusal_row r = record { number = r.number; second = r.place; third = r.first; fourth = r.second }

unfoldable pub pages_answer : Paged → List ℕ → Result ℕ PageRefusal
pages_answer (refused r) buffer = Err (SheetRefused (refusal_row r))
pages_answer (paged lines) buffer = cond (pages_fit lines buffer) (Ok (length lines / page_lines)) (Err BufferTooShort)

-- the pages, then zeros; after a refusal as it was
unfoldable pub pages_after : Paged → List ℕ → List ℕ
pages_after (refused r) buffer = buffer
pages_after (paged lines) buffer = cond (pages_fit lines buffer) (page_bytes lines ++ replicate (length buffer - length (page_bytes lines)) 0) buffer

pub record LaidOut (p : Paged) (before after : List ℕ) (r : Result ℕ PageRefusal) : Type 0 where
  pub answer : r ≡ pages_answer p before
  pub buffer : after ≡ pages_after p before

-- the same of a `&mut` buffer, at entry and at exit
abbrev pub LaidOutIn : MutSlices → Paged → Result ℕ PageRefusal → Type 0
LaidOutIn pages p r = LaidOut p (old pages) (new pages) r

-- An answer's four numbers: 0, the pages, 0, 0; or the refusal's.
abbrev pub page_line : Result ℕ PageRefusal → Line
page_line (Ok n) = line 0 n 0 0
page_line (Err (SheetRefused row)) = row_line row
page_line (Err BufferTooShort) = refusal_line page_buffer_too_short

-- The call for a C host: the four numbers in the lent words, and the first as its result.
pub record PagesTold (p : Paged) (buffer words bufferExit wordsExit : List ℕ) (r : ℕ) : Type 0 where
  pub answer : Told (page_line (pages_answer p buffer)) words wordsExit r
  pub pages : bufferExit ≡ pages_after p buffer

abbrev pub PagesToldIn : MutSlices → MutSlices → Paged → ℕ → Type 0
PagesToldIn pages answer p r = PagesTold p (old pages) (old answer) (new pages) (new answer) r
