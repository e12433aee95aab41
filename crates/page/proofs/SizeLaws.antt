-- The size of the pages.
use Prim.Native.Nat.{ℕ, ◌*◌, ◌/◌, ◌≤◌}
use mathlib.Core.Bool.{Bool, true, false, false≢true}
use mathlib.Core.List.{List}
use mathlib.Core.Path.{◌≡◌, refl, sym, ap, ◌∙◌}
use native.Mathlib.Omega.{arith}
use mir.Syntax.{w64}
use mir.Val.{Fits}
use borrow.Author.Tests.{le-leb, leb-true}
use lib.Dec.{leb}
use lib.ListN.{length, take, drop, take-append-drop}
use lib.Seq.{length-take-le}
use Rattle.base.specs.Refusal.{Refusal, plan_too_large}
use Rattle.columns.proofs.ReadBack.{read_back}
use Rattle.planner.specs.Layout.{Entry}
use Rattle.planner.specs.Operations as Plan
use Rattle.planner.specs.Operations.{Outcome}
use Rattle.sheet.specs.Sheet.{parse}
use Rattle.sheet.specs.Outcome.{outcome_of_sheet}
use Rattle.sheet.proofs.laws.CutShort.{parsed_alike}
use Rattle.page.specs.declared.PageRefusal.{PageRefusal}
use Rattle.std.specs.Prelude.{Result, Ok, Err}
use Rattle.page.specs.declared.PageRefusal.TheVariants.{SheetRefused, BufferTooShort}
use Rattle.page.specs.Page.{page_line_length, page_lines, key_source, Cells, pages_lines, page_bytes}
use Rattle.page.specs.Answer.{Paged, refused, paged, pages_of, source_of_sheet, pages_of_sheet, pages_answer, pages_fit, LaidOut}
use Rattle.page.specs.Laws.{PageLineLaws, PagesSize, PagesCutShort}
use Rattle.page.proofs.PageLines.{line_long, blank_long}
use Rattle.page.proofs.EntryLines.{pages_many, pages_long}

pub line_laws : PageLineLaws
line_laws = record {
  entry = λ source number e. line_long number e.kind (source e.node) (key_source source e.key);
  blank = blank_long;
  number = λ n few. read_back.column n (omega arith);
}

-- lines are those of at most 1,536 entries
record Few (source : ℕ → List ℕ) (lines : List Cells) : Type 0 where
  es : List Entry
  few : length es ≤ 1536
  is : lines ≡ pages_lines source es

abbrev is_paged : Paged → Bool
is_paged (refused r) = false
is_paged (paged lines) = true

abbrev cells_in : Paged → List Cells → List Cells
cells_in (refused r) other = other
cells_in (paged lines) other = lines

pages_few : (source : ℕ → List ℕ) (o : Outcome) {lines : List Cells} → pages_of source o ≡ paged lines → Few source lines
pages_few source (Plan.refused r) e = absurd (false≢true (ap is_paged e))
pages_few source (Plan.planned form side es) {lines} e = go (leb (length es) 1536) refl
  where
    go : (b : Bool) → leb (length es) 1536 ≡ b → Few source lines
    go true p =
        let same : paged (pages_lines source es) ≡ paged lines = rw p at e in
        record { es = es; few = leb-true (length es) 1536 p; is = sym (ap (λ (q : Paged). cells_in q lines) same) }
    go false p = let other : refused (plan_too_large (length es)) ≡ paged lines = rw p at e in absurd (false≢true (ap is_paged other))

module _ (source : ℕ → List ℕ) (o : Outcome) {lines : List Cells} (comes : pages_of source o ≡ paged lines) where
  long : length (page_bytes lines) ≡ length lines * page_line_length
  long =
      let f = pages_few source o comes in
      rw f.is (pages_long source f.es ∙ rw (pages_many source f.es))

  most : length (page_bytes lines) ≤ 113880
  most =
      let f = pages_few source o comes in
      rw (f.is, pages_long source f.es) (omega (arith, f.few))

  whole_pages : length lines ≡ length lines / page_lines * page_lines
  whole_pages =
      let f = pages_few source o comes in
      rw (f.is, pages_many source f.es) (omega arith)

-- pages that fit: their bytes, and how many there are
record Counted (lines : List Cells) (buffer : List ℕ) (n : ℕ) : Type 0 where
  inside : length (page_bytes lines) ≤ length buffer
  count : length lines / page_lines ≡ n

abbrev is_pages : Result ℕ PageRefusal → Bool
is_pages (Ok n) = true
is_pages (Err (SheetRefused row)) = false
is_pages (Err BufferTooShort) = false

abbrev is_short : Result ℕ PageRefusal → Bool
is_short (Ok n) = false
is_short (Err (SheetRefused row)) = false
is_short (Err BufferTooShort) = true

abbrev count_in : Result ℕ PageRefusal → ℕ
count_in (Ok n) = n
count_in (Err (SheetRefused row)) = 0
count_in (Err BufferTooShort) = 0

fits_count : (lines : List Cells) (buffer : List ℕ) {n : ℕ} → pages_answer (paged lines) buffer ≡ Ok n → Counted lines buffer n
unfolding pages_answer
fits_count lines buffer {n} e = go (pages_fit lines buffer) refl
  where
    go : (b : Bool) → pages_fit lines buffer ≡ b → Counted lines buffer n
    go true p =
        let same : Ok (length lines / page_lines) ≡ Ok n = rw p at e in
        record { inside = leb-true (length (page_bytes lines)) (length buffer) p; count = ap count_in same }
    go false p = let other : (Err BufferTooShort) ≡ Ok n = rw p at e in absurd (false≢true (ap is_pages other))

no_page : (r : Refusal) (buffer : List ℕ) {n : ℕ} → pages_answer (refused r) buffer ≡ Ok n → ⊥
unfolding pages_answer
no_page r buffer e = false≢true (ap is_pages e)

not_short : (lines : List Cells) (buffer : List ℕ) → length (page_bytes lines) ≤ length buffer → pages_answer (paged lines) buffer ≡ Err BufferTooShort → ⊥
unfolding pages_answer
not_short lines buffer inside e =
    let p = le-leb (length (page_bytes lines)) (length buffer) inside in
    let other : Ok (length lines / page_lines) ≡ Err BufferTooShort = rw p at e in
    false≢true (ap is_short other)

never_short : (r : Refusal) (buffer : List ℕ) → pages_answer (refused r) buffer ≡ Err BufferTooShort → ⊥
unfolding pages_answer
never_short r buffer e = false≢true (ap is_short e)

suffices : (source : ℕ → List ℕ) (o : Outcome) (buffer : List ℕ) → 113880 ≤ length buffer → pages_answer (pages_of source o) buffer ≡ Err BufferTooShort → ⊥
suffices source o buffer large e = go (pages_of source o) refl
  where
    go : (p : Paged) → pages_of source o ≡ p → ⊥
    go (refused r) is = never_short r buffer (rw is at e)
    go (paged lines) is = not_short lines buffer (omega (arith, most source o is)) (rw is at e)

pub pages_size : PagesSize
pages_size = record {
  whole = λ source o buffer {lines} {n} is e.
      let counted = fits_count lines buffer e in
      let all = whole_pages source o is in
      long source o is ∙ omega (arith, counted.count);
  most = most;
  suffices = suffices;
}

-- pages that were laid out lie within the buffer, and are few
record Printed (n : ℕ) (before : List ℕ) : Type 0 where
  inside : n * (page_lines * page_line_length) ≤ length before
  few : n * (page_lines * page_line_length) ≤ 113880

pages_printed : (source : ℕ → List ℕ) (o : Outcome) {before after : List ℕ} {n : ℕ} → LaidOut (pages_of source o) before after (Ok n) → Printed n before
pages_printed source o {before} {after} {n} laid = go (pages_of source o) refl
  where
    go : (p : Paged) → pages_of source o ≡ p → Printed n before
    go (refused r) is = absurd (no_page r before (sym (rw is at laid.answer)))
    go (paged lines) is =
        let told : pages_answer (paged lines) before ≡ Ok n = sym (rw is at laid.answer) in
        let all = pages_size.whole source o before is told in
        record { inside = omega (arith, (fits_count lines before told).inside); few = omega (arith, most source o is) }

-- for who prints them
module _ (sheet : List ℕ) {before after : List ℕ} {r : Result ℕ PageRefusal} {n : ℕ} (laid : LaidOut (pages_of_sheet (parse sheet)) before after r) (is : r ≡ Ok n) where
  printed : Printed n before
  printed = pages_printed (source_of_sheet (parse sheet)) (outcome_of_sheet (parse sheet)) (rw is at laid)

  pub pages_word : Fits w64 (n * (page_lines * page_line_length))
  pages_word = omega (arith, printed.few)

  module _ (kept : length after ≡ length before) where
    pub pages_within : n * (page_lines * page_line_length) ≤ length after
    pages_within = omega (arith, printed.inside)

    pub pages_prefix : n * (page_lines * page_line_length) ≡ length (take (n * (page_lines * page_line_length)) after)
    pages_prefix = sym (length-take-le (n * (page_lines * page_line_length)) after pages_within)

-- a too long input
cut_at : (sheet : List ℕ) (n : ℕ) → 51915 ≤ n → n ≤ length sheet → pages_of_sheet (parse (take n sheet)) ≡ pages_of_sheet (parse sheet)
cut_at sheet n many inside =
    ap pages_of_sheet (parsed_alike (take n sheet) (drop n sheet) (omega (arith, length-take-le n sheet inside)) ∙ ap parse (take-append-drop n sheet))

pub cut_short : PagesCutShort
cut_short = record { cut = λ sheet long. cut_at sheet 51915 (omega arith) long }
