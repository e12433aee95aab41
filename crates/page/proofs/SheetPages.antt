-- The pages of a sheet, from its planning call's answer and plan.
use Prim.Native.Nat.{ℕ, ◌+◌, ◌-◌, ◌*◌, ◌≤◌}
use mathlib.Core.Bool.{Bool, true, false, cond, false≢true}
use mathlib.Core.List.{List, [], ◌∷◌, ◌++◌}
use mathlib.Core.Path.{◌≡◌, refl, sym, ap, ◌∙◌, subst}
use native.Mathlib.Omega.{arith}
use borrow.Author.Tests.{eq-eqb, le-leb, leb-true}
use lib.Dec.{leb}
use lib.ListN.{length, drop, replicate, get_or-append}
use Rattle.base.specs.Refusal.{Refusal, plan_too_large, Line, line, refusal_line}
use Rattle.planner.specs.Layout.{Entry, entry_words, words}
use Rattle.planner.specs.Entries.{read_entries}
use Rattle.planner.specs.Operations as Plan
use Rattle.planner.specs.Operations.{Outcome, answered, written}
use Rattle.planner.proofs.buffer.ReadBack.{read_words}
use Rattle.planner.proofs.buffer.Written.{length_words}
use Rattle.operation.specs.declared.row.Row.{Row}
use Rattle.operation.specs.Rows.{row_line}
use Rattle.sheet.specs.Sheet.{Parsed, unparsed, parsed, parse}
use Rattle.sheet.specs.Outcome.{outcome_of_sheet, PlannedInto}
use Rattle.sheet.specs.Source.{source_in}
use Rattle.sheet.proofs.laws.SourceText.{source_laws}
use Rattle.page.specs.declared.PageRefusal.{PageRefusal}
use Rattle.std.specs.Prelude.{Result, Err}
use Rattle.page.specs.declared.PageRefusal.TheVariants.{SheetRefused}
use Rattle.page.specs.Page.{Cells, entry_cells, entry_lines, page_count, page_lines, blank_cells, pages_lines}
use Rattle.page.specs.Answer.{Paged, refused, paged, pages_of, source_of_sheet, pages_of_sheet, refusal_row, pages_answer, pages_after, LaidOut}
use Rattle.page.specs.code.Lines.{PlanAsks}

-- a plan in the full space
abbrev plan_words : ℕ
plan_words = entry_words * 1536

abbrev line_row : Line → Row
line_row l = record { number = l.number; second = l.second; third = l.third; fourth = l.fourth }

row_is : (row : Row) (r : Refusal) → row_line row ≡ refusal_line r → row ≡ refusal_row r
row_is row r e = ap line_row e

refusal_laid : (r : Refusal) {row : Row} (out : List ℕ) → row_line row ≡ refusal_line r → LaidOut (refused r) out out (Err (SheetRefused row))
unfolding pages_answer pages_after
refusal_laid r {row} out e = record { answer = ap (λ (x : Row). Err (SheetRefused x)) (row_is row r e); buffer = refl }

-- a refusal of the planning call is that of the pages
turned : (source : ℕ → List ℕ) (o : Outcome) (before : List ℕ) {row : Row} (out : List ℕ) → row_line row ≡ answered o before → length before ≡ plan_words → (row.number ≡ 0 → ⊥) → LaidOut (pages_of source o) out out (Err (SheetRefused row))
unfolding answered
turned source (Plan.refused a) before out e roomy some = refusal_laid a out e
turned source (Plan.planned form side es) before {row} out e roomy some = go (leb (length es) 1536) refl
  where
    go : (b : Bool) → leb (length es) 1536 ≡ b → LaidOut (cond b (paged (pages_lines source es)) (refused (plan_too_large (length es)))) out out (Err (SheetRefused row))
    go true p =
        let told : row_line row ≡ line 0 form side (length es) = rw (roomy, p) at e in
        absurd (some (ap (λ (l : Line). l.number) told))
    go false p = refusal_laid (plan_too_large (length es)) out (rw (roomy, p) at e)

-- what an accepted plan leaves in the buffer
record Held (o : Outcome) (after : List ℕ) (row : Row) : Type 0 where
  form : ℕ
  side : ℕ
  es : List Entry
  is : o ≡ Plan.planned form side es
  few : length es ≤ 1536
  count : row.fourth ≡ length es
  read : read_entries after 0 (length es) ≡ es

plan_read_lem : (es : List Entry) (rest : List ℕ) → read_entries (words es ++ rest) 0 (length es) ≡ es
plan_read_lem es rest =
    read_words es (words es ++ rest) 0 (λ j lt.
    let z : 0 * entry_words + j ≡ j = omega arith in
    rw z (get_or-append (words es) rest 0 j (omega (arith, length_words es))))

held_in : (o : Outcome) {before after : List ℕ} {row : Row} → PlannedInto o before after row → length before ≡ plan_words → row.number ≡ 0 → Held o after row
unfolding answered written
held_in (Plan.refused a) {before} {after} {row} done roomy none =
    let zero : a.number ≡ 0 = sym (ap (λ (l : Line). l.number) done.answer) ∙ none in
    absurd (false≢true (sym a.refuses ∙ eq-eqb a.number 0 zero))
held_in (Plan.planned form side es) {before} {after} {row} done roomy none = go (leb (length es) 1536) refl
  where
    go : (b : Bool) → leb (length es) 1536 ≡ b → Held (Plan.planned form side es) after row
    go true p =
        let told : row_line row ≡ line 0 form side (length es) = rw (roomy, p) at done.answer in
        let stored : after ≡ words es ++ drop (entry_words * length es) (replicate plan_words 0) = rw (roomy, p) at done.buffer in
        record {
          form = form;
          side = side;
          es = es;
          is = refl;
          few = leb-true (length es) 1536 p;
          count = ap (λ (l : Line). l.fourth) told;
          read = rw stored (plan_read_lem es (drop (entry_words * length es) (replicate plan_words 0)));
        }
    go false p =
        let told : row_line row ≡ refusal_line (plan_too_large (length es)) = rw (roomy, p) at done.answer in
        let six : row.number ≡ 6 = ap (λ (l : Line). l.number) told in
        absurd (omega arith)

-- the source texts, as they stand in the sheet
cells_same : (f g : ℕ → List ℕ) → ((n : ℕ) → f n ≡ g n) → (number : ℕ) (e : Entry) → entry_cells f number e ≡ entry_cells g number e
cells_same f g same number e = rw (same e.node, same e.key)

lines_same : (f g : ℕ → List ℕ) → ((n : ℕ) → f n ≡ g n) → (number : ℕ) (es : List Entry) → entry_lines f number es ≡ entry_lines g number es
unfolding entry_lines
lines_same f g same number [] = refl
lines_same f g same number (e ∷ es) =
    ap (λ (c : Cells). c ∷ entry_lines f (number + 1) es) (cells_same f g same number e)
    ∙ ap (λ (cs : List Cells). entry_cells g number e ∷ cs) (lines_same f g same (number + 1) es)

module _ (sheet : List ℕ) {before after : List ℕ} {row : Row} (done : PlannedInto (outcome_of_sheet (parse sheet)) before after row) (roomy : length before ≡ plan_words) where
  pub sheet_turned : (out : List ℕ) → (row.number ≡ 0 → ⊥) → LaidOut (pages_of_sheet (parse sheet)) out out (Err (SheetRefused row))
  sheet_turned out some = turned (source_of_sheet (parse sheet)) (outcome_of_sheet (parse sheet)) before out done.answer roomy some

  module _ (none : row.number ≡ 0) where
    held : Held (outcome_of_sheet (parse sheet)) after row
    held = held_in (outcome_of_sheet (parse sheet)) done roomy none

    pub plan_asked : length after ≡ plan_words → PlanAsks after row.fourth
    plan_asked long =
        let h = held in
        record { few = omega (arith, h.few, h.count); held = omega (arith, h.few, h.count) }

    -- the sheet was parsed
    source_is : (p : Parsed) → parse sheet ≡ p → Held (outcome_of_sheet p) after row → (n : ℕ) → source_in sheet n ≡ source_of_sheet p n
    source_is (unparsed r) e h n = let no = h.is in cc
    source_is (parsed S) e h n = source_laws.read sheet e n

    pub sheet_laid : (out : List ℕ) {later : List ℕ} {r : Result ℕ PageRefusal} → LaidOut (paged (pages_lines (source_in sheet) (read_entries after 0 row.fourth))) out later r → LaidOut (pages_of_sheet (parse sheet)) out later r
    sheet_laid out {later} {r} laid =
        let h = held in
        let p = parse sheet in
        let fits = le-leb (length h.es) 1536 h.few in
        let same : pages_lines (source_in sheet) h.es ≡ pages_lines (source_of_sheet p) h.es =
        ap (λ (cs : List Cells). cs ++ replicate (page_count (length h.es) * page_lines - length h.es) blank_cells)
        (lines_same (source_in sheet) (source_of_sheet p) (source_is p refl h) 1 h.es) in
        let comes : pages_of (source_of_sheet p) (Plan.planned h.form h.side h.es) ≡ paged (pages_lines (source_of_sheet p) h.es) = rw fits in
        let whole : pages_of_sheet p ≡ paged (pages_lines (source_of_sheet p) h.es) = ap (pages_of (source_of_sheet p)) h.is ∙ comes in
        subst (λ (q : Paged). LaidOut q out later r) (ap paged same ∙ sym whole) (rw (h.count, h.read) at laid)
