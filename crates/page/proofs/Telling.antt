-- The answer's four numbers, and that each fits in a word.
use Prim.Native.Nat.{ℕ, ◌/◌}
use mathlib.Core.Bool.{Bool, true, false, cond}
use mathlib.Core.List.{List}
use mathlib.Core.Path.{◌≡◌, sym, ap, ◌∙◌, subst}
use native.Mathlib.Omega.{arith}
use lib.Dec.{leb}
use lib.ListN.{length}
use Rattle.base.specs.Refusal.{Refusal, plan_too_large, layout_broken, over_limit, Line, line, refusal_line}
use Rattle.planner.specs.Operations as Plan
use Rattle.planner.specs.Operations.{Outcome}
use Rattle.planner.specs.Short.{ShortLine, ShortOutcome}
use Rattle.planner.proofs.laws.ShortOutcomes.{short, refusal_short}
use Rattle.operation.specs.declared.row.Row.{Row}
use Rattle.operation.specs.Rows.{row_line, Told}
use Rattle.operation.proofs.ShortOperation.{operation_short}
use Rattle.sheet.specs.Lines.{is_line}
use Rattle.sheet.specs.Sheet.{line1, unparsed, parsed, parse, counts_of, counts_ok, layout_ok, sheet_of}
use Rattle.sheet.specs.Outcome.{outcome_of_sheet}
use Rattle.page.specs.declared.PageRefusal.{PageRefusal}
use Rattle.std.specs.Prelude.{Result, Ok, Err}
use Rattle.page.specs.declared.PageRefusal.TheVariants.{BufferTooShort}
use Rattle.page.specs.Page.{page_lines, Cells, pages_lines}
use Rattle.page.specs.Answer.{refused, paged, pages_of, pages_of_sheet, source_of_sheet, pages_fit, pages_answer, LaidOut, page_line, PagesTold}
use Rattle.page.proofs.EntryLines.{pages_many}

pub answer_is : (answer : Result ℕ PageRefusal) {a : Result ℕ PageRefusal} {l : Line} → answer ≡ a → l ≡ page_line a → l ≡ page_line answer
answer_is answer e is = rw e is

outcome_short : (sheet : List ℕ) → ShortOutcome (outcome_of_sheet (parse sheet))
unfolding parse
outcome_short sheet = go (is_line sheet line1 6) (counts_ok (counts_of sheet)) (layout_ok sheet (counts_of sheet))
  where
    go : (a b c : Bool) → ShortOutcome (outcome_of_sheet (cond a (cond b (cond c (parsed (sheet_of sheet (counts_of sheet))) (unparsed layout_broken)) (unparsed over_limit)) (unparsed layout_broken)))
    go false b c = refusal_short (omega arith) (omega arith)
    go true false c = refusal_short (omega arith) (omega arith)
    go true true false = refusal_short (omega arith) (omega arith)
    go true true true = operation_short _ _ _

refused_short : (r : Refusal) (buffer : List ℕ) → ShortLine (refusal_line r) → ShortLine (page_line (pages_answer (refused r) buffer))
unfolding pages_answer
refused_short r buffer s = s

paged_short : (lines : List Cells) (buffer : List ℕ) → ShortLine (line 0 (length lines / page_lines) 0 0) → ShortLine (page_line (pages_answer (paged lines) buffer))
unfolding pages_answer
paged_short lines buffer s = go (pages_fit lines buffer)
  where
    go : (b : Bool) → ShortLine (page_line (cond b (Ok (length lines / page_lines)) (Err BufferTooShort)))
    go true = s
    go false = short (omega arith) (omega arith) (omega arith) (omega arith)

answer_short : (source : ℕ → List ℕ) (o : Outcome) (buffer : List ℕ) → ShortOutcome o → ShortLine (page_line (pages_answer (pages_of source o) buffer))
answer_short source (Plan.refused r) buffer s = refused_short r buffer s
answer_short source (Plan.planned form side es) buffer s = go (leb (length es) 1536)
  where
    go : (b : Bool) → ShortLine (page_line (pages_answer (cond b (paged (pages_lines source es)) (refused (plan_too_large (length es)))) buffer))
    go true = paged_short (pages_lines source es) buffer (short (omega arith) (omega (arith, pages_many source es, s.0.four)) (omega arith) (omega arith))
    go false = refused_short (plan_too_large (length es)) buffer (short (omega arith) (omega arith) s.0.four (omega arith))

module _ (sheet : List ℕ) {before after : List ℕ} {laid : Result ℕ PageRefusal} {row : Row} (done : LaidOut (pages_of_sheet (parse sheet)) before after laid) (is : row_line row ≡ page_line laid) where
  told_is : row_line row ≡ page_line (pages_answer (pages_of_sheet (parse sheet)) before)
  told_is = is ∙ ap page_line done.answer

  pub pages_fit_lem : ShortLine (row_line row)
  pages_fit_lem = subst ShortLine (sym told_is) (answer_short (source_of_sheet (parse sheet)) (outcome_of_sheet (parse sheet)) before (outcome_short sheet))

  pub pages_told : {words wordsExit : List ℕ} {r : ℕ} → Told (row_line row) words wordsExit r → PagesTold (pages_of_sheet (parse sheet)) before words after wordsExit r
  pages_told {words} {wordsExit} {r} told =
      record { answer = subst (λ (l : Line). Told l words wordsExit r) told_is told; pages = done.buffer }
