-- The lines of a plan's entries, and the whole of its pages.
use Prim.Native.Nat.{ℕ, zero, suc, ◌+◌, ◌-◌, ◌*◌, ◌/◌, ◌<◌, ◌≤◌}
use mathlib.Core.Bool.{Bool, true, false, cond}
use mathlib.Core.List.{List, [], ◌∷◌, ◌++◌, append_assoc, append-nil}
use mathlib.Core.Path.{◌≡◌, refl, sym, ap, ◌∙◌}
use native.Mathlib.Omega.{arith}
use borrow.Author.Tests.{eqb-true, le-leb, lt-leb}
use lib.Dec.{eqb}
use lib.ListN.{length, get_or, take, drop, replicate, length-append, length-replicate}
use lib.Seq.{take_all, length-take-le, drop_at}
use Rattle.base.specs.Lists.{part}
use Rattle.columns.specs.Columns.{stored}
use Rattle.columns.proofs.write.Storing.{stored_is}
use Rattle.table.specs.Tables.{Tables, record_word}
use Rattle.planner.specs.Layout.{Entry, entry_words}
use Rattle.planner.specs.Entries.{entry_at, read_entries}
use Rattle.planner.proofs.buffer.ReadBack.{length_read}
use Rattle.sheet.specs.Sheet.{tables_of, counts_of}
use Rattle.sheet.specs.declared.source.Span.{Span}
use Rattle.sheet.specs.Source.{source_text, source_in, span_in, SourceSpan}
use Rattle.sheet.proofs.laws.SourceText.{source_laws}
use Rattle.page.specs.Page.{page_line_length, page_lines, key_source, line_cells, entry_cells, blank_cells, Cells, cells_bytes, entry_lines, page_count, pages_lines, page_bytes}
use Rattle.page.specs.Answer.{paged, pages_answer, pages_after, LaidOut}
use Rattle.std.specs.Prelude.{Ok, Err}
use Rattle.page.specs.declared.PageRefusal.TheVariants.{BufferTooShort}
use Rattle.page.specs.code.Lines.{lines_from, entry_line, EntryAsks, EntriesAsks}
use Rattle.page.proofs.PageLines.{after, line_long, Lining, lining_start, lining_on, lining_ends, blanks_long}

-- an entry without a key has the text of node 0, which is empty
no_text : (T : Tables) → source_text T 0 ≡ []
unfolding source_text record_word
no_text T = refl

key_is : (sheet : List ℕ) (key : ℕ) → key_source (source_in sheet) key ≡ source_in sheet key
key_is sheet key = go (eqb key 0) refl
  where
    go : (b : Bool) → eqb key 0 ≡ b → cond b [] (source_in sheet key) ≡ source_in sheet key
    go true e = rw (eqb-true key 0 e) (sym (no_text (tables_of sheet (counts_of sheet))))
    go false e = refl

-- a node's text, found
module _ (sheet : List ℕ) (n : ℕ) {r : Span} (e : r ≡ span_in sheet n) where
  spanned : SourceSpan sheet n r
  spanned = rw e (source_laws.spans sheet n)

  pub source_ordered : r.start ≤ r.end
  source_ordered = spanned.ordered

  pub source_inside : r.end ≤ length sheet
  source_inside = spanned.inside

module _ (out sheet plan : List ℕ) (i : ℕ) where
  pub entry_written : {source key : Span} {one : List ℕ} → source ≡ span_in sheet (get_or plan (i * entry_words + 1) 0) → key ≡ span_in sheet (get_or plan (i * entry_words + 3) 0)
      → one ≡ stored out (i * page_line_length) (cells_bytes (line_cells (i + 1) (get_or plan (i * entry_words) 0) (part sheet source.start (source.end - source.start)) (part sheet key.start (key.end - key.start))))
      → one ≡ stored out (i * page_line_length) (entry_line (source_in sheet) plan i)
  entry_written s k e = rw (key_is sheet (get_or plan (i * entry_words + 3) 0)) (rw ((spanned sheet _ s).text, (spanned sheet _ k).text) at e)

-- the entries, one after the other
module _ (source : ℕ → List ℕ) (plan : List ℕ) where
  line_wide : (i : ℕ) → length (entry_line source plan i) ≡ page_line_length
  line_wide i = let e = entry_at plan i in line_long (i + 1) e.kind (source e.node) (key_source source e.key)

  lines_are : (i k : ℕ) → lines_from (entry_line source plan) i k ≡ page_bytes (entry_lines source (i + 1) (read_entries plan i k))
  unfolding lines_from page_bytes entry_lines read_entries
  lines_are i zero = refl
  lines_are i (suc k) = ap (λ (l : List ℕ). entry_line source plan i ++ l) (lines_are (i + 1) k)

pub record Entering (sheet plan out₀ : List ℕ) (count i : ℕ) (out : List ℕ) : Type 0 where
  pub held : count * entry_words ≤ length plan
  pub inside : i ≤ count
  pub space : count * page_line_length ≤ length out₀
  pub kept : length out ≡ length out₀
  pub lining : Lining (entry_line (source_in sheet) plan) out₀ 0 count i out

pub entering_start : (sheet : List ℕ) {out plan : List ℕ} {count : ℕ} → EntriesAsks out plan count → Entering sheet plan out count 0 out
entering_start sheet {out} {plan} {count} asked = record {
  held = asked.held;
  inside = omega arith;
  space = asked.space;
  kept = refl;
  lining = lining_start (entry_line (source_in sheet) plan) out 0 count (omega (arith, asked.space));
}

module _ {sheet plan out₀ : List ℕ} {count i : ℕ} {out : List ℕ} (w : Entering sheet plan out₀ count i out) where
  module _ (lt : i < count) where
    pub entry_asked : EntryAsks out plan i
    entry_asked = record { space = omega (arith, w.space, w.kept); held = omega (arith, w.held) }

    pub entering_on : {later : List ℕ} → later ≡ stored out (i * page_line_length) (entry_line (source_in sheet) plan i) → Entering sheet plan out₀ count (i + 1) later
    entering_on {later} e =
        let z : i * page_line_length ≡ 0 + i * page_line_length = omega arith in
        let on = lining_on (entry_line (source_in sheet) plan) (line_wide (source_in sheet) plan) w.lining lt (rw z at e) in
        record { held = w.held; inside = omega arith; space = w.space; kept = on.kept; lining = on }

  pub entering_ends : count ≤ i → out ≡ stored out₀ 0 (page_bytes (entry_lines (source_in sheet) 1 (read_entries plan 0 count)))
  entering_ends le = lining_ends w.lining le ∙ ap (stored out₀ 0) (lines_are (source_in sheet) plan 0 count)

-- the pages: the entries, the blank lines, zeros
lines_append : (xs ys : List Cells) → page_bytes (xs ++ ys) ≡ page_bytes xs ++ page_bytes ys
unfolding page_bytes
lines_append [] ys = refl
lines_append (x ∷ xs) ys = ap (λ (l : List ℕ). cells_bytes x ++ l) (lines_append xs ys) ∙ sym (append_assoc (cells_bytes x) (page_bytes xs) (page_bytes ys))

entry_lines_long : (source : ℕ → List ℕ) (number : ℕ) (es : List Entry) → length (entry_lines source number es) ≡ length es
unfolding entry_lines
entry_lines_long source number [] = refl
entry_lines_long source number (e ∷ es) = ap suc (entry_lines_long source (number + 1) es)

entries_long : (source : ℕ → List ℕ) (number : ℕ) (es : List Entry) → length (page_bytes (entry_lines source number es)) ≡ length es * page_line_length
unfolding entry_lines page_bytes
entries_long source number [] = refl
entries_long source number (e ∷ es) =
    length-append (cells_bytes (entry_cells source number e)) (page_bytes (entry_lines source (number + 1) es))
    ∙ omega (arith, line_long number e.kind (source e.node) (key_source source e.key), entries_long source (number + 1) es)

module _ (source : ℕ → List ℕ) (es : List Entry) where
  abbrev left : ℕ
  left = page_count (length es) * page_lines - length es

  pub pages_many : length (pages_lines source es) ≡ page_count (length es) * page_lines
  pages_many =
      length-append (entry_lines source 1 es) (replicate left blank_cells)
      ∙ omega (arith, entry_lines_long source 1 es, length-replicate left blank_cells)

  pages_split : page_bytes (pages_lines source es) ≡ page_bytes (entry_lines source 1 es) ++ page_bytes (replicate left blank_cells)
  pages_split = lines_append (entry_lines source 1 es) (replicate left blank_cells)

  pub pages_long : length (page_bytes (pages_lines source es)) ≡ page_count (length es) * page_lines * page_line_length
  pages_long =
      ap length pages_split
      ∙ (length-append (page_bytes (entry_lines source 1 es)) (page_bytes (replicate left blank_cells))
      ∙ omega (arith, entries_long source 1 es, blanks_long left))

module _ (source : ℕ → List ℕ) (plan : List ℕ) (count : ℕ) where
  abbrev es : List Entry
  es = read_entries plan 0 count

  abbrev lines : List Cells
  lines = pages_lines source es

  abbrev size : ℕ
  size = page_count count * page_lines

  read : length es ≡ count
  read = length_read plan 0 count

  split : page_bytes lines ≡ page_bytes (entry_lines source 1 es) ++ page_bytes (replicate (size - count) blank_cells)
  split = rw read (lines_append (entry_lines source 1 es) (replicate (size - count) blank_cells))

  bytes_long : length (page_bytes lines) ≡ size * page_line_length
  bytes_long = pages_long source es ∙ rw read

  module _ (out : List ℕ) {clear : List ℕ} (cleared : clear ≡ take (size * page_line_length) out ++ replicate (length out - size * page_line_length) 0) where
    pub pages_past : length clear / page_line_length < size → length clear ≡ length out → LaidOut (paged lines) out clear (Err BufferTooShort)
    unfolding pages_answer pages_after
    pages_past small kept =
        let over = lt-leb (length (page_bytes lines)) (length out) (omega (arith, bytes_long)) in
        let none : length out - size * page_line_length ≡ 0 = omega arith in
        let all : take (size * page_line_length) out ≡ out = take_all (size * page_line_length) out (omega arith) in
        let same : clear ≡ out = cleared ∙ rw (none, all) (append-nil out) in
        record { answer = rw over; buffer = rw over same }

    pub pages_laid : {one two : List ℕ} → size ≤ length clear / page_line_length → length clear ≡ length out → one ≡ stored clear 0 (page_bytes (entry_lines source 1 es))
        → two ≡ stored one (count * page_line_length) (page_bytes (replicate (size - count) blank_cells)) → LaidOut (paged lines) out two (Ok (page_count count))
    unfolding pages_answer pages_after
    pages_laid {one} {two} room kept first second =
        let long = bytes_long in
        let fit = le-leb (length (page_bytes lines)) (length out) (omega arith) in
        let entries = page_bytes (entry_lines source 1 es) in
        let blank = page_bytes (replicate (size - count) blank_cells) in
        let place : count * page_line_length ≡ 0 + count * page_line_length = omega arith in
        let both : two ≡ stored clear 0 (page_bytes lines) =
        second ∙ rw (first, place) (after clear 0 entries blank (count * page_line_length) (entries_long source 1 es ∙ rw read) (omega (arith, blanks_long (size - count))) ∙ ap (stored clear 0) (sym split)) in
        let end : 0 + length (page_bytes lines) ≡ size * page_line_length = omega arith in
        let front : length (take (size * page_line_length) out) ≡ size * page_line_length = length-take-le (size * page_line_length) out (omega arith) in
        let rest : drop (size * page_line_length) clear ≡ replicate (length out - size * page_line_length) 0 =
        ap (drop (size * page_line_length)) cleared ∙ drop_at (take (size * page_line_length) out) (replicate (length out - size * page_line_length) 0) (size * page_line_length) front in
        let many : length lines / page_lines ≡ page_count count = rw (pages_many source es, read) (omega arith) in
        record {
          answer = rw (fit, many);
          buffer = rw fit (both ∙ (stored_is clear 0 (page_bytes lines) (omega arith) ∙ rw (end, rest, long)));
        }
