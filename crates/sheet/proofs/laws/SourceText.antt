-- The text of a node of a sheet, by its tables.
use Prim.Native.Nat.{ℕ, max}
use mathlib.Core.Bool.{Bool, true, false, cond}
use mathlib.Core.List.{List}
use mathlib.Core.Path.{◌≡◌, refl}
use native.Mathlib.Nat.{max-eq_left, max-eq_right}
use native.Mathlib.Omega.{arith}
use borrow.Author.Tests.{ltb-true, ltb-false}
use lib.Dec.{ltb}
use Rattle.base.specs.Refusal.{over_limit, layout_broken}
use Rattle.table.proofs.tests.Bools.{never}
use Rattle.table.specs.Tables.{start_of, end_of}
use Rattle.sheet.specs.declared.header.Counts.{Counts}
use Rattle.sheet.specs.Lines.{is_line}
use Rattle.sheet.specs.Sheet.{Sheet, line1, counts_of, counts_ok, text_place, nodes_of, layout_ok, sheet_of, unparsed, parsed, parse}
use Rattle.sheet.specs.Source.{source_text, text_byte, span, span_of, span_in, SourceSpan, SourceLaws}
use Rattle.sheet.proofs.source.SourceTests.{start_inside, high_inside, part_back, part_on}

pub parsed_is : (sheet : List ℕ) {S : Sheet} → parse sheet ≡ parsed S → S ≡ sheet_of sheet (counts_of sheet)
unfolding parse
parsed_is sheet {S} e = go (is_line sheet line1 6) (counts_ok (counts_of sheet)) (layout_ok sheet (counts_of sheet)) e
  where
    go : (a b c : Bool) → cond a (cond b (cond c (parsed (sheet_of sheet (counts_of sheet))) (unparsed layout_broken)) (unparsed over_limit)) (unparsed layout_broken) ≡ parsed S → S ≡ sheet_of sheet (counts_of sheet)
    go true true true q = cc
    go true true false q = let z : ◌≡◌ {A = ℕ} 0 1 = cc in never z
    go true false c q = let z : ◌≡◌ {A = ℕ} 0 1 = cc in never z
    go false b c q = let z : ◌≡◌ {A = ℕ} 0 1 = cc in never z

-- the node's text, where it is said to stand
module _ (sheet : List ℕ) (n : ℕ) where
  abbrev c : Counts
  c = counts_of sheet

  abbrev first : ℕ
  first = start_of (nodes_of sheet c) n

  abbrev last : ℕ
  last = end_of (nodes_of sheet c) n

  abbrev start : ℕ
  start = text_byte sheet c first

  abbrev high : ℕ
  high = text_byte sheet c last

  source_spans : SourceSpan sheet n (span_in sheet n)
  unfolding span_of source_text
  source_spans = go (ltb high start) refl
    where
      go : (b : Bool) → ltb high start ≡ b → SourceSpan sheet n (span start (max start high))
      go true e =
          let lt = ltb-true high start e in
          let back : max start high ≡ start = max-eq_left (omega (arith, lt)) in
          rw back (record {
            ordered = omega arith;
            inside = start_inside sheet (text_place c) c.text first last refl refl refl;
            text = part_back sheet (text_place c) c.text first last refl refl refl lt;
          })
      go false e =
          let le = ltb-false high start e in
          let on : max start high ≡ high = max-eq_right le in
          rw on (record {
            ordered = le;
            inside = high_inside sheet (text_place c) c.text first last refl refl refl;
            text = part_on sheet (text_place c) c.text first last refl refl refl le;
          })

pub source_laws : SourceLaws
source_laws = record { spans = source_spans; read = λ sheet {S} e n. rw (parsed_is sheet e) }
