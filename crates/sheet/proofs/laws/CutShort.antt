-- A too long input may be cut: line 1 stays as it is, and both lengths are no sheet's.
use Prim.Native.Nat.{ℕ, ◌+◌, ◌≤◌}
use mathlib.Core.Bool.{Bool, true, false, cond}
use mathlib.Core.List.{List, ◌++◌}
use mathlib.Core.Path.{◌≡◌, refl, sym, ap, ap₂, ◌∙◌}
use native.Mathlib.Omega.{arith}
use borrow.Author.Tests.{le-leb}
use lib.ListN.{length, take, drop, length-append, length-drop, take-append-drop, get_or-append}
use lib.Seq.{length-take-le, take-append-le, drop-append-le}
use Rattle.base.specs.Refusal.{over_limit, layout_broken}
use Rattle.base.specs.Lists.{part, all_from}
use Rattle.columns.specs.Columns.{read_column, column_bytes, column_at}
use Rattle.sheet.specs.declared.header.Counts.{Counts}
use Rattle.sheet.specs.Lines.{number_of, column_number, column_place, line_length, is_line}
use Rattle.sheet.specs.Sheet.{line1, counts_of, counts_ok, layout_ok, sheet_of, Parsed, unparsed, parsed, parsed_by, parse}
use Rattle.sheet.specs.Listing.{lines_bytes, lines_of_sheet, listing_of}
use Rattle.sheet.specs.Laws.{CutShort}
use Rattle.sheet.proofs.header.HeaderTests.{limited, length_differs, counts_read}

-- line 1, of bytes that have it and of more bytes
module _ (xs ys : List ℕ) (long : line_length 6 ≤ length xs) where
  column_same : (at : ℕ) → at + 6 ≤ length xs → column_at (xs ++ ys) at ≡ column_at xs at
  unfolding column_bytes
  column_same at inside =
      let rest : 6 ≤ length (drop at xs) = omega (arith, length-drop at xs) in
      let more : at + 6 ≤ length (xs ++ ys) = omega (arith, length-append xs ys) in
      let same : part (xs ++ ys) at 6 ≡ part xs at 6 =
      ap (λ (l : List ℕ). take 6 l) (drop-append-le at xs ys (omega arith)) ∙ take-append-le 6 (drop at xs) ys rest in
      rw (le-leb (at + 6) (length xs) inside, le-leb (at + 6) (length (xs ++ ys)) more) (ap read_column same)

  number_same : (at : ℕ) → at + 6 ≤ length xs → column_number xs at ≡ column_number (xs ++ ys) at
  unfolding column_number
  number_same at inside = sym (ap number_of (column_same at inside))

  counts_same : counts_of xs ≡ counts_of (xs ++ ys)
  counts_same =
      counts_read (xs ++ ys) (number_same (column_place line1 0) (omega arith)) (number_same (column_place line1 1) (omega arith)) (number_same (column_place line1 2) (omega arith)) (number_same (column_place line1 3) (omega arith)) (number_same (column_place line1 4) (omega arith)) (number_same (column_place line1 5) (omega arith))

  line_1_same : is_line xs line1 6 ≡ is_line (xs ++ ys) line1 6
  unfolding is_line all_from
  line_1_same =
      rw (
        column_same (column_place line1 0) (omega arith),
        column_same (column_place line1 1) (omega arith),
        column_same (column_place line1 2) (omega arith),
        column_same (column_place line1 3) (omega arith),
        column_same (column_place line1 4) (omega arith),
        column_same (column_place line1 5) (omega arith),
        get_or-append xs ys 0 (column_place line1 6) (omega arith),
      )

-- a too long input, by its line 1
abbrev too_long : Bool → Counts → Parsed
too_long readable c = cond readable (cond (counts_ok c) (unparsed layout_broken) (unparsed over_limit)) (unparsed layout_broken)

module _ (sheet : List ℕ) (long : 51915 ≤ length sheet) where
  layout_fails : (c : Counts) → counts_ok c ≡ true → layout_ok sheet c ≡ false
  layout_fails c few =
      let most = limited c (sym few) refl in
      sym (length_differs sheet c (λ e. omega (arith, most)))

  refused_by_lem : (c : Counts) → parsed_by sheet c ≡ cond (counts_ok c) (unparsed layout_broken) (unparsed over_limit)
  refused_by_lem c = go (counts_ok c) refl
    where
      go : (b : Bool) → counts_ok c ≡ b → cond b (cond (layout_ok sheet c) (parsed (sheet_of sheet c)) (unparsed layout_broken)) (unparsed over_limit) ≡ cond b (unparsed layout_broken) (unparsed over_limit)
      go true e = rw (layout_fails c e)
      go false e = refl

  parsed_long : parse sheet ≡ too_long (is_line sheet line1 6) (counts_of sheet)
  unfolding parse
  parsed_long = ap (λ (p : Parsed). cond (is_line sheet line1 6) p (unparsed layout_broken)) (refused_by_lem (counts_of sheet))

pub parsed_alike : (xs ys : List ℕ) → 51915 ≤ length xs → parse xs ≡ parse (xs ++ ys)
parsed_alike xs ys long =
    let line_1 : line_length 6 ≤ length xs = omega arith in
    let more : 51915 ≤ length (xs ++ ys) = omega (arith, length-append xs ys) in
    let same : too_long (is_line xs line1 6) (counts_of xs) ≡ too_long (is_line (xs ++ ys) line1 6) (counts_of (xs ++ ys)) =
    ap₂ too_long (line_1_same xs ys line_1) (counts_same xs ys line_1) in
    parsed_long xs long ∙ (same ∙ sym (parsed_long (xs ++ ys) more))

first_bytes : (sheet : List ℕ) (n : ℕ) → 51915 ≤ n → n ≤ length sheet → listing_of (take n sheet) ≡ listing_of sheet
unfolding listing_of
first_bytes sheet n many inside =
    let alike = parsed_alike (take n sheet) (drop n sheet) (omega (arith, length-take-le n sheet inside)) in
    ap (λ (p : Parsed). lines_bytes (lines_of_sheet p)) (alike ∙ ap parse (take-append-drop n sheet))

pub cut_short : CutShort
cut_short = record { cut = λ sheet long. first_bytes sheet 51915 (omega arith) long }
