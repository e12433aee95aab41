-- The header: what the code reads is what the two lines say, and what a header says of its sheet.
use Prim.Native.Nat.{ℕ, ◌+◌, ◌*◌, ◌<◌}
use mathlib.Core.Bool.{Bool, true, false, cond, not, ◌&&◌, and-false}
use mathlib.Core.List.{List}
use mathlib.Core.Path.{◌≡◌, refl, sym, ap, ◌∙◌}
use native.Mathlib.Omega.{arith}
use borrow.Author.Tests.{eq-eqb, ne_eqb, eqb-true, not-false}
use lib.Dec.{eqb}
use lib.ListN.{length, get_or}
use Rattle.base.specs.Lists.{all_from}
use Rattle.base.specs.Refusal.{Refusal, over_limit, layout_broken, line, refusal_line}
use Rattle.planner.specs.Operations.{Outcome, refused, answered, written}
use Rattle.operation.specs.declared.row.Row.{Row}
use Rattle.table.proofs.tests.Bools.{and_true, told_no, told_yes, never}
use Rattle.sheet.specs.declared.header.Counts.{Counts}
use Rattle.sheet.specs.declared.header.Places.{Places}
use Rattle.operation.specs.declared.numbers.OperationNumbers.{OperationNumbers}
use Rattle.operation.specs.Numbers.{are_listed}
use Rattle.sheet.specs.declared.header.Header.{Header}
use Rattle.std.specs.Prelude.{Result, Ok, Err}
use Rattle.sheet.specs.declared.header.SheetRefusal.{SheetRefusal}
use Rattle.sheet.specs.declared.header.SheetRefusal.TheVariants.{OverLimit, LayoutBroken}
use Rattle.sheet.specs.Lines.{line_length, is_line, lines_ok, column_word_at}
use Rattle.sheet.specs.Sheet.{line1, line2, counts_of, counts_ok, end_place, operation_numbers, layout_ok, sheet_of, unparsed, parsed, parse}
use Rattle.sheet.specs.Outcome.{outcome_of_sheet, PlannedInto}
use Rattle.sheet.specs.Listing.{lines_of, listing_of, Printed}
use Rattle.sheet.specs.code.Header.{counts_in, operation_in, places_of, refusal_number, header_of, head_ok, heading_by, heading_of, tables_ok, Headed}
use Rattle.sheet.specs.code.Post.{Read, refusal_bytes, RefusedBy}
use Rattle.sheet.proofs.header.HeaderTests.{limited, counts_read, operation_read}

-- one line of six columns
module _ (sheet : List ℕ) (at : ℕ) {line : List ℕ} {r : Bool} (read : Read (column_word_at sheet at (line_length 6) 6) (1 * 6) (lines_ok sheet at 6 1) line r) where
  one_line : r ≡ is_line sheet at 6
  unfolding all_from
  one_line = read.ok ∙ (let z : at + 0 * line_length 6 ≡ at = omega arith in rw z (go (is_line sheet at 6)))
    where
      go : (b : Bool) → (b && true) ≡ b
      go true = refl
      go false = refl

  line_word : not r ≡ false → (k : ℕ) → k < 6 → get_or line k 0 ≡ column_word_at sheet at (line_length 6) 6 k
  line_word good k lt = (read.filled (not-false r good)).each k (omega arith)

-- line 1
module _ (sheet : List ℕ) {line : List ℕ} {b : Bool} (read : Read (column_word_at sheet line1 (line_length 6) 6) (1 * 6) (lines_ok sheet line1 6 1) line b) where
  pub line_1_unread : not b ≡ true → Err LayoutBroken ≡ heading_of sheet
  unfolding heading_of
  line_1_unread t = rw (told_no (one_line sheet line1 read) t)

  module _ (good : not b ≡ false) {c : Counts} (is : c ≡ counts_in line) where
    counted : c ≡ counts_of sheet
    unfolding column_word_at
    counted =
        let word = line_word sheet line1 read good in
        is ∙ counts_read sheet (word 0 (omega arith)) (word 1 (omega arith)) (word 2 (omega arith)) (word 3 (omega arith)) (word 4 (omega arith)) (word 5 (omega arith))

    pub by_counts : heading_by sheet c ≡ heading_of sheet
    unfolding heading_of
    by_counts = rw (told_yes (one_line sheet line1 read) good) (ap (heading_by sheet) counted)

pub over_limit_lem : (sheet : List ℕ) (c : Counts) → heading_by sheet c ≡ heading_of sheet → {l : Bool} → l ≡ counts_ok c → not l ≡ true → Err OverLimit ≡ heading_of sheet
unfolding heading_by
over_limit_lem sheet c by limits t = rw (told_no limits t) at by

-- the length and line 2
module _ (sheet : List ℕ) (c : Counts) (by : heading_by sheet c ≡ heading_of sheet) {l : Bool} (limits : l ≡ counts_ok c) (few : not l ≡ false) {p : Places} (is : p ≡ places_of c) where
  broken : head_ok sheet c ≡ false → Err LayoutBroken ≡ heading_of sheet
  unfolding heading_by
  broken e = rw (told_yes limits few, e) at by

  pub length_wrong : (length sheet ≡ p.end → ⊥) → Err LayoutBroken ≡ heading_of sheet
  unfolding head_ok
  length_wrong h = broken (simp (ne_eqb (length sheet) (end_place c) (rw is at h)))

  module _ {line : List ℕ} {b : Bool} (read : Read (column_word_at sheet line2 (line_length 6) 6) (1 * 6) (lines_ok sheet line2 6 1) line b) where
    pub line_2_unread : not b ≡ true → Err LayoutBroken ≡ heading_of sheet
    unfolding head_ok
    line_2_unread t = broken (simp (told_no (one_line sheet line2 read) t, and-false))

    module _ (good : not b ≡ false) {o : OperationNumbers} (says : o ≡ operation_in line) {k : Bool} (fine : k ≡ are_listed o) where
      operation_said : o ≡ operation_numbers sheet
      unfolding column_word_at
      operation_said =
          let word = line_word sheet line2 read good in
          says ∙ operation_read sheet (word 0 (omega arith)) (word 1 (omega arith)) (word 2 (omega arith)) (word 3 (omega arith)) (word 4 (omega arith)) (word 5 (omega arith))

      pub operation_wrong : not k ≡ true → Err LayoutBroken ≡ heading_of sheet
      unfolding head_ok
      operation_wrong t = broken (simp (told_no (rw operation_said at fine) t, and-false))

      pub header_read : not k ≡ false → length sheet ≡ p.end → Ok (record { counts = c; places = p; operation = o }) ≡ heading_of sheet
      unfolding head_ok heading_by
      header_read t size =
          let long : length sheet ≡ end_place c = rw is at size in
          let ok : head_ok sheet c ≡ true = simp (eq-eqb (length sheet) (end_place c) long, told_yes (one_line sheet line2 read) good, told_yes (rw operation_said at fine) t) in
          rw (is, operation_said) (rw (told_yes limits few, ok) at by)

-- what a heading says of its sheet
module _ (sheet : List ℕ) (c : Counts) where
  layout_split : layout_ok sheet c ≡ (head_ok sheet c && tables_ok sheet c)
  unfolding layout_ok head_ok
  layout_split = go (eqb (length sheet) (end_place c)) (is_line sheet line2 6) (are_listed (operation_numbers sheet)) (tables_ok sheet c)
    where
      go : (a b d t : Bool) → (a && (b && (d && t))) ≡ ((a && (b && d)) && t)
      go true true d t = refl
      go true false d t = refl
      go false b d t = refl

headed_by : (sheet : List ℕ) → is_line sheet line1 6 ≡ true → counts_ok (counts_of sheet) ≡ true → head_ok sheet (counts_of sheet) ≡ true → Headed sheet (header_of sheet (counts_of sheet))
unfolding head_ok parse
headed_by sheet line_1 few ok =
    let c = counts_of sheet in
    let size = and_true (eqb (length sheet) (end_place c)) (is_line sheet line2 6 && are_listed (operation_numbers sheet)) ok in
    record {
      limited = limited c (sym few) refl;
      places_are = refl;
      operation_is = refl;
      size = eqb-true (length sheet) (end_place c) size.0;
      parses = rw (line_1, few, layout_split sheet c, ok);
    }

-- a refusal by its number alone
pub record RefusedAs (n : ℕ) (o : Outcome) : Type 0 where
  pub why : Refusal
  pub is : o ≡ refused why
  pub bare : refusal_line why ≡ line n 0 0 0

pub refused_into : {n : ℕ} {o : Outcome} → RefusedAs n o → {before after : List ℕ} {row : Row} → RefusedBy n before after row → PlannedInto o before after row
unfolding answered written
refused_into a p = rw a.is (record { answer = p.answer ∙ sym a.bare; buffer = p.buffer })

module _ (sheet : List ℕ) {r : Result Header SheetRefusal} (is : r ≡ heading_of sheet) where
  says_refused : {n : SheetRefusal} → r ≡ Err n → RefusedAs (refusal_number n) (outcome_of_sheet (parse sheet))
  unfolding heading_of heading_by parse
  says_refused {n} e = go (is_line sheet line1 6) (counts_ok (counts_of sheet)) (head_ok sheet (counts_of sheet)) refl (sym e ∙ is)
    where
      go : (a b d : Bool) → head_ok sheet (counts_of sheet) ≡ d
          → Err n ≡ cond a (cond b (cond d (Ok (header_of sheet (counts_of sheet))) (Err LayoutBroken)) (Err OverLimit)) (Err LayoutBroken)
          → RefusedAs (refusal_number n) (outcome_of_sheet (cond a (cond b (cond (layout_ok sheet (counts_of sheet)) (parsed (sheet_of sheet (counts_of sheet))) (unparsed layout_broken)) (unparsed over_limit)) (unparsed layout_broken)))
      go true true true h q = let z : ◌≡◌ {A = ℕ} 0 1 = cc in never z
      go true true false h q = let m : n ≡ LayoutBroken = cc in rw (layout_split sheet (counts_of sheet), h) (record { why = layout_broken; is = refl; bare = rw m })
      go true false d h q = let m : n ≡ OverLimit = cc in record { why = over_limit; is = refl; bare = rw m }
      go false b d h q = let m : n ≡ LayoutBroken = cc in record { why = layout_broken; is = refl; bare = rw m }

  pub header_refused : {n : SheetRefusal} → r ≡ Err n → {before after : List ℕ} {count : ℕ} → Printed (refusal_bytes (refusal_number n)) before after count → Printed (listing_of sheet) before after count
  unfolding listing_of lines_of
  header_refused e p = let a = says_refused e in rw (a.is, a.bare) p

  pub header_into : {n : SheetRefusal} → r ≡ Err n → {before after : List ℕ} {row : Row} → RefusedBy (refusal_number n) before after row → PlannedInto (outcome_of_sheet (parse sheet)) before after row
  header_into e p = refused_into (says_refused e) p

  pub header_good : {h : Header} → r ≡ Ok h → Headed sheet h
  unfolding heading_of heading_by
  header_good {h} e = go (is_line sheet line1 6) (counts_ok (counts_of sheet)) (head_ok sheet (counts_of sheet)) refl refl refl (sym e ∙ is)
    where
      go : (a b d : Bool) → is_line sheet line1 6 ≡ a → counts_ok (counts_of sheet) ≡ b → head_ok sheet (counts_of sheet) ≡ d
          → Ok h ≡ cond a (cond b (cond d (Ok (header_of sheet (counts_of sheet))) (Err LayoutBroken)) (Err OverLimit)) (Err LayoutBroken)
          → Headed sheet h
      go true true true f g k q = let same : h ≡ header_of sheet (counts_of sheet) = cc in rw same (headed_by sheet f g k)
      go true true false f g k q = let z : ◌≡◌ {A = ℕ} 0 1 = cc in never z
      go true false d f g k q = let z : ◌≡◌ {A = ℕ} 0 1 = cc in never z
      go false b d f g k q = let z : ◌≡◌ {A = ℕ} 0 1 = cc in never z
