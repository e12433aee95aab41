-- Lines, as the code reads them.
use Prim.Native.Nat.{ℕ, ◌+◌, ◌-◌, ◌*◌, ◌/◌, ◌%◌, ◌^◌, ◌<◌, ◌≤◌}
use mathlib.Core.Bool.{Bool, true, false, not, and-false, false≢true}
use mathlib.Core.List.{List}
use mathlib.Core.Path.{◌≡◌, refl, sym, ap, ◌∙◌}
use native.Mathlib.Omega.{arith}
use native.Mathlib.Nat.{mul-le-mul_right, mul-add-div_right, mul-add-mod_self_right, div-eq_of_lt, mod-eq_of_lt}
use borrow.Author.Tests.{not-false}
use lib.ListN.{length, take, drop, set, length-set, get_or-eq_default}
use lib.Seq.{ext_get_or, get_or-take, length-take-le}
use mir.Syntax.{w64}
use mir.Val.{Fits}
use Rattle.std.specs.Prelude.{Option, Some, None}
use Rattle.columns.specs.declared.SignedNumber.{SignedNumber}
use Rattle.columns.specs.Columns.{six_column, column_at, signed_column_at}
use Rattle.columns.proofs.read.Six.{column_inside}
use Rattle.base.specs.Lists.{all_from, tabulate}
use Rattle.table.proofs.tests.Scan.{Scan, scan_start, scan_ends, all_on, all_fails}
use Rattle.planner.proofs.buffer.Filling.{filling_next, length_tabulate, get_d_tabulate}
use Rattle.sheet.specs.Lines.{column_number, is_line_feed, column_ok, is_line, line_length, line_ok, lines_ok, signed_length, number_line_length, is_number_line, number_line_ok, number_lines_ok, column_word_at, number_word}
use Rattle.sheet.specs.code.Post.{Inside, WordRead, Filled, Read, LinesAsks, LineAsks, NumbersAsks, NumberAsks}

-- a column, by what was read
module _ (sheet : List ℕ) (at w : ℕ) (before : List ℕ) (inside : at + 6 ≤ length sheet) {column : Option ℕ}
    (said : column ≡ six_column (take ((at + 6) - at) (drop at sheet))) where
  is : column ≡ column_at sheet at
  is = column_inside sheet at inside said

  pub word_read : {n : ℕ} → column ≡ Some n → WordRead sheet at w before (set before w n) true
  unfolding column_number
  word_read e = record { ok = rw (← is, e); stored = λ _. rw (← is, e) }

  pub word_none : {after : List ℕ} → column ≡ None → WordRead sheet at w before after false
  word_none e = record { ok = rw (← is, e); stored = λ t. absurd (false≢true t) }

pub feed_past : (sheet : List ℕ) (at : ℕ) → length sheet ≤ at → false ≡ is_line_feed sheet at
feed_past sheet at past = rw (get_or-eq_default sheet 0 past)

-- places
module _ {at line count : ℕ} (inside : Inside at line count) where
  pub part_fits : (i : ℕ) → i < count → Fits w64 (i * line)
  part_fits i lt =
      let le : i * line ≤ count * line = mul-le-mul_right line (omega arith) in
      record { fits = omega (arith, inside.below) }

  pub place_fits : (i : ℕ) → i < count → Fits w64 (at + i * line)
  place_fits i lt =
      let le : i * line ≤ count * line = mul-le-mul_right line (omega arith) in
      record { fits = omega (arith, inside.below) }

  up_to : (i : ℕ) → i < count → Inside at line (i + 1)
  up_to i lt =
      let le : (i + 1) * line ≤ count * line = mul-le-mul_right line (omega arith) in
      record { below = omega (arith, inside.below) }

-- words
pub filled_none : (f : ℕ → ℕ) (array : List ℕ) → Filled f 0 array
filled_none f array = record { each = λ k lt. absurd (omega arith) }

pub filled_on : {f : ℕ → ℕ} {w v : ℕ} {array : List ℕ} → Filled f w array → w < length array → v ≡ f w → Filled f (w + 1) (set array w v)
filled_on {f} {w} {v} {array} go lt e = record { each = (filling_next {f = f} {size = length array} {here = array} {v = v} (record { long = refl; each = go.each }) lt e).each }

pub filled_first : {f : ℕ → ℕ} {count : ℕ} {array : List ℕ} → Filled f count array → count ≤ length array → take count array ≡ tabulate f 0 count
filled_first {f} {count} {array} go le =
    let size : length (take count array) ≡ count = length-take-le count array le in
    ext_get_or 0 (take count array) (tabulate f 0 count) (size ∙ sym (length_tabulate f 0 count)) (λ k lt.
    let inside : k < count = omega arith in
    let z : 0 + k ≡ k = omega arith in
    get_or-take count array k 0 inside ∙ (go.each k inside ∙ sym (get_d_tabulate f 0 count k inside ∙ ap f z)))

-- the words of line i
module _ (sheet : List ℕ) (at line columns i : ℕ) where
  pub word_in_line : (j : ℕ) → j < columns → column_word_at sheet at line columns (i * columns + j) ≡ column_number sheet (at + i * line + j * 6)
  unfolding column_word_at
  word_in_line j lt =
      let d : (i * columns + j) / columns ≡ i = mul-add-div_right (omega arith) i j ∙ (ap (λ (q : ℕ). i + q) (div-eq_of_lt lt) ∙ omega arith) in
      let m : (i * columns + j) % columns ≡ j = mul-add-mod_self_right i columns j ∙ mod-eq_of_lt lt in
      rw (d, m)

-- Reading: test j of k, and w words.
pub record Going (p : ℕ → Bool) (f : ℕ → ℕ) (k j w : ℕ) (before after : List ℕ) : Type 0 where
  pub scan : Scan p 0 k j
  pub filled : Filled f w after
  pub long : length after ≡ length before

no_words : {f : ℕ → ℕ} {words : ℕ} {good : Bool} (array : List ℕ) → false ≡ good → Read f words good array false
no_words array e = record { ok = e; filled = λ t. absurd (false≢true t) }

-- the columns of a line, then LF
module _ {sheet : List ℕ} {at columns i : ℕ} {before : List ℕ} (asked : LineAsks sheet at columns i before) where
  few : columns ≤ 6
  few = asked.asked.few

  below : at + i * line_length columns + line_length columns < 2 ^ 32
  below = let b = asked.asked.lines.below in omega arith

  pub line_fits : Fits w64 (columns * 6)
  line_fits = record { fits = omega (arith, few) }

  pub line_end_fits : Fits w64 (columns * 6 + 1)
  line_end_fits = record { fits = omega (arith, few) }

  pub line_part_fits : Fits w64 (i * (columns * 6 + 1))
  line_part_fits = part_fits asked.asked.lines i (omega arith)

  pub line_place_fits : Fits w64 (at + i * (columns * 6 + 1))
  line_place_fits = place_fits asked.asked.lines i (omega arith)

  pub first_word_fits : length before < 2 ^ 64 → Fits w64 (i * columns)
  first_word_fits small = record { fits = omega (arith, asked.asked.room) }

  pub line_end_place : Fits w64 (at + i * (columns * 6 + 1) + columns * 6)
  line_end_place = record { fits = omega (arith, below) }

  pub line_cut : length sheet ≤ at + i * (columns * 6 + 1) + columns * 6 → Read (column_word_at sheet at (line_length columns) columns) (i * columns + columns) (line_ok sheet at columns i) before false
  unfolding is_line
  line_cut cut = no_words before (rw (← feed_past sheet (at + i * line_length columns + columns * 6) cut) (sym (and-false (all_from (column_ok sheet (at + i * line_length columns)) 0 columns))))

  pub line_start : Going (column_ok sheet (at + i * line_length columns)) (column_word_at sheet at (line_length columns) columns) columns 0 (i * columns + 0) before before
  line_start =
      let z : i * columns + 0 ≡ i * columns = omega arith in
      record { scan = scan_start (column_ok sheet (at + i * line_length columns)) 0 columns; filled = rw z asked.before; long = refl }

  module _ {j : ℕ} {here : List ℕ} (go : Going (column_ok sheet (at + i * line_length columns)) (column_word_at sheet at (line_length columns) columns) columns j (i * columns + j) before here) where
    module _ (lt : j < columns) where
      pub column_fits : Fits w64 (j * 6)
      column_fits = record { fits = omega (arith, few) }

      pub column_place_fits : Fits w64 (at + i * (columns * 6 + 1) + j * 6)
      column_place_fits = record { fits = omega (arith, few, below) }

      pub word_room : i * columns + j < length here
      word_room = omega (arith, asked.asked.room, go.long)

      pub column_there : at + i * (columns * 6 + 1) + columns * 6 < length sheet → at + i * (columns * 6 + 1) + j * 6 + 6 ≤ length sheet
      column_there there = omega arith

      module _ {after : List ℕ} {r : Bool} (read : WordRead sheet (at + i * line_length columns + j * 6) (i * columns + j) here after r) where
        pub line_on : not r ≡ false → Going (column_ok sheet (at + i * line_length columns)) (column_word_at sheet at (line_length columns) columns) columns (j + 1) (i * columns + (j + 1)) before after
        line_on t =
            let e = read.stored (not-false r t) in
            let n : i * columns + (j + 1) ≡ i * columns + j + 1 = omega arith in
            rw (e, n)
            (record {
              scan = all_on go.scan lt read.ok t;
              filled = filled_on go.filled word_room (sym (word_in_line sheet at (line_length columns) columns i j lt));
              long = length-set here (i * columns + j) (column_number sheet (at + i * line_length columns + j * 6)) ∙ go.long;
            })

        pub line_fails : not r ≡ true → Read (column_word_at sheet at (line_length columns) columns) (i * columns + columns) (line_ok sheet at columns i) after false
        unfolding is_line
        line_fails t = no_words after (rw (← all_fails go.scan lt read.ok t))

    pub line_ends : {r : Bool} → columns ≤ j → r ≡ is_line_feed sheet (at + i * line_length columns + columns * 6) → Read (column_word_at sheet at (line_length columns) columns) (i * columns + columns) (line_ok sheet at columns i) here r
    unfolding is_line
    line_ends le is =
        let n : i * columns + j ≡ i * columns + columns = omega (arith, go.scan.inside) in
        record { ok = rw (← scan_ends go.scan le) is; filled = λ _. rw n at go.filled }

-- the lines
module _ (sheet : List ℕ) {at columns count : ℕ} {before : List ℕ} (asked : LinesAsks at columns count before) where
  pub lines_start : Going (line_ok sheet at columns) (column_word_at sheet at (line_length columns) columns) count 0 (0 * columns) before before
  lines_start =
      let z : 0 * columns ≡ 0 = omega arith in
      record { scan = scan_start (line_ok sheet at columns) 0 count; filled = rw z (filled_none (column_word_at sheet at (line_length columns) columns) before); long = refl }

  module _ {i : ℕ} {here : List ℕ} (go : Going (line_ok sheet at columns) (column_word_at sheet at (line_length columns) columns) count i (i * columns) before here) where
    module _ (lt : i < count) where
      pub line_asked : LineAsks sheet at columns i here
      line_asked =
          let le : (i + 1) * columns ≤ count * columns = mul-le-mul_right columns (omega arith) in
          record {
            asked = record { lines = up_to asked.lines i lt; few = asked.few; room = omega (arith, asked.room, go.long) };
            before = go.filled;
          }

      module _ {after : List ℕ} {r : Bool} (read : Read (column_word_at sheet at (line_length columns) columns) (i * columns + columns) (line_ok sheet at columns i) after r) where
        pub lines_on : length after ≡ length here → not r ≡ false → Going (line_ok sheet at columns) (column_word_at sheet at (line_length columns) columns) count (i + 1) ((i + 1) * columns) before after
        lines_on kept t =
            let n : (i + 1) * columns ≡ i * columns + columns = omega arith in
            record { scan = all_on go.scan lt read.ok t; filled = rw n (read.filled (not-false r t)); long = kept ∙ go.long }

        pub lines_fail : not r ≡ true → Read (column_word_at sheet at (line_length columns) columns) (count * columns) (lines_ok sheet at columns count) after false
        lines_fail t = no_words after (all_fails go.scan lt read.ok t)

    pub lines_end : count ≤ i → Read (column_word_at sheet at (line_length columns) columns) (count * columns) (lines_ok sheet at columns count) here true
    lines_end le =
        let n : i ≡ count = omega (arith, go.scan.inside) in
        record { ok = scan_ends go.scan le; filled = λ _. rw n at go.filled }

-- a number's line
module _ {sheet : List ℕ} {at i : ℕ} {before : List ℕ} (asked : NumberAsks sheet at i before) where
  pub number_part_fits : Fits w64 (i * number_line_length)
  number_part_fits = part_fits asked.asked.lines i (omega arith)

  pub number_place_fits : Fits w64 (at + i * number_line_length)
  number_place_fits = place_fits asked.asked.lines i (omega arith)

  pub number_end_place : Fits w64 (at + i * number_line_length + signed_length)
  number_end_place = let b = asked.asked.lines.below in record { fits = omega arith }

  pub number_room : i * 2 < length before
  number_room = omega (arith, asked.asked.room)

  pub size_room : (b : ℕ) → i * 2 + 1 < length (set before (i * 2) b)
  size_room b = omega (arith, asked.asked.room, length-set before (i * 2) b)

  module _ {column : Option SignedNumber} (is : column ≡ signed_column_at sheet (at + i * number_line_length)) where
    pub number_read : {number : SignedNumber} {r : Bool} → column ≡ Some number → r ≡ is_line_feed sheet (at + i * number_line_length + signed_length)
        → Read (number_word sheet at) (i * 2 + 2) (number_line_ok sheet at i) (set (set before (i * 2) number.below) (i * 2 + 1) number.size) r
    unfolding is_number_line number_word
    number_read {number} e feed =
        let q : i * 2 / 2 ≡ i = omega arith in
        let m : i * 2 % 2 ≡ 0 = omega arith in
        let q' : (i * 2 + 1) / 2 ≡ i = omega arith in
        let m' : (i * 2 + 1) % 2 ≡ 1 = omega arith in
        let n : i * 2 + 2 ≡ i * 2 + 1 + 1 = omega arith in
        let here : signed_column_at sheet (at + i * number_line_length) ≡ Some number = sym is ∙ e in
        let one : Filled (number_word sheet at) (i * 2 + 1) (set before (i * 2) number.below) =
        filled_on asked.before number_room (rw (q, m, here)) in
        record { ok = rw here feed; filled = λ _. rw n (filled_on one (size_room number.below) (rw (q', m', here))) }

    pub number_unread : {after : List ℕ} → column ≡ None → Read (number_word sheet at) (i * 2 + 2) (number_line_ok sheet at i) after false
    unfolding is_number_line
    number_unread {after} e = no_words after (rw (← is, e))

module _ (sheet : List ℕ) {at count : ℕ} {before : List ℕ} (asked : NumbersAsks at count before) where
  pub numbers_start : Going (number_line_ok sheet at) (number_word sheet at) count 0 (0 * 2) before before
  numbers_start = record { scan = scan_start (number_line_ok sheet at) 0 count; filled = filled_none (number_word sheet at) before; long = refl }

  module _ {i : ℕ} {here : List ℕ} (go : Going (number_line_ok sheet at) (number_word sheet at) count i (i * 2) before here) where
    module _ (lt : i < count) where
      pub number_asked : NumberAsks sheet at i here
      number_asked = record {
        asked = record { lines = up_to asked.lines i lt; room = omega (arith, asked.room, go.long) };
        before = go.filled;
      }

      module _ {after : List ℕ} {r : Bool} (read : Read (number_word sheet at) (i * 2 + 2) (number_line_ok sheet at i) after r) where
        pub numbers_on : length after ≡ length here → not r ≡ false → Going (number_line_ok sheet at) (number_word sheet at) count (i + 1) ((i + 1) * 2) before after
        numbers_on kept t =
            let n : (i + 1) * 2 ≡ i * 2 + 2 = omega arith in
            record { scan = all_on go.scan lt read.ok t; filled = rw n (read.filled (not-false r t)); long = kept ∙ go.long }

        pub numbers_fail : not r ≡ true → Read (number_word sheet at) (count * 2) (number_lines_ok sheet at count) after false
        numbers_fail t = no_words after (all_fails go.scan lt read.ok t)

    pub numbers_end : count ≤ i → Read (number_word sheet at) (count * 2) (number_lines_ok sheet at count) here true
    numbers_end le =
        let n : i ≡ count = omega (arith, go.scan.inside) in
        record { ok = scan_ends go.scan le; filled = λ _. rw n at go.filled }
