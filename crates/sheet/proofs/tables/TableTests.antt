-- The tables, as the code reads them.
use Prim.Native.Nat.{ℕ, zero, suc, ◌+◌, ◌*◌, ◌/◌, ◌%◌, ◌<◌, ◌≤◌}
use mathlib.Core.Bool.{Bool, true, false, not, false≢true}
use mathlib.Core.List.{List}
use mathlib.Core.Path.{◌≡◌, refl, ap, ◌∙◌}
use native.Mathlib.Omega.{arith}
use native.Mathlib.Nat.{div-one, mod-one}
use borrow.Author.Tests.{not-false}
use lib.ListN.{length, get_or}
use Rattle.base.specs.Lists.{all_from}
use Rattle.table.proofs.tests.Bools.{told_no, told_yes}
use Rattle.sheet.specs.declared.header.Header.{Header}
use Rattle.sheet.specs.Lines.{column_number, column_place, number_in, line_length, lines_ok, number_lines_ok, column_word_at, number_word}
use Rattle.sheet.specs.Sheet.{mark_word, mark_ok, mark_columns_ok}
use Rattle.sheet.specs.code.Header.{tables_ok}
use Rattle.sheet.specs.code.Post.{Filled, Read, LinesAsks, NumbersAsks, name_word, row_mark, row_mark_ok, NamesAsks, MarksAsks, Overlaid, MarksRead, names_ok, NamesRead, TablesAsks, TablesRead}
use Rattle.sheet.proofs.lines.LineTests.{word_in_line}

-- the words of names and marks
module _ (sheet : List ℕ) (at count : ℕ) {rows : List ℕ} (words : Filled (column_word_at sheet at (line_length 3) 3) (count * 3) rows) where
  row_word : (i j : ℕ) → i < count → j < 3 → get_or rows (i * 3 + j) 0 ≡ number_in sheet (at + i * line_length 3) j
  row_word i j lt less = words.each (i * 3 + j) (omega arith) ∙ word_in_line sheet at (line_length 3) 3 i j less

  name_word_lem : (w : ℕ) → w < count * 2 → name_word rows w ≡ column_word_at sheet at (line_length 3) 2 w
  unfolding column_word_at
  name_word_lem w lt = row_word (w / 2) (w % 2) (omega arith) (omega arith)

  names_words : {names : List ℕ} → Filled (name_word rows) (count * 2) names → Filled (column_word_at sheet at (line_length 3) 2) (count * 2) names
  names_words f = record { each = λ k lt. f.each k lt ∙ name_word_lem k lt }

  mark_word_lem : (x : ℕ) → x < count → row_mark rows x ≡ mark_word sheet at x
  unfolding column_word_at
  mark_word_lem x lt =
      let e : column_place (at + x * line_length 3) 2 ≡ column_place (column_place at 2 + x * line_length 3) 0 = omega arith in
      row_word x 2 lt (omega arith) ∙ rw (div-one x, mod-one x) (ap (column_number sheet) e)

  marks_tested : all_from (row_mark_ok rows) 0 count ≡ mark_columns_ok sheet at count
  unfolding all_from
  marks_tested = go 0 count (omega arith)
    where
      go : (from k : ℕ) → from + k ≤ count → all_from (row_mark_ok rows) from k ≡ all_from (mark_ok sheet at) from k
      go from zero le = refl
      go from (suc k) le = rw (mark_word_lem from (omega arith), go (from + 1) k (omega arith))

  marks_words : {before marks : List ℕ} → Overlaid (row_mark rows) count before marks → Overlaid (mark_word sheet at) count before marks
  marks_words m = record { long = m.long; first = record { each = λ k lt. m.first.each k lt ∙ mark_word_lem k lt }; rest = m.rest }

-- the lines of names
module _ {at count : ℕ} {names : List ℕ} (asked : LinesAsks at 3 count names) (few : count ≤ 128) {rows : List ℕ} (long : length rows ≡ length names) where
  pub marks_asked : (marks : List ℕ) → length marks ≡ 128 → MarksAsks rows count marks
  marks_asked marks long-2 = record { few = few; there = omega (arith, asked.room); room = omega arith }

  pub words_asked : NamesAsks rows count
  words_asked = record { few = few; there = omega (arith, asked.room) }

names_unread : {sheet : List ℕ} {at count : ℕ} (names before marks : List ℕ) → false ≡ names_ok sheet at count → NamesRead sheet at count names before marks false
names_unread names before marks e = record { ok = e; held = λ t. absurd (false≢true t) }

module _ (sheet : List ℕ) (at count : ℕ) {rows : List ℕ} {l : Bool} (read : Read (column_word_at sheet at (line_length 3) 3) (count * 3) (lines_ok sheet at 3 count) rows l) where
  pub rows_fail : (before marks : List ℕ) → not l ≡ true → NamesRead sheet at count rows before marks false
  rows_fail before marks t = names_unread rows before marks (rw (told_no read.ok t))

  module _ (good : not l ≡ false) {before marks : List ℕ} {m : Bool} (read-2 : MarksRead rows count before marks m) where
    rows_are : Filled (column_word_at sheet at (line_length 3) 3) (count * 3) rows
    rows_are = read.filled (not-false l good)

    marks_say : m ≡ mark_columns_ok sheet at count
    marks_say = read-2.ok ∙ marks_tested sheet at count rows_are

    pub marks_fail : not m ≡ true → NamesRead sheet at count rows before marks false
    marks_fail t = names_unread rows before marks (rw (told_yes read.ok good, told_no marks_say t))

    pub names_read : not m ≡ false → {names : List ℕ} → Filled (name_word rows) (count * 2) names → NamesRead sheet at count names before marks true
    names_read t words = record {
      ok = rw (told_yes read.ok good, told_yes marks_say t);
      held = λ _. record {
        words = names_words sheet at count rows_are words;
        marked = marks_words sheet at count rows_are (read-2.marked (not-false m t));
      };
    }

-- what is asked of the space
module _ {h : Header} {nodes children numbers names : List ℕ} (asked : TablesAsks h nodes children numbers names) where
  pub nodes_asked : LinesAsks h.places.nodes 5 h.counts.nodes nodes
  nodes_asked = rw asked.places_are (record { lines = record { below = omega (arith, asked.limited) }; few = omega arith; room = asked.roomy.nodes_room })

  pub children_asked : LinesAsks h.places.children 1 h.counts.children children
  children_asked = rw asked.places_are (record { lines = record { below = omega (arith, asked.limited) }; few = omega arith; room = omega (arith, asked.roomy) })

  pub numbers_asked : NumbersAsks h.places.numbers h.counts.numbers numbers
  numbers_asked = rw asked.places_are (record { lines = record { below = omega (arith, asked.limited) }; room = asked.roomy.numbers_room })

  pub names_asked : LinesAsks h.places.names 3 h.counts.names names
  names_asked = rw asked.places_are (record { lines = record { below = omega (arith, asked.limited) }; few = omega arith; room = asked.roomy.names_room })

  -- one table after the other
  module _ (sheet before marks : List ℕ) {nodes-2 : List ℕ} {a : Bool} (read-1 : Read (column_word_at sheet h.places.nodes (line_length 5) 5) (h.counts.nodes * 5) (lines_ok sheet h.places.nodes 5 h.counts.nodes) nodes-2 a) where
    unread : (ns ks ms xs : List ℕ) → false ≡ tables_ok sheet h.counts → TablesRead sheet h.counts ns ks ms xs before marks false
    unread ns ks ms xs e = record { ok = e; held = λ t. absurd (false≢true t) }

    pub no_nodes : (ks ms xs : List ℕ) → not a ≡ true → TablesRead sheet h.counts nodes-2 ks ms xs before marks false
    no_nodes ks ms xs t = unread nodes-2 ks ms xs (rw (told_no (rw asked.places_are at read-1.ok) t))

    module _ (good-1 : not a ≡ false) {children-2 : List ℕ} {b : Bool} (read-2 : Read (column_word_at sheet h.places.children (line_length 1) 1) (h.counts.children * 1) (lines_ok sheet h.places.children 1 h.counts.children) children-2 b) where
      pub no_children : (ms xs : List ℕ) → not b ≡ true → TablesRead sheet h.counts nodes-2 children-2 ms xs before marks false
      no_children ms xs t = unread nodes-2 children-2 ms xs (rw (told_yes (rw asked.places_are at read-1.ok) good-1, told_no (rw asked.places_are at read-2.ok) t))

      module _ (good-2 : not b ≡ false) {numbers-2 : List ℕ} {d : Bool} (read-3 : Read (number_word sheet h.places.numbers) (h.counts.numbers * 2) (number_lines_ok sheet h.places.numbers h.counts.numbers) numbers-2 d) where
        pub no_numbers : (xs : List ℕ) → not d ≡ true → TablesRead sheet h.counts nodes-2 children-2 numbers-2 xs before marks false
        no_numbers xs t =
            unread nodes-2 children-2 numbers-2 xs
            (rw (told_yes (rw asked.places_are at read-1.ok) good-1, told_yes (rw asked.places_are at read-2.ok) good-2, told_no (rw asked.places_are at read-3.ok) t))

        pub tables_read : not d ≡ false → {names-2 : List ℕ} {r : Bool} → NamesRead sheet h.places.names h.counts.names names-2 before marks r
            → TablesRead sheet h.counts nodes-2 children-2 numbers-2 names-2 before marks r
        tables_read good-3 read-4 =
            let e : h.counts.children * 1 ≡ h.counts.children = omega arith in
            record {
              ok =
                  rw (told_yes (rw asked.places_are at read-1.ok) good-1, told_yes (rw asked.places_are at read-2.ok) good-2, told_yes (rw asked.places_are at read-3.ok) good-3)
                  (rw asked.places_are at read-4.ok);
              held = λ t. record {
                nodes_filled = rw asked.places_are at (read-1.filled (not-false a good-1));
                children_filled = rw (asked.places_are, e) at (read-2.filled (not-false b good-2));
                numbers_filled = rw asked.places_are at (read-3.filled (not-false d good-3));
                names_held = rw asked.places_are at (read-4.held t);
              };
            }
