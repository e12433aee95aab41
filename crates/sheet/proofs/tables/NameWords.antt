-- Names and their marks, from three words a name.
use Prim.Native.Nat.{ℕ, ◌+◌, ◌*◌, ◌/◌, ◌%◌, ◌<◌, ◌≤◌}
use mathlib.Core.Bool.{true, false, false≢true}
use mathlib.Core.List.{List}
use mathlib.Core.Path.{◌≡◌, refl, ◌∙◌}
use native.Mathlib.Omega.{arith}
use borrow.Author.Tests.{le-leb, lt-leb}
use lib.ListN.{length, get_or, set, length-set}
use lib.Seq.{get_or-set_other}
use mir.Syntax.{w8, w64}
use mir.Val.{Fits}
use Rattle.table.proofs.tests.Scan.{Scan, scan_start, scan_on, scan_fails, scan_ends}
use Rattle.sheet.specs.code.Post.{Filled, name_word, row_mark, row_mark_ok, NamesAsks, MarksAsks, Overlaid, MarksRead}
use Rattle.sheet.proofs.lines.LineTests.{filled_none, filled_on}

-- an array whose first words are written anew
pub overlaid_none : (f : ℕ → ℕ) (before : List ℕ) → Overlaid f 0 before before
overlaid_none f before = record { long = refl; first = filled_none f before; rest = λ x le. refl }

pub overlaid_on : {f : ℕ → ℕ} {x v : ℕ} {before here : List ℕ} → Overlaid f x before here → x < length here → v ≡ f x → Overlaid f (x + 1) before (set here x v)
overlaid_on {f} {x} {v} {before} {here} old lt e = record {
  long = length-set here x v ∙ old.long;
  first = filled_on old.first lt e;
  rest = λ k above. get_or-set_other here x k v 0 (λ e. omega arith) ∙ old.rest k (omega arith);
}

pub overlaid_first : {f : ℕ → ℕ} {x count : ℕ} {before here : List ℕ} → Overlaid f x before here → count ≤ x → Filled f count here
overlaid_first old le = record { each = λ k lt. old.first.each k (omega arith) }

-- names
module _ {rows : List ℕ} {count : ℕ} (asked : NamesAsks rows count) where
  pub words_fit : Fits w64 (count * 2)
  words_fit = record { fits = omega (arith, asked.few) }

  module _ {w : ℕ} {here : List ℕ} (old : Overlaid (name_word rows) w rows here) (lt : w < count * 2) where
    pub row_fits : Fits w64 (w / 2 * 3)
    row_fits = record { fits = omega (arith, asked.few) }

    pub row_word_fits : Fits w64 (w / 2 * 3 + w % 2)
    row_word_fits = record { fits = omega (arith, asked.few) }

    pub row_word_there : w / 2 * 3 + w % 2 < length here
    row_word_there = omega (arith, asked.there, old.long)

    pub name_room : w < length here
    name_room = omega (arith, asked.there, old.long)

    pub name_on : Overlaid (name_word rows) (w + 1) rows (set here w (get_or here (w / 2 * 3 + w % 2) 0))
    name_on = overlaid_on old name_room (old.rest (w / 2 * 3 + w % 2) (omega arith))

-- marks
pub record Marking (rows : List ℕ) (count x : ℕ) (before here : List ℕ) : Type 0 where
  pub scan : Scan (row_mark_ok rows) 0 count x
  pub marked : Overlaid (row_mark rows) x before here

pub marking_start : (rows : List ℕ) (count : ℕ) (before : List ℕ) → Marking rows count 0 before before
marking_start rows count before = record { scan = scan_start (row_mark_ok rows) 0 count; marked = overlaid_none (row_mark rows) before }

module _ {rows before : List ℕ} {count : ℕ} (asked : MarksAsks rows count before) {x : ℕ} {here : List ℕ} (go : Marking rows count x before here) where
  module _ (lt : x < count) where
    pub mark_part_fits : Fits w64 (x * 3)
    mark_part_fits = record { fits = omega (arith, asked.few) }

    pub mark_place_fits : Fits w64 (x * 3 + 2)
    mark_place_fits = record { fits = omega (arith, asked.few) }

    pub mark_there : x * 3 + 2 < length rows
    mark_there = omega (arith, asked.there)

    pub mark_large : 31 < get_or rows (x * 3 + 2) 0 → MarksRead rows count before here false
    mark_large large =
        let z : 0 + x ≡ x = omega arith in
        record {
          ok = scan_fails go.scan lt (rw z (lt-leb (row_mark rows x) 31 large));
          marked = λ t. absurd (false≢true t);
        }

    module _ (small : get_or rows (x * 3 + 2) 0 ≤ 31) where
      pub mark_fits : Fits w8 (get_or rows (x * 3 + 2) 0)
      mark_fits = record { fits = omega arith }

      pub mark_room : x < length here
      mark_room = omega (arith, asked.room, go.marked.long)

      pub mark_on : Marking rows count (x + 1) before (set here x (get_or rows (x * 3 + 2) 0))
      mark_on =
          let z : 0 + x ≡ x = omega arith in
          record {
            scan = scan_on go.scan lt (rw z (le-leb (row_mark rows x) 31 small));
            marked = overlaid_on go.marked mark_room refl;
          }

  pub marking_ends : count ≤ x → MarksRead rows count before here true
  marking_ends le =
      let n : x ≡ count = omega (arith, go.scan.inside) in
      record { ok = scan_ends go.scan le; marked = λ _. rw n at go.marked }
