-- A line, cell by cell, and lines one after the other.
use Prim.Native.Nat.{ℕ, zero, suc, ◌+◌, ◌-◌, ◌*◌, ◌<◌, ◌≤◌}
use mathlib.Core.List.{List, [], ◌∷◌, ◌++◌, append_assoc}
use mathlib.Core.Path.{◌≡◌, refl, sym, ap, ◌∙◌}
use native.Mathlib.Omega.{arith}
use lib.ListN.{length, set, replicate, length-append, length-set}
use Rattle.columns.specs.Columns.{write_column, stored, column_stored}
use Rattle.columns.proofs.ReadBack.{read_back}
use Rattle.columns.proofs.write.Storing.{stored_long, stored_none, stored_on, stored_one}
use Rattle.page.specs.Page.{number_width, kind_width, source_width, key_width, line_width, page_line_length, left_in, cell, kind_name, line_cells, blank_cells, cells_bytes, page_bytes}
use Rattle.page.specs.code.Lines.{front_bytes, texts_bytes, lines_from}
use Rattle.page.proofs.CellBytes.{cell_long}

-- what is stored behind what was stored
pub after : (out : List ℕ) (at : ℕ) (xs ys : List ℕ) (n : ℕ) → length xs ≡ n → at + n + length ys ≤ length out → stored (stored out at xs) (at + n) ys ≡ stored out at (xs ++ ys)
after out at xs ys n long fits = rw (← long) (stored_on out at xs ys (omega arith))

module _ (number kind : ℕ) where
  front_long : length (front_bytes number kind) ≡ number_width + kind_width
  unfolding front_bytes
  front_long = length-append (write_column number) (cell kind_width (kind_name kind)) ∙ omega (arith, read_back.column_long number, cell_long kind_width (kind_name kind) (omega arith))

  pub front_written : (out : List ℕ) (at : ℕ) {one two : List ℕ} → at + (number_width + kind_width) ≤ length out → one ≡ column_stored out at number → two ≡ stored one (at + number_width) (cell kind_width (kind_name kind))
      → two ≡ stored out at (front_bytes number kind)
  unfolding front_bytes
  front_written out at room first second =
      second ∙ rw first (after out at (write_column number) (cell kind_width (kind_name kind)) number_width (read_back.column_long number) (omega (arith, cell_long kind_width (kind_name kind) (omega arith))))

module _ (source key : List ℕ) where
  texts_long : length (texts_bytes source key) ≡ source_width + key_width
  unfolding texts_bytes
  texts_long = length-append (cell source_width source) (cell key_width key) ∙ omega (arith, cell_long source_width source (omega arith), cell_long key_width key (omega arith))

  pub texts_written : (out : List ℕ) (at : ℕ) {one two : List ℕ} → at + (source_width + key_width) ≤ length out → one ≡ stored out at (cell source_width source) → two ≡ stored one (at + source_width) (cell key_width key)
      → two ≡ stored out at (texts_bytes source key)
  unfolding texts_bytes
  texts_written out at room first second =
      second ∙ rw first (after out at (cell source_width source) (cell key_width key) source_width (cell_long source_width source (omega arith)) (omega (arith, cell_long key_width key (omega arith))))

module _ (number kind : ℕ) (source key : List ℕ) where
  whole : List ℕ
  whole = front_bytes number kind ++ texts_bytes source key

  whole_long : length whole ≡ line_width
  unfolding whole
  whole_long = length-append (front_bytes number kind) (texts_bytes source key) ∙ omega (arith, front_long number kind, texts_long source key)

  line_is : whole ++ (10 ∷ []) ≡ cells_bytes (line_cells number kind source key)
  unfolding whole front_bytes texts_bytes cells_bytes
  line_is = simp append_assoc

  pub line_long : length (cells_bytes (line_cells number kind source key)) ≡ page_line_length
  line_long = ap length (sym line_is) ∙ (length-append whole (10 ∷ []) ∙ omega (arith, whole_long))

  pub line_written : (out : List ℕ) (at : ℕ) {one two : List ℕ} → at + page_line_length ≤ length out → one ≡ stored out at (front_bytes number kind) → two ≡ stored one (at + (number_width + kind_width)) (texts_bytes source key)
      → set two (at + line_width) 10 ≡ stored out at (cells_bytes (line_cells number kind source key))
  unfolding whole
  line_written out at {one} {two} room first second =
      let both : two ≡ stored out at whole = second ∙ rw first (after out at (front_bytes number kind) (texts_bytes source key) (number_width + kind_width) (front_long number kind) (omega (arith, texts_long source key))) in
      let kept : length two ≡ length out = ap length both ∙ stored_long out at whole in
      stored_one two (at + line_width) 10 (omega arith)
      ∙ rw both (after out at whole (10 ∷ []) line_width whole_long (omega arith) ∙ ap (stored out at) line_is)

pub blank_is : cell line_width [] ++ (10 ∷ []) ≡ cells_bytes blank_cells
unfolding left_in cells_bytes
blank_is = refl

pub blank_long : length (cells_bytes blank_cells) ≡ page_line_length
unfolding cells_bytes
blank_long = refl

pub blank_written : (out : List ℕ) (at : ℕ) {one : List ℕ} → at + page_line_length ≤ length out → one ≡ stored out at (cell line_width []) → set one (at + line_width) 10 ≡ stored out at (cells_bytes blank_cells)
blank_written out at {one} room first =
    let kept : length one ≡ length out = ap length first ∙ stored_long out at (cell line_width []) in
    stored_one one (at + line_width) 10 (omega arith)
    ∙ rw first (after out at (cell line_width []) (10 ∷ []) line_width (cell_long line_width [] (omega arith)) (omega arith) ∙ ap (stored out at) blank_is)

pub byte_kept : (out one : List ℕ) (i b : ℕ) → length one ≡ length out → length (set one i b) ≡ length out
byte_kept out one i b e = length-set one i b ∙ e

pub line_kept : (out one two : List ℕ) (i b : ℕ) → length one ≡ length out → length two ≡ length one → length (set two i b) ≡ length out
line_kept out one two i b c d = length-set two i b ∙ (d ∙ c)

-- Lines, each of `page_line_length` bytes: those left make of the output what all of them make of it as it was.
pub record Lining (f : ℕ → List ℕ) (out₀ : List ℕ) (at count i : ℕ) (out : List ℕ) : Type 0 where
  pub inside : i ≤ count
  pub room : at + count * page_line_length ≤ length out₀
  pub kept : length out ≡ length out₀
  pub same : stored out (at + i * page_line_length) (lines_from f i (count - i)) ≡ stored out₀ at (lines_from f 0 count)

pub lining_start : (f : ℕ → List ℕ) (out : List ℕ) (at count : ℕ) → at + count * page_line_length ≤ length out → Lining f out at count 0 out
lining_start f out at count room =
    let z : count - 0 ≡ count = omega arith in
    let y : at + 0 * page_line_length ≡ at = omega arith in
    record { inside = omega arith; room = room; kept = refl; same = rw (z, y) }

module _ (f : ℕ → List ℕ) (wide : (i : ℕ) → length (f i) ≡ page_line_length) where
  pub lines_long : (i k : ℕ) → length (lines_from f i k) ≡ k * page_line_length
  unfolding lines_from
  lines_long i zero = refl
  lines_long i (suc k) = length-append (f i) (lines_from f (i + 1) k) ∙ omega (arith, wide i, lines_long (i + 1) k)

  module _ {out₀ : List ℕ} {at count i : ℕ} {out : List ℕ} (w : Lining f out₀ at count i out) where
    pub lining_on : {later : List ℕ} → i < count → later ≡ stored out (at + i * page_line_length) (f i) → Lining f out₀ at count (i + 1) later
    unfolding lines_from
    lining_on {later} lt e =
        let place = at + i * page_line_length in
        let rest = lines_from f (i + 1) (count - (i + 1)) in
        let left : count - i ≡ suc (count - (i + 1)) = omega arith in
        let split : lines_from f i (count - i) ≡ f i ++ rest = rw left in
        let next : at + (i + 1) * page_line_length ≡ place + page_line_length = omega arith in
        let size = lines_long (i + 1) (count - (i + 1)) in
        let on = after out place (f i) rest page_line_length (wide i) (omega (arith, w.room, w.kept)) in
        record {
          inside = omega arith;
          room = w.room;
          kept = ap length e ∙ (stored_long out place (f i) ∙ w.kept);
          same = rw (e, next, on) (rw split at w.same);
        }

pub lining_ends : {f : ℕ → List ℕ} {out₀ : List ℕ} {at count i : ℕ} {out : List ℕ} → Lining f out₀ at count i out → count ≤ i → out ≡ stored out₀ at (lines_from f 0 count)
unfolding lines_from
lining_ends {at = at} {count = count} {i = i} {out = out} w le =
    let z : count - i ≡ 0 = omega arith in
    sym (stored_none out (at + i * page_line_length) (omega (arith, w.inside, w.room, w.kept))) ∙ rw z at w.same

-- blank lines
abbrev pub blank_line : ℕ → List ℕ
blank_line i = cells_bytes blank_cells

blanks_are : (i k : ℕ) → lines_from blank_line i k ≡ page_bytes (replicate k blank_cells)
unfolding lines_from page_bytes
blanks_are i zero = refl
blanks_are i (suc k) = ap (λ (l : List ℕ). cells_bytes blank_cells ++ l) (blanks_are (i + 1) k)

pub blanks_long : (k : ℕ) → length (page_bytes (replicate k blank_cells)) ≡ k * page_line_length
blanks_long k = ap length (sym (blanks_are 0 k)) ∙ lines_long blank_line (λ i. blank_long) 0 k

module _ {out₀ : List ℕ} {at count i : ℕ} {out : List ℕ} (w : Lining blank_line out₀ at count i out) where
  pub blanks_on : {later : List ℕ} → i < count → later ≡ stored out (at + i * page_line_length) (cells_bytes blank_cells) → Lining blank_line out₀ at count (i + 1) later
  blanks_on = lining_on blank_line (λ i. blank_long) w

  pub blanks_end : count ≤ i → out ≡ stored out₀ at (page_bytes (replicate count blank_cells))
  blanks_end le = lining_ends w le ∙ ap (stored out₀ at) (blanks_are 0 count)
