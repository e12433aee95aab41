-- The listing, as the code writes it.
use Rattle.std.proofs.Common.{Result, Err}
use Prim.Native.Nat.{ℕ, zero, suc, ◌+◌, ◌-◌, ◌*◌, ◌/◌, ◌<◌, ◌≤◌}
use mathlib.Core.Bool.{Bool, true, false, cond}
use mathlib.Core.List.{List, [], ◌∷◌, ◌++◌, append_assoc}
use mathlib.Core.Path.{◌≡◌, refl, sym, ap, ◌∙◌}
use native.Mathlib.Omega.{arith}
use borrow.Author.Tests.{eq-eqb, ne_eqb, le-leb, lt-leb}
use lib.Dec.{eqb}
use lib.ListN.{length, get_or, drop, set, replicate, length-append, length-set, length-replicate, get_or-eq_default}
use Rattle.table.specs.declared.TableRefusal.{TableRefusal}
use Rattle.table.specs.declared.TableRefusal.TheVariants.{OverLimit, BreaksRules, TooDeep, EqualNames}
use Rattle.table.specs.Check.{table_refused}
use Rattle.columns.specs.Columns.{write_column, stored, column_stored}
use Rattle.columns.proofs.ReadBack.{read_back}
use Rattle.columns.proofs.write.Storing.{stored_is, stored_long, stored_none, stored_on, stored_one}
use Rattle.planner.specs.Layout.{Entry, entry_words}
use Rattle.planner.specs.declared.Plan.{Plan}
use Rattle.planner.specs.declared.PlanRefusal.{PlanRefusal}
use Rattle.planner.specs.declared.PlanRefusal.TheVariants.{TableRefused}
use Rattle.base.specs.Refusal.{Line, line, refusal_line}
use Rattle.planner.specs.Answer.{line_of}
use Rattle.planner.specs.Entries.{entry_at, read_entries}
use Rattle.planner.proofs.buffer.ReadBack.{length_read}
use Rattle.operation.specs.declared.row.Row.{Row}
use Rattle.operation.specs.Rows.{row_line}
use Rattle.sheet.specs.Lines.{line_length}
use Rattle.sheet.specs.Listing.{Listing, four_columns, line_bytes, entry_line, entry_bytes, entries_bytes, lines_bytes, printed, printed_count, Printed}
use Rattle.sheet.specs.code.Post.{write_pair, entries_in, answer_lines, entry_length, EntryAsks, EntriesAsks, refusal_bytes}

-- the numbers of a line
pub row_is : (answer : Result Plan PlanRefusal) {a : Result Plan PlanRefusal} {l : Line} → answer ≡ a → l ≡ line_of a → l ≡ line_of answer
row_is answer e is = rw e is

table_line : (t : TableRefusal) → refusal_line (table_refused t) ≡ line (table_refused t).number 0 0 0
table_line OverLimit = refl
table_line BreaksRules = refl
table_line TooDeep = refl
table_line EqualNames = refl

pub row_table : (answer : Result Plan PlanRefusal) {t : TableRefusal} {l : Line} {n : ℕ} → answer ≡ Err (TableRefused t) → n ≡ (table_refused t).number → l ≡ line n 0 0 0 → l ≡ line_of answer
row_table answer {t} e n is = rw e (is ∙ (ap (λ (m : ℕ). line m 0 0 0) n ∙ sym (table_line t)))

module _ (r : Row) where
  pub entries_some : r.number ≡ 0 → r.fourth ≡ entries_in (row_line r)
  entries_some e = simp (eq-eqb r.number 0 e)

  pub entries_none : (r.number ≡ 0 → ⊥) → 0 ≡ entries_in (row_line r)
  entries_none e = simp (ne_eqb r.number 0 e)

pub word_past : (words : List ℕ) (i : ℕ) → length words ≤ i → 0 ≡ get_or words i 0
word_past words i past = sym (get_or-eq_default words 0 past)

pub entry_row : (plan : List ℕ) (i : ℕ) {l : Line} {a b c d : ℕ} → a ≡ get_or plan (i * entry_words) 0 → b ≡ get_or plan (i * entry_words + 1) 0 → c ≡ get_or plan (i * entry_words + 2) 0 → d ≡ get_or plan (i * entry_words + 3) 0
    → l ≡ line a b c d → l ≡ entry_line (entry_at plan i)
entry_row plan i a b c d is = rw (← a, ← b, ← c, ← d) is

-- lengths
four_long : (l : Line) → length (four_columns l) ≡ 24
unfolding four_columns
four_long l =
    let long = read_back.column_long in
    let a = write_column l.number in
    let b = write_column l.second in
    let c = write_column l.third in
    let d = write_column l.fourth in
    omega (
      arith,
      length-append a (b ++ (c ++ d)),
      length-append b (c ++ d),
      length-append c d,
      long l.number,
      long l.second,
      long l.third,
      long l.fourth,
    )

pub line_long : (l : Line) → length (line_bytes l) ≡ line_length 4
unfolding line_bytes
line_long l = length-append (four_columns l) (10 ∷ []) ∙ omega (arith, four_long l)

pub entry_long : (e : Entry) → length (entry_bytes e) ≡ entry_length
unfolding entry_bytes
entry_long e =
    let long = read_back.column_long in
    let last = write_column e.position in
    let feed : List ℕ = 10 ∷ [] in
    omega (arith, length-append (four_columns (entry_line e)) (last ++ feed), length-append last feed, four_long (entry_line e), long e.position)

pub entries_long : (es : List Entry) → length (entries_bytes es) ≡ length es * entry_length
unfolding entries_bytes
entries_long [] = refl
entries_long (e ∷ es) = length-append (entry_bytes e) (entries_bytes es) ∙ omega (arith, entry_long e, entries_long es)

pub lines_long : (l : Listing) → length (lines_bytes l) ≡ line_length 4 + length l.entries * entry_length
lines_long l = length-append (line_bytes l.first) (entries_bytes l.entries) ∙ omega (arith, line_long l.first, entries_long l.entries)

read_long : (plan : List ℕ) (i k : ℕ) → length (entries_bytes (read_entries plan i k)) ≡ k * entry_length
read_long plan i k = entries_long (read_entries plan i k) ∙ omega (arith, length_read plan i k)

-- a line, column by column
after : (out : List ℕ) (at : ℕ) (xs ys : List ℕ) (n : ℕ) → length xs ≡ n → at + n + length ys ≤ length out → stored (stored out at xs) (at + n) ys ≡ stored out at (xs ++ ys)
after out at xs ys n long fits = rw (← long) (stored_on out at xs ys (omega arith))

pair_long : (a b : ℕ) → length (write_pair a b) ≡ 12
unfolding write_pair
pair_long a b = let long = read_back.column_long in length-append (write_column a) (write_column b) ∙ omega (arith, long a, long b)

module _ (out : List ℕ) (at a b : ℕ) {one two : List ℕ} (room : at + 12 ≤ length out) (first : one ≡ column_stored out at a) (second : two ≡ column_stored one (at + 6) b) where
  pub pair_written : two ≡ stored out at (write_pair a b)
  unfolding write_pair
  pair_written =
      let long = read_back.column_long in
      second ∙ rw first (after out at (write_column a) (write_column b) 6 (long a) (omega (arith, long b)))

module _ (out : List ℕ) (at a b c d : ℕ) {one two : List ℕ} (room : at + 24 ≤ length out) (first : one ≡ stored out at (write_pair a b)) (second : two ≡ stored one (at + 12) (write_pair c d)) where
  pub four_written : two ≡ stored out at (four_columns (line a b c d))
  unfolding write_pair four_columns
  four_written =
      second
      ∙ rw first (after out at (write_pair a b) (write_pair c d) 12 (pair_long a b) (omega (arith, pair_long c d)) ∙ ap (stored out at) (simp append_assoc))

module _ (out : List ℕ) (at : ℕ) (l : Line) {one : List ℕ} (first : one ≡ stored out at (four_columns l)) where
  four_kept : length one ≡ length out
  four_kept = ap length first ∙ stored_long out at (four_columns l)

  pub line_written : at + line_length 4 ≤ length out → set one (at + 24) 10 ≡ stored out at (line_bytes l)
  unfolding line_bytes
  line_written room =
      stored_one one (at + 24) 10 (omega (arith, four_kept))
      ∙ rw first (after out at (four_columns l) (10 ∷ []) 24 (four_long l) (omega arith))

  module _ (plan : List ℕ) (i : ℕ) {position : ℕ} {two : List ℕ} (is : l ≡ entry_line (entry_at plan i)) (fifth : position ≡ get_or plan (i * entry_words + 4) 0) (second : two ≡ column_stored one (at + 24) position) where
    abbrev column : List ℕ
    column = write_column position

    five_long : length (four_columns l ++ column) ≡ 30
    five_long = length-append (four_columns l) column ∙ omega (arith, four_long l, read_back.column_long position)

    module _ (asked : EntryAsks out at plan i) where
      five_is : two ≡ stored out at (four_columns l ++ column)
      five_is = second ∙ rw first (after out at (four_columns l) column 24 (four_long l) (omega (arith, asked.space, read_back.column_long position)))

      five_kept : length two ≡ length out
      five_kept = ap length five_is ∙ stored_long out at (four_columns l ++ column)

      bytes_are : (four_columns l ++ column) ++ (10 ∷ []) ≡ entry_bytes (entry_at plan i)
      unfolding entry_bytes
      bytes_are = rw (is, fifth) (simp append_assoc)

      pub entry_written : set two (at + 30) 10 ≡ stored out at (entry_bytes (entry_at plan i))
      entry_written =
          stored_one two (at + 30) 10 (omega (arith, asked.space, five_kept))
          ∙ rw five_is (after out at (four_columns l ++ column) (10 ∷ []) 30 five_long (omega (arith, asked.space)) ∙ ap (stored out at) bytes_are)

pub line_kept : (out one : List ℕ) (i b : ℕ) → length one ≡ length out → length (set one i b) ≡ length out
line_kept out one i b e = length-set one i b ∙ e

pub entry_kept : (out one two : List ℕ) (i b : ℕ) → length one ≡ length out → length two ≡ length one → length (set two i b) ≡ length out
entry_kept out one two i b e f = length-set two i b ∙ (f ∙ e)

-- The entries: what is left of them makes of the output what all of them make of it as it was.
pub record Entering (out₀ plan : List ℕ) (count i : ℕ) (out : List ℕ) : Type 0 where
  pub inside : i ≤ count
  pub space : line_length 4 + count * entry_length ≤ length out₀
  pub held : count * entry_words ≤ length plan
  pub long : length out ≡ length out₀
  pub same : stored out (line_length 4 + i * entry_length) (entries_bytes (read_entries plan i (count - i))) ≡ stored out₀ (line_length 4) (entries_bytes (read_entries plan 0 count))

pub entering_start : {out plan : List ℕ} {count : ℕ} → EntriesAsks out plan count → Entering out plan count 0 out
entering_start {out} {plan} {count} asked =
    let z : count - 0 ≡ count = omega arith in
    record { inside = omega arith; space = asked.space; held = asked.held; long = refl; same = rw z }

module _ {out₀ plan : List ℕ} {count i : ℕ} {out : List ℕ} (w : Entering out₀ plan count i out) where
  module _ (lt : i < count) where
    pub entry_asked : EntryAsks out (line_length 4 + i * entry_length) plan i
    entry_asked = record { space = omega (arith, w.space, w.long); held = omega (arith, w.held) }

    pub entering_on : {later : List ℕ} → later ≡ stored out (line_length 4 + i * entry_length) (entry_bytes (entry_at plan i)) → Entering out₀ plan count (i + 1) later
    unfolding entries_bytes read_entries
    entering_on {later} e =
        let at = line_length 4 + i * entry_length in
        let bytes = entry_bytes (entry_at plan i) in
        let rest = entries_bytes (read_entries plan (i + 1) (count - (i + 1))) in
        let left : count - i ≡ suc (count - (i + 1)) = omega arith in
        let split : entries_bytes (read_entries plan i (count - i)) ≡ bytes ++ rest = rw left in
        let wide = entry_long (entry_at plan i) in
        let next : line_length 4 + (i + 1) * entry_length ≡ at + length bytes = omega arith in
        let size = read_long plan (i + 1) (count - (i + 1)) in
        let fits : at + length bytes + length rest ≤ length out = omega (arith, w.space, w.long) in
        record {
          inside = omega arith;
          space = w.space;
          held = w.held;
          long = ap length e ∙ (stored_long out at bytes ∙ w.long);
          same = rw (e, next, stored_on out at bytes rest fits) (rw split at w.same);
        }

  pub entering_ends : count ≤ i → out ≡ stored out₀ (line_length 4) (entries_bytes (read_entries plan 0 count))
  unfolding read_entries entries_bytes
  entering_ends le =
      let z : count - i ≡ 0 = omega arith in
      sym (stored_none out (line_length 4 + i * entry_length) (omega (arith, w.inside, w.space, w.long))) ∙ rw z at w.same

-- the whole output
drop_replicate : (k n : ℕ) → drop k (replicate n 0) ≡ replicate {A = ℕ} (n - k) 0
drop_replicate zero n = let z : n - 0 ≡ n = omega arith in rw z
drop_replicate (suc k) zero = let z : 0 - suc k ≡ 0 = omega arith in rw z
drop_replicate (suc k) (suc n) = let z : suc n - suc k ≡ n - k = omega arith in rw z (drop_replicate k n)

stored_zeros : (out listing : List ℕ) → length listing ≤ length out → stored (replicate (length out) 0) 0 listing ≡ printed listing out
unfolding printed
stored_zeros out listing fits =
    rw (le-leb (length listing) (length out) fits)
    (stored_is (replicate (length out) 0) 0 listing (omega (arith, length-replicate {A = ℕ} (length out) 0))
    ∙ (let z : 0 + length listing ≡ length listing = omega arith in rw (z, drop_replicate (length listing) (length out))))

module _ (first : Line) (plan : List ℕ) where
  listing : List ℕ
  listing = lines_bytes (answer_lines first plan)

  listing_long : length listing ≡ line_length 4 + entries_in first * entry_length
  unfolding listing
  listing_long = lines_long (answer_lines first plan) ∙ omega (arith, length_read plan 0 (entries_in first))

  module _ (out : List ℕ) {clear : List ℕ} (zeros : clear ≡ replicate (length out) 0) where
    clear_long : length clear ≡ length out
    clear_long = ap length zeros ∙ length-replicate (length out) 0

    past : length out < length listing → Printed (lines_bytes (answer_lines first plan)) out clear 0
    unfolding listing printed printed_count
    past large =
        let over = lt-leb (length listing) (length out) large in
        record { count = rw over; bytes = rw over zeros }

    pub line_past : length clear < line_length 4 → Printed (lines_bytes (answer_lines first plan)) out clear 0
    line_past small = past (omega (arith, listing_long, clear_long))

    module _ {count : ℕ} (is : count ≡ entries_in first) where
      pub entries_past : line_length 4 ≤ length clear → (length clear - line_length 4) / entry_length < count → Printed (lines_bytes (answer_lines first plan)) out clear 0
      entries_past some small = past (omega (arith, listing_long, clear_long))

      pub lines_printed : {one two : List ℕ} → line_length 4 ≤ length clear → count ≤ (length clear - line_length 4) / entry_length → one ≡ stored clear 0 (line_bytes first)
          → two ≡ stored one (line_length 4) (entries_bytes (read_entries plan 0 count)) → Printed (lines_bytes (answer_lines first plan)) out two (line_length 4 + count * entry_length)
      unfolding listing printed_count
      lines_printed some room e f =
          let long = listing_long in
          let wide = clear_long in
          let fits : length listing ≤ length out = omega arith in
          let rest = entries_bytes (read_entries plan 0 count) in
          let many = read_long plan 0 count in
          let both : stored (stored clear 0 (line_bytes first)) (line_length 4) rest ≡ stored clear 0 (line_bytes first ++ rest) =
          after clear 0 (line_bytes first) rest (line_length 4) (line_long first) (omega arith) in
          record {
            count = rw (le-leb (length listing) (length out) fits) (omega arith);
            bytes = f ∙ (rw (e, both, is, zeros) (stored_zeros out listing fits));
          }

-- a refusal that has no place and no counts: no entry follows it
no_entries : (n : ℕ) → entries_in (line n 0 0 0) ≡ 0
no_entries n = go (eqb n 0)
  where
    go : (b : Bool) → ◌≡◌ {A = ℕ} (cond b 0 0) 0
    go true = refl
    go false = refl

module _ {first : Line} (n : ℕ) {number : ℕ} (said : number ≡ n) (is : first ≡ line number 0 0 0) (plan : List ℕ) where
  pub refusal_held : entries_in first * entry_words ≤ length plan
  refusal_held = rw (is, said, no_entries n) (omega arith)

  pub refusal_printed : {before after : List ℕ} {r : ℕ} → Printed (lines_bytes (answer_lines first plan)) before after r → Printed (refusal_bytes n) before after r
  unfolding read_entries
  refusal_printed p = rw (is, said, no_entries n) at p
