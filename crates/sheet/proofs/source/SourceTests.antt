-- A node's text as a part of the sheet.
use Prim.Native.Nat.{ℕ, ◌+◌, ◌-◌, ◌*◌, ◌^◌, ◌<◌, ◌≤◌, min, max}
use mathlib.Core.Bool.{Bool, true, false}
use mathlib.Core.List.{List}
use mathlib.Core.Path.{◌≡◌, refl, sym, ap, ap₂, ◌∙◌}
use native.Mathlib.Nat.{max-eq_left, max-eq_right}
use native.Mathlib.Omega.{arith}
use borrow.Author.Tests.{ne_eqb, ltb-true, ltb-false}
use lib.Dec.{ltb}
use lib.ListN.{length, get_or, drop, length-take, length-drop, get_or-eq_default}
use lib.Seq.{ext_get_or, get_or-take, get_or-drop, length-take-le}
use mir.Syntax.{w32, w64}
use mir.Val.{Fits}
use Rattle.base.specs.Lists.{part}
use Rattle.std.specs.Prelude.{Option, Some, None, unwrap_or}
use Rattle.columns.specs.Columns.{column_at}
use Rattle.table.specs.Tables.{record_word, start_of, end_of}
use Rattle.planner.proofs.buffer.Filling.{length_tabulate, get_d_tabulate}
use Rattle.sheet.specs.declared.header.Counts.{Counts}
use Rattle.sheet.specs.declared.header.Places.{Places}
use Rattle.sheet.specs.Lines.{number_of, column_number, number_in, line_length, column_word_at}
use Rattle.sheet.specs.Sheet.{line1, nodes_place, nodes_of, text_place}
use Rattle.sheet.specs.Source.{text_byte, span, span_of, span_in}
use Rattle.sheet.specs.code.Header.{places_of, NumberRead, CountsRead}
use Rattle.sheet.proofs.header.HeaderTests.{counts_read}
use Rattle.sheet.proofs.lines.LineTests.{word_in_line}

-- columns
pub number_told : (sheet : List ℕ) (at : ℕ) {column : Option ℕ} {n : ℕ} → column ≡ column_at sheet at → n ≡ unwrap_or column 0 → Fits w32 n → NumberRead (column_number sheet at) n
unfolding column_number
number_told sheet at is said few = record { is = said ∙ (ap (λ (c : Option ℕ). unwrap_or c 0) is ∙ same (column_at sheet at)); below = few.fits }
  where
    same : (c : Option ℕ) → unwrap_or c 0 ≡ number_of c
    same (Some n) = refl
    same None = refl

-- line 1
pub counts_told : (sheet : List ℕ) {n k m x s t : ℕ} → NumberRead (number_in sheet line1 0) n → NumberRead (number_in sheet line1 1) k → NumberRead (number_in sheet line1 2) m
    → NumberRead (number_in sheet line1 3) x → NumberRead (number_in sheet line1 4) s → NumberRead (number_in sheet line1 5) t
    → CountsRead sheet (record { nodes = n; children = k; numbers = m; names = x; strings = s; text = t })
counts_told sheet a b c d e f = record {
  is = counts_read sheet a.is b.is c.is d.is e.is f.is;
  countable = record { nodes_below = a.below; children_below_lem = b.below; numbers_below = c.below; names_below = d.below; strings_below = e.below; text_below = f.below };
}

-- a node's words
module _ (sheet : List ℕ) (c : Counts) (node k : ℕ) where
  pub no_node : node ≡ 0 → NumberRead (record_word 5 k (nodes_of sheet c) node) 0
  unfolding record_word
  no_node e = record { is = rw e; below = omega arith }

  module _ (some : node ≡ 0 → ⊥) (less : k < 5) where
    word_is : record_word 5 k (nodes_of sheet c) node ≡ get_or (nodes_of sheet c) ((node - 1) * 5 + k) 0
    unfolding record_word
    word_is = rw (ne_eqb node 0 some)

    pub past_node : c.nodes ≤ node - 1 → NumberRead (record_word 5 k (nodes_of sheet c) node) 0
    past_node past =
        let long = length_tabulate (column_word_at sheet nodes_place (line_length 5) 5) 0 (c.nodes * 5) in
        record { is = sym (word_is ∙ get_or-eq_default (nodes_of sheet c) 0 (omega arith)); below = omega arith }

    pub node_there : node - 1 < c.nodes → {r : ℕ} → NumberRead (column_number sheet (nodes_place + (node - 1) * line_length 5 + k * 6)) r → NumberRead (record_word 5 k (nodes_of sheet c) node) r
    node_there lt read =
        let f = column_word_at sheet nodes_place (line_length 5) 5 in
        let w = (node - 1) * 5 + k in
        let z : 0 + w ≡ w = omega arith in
        let there : get_or (nodes_of sheet c) w 0 ≡ f w = get_d_tabulate f 0 (c.nodes * 5) w (omega arith) ∙ ap f z in
        record { is = read.is ∙ sym (word_is ∙ (there ∙ word_in_line sheet nodes_place (line_length 5) 5 (node - 1) k less)); below = read.below }

-- A part of a part: of the n bytes from `at` on, those from `first` to before `last`.
low : (a b : ℕ) {c : ℕ} → c ≡ min a b → (c ≤ a) × (c ≤ b)
low a b e = (omega arith, omega arith)

min_first : (a b : ℕ) {c : ℕ} → c ≡ min a b → a < b → c ≡ a
min_first a b e f = omega arith

min_second : (a b : ℕ) {c : ℕ} → c ≡ min a b → b ≤ a → c ≡ b
min_second a b e f = omega arith

-- a minimum below its second number is the first
begun : (a b : ℕ) {c : ℕ} → c ≡ min a b → c < b → c ≡ a
begun a b e f = omega arith

turned_back : (at first last limit : ℕ) {high : ℕ} → high ≡ min (at + last) limit → high < at + first → at + first < limit → last ≤ first
turned_back at first last limit e f g = omega arith

bytes_end : (at count size : ℕ) {limit : ℕ} → limit ≡ min (at + count) size → at < limit → limit ≡ at + min count (size - at)
bytes_end at count size e lt = omega arith

bytes_few : (at count size : ℕ) {limit : ℕ} → limit ≡ min (at + count) size → min count (size - at) ≤ limit - at
bytes_few at count size e = omega arith

left_none : (n first last : ℕ) → n ≤ first → min (last - first) (n - first) ≡ 0
left_none n first last le = omega arith

left_back : (n first last : ℕ) → last ≤ first → min (last - first) (n - first) ≡ 0
left_back n first last le = omega arith

left_some : (at n first last : ℕ) → min (last - first) (n - first) ≡ min (at + last) (at + n) - (at + first)
left_some at n first last = omega arith

less_off : {a b : ℕ} (c : ℕ) → a ≤ b → a - c ≤ b - c
less_off c le = omega arith

module _ (l : List ℕ) (at count first last : ℕ) where
  abbrev left : ℕ
  left = min (last - first) (min count (length l - at) - first)

  inner_long : length (part (part l at count) first (last - first)) ≡ left
  inner_long =
      length-take (last - first) (drop first (part l at count))
      ∙ ap (min (last - first)) (length-drop first (part l at count) ∙ ap (λ (n : ℕ). n - first) (length-take count (drop at l) ∙ ap (min count) (length-drop at l)))

  inner_each : (k : ℕ) → k < last - first → first + k < count → get_or (part (part l at count) first (last - first)) k 0 ≡ get_or l (at + (first + k)) 0
  inner_each k a b =
      get_or-take (last - first) (drop first (part l at count)) k 0 a
      ∙ (get_or-drop first (part l at count) k 0 ∙ (get_or-take count (drop at l) (first + k) 0 b ∙ get_or-drop at l (first + k) 0))

  -- as a part of all
  module _ {start end : ℕ} (inside : end ≤ length l) (size : left ≡ end - start) (begins : start < end → start ≡ at + first) where
    outer_long : length (part l start (end - start)) ≡ end - start
    outer_long = length-take-le (end - start) (drop start l) (rw (length-drop start l) (less_off start inside))

    part_part : part l start (end - start) ≡ part (part l at count) first (last - first)
    part_part = ext_get_or 0 (part l start (end - start)) (part (part l at count) first (last - first)) (outer_long ∙ sym (inner_long ∙ size)) each
      where
        each : (k : ℕ) → k < length (part l start (end - start)) → get_or (part l start (end - start)) k 0 ≡ get_or (part (part l at count) first (last - first)) k 0
        each k lt =
            let short : k < end - start = omega (arith, outer_long) in
            let e : start ≡ at + first = begins (omega arith) in
            let same : start + k ≡ at + (first + k) = omega arith in
            let both = low (last - first) (min count (length l - at) - first) {c = left} refl in
            let few = low count (length l - at) {c = min count (length l - at)} refl in
            get_or-take (end - start) (drop start l) k 0 short
            ∙ (get_or-drop start l k 0 ∙ (ap (λ (i : ℕ). get_or l i 0) same ∙ sym (inner_each k (omega (arith, both, size)) (omega (arith, both, few, size)))))

  -- as the code finds it
  module _ {limit start high : ℕ} (to : limit ≡ min (at + count) (length l)) (from : start ≡ min (at + first) limit) (until : high ≡ min (at + last) limit) where
    pub high_inside : high ≤ length l
    high_inside = let a = low (at + count) (length l) to in let b = low (at + last) limit until in omega (arith, a, b)

    pub start_inside : start ≤ length l
    start_inside = let a = low (at + count) (length l) to in let b = low (at + first) limit from in omega (arith, a, b)

    -- nothing from `limit` on
    past_limit : limit ≤ at + first → left ≡ 0
    past_limit le = let few = bytes_few at count (length l) to in left_none (min count (length l - at)) first last (omega (arith, few))

    size_back : high < start → left ≡ start - start
    size_back lt = go (ltb (at + first) limit) refl
      where
        go : (b : Bool) → ltb (at + first) limit ≡ b → left ≡ start - start
        go true q =
            let inside = ltb-true (at + first) limit q in
            let begins = min_first (at + first) limit from inside in
            left_back (min count (length l - at)) first last (turned_back at first last limit until (rw begins at lt) inside) ∙ omega arith
        go false q = past_limit (ltb-false (at + first) limit q) ∙ omega arith

    size_on : start ≤ high → left ≡ high - start
    size_on le = go (ltb (at + first) limit) refl
      where
        go : (b : Bool) → ltb (at + first) limit ≡ b → left ≡ high - start
        go true q =
            let inside = ltb-true (at + first) limit q in
            let ends = bytes_end at count (length l) to (omega arith) in
            left_some at (min count (length l - at)) first last ∙ sym (ap₂ (λ (a b : ℕ). a - b) (rw ends at until) (min_first (at + first) limit from inside))
        go false q =
            let past = ltb-false (at + first) limit q in
            let begins = min_second (at + first) limit from past in
            let most = low (at + last) limit until in
            past_limit past ∙ omega (arith, begins, most, le)

    begins_on : start < high → start ≡ at + first
    begins_on lt = let most = low (at + last) limit until in begun (at + first) limit from (omega (arith, most, lt))

    pub part_back : high < start → part l start (start - start) ≡ part (part l at count) first (last - first)
    part_back lt = part_part start_inside (size_back lt) (λ none. absurd (omega (arith, none)))

    pub part_on : start ≤ high → part l start (high - start) ≡ part (part l at count) first (last - first)
    part_on le = part_part high_inside (size_on le) begins_on

module _ (sheet : List ℕ) (node : ℕ) {c : Counts} (counted : CountsRead sheet c) {p : Places} (places : p ≡ places_of c) where
  text_low : p.text < 2 ^ 63
  text_low = let t = counted.countable in rw places (omega (arith, t))

  pub place_fits : {value r : ℕ} → NumberRead value r → Fits w64 (p.text + r)
  place_fits read = record { fits = omega (arith, text_low, read.below) }

  -- the span of a node's text
  module _ {limit first last start high : ℕ} (to : limit ≡ min p.end (length sheet)) (begins : NumberRead (start_of (nodes_of sheet c) node) first) (ends : NumberRead (end_of (nodes_of sheet c) node) last)
      (from : start ≡ min (p.text + first) limit) (until : high ≡ min (p.text + last) limit) where
    start_is : start ≡ text_byte sheet c (start_of (nodes_of sheet c) node)
    start_is = rw places at from ∙ ap₂ (λ (k l : ℕ). min (text_place c + k) l) begins.is (rw places at to)

    high_is : high ≡ text_byte sheet c (end_of (nodes_of sheet c) node)
    high_is = rw places at until ∙ ap₂ (λ (k l : ℕ). min (text_place c + k) l) ends.is (rw places at to)

    spans : {end : ℕ} → end ≡ max start high → span start end ≡ span_in sheet node
    unfolding span_of
    spans e = ap₂ span start_is (e ∙ ap₂ max start_is high_is) ∙ ap (λ (d : Counts). span_of sheet d node) counted.is

    pub span_back : high < start → span start start ≡ span_in sheet node
    span_back lt = spans (sym (max-eq_left (omega arith)))

    pub span_on : start ≤ high → span start high ≡ span_in sheet node
    span_on le = spans (sym (max-eq_right le))
