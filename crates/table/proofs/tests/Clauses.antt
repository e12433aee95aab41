-- What the tests of the check say of its rules, way by way.
use Prim.Native.Nat.{ℕ, ◌+◌, ◌-◌, ◌*◌, ◌/◌, ◌%◌, ◌≤◌, ◌<◌}
use mathlib.Core.Path.{◌≡◌, refl, sym, ◌∙◌}
use mathlib.Core.List.{List, []}
use mathlib.Core.Bool.{Bool, true, false, not, ◌&&◌, and-false}
use native.Mathlib.Omega.{arith}
use borrow.Author.Tests.{eq-eqb, ne_eqb, le-leb, lt-leb, lt-ltb, le-ltb, leb-true, leb-false, eqb-true, eqb-false}
use lib.Dec.{eqb, leb, ltb}
use lib.ListN.{length}
use Rattle.base.specs.Lists.{part, all_from}
use Rattle.scope.specs.declared.Scope.{Scope}
use Rattle.table.specs.Tables.{Tables, tables, kind_of, start_of, end_of, first_word_of, count_of, node_count, name_count, width, is_node, child_at, name_start, name_length, name_bytes}
use Rattle.table.specs.Names.{same_bytes, underscore_bytes}
use Rattle.table.specs.Rules.{within_limits, whole_records, span_ok, name_text_ok, words_ok, below_at, children_below, name_ok, scope_ok, new_name_at, names_differ}
use Rattle.table.specs.code.Passes.{head_ok, head_ok_at}
use Rattle.table.proofs.tests.Bools.{told_no, told_yes}
use Rattle.table.proofs.tests.Scan.{Scan, scan_on, scan_fails, scan_ends, all_on, all_fails}

-- ranges
module _ (start count size : ℕ) where
  pub range_past : size < start → false ≡ leb (start + count) size
  range_past h = sym (lt-leb (start + count) size (omega arith))

  pub range_in : start ≤ size → leb count (size - start) ≡ leb (start + count) size
  range_in h = go (leb count (size - start)) refl
    where
      go : (b : Bool) → leb count (size - start) ≡ b → leb count (size - start) ≡ leb (start + count) size
      go true e = e ∙ sym (le-leb (start + count) size (omega (arith, leb-true count (size - start) e)))
      go false e = e ∙ sym (lt-leb (start + count) size (omega (arith, leb-false count (size - start) e)))

-- two tests in turn
module _ (first limit count : ℕ) where
  pub one_word_in : first < limit → eqb count 0 ≡ (ltb first limit && eqb count 0)
  one_word_in h = rw (lt-ltb first limit h)

  pub one_word_out : limit ≤ first → false ≡ (ltb first limit && eqb count 0)
  one_word_out h = rw (le-ltb first limit h)

module _ (T : Tables) (n : ℕ) where
  pub node_low : n < 1 → false ≡ is_node T n
  node_low h = rw (lt-leb 1 n h)

  pub node_high : {r : Bool} → 1 ≤ n → r ≡ leb n (node_count T) → r ≡ is_node T n
  node_high h e = rw (le-leb 1 n h) e

-- the limits
module _ (T : Tables) where
  pub over_nodes : 512 < node_count T → false ≡ within_limits T
  unfolding within_limits
  over_nodes a = simp (lt-leb (node_count T) 512 a)

  pub over_children : 512 < length T.children → false ≡ within_limits T
  unfolding within_limits
  over_children a = simp (lt-leb (length T.children) 512 a, and-false)

  pub over_numbers : 256 < length T.numbers / 2 → false ≡ within_limits T
  unfolding within_limits
  over_numbers a = simp (lt-leb (length T.numbers / 2) 256 a, and-false)

  pub over_names : 128 < length T.names / 2 → false ≡ within_limits T
  unfolding within_limits
  over_names a = simp (lt-leb (length T.names / 2) 128 a, and-false)

  pub over_strings : 8192 < length T.strings → false ≡ within_limits T
  unfolding within_limits
  over_strings a = simp (lt-leb (length T.strings) 8192 a, and-false)

  pub limits_text : {r : Bool} → node_count T ≤ 512 → length T.children ≤ 512 → length T.numbers / 2 ≤ 256 → length T.names / 2 ≤ 128 → length T.strings ≤ 8192
      → r ≡ leb (length T.text) 16384 → r ≡ within_limits T
  unfolding within_limits
  limits_text a b d e f is = simp (
    le-leb (node_count T) 512 a,
    le-leb (length T.children) 512 b,
    le-leb (length T.numbers / 2) 256 d,
    le-leb (length T.names / 2) 128 e,
    le-leb (length T.strings) 8192 f,
  ) is

  pub ragged_nodes : (length T.nodes % 5 ≡ 0 → ⊥) → false ≡ whole_records T
  unfolding whole_records
  ragged_nodes a = simp (ne_eqb (length T.nodes % 5) 0 a)

  pub ragged_numbers : (length T.numbers % 2 ≡ 0 → ⊥) → false ≡ whole_records T
  unfolding whole_records
  ragged_numbers a = simp (ne_eqb (length T.numbers % 2) 0 a, and-false)

  pub whole_names : {r : Bool} → length T.nodes % 5 ≡ 0 → length T.numbers % 2 ≡ 0 → r ≡ eqb (length T.names % 2) 0 → r ≡ whole_records T
  unfolding whole_records
  whole_names a b is = simp (a, b) is

-- a name
module _ (T : Tables) (x : ℕ) {start size : ℕ} (s : start ≡ name_start T.names x) (l : size ≡ name_length T.names x) where
  pub name_short : size < 1 → false ≡ name_ok T x
  unfolding name_ok
  name_short h = simp (lt-leb 1 (name_length T.names x) (omega arith))

  pub name_long : 255 < size → false ≡ name_ok T x
  unfolding name_ok
  name_long h = simp (lt-leb (name_length T.names x) 255 (omega arith), and-false)

  pub name_spans : {r : Bool} → 1 ≤ size → size ≤ 255 → r ≡ leb (start + size) (length T.text) → r ≡ name_ok T x
  unfolding name_ok
  name_spans low high e = simp (le-leb 1 (name_length T.names x) (omega arith), le-leb (name_length T.names x) 255 (omega arith), ← s, ← l) e

-- a node's span
module _ (T : Tables) (n : ℕ) {start end : ℕ} (s : start ≡ start_of T.nodes n) (e : end ≡ end_of T.nodes n) where
  pub span_turned : end < start → false ≡ span_ok T n
  unfolding span_ok
  span_turned h = simp (lt-leb (start_of T.nodes n) (end_of T.nodes n) (omega arith))

  pub span_in_lem : {r : Bool} → start ≤ end → r ≡ leb end (length T.text) → r ≡ span_ok T n
  unfolding span_ok
  span_in_lem h is = rw (le-leb (start_of T.nodes n) (end_of T.nodes n) (omega arith), ← e) is

-- a node's children
module _ (T : Tables) (n place : ℕ) {child : ℕ} (is : child ≡ child_at T.children place) where
  pub below_not : n ≤ child → below_at T n place ≡ false
  below_not h = le-ltb (child_at T.children place) n (omega arith)

  pub below_yes : child < n → below_at T n place ≡ true
  below_yes h = lt-ltb (child_at T.children place) n (omega arith)

pub children_on : (T : Tables) (n : ℕ) {first count i child : ℕ} → Scan (below_at T n) first count i → i < count → child ≡ child_at T.children (first + i) → child < n
    → Scan (below_at T n) first count (i + 1)
children_on T n {first} {i = i} s lt is h = scan_on s lt (below_yes T n (first + i) is h)

module _ (T : Tables) (n : ℕ) {first count i : ℕ} (s : Scan (below_at T n) first count i) (f : first ≡ first_word_of T.nodes n) (w : count ≡ width T.nodes n) where
  pub children_fail : i < count → below_at T n (first + i) ≡ false → false ≡ children_below T n
  unfolding children_below
  children_fail lt e = rw (← f, ← w) (scan_fails s lt e)

  pub children_end : count ≤ i → true ≡ children_below T n
  unfolding children_below
  children_end le = rw (← f, ← w) (scan_ends s le)

-- a name node's words, as those of kind 6
module _ (T : Tables) (n : ℕ) {x : ℕ} (f : x ≡ first_word_of T.nodes n) where
  pub named_low : x < 1 → false ≡ words_ok T n 6 (first_word_of T.nodes n) (count_of T.nodes n)
  unfolding words_ok
  named_low h = simp (lt-leb 1 (first_word_of T.nodes n) (omega arith))

  pub named_high : name_count T < x → false ≡ words_ok T n 6 (first_word_of T.nodes n) (count_of T.nodes n)
  unfolding words_ok
  named_high h = simp (lt-leb (first_word_of T.nodes n) (name_count T) (omega arith), and-false)

  module _ {k : ℕ} (m : k ≡ count_of T.nodes n) where
    pub named_counted : (k ≡ 0 → ⊥) → false ≡ words_ok T n 6 (first_word_of T.nodes n) (count_of T.nodes n)
    unfolding words_ok
    named_counted h = simp (ne_eqb (count_of T.nodes n) 0 (λ e. h (m ∙ e)), and-false)

    pub named_text : {r : Bool} → k ≡ 0 → 1 ≤ x → x ≤ name_count T → r ≡ name_text_ok T n → r ≡ words_ok T n 6 (first_word_of T.nodes n) (count_of T.nodes n)
    unfolding words_ok
    named_text z low high e =
        rw (le-leb 1 (first_word_of T.nodes n) (omega arith), le-leb (first_word_of T.nodes n) (name_count T) (omega arith), eq-eqb (count_of T.nodes n) 0 (sym m ∙ z)) e

  pub text_same : {r : Bool} {own bytes : List ℕ} → own ≡ part T.text (start_of T.nodes n) (end_of T.nodes n - start_of T.nodes n)
      → bytes ≡ name_bytes T.names T.text x → r ≡ same_bytes own bytes → r ≡ name_text_ok T n
  unfolding name_text_ok
  text_same o b e = rw (← o, ← f, ← b) e

below_two : (x : ℕ) → ltb x 2 ≡ leb x 1
below_two x = go (leb x 1) refl
  where
    go : (b : Bool) → leb x 1 ≡ b → ltb x 2 ≡ leb x 1
    go true e = lt-ltb x 2 (omega (arith, leb-true x 1 e)) ∙ sym e
    go false e = le-ltb x 2 (omega (arith, leb-false x 1 e)) ∙ sym e

below_one : (x : ℕ) → ltb x 1 ≡ eqb x 0
below_one x = go (eqb x 0) refl
  where
    go : (b : Bool) → eqb x 0 ≡ b → ltb x 1 ≡ eqb x 0
    go true e = lt-ltb x 1 (omega (arith, eqb-true x 0 e)) ∙ sym e
    go false e = let ne = eqb-false x 0 e in le-ltb x 1 (omega arith) ∙ sym e

-- a node's words, by its kind
module _ (T : Tables) (n : ℕ) {kind first count : ℕ} {r : Bool} (k : kind ≡ kind_of T.nodes n) (f : first ≡ first_word_of T.nodes n) (m : count ≡ count_of T.nodes n) where
  pub words_string : kind ≡ 1 → r ≡ leb (first + count) (length T.strings) → r ≡ words_ok T n (kind_of T.nodes n) (first_word_of T.nodes n) (count_of T.nodes n)
  unfolding words_ok
  words_string e is = simp (sym k ∙ e, sym f, sym m) is

  pub words_raw : kind ≡ 2 → r ≡ leb (first + count) (length T.text) → r ≡ words_ok T n (kind_of T.nodes n) (first_word_of T.nodes n) (count_of T.nodes n)
  unfolding words_ok
  words_raw e is = simp (sym k ∙ e, sym f, sym m) is

  pub words_number : kind ≡ 3 → r ≡ (ltb first (length T.numbers / 2) && eqb count 0) → r ≡ words_ok T n (kind_of T.nodes n) (first_word_of T.nodes n) (count_of T.nodes n)
  unfolding words_ok
  words_number e is = simp (sym k ∙ e, sym f, sym m) is

  pub words_bool : kind ≡ 4 → r ≡ (ltb first 2 && eqb count 0) → r ≡ words_ok T n (kind_of T.nodes n) (first_word_of T.nodes n) (count_of T.nodes n)
  unfolding words_ok
  words_bool e is = simp (sym k ∙ e, sym f, sym m) (rw (← below_two first) is)

  pub words_null : kind ≡ 5 → r ≡ (ltb first 1 && eqb count 0) → r ≡ words_ok T n (kind_of T.nodes n) (first_word_of T.nodes n) (count_of T.nodes n)
  unfolding words_ok
  words_null e is = simp (sym k ∙ e, sym f, sym m) (rw (← below_one first) is)

  pub words_array : kind ≡ 7 → r ≡ leb (first + count) (length T.children) → r ≡ words_ok T n (kind_of T.nodes n) (first_word_of T.nodes n) (count_of T.nodes n)
  unfolding words_ok
  words_array e is = simp (sym k ∙ e, sym f, sym m) is

  pub words_set : kind ≡ 8 → r ≡ leb (first + count) (length T.children) → r ≡ words_ok T n (kind_of T.nodes n) (first_word_of T.nodes n) (count_of T.nodes n)
  unfolding words_ok
  words_set e is = simp (sym k ∙ e, sym f, sym m) is

  pub words_object : kind ≡ 9 → r ≡ leb (first + count * 2) (length T.children) → r ≡ words_ok T n (kind_of T.nodes n) (first_word_of T.nodes n) (count_of T.nodes n)
  unfolding words_ok
  words_object e is = simp (sym k ∙ e, sym f, sym m) is

  pub words_other : kind ≡ 10 → r ≡ (ltb first 1 && eqb count 0) → r ≡ words_ok T n (kind_of T.nodes n) (first_word_of T.nodes n) (count_of T.nodes n)
  unfolding words_ok
  words_other e is = simp (sym k ∙ e, sym f, sym m) (rw (← below_one first) is)

pub words_name : (nodes ch nums names strings text : List ℕ) (n : ℕ) {kind : ℕ} {r : Bool} → kind ≡ kind_of nodes n → kind ≡ 6
    → r ≡ words_ok (tables nodes [] [] names [] text) n 6 (first_word_of nodes n) (count_of nodes n)
    → r ≡ words_ok (tables nodes ch nums names strings text) n (kind_of nodes n) (first_word_of nodes n) (count_of nodes n)
unfolding words_ok name_text_ok
words_name nodes ch nums names strings text n k e is = simp (sym k ∙ e) is

pub words_none : (T : Tables) (n : ℕ) {kind : ℕ} → kind ≡ kind_of T.nodes n
    → (kind ≡ 1 → ⊥) → (kind ≡ 2 → ⊥) → (kind ≡ 3 → ⊥) → (kind ≡ 4 → ⊥) → (kind ≡ 5 → ⊥) → (kind ≡ 6 → ⊥) → (kind ≡ 7 → ⊥) → (kind ≡ 8 → ⊥) → (kind ≡ 9 → ⊥) → (kind ≡ 10 → ⊥)
    → false ≡ words_ok T n (kind_of T.nodes n) (first_word_of T.nodes n) (count_of T.nodes n)
unfolding words_ok
words_none T n k a₁ a₂ a₃ a₄ a₅ a₆ a₇ a₈ a₉ a₁₀ = rw (← k) (simp (
  ne_eqb _ _ a₁,
  ne_eqb _ _ a₂,
  ne_eqb _ _ a₃,
  ne_eqb _ _ a₄,
  ne_eqb _ _ a₅,
  ne_eqb _ _ a₆,
  ne_eqb _ _ a₇,
  ne_eqb _ _ a₈,
  ne_eqb _ _ a₉,
  ne_eqb _ _ a₁₀,
))

-- the scope
module _ (T : Tables) (s : Scope) where
  pub scope_none : s.underscore ≡ 0 → true ≡ scope_ok T s
  unfolding scope_ok
  scope_none z = simp z

  module _ (some : s.underscore ≡ 0 → ⊥) where
    pub scope_high : name_count T < s.underscore → false ≡ scope_ok T s
    unfolding scope_ok
    scope_high h = simp (ne_eqb s.underscore 0 some, lt-leb s.underscore (name_count T) h)

    pub scope_name : {r : Bool} {bytes : List ℕ} → s.underscore ≤ name_count T → bytes ≡ name_bytes T.names T.text s.underscore
        → r ≡ same_bytes bytes underscore_bytes → r ≡ scope_ok T s
    unfolding scope_ok
    scope_name h b e = rw (ne_eqb s.underscore 0 some, le-leb s.underscore (name_count T) h, ← b) e

pub names_fail : (T : Tables) {i : ℕ} {r : Bool} → Scan (new_name_at T) 0 (name_count T) i → i < name_count T → r ≡ new_name_at T i → not r ≡ true → false ≡ names_differ T
unfolding names_differ
names_fail T s lt is t = all_fails s lt is t

pub names_end : (T : Tables) {i : ℕ} → Scan (new_name_at T) 0 (name_count T) i → name_count T ≤ i → true ≡ names_differ T
unfolding names_differ
names_end T s le = scan_ends s le

-- a node but for its children
module _ (nodes ch nums names strings text : List ℕ) {k i : ℕ} (s : Scan (head_ok_at (tables nodes ch nums names strings text)) 0 k i) (lt : i < k) {a : Bool}
    (is : a ≡ span_ok (tables nodes [] [] [] [] text) (i + 1)) where
  same_span : span_ok (tables nodes [] [] [] [] text) (i + 1) ≡ span_ok (tables nodes ch nums names strings text) (i + 1)
  unfolding span_ok
  same_span = refl

  pub head_span : not a ≡ true → false ≡ all_from (head_ok_at (tables nodes ch nums names strings text)) 0 k
  unfolding head_ok
  head_span t = all_fails s lt refl (rw (told_no (is ∙ same_span) t))

  module _ (t : not a ≡ false) {b : Bool} (ws : b ≡ words_ok (tables nodes ch nums names strings text) (i + 1) (kind_of nodes (i + 1)) (first_word_of nodes (i + 1)) (count_of nodes (i + 1))) where
    pub head_words_lem : not b ≡ true → false ≡ all_from (head_ok_at (tables nodes ch nums names strings text)) 0 k
    unfolding head_ok
    head_words_lem u = all_fails s lt refl (rw (told_yes (is ∙ same_span) t, told_no ws u))

    pub head_on : not b ≡ false → Scan (head_ok_at (tables nodes ch nums names strings text)) 0 k (i + 1)
    unfolding head_ok
    head_on u = all_on s lt refl (rw (told_yes (is ∙ same_span) t, told_yes ws u))
