-- The tests of one node, and of a rule's number.
use Prim.Native.Nat.{ℕ, ◌+◌, ◌-◌, ◌*◌, ◌/◌, ◌≤◌, ◌<◌}
use mathlib.Core.Path.{◌≡◌}
use mathlib.Core.Bool.{Bool, true, false, cond, ◌&&◌, and-false}
use mathlib.Core.List.{List, []}
use native.Mathlib.Omega.{arith}
use borrow.Author.Tests.{eq-eqb, ne_eqb, le-leb, lt-leb, le-ltb, lt-ltb}
use lib.Dec.{eqb, leb, ltb}
use lib.ListN.{length, get_or-eq_default}
use Rattle.base.specs.Refusal.{over_limit, breaks_rules, too_deep, equal_names}
use Rattle.table.specs.Tables.{Tables, tables, kind_of, first_word_of, count_of, name_count}
use Rattle.table.specs.Rules.{name_text_ok}
use Rattle.table_fault.specs.Rules.{kind_listed, unused_zero, range_ok, mark_ok_at}
use Rattle.table_fault.specs.code.Asking.{first_by, places_by, refusal_by, share}

pub kind_low : (kind : ℕ) → kind < 1 → false ≡ kind_listed kind
kind_low kind h = rw (lt-leb 1 kind h)

pub kind_high : (kind : ℕ) → 1 ≤ kind → leb kind 10 ≡ kind_listed kind
kind_high kind h = rw (le-leb 1 kind h)

pub both_first : (first count : ℕ) → first ≡ 0 → eqb count 0 ≡ (eqb first 0 && eqb count 0)
both_first first count e = rw (eq-eqb first 0 e)

pub both_not : (first count : ℕ) → (first ≡ 0 → ⊥) → false ≡ (eqb first 0 && eqb count 0)
both_not first count ne = rw (ne_eqb first 0 ne)

pub name_low : (x k : ℕ) → x < 1 → false ≡ (leb 1 x && leb x k)
name_low x k h = rw (lt-leb 1 x h)

pub name_high : (x k : ℕ) → 1 ≤ x → leb x k ≡ (leb 1 x && leb x k)
name_high x k h = rw (le-leb 1 x h)

module _ (kind first count : ℕ) where
  pub unused_number : kind ≡ 3 → eqb count 0 ≡ unused_zero kind first count
  unfolding unused_zero
  unused_number e = rw e

  pub unused_bool : kind ≡ 4 → eqb count 0 ≡ unused_zero kind first count
  unfolding unused_zero
  unused_bool e = rw e

  pub unused_name : kind ≡ 6 → eqb count 0 ≡ unused_zero kind first count
  unfolding unused_zero
  unused_name e = rw e

  pub unused_null : {r : Bool} → kind ≡ 5 → r ≡ (eqb first 0 && eqb count 0) → r ≡ unused_zero kind first count
  unfolding unused_zero
  unused_null e is = rw e is

  pub unused_other : {r : Bool} → kind ≡ 10 → r ≡ (eqb first 0 && eqb count 0) → r ≡ unused_zero kind first count
  unfolding unused_zero
  unused_other e is = rw e is

  pub unused_none : (kind ≡ 3 → ⊥) → (kind ≡ 4 → ⊥) → (kind ≡ 6 → ⊥) → (kind ≡ 5 → ⊥) → (kind ≡ 10 → ⊥) → true ≡ unused_zero kind first count
  unfolding unused_zero
  unused_none a b d e f = simp (ne_eqb _ _ a, ne_eqb _ _ b, ne_eqb _ _ d, ne_eqb _ _ e, ne_eqb _ _ f)

-- a node's range, by its kind
module _ (T : Tables) (n : ℕ) {kind first count : ℕ} (k : kind ≡ kind_of T.nodes n) (f : first ≡ first_word_of T.nodes n) (m : count ≡ count_of T.nodes n) where
  abbrev range : Bool
  range = range_ok T (kind_of T.nodes n) (first_word_of T.nodes n) (count_of T.nodes n)

  by_kind : {r : Bool} → r ≡ range_ok T kind first count → r ≡ range
  by_kind is = rw (← k, ← f, ← m) is

  module _ {r : Bool} where
    pub range_string : kind ≡ 1 → r ≡ leb (first + count) (length T.strings) → r ≡ range
    unfolding range_ok
    range_string e is = by_kind (rw e is)

    pub range_raw : kind ≡ 2 → r ≡ leb (first + count) (length T.text) → r ≡ range
    unfolding range_ok
    range_raw e is = by_kind (rw e is)

    pub range_number : kind ≡ 3 → r ≡ ltb first (length T.numbers / 2) → r ≡ range
    unfolding range_ok
    range_number e is = by_kind (rw e is)

    pub range_bool : kind ≡ 4 → r ≡ leb first 1 → r ≡ range
    unfolding range_ok
    range_bool e is = by_kind (rw e is)

    pub range_name : kind ≡ 6 → r ≡ (leb 1 first && leb first (name_count T)) → r ≡ range
    unfolding range_ok
    range_name e is = by_kind (rw e is)

    pub range_array : kind ≡ 7 → r ≡ leb (first + count) (length T.children) → r ≡ range
    unfolding range_ok
    range_array e is = by_kind (rw e is)

    pub range_set : kind ≡ 8 → r ≡ leb (first + count) (length T.children) → r ≡ range
    unfolding range_ok
    range_set e is = by_kind (rw e is)

    pub range_object : kind ≡ 9 → r ≡ leb (first + count * 2) (length T.children) → r ≡ range
    unfolding range_ok
    range_object e is = by_kind (rw e is)

  pub range_none : (kind ≡ 1 → ⊥) → (kind ≡ 2 → ⊥) → (kind ≡ 3 → ⊥) → (kind ≡ 4 → ⊥) → (kind ≡ 6 → ⊥) → (kind ≡ 7 → ⊥) → (kind ≡ 8 → ⊥) → (kind ≡ 9 → ⊥) → true ≡ range
  unfolding range_ok
  range_none a₁ a₂ a₃ a₄ a₆ a₇ a₈ a₉ =
      by_kind (simp (ne_eqb _ _ a₁, ne_eqb _ _ a₂, ne_eqb _ _ a₃, ne_eqb _ _ a₄, ne_eqb _ _ a₆, ne_eqb _ _ a₇, ne_eqb _ _ a₈, ne_eqb _ _ a₉))

-- a name node's text
module _ (nodes names text : List ℕ) (n : ℕ) {kind : ℕ} (k : kind ≡ kind_of nodes n) where
  abbrev text_ok : Bool
  text_ok = cond (eqb (kind_of nodes n) 6) (name_text_ok (tables nodes [] [] names [] text) n) true

  pub text_name : {r : Bool} {j : ℕ} → 1 ≤ n → j ≡ n - 1 → kind ≡ 6 → r ≡ name_text_ok (tables nodes [] [] names [] text) (j + 1) → r ≡ text_ok
  text_name {j = j} low at e is = let z : j + 1 ≡ n = omega arith in rw (← k, e, ← z) is

  pub text_other : (kind ≡ 6 → ⊥) → true ≡ text_ok
  text_other ne = rw (← k, ne_eqb kind 6 ne)

-- a mark
module _ (marks : List ℕ) (i : ℕ) where
  pub mark_none : length marks ≤ i → true ≡ mark_ok_at marks i
  mark_none le = rw (get_or-eq_default marks 0 le)

-- a rule's first place, and its refusal
module _ (rule : ℕ) where
  pub first_zero : rule ≤ 9 → 0 ≡ first_by rule
  first_zero le = rw (le-leb rule 9 le)

  pub first_one : 9 < rule → 1 ≡ first_by rule
  first_one lt = rw (lt-leb rule 9 lt)

  pub refuses_limit : rule ≤ 6 → over_limit ≡ refusal_by rule
  refuses_limit le = rw (le-leb rule 6 le)

  module _ (lt : 6 < rule) where
    pub refuses_deep : rule ≡ 22 → too_deep ≡ refusal_by rule
    refuses_deep e = simp (lt-leb rule 6 lt, eq-eqb rule 22 e)

    module _ (a : rule ≡ 22 → ⊥) where
      pub refuses_names : rule ≡ 23 → equal_names ≡ refusal_by rule
      refuses_names e = simp (lt-leb rule 6 lt, ne_eqb rule 22 a, eq-eqb rule 23 e)

      pub refuses_rules : (rule ≡ 23 → ⊥) → breaks_rules ≡ refusal_by rule
      refuses_rules b = simp (lt-leb rule 6 lt, ne_eqb rule 22 a, ne_eqb rule 23 b)

-- two ranges
module _ (first count other size : ℕ) where
  pub share_none : count ≡ 0 → false ≡ share first count other size
  unfolding share
  share_none e = rw e

  pub share_no_other : size ≡ 0 → false ≡ share first count other size
  unfolding share
  share_no_other e = simp (e, and-false)

  module _ (some : count ≡ 0 → ⊥) (more : size ≡ 0 → ⊥) where
    pub share_before : first + count ≤ other → false ≡ share first count other size
    unfolding share
    share_before le = simp (le-ltb other (first + count) le, and-false)

    pub share_last : other < first + count → ltb first (other + size) ≡ share first count other size
    unfolding share
    share_last lt = rw (lt-ltb 0 count (omega arith), lt-ltb 0 size (omega arith), lt-ltb other (first + count) lt)

-- how many places a rule has
module _ (nodes ch nums names : List ℕ) (rule : ℕ) where
  abbrev places : ℕ
  places = places_by (tables nodes ch nums names [] []) rule

  pub places_whole : rule ≤ 9 → 1 ≡ places
  unfolding places_by
  places_whole le = rw (le-leb rule 9 le)

  pub places_named : rule ≡ 10 → length names / 2 ≡ places
  unfolding places_by
  places_named e = rw e

  pub places_numbered : rule ≡ 11 → length nums / 2 ≡ places
  unfolding places_by
  places_numbered e = rw e

  pub places_entries : rule ≡ 12 → length ch ≡ places
  unfolding places_by
  places_entries e = rw e

  pub places_twice : rule ≡ 19 → length ch ≡ places
  unfolding places_by
  places_twice e = rw e

  pub places_marked : rule ≡ 21 → 128 ≡ places
  unfolding places_by
  places_marked e = rw e

  pub places_equal : rule ≡ 23 → length names / 2 ≡ places
  unfolding places_by
  places_equal e = rw e

  pub places_nodes : 9 < rule → (rule ≡ 10 → ⊥) → (rule ≡ 11 → ⊥) → (rule ≡ 12 → ⊥) → (rule ≡ 19 → ⊥) → (rule ≡ 21 → ⊥) → (rule ≡ 23 → ⊥) → length nodes / 5 ≡ places
  unfolding places_by
  places_nodes lt a₁₀ a₁₁ a₁₂ a₁₉ a₂₁ a₂₃ =
      simp (lt-leb rule 9 lt, ne_eqb _ _ a₁₀, ne_eqb _ _ a₁₁, ne_eqb _ _ a₁₂, ne_eqb _ _ a₁₉, ne_eqb _ _ a₂₁, ne_eqb _ _ a₂₃)
