-- The words of the tables, as the readers find them.
use Prim.Native.Nat.{ℕ, ◌+◌, ◌-◌, ◌*◌, ◌^◌, ◌≤◌, ◌<◌}
use mathlib.Core.Path.{◌≡◌, sym, ◌∙◌}
use mathlib.Core.List.{List}
use native.Mathlib.Omega.{arith}
use native.Mathlib.Nat.{mul-le-mul}
use borrow.Author.Tests.{ne_eqb}
use lib.ListN.{length, get_or, take, drop, length-drop, drop_of_length-le, get_or-eq_default}
use lib.Seq.{take_all, take-nil}
use mir.Val.{Fits}
use mir.Syntax.{w64}
use Rattle.base.specs.Lists.{part}
use Rattle.literal.specs.declared.LiteralRef.TheVariants.{Null, False, True, Number, String, RawString}
use Rattle.table.specs.declared.Key.TheVariants.{Literal, Computed}
use Rattle.table.specs.Tables.{record_word, kind_of, start_of, end_of, first_word_of, count_of, name_start, name_length, name_bytes, width_of, width, child_at}
use Rattle.table.specs.Decode.{ref_of}
use Rattle.table.proofs.trees.Trees.{width_array, width_set, width_object, width_leaf}

-- records are of at most five words
module _ (size k n : ℕ) (small : size ≤ 5) (below : n < 2 ^ 32) where
  scaled : (n - 1) * size ≤ 2 ^ 32 * 5
  scaled = let h : n - 1 ≤ 2 ^ 32 = omega arith in mul-le-mul h small

  pub word_place : Fits w64 ((n - 1) * size)
  word_place = let h = scaled in record { fits = omega arith }

  pub word_place_on : k < 5 → Fits w64 ((n - 1) * size + k)
  word_place_on lt = let h = scaled in record { fits = omega arith }

module _ (size k n : ℕ) (words : List ℕ) where
  pub word_none : n ≡ 0 → 0 ≡ record_word size k words n
  unfolding record_word
  word_none e = simp e

  module _ (some : n ≡ 0 → ⊥) where
    pub word_at : get_or words ((n - 1) * size + k) 0 ≡ record_word size k words n
    unfolding record_word
    word_at = simp (ne_eqb n 0 some)

    pub word_past : length words ≤ (n - 1) * size + k → 0 ≡ record_word size k words n
    unfolding record_word
    word_past past = simp (ne_eqb n 0 some, get_or-eq_default words 0 past)

pub word_here : (i k : ℕ) (words : List ℕ) → get_or words (i * 5 + k) 0 ≡ record_word 5 k words (i + 1)
word_here i k words = let e : i + 1 - 1 ≡ i = omega arith in rw e at (word_at 5 k (i + 1) words (λ z. omega arith))

pub child_past : (children : List ℕ) (place : ℕ) → length children ≤ place → 0 ≡ child_at children place
child_past children place past = sym (get_or-eq_default children 0 past)

-- a node's child entries, by its kind
module _ (kind count : ℕ) where
  pub wide_object : kind ≡ 9 → count * 2 ≡ width_of kind count
  wide_object e = sym (width_object kind count e)

  pub wide_array : kind ≡ 7 → count ≡ width_of kind count
  wide_array e = sym (width_array kind count e)

  pub wide_set : kind ≡ 8 → count ≡ width_of kind count
  wide_set e = sym (width_set kind count e)

  pub wide_leaf : (kind ≡ 9 → ⊥) → (kind ≡ 7 → ⊥) → (kind ≡ 8 → ⊥) → 0 ≡ width_of kind count
  wide_leaf a b d = sym (width_leaf kind count b d a)

pub width_by : (nodes : List ℕ) (n : ℕ) {kind count r : ℕ} → kind ≡ kind_of nodes n → count ≡ count_of nodes n → r ≡ width_of kind count → r ≡ width nodes n
width_by nodes n k m is = rw (← k, ← m) is

-- ranges of bytes
module _ (bytes : List ℕ) (start count : ℕ) where
  pub part_none : length bytes < start → take 0 (drop 0 bytes) ≡ part bytes start count
  part_none past = let e = drop_of_length-le bytes {i = start} (omega arith) in rw e (sym (take-nil count))

  pub part_rest : length bytes - start < count → take (length bytes - start) (drop start bytes) ≡ part bytes start count
  part_rest short =
      let l = length-drop start bytes in
      take_all (length bytes - start) (drop start bytes) (omega arith) ∙ sym (take_all count (drop start bytes) (omega arith))

  pub part_whole : take (start + count - start) (drop start bytes) ≡ part bytes start count
  part_whole = let e : start + count - start ≡ count = omega arith in rw e

module _ (names text bytes : List ℕ) (x start size : ℕ) where
  pub name_part : start ≡ name_start names x → size ≡ name_length names x → bytes ≡ part text start size → bytes ≡ name_bytes names text x
  unfolding name_bytes
  name_part s l e = rw (← s, ← l) e

pub text_none : (bytes text : List ℕ) (start end : ℕ) → end < start → bytes ≡ part text start 0 → bytes ≡ part text start (end - start)
text_none bytes text start end lt is = let z : end - start ≡ 0 = omega arith in rw z is

pub text_part : (nodes text bytes : List ℕ) (n start end : ℕ) → start ≡ start_of nodes n → end ≡ end_of nodes n
    → bytes ≡ part text start (end - start) → bytes ≡ part text (start_of nodes n) (end_of nodes n - start_of nodes n)
text_part nodes text bytes n start end s e is = rw (← s, ← e) is

-- the literal of a node, by its kind
module _ (nodes : List ℕ) (n : ℕ) {kind first count : ℕ} (k : kind ≡ kind_of nodes n) (f : first ≡ first_word_of nodes n) (m : count ≡ count_of nodes n) where
  pub ref_string : kind ≡ 1 → Literal (String first count) ≡ ref_of nodes n
  unfolding ref_of
  ref_string e = simp (sym k ∙ e, f, m)

  pub ref_raw : kind ≡ 2 → Literal (RawString first count) ≡ ref_of nodes n
  unfolding ref_of
  ref_raw e = simp (sym k ∙ e, f, m)

  pub ref_number : kind ≡ 3 → Literal (Number first) ≡ ref_of nodes n
  unfolding ref_of
  ref_number e = simp (sym k ∙ e, f)

  pub ref_false : kind ≡ 4 → first ≡ 0 → Literal False ≡ ref_of nodes n
  unfolding ref_of
  ref_false e z = simp (sym k ∙ e, sym f ∙ z)

  pub ref_true : kind ≡ 4 → (first ≡ 0 → ⊥) → Literal True ≡ ref_of nodes n
  unfolding ref_of
  ref_true e z = simp (sym k ∙ e, ne_eqb (first_word_of nodes n) 0 (λ h. z (f ∙ h)))

  pub ref_null : kind ≡ 5 → Literal Null ≡ ref_of nodes n
  unfolding ref_of
  ref_null e = simp (sym k ∙ e)

  pub ref_none : (kind ≡ 1 → ⊥) → (kind ≡ 2 → ⊥) → (kind ≡ 3 → ⊥) → (kind ≡ 4 → ⊥) → (kind ≡ 5 → ⊥) → Computed ≡ ref_of nodes n
  unfolding ref_of
  ref_none a b d e g = simp (
    ne_eqb _ _ (λ h. a (k ∙ h)),
    ne_eqb _ _ (λ h. b (k ∙ h)),
    ne_eqb _ _ (λ h. d (k ∙ h)),
    ne_eqb _ _ (λ h. e (k ∙ h)),
    ne_eqb _ _ (λ h. g (k ∙ h)),
  )
