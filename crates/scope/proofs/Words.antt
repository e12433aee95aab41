-- Words that are put together bit by bit, from marks.
use Prim.Native.Nat.{ℕ, zero, suc, ◌+◌, ◌-◌, ◌*◌, ◌/◌, ◌%◌, ◌^◌, ◌≤◌, ◌<◌}
use mathlib.Core.Path.{◌≡◌, refl, sym, ap, ap₂, ◌∙◌}
use mathlib.Core.Bool.{Bool, true, false, ◌&&◌, and-true, and_assoc, and-eq-true_iff}
use mathlib.Core.List.{List}
use native.Mathlib.Omega.{arith}
use native.Mathlib.Nat.{pow-suc, lt_of_lt_of_le}
use borrow.Author.Tests.{eqb-true, leb-true, leb-false}
use lib.Dec.{eqb, leb}
use lib.Pow.{pow_mono}
use mir.Syntax.{w64}
use mir.Val.{Fits}
use Rattle.base.specs.Lists.{all_from}
use Rattle.scope.specs.Names.{is_name, contains}
use Rattle.scope.specs.Bytes.{word_from, mark_bit, unmarked, marked}
use Rattle.scope.specs.Agreement.{Words}
use Rattle.scope.proofs.Bits.{digit, digit_low, digit_high}
use Rattle.scope.proofs.Sets.{name_positive, name_most}

module _ (f : ℕ → ℕ) (bit : (i : ℕ) → f i < 2) where
  pub word_bounded : (from n : ℕ) → word_from f from n < 2 ^ n
  unfolding word_from
  word_bounded from zero = omega arith
  word_bounded from (suc n) =
      let p : 2 ^ suc n ≡ 2 ^ n * 2 = pow-suc 2 n in
      let h = word_bounded (suc from) n in
      let b = bit from in
      omega arith

  pub word_digit : (from n k : ℕ) → k < n → digit (word_from f from n) k ≡ f (from + k)
  unfolding word_from
  word_digit from zero k lt = absurd (omega arith)
  word_digit from (suc n) zero lt =
      let b = bit from in
      let e : from ≡ from + 0 = omega arith in
      let low : (f from + word_from f (suc from) n * 2) % 2 ≡ f from = omega arith in
      digit_low (f from + word_from f (suc from) n * 2) ∙ low ∙ ap f e
  word_digit from (suc n) (suc k) lt =
      let b = bit from in
      let e : suc from + k ≡ from + suc k = omega arith in
      let high : (f from + word_from f (suc from) n * 2) / 2 ≡ word_from f (suc from) n = omega arith in
      digit_high (f from + word_from f (suc from) n * 2) k ∙ ap (λ (m : ℕ). digit m k) high ∙ word_digit (suc from) n k (omega arith) ∙ ap f e

-- the bits of the marks
module _ (ms : List ℕ) (place : ℕ) where
  mark_two : (i : ℕ) → mark_bit ms place i < 2
  mark_two i = omega arith

  pub marked_words : Words (marked ms place)
  unfolding marked
  marked_words = record { low = word_bounded (mark_bit ms place) mark_two 0 64; high = word_bounded (mark_bit ms place) mark_two 64 64 }

  pub marked_contains : (x : ℕ) → is_name x ≡ true → contains (marked ms place) x ≡ eqb (mark_bit ms place (x - 1)) 1
  unfolding contains marked
  marked_contains x is = go (leb x 64) refl
    where
      go : (b : Bool) → leb x 64 ≡ b → contains (marked ms place) x ≡ eqb (mark_bit ms place (x - 1)) 1
      go true e =
          let p = name_positive x is in
          let le = leb-true x 64 e in
          let z : 0 + (x - 1) ≡ x - 1 = omega arith in
          simp (is, e) (ap (λ (n : ℕ). eqb n 1) (word_digit (mark_bit ms place) mark_two 0 64 (x - 1) (omega arith) ∙ ap (mark_bit ms place) z))
      go false e =
          let p = name_most x is in
          let le = leb-false x 64 e in
          let z : 64 + (x - 65) ≡ x - 1 = omega arith in
          simp (is, e) (ap (λ (n : ℕ). eqb n 1) (word_digit (mark_bit ms place) mark_two 64 64 (x - 65) (omega arith) ∙ ap (mark_bit ms place) z))

-- The marks from `from + left` on are in the word.
pub record Packing (f : ℕ → ℕ) (from left word : ℕ) : Type 0 where
  pub inside : left ≤ 64
  pub is : word ≡ word_from f (from + left) (64 - left)

pub packing_start : (f : ℕ → ℕ) (from : ℕ) → Packing f from 64 0
unfolding word_from
packing_start f from = record { inside = omega arith; is = refl }

module _ {f : ℕ → ℕ} {from left word : ℕ} (go : Packing f from left word) where
  pub packing_on : {bit : ℕ} → 0 < left → bit ≡ f (from + (left - 1)) → Packing f from (left - 1) (word * 2 + bit)
  unfolding word_from
  packing_on {bit} lt e =
      let le = go.inside in
      let a : 64 - (left - 1) ≡ suc (64 - left) = omega arith in
      let b : suc (from + (left - 1)) ≡ from + left = omega arith in
      let w = go.is in
      let step : word_from f (from + (left - 1)) (64 - (left - 1)) ≡ f (from + (left - 1)) + word_from f (from + left) (64 - left) * 2 =
      ap (word_from f (from + (left - 1))) a ∙ ap (λ (k : ℕ). f (from + (left - 1)) + word_from f k (64 - left) * 2) b in
      record { inside = omega arith; is = omega arith }

  pub packing_ends : left ≤ 0 → word ≡ word_from f from 64
  packing_ends le =
      let a : from + left ≡ from = omega arith in
      let b : 64 - left ≡ 64 = omega arith in
      go.is ∙ ap₂ (word_from f) a b

-- The first i of 64 marks tell, with the rest, whether none is marked.
pub record Unmarked (f : ℕ → ℕ) (from : ℕ) (none : Bool) (i : ℕ) : Type 0 where
  pub inside : i ≤ 64
  pub same : (none && all_from (λ k. eqb (f k) 0) (from + i) (64 - i)) ≡ all_from (λ k. eqb (f k) 0) from 64

pub unmarked_start : (f : ℕ → ℕ) (from : ℕ) → Unmarked f from true 0
unmarked_start f from =
    let e : from + 0 ≡ from = omega arith in
    record { inside = omega arith; same = ap (λ (k : ℕ). all_from (λ k. eqb (f k) 0) k 64) e }

module _ {f : ℕ → ℕ} {from i : ℕ} {none : Bool} (go : Unmarked f from none i) where
  pub unmarked_on : {bit : ℕ} → i < 64 → bit ≡ f (from + i) → Unmarked f from (none && eqb bit 0) (i + 1)
  unfolding all_from
  unmarked_on {bit} lt e =
      let p : ℕ → Bool = λ k. eqb (f k) 0 in
      let a : 64 - i ≡ suc (64 - (i + 1)) = omega arith in
      let b : from + i + 1 ≡ from + (i + 1) = omega arith in
      let step : all_from p (from + i) (64 - i) ≡ (eqb bit 0 && all_from p (from + (i + 1)) (64 - (i + 1))) =
      ap (all_from p (from + i)) a ∙ ap (λ (k : ℕ). eqb (f (from + i)) 0 && all_from p k (64 - (i + 1))) b
      ∙ ap (λ (k : ℕ). eqb k 0 && all_from p (from + (i + 1)) (64 - (i + 1))) (sym e) in
      record { inside = omega arith; same = and_assoc none (eqb bit 0) _ ∙ rw step at go.same }

  unmarked_told : 64 ≤ i → none ≡ all_from (λ k. eqb (f k) 0) from 64
  unfolding all_from
  unmarked_told le =
      let a : 64 - i ≡ 0 = omega arith in
      sym (and-true none) ∙ ap (λ (k : ℕ). none && all_from (λ k. eqb (f k) 0) (from + i) k) (sym a) ∙ go.same

pub unmarked_ends : (ms : List ℕ) (place : ℕ) {from i : ℕ} {none : Bool} → Unmarked (mark_bit ms place) from none i → 64 ≤ i → none ≡ all_from (unmarked ms place) from 64
unmarked_ends ms place go le = unmarked_told go le

unmarked_word : (f : ℕ → ℕ) (from n : ℕ) → all_from (λ i. eqb (f i) 0) from n ≡ true → word_from f from n ≡ 0
unfolding word_from all_from
unmarked_word f from zero ok = refl
unmarked_word f from (suc n) ok =
    let both = (and-eq-true_iff (eqb (f from) 0) _).0 ok in
    let e = eqb-true (f from) 0 both.0 in
    let one : from + 1 ≡ suc from = omega arith in
    let rest : word_from f (suc from) n ≡ 0 = ap (λ (k : ℕ). word_from f k n) (sym one) ∙ unmarked_word f (from + 1) n both.1 in
    omega arith

pub no_word : (ms : List ℕ) (place from : ℕ) {r : Bool} → r ≡ all_from (unmarked ms place) from 64 → r ≡ true → 0 ≡ word_from (mark_bit ms place) from 64
no_word ms place from is t = sym (unmarked_word (mark_bit ms place) from 64 (sym is ∙ t))

-- a word has space for one bit more
module _ (ms : List ℕ) (place : ℕ) {from left word : ℕ} (go : Packing (mark_bit ms place) from left word) (lt : 0 < left) where
  packing_room : word < 2 ^ 63
  packing_room =
      let le = go.inside in
      rw go.is (lt_of_lt_of_le (word_bounded (mark_bit ms place) (mark_two ms place) (from + left) (64 - left)) (pow_mono {i = 64 - left} {j = 63} (omega arith)))

  pub double_fits : Fits w64 (word * 2)
  double_fits = record { fits = omega (arith, packing_room) }

  pub bit_fits : {bit : ℕ} → bit < 2 → Fits w64 (word * 2 + bit)
  bit_fits below = record { fits = omega (arith, packing_room) }
