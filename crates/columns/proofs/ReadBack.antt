-- What is written is read back.
use Prim.Native.Nat.{ℕ, zero, suc, ◌-◌, ◌/◌, ◌%◌, ◌^◌, ◌<◌, ◌≤◌}
use mathlib.Core.Bool.{Bool, true, false, not, ◌&&◌}
use mathlib.Core.List.{List, [], ◌∷◌, ◌++◌}
use mathlib.Core.Logic.{⊎_elim}
use mathlib.Core.Path.{◌≡◌, refl, ap, ◌∙◌}
use native.Mathlib.Omega.{arith}
use borrow.Author.Tests.{lt-ltb, le-leb, leb-true, ltb-true, eqb-true, ne_eqb}
use lib.Dec.{eqb, leb, ltb}
use lib.ListN.{length, get_or, replicate}
use Rattle.literal.specs.Literal.{is_number}
use Rattle.literal.specs.Text.{digit, digits, decimal, signed}
use Rattle.literal.proofs.Decimals.{digits_one, digits_more, few_or_more, length_more, digits_length, decimal_form}
use Rattle.literal.proofs.Numbers.{number_bounds, and_true}
use Rattle.std.specs.Prelude.{Some}
use Rattle.columns.specs.Columns.{after_blanks, is_digit, all_digits, is_decimal, decimal_number, read_column, by_sign, signed_number, read_signed, justified, write_column, write_signed}
use Rattle.columns.specs.Laws.{below_word, twenty_end, ReadBack}
use Rattle.columns.proofs.write.Writing.{justified_long}

-- blanks
blanks_passed : (k : ℕ) (bs : List ℕ) → after_blanks (replicate k 32 ++ bs) ≡ after_blanks bs
unfolding after_blanks
blanks_passed zero bs = refl
blanks_passed (suc k) bs = blanks_passed k bs

blanks_end : (bs : List ℕ) → 33 ≤ get_or bs 0 0 → after_blanks bs ≡ bs
unfolding after_blanks
blanks_end [] h = refl
blanks_end (b ∷ bs) h = rw (ne_eqb b 32 (λ e. omega arith))

unjustified : (width : ℕ) (bs : List ℕ) → length bs ≤ width → 33 ≤ get_or bs 0 0 → after_blanks (justified width bs) ≡ bs
unfolding justified
unjustified width bs le h =
    let z : length bs - width ≡ 0 = omega arith in
    rw z (blanks_passed (width - length bs) bs ∙ blanks_end bs h)

-- the decimal form
all_append : (cs bs : List ℕ) → all_digits cs ≡ true → all_digits bs ≡ true → all_digits (cs ++ bs) ≡ true
unfolding all_digits
all_append [] bs p q = q
all_append (a ∷ cs) bs p q =
    let both = and_true (is_digit a) (all_digits cs) p in
    rw (both.0, all_append cs bs both.1 q)

one_digit : (d : ℕ) → d < 10 → all_digits (digit d ∷ []) ≡ true
unfolding all_digits
one_digit d lt = rw (le-leb 48 (digit d) (omega arith), le-leb (digit d) 57 (omega arith))

all_digits_lem : (k n : ℕ) → all_digits (digits k n) ≡ true
unfolding digits all_digits
all_digits_lem zero n = refl
all_digits_lem (suc k) n =
    ⊎_elim (λ few. rw (digits_one k n few) (one_digit n few))
    (λ more. rw (digits_more k n more) (all_append (digits k (n / 10)) (digit (n % 10) ∷ []) (all_digits_lem k (n / 10)) (one_digit (n % 10) (omega arith))))
    (few_or_more n)

some_digits : (n : ℕ) → 0 < length (decimal n)
some_digits n =
    ⊎_elim (λ few. omega (arith, ap length (digits_one 19 n few))) (λ more. omega (arith, length_more 19 n more)) (few_or_more n)

first_low : (ds : List ℕ) → all_digits ds ≡ true → 0 < length ds → 48 ≤ get_or ds 0 0
unfolding all_digits
first_low [] all some = absurd (omega arith)
first_low (d ∷ ds) all some = leb-true 48 d (and_true (leb 48 d) (leb d 57) (and_true (is_digit d) (all_digits ds) all).0).0

first_digit : (n : ℕ) → 48 ≤ get_or (decimal n) 0 0
first_digit n = first_low (decimal n) (all_digits_lem 20 n) (some_digits n)

front : (n : ℕ) → n < 10 ^ 20 → not (ltb 1 (length (decimal n)) && eqb (get_or (decimal n) 0 0) 48) ≡ true
front n small = go (ltb 1 (length (decimal n))) (eqb (get_or (decimal n) 0 0) 48) refl refl
  where
    go : (a b : Bool) → ltb 1 (length (decimal n)) ≡ a → eqb (get_or (decimal n) 0 0) 48 ≡ b → not (a && b) ≡ true
    go true true p q =
        let zero_is = (decimal_form n small).no_zero_in_front (eqb-true (get_or (decimal n) 0 0) 48 q) in
        let one = ap length (digits_one 19 n (omega arith)) in
        absurd (omega (arith, ltb-true 1 (length (decimal n)) p))
    go true false p q = refl
    go false b p q = refl

decimal_is : (n : ℕ) → n < 10 ^ 20 → is_decimal (decimal n) ≡ true
unfolding is_decimal
decimal_is n small = rw (lt-ltb 0 (length (decimal n)) (some_digits n), front n small, all_digits_lem 20 n)

decimal_long : (k n : ℕ) → n < 10 ^ suc k → length (decimal n) ≤ suc k
decimal_long k n small = digits_length 20 k n small

module _ (n : ℕ) (small : n < 10 ^ 6) where
  column_digits : after_blanks (write_column n) ≡ decimal n
  column_digits = unjustified 6 (decimal n) (decimal_long 5 n small) (omega (arith, first_digit n))

  column_back : read_column (write_column n) ≡ Some n
  unfolding read_column
  column_back =
      ap decimal_number column_digits ∙ rw (decimal_is n (omega arith), (decimal_form n (omega arith)).read_back)

module _ (size : ℕ) (few : size < 2 ^ 64) where
  size_back : (below : ℕ) → signed_number below (decimal size) ≡ Some (by_sign below size)
  unfolding signed_number
  size_back below = rw (decimal_is size (omega arith), (decimal_form size (omega arith)).read_back, lt-ltb size (2 ^ 64) few)

  above_back : read_signed (write_signed false size) ≡ Some (by_sign 0 size)
  unfolding read_signed
  above_back =
      let low = first_digit size in
      let e : after_blanks (write_signed false size) ≡ decimal size =
      unjustified 20 (decimal size) (decimal_long 19 size (omega arith)) (omega arith) in
      rw (e, ne_eqb (get_or (decimal size) 0 0) 45 (λ f. omega arith)) (size_back 0)

  below_back : size < 10 ^ 19 → read_signed (write_signed true size) ≡ Some (by_sign 1 size)
  unfolding read_signed
  below_back short =
      let e : after_blanks (write_signed true size) ≡ 45 ∷ decimal size =
      unjustified 20 (45 ∷ decimal size) (omega (arith, decimal_long 18 size short)) (omega arith) in
      rw e (size_back 1)

signed_back : (below : Bool) (size : ℕ) → size < twenty_end below → read_signed (write_signed below size) ≡ Some (by_sign (below_word below) size)
signed_back true size short = below_back size (omega arith) short
signed_back false size short = above_back size short

-- every allowed number is among them
pub number_back : (below : Bool) (size : ℕ) → is_number (below_word below) size ≡ true
    → read_signed (write_signed below size) ≡ Some (by_sign (below_word below) size)
number_back true size is = let low = (number_bounds 1 size is).lowest refl in signed_back true size (omega arith)
number_back false size is = signed_back false size (number_bounds 0 size is).largest

pub read_back : ReadBack
read_back = record {
  column_long = λ n. justified_long 6 (decimal n);
  column = column_back;
  signed_long = λ below size. justified_long 20 (signed below (decimal size));
  signed = signed_back;
}
