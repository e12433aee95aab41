-- Reading a column, as the code reads it.
use Prim.Native.Nat.{ℕ, suc, ◌+◌, ◌-◌, ◌*◌, ◌^◌, ◌<◌, ◌≤◌}
use mathlib.Core.Bool.{Bool, true, false, cond, not, ◌&&◌, and-false}
use mathlib.Core.List.{List, [], ◌∷◌}
use mathlib.Core.Path.{◌≡◌, refl, sym, ap, ◌∙◌}
use native.Mathlib.Numerals.{add-one}
use native.Mathlib.Omega.{arith}
use native.Mathlib.Nat.{pow-le-pow_right}
use borrow.Author.Tests.{lt-ltb, le-ltb, le-leb, lt-leb, leb-true, eq-eqb, ne_eqb}
use lib.Dec.{eqb, leb, ltb}
use lib.ListN.{length, get_or, take, drop, length-drop, drop_of_length-le}
use lib.Seq.{drop-cons, take_all}
use Rattle.literal.specs.Text.{value}
use Rattle.literal.proofs.Numbers.{and_true}
use Rattle.std.specs.Prelude.{Option, Some, None}
use Rattle.columns.specs.declared.SignedNumber.{SignedNumber}
use Rattle.columns.specs.Columns.{after_blanks, is_digit, all_digits, is_decimal, column_bytes, by_sign, signed_number, after_sign, read_signed, signed_column_at}
use Rattle.columns.specs.code.Decimals.{digits_number, read_decimal}

-- the bytes from a place on
pub drop_here : (bytes : List ℕ) (i : ℕ) → i < length bytes → drop i bytes ≡ get_or bytes i 0 ∷ drop (i + 1) bytes
drop_here bytes i lt = rw (add-one i, drop-cons bytes i 0 lt)

pub rest_whole : (bytes : List ℕ) (i : ℕ) → take (length bytes - i) (drop i bytes) ≡ drop i bytes
rest_whole bytes i = take_all (length bytes - i) (drop i bytes) (omega (arith, length-drop i bytes))

-- Blanks: what is left has the same bytes after its blanks as all.
pub record Skipping (bytes : List ℕ) (i : ℕ) : Type 0 where
  pub inside : i ≤ length bytes
  pub same : after_blanks (drop i bytes) ≡ after_blanks bytes

pub skip_start : (bytes : List ℕ) → Skipping bytes 0
skip_start bytes = record { inside = omega arith; same = refl }

module _ {bytes : List ℕ} {i : ℕ} (s : Skipping bytes i) where
  pub skip_on : i < length bytes → get_or bytes i 0 ≡ 32 → Skipping bytes (i + 1)
  unfolding after_blanks
  skip_on lt blank = record {
    inside = omega arith;
    same = rw (eq-eqb (get_or bytes i 0) 32 blank) at (rw (drop_here bytes i lt) at s.same);
  }

  pub skip_stops : i < length bytes → (get_or bytes i 0 ≡ 32 → ⊥) → take (length bytes - i) (drop i bytes) ≡ after_blanks bytes
  unfolding after_blanks
  skip_stops lt other =
      let e : after_blanks (drop i bytes) ≡ drop i bytes = rw (drop_here bytes i lt, ne_eqb (get_or bytes i 0) 32 other) in
      rest_whole bytes i ∙ (sym e ∙ s.same)

  pub skip_ends : length bytes ≤ i → take (length bytes - i) (drop i bytes) ≡ after_blanks bytes
  unfolding after_blanks
  skip_ends le = let e : drop i bytes ≡ [] = drop_of_length-le bytes le in rest_whole bytes i ∙ (e ∙ rw e at s.same)

-- Digits: what is left says, after what was read, the same as all.
pub record Reading (bytes : List ℕ) (n i : ℕ) : Type 0 where
  pub inside : i ≤ length bytes
  pub small : n < 2 ^ 64
  pub same : digits_number n (drop i bytes) ≡ digits_number 0 bytes

pub reading_start : (bytes : List ℕ) → Reading bytes 0 0
reading_start bytes = record { inside = omega arith; small = omega arith; same = refl }

value_above : (before : ℕ) (ds : List ℕ) → before ≤ value before ds
unfolding value
value_above before [] = omega arith
value_above before (d ∷ ds) = let h = value_above (before * 10 + (d - 48)) ds in omega arith

module _ (n b : ℕ) (ds : List ℕ) where
  digit_next : 48 ≤ b → b ≤ 57 → digits_number n (b ∷ ds) ≡ digits_number (n * 10 + (b - 48)) ds
  unfolding digits_number all_digits value
  digit_next low high = rw (le-leb 48 b low, le-leb b 57 high)

  digit_low : b < 48 → digits_number n (b ∷ ds) ≡ None
  unfolding digits_number all_digits value
  digit_low low = rw (lt-leb 48 b low)

  digit_high : 48 ≤ b → 57 < b → digits_number n (b ∷ ds) ≡ None
  unfolding digits_number all_digits value
  digit_high low high = rw (le-leb 48 b low, lt-leb b 57 high)

  digit_past : 18446744073709551615 < n * 10 + (b - 48) → digits_number n (b ∷ ds) ≡ None
  unfolding digits_number value
  digit_past past =
      let above = value_above (n * 10 + (b - 48)) ds in
      rw (le-ltb (value (n * 10 + (b - 48)) ds) (2 ^ 64) (omega arith), and-false (all_digits (b ∷ ds)))

module _ {bytes : List ℕ} {n i : ℕ} (r : Reading bytes n i) where
  module _ (lt : i < length bytes) where
    here : digits_number n (get_or bytes i 0 ∷ drop (i + 1) bytes) ≡ digits_number 0 bytes
    here = rw (drop_here bytes i lt) at r.same

    pub reading_low : get_or bytes i 0 < 48 → None ≡ digits_number 0 bytes
    reading_low low = sym (digit_low n (get_or bytes i 0) (drop (i + 1) bytes) low) ∙ here

    pub reading_high : 48 ≤ get_or bytes i 0 → 57 < get_or bytes i 0 → None ≡ digits_number 0 bytes
    reading_high low high = sym (digit_high n (get_or bytes i 0) (drop (i + 1) bytes) low high) ∙ here

    pub reading_past : 1844674407370955161 < n → None ≡ digits_number 0 bytes
    reading_past past = sym (digit_past n (get_or bytes i 0) (drop (i + 1) bytes) (omega arith)) ∙ here

    pub reading_large : n ≤ 1844674407370955161 → 18446744073709551615 - n * 10 < get_or bytes i 0 - 48 → None ≡ digits_number 0 bytes
    reading_large tens past = sym (digit_past n (get_or bytes i 0) (drop (i + 1) bytes) (omega arith)) ∙ here

    pub reading_on : 48 ≤ get_or bytes i 0 → get_or bytes i 0 ≤ 57 → n ≤ 1844674407370955161 → get_or bytes i 0 - 48 ≤ 18446744073709551615 - n * 10
        → Reading bytes (n * 10 + (get_or bytes i 0 - 48)) (i + 1)
    reading_on low high tens few = record {
      inside = omega arith;
      small = omega arith;
      same = sym (digit_next n (get_or bytes i 0) (drop (i + 1) bytes) low high) ∙ here;
    }

  module _ (le : length bytes ≤ i) where
    all_read : digits_number n [] ≡ digits_number 0 bytes
    all_read = let e : drop i bytes ≡ [] = drop_of_length-le bytes le in rw e at r.same

    pub reading_ends : Some n ≡ digits_number 0 bytes
    unfolding digits_number all_digits value
    reading_ends = rw (lt-ltb n (2 ^ 64) r.small) at all_read

-- the whole decimal form
module _ (bytes : List ℕ) where
  pub decimal_empty : length bytes ≡ 0 → None ≡ read_decimal bytes
  unfolding read_decimal is_decimal
  decimal_empty e = rw e

  pub decimal_one : {r : Option ℕ} → length bytes ≡ 1 → r ≡ digits_number 0 bytes → r ≡ read_decimal bytes
  unfolding read_decimal is_decimal digits_number
  decimal_one one e = rw one e

  module _ (some : length bytes ≡ 0 → ⊥) (more : length bytes ≡ 1 → ⊥) where
    pub decimal_zero : get_or bytes 0 0 ≡ 48 → None ≡ read_decimal bytes
    unfolding read_decimal is_decimal
    decimal_zero e =
        rw (lt-ltb 0 (length bytes) (omega arith), lt-ltb 1 (length bytes) (omega arith), eq-eqb (get_or bytes 0 0) 48 e)

    pub decimal_more : {r : Option ℕ} → (get_or bytes 0 0 ≡ 48 → ⊥) → r ≡ digits_number 0 bytes → r ≡ read_decimal bytes
    unfolding read_decimal is_decimal digits_number
    decimal_more other e =
        rw (lt-ltb 0 (length bytes) (omega arith), lt-ltb 1 (length bytes) (omega arith), ne_eqb (get_or bytes 0 0) 48 other) e

-- what the decimal form's answer says
pub record ReadAs (ds : List ℕ) (n : ℕ) : Type 0 where
  pub form : is_decimal ds ≡ true
  pub is : value 0 ds ≡ n
  pub few : ltb (value 0 ds) (2 ^ 64) ≡ true

pub read_as : (ds : List ℕ) (n : ℕ) → read_decimal ds ≡ Some n → ReadAs ds n
unfolding read_decimal
read_as ds n e = go (is_decimal ds) (ltb (value 0 ds) (2 ^ 64)) refl refl e
  where
    go : (a b : Bool) → is_decimal ds ≡ a → ltb (value 0 ds) (2 ^ 64) ≡ b → cond (a && b) (Some (value 0 ds)) None ≡ Some n → ReadAs ds n
    go true true p q f =
        let same : value 0 ds ≡ n = cc in
        record { form = p; is = same; few = q }
    go true false p q f = let z : ◌≡◌ {A = ℕ} 0 1 = cc in absurd (omega arith)
    go false b p q f = let z : ◌≡◌ {A = ℕ} 0 1 = cc in absurd (omega arith)

pub read_not : (ds : List ℕ) → read_decimal ds ≡ None → (is_decimal ds && ltb (value 0 ds) (2 ^ 64)) ≡ false
unfolding read_decimal
read_not ds e = go (is_decimal ds && ltb (value 0 ds) (2 ^ 64)) e
  where
    go : (b : Bool) → cond b (Some (value 0 ds)) None ≡ None → b ≡ false
    go true f = let z : ◌≡◌ {A = ℕ} 0 1 = cc in absurd (omega arith)
    go false f = refl

-- the bytes of a column
module _ (bytes : List ℕ) (at width : ℕ) where
  pub column_short : length bytes < width → [] ≡ column_bytes bytes at width
  unfolding column_bytes
  column_short lt = rw (lt-leb (at + width) (length bytes) (omega arith))

  pub column_past : width ≤ length bytes → length bytes - width < at → [] ≡ column_bytes bytes at width
  unfolding column_bytes
  column_past le lt = rw (lt-leb (at + width) (length bytes) (omega arith))

  pub column_there : width ≤ length bytes → at ≤ length bytes - width → take ((at + width) - at) (drop at bytes) ≡ column_bytes bytes at width
  unfolding column_bytes
  column_there le le' =
      let e : (at + width) - at ≡ width = omega arith in
      rw (le-leb (at + width) (length bytes) (omega arith), e)

pub blanks_few : (bytes : List ℕ) → length (after_blanks bytes) ≤ length bytes
unfolding after_blanks
blanks_few [] = omega arith
blanks_few (b ∷ bs) = go (eqb b 32) (blanks_few bs)
  where
    go : (blank : Bool) → length (after_blanks bs) ≤ length bs → length (cond blank (after_blanks bs) (b ∷ bs)) ≤ suc (length bs)
    go true h = omega arith
    go false h = omega arith

-- so many digits say a number below that power of ten
value_below : (before k m : ℕ) (ds : List ℕ) → all_digits ds ≡ true → before < 10 ^ k → k + length ds ≤ m → value before ds < 10 ^ m
unfolding all_digits value
value_below before k m [] all lt le = let p : 10 ^ k ≤ 10 ^ m = pow-le-pow_right (omega arith) (omega arith) in omega arith
value_below before k m (d ∷ ds) all lt le =
    let both = and_true (is_digit d) (all_digits ds) all in
    let high = leb-true d 57 (and_true (leb 48 d) (leb d 57) both.0).1 in
    value_below (before * 10 + (d - 48)) (suc k) m ds both.1 (omega arith) (omega arith)

pub decimal_below : (m : ℕ) (ds : List ℕ) → is_decimal ds ≡ true → length ds ≤ m → value 0 ds < 10 ^ m
unfolding is_decimal
decimal_below m ds form le =
    let more = (and_true (ltb 0 (length ds)) (not (ltb 1 (length ds) && eqb (get_or ds 0 0) 48) && all_digits ds) form).1 in
    let all = (and_true (not (ltb 1 (length ds) && eqb (get_or ds 0 0) 48)) (all_digits ds) more).1 in
    value_below 0 0 m ds all (omega arith) (omega arith)

-- columns of twenty
module _ (below : ℕ) (ds : List ℕ) {d : Option ℕ} (is : d ≡ read_decimal ds) where
  pub signed_number_lem : {n : ℕ} → d ≡ Some n → Some (by_sign below n) ≡ signed_number below ds
  unfolding signed_number
  signed_number_lem {n} e =
      let r = read_as ds n (sym is ∙ e) in
      rw (r.form, r.few, r.is)

  pub signed_none : d ≡ None → None ≡ signed_number below ds
  unfolding signed_number
  signed_none e = rw (read_not ds (sym is ∙ e))

module _ (bytes : List ℕ) (at : ℕ) {column number : List ℕ} (fours : List ℕ) (there : column ≡ column_bytes bytes at 20) (same : after_blanks fours ≡ after_blanks column) (skipped : number ≡ after_blanks fours) where
  is_number : number ≡ after_blanks (column_bytes bytes at 20)
  is_number = rw there at (skipped ∙ same)

  pub twenty_empty : length number ≡ 0 → None ≡ signed_column_at bytes at
  unfolding read_signed signed_number is_decimal
  twenty_empty e = rw (← is_number) (go number e)
    where
      go : (ds : List ℕ) → length ds ≡ 0 → None ≡ after_sign (eqb (get_or ds 0 0) 45) ds
      go [] e = refl
      go (d ∷ ds) e = absurd (omega arith)

  pub twenty_minus : {r : Option SignedNumber} → get_or number 0 0 ≡ 45 → r ≡ signed_number 1 (take (length number - 1) (drop 1 number)) → r ≡ signed_column_at bytes at
  unfolding read_signed
  twenty_minus minus e = rw (← is_number, eq-eqb (get_or number 0 0) 45 minus) (e ∙ ap (signed_number 1) (rest_whole number 1))

  pub twenty_plain : {r : Option SignedNumber} → (get_or number 0 0 ≡ 45 → ⊥) → r ≡ signed_number 0 number → r ≡ signed_column_at bytes at
  unfolding read_signed
  twenty_plain plain e = rw (← is_number, ne_eqb (get_or number 0 0) 45 plain) e
