-- Columns of six, as the code reads them.
use Prim.Native.Nat.{ℕ, ◌+◌, ◌-◌, ◌*◌, ◌/◌, ◌^◌, ◌<◌, ◌≤◌}
use mathlib.Core.Bool.{Bool, true, false, cond, not, ◌&&◌, and-false}
use mathlib.Core.List.{List, [], ◌∷◌}
use mathlib.Core.Path.{◌≡◌, refl, sym, ap, ◌∙◌}
use native.Mathlib.Omega.{arith}
use borrow.Author.Tests.{le-leb, lt-leb, leb-true, ltb-false, eq-eqb, ne_eqb, eqb-true, eqb-false, not-false}
use lib.Dec.{eqb, leb, ltb}
use lib.ListN.{length, get_or, take, drop, length-drop}
use lib.Seq.{length-take-le}
use mir.Syntax.{w8, w32}
use mir.Val.{Fits}
use Rattle.literal.specs.Text.{value}
use Rattle.literal.proofs.Numbers.{and_true}
use Rattle.std.specs.Prelude.{Option, Some, None}
use Rattle.columns.specs.Columns.{after_blanks, is_digit, all_digits, is_decimal, decimal_number, read_column, six_column, column_bytes, column_at}
use Rattle.columns.specs.code.Decimals.{read_decimal, are_blank}
use Rattle.columns.proofs.read.Reading.{Skipping, skip_on, rest_whole, read_as, read_not, column_there, blanks_few, decimal_below}

-- four blanks as one number
module _ (a b c d : ℕ) where
  pub are-blank : Fits w8 a → Fits w8 b → Fits w8 c → Fits w8 d → eqb (a + b * 256 + c * 65536 + d * 16777216) 538976288 ≡ are_blank a b c d
  are-blank fa fb fc fd = go (eqb a 32) (eqb b 32) (eqb c 32) (eqb d 32) refl refl refl refl
    where
      go : (p q r s : Bool) → eqb a 32 ≡ p → eqb b 32 ≡ q → eqb c 32 ≡ r → eqb d 32 ≡ s
          → eqb (a + b * 256 + c * 65536 + d * 16777216) 538976288 ≡ p && (q && (r && s))
      go true true true true e f g h =
          let e' = eqb-true a 32 e in
          let f' = eqb-true b 32 f in
          let g' = eqb-true c 32 g in
          let h' = eqb-true d 32 h in
          eq-eqb (a + b * 256 + c * 65536 + d * 16777216) 538976288 (omega arith)
      go true true true false e f g h = ne_eqb (a + b * 256 + c * 65536 + d * 16777216) 538976288 (λ z. eqb-false d 32 h (omega (arith, fa, fb, fc, fd, z)))
      go true true false s e f g h = ne_eqb (a + b * 256 + c * 65536 + d * 16777216) 538976288 (λ z. eqb-false c 32 g (omega (arith, fa, fb, fc, fd, z)))
      go true false r s e f g h = ne_eqb (a + b * 256 + c * 65536 + d * 16777216) 538976288 (λ z. eqb-false b 32 f (omega (arith, fa, fb, fc, fd, z)))
      go false q r s e f g h = ne_eqb (a + b * 256 + c * 65536 + d * 16777216) 538976288 (λ z. eqb-false a 32 e (omega (arith, fa, fb, fc, fd, z)))

blanks_all : (a b c d : ℕ) {t : Bool} → t ≡ are_blank a b c d → t ≡ true → (eqb a 32 ≡ true) × (eqb b 32 ≡ true) × (eqb c 32 ≡ true) × (eqb d 32 ≡ true)
blanks_all a b c d told blank =
    let x = and_true (eqb a 32) (eqb b 32 && (eqb c 32 && eqb d 32)) (sym told ∙ blank) in
    let y = and_true (eqb b 32) (eqb c 32 && eqb d 32) x.1 in
    let z = and_true (eqb c 32) (eqb d 32) y.1 in
    (x.0, y.0, z.0, z.1)

-- Blanks by fours.
module _ {bytes : List ℕ} {i : ℕ} (s : Skipping bytes i) where
  four_on : {t : Bool} → 4 ≤ length bytes - i → t ≡ are_blank (get_or bytes i 0) (get_or bytes (i + 1) 0) (get_or bytes (i + 2) 0) (get_or bytes (i + 3) 0) → not t ≡ false → Skipping bytes (i + 4)
  four_on {t} room told blank =
      let all = blanks_all (get_or bytes i 0) (get_or bytes (i + 1) 0) (get_or bytes (i + 2) 0) (get_or bytes (i + 3) 0) told (not-false t blank) in
      let one = skip_on s (omega arith) (eqb-true (get_or bytes i 0) 32 all.0) in
      let two = skip_on one (omega arith) (eqb-true (get_or bytes (i + 1) 0) 32 all.1) in
      let e : i + 1 + 1 ≡ i + 2 = omega arith in
      let three = skip_on (rw e at two) (omega arith) (eqb-true (get_or bytes (i + 2) 0) 32 all.2) in
      let f : i + 2 + 1 ≡ i + 3 = omega arith in
      let four = skip_on (rw f at three) (omega arith) (eqb-true (get_or bytes (i + 3) 0) 32 all.3) in
      let g : i + 3 + 1 ≡ i + 4 = omega arith in
      rw g at four

  pub fours_rest : after_blanks (take (length bytes - i) (drop i bytes)) ≡ after_blanks bytes
  fours_rest = rw (rest_whole bytes i) s.same

pub fours_on : {bytes : List ℕ} {k : ℕ} {t : Bool} → Skipping bytes (k * 4) → k < length bytes / 4
    → t ≡ are_blank (get_or bytes (k * 4) 0) (get_or bytes (k * 4 + 1) 0) (get_or bytes (k * 4 + 2) 0) (get_or bytes (k * 4 + 3) 0) → not t ≡ false → Skipping bytes ((k + 1) * 4)
fours_on {k = k} s lt told blank =
    let e : (k + 1) * 4 ≡ k * 4 + 4 = omega arith in
    rw e (four_on s (omega arith) told blank)

-- two digits, or a blank and one
module _ (t u : ℕ) where
  units_none : is_digit u ≡ false → None ≡ read_column (t ∷ u ∷ [])
  unfolding read_column after_blanks is_decimal all_digits
  units_none other = go (eqb t 32) (eqb u 32)
    where
      go : (p q : Bool) → None ≡ decimal_number (cond p (cond q [] (u ∷ [])) (t ∷ u ∷ []))
      go true true = refl
      go true false = simp other
      go false q = simp (other, and-false)

  pub units_low : u < 48 → None ≡ read_column (t ∷ u ∷ [])
  units_low h = units_none (rw (lt-leb 48 u h))

  pub units_high : 57 < u → None ≡ read_column (t ∷ u ∷ [])
  units_high h = units_none (rw (lt-leb u 57 h, and-false))

  module _ (low : 48 ≤ u) (high : u ≤ 57) where
    pub one_digit : t ≡ 32 → Some (u - 48) ≡ read_column (t ∷ u ∷ [])
    unfolding read_column after_blanks is_decimal all_digits value
    one_digit blank =
        let z : 0 * 10 + (u - 48) ≡ u - 48 = omega arith in
        rw (blank, ne_eqb u 32 (λ e. omega arith), le-leb 48 u low, le-leb u 57 high, z)

    module _ (other : t ≡ 32 → ⊥) where
      pub tens_low : t < 49 → None ≡ read_column (t ∷ u ∷ [])
      unfolding read_column after_blanks is_decimal all_digits
      tens_low h = rw (ne_eqb t 32 other) (go (eqb t 48) refl)
        where
          go : (z : Bool) → eqb t 48 ≡ z → None ≡ cond (not z && (is_digit t && (is_digit u && true))) (Some (value 0 (t ∷ u ∷ []))) None
          go true e = refl
          go false e = rw (lt-leb 48 t (omega (arith, eqb-false t 48 e)))

      pub tens_high : 57 < t → None ≡ read_column (t ∷ u ∷ [])
      unfolding read_column after_blanks is_decimal all_digits
      tens_high h = rw (ne_eqb t 32 other, ne_eqb t 48 (λ e. omega arith), lt-leb t 57 h, and-false (leb 48 t))

      pub two_digits : 49 ≤ t → t ≤ 57 → Some ((t - 48) * 10 + (u - 48)) ≡ read_column (t ∷ u ∷ [])
      unfolding read_column after_blanks is_decimal all_digits value
      two_digits l h =
          let z : 0 * 10 + (t - 48) ≡ t - 48 = omega arith in
          rw (ne_eqb t 32 other, ne_eqb t 48 (λ e. omega arith), le-leb 48 t (omega arith), le-leb t 57 h, le-leb 48 u low, le-leb u 57 high, z)

-- any number of digits
module _ (bytes : List ℕ) {ds : List ℕ} {d : Option ℕ} (few : length bytes ≤ 6) (skipped : ds ≡ after_blanks bytes) (read : d ≡ read_decimal ds) where
  is : d ≡ read_decimal (after_blanks bytes)
  is = rw skipped at read

  few_digits : length (after_blanks bytes) ≤ 6
  few_digits = omega (arith, blanks_few bytes)

  pub six_number : {n : ℕ} → d ≡ Some n → Some n ≡ read_column bytes
  unfolding read_column
  six_number {n} e =
      let r = read_as (after_blanks bytes) n (sym is ∙ e) in
      rw (r.form, r.is)

  pub six_small : {n : ℕ} → d ≡ Some n → Fits w32 n
  six_small {n} e =
      let r = read_as (after_blanks bytes) n (sym is ∙ e) in
      let b = decimal_below 6 (after_blanks bytes) r.form few_digits in
      let i = r.is in
      record { fits = omega arith }

  pub six_none : d ≡ None → None ≡ read_column bytes
  unfolding read_column
  six_none e = go (is_decimal (after_blanks bytes)) refl (read_not (after_blanks bytes) (sym is ∙ e))
    where
      go : (b : Bool) → is_decimal (after_blanks bytes) ≡ b
          → (b && ltb (value 0 (after_blanks bytes)) (2 ^ 64)) ≡ false
          → None ≡ cond b (Some (value 0 (after_blanks bytes))) None
      go true form missing =
          let b = decimal_below 6 (after_blanks bytes) form few_digits in
          absurd (omega (arith, ltb-false (value 0 (after_blanks bytes)) (2 ^ 64) missing))
      go false form missing = refl

-- six bytes, of which four are blanks
six_bytes : (bytes : List ℕ) → length bytes ≡ 6 → bytes ≡ get_or bytes 0 0 ∷ get_or bytes 1 0 ∷ get_or bytes 2 0 ∷ get_or bytes 3 0 ∷ get_or bytes 4 0 ∷ get_or bytes 5 0 ∷ []
six_bytes (a ∷ b ∷ c ∷ d ∷ e ∷ f ∷ []) long = refl
six_bytes [] long = absurd (omega arith)
six_bytes (a ∷ []) long = absurd (omega arith)
six_bytes (a ∷ b ∷ []) long = absurd (omega arith)
six_bytes (a ∷ b ∷ c ∷ []) long = absurd (omega arith)
six_bytes (a ∷ b ∷ c ∷ d ∷ []) long = absurd (omega arith)
six_bytes (a ∷ b ∷ c ∷ d ∷ e ∷ []) long = absurd (omega arith)
six_bytes (a ∷ b ∷ c ∷ d ∷ e ∷ f ∷ g ∷ more) long = absurd (omega arith)

pub column_six : (bytes : List ℕ) {r : Option ℕ} → length bytes ≡ 6 → r ≡ read_column bytes → r ≡ six_column bytes
column_six bytes long is = rw (eq-eqb (length bytes) 6 long) is

pub column_two : (bytes : List ℕ) {t : Bool} {r : Option ℕ} → length bytes ≡ 6 → t ≡ are_blank (get_or bytes 0 0) (get_or bytes 1 0) (get_or bytes 2 0) (get_or bytes 3 0) → t ≡ true
    → r ≡ read_column (get_or bytes 4 0 ∷ get_or bytes 5 0 ∷ []) → r ≡ six_column bytes
unfolding read_column after_blanks
column_two bytes long told blank read =
    let all = blanks_all (get_or bytes 0 0) (get_or bytes 1 0) (get_or bytes 2 0) (get_or bytes 3 0) told blank in
    let six : List ℕ = get_or bytes 0 0 ∷ get_or bytes 1 0 ∷ get_or bytes 2 0 ∷ get_or bytes 3 0 ∷ get_or bytes 4 0 ∷ get_or bytes 5 0 ∷ [] in
    let e : read_column six ≡ read_column (get_or bytes 4 0 ∷ get_or bytes 5 0 ∷ []) = rw (all.0, all.1, all.2, all.3) refl in
    column_six bytes long (read ∙ (sym e ∙ ap read_column (sym (six_bytes bytes long))))

pub not_six : (bytes : List ℕ) → (length bytes ≡ 6 → ⊥) → None ≡ six_column bytes
not_six bytes h = simp (ne_eqb (length bytes) 6 h)

-- the column at a place
module _ (bytes : List ℕ) (at : ℕ) where
  whole_column : six_column (column_bytes bytes at 6) ≡ column_at bytes at
  unfolding column_bytes read_column after_blanks is_decimal
  whole_column = go (leb (at + 6) (length bytes)) refl
    where
      go : (b : Bool) → leb (at + 6) (length bytes) ≡ b → six_column (column_bytes bytes at 6) ≡ column_at bytes at
      go true e =
          let long : length (take 6 (drop at bytes)) ≡ 6 = length-take-le 6 (drop at bytes) (omega (arith, length-drop at bytes, leb-true (at + 6) (length bytes) e)) in
          rw (e, eq-eqb (length (take 6 (drop at bytes))) 6 long)
      go false e = rw e

  pub column_found : {six : List ℕ} {r : Option ℕ} → six ≡ column_bytes bytes at 6 → r ≡ six_column six → r ≡ column_at bytes at
  column_found there is = rw there at is ∙ whole_column

  pub column_inside : at + 6 ≤ length bytes → {r : Option ℕ} → r ≡ six_column (take ((at + 6) - at) (drop at bytes)) → r ≡ column_at bytes at
  column_inside inside is = column_found (column_there bytes at 6 (omega arith) (omega arith)) is
