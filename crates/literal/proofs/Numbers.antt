-- What `is_number` says.
use Prim.Native.Nat.{ℕ, ◌^◌}
use mathlib.Core.Bool.{Bool, true, false, ◌&&◌, ◌||◌}
use mathlib.Core.Logic.{◌⊎◌, inl, inr}
use mathlib.Core.Path.{◌≡◌, refl}
use native.Mathlib.Omega.{arith}
use lib.Dec.{eqb, ltb, leb}
use mir.Syntax.{w64}
use mir.Val.{Fits}
use borrow.Author.Tests.{ltb-true, lt-ltb, leb-true, le-leb, eqb-true, ne_eqb}
use Rattle.literal.specs.Literal.{is_number}
use Rattle.literal.specs.Laws.{NumberBounds}

-- the tests of the code
pub number_above : (b n : ℕ) → b ≡ 0 → Fits w64 n → true ≡ is_number b n
unfolding is_number
number_above b n h f = rw (h, lt-ltb n (2 ^ 64) (omega arith))

pub number_minus_zero : (b n : ℕ) → b ≡ 1 → n ≡ 0 → false ≡ is_number b n
unfolding is_number
number_minus_zero b n h k = rw (h, k)

pub number_below : (b n : ℕ) → b ≡ 1 → (n ≡ 0 → ⊥) → leb n (2 ^ 63) ≡ is_number b n
unfolding is_number
number_below b n h k = let one : leb 1 n ≡ true = le-leb 1 n (omega arith) in rw (h, one)

pub number_unsigned : (b n : ℕ) → (b ≡ 0 → ⊥) → (b ≡ 1 → ⊥) → false ≡ is_number b n
unfolding is_number
number_unsigned b n h k = rw (ne_eqb b 0 h, ne_eqb b 1 k)

-- the bounds of a number
pub and_true : (a b : Bool) → (a && b) ≡ true → (a ≡ true) × (b ≡ true)
and_true true b h = (refl, h)
and_true false b h = let z : ◌≡◌ {A = ℕ} 0 1 = cc in absurd (omega arith)

or_true : (a b : Bool) → (a || b) ≡ true → (a ≡ true) ⊎ (b ≡ true)
or_true true b h = inl refl
or_true false b h = inr h

pub number_bounds : (b n : ℕ) → is_number b n ≡ true → NumberBounds b n
unfolding is_number
number_bounds b n h = go (or_true (eqb b 0 && ltb n (2 ^ 64)) (eqb b 1 && (leb 1 n && leb n (2 ^ 63))) h)
  where
    go : ((eqb b 0 && ltb n (2 ^ 64)) ≡ true) ⊎ ((eqb b 1 && (leb 1 n && leb n (2 ^ 63))) ≡ true) → NumberBounds b n
    go (inl t) =
        let both = and_true (eqb b 0) (ltb n (2 ^ 64)) t in
        let z = eqb-true b 0 both.0 in
        let m = ltb-true n (2 ^ 64) both.1 in
        record { sign = omega arith; largest = m; below_zero = λ o. omega arith; lowest = λ o. omega arith }
    go (inr t) =
        let both = and_true (eqb b 1) (leb 1 n && leb n (2 ^ 63)) t in
        let sizes = and_true (leb 1 n) (leb n (2 ^ 63)) both.1 in
        let o = eqb-true b 1 both.0 in
        let m = leb-true 1 n sizes.0 in
        let l = leb-true n (2 ^ 63) sizes.1 in
        record { sign = omega arith; largest = omega arith; below_zero = λ _. m; lowest = λ _. l }
