-- The texts that the code writes.
use Prim.Native.Nat.{ℕ, zero, suc, ◌+◌, ◌-◌, ◌/◌, ◌%◌, ◌^◌, ◌<◌, ◌≤◌}
use mathlib.Core.Bool.{Bool, true, false}
use mathlib.Core.List.{List, [], ◌∷◌, ◌++◌, append_assoc}
use mathlib.Core.Logic.{⊎_elim}
use mathlib.Core.Path.{◌≡◌, refl, sym, ap, ◌∙◌}
use native.Mathlib.Numerals.{add-one}
use native.Mathlib.Omega.{arith}
use lib.ListN.{length, take, drop, set, length-set, take-append-drop}
use lib.Seq.{drop-cons, drop-set-lt, take-set-le, take-suc-set, get_or-set_same}
use mir.Syntax.{w64}
use mir.Val.{Fits}
use Rattle.literal.specs.Text.{digit, digits, decimal, signed}
use Rattle.literal.specs.code.Written.{write_digits, Written}
use Rattle.literal.specs.declared.KeyText.{KeyText}
use Rattle.literal.proofs.Decimals.{digits_one, digits_more, few_or_more, length_more}

-- Writing digits: the digits that are left make of the array what all of them make of it as it was.
pub record Writing (out₀ : List ℕ) (start count size : ℕ) (out : List ℕ) (left rest : ℕ) : Type 0 where
  pub room : start + left ≤ length out₀
  pub long : length out ≡ length out₀
  pub same : write_digits out start left rest ≡ write_digits out₀ start count size

pub writing_start : (out : List ℕ) (start count size : ℕ) → start + count ≤ length out → Writing out start count size out count size
writing_start out start count size h = record { room = h; long = refl; same = refl }

module _ {out₀ : List ℕ} {start count size : ℕ} {out : List ℕ} {left rest : ℕ} (w : Writing out₀ start count size out left rest) where
  pub writing_on : 0 < left → Writing out₀ start count size (set out (start + (left - 1)) (48 + rest % 10)) (left - 1) (rest / 10)
  unfolding write_digits
  writing_on h =
      let e : left ≡ suc (left - 1) = omega arith in
      record { room = omega arith; long = length-set out (start + (left - 1)) (48 + rest % 10) ∙ w.long; same = rw e at w.same }

  pub writing_ends : left ≤ 0 → out ≡ write_digits out₀ start count size
  unfolding write_digits
  writing_ends h = let e : left ≡ 0 = omega arith in rw e at w.same

-- so many of the lowest digits
padded : ℕ → ℕ → List ℕ
padded zero n = []
padded (suc k) n = padded k (n / 10) ++ (digit (n % 10) ∷ [])

padded_decimal : (k n : ℕ) → digits k n ≡ padded (length (digits k n)) n
unfolding digits padded
padded_decimal zero n = refl
padded_decimal (suc k) n =
    ⊎_elim (λ few. let e : n % 10 ≡ n = omega arith in rw (digits_one k n few, e))
    (λ more.
    let l : length (digits (suc k) n) ≡ suc (length (digits k (n / 10))) = length_more k n more ∙ add-one (length (digits k (n / 10))) in
    rw l (digits_more k n more ∙ ap (λ (ds : List ℕ). ds ++ (digit (n % 10) ∷ [])) (padded_decimal k (n / 10))))
    (few_or_more n)

written_digits : (out : List ℕ) (start k n : ℕ) → start + k ≤ length out → write_digits out start k n ≡ take start out ++ (padded k n ++ drop (start + k) out)
unfolding write_digits padded
written_digits out start zero n h = let e : start + 0 ≡ start = omega arith in rw e (sym (take-append-drop start out))
written_digits out start (suc k) n h =
    let d = digit (n % 10) in
    let at = start + k in
    let new = set out at d in
    let rest = written_digits new start k (n / 10) (omega (arith, length-set out at d)) in
    let front : take start new ≡ take start out = take-set-le start out at d (omega arith) in
    let here : at < length new = omega (arith, length-set out at d) in
    let next : start + suc k ≡ suc at = omega arith in
    let back : drop at new ≡ d ∷ drop (start + suc k) out =
    rw (drop-cons new at 0 here, get_or-set_same out at d 0 (omega arith), drop-set-lt (suc at) out at d (omega arith), next) in
    rest ∙ rw (front, back, append_assoc)

-- a number's text
pub sign_length : (sign : ℕ) (out after : List ℕ) → length after ≡ length (set out 0 sign) → length after ≡ length out
sign_length sign out after h = h ∙ length-set out 0 sign

module _ (below : Bool) (size : ℕ) (out : List ℕ) {count : ℕ} (is : count ≡ length (decimal size)) (room : length (signed below (decimal size)) ≤ length out) where
  whole : padded count size ≡ decimal size
  whole = ap (λ (k : ℕ). padded k size) is ∙ sym (padded_decimal 20 size)

  below_room : below ≡ true → suc count ≤ length out
  below_room h = let r = rw h at room in omega arith

  pub sign_room : below ≡ true → 0 < length out
  sign_room h = omega (arith, below_room h)

  pub below_digits_room : (sign : ℕ) → below ≡ true → 1 + count ≤ length (set out 0 sign)
  below_digits_room sign h = omega (arith, below_room h, length-set out 0 sign)

  pub below_fits : below ≡ true → length out < 2 ^ 64 → Fits w64 (count + 1)
  below_fits h l = omega (arith, below_room h)

  pub above_digits_room : below ≡ false → 0 + count ≤ length out
  above_digits_room h = let r = rw h at room in omega arith

  pub below_written : {after : List ℕ} → below ≡ true → after ≡ write_digits (set out 0 45) 1 count size → Written (signed below (decimal size)) out after (KeyText.Written (count + 1))
  below_written h e =
      let sign : take 1 (set out 0 45) ≡ 45 ∷ [] = take-suc-set out 0 45 (sign_room h) in
      let back : drop (1 + count) (set out 0 45) ≡ drop (1 + count) out = drop-set-lt (1 + count) out 0 45 (omega arith) in
      let end : 1 + count ≡ suc (length (decimal size)) = omega arith in
      record {
        answer = rw h (ap KeyText.Written (omega arith));
        array = e ∙ (written_digits (set out 0 45) 1 count size (below_digits_room 45 h) ∙ rw (h, sign, back, whole, end));
      }

  pub above_written : {after : List ℕ} → below ≡ false → after ≡ write_digits out 0 count size → Written (signed below (decimal size)) out after (KeyText.Written count)
  above_written h e =
      let end : 0 + count ≡ length (decimal size) = omega arith in
      record {
        answer = rw h (ap KeyText.Written is);
        array = e ∙ (written_digits out 0 count size (above_digits_room h) ∙ rw (h, whole, end));
      }
