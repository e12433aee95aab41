-- Writing a column, as the code writes it: from the last byte on.
use Prim.Native.Nat.{ℕ, zero, suc, ◌+◌, ◌-◌, ◌/◌, ◌%◌, ◌^◌, ◌<◌, ◌≤◌}
use mathlib.Core.List.{List, [], ◌∷◌, ◌++◌, append_assoc}
use mathlib.Core.Logic.{⊎_elim}
use mathlib.Core.Path.{◌≡◌, refl, sym, ap, ◌∙◌}
use native.Mathlib.Numerals.{add-one}
use native.Mathlib.Omega.{arith}
use borrow.Author.Tests.{lt-leb, le-leb, ne_eqb}
use lib.ListN.{length, take, drop, set, replicate, length-set, length-append, length-replicate, length-drop, take-append-drop, replicate-append-replicate}
use borrow.Rule.Slice.PartMut.{put_mid}
use lib.Seq.{length-take-le, drop-drop, drop-cons, drop-set-lt, take-set-le, get_or-set_same, drop-append-le, drop-append_seam}
use Rattle.literal.specs.Text.{digit, digits, decimal}
use Rattle.literal.proofs.Decimals.{digits_one, digits_more, few_or_more, below_tenth, length_more}
use Rattle.columns.specs.Columns.{justified, stored, column_stored}
use Rattle.columns.specs.code.Written.{column_byte, write_rest}

pub byte_blank : (rest : ℕ) → rest ≡ 0 → 32 ≡ column_byte rest
byte_blank rest e = simp e

pub byte_digit : (rest : ℕ) → (rest ≡ 0 → ⊥) → 48 + rest % 10 ≡ column_byte rest
byte_digit rest h = simp (ne_eqb rest 0 h)

-- what is left of a number, in so many bytes
padded : ℕ → ℕ → List ℕ
padded zero rest = []
padded (suc k) rest = padded k (rest / 10) ++ (column_byte rest ∷ [])

padded_long : (k rest : ℕ) → length (padded k rest) ≡ k
unfolding padded
padded_long zero rest = refl
padded_long (suc k) rest =
    length-append (padded k (rest / 10)) (column_byte rest ∷ []) ∙ (ap (λ (n : ℕ). n + 1) (padded_long k (rest / 10)) ∙ add-one k)

padded_blank : (k : ℕ) → padded k 0 ≡ replicate k 32
unfolding padded
padded_blank zero = refl
padded_blank (suc k) =
    rw (padded_blank k, replicate-append-replicate {A = ℕ} k 1 32, add-one k)

-- in fuel m: blanks, then digits
abbrev column : ℕ → ℕ → ℕ → List ℕ
column m width n = replicate (width - length (digits m n)) 32 ++ drop (length (digits m n) - width) (digits m n)

one_digit : (m k n : ℕ) → n < 10 → padded k (n / 10) ++ (digit (n % 10) ∷ []) ≡ column (suc m) (suc k) n
one_digit m k n few =
    let q : n / 10 ≡ 0 = omega arith in
    let r : n % 10 ≡ n = omega arith in
    let z : suc k - 1 ≡ k = omega arith in
    let y : 1 - suc k ≡ 0 = omega arith in
    rw (q, r, padded_blank k, digits_one m n few, z, y)

-- one more digit than fits, and one that fits
last_digit : (m n : ℕ) → 10 ≤ n → digit (n % 10) ∷ [] ≡ column (suc m) 1 n
last_digit m n more =
    let ds = digits m (n / 10) in
    let l : length (digits (suc m) n) ≡ length ds + 1 = length_more m n more in
    let z : 1 - (length ds + 1) ≡ 0 = omega arith in
    let y : length ds + 1 - 1 ≡ length ds = omega arith in
    rw (l, z, y, digits_more m n more, drop-append_seam ds (digit (n % 10) ∷ []))

next_digit : (m k n : ℕ) → 10 ≤ n → column m (suc k) (n / 10) ++ (digit (n % 10) ∷ []) ≡ column (suc m) (suc (suc k)) n
next_digit m k n more =
    let ds = digits m (n / 10) in
    let x = digit (n % 10) ∷ [] in
    let l : length (digits (suc m) n) ≡ length ds + 1 = length_more m n more in
    let z : suc (suc k) - (length ds + 1) ≡ suc k - length ds = omega arith in
    let y : length ds + 1 - suc (suc k) ≡ length ds - suc k = omega arith in
    rw (l, z, y, digits_more m n more, drop-append-le (length ds - suc k) ds x (omega arith), append_assoc)

padded_column : (m k n : ℕ) → n < 10 ^ suc m → padded k (n / 10) ++ (digit (n % 10) ∷ []) ≡ column (suc m) (suc k) n
unfolding padded
padded_column m zero n h = ⊎_elim (λ few. one_digit m 0 n few) (λ more. last_digit m n more) (few_or_more n)
padded_column zero (suc k) n h = one_digit 0 (suc k) n (omega arith)
padded_column (suc m) (suc k) n h =
    ⊎_elim (λ few. one_digit (suc m) (suc k) n few)
    (λ more.
    let b : column_byte (n / 10) ≡ digit (n / 10 % 10) = sym (byte_digit (n / 10) (λ e. omega arith)) in
    rw (b, padded_column m k (n / 10) (below_tenth (suc m) n h)) (next_digit (suc m) k n more))
    (few_or_more n)

pub justified_long : (width : ℕ) (text : List ℕ) → length (justified width text) ≡ width
unfolding justified
justified_long width text =
    length-append (replicate (width - length text) 32) (drop (length text - width) text)
    ∙ omega (arith, length-replicate {A = ℕ} (width - length text) 32, length-drop (length text - width) text)

-- the array, written from the last byte on
written_rest : (out : List ℕ) (at k rest : ℕ) → at + k ≤ length out → write_rest out at k rest ≡ take at out ++ (padded k rest ++ drop (at + k) out)
unfolding write_rest padded
written_rest out at zero rest h = let e : at + 0 ≡ at = omega arith in rw e (sym (take-append-drop at out))
written_rest out at (suc k) rest h =
    let b = column_byte rest in
    let here = at + k in
    let new = set out here b in
    let more = written_rest new at k (rest / 10) (omega (arith, length-set out here b)) in
    let front : take at new ≡ take at out = take-set-le at out here b (omega arith) in
    let inside : here < length new = omega (arith, length-set out here b) in
    let next : at + suc k ≡ suc here = omega arith in
    let back : drop here new ≡ b ∷ drop (at + suc k) out =
    rw (drop-cons new here 0 inside, get_or-set_same out here b 0 (omega arith), drop-set-lt (suc here) out here b (omega arith), next) in
    more ∙ rw (front, back, append_assoc)

-- what is left of the number makes of the array what all of it makes of it as it was
pub record Writing (out₀ : List ℕ) (at above : ℕ) (out : List ℕ) (left rest : ℕ) : Type 0 where
  pub room : at + left ≤ length out₀
  pub long : length out ≡ length out₀
  pub same : write_rest out at left rest ≡ write_rest out₀ at 5 above

pub writing_start : (out : List ℕ) (at above : ℕ) → at + 5 ≤ length out → Writing out at above out 5 above
writing_start out at above h = record { room = h; long = refl; same = refl }

module _ {out₀ : List ℕ} {at above : ℕ} {out : List ℕ} {left rest : ℕ} (w : Writing out₀ at above out left rest) where
  pub writing_on : {b : ℕ} → 0 < left → b ≡ column_byte rest → Writing out₀ at above (set out (at + (left - 1)) b) (left - 1) (rest / 10)
  unfolding write_rest
  writing_on {b} h is =
      let e : left ≡ suc (left - 1) = omega arith in
      record {
        room = omega (arith, w.room);
        long = length-set out (at + (left - 1)) b ∙ w.long;
        same = rw is (rw e at w.same);
      }

  pub writing_ends : left ≤ 0 → out ≡ write_rest out₀ at 5 above
  unfolding write_rest
  writing_ends h = let e : left ≡ 0 = omega arith in rw e at w.same

-- five blanks at once
pub blanks_written : (out : List ℕ) (at : ℕ) {five : List ℕ} → at + 5 ≤ length out → five ≡ replicate (length (take ((at + 5) - at) (drop at out))) 32
    → put_mid at ((at + 5) - at) out five ≡ write_rest out at 5 0
blanks_written out at {five} room is =
    let k : (at + 5) - at ≡ 5 = omega arith in
    let n : length (take 5 (drop at out)) ≡ 5 = length-take-le 5 (drop at out) (omega (arith, length-drop at out)) in
    let blanks : five ≡ padded 5 0 = rw (k, n) at is ∙ sym (padded_blank 5) in
    rw (k, blanks, drop-drop 5 at out) (sym (written_rest out at 5 0 room))

-- the last digit first, then what is left
module _ (out : List ℕ) (at n : ℕ) where
  pub column_short : length out < 6 → out ≡ column_stored out at n
  unfolding stored
  column_short h =
      let l = justified_long 6 (decimal n) in
      rw (l, lt-leb (at + 6) (length out) (omega arith))

  module _ (some : 6 ≤ length out) where
    pub column_past : length out - 6 < at → out ≡ column_stored out at n
    unfolding stored
    column_past past =
        let l = justified_long 6 (decimal n) in
        rw (l, lt-leb (at + 6) (length out) (omega arith))

    module _ (room : at ≤ length out - 6) where
      pub rest_room : (b : ℕ) → at + 5 ≤ length (set out (at + 5) b)
      rest_room b = omega (arith, length-set out (at + 5) b)

      pub column_written : {after : List ℕ} → n < 2 ^ 64 → after ≡ write_rest (set out (at + 5) (48 + n % 10)) at 5 (n / 10) → after ≡ column_stored out at n
      unfolding stored justified
      column_written small e =
          let x = digit (n % 10) in
          let new = set out (at + 5) x in
          let l = justified_long 6 (decimal n) in
          let fits : at + 6 ≤ length out = omega arith in
          let front : take at new ≡ take at out = take-set-le at out (at + 5) x (omega arith) in
          let next : suc (at + 5) ≡ at + 6 = omega arith in
          let back : drop (at + 5) new ≡ x ∷ drop (at + 6) out =
          rw (drop-cons new (at + 5) 0 (omega (arith, length-set out (at + 5) x)), get_or-set_same out (at + 5) x 0 (omega arith), drop-set-lt (suc (at + 5)) out (at + 5) x (omega arith), next) in
          let digits = padded_column 19 5 n (omega arith) in
          e ∙ (written_rest new at 5 (n / 10) (omega (arith, length-set out (at + 5) x))
          ∙ (rw (front, back)
          (ap (λ (l : List ℕ). take at out ++ l) (sym (append_assoc (padded 5 (n / 10)) (x ∷ []) (drop (at + 6) out)))
          ∙ rw (digits, l, le-leb (at + 6) (length out) fits))))

      pub digit_written : {after : List ℕ} → n < 2 ^ 64 → n < 10 → after ≡ write_rest (set out (at + 5) (48 + n)) at 5 0 → after ≡ column_stored out at n
      digit_written small few e =
          let z : n / 10 ≡ 0 = omega arith in
          let m : n % 10 ≡ n = omega arith in
          column_written small (rw (z, m) e)

pub set_kept : (out after : List ℕ) (i b : ℕ) → length after ≡ length (set out i b) → length after ≡ length out
set_kept out after i b e = e ∙ length-set out i b
