-- Bytes stored one after the other.
use Prim.Native.Nat.{ℕ, suc, ◌+◌, ◌<◌, ◌≤◌}
use mathlib.Core.Bool.{Bool, true, false, cond}
use mathlib.Core.List.{List, [], ◌∷◌, ◌++◌, append_assoc}
use mathlib.Core.Path.{◌≡◌, refl, sym, ap, ◌∙◌}
use native.Mathlib.Omega.{arith}
use native.Mathlib.Numerals.{add-one}
use borrow.Author.Tests.{le-leb, leb-true}
use lib.Dec.{leb}
use lib.ListN.{length, take, drop, set, length-append, length-drop, take-append-drop}
use lib.Seq.{length-take-le, drop-append-add, take_at, drop-drop, set_split}
use Rattle.columns.specs.Columns.{stored}

module _ (out : List ℕ) (at : ℕ) (xs : List ℕ) where
  pub stored_is : at + length xs ≤ length out → stored out at xs ≡ take at out ++ (xs ++ drop (at + length xs) out)
  unfolding stored
  stored_is fits = rw (le-leb (at + length xs) (length out) fits)

  pub stored_long : length (stored out at xs) ≡ length out
  unfolding stored
  stored_long = go (leb (at + length xs) (length out)) refl
    where
      go : (b : Bool) → leb (at + length xs) (length out) ≡ b → length (cond b (take at out ++ (xs ++ drop (at + length xs) out)) out) ≡ length out
      go true e =
          let fits = leb-true (at + length xs) (length out) e in
          length-append (take at out) (xs ++ drop (at + length xs) out)
          ∙ omega (arith, length-append xs (drop (at + length xs) out), length-take-le at out (omega arith), length-drop (at + length xs) out)
      go false e = refl

pub stored_none : (out : List ℕ) (at : ℕ) → at ≤ length out → stored out at [] ≡ out
stored_none out at le =
    let z : at + 0 ≡ at = omega arith in
    stored_is out at [] (omega arith) ∙ rw z (take-append-drop at out)

-- one part after another is both at once
pub stored_on : (out : List ℕ) (at : ℕ) (xs ys : List ℕ) → at + length xs + length ys ≤ length out
    → stored (stored out at xs) (at + length xs) ys ≡ stored out at (xs ++ ys)
stored_on out at xs ys fits =
    let n = at + length xs in
    let head = take at out ++ xs in
    let front : length (take at out) ≡ at = length-take-le at out (omega arith) in
    let head-long : length head ≡ n = length-append (take at out) xs ∙ omega arith in
    let first : stored out at xs ≡ head ++ drop n out = stored_is out at xs (omega arith) ∙ sym (append_assoc (take at out) xs (drop n out)) in
    let room : n + length ys ≤ length (stored out at xs) = omega (arith, stored_long out at xs) in
    let taken : take n (head ++ drop n out) ≡ head = take_at head (drop n out) n head-long in
    let step : n + length ys ≡ length head + length ys = omega arith in
    let dropped : drop (n + length ys) (head ++ drop n out) ≡ drop (n + length ys) out =
    ap (λ (k : ℕ). drop k (head ++ drop n out)) step ∙ (drop-append-add head (drop n out) (length ys) ∙ drop-drop (length ys) n out) in
    let both : length (xs ++ ys) ≡ length xs + length ys = length-append xs ys in
    let reach : at + length (xs ++ ys) ≡ n + length ys = omega arith in
    stored_is (stored out at xs) n ys room
    ∙ (rw (first, taken, dropped)
    (append_assoc (take at out) xs (ys ++ drop (n + length ys) out)
    ∙ (ap (λ (l : List ℕ). take at out ++ l) (sym (append_assoc xs ys (drop (n + length ys) out)))
    ∙ sym (stored_is out at (xs ++ ys) (omega arith) ∙ rw reach))))

-- one byte
pub stored_one : (out : List ℕ) (at b : ℕ) → at < length out → set out at b ≡ stored out at (b ∷ [])
stored_one out at b lt =
    let one : at + 1 ≡ suc at = add-one at in
    set_split out at b lt ∙ sym (stored_is out at (b ∷ []) (omega arith) ∙ rw one)
