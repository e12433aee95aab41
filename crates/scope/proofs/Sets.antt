-- Sets of names: what is in one after a call, two with the same names, and how many there are.
use Prim.Native.Nat.{ℕ, zero, suc, ◌+◌, ◌-◌, ◌%◌, ◌^◌, ◌≤◌, ◌<◌}
use mathlib.Core.Path.{◌≡◌, refl, sym, ap, ap₂, ◌∙◌}
use mathlib.Core.Bool.{Bool, true, false, cond, and-eq-true_iff}
use native.Mathlib.Omega.{arith}
use native.Mathlib.Nat.{lt_of_le_of_lt, zero-add, add_assoc, div-one, zero-div}
use borrow.Author.Tests.{leb-true, leb-false, le-leb, lt-leb}
use lib.Bits.{or_lt, and_le_l}
use lib.Count.{ones}
use lib.Dec.{eqb, leb}
use lib.Pow.{pow-lt}
use Rattle.scope.specs.declared.name_set.NameSet.{NameSet}
use Rattle.scope.specs.Names.{is_name, bit_of, with_bit, without_bit, contains, at_name, with_name, without_name, no_names, count_from, size_of}
use Rattle.scope.specs.Agreement.{Words}
use Rattle.scope.proofs.Bits.{bit_eq, with_same, with_other, without_same_lem, without_other, digits_same, ones_counted}

-- the bounds of a name's number
pub name_positive : (x : ℕ) → is_name x ≡ true → 1 ≤ x
unfolding is_name
name_positive x is = leb-true 1 x ((and-eq-true_iff (leb 1 x) _).0 is).0

pub name_most : (x : ℕ) → is_name x ≡ true → x ≤ 128
unfolding is_name
name_most x is = leb-true x 128 ((and-eq-true_iff (leb 1 x) _).0 is).1

pub name_inside : (x : ℕ) → 1 ≤ x → x ≤ 128 → is_name x ≡ true
unfolding is_name
name_inside x low high = simp (le-leb 1 x low, le-leb x 128 high)

-- the two halves
pub contains_low : (s : NameSet) (k : ℕ) → k < 64 → contains s (1 + k) ≡ bit_of s.low k
unfolding contains
contains_low s k lt =
    let e : 1 + k - 1 ≡ k = omega arith in
    simp (name_inside (1 + k) (omega arith) (omega arith), le-leb (1 + k) 64 (omega arith)) (ap (bit_of s.low) e)

pub contains_high : (s : NameSet) (k : ℕ) → k < 64 → contains s (65 + k) ≡ bit_of s.high k
unfolding contains
contains_high s k lt =
    let e : 65 + k - 65 ≡ k = omega arith in
    simp (name_inside (65 + k) (omega arith) (omega arith), lt-leb (65 + k) 64 (omega arith)) (ap (bit_of s.high) e)

pub contains_none : (x : ℕ) → contains no_names x ≡ false
unfolding contains
contains_none x = go (is_name x) (leb x 64) refl refl
  where
    empty : (k : ℕ) → bit_of 0 k ≡ false
    empty k = ap (λ (n : ℕ). eqb (n % 2) 1) (zero-div (2 ^ k))

    go : (a b : Bool) → is_name x ≡ a → leb x 64 ≡ b → contains no_names x ≡ false
    go false b e f = simp e
    go true true e f = simp (e, f) (empty (x - 1))
    go true false e f = simp (e, f) (empty (x - 65))

-- a set whose bit of one name was put through `f`
module _ (f : ℕ → ℕ → ℕ) (s : NameSet) (x : ℕ) where
  pub at_same : (b : Bool) → ((w k : ℕ) → k < 64 → bit_of (f w k) k ≡ b) → is_name x ≡ true → contains (at_name f s x) x ≡ b
  unfolding contains
  at_same b law is = go (leb x 64) refl
    where
      go : (a : Bool) → leb x 64 ≡ a → contains (at_name f s x) x ≡ b
      go true e = let le = leb-true x 64 e in simp (is, e) (law s.low (x - 1) (omega (arith, name_positive x is)))
      go false e = let le = leb-false x 64 e in simp (is, e) (law s.high (x - 65) (omega (arith, name_most x is)))

  module _ (law : (w k j : ℕ) → k < 64 → j < 64 → (j ≡ k → ⊥) → bit_of (f w k) j ≡ bit_of w j) where
    pub at_other : (y : ℕ) → (y ≡ x → ⊥) → contains (at_name f s x) y ≡ contains s y
    unfolding contains
    at_other y other = go (is_name x) (is_name y) (leb x 64) (leb y 64) refl refl refl refl
      where
        go : (a b c d : Bool) → is_name x ≡ a → is_name y ≡ b → leb x 64 ≡ c → leb y 64 ≡ d → contains (at_name f s x) y ≡ contains s y
        go false b c d e₁ e₂ e₃ e₄ = simp e₁
        go true false c d e₁ e₂ e₃ e₄ = simp e₂
        go true true true false e₁ e₂ e₃ e₄ = simp (e₁, e₂, e₃, e₄)
        go true true false true e₁ e₂ e₃ e₄ = simp (e₁, e₂, e₃, e₄)
        go true true true true e₁ e₂ e₃ e₄ =
            let p = name_positive x e₁ in
            let q = name_positive y e₂ in
            let m = leb-true x 64 e₃ in
            let n = leb-true y 64 e₄ in
            simp (e₁, e₂, e₃, e₄) (law s.low (x - 1) (y - 1) (omega arith) (omega arith) (λ r. other (omega arith)))
        go true true false false e₁ e₂ e₃ e₄ =
            let p = name_most x e₁ in
            let q = name_most y e₂ in
            let m = leb-false x 64 e₃ in
            let n = leb-false y 64 e₄ in
            simp (e₁, e₂, e₃, e₄) (law s.high (x - 65) (y - 65) (omega arith) (omega arith) (λ r. other (omega arith)))

module _ (s : NameSet) (x : ℕ) where
  pub with_it : is_name x ≡ true → contains (with_name s x) x ≡ true
  unfolding with_name
  with_it is = at_same with_bit s x true (λ w k lt. with_same w k) is

  pub with_others : (y : ℕ) → (y ≡ x → ⊥) → contains (with_name s x) y ≡ contains s y
  unfolding with_name
  with_others = at_other with_bit s x (λ w k j lt below other. with_other w k j other)

  pub without_it : is_name x ≡ true → contains (without_name s x) x ≡ false
  unfolding without_name
  without_it is = at_same without_bit s x false without_same_lem is

  pub without_others : (y : ℕ) → (y ≡ x → ⊥) → contains (without_name s x) y ≡ contains s y
  unfolding without_name
  without_others = at_other without_bit s x without_other

-- words of 64 bits stay such
module _ (f : ℕ → ℕ → ℕ) (x : ℕ) (law : (w k : ℕ) → k < 64 → w < 2 ^ 64 → f w k < 2 ^ 64) where
  at_words : {s : NameSet} → Words s → Words (at_name f s x)
  at_words {s} ok = go (is_name x) (leb x 64) refl refl
    where
      go : (a b : Bool) → is_name x ≡ a → leb x 64 ≡ b → Words (at_name f s x)
      go false b e g = rw e ok
      go true true e g =
          let p = name_positive x e in
          let le = leb-true x 64 g in
          rw (e, g) (record { low = law s.low (x - 1) (omega arith) ok.low; high = ok.high })
      go true false e g =
          let p = name_most x e in
          let le = leb-false x 64 g in
          rw (e, g) (record { low = ok.low; high = law s.high (x - 65) (omega arith) ok.high })

pub with_words : (x : ℕ) {s : NameSet} → Words s → Words (with_name s x)
unfolding with_name
with_words x ok = at_words with_bit x (λ w k lt below. or_lt 64 w (2 ^ k) below (pow-lt lt)) ok

pub without_words : (x : ℕ) {s : NameSet} → Words s → Words (without_name s x)
unfolding without_name
without_words x ok = at_words without_bit x (λ w k lt below. lt_of_le_of_lt (and_le_l w ((2 ^ 64 - 1) - 2 ^ k)) below) ok

pub none_words : Words no_names
none_words = record { low = omega arith; high = omega arith }

set_eq : {a b c d : ℕ} → a ≡ c → b ≡ d → ◌≡◌ {A = NameSet} (record { low = a; high = b }) (record { low = c; high = d })
set_eq p q = cc

-- two sets of the same names are equal
pub same_names : {s t : NameSet} → Words s → Words t → ((x : ℕ) → is_name x ≡ true → contains s x ≡ contains t x) → s ≡ t
same_names {s} {t} a b same =
    let low : s.low ≡ t.low = digits_same 64 s.low t.low a.low b.low (λ k lt. bit_eq s.low t.low k (sym (contains_low s k lt) ∙ same (1 + k) (name_inside (1 + k) (omega arith) (omega arith)) ∙ contains_low t k lt)) in
    let high : s.high ≡ t.high = digits_same 64 s.high t.high a.high b.high (λ k lt. bit_eq s.high t.high k (sym (contains_high s k lt) ∙ same (65 + k) (name_inside (65 + k) (omega arith) (omega arith)) ∙ contains_high t k lt)) in
    set_eq low high

-- counting
pub count_append : (p : ℕ → Bool) (i n m : ℕ) → count_from p i (n + m) ≡ count_from p i n + count_from p (i + n) m
unfolding count_from
count_append p i zero m =
    let a : 0 + m ≡ m = omega arith in
    let b : i ≡ i + 0 = omega arith in
    ap (count_from p i) a ∙ ap (λ (k : ℕ). count_from p k m) b ∙ sym (zero-add (count_from p (i + 0) m))
count_append p i (suc n) m =
    let a : suc n + m ≡ suc (n + m) = omega arith in
    let b : suc i + n ≡ i + suc n = omega arith in
    ap (count_from p i) a ∙ ap (λ (k : ℕ). cond (p i) 1 0 + k) (count_append p (suc i) n m ∙ ap (λ (k : ℕ). count_from p (suc i) n + count_from p k m) b)
    ∙ sym (add_assoc (cond (p i) 1 0) _ _)

pub count_same : (p q : ℕ → Bool) (i j n : ℕ) → ((k : ℕ) → k < n → p (i + k) ≡ q (j + k)) → count_from p i n ≡ count_from q j n
unfolding count_from
count_same p q i j zero same = refl
count_same p q i j (suc n) same =
    let a : i ≡ i + 0 = omega arith in
    let b : j + 0 ≡ j = omega arith in
    ap₂ (λ (c : Bool) (k : ℕ). cond c 1 0 + k) (ap p a ∙ same 0 (omega arith) ∙ ap q b)
    (count_same p q (suc i) (suc j) n (λ k lt.
    let c : suc i + k ≡ i + suc k = omega arith in
    let d : j + suc k ≡ suc j + k = omega arith in
    ap p c ∙ same (suc k) (omega arith) ∙ ap q d))

word_counted : (s : NameSet) (w from : ℕ) → w < 2 ^ 64 → ((k : ℕ) → k < 64 → contains s (from + k) ≡ bit_of w k) → ones w ≡ count_from (contains s) from 64
word_counted s w from lt same =
    ap ones (sym (div-one w)) ∙ ones_counted 64 0 w lt ∙ sym (count_same (contains s) (bit_of w) from 0 64 (λ k below. same k below ∙ (let z : k ≡ 0 + k = omega arith in ap (bit_of w) z)))

pub set_counted : (s : NameSet) → Words s → ones s.low + ones s.high ≡ size_of s
unfolding size_of
set_counted s w =
    ap₂ (λ (a b : ℕ). a + b) (word_counted s s.low 1 w.low (contains_low s)) (word_counted s s.high 65 w.high (contains_high s))
    ∙ sym (count_append (contains s) 1 64 64)
