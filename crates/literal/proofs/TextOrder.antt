-- The texts of numbers with the same sign and equally many digits are in the order of their sizes.
use Prim.Native.Nat.{ℕ, zero, suc, ◌-◌, ◌/◌, ◌%◌, ◌^◌, ◌<◌, ◌≤◌}
use mathlib.Core.Bool.{Bool, true, false, beq, not, ◌&&◌}
use mathlib.Core.List.{List, [], ◌∷◌, ◌++◌}
use mathlib.Core.Logic.{⊎_elim}
use mathlib.Core.Path.{◌≡◌, refl, sym, ap, ◌∙◌}
use native.Mathlib.Omega.{arith}
use lib.Dec.{eqb}
use lib.ListN.{length}
use borrow.Author.Tests.{eqb-true, eq-eqb, ne_eqb, not-true, not-false}
use Rattle.literal.specs.Order.{then, nat_order, bytes_order, comparison_of}
use Rattle.literal.specs.Text.{digit, digits, decimal, signed, key_text, text_compared, texts_compared}
use Rattle.literal.specs.Reading.{literal_of}
use Rattle.literal.specs.code.SortKey.{key_of, same_form}
use Rattle.literal.specs.declared.key.SortKey.{SortKey}
use Rattle.literal.specs.declared.LiteralRef.{LiteralRef}
use Rattle.literal.specs.declared.Comparison.{Comparison}
use Rattle.literal.proofs.Orders.{nat_same, nat_like, nat_pairs, then_assoc, then_end}
use Rattle.literal.proofs.Numbers.{and_true}
use Rattle.literal.proofs.Decimals.{digits_one, digits_more, few_or_more, below_one, below_tenth, more_room, length_more, some_digits}
use Rattle.literal.proofs.Keys.{shown_key}
use Rattle.literal.proofs.Answers.{small_number}

-- how many digits two numbers have
one_long : (k n : ℕ) → n < 10 → length (digits (suc k) n) ≡ 1
one_long k n h = ap length (digits_one k n h)

more_long : (k n : ℕ) → n < 10 ^ suc k → 10 ≤ n → 1 < length (digits (suc k) n)
more_long k n h m =
    let room = more_room k n h m in
    let e : suc (k - 1) ≡ k = omega arith in
    let rest = rw e at (some_digits (k - 1) (n / 10)) in
    omega (arith, length_more k n m)

-- bytes of the same length, and one more byte each
bytes_last : (xs ys : List ℕ) (d e : ℕ) → length xs ≡ length ys → bytes_order (xs ++ (d ∷ [])) (ys ++ (e ∷ [])) ≡ then (bytes_order xs ys) (nat_order d e)
unfolding bytes_order
bytes_last [] [] d e h = then_end (nat_order d e)
bytes_last [] (y ∷ ys) d e h = absurd (omega arith)
bytes_last (x ∷ xs) [] d e h = absurd (omega arith)
bytes_last (x ∷ xs) (y ∷ ys) d e h = ap (then (nat_order x y)) (bytes_last xs ys d e (omega arith)) ∙ sym (then_assoc (nat_order x y) (bytes_order xs ys) (nat_order d e))

digit_order : (x y : ℕ) → nat_order (digit x) (digit y) ≡ nat_order x y
digit_order x y = nat_like (digit x) (digit y) x y (λ lt. omega arith) (λ e. omega arith) (λ gt. omega arith)

tens_order : (m n : ℕ) → nat_order m n ≡ then (nat_order (m / 10) (n / 10)) (nat_order (m % 10) (n % 10))
tens_order m n =
    nat_pairs m n (m / 10) (n / 10) (m % 10) (n % 10) (λ lt. omega arith)
    (λ e. nat_like m n (m % 10) (n % 10) (λ lt. omega arith) (λ i. omega arith) (λ gt. omega arith))
    (λ gt. omega arith)

-- digits of the same length are in the order of their numbers
one_order : (k m n : ℕ) → m < 10 → n < 10 → bytes_order (digits (suc k) m) (digits (suc k) n) ≡ nat_order m n
unfolding bytes_order
one_order k m n h l = rw (digits_one k m h, digits_one k n l) (then_end (nat_order (digit m) (digit n)) ∙ digit_order m n)

more_order : (k m n : ℕ) → 10 ≤ m → 10 ≤ n → length (digits k (m / 10)) ≡ length (digits k (n / 10))
    → bytes_order (digits k (m / 10)) (digits k (n / 10)) ≡ nat_order (m / 10) (n / 10) → bytes_order (digits (suc k) m) (digits (suc k) n) ≡ nat_order m n
more_order k m n h l long rest =
    rw (digits_more k m h, digits_more k n l)
    (bytes_last (digits k (m / 10)) (digits k (n / 10)) (digit (m % 10)) (digit (n % 10)) long
    ∙ rw (rest, digit_order (m % 10) (n % 10)) (sym (tens_order m n)))

digits_order : (k m n : ℕ) → m < 10 ^ k → n < 10 ^ k → length (digits k m) ≡ length (digits k n) → bytes_order (digits k m) (digits k n) ≡ nat_order m n
unfolding bytes_order digits
digits_order zero m n h l e = sym (nat_same m n (below_one m h ∙ sym (below_one n l)))
digits_order (suc k) m n h l e =
    ⊎_elim
    (λ m-few.
    ⊎_elim (λ n-few. one_order k m n m-few n-few) (λ n-more. absurd (omega (arith, one_long k m m-few, more_long k n l n-more))) (few_or_more n))
    (λ m-more.
    ⊎_elim (λ n-few. absurd (omega (arith, one_long k n n-few, more_long k m h m-more)))
    (λ n-more.
    let long : length (digits k (m / 10)) ≡ length (digits k (n / 10)) = omega (arith, length_more k m m-more, length_more k n n-more) in
    more_order k m n m-more n-more long (digits_order k (m / 10) (n / 10) (below_tenth k m h) (below_tenth k n l) long))
    (few_or_more n))
    (few_or_more m)

signed_order : (s : Bool) (xs ys : List ℕ) → bytes_order (signed s xs) (signed s ys) ≡ bytes_order xs ys
unfolding bytes_order
signed_order true xs ys = refl
signed_order false xs ys = refl

-- two keys of the same form
beq_true : (s t : Bool) → beq s t ≡ true → s ≡ t
beq_true true true h = refl
beq_true true false h = sym h
beq_true false true h = h
beq_true false false h = refl

module _ (x y : SortKey) where
  pub ranks_differ : (x.rank ≡ y.rank → ⊥) → false ≡ same_form x y
  ranks_differ h = rw (ne_eqb x.rank y.rank h)

  module _ (h : x.rank ≡ y.rank) where
    pub signs_differ : not (beq x.below y.below) ≡ true → false ≡ same_form x y
    signs_differ k = rw (eq-eqb x.rank y.rank h, not-true (beq x.below y.below) k)

    pub form_by_digits : not (beq x.below y.below) ≡ false → {r : Bool} → r ≡ eqb (length (decimal x.size)) (length (decimal y.size)) → r ≡ same_form x y
    form_by_digits k e = e ∙ rw (eq-eqb x.rank y.rank h, not-false (beq x.below y.below) k)

module _ (numbers strings text : List ℕ) (l m : LiteralRef) {x y : SortKey} (ex : x ≡ key_of (literal_of numbers strings text l)) (ey : y ≡ key_of (literal_of numbers strings text m)) where
  pub texts_by_size : x.rank ≡ 3 → {t : Bool} → t ≡ same_form x y → t ≡ true → {r : Comparison} → r ≡ comparison_of (nat_order x.size y.size) → r ≡ texts_compared (literal_of numbers strings text l) (literal_of numbers strings text m)
  unfolding texts_compared text_compared key_text
  texts_by_size h f t is =
      let both = and_true (eqb x.rank y.rank) (beq x.below y.below && eqb (length (decimal x.size)) (length (decimal y.size))) (sym f ∙ t) in
      let more = and_true (beq x.below y.below) (eqb (length (decimal x.size)) (length (decimal y.size))) both.1 in
      let k : y.rank ≡ 3 = sym (eqb-true x.rank y.rank both.0) ∙ h in
      let sign = beq_true x.below y.below more.0 in
      let long = eqb-true (length (decimal x.size)) (length (decimal y.size)) more.1 in
      let lx = shown_key (literal_of numbers strings text l) 3 ex h in
      let ly = shown_key (literal_of numbers strings text m) 3 ey k in
      let sx = (small_number numbers strings text l x.below x.size lx).largest in
      let sy = (small_number numbers strings text m y.below y.size ly).largest in
      let order = signed_order y.below (decimal x.size) (decimal y.size) ∙ digits_order 20 x.size y.size (omega arith) (omega arith) long in
      is ∙ rw (lx, ly, sign, order)
