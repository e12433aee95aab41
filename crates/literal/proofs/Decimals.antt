-- The decimal digits of a number: read back they give it, with no zero in front.
use Prim.Native.Nat.{ℕ, zero, suc, ◌+◌, ◌-◌, ◌*◌, ◌/◌, ◌%◌, ◌^◌, ◌<◌, ◌≤◌}
use mathlib.Core.Bool.{Bool, true, false}
use mathlib.Core.List.{List, [], ◌∷◌, ◌++◌}
use mathlib.Core.Logic.{◌⊎◌, inl, inr, ⊎_elim}
use mathlib.Core.Path.{◌≡◌, refl, sym, ap, ◌∙◌}
use native.Mathlib.Omega.{arith}
use native.Mathlib.Nat.{pow-zero, pow-suc, one-le-pow}
use lib.Dec.{ltb}
use lib.ListN.{length, get_or, drop, length-append, get_or-append}
use borrow.Author.Tests.{ltb-true, ltb-false, lt-ltb, le-ltb}
use Rattle.std.specs.Prelude.{Option, None, Some}
use Rattle.std.specs.Option.{IfNone, IfSome, unwrap_or}
use Rattle.literal.specs.Text.{digit, digits, decimal, value, key_text}
use Rattle.literal.specs.Literal.{number}
use Rattle.literal.specs.Laws.{DecimalForm}

-- one digit, and one more
pub digits_one : (k n : ℕ) → n < 10 → digits (suc k) n ≡ digit n ∷ []
unfolding digits
digits_one k n h = simp (lt-ltb n 10 h)

pub digits_more : (k n : ℕ) → 10 ≤ n → digits (suc k) n ≡ digits k (n / 10) ++ (digit (n % 10) ∷ [])
unfolding digits
digits_more k n h = simp (le-ltb n 10 h)

pub few_or_more : (n : ℕ) → (n < 10) ⊎ (10 ≤ n)
few_or_more n = go (ltb n 10) refl
  where
    go : (b : Bool) → ltb n 10 ≡ b → (n < 10) ⊎ (10 ≤ n)
    go true e = inl (ltb-true n 10 e)
    go false e = inr (ltb-false n 10 e)

pub below_tenth : (k n : ℕ) → n < 10 ^ suc k → n / 10 < 10 ^ k
below_tenth k n h = let m = rw (pow-suc 10 k) at h in omega arith

pub below_one : (n : ℕ) → n < 10 ^ 0 → n ≡ 0
below_one n h = let m = rw (pow-zero 10) at h in omega arith

pub more_room : (k n : ℕ) → n < 10 ^ suc k → 10 ≤ n → 1 ≤ k
more_room zero n h m = absurd (omega arith)
more_room (suc k) n h m = omega arith

-- how many
pub length_more : (k n : ℕ) → 10 ≤ n → length (digits (suc k) n) ≡ length (digits k (n / 10)) + 1
length_more k n h = ap length (digits_more k n h) ∙ length-append (digits k (n / 10)) (digit (n % 10) ∷ [])

pub digits_length : (m k n : ℕ) → n < 10 ^ suc k → length (digits m n) ≤ suc k
unfolding digits
digits_length zero k n h = omega arith
digits_length (suc m) zero n h = omega (arith, ap length (digits_one m n h))
digits_length (suc m) (suc k) n h =
    ⊎_elim (λ few. omega (arith, ap length (digits_one m n few)))
    (λ more. omega (arith, length_more m n more, digits_length m k (n / 10) (below_tenth (suc k) n h)))
    (few_or_more n)

pub some_digits : (k n : ℕ) → 0 < length (digits (suc k) n)
some_digits k n =
    ⊎_elim (λ few. omega (arith, ap length (digits_one k n few))) (λ more. omega (arith, length_more k n more)) (few_or_more n)

digits_at_least : (m k n : ℕ) → k < m → 10 ^ k ≤ n → suc k ≤ length (digits m n)
digits_at_least zero k n lt h = absurd (omega arith)
digits_at_least (suc m) zero n lt h = let some = some_digits m n in omega arith
digits_at_least (suc m) (suc k) n lt h =
    let low = rw (pow-suc 10 k) at h in
    let some = one-le-pow k 10 (omega arith) in
    omega (arith, length_more m n (omega arith), digits_at_least m k (n / 10) (omega arith) (omega arith))

digits_between : (k n : ℕ) → k < 20 → 10 ^ k ≤ n → n < 10 * 10 ^ k → length (decimal n) ≡ k + 1
digits_between k n lt low high =
    let above = digits_at_least 20 k n lt low in
    let below = digits_length 20 k n (rw (pow-suc 10 k) (omega arith)) in
    omega arith

pub digits_counted : (size : ℕ) (o : Option ℕ) → IfNone o (size ≡ 0) → IfSome o (λ k. 10 ^ k ≤ size) → IfSome o (λ k. size < 10 * 10 ^ k) → IfSome o (λ k. k < 20)
    → unwrap_or o 0 + 1 ≡ length (decimal size)
digits_counted size None none low high few = sym (ap length (digits_one 19 size (omega arith)))
digits_counted size (Some k) none low high few = sym (digits_between k size few low high)

-- Read back, the digits give the number.
value_last : (at : ℕ) (ds : List ℕ) (d : ℕ) → value at (ds ++ (d ∷ [])) ≡ value at ds * 10 + (d - 48)
unfolding value
value_last at [] d = refl
value_last at (e ∷ ds) d = value_last (at * 10 + (e - 48)) ds d

digits_value : (k n : ℕ) → n < 10 ^ k → value 0 (digits k n) ≡ n
unfolding digits value
digits_value zero n h = sym (below_one n h)
digits_value (suc k) n h =
    ⊎_elim (λ few. ap (value 0) (digits_one k n few) ∙ omega arith)
    (λ more.
    let rest = digits_value k (n / 10) (below_tenth k n h) in
    let last = value_last 0 (digits k (n / 10)) (digit (n % 10)) in
    ap (value 0) (digits_more k n more) ∙ omega arith)
    (few_or_more n)

-- The first digit is one, and 0 for the number 0 alone.
record First (d n : ℕ) : Type 0 where
  low : 48 ≤ d
  high : d ≤ 57
  none_in_front : d ≡ 48 → n ≡ 0

first_one : (k n : ℕ) → n < 10 → First (get_or (digits (suc k) n) 0 0) n
first_one k n h = rw (digits_one k n h) (record { low = omega arith; high = omega arith; none_in_front = λ e. omega arith })

digits_first : (k n : ℕ) → n < 10 ^ suc k → First (get_or (digits (suc k) n) 0 0) n
digits_first zero n h = first_one 0 n h
digits_first (suc k) n h =
    ⊎_elim (λ few. first_one (suc k) n few)
    (λ more.
    let rest = digits_first k (n / 10) (below_tenth (suc k) n h) in
    let ds = digits (suc k) (n / 10) in
    let same : get_or (digits (suc (suc k)) n) 0 0 ≡ get_or ds 0 0 =
    ap (λ (xs : List ℕ). get_or xs 0 0) (digits_more (suc k) n more) ∙ get_or-append ds (digit (n % 10) ∷ []) 0 0 (some_digits k (n / 10)) in
    rw same (record { low = rest.low; high = rest.high; none_in_front = λ e. omega (arith, rest.none_in_front e) }))
    (few_or_more n)

pub decimal_form : (n : ℕ) → n < 10 ^ 20 → DecimalForm n
decimal_form n h = record { read_back = digits_value 20 n h; no_zero_in_front = (digits_first 19 n h).none_in_front }

-- so numbers that differ have texts that differ
decimal_equal : (m n : ℕ) → m < 10 ^ 20 → n < 10 ^ 20 → decimal m ≡ decimal n → m ≡ n
decimal_equal m n h k e = sym (digits_value 20 m h) ∙ (ap (value 0) e ∙ digits_value 20 n k)

minus_apart : (m n : ℕ) → n < 10 ^ 20 → 45 ∷ decimal m ≡ decimal n → ⊥
minus_apart m n h e =
    let first = digits_first 19 n h in
    omega (arith, ap (λ (xs : List ℕ). get_or xs 0 0) e)

pub number_text_equal : (s : Bool) (m : ℕ) (t : Bool) (n : ℕ) → m < 10 ^ 20 → n < 10 ^ 20 → key_text (number s m) ≡ key_text (number t n) → number s m ≡ number t n
unfolding key_text
number_text_equal true m true n h k e = ap (number true) (decimal_equal m n h k (ap (drop 1) e))
number_text_equal true m false n h k e = absurd (minus_apart m n k e)
number_text_equal false m true n h k e = absurd (minus_apart n m h (sym e))
number_text_equal false m false n h k e = ap (number false) (decimal_equal m n h k e)
