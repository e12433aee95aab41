-- The byte layout: what it says of a name after a call, and of the sum of marks.
use Prim.Native.Nat.{ℕ, zero, suc, ◌+◌, ◌-◌, ◌*◌, ◌/◌, ◌%◌, ◌≤◌, ◌<◌}
use mathlib.Core.Path.{◌≡◌, refl, sym, ap, ◌∙◌}
use mathlib.Core.List.{List, [], ◌∷◌, map}
use mathlib.Core.Bool.{Bool, true, false, cond, not, ◌&&◌, and-eq-true_iff}
use native.Mathlib.Omega.{arith}
use native.Mathlib.Nat.{div-div-eq-div-mul, div-one, mod-eq_of_lt}
use borrow.Author.Tests.{leb-true, le-leb, eqb-true, eqb-false}
use lib.ListN.{length, get_or, set, replicate, length-set, length-map, get_or-map}
use lib.Seq.{get_or-set_same, get_or-set_other}
use lib.Dec.{eqb, leb}
use Rattle.base.specs.Lists.{tabulate}
use Rattle.scope.specs.declared.ByteScope.{ByteScope}
use Rattle.scope.specs.Names.{is_name}
use Rattle.scope.specs.Says.{Says, bind, add_unbound, in_child, nothing}
use Rattle.scope.specs.Bytes.{has, mark_of, says_mark, says, is_underscore, with_marks, with_lower, bind_variable, add_unbound_variable, without_same, child_of, empty_bytes, small_marks, marks_ok, weight}
use Rattle.scope.proofs.Sets.{name_positive, name_most}

-- the bits of a mark whose lower four were replaced
module _ (m lower : ℕ) (low : lower < 16) where
  lower_1 : (m / 16 * 16 + lower) / 1 % 2 ≡ lower / 1 % 2
  lower_1 = omega arith

  lower_2 : (m / 16 * 16 + lower) / 2 % 2 ≡ lower / 2 % 2
  lower_2 = omega arith

  lower_4 : (m / 16 * 16 + lower) / 4 % 2 ≡ lower / 4 % 2
  lower_4 = omega arith

  lower_8 : (m / 16 * 16 + lower) / 8 % 2 ≡ lower / 8 % 2
  lower_8 = omega arith

  lower_16 : (m / 16 * 16 + lower) / 16 % 2 ≡ m / 16 % 2
  lower_16 = omega arith

  lower_says : says_mark (m / 16 * 16 + lower) ≡ record { bound = has 1 lower; here = has 2 lower; unbound = has 4 lower; local = has 8 lower; global = has 16 m }
  lower_says = simp (lower_1, lower_2, lower_4, lower_8, lower_16)

-- the bits of a mark that lost 2
module _ (m : ℕ) where
  without_1 : without_same m / 1 % 2 ≡ m / 1 % 2
  without_1 = omega arith

  without_2 : without_same m / 2 % 2 ≡ 0
  without_2 = omega arith

  without_quarter : without_same m / 4 ≡ m / 4
  without_quarter = omega (arith, div-div-eq-div-mul m 2 2)

  without_8 : without_same m / 8 % 2 ≡ m / 8 % 2
  without_8 = rw (← div-div-eq-div-mul (without_same m) 4 2, ← div-div-eq-div-mul m 4 2, without_quarter)

  without_16 : without_same m / 16 % 2 ≡ m / 16 % 2
  without_16 = rw (← div-div-eq-div-mul (without_same m) 4 4, ← div-div-eq-div-mul m 4 4, without_quarter)

  without_says : says_mark (without_same m) ≡ in_child (says_mark m)
  without_says = simp (without_1, without_2, without_quarter, without_8, without_16)

-- `c` says of every name what `b` says, but of the name x what `change` makes of it.
pub record MarksChanged (change : Says → Says) (b c : ByteScope) (x : ℕ) : Type 0 where
  pub sized : length b.marks ≡ 128 → length c.marks ≡ 128
  pub frame_underscore : c.underscore ≡ b.underscore
  pub frame_scheduler : c.scheduler ≡ b.scheduler
  pub at : length b.marks ≡ 128 → is_name x ≡ true → is_underscore b x ≡ false → says c x ≡ change (says b x)
  pub others : (y : ℕ) → is_name y ≡ true → (y ≡ x → ⊥) → says c y ≡ says b y
  pub outside : is_name x ≡ false → c ≡ b
  pub underscore : is_underscore b x ≡ true → c ≡ b

module _ (lower : ℕ) (low : lower < 16) (change : Says → Says)
    (means : (m : ℕ) → record { bound = has 1 lower; here = has 2 lower; unbound = has 4 lower; local = has 8 lower; global = has 16 m } ≡ change (says_mark m))
    (b : ByteScope) (x : ℕ) where
  lower_none : is_name x ≡ false → with_lower lower b x ≡ b
  unfolding with_lower
  lower_none e = simp e

  lower_underscore : is_underscore b x ≡ true → with_lower lower b x ≡ b
  unfolding with_lower
  lower_underscore e = go (is_name x) refl
    where
      go : (a : Bool) → is_name x ≡ a → with_lower lower b x ≡ b
      go true f = simp (f, e)
      go false f = lower_none f

  lower_changed : MarksChanged change b (with_lower lower b x) x
  unfolding with_lower says
  lower_changed = record {
    sized = λ h. sized (is_name x && not (is_underscore b x)) h;
    frame_underscore = frame_u (is_name x && not (is_underscore b x));
    frame_scheduler = frame_h (is_name x && not (is_underscore b x));
    at = λ long is other.
        simp (is, other)
        (ap says_mark (get_or-set_same b.marks (x - 1) (mark_of b x / 16 * 16 + lower) 0 (omega (arith, name_positive x is, name_most x is)))
        ∙ lower_says (mark_of b x) lower low ∙ means (mark_of b x));
    others = λ y is other. others (is_name x) (is_underscore b x) refl refl y is other;
    outside = lower_none;
    underscore = lower_underscore;
  }
    where
      t : ByteScope
      t = with_marks b (set b.marks (x - 1) (mark_of b x / 16 * 16 + lower))

      sized : (c : Bool) → length b.marks ≡ 128 → length (cond c t b).marks ≡ 128
      sized true h = length-set b.marks (x - 1) (mark_of b x / 16 * 16 + lower) ∙ h
      sized false h = h

      frame_u : (c : Bool) → (cond c t b).underscore ≡ b.underscore
      frame_u true = refl
      frame_u false = refl

      frame_h : (c : Bool) → (cond c t b).scheduler ≡ b.scheduler
      frame_h true = refl
      frame_h false = refl

      others : (c d : Bool) → is_name x ≡ c → is_underscore b x ≡ d → (y : ℕ) → is_name y ≡ true → (y ≡ x → ⊥) → says (with_lower lower b x) y ≡ says b y
      others false d e f y is other = simp e
      others true true e f y is other = simp (e, f)
      others true false e f y is other =
          let p = name_positive x e in
          let q = name_positive y is in
          simp (e, f) (ap says_mark (get_or-set_other b.marks (x - 1) (y - 1) (mark_of b x / 16 * 16 + lower) 0 (λ r. other (omega arith))))

pub bind_marks : (b : ByteScope) (x : ℕ) → MarksChanged bind b (bind_variable b x) x
unfolding bind_variable
bind_marks b x = lower_changed 3 (omega arith) bind (λ m. refl) b x

pub add_marks : (b : ByteScope) (x : ℕ) → MarksChanged add_unbound b (add_unbound_variable b x) x
unfolding add_unbound_variable
add_marks b x = lower_changed 4 (omega arith) add_unbound (λ m. refl) b x

pub child_sized : (b : ByteScope) → length b.marks ≡ 128 → length (child_of b).marks ≡ 128
unfolding child_of
child_sized b h = length-map b.marks without_same ∙ h

pub child_marks : (b : ByteScope) (x : ℕ) → says (child_of b) x ≡ in_child (says b x)
unfolding child_of says
child_marks b x = ap says_mark (get_or-map without_same b.marks (x - 1) 0) ∙ without_says (mark_of b x)

get_or_zeros : (n i : ℕ) → ◌≡◌ {A = ℕ} (get_or (replicate n 0) i 0) 0
get_or_zeros zero i = refl
get_or_zeros (suc n) zero = refl
get_or_zeros (suc n) (suc i) = get_or_zeros n i

pub new_marks : (u : ℕ) (h : Bool) (x : ℕ) → says (empty_bytes u h) x ≡ nothing
unfolding empty_bytes says
new_marks u h x = ap says_mark (get_or_zeros 128 (x - 1))

-- marks of at most 31
pub small_at : (ms : List ℕ) → small_marks ms ≡ true → (i : ℕ) → get_or ms i 0 ≤ 31
unfolding small_marks
small_at [] ok i = omega arith
small_at (m ∷ ms) ok zero = leb-true m 31 ((and-eq-true_iff (leb m 31) _).0 ok).0
small_at (m ∷ ms) ok (suc i) = small_at ms ((and-eq-true_iff (leb m 31) _).0 ok).1 i

pub small_each : (ms : List ℕ) → ((i : ℕ) → get_or ms i 0 ≤ 31) → small_marks ms ≡ true
unfolding small_marks
small_each [] le = refl
small_each (m ∷ ms) le = simp (le-leb m 31 (le 0)) (small_each ms (λ i. le (suc i)))

pub small_tabulated : (f : ℕ → ℕ) → ((i : ℕ) → f i ≤ 31) → (i n : ℕ) → small_marks (tabulate f i n) ≡ true
unfolding small_marks tabulate
small_tabulated f le i zero = refl
small_tabulated f le i (suc n) = simp (le-leb (f i) 31 (le i)) (small_tabulated f le (i + 1) n)

small_set : (ms : List ℕ) (i m : ℕ) → small_marks ms ≡ true → m ≤ 31 → small_marks (set ms i m) ≡ true
unfolding small_marks
small_set [] i m ok le = refl
small_set (n ∷ ms) zero m ok le = simp (le-leb m 31 le) ((and-eq-true_iff (leb n 31) _).0 ok).1
small_set (n ∷ ms) (suc i) m ok le =
    let both = (and-eq-true_iff (leb n 31) _).0 ok in
    simp both.0 (small_set ms i m both.1 le)

small_without : (ms : List ℕ) → small_marks ms ≡ true → small_marks (map without_same ms) ≡ true
unfolding small_marks
small_without [] ok = refl
small_without (m ∷ ms) ok =
    let both = (and-eq-true_iff (leb m 31) _).0 ok in
    let h = leb-true m 31 both.0 in
    simp (le-leb (without_same m) 31 (omega arith)) (small_without ms both.1)

lower_small : (lower : ℕ) → lower < 16 → (b : ByteScope) (x : ℕ) → marks_ok b ≡ true → marks_ok (with_lower lower b x) ≡ true
unfolding with_lower marks_ok
lower_small lower low b x ok = go (is_name x && not (is_underscore b x))
  where
    go : (c : Bool) → small_marks (cond c (with_marks b (set b.marks (x - 1) (mark_of b x / 16 * 16 + lower))) b).marks ≡ true
    go true = let le = small_at b.marks ok (x - 1) in small_set b.marks (x - 1) (mark_of b x / 16 * 16 + lower) ok (omega arith)
    go false = ok

pub bind_small : (b : ByteScope) (x : ℕ) → marks_ok b ≡ true → marks_ok (bind_variable b x) ≡ true
unfolding bind_variable
bind_small b x ok = lower_small 3 (omega arith) b x ok

pub add_small : (b : ByteScope) (x : ℕ) → marks_ok b ≡ true → marks_ok (add_unbound_variable b x) ≡ true
unfolding add_unbound_variable
add_small b x ok = lower_small 4 (omega arith) b x ok

pub child_small : (b : ByteScope) → marks_ok b ≡ true → marks_ok (child_of b) ≡ true
unfolding child_of marks_ok
child_small b ok = small_without b.marks ok

-- a sum of marks
weighs : (a : Bool) (k : ℕ) → weight a k ≡ weight a 1 * k
weighs true k = omega arith
weighs false k = omega arith

one_at_most : (a : Bool) → weight a 1 ≤ 1
one_at_most true = omega arith
one_at_most false = omega arith

tells : (a : Bool) {n : ℕ} → n ≡ weight a 1 → eqb n 1 ≡ a
tells true e = rw e
tells false e = rw e

-- a number of five bits, the lowest first
low_bit : {n v : ℕ} (r : ℕ) → v ≤ 1 → n ≡ v + r * 2 → n % 2 ≡ v
low_bit {n} {v} r le is = omega arith

half : {n v r : ℕ} → v ≤ 1 → n ≡ v + r * 2 → n / 2 ≡ r
half {n} {v} {r} le is = omega arith

module _ (n a b c d e : ℕ) (la : a ≤ 1) (lb : b ≤ 1) (lc : c ≤ 1) (ld : d ≤ 1) (le : e ≤ 1) (is : n ≡ a + (b + (c + (d + e * 2) * 2) * 2) * 2) where
  half_1 : n / 2 ≡ b + (c + (d + e * 2) * 2) * 2
  half_1 = half la is

  half_2 : n / 4 ≡ c + (d + e * 2) * 2
  half_2 = sym (div-div-eq-div-mul n 2 2) ∙ half lb half_1

  half_3 : n / 8 ≡ d + e * 2
  half_3 = sym (div-div-eq-div-mul n 4 2) ∙ half lc half_2

  half_4 : n / 16 ≡ e
  half_4 = sym (div-div-eq-div-mul n 8 2) ∙ half ld half_3

  pub bit_0 : n / 1 % 2 ≡ a
  bit_0 = ap (λ (m : ℕ). m % 2) (div-one n) ∙ low_bit (b + (c + (d + e * 2) * 2) * 2) la is

  pub bit_1 : n / 2 % 2 ≡ b
  bit_1 = low_bit (c + (d + e * 2) * 2) lb half_1

  pub bit_2 : n / 4 % 2 ≡ c
  bit_2 = low_bit (d + e * 2) lc half_2

  pub bit_3 : n / 8 % 2 ≡ d
  bit_3 = low_bit e ld half_3

  pub bit_4 : n / 16 % 2 ≡ e
  bit_4 = ap (λ (m : ℕ). m % 2) half_4 ∙ mod-eq_of_lt (omega arith)

-- the sum of five marks
module _ (a b c d e : Bool) where
  abbrev summed : ℕ
  summed = weight a 1 + weight b 2 + weight c 4 + weight d 8 + weight e 16

  summed_is : summed ≡ weight a 1 + (weight b 1 + (weight c 1 + (weight d 1 + weight e 1 * 2) * 2) * 2) * 2
  summed_is = rw (weighs b 2, weighs c 4, weighs d 8, weighs e 16) (omega arith)

  pub summed_small : summed ≤ 31
  summed_small = omega (arith, summed_is, one_at_most a, one_at_most b, one_at_most c, one_at_most d, one_at_most e)

  pub summed_says : says_mark summed ≡ record { bound = a; here = b; unbound = c; local = d; global = e }
  summed_says =
      let p = one_at_most in
      let at-0 = bit_0 summed _ _ _ _ _ (p a) (p b) (p c) (p d) (p e) summed_is in
      let at_1 = bit_1 summed _ _ _ _ _ (p a) (p b) (p c) (p d) (p e) summed_is in
      let at-2 = bit_2 summed _ _ _ _ _ (p a) (p b) (p c) (p d) (p e) summed_is in
      let at-3 = bit_3 summed _ _ _ _ _ (p a) (p b) (p c) (p d) (p e) summed_is in
      let at-4 = bit_4 summed _ _ _ _ _ (p a) (p b) (p c) (p d) (p e) summed_is in
      simp (tells a at-0, tells b at_1, tells c at-2, tells d at-3, tells e at-4)

-- a mark of at most 31 is the sum of its bits
weight_bit : (k n : ℕ) → n < 2 → weight (eqb n 1) k ≡ n * k
weight_bit k n lt = go (eqb n 1) refl
  where
    go : (b : Bool) → eqb n 1 ≡ b → weight (eqb n 1) k ≡ n * k
    go true e = let is = eqb-true n 1 e in rw e (rw is (omega arith))
    go false e =
        let differs = eqb-false n 1 e in
        let is : n ≡ 0 = omega (arith, differs) in
        rw e (rw is (omega arith))

halved : (n : ℕ) → n % 2 + n / 2 * 2 ≡ n
halved n = omega arith

joined : (v w x y z h q e n : ℕ) → v + h * 2 ≡ n → w + q * 2 ≡ h → x + e * 2 ≡ q → y + z * 2 ≡ e → v * 1 + w * 2 + x * 4 + y * 8 + z * 16 ≡ n
joined v w x y z h q e n p₁ p₂ p₃ p₄ = omega arith

five_bits : (m : ℕ) → m ≤ 31 → m / 1 % 2 * 1 + m / 2 % 2 * 2 + m / 4 % 2 * 4 + m / 8 % 2 * 8 + m / 16 % 2 * 16 ≡ m
five_bits m le =
    let top : m / 16 % 2 ≡ m / 16 = mod-eq_of_lt (omega arith) in
    rw (div-one m, top)
    (joined (m % 2) (m / 2 % 2) (m / 4 % 2) (m / 8 % 2) (m / 16) (m / 2) (m / 4) (m / 8) m
    (halved m) (rw (div-div-eq-div-mul m 2 2) at (halved (m / 2))) (rw (div-div-eq-div-mul m 4 2) at (halved (m / 4))) (rw (div-div-eq-div-mul m 8 2) at (halved (m / 8))))

pub mark_summed : (m : ℕ) → m ≤ 31 → weight (has 1 m) 1 + weight (has 2 m) 2 + weight (has 4 m) 4 + weight (has 8 m) 8 + weight (has 16 m) 16 ≡ m
mark_summed m le =
    rw (
      weight_bit 1 (m / 1 % 2) (omega arith),
      weight_bit 2 (m / 2 % 2) (omega arith),
      weight_bit 4 (m / 4 % 2) (omega arith),
      weight_bit 8 (m / 8 % 2) (omega arith),
      weight_bit 16 (m / 16 % 2) (omega arith),
    ) (five_bits m le)
