-- The comparison of two strings from the front: by chunks that are the same, by words, by bytes.
use Prim.Native.Nat.{ℕ, zero, suc, ◌+◌, ◌-◌, ◌*◌, ◌^◌, ◌<◌, ◌≤◌, min}
use mathlib.Core.Bool.{Bool, true, false, false≢true, not, ◌&&◌}
use mathlib.Core.List.{List}
use mathlib.Core.Logic.{◌⊎◌, inl, inr}
use mathlib.Core.Path.{◌≡◌, refl, sym, ap, ◌∙◌}
use native.Mathlib.Numerals.{add-one}
use native.Mathlib.Omega.{arith}
use borrow.Author.Tests.{eqb-true, ltb-true, ltb-false, not-false}
use lib.Dec.{eqb, ltb}
use lib.ListN.{length, get_or, drop, drop_of_length-le}
use lib.Seq.{drop-cons}
use Rattle.literal.specs.Order.{Order, then, nat_order, bytes_order, comparison_of}
use Rattle.literal.specs.code.Chunks.{Prefix, same_from, said, Said}
use Rattle.literal.specs.declared.Comparison.{Comparison}
use Rattle.literal.proofs.Orders.{three_ways, nat_less, nat_same, nat_more, nat_like, nat_pairs, then_assoc}

-- one byte of both
front : (a b : List ℕ) (i : ℕ) → i < length a → i < length b
    → bytes_order (drop i a) (drop i b) ≡ then (nat_order (get_or a i 0) (get_or b i 0)) (bytes_order (drop (i + 1) a) (drop (i + 1) b))
unfolding bytes_order
front a b i h k = rw (add-one i, drop-cons a i 0 h, drop-cons b i 0 k)

pub prefix_start : (a b : List ℕ) → Prefix a b 0
prefix_start a b = record { left = omega arith; right = omega arith; rest = refl }

prefix_on : {a b : List ℕ} {i : ℕ} → Prefix a b i → i < length a → i < length b → get_or a i 0 ≡ get_or b i 0 → Prefix a b (i + 1)
prefix_on {a} {b} {i} p h k e =
    record { left = omega arith; right = omega arith; rest = sym (rw (nat_same (get_or a i 0) (get_or b i 0) e) at (front a b i h k)) ∙ p.rest }

-- chunks that are the same
pub record Alike (a b : List ℕ) (at : ℕ) (sameSoFar : Bool) (i : ℕ) : Type 0 where
  pub few : i ≤ 64
  pub left : at + 64 ≤ length a
  pub right : at + 64 ≤ length b
  pub is : sameSoFar ≡ same_from a b at i

pub alike_start : (a b : List ℕ) (at : ℕ) → at + 64 ≤ length a → at + 64 ≤ length b → Alike a b at true 0
unfolding same_from
alike_start a b at h k = record { few = omega arith; left = h; right = k; is = refl }

module _ {a b : List ℕ} {at : ℕ} {s : Bool} {i : ℕ} (w : Alike a b at s i) where
  pub alike_on : i < 64 → Alike a b at (s && eqb (get_or a (at + i) 0) (get_or b (at + i) 0)) (i + 1)
  unfolding same_from
  alike_on lt = record { few = omega arith; left = w.left; right = w.right; is = rw (add-one i, w.is) }

  pub alike_ends : 64 ≤ i → s ≡ same_from a b at 64
  alike_ends ge = let e : i ≡ 64 = omega (arith, w.few) in w.is ∙ ap (same_from a b at) e

and_both : (p q : Bool) → (p && q) ≡ true → (p ≡ true) × (q ≡ true)
and_both true q e = (refl, e)
and_both false q e = absurd (false≢true e)

pub prefix_same : {a b : List ℕ} {at : ℕ} (k : ℕ) → Prefix a b at → at + k ≤ length a → at + k ≤ length b → same_from a b at k ≡ true → Prefix a b (at + k)
unfolding same_from
prefix_same {at = at} zero p h l e = let z : at + 0 ≡ at = omega arith in rw z p
prefix_same {a} {b} {at} (suc k) p h l e =
    let both = and_both (same_from a b at k) (eqb (get_or a (at + k) 0) (get_or b (at + k) 0)) e in
    let on : Prefix a b (at + k + 1) = prefix_on (prefix_same k p (omega arith) (omega arith) both.0) (omega arith) (omega arith) (eqb-true (get_or a (at + k) 0) (get_or b (at + k) 0) both.1) in
    let z : at + suc k ≡ at + k + 1 = omega arith in
    rw z on

pub chunk_on : {a b : List ℕ} {i n shorter : ℕ} {r : Bool} → Prefix a b i → shorter ≡ min (length a) (length b) → n ≡ i + 64 → n ≤ shorter → r ≡ same_from a b i 64 → not r ≡ false → Prefix a b n
chunk_on {a} {b} {i} {r = r} p s next le is t = rw next (prefix_same 64 p (omega arith) (omega arith) (sym is ∙ not-false r t))

-- words: a number of two digits, the second below 256
digit : (h g x y : ℕ) → x < 2 ^ 8 → y < 2 ^ 8 → nat_order (h * 256 + x) (g * 256 + y) ≡ then (nat_order h g) (nat_order x y)
digit h g x y p q =
    nat_pairs (h * 256 + x) (g * 256 + y) h g x y (λ lt. omega arith)
    (λ e. nat_like (h * 256 + x) (g * 256 + y) x y (λ lt. omega arith) (λ i. omega arith) (λ gt. omega arith))
    (λ gt. omega arith)

-- the order of what k bytes say, and then of the rest
said_order : (a b : List ℕ) (h g at k : ℕ) → at + k ≤ length a → at + k ≤ length b
    → ((j : ℕ) → j < k → get_or a (at + j) 0 < 2 ^ 8) → ((j : ℕ) → j < k → get_or b (at + j) 0 < 2 ^ 8)
    → then (nat_order h g) (bytes_order (drop at a) (drop at b)) ≡ then (nat_order (said h a at k) (said g b at k)) (bytes_order (drop (at + k) a) (drop (at + k) b))
unfolding said
said_order a b h g at zero p q s t = let z : at + 0 ≡ at = omega arith in rw z
said_order a b h g at (suc k) p q s t =
    let x = get_or a at 0 in
    let y = get_or b at 0 in
    let z : at + 0 ≡ at = omega arith in
    let w : at + 1 + k ≡ at + suc k = omega arith in
    let d = digit h g x y (rw z at (s 0 (omega arith))) (rw z at (t 0 (omega arith))) in
    let rest = bytes_order (drop (at + 1) a) (drop (at + 1) b) in
    ap (then (nat_order h g)) (front a b at (omega arith) (omega arith))
    ∙ sym (then_assoc (nat_order h g) (nat_order x y) rest)
    ∙ sym (ap (λ (o : Order). then o rest) d)
    ∙ rw w at (said_order a b (h * 256 + x) (g * 256 + y) (at + 1) k (omega arith) (omega arith) (next a s) (next b t))
  where
    next : (c : List ℕ) → ((j : ℕ) → j < suc k → get_or c (at + j) 0 < 2 ^ 8) → (j : ℕ) → j < k → get_or c (at + 1 + j) 0 < 2 ^ 8
    next c u j lt = let e : at + suc j ≡ at + 1 + j = omega arith in rw e at (u (suc j) (omega arith))

module _ (high : ℕ) (bytes : List ℕ) (at : ℕ) {x y z w : ℕ} where
  pub four_said :
      x ≡ get_or bytes at 0 → x < 2 ^ 8 → y ≡ get_or bytes (at + 1) 0 → y < 2 ^ 8 → z ≡ get_or bytes (at + 2) 0 → z < 2 ^ 8 → w ≡ get_or bytes (at + 3) 0 → w < 2 ^ 8 →
      Said high bytes at 4 ((((high * 256 + x) * 256 + y) * 256 + z) * 256 + w)
  unfolding said
  four_said ex lx ey ly ez lz ew lw =
      let two : at + 1 + 1 ≡ at + 2 = omega arith in
      let three : at + 2 + 1 ≡ at + 3 = omega arith in
      record { is = rw (ex, ey, ez, ew, two, three); digits = each; fits = omega arith }
    where
      each : (j : ℕ) → j < 4 → get_or bytes (at + j) 0 < 2 ^ 8
      each zero lt = let e : at + 0 ≡ at = omega arith in rw (e, ← ex) lx
      each (suc zero) lt = rw (← ey) ly
      each (suc (suc zero)) lt = rw (← ez) lz
      each (suc (suc (suc zero))) lt = rw (← ew) lw
      each (suc (suc (suc (suc j)))) lt = absurd (omega arith)

said_more : (h : ℕ) (bytes : List ℕ) (at k l : ℕ) → said (said h bytes at k) bytes (at + k) l ≡ said h bytes at (k + l)
unfolding said
said_more h bytes at zero l = let e : at + 0 ≡ at = omega arith in let f : 0 + l ≡ l = omega arith in rw (e, f)
said_more h bytes at (suc k) l =
    let e : at + suc k ≡ at + 1 + k = omega arith in
    let f : suc k + l ≡ suc (k + l) = omega arith in
    rw (e, f) (said_more (h * 256 + get_or bytes at 0) bytes (at + 1) k l)

pub word_said : (bytes : List ℕ) (at : ℕ) {h r : ℕ} → Said 0 bytes at 4 h → Said h bytes (at + 4) 4 r → Said 0 bytes at 8 r
word_said bytes at {h} {r} s t = record { is = t.is ∙ ap (λ (n : ℕ). said n bytes (at + 4) 4) s.is ∙ said_more 0 bytes at 4 4; digits = each; fits = omega (arith, s.fits, t.fits) }
  where
    each : (j : ℕ) → j < 8 → get_or bytes (at + j) 0 < 2 ^ 8
    each j lt = go (ltb j 4) refl
      where
        go : (b : Bool) → ltb j 4 ≡ b → get_or bytes (at + j) 0 < 2 ^ 8
        go true e = s.digits j (ltb-true j 4 e)
        go false e =
            let ge : 4 ≤ j = ltb-false j 4 e in
            let f : at + 4 + (j - 4) ≡ at + j = omega arith in
            rw f at (t.digits (j - 4) (omega arith))

-- unequal numbers decide
then_other : (x y : ℕ) (o : Order) → (x ≡ y → ⊥) → then (nat_order x y) o ≡ nat_order x y
then_other x y o ne = go (three_ways x y)
  where
    go : (x < y) ⊎ ((x ≡ y) ⊎ (y < x)) → then (nat_order x y) o ≡ nat_order x y
    go (inl h) = rw (nat_less x y h)
    go (inr (inl h)) = absurd (ne h)
    go (inr (inr h)) = rw (nat_more x y h)

module _ {a b : List ℕ} {i shorter : ℕ} (p : Prefix a b i) (s : shorter ≡ min (length a) (length b)) where
  module _ {x y : ℕ} (le : 8 ≤ shorter - i) (sx : Said 0 a i 8 x) (sy : Said 0 b i 8 y) where
    word_order : bytes_order a b ≡ then (nat_order x y) (bytes_order (drop (i + 8) a) (drop (i + 8) b))
    word_order =
        sym p.rest ∙ said_order a b 0 0 i 8 (omega arith) (omega arith) sx.digits sy.digits
        ∙ rw (← sx.is, ← sy.is)

    pub word_on : x ≡ y → {n : ℕ} → n ≡ i + 8 → Prefix a b n
    word_on e next = rw next (record { left = omega arith; right = omega arith; rest = sym (rw (nat_same x y e) at word_order) })

    pub word_differs : (x ≡ y → ⊥) → {r : Comparison} → r ≡ comparison_of (nat_order x y) → r ≡ comparison_of (bytes_order a b)
    word_differs ne is = is ∙ sym (ap comparison_of (word_order ∙ then_other x y _ ne))

  pub byte_on : i < shorter → get_or a i 0 ≡ get_or b i 0 → Prefix a b (i + 1)
  byte_on lt e = prefix_on p (omega arith) (omega arith) e

  pub byte_differs : i < shorter → (get_or a i 0 ≡ get_or b i 0 → ⊥) → {x y : ℕ} → x ≡ get_or a i 0 → y ≡ get_or b i 0 → {r : Comparison} → r ≡ comparison_of (nat_order x y) → r ≡ comparison_of (bytes_order a b)
  byte_differs lt ne {x} {y} ex ey is =
      let here = then_other (get_or a i 0) (get_or b i 0) (bytes_order (drop (i + 1) a) (drop (i + 1) b)) ne in
      let e : nat_order x y ≡ bytes_order a b = rw (ex, ey) (sym here ∙ sym (front a b i (omega arith) (omega arith)) ∙ p.rest) in
      is ∙ ap comparison_of e

  -- one of the two has ended
  ended : shorter ≤ i → nat_order (length a) (length b) ≡ bytes_order a b
  unfolding bytes_order
  ended ge = go (three_ways (length a) (length b))
    where
      go : (length a < length b) ⊎ ((length a ≡ length b) ⊎ (length b < length a)) → nat_order (length a) (length b) ≡ bytes_order a b
      go (inl lt) = nat_less (length a) (length b) lt ∙ rw (drop_of_length-le a {i = i} (omega arith), drop-cons b i 0 (omega arith)) at p.rest
      go (inr (inl e)) = nat_same (length a) (length b) e ∙ rw (drop_of_length-le a {i = i} (omega arith), drop_of_length-le b {i = i} (omega arith)) at p.rest
      go (inr (inr gt)) = nat_more (length a) (length b) gt ∙ rw (drop-cons a i 0 (omega arith), drop_of_length-le b {i = i} (omega arith)) at p.rest

  pub bytes_ended : shorter ≤ i → {r : Comparison} → r ≡ comparison_of (nat_order (length a) (length b)) → r ≡ comparison_of (bytes_order a b)
  bytes_ended ge is = is ∙ ap comparison_of (ended ge)
