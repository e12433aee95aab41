-- The lowest node of an equal literal has that literal, and tells it from others.
use Prim.Native.Nat.{ℕ, zero, suc, ◌+◌, ◌≤◌, ◌<◌}
use mathlib.Core.Bool.{Bool, true, false, cond, ◌&&◌, false≢true}
use mathlib.Core.Option.{Option, none, some}
use mathlib.Core.Path.{◌≡◌, refl, ap, sym, ◌∙◌}
use native.Mathlib.Omega.{arith}
use borrow.Author.Tests.{eq-eqb, ne_eqb, eqb-true, eqb-false, le-leb, leb-true}
use lib.Dec.{eqb, leb}
use Rattle.literal.specs.Literal.{Literal, null}
use Rattle.planner.specs.Simple.{same_key}
use Rattle.value.specs.code.Post.{same_literals}
use Rattle.value.proofs.Keys.{key→, key_refl, is_true, true_is}
use Rattle.common_example.specs.code.arrays.Likes.{like_from, like_in}

abbrev pub literal_or : Option Literal → Literal
literal_or none = null
literal_or (some l) = l

-- both parts of a conjunction
and_parts : (a b : Bool) → (a && b) ≡ true → (a ≡ true) × (b ≡ true)
and_parts true b e = (refl, e)
and_parts false b e = absurd (false≢true e)

both_parts : {a b : Bool} → a ≡ true → b ≡ true → (a && b) ≡ true
both_parts {a} {b} p q = rw (p, q)

module _ (literals : ℕ → Option Literal) where
  -- of k nodes from `at` on the first with a literal
  pub record Lowest (own : Option Literal) (at r : ℕ) : Type 0 where
    pub literal : literals r ≡ own
    pub low : at ≤ r

  like_from_lem : (l : Literal) (at k n : ℕ) → at ≤ n → n < at + k → literals n ≡ some l → Lowest (some l) at (like_from literals (some l) at k)
  unfolding like_from
  like_from_lem l at zero n le lt e = absurd (omega arith)
  like_from_lem l at (suc k) n le lt e = go (literals at) refl (eqb at n) refl (λ h. like_from_lem l (at + 1) k n h (omega arith) e)
    where
      -- a later one
      later : eqb at n ≡ false → (at + 1 ≤ n → Lowest (some l) (at + 1) (like_from literals (some l) (at + 1) k)) → Lowest (some l) at (like_from literals (some l) (at + 1) k)
      later q next =
          let d = eqb-false at n q in
          let r = next (omega (arith, d, le)) in
          let h = r.low in
          record { literal = r.literal; low = omega arith }

      here : (m : Literal) → literals at ≡ some m → (b : Bool) → same_key l m ≡ b → eqb at n ≡ false → (at + 1 ≤ n → Lowest (some l) (at + 1) (like_from literals (some l) (at + 1) k)) → Lowest (some l) at (cond b at (like_from literals (some l) (at + 1) k))
      here m o true s q next = record { literal = o ∙ ap some (sym (key→ l m (true_is s))); low = omega arith }
      here m o false s q next = later q next

      go : (o : Option Literal) → literals at ≡ o → (b : Bool) → eqb at n ≡ b → (at + 1 ≤ n → Lowest (some l) (at + 1) (like_from literals (some l) (at + 1) k)) → Lowest (some l) at (cond (same_literals (some l) o) at (like_from literals (some l) (at + 1) k))
      go o p true q next =
          let i = eqb-true at n q in
          let x : o ≡ some l = sym p ∙ (rw i e) in
          let s : same_key l l ≡ true = is_true (key_refl l) in
          rw (x, s) (record { literal = rw i e; low = omega arith })
      go none p false q next = later q next
      go (some m) p false q next = here m p (same_key l m) refl q next

  pub none_like : (at k : ℕ) → like_from literals none at k ≡ 0
  unfolding like_from
  none_like at zero = refl
  none_like at (suc k) = none_like (at + 1) k

  -- among j nodes more: one that is found stays, and else those are looked at
  pub like_kept : (own : Option Literal) (at k j : ℕ) {r : ℕ} → 1 ≤ r → like_from literals own at k ≡ r → like_from literals own at (k + j) ≡ r
  unfolding like_from
  like_kept own at zero j real e = absurd (omega arith)
  like_kept own at (suc k) j {r} real e =
      let n : suc k + j ≡ suc (k + j) = omega arith in
      ap (like_from literals own at) n ∙ go (same_literals own (literals at)) e (λ h. like_kept own (at + 1) k j real h)
    where
      go : (b : Bool) → cond b at (like_from literals own (at + 1) k) ≡ r → (like_from literals own (at + 1) k ≡ r → like_from literals own (at + 1) (k + j) ≡ r) → cond b at (like_from literals own (at + 1) (k + j)) ≡ r
      go true e next = e
      go false e next = next e

  pub like_later : (own : Option Literal) (at k j : ℕ) → 1 ≤ at → like_from literals own at k ≡ 0 → like_from literals own at (k + j) ≡ like_from literals own (at + k) j
  unfolding like_from
  like_later own at zero j low e =
      let p : zero + j ≡ j = omega arith in
      let q : at + zero ≡ at = omega arith in
      rw (p, q)
  like_later own at (suc k) j low e =
      let n : suc k + j ≡ suc (k + j) = omega arith in
      let q : at + suc k ≡ at + 1 + k = omega arith in
      ap (like_from literals own at) n ∙ (go (same_literals own (literals at)) e (λ h. like_later own (at + 1) k j (omega arith) h) ∙ ap (λ (a : ℕ). like_from literals own a j) (sym q))
    where
      go : (b : Bool) → cond b at (like_from literals own (at + 1) k) ≡ 0 → (like_from literals own (at + 1) k ≡ 0 → like_from literals own (at + 1) (k + j) ≡ like_from literals own (at + 1 + k) j)
          → cond b at (like_from literals own (at + 1) (k + j)) ≡ like_from literals own (at + 1 + k) j
      go true e next = absurd (omega arith)
      go false e next = next e

  module _ (count : ℕ) where
    pub like_found : {n : ℕ} {l : Literal} → 1 ≤ n → n ≤ count → literals n ≡ some l → Lowest (some l) 1 (like_in literals count n)
    like_found {n} {l} low high e = rw e (like_from_lem l 1 count n low (omega arith) e)

    -- no node above the count
    like_from_most : (own : Option Literal) (at k : ℕ) → like_from literals own at k ≤ at + k
    unfolding like_from
    like_from_most own at zero = omega arith
    like_from_most own at (suc k) = go (same_literals own (literals at)) (like_from_most own (at + 1) k)
      where
        go : (b : Bool) → like_from literals own (at + 1) k ≤ at + 1 + k → cond b at (like_from literals own (at + 1) k) ≤ at + suc k
        go true h = omega arith
        go false h = omega arith

    pub like_most : (n : ℕ) → like_in literals count n ≤ 1 + count
    like_most n = like_from_most (literals n) 1 count

    -- a literal's node that is its own lowest one
    abbrev pub own_like : ℕ → Bool
    own_like a = leb 1 a && eqb (like_in literals count a) a

    pub like_own : {n : ℕ} {l : Literal} → 1 ≤ n → n ≤ count → literals n ≡ some l → own_like (like_in literals count n) ≡ true
    like_own {n} {l} low high e =
        let f = like_found low high e in
        let h : like_in literals count (like_in literals count n) ≡ like_in literals count n = ap (λ (o : Option Literal). like_from literals o 1 count) (f.literal ∙ sym e) in
        both_parts (le-leb 1 (like_in literals count n) f.low) (eq-eqb (like_in literals count (like_in literals count n)) (like_in literals count n) h)

    own_literal : (a : ℕ) → own_like a ≡ true → (l : Literal) × (literals a ≡ some l)
    own_literal a t = go (literals a) refl
      where
        go : (o : Option Literal) → literals a ≡ o → (l : Literal) × (o ≡ some l)
        go none p =
            let q = and_parts (leb 1 a) (eqb (like_in literals count a) a) t in
            let x = leb-true 1 a q.0 in
            let y = eqb-true (like_in literals count a) a q.1 in
            let z : like_in literals count a ≡ 0 = ap (λ (o : Option Literal). like_from literals o 1 count) p ∙ none_like 1 count in
            absurd (omega (arith, x, y, z))
        go (some l) p = (l, refl)

    pub own_tells : (a b : ℕ) → own_like a ≡ true → own_like b ≡ true → same_key (literal_or (literals a)) (literal_or (literals b)) ≡ eqb a b
    own_tells a b s t = go (same_key (literal_or (literals a)) (literal_or (literals b))) refl
      where
        go : (c : Bool) → same_key (literal_or (literals a)) (literal_or (literals b)) ≡ c → c ≡ eqb a b
        go true e =
            let (l, p) = own_literal a s in
            let (m, q) = own_literal b t in
            let x : l ≡ m = key→ l m (true_is (rw (p, q) at e)) in
            let y : literals a ≡ literals b = p ∙ (ap some x ∙ sym q) in
            let z : like_in literals count a ≡ like_in literals count b = ap (λ (o : Option Literal). like_from literals o 1 count) y in
            let i = eqb-true (like_in literals count a) a (and_parts (leb 1 a) (eqb (like_in literals count a) a) s).1 in
            let j = eqb-true (like_in literals count b) b (and_parts (leb 1 b) (eqb (like_in literals count b) b) t).1 in
            sym (eq-eqb a b (sym i ∙ (z ∙ j)))
        go false e = sym (ne_eqb a b (λ h. differ h))
          where
            differ : a ≡ b → ⊥
            differ h =
                let k : same_key (literal_or (literals a)) (literal_or (literals b)) ≡ true = rw h (is_true (key_refl (literal_or (literals b)))) in
                false≢true (sym e ∙ k)
