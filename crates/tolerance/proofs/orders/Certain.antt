-- An equality is certain exactly where every choice within the ranges meets it.
use Prim.Native.Nat.{ℕ}
use mathlib.Core.Bool.{Bool, true, false, cond, ◌&&◌, ◌||◌, false≢true}
use mathlib.Core.List.{List, [], ◌∷◌}
use mathlib.Core.Path.{◌≡◌, refl, sym, ap, ◌∙◌}
use lib.Dec.{T, eqb, eqb→eq, eqb_refl}
use borrow.Author.Tests.{eqb-false, ne_eqb}
use Rattle.literal.specs.Order.{Order}
use Rattle.literal.specs.Laws.{TotalOrder}
use Rattle.value.proofs.Keys.{and_left, and_right, both, or_elim, is_true, true_is}
use Rattle.tolerance.specs.code.Classes.{Equality, alike, equals, equal, holds, all_hold, single, certain, all_certain}
use Rattle.tolerance.specs.Tolerance.{Ranges, at_most}
use Rattle.tolerance.proofs.orders.AtMost.{equal→, equal←, le_refl, le_antisym}
use Rattle.tolerance.proofs.orders.Unify.{Counts, AllCount, Within, Good}

module _ {N : Type 0} {order : N → N → Order} (t : TotalOrder order) (K : ℕ → Type 0) (ok : N → Bool) (r : Ranges N) where
  -- in a range of one number there is no other choice
  only : (c : ℕ → N) → Within t K ok r c → (n : ℕ) → K n → T (single order r n) → c n ≡ r.lowest n
  only c w n k h =
      let e : r.lowest n ≡ r.highest n = equal→ t (r.lowest n) (r.highest n) h in
      le_antisym t (c n) (r.lowest n) (rw e (w.up_to n k)) (w.from n k)

  met : (c : ℕ → N) → Within t K ok r c → (q : Equality N) → Counts t K ok q → T (certain order r q) → T (holds order c q)
  unfolding certain holds
  met c w (alike a b) (ka, kb) h = or_elim (eqb a b) (single order r a && (single order r b && equal order (r.lowest a) (r.lowest b))) h
      (λ e. equal← t (c a) (c b) (ap c (eqb→eq a b e)))
      (λ s.
      let s' = and_right (single order r a) (single order r b && equal order (r.lowest a) (r.lowest b)) s in
      let ea = only c w a ka (and_left (single order r a) (single order r b && equal order (r.lowest a) (r.lowest b)) s) in
      let eb = only c w b kb (and_left (single order r b) (equal order (r.lowest a) (r.lowest b)) s') in
      let e = equal→ t (r.lowest a) (r.lowest b) (and_right (single order r b) (equal order (r.lowest a) (r.lowest b)) s') in
      equal← t (c a) (c b) (ea ∙ (e ∙ sym eb)))
  met c w (equals a m) (ka, km) h =
      let ea = only c w a ka (and_left (single order r a) (equal order (r.lowest a) m) h) in
      equal← t (c a) m (ea ∙ equal→ t (r.lowest a) m (and_right (single order r a) (equal order (r.lowest a) m) h))

  pub all_met : (c : ℕ → N) → Within t K ok r c → (qs : List (Equality N)) → AllCount t K ok qs → T (all_certain order r qs) → T (all_hold order c qs)
  unfolding all_certain all_hold
  all_met c w [] k h = tt
  all_met c w (q ∷ qs) (k, ks) h = both (holds order c q) (all_hold order c qs) (met c w q k (and_left (certain order r q) (all_certain order r qs) h)) (all_met c w qs ks (and_right (certain order r q) (all_certain order r qs) h))

  -- the lowest numbers, but the highest for one node
  abbrev pub raised : ℕ → ℕ → N
  raised j n = cond (eqb n j) (r.highest n) (r.lowest n)

  pub raised_within : Good t K ok r → (j : ℕ) → Within t K ok r (raised j)
  raised_within g j = record { allowed = λ n k. a n k (eqb n j); from = λ n k. f n k (eqb n j); up_to = λ n k. u n k (eqb n j) }
    where
      a : (n : ℕ) → K n → (b : Bool) → T (ok (cond b (r.highest n) (r.lowest n)))
      a n k true = g.high n k
      a n k false = g.low n k

      f : (n : ℕ) → K n → (b : Bool) → T (at_most order (r.lowest n) (cond b (r.highest n) (r.lowest n)))
      f n k true = g.ordered n k
      f n k false = le_refl t (r.lowest n)

      u : (n : ℕ) → K n → (b : Bool) → T (at_most order (cond b (r.highest n) (r.lowest n)) (r.highest n))
      u n k true = le_refl t (r.highest n)
      u n k false = g.ordered n k

  pub lowest_within : Good t K ok r → Within t K ok r r.lowest
  lowest_within g = record { allowed = g.low; from = λ n k. le_refl t (r.lowest n); up_to = g.ordered }

  pub raised_at : (j : ℕ) → raised j j ≡ r.highest j
  raised_at j = let e : eqb j j ≡ true = is_true (eqb_refl j) in rw e

  pub raised_other : (j n : ℕ) → eqb n j ≡ false → raised j n ≡ r.lowest n
  raised_other j n e = rw e

  differ : (a b : N) → equal order a b ≡ false → a ≡ b → ⊥
  differ a b e q = let h : T (equal order a b) = equal← t a b q in (rw e at h)

  eqb_swap : (a b : ℕ) → eqb a b ≡ false → eqb b a ≡ false
  eqb_swap a b e = ne_eqb b a (λ q. eqb-false a b e (sym q))

  -- a choice that an uncertain equality is not met by
  unmet : Good t K ok r → (q : Equality N) → certain order r q ≡ false → (c : ℕ → N) × Within t K ok r c × (T (holds order c q) → ⊥)
  unfolding certain holds
  unmet g (alike a b) e = go (eqb a b) refl (equal order (r.lowest a) (r.lowest b)) refl (single order r a) refl (single order r b) refl e
    where
      go : (p : Bool) → eqb a b ≡ p → (l : Bool) → equal order (r.lowest a) (r.lowest b) ≡ l → (s : Bool) → single order r a ≡ s → (u : Bool) → single order r b ≡ u → (p || (s && (u && l))) ≡ false
          → (c : ℕ → N) × Within t K ok r c × (T (equal order (c a) (c b)) → ⊥)
      go true pe l le s se u ue h = absurd (false≢true (sym h))
      go false pe false le s se u ue h = (r.lowest, lowest_within g, λ k. differ (r.lowest a) (r.lowest b) le (equal→ t (r.lowest a) (r.lowest b) k))
      go false pe true le false se u ue h =
          let low = equal→ t (r.lowest a) (r.lowest b) (true_is le) in
          (raised a, raised_within g a, λ k. differ (r.lowest a) (r.highest a) se (low ∙ (sym (raised_other a b (eqb_swap a b pe)) ∙ (sym (equal→ t (raised a a) (raised a b) k) ∙ raised_at a))))
      go false pe true le true se false ue h =
          let low = equal→ t (r.lowest a) (r.lowest b) (true_is le) in
          (raised b, raised_within g b, λ k. differ (r.lowest b) (r.highest b) ue (sym low ∙ (sym (raised_other b a pe) ∙ (equal→ t (raised b a) (raised b b) k ∙ raised_at b))))
      go false pe true le true se true ue h = absurd (false≢true (sym h))
  unmet g (equals a m) e = go (single order r a) refl (equal order (r.lowest a) m) refl e
    where
      go : (s : Bool) → single order r a ≡ s → (l : Bool) → equal order (r.lowest a) m ≡ l → (s && l) ≡ false → (c : ℕ → N) × Within t K ok r c × (T (equal order (c a) m) → ⊥)
      go s se false le h = (r.lowest, lowest_within g, λ k. differ (r.lowest a) m le (equal→ t (r.lowest a) m k))
      go false se true le h = (raised a, raised_within g a, λ k. differ (r.lowest a) (r.highest a) se (equal→ t (r.lowest a) m (true_is le) ∙ (sym (equal→ t (raised a a) m k) ∙ raised_at a)))
      go true se true le h = absurd (false≢true (sym h))

  pub some_unmet : Good t K ok r → (qs : List (Equality N)) → all_certain order r qs ≡ false → (c : ℕ → N) × Within t K ok r c × (T (all_hold order c qs) → ⊥)
  unfolding all_certain all_hold
  some_unmet g [] e = absurd (false≢true (sym e))
  some_unmet g (q ∷ qs) e = go (certain order r q) refl e (λ e'. some_unmet g qs e')
    where
      go : (b : Bool) → certain order r q ≡ b → (b && all_certain order r qs) ≡ false → (all_certain order r qs ≡ false → (c : ℕ → N) × Within t K ok r c × (T (all_hold order c qs) → ⊥))
          → (c : ℕ → N) × Within t K ok r c × (T (holds order c q && all_hold order c qs) → ⊥)
      go true p h rest = let (c, w, f) = rest h in (c, w, λ k. f (and_right (holds order c q) (all_hold order c qs) k))
      go false p h rest = let (c, w, f) = unmet g q p in (c, w, λ k. f (and_left (holds order c q) (all_hold order c qs) k))
