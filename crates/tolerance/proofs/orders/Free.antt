-- All equalities are certain exactly where the classes that are left ask for nothing that the ranges did not:
-- so code that only joins classes can tell always from sometimes at the end, by one look at each node.
use Prim.Native.Nat.{ℕ}
use mathlib.Core.Bool.{Bool, true, false, cond, ◌&&◌, ◌||◌, false≢true}
use mathlib.Core.List.{List, [], ◌∷◌}
use mathlib.Core.Option.{none, some}
use mathlib.Core.Path.{◌≡◌, refl, sym, ap, ◌∙◌}
use lib.Dec.{T, eqb, eqb→eq}
use Rattle.literal.specs.Order.{Order}
use Rattle.literal.specs.Laws.{TotalOrder}
use Rattle.value.proofs.Keys.{and_left, and_right, both, or_elim, true_is}
use Rattle.tolerance.specs.code.Classes.{Equality, alike, equals, equal, holds, all_hold, single, all_certain, free, Classes, joined, node_of, open?, unified}
use Rattle.tolerance.specs.Tolerance.{Ranges, at_most}
use Rattle.tolerance.proofs.orders.AtMost.{equal→, equal←, le_refl, le_antisym}
use Rattle.tolerance.proofs.orders.Unify.{Counts, AllCount, Within, Good, Fits, Open, Starts, to_joined, from_joined, open_joined, open_choice, fits_start, open_start}
use Rattle.tolerance.proofs.orders.Certain.{all_met, some_unmet, lowest_within, raised, raised_within, raised_at, raised_other}

module _ {N : Type 0} {order : N → N → Order} (t : TotalOrder order) (K : ℕ → Type 0) (ok : N → Bool) where
  -- what is left after some equalities is what they ask for, no more and no less
  unified_fits : (qs : List (Equality N)) (s s' : Classes order) → AllCount t K ok qs → unified order qs s ≡ some s' → (c : ℕ → N) → Fits t K ok s c → T (all_hold order c qs) → Fits t K ok s' c
  unfolding unified all_hold
  unified_fits [] s s' k e c f h = let q : s ≡ s' = cc in rw q at f
  unified_fits (q ∷ qs) s s' (k, ks) e c f h = go (open? order (node_of order q) (joined order q s)) e (λ i. unified_fits qs (joined order q s) s' ks i c (to_joined t K ok s c q k f (and_left (holds order c q) (all_hold order c qs) h)) (and_right (holds order c q) (all_hold order c qs) h))
    where
      go : (b : Bool) → cond b (unified order qs (joined order q s)) none ≡ some s' → (unified order qs (joined order q s) ≡ some s' → Fits t K ok s' c) → Fits t K ok s' c
      go true i rest = rest i
      go false i rest = absurd (false≢true (cc))

  unified_back : (qs : List (Equality N)) (s s' : Classes order) → AllCount t K ok qs → unified order qs s ≡ some s' → (c : ℕ → N) → Fits t K ok s' c → Fits t K ok s c × T (all_hold order c qs)
  unfolding unified all_hold
  unified_back [] s s' k e c f = let q : s' ≡ s = cc in (rw q at f, tt)
  unified_back (q ∷ qs) s s' (k, ks) e c f = go (open? order (node_of order q) (joined order q s)) e (λ i. unified_back qs (joined order q s) s' ks i c f)
    where
      go : (b : Bool) → cond b (unified order qs (joined order q s)) none ≡ some s' → (unified order qs (joined order q s) ≡ some s' → Fits t K ok (joined order q s) c × T (all_hold order c qs)) → Fits t K ok s c × T (holds order c q && all_hold order c qs)
      go true i rest = let (g, h) = rest i in let (g', h') = from_joined t K ok s c q k g in (g', both (holds order c q) (all_hold order c qs) h' h)
      go false i rest = absurd (false≢true (cc))

  -- a label is the number of a node of its class
  pub record Own (s : Classes order) : Type 0 where
    pub node : (n : ℕ) → K n → K (s.label n)
    pub self : (n : ℕ) → K n → s.label (s.label n) ≡ s.label n

  own_joined : (q : Equality N) (s : Classes order) → Counts t K ok q → Own s → Own (joined order q s)
  own_joined (equals a m) s k o = record { node = o.node; self = o.self }
  own_joined (alike a b) s (ka, kb) o = record { node = λ n k. node n k (eqb (s.label n) (s.label b)); self = λ n k. self n k (eqb (s.label n) (s.label b)) refl }
    where
      node : (n : ℕ) → K n → (c : Bool) → K (cond c (s.label a) (s.label n))
      node n k true = o.node a ka
      node n k false = o.node n k

      pick : (c : Bool) (x : ℕ) → cond c x x ≡ x
      pick true x = refl
      pick false x = refl

      self : (n : ℕ) → K n → (c : Bool) → eqb (s.label n) (s.label b) ≡ c → (joined order (alike a b) s).label (cond c (s.label a) (s.label n)) ≡ cond c (s.label a) (s.label n)
      self n k true e = ap (λ (x : ℕ). cond (eqb x (s.label b)) (s.label a) x) (o.self a ka) ∙ pick (eqb (s.label a) (s.label b)) (s.label a)
      self n k false e = ap (λ (x : ℕ). cond (eqb x (s.label b)) (s.label a) x) (o.self n k) ∙ rw e

  unified_own : (qs : List (Equality N)) (s s' : Classes order) → AllCount t K ok qs → unified order qs s ≡ some s' → Own s → Open t K ok s → Own s' × Open t K ok s'
  unfolding unified
  unified_own [] s s' k e o p = let q : s ≡ s' = cc in (rw q at o, rw q at p)
  unified_own (q ∷ qs) s s' (k, ks) e o p = go (open? order (node_of order q) (joined order q s)) refl e (λ i p'. unified_own qs (joined order q s) s' ks i (own_joined q s k o) p')
    where
      go : (b : Bool) → open? order (node_of order q) (joined order q s) ≡ b → cond b (unified order qs (joined order q s)) none ≡ some s' → (unified order qs (joined order q s) ≡ some s' → Open t K ok (joined order q s) → Own s' × Open t K ok s') → Own s' × Open t K ok s'
      go true h i rest = rest i (open_joined t K ok q k s p (true_is h))
      go false h i rest = absurd (false≢true (cc))

  module _ (r : Ranges N) (good : Good t K ok r) (qs : List (Equality N)) (count : AllCount t K ok qs) (s₀ s : Classes order) (starts : Starts t K ok r s₀) (own : Own s₀) (e : unified order qs s₀ ≡ some s) where
    last : Own s × Open t K ok s
    last = unified_own qs s₀ s count e own (open_start t K ok r s₀ starts good)

    -- the low ends of what is left are a choice
    lows : Within t K ok r (λ n. s.low (s.label n))
    lows =
        let (f, h) = unified_back qs s₀ s count e (λ n. s.low (s.label n)) (open_choice t K ok s last.1) in
        record { allowed = last.1.allowed; from = λ n k. rw (starts.low n k) at (f.from n k); up_to = λ n k. rw (starts.high n k) at (f.up_to n k) }

    -- each node is free: then every choice meets all
    every : ((n : ℕ) → K n → T (free order r s n)) → (c : ℕ → N) → Within t K ok r c → T (all_hold order c qs)
    unfolding free
    every f c w = (unified_back qs s₀ s count e c (record { from = λ n k. rw (sym (low n k)) at (w.from n k); up_to = λ n k. rw (sym (high n k)) at (w.up_to n k); one = one })).1
      where
        low : (n : ℕ) → K n → s.low (s.label n) ≡ r.lowest n
        low n k = equal→ t (s.low (s.label n)) (r.lowest n) (and_left (equal order (s.low (s.label n)) (r.lowest n)) _ (f n k))

        rest : (n : ℕ) → K n → T (equal order (s.high (s.label n)) (r.highest n) && (eqb (s.label n) n || single order r n))
        rest n k = and_right (equal order (s.low (s.label n)) (r.lowest n)) (equal order (s.high (s.label n)) (r.highest n) && (eqb (s.label n) n || single order r n)) (f n k)

        high : (n : ℕ) → K n → s.high (s.label n) ≡ r.highest n
        high n k = equal→ t (s.high (s.label n)) (r.highest n) (and_left (equal order (s.high (s.label n)) (r.highest n)) (eqb (s.label n) n || single order r n) (rest n k))

        -- two nodes of one class, one of them with a range of one number
        met : (n m : ℕ) → K n → K m → s.label n ≡ s.label m → T (single order r n) → c n ≡ c m
        met n m k j i g =
            let p : r.lowest n ≡ r.highest n = equal→ t (r.lowest n) (r.highest n) g in
            let lo : r.lowest m ≡ r.lowest n = sym (low m j) ∙ (ap s.low (sym i) ∙ low n k) in
            let hi : r.highest m ≡ r.lowest n = sym (high m j) ∙ (ap s.high (sym i) ∙ (high n k ∙ sym p)) in
            let a : c n ≡ r.lowest n = le_antisym t (c n) (r.lowest n) (rw p (w.up_to n k)) (w.from n k) in
            let b : c m ≡ r.lowest n = le_antisym t (c m) (r.lowest n) (rw hi at (w.up_to m j)) (rw lo at (w.from m j)) in
            a ∙ sym b

        one : (n m : ℕ) → K n → K m → s.label n ≡ s.label m → c n ≡ c m
        one n m k j i = or_elim (eqb (s.label n) n) (single order r n) (and_right (equal order (s.high (s.label n)) (r.highest n)) (eqb (s.label n) n || single order r n) (rest n k))
            (λ x. or_elim (eqb (s.label m) m) (single order r m) (and_right (equal order (s.high (s.label m)) (r.highest m)) (eqb (s.label m) m || single order r m) (rest m j))
            (λ y. ap c (sym (eqb→eq (s.label n) n x) ∙ (i ∙ eqb→eq (s.label m) m y)))
            (λ y. sym (met m n j k (sym i) y)))
            (λ x. met n m k j i x)

    -- every choice meets all: then each node is free
    each : ((c : ℕ → N) → Within t K ok r c → T (all_hold order c qs)) → (n : ℕ) → K n → T (free order r s n)
    unfolding free
    each f n k = both (equal order (s.low (s.label n)) (r.lowest n)) (equal order (s.high (s.label n)) (r.highest n) && (eqb (s.label n) n || single order r n))
        (equal← t (s.low (s.label n)) (r.lowest n) (low n k))
        (both (equal order (s.high (s.label n)) (r.highest n)) (eqb (s.label n) n || single order r n) (equal← t (s.high (s.label n)) (r.highest n) high) (alone (eqb (s.label n) n) refl))
      where
        fits : (c : ℕ → N) → Within t K ok r c → Fits t K ok s c
        fits c w = unified_fits qs s₀ s count e c (fits_start t K ok r s₀ starts c w) (f c w)

        low : (m : ℕ) → K m → s.low (s.label m) ≡ r.lowest m
        low m j = le_antisym t (s.low (s.label m)) (r.lowest m) ((fits r.lowest (lowest_within t K ok r good)).from m j) (lows.from m j)

        top : Fits t K ok s (raised t K ok r n)
        top = fits (raised t K ok r n) (raised_within t K ok r good n)

        high : s.high (s.label n) ≡ r.highest n
        high = le_antisym t (s.high (s.label n)) (r.highest n) below (rw (raised_at t K ok r n) at (top.up_to n k))
          where
            -- the high ends of what is left are a choice too
            ends : Fits t K ok s (λ m. s.high (s.label m))
            ends = record { from = λ m j. last.1.ordered m j; up_to = λ m j. le_refl t (s.high (s.label m)); one = λ m l j i q. ap s.high q }

            below : T (at_most order (s.high (s.label n)) (r.highest n))
            below = rw (starts.high n k) at ((unified_back qs s₀ s count e (λ m. s.high (s.label m)) ends).0.up_to n k)

        -- a node of another's class has a range of one number
        alone : (b : Bool) → eqb (s.label n) n ≡ b → T (b || single order r n)
        alone true q = tt
        alone false q =
            let j = last.0.node n k in
            let i = last.0.self n k in
            let same : raised t K ok r n n ≡ raised t K ok r n (s.label n) = top.one n (s.label n) k j (sym i) in
            let at_label : raised t K ok r n (s.label n) ≡ r.lowest (s.label n) = raised_other t K ok r n (s.label n) q in
            let down : r.lowest (s.label n) ≡ r.lowest n = sym (low (s.label n) j) ∙ (ap s.low i ∙ low n k) in
            equal← t (r.lowest n) (r.highest n) (sym (sym (raised_at t K ok r n) ∙ (same ∙ (at_label ∙ down))))

    -- so the look at each node is the test of all equalities
    pub free_certain : ((n : ℕ) → K n → T (free order r s n)) → all_certain order r qs ≡ true
    free_certain f = go (all_certain order r qs) refl
      where
        go : (b : Bool) → all_certain order r qs ≡ b → b ≡ true
        go true i = refl
        go false i = let (c, w, n) = some_unmet t K ok r good qs i in absurd (n (every f c w))

    pub certain_free : all_certain order r qs ≡ true → (n : ℕ) → K n → T (free order r s n)
    certain_free i = each (λ c w. all_met t K ok r c w qs count (true_is i))
