-- Classes of nodes decide whether some choice within the ranges meets all equalities; certain equalities are those that every choice meets.
-- `K` is what makes a node count, `ok` what makes a number allowed.
use Prim.Native.Nat.{ℕ}
use mathlib.Core.Bool.{Bool, true, false, cond, ◌&&◌, false≢true}
use mathlib.Core.List.{List, [], ◌∷◌}
use mathlib.Core.Logic.{◌⊎◌, inl, inr}
use mathlib.Core.Option.{Option, none, some}
use mathlib.Core.Path.{◌≡◌, refl, sym, ap, ◌∙◌}
use lib.Dec.{T, eqb, eqb_refl}
use borrow.Author.Tests.{eqb-true, eqb-false}
use Rattle.literal.specs.Order.{Order}
use Rattle.literal.specs.Laws.{TotalOrder}
use Rattle.value.proofs.Keys.{and_left, and_right, both, is_true, true_is}
use Rattle.tolerance.specs.code.Classes.{Equality, alike, equals, holds, all_hold, Classes, larger, smaller, joined, node_of, open?, unified, apart, is_some}
use Rattle.tolerance.specs.Tolerance.{Ranges, at_most}
use Rattle.tolerance.proofs.orders.AtMost.{equal→, equal←, le_refl, le_trans, le_antisym, larger_left, larger_right, larger_is, smaller_left, smaller_right, smaller_is}

module _ {N : Type 0} {order : N → N → Order} (t : TotalOrder order) (K : ℕ → Type 0) (ok : N → Bool) where
  -- an equality between nodes that count, with an allowed number
  abbrev pub Counts : Equality N → Type 0
  Counts (alike n m) = K n × K m
  Counts (equals n k) = K n × T (ok k)

  abbrev pub AllCount : List (Equality N) → Type 0
  AllCount [] = Unit {0}
  AllCount (q ∷ qs) = Counts q × AllCount qs

  -- a choice keeps to the ranges
  pub record Within (r : Ranges N) (c : ℕ → N) : Type 0 where
    pub allowed : (n : ℕ) → K n → T (ok (c n))
    pub from : (n : ℕ) → K n → T (at_most order (r.lowest n) (c n))
    pub up_to : (n : ℕ) → K n → T (at_most order (c n) (r.highest n))

  pub record Good (r : Ranges N) : Type 0 where
    pub low : (n : ℕ) → K n → T (ok (r.lowest n))
    pub high : (n : ℕ) → K n → T (ok (r.highest n))
    pub ordered : (n : ℕ) → K n → T (at_most order (r.lowest n) (r.highest n))

  -- a choice keeps to the classes
  pub record Fits (s : Classes order) (c : ℕ → N) : Type 0 where
    pub from : (n : ℕ) → K n → T (at_most order (s.low (s.label n)) (c n))
    pub up_to : (n : ℕ) → K n → T (at_most order (c n) (s.high (s.label n)))
    pub one : (n m : ℕ) → K n → K m → s.label n ≡ s.label m → c n ≡ c m

  -- each class has a number left
  pub record Open (s : Classes order) : Type 0 where
    pub allowed : (n : ℕ) → K n → T (ok (s.low (s.label n)))
    pub ordered : (n : ℕ) → K n → T (at_most order (s.low (s.label n)) (s.high (s.label n)))

  -- What a step does to the node n: the classes k and l become one, cut down to lo .. hi; the others stay.
  data Step (s s' : Classes order) (k l : ℕ) (lo hi : N) (n : ℕ) : Type 0 where
    hit : (s.label n ≡ k) ⊎ (s.label n ≡ l) → s'.label n ≡ k → s'.low (s'.label n) ≡ larger order (s.low k) lo → s'.high (s'.label n) ≡ smaller order (s.high k) hi → Step s s' k l lo hi n
    pass : (s.label n ≡ k → ⊥) → s'.label n ≡ s.label n → s'.low (s'.label n) ≡ s.low (s.label n) → s'.high (s'.label n) ≡ s.high (s.label n) → Step s s' k l lo hi n

  record Steps (s s' : Classes order) (k l : ℕ) (lo hi : N) : Type 0 where
    pub each : (n : ℕ) → Step s s' k l lo hi n
    pub carried : (n m : ℕ) → s.label n ≡ s.label m → s'.label n ≡ s'.label m
    pub kept_low : T (at_most order (s.low l) (larger order (s.low k) lo))
    pub kept_high : T (at_most order (smaller order (s.high k) hi) (s.high l))

  -- the two kinds of step
  steps_alike : (a b : ℕ) (s : Classes order) → Steps s (joined order (alike a b) s) (s.label a) (s.label b) (s.low (s.label b)) (s.high (s.label b))
  steps_alike a b s = record {
    each = λ n. at n (eqb (s.label n) (s.label b)) refl (eqb (s.label n) (s.label a)) refl;
    carried = λ n m e. ap (λ (j : ℕ). cond (eqb j (s.label b)) (s.label a) j) e;
    kept_low = larger_right t (s.low (s.label a)) (s.low (s.label b));
    kept_high = smaller_right t (s.high (s.label a)) (s.high (s.label b));
  }
    where
      k : ℕ
      k = s.label a

      at : (n : ℕ) (p : Bool) → eqb (s.label n) (s.label b) ≡ p → (q : Bool) → eqb (s.label n) (s.label a) ≡ q
          → Step s (joined order (alike a b) s) (s.label a) (s.label b) (s.low (s.label b)) (s.high (s.label b)) n
      at n true e q f =
          let g : (joined order (alike a b) s).label n ≡ s.label a = rw e in
          let r : eqb (s.label a) (s.label a) ≡ true = is_true (eqb_refl (s.label a)) in
          hit (inr (eqb-true (s.label n) (s.label b) e)) g (rw (e, r)) (rw (e, r))
      at n false e true f = hit (inl (eqb-true (s.label n) (s.label a) f)) (rw e (eqb-true (s.label n) (s.label a) f)) (rw (e, f)) (rw (e, f))
      at n false e false f = pass (eqb-false (s.label n) (s.label a) f) (rw e) (rw (e, f)) (rw (e, f))

  steps_equals : (a : ℕ) (m : N) (s : Classes order) → Steps s (joined order (equals a m) s) (s.label a) (s.label a) m m
  steps_equals a m s = record {
    each = λ n. at n (eqb (s.label n) (s.label a)) refl;
    carried = λ n j e. e;
    kept_low = larger_left t (s.low (s.label a)) m;
    kept_high = smaller_left t (s.high (s.label a)) m;
  }
    where
      at : (n : ℕ) (q : Bool) → eqb (s.label n) (s.label a) ≡ q → Step s (joined order (equals a m) s) (s.label a) (s.label a) m m n
      at n true f = let e = eqb-true (s.label n) (s.label a) f in hit (inl e) e (rw f) (rw f)
      at n false f = pass (eqb-false (s.label n) (s.label a) f) refl (rw f) (rw f)

  module _ {s s' : Classes order} {k l : ℕ} {lo hi : N} (steps : Steps s s' k l lo hi) {c : ℕ → N} where
    -- from the classes before to those after
    fits_on : Fits s c → ((n : ℕ) → K n → (s.label n ≡ k) ⊎ (s.label n ≡ l) → T (at_most order (s.low k) (c n)) × T (at_most order lo (c n)) × T (at_most order (c n) (s.high k)) × T (at_most order (c n) hi))
        → ((n m : ℕ) → K n → K m → (s.label n ≡ k) ⊎ (s.label n ≡ l) → (s.label m ≡ k) ⊎ (s.label m ≡ l) → c n ≡ c m) → Fits s' c
    fits_on f bounds same = record { from = λ n h. low n h (steps.each n); up_to = λ n h. high n h (steps.each n); one = λ n m h j e. alike_now n m h j e (steps.each n) (steps.each m) }
      where
        low : (n : ℕ) → K n → Step s s' k l lo hi n → T (at_most order (s'.low (s'.label n)) (c n))
        low n h (hit w e p q) = let b = bounds n h w in rw p (larger_is t (λ (x : N). T (at_most order x (c n))) (s.low k) lo b.0 b.1)
        low n h (pass w e p q) = rw p (f.from n h)

        high : (n : ℕ) → K n → Step s s' k l lo hi n → T (at_most order (c n) (s'.high (s'.label n)))
        high n h (hit w e p q) = let b = bounds n h w in rw q (smaller_is t (λ (x : N). T (at_most order (c n) x)) (s.high k) hi b.2 b.3)
        high n h (pass w e p q) = rw q (f.up_to n h)

        alike_now : (n m : ℕ) → K n → K m → s'.label n ≡ s'.label m → Step s s' k l lo hi n → Step s s' k l lo hi m → c n ≡ c m
        alike_now n m h j e (hit w p a b) (hit w' p' a' b') = same n m h j w w'
        alike_now n m h j e (hit w p a b) (pass w' p' a' b') = absurd (w' (sym p' ∙ (sym e ∙ p)))
        alike_now n m h j e (pass w p a b) (hit w' p' a' b') = absurd (w (sym p ∙ (e ∙ p')))
        alike_now n m h j e (pass w p a b) (pass w' p' a' b') = f.one n m h j (sym p ∙ (e ∙ p'))

    -- and back
    fits_back : Fits s' c → Fits s c
    fits_back f = record { from = λ n h. low n (f.from n h) (steps.each n); up_to = λ n h. high n (f.up_to n h) (steps.each n); one = λ n m h j e. f.one n m h j (steps.carried n m e) }
      where
        low : (n : ℕ) → T (at_most order (s'.low (s'.label n)) (c n)) → Step s s' k l lo hi n → T (at_most order (s.low (s.label n)) (c n))
        low n h (hit (inl w) e p q) = rw w (le_trans t (s.low k) (larger order (s.low k) lo) (c n) (larger_left t (s.low k) lo) (rw p at h))
        low n h (hit (inr w) e p q) = rw w (le_trans t (s.low l) (larger order (s.low k) lo) (c n) steps.kept_low (rw p at h))
        low n h (pass w e p q) = rw p at h

        high : (n : ℕ) → T (at_most order (c n) (s'.high (s'.label n))) → Step s s' k l lo hi n → T (at_most order (c n) (s.high (s.label n)))
        high n h (hit (inl w) e p q) = rw w (le_trans t (c n) (smaller order (s.high k) hi) (s.high k) (rw q at h) (smaller_left t (s.high k) hi))
        high n h (hit (inr w) e p q) = rw w (le_trans t (c n) (smaller order (s.high k) hi) (s.high l) (rw q at h) steps.kept_high)
        high n h (pass w e p q) = rw q at h

    -- the bounds of a node in the class that was cut down
    cut_low : Fits s' c → (n : ℕ) → K n → s'.low (s'.label n) ≡ larger order (s.low k) lo → T (at_most order lo (c n))
    cut_low f n h e = le_trans t lo (larger order (s.low k) lo) (c n) (larger_right t (s.low k) lo) (rw e at (f.from n h))

    cut_high : Fits s' c → (n : ℕ) → K n → s'.high (s'.label n) ≡ smaller order (s.high k) hi → T (at_most order (c n) hi)
    cut_high f n h e = le_trans t (c n) (smaller order (s.high k) hi) hi (rw e at (f.up_to n h)) (smaller_right t (s.high k) hi)

  -- a step keeps to the equality that it was made for
  module _ (s : Classes order) (c : ℕ → N) where
    pub to_joined : (q : Equality N) → Counts q → Fits s c → T (holds order c q) → Fits (joined order q s) c
    unfolding holds
    to_joined (alike a b) (ka, kb) f h =
        let e : c a ≡ c b = equal→ t (c a) (c b) h in
        let near : (n : ℕ) → K n → (s.label n ≡ s.label a) ⊎ (s.label n ≡ s.label b) → c n ≡ c a = near_of e in
        fits_on (steps_alike a b s) f
        (λ n j w. (
          rw (near n j w) (f.from a ka),
          rw (near n j w ∙ e) (f.from b kb),
          rw (near n j w) (f.up_to a ka),
          rw (near n j w ∙ e) (f.up_to b kb),
        ))
        (λ n m j i w w'. near n j w ∙ sym (near m i w'))
      where
        near_of : c a ≡ c b → (n : ℕ) → K n → (s.label n ≡ s.label a) ⊎ (s.label n ≡ s.label b) → c n ≡ c a
        near_of e n j (inl w) = f.one n a j ka w
        near_of e n j (inr w) = f.one n b j kb w ∙ sym e
    to_joined (equals a m) (ka, km) f h =
        let e : c a ≡ m = equal→ t (c a) m h in
        fits_on (steps_equals a m s) f
        (λ n j w. (
          rw (near n j w) (f.from a ka),
          rw (near n j w ∙ e) (le_refl t m),
          rw (near n j w) (f.up_to a ka),
          rw (near n j w ∙ e) (le_refl t m),
        ))
        (λ n i j g w w'. near n j w ∙ sym (near i g w'))
      where
        near : (n : ℕ) → K n → (s.label n ≡ s.label a) ⊎ (s.label n ≡ s.label a) → c n ≡ c a
        near n j (inl w) = f.one n a j ka w
        near n j (inr w) = f.one n a j ka w

    pub from_joined : (q : Equality N) → Counts q → Fits (joined order q s) c → Fits s c × T (holds order c q)
    unfolding holds
    from_joined (alike a b) (ka, kb) f =
        let e : (joined order (alike a b) s).label a ≡ (joined order (alike a b) s).label b = first a (eqb (s.label a) (s.label b)) ∙ sym second in
        (fits_back (steps_alike a b s) f, equal← t (c a) (c b) (f.one a b ka kb e))
      where
        first : (n : ℕ) (p : Bool) → cond p (s.label a) (s.label a) ≡ s.label a
        first n true = refl
        first n false = refl

        second : (joined order (alike a b) s).label b ≡ s.label a
        second = let r : eqb (s.label b) (s.label b) ≡ true = is_true (eqb_refl (s.label b)) in rw r
    from_joined (equals a m) (ka, km) f =
        let r : eqb (s.label a) (s.label a) ≡ true = is_true (eqb_refl (s.label a)) in
        let steps = steps_equals a m s in
        let low : T (at_most order m (c a)) = cut_low steps f a ka (rw r) in
        let high : T (at_most order (c a) m) = cut_high steps f a ka (rw r) in
        (fits_back steps f, equal← t (c a) m (le_antisym t (c a) m high low))

  -- classes stay open where the test says so
  module _ {s s' : Classes order} {k l : ℕ} {lo hi : N} (steps : Steps s s' k l lo hi) where
    open_on : Open s → T (ok (s.low k)) → T (ok lo) → T (at_most order (larger order (s.low k) lo) (smaller order (s.high k) hi)) → Open s'
    open_on o a b h = record { allowed = λ n j. good n j (steps.each n); ordered = λ n j. left n j (steps.each n) }
      where
        good : (n : ℕ) → K n → Step s s' k l lo hi n → T (ok (s'.low (s'.label n)))
        good n j (hit w e p q) = rw p (larger_is t (λ (x : N). T (ok x)) (s.low k) lo a b)
        good n j (pass w e p q) = rw p (o.allowed n j)

        left : (n : ℕ) → K n → Step s s' k l lo hi n → T (at_most order (s'.low (s'.label n)) (s'.high (s'.label n)))
        left n j (hit w e p q) = rw (p, q) h
        left n j (pass w e p q) = rw (p, q) (o.ordered n j)

  -- the range of the class that a step was made for
  range_alike : (a b : ℕ) (s : Classes order) → open? order a (joined order (alike a b) s) ≡ at_most order (larger order (s.low (s.label a)) (s.low (s.label b))) (smaller order (s.high (s.label a)) (s.high (s.label b)))
  range_alike a b s = go (eqb (s.label a) (s.label b))
    where
      r : eqb (s.label a) (s.label a) ≡ true
      r = is_true (eqb_refl (s.label a))

      go : (p : Bool) → at_most order
          (cond (eqb (cond p (s.label a) (s.label a)) (s.label a)) (larger order (s.low (s.label a)) (s.low (s.label b))) (s.low (cond p (s.label a) (s.label a))))
          (cond (eqb (cond p (s.label a) (s.label a)) (s.label a)) (smaller order (s.high (s.label a)) (s.high (s.label b))) (s.high (cond p (s.label a) (s.label a))))
          ≡ at_most order (larger order (s.low (s.label a)) (s.low (s.label b))) (smaller order (s.high (s.label a)) (s.high (s.label b)))
      go true = rw r
      go false = rw r

  range_equals : (a : ℕ) (m : N) (s : Classes order) → open? order a (joined order (equals a m) s) ≡ at_most order (larger order (s.low (s.label a)) m) (smaller order (s.high (s.label a)) m)
  range_equals a m s = let r : eqb (s.label a) (s.label a) ≡ true = is_true (eqb_refl (s.label a)) in rw r

  pub open_joined : (q : Equality N) → Counts q → (s : Classes order) → Open s → T (open? order (node_of order q) (joined order q s)) → Open (joined order q s)
  open_joined (alike a b) (ka, kb) s o h = open_on (steps_alike a b s) o (o.allowed a ka) (o.allowed b kb) (rw (range_alike a b s) at h)
  open_joined (equals a m) (ka, km) s o h = open_on (steps_equals a m s) o (o.allowed a ka) km (rw (range_equals a m s) at h)

  counted : (q : Equality N) → Counts q → K (node_of order q)
  counted (alike a b) (ka, kb) = ka
  counted (equals a m) (ka, km) = ka

  -- no choice keeps to a class that has no number left
  shut : (s : Classes order) (n : ℕ) → K n → open? order n s ≡ false → (c : ℕ → N) → Fits s c → ⊥
  shut s n k e c f = let h : T (open? order n s) = le_trans t (s.low (s.label n)) (c n) (s.high (s.label n)) (f.from n k) (f.up_to n k) in (rw e at h)

  -- 1. Some choice within the ranges meets all equalities exactly where the classes stay open.
  pub open_choice : (s : Classes order) → Open s → Fits s (λ n. s.low (s.label n))
  open_choice s o = record { from = λ n k. le_refl t (s.low (s.label n)); up_to = λ n k. o.ordered n k; one = λ n m k j e. ap s.low e }

  unified_some : (qs : List (Equality N)) (s s' : Classes order) → AllCount qs → Open s → unified order qs s ≡ some s' → (c : ℕ → N) × Fits s c × T (all_hold order c qs) × ((n : ℕ) → K n → T (ok (c n)))
  unfolding unified all_hold
  unified_some [] s s' k o e = (λ n. s.low (s.label n), open_choice s o, tt, o.allowed)
  unified_some (q ∷ qs) s s' (k, ks) o e = go (open? order (node_of order q) (joined order q s)) refl e (λ o' e'. unified_some qs (joined order q s) s' ks o' e')
    where
      go : (b : Bool) → open? order (node_of order q) (joined order q s) ≡ b → cond b (unified order qs (joined order q s)) none ≡ some s'
          → (Open (joined order q s) → unified order qs (joined order q s) ≡ some s' → (c : ℕ → N) × Fits (joined order q s) c × T (all_hold order c qs) × ((n : ℕ) → K n → T (ok (c n))))
          → (c : ℕ → N) × Fits s c × T (holds order c q && all_hold order c qs) × ((n : ℕ) → K n → T (ok (c n)))
      go true p e' rest =
          let (c, f, h, a) = rest (open_joined q k s o (true_is p)) e' in
          let (f', h') = from_joined s c q k f in
          (c, f', both (holds order c q) (all_hold order c qs) h' h, a)
      go false p e' rest = absurd (false≢true (cc))

  unified_none : (qs : List (Equality N)) (s : Classes order) → AllCount qs → unified order qs s ≡ none → (c : ℕ → N) → Fits s c → T (all_hold order c qs) → ⊥
  unfolding unified all_hold
  unified_none [] s k e c f h = false≢true (cc)
  unified_none (q ∷ qs) s (k, ks) e c f h =
      go (open? order (node_of order q) (joined order q s)) refl e (λ e'. unified_none qs (joined order q s) ks e' c fits (and_right (holds order c q) (all_hold order c qs) h))
    where
      fits : Fits (joined order q s) c
      fits = to_joined s c q k f (and_left (holds order c q) (all_hold order c qs) h)

      go : (b : Bool) → open? order (node_of order q) (joined order q s) ≡ b → cond b (unified order qs (joined order q s)) none ≡ none → (unified order qs (joined order q s) ≡ none → ⊥) → ⊥
      go true p e' rest = rest e'
      go false p e' rest = shut (joined order q s) (node_of order q) (counted q k) p c fits

  -- classes of one node each, with the nodes' ranges
  pub record Starts (r : Ranges N) (s : Classes order) : Type 0 where
    pub low : (n : ℕ) → K n → s.low (s.label n) ≡ r.lowest n
    pub high : (n : ℕ) → K n → s.high (s.label n) ≡ r.highest n
    pub differ : (n m : ℕ) → K n → K m → s.label n ≡ s.label m → n ≡ m

  pub starts_apart : (r : Ranges N) → Starts r (apart order r)
  starts_apart r = record { low = λ n k. refl; high = λ n k. refl; differ = λ n m k j e. e }

  module _ (r : Ranges N) (s : Classes order) (start : Starts r s) where
    pub fits_start : (c : ℕ → N) → Within r c → Fits s c
    fits_start c w = record { from = λ n k. rw (start.low n k) (w.from n k); up_to = λ n k. rw (start.high n k) (w.up_to n k); one = λ n m k j e. ap c (start.differ n m k j e) }

    pub open_start : Good r → Open s
    open_start g = record { allowed = λ n k. rw (start.low n k) (g.low n k); ordered = λ n k. rw (start.low n k, start.high n k) (g.ordered n k) }

    pub some_choice : (qs : List (Equality N)) → AllCount qs → Good r → (s' : Classes order) → unified order qs s ≡ some s' → (c : ℕ → N) × Within r c × T (all_hold order c qs)
    some_choice qs k g s' e =
        let (c, f, h, a) = unified_some qs s s' k (open_start g) e in
        (c, record { allowed = a; from = λ n j. rw (start.low n j) at (f.from n j); up_to = λ n j. rw (start.high n j) at (f.up_to n j) }, h)

    pub no_choice : (qs : List (Equality N)) → AllCount qs → unified order qs s ≡ none → (c : ℕ → N) → Within r c → T (all_hold order c qs) → ⊥
    no_choice qs k e c w h = unified_none qs s k e c (fits_start c w) h

  -- whatever the labels are at the start
  pub same_verdict : (r : Ranges N) (s s' : Classes order) → Starts r s → Starts r s' → Good r → (qs : List (Equality N)) → AllCount qs → is_some (unified order qs s) ≡ is_some (unified order qs s')
  same_verdict r s s' a b g qs k = go (unified order qs s) refl (unified order qs s') refl
    where
      go : (o : Option (Classes order)) → unified order qs s ≡ o → (p : Option (Classes order)) → unified order qs s' ≡ p → is_some o ≡ is_some p
      go none i none j = refl
      go none i (some t') j = let (c, w, h) = some_choice r s' b qs k g t' j in absurd (no_choice r s a qs k i c w h)
      go (some t') i none j = let (c, w, h) = some_choice r s a qs k g t' i in absurd (no_choice r s' b qs k j c w h)
      go (some t') i (some u) j = refl
