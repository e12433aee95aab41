-- Rounds of joining: each join is forced, there are at most as many rounds as places, and what comes of them is closed.
use Prim.Native.Nat.{ℕ, zero, suc, ◌+◌, ◌≤◌}
use mathlib.Core.Bool.{Bool, true, false, false≢true}
use mathlib.Core.List.{List, [], ◌∷◌}
use mathlib.Core.Logic.{◌⊎◌, inl, inr, ⊎_elim}
use mathlib.Core.Option.{Option, none, some}
use mathlib.Core.Path.{◌≡◌, refl, ap, sym, ◌∙◌}
use native.Mathlib.Omega.{arith}
use borrow.Author.Tests.{eqb-true, eqb-false}
use lib.Dec.{eqb}
use Rattle.value.proofs.Keys.{true_is}
use Rattle.common_example.specs.Unify.{Head, free, leaf, items, keyed, Pairs, no_pair_lem, pair, is_free, meet, Closing, closed, conflict, unfinished, into, joined_classes, unless_same, join_pair, join_pairs, join_met, onward, round, class_count, unless_closed, after_round, close}
use Rattle.value.proofs.Equal.{Meaning}
use Rattle.common_example.proofs.unify.Heads.{Joins, Forced, HeadOk, KeysAscend, meet_forced, Agree, agree_refl, meet_agrees}
use Rattle.common_example.proofs.unify.Closing.{Tells, Finer, Named, not_same, into_cases, into_named, into_coarser, into_joins, into_finer}
use Rattle.common_example.proofs.unify.Counting.{Among, HeadAmong, PairsAmong}
use Rattle.common_example.proofs.unify.Joins.{Within, meet_within, Inside, fewer, into_inside}

module _ {P : Type 0} (sameP : P → P → Bool) (tells : Tells sameP) (g : P → Head P) (all : List P) where
  -- what holds of classes from single places on
  pub record Good (c : P → P) : Type 0 where
    pub named : Named c
    pub within : Inside sameP tells g all c
    -- no other places are moved
    pub moved : (p : P) → (c p ≡ p) ⊎ Among p all
    -- a class with a free name has free places only
    pub loose : (p : P) → is_free (g (c p)) ≡ true → is_free (g p) ≡ true

  pub single : Good (λ p. p)
  single = record { named = λ p. refl; within = λ p a. a; moved = λ p. inl refl; loose = λ p h. h }

  abbrev total : (P → P) → ℕ
  total c = class_count sameP g all c

  -- nothing happened, or there are fewer classes
  pub record Step (c c' : P → P) : Type 0 where
    pub good : Good c'
    pub coarser : Finer c c'
    pub less : (c' ≡ c) ⊎ (total c' + 1 ≤ total c)

  stay : (c : P → P) → Good c → Step c c
  stay c good = record { good = good; coarser = λ i j e. e; less = inl refl }

  step_most : (c d : P → P) → Step c d → total d ≤ total c
  step_most c d s = ⊎_elim (λ e. same_total e) (λ h. lower (total d) (total c) h) s.less
    where
      same_total : d ≡ c → total d ≤ total c
      same_total e = let q = ap total e in omega arith

      lower : (a b : ℕ) → a + 1 ≤ b → a ≤ b
      lower a b h = omega arith

  step_on : (c d e : P → P) → Step c d → Step d e → Step c e
  step_on c d e s r = record { good = r.good; coarser = λ i j q. r.coarser i j (s.coarser i j q); less = go s.less r.less }
    where
      go : (d ≡ c) ⊎ (total d + 1 ≤ total c) → (e ≡ d) ⊎ (total e + 1 ≤ total d) → (e ≡ c) ⊎ (total e + 1 ≤ total c)
      go (inl p) (inl q) = inl (q ∙ p)
      go (inl p) (inr k) = let x = ap total p in inr (omega arith)
      go (inr h) q = let x = step_most d e r in inr (omega arith)

  module _ (a b : P) (c : P → P) (good : Good c) (ca : c a ≡ a) (cb : c b ≡ b) (differ : a ≡ b → ⊥) (in-a : Among a all) (in_b : Among b all) (frees : is_free (g a) ≡ true → is_free (g b) ≡ true) where
    into_step : Step c (into sameP g a b c)
    into_step = record {
      good = record {
        named = into_named sameP tells g a b c good.named ca cb differ;
        within = into_inside sameP tells g all a b c good.named ca cb differ in-a in_b good.within;
        moved = λ i. into_cases sameP tells g a b c i
            (λ q e. inr (⊎_elim (λ s. let r : i ≡ b = sym s ∙ q in rw r in_b) (λ h. h) (good.moved i)))
            (λ n e. ⊎_elim (λ s. inl (e ∙ s)) (λ h. inr h) (good.moved i));
        loose = λ i h. into_cases sameP tells g a b c i
            (λ q e. good.loose i (ap (λ p. is_free (g p)) q ∙ frees (ap (λ p. is_free (g p)) (sym e) ∙ h)))
            (λ n e. good.loose i (ap (λ p. is_free (g p)) (sym e) ∙ h));
      };
      coarser = into_coarser sameP tells g a b c good.named ca cb differ;
      less = inr (fewer sameP tells g all a b c good.named ca cb differ in-a in_b);
    }

  -- one join
  join_step : (a b : P) (c : P → P) → Good c → Among a all → Among b all → Step c (join_pair sameP g a b c) × (join_pair sameP g a b c a ≡ join_pair sameP g a b c b)
  join_step a b c good in-a in_b = go (sameP (c a) (c b)) refl
    where
      named : Named c
      named = good.named

      apart : (c a ≡ c b → ⊥) → (t : Bool) → is_free (g (c a)) ≡ t → Step c (joined_classes sameP g t (c a) (c b) c) × (joined_classes sameP g t (c a) (c b) c a ≡ joined_classes sameP g t (c a) (c b) c b)
      apart n true e =
          let differ : c b ≡ c a → ⊥ = λ q. n (sym q) in
          let s = into_step (c b) (c a) c good (named b) (named a) differ (good.within b in_b) (good.within a in-a) (λ h. e) in
          let j = into_joins sameP tells g (c b) (c a) c named (named b) (named a) differ in
          (s, s.coarser a (c a) (sym (named a)) ∙ (sym j ∙ s.coarser (c b) b (named b)))
      apart n false e =
          let s = into_step (c a) (c b) c good (named a) (named b) n (good.within a in-a) (good.within b in_b) (λ h. absurd (false≢true (sym e ∙ h))) in
          let j = into_joins sameP tells g (c a) (c b) c named (named a) (named b) n in
          (s, s.coarser a (c a) (sym (named a)) ∙ (j ∙ s.coarser (c b) b (named b)))

      go : (t : Bool) → sameP (c a) (c b) ≡ t → Step c (unless_same sameP g t c (joined_classes sameP g (is_free (g (c a))) (c a) (c b) c)) × (unless_same sameP g t c (joined_classes sameP g (is_free (g (c a))) (c a) (c b) c) a ≡ unless_same sameP g t c (joined_classes sameP g (is_free (g (c a))) (c a) (c b) c) b)
      go true s = (stay c good, tells.equal (c a) (c b) (true_is s))
      go false s = apart (not_same sameP tells g s) (is_free (g (c a))) refl

  pub start_step : (a b : P) → Among a all → Among b all → Step (λ p. p) (join_pair sameP g a b (λ p. p)) × (join_pair sameP g a b (λ p. p) a ≡ join_pair sameP g a b (λ p. p) b)
  start_step a b in-a in_b = join_step a b (λ p. p) single in-a in_b

  joins_step : (w : Pairs P) (c : P → P) → Good c → PairsAmong all w → Step c (join_pairs sameP g w c) × Joins (join_pairs sameP g w c) w
  unfolding join_pairs
  joins_step no_pair_lem c good i = (stay c good, tt)
  joins_step (pair a b w) c good i =
      let s = join_step a b c good i.0 i.1 in
      let r = joins_step w (join_pair sameP g a b c) s.0.good i.2 in
      (step_on c (join_pair sameP g a b c) (join_pairs sameP g w (join_pair sameP g a b c)) s.0 r.0, (r.0.coarser a b s.1, r.1))

  module _ (inside : (p : P) → HeadAmong all (g p)) where
    -- what the heads of a place and of its class join
    met_among : (p : P) (c : P → P) (w : Pairs P) → meet (g (c p)) (g p) no_pair_lem ≡ some w → PairsAmong all w
    met_among p c w e = go (meet (g (c p)) (g p) no_pair_lem) (meet_within all (g (c p)) (g p) no_pair_lem (inside (c p)) (inside p) tt) e
      where
        go : (o : Option (Pairs P)) → Within all o → o ≡ some w → PairsAmong all w
        go none i q = absurd (false≢true (cc))
        go (some w') i q = let r : w' ≡ w = cc in rw (← r) i

    -- the heads met, and joined_classes nothing
    abbrev Met : (P → P) → P → Type 0
    Met c p = (w : Pairs P) × (meet (g (c p)) (g p) no_pair_lem ≡ some w) × Joins c w

    pub record Rounded (ps : List P) (c c' : P → P) : Type 0 where
      pub step : Step c c'
      pub met : c' ≡ c → (p : P) → Among p ps → Met c p

    some_path : (c d : P → P) → some c ≡ some d → c ≡ d
    some_path c d e = cc

    round_step : (ps : List P) (c c' : P → P) → Good c → round sameP g ps c ≡ some c' → Rounded ps c c'
    unfolding round
    round_step [] c c' good e = let q = some_path c c' e in rw (← q) (record { step = stay c good; met = λ r p a. absurd a })
    round_step (p ∷ ps) c c' good e = go (λ d good' q. round_step ps d c' good' q) (meet (g (c p)) (g p) no_pair_lem) refl e
      where
        go : ((d : P → P) → Good d → round sameP g ps d ≡ some c' → Rounded ps d c') → (o : Option (Pairs P)) → meet (g (c p)) (g p) no_pair_lem ≡ o → onward sameP g (join_met sameP g o c) (round sameP g ps) ≡ some c' → Rounded (p ∷ ps) c c'
        go rest none m q = absurd (false≢true (cc))
        go rest (some w) m q = record { step = step_on c d c' s.0 r.step; met = all_met }
          where
            d : P → P
            d = join_pairs sameP g w c

            s : Step c d × Joins d w
            s = joins_step w c good (met_among p c w m)

            r : Rounded ps d c'
            r = rest d s.0.good q

            same : c' ≡ c → d ≡ c
            same e' = ⊎_elim (λ x. x) (λ h. absurd (below (total c) (total d) (total c') h (step_most d c' r.step) (ap total e'))) s.0.less
              where
                below : (a b x : ℕ) → b + 1 ≤ a → x ≤ b → x ≡ a → ⊥
                below a b x h k q' = omega arith

            all_met : c' ≡ c → (p' : P) → Among p' (p ∷ ps) → Met c p'
            all_met e' p' a = ⊎_elim (λ x. rw x (w, m, j)) (λ a'. others a') a
              where
                eq : d ≡ c
                eq = same e'

                j : Joins c w
                j = let x = s.1 in rw eq at x

                others : Among p' ps → Met c p'
                others a' = let x = r.met (e' ∙ sym eq) p' a' in rw eq at x

    -- 1. What comes of it is closed.
    pub record Closed (c d : P → P) : Type 0 where
      pub named : Named d
      pub agrees : (i : P) → Agree d (g i) (g (d i))
      pub coarser : Finer c d

    closed_path : (c d : P → P) → closed c ≡ closed d → c ≡ d
    closed_path c d e = cc

    free_agrees : (d : P → P) (h k : Head P) → is_free h ≡ true → Agree d h k
    free_agrees d free k e = tt
    free_agrees d (leaf l) k e = absurd (false≢true e)
    free_agrees d (items ps) k e = absurd (false≢true e)
    free_agrees d (keyed fs) k e = absurd (false≢true e)

    at_end_lem : (c : P → P) → Good c → ((p : P) → Among p all → Met c p) → (i : P) → Agree c (g i) (g (c i))
    at_end_lem c good met i = ⊎_elim (λ s. rw s (agree_refl c (g i))) (λ a. go a (met i a) (is_free (g (c i))) refl) (good.moved i)
      where
        go : Among i all → Met c i → (b : Bool) → is_free (g (c i)) ≡ b → Agree c (g i) (g (c i))
        go a m true e = free_agrees c (g i) (g (c i)) (good.loose i e)
        go a m false e = meet_agrees c (g (c i)) (g i) no_pair_lem m.0 e m.1 m.2

    pub closed_from : (m : ℕ) (c d : P → P) → Good c → close sameP g all m c ≡ closed d → Closed c d
    unfolding close
    closed_from zero c d good e = absurd (false≢true (cc))
    closed_from (suc m) c d good e = go (λ c' good' q. closed_from m c' d good' q) (round sameP g all c) refl e
      where
        Rest : Type 0
        Rest = (c' : P → P) → Good c' → close sameP g all m c' ≡ closed d → Closed c' d

        done : (c' : P → P) → Rounded all c c' → total c' ≡ total c → closed c' ≡ closed d → Closed c d
        done c' r same q = ⊎_elim (λ x. let y = closed_path c' d q in let z : c ≡ d = sym x ∙ y in rw (← z) (record { named = good.named; agrees = at_end_lem c good (r.met x); coarser = λ i j p. p })) (λ h. absurd (never (total c') (total c) h same)) r.step.less
          where
            never : (a b : ℕ) → a + 1 ≤ b → a ≡ b → ⊥
            never a b h p = omega arith

        on : (c' : P → P) → Rounded all c c' → Closed c' d → Closed c d
        on c' r k = record { named = k.named; agrees = k.agrees; coarser = λ i j p. k.coarser i j (r.step.coarser i j p) }

        after : Rest → (c' : P → P) → Rounded all c c' → (b : Bool) → eqb (total c') (total c) ≡ b → unless_closed sameP g b c' (close sameP g all m c') ≡ closed d → Closed c d
        after rest c' r true p q = done c' r (eqb-true (total c') (total c) p) q
        after rest c' r false p q = on c' r (rest c' r.step.good q)

        go : Rest → (o : Option (P → P)) → round sameP g all c ≡ o → after_round sameP g all (total c) o (close sameP g all m) ≡ closed d → Closed c d
        go rest none p q = absurd (false≢true (cc))
        go rest (some c') p q = after rest c' (round_step all c c' good p) (eqb (total c') (total c)) refl q

    -- 2. There are rounds enough.
    ends : (m : ℕ) (c : P → P) → Good c → total c + 1 ≤ m → close sameP g all m c ≡ unfinished → ⊥
    unfolding close
    ends zero c good few e = none_left (total c) few
      where
        none_left : (k : ℕ) → k + 1 ≤ 0 → ⊥
        none_left k h = omega arith
    ends (suc m) c good few e = go (λ c' good' few' q. ends m c' good' few' q) (round sameP g all c) refl e
      where
        Rest : Type 0
        Rest = (c' : P → P) → Good c' → total c' + 1 ≤ m → close sameP g all m c' ≡ unfinished → ⊥

        after : Rest → (c' : P → P) → Rounded all c c' → (b : Bool) → eqb (total c') (total c) ≡ b → unless_closed sameP g b c' (close sameP g all m c') ≡ unfinished → ⊥
        after rest c' r true p q = false≢true (cc)
        after rest c' r false p q = rest c' r.step.good (⊎_elim (λ x. absurd (eqb-false (total c') (total c) p (ap total x))) (λ h. one_less (total c') (total c) h few) r.step.less) q
          where
            one_less : (a b : ℕ) → a + 1 ≤ b → b + 1 ≤ suc m → a + 1 ≤ m
            one_less a b h k = omega arith

        go : Rest → (o : Option (P → P)) → round sameP g all c ≡ o → after_round sameP g all (total c) o (close sameP g all m) ≡ unfinished → ⊥
        go rest none p q = false≢true (cc)
        go rest (some c') p q = after rest c' (round_step all c c' good p) (eqb (total c') (total c)) refl q

    pub ends_from : (m n : ℕ) → n ≤ m → (c : P → P) → Good c → total c ≤ n → close sameP g all (suc m) c ≡ unfinished → ⊥
    ends_from m n h c good few e = ends (suc m) c good (omega arith) e

    -- 3. A solution has one value in each class, and meets no conflict.
    module _ (μ : P → Meaning) (ascend : (p : P) → KeysAscend (g p)) (solves : (p : P) → HeadOk μ (g p) (μ p)) where
      pub record Kept (d : Closing P) : Type 0 where
        pub possible : d ≡ conflict → ⊥
        pub finer : (c : P → P) → d ≡ closed c → Finer c μ

      pub join_kept : (a b : P) (c : P → P) → Good c → Finer c μ → μ a ≡ μ b → Finer (join_pair sameP g a b c) μ
      join_kept a b c good f e = go (sameP (c a) (c b)) refl
        where
          named : Named c
          named = good.named

          ends_meet : μ (c a) ≡ μ (c b)
          ends_meet = f (c a) a (named a) ∙ (e ∙ f b (c b) (sym (named b)))

          apart : (c a ≡ c b → ⊥) → (t : Bool) → Finer (joined_classes sameP g t (c a) (c b) c) μ
          apart n true = into_finer sameP tells g (c b) (c a) c named (named b) (named a) (λ q. n (sym q)) μ f (sym ends_meet)
          apart n false = into_finer sameP tells g (c a) (c b) c named (named a) (named b) n μ f ends_meet

          go : (t : Bool) → sameP (c a) (c b) ≡ t → Finer (unless_same sameP g t c (joined_classes sameP g (is_free (g (c a))) (c a) (c b) c)) μ
          go true s = f
          go false s = apart (not_same sameP tells g s) (is_free (g (c a)))

      joins_kept : (w : Pairs P) (c : P → P) → Good c → PairsAmong all w → Finer c μ → Joins μ w → Finer (join_pairs sameP g w c) μ
      unfolding join_pairs
      joins_kept no_pair_lem c good i f j = f
      joins_kept (pair a b w) c good i f j =
          joins_kept w (join_pair sameP g a b c) (join_step a b c good i.0 i.1).0.good i.2 (join_kept a b c good f j.0) j.1

      heads_meet : (p : P) (c : P → P) → Good c → Finer c μ → Forced μ (meet (g (c p)) (g p) no_pair_lem)
      heads_meet p c good f = let s = solves (c p) in let e = f (c p) p (good.named p) in meet_forced μ (g (c p)) (g p) (μ p) no_pair_lem (ascend (c p)) (ascend p) (rw e at s) (solves p) tt

      record RoundKept (o : Option (P → P)) : Type 0 where
        pub possible : o ≡ none → ⊥
        pub finer : (c : P → P) → o ≡ some c → Finer c μ

      round_kept : (ps : List P) (c : P → P) → Good c → Finer c μ → RoundKept (round sameP g ps c)
      unfolding round
      round_kept [] c good f = record { possible = λ e. false≢true (cc); finer = λ d e. let q = some_path c d e in rw (← q) f }
      round_kept (p ∷ ps) c good f = go (λ d good' f'. round_kept ps d good' f') (meet (g (c p)) (g p) no_pair_lem) refl (heads_meet p c good f)
        where
          go : ((d : P → P) → Good d → Finer d μ → RoundKept (round sameP g ps d)) → (o : Option (Pairs P)) → meet (g (c p)) (g p) no_pair_lem ≡ o → Forced μ o → RoundKept (onward sameP g (join_met sameP g o c) (round sameP g ps))
          go rest none m k = absurd k
          go rest (some w) m k = let i = met_among p c w m in rest (join_pairs sameP g w c) (joins_step w c good i).0.good (joins_kept w c good i f k)

      pub kept_from : (m : ℕ) (c : P → P) → Good c → Finer c μ → Kept (close sameP g all m c)
      unfolding close
      kept_from zero c good f = record { possible = λ e. false≢true (cc); finer = λ d e. absurd (false≢true (cc)) }
      kept_from (suc m) c good f = go (λ c' good' f'. kept_from m c' good' f') (round sameP g all c) refl (round_kept all c good f)
        where
          Rest : Type 0
          Rest = (c' : P → P) → Good c' → Finer c' μ → Kept (close sameP g all m c')

          after : Rest → (c' : P → P) → Good c' → Finer c' μ → (b : Bool) → Kept (unless_closed sameP g b c' (close sameP g all m c'))
          after rest c' good' f' true = record { possible = λ e. false≢true (cc); finer = λ d e. let q = closed_path c' d e in rw (← q) f' }
          after rest c' good' f' false = rest c' good' f'

          go : Rest → (o : Option (P → P)) → round sameP g all c ≡ o → RoundKept o → Kept (after_round sameP g all (total c) o (close sameP g all m))
          go rest none p k = absurd (k.possible refl)
          go rest (some c') p k = after rest c' (round_step all c c' good p).step.good (k.finer c' refl) (eqb (total c') (total c))
