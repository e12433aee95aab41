-- The store for every history of calls: what is kept, what is in use, what is read.
use Prim.Native.Nat.{ℕ, zero, suc, ◌+◌, ◌-◌, ◌≤◌, ◌<◌}
use mathlib.Core.Path.{◌≡◌, refl, sym, ap, ◌∙◌}
use mathlib.Core.Bool.{Bool, true, false, cond, false≢true}
use mathlib.Core.List.{List, [], ◌∷◌, ◌++◌, map, sum, append_assoc, append-nil}
use mathlib.Core.Option as Option
use native.Mathlib.Omega.{arith}
use borrow.Author.Tests.{eqb-true, eqb-false, eq-eqb, ne_eqb, leb-true, le-leb}
use lib.Dec.{eqb, leb}
use lib.ListN.{length, get_or, set, length-append, get_or-append, get_or-eq_default}
use lib.Seq.{get_or-append-add, get_or-set_same, get_or-set_other, map-set_same}
use Rattle.table.proofs.tests.Bools.{and_true, never}
use Rattle.planner.specs.Layout.{Entry}
use Rattle.plan_store.specs.Store.{capacity, most_packs, Pack, pack, share_of, used, Store, is_pack, no_pack, pack_of, total, common, beyond, common_used, free_reserve, free_common, shares_ok, fresh, is_kept, with_plan, after_keeping, place_of, no_entry, read_entry, emptied}
use Rattle.plan_store.specs.History.{StoreCall, keep, empty, after_call, after_calls, store_after, KeptPlan, kept_after_call, kept_after_calls, plans_kept, entries_of, no_emptying}
use Rattle.plan_store.specs.Promise.{StorePromised}
use Rattle.plan_store.proofs.laws.Sums.{sum_le, sum_add, sum_set, leb_both}

-- what every history keeps
pub record Sound (s : Store) : Type 0 where
  pub shares : shares_ok (map share_of s) ≡ true
  pub within : common_used s ≤ common s

pub shares_fit : (shares : List ℕ) → shares_ok shares ≡ true → (length shares ≤ most_packs) × (total shares ≤ capacity)
unfolding shares_ok
shares_fit shares ok =
    let a = and_true (leb (length shares) most_packs) (leb (total shares) capacity) ok in
    (leb-true (length shares) most_packs a.0, leb-true (total shares) capacity a.1)

pub shares_fresh : (shares : List ℕ) → map share_of (fresh shares) ≡ shares
shares_fresh [] = refl
shares_fresh (n ∷ ns) = ap (λ (l : List ℕ). n ∷ l) (shares_fresh ns)

pub fresh_unused : (shares : List ℕ) → common_used (fresh shares) ≡ 0
unfolding sum
fresh_unused [] = refl
fresh_unused (n ∷ ns) = let a = fresh_unused ns in omega arith

pub sound_fresh : (shares : List ℕ) → shares_ok shares ≡ true → Sound (fresh shares)
sound_fresh shares ok = let z = fresh_unused shares in record { shares = rw (shares_fresh shares) ok; within = omega arith }

pub is_pack_lem : (s : Store) (n : ℕ) → is_pack s n ≡ true → (1 ≤ n) × (n ≤ length s)
is_pack_lem s n is = let a = and_true (leb 1 n) (leb n (length s)) is in (leb-true 1 n a.0, leb-true n (length s) a.1)

-- one plan more
shares_with : (s : Store) (n : ℕ) (plan : List Entry) → map share_of (with_plan s n plan) ≡ map share_of s
shares_with s zero plan = refl
shares_with s (suc i) plan = map-set_same share_of s i (pack (pack_of s (suc i)).share ((pack_of s (suc i)).entries ++ plan)) no_pack refl

pub common_with : (s : Store) (n : ℕ) (plan : List Entry) → common (with_plan s n plan) ≡ common s
common_with s n plan = ap (λ (l : List ℕ). capacity - total l) (shares_with s n plan)

pub kept_exactly : (s : Store) (n : ℕ) (plan : List Entry) → is_pack s n ≡ true → common_used s ≤ common s → is_kept s n plan ≡ leb (common_used (with_plan s n plan)) (common s)
unfolding is_kept
kept_exactly s zero plan is fits = let a = (is_pack_lem s zero is).0 in absurd (omega arith)
kept_exactly s (suc i) plan is fits =
    let inside = (is_pack_lem s (suc i) is).1 in
    let p : Pack = get_or s i no_pack in
    let c = sum_set beyond s i (pack p.share (p.entries ++ plan)) (omega arith) in
    let m = length-append p.entries plan in
    rw is (leb_both (length plan) (free_reserve p + free_common s) (common_used (with_plan s (suc i) plan)) (common s) (λ h. omega arith) (λ h. omega arith))

pub kept_pack : (s : Store) (n : ℕ) (plan : List Entry) → is_kept s n plan ≡ true → is_pack s n ≡ true
unfolding is_kept
kept_pack s n plan e = (and_true (is_pack s n) (leb (length plan) (free_reserve (pack_of s n) + free_common s)) e).0

pub sound_with : (s : Store) → Sound s → (n : ℕ) (plan : List Entry) → is_kept s n plan ≡ true → Sound (with_plan s n plan)
sound_with s g n plan e =
    let c = common_with s n plan in
    let w = leb-true (common_used (with_plan s n plan)) (common s) (sym (kept_exactly s n plan (kept_pack s n plan e) g.within) ∙ e) in
    record { shares = rw (shares_with s n plan) g.shares; within = omega arith }

sound_keep : (s : Store) → Sound s → (n : ℕ) (plan : List Entry) → Sound (after_keeping s n plan)
unfolding after_keeping
sound_keep s g n plan = go (is_kept s n plan) refl
  where
    go : (b : Bool) → is_kept s n plan ≡ b → Sound (cond b (with_plan s n plan) s)
    go true e = sound_with s g n plan e
    go false e = g

sound_call : (s : Store) → Sound s → (c : StoreCall) → Sound (after_call s c)
sound_call s g (keep n plan) = sound_keep s g n plan
sound_call s g empty = sound_fresh (map share_of s) g.shares

pub sound_calls : (cs : List StoreCall) (s : Store) → Sound s → Sound (after_calls s cs)
unfolding after_calls
sound_calls [] s g = g
sound_calls (c ∷ cs) s g = sound_calls cs (after_call s c) (sound_call s g c)

shares_keep : (s : Store) (n : ℕ) (plan : List Entry) → map share_of (after_keeping s n plan) ≡ map share_of s
unfolding after_keeping
shares_keep s n plan = go (is_kept s n plan)
  where
    go : (b : Bool) → map share_of (cond b (with_plan s n plan) s) ≡ map share_of s
    go true = shares_with s n plan
    go false = refl

shares_calls : (cs : List StoreCall) (s : Store) → map share_of (after_calls s cs) ≡ map share_of s
unfolding after_calls
shares_calls [] s = refl
shares_calls (keep n plan ∷ cs) s = shares_calls cs (after_keeping s n plan) ∙ shares_keep s n plan
shares_calls (empty ∷ cs) s = shares_calls cs (emptied s) ∙ shares_fresh (map share_of s)

-- no more entries than the store has
pub sound_fits : (s : Store) → Sound s → total (map used s) ≤ capacity
sound_fits s g =
    let a = sum_add share_of beyond s in
    let b = sum_le used (λ p. share_of p + beyond p) (λ p. omega arith) s in
    let c = (shares_fit (map share_of s) g.shares).1 in
    let d = g.within in
    omega arith

pub used_few : (s : Store) (n : ℕ) → used (pack_of s n) ≤ total (map used s)
unfolding sum
used_few s zero = omega arith
used_few s (suc i) = at s i
  where
    at : (s : Store) (i : ℕ) → used (get_or s i no_pack) ≤ total (map used s)
    at [] i = omega arith
    at (p ∷ s) zero = omega arith
    at (p ∷ s) (suc i) = let h = at s i in omega arith

reserve_kept : (s : Store) (n : ℕ) (plan : List Entry) → is_pack s n ≡ true → used (pack_of s n) + length plan ≤ (pack_of s n).share → is_kept s n plan ≡ true
unfolding is_kept
reserve_kept s n plan is le = let t = le-leb (length plan) (free_reserve (pack_of s n) + free_common s) (omega arith) in rw (is, t)

-- the entries of each pack, with a plan of one
entries_with : (s : Store) (n : ℕ) (plan : List Entry) → is_pack s n ≡ true → (m : ℕ) → (pack_of (with_plan s n plan) m).entries ≡ (pack_of s m).entries ++ cond (eqb n m) plan []
entries_with s zero plan is m = let a = (is_pack_lem s zero is).0 in absurd (omega arith)
entries_with s (suc i) plan is zero = rw (ne_eqb (suc i) 0 (λ h. omega arith))
entries_with s (suc i) plan is (suc j) = go (eqb (suc i) (suc j)) refl
  where
    p : Pack
    p = pack (get_or s i no_pack).share ((get_or s i no_pack).entries ++ plan)

    go : (b : Bool) → eqb (suc i) (suc j) ≡ b → (get_or (set s i p) j no_pack).entries ≡ (get_or s j no_pack).entries ++ cond b plan []
    go true e =
        let inside = (is_pack_lem s (suc i) is).1 in
        let both = eqb-true (suc i) (suc j) e in
        let same : i ≡ j = omega arith in
        rw (← same) (ap (λ (q : Pack). q.entries) (get_or-set_same s i p no_pack (omega arith)))
    go false e = ap (λ (q : Pack). q.entries) (get_or-set_other s i j p no_pack (λ h. eqb-false (suc i) (suc j) e (ap suc (sym h)))) ∙ sym (append-nil (get_or s j no_pack).entries)

none_fresh : (shares : List ℕ) (n : ℕ) → (pack_of (fresh shares) n).entries ≡ []
none_fresh shares zero = refl
none_fresh shares (suc i) = at shares i
  where
    at : (shares : List ℕ) (i : ℕ) → (get_or (fresh shares) i no_pack).entries ≡ []
    at [] i = refl
    at (n ∷ ns) zero = refl
    at (n ∷ ns) (suc i) = at ns i

entries_more : (n m : ℕ) (kept : List KeptPlan) (plan : List Entry) → entries_of m (kept ++ (record { pack = n; plan = plan } ∷ [])) ≡ entries_of m kept ++ cond (eqb n m) plan []
unfolding entries_of
entries_more n m [] plan = go (eqb n m)
  where
    go : (b : Bool) → cond b (plan ++ []) [] ≡ cond b plan []
    go true = append-nil plan
    go false = refl
entries_more n m (k ∷ ks) plan = go (eqb k.pack m) (entries_more n m ks plan)
  where
    all : List Entry
    all = entries_of m (ks ++ (record { pack = n; plan = plan } ∷ []))

    go : (b : Bool) → all ≡ entries_of m ks ++ cond (eqb n m) plan [] → cond b (k.plan ++ all) all ≡ cond b (k.plan ++ entries_of m ks) (entries_of m ks) ++ cond (eqb n m) plan []
    go true h = ap (λ (l : List Entry). k.plan ++ l) h ∙ sym (append_assoc k.plan (entries_of m ks) (cond (eqb n m) plan []))
    go false h = h

-- the entries in use
Listed : Store → List KeptPlan → Type 0
Listed s kept = (m : ℕ) → (pack_of s m).entries ≡ entries_of m kept

listed_keep : (s : Store) (kept : List KeptPlan) (n : ℕ) (plan : List Entry) → Listed s kept → Listed (after_keeping s n plan) (kept_after_call s kept (keep n plan))
unfolding after_keeping Listed
listed_keep s kept n plan is m = go (is_kept s n plan) refl
  where
    go : (b : Bool) → is_kept s n plan ≡ b → (pack_of (cond b (with_plan s n plan) s) m).entries ≡ entries_of m (cond b (kept ++ (record { pack = n; plan = plan } ∷ [])) kept)
    go true e =
        entries_with s n plan (kept_pack s n plan e) m ∙ ap (λ (l : List Entry). l ++ cond (eqb n m) plan []) (is m) ∙ sym (entries_more n m kept plan)
    go false e = is m

listed_empty : (s : Store) → Listed (emptied s) []
unfolding Listed entries_of
listed_empty s m = none_fresh (map share_of s) m

listed_calls : (cs : List StoreCall) (s : Store) (kept : List KeptPlan) → Listed s kept → Listed (after_calls s cs) (kept_after_calls s kept cs)
unfolding after_calls kept_after_calls
listed_calls [] s kept is = is
listed_calls (keep n plan ∷ cs) s kept is = listed_calls cs (after_keeping s n plan) (kept_after_call s kept (keep n plan)) (listed_keep s kept n plan is)
listed_calls (empty ∷ cs) s kept is = listed_calls cs (emptied s) [] (listed_empty s)

-- until it is emptied a pack only gains entries
record Grown (n : ℕ) (s t : Store) : Type 0 where
  more : List Entry
  grown : (pack_of t n).entries ≡ (pack_of s n).entries ++ more

grows_keep : (n : ℕ) (s : Store) (m : ℕ) (plan : List Entry) → Grown n s (after_keeping s m plan)
unfolding after_keeping
grows_keep n s m plan = go (is_kept s m plan) refl
  where
    go : (b : Bool) → is_kept s m plan ≡ b → Grown n s (cond b (with_plan s m plan) s)
    go true e = record { more = cond (eqb m n) plan []; grown = entries_with s m plan (kept_pack s m plan e) n }
    go false e = record { more = []; grown = sym (append-nil (pack_of s n).entries) }

grows : (n : ℕ) (cs : List StoreCall) (s : Store) → no_emptying cs ≡ true → Grown n s (after_calls s cs)
unfolding after_calls no_emptying
grows n [] s e = record { more = []; grown = sym (append-nil (pack_of s n).entries) }
grows n (keep m plan ∷ cs) s e =
    let a = grows_keep n s m plan in
    let b = grows n cs (after_keeping s m plan) e in
    record { more = a.more ++ b.more; grown = b.grown ∙ ap (λ (l : List Entry). l ++ b.more) a.grown ∙ append_assoc (pack_of s n).entries a.more b.more }
grows n (empty ∷ cs) s e = absurd (false≢true e)

kept_there : (s : Store) (n place : ℕ) (plan : List Entry) → place_of s n plan ≡ Option.some place → ((pack_of (after_keeping s n plan) n).entries ≡ (pack_of s n).entries ++ plan) × (place ≡ used (pack_of s n))
unfolding place_of after_keeping
kept_there s n place plan e = go (is_kept s n plan) refl e
  where
    go : (b : Bool) → is_kept s n plan ≡ b → cond b (Option.some (used (pack_of s n))) Option.none ≡ Option.some place
        → ((pack_of (cond b (with_plan s n plan) s) n).entries ≡ (pack_of s n).entries ++ plan) × (place ≡ used (pack_of s n))
    go true k q =
        let i : used (pack_of s n) ≡ place = cc in
        let own = eq-eqb n n refl in
        (entries_with s n plan (kept_pack s n plan k) n ∙ ap (λ (b : Bool). (pack_of s n).entries ++ cond b plan []) own, sym i)
    go false k q = never (cc)

place_kept : (s : Store) (kept : List KeptPlan) (n : ℕ) (plan : List Entry) → Listed s kept → is_kept s n plan ≡ true → place_of s n plan ≡ Option.some (length (entries_of n kept))
unfolding place_of Listed
place_kept s kept n plan is k = rw (k, is n)

reads_kept : (s : Store) (n place : ℕ) (plan : List Entry) → place_of s n plan ≡ Option.some place → (later : List StoreCall) → no_emptying later ≡ true → (i : ℕ) → i < length plan
    → read_entry (after_calls (after_keeping s n plan) later) n (place + i) ≡ get_or plan i no_entry
unfolding read_entry
reads_kept s n place plan e later none i lt =
    let k = kept_there s n place plan e in
    let g = grows n later (after_keeping s n plan) none in
    let before : List Entry = (pack_of s n).entries in
    let parts : (pack_of (after_calls (after_keeping s n plan) later) n).entries ≡ (before ++ plan) ++ g.more = g.grown ∙ ap (λ (l : List Entry). l ++ g.more) k.0 in
    let long = length-append before plan in
    let at = k.1 in
    rw parts (get_or-append (before ++ plan) g.more no_entry (place + i) (omega arith) ∙ rw at (get_or-append-add before plan i no_entry))

pub store_promise : StorePromised
unfolding read_entry Listed entries_of
store_promise shares calls ok =
    let g = sound_calls calls (fresh shares) (sound_fresh shares ok) in
    record {
      keeps_shares = shares_calls calls (fresh shares) ∙ shares_fresh shares;
      fits = sound_fits (store_after shares calls) g;
      common_fits = g.within;
      exactly = λ n plan is. kept_exactly (store_after shares calls) n plan is g.within;
      reserve = λ n plan is le. reserve_kept (store_after shares calls) n plan is le;
      place = λ n plan k. place_kept (store_after shares calls) (plans_kept shares calls) n plan (listed_calls calls (fresh shares) [] (none_fresh shares)) k;
      in_use = listed_calls calls (fresh shares) [] (none_fresh shares);
      reads = reads_kept (store_after shares calls);
      reads_none_lem = λ n place le. get_or-eq_default (pack_of (store_after shares calls) n).entries no_entry le;
    }
