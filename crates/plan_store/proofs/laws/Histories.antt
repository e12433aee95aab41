-- Calls over words, and the words that they give.
use Prim.Native.Nat.{ℕ, suc, ◌-◌, ◌≤◌}
use mathlib.Core.Path.{◌≡◌, refl, sym, ap, subst, ◌∙◌}
use mathlib.Core.Bool.{Bool, true, false, cond, and-false}
use mathlib.Core.List.{List, [], ◌∷◌, ◌++◌, map, sum, map-append, append_assoc, append-nil}
use native.Mathlib.Omega.{arith}
use borrow.Author.Tests.{eqb-true, eq-eqb, leb-true, le-leb}
use lib.Dec.{eqb, leb}
use lib.ListN.{length, length-append}
use lib.Seq.{get_or_at, set_at}
use Rattle.table.proofs.tests.Bools.{and_true}
use Rattle.planner.specs.Layout.{Entry, words}
use Rattle.planner.specs.Entries.{read_entries}
use Rattle.planner.specs.Operations.{space}
use Rattle.planner.proofs.buffer.Written.{length_words}
use Rattle.plan_store.specs.Store.{capacity, Pack, share_of, used, Store, is_pack, no_pack, pack_of, total, common, beyond, common_used, shares_ok, empty_pack, fresh, is_kept, with_plan, after_keeping, emptied}
use Rattle.plan_store.specs.History.{after_calls, store_after}
use Rattle.plan_store.specs.History as History
use Rattle.plan_store.specs.Words.{store_words, words_of, with_store, store_of, is_store}
use Rattle.plan_store.specs.Calls.{can_set_up, set_up_after, can_keep, keep_after, read_from, empty_after}
use Rattle.plan_store.specs.WordsPromise.{WordsCall, keep, empty, words_after, store_calls, words_given, FromCalls, WordsPromise}
use Rattle.plan_store.proofs.laws.Stores.{Sound, shares_fresh, fresh_unused, sound_fresh, sound_with, kept_exactly}
use Rattle.plan_store.proofs.laws.Sums.{sum_append}
use Rattle.plan_store.proofs.laws.Encoding.{read_front, store_size, store_sound, written_back, over_back, over_is_store, over_over, length_store}

-- words that say a store
record Says (ws : List ℕ) (s : Store) : Type 0 where
  is : is_store ws ≡ true
  store : store_of ws ≡ s

says_over : (before : List ℕ) → length before ≡ store_words → (s : Store) → Sound s → Says (with_store before s) s
says_over before sized s g = record { is = over_is_store before sized s g; store = over_back before sized s g }

says_sound : {ws : List ℕ} {s : Store} → Says ws s → Sound s
says_sound {ws} h = subst Sound h.store (store_sound ws h.is)

says_keep : {ws : List ℕ} {s : Store} → Says ws s → (n : ℕ) (buffer : List ℕ) (count : ℕ) → count ≤ space buffer → Says (keep_after ws n buffer count) (after_keeping s n (read_entries buffer 0 count))
unfolding can_keep after_keeping
says_keep {ws} {s} h n buffer count inside =
    rw (h.is, le-leb count (space buffer) inside, h.store) (go (is_kept s n plan) refl)
  where
    plan : List Entry
    plan = read_entries buffer 0 count

    go : (b : Bool) → is_kept s n plan ≡ b → Says (cond b (with_store ws (with_plan s n plan)) ws) (cond b (with_plan s n plan) s)
    go true e = says_over ws (store_size ws h.is) (with_plan s n plan) (sound_with s (says_sound h) n plan e)
    go false e = h

keep_past : (ws : List ℕ) (n : ℕ) (buffer : List ℕ) (count : ℕ) → leb count (space buffer) ≡ false → keep_after ws n buffer count ≡ ws
unfolding can_keep
keep_past ws n buffer count past = rw (past, and-false (is_store ws))

says_empty : {ws : List ℕ} {s : Store} → Says ws s → Says (empty_after ws) (emptied s)
says_empty {ws} {s} h = rw (h.is, h.store) (says_over ws (store_size ws h.is) (emptied s) (sound_fresh (map share_of s) (says_sound h).shares))

says_calls : (cs : List WordsCall) (ws : List ℕ) (s : Store) → Says ws s → Says (words_after ws cs) (after_calls s (store_calls cs))
unfolding words_after store_calls after_calls
says_calls [] ws s h = h
says_calls (keep n buffer count ∷ cs) ws s h = go (leb count (space buffer)) refl (λ t u k. says_calls cs t u k)
  where
    plan : List Entry
    plan = read_entries buffer 0 count

    go : (b : Bool) → leb count (space buffer) ≡ b → ((t : List ℕ) (u : Store) → Says t u → Says (words_after t cs) (after_calls u (store_calls cs)))
        → Says (words_after (keep_after ws n buffer count) cs) (after_calls s (cond b (History.keep n plan ∷ store_calls cs) (store_calls cs)))
    go true e on = on (keep_after ws n buffer count) (after_keeping s n plan) (says_keep h n buffer count (leb-true count (space buffer) e))
    go false e on = rw (keep_past ws n buffer count e) (on ws s h)
says_calls (empty ∷ cs) ws s h = says_calls cs (empty_after ws) (emptied s) (says_empty h)

says_set_up : (before shares : List ℕ) → can_set_up before shares ≡ true → Says (set_up_after before shares) (fresh shares)
unfolding can_set_up
says_set_up before shares ok =
    let a = and_true (eqb (length before) store_words) (shares_ok shares) ok in
    rw ok (says_over before (eqb-true (length before) store_words a.0) (fresh shares) (sound_fresh shares a.1))

says_given : (before shares : List ℕ) (calls : List WordsCall) → can_set_up before shares ≡ true → Says (words_given before shares calls) (store_after shares (store_calls calls))
says_given before shares calls ok = says_calls calls (set_up_after before shares) (fresh shares) (says_set_up before shares ok)

-- Words that pass come of keeping each pack's entries as one plan, over these very words.
module _ (front : Store) (p : Pack) (back : Store) (g : Sound (front ++ (p ∷ back))) where
  -- the packs in front with their entries, those behind without; q in the place of p
  part : Pack → Store
  part q = front ++ (q ∷ fresh (map share_of back))

  shares_part : (q : Pack) → q.share ≡ p.share → map share_of (part q) ≡ map share_of (front ++ (p ∷ back))
  unfolding part
  shares_part q e =
      map-append share_of front (q ∷ fresh (map share_of back)) ∙ rw (e, shares_fresh (map share_of back)) (sym (map-append share_of front (p ∷ back)))

  common_part : (q : Pack) → q.share ≡ p.share → common (part q) ≡ common (front ++ (p ∷ back))
  common_part q e = ap (λ (l : List ℕ). capacity - total l) (shares_part q e)

  used_part : (q : Pack) → beyond q ≤ beyond p → common_used (part q) ≤ common (front ++ (p ∷ back))
  unfolding part sum
  used_part q le =
      let a = sum_append beyond front (q ∷ fresh (map share_of back)) in
      let b = sum_append beyond front (p ∷ back) in
      let z = fresh_unused (map share_of back) in
      let w = g.within in
      omega arith

  sound_part : (q : Pack) → q.share ≡ p.share → beyond q ≤ beyond p → Sound (part q)
  sound_part q e le = let c = common_part q e in let u = used_part q le in record { shares = rw (shares_part q e) g.shares; within = omega arith }

  none : Pack
  none = empty_pack p.share

  same_share : none.share ≡ p.share
  unfolding none
  same_share = refl

  here : pack_of (part none) (suc (length front)) ≡ none
  unfolding part
  here = get_or_at front none (fresh (map share_of back)) no_pack (length front) refl

  with_plan_lem : with_plan (part none) (suc (length front)) p.entries ≡ part p
  unfolding none part
  with_plan_lem = rw here (set_at front none (fresh (map share_of back)) p (length front) refl)

  is_here_lem : is_pack (part none) (suc (length front)) ≡ true
  unfolding part
  is_here_lem =
      let n = length-append front (none ∷ fresh (map share_of back)) in
      rw (le-leb 1 (suc (length front)) (omega arith), le-leb (suc (length front)) (length (part none)) (omega arith))

  is_kept_lem : is_kept (part none) (suc (length front)) p.entries ≡ true
  unfolding none
  is_kept_lem =
      let sound = sound_part none refl (omega arith) in
      let c = common_part none refl in
      let u = used_part p (omega arith) in
      kept_exactly (part none) (suc (length front)) p.entries is_here_lem sound.within
      ∙ rw with_plan_lem (le-leb (common_used (part p)) (common (part none)) (omega arith))

  read_plan : read_entries (words p.entries) 0 (used p) ≡ p.entries
  read_plan = ap (λ (l : List ℕ). read_entries l 0 (used p)) (sym (append-nil (words p.entries))) ∙ read_front p.entries []

  less_beyond : beyond none ≤ beyond p
  unfolding none
  less_beyond = omega arith

  shorter : length (words_of (part none)) ≤ length (words_of (part p))
  unfolding none part sum
  shorter =
      let a = length_store (part none) in
      let b = length_store (part p) in
      let c = length-append front (none ∷ fresh (map share_of back)) in
      let d = length-append front (p ∷ fresh (map share_of back)) in
      let e = sum_append used front (none ∷ fresh (map share_of back)) in
      let f = sum_append used front (p ∷ fresh (map share_of back)) in
      omega arith

  keep_part : (ws : List ℕ) → length ws ≡ store_words → keep_after (with_store ws (part none)) (suc (length front)) (words p.entries) (used p) ≡ with_store ws (part p)
  unfolding can_keep
  keep_part ws sized =
      let h = says_over ws sized (part none) (sound_part none same_share less_beyond) in
      let w = length_words p.entries in
      let room = le-leb (used p) (space (words p.entries)) (omega arith) in
      rw (h.is, room, h.store, read_plan, is_kept_lem, with_plan_lem) (over_over ws (part none) (part p) shorter)

calls_of : ℕ → Store → List WordsCall
calls_of i [] = []
calls_of i (p ∷ s) = keep (suc i) (words p.entries) (used p) ∷ calls_of (suc i) s

replay : (ws : List ℕ) → length ws ≡ store_words → (back front : Store) → Sound (front ++ back)
    → words_after (with_store ws (front ++ fresh (map share_of back))) (calls_of (length front) back) ≡ with_store ws (front ++ back)
unfolding calls_of words_after part none
replay ws sized [] front g = refl
replay ws sized (p ∷ back) front g =
    let joined : (t : Store) → front ++ (p ∷ []) ++ t ≡ front ++ (p ∷ t) = λ t. append_assoc front (p ∷ []) t in
    let more : length (front ++ (p ∷ [])) ≡ suc (length front) = length-append front (p ∷ []) ∙ omega arith in
    let h = replay ws sized back (front ++ (p ∷ [])) (rw (joined back) g) in
    ap (λ (t : List ℕ). words_after t (calls_of (suc (length front)) back)) (keep_part front p back g ws sized) ∙ (rw (joined (fresh (map share_of back)), joined back, more) at h)

comes : (ws : List ℕ) → is_store ws ≡ true → FromCalls ws
unfolding can_set_up
comes ws is =
    let s : Store = store_of ws in
    let g = store_sound ws is in
    let ok : can_set_up ws (map share_of s) ≡ true = rw (eq-eqb (length ws) store_words (store_size ws is), g.shares) in
    record {
      before = ws;
      shares = map share_of s;
      calls = calls_of 0 s;
      allowed = ok;
      words = rw ok (replay ws (store_size ws is) s [] g ∙ written_back ws is);
    }

pub words_promise : WordsPromise
unfolding can_keep read_from
words_promise = record {
  same = λ before shares calls ok.
      let h = says_given before shares calls ok in
      record { says = h.store; keeps = λ n buffer count. rw (h.is, h.store); reads = λ n place. rw (h.is, h.store) };
  passes = λ ws g. subst (λ (l : List ℕ). is_store l ≡ true) g.words (says_given g.before g.shares g.calls g.allowed).is;
  comes = comes;
}
