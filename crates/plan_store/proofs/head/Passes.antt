-- The head of a store, as the code goes over it.
use Prim.Native.Nat.{ℕ, zero, suc, ◌+◌, ◌-◌, ◌*◌, ◌≤◌, ◌<◌}
use mathlib.Core.Path.{◌≡◌, refl, sym, ap, ◌∙◌}
use mathlib.Core.Bool.{Bool, true, false, cond, ◌&&◌, and-false}
use mathlib.Core.List.{List, ◌∷◌, map, sum}
use native.Mathlib.Omega.{arith}
use borrow.Author.Tests.{eq-eqb, ne_eqb, leb-true, leb-false, le-leb, lt-leb}
use lib.Dec.{eqb, leb}
use lib.ListN.{length, get_or, take, drop, length-map}
use lib.Seq.{get_or-drop, drop-drop, drop-cons, drop-length}
use Rattle.table.proofs.tests.Bools.{never}
use Rattle.planner.specs.Layout.{entry_words}
use Rattle.planner.specs.Entries.{read_entries}
use Rattle.planner.proofs.buffer.ReadBack.{length_read}
use Rattle.std.specs.Prelude.{Option, Some, None, is_some}
use Rattle.plan_store.specs.Store.{capacity, most_packs, Pack, pack, share_of, used, Store, total, shares_total, beyond, common_used, free_common, shares_ok}
use Rattle.plan_store.specs.Words.{store_words, read_packs, store_of, is_sound, is_store}
use Rattle.plan_store.specs.code.Head.{room_in, share_at, used_at, head_sum, taken}
use Rattle.plan_store.proofs.laws.Sums.{sum_add, leb_both}
use Rattle.plan_store.proofs.laws.Encoding.{length_packs}

-- what is left of a sum
module _ (f : ℕ → ℕ → ℕ) (ws : List ℕ) where
  pub sum_next : (i k : ℕ) → i < k → head_sum f ws i (k - i) ≡ f (share_at ws i) (used_at ws i) + head_sum f ws (i + 1) (k - (i + 1))
  unfolding head_sum
  sum_next i k lt = let a : k - i ≡ suc (k - (i + 1)) = omega arith in ap (head_sum f ws i) a

  pub sum_none : (i k : ℕ) → k ≤ i → head_sum f ws i (k - i) ≡ 0
  unfolding head_sum
  sum_none i k le = let a : k - i ≡ 0 = omega arith in ap (head_sum f ws i) a

  of_pack : Pack → ℕ
  of_pack p = f p.share (used p)

  -- the sum over the packs that words say
  sum_packs : (k i : ℕ) (rows : List ℕ) → total (map of_pack (read_packs (drop (1 + i * 2) ws) rows k)) ≡ head_sum f ws i k
  unfolding head_sum read_packs sum of_pack
  sum_packs zero i rows = refl
  sum_packs (suc k) i rows =
      let at : (j : ℕ) → get_or (drop (1 + i * 2) ws) j 0 ≡ get_or ws (1 + i * 2 + j) 0 = λ j. get_or-drop (1 + i * 2) ws j 0 in
      let first : 1 + i * 2 + 0 ≡ 1 + i * 2 = omega arith in
      let second : 1 + i * 2 + 1 ≡ 2 + i * 2 = omega arith in
      let share = at 0 ∙ ap (λ (j : ℕ). get_or ws j 0) first in
      let count = at 1 ∙ ap (λ (j : ℕ). get_or ws j 0) second in
      let next : 1 + i * 2 + 2 ≡ 1 + (i + 1) * 2 = omega arith in
      let rest = drop-drop 2 (1 + i * 2) ws ∙ ap (λ (j : ℕ). drop j ws) next in
      let rows' : List ℕ = drop (used_at ws i * entry_words) rows in
      rw (share, count, rest, length_read rows 0 (used_at ws i), sum_packs k (i + 1) rows')

take_packs : (k n : ℕ) (head rows : List ℕ) → k ≤ n → take k (read_packs head rows n) ≡ read_packs head rows k
unfolding read_packs
take_packs zero n head rows le = refl
take_packs (suc k) zero head rows le = absurd (omega arith)
take_packs (suc k) (suc n) head rows le =
    ap (λ (s : Store). pack (get_or head 0 0) (read_entries rows 0 (get_or head 1 0)) ∷ s) (take_packs k n (drop 2 head) (drop (get_or head 1 0 * entry_words) rows) (omega arith))

-- of the first k packs of a store
pub sum_first : (f : ℕ → ℕ → ℕ) (ws : List ℕ) (k : ℕ) → k ≤ get_or ws 0 0 → total (map (λ p. f p.share (used p)) (take k (store_of ws))) ≡ head_sum f ws 0 k
unfolding store_of of_pack
sum_first f ws k le =
    let n : ℕ = get_or ws 0 0 in
    ap (λ (s : Store). total (map (λ p. f p.share (used p)) s)) (take_packs k n (drop 1 ws) (drop (1 + n * 2) ws) le) ∙ sum_packs f ws k 0 (drop (1 + n * 2) ws)

pub sum_all : (f : ℕ → ℕ → ℕ) (ws : List ℕ) → total (map (λ p. f p.share (used p)) (store_of ws)) ≡ head_sum f ws 0 (get_or ws 0 0)
unfolding store_of of_pack
sum_all f ws = sum_packs f ws (get_or ws 0 0) 0 (drop (1 + get_or ws 0 0 * 2) ws)

all_taken : (ws : List ℕ) → head_sum taken ws 0 (get_or ws 0 0) ≡ shares_total (store_of ws) + common_used (store_of ws)
all_taken ws = sym (sum_all taken ws) ∙ sum_add share_of beyond (store_of ws)

-- the test
both_fit : (a b c : ℕ) → (leb a c && leb b (c - a)) ≡ leb (a + b) c
both_fit a b c = go (leb a c) refl
  where
    go : (x : Bool) → leb a c ≡ x → (x && leb b (c - a)) ≡ leb (a + b) c
    go true e = let h = leb-true a c e in leb_both b (c - a) (a + b) c (λ k. omega arith) (λ k. omega arith)
    go false e = let h = leb-false a c e in sym (lt-leb (a + b) c (omega arith))

long_packs : (ws : List ℕ) → length (map share_of (store_of ws)) ≡ get_or ws 0 0
unfolding store_of
long_packs ws = length-map (store_of ws) share_of ∙ length_packs (drop 1 ws) (drop (1 + get_or ws 0 0 * 2) ws) (get_or ws 0 0)

store_test : (ws : List ℕ) → length ws ≡ store_words → get_or ws 0 0 ≤ most_packs → is_store ws ≡ leb (head_sum taken ws 0 (get_or ws 0 0)) capacity
unfolding is_store is_sound shares_ok
store_test ws sized few =
    rw (eq-eqb (length ws) store_words sized, long_packs ws, le-leb (get_or ws 0 0) most_packs few, all_taken ws)
    (both_fit (shares_total (store_of ws)) (common_used (store_of ws)) capacity)

no_room : (ws : List ℕ) → is_store ws ≡ false → None ≡ room_in ws
unfolding room_in
no_room ws not = rw not

pub room_sized : (ws : List ℕ) → (length ws ≡ store_words → ⊥) → None ≡ room_in ws
unfolding is_store
room_sized ws other = no_room ws (rw (ne_eqb (length ws) store_words other))

pub room_packs : (ws : List ℕ) {packs : ℕ} → packs ≡ get_or ws 0 0 → most_packs < packs → None ≡ room_in ws
unfolding is_store is_sound shares_ok
room_packs ws {packs} all many = no_room ws (rw (long_packs ws, ← all, lt-leb packs most_packs many) (and-false (eqb (length ws) store_words)))

-- the pass
pub record Leaving (ws : List ℕ) (packs i left : ℕ) : Type 0 where
  pub sized : length ws ≡ store_words
  pub all : packs ≡ get_or ws 0 0
  pub few : packs ≤ most_packs
  pub inside : i ≤ packs
  pub fits : left ≤ capacity
  pub same : capacity - left + head_sum taken ws i (packs - i) ≡ head_sum taken ws 0 packs

pub leaving_start : (ws : List ℕ) {packs : ℕ} → length ws ≡ store_words → packs ≡ get_or ws 0 0 → packs ≤ most_packs → Leaving ws packs 0 capacity
leaving_start ws {packs} sized all few =
    let z : packs - 0 ≡ packs = omega arith in
    record { sized = sized; all = all; few = few; inside = omega arith; fits = omega arith; same = rw z (omega arith) }

module _ {ws : List ℕ} {packs i left : ℕ} (l : Leaving ws packs i left) where
  pub leaving_on : {takes : ℕ} → takes ≡ taken (share_at ws i) (used_at ws i) → i < packs → takes ≤ left → Leaving ws packs (i + 1) (left - takes)
  leaving_on e lt fits =
      let n = sum_next taken ws i packs lt in
      let s = l.same in
      let f = l.fits in
      record { sized = l.sized; all = l.all; few = l.few; inside = omega arith; fits = omega arith; same = omega arith }

  pub leaving_fails : {takes : ℕ} → takes ≡ taken (share_at ws i) (used_at ws i) → i < packs → left < takes → None ≡ room_in ws
  leaving_fails e lt over =
      let n = sum_next taken ws i packs lt in
      let s = l.same in
      let f = l.fits in
      no_room ws (store_test ws l.sized (rw (← l.all) l.few) ∙ rw (← l.all) (lt-leb (head_sum taken ws 0 packs) capacity (omega arith)))

  pub leaving_ends : packs ≤ i → Some left ≡ room_in ws
  unfolding room_in
  leaving_ends le =
      let n = sum_none taken ws i packs le in
      let s = l.same in
      let f = l.fits in
      let t = ap (head_sum taken ws 0) l.all in
      let a = all_taken ws in
      let is : is_store ws ≡ true = store_test ws l.sized (rw (← l.all) l.few) ∙ rw (← l.all) (le-leb (head_sum taken ws 0 packs) capacity (omega arith)) in
      let free : free_common (store_of ws) ≡ left = omega arith in
      rw (is, free)

-- shares
pub record Sharing (shares : List ℕ) (i left : ℕ) : Type 0 where
  pub few : length shares ≤ most_packs
  pub inside : i ≤ length shares
  pub fits : left ≤ capacity
  pub same : capacity - left + total (drop i shares) ≡ total shares

pub sharing_start : (shares : List ℕ) → length shares ≤ most_packs → Sharing shares 0 capacity
sharing_start shares few = record { few = few; inside = omega arith; fits = omega arith; same = omega arith }

pub shares_many : (shares : List ℕ) → most_packs < length shares → false ≡ shares_ok shares
unfolding shares_ok
shares_many shares many = rw (lt-leb (length shares) most_packs many)

module _ {shares : List ℕ} {i left : ℕ} (s : Sharing shares i left) where
  share_next : i < length shares → total (drop i shares) ≡ get_or shares i 0 + total (drop (i + 1) shares)
  unfolding sum
  share_next lt = let e : suc i ≡ i + 1 = omega arith in ap total (drop-cons shares i 0 lt ∙ ap (λ (n : ℕ). get_or shares i 0 ∷ drop n shares) e)

  pub sharing_on : i < length shares → get_or shares i 0 ≤ left → Sharing shares (i + 1) (left - get_or shares i 0)
  sharing_on lt le =
      let n = share_next lt in
      let t = s.same in
      let f = s.fits in
      record { few = s.few; inside = omega arith; fits = omega arith; same = omega arith }

  pub sharing_fails : i < length shares → left < get_or shares i 0 → false ≡ shares_ok shares
  unfolding shares_ok
  sharing_fails lt over =
      let n = share_next lt in
      let t = s.same in
      let f = s.fits in
      rw (le-leb (length shares) most_packs s.few, lt-leb (total shares) capacity (omega arith))

  pub sharing_ends : length shares ≤ i → true ≡ shares_ok shares
  unfolding shares_ok sum
  sharing_ends le =
      let inside = s.inside in
      let e : i ≡ length shares = omega arith in
      let n : total (drop i shares) ≡ 0 = ap (λ (k : ℕ). total (drop k shares)) e ∙ ap total (drop-length shares) in
      let t = s.same in
      let f = s.fits in
      rw (le-leb (length shares) most_packs s.few, le-leb (total shares) capacity (omega arith))

-- what a pass has told
module _ (ws : List ℕ) {r : Option ℕ} (told : r ≡ room_in ws) where
  room_is : (b : Bool) → is_store ws ≡ b → r ≡ cond b (Some (free_common (store_of ws))) None
  unfolding room_in
  room_is b e = told ∙ ap (λ (c : Bool). cond c (Some (free_common (store_of ws))) None) e

  pub room_some : {left : ℕ} → r ≡ Some left → true ≡ is_store ws
  room_some {left} e = go (is_store ws) refl
    where
      go : (b : Bool) → is_store ws ≡ b → true ≡ is_store ws
      go true p = sym p
      go false p = let q : None ≡ Some left = sym (room_is false p) ∙ e in never (cc)

  pub room_left : {left : ℕ} → r ≡ Some left → left ≡ free_common (store_of ws)
  room_left {left} e = let q : Some left ≡ Some (free_common (store_of ws)) = sym e ∙ room_is true (sym (room_some e)) in cc

  pub room_none : r ≡ None → false ≡ is_store ws
  room_none e = go (is_store ws) refl
    where
      go : (b : Bool) → is_store ws ≡ b → false ≡ is_store ws
      go true p = let q : Some (free_common (store_of ws)) ≡ None = sym (room_is true p) ∙ e in never (cc)
      go false p = sym p

  pub room_told : is_some r ≡ is_store ws
  room_told = go (is_store ws) refl
    where
      go : (b : Bool) → is_store ws ≡ b → is_some r ≡ is_store ws
      go true p = ap is_some (room_is true p) ∙ sym p
      go false p = ap is_some (room_is false p) ∙ sym p
