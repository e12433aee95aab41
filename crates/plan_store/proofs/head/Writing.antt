-- The head of a store, written and cleared.
use Prim.Native.Nat.{ℕ, suc, ◌+◌, ◌-◌, ◌*◌, ◌≤◌, ◌<◌}
use mathlib.Core.Path.{◌≡◌, refl, sym, ap, ◌∙◌}
use mathlib.Core.Bool.{true}
use mathlib.Core.List.{List, [], ◌∷◌, ◌++◌, map, append_assoc, append-nil}
use native.Mathlib.Omega.{arith}
use lib.ListN.{length, get_or, drop, set, length-append, length-set, length-map, drop_of_length-le}
use lib.Seq.{sets, sets-eq, drop-cons, drop_at, set_at}
use Rattle.planner.specs.Layout.{words}
use Rattle.plan_store.specs.Store.{most_packs, share_of, used, Store, empty_pack, fresh, emptied}
use Rattle.plan_store.specs.Words.{store_words, head_words, all_entries, words_of, with_store, store_of, is_store}
use Rattle.plan_store.specs.code.Head.{HeadAsks, used_cleared}
use Rattle.plan_store.proofs.laws.Encoding.{length_head, store_size, store_packs, written_back}
use Rattle.plan_store.proofs.head.Places.{packs_few}

-- a store without entries is its head
no_entries : (shares : List ℕ) → all_entries (fresh shares) ≡ []
unfolding all_entries
no_entries [] = refl
no_entries (n ∷ ns) = no_entries ns

fresh_words : (shares : List ℕ) → words_of (fresh shares) ≡ length shares ∷ head_words (fresh shares)
unfolding words_of words
fresh_words shares = rw (no_entries shares, length-map shares empty_pack) (ap (λ (l : List ℕ). length shares ∷ l) (append-nil (head_words (fresh shares))))

-- the packs' words, written from the first on
pub record Heading (before shares store : List ℕ) (i : ℕ) : Type 0 where
  pub sized : length before ≡ store_words
  pub few : length shares ≤ most_packs
  pub long : length store ≡ length before
  pub inside : i ≤ length shares
  pub same : sets store (1 + i * 2) (head_words (fresh (drop i shares))) ≡ sets before 1 (head_words (fresh shares))

pub heading_start : (before shares : List ℕ) → HeadAsks before shares → Heading before shares before 0
heading_start before shares a = record { sized = a.sized; few = a.few; long = refl; inside = omega arith; same = refl }

-- and their number
first_set : (before head : List ℕ) (n : ℕ) → 1 + length head ≤ length before → set (sets before 1 head) 0 n ≡ n ∷ head ++ drop (length (n ∷ head)) before
first_set [] head n fits = absurd (omega arith)
first_set (b ∷ before) head n fits =
    let e : 1 + length head ≡ suc (length head) = omega arith in
    ap (λ (l : List ℕ). set l 0 n) (sets-eq head (b ∷ before) 1 fits) ∙ ap (λ (k : ℕ). n ∷ (head ++ drop k (b ∷ before))) e

module _ {before shares store : List ℕ} {i : ℕ} (h : Heading before shares store i) where
  pub heading_on : i < length shares → Heading before shares (set (set store (1 + i * 2) (get_or shares i 0)) (2 + i * 2) 0) (i + 1)
  unfolding head_words
  heading_on lt =
      let one : suc i ≡ i + 1 = omega arith in
      let next : suc (1 + i * 2) ≡ 2 + i * 2 = omega arith in
      let behind : suc (suc (1 + i * 2)) ≡ 1 + (i + 1) * 2 = omega arith in
      let parts : drop i shares ≡ get_or shares i 0 ∷ drop (i + 1) shares = drop-cons shares i 0 lt ∙ ap (λ (n : ℕ). get_or shares i 0 ∷ drop n shares) one in
      record {
        sized = h.sized;
        few = h.few;
        long = length-set (set store (1 + i * 2) (get_or shares i 0)) (2 + i * 2) 0 ∙ length-set store (1 + i * 2) (get_or shares i 0) ∙ h.long;
        inside = omega arith;
        same =
            ap (λ (k : ℕ). sets (set (set store (1 + i * 2) (get_or shares i 0)) (2 + i * 2) 0) k (head_words (fresh (drop (i + 1) shares)))) (sym behind)
            ∙ ap (λ (k : ℕ). sets (set (set store (1 + i * 2) (get_or shares i 0)) k 0) (suc (suc (1 + i * 2))) (head_words (fresh (drop (i + 1) shares)))) (sym next)
            ∙ ap (λ (l : List ℕ). sets store (1 + i * 2) (head_words (fresh l))) (sym parts)
            ∙ h.same;
      }

  pub heading_second : i < length shares → (share : ℕ) → 2 + i * 2 < length (set store (1 + i * 2) share)
  heading_second lt share = let n = length-set store (1 + i * 2) share in let l = h.long in let s = h.sized in let f = h.few in omega arith

  pub heading_ends : length shares ≤ i → set store 0 (length shares) ≡ with_store before (fresh shares)
  unfolding head_words
  heading_ends le =
      let n = length_head (fresh shares) in
      let m = length-map shares empty_pack in
      let few = h.few in
      let sized = h.sized in
      ap (λ (l : List ℕ). set (sets store (1 + i * 2) (head_words (fresh l))) 0 (length shares)) (sym (drop_of_length-le shares le))
      ∙ ap (λ (l : List ℕ). set l 0 (length shares)) h.same
      ∙ first_set before (head_words (fresh shares)) (length shares) (omega arith)
      ∙ sym (ap (λ (l : List ℕ). l ++ drop (length l) before) (fresh_words shares))

-- cleared from the first pack on
cleared_head : (s : Store) (front rest : List ℕ) (i : ℕ) → length front ≡ 1 + i * 2
    → used_cleared (front ++ (head_words s ++ rest)) i (length s) ≡ front ++ (head_words (emptied s) ++ rest)
unfolding used_cleared head_words
cleared_head [] front rest i e = refl
cleared_head (p ∷ s) front rest i e =
    let n = length-append front (p.share ∷ []) in
    let m = length-append front (p.share ∷ (0 ∷ [])) in
    let tail : List ℕ = head_words s ++ rest in
    let at : set (front ++ (p.share ∷ (used p ∷ tail))) (2 + i * 2) 0 ≡ front ++ (p.share ∷ (0 ∷ [])) ++ tail =
    ap (λ (l : List ℕ). set l (2 + i * 2) 0) (sym (append_assoc front (p.share ∷ []) (used p ∷ tail)))
    ∙ set_at (front ++ (p.share ∷ [])) (used p) tail 0 (2 + i * 2) (omega arith)
    ∙ append_assoc front (p.share ∷ []) (0 ∷ tail)
    ∙ sym (append_assoc front (p.share ∷ (0 ∷ [])) tail) in
    ap (λ (l : List ℕ). used_cleared l (i + 1) (length s)) at
    ∙ cleared_head s (front ++ (p.share ∷ (0 ∷ []))) rest (i + 1) (omega arith)
    ∙ append_assoc front (p.share ∷ (0 ∷ [])) (head_words (emptied s) ++ rest)

pub record Clearing (before : List ℕ) (packs : ℕ) (store : List ℕ) (i : ℕ) : Type 0 where
  pub is : is_store before ≡ true
  pub all : packs ≡ get_or before 0 0
  pub inside : i ≤ packs
  pub sized : length before ≡ store_words
  pub long : length store ≡ length before
  pub few : packs ≤ most_packs
  pub same : used_cleared store i (packs - i) ≡ used_cleared before 0 packs

pub clearing_some : (before : List ℕ) → is_store before ≡ true → 0 < length before
clearing_some before is = let n = store_size before is in omega arith

pub clearing_start : (before : List ℕ) {packs : ℕ} → is_store before ≡ true → packs ≡ get_or before 0 0 → Clearing before packs before 0
clearing_start before {packs} is all =
    let z : packs - 0 ≡ packs = omega arith in
    let f = packs_few before is in
    record { is = is; all = all; inside = omega arith; sized = store_size before is; long = refl; few = omega arith; same = ap (used_cleared before 0) z }

module _ {before : List ℕ} {packs : ℕ} {store : List ℕ} {i : ℕ} (c : Clearing before packs store i) where
  pub clearing_on : i < packs → Clearing before packs (set store (2 + i * 2) 0) (i + 1)
  unfolding used_cleared
  clearing_on lt =
      let a : packs - i ≡ suc (packs - (i + 1)) = omega arith in
      record {
        is = c.is;
        all = c.all;
        inside = omega arith;
        sized = c.sized;
        long = length-set store (2 + i * 2) 0 ∙ c.long;
        few = c.few;
        same = ap (used_cleared store i) (sym a) ∙ c.same;
      }

  pub clearing_ends : packs ≤ i → store ≡ with_store before (emptied (store_of before))
  unfolding used_cleared words_of
  clearing_ends le =
      let a : packs - i ≡ 0 = omega arith in
      let s : Store = store_of before in
      let es : List ℕ = words (all_entries s) in
      let rest : List ℕ = drop (length (words_of s)) before in
      let n = length_head s in
      let back : before ≡ length s ∷ (head_words s ++ (es ++ rest)) = sym (written_back before c.is) ∙ ap (λ (l : List ℕ). length s ∷ l) (append_assoc (head_words s) es rest) in
      let count : packs ≡ length s = c.all ∙ sym (store_packs before c.is) in
      let same-packs : length (map share_of s) ≡ length s = length-map s share_of in
      let heads = length_head (emptied s) in
      let same-heads = length-map (map share_of s) empty_pack in
      let behind : drop (length (length (map share_of s) ∷ head_words (emptied s))) before ≡ es ++ rest =
      ap (drop (length (length (map share_of s) ∷ head_words (emptied s)))) back
      ∙ drop_at (length s ∷ head_words s) (es ++ rest) (length (length (map share_of s) ∷ head_words (emptied s))) (omega arith) in
      ap (used_cleared store i) (sym a)
      ∙ c.same
      ∙ ap (used_cleared before 0) count
      ∙ ap (λ (l : List ℕ). used_cleared l 0 (length s)) back
      ∙ cleared_head s (length s ∷ []) (es ++ rest) 0 refl
      ∙ sym (ap (λ (l : List ℕ). l ++ drop (length l) before) (fresh_words (map share_of s))
      ∙ ap (λ (l : List ℕ). length (map share_of s) ∷ head_words (emptied s) ++ l) behind
      ∙ ap (λ (n : ℕ). n ∷ (head_words (emptied s) ++ (es ++ rest))) same-packs)
