-- The store in words: what is written is read back, and what is read is what was written.
use Prim.Native.Nat.{ℕ, zero, suc, ◌+◌, ◌-◌, ◌*◌, ◌≤◌}
use mathlib.Core.Path.{◌≡◌, refl, sym, ap, ◌∙◌}
use mathlib.Core.Bool.{true}
use mathlib.Core.List.{List, [], ◌∷◌, ◌++◌, map, sum, append_assoc}
use native.Mathlib.Omega.{arith}
use borrow.Author.Tests.{eqb-true, eq-eqb, leb-true, le-leb}
use lib.Dec.{eqb, leb}
use lib.ListN.{length, get_or, take, drop, length-append, length-drop, length-map, take-append-drop, get_or-append}
use lib.Seq.{drop_at, take-add, drop-cons, drop-drop, drop-append-add, length-take-le, get_or-take, ext_get_or}
use Rattle.table.proofs.tests.Bools.{and_true}
use Rattle.planner.specs.Layout.{Entry, entry_words, words}
use Rattle.planner.specs.Entries.{read_entries}
use Rattle.planner.proofs.buffer.Written.{words_append, length_words}
use Rattle.planner.proofs.buffer.ReadBack.{length_read, read_words, words_read}
use Rattle.plan_store.specs.Store.{share_of, used, Store, total, common, common_used, shares_ok}
use Rattle.plan_store.specs.Words.{store_words, head_words, all_entries, words_of, with_store, read_packs, store_of, is_sound, is_store}
use Rattle.plan_store.proofs.laws.Stores.{Sound, shares_fit, sound_fits}

-- entries and their words
pub read_front : (es : List Entry) (rest : List ℕ) → read_entries (words es ++ rest) 0 (length es) ≡ es
read_front es rest = read_words es (words es ++ rest) 0 (λ j lt.
    let w = length_words es in
    let z : 0 * entry_words + j ≡ j = omega arith in
    rw z (get_or-append (words es) rest 0 j (omega arith)))

pub words_taken : (l : List ℕ) (k : ℕ) → k * entry_words ≤ length l → words (read_entries l 0 k) ≡ take (k * entry_words) l
words_taken l k fits =
    let n = length_read l 0 k in
    let w = length_words (read_entries l 0 k) in
    let t = length-take-le (k * entry_words) l fits in
    ext_get_or 0 (words (read_entries l 0 k)) (take (k * entry_words) l) (omega arith) (λ j lt.
    let z : 0 * entry_words + j ≡ j = omega arith in
    words_read l 0 k j (omega arith) ∙ ap (λ (m : ℕ). get_or l m 0) z ∙ sym (get_or-take (k * entry_words) l j 0 (omega arith)))

-- lengths
pub length_head : (s : Store) → length (head_words s) ≡ length s * 2
unfolding head_words
length_head [] = refl
length_head (p ∷ s) = let h = length_head s in omega arith

pub length_entries : (s : Store) → length (all_entries s) ≡ total (map used s)
unfolding all_entries sum
length_entries [] = refl
length_entries (p ∷ s) = let h = length_entries s in let a = length-append p.entries (all_entries s) in omega arith

pub length_store : (s : Store) → length (words_of s) ≡ 1 + length s * 2 + total (map used s) * entry_words
unfolding words_of
length_store s =
    let h = length_head s in
    let a = length-append (head_words s) (words (all_entries s)) in
    let w = length_words (all_entries s) in
    let e = length_entries s in
    omega arith

-- written, then read
read_packs_lem : (s : Store) (x y : List ℕ) → read_packs (head_words s ++ x) (words (all_entries s) ++ y) (length s) ≡ s
unfolding read_packs head_words all_entries
read_packs_lem [] x y = refl
read_packs_lem (p ∷ s) x y =
    let rest : List ℕ = words (all_entries s) ++ y in
    let parts : words (p.entries ++ all_entries s) ++ y ≡ words p.entries ++ rest = ap (λ (l : List ℕ). l ++ y) (words_append p.entries (all_entries s)) ∙ append_assoc (words p.entries) (words (all_entries s)) y in
    let behind = drop_at (words p.entries) rest (used p * entry_words) (length_words p.entries) in
    rw (parts, behind, read_front p.entries rest, read_packs_lem s x y)

pub store_back : (s : Store) (rest : List ℕ) → store_of (words_of s ++ rest) ≡ s
unfolding store_of words_of
store_back s rest =
    let es : List ℕ = words (all_entries s) in
    let a = append_assoc (head_words s) es rest in
    let behind = drop_at (head_words s) (es ++ rest) (length s * 2) (length_head s) in
    let one : 1 + length s * 2 ≡ suc (length s * 2) = omega arith in
    rw (one, a, behind) (read_packs_lem s (es ++ rest) rest)

-- read, then written
pub length_packs : (head rows : List ℕ) (k : ℕ) → length (read_packs head rows k) ≡ k
unfolding read_packs
length_packs head rows zero = refl
length_packs head rows (suc k) = ap suc (length_packs (drop 2 head) (drop (get_or head 1 0 * entry_words) rows) k)

head_read : (k : ℕ) (head rows : List ℕ) → k * 2 ≤ length head → head_words (read_packs head rows k) ≡ take (k * 2) head
unfolding read_packs head_words
head_read zero head rows fits = refl
head_read (suc k) [] rows fits = absurd (omega arith)
head_read (suc k) (x ∷ []) rows fits = absurd (omega arith)
head_read (suc k) (x ∷ (y ∷ head)) rows fits =
    let n = length_read rows 0 y in
    let two : suc k * 2 ≡ suc (suc (k * 2)) = omega arith in
    let h = head_read k head (drop (y * entry_words) rows) (omega arith) in
    rw (two, n, h)

rows_read : (k : ℕ) (head rows : List ℕ) → total (map used (read_packs head rows k)) * entry_words ≤ length rows
    → words (all_entries (read_packs head rows k)) ≡ take (total (map used (read_packs head rows k)) * entry_words) rows
unfolding read_packs all_entries sum words
rows_read zero head rows fits = refl
rows_read (suc k) head rows fits =
    let y : ℕ = get_or head 1 0 in
    let s : Store = read_packs (drop 2 head) (drop (y * entry_words) rows) k in
    let n = length_read rows 0 y in
    let d = length-drop (y * entry_words) rows in
    let here = words_taken rows y (omega arith) in
    let h = rows_read k (drop 2 head) (drop (y * entry_words) rows) (omega arith) in
    let size : (length (read_entries rows 0 y) + total (map used s)) * entry_words ≡ y * entry_words + total (map used s) * entry_words = omega arith in
    rw size (words_append (read_entries rows 0 y) (all_entries s) ∙ rw (here, h) (sym (take-add (y * entry_words) (total (map used s) * entry_words) rows)))

-- Sound, as the test says it
sound_is : (s : Store) → Sound s → is_sound s ≡ true
unfolding is_sound
sound_is s g = rw (g.shares, le-leb (common_used s) (common s) g.within)

is_sound_lem : (s : Store) → is_sound s ≡ true → Sound s
unfolding is_sound
is_sound_lem s e =
    let a = and_true (shares_ok (map share_of s)) (leb (common_used s) (common s)) e in
    record { shares = a.0; within = leb-true (common_used s) (common s) a.1 }

pub sound_few : (s : Store) → Sound s → length s ≤ 8
sound_few s g = let a = (shares_fit (map share_of s) g.shares).0 in let n = length-map s share_of in omega arith

pub sound_long : (s : Store) → Sound s → length (words_of s) ≤ store_words
sound_long s g = let a = length_store s in let b = sound_few s g in let c = sound_fits s g in omega arith

-- words that pass
module _ (ws : List ℕ) (is : is_store ws ≡ true) where
  both : (eqb (length ws) store_words ≡ true) × (is_sound (store_of ws) ≡ true)
  unfolding is_store
  both = and_true (eqb (length ws) store_words) (is_sound (store_of ws)) is

  pub store_size : length ws ≡ store_words
  store_size = eqb-true (length ws) store_words both.0

  pub store_sound : Sound (store_of ws)
  store_sound = is_sound_lem (store_of ws) both.1

  pub store_packs : length (store_of ws) ≡ get_or ws 0 0
  unfolding store_of
  store_packs = length_packs (drop 1 ws) (drop (1 + get_or ws 0 0 * 2) ws) (get_or ws 0 0)

  words_read_back : words_of (store_of ws) ≡ take (1 + get_or ws 0 0 * 2 + total (map used (store_of ws)) * entry_words) ws
  unfolding words_of store_of
  words_read_back =
      let n : ℕ = get_or ws 0 0 in
      let few = sound_few (store_of ws) store_sound in
      let fits = sound_fits (store_of ws) store_sound in
      let long = store_size in
      let packs = store_packs in
      let d = length-drop 1 ws in
      let e = length-drop (1 + n * 2) ws in
      let head = head_read n (drop 1 ws) (drop (1 + n * 2) ws) (omega arith) in
      let rows = rows_read n (drop 1 ws) (drop (1 + n * 2) ws) (omega arith) in
      let first : take (1 + n * 2) ws ≡ n ∷ take (n * 2) (drop 1 ws) = take-add 1 (n * 2) ws ∙ ap (λ (l : List ℕ). take 1 l ++ take (n * 2) (drop 1 ws)) (drop-cons ws 0 0 (omega arith)) in
      rw (packs, head, rows, take-add (1 + n * 2) (total (map used (store_of ws)) * entry_words) ws, first)

  pub written_back : with_store ws (store_of ws) ≡ ws
  written_back =
      let size : ℕ = 1 + get_or ws 0 0 * 2 + total (map used (store_of ws)) * entry_words in
      let n = length_store (store_of ws) in
      let packs = store_packs in
      let same : length (words_of (store_of ws)) ≡ size = omega arith in
      rw same (ap (λ (l : List ℕ). l ++ drop size ws) words_read_back ∙ take-append-drop size ws)

-- a sound store, written over words of the right length
module _ (before : List ℕ) (sized : length before ≡ store_words) (s : Store) (g : Sound s) where
  pub length_over : length (with_store before s) ≡ store_words
  length_over =
      let a = length-append (words_of s) (drop (length (words_of s)) before) in
      let d = length-drop (length (words_of s)) before in
      let l = sound_long s g in
      omega arith

  pub over_back : store_of (with_store before s) ≡ s
  over_back = store_back s (drop (length (words_of s)) before)

  pub over_is_store : is_store (with_store before s) ≡ true
  unfolding is_store
  over_is_store = rw (eq-eqb (length (with_store before s)) store_words length_over, over_back) (sound_is s g)

-- written over a shorter store
pub over_over : (before : List ℕ) (s t : Store) → length (words_of s) ≤ length (words_of t) → with_store (with_store before s) t ≡ with_store before t
over_over before s t le =
    let m : ℕ = length (words_of s) in
    let d : ℕ = length (words_of t) - m in
    let e : length (words_of t) ≡ m + d = omega arith in
    ap (λ (l : List ℕ). words_of t ++ l)
    (ap (λ (k : ℕ). drop k (words_of s ++ drop m before)) e ∙ drop-append-add (words_of s) (drop m before) d ∙ drop-drop d m before ∙ ap (λ (k : ℕ). drop k before) (sym e))
