-- Lists of numbers: elements, repeats, concatenations.
use Prim.Native.Nat.{ℕ, zero, suc, ◌+◌, ◌≤◌, ◌<◌}
use mathlib.Core.Path.{◌≡◌, refl, sym, ap, ◌∙◌}
use mathlib.Core.Logic.{◌⊎◌, inl, inr, ⊎_elim, ⊎_map}
use mathlib.Core.Bool.{Bool, true, false, cond, not, ◌&&◌, ◌||◌, false≢true}
use mathlib.Core.List.{List, [], ◌∷◌, ◌++◌}
use native.Mathlib.Omega.{arith}
use borrow.Author.Tests.{eqb-true, eqb-false, eq-eqb, not-true}
use lib.Dec.{eqb}
use lib.ListN.{length, get_or}
use Rattle.table.specs.Tables.{first_word_of, width}
use Rattle.base.specs.Lists.{elem, no_repeat}
use Rattle.table.specs.Rules.{places_from, used_places}
use Rattle.table.proofs.tests.Bools.{and_true, or_true}

or_right : (a b : Bool) → b ≡ true → (a || b) ≡ true
or_right true b e = refl
or_right false b e = e

and_both : (a b : Bool) → (a ≡ true → ⊥) → b ≡ true → (not a && b) ≡ true
and_both true b h e = absurd (h refl)
and_both false b h e = e

-- elements

pub elem_nil : (m : ℕ) → elem m [] ≡ true → ⊥
unfolding elem
elem_nil m e = false≢true e

module _ (m x : ℕ) (xs : List ℕ) where
  pub elem_cons : elem m (x ∷ xs) ≡ true → (m ≡ x) ⊎ (elem m xs ≡ true)
  unfolding elem
  elem_cons e = ⊎_map (eqb-true m x) (λ h. h) (or_true (eqb m x) (elem m xs) e)

  pub elem_head : m ≡ x → elem m (x ∷ xs) ≡ true
  unfolding elem
  elem_head e = rw (eq-eqb m x e)

  pub elem_tail : elem m xs ≡ true → elem m (x ∷ xs) ≡ true
  unfolding elem
  elem_tail e = or_right (eqb m x) (elem m xs) e

pub elem_append : (m : ℕ) (xs ys : List ℕ) → elem m (xs ++ ys) ≡ true → (elem m xs ≡ true) ⊎ (elem m ys ≡ true)
elem_append m [] ys e = inr e
elem_append m (x ∷ xs) ys e =
    ⊎_elim (λ h. inl (elem_head m x xs h)) (λ h. ⊎_map (elem_tail m x xs) (λ t. t) (elem_append m xs ys h)) (elem_cons m x (xs ++ ys) e)

pub elem_left : (m : ℕ) (xs ys : List ℕ) → elem m xs ≡ true → elem m (xs ++ ys) ≡ true
elem_left m [] ys e = absurd (elem_nil m e)
elem_left m (x ∷ xs) ys e = ⊎_elim (elem_head m x (xs ++ ys)) (λ h. elem_tail m x (xs ++ ys) (elem_left m xs ys h)) (elem_cons m x xs e)

pub elem_right : (m : ℕ) (xs ys : List ℕ) → elem m ys ≡ true → elem m (xs ++ ys) ≡ true
elem_right m [] ys e = e
elem_right m (x ∷ xs) ys e = elem_tail m x (xs ++ ys) (elem_right m xs ys e)

elem_get_or : (xs : List ℕ) (i : ℕ) → i < length xs → elem (get_or xs i 0) xs ≡ true
elem_get_or [] i lt = absurd (omega arith)
elem_get_or (x ∷ xs) zero lt = elem_head x x xs refl
elem_get_or (x ∷ xs) (suc i) lt = elem_tail (get_or xs i 0) x xs (elem_get_or xs i (omega arith))

-- no repeats

module _ (x : ℕ) (xs : List ℕ) where
  pub no_repeat_cons : no_repeat (x ∷ xs) ≡ true → (elem x xs ≡ true → ⊥) × (no_repeat xs ≡ true)
  unfolding no_repeat
  no_repeat_cons e =
      let h = and_true (not (elem x xs)) (no_repeat xs) e in
      (λ t. false≢true (sym (not-true (elem x xs) h.0) ∙ t), h.1)

  pub cons_no_repeat : (elem x xs ≡ true → ⊥) → no_repeat xs ≡ true → no_repeat (x ∷ xs) ≡ true
  unfolding no_repeat
  cons_no_repeat new e = and_both (elem x xs) (no_repeat xs) new e

pub no_repeat_append : (xs ys : List ℕ) → no_repeat (xs ++ ys) ≡ true
    → (no_repeat xs ≡ true) × (no_repeat ys ≡ true) × ((m : ℕ) → elem m xs ≡ true → elem m ys ≡ true → ⊥)
unfolding no_repeat
no_repeat_append [] ys e = (refl, e, λ m a b. elem_nil m a)
no_repeat_append (x ∷ xs) ys e =
    let h = no_repeat_cons x (xs ++ ys) e in
    let r = no_repeat_append xs ys h.1 in (
      cons_no_repeat x xs (λ t. h.0 (elem_left x xs ys t)) r.0,
      r.1,
      λ m a b. ⊎_elim (λ q. h.0 (elem_right x xs ys (rw q at b))) (λ t. r.2 m t b) (elem_cons m x xs a),
    )

pub append_no_repeat : (xs ys : List ℕ) → no_repeat xs ≡ true → no_repeat ys ≡ true → ((m : ℕ) → elem m xs ≡ true → elem m ys ≡ true → ⊥)
    → no_repeat (xs ++ ys) ≡ true
append_no_repeat [] ys a b no-common = b
append_no_repeat (x ∷ xs) ys a b no-common =
    let h = no_repeat_cons x xs a in
    cons_no_repeat x (xs ++ ys)
    (λ t. ⊎_elim h.0 (λ q. no-common x (elem_head x x xs refl) q) (elem_append x xs ys t))
    (append_no_repeat xs ys h.1 b (λ m p q. no-common m (elem_tail m x xs p) q))

-- one element, one place
pub same_place : (xs : List ℕ) → no_repeat xs ≡ true → (i j : ℕ) → i < length xs → j < length xs → get_or xs i 0 ≡ get_or xs j 0 → i ≡ j
same_place [] e i j lt lt' q = absurd (omega arith)
same_place (x ∷ xs) e zero zero lt lt' q = refl
same_place (x ∷ xs) e zero (suc j) lt lt' q = absurd ((no_repeat_cons x xs e).0 (rw q (elem_get_or xs j (omega arith))))
same_place (x ∷ xs) e (suc i) zero lt lt' q = absurd ((no_repeat_cons x xs e).0 (rw (← q) (elem_get_or xs i (omega arith))))
same_place (x ∷ xs) e (suc i) (suc j) lt lt' q = ap suc (same_place xs (no_repeat_cons x xs e).1 i j (omega arith) (omega arith) q)

-- f at, then f (at + 1), k of them
unfoldable pub blocks : (ℕ → List ℕ) → ℕ → ℕ → List ℕ
blocks f at zero = []
blocks f at (suc k) = f at ++ blocks f (at + 1) k

module _ (f : ℕ → List ℕ) where
  pub elem_blocks : (m at k : ℕ) → elem m (blocks f at k) ≡ true → (i : ℕ) × (i < k) × (elem m (f (at + i)) ≡ true)
  unfolding blocks
  elem_blocks m at zero e = absurd (elem_nil m e)
  elem_blocks m at (suc k) e =
      let z : at + 0 ≡ at = omega arith in
      ⊎_elim (λ h. (0, omega arith, rw z h))
      (λ h.
      let r = elem_blocks m (at + 1) k h in
      let i = r.0 in
      let lt : i < k = r.1 in
      let s : at + (i + 1) ≡ at + 1 + i = omega arith in
      (i + 1, omega arith, rw s r.2))
      (elem_append m (f at) (blocks f (at + 1) k) e)

  pub blocks_elem : (m at k i : ℕ) → i < k → elem m (f (at + i)) ≡ true → elem m (blocks f at k) ≡ true
  unfolding blocks
  blocks_elem m at zero i lt e = absurd (omega arith)
  blocks_elem m at (suc k) zero lt e = let z : at + 0 ≡ at = omega arith in elem_left m (f at) (blocks f (at + 1) k) (rw z at e)
  blocks_elem m at (suc k) (suc i) lt e =
      let s : at + suc i ≡ at + 1 + i = omega arith in
      elem_right m (f at) (blocks f (at + 1) k) (blocks_elem m (at + 1) k i (omega arith) (rw s at e))

  -- one element, one block
  pub same_block : (m at k : ℕ) → no_repeat (blocks f at k) ≡ true
      → (i j : ℕ) → i < k → j < k → elem m (f (at + i)) ≡ true → elem m (f (at + j)) ≡ true → i ≡ j
  unfolding blocks
  same_block m at zero e i j lt lt' p q = absurd (omega arith)
  same_block m at (suc k) e zero zero lt lt' p q = refl
  same_block m at (suc k) e zero (suc j) lt lt' p q =
      let z : at + 0 ≡ at = omega arith in
      let s : at + suc j ≡ at + 1 + j = omega arith in
      absurd ((no_repeat_append (f at) (blocks f (at + 1) k) e).2 m (rw z at p) (blocks_elem m (at + 1) k j (omega arith) (rw s at q)))
  same_block m at (suc k) e (suc i) zero lt lt' p q =
      let z : at + 0 ≡ at = omega arith in
      let s : at + suc i ≡ at + 1 + i = omega arith in
      absurd ((no_repeat_append (f at) (blocks f (at + 1) k) e).2 m (rw z at q) (blocks_elem m (at + 1) k i (omega arith) (rw s at p)))
  same_block m at (suc k) e (suc i) (suc j) lt lt' p q =
      let s : at + suc i ≡ at + 1 + i = omega arith in
      let t : at + suc j ≡ at + 1 + j = omega arith in
      ap suc (same_block m (at + 1) k (no_repeat_append (f at) (blocks f (at + 1) k) e).1 i j (omega arith) (omega arith) (rw s at p) (rw t at q))

  pub blocks_no_repeat : (at k : ℕ) → ((i : ℕ) → i < k → no_repeat (f (at + i)) ≡ true)
      → ((m i j : ℕ) → i < k → j < k → elem m (f (at + i)) ≡ true → elem m (f (at + j)) ≡ true → i ≡ j)
      → no_repeat (blocks f at k) ≡ true
  unfolding blocks no_repeat
  blocks_no_repeat at zero each one = refl
  blocks_no_repeat at (suc k) each one =
      let z : at + 0 ≡ at = omega arith in
      let s : (i : ℕ) → at + (i + 1) ≡ at + 1 + i = omega arith in
      append_no_repeat (f at) (blocks f (at + 1) k) (rw z at (each 0 (omega arith)))
      (blocks_no_repeat (at + 1) k (λ i lt. rw (s i) at (each (i + 1) (omega arith)))
      (λ m i j lt lt' p q. let e = one m (i + 1) (j + 1) (omega arith) (omega arith) (rw (s i) p) (rw (s j) q) in omega arith))
      (λ m p q.
      let r = elem_blocks m (at + 1) k q in
      let i = r.0 in
      let lt : i < k = r.1 in
      let e = one m 0 (i + 1) (omega arith) (omega arith) (rw z p) (rw (s i) r.2) in
      omega arith)

-- places

pub elem_places : (at k i : ℕ) → i < k → elem (at + i) (places_from at k) ≡ true
unfolding places_from
elem_places at zero i lt = absurd (omega arith)
elem_places at (suc k) zero lt = elem_head (at + 0) at (places_from (at + 1) k) (omega arith)
elem_places at (suc k) (suc i) lt =
    let s : at + suc i ≡ at + 1 + i = omega arith in
    rw s (elem_tail (at + 1 + i) at (places_from (at + 1) k) (elem_places (at + 1) k i (omega arith)))

abbrev pub places_of : List ℕ → ℕ → List ℕ
places_of nodes n = places_from (first_word_of nodes n) (width nodes n)

pub used_blocks : (nodes : List ℕ) (n k : ℕ) → used_places nodes n k ≡ blocks (places_of nodes) n k
unfolding used_places blocks
used_blocks nodes n zero = refl
used_blocks nodes n (suc k) = ap (λ (l : List ℕ). places_of nodes n ++ l) (used_blocks nodes (n + 1) k)

-- pigeonhole

-- without the first n
without : ℕ → List ℕ → List ℕ
without n [] = []
without n (x ∷ xs) = cond (eqb n x) xs (x ∷ without n xs)

without_length : (n : ℕ) (xs : List ℕ) → length xs ≤ suc (length (without n xs))
unfolding without
without_length n [] = omega arith
without_length n (x ∷ xs) = go (eqb n x) (without_length n xs)
  where
    go : (b : Bool) → length xs ≤ suc (length (without n xs)) → suc (length xs) ≤ suc (length (cond b xs (x ∷ without n xs)))
    go true h = omega arith
    go false h = omega arith

-- what is left was there before, and is not n
without_elem : (n m : ℕ) (xs : List ℕ) → no_repeat xs ≡ true → elem m (without n xs) ≡ true → (elem m xs ≡ true) × (n ≡ m → ⊥)
unfolding without
without_elem n m [] e h = absurd (elem_nil m h)
without_elem n m (x ∷ xs) e h = go (eqb n x) refl h (λ t. without_elem n m xs (no_repeat_cons x xs e).1 t)
  where
    go : (b : Bool) → eqb n x ≡ b → elem m (cond b xs (x ∷ without n xs)) ≡ true
        → (elem m (without n xs) ≡ true → (elem m xs ≡ true) × (n ≡ m → ⊥))
        → (elem m (x ∷ xs) ≡ true) × (n ≡ m → ⊥)
    go true p t ih =
        (elem_tail m x xs t, λ q. (no_repeat_cons x xs e).0 (let o = eqb-true n x p in let k : m ≡ x = cc in rw k at t))
    go false p t ih =
        ⊎_elim (λ o. (elem_head m x xs o, λ q. eqb-false n x p (cc)))
        (λ o. let r = ih o in (elem_tail m x xs r.0, r.1))
        (elem_cons m x (without n xs) t)

without_no_repeat : (n : ℕ) (xs : List ℕ) → no_repeat xs ≡ true → no_repeat (without n xs) ≡ true
unfolding without
without_no_repeat n [] e = e
without_no_repeat n (x ∷ xs) e =
    let h = no_repeat_cons x xs e in
    go (eqb n x) h.1 (cons_no_repeat x (without n xs) (λ t. h.0 (without_elem n x xs h.1 t).0) (without_no_repeat n xs h.1))
  where
    go : (b : Bool) → no_repeat xs ≡ true → no_repeat (x ∷ without n xs) ≡ true → no_repeat (cond b xs (x ∷ without n xs)) ≡ true
    go true p q = p
    go false p q = q

-- different numbers from 1 to n are at most n
pub pigeonhole : (n : ℕ) (xs : List ℕ) → no_repeat xs ≡ true → ((m : ℕ) → elem m xs ≡ true → (1 ≤ m) × (m ≤ n)) → length xs ≤ n
pigeonhole zero [] e h = omega arith
pigeonhole zero (x ∷ xs) e h = let r = h x (elem_head x x xs refl) in absurd (omega arith)
pigeonhole (suc n) xs e h =
    let l = without_length (suc n) xs in
    let r = pigeonhole n (without (suc n) xs) (without_no_repeat (suc n) xs e)
    (λ m t. let o = without_elem (suc n) m xs e t in let b = h m o.0 in let d = o.1 in (b.0, omega arith)) in
    omega arith
