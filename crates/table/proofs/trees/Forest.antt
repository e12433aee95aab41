-- The parts of a node are all different, since a node has one parent.
use Prim.Native.Nat.{ℕ, zero, suc, ◌+◌, ◌-◌, ◌*◌, ◌≤◌, ◌<◌}
use mathlib.Core.Path.{◌≡◌, refl, sym, ap, subst, ◌∙◌}
use mathlib.Core.Logic.{◌⊎◌, inl, inr, ⊎_elim}
use mathlib.Core.Bool.{Bool, true, false, cond}
use mathlib.Core.List.{List, [], ◌∷◌, ◌++◌}
use mathlib.Core.Option.{Option, some, none}
use native.Mathlib.Omega.{arith}
use borrow.Author.Tests.{eqb-true, eqb-false, leb-true, leb-false}
use lib.Dec.{eqb, leb}
use lib.ListN.{length}
use Rattle.literal.specs.Literal.{Literal}
use Rattle.table.specs.Tables.{Tables, kind_of, first_word_of, count_of, node_count, width, width_of, child_at}
use Rattle.table.specs.Expr.{Expr, parts, parts_all, parts_fields}
use Rattle.table.specs.Decode.{literal_at, items, fields, leaf_of, named_by, is_wildcard, headed, expr}
use Rattle.base.specs.Lists.{elem, no_repeat}
use Rattle.table.specs.code.Sound.{Node, WellFormed, Forest}
use Rattle.table.proofs.trees.Trees.{width_array, width_set, width_object, width_leaf, child_node, expr_unfolds, expr_array, expr_set, expr_object}
use Rattle.table.proofs.trees.Lists.{elem_cons, cons_no_repeat, same_place, blocks, elem_blocks, same_block, blocks_no_repeat, elem_places, places_of, used_blocks, pigeonhole}

-- parts by blocks, for every kind

abbrev pub parts_of : Tables → ℕ → List ℕ
parts_of T n = parts (expr T n)

-- of the node at a place of the child list
abbrev pub parts_at : Tables → ℕ → List ℕ
parts_at T place = parts_of T (child_at T.children place)

module _ (g : ℕ → Expr) (ch : List ℕ) where
  pub items_blocks : (at k : ℕ) → parts_all (items g ch at k) ≡ blocks (λ place. parts (g (child_at ch place))) at k
  unfolding items parts_all blocks
  items_blocks at zero = refl
  items_blocks at (suc k) = ap (λ (l : List ℕ). parts (g (child_at ch at)) ++ l) (items_blocks (at + 1) k)

  pub fields_blocks : (at k : ℕ) → parts_fields (fields g ch at k) ≡ blocks (λ place. parts (g (child_at ch place))) at (k * 2)
  unfolding fields parts_fields blocks
  fields_blocks at zero = refl
  fields_blocks at (suc k) =
      let a : suc k * 2 ≡ suc (suc (k * 2)) = omega arith in
      let b : at + 1 + 1 ≡ at + 2 = omega arith in
      let tail = fields_blocks (at + 2) k in
      rw (a, b, ← tail)

leaf_parts : (n : ℕ) (o : Option Literal) → parts (leaf_of n o) ≡ n ∷ []
unfolding parts
leaf_parts n none = refl
leaf_parts n (some l) = refl

name_parts : (b : Bool) (n x : ℕ) → parts (named_by b n x) ≡ n ∷ []
unfolding parts
name_parts true n x = refl
name_parts false n x = refl

-- only arrays, sets and objects have children
pub wide_kind : (kind count i : ℕ) → i < width_of kind count → (7 ≤ kind) × (kind ≤ 9)
wide_kind kind count i lt = go (leb 7 kind) refl (leb kind 9) refl
  where
    go : (a : Bool) → leb 7 kind ≡ a → (b : Bool) → leb kind 9 ≡ b → (7 ≤ kind) × (kind ≤ 9)
    go true p true q = (leb-true 7 kind p, leb-true kind 9 q)
    go false p b q =
        let l = leb-false 7 kind p in
        let e = width_leaf kind count (λ h. omega arith) (λ h. omega arith) (λ h. omega arith) in
        absurd (omega arith)
    go true p false q =
        let l = leb-false kind 9 q in
        let e = width_leaf kind count (λ h. omega arith) (λ h. omega arith) (λ h. omega arith) in
        absurd (omega arith)

-- m is a child of p
record Child (T : Tables) (m p : ℕ) : Type 0 where
  parent : Node T p
  at : ℕ
  inside : at < width T.nodes p
  is : child_at T.children (first_word_of T.nodes p + at) ≡ m

abbrev nth : {T : Tables} {n : ℕ} → Node T n → (i : ℕ) → i < width T.nodes n → Child T (child_at T.children (first_word_of T.nodes n + i)) n
nth v i lt = record { parent = v; at = i; inside = lt; is = refl }

-- the way up from m to c
data Up (T : Tables) (c : ℕ) : ℕ → Type 0 where
  here : {m : ℕ} → m ≡ c → Up T c m
  step : {m p : ℕ} → Child T m p → Up T c p → Up T c m

-- one more step at the top
up_on : {T : Tables} {c d m : ℕ} → Up T c m → Child T c d → Up T d m
up_on {T} {c} {d} (here {m = m} e) k = step (record { parent = k.parent; at = k.at; inside = k.inside; is = k.is ∙ sym e }) (here refl)
up_on (step j u) k = step j (up_on u k)

module _ (T : Tables) (w : WellFormed T) where
  pub parts_blocks : (n : ℕ) → Node T n → parts_of T n ≡ n ∷ blocks (parts_at T) (first_word_of T.nodes n) (width T.nodes n)
  unfolding parts blocks headed
  parts_blocks n v =
      go (eqb (kind_of T.nodes n) 7) refl (eqb (kind_of T.nodes n) 8) refl (eqb (kind_of T.nodes n) 9) refl
    where
      first : ℕ
      first = first_word_of T.nodes n

      count : ℕ
      count = count_of T.nodes n

      bare : (b : Bool) → parts (cond b (named_by (is_wildcard T first) n first) (leaf_of n (literal_at T n))) ≡ n ∷ []
      bare true = name_parts (is_wildcard T first) n first
      bare false = leaf_parts n (literal_at T n)

      go : (s : Bool) → eqb (kind_of T.nodes n) 7 ≡ s → (t : Bool) → eqb (kind_of T.nodes n) 8 ≡ t → (u : Bool) → eqb (kind_of T.nodes n) 9 ≡ u
          → parts_of T n ≡ n ∷ blocks (parts_at T) first (width T.nodes n)
      go true p t q u r =
          let k = eqb-true (kind_of T.nodes n) 7 p in
          rw (expr_array T w n v k, width_array (kind_of T.nodes n) count k) (ap (λ (l : List ℕ). n ∷ l) (items_blocks (expr T) T.children first count))
      go false p true q u r =
          let k = eqb-true (kind_of T.nodes n) 8 q in
          rw (expr_set T w n v k, width_set (kind_of T.nodes n) count k) (ap (λ (l : List ℕ). n ∷ l) (items_blocks (expr T) T.children first count))
      go false p false q true r =
          let k = eqb-true (kind_of T.nodes n) 9 r in
          rw (expr_object T w n v k, width_object (kind_of T.nodes n) count k) (ap (λ (l : List ℕ). n ∷ l) (fields_blocks (expr T) T.children first count))
      go false p false q false r =
          let none_here : width T.nodes n ≡ 0 = width_leaf (kind_of T.nodes n) count (eqb-false _ _ p) (eqb-false _ _ q) (eqb-false _ _ r) in
          rw none_here (ap parts (expr_unfolds T w n v) ∙ simp (p, q, r) (bare (eqb (kind_of T.nodes n) 6)))

  -- one parent

  child_inside : {m p : ℕ} (k : Child T m p) → first_word_of T.nodes p + k.at < length T.children
  child_inside {m} {p} k =
      let lt = k.inside in
      let b = wide_kind (kind_of T.nodes p) (count_of T.nodes p) k.at lt in
      let l = w.listed p k.parent b.0 b.1 in
      omega arith

  -- the place of a child is one of its parent's, counted from node 1
  child_place : {m p : ℕ} (k : Child T m p) (q : ℕ) → q ≡ first_word_of T.nodes p + k.at → elem q (places_of T.nodes (1 + (p - 1))) ≡ true
  child_place {m} {p} k q e =
      let l = k.parent.low in
      let o : 1 + (p - 1) ≡ p = omega arith in
      rw (o, e) (elem_places (first_word_of T.nodes p) (width T.nodes p) k.at k.inside)

  one_place : {m p p' : ℕ} (k : Child T m p) (k' : Child T m p') → first_word_of T.nodes p + k.at ≡ first_word_of T.nodes p' + k'.at
  one_place k k' = same_place T.children w.once _ _ (child_inside k) (child_inside k') (k.is ∙ sym k'.is)

  one_parent : {m p p' : ℕ} → Child T m p → Child T m p' → p ≡ p'
  one_parent {m} {p} {p'} k k' =
      let v = k.parent in
      let v' = k'.parent in
      let l = v.low in
      let h = v.high in
      let l' = v'.low in
      let h' = v'.high in
      let e = same_block (places_of T.nodes) (first_word_of T.nodes p + k.at) 1 (node_count T) (rw used_blocks at w.apart) (p - 1) (p' - 1) (omega arith) (omega arith)
      (child_place k _ refl) (child_place k' _ (one_place k k')) in
      omega arith

  -- ways up

  child_below : {m p : ℕ} → Child T m p → (1 ≤ m) × (m < p)
  child_below {m} {p} k = let b = w.below p k.parent k.at k.inside in let e = k.is in omega arith

  up_within : {c m : ℕ} → 1 ≤ c → Up T c m → (1 ≤ m) × (m ≤ c)
  up_within l (here e) = omega arith
  up_within l (step k u) = let b = child_below k in let r = up_within l u in omega arith

  up_from : (fuel n m : ℕ) → Node T n → n ≤ fuel → elem m (parts_of T n) ≡ true → Up T n m
  up_from zero n m v le e = let l = v.low in absurd (omega arith)
  up_from (suc fuel) n m v le e =
      ⊎_elim (λ h. here h)
      (λ h.
      let r = elem_blocks (parts_at T) m (first_word_of T.nodes n) (width T.nodes n) h in
      let lt = (w.below n v r.0 r.1).1 in
      up_on (up_from fuel _ m (child_node T w n v r.0 r.1) (omega arith) r.2) (nth v r.0 r.1))
      (elem_cons m n _ (rw (parts_blocks n v) at e))

  up_to : (n m : ℕ) → Node T n → elem m (parts_of T n) ≡ true → Up T n m
  up_to n m v e = up_from n n m v (omega arith) e

  -- two ways up from one node: one goes on from the other's end
  meet : {c d m : ℕ} → Up T c m → Up T d m → Up T d c ⊎ Up T c d
  meet {c} {d} (here e) u = inl (subst (λ (x : ℕ). Up T d x) e u)
  meet {c} {d} (step k u) (here e) = inr (subst (λ (x : ℕ). Up T c x) e (step k u))
  meet {c} {d} (step k u) (step k' u') = meet u (subst (λ (x : ℕ). Up T d x) (one_parent k' k) u')

  -- no child is below another child of its parent
  siblings : {n c d : ℕ} → Child T c n → Child T d n → Up T d c → c ≡ d
  siblings k k' (here e) = e
  siblings k k' (step j u) =
      let e = one_parent j k in
      let b = child_below k' in
      let r = up_within b.0 u in
      absurd (omega arith)

  pub parts_within : (n : ℕ) → Node T n → (m : ℕ) → elem m (parts_of T n) ≡ true → (1 ≤ m) × (m ≤ n)
  parts_within n v m e = up_within v.low (up_to n m v e)

  pub child_parts_below : (n : ℕ) → Node T n → (m i : ℕ) → i < width T.nodes n → elem m (parts_at T (first_word_of T.nodes n + i)) ≡ true → m < n
  child_parts_below n v m i lt e =
      let r = parts_within _ (child_node T w n v i lt) m e in
      let b = w.below n v i lt in
      omega arith

  -- two children share no part
  pub children_apart : (n : ℕ) → Node T n → (m i j : ℕ) → i < width T.nodes n → j < width T.nodes n
      → elem m (parts_at T (first_word_of T.nodes n + i)) ≡ true → elem m (parts_at T (first_word_of T.nodes n + j)) ≡ true → i ≡ j
  children_apart n v m i j lt lt' p q =
      let k = nth v i lt in
      let k' = nth v j lt' in
      let e = ⊎_elim (siblings k k') (λ u. sym (siblings k' k u))
      (meet (up_to _ m (child_node T w n v i lt) p) (up_to _ m (child_node T w n v j lt') q)) in
      let f = same_place T.children w.once _ _ (child_inside k) (child_inside k') e in
      omega arith

  different : (fuel n : ℕ) → Node T n → n ≤ fuel → no_repeat (parts_of T n) ≡ true
  different zero n v le = let l = v.low in absurd (omega arith)
  different (suc fuel) n v le =
      rw (parts_blocks n v)
      (cons_no_repeat n _
      (λ t.
      let r = elem_blocks (parts_at T) n (first_word_of T.nodes n) (width T.nodes n) t in
      let b = child_parts_below n v n r.0 r.1 r.2 in
      omega arith)
      (blocks_no_repeat (parts_at T) (first_word_of T.nodes n) (width T.nodes n)
      (λ i lt. let b = w.below n v i lt in different fuel _ (child_node T w n v i lt) (omega arith))
      (children_apart n v)))

  pub forest : (n : ℕ) → Node T n → Forest T n
  forest n v =
      let d = different n n v (omega arith) in
      record { different = d; within = parts_within n v; few = pigeonhole n (parts_of T n) d (parts_within n v) }

  pub tree_few : (n : ℕ) → Node T n → length (parts_of T n) ≤ 512
  tree_few n v =
      let f = (forest n v).few in
      let h = v.high in
      let l = w.limits.nodes in
      omega arith
