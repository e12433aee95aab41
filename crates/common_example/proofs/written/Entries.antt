-- The written child entries: nodes of the value, each once.
use Prim.Native.Nat.{ℕ, zero, suc, ◌+◌, ◌≤◌, ◌<◌}
use mathlib.Core.Bool.{true}
use mathlib.Core.List.{List, [], ◌∷◌, ◌++◌}
use mathlib.Core.Logic.{⊎_elim}
use mathlib.Core.Path.{◌≡◌, refl}
use native.Mathlib.Omega.{arith}
use lib.ListN.{length, get_or}
use Rattle.base.specs.Lists.{elem, no_repeat}
use Rattle.table.proofs.trees.Lists.{elem_cons, elem_nil, elem_append, cons_no_repeat, append_no_repeat}
use Rattle.value.specs.Value.{Value, literalᵛ, arrayᵛ, objectᵛ, Values, noneᵛ, itemᵛ, ValueFields, doneᵛ, fieldᵛ}
use Rattle.common_example.specs.Overlap.{size, size_all, size_fields}
use Rattle.common_example.specs.Operations.{child_words_lem, child_words_all, child_words_fields, item_nodes, field_nodes}

-- what holds of each element
abbrev pub Each : (ℕ → Type 0) → List ℕ → Type 0
Each Q [] = Unit {0}
Each Q (x ∷ xs) = Q x × Each Q xs

pub each_at : (Q : ℕ → Type 0) (xs : List ℕ) → Each Q xs → (i : ℕ) → i < length xs → Q (get_or xs i 0)
each_at Q [] e i h = absurd (none_at i h)
  where
    none_at : (i : ℕ) → i < 0 → ⊥
    none_at i h = omega arith
each_at Q (x ∷ xs) e zero h = e.0
each_at Q (x ∷ xs) e (suc i) h = each_at Q xs e.1 i (omega arith)

pub each_elem : (Q : ℕ → Type 0) (xs : List ℕ) → Each Q xs → (m : ℕ) → elem m xs ≡ true → Q m
each_elem Q [] e m h = absurd (elem_nil m h)
each_elem Q (x ∷ xs) e m h = ⊎_elim (λ q. rw q e.0) (λ t. each_elem Q xs e.1 m t) (elem_cons m x xs h)

each_append : (Q : ℕ → Type 0) (xs ys : List ℕ) → Each Q xs → Each Q ys → Each Q (xs ++ ys)
each_append Q [] ys a b = b
each_append Q (x ∷ xs) ys a b = (a.0, each_append Q xs ys a.1 b)

each_map : (Q R : ℕ → Type 0) (xs : List ℕ) → ((x : ℕ) → Q x → R x) → Each Q xs → Each R xs
each_map Q R [] f e = tt
each_map Q R (x ∷ xs) f e = (f x e.0, each_map Q R xs f e.1)

abbrev pub Between : ℕ → ℕ → ℕ → Type 0
Between a b x = (a < x) × (x < b)

wider : (a b c d : ℕ) → c ≤ a → b ≤ d → (x : ℕ) → Between a b x → Between c d x
wider a b c d p q x r = let l = r.0 in let h = r.1 in (omega arith, omega arith)

pub size_one : (v : Value) → 1 ≤ size v
unfolding size
size_one (literalᵛ n l) = omega arith
size_one (arrayᵛ n vs) = omega arith
size_one (objectᵛ n fs) = omega arith

-- 1. Ranges: below a node stand nodes between the ones before it and itself.
mutual
  unfolding child_words_lem size

  pub range : (v : Value) (n : ℕ) → Each (Between n (n + size v)) (child_words_lem v n)
  range (literalᵛ m l) n = tt
  range (arrayᵛ m vs) n =
      each_append (Between n (n + (1 + size_all vs))) (child_words_all vs n) (item_nodes vs n)
      (each_map (Between n (n + size_all vs + 1)) (Between n (n + (1 + size_all vs))) (child_words_all vs n) (wider n (n + size_all vs + 1) n (n + (1 + size_all vs)) (omega arith) (omega arith)) (range_all vs n))
      (each_map (Between n (n + size_all vs + 1)) (Between n (n + (1 + size_all vs))) (item_nodes vs n) (wider n (n + size_all vs + 1) n (n + (1 + size_all vs)) (omega arith) (omega arith)) (range_items vs n))
  range (objectᵛ m fs) n =
      each_append (Between n (n + (1 + size_fields fs))) (child_words_fields fs n) (field_nodes fs n)
      (each_map (Between n (n + size_fields fs + 1)) (Between n (n + (1 + size_fields fs))) (child_words_fields fs n) (wider n (n + size_fields fs + 1) n (n + (1 + size_fields fs)) (omega arith) (omega arith)) (range_fields fs n))
      (each_map (Between n (n + size_fields fs + 1)) (Between n (n + (1 + size_fields fs))) (field_nodes fs n) (wider n (n + size_fields fs + 1) n (n + (1 + size_fields fs)) (omega arith) (omega arith)) (range_nodes fs n))

  range_all : (vs : Values) (n : ℕ) → Each (Between n (n + size_all vs + 1)) (child_words_all vs n)
  range_all noneᵛ n = tt
  range_all (itemᵛ v vs) n =
      each_append (Between n (n + (size v + size_all vs) + 1)) (child_words_lem v n) (child_words_all vs (n + size v))
      (each_map (Between n (n + size v)) (Between n (n + (size v + size_all vs) + 1)) (child_words_lem v n) (wider n (n + size v) n (n + (size v + size_all vs) + 1) (omega arith) (omega arith)) (range v n))
      (each_map (Between (n + size v) (n + size v + size_all vs + 1)) (Between n (n + (size v + size_all vs) + 1)) (child_words_all vs (n + size v)) (wider (n + size v) (n + size v + size_all vs + 1) n (n + (size v + size_all vs) + 1) (omega arith) (omega arith)) (range_all vs (n + size v)))

  range_fields : (fs : ValueFields) (n : ℕ) → Each (Between n (n + size_fields fs + 1)) (child_words_fields fs n)
  range_fields doneᵛ n = tt
  range_fields (fieldᵛ k v fs) n =
      each_append (Between n (n + (1 + (size v + size_fields fs)) + 1)) (child_words_lem v (n + 1)) (child_words_fields fs (n + 1 + size v))
      (each_map (Between (n + 1) (n + 1 + size v)) (Between n (n + (1 + (size v + size_fields fs)) + 1)) (child_words_lem v (n + 1)) (wider (n + 1) (n + 1 + size v) n (n + (1 + (size v + size_fields fs)) + 1) (omega arith) (omega arith)) (range v (n + 1)))
      (each_map (Between (n + 1 + size v) (n + 1 + size v + size_fields fs + 1)) (Between n (n + (1 + (size v + size_fields fs)) + 1)) (child_words_fields fs (n + 1 + size v)) (wider (n + 1 + size v) (n + 1 + size v + size_fields fs + 1) n (n + (1 + (size v + size_fields fs)) + 1) (omega arith) (omega arith)) (range_fields fs (n + 1 + size v)))

  pub range_items : (vs : Values) (n : ℕ) → Each (Between n (n + size_all vs + 1)) (item_nodes vs n)
  range_items noneᵛ n = tt
  range_items (itemᵛ v vs) n =
      let one = size_one v in (
        (omega arith, omega arith),
        each_map (Between (n + size v) (n + size v + size_all vs + 1)) (Between n (n + (size v + size_all vs) + 1)) (item_nodes vs (n + size v)) (wider (n + size v) (n + size v + size_all vs + 1) n (n + (size v + size_all vs) + 1) (omega arith) (omega arith)) (range_items vs (n + size v)),
      )

  pub range_nodes : (fs : ValueFields) (n : ℕ) → Each (Between n (n + size_fields fs + 1)) (field_nodes fs n)
  range_nodes doneᵛ n = tt
  range_nodes (fieldᵛ k v fs) n =
      let one = size_one v in (
        (omega arith, omega arith),
        (
          (omega arith, omega arith),
          each_map (Between (n + 1 + size v) (n + 1 + size v + size_fields fs + 1)) (Between n (n + (1 + (size v + size_fields fs)) + 1)) (field_nodes fs (n + 1 + size v)) (wider (n + 1 + size v) (n + 1 + size v + size_fields fs + 1) n (n + (1 + (size v + size_fields fs)) + 1) (omega arith) (omega arith)) (range_nodes fs (n + 1 + size v)),
        ),
      )

-- 2. Each once.
no_both : (a b c d m : ℕ) → b ≤ c + 1 → Between a b m → Between c d m → ⊥
no_both a b c d m h p q = let x = p.1 in let y = q.0 in omega arith

after_it : (n d m : ℕ) → m ≡ n → Between n d m → ⊥
after_it n d m e q = let y = q.0 in omega arith

items_once : (vs : Values) (n : ℕ) → no_repeat (item_nodes vs n) ≡ true
unfolding child_words_lem no_repeat
items_once noneᵛ n = refl
items_once (itemᵛ v vs) n = cons_no_repeat (n + size v) (item_nodes vs (n + size v)) (λ h. after_it (n + size v) (n + size v + size_all vs + 1) (n + size v) refl (each_elem (Between (n + size v) (n + size v + size_all vs + 1)) (item_nodes vs (n + size v)) (range_items vs (n + size v)) (n + size v) h)) (items_once vs (n + size v))

nodes_once : (fs : ValueFields) (n : ℕ) → no_repeat (field_nodes fs n) ≡ true
unfolding child_words_lem no_repeat
nodes_once doneᵛ n = refl
nodes_once (fieldᵛ k v fs) n =
    let far = each_elem (Between (n + 1 + size v) (n + 1 + size v + size_fields fs + 1)) (field_nodes fs (n + 1 + size v)) (range_nodes fs (n + 1 + size v)) in
    let one = size_one v in
    cons_no_repeat (n + 1) ((n + 1 + size v) ∷ field_nodes fs (n + 1 + size v))
    (λ h. ⊎_elim (λ q. apart n (size v) one q) (λ t. let r = far (n + 1) t in low n (size v) r.0) (elem_cons (n + 1) (n + 1 + size v) (field_nodes fs (n + 1 + size v)) h))
    (cons_no_repeat (n + 1 + size v) (field_nodes fs (n + 1 + size v)) (λ h. after_it (n + 1 + size v) (n + 1 + size v + size_fields fs + 1) (n + 1 + size v) refl (far (n + 1 + size v) h)) (nodes_once fs (n + 1 + size v)))
  where
    apart : (n a : ℕ) → 1 ≤ a → n + 1 ≡ n + 1 + a → ⊥
    apart n a h q = omega arith

    low : (n a : ℕ) → n + 1 + a < n + 1 → ⊥
    low n a h = omega arith

-- an item's node stands among no item's own entries
items_apart : (vs : Values) (n m : ℕ) → elem m (child_words_all vs n) ≡ true → elem m (item_nodes vs n) ≡ true → ⊥
unfolding child_words_lem size
items_apart noneᵛ n m a b = elem_nil m b
items_apart (itemᵛ v vs) n m a b = ⊎_elim
    (λ x. let r = each_elem (Between n (n + size v)) (child_words_lem v n) (range v n) m x in
    ⊎_elim (λ q. at_end_lem (n + size v) m q r.1) (λ y. no_both n (n + size v) (n + size v) (n + size v + size_all vs + 1) m (omega arith) r (each_elem (Between (n + size v) (n + size v + size_all vs + 1)) (item_nodes vs (n + size v)) (range_items vs (n + size v)) m y)) (elem_cons m (n + size v) (item_nodes vs (n + size v)) b))
    (λ x. ⊎_elim (λ q. after_it (n + size v) (n + size v + size_all vs + 1) m q (each_elem (Between (n + size v) (n + size v + size_all vs + 1)) (child_words_all vs (n + size v)) (range_all vs (n + size v)) m x)) (λ y. items_apart vs (n + size v) m x y) (elem_cons m (n + size v) (item_nodes vs (n + size v)) b))
    (elem_append m (child_words_lem v n) (child_words_all vs (n + size v)) a)
  where
    at_end_lem : (e m : ℕ) → m ≡ e → m < e → ⊥
    at_end_lem e m q h = omega arith

nodes_apart : (fs : ValueFields) (n m : ℕ) → elem m (child_words_fields fs n) ≡ true → elem m (field_nodes fs n) ≡ true → ⊥
unfolding child_words_lem size
nodes_apart doneᵛ n m a b = elem_nil m b
nodes_apart (fieldᵛ k v fs) n m a b = ⊎_elim
    (λ x. let r = each_elem (Between (n + 1) (n + 1 + size v)) (child_words_lem v (n + 1)) (range v (n + 1)) m x in
    ⊎_elim (λ q. after_it (n + 1) (n + 1 + size v) m q r)
    (λ z. ⊎_elim (λ q. at_end_lem (n + 1 + size v) m q r.1) (λ y. no_both (n + 1) (n + 1 + size v) (n + 1 + size v) (n + 1 + size v + size_fields fs + 1) m (omega arith) r (far_nodes m y)) (elem_cons m (n + 1 + size v) (field_nodes fs (n + 1 + size v)) z))
    (elem_cons m (n + 1) ((n + 1 + size v) ∷ field_nodes fs (n + 1 + size v)) b))
    (λ x. let r = each_elem (Between (n + 1 + size v) (n + 1 + size v + size_fields fs + 1)) (child_words_fields fs (n + 1 + size v)) (range_fields fs (n + 1 + size v)) m x in
    ⊎_elim (λ q. before (n + 1) (size v) m q r.0)
    (λ z. ⊎_elim (λ q. after_it (n + 1 + size v) (n + 1 + size v + size_fields fs + 1) m q r) (λ y. nodes_apart fs (n + 1 + size v) m x y) (elem_cons m (n + 1 + size v) (field_nodes fs (n + 1 + size v)) z))
    (elem_cons m (n + 1) ((n + 1 + size v) ∷ field_nodes fs (n + 1 + size v)) b))
    (elem_append m (child_words_lem v (n + 1)) (child_words_fields fs (n + 1 + size v)) a)
  where
    at_end_lem : (e m : ℕ) → m ≡ e → m < e → ⊥
    at_end_lem e m q h = omega arith

    before : (e a m : ℕ) → m ≡ e → e + a < m → ⊥
    before e a m q h = omega arith

    far_nodes : (m : ℕ) → elem m (field_nodes fs (n + 1 + size v)) ≡ true → Between (n + 1 + size v) (n + 1 + size v + size_fields fs + 1) m
    far_nodes m y = each_elem (Between (n + 1 + size v) (n + 1 + size v + size_fields fs + 1)) (field_nodes fs (n + 1 + size v)) (range_nodes fs (n + 1 + size v)) m y

mutual
  unfolding child_words_lem size no_repeat

  pub once : (v : Value) (n : ℕ) → no_repeat (child_words_lem v n) ≡ true
  once (literalᵛ m l) n = refl
  once (arrayᵛ m vs) n = append_no_repeat (child_words_all vs n) (item_nodes vs n) (once_all vs n) (items_once vs n) (items_apart vs n)
  once (objectᵛ m fs) n = append_no_repeat (child_words_fields fs n) (field_nodes fs n) (once_fields fs n) (nodes_once fs n) (nodes_apart fs n)

  once_all : (vs : Values) (n : ℕ) → no_repeat (child_words_all vs n) ≡ true
  once_all noneᵛ n = refl
  once_all (itemᵛ v vs) n = append_no_repeat (child_words_lem v n) (child_words_all vs (n + size v)) (once v n) (once_all vs (n + size v))
      (λ m a b. no_both n (n + size v) (n + size v) (n + size v + size_all vs + 1) m (omega arith) (each_elem (Between n (n + size v)) (child_words_lem v n) (range v n) m a) (each_elem (Between (n + size v) (n + size v + size_all vs + 1)) (child_words_all vs (n + size v)) (range_all vs (n + size v)) m b))

  once_fields : (fs : ValueFields) (n : ℕ) → no_repeat (child_words_fields fs n) ≡ true
  once_fields doneᵛ n = refl
  once_fields (fieldᵛ k v fs) n = append_no_repeat (child_words_lem v (n + 1)) (child_words_fields fs (n + 1 + size v)) (once v (n + 1)) (once_fields fs (n + 1 + size v))
      (λ m a b. no_both (n + 1) (n + 1 + size v) (n + 1 + size v) (n + 1 + size v + size_fields fs + 1) m (omega arith) (each_elem (Between (n + 1) (n + 1 + size v)) (child_words_lem v (n + 1)) (range v (n + 1)) m a) (each_elem (Between (n + 1 + size v) (n + 1 + size v + size_fields fs + 1)) (child_words_fields fs (n + 1 + size v)) (range_fields fs (n + 1 + size v)) m b))
