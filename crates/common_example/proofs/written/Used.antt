-- The places that the written nodes use: one after the other, from the end of the child list on.
use Prim.Native.Nat.{ℕ, zero, suc, ◌+◌, ◌-◌, ◌*◌, ◌≤◌, ◌<◌}
use mathlib.Core.Bool.{true}
use mathlib.Core.List.{List, [], ◌∷◌, ◌++◌, append-nil, append_assoc}
use mathlib.Core.Logic.{⊎_elim}
use mathlib.Core.Option.{Option, none, some}
use mathlib.Core.Path.{◌≡◌, refl, ap, ap₂, sym, ◌∙◌}
use native.Mathlib.Omega.{arith}
use lib.ListN.{length}
use Rattle.literal.specs.Literal.{Literal}
use Rattle.table.specs.Tables.{Tables, kind_of, first_word_of, count_of, node_count, width, width_of}
use Rattle.base.specs.Lists.{elem, no_repeat}
use Rattle.table.specs.Rules.{places_from, used_places}
use Rattle.table.specs.code.Sound.{Node, WellFormed}
use Rattle.table.proofs.trees.Trees.{width_array, width_object, width_leaf}
use Rattle.table.proofs.trees.Facts.{wide_kind}
use Rattle.table.proofs.trees.Lists.{elem_nil, elem_cons, elem_append, cons_no_repeat}
use Rattle.value.specs.Value.{Value, literalᵛ, arrayᵛ, objectᵛ, Values, noneᵛ, itemᵛ, ValueFields, doneᵛ, fieldᵛ}
use Rattle.common_example.specs.Overlap.{size, size_all, size_fields}
use Rattle.common_example.specs.Operations.{child_entries, child_entries_all, child_entries_fields, count_items_lem, count_fieldsᵛ, node_like, words_like, literal_words, node_words, node_words_all, node_words_fields}
use Rattle.common_example.proofs.written.ReadBack.{Stands, stands_left, stands_after, Words, five_words, literal_kind_lem, node_like_lem, node_end, words_length, words_length_all, words_length_fields, literal_five, array_words, object_words}
use Rattle.common_example.proofs.written.Kept.{word_kept}

places_append : (at a b : ℕ) → places_from at (a + b) ≡ places_from at a ++ places_from (at + a) b
unfolding places_from
places_append at zero b = let e : 0 + b ≡ b = omega arith in let f : at + 0 ≡ at = omega arith in rw (e, f)
places_append at (suc a) b =
    let e : suc a + b ≡ suc (a + b) = omega arith in
    let f : at + 1 + a ≡ at + suc a = omega arith in
    ap (places_from at) e ∙ ap (λ xs. at ∷ xs) (places_append (at + 1) a b ∙ ap (λ (x : ℕ). places_from (at + 1) a ++ places_from x b) f)

pub in_places : (at k m : ℕ) → elem m (places_from at k) ≡ true → (at ≤ m) × (m < at + k)
unfolding places_from
in_places at zero m e = absurd (elem_nil m e)
in_places at (suc k) m e = ⊎_elim (λ q. (omega arith, omega arith)) (λ t. let r = in_places (at + 1) k m t in let a = r.0 in let b = r.1 in (omega arith, omega arith)) (elem_cons m at (places_from (at + 1) k) e)

pub places_once : (at k : ℕ) → no_repeat (places_from at k) ≡ true
unfolding places_from no_repeat
places_once at zero = refl
places_once at (suc k) = cons_no_repeat at (places_from (at + 1) k) (λ h. let r = in_places (at + 1) k at h in let a = r.0 in below at a) (places_once (at + 1) k)
  where
    below : (at : ℕ) → at + 1 ≤ at → ⊥
    below at h = omega arith

pub used_append : (nodes : List ℕ) (n a b : ℕ) → used_places nodes n (a + b) ≡ used_places nodes n a ++ used_places nodes (n + a) b
unfolding used_places
used_append nodes n zero b = let e : 0 + b ≡ b = omega arith in let f : n + 0 ≡ n = omega arith in rw (e, f)
used_append nodes n (suc a) b =
    let e : suc a + b ≡ suc (a + b) = omega arith in
    let f : n + 1 + a ≡ n + suc a = omega arith in
    ap (used_places nodes n) e
    ∙ (ap (λ xs. places_from (first_word_of nodes n) (width nodes n) ++ xs) (used_append nodes (n + 1) a b ∙ ap (λ (x : ℕ). used_places nodes (n + 1) a ++ used_places nodes x b) f)
    ∙ sym (append_assoc (places_from (first_word_of nodes n) (width nodes n)) (used_places nodes (n + 1) a) (used_places nodes (n + suc a) b)))

used_one : (nodes : List ℕ) (n : ℕ) → used_places nodes n 1 ≡ places_from (first_word_of nodes n) (width nodes n)
unfolding used_places
used_one nodes n = append-nil (places_from (first_word_of nodes n) (width nodes n))

-- 1. The table's own nodes.
module _ (T : Tables) (w : WellFormed T) (more others : List ℕ) where
  pub used_kept : (n k : ℕ) → ((i : ℕ) → i < k → Node T (n + i)) → used_places (T.nodes ++ more) n k ≡ used_places T.nodes n k
  unfolding used_places
  used_kept n zero f = refl
  used_kept n (suc k) f =
      let z : n + 0 ≡ n = omega arith in
      let v : Node T n = rw z at (f 0 (omega arith)) in
      let a = word_kept T w more others 0 n (omega arith) v in
      let b = word_kept T w more others 3 n (omega arith) v in
      let c = word_kept T w more others 4 n (omega arith) v in
      ap₂ (λ xs ys. xs ++ ys) (ap₂ places_from b (ap₂ width_of a c)) (used_kept (n + 1) k (λ i h. let e : n + 1 + i ≡ n + (i + 1) = omega arith in rw e (f (i + 1) (omega arith))))

module _ (T : Tables) (w : WellFormed T) where
  pub used_below : (n k : ℕ) → ((i : ℕ) → i < k → Node T (n + i)) → (m : ℕ) → elem m (used_places T.nodes n k) ≡ true → m < length T.children
  unfolding used_places
  used_below n zero f m e = absurd (elem_nil m e)
  used_below n (suc k) f m e = ⊎_elim
      (λ t.
      let z : n + 0 ≡ n = omega arith in
      let v : Node T n = rw z at (f 0 (omega arith)) in
      let r = in_places (first_word_of T.nodes n) (width T.nodes n) m t in
      let a = r.0 in
      let b = r.1 in
      let g = wide_kind T n (m - first_word_of T.nodes n) (omega arith) in
      let l = w.listed n v g.0 g.1 in
      omega arith)
      (λ t. used_below (n + 1) k (λ i h. let q : n + 1 + i ≡ n + (i + 1) = omega arith in rw q (f (i + 1) (omega arith))) m t)
      (elem_append m (places_from (first_word_of T.nodes n) (width T.nodes n)) (used_places T.nodes (n + 1) k) e)

-- 2. The written ones.
module _ (T : Tables) (nodes⁺ children⁺ : List ℕ) where
  used_by : (n kind first count k : ℕ) → Words T nodes⁺ children⁺ n kind first count → width_of kind count ≡ k → used_places nodes⁺ (n + 1) 1 ≡ places_from first k
  used_by n kind first count k w e =
      let a = w.is_kind in let b = w.is_first_lem in let c = w.is_count_lem in
      used_one nodes⁺ (n + 1) ∙ (ap₂ places_from b (ap₂ width_of a c ∙ e))

  used_literal : (n : ℕ) (l : Literal) → Stands nodes⁺ (n * 5) (literal_words T l) → used_places nodes⁺ (n + 1) 1 ≡ []
  unfolding literal_words width_of places_from
  used_literal n l s = go (node_like T l 1 (node_count T)) refl s
    where
      go : (o : Option ℕ) → node_like T l 1 (node_count T) ≡ o → Stands nodes⁺ (n * 5) (words_like T o) → used_places nodes⁺ (n + 1) 1 ≡ []
      go none e h = used_by n 5 0 0 0 (five_words T nodes⁺ children⁺ n 5 0 0 h) refl
      go (some m) e h =
          let q = node_like_lem T nodes⁺ children⁺ l 1 (node_count T) m e in
          used_by n (kind_of T.nodes m) (first_word_of T.nodes m) (count_of T.nodes m) 0 (five_words T nodes⁺ children⁺ n (kind_of T.nodes m) (first_word_of T.nodes m) (count_of T.nodes m) h)
          (width_leaf (kind_of T.nodes m) (count_of T.nodes m) (literal_kind_lem T nodes⁺ children⁺ T m l q 7 (omega arith)) (literal_kind_lem T nodes⁺ children⁺ T m l q 8 (omega arith)) (literal_kind_lem T nodes⁺ children⁺ T m l q 9 (omega arith)))

  -- the last node's places after those of the nodes before it
  two_parts : (n a b k first e : ℕ) → used_places nodes⁺ (n + 1) a ≡ places_from first e → used_places nodes⁺ (n + a + 1) 1 ≡ places_from (first + e) k → used_places nodes⁺ (n + 1) (1 + a) ≡ places_from first (e + k)
  two_parts n a b k first e p q =
      let s : 1 + a ≡ a + 1 = omega arith in
      let t : n + 1 + a ≡ n + a + 1 = omega arith in
      ap (used_places nodes⁺ (n + 1)) s ∙ (used_append nodes⁺ (n + 1) a 1 ∙ (ap₂ (λ xs ys. xs ++ ys) p (ap (λ (x : ℕ). used_places nodes⁺ x 1) t ∙ q) ∙ sym (places_append first e k)))

  no_places : (p : ℕ) → [] ≡ places_from p 0
  unfolding places_from
  no_places p = refl

  none_used : (n : ℕ) → used_places nodes⁺ n 0 ≡ []
  unfolding used_places
  none_used n = refl

  mutual
    unfolding node_words size child_entries

    pub used_new : (v : Value) (n p : ℕ) → Stands nodes⁺ (n * 5) (node_words T v p) → used_places nodes⁺ (n + 1) (size v) ≡ places_from p (child_entries v)
    used_new (literalᵛ m l) n p s = used_literal n l s ∙ no_places p
    used_new (arrayᵛ m vs) n p s =
        two_parts n (size_all vs) 1 (count_items_lem vs) p (child_entries_all vs) (used_all vs n p (stands_left nodes⁺ (n * 5) (node_words_all T vs p) (array_words T nodes⁺ children⁺ vs p) s))
        (used_by (n + size_all vs) 7 (p + child_entries_all vs) (count_items_lem vs) (count_items_lem vs) (five_words T nodes⁺ children⁺ (n + size_all vs) 7 (p + child_entries_all vs) (count_items_lem vs) (stands_after nodes⁺ (n * 5) ((n + size_all vs) * 5) (node_words_all T vs p) (array_words T nodes⁺ children⁺ vs p) (node_end T nodes⁺ children⁺ n (length (node_words_all T vs p)) (size_all vs) (words_length_all T vs p)) s)) (width_array 7 (count_items_lem vs) refl))
    used_new (objectᵛ m fs) n p s =
        two_parts n (size_fields fs) 1 (count_fieldsᵛ fs * 2) p (child_entries_fields fs) (used_fields fs n p (stands_left nodes⁺ (n * 5) (node_words_fields T fs p) (object_words T nodes⁺ children⁺ fs p) s))
        (used_by (n + size_fields fs) 9 (p + child_entries_fields fs) (count_fieldsᵛ fs) (count_fieldsᵛ fs * 2) (five_words T nodes⁺ children⁺ (n + size_fields fs) 9 (p + child_entries_fields fs) (count_fieldsᵛ fs) (stands_after nodes⁺ (n * 5) ((n + size_fields fs) * 5) (node_words_fields T fs p) (object_words T nodes⁺ children⁺ fs p) (node_end T nodes⁺ children⁺ n (length (node_words_fields T fs p)) (size_fields fs) (words_length_fields T fs p)) s)) (width_object 9 (count_fieldsᵛ fs) refl))

    used_all : (vs : Values) (n p : ℕ) → Stands nodes⁺ (n * 5) (node_words_all T vs p) → used_places nodes⁺ (n + 1) (size_all vs) ≡ places_from p (child_entries_all vs)
    used_all noneᵛ n p s = none_used (n + 1) ∙ no_places p
    used_all (itemᵛ v vs) n p s =
        let t : n + 1 + size v ≡ n + size v + 1 = omega arith in
        used_append nodes⁺ (n + 1) (size v) (size_all vs)
        ∙ (ap₂ (λ xs ys. xs ++ ys) (used_new v n p (stands_left nodes⁺ (n * 5) (node_words T v p) (node_words_all T vs (p + child_entries v)) s))
        (ap (λ (x : ℕ). used_places nodes⁺ x (size_all vs)) t ∙ used_all vs (n + size v) (p + child_entries v) (stands_after nodes⁺ (n * 5) ((n + size v) * 5) (node_words T v p) (node_words_all T vs (p + child_entries v)) (node_end T nodes⁺ children⁺ n (length (node_words T v p)) (size v) (words_length T v p)) s))
        ∙ sym (places_append p (child_entries v) (child_entries_all vs)))

    used_fields : (fs : ValueFields) (n p : ℕ) → Stands nodes⁺ (n * 5) (node_words_fields T fs p) → used_places nodes⁺ (n + 1) (size_fields fs) ≡ places_from p (child_entries_fields fs)
    used_fields doneᵛ n p s = none_used (n + 1) ∙ no_places p
    used_fields (fieldᵛ k v fs) n p s =
        let s' = stands_after nodes⁺ (n * 5) ((n + 1) * 5) (literal_words T k) (node_words T v p ++ node_words_fields T fs (p + child_entries v)) (node_end T nodes⁺ children⁺ n (length (literal_words T k)) 1 (literal_five T k)) s in
        let t : n + 1 + 1 + size v ≡ n + 1 + size v + 1 = omega arith in
        used_append nodes⁺ (n + 1) 1 (size v + size_fields fs)
        ∙ (ap₂ (λ xs ys. xs ++ ys) (used_literal n k (stands_left nodes⁺ (n * 5) (literal_words T k) (node_words T v p ++ node_words_fields T fs (p + child_entries v)) s))
        (used_append nodes⁺ (n + 1 + 1) (size v) (size_fields fs)
        ∙ (ap₂ (λ xs ys. xs ++ ys) (used_new v (n + 1) p (stands_left nodes⁺ ((n + 1) * 5) (node_words T v p) (node_words_fields T fs (p + child_entries v)) s'))
        (ap (λ (x : ℕ). used_places nodes⁺ x (size_fields fs)) t ∙ used_fields fs (n + 1 + size v) (p + child_entries v) (stands_after nodes⁺ ((n + 1) * 5) ((n + 1 + size v) * 5) (node_words T v p) (node_words_fields T fs (p + child_entries v)) (node_end T nodes⁺ children⁺ (n + 1) (length (node_words T v p)) (size v) (words_length T v p)) s'))
        ∙ sym (places_append p (child_entries v) (child_entries_fields fs)))))
