-- The nodes of a value in a table are those of its tree.
use Prim.Native.Nat.{ℕ, zero, suc, ◌+◌, ◌*◌, ◌≤◌, ◌<◌}
use mathlib.Core.Path.{◌≡◌, refl, sym, ap, ap₂, subst, ◌∙◌}
use mathlib.Core.List.{List, ◌∷◌, ◌++◌}
use mathlib.Core.Bool.{false}
use mathlib.Core.Option.{Option}
use native.Mathlib.Omega.{arith}
use Rattle.literal.specs.Literal.{Literal}
use Rattle.table.specs.Tables.{Tables, kind_of, first_word_of, count_of, child_at}
use Rattle.table.specs.Decode.{expr, items, fields}
use Rattle.table.specs.Expr.{Expr, literal, parts, parts_all, parts_fields}
use Rattle.table.specs.code.Sound.{WellFormed}
use Rattle.table.proofs.trees.Trees.{expr_literal, width_array, width_object}
use Rattle.planner.specs.Layout.{literal_key}
use Rattle.planner.specs.code.Passes.{value_node}
use Rattle.value.specs.Value.{filled_field, value_of, values_of, value_fields_of}
use Rattle.value.specs.code.Post.{ValueNode}
use Rattle.value.proofs.Admitted.{array_item, object_value, array_children, key-node, value_node_lem, keyed_object, admitted_value}
use Rattle.value.proofs.SameValues.{ValueShape, value_literal, value_array, value_object, value_shape}
use Rattle.value.proofs.Under.{Fielded, object_fielded, fielded_on, key_of}
use Rattle.first_miss.specs.Operations.{key_at}
use Rattle.first_miss.proofs.trees.Nodes.{nodesᵛ, nodes_all, nodes_under}

module _ (T : Tables) (w : WellFormed T) where
  abbrev Same : ℕ → Type 0
  Same n = nodesᵛ (key_at T) (value_of (expr T n)) ≡ parts (expr T n)

  items_same : (at k : ℕ) → ((i : ℕ) → i < k → Same (child_at T.children (at + i))) → nodes_all (key_at T) (values_of (items (expr T) T.children at k)) ≡ parts_all (items (expr T) T.children at k)
  unfolding items value_of nodesᵛ parts
  items_same at zero f = refl
  items_same at (suc k) f =
      let z : at + 0 ≡ at = omega arith in
      ap₂ (λ (xs ys : List ℕ). xs ++ ys) (rw z at (f 0 (omega arith))) (items_same (at + 1) k (λ i lt. let x : at + suc i ≡ at + 1 + i = omega arith in rw x at (f (suc i) (omega arith))))

  -- k fields of the object at node n, from its field i on
  fields_same : (n i at k : ℕ) → at ≡ first_word_of T.nodes n + i * 2 → Fielded T at k → ((j : ℕ) → j < k → Same (child_at T.children (at + j * 2 + 1)))
      → nodes_under (key_at T) n i (value_fields_of (fields (expr T) T.children at k)) ≡ parts_fields (fields (expr T) T.children at k)
  unfolding fields value_of nodesᵛ parts
  fields_same n i at zero is fielded f = refl
  fields_same n i at (suc k) is fielded f =
      let z : at + 0 * 2 ≡ at = omega arith in
      let y : at + 2 ≡ first_word_of T.nodes n + (i + 1) * 2 = omega arith in
      let (l, d, q) = key_of T at (suc k) fielded 0 (omega arith) in
      let key : expr T (child_at T.children at) ≡ literal (child_at T.children at) l = rw z at (expr_literal T w (child_at T.children (at + 0 * 2)) (key-node fielded.asks 0 (omega arith)) l (fielded.literal 0 (omega arith)) d) in
      let rest = fields_same n (i + 1) (at + 2) k y (fielded_on T at k fielded) (λ j lt. let x : at + suc j * 2 + 1 ≡ at + 2 + j * 2 + 1 = omega arith in rw x at (f (suc j) (omega arith))) in
      let here : Same (child_at T.children (at + 1)) = rw z at (f 0 (omega arith)) in
      let own : key_at T n i ≡ child_at T.children at = ap (child_at T.children) (sym is) in
      ap (λ (o : Option Literal). nodes_under (key_at T) n i (filled_field o (value_of (expr T (child_at T.children (at + 1)))) (value_fields_of (fields (expr T) T.children (at + 2) k)))) (ap literal_key key)
      ∙ (ap₂ (λ (x : ℕ) (xs : List ℕ). x ∷ (xs ++ nodes_under (key_at T) n (i + 1) (value_fields_of (fields (expr T) T.children (at + 2) k)))) own here
      ∙ (ap (λ (xs : List ℕ). child_at T.children at ∷ (parts (expr T (child_at T.children (at + 1))) ++ xs)) rest
      ∙ sym (ap (λ (e : Expr). parts e ++ (parts (expr T (child_at T.children (at + 1))) ++ parts_fields (fields (expr T) T.children (at + 2) k))) key)))

  nodes_to : (fuel n : ℕ) → n ≤ fuel → ValueNode T n → Same n
  unfolding value_of nodesᵛ parts
  nodes_to zero n le v = let l = v.node.low in absurd (omega arith)
  nodes_to (suc fuel) n le v = let s = value_shape T w n v in let e = s.1 in subst (λ (x : Expr). nodesᵛ (key_at T) (value_of x) ≡ parts x) (sym e) (go s.0 s.2 (λ m lt u. nodes_to fuel m (omega arith) u))
    where
      go : (e : Expr) → ValueShape T n e → ((m : ℕ) → m < n → ValueNode T m → Same m) → nodesᵛ (key_at T) (value_of e) ≡ parts e
      go e (value_literal l h) f = refl
      go e (value_array h) f =
          let c = array_children T w n v.node h in
          let wide = width_array (kind_of T.nodes n) (count_of T.nodes n) h in
          ap (λ (xs : List ℕ). n ∷ xs) (items_same (first_word_of T.nodes n) (count_of T.nodes n) (λ i lt.
          f (child_at T.children (first_word_of T.nodes n + i)) (w.below n v.node i (omega arith)).1
          (admitted_value T (child_at T.children (first_word_of T.nodes n + i)) (c.each i (omega arith)) (array_item T w n v.node false v.value h i lt))))
      go e (value_object h) f =
          let k = object_fielded (keyed_object T w n v.node false v.value h) in
          let wide = width_object (kind_of T.nodes n) (count_of T.nodes n) h in
          ap (λ (xs : List ℕ). n ∷ xs) (fields_same n 0 (first_word_of T.nodes n) (count_of T.nodes n) (omega arith) k (λ j lt.
          let x : first_word_of T.nodes n + (j * 2 + 1) ≡ first_word_of T.nodes n + j * 2 + 1 = omega arith in
          f (child_at T.children (first_word_of T.nodes n + j * 2 + 1)) (rw x at (w.below n v.node (j * 2 + 1) (omega arith)).1)
          (admitted_value T (value_node T (first_word_of T.nodes n) j) (value_node_lem k.asks j lt) (object_value T w n v.node false v.value h j lt))))

  pub nodes_same : (n : ℕ) → ValueNode T n → nodesᵛ (key_at T) (value_of (expr T n)) ≡ parts (expr T n)
  nodes_same n v = nodes_to n n (omega arith) v
