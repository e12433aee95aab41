-- The theorem of a table: of two sides that no check refuses, `overlap` over the table's nodes is the answer.
use Prim.Native.Nat.{ℕ, zero, suc, ◌+◌, ◌*◌, ◌≤◌, ◌<◌}
use mathlib.Core.Bool.{Bool, true, false, cond, false≢true}
use mathlib.Core.Logic.{inl, inr}
use mathlib.Core.Option.{Option, none, some}
use mathlib.Core.Path.{◌≡◌, refl, ap, ◌∙◌, fun_ext}
use native.Mathlib.Omega.{arith}
use borrow.Author.Tests.{eqb-true, eqb-false}
use lib.Dec.{eqb, leb, leb→le, le→leb}
use Rattle.literal.specs.Literal.{Literal}
use Rattle.table.specs.Tables.{Tables, kind_of, first_word_of, count_of, node_count, is_node, child_at}
use Rattle.table.specs.Expr.{Expr, literal, name, wildcard, array, set, object, other, Exprs, node_of}
use Rattle.table.specs.Decode.{expr, items, fields, named_by, is_wildcard}
use Rattle.table.specs.code.Sound.{Node, Named, WellFormed}
use Rattle.table.proofs.trees.Trees.{expr_name, expr_array, expr_object, child_node, width_array, width_object}
use Rattle.table.proofs.trees.Forest.{forest}
use Rattle.planner.specs.Layout.{literal_key}
use Rattle.planner.specs.Simple.{simple}
use Rattle.planner.proofs.destructuring.NodeKinds.{Plain, plain_literal, plain_set, plain_other, plain_kind}
use Rattle.planner.proofs.fields.Objects.{node_of_lem}
use Rattle.value.specs.Value.{is_value, value_of}
use Rattle.value.proofs.Keys.{and_left, and_right, both, is_true, true_is}
use Rattle.matching.specs.Matching.{Env, pick_value, start}
use Rattle.run.specs.Operations.{listed_node, in_table, is_value_node, listed}
use Rattle.common_example.specs.Overlap.{Template, OverlapAnswer}
use Rattle.common_example.specs.Places.{GraphPlace, nodeᵖ, nameᵖ, graph_places, name_place, graph_place_of, places_of, keyed_of, head_of, head_if, graph, value_from, known_by, overlap}
use Rattle.common_example.specs.Operations.{PatternSide, unbound_in, held_if, held_by_side, tree_of}
use Rattle.common_example.proofs.unify.Counting.{Among, AllAmong, FieldsAmong, HeadAmong}
use Rattle.common_example.proofs.patterns.InOrder.{written_field, written_of, ordered_all}
use Rattle.common_example.proofs.patterns.Patterns.{Owns, OwnsFields, OwnsChildren, Family, HoldValues}
use Rattle.common_example.proofs.patterns.Answers.{Asks, answer}

-- places of nodes and names within the limit
among_node : (s : Bool) (limit n : ℕ) → 1 ≤ n → n ≤ limit → Among (nodeᵖ s n) (graph_places limit)
unfolding graph_places
among_node s zero n low high = absurd (none_below n low high)
  where
    none_below : (n : ℕ) → 1 ≤ n → n ≤ 0 → ⊥
    none_below n a b = omega arith
among_node s (suc k) n low high = go (eqb n (suc k)) refl (among_node s k n low) s
  where
    go : (b : Bool) → eqb n (suc k) ≡ b → (n ≤ k → Among (nodeᵖ s n) (graph_places k)) → (t : Bool) → Among (nodeᵖ s n) (graph_places (suc k))
    go true e f t = let q = eqb-true n (suc k) e in here s q
      where
        here : (t : Bool) → n ≡ suc k → Among (nodeᵖ t n) (graph_places (suc k))
        here true q = inr (inr (inr (inl (ap (nodeᵖ true) q))))
        here false q = inr (inr (inl (ap (nodeᵖ false) q)))
    go false e f t = let q = eqb-false n (suc k) e in inr (inr (inr (inr (f (omega (arith, q))))))

among_name : (s : Bool) (limit n : ℕ) → 1 ≤ n → n ≤ limit → Among (nameᵖ s n) (graph_places limit)
unfolding graph_places
among_name s zero n low high = absurd (none_below n low high)
  where
    none_below : (n : ℕ) → 1 ≤ n → n ≤ 0 → ⊥
    none_below n a b = omega arith
among_name s (suc k) n low high = go (eqb n (suc k)) refl (among_name s k n low)
  where
    here : (t : Bool) → n ≡ suc k → Among (nameᵖ t n) (graph_places (suc k))
    here true q = inr (inl (ap (nameᵖ true) q))
    here false q = inl (ap (nameᵖ false) q)

    go : (b : Bool) → eqb n (suc k) ≡ b → (n ≤ k → Among (nameᵖ s n) (graph_places k)) → Among (nameᵖ s n) (graph_places (suc k))
    go true e f = here s (eqb-true n (suc k) e)
    go false e f = let q = eqb-false n (suc k) e in inr (inr (inr (inr (f (omega (arith, q))))))

module _ (T : Tables) (w : WellFormed T) where
  -- the expression of a node, by its kind
  pub data Shape (n : ℕ) : Expr → Type 0 where
    of_literal : (l : Literal) → Shape n (literal n l)
    of_name_lem : (x : ℕ) → Named T x → Shape n (name n x)
    of_wildcard : Shape n (wildcard n)
    of_array : kind_of T.nodes n ≡ 7 → Shape n (array n (items (expr T) T.children (first_word_of T.nodes n) (count_of T.nodes n)))
    of_set : (es : Exprs) → Shape n (set n es)
    of_object : kind_of T.nodes n ≡ 9 → Shape n (object n (fields (expr T) T.children (first_word_of T.nodes n) (count_of T.nodes n)))
    of_other : Shape n (other n)

  pub shape : (n : ℕ) → Node T n → Shape n (expr T n)
  shape n v = go (eqb (kind_of T.nodes n) 6) refl (eqb (kind_of T.nodes n) 7) refl (eqb (kind_of T.nodes n) 9) refl
    where
      plain : {e : Expr} → Plain (kind_of T.nodes n) n e → Shape n e
      plain (plain_literal l k) = of_literal l
      plain (plain_set es k) = of_set es
      plain (plain_other k) = of_other

      named : (b : Bool) → Named T (first_word_of T.nodes n) → Shape n (named_by b n (first_word_of T.nodes n))
      named true h = of_wildcard
      named false h = of_name_lem (first_word_of T.nodes n) h

      go : (a : Bool) → eqb (kind_of T.nodes n) 6 ≡ a → (b : Bool) → eqb (kind_of T.nodes n) 7 ≡ b → (c : Bool) → eqb (kind_of T.nodes n) 9 ≡ c → Shape n (expr T n)
      go true p b q c r = let k = eqb-true (kind_of T.nodes n) 6 p in rw (expr_name T w n v k) (named (is_wildcard T (first_word_of T.nodes n)) (w.named n v k))
      go false p true q c r = let k = eqb-true (kind_of T.nodes n) 7 q in rw (expr_array T w n v k) (of_array k)
      go false p false q true r = let k = eqb-true (kind_of T.nodes n) 9 r in rw (expr_object T w n v k) (of_object k)
      go false p false q false r =
          let (e, t, h) = plain_kind T w n v (eqb-false (kind_of T.nodes n) 6 p) (eqb-false (kind_of T.nodes n) 7 q) (eqb-false (kind_of T.nodes n) 9 r) in
          rw t (plain h)

  pub node_is : (n : ℕ) → is_node T n ≡ true → Node T n
  node_is n e =
      let t = true_is e in
      record { low = leb→le 1 n (and_left (leb 1 n) (leb n (node_count T)) t); high = leb→le n (node_count T) (and_right (leb 1 n) (leb n (node_count T)) t) }

  pub is-node : (n : ℕ) → Node T n → is_node T n ≡ true
  is-node n v = is_true (both (leb 1 n) (leb n (node_count T)) (le→leb 1 n v.low) (le→leb n (node_count T) v.high))

  pub tree_node : (n : ℕ) → Node T n → tree_of T n ≡ expr T n
  tree_node n v = let e = is-node n v in rw e

  -- what holds of the nodes' trees and of no node holds of all
  pub each_tree : (Q : ℕ → Expr → Type 0) → ((n : ℕ) → Node T n → Q n (expr T n)) → ((n : ℕ) → Q n (other n)) → (n : ℕ) → Q n (tree_of T n)
  each_tree Q f h n = go (is_node T n) refl
    where
      go : (b : Bool) → is_node T n ≡ b → Q n (cond b (expr T n) (other n))
      go true e = f n (node_is n e)
      go false e = h n

  child_tree : (c : ℕ) → Node T c → tree_of T (node_of (expr T c)) ≡ expr T c
  child_tree c v = ap (tree_of T) (node_of_lem T w c v) ∙ tree_node c v

  -- the children of a node are nodes
  module _ (n : ℕ) (v : Node T n) where
    item_node : kind_of T.nodes n ≡ 7 → (i : ℕ) → i < count_of T.nodes n → Node T (child_at T.children (first_word_of T.nodes n + i))
    item_node k i h = child_node T w n v i (let q = width_array (kind_of T.nodes n) (count_of T.nodes n) k in rw q h)

    pub field_node : kind_of T.nodes n ≡ 9 → (i : ℕ) → i < count_of T.nodes n * 2 → Node T (child_at T.children (first_word_of T.nodes n + i))
    field_node k i h = child_node T w n v i (let q = width_object (kind_of T.nodes n) (count_of T.nodes n) k in rw q h)

  -- what holds of each child's tree holds of all items, and of all fields' values
  abbrev pub Children : ℕ → ℕ → Type 0
  Children from k = (i : ℕ) → i < k → Node T (child_at T.children (from + i))

  next_children : (from k : ℕ) → Children from (suc k) → Children (from + 1) k
  next_children from k f i h = let e : from + 1 + i ≡ from + (i + 1) = omega arith in rw e (f (i + 1) (omega arith))

  first_child : (from k : ℕ) → Children from (suc k) → Node T (child_at T.children from)
  first_child from k f = let e : from + 0 ≡ from = omega arith in rw e at (f 0 (omega arith))

  items_own : (from k : ℕ) → Children from k → Owns (tree_of T) (items (expr T) T.children from k)
  unfolding items
  items_own from zero f = tt
  items_own from (suc k) f = (child_tree (child_at T.children from) (first_child from k f), items_own (from + 1) k (next_children from k f))

  pub two_on : (from k : ℕ) → Children from (suc k * 2) → Children (from + 2) (k * 2)
  two_on from k f i h = let e : from + 2 + i ≡ from + (i + 2) = omega arith in rw e (f (i + 2) (omega arith))

  value_child : (from k : ℕ) → Children from (suc k * 2) → Node T (child_at T.children (from + 1))
  value_child from k f = f 1 (omega arith)

  fields_own : (from k : ℕ) → Children from (k * 2) → OwnsFields (tree_of T) (fields (expr T) T.children from k)
  unfolding fields
  fields_own from zero f = tt
  fields_own from (suc k) f = (child_tree (child_at T.children (from + 1)) (value_child from k f), fields_own (from + 2) k (two_on from k f))

  pub table_family : Family (tree_of T)
  table_family = record {
    nodes = each_tree (λ n e. node_of e ≡ n) (λ n v. node_of_lem T w n v) (λ n. refl);
    children = each_tree (λ n e. OwnsChildren (tree_of T) e) (λ n v. owned n v (expr T n) (shape n v)) (λ n. tt);
  }
    where
      owned : (n : ℕ) → Node T n → (e : Expr) → Shape n e → OwnsChildren (tree_of T) e
      owned n v (literal m l) s = tt
      owned n v (name m x) s = tt
      owned n v (wildcard m) s = tt
      owned n v (array m es) (of_array k) = items_own (first_word_of T.nodes n) (count_of T.nodes n) (item_node n v k)
      owned n v (set m es) s = tt
      owned n v (object m fs) (of_object k) = fields_own (first_word_of T.nodes n) (count_of T.nodes n) (field_node n v k)
      owned n v (other m) s = tt

  few_nodes : (n : ℕ) → Node T n → n ≤ 512
  few_nodes n v = let h = v.high in let l = w.limits.nodes in omega arith

  few_names : (x : ℕ) → Named T x → x ≤ 512
  few_names x v = let h = v.high in let l = w.limits.names in omega arith

  -- of one side
  module _ (held : ℕ → Option ℕ) (side : Bool) (nodes-held : (x m : ℕ) → held x ≡ some m → Node T m) where
    pub place_among : (n : ℕ) → Node T n → Among (graph_place_of held side (expr T n)) (graph_places 512)
    place_among n v = go (shape n v)
      where
        own : Among (nodeᵖ side n) (graph_places 512)
        own = among_node side 512 n v.low (few_nodes n v)

        named : (x : ℕ) → Named T x → (o : Option ℕ) → held x ≡ o → Among (name_place held side x o) (graph_places 512)
        named x h none e = among_name side 512 x h.low (few_names x h)
        named x h (some m) e = let u = nodes-held x m e in among_node side 512 m u.low (few_nodes m u)

        go : {e : Expr} → Shape n e → Among (graph_place_of held side e) (graph_places 512)
        go (of_literal l) = own
        go (of_name_lem x h) = named x h (held x) refl
        go of_wildcard = own
        go (of_array k) = own
        go (of_set es) = own
        go (of_object k) = own
        go of_other = own

    items_among : (from k : ℕ) → Children from k → AllAmong (graph_places 512) (places_of held side (items (expr T) T.children from k))
    unfolding items places_of
    items_among from zero f = tt
    items_among from (suc k) f = (place_among (child_at T.children from) (first_child from k f), items_among (from + 1) k (next_children from k f))

    written_among : (from k : ℕ) → Children from (k * 2) → FieldsAmong (graph_places 512) (written_of held side (fields (expr T) T.children from k))
    unfolding fields written_of
    written_among from zero f = tt
    written_among from (suc k) f = go (literal_key (expr T (child_at T.children from))) (place_among (child_at T.children (from + 1)) (value_child from k f)) (written_among (from + 2) k (two_on from k f))
      where
        go : (κ : Option Literal) → Among (graph_place_of held side (expr T (child_at T.children (from + 1)))) (graph_places 512) → FieldsAmong (graph_places 512) (written_of held side (fields (expr T) T.children (from + 2) k))
            → FieldsAmong (graph_places 512) (written_field held side κ (graph_place_of held side (expr T (child_at T.children (from + 1)))) (written_of held side (fields (expr T) T.children (from + 2) k)))
        go (some l) a b = (a, b)
        go none a b = b

    fields_among : (from k : ℕ) → Children from (k * 2) → FieldsAmong (graph_places 512) (keyed_of held side (fields (expr T) T.children from k))
    fields_among from k f = ordered_all held side (λ l p. Among p (graph_places 512)) (fields (expr T) T.children from k) (written_among from k f)

    head_among : (n : ℕ) → Node T n → HeadAmong (graph_places 512) (head_of held side (expr T n))
    head_among n v = go (expr T n) (shape n v)
      where
        go : (e : Expr) → Shape n e → HeadAmong (graph_places 512) (head_of held side e)
        go (literal m l) s = tt
        go (name m x) s = tt
        go (wildcard m) s = tt
        go (array m es) (of_array k) = items_among (first_word_of T.nodes n) (count_of T.nodes n) (item_node n v k)
        go (set m es) s = tt
        go (object m fs) (of_object k) = fields_among (first_word_of T.nodes n) (count_of T.nodes n) (field_node n v k)
        go (other m) s = tt

    pub node_among : (n : ℕ) → HeadAmong (graph_places 512) (head_if held side (simple (tree_of T n)) (tree_of T n))
    node_among n = go (simple (tree_of T n)) (each_tree (λ m e. HeadAmong (graph_places 512) (head_of held side e)) head_among (λ m. tt) n)
      where
        go : (b : Bool) → HeadAmong (graph_places 512) (head_of held side (tree_of T n)) → HeadAmong (graph_places 512) (head_if held side b (tree_of T n))
        go true h = h
        go false h = tt

-- the two sides
module _ (T : Tables) (w : WellFormed T) (s₁ s₂ : PatternSide) where
  -- what the checks of a run to 22 leave: roots of simple patterns, and listed nodes that are values
  pub record Checked (s : PatternSide) : Type 0 where
    pub root : is_node T s.pattern ≡ true
    pub is_simple : simple (expr T s.pattern) ≡ true
    pub listed_values_lem : (x : ℕ) → in_table T x ≡ true → (listed_node s.values x ≡ 0 → ⊥) → is_value_node T (listed_node s.values x) ≡ true

  -- known names' nodes are the listed ones
  held_is : (s : PatternSide) (x m : ℕ) → held_by_side T s x ≡ some m → (in_table T x ≡ true) × (listed_node s.values x ≡ 0 → ⊥) × (listed_node s.values x ≡ m)
  held_is s x m e = go (unbound_in s x) (in_table T x) refl (eqb (listed_node s.values x) 0) refl e
    where
      go : (u b : Bool) → in_table T x ≡ b → (z : Bool) → eqb (listed_node s.values x) 0 ≡ z → held_if u b z (listed_node s.values x) ≡ some m → (in_table T x ≡ true) × (listed_node s.values x ≡ 0 → ⊥) × (listed_node s.values x ≡ m)
      go true b q z r h = absurd (false≢true (cc))
      go false false q z r h = absurd (false≢true (cc))
      go false true q true r h = absurd (false≢true (cc))
      go false true q false r h = (q, eqb-false (listed_node s.values x) 0 r, cc)

  held_value_lem : (s : PatternSide) → Checked s → (x m : ℕ) → held_by_side T s x ≡ some m → is_value_node T m ≡ true
  held_value_lem s c x m e = let (a, b, q) = held_is s x m e in rw q at (c.listed_values_lem x a b)

  held_node_lem : (s : PatternSide) → Checked s → (x m : ℕ) → held_by_side T s x ≡ some m → Node T m
  held_node_lem s c x m e = node_is T w m (is_true (and_left (is_node T m) (is_value (expr T m)) (true_is (held_value_lem s c x m e))))

  -- and their values the ones that a run starts with
  known_start : (s : PatternSide) → Checked s → (x : ℕ) → known_by (tree_of T) (held_by_side T s) x ≡ start (unbound_in s) (listed T s.values) x
  known_start s c x = go (unbound_in s x) refl (in_table T x) refl (eqb (listed_node s.values x) 0) refl
    where
      go : (u : Bool) → unbound_in s x ≡ u → (b : Bool) → in_table T x ≡ b → (z : Bool) → eqb (listed_node s.values x) 0 ≡ z
          → value_from (tree_of T) (held_if u b z (listed_node s.values x)) ≡ pick_value u none (cond b (cond z none (some (value_of (expr T (listed_node s.values x))))) none)
      go true p b q z r = refl
      go false p false q z r = refl
      go false p true q true r = refl
      go false p true q false r =
          let h : held_by_side T s x ≡ some (listed_node s.values x) = rw (p, q, r) refl in
          ap (λ e. some (value_of e)) (tree_node T w (listed_node s.values x) (held_node_lem s c x (listed_node s.values x) h))

  module _ (c₁ : Checked s₁) (c₂ : Checked s₂) where
    abbrev h₁ : ℕ → Option ℕ
    h₁ = held_by_side T s₁

    abbrev h₂ : ℕ → Option ℕ
    h₂ = held_by_side T s₂

    hold : HoldValues (tree_of T) h₁ h₂ (table_family T w)
    hold true x m e = let v = held_value_lem s₁ c₁ x m e in let n = held_node_lem s₁ c₁ x m e in let q = tree_node T w m n in rw q (and_right (is_node T m) (is_value (expr T m)) (true_is v))
    hold false x m e = let v = held_value_lem s₂ c₂ x m e in let n = held_node_lem s₂ c₂ x m e in let q = tree_node T w m n in rw q (and_right (is_node T m) (is_value (expr T m)) (true_is v))

    within : (p : GraphPlace) → HeadAmong (graph_places 512) (graph (tree_of T) h₁ h₂ p)
    within (nodeᵖ true n) = node_among T w h₁ true (held_node_lem s₁ c₁) n
    within (nodeᵖ false n) = node_among T w h₂ false (held_node_lem s₂ c₂) n
    within (nameᵖ s x) = tt

    asks : Asks (tree_of T) h₁ h₂ 512 s₁.pattern s₂.pattern
    asks =
        let n₁ = node_is T w s₁.pattern c₁.root in
        let n₂ = node_is T w s₂.pattern c₂.root in
        let q₁ = tree_node T w s₁.pattern n₁ in
        let q₂ = tree_node T w s₂.pattern n₂ in
        record {
          family = table_family T w;
          hold_values = hold;
          inside = within;
          simple₁ = rw q₁ (true_is c₁.is_simple);
          simple₂ = rw q₂ (true_is c₂.is_simple);
          nodes_differ₁ = rw q₁ (forest T w s₁.pattern n₁).different;
          nodes_differ₂ = rw q₂ (forest T w s₂.pattern n₂).different;
          inside₁ = rw q₁ (place_among T w h₁ true (held_node_lem s₁ c₁) s₁.pattern n₁);
          inside₂ = rw q₂ (place_among T w h₂ false (held_node_lem s₂ c₂) s₂.pattern n₂);
        }

    -- The values that both patterns match, with the known names' listed values, are the instances of the template, or there are none.
    pub table_answer : OverlapAnswer (start (unbound_in s₁) (listed T s₁.values)) (start (unbound_in s₂) (listed T s₂.values)) (expr T s₁.pattern) (expr T s₂.pattern) (overlap (tree_of T) h₁ h₂ 512 s₁.pattern s₂.pattern)
    table_answer =
        let q₁ = tree_node T w s₁.pattern (node_is T w s₁.pattern c₁.root) in
        let q₂ = tree_node T w s₂.pattern (node_is T w s₂.pattern c₂.root) in
        let k₁ : known_by (tree_of T) h₁ ≡ start (unbound_in s₁) (listed T s₁.values) = fun_ext (known_start s₁ c₁) in
        let k₂ : known_by (tree_of T) h₂ ≡ start (unbound_in s₂) (listed T s₂.values) = fun_ext (known_start s₂ c₂) in
        moved k₁ k₂ q₁ q₂ (overlap (tree_of T) h₁ h₂ 512 s₁.pattern s₂.pattern) (answer (tree_of T) h₁ h₂ 512 s₁.pattern s₂.pattern asks)
      where
        moved : {a b k l : Env} {e f p q : Expr} → a ≡ k → b ≡ l → e ≡ p → f ≡ q → (o : Option (Template GraphPlace)) → OverlapAnswer a b e f o → OverlapAnswer k l p q o
        moved {a} {b} {k} {l} {e} {f} {p} {q} r s t u o x = coe 0 1 (i. OverlapAnswer (r i) (s i) (t i) (u i) o) x
