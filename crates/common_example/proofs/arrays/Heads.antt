-- What the arrays say of a place is what the graph says of it.
use Prim.Native.Nat.{ℕ, ◌+◌, ◌*◌, ◌/◌, ◌%◌, ◌≤◌, ◌<◌}
use mathlib.Core.Bool.{Bool, true, false, cond, ◌&&◌, false≢true}
use mathlib.Core.List.{List}
use mathlib.Core.Path.{◌≡◌, refl, ap, sym, ◌∙◌}
use native.Mathlib.Omega.{arith}
use borrow.Author.Tests.{eqb-true, eqb-false, leb-true, leb-false}
use lib.Dec.{eqb, leb}
use Rattle.literal.specs.Literal.{Literal}
use Rattle.table.specs.Expr.{Expr, other}
use Rattle.table.specs.Tables.{Tables, kind_of, first_word_of, count_of, node_count, is_node}
use Rattle.table.specs.Decode.{expr, literal_at, named_by, is_wildcard}
use Rattle.table.specs.code.Sound.{Node, WellFormed}
use Rattle.table.proofs.trees.Trees.{expr_name, expr_array, expr_set, expr_object, expr_literal, expr_other}
use Rattle.planner.specs.Simple.{simple, admitted}
use Rattle.common_example.specs.Unify.{Head, free, leaf, items, keyed}
use Rattle.common_example.specs.Places.{GraphPlace, nodeᵖ, nameᵖ, place_number, place_at, head_of, head_if, graph}
use Rattle.common_example.specs.Operations as Operations
use Rattle.common_example.specs.Operations.{PatternSide, tree_of}
use Rattle.common_example.specs.code.Graph.{head_by, head_at}
use Rattle.common_example.specs.code.arrays.Likes.{like_in}
use Rattle.common_example.specs.code.arrays.NodePlaces.{side_number}
use Rattle.common_example.specs.code.arrays.Arrays.{head_kind, head_start, head_count}
use Rattle.common_example.proofs.unify.Renamed.{rename_head}
use Rattle.common_example.proofs.unify.Numbered.{number_graph}
use Rattle.common_example.proofs.loops.graph.GraphLoops.{kind_literal, kind_array, kind_object, kind_none, start_literal, start_link, count_links}
use Rattle.common_example.proofs.arrays.LikeLaws.{literal_or, like_found}
use Rattle.common_example.proofs.arrays.Words.{like_of, heads_of, node_part, name_part}
use Rattle.common_example.proofs.arrays.Parts.{Prepared, likes_in, links_in, literal_in, items_are, fields_are}

-- every number is a place's
pub number_forth : (i : ℕ) → place_number (place_at i) ≡ i
unfolding place_at
number_forth i = go (eqb (i % 4) 0) refl (eqb (i % 4) 1) refl (eqb (i % 4) 2) refl
  where
    go : (a : Bool) → eqb (i % 4) 0 ≡ a → (b : Bool) → eqb (i % 4) 1 ≡ b → (c : Bool) → eqb (i % 4) 2 ≡ c
        → place_number (cond a (nodeᵖ true (i / 4)) (cond b (nodeᵖ false (i / 4)) (cond c (nameᵖ true (i / 4)) (nameᵖ false (i / 4))))) ≡ i
    go true p b q c r = let e = eqb-true (i % 4) 0 p in omega (arith, e)
    go false p true q c r = let e = eqb-true (i % 4) 1 q in omega (arith, e)
    go false p false q true r = let e = eqb-true (i % 4) 2 r in omega (arith, e)
    go false p false q false r = let x = eqb-false (i % 4) 0 p in let y = eqb-false (i % 4) 1 q in let z = eqb-false (i % 4) 2 r in omega (arith, x, y, z)

-- the words of a node of which something is known
module _ (T : Tables) (n side : ℕ) where
  pub start_like : WellFormed T → Node T n → kind_of T.nodes n ≤ 5 → head_start T.nodes (likes_in T) n side ≡ like_in (literal_at T) (node_count T) n
  start_like w v h = sym (start_literal T.nodes (likes_in T) n side {known = 1} refl (kind_literal h) (λ e. omega (arith, e)) refl (sym (like_of (node_count T) w.limits.nodes v.low v.high (literal_at T))))

  pub start_array : kind_of T.nodes n ≡ 7 → head_start T.nodes (likes_in T) n side ≡ first_word_of T.nodes n * 4 + side
  start_array k = sym (start_link T.nodes (likes_in T) n side {known = 2} refl (kind_array (omega arith) k) (λ e. omega (arith, e)) (λ e. omega (arith, e)) refl)

  pub start_object : kind_of T.nodes n ≡ 9 → head_start T.nodes (likes_in T) n side ≡ first_word_of T.nodes n * 4 + side
  start_object k = sym (start_link T.nodes (likes_in T) n side {known = 3} refl (kind_object (omega arith) (λ e. omega (arith, e, k)) k) (λ e. omega (arith, e)) (λ e. omega (arith, e)) refl)

  pub count_array : kind_of T.nodes n ≡ 7 → head_count T.nodes n ≡ count_of T.nodes n
  count_array k = sym (count_links T.nodes (likes_in T) n side {known = 2} refl (kind_array (omega arith) k) (omega arith) refl)

  pub count_object : kind_of T.nodes n ≡ 9 → head_count T.nodes n ≡ count_of T.nodes n
  count_object k = sym (count_links T.nodes (likes_in T) n side {known = 3} refl (kind_object (omega arith) (λ e. omega (arith, e, k)) k) (omega arith) refl)

next : {k m : ℕ} → m ≤ k → (k ≡ m → ⊥) → m + 1 ≤ k
next h n = omega arith

just : {k m : ℕ} → k ≤ m → m ≤ k → k ≡ m
just h l = omega arith

three : (f : ℕ → Literal) (links : List ℕ) {a a' b b' c c' : ℕ} → a ≡ a' → b ≡ b' → c ≡ c' → head_by f links a b c ≡ head_by f links a' b' c'
three f links {a} {a'} {b} {b'} {c} {c'} p q r =
    ap (λ (x : ℕ). head_by f links x b c) p ∙ (ap (λ (x : ℕ). head_by f links a' x c) q ∙ ap (λ (x : ℕ). head_by f links a' b' x) r)

module _ (T : Tables) (side : Bool → PatternSide) (held : Bool → List ℕ) (ordered : List ℕ) (p : Prepared T side held ordered) where
  abbrev heads_in : List ℕ
  heads_in = heads_of T p.table (likes_in T)

  abbrev links : List ℕ
  links = links_in T held ordered

  abbrev graph_head : Bool → Expr → Head ℕ
  graph_head b e = rename_head place_number (head_of (Operations.held_by_side T (side b)) b e)

  pub side_low : (b : Bool) → side_number b ≤ 1
  side_low true = omega arith
  side_low false = omega arith

  abbrev said : Bool → ℕ → Bool → Head ℕ
  said b n c = head_by (literal_in T) links (cond c (head_kind (kind_of T.nodes n)) 0) (cond c (head_start T.nodes (likes_in T) n (side_number b)) 0) (cond c (head_count T.nodes n) 0)

  head_words_lem : (b : Bool) (n : ℕ) → head_at (literal_in T) heads_in links (n * 4 + side_number b) ≡ said b n (is_node T n && simple (expr T n))
  unfolding head_at
  head_words_lem b n =
      three (literal_in T) links
      (node_part T p.table (likes_in T) n (side_number b) 0 (side_low b) (omega arith))
      (node_part T p.table (likes_in T) n (side_number b) 1 (side_low b) (omega arith))
      (node_part T p.table (likes_in T) n (side_number b) 2 (side_low b) (omega arith))

  -- a simple pattern's node, by its kind
  module _ (b : Bool) (n : ℕ) (v : Node T n) where
    of_literal : kind_of T.nodes n ≤ 5 → said b n true ≡ graph_head b (expr T n)
    of_literal h =
        let (l, at) = p.table.literals n v h in
        let f = like_found (literal_at T) (node_count T) v.low v.high at in
        three (literal_in T) links (sym (kind_literal h)) (start_like T n (side_number b) p.table v h) refl
        ∙ (ap (λ (m : Literal). leaf m) (ap literal_or f.literal) ∙ sym (ap (graph_head b) (expr_literal T p.table n v l h at)))

    of_name_lem : kind_of T.nodes n ≡ 6 → said b n true ≡ graph_head b (expr T n)
    of_name_lem k =
        three (literal_in T) links (sym (kind_none {kind = kind_of T.nodes n} (omega arith) (λ e. omega (arith, e, k)) (λ e. omega (arith, e, k)))) refl refl
        ∙ (go (is_wildcard T (first_word_of T.nodes n)) ∙ sym (ap (graph_head b) (expr_name T p.table n v k)))
      where
        go : (u : Bool) → free ≡ graph_head b (named_by u n (first_word_of T.nodes n))
        go true = refl
        go false = refl

    of_array : kind_of T.nodes n ≡ 7 → said b n true ≡ graph_head b (expr T n)
    of_array k =
        three (literal_in T) links (sym (kind_array (omega arith) k)) (start_array T n (side_number b) k) (count_array T n (side_number b) k)
        ∙ (ap (λ (ps : List ℕ). items ps) (items_are T side held ordered p b n v k) ∙ sym (ap (graph_head b) (expr_array T p.table n v k)))

    of_object : kind_of T.nodes n ≡ 9 → simple (expr T n) ≡ true → said b n true ≡ graph_head b (expr T n)
    of_object k s =
        three (literal_in T) links (sym (kind_object (omega arith) (λ e. omega (arith, e, k)) k)) (start_object T n (side_number b) k) (count_object T n (side_number b) k)
        ∙ (ap (λ fs. keyed fs) (fields_are T side held ordered p n v k s b) ∙ sym (ap (graph_head b) (expr_object T p.table n v k)))

    not_simple : kind_of T.nodes n ≡ 8 → simple (expr T n) ≡ false
    unfolding admitted
    not_simple k = ap simple (expr_set T p.table n v k)

    not_other : kind_of T.nodes n ≡ 10 → simple (expr T n) ≡ false
    unfolding admitted
    not_other k = ap simple (expr_other T p.table n v k)

    of_node : simple (expr T n) ≡ true → said b n true ≡ graph_head b (expr T n)
    of_node s = go (leb (kind_of T.nodes n) 5) refl (eqb (kind_of T.nodes n) 6) refl (eqb (kind_of T.nodes n) 7) refl (eqb (kind_of T.nodes n) 9) refl (eqb (kind_of T.nodes n) 8) refl
      where
        go : (a : Bool) → leb (kind_of T.nodes n) 5 ≡ a → (c : Bool) → eqb (kind_of T.nodes n) 6 ≡ c → (d : Bool) → eqb (kind_of T.nodes n) 7 ≡ d → (e : Bool) → eqb (kind_of T.nodes n) 9 ≡ e → (f : Bool) → eqb (kind_of T.nodes n) 8 ≡ f → said b n true ≡ graph_head b (expr T n)
        go true q c r d t e u f x = of_literal (leb-true (kind_of T.nodes n) 5 q)
        go false q true r d t e u f x = of_name_lem (eqb-true (kind_of T.nodes n) 6 r)
        go false q false r true t e u f x = of_array (eqb-true (kind_of T.nodes n) 7 t)
        go false q false r false t true u f x = of_object (eqb-true (kind_of T.nodes n) 9 u) s
        go false q false r false t false u true x = absurd (false≢true (sym (not_simple (eqb-true (kind_of T.nodes n) 8 x)) ∙ s))
        go false q false r false t false u false x =
            let five = leb-false (kind_of T.nodes n) 5 q in
            let ten = next (next (next (next five (eqb-false (kind_of T.nodes n) 6 r)) (eqb-false (kind_of T.nodes n) 7 t)) (eqb-false (kind_of T.nodes n) 8 x)) (eqb-false (kind_of T.nodes n) 9 u) in
            absurd (false≢true (sym (not_other (just (p.table.kinds n v).1 ten)) ∙ s))

  abbrev tree_head : Bool → Expr → Head ℕ
  tree_head b e = rename_head place_number (head_if (Operations.held_by_side T (side b)) b (simple e) e)

  none_simple : (n : ℕ) → simple (other n) ≡ false
  unfolding admitted
  none_simple n = refl

  pub node_of_lem : (n : ℕ) → is_node T n ≡ true → Node T n
  node_of_lem n e = go (leb 1 n) refl (leb n (node_count T)) refl e
    where
      go : (a : Bool) → leb 1 n ≡ a → (c : Bool) → leb n (node_count T) ≡ c → (a && c) ≡ true → Node T n
      go true q true r h = record { low = leb-true 1 n q; high = leb-true n (node_count T) r }
      go true q false r h = absurd (false≢true h)
      go false q c r h = absurd (false≢true h)

  head_node : (b : Bool) (n : ℕ) → head_at (literal_in T) heads_in links (n * 4 + side_number b) ≡ tree_head b (tree_of T n)
  head_node b n = head_words_lem b n ∙ go (is_node T n) refl (simple (expr T n)) refl
    where
      go : (c : Bool) → is_node T n ≡ c → (d : Bool) → simple (expr T n) ≡ d → said b n (is_node T n && simple (expr T n)) ≡ tree_head b (tree_of T n)
      go false e d f =
          let x : tree_of T n ≡ other n = ap (λ (c : Bool). cond c (expr T n) (other n)) e in
          ap (λ (c : Bool). said b n (c && simple (expr T n))) e
          ∙ sym (ap (tree_head b) x ∙ ap (λ (c : Bool). rename_head place_number (head_if (Operations.held_by_side T (side b)) b c (other n))) (none_simple n))
      go true e false f =
          let x : tree_of T n ≡ expr T n = ap (λ (c : Bool). cond c (expr T n) (other n)) e in
          ap (λ (c : Bool). said b n (c && simple (expr T n))) e
          ∙ (ap (said b n) f
          ∙ sym (ap (tree_head b) x ∙ ap (λ (c : Bool). rename_head place_number (head_if (Operations.held_by_side T (side b)) b c (expr T n))) f))
      go true e true f =
          let x : tree_of T n ≡ expr T n = ap (λ (c : Bool). cond c (expr T n) (other n)) e in
          ap (λ (c : Bool). said b n (c && simple (expr T n))) e
          ∙ (ap (said b n) f
          ∙ (of_node b n (node_of_lem n e) f
          ∙ sym (ap (tree_head b) x ∙ ap (λ (c : Bool). rename_head place_number (head_if (Operations.held_by_side T (side b)) b c (expr T n))) f)))

  head_name : (x way : ℕ) → 1 < way → way < 4 → head_at (literal_in T) heads_in links (x * 4 + way) ≡ free
  unfolding head_at
  head_name x way s t =
      three (literal_in T) links
      (name_part T p.table (likes_in T) x way 0 s t (omega arith))
      (name_part T p.table (likes_in T) x way 1 s t (omega arith))
      (name_part T p.table (likes_in T) x way 2 s t (omega arith))

  head_place : (q : GraphPlace) → head_at (literal_in T) heads_in links (place_number q) ≡ rename_head place_number (graph (tree_of T) (Operations.held_by_side T (side true)) (Operations.held_by_side T (side false)) q)
  head_place (nodeᵖ true n) = let z : n * 4 + 0 ≡ n * 4 = omega arith in ap (head_at (literal_in T) heads_in links) (sym z) ∙ head_node true n
  head_place (nodeᵖ false n) = head_node false n
  head_place (nameᵖ true x) = head_name x 2 (omega arith) (omega arith)
  head_place (nameᵖ false x) = head_name x 3 (omega arith) (omega arith)

  -- the law
  pub arrays_graph : (i : ℕ) → head_at (literal_in T) heads_in links i ≡ number_graph (tree_of T) (Operations.held_by_side T (side true)) (Operations.held_by_side T (side false)) i
  arrays_graph i = ap (head_at (literal_in T) heads_in links) (sym (number_forth i)) ∙ head_place (place_at i)
