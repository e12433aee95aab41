-- Every literal and key of the example stands at a node of the table, or is the null of a free place.
use Prim.Native.Nat.{ℕ, zero, suc, ◌+◌, ◌*◌, ◌≤◌, ◌<◌}
use mathlib.Core.Bool.{Bool, true, false, cond, false≢true}
use mathlib.Core.List.{List, [], ◌∷◌}
use mathlib.Core.Option.{Option, none, some}
use mathlib.Core.Path.{◌≡◌, refl, sym, ◌∙◌}
use native.Mathlib.Omega.{arith}
use borrow.Author.Tests.{eqb-true, eqb-false}
use lib.Dec.{eqb}
use Rattle.literal.specs.Literal.{Literal, null}
use Rattle.table.specs.Tables.{Tables, node_count, child_at, first_word_of, count_of}
use Rattle.table.specs.Expr.{Expr}
use Rattle.table.specs.Decode.{expr, fields, literal_at}
use Rattle.table.specs.code.Sound.{Node, WellFormed}
use Rattle.planner.specs.Layout.{literal_key}
use Rattle.planner.specs.Simple.{simple}
use Rattle.planner.proofs.fields.Objects.{key_literal}
use Rattle.value.specs.Value.{Value, literalᵛ, arrayᵛ, objectᵛ, Values, noneᵛ, itemᵛ, ValueFields, doneᵛ, fieldᵛ}
use Rattle.value.proofs.Keys.{is_true, key_refl}
use Rattle.common_example.specs.Overlap.{Template, hole, literalᵗ, Templates, noneᵗ, TemplateFields, doneᵗ, put_in, put_all, put_fields, example}
use Rattle.common_example.specs.Unify.{Keyed, no_key, keyed_by, Head, free, leaf, items, keyed, build_items, build_fields, build_head, build}
use Rattle.common_example.specs.Places.{GraphPlace, nodeᵖ, nameᵖ, graph_places, graph_place_of, keyed_of, head_of, head_if, pick_held, graph, same_place, overlap}
use Rattle.common_example.specs.Operations.{tree_of, is_like, node_like}
use Rattle.common_example.proofs.unify.Counting.{AllKeyed}
use Rattle.common_example.proofs.patterns.InOrder.{written_field, written_of, ordered_all}
use Rattle.common_example.proofs.unify.Building.{and_item_back, and_field_back, of_items_back, of_fields_back}
use Rattle.common_example.proofs.unify.Unified.{classes_of_lem}
use Rattle.common_example.proofs.patterns.Tabled.{Shape, of_literal, of_name_lem, of_wildcard, of_array, of_set, of_object, of_other, shape, Children, field_node, two_on, each_tree}

-- 1. Literals of which Q holds.
module _ (Q : Literal → Type 0) where
  abbrev mutual
    pub AllOf : Value → Type 0
    AllOf (literalᵛ n l) = Q l
    AllOf (arrayᵛ n vs) = AllIn vs
    AllOf (objectᵛ n fs) = AllUnder fs

    pub AllIn : Values → Type 0
    AllIn noneᵛ = Unit {0}
    AllIn (itemᵛ v vs) = AllOf v × AllIn vs

    pub AllUnder : ValueFields → Type 0
    AllUnder doneᵛ = Unit {0}
    AllUnder (fieldᵛ k v fs) = Q k × AllOf v × AllUnder fs

  -- heads
  module _ {P : Type 0} where
    abbrev pub KeysAll : Keyed P → Type 0
    KeysAll = AllKeyed (λ k p. Q k)

    abbrev pub HeadAll : Head P → Type 0
    HeadAll free = Unit {0}
    HeadAll (leaf l) = Q l
    HeadAll (items ps) = Unit {0}
    HeadAll (keyed fs) = KeysAll fs

  module _ {P : Type 0} (g : P → Head P) (d : P → P) (heads : (p : P) → HeadAll (g p)) (null_ok : Q null) where
    module _ (F : P → Option (Template P)) (each : (p : P) (t : Template P) → F p ≡ some t → AllOf (example t)) where
      items_all : (ps : List P) (ts : Templates P) → build_items F ps ≡ some ts → AllIn (put_all (λ x. literalᵛ 0 null) ts)
      unfolding build_items put_in
      items_all [] ts e = let q : noneᵗ ≡ ts = cc in rw (← q) tt
      items_all (p ∷ ps) ts e =
          let (t, us, a, b, c) = and_item_back (F p) (build_items F ps) ts e in
          rw (← c) (each p t a, items_all ps us b)

      fields_all : (fs : Keyed P) (ts : TemplateFields P) → KeysAll fs → build_fields F fs ≡ some ts → AllUnder (put_fields (λ x. literalᵛ 0 null) ts)
      unfolding build_fields put_in
      fields_all no_key ts h e = let q : doneᵗ ≡ ts = cc in rw (← q) tt
      fields_all (keyed_by k p fs) ts h e =
          let (t, us, a, b, c) = and_field_back k (F p) (build_fields F fs) ts e in
          rw (← c) (h.0, each p t a, fields_all fs us h.1 b)

      head_all : (p : P) (h : Head P) (t : Template P) → HeadAll h → build_head F p h ≡ some t → AllOf (example t)
      unfolding put_in
      head_all p free t a e = let q : hole p ≡ t = cc in rw (← q) null_ok
      head_all p (leaf l) t a e = let q : literalᵗ l ≡ t = cc in rw (← q) a
      head_all p (items ps) t a e = let (ts, b, c) = of_items_back (build_items F ps) t e in rw (← c) (items_all ps ts b)
      head_all p (keyed fs) t a e = let (ts, b, c) = of_fields_back (build_fields F fs) t e in rw (← c) (fields_all fs ts a b)

    pub build_all : (f : ℕ) (p : P) (t : Template P) → build g d f p ≡ some t → AllOf (example t)
    unfolding build
    build_all zero p t e = absurd (false≢true (cc))
    build_all (suc f) p t e = head_all (build g d f) (build_all f) (d p) (g (d p)) t (heads (d p)) e

-- 2. Literals of the table.
module _ (T : Tables) where
  abbrev pub Stored : Literal → Type 0
  Stored l = node_like T l 1 (node_count T) ≡ none → l ≡ null

  like_here : (l : Literal) (o : Option Literal) → o ≡ some l → is_like T l o ≡ true
  like_here l o e = rw e (is_true (key_refl l))

  found_from : (l : Literal) (n k m : ℕ) → n ≤ m → m < n + k → literal_at T m ≡ some l → node_like T l n k ≡ none → ⊥
  unfolding node_like
  found_from l n zero m a b e q = no_room n m a b
    where
      no_room : (n m : ℕ) → n ≤ m → m < n + 0 → ⊥
      no_room n m a b = omega arith
  found_from l n (suc k) m a b e q = go (is_like T l (literal_at T n)) refl (eqb m n) refl (λ c d x. found_from l (n + 1) k m c d e x) q
    where
      go : (c : Bool) → is_like T l (literal_at T n) ≡ c → (d : Bool) → eqb m n ≡ d → (n + 1 ≤ m → m < n + 1 + k → node_like T l (n + 1) k ≡ none → ⊥) → cond c (some n) (node_like T l (n + 1) k) ≡ none → ⊥
      go true p d r f x = false≢true (cc)
      go false p true r f x = let y = eqb-true m n r in let z : is_like T l (literal_at T n) ≡ true = like_here l (literal_at T n) (rw y at e) in false≢true (sym p ∙ z)
      go false p false r f x = let y = eqb-false m n r in f (omega (arith, y)) (omega arith) x

  pub stored : (l : Literal) (m : ℕ) → Node T m → literal_at T m ≡ some l → Stored l
  stored l m v e q = let a = v.low in let b = v.high in absurd (found_from l 1 (node_count T) m a (omega arith) e q)

  -- the heads of the table's graph
  module _ (w : WellFormed T) where
    -- an object's keys
    written_stored : (held : ℕ → Option ℕ) (side : Bool) (from k : ℕ) → Children T w from (k * 2) → KeysAll Stored (written_of held side (fields (expr T) T.children from k))
    unfolding fields written_of
    written_stored held side from zero f = tt
    written_stored held side from (suc k) f =
        let z : from + 0 ≡ from = omega arith in
        let v : Node T (child_at T.children from) = rw z at (f 0 (omega arith)) in
        go (literal_key (expr T (child_at T.children from))) (λ l e. stored l (child_at T.children from) v (sym (key_literal T w (child_at T.children from) v) ∙ e)) (written_stored held side (from + 2) k (two_on T w from k f))
      where
        go : (κ : Option Literal) → ((l : Literal) → κ ≡ some l → Stored l) → KeysAll Stored (written_of held side (fields (expr T) T.children (from + 2) k))
            → KeysAll Stored (written_field held side κ (graph_place_of held side (expr T (child_at T.children (from + 1)))) (written_of held side (fields (expr T) T.children (from + 2) k)))
        go (some l) a b = (a l refl, b)
        go none a b = b

    keys_stored : (held : ℕ → Option ℕ) (side : Bool) (from k : ℕ) → Children T w from (k * 2) → KeysAll Stored (keyed_of held side (fields (expr T) T.children from k))
    keys_stored held side from k f = ordered_all held side (λ l p. Stored l) (fields (expr T) T.children from k) (written_stored held side from k f)

    head_stored : (held : ℕ → Option ℕ) (side : Bool) (n : ℕ) → Node T n → HeadAll Stored (head_of held side (expr T n))
    head_stored held side n v = go (shape T w n v) (key_literal T w n v)
      where
        go : {e : Expr} → Shape T w n e → literal_key e ≡ literal_at T n → HeadAll Stored (head_of held side e)
        go (of_literal l) q = stored l n v (sym q)
        go (of_name_lem x h) q = tt
        go of_wildcard q = tt
        go (of_array k) q = tt
        go (of_set es) q = tt
        go (of_object k) q = keys_stored held side (first_word_of T.nodes n) (count_of T.nodes n) (field_node T w n v k)
        go of_other q = tt

    node_stored : (held : ℕ → Option ℕ) (side : Bool) (n : ℕ) → HeadAll Stored (head_if held side (simple (tree_of T n)) (tree_of T n))
    node_stored held side n = go (simple (tree_of T n)) (each_tree T w (λ m e. HeadAll Stored (head_of held side e)) (head_stored held side) (λ m. tt) n)
      where
        go : (b : Bool) → HeadAll Stored (head_of held side (tree_of T n)) → HeadAll Stored (head_if held side b (tree_of T n))
        go true h = h
        go false h = tt

    pub graph_stored : (held₁ held₂ : ℕ → Option ℕ) (p : GraphPlace) → HeadAll Stored (graph (tree_of T) held₁ held₂ p)
    graph_stored held₁ held₂ (nodeᵖ s n) = node_stored (pick_held s held₁ held₂) s n
    graph_stored held₁ held₂ (nameᵖ s x) = tt

    -- so the example's literals are
    pub example_stored : (held₁ held₂ : ℕ → Option ℕ) (limit root₁ root₂ : ℕ) (t : Template GraphPlace) → overlap (tree_of T) held₁ held₂ limit root₁ root₂ ≡ some t → AllOf Stored (example t)
    example_stored held₁ held₂ limit root₁ root₂ t e =
        let b = classes_of_lem same_place (graph (tree_of T) held₁ held₂) (graph_places limit) (limit * 4) (graph_place_of held₁ true (tree_of T root₁)) (graph_place_of held₂ false (tree_of T root₂)) t e in
        build_all Stored (graph (tree_of T) held₁ held₂) b.0 (graph_stored held₁ held₂) (λ q. refl) (limit * 4) (graph_place_of held₁ true (tree_of T root₁)) t b.1
