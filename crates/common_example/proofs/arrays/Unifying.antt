-- The functions that make the graph and unify the roots, and what their arrays come to.
use Prim.Native.Nat.{ℕ, ◌-◌, ◌≤◌}
use mathlib.Core.Bool.{Bool, true, false, false≢true}
use mathlib.Core.List.{List}
use mathlib.Core.Option.{Option, none, some}
use mathlib.Core.Path.{◌≡◌, refl, ap, sym, ◌∙◌}
use native.Mathlib.Omega.{arith}
use borrow.Author.Tests.{eq-eqb, le-leb, leb-true}
use lib.Dec.{leb}
use lib.ListN.{get_or}
use Rattle.base.specs.Lists.{tabulate}
use Rattle.table.specs.Tables.{Tables, tables, kind_of, first_word_of, node_count}
use Rattle.table.specs.Decode.{literal_at}
use Rattle.table.specs.code.Sound.{Node, WellFormed}
use Rattle.value.specs.code.Post.{is_marked, node_marks}
use Rattle.value.specs.Value.{Value}
use Rattle.common_example.specs.Overlap.{Template}
use Rattle.common_example.specs.Places.{GraphPlace, place_number, overlap}
use Rattle.common_example.specs.Operations as Operations
use Rattle.common_example.specs.Operations.{PatternSide, tree_of, both, example_of}
use Rattle.common_example.specs.code.Graph.{head_at, Told, Linked}
use Rattle.common_example.specs.code.Classes.{classes_if}
use Rattle.common_example.specs.code.arrays.Likes.{likes}
use Rattle.common_example.specs.code.arrays.NodePlaces.{HeldOk, HeldBy, node_place, side_places}
use Rattle.common_example.specs.code.arrays.KeyOrder.{ChildrenOrdered}
use Rattle.common_example.specs.code.arrays.Arrays.{link_word, head_word_at, HeadsAsks}
use Rattle.common_example.specs.code.Roots.{UnifyAsks, Unified}
use Rattle.common_example.specs.code.arrays.Unifying.{GraphAsks, LinksMade, GraphMade, PatternsAsks, Unifies}
use Rattle.common_example.proofs.unify.Renamed.{rename_found, example_renamed}
use Rattle.common_example.proofs.arrays.Words.{marks_told, place_of}
use Rattle.common_example.proofs.arrays.Parts.{Prepared, likes_in, literal_in}
use Rattle.common_example.proofs.arrays.Sound.{arrays_linked, arrays_told}
use Rattle.common_example.proofs.arrays.Found.{built_of, roots_ask, found_is}

-- 1. what the functions ask
heads_ask_of : (T : Tables) (marks : List ℕ) → WellFormed T → marks ≡ node_marks T true → HeadsAsks T.nodes marks
heads_ask_of T marks w m = record { small = λ n marked low seven nine. go n marked low seven nine (leb n (node_count T)) refl }
  where
    go : (n : ℕ) → get_or marks (n - 1) 0 ≡ 1 → 1 ≤ n → 7 ≤ kind_of T.nodes n → kind_of T.nodes n ≤ 9 → (b : Bool) → leb n (node_count T) ≡ b → first_word_of T.nodes n ≤ 512
    go n marked low seven nine true e =
        let h = w.listed n (record { low = low; high = leb-true n (node_count T) e }) seven nine in
        let l = w.limits.children in
        omega (arith, h, l)
    go n marked low seven nine false e =
        let one = le-leb 1 n low in
        let is : is_marked (node_marks T true) n ≡ true = ap (λ (l : List ℕ). is_marked l n) (sym m) ∙ eq-eqb (get_or marks (n - 1) 0) 1 marked in
        let no : is_marked (node_marks T true) n ≡ false = marks_told T w (likes_in T) n low ∙ rw (one, e) in
        absurd (false≢true (sym no ∙ is))

pub heads_ask : {nodes children numbers names strings text held₁ held₂ marks : List ℕ} → GraphAsks (tables nodes children numbers names strings text) held₁ held₂
    → marks ≡ node_marks (tables nodes children numbers names strings text) true → HeadsAsks nodes marks
heads_ask {nodes} {children} {numbers} {names} {strings} {text} {marks = marks} a m = heads_ask_of (tables nodes children numbers names strings text) marks a.table m

-- 2. what they say
module _ {T : Tables} {held₁ held₂ : List ℕ} where
  pub links_made : {like ordered first second links : List ℕ} → ChildrenOrdered T ordered → first ≡ side_places T.nodes T.names T.text held₁ 0 → second ≡ side_places T.nodes T.names T.text held₂ 1
      → links ≡ tabulate (link_word ordered first second like) 0 2048 → LinksMade T held₁ held₂ like links
  links_made {like} {ordered} {first} {second} o f s e = record {
    ordered = ordered;
    in_order = o;
    words = e ∙ (ap (λ (l : List ℕ). tabulate (link_word ordered l second like) 0 2048) f ∙ ap (λ (l : List ℕ). tabulate (link_word ordered (side_places T.nodes T.names T.text held₁ 0) l like) 0 2048) s);
  }

  pub graph_made : {marks like heads links : List ℕ} → marks ≡ node_marks T true → like ≡ likes (literal_at T) (node_count T)
      → heads ≡ tabulate (head_word_at T.nodes marks like) 0 6156 → LinksMade T held₁ held₂ like links → GraphMade T held₁ held₂ heads links
  graph_made {marks} {like} {heads} {links} m l h k = record {
    head_words = h ∙ (ap (λ (x : List ℕ). tabulate (head_word_at T.nodes x like) 0 6156) m ∙ ap (λ (x : List ℕ). tabulate (head_word_at T.nodes (node_marks T true) x) 0 6156) l);
    made = rw l at k;
  }

-- 3. the roots
example_found : (o : Option (Template GraphPlace)) → example_of (rename_found place_number o) ≡ example_of o
example_found none = refl
example_found (some t) = ap (λ (v : Value). both v) (example_renamed place_number t)

abbrev pub by_side : {A : Type 0} → A → A → Bool → A
by_side a b true = a
by_side a b false = b

module _ {T : Tables} {held₁ held₂ : List ℕ} (asks : GraphAsks T held₁ held₂) (s₁ s₂ : PatternSide) (by₁ : HeldBy T s₁ held₁) (by₂ : HeldBy T s₂ held₂)
    {root₁ root₂ : ℕ} (v₁ : Node T root₁) (v₂ : Node T root₂) {heads links : List ℕ} (g : GraphMade T held₁ held₂ heads links) where
  pub prepared : Prepared T (by_side s₁ s₂) (by_side held₁ held₂) g.made.ordered
  prepared = record { table = asks.table; holds = λ b. holds b; few = λ b. few b; in_order = g.made.in_order }
    where
      holds : (b : Bool) → HeldBy T (by_side s₁ s₂ b) (by_side held₁ held₂ b)
      holds true = by₁
      holds false = by₂

      few : (b : Bool) → HeldOk (by_side held₁ held₂ b)
      few true = asks.first
      few false = asks.second

  nodes : (b : Bool) → Node T (by_side root₁ root₂ b)
  nodes true = v₁
  nodes false = v₂

  abbrev first : ℕ
  first = node_place T.nodes T.names T.text held₁ root₁ 0

  abbrev second : ℕ
  second = node_place T.nodes T.names T.text held₂ root₂ 1

  pub graph_asks : UnifyAsks heads links first second
  graph_asks =
      let h = g.head_words in
      let l = g.made.words in
      let a = place_of T asks.table held₁ 0 root₁ v₁ in
      let b = place_of T asks.table held₂ 1 root₂ v₂ in
      rw (h, l, ← a, ← b) (roots_ask T (by_side s₁ s₂) (by_side held₁ held₂) g.made.ordered prepared (by_side root₁ root₂) nodes)

  pub graph_linked : Linked heads links
  graph_linked = let h = g.head_words in let l = g.made.words in rw (h, l) (arrays_linked T (by_side s₁ s₂) (by_side held₁ held₂) g.made.ordered prepared)

  pub graph_told : Told (literal_in T) heads links
  graph_told = let h = g.head_words in let l = g.made.words in rw (h, l) (arrays_told T (by_side s₁ s₂) (by_side held₁ held₂) g.made.ordered prepared)

  -- the template of the two patterns, with numbers for its holes: what is built of the classes, or none
  pub graph_found : {classes : List ℕ} {r : Bool} → Unified heads links first second classes r
      → built_of (head_at (literal_in T) heads links) first (classes_if r classes) ≡ rename_found place_number (overlap (tree_of T) (Operations.held_by_side T s₁) (Operations.held_by_side T s₂) 512 root₁ root₂)
  graph_found u =
      let h = g.head_words in
      let l = g.made.words in
      let a = place_of T asks.table held₁ 0 root₁ v₁ in
      let b = place_of T asks.table held₂ 1 root₂ v₂ in
      rw (h, l, ← a) (found_is T (by_side s₁ s₂) (by_side held₁ held₂) g.made.ordered prepared (by_side root₁ root₂) nodes (rw (h, l, ← a, ← b) at u))

  -- so the outcome is its example
  pub graph_example : {classes : List ℕ} {r : Bool} → Unified heads links first second classes r
      → example_of (built_of (head_at (literal_in T) heads links) first (classes_if r classes)) ≡ example_of (overlap (tree_of T) (Operations.held_by_side T s₁) (Operations.held_by_side T s₂) 512 root₁ root₂)
  graph_example u = ap example_of (graph_found u) ∙ example_found (overlap (tree_of T) (Operations.held_by_side T s₁) (Operations.held_by_side T s₂) 512 root₁ root₂)

module _ {T : Tables} {held₁ held₂ : List ℕ} {root₁ root₂ : ℕ} (asks : PatternsAsks T held₁ held₂ root₁ root₂) {heads links : List ℕ} (g : GraphMade T held₁ held₂ heads links) {a b : ℕ}
    (x : a ≡ node_place T.nodes T.names T.text held₁ root₁ 0) (y : b ≡ node_place T.nodes T.names T.text held₂ root₂ 1) where
  pub patterns_roots : UnifyAsks heads links a b
  patterns_roots = rw (x, y) (graph_asks asks.asks asks.first_side_lem asks.second_side asks.first_held asks.second_held asks.first_root asks.second_root g)

  pub patterns_unified : {classes : List ℕ} {r : Bool} → Unified heads links a b classes r → Unifies T held₁ held₂ root₁ root₂ heads links classes r
  patterns_unified u = record { graph = g; roots = rw (x, y) at u }
