-- A place's value: its parts in a loop, then its own node.
use Prim.Native.Nat.{ℕ, zero, suc, ◌+◌, ◌-◌, ◌*◌, ◌^◌, ◌≤◌, ◌<◌}
use mathlib.Core.Bool.{Bool, true, false, cond}
use mathlib.Core.List.{List, [], ◌∷◌, ◌++◌}
use mathlib.Core.Path.{◌≡◌, refl, ap, sym, ◌∙◌}
use native.Mathlib.Omega.{arith}
use borrow.Author.Tests.{eq-eqb, ne_eqb, le-leb, lt-leb}
use mir.Syntax.{w32}
use mir.Val.{Fits}
use lib.Dec.{eqb}
use lib.ListN.{length, get_or}
use lib.Seq.{sets, length-sets}
use Rattle.planner.specs.Layout.{entry, below}
use Rattle.planner.specs.Entries.{Wrote}
use Rattle.common_example.specs.declared.graph.Shape.{Shape}
use Rattle.common_example.specs.declared.graph.Shape.TheVariants.{Items, Fields}
use Rattle.common_example.specs.declared.graph.Parts.{Parts}
use Rattle.common_example.specs.code.Graph.{kind_at, start_at, shape_kind, step_by, step_of, ShapeAsks, PartsOf, PartsAre}
use Rattle.common_example.specs.code.Classes.{class_in, ClassAsks, ClassIs}
use Rattle.common_example.specs.code.Writing.{node_entry, literal_entry, key_count, key_words, leaf_node, parent_kind, size_from, part_sizes, part_entries, part_numbers, part_nodes, part_children, parent_nodes, head_nodes, parent_children, head_children, place_nodes, place_children, PartsFit, HeadFit, Fit, LiteralAsks, KeyAsks, KeyWritten, NumberAsks, ParentAsks, ParentWritten, PlaceAsks, PlaceWritten, PartsAsks, PartsWritten}
use Rattle.std.specs.Prelude.{Option}
use Rattle.std.proofs.Common.{Some, None}
use Rattle.common_example.proofs.loops.graph.PartsTold.{shape_deep, no_parts, some_parts}
use Rattle.common_example.proofs.loops.writing.WriteWords.{sets_on, node_put, key_words_lem, part_here, parts_rest, fit_one, fit_nodes, fit_children, parts_nodes, parts_children, parts_entries}
use Rattle.common_example.proofs.loops.writing.WriteLoops.{scaled, sizes_step}

-- 1. an array or an object
module _ {shape : Shape} where
  pub array_own : shape ≡ Items → 7 ≡ parent_kind (shape_kind shape)
  array_own e = sym (ap (λ (s : Shape). parent_kind (shape_kind s)) e)

  pub object_own : shape ≡ Fields → 9 ≡ parent_kind (shape_kind shape)
  object_own e = sym (ap (λ (s : Shape). parent_kind (shape_kind s)) e)

module _ (heads : List ℕ) (q : ℕ) {kind : ℕ} (k : kind ≡ kind_at heads q) where
  pub leaf_literal : kind ≡ 1 → {start : ℕ} → start ≡ start_at heads q → start ≡ leaf_node heads q
  leaf_literal e {start} s = let w : eqb (kind_at heads q) 1 ≡ true = rw (← k) (eq-eqb kind 1 e) in rw w s

  pub leaf_free : (kind ≡ 1 → ⊥) → 0 ≡ leaf_node heads q
  leaf_free n = let w : eqb (kind_at heads q) 1 ≡ false = rw (← k) (ne_eqb kind 1 n) in rw w

-- 2. a parent's node
step_most : (kind : ℕ) → step_by kind ≤ 8
step_most kind = go (eqb kind 2)
  where
    go : (b : Bool) → cond b 4 8 ≤ 8
    go true = omega arith
    go false = omega arith

module _ {links sizes : List ℕ} {kind link k before entries first node end : ℕ} {out kids : List ℕ} (asks : ParentAsks links sizes kind link k before entries first node end out kids) where
  pub parent_first : Fits w32 (before + first)
  parent_first = let a = asks.few in let b = asks.before_nodes in let c = asks.counted in record { fits = omega (arith, a, b, c) }

  pub parent_end : Fits w32 (entries + end)
  parent_end = let a = asks.last in let b = asks.before_entries in record { fits = omega (arith, a, b) }

  pub parent_numbers : {step : ℕ} → step ≡ step_by kind → NumberAsks links sizes step link k (before + first) end kids
  parent_numbers {step} s =
      let a = asks.counted in
      let b = asks.few in
      let c = asks.before_nodes in
      let d = asks.last in
      rw s (record { places = asks.places; inside = asks.inside; high = step_most kind; few = omega (arith, a, b, c); room = asks.out_children; low = omega (arith, d) })

  pub parent_written : {step own r : ℕ} {out' kids' : List ℕ} → step ≡ step_by kind → own ≡ parent_kind kind → kids' ≡ sets kids end (part_numbers links sizes step link k (before + first)) → Wrote out node (entry own 0 0 (below (entries + end) k) ∷ []) out' r
      → ParentWritten links sizes kind link k before entries first node end out kids out' kids'
  parent_written {step} {own} {r} {out'} {kids'} s o e w = record {
    node_is = node_put w asks.out_nodes ∙ ap (λ (x : ℕ). sets out (node * 5) (node_entry x (entries + end) k)) o;
    children_are = e ∙ ap (λ (x : ℕ). sets kids end (part_numbers links sizes x link k (before + first))) s;
  }

-- 3. the parts
pub record Writing (nodes heads links classes sizes : List ℕ) (step link count rest before entries at entry : ℕ) (out₀ kids₀ : List ℕ) (from left to end : ℕ) (out kids : List ℕ) : Type 0 where
  pub asks : PartsAsks heads links classes sizes step from left rest before entries to end out kids
  pub nodes_same : sets out (to * 5) (part_nodes links sizes step nodes (place_nodes nodes heads links classes sizes rest) from left (entries + end))
      ≡ sets out₀ (at * 5) (part_nodes links sizes step nodes (place_nodes nodes heads links classes sizes rest) link count (entries + entry))
  pub kids_same : sets kids end (part_children links sizes step (place_children heads links classes sizes rest) from left (before + to))
      ≡ sets kids₀ entry (part_children links sizes step (place_children heads links classes sizes rest) link count (before + at))
  pub ends_same : end + part_entries links sizes step from left ≡ entry + part_entries links sizes step link count
  pub out_long : length out ≡ length out₀
  pub kids_long : length kids ≡ length kids₀

pub writing_start : (nodes : List ℕ) {heads links classes sizes : List ℕ} {step link count rest before entries at entry : ℕ} {out kids : List ℕ} → PartsAsks heads links classes sizes step link count rest before entries at entry out kids
    → Writing nodes heads links classes sizes step link count rest before entries at entry out kids link count at entry out kids
writing_start nodes asks = record { asks = asks; nodes_same = refl; kids_same = refl; ends_same = refl; out_long = refl; kids_long = refl }

module _ (links sizes : List ℕ) (step from left : ℕ) (more : 0 < left) where
  nodes_step : (nodes : List ℕ) (each : ℕ → ℕ → List ℕ) (e : ℕ) → part_nodes links sizes step nodes each from left e
      ≡ key_words nodes links step from ++ (each (get_or links from 0) e ++ part_nodes links sizes step nodes each (from + step) (left - 1) (e + (size_from links sizes step from - 1)))
  unfolding part_nodes
  nodes_step nodes each e = let a : left ≡ suc (left - 1) = omega arith in ap (λ (k : ℕ). part_nodes links sizes step nodes each from k e) a

  children_step : (each : ℕ → ℕ → List ℕ) (b : ℕ) → part_children links sizes step each from left b
      ≡ each (get_or links from 0) (b + key_count step) ++ part_children links sizes step each (from + step) (left - 1) (b + key_count step + size_from links sizes step from)
  unfolding part_children
  children_step each b = let a : left ≡ suc (left - 1) = omega arith in ap (λ (k : ℕ). part_children links sizes step each from k b) a

  entries_step : part_entries links sizes step from left ≡ (size_from links sizes step from - 1) + part_entries links sizes step (from + step) (left - 1)
  unfolding part_entries
  entries_step = let a : left ≡ suc (left - 1) = omega arith in ap (λ (k : ℕ). part_entries links sizes step from k) a

module _ {nodes heads links classes sizes : List ℕ} {step link count rest before entries at entry : ℕ} {out₀ kids₀ : List ℕ} {from left to end : ℕ} {out kids : List ℕ}
    (go : Writing nodes heads links classes sizes step link count rest before entries at entry out₀ kids₀ from left to end out kids) where
  module _ (more : 0 < left) where
    pub writing_link : from < 2048
    writing_link = let h = go.asks.fit.inside in let e = scaled left step more in omega (arith, h, e)

    pub writing_next : {apart : ℕ} → apart ≡ step → from + apart < 2 ^ 64
    writing_next e = let h = writing_link in let s = go.asks.fit.high in omega (arith, h, s, e)

    pub writing_part : get_or links from 0 < 2052
    writing_part = go.asks.arrays.linked.places from

    here_fit : Fit heads links classes sizes rest (get_or links from 0)
    here_fit = part_here go.asks.fit more

    here_one : 1 ≤ get_or sizes (get_or links from 0) 0
    here_one = fit_one nodes heads links classes sizes rest (get_or links from 0) here_fit

    pub writing_one : {size : ℕ} → size ≡ get_or sizes (get_or links from 0) 0 → 1 ≤ size
    writing_one e = let h = here_one in omega (arith, e, h)

    pub writing_key : KeyAsks step from to out
    writing_key =
        let a = go.asks.space.nodes in
        let b = go.asks.space.out_nodes in
        record { low = go.asks.fit.keys; inside = writing_link; room = omega (arith, b); few = omega (arith, a) }

    module _ {mid : List ℕ} {value : ℕ} (key : KeyWritten nodes links step from to out mid value) where
      mid_long : length mid ≡ length out
      mid_long = let e = key.words in ap (λ (l : List ℕ). length l) e ∙ length-sets out (to * 5) (key_words nodes links step from)

      pub writing_place : PlaceAsks heads links classes sizes (get_or links from 0) rest before entries value end mid kids
      writing_place =
          let a = go.asks.space.nodes in
          let b = go.asks.space.children in
          let c = go.asks.space.out_nodes in
          let d = go.asks.space.out_children in
          let e = sizes_step links sizes step from left more in
          let v = key.next in
          let l = mid_long in
          record {
            arrays = go.asks.arrays;
            inside = writing_part;
            fit = here_fit;
            space = record {
              nodes = omega (arith, a, e, v);
              children = omega (arith, b, e);
              before_nodes = go.asks.space.before_nodes;
              before_entries = go.asks.space.before_entries;
              out_nodes = rw l (omega (arith, c, e, v));
              out_children = omega (arith, d, e);
            };
          }

      module _ {size : ℕ} (z : size ≡ get_or sizes (get_or links from 0) 0) where
        pub writing_to : Fits w32 (value + size)
        writing_to = let a = go.asks.space.nodes in let e = sizes_step links sizes step from left more in let v = key.next in record { fits = omega (arith, a, e, v, z) }

        pub writing_end : Fits w32 (end + (size - 1))
        writing_end = let b = go.asks.space.children in let e = sizes_step links sizes step from left more in record { fits = omega (arith, b, e, z) }

        pub writing_on : {out' kids' : List ℕ} {apart : ℕ} → apart ≡ step → PlaceWritten nodes heads links classes sizes (get_or links from 0) rest before entries value end mid kids out' kids'
            → Writing nodes heads links classes sizes step link count rest before entries at entry out₀ kids₀ (from + apart) (left - 1) (value + size) (end + (size - 1)) out' kids'
        writing_on {out'} {kids'} {apart} i w =
            let a = go.asks.space.nodes in
            let b = go.asks.space.children in
            let c = go.asks.space.out_nodes in
            let d = go.asks.space.out_children in
            let e = sizes_step links sizes step from left more in
            let v = key.next in
            let f = entries_step links sizes step from left more in
            let g = go.ends_same in
            let one = here_one in
            let ln = out_now in
            let lk = kids_now in
            let ol : length out' ≡ length out = ln ∙ mid_long in
            rw i (record {
              asks = record {
                arrays = go.asks.arrays;
                fit = parts_rest go.asks.fit more;
                space = record {
                  nodes = omega (arith, a, e, v, z);
                  children = omega (arith, b, e, z, one);
                  before_nodes = go.asks.space.before_nodes;
                  before_entries = go.asks.space.before_entries;
                  out_nodes = rw ol (omega (arith, c, e, v, z));
                  out_children = rw lk (omega (arith, d, e, z, one));
                };
              };
              nodes_same = nodes_on ∙ go.nodes_same;
              kids_same = kids_on ∙ go.kids_same;
              ends_same = omega (arith, f, g, z);
              out_long = ol ∙ go.out_long;
              kids_long = lk ∙ go.kids_long;
            })
          where
            out_now : length out' ≡ length mid
            out_now = let q = w.nodes_are in ap (λ (l : List ℕ). length l) q ∙ length-sets mid (value * 5) (place_nodes nodes heads links classes sizes rest (get_or links from 0) (entries + end))

            kids_now : length kids' ≡ length kids
            kids_now = let q = w.children_are in ap (λ (l : List ℕ). length l) q ∙ length-sets kids end (place_children heads links classes sizes rest (get_or links from 0) (before + value))

            later : ℕ → List ℕ
            later x = part_nodes links sizes step nodes (place_nodes nodes heads links classes sizes rest) (from + step) (left - 1) x

            nodes_on : sets out' ((value + size) * 5) (part_nodes links sizes step nodes (place_nodes nodes heads links classes sizes rest) (from + step) (left - 1) (entries + (end + (size - 1))))
                ≡ sets out (to * 5) (part_nodes links sizes step nodes (place_nodes nodes heads links classes sizes rest) from left (entries + end))
            nodes_on =
                let same : entries + (end + (size - 1)) ≡ entries + end + (size_from links sizes step from - 1) = omega (arith, z) in
                let five = fit_nodes nodes heads links classes sizes rest (get_or links from 0) (entries + end) here_fit in
                let klen = key_words_lem nodes links step from in
                let v = key.next in
                ap (λ (x : ℕ). sets out' ((value + size) * 5) (part_nodes links sizes step nodes (place_nodes nodes heads links classes sizes rest) (from + step) (left - 1) x)) same
                ∙ (ap (λ (l : List ℕ). sets l ((value + size) * 5) (part_nodes links sizes step nodes (place_nodes nodes heads links classes sizes rest) (from + step) (left - 1) (entries + end + (size_from links sizes step from - 1)))) w.nodes_are
                ∙ (sets_on mid (value * 5) ((value + size) * 5) (place_nodes nodes heads links classes sizes rest (get_or links from 0) (entries + end)) (part_nodes links sizes step nodes (place_nodes nodes heads links classes sizes rest) (from + step) (left - 1) (entries + end + (size_from links sizes step from - 1))) (omega (arith, five, z))
                ∙ (ap (λ (l : List ℕ). sets l (value * 5) (place_nodes nodes heads links classes sizes rest (get_or links from 0) (entries + end) ++ part_nodes links sizes step nodes (place_nodes nodes heads links classes sizes rest) (from + step) (left - 1) (entries + end + (size_from links sizes step from - 1)))) key.words
                ∙ (sets_on out (to * 5) (value * 5) (key_words nodes links step from) (place_nodes nodes heads links classes sizes rest (get_or links from 0) (entries + end) ++ part_nodes links sizes step nodes (place_nodes nodes heads links classes sizes rest) (from + step) (left - 1) (entries + end + (size_from links sizes step from - 1))) (omega (arith, v, klen))
                ∙ ap (sets out (to * 5)) (sym (nodes_step links sizes step from left more nodes (place_nodes nodes heads links classes sizes rest) (entries + end)))))))

            kids_on : sets kids' (end + (size - 1)) (part_children links sizes step (place_children heads links classes sizes rest) (from + step) (left - 1) (before + (value + size)))
                ≡ sets kids end (part_children links sizes step (place_children heads links classes sizes rest) from left (before + to))
            kids_on =
                let v = key.next in
                let here : before + value ≡ before + to + key_count step = omega (arith, v) in
                let same : before + (value + size) ≡ before + to + key_count step + size_from links sizes step from = omega (arith, v, z) in
                let less = fit_children nodes heads links classes sizes rest (get_or links from 0) (before + to + key_count step) here_fit in
                ap (λ (x : ℕ). sets kids' (end + (size - 1)) (part_children links sizes step (place_children heads links classes sizes rest) (from + step) (left - 1) x)) same
                ∙ (ap (λ (l : List ℕ). sets l (end + (size - 1)) (part_children links sizes step (place_children heads links classes sizes rest) (from + step) (left - 1) (before + to + key_count step + size_from links sizes step from)))
                (w.children_are ∙ ap (λ (x : ℕ). sets kids end (place_children heads links classes sizes rest (get_or links from 0) x)) here)
                ∙ (sets_on kids end (end + (size - 1)) (place_children heads links classes sizes rest (get_or links from 0) (before + to + key_count step)) (part_children links sizes step (place_children heads links classes sizes rest) (from + step) (left - 1) (before + to + key_count step + size_from links sizes step from)) (omega (arith, less, z))
                ∙ ap (sets kids end) (sym (children_step links sizes step from left more (place_children heads links classes sizes rest) (before + to)))))

  pub writing_ends : left ≤ 0 → PartsWritten nodes heads links classes sizes step link count rest before entries at entry out₀ kids₀ out kids end
  unfolding part_nodes part_children part_entries
  writing_ends done =
      let z : left ≡ 0 = omega arith in
      let e : end + 0 ≡ entry + part_entries links sizes step link count = rw z at go.ends_same in
      record { nodes_are = rw z at go.nodes_same; children_are = rw z at go.kids_same; ends = omega (arith, e) }

pub place_falls : {t : ℕ} (rest : ℕ) → 2 * rest + 1 ≡ t → 2 * rest < t
place_falls rest e = omega arith

pub parts_fall : {t rest : ℕ} → 1 ≤ rest → 2 * rest ≡ t → 2 * (rest - 1) + 1 < t
parts_fall h e = omega arith

-- 4. the place
module _ (heads links classes sizes : List ℕ) where
  fit_levels : (r p : ℕ) → Fit heads links classes sizes r p → 1 ≤ r
  unfolding Fit
  fit_levels zero p f = absurd f
  fit_levels (suc r) p f = omega arith

  fit_head : (r p : ℕ) → Fit heads links classes sizes r p → HeadFit (Fit heads links classes sizes (r - 1)) heads links sizes (get_or sizes p 0) (class_in classes p)
  unfolding Fit
  fit_head zero p f = absurd f
  fit_head (suc r) p f = let z : suc r - 1 ≡ r = omega arith in rw z f

  nodes_head : (nodes : List ℕ) (r p e : ℕ) → 1 ≤ r → place_nodes nodes heads links classes sizes r p e ≡ head_nodes nodes heads links sizes (place_nodes nodes heads links classes sizes (r - 1)) (class_in classes p) e
  unfolding place_nodes
  nodes_head nodes r p e h = let a : r ≡ suc (r - 1) = omega arith in ap (λ (k : ℕ). place_nodes nodes heads links classes sizes k p e) a

  children_head : (r p b : ℕ) → 1 ≤ r → place_children heads links classes sizes r p b ≡ head_children heads links sizes (place_children heads links classes sizes (r - 1)) (class_in classes p) b
  unfolding place_children
  children_head r p b h = let a : r ≡ suc (r - 1) = omega arith in ap (λ (k : ℕ). place_children heads links classes sizes k p b) a

module _ {heads links classes sizes : List ℕ} {p r before entries at entry : ℕ} {out kids : List ℕ} (asks : PlaceAsks heads links classes sizes p r before entries at entry out kids) where
  pub place_class : ClassAsks classes p
  place_class = record { ok = asks.arrays.ok; inside = asks.inside }

  pub place_asks : {q : ℕ} → ClassIs classes p q → ShapeAsks heads links q
  place_asks is = record { linked = asks.arrays.linked; inside = is.inside }

  pub place_level : 1 ≤ r
  place_level = fit_levels heads links classes sizes r p asks.fit

  pub place_inside : p < 2052
  place_inside = asks.inside

  pub place_leaf_asks : LiteralAsks at out
  place_leaf_asks =
      let a = asks.space.nodes in
      let b = asks.space.out_nodes in
      let one = fit_one [] heads links classes sizes r p asks.fit in
      record { room = omega (arith, b, one); few = omega (arith, a, one) }

  module _ {q : ℕ} (is : ClassIs classes p q) where
    class_fit : HeadFit (Fit heads links classes sizes (r - 1)) heads links sizes (get_or sizes p 0) q
    class_fit = let c = is.class in rw c (fit_head heads links classes sizes r p asks.fit)

    nodes_class : (nodes : List ℕ) (e : ℕ) → place_nodes nodes heads links classes sizes r p e ≡ head_nodes nodes heads links sizes (place_nodes nodes heads links classes sizes (r - 1)) q e
    nodes_class nodes e = let c = is.class in nodes_head heads links classes sizes nodes r p e place_level ∙ ap (λ (x : ℕ). head_nodes nodes heads links sizes (place_nodes nodes heads links classes sizes (r - 1)) x e) (sym c)

    children_class : (b : ℕ) → place_children heads links classes sizes r p b ≡ head_children heads links sizes (place_children heads links classes sizes (r - 1)) q b
    children_class b = let c = is.class in children_head heads links classes sizes r p b place_level ∙ ap (λ (x : ℕ). head_children heads links sizes (place_children heads links classes sizes (r - 1)) x b) (sym c)

    pub place_leaf : (nodes : List ℕ) {r₁ : Option Parts} → PartsAre heads q r₁ → r₁ ≡ None → {leaf : ℕ} → leaf ≡ leaf_node heads q → {out' : List ℕ} → out' ≡ sets out (at * 5) (literal_entry nodes leaf)
        → PlaceWritten nodes heads links classes sizes p r before entries at entry out kids out' kids
    place_leaf nodes told n {leaf} l {out'} w =
        let b = le-leb (kind_at heads q) 1 (no_parts heads q told n) in
        let x : head_nodes nodes heads links sizes (place_nodes nodes heads links classes sizes (r - 1)) q (entries + entry) ≡ literal_entry nodes (leaf_node heads q) = rw b in
        let y : head_children heads links sizes (place_children heads links classes sizes (r - 1)) q (before + at) ≡ [] = rw b in
        record {
          nodes_are = w ∙ ap (sets out (at * 5)) (ap (literal_entry nodes) l ∙ sym (nodes_class nodes (entries + entry) ∙ x));
          children_are = ap (sets kids entry) (sym (children_class (before + at) ∙ y));
        }

    module _ {r₁ : Option Parts} (told : PartsAre heads q r₁) {parts : Parts} (is_some : r₁ ≡ Some parts) where
      of : PartsOf heads q parts
      of = some_parts heads q told is_some

      deep_kind : 1 < kind_at heads q
      deep_kind = let k = of.kind in let d = shape_deep parts.shape in omega (arith, k, d)

      kind_is : shape_kind parts.shape ≡ kind_at heads q
      kind_is = sym of.kind

      parts_fit : PartsFit (Fit heads links classes sizes (r - 1)) links (step_of parts.shape) parts.link parts.count
      parts_fit = let l = of.link in let c = of.count in let k = kind_is in rw (l, c, k) (class_fit.parts deep_kind)

      parts_size : get_or sizes p 0 ≡ 1 + part_sizes links sizes (step_of parts.shape) parts.link parts.count
      parts_size = let l = of.link in let c = of.count in let k = kind_is in rw (l, c, k) (class_fit.parent deep_kind)

      nodes_parent : (nodes : List ℕ) (e : ℕ) → place_nodes nodes heads links classes sizes r p e ≡ parent_nodes nodes heads links sizes (place_nodes nodes heads links classes sizes (r - 1)) (shape_kind parts.shape) parts.link parts.count e
      nodes_parent nodes e =
          let b = lt-leb (kind_at heads q) 1 deep_kind in
          let l = of.link in
          let c = of.count in
          let k = kind_is in
          let x : head_nodes nodes heads links sizes (place_nodes nodes heads links classes sizes (r - 1)) q e ≡ parent_nodes nodes heads links sizes (place_nodes nodes heads links classes sizes (r - 1)) (shape_kind parts.shape) parts.link parts.count e = rw (b, l, c, k) in
          nodes_class nodes e ∙ x

      children_parent : (b : ℕ) → place_children heads links classes sizes r p b ≡ parent_children heads links sizes (place_children heads links classes sizes (r - 1)) (shape_kind parts.shape) parts.link parts.count b
      children_parent e =
          let b = lt-leb (kind_at heads q) 1 deep_kind in
          let l = of.link in
          let c = of.count in
          let k = kind_is in
          let x : head_children heads links sizes (place_children heads links classes sizes (r - 1)) q e ≡ parent_children heads links sizes (place_children heads links classes sizes (r - 1)) (shape_kind parts.shape) parts.link parts.count e = rw (b, l, c, k) in
          children_class e ∙ x

      pub place_parts : PartsAsks heads links classes sizes (step_of parts.shape) parts.link parts.count (r - 1) before entries at entry out kids
      place_parts =
          let e = parts_size in
          record {
            arrays = asks.arrays;
            fit = parts_fit;
            space = rw (← e) asks.space;
          }

      module _ {nodes out₁ kids₁ : List ℕ} {end : ℕ} (w : PartsWritten nodes heads links classes sizes (step_of parts.shape) parts.link parts.count (r - 1) before entries at entry out kids out₁ kids₁ end) {size : ℕ} (n : size ≡ get_or sizes p 0) where
        pub place_node_fits : Fits w32 (at + size)
        place_node_fits = let a = asks.space.nodes in record { fits = omega (arith, a, n) }

        pub place_node_low : 1 ≤ at + size
        place_node_low = let e = parts_size in omega (arith, e, n)

        end_is : end ≡ entry + part_entries links sizes (step_of parts.shape) parts.link parts.count
        end_is = w.ends

        all_entries_lem : part_entries links sizes (step_of parts.shape) parts.link parts.count + parts.count * (1 + key_count (step_of parts.shape)) ≡ part_sizes links sizes (step_of parts.shape) parts.link parts.count
        all_entries_lem = parts_entries nodes heads links classes sizes (Fit heads links classes sizes (r - 1)) (fit_one nodes heads links classes sizes (r - 1)) (step_of parts.shape) parts.link parts.count parts_fit

        pub place_parent : ParentAsks links sizes (shape_kind parts.shape) parts.link parts.count before entries at (at + size - 1) end out₁ kids₁
        place_parent =
            let e = parts_size in
            let g = end_is in
            let h = all_entries_lem in
            let a = asks.space.nodes in
            let b = asks.space.children in
            let c' = asks.space.out_nodes in
            let d = asks.space.out_children in
            let o : length out₁ ≡ length out = let u = w.nodes_are in ap (λ (x : List ℕ). length x) u ∙ length-sets out (at * 5) (part_nodes links sizes (step_of parts.shape) nodes (place_nodes nodes heads links classes sizes (r - 1)) parts.link parts.count (entries + entry)) in
            let m : length kids₁ ≡ length kids = let u = w.children_are in ap (λ (x : List ℕ). length x) u ∙ length-sets kids entry (part_children links sizes (step_of parts.shape) (place_children heads links classes sizes (r - 1)) parts.link parts.count (before + at)) in
            record {
              places = asks.arrays.linked.places;
              inside = parts_fit.inside;
              counted = omega (arith, e, n);
              few = omega (arith, a, e, n);
              before_nodes = asks.space.before_nodes;
              before_entries = asks.space.before_entries;
              last = omega (arith, b, e, g, h);
              out_nodes = rw o (omega (arith, c', e, n));
              out_children = rw m (omega (arith, d, e, g, h));
            }

        pub place_done : {out₂ kids₂ : List ℕ} → ParentWritten links sizes (shape_kind parts.shape) parts.link parts.count before entries at (at + size - 1) end out₁ kids₁ out₂ kids₂ → PlaceWritten nodes heads links classes sizes p r before entries at entry out kids out₂ kids₂
        place_done {out₂} {kids₂} u =
            let e = parts_size in
            let g = end_is in
            let five = parts_nodes nodes heads links classes sizes (Fit heads links classes sizes (r - 1)) (place_nodes nodes heads links classes sizes (r - 1)) (λ x y f. (fit_one nodes heads links classes sizes (r - 1) x f, fit_nodes nodes heads links classes sizes (r - 1) x y f)) (step_of parts.shape) parts.link parts.count (entries + entry) parts_fit in
            let own = parts_children nodes heads links classes sizes (Fit heads links classes sizes (r - 1)) (place_children heads links classes sizes (r - 1)) (fit_children nodes heads links classes sizes (r - 1)) (step_of parts.shape) parts.link parts.count (before + at) parts_fit in
            let place : entries + end ≡ entries + entry + part_entries links sizes (step_of parts.shape) parts.link parts.count = omega (arith, g) in
            record {
              nodes_are = u.node_is
                  ∙ (ap (λ (x : ℕ). sets out₁ ((at + size - 1) * 5) (node_entry (parent_kind (shape_kind parts.shape)) x parts.count)) place
                  ∙ (ap (λ (x : List ℕ). sets x ((at + size - 1) * 5) (node_entry (parent_kind (shape_kind parts.shape)) (entries + entry + part_entries links sizes (step_of parts.shape) parts.link parts.count) parts.count))
                  w.nodes_are
                  ∙ (sets_on out (at * 5) ((at + size - 1) * 5) (part_nodes links sizes (step_of parts.shape) nodes (place_nodes nodes heads links classes sizes (r - 1)) parts.link parts.count (entries + entry)) (node_entry (parent_kind (shape_kind parts.shape)) (entries + entry + part_entries links sizes (step_of parts.shape) parts.link parts.count) parts.count) (omega (arith, five, e, n))
                  ∙ ap (sets out (at * 5)) (sym (nodes_parent nodes (entries + entry))))));
              children_are = u.children_are
                  ∙ (ap (λ (x : List ℕ). sets x end (part_numbers links sizes (step_of parts.shape) parts.link parts.count (before + at)))
                  w.children_are
                  ∙ (sets_on kids entry end (part_children links sizes (step_of parts.shape) (place_children heads links classes sizes (r - 1)) parts.link parts.count (before + at)) (part_numbers links sizes (step_of parts.shape) parts.link parts.count (before + at)) (omega (arith, g, own))
                  ∙ ap (sets kids entry) (sym (children_parent (before + at)))));
            }
