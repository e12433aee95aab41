-- The classes of the two roots come to the template of the two patterns.
use Prim.Native.Nat.{ℕ}
use mathlib.Core.Bool.{Bool, true, false}
use mathlib.Core.List.{List}
use mathlib.Core.Option.{Option, none, some}
use mathlib.Core.Path.{◌≡◌, refl, ap, sym, ◌∙◌, fun_ext}
use borrow.Author.Tests.{le-leb}
use lib.Dec.{eqb}
use Rattle.table.specs.Tables.{Tables, node_count}
use Rattle.table.specs.Decode.{expr}
use Rattle.table.specs.Expr.{Expr}
use Rattle.table.specs.code.Sound.{Node}
use Rattle.common_example.specs.Overlap.{Template}
use Rattle.common_example.specs.Unify.{Head, Closing, closed, conflict, unfinished, join_pair, close, build, unified_by, unified}
use Rattle.common_example.specs.Places.{place_number, graph_place_of, overlap}
use Rattle.common_example.specs.Operations as Operations
use Rattle.common_example.specs.Operations.{PatternSide, tree_of}
use Rattle.common_example.specs.code.Graph.{head_at}
use Rattle.common_example.specs.code.Classes.{classes_if, classes_of, falling}
use Rattle.common_example.specs.code.arrays.NodePlaces.{side_number}
use Rattle.common_example.specs.code.arrays.Arrays.{of_node}
use Rattle.common_example.specs.code.Roots.{UnifyAsks, Unified}
use Rattle.common_example.proofs.unify.Renamed.{rename_found}
use Rattle.common_example.proofs.unify.Numbered.{number_graph, overlap_numbered}
use Rattle.common_example.proofs.loops.graph.PlaceLaws.{node-place}
use Rattle.common_example.proofs.arrays.Words.{heads_of, place_of}
use Rattle.common_example.proofs.arrays.Parts.{Prepared, places_in, likes_in, links_in, literal_in}
use Rattle.common_example.proofs.arrays.Heads.{arrays_graph}
use Rattle.common_example.proofs.arrays.Sound.{arrays_linked, arrays_told, sides_most}

-- what is built of classes, where there are any
abbrev pub built_of : (ℕ → Head ℕ) → ℕ → Option (ℕ → ℕ) → Option (Template ℕ)
built_of g a none = none
built_of g a (some c) = build g c 2048 a

closing_built : (g : ℕ → Head ℕ) (a : ℕ) (c : Closing ℕ) → unified_by eqb g 2048 a c ≡ built_of g a (classes_of c)
closing_built g a (closed c) = refl
closing_built g a conflict = refl
closing_built g a unfinished = refl

unified_built : (g : ℕ → Head ℕ) (a b : ℕ) → unified eqb g (falling 2048) 2048 a b ≡ built_of g a (classes_of (close eqb g (falling 2048) 2049 (join_pair eqb g a b (λ p. p))))
unfolding unified
unified_built g a b = closing_built g a (close eqb g (falling 2048) 2049 (join_pair eqb g a b (λ p. p)))

module _ (T : Tables) (side : Bool → PatternSide) (held : Bool → List ℕ) (ordered : List ℕ) (p : Prepared T side held ordered) (root : Bool → ℕ) (v : (b : Bool) → Node T (root b)) where
  abbrev heads : List ℕ
  heads = heads_of T p.table (likes_in T)

  abbrev links : List ℕ
  links = links_in T held ordered

  abbrev root_place : Bool → ℕ
  root_place b = of_node (places_in T held b) (root b)

  root_tree : (b : Bool) → tree_of T (root b) ≡ expr T (root b)
  root_tree b =
      let q = le-leb 1 (root b) (v b).low in
      let r = le-leb (root b) (node_count T) (v b).high in
      rw (q, r)

  root_place_lem : (b : Bool) → root_place b ≡ place_number (graph_place_of (Operations.held_by_side T (side b)) b (tree_of T (root b)))
  root_place_lem b =
      place_of T p.table (held b) (side_number b) (root b) (v b)
      ∙ (node-place T p.table (side b) b (held b) (p.holds b) (root b) (v b)
      ∙ ap (λ (e : Expr). place_number (graph_place_of (Operations.held_by_side T (side b)) b e)) (sym (root_tree b)))

  pub roots_ask : UnifyAsks heads links (root_place true) (root_place false)
  roots_ask = record {
    linked = arrays_linked T side held ordered p;
    first = sides_most T p.table (held true) (p.few true) true (root true);
    second = sides_most T p.table (held false) (p.few false) false (root false);
  }

  -- the template, with numbers for its holes
  pub found_is : {classes : List ℕ} {r : Bool} → Unified heads links (root_place true) (root_place false) classes r
      → built_of (head_at (literal_in T) heads links) (root_place true) (classes_if r classes)
      ≡ rename_found place_number (overlap (tree_of T) (Operations.held_by_side T (side true)) (Operations.held_by_side T (side false)) 512 (root true) (root false))
  found_is {classes} {r} u =
      ap (built_of g (root_place true)) (u.classes (literal_in T) (arrays_told T side held ordered p))
      ∙ (sym (unified_built g (root_place true) (root_place false))
      ∙ (ap (λ (h : ℕ → Head ℕ). unified eqb h (falling 2048) 2048 (root_place true) (root_place false)) (fun_ext (arrays_graph T side held ordered p))
      ∙ (ap (λ (a : ℕ). unified eqb n (falling 2048) 2048 a (root_place false)) (root_place_lem true)
      ∙ (ap (λ (b : ℕ). unified eqb n (falling 2048) 2048 (place_number (graph_place_of (Operations.held_by_side T (side true)) true (tree_of T (root true)))) b) (root_place_lem false)
      ∙ overlap_numbered (tree_of T) (Operations.held_by_side T (side true)) (Operations.held_by_side T (side false)) 512 (root true) (root false)))))
    where
      g : ℕ → Head ℕ
      g = head_at (literal_in T) (heads_of T p.table (likes_in T)) (links_in T held ordered)

      n : ℕ → Head ℕ
      n = number_graph (tree_of T) (Operations.held_by_side T (side true)) (Operations.held_by_side T (side false))
