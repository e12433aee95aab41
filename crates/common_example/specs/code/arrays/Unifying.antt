-- The graph of two patterns in its arrays, and the classes of the two roots.
use Rattle.std.specs.Prelude.{ℕ, Bool, true, List, ◌≡◌}
use Rattle.base.specs.Lists.{tabulate}
use Rattle.table.specs.Tables.{Tables, node_count}
use Rattle.table.specs.Decode.{literal_at}
use Rattle.table.specs.code.Sound.{Node, WellFormed}
use Rattle.value.specs.code.Post.{node_marks}
use Rattle.common_example.specs.Operations.{PatternSide}
use Rattle.common_example.specs.code.arrays.Likes.{likes}
use Rattle.common_example.specs.code.arrays.NodePlaces.{HeldOk, HeldBy, node_place, side_places}
use Rattle.common_example.specs.code.arrays.KeyOrder.{ChildrenOrdered}
use Rattle.common_example.specs.code.arrays.Arrays.{link_word, head_word_at}
use Rattle.common_example.specs.code.Roots.{Unified}

pub record GraphAsks (T : Tables) (held₁ held₂ : List ℕ) : Type 0 where
  pub table : WellFormed T
  pub first : HeldOk held₁
  pub second : HeldOk held₂

pub record LinksFrom (T : Tables) (held₁ held₂ marks : List ℕ) : Type 0 where
  pub asks : GraphAsks T held₁ held₂
  pub simples : marks ≡ node_marks T true

pub record LinksMade (T : Tables) (held₁ held₂ like links : List ℕ) : Type 0 where
  pub ordered : List ℕ
  pub in_order : ChildrenOrdered T ordered
  pub words : links ≡ tabulate (link_word ordered (side_places T.nodes T.names T.text held₁ 0) (side_places T.nodes T.names T.text held₂ 1) like) 0 2048

pub record GraphMade (T : Tables) (held₁ held₂ heads links : List ℕ) : Type 0 where
  pub head_words : heads ≡ tabulate (head_word_at T.nodes (node_marks T true) (likes (literal_at T) (node_count T))) 0 6156
  pub made : LinksMade T held₁ held₂ (likes (literal_at T) (node_count T)) links

-- the lists hold the known names of some sides
pub record PatternsAsks (T : Tables) (held₁ held₂ : List ℕ) (root₁ root₂ : ℕ) : Type 0 where
  pub asks : GraphAsks T held₁ held₂
  pub first_side_lem : PatternSide
  pub second_side : PatternSide
  pub first_held : HeldBy T first_side_lem held₁
  pub second_held : HeldBy T second_side held₂
  pub first_root : Node T root₁
  pub second_root : Node T root₂

pub record Unifies (T : Tables) (held₁ held₂ : List ℕ) (root₁ root₂ : ℕ) (heads links classes : List ℕ) (r : Bool) : Type 0 where
  pub graph : GraphMade T held₁ held₂ heads links
  pub roots : Unified heads links (node_place T.nodes T.names T.text held₁ root₁ 0) (node_place T.nodes T.names T.text held₂ root₂ 1) classes r
