-- What the parts of the common example ask and say.
use Rattle.std.specs.Prelude.{ℕ, ◌<◌, List, ◌≡◌, Option, Result}
use Rattle.base.specs.Lent.{Slices, MutSlices, old, new}
use Rattle.base.specs.Refusal.{passed, tested_or}
use Rattle.base.specs.Refusal as Refusal
use Rattle.scope.specs.declared.Scope.{Scope}
use Rattle.literal.specs.Literal.{Literal}
use Rattle.table.specs.Tables.{Tables}
use Rattle.table.specs.Check.{checked}
use Rattle.table.specs.code.Sound.{Node, WellFormed}
use Rattle.common_example.specs.declared.example.Example.{Example}
use Rattle.common_example.specs.declared.example.ExampleRefusal.{ExampleRefusal}
use Rattle.common_example.specs.declared.graph.Joined.{Joined}
use Rattle.common_example.specs.declared.sides.ScopedPattern.{ScopedPattern}
use Rattle.common_example.specs.Places.{overlap}
use Rattle.common_example.specs.Operations.{PatternSide, held_by_side, side_checked, tree_of, example_of, example_from}
use Rattle.common_example.specs.Common.{Gives, pattern_side, example_tested}
use Rattle.common_example.specs.code.Graph.{Linked}
use Rattle.common_example.specs.code.Classes.{ClassesOk}
use Rattle.common_example.specs.code.arrays.NodePlaces.{HeldOk, HeldBy, node_place}
use Rattle.common_example.specs.code.Writing.{Copied}
use Rattle.common_example.specs.code.Deciding.{built_of}
use Rattle.common_example.specs.code.arrays.Unifying.{PatternsAsks}

pub record SidesChecked (T : Tables) (s₁ s₂ : PatternSide) (r : Result Unit ExampleRefusal) : Type 0 where
  pub answer : example_tested r ≡ tested_or Refusal.refused (side_checked T s₁) (side_checked T s₂)

abbrev pub SidesCheckedIn : Tables → ScopedPattern → Slices → ScopedPattern → Slices → Result Unit ExampleRefusal → Type 0
SidesCheckedIn T p values₁ q values₂ r = SidesChecked T (pattern_side p values₁.entry.now) (pattern_side q values₂.entry.now) r

pub record PassedAsks (T : Tables) (s₁ s₂ : PatternSide) : Type 0 where
  pub first : side_checked T s₁ ≡ passed
  pub second : side_checked T s₂ ≡ passed

abbrev pub PassedIn : Tables → ScopedPattern → Slices → ScopedPattern → Slices → MutSlices → MutSlices → Result (Option Example) ExampleRefusal → Type 0
PassedIn T p values₁ q values₂ nodes children r =
    Gives T (example_from T (pattern_side p values₁.entry.now) (pattern_side q values₂.entry.now)) (old nodes) (old children) (new nodes) (new children) r

pub record GiveAsks (T : Tables) (held₁ held₂ : List ℕ) (root₁ root₂ : ℕ) : Type 0 where
  pub scope : Scope
  pub sound : checked T scope ≡ passed
  pub asks : PatternsAsks T held₁ held₂ root₁ root₂

-- of any two sides whose known names the lists hold
pub record GivesHeld (T : Tables) (held₁ held₂ : List ℕ) (root₁ root₂ : ℕ) (nodes children nodes' children' : List ℕ) (r : Result (Option Example) ExampleRefusal) : Type 0 where
  pub is : (s₁ s₂ : PatternSide) → HeldBy T s₁ held₁ → HeldBy T s₂ held₂
      → Gives T (example_of (overlap (tree_of T) (held_by_side T s₁) (held_by_side T s₂) 512 root₁ root₂)) nodes children nodes' children' r

abbrev pub GivenIn : Tables → Slices → Slices → ℕ → ℕ → MutSlices → MutSlices → Result (Option Example) ExampleRefusal → Type 0
GivenIn T held₁ held₂ root₁ root₂ nodes children r = GivesHeld T held₁.entry.now held₂.entry.now root₁ root₂ (old nodes) (old children) (new nodes) (new children) r

pub record WriteAsks (T : Tables) (held : List ℕ) (root : ℕ) (heads links classes : List ℕ) : Type 0 where
  pub table : WellFormed T
  pub held_ok : HeldOk held
  pub node : Node T root
  pub linked : Linked heads links
  pub ok : ClassesOk classes
  pub inside : node_place T.nodes T.names T.text held root 0 < 2052
  pub literal_of : ℕ → Literal
  pub copied : Copied T literal_of heads links

pub record WritesJoined (T : Tables) (held : List ℕ) (root : ℕ) (heads links classes nodes children nodes' children' : List ℕ) (r : Result (Option Example) ExampleRefusal) : Type 0 where
  pub is : (literal_of : ℕ → Literal) → Copied T literal_of heads links
      → Gives T (example_of (built_of literal_of heads links classes 2048 (node_place T.nodes T.names T.text held root 0))) nodes children nodes' children' r

abbrev pub WrittenIn : Tables → List ℕ → ℕ → Joined → MutSlices → MutSlices → Result (Option Example) ExampleRefusal → Type 0
WrittenIn T held root joined nodes children r = WritesJoined T held root joined.graph.heads joined.graph.links joined.classes (old nodes) (old children) (new nodes) (new children) r
