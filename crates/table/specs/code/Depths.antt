-- Depths from the nodes and the child entries alone, as the check finds them.
use Rattle.std.specs.Prelude.{ℕ, zero, suc, ◌+◌, ◌-◌, ◌/◌, ◌^◌, ◌≤◌, ◌<◌, max, ◌≡◌, Bool, List, leb, length, get_or}
use Rattle.table.specs.Tables.{first_word_of, width, child_at}
use Rattle.base.specs.Lists.{all_from}

-- the greatest depth of k children from a place on
unfoldable pub deepest : (ℕ → ℕ) → List ℕ → ℕ → ℕ → ℕ
deepest depth children at zero = 0
deepest depth children at (suc k) = max (depth (child_at children at)) (deepest depth children (at + 1) k)

-- a node's depth, in a list of depths
abbrev pub listed_depth : List ℕ → ℕ → ℕ
listed_depth depths n = get_or depths (n - 1) 0

-- `deepest_of`: each child entry is a node's number
pub record ChildrenAsks (children : List ℕ) (first count : ℕ) : Type 0 where
  pub room : first + count < 2 ^ 64
  pub nodes : (i : ℕ) → i < count → (1 ≤ child_at children (first + i)) × (child_at children (first + i) ≤ 512)

-- `depths_ok`: few nodes, and a child is a node of a lower number
pub record DepthsAsks (nodes children : List ℕ) : Type 0 where
  pub few : length nodes / 5 ≤ 512
  pub below : (n : ℕ) → 1 ≤ n → n ≤ length nodes / 5 → (i : ℕ) → i < width nodes n
      → (1 ≤ child_at children (first_word_of nodes n + i)) × (child_at children (first_word_of nodes n + i) < n)

-- numbers that are the nodes' depths: one more than the greatest of the children's
pub record Depths (nodes children : List ℕ) (depth : ℕ → ℕ) : Type 0 where
  pub step : (n : ℕ) → 1 ≤ n → n ≤ length nodes / 5 → depth n ≡ 1 + deepest depth children (first_word_of nodes n) (width nodes n)

abbrev pub shallow_at : (ℕ → ℕ) → ℕ → Bool
shallow_at depth j = leb (depth (j + 1)) 32

-- its answer for the first `total` nodes, whatever gives the depths
pub record DepthsTold (nodes children : List ℕ) (total : ℕ) (r : Bool) : Type 0 where
  pub told : (depth : ℕ → ℕ) → Depths nodes children depth → r ≡ all_from (shallow_at depth) 0 total
