-- The nodes of distinct literals in key order, among which an equal literal is looked for.
use Rattle.std.specs.Prelude.{ℕ, ◌-◌, ◌≤◌, ◌<◌, Result, List, ◌≡◌, get_or}
use Rattle.std.proofs.Math.Option.{Option, some}
use Rattle.literal.specs.Literal.{Literal}
use Rattle.literal.specs.Order.{compared}
use Rattle.literal.specs.declared.Comparison.TheVariants.{Less}
use Rattle.planner.specs.code.Ordering.{FoundBy}
use Rattle.common_example.specs.code.arrays.Likes.{like_from}

-- m of the first n nodes: each the lowest of its literal, and one for each literal that the n nodes have
pub record Distinct (literals : ℕ → Option Literal) (n : ℕ) (order : List ℕ) (m : ℕ) : Type 0 where
  pub few : m ≤ n
  pub ascending : (p q : ℕ) → p < q → q < m → compared (literals (get_or order p 0)) (literals (get_or order q 0)) ≡ Less
  pub node : (q : ℕ) → q < m → 1 ≤ get_or order q 0
  pub lowest : (q : ℕ) → q < m → like_from literals (literals (get_or order q 0)) 1 n ≡ get_or order q 0
  pub all : (l : Literal) → ((q : ℕ) → q < m → literals (get_or order q 0) ≡ some l → ⊥) → like_from literals (some l) 1 n ≡ 0

-- a literal's node, which is looked for
pub record FindAsks (literals : ℕ → Option Literal) (node : ℕ) (order : List ℕ) (m : ℕ) : Type 0 where
  pub before : ℕ
  pub distinct : Distinct literals before order m
  pub few : m ≤ 512
  pub own : Literal
  pub literal : literals node ≡ some own

-- either the place of an equal literal, or the one before which the node's own goes
abbrev pub LiteralFound : (ℕ → Option Literal) → ℕ → List ℕ → ℕ → Result ℕ ℕ → Type 0
LiteralFound literals node order m r = FoundBy literals (literals node) order m r

-- the nodes below `node` are in
pub record AddAsks (literals : ℕ → Option Literal) (node : ℕ) (order : List ℕ) (m : ℕ) : Type 0 where
  pub first : 1 ≤ node
  pub last : node ≤ 512
  pub distinct : Distinct literals (node - 1) order m

-- `node` is in, and `like` is the lowest of its literal up to itself
pub record NodeAdded (literals : ℕ → Option Literal) (node : ℕ) (order : List ℕ) (m like : ℕ) : Type 0 where
  pub distinct : Distinct literals node order m
  pub lowest : like ≡ like_from literals (literals node) 1 node
