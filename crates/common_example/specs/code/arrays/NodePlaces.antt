-- The place of a node's value on a side, as a number.
use Rattle.std.specs.Prelude.{ℕ, ◌+◌, ◌-◌, ◌*◌, ◌/◌, ◌≤◌, Bool, true, false, cond, List, ◌≡◌, eqb, ltb, length, get_or}
use Rattle.std.proofs.Math.Option.{Option, none, some}
use Rattle.base.specs.Lists.{tabulate}
use Rattle.table.specs.Tables.{Tables, kind_of, first_word_of, name_bytes}
use Rattle.table.specs.Names.{same_bytes, underscore_bytes}
use Rattle.table.specs.code.Sound.{Node, Named, WellFormed}
use Rattle.planner.specs.code.Post.{NameNumber}
use Rattle.common_example.specs.Operations.{PatternSide, held_by_side}

-- the first side is 0, the second 1
abbrev pub side_number : Bool → ℕ
side_number true = 0
side_number false = 1

-- an underscore has its own place, a known name its value's, another name the name's
abbrev pub name_place_by : Bool → ℕ → ℕ → ℕ → ℕ → ℕ
name_place_by underscore value x n side = cond underscore (n * 4 + side) (cond (eqb value 0) (x * 4 + 2 + side) (value * 4 + side))

abbrev pub name_place_in : List ℕ → List ℕ → List ℕ → ℕ → ℕ → ℕ → ℕ
name_place_in names text held x n side = name_place_by (same_bytes (name_bytes names text x) underscore_bytes) (get_or held (x - 1) 0) x n side

unfoldable pub node_place : List ℕ → List ℕ → List ℕ → List ℕ → ℕ → ℕ → ℕ
node_place nodes names text held n side = cond (eqb (kind_of nodes n) 6) (name_place_in names text held (first_word_of nodes n) n side) (n * 4 + side)

-- values' nodes by name number, 0 for none
pub record HeldOk (held : List ℕ) : Type 0 where
  pub few : (i : ℕ) → get_or held i 0 ≤ 512

pub record NamePlaceAsks (held : List ℕ) (x n side : ℕ) : Type 0 where
  pub name : NameNumber x
  pub node : n ≤ 512
  pub a_side : side ≤ 1
  pub held_ok : HeldOk held

pub record NodePlaceAsks (T : Tables) (held : List ℕ) (n side : ℕ) : Type 0 where
  pub table : WellFormed T
  pub node : Node T n
  pub a_side : side ≤ 1
  pub held_ok : HeldOk held

-- at place n - 1 that of node n, and 0 past the nodes
abbrev pub place_of_next : List ℕ → List ℕ → List ℕ → List ℕ → ℕ → ℕ → ℕ
place_of_next nodes names text held side i = cond (ltb i (length nodes / 5)) (node_place nodes names text held (i + 1) side) 0

unfoldable pub side_places : List ℕ → List ℕ → List ℕ → List ℕ → ℕ → List ℕ
side_places nodes names text held side = tabulate (place_of_next nodes names text held side) 0 512

pub record SidePlacesAsks (T : Tables) (held : List ℕ) (side : ℕ) : Type 0 where
  pub table : WellFormed T
  pub a_side : side ≤ 1
  pub held_ok : HeldOk held

abbrev pub held_node : ℕ → Option ℕ
held_node m = cond (eqb m 0) none (some m)

-- the list holds a side's known names
pub record HeldBy (T : Tables) (s : PatternSide) (held : List ℕ) : Type 0 where
  pub each : (x : ℕ) → Named T x → held_by_side T s x ≡ held_node (get_or held (x - 1) 0)
