-- What the checks of a run ask of their caller, and what they say of listed nodes by the marks.
use Rattle.std.specs.Prelude.{ℕ, ◌/◌, ◌≤◌, Bool, ◌&&◌, ◌||◌, List, [], eqb, length}
use Rattle.base.specs.Lists.{all_from}
use Rattle.table.specs.Tables.{Tables, tables, name_count, is_node}
use Rattle.planner.specs.code.Post.{GoodRoot}
use Rattle.value.specs.code.Post.{is_marked}
use Rattle.run.specs.Operations.{listed_node}

abbrev pub marked_node : List ℕ → List ℕ → ℕ → Bool
marked_node nodes marks n = is_node (tables nodes [] [] [] [] []) n && is_marked marks n

abbrev pub marked_if_listed : List ℕ → List ℕ → ℕ → Bool
marked_if_listed nodes marks n = eqb n 0 || marked_node nodes marks n

unfoldable pub all_marked : List ℕ → List ℕ → List ℕ → List ℕ → Bool
all_marked nodes names marks values = all_from (λ x. marked_if_listed nodes marks (listed_node values x)) 1 (length names / 2)

pub record ValuesAsks (nodes names values : List ℕ) : Type 0 where
  pub few : length nodes / 5 ≤ 512
  pub long : length names / 2 ≤ length values

pub record AllAsks (T : Tables) (value : ℕ) (values : List ℕ) : Type 0 where
  pub good : GoodRoot T value
  pub long : name_count T ≤ length values
