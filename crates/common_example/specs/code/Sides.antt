-- What the checks of a side ask of their caller and say.
use Rattle.std.specs.Prelude.{ℕ, ◌≤◌, List, [], ◌∷◌, ◌≡◌, leb, length, Result}
use Rattle.base.specs.Refusal.{Tested, passed, require, root_outside, list_too_short, pattern_not_simple, not_a_value, name_without_value}
use Rattle.scope.specs.declared.Scope.{Scope}
use Rattle.scope.specs.declared.ScopingMode.{ScopingMode}
use Rattle.scope.specs.Scope.{known}
use Rattle.table.specs.Tables.{Tables, name_count}
use Rattle.table.specs.Decode.{expr}
use Rattle.table.specs.Check.{checked, all_nodes}
use Rattle.table.specs.code.Sound.{Node}
use Rattle.planner.specs.Simple.{simple}
use Rattle.run.specs.Operations.{values_listed, known_listed}
use Rattle.common_example.specs.declared.sides.SideRefusal.{SideRefusal}
use Rattle.common_example.specs.Answer.{side_tested}
use Rattle.common_example.specs.Operations.{PatternSide, side_checked}

-- 22 and 23; 21 before them; 5 and 20 before that
unfoldable pub values_tested : Tables → Scope → ScopingMode → ℕ → List ℕ → Tested
values_tested T s mode pattern values =
    require (values_listed T values) not_a_value
    (require (known_listed T (known s mode) (expr T pattern) values) name_without_value
    passed)

unfoldable pub inside_tested : Tables → Scope → ScopingMode → ℕ → List ℕ → Tested
inside_tested T s mode pattern values = require (simple (expr T pattern)) pattern_not_simple (values_tested T s mode pattern values)

unfoldable pub root_tested : Tables → Scope → ScopingMode → ℕ → List ℕ → Tested
root_tested T s mode pattern values =
    require (all_nodes T (pattern ∷ [])) root_outside (require (leb (name_count T) (length values)) list_too_short (inside_tested T s mode pattern values))

pub record ValuesAnswered (T : Tables) (s : Scope) (mode : ScopingMode) (pattern : ℕ) (values : List ℕ) (r : Result Unit SideRefusal) : Type 0 where
  pub answer : side_tested r ≡ values_tested T s mode pattern values

pub record InsideAsks (T : Tables) (s : Scope) (pattern : ℕ) (values : List ℕ) : Type 0 where
  pub sound : checked T s ≡ passed
  pub root : Node T pattern
  pub long : name_count T ≤ length values

pub record InsideAnswered (T : Tables) (s : Scope) (mode : ScopingMode) (pattern : ℕ) (values : List ℕ) (r : Result Unit SideRefusal) : Type 0 where
  pub answer : side_tested r ≡ inside_tested T s mode pattern values

pub record RootAsks (T : Tables) (s : Scope) : Type 0 where
  pub sound : checked T s ≡ passed

pub record RootAnswered (T : Tables) (s : Scope) (mode : ScopingMode) (pattern : ℕ) (values : List ℕ) (r : Result Unit SideRefusal) : Type 0 where
  pub answer : side_tested r ≡ root_tested T s mode pattern values

pub record SideAnswered (T : Tables) (s : PatternSide) (r : Result Unit SideRefusal) : Type 0 where
  pub answer : side_tested r ≡ side_checked T s
