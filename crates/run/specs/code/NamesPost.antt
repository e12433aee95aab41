-- What the functions on the values of names ask of their caller and say.
use Rattle.std.specs.Prelude.{ℕ, ◌-◌, ◌/◌, ◌≤◌, ◌<◌, ◌≡◌, Bool, true, cond, ◌||◌, not, List, eqb, length, get_or}
use Rattle.scope.specs.declared.Scope.{Scope}
use Rattle.scope.specs.declared.ScopingMode.{ScopingMode}
use Rattle.scope.specs.Scope.{is_unbound}
use Rattle.table.specs.Tables.{Tables}
use Rattle.base.specs.Refusal.{passed}
use Rattle.table.specs.Decode.{expr}
use Rattle.base.specs.Lists.{all_from}
use Rattle.table.specs.Check.{checked}
use Rattle.planner.specs.code.Post.{GoodRoot}
use Rattle.planner.specs.Simple.{simple}

-- as many names as a table has, and a list that is long enough
pub record ListAsks (names values : List ℕ) : Type 0 where
  pub few : length names / 2 ≤ 128
  pub long : length names / 2 ≤ length values

-- known names have their listed values, others none; `count` names
pub record StartOf (count : ℕ) (s : Scope) (mode : ScopingMode) (values list : List ℕ) : Type 0 where
  pub long : length list ≡ 128
  pub each : (x : ℕ) → 1 ≤ x → x ≤ count → get_or list (x - 1) 0 ≡ cond (is_unbound s mode x) 0 (get_or values (x - 1) 0)
  pub rest : (i : ℕ) → count ≤ i → get_or list i 0 ≡ 0

-- the names with a binder are set
pub record NamesSet (count : ℕ) (binders list before after : List ℕ) : Type 0 where
  pub long : length after ≡ length before
  pub each : (i : ℕ) → i < count → get_or after i 0 ≡ cond (eqb (get_or binders i 0) 0) (get_or before i 0) (get_or list i 0)
  pub rest : (i : ℕ) → count ≤ i → get_or after i 0 ≡ get_or before i 0

abbrev pub has_value : (ℕ → Bool) → ℕ → ℕ → ℕ → Bool
has_value unbound x met listed = eqb met 0 || (not (eqb listed 0) || unbound x)

unfoldable pub all_have_values : ℕ → (ℕ → Bool) → List ℕ → List ℕ → Bool
all_have_values count unbound met values = all_from (λ x. has_value unbound x (get_or met (x - 1) 0) (get_or values (x - 1) 0)) 1 count

pub record KnownAsks (T : Tables) (s : Scope) (pattern : ℕ) (values : List ℕ) : Type 0 where
  pub sound : checked T s ≡ passed
  pub good : GoodRoot T pattern
  pub is_simple : simple (expr T pattern) ≡ true
  pub list_ok : ListAsks T.names values
