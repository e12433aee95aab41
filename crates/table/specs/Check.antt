-- The table check: its tests in document 01's order, and what its answer says. It comes first in every planning operation, run and report.
use Rattle.std.specs.Prelude.{ℕ, ◌≡◌, Bool, true, ◌&&◌, List, [], ◌∷◌}
use Rattle.base.specs.Refusal.{Refusal, over_limit, breaks_rules, too_deep, equal_names, root_outside, Tested, passed, refused, require, require_or, tested_or}
use Rattle.scope.specs.declared.Scope.{Scope}
use Rattle.table.specs.Tables.{Tables, is_node}
use Rattle.table.specs.Rules.{within_limits, follows_rules, shallow, names_differ}
use Rattle.std.specs.Prelude.{Result, Ok, Err}
use Rattle.table.specs.declared.TableRefusal.{TableRefusal}
use Rattle.table.specs.declared.TableRefusal.TheVariants.{OverLimit, BreaksRules, TooDeep, EqualNames}

unfoldable pub checked : Tables → Scope → Tested
checked T s =
    require (within_limits T) over_limit
    (require (follows_rules T s) breaks_rules
    (require (shallow T) too_deep
    (require (names_differ T) equal_names
    passed)))

-- what the code's answer says
abbrev pub table_refused : TableRefusal → Refusal
table_refused OverLimit = over_limit
table_refused BreaksRules = breaks_rules
table_refused TooDeep = too_deep
table_refused EqualNames = equal_names

abbrev pub tested_of : Result Unit TableRefusal → Tested
tested_of (Ok done) = passed
tested_of (Err r) = refused (table_refused r)

pub record TableAnswered (T : Tables) (s : Scope) (r : Result Unit TableRefusal) : Type 0 where
  pub answer : tested_of r ≡ checked T s

-- document 01's numbers settle the answer
pub record TableLaws : Type 0 where
  pub settled : (r q : Result Unit TableRefusal) → tested_of r ≡ tested_of q → r ≡ q

-- Is each root a node of the table?
abbrev pub all_nodes : Tables → List ℕ → Bool
all_nodes T [] = true
all_nodes T (root ∷ roots) = is_node T root && all_nodes T roots

-- every operation, run and report: the table check, then its roots, then the rest
abbrev pub checked_or : {O : Type 0} → (Refusal → O) → Tables → Scope → List ℕ → O → O
checked_or refuse T s roots rest = tested_or refuse (checked T s) (require_or refuse (all_nodes T roots) root_outside rest)
