-- What the code's search for a reserved name makes, and what its functions ask.
use Rattle.planner.specs.Names.{states_of}
use Rattle.std.specs.Prelude.{ℕ, ◌+◌, ◌≡◌, true, cond, List, [], ◌∷◌, eqb, get_or}
use Rattle.base.specs.Lists.{tabulate}
use Rattle.scope.specs.declared.Scope.{Scope}
use Rattle.scope.specs.declared.ScopingMode.{ScopingMode}
use Rattle.table.specs.declared.NameClass.{NameClass}
use Rattle.table.specs.declared.NameClass.TheVariants.{Underscore, InputOrData, Ordinary}
use Rattle.table.specs.Tables.{Tables, name_bytes}
use Rattle.table.specs.Names.{class_of}
use Rattle.table.specs.Check.{all_nodes, checked_or}
use Rattle.table.specs.code.Sound.{WellFormed}
use Rattle.operation.specs.declared.Operation.{Operation}
use Rattle.operation.specs.declared.patterns.Patterns.{Patterns}
use Rattle.operation.specs.Version.{PatternRoot, pattern_root, roots_of, first_reserved}

-- a state, 0 for a name that is not reserved
abbrev pub reserved_state : NameClass → ℕ → ℕ
reserved_state Underscore state = state
reserved_state InputOrData state = state
reserved_state Ordinary state = 0

-- by the states of all names, from name 1 on
abbrev pub reserved_state_at : List ℕ → List ℕ → List ℕ → ℕ → ℕ
reserved_state_at names text states k = reserved_state (class_of (name_bytes names text (k + 1))) (get_or states k 0)

abbrev pub reserved_states : List ℕ → List ℕ → Scope → ScopingMode → List ℕ
reserved_states names text s scoping = tabulate (reserved_state_at names text (states_of names text s scoping)) 0 128

-- one or two patterns, of one scoping
abbrev pub listed : Patterns → List PatternRoot
listed p = pattern_root p.scoping p.first ∷ cond p.two (pattern_root p.scoping p.second ∷ []) []

-- a good table that has the roots
pub record ReservedAsks (T : Tables) (operation : Operation) : Type 0 where
  pub table : WellFormed T
  pub roots : all_nodes T (roots_of operation) ≡ true

-- the name that refuses, or 0
abbrev pub refusing_name : Tables → Scope → ℕ → Operation → ℕ
refusing_name T s version operation = cond (eqb version 1) (checked_or (λ r. 0) T s (roots_of operation) (first_reserved T s operation)) 0
