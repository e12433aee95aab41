-- Planning for a version of Rego (request 3 of document 02). Version 1 reserves `input` and `data`; any other number is version 0.
use Rattle.std.specs.Prelude.{ℕ, ◌≡◌, true, false, cond, ◌&&◌, List, [], ◌∷◌, eqb}
use Rattle.base.specs.Refusal as Refusal
use Rattle.base.specs.Refusal.{Refusal, passed, root_outside, reserved_name}
use Rattle.scope.specs.declared.Scope.{Scope}
use Rattle.scope.specs.declared.ScopingMode.{ScopingMode}
use Rattle.scope.specs.declared.ScopingMode.TheVariants.{RespectParent, AllowShadowing}
use Rattle.scope.specs.Scope.{is_unbound}
use Rattle.table.specs.Tables.{Tables}
use Rattle.table.specs.Decode.{expr}
use Rattle.table.specs.Check.{checked, all_nodes}
use Rattle.planner.specs.Names.{occurrences, first_node}
use Rattle.planner.specs.Operations.{Outcome, refused, require, checked_first, reserved}
use Rattle.some_in.specs.SomeIn.{roots}
use Rattle.operation.specs.declared.Operation.{Operation}
use Rattle.operation.specs.declared.Operation.TheVariants.{Pattern, ColonEquals, Equals, SomeIn, Index, Parameter}
use Rattle.operation.specs.Operation.{operation_outcome}

-- a pattern's root, and the scoping that it is planned with
pub record PatternRoot : Type 0 where
  pub scoping : ScopingMode
  pub root : ℕ

abbrev pub pattern_root : ScopingMode → ℕ → PatternRoot
pattern_root scoping root = record { scoping = scoping; root = root }

-- some-in's key, if there is one, before its value
abbrev pub some_in_patterns : ℕ → ℕ → List PatternRoot
some_in_patterns value key = cond (eqb key 0) (pattern_root RespectParent value ∷ []) (pattern_root RespectParent key ∷ (pattern_root RespectParent value ∷ []))

-- The patterns of an operation: both sides of `=`, left first.
unfoldable pub patterns_of : Operation → List PatternRoot
patterns_of (Pattern scoping root) = pattern_root scoping root ∷ []
patterns_of (ColonEquals left right reading) = pattern_root AllowShadowing left ∷ []
patterns_of (Equals left right reading) = pattern_root RespectParent left ∷ (pattern_root RespectParent right ∷ [])
patterns_of (SomeIn value collection key reading) = some_in_patterns value key
patterns_of (Index root) = pattern_root RespectParent root ∷ []
patterns_of (Parameter scoping root) = pattern_root scoping root ∷ []

-- the roots that have to be nodes (5)
unfoldable pub roots_of : Operation → List ℕ
roots_of (Pattern scoping root) = root ∷ []
roots_of (ColonEquals left right reading) = left ∷ (right ∷ [])
roots_of (Equals left right reading) = left ∷ (right ∷ [])
roots_of (SomeIn value collection key reading) = roots value collection key
roots_of (Index root) = root ∷ []
roots_of (Parameter scoping root) = root ∷ []

-- The node of the first reserved name that a pattern would plan, from no names, or 0: as written, through arrays and the values of objects, those of
-- fields that an equal key replaces too; not inside sets, keys or other expressions.
unfoldable pub reserved_in : Tables → Scope → ScopingMode → ℕ → ℕ
reserved_in T s scoping root = first_node (λ x. reserved T x && is_unbound s scoping x) (occurrences false false (expr T root))

-- that of the first pattern that has one, or 0
unfoldable pub reserved_among : Tables → Scope → List PatternRoot → ℕ
reserved_among T s [] = 0
reserved_among T s (p ∷ ps) = cond (eqb (reserved_in T s p.scoping p.root) 0) (reserved_among T s ps) (reserved_in T s p.scoping p.root)

abbrev pub first_reserved : Tables → Scope → Operation → ℕ
first_reserved T s operation = reserved_among T s (patterns_of operation)

-- a reserved name refuses: after the table check and the roots, before all else
abbrev pub unless_reserved : ℕ → Outcome → Outcome
unless_reserved node o = require (eqb node 0) (reserved_name node) o

abbrev pub version1_outcome : Tables → Scope → Operation → Outcome
version1_outcome T s operation = checked_first T s (roots_of operation) (unless_reserved (first_reserved T s operation) (operation_outcome T s operation))

abbrev pub version_outcome : Tables → Scope → ℕ → Operation → Outcome
version_outcome T s version operation = cond (eqb version 1) (version1_outcome T s operation) (operation_outcome T s operation)

-- What a version changes, over all operations.
pub record VersionLaws : Type 0 where
  -- any version but 1: nothing
  pub others : (T : Tables) (s : Scope) (version : ℕ) (operation : Operation) → (version ≡ 1 → ⊥) → version_outcome T s version operation ≡ operation_outcome T s operation
  -- version 1, no reserved name to plan: nothing
  pub free : (T : Tables) (s : Scope) (operation : Operation) → first_reserved T s operation ≡ 0 → version_outcome T s 1 operation ≡ operation_outcome T s operation
  -- one to plan, and table check and roots pass: 31 at the first
  pub reserves : (T : Tables) (s : Scope) (operation : Operation) {node : ℕ} → checked T s ≡ passed → all_nodes T (roots_of operation) ≡ true
      → first_reserved T s operation ≡ node → (node ≡ 0 → ⊥) → version_outcome T s 1 operation ≡ refused (reserved_name node)
  -- the table check or the roots refuse: version 0's refusal
  pub table_first_lem : (T : Tables) (s : Scope) (operation : Operation) {r : Refusal} → checked T s ≡ Refusal.refused r
      → (version_outcome T s 1 operation ≡ refused r) × (operation_outcome T s operation ≡ refused r)
  pub roots_first : (T : Tables) (s : Scope) (operation : Operation) → checked T s ≡ passed → all_nodes T (roots_of operation) ≡ false
      → (version_outcome T s 1 operation ≡ refused root_outside) × (operation_outcome T s operation ≡ refused root_outside)
