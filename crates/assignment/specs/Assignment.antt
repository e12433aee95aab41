-- `:=` and `=` (assignment.rs, create_assignment_binding_plan).
use Rattle.std.specs.Prelude.{ℕ, Bool, true, false, cond, not, ◌&&◌, List, [], ◌∷◌, eqb}
use Rattle.scope.specs.declared.Scope.{Scope}
use Rattle.scope.specs.declared.ScopingMode.TheVariants.{RespectParent, AllowShadowing}
use Rattle.scope.specs.Scope.{is_name, is_unbound, same_scope}
use Rattle.table.specs.Tables.{Tables, first_word_of}
use Rattle.table.specs.Expr.{Expr, literal, name, wildcard, array, set, object, other}
use Rattle.table.specs.Decode.{expr}
use Rattle.base.specs.Refusal.{colon_equals_requires_bindable_left, incompatible_destructuring_patterns}
use Rattle.assignment.specs.declared.AssignOp.{AssignOp}
use Rattle.assignment.specs.declared.AssignOp.TheVariants.{ColEq, Eq}
use Rattle.planner.specs.Layout.{Entry, top, entries, binds_any}
use Rattle.planner.specs.Operations.{Outcome, planned, require, checked_first, plan_of, unless_defined}
use Rattle.checks.specs.declared.Reading.{Reading}
use Rattle.checks.specs.Structure.{structure}
use Rattle.checks.specs.Refusals.{unless_mismatch}
use Rattle.assignment.specs.Pairs.{Shape, items, fields, single, shape_of, flatten, flat_outcome}

-- an array against an object
abbrev pub opposed : Shape → Shape → Bool
opposed (items n es) (items m fs) = false
opposed (items n es) (fields m fs) = true
opposed (items n es) single = false
opposed (fields n es) (items m fs) = true
opposed (fields n es) (fields m fs) = false
opposed (fields n es) single = false
opposed single s = false

-- the binding side held against the value side: shapes, then structure, then the plan
abbrev pub bind_side : Tables → ℕ → ℕ → ℕ → Reading → List Entry → Outcome
bind_side T form binding value reading es =
    require (not (opposed (shape_of (expr T binding)) (shape_of (expr T value)))) (incompatible_destructuring_patterns binding)
    (unless_mismatch (structure reading (expr T value) (expr T binding)) (planned form 0 es))

-- the first bind entry whose name is bound in this very scope, or 0
abbrev pub binds_again : List ℕ → Scope → ℕ → ℕ → Bool
binds_again nodes s kind node = eqb kind 1 && (is_name (first_word_of nodes node) && same_scope s (first_word_of nodes node))

unfoldable pub first_same_scope : List ℕ → Scope → List Entry → ℕ
first_same_scope nodes s [] = 0
first_same_scope nodes s (e ∷ es) = cond (binds_again nodes s e.kind e.node) e.node (first_same_scope nodes s es)

-- `:=`, from the entries of the left side's plan
abbrev pub colon_equals_from : Tables → Scope → ℕ → ℕ → Reading → List Entry → Outcome
colon_equals_from T s left right reading es =
    require (binds_any es) (colon_equals_requires_bindable_left left)
    (unless_defined (first_same_scope T.nodes s es) (bind_side T 1 left right reading es))

abbrev pub colon_equals_planned : Tables → Scope → ℕ → ℕ → Reading → Outcome
colon_equals_planned T s left right reading = colon_equals_from T s left right reading (entries (plan_of T s AllowShadowing left) top)

-- `=`
abbrev pub is_wildcard_expr : Expr → Bool
is_wildcard_expr (literal n l) = false
is_wildcard_expr (name n x) = false
is_wildcard_expr (wildcard n) = true
is_wildcard_expr (array n es) = false
is_wildcard_expr (set n es) = false
is_wildcard_expr (object n fs) = false
is_wildcard_expr (other n) = false

-- 1 left, 2 right, 3 both, 0 neither
abbrev pub wildcard_side : Bool → Bool → ℕ
wildcard_side false false = 0
wildcard_side true false = 1
wildcard_side false true = 2
wildcard_side true true = 3

abbrev pub pairs_outcome : Tables → Scope → ℕ → ℕ → Outcome
pairs_outcome T s left right = flat_outcome (flatten (is_unbound s RespectParent) (expr T right) (expr T left) [])

-- by the sides that bind, with the entries of their plans; pairs have no reading
abbrev pub by_sides : Bool → Bool → Tables → Scope → ℕ → ℕ → Reading → List Entry → List Entry → Outcome
by_sides true true T s left right reading ls rs = pairs_outcome T s left right
by_sides false false T s left right reading ls rs = planned 5 0 []
by_sides true false T s left right reading ls rs = bind_side T 2 left right reading ls
by_sides false true T s left right reading ls rs = bind_side T 3 right left reading rs

abbrev pub equals_from : Tables → Scope → ℕ → ℕ → Reading → List Entry → List Entry → Outcome
equals_from T s left right reading ls rs = by_sides (binds_any ls) (binds_any rs) T s left right reading ls rs

-- one side's plan never sees the other's names
abbrev pub equals_sides : Tables → Scope → ℕ → ℕ → Reading → Outcome
equals_sides T s left right reading = equals_from T s left right reading (entries (plan_of T s RespectParent left) top) (entries (plan_of T s RespectParent right) top)

abbrev pub side_of : Tables → ℕ → ℕ → ℕ
side_of T left right = wildcard_side (is_wildcard_expr (expr T left)) (is_wildcard_expr (expr T right))

abbrev pub equals_planned : Tables → Scope → ℕ → ℕ → Reading → Outcome
equals_planned T s left right reading = cond (eqb (side_of T left right) 0) (equals_sides T s left right reading) (planned 6 (side_of T left right) [])

abbrev pub by_operator : AssignOp → Tables → Scope → ℕ → ℕ → Reading → Outcome
by_operator ColEq T s left right reading = colon_equals_planned T s left right reading
by_operator Eq T s left right reading = equals_planned T s left right reading

abbrev pub assignment_outcome : Tables → Scope → AssignOp → ℕ → ℕ → Reading → Outcome
assignment_outcome T s op left right reading = checked_first T s (left ∷ (right ∷ [])) (by_operator op T s left right reading)
