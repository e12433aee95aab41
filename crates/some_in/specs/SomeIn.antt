-- `some key, value in collection` (some_in.rs).
use Rattle.std.specs.Prelude.{ℕ, Bool, false, cond, ◌||◌, not, List, [], ◌∷◌, ◌++◌, eqb}
use Rattle.scope.specs.declared.Scope.{Scope}
use Rattle.scope.specs.declared.ScopingMode.TheVariants.{RespectParent}
use Rattle.table.specs.Tables.{Tables}
use Rattle.table.specs.Expr.{Expr, literal, name, wildcard, array, set, object, other, Exprs, none, item}
use Rattle.table.specs.Decode.{expr}
use Rattle.planner.specs.Layout.{Entry, top, entries}
use Rattle.planner.specs.Operations.{Outcome, planned, checked_first, plan_of, validated, unless_defined}
use Rattle.checks.specs.declared.LiteralStructureCheck.{LiteralStructureCheck}
use Rattle.checks.specs.declared.LiteralStructureCheck.TheVariants.{Match, Unknown}
use Rattle.checks.specs.declared.Reading.{Reading}
use Rattle.checks.specs.Joining.{is_mismatch}
use Rattle.checks.specs.Structure.{structure}
use Rattle.checks.specs.Refusals.{unless_mismatch}

-- In either reading: does an item match the pattern, or is it unknown?
unfoldable pub any_fits : Reading → Exprs → Expr → Bool
any_fits r none p = false
any_fits r (item e es) p = not (is_mismatch (structure r e p)) || any_fits r es p

-- the first mismatch, if there is one
unfoldable pub first_mismatch : Reading → Exprs → Expr → LiteralStructureCheck
first_mismatch r none p = Unknown
first_mismatch r (item e es) p = cond (is_mismatch (structure r e p)) (structure r e p) (first_mismatch r es p)

-- an item that fits excuses every mismatch
abbrev pub items_structure : Reading → Exprs → Expr → LiteralStructureCheck
items_structure r es p = cond (any_fits r es p) Match (first_mismatch r es p)

-- only an array literal has items to hold the pattern against
unfoldable pub collection_structure : Reading → Expr → Expr → LiteralStructureCheck
collection_structure r (array n es) p = items_structure r es p
collection_structure r (literal n l) p = Unknown
collection_structure r (name n x) p = Unknown
collection_structure r (wildcard n) p = Unknown
collection_structure r (set n es) p = Unknown
collection_structure r (object n fs) p = Unknown
collection_structure r (other n) p = Unknown

-- key root 0 says that there is no key
abbrev pub key_check : Tables → Scope → ℕ → ℕ
key_check T s key = cond (eqb key 0) 0 (validated T s RespectParent key)

abbrev pub key_entries : Tables → Scope → ℕ → List Entry
key_entries T s key = cond (eqb key 0) [] (entries (plan_of T s RespectParent key) top)

abbrev pub key_form : ℕ → ℕ
key_form key = cond (eqb key 0) 0 1

abbrev pub roots : ℕ → ℕ → ℕ → List ℕ
roots value collection key = value ∷ (collection ∷ cond (eqb key 0) [] (key ∷ []))

-- the value pattern, planned from no names, with the entries of the key before its own
abbrev pub value_planned : Tables → Scope → ℕ → ℕ → ℕ → Reading → List Entry → Outcome
value_planned T s value collection form r keys =
    unless_defined (validated T s RespectParent value)
    (unless_mismatch (collection_structure r (expr T collection) (expr T value))
    (planned form 0 (keys ++ entries (plan_of T s RespectParent value) top)))

abbrev pub some_in_planned : Tables → Scope → ℕ → ℕ → ℕ → Reading → Outcome
some_in_planned T s value collection key r = unless_defined (key_check T s key) (value_planned T s value collection (key_form key) r (key_entries T s key))

abbrev pub some_in_outcome : Tables → Scope → ℕ → ℕ → ℕ → Reading → Outcome
some_in_outcome T s value collection key r = checked_first T s (roots value collection key) (some_in_planned T s value collection key r)
