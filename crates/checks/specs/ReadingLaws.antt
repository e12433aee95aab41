-- What the two readings have to do with each other (request 10 of document 02).
use Rattle.std.specs.Prelude.{ℕ, ◌≡◌, Bool, true, false, ◌&&◌, List}
use Rattle.table.specs.Expr.{Expr, literal, name, wildcard, array, set, object, other, Exprs, none, item, Fields, done, field}
use Rattle.planner.specs.Layout.{literal_key, Slot, no_fields}
use Rattle.planner.specs.Held.{value_order}
use Rattle.checks.specs.declared.Reading.TheVariants.{Present, Careful}
use Rattle.checks.specs.declared.LiteralStructureCheck.{LiteralStructureCheck}
use Rattle.checks.specs.declared.LiteralStructureCheck.TheVariants.{Match}
use Rattle.checks.specs.Joining.{is_mismatch, and_then, joined}
use Rattle.checks.specs.Structure.{array_structure, object_structure, held, partner, field_checks, structure, item_checks, value_fields}

-- The present reading by its own equations, as the Rust has it.
abbrev pub present_items : Exprs → Exprs → LiteralStructureCheck
present_items es ps = joined Present (item_checks Present es ps)

abbrev pub present_fields : Fields → List (Slot Expr) → LiteralStructureCheck
present_fields fs ss = joined Present (field_checks Present ss (value_fields Present fs))

pub record PresentEquations : Type 0 where
  pub arrays : (n m : ℕ) (es ps : Exprs) → structure Present (array n es) (array m ps) ≡ array_structure n es ps (present_items es ps)
  pub no_item_lem : (ps : Exprs) → present_items none ps ≡ Match
  pub one_item : (e p : Expr) (es ps : Exprs) → present_items (item e es) (item p ps) ≡ and_then (structure Present e p) (present_items es ps)
  pub objects : (n m : ℕ) (fs gs : Fields) → structure Present (object n fs) (object m gs) ≡ object_structure n m fs (value_order gs no_fields) (present_fields fs (value_order gs no_fields).literals)
  pub no_field : (ss : List (Slot Expr)) → present_fields done ss ≡ Match
  pub one_field : (k v : Expr) (fs : Fields) (ss : List (Slot Expr)) → present_fields (field k v fs) ss ≡ and_then (partner (held (literal_key k) ss) (structure Present v)) (present_fields fs ss)

-- no object is met in the pattern
unfoldable mutual
  pub object_free : Expr → Bool
  object_free (literal n l) = true
  object_free (name n x) = true
  object_free (wildcard n) = true
  object_free (array n es) = object_free_all es
  object_free (set n es) = true
  object_free (object n fs) = false
  object_free (other n) = true

  pub object_free_all : Exprs → Bool
  object_free_all none = true
  object_free_all (item e es) = object_free e && object_free_all es

pub record ReadingLaws : Type 0 where
  -- what the present reading refuses the careful one refuses
  pub refuses : (v p : Expr) → is_mismatch (structure Present v p) ≡ true → is_mismatch (structure Careful v p) ≡ true
  -- and in the same way where the pattern has no object: only fields are met in another order
  pub same : (v p : Expr) → object_free p ≡ true → is_mismatch (structure Present v p) ≡ true → structure Careful v p ≡ structure Present v p
