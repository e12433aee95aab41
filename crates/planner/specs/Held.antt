-- What an object holds under a key.
use Rattle.std.specs.Prelude.{Bool, true, false, List, [], ◌∷◌}
use Rattle.std.proofs.Math.Option.{Option}
use Rattle.literal.specs.Literal.{Literal}
use Rattle.literal.specs.Order.{key_order}
use Rattle.table.specs.Names.{is_same}
use Rattle.table.specs.Expr.{Expr, Fields, done, field}
use Rattle.planner.specs.Layout.{literal_key, Slot, FieldOrder, add_field}

-- The values of an object's fields in order, the last alone under a repeated key.
unfoldable pub value_order : Fields → FieldOrder Expr → FieldOrder Expr
value_order done o = o
value_order (field k v fs) o = value_order fs (add_field (literal_key k) v o)

-- what is held under a key, if anything
abbrev pub first_or : {A : Type 0} → Bool → A → Option A → Option A
first_or true a rest = Option.some a
first_or false a rest = rest

unfoldable pub held_under : {A : Type 0} → Literal → List (Slot A) → Option A
held_under l [] = Option.none
held_under l (s ∷ ss) = first_or (is_same (key_order l s.at)) s.held (held_under l ss)

abbrev pub is_empty : {A : Type 0} → List A → Bool
is_empty [] = true
is_empty (a ∷ rest) = false
