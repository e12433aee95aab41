-- A pattern or a value, met with a value as the code does it: each equality of numbers goes into the classes as it is met, each name is set to the node that it meets first.
use Rattle.std.specs.Prelude.{ℕ, Bool, true, false, cond}
use Rattle.std.proofs.Math.Option.{Option, none, some}
use Rattle.table.specs.Expr as Expr
use Rattle.table.specs.Expr.{Expr, literal, name, wildcard, array, set, object, other, Exprs, item, Fields, done, field}
use Rattle.planner.specs.Layout.{literal_key}
use Rattle.planner.specs.Simple.{keys_of}
use Rattle.value.specs.Value.{Value, literalᵛ, arrayᵛ, objectᵛ, Values, noneᵛ, itemᵛ, ValueFields, keysᵛ, same_key_sets}
use Rattle.matching.specs.Matching.{Env, assign, under_key}
use Rattle.tolerance.specs.Tolerance.{Number, num_order}
use Rattle.tolerance.specs.code.Classes.{Equality, alike, equals, Classes, unified}
use Rattle.tolerance.specs.code.Decision.{Conditions, only_rest, literal_met, equal_if}

-- the classes and the names' values so far
pub record Held : Type 0 where
  pub classes : Classes num_order
  pub env : Env

abbrev pub held : Classes num_order → Env → Held
held s env = record { classes = s; env = env }

abbrev pub held_with : Option (Classes num_order) → Env → Option Held
held_with none env = none
held_with (some s) env = some (held s env)

-- what is held once the conditions are met too; none if they can't be
abbrev pub asking : Conditions → Held → Option Held
asking q h = cond q.rest (held_with (unified num_order q.numbers h.classes) h.env) none

abbrev pub and_then : Option Held → (Held → Option Held) → Option Held
and_then none f = none
and_then (some h) f = f h

abbrev pub meets_at : Option Value → (Value → Option Held) → Option Held
meets_at none f = none
meets_at (some v) f = f v

-- a name without a value is set, one with a value compared
abbrev pub naming : ℕ → Value → Held → Option Value → Option Held
naming x v h none = some (held h.classes (assign x v h.env))
naming x v h (some u) = asking (equal_if u v) h

-- two numbers: the pattern's keeps its own, a value's is that of its node
abbrev pub numbers_met : Bool → ℕ → ℕ → Number → Equality Number
numbers_met true n m c = equals m c
numbers_met false n m c = alike n m

module _ (pattern : Bool) where
  -- of a literal
  abbrev pub conditions_of : Expr → Value → Conditions
  conditions_of (literal n l) v = literal_met (numbers_met pattern n) l v
  conditions_of (name n x) v = only_rest false
  conditions_of (wildcard n) v = only_rest false
  conditions_of (array n es) v = only_rest false
  conditions_of (set n es) v = only_rest false
  conditions_of (object n fs) v = only_rest false
  conditions_of (other n) v = only_rest false

  unfoldable mutual
    pub meets : Expr → Value → Held → Option Held
    meets (literal n l) v h = asking (literal_met (numbers_met pattern n) l v) h
    meets (name n x) v h = naming x v h (h.env x)
    meets (wildcard n) v h = some h
    meets (array n es) (literalᵛ m k) h = none
    meets (array n es) (arrayᵛ m vs) h = meets_items es vs h
    meets (array n es) (objectᵛ m gs) h = none
    meets (set n es) v h = none
    meets (object n fs) (literalᵛ m k) h = none
    meets (object n fs) (arrayᵛ m vs) h = none
    meets (object n fs) (objectᵛ m gs) h = cond (same_key_sets (keys_of fs) (keysᵛ gs)) (meets_fields fs gs h) none
    meets (other n) v h = none

    pub meets_items : Exprs → Values → Held → Option Held
    meets_items Expr.none noneᵛ h = some h
    meets_items Expr.none (itemᵛ v vs) h = none
    meets_items (item e es) noneᵛ h = none
    meets_items (item e es) (itemᵛ v vs) h = and_then (meets e v h) (λ g. meets_items es vs g)

    pub meets_fields : Fields → ValueFields → Held → Option Held
    meets_fields done gs h = some h
    meets_fields (field k e fs) gs h = meets_at (under_key (literal_key k) gs) (λ v. and_then (meets e v h) (λ g. meets_fields fs gs g))
