-- The run of a plan on a value, as in the crate matching, with its first miss kept: why, and the two nodes.
use Rattle.std.specs.Prelude.{ℕ, ◌+◌, Bool, true, false, cond, List, [], ◌∷◌}
use Rattle.std.proofs.Math.Option.{Option, none, some}
use Rattle.literal.specs.Literal.{Literal}
use Rattle.literal.specs.Order.{Order, less, same, more, key_order}
use Rattle.table.specs.Expr.{node_of}
use Rattle.planner.specs.Plan.{DestructuringPlan, var, ignore, equality_expr, equality_value, array_plan, object_plan, Plans, no_plan, item_plan, FieldPlans, no_field, field_plan}
use Rattle.planner.specs.Layout.{Slot, literal_key}
use Rattle.planner.specs.Simple.{has_key}
use Rattle.value.specs.Value as Value
use Rattle.value.specs.Value.{Value, literalᵛ, arrayᵛ, objectᵛ, Values, noneᵛ, itemᵛ, ValueFields, nodeᵛ, keysᵛ}
use Rattle.matching.specs.Matching as Run
use Rattle.matching.specs.Matching.{Env, MatchOutcome, assign, name_in, under_key, plan_keys, same_length}
use Rattle.first_miss.specs.declared.Why.{Why}
use Rattle.first_miss.specs.declared.Why.TheVariants.{NameDiffers, LiteralDiffers, NoArray, OtherLength, NoObject, KeyMissing, KeyTooMany}
use Rattle.first_miss.specs.declared.Miss.{Miss}

-- 1. The outcome.
pub data MissOutcome : Type 0 where
  matched : Env → MissOutcome
  missed : Miss → MissOutcome
  -- a name without a value is read, or one that has a value is set
  fault : MissOutcome

-- why, the value's node and the pattern's
abbrev pub miss_at : Why → ℕ → ℕ → MissOutcome
miss_at why value pattern = missed (record { why = why; value = value; pattern = pattern })

-- what a run tells of it
abbrev pub forget : MissOutcome → MatchOutcome
forget (matched env) = Run.matched env
forget (missed m) = Run.missed
forget fault = Run.fault

abbrev pub or_miss : Bool → MissOutcome → MissOutcome → MissOutcome
or_miss true miss o = o
or_miss false miss o = miss

abbrev pub next : MissOutcome → (Env → MissOutcome) → MissOutcome
next (matched env) f = f env
next (missed m) f = missed m
next fault f = fault

abbrev pub at : Option Value → MissOutcome → (Value → MissOutcome) → MissOutcome
at none miss f = miss
at (some v) miss f = f v

-- set x, which has the value that stands last
abbrev pub setting : ℕ → Value → Env → Option Value → MissOutcome
setting x v env none = matched (assign x v env)
setting x v env (some u) = fault

-- compare with the value of the name at node n
abbrev pub comparing : ℕ → Value → Env → Option Value → MissOutcome
comparing n v env none = fault
comparing n v env (some u) = or_miss (Value.same u v) (miss_at NameDiffers (nodeᵛ v) n) (matched env)

-- 2. The key sets of two objects: first a key of the pattern that the value lacks, the least in key order.

abbrev pub slot : Literal → ℕ → Slot ℕ
slot l n = record { at = l; held = n }

-- the pattern's literal keys as written, each with its node
abbrev pub add_slot : Option Literal → ℕ → List (Slot ℕ) → List (Slot ℕ)
add_slot (some l) n ks = slot l n ∷ ks
add_slot none n ks = ks

unfoldable pub key_slots : FieldPlans → List (Slot ℕ)
key_slots no_field = []
key_slots (field_plan k p fs) = add_slot (literal_key k) (node_of k) (key_slots fs)

abbrev pub is_less : Order → Bool
is_less less = true
is_less same = false
is_less more = false

abbrev pub lesser : Slot ℕ → Option (Slot ℕ) → Slot ℕ
lesser k none = k
lesser k (some j) = cond (is_less (key_order k.at j.at)) k j

unfoldable pub missing_key : List Literal → List (Slot ℕ) → Option (Slot ℕ)
missing_key ls [] = none
missing_key ls (k ∷ ks) = cond (has_key k.at ls) (missing_key ls ks) (some (lesser k (missing_key ls ks)))

-- Then a key of the value that the pattern lacks, the first as written: its place, from `i` on.
unfoldable pub other_key : List Literal → ℕ → List Literal → Option ℕ
other_key ks i [] = none
other_key ks i (l ∷ ls) = cond (has_key l ks) (other_key ks (i + 1) ls) (some i)

-- 3. The run. Values keep no nodes of keys: `key_node m i` is the node of the key at place i of the object at node m.
module _ (key_node : ℕ → ℕ → ℕ) where
  abbrev pub keys_first : ℕ → ℕ → Option (Slot ℕ) → Option ℕ → MissOutcome → MissOutcome
  keys_first n m (some k) i o = miss_at KeyMissing m k.held
  keys_first n m none (some i) o = miss_at KeyTooMany (key_node m i) n
  keys_first n m none none o = o

  unfoldable mutual
    pub first_miss : DestructuringPlan → Value → Env → MissOutcome
    first_miss (var n x) v env = setting x v env (env x)
    first_miss (ignore n) v env = matched env
    first_miss (equality_expr e) v env = comparing (node_of e) v env (name_in env e)
    first_miss (equality_value n l) v env = or_miss (Value.same (literalᵛ n l) v) (miss_at LiteralDiffers (nodeᵛ v) n) (matched env)
    first_miss (array_plan n ps) (literalᵛ m k) env = miss_at NoArray m n
    first_miss (array_plan n ps) (arrayᵛ m vs) env = or_miss (same_length ps vs) (miss_at OtherLength m n) (miss_items n m ps vs env)
    first_miss (array_plan n ps) (objectᵛ m gs) env = miss_at NoArray m n
    first_miss (object_plan n fs) (literalᵛ m k) env = miss_at NoObject m n
    first_miss (object_plan n fs) (arrayᵛ m vs) env = miss_at NoObject m n
    first_miss (object_plan n fs) (objectᵛ m gs) env =
        keys_first n m (missing_key (keysᵛ gs) (key_slots fs)) (other_key (plan_keys fs) 0 (keysᵛ gs)) (miss_fields m fs gs env)

    -- of the array pattern at node n and the array at node m
    pub miss_items : ℕ → ℕ → Plans → Values → Env → MissOutcome
    miss_items n m no_plan vs env = matched env
    miss_items n m (item_plan p ps) noneᵛ env = miss_at OtherLength m n
    miss_items n m (item_plan p ps) (itemᵛ v vs) env = next (first_miss p v env) (λ env'. miss_items n m ps vs env')

    -- of the object at node m, fields as written
    pub miss_fields : ℕ → FieldPlans → ValueFields → Env → MissOutcome
    miss_fields m no_field gs env = matched env
    miss_fields m (field_plan k p fs) gs env = at (under_key (literal_key k) gs) (miss_at KeyMissing m (node_of k)) (λ v. next (first_miss p v env) (λ env'. miss_fields m fs gs env'))
