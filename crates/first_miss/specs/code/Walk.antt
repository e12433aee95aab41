-- The first miss by a walk over the pattern: a name that has no value is set, one that has is compared.
use Rattle.std.specs.Prelude.{ℕ, Bool, true, false, List, []}
use Rattle.std.proofs.Math.Option.{Option, none, some}
use Rattle.table.specs.Expr as Expr
use Rattle.table.specs.Expr.{Expr, literal, name, wildcard, array, set, object, other, Exprs, item, Fields, done, field, node_of}
use Rattle.planner.specs.Layout.{Slot, literal_key}
use Rattle.planner.specs.Simple.{keys_of}
use Rattle.value.specs.Value.{Value, literalᵛ, arrayᵛ, objectᵛ, Values, noneᵛ, itemᵛ, ValueFields, nodeᵛ, keysᵛ, same}
use Rattle.matching.specs.Matching.{Env, assign, under_key}
use Rattle.first_miss.specs.declared.Why.TheVariants.{LiteralDiffers, NoArray, OtherLength, NoObject, KeyMissing}
use Rattle.first_miss.specs.Miss.{MissOutcome, matched, fault, miss_at, or_miss, next, at, comparing, add_slot, missing_key, other_key, keys_first}

-- the name x at node n, which has the value that stands last
abbrev pub naming : ℕ → ℕ → Value → Env → Option Value → MissOutcome
naming n x v env none = matched (assign x v env)
naming n x v env (some u) = comparing n v env (some u)

unfoldable pub even : Exprs → Values → Bool
even Expr.none noneᵛ = true
even Expr.none (itemᵛ v vs) = false
even (item e es) noneᵛ = false
even (item e es) (itemᵛ v vs) = even es vs

unfoldable pub slots_of : Fields → List (Slot ℕ)
slots_of done = []
slots_of (field k v fs) = add_slot (literal_key k) (node_of k) (slots_of fs)

module _ (key_node : ℕ → ℕ → ℕ) where
  unfoldable mutual
    pub walk : Expr → Value → Env → MissOutcome
    walk (literal n l) v env = or_miss (same (literalᵛ n l) v) (miss_at LiteralDiffers (nodeᵛ v) n) (matched env)
    walk (name n x) v env = naming n x v env (env x)
    walk (wildcard n) v env = matched env
    walk (array n es) (literalᵛ m k) env = miss_at NoArray m n
    walk (array n es) (arrayᵛ m vs) env = or_miss (even es vs) (miss_at OtherLength m n) (walk_items n m es vs env)
    walk (array n es) (objectᵛ m gs) env = miss_at NoArray m n
    walk (set n es) v env = fault
    walk (object n fs) (literalᵛ m k) env = miss_at NoObject m n
    walk (object n fs) (arrayᵛ m vs) env = miss_at NoObject m n
    walk (object n fs) (objectᵛ m gs) env = keys_first key_node n m (missing_key (keysᵛ gs) (slots_of fs)) (other_key (keys_of fs) 0 (keysᵛ gs)) (walk_fields m fs gs env)
    walk (other n) v env = fault

    pub walk_items : ℕ → ℕ → Exprs → Values → Env → MissOutcome
    walk_items n m Expr.none vs env = matched env
    walk_items n m (item e es) noneᵛ env = miss_at OtherLength m n
    walk_items n m (item e es) (itemᵛ v vs) env = next (walk e v env) (λ env'. walk_items n m es vs env')

    pub walk_fields : ℕ → Fields → ValueFields → Env → MissOutcome
    walk_fields m done gs env = matched env
    walk_fields m (field k e fs) gs env = at (under_key (literal_key k) gs) (miss_at KeyMissing m (node_of k)) (λ v. next (walk e v env) (λ env'. walk_fields m fs gs env'))
