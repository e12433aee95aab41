-- Without its miss the outcome is the run's.
use Prim.Native.Nat.{ℕ}
use mathlib.Core.Path.{◌≡◌, refl, ap, ◌∙◌}
use mathlib.Core.Bool.{Bool, true, false}
use mathlib.Core.Option.{Option, none, some}
use Rattle.table.specs.Expr.{node_of}
use Rattle.planner.specs.Plan.{DestructuringPlan, var, ignore, equality_expr, equality_value, array_plan, object_plan, Plans, no_plan, item_plan, FieldPlans, no_field, field_plan}
use Rattle.planner.specs.Layout.{literal_key}
use Rattle.value.specs.Value.{Value, literalᵛ, arrayᵛ, objectᵛ, Values, noneᵛ, itemᵛ, ValueFields, nodeᵛ, keysᵛ, same}
use Rattle.matching.specs.Matching as Run
use Rattle.matching.specs.Matching.{Env, MatchOutcome, provided, name_in, under_key, same_length, run, run_items, run_fields}
use Rattle.first_miss.specs.declared.Miss.{Miss}
use Rattle.first_miss.specs.declared.Why.TheVariants.{NameDiffers, KeyMissing}
use Rattle.first_miss.specs.Miss.{MissOutcome, matched, missed, fault, forget, or_miss, next, at, setting, comparing, first_miss, miss_items, miss_fields}
use Rattle.first_miss.proofs.trees.KeySets.{keys_forget}

provided_forget : (b : Bool) (m : Miss) (o : MissOutcome) (q : MatchOutcome) → forget o ≡ q → forget (or_miss b (missed m) o) ≡ provided b q
provided_forget true m o q e = e
provided_forget false m o q e = refl

set_forget : (x : ℕ) (v : Value) (env : Env) (o : Option Value) → forget (setting x v env o) ≡ Run.setting x v env o
set_forget x v env none = refl
set_forget x v env (some u) = refl

compare_forget : (n : ℕ) (v : Value) (env : Env) (o : Option Value) → forget (comparing n v env o) ≡ Run.comparing v env o
compare_forget n v env none = refl
compare_forget n v env (some u) = provided_forget (same u v) (record { why = NameDiffers; value = nodeᵛ v; pattern = n }) (matched env) (Run.matched env) refl

next_forget : (o : MissOutcome) (q : MatchOutcome) (f : Env → MissOutcome) (g : Env → MatchOutcome) → forget o ≡ q → ((env : Env) → forget (f env) ≡ g env) → forget (next o f) ≡ Run.next q g
next_forget (matched env) q f g e h = h env ∙ ap (λ (p : MatchOutcome). Run.next p g) e
next_forget (missed m) q f g e h = ap (λ (p : MatchOutcome). Run.next p g) e
next_forget fault q f g e h = ap (λ (p : MatchOutcome). Run.next p g) e

at_forget : (o : Option Value) (m : Miss) (f : Value → MissOutcome) (g : Value → MatchOutcome) → ((v : Value) → forget (f v) ≡ g v) → forget (at o (missed m) f) ≡ Run.at o g
at_forget none m f g h = refl
at_forget (some v) m f g h = h v

module _ (key_node : ℕ → ℕ → ℕ) where
  mutual
    unfolding run first_miss

    pub forgets : (p : DestructuringPlan) (v : Value) (env : Env) → forget (first_miss key_node p v env) ≡ run p v env
    forgets (var n x) v env = set_forget x v env (env x)
    forgets (ignore n) v env = refl
    forgets (equality_expr e) v env = compare_forget (node_of e) v env (name_in env e)
    forgets (equality_value n l) v env = provided_forget (same (literalᵛ n l) v) _ (matched env) (Run.matched env) refl
    forgets (array_plan n ps) (literalᵛ m k) env = refl
    forgets (array_plan n ps) (arrayᵛ m vs) env = provided_forget (same_length ps vs) _ (miss_items key_node n m ps vs env) (run_items ps vs env) (items_forget n m ps vs env)
    forgets (array_plan n ps) (objectᵛ m gs) env = refl
    forgets (object_plan n fs) (literalᵛ m k) env = refl
    forgets (object_plan n fs) (arrayᵛ m vs) env = refl
    forgets (object_plan n fs) (objectᵛ m gs) env = keys_forget key_node n m fs (keysᵛ gs) (miss_fields key_node m fs gs env) (run_fields fs gs env) (fields_forget m fs gs env)

    items_forget : (n m : ℕ) (ps : Plans) (vs : Values) (env : Env) → forget (miss_items key_node n m ps vs env) ≡ run_items ps vs env
    items_forget n m no_plan vs env = refl
    items_forget n m (item_plan p ps) noneᵛ env = refl
    items_forget n m (item_plan p ps) (itemᵛ v vs) env =
        next_forget (first_miss key_node p v env) (run p v env) (λ env'. miss_items key_node n m ps vs env') (λ env'. run_items ps vs env') (forgets p v env) (λ env'. items_forget n m ps vs env')

    fields_forget : (m : ℕ) (fs : FieldPlans) (gs : ValueFields) (env : Env) → forget (miss_fields key_node m fs gs env) ≡ run_fields fs gs env
    fields_forget m no_field gs env = refl
    fields_forget m (field_plan k p fs) gs env =
        at_forget (under_key (literal_key k) gs) (record { why = KeyMissing; value = m; pattern = node_of k })
        (λ v. next (first_miss key_node p v env) (λ env'. miss_fields key_node m fs gs env')) (λ v. Run.next (run p v env) (λ env'. run_fields fs gs env'))
        (λ v. next_forget (first_miss key_node p v env) (run p v env) (λ env'. miss_fields key_node m fs gs env') (λ env'. run_fields fs gs env') (forgets p v env) (λ env'. fields_forget m fs gs env'))
