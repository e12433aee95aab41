-- What is proved of plans: one always exists, none binds a name twice.
use Rattle.std.specs.Prelude.{ℕ, ◌≡◌, Bool, true, cond, List, [], Result}
use Rattle.std.proofs.Math.Option.{Option}
use Rattle.std.proofs.Math.Option as Option
use Rattle.table.specs.Expr.{Expr, literal, name, wildcard, array, set, object, other, Exprs, none, item, Fields, done, field}
use Rattle.base.specs.Lists.{no_repeat}
use Rattle.planner.specs.declared.Plan.{Plan}
use Rattle.planner.specs.declared.PlanRefusal.{PlanRefusal}
use Rattle.planner.specs.Answer.{line_of}
use Rattle.planner.specs.Plan.{DestructuringPlan, var, ignore, equality_expr, equality_value, array_plan, object_plan, Plans, no_plan, item_plan, FieldPlans, no_field, field_plan, fresh, plan, after, tracked_vars}

-- The Rust's create_destructuring_plan_with_tracking may fail: an array or object one of whose parts has no plan has none.
abbrev pub or_fail : {A B C : Type 0} → (A → B → C) → Option A → Option B → Option C
or_fail f Option.none b = Option.none
or_fail f (Option.some a) Option.none = Option.none
or_fail f (Option.some a) (Option.some b) = Option.some (f a b)

module _ (unbound : ℕ → Bool) where
  unfoldable mutual
    pub create_plan : Expr → List ℕ → Option DestructuringPlan
    create_plan (literal n l) newlyBound = Option.some (equality_value n l)
    create_plan (name n x) newlyBound = cond (fresh unbound newlyBound x) (Option.some (var n x)) (Option.some (equality_expr (name n x)))
    create_plan (wildcard n) newlyBound = Option.some (ignore n)
    create_plan (array n es) newlyBound = Option.map (array_plan n) (create_plans es newlyBound)
    create_plan (set n es) newlyBound = Option.some (equality_expr (set n es))
    create_plan (object n fs) newlyBound = Option.map (object_plan n) (create_field_plans fs newlyBound)
    create_plan (other n) newlyBound = Option.some (equality_expr (other n))

    pub create_plans : Exprs → List ℕ → Option Plans
    create_plans none newlyBound = Option.some no_plan
    create_plans (item e es) newlyBound = or_fail item_plan (create_plan e newlyBound) (create_plans es (after unbound e newlyBound))

    pub create_field_plans : Fields → List ℕ → Option FieldPlans
    create_field_plans done newlyBound = Option.some no_field
    create_field_plans (field k v fs) newlyBound = or_fail (field_plan k) (create_plan v newlyBound) (create_field_plans fs (after unbound v newlyBound))

pub record PlanLaws (unbound : ℕ → Bool) (e : Expr) : Type 0 where
  -- FailedToCreateDestructuringPlan never comes up
  pub exists : (newlyBound : List ℕ) → create_plan unbound e newlyBound ≡ Option.some (plan unbound e newlyBound)
  -- fields that an equal key replaced included
  pub once : no_repeat (tracked_vars (plan unbound e [])) ≡ true

-- document 01's numbers settle the answer
pub record LineLaws : Type 0 where
  pub settled : (r q : Result Plan PlanRefusal) → line_of r ≡ line_of q → r ≡ q
