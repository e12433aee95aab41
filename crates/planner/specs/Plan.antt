-- The plan of a pattern, in written order, with the names planned so far (destructuring.rs).
use Rattle.std.specs.Prelude.{ℕ, Bool, cond, ◌&&◌, not, List, [], ◌∷◌, ◌++◌}
use Rattle.literal.specs.Literal.{Literal}
use Rattle.table.specs.Expr.{Expr, literal, name, wildcard, array, set, object, other, Exprs, none, item, Fields, done, field}
use Rattle.base.specs.Lists.{elem}

mutual
  pub data DestructuringPlan : Type 0 where
    -- bind the name at a node
    var : ℕ → ℕ → DestructuringPlan
    ignore : ℕ → DestructuringPlan
    -- compare with an expression, with a literal
    equality_expr : Expr → DestructuringPlan
    equality_value : ℕ → Literal → DestructuringPlan
    array_plan : ℕ → Plans → DestructuringPlan
    object_plan : ℕ → FieldPlans → DestructuringPlan

  pub data Plans : Type 0 where
    no_plan : Plans
    item_plan : DestructuringPlan → Plans → Plans

  -- as written, those too that a later equal key replaces
  pub data FieldPlans : Type 0 where
    no_field : FieldPlans
    field_plan : Expr → DestructuringPlan → FieldPlans → FieldPlans

-- `unbound` is the scope's answer under the scoping at work
module _ (unbound : ℕ → Bool) where
  -- unbound in the scope, and not planned so far
  abbrev pub fresh : List ℕ → ℕ → Bool
  fresh newlyBound x = unbound x && not (elem x newlyBound)

  unfoldable mutual
    -- an expression's plan; the names planned before are `newlyBound`
    pub plan : Expr → List ℕ → DestructuringPlan
    plan (literal n l) newlyBound = equality_value n l
    plan (name n x) newlyBound = cond (fresh newlyBound x) (var n x) (equality_expr (name n x))
    plan (wildcard n) newlyBound = ignore n
    plan (array n es) newlyBound = array_plan n (plans es newlyBound)
    plan (set n es) newlyBound = equality_expr (set n es)
    plan (object n fs) newlyBound = object_plan n (field_plans fs newlyBound)
    plan (other n) newlyBound = equality_expr (other n)

    pub plans : Exprs → List ℕ → Plans
    plans none newlyBound = no_plan
    plans (item e es) newlyBound = item_plan (plan e newlyBound) (plans es (after e newlyBound))

    pub field_plans : Fields → List ℕ → FieldPlans
    field_plans done newlyBound = no_field
    field_plans (field k v fs) newlyBound = field_plan k (plan v newlyBound) (field_plans fs (after v newlyBound))

    -- the names planned once an expression is
    pub after : Expr → List ℕ → List ℕ
    after (literal n l) newlyBound = newlyBound
    after (name n x) newlyBound = cond (fresh newlyBound x) (x ∷ newlyBound) newlyBound
    after (wildcard n) newlyBound = newlyBound
    after (array n es) newlyBound = after_all_lem es newlyBound
    after (set n es) newlyBound = newlyBound
    after (object n fs) newlyBound = after_fields fs newlyBound
    after (other n) newlyBound = newlyBound

    pub after_all_lem : Exprs → List ℕ → List ℕ
    after_all_lem none newlyBound = newlyBound
    after_all_lem (item e es) newlyBound = after_all_lem es (after e newlyBound)

    pub after_fields : Fields → List ℕ → List ℕ
    after_fields done newlyBound = newlyBound
    after_fields (field k v fs) newlyBound = after_fields fs (after v newlyBound)

-- The names that planning binds, as written: those of fields that an equal key replaces too, which the Rust's bound_vars leaves out.
unfoldable mutual
  pub tracked_vars : DestructuringPlan → List ℕ
  tracked_vars (var n x) = x ∷ []
  tracked_vars (ignore n) = []
  tracked_vars (equality_expr e) = []
  tracked_vars (equality_value n l) = []
  tracked_vars (array_plan n ps) = tracked_vars_all ps
  tracked_vars (object_plan n fs) = tracked_vars_fields fs

  pub tracked_vars_all : Plans → List ℕ
  tracked_vars_all no_plan = []
  tracked_vars_all (item_plan p ps) = tracked_vars p ++ tracked_vars_all ps

  pub tracked_vars_fields : FieldPlans → List ℕ
  tracked_vars_fields no_field = []
  tracked_vars_fields (field_plan k p fs) = tracked_vars p ++ tracked_vars_fields fs
