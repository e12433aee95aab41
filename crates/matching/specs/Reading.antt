-- Entries, carried out: the plan that is read from them, an object's fields by their positions, is run. Read from its own entries, a simple pattern's plan is itself (proofs/reading).
use Rattle.std.specs.Prelude.{ℕ, cond, List, [], ◌∷◌, eqb, leb, take, drop}
use Rattle.std.proofs.Math.Option.{Option, none, some}
use Rattle.literal.specs.Literal.{Literal}
use Rattle.table.specs.Expr.{Expr, literal, name, wildcard, array, object, other}
use Rattle.planner.specs.Layout.{Entry, Place, below, literal_key}
use Rattle.planner.specs.Plan.{DestructuringPlan, var, ignore, equality_expr, equality_value, array_plan, object_plan, Plans, no_plan, item_plan, FieldPlans, no_field, field_plan}
use Rattle.value.specs.Value.{Value}
use Rattle.matching.specs.Matching.{Env, MatchOutcome, fault, run}

-- a plan, and how it stands under its parent
pub record PlacedPlan : Type 0 where
  pub plan : DestructuringPlan
  pub place : Place

abbrev pub standing : DestructuringPlan → Place → PlacedPlan
standing p place = record { plan = p; place = place }

-- plans in the order of their positions
unfoldable pub insert_written : PlacedPlan → List PlacedPlan → List PlacedPlan
insert_written p [] = p ∷ []
insert_written p (q ∷ qs) = cond (leb p.place.position q.place.position) (p ∷ (q ∷ qs)) (q ∷ insert_written p qs)

unfoldable pub as_written : List PlacedPlan → List PlacedPlan
as_written [] = []
as_written (p ∷ ps) = insert_written p (as_written ps)

-- the name at a node, and 0 where none stands
abbrev pub name_of : Expr → ℕ
name_of (literal n l) = 0
name_of (name n x) = x
name_of (wildcard n) = 0
name_of (array n es) = 0
name_of (Expr.set n es) = 0
name_of (object n fs) = 0
name_of (other n) = 0

-- the literal at a node; where none stands, nothing is compared
abbrev pub literal_read : ℕ → Option Literal → DestructuringPlan
literal_read n (some l) = equality_value n l
literal_read n none = ignore n

-- `at` is the expression at a node
module _ (at : ℕ → Expr) where
  unfoldable pub items_read : List PlacedPlan → Plans
  items_read [] = no_plan
  items_read (p ∷ ps) = item_plan p.plan (items_read ps)

  unfoldable pub fields_read : List PlacedPlan → FieldPlans
  fields_read [] = no_field
  fields_read (p ∷ ps) = field_plan (at p.place.key) p.plan (fields_read ps)

  -- an entry's plan by its kind (1 bind, 2 ignore, 3 compare expression, 4 compare literal, 5 array, else object) and node, from its children's plans
  abbrev pub plan_read : ℕ → ℕ → List PlacedPlan → DestructuringPlan
  plan_read kind n children =
      cond (eqb kind 1) (var n (name_of (at n)))
      (cond (eqb kind 2) (ignore n)
      (cond (eqb kind 3) (equality_expr (at n))
      (cond (eqb kind 4) (literal_read n (literal_key (at n)))
      (cond (eqb kind 5) (array_plan n (items_read children)) (object_plan n (fields_read (as_written children)))))))

  -- the plans that stand one after the other: an entry has the next plans behind it for its children, as many as it counts
  unfoldable pub plans_read : List Entry → List PlacedPlan
  plans_read [] = []
  plans_read (e ∷ es) =
      standing (plan_read e.kind e.node (take e.children (plans_read es))) (below e.key e.position) ∷ drop e.children (plans_read es)

  -- the first plan is the whole
  abbrev pub run_first : List PlacedPlan → Value → Env → MatchOutcome
  run_first [] v env = fault
  run_first (p ∷ ps) v env = run p.plan v env

  abbrev pub run_entries : List Entry → Value → Env → MatchOutcome
  run_entries es v env = run_first (plans_read es) v env
