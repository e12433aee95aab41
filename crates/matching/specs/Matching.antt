-- What a pattern's plan does when it is carried out on a value, what it means that pattern and value match, and what is promised of the run.
use Rattle.std.specs.Prelude.{ℕ, Bool, true, false, ◌&&◌, List, [], ◌≡◌, T, eqb}
use Rattle.std.proofs.Math.Option.{Option, none, some}
use Rattle.literal.specs.Literal.{Literal, null}
use Rattle.table.specs.Expr as Expr
use Rattle.table.specs.Expr.{Expr, literal, name, wildcard, array, set, object, other, Exprs, item, Fields, done, field}
use Rattle.planner.specs.Plan.{DestructuringPlan, var, ignore, equality_expr, equality_value, array_plan, object_plan, Plans, no_plan, item_plan, FieldPlans, no_field, field_plan, plan}
use Rattle.planner.specs.Layout.{literal_key}
use Rattle.planner.specs.Simple.{add_key, simple, mentions}
use Rattle.value.specs.Value.{Value, literalᵛ, arrayᵛ, objectᵛ, Values, noneᵛ, itemᵛ, ValueFields, doneᵛ, filled_field, keysᵛ, same_key_sets, under, Proper, same, Same}

-- 1. The run of a plan on a value, in written order.

-- the values that names have so far
abbrev pub Env : Type 0
Env = ℕ → Option Value

pub data MatchOutcome : Type 0 where
  matched : Env → MatchOutcome
  missed : MatchOutcome
  -- a name without a value is read, or one that has a value is set
  fault : MatchOutcome

abbrev pub pick_value : Bool → Option Value → Option Value → Option Value
pick_value true a b = a
pick_value false a b = b

abbrev pub assign : ℕ → Value → Env → Env
assign x v env y = pick_value (eqb y x) (some v) (env y)

-- set x, which has the value that stands last
abbrev pub setting : ℕ → Value → Env → Option Value → MatchOutcome
setting x v env none = matched (assign x v env)
setting x v env (some u) = fault

abbrev pub provided : Bool → MatchOutcome → MatchOutcome
provided true o = o
provided false o = missed

-- compare with a name's value
abbrev pub comparing : Value → Env → Option Value → MatchOutcome
comparing v env none = fault
comparing v env (some u) = provided (same u v) (matched env)

abbrev pub name_in : Env → Expr → Option Value
name_in env (literal n l) = none
name_in env (name n x) = env x
name_in env (wildcard n) = none
name_in env (array n es) = none
name_in env (set n es) = none
name_in env (object n fs) = none
name_in env (other n) = none

abbrev pub next : MatchOutcome → (Env → MatchOutcome) → MatchOutcome
next (matched env) f = f env
next missed f = missed
next fault f = fault

abbrev pub at : Option Value → (Value → MatchOutcome) → MatchOutcome
at none f = missed
at (some v) f = f v

abbrev pub under_key : Option Literal → ValueFields → Option Value
under_key (some k) gs = under k gs
under_key none gs = none

unfoldable pub plan_keys : FieldPlans → List Literal
plan_keys no_field = []
plan_keys (field_plan k p fs) = add_key (literal_key k) (plan_keys fs)

unfoldable pub same_length : Plans → Values → Bool
same_length no_plan noneᵛ = true
same_length no_plan (itemᵛ v vs) = false
same_length (item_plan p ps) noneᵛ = false
same_length (item_plan p ps) (itemᵛ v vs) = same_length ps vs

unfoldable mutual
  pub run : DestructuringPlan → Value → Env → MatchOutcome
  run (var n x) v env = setting x v env (env x)
  run (ignore n) v env = matched env
  run (equality_expr e) v env = comparing v env (name_in env e)
  run (equality_value n l) v env = provided (same (literalᵛ n l) v) (matched env)
  run (array_plan n ps) (literalᵛ m k) env = missed
  run (array_plan n ps) (arrayᵛ m vs) env = provided (same_length ps vs) (run_items ps vs env)
  run (array_plan n ps) (objectᵛ m gs) env = missed
  run (object_plan n fs) (literalᵛ m k) env = missed
  run (object_plan n fs) (arrayᵛ m vs) env = missed
  run (object_plan n fs) (objectᵛ m gs) env = provided (same_key_sets (plan_keys fs) (keysᵛ gs)) (run_fields fs gs env)

  pub run_items : Plans → Values → Env → MatchOutcome
  run_items no_plan vs env = matched env
  run_items (item_plan p ps) noneᵛ env = missed
  run_items (item_plan p ps) (itemᵛ v vs) env = next (run p v env) (λ env'. run_items ps vs env')

  pub run_fields : FieldPlans → ValueFields → Env → MatchOutcome
  run_fields no_field gs env = matched env
  run_fields (field_plan k p fs) gs env = at (under_key (literal_key k) gs) (λ v. next (run p v env) (λ env'. run_fields fs gs env'))

-- 2. Fillings: one value for each name and one for each underscore.

pub record ProperValue : Type 0 where
  pub value : Value
  pub is_proper : Proper value

-- one value for each underscore of a pattern
abbrev mutual
  pub Blanks : Expr → Type 0
  Blanks (literal n l) = Unit {0}
  Blanks (name n x) = Unit {0}
  Blanks (wildcard n) = ProperValue
  Blanks (array n es) = BlanksAll es
  Blanks (set n es) = Unit {0}
  Blanks (object n fs) = BlanksFields fs
  Blanks (other n) = Unit {0}

  pub BlanksAll : Exprs → Type 0
  BlanksAll Expr.none = Unit {0}
  BlanksAll (item e es) = Blanks e × BlanksAll es

  pub BlanksFields : Fields → Type 0
  BlanksFields done = Unit {0}
  BlanksFields (field k v fs) = Blanks v × BlanksFields fs

-- the pattern with a value put for each name and each underscore (of no matter where the pattern is not simple)
unfoldable mutual
  pub fill : (ℕ → Value) → (e : Expr) → Blanks e → Value
  fill ρ (literal n l) b = literalᵛ n l
  fill ρ (name n x) b = ρ x
  fill ρ (wildcard n) b = b.value
  fill ρ (array n es) b = arrayᵛ n (fill_all ρ es b)
  fill ρ (set n es) b = literalᵛ n null
  fill ρ (object n fs) b = objectᵛ n (fill_fields_lem ρ fs b)
  fill ρ (other n) b = literalᵛ n null

  pub fill_all : (ℕ → Value) → (es : Exprs) → BlanksAll es → Values
  fill_all ρ Expr.none b = noneᵛ
  fill_all ρ (item e es) b = itemᵛ (fill ρ e b.0) (fill_all ρ es b.1)

  pub fill_fields_lem : (ℕ → Value) → (fs : Fields) → BlanksFields fs → ValueFields
  fill_fields_lem ρ done b = doneᵛ
  fill_fields_lem ρ (field k v fs) b = filled_field (literal_key k) (fill ρ v b.0) (fill_fields_lem ρ fs b.1)

-- two fillings give each underscore an equal value
abbrev mutual
  pub SameBlanks : (e : Expr) → Blanks e → Blanks e → Type 0
  SameBlanks (literal n l) b c = Unit {0}
  SameBlanks (name n x) b c = Unit {0}
  SameBlanks (wildcard n) b c = Same b.value c.value
  SameBlanks (array n es) b c = SameBlanksAll es b c
  SameBlanks (set n es) b c = Unit {0}
  SameBlanks (object n fs) b c = SameBlanksFields fs b c
  SameBlanks (other n) b c = Unit {0}

  pub SameBlanksAll : (es : Exprs) → BlanksAll es → BlanksAll es → Type 0
  SameBlanksAll Expr.none b c = Unit {0}
  SameBlanksAll (item e es) b c = SameBlanks e b.0 c.0 × SameBlanksAll es b.1 c.1

  pub SameBlanksFields : (fs : Fields) → BlanksFields fs → BlanksFields fs → Type 0
  SameBlanksFields done b c = Unit {0}
  SameBlanksFields (field k v fs) b c = SameBlanks v b.0 c.0 × SameBlanksFields fs b.1 c.1

pub record Filling (e : Expr) : Type 0 where
  pub names : ℕ → ProperValue
  pub blanks : Blanks e

abbrev pub or_else : Option Value → Value → Value
or_else none w = w
or_else (some v) w = v

-- 3. The promise, of a scope's answer, a list of values by name, a pattern and a value.

-- a name has a value at the start if it is known and listed
abbrev pub start : (ℕ → Bool) → Env → Env
start unbound listed x = pick_value (unbound x) none (listed x)

-- the names to be set: the pattern's that are not known
abbrev pub Planned : (ℕ → Bool) → Expr → ℕ → Type 0
Planned unbound e x = T (mentions x e && unbound x)

module _ (unbound : ℕ → Bool) (listed : Env) (e : Expr) (v : Value) where
  -- what is asked: a simple pattern, values, and a value for each known name of the pattern
  pub record Asked : Type 0 where
    pub is_simple : T (simple e)
    pub value_proper_lem : Proper v
    pub list_proper : (x : ℕ) (w : Value) → listed x ≡ some w → Proper w
    pub known_listed : (x : ℕ) → T (mentions x e) → unbound x ≡ false → (w : Value) × (listed x ≡ some w)

  -- the pattern's plan, run on the value
  abbrev pub outcome : MatchOutcome
  outcome = run (plan unbound e []) v (start unbound listed)

  -- the filling makes pattern and value equal; known names keep their listed values
  abbrev pub Makes : Filling e → Type 0
  Makes f = Same (fill (λ x. or_else (start unbound listed x) (f.names x).value) e f.blanks) v

  pub record Promise : Type 0 where
    -- no name is read without a value, and none that has a value is set
    pub no_fault_lem : ¬ (outcome ≡ fault)
    -- it matches exactly when some filling makes the two equal
    pub if_matched : (env : Env) → outcome ≡ matched env → (f : Filling e) × Makes f
    pub if_made : (f : Filling e) → Makes f → (env : Env) × (outcome ≡ matched env)
    -- a match sets each planned name to a value equal to its value in any such filling
    pub sets : (env : Env) → outcome ≡ matched env → (x : ℕ) → Planned unbound e x → (w : Value) × (env x ≡ some w) × ((f : Filling e) → Makes f → Same w (f.names x).value)
    -- and no other name
    pub keeps : (env : Env) → outcome ≡ matched env → (x : ℕ) → ¬ Planned unbound e x → env x ≡ start unbound listed x
    -- two fillings that make the two equal give each planned name and each underscore equal values
    pub only_names : (f g : Filling e) → Makes f → Makes g → (x : ℕ) → Planned unbound e x → Same (f.names x).value (g.names x).value
    pub only_blanks : (f g : Filling e) → Makes f → Makes g → SameBlanks e f.blanks g.blanks
