-- A run sets names to values of the table: each is the value at its own node.
use Prim.Native.Nat.{ℕ, zero, suc, ◌+◌, ◌*◌, ◌≤◌, ◌<◌}
use mathlib.Core.Path.{◌≡◌, refl, sym, ap, ◌∙◌}
use mathlib.Core.Bool.{Bool, true, false, false≢true}
use mathlib.Core.Option.{Option, none, some}
use native.Mathlib.Omega.{arith}
use lib.Dec.{eqb}
use Rattle.literal.specs.Literal.{Literal}
use Rattle.table.specs.Tables.{Tables, kind_of, first_word_of, count_of, child_at}
use Rattle.table.specs.Expr.{Expr}
use Rattle.table.specs.Decode.{expr, items, fields}
use Rattle.table.specs.code.Sound.{WellFormed}
use Rattle.table.proofs.trees.Trees.{width_array, width_object}
use Rattle.planner.specs.Layout.{literal_key}
use Rattle.planner.specs.Plan.{DestructuringPlan, var, ignore, equality_expr, equality_value, array_plan, object_plan, Plans, no_plan, item_plan, FieldPlans, no_field, field_plan}
use Rattle.planner.specs.Simple.{same_key}
use Rattle.planner.proofs.fields.Objects.{node_of_lem}
use Rattle.value.specs.Value.{Value, literalᵛ, arrayᵛ, objectᵛ, Values, noneᵛ, itemᵛ, ValueFields, doneᵛ, fieldᵛ, filled_field, value_of, values_of, value_fields_of, nodeᵛ, first_hit, under, keysᵛ, same_key_sets, same}
use Rattle.value.specs.code.Post.{ValueNode}
use Rattle.value.proofs.Node as Node·
use Rattle.value.proofs.Admitted.{array_item, object_value, array_children, object_children, value_node_lem, admitted_value}
use Rattle.value.proofs.SameValues.{ValueShape, value_literal, value_array, value_object, value_shape}
use Rattle.matching.specs.Matching.{Env, MatchOutcome, matched, missed, fault, pick_value, assign, setting, provided, comparing, name_in, next, at, under_key, plan_keys, same_length, run, run_items, run_fields}

-- the value at a value's node
pub record Tabled (T : Tables) (v : Value) : Type 0 where
  pub node_ok : ValueNode T (nodeᵛ v)
  pub is : value_of (expr T (nodeᵛ v)) ≡ v

module _ (T : Tables) where
  unfoldable mutual
    -- and so at each part
    AllTabled : Value → Type 0
    AllTabled (literalᵛ n l) = Tabled T (literalᵛ n l)
    AllTabled (arrayᵛ n vs) = Tabled T (arrayᵛ n vs) × AllItems vs
    AllTabled (objectᵛ n fs) = Tabled T (objectᵛ n fs) × AllFields fs

    AllItems : Values → Type 0
    AllItems noneᵛ = Unit {0}
    AllItems (itemᵛ v vs) = AllTabled v × AllItems vs

    AllFields : ValueFields → Type 0
    AllFields doneᵛ = Unit {0}
    AllFields (fieldᵛ k v fs) = AllTabled v × AllFields fs

  whole : (v : Value) → AllTabled v → Tabled T v
  unfolding AllTabled
  whole (literalᵛ n l) a = a
  whole (arrayᵛ n vs) a = a.0
  whole (objectᵛ n fs) a = a.0

  abbrev EnvTabled : Env → Type 0
  EnvTabled env = (x : ℕ) (u : Value) → env x ≡ some u → Tabled T u

  all_under : (l : Literal) (gs : ValueFields) → AllFields gs → (w : Value) → under l gs ≡ some w → AllTabled w
  unfolding under AllTabled
  all_under l doneᵛ a w e = absurd (false≢true (cc))
  all_under l (fieldᵛ k v gs) a w e = go (same_key l k) (all_under l gs a.1 w) e
    where
      go : (c : Bool) → (under l gs ≡ some w → AllTabled w) → first_hit c v (under l gs) ≡ some w → AllTabled w
      go true f q = let r : v ≡ w = cc in rw (sym r) a.0
      go false f q = f q

  all_under_key : (k : Option Literal) (gs : ValueFields) → AllFields gs → (w : Value) → under_key k gs ≡ some w → AllTabled w
  all_under_key (some l) gs a w e = all_under l gs a w e
  all_under_key none gs a w e = absurd (false≢true (cc))

  assigned : (x : ℕ) (v : Value) (env : Env) → Tabled T v → EnvTabled env → EnvTabled (assign x v env)
  assigned x v env t a y u e = go (eqb y x) e
    where
      go : (c : Bool) → pick_value c (some v) (env y) ≡ some u → Tabled T u
      go true q = let r : v ≡ u = cc in rw (sym r) t
      go false q = a y u q

  -- what a run comes to
  abbrev Ends : MatchOutcome → Type 0
  Ends o = (env : Env) → o ≡ matched env → EnvTabled env

  ends_missed : Ends missed
  ends_missed env e = absurd (false≢true (cc))

  ends_fault : Ends fault
  ends_fault env e = absurd (false≢true (cc))

  ends_same : (env : Env) → EnvTabled env → Ends (matched env)
  ends_same env a env' e = let q : env ≡ env' = cc in rw (sym q) a

  ends_provided : (b : Bool) (o : MatchOutcome) → Ends o → Ends (provided b o)
  ends_provided true o a = a
  ends_provided false o a = ends_missed

  ends_setting : (x : ℕ) (v : Value) (env : Env) (o : Option Value) → Tabled T v → EnvTabled env → Ends (setting x v env o)
  ends_setting x v env none t a = ends_same (assign x v env) (assigned x v env t a)
  ends_setting x v env (some u) t a = ends_fault

  ends_comparing : (v : Value) (env : Env) (o : Option Value) → EnvTabled env → Ends (comparing v env o)
  ends_comparing v env none a = ends_fault
  ends_comparing v env (some u) a = ends_provided (same u v) (matched env) (ends_same env a)

  ends_next : (o : MatchOutcome) (f : Env → MatchOutcome) → Ends o → ((env : Env) → EnvTabled env → Ends (f env)) → Ends (next o f)
  ends_next (matched env) f a g = g env (a env refl)
  ends_next missed f a g = ends_missed
  ends_next fault f a g = ends_fault

  ends_at : (o : Option Value) (f : Value → MatchOutcome) → ((v : Value) → o ≡ some v → Ends (f v)) → Ends (at o f)
  ends_at none f g = ends_missed
  ends_at (some v) f g = g v refl

  mutual
    unfolding run AllTabled

    ends_run : (p : DestructuringPlan) (v : Value) (env : Env) → AllTabled v → EnvTabled env → Ends (run p v env)
    ends_run (var n x) v env t a = ends_setting x v env (env x) (whole v t) a
    ends_run (ignore n) v env t a = ends_same env a
    ends_run (equality_expr e) v env t a = ends_comparing v env (name_in env e) a
    ends_run (equality_value n l) v env t a = ends_provided (same (literalᵛ n l) v) (matched env) (ends_same env a)
    ends_run (array_plan n ps) (literalᵛ m k) env t a = ends_missed
    ends_run (array_plan n ps) (arrayᵛ m vs) env t a = ends_provided (same_length ps vs) (run_items ps vs env) (ends_items ps vs env t.1 a)
    ends_run (array_plan n ps) (objectᵛ m gs) env t a = ends_missed
    ends_run (object_plan n fs) (literalᵛ m k) env t a = ends_missed
    ends_run (object_plan n fs) (arrayᵛ m vs) env t a = ends_missed
    ends_run (object_plan n fs) (objectᵛ m gs) env t a = ends_provided (same_key_sets (plan_keys fs) (keysᵛ gs)) (run_fields fs gs env) (ends_fields fs gs env t.1 a)

    ends_items : (ps : Plans) (vs : Values) (env : Env) → AllItems vs → EnvTabled env → Ends (run_items ps vs env)
    ends_items no_plan vs env t a = ends_same env a
    ends_items (item_plan p ps) noneᵛ env t a = ends_missed
    ends_items (item_plan p ps) (itemᵛ v vs) env t a = ends_next (run p v env) (λ env'. run_items ps vs env') (ends_run p v env t.0 a) (λ env' b. ends_items ps vs env' t.1 b)

    ends_fields : (fs : FieldPlans) (gs : ValueFields) (env : Env) → AllFields gs → EnvTabled env → Ends (run_fields fs gs env)
    ends_fields no_field gs env t a = ends_same env a
    ends_fields (field_plan k p fs) gs env t a =
        ends_at (under_key (literal_key k) gs) (λ v. next (run p v env) (λ env'. run_fields fs gs env'))
        (λ v e. ends_next (run p v env) (λ env'. run_fields fs gs env') (ends_run p v env (all_under_key (literal_key k) gs t v e) a) (λ env' b. ends_fields fs gs env' t b))

  module _ (w : WellFormed T) where
    node_tabled : (n : ℕ) → ValueNode T n → Tabled T (value_of (expr T n))
    node_tabled n v =
        let e : nodeᵛ (value_of (expr T n)) ≡ n = Node·.value_node_lem (expr T n) ∙ node_of_lem T w n v.node in
        record { node_ok = rw e v; is = ap (λ (m : ℕ). value_of (expr T m)) e }

    items_tabled : (place k : ℕ) → ((i : ℕ) → i < k → AllTabled (value_of (expr T (child_at T.children (place + i))))) → AllItems (values_of (items (expr T) T.children place k))
    unfolding items value_of AllTabled
    items_tabled place zero each = tt
    items_tabled place (suc k) each =
        let z : place + 0 ≡ place = omega arith in
        (rw z at (each 0 (omega arith)), items_tabled (place + 1) k (λ i lt. let e : place + (i + 1) ≡ place + 1 + i = omega arith in rw e at (each (i + 1) (omega arith))))

    fields_tabled : (place k : ℕ) → ((i : ℕ) → i < k → AllTabled (value_of (expr T (child_at T.children (place + i * 2 + 1))))) → AllFields (value_fields_of (fields (expr T) T.children place k))
    unfolding fields value_of AllTabled
    fields_tabled place zero each = tt
    fields_tabled place (suc k) each =
        let z : place + 0 * 2 ≡ place = omega arith in
        go (literal_key (expr T (child_at T.children place))) (rw z at (each 0 (omega arith)))
        (fields_tabled (place + 2) k (λ i lt. let e : place + suc i * 2 ≡ place + 2 + i * 2 = omega arith in rw e at (each (suc i) (omega arith))))
      where
        go : (κ : Option Literal) → AllTabled (value_of (expr T (child_at T.children (place + 1)))) → AllFields (value_fields_of (fields (expr T) T.children (place + 2) k))
            → AllFields (filled_field κ (value_of (expr T (child_at T.children (place + 1)))) (value_fields_of (fields (expr T) T.children (place + 2) k)))
        go (some l) a b = (a, b)
        go none a b = b

    tabled_to : (fuel n : ℕ) → ValueNode T n → n ≤ fuel → AllTabled (value_of (expr T n))
    unfolding value_of AllTabled
    tabled_to zero n v le = let l = v.node.low in absurd (omega arith)
    tabled_to (suc fuel) n v le =
        let s = value_shape T w n v in
        go s.0 s.1 s.2 (node_tabled n v)
        (λ k i lt. let wide = width_array (kind_of T.nodes n) (count_of T.nodes n) k in let below = w.below n v.node i (omega arith) in
        tabled_to fuel (child_at T.children (first_word_of T.nodes n + i)) (admitted_value T (child_at T.children (first_word_of T.nodes n + i)) ((array_children T w n v.node k).each i (omega arith)) (array_item T w n v.node false v.value k i lt)) (omega arith))
        (λ k i lt. let wide = width_object (kind_of T.nodes n) (count_of T.nodes n) k in let below = w.below n v.node (i * 2 + 1) (omega arith) in
        let e : first_word_of T.nodes n + (i * 2 + 1) ≡ first_word_of T.nodes n + i * 2 + 1 = omega arith in
        tabled_to fuel (child_at T.children (first_word_of T.nodes n + i * 2 + 1)) (admitted_value T (child_at T.children (first_word_of T.nodes n + i * 2 + 1)) (value_node_lem (object_children T w n v.node k) i lt) (object_value T w n v.node false v.value k i lt))
        (let q = ap (λ (p : ℕ). child_at T.children p) e in omega arith))
      where
        go : (e : Expr) → expr T n ≡ e → ValueShape T n e → Tabled T (value_of (expr T n))
            → (kind_of T.nodes n ≡ 7 → (i : ℕ) → i < count_of T.nodes n → AllTabled (value_of (expr T (child_at T.children (first_word_of T.nodes n + i)))))
            → (kind_of T.nodes n ≡ 9 → (i : ℕ) → i < count_of T.nodes n → AllTabled (value_of (expr T (child_at T.children (first_word_of T.nodes n + i * 2 + 1)))))
            → AllTabled (value_of (expr T n))
        go e q (value_literal l h) here arrays objects = rw q (rw q at here)
        go e q (value_array h) here arrays objects = rw q (rw q at here, items_tabled (first_word_of T.nodes n) (count_of T.nodes n) (arrays h))
        go e q (value_object h) here arrays objects = rw q (rw q at here, fields_tabled (first_word_of T.nodes n) (count_of T.nodes n) (objects h))

    -- a run on a value of the table, from values of the table
    pub run_tabled : (p : DestructuringPlan) (value : ℕ) → ValueNode T value → (env : Env) → ((x : ℕ) (u : Value) → env x ≡ some u → Tabled T u) → (env' : Env) → run p (value_of (expr T value)) env ≡ matched env' → (x : ℕ) (u : Value) → env' x ≡ some u → Tabled T u
    run_tabled p value v env a env' e = ends_run p (value_of (expr T value)) env (tabled_to value value v (omega arith)) a env' e

    pub value_tabled : (n : ℕ) → ValueNode T n → Tabled T (value_of (expr T n))
    value_tabled = node_tabled
