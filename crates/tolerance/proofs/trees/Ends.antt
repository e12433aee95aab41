-- Where a walk ends in a match: the names' values are parts of those it began with, and only names that the plan binds are set.
use Prim.Native.Nat.{ℕ}
use mathlib.Core.Bool.{Bool, true, false, cond, ◌||◌, false≢true}
use mathlib.Core.List.{List, []}
use mathlib.Core.Option.{Option, none, some}
use mathlib.Core.Path.{◌≡◌, refl, sym, ◌∙◌, subst}
use lib.Dec.{T, eqb, eqb→eq, eqb_refl}
use Rattle.literal.specs.Literal.{Literal}
use Rattle.planner.specs.Plan.{DestructuringPlan, var, ignore, equality_expr, equality_value, array_plan, object_plan, Plans, no_plan, item_plan, FieldPlans, no_field, field_plan, plan, plans, field_plans, after as seenAfter, fresh}
use Rattle.planner.specs.Layout.{literal_key}
use Rattle.planner.specs.Simple.{same_key, mentions}
use Rattle.planner.proofs.laws.Mentions.{mentions_any, mentions_fields, mentions_name, mentions_item, mentions_field}
use Rattle.table.specs.Expr as Expr
use Rattle.table.specs.Expr.{Expr, literal, name, wildcard, array, set, object, other, Exprs, item, Fields, done, field}
use Rattle.base.specs.Lists.{elem}
use Rattle.value.specs.Value.{Value, literalᵛ, arrayᵛ, objectᵛ, Values, noneᵛ, itemᵛ, ValueFields, doneᵛ, fieldᵛ, keysᵛ, same_key_sets, first_hit, under}
use Rattle.value.proofs.Keys.{and_left, or_left, or_right, is_true, true_is}
use Rattle.matching.specs.Matching.{Env, MatchOutcome, matched, missed, fault, pick_value, assign, setting, provided, name_in, under_key, plan_keys, same_length, Planned}
use Rattle.tolerance.specs.code.Decision.{Conditions, equal_if, value_is, Walk, compared_by, compared_with, providing, then_walk, onwards, walk_at, walk, walk_items, walk_fields}
use Rattle.planner.specs.Names.{occurrences, names_of}

-- a property of values that holds of their parts
pub record Parts (P : Value → Type 0) (Items : Values → Type 0) (Under : ValueFields → Type 0) : Type 0 where
  pub items : (n : ℕ) (vs : Values) → P (arrayᵛ n vs) → Items vs
  pub head : (v : Value) (vs : Values) → Items (itemᵛ v vs) → P v
  pub tail : (v : Value) (vs : Values) → Items (itemᵛ v vs) → Items vs
  pub fields : (n : ℕ) (fs : ValueFields) → P (objectᵛ n fs) → Under fs
  pub first : (k : Literal) (v : Value) (fs : ValueFields) → Under (fieldᵛ k v fs) → P v
  pub rest : (k : Literal) (v : Value) (fs : ValueFields) → Under (fieldᵛ k v fs) → Under fs

-- each name that a plan binds is one of Q
abbrev mutual
  pub Binds : (ℕ → Type 0) → DestructuringPlan → Type 0
  Binds Q (var n x) = Q x
  Binds Q (ignore n) = Unit {0}
  Binds Q (equality_expr e) = Unit {0}
  Binds Q (equality_value n l) = Unit {0}
  Binds Q (array_plan n ps) = BindsAll Q ps
  Binds Q (object_plan n fs) = BindsFields Q fs

  pub BindsAll : (ℕ → Type 0) → Plans → Type 0
  BindsAll Q no_plan = Unit {0}
  BindsAll Q (item_plan p ps) = Binds Q p × BindsAll Q ps

  pub BindsFields : (ℕ → Type 0) → FieldPlans → Type 0
  BindsFields Q no_field = Unit {0}
  BindsFields Q (field_plan k p fs) = Binds Q p × BindsFields Q fs

module _ (unbound : ℕ → Bool) (Q : ℕ → Type 0) where
  mutual
    unfolding plan occurrences names_of elem

    pub plan_binds : (e : Expr) (seen : List ℕ) → ((x : ℕ) → T (mentions x e) → T (unbound x) → Q x) → Binds Q (plan unbound e seen)
    plan_binds (literal n l) seen h = tt
    plan_binds (name n x) seen h = go (fresh unbound seen x) refl
      where
        go : (b : Bool) → fresh unbound seen x ≡ b → Binds Q (cond b (var n x) (equality_expr (name n x)))
        go true e = h x (subst T (sym (mentions_name x n x)) (eqb_refl x)) (and_left (unbound x) _ (true_is e))
        go false e = tt
    plan_binds (wildcard n) seen h = tt
    plan_binds (array n es) seen h = plans_bind es seen h
    plan_binds (set n es) seen h = tt
    plan_binds (object n fs) seen h = fields_bind fs seen h
    plan_binds (other n) seen h = tt

    plans_bind : (es : Exprs) (seen : List ℕ) → ((x : ℕ) → T (mentions_any x es) → T (unbound x) → Q x) → BindsAll Q (plans unbound es seen)
    plans_bind Expr.none seen h = tt
    plans_bind (item e es) seen h = (plan_binds e seen (λ x m. h x (subst T (sym (mentions_item x e es)) (or_left (mentions x e) (mentions_any x es) m))), plans_bind es (seenAfter unbound e seen) (λ x m. h x (subst T (sym (mentions_item x e es)) (or_right (mentions x e) (mentions_any x es) m))))

    fields_bind : (fs : Fields) (seen : List ℕ) → ((x : ℕ) → T (mentions_fields x fs) → T (unbound x) → Q x) → BindsFields Q (field_plans unbound fs seen)
    fields_bind done seen h = tt
    fields_bind (field k v fs) seen h = (
      plan_binds v seen (λ x m. h x (subst T (sym (mentions_field x k v fs)) (or_right (mentions x k) (mentions x v || mentions_fields x fs) (or_left (mentions x v) (mentions_fields x fs) m)))),
      fields_bind fs (seenAfter unbound v seen) (λ x m. h x (subst T (sym (mentions_field x k v fs)) (or_right (mentions x k) (mentions x v || mentions_fields x fs) (or_right (mentions x v) (mentions_fields x fs) m)))),
    )

module _ (P : Value → Type 0) (Items : Values → Type 0) (Under : ValueFields → Type 0) (parts : Parts P Items Under) (Q : ℕ → Type 0) where
  abbrev pub Holds : Env → Type 0
  Holds env = (x : ℕ) (w : Value) → env x ≡ some w → P w

  -- what the names have at the end, if they had it at the start
  pub record Ended (env env' : Env) : Type 0 where
    pub values : Holds env → Holds env'
    pub keeps : (x : ℕ) → ¬ Q x → env' x ≡ env x

  abbrev EndsIn : Env → MatchOutcome → Type 0
  EndsIn env o = (env' : Env) → o ≡ matched env' → Ended env env'

  unchanged : (env : Env) → EndsIn env (matched env)
  unchanged env env' e = let q : env ≡ env' = cc in rw (← q) (record { values = λ h. h; keeps = λ x n. refl })

  no_match : (env : Env) → EndsIn env missed
  no_match env env' e = absurd (false≢true (cc))

  no_end : (env : Env) → EndsIn env fault
  no_end env env' e = absurd (false≢true (cc))

  pub under_part : (k : Literal) (gs : ValueFields) → Under gs → (w : Value) → under k gs ≡ some w → P w
  unfolding under
  under_part k doneᵛ h w e = absurd (false≢true (cc))
  under_part k (fieldᵛ l v gs) h w e = go (same_key k l) (under_part k gs (parts.rest l v gs h) w) e
    where
      go : (b : Bool) → (under k gs ≡ some w → P w) → first_hit b v (under k gs) ≡ some w → P w
      go true f q = let r : v ≡ w = cc in rw (sym r) (parts.first l v gs h)
      go false f q = f q

  pub key_part : (κ : Option Literal) (gs : ValueFields) → Under gs → (w : Value) → under_key κ gs ≡ some w → P w
  key_part (some k) gs h w e = under_part k gs h w e
  key_part none gs h w e = absurd (false≢true (cc))

  set_ends : (x : ℕ) (v : Value) (env : Env) (o : Option Value) → Q x → P v → EndsIn env (setting x v env o)
  set_ends x v env none q p env' e =
      let i : assign x v env ≡ env' = cc in
      rw (← i) (record { values = λ h y w j. go y w (eqb y x) h j; keeps = λ y n. stay y (eqb y x) refl n })
    where
      go : (y : ℕ) (w : Value) (b : Bool) → Holds env → pick_value b (some v) (env y) ≡ some w → P w
      go y w true h j = let r : v ≡ w = cc in rw (← r) p
      go y w false h j = h y w j

      stay : (y : ℕ) (b : Bool) → eqb y x ≡ b → ¬ Q y → pick_value b (some v) (env y) ≡ env y
      stay y true j n = let r : y ≡ x = eqb→eq y x (true_is j) in absurd (n (rw r q))
      stay y false j n = refl
  set_ends x v env (some u) q p env' e = absurd (false≢true (cc))

  compared_ends : (c : Conditions) (env : Env) → EndsIn env (compared_by c env).end
  compared_ends c env env' e = go c.rest e
    where
      go : (b : Bool) → provided b (matched env) ≡ matched env' → Ended env env'
      go true e = unchanged env env' e
      go false e = no_match env env' e

  with_ends : (v : Value) (env : Env) (o : Option Value) → EndsIn env (compared_with v env o).end
  with_ends v env none = no_end env
  with_ends v env (some u) = compared_ends (equal_if u v) env

  providing_ends : (b : Bool) (w : Walk) (env : Env) → EndsIn env w.end → EndsIn env (providing b w).end
  providing_ends true w env h = h
  providing_ends false w env h = no_match env

  then_ends : (w : Walk) (f : Env → Walk) (env : Env) → EndsIn env w.end → ((env' : Env) → EndsIn env' (f env').end) → EndsIn env (then_walk w f).end
  then_ends w f env h g env'' e = go w.end refl e
    where
      go : (o : MatchOutcome) → w.end ≡ o → (onwards w.numbers o f).end ≡ matched env'' → Ended env env''
      go (matched env') q r =
          let a = h env' q in
          let b = g env' env'' r in
          record { values = λ k. b.values (a.values k); keeps = λ x n. b.keeps x n ∙ a.keeps x n }
      go missed q r = absurd (false≢true (cc))
      go fault q r = absurd (false≢true (cc))

  at_ends : (o : Option Value) (f : Value → Walk) (env : Env) → ((v : Value) → o ≡ some v → EndsIn env (f v).end) → EndsIn env (walk_at o f).end
  at_ends none f env h = no_match env
  at_ends (some v) f env h = h v refl

  mutual
    unfolding walk

    pub walk_ends : (p : DestructuringPlan) (v : Value) (env : Env) → Binds Q p → P v → EndsIn env (walk p v env).end
    walk_ends (var n x) v env b h = set_ends x v env (env x) b h
    walk_ends (ignore n) v env b h = unchanged env
    walk_ends (equality_expr e) v env b h = with_ends v env (name_in env e)
    walk_ends (equality_value n l) v env b h = compared_ends (value_is l v) env
    walk_ends (array_plan n ps) (literalᵛ m k) env b h = no_match env
    walk_ends (array_plan n ps) (arrayᵛ m vs) env b h = providing_ends (same_length ps vs) (walk_items ps vs env) env (items_end ps vs env b (parts.items m vs h))
    walk_ends (array_plan n ps) (objectᵛ m gs) env b h = no_match env
    walk_ends (object_plan n fs) (literalᵛ m k) env b h = no_match env
    walk_ends (object_plan n fs) (arrayᵛ m vs) env b h = no_match env
    walk_ends (object_plan n fs) (objectᵛ m gs) env b h = providing_ends (same_key_sets (plan_keys fs) (keysᵛ gs)) (walk_fields fs gs env) env (fields_end fs gs env b (parts.fields m gs h))

    items_end : (ps : Plans) (vs : Values) (env : Env) → BindsAll Q ps → Items vs → EndsIn env (walk_items ps vs env).end
    items_end no_plan vs env b h = unchanged env
    items_end (item_plan p ps) noneᵛ env b h = no_match env
    items_end (item_plan p ps) (itemᵛ v vs) env b h = then_ends (walk p v env) (λ env'. walk_items ps vs env') env (walk_ends p v env b.0 (parts.head v vs h)) (λ env'. items_end ps vs env' b.1 (parts.tail v vs h))

    fields_end : (fs : FieldPlans) (gs : ValueFields) (env : Env) → BindsFields Q fs → Under gs → EndsIn env (walk_fields fs gs env).end
    fields_end no_field gs env b h = unchanged env
    fields_end (field_plan k p fs) gs env b h = at_ends (under_key (literal_key k) gs) (λ v. then_walk (walk p v env) (λ env'. walk_fields fs gs env')) env
        (λ v e. then_ends (walk p v env) (λ env'. walk_fields fs gs env') env (walk_ends p v env b.0 (key_part (literal_key k) gs h v e)) (λ env'. fields_end fs gs env' b.1 h))

-- of a pattern's plan: only planned names are set
module _ (P : Value → Type 0) (Items : Values → Type 0) (Under : ValueFields → Type 0) (parts : Parts P Items Under) (unbound : ℕ → Bool) (e : Expr) (v : Value) (env env' : Env) where
  pub plan_ends : P v → (walk (plan unbound e []) v env).end ≡ matched env' → Ended P Items Under parts (Planned unbound e) env env'
  plan_ends h q = walk_ends P Items Under parts (Planned unbound e) (plan unbound e []) v env (plan_binds unbound (Planned unbound e) e [] (λ x m u. planned x m u)) h env' q
    where
      planned : (x : ℕ) → T (mentions x e) → T (unbound x) → Planned unbound e x
      planned x m u = let a : mentions x e ≡ true = is_true m in rw a u
