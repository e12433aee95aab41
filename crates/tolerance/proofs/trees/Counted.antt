-- The equalities that a walk collects are between nodes of the values that it is given, and with allowed numbers if the pattern's are.
use Prim.Native.Nat.{ℕ}
use mathlib.Core.Bool.{Bool, true, false, cond, false≢true}
use mathlib.Core.List.{List, [], ◌∷◌, ◌++◌}
use mathlib.Core.Option.{Option, none, some}
use mathlib.Core.Path.{◌≡◌, refl}
use lib.Dec.{T, eqb_refl}
use Rattle.literal.specs.Literal.{Literal, null, boolean, number, string}
use Rattle.planner.specs.Plan.{DestructuringPlan, var, ignore, equality_expr, equality_value, array_plan, object_plan, Plans, no_plan, item_plan, FieldPlans, no_field, field_plan, plan, plans, field_plans, after as seenAfter, fresh}
use Rattle.planner.specs.Layout.{literal_key}
use Rattle.table.specs.Expr as Expr
use Rattle.table.specs.Expr.{Expr, literal, name, wildcard, array, set, object, other, Exprs, item, Fields, done, field}
use Rattle.value.specs.Value.{Value, literalᵛ, arrayᵛ, objectᵛ, Values, noneᵛ, itemᵛ, ValueFields, doneᵛ, fieldᵛ, keysᵛ, same_key_sets, under}
use Rattle.value.proofs.Keys.{and_left, and_right, or_left, or_right}
use Rattle.matching.specs.Matching.{Env, MatchOutcome, matched, missed, fault, name_in, under_key, plan_keys, same_length}
use Rattle.tolerance.specs.code.Classes.{Equality}
use Rattle.tolerance.specs.Tolerance.{Number, is_allowed, has_number, has_number_any, has_number_under}
use Rattle.tolerance.specs.code.Trees.{literal_allowed, numbers_allowed, numbers_allowed_all, numbers_allowed_fields}
use Rattle.tolerance.specs.code.Decision.{literals_equal, found, equal_if, items_equal_if, fields_equal_if, literal_is, value_is, Walk, compared_with, providing, then_walk, onwards, walk_at, walk, walk_items, walk_fields}
use Rattle.tolerance.proofs.orders.Numbers.{num_order_lem}
use Rattle.tolerance.proofs.orders.Unify.{AllCount}
use Rattle.tolerance.proofs.trees.Ends.{Parts, Binds, BindsAll, BindsFields, plan_binds, under_part, key_part, walk_ends}

-- the plan's own numbers are allowed
abbrev mutual
  Allows : DestructuringPlan → Type 0
  Allows (var n x) = Unit {0}
  Allows (ignore n) = Unit {0}
  Allows (equality_expr e) = Unit {0}
  Allows (equality_value n l) = T (literal_allowed l)
  Allows (array_plan n ps) = AllowsAll ps
  Allows (object_plan n fs) = AllowsFields fs

  AllowsAll : Plans → Type 0
  AllowsAll no_plan = Unit {0}
  AllowsAll (item_plan p ps) = Allows p × AllowsAll ps

  AllowsFields : FieldPlans → Type 0
  AllowsFields no_field = Unit {0}
  AllowsFields (field_plan k p fs) = Allows p × AllowsFields fs

module _ (unbound : ℕ → Bool) where
  mutual
    unfolding plan numbers_allowed

    plan_allows : (e : Expr) (seen : List ℕ) → T (numbers_allowed e) → Allows (plan unbound e seen)
    plan_allows (literal n l) seen t = t
    plan_allows (name n x) seen t = go (fresh unbound seen x)
      where
        go : (b : Bool) → Allows (cond b (var n x) (equality_expr (name n x)))
        go true = tt
        go false = tt
    plan_allows (wildcard n) seen t = tt
    plan_allows (array n es) seen t = plans_allow es seen t
    plan_allows (set n es) seen t = tt
    plan_allows (object n fs) seen t = fields_allow fs seen t
    plan_allows (other n) seen t = tt

    plans_allow : (es : Exprs) (seen : List ℕ) → T (numbers_allowed_all es) → AllowsAll (plans unbound es seen)
    plans_allow Expr.none seen t = tt
    plans_allow (item e es) seen t = (plan_allows e seen (and_left (numbers_allowed e) (numbers_allowed_all es) t), plans_allow es (seenAfter unbound e seen) (and_right (numbers_allowed e) (numbers_allowed_all es) t))

    fields_allow : (fs : Fields) (seen : List ℕ) → T (numbers_allowed_fields fs) → AllowsFields (field_plans unbound fs seen)
    fields_allow done seen t = tt
    fields_allow (field k v fs) seen t = (plan_allows v seen (and_left (numbers_allowed v) (numbers_allowed_fields fs) t), fields_allow fs (seenAfter unbound v seen) (and_right (numbers_allowed v) (numbers_allowed_fields fs) t))

module _ (K : ℕ → Type 0) where
  abbrev pub Count : List (Equality Number) → Type 0
  Count qs = AllCount num_order_lem K is_allowed qs

  -- every number of a value counts; of all values that names have
  abbrev pub Covers : Value → Type 0
  Covers v = (n : ℕ) → T (has_number n v) → K n

  abbrev pub CoversEnv : Env → Type 0
  CoversEnv env = (x : ℕ) (w : Value) → env x ≡ some w → Covers w

  count_append : (ps qs : List (Equality Number)) → Count ps → Count qs → Count (ps ++ qs)
  count_append [] qs a b = b
  count_append (p ∷ ps) qs (a, as') b = (a, count_append ps qs as' b)

  covered : Parts Covers (λ vs. (n : ℕ) → T (has_number_any n vs) → K n) (λ fs. (n : ℕ) → T (has_number_under n fs) → K n)
  unfolding has_number
  covered = record {
    items = λ m vs h. h;
    head = λ v vs h n t. h n (or_left (has_number n v) (has_number_any n vs) t);
    tail = λ v vs h n t. h n (or_right (has_number n v) (has_number_any n vs) t);
    fields = λ m fs h. h;
    first = λ k v fs h n t. h n (or_left (has_number n v) (has_number_under n fs) t);
    rest = λ k v fs h n t. h n (or_right (has_number n v) (has_number_under n fs) t);
  }

  abbrev CoversAll : Values → Type 0
  CoversAll vs = (n : ℕ) → T (has_number_any n vs) → K n

  abbrev CoversUnder : ValueFields → Type 0
  CoversUnder fs = (n : ℕ) → T (has_number_under n fs) → K n

  abbrev Any : ℕ → Type 0
  Any x = Unit {0}

  literals_count : (n : ℕ) (l : Literal) (m : ℕ) (k : Literal) → Covers (literalᵛ n l) → Covers (literalᵛ m k) → Count (literals_equal n l m k).numbers
  unfolding has_number
  literals_count n null m k a b = tt
  literals_count n (boolean d) m k a b = tt
  literals_count n (number s i) m null a b = tt
  literals_count n (number s i) m (boolean d) a b = tt
  literals_count n (number s i) m (number t j) a b = ((a n (eqb_refl n), b m (eqb_refl m)), tt)
  literals_count n (number s i) m (string bs) a b = tt
  literals_count n (string bs) m k a b = tt

  found_counts : (v : Value) (o : Option Value) → ((w : Value) → Covers w → Count (equal_if v w).numbers) → ((w : Value) → o ≡ some w → Covers w) → Count (found (λ w. equal_if v w) o).numbers
  found_counts v none f g = tt
  found_counts v (some w) f g = f w (g w refl)

  mutual
    unfolding equal_if has_number

    equal_counts : (v w : Value) → Covers v → Covers w → Count (equal_if v w).numbers
    equal_counts (literalᵛ n l) (literalᵛ m k) a b = literals_count n l m k a b
    equal_counts (literalᵛ n l) (arrayᵛ m ws) a b = tt
    equal_counts (literalᵛ n l) (objectᵛ m gs) a b = tt
    equal_counts (arrayᵛ n vs) (literalᵛ m k) a b = tt
    equal_counts (arrayᵛ n vs) (arrayᵛ m ws) a b = items_count vs ws a b
    equal_counts (arrayᵛ n vs) (objectᵛ m gs) a b = tt
    equal_counts (objectᵛ n fs) (literalᵛ m k) a b = tt
    equal_counts (objectᵛ n fs) (arrayᵛ m ws) a b = tt
    equal_counts (objectᵛ n fs) (objectᵛ m gs) a b = fields_count fs gs a b

    items_count : (vs ws : Values) → CoversAll vs → CoversAll ws → Count (items_equal_if vs ws).numbers
    items_count noneᵛ noneᵛ a b = tt
    items_count noneᵛ (itemᵛ w ws) a b = tt
    items_count (itemᵛ v vs) noneᵛ a b = tt
    items_count (itemᵛ v vs) (itemᵛ w ws) a b = count_append (equal_if v w).numbers (items_equal_if vs ws).numbers
        (equal_counts v w (covered.head v vs a) (covered.head w ws b))
        (items_count vs ws (covered.tail v vs a) (covered.tail w ws b))

    fields_count : (fs gs : ValueFields) → CoversUnder fs → CoversUnder gs → Count (fields_equal_if fs gs).numbers
    fields_count doneᵛ gs a b = tt
    fields_count (fieldᵛ k v fs) gs a b = count_append (found (λ w. equal_if v w) (under k gs)).numbers (fields_equal_if fs gs).numbers
        (found_counts v (under k gs) (λ w h. equal_counts v w (covered.first k v fs a) h) (under_part Covers CoversAll CoversUnder covered Any k gs b))
        (fields_count fs gs (covered.rest k v fs a) b)

  own_counts : (l : Literal) (m : ℕ) (k : Literal) → T (literal_allowed l) → Covers (literalᵛ m k) → Count (literal_is l m k).numbers
  unfolding has_number
  own_counts null m k t a = tt
  own_counts (boolean b) m k t a = tt
  own_counts (number s i) m null t a = tt
  own_counts (number s i) m (boolean b) t a = tt
  own_counts (number s i) m (number u j) t a = ((a m (eqb_refl m), t), tt)
  own_counts (number s i) m (string bs) t a = tt
  own_counts (string bs) m k t a = tt

  is_counts : (l : Literal) (v : Value) → T (literal_allowed l) → Covers v → Count (value_is l v).numbers
  is_counts l (literalᵛ m k) t a = own_counts l m k t a
  is_counts l (arrayᵛ m vs) t a = tt
  is_counts l (objectᵛ m fs) t a = tt

  with_counts : (v : Value) (env : Env) (o : Option Value) → Covers v → ((u : Value) → o ≡ some u → Covers u) → Count (compared_with v env o).numbers
  with_counts v env none a f = tt
  with_counts v env (some u) a f = equal_counts u v (f u refl) a

  name_covers : (env : Env) (e : Expr) → CoversEnv env → (u : Value) → name_in env e ≡ some u → Covers u
  name_covers env (literal n l) h u q = absurd (false≢true (cc))
  name_covers env (name n x) h u q = h x u q
  name_covers env (wildcard n) h u q = absurd (false≢true (cc))
  name_covers env (array n es) h u q = absurd (false≢true (cc))
  name_covers env (set n es) h u q = absurd (false≢true (cc))
  name_covers env (object n fs) h u q = absurd (false≢true (cc))
  name_covers env (other n) h u q = absurd (false≢true (cc))

  providing_counts : (b : Bool) (w : Walk) → Count w.numbers → Count (providing b w).numbers
  providing_counts true w h = h
  providing_counts false w h = tt

  then_counts : (w : Walk) (f : Env → Walk) → Count w.numbers → ((env : Env) → w.end ≡ matched env → Count (f env).numbers) → Count (then_walk w f).numbers
  then_counts w f h g = go w.end refl
    where
      go : (o : MatchOutcome) → w.end ≡ o → Count (onwards w.numbers o f).numbers
      go (matched env) q = count_append w.numbers (f env).numbers h (g env q)
      go missed q = h
      go fault q = h

  at_counts : (o : Option Value) (f : Value → Walk) → ((v : Value) → o ≡ some v → Count (f v).numbers) → Count (walk_at o f).numbers
  at_counts none f h = tt
  at_counts (some v) f h = h v refl

  -- the names' values after a walk are covered
  still : (p : DestructuringPlan) (v : Value) (env env' : Env) → Binds Any p → Covers v → CoversEnv env → (walk p v env).end ≡ matched env' → CoversEnv env'
  still p v env env' b a h q = (walk_ends Covers CoversAll CoversUnder covered Any p v env b a env' q).values h

  mutual
    unfolding walk

    walk_counts : (p : DestructuringPlan) (v : Value) (env : Env) → Allows p → Binds Any p → Covers v → CoversEnv env → Count (walk p v env).numbers
    walk_counts (var n x) v env l b a h = tt
    walk_counts (ignore n) v env l b a h = tt
    walk_counts (equality_expr e) v env l b a h = with_counts v env (name_in env e) a (name_covers env e h)
    walk_counts (equality_value n k) v env l b a h = is_counts k v l a
    walk_counts (array_plan n ps) (literalᵛ m k) env l b a h = tt
    walk_counts (array_plan n ps) (arrayᵛ m vs) env l b a h = providing_counts (same_length ps vs) (walk_items ps vs env) (items_walk ps vs env l b (covered.items m vs a) h)
    walk_counts (array_plan n ps) (objectᵛ m gs) env l b a h = tt
    walk_counts (object_plan n fs) (literalᵛ m k) env l b a h = tt
    walk_counts (object_plan n fs) (arrayᵛ m vs) env l b a h = tt
    walk_counts (object_plan n fs) (objectᵛ m gs) env l b a h = providing_counts (same_key_sets (plan_keys fs) (keysᵛ gs)) (walk_fields fs gs env) (fields_walk fs gs env l b (covered.fields m gs a) h)

    items_walk : (ps : Plans) (vs : Values) (env : Env) → AllowsAll ps → BindsAll Any ps → CoversAll vs → CoversEnv env → Count (walk_items ps vs env).numbers
    items_walk no_plan vs env l b a h = tt
    items_walk (item_plan p ps) noneᵛ env l b a h = tt
    items_walk (item_plan p ps) (itemᵛ v vs) env l b a h =
        let here = covered.head v vs a in
        then_counts (walk p v env) (λ env'. walk_items ps vs env') (walk_counts p v env l.0 b.0 here h) (λ env' q. items_walk ps vs env' l.1 b.1 (covered.tail v vs a) (still p v env env' b.0 here h q))

    fields_walk : (fs : FieldPlans) (gs : ValueFields) (env : Env) → AllowsFields fs → BindsFields Any fs → CoversUnder gs → CoversEnv env → Count (walk_fields fs gs env).numbers
    fields_walk no_field gs env l b a h = tt
    fields_walk (field_plan k p fs) gs env l b a h = at_counts (under_key (literal_key k) gs) (λ v. then_walk (walk p v env) (λ env'. walk_fields fs gs env')) (λ v e.
        let here = key_part Covers CoversAll CoversUnder covered Any (literal_key k) gs a v e in
        then_counts (walk p v env) (λ env'. walk_fields fs gs env') (walk_counts p v env l.0 b.0 here h) (λ env' q. fields_walk fs gs env' l.1 b.1 a (still p v env env' b.0 here h q)))

  pub plan_counts : (unbound : ℕ → Bool) (e : Expr) (v : Value) (env : Env) → T (numbers_allowed e) → Covers v → CoversEnv env → Count (walk (plan unbound e []) v env).numbers
  plan_counts unbound e v env t a h = walk_counts (plan unbound e []) v env (plan_allows unbound e [] t) (plan_binds unbound Any e [] (λ x m u. tt)) a h
