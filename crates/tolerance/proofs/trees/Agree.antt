-- A run reads no name that its pattern does not have: so it makes no difference whether `_` is listed. With exact ranges, a run with tolerances is the present run.
use Prim.Native.Nat.{ℕ}
use mathlib.Core.Bool.{Bool, true, false, cond, ◌||◌}
use mathlib.Core.List.{List}
use mathlib.Core.Option.{Option, none, some}
use mathlib.Core.Path.{◌≡◌, refl, sym, ap, subst}
use lib.Dec.{T as True, eqb, eqb_refl}
use Rattle.table.specs.Expr as Expr
use Rattle.table.specs.Expr.{Expr, literal, name, wildcard, array, set, object, other, Exprs, item, Fields, done, field}
use Rattle.planner.specs.Plan.{DestructuringPlan, var, ignore, equality_expr, equality_value, array_plan, object_plan, Plans, no_plan, item_plan, FieldPlans, no_field, field_plan, plan, plans, field_plans, after, fresh}
use Rattle.planner.specs.Layout.{literal_key}
use Rattle.planner.specs.Simple.{mentions}
use Rattle.planner.proofs.laws.Mentions.{mentions_any, mentions_fields, mentions_name, mentions_item, mentions_field}
use Rattle.base.specs.Lists.{elem}
use Rattle.value.specs.Value.{Value, literalᵛ, arrayᵛ, objectᵛ, Values, noneᵛ, itemᵛ, ValueFields, keysᵛ, same_key_sets, same}
use Rattle.value.proofs.Keys.{or_left, or_right}
use Rattle.matching.specs.Matching.{Env, MatchOutcome, matched, missed, fault, pick_value, setting, provided, comparing, name_in, next, at, under_key, plan_keys, same_length, run, run_items, run_fields}
use Rattle.planner.specs.Names.{occurrences, names_of}

-- what two runs come to, if the names of P have the same values
pub data Alike (P : ℕ → Type 0) : MatchOutcome → MatchOutcome → Type 0 where
  both_matched : {a b : Env} → ((x : ℕ) → P x → a x ≡ b x) → Alike P (matched a) (matched b)
  both_missed : Alike P missed missed
  both_fault : Alike P fault fault

-- the names that a plan reads or sets are of P
abbrev pub of_name : (ℕ → Type 0) → Expr → Type 0
of_name P (literal n l) = Unit {0}
of_name P (name n x) = P x
of_name P (wildcard n) = Unit {0}
of_name P (array n es) = Unit {0}
of_name P (set n es) = Unit {0}
of_name P (object n fs) = Unit {0}
of_name P (other n) = Unit {0}

abbrev mutual
  pub Uses : (ℕ → Type 0) → DestructuringPlan → Type 0
  Uses P (var n x) = P x
  Uses P (ignore n) = Unit {0}
  Uses P (equality_expr e) = of_name P e
  Uses P (equality_value n l) = Unit {0}
  Uses P (array_plan n ps) = UsesAll P ps
  Uses P (object_plan n fs) = UsesFields P fs

  pub UsesAll : (ℕ → Type 0) → Plans → Type 0
  UsesAll P no_plan = Unit {0}
  UsesAll P (item_plan p ps) = Uses P p × UsesAll P ps

  pub UsesFields : (ℕ → Type 0) → FieldPlans → Type 0
  UsesFields P no_field = Unit {0}
  UsesFields P (field_plan k p fs) = Uses P p × UsesFields P fs

module _ (unbound : ℕ → Bool) (P : ℕ → Type 0) where
  mutual
    unfolding plan occurrences names_of elem

    pub plan_uses : (e : Expr) (seen : List ℕ) → ((x : ℕ) → True (mentions x e) → P x) → Uses P (plan unbound e seen)
    plan_uses (literal n l) seen h = tt
    plan_uses (name n x) seen h = go (fresh unbound seen x)
      where
        go : (b : Bool) → Uses P (cond b (var n x) (equality_expr (name n x)))
        go true = h x (subst True (sym (mentions_name x n x)) (eqb_refl x))
        go false = h x (subst True (sym (mentions_name x n x)) (eqb_refl x))
    plan_uses (wildcard n) seen h = tt
    plan_uses (array n es) seen h = plans_use es seen h
    plan_uses (set n es) seen h = tt
    plan_uses (object n fs) seen h = fields_use fs seen h
    plan_uses (other n) seen h = tt

    plans_use : (es : Exprs) (seen : List ℕ) → ((x : ℕ) → True (mentions_any x es) → P x) → UsesAll P (plans unbound es seen)
    plans_use Expr.none seen h = tt
    plans_use (item e es) seen h = (plan_uses e seen (λ x m. h x (subst True (sym (mentions_item x e es)) (or_left (mentions x e) (mentions_any x es) m))), plans_use es (after unbound e seen) (λ x m. h x (subst True (sym (mentions_item x e es)) (or_right (mentions x e) (mentions_any x es) m))))

    fields_use : (fs : Fields) (seen : List ℕ) → ((x : ℕ) → True (mentions_fields x fs) → P x) → UsesFields P (field_plans unbound fs seen)
    fields_use done seen h = tt
    fields_use (field k v fs) seen h = (
      plan_uses v seen (λ x m. h x (subst True (sym (mentions_field x k v fs)) (or_right (mentions x k) (mentions x v || mentions_fields x fs) (or_left (mentions x v) (mentions_fields x fs) m)))),
      fields_use fs (after unbound v seen) (λ x m. h x (subst True (sym (mentions_field x k v fs)) (or_right (mentions x k) (mentions x v || mentions_fields x fs) (or_right (mentions x v) (mentions_fields x fs) m)))),
    )

module _ (P : ℕ → Type 0) where
  abbrev pub Same : Env → Env → Type 0
  Same a b = (x : ℕ) → P x → a x ≡ b x

  provided_alike : (c : Bool) {o p : MatchOutcome} → Alike P o p → Alike P (provided c o) (provided c p)
  provided_alike true h = h
  provided_alike false h = both_missed

  next_alike : {o p : MatchOutcome} (f g : Env → MatchOutcome) → Alike P o p → ((a b : Env) → Same a b → Alike P (f a) (g b)) → Alike P (next o f) (next p g)
  next_alike f g (both_matched {a = a} {b = b} h) k = k a b h
  next_alike f g both_missed k = both_missed
  next_alike f g both_fault k = both_fault

  set_alike : (x : ℕ) (v : Value) (a b : Env) → Same a b → (o : Option Value) → Alike P (setting x v a o) (setting x v b o)
  set_alike x v a b h none = both_matched (λ y p. ap (pick_value (eqb y x) (some v)) (h y p))
  set_alike x v a b h (some u) = both_fault

  compare_alike : (v : Value) (a b : Env) → Same a b → (o : Option Value) → Alike P (comparing v a o) (comparing v b o)
  compare_alike v a b h none = both_fault
  compare_alike v a b h (some u) = provided_alike (same u v) (both_matched h)

  name_alike : (a b : Env) → Same a b → (e : Expr) → of_name P e → name_in b e ≡ name_in a e
  name_alike a b h (literal n l) u = refl
  name_alike a b h (name n x) u = sym (h x u)
  name_alike a b h (wildcard n) u = refl
  name_alike a b h (array n es) u = refl
  name_alike a b h (set n es) u = refl
  name_alike a b h (object n fs) u = refl
  name_alike a b h (other n) u = refl

  at_alike : (o : Option Value) (f g : Value → MatchOutcome) → ((v : Value) → Alike P (f v) (g v)) → Alike P (at o f) (at o g)
  at_alike none f g h = both_missed
  at_alike (some v) f g h = h v

  mutual
    unfolding run

    pub run_alike : (p : DestructuringPlan) (v : Value) (a b : Env) → Uses P p → Same a b → Alike P (run p v a) (run p v b)
    run_alike (var n x) v a b u h = rw (sym (h x u)) (set_alike x v a b h (a x))
    run_alike (ignore n) v a b u h = both_matched h
    run_alike (equality_expr e) v a b u h = rw (name_alike a b h e u) (compare_alike v a b h (name_in a e))
    run_alike (equality_value n l) v a b u h = provided_alike (same (literalᵛ n l) v) (both_matched h)
    run_alike (array_plan n ps) (literalᵛ m k) a b u h = both_missed
    run_alike (array_plan n ps) (arrayᵛ m vs) a b u h = provided_alike (same_length ps vs) (items_alike ps vs a b u h)
    run_alike (array_plan n ps) (objectᵛ m gs) a b u h = both_missed
    run_alike (object_plan n fs) (literalᵛ m k) a b u h = both_missed
    run_alike (object_plan n fs) (arrayᵛ m vs) a b u h = both_missed
    run_alike (object_plan n fs) (objectᵛ m gs) a b u h = provided_alike (same_key_sets (plan_keys fs) (keysᵛ gs)) (fields_alike fs gs a b u h)

    items_alike : (ps : Plans) (vs : Values) (a b : Env) → UsesAll P ps → Same a b → Alike P (run_items ps vs a) (run_items ps vs b)
    items_alike no_plan vs a b u h = both_matched h
    items_alike (item_plan p ps) noneᵛ a b u h = both_missed
    items_alike (item_plan p ps) (itemᵛ v vs) a b u h = next_alike (λ c. run_items ps vs c) (λ c. run_items ps vs c) (run_alike p v a b u.0 h) (λ c d k. items_alike ps vs c d u.1 k)

    fields_alike : (fs : FieldPlans) (gs : ValueFields) (a b : Env) → UsesFields P fs → Same a b → Alike P (run_fields fs gs a) (run_fields fs gs b)
    fields_alike no_field gs a b u h = both_matched h
    fields_alike (field_plan k p fs) gs a b u h = at_alike (under_key (literal_key k) gs) (λ v. next (run p v a) (λ c. run_fields fs gs c)) (λ v. next (run p v b) (λ c. run_fields fs gs c))
        (λ v. next_alike (λ c. run_fields fs gs c) (λ c. run_fields fs gs c) (run_alike p v a b u.0 h) (λ c d j. fields_alike fs gs c d u.1 j))
