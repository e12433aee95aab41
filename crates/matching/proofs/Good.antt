-- A run that keeps to the written order: what holds of each part of a pattern, and how parts are put together.
use Prim.Native.Nat.{ℕ}
use mathlib.Core.Bool.{Bool, true, false, cond, ◌&&◌, ◌||◌, not, false≢true, and-false}
use mathlib.Core.List.{List, ◌∷◌}
use mathlib.Core.Option.{Option, none, some}
use mathlib.Core.Path.{◌≡◌, refl, ap, sym, ◌∙◌}
use lib.Dec.{T, eqb, eqb→eq, eqb_refl}
use Rattle.table.specs.Expr.{name}
use Rattle.base.specs.Lists.{elem}
use Rattle.planner.specs.Plan.{var, equality_expr, fresh}
use Rattle.value.specs.Value.{Value, Proper, same, Same}
use Rattle.matching.specs.Matching.{Env, MatchOutcome, matched, missed, pick_value, assign, provided, next, run}
use Rattle.value.proofs.Keys.{or_left, or_right, or_elim, is_true, is_false, true_is}
use Rattle.value.proofs.Equal.{same_refl, same_from}

abbrev pub is_none : Option Value → Bool
is_none none = true
is_none (some u) = false

-- names' values agree with those set so far
abbrev pub Agree : (ℕ → Value) → Env → Type 0
Agree ρ env = (x : ℕ) (u : Value) → env x ≡ some u → Same (ρ x) u

abbrev pub Extends : (ℕ → Value) → Env → Type 0
Extends ρ env = (x : ℕ) (u : Value) → env x ≡ some u → ρ x ≡ u

some≢none : {u : Value} → some u ≡ none → ⊥
some≢none {u} e = false≢true (ap is_none e)

-- what a name has once x is set to v
module _ (x : ℕ) (v : Value) (env : Env) (y : ℕ) where
  assigned : T (eqb y x) → assign x v env y ≡ some v
  assigned t = let e : eqb y x ≡ true = is_true t in rw e

  other : ¬ T (eqb y x) → assign x v env y ≡ env y
  other f = let e : eqb y x ≡ false = is_false f in rw e

  reading : {C : Type 0} (u : Value) → assign x v env y ≡ some u → (y ≡ x → v ≡ u → C) → (env y ≡ some u → C) → C
  reading {C} u q f g = go (eqb y x) refl q
    where
      go : (c : Bool) → eqb y x ≡ c → pick_value c (some v) (env y) ≡ some u → C
      go true e r = f (eqb→eq y x (true_is e)) (cc)
      go false e r = g r

module _ (unbound : ℕ → Bool) (Ok : ℕ → Type 0) where
  -- of the names that matter, just those still to be planned have no value
  pub record State (seen : List ℕ) (env : Env) : Type 0 where
    pub in_step_lem : (x : ℕ) → Ok x → fresh unbound seen x ≡ is_none (env x)
    pub all_proper : (x : ℕ) (u : Value) → env x ≡ some u → Proper u

  -- A part with the names N, fitted by the names' values that F says, is run to a match.
  pub record Hit (env : Env) (N : ℕ → Bool) (seen : List ℕ) (F : (ℕ → Value) → Type 0) (env' : Env) : Type 0 where
    pub state : State seen env'
    pub kept : (x : ℕ) → ¬ T (N x) → env' x ≡ env x
    pub extends : (x : ℕ) (u : Value) → env x ≡ some u → env' x ≡ some u
    pub has : (x : ℕ) → T (N x) → (u : Value) × (env' x ≡ some u)
    pub sound : (ρ : ℕ → Value) → Extends ρ env' → F ρ
    pub complete : (ρ : ℕ → Value) → Agree ρ env → F ρ → Agree ρ env'

  pub data Good (env : Env) (N : ℕ → Bool) (seen : List ℕ) (F : (ℕ → Value) → Type 0) : MatchOutcome → Type 0 where
    hit : {env' : Env} → Hit env N seen F env' → Good env N seen F (matched env')
    miss : ((ρ : ℕ → Value) → Agree ρ env → F ρ → ⊥) → Good env N seen F missed

  module _ {env : Env} {seen : List ℕ} where
    -- nothing is set
    pub pass : {N : ℕ → Bool} {F : (ℕ → Value) → Type 0} → State seen env → ((x : ℕ) → T (N x) → (u : Value) × (env x ≡ some u)) → ((ρ : ℕ → Value) → Extends ρ env → F ρ) → Good env N seen F (matched env)
    pass s h f = hit (record { state = s; kept = λ x n. refl; extends = λ x u e. e; has = h; sound = f; complete = λ ρ a g. a })

    pub when : {N : ℕ → Bool} {F : (ℕ → Value) → Type 0} {o : MatchOutcome} (c : Bool) → (T c → Good env N seen F o) → ((ρ : ℕ → Value) → Agree ρ env → F ρ → T c) → Good env N seen F (provided c o)
    when true g f = g tt
    when false g f = miss f

    pub also : {N M : ℕ → Bool} {F G : (ℕ → Value) → Type 0} {o : MatchOutcome} → ((x : ℕ) → N x ≡ M x) → ((ρ : ℕ → Value) → F ρ → G ρ) → ((ρ : ℕ → Value) → G ρ → F ρ) → Good env N seen F o → Good env M seen G o
    also q to from (hit h) = hit (record { state = h.state; kept = λ x n. h.kept x (λ t. n (rw (q x) at t)); extends = h.extends; has = λ x t. h.has x (rw (q x) t); sound = λ ρ a. to ρ (h.sound ρ a); complete = λ ρ a g. h.complete ρ a (from ρ g) })
    also q to from (miss f) = miss (λ ρ a g. f ρ a (from ρ g))

  module _ {env : Env} {N M : ℕ → Bool} {seen seen' : List ℕ} {F G : (ℕ → Value) → Type 0} where
    second : {env' : Env} {o : MatchOutcome} → Hit env N seen F env' → Good env' M seen' G o → Good env (λ x. N x || M x) seen' (λ ρ. F ρ × G ρ) o
    second h (miss f) = miss (λ ρ a g. f ρ (h.complete ρ a g.0) g.1)
    second {env'} h (hit {env' = env''} k) = hit (record {
      state = k.state;
      kept = λ x n. k.kept x (λ t. n (or_right (N x) (M x) t)) ∙ h.kept x (λ t. n (or_left (N x) (M x) t));
      extends = λ x u e. k.extends x u (h.extends x u e);
      has = λ x t. or_elim (N x) (M x) t (λ s. let (u, e) = h.has x s in (u, k.extends x u e)) (k.has x);
      sound = λ ρ a. (h.sound ρ (λ x u e. a x u (k.extends x u e)), k.sound ρ a);
      complete = λ ρ a g. k.complete ρ (h.complete ρ a g.0) g.1;
    })

    pub and_then : {o : MatchOutcome} {k : Env → MatchOutcome} → Good env N seen F o → ((env' : Env) → State seen env' → Good env' M seen' G (k env')) → Good env (λ x. N x || M x) seen' (λ ρ. F ρ × G ρ) (next o k)
    and_then (miss f) g = miss (λ ρ a b. f ρ a b.0)
    and_then (hit {env' = env'} h) g = second h (g env' h.state)

  -- a name
  module _ (n x : ℕ) (v : Value) (seen : List ℕ) (env : Env) (proper : Proper v) (s : State seen env) where
    bound : env x ≡ none → Good env (λ y. eqb y x) (x ∷ seen) (λ ρ. Same (ρ x) v) (matched (assign x v env))
    unfolding elem
    bound e = hit (record {
      state = record { in_step_lem = λ y ok. step y (eqb y x) (s.in_step_lem y ok); all_proper = λ y u q. reading x v env y u q (λ i j. rw (sym j) proper) (s.all_proper y u) };
      kept = λ y m. other x v env y m;
      extends = λ y u q. other x v env y (λ t. let i : y ≡ x = eqb→eq y x t in some≢none (sym q ∙ (ap env i ∙ e))) ∙ q;
      has = λ y t. (v, assigned x v env y t);
      sound = λ ρ a. rw (a x v (assigned x v env x (eqb_refl x))) (same_refl v proper);
      complete = λ ρ a f y u q. reading x v env y u q (λ i j. rw (i, sym j) f) (a y u);
    })
      where
        step : (y : ℕ) (c : Bool) → fresh unbound seen y ≡ is_none (env y) → (unbound y && not (c || elem y seen)) ≡ is_none (pick_value c (some v) (env y))
        step y true q = and-false (unbound y)
        step y false q = q

    compared : (u : Value) → env x ≡ some u → Good env (λ y. eqb y x) seen (λ ρ. Same (ρ x) v) (provided (same u v) (matched env))
    compared u e = when (same u v)
        (λ t. pass s (λ y r. (u, ap env (eqb→eq y x r) ∙ e)) (λ ρ a. rw (a x u e) t))
        (λ ρ a f. same_from (ρ x) u v (s.all_proper x u e) (a x u e) f)

    pub named : Ok x → Good env (λ y. eqb y x) (cond (fresh unbound seen x) (x ∷ seen) seen) (λ ρ. Same (ρ x) v) (run (cond (fresh unbound seen x) (var n x) (equality_expr (name n x))) v env)
    unfolding run
    named ok = go (fresh unbound seen x) (env x) refl (s.in_step_lem x ok)
      where
        go : (c : Bool) (o : Option Value) → env x ≡ o → c ≡ is_none (env x) → Good env (λ y. eqb y x) (cond c (x ∷ seen) seen) (λ ρ. Same (ρ x) v) (run (cond c (var n x) (equality_expr (name n x))) v env)
        go true none e q = rw e (bound e)
        go true (some u) e q = absurd (false≢true (cc))
        go false none e q = absurd (false≢true (cc))
        go false (some u) e q = rw e (compared u e)
