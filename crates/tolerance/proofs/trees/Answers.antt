-- The decision gives the answer that the choices call for, and no other answer fits.
use Prim.Native.Nat.{ℕ}
use mathlib.Core.Bool.{Bool, true, false, cond, false≢true}
use mathlib.Core.List.{List, []}
use mathlib.Core.Option.{Option, none, some}
use mathlib.Core.Path.{◌≡◌, refl, sym, ap, ◌∙◌, fun_ext}
use lib.Dec.{T}
use Rattle.planner.specs.Plan.{plan}
use Rattle.table.specs.Expr.{Expr}
use Rattle.value.specs.Value.{Value}
use Rattle.value.proofs.Keys.{is_true, true_is}
use Rattle.matching.specs.Matching.{Env, MatchOutcome, matched, missed, fault, pick_value, provided, start}
use Rattle.tolerance.specs.code.Classes.{Equality, all_hold, all_certain, Classes, unified, apart, is_some}
use Rattle.tolerance.specs.Tolerance.{Ranges}
use Rattle.tolerance.specs.Tolerance.{Number, num_order, is_allowed, chosen_value, chosen_env, Answer, always, sometimes, never, Measured, in_value, in_name, Choice, outcome_under, Means}
use Rattle.tolerance.specs.code.Trees.{numbers_allowed, EndsOk}
use Rattle.tolerance.specs.Promise.{carry}
use Rattle.tolerance.specs.code.Decision.{decided, answer_at_end, walked, answer}
use Rattle.tolerance.proofs.orders.Numbers.{num_order_lem}
use Rattle.tolerance.proofs.orders.Unify.{Within, Good, AllCount, starts_apart, some_choice, no_choice}
use Rattle.tolerance.proofs.orders.Certain.{all_met, some_unmet, lowest_within}
use Rattle.tolerance.proofs.trees.Walking.{chosen_outcome, comes_to, run_chosen}
use Rattle.tolerance.proofs.trees.Counted.{plan_counts}

-- known names have their values under the choice
pub start_chosen : (c : ℕ → Number) (unbound : ℕ → Bool) (listed : Env) → start unbound (chosen_env c listed) ≡ chosen_env c (start unbound listed)
start_chosen c unbound listed = fun_ext (λ x. go x (unbound x))
  where
    go : (x : ℕ) (b : Bool) → pick_value b none (chosen_value c (listed x)) ≡ chosen_value c (pick_value b none (listed x))
    go x true = refl
    go x false = refl

module _ (unbound : ℕ → Bool) (listed : Env) (e : Expr) (v : Value) (r : Ranges Number) where
  -- a run under any numbers is what the walk comes to
  pub under_choice : (c : ℕ → Number) → outcome_under (carry unbound e) v (start unbound listed) c ≡ comes_to c (walked unbound listed e v)
  under_choice c = run_chosen c (plan unbound e []) v (start unbound listed)

  abbrev qs : List (Equality Number)
  qs = (walked unbound listed e v).numbers

  -- a match meets all equalities, and the walk ends in one
  pub when_matched : (c : ℕ → Number) (env : Env) → outcome_under (carry unbound e) v (start unbound listed) c ≡ matched env → (env' : Env) × ((walked unbound listed e v).end ≡ matched env') × (chosen_env c env' ≡ env) × T (all_hold num_order c qs)
  when_matched c env q = go (all_hold num_order c qs) refl (walked unbound listed e v).end refl (sym (under_choice c) ∙ q)
    where
      go : (b : Bool) → all_hold num_order c qs ≡ b → (o : MatchOutcome) → (walked unbound listed e v).end ≡ o → provided b (chosen_outcome c o) ≡ matched env
          → (env' : Env) × ((walked unbound listed e v).end ≡ matched env') × (chosen_env c env' ≡ env) × T (all_hold num_order c qs)
      go true h (matched env') i p = let z : chosen_env c env' ≡ env = cc in (env', i, z, true_is h)
      go true h missed i p = absurd (false≢true (cc))
      go true h fault i p = absurd (false≢true (cc))
      go false h o i p = absurd (false≢true (cc))

  pub match_when : (c : ℕ → Number) (env : Env) → (walked unbound listed e v).end ≡ matched env → T (all_hold num_order c qs) → outcome_under (carry unbound e) v (start unbound listed) c ≡ matched (chosen_env c env)
  match_when c env i h =
      let t : all_hold num_order c qs ≡ true = is_true h in
      under_choice c ∙ (ap (λ (b : Bool). provided b (chosen_outcome c (walked unbound listed e v).end)) t ∙ ap (chosen_outcome c) i)

  abbrev K : ℕ → Type 0
  K n = Measured v (start unbound listed) n

  pub within : (c : Choice v (start unbound listed) r) → Within num_order_lem K is_allowed r c.chose
  within c = record { allowed = c.allowed; from = c.from_lowest; up_to = c.to_highest }

  abbrev chooses : (c : ℕ → Number) → Within num_order_lem K is_allowed r c → Choice v (start unbound listed) r
  chooses c w = record { chose = c; allowed = w.allowed; from_lowest = w.from; to_highest = w.up_to }

  module _ (ends : EndsOk v (start unbound listed) r) where
    good : Good num_order_lem K is_allowed r
    good = record { low = ends.lowest_allowed; high = ends.highest_allowed; ordered = ends.ordered }

    -- there is a choice
    pub some_choice_there : Choice v (start unbound listed) r
    some_choice_there = chooses r.lowest (lowest_within num_order_lem K is_allowed r good)

    -- the three answers exclude one another
    pub one_answer : (a b : Answer) → Means (carry unbound e) v (start unbound listed) r a → Means (carry unbound e) v (start unbound listed) r b → a ≡ b
    one_answer always always m n = refl
    one_answer always sometimes m n = absurd (n.1.1 (m n.1.0))
    one_answer always never m n = absurd (n some_choice_there (m some_choice_there))
    one_answer sometimes always m n = absurd (m.1.1 (n m.1.0))
    one_answer sometimes sometimes m n = refl
    one_answer sometimes never m n = absurd (n m.0.0 m.0.1)
    one_answer never always m n = absurd (m some_choice_there (n some_choice_there))
    one_answer never sometimes m n = absurd (m n.0.0 n.0.1)
    one_answer never never m n = refl

    module _ (own : T (numbers_allowed e)) where
      counts : AllCount num_order_lem K is_allowed qs
      counts = plan_counts K unbound e v (start unbound listed) own (λ n t. in_value t) (λ x w q n t. in_name x w q t)

      -- where the walk ends in a match
      module _ (env : Env) (i : (walked unbound listed e v).end ≡ matched env) where
        by_classes : (o : Option (Classes num_order)) → unified num_order qs (apart num_order r) ≡ o → all_certain num_order r qs ≡ false → Means (carry unbound e) v (start unbound listed) r (cond (is_some o) sometimes never)
        by_classes none u f = λ c m. let (env', j, z, h) = when_matched c.chose m.0 m.1 in no_choice num_order_lem K is_allowed r (apart num_order r) (starts_apart num_order_lem K is_allowed r) qs counts u c.chose (within c) h
        by_classes (some s) u f =
            let (c, w, h) = some_choice num_order_lem K is_allowed r (apart num_order r) (starts_apart num_order_lem K is_allowed r) qs counts good s u in
            let (d, x, n) = some_unmet num_order_lem K is_allowed r good qs f in
            ((chooses c w, (chosen_env c env, match_when c env i h)), (chooses d x, λ m. let (env', j, z, k) = when_matched d m.0 m.1 in n k))

        by_certain : (b : Bool) → all_certain num_order r qs ≡ b → Means (carry unbound e) v (start unbound listed) r (cond b always (cond (is_some (unified num_order qs (apart num_order r))) sometimes never))
        by_certain true f = λ c. (chosen_env c.chose env, match_when c.chose env i (all_met num_order_lem K is_allowed r c.chose (within c) qs counts (true_is f)))
        by_certain false f = by_classes (unified num_order qs (apart num_order r)) refl f

        ends_matched : Means (carry unbound e) v (start unbound listed) r (decided r qs)
        unfolding decided
        ends_matched = by_certain (all_certain num_order r qs) refl

      -- 1. The decision answers always, sometimes or never as all choices match, some do, none does.
      pub means : Means (carry unbound e) v (start unbound listed) r (answer unbound listed e v r)
      means = go (walked unbound listed e v).end refl
        where
          go : (o : MatchOutcome) → (walked unbound listed e v).end ≡ o → Means (carry unbound e) v (start unbound listed) r (answer_at_end r qs o)
          go (matched env) i = ends_matched env i
          go missed i = λ c m. let (env, j, z, h) = when_matched c.chose m.0 m.1 in false≢true (cc)
          go fault i = λ c m. let (env, j, z, h) = when_matched c.chose m.0 m.1 in false≢true (cc)

      -- 2. And it is the only one that does.
      pub exactly : (a : Answer) → Means (carry unbound e) v (start unbound listed) r a → answer unbound listed e v r ≡ a
      exactly a m = one_answer (answer unbound listed e v r) a means m
