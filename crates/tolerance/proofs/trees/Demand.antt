-- Demand 3 of each choice, and of the names that are set; where every number is exact, the present run.
use Prim.Native.Nat.{ℕ}
use mathlib.Core.Bool.{Bool, ◌&&◌, false≢true}
use mathlib.Core.List.{[]}
use mathlib.Core.Option.{Option, none, some}
use mathlib.Core.Path.{◌≡◌, refl, sym, ap, ap₂, ◌∙◌}
use lib.Dec.{T}
use Rattle.planner.specs.Plan.{plan}
use Rattle.planner.specs.Simple.{differing}
use Rattle.table.specs.Expr.{Expr}
use Rattle.value.specs.Value.{Value, literalᵛ, arrayᵛ, objectᵛ, Values, noneᵛ, itemᵛ, ValueFields, doneᵛ, fieldᵛ, proper, proper_all_lem, proper_fields_lem, Same}
use Rattle.matching.specs.Matching.{Env, MatchOutcome, matched, missed, fault, start, Planned, outcome, Filling, Asked, Promise, run}
use Rattle.matching.proofs.Promise.{proved}
use Rattle.tolerance.specs.Tolerance.{Ranges}
use Rattle.tolerance.specs.Tolerance.{Number, chosen, chosen_all, chosen_fields, chosen_value, chosen_env, Answer, always, sometimes, never, Choice, outcome_under, Matches}
use Rattle.tolerance.specs.code.Trees.{numbers_allowed, EndsOk}
use Rattle.tolerance.specs.Promise.{MakesUnder, Promised, carry}
use Rattle.tolerance.specs.code.Decision.{answer_at_end, set_where, walked, answer, names_after}
use Rattle.tolerance.proofs.trees.Walking.{chosen_keys}
use Rattle.tolerance.proofs.trees.Ends.{Parts, plan_ends}
use Rattle.tolerance.proofs.trees.Answers.{start_chosen, when_matched, some_choice_there, means}

-- a value under a choice is a value
mutual
  unfolding proper chosen

  proper_chosen : (v : Value) (c : ℕ → Number) → proper (chosen c v) ≡ proper v
  proper_chosen (literalᵛ n l) c = refl
  proper_chosen (arrayᵛ n vs) c = proper_all vs c
  proper_chosen (objectᵛ n fs) c = ap₂ ◌&&◌ (ap differing (chosen_keys c fs)) (proper_fields fs c)

  proper_all : (vs : Values) (c : ℕ → Number) → proper_all_lem (chosen_all c vs) ≡ proper_all_lem vs
  proper_all noneᵛ c = refl
  proper_all (itemᵛ v vs) c = ap₂ ◌&&◌ (proper_chosen v c) (proper_all vs c)

  proper_fields : (fs : ValueFields) (c : ℕ → Number) → proper_fields_lem (chosen_fields c fs) ≡ proper_fields_lem fs
  proper_fields doneᵛ c = refl
  proper_fields (fieldᵛ k v fs) c = ap₂ ◌&&◌ (proper_chosen v c) (proper_fields fs c)

-- a value that is chosen is the choice of a value
from_chosen : (c : ℕ → Number) (o : Option Value) (w : Value) → chosen_value c o ≡ some w → (u : Value) × (o ≡ some u) × (chosen c u ≡ w)
from_chosen c none w e = absurd (false≢true (cc))
from_chosen c (some u) w e = let q : chosen c u ≡ w = cc in (u, refl, q)

module _ (unbound : ℕ → Bool) (listed : Env) (e : Expr) (v : Value) (asked : Asked unbound listed e v) where
  -- what is asked of a run holds under each choice
  asked_chosen : (c : ℕ → Number) → Asked unbound (chosen_env c listed) e (chosen c v)
  asked_chosen c = record {
    is_simple = asked.is_simple;
    value_proper_lem = rw (proper_chosen v c) asked.value_proper_lem;
    list_proper = λ x w q. let (u, i, j) = from_chosen c (listed x) w q in rw (← j) (rw (proper_chosen u c) (asked.list_proper x u i));
    known_listed = λ x m b. let (w, q) = asked.known_listed x m b in (chosen c w, ap (chosen_value c) q);
  }

  promise : (c : ℕ → Number) → Promise unbound (chosen_env c listed) e (chosen c v)
  promise c = proved unbound (chosen_env c listed) e (chosen c v) (asked_chosen c)

  same_run : (c : ℕ → Number) → outcome unbound (chosen_env c listed) e (chosen c v) ≡ outcome_under (carry unbound e) v (start unbound listed) c
  same_run c = ap (run (plan unbound e []) (chosen c v)) (start_chosen c unbound listed)

  module _ (r : Ranges Number) (own : T (numbers_allowed e)) (ends : EndsOk v (start unbound listed) r) where
    -- no property of values is needed for which names are set
    abbrev All : Value → Type 0
    All w = Unit {0}

    all_parts : Parts All (λ vs. Unit {0}) (λ fs. Unit {0})
    all_parts = record { items = λ n vs h. tt; head = λ w vs h. tt; tail = λ w vs h. tt; fields = λ n fs h. tt; first = λ k w fs h. tt; rest = λ k w fs h. tt }

    -- always says that the walk ends in a match
    ended : answer unbound listed e v r ≡ always → (env : Env) × ((walked unbound listed e v).end ≡ matched env)
    ended a = go (walked unbound listed e v).end refl a
      where
        go : (o : MatchOutcome) → (walked unbound listed e v).end ≡ o → answer_at_end r (walked unbound listed e v).numbers o ≡ always → (env : Env) × ((walked unbound listed e v).end ≡ matched env)
        go (matched env) i p = (env, i)
        go missed i p = absurd (false≢true (cc))
        go fault i p = absurd (false≢true (cc))

    after_always : (env : Env) → (walked unbound listed e v).end ≡ matched env → answer unbound listed e v r ≡ always → names_after unbound listed e v r ≡ env
    after_always env i a = ap₂ (λ (b : Answer) (o : MatchOutcome). set_where b o (start unbound listed)) a i

    after_else : (b : Answer) (o : MatchOutcome) → ¬ (b ≡ always) → set_where b o (start unbound listed) ≡ start unbound listed
    after_else always o n = absurd (n refl)
    after_else sometimes o n = refl
    after_else never o n = refl

    matched_env : (o : MatchOutcome) (a b : Env) → o ≡ matched a → o ≡ matched b → a ≡ b
    matched_env o a b p q = cc

    some_value : (o : Option Value) (u w : Value) → o ≡ some u → o ≡ some w → u ≡ w
    some_value o u w p q = cc

    -- a planned name's value under one choice
    set_under : (c : Choice v (start unbound listed) r) → Matches (carry unbound e) v (start unbound listed) r c → (env : Env) → (walked unbound listed e v).end ≡ matched env → (x : ℕ) → Planned unbound e x
        → (w : Value) × (env x ≡ some w) × ((f : Filling e) → MakesUnder unbound listed e v r c f → Same (chosen c.chose w) (f.names x).value)
    set_under c (env₁, q₁) env i x p =
        let (env₂, i₂, z₂, h₂) = when_matched unbound listed e v r c.chose env₁ q₁ in
        let (w₁, s₁, t₁) = (promise c.chose).sets env₁ (same_run c.chose ∙ q₁) x p in
        go env₂ (matched_env (walked unbound listed e v).end env₂ env i₂ i) (ap (λ (n : Env). n x) z₂ ∙ s₁) t₁
      where
        go : {w₁ : Value} (env₂ : Env) → env₂ ≡ env → chosen_value c.chose (env₂ x) ≡ some w₁ → ((f : Filling e) → MakesUnder unbound listed e v r c f → Same w₁ (f.names x).value)
            → (w : Value) × (env x ≡ some w) × ((f : Filling e) → MakesUnder unbound listed e v r c f → Same (chosen c.chose w) (f.names x).value)
        go {w₁} env₂ y s t = let (w, j, k) = from_chosen c.chose (env₂ x) w₁ s in (w, ap (λ (n : Env). n x) (sym y) ∙ j, λ f m. rw k (t f m))

    sets : answer unbound listed e v r ≡ always → (x : ℕ) → Planned unbound e x
        → (w : Value) × (names_after unbound listed e v r x ≡ some w) × ((c : Choice v (start unbound listed) r) (f : Filling e) → MakesUnder unbound listed e v r c f → Same (chosen c.chose w) (f.names x).value)
    sets a x p =
        let (env, i) = ended a in
        let all : (c : Choice v (start unbound listed) r) → Matches (carry unbound e) v (start unbound listed) r c = rw a at (means unbound listed e v r ends own) in
        let c₀ = some_choice_there unbound listed e v r ends in
        let (w, j, s) = set_under c₀ (all c₀) env i x p in (
          w,
          ap (λ (n : Env). n x) (after_always env i a) ∙ j,
          λ c f m.
              let (u, k, t) = set_under c (all c) env i x p in
              let y : w ≡ u = some_value (env x) w u j k in
              rw y (t f m),
        )

    keeps : (x : ℕ) → ¬ Planned unbound e x → names_after unbound listed e v r x ≡ start unbound listed x
    keeps x n = go (answer unbound listed e v r) refl
      where
        go : (b : Answer) → answer unbound listed e v r ≡ b → names_after unbound listed e v r x ≡ start unbound listed x
        go always a =
            let (env, i) = ended a in
            ap (λ (m : Env). m x) (after_always env i a) ∙ (plan_ends All (λ vs. Unit {0}) (λ fs. Unit {0}) all_parts unbound e v (start unbound listed) env tt i).keeps x n
        go sometimes a = ap (λ (b : Answer). set_where b (walked unbound listed e v).end (start unbound listed) x) a
        go never a = ap (λ (b : Answer). set_where b (walked unbound listed e v).end (start unbound listed) x) a

    pub promised : Promised unbound listed e v r (answer unbound listed e v r) (names_after unbound listed e v r)
    promised = record {
      means = means unbound listed e v r ends own;
      no_fault_lem = λ c q. (promise c.chose).no_fault_lem (same_run c.chose ∙ q);
      if_matched = λ c m. (promise c.chose).if_matched m.0 (same_run c.chose ∙ m.1);
      if_made = λ c f m. let (env, q) = (promise c.chose).if_made f m in (env, sym (same_run c.chose) ∙ q);
      sets = sets;
      keeps = keeps;
      unset = λ n x. ap (λ (m : Env). m x) (after_else (answer unbound listed e v r) (walked unbound listed e v).end n);
      only_names = λ c. (promise c.chose).only_names;
      only_blanks = λ c. (promise c.chose).only_blanks;
    }
