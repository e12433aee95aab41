-- Where both ends are the node's own number everywhere, the answer and the names' values are the present run's.
use Prim.Native.Nat.{ℕ}
use mathlib.Core.Bool.{Bool, false≢true}
use mathlib.Core.List.{[]}
use mathlib.Core.Option.{Option, none, some}
use mathlib.Core.Path.{◌≡◌, refl, sym, ap, ap₂, ◌∙◌, fun_ext}
use lib.Dec.{T, eqb_refl}
use Rattle.literal.specs.Literal.{Literal, null, boolean, number, string}
use Rattle.planner.specs.Plan.{plan}
use Rattle.table.specs.Expr.{Expr}
use Rattle.value.specs.Value.{Value, literalᵛ, arrayᵛ, objectᵛ, Values, noneᵛ, itemᵛ, ValueFields, doneᵛ, fieldᵛ}
use Rattle.value.proofs.Keys.{or_left, or_right}
use Rattle.matching.specs.Matching.{Env, MatchOutcome, matched, missed, fault, start, outcome, run}
use Rattle.tolerance.specs.Tolerance.{Ranges, at_most}
use Rattle.tolerance.specs.Tolerance.{Number, num_order, chosen_literal, chosen, chosen_all, chosen_fields, chosen_value, chosen_env, has_number, has_number_any, has_number_under, Answer, always, in_value, in_name, Choice, outcome_under, Means}
use Rattle.tolerance.specs.code.Trees.{numbers_allowed, EndsOk}
use Rattle.tolerance.specs.Promise.{IsOwn, Own, OwnAll, OwnFields, Exact, exact_answer, carry}
use Rattle.tolerance.specs.code.Decision.{answer, set_where, names_after}
use Rattle.tolerance.proofs.orders.Numbers.{num_order_lem}
use Rattle.tolerance.proofs.orders.AtMost.{le_antisym}
use Rattle.tolerance.proofs.trees.Ends.{Parts, plan_ends}
use Rattle.tolerance.proofs.trees.Answers.{when_matched, some_choice_there, exactly}

-- a choice of each node's own number changes nothing
own_literal : (m : Number) (l : Literal) → IsOwn m l → chosen_literal m l ≡ l
own_literal m null o = refl
own_literal m (boolean b) o = refl
own_literal m (number s k) o = ap (λ (i : Number). number i.below i.size) o
own_literal m (string bs) o = refl

mutual
  unfolding chosen

  pub own_chosen : (v : Value) (c : ℕ → Number) → Own c v → chosen c v ≡ v
  own_chosen (literalᵛ n l) c o = ap (literalᵛ n) (own_literal (c n) l o)
  own_chosen (arrayᵛ n vs) c o = ap (arrayᵛ n) (own_all vs c o)
  own_chosen (objectᵛ n fs) c o = ap (objectᵛ n) (own_fields fs c o)

  own_all : (vs : Values) (c : ℕ → Number) → OwnAll c vs → chosen_all c vs ≡ vs
  own_all noneᵛ c o = refl
  own_all (itemᵛ v vs) c o = ap₂ itemᵛ (own_chosen v c o.0) (own_all vs c o.1)

  own_fields : (fs : ValueFields) (c : ℕ → Number) → OwnFields c fs → chosen_fields c fs ≡ fs
  own_fields doneᵛ c o = refl
  own_fields (fieldᵛ k v fs) c o = ap₂ (fieldᵛ k) (own_chosen v c o.0) (own_fields fs c o.1)

own_parts : (c : ℕ → Number) → Parts (Own c) (OwnAll c) (OwnFields c)
own_parts c = record { items = λ n vs h. h; head = λ v vs h. h.0; tail = λ v vs h. h.1; fields = λ n fs h. h; first = λ k v fs h. h.0; rest = λ k v fs h. h.1 }

pub own_env : (c : ℕ → Number) (env : Env) → ((x : ℕ) (w : Value) → env x ≡ some w → Own c w) → chosen_env c env ≡ env
own_env c env h = fun_ext (λ x. go (env x) (h x))
  where
    go : (o : Option Value) → ((w : Value) → o ≡ some w → Own c w) → chosen_value c o ≡ o
    go none f = refl
    go (some w) f = ap some (own_chosen w c (f w refl))

-- between two ends that are its own number there is no other
module _ (low high c : ℕ → Number) where
  abbrev Between : ℕ → Type 0
  Between n = T (at_most num_order (low n) (c n)) × T (at_most num_order (c n) (high n))

  between_literal : (n : ℕ) (l : Literal) → IsOwn (low n) l → IsOwn (high n) l → ((m : ℕ) → T (has_number m (literalᵛ n l)) → Between m) → IsOwn (c n) l
  unfolding has_number
  between_literal n null p q b = tt
  between_literal n (boolean d) p q b = tt
  between_literal n (number s k) p q b =
      let (f, u) = b n (eqb_refl n) in
      let e : high n ≡ low n = q ∙ sym p in
      le_antisym num_order_lem (c n) (low n) (rw (← e) u) f ∙ p
  between_literal n (string bs) p q b = tt

  mutual
    unfolding has_number

    between : (v : Value) → Own low v → Own high v → ((n : ℕ) → T (has_number n v) → Between n) → Own c v
    between (literalᵛ n l) p q b = between_literal n l p q b
    between (arrayᵛ n vs) p q b = between_all vs p q b
    between (objectᵛ n fs) p q b = between_fields fs p q b

    between_all : (vs : Values) → OwnAll low vs → OwnAll high vs → ((n : ℕ) → T (has_number_any n vs) → Between n) → OwnAll c vs
    between_all noneᵛ p q b = tt
    between_all (itemᵛ v vs) p q b = (between v p.0 q.0 (λ n t. b n (or_left (has_number n v) (has_number_any n vs) t)), between_all vs p.1 q.1 (λ n t. b n (or_right (has_number n v) (has_number_any n vs) t)))

    between_fields : (fs : ValueFields) → OwnFields low fs → OwnFields high fs → ((n : ℕ) → T (has_number_under n fs) → Between n) → OwnFields c fs
    between_fields doneᵛ p q b = tt
    between_fields (fieldᵛ k v fs) p q b = (between v p.0 q.0 (λ n t. b n (or_left (has_number n v) (has_number_under n fs) t)), between_fields fs p.1 q.1 (λ n t. b n (or_right (has_number n v) (has_number_under n fs) t)))

module _ (unbound : ℕ → Bool) (listed : Env) (e : Expr) (v : Value) (r : Ranges Number) (exact : Exact unbound listed v r) where
  own_value : (c : Choice v (start unbound listed) r) → Own c.chose v
  own_value c = between r.lowest r.highest c.chose v exact.lowest_value exact.highest_value (λ n t. (c.from_lowest n (in_value t), c.to_highest n (in_value t)))

  own_names : (c : Choice v (start unbound listed) r) (x : ℕ) (w : Value) → start unbound listed x ≡ some w → Own c.chose w
  own_names c x w q = between r.lowest r.highest c.chose w (exact.lowest_names x w q) (exact.highest_names x w q) (λ n t. (c.from_lowest n (in_name x w q t), c.to_highest n (in_name x w q t)))

  -- the one run that there is
  the_run : (c : Choice v (start unbound listed) r) → outcome_under (carry unbound e) v (start unbound listed) c.chose ≡ outcome unbound listed e v
  the_run c = ap₂ (λ (w : Value) (env : Env). run (plan unbound e []) w env) (own_chosen v c.chose (own_value c)) (own_env c.chose (start unbound listed) (own_names c))

  module _ (own : T (numbers_allowed e)) (ends : EndsOk v (start unbound listed) r) where
    means_exact : (o : MatchOutcome) → outcome unbound listed e v ≡ o → Means (carry unbound e) v (start unbound listed) r (exact_answer o)
    means_exact (matched env) q = λ c. (env, the_run c ∙ q)
    means_exact missed q = λ c m. let z : matched m.0 ≡ missed = sym m.1 ∙ (the_run c ∙ q) in false≢true (cc)
    means_exact fault q = λ c m. let z : matched m.0 ≡ fault = sym m.1 ∙ (the_run c ∙ q) in false≢true (cc)

    -- always for a match and never for none
    pub present_answer : answer unbound listed e v r ≡ exact_answer (outcome unbound listed e v)
    present_answer = exactly unbound listed e v r ends own (exact_answer (outcome unbound listed e v)) (means_exact (outcome unbound listed e v) refl)

    -- and the names have the values that the run gives them
    pub present_names : (env : Env) → outcome unbound listed e v ≡ matched env → names_after unbound listed e v r ≡ env
    present_names env q =
        let c = some_choice_there unbound listed e v r ends in
        let (env', i, z, h) = when_matched unbound listed e v r c.chose env (the_run c ∙ q) in
        let a : answer unbound listed e v r ≡ always = present_answer ∙ ap exact_answer q in
        let still = (plan_ends (Own c.chose) (OwnAll c.chose) (OwnFields c.chose) (own_parts c.chose) unbound e v (start unbound listed) env' (own_value c) i).values (own_names c) in
        ap₂ (λ (b : Answer) (o : MatchOutcome). set_where b o (start unbound listed)) a i ∙ (sym (own_env c.chose env' still) ∙ z)
