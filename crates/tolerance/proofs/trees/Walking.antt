-- A run under a choice is the walk: it comes to the walk's end if the choice meets the equalities that the walk collected, and misses otherwise.
use Prim.Native.Nat.{ℕ}
use mathlib.Core.Bool.{Bool, true, false, ◌&&◌, false≢true}
use mathlib.Core.List.{List, [], ◌∷◌, ◌++◌}
use mathlib.Core.Option.{Option, none, some}
use mathlib.Core.Path.{◌≡◌, refl, sym, ap, ap₂, ◌∙◌, fun_ext}
use lib.Dec.{eqb}
use Rattle.literal.specs.Literal.{Literal, null, boolean, number, string}
use Rattle.literal.specs.Order.{key_order}
use Rattle.planner.specs.Plan.{DestructuringPlan, var, ignore, equality_expr, equality_value, array_plan, object_plan, Plans, no_plan, item_plan, FieldPlans, no_field, field_plan}
use Rattle.planner.specs.Layout.{literal_key}
use Rattle.planner.specs.Simple.{same_key}
use Rattle.table.specs.Expr.{Expr, literal, name, wildcard, array, set, object, other}
use Rattle.value.specs.Value.{Value, literalᵛ, arrayᵛ, objectᵛ, Values, noneᵛ, itemᵛ, ValueFields, doneᵛ, fieldᵛ, keysᵛ, same_key_sets, first_hit, under, holds, same, same_items, same_fields_lem}
use Rattle.matching.specs.Matching.{Env, MatchOutcome, matched, missed, fault, pick_value, setting, provided, comparing, name_in, next, at, under_key, plan_keys, same_length, run, run_items, run_fields}
use Rattle.tolerance.specs.code.Classes.{Equality, holds as isMet, all_hold}
use Rattle.tolerance.specs.Tolerance.{Number, num, num_order, chosen_literal, chosen, chosen_all, chosen_fields, chosen_value, chosen_env}
use Rattle.tolerance.proofs.orders.Numbers.{equal_swap}
use Rattle.tolerance.specs.code.Decision.{Conditions, only_rest, together, literals_equal, found, equal_if, items_equal_if, fields_equal_if, literal_is, value_is, Walk, compared_by, compared_with, providing, then_walk, onwards, walk_at, walk, walk_items, walk_fields}

right_true : (b : Bool) → b ≡ (b && true)
right_true true = refl
right_true false = refl

module _ (c : ℕ → Number) where
  pub holds_append : (ps qs : List (Equality Number)) → all_hold num_order c (ps ++ qs) ≡ (all_hold num_order c ps && all_hold num_order c qs)
  unfolding all_hold
  holds_append [] qs = refl
  holds_append (p ∷ ps) qs = ap (λ (b : Bool). isMet num_order c p && b) (holds_append ps qs) ∙ assoc (isMet num_order c p) (all_hold num_order c ps) (all_hold num_order c qs)
    where
      assoc : (x y z : Bool) → (x && (y && z)) ≡ ((x && y) && z)
      assoc true y z = refl
      assoc false y z = refl

  -- what the conditions come to under the choice
  abbrev meets : Conditions → Bool
  meets q = q.rest && all_hold num_order c q.numbers

  meets_rest : (b : Bool) → b ≡ meets (only_rest b)
  unfolding all_hold
  meets_rest true = refl
  meets_rest false = refl

  meets_both : (p q : Conditions) → (meets p && meets q) ≡ meets (together p q)
  meets_both p q = shuffle p.rest q.rest (all_hold num_order c p.numbers) (all_hold num_order c q.numbers) ∙ ap (λ (b : Bool). (p.rest && q.rest) && b) (sym (holds_append p.numbers q.numbers))
    where
      shuffle : (a b x y : Bool) → ((a && x) && (b && y)) ≡ ((a && b) && (x && y))
      shuffle true true x y = refl
      shuffle true false true y = refl
      shuffle true false false y = refl
      shuffle false b x y = refl

  -- values under the choice
  pub chosen_keys : (fs : ValueFields) → keysᵛ (chosen_fields c fs) ≡ keysᵛ fs
  unfolding keysᵛ chosen
  chosen_keys doneᵛ = refl
  chosen_keys (fieldᵛ k v fs) = ap (λ ls. k ∷ ls) (chosen_keys fs)

  chosen_under : (k : Literal) (fs : ValueFields) → under k (chosen_fields c fs) ≡ chosen_value c (under k fs)
  unfolding under chosen
  chosen_under k doneᵛ = refl
  chosen_under k (fieldᵛ l v fs) = go (same_key k l) (chosen_under k fs)
    where
      go : (b : Bool) → under k (chosen_fields c fs) ≡ chosen_value c (under k fs) → first_hit b (chosen c v) (under k (chosen_fields c fs)) ≡ chosen_value c (first_hit b v (under k fs))
      go true e = refl
      go false e = e

  chosen_length : (ps : Plans) (vs : Values) → same_length ps (chosen_all c vs) ≡ same_length ps vs
  unfolding same_length chosen
  chosen_length no_plan noneᵛ = refl
  chosen_length no_plan (itemᵛ v vs) = refl
  chosen_length (item_plan p ps) noneᵛ = refl
  chosen_length (item_plan p ps) (itemᵛ v vs) = chosen_length ps vs

  -- literals: two of values, and one of the pattern with one of a value; only numbers are chosen
  abbrev no_number : Literal → Bool
  no_number null = true
  no_number (boolean b) = true
  no_number (number s k) = false
  no_number (string bs) = true

  plain : (l k : Literal) (m : Number) → no_number l ≡ true → same_key l (chosen_literal m k) ≡ same_key l k
  unfolding key_order
  plain null null m e = refl
  plain null (boolean b) m e = refl
  plain null (number t j) m e = refl
  plain null (string bs) m e = refl
  plain (boolean true) null m e = refl
  plain (boolean true) (boolean b) m e = refl
  plain (boolean true) (number t j) m e = refl
  plain (boolean true) (string bs) m e = refl
  plain (boolean false) null m e = refl
  plain (boolean false) (boolean b) m e = refl
  plain (boolean false) (number t j) m e = refl
  plain (boolean false) (string bs) m e = refl
  plain (number s i) k m e = absurd (false≢true e)
  plain (string xs) null m e = refl
  plain (string xs) (boolean b) m e = refl
  plain (string xs) (number t j) m e = refl
  plain (string xs) (string bs) m e = refl

  mixed : (s : Bool) (i : ℕ) (b : Bool) → same_key (number s i) (boolean b) ≡ false
  unfolding key_order
  mixed s i true = refl
  mixed s i false = refl

  literals : (n : ℕ) (l : Literal) (m : ℕ) (k : Literal) → same_key (chosen_literal (c n) l) (chosen_literal (c m) k) ≡ meets (literals_equal n l m k)
  unfolding key_order all_hold isMet
  literals n null m k = plain null k (c m) refl ∙ meets_rest (same_key null k)
  literals n (boolean b) m k = plain (boolean b) k (c m) refl ∙ meets_rest (same_key (boolean b) k)
  literals n (number s i) m null = refl
  literals n (number s i) m (boolean b) = mixed (c n).below (c n).size b
  literals n (number s i) m (number t j) = right_true _
  literals n (number s i) m (string bs) = refl
  literals n (string xs) m k = plain (string xs) k (c m) refl ∙ meets_rest (same_key (string xs) k)

  own_literal : (l : Literal) (m : ℕ) (k : Literal) → same_key l (chosen_literal (c m) k) ≡ meets (literal_is l m k)
  unfolding key_order all_hold isMet
  own_literal null m k = plain null k (c m) refl ∙ meets_rest (same_key null k)
  own_literal (boolean b) m k = plain (boolean b) k (c m) refl ∙ meets_rest (same_key (boolean b) k)
  own_literal (number s i) m null = refl
  own_literal (number s i) m (boolean b) = mixed s i b
  own_literal (number s i) m (number t j) = equal_swap (num s i) (c m) ∙ right_true _
  own_literal (number s i) m (string bs) = refl
  own_literal (string xs) m k = plain (string xs) k (c m) refl ∙ meets_rest (same_key (string xs) k)

  found_chosen : (v : Value) (o : Option Value) → ((w : Value) → same (chosen c v) (chosen c w) ≡ meets (equal_if v w)) → holds (λ w. same (chosen c v) w) (chosen_value c o) ≡ meets (found (λ w. equal_if v w) o)
  found_chosen v none f = refl
  found_chosen v (some w) f = f w

  mutual
    unfolding same equal_if chosen

    pub same_chosen : (v w : Value) → same (chosen c v) (chosen c w) ≡ meets (equal_if v w)
    same_chosen (literalᵛ n l) (literalᵛ m k) = literals n l m k
    same_chosen (literalᵛ n l) (arrayᵛ m ws) = refl
    same_chosen (literalᵛ n l) (objectᵛ m gs) = refl
    same_chosen (arrayᵛ n vs) (literalᵛ m k) = refl
    same_chosen (arrayᵛ n vs) (arrayᵛ m ws) = items_chosen vs ws
    same_chosen (arrayᵛ n vs) (objectᵛ m gs) = refl
    same_chosen (objectᵛ n fs) (literalᵛ m k) = refl
    same_chosen (objectᵛ n fs) (arrayᵛ m ws) = refl
    same_chosen (objectᵛ n fs) (objectᵛ m gs) =
        ap₂ ◌&&◌ (ap₂ same_key_sets (chosen_keys fs) (chosen_keys gs) ∙ meets_rest (same_key_sets (keysᵛ fs) (keysᵛ gs))) (fields_chosen fs gs)
        ∙ meets_both (only_rest (same_key_sets (keysᵛ fs) (keysᵛ gs))) (fields_equal_if fs gs)

    items_chosen : (vs ws : Values) → same_items (chosen_all c vs) (chosen_all c ws) ≡ meets (items_equal_if vs ws)
    items_chosen noneᵛ noneᵛ = meets_rest true
    items_chosen noneᵛ (itemᵛ w ws) = refl
    items_chosen (itemᵛ v vs) noneᵛ = refl
    items_chosen (itemᵛ v vs) (itemᵛ w ws) = ap₂ ◌&&◌ (same_chosen v w) (items_chosen vs ws) ∙ meets_both (equal_if v w) (items_equal_if vs ws)

    fields_chosen : (fs gs : ValueFields) → same_fields_lem (chosen_fields c fs) (chosen_fields c gs) ≡ meets (fields_equal_if fs gs)
    fields_chosen doneᵛ gs = meets_rest true
    fields_chosen (fieldᵛ k v fs) gs =
        ap₂ ◌&&◌ (ap (holds (λ w. same (chosen c v) w)) (chosen_under k gs) ∙ found_chosen v (under k gs) (λ w. same_chosen v w)) (fields_chosen fs gs)
        ∙ meets_both (found (λ w. equal_if v w) (under k gs)) (fields_equal_if fs gs)

  -- a literal of the pattern with a value
  value_is_lem : (n : ℕ) (l : Literal) (v : Value) → same (literalᵛ n l) (chosen c v) ≡ meets (value_is l v)
  unfolding same chosen
  value_is_lem n l (literalᵛ m k) = own_literal l m k
  value_is_lem n l (arrayᵛ m vs) = refl
  value_is_lem n l (objectᵛ m fs) = refl

  -- what a walk comes to under the choice
  abbrev pub chosen_outcome : MatchOutcome → MatchOutcome
  chosen_outcome (matched env) = matched (chosen_env c env)
  chosen_outcome missed = missed
  chosen_outcome fault = fault

  abbrev pub comes_to : Walk → MatchOutcome
  comes_to w = provided (all_hold num_order c w.numbers) (chosen_outcome w.end)

  none_met : (o : MatchOutcome) → o ≡ provided (all_hold num_order c []) o
  unfolding all_hold
  none_met o = refl

  set_chosen : (x : ℕ) (v : Value) (env : Env) (o : Option Value) → setting x (chosen c v) (chosen_env c env) (chosen_value c o) ≡ chosen_outcome (setting x v env o)
  set_chosen x v env none = ap matched (fun_ext (λ y. go y (eqb y x)))
    where
      go : (y : ℕ) (b : Bool) → pick_value b (some (chosen c v)) (chosen_env c env y) ≡ chosen_value c (pick_value b (some v) (env y))
      go y true = refl
      go y false = refl
  set_chosen x v env (some u) = refl

  name_chosen : (env : Env) (e : Expr) → name_in (chosen_env c env) e ≡ chosen_value c (name_in env e)
  name_chosen env (literal n l) = refl
  name_chosen env (name n x) = refl
  name_chosen env (wildcard n) = refl
  name_chosen env (array n es) = refl
  name_chosen env (set n es) = refl
  name_chosen env (object n fs) = refl
  name_chosen env (other n) = refl

  by_conditions : (q : Conditions) (env : Env) (b : Bool) → b ≡ meets q → provided b (matched (chosen_env c env)) ≡ comes_to (compared_by q env)
  by_conditions q env b e = ap (λ (a : Bool). provided a (matched (chosen_env c env))) e ∙ go q.rest (all_hold num_order c q.numbers)
    where
      go : (a h : Bool) → provided (a && h) (matched (chosen_env c env)) ≡ provided h (chosen_outcome (provided a (matched env)))
      go true true = refl
      go true false = refl
      go false true = refl
      go false false = refl

  compared_chosen : (v : Value) (env : Env) (o : Option Value) → comparing (chosen c v) (chosen_env c env) (chosen_value c o) ≡ comes_to (compared_with v env o)
  compared_chosen v env none = none_met fault
  compared_chosen v env (some u) = by_conditions (equal_if u v) env (same (chosen c u) (chosen c v)) (same_chosen u v)

  provided_chosen : (b : Bool) (o : MatchOutcome) (w : Walk) → o ≡ comes_to w → provided b o ≡ comes_to (providing b w)
  provided_chosen true o w e = e
  provided_chosen false o w e = none_met missed

  next_chosen : (o : MatchOutcome) (k : Env → MatchOutcome) (w : Walk) (f : Env → Walk) → o ≡ comes_to w → ((env : Env) → k (chosen_env c env) ≡ comes_to (f env)) → next o k ≡ comes_to (then_walk w f)
  next_chosen o k w f e h = ap (λ (p : MatchOutcome). next p k) e ∙ go w.numbers w.end
    where
      join : (a b : Bool) (p : MatchOutcome) → provided a (provided b p) ≡ provided (a && b) p
      join true b p = refl
      join false b p = refl

      on : (a : Bool) (env : Env) → next (provided a (matched env)) k ≡ provided a (k env)
      on true env = refl
      on false env = refl

      stop : (a : Bool) → next (provided a missed) k ≡ provided a missed
      stop true = refl
      stop false = refl

      break : (a : Bool) → next (provided a fault) k ≡ provided a fault
      break true = refl
      break false = refl

      go : (qs : List (Equality Number)) (p : MatchOutcome) → next (provided (all_hold num_order c qs) (chosen_outcome p)) k ≡ comes_to (onwards qs p f)
      go qs (matched env) =
          on (all_hold num_order c qs) (chosen_env c env) ∙ (ap (provided (all_hold num_order c qs)) (h env)
          ∙ (join (all_hold num_order c qs) (all_hold num_order c (f env).numbers) (chosen_outcome (f env).end)
          ∙ ap (λ (b : Bool). provided b (chosen_outcome (f env).end)) (sym (holds_append qs (f env).numbers))))
      go qs missed = stop (all_hold num_order c qs)
      go qs fault = break (all_hold num_order c qs)

  under_chosen : (κ : Option Literal) (gs : ValueFields) → under_key κ (chosen_fields c gs) ≡ chosen_value c (under_key κ gs)
  under_chosen (some k) gs = chosen_under k gs
  under_chosen none gs = refl

  at_chosen : (o : Option Value) (r : Value → MatchOutcome) (f : Value → Walk) → ((v : Value) → r (chosen c v) ≡ comes_to (f v)) → at (chosen_value c o) r ≡ comes_to (walk_at o f)
  at_chosen none r f h = none_met missed
  at_chosen (some v) r f h = h v

  mutual
    unfolding run walk chosen

    pub run_chosen : (p : DestructuringPlan) (v : Value) (env : Env) → run p (chosen c v) (chosen_env c env) ≡ comes_to (walk p v env)
    run_chosen (var n x) v env = set_chosen x v env (env x) ∙ none_met (chosen_outcome (setting x v env (env x)))
    run_chosen (ignore n) v env = none_met (matched (chosen_env c env))
    run_chosen (equality_expr e) v env = ap (comparing (chosen c v) (chosen_env c env)) (name_chosen env e) ∙ compared_chosen v env (name_in env e)
    run_chosen (equality_value n l) v env = by_conditions (value_is l v) env (same (literalᵛ n l) (chosen c v)) (value_is_lem n l v)
    run_chosen (array_plan n ps) (literalᵛ m k) env = none_met missed
    run_chosen (array_plan n ps) (arrayᵛ m vs) env =
        ap (λ (b : Bool). provided b (run_items ps (chosen_all c vs) (chosen_env c env))) (chosen_length ps vs)
        ∙ provided_chosen (same_length ps vs) (run_items ps (chosen_all c vs) (chosen_env c env)) (walk_items ps vs env) (items_run ps vs env)
    run_chosen (array_plan n ps) (objectᵛ m gs) env = none_met missed
    run_chosen (object_plan n fs) (literalᵛ m k) env = none_met missed
    run_chosen (object_plan n fs) (arrayᵛ m vs) env = none_met missed
    run_chosen (object_plan n fs) (objectᵛ m gs) env =
        ap (λ (ls : List Literal). provided (same_key_sets (plan_keys fs) ls) (run_fields fs (chosen_fields c gs) (chosen_env c env))) (chosen_keys gs)
        ∙ provided_chosen (same_key_sets (plan_keys fs) (keysᵛ gs)) (run_fields fs (chosen_fields c gs) (chosen_env c env)) (walk_fields fs gs env) (fields_run fs gs env)

    items_run : (ps : Plans) (vs : Values) (env : Env) → run_items ps (chosen_all c vs) (chosen_env c env) ≡ comes_to (walk_items ps vs env)
    items_run no_plan vs env = none_met (matched (chosen_env c env))
    items_run (item_plan p ps) noneᵛ env = none_met missed
    items_run (item_plan p ps) (itemᵛ v vs) env =
        next_chosen (run p (chosen c v) (chosen_env c env)) (λ env'. run_items ps (chosen_all c vs) env') (walk p v env) (λ env'. walk_items ps vs env') (run_chosen p v env) (λ env'. items_run ps vs env')

    fields_run : (fs : FieldPlans) (gs : ValueFields) (env : Env) → run_fields fs (chosen_fields c gs) (chosen_env c env) ≡ comes_to (walk_fields fs gs env)
    fields_run no_field gs env = none_met (matched (chosen_env c env))
    fields_run (field_plan k p fs) gs env =
        ap (λ (o : Option Value). at o (λ v. next (run p v (chosen_env c env)) (λ env'. run_fields fs (chosen_fields c gs) env'))) (under_chosen (literal_key k) gs)
        ∙ at_chosen (under_key (literal_key k) gs) (λ v. next (run p v (chosen_env c env)) (λ env'. run_fields fs (chosen_fields c gs) env')) (λ v. then_walk (walk p v env) (λ env'. walk_fields fs gs env'))
        (λ v. next_chosen (run p (chosen c v) (chosen_env c env)) (λ env'. run_fields fs (chosen_fields c gs) env') (walk p v env) (λ env'. walk_fields fs gs env') (run_chosen p v env) (λ env'. fields_run fs gs env'))
