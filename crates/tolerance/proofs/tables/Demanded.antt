-- Request 4's promises for tables.
use Prim.Native.Nat.{ℕ, ◌+◌, ◌-◌}
use mathlib.Core.Path.{◌≡◌, refl, sym, ap, ap₂, subst, ◌∙◌, fun_ext}
use mathlib.Core.List.{List, []}
use mathlib.Core.Logic.{inl, inr}
use mathlib.Core.Bool.{Bool, true, false, cond, false≢true}
use mathlib.Core.Option.{none}
use native.Mathlib.Omega.{arith}
use lib.Dec.{T as True}
use lib.ListN.{length, get_or}
use Rattle.base.specs.Lists.{tabulate}
use Rattle.base.specs.Refusal.{plan_too_large, require_or, range_wrong}
use Rattle.scope.specs.declared.Scope.{Scope}
use Rattle.scope.specs.declared.ScopingMode.{ScopingMode}
use Rattle.scope.specs.Scope.{is_unbound}
use Rattle.table.specs.Tables.{Tables}
use Rattle.table.specs.Decode.{expr}
use Rattle.table.specs.Expr.{Expr}
use Rattle.planner.specs.Layout.{top, entries}
use Rattle.planner.specs.Operations.{plan_of, fits}
use Rattle.planner.specs.Plan.{plan}
use Rattle.planner.specs.Simple.{mentions}
use Rattle.base.proofs.Filling.{get_d_tabulate}
use Rattle.value.specs.Value.{Value, value_of, node_in}
use Rattle.value.proofs.Keys.{and_left, is_true, true_is}
use Rattle.matching.specs.Matching.{Env, MatchOutcome, matched, missed, fault, pick_value, start, outcome, Planned, run}
use Rattle.report.proofs.Meeting.{mentioned_named}
use Rattle.run.specs.Answer as Run
use Rattle.run.specs.Operations as Ran
use Rattle.run.specs.Operations.{RunOutcome, listed, listed_node, ran, run_outcome, run_answer, plan_after, values_after, set_names}
use Rattle.run.specs.code.Post.{RunAsks, to_bind}
use Rattle.run.proofs.Known.{planned_is}
use Rattle.run.proofs.Running.{run_table, ran_run}
use Rattle.run.proofs.Refusing.{run_passed, Refusing, Verdict, verdict}
use Rattle.tolerance.specs.Tolerance.{chosen_value, Answer, always, sometimes, never, outcome_under, Means}
use Rattle.tolerance.specs.Answer.{turned_back_lem, answers}
use Rattle.tolerance.specs.Operations.{end_at, ranges_in, listed_known, known_values, ranges_ok, ToleranceOutcome, refused, judged, after_checks, IsAnswer, with_lowest, tolerance_result, plan_left, set_by, values_left, is_judged}
use Rattle.tolerance.specs.Promise.{Promised, Exact, exact_answer}
use Rattle.tolerance.specs.Demand.{Accepted, to_set, list_after, Promises, tolerantly, AsRun, ToleranceDemand}
use Rattle.tolerance.specs.code.Decision.{answer_at_end, walked, decision, names}
use Rattle.tolerance.proofs.trees.Answers.{exactly}
use Rattle.tolerance.proofs.trees.Present.{own_chosen, own_env, present_answer}
use Rattle.tolerance.proofs.tables.Tied.{pattern_allowed, not_wildcard, ranges_good, tolerance_promised}
use Rattle.tolerance.proofs.trees.Agree.{Alike, both_matched, both_missed, both_fault, run_alike, plan_uses}
use Rattle.tolerance.proofs.tables.Judged.{carries_plan, is_answer, outcome_judged, node_chosen, lowest_at, names_at}

module _ (T : Tables) (s : Scope) (mode : ScopingMode) (pattern value : ℕ) (values lows highs : List ℕ) where
  record Passed : Type 0 where
    pub asks : RunAsks T s mode pattern value values
    pub ok : ranges_ok T s mode value values lows highs ≡ true

  passed : Accepted T s mode pattern value values lows highs → Passed
  passed t = go (verdict T s mode pattern value values)
    where
      ranged : (b : Bool) → True (is_judged (require_or refused b range_wrong (judged (entries (plan_of T s mode pattern) top) never (with_lowest T s mode pattern value values lows highs)))) → b ≡ true
      ranged true t = refl
      ranged false t = absurd t

      go : Verdict T s mode pattern value values (run_outcome T s mode pattern value values) → Passed
      go (inl x) = absurd (subst (λ (o : RunOutcome). True (is_judged (after_checks o (require_or refused (ranges_ok T s mode value values lows highs) range_wrong (judged (entries (plan_of T s mode pattern) top) never (with_lowest T s mode pattern value values lows highs)))))) x.is t)
      go (inr a) = record {
        asks = a;
        ok = ranged (ranges_ok T s mode value values lows highs)
            (subst (λ (o : RunOutcome). True (is_judged (after_checks o (require_or refused (ranges_ok T s mode value values lows highs) range_wrong (judged (entries (plan_of T s mode pattern) top) never (with_lowest T s mode pattern value values lows highs)))))) (run_passed a) t);
      }

  module _ (p : Passed) where
    abbrev e : Expr
    e = expr T pattern

    abbrev v : Value
    v = value_of (expr T value)

    abbrev unbound : ℕ → Bool
    unbound = is_unbound s mode

    -- the choices give the decision, and nothing else
    decided_is : (b : Answer) → IsAnswer T s mode pattern value values lows highs b → decision T s mode pattern value values lows highs ≡ b
    decided_is b m =
        exactly unbound (listed_known T values) e v (ranges_in lows highs) (ranges_good p.asks lows highs p.ok) (pattern_allowed T pattern) b
        (subst (λ (f : Value → Env → MatchOutcome). Means f v (known_values T s mode values) (ranges_in lows highs) b) (carries_plan p.asks lows highs) m)

    -- always says that the walk ends in a match
    ended : decision T s mode pattern value values lows highs ≡ always → (env : Env) × ((walked unbound (listed_known T values) e v).end ≡ matched env)
    ended a = go (walked unbound (listed_known T values) e v).end refl a
      where
        go : (o : MatchOutcome) → (walked unbound (listed_known T values) e v).end ≡ o → answer_at_end (ranges_in lows highs) (walked unbound (listed_known T values) e v).numbers o ≡ always → (env : Env) × ((walked unbound (listed_known T values) e v).end ≡ matched env)
        go (matched env) i q = (env, i)
        go missed i q = absurd (false≢true (cc))
        go fault i q = absurd (false≢true (cc))

    listed_node_lem : decision T s mode pattern value values lows highs ≡ always → (x : ℕ) → Planned unbound e x
        → listed_node (list_after T s mode pattern value values lows highs always) x ≡ node_in (names T s mode pattern value values lows highs x)
    listed_node_lem all x t =
        let (env, i) = ended all in
        let named = mentioned_named T (run_table p.asks) pattern p.asks.pattern_node x (and_left (mentions x e) (unbound x) t) in
        let low = named.low in
        let high = named.high in
        let long = p.asks.long in
        let z : 0 + (x - 1) + 1 ≡ x = omega arith in
        let set : to_bind unbound e x ≡ true = is_true t in
        ap (λ (l : List ℕ). get_or l (x - 1) 0) (ap₂ (λ (f : ℕ → Bool) (o : MatchOutcome). set_names f o values) (planned_is T s mode p.asks.sound pattern p.asks.pattern_node) (lowest_at p.asks lows highs p.ok env i all))
        ∙ (get_d_tabulate (λ k. cond (to_bind unbound e (k + 1)) (node_in (chosen_value (end_at lows) (env (k + 1)))) (get_or values k 0)) 0 (length values) (x - 1) (omega arith)
        ∙ (ap (λ (y : ℕ). cond (to_bind unbound e y) (node_in (chosen_value (end_at lows) (env y))) (get_or values (0 + (x - 1)) 0)) z
        ∙ (ap (λ (b : Bool). cond b (node_in (chosen_value (end_at lows) (env x))) (get_or values (0 + (x - 1)) 0)) set
        ∙ (node_chosen (end_at lows) (env x) ∙ sym (ap (λ (n : Env). node_in (n x)) (names_at p.asks lows highs p.ok env i all))))))

    promises : (a : Answer) → decision T s mode pattern value values lows highs ≡ a → Promises T s mode pattern value values lows highs a
    promises a d = record {
      only = λ b m. sym (decided_is b m) ∙ d;
      after = names T s mode pattern value values lows highs;
      promised = subst (λ (x : Answer). Promised unbound (listed_known T values) e v (ranges_in lows highs) x (names T s mode pattern value values lows highs)) d (tolerance_promised p.asks lows highs p.ok);
      as_planned = λ w env. ap (λ (f : Value → Env → MatchOutcome). f w env) (carries_plan p.asks lows highs);
      lists = λ y x t. ap (λ (b : Answer). listed_node (list_after T s mode pattern value values lows highs b) x) y ∙ listed_node_lem (d ∙ y) x t;
      unlisted = λ n. not_always a n;
    }
      where
        not_always : (a : Answer) → ¬ (a ≡ always) → list_after T s mode pattern value values lows highs a ≡ values
        not_always always n = absurd (n refl)
        not_always sometimes n = refl
        not_always never n = refl

    -- exact ranges: the present run
    module _ (exact : Exact unbound (listed_known T values) v (ranges_in lows highs)) where
      abbrev mentioned : ℕ → Type 0
      mentioned x = True (mentions x e)

      same_start : (x : ℕ) → mentioned x → start unbound (listed_known T values) x ≡ start unbound (listed T values) x
      same_start x m = let w = not_wildcard T (run_table p.asks) pattern p.asks.pattern_node x m in ap (λ (b : Bool). pick_value (unbound x) none (cond b none (listed T values x))) w

      runs_alike : Alike mentioned (outcome unbound (listed_known T values) e v) (ran T s mode pattern value values)
      runs_alike =
          subst (Alike mentioned (outcome unbound (listed_known T values) e v)) (sym (ran_run p.asks))
          (run_alike mentioned (plan unbound e []) v (start unbound (listed_known T values)) (start unbound (listed T values)) (plan_uses unbound mentioned e [] (λ x m. m)) same_start)

      lowest_exact : with_lowest T s mode pattern value values lows highs ≡ outcome unbound (listed_known T values) e v
      lowest_exact =
          ap (λ (f : Value → Env → MatchOutcome). outcome_under f v (known_values T s mode values) (end_at lows)) (carries_plan p.asks lows highs)
          ∙ ap₂ (λ (w : Value) (env : Env). run (plan unbound e []) w env) (own_chosen v (end_at lows) exact.lowest_value) (own_env (end_at lows) (known_values T s mode values) exact.lowest_names)

      decided_present : decision T s mode pattern value values lows highs ≡ exact_answer (ran T s mode pattern value values)
      decided_present = present_answer unbound (listed_known T values) e v (ranges_in lows highs) exact (pattern_allowed T pattern) (ranges_good p.asks lows highs p.ok) ∙ go runs_alike
        where
          go : {o q : MatchOutcome} → Alike mentioned o q → exact_answer o ≡ exact_answer q
          go (both_matched h) = refl
          go both_missed = refl
          go both_fault = refl

      same_list : set_names (to_set T s mode pattern value values lows highs) (set_by (exact_answer (ran T s mode pattern value values)) (with_lowest T s mode pattern value values lows highs)) values ≡ set_names (to_set T s mode pattern value values lows highs) (ran T s mode pattern value values) values
      same_list = ap (λ (o : MatchOutcome). set_names (to_set T s mode pattern value values lows highs) (set_by (exact_answer (ran T s mode pattern value values)) o) values) lowest_exact ∙ go runs_alike
        where
          at : (c d : Env) → ((x : ℕ) → mentioned x → c x ≡ d x) → (x old : ℕ) (b : Bool) → to_set T s mode pattern value values lows highs x ≡ b → cond b (node_in (c x)) old ≡ cond b (node_in (d x)) old
          at c d h x old true q = ap node_in (h x (and_left (mentions x e) _ (true_is q)))
          at c d h x old false q = refl

          go : {o q : MatchOutcome} → Alike mentioned o q → set_names (to_set T s mode pattern value values lows highs) (set_by (exact_answer q) o) values ≡ set_names (to_set T s mode pattern value values lows highs) q values
          go (both_matched {a = c} {b = d} h) = ap (λ (f : ℕ → ℕ). tabulate f 0 (length values)) (fun_ext (λ i. at c d h (i + 1) (get_or values i 0) (to_set T s mode pattern value values lows highs (i + 1)) refl))
          go both_missed = refl
          go both_fault = refl

      as_run : (a : Answer) → decision T s mode pattern value values lows highs ≡ a → (buffer : List ℕ) → AsRun T s mode pattern value values lows highs a buffer
      unfolding tolerance_result plan_left values_left run_answer plan_after values_after
      as_run a d buffer = record {
        result = ap (λ (o : ToleranceOutcome). tolerance_result o buffer) (outcome_judged p.asks lows highs p.ok a)
            ∙ (told (fits (entries (plan_of T s mode pattern) top) buffer) ∙ sym (ap (λ (o : RunOutcome). tolerantly T s mode pattern value values lows highs (run_answer o buffer)) (run_passed p.asks)));
        plan = ap (λ (o : ToleranceOutcome). plan_left o buffer) (outcome_judged p.asks lows highs p.ok a) ∙ sym (ap (λ (o : RunOutcome). plan_after o buffer) (run_passed p.asks));
        list = ap (λ (o : ToleranceOutcome). values_left (to_set T s mode pattern value values lows highs) o buffer values) (outcome_judged p.asks lows highs p.ok a)
            ∙ (ap (λ (l : List ℕ). cond (fits (entries (plan_of T s mode pattern) top) buffer) l values) (ap (λ (b : Answer). set_names (to_set T s mode pattern value values lows highs) (set_by b (with_lowest T s mode pattern value values lows highs)) values) is ∙ same_list)
            ∙ sym (ap (λ (o : RunOutcome). values_after (to_set T s mode pattern value values lows highs) o buffer values) (run_passed p.asks)));
      }
        where
          is : a ≡ exact_answer (ran T s mode pattern value values)
          is = sym d ∙ decided_present

          of : (o : MatchOutcome) → answers (exact_answer o) ≡ tolerantly T s mode pattern value values lows highs (Ran.carried_result o)
          of (matched env) = refl
          of missed = refl
          of fault = refl

          told : (b : Bool) → cond b (answers a) (turned_back_lem (plan_too_large (length (entries (plan_of T s mode pattern) top))))
              ≡ tolerantly T s mode pattern value values lows highs (cond b (Ran.carried_result (ran T s mode pattern value values)) (Run.turned_back_lem (plan_too_large (length (entries (plan_of T s mode pattern) top)))))
          told true = ap answers is ∙ of (ran T s mode pattern value values)
          told false = refl

  -- a run that is refused, and one that is not
  present : ranges_ok T s mode value values lows highs ≡ true → Exact (is_unbound s mode) (listed_known T values) (value_of (expr T value)) (ranges_in lows highs)
      → (a : Answer) → (Accepted T s mode pattern value values lows highs → IsAnswer T s mode pattern value values lows highs a)
      → (buffer : List ℕ) → AsRun T s mode pattern value values lows highs a buffer
  unfolding tolerance_result plan_left values_left run_answer plan_after values_after
  present ok exact a m buffer = go (verdict T s mode pattern value values)
    where
      rest : Answer → ToleranceOutcome
      rest b = require_or refused (ranges_ok T s mode value values lows highs) range_wrong (judged (entries (plan_of T s mode pattern) top) b (with_lowest T s mode pattern value values lows highs))

      accepted : RunAsks T s mode pattern value values → Accepted T s mode pattern value values lows highs
      accepted asks = true_is (ap is_judged (outcome_judged asks lows highs ok never))

      refused_alike : (x : Refusing T s mode pattern value values (run_outcome T s mode pattern value values)) → AsRun T s mode pattern value values lows highs a buffer
      refused_alike x = record {
        result = ap (λ (o : RunOutcome). tolerance_result (after_checks o (rest a)) buffer) x.is ∙ sym (ap (λ (o : RunOutcome). tolerantly T s mode pattern value values lows highs (run_answer o buffer)) x.is);
        plan = ap (λ (o : RunOutcome). plan_left (after_checks o (rest a)) buffer) x.is ∙ sym (ap (λ (o : RunOutcome). plan_after o buffer) x.is);
        list = ap (λ (o : RunOutcome). values_left (to_set T s mode pattern value values lows highs) (after_checks o (rest a)) buffer values) x.is
            ∙ sym (ap (λ (o : RunOutcome). values_after (to_set T s mode pattern value values lows highs) o buffer values) x.is);
      }

      go : Verdict T s mode pattern value values (run_outcome T s mode pattern value values) → AsRun T s mode pattern value values lows highs a buffer
      go (inl x) = refused_alike x
      go (inr asks) = let p : Passed = record { asks = asks; ok = ok } in as_run p exact a (decided_is p a (m (accepted asks))) buffer

pub demand : ToleranceDemand
demand = record {
  judges = λ T s mode pattern value values lows highs t.
      let p = passed T s mode pattern value values lows highs t in
      (decision T s mode pattern value values lows highs, is_answer p.asks lows highs p.ok);
  promises = λ T s mode pattern value values lows highs t a m.
      let p = passed T s mode pattern value values lows highs t in
      promises T s mode pattern value values lows highs p a (decided_is T s mode pattern value values lows highs p a m);
  present = λ T s mode pattern value values lows highs ok exact a m buffer. present T s mode pattern value values lows highs (is_true ok) exact a m buffer;
}
