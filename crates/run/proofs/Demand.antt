-- Demand 3, proved.
use Prim.Native.Nat.{ℕ, ◌+◌, ◌-◌, ◌/◌, ◌≤◌, ◌<◌}
use mathlib.Core.Path.{◌≡◌, refl, sym, ap, ap₂, subst, ◌∙◌}
use mathlib.Core.Logic.{◌⊎◌, inl, inr}
use mathlib.Core.List.{List, []}
use mathlib.Core.Bool.{Bool, true, false, cond, ◌&&◌, ◌||◌, not, false≢true}
use mathlib.Core.Option.{none, some}
use native.Mathlib.Omega.{arith}
use borrow.Author.Tests.{eqb-true, eqb-false, le-leb, leb-true, leb-false}
use lib.Dec.{T as True, eqb, leb}
use lib.ListN.{length, get_or, get_or-eq_default}
use Rattle.scope.specs.declared.Scope.{Scope}
use Rattle.scope.specs.declared.ScopingMode.{ScopingMode}
use Rattle.scope.specs.Scope.{is_unbound, known}
use Rattle.base.specs.Refusal.{Tested}
use Rattle.table.specs.Tables.{Tables, node_count, name_count}
use Rattle.table.specs.Decode.{expr}
use Rattle.base.specs.Lists.{all_from}
use Rattle.table.proofs.tests.Scan.{all_of}
use Rattle.table.proofs.tests.Bools.{and_true}
use Rattle.planner.specs.Layout.{top, entry_words, entries}
use Rattle.planner.specs.Operations.{plan_of, fits}
use Rattle.planner.specs.Plan.{plan}
use Rattle.planner.specs.Simple.{mentions}
use Rattle.planner.proofs.buffer.Filling.{length_tabulate, get_d_tabulate}
use Rattle.value.specs.Value.{Value, value_of, nodeᵛ, node_in, Same}
use Rattle.value.proofs.Keys.{is_true, true_is}
use Rattle.value.proofs.Equal.{laws}
use Rattle.matching.specs.Matching.{Env, MatchOutcome, matched, missed, fault, pick_value, start, outcome, Filling, Promise}
use Rattle.matching.proofs.Fits.{filled}
use Rattle.report.proofs.Meeting.{mentioned_named}
use Rattle.run.specs.Answer.{RunResult, a_match, no_match_lem}
use Rattle.run.specs.Operations.{listed_node, in_table, is_value_node, listed, values_listed, known_listed, RunOutcome, carried_out, table_first, ran, run_checked, run_outcome, carried_result, run_answer, set_names, planned_name, values_after}
use Rattle.run.specs.code.Post.{RunAsks, to_bind}
use Rattle.run.specs.Demand.{Hypotheses, answer, list, is_planned, Fills, Promised, RunDemand}
use Rattle.run.proofs.Checking.{node_of_test}
use Rattle.run.proofs.Known.{planned_is}
use Rattle.run.proofs.Running.{run_table, promised, ran_run, listed_value, value_ok}
use Rattle.run.proofs.Tabled.{Tabled, run_tabled, value_tabled}

all_true : (p : ℕ → Bool) (from k : ℕ) → ((j : ℕ) → from ≤ j → j < from + k → p j ≡ true) → all_from p from k ≡ true
all_true p from k each = all_of p from k (λ j lt. each (from + j) (omega arith) (omega arith))

module _ (T : Tables) (s : Scope) (mode : ScopingMode) (pattern value : ℕ) (values buffer : List ℕ) (h : Hypotheses T s mode pattern value values buffer) where
  in_names : (x : ℕ) → 1 ≤ x → x < 1 + name_count T → in_table T x ≡ true
  in_names x low lt = let a = le-leb 1 x low in let b = le-leb x (name_count T) (omega arith) in rw (a, b)

  all_listed : values_listed T values ≡ true
  unfolding values_listed
  all_listed = all_true (λ x. eqb (listed_node values x) 0 || is_value_node T (listed_node values x)) 1 (name_count T) (λ x low lt. at x (in_names x low lt) (eqb (listed_node values x) 0) refl)
    where
      at : (x : ℕ) → in_table T x ≡ true → (b : Bool) → eqb (listed_node values x) 0 ≡ b → (b || is_value_node T (listed_node values x)) ≡ true
      at x n true e = refl
      at x n false e = h.listed_are_values x n (eqb-false (listed_node values x) 0 e)

  all_known : known_listed T (known s mode) (expr T pattern) values ≡ true
  unfolding known_listed
  all_known = all_true (λ x. not (mentions x (expr T pattern) && known s mode x) || not (eqb (listed_node values x) 0)) 1 (name_count T)
      (λ x low lt. at x (mentions x (expr T pattern)) refl (known s mode x) refl (eqb (listed_node values x) 0) refl)
    where
      at : (x : ℕ) (m : Bool) → mentions x (expr T pattern) ≡ m → (k : Bool) → known s mode x ≡ k → (z : Bool) → eqb (listed_node values x) 0 ≡ z → (not (m && k) || not z) ≡ true
      at x false m k p z q = refl
      at x true m false p z q = refl
      at x true m true p true q = absurd (h.known_are_listed x m p (eqb-true (listed_node values x) 0 q))
      at x true m true p false q = refl

  asks : RunAsks T s mode pattern value values
  asks = record {
    sound = h.tables_pass;
    pattern_node = node_of_test T pattern h.pattern_inside;
    value_node_lem = node_of_test T value h.value_inside;
    long = h.list_long_lem;
    is_simple = h.pattern_simple;
    a_value = h.value_is_value;
    listed_values_lem = all_listed;
    known_values = all_known;
  }

  kept : Promise (is_unbound s mode) (listed T values) (expr T pattern) (value_of (expr T value))
  kept = promised asks

  -- nothing is refused
  pub outcome_is : run_outcome T s mode pattern value values ≡ carried_out (entries (plan_of T s mode pattern) top) (ran T s mode pattern value values)
  outcome_is =
      let p = h.pattern_inside in
      let v = h.value_inside in
      let l = le-leb (name_count T) (length values) h.list_long_lem in
      let i = h.pattern_simple in
      let a = h.value_is_value in
      let b = all_listed in
      let k = all_known in
      ap (λ (c : Tested). table_first c (run_checked T s mode pattern value values)) h.tables_pass ∙ rw (p, v, l, i, a, b, k)

  planned : planned_name (known s mode) (expr T pattern) ≡ to_bind (is_unbound s mode) (expr T pattern)
  planned = planned_is T s mode h.tables_pass pattern asks.pattern_node

  bound_name : (x : ℕ) → is_planned T s mode pattern value values buffer x → True (to_bind (is_unbound s mode) (expr T pattern) x)
  bound_name x p = subst (λ (f : ℕ → Bool). True (f x)) planned p

  space : fits (entries (plan_of T s mode pattern) top) buffer ≡ true
  space = let b = h.buffer_long in le-leb (length (entries (plan_of T s mode pattern) top)) (length buffer / entry_words) (omega arith)

  answer_is : answer T s mode pattern value values buffer ≡ carried_result (ran T s mode pattern value values)
  unfolding run_answer
  answer_is = let f = space in ap (λ (o : RunOutcome). run_answer o buffer) outcome_is ∙ rw f

  list_is : list T s mode pattern value values buffer ≡ set_names (to_bind (is_unbound s mode) (expr T pattern)) (ran T s mode pattern value values) values
  unfolding values_after
  list_is =
      let f = space in
      ap₂ (λ (to_set : ℕ → Bool) (o : RunOutcome). values_after to_set o buffer values) planned outcome_is ∙ rw f

  -- match or no match
  decided : (o : MatchOutcome) → (carried_result o ≡ a_match) ⊎ (carried_result o ≡ no_match_lem)
  decided (matched env) = inl refl
  decided missed = inr refl
  decided fault = inr refl

  match_env : (o : MatchOutcome) → carried_result o ≡ a_match → (env : Env) × (o ≡ matched env)
  match_env (matched env) e = (env, refl)
  match_env missed e = absurd (false≢true (cc))
  match_env fault e = absurd (false≢true (cc))

  matching : answer T s mode pattern value values buffer ≡ a_match → (env : Env) × (ran T s mode pattern value values ≡ matched env)
  matching e = match_env (ran T s mode pattern value values) (sym answer_is ∙ e)

  as_run : {o : MatchOutcome} → ran T s mode pattern value values ≡ o → outcome (is_unbound s mode) (listed T values) (expr T pattern) (value_of (expr T value)) ≡ o
  as_run e = sym (ran_run asks) ∙ e

  -- the values at the start are the table's
  listed_tabled : (x : ℕ) (u : Value) → start (is_unbound s mode) (listed T values) x ≡ some u → Tabled T u
  listed_tabled x u e = go (is_unbound s mode x) (in_table T x) refl (eqb (listed_node values x) 0) refl e
    where
      go : (c b : Bool) → in_table T x ≡ b → (z : Bool) → eqb (listed_node values x) 0 ≡ z
          → pick_value c none (cond b (cond z none (some (value_of (expr T (listed_node values x))))) none) ≡ some u → Tabled T u
      go true b n z q r = absurd (false≢true (cc))
      go false false n z q r = absurd (false≢true (cc))
      go false true n true q r = absurd (false≢true (cc))
      go false true n false q r =
          let p = and_true (leb 1 x) (leb x (name_count T)) n in
          let v = listed_value asks x (record { low = leb-true 1 x p.0; high = leb-true x (name_count T) p.1 }) (eqb-false (listed_node values x) 0 q) in
          let w : value_of (expr T (listed_node values x)) ≡ u = cc in
          rw (sym w) (value_tabled T (run_table asks) (listed_node values x) v)

  -- an entry of the list at exit
  entry_at_lem : (env : Env) → ran T s mode pattern value values ≡ matched env → (i : ℕ) → i < length values
      → get_or (list T s mode pattern value values buffer) i 0 ≡ cond (to_bind (is_unbound s mode) (expr T pattern) (i + 1)) (node_in (env (i + 1))) (get_or values i 0)
  entry_at_lem env e i lt =
      let z : 0 + i ≡ i = omega arith in
      ap (λ (l : List ℕ). get_or l i 0) (list_is ∙ ap (λ (o : MatchOutcome). set_names (to_bind (is_unbound s mode) (expr T pattern)) o values) e)
      ∙ (get_d_tabulate (λ j. cond (to_bind (is_unbound s mode) (expr T pattern) (j + 1)) (node_in (env (j + 1))) (get_or values j 0)) 0 (length values) i lt
      ∙ ap (λ (j : ℕ). cond (to_bind (is_unbound s mode) (expr T pattern) (j + 1)) (node_in (env (j + 1))) (get_or values j 0)) z)

  list_long : (o : MatchOutcome) → length (set_names (to_bind (is_unbound s mode) (expr T pattern)) o values) ≡ length values
  list_long (matched env) = length_tabulate (λ j. cond (to_bind (is_unbound s mode) (expr T pattern) (j + 1)) (node_in (env (j + 1))) (get_or values j 0)) 0 (length values)
  list_long missed = refl
  list_long fault = refl

  sets : answer T s mode pattern value values buffer ≡ a_match → (x : ℕ) → is_planned T s mode pattern value values buffer x
      → (is_value_node T (listed_node (list T s mode pattern value values buffer) x) ≡ true)
      × ((f : Filling (expr T pattern)) → Fills T s mode pattern value values buffer f → Same (value_of (expr T (listed_node (list T s mode pattern value values buffer) x))) (f.names x).value)
  sets m x t =
      let (env, e) = matching m in
      let p = bound_name x t in
      let b : to_bind (is_unbound s mode) (expr T pattern) x ≡ true = is_true p in
      let stands = true_is (and_true (mentions x (expr T pattern)) (is_unbound s mode x) b).0 in
      let v = mentioned_named T (run_table asks) pattern asks.pattern_node x stands in
      let low = v.low in
      let high = v.high in
      let long = h.list_long_lem in
      let (w, q, g) = kept.sets env (as_run e) x p in
      let t = run_tabled T (run_table asks) (plan (is_unbound s mode) (expr T pattern) []) value (value_ok asks) (start (is_unbound s mode) (listed T values)) listed_tabled env (as_run e) x w q in
      let y : x - 1 + 1 ≡ x = omega arith in
      let n : listed_node (list T s mode pattern value values buffer) x ≡ nodeᵛ w =
      entry_at_lem env e (x - 1) (omega arith)
      ∙ (ap (λ (z : ℕ). cond (to_bind (is_unbound s mode) (expr T pattern) z) (node_in (env z)) (get_or values (x - 1) 0)) y ∙ rw (b, q)) in
      let one = le-leb 1 (nodeᵛ w) t.node_ok.node.low in
      let two = le-leb (nodeᵛ w) (node_count T) t.node_ok.node.high in
      let val = t.node_ok.value in
      (rw n (rw (one, two, val)), λ f k. rw n (rw t.is (g f k)))

  keeps : (i : ℕ) → (is_planned T s mode pattern value values buffer (i + 1) → ⊥) → get_or (list T s mode pattern value values buffer) i 0 ≡ get_or values i 0
  keeps i no-plan = ap (λ (l : List ℕ). get_or l i 0) list_is ∙ go (ran T s mode pattern value values) (leb (length values) i) refl
    where
      unplanned : (b : Bool) → to_bind (is_unbound s mode) (expr T pattern) (i + 1) ≡ b → b ≡ false
      unplanned true e = absurd (no-plan (subst (λ (f : ℕ → Bool). True (f (i + 1))) (sym planned) (true_is e)))
      unplanned false e = refl

      go : (o : MatchOutcome) (b : Bool) → leb (length values) i ≡ b → get_or (set_names (to_bind (is_unbound s mode) (expr T pattern)) o values) i 0 ≡ get_or values i 0
      go (matched env) true e =
          let le = leb-true (length values) i e in
          let l = list_long (matched env) in
          get_or-eq_default (set_names (to_bind (is_unbound s mode) (expr T pattern)) (matched env) values) 0 (omega arith) ∙ sym (get_or-eq_default values 0 le)
      go (matched env) false e =
          let lt = leb-false (length values) i e in
          let z : 0 + i ≡ i = omega arith in
          let n = unplanned (to_bind (is_unbound s mode) (expr T pattern) (i + 1)) refl in
          get_d_tabulate (λ j. cond (to_bind (is_unbound s mode) (expr T pattern) (j + 1)) (node_in (env (j + 1))) (get_or values j 0)) 0 (length values) i lt
          ∙ (ap (λ (j : ℕ). cond (to_bind (is_unbound s mode) (expr T pattern) (j + 1)) (node_in (env (j + 1))) (get_or values j 0)) z ∙ ap (λ (b : Bool). cond b (node_in (env (i + 1))) (get_or values i 0)) n)
      go missed b e = refl
      go fault b e = refl

  unmatched : answer T s mode pattern value values buffer ≡ no_match_lem → list T s mode pattern value values buffer ≡ values
  unmatched e = list_is ∙ go (ran T s mode pattern value values) (sym answer_is ∙ e)
    where
      go : (o : MatchOutcome) → carried_result o ≡ no_match_lem → set_names (to_bind (is_unbound s mode) (expr T pattern)) o values ≡ values
      go (matched env) q = absurd (false≢true (cc))
      go missed q = refl
      go fault q = refl

  pub run_promised : Promised T s mode pattern value values buffer (answer T s mode pattern value values buffer) (list T s mode pattern value values buffer)
  run_promised = record {
    decided = subst (λ (a : RunResult). (a ≡ a_match) ⊎ (a ≡ no_match_lem)) (sym answer_is) (decided (ran T s mode pattern value values));
    as_planned = ran_run asks;
    no_fault_lem = λ e. kept.no_fault_lem (as_run e);
    if_matched = λ m. let (env, e) = matching m in kept.if_matched env (as_run e);
    if_filled = λ f k. let (env, e) = kept.if_made f k in answer_is ∙ ap carried_result (ran_run asks ∙ e);
    sets = sets;
    keeps = keeps;
    unmatched = unmatched;
    only_names = λ f g k l x p. kept.only_names f g k l x (bound_name x p);
    only_blanks = kept.only_blanks;
  }

pub demand : RunDemand
demand = record { runs = run_promised; equality = laws; filled = filled }
