-- A run without space for its plan says whether anything up to 23 refuses it: then, and else with 6, it is turned back with no list changed.
use Prim.Native.Nat.{ℕ, ◌+◌, ◌-◌, ◌/◌, ◌≤◌, ◌<◌}
use mathlib.Core.Path.{◌≡◌, refl, sym, ap, ap₂, subst, ◌∙◌, fun_ext}
use mathlib.Core.List.{List}
use mathlib.Core.Logic.{inl, inr}
use mathlib.Core.Bool.{Bool, true, false, cond, ◌&&◌, not, false≢true}
use mathlib.Core.Option.{none}
use native.Mathlib.Omega.{arith}
use borrow.Author.Tests.{eqb-true, eqb-false, ne_eqb, leb-true, leb-false, le-leb, lt-leb, not-true, not-false}
use lib.Dec.{T as True, eqb, leb}
use lib.ListN.{length, get_or, replicate}
use Rattle.base.specs.Lists.{all_from}
use Rattle.base.specs.Refusal.{Refusal, plan_too_large, require_or, range_wrong}
use Rattle.scope.specs.declared.Scope.{Scope}
use Rattle.scope.specs.declared.ScopingMode.{ScopingMode}
use Rattle.scope.specs.Scope.{is_unbound}
use Rattle.scope.specs.Scope as Scope
use Rattle.table.specs.Tables.{Tables, name_count, name_bytes}
use Rattle.table.specs.Names.{class_of, same_bytes, underscore_bytes, input_bytes, data_bytes}
use Rattle.table.specs.Decode.{expr, is_wildcard}
use Rattle.table.proofs.tests.Scan.{all_at, all_of}
use Rattle.planner.specs.Layout.{Place, top, entries, entry_words}
use Rattle.planner.specs.Operations.{plan_of, fits, written}
use Rattle.planner.specs.Plan.{DestructuringPlan, var, ignore, equality_expr, equality_value, array_plan, object_plan}
use Rattle.planner.specs.Names.{state_by}
use Rattle.value.specs.Value.{value_at}
use Rattle.value.specs.code.Post.{ValueNode}
use Rattle.matching.specs.Matching.{Env, pick_value}
use Rattle.matching.specs.code.Post.{env_of, ListOk}
use Rattle.run.specs.declared.RunAnswer.{RunAnswer}
use Rattle.run.specs.declared.RunAnswer.TheVariants.{Match, NoMatch}
use Rattle.run.specs.declared.RunRefusal.{RunRefusal}
use Rattle.run.specs.declared.RunRefusal.TheVariants.{PlanTooLarge}
use Rattle.run.specs.Answer as Run
use Rattle.run.specs.Operations as Ran
use Rattle.run.specs.Operations.{RunOutcome, in_table, ran, run_outcome, run_answer, values_after, planned_name, set_names}
use Rattle.run.specs.code.NamesPost.{ListAsks}
use Rattle.run.specs.code.Post.{RunAsks}
use Rattle.run.proofs.Answers.{settled}
use Rattle.run.proofs.Running.{run_table, value_ok, listed_value}
use Rattle.run.proofs.Refusing.{run_passed, Verdict, verdict}
use Rattle.tolerance.specs.declared.ToleranceAnswer.{ToleranceAnswer}
use Rattle.tolerance.specs.declared.ToleranceRefusal.{ToleranceRefusal}
use Rattle.tolerance.specs.declared.ToleranceRefusal.TheVariants.{RangeWrong}
use Rattle.tolerance.specs.declared.ToleranceRefusal.TheVariants as Refused
use Rattle.std.proofs.Common.{Result, Ok, Err}
use Rattle.tolerance.specs.Tolerance.{Answer, never}
use Rattle.tolerance.specs.Answer.{turned_back_lem, answers}
use Rattle.tolerance.specs.Operations.{range_ok, long_enough, known_values, ranges_ok, ToleranceOutcome, refused, judged, after_checks, with_lowest, tolerance_outcome, tolerance_result, plan_left, set_by, values_left, is_judged, Judged}
use Rattle.tolerance.specs.code.Decision.{every_number_of, decision}
use Rattle.tolerance.specs.code.Post.{numbers_ok, numbers_ok_in, given_ok, GivenAsks, KnownList, ToJudge}
use Rattle.tolerance.proofs.tables.Good.{ranges_by_values}
use Rattle.tolerance.proofs.tables.Judged.{is_answer, outcome_judged}

-- 1. Every plan has an entry
some_entry : (p : DestructuringPlan) (place : Place) → 1 ≤ length (entries p place)
unfolding entries
some_entry (var n x) place = omega arith
some_entry (ignore n) place = omega arith
some_entry (equality_expr e) place = omega arith
some_entry (equality_value n l) place = omega arith
some_entry (array_plan n ps) place = omega arith
some_entry (object_plan n fs) place = omega arith

-- 2. What the run without space answers
module _ (T : Tables) (s : Scope) (mode : ScopingMode) (pattern value : ℕ) (values : List ℕ) where
  module _ {now left : List ℕ} {r : Result RunAnswer RunRefusal} (done : Ran.Ran (planned_name (Scope.known s mode) (expr T pattern)) (run_outcome T s mode pattern value values) values (replicate 1 0) now left r) where
    no_space : fits (entries (plan_of T s mode pattern) top) (replicate 1 0) ≡ false
    no_space = let n = some_entry (plan_of T s mode pattern) top in lt-leb (length (entries (plan_of T s mode pattern) top)) 0 (omega arith)

    abbrev Told : Verdict T s mode pattern value values (run_outcome T s mode pattern value values) → Type 0
    Told (inl x) = (now ≡ values) × (Run.result_of r ≡ Run.turned_back_lem x.refusal)
    Told (inr a) = (now ≡ values) × (r ≡ Err (PlanTooLarge (length (entries (plan_of T s mode pattern) top))))

    told : (v : Verdict T s mode pattern value values (run_outcome T s mode pattern value values)) → Told v
    unfolding run_answer values_after
    told (inl x) = (
      done.list ∙ ap (λ (o : RunOutcome). values_after (planned_name (Scope.known s mode) (expr T pattern)) o (replicate 1 0) values) x.is,
      done.answer ∙ ap (λ (o : RunOutcome). run_answer o (replicate 1 0)) x.is,
    )
    told (inr a) = (
      done.list ∙ (ap (λ (o : RunOutcome). values_after (planned_name (Scope.known s mode) (expr T pattern)) o (replicate 1 0) values) (run_passed a)
          ∙ ap (λ (b : Bool). cond b (set_names (planned_name (Scope.known s mode) (expr T pattern)) (ran T s mode pattern value values) values) values) no_space),
      settled r (Err (PlanTooLarge (length (entries (plan_of T s mode pattern) top)))) (done.answer ∙ (ap (λ (o : RunOutcome). run_answer o (replicate 1 0)) (run_passed a)
          ∙ ap (λ (b : Bool). cond b (Ran.carried_result (ran T s mode pattern value values)) (Run.turned_back_lem (plan_too_large (length (entries (plan_of T s mode pattern) top))))) no_space)),
    )

    -- it is turned back
    pub probe_done : {a : RunAnswer} → r ≡ Ok a → ⊥
    probe_done {a} is = go (verdict T s mode pattern value values) (told (verdict T s mode pattern value values))
      where
        go : (v : Verdict T s mode pattern value values (run_outcome T s mode pattern value values)) → Told v → ⊥
        go (inl x) (kept, said) = let q : Run.match_result a ≡ Run.turned_back_lem x.refusal = sym (ap Run.result_of is) ∙ said in matches a q
          where
            matches : (b : RunAnswer) → Run.match_result b ≡ Run.turned_back_lem x.refusal → ⊥
            matches Match e = false≢true (cc)
            matches NoMatch e = false≢true (cc)
        go (inr b) (kept, said) = false≢true (cc)

    -- turned back with another number
    module _ (lows highs : List ℕ) {buffer cleared : List ℕ} {refusal : RunRefusal} (back : r ≡ Err refusal) where
      pub probe_refused : ((n : ℕ) → refusal ≡ PlanTooLarge n → ⊥) → cleared ≡ replicate (length buffer) 0 → {a : ToleranceRefusal} → a ≡ Refused.Run refusal → Judged T s mode pattern value values lows highs buffer now cleared (Err a)
      unfolding tolerance_result plan_left values_left
      probe_refused other z is = rw is (go (verdict T s mode pattern value values) (told (verdict T s mode pattern value values)))
        where
          go : (v : Verdict T s mode pattern value values (run_outcome T s mode pattern value values)) → Told v → Judged T s mode pattern value values lows highs buffer now cleared (Err (Refused.Run refusal))
          go (inl x) (kept, said) =
              let same : Run.run_refusal refusal ≡ x.refusal = let q : Run.turned_back_lem (Run.run_refusal refusal) ≡ Run.turned_back_lem x.refusal = sym (ap Run.result_of back) ∙ said in cc in
              let q : (a : Answer) → tolerance_outcome T s mode pattern value values lows highs a ≡ refused x.refusal = λ a. ap (λ (o : RunOutcome). after_checks o (require_or refused (ranges_ok T s mode value values lows highs) range_wrong (judged (entries (plan_of T s mode pattern) top) a (with_lowest T s mode pattern value values lows highs)))) x.is in
              record {
                answer = never;
                means = λ t. absurd (subst (λ (o : ToleranceOutcome). True (is_judged o)) (q never) t);
                told = ap turned_back_lem same ∙ sym (ap (λ (o : ToleranceOutcome). tolerance_result o buffer) (q never));
                plan = z ∙ sym (ap (λ (o : ToleranceOutcome). plan_left o buffer) (q never));
                list = kept ∙ sym (ap (λ (o : ToleranceOutcome). values_left (planned_name (Scope.known s mode) (expr T pattern)) o buffer values) (q never));
              }
          go (inr a) (kept, said) = absurd (other (length (entries (plan_of T s mode pattern) top)) (let q : ◌≡◌ {A = Result RunAnswer RunRefusal} (Err refusal) (Err (PlanTooLarge (length (entries (plan_of T s mode pattern) top)))) = sym back ∙ said in cc))

    -- nothing up to 23 refuses
    module _ {refusal : RunRefusal} (back : r ≡ Err refusal) {needed : ℕ} (six : refusal ≡ PlanTooLarge needed) where
      pub record Passed : Type 0 where
        pub asks : RunAsks T s mode pattern value values
        pub kept : now ≡ values
        pub size : needed ≡ length (entries (plan_of T s mode pattern) top)

      pub all_passed : Passed
      all_passed = go (verdict T s mode pattern value values) (told (verdict T s mode pattern value values))
        where
          go : (v : Verdict T s mode pattern value values (run_outcome T s mode pattern value values)) → Told v → Passed
          go (inl x) (kept, said) =
              let q : Run.turned_back_lem (plan_too_large needed) ≡ Run.turned_back_lem x.refusal = sym (ap Run.result_of (back ∙ ap Err six)) ∙ said in
              let p : plan_too_large needed ≡ x.refusal = cc in
              absurd (false≢true (sym x.number ∙ sym (ap (λ (y : Refusal). eqb y.number 6) p)))
          go (inr a) (kept, said) = record { asks = a; kept = kept; size = let q : ◌≡◌ {A = Result RunAnswer RunRefusal} (Err (PlanTooLarge needed)) (Err (PlanTooLarge (length (entries (plan_of T s mode pattern) top)))) = sym (back ∙ ap Err six) ∙ said in cc }

      pub probe_names : ListAsks T.names now
      probe_names = let a = all_passed.asks in let k = all_passed.kept in record { few = (run_table a).limits.names; long = rw k a.long }

-- 3. The known names' values
known_state : (bs : List ℕ) (u : Bool) → eqb (state_by (class_of bs) u) 0 ≡ (not (same_bytes bs underscore_bytes) && not u)
unfolding class_of
known_state bs u = go (same_bytes bs underscore_bytes) refl (same_bytes bs input_bytes) refl (same_bytes bs data_bytes) refl u
  where
    go : (a : Bool) → same_bytes bs underscore_bytes ≡ a → (b : Bool) → same_bytes bs input_bytes ≡ b → (c : Bool) → same_bytes bs data_bytes ≡ c → (u : Bool) → eqb (state_by (class_of bs) u) 0 ≡ (not (same_bytes bs underscore_bytes) && not u)
    go true p b q c r u = simp p
    go false p true q c r true = simp (p, q)
    go false p true q c r false = simp (p, q)
    go false p false q true r true = simp (p, q, r)
    go false p false q true r false = simp (p, q, r)
    go false p false q false r true = simp (p, q, r)
    go false p false q false r false = simp (p, q, r)

module _ {T : Tables} {s : Scope} {mode : ScopingMode} {pattern value : ℕ} {values : List ℕ} (a : RunAsks T s mode pattern value values) {list : List ℕ} (of : KnownList T.names T.text s mode values list) where
  at_name : (x : ℕ) → 1 ≤ x → x ≤ name_count T → get_or list (x - 1) 0 ≡ cond (not (is_wildcard T x) && not (is_unbound s mode x)) (get_or values (x - 1) 0) 0
  at_name x low high = of.each x low high ∙ ap (λ (b : Bool). cond b (get_or values (x - 1) 0) 0) (known_state (name_bytes T.names T.text x) (is_unbound s mode x))

  pub known_ok : ListOk T list
  known_ok = record { long = of.long; each = λ i nz. at i nz (leb (name_count T) i) refl }
    where
      by : (i : ℕ) → i < name_count T → (get_or list i 0 ≡ 0 → ⊥) → (b : Bool) → get_or list i 0 ≡ cond b (get_or values i 0) 0 → ValueNode T (get_or list i 0)
      by i lt nz true e =
          let q : i + 1 - 1 ≡ i = omega arith in
          let v = listed_value a (i + 1) (record { low = omega arith; high = omega arith }) (λ z. nz (e ∙ (rw q at z))) in
          rw e (rw q at v)
      by i lt nz false e = absurd (nz e)

      at : (i : ℕ) → (get_or list i 0 ≡ 0 → ⊥) → (b : Bool) → leb (name_count T) i ≡ b → ValueNode T (get_or list i 0)
      at i nz true p = absurd (nz (of.rest i (leb-true (name_count T) i p)))
      at i nz false p =
          let lt = leb-false (name_count T) i p in
          let q : i + 1 - 1 ≡ i = omega arith in
          by i lt nz (not (is_wildcard T (i + 1)) && not (is_unbound s mode (i + 1))) (rw q at (at_name (i + 1) (omega arith) (omega arith)))

  name_test : (x : ℕ) → 1 ≤ x → x ≤ name_count T → in_table T x ≡ true
  name_test x low high = ap₂ ◌&&◌ (le-leb 1 x low) (le-leb x (name_count T) high)

  pub known_env : env_of T list ≡ known_values T s mode values
  known_env = fun_ext (λ x. at x (eqb x 0) refl (leb x (name_count T)) refl)
    where
      nothing : (u c : Bool) → none ≡ pick_value u none (cond c none none)
      nothing true c = refl
      nothing false true = refl
      nothing false false = refl

      pick : (x : ℕ) (c u : Bool) → value_at T (cond (not c && not u) (get_or values (x - 1) 0) 0) ≡ pick_value u none (cond c none (value_at T (get_or values (x - 1) 0)))
      pick x true true = refl
      pick x true false = refl
      pick x false true = refl
      pick x false false = refl

      right_false : (b : Bool) → (b && false) ≡ false
      right_false true = refl
      right_false false = refl

      at : (x : ℕ) (b : Bool) → eqb x 0 ≡ b → (c : Bool) → leb x (name_count T) ≡ c → env_of T list x ≡ known_values T s mode values x
      at x true b c d = let z = eqb-true x 0 b in rw z (nothing (is_unbound s mode 0) (is_wildcard T 0))
      at x false b true d =
          let nz = eqb-false x 0 b in
          let high = leb-true x (name_count T) d in
          let low : 1 ≤ x = omega (arith, nz) in
          let n = name_test x low high in
          let e = at_name x low high in
          rw (b, n) (rw e (pick x (is_wildcard T x) (is_unbound s mode x)))
      at x false b false d =
          let nz = eqb-false x 0 b in
          let past = leb-false x (name_count T) d in
          let e = of.rest (x - 1) (omega (arith, nz)) in
          let n : in_table T x ≡ false = ap (λ (c : Bool). leb 1 x && c) d ∙ right_false (leb 1 x) in
          rw (b, n) (rw e (nothing (is_unbound s mode x) (is_wildcard T x)))

  pub given_asks : GivenAsks T value list
  given_asks = record { table = run_table a; value_ok = value_ok a; list_ok = known_ok }

  -- 32 by the list
  module _ (lows highs : List ℕ) where
    both_ways : (x y : Bool) → (x ≡ true → y ≡ true) → (y ≡ true → x ≡ true) → x ≡ y
    both_ways true y f g = sym (f refl)
    both_ways false true f g = g refl
    both_ways false false f g = refl

    env_place : (i : ℕ) → env_of T list (1 + i) ≡ value_at T (get_or list i 0)
    env_place i =
        let z = ne_eqb (1 + i) 0 (λ e. omega arith) in
        let q : 1 + i - 1 ≡ i = omega arith in
        rw (z, q)

    names_too : all_from (numbers_ok_in T lows highs list) 0 128 ≡ all_from (λ x. every_number_of (range_ok lows highs) (known_values T s mode values x)) 1 (name_count T)
    names_too = both_ways _ _ to from
      where
        here : (i : ℕ) → every_number_of (range_ok lows highs) (known_values T s mode values (1 + i)) ≡ numbers_ok_in T lows highs list i
        here i = ap (every_number_of (range_ok lows highs)) (sym (ap (λ (env : Env). env (1 + i)) known_env) ∙ env_place i)

        to : all_from (numbers_ok_in T lows highs list) 0 128 ≡ true → all_from (λ x. every_number_of (range_ok lows highs) (known_values T s mode values x)) 1 (name_count T) ≡ true
        to t = all_of (λ x. every_number_of (range_ok lows highs) (known_values T s mode values x)) 1 (name_count T) (λ i lt.
            let few = (run_table a).limits.names in
            let z : 0 + i ≡ i = omega arith in
            here i ∙ (sym (ap (numbers_ok_in T lows highs list) z) ∙ all_at (numbers_ok_in T lows highs list) 0 128 t i (omega arith)))

        at : (i : ℕ) (b : Bool) → leb (name_count T) i ≡ b → all_from (λ x. every_number_of (range_ok lows highs) (known_values T s mode values x)) 1 (name_count T) ≡ true → numbers_ok_in T lows highs list i ≡ true
        at i true p t = ap (λ (m : ℕ). every_number_of (range_ok lows highs) (value_at T m)) (of.rest i (leb-true (name_count T) i p))
        at i false p t = sym (here i) ∙ all_at (λ x. every_number_of (range_ok lows highs) (known_values T s mode values x)) 1 (name_count T) t i (leb-false (name_count T) i p)

        from : all_from (λ x. every_number_of (range_ok lows highs) (known_values T s mode values x)) 1 (name_count T) ≡ true → all_from (numbers_ok_in T lows highs list) 0 128 ≡ true
        from t = all_of (numbers_ok_in T lows highs list) 0 128 (λ i lt. let z : 0 + i ≡ i = omega arith in rw z (at i (leb (name_count T) i) refl t))

    pub ranges-given : given_ok T value lows highs list ≡ ranges_ok T s mode value values lows highs
    unfolding given_ok
    ranges-given = ap (λ (b : Bool). long_enough T lows && (long_enough T highs && (numbers_ok T lows highs value && b))) names_too ∙ sym (ranges_by_values a lows highs)

-- 5. For the code: what follows a run that was turned back with 6 alone
module _ (T : Tables) (s : Scope) (mode : ScopingMode) (pattern value : ℕ) (values : List ℕ) {now left : List ℕ} {r : Result RunAnswer RunRefusal} (done : Ran.Ran (planned_name (Scope.known s mode) (expr T pattern)) (run_outcome T s mode pattern value values) values (replicate 1 0) now left r)
    {refusal : RunRefusal} (back : r ≡ Err refusal) {needed : ℕ} (six : refusal ≡ PlanTooLarge needed) {list : List ℕ} (of : KnownList T.names T.text s mode now list) where
  here : Passed T s mode pattern value values done back six
  here = all_passed T s mode pattern value values done back six

  known_here : KnownList T.names T.text s mode values list
  known_here = rw here.kept at of

  pub given_here : GivenAsks T value list
  given_here = given_asks here.asks known_here

  module _ (lows highs : List ℕ) {ok : Bool} (is : ok ≡ given_ok T value lows highs list) where
    ranges_are : ranges_ok T s mode value values lows highs ≡ ok
    ranges_are = sym (is ∙ ranges-given here.asks known_here lows highs)

    pub range_refused : not ok ≡ true → {buffer cleared : List ℕ} → cleared ≡ replicate (length buffer) 0 → Judged T s mode pattern value values lows highs buffer now cleared (Err RangeWrong)
    unfolding tolerance_result plan_left values_left
    range_refused t {buffer} {cleared} z =
        let f : ranges_ok T s mode value values lows highs ≡ false = ranges_are ∙ not-true ok t in
        let q : (a : Answer) → tolerance_outcome T s mode pattern value values lows highs a ≡ refused range_wrong = λ a. rw (run_passed here.asks, f) in
        record {
          answer = never;
          means = λ t. absurd (subst (λ (o : ToleranceOutcome). True (is_judged o)) (q never) t);
          told = sym (ap (λ (o : ToleranceOutcome). tolerance_result o buffer) (q never));
          plan = z ∙ sym (ap (λ (o : ToleranceOutcome). plan_left o buffer) (q never));
          list = here.kept ∙ sym (ap (λ (o : ToleranceOutcome). values_left (planned_name (Scope.known s mode) (expr T pattern)) o buffer values) (q never));
        }

    module _ (t : not ok ≡ false) where
      good : ranges_ok T s mode value values lows highs ≡ true
      good = ranges_are ∙ not-false ok t

      pub plan_refused : {buffer cleared : List ℕ} → length buffer / entry_words < needed → cleared ≡ replicate (length buffer) 0 → {a : ToleranceRefusal} → a ≡ Refused.Run (PlanTooLarge needed) → Judged T s mode pattern value values lows highs buffer now cleared (Err a)
      unfolding tolerance_result plan_left values_left written
      plan_refused {buffer} {cleared} lt z is = rw is (
          let size = here.size in
          let f : fits (entries (plan_of T s mode pattern) top) buffer ≡ false = lt-leb (length (entries (plan_of T s mode pattern) top)) (length buffer / entry_words) (rw size at lt) in
          let d : Answer = decision T s mode pattern value values lows highs in
          let q = outcome_judged here.asks lows highs good d in
          record {
            answer = d;
            means = λ t. is_answer here.asks lows highs good;
            told = ap (λ (n : ℕ). turned_back_lem (plan_too_large n)) size
                ∙ sym (ap (λ (o : ToleranceOutcome). tolerance_result o buffer) q ∙ ap (λ (b : Bool). cond b (answers d) (turned_back_lem (plan_too_large (length (entries (plan_of T s mode pattern) top))))) f);
            plan = z ∙ sym (ap (λ (o : ToleranceOutcome). plan_left o buffer) q ∙ rw f);
            list = here.kept ∙ sym (ap (λ (o : ToleranceOutcome). values_left (planned_name (Scope.known s mode) (expr T pattern)) o buffer values) q
                ∙ ap (λ (b : Bool). cond b (set_names (planned_name (Scope.known s mode) (expr T pattern)) (set_by d (with_lowest T s mode pattern value values lows highs)) values) values) f);
          })

      module _ {buffer : List ℕ} (le : needed ≤ length buffer / entry_words) where
        pub ask_judge : ToJudge T s mode pattern value now lows highs list buffer
        ask_judge =
            let size = here.size in
            rw here.kept (record {
              judging = record { asks = here.asks; ranges = good; begins = known_env here.asks known_here };
              list_ok = known_ok here.asks known_here;
              fits = rw size at le;
            })

        pub judged_here : {after filled : List ℕ} {answer : Result ToleranceAnswer ToleranceRefusal} → Judged T s mode pattern value now lows highs buffer after filled answer → Judged T s mode pattern value values lows highs buffer after filled answer
        judged_here j = rw here.kept at j
