-- A run, from the checks to the list at the end.
use Rattle.std.proofs.Common.{Result}
use Prim.Native.Nat.{ℕ, ◌+◌, ◌-◌, ◌*◌, ◌/◌, ◌≤◌, ◌<◌}
use mathlib.Core.Path.{◌≡◌, refl, sym, ap, subst, ◌∙◌, fun_ext}
use mathlib.Core.List.{List, []}
use mathlib.Core.Bool.{Bool, true, false, cond, ◌&&◌, ◌||◌, not, false≢true}
use mathlib.Core.Option.{none, some}
use native.Mathlib.Omega.{arith}
use borrow.Author.Tests.{eqb-true, eqb-false, eq-eqb, ne_eqb, le-leb, lt-leb, leb-true, leb-false}
use lib.Dec.{T as True, eqb, leb}
use lib.ListN.{length, get_or, replicate, length-replicate}
use lib.Seq.{ext_get_or}
use Rattle.scope.specs.declared.Scope.{Scope}
use Rattle.scope.specs.declared.ScopingMode.{ScopingMode}
use Rattle.scope.specs.Scope.{is_unbound, known}
use Rattle.table.specs.Tables.{Tables, name_count, is_node}
use Rattle.table.specs.Decode.{expr}
use Rattle.base.specs.Lists.{elem, tabulate}
use Rattle.table.specs.code.Sound.{Named, WellFormed, SoundTable}
use Rattle.table.proofs.tests.Bools.{and_true}
use Rattle.table.proofs.trees.Facts.{sound_table}
use Rattle.table.proofs.tests.Scan.{all_at}
use Rattle.base.specs.Refusal.{plan_too_large}
use Rattle.planner.specs.Plan.{plan}
use Rattle.planner.specs.Layout.{top, entry_words, entries}
use Rattle.planner.specs.Entries.{read_entries, Wrote, Closed, word_at}
use Rattle.planner.specs.Operations.{planned, fits, written, plan_of}
use Rattle.planner.specs.code.Post.{pattern_words, Laid, PatternAsks, PatternPlanned}
use Rattle.planner.specs.declared.Plan.{Plan}
use Rattle.planner.specs.declared.PlanRefusal.{PlanRefusal}
use Rattle.planner.specs.Simple.{mentions}
use Rattle.planner.proofs.buffer.Filling.{length_tabulate, get_d_tabulate}
use Rattle.planner.proofs.buffer.Copies.{wrote_long, wrote_read, wrote_closed}
use Rattle.planner.proofs.laws.Operations.{ask_pattern, pattern_tracked}
use Rattle.value.specs.Value.{Value, is_value, value_of, value_at, Proper, node_in}
use Rattle.value.specs.code.Post.{ValueNode}
use Rattle.value.proofs.Keys.{true_is, is_true}
use Rattle.value.proofs.Admitted.{value_proper}
use Rattle.std.proofs.Common.{Ok, Err}
use Rattle.matching.specs.Matching.{Env, MatchOutcome, matched, missed, fault, pick_value, run, start, outcome, Asked, Promise}
use Rattle.matching.specs.code.Post as Post
use Rattle.matching.specs.code.Post.{env_of, ListOk, PlanIn, names_after, PatternCame}
use Rattle.matching.proofs.Promise as Promise·
use Rattle.matching.proofs.EntryLists.{scratch_laid}
use Rattle.matching.proofs.reading.PlanTold.{run_whole}
use Rattle.report.proofs.Meeting.{after_met, mentions_met, mentioned_named}
use Rattle.run.specs.declared.RunAnswer.{RunAnswer}
use Rattle.run.specs.declared.RunAnswer.TheVariants.{Match, NoMatch}
use Rattle.run.specs.declared.RunRefusal.TheVariants.{PlanTooLarge}
use Rattle.run.specs.Answer.{turned_back_lem, a_match, no_match_lem}
use Rattle.run.specs.Operations.{listed_node, in_table, all_names, is_value_node, listed, values_listed, known_listed, carried_out, ran, carried_result, run_answer, plan_after, set_names, planned_name, values_after, Ran}
use Rattle.run.specs.code.Post.{RunAsks, MatchValuesAsks, to_bind, ValuesCame}
use Rattle.run.specs.code.NamesPost.{ListAsks, StartOf, NamesSet}
use Rattle.run.proofs.Checking.{node_of_test}
use Rattle.run.proofs.Known.{known_is, planned_is}

name_test : (T : Tables) (x : ℕ) → Named T x → in_table T x ≡ true
name_test T x v = let a = le-leb 1 x v.low in let b = le-leb x (name_count T) v.high in rw (a, b)

-- what the tests of all names say of one
name_at_lem : (T : Tables) (p : ℕ → Bool) → all_names T p ≡ true → (x : ℕ) → Named T x → p x ≡ true
name_at_lem T p e x v =
    let low = v.low in
    let high = v.high in
    let q : 1 + (x - 1) ≡ x = omega arith in
    rw q at (all_at p 1 (name_count T) e (x - 1) (omega arith))

module _ {T : Tables} {s : Scope} {mode : ScopingMode} {pattern value : ℕ} {values : List ℕ} (a : RunAsks T s mode pattern value values) where
  sound : SoundTable T
  sound = sound_table T s a.sound

  pub run_table : WellFormed T
  run_table = sound.well_formed_lem

  pub value_ok : ValueNode T value
  value_ok = record { node = a.value_node_lem; value = a.a_value }

  -- a listed node that is not 0 is a value
  pub listed_value : (x : ℕ) → Named T x → (listed_node values x ≡ 0 → ⊥) → ValueNode T (listed_node values x)
  unfolding values_listed
  listed_value x v nz =
      let e = name_at_lem T (λ y. eqb (listed_node values y) 0 || is_value_node T (listed_node values y)) a.listed_values_lem x v in
      let z = ne_eqb (listed_node values x) 0 nz in
      let b : is_value_node T (listed_node values x) ≡ true = rw z at e in
      let p = and_true (is_node T (listed_node values x)) (is_value (expr T (listed_node values x))) b in
      record { node = node_of_test T (listed_node values x) p.0; value = p.1 }

  value_listed : (x : ℕ) → True (mentions x (expr T pattern)) → is_unbound s mode x ≡ false → listed_node values x ≡ 0 → ⊥
  unfolding known_listed
  value_listed x t bound z =
      let v = mentioned_named T run_table pattern a.pattern_node x t in
      let e = name_at_lem T (λ y. not (mentions y (expr T pattern) && known s mode y) || not (eqb (listed_node values y) 0)) a.known_values x v in
      let m : mentions x (expr T pattern) ≡ true = is_true t in
      let k : known s mode x ≡ true = known_is T s mode a.sound pattern a.pattern_node x t ∙ ap not bound in
      let q = eq-eqb (listed_node values x) 0 z in
      false≢true (rw (m, k, q) at e)

  -- what demand 3 asks
  pub asked : Asked (is_unbound s mode) (listed T values) (expr T pattern) (value_of (expr T value))
  asked = record {
    is_simple = true_is a.is_simple;
    value_proper_lem = value_proper (expr T value) (true_is a.a_value);
    list_proper = λ x w e. proper x w (in_table T x) refl (eqb (listed_node values x) 0) refl e;
    known_listed = λ x t known.
        let v = mentioned_named T run_table pattern a.pattern_node x t in
        let b = name_test T x v in
        let z = ne_eqb (listed_node values x) 0 (value_listed x t known) in
        (value_of (expr T (listed_node values x)), rw (b, z));
  }
    where
      named : (x : ℕ) → in_table T x ≡ true → Named T x
      named x b = let p = and_true (leb 1 x) (leb x (name_count T)) b in record { low = leb-true 1 x p.0; high = leb-true x (name_count T) p.1 }

      proper : (x : ℕ) (w : Value) (b : Bool) → in_table T x ≡ b → (c : Bool) → eqb (listed_node values x) 0 ≡ c → cond (in_table T x) (cond (eqb (listed_node values x) 0) none (some (value_of (expr T (listed_node values x))))) none ≡ some w → Proper w
      proper x w false b c z e = absurd (false≢true (let q = rw b at e in cc))
      proper x w true b true z e = absurd (false≢true (let q = rw (b, z) at e in cc))
      proper x w true b false z e =
          let q : value_of (expr T (listed_node values x)) ≡ w = let h = rw (b, z) at e in cc in
          let v = listed_value x (named x b) (eqb-false (listed_node values x) 0 z) in
          rw (← q) (value_proper (expr T (listed_node values x)) (true_is v.value))

  pub promised : Promise (is_unbound s mode) (listed T values) (expr T pattern) (value_of (expr T value))
  promised = Promise·.proved (is_unbound s mode) (listed T values) (expr T pattern) (value_of (expr T value)) asked

  -- carrying the entries out is the run of the plan
  pub ran_run : ran T s mode pattern value values ≡ outcome (is_unbound s mode) (listed T values) (expr T pattern) (value_of (expr T value))
  ran_run = run_whole T run_table (is_unbound s mode) pattern a.pattern_node a.is_simple [] top (value_of (expr T value)) (start (is_unbound s mode) (listed T values))

  -- the code's list at the start
  module _ {list : List ℕ} (of : StartOf (length T.names / 2) s mode values list) where
    few_names : name_count T ≤ 128
    few_names = run_table.limits.names

    pub start_ok : ListOk T list
    start_ok = record { long = of.long; each = λ i nz. at i nz (leb (name_count T) i) refl }
      where
        at : (i : ℕ) → (get_or list i 0 ≡ 0 → ⊥) → (b : Bool) → leb (name_count T) i ≡ b → ValueNode T (get_or list i 0)
        at i nz true p = absurd (nz (of.rest i (leb-true (name_count T) i p)))
        at i nz false p =
            let lt = leb-false (name_count T) i p in
            let q : i + 1 - 1 ≡ i = omega arith in
            let e : get_or list i 0 ≡ cond (is_unbound s mode (i + 1)) 0 (get_or values i 0) = rw q at (of.each (i + 1) (omega arith) (omega arith)) in
            go e (is_unbound s mode (i + 1)) refl
          where
            go : get_or list i 0 ≡ cond (is_unbound s mode (i + 1)) 0 (get_or values i 0) → (c : Bool) → is_unbound s mode (i + 1) ≡ c → ValueNode T (get_or list i 0)
            go e true r = absurd (nz (e ∙ rw r))
            go e false r =
                let lt = leb-false (name_count T) i p in
                let q : i + 1 - 1 ≡ i = omega arith in
                let f : get_or list i 0 ≡ get_or values i 0 = e ∙ rw r in
                let v = listed_value (i + 1) (record { low = omega arith; high = omega arith }) (λ z. nz (f ∙ (rw q at z))) in
                rw f (rw q at v)

    pub start_env : env_of T list ≡ start (is_unbound s mode) (listed T values)
    start_env = fun_ext (λ x. at x (eqb x 0) refl (leb x (name_count T)) refl)
      where
        both : (b : Bool) → none ≡ pick_value b none none
        both true = refl
        both false = refl

        at : (x : ℕ) (b : Bool) → eqb x 0 ≡ b → (c : Bool) → leb x (name_count T) ≡ c → env_of T list x ≡ start (is_unbound s mode) (listed T values) x
        at x true b c d =
            let z = eqb-true x 0 b in
            rw z (both (is_unbound s mode 0))
        at x false b true d =
            let nz = eqb-false x 0 b in
            let high = leb-true x (name_count T) d in
            let low : 1 ≤ x = omega (arith, nz) in
            let e = of.each x low high in
            let n = name_test T x (record { low = low; high = high }) in
            rw (b, n) (rw e (go (is_unbound s mode x)))
          where
            go : (u : Bool) → value_at T (cond u 0 (get_or values (x - 1) 0)) ≡ pick_value u none (value_at T (get_or values (x - 1) 0))
            go true = refl
            go false = refl
        at x false b false d =
            let nz = eqb-false x 0 b in
            let past = leb-false x (name_count T) d in
            let e = of.rest (x - 1) (omega (arith, nz)) in
            let n : in_table T x ≡ false = ap (λ (c : Bool). leb 1 x && c) d ∙ go (leb 1 x) in
            rw (b, n) (rw e (both (is_unbound s mode x)))
          where
            go : (c : Bool) → (c && false) ≡ false
            go true = refl
            go false = refl

    -- the run from this list is that of the definition
    run_here : run (plan (is_unbound s mode) (expr T pattern) []) (value_of (expr T value)) (env_of T list) ≡ outcome (is_unbound s mode) (listed T values) (expr T pattern) (value_of (expr T value))
    run_here = ap (λ (env : Env). run (plan (is_unbound s mode) (expr T pattern) []) (value_of (expr T value)) env) start_env

    ran_here : run (plan (is_unbound s mode) (expr T pattern) []) (value_of (expr T value)) (env_of T list) ≡ ran T s mode pattern value values
    ran_here = run_here ∙ sym ran_run

    module _ {scratch : List ℕ} {count : ℕ} (laid : Laid (replicate pattern_words 0) 0 (entries (plan (is_unbound s mode) (expr T pattern) []) top) scratch count) where
      pub plan_in : PlanIn T (is_unbound s mode) pattern scratch count
      plan_in = record { node = a.pattern_node; is_simple = a.is_simple; laid = laid }

      pub match_asks : Post.PatternAsks T scratch count value list
      match_asks = record {
        table = run_table;
        unbound = is_unbound s mode;
        root = pattern;
        planned = plan_in;
        deep = sound.shallow pattern a.pattern_node;
        value_ok = value_ok;
        list_ok = start_ok;
        no_fault = λ e. promised.no_fault_lem (sym run_here ∙ e);
      }

-- the names with a binder are the ones to be set
module _ {T : Tables} {s : Scope} {mode : ScopingMode} {root value : ℕ} {before : List ℕ} (a : RunAsks T s mode root value before) {binders scratch : List ℕ} {count : ℕ} (p : PatternPlanned T s mode root 0 (replicate pattern_words 0) binders scratch count) where
  binder_planned : (i : ℕ) → i < name_count T → eqb (get_or binders i 0) 0 ≡ not (to_bind (is_unbound s mode) (expr T root) (i + 1))
  unfolding elem
  binder_planned i lt =
      let few = (run_table a).limits.names in
      let q : i + 1 - 1 ≡ i = omega arith in
      let t = pattern_tracked (run_table a) a.pattern_node p (i + 1) (record { low = omega arith; high = omega arith }) in
      let m = after_met (is_unbound s mode) (i + 1) (expr T root) [] in
      let w = mentions_met (i + 1) (expr T root) a.is_simple in
      let e : not (eqb (get_or binders i 0) 0) ≡ ((mentions (i + 1) (expr T root) && is_unbound s mode (i + 1)) || false) = sym (rw q at t) ∙ (m ∙ ap (λ (b : Bool). (b && is_unbound s mode (i + 1)) || false) (sym w)) in
      flip (eqb (get_or binders i 0) 0) (to_bind (is_unbound s mode) (expr T root) (i + 1)) e
    where
      flip : (b c : Bool) → not b ≡ (c || false) → b ≡ not c
      flip true true e = absurd (false≢true e)
      flip true false e = refl
      flip false true e = refl
      flip false false e = absurd (false≢true (sym e))

  none_past : (i : ℕ) → name_count T ≤ i → to_bind (is_unbound s mode) (expr T root) (i + 1) ≡ false
  none_past i le = go (mentions (i + 1) (expr T root)) refl
    where
      go : (b : Bool) → mentions (i + 1) (expr T root) ≡ b → (b && is_unbound s mode (i + 1)) ≡ false
      go true e = let v = mentioned_named T (run_table a) root a.pattern_node (i + 1) (true_is e) in let h = v.high in absurd (omega arith)
      go false e = refl

  -- from the nodes of the names' values
  names_set_lem : (env : Env) {list after : List ℕ} → list ≡ tabulate (λ i. node_in (env (i + 1))) 0 128 → NamesSet (name_count T) binders list before after → after ≡ set_names (to_bind (is_unbound s mode) (expr T root)) (matched env) before
  names_set_lem env {list} {after} is set =
      ext_get_or 0 after (set_names (to_bind (is_unbound s mode) (expr T root)) (matched env) before)
      (set.long ∙ sym (length_tabulate (λ i. cond (to_bind (is_unbound s mode) (expr T root) (i + 1)) (node_in (env (i + 1))) (get_or before i 0)) 0 (length before)))
      (λ i lt.
      let long = set.long in
      let z : 0 + i ≡ i = omega arith in
      at i (leb (name_count T) i) refl
      ∙ sym (get_d_tabulate (λ j. cond (to_bind (is_unbound s mode) (expr T root) (j + 1)) (node_in (env (j + 1))) (get_or before j 0)) 0 (length before) i (omega arith)
      ∙ ap (λ (j : ℕ). cond (to_bind (is_unbound s mode) (expr T root) (j + 1)) (node_in (env (j + 1))) (get_or before j 0)) z))
    where
      pick : (b : Bool) (x y : ℕ) → cond (not b) x y ≡ cond b y x
      pick true x y = refl
      pick false x y = refl

      held : (i : ℕ) → i < name_count T → get_or list i 0 ≡ node_in (env (i + 1))
      held i lt =
          let few = (run_table a).limits.names in
          let z : 0 + i ≡ i = omega arith in
          ap (λ (l : List ℕ). get_or l i 0) is ∙ (get_d_tabulate (λ j. node_in (env (j + 1))) 0 128 i (omega arith) ∙ ap (λ (j : ℕ). node_in (env (j + 1))) z)

      at : (i : ℕ) (b : Bool) → leb (name_count T) i ≡ b → get_or after i 0 ≡ cond (to_bind (is_unbound s mode) (expr T root) (i + 1)) (node_in (env (i + 1))) (get_or before i 0)
      at i true e =
          let le = leb-true (name_count T) i e in
          let n = none_past i le in
          set.rest i le ∙ sym (ap (λ (b : Bool). cond b (node_in (env (i + 1))) (get_or before i 0)) n)
      at i false e =
          let lt = leb-false (name_count T) i e in
          set.each i lt
          ∙ (ap (λ (b : Bool). cond b (get_or before i 0) (get_or list i 0)) (binder_planned i lt)
          ∙ (pick (to_bind (is_unbound s mode) (expr T root) (i + 1)) (get_or before i 0) (get_or list i 0)
          ∙ ap (λ (m : ℕ). cond (to_bind (is_unbound s mode) (expr T root) (i + 1)) m (get_or before i 0)) (held i lt)))

-- matching, from the values in the list
module _ {T : Tables} {s : Scope} {mode : ScopingMode} {scratch : List ℕ} {count value : ℕ} {before : List ℕ} (a : MatchValuesAsks T s mode scratch count value before) where
  pub ask_list : ListAsks T.names before
  ask_list = record { few = (run_table a.asks).limits.names; long = a.asks.long }

  module _ {list : List ℕ} (of : StartOf (length T.names / 2) s mode before list) where
    pub ask_match : Post.PatternAsks T scratch count value list
    ask_match = match_asks a.asks of a.laid

    module _ {r : Result (List ℕ) (List ℕ)} (came : PatternCame T scratch count value list r) (binders : List ℕ) where
      of_root : (root : ℕ) → RunAsks T s mode root value before → PatternPlanned T s mode root 0 (replicate pattern_words 0) binders scratch count → r ≡ names_after (ran T s mode root value before) list
      of_root root b p = subst (λ (o : MatchOutcome). r ≡ names_after o list) (ran_here b of) (came.each (is_unbound s mode) root (plan_in b of (scratch_laid p.wrote p.few)))

      pub values_missed : {held : List ℕ} → r ≡ Err held → ValuesCame T s mode scratch count binders value before before NoMatch
      values_missed {held} t = record { each = λ root b p. by root (ran T s mode root value before) (sym t ∙ of_root root b p) }
        where
          by : (root : ℕ) (o : MatchOutcome) → ◌≡◌ {A = Result (List ℕ) (List ℕ)} (Err held) (names_after o list) → (no_match_lem ≡ carried_result o) × (before ≡ set_names (to_bind (is_unbound s mode) (expr T root)) o before)
          by root (matched env) e = absurd (false≢true (cc))
          by root missed e = (refl, refl)
          by root fault e = (refl, refl)

      pub values_matched : {held after : List ℕ} → r ≡ Ok held → NamesSet (length T.names / 2) binders held before after → ValuesCame T s mode scratch count binders value before after Match
      values_matched {held} {after} t set = record {
        each = λ root b p. by root b p (ran T s mode root value before) (sym t ∙ of_root root b p);
      }
        where
          by : (root : ℕ) → RunAsks T s mode root value before → PatternPlanned T s mode root 0 (replicate pattern_words 0) binders scratch count → (o : MatchOutcome) → ◌≡◌ {A = Result (List ℕ) (List ℕ)} (Ok held) (names_after o list)
              → (a_match ≡ carried_result o) × (after ≡ set_names (to_bind (is_unbound s mode) (expr T root)) o before)
          by root b p (matched env) e = (refl, names_set_lem b p env (cc) set)
          by root b p missed e = absurd (false≢true (cc))
          by root b p fault e = absurd (false≢true (cc))

-- the plan and what carrying it out came to
module _ (T : Tables) (s : Scope) (mode : ScopingMode) (pattern value : ℕ) {values : List ℕ} (a : RunAsks T s mode pattern value values) where
  pub ask_plan : PatternAsks T pattern (replicate 128 0) 0
  ask_plan = ask_pattern T pattern (record { table = run_table a; node = a.pattern_node })

  module _ {binders scratch : List ℕ} {count : ℕ} (p : PatternPlanned T s mode pattern 0 (replicate pattern_words 0) binders scratch count) where
    pub ask_values : MatchValuesAsks T s mode scratch count value values
    ask_values = record { root = pattern; asks = a; laid = scratch_laid p.wrote p.few }

    size : count ≡ length (entries (plan_of T s mode pattern) top)
    size = let e = p.wrote.end in omega arith

    module _ {buffer mid filled : List ℕ} {end : ℕ} {r : Result Plan PlanRefusal} (w : Wrote buffer 0 (read_entries scratch 0 count) mid end) (d : Closed 0 end mid filled r) where
      in_buffer : filled ≡ written (planned 0 0 (entries (plan_of T s mode pattern) top)) buffer
      in_buffer =
          let f = p.few in
          let l = length-replicate {A = ℕ} pattern_words 0 in
          let e = wrote_read p.wrote (omega arith) in
          (wrote_closed 0 (entries (plan_of T s mode pattern) top) (rw e at w) d).buffer

      same_space : length filled ≡ length buffer
      same_space = go (leb end (length mid / entry_words)) refl ∙ wrote_long w
        where
          go : (b : Bool) → leb end (length mid / entry_words) ≡ b → length filled ≡ length mid
          go true e =
              let f : filled ≡ tabulate (word_at mid (end * entry_words)) 0 (length mid) = rw e at d.buffer in
              ap length f ∙ length_tabulate (word_at mid (end * entry_words)) 0 (length mid)
          go false e =
              let f : filled ≡ replicate (length mid) 0 = rw e at d.buffer in
              ap length f ∙ length-replicate {A = ℕ} (length mid) 0

      pub too_large : length filled / entry_words < count → Ran (planned_name (known s mode) (expr T pattern)) (carried_out (entries (plan_of T s mode pattern) top) (ran T s mode pattern value values)) values buffer values filled (Err (PlanTooLarge count))
      unfolding run_answer plan_after values_after
      too_large lt =
          let z = size in
          let space : length filled / entry_words ≡ length buffer / entry_words = ap (λ (k : ℕ). k / entry_words) same_space in
          let f : fits (entries (plan_of T s mode pattern) top) buffer ≡ false = lt-leb (length (entries (plan_of T s mode pattern) top)) (length buffer / entry_words) (rw z at (rw space at lt)) in
          record { answer = rw f (ap (λ (n : ℕ). turned_back_lem (plan_too_large n)) z); plan = in_buffer; list = rw f }

      pub carried : {after : List ℕ} {answer : RunAnswer} → count ≤ length filled / entry_words → ValuesCame T s mode scratch count binders value values after answer
          → Ran (planned_name (known s mode) (expr T pattern)) (carried_out (entries (plan_of T s mode pattern) top) (ran T s mode pattern value values)) values buffer after filled (Ok answer)
      unfolding run_answer plan_after values_after
      carried le came =
          let z = size in
          let space : length filled / entry_words ≡ length buffer / entry_words = ap (λ (k : ℕ). k / entry_words) same_space in
          let f : fits (entries (plan_of T s mode pattern) top) buffer ≡ true = le-leb (length (entries (plan_of T s mode pattern) top)) (length buffer / entry_words) (rw z at (rw space at le)) in
          let c = came.each pattern a p in
          let names = planned_is T s mode a.sound pattern a.pattern_node in
          record { answer = rw f c.0; plan = in_buffer; list = rw f (c.1 ∙ sym (ap (λ (to_set : ℕ → Bool). set_names to_set (ran T s mode pattern value values) values) names)) }
