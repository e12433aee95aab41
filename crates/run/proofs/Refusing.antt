-- What a run turns back before it plans: its checks, one after the other, and what is left when all pass.
use Prim.Native.Nat.{ℕ, ◌/◌, ◌≤◌, ◌<◌}
use mathlib.Core.Path.{◌≡◌, refl, sym, ap, ◌∙◌}
use mathlib.Core.List.{List}
use mathlib.Core.Bool.{Bool, true, false, ◌&&◌, not, false≢true}
use mathlib.Core.Logic.{◌⊎◌, inl, inr}
use borrow.Author.Tests.{le-leb, lt-leb, leb-true}
use lib.Dec.{eqb, leb}
use lib.ListN.{length, replicate}
use Rattle.base.specs.Refusal.{Refusal, root_outside, list_too_short, pattern_not_simple, not_a_value, name_without_value, Tested, passed}
use Rattle.base.specs.Refusal as Tested
use Rattle.scope.specs.declared.Scope.{Scope}
use Rattle.scope.specs.declared.ScopingMode.{ScopingMode}
use Rattle.scope.specs.Scope.{known}
use Rattle.std.proofs.Common.{Result, Ok, Err}
use Rattle.table.specs.declared.TableRefusal.{TableRefusal}
use Rattle.table.specs.Tables.{Tables, name_count, is_node}
use Rattle.table.specs.Decode.{expr}
use Rattle.table.specs.Rules.{within_limits, follows_rules, shallow, names_differ}
use Rattle.table.specs.Check.{checked, TableAnswered, tested_of}
use Rattle.table.specs.code.Sound.{WellFormed}
use Rattle.table.proofs.tests.Bools.{and_true, told_no, told_yes}
use Rattle.table.proofs.trees.Facts.{sound_table}
use Rattle.planner.specs.Layout.{top, entries}
use Rattle.planner.specs.Operations.{plan_of}
use Rattle.planner.specs.code.Post.{GoodRoot}
use Rattle.planner.specs.Simple.{simple}
use Rattle.planner.proofs.laws.Operations.{check_passes, root_node}
use Rattle.value.specs.Value.{is_value}
use Rattle.run.specs.declared.RunAnswer.{RunAnswer}
use Rattle.run.specs.declared.RunRefusal.{RunRefusal}
use Rattle.run.specs.declared.RunRefusal.TheVariants.{TableRefused, RootOutside, ListTooShort, PatternNotSimple, NotAValue, NameWithoutValue}
use Rattle.run.specs.Answer.{run_refusal}
use Rattle.run.specs.Operations.{values_listed, known_listed, RunOutcome, refused, carried_out, require, table_first, ran, run_checked, run_outcome, run_answer, plan_after, planned_name, values_after, Ran}
use Rattle.run.specs.code.Post.{RunAsks, CheckedAsks, CheckTold}
use Rattle.run.specs.code.NamesPost.{KnownAsks}
use Rattle.run.specs.code.ChecksPost.{AllAsks}
use Rattle.run.proofs.Checking.{node_of_test, test_of_node}

module _ (T : Tables) (s : Scope) (mode : ScopingMode) (pattern value : ℕ) (values : List ℕ) where
  turns : (x : RunRefusal) → run_outcome T s mode pattern value values ≡ refused (run_refusal x) → CheckTold T s mode pattern value values (Err x)
  turns x e = record {
    passes = λ p. absurd (false≢true (cc));
    refuses = λ a q. let z : x ≡ a = cc in e ∙ ap (λ (r : RunRefusal). refused (run_refusal r)) z;
  }

  pass : RunAsks T s mode pattern value values → CheckTold T s mode pattern value values (Ok tt)
  pass a = record { passes = λ p. a; refuses = λ b q. absurd (false≢true (cc)) }

-- 1. Of a table that passed the check, with roots in it and a list that is long enough
module _ (T : Tables) (s : Scope) (pattern value : ℕ) (values : List ℕ) (a : CheckedAsks T s pattern value values) where
  good : WellFormed T
  good = (sound_table T s a.sound).well_formed_lem

  pub ask_simple : GoodRoot T pattern
  ask_simple = record { table = good; node = a.pattern_node }

  pub ask_all : AllAsks T value values
  ask_all = record { good = record { table = good; node = a.value_node_lem }; long = a.long }

  pub ask_known : {ok : Bool} → ok ≡ simple (expr T pattern) → not ok ≡ false → KnownAsks T s pattern values
  ask_known is one = record { sound = a.sound; good = ask_simple; is_simple = told_yes is one; list_ok = record { few = good.limits.names; long = a.long } }

module _ (T : Tables) (s : Scope) (mode : ScopingMode) (pattern value : ℕ) (values : List ℕ) (a : CheckedAsks T s pattern value values) where
  inside : run_outcome T s mode pattern value values ≡
      require (simple (expr T pattern)) pattern_not_simple
      (require (is_value (expr T value) && values_listed T values) not_a_value
      (require (known_listed T (known s mode) (expr T pattern) values) name_without_value
      (carried_out (entries (plan_of T s mode pattern) top) (ran T s mode pattern value values))))
  inside =
      let p = test_of_node T pattern a.pattern_node in
      let v = test_of_node T value a.value_node_lem in
      let l = le-leb (name_count T) (length values) a.long in
      rw (a.sound, p, v, l)

  module _ {ok : Bool} (is : ok ≡ simple (expr T pattern)) where
    pub not_simple : not ok ≡ true → CheckTold T s mode pattern value values (Err PatternNotSimple)
    not_simple t = let e = told_no is t in turns T s mode pattern value values PatternNotSimple (inside ∙ rw e)

    module _ (one : not ok ≡ false) where
      module _ {all : Bool} (of : all ≡ (is_value (expr T value) && values_listed T values)) where
        pub no_value : not all ≡ true → CheckTold T s mode pattern value values (Err NotAValue)
        no_value t = let e = told_yes is one in let f = told_no of t in turns T s mode pattern value values NotAValue (inside ∙ rw (e, f))

        module _ (two : not all ≡ false) {valued : Bool} (by : valued ≡ known_listed T (known s mode) (expr T pattern) values) where
          pub unlisted : not valued ≡ true → CheckTold T s mode pattern value values (Err NameWithoutValue)
          unlisted t = let e = told_yes is one in let f = told_yes of two in let g = told_no by t in turns T s mode pattern value values NameWithoutValue (inside ∙ rw (e, f, g))

          pub all_pass : not valued ≡ false → CheckTold T s mode pattern value values (Ok tt)
          all_pass three =
              let f = and_true (is_value (expr T value)) (values_listed T values) (told_yes of two) in
              pass T s mode pattern value values (record {
                sound = a.sound;
                pattern_node = a.pattern_node;
                value_node_lem = a.value_node_lem;
                long = a.long;
                is_simple = told_yes is one;
                a_value = f.0;
                listed_values_lem = f.1;
                known_values = told_yes by three;
              })

-- 2. The table check, the roots, the length of the list
module _ (T : Tables) (s : Scope) (mode : ScopingMode) (pattern value : ℕ) (values : List ℕ) {c : Result Unit TableRefusal} (is : TableAnswered T s c) where
  ends : {d : Result Unit TableRefusal} → c ≡ d → run_outcome T s mode pattern value values ≡ table_first (tested_of d) (run_checked T s mode pattern value values)
  ends p = ap (λ (t : Tested). table_first t (run_checked T s mode pattern value values)) (sym is.answer ∙ ap tested_of p)

  pub table_refused_lem : {d : TableRefusal} → c ≡ Err d → CheckTold T s mode pattern value values (Err (TableRefused d))
  table_refused_lem {d} p = turns T s mode pattern value values (TableRefused d) (ends p)

  module _ (sound : c ≡ Ok tt) where
    outcome_is : run_outcome T s mode pattern value values ≡ run_checked T s mode pattern value values
    outcome_is = ends sound

    module _ {one : Bool} (told : one ≡ is_node T pattern) where
      pub pattern_outside : not one ≡ true → CheckTold T s mode pattern value values (Err RootOutside)
      pattern_outside t = let e = told_no told t in turns T s mode pattern value values RootOutside (outcome_is ∙ rw e)

      module _ (one_inside : not one ≡ false) {two : Bool} (told' : two ≡ is_node T value) where
        pub value_outside : not two ≡ true → CheckTold T s mode pattern value values (Err RootOutside)
        value_outside t = let e = told_yes told one_inside in let f = told_no told' t in turns T s mode pattern value values RootOutside (outcome_is ∙ rw (e, f))

        module _ (two-inside : not two ≡ false) where
          pub list_short : length values < length T.names / 2 → CheckTold T s mode pattern value values (Err ListTooShort)
          list_short lt =
              let e = told_yes told one_inside in
              let f = told_yes told' two-inside in
              let g = lt-leb (name_count T) (length values) lt in
              turns T s mode pattern value values ListTooShort (outcome_is ∙ rw (e, f, g))

pub ask_checked : (T : Tables) (s : Scope) (pattern value : ℕ) (values : List ℕ) {c : Result Unit TableRefusal} → TableAnswered T s c → c ≡ Ok tt → {one : Bool} → one ≡ is_node T pattern → not one ≡ false → {two : Bool} → two ≡ is_node T value → not two ≡ false
    → length T.names / 2 ≤ length values → CheckedAsks T s pattern value values
ask_checked T s pattern value values is sound one one_inside two two-inside long = record { sound = check_passes T s is sound; pattern_node = root_node T pattern one one_inside; value_node_lem = root_node T value two two-inside; long = long }

-- 3. A run that nothing turns back
module _ {T : Tables} {s : Scope} {mode : ScopingMode} {pattern value : ℕ} {values : List ℕ} (a : RunAsks T s mode pattern value values) where
  pub run_passed : run_outcome T s mode pattern value values ≡ carried_out (entries (plan_of T s mode pattern) top) (ran T s mode pattern value values)
  run_passed =
      let p = test_of_node T pattern a.pattern_node in
      let q = test_of_node T value a.value_node_lem in
      let l = le-leb (name_count T) (length values) a.long in
      rw (a.sound, p, q, l, a.is_simple, a.a_value, a.listed_values_lem, a.known_values)

module _ (T : Tables) (s : Scope) (mode : ScopingMode) (pattern value : ℕ) {values : List ℕ} {c : Result Unit RunRefusal} (told : CheckTold T s mode pattern value values c) where
  pub checks_pass : c ≡ Ok tt → RunAsks T s mode pattern value values
  checks_pass p = told.passes p

  pub run_refused : {a : RunRefusal} {buffer cleared : List ℕ} → c ≡ Err a → cleared ≡ replicate (length buffer) 0
      → Ran (planned_name (known s mode) (expr T pattern)) (run_outcome T s mode pattern value values) values buffer values cleared (Err a)
  unfolding run_answer plan_after values_after
  run_refused {a} p z = let e = told.refuses a p in rw e (record { answer = refl; plan = z; list = refl })

  pub run_carried : {buffer after filled : List ℕ} {a : Result RunAnswer RunRefusal} → c ≡ Ok tt
      → Ran (planned_name (known s mode) (expr T pattern)) (carried_out (entries (plan_of T s mode pattern) top) (ran T s mode pattern value values)) values buffer after filled a
      → Ran (planned_name (known s mode) (expr T pattern)) (run_outcome T s mode pattern value values) values buffer after filled a
  run_carried p r = rw (run_passed (told.passes p)) r

-- 4. A run is turned back with another number than 6, or nothing turns it back
abbrev tests : Bool → Bool → Bool → Bool → Tested
tests a b c d = Tested.require a Tested.over_limit (Tested.require b Tested.breaks_rules (Tested.require c Tested.too_deep (Tested.require d Tested.equal_names passed)))

table_number : (T : Tables) (s : Scope) (x : Refusal) → checked T s ≡ Tested.refused x → eqb x.number 6 ≡ false
unfolding checked
table_number T s x e = go (within_limits T) (follows_rules T s) (shallow T) (names_differ T) e
  where
    by : (y : Refusal) → eqb y.number 6 ≡ false → Tested.refused y ≡ Tested.refused x → eqb x.number 6 ≡ false
    by y n e = let q : y ≡ x = cc in rw (← q) n

    go : (a b c d : Bool) → tests a b c d ≡ Tested.refused x → eqb x.number 6 ≡ false
    go false b c d e = by Tested.over_limit refl e
    go true false c d e = by Tested.breaks_rules refl e
    go true true false d e = by Tested.too_deep refl e
    go true true true false e = by Tested.equal_names refl e
    go true true true true e = absurd (false≢true (cc))

module _ (T : Tables) (s : Scope) (mode : ScopingMode) (pattern value : ℕ) (values : List ℕ) where
  pub record Refusing (o : RunOutcome) : Type 0 where
    pub refusal : Refusal
    pub is : o ≡ refused refusal
    pub number : eqb refusal.number 6 ≡ false

  abbrev pub Verdict : RunOutcome → Type 0
  Verdict o = Refusing o ⊎ RunAsks T s mode pattern value values

  test : (b : Bool) (x : Refusal) (rest : RunOutcome) → eqb x.number 6 ≡ false → (b ≡ true → Verdict rest) → Verdict (require b x rest)
  test true x rest n f = f refl
  test false x rest n f = inl (record { refusal = x; is = refl; number = n })

  pub verdict : Verdict (run_outcome T s mode pattern value values)
  verdict = go (checked T s) refl
    where
      asks : checked T s ≡ passed → (is_node T pattern && (is_node T value && true)) ≡ true → leb (name_count T) (length values) ≡ true → simple (expr T pattern) ≡ true
          → (is_value (expr T value) && values_listed T values) ≡ true → known_listed T (known s mode) (expr T pattern) values ≡ true → RunAsks T s mode pattern value values
      asks c r l p v k =
          let (one, more) = and_true (is_node T pattern) (is_node T value && true) r in
          let (two, rest) = and_true (is_node T value) true more in
          let (is-value, are-values) = and_true (is_value (expr T value)) (values_listed T values) v in
          record {
            sound = c;
            pattern_node = node_of_test T pattern one;
            value_node_lem = node_of_test T value two;
            long = leb-true (name_count T) (length values) l;
            is_simple = p;
            a_value = is-value;
            listed_values_lem = are-values;
            known_values = k;
          }

      go : (t : Tested) → checked T s ≡ t → Verdict (table_first t (run_checked T s mode pattern value values))
      go (Tested.refused x) c = inl (record { refusal = x; is = refl; number = table_number T s x c })
      go passed c =
          test (is_node T pattern && (is_node T value && true)) root_outside _ refl (λ r.
          test (leb (name_count T) (length values)) list_too_short _ refl (λ l.
          test (simple (expr T pattern)) pattern_not_simple _ refl (λ p.
          test (is_value (expr T value) && values_listed T values) not_a_value _ refl (λ v.
          test (known_listed T (known s mode) (expr T pattern) values) name_without_value _ refl (λ k.
          inr (asks c r l p v k))))))
