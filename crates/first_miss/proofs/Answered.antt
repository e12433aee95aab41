-- The call: what is turned back, and what the walk from the listed values comes to.
use Prim.Native.Nat.{ℕ, ◌/◌}
use mathlib.Core.Path.{◌≡◌, sym, ap, ◌∙◌}
use mathlib.Core.List.{List, []}
use lib.ListN.{length}
use Rattle.scope.specs.declared.Scope.{Scope}
use Rattle.scope.specs.declared.ScopingMode.{ScopingMode}
use Rattle.scope.specs.Scope.{is_unbound}
use Rattle.table.specs.Tables.{Tables}
use Rattle.table.specs.Decode.{expr}
use Rattle.planner.specs.Plan.{plan}
use Rattle.value.specs.Value.{value_of}
use Rattle.matching.specs.Matching.{Env, start}
use Rattle.matching.specs.code.Post.{env_of}
use Rattle.std.proofs.Common.{Some, None, Result, Ok, Err}
use Rattle.run.specs.declared.RunRefusal.{RunRefusal}
use Rattle.run.specs.Operations.{listed, RunOutcome}
use Rattle.run.specs.code.Post.{RunAsks, CheckTold}
use Rattle.run.specs.code.NamesPost.{ListAsks, StartOf}
use Rattle.run.proofs.Running.{run_table, value_ok, start_ok, start_env, promised}
use Rattle.run.proofs.Refusing.{run_passed}
use Rattle.first_miss.specs.declared.Miss.{Miss}
use Rattle.first_miss.specs.Miss.{fault, forget}
use Rattle.first_miss.specs.Operations.{key_at, carried_result, after_checks, miss_found, miss_result, MissTold}
use Rattle.first_miss.specs.code.Post.{WalkAsks, outcome_in, Came, walk_nodes}
use Rattle.first_miss.proofs.trees.Forget.{forgets}
use Rattle.first_miss.proofs.trees.Walks.{walks}

module _ {T : Tables} {s : Scope} {mode : ScopingMode} {pattern value : ℕ} {values : List ℕ} (a : RunAsks T s mode pattern value values) where
  -- no fault comes up
  pub no_fault : miss_found T s mode pattern value values ≡ fault → ⊥
  no_fault e =
      (promised a).no_fault_lem
      (sym (forgets (key_at T) (plan (is_unbound s mode) (expr T pattern) []) (value_of (expr T value)) (start (is_unbound s mode) (listed T values))) ∙ ap forget e)

  -- the walk from the values at the start
  pub found_walk : miss_found T s mode pattern value values ≡ walk_nodes T pattern value (start (is_unbound s mode) (listed T values))
  found_walk = walks (key_at T) (is_unbound s mode) (expr T pattern) (value_of (expr T value)) [] (start (is_unbound s mode) (listed T values)) a.is_simple no_fault

  pub result_is : miss_result T s mode pattern value values ≡ carried_result (miss_found T s mode pattern value values)
  result_is = ap (λ (o : RunOutcome). after_checks o (carried_result (miss_found T s mode pattern value values))) (run_passed a)

module _ {T : Tables} {s : Scope} {mode : ScopingMode} {pattern value : ℕ} {values : List ℕ} {c : Result Unit RunRefusal} (told : CheckTold T s mode pattern value values c) where
  pub miss_refused : {a : RunRefusal} → c ≡ Err a → MissTold T s mode pattern value values (Err a)
  miss_refused {a} e = record { answer = sym (ap (λ (o : RunOutcome). after_checks o (carried_result (miss_found T s mode pattern value values))) (told.refuses a e)) }

  module _ (passed : c ≡ Ok tt) where
    asks : RunAsks T s mode pattern value values
    asks = told.passes passed

    pub ask_start : ListAsks T.names values
    ask_start = record { few = (run_table asks).limits.names; long = asks.long }

    module _ {list : List ℕ} (of : StartOf (length T.names / 2) s mode values list) where
      pub ask_walk : WalkAsks T pattern value list
      ask_walk = record { pair = record { table = run_table asks; node = asks.pattern_node; is_simple = asks.is_simple; value_ok = value_ok asks }; list_ok = start_ok asks of }

      module _ {list' : List ℕ} {w : Result Unit Miss} (came : Came T (walk_nodes T pattern value (env_of T list)) list' w) where
        result_by : miss_result T s mode pattern value values ≡ carried_result (outcome_in T list' w)
        result_by = result_is asks ∙ ap carried_result (found_walk asks ∙ (ap (λ (env : Env). walk_nodes T pattern value env) (sym (start_env asks of)) ∙ came.is))

        pub miss_matched : w ≡ Ok tt → MissTold T s mode pattern value values (Ok None)
        miss_matched e = record { answer = sym (result_by ∙ ap (λ (x : Result Unit Miss). carried_result (outcome_in T list' x)) e) }

        pub miss_missed : {m : Miss} → w ≡ Err m → MissTold T s mode pattern value values (Ok (Some m))
        miss_missed e = record { answer = sym (result_by ∙ ap (λ (x : Result Unit Miss). carried_result (outcome_in T list' x)) e) }
