-- The promises, proved.
use Prim.Native.Nat.{ℕ}
use mathlib.Core.Path.{◌≡◌, refl, sym, ap, subst, ◌∙◌}
use mathlib.Core.Logic.{inl, inr}
use mathlib.Core.List.{List, []}
use mathlib.Core.Bool.{Bool, true, cond, false≢true}
use lib.Dec.{T as True}
use lib.ListN.{length}
use Rattle.base.specs.Lists.{elem}
use Rattle.base.specs.Refusal.{plan_too_large}
use Rattle.scope.specs.declared.Scope.{Scope}
use Rattle.scope.specs.declared.ScopingMode.{ScopingMode}
use Rattle.scope.specs.Scope.{is_unbound}
use Rattle.table.specs.Tables.{Tables}
use Rattle.table.specs.Decode.{expr}
use Rattle.planner.specs.Plan.{plan}
use Rattle.planner.specs.Layout.{top, entries}
use Rattle.planner.specs.Operations.{plan_of, fits}
use Rattle.value.specs.Value.{value_of}
use Rattle.value.proofs.Keys.{is_true, true_is}
use Rattle.matching.specs.Matching.{start}
use Rattle.run.specs.Answer as Run
use Rattle.run.specs.Operations as Ran
use Rattle.run.specs.Operations.{listed, ran, RunOutcome, run_outcome, run_answer}
use Rattle.run.proofs.Running.{run_table, value_ok, ran_run}
use Rattle.run.proofs.Refusing.{run_passed, Verdict, verdict}
use Rattle.first_miss.specs.declared.Miss.{Miss}
use Rattle.first_miss.specs.Miss.{MissOutcome, matched, missed, fault, forget}
use Rattle.first_miss.specs.Answer.{turned_back_lem, no_match_lem}
use Rattle.first_miss.specs.Operations.{key_at, carried_result, after_checks, miss_found, miss_result}
use Rattle.first_miss.specs.Promise.{run_result, Inside, Promised, MissDemand}
use Rattle.first_miss.proofs.trees.Forget.{forgets}
use Rattle.first_miss.proofs.trees.Nodes.{walk_in}
use Rattle.first_miss.proofs.nodes.PartNodes.{nodes_same}
use Rattle.first_miss.proofs.Answered.{no_fault, found_walk, result_is}

forgotten : (o : MissOutcome) → run_result (carried_result o) ≡ Ran.carried_result (forget o)
forgotten (matched env) = refl
forgotten (missed m) = refl
forgotten fault = refl

module _ (T : Tables) (s : Scope) (mode : ScopingMode) (pattern value : ℕ) (values : List ℕ) where
  as_run : (buffer : List ℕ) → True (fits (entries (plan_of T s mode pattern) top) buffer) → run_result (miss_result T s mode pattern value values) ≡ run_answer (run_outcome T s mode pattern value values) buffer
  unfolding run_answer
  as_run buffer long = go (verdict T s mode pattern value values)
    where
      go : Verdict T s mode pattern value values (run_outcome T s mode pattern value values) → run_result (miss_result T s mode pattern value values) ≡ run_answer (run_outcome T s mode pattern value values) buffer
      go (inl x) = ap (λ (o : RunOutcome). run_result (after_checks o (carried_result (miss_found T s mode pattern value values)))) x.is ∙ sym (ap (λ (o : RunOutcome). run_answer o buffer) x.is)
      go (inr a) =
          ap run_result (result_is a)
          ∙ (forgotten (miss_found T s mode pattern value values)
          ∙ (ap Ran.carried_result (forgets (key_at T) (plan (is_unbound s mode) (expr T pattern) []) (value_of (expr T value)) (start (is_unbound s mode) (listed T values)) ∙ sym (ran_run a))
          ∙ sym (ap (λ (o : RunOutcome). run_answer o buffer) (run_passed a)
          ∙ ap (λ (b : Bool). cond b (Ran.carried_result (ran T s mode pattern value values)) (Run.turned_back_lem (plan_too_large (length (entries (plan_of T s mode pattern) top))))) (is_true {b = fits (entries (plan_of T s mode pattern) top) buffer} long))))

  inside : (m : Miss) → miss_result T s mode pattern value values ≡ no_match_lem m → Inside T s mode pattern value values m
  inside m e = go (verdict T s mode pattern value values)
    where
      go : Verdict T s mode pattern value values (run_outcome T s mode pattern value values) → Inside T s mode pattern value values m
      go (inl x) = let q : turned_back_lem x.refusal ≡ no_match_lem m = sym (ap (λ (o : RunOutcome). after_checks o (carried_result (miss_found T s mode pattern value values))) x.is) ∙ e in absurd (false≢true (cc))
      go (inr a) = by (miss_found T s mode pattern value values) refl (sym (result_is a) ∙ e)
        where
          by : (o : MissOutcome) → miss_found T s mode pattern value values ≡ o → carried_result o ≡ no_match_lem m → Inside T s mode pattern value values m
          by (matched env) p q = absurd (false≢true (cc))
          by fault p q = absurd (no_fault a p)
          by (missed n) p q =
              let z : n ≡ m = cc in
              let i = walk_in (key_at T) (expr T pattern) (value_of (expr T value)) (start (is_unbound s mode) (listed T values)) n (sym (found_walk a) ∙ p) in
              subst (Inside T s mode pattern value values) z
              (record {
                in_value = true_is (subst (λ (ns : List ℕ). elem n.value ns ≡ true) (nodes_same T (run_table a) value (value_ok a)) i.in_value);
                in_pattern_lem = true_is i.in_pattern_lem;
              })

  pub promised : Promised T s mode pattern value values
  promised = record { as_run_lem = as_run; inside = inside }

pub demand : MissDemand
demand = record { forgets = forgets; promised = promised }
