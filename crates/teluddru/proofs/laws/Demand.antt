-- Demand 3, proved whole.
use Prim.Native.Nat.{ℕ}
use mathlib.Core.Path.{◌≡◌, refl, sym, ap, subst, ◌∙◌}
use mathlib.Core.List.{List, [], ◌∷◌}
use mathlib.Core.Bool.{Bool, true, false, false≢true, ◌&&◌}
use lib.Dec.{leb}
use lib.ListN.{length}
use Rattle.scope.specs.declared.Scope.{Scope}
use Rattle.scope.specs.declared.ScopingMode.{ScopingMode}
use Rattle.scope.specs.Scope.{known}
use Rattle.table.specs.Tables.{Tables, name_count, is_node}
use Rattle.table.specs.Decode.{expr}
use Rattle.table.specs.Check.{checked, all_nodes}
use Rattle.table.proofs.tests.Bools.{and_true}
use Rattle.base.specs.Refusal.{Refusal, Tested, root_outside, list_too_short, pattern_not_simple, not_a_value, name_without_value}
use Rattle.base.specs.Refusal as Refusal
use Rattle.planner.specs.Layout.{top, entries}
use Rattle.planner.specs.Operations as Planner
use Rattle.planner.specs.Operations.{Outcome, planned, plan_of, pattern_planned, pattern_outcome, written}
use Rattle.planner.specs.Simple.{simple}
use Rattle.value.specs.Value.{is_value}
use Rattle.assignment.proofs.laws.PairsAnswered.{pairs_demand}
use Rattle.std.proofs.Common.{Result}
use Rattle.run.specs.declared.RunAnswer.{RunAnswer}
use Rattle.run.specs.declared.RunRefusal.{RunRefusal}
use Rattle.run.specs.Answer.{RunResult}
use Rattle.run.specs.Operations.{RunOutcome, refused, carried_out, require, table_first, ran, run_inside, run_checked, run_outcome, values_listed, known_listed, plan_after}
use Rattle.run.specs.Demand as Run
use Rattle.run.proofs.Demand as Proved
use Rattle.teluddru.specs.Demand.{SamePlan, Meets, Kept, Demand}

-- what is not refused passed its test
abbrev Unrefused : RunOutcome → Type 0
Unrefused o = (a : Refusal) → o ≡ refused a → ⊥

test_passed : (b : Bool) (r : Refusal) (rest : RunOutcome) → Unrefused (require b r rest) → (b ≡ true) × Unrefused rest
test_passed true r rest u = (refl, u)
test_passed false r rest u = absurd (u r refl)

table_passed : (c : Tested) (rest : RunOutcome) → Unrefused (table_first c rest) → (c ≡ Refusal.passed) × Unrefused rest
table_passed Refusal.passed rest u = (refl, u)
table_passed (Refusal.refused d) rest u = absurd (u d refl)

abbrev is_refused : RunOutcome → Bool
is_refused (refused a) = true
is_refused (carried_out es o) = false

module _ (T : Tables) (s : Scope) (mode : ScopingMode) (pattern value : ℕ) (values buffer : List ℕ) where
  same_plan : Unrefused (run_outcome T s mode pattern value values) → SamePlan T s mode pattern value values buffer
  unfolding plan_after
  same_plan u =
      let c = table_passed (checked T s) (run_checked T s mode pattern value values) u in
      let o = test_passed (all_nodes T (pattern ∷ (value ∷ []))) root_outside (run_inside T s mode pattern value values) c.1 in
      let l = test_passed (leb (name_count T) (length values)) list_too_short _ o.1 in
      let p = test_passed (simple (expr T pattern)) pattern_not_simple _ l.1 in
      let v = test_passed (is_value (expr T value) && values_listed T values) not_a_value _ p.1 in
      let k = test_passed (known_listed T (known s mode) (expr T pattern) values) name_without_value _ v.1 in
      let sound = c.0 in
      let both = and_true (is_node T pattern) _ o.0 in
      let one = both.0 in
      let two = (and_true (is_node T value) _ both.1).0 in
      let long = l.0 in
      let is_simple = p.0 in
      let a_value = (and_true (is_value (expr T value)) (values_listed T values) v.0).0 in
      let areValues = (and_true (is_value (expr T value)) (values_listed T values) v.0).1 in
      let areKnown = k.0 in
      let whole : run_outcome T s mode pattern value values ≡ carried_out (entries (plan_of T s mode pattern) top) (ran T s mode pattern value values) =
      ap (λ (a : Tested). table_first a (run_checked T s mode pattern value values)) sound ∙ rw (one, two, long, is_simple, a_value, areValues, areKnown) in
      let call : pattern_outcome T s mode pattern ≡ planned 0 0 (entries (plan_of T s mode pattern) top) =
      ap (λ (a : Tested). Planner.table_first a (Planner.require (all_nodes T (pattern ∷ [])) root_outside (pattern_planned T s mode pattern))) sound ∙ rw one in
      record {
        carries = whole;
        plans = call;
        leaves = ap (λ (o : RunOutcome). plan_after o buffer) whole ∙ sym (ap (λ (o : Outcome). written o buffer) call);
      }

  keeps : (r : Result RunAnswer RunRefusal) (after plan : List ℕ) → Run.Hypotheses T s mode pattern value values buffer → Meets T s mode pattern value values buffer r after plan → Kept T s mode pattern value values buffer r after plan
  keeps r after plan h m = record {
    promised = subst (λ (told : RunResult). Run.Promised T s mode pattern value values buffer told after) (sym m.answer)
        (subst (λ (list : List ℕ). Run.Promised T s mode pattern value values buffer (Run.answer T s mode pattern value values buffer) list) (sym m.list) ((Proved.demand).runs T s mode pattern value values buffer h));
    plan_in_lem = m.plan ∙ (same_plan (λ a e. false≢true (ap is_refused (sym (Proved.outcome_is T s mode pattern value values buffer h) ∙ e)))).leaves;
  }

pub demand : Demand
demand = record { run_part = Proved.demand; pairs_part = pairs_demand; same_plan_lem = same_plan; contract = keeps }
