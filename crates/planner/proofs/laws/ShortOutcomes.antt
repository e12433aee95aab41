-- Every number of an outcome has at most six digits: what the operations share, then a pattern's, a loop index's and a parameter's.
use Prim.Native.Nat.{ℕ, ◌≤◌, ◌<◌}
use mathlib.Core.Path.{◌≡◌, refl, ap, subst}
use mathlib.Core.Bool.{Bool, true, false, not}
use mathlib.Core.List.{List, [], ◌∷◌}
use native.Mathlib.Omega.{arith}
use lib.Dec.{eqb}
use lib.ListN.{length}
use Rattle.scope.specs.declared.Scope.{Scope}
use Rattle.scope.specs.declared.ScopingMode.{ScopingMode}
use Rattle.scope.specs.declared.ScopingMode.TheVariants.{RespectParent, AllowShadowing}
use Rattle.scope.specs.Scope.{is_unbound}
use Rattle.table.specs.Tables.{Tables, is_node}
use Rattle.table.specs.Rules.{within_limits, follows_rules, shallow, names_differ}
use Rattle.table.specs.Check.{checked, all_nodes}
use Rattle.table.specs.Decode.{expr}
use Rattle.table.specs.code.Sound.{WellFormed}
use Rattle.table.proofs.trees.Facts.{sound_table}
use Rattle.base.specs.Refusal as Refusal
use Rattle.base.specs.Refusal.{Refusal, Tested, over_limit, breaks_rules, too_deep, equal_names, root_outside, variable_already_defined}
use Rattle.table.proofs.tests.Bools.{and_true}
use Rattle.planner.specs.Layout.{Entry, top, entries}
use Rattle.planner.specs.Operations.{Outcome, planned, require, table_first, checked_first, plan_of, pattern_planned, pattern_outcome, index_outcome, validated, unless_defined, parameter_check, parameter_outcome}
use Rattle.planner.specs.Short.{Short, ShortEntry, ShortRefusal, Every, ShortOutcome}
use Rattle.planner.proofs.laws.Operations.{root_node}
use Rattle.planner.proofs.laws.ShortPlans.{SmallTree, low_top, tree_small, plan_few, plan_short, first_node_low}

-- what the operations share
pub short : {a b c d : ℕ} → a < 1000000 → b < 1000000 → c < 1000000 → d < 1000000 → Short a b c d
short a b c d = record { one = a; two = b; three = c; four = d }

-- a number and a node
pub refusal_short : {number node : ℕ} → number ≤ 31 → node ≤ 512 → Short number node 0 0
refusal_short a b = short (omega arith) (omega arith) (omega arith) (omega arith)

pub planned_short : (form side : ℕ) (es : List Entry) → form ≤ 6 → side ≤ 3 → length es ≤ 262656 → Every ShortEntry es → ShortOutcome (planned form side es)
planned_short form side es f s n p = (short (omega arith) (omega arith) (omega arith) (omega arith), p)

pub require_short : (test : Bool) (r : Refusal) (o : Outcome) → ShortRefusal r → (test ≡ true → ShortOutcome o) → ShortOutcome (require test r o)
require_short true r o p q = q refl
require_short false r o p q = p

pub unless_short : (node : ℕ) (o : Outcome) → node ≤ 512 → ShortOutcome o → ShortOutcome (unless_defined node o)
unless_short node o low p = require_short (eqb node 0) (variable_already_defined node) o (refusal_short (omega arith) low) (λ t. p)

-- the table check's refusals
abbrev refusal_in : Tested → Refusal
refusal_in Refusal.passed = over_limit
refusal_in (Refusal.refused r) = r

tests_low : (a b c d : Bool) → ShortRefusal (refusal_in (Refusal.require a over_limit (Refusal.require b breaks_rules (Refusal.require c too_deep (Refusal.require d equal_names Refusal.passed)))))
tests_low false b c d = refusal_short (omega arith) (omega arith)
tests_low true false c d = refusal_short (omega arith) (omega arith)
tests_low true true false d = refusal_short (omega arith) (omega arith)
tests_low true true true false = refusal_short (omega arith) (omega arith)
tests_low true true true true = refusal_short (omega arith) (omega arith)

checked_low : (T : Tables) (s : Scope) (r : Refusal) → checked T s ≡ Refusal.refused r → ShortRefusal r
unfolding checked
checked_low T s r e = subst ShortRefusal (ap refusal_in e) (tests_low (within_limits T) (follows_rules T s) (shallow T) (names_differ T))

pub checked_short : (T : Tables) (s : Scope) (roots : List ℕ) (o : Outcome) → (WellFormed T → all_nodes T roots ≡ true → ShortOutcome o) → ShortOutcome (checked_first T s roots o)
checked_short T s roots o p = go (checked T s) refl
  where
    go : (c : Tested) → checked T s ≡ c → ShortOutcome (table_first c (require (all_nodes T roots) root_outside o))
    go Refusal.passed ok = require_short (all_nodes T roots) root_outside o (refusal_short (omega arith) (omega arith)) (λ t. p (sound_table T s ok).well_formed_lem t)
    go (Refusal.refused r) e = checked_low T s r e

-- the tree of a root is small
pub root_small : (T : Tables) → WellFormed T → (root : ℕ) → is_node T root ≡ true → SmallTree (expr T root)
root_small T w root i = tree_small T w root (root_node T root refl (ap not i))

module _ (T : Tables) (s : Scope) (mode : ScopingMode) (root : ℕ) (small : SmallTree (expr T root)) where
  pub entries_few : length (entries (plan_of T s mode root) top) ≤ 512
  entries_few = let h = plan_few (is_unbound s mode) (expr T root) [] top in let f = small.few in omega arith

  pub entries_short : Every ShortEntry (entries (plan_of T s mode root) top)
  entries_short = plan_short (is_unbound s mode) (expr T root) [] top small low_top

  pub pattern_planned_short : ShortOutcome (pattern_planned T s mode root)
  pattern_planned_short = planned_short 0 0 (entries (plan_of T s mode root) top) (omega arith) (omega arith) (let f = entries_few in omega arith) entries_short

  pub validated_low : validated T s mode root ≤ 512
  unfolding validated
  validated_low = first_node_low _ (expr T root) small

-- the operations
pub pattern_short : (T : Tables) (s : Scope) (mode : ScopingMode) (root : ℕ) → ShortOutcome (pattern_outcome T s mode root)
pattern_short T s mode root = checked_short T s (root ∷ []) _ (λ w i. pattern_planned_short T s mode root (root_small T w root (and_true (is_node T root) _ i).0))

pub index_short : (T : Tables) (s : Scope) (root : ℕ) → ShortOutcome (index_outcome T s root)
index_short T s root = pattern_short T s RespectParent root

pub parameter_short : (T : Tables) (s : Scope) (mode : ScopingMode) (root : ℕ) → ShortOutcome (parameter_outcome T s mode root)
parameter_short T s mode root =
    checked_short T s (root ∷ []) _ (λ w i. unless_short (parameter_check T s mode root) _ (low mode (root_small T w root (and_true (is_node T root) _ i).0)) (pattern_planned_short T s mode root (root_small T w root (and_true (is_node T root) _ i).0)))
  where
    low : (m : ScopingMode) → SmallTree (expr T root) → parameter_check T s m root ≤ 512
    low RespectParent small = omega arith
    low AllowShadowing small = validated_low T s AllowShadowing root small
