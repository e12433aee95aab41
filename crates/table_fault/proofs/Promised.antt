-- The first fault is the check's refusal.
use Prim.Native.Nat.{ℕ, zero, suc, ◌+◌}
use mathlib.Core.Path.{◌≡◌, refl, sym, ap, ◌∙◌}
use mathlib.Core.Bool.{Bool, true, false, cond, ◌&&◌, and-true, and_assoc, and_comm}
use mathlib.Core.List.{List, [], ◌∷◌}
use Rattle.std.proofs.Common.{Some}
use lib.ListN.{length, take}
use Rattle.base.specs.Lists.{all_from}
use Rattle.base.specs.Refusal.{Refusal, over_limit, breaks_rules, too_deep, equal_names, Tested, passed, require}
use Rattle.scope.specs.declared.Scope.{Scope}
use Rattle.scope.specs.Scope.{new_scope}
use Rattle.table.specs.Tables.{Tables, node_count, number_count, name_count}
use Rattle.table.specs.Rules.{within_limits, whole_records, name_ok_at, number_ok, entry_ok, scope_ok, follows_rules, shallow, names_differ}
use Rattle.table.specs.Check.{checked}
use Rattle.table.proofs.tests.Bools.{and_true as both}
use Rattle.table_fault.specs.Rules.{Rule, of_all, of_each, kind_ok_at, span_ok_at, unused_ok_at, range_ok_at, text_ok_at, below_ok_at, new_entry_at, new_places_at, mark_ok_at, rules}
use Rattle.table_fault.specs.Fault.{Fault, first_broken, broken_or, fault_from, fault_of}
use Rattle.table_fault.specs.Promise.{fault_tested, checked_with_marks, is_kept, all_kept}
use Rattle.table_fault.proofs.Ranges.{all_shifted, all_one}
use Rattle.table_fault.proofs.Distinct.{entries_differ, places_differ}
use Rattle.table_fault.proofs.Words.{nodes_apart}

pub all_kept_lem : (r : Refusal) (b : Bool) → is_kept (of_all r b) ≡ b
all_kept_lem r b = all_one b 0

pub each_kept : (r : Refusal) (k : ℕ) (p : ℕ → Bool) → is_kept (of_each r k p) ≡ all_from p 0 k
each_kept r k p = all_shifted p 0 k

-- rules as tests in a row
unfoldable tests : List Rule → Tested
tests [] = passed
tests (r ∷ rs) = require (is_kept r) r.refusal (tests rs)

place_tested : (p : ℕ → Bool) (at k : ℕ) (r : Refusal) (n : ℕ) (rest : Fault) → fault_tested (broken_or (first_broken p at k) r n rest) ≡ require (all_from p at k) r (fault_tested rest)
unfolding first_broken all_from
place_tested p at zero r n rest = refl
place_tested p at (suc k) r n rest = go (p at) refl (place_tested p (at + 1) k r n rest)
  where
    go : (b : Bool) → p at ≡ b → fault_tested (broken_or (first_broken p (at + 1) k) r n rest) ≡ require (all_from p (at + 1) k) r (fault_tested rest)
        → fault_tested (broken_or (cond (p at) (first_broken p (at + 1) k) (Some at)) r n rest) ≡ require (p at && all_from p (at + 1) k) r (fault_tested rest)
    go true e on = rw e on
    go false e on = rw e

fault_tested_lem : (n : ℕ) (rs : List Rule) → fault_tested (fault_from n rs) ≡ tests rs
unfolding fault_from tests
fault_tested_lem n [] = refl
fault_tested_lem n (r ∷ rs) = place_tested r.kept r.first r.places r.refusal n (fault_from (n + 1) rs) ∙ ap (require (is_kept r) r.refusal) (fault_tested_lem (n + 1) rs)

-- tests with one refusal are one test
joined : (a b : Bool) (r : Refusal) (rest : Tested) → require a r (require b r rest) ≡ require (a && b) r rest
joined true b r rest = refl
joined false b r rest = refl

again : (a : Bool) (r q : Refusal) (b : Bool) (rest : Tested) → require a r (require b q (require a r rest)) ≡ require a r (require b q rest)
again true r q b rest = refl
again false r q b rest = refl

module _ (T : Tables) (marks : List ℕ) where
  -- what follows the limits and the rules
  abbrev last : Tested
  last = require (shallow T) too_deep (require (names_differ T) equal_names passed)

  abbrev marks_ok : Bool
  marks_ok = all_from (mark_ok_at marks) 0 128

  -- the rules from 10 to 20
  abbrev places : Bool
  places =
      all_from (name_ok_at T) 0 (name_count T) && (all_from (number_ok T) 0 (number_count T) && (all_from (entry_ok T) 0 (length T.children)
      && (all_from (kind_ok_at T) 0 (node_count T) && (all_from (span_ok_at T) 0 (node_count T) && (all_from (unused_ok_at T) 0 (node_count T)
      && (all_from (range_ok_at T) 0 (node_count T) && (all_from (text_ok_at T) 0 (node_count T) && (all_from (below_ok_at T) 0 (node_count T)
      && (all_from (new_entry_at T.children) 0 (length T.children) && (all_from (new_places_at T.nodes) 0 (node_count T)))))))))))

  in_row : tests (rules T marks) ≡ require (within_limits T) over_limit (require ((whole_records T && places) && marks_ok) breaks_rules last)
  unfolding tests rules within_limits whole_records shallow names_differ
  in_row = simp (all_kept_lem, each_kept, joined, and_assoc)

  before_depth : all_kept (take 21 (rules T marks)) ≡ (within_limits T && ((whole_records T && places) && marks_ok))
  unfolding all_kept rules within_limits whole_records
  before_depth = simp (all_kept_lem, each_kept, and_assoc, and-true)

  module _ (s : Scope) (none : s.underscore ≡ 0) where
    scope_kept : scope_ok T s ≡ true
    unfolding scope_ok
    scope_kept = rw none

    rules_apart : ((whole_records T && places) && marks_ok) ≡ (marks_ok && follows_rules T s)
    unfolding follows_rules
    rules_apart =
        rw (nodes_apart T (node_count T), entries_differ T.children, places_differ T.nodes (node_count T), scope_kept, and_comm (whole_records T && places) marks_ok)
        (simp (and_assoc, and-true))

    pub fault_checked : fault_tested (fault_of T marks) ≡ checked_with_marks T marks s
    unfolding fault_of checked
    fault_checked =
        fault_tested_lem 1 (rules T marks)
        ∙ (in_row
        ∙ (rw (rules_apart, ← joined marks_ok (follows_rules T s) breaks_rules last) (sym (again (within_limits T) over_limit breaks_rules marks_ok (require (follows_rules T s) breaks_rules last)))))

no_underscore : (new_scope 0 false).underscore ≡ 0
unfolding new_scope
no_underscore = refl

-- the rules before the depth
pub rules_hold : (T : Tables) (marks : List ℕ) → all_kept (take 21 (rules T marks)) ≡ true → follows_rules T (new_scope 0 false) ≡ true
rules_hold T marks e =
    let h = (both (within_limits T) ((whole_records T && places T marks) && marks_ok T marks) (sym (before_depth T marks) ∙ e)).1 in
    (both (marks_ok T marks) (follows_rules T (new_scope 0 false)) (sym (rules_apart T marks (new_scope 0 false) no_underscore) ∙ h)).1
