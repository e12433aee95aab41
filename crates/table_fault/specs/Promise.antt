-- The rules taken apart are exactly the table check, and a fault is the first of the list.
use Rattle.std.specs.Prelude.{ℕ, ◌+◌, ◌≤◌, ◌<◌, ◌≡◌, Bool, true, false, ◌&&◌, List, [], ◌∷◌, ◌++◌, length}
use Rattle.base.specs.Lists.{all_from}
use Rattle.base.specs.Refusal.{Refusal, over_limit, breaks_rules, Tested, passed, refused, require}
use Rattle.scope.specs.declared.Scope.{Scope}
use Rattle.table.specs.Tables.{Tables}
use Rattle.table.specs.Rules.{within_limits}
use Rattle.table.specs.Check.{checked}
use Rattle.table_fault.specs.Rules.{Rule, mark_ok_at, rules}
use Rattle.table_fault.specs.Fault.{Fault, no_fault_lem, broken, fault_of}

abbrev pub fault_tested : Fault → Tested
fault_tested no_fault_lem = passed
fault_tested (broken refusal number place) = refused refusal

-- The check with marks as bytes: 2 for a mark above 31 comes after 1.
abbrev pub checked_with_marks : Tables → List ℕ → Scope → Tested
checked_with_marks T marks s = require (within_limits T) over_limit (require (all_from (mark_ok_at marks) 0 128) breaks_rules (checked T s))

-- a rule at all its places; so are all rules of a list
abbrev pub is_kept : Rule → Bool
is_kept r = all_from r.kept r.first r.places

unfoldable pub all_kept : List Rule → Bool
all_kept [] = true
all_kept (r ∷ rs) = is_kept r && all_kept rs

-- the rule with this number is broken at a place; it is kept at all its places before, and all rules before it are kept
pub record FirstBroken (rs : List Rule) (refusal : Refusal) (number place : ℕ) : Type 0 where
  pub before : List Rule
  pub rule : Rule
  pub after : List Rule
  pub list : rs ≡ before ++ (rule ∷ after)
  pub numbered : number ≡ length before + 1
  pub refuses : refusal ≡ rule.refusal
  pub kept : all_kept before ≡ true
  pub low : rule.first ≤ place
  pub high : place < rule.first + rule.places
  pub here : rule.kept place ≡ false
  pub earlier : (p : ℕ) → rule.first ≤ p → p < place → rule.kept p ≡ true

pub record FaultPromise (T : Tables) (marks : List ℕ) : Type 0 where
  -- the check is made with marks that the bytes stand for, and with no number of `_`: whatever that scope is
  pub check : (s : Scope) → s.underscore ≡ 0 → fault_tested (fault_of T marks) ≡ checked_with_marks T marks s
  pub first : (refusal : Refusal) (number place : ℕ) → fault_of T marks ≡ broken refusal number place → FirstBroken (rules T marks) refusal number place
  pub small : (refusal : Refusal) (number place : ℕ) → fault_of T marks ≡ broken refusal number place → (number ≤ 23) × (place ≤ 512)
  pub none : fault_of T marks ≡ no_fault_lem → all_kept (rules T marks) ≡ true
