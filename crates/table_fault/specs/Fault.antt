-- The first broken rule of the list, with its first broken place.
use Rattle.std.specs.Prelude.{ℕ, zero, suc, ◌+◌, ◌≡◌, Bool, cond, List, [], ◌∷◌, Option, Some, None}
use Rattle.base.specs.Refusal.{Refusal, Line, line}
use Rattle.table.specs.Tables.{Tables}
use Rattle.table.specs.Check.{table_refused}
use Rattle.table_fault.specs.declared.BrokenRule.{BrokenRule}
use Rattle.table_fault.specs.Rules.{Rule, rules}

-- the first of k places from `at` on
unfoldable pub first_broken : (ℕ → Bool) → ℕ → ℕ → Option ℕ
first_broken kept at zero = None
first_broken kept at (suc k) = cond (kept at) (first_broken kept (at + 1) k) (Some at)

abbrev pub broken_place : Rule → Option ℕ
broken_place r = first_broken r.kept r.first r.places

pub data Fault : Type 0 where
  no_fault_lem : Fault
  -- the check's refusal, the rule's number, the place
  broken : Refusal → ℕ → ℕ → Fault

abbrev pub broken_or : Option ℕ → Refusal → ℕ → Fault → Fault
broken_or None refusal number rest = rest
broken_or (Some place) refusal number rest = broken refusal number place

-- of rules that are numbered from `number` on
unfoldable pub fault_from : ℕ → List Rule → Fault
fault_from number [] = no_fault_lem
fault_from number (r ∷ rs) = broken_or (broken_place r) r.refusal number (fault_from (number + 1) rs)

unfoldable pub fault_of : Tables → List ℕ → Fault
fault_of T marks = fault_from 1 (rules T marks)

-- the check's number, the rule, the place
abbrev pub fault_line : Fault → Line
fault_line no_fault_lem = line 0 0 0 0
fault_line (broken refusal number place) = line refusal.number number place 0

-- what the code's answer says
abbrev pub fault_told : Option BrokenRule → Fault
fault_told None = no_fault_lem
fault_told (Some b) = broken (table_refused b.refused) b.rule b.place

pub record FaultAnswered (T : Tables) (marks : List ℕ) (r : Option BrokenRule) : Type 0 where
  pub answer : fault_told r ≡ fault_of T marks
