-- How the rules are asked: a rule after all rules before it are kept, at a place after it is kept at all places before.
use Rattle.std.specs.Prelude.{ℕ, zero, suc, ◌+◌, ◌-◌, ◌^◌, ◌≤◌, ◌<◌, ◌≡◌, Bool, true, cond, ◌&&◌, List, [], ◌∷◌, eqb, leb, ltb, length, take}
use Rattle.base.specs.Lists.{all_from}
use Rattle.base.specs.Refusal.{Refusal, over_limit, breaks_rules, too_deep, equal_names}
use Rattle.table.specs.Tables.{Tables, node_count, number_count, name_count}
use Rattle.table_fault.specs.Rules.{Rule, of_all, rules}
use Rattle.table_fault.specs.Promise.{all_kept}

-- the rule at a place of a list, from 0; past its end one that is always kept
unfoldable pub rule_at : List Rule → ℕ → Rule
rule_at [] i = of_all breaks_rules true
rule_at (r ∷ rs) zero = r
rule_at (r ∷ rs) (suc i) = rule_at rs i

-- a rule by its number
unfoldable pub numbered : Tables → List ℕ → ℕ → Rule
numbered T marks rule = rule_at (rules T marks) (rule - 1)

abbrev pub kept_at : Tables → List ℕ → ℕ → ℕ → Bool
kept_at T marks rule place = (numbered T marks rule).kept place

pub record Reached (T : Tables) (marks : List ℕ) (rule : ℕ) : Type 0 where
  pub low : 1 ≤ rule
  pub high : rule ≤ 23
  pub before : all_kept (take (rule - 1) (rules T marks)) ≡ true

pub record Asked (T : Tables) (marks : List ℕ) (rule place : ℕ) : Type 0 where
  pub reached : Reached T marks rule
  pub low : (numbered T marks rule).first ≤ place
  pub high : place < (numbered T marks rule).first + (numbered T marks rule).places
  pub before : all_from (numbered T marks rule).kept (numbered T marks rule).first (place - (numbered T marks rule).first) ≡ true

-- one of rules 13 to 18 at a node
pub record NodeAsked (T : Tables) (rule node : ℕ) : Type 0 where
  pub from : 13 ≤ rule
  pub to : rule ≤ 18
  pub low : 1 ≤ node
  pub high : node ≤ node_count T

-- what a rule's number alone says: its first place, how many it has, its refusal
abbrev pub first_by : ℕ → ℕ
first_by rule = cond (leb rule 9) 0 1

unfoldable pub places_by : Tables → ℕ → ℕ
places_by T rule =
    cond (leb rule 9) 1
    (cond (eqb rule 10) (name_count T)
    (cond (eqb rule 11) (number_count T)
    (cond (eqb rule 12) (length T.children)
    (cond (eqb rule 19) (length T.children)
    (cond (eqb rule 21) 128
    (cond (eqb rule 23) (name_count T)
    (node_count T)))))))

abbrev pub refusal_by : ℕ → Refusal
refusal_by rule = cond (leb rule 6) over_limit (cond (eqb rule 22) too_deep (cond (eqb rule 23) equal_names breaks_rules))

-- a range whose end is a word
pub record Short (first count : ℕ) : Type 0 where
  pub start : first < 2 ^ 32
  pub size : count < 2 ^ 33

-- two ranges have a number in common
unfoldable pub share : ℕ → ℕ → ℕ → ℕ → Bool
share first count other size = ltb 0 count && (ltb 0 size && (ltb other (first + count) && ltb first (other + size)))
