-- The rules by their numbers.
use Prim.Native.Nat.{ℕ, zero, suc, ◌-◌, ◌≤◌, ◌<◌}
use mathlib.Core.Path.{◌≡◌, refl, sym, ◌∙◌}
use mathlib.Core.Bool.{true, false}
use mathlib.Core.List.{List, [], ◌∷◌}
use native.Mathlib.Omega.{arith}
use lib.Dec.{leb}
use lib.ListN.{length, take}
use Rattle.base.specs.Lists.{all_from}
use Rattle.base.specs.Refusal.{over_limit}
use Rattle.scope.specs.Scope.{new_scope}
use Rattle.table.specs.Tables.{Tables, node_count, number_count, name_count}
use Rattle.table.specs.Rules.{within_limits}
use Rattle.table.specs.code.Sound.{WellFormed}
use Rattle.table.proofs.tests.Bools.{and_true as both}
use Rattle.table.proofs.trees.Facts.{well_formed}
use Rattle.table_fault.specs.Rules.{Rule, limit, rules}
use Rattle.table_fault.specs.Promise.{is_kept, all_kept}
use Rattle.table_fault.specs.code.Asking.{rule_at, numbered, Reached, first_by, places_by, refusal_by}
use Rattle.table_fault.proofs.Words.{next}
use Rattle.table_fault.proofs.Promised.{all_kept_lem, rules_hold}

-- what the number alone says of a rule
pub record ByNumber (T : Tables) (marks : List ℕ) (rule : ℕ) : Type 0 where
  pub first : (numbered T marks rule).first ≡ first_by rule
  pub places : (numbered T marks rule).places ≡ places_by T rule
  pub refusal : (numbered T marks rule).refusal ≡ refusal_by rule

-- rules 1 to 23, each in turn
each_number : (P : ℕ → Type 0) → P 1 → P 2 → P 3 → P 4 → P 5 → P 6 → P 7 → P 8 → P 9 → P 10 → P 11 → P 12 → P 13 → P 14 → P 15 → P 16 → P 17 → P 18 → P 19 → P 20 → P 21 → P 22 → P 23
    → (rule : ℕ) → 1 ≤ rule → rule ≤ 23 → P rule
each_number P p₁ p₂ p₃ p₄ p₅ p₆ p₇ p₈ p₉ p₁₀ p₁₁ p₁₂ p₁₃ p₁₄ p₁₅ p₁₆ p₁₇ p₁₈ p₁₉ p₂₀ p₂₁ p₂₂ p₂₃ rule low high =
    next rule 1 low (λ e. rw e p₁)
    (λ b. next rule 2 b (λ e. rw e p₂)
    (λ b. next rule 3 b (λ e. rw e p₃)
    (λ b. next rule 4 b (λ e. rw e p₄)
    (λ b. next rule 5 b (λ e. rw e p₅)
    (λ b. next rule 6 b (λ e. rw e p₆)
    (λ b. next rule 7 b (λ e. rw e p₇)
    (λ b. next rule 8 b (λ e. rw e p₈)
    (λ b. next rule 9 b (λ e. rw e p₉)
    (λ b. next rule 10 b (λ e. rw e p₁₀)
    (λ b. next rule 11 b (λ e. rw e p₁₁)
    (λ b. next rule 12 b (λ e. rw e p₁₂)
    (λ b. next rule 13 b (λ e. rw e p₁₃)
    (λ b. next rule 14 b (λ e. rw e p₁₄)
    (λ b. next rule 15 b (λ e. rw e p₁₅)
    (λ b. next rule 16 b (λ e. rw e p₁₆)
    (λ b. next rule 17 b (λ e. rw e p₁₇)
    (λ b. next rule 18 b (λ e. rw e p₁₈)
    (λ b. next rule 19 b (λ e. rw e p₁₉)
    (λ b. next rule 20 b (λ e. rw e p₂₀)
    (λ b. next rule 21 b (λ e. rw e p₂₁)
    (λ b. next rule 22 b (λ e. rw e p₂₂)
    (λ b. next rule 23 b (λ e. rw e p₂₃) (λ b. absurd (omega arith))))))))))))))))))))))))

abbrev told : (T : Tables) (marks : List ℕ) (rule : ℕ) → (numbered T marks rule).first ≡ first_by rule → (numbered T marks rule).places ≡ places_by T rule
    → (numbered T marks rule).refusal ≡ refusal_by rule → ByNumber T marks rule
told T marks rule f p r = record { first = f; places = p; refusal = r }

pub by_number : (T : Tables) (marks : List ℕ) (rule : ℕ) → 1 ≤ rule → rule ≤ 23 → ByNumber T marks rule
unfolding numbered rule_at rules places_by
by_number T marks =
    each_number (ByNumber T marks)
    (told T marks 1 refl refl refl) (told T marks 2 refl refl refl) (told T marks 3 refl refl refl) (told T marks 4 refl refl refl)
    (told T marks 5 refl refl refl) (told T marks 6 refl refl refl) (told T marks 7 refl refl refl) (told T marks 8 refl refl refl)
    (told T marks 9 refl refl refl) (told T marks 10 refl refl refl) (told T marks 11 refl refl refl) (told T marks 12 refl refl refl)
    (told T marks 13 refl refl refl) (told T marks 14 refl refl refl) (told T marks 15 refl refl refl) (told T marks 16 refl refl refl)
    (told T marks 17 refl refl refl) (told T marks 18 refl refl refl) (told T marks 19 refl refl refl) (told T marks 20 refl refl refl)
    (told T marks 21 refl refl refl) (told T marks 22 refl refl refl) (told T marks 23 refl refl refl)

-- a rule before one that is reached
kept_at : (rs : List Rule) (n i : ℕ) → all_kept (take n rs) ≡ true → i < n → is_kept (rule_at rs i) ≡ true
unfolding all_kept rule_at all_from
kept_at rs zero i e lt = absurd (omega arith)
kept_at [] (suc n) i e lt = refl
kept_at (r ∷ rs) (suc n) zero e lt = (both (is_kept r) (all_kept (take n rs)) e).0
kept_at (r ∷ rs) (suc n) (suc i) e lt = kept_at rs n i (both (is_kept r) (all_kept (take n rs)) e).1 (omega arith)

limit_holds : (most size : ℕ) → is_kept (limit most size) ≡ true → leb size most ≡ true
limit_holds most size e = sym (all_kept_lem over_limit (leb size most)) ∙ e

module _ {T : Tables} {marks : List ℕ} {rule : ℕ} (go : Reached T marks rule) where
  abbrev before : (i : ℕ) → i < rule - 1 → is_kept (rule_at (rules T marks) i) ≡ true
  before i lt = kept_at (rules T marks) (rule - 1) i go.before lt

  pub reached_limits : 9 < rule → within_limits T ≡ true
  unfolding within_limits rule_at rules
  reached_limits lt =
      rw (
        limit_holds 512 (node_count T) (before 0 (omega arith)),
        limit_holds 512 (length T.children) (before 1 (omega arith)),
        limit_holds 256 (number_count T) (before 2 (omega arith)),
        limit_holds 128 (name_count T) (before 3 (omega arith)),
        limit_holds 8192 (length T.strings) (before 4 (omega arith)),
        limit_holds 16384 (length T.text) (before 5 (omega arith)),
      )

  -- by rule 22 all that the check's 1 and 2 stand for is kept
  pub reached_sound : rule ≡ 22 → WellFormed T
  reached_sound e =
      let limits = reached_limits (omega arith) in
      well_formed T (new_scope 0 false) limits (rules_hold T marks (rw e at go.before))
