-- The numbers of an answer settle it.
use mathlib.Core.Path.{◌≡◌, refl, sym, ap, ◌∙◌}
use lib.Dec.{eqb}
use mathlib.Core.Bool.{cond}
use Rattle.base.specs.Refusal.{Line}
use Rattle.std.specs.Prelude.{ℕ, Result, Ok, Err}
use Rattle.plan_store.specs.declared.SharesRefused.{SharesRefused}
use Rattle.plan_store.specs.declared.StoreRefused.{StoreRefused}
use Rattle.plan_store.specs.Calls.{set_up_numbers, keep_numbers, empty_numbers, StoreAnswerLaws}

-- each answer is read back from its numbers
abbrev answer_in : {A E : Type 0} → A → E → Line → Result A E
answer_in done refused l = cond (eqb l.number 0) (Ok done) (Err refused)

abbrev set_up_in : Line → Result Unit SharesRefused
set_up_in l = answer_in tt (record {}) l

abbrev keep_in : Line → Result ℕ StoreRefused
keep_in l = answer_in l.second (record {}) l

abbrev empty_in : Line → Result Unit StoreRefused
empty_in l = answer_in tt (record {}) l

set_up_back : (r : Result Unit SharesRefused) → set_up_in (set_up_numbers r) ≡ r
set_up_back (Ok done) = refl
set_up_back (Err e) = refl

keep_back : (r : Result ℕ StoreRefused) → keep_in (keep_numbers r) ≡ r
keep_back (Ok place) = refl
keep_back (Err e) = refl

empty_back : (r : Result Unit StoreRefused) → empty_in (empty_numbers r) ≡ r
empty_back (Ok done) = refl
empty_back (Err e) = refl

pub answer_laws : StoreAnswerLaws
answer_laws = record {
  set_ups = λ r q e. sym (set_up_back r) ∙ (ap set_up_in e ∙ set_up_back q);
  keeps = λ r q e. sym (keep_back r) ∙ (ap keep_in e ∙ keep_back q);
  empties = λ r q e. sym (empty_back r) ∙ (ap empty_in e ∙ empty_back q);
}
