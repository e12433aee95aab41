-- What a run answers: one of document 01's refusals, a match or no match.
use Rattle.std.specs.Prelude.{◌≡◌, Result, Ok, Err}
use Rattle.base.specs.Refusal.{Refusal, root_outside, plan_too_large, list_too_short, pattern_not_simple, not_a_value, name_without_value}
use Rattle.table.specs.Check.{table_refused}
use Rattle.run.specs.declared.RunAnswer.{RunAnswer}
use Rattle.run.specs.declared.RunAnswer.TheVariants as Run
use Rattle.run.specs.declared.RunRefusal.{RunRefusal}
use Rattle.run.specs.declared.RunRefusal.TheVariants.{TableRefused, RootOutside, ListTooShort, PatternNotSimple, NotAValue, NameWithoutValue, PlanTooLarge}

pub data RunResult : Type 0 where
  turned_back_lem : Refusal → RunResult
  a_match : RunResult
  no_match_lem : RunResult

-- the refusals
abbrev pub run_refusal : RunRefusal → Refusal
run_refusal (TableRefused a) = table_refused a
run_refusal RootOutside = root_outside
run_refusal (PlanTooLarge needed) = plan_too_large needed
run_refusal ListTooShort = list_too_short
run_refusal PatternNotSimple = pattern_not_simple
run_refusal NotAValue = not_a_value
run_refusal NameWithoutValue = name_without_value

abbrev pub match_result : RunAnswer → RunResult
match_result Run.Match = a_match
match_result Run.NoMatch = no_match_lem

abbrev pub result_of : Result RunAnswer RunRefusal → RunResult
result_of (Ok a) = match_result a
result_of (Err r) = turned_back_lem (run_refusal r)

-- the result settles the answer
pub record ResultLaws : Type 0 where
  pub settled : (r q : Result RunAnswer RunRefusal) → result_of r ≡ result_of q → r ≡ q
