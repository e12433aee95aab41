-- What the call answers: a match, the first miss, or one of a run's refusals.
use Rattle.std.specs.Prelude.{◌≡◌, Option, Some, None, Result, Ok, Err}
use Rattle.base.specs.Refusal.{Refusal}
use Rattle.run.specs.declared.RunRefusal.{RunRefusal}
use Rattle.run.specs.Answer.{run_refusal}
use Rattle.first_miss.specs.declared.Miss.{Miss}

pub data MissResult : Type 0 where
  turned_back_lem : Refusal → MissResult
  a_match : MissResult
  no_match_lem : Miss → MissResult

abbrev pub miss_result_of : Result (Option Miss) RunRefusal → MissResult
miss_result_of (Ok None) = a_match
miss_result_of (Ok (Some m)) = no_match_lem m
miss_result_of (Err r) = turned_back_lem (run_refusal r)

-- the result settles the answer
pub record MissResultLaws : Type 0 where
  pub settled : (r q : Result (Option Miss) RunRefusal) → miss_result_of r ≡ miss_result_of q → r ≡ q
