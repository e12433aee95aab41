-- What a run with tolerances answers: always, sometimes, never, or one of the refusals of document 01 and request 4 of document 02.
use Rattle.std.specs.Prelude.{◌≡◌, Result, Ok, Err}
use Rattle.base.specs.Refusal.{Refusal, range_wrong}
use Rattle.run.specs.Answer.{run_refusal}
use Rattle.tolerance.specs.declared.ToleranceAnswer.{ToleranceAnswer}
use Rattle.tolerance.specs.declared.ToleranceAnswer.TheVariants.{Always, Sometimes, Never}
use Rattle.tolerance.specs.declared.ToleranceRefusal.{ToleranceRefusal}
use Rattle.tolerance.specs.declared.ToleranceRefusal.TheVariants.{RangeWrong, Run}
use Rattle.tolerance.specs.Tolerance.{Answer, always, sometimes, never}

pub data ToleranceResult : Type 0 where
  turned_back_lem : Refusal → ToleranceResult
  answers : Answer → ToleranceResult

abbrev pub answer_of : ToleranceAnswer → Answer
answer_of Always = always
answer_of Sometimes = sometimes
answer_of Never = never

abbrev pub tolerance_refusal : ToleranceRefusal → Refusal
tolerance_refusal RangeWrong = range_wrong
tolerance_refusal (Run r) = run_refusal r

abbrev pub tolerance_result_of : Result ToleranceAnswer ToleranceRefusal → ToleranceResult
tolerance_result_of (Ok a) = answers (answer_of a)
tolerance_result_of (Err r) = turned_back_lem (tolerance_refusal r)

-- the result settles the answer
pub record ToleranceResultLaws : Type 0 where
  pub settled : (r q : Result ToleranceAnswer ToleranceRefusal) → tolerance_result_of r ≡ tolerance_result_of q → r ≡ q
