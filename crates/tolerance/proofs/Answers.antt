-- The answer from its result.
use mathlib.Core.Path.{◌≡◌, refl, sym, ap, ◌∙◌}
use mathlib.Core.Bool.{cond}
use lib.Dec.{eqb}
use Rattle.std.proofs.Common.{Result, Ok, Err}
use Rattle.table.specs.declared.TableRefusal.TheVariants.{OverLimit, BreaksRules, TooDeep, EqualNames}
use Rattle.run.specs.declared.RunRefusal.TheVariants as Ran
use Rattle.run.proofs.Answers.{refusal_of}
use Rattle.tolerance.specs.declared.ToleranceAnswer.{ToleranceAnswer}
use Rattle.tolerance.specs.declared.ToleranceAnswer.TheVariants.{Always, Sometimes, Never}
use Rattle.tolerance.specs.declared.ToleranceRefusal.{ToleranceRefusal}
use Rattle.tolerance.specs.declared.ToleranceRefusal.TheVariants.{RangeWrong, Run}
use Rattle.tolerance.specs.Tolerance.{always, sometimes, never}
use Rattle.tolerance.specs.Answer.{ToleranceResult, turned_back_lem, answers, tolerance_result_of, ToleranceResultLaws}

abbrev answer_by : ToleranceResult → Result ToleranceAnswer ToleranceRefusal
answer_by (answers always) = Ok Always
answer_by (answers sometimes) = Ok Sometimes
answer_by (answers never) = Ok Never
answer_by (turned_back_lem r) = cond (eqb r.number 32) (Err RangeWrong) (Err (Run (refusal_of r)))

back : (r : Result ToleranceAnswer ToleranceRefusal) → answer_by (tolerance_result_of r) ≡ r
back (Ok Always) = refl
back (Ok Sometimes) = refl
back (Ok Never) = refl
back (Err RangeWrong) = refl
back (Err (Run (Ran.TableRefused OverLimit))) = refl
back (Err (Run (Ran.TableRefused BreaksRules))) = refl
back (Err (Run (Ran.TableRefused TooDeep))) = refl
back (Err (Run (Ran.TableRefused EqualNames))) = refl
back (Err (Run Ran.RootOutside)) = refl
back (Err (Run Ran.ListTooShort)) = refl
back (Err (Run Ran.PatternNotSimple)) = refl
back (Err (Run Ran.NotAValue)) = refl
back (Err (Run Ran.NameWithoutValue)) = refl
back (Err (Run (Ran.PlanTooLarge needed))) = refl

pub result_laws : ToleranceResultLaws
result_laws = record { settled = λ r q e. sym (back r) ∙ (ap answer_by e ∙ back q) }
