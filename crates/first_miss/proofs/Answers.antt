-- The answer from its result.
use mathlib.Core.Path.{◌≡◌, refl, sym, ap, ◌∙◌}
use Rattle.std.proofs.Common.{Option, Some, None, Result, Ok, Err}
use Rattle.run.specs.declared.RunRefusal.{RunRefusal}
use Rattle.run.proofs.Answers.{refusal_of, refusal_back}
use Rattle.first_miss.specs.declared.Miss.{Miss}
use Rattle.first_miss.specs.Answer.{MissResult, turned_back_lem, a_match, no_match_lem, miss_result_of, MissResultLaws}

abbrev answer_by : MissResult → Result (Option Miss) RunRefusal
answer_by a_match = Ok None
answer_by (no_match_lem m) = Ok (Some m)
answer_by (turned_back_lem r) = Err (refusal_of r)

back : (r : Result (Option Miss) RunRefusal) → answer_by (miss_result_of r) ≡ r
back (Ok None) = refl
back (Ok (Some m)) = refl
back (Err r) = ap Err (refusal_back r)

pub result_laws : MissResultLaws
result_laws = record { settled = λ r q e. sym (back r) ∙ (ap answer_by e ∙ back q) }
