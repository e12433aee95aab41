-- The call for a rule body (request 14 of document 02): what is refused first, the answer's five numbers in the lent words, the plan buffer and the marks afterwards.
use Rattle.std.specs.Prelude.{ℕ, ◌≡◌, cond, List, leb, ltb, length, get_or, set, Result, Ok, IfOk}
use Rattle.base.specs.Lists.{tabulate}
use Rattle.base.specs.Lent.{Slices, MutSlices, old, new}
use Rattle.base.specs.Refusal.{over_limit, layout_broken, not_a_body, Tested, passed, require, tested_or}
use Rattle.scope.specs.declared.Scope.{Scope}
use Rattle.scope.specs.declared.MarkOutside.{MarkOutside}
use Rattle.scope.specs.Bytes as Bytes
use Rattle.scope.specs.Bytes.{conversion_of, convertible}
use Rattle.table.specs.Tables.{Tables}
use Rattle.table.specs.Rules.{within_limits}
use Rattle.operation.specs.Rows.{told}
use Rattle.body.specs.Lines.{is_body}
use Rattle.body.specs.Body.{BodyOutcome, refused_at, accepted, body_outcome, BodyLine, body_answered, body_written}
use Rattle.c_calls.specs.declared.given.GivenRefusal.{GivenRefusal}
use Rattle.c_calls.specs.Given.{byte_scope_of, scope_of, given_tested}

-- 7 for a scheduler that is not listed, then 37: of no line
unfoldable pub words_first : ℕ → List ℕ → Tested
words_first scheduler words = require (leb scheduler 1) layout_broken (require (is_body words) not_a_body passed)

-- 1 of the table check and 2 for the marks: of line 1
unfoldable pub marks_first : Tables → Tested → Tested
marks_first T made = require (within_limits T) over_limit made

-- All else is the body's.
unfoldable pub body_call : Tables → List ℕ → ℕ → List ℕ → List ℕ → BodyOutcome
body_call T marks scheduler words buffer =
    tested_or (refused_at 0) (words_first scheduler words)
    (tested_or (refused_at 1) (marks_first T (convertible (byte_scope_of marks scheduler)))
    (body_outcome T (scope_of marks scheduler) words buffer))

-- four numbers as of a planning call, then the line: as many as there is space for; words past the fifth stay
unfoldable pub told_body : BodyLine → List ℕ → List ℕ
told_body l words = set (told l.numbers words) 4 l.line

-- the 128 marks of a scope in the lent ones, as far as there is space; those past them stay
abbrev pub mark_at : List ℕ → List ℕ → ℕ → ℕ
mark_at all marks i = cond (ltb i 128) (get_or all i 0) (get_or marks i 0)

unfoldable pub marks_in : Scope → List ℕ → List ℕ
marks_in s marks = tabulate (mark_at (Bytes.to_bytes s).marks marks) 0 (length marks)

-- those of the scope returned; of a refused body as they were
unfoldable pub marks_after : BodyOutcome → List ℕ → List ℕ
marks_after (refused_at n r) marks = marks
marks_after (accepted s last) marks = marks_in s marks

-- what the code says of 1 and 2: the refusal, or the scope that the marks were made into
pub record MarksTold (T : Tables) (made : Result Scope MarkOutside) (r : Result Scope GivenRefusal) : Type 0 where
  pub told : given_tested r ≡ marks_first T (conversion_of made)
  pub scope : IfOk r (λ s. made ≡ Ok s)

pub record ToldBody (l : BodyLine) (before after : List ℕ) (r : ℕ) : Type 0 where
  pub result : r ≡ l.numbers.number
  pub words : after ≡ told_body l before

pub record BodyCalled (o : BodyOutcome) (marks buffer words marksExit bufferExit wordsExit : List ℕ) (r : ℕ) : Type 0 where
  pub answer : ToldBody (body_answered o) words wordsExit r
  pub plan : bufferExit ≡ body_written o buffer
  pub kept : marksExit ≡ marks_after o marks

abbrev pub BodyCalledIn : MutSlices → MutSlices → MutSlices → Tables → ℕ → Slices → ℕ → Type 0
BodyCalledIn marks plan answer T scheduler lines r =
    BodyCalled (body_call T (old marks) scheduler lines.entry.now (old plan)) (old marks) (old plan) (old answer) (new marks) (new plan) (new answer) r
