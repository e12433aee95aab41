-- What the calls come to, from what the calls below them say.
use Rattle.std.proofs.Common.{Result, Ok, Err}
use Prim.Native.Nat.{ℕ}
use mathlib.Core.Path.{◌≡◌, refl, ap, sym, ◌∙◌, subst}
use mathlib.Core.Bool.{Bool, false≢true}
use mathlib.Core.List.{List}
use lib.ListN.{length, replicate}
use borrow.Author.Tests.{eq-eqb}
use Rattle.base.specs.Refusal.{Tested, passed, refused, Line, line, refusal_line, tested_line}
use Rattle.scope.specs.declared.Scope.{Scope}
use Rattle.scope.specs.declared.ScopingMode.{ScopingMode}
use Rattle.scope.specs.declared.ByteScope.{ByteScope}
use Rattle.scope.specs.declared.MarkOutside.{MarkOutside}
use Rattle.scope.specs.Scope.{known}
use Rattle.scope.specs.Bytes.{of_bytes, convertible, ConvertedFrom}
use Rattle.table.specs.Tables.{Tables}
use Rattle.table.specs.Decode.{expr}
use Rattle.planner.specs.declared.Plan.{Plan}
use Rattle.planner.specs.declared.PlanRefusal.{PlanRefusal}
use Rattle.planner.specs.Answer.{line_of}
use Rattle.planner.specs.Operations as Plan
use Rattle.planner.specs.Operations.{answered, written, Answered}
use Rattle.planner.specs.Short.{ShortLine}
use Rattle.std.specs.Prelude.{IfOk}
use Rattle.run.specs.declared.RunAnswer.{RunAnswer}
use Rattle.run.specs.declared.RunRefusal.{RunRefusal}
use Rattle.run.specs.Answer.{result_of}
use Rattle.run.specs.Operations.{run_outcome, run_answer, plan_after, planned_name, values_after, Ran}
use Rattle.report.specs.declared.ReportRefusal.{ReportRefusal}
use Rattle.report.specs.Answer.{report_line}
use Rattle.report.specs.Report.{ReportedBy}
use Rattle.operation.specs.declared.Operation.{Operation}
use Rattle.operation.specs.declared.numbers.OperationNumbers.{OperationNumbers}
use Rattle.operation.specs.declared.row.Row.{Row}
use Rattle.operation.specs.Numbers.{scoping_of, operation_of}
use Rattle.operation.specs.Version.{version_outcome}
use Rattle.operation.specs.Rows.{row_line, Told}
use Rattle.c_calls.specs.declared.given.GivenRefusal.{GivenRefusal}
use Rattle.c_calls.specs.Given.{byte_scope_of, scope_of, pattern_numbers, tested_first, given_first, given_refused, given_tested, GivenTold}
use Rattle.c_calls.specs.Calls.{plan_call, PlanCalled, ran_line, run_call, names_set, RunCalled, ReportCalled}
use Rattle.c_calls.proofs.Shortness.{plan_short, run_short, report_short}

-- what is told fits in the words
pub plan_fits :
    (T : Tables)
    (s : Scope)
    (version : ℕ)
    (operation : Operation)
    {before after : List ℕ}
    {answer : Result Plan PlanRefusal}
    {row : Row}
    → Answered (version_outcome T s version operation) before after answer
    → row_line row ≡ line_of answer
    → ShortLine (row_line row)
plan_fits T s version operation {before = before} done is = subst ShortLine (sym (is ∙ done.answer)) (plan_short T s version operation before)

pub run_fits :
    (T : Tables)
    (s : Scope)
    (mode : ScopingMode)
    (pattern value : ℕ)
    {names : ℕ → Bool}
    {values buffer valuesExit bufferExit : List ℕ}
    {answer : Result RunAnswer RunRefusal}
    {row : Row}
    → Ran names (run_outcome T s mode pattern value values) values buffer valuesExit bufferExit answer
    → row_line row ≡ ran_line (result_of answer)
    → ShortLine (row_line row)
run_fits T s mode pattern value {values = values} {buffer = buffer} ran is =
    subst ShortLine (sym (is ∙ ap ran_line ran.answer)) (run_short T s mode pattern value values buffer)

pub report_fits :
    (T : Tables)
    (s : Scope)
    (mode : ScopingMode)
    (root : ℕ)
    {before after : List ℕ}
    {answer : Result Unit ReportRefusal}
    {row : Row}
    → ReportedBy T s mode root before after answer
    → row_line row ≡ report_line answer
    → ShortLine (row_line row)
report_fits T s mode root {before = before} done is = subst ShortLine (sym (is ∙ done.answer)) (report_short T s root before)

-- four zeros are no refusal's line
pub no_refusal : (t : Tested) → line 0 0 0 0 ≡ tested_line t → t ≡ passed
no_refusal passed e = refl
no_refusal (refused r) e =
    let zero : r.number ≡ 0 = sym (ap (λ (l : Line). l.number) e) in
    absurd (false≢true (sym r.refuses ∙ eq-eqb r.number 0 zero))

-- what comes before the operation: its refusal, or the scope of the marks
module _ (T : Tables) (b : ByteScope) (o : OperationNumbers) {made : Result Scope MarkOutside} (from : ConvertedFrom b made) {given : Result Scope GivenRefusal} (told : GivenTold T made o given) where
  first_told : given_tested given ≡ tested_first T (convertible b) o
  first_told = told.told ∙ ap (λ (t : Tested). tested_first T t o) from.answer

  pub first_refused : {x : GivenRefusal} → given ≡ Err x → tested_first T (convertible b) o ≡ refused (given_refused x)
  first_refused e = sym first_told ∙ ap given_tested e

  module _ {s : Scope} (e : given ≡ Ok s) where
    pub first_passed : tested_first T (convertible b) o ≡ passed
    first_passed = sym first_told ∙ ap given_tested e

    pub made_scope : s ≡ of_bytes b
    made_scope =
        let is = subst (λ (r : Result Scope GivenRefusal). IfOk r (λ (s : Scope). made ≡ Ok s)) e told.scope in
        subst (λ (r : Result Scope MarkOutside). IfOk r (λ (s : Scope). s ≡ of_bytes b)) is from.scope

-- planning
module _ (T : Tables) (marks : List ℕ) (o : OperationNumbers) {made : Result Scope MarkOutside} (from : ConvertedFrom (byte_scope_of marks o.scheduler) made) {given : Result Scope GivenRefusal}
    (told : GivenTold T made o given) where
  pub plan_refused :
      (version : ℕ)
      {x : GivenRefusal}
      {buffer bufferExit words wordsExit : List ℕ}
      {r : ℕ}
      → given ≡ Err x
      → bufferExit ≡ replicate (length buffer) 0
      → Told (refusal_line (given_refused x)) words wordsExit r
      → PlanCalled (plan_call T marks o version) buffer words bufferExit wordsExit r
  unfolding answered written
  plan_refused version e zeros done = rw (first_refused T (byte_scope_of marks o.scheduler) o from told e) (record { answer = done; plan = zeros })

  pub plan_done :
      (version : ℕ)
      {buffer bufferExit words wordsExit : List ℕ}
      {operation : Operation}
      {answer : Result Plan PlanRefusal}
      {row : Row}
      {r : ℕ}
      {s : Scope}
      → given ≡ Ok s
      → operation ≡ operation_of o
      → Answered (version_outcome T s version operation) buffer bufferExit answer
      → row_line row ≡ line_of answer
      → Told (row_line row) words wordsExit r
      → PlanCalled (plan_call T marks o version) buffer words bufferExit wordsExit r
  plan_done version g e was is done =
      let planned = rw (made_scope T (byte_scope_of marks o.scheduler) o from told g, e) at was in
      let said = rw (is ∙ planned.answer) at done in
      rw (first_passed T (byte_scope_of marks o.scheduler) o from told g) (record { answer = said; plan = planned.buffer })

-- run and report
module _ (T : Tables) (marks : List ℕ) (scheduler scoping pattern : ℕ) {o : OperationNumbers} (asked : o ≡ pattern_numbers scheduler scoping pattern) {made : Result Scope MarkOutside}
    (from : ConvertedFrom (byte_scope_of marks scheduler) made) {given : Result Scope GivenRefusal} (told : GivenTold T made o given) where
  told_pattern : GivenTold T made (pattern_numbers scheduler scoping pattern) given
  told_pattern = rw asked at told

  pub pattern_refused : {x : GivenRefusal} → given ≡ Err x → given_first T marks (pattern_numbers scheduler scoping pattern) ≡ refused (given_refused x)
  pattern_refused = first_refused T (byte_scope_of marks scheduler) (pattern_numbers scheduler scoping pattern) from told_pattern

  pub pattern_passed : {s : Scope} → given ≡ Ok s → given_first T marks (pattern_numbers scheduler scoping pattern) ≡ passed
  pattern_passed = first_passed T (byte_scope_of marks scheduler) (pattern_numbers scheduler scoping pattern) from told_pattern

  pub pattern_scope : {s : Scope} → given ≡ Ok s → s ≡ scope_of marks scheduler
  pattern_scope = made_scope T (byte_scope_of marks scheduler) (pattern_numbers scheduler scoping pattern) from told_pattern

  pub run_refused :
      (value : ℕ)
      {x : GivenRefusal}
      {values buffer bufferExit words wordsExit : List ℕ}
      {r : ℕ}
      → given ≡ Err x
      → bufferExit ≡ replicate (length buffer) 0
      → Told (refusal_line (given_refused x)) words wordsExit r
      → RunCalled (names_set T marks scheduler scoping pattern) (run_call T marks scheduler scoping pattern value values) values buffer words values bufferExit wordsExit r
  unfolding run_answer plan_after values_after
  run_refused value e zeros done = rw (pattern_refused e) (record { answer = done; plan = zeros; list = refl })

  pub run_done :
      (value : ℕ)
      {values buffer valuesExit bufferExit words wordsExit : List ℕ}
      {mode : ScopingMode}
      {answer : Result RunAnswer RunRefusal}
      {row : Row}
      {r : ℕ}
      {s : Scope}
      → given ≡ Ok s
      → mode ≡ scoping_of scoping
      → Ran (planned_name (known s mode) (expr T pattern)) (run_outcome T s mode pattern value values) values buffer valuesExit bufferExit answer
      → row_line row ≡ ran_line (result_of answer)
      → Told (row_line row) words wordsExit r
      → RunCalled (names_set T marks scheduler scoping pattern) (run_call T marks scheduler scoping pattern value values) values buffer words valuesExit bufferExit wordsExit r
  run_done value g m ran is done =
      let was = rw (pattern_scope g, m) at ran in
      let said = rw (is ∙ ap ran_line was.answer) at done in
      rw (pattern_passed g) (record { answer = said; plan = was.plan; list = was.list })

  pub report_refused :
      {x : GivenRefusal}
      {list after words wordsExit : List ℕ}
      {r : ℕ}
      → given ≡ Err x
      → after ≡ replicate (length list) 0
      → Told (refusal_line (given_refused x)) words wordsExit r
      → ReportCalled T marks scheduler scoping pattern list words after wordsExit r
  report_refused e zeros done = let q = pattern_refused e in record { answer = rw q done; list = rw q zeros }

  pub report_done :
      {list after words wordsExit : List ℕ}
      {mode : ScopingMode}
      {answer : Result Unit ReportRefusal}
      {row : Row}
      {r : ℕ}
      {s : Scope}
      → given ≡ Ok s
      → mode ≡ scoping_of scoping
      → ReportedBy T s mode pattern list after answer
      → row_line row ≡ report_line answer
      → Told (row_line row) words wordsExit r
      → ReportCalled T marks scheduler scoping pattern list words after wordsExit r
  report_done g m was is done =
      let reported = rw (pattern_scope g, m) at was in
      let e = pattern_passed g in
      record { answer = rw e (rw (is ∙ reported.answer) at done); list = rw e reported.list }
