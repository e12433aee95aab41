-- The calls over tables: what is refused first, the answer's numbers in the lent words, and every other lent list afterwards.
use Rattle.std.specs.Prelude.{ℕ, Bool, ◌≡◌, List}
use Rattle.base.specs.Lent.{Slices, MutSlices, old, new}
use Rattle.base.specs.Refusal.{Line, line, refusal_line, tested_or}
use Rattle.scope.specs.Scope.{known}
use Rattle.table.specs.Tables.{Tables}
use Rattle.table.specs.Decode.{expr}
use Rattle.run.specs.Answer.{RunResult, turned_back_lem, a_match, no_match_lem}
use Rattle.run.specs.Operations as Run
use Rattle.run.specs.Operations.{RunOutcome, run_outcome, run_answer, plan_after, planned_name, values_after}
use Rattle.report.specs.Report as Report
use Rattle.report.specs.Report.{ReportOutcome, report_outcome, report_answer, report_list}
use Rattle.planner.specs.Operations as Plan
use Rattle.planner.specs.Operations.{Outcome, answered, written}
use Rattle.operation.specs.declared.numbers.OperationNumbers.{OperationNumbers}
use Rattle.operation.specs.Numbers.{scoping_of, operation_of}
use Rattle.operation.specs.Version.{version_outcome}
use Rattle.operation.specs.Rows.{Told}
use Rattle.c_calls.specs.Given.{scope_of, given_numbers, pattern_numbers, given_first}

-- Planning: what is given beside the tables is tested first (`given_first`).
abbrev pub plan_call : Tables → List ℕ → OperationNumbers → ℕ → Outcome
plan_call T marks o version = Plan.table_first (given_first T marks o) (version_outcome T (scope_of marks o.scheduler) version (operation_of o))

pub record PlanCalled (o : Outcome) (buffer words bufferExit wordsExit : List ℕ) (r : ℕ) : Type 0 where
  pub answer : Told (answered o buffer) words wordsExit r
  pub plan : bufferExit ≡ written o buffer

-- the same of what is lent, at entry and at exit
abbrev pub PlanCalledIn : MutSlices → MutSlices → Tables → Slices → ℕ → ℕ → ℕ → ℕ → ℕ → ℕ → ℕ → ℕ → Type 0
PlanCalledIn plan answer T marks operation scheduler scoping first second key version r =
    PlanCalled (plan_call T marks.entry.now (given_numbers operation scheduler scoping first second key) version) (old plan) (old answer) (new plan) (new answer) r

-- Run: the same first.
abbrev pub run_call : Tables → List ℕ → ℕ → ℕ → ℕ → ℕ → List ℕ → RunOutcome
run_call T marks scheduler scoping pattern value values =
    Run.table_first (given_first T marks (pattern_numbers scheduler scoping pattern)) (run_outcome T (scope_of marks scheduler) (scoping_of scoping) pattern value values)

-- Document 01 has no number for no match.
abbrev pub ran_line : RunResult → Line
ran_line (turned_back_lem r) = refusal_line r
ran_line a_match = line 0 0 0 0
ran_line no_match_lem = line 100 0 0 0

-- the names that a match sets
abbrev pub names_set : Tables → List ℕ → ℕ → ℕ → ℕ → ℕ → Bool
names_set T marks scheduler scoping pattern = planned_name (known (scope_of marks scheduler) (scoping_of scoping)) (expr T pattern)

pub record RunCalled (names : ℕ → Bool) (o : RunOutcome) (values buffer words valuesExit bufferExit wordsExit : List ℕ) (r : ℕ) : Type 0 where
  pub answer : Told (ran_line (run_answer o buffer)) words wordsExit r
  pub plan : bufferExit ≡ plan_after o buffer
  pub list : valuesExit ≡ values_after names o buffer values

abbrev pub RunCalledIn : MutSlices → MutSlices → MutSlices → Tables → Slices → ℕ → ℕ → ℕ → ℕ → ℕ → Type 0
RunCalledIn values plan answer T marks scheduler scoping pattern value r =
    RunCalled (names_set T marks.entry.now scheduler scoping pattern) (run_call T marks.entry.now scheduler scoping pattern value (old values))
    (old values) (old plan) (old answer) (new values) (new plan) (new answer) r

-- The names report: the same first.
abbrev pub report_call : Tables → List ℕ → ℕ → ℕ → ℕ → List ℕ → ReportOutcome
report_call T marks scheduler scoping pattern list =
    tested_or Report.refused (given_first T marks (pattern_numbers scheduler scoping pattern)) (report_outcome T (scope_of marks scheduler) pattern list)

-- the list afterwards
abbrev pub list_after : Tables → List ℕ → ℕ → ℕ → ℕ → List ℕ → List ℕ
list_after T marks scheduler scoping pattern list =
    report_list (report_call T marks scheduler scoping pattern list) T (scope_of marks scheduler) (scoping_of scoping) pattern list

pub record ReportCalled (T : Tables) (marks : List ℕ) (scheduler scoping pattern : ℕ) (before words after wordsExit : List ℕ) (r : ℕ) : Type 0 where
  pub answer : Told (report_answer (report_call T marks scheduler scoping pattern before)) words wordsExit r
  pub list : after ≡ list_after T marks scheduler scoping pattern before

abbrev pub ReportCalledIn : MutSlices → MutSlices → Tables → Slices → ℕ → ℕ → ℕ → ℕ → Type 0
ReportCalledIn list answer T marks scheduler scoping pattern r =
    ReportCalled T marks.entry.now scheduler scoping pattern (old list) (old answer) (new list) (new answer) r
