-- An answer's numbers.
use Prim.Native.Nat.{ℕ}
use mathlib.Core.List.{List}
use mathlib.Core.Path.{◌≡◌, ap, ◌∙◌}
use native.Mathlib.Omega.{arith}
use Rattle.std.proofs.Common.{Result, Err}
use Rattle.base.specs.Refusal.{Line, line, refusal_line}
use Rattle.table.specs.declared.TableRefusal.{TableRefusal}
use Rattle.table.specs.Check.{table_refused}
use Rattle.planner.specs.Short.{ShortLine}
use Rattle.planner.proofs.laws.ShortOutcomes.{short}
use Rattle.run.specs.declared.RunAnswer.{RunAnswer}
use Rattle.run.specs.declared.RunRefusal.{RunRefusal}
use Rattle.run.specs.declared.RunRefusal.TheVariants as Run
use Rattle.run.specs.Answer.{run_refusal, result_of}
use Rattle.report.specs.declared.ReportRefusal.{ReportRefusal}
use Rattle.report.specs.declared.ReportRefusal.TheVariants as Report
use Rattle.report.specs.Answer.{report_line}
use Rattle.operation.specs.Rows.{Told}
use Rattle.operation.proofs.RowLaws.{table_row}
use Rattle.c_calls.specs.declared.given.GivenRefusal.{GivenRefusal}
use Rattle.c_calls.specs.declared.given.GivenRefusal.TheVariants.{LayoutBroken, NotABody, OverLimit, BreaksRules}
use Rattle.c_calls.specs.Given.{given_refused}
use Rattle.c_calls.specs.Calls.{ran_line}

pub run_is : (answer : Result RunAnswer RunRefusal) {a : Result RunAnswer RunRefusal} {l : Line} → answer ≡ a → l ≡ ran_line (result_of a) → l ≡ ran_line (result_of answer)
run_is answer e is = rw e is

pub run_refusal_is : (refused : RunRefusal) {r : RunRefusal} {l : Line} → refused ≡ r → l ≡ refusal_line (run_refusal r) → l ≡ refusal_line (run_refusal refused)
run_refusal_is refused e is = rw e is

pub run_table : (refused : RunRefusal) {t : TableRefusal} {l : Line} {n : ℕ} → refused ≡ Run.TableRefused t → n ≡ (table_refused t).number → l ≡ line n 0 0 0 → l ≡ refusal_line (run_refusal refused)
run_table refused {t} e n is = rw e (table_row t n is)

pub report_is : (answer : Result Unit ReportRefusal) {a : Result Unit ReportRefusal} {l : Line} → answer ≡ a → l ≡ report_line a → l ≡ report_line answer
report_is answer e is = rw e is

pub report_table : (answer : Result Unit ReportRefusal) {t : TableRefusal} {l : Line} {n : ℕ} → answer ≡ Err (Report.TableRefused t) → n ≡ (table_refused t).number → l ≡ line n 0 0 0 → l ≡ report_line answer
report_table answer {t} e n is = rw e (table_row t n is)

-- a refusal before an operation: a number, no place and no counts
pub given_row : (r : GivenRefusal) {n : ℕ} {l : Line} → n ≡ (given_refused r).number → l ≡ line n 0 0 0 → l ≡ refusal_line (given_refused r)
given_row LayoutBroken n is = is ∙ ap (λ (m : ℕ). line m 0 0 0) n
given_row NotABody n is = is ∙ ap (λ (m : ℕ). line m 0 0 0) n
given_row OverLimit n is = is ∙ ap (λ (m : ℕ). line m 0 0 0) n
given_row BreaksRules n is = is ∙ ap (λ (m : ℕ). line m 0 0 0) n

given_short : (r : GivenRefusal) → ShortLine (refusal_line (given_refused r))
given_short LayoutBroken = short (omega arith) (omega arith) (omega arith) (omega arith)
given_short NotABody = short (omega arith) (omega arith) (omega arith) (omega arith)
given_short OverLimit = short (omega arith) (omega arith) (omega arith) (omega arith)
given_short BreaksRules = short (omega arith) (omega arith) (omega arith) (omega arith)

pub given_fits : (r : GivenRefusal) {l : Line} → l ≡ refusal_line (given_refused r) → ShortLine l
given_fits r e = rw e (given_short r)

pub given_told : (r : GivenRefusal) {l : Line} {before after : List ℕ} {n : ℕ} → l ≡ refusal_line (given_refused r) → Told l before after n → Told (refusal_line (given_refused r)) before after n
given_told r e done = rw e at done
