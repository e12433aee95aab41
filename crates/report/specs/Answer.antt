-- What a names report answers, as document 01's four numbers; 0 is no refusal.
use Rattle.std.specs.Prelude.{◌≡◌, Result, Ok, Err}
use Rattle.table.specs.Check.{table_refused}
use Rattle.base.specs.Refusal.{Refusal, root_outside, list_too_short, Line, line, refusal_line}
use Rattle.report.specs.declared.ReportRefusal.{ReportRefusal}
use Rattle.report.specs.declared.ReportRefusal.TheVariants.{TableRefused, RootOutside, ListTooShort}

abbrev pub report_refusal : ReportRefusal → Refusal
report_refusal (TableRefused a) = table_refused a
report_refusal RootOutside = root_outside
report_refusal ListTooShort = list_too_short

abbrev pub report_line : Result Unit ReportRefusal → Line
report_line (Ok done) = line 0 0 0 0
report_line (Err r) = refusal_line (report_refusal r)

-- the numbers settle the answer
pub record ReportLineLaws : Type 0 where
  pub settled : (r q : Result Unit ReportRefusal) → report_line r ≡ report_line q → r ≡ q
