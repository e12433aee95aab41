-- A names report's answer from its line.
use mathlib.Core.Path.{◌≡◌, refl, sym, ap, ◌∙◌}
use mathlib.Core.Bool.{cond}
use lib.Dec.{eqb}
use Rattle.table.specs.declared.TableRefusal.TheVariants.{OverLimit, BreaksRules, TooDeep, EqualNames}
use Rattle.base.specs.Refusal.{Line}
use Rattle.std.proofs.Common.{Result, Ok, Err}
use Rattle.report.specs.declared.ReportRefusal.{ReportRefusal}
use Rattle.report.specs.declared.ReportRefusal.TheVariants.{TableRefused, RootOutside, ListTooShort}
use Rattle.report.specs.Answer.{report_line, ReportLineLaws}

abbrev pub answer_of : Line → Result Unit ReportRefusal
answer_of l =
    cond (eqb l.number 1) (Err (TableRefused OverLimit))
    (cond (eqb l.number 2) (Err (TableRefused BreaksRules))
    (cond (eqb l.number 3) (Err (TableRefused TooDeep))
    (cond (eqb l.number 4) (Err (TableRefused EqualNames))
    (cond (eqb l.number 5) (Err RootOutside)
    (cond (eqb l.number 20) (Err ListTooShort) (Ok tt))))))

back : (r : Result Unit ReportRefusal) → answer_of (report_line r) ≡ r
back (Ok tt) = refl
back (Err (TableRefused OverLimit)) = refl
back (Err (TableRefused BreaksRules)) = refl
back (Err (TableRefused TooDeep)) = refl
back (Err (TableRefused EqualNames)) = refl
back (Err RootOutside) = refl
back (Err ListTooShort) = refl

pub settled : (r q : Result Unit ReportRefusal) → report_line r ≡ report_line q → r ≡ q
settled r q e = sym (back r) ∙ (ap answer_of e ∙ back q)

pub report_line_laws : ReportLineLaws
report_line_laws = record { settled = settled }
