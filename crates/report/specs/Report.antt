-- The names report of a pattern: for each name 1 bound in the plan; 2 not bound there but met through arrays and object values, or a computed key there; else 0.
use Rattle.std.specs.Prelude.{ℕ, ◌+◌, ◌≡◌, Bool, cond, false, Result, List, ◌∷◌, [], ◌++◌, leb, length, replicate}
use Rattle.scope.specs.declared.Scope.{Scope}
use Rattle.scope.specs.declared.ScopingMode.{ScopingMode}
use Rattle.table.specs.Tables.{Tables, first_word_of, name_count}
use Rattle.table.specs.Expr.{Expr}
use Rattle.base.specs.Lent.{MutSlices, old, new}
use Rattle.table.specs.Decode.{expr}
use Rattle.base.specs.Lists.{elem, tabulate}
use Rattle.base.specs.Refusal.{Refusal, list_too_short, require_or, Line, line, refusal_line}
use Rattle.table.specs.Check.{checked_or}
use Rattle.planner.specs.Layout.{top, entries, bound_names}
use Rattle.planner.specs.Names.{names_in}
use Rattle.planner.specs.Operations.{plan_of}
use Rattle.report.specs.declared.ReportRefusal.{ReportRefusal}
use Rattle.report.specs.Answer.{report_line}
use Rattle.report.specs.ComputedKeys.{names_as_keys}

-- the names met through arrays and object values
abbrev pub names_met : Expr → List ℕ
names_met e = names_in false false e

-- those, and the names that stand as computed keys there
abbrev pub names_reported : Expr → List ℕ
names_reported e = names_met e ++ names_as_keys e

abbrev pub reported_by : List ℕ → List ℕ → ℕ → ℕ
reported_by bound there x = cond (elem x bound) 1 (cond (elem x there) 2 0)

abbrev pub reported : Tables → Scope → ScopingMode → ℕ → ℕ → ℕ
reported T s mode root x = reported_by (bound_names (first_word_of T.nodes) (entries (plan_of T s mode root) top)) (names_reported (expr T root)) x

-- What a report comes to: a refusal, or the list filled in.
pub data ReportOutcome : Type 0 where
  refused : Refusal → ReportOutcome
  filled : ReportOutcome

abbrev pub require : Bool → Refusal → ReportOutcome → ReportOutcome
require = require_or refused

-- the refusals in their order
abbrev pub report_outcome : Tables → Scope → ℕ → List ℕ → ReportOutcome
report_outcome T s root list = checked_or refused T s (root ∷ []) (require (leb (name_count T) (length list)) list_too_short filled)

abbrev pub report_answer : ReportOutcome → Line
report_answer (refused a) = refusal_line a
report_answer filled = line 0 0 0 0

-- the list afterwards
abbrev pub report_list : ReportOutcome → Tables → Scope → ScopingMode → ℕ → List ℕ → List ℕ
report_list (refused a) T s mode root list = replicate (length list) 0
report_list filled T s mode root list = tabulate (λ i. reported T s mode root (i + 1)) 0 (length list)

pub record ReportedBy (T : Tables) (s : Scope) (mode : ScopingMode) (root : ℕ) (before after : List ℕ) (r : Result Unit ReportRefusal) : Type 0 where
  pub answer : report_line r ≡ report_answer (report_outcome T s root before)
  pub list : after ≡ report_list (report_outcome T s root before) T s mode root before

-- the same of a `&mut` list, at entry and at exit
abbrev pub ReportedIn : MutSlices → Tables → Scope → ScopingMode → ℕ → Result Unit ReportRefusal → Type 0
ReportedIn list T s mode root r = ReportedBy T s mode root (old list) (new list) r
