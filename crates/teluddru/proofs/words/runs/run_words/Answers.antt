use mathlib.Core.Path.{subst}
use Rattle.scope.specs.Scope.{known}
use Rattle.table.specs.Tables.{Tables}
use Rattle.table.specs.Decode.{expr}
use Rattle.run.specs.Operations.{run_outcome, planned_name, Ran}
use Rattle.teluddru.proofs.words.runs.run_words.Goals as goal

pub returns : goal.returns
returns c =
    let a = c.args in
    let told : Tables → Type 0 = λ T.
    Ran (planned_name (known a.scope a.scoping) (expr T a.pattern)) (run_outcome T a.scope a.scoping a.pattern a.value a.values.now)
    a.values.now a.plan.now c.run.new.values c.run.new.plan c.run.result in
    subst told c.among-tables.ensures c.run.ensures
