-- The outcome of an operation is that of its case.
use Rattle.std.proofs.Common.{Result}
use Prim.Native.Nat.{ℕ}
use mathlib.Core.Path.{◌≡◌, sym, subst}
use mathlib.Core.List.{List}
use Rattle.scope.specs.declared.Scope.{Scope}
use Rattle.table.specs.Tables.{Tables}
use Rattle.planner.specs.declared.Plan.{Plan}
use Rattle.planner.specs.declared.PlanRefusal.{PlanRefusal}
use Rattle.planner.specs.Operations.{Answered}
use Rattle.operation.specs.declared.Operation.{Operation}
use Rattle.operation.specs.Operation.{operation_outcome}

pub by_case : (T : Tables) (s : Scope) {before later : List ℕ} {r : Result Plan PlanRefusal} (operation case : Operation) → operation ≡ case
    → Answered (operation_outcome T s case) before later r → Answered (operation_outcome T s operation) before later r
by_case T s {before} {later} {r} operation case e a = subst (λ (o : Operation). Answered (operation_outcome T s o) before later r) (sym e) a
