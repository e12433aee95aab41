-- The planning operations, by the case of the enum.
use Rattle.scope.specs.declared.Scope.{Scope}
use Rattle.table.specs.Tables.{Tables}
use Rattle.planner.specs.Operations.{Outcome, pattern_outcome, index_outcome, parameter_outcome}
use Rattle.assignment.specs.declared.AssignOp.TheVariants.{ColEq, Eq}
use Rattle.assignment.specs.Assignment.{assignment_outcome}
use Rattle.some_in.specs.SomeIn.{some_in_outcome}
use Rattle.operation.specs.declared.Operation.{Operation}
use Rattle.operation.specs.declared.Operation.TheVariants.{Pattern, ColonEquals, Equals, SomeIn, Index, Parameter}

unfoldable pub operation_outcome : Tables → Scope → Operation → Outcome
operation_outcome T s (Pattern scoping root) = pattern_outcome T s scoping root
operation_outcome T s (ColonEquals left right reading) = assignment_outcome T s ColEq left right reading
operation_outcome T s (Equals left right reading) = assignment_outcome T s Eq left right reading
operation_outcome T s (SomeIn value collection key reading) = some_in_outcome T s value collection key reading
operation_outcome T s (Index root) = index_outcome T s root
operation_outcome T s (Parameter scoping root) = parameter_outcome T s scoping root
