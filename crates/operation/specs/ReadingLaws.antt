-- What the careful reading changes, over all operations (request 10 of document 02).
use Rattle.std.specs.Prelude.{ℕ, ◌<◌, ◌≡◌, Bool, true, false, ◌||◌, eqb}
use Rattle.scope.specs.declared.Scope.{Scope}
use Rattle.table.specs.Tables.{Tables}
use Rattle.planner.specs.Operations.{Outcome, refused, planned}
use Rattle.checks.specs.declared.Reading.{Reading}
use Rattle.checks.specs.declared.Reading.TheVariants.{Present, Careful}
use Rattle.operation.specs.declared.Operation.{Operation}
use Rattle.operation.specs.declared.Operation.TheVariants.{Pattern, ColonEquals, Equals, SomeIn, Index, Parameter}
use Rattle.operation.specs.declared.numbers.OperationNumbers.{OperationNumbers}
use Rattle.operation.specs.Version.{version_outcome}
use Rattle.operation.specs.Numbers.{operation_of}

-- the same operation in a reading
unfoldable pub read_as : Reading → Operation → Operation
read_as reading (Pattern scoping root) = Pattern scoping root
read_as reading (ColonEquals left right other) = ColonEquals left right reading
read_as reading (Equals left right other) = Equals left right reading
read_as reading (SomeIn value collection key other) = SomeIn value collection key reading
read_as reading (Index root) = Index root
read_as reading (Parameter scoping root) = Parameter scoping root

-- the same numbers with another scoping
abbrev pub with_scoping : ℕ → OperationNumbers → OperationNumbers
with_scoping scoping o = record { number = o.number; scheduler = o.scheduler; scoping = scoping; first = o.first; second = o.second; key = o.key }

-- refused as 13 or 14
abbrev pub is_shape_refusal : Outcome → Bool
is_shape_refusal (refused r) = eqb r.number 13 || eqb r.number 14
is_shape_refusal (planned form side es) = false

pub record OperationReadings : Type 0 where
  -- scoping 1 and 2: the present reading
  pub present : (o : OperationNumbers) → o.scoping < 3 → operation_of o ≡ read_as Present (operation_of o)
  -- scoping 3 and 4: the operation of 1 and 2, read carefully
  pub third : (o : OperationNumbers) → operation_of (with_scoping 3 o) ≡ read_as Careful (operation_of (with_scoping 1 o))
  pub fourth : (o : OperationNumbers) → operation_of (with_scoping 4 o) ≡ read_as Careful (operation_of (with_scoping 2 o))
  -- what the present reading refuses as 13 or 14 the careful one refuses as 13 or 14, for every version; maybe as the other of the two, or at another place
  pub refuses : (T : Tables) (s : Scope) (version : ℕ) (operation : Operation) → is_shape_refusal (version_outcome T s version (read_as Present operation)) ≡ true
      → is_shape_refusal (version_outcome T s version (read_as Careful operation)) ≡ true
