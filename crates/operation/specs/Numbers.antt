-- An operation as the six numbers of a sheet's line 2.
use Rattle.std.specs.Prelude.{ℕ, Bool, cond, ◌&&◌, ◌||◌, eqb, leb}
use Rattle.scope.specs.declared.ScopingMode.{ScopingMode}
use Rattle.scope.specs.declared.ScopingMode.TheVariants.{RespectParent, AllowShadowing}
use Rattle.checks.specs.declared.Reading.{Reading}
use Rattle.checks.specs.declared.Reading.TheVariants.{Present, Careful}
use Rattle.operation.specs.declared.Operation.{Operation}
use Rattle.operation.specs.declared.Operation.TheVariants.{Pattern, ColonEquals, Equals, SomeIn, Index, Parameter}
use Rattle.operation.specs.declared.numbers.OperationNumbers.{OperationNumbers}

-- operations 1 to 6, scheduler 0 or 1, scoping 1 to 4, whether or not the operation reads it
unfoldable pub are_listed : OperationNumbers → Bool
are_listed o = (leb 1 o.number && leb o.number 6) && (leb o.scheduler 1 && (leb 1 o.scoping && leb o.scoping 4))

-- 1 and 3 RespectParent, 2 and 4 AllowShadowing
abbrev pub scoping_of : ℕ → ScopingMode
scoping_of scoping = cond (eqb scoping 2 || eqb scoping 4) AllowShadowing RespectParent

-- 1 and 2 present, 3 and 4 careful (request 10 of document 02): `:=`, `=` and some-in read the scoping for this alone
abbrev pub reading_of : ℕ → Reading
reading_of scoping = cond (leb 3 scoping) Careful Present

-- 1 pattern, 2 `:=`, 3 `=`, 4 some-in, 5 index, 6 parameter
unfoldable pub operation_of : OperationNumbers → Operation
operation_of o =
    cond (eqb o.number 1) (Pattern (scoping_of o.scoping) o.first)
    (cond (eqb o.number 2) (ColonEquals o.first o.second (reading_of o.scoping))
    (cond (eqb o.number 3) (Equals o.first o.second (reading_of o.scoping))
    (cond (eqb o.number 4) (SomeIn o.first o.second o.key (reading_of o.scoping))
    (cond (eqb o.number 5) (Index o.first)
    (Parameter (scoping_of o.scoping) o.first)))))
