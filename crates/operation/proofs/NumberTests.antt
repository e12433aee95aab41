-- The numbers of an operation, as the code tests them.
use Prim.Native.Nat.{ℕ, ◌<◌, ◌≤◌}
use mathlib.Core.Bool.{false, and-false}
use mathlib.Core.Path.{◌≡◌}
use borrow.Author.Tests.{eq-eqb, ne_eqb, le-leb, lt-leb}
use lib.Dec.{leb}
use Rattle.scope.specs.declared.ScopingMode.{ScopingMode}
use Rattle.scope.specs.declared.ScopingMode.TheVariants.{RespectParent, AllowShadowing}
use Rattle.checks.specs.declared.Reading.{Reading}
use Rattle.checks.specs.declared.Reading.TheVariants.{Present, Careful}
use Rattle.operation.specs.declared.Operation.TheVariants.{Pattern, ColonEquals, Equals, SomeIn, Index, Parameter}
use Rattle.operation.specs.declared.numbers.OperationNumbers.{OperationNumbers}
use Rattle.operation.specs.Numbers.{are_listed, scoping_of, reading_of, operation_of}

-- listed
module _ (o : OperationNumbers) where
  pub operation_low : o.number < 1 → false ≡ are_listed o
  unfolding are_listed
  operation_low h = simp (lt-leb 1 o.number h)

  pub operation_high : 6 < o.number → false ≡ are_listed o
  unfolding are_listed
  operation_high h = simp (lt-leb o.number 6 h, and-false)

  pub scheduler_high : 1 < o.scheduler → false ≡ are_listed o
  unfolding are_listed
  scheduler_high h = simp (lt-leb o.scheduler 1 h, and-false)

  pub scoping_low : o.scoping < 1 → false ≡ are_listed o
  unfolding are_listed
  scoping_low h = simp (lt-leb 1 o.scoping h, and-false)

  pub scoping_high : 1 ≤ o.number → o.number ≤ 6 → o.scheduler ≤ 1 → 1 ≤ o.scoping → leb o.scoping 4 ≡ are_listed o
  unfolding are_listed
  scoping_high a b d e = simp (le-leb 1 o.number a, le-leb o.number 6 b, le-leb o.scheduler 1 d, le-leb 1 o.scoping e)

-- the scoping
module _ (scoping : ℕ) where
  pub scoping_shadows : scoping ≡ 2 → AllowShadowing ≡ scoping_of scoping
  scoping_shadows e = simp (eq-eqb scoping 2 e)

  pub scoping_shadows_too : (scoping ≡ 2 → ⊥) → scoping ≡ 4 → AllowShadowing ≡ scoping_of scoping
  scoping_shadows_too d e = simp (ne_eqb scoping 2 d, eq-eqb scoping 4 e)

  pub scoping_respects : (scoping ≡ 2 → ⊥) → (scoping ≡ 4 → ⊥) → RespectParent ≡ scoping_of scoping
  scoping_respects d e = simp (ne_eqb scoping 2 d, ne_eqb scoping 4 e)

  -- the reading
  pub reading_present : scoping < 3 → Present ≡ reading_of scoping
  reading_present h = simp (lt-leb 3 scoping h)

  pub reading_careful : 3 ≤ scoping → Careful ≡ reading_of scoping
  reading_careful h = simp (le-leb 3 scoping h)

-- the operation, by its number
module _ (o : OperationNumbers) where
  pub is_pattern : {mode : ScopingMode} → mode ≡ scoping_of o.scoping → o.number ≡ 1 → Pattern mode o.first ≡ operation_of o
  unfolding operation_of
  is_pattern m e = rw (eq-eqb o.number 1 e, ← m)

  pub is_colon_equals : {reading : Reading} → reading ≡ reading_of o.scoping → o.number ≡ 2 → ColonEquals o.first o.second reading ≡ operation_of o
  unfolding operation_of
  is_colon_equals r e = rw (e, ← r)

  pub is_equals : {reading : Reading} → reading ≡ reading_of o.scoping → o.number ≡ 3 → Equals o.first o.second reading ≡ operation_of o
  unfolding operation_of
  is_equals r e = rw (e, ← r)

  pub is_some_in : {reading : Reading} → reading ≡ reading_of o.scoping → o.number ≡ 4 → SomeIn o.first o.second o.key reading ≡ operation_of o
  unfolding operation_of
  is_some_in r e = rw (e, ← r)

  pub is_index : o.number ≡ 5 → Index o.first ≡ operation_of o
  unfolding operation_of
  is_index e = rw e

  pub is_parameter : {mode : ScopingMode} → mode ≡ scoping_of o.scoping
      → (o.number ≡ 1 → ⊥) → (o.number ≡ 2 → ⊥) → (o.number ≡ 3 → ⊥) → (o.number ≡ 4 → ⊥) → (o.number ≡ 5 → ⊥)
      → Parameter mode o.first ≡ operation_of o
  unfolding operation_of
  is_parameter m n1 n2 n3 n4 n5 =
      rw (ne_eqb o.number 1 n1, ne_eqb o.number 2 n2, ne_eqb o.number 3 n3, ne_eqb o.number 4 n4, ne_eqb o.number 5 n5, ← m)
