-- Checks of items one after the other, and of an object's fields as the careful reading meets them.
use Rattle.std.specs.Prelude.{ℕ, ◌≡◌, Bool, true, false, cond, ◌&&◌, not, List, [], ◌∷◌, ◌++◌, ltb, take}
use Rattle.table.specs.Expr.{Expr}
use Rattle.planner.specs.Layout.{Slot}
use Rattle.planner.specs.Held.{is_empty}
use Rattle.checks.specs.declared.Reading.{Reading}
use Rattle.checks.specs.declared.Reading.TheVariants.{Present, Careful}
use Rattle.checks.specs.declared.LiteralStructureCheck.{LiteralStructureCheck}
use Rattle.checks.specs.declared.LiteralStructureCheck.TheVariants.{Match, Unknown, ArrayMismatch, ObjectMismatch}
use Rattle.checks.specs.declared.joining.FieldsSoFar.{FieldsSoFar}
use Rattle.checks.specs.Joining.{is_mismatch, joined}
use Rattle.checks.specs.Structure.{ValueField, written_checks, partners}

abbrev pub is_match : LiteralStructureCheck → Bool
is_match Match = true
is_match Unknown = false
is_match (ArrayMismatch value expected actual) = false
is_match (ObjectMismatch value pattern) = false

-- no later item changes it
abbrev pub is_settled : Reading → LiteralStructureCheck → Bool
is_settled Present c = not (is_match c)
is_settled Careful c = is_mismatch c

-- the partners of the pattern's fields, in their order
unfoldable pub met : List (Slot Expr) → List ValueField → List LiteralStructureCheck
met [] vs = []
met (s ∷ ss) vs = partners s vs ++ met ss vs

-- has each of them one?
unfoldable pub all_paired : List (Slot Expr) → List ValueField → Bool
all_paired [] vs = true
all_paired (s ∷ ss) vs = not (is_empty (partners s vs)) && all_paired ss vs

-- asked in the careful reading alone
abbrev pub each_paired : Reading → List (Slot Expr) → List ValueField → Bool
each_paired Present ss vs = true
each_paired Careful ss vs = all_paired ss vs

-- the fields' checks as the code meets them; in the careful reading those without a partner are asked for before
unfoldable pub meets : Reading → List (Slot Expr) → List ValueField → List LiteralStructureCheck
meets Present ss vs = written_checks ss vs
meets Careful ss vs = met ss vs

-- what the value's fields that are left make of those so far: against the pattern's before place `end`, and then what is known
abbrev pub finished : Reading → List (Slot Expr) → List ValueField → FieldsSoFar → LiteralStructureCheck
finished r ss left so_far = joined r (meets r (take so_far.end ss) left ++ (so_far.check ∷ []))

pub record NoFieldYet (paired : Bool) (literals total : ℕ) (r : FieldsSoFar) : Type 0 where
  pub check_is : r.check ≡ cond (ltb literals total) Unknown (cond paired Match Unknown)
  pub end_is : r.end ≡ literals

-- after a check that no later item changes: present, no field counts; careful, none from its place on
abbrev pub end_after : Reading → ℕ → ℕ
end_after Present place = 0
end_after Careful place = place

pub record FieldTaken (reading : Reading) (so_far : FieldsSoFar) (place : ℕ) (c : LiteralStructureCheck) (r : FieldsSoFar) : Type 0 where
  pub check_is : r.check ≡ joined reading (c ∷ (so_far.check ∷ []))
  pub end_is : r.end ≡ cond (is_settled reading c) (end_after reading place) so_far.end
