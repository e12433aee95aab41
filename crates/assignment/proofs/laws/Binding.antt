-- A binding side, held against the value side and delivered or refused, answer by answer.
use Rattle.std.proofs.Common.{Result, Err}
use Prim.Native.Nat.{ℕ}
use mathlib.Core.Path.{◌≡◌, refl, sym, subst, ◌∙◌}
use mathlib.Core.Bool.{Bool, true, false}
use mathlib.Core.List.{List}
use lib.ListN.{length, replicate}
use Rattle.table.specs.Tables.{Tables, kind_of}
use Rattle.table.specs.Decode.{expr}
use Rattle.planner.specs.declared.Plan.{Plan}
use Rattle.planner.specs.declared.PlanRefusal.{PlanRefusal}
use Rattle.planner.specs.declared.PlanRefusal.TheVariants.{ArrayLengthMismatch, ObjectLiteralKeysMismatch, IncompatibleDestructuringPatterns}
use Rattle.base.specs.Refusal.{incompatible_destructuring_patterns}
use Rattle.planner.specs.Layout.{Entry}
use Rattle.planner.specs.Operations.{planned, Answered}
use Rattle.planner.proofs.laws.Operations.{refuses}
use Rattle.checks.specs.declared.LiteralStructureCheck.{LiteralStructureCheck}
use Rattle.checks.specs.declared.LiteralStructureCheck.TheVariants.{Match, Unknown, ArrayMismatch, ObjectMismatch}
use Rattle.checks.specs.declared.Reading.{Reading}
use Rattle.checks.specs.Structure.{structure}
use Rattle.checks.specs.Refusals.{unless_mismatch}
use Rattle.checks.proofs.Refused.{passes_match, passes_unknown, refuses_array, refuses_object}
use Rattle.assignment.specs.Pairs.{shape_of}
use Rattle.planner.specs.code.Post.{GoodPair}
use Rattle.assignment.specs.Assignment.{opposed, bind_side}
use Rattle.assignment.specs.code.Binding.{opposed_kinds}
use Rattle.assignment.proofs.laws.Shapes.{opposed_is}

-- the binding side, way by way
module _ (T : Tables) (form binding value : ℕ) (reading : Reading) (es : List Entry) (g : GoodPair T binding value) {apart : Bool} (of : apart ≡ opposed_kinds (kind_of T.nodes binding) (kind_of T.nodes value)) where
  apart_is : opposed (shape_of (expr T binding)) (shape_of (expr T value)) ≡ apart
  apart_is = sym (of ∙ opposed_is T g)

  pub side_opposed : {before later : List ℕ} → apart ≡ true → later ≡ replicate (length before) 0 → Answered (bind_side T form binding value reading es) before later (Err (IncompatibleDestructuringPatterns binding))
  side_opposed e z = let p = apart_is ∙ e in simp p (refuses (incompatible_destructuring_patterns binding) refl z)

  module _ {before later : List ℕ} (together : apart ≡ false) {c : LiteralStructureCheck} (is : c ≡ structure reading (expr T value) (expr T binding)) where
    same_side_lem : {r : Result Plan PlanRefusal} → Answered (unless_mismatch c (planned form 0 es)) before later r → Answered (bind_side T form binding value reading es) before later r
    same_side_lem {r} a =
        let p = apart_is ∙ together in
        simp p (subst (λ (k : LiteralStructureCheck). Answered (unless_mismatch k (planned form 0 es)) before later r) is a)

    pub side_match : {r : Result Plan PlanRefusal} → c ≡ Match → Answered (planned form 0 es) before later r → Answered (bind_side T form binding value reading es) before later r
    side_match e a = same_side_lem (passes_match (planned form 0 es) e a)

    pub side_unknown : {r : Result Plan PlanRefusal} → c ≡ Unknown → Answered (planned form 0 es) before later r → Answered (bind_side T form binding value reading es) before later r
    side_unknown e a = same_side_lem (passes_unknown (planned form 0 es) e a)

    pub side_array : {n expected actual : ℕ} → c ≡ ArrayMismatch n expected actual → later ≡ replicate (length before) 0 → Answered (bind_side T form binding value reading es) before later (Err (ArrayLengthMismatch n expected actual))
    side_array e z = same_side_lem (refuses_array (planned form 0 es) e z)

    pub side_object : {n pattern : ℕ} → c ≡ ObjectMismatch n pattern → later ≡ replicate (length before) 0 → Answered (bind_side T form binding value reading es) before later (Err (ObjectLiteralKeysMismatch n pattern))
    side_object e z = same_side_lem (refuses_object (planned form 0 es) e z)
