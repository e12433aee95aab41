-- Refusals that end an operation before its plan, answer by answer.
use Rattle.std.proofs.Common.{Result, Err}
use Prim.Native.Nat.{ℕ}
use mathlib.Core.Path.{◌≡◌, refl}
use mathlib.Core.List.{List}
use borrow.Author.Tests.{ne_eqb}
use lib.ListN.{length, replicate}
use Rattle.planner.specs.declared.Plan.{Plan}
use Rattle.planner.specs.declared.PlanRefusal.{PlanRefusal}
use Rattle.planner.specs.declared.PlanRefusal.TheVariants.{ArrayLengthMismatch, ObjectLiteralKeysMismatch, VariableAlreadyDefined}
use Rattle.base.specs.Refusal.{array_length_mismatch, object_literal_keys_mismatch, variable_already_defined}
use Rattle.planner.specs.Operations.{Outcome, unless_defined, Answered}
use Rattle.planner.proofs.laws.Operations.{refuses}
use Rattle.checks.specs.declared.LiteralStructureCheck.{LiteralStructureCheck}
use Rattle.checks.specs.declared.LiteralStructureCheck.TheVariants.{Match, Unknown, ArrayMismatch, ObjectMismatch}
use Rattle.checks.specs.Refusals.{unless_mismatch}

module _ (o : Outcome) {c : LiteralStructureCheck} {before later : List ℕ} where
  pub passes_match : {r : Result Plan PlanRefusal} → c ≡ Match → Answered o before later r → Answered (unless_mismatch c o) before later r
  passes_match e a = simp e a

  pub passes_unknown : {r : Result Plan PlanRefusal} → c ≡ Unknown → Answered o before later r → Answered (unless_mismatch c o) before later r
  passes_unknown e a = simp e a

  pub refuses_array : {n expected actual : ℕ} → c ≡ ArrayMismatch n expected actual → later ≡ replicate (length before) 0 → Answered (unless_mismatch c o) before later (Err (ArrayLengthMismatch n expected actual))
  refuses_array {n} {expected} {actual} e z = simp e (refuses (array_length_mismatch n expected actual) refl z)

  pub refuses_object : {n pattern : ℕ} → c ≡ ObjectMismatch n pattern → later ≡ replicate (length before) 0 → Answered (unless_mismatch c o) before later (Err (ObjectLiteralKeysMismatch n pattern))
  refuses_object {n} {pattern} e z = simp e (refuses (object_literal_keys_mismatch n pattern) refl z)

module _ (o : Outcome) {name : ℕ} {before later : List ℕ} where
  pub passes_undefined : {r : Result Plan PlanRefusal} → name ≡ 0 → Answered o before later r → Answered (unless_defined name o) before later r
  passes_undefined e a = simp e a

  pub refuses_defined : (name ≡ 0 → ⊥) → later ≡ replicate (length before) 0 → Answered (unless_defined name o) before later (Err (VariableAlreadyDefined name))
  refuses_defined d z = let q = ne_eqb name 0 d in simp q (refuses (variable_already_defined name) refl z)
