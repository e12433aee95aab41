-- The marks of a good layout are at most 31, so that their conversion is not refused.
use Prim.Native.Nat.{ℕ, zero, suc, ◌+◌, ◌-◌}
use mathlib.Core.Bool.{true, ◌&&◌}
use mathlib.Core.List.{List, [], ◌∷◌, ◌++◌}
use mathlib.Core.Path.{◌≡◌, refl, ap, ap₂, ◌∙◌}
use lib.Dec.{leb}
use lib.ListN.{length, replicate}
use Rattle.base.specs.Lists.{all_from, tabulate}
use Rattle.scope.specs.declared.ByteScope.{ByteScope}
use Rattle.scope.specs.Bytes.{small_marks, of_bytes, converted}
use Rattle.scope.specs.Bytes as Bytes
use Rattle.table.proofs.tests.Bools.{and_true}
use Rattle.operation.specs.declared.numbers.OperationNumbers.{OperationNumbers}
use Rattle.sheet.specs.declared.header.Counts.{Counts}
use Rattle.sheet.specs.Lines.{lines_ok, number_lines_ok}
use Rattle.sheet.specs.Sheet.{nodes_place, children_place, numbers_place, names_place, mark_word, mark_columns_ok, marks_of, operation_numbers, byte_scope_of, scope_of}
use Rattle.sheet.specs.code.Header.{tables_ok}
use Rattle.sheet.specs.code.Post.{scope_in}

small_append : (ms ns : List ℕ) → small_marks ms ≡ true → small_marks ns ≡ true → small_marks (ms ++ ns) ≡ true
unfolding small_marks
small_append [] ns a b = b
small_append (m ∷ ms) ns a b = let both = and_true (leb m 31) _ a in simp both.0 (small_append ms ns both.1 b)

small_zeros : (n : ℕ) → small_marks (replicate n 0) ≡ true
unfolding small_marks
small_zeros zero = refl
small_zeros (suc n) = small_zeros n

small_tabulated : (f : ℕ → ℕ) (i n : ℕ) → small_marks (tabulate f i n) ≡ all_from (λ x. leb (f x) 31) i n
unfolding small_marks tabulate all_from
small_tabulated f i zero = refl
small_tabulated f i (suc n) = ap (λ b. leb (f i) 31 && b) (small_tabulated f (i + 1) n)

module _ (sheet : List ℕ) (c : Counts) (good : tables_ok sheet c ≡ true) where
  good_marks : mark_columns_ok sheet (names_place c) c.names ≡ true
  good_marks =
      let e₁ = (and_true (lines_ok sheet nodes_place 5 c.nodes) _ good).1 in
      let e₂ = (and_true (lines_ok sheet (children_place c) 1 c.children) _ e₁).1 in
      let e₃ = (and_true (number_lines_ok sheet (numbers_place c) c.numbers) _ e₂).1 in
      (and_true (lines_ok sheet (names_place c) 3 c.names) _ e₃).1

  good_small : (o : OperationNumbers) (n : ℕ) → Bytes.marks_ok (byte_scope_of o (marks_of sheet c ++ replicate n 0)) ≡ true
  unfolding Bytes.marks_ok
  good_small o n = small_append (marks_of sheet c) (replicate n 0) (small_tabulated (mark_word sheet (names_place c)) 0 c.names ∙ good_marks) (small_zeros n)

  pub scope_is : {o : OperationNumbers} {marks : List ℕ} → o ≡ operation_numbers sheet → marks ≡ marks_of sheet c ++ replicate (128 - length (marks_of sheet c)) 0
      → scope_in o marks ≡ scope_of (operation_numbers sheet) (marks_of sheet c)
  scope_is e f = ap₂ scope_in e f ∙ accepted (byte_scope_of (operation_numbers sheet) (marks_of sheet c ++ replicate (128 - length (marks_of sheet c)) 0)) (good_small (operation_numbers sheet) (128 - length (marks_of sheet c)))
    where
      accepted : (b : ByteScope) → Bytes.marks_ok b ≡ true → converted b ≡ of_bytes b
      accepted b ok = simp ok
