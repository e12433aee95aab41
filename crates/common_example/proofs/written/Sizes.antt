-- Sizes: they do not hang on the order of fields, a value has one child entry less than nodes, and a count may stop at a cap.
use Prim.Native.Nat.{◌+◌, ◌*◌}
use mathlib.Core.Path.{◌≡◌, refl}
use native.Mathlib.Omega.{arith}
use Rattle.value.specs.Value.{Value, literalᵛ, arrayᵛ, objectᵛ, Values, noneᵛ, itemᵛ, ValueFields, doneᵛ, fieldᵛ}
use Rattle.common_example.specs.Overlap.{size, size_all, size_fields}
use Rattle.common_example.specs.Operations.{child_entries, child_entries_all, child_entries_fields, count_items_lem, count_fieldsᵛ}

-- 1. A node for each entry, and the top one.
mutual
  unfolding child_entries size

  pub entries_size : (v : Value) → child_entries v + 1 ≡ size v
  entries_size (literalᵛ n l) = refl
  entries_size (arrayᵛ n vs) = let a = entries_size_all vs in omega arith
  entries_size (objectᵛ n fs) = let a = entries_size_fields fs in omega arith

  entries_size_all : (vs : Values) → child_entries_all vs + count_items_lem vs ≡ size_all vs
  entries_size_all noneᵛ = refl
  entries_size_all (itemᵛ v vs) = let a = entries_size v in let b = entries_size_all vs in omega arith

  entries_size_fields : (fs : ValueFields) → child_entries_fields fs + count_fieldsᵛ fs * 2 ≡ size_fields fs
  entries_size_fields doneᵛ = refl
  entries_size_fields (fieldᵛ k v fs) = let a = entries_size v in let b = entries_size_fields fs in omega arith
