-- The parts of an array or an object.
use Prim.Native.Nat.{ℕ, ◌+◌, ◌^◌, ◌≤◌, ◌<◌}
use mathlib.Core.List.{List}
use mathlib.Core.Path.{◌≡◌, ap, sym, ◌∙◌}
use native.Mathlib.Omega.{arith}
use Rattle.std.specs.Prelude.{Option}
use Rattle.std.proofs.Common.{Some, None}
use Rattle.common_example.specs.declared.graph.Shape.{Shape}
use Rattle.common_example.specs.declared.graph.Shape.TheVariants.{Items, Fields}
use Rattle.common_example.specs.declared.graph.Parts.{Parts}
use Rattle.common_example.specs.code.Graph.{kind_at, start_at, count_at, shape_kind, step_of, ShapeAsks, PartsOf, PartsAre}

-- 1. a shape
pub shape_deep : (shape : Shape) → 1 < shape_kind shape
shape_deep Items = omega arith
shape_deep Fields = omega arith

module _ {shape : Shape} where
  pub items_step : shape ≡ Items → step_of shape ≡ 4
  items_step e = ap (λ (s : Shape). step_of s) e

  pub fields_step : shape ≡ Fields → step_of shape ≡ 8
  fields_step e = ap (λ (s : Shape). step_of s) e

  pub items_keyless : shape ≡ Items → step_of shape ≡ 8 → ⊥
  items_keyless e f = let z = items_step e in omega (arith, z, f)

-- 2. what is told of a place's parts
module _ {heads links : List ℕ} {p : ℕ} (asks : ShapeAsks heads links p) where
  module _ {kind : ℕ} (k : kind ≡ kind_at heads p) (deep : 1 < kind) (n : kind ≡ 2 → ⊥) {start : ℕ} (s : start ≡ start_at heads p) where
    object_kind : kind_at heads p ≡ 3
    object_kind = let h = asks.linked.kinds p in omega (arith, h, k, deep, n)

    pub fields_start : start + 4 < 2 ^ 32
    fields_start = let h = asks.linked.objects p object_kind in omega (arith, h, s)

    pub told_fields : {count : ℕ} → count ≡ count_at heads p → PartsAre heads p (Some (record { shape = Fields; link = start + 4; count = count }))
    told_fields c = record { kind = object_kind; link = ap (λ (x : ℕ). x + 4) s; count = c }

module _ (heads : List ℕ) (p : ℕ) where
  pub told_none : {kind : ℕ} → kind ≡ kind_at heads p → kind ≤ 1 → PartsAre heads p None
  told_none k h = omega (arith, k, h)

  pub told_items : {kind : ℕ} → kind ≡ kind_at heads p → kind ≡ 2 → {start count : ℕ} → start ≡ start_at heads p → count ≡ count_at heads p → PartsAre heads p (Some (record { shape = Items; link = start; count = count }))
  told_items k e s c = record { kind = sym k ∙ e; link = s; count = c }

  module _ {r : Option Parts} (told : PartsAre heads p r) where
    pub no_parts : r ≡ None → kind_at heads p ≤ 1
    no_parts e = rw e at told

    pub some_parts : {parts : Parts} → r ≡ Some parts → PartsOf heads p parts
    some_parts e = rw e at told
