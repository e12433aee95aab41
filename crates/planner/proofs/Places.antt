-- The place of a plan shows in its first entry alone; the places of entries in some plans.
use Prim.Native.Nat.{ℕ}
use mathlib.Core.Path.{◌≡◌, refl}
use mathlib.Core.List.{List, [], ◌∷◌, map}
use lib.ListN.{length}
use Rattle.literal.specs.Literal.{string}
use Rattle.literal.specs.Order.{key_order, bytes_order}
use Rattle.table.specs.Expr.{literal, name}
use Rattle.planner.specs.Plan.{DestructuringPlan, var, ignore, equality_expr, equality_value, array_plan, object_plan, item_plan, no_plan, field_plan, no_field}
use Rattle.planner.specs.Layout.{Entry, Place, below, top, insert, concat, entries, words, binds_any, introduces_binding}

-- so a plan introduces a binding wherever it stands
pub binds_anywhere : (p : DestructuringPlan) (place : Place) → binds_any (entries p place) ≡ introduces_binding p
unfolding entries binds_any
binds_anywhere (var n x) place = refl
binds_anywhere (ignore n) place = refl
binds_anywhere (equality_expr e) place = refl
binds_anywhere (equality_value n l) place = refl
binds_anywhere (array_plan n ps) place = refl
binds_anywhere (object_plan n fs) place = refl

-- and has as many entries
pub long_anywhere : (p : DestructuringPlan) (place : Place) → length (entries p place) ≡ length (entries p top)
unfolding entries
long_anywhere (var n x) place = refl
long_anywhere (ignore n) place = refl
long_anywhere (equality_expr e) place = refl
long_anywhere (equality_value n l) place = refl
long_anywhere (array_plan n ps) place = refl
long_anywhere (object_plan n fs) place = refl

abbrev placed : Entry → List ℕ
placed e = e.node ∷ e.key ∷ e.position ∷ []

-- {"b": x, "a": x}: a stands first, at position 2
sorted : map placed (entries (object_plan 5 (field_plan (literal 1 (string (98 ∷ []))) (var 2 1) (field_plan (literal 3 (string (97 ∷ []))) (equality_expr (name 4 1)) no_field))) top)
    ≡ (5 ∷ 0 ∷ 0 ∷ []) ∷ (4 ∷ 3 ∷ 2 ∷ []) ∷ (2 ∷ 1 ∷ 1 ∷ []) ∷ []
unfolding entries insert concat key_order bytes_order
sorted = refl

-- {"a": x, "a": y, k: z}: the first field is lost, and counted
lost : map placed (entries (object_plan 7 (field_plan (literal 1 (string (97 ∷ []))) (var 2 1) (field_plan (literal 3 (string (97 ∷ []))) (var 4 2) (field_plan (name 5 4) (var 6 3) no_field)))) top)
    ≡ (7 ∷ 0 ∷ 0 ∷ []) ∷ (4 ∷ 3 ∷ 2 ∷ []) ∷ (6 ∷ 5 ∷ 3 ∷ []) ∷ []
unfolding entries insert concat key_order bytes_order
lost = refl

-- [x, y] below a pair
items : words (entries (array_plan 3 (item_plan (var 1 1) (item_plan (var 2 2) no_plan))) (below 0 1)) ≡ 5 ∷ 3 ∷ 2 ∷ 0 ∷ 1 ∷ 1 ∷ 1 ∷ 0 ∷ 0 ∷ 1 ∷ 1 ∷ 2 ∷ 0 ∷ 0 ∷ 2 ∷ []
unfolding entries words
items = refl
