-- The pairs of nodes of a table, and how many entries they can have.
use Rattle.std.specs.Prelude.{ℕ, ◌*◌, ◌≡◌, Bool, List, [], ◌∷◌, eqb, length, Err}
use Rattle.table.specs.Tables.{Tables, first_word_of, count_of}
use Rattle.table.specs.Decode.{expr, items, fields, fields_of}
use Rattle.table.specs.Expr.{parts, parts_all, parts_fields}
use Rattle.planner.specs.declared.PlanRefusal.{PlanRefusal}
use Rattle.base.specs.Refusal.{Refusal, array_size_mismatch, object_field_count_mismatch, refusal_line}
use Rattle.planner.specs.Answer.{line_of}
use Rattle.planner.specs.Plan.{plan, after}
use Rattle.assignment.specs.Pairs.{pair, Flat, failed, require, paired, distinct_keys, check_keys, flatten, flatten_all, flatten_fields}

-- a refusal, and an answer that says it
pub record FailedAs (o : Flat) (a : PlanRefusal) : Type 0 where
  pub refusal : Refusal
  pub is : o ≡ failed refusal
  pub line : line_of (Err a) ≡ refusal_line refusal

-- two nodes; the items of two arrays; the fields of two objects
unfoldable pub nodes_flat : Tables → ℕ → ℕ → (ℕ → Bool) → List ℕ → Flat
nodes_flat T left right unbound seen = flatten unbound (expr T right) (expr T left) seen

unfoldable pub items_flat : Tables → ℕ → ℕ → ℕ → (ℕ → Bool) → List ℕ → Flat
items_flat T left right k unbound seen = flatten_all unbound (items (expr T) T.children right k) (items (expr T) T.children left k) seen

unfoldable pub fields_flat : Tables → ℕ → ℕ → ℕ → (ℕ → Bool) → List ℕ → Flat
fields_flat T left at k unbound seen = flatten_fields unbound (fields (expr T) T.children at k) (fields_of T left) seen

-- one side bound to the other; two arrays; two objects by their keys
unfoldable pub side_flat : Tables → ℕ → ℕ → (ℕ → Bool) → List ℕ → Flat
side_flat T pattern value unbound seen = paired (pair (expr T value) (plan unbound (expr T pattern) seen) ∷ []) (after unbound (expr T pattern) seen)

unfoldable pub arrays_flat : Tables → ℕ → ℕ → (ℕ → Bool) → List ℕ → Flat
arrays_flat T left right unbound seen =
    require (eqb (count_of T.nodes left) (count_of T.nodes right)) (array_size_mismatch left (count_of T.nodes left) (count_of T.nodes right))
    (items_flat T (first_word_of T.nodes left) (first_word_of T.nodes right) (count_of T.nodes left) unbound seen)

unfoldable pub objects_flat : Tables → ℕ → ℕ → (ℕ → Bool) → List ℕ → Flat
objects_flat T left right unbound seen =
    require (eqb (distinct_keys (fields_of T left)) (count_of T.nodes right)) (object_field_count_mismatch left (distinct_keys (fields_of T left)) (count_of T.nodes right))
    (check_keys (fields_of T right) (fields_of T left) (fields_flat T left (first_word_of T.nodes right) (count_of T.nodes right) unbound seen))

-- each pair writes at most 513 entries, and each right node is met at most once
unfoldable pub most_of : Tables → ℕ → ℕ
most_of T right = 513 * length (parts (expr T right))

unfoldable pub most_items : Tables → ℕ → ℕ → ℕ
most_items T right k = 513 * length (parts_all (items (expr T) T.children right k))

unfoldable pub most_fields : Tables → ℕ → ℕ → ℕ
most_fields T at k = 513 * length (parts_fields (fields (expr T) T.children at k))
