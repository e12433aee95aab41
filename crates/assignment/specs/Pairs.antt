-- The pairs of an `=` whose two sides both bind (assignment.rs, flatten_assignment_pairs), in the order in which they are met.
use Rattle.std.specs.Prelude.{ℕ, Bool, true, false, cond, ◌&&◌, ◌||◌, List, [], ◌∷◌, ◌++◌, eqb, length}
use Rattle.std.proofs.Math.Option.{Option}
use Rattle.literal.specs.Literal.{Literal}
use Rattle.table.specs.Expr.{Expr, literal, name, wildcard, array, set, object, other, Exprs, none, item, Fields, done, field, node_of, count, count_fields}
use Rattle.base.specs.Refusal.{Refusal, array_size_mismatch, object_field_count_mismatch, object_key_not_found, incompatible_destructuring_patterns, require_or}
use Rattle.planner.specs.Plan.{DestructuringPlan, equality_expr, plan, after}
use Rattle.planner.specs.Layout.{Entry, below, top, entry, entries, introduces_binding, literal_key, no_fields}
use Rattle.planner.specs.Operations.{Outcome, refused, planned}
use Rattle.planner.specs.Held.{is_empty, held_under, value_order}

-- a value side, and the plan of the other side
pub record Pair : Type 0 where
  pub value : Expr
  pub pattern : DestructuringPlan

abbrev pub pair : Expr → DestructuringPlan → Pair
pair e p = record { value = e; pattern = p }

-- A pair's node is its value side, its one child the plan.
abbrev pub pair_entries : Pair → List Entry
pair_entries p = entry 7 (node_of p.value) 1 top ∷ entries p.pattern (below 0 1)

unfoldable pub pairs_entries : List Pair → List Entry
pairs_entries [] = []
pairs_entries (p ∷ ps) = pair_entries p ++ pairs_entries ps

pub data Flat : Type 0 where
  failed : Refusal → Flat
  -- the pairs, and the names planned once they are
  paired : List Pair → List ℕ → Flat

-- a test, its refusal, and the rest
abbrev pub require : Bool → Refusal → Flat → Flat
require = require_or failed

-- the first refusal ends the rest
abbrev pub prepended : List Pair → Flat → Flat
prepended ps (failed r) = failed r
prepended ps (paired qs newlyBound) = paired (ps ++ qs) newlyBound

abbrev pub further : Flat → (List ℕ → Flat) → Flat
further (failed r) f = failed r
further (paired ps newlyBound) f = prepended ps (f newlyBound)

-- form 4 with the pairs, or the refusal
abbrev pub flat_outcome : Flat → Outcome
flat_outcome (failed r) = refused r
flat_outcome (paired ps newlyBound) = planned 4 0 (pairs_entries ps)

-- what a side is taken apart as
pub data Shape : Type 0 where
  items : ℕ → Exprs → Shape
  fields : ℕ → Fields → Shape
  single : Shape

abbrev pub shape_of : Expr → Shape
shape_of (literal n l) = single
shape_of (name n x) = single
shape_of (wildcard n) = single
shape_of (array n es) = items n es
shape_of (set n es) = single
shape_of (object n fs) = fields n fs
shape_of (other n) = single

abbrev pub all_literal : Fields → Bool
all_literal fs = is_empty (value_order fs no_fields).computed

abbrev pub distinct_keys : Fields → ℕ
distinct_keys fs = length (value_order fs no_fields).literals

-- the last value under a key
abbrev pub last_under : Option Literal → Fields → Option Expr
last_under Option.none fs = Option.none
last_under (Option.some l) fs = held_under l (value_order fs no_fields).literals

abbrev pub has_partner : Option Expr → Bool
has_partner Option.none = false
has_partner (Option.some e) = true

-- the first right key that the left lacks, as a refusal
unfoldable pub check_keys : Fields → Fields → Flat → Flat
check_keys done ls o = o
check_keys (field k v rs) ls o = require (has_partner (last_under (literal_key k) ls)) (object_key_not_found (node_of k)) (check_keys rs ls o)

abbrev pub on_partner : Option Expr → List ℕ → (Expr → Flat) → Flat
on_partner Option.none newlyBound f = paired [] newlyBound
on_partner (Option.some e) newlyBound f = f e

module _ (unbound : ℕ → Bool) where
  -- does a side bind? One side's preview never sees the other's names.
  abbrev pub binds : Expr → List ℕ → Bool
  binds e newlyBound = introduces_binding (plan unbound e newlyBound)

  -- the two sides as one pair
  abbrev pub side : Bool → Bool → Expr → Expr → List ℕ → Flat
  side false false l r newlyBound = paired (pair r (equality_expr l) ∷ []) newlyBound
  side true false l r newlyBound = paired (pair r (plan unbound l newlyBound) ∷ []) (after unbound l newlyBound)
  side false true l r newlyBound = paired (pair l (plan unbound r newlyBound) ∷ []) (after unbound r newlyBound)
  side true true l r newlyBound = failed (incompatible_destructuring_patterns (node_of l))

  abbrev pub whole : Expr → Expr → List ℕ → Flat
  whole l r newlyBound = side (binds l newlyBound) (binds r newlyBound) l r newlyBound

  -- the two sides in parts, if one of them binds
  abbrev pub in_parts : Expr → Expr → List ℕ → Flat → Flat
  in_parts l r newlyBound o = cond (binds l newlyBound || binds r newlyBound) o (paired (pair r (equality_expr l) ∷ []) newlyBound)

  abbrev pub arrays : Shape → Exprs → Flat → (Exprs → Flat) → Flat
  arrays (items m ls) rs o f = require (eqb (count ls) (count rs)) (array_size_mismatch m (count ls) (count rs)) (f ls)
  arrays (fields m ls) rs o f = failed (incompatible_destructuring_patterns m)
  arrays single rs o f = o

  abbrev pub objects : Shape → Fields → Flat → (Fields → Flat) → Flat
  objects (items m ls) rs o f = failed (incompatible_destructuring_patterns m)
  objects (fields m ls) rs o f =
      cond (all_literal ls && all_literal rs)
      (require (eqb (distinct_keys ls) (count_fields rs)) (object_field_count_mismatch m (distinct_keys ls) (count_fields rs)) (check_keys rs ls (f ls)))
      o
  objects single rs o f = o

  -- of a right side, a left side, and the names planned before
  unfoldable mutual
    pub flatten : Expr → Expr → List ℕ → Flat
    flatten (literal n k) l newlyBound = whole l (literal n k) newlyBound
    flatten (name n x) l newlyBound = whole l (name n x) newlyBound
    flatten (wildcard n) l newlyBound = whole l (wildcard n) newlyBound
    flatten (array n rs) l newlyBound =
        in_parts l (array n rs) newlyBound (arrays (shape_of l) rs (whole l (array n rs) newlyBound) (λ ls. flatten_all rs ls newlyBound))
    flatten (set n es) l newlyBound = whole l (set n es) newlyBound
    flatten (object n rs) l newlyBound =
        in_parts l (object n rs) newlyBound (objects (shape_of l) rs (whole l (object n rs) newlyBound) (λ ls. flatten_fields rs ls newlyBound))
    flatten (other n) l newlyBound = whole l (other n) newlyBound

    pub flatten_all : Exprs → Exprs → List ℕ → Flat
    flatten_all none ls newlyBound = paired [] newlyBound
    flatten_all (item r rs) none newlyBound = paired [] newlyBound
    flatten_all (item r rs) (item l ls) newlyBound = further (flatten r l newlyBound) (λ later. flatten_all rs ls later)

    -- the right side's fields as written, each with the left's value under its key
    pub flatten_fields : Fields → Fields → List ℕ → Flat
    flatten_fields done ls newlyBound = paired [] newlyBound
    flatten_fields (field k r rs) ls newlyBound =
        further (on_partner (last_under (literal_key k) ls) newlyBound (λ l. flatten r l newlyBound)) (λ later. flatten_fields rs ls later)
