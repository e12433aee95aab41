-- Every number of the pairs of two small trees has at most six digits: each pair has at most 513 entries, and each right node is met at most once.
use Prim.Native.Nat.{ℕ, ◌+◌, ◌*◌, ◌≤◌}
use mathlib.Core.Bool.{Bool, true, false, cond, ◌&&◌, ◌||◌}
use mathlib.Core.List.{List, [], ◌∷◌, ◌++◌, map}
use mathlib.Core.Option.{Option}
use native.Mathlib.Omega.{arith}
use lib.Dec.{eqb}
use lib.ListN.{length, length-append, length-map}
use Rattle.literal.specs.Literal.{Literal}
use Rattle.table.specs.Expr.{Expr, literal, name, wildcard, array, set, object, other, Exprs, none, item, Fields, done, field, node_of, count, count_fields, parts, parts_all, parts_fields}
use Rattle.planner.specs.Plan.{DestructuringPlan, equality_expr, plan, after}
use Rattle.planner.specs.Layout.{below, top, entries, literal_key, FieldOrder, no_fields, add_field, held_in, in_order}
use Rattle.planner.specs.Held.{value_order}
use Rattle.base.specs.Refusal.{object_key_not_found, array_size_mismatch, object_field_count_mismatch}
use Rattle.planner.specs.Short.{ShortEntry, ShortRefusal, Every, ShortOutcome}
use Rattle.planner.proofs.laws.Sizes.{add_length}
use Rattle.planner.proofs.laws.ShortPlans.{Small, SmallTree, small_left, small_right, small_head, small_tail, node_low, count_few, fields_few, every_append, every_left, Held, held_under_lem, values_small, LowPlace, low_top, short_entry, plan_few, plan_short}
use Rattle.planner.proofs.laws.ShortOutcomes.{short, refusal_short, planned_short}
use Rattle.assignment.proofs.flatten.FlatLoops.{entries_append}
use Rattle.assignment.specs.Pairs.{Pair, pair, pairs_entries, Flat, failed, paired, require, prepended, further, flat_outcome, shape_of, all_literal, distinct_keys, last_under, has_partner, check_keys, on_partner, binds, side, whole, in_parts, arrays, objects, flatten, flatten_all, flatten_fields}

-- at most `most` entries
abbrev ShortFlat : ℕ → Flat → Type 0
ShortFlat most (failed r) = ShortRefusal r
ShortFlat most (paired ps seen) = (length (pairs_entries ps) ≤ most) × Every ShortEntry (pairs_entries ps)

more_short : (m k : ℕ) (f : Flat) → m ≤ k → ShortFlat m f → ShortFlat k f
more_short m k (failed r) le p = p
more_short m k (paired ps seen) le p = let n = p.0 in (omega arith, p.1)

before_short : (m k : ℕ) (ps : List Pair) (f : Flat) → length (pairs_entries ps) ≤ m → Every ShortEntry (pairs_entries ps) → ShortFlat k f → ShortFlat (m + k) (prepended ps f)
before_short m k ps (failed r) le p q = q
before_short m k ps (paired qs seen) le p q =
    let a = length-append (pairs_entries ps) (pairs_entries qs) in
    let n = q.0 in
    rw (entries_append ps qs) (omega arith, every_append ShortEntry (pairs_entries ps) (pairs_entries qs) p q.1)

further_short : (m k : ℕ) (f : Flat) (g : List ℕ → Flat) → ShortFlat m f → ((seen : List ℕ) → ShortFlat k (g seen)) → ShortFlat (m + k) (further f g)
further_short m k (failed r) g p q = p
further_short m k (paired ps seen) g p q = before_short m k ps (g seen) p.0 p.1 (q seen)

-- one pair
low_pair : LowPlace (below 0 1)
low_pair = record { low = omega arith; near = omega arith }

pair_short : (v : Expr) (p : DestructuringPlan) (seen : List ℕ) → node_of v ≤ 512 → length (entries p (below 0 1)) ≤ 512 → Every ShortEntry (entries p (below 0 1)) → ShortFlat 513 (paired (pair v p ∷ []) seen)
unfolding pairs_entries
pair_short v p seen low few each =
    let a = length-append (entries p (below 0 1)) [] in
    (omega arith, (short_entry 7 (node_of v) 1 top low_top (omega arith) low (omega arith), every_append ShortEntry (entries p (below 0 1)) [] each tt))

compared_short : (l r : Expr) (seen : List ℕ) → SmallTree l → SmallTree r → ShortFlat 513 (paired (pair r (equality_expr l) ∷ []) seen)
unfolding entries
compared_short l r seen s t =
    let a = node_low l s in
    pair_short r (equality_expr l) seen (node_low r t) (omega arith) (short_entry 3 (node_of l) 0 (below 0 1) low_pair (omega arith) a (omega arith), tt)

-- the keys of an object
values_count : (fs : Fields) (o : FieldOrder Expr) → length (in_order (value_order fs o)) ≤ count_fields fs + length (in_order o)
unfolding value_order count_fields
values_count done o = omega arith
values_count (field k v fs) o =
    let h = values_count fs (add_field (literal_key k) v o) in
    let a = add_length (literal_key k) v o in
    omega arith

keys_few : (fs : Fields) → Small (parts_fields fs) → distinct_keys fs ≤ 512
keys_few fs s =
    let h = values_count fs no_fields in
    let a = length-append (map held_in (value_order fs no_fields).literals) (value_order fs no_fields).computed in
    let b = length-map (value_order fs no_fields).literals held_in in
    let c = fields_few fs in
    let d = s.few in
    omega arith

last_small : (k : Option Literal) (fs : Fields) → Small (parts_fields fs) → Held SmallTree (last_under k fs)
last_small Option.none fs s = tt
last_small (Option.some l) fs s =
    held_under_lem SmallTree l (value_order fs no_fields).literals
    (every_left SmallTree (map held_in (value_order fs no_fields).literals) (value_order fs no_fields).computed (values_small fs no_fields s tt))

keys_short : (most : ℕ) (rs ls : Fields) (o : Flat) → Small (parts_fields rs) → ShortFlat most o → ShortFlat most (check_keys rs ls o)
unfolding check_keys parts
keys_short most done ls o s p = p
keys_short most (field k v rs) ls o s p =
    go (has_partner (last_under (literal_key k) ls)) (keys_short most rs ls o (small_right (parts v) (parts_fields rs) (small_right (parts k) (parts v ++ parts_fields rs) s)) p)
  where
    go : (b : Bool) → ShortFlat most (check_keys rs ls o) → ShortFlat most (require b (object_key_not_found (node_of k)) (check_keys rs ls o))
    go true q = q
    go false q = refusal_short (omega arith) (node_low k (small_left (parts k) (parts v ++ parts_fields rs) s))

partner_short : (most : ℕ) (o : Option Expr) (seen : List ℕ) (f : Expr → Flat) → Held SmallTree o → ((e : Expr) → SmallTree e → ShortFlat most (f e)) → ShortFlat most (on_partner o seen f)
unfolding pairs_entries
partner_short most Option.none seen f p each = (omega arith, tt)
partner_short most (Option.some e) seen f p each = each e p

module _ (u : ℕ → Bool) where
  whole_short : (l r : Expr) (seen : List ℕ) → SmallTree l → SmallTree r → ShortFlat 513 (whole u l r seen)
  whole_short l r seen s t = go (binds u l seen) (binds u r seen)
    where
      go : (a b : Bool) → ShortFlat 513 (side u a b l r seen)
      go false false = compared_short l r seen s t
      go true false =
          let f = plan_few u l seen (below 0 1) in
          let h = s.few in
          pair_short r (plan u l seen) (after u l seen) (node_low r t) (omega arith) (plan_short u l seen (below 0 1) s low_pair)
      go false true =
          let f = plan_few u r seen (below 0 1) in
          let h = t.few in
          pair_short l (plan u r seen) (after u r seen) (node_low l s) (omega arith) (plan_short u r seen (below 0 1) t low_pair)
      go true true = refusal_short (omega arith) (node_low l s)

  -- 513 entries for each part of the right side
  module _ (most : ℕ) (enough : 513 ≤ most) where
    whole_most : (l r : Expr) (seen : List ℕ) → SmallTree l → SmallTree r → ShortFlat most (whole u l r seen)
    whole_most l r seen s t = more_short 513 most (whole u l r seen) enough (whole_short l r seen s t)

    in_parts_short : (l r : Expr) (seen : List ℕ) (o : Flat) → SmallTree l → SmallTree r → ShortFlat most o → ShortFlat most (in_parts u l r seen o)
    in_parts_short l r seen o s t p = go (binds u l seen || binds u r seen)
      where
        go : (b : Bool) → ShortFlat most (cond b o (paired (pair r (equality_expr l) ∷ []) seen))
        go true = p
        go false = more_short 513 most (paired (pair r (equality_expr l) ∷ []) seen) enough (compared_short l r seen s t)

    arrays_short : (l : Expr) (rs : Exprs) (o : Flat) (f : Exprs → Flat) → SmallTree l → Small (parts_all rs) → ShortFlat most o
        → ((ls : Exprs) → Small (parts_all ls) → ShortFlat most (f ls)) → ShortFlat most (arrays u (shape_of l) rs o f)
    unfolding parts
    arrays_short (literal m k) rs o f s t p each = p
    arrays_short (name m x) rs o f s t p each = p
    arrays_short (wildcard m) rs o f s t p each = p
    arrays_short (array m ls) rs o f s t p each = go (eqb (count ls) (count rs)) (each ls (small_tail m (parts_all ls) s))
      where
        go : (b : Bool) → ShortFlat most (f ls) → ShortFlat most (require b (array_size_mismatch m (count ls) (count rs)) (f ls))
        go true q = q
        go false q =
            let a = small_head m (parts_all ls) s in
            let b = count_few ls in
            let c = (small_tail m (parts_all ls) s).few in
            let d = count_few rs in
            let e = t.few in
            short (omega arith) (omega arith) (omega arith) (omega arith)
    arrays_short (set m ls) rs o f s t p each = p
    arrays_short (object m ls) rs o f s t p each = refusal_short (omega arith) (small_head m (parts_fields ls) s)
    arrays_short (other m) rs o f s t p each = p

    objects_short : (l : Expr) (rs : Fields) (o : Flat) (f : Fields → Flat) → SmallTree l → Small (parts_fields rs) → ShortFlat most o
        → ((ls : Fields) → Small (parts_fields ls) → ShortFlat most (f ls)) → ShortFlat most (objects u (shape_of l) rs o f)
    unfolding parts
    objects_short (literal m k) rs o f s t p each = p
    objects_short (name m x) rs o f s t p each = p
    objects_short (wildcard m) rs o f s t p each = p
    objects_short (array m ls) rs o f s t p each = refusal_short (omega arith) (small_head m (parts_all ls) s)
    objects_short (set m ls) rs o f s t p each = p
    objects_short (object m ls) rs o f s t p each =
        go (all_literal ls && all_literal rs) (eqb (distinct_keys ls) (count_fields rs)) (keys_short most rs ls (f ls) t (each ls (small_tail m (parts_fields ls) s)))
      where
        go : (a b : Bool) → ShortFlat most (check_keys rs ls (f ls))
            → ShortFlat most (cond a (require b (object_field_count_mismatch m (distinct_keys ls) (count_fields rs)) (check_keys rs ls (f ls))) o)
        go true true q = q
        go true false q =
            let a = small_head m (parts_fields ls) s in
            let b = keys_few ls (small_tail m (parts_fields ls) s) in
            let c = fields_few rs in
            let d = t.few in
            short (omega arith) (omega arith) (omega arith) (omega arith)
        go false b q = p
    objects_short (other m) rs o f s t p each = p

  mutual
    unfolding flatten parts pairs_entries

    flat_short : (r l : Expr) (seen : List ℕ) → SmallTree r → SmallTree l → ShortFlat (513 * length (parts r)) (flatten u r l seen)
    flat_short (literal n k) l seen s t = whole_most 513 (omega arith) l (literal n k) seen t s
    flat_short (name n x) l seen s t = whole_most 513 (omega arith) l (name n x) seen t s
    flat_short (wildcard n) l seen s t = whole_most 513 (omega arith) l (wildcard n) seen t s
    flat_short (array n rs) l seen s t =
        let most = 513 * length (parts (array n rs)) in
        let enough : 513 ≤ most = omega arith in
        in_parts_short most enough l (array n rs) seen (arrays u (shape_of l) rs (whole u l (array n rs) seen) (λ ls. flatten_all u rs ls seen)) t s
        (arrays_short most enough l rs (whole u l (array n rs) seen) (λ ls. flatten_all u rs ls seen) t (small_tail n (parts_all rs) s) (whole_most most enough l (array n rs) seen t s)
        (λ ls small. more_short (513 * length (parts_all rs)) most (flatten_all u rs ls seen) (omega arith) (items_short rs ls seen (small_tail n (parts_all rs) s) small)))
    flat_short (set n es) l seen s t =
        more_short 513 (513 * length (parts (set n es))) (whole u l (set n es) seen) (omega arith) (whole_short l (set n es) seen t s)
    flat_short (object n rs) l seen s t =
        let most = 513 * length (parts (object n rs)) in
        let enough : 513 ≤ most = omega arith in
        in_parts_short most enough l (object n rs) seen (objects u (shape_of l) rs (whole u l (object n rs) seen) (λ ls. flatten_fields u rs ls seen)) t s
        (objects_short most enough l rs (whole u l (object n rs) seen) (λ ls. flatten_fields u rs ls seen) t (small_tail n (parts_fields rs) s) (whole_most most enough l (object n rs) seen t s)
        (λ ls small. more_short (513 * length (parts_fields rs)) most (flatten_fields u rs ls seen) (omega arith) (fields_short rs ls seen (small_tail n (parts_fields rs) s) small)))
    flat_short (other n) l seen s t = whole_most 513 (omega arith) l (other n) seen t s

    items_short : (rs ls : Exprs) (seen : List ℕ) → Small (parts_all rs) → Small (parts_all ls) → ShortFlat (513 * length (parts_all rs)) (flatten_all u rs ls seen)
    items_short none ls seen s t = (omega arith, tt)
    items_short (item r rs) none seen s t = (omega arith, tt)
    items_short (item r rs) (item l ls) seen s t =
        let a = length-append (parts r) (parts_all rs) in
        more_short (513 * length (parts r) + 513 * length (parts_all rs)) (513 * length (parts r ++ parts_all rs)) (further (flatten u r l seen) (λ later. flatten_all u rs ls later)) (omega arith)
        (further_short (513 * length (parts r)) (513 * length (parts_all rs)) (flatten u r l seen) (λ later. flatten_all u rs ls later)
        (flat_short r l seen (small_left (parts r) (parts_all rs) s) (small_left (parts l) (parts_all ls) t))
        (λ later. items_short rs ls later (small_right (parts r) (parts_all rs) s) (small_right (parts l) (parts_all ls) t)))

    fields_short : (rs ls : Fields) (seen : List ℕ) → Small (parts_fields rs) → Small (parts_fields ls) → ShortFlat (513 * length (parts_fields rs)) (flatten_fields u rs ls seen)
    fields_short done ls seen s t = (omega arith, tt)
    fields_short (field k r rs) ls seen s t =
        let a = length-append (parts k) (parts r ++ parts_fields rs) in
        let b = length-append (parts r) (parts_fields rs) in
        let rest = small_right (parts k) (parts r ++ parts_fields rs) s in
        let here = on_partner (last_under (literal_key k) ls) seen (λ l. flatten u r l seen) in
        more_short (513 * length (parts r) + 513 * length (parts_fields rs)) (513 * length (parts k ++ (parts r ++ parts_fields rs))) (further here (λ later. flatten_fields u rs ls later)) (omega arith)
        (further_short (513 * length (parts r)) (513 * length (parts_fields rs)) here (λ later. flatten_fields u rs ls later)
        (partner_short (513 * length (parts r)) (last_under (literal_key k) ls) seen (λ l. flatten u r l seen) (last_small (literal_key k) ls t) (λ l small. flat_short r l seen (small_left (parts r) (parts_fields rs) rest) small))
        (λ later. fields_short rs ls later (small_right (parts r) (parts_fields rs) rest) t))

  pub pairs_short : (r l : Expr) (seen : List ℕ) → SmallTree r → SmallTree l → ShortOutcome (flat_outcome (flatten u r l seen))
  pairs_short r l seen s t = go (flatten u r l seen) (flat_short r l seen s t)
    where
      go : (f : Flat) → ShortFlat (513 * length (parts r)) f → ShortOutcome (flat_outcome f)
      go (failed a) p = p
      go (paired ps later) p =
          let n = p.0 in
          let m = s.few in
          planned_short 4 0 (pairs_entries ps) (omega arith) (omega arith) (omega arith) p.1
