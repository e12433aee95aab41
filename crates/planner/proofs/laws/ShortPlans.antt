-- Every number of a plan of a small tree has at most six digits.
use Prim.Native.Nat.{ℕ, ◌+◌, ◌≤◌}
use mathlib.Core.Path.{◌≡◌, refl}
use mathlib.Core.Bool.{Bool, true, false, cond}
use mathlib.Core.List.{List, [], ◌∷◌, ◌++◌, map}
use mathlib.Core.Option.{Option}
use native.Mathlib.Omega.{arith}
use lib.ListN.{length, length-append}
use Rattle.literal.specs.Literal.{Literal}
use Rattle.literal.specs.Order.{Order, less, same, more, key_order}
use Rattle.table.specs.Expr.{Expr, literal, name, wildcard, array, object, other, Exprs, none, item, Fields, done, field, node_of, count, count_fields, parts, parts_all, parts_fields}
use Rattle.table.specs.Tables.{Tables}
use Rattle.table.specs.Decode.{expr}
use Rattle.table.specs.Names.{is_same}
use Rattle.base.specs.Lists.{elem}
use Rattle.table.specs.code.Sound.{Node, WellFormed}
use Rattle.table.proofs.trees.Forest.{forest, tree_few}
use Rattle.table.proofs.trees.Lists.{elem_head, elem_tail, elem_left, elem_right}
use Rattle.planner.specs.Plan.{var, equality_expr, fresh, plan, plans, field_plans, after}
use Rattle.planner.specs.Layout.{Entry, Place, below, top, entry, literal_key, Slot, placed, insert, FieldOrder, no_fields, add_field, held_in, in_order, concat, entries, entries_all_lem, count_plans_lem, field_order}
use Rattle.planner.specs.Held.{value_order, first_or, held_under}
use Rattle.planner.specs.Names.{Occurrence, occurrences, occurrences_all, occurrences_fields, first_node}
use Rattle.planner.specs.Short.{ShortEntry, Every}
use Rattle.planner.proofs.laws.Sizes.{add_length, add_concat}

-- at most 512 nodes, none of a number above 512
pub record Small (ns : List ℕ) : Type 0 where
  pub few : length ns ≤ 512
  pub low : (m : ℕ) → elem m ns ≡ true → m ≤ 512

module _ (xs ys : List ℕ) where
  pub small_left : Small (xs ++ ys) → Small xs
  small_left s = record {
    few = let a = length-append xs ys in let f = s.few in omega arith;
    low = λ m e. s.low m (elem_left m xs ys e);
  }

  pub small_right : Small (xs ++ ys) → Small ys
  small_right s = record {
    few = let a = length-append xs ys in let f = s.few in omega arith;
    low = λ m e. s.low m (elem_right m xs ys e);
  }

module _ (n : ℕ) (ns : List ℕ) where
  pub small_head : Small (n ∷ ns) → n ≤ 512
  small_head s = s.low n (elem_head n n ns refl)

  pub small_tail : Small (n ∷ ns) → Small ns
  small_tail s = record { few = let f = s.few in omega arith; low = λ m e. s.low m (elem_tail m n ns e) }

abbrev pub SmallTree : Expr → Type 0
SmallTree e = Small (parts e)

-- a tree's own node
pub node_low : (e : Expr) → SmallTree e → node_of e ≤ 512
unfolding parts
node_low (literal n l) s = small_head n [] s
node_low (name n x) s = small_head n [] s
node_low (wildcard n) s = small_head n [] s
node_low (array n es) s = small_head n (parts_all es) s
node_low (Expr.set n es) s = small_head n (parts_all es) s
node_low (object n fs) s = small_head n (parts_fields fs) s
node_low (other n) s = small_head n [] s

pub parts_some : (e : Expr) → 1 ≤ length (parts e)
unfolding parts
parts_some (literal n l) = omega arith
parts_some (name n x) = omega arith
parts_some (wildcard n) = omega arith
parts_some (array n es) = omega arith
parts_some (Expr.set n es) = omega arith
parts_some (object n fs) = omega arith
parts_some (other n) = omega arith

pub count_few : (es : Exprs) → count es ≤ length (parts_all es)
unfolding count parts
count_few none = omega arith
count_few (item e es) = let s = parts_some e in let h = count_few es in let a = length-append (parts e) (parts_all es) in omega arith

pub fields_few : (fs : Fields) → count_fields fs ≤ length (parts_fields fs)
unfolding count_fields parts
fields_few done = omega arith
fields_few (field k v fs) =
    let s = parts_some v in
    let h = fields_few fs in
    let a = length-append (parts k) (parts v ++ parts_fields fs) in
    let b = length-append (parts v) (parts_fields fs) in
    omega arith

-- the tree of a node of a checked table is small
pub tree_small : (T : Tables) → WellFormed T → (n : ℕ) → Node T n → SmallTree (expr T n)
tree_small T w n v = record {
  few = tree_few T w n v;
  low = λ m e. let p = (forest T w n v).within m e in let h = v.high in let l = w.limits.nodes in omega arith;
}

-- all elements
module _ {A : Type 0} (P : A → Type 0) where
  pub every_append : (xs ys : List A) → Every P xs → Every P ys → Every P (xs ++ ys)
  every_append [] ys p q = q
  every_append (x ∷ xs) ys p q = (p.0, every_append xs ys p.1 q)

  pub every_left : (xs ys : List A) → Every P (xs ++ ys) → Every P xs
  every_left [] ys p = tt
  every_left (x ∷ xs) ys p = (p.0, every_left xs ys p.1)

  pub every_right : (xs ys : List A) → Every P (xs ++ ys) → Every P ys
  every_right [] ys p = p
  every_right (x ∷ xs) ys p = every_right xs ys p.1

  pub every_concat : (ls : List (List A)) → Every (Every P) ls → Every P (concat ls)
  unfolding concat
  every_concat [] p = tt
  every_concat (l ∷ ls) p = every_append l (concat ls) p.0 (every_concat ls p.1)

  insert_every : (s : Slot A) (ss : List (Slot A)) → P s.held → Every P (map held_in ss) → Every P (map held_in (insert s ss))
  unfolding insert
  insert_every s [] p q = (p, tt)
  insert_every s (t ∷ ts) p q = go (key_order s.at t.at) (insert_every s ts p q.1)
    where
      go : (o : Order) → Every P (map held_in (insert s ts)) → Every P (map held_in (placed o s t ts (insert s ts)))
      go less r = (p, q)
      go same r = (p, q.1)
      go more r = (q.0, r)

  pub add_every : (k : Option Literal) (a : A) (o : FieldOrder A) → P a → Every P (in_order o) → Every P (in_order (add_field k a o))
  add_every Option.none a o p q =
      every_append (map held_in o.literals) (o.computed ++ (a ∷ [])) (every_left (map held_in o.literals) o.computed q)
      (every_append o.computed (a ∷ []) (every_right (map held_in o.literals) o.computed q) (p, tt))
  add_every (Option.some l) a o p q =
      every_append (map held_in (insert (record { at = l; held = a }) o.literals)) o.computed
      (insert_every (record { at = l; held = a }) o.literals p (every_left (map held_in o.literals) o.computed q))
      (every_right (map held_in o.literals) o.computed q)

  -- of what is held, if anything
  abbrev pub Held : Option A → Type 0
  Held Option.none = Unit {0}
  Held (Option.some a) = P a

  pub held_under_lem : (l : Literal) (ss : List (Slot A)) → Every P (map held_in ss) → Held (held_under l ss)
  unfolding held_under
  held_under_lem l [] p = tt
  held_under_lem l (s ∷ ss) p = go (is_same (key_order l s.at)) (held_under_lem l ss p.1)
    where
      go : (b : Bool) → Held (held_under l ss) → Held (first_or b s.held (held_under l ss))
      go true r = p.0
      go false r = r

-- the values of a small object's fields are small
pub values_small : (fs : Fields) (o : FieldOrder Expr) → Small (parts_fields fs) → Every SmallTree (in_order o) → Every SmallTree (in_order (value_order fs o))
unfolding value_order parts
values_small done o s p = p
values_small (field k v fs) o s p =
    let rest = small_right (parts k) (parts v ++ parts_fields fs) s in
    values_small fs (add_field (literal_key k) v o) (small_right (parts v) (parts_fields fs) rest)
    (add_every SmallTree (literal_key k) v o (small_left (parts v) (parts_fields fs) rest) p)

-- a key node of a small tree, and a position
pub record LowPlace (place : Place) : Type 0 where
  pub low : place.key ≤ 512
  pub near : place.position ≤ 1024

pub low_top : LowPlace top
low_top = record { low = omega arith; near = omega arith }

pub short_entry : (kind node children : ℕ) (place : Place) → LowPlace place → kind ≤ 7 → node ≤ 512 → children ≤ 512 → ShortEntry (entry kind node children place)
short_entry kind node children place k a b c =
    let l = k.low in
    let n = k.near in
    record { front = record { one = omega arith; two = omega arith; three = omega arith; four = omega arith }; position = omega arith }

-- no more entries than parts
module _ (u : ℕ → Bool) where
  pub plans_count : (es : Exprs) (seen : List ℕ) → count_plans_lem (plans u es seen) ≡ count es
  unfolding plan entries count
  plans_count none seen = refl
  plans_count (item e es) seen = let h = plans_count es (after u e seen) in omega arith

  pub order_count : (fs : Fields) (seen : List ℕ) (i : ℕ) (o : FieldOrder (List Entry)) → length (in_order (field_order (field_plans u fs seen) i o)) ≤ count_fields fs + length (in_order o)
  unfolding plan entries count_fields
  order_count done seen i o = omega arith
  order_count (field k v fs) seen i o =
      let h = order_count fs (after u v seen) (i + 1) (add_field (literal_key k) (entries (plan u v seen) (below (node_of k) i)) o) in
      let a = add_length (literal_key k) (entries (plan u v seen) (below (node_of k) i)) o in
      omega arith

  mutual
    unfolding plan entries parts concat

    pub plan_few : (e : Expr) (seen : List ℕ) (place : Place) → length (entries (plan u e seen) place) ≤ length (parts e)
    plan_few (literal n l) seen place = omega arith
    plan_few (name n x) seen place = go (fresh u seen x)
      where
        go : (b : Bool) → length (entries (cond b (var n x) (equality_expr (name n x))) place) ≤ 1
        go true = omega arith
        go false = omega arith
    plan_few (wildcard n) seen place = omega arith
    plan_few (array n es) seen place = let h = plans_few es seen 1 in omega arith
    plan_few (Expr.set n es) seen place = omega arith
    plan_few (object n fs) seen place = let h = field_plans_few fs seen 1 no_fields in omega arith
    plan_few (other n) seen place = omega arith

    plans_few : (es : Exprs) (seen : List ℕ) (i : ℕ) → length (entries_all_lem (plans u es seen) i) ≤ length (parts_all es)
    plans_few none seen i = omega arith
    plans_few (item e es) seen i =
        let h = plan_few e seen (below 0 i) in
        let t = plans_few es (after u e seen) (i + 1) in
        let x = length-append (entries (plan u e seen) (below 0 i)) (entries_all_lem (plans u es (after u e seen)) (i + 1)) in
        let y = length-append (parts e) (parts_all es) in
        omega arith

    field_plans_few : (fs : Fields) (seen : List ℕ) (i : ℕ) (o : FieldOrder (List Entry))
        → length (concat (in_order (field_order (field_plans u fs seen) i o))) ≤ length (parts_fields fs) + length (concat (in_order o))
    field_plans_few done seen i o = omega arith
    field_plans_few (field k v fs) seen i o =
        let h = plan_few v seen (below (node_of k) i) in
        let t = field_plans_few fs (after u v seen) (i + 1) (add_field (literal_key k) (entries (plan u v seen) (below (node_of k) i)) o) in
        let a = add_concat (literal_key k) (entries (plan u v seen) (below (node_of k) i)) o in
        let x = length-append (parts k) (parts v ++ parts_fields fs) in
        let y = length-append (parts v) (parts_fields fs) in
        omega arith

  -- and each is short
  mutual
    unfolding plan entries parts concat count count_fields

    pub plan_short : (e : Expr) (seen : List ℕ) (place : Place) → SmallTree e → LowPlace place → Every ShortEntry (entries (plan u e seen) place)
    plan_short (literal n l) seen place s k = let h = small_head n [] s in (short_entry 4 n 0 place k (omega arith) h (omega arith), tt)
    plan_short (name n x) seen place s k = go (fresh u seen x)
      where
        go : (b : Bool) → Every ShortEntry (entries (cond b (var n x) (equality_expr (name n x))) place)
        go true = let h = small_head n [] s in (short_entry 1 n 0 place k (omega arith) h (omega arith), tt)
        go false = let h = small_head n [] s in (short_entry 3 n 0 place k (omega arith) h (omega arith), tt)
    plan_short (wildcard n) seen place s k = let h = small_head n [] s in (short_entry 2 n 0 place k (omega arith) h (omega arith), tt)
    plan_short (array n es) seen place s k =
        let h = small_head n (parts_all es) s in
        let t = small_tail n (parts_all es) s in
        let f = t.few in
        let c = plans_count es seen in
        let d = count_few es in
        (short_entry 5 n (count_plans_lem (plans u es seen)) place k (omega arith) h (omega arith), plans_short es seen 1 t (omega arith))
    plan_short (Expr.set n es) seen place s k = let h = small_head n (parts_all es) s in (short_entry 3 n 0 place k (omega arith) h (omega arith), tt)
    plan_short (object n fs) seen place s k =
        let h = small_head n (parts_fields fs) s in
        let t = small_tail n (parts_fields fs) s in
        let f = t.few in
        let c = order_count fs seen 1 no_fields in
        let d = fields_few fs in
        let order = in_order (field_order (field_plans u fs seen) 1 no_fields) in
        (short_entry 6 n (length order) place k (omega arith) h (omega arith), every_concat ShortEntry order (field_plans_short fs seen 1 no_fields t (omega arith) tt))
    plan_short (other n) seen place s k = let h = small_head n [] s in (short_entry 3 n 0 place k (omega arith) h (omega arith), tt)

    plans_short : (es : Exprs) (seen : List ℕ) (i : ℕ) → Small (parts_all es) → i + count es ≤ 1024 → Every ShortEntry (entries_all_lem (plans u es seen) i)
    plans_short none seen i s few = tt
    plans_short (item e es) seen i s few =
        every_append ShortEntry (entries (plan u e seen) (below 0 i)) (entries_all_lem (plans u es (after u e seen)) (i + 1))
        (plan_short e seen (below 0 i) (small_left (parts e) (parts_all es) s) (record { low = omega arith; near = omega arith }))
        (plans_short es (after u e seen) (i + 1) (small_right (parts e) (parts_all es) s) (omega arith))

    field_plans_short : (fs : Fields) (seen : List ℕ) (i : ℕ) (o : FieldOrder (List Entry)) → Small (parts_fields fs) → i + count_fields fs ≤ 1024
        → Every (Every ShortEntry) (in_order o) → Every (Every ShortEntry) (in_order (field_order (field_plans u fs seen) i o))
    field_plans_short done seen i o s few p = p
    field_plans_short (field k v fs) seen i o s few p =
        let key = small_left (parts k) (parts v ++ parts_fields fs) s in
        let rest = small_right (parts k) (parts v ++ parts_fields fs) s in
        field_plans_short fs (after u v seen) (i + 1) (add_field (literal_key k) (entries (plan u v seen) (below (node_of k) i)) o)
        (small_right (parts v) (parts_fields fs) rest) (omega arith)
        (add_every (Every ShortEntry) (literal_key k) (entries (plan u v seen) (below (node_of k) i)) o
        (plan_short v seen (below (node_of k) i) (small_left (parts v) (parts_fields fs) rest) (record { low = node_low k key; near = omega arith })) p)

-- the nodes of a small tree's names
abbrev LowNode : Occurrence → Type 0
LowNode o = o.node ≤ 512

mutual
  unfolding occurrences parts

  occurrences_low : (e : Expr) → SmallTree e → Every LowNode (occurrences true false e)
  occurrences_low (literal n l) s = tt
  occurrences_low (name n x) s = (small_head n [] s, tt)
  occurrences_low (wildcard n) s = tt
  occurrences_low (array n es) s = all_low es (small_tail n (parts_all es) s)
  occurrences_low (Expr.set n es) s = all_low es (small_tail n (parts_all es) s)
  occurrences_low (object n fs) s = fields_low fs (small_tail n (parts_fields fs) s)
  occurrences_low (other n) s = tt

  all_low : (es : Exprs) → Small (parts_all es) → Every LowNode (occurrences_all true false es)
  all_low none s = tt
  all_low (item e es) s =
      every_append LowNode (occurrences true false e) (occurrences_all true false es) (occurrences_low e (small_left (parts e) (parts_all es) s)) (all_low es (small_right (parts e) (parts_all es) s))

  fields_low : (fs : Fields) → Small (parts_fields fs) → Every LowNode (occurrences_fields true false fs)
  fields_low done s = tt
  fields_low (field k v fs) s =
      let rest = small_right (parts k) (parts v ++ parts_fields fs) s in
      every_append LowNode (occurrences true false v) (occurrences_fields true false fs) (occurrences_low v (small_left (parts v) (parts_fields fs) rest)) (fields_low fs (small_right (parts v) (parts_fields fs) rest))

first_low : (bad : ℕ → Bool) (os : List Occurrence) → Every LowNode os → first_node bad os ≤ 512
unfolding first_node
first_low bad [] p = omega arith
first_low bad (o ∷ os) p = go (bad o.name) (first_low bad os p.1)
  where
    go : (b : Bool) → first_node bad os ≤ 512 → cond b o.node (first_node bad os) ≤ 512
    go true r = p.0
    go false r = r

pub first_node_low : (bad : ℕ → Bool) (e : Expr) → SmallTree e → first_node bad (occurrences true false e) ≤ 512
first_node_low bad e s = first_low bad (occurrences true false e) (occurrences_low e s)
