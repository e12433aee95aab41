-- The entries of a plan stand as `link_entries` asks: each entry's children behind it, at positions from 1 on that differ.
use Prim.Native.Nat.{ℕ, zero, suc, ◌+◌, ◌-◌, ◌≤◌, ◌<◌}
use mathlib.Core.Path.{◌≡◌, refl, sym, ap, subst, ◌∙◌}
use mathlib.Core.Bool.{true}
use mathlib.Core.List.{List, [], ◌∷◌, ◌++◌, map, map-append, append_assoc, append-nil}
use native.Mathlib.Omega.{arith}
use lib.ListN.{length, get_or, drop, length-append, length-map, get_or-append}
use Rattle.table.specs.Expr.{Expr, node_of}
use Rattle.planner.specs.Layout.{Entry, Place, below, entries, entries_all_lem, count_plans_lem, field_order, literal_key, FieldOrder, no_fields, add_field, in_order, concat}
use Rattle.planner.specs.Entries.{read_entries}
use Rattle.planner.specs.Plan.{DestructuringPlan, var, ignore, equality_expr, equality_value, array_plan, object_plan, Plans, no_plan, item_plan, FieldPlans, no_field, field_plan}
use Rattle.planner.specs.Simple.{differing}
use Rattle.planner.proofs.fields.FieldOrder.{AllSlots, map_drop}
use Rattle.matching.specs.Matching.{plan_keys}
use Rattle.matching.specs.Reading.{PlacedPlan, standing, plans_read}
use Rattle.matching.specs.code.Linking.{children_of, position_of, starts_from, child_entry, total, LinkAsks}
use Rattle.matching.proofs.reading.WrittenOrder.{Before, Inserted, first, later, put_before, Coming, adds, fields_from, placed_order, Every, every_order}
use Rattle.matching.proofs.reading.ReadBack.{Told, ToldAll, ToldFields, lay, items_from, items_counted, in_order_laid, read_items, read_object}

abbrev pub position_in : PlacedPlan → ℕ
position_in q = q.place.position

abbrev pub positions : List PlacedPlan → List ℕ
positions qs = map position_in qs

-- the first n of some positions are from 1 to n, and differ
pub record Positions (n : ℕ) (ps : List ℕ) : Type 0 where
  pub enough : n ≤ length ps
  pub within : (j : ℕ) → j < n → (1 ≤ get_or ps j 0) × (get_or ps j 0 ≤ n)
  pub apart : (i j : ℕ) → i < j → j < n → get_or ps i 0 ≡ get_or ps j 0 → ⊥

-- in a list with more behind
positions_more : (n : ℕ) (ps qs : List ℕ) → Positions n ps → Positions n (ps ++ qs)
positions_more n ps qs p =
    let e = p.enough in
    record {
      enough = let l = length-append ps qs in omega arith;
      within = λ j lt. rw (get_or-append ps qs 0 j (omega arith)) (p.within j lt);
      apart = λ i j lt jt. rw (get_or-append ps qs 0 i (omega arith), get_or-append ps qs 0 j (omega arith)) (p.apart i j lt jt);
    }

positions_none : (ps : List ℕ) → Positions 0 ps
positions_none ps = record { enough = omega arith; within = λ j lt. absurd (omega arith); apart = λ i j lt jt. absurd (omega arith) }

-- items

item_position : (ps : Plans) (i j : ℕ) → j < count_plans_lem ps → get_or (positions (items_from ps i)) j 0 ≡ i + j
unfolding items_from entries
item_position no_plan i j lt = absurd (omega arith)
item_position (item_plan p ps) i zero lt = omega arith
item_position (item_plan p ps) i (suc j) lt = item_position ps (i + 1) j (omega arith) ∙ omega arith

items_placed : (ps : Plans) → Positions (count_plans_lem ps) (positions (items_from ps 1))
items_placed ps =
    let c = items_counted ps 1 in
    let m = length-map (items_from ps 1) position_in in
    record {
      enough = omega arith;
      within = λ j lt. rw (item_position ps 1 j lt) (omega arith, omega arith);
      apart = λ i j lt jt e.
          let a = item_position ps 1 i (omega arith) in
          let b = item_position ps 1 j jt in
          omega arith;
    }

-- fields in key order

put_long : (t : PlacedPlan) {xs ys : List PlacedPlan} → Inserted t xs ys → length ys ≡ suc (length xs)
put_long t (first xs) = refl
put_long t (later x xs ys h) = ap suc (put_long t h)

-- from 1 on, and all different
unfoldable Apart : List PlacedPlan → Type 0
Apart [] = Unit {0}
Apart (q ∷ qs) = (1 ≤ position_in q) × (((j : ℕ) → j < length qs → get_or (positions qs) j 0 ≡ position_in q → ⊥) × Apart qs)

before_at : (i : ℕ) (qs : List PlacedPlan) → Before i qs → (j : ℕ) → j < length qs → get_or (positions qs) j 0 < i
unfolding Before
before_at i [] b j lt = absurd (omega arith)
before_at i (q ∷ qs) b zero lt = b.0
before_at i (q ∷ qs) b (suc j) lt = before_at i qs b.1 j (omega arith)

put_other : (t : PlacedPlan) {xs ys : List PlacedPlan} → Inserted t xs ys → (p : ℕ) → ((j : ℕ) → j < length xs → get_or (positions xs) j 0 ≡ p → ⊥) → (position_in t ≡ p → ⊥) → (j : ℕ) → j < length ys → get_or (positions ys) j 0 ≡ p → ⊥
put_other t (first xs) p each own zero lt = own
put_other t (first xs) p each own (suc j) lt = each j (omega arith)
put_other t (later x xs ys h) p each own zero lt = each 0 (omega arith)
put_other t (later x xs ys h) p each own (suc j) lt = put_other t h p (λ i it. each (suc i) (omega arith)) own j (omega arith)

put_apart : (t : PlacedPlan) {xs ys : List PlacedPlan} → Inserted t xs ys → Before (position_in t) xs → 1 ≤ position_in t → Apart xs → Apart ys
unfolding Apart Before
put_apart t (first xs) b low a = (low, (λ j lt e. let l = before_at (position_in t) xs b j lt in omega arith, a))
put_apart t (later x xs ys h) b low a = let l = b.0 in (a.0, (put_other t h (position_in x) a.1.0 (λ e. omega arith), put_apart t h b.1 low a.1.1))

-- fields from position i on, in an order of the i - 1 fields before them
record OrderPlaced (i : ℕ) (o : FieldOrder PlacedPlan) : Type 0 where
  before : Before i (in_order o)
  apart : Apart (in_order o)
  long : length (in_order o) + 1 ≡ i

order_placed : (fs : FieldPlans) (i : ℕ) (o : FieldOrder PlacedPlan) → differing (plan_keys fs) ≡ true → AllSlots (Coming (plan_keys fs)) o.literals → OrderPlaced i o
    → (k : ℕ) × OrderPlaced k (placed_order fs i o)
unfolding placed_order plan_keys
order_placed no_field i o d c p = (i, p)
order_placed (field_plan k q fs) i o d c p =
    let t : PlacedPlan = standing q (below (node_of k) i) in
    let a = adds (literal_key k) (plan_keys fs) t o d c in
    let l = p.long in
    order_placed fs (i + 1) (add_field (literal_key k) t o) a.distinct a.fresh (record {
      before = put_before t a.put p.before;
      apart = put_apart t a.put p.before (omega arith) p.apart;
      long = let h = put_long t a.put in omega arith;
    })

apart_at : (qs : List PlacedPlan) → Apart qs → (i j : ℕ) → i < j → j < length qs → get_or (positions qs) i 0 ≡ get_or (positions qs) j 0 → ⊥
unfolding Apart
apart_at [] a i j lt jt e = omega arith
apart_at (q ∷ qs) a i zero lt jt e = omega arith
apart_at (q ∷ qs) a zero (suc j) lt jt e = a.1.0 j (omega arith) (sym e)
apart_at (q ∷ qs) a (suc i) (suc j) lt jt e = apart_at qs a.1.1 i j (omega arith) (omega arith) e

low_at : (qs : List PlacedPlan) → Apart qs → (j : ℕ) → j < length qs → 1 ≤ get_or (positions qs) j 0
unfolding Apart
low_at [] a j lt = absurd (omega arith)
low_at (q ∷ qs) a zero lt = a.0
low_at (q ∷ qs) a (suc j) lt = low_at qs a.1.1 j (omega arith)

fields_placed : (fs : FieldPlans) → differing (plan_keys fs) ≡ true → Positions (length (in_order (placed_order fs 1 no_fields))) (positions (in_order (placed_order fs 1 no_fields)))
unfolding Before Apart AllSlots
fields_placed fs d =
    let (k, p) = order_placed fs 1 no_fields d tt (record { before = tt; apart = tt; long = refl }) in
    let qs : List PlacedPlan = in_order (placed_order fs 1 no_fields) in
    let m = length-map qs position_in in
    let l = p.long in
    record {
      enough = omega arith;
      within = λ j lt. let b = before_at k qs p.before j lt in (low_at qs p.apart j lt, omega arith);
      apart = λ i j lt jt. apart_at qs p.apart i j lt jt;
    }

-- every entry of a list has its children behind it
module _ (at : ℕ → Expr) where
  unfoldable pub AllPlaced : List Entry → Type 0
  AllPlaced [] = Unit {0}
  AllPlaced (e ∷ es) = Positions e.children (positions (plans_read at es)) × AllPlaced es

  -- a plan's entries do not change that of what stands behind them
  abbrev Places : PlacedPlan → Type 0
  Places q = (rest : List Entry) → AllPlaced rest → AllPlaced (lay q ++ rest)

  concat_placed : (qs : List PlacedPlan) → Every Places qs → (rest : List Entry) → AllPlaced rest → AllPlaced (concat (map lay qs) ++ rest)
  unfolding Every concat
  concat_placed [] all rest a = a
  concat_placed (q ∷ qs) all rest a = rw (append_assoc (lay q) (concat (map lay qs)) rest) (all.0 (concat (map lay qs) ++ rest) (concat_placed qs all.1 rest a))

  -- the head of an array or an object
  head_placed : (n : ℕ) (qs : List PlacedPlan) (es rest : List Entry) → plans_read at es ≡ qs ++ plans_read at rest → Positions n (positions qs) → Positions n (positions (plans_read at es))
  head_placed n qs es rest e p =
      subst (λ (l : List ℕ). Positions n l) (sym (ap positions e ∙ map-append position_in qs (plans_read at rest))) (positions_more n (positions qs) (positions (plans_read at rest)) p)

  mutual
    unfolding entries AllPlaced fields_from Every

    pub plan_placed : (p : DestructuringPlan) → Told at p → (place : Place) (rest : List Entry) → AllPlaced rest → AllPlaced (entries p place ++ rest)
    plan_placed (var n x) t place rest a = (positions_none (positions (plans_read at rest)), a)
    plan_placed (ignore n) t place rest a = (positions_none (positions (plans_read at rest)), a)
    plan_placed (equality_expr e) t place rest a = (positions_none (positions (plans_read at rest)), a)
    plan_placed (equality_value n l) t place rest a = (positions_none (positions (plans_read at rest)), a)
    plan_placed (array_plan n ps) t place rest a =
        (head_placed (count_plans_lem ps) (items_from ps 1) (entries_all_lem ps 1 ++ rest) rest (read_items at ps t 1 rest) (items_placed ps), items_all ps t 1 rest a)
    plan_placed (object_plan n fs) t place rest a =
        let qs : List PlacedPlan = in_order (placed_order fs 1 no_fields) in
        let e = in_order_laid fs in
        let c : length (in_order (field_order fs 1 no_fields)) ≡ length qs = ap length e ∙ length-map qs lay in (
          rw c (head_placed (length qs) qs (concat (in_order (field_order fs 1 no_fields)) ++ rest) rest (read_object at fs t.0 t.1 rest) (fields_placed fs t.0)),
          subst (λ (ls : List (List Entry)). AllPlaced (concat ls ++ rest)) (sym e) (concat_placed qs (every_order Places fs 1 t.0 (fields_all fs t.1 1)) rest a),
        )

    items_all : (ps : Plans) → ToldAll at ps → (i : ℕ) (rest : List Entry) → AllPlaced rest → AllPlaced (entries_all_lem ps i ++ rest)
    items_all no_plan t i rest a = a
    items_all (item_plan p ps) t i rest a =
        rw (append_assoc (entries p (below 0 i)) (entries_all_lem ps (i + 1)) rest) (plan_placed p t.0 (below 0 i) (entries_all_lem ps (i + 1) ++ rest) (items_all ps t.1 (i + 1) rest a))

    fields_all : (fs : FieldPlans) → ToldFields at fs → (i : ℕ) → Every Places (fields_from fs i)
    fields_all no_field t i = tt
    fields_all (field_plan k p fs) t i = (λ rest a. plan_placed p t.1.0 (below (node_of k) i) rest a, fields_all fs t.1.1 (i + 1))

-- how many children the entries of a list have

unfoldable pub children_in : List Entry → ℕ
children_in [] = 0
children_in (e ∷ es) = e.children + children_in es

children_append : (es fs : List Entry) → children_in (es ++ fs) ≡ children_in es + children_in fs
unfolding children_in
children_append [] fs = omega arith
children_append (e ∷ es) fs = let h = children_append es fs in omega arith

-- one less than there are entries
abbrev OneLess : PlacedPlan → Type 0
OneLess q = children_in (lay q) + 1 ≡ length (lay q)

concat_children : (qs : List PlacedPlan) → Every OneLess qs → children_in (concat (map lay qs)) + length qs ≡ length (concat (map lay qs))
unfolding Every concat children_in
concat_children [] all = refl
concat_children (q ∷ qs) all =
    let h = all.0 in
    let t = concat_children qs all.1 in
    let a = children_append (lay q) (concat (map lay qs)) in
    let l = length-append (lay q) (concat (map lay qs)) in
    omega arith

module _ (at : ℕ → Expr) where
  mutual
    unfolding entries children_in fields_from Every

    pub one_less : (p : DestructuringPlan) → Told at p → (place : Place) → children_in (entries p place) + 1 ≡ length (entries p place)
    one_less (var n x) t place = refl
    one_less (ignore n) t place = refl
    one_less (equality_expr e) t place = refl
    one_less (equality_value n l) t place = refl
    one_less (array_plan n ps) t place = let h = items_less ps t 1 in omega arith
    one_less (object_plan n fs) t place =
        let e = in_order_laid fs in
        let qs : List PlacedPlan = in_order (placed_order fs 1 no_fields) in
        let c : length (in_order (field_order fs 1 no_fields)) ≡ length qs = ap length e ∙ length-map qs lay in
        let h = concat_children qs (every_order OneLess fs 1 t.0 (fields_less fs t.1 1)) in
        let k : children_in (concat (in_order (field_order fs 1 no_fields))) ≡ children_in (concat (map lay qs)) = ap (λ (ls : List (List Entry)). children_in (concat ls)) e in
        let l : length (concat (in_order (field_order fs 1 no_fields))) ≡ length (concat (map lay qs)) = ap (λ (ls : List (List Entry)). length (concat ls)) e in
        omega arith

    items_less : (ps : Plans) → ToldAll at ps → (i : ℕ) → children_in (entries_all_lem ps i) + count_plans_lem ps ≡ length (entries_all_lem ps i)
    items_less no_plan t i = refl
    items_less (item_plan p ps) t i =
        let h = one_less p t.0 (below 0 i) in
        let r = items_less ps t.1 (i + 1) in
        let a = children_append (entries p (below 0 i)) (entries_all_lem ps (i + 1)) in
        let l = length-append (entries p (below 0 i)) (entries_all_lem ps (i + 1)) in
        omega arith

    fields_less : (fs : FieldPlans) → ToldFields at fs → (i : ℕ) → Every OneLess (fields_from fs i)
    fields_less no_field t i = tt
    fields_less (field_plan k p fs) t i = (one_less p t.1.0 (below (node_of k) i), fields_less fs t.1.1 (i + 1))

-- in a scratch

pub map_at : (f : ℕ → ℕ) (l : List ℕ) (j d : ℕ) → j < length l → get_or (map f l) j 0 ≡ f (get_or l j d)
map_at f [] j d lt = absurd (omega arith)
map_at f (x ∷ l) zero d lt = refl
map_at f (x ∷ l) (suc j) d lt = map_at f l j d (omega arith)

total_read : (scratch : List ℕ) (k i : ℕ) → children_in (read_entries scratch i k) + total scratch i ≡ total scratch (i + k)
unfolding children_in read_entries total
total_read scratch zero i = let e : i + 0 ≡ i = omega arith in rw e (omega arith)
total_read scratch (suc k) i =
    let h = total_read scratch k (i + 1) in
    let e : i + suc k ≡ i + 1 + k = omega arith in
    let s = total_next i in
    rw e (omega arith)
  where
    total_next : (i : ℕ) → total scratch (i + 1) ≡ total scratch i + children_of scratch i
    total_next i = let e : i + 1 ≡ suc i = omega arith in rw e

module _ (at : ℕ → Expr) (scratch : List ℕ) where
  pub starts_positions : (k i : ℕ) → map (position_of scratch) (starts_from scratch i k) ≡ positions (plans_read at (read_entries scratch i k))
  unfolding starts_from read_entries plans_read
  starts_positions zero i = refl
  starts_positions (suc k) i =
      ap (λ (l : List ℕ). position_of scratch i ∷ l)
      (map_drop (position_of scratch) (children_of scratch i) (starts_from scratch (i + 1) k)
      ∙ (ap (drop (children_of scratch i)) (starts_positions k (i + 1)) ∙ sym (map_drop position_in (children_of scratch i) (plans_read at (read_entries scratch (i + 1) k)))))

  placed_at : (k i : ℕ) → AllPlaced at (read_entries scratch i k) → (j : ℕ) → j < k → Positions (children_of scratch (i + j)) (positions (plans_read at (read_entries scratch (i + j + 1) (k - (j + 1)))))
  unfolding AllPlaced read_entries
  placed_at zero i a j lt = absurd (omega arith)
  placed_at (suc k) i a zero lt =
      let e : i + 0 ≡ i = omega arith in
      let z : suc k - (0 + 1) ≡ k = omega arith in
      rw (e, z) a.0
  placed_at (suc k) i a (suc j) lt =
      let e : i + suc j ≡ i + 1 + j = omega arith in
      let z : suc k - (suc j + 1) ≡ k - (j + 1) = omega arith in
      rw (e, z) (placed_at k (i + 1) a.1 j (omega arith))

  -- a plan's entries, first in the scratch, are as `link_entries` asks
  module _ (p : DestructuringPlan) (told : Told at p) (place : Place) (count : ℕ) (stands : read_entries scratch 0 count ≡ entries p place) (size : count ≡ length (entries p place)) (few : count ≤ 512) where
    all : AllPlaced at (entries p place)
    unfolding AllPlaced
    all = rw (append-nil (entries p place)) at (plan_placed at p told place [] tt)

    here : (i : ℕ) → i < count → Positions (children_of scratch i) (map (position_of scratch) (starts_from scratch (i + 1) (count - (i + 1))))
    here i lt =
        let z : 0 + i ≡ i = omega arith in
        rw (starts_positions (count - (i + 1)) (i + 1)) (rw z at (placed_at count 0 (rw stands all) i lt))

    child : (i j : ℕ) → i < count → j < children_of scratch i → get_or (map (position_of scratch) (starts_from scratch (i + 1) (count - (i + 1)))) j 0 ≡ position_of scratch (child_entry scratch count i j)
    child i j lt jt =
        let e = (here i lt).enough in
        let m = length-map (starts_from scratch (i + 1) (count - (i + 1))) (position_of scratch) in
        map_at (position_of scratch) (starts_from scratch (i + 1) (count - (i + 1))) j count (omega arith)

    room : total scratch count ≤ 512
    unfolding total
    room =
        let r = total_read scratch count 0 in
        let z : 0 + count ≡ count = omega arith in
        let q = ap (total scratch) z in
        let c = ap children_in stands in
        let l = one_less at p told place in
        omega arith

    pub plan_links : LinkAsks scratch count
    plan_links = record {
      few = few;
      room = room;
      counted = λ i lt. let e = (here i lt).enough in let m = length-map (starts_from scratch (i + 1) (count - (i + 1))) (position_of scratch) in omega arith;
      placed = λ i j lt jt. rw (child i j lt jt) at ((here i lt).within j jt);
      apart = λ i j k lt jk kt. rw (child i j lt (omega arith), child i k lt kt) at ((here i lt).apart j k jk kt);
    }
