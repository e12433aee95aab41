-- Fields in key order, put in the order of their positions, are the fields as written.
use Prim.Native.Nat.{ℕ, ◌+◌, ◌<◌}
use mathlib.Core.Path.{◌≡◌, refl, sym, ap, ◌∙◌}
use mathlib.Core.Bool.{Bool, true, false, cond, ◌||◌, not, false≢true}
use mathlib.Core.List.{List, [], ◌∷◌, ◌++◌, map, append_assoc, append-nil}
use mathlib.Core.Option.{Option}
use native.Mathlib.Omega.{arith}
use borrow.Author.Tests.{le-leb, lt-leb, not-true}
use lib.Dec.{leb}
use Rattle.literal.specs.Literal.{Literal}
use Rattle.literal.specs.Order.{Order, less, same, more, opposite, key_order}
use Rattle.literal.proofs.Orders.{key_order_lem}
use Rattle.table.specs.Expr.{node_of}
use Rattle.table.specs.Names.{is_same}
use Rattle.table.proofs.tests.Bools.{and_true}
use Rattle.planner.specs.Layout.{below, literal_key, Slot, placed, insert, FieldOrder, no_fields, add_field, held_in, in_order}
use Rattle.planner.specs.Plan.{FieldPlans, no_field, field_plan}
use Rattle.planner.specs.Simple.{same_key, has_key, differing, add_key}
use Rattle.planner.proofs.fields.FieldOrder.{AllSlots, insert_all}
use Rattle.matching.specs.Matching.{plan_keys}
use Rattle.matching.specs.Reading.{PlacedPlan, standing, insert_written, as_written}

-- all positions are before i
unfoldable pub Before : ℕ → List PlacedPlan → Type 0
Before i [] = Unit {0}
Before i (q ∷ qs) = (q.place.position < i) × Before i qs

-- ys is xs with t put in somewhere
pub data Inserted (t : PlacedPlan) : List PlacedPlan → List PlacedPlan → Type 0 where
  first : (xs : List PlacedPlan) → Inserted t xs (t ∷ xs)
  later : (x : PlacedPlan) (xs ys : List PlacedPlan) → Inserted t xs ys → Inserted t (x ∷ xs) (x ∷ ys)

insert_before : (i : ℕ) (p : PlacedPlan) (qs : List PlacedPlan) → p.place.position < i → Before i qs → Before i (insert_written p qs)
unfolding Before insert_written
insert_before i p [] lt b = (lt, tt)
insert_before i p (q ∷ qs) lt b = go (leb p.place.position q.place.position) (insert_before i p qs lt b.1)
  where
    go : (c : Bool) → Before i (insert_written p qs) → Before i (cond c (p ∷ (q ∷ qs)) (q ∷ insert_written p qs))
    go true h = (lt, b)
    go false h = (b.0, h)

sorted_before : (i : ℕ) (ps : List PlacedPlan) → Before i ps → Before i (as_written ps)
unfolding Before as_written
sorted_before i [] b = tt
sorted_before i (p ∷ ps) b = insert_before i p (as_written ps) b.0 (sorted_before i ps b.1)

-- one behind all others goes to the end
goes_last : (t : PlacedPlan) (qs : List PlacedPlan) → Before t.place.position qs → insert_written t qs ≡ qs ++ (t ∷ [])
unfolding Before insert_written
goes_last t [] b = refl
goes_last t (q ∷ qs) b =
    let lt = b.0 in
    let e : leb t.place.position q.place.position ≡ false = lt-leb t.place.position q.place.position lt in
    rw e (ap (λ (l : List PlacedPlan). q ∷ l) (goes_last t qs b.1))

stays_last : (x t : PlacedPlan) (qs : List PlacedPlan) → x.place.position < t.place.position → insert_written x (qs ++ (t ∷ [])) ≡ insert_written x qs ++ (t ∷ [])
unfolding insert_written
stays_last x t [] lt = let e : leb x.place.position t.place.position ≡ true = le-leb x.place.position t.place.position (omega arith) in rw e
stays_last x t (q ∷ qs) lt = go (leb x.place.position q.place.position) (stays_last x t qs lt)
  where
    go : (c : Bool) → insert_written x (qs ++ (t ∷ [])) ≡ insert_written x qs ++ (t ∷ [])
        → cond c (x ∷ (q ∷ (qs ++ (t ∷ [])))) (q ∷ insert_written x (qs ++ (t ∷ []))) ≡ cond c (x ∷ (q ∷ qs)) (q ∷ insert_written x qs) ++ (t ∷ [])
    go true h = refl
    go false h = ap (λ (l : List PlacedPlan). q ∷ l) h

pub put_last : (t : PlacedPlan) {xs ys : List PlacedPlan} → Inserted t xs ys → Before t.place.position xs → as_written ys ≡ as_written xs ++ (t ∷ [])
unfolding as_written Before
put_last t (first xs) b = goes_last t (as_written xs) (sorted_before t.place.position xs b)
put_last t (later x xs ys h) b = ap (insert_written x) (put_last t h b.1) ∙ stays_last x t (as_written xs) b.0

before_more : (i : ℕ) (xs : List PlacedPlan) → Before i xs → Before (i + 1) xs
unfolding Before
before_more i [] b = tt
before_more i (x ∷ xs) b = let lt = b.0 in (omega arith, before_more i xs b.1)

pub put_before : (t : PlacedPlan) {xs ys : List PlacedPlan} → Inserted t xs ys → Before t.place.position xs → Before (t.place.position + 1) ys
unfolding Before
put_before t (first xs) b = (omega arith, before_more t.place.position xs b)
put_before t (later x xs ys h) b = let lt = b.0 in (omega arith, put_before t h b.1)

put_left : (t : PlacedPlan) {xs ys : List PlacedPlan} (zs : List PlacedPlan) → Inserted t xs ys → Inserted t (xs ++ zs) (ys ++ zs)
put_left t zs (first xs) = first (xs ++ zs)
put_left t zs (later x xs ys h) = later x (xs ++ zs) (ys ++ zs) (put_left t zs h)

put_end : (t : PlacedPlan) (xs : List PlacedPlan) → Inserted t xs (xs ++ (t ∷ []))
put_end t [] = first []
put_end t (x ∷ xs) = later x xs (xs ++ (t ∷ [])) (put_end t xs)

-- a slot of a new key goes in beside the others
Other : Literal → Slot PlacedPlan → Type 0
Other l s = same_key s.at l ≡ false

put_slot : (s : Slot PlacedPlan) (ss : List (Slot PlacedPlan)) → AllSlots (Other s.at) ss → Inserted s.held (map held_in ss) (map held_in (insert s ss))
unfolding insert AllSlots Other
put_slot s [] other = first []
put_slot s (t ∷ ts) other = go (key_order s.at t.at) refl (put_slot s ts other.1)
  where
    go : (o : Order) → key_order s.at t.at ≡ o → Inserted s.held (map held_in ts) (map held_in (insert s ts)) → Inserted s.held (map held_in (t ∷ ts)) (map held_in (placed o s t ts (insert s ts)))
    go less e h = first (map held_in (t ∷ ts))
    go same e h = absurd (false≢true (sym other.0 ∙ ap is_same (key_order_lem.antisymmetric s.at t.at ∙ ap opposite e)))
    go more e h = later t.held (map held_in ts) (map held_in (insert s ts)) h

-- no slot's key is among keys to come
unfoldable pub Coming : List Literal → Slot PlacedPlan → Type 0
Coming ls s = has_key s.at ls ≡ false

split_or : (x y : Bool) → (x || y) ≡ false → (x ≡ false) × (y ≡ false)
split_or true y e = absurd (false≢true (sym e))
split_or false y e = (refl, e)

coming_split : (l : Literal) (ls : List Literal) (ss : List (Slot PlacedPlan)) → AllSlots (Coming (l ∷ ls)) ss → AllSlots (Other l) ss × AllSlots (Coming ls) ss
unfolding AllSlots Coming Other has_key
coming_split l ls [] c = (tt, tt)
coming_split l ls (s ∷ ss) c =
    let p = split_or (same_key s.at l) (has_key s.at ls) c.0 in
    let q = coming_split l ls ss c.1 in
    ((p.0, q.0), (p.1, q.1))

differing_cons : (l : Literal) (ls : List Literal) → differing (l ∷ ls) ≡ true → (has_key l ls ≡ false) × (differing ls ≡ true)
unfolding differing
differing_cons l ls d = let p = and_true (not (has_key l ls)) (differing ls) d in (not-true (has_key l ls) p.0, p.1)

-- a field added: put in beside the others
pub record Adds (key : Option Literal) (ls : List Literal) (q : PlacedPlan) (o : FieldOrder PlacedPlan) : Type 0 where
  pub put : Inserted q (in_order o) (in_order (add_field key q o))
  pub fresh : AllSlots (Coming ls) (add_field key q o).literals
  pub distinct : differing ls ≡ true

pub adds : (key : Option Literal) (ls : List Literal) (q : PlacedPlan) (o : FieldOrder PlacedPlan) → differing (add_key key ls) ≡ true → AllSlots (Coming (add_key key ls)) o.literals → Adds key ls q o
unfolding Coming
adds Option.none ls q o d c = record {
  put = rw (sym (append_assoc (map held_in o.literals) o.computed (q ∷ []))) (put_end q (map held_in o.literals ++ o.computed));
  fresh = c;
  distinct = d;
}
adds (Option.some l) ls q o d c =
    let e = differing_cons l ls d in
    let p = coming_split l ls o.literals c in
    record {
      put = put_left q o.computed (put_slot (record { at = l; held = q }) o.literals p.0);
      fresh = insert_all (Coming ls) (record { at = l; held = q }) o.literals e.0 p.1;
      distinct = e.1;
    }

-- the fields' plans, as written from a position on
unfoldable pub fields_from : FieldPlans → ℕ → List PlacedPlan
fields_from no_field i = []
fields_from (field_plan k p fs) i = standing p (below (node_of k) i) ∷ fields_from fs (i + 1)

-- and in key order
unfoldable pub placed_order : FieldPlans → ℕ → FieldOrder PlacedPlan → FieldOrder PlacedPlan
placed_order no_field i o = o
placed_order (field_plan k p fs) i o = placed_order fs (i + 1) (add_field (literal_key k) (standing p (below (node_of k) i)) o)

written_from : (fs : FieldPlans) (i : ℕ) (o : FieldOrder PlacedPlan) → differing (plan_keys fs) ≡ true → AllSlots (Coming (plan_keys fs)) o.literals → Before i (in_order o)
    → as_written (in_order (placed_order fs i o)) ≡ as_written (in_order o) ++ fields_from fs i
unfolding fields_from placed_order plan_keys
written_from no_field i o d c b = sym (append-nil (as_written (in_order o)))
written_from (field_plan k p fs) i o d c b =
    let q : PlacedPlan = standing p (below (node_of k) i) in
    let a = adds (literal_key k) (plan_keys fs) q o d c in
    written_from fs (i + 1) (add_field (literal_key k) q o) a.distinct a.fresh (put_before q a.put b)
    ∙ (ap (λ (l : List PlacedPlan). l ++ fields_from fs (i + 1)) (put_last q a.put b)
    ∙ append_assoc (as_written (in_order o)) (q ∷ []) (fields_from fs (i + 1)))

-- fields in key order are, by their positions, the fields as written
pub written_order : (fs : FieldPlans) (i : ℕ) → differing (plan_keys fs) ≡ true → as_written (in_order (placed_order fs i no_fields)) ≡ fields_from fs i
unfolding AllSlots Before as_written
written_order fs i d = written_from fs i no_fields d tt tt

-- what holds of each field's plan holds in key order too
module _ (P : PlacedPlan → Type 0) where
  unfoldable pub Every : List PlacedPlan → Type 0
  Every [] = Unit {0}
  Every (q ∷ qs) = P q × Every qs

  every_put : (t : PlacedPlan) {xs ys : List PlacedPlan} → Inserted t xs ys → P t → Every xs → Every ys
  unfolding Every
  every_put t (first xs) p all = (p, all)
  every_put t (later x xs ys h) p all = (all.0, every_put t h p all.1)

  every_from : (fs : FieldPlans) (i : ℕ) (o : FieldOrder PlacedPlan) → differing (plan_keys fs) ≡ true → AllSlots (Coming (plan_keys fs)) o.literals → Every (fields_from fs i) → Every (in_order o) → Every (in_order (placed_order fs i o))
  unfolding Every fields_from placed_order plan_keys
  every_from no_field i o d c all so_far = so_far
  every_from (field_plan k p fs) i o d c all so_far =
      let q : PlacedPlan = standing p (below (node_of k) i) in
      let a = adds (literal_key k) (plan_keys fs) q o d c in
      every_from fs (i + 1) (add_field (literal_key k) q o) a.distinct a.fresh all.1 (every_put q a.put all.0 so_far)

  pub every_order : (fs : FieldPlans) (i : ℕ) → differing (plan_keys fs) ≡ true → Every (fields_from fs i) → Every (in_order (placed_order fs i no_fields))
  unfolding Every AllSlots
  every_order fs i d all = every_from fs i no_fields d tt all tt
