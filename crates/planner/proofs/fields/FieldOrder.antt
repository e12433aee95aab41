-- Insertion in key order, and an array of field numbers that is kept in that order.
use Prim.Native.Nat.{ℕ, zero, suc, ◌+◌, ◌-◌, ◌*◌, ◌≤◌, ◌<◌}
use mathlib.Core.Path.{◌≡◌, refl, sym, ap, subst, ◌∙◌}
use mathlib.Core.Bool.{Bool, true, false}
use mathlib.Core.List.{List, [], ◌∷◌, ◌++◌, map, map-append, append_assoc}
use mathlib.Core.Option.{Option}
use native.Mathlib.Omega.{arith}
use borrow.Author.Tests.{eqb-true, eqb-false}
use lib.Dec.{eqb}
use lib.ListN.{length, get_or, take, drop, set, length-append, length-map, length-set, take-append-drop, get_or-append, get_or-map}
use lib.Seq.{take-nil, take-append-le, drop-append-le, take-take, get_or-take, set_split, set-append_left, take-set-lt}
use Rattle.literal.specs.Literal.{Literal, null}
use Rattle.literal.specs.Order.{Order, less, same, more, opposite, key_order, compared, comparison_of}
use Rattle.literal.specs.Laws.{TotalOrder}
use Rattle.literal.proofs.Searched.{Searches, never_none}
use Rattle.table.specs.Expr.{Expr, node_of}
use Rattle.table.specs.Tables.{child_at}
use Rattle.table.specs.Decode.{fields}
use Rattle.planner.specs.Layout.{Entry, below, literal_key, Slot, placed, insert, FieldOrder, no_fields, add_field, held_in, in_order}
use Rattle.planner.specs.code.Passes.{lay_out, lay_out_fields, order_from}
use Rattle.planner.specs.code.Ordering.{At, KeyBetween}

-- what is held, mapped

abbrev pub map_slot : {A B : Type 0} → (A → B) → Slot A → Slot B
map_slot f s = record { at = s.at; held = f s.held }

abbrev pub map_order : {A B : Type 0} → (A → B) → FieldOrder A → FieldOrder B
map_order f o = record { literals = map (map_slot f) o.literals; computed = map f o.computed }

module _ {A B : Type 0} (f : A → B) where
  pub insert_map : (s : Slot A) (ss : List (Slot A)) → insert (map_slot f s) (map (map_slot f) ss) ≡ map (map_slot f) (insert s ss)
  unfolding insert
  insert_map s [] = refl
  insert_map s (t ∷ ts) = go (key_order s.at t.at) (insert_map s ts)
    where
      go : (o : Order) → insert (map_slot f s) (map (map_slot f) ts) ≡ map (map_slot f) (insert s ts)
          → placed o (map_slot f s) (map_slot f t) (map (map_slot f) ts) (insert (map_slot f s) (map (map_slot f) ts)) ≡ map (map_slot f) (placed o s t ts (insert s ts))
      go less h = refl
      go same h = refl
      go more h = ap (λ (l : List (Slot B)). map_slot f t ∷ l) h

  pub add_map : (k : Option Literal) (a : A) (o : FieldOrder A) → add_field k (f a) (map_order f o) ≡ map_order f (add_field k a o)
  add_map Option.none a o = let e = map-append f o.computed (a ∷ []) in rw e
  add_map (Option.some l) a o = let e = insert_map (record { at = l; held = a }) o.literals in rw e

  held_map : (ss : List (Slot A)) → map held_in (map (map_slot f) ss) ≡ map f (map held_in ss)
  held_map [] = refl
  held_map (s ∷ ss) = ap (λ (l : List B). f s.held ∷ l) (held_map ss)

  pub in_order_map : (o : FieldOrder A) → in_order (map_order f o) ≡ map f (in_order o)
  in_order_map o = rw (held_map o.literals, map-append f (map held_in o.literals) o.computed)

-- field i of an object whose children begin at `first`
module _ (g : ℕ → Expr) (ch : List ℕ) (first : ℕ) where
  abbrev pub field_key : ℕ → Option Literal
  field_key i = literal_key (g (child_at ch (first + i * 2)))

module _ (b : List ℕ) (g : ℕ → Expr) (ch : List ℕ) (first : ℕ) where
  abbrev pub field_entries : ℕ → List Entry
  field_entries i = lay_out b (g (child_at ch (first + i * 2 + 1))) (below (node_of (g (child_at ch (first + i * 2)))) (i + 1))

  pub order_entries_from : (i k : ℕ) (o : FieldOrder ℕ)
      → lay_out_fields b (fields g ch (first + i * 2) k) (i + 1) (map_order field_entries o) ≡ map_order field_entries (order_from (field_key g ch first) i k o)
  unfolding fields lay_out order_from
  order_entries_from i zero o = refl
  order_entries_from i (suc k) o =
      let e = add_map field_entries (field_key g ch first i) i o in
      let a : first + i * 2 + 2 ≡ first + (i + 1) * 2 = omega arith in
      ap (λ (n : FieldOrder (List Entry)). lay_out_fields b (fields g ch (first + i * 2 + 2) k) (i + 1 + 1) n) e
      ∙ rw a (order_entries_from (i + 1) k (add_field (field_key g ch first i) i o))

  pub order_entries : (k : ℕ) → in_order (lay_out_fields b (fields g ch first k) 1 no_fields) ≡ map field_entries (in_order (order_from (field_key g ch first) 0 k no_fields))
  order_entries k =
      let z : first + 0 * 2 ≡ first = omega arith in
      ap in_order (rw z at (order_entries_from 0 k no_fields)) ∙ in_order_map field_entries (order_from (field_key g ch first) 0 k no_fields)

-- sorted slots

module _ {A : Type 0} (P : Slot A → Type 0) where
  -- P holds of every slot
  unfoldable pub AllSlots : List (Slot A) → Type 0
  AllSlots [] = Unit {0}
  AllSlots (t ∷ ts) = P t × AllSlots ts

  pub all_at : (d : Slot A) (ss : List (Slot A)) (q : ℕ) → q < length ss → AllSlots ss → P (get_or ss q d)
  unfolding AllSlots
  all_at d [] q lt all = absurd (omega arith)
  all_at d (t ∷ ts) zero lt all = all.0
  all_at d (t ∷ ts) (suc q) lt all = all_at d ts q (omega arith) all.1

  pub insert_all : (s : Slot A) (ss : List (Slot A)) → P s → AllSlots ss → AllSlots (insert s ss)
  unfolding AllSlots insert
  insert_all s [] p all = (p, tt)
  insert_all s (t ∷ ts) p all = go (key_order s.at t.at) (insert_all s ts p all.1)
    where
      go : (o : Order) → AllSlots (insert s ts) → AllSlots (placed o s t ts (insert s ts))
      go less h = (p, all)
      go same h = (p, all.1)
      go more h = (all.0, h)

-- every key comes after l
abbrev pub Above : {A : Type 0} → Literal → List (Slot A) → Type 0
Above {A} l ss = AllSlots (λ (t : Slot A). key_order l t.at ≡ less) ss

-- strictly ascending keys
unfoldable pub Sorted : {A : Type 0} → List (Slot A) → Type 0
Sorted [] = Unit {0}
Sorted (t ∷ ts) = Above t.at ts × Sorted ts

pub none_sorted : (A : Type 0) → Sorted {A = A} []
unfolding Sorted
none_sorted A = tt

module _ (laws : TotalOrder key_order) where
  flip_more : (a b : Literal) → key_order a b ≡ more → key_order b a ≡ less
  flip_more a b e = laws.antisymmetric a b ∙ ap opposite e

  flip_less : (a b : Literal) → key_order a b ≡ less → key_order b a ≡ more
  flip_less a b e = laws.antisymmetric a b ∙ ap opposite e

  module _ {A : Type 0} where
    above_trans : (l k : Literal) (ss : List (Slot A)) → key_order l k ≡ less → Above k ss → Above l ss
    unfolding AllSlots
    above_trans l k [] e a = tt
    above_trans l k (t ∷ ts) e a = (laws.transitive l k t.at e a.0, above_trans l k ts e a.1)

    pub insert_sorted : (s : Slot A) (ss : List (Slot A)) → Sorted ss → Sorted (insert s ss)
    unfolding Sorted AllSlots insert
    insert_sorted s [] h = (tt, tt)
    insert_sorted s (t ∷ ts) h = go (key_order s.at t.at) refl (insert_sorted s ts h.1)
      where
        go : (o : Order) → key_order s.at t.at ≡ o → Sorted (insert s ts) → Sorted (placed o s t ts (insert s ts))
        go less e r = ((e, above_trans s.at t.at ts e h.0), h)
        go same e r = let q = laws.equal s.at t.at e in (subst (λ (l : Literal). Above l ts) (sym q) h.0, h.1)
        go more e r = (insert_all (λ (x : Slot A). key_order t.at x.at ≡ less) s ts (flip_more s.at t.at e) h.0, r)

    pub add_sorted : (k : Option Literal) (a : A) (o : FieldOrder A) → Sorted o.literals → Sorted (add_field k a o).literals
    add_sorted Option.none a o h = h
    add_sorted (Option.some l) a o h = insert_sorted (record { at = l; held = a }) o.literals h

  pub order_sorted : (key : ℕ → Option Literal) (i k : ℕ) (o : FieldOrder ℕ) → Sorted o.literals → Sorted (order_from key i k o).literals
  unfolding order_from
  order_sorted key i zero o h = h
  order_sorted key i (suc k) o h = order_sorted key (i + 1) k (add_field (key i) i o) (add_sorted (key i) i o h)

-- insertion at a place; slot q is `get_or ss q d`, whatever the default d

module _ {A : Type 0} (d s : Slot A) where
  pub insert_place : (ss : List (Slot A)) (p : ℕ) → p ≤ length ss → ((q : ℕ) → q < p → key_order s.at (get_or ss q d).at ≡ more)
      → (p < length ss → key_order s.at (get_or ss p d).at ≡ less) → insert s ss ≡ take p ss ++ (s ∷ drop p ss)
  unfolding insert
  insert_place [] zero le before here = refl
  insert_place [] (suc p) le before here = absurd (omega arith)
  insert_place (t ∷ ts) zero le before here = let e = here (omega arith) in rw e
  insert_place (t ∷ ts) (suc p) le before here =
      let e = before 0 (omega arith) in
      let r = insert_place ts p (omega arith) (λ q lt. before (suc q) (omega arith)) (λ lt. here (omega arith)) in
      rw e (ap (λ (l : List (Slot A)). t ∷ l) r)

  pub insert_same : (ss : List (Slot A)) (p : ℕ) → p < length ss → ((q : ℕ) → q < p → key_order s.at (get_or ss q d).at ≡ more)
      → key_order s.at (get_or ss p d).at ≡ same → insert s ss ≡ take p ss ++ (s ∷ drop (suc p) ss)
  unfolding insert
  insert_same [] p lt before here = absurd (omega arith)
  insert_same (t ∷ ts) zero lt before here = rw here
  insert_same (t ∷ ts) (suc p) lt before here =
      let e = before 0 (omega arith) in
      let r = insert_same ts p (omega arith) (λ q l. before (suc q) (omega arith)) here in
      rw e (ap (λ (l : List (Slot A)). t ∷ l) r)

-- search in sorted slots

module _ {A : Type 0} (d : Slot A) where
  pub sorted_less : (ss : List (Slot A)) → Sorted ss → (q m : ℕ) → q < m → m < length ss → key_order (get_or ss q d).at (get_or ss m d).at ≡ less
  unfolding Sorted
  sorted_less [] h q m lt lt' = absurd (omega arith)
  sorted_less (t ∷ ts) h q zero lt lt' = absurd (omega arith)
  sorted_less (t ∷ ts) h zero (suc m) lt lt' = all_at (λ (x : Slot A). key_order t.at x.at ≡ less) d ts m (omega arith) h.0
  sorted_less (t ∷ ts) h (suc q) (suc m) lt lt' = sorted_less ts h.1 q m (omega arith) (omega arith)

module _ (laws : TotalOrder key_order) {A : Type 0} (d : Slot A) (l : Literal) (ss : List (Slot A)) (sorted : Sorted ss) (m : ℕ) (inside : m < length ss) where
  pub more_before : key_order l (get_or ss m d).at ≡ more → (q : ℕ) → q ≤ m → key_order l (get_or ss q d).at ≡ more
  more_before e q le = go (eqb q m) refl
    where
      go : (c : Bool) → eqb q m ≡ c → key_order l (get_or ss q d).at ≡ more
      go true h = let i = eqb-true q m h in rw i e
      go false h =
          let n = eqb-false q m h in
          flip_less laws (get_or ss q d).at l
          (laws.transitive (get_or ss q d).at (get_or ss m d).at l (sorted_less d ss sorted q m (omega arith) inside) (flip_more laws l (get_or ss m d).at e))

  pub less_behind : key_order l (get_or ss m d).at ≡ less → (q : ℕ) → m ≤ q → q < length ss → key_order l (get_or ss q d).at ≡ less
  less_behind e q le lt = go (eqb m q) refl
    where
      go : (c : Bool) → eqb m q ≡ c → key_order l (get_or ss q d).at ≡ less
      go true h = let i = eqb-true m q h in rw (← i) e
      go false h =
          let n = eqb-false m q h in
          laws.transitive l (get_or ss m d).at (get_or ss q d).at e (sorted_less d ss sorted m q (omega arith) lt)

  -- of an equal key, those before it are less
  pub same_before : key_order l (get_or ss m d).at ≡ same → (q : ℕ) → q < m → key_order l (get_or ss q d).at ≡ more
  same_before e q lt =
      let i = laws.equal l (get_or ss m d).at e in
      rw i (flip_less laws (get_or ss q d).at (get_or ss m d).at (sorted_less d ss sorted q m lt inside))

-- lists

module _ {A B : Type 0} (f : A → B) where
  pub map_take : (p : ℕ) (l : List A) → map f (take p l) ≡ take p (map f l)
  map_take zero l = refl
  map_take (suc p) [] = refl
  map_take (suc p) (a ∷ l) = ap (λ (r : List B). f a ∷ r) (map_take p l)

  pub map_drop : (p : ℕ) (l : List A) → map f (drop p l) ≡ drop p (map f l)
  map_drop zero l = refl
  map_drop (suc p) [] = refl
  map_drop (suc p) (a ∷ l) = map_drop p l

  map_set : (l : List A) (p : ℕ) (a : A) → map f (set l p a) ≡ set (map f l) p (f a)
  map_set [] p a = refl
  map_set (x ∷ l) zero a = refl
  map_set (x ∷ l) (suc p) a = ap (λ (r : List B). f x ∷ r) (map_set l p a)

module _ {A : Type 0} where
  pub drop_take : (p n : ℕ) (l : List A) → p ≤ n → drop p (take n l) ≡ take (n - p) (drop p l)
  drop_take zero n l le = let e : n - 0 ≡ n = omega arith in rw e
  drop_take (suc p) zero l le = absurd (omega arith)
  drop_take (suc p) (suc n) [] le = sym (take-nil (suc n - suc p))
  drop_take (suc p) (suc n) (a ∷ l) le = let e : suc n - suc p ≡ n - p = omega arith in rw e (drop_take p n l (omega arith))

  length_put : (p : ℕ) (a : A) (l : List A) → length (take p l ++ (a ∷ drop p l)) ≡ length l + 1
  length_put p a l =
      let x = length-append (take p l) (a ∷ drop p l) in
      let y = length-append (take p l) (drop p l) in
      let z = ap length (take-append-drop p l) in
      omega arith

-- every field has its slot's key
abbrev pub Keyed : (ℕ → Option Literal) → Slot ℕ → Type 0
Keyed key t = key t.held ≡ Option.some t.at

module _ (key : ℕ → Option Literal) where
  add_keyed : (k : Option Literal) (i : ℕ) (o : FieldOrder ℕ) → key i ≡ k → AllSlots (Keyed key) o.literals → AllSlots (Keyed key) (add_field k i o).literals
  add_keyed Option.none i o own all = all
  add_keyed (Option.some l) i o own all = insert_all (Keyed key) (record { at = l; held = i }) o.literals own all

  order_keyed : (i k : ℕ) (o : FieldOrder ℕ) → AllSlots (Keyed key) o.literals → AllSlots (Keyed key) (order_from key i k o).literals
  unfolding order_from
  order_keyed i zero o all = all
  order_keyed i (suc k) o all = order_keyed (i + 1) k (add_field (key i) i o) (add_keyed (key i) i o refl all)

-- field numbers in an array: the literal fields by key, m of them, then the computed ones, `total` in all
pub record Ordered (key : ℕ → Option Literal) (o : FieldOrder ℕ) (order : List ℕ) (m total : ℕ) : Type 0 where
  pub counted : m ≡ length o.literals
  pub sized : total ≡ length (in_order o)
  pub listed : take total order ≡ in_order o
  pub keyed : AllSlots (Keyed key) o.literals
  pub sorted : Sorted o.literals

-- by the answer of a comparison
told_order : (r r' : Order) → comparison_of r ≡ comparison_of r' → r ≡ r'
told_order less less e = refl
told_order less same e = cc
told_order less more e = cc
told_order same less e = cc
told_order same same e = refl
told_order same more e = cc
told_order more less e = cc
told_order more same e = cc
told_order more more e = refl

abbrev pub blank : Slot ℕ
blank = record { at = null; held = 0 }

module _ {key : ℕ → Option Literal} {o : FieldOrder ℕ} {order : List ℕ} {m total : ℕ} (a : Ordered key o order m total) where
  held_count : length (map held_in o.literals) ≡ m
  held_count = length-map o.literals held_in ∙ sym a.counted

  pub literals_first : m ≤ total
  literals_first =
      let h = held_count in
      let s = a.sized in
      let x = length-append (map held_in o.literals) o.computed in
      omega arith

  -- the number at a place of a literal field
  pub place_held : (q : ℕ) → q < m → get_or order q 0 ≡ (get_or o.literals q blank).held
  place_held q lt =
      let le = literals_first in
      let h = held_count in
      sym (get_or-take total order q 0 (omega arith))
      ∙ (ap (λ (l : List ℕ). get_or l q 0) a.listed
      ∙ (get_or-append (map held_in o.literals) o.computed 0 q (omega arith) ∙ get_or-map held_in o.literals q blank))

  place_key : (q : ℕ) → q < m → key (get_or order q 0) ≡ Option.some (get_or o.literals q blank).at
  place_key q lt =
      let c = a.counted in
      ap key (place_held q lt) ∙ all_at (Keyed key) blank o.literals q (omega arith) a.keyed

  -- a literal key l
  module _ {k : Option Literal} {l : Literal} (own : k ≡ Option.some l) where
    at_slot : (q : ℕ) → q < m → compared k (key (get_or order q 0)) ≡ comparison_of (key_order l (get_or o.literals q blank).at)
    unfolding compared
    at_slot q lt = rw (own, place_key q lt)

    pub to_slot : (r : Order) (q : ℕ) → q < m → At r key k order q → key_order l (get_or o.literals q blank).at ≡ r
    to_slot r q lt h = told_order (key_order l (get_or o.literals q blank).at) r (sym (at_slot q lt) ∙ h)

    from_slot : (r : Order) (q : ℕ) → q < m → key_order l (get_or o.literals q blank).at ≡ r → At r key k order q
    from_slot r q lt h = at_slot q lt ∙ ap comparison_of h

    -- what a comparison at place q says of the places before and behind
    module _ (laws : TotalOrder key_order) (q : ℕ) (lt : q < m) where
      pub order_before : At more key k order q → (i : ℕ) → i ≤ q → At more key k order i
      order_before h i le =
          let c = a.counted in
          from_slot more i (omega arith) (more_before laws blank l o.literals a.sorted q (omega arith) (to_slot more q lt h) i le)

      pub order_behind : At less key k order q → (i : ℕ) → q ≤ i → i < m → At less key k order i
      order_behind h i le lt' =
          let c = a.counted in
          from_slot less i lt' (less_behind laws blank l o.literals a.sorted q (omega arith) (to_slot less q lt h) i le (omega arith))

-- one field more

module _ (laws : TotalOrder key_order) {key : ℕ → Option Literal} {o : FieldOrder ℕ} {before : List ℕ} {m total : ℕ} (a : Ordered key o before m total) (j : ℕ) (later : List ℕ) where
  module _ (l : Literal) (own : key j ≡ Option.some l) (p : ℕ) where
    -- a new key goes in at p, and what stood there moves up
    pub ordered_insert : p ≤ m → ((q : ℕ) → q < p → At more key (key j) before q) → (p < m → At less key (key j) before p)
        → take (total + 1) later ≡ take p before ++ (j ∷ take (total - p) (drop p before))
        → Ordered key (add_field (key j) j o) later (m + 1) (total + 1)
    ordered_insert le front here moved =
        subst (λ (k : Option Literal). Ordered key (add_field k j o) later (m + 1) (total + 1)) (sym own) (record {
          counted = sym (ap length put ∙ (length_put p s ss ∙ ap (λ (n : ℕ). n + 1) (sym c)));
          sized = sym (ap length whole ∙ (length_put p j (in_order o) ∙ ap (λ (n : ℕ). n + 1) (sym a.sized)));
          listed = moved ∙ (parts_moved ∙ sym whole);
          keyed = add_keyed key (Option.some l) j o own a.keyed;
          sorted = insert_sorted laws s ss a.sorted;
        })
      where
        s : Slot ℕ
        s = record { at = l; held = j }

        ss : List (Slot ℕ)
        ss = o.literals

        hs : List ℕ
        hs = map held_in ss

        c : m ≡ length ss
        c = a.counted

        put : insert s ss ≡ take p ss ++ (s ∷ drop p ss)
        put = let e = c in
            insert_place blank s ss p (omega arith) (λ q lt. to_slot a own more q (omega arith) (front q lt)) (λ lt. to_slot a own less p (omega arith) (here (omega arith)))

        -- in the whole order too
        whole : map held_in (insert s ss) ++ o.computed ≡ take p (in_order o) ++ (j ∷ drop p (in_order o))
        whole =
            let n = held_count a in
            ap (λ (r : List (Slot ℕ)). map held_in r ++ o.computed) put
            ∙ rw (
              map-append held_in (take p ss) (s ∷ drop p ss),
              map_take held_in p ss,
              map_drop held_in p ss,
              append_assoc (take p hs) (j ∷ drop p hs) o.computed,
              take-append-le p hs o.computed (omega arith),
              drop-append-le p hs o.computed (omega arith),
            )

        parts_moved : take p before ++ (j ∷ take (total - p) (drop p before)) ≡ take p (in_order o) ++ (j ∷ drop p (in_order o))
        parts_moved =
            let f = literals_first a in
            rw (← a.listed, take-take p total before (omega arith), drop_take p total before (omega arith))

    -- an equal key at p is replaced
    pub ordered_replace : p < m → At same key (key j) before p → later ≡ set before p j → Ordered key (add_field (key j) j o) later m total
    ordered_replace lt here changed =
        subst (λ (k : Option Literal). Ordered key (add_field k j o) later m total) (sym own) (record {
          counted = sym (ap length put ∙ (length-set ss p s ∙ sym c));
          sized = sym (ap length whole ∙ (length-set (in_order o) p j ∙ sym a.sized));
          listed = ap (take total) changed ∙ (take-set-lt total before p j (let f = literals_first a in omega arith) ∙ (ap (λ (r : List ℕ). set r p j) a.listed ∙ sym whole));
          keyed = add_keyed key (Option.some l) j o own a.keyed;
          sorted = insert_sorted laws s ss a.sorted;
        })
      where
        s : Slot ℕ
        s = record { at = l; held = j }

        ss : List (Slot ℕ)
        ss = o.literals

        c : m ≡ length ss
        c = a.counted

        put : insert s ss ≡ set ss p s
        put =
            let e = c in
            let h = to_slot a own same p lt here in
            insert_same blank s ss p (omega arith) (same_before laws blank l ss a.sorted p (omega arith) h) h ∙ sym (set_split ss p s (omega arith))

        whole : map held_in (insert s ss) ++ o.computed ≡ set (in_order o) p j
        whole =
            let n = held_count a in
            ap (λ (r : List (Slot ℕ)). map held_in r ++ o.computed) put
            ∙ rw (map_set held_in ss p s, set-append_left (map held_in ss) o.computed p j (omega arith))

  -- a computed field goes to the end
  pub ordered_append : key j ≡ Option.none → take (total + 1) later ≡ take total before ++ (j ∷ []) → Ordered key (add_field (key j) j o) later m (total + 1)
  ordered_append own added =
      subst (λ (k : Option Literal). Ordered key (add_field k j o) later m (total + 1)) (sym own) (record {
        counted = a.counted;
        sized =
            let x = ap length (append_assoc (map held_in o.literals) o.computed (j ∷ [])) in
            let y = length-append (in_order o) (j ∷ []) in
            let z = a.sized in
            omega arith;
        listed = added ∙ (ap (λ (r : List ℕ). r ++ (j ∷ [])) a.listed ∙ append_assoc (map held_in o.literals) o.computed (j ∷ []));
        keyed = a.keyed;
        sorted = a.sorted;
      })

-- search

module _ (laws : TotalOrder key_order) {key : ℕ → Option Literal} {o : FieldOrder ℕ} {order : List ℕ} {m total : ℕ} (a : Ordered key o order m total)
    {k : Option Literal} {l : Literal} (own : k ≡ Option.some l) where
  pub keys_search : m ≤ length order → Searches (λ x. compared k (key x)) order 0 m
  keys_search fits = record {
    fits = fits;
    before = order_before a own laws;
    behind = order_behind a own laws;
    told = λ q lt e. never_none _ (sym (at_slot a own q lt) ∙ e);
  }

-- nothing between: the key is new, and goes in at low
pub between_insert : (laws : TotalOrder key_order) {key : ℕ → Option Literal} {o : FieldOrder ℕ} {order : List ℕ} {m total : ℕ} → Ordered key o order m total
    → {j : ℕ} {l : Literal} → key j ≡ Option.some l → {low high : ℕ} → KeyBetween key (key j) order m low high
    → high ≤ low → (later : List ℕ) → take (total + 1) later ≡ take low order ++ (j ∷ take (total - low) (drop low order))
    → Ordered key (add_field (key j) j o) later (m + 1) (total + 1)
between_insert laws a {j} {l} own {low} b closed later moved =
    let i = b.inside in
    let n = b.spans in
    ordered_insert laws a j later l own low (omega arith) b.before (λ lt. b.behind low closed lt) moved

-- the first k fields

module _ (key : ℕ → Option Literal) where
  -- one field more at the end
  pub order_snoc : (i k : ℕ) (o : FieldOrder ℕ) → order_from key i (k + 1) o ≡ add_field (key (i + k)) (i + k) (order_from key i k o)
  unfolding order_from
  order_snoc i zero o = let e : i + 0 ≡ i = omega arith in rw e
  order_snoc i (suc k) o =
      let n : suc k + 1 ≡ suc (k + 1) = omega arith in
      let e : i + suc k ≡ i + 1 + k = omega arith in
      ap (λ (n : ℕ). order_from key i n o) n
      ∙ (order_snoc (i + 1) k (add_field (key i) i o) ∙ sym (ap (λ (n : ℕ). add_field (key n) n (order_from key i (suc k) o)) e))

  pub order_next : (k : ℕ) → order_from key 0 (k + 1) no_fields ≡ add_field (key k) k (order_from key 0 k no_fields)
  order_next k = let e : 0 + k ≡ k = omega arith in rw e at (order_snoc 0 k no_fields)

  -- the first k fields in order
  pub ordered_first : (laws : TotalOrder key_order) (k : ℕ) (order : List ℕ) {m total : ℕ} → m ≡ length (order_from key 0 k no_fields).literals → total ≡ length (in_order (order_from key 0 k no_fields))
      → take total order ≡ in_order (order_from key 0 k no_fields) → Ordered key (order_from key 0 k no_fields) order m total
  unfolding AllSlots
  ordered_first laws k order counted sized listed = record {
    counted = counted;
    sized = sized;
    listed = listed;
    keyed = order_keyed key 0 k no_fields tt;
    sorted = order_sorted laws key 0 k no_fields (none_sorted ℕ);
  }
