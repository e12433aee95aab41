-- Unification over a graph of places: classes of places that must have one value are joined_classes, in rounds over all places, until nothing more is forced; then the class of the start is built.
-- This is the way the code goes; what it comes to is said in Overlap.
use Rattle.std.specs.Prelude.{ℕ, zero, suc, ◌+◌, Bool, true, false, List, [], ◌∷◌, eqb}
use Rattle.std.proofs.Math.Option.{Option, none, some}
use Rattle.literal.specs.Literal.{Literal}
use Rattle.planner.specs.Layout.{Slot}
use Rattle.planner.specs.Simple.{same_key}
use Rattle.common_example.specs.Overlap.{Template, hole, literalᵗ, arrayᵗ, objectᵗ, Templates, noneᵗ, itemᵗ, TemplateFields, doneᵗ, fieldᵗ}

-- what is known of a place: nothing, a literal, an array of places, an object with places under its keys, in key order
pub data Keyed (P : Type 0) : Type 0 where
  no_key : Keyed P
  keyed_by : Literal → P → Keyed P → Keyed P

pub data Head (P : Type 0) : Type 0 where
  free : Head P
  leaf : Literal → Head P
  items : List P → Head P
  keyed : Keyed P → Head P

-- of slots in key order
unfoldable pub keyed_in : {P : Type 0} → List (Slot P) → Keyed P
keyed_in [] = no_key
keyed_in (s ∷ ss) = keyed_by s.at s.held (keyed_in ss)

-- pairs of places that are still to be joined_classes
pub data Pairs (P : Type 0) : Type 0 where
  no_pair_lem : Pairs P
  pair : P → P → Pairs P → Pairs P

module _ {P : Type 0} where
  abbrev pub is_free : Head P → Bool
  is_free free = true
  is_free (leaf l) = false
  is_free (items ps) = false
  is_free (keyed fs) = false

  unfoldable pub keys_in : Keyed P → List Literal
  keys_in no_key = []
  keys_in (keyed_by k p fs) = k ∷ keys_in fs

  abbrev pub pick_place : Bool → P → Option P → Option P
  pick_place true p o = some p
  pick_place false p o = o

  unfoldable pub place_under : Literal → Keyed P → Option P
  place_under k no_key = none
  place_under k (keyed_by l p fs) = pick_place (same_key k l) p (place_under k fs)

  abbrev pub add_pair : P → P → Option (Pairs P) → Option (Pairs P)
  add_pair a b (some w) = some (pair a b w)
  add_pair a b none = none

  abbrev pub when : Bool → Option (Pairs P) → Option (Pairs P)
  when true o = o
  when false o = none

  -- the items of two arrays, joined_classes in pairs before the pairs w; none if the lengths differ
  unfoldable pub meet_items : List P → List P → Pairs P → Option (Pairs P)
  meet_items [] [] w = some w
  meet_items [] (b ∷ bs) w = none
  meet_items (a ∷ as') [] w = none
  meet_items (a ∷ as') (b ∷ bs) w = add_pair a b (meet_items as' bs w)

  -- the fields of two objects, both in key order; none if the keys differ
  unfoldable pub meet_fields : Keyed P → Keyed P → Pairs P → Option (Pairs P)
  meet_fields no_key no_key w = some w
  meet_fields no_key (keyed_by l b gs) w = none
  meet_fields (keyed_by k a fs) no_key w = none
  meet_fields (keyed_by k a fs) (keyed_by l b gs) w = when (same_key k l) (add_pair a b (meet_fields fs gs w))

  -- what joining two classes joins further; none if no value has both heads
  unfoldable pub meet : Head P → Head P → Pairs P → Option (Pairs P)
  meet free k w = some w
  meet (leaf l) free w = some w
  meet (leaf l) (leaf m) w = when (same_key l m) (some w)
  meet (leaf l) (items bs) w = none
  meet (leaf l) (keyed gs) w = none
  meet (items as') free w = some w
  meet (items as') (leaf m) w = none
  meet (items as') (items bs) w = meet_items as' bs w
  meet (items as') (keyed gs) w = none
  meet (keyed fs) free w = some w
  meet (keyed fs) (leaf m) w = none
  meet (keyed fs) (items bs) w = none
  meet (keyed fs) (keyed gs) w = meet_fields fs gs w

-- Each class is named by one of its places, which says what is known of the class.
pub data Closing (P : Type 0) : Type 0 where
  closed : (P → P) → Closing P
  conflict : Closing P
  unfinished : Closing P

abbrev pub one_if : Bool → ℕ
one_if true = 1
one_if false = 0

-- how many of a list pass a test
unfoldable pub count_where : {P : Type 0} → (P → Bool) → List P → ℕ
count_where f [] = 0
count_where f (p ∷ ps) = one_if (f p) + count_where f ps

module _ {P : Type 0} (sameP : P → P → Bool) (g : P → Head P) where
  abbrev pub pick_class : Bool → P → P → P
  pick_class true a b = a
  pick_class false a b = b

  -- class b goes into class a
  abbrev pub into : P → P → (P → P) → P → P
  into a b c i = pick_class (sameP (c i) b) a (c i)

  -- of two classes the one of which something is known names both
  abbrev pub joined_classes : Bool → P → P → (P → P) → P → P
  joined_classes true a b c = into b a c
  joined_classes false a b c = into a b c

  abbrev pub unless_same : Bool → (P → P) → (P → P) → P → P
  unless_same true c d = c
  unless_same false c d = d

  -- the classes of two places become one
  abbrev pub join_pair : P → P → (P → P) → P → P
  join_pair a b c = unless_same (sameP (c a) (c b)) c (joined_classes (is_free (g (c a))) (c a) (c b) c)

  unfoldable pub join_pairs : Pairs P → (P → P) → P → P
  join_pairs no_pair_lem c = c
  join_pairs (pair a b w) c = join_pairs w (join_pair a b c)

  abbrev pub join_met : Option (Pairs P) → (P → P) → Option (P → P)
  join_met none c = none
  join_met (some w) c = some (join_pairs w c)

  -- a place's value has its class's head and its own
  abbrev pub meet_at : P → (P → P) → Option (P → P)
  meet_at p c = join_met (meet (g (c p)) (g p) no_pair_lem) c

  abbrev pub onward : Option (P → P) → ((P → P) → Option (P → P)) → Option (P → P)
  onward none next = none
  onward (some c) next = next c

  -- each place in turn
  unfoldable pub round : List P → (P → P) → Option (P → P)
  round [] c = some c
  round (p ∷ ps) c = onward (meet_at p c) (round ps)

  abbrev pub class_count : List P → (P → P) → ℕ
  class_count all c = count_where (λ p. sameP (c p) p) all

  abbrev pub unless_closed : Bool → (P → P) → Closing P → Closing P
  unless_closed true c next = closed c
  unless_closed false c next = next

  abbrev pub after_round : List P → ℕ → Option (P → P) → ((P → P) → Closing P) → Closing P
  after_round all before none next = conflict
  after_round all before (some c) next = unless_closed (eqb (class_count all c) before) c (next c)

  -- rounds, at most m, until one joins nothing
  unfoldable pub close : List P → ℕ → (P → P) → Closing P
  close all zero c = unfinished
  close all (suc m) c = after_round all (class_count all c) (round all c) (close all m)

module _ {P : Type 0} where
  abbrev pub of_items : Option (Templates P) → Option (Template P)
  of_items (some ts) = some (arrayᵗ ts)
  of_items none = none

  abbrev pub of_fields : Option (TemplateFields P) → Option (Template P)
  of_fields (some fs) = some (objectᵗ fs)
  of_fields none = none

  abbrev pub and_item : Option (Template P) → Option (Templates P) → Option (Templates P)
  and_item (some t) (some ts) = some (itemᵗ t ts)
  and_item (some t) none = none
  and_item none o = none

  abbrev pub and_field : Literal → Option (Template P) → Option (TemplateFields P) → Option (TemplateFields P)
  and_field k (some t) (some fs) = some (fieldᵗ k t fs)
  and_field k (some t) none = none
  and_field k none o = none

  unfoldable pub build_items : (P → Option (Template P)) → List P → Option (Templates P)
  build_items f [] = some noneᵗ
  build_items f (p ∷ ps) = and_item (f p) (build_items f ps)

  unfoldable pub build_fields : (P → Option (Template P)) → Keyed P → Option (TemplateFields P)
  build_fields f no_key = some doneᵗ
  build_fields f (keyed_by k p fs) = and_field k (f p) (build_fields f fs)

  abbrev pub build_head : (P → Option (Template P)) → P → Head P → Option (Template P)
  build_head f p free = some (hole p)
  build_head f p (leaf l) = some (literalᵗ l)
  build_head f p (items ps) = of_items (build_items f ps)
  build_head f p (keyed fs) = of_fields (build_fields f fs)

  -- the template of a place, at most `fuel` levels deep
  unfoldable pub build : (P → Head P) → (P → P) → ℕ → P → Option (Template P)
  build g c zero p = none
  build g c (suc fuel) p = build_head (build g c fuel) (c p) (g (c p))

module _ {P : Type 0} (sameP : P → P → Bool) (g : P → Head P) where
  abbrev pub unified_by : ℕ → P → Closing P → Option (Template P)
  unified_by n a (closed c) = build g c n a
  unified_by n a conflict = none
  unified_by n a unfinished = none

  -- the template of two places that must have one value; `all` are the places, n of them: a join for each and a level for each are enough
  unfoldable pub unified : List P → ℕ → P → P → Option (Template P)
  unified all n a b = unified_by n a (close sameP g all (suc n) (join_pair sameP g a b (λ p. p)))
