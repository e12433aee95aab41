-- By the links, an object's fields and an array's items are found as written.
use Prim.Native.Nat.{ℕ, zero, suc, ◌+◌, ◌-◌, ◌<◌}
use mathlib.Core.Path.{◌≡◌, refl, sym, ap, ◌∙◌}
use mathlib.Core.Bool.{Bool, true, false, cond}
use mathlib.Core.List.{List, [], ◌∷◌, ◌++◌, map}
use native.Mathlib.Omega.{arith}
use lib.Dec.{leb}
use lib.ListN.{length, get_or, drop, length-append, length-map}
use Rattle.table.specs.Expr.{Expr}
use Rattle.planner.specs.Layout.{Entry, Place, entries, field_order, no_fields, in_order, concat}
use Rattle.planner.specs.Entries.{read_entries}
use Rattle.planner.specs.Plan.{array_plan, object_plan, Plans, no_plan, item_plan, FieldPlans, no_field, field_plan}
use Rattle.planner.specs.Simple.{differing}
use Rattle.matching.specs.Matching.{plan_keys}
use Rattle.matching.specs.Reading.{PlacedPlan, insert_written, as_written, plans_read}
use Rattle.matching.specs.code.Post.{StandsAt}
use Rattle.matching.specs.code.Linking.{children_of, position_of, starts_from, child_entry, LinkedAt}
use Rattle.matching.proofs.reading.WrittenOrder.{fields_from, placed_order, written_order, Every, every_order}
use Rattle.matching.proofs.reading.ReadBack.{Told, lay, items_from, items_counted, in_order_laid, read_items, read_object}
use Rattle.matching.proofs.reading.Tails.{no_placed, tails, Passed, concat_tail, items_laid, items_passed, fields_passed, starts_tails}
use Rattle.matching.proofs.reading.LinkedPlans.{position_in, positions, starts_positions, map_at}

-- a plan of the list in written order is one of the list

abbrev InList : PlacedPlan → List PlacedPlan → Type 0
InList t qs = (j : ℕ) × (j < length qs) × (get_or qs j no_placed ≡ t)

in_first : (t : PlacedPlan) (qs : List PlacedPlan) → InList t (t ∷ qs)
in_first t qs = (0, omega arith, refl)

in_later : (t q : PlacedPlan) (qs : List PlacedPlan) → InList t qs → InList t (q ∷ qs)
in_later t q qs m = let (j, lt, e) = m in (suc j, omega arith, e)

in_swapped : (t p q : PlacedPlan) (qs : List PlacedPlan) → InList t (p ∷ qs) → InList t (p ∷ (q ∷ qs))
in_swapped t p q qs m = by m.0 m.1 m.2
  where
    by : (j : ℕ) → j < length (p ∷ qs) → get_or (p ∷ qs) j no_placed ≡ t → InList t (p ∷ (q ∷ qs))
    by zero lt e = (0, omega arith, e)
    by (suc j) lt e = (suc (suc j), omega arith, e)

put_in : (p : PlacedPlan) (qs : List PlacedPlan) (i : ℕ) → i < length (insert_written p qs) → InList (get_or (insert_written p qs) i no_placed) (p ∷ qs)
unfolding insert_written
put_in p [] zero lt = in_first p []
put_in p [] (suc i) lt = absurd (omega arith)
put_in p (q ∷ qs) i lt = go (leb p.place.position q.place.position) i lt (λ j jt. put_in p qs j jt)
  where
    go : (c : Bool) (i : ℕ) → i < length (cond c (p ∷ (q ∷ qs)) (q ∷ insert_written p qs)) → ((j : ℕ) → j < length (insert_written p qs) → InList (get_or (insert_written p qs) j no_placed) (p ∷ qs))
        → InList (get_or (cond c (p ∷ (q ∷ qs)) (q ∷ insert_written p qs)) i no_placed) (p ∷ (q ∷ qs))
    go true i it h = (i, it, refl)
    go false zero it h = in_later q p (q ∷ qs) (in_first q qs)
    go false (suc i) it h = in_swapped (get_or (insert_written p qs) i no_placed) p q qs (h i (omega arith))

written_in : (qs : List PlacedPlan) (i : ℕ) → i < length (as_written qs) → InList (get_or (as_written qs) i no_placed) qs
unfolding as_written
written_in [] i lt = absurd (omega arith)
written_in (q ∷ qs) i lt = let m = put_in q (as_written qs) i lt in go m.0 m.1 m.2 (λ j jt. written_in qs j jt)
  where
    go : (j : ℕ) → j < length (q ∷ as_written qs) → get_or (q ∷ as_written qs) j no_placed ≡ get_or (insert_written q (as_written qs)) i no_placed
        → ((k : ℕ) → k < length (as_written qs) → InList (get_or (as_written qs) k no_placed) qs) → InList (get_or (insert_written q (as_written qs)) i no_placed) (q ∷ qs)
    go zero jt e h = rw (← e) (in_first q qs)
    go (suc j) jt e h = rw (← e) (in_later (get_or (as_written qs) j no_placed) q qs (h j (omega arith)))

field_position : (fs : FieldPlans) (i j : ℕ) → j < length (fields_from fs i) → position_in (get_or (fields_from fs i) j no_placed) ≡ i + j
unfolding fields_from
field_position no_field i j lt = absurd (omega arith)
field_position (field_plan k p fs) i zero lt = omega arith
field_position (field_plan k p fs) i (suc j) lt = field_position fs (i + 1) j (omega arith) ∙ omega arith

item_position : (ps : Plans) (i j : ℕ) → j < length (items_from ps i) → position_in (get_or (items_from ps i) j no_placed) ≡ i + j
unfolding items_from
item_position no_plan i j lt = absurd (omega arith)
item_position (item_plan p ps) i zero lt = omega arith
item_position (item_plan p ps) i (suc j) lt = item_position ps (i + 1) j (omega arith) ∙ omega arith

abbrev pub head_children : List Entry → ℕ
head_children [] = 0
head_children (e ∷ es) = e.children

module _ (at : ℕ → Expr) (scratch : List ℕ) (size i start : ℕ) (links : List ℕ) (lt : i < size) (linked : LinkedAt scratch size i start links) where
  -- some plan among the children's is found at its position
  child_linked : (qs : List PlacedPlan) (rest : List Entry) → Every Passed qs → read_entries scratch (i + 1) (size - (i + 1)) ≡ concat (map lay qs) ++ rest
      → plans_read at (read_entries scratch (i + 1) (size - (i + 1))) ≡ qs ++ plans_read at rest → children_of scratch i ≡ length qs
      → (t : PlacedPlan) → InList t qs → StandsAt scratch size (get_or links (start + position_in t - 1) 0) t
  child_linked qs rest passed laid e n t (j, jt, is) =
      let starts : List ℕ = starts_from scratch (i + 1) (size - (i + 1)) in
      let p = starts_positions at scratch (size - (i + 1)) (i + 1) in
      let m = length-map starts (position_of scratch) in
      let l = length-map (plans_read at (read_entries scratch (i + 1) (size - (i + 1)))) position_in in
      let same = ap length p in
      let both = ap length e in
      let a = length-append qs (plans_read at rest) in
      let inside : j < length starts = omega arith in
      let z : i + 1 + (size - (i + 1)) ≡ size = omega arith in
      let (behind, tail) = concat_tail qs passed rest j jt in
      let stands : read_entries scratch (child_entry scratch size i j) (size - child_entry scratch size i j) ≡ lay t ++ behind =
      sym (rw z at (starts_tails scratch (size - (i + 1)) (i + 1) j size inside)) ∙ (ap (λ (es : List Entry). get_or (tails es) j []) laid ∙ (tail ∙ ap (λ (q : PlacedPlan). lay q ++ behind) is)) in
      let position-is : position_of scratch (child_entry scratch size i j) ≡ position_in t =
      sym (map_at (position_of scratch) starts j size inside) ∙ (ap (λ (l : List ℕ). get_or l j 0) (p ∙ ap positions e) ∙ child_position qs rest j jt t is) in
      let link = linked.each j (omega arith) in
      let here : get_or links (start + position_in t - 1) 0 ≡ child_entry scratch size i j = rw position-is at link in
      record { behind = behind; read = rw here stands }
    where
      child_position : (qs : List PlacedPlan) (rest : List Entry) (j : ℕ) → j < length qs → (t : PlacedPlan) → get_or qs j no_placed ≡ t → get_or (positions (qs ++ plans_read at rest)) j 0 ≡ position_in t
      child_position [] rest j jt t is = absurd (omega arith)
      child_position (q ∷ qs) rest zero jt t is = ap position_in is
      child_position (q ∷ qs) rest (suc j) jt t is = child_position qs rest j (omega arith) t is

  -- field j as written stands at place j
  pub field_linked : (n : ℕ) (fs : FieldPlans) (place : Place) (rest : List Entry) → Told at (object_plan n fs) → read_entries scratch i (size - i) ≡ entries (object_plan n fs) place ++ rest
      → (j : ℕ) → j < length (fields_from fs 1) → StandsAt scratch size (get_or links (start + j) 0) (get_or (fields_from fs 1) j no_placed)
  unfolding read_entries entries
  field_linked n fs place rest t stands j jt =
      let k : size - i ≡ suc (size - (i + 1)) = omega arith in
      let parts = rw k at stands in
      let qs : List PlacedPlan = in_order (placed_order fs 1 no_fields) in
      let c : children_of scratch i ≡ length qs = ap head_children parts ∙ (ap length (in_order_laid fs) ∙ length-map qs lay) in
      let laid : read_entries scratch (i + 1) (size - (i + 1)) ≡ concat (map lay qs) ++ rest = ap (drop 1) parts ∙ ap (λ (ls : List (List Entry)). concat ls ++ rest) (in_order_laid fs) in
      let e : plans_read at (read_entries scratch (i + 1) (size - (i + 1))) ≡ qs ++ plans_read at rest = ap (λ (es : List Entry). plans_read at (drop 1 es)) parts ∙ read_object at fs t.0 t.1 rest in
      let w = written_order fs 1 t.0 in
      let m = written_in qs j (rw w jt) in
      let p = field_position fs 1 j jt in
      let s : start + position_in (get_or (fields_from fs 1) j no_placed) - 1 ≡ start + j = omega arith in
      rw s at (child_linked qs rest (every_order Passed fs 1 t.0 (fields_passed at fs t.1 1)) laid e c (get_or (fields_from fs 1) j no_placed) (rw w at m))

  pub item_linked : (n : ℕ) (ps : Plans) (place : Place) (rest : List Entry) → Told at (array_plan n ps) → read_entries scratch i (size - i) ≡ entries (array_plan n ps) place ++ rest
      → (j : ℕ) → j < length (items_from ps 1) → StandsAt scratch size (get_or links (start + j) 0) (get_or (items_from ps 1) j no_placed)
  unfolding read_entries entries
  item_linked n ps place rest t stands j jt =
      let k : size - i ≡ suc (size - (i + 1)) = omega arith in
      let parts = rw k at stands in
      let qs : List PlacedPlan = items_from ps 1 in
      let c : children_of scratch i ≡ length qs = ap head_children parts ∙ items_counted ps 1 in
      let laid : read_entries scratch (i + 1) (size - (i + 1)) ≡ concat (map lay qs) ++ rest = ap (drop 1) parts ∙ ap (λ (es : List Entry). es ++ rest) (items_laid ps 1) in
      let e : plans_read at (read_entries scratch (i + 1) (size - (i + 1))) ≡ qs ++ plans_read at rest = ap (λ (es : List Entry). plans_read at (drop 1 es)) parts ∙ read_items at ps t 1 rest in
      let p = item_position ps 1 j jt in
      let s : start + position_in (get_or (items_from ps 1) j no_placed) - 1 ≡ start + j = omega arith in
      rw s at (child_linked qs rest (items_passed at ps t 1) laid e c (get_or (items_from ps 1) j no_placed) (j, jt, refl))

-- an object's entry counts its fields
put_long : (p : PlacedPlan) (qs : List PlacedPlan) → length (insert_written p qs) ≡ suc (length qs)
unfolding insert_written
put_long p [] = refl
put_long p (q ∷ qs) = go (leb p.place.position q.place.position) (put_long p qs)
  where
    go : (c : Bool) → length (insert_written p qs) ≡ suc (length qs) → length (cond c (p ∷ (q ∷ qs)) (q ∷ insert_written p qs)) ≡ suc (suc (length qs))
    go true h = refl
    go false h = ap suc h

written_long : (qs : List PlacedPlan) → length (as_written qs) ≡ length qs
unfolding as_written
written_long [] = refl
written_long (q ∷ qs) = put_long q (as_written qs) ∙ ap suc (written_long qs)

pub fields_counted : (fs : FieldPlans) → differing (plan_keys fs) ≡ true → length (in_order (field_order fs 1 no_fields)) ≡ length (fields_from fs 1)
fields_counted fs d =
    let qs : List PlacedPlan = in_order (placed_order fs 1 no_fields) in
    ap length (in_order_laid fs) ∙ (length-map qs lay ∙ (sym (written_long qs) ∙ ap length (written_order fs 1 d)))
