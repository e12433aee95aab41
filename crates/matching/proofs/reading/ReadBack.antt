-- The plan that is read from the entries of a plan is that plan.
use Prim.Native.Nat.{ℕ, ◌+◌}
use mathlib.Core.Path.{◌≡◌, refl, ap, ◌∙◌}
use mathlib.Core.Bool.{true}
use mathlib.Core.List.{List, [], ◌∷◌, ◌++◌, map, append_assoc}
use mathlib.Core.Option.{Option}
use native.Mathlib.Omega.{arith}
use lib.ListN.{length, length-map}
use lib.Seq.{take-append_seam, drop-append_seam}
use Rattle.table.specs.Expr.{Expr, node_of}
use Rattle.planner.specs.Layout.{Entry, Place, below, entry, entries, entries_all_lem, count_plans_lem, field_order, literal_key, FieldOrder, no_fields, add_field, in_order, concat}
use Rattle.planner.specs.Plan.{DestructuringPlan, var, ignore, equality_expr, equality_value, array_plan, object_plan, Plans, no_plan, item_plan, FieldPlans, no_field, field_plan}
use Rattle.planner.specs.Simple.{differing}
use Rattle.planner.proofs.fields.FieldOrder.{map_order, add_map, in_order_map}
use Rattle.matching.specs.Matching.{plan_keys}
use Rattle.matching.specs.Reading.{PlacedPlan, standing, name_of, items_read, fields_read, plan_read, plans_read}
use Rattle.matching.proofs.reading.WrittenOrder.{fields_from, placed_order, written_order, Every, every_order}

abbrev pub lay : PlacedPlan → List Entry
lay q = entries q.plan q.place

-- the items' plans from a position on
unfoldable pub items_from : Plans → ℕ → List PlacedPlan
items_from no_plan i = []
items_from (item_plan p ps) i = standing p (below 0 i) ∷ items_from ps (i + 1)

pub items_counted : (ps : Plans) (i : ℕ) → count_plans_lem ps ≡ length (items_from ps i)
unfolding items_from entries
items_counted no_plan i = refl
items_counted (item_plan p ps) i = let h = items_counted ps (i + 1) in omega arith

-- the fields' entries are those of the fields' plans
order_laid : (fs : FieldPlans) (i : ℕ) (o : FieldOrder PlacedPlan) → field_order fs i (map_order lay o) ≡ map_order lay (placed_order fs i o)
unfolding entries placed_order
order_laid no_field i o = refl
order_laid (field_plan k p fs) i o =
    ap (field_order fs (i + 1)) (add_map lay (literal_key k) (standing p (below (node_of k) i)) o)
    ∙ order_laid fs (i + 1) (add_field (literal_key k) (standing p (below (node_of k) i)) o)

pub in_order_laid : (fs : FieldPlans) → in_order (field_order fs 1 no_fields) ≡ map lay (in_order (placed_order fs 1 no_fields))
in_order_laid fs = ap in_order (order_laid fs 1 no_fields) ∙ in_order_map lay (placed_order fs 1 no_fields)

module _ (at : ℕ → Expr) where
  -- what the entries say is what stands at their nodes, and no field is lost
  abbrev mutual
    pub Told : DestructuringPlan → Type 0
    Told (var n x) = name_of (at n) ≡ x
    Told (ignore n) = Unit {0}
    Told (equality_expr e) = at (node_of e) ≡ e
    Told (equality_value n l) = literal_key (at n) ≡ Option.some l
    Told (array_plan n ps) = ToldAll ps
    Told (object_plan n fs) = (differing (plan_keys fs) ≡ true) × ToldFields fs

    pub ToldAll : Plans → Type 0
    ToldAll no_plan = Unit {0}
    ToldAll (item_plan p ps) = Told p × ToldAll ps

    pub ToldFields : FieldPlans → Type 0
    ToldFields no_field = Unit {0}
    ToldFields (field_plan k p fs) = (at (node_of k) ≡ k) × (Told p × ToldFields fs)

  -- whatever stands behind its entries, a plan is read from them
  abbrev Reads : PlacedPlan → Type 0
  Reads q = (rest : List Entry) → plans_read at (lay q ++ rest) ≡ q ∷ plans_read at rest

  -- plans one after the other
  concat_read : (qs : List PlacedPlan) → Every Reads qs → (rest : List Entry) → plans_read at (concat (map lay qs) ++ rest) ≡ qs ++ plans_read at rest
  unfolding Every concat
  concat_read [] a rest = refl
  concat_read (q ∷ qs) a rest =
      ap (plans_read at) (append_assoc (lay q) (concat (map lay qs)) rest)
      ∙ (a.0 (concat (map lay qs) ++ rest) ∙ ap (λ (l : List PlacedPlan). q ∷ l) (concat_read qs a.1 rest))

  -- an entry takes the plans behind it
  takes : (kind n count : ℕ) (place : Place) (es rest : List Entry) (qs : List PlacedPlan) → plans_read at es ≡ qs ++ plans_read at rest → count ≡ length qs
      → plans_read at (entry kind n count place ∷ es) ≡ standing (plan_read at kind n qs) place ∷ plans_read at rest
  unfolding plans_read
  takes kind n count place es rest qs e c =
      rw (e, c, take-append_seam qs (plans_read at rest), drop-append_seam qs (plans_read at rest)) refl

  items_read_lem : (ps : Plans) (i : ℕ) → items_read at (items_from ps i) ≡ ps
  unfolding items_read items_from
  items_read_lem no_plan i = refl
  items_read_lem (item_plan p ps) i = ap (item_plan p) (items_read_lem ps (i + 1))

  fields_read_lem : (fs : FieldPlans) (i : ℕ) → ToldFields fs → fields_read at (fields_from fs i) ≡ fs
  unfolding fields_read fields_from
  fields_read_lem no_field i t = refl
  fields_read_lem (field_plan k p fs) i t =
      ap (λ (e : Expr). field_plan e p (fields_read at (fields_from fs (i + 1)))) t.0 ∙ ap (field_plan k p) (fields_read_lem fs (i + 1) t.1.1)

  -- an object's fields in key order, one after the other
  fields_in_order : (fs : FieldPlans) → differing (plan_keys fs) ≡ true → Every Reads (fields_from fs 1) → (rest : List Entry)
      → plans_read at (concat (in_order (field_order fs 1 no_fields)) ++ rest) ≡ in_order (placed_order fs 1 no_fields) ++ plans_read at rest
  fields_in_order fs d all rest =
      ap (λ (ls : List (List Entry)). plans_read at (concat ls ++ rest)) (in_order_laid fs)
      ∙ concat_read (in_order (placed_order fs 1 no_fields)) (every_order Reads fs 1 d all) rest

  mutual
    unfolding entries plans_read items_from fields_from Every

    pub read_back : (p : DestructuringPlan) → Told p → (place : Place) → Reads (standing p place)
    read_back (var n x) t place rest = rw t refl
    read_back (ignore n) t place rest = refl
    read_back (equality_expr e) t place rest = rw t refl
    read_back (equality_value n l) t place rest = rw t refl
    read_back (array_plan n ps) t place rest =
        takes 5 n (count_plans_lem ps) place (entries_all_lem ps 1 ++ rest) rest (items_from ps 1) (read_items ps t 1 rest) (items_counted ps 1)
        ∙ ap (λ (l : Plans). standing (array_plan n l) place ∷ plans_read at rest) (items_read_lem ps 1)
    read_back (object_plan n fs) t place rest =
        let qs : List PlacedPlan = in_order (placed_order fs 1 no_fields) in
        takes 6 n (length (in_order (field_order fs 1 no_fields))) place (concat (in_order (field_order fs 1 no_fields)) ++ rest) rest qs
        (fields_in_order fs t.0 (read_fields fs t.1 1) rest)
        (ap length (in_order_laid fs) ∙ length-map qs lay)
        ∙ ap (λ (l : FieldPlans). standing (object_plan n l) place ∷ plans_read at rest) (ap (fields_read at) (written_order fs 1 t.0) ∙ fields_read_lem fs 1 t.1)

    pub read_items : (ps : Plans) → ToldAll ps → (i : ℕ) (rest : List Entry) → plans_read at (entries_all_lem ps i ++ rest) ≡ items_from ps i ++ plans_read at rest
    read_items no_plan t i rest = refl
    read_items (item_plan p ps) t i rest =
        ap (plans_read at) (append_assoc (entries p (below 0 i)) (entries_all_lem ps (i + 1)) rest)
        ∙ (read_back p t.0 (below 0 i) (entries_all_lem ps (i + 1) ++ rest) ∙ ap (λ (l : List PlacedPlan). standing p (below 0 i) ∷ l) (read_items ps t.1 (i + 1) rest))

    read_fields : (fs : FieldPlans) → ToldFields fs → (i : ℕ) → Every Reads (fields_from fs i)
    read_fields no_field t i = tt
    read_fields (field_plan k p fs) t i = (λ rest. read_back p t.1.0 (below (node_of k) i) rest, read_fields fs t.1.1 (i + 1))

  pub read_object : (fs : FieldPlans) → differing (plan_keys fs) ≡ true → ToldFields fs → (rest : List Entry)
      → plans_read at (concat (in_order (field_order fs 1 no_fields)) ++ rest) ≡ in_order (placed_order fs 1 no_fields) ++ plans_read at rest
  read_object fs d t rest = fields_in_order fs d (read_fields fs t 1) rest
