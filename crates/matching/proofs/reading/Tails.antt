-- The entries from each plan on that stands in a list: a plan's entries are passed over as a whole.
use Prim.Native.Nat.{ℕ, zero, suc, ◌+◌, ◌-◌, ◌<◌}
use mathlib.Core.Path.{◌≡◌, refl, ap, ◌∙◌}
use mathlib.Core.List.{List, [], ◌∷◌, ◌++◌, map, append_assoc}
use native.Mathlib.Omega.{arith}
use lib.ListN.{length, get_or, drop, length-map, length-drop}
use lib.Seq.{get_or-drop}
use Rattle.table.specs.Expr.{Expr, node_of}
use Rattle.planner.specs.Layout.{Entry, Place, below, top, entry, entries, entries_all_lem, count_plans_lem, field_order, no_fields, in_order, concat}
use Rattle.planner.specs.Entries.{read_entries}
use Rattle.planner.specs.Plan.{DestructuringPlan, var, ignore, equality_expr, equality_value, array_plan, object_plan, Plans, no_plan, item_plan, FieldPlans, no_field, field_plan}
use Rattle.matching.specs.Reading.{PlacedPlan, standing}
use Rattle.matching.specs.code.Linking.{children_of, starts_from}
use Rattle.matching.proofs.reading.WrittenOrder.{fields_from, placed_order, Every, every_order}
use Rattle.matching.proofs.reading.ReadBack.{Told, ToldAll, ToldFields, lay, items_from, items_counted, in_order_laid}

abbrev pub no_placed : PlacedPlan
no_placed = standing (ignore 0) top

unfoldable pub tails : List Entry → List (List Entry)
tails [] = []
tails (e ∷ es) = (e ∷ es) ∷ drop e.children (tails es)

abbrev pub Passed : PlacedPlan → Type 0
Passed q = (rest : List Entry) → tails (lay q ++ rest) ≡ (lay q ++ rest) ∷ tails rest

-- plans one after the other
concat_passed : (qs : List PlacedPlan) → Every Passed qs → (rest : List Entry) → drop (length qs) (tails (concat (map lay qs) ++ rest)) ≡ tails rest
unfolding Every concat
concat_passed [] all rest = refl
concat_passed (q ∷ qs) all rest =
    ap (λ (es : List Entry). drop (suc (length qs)) (tails es)) (append_assoc (lay q) (concat (map lay qs)) rest)
    ∙ (ap (drop (suc (length qs))) (all.0 (concat (map lay qs) ++ rest)) ∙ concat_passed qs all.1 rest)

pub concat_tail : (qs : List PlacedPlan) → Every Passed qs → (rest : List Entry) (j : ℕ) → j < length qs
    → (behind : List Entry) × (get_or (tails (concat (map lay qs) ++ rest)) j [] ≡ lay (get_or qs j no_placed) ++ behind)
unfolding Every concat
concat_tail [] all rest j lt = absurd (omega arith)
concat_tail (q ∷ qs) all rest zero lt = (
  concat (map lay qs) ++ rest,
  ap (λ (es : List Entry). get_or (tails es) 0 []) (append_assoc (lay q) (concat (map lay qs)) rest)
      ∙ ap (λ (l : List (List Entry)). get_or l 0 []) (all.0 (concat (map lay qs) ++ rest)),
)
concat_tail (q ∷ qs) all rest (suc j) lt =
    let (behind, e) = concat_tail qs all.1 rest j (omega arith) in (
      behind,
      ap (λ (es : List Entry). get_or (tails es) (suc j) []) (append_assoc (lay q) (concat (map lay qs)) rest)
          ∙ (ap (λ (l : List (List Entry)). get_or l (suc j) []) (all.0 (concat (map lay qs) ++ rest)) ∙ e),
    )

pub items_laid : (ps : Plans) (i : ℕ) → entries_all_lem ps i ≡ concat (map lay (items_from ps i))
unfolding entries items_from concat
items_laid no_plan i = refl
items_laid (item_plan p ps) i = ap (λ (es : List Entry). entries p (below 0 i) ++ es) (items_laid ps (i + 1))

module _ (at : ℕ → Expr) where
  mutual
    unfolding entries tails items_from fields_from Every

    pub plan_passed : (p : DestructuringPlan) → Told at p → (place : Place) → Passed (standing p place)
    plan_passed (var n x) t place rest = refl
    plan_passed (ignore n) t place rest = refl
    plan_passed (equality_expr e) t place rest = refl
    plan_passed (equality_value n l) t place rest = refl
    plan_passed (array_plan n ps) t place rest =
        let qs : List PlacedPlan = items_from ps 1 in
        ap (λ (l : List (List Entry)). (entry 5 n (count_plans_lem ps) place ∷ (entries_all_lem ps 1 ++ rest)) ∷ l)
        (ap (λ (es : List Entry). drop (count_plans_lem ps) (tails (es ++ rest))) (items_laid ps 1)
        ∙ (ap (λ (k : ℕ). drop k (tails (concat (map lay qs) ++ rest))) (items_counted ps 1) ∙ concat_passed qs (items_passed ps t 1) rest))
    plan_passed (object_plan n fs) t place rest =
        let qs : List PlacedPlan = in_order (placed_order fs 1 no_fields) in
        let order : List (List Entry) = in_order (field_order fs 1 no_fields) in
        ap (λ (l : List (List Entry)). (entry 6 n (length order) place ∷ (concat order ++ rest)) ∷ l)
        (ap (λ (ls : List (List Entry)). drop (length ls) (tails (concat ls ++ rest))) (in_order_laid fs)
        ∙ (ap (λ (k : ℕ). drop k (tails (concat (map lay qs) ++ rest))) (length-map qs lay)
        ∙ concat_passed qs (every_order Passed fs 1 t.0 (fields_passed fs t.1 1)) rest))

    pub items_passed : (ps : Plans) → ToldAll at ps → (i : ℕ) → Every Passed (items_from ps i)
    items_passed no_plan t i = tt
    items_passed (item_plan p ps) t i = (λ rest. plan_passed p t.0 (below 0 i) rest, items_passed ps t.1 (i + 1))

    pub fields_passed : (fs : FieldPlans) → ToldFields at fs → (i : ℕ) → Every Passed (fields_from fs i)
    fields_passed no_field t i = tt
    fields_passed (field_plan k p fs) t i = (λ rest. plan_passed p t.1.0 (below (node_of k) i) rest, fields_passed fs t.1.1 (i + 1))

-- the plans of a scratch start where `starts_from` says
pub starts_tails : (scratch : List ℕ) (k i j d : ℕ) → j < length (starts_from scratch i k)
    → get_or (tails (read_entries scratch i k)) j [] ≡ read_entries scratch (get_or (starts_from scratch i k) j d) (i + k - get_or (starts_from scratch i k) j d)
unfolding starts_from read_entries tails
starts_tails scratch zero i j d lt = absurd (omega arith)
starts_tails scratch (suc k) i zero d lt = let e : i + suc k - i ≡ suc k = omega arith in rw e
starts_tails scratch (suc k) i (suc j) d lt =
    let n : ℕ = children_of scratch i in
    let long = length-drop n (starts_from scratch (i + 1) k) in
    let same : get_or (drop n (starts_from scratch (i + 1) k)) j d ≡ get_or (starts_from scratch (i + 1) k) (n + j) d = get_or-drop n (starts_from scratch (i + 1) k) j d in
    let e : i + suc k ≡ i + 1 + k = omega arith in
    get_or-drop n (tails (read_entries scratch (i + 1) k)) j [] ∙ rw (same, e) (starts_tails scratch k (i + 1) (n + j) d (omega arith))
