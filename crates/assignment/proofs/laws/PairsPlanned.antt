-- The pairs of two simple sides of a table, as they are laid out.
use Prim.Native.Nat.{ℕ, zero, suc, ◌+◌, ◌*◌, ◌≤◌, ◌<◌}
use mathlib.Core.Path.{◌≡◌, refl, sym, ap, ◌∙◌}
use mathlib.Core.Logic.{◌⊎◌, inl, inr, ⊎_elim, ⊎_map}
use mathlib.Core.Bool.{Bool, true, false, cond, ◌||◌, false≢true}
use mathlib.Core.List.{List, [], ◌∷◌, ◌++◌}
use native.Mathlib.Omega.{arith}
use borrow.Author.Tests.{eqb-true, eqb-false, eq-eqb}
use lib.Dec.{eqb}
use Rattle.scope.specs.declared.Scope.{Scope}
use Rattle.scope.specs.declared.ScopingMode.TheVariants.{RespectParent}
use Rattle.scope.specs.Scope.{is_unbound}
use Rattle.table.specs.Tables.{Tables, kind_of, first_word_of, count_of, child_at}
use Rattle.table.specs.Expr.{Expr, array, object, Exprs, Fields, node_of}
use Rattle.table.specs.Decode.{expr, items, fields}
use Rattle.base.specs.Lists.{elem}
use Rattle.table.specs.code.Sound.{Node, WellFormed}
use Rattle.table.proofs.tests.Bools.{or_true, never}
use Rattle.table.proofs.trees.Trees.{width_array, width_object, child_node, expr_array, expr_object}
use Rattle.planner.specs.Plan.{DestructuringPlan, var, ignore, equality_expr, equality_value, array_plan, object_plan, Plans, no_plan, item_plan, FieldPlans, no_field, field_plan, tracked_vars}
use Rattle.planner.specs.Layout.{Entry, Place, below, literal_key, FieldOrder, no_fields, add_field, in_order, concat, entries, entries_all_lem, field_order, bound_names}
use Rattle.planner.specs.Simple.{simple, mentions}
use Rattle.planner.specs.Operations.{Outcome, refused, planned}
use Rattle.planner.proofs.laws.Sizes.{total, total_append, add_total}
use Rattle.planner.proofs.fields.Objects.{node_of_lem}
use Rattle.planner.proofs.laws.Binders.{names_all}
use Rattle.planner.proofs.laws.PlanLaws.{hit, occurs, occurs_elem, occurs_none, once_occurs, occurs_once, bound_append, times, times_append}
use Rattle.assignment.specs.Pairs.{Pair, pair_entries, pairs_entries, Flat, flat_outcome, shape_of, flatten}
use Rattle.assignment.specs.PairsPromise.{bound_by, EntriesPromise}
use Rattle.assignment.proofs.judge.PairShapes.{shape_items, shape_fields, shape_single}
use Rattle.assignment.proofs.laws.PairsSimple.{total_concat, bound_kept}
use Rattle.assignment.proofs.laws.PairsInOrder.{Each, EachValue, joins, SideLaws, Fine, end, link, Well, off, good, flat, fine_once, IsSimple, array_simple, object_simple}

-- No entry of a plan is a pair.

abbrev pairing : Entry → ℕ
pairing e = cond (eqb e.kind 7) 1 0

mutual
  unfolding entries total concat

  unpaired : (p : DestructuringPlan) (key : Place) → total pairing (entries p key) ≡ 0
  unpaired (var n x) key = refl
  unpaired (ignore n) key = refl
  unpaired (equality_expr e) key = refl
  unpaired (equality_value n l) key = refl
  unpaired (array_plan n ps) key = let h = unpaired_all ps 1 in omega arith
  unpaired (object_plan n fs) key = let h = unpaired_fields fs 1 no_fields in omega arith

  unpaired_all : (ps : Plans) (i : ℕ) → total pairing (entries_all_lem ps i) ≡ 0
  unpaired_all no_plan i = refl
  unpaired_all (item_plan p ps) i =
      let h = unpaired p (below 0 i) in
      let t = unpaired_all ps (i + 1) in
      let a = total_append pairing (entries p (below 0 i)) (entries_all_lem ps (i + 1)) in
      omega arith

  unpaired_fields : (fs : FieldPlans) (i : ℕ) (o : FieldOrder (List Entry)) → total pairing (concat (in_order (field_order fs i o))) ≤ total pairing (concat (in_order o))
  unpaired_fields no_field i o = omega arith
  unpaired_fields (field_plan k p fs) i o =
      let new = add_field (literal_key k) (entries p (below (node_of k) i)) o in
      let h = unpaired p (below (node_of k) i) in
      let t = unpaired_fields fs (i + 1) new in
      let a = add_total (total pairing) (literal_key k) (entries p (below (node_of k) i)) o in
      let b = total_concat pairing (in_order new) in
      let d = total_concat pairing (in_order o) in
      omega arith

no_pair : (es earlier later : List Entry) (e : Entry) → total pairing es ≡ 0 → es ≡ earlier ++ (e ∷ later) → e.kind ≡ 7 → ⊥
unfolding total
no_pair es earlier later e z is k =
    let t : pairing e ≡ 1 = rw (eq-eqb e.kind 7 k) in
    let a = total_append pairing earlier (e ∷ later) in
    let b : total pairing (earlier ++ (e ∷ later)) ≡ 0 = rw is at z in
    omega arith

-- An element of two lists stands in one of them.
split : {A : Type 0} (xs ys earlier later : List A) (e : A) → xs ++ ys ≡ earlier ++ (e ∷ later)
    → ((mid : List A) × (xs ≡ earlier ++ (e ∷ mid))) ⊎ ((mid : List A) × (earlier ≡ xs ++ mid) × (ys ≡ mid ++ (e ∷ later)))
split [] ys earlier later e q = inr (earlier, refl, q)
split (x ∷ xs) ys [] later e q = let i : x ≡ e = cc in inl (xs, rw i)
split {A} (x ∷ xs) ys (y ∷ earlier) later e q =
    let i : x ≡ y = cc in
    let j : xs ++ ys ≡ earlier ++ (e ∷ later) = cc in
    ⊎_map (λ h. (h.0, rw (i, h.1))) (λ h. (h.0, rw (i, h.1), h.2)) (split xs ys earlier later e j)

-- Lists in which x stands equally often
same_elem : (x : ℕ) (xs ys : List ℕ) → occurs x xs ≡ occurs x ys → elem x xs ≡ elem x ys
same_elem x xs ys e = go (elem x xs) refl (elem x ys) refl
  where
    go : (a : Bool) → elem x xs ≡ a → (b : Bool) → elem x ys ≡ b → a ≡ b
    go true p true q = refl
    go true p false q = let h = occurs_elem x xs p in let z = occurs_none x ys (λ t. false≢true (sym q ∙ t)) in absurd (omega arith)
    go false p true q = let h = occurs_elem x ys q in let z = occurs_none x xs (λ t. false≢true (sym p ∙ t)) in absurd (omega arith)
    go false p false q = refl

module _ (T : Tables) (w : WellFormed T) where
  abbrev name_of : ℕ → ℕ
  name_of n = first_word_of T.nodes n

  -- a simple expression that the table holds
  record Placed (e : Expr) : Type 0 where
    is_simple : simple e ≡ true
    at : ℕ
    inside : Node T at
    is : e ≡ expr T at

  -- a plan's entries bind what it binds
  abbrev Kept : DestructuringPlan → Type 0
  Kept p = (x : ℕ) → times name_of x (entries p (below 0 1)) ≡ occurs x (tracked_vars p)

  -- what an array or an object of the table is made of
  array_items : (n : ℕ) (es : Exprs) (m : ℕ) → Node T m → array n es ≡ expr T m → (kind_of T.nodes m ≡ 7) × (es ≡ items (expr T) T.children (first_word_of T.nodes m) (count_of T.nodes m))
  array_items n es m v e = go (eqb (kind_of T.nodes m) 7) refl (eqb (kind_of T.nodes m) 9) refl
    where
      go : (a : Bool) → eqb (kind_of T.nodes m) 7 ≡ a → (b : Bool) → eqb (kind_of T.nodes m) 9 ≡ b
          → (kind_of T.nodes m ≡ 7) × (es ≡ items (expr T) T.children (first_word_of T.nodes m) (count_of T.nodes m))
      go true p b q = let k = eqb-true (kind_of T.nodes m) 7 p in let t = expr_array T w m v k in (k, cc)
      go false p true q = let s = shape_fields T w m v (eqb-true (kind_of T.nodes m) 9 q) in let t = ap shape_of e ∙ s in never (cc)
      go false p false q = let s = shape_single T w m v (eqb-false (kind_of T.nodes m) 7 p) (eqb-false (kind_of T.nodes m) 9 q) in let t = ap shape_of e ∙ s in never (cc)

  object_fields : (n : ℕ) (fs : Fields) (m : ℕ) → Node T m → object n fs ≡ expr T m → (kind_of T.nodes m ≡ 9) × (fs ≡ fields (expr T) T.children (first_word_of T.nodes m) (count_of T.nodes m))
  object_fields n fs m v e = go (eqb (kind_of T.nodes m) 7) refl (eqb (kind_of T.nodes m) 9) refl
    where
      go : (a : Bool) → eqb (kind_of T.nodes m) 7 ≡ a → (b : Bool) → eqb (kind_of T.nodes m) 9 ≡ b
          → (kind_of T.nodes m ≡ 9) × (fs ≡ fields (expr T) T.children (first_word_of T.nodes m) (count_of T.nodes m))
      go true p b q = let s = shape_items T w m v (eqb-true (kind_of T.nodes m) 7 p) in let t = ap shape_of e ∙ s in never (cc)
      go false p true q = let k = eqb-true (kind_of T.nodes m) 9 q in let t = expr_object T w m v k in (k, cc)
      go false p false q = let s = shape_single T w m v (eqb-false (kind_of T.nodes m) 7 p) (eqb-false (kind_of T.nodes m) 9 q) in let t = ap shape_of e ∙ s in never (cc)

  placed_items : (at k : ℕ) → ((i : ℕ) → i < k → Node T (child_at T.children (at + i))) → Each IsSimple (items (expr T) T.children at k) → Each Placed (items (expr T) T.children at k)
  unfolding items Each
  placed_items at zero each s = tt
  placed_items at (suc k) each s =
      let z : at + 0 ≡ at = omega arith in (
        record { is_simple = s.0; at = child_at T.children at; inside = rw z at (each 0 (omega arith)); is = refl },
        placed_items (at + 1) k (λ i lt. let e : at + (i + 1) ≡ at + 1 + i = omega arith in rw e at (each (i + 1) (omega arith))) s.1,
      )

  placed_fields_lem : (at k : ℕ) → ((i : ℕ) → i < k * 2 → Node T (child_at T.children (at + i))) → EachValue IsSimple (fields (expr T) T.children at k) → EachValue Placed (fields (expr T) T.children at k)
  unfolding fields EachValue
  placed_fields_lem at zero each s = tt
  placed_fields_lem at (suc k) each s = (
    record { is_simple = s.0; at = child_at T.children (at + 1); inside = each 1 (omega arith); is = refl },
    placed_fields_lem (at + 2) k (λ i lt. let e : at + (i + 2) ≡ at + 2 + i = omega arith in rw e at (each (i + 2) (omega arith))) s.1,
  )

  module _ (u : ℕ → Bool) where
    laws : SideLaws u Placed Kept
    unfolding bound_names tracked_vars entries total
    laws = record {
      is_simple = λ e a. a.is_simple;
      of_items = λ n es a.
          let h = array_items n es a.at a.inside a.is in
          let s = array_simple n es a.is_simple in
          let e = h.1 in
          let k = width_array (kind_of T.nodes a.at) (count_of T.nodes a.at) h.0 in
          rw e (placed_items (first_word_of T.nodes a.at) (count_of T.nodes a.at) (λ i lt. child_node T w a.at a.inside i (omega arith)) (rw e at s));
      of_values = λ n fs a.
          let h = object_fields n fs a.at a.inside a.is in
          let s = object_simple n fs a.is_simple in
          let e = h.1 in
          let k = width_object (kind_of T.nodes a.at) (count_of T.nodes a.at) h.0 in
          rw e (placed_fields_lem (first_word_of T.nodes a.at) (count_of T.nodes a.at) (λ i lt. child_node T w a.at a.inside i (omega arith)) (rw e at s));
      planned = λ e seen a x. bound_kept u name_of x e seen (below 0 1) a.is_simple (rw a.is (names_all T w (λ m y. name_of m ≡ y) (λ m v k named. refl) a.at a.inside));
      compared = λ e x. refl;
    }

    -- entries of fine pairs

    pairs_occurs : {s s'' : List ℕ} {ps : List Pair} → Fine u Placed Kept s ps s'' → (x : ℕ) → times name_of x (pairs_entries ps) ≡ occurs x (bound_by ps)
    unfolding pairs_entries bound_by bound_names total
    pairs_occurs end x = refl
    pairs_occurs (link {p = p} {ps = ps} h f) x =
        let a = h.made x in
        let b = pairs_occurs f x in
        let d = times_append name_of x (entries p.pattern (below 0 1)) (pairs_entries ps) in
        let g = total_append (hit x) (tracked_vars p.pattern) (bound_by ps) in
        omega arith

    entries_settled : {s s'' : List ℕ} {ps : List Pair} → Fine u Placed Kept s ps s'' → (earlier later : List Entry) (e : Entry) → pairs_entries ps ≡ earlier ++ (e ∷ later) → e.kind ≡ 7
        → (x : ℕ) → mentions x (expr T e.node) ≡ true → (u x ≡ false) ⊎ ((elem x (bound_names name_of earlier) || elem x s) ≡ true)
    unfolding pairs_entries bound_names elem
    entries_settled end [] later e q k x t = never (cc)
    entries_settled end (a ∷ earlier) later e q k x t = never (cc)
    entries_settled {s} (link {p = p} {ps = ps} {s' = s'} h f) earlier later e q k x t =
        ⊎_elim (λ m. here earlier m.0 m.1) (λ m. ⊎_map (λ o. o) (λ o. there m.0 m.1 o) (entries_settled f m.0 later e m.2 k x t))
        (split (pair_entries p) (pairs_entries ps) earlier later e q)
      where
        here : (earlier mid : List Entry) → pair_entries p ≡ earlier ++ (e ∷ mid) → (u x ≡ false) ⊎ ((elem x (bound_names name_of earlier) || elem x s) ≡ true)
        here [] mid i =
            let n : node_of p.value ≡ e.node = cc in
            let v = h.valued in
            let same : p.value ≡ expr T e.node = v.is ∙ ap (expr T) (sym (node_of_lem T w v.at v.inside) ∙ (ap node_of (sym v.is) ∙ n)) in
            h.known x (rw same t)
        here (a ∷ rest) mid i = let j : entries p.pattern (below 0 1) ≡ rest ++ (e ∷ mid) = cc in absurd (no_pair (entries p.pattern (below 0 1)) rest mid e (unpaired p.pattern (below 0 1)) j k)

        there : (mid : List Entry) → earlier ≡ pair_entries p ++ mid → (elem x (bound_names name_of mid) || elem x s') ≡ true → (elem x (bound_names name_of earlier) || elem x s) ≡ true
        there mid i o =
            let names : bound_names name_of earlier ≡ bound_names name_of (entries p.pattern (below 0 1)) ++ bound_names name_of mid = ap (bound_names name_of) i ∙ bound_append name_of (pair_entries p) mid in
            let same = same_elem x (bound_names name_of (entries p.pattern (below 0 1))) (tracked_vars p.pattern) (h.made x) in
            rw names (joins x (bound_names name_of (entries p.pattern (below 0 1))) (bound_names name_of mid) s s' (h.adds x ∙ ap (λ (b : Bool). b || elem x s) (sym same)) o)

-- Form 4 with its entries, or another form, or a refusal.
module _ (T : Tables) (s : Scope) where
  abbrev pub Keeps : Outcome → Type 0
  Keeps (refused a) = Unit {0}
  Keeps (planned form side es) = form ≡ 4 → EntriesPromise T s es

  module _ (w : WellFormed T) where
    fine_entries : {names : List ℕ} {ps : List Pair} → Fine (is_unbound s RespectParent) (Placed T w) (Kept T w) [] ps names → EntriesPromise T s (pairs_entries ps)
    unfolding elem
    fine_entries {ps = ps} f = record {
      in_order = λ earlier later e q k x t. ⊎_map (λ o. o)
          (λ o. ⊎_elim (λ h. h) (λ z. absurd (false≢true z)) (or_true (elem x (bound_names (name_of T w) earlier)) false o))
          (entries_settled T w (is_unbound s RespectParent) f earlier later e q k x t);
      once = occurs_once (bound_names (name_of T w) (pairs_entries ps)) (λ x.
          let a = pairs_occurs T w (is_unbound s RespectParent) f x in
          let b = once_occurs x (bound_by ps) (fine_once (is_unbound s RespectParent) (Placed T w) (Kept T w) f) in
          omega arith);
    }

    flat_keeps : {o : Flat} → Well (is_unbound s RespectParent) (Placed T w) (Kept T w) [] o → Keeps (flat_outcome o)
    flat_keeps off = tt
    flat_keeps (good f) = λ e. fine_entries f

    -- the pairs of two nodes
    pub pairs_keep : (left right : ℕ) → Node T left → Node T right → simple (expr T left) ≡ true → simple (expr T right) ≡ true
        → Keeps (flat_outcome (flatten (is_unbound s RespectParent) (expr T right) (expr T left) []))
    pairs_keep left right l r p q =
        flat_keeps (flat (is_unbound s RespectParent) (Placed T w) (Kept T w) (laws T w (is_unbound s RespectParent)) (expr T right) (expr T left) []
        (record { is_simple = q; at = right; inside = r; is = refl }) (record { is_simple = p; at = left; inside = l; is = refl }))
