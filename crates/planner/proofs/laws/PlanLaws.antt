-- A plan always exists and binds no name twice, nor do its entries.
use Prim.Native.Nat.{ℕ, ◌+◌, ◌≤◌}
use mathlib.Core.Path.{◌≡◌, refl, sym, ap, ◌∙◌}
use mathlib.Core.Logic.{⊎_elim}
use mathlib.Core.Bool.{Bool, true, false, cond, ◌||◌, not, false≢true}
use mathlib.Core.List.{List, [], ◌∷◌, ◌++◌}
use mathlib.Core.Option.{Option}
use mathlib.Core.Option as Option
use native.Mathlib.Omega.{arith}
use borrow.Author.Tests.{eqb-true, eq-eqb, not-true}
use lib.Dec.{eqb}
use Rattle.table.specs.Expr.{Expr, literal, name, wildcard, array, set, object, other, Exprs, none, item, Fields, done, field, node_of}
use Rattle.table.specs.Tables.{Tables, first_word_of}
use Rattle.table.specs.Decode.{expr}
use Rattle.base.specs.Lists.{elem, no_repeat}
use Rattle.table.specs.code.Sound.{Node, WellFormed}
use Rattle.table.proofs.tests.Bools.{and_true}
use Rattle.table.proofs.trees.Lists.{elem_nil, elem_cons, elem_append, no_repeat_cons, cons_no_repeat, append_no_repeat}
use Rattle.planner.specs.Plan.{DestructuringPlan, var, ignore, equality_expr, equality_value, array_plan, object_plan, Plans, no_plan, item_plan, FieldPlans, no_field, field_plan, fresh, plan, plans, field_plans, after, after_all_lem, after_fields, tracked_vars, tracked_vars_all, tracked_vars_fields}
use Rattle.planner.specs.Layout.{Entry, Place, below, literal_key, FieldOrder, no_fields, add_field, in_order, concat, entries, entries_all_lem, field_order, bound_names}
use Rattle.planner.specs.Laws.{create_plan, create_plans, create_field_plans, PlanLaws}
use Rattle.planner.proofs.laws.Sizes.{total, total_append, add_total}
use Rattle.planner.proofs.laws.Binders.{AllNames, AllNamesAll, AllNamesFields, names_all}

pub elem_either : (x : ℕ) (xs ys : List ℕ) → elem x (xs ++ ys) ≡ (elem x xs || elem x ys)
unfolding elem
elem_either x [] ys = refl
elem_either x (y ∷ xs) ys = go (eqb x y) (elem_either x xs ys)
  where
    go : (c : Bool) → elem x (xs ++ ys) ≡ (elem x xs || elem x ys) → (c || elem x (xs ++ ys)) ≡ ((c || elem x xs) || elem x ys)
    go true h = refl
    go false h = h

pub or_turn : (a b d : Bool) → (b || (a || d)) ≡ ((a || b) || d)
or_turn true true d = refl
or_turn true false d = refl
or_turn false b d = refl

pub or_left : (a b : Bool) → a ≡ true → (a || b) ≡ true
or_left true b e = refl
or_left false b e = absurd (false≢true e)

pub or_right : (a b : Bool) → b ≡ true → (a || b) ≡ true
or_right true b e = refl
or_right false b e = e

module _ (u : ℕ → Bool) where
  mutual
    unfolding create_plan plan

    exists : (e : Expr) (seen : List ℕ) → create_plan u e seen ≡ Option.some (plan u e seen)
    exists (literal n l) seen = refl
    exists (name n x) seen = go (fresh u seen x)
      where
        go : (c : Bool) → cond c (Option.some (var n x)) (Option.some (equality_expr (name n x))) ≡ Option.some (cond c (var n x) (equality_expr (name n x)))
        go true = refl
        go false = refl
    exists (wildcard n) seen = refl
    exists (array n es) seen = ap (Option.map (array_plan n)) (exists_all es seen)
    exists (set n es) seen = refl
    exists (object n fs) seen = ap (Option.map (object_plan n)) (exists_fields fs seen)
    exists (other n) seen = refl

    exists_all : (es : Exprs) (seen : List ℕ) → create_plans u es seen ≡ Option.some (plans u es seen)
    exists_all none seen = refl
    exists_all (item e es) seen =
        let h = exists e seen in
        let t = exists_all es (after u e seen) in
        rw (h, t)

    exists_fields : (fs : Fields) (seen : List ℕ) → create_field_plans u fs seen ≡ Option.some (field_plans u fs seen)
    exists_fields done seen = refl
    exists_fields (field k v fs) seen =
        let h = exists v seen in
        let t = exists_fields fs (after u v seen) in
        rw (h, t)

  -- the names planned after are those before and those bound
  module _ (x : ℕ) where
    mutual
      unfolding plan after tracked_vars elem

      pub after_bound : (e : Expr) (seen : List ℕ) → elem x (after u e seen) ≡ (elem x (tracked_vars (plan u e seen)) || elem x seen)
      after_bound (literal n l) seen = refl
      after_bound (name n y) seen = go (fresh u seen y)
        where
          one : (c : Bool) → (c || elem x seen) ≡ ((c || false) || elem x seen)
          one true = refl
          one false = refl

          go : (c : Bool) → elem x (cond c (y ∷ seen) seen) ≡ (elem x (tracked_vars (cond c (var n y) (equality_expr (name n y)))) || elem x seen)
          go true = one (eqb x y)
          go false = refl
      after_bound (wildcard n) seen = refl
      after_bound (array n es) seen = after_bound_all es seen
      after_bound (set n es) seen = refl
      after_bound (object n fs) seen = after_bound_fields fs seen
      after_bound (other n) seen = refl

      pub after_bound_all : (es : Exprs) (seen : List ℕ) → elem x (after_all_lem u es seen) ≡ (elem x (tracked_vars_all (plans u es seen)) || elem x seen)
      after_bound_all none seen = refl
      after_bound_all (item e es) seen =
          let h = after_bound e seen in
          let t = after_bound_all es (after u e seen) in
          t ∙ rw (h, elem_either x (tracked_vars (plan u e seen)) (tracked_vars_all (plans u es (after u e seen))))
          (or_turn (elem x (tracked_vars (plan u e seen))) (elem x (tracked_vars_all (plans u es (after u e seen)))) (elem x seen))

      pub after_bound_fields : (fs : Fields) (seen : List ℕ) → elem x (after_fields u fs seen) ≡ (elem x (tracked_vars_fields (field_plans u fs seen)) || elem x seen)
      after_bound_fields done seen = refl
      after_bound_fields (field k v fs) seen =
          let h = after_bound v seen in
          let t = after_bound_fields fs (after u v seen) in
          t ∙ rw (h, elem_either x (tracked_vars (plan u v seen)) (tracked_vars_fields (field_plans u fs (after u v seen))))
          (or_turn (elem x (tracked_vars (plan u v seen))) (elem x (tracked_vars_fields (field_plans u fs (after u v seen)))) (elem x seen))

    -- a name planned before or bound here is planned after
    still : (e : Expr) (seen : List ℕ) → elem x seen ≡ true → elem x (after u e seen) ≡ true
    still e seen h = after_bound e seen ∙ or_right (elem x (tracked_vars (plan u e seen))) (elem x seen) h

    now : (e : Expr) (seen : List ℕ) → elem x (tracked_vars (plan u e seen)) ≡ true → elem x (after u e seen) ≡ true
    now e seen h = after_bound e seen ∙ or_left (elem x (tracked_vars (plan u e seen))) (elem x seen) h

    -- a bound name was not planned before
    mutual
      unfolding plan after tracked_vars

      pub bound_new : (e : Expr) (seen : List ℕ) → elem x (tracked_vars (plan u e seen)) ≡ true → elem x seen ≡ true → ⊥
      bound_new (literal n l) seen h old = elem_nil x h
      bound_new (name n y) seen h old = go (fresh u seen y) refl h
        where
          go : (c : Bool) → fresh u seen y ≡ c → elem x (tracked_vars (cond c (var n y) (equality_expr (name n y)))) ≡ true → ⊥
          go true e t =
              ⊎_elim (λ q. false≢true (sym (not-true (elem y seen) (and_true (u y) (not (elem y seen)) e).1) ∙ (ap (λ (z : ℕ). elem z seen) (sym q) ∙ old)))
              (elem_nil x) (elem_cons x y [] t)
          go false e t = elem_nil x t
      bound_new (wildcard n) seen h old = elem_nil x h
      bound_new (array n es) seen h old = bound_new_all es seen h old
      bound_new (set n es) seen h old = elem_nil x h
      bound_new (object n fs) seen h old = bound_new_fields fs seen h old
      bound_new (other n) seen h old = elem_nil x h

      pub bound_new_all : (es : Exprs) (seen : List ℕ) → elem x (tracked_vars_all (plans u es seen)) ≡ true → elem x seen ≡ true → ⊥
      bound_new_all none seen h old = elem_nil x h
      bound_new_all (item e es) seen h old =
          ⊎_elim (λ p. bound_new e seen p old) (λ p. bound_new_all es (after u e seen) p (still e seen old))
          (elem_append x (tracked_vars (plan u e seen)) (tracked_vars_all (plans u es (after u e seen))) h)

      pub bound_new_fields : (fs : Fields) (seen : List ℕ) → elem x (tracked_vars_fields (field_plans u fs seen)) ≡ true → elem x seen ≡ true → ⊥
      bound_new_fields done seen h old = elem_nil x h
      bound_new_fields (field k v fs) seen h old =
          ⊎_elim (λ p. bound_new v seen p old) (λ p. bound_new_fields fs (after u v seen) p (still v seen old))
          (elem_append x (tracked_vars (plan u v seen)) (tracked_vars_fields (field_plans u fs (after u v seen))) h)

  mutual
    unfolding plan tracked_vars no_repeat elem

    pub bound_once : (e : Expr) (seen : List ℕ) → no_repeat (tracked_vars (plan u e seen)) ≡ true
    bound_once (literal n l) seen = refl
    bound_once (name n x) seen = go (fresh u seen x)
      where
        go : (c : Bool) → no_repeat (tracked_vars (cond c (var n x) (equality_expr (name n x)))) ≡ true
        go true = refl
        go false = refl
    bound_once (wildcard n) seen = refl
    bound_once (array n es) seen = bound_once_all es seen
    bound_once (set n es) seen = refl
    bound_once (object n fs) seen = bound_once_fields fs seen
    bound_once (other n) seen = refl

    pub bound_once_all : (es : Exprs) (seen : List ℕ) → no_repeat (tracked_vars_all (plans u es seen)) ≡ true
    bound_once_all none seen = refl
    bound_once_all (item e es) seen =
        append_no_repeat (tracked_vars (plan u e seen)) (tracked_vars_all (plans u es (after u e seen))) (bound_once e seen) (bound_once_all es (after u e seen))
        (λ m p q. bound_new_all m es (after u e seen) q (now m e seen p))

    pub bound_once_fields : (fs : Fields) (seen : List ℕ) → no_repeat (tracked_vars_fields (field_plans u fs seen)) ≡ true
    bound_once_fields done seen = refl
    bound_once_fields (field k v fs) seen =
        append_no_repeat (tracked_vars (plan u v seen)) (tracked_vars_fields (field_plans u fs (after u v seen))) (bound_once v seen) (bound_once_fields fs (after u v seen))
        (λ m p q. bound_new_fields m fs (after u v seen) q (now m v seen p))

  pub plan_laws : (e : Expr) → PlanLaws u e
  plan_laws e = record { exists = exists e; once = bound_once e [] }

-- how often a number stands in a list

abbrev pub hit : ℕ → ℕ → ℕ
hit x y = cond (eqb x y) 1 0

abbrev pub occurs : ℕ → List ℕ → ℕ
occurs x l = total (hit x) l

pub occurs_elem : (x : ℕ) (l : List ℕ) → elem x l ≡ true → 1 ≤ occurs x l
unfolding total elem
occurs_elem x [] h = absurd (false≢true h)
occurs_elem x (y ∷ l) h = go (eqb x y) h (λ t. occurs_elem x l t)
  where
    go : (c : Bool) → (c || elem x l) ≡ true → (elem x l ≡ true → 1 ≤ occurs x l) → 1 ≤ cond c 1 0 + occurs x l
    go true t f = omega arith
    go false t f = let r = f t in omega arith

pub occurs_none : (x : ℕ) (l : List ℕ) → (elem x l ≡ true → ⊥) → occurs x l ≡ 0
unfolding total elem
occurs_none x [] h = refl
occurs_none x (y ∷ l) h = go (eqb x y) h (occurs_none x l)
  where
    go : (c : Bool) → ((c || elem x l) ≡ true → ⊥) → ((elem x l ≡ true → ⊥) → occurs x l ≡ 0) → cond c 1 0 + occurs x l ≡ 0
    go true t f = absurd (t refl)
    go false t f = let r = f t in omega arith

pub once_occurs : (x : ℕ) (l : List ℕ) → no_repeat l ≡ true → occurs x l ≤ 1
unfolding total
once_occurs x [] e = omega arith
once_occurs x (y ∷ l) e = let h = no_repeat_cons y l e in go (eqb x y) refl h.0 (once_occurs x l h.1)
  where
    go : (c : Bool) → eqb x y ≡ c → (elem y l ≡ true → ⊥) → occurs x l ≤ 1 → cond c 1 0 + occurs x l ≤ 1
    go true q new le = let q' = eqb-true x y q in let z = occurs_none x l (λ t. new (rw q' at t)) in omega arith
    go false q new le = omega arith

pub occurs_once : (l : List ℕ) → ((x : ℕ) → occurs x l ≤ 1) → no_repeat l ≡ true
unfolding total no_repeat
occurs_once [] h = refl
occurs_once (y ∷ l) h =
    cons_no_repeat y l
    (λ t. let r = occurs_elem y l t in let q = eq-eqb y y refl in let b : 1 + occurs y l ≤ 1 = rw q at (h y) in omega arith)
    (occurs_once l (λ x. let b = h x in omega arith))

module _ (nm : ℕ → ℕ) where
  -- nm gives the name of each node that a plan binds
  unfoldable mutual
    pub NamesNodes : DestructuringPlan → Type 0
    NamesNodes (var n x) = nm n ≡ x
    NamesNodes (ignore n) = Unit {0}
    NamesNodes (equality_expr e) = Unit {0}
    NamesNodes (equality_value n l) = Unit {0}
    NamesNodes (array_plan n ps) = NamesNodesAll ps
    NamesNodes (object_plan n fs) = NamesNodesFields fs

    pub NamesNodesAll : Plans → Type 0
    NamesNodesAll no_plan = Unit {0}
    NamesNodesAll (item_plan p ps) = NamesNodes p × NamesNodesAll ps

    pub NamesNodesFields : FieldPlans → Type 0
    NamesNodesFields no_field = Unit {0}
    NamesNodesFields (field_plan k p fs) = NamesNodes p × NamesNodesFields fs

  pub bound_append : (xs ys : List Entry) → bound_names nm (xs ++ ys) ≡ bound_names nm xs ++ bound_names nm ys
  unfolding bound_names
  bound_append [] ys = refl
  bound_append (e ∷ xs) ys = go (eqb e.kind 1) (bound_append xs ys)
    where
      go : (c : Bool) → bound_names nm (xs ++ ys) ≡ bound_names nm xs ++ bound_names nm ys
          → cond c (nm e.node ∷ bound_names nm (xs ++ ys)) (bound_names nm (xs ++ ys)) ≡ cond c (nm e.node ∷ bound_names nm xs) (bound_names nm xs) ++ bound_names nm ys
      go true h = ap (λ (l : List ℕ). nm e.node ∷ l) h
      go false h = h

  module _ (x : ℕ) where
    abbrev pub times : List Entry → ℕ
    times es = occurs x (bound_names nm es)

    pub times_append : (xs ys : List Entry) → times (xs ++ ys) ≡ times xs + times ys
    times_append xs ys = ap (occurs x) (bound_append xs ys) ∙ total_append (hit x) (bound_names nm xs) (bound_names nm ys)

    pub times_concat : (ls : List (List Entry)) → total times ls ≡ times (concat ls)
    unfolding total concat bound_names
    times_concat [] = refl
    times_concat (l ∷ ls) = let t = times_concat ls in let a = times_append l (concat ls) in omega arith

    mutual
      unfolding entries tracked_vars NamesNodes bound_names total concat

      entries_times : (p : DestructuringPlan) → NamesNodes p → (key : Place) → times (entries p key) ≤ occurs x (tracked_vars p)
      entries_times (var n y) named key = rw named (omega arith)
      entries_times (ignore n) named key = omega arith
      entries_times (equality_expr e) named key = omega arith
      entries_times (equality_value n l) named key = omega arith
      entries_times (array_plan n ps) named key = entries_times_all ps named 1
      entries_times (object_plan n fs) named key = let h = entries_times_fields fs named 1 no_fields in omega arith

      entries_times_all : (ps : Plans) → NamesNodesAll ps → (i : ℕ) → times (entries_all_lem ps i) ≤ occurs x (tracked_vars_all ps)
      entries_times_all no_plan named i = omega arith
      entries_times_all (item_plan p ps) named i =
          let h = entries_times p named.0 (below 0 i) in
          let t = entries_times_all ps named.1 (i + 1) in
          let a = times_append (entries p (below 0 i)) (entries_all_lem ps (i + 1)) in
          let b = total_append (hit x) (tracked_vars p) (tracked_vars_all ps) in
          omega arith

      entries_times_fields : (fs : FieldPlans) → NamesNodesFields fs → (i : ℕ) (o : FieldOrder (List Entry))
          → times (concat (in_order (field_order fs i o))) ≤ occurs x (tracked_vars_fields fs) + times (concat (in_order o))
      entries_times_fields no_field named i o = omega arith
      entries_times_fields (field_plan k p fs) named i o =
          let new = add_field (literal_key k) (entries p (below (node_of k) i)) o in
          let h = entries_times p named.0 (below (node_of k) i) in
          let t = entries_times_fields fs named.1 (i + 1) new in
          let a = add_total times (literal_key k) (entries p (below (node_of k) i)) o in
          let b = total_append (hit x) (tracked_vars p) (tracked_vars_fields fs) in
          let d = times_concat (in_order new) in
          let e = times_concat (in_order o) in
          omega arith

  pub entries_bound : (p : DestructuringPlan) → NamesNodes p → no_repeat (tracked_vars p) ≡ true → (key : Place) → no_repeat (bound_names nm (entries p key)) ≡ true
  entries_bound p named once key =
      occurs_once (bound_names nm (entries p key)) (λ x. let a = entries_times x p named key in let b = once_occurs x (tracked_vars p) once in omega arith)

  -- the plan of a tree whose name nodes nm names
  module _ (u : ℕ → Bool) where
    mutual
      unfolding plan NamesNodes AllNames

      pub plan_nodes : (e : Expr) → AllNames (λ n x. nm n ≡ x) e → (seen : List ℕ) → NamesNodes (plan u e seen)
      plan_nodes (literal n l) all seen = tt
      plan_nodes (name n x) all seen = go (fresh u seen x)
        where
          go : (c : Bool) → NamesNodes (cond c (var n x) (equality_expr (name n x)))
          go true = all
          go false = tt
      plan_nodes (wildcard n) all seen = tt
      plan_nodes (array n es) all seen = plan_nodes_all es all seen
      plan_nodes (set n es) all seen = tt
      plan_nodes (object n fs) all seen = plan_nodes_fields fs all seen
      plan_nodes (other n) all seen = tt

      plan_nodes_all : (es : Exprs) → AllNamesAll (λ n x. nm n ≡ x) es → (seen : List ℕ) → NamesNodesAll (plans u es seen)
      plan_nodes_all none all seen = tt
      plan_nodes_all (item e es) all seen = (plan_nodes e all.0 seen, plan_nodes_all es all.1 (after u e seen))

      plan_nodes_fields : (fs : Fields) → AllNamesFields (λ n x. nm n ≡ x) fs → (seen : List ℕ) → NamesNodesFields (field_plans u fs seen)
      plan_nodes_fields done all seen = tt
      plan_nodes_fields (field k v fs) all seen = (plan_nodes v all.1 seen, plan_nodes_fields fs all.2 (after u v seen))

-- a table's pattern binds no name twice; a name node's `first` is its name's number
pub entries_bound_of : (T : Tables) → WellFormed T → (u : ℕ → Bool) (n : ℕ) → Node T n → (key : Place)
    → no_repeat (bound_names (first_word_of T.nodes) (entries (plan u (expr T n) []) key)) ≡ true
entries_bound_of T w u n v key =
    entries_bound (first_word_of T.nodes) (plan u (expr T n) [])
    (plan_nodes (first_word_of T.nodes) u (expr T n) (names_all T w (λ m x. first_word_of T.nodes m ≡ x) (λ m z k named. refl) n v) [])
    (bound_once u (expr T n) []) key
