-- The plan of a simple pattern: no field is lost, so its entries bind what the plan binds; where none binds, each name is known or was planned before.
use Prim.Native.Nat.{ℕ, ◌+◌}
use mathlib.Core.Path.{◌≡◌, refl, sym, ap, ◌∙◌}
use mathlib.Core.Logic.{◌⊎◌, inl, inr, ⊎_elim}
use mathlib.Core.Bool.{Bool, true, false, cond, ◌&&◌, ◌||◌, not, false≢true}
use mathlib.Core.List.{List, [], ◌∷◌, map}
use mathlib.Core.Option.{Option}
use native.Mathlib.Omega.{arith}
use borrow.Author.Tests.{eqb-true, not-true}
use lib.Dec.{eqb}
use Rattle.literal.specs.Literal.{Literal}
use Rattle.literal.specs.Order.{Order, less, same, more, key_order}
use Rattle.literal.proofs.Orders.{key_order_lem}
use Rattle.table.specs.Expr.{Expr, literal, name, wildcard, array, set, object, other, Exprs, none, item, Fields, done, field, node_of}
use Rattle.base.specs.Lists.{elem}
use Rattle.table.proofs.tests.Bools.{and_true, or_true}
use Rattle.planner.specs.Plan.{var, equality_expr, fresh, plan, plans, field_plans, after, after_all_lem, after_fields, tracked_vars, tracked_vars_all, tracked_vars_fields}
use Rattle.planner.specs.Layout.{Entry, Place, below, top, literal_key, Slot, placed, insert, FieldOrder, no_fields, add_field, held_in, in_order, concat, entries, entries_all_lem, field_order, binds_any, bound_names}
use Rattle.table.specs.Names.{is_same}
use Rattle.planner.specs.Simple.{same_key, has_key, differing, add_key, keys_of, is_literal, admitted, simple, simple_all, simple_fields, mentions}
use Rattle.planner.specs.Names.{occurrences, names_of}
use Rattle.planner.proofs.laws.Mentions.{mentions_any, mentions_fields, mentions_name, mentions_item, mentions_field}
use Rattle.planner.proofs.laws.Sizes.{total, total_append}
use Rattle.planner.proofs.laws.Binders.{AllNames, AllNamesAll, AllNamesFields}
use Rattle.planner.proofs.laws.PlanLaws.{or_left, or_right, hit, occurs, times, times_append, times_concat}
use Rattle.assignment.specs.PairsPromise.{Settled}

-- keys

is_same_lem : (a b : Literal) → same_key a b ≡ true → key_order a b ≡ same
is_same_lem a b e = go (key_order a b) e
  where
    go : (o : Order) → is_same o ≡ true → o ≡ same
    go less t = absurd (false≢true t)
    go same t = refl
    go more t = absurd (false≢true t)

equal_keys : (a b : Literal) → same_key a b ≡ true → a ≡ b
equal_keys a b e = key_order_lem.equal a b (is_same_lem a b e)

abbrev slot_key : {A : Type 0} → Slot A → Literal
slot_key s = s.at

abbrev keys_in : {A : Type 0} → List (Slot A) → List Literal
keys_in ss = map slot_key ss

module _ {A : Type 0} where
  insert_keys : (k : Literal) (s : Slot A) (ss : List (Slot A)) → has_key k (keys_in (insert s ss)) ≡ true → (same_key k s.at ≡ true) ⊎ (has_key k (keys_in ss) ≡ true)
  unfolding insert has_key
  insert_keys k s [] h = or_true (same_key k s.at) false h
  insert_keys k s (t ∷ ts) h = go (key_order s.at t.at) h (insert_keys k s ts)
    where
      go : (o : Order) → has_key k (keys_in (placed o s t ts (insert s ts))) ≡ true
          → (has_key k (keys_in (insert s ts)) ≡ true → (same_key k s.at ≡ true) ⊎ (has_key k (keys_in ts) ≡ true))
          → (same_key k s.at ≡ true) ⊎ ((same_key k t.at || has_key k (keys_in ts)) ≡ true)
      go less p f = or_true (same_key k s.at) _ p
      go same p f = ⊎_elim inl (λ q. inr (or_right (same_key k t.at) (has_key k (keys_in ts)) q)) (or_true (same_key k s.at) _ p)
      go more p f =
          ⊎_elim (λ q. inr (or_left (same_key k t.at) (has_key k (keys_in ts)) q))
          (λ q. ⊎_elim inl (λ r. inr (or_right (same_key k t.at) (has_key k (keys_in ts)) r)) (f q)) (or_true (same_key k t.at) _ p)

  module _ (w : A → ℕ) where
    -- a slot of a new key replaces none
    insert_new : (s : Slot A) (ss : List (Slot A)) → (has_key s.at (keys_in ss) ≡ true → ⊥) → total w (map held_in (insert s ss)) ≡ w s.held + total w (map held_in ss)
    unfolding total insert has_key
    insert_new s [] new = refl
    insert_new s (t ∷ ts) new = go (key_order s.at t.at) new (insert_new s ts)
      where
        go : (o : Order) → ((is_same o || has_key s.at (keys_in ts)) ≡ true → ⊥)
            → ((has_key s.at (keys_in ts) ≡ true → ⊥) → total w (map held_in (insert s ts)) ≡ w s.held + total w (map held_in ts))
            → total w (map held_in (placed o s t ts (insert s ts))) ≡ w s.held + (w t.held + total w (map held_in ts))
        go less p f = refl
        go same p f = absurd (p refl)
        go more p f = let e = f p in omega arith

    add_new : (l : Literal) (a : A) (o : FieldOrder A) → (has_key l (keys_in o.literals) ≡ true → ⊥) → total w (in_order (add_field (Option.some l) a o)) ≡ w a + total w (in_order o)
    add_new l a o new =
        let s : Slot A = record { at = l; held = a } in
        let x = total_append w (map held_in (insert s o.literals)) o.computed in
        let y = total_append w (map held_in o.literals) o.computed in
        let z = insert_new s o.literals new in
        omega arith

-- The fields of a simple object, laid out in key order, weigh as much as in written order.
abbrev Apart : {A : Type 0} → List Literal → List (Slot A) → Type 0
Apart ks ss = (k : Literal) → has_key k ks ≡ true → has_key k (keys_in ss) ≡ true → ⊥

first_new : (l : Literal) (ks : List Literal) → differing (l ∷ ks) ≡ true → (has_key l ks ≡ false) × (differing ks ≡ true)
unfolding differing
first_new l ks d = let h = and_true (not (has_key l ks)) (differing ks) d in (not-true (has_key l ks) h.0, h.1)

key_refl : (l : Literal) → same_key l l ≡ true
key_refl l = ap is_same (key_order_lem.reflexive l)

module _ {A : Type 0} (l : Literal) (ks : List Literal) (a : A) (o : FieldOrder A) where
  head_new : Apart (l ∷ ks) o.literals → has_key l (keys_in o.literals) ≡ true → ⊥
  unfolding has_key
  head_new apart = apart l (or_left (same_key l l) (has_key l ks) (key_refl l))

  tail_apart : has_key l ks ≡ false → Apart (l ∷ ks) o.literals → Apart ks (add_field (Option.some l) a o).literals
  unfolding has_key
  tail_apart new apart k h t =
      ⊎_elim (λ e. let q = equal_keys k l e in false≢true (sym new ∙ rw q at h))
      (apart k (or_right (same_key k l) (has_key k ks) h))
      (insert_keys k (record { at = l; held = a }) o.literals t)

module _ (u : ℕ → Bool) (w : List Entry → ℕ) where
  unfoldable fields_weight : Fields → List ℕ → ℕ → ℕ
  fields_weight done seen i = 0
  fields_weight (field k v fs) seen i = w (entries (plan u v seen) (below (node_of k) i)) + fields_weight fs (after u v seen) (i + 1)

  fields_weight_lem : (fs : Fields) (seen : List ℕ) (i : ℕ) (o : FieldOrder (List Entry)) → simple_fields fs ≡ true → differing (keys_of fs) ≡ true → Apart (keys_of fs) o.literals
      → total w (in_order (field_order (field_plans u fs seen) i o)) ≡ fields_weight fs seen i + total w (in_order o)
  unfolding admitted keys_of plan entries fields_weight
  fields_weight_lem done seen i o p d apart = omega arith
  fields_weight_lem (field k v fs) seen i o p d apart =
      let q = and_true (is_literal (literal_key k)) _ p in
      go (literal_key k) q.0 d apart (λ r. fields_weight_lem fs (after u v seen) (i + 1) r (and_true (simple v) _ q.1).1)
    where
      es : List Entry
      es = entries (plan u v seen) (below (node_of k) i)

      go : (key : Option Literal) → is_literal key ≡ true → differing (add_key key (keys_of fs)) ≡ true → Apart (add_key key (keys_of fs)) o.literals
          → ((r : FieldOrder (List Entry)) → differing (keys_of fs) ≡ true → Apart (keys_of fs) r.literals
          → total w (in_order (field_order (field_plans u fs (after u v seen)) (i + 1) r)) ≡ fields_weight fs (after u v seen) (i + 1) + total w (in_order r))
          → total w (in_order (field_order (field_plans u fs (after u v seen)) (i + 1) (add_field key es o))) ≡ w es + fields_weight fs (after u v seen) (i + 1) + total w (in_order o)
      go Option.none is e a f = absurd (false≢true is)
      go (Option.some l) is e a f =
          let n = first_new l (keys_of fs) e in
          let rest = f (add_field (Option.some l) es o) n.1 (tail_apart l (keys_of fs) es o n.0 a) in
          let here = add_new w l es o (head_new l (keys_of fs) es o a) in
          omega arith

  -- of a whole object
  object_weight : (fs : Fields) (seen : List ℕ) → (differing (keys_of fs) && simple_fields fs) ≡ true → total w (in_order (field_order (field_plans u fs seen) 1 no_fields)) ≡ fields_weight fs seen 1
  unfolding total has_key
  object_weight fs seen p =
      let q = and_true (differing (keys_of fs)) (simple_fields fs) p in
      let h = fields_weight_lem fs seen 1 no_fields q.1 q.0 (λ k t e. false≢true e) in
      omega arith

-- Where no entry binds, nothing is planned.

abbrev binding : Entry → ℕ
binding e = cond (eqb e.kind 1 || eqb e.kind 2) 1 0

none_binds : (es : List Entry) → binds_any es ≡ false → total binding es ≡ 0
unfolding total binds_any
none_binds [] h = refl
none_binds (e ∷ es) h = go (eqb e.kind 1 || eqb e.kind 2) h (none_binds es)
  where
    go : (c : Bool) → (c || binds_any es) ≡ false → (binds_any es ≡ false → total binding es ≡ 0) → cond c 1 0 + total binding es ≡ 0
    go true t f = absurd (false≢true (sym t))
    go false t f = let r = f t in omega arith

pub total_concat : {A : Type 0} (w : A → ℕ) (ls : List (List A)) → total (total w) ls ≡ total w (concat ls)
unfolding total concat
total_concat w [] = refl
total_concat w (l ∷ ls) = let t = total_concat w ls in let a = total_append w l (concat ls) in omega arith

-- a literal key holds no name
silent : (x : ℕ) (k : Expr) → is_literal (literal_key k) ≡ true → mentions x k ≡ false
unfolding occurrences names_of elem
silent x (literal n l) t = refl
silent x (name n y) t = absurd (false≢true t)
silent x (wildcard n) t = absurd (false≢true t)
silent x (array n es) t = absurd (false≢true t)
silent x (set n es) t = absurd (false≢true t)
silent x (object n fs) t = absurd (false≢true t)
silent x (other n) t = absurd (false≢true t)

module _ (u : ℕ → Bool) where
  stale : (x : ℕ) (seen : List ℕ) → fresh u seen x ≡ false → (u x ≡ false) ⊎ (elem x seen ≡ true)
  stale x seen e = go (u x) refl (elem x seen) refl e
    where
      go : (a : Bool) → u x ≡ a → (b : Bool) → elem x seen ≡ b → (a && not b) ≡ false → (u x ≡ false) ⊎ (elem x seen ≡ true)
      go true p true q t = inr q
      go true p false q t = absurd (false≢true (sym t))
      go false p b q t = inl p

  abbrev Quiet : List ℕ → List ℕ → (ℕ → Bool) → Type 0
  Quiet later seen among = (later ≡ seen) × ((x : ℕ) → among x ≡ true → (u x ≡ false) ⊎ (elem x seen ≡ true))

  abbrev weigh : List Entry → ℕ
  weigh es = total binding es

  mutual
    unfolding plan entries admitted occurrences names_of elem total fields_weight

    quiet : (e : Expr) (seen : List ℕ) (key : Place) → simple e ≡ true → weigh (entries (plan u e seen) key) ≡ 0 → Quiet (after u e seen) seen (λ x. mentions x e)
    quiet (literal n l) seen key p z = (refl, λ x t. absurd (false≢true t))
    quiet (name n x) seen key p z = go (fresh u seen x) refl z
      where
        go : (c : Bool) → fresh u seen x ≡ c → weigh (entries (cond c (var n x) (equality_expr (name n x))) key) ≡ 0
            → Quiet (cond c (x ∷ seen) seen) seen (λ y. mentions y (name n x))
        go true e h = absurd (omega arith)
        go false e h = (refl, λ y t. let q = eqb-true y x (sym (mentions_name y n x) ∙ t) in rw q (stale x seen e))
    quiet (wildcard n) seen key p z = absurd (omega arith)
    quiet (array n es) seen key p z = quiet_all es seen 1 p (omega arith)
    quiet (set n es) seen key p z = absurd (false≢true p)
    quiet (object n fs) seen key p z =
        let h = object_weight u weigh fs seen p in
        let t = total_concat binding (in_order (field_order (field_plans u fs seen) 1 no_fields)) in
        quiet_fields fs seen 1 (and_true (differing (keys_of fs)) (simple_fields fs) p).1 (omega arith)
    quiet (other n) seen key p z = absurd (false≢true p)

    quiet_all : (es : Exprs) (seen : List ℕ) (i : ℕ) → simple_all es ≡ true → weigh (entries_all_lem (plans u es seen) i) ≡ 0 → Quiet (after_all_lem u es seen) seen (λ x. mentions_any x es)
    quiet_all none seen i p z = (refl, λ x t. absurd (false≢true t))
    quiet_all (item e es) seen i p z =
        let q = and_true (simple e) (simple_all es) p in
        let s = total_append binding (entries (plan u e seen) (below 0 i)) (entries_all_lem (plans u es (after u e seen)) (i + 1)) in
        let a = quiet e seen (below 0 i) q.0 (omega arith) in
        let b = quiet_all es (after u e seen) (i + 1) q.1 (omega arith) in
        (b.0 ∙ a.0, λ x t. ⊎_elim (a.1 x) (λ r. rw a.0 at (b.1 x r)) (or_true (mentions x e) (mentions_any x es) (sym (mentions_item x e es) ∙ t)))

    quiet_fields : (fs : Fields) (seen : List ℕ) (i : ℕ) → simple_fields fs ≡ true → fields_weight u weigh fs seen i ≡ 0 → Quiet (after_fields u fs seen) seen (λ x. mentions_fields x fs)
    quiet_fields done seen i p z = (refl, λ x t. absurd (false≢true t))
    quiet_fields (field k v fs) seen i p z =
        let q = and_true (is_literal (literal_key k)) (simple v && simple_fields fs) p in
        let r = and_true (simple v) (simple_fields fs) q.1 in
        let a = quiet v seen (below (node_of k) i) r.0 (omega arith) in
        let b = quiet_fields fs (after u v seen) (i + 1) r.1 (omega arith) in (
          b.0 ∙ a.0,
          λ x t.
              ⊎_elim (λ y. absurd (false≢true (sym (silent x k q.0) ∙ y)))
              (λ y. ⊎_elim (a.1 x) (λ o. rw a.0 at (b.1 x o)) (or_true (mentions x v) (mentions_fields x fs) y))
              (or_true (mentions x k) (mentions x v || mentions_fields x fs) (sym (mentions_field x k v fs) ∙ t)),
        )

  -- a side that doesn't bind
  pub settled : (e : Expr) (seen : List ℕ) → simple e ≡ true → binds_any (entries (plan u e seen) top) ≡ false → Settled u seen e
  settled e seen p none_there = (quiet e seen top p (none_binds (entries (plan u e seen) top) none_there)).1

  -- The names that the entries of a simple pattern bind are those of its plan; nm gives the name of a node.
  module _ (nm : ℕ → ℕ) (x : ℕ) where
    abbrev Named : ℕ → ℕ → Type 0
    Named n y = nm n ≡ y

    mutual
      unfolding plan entries admitted tracked_vars bound_names total AllNames concat fields_weight

      pub bound_kept : (e : Expr) (seen : List ℕ) (key : Place) → simple e ≡ true → AllNames Named e → times nm x (entries (plan u e seen) key) ≡ occurs x (tracked_vars (plan u e seen))
      bound_kept (literal n l) seen key p all = refl
      bound_kept (name n y) seen key p all = go (fresh u seen y)
        where
          go : (c : Bool) → times nm x (entries (cond c (var n y) (equality_expr (name n y))) key) ≡ occurs x (tracked_vars (cond c (var n y) (equality_expr (name n y))))
          go true = rw all
          go false = refl
      bound_kept (wildcard n) seen key p all = refl
      bound_kept (array n es) seen key p all = bound_kept_all es seen 1 p all
      bound_kept (set n es) seen key p all = absurd (false≢true p)
      bound_kept (object n fs) seen key p all =
          let h = object_weight u (times nm x) fs seen p in
          let t = times_concat nm x (in_order (field_order (field_plans u fs seen) 1 no_fields)) in
          let b = bound_kept_fields fs seen 1 (and_true (differing (keys_of fs)) (simple_fields fs) p).1 all in
          omega arith
      bound_kept (other n) seen key p all = absurd (false≢true p)

      bound_kept_all : (es : Exprs) (seen : List ℕ) (i : ℕ) → simple_all es ≡ true → AllNamesAll Named es → times nm x (entries_all_lem (plans u es seen) i) ≡ occurs x (tracked_vars_all (plans u es seen))
      bound_kept_all none seen i p all = refl
      bound_kept_all (item e es) seen i p all =
          let q = and_true (simple e) (simple_all es) p in
          let a = bound_kept e seen (below 0 i) q.0 all.0 in
          let b = bound_kept_all es (after u e seen) (i + 1) q.1 all.1 in
          let s = times_append nm x (entries (plan u e seen) (below 0 i)) (entries_all_lem (plans u es (after u e seen)) (i + 1)) in
          let t = total_append (hit x) (tracked_vars (plan u e seen)) (tracked_vars_all (plans u es (after u e seen))) in
          omega arith

      bound_kept_fields : (fs : Fields) (seen : List ℕ) (i : ℕ) → simple_fields fs ≡ true → AllNamesFields Named fs → fields_weight u (times nm x) fs seen i ≡ occurs x (tracked_vars_fields (field_plans u fs seen))
      bound_kept_fields done seen i p all = refl
      bound_kept_fields (field k v fs) seen i p all =
          let q = and_true (is_literal (literal_key k)) (simple v && simple_fields fs) p in
          let r = and_true (simple v) (simple_fields fs) q.1 in
          let a = bound_kept v seen (below (node_of k) i) r.0 all.1 in
          let b = bound_kept_fields fs (after u v seen) (i + 1) r.1 all.2 in
          let t = total_append (hit x) (tracked_vars (plan u v seen)) (tracked_vars_fields (field_plans u fs (after u v seen))) in
          omega arith
