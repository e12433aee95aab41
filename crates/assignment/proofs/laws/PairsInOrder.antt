-- The pairs of two simple sides: each value side is settled as its turn comes, and each pair binds names that are new.
use Prim.Native.Nat.{ℕ}
use mathlib.Core.Path.{◌≡◌, refl, sym, ap, ◌∙◌}
use mathlib.Core.Logic.{◌⊎◌, inl, inr, ⊎_elim}
use mathlib.Core.Bool.{Bool, true, false, cond, ◌&&◌, ◌||◌, false≢true}
use mathlib.Core.List.{List, [], ◌∷◌, ◌++◌}
use mathlib.Core.Option.{Option}
use lib.Dec.{eqb}
use Rattle.literal.specs.Literal.{Literal}
use Rattle.literal.specs.Order.{key_order}
use Rattle.table.specs.Names.{is_same}
use Rattle.table.specs.Expr.{Expr, literal, name, wildcard, array, set, object, other, Exprs, none, item, Fields, done, field, count, count_fields}
use Rattle.base.specs.Lists.{elem, no_repeat}
use Rattle.table.proofs.tests.Bools.{and_true, or_true, never}
use Rattle.table.proofs.trees.Lists.{elem_nil, elem_append, append_no_repeat}
use Rattle.base.specs.Refusal.{Refusal}
use Rattle.planner.specs.Plan.{DestructuringPlan, equality_expr, plan, after, tracked_vars}
use Rattle.planner.specs.Layout.{literal_key, Slot, FieldOrder, no_fields, add_field}
use Rattle.planner.specs.Simple.{differing, keys_of, is_literal, admitted, simple, simple_all, simple_fields, mentions}
use Rattle.planner.proofs.fields.FieldOrder.{AllSlots, insert_all}
use Rattle.planner.proofs.laws.PlanLaws.{elem_either, or_turn, or_left, or_right, after_bound, bound_new, bound_once}
use Rattle.planner.specs.Held.{first_or, held_under, value_order}
use Rattle.assignment.specs.Pairs.{Pair, pair, Flat, failed, paired, prepended, further, Shape, items, fields, single, shape_of, all_literal, distinct_keys, last_under, has_partner, check_keys, on_partner, binds, side, whole, in_parts, arrays, objects, flatten, flatten_all, flatten_fields}
use Rattle.assignment.specs.PairsPromise.{Settled, bound_by, PairsPromise}
use Rattle.assignment.proofs.laws.PairsSimple.{settled}

module _ (P : Expr → Type 0) where
  -- P holds of each item, of each field's value
  unfoldable pub Each : Exprs → Type 0
  Each none = Unit {0}
  Each (item e es) = P e × Each es

  unfoldable pub EachValue : Fields → Type 0
  EachValue done = Unit {0}
  EachValue (field k v fs) = P v × EachValue fs

  -- and of the value found under a key
  order_all : (fs : Fields) (o : FieldOrder Expr) → EachValue fs → AllSlots (λ (s : Slot Expr). P s.held) o.literals → AllSlots (λ (s : Slot Expr). P s.held) (value_order fs o).literals
  unfolding EachValue value_order
  order_all done o each all = all
  order_all (field k v fs) o each all = order_all fs (add_field (literal_key k) v o) each.1 (go (literal_key k))
    where
      go : (key : Option Literal) → AllSlots (λ (s : Slot Expr). P s.held) (add_field key v o).literals
      go Option.none = all
      go (Option.some l) = insert_all (λ (s : Slot Expr). P s.held) (record { at = l; held = v }) o.literals each.0 all

  held_all : (l : Literal) (ss : List (Slot Expr)) → AllSlots (λ (s : Slot Expr). P s.held) ss → (e : Expr) → held_under l ss ≡ Option.some e → P e
  unfolding AllSlots held_under
  held_all l [] all e q = never (cc)
  held_all l (s ∷ ss) all e q = go (is_same (key_order l s.at)) (held_all l ss all.1 e) q
    where
      go : (b : Bool) → (held_under l ss ≡ Option.some e → P e) → first_or b s.held (held_under l ss) ≡ Option.some e → P e
      go true f h = let i : s.held ≡ e = cc in rw i at all.0
      go false f h = f h

  partner_all : (key : Option Literal) (fs : Fields) → EachValue fs → (e : Expr) → last_under key fs ≡ Option.some e → P e
  unfolding AllSlots
  partner_all Option.none fs each e q = never (cc)
  partner_all (Option.some l) fs each e q = held_all l (value_order fs no_fields).literals (order_all fs no_fields each tt) e q

-- xs before ys, added to s
pub joins : (x : ℕ) (xs ys s s' : List ℕ) → elem x s' ≡ (elem x xs || elem x s) → (elem x ys || elem x s') ≡ true → (elem x (xs ++ ys) || elem x s) ≡ true
joins x xs ys s s' a o =
    ap (λ (b : Bool). b || elem x s) (elem_either x xs ys)
    ∙ (sym (or_turn (elem x xs) (elem x ys) (elem x s)) ∙ (ap (λ (b : Bool). elem x ys || b) (sym a) ∙ o))

-- Sides: P is a property of simple expressions that goes over to items and values; K is one of the plans made of them.
pub record SideLaws (u : ℕ → Bool) (P : Expr → Type 0) (K : DestructuringPlan → Type 0) : Type 0 where
  pub is_simple : (e : Expr) → P e → simple e ≡ true
  pub of_items : (n : ℕ) (es : Exprs) → P (array n es) → Each P es
  pub of_values : (n : ℕ) (fs : Fields) → P (object n fs) → EachValue P fs
  pub planned : (e : Expr) (seen : List ℕ) → P e → K (plan u e seen)
  pub compared : (e : Expr) → K (equality_expr e)

module _ (u : ℕ → Bool) (P : Expr → Type 0) (K : DestructuringPlan → Type 0) where
  -- one pair, from the names planned before to those planned after
  pub record Step (s : List ℕ) (p : Pair) (s' : List ℕ) : Type 0 where
    pub valued : P p.value
    pub made : K p.pattern
    pub known : Settled u s p.value
    pub adds : (x : ℕ) → elem x s' ≡ (elem x (tracked_vars p.pattern) || elem x s)
    pub new : (x : ℕ) → elem x (tracked_vars p.pattern) ≡ true → elem x s ≡ true → ⊥
    pub once : no_repeat (tracked_vars p.pattern) ≡ true

  pub data Fine : List ℕ → List Pair → List ℕ → Type 0 where
    end : {s : List ℕ} → Fine s [] s
    link : {p : Pair} {ps : List Pair} {s s' s'' : List ℕ} → Step s p s' → Fine s' ps s'' → Fine s (p ∷ ps) s''

  fine_both : {s s' s'' : List ℕ} {ps qs : List Pair} → Fine s ps s' → Fine s' qs s'' → Fine s (ps ++ qs) s''
  fine_both end g = g
  fine_both (link t f) g = link t (fine_both f g)

  -- fine pairs, or a refusal
  pub data Well (s : List ℕ) : Flat → Type 0 where
    off : {r : Refusal} → Well s (failed r)
    good : {ps : List Pair} {s' : List ℕ} → Fine s ps s' → Well s (paired ps s')

  well_before : {s s' : List ℕ} {ps : List Pair} {o : Flat} → Fine s ps s' → Well s' o → Well s (prepended ps o)
  well_before f off = off
  well_before f (good g) = good (fine_both f g)

  well_both : {s : List ℕ} {o : Flat} {f : List ℕ → Flat} → Well s o → ((s' : List ℕ) → Well s' (f s')) → Well s (further o f)
  well_both off g = off
  well_both (good {s' = s'} f) g = well_before f (g s')

  well_if : {s : List ℕ} {o p : Flat} (c : Bool) → Well s o → Well s p → Well s (cond c o p)
  well_if true v w = v
  well_if false v w = w

  well_keys : {s : List ℕ} {o : Flat} (rs ls : Fields) → Well s o → Well s (check_keys rs ls o)
  unfolding check_keys
  well_keys done ls w = w
  well_keys (field k v rs) ls w = well_if (has_partner (last_under (literal_key k) ls)) (well_keys rs ls w) off

  module _ (about : SideLaws u P K) where
    module _ (l r : Expr) (seen : List ℕ) (p : P l) (q : P r) where
      -- no side binds
      step_compares : binds u r seen ≡ false → Step seen (pair r (equality_expr l)) seen
      unfolding tracked_vars elem no_repeat
      step_compares j = record {
        valued = q;
        made = about.compared l;
        known = settled u r seen (about.is_simple r q) j;
        adds = λ x. refl;
        new = λ x t old. elem_nil x t;
        once = refl;
      }

      well_whole : Well seen (whole u l r seen)
      well_whole = go (binds u l seen) refl (binds u r seen) refl
        where
          planning : (e v : Expr) → P e → P v → binds u v seen ≡ false → Step seen (pair v (plan u e seen)) (after u e seen)
          planning e v a b j = record {
            valued = b;
            made = about.planned e seen a;
            known = settled u v seen (about.is_simple v b) j;
            adds = λ x. after_bound u x e seen;
            new = λ x t old. bound_new u x e seen t old;
            once = bound_once u e seen;
          }

          go : (b : Bool) → binds u l seen ≡ b → (c : Bool) → binds u r seen ≡ c → Well seen (side u b c l r seen)
          go false i false j = good (link (step_compares j) end)
          go true i false j = good (link (planning l r p q j) end)
          go false i true j = good (link (planning r l q p i) end)
          go true i true j = off

      well_parts : {o : Flat} → Well seen o → Well seen (in_parts u l r seen o)
      well_parts {o} w = go (binds u l seen) (binds u r seen) refl
        where
          go : (b c : Bool) → binds u r seen ≡ c → Well seen (cond (b || c) o (paired (pair r (equality_expr l) ∷ []) seen))
          go true c j = w
          go false true j = w
          go false false j = good (link (step_compares j) end)

    abbrev ShapeOf : Shape → Type 0
    ShapeOf (items m ls) = Each P ls
    ShapeOf (fields m ls) = EachValue P ls
    ShapeOf single = Unit {0}

    parted : (l : Expr) → P l → ShapeOf (shape_of l)
    parted (literal n k) p = tt
    parted (name n x) p = tt
    parted (wildcard n) p = tt
    parted (array n es) p = about.of_items n es p
    parted (set n es) p = tt
    parted (object n fs) p = about.of_values n fs p
    parted (other n) p = tt

    well_arrays : {s : List ℕ} {o : Flat} {f : Exprs → Flat} (h : Shape) (rs : Exprs) → ShapeOf h → Well s o → ((ls : Exprs) → Each P ls → Well s (f ls)) → Well s (arrays u h rs o f)
    well_arrays (items m ls) rs p w g = well_if (eqb (count ls) (count rs)) (g ls p) off
    well_arrays (fields m ls) rs p w g = off
    well_arrays single rs p w g = w

    well_objects : {s : List ℕ} {o : Flat} {f : Fields → Flat} (h : Shape) (rs : Fields) → ShapeOf h → Well s o → ((ls : Fields) → EachValue P ls → Well s (f ls)) → Well s (objects u h rs o f)
    well_objects (items m ls) rs p w g = off
    well_objects (fields m ls) rs p w g = well_if (all_literal ls && all_literal rs) (well_if (eqb (distinct_keys ls) (count_fields rs)) (well_keys rs ls (g ls p)) off) w
    well_objects single rs p w g = w

    well_partner : {s : List ℕ} {f : Expr → Flat} (o : Option Expr) → ((l : Expr) → o ≡ Option.some l → Well s (f l)) → Well s (on_partner o s f)
    well_partner Option.none g = good end
    well_partner (Option.some l) g = g l refl

    mutual
      unfolding flatten Each EachValue

      pub flat : (r l : Expr) (seen : List ℕ) → P r → P l → Well seen (flatten u r l seen)
      flat (literal n k) l seen q p = well_whole l (literal n k) seen p q
      flat (name n x) l seen q p = well_whole l (name n x) seen p q
      flat (wildcard n) l seen q p = well_whole l (wildcard n) seen p q
      flat (array n rs) l seen q p =
          well_parts l (array n rs) seen p q
          (well_arrays (shape_of l) rs (parted l p) (well_whole l (array n rs) seen p q) (λ ls i. flat_all rs ls seen (about.of_items n rs q) i))
      flat (set n es) l seen q p = well_whole l (set n es) seen p q
      flat (object n rs) l seen q p =
          well_parts l (object n rs) seen p q
          (well_objects (shape_of l) rs (parted l p) (well_whole l (object n rs) seen p q) (λ ls i. flat_fields rs ls seen (about.of_values n rs q) i))
      flat (other n) l seen q p = well_whole l (other n) seen p q

      flat_all : (rs ls : Exprs) (seen : List ℕ) → Each P rs → Each P ls → Well seen (flatten_all u rs ls seen)
      flat_all none ls seen q p = good end
      flat_all (item r rs) none seen q p = good end
      flat_all (item r rs) (item l ls) seen q p = well_both (flat r l seen q.0 p.0) (λ s. flat_all rs ls s q.1 p.1)

      flat_fields : (rs ls : Fields) (seen : List ℕ) → EachValue P rs → EachValue P ls → Well seen (flatten_fields u rs ls seen)
      flat_fields done ls seen q p = good end
      flat_fields (field k r rs) ls seen q p =
          well_both (well_partner (last_under (literal_key k) ls) (λ l e. flat r l seen q.0 (partner_all P (literal_key k) ls p l e)))
          (λ s. flat_fields rs ls s q.1 p)

  -- what fine pairs promise

  pub fine_of : {s s' : List ℕ} {ps : List Pair} {o : Flat} → Well s o → o ≡ paired ps s' → Fine s ps s'
  fine_of off e = never (cc)
  fine_of {s} {s'} {ps} (good {ps = qs} {s' = t} f) e = let i : qs ≡ ps = cc in let j : t ≡ s' = cc in rw (i, j) at f

  fine_settled : {s s'' : List ℕ} {ps : List Pair} → Fine s ps s'' → (earlier later : List Pair) (p : Pair) → ps ≡ earlier ++ (p ∷ later)
      → (x : ℕ) → mentions x p.value ≡ true → (u x ≡ false) ⊎ ((elem x (bound_by earlier) || elem x s) ≡ true)
  unfolding bound_by elem
  fine_settled end [] later p e x t = never (cc)
  fine_settled end (q ∷ earlier) later p e x t = never (cc)
  fine_settled (link {p = r} h f) [] later p e x t = let i : r ≡ p = cc in h.known x (rw i t)
  fine_settled {s} (link {p = r} {ps = rest} {s' = s'} h f) (q ∷ earlier) later p e x t =
      let i : r ≡ q = cc in
      let j : rest ≡ earlier ++ (p ∷ later) = cc in
      ⊎_elim inl (λ o. inr (rw (← i) (joins x (tracked_vars r.pattern) (bound_by earlier) s s' (h.adds x) o))) (fine_settled f earlier later p j x t)

  fine_new : {s s'' : List ℕ} {ps : List Pair} → Fine s ps s'' → (x : ℕ) → elem x (bound_by ps) ≡ true → elem x s ≡ true → ⊥
  unfolding bound_by
  fine_new end x t old = elem_nil x t
  fine_new {s} (link {p = p} {ps = ps} h f) x t old =
      ⊎_elim (λ a. h.new x a old) (λ a. fine_new f x a (h.adds x ∙ or_right (elem x (tracked_vars p.pattern)) (elem x s) old))
      (elem_append x (tracked_vars p.pattern) (bound_by ps) t)

  pub fine_once : {s s'' : List ℕ} {ps : List Pair} → Fine s ps s'' → no_repeat (bound_by ps) ≡ true
  unfolding bound_by no_repeat
  fine_once end = refl
  fine_once {s} (link {p = p} {ps = ps} h f) =
      append_no_repeat (tracked_vars p.pattern) (bound_by ps) h.once (fine_once f)
      (λ x a b. fine_new f x b (h.adds x ∙ or_left (elem x (tracked_vars p.pattern)) (elem x s) a))

-- Simple trees, whatever their plans.
abbrev pub IsSimple : Expr → Type 0
IsSimple e = simple e ≡ true

abbrev Any : DestructuringPlan → Type 0
Any p = Unit {0}

simple_items : (es : Exprs) → simple_all es ≡ true → Each IsSimple es
unfolding admitted Each
simple_items none p = tt
simple_items (item e es) p = let q = and_true (simple e) (simple_all es) p in (q.0, simple_items es q.1)

simple_values : (fs : Fields) → simple_fields fs ≡ true → EachValue IsSimple fs
unfolding admitted EachValue
simple_values done p = tt
simple_values (field k v fs) p =
    let q = and_true (is_literal (literal_key k)) (simple v && simple_fields fs) p in
    let r = and_true (simple v) (simple_fields fs) q.1 in
    (r.0, simple_values fs r.1)

pub array_simple : (n : ℕ) (es : Exprs) → simple (array n es) ≡ true → Each IsSimple es
unfolding admitted
array_simple n es p = simple_items es p

pub object_simple : (n : ℕ) (fs : Fields) → simple (object n fs) ≡ true → EachValue IsSimple fs
unfolding admitted
object_simple n fs p = simple_values fs (and_true (differing (keys_of fs)) (simple_fields fs) p).1

pub pairs_promise : (u : ℕ → Bool) (left right : Expr) → simple left ≡ true → simple right ≡ true → PairsPromise u left right
unfolding elem
pairs_promise u left right p q = record {
  in_order = λ ps names e earlier later o at x t. ⊎_elim inl (λ h. ⊎_elim inr (λ z. absurd (false≢true z)) (or_true (elem x (bound_by earlier)) false h))
      (fine_settled u IsSimple Any (fine_of u IsSimple Any well e) earlier later o at x t);
  once = λ ps names e. fine_once u IsSimple Any (fine_of u IsSimple Any well e);
}
  where
    trees : SideLaws u IsSimple Any
    trees = record { is_simple = λ e h. h; of_items = array_simple; of_values = object_simple; planned = λ e seen h. tt; compared = λ e. tt }

    well : Well u IsSimple Any [] (flatten u right left [])
    well = flat u IsSimple Any trees right left [] q p
