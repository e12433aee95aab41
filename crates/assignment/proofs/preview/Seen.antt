-- Plans with names planned before: they are those of a scope that knows these names.
use Prim.Native.Nat.{ℕ, ◌-◌, ◌≤◌}
use mathlib.Core.Path.{◌≡◌, refl, sym, ap, ◌∙◌}
use mathlib.Core.Bool.{Bool, true, false, cond, ◌&&◌, ◌||◌, not}
use mathlib.Core.List.{List, [], ◌∷◌, ◌++◌}
use native.Mathlib.Omega.{arith}
use borrow.Author.Tests.{eqb-true}
use lib.Dec.{eqb}
use lib.ListN.{get_or, replicate}
use Rattle.table.specs.Expr.{Expr, literal, name, wildcard, array, object, other, Exprs, none, item, Fields, done, field}
use Rattle.table.specs.Tables.{Tables, name_count, first_word_of}
use Rattle.table.specs.Decode.{expr}
use Rattle.base.specs.Lists.{elem}
use Rattle.table.specs.code.Sound.{Node, WellFormed}
use Rattle.table.proofs.trees.Trees.{expr_name}
use Rattle.scope.specs.declared.Scope.{Scope}
use Rattle.scope.specs.declared.ScopingMode.{ScopingMode}
use Rattle.scope.specs.Scope.{is_unbound}
use Rattle.planner.specs.Names.{states_of}
use Rattle.planner.specs.Plan.{DestructuringPlan, var, equality_expr, array_plan, object_plan, item_plan, field_plan, fresh, plan, plans, field_plans, after, after_all_lem, after_fields}
use Rattle.planner.specs.code.Passes.{unbound_in, binders_of}
use Rattle.planner.specs.code.Post.{States}
use Rattle.planner.proofs.laws.Binders.{AllNames, names_all, bound_agree_of}
use Rattle.planner.proofs.laws.SamePlan.{SameOn, after_same, plan_same, states_wild, states_agree}
use Rattle.assignment.specs.code.Previewing.{Scoped, Learnt}
use Rattle.assignment.specs.code.Flattening.{known_if, Learns}

elem_or : (x : ℕ) (xs ys : List ℕ) → elem x (xs ++ ys) ≡ (elem x xs || elem x ys)
unfolding elem
elem_or x [] ys = refl
elem_or x (y ∷ xs) ys = go (eqb x y) (elem_or x xs ys)
  where
    go : (c : Bool) → elem x (xs ++ ys) ≡ (elem x xs || elem x ys) → (c || elem x (xs ++ ys)) ≡ ((c || elem x xs) || elem x ys)
    go true h = refl
    go false h = h

module _ (u : ℕ → Bool) (seen : List ℕ) where
  fresh_both : (new : List ℕ) (x : ℕ) → fresh u (new ++ seen) x ≡ fresh (fresh u seen) new x
  fresh_both new x = rw (elem_or x new seen) (go (u x) (elem x new) (elem x seen))
    where
      go : (a b c : Bool) → (a && not (b || c)) ≡ ((a && not c) && not b)
      go true true true = refl
      go true true false = refl
      go true false true = refl
      go true false false = refl
      go false b c = refl

  mutual
    unfolding after

    after_seen : (e : Expr) (new : List ℕ) → after u e (new ++ seen) ≡ after (fresh u seen) e new ++ seen
    after_seen (literal n l) new = refl
    after_seen (name n x) new = rw (fresh_both new x) (go (fresh (fresh u seen) new x))
      where
        go : (c : Bool) → cond c (x ∷ (new ++ seen)) (new ++ seen) ≡ cond c (x ∷ new) new ++ seen
        go true = refl
        go false = refl
    after_seen (wildcard n) new = refl
    after_seen (array n es) new = after_seen_all es new
    after_seen (Expr.set n es) new = refl
    after_seen (object n fs) new = after_seen_fields fs new
    after_seen (other n) new = refl

    after_seen_all : (es : Exprs) (new : List ℕ) → after_all_lem u es (new ++ seen) ≡ after_all_lem (fresh u seen) es new ++ seen
    after_seen_all none new = refl
    after_seen_all (item e es) new = ap (after_all_lem u es) (after_seen e new) ∙ after_seen_all es (after (fresh u seen) e new)

    after_seen_fields : (fs : Fields) (new : List ℕ) → after_fields u fs (new ++ seen) ≡ after_fields (fresh u seen) fs new ++ seen
    after_seen_fields done new = refl
    after_seen_fields (field k v fs) new = ap (after_fields u fs) (after_seen v new) ∙ after_seen_fields fs (after (fresh u seen) v new)

  mutual
    unfolding plan

    plan_seen : (e : Expr) (new : List ℕ) → plan u e (new ++ seen) ≡ plan (fresh u seen) e new
    plan_seen (literal n l) new = refl
    plan_seen (name n x) new = ap (λ (c : Bool). cond c (var n x) (equality_expr (name n x))) (fresh_both new x)
    plan_seen (wildcard n) new = refl
    plan_seen (array n es) new = ap (array_plan n) (plan_seen_all es new)
    plan_seen (Expr.set n es) new = refl
    plan_seen (object n fs) new = ap (object_plan n) (plan_seen_fields fs new)
    plan_seen (other n) new = refl

    plan_seen_all : (es : Exprs) (new : List ℕ) → plans u es (new ++ seen) ≡ plans (fresh u seen) es new
    plan_seen_all none new = refl
    plan_seen_all (item e es) new =
        ap (λ (p : DestructuringPlan). item_plan p (plans u es (after u e (new ++ seen)))) (plan_seen e new)
        ∙ ap (item_plan (plan (fresh u seen) e new)) (ap (plans u es) (after_seen e new) ∙ plan_seen_all es (after (fresh u seen) e new))

    plan_seen_fields : (fs : Fields) (new : List ℕ) → field_plans u fs (new ++ seen) ≡ field_plans (fresh u seen) fs new
    plan_seen_fields done new = refl
    plan_seen_fields (field k v fs) new =
        ap (λ (p : DestructuringPlan). field_plan k p (field_plans u fs (after u v (new ++ seen)))) (plan_seen v new)
        ∙ ap (field_plan k (plan (fresh u seen) v new)) (ap (field_plans u fs) (after_seen v new) ∙ plan_seen_fields fs (after (fresh u seen) v new))

-- by the states that the code keeps
module _ (T : Tables) (w : WellFormed T) (u : ℕ → Bool) (seen states : List ℕ) (s : Scoped T u seen states) (n : ℕ) (v : Node T n) where
  agree : AllNames (SameOn (unbound_in states) (fresh u seen)) (expr T n)
  agree = names_all T w (SameOn (unbound_in states) (fresh u seen)) (λ m z k named. s.each m z k named) n v

  pub plan_scoped : plan (unbound_in states) (expr T n) [] ≡ plan u (expr T n) seen
  plan_scoped = plan_same (unbound_in states) (fresh u seen) (expr T n) agree [] ∙ sym (plan_seen u seen (expr T n) [])

  pub after_scoped : after u (expr T n) seen ≡ after (unbound_in states) (expr T n) [] ++ seen
  after_scoped = after_seen u seen (expr T n) [] ∙ ap (λ (l : List ℕ). l ++ seen) (sym (after_same (unbound_in states) (fresh u seen) (expr T n) agree []))

-- the states at the start, and as they are
module _ (T : Tables) (states : List ℕ) where
  and_yes : (b : Bool) → b ≡ (b && true)
  and_yes true = refl
  and_yes false = refl

  pub scoped_start : (s : Scope) (mode : ScopingMode) → states ≡ states_of T.names T.text s mode → WellFormed T → Scoped T (is_unbound s mode) [] states
  unfolding elem AllNames
  scoped_start s mode of w = record {
    wild = states_wild T s mode states of w;
    each = λ n v k named.
        let tree : expr T n ≡ name n (first_word_of T.nodes n) = expr_name T w n v k ∙ simp named in
        let same = rw tree at (states_agree T s mode states of w n v) in
        same ∙ and_yes (is_unbound s mode (first_word_of T.nodes n));
  }

  pub scoped_self : States T states → Scoped T (unbound_in states) [] states
  unfolding elem
  scoped_self ok = record { wild = ok; each = λ n v k named. and_yes (unbound_in states (first_word_of T.nodes n)) }

-- names become known
pub learns_none : (states : List ℕ) → Learns [] states states
unfolding elem
learns_none states = record { each = λ x z. go (get_or states (x - 1) 0) (eqb (get_or states (x - 1) 0) 1) }
  where
    go : (a : ℕ) (c : Bool) → a ≡ cond (c && false) 0 a
    go a true = refl
    go a false = refl

pub learns_more : {some more before mid after : List ℕ} → Learns some before mid → Learns more mid after → Learns (more ++ some) before after
learns_more {some} {more} {before} {mid} {after} a b = record {
  each = λ x z. b.each x z ∙ (ap (known_if (elem x more)) (a.each x z) ∙ (go (get_or before (x - 1) 0) (elem x more) (elem x some) ∙ ap (λ (c : Bool). known_if c (get_or before (x - 1) 0)) (sym (elem_or x more some))));
}
  where
    go : (s : ℕ) (c d : Bool) → known_if c (known_if d s) ≡ known_if (c || d) s
    go s true true = two (eqb s 1) refl
      where
        two : (e : Bool) → eqb s 1 ≡ e → cond (eqb (cond (e && true) 0 s) 1 && true) 0 (cond (e && true) 0 s) ≡ cond (e && true) 0 s
        two true p = refl
        two false p = simp p
    go s true false = two (eqb s 1) refl
      where
        two : (e : Bool) → eqb s 1 ≡ e → cond (eqb (cond (e && false) 0 s) 1 && true) 0 (cond (e && false) 0 s) ≡ cond (e && true) 0 s
        two true p = simp p
        two false p = simp p
    go s false d = two (eqb (known_if d s) 1)
      where
        two : (e : Bool) → cond (e && false) 0 (known_if d s) ≡ known_if d s
        two true = refl
        two false = refl

known_wild : (a : ℕ) (b : Bool) → eqb (known_if b a) 2 ≡ eqb a 2
known_wild a b = go (eqb a 1) refl b
  where
    go : (c : Bool) → eqb a 1 ≡ c → (d : Bool) → eqb (cond (c && d) 0 a) 2 ≡ eqb a 2
    go true e false = refl
    go true e true = let i = eqb-true a 1 e in rw i
    go false e d = refl

known_unbound : (a : ℕ) (b : Bool) → eqb (known_if b a) 1 ≡ (eqb a 1 && not b)
known_unbound a b = go (eqb a 1) refl b
  where
    go : (c : Bool) → eqb a 1 ≡ c → (d : Bool) → eqb (cond (c && d) 0 a) 1 ≡ (c && not d)
    go true e false = e
    go true e true = refl
    go false e d = e

module _ (T : Tables) (w : WellFormed T) {names states later : List ℕ} (l : Learns names states later) where
  pub scoped_learns : (u : ℕ → Bool) (seen : List ℕ) → Scoped T u seen states → Scoped T u (names ++ seen) later
  scoped_learns u seen s = record {
    wild = record {
      wild = λ x z.
          let low = z.low in
          let high = z.high in
          let few = w.limits.names in
          s.wild.wild x z ∙ sym (ap (λ (a : ℕ). eqb a 2) (l.each x (record { low = omega arith; high = omega arith })) ∙ known_wild (get_or states (x - 1) 0) (elem x names));
    };
    each = λ m z k named. at (first_word_of T.nodes m) (w.named m z k).low (w.named m z k).high (s.each m z k named);
  }
    where
      at : (x : ℕ) → 1 ≤ x → x ≤ name_count T → unbound_in states x ≡ fresh u seen x → unbound_in later x ≡ fresh u (names ++ seen) x
      at x low high here =
          let few = w.limits.names in
          ap (λ (a : ℕ). eqb a 1) (l.each x (record { low = low; high = omega arith }))
          ∙ (known_unbound (get_or states (x - 1) 0) (elem x names)
          ∙ (ap (λ (c : Bool). c && not (elem x names)) here
          ∙ sym (fresh_both u seen names x)))

-- the names that a plan tracked
pub learns_bound : (T : Tables) (w : WellFormed T) {states : List ℕ} (n : ℕ) (v : Node T n) {binders later : List ℕ} → binders ≡ binders_of (unbound_in states) (expr T n) (replicate 128 0) → Learnt states binders later
    → Learns (after (unbound_in states) (expr T n) []) states later
learns_bound T w {states} n v {binders} bound l = record {
  each = λ x z.
      let low = z.low in
      let high = z.high in
      let names : elem x (after (unbound_in states) (expr T n) []) ≡ not (eqb (get_or binders (x - 1) 0) 0) =
      bound_agree_of T w (unbound_in states) n v x low high ∙ ap (λ (bs : List ℕ). not (eqb (get_or bs (x - 1) 0) 0)) (sym bound) in
      l.each (x - 1) (omega arith) ∙ ap (λ (c : Bool). known_if c (get_or states (x - 1) 0)) (sym names);
}
