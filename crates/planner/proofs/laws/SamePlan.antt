-- The plan by the states that the code asked for is the plan by the scope.
use Prim.Native.Nat.{ℕ}
use mathlib.Core.Path.{◌≡◌, refl, sym, ap, ◌∙◌}
use mathlib.Core.List.{List}
use mathlib.Core.Bool.{Bool, true, false, ◌||◌}
use lib.Dec.{eqb}
use Rattle.scope.specs.declared.Scope.{Scope}
use Rattle.scope.specs.declared.ScopingMode.{ScopingMode}
use Rattle.scope.specs.Scope.{is_unbound}
use Rattle.table.specs.Tables.{Tables, name_bytes, first_word_of}
use Rattle.table.specs.Names.{class_of, same_bytes, underscore_bytes, input_bytes, data_bytes}
use Rattle.table.specs.Expr.{Expr, literal, name, wildcard, array, object, other, Exprs, none, item, Fields, done, field}
use Rattle.table.specs.Decode.{expr}
use Rattle.table.specs.code.Sound.{Node, WellFormed}
use Rattle.planner.specs.Names.{state_by, states_of}
use Rattle.planner.specs.Plan.{DestructuringPlan, item_plan, field_plan, plan, plans, field_plans, after, after_all_lem, after_fields, array_plan, object_plan}
use Rattle.planner.specs.code.Passes.{unbound_in, binders_of, binders_all, binders_fields}
use Rattle.planner.specs.code.Post.{States}
use Rattle.planner.proofs.laws.States.{states_each}
use Rattle.planner.proofs.laws.Binders.{AllNames, AllNamesAll, AllNamesFields, names_all}

-- two scopes' answers that agree on a pattern's names
abbrev pub SameOn : (ℕ → Bool) → (ℕ → Bool) → ℕ → ℕ → Type 0
SameOn u v n x = u x ≡ v x

module _ (u v : ℕ → Bool) where
  mutual
    unfolding after AllNames

    pub after_same : (e : Expr) → AllNames (SameOn u v) e → (seen : List ℕ) → after u e seen ≡ after v e seen
    after_same (literal n l) same seen = refl
    after_same (name n x) same seen = simp same
    after_same (wildcard n) same seen = refl
    after_same (array n es) same seen = after_same_all es same seen
    after_same (Expr.set n es) same seen = refl
    after_same (object n fs) same seen = after_same_fields fs same seen
    after_same (other n) same seen = refl

    after_same_all : (es : Exprs) → AllNamesAll (SameOn u v) es → (seen : List ℕ) → after_all_lem u es seen ≡ after_all_lem v es seen
    after_same_all none same seen = refl
    after_same_all (item e es) same seen = let h = after_same e same.0 seen in ap (λ (l : List ℕ). after_all_lem u es l) h ∙ after_same_all es same.1 (after v e seen)

    after_same_fields : (fs : Fields) → AllNamesFields (SameOn u v) fs → (seen : List ℕ) → after_fields u fs seen ≡ after_fields v fs seen
    after_same_fields done same seen = refl
    after_same_fields (field k e fs) same seen = let h = after_same e same.1 seen in ap (λ (l : List ℕ). after_fields u fs l) h ∙ after_same_fields fs same.2 (after v e seen)

  mutual
    unfolding binders_of AllNames

    pub binders_same : (e : Expr) → AllNames (SameOn u v) e → (binders : List ℕ) → binders_of u e binders ≡ binders_of v e binders
    binders_same (literal n l) same binders = refl
    binders_same (name n x) same binders = simp same
    binders_same (wildcard n) same binders = refl
    binders_same (array n es) same binders = binders_same_all es same binders
    binders_same (Expr.set n es) same binders = refl
    binders_same (object n fs) same binders = binders_same_fields fs same binders
    binders_same (other n) same binders = refl

    binders_same_all : (es : Exprs) → AllNamesAll (SameOn u v) es → (binders : List ℕ) → binders_all u es binders ≡ binders_all v es binders
    binders_same_all none same binders = refl
    binders_same_all (item e es) same binders = let h = binders_same e same.0 binders in ap (λ (l : List ℕ). binders_all u es l) h ∙ binders_same_all es same.1 (binders_of v e binders)

    binders_same_fields : (fs : Fields) → AllNamesFields (SameOn u v) fs → (binders : List ℕ) → binders_fields u fs binders ≡ binders_fields v fs binders
    binders_same_fields done same binders = refl
    binders_same_fields (field k e fs) same binders = let h = binders_same e same.1 binders in ap (λ (l : List ℕ). binders_fields u fs l) h ∙ binders_same_fields fs same.2 (binders_of v e binders)

  mutual
    unfolding plan AllNames

    pub plan_same : (e : Expr) → AllNames (SameOn u v) e → (seen : List ℕ) → plan u e seen ≡ plan v e seen
    plan_same (literal n l) same seen = refl
    plan_same (name n x) same seen = simp same
    plan_same (wildcard n) same seen = refl
    plan_same (array n es) same seen = ap (array_plan n) (plan_same_all es same seen)
    plan_same (Expr.set n es) same seen = refl
    plan_same (object n fs) same seen = ap (object_plan n) (plan_same_fields fs same seen)
    plan_same (other n) same seen = refl

    plan_same_all : (es : Exprs) → AllNamesAll (SameOn u v) es → (seen : List ℕ) → plans u es seen ≡ plans v es seen
    plan_same_all none same seen = refl
    plan_same_all (item e es) same seen =
        let a = plan_same e same.0 seen in
        let b = ap (λ (l : List ℕ). plans u es l) (after_same e same.0 seen) ∙ plan_same_all es same.1 (after v e seen) in
        ap (λ (p : DestructuringPlan). item_plan p (plans u es (after u e seen))) a ∙ ap (item_plan (plan v e seen)) b

    plan_same_fields : (fs : Fields) → AllNamesFields (SameOn u v) fs → (seen : List ℕ) → field_plans u fs seen ≡ field_plans v fs seen
    plan_same_fields done same seen = refl
    plan_same_fields (field k e fs) same seen =
        let a = plan_same e same.1 seen in
        let b = ap (λ (l : List ℕ). field_plans u fs l) (after_same e same.1 seen) ∙ plan_same_fields fs same.2 (after v e seen) in
        ap (λ (p : DestructuringPlan). field_plan k p (field_plans u fs (after u e seen))) a ∙ ap (field_plan k (plan v e seen)) b

-- a class and the bytes of `_`
pub class_wild : (bs : List ℕ) (u : Bool) → eqb (state_by (class_of bs) u) 2 ≡ same_bytes bs underscore_bytes
unfolding class_of
class_wild bs u = go (same_bytes bs underscore_bytes) refl (same_bytes bs input_bytes || same_bytes bs data_bytes) refl u
  where
    go : (a : Bool) → same_bytes bs underscore_bytes ≡ a → (b : Bool) → (same_bytes bs input_bytes || same_bytes bs data_bytes) ≡ b → (u : Bool) → eqb (state_by (class_of bs) u) 2 ≡ same_bytes bs underscore_bytes
    go true p b q u = simp p
    go false p true q true = simp (p, q)
    go false p true q false = simp (p, q)
    go false p false q true = simp (p, q)
    go false p false q false = simp (p, q)

pub class_unbound : (bs : List ℕ) (u : Bool) → same_bytes bs underscore_bytes ≡ false → eqb (state_by (class_of bs) u) 1 ≡ u
unfolding class_of
class_unbound bs u p = go (same_bytes bs input_bytes || same_bytes bs data_bytes) refl u
  where
    go : (b : Bool) → (same_bytes bs input_bytes || same_bytes bs data_bytes) ≡ b → (u : Bool) → eqb (state_by (class_of bs) u) 1 ≡ u
    go true q true = simp (p, q)
    go true q false = simp (p, q)
    go false q true = simp (p, q)
    go false q false = simp (p, q)

module _ (T : Tables) (s : Scope) (mode : ScopingMode) (states : List ℕ) (of : states ≡ states_of T.names T.text s mode) where
  pub states_wild : WellFormed T → States T states
  states_wild w = record {
    wild = λ x v. sym (ap (λ (m : ℕ). eqb m 2) (states_each T.names T.text s mode of w.limits.names x v.low v.high) ∙ class_wild (name_bytes T.names T.text x) (is_unbound s mode x));
  }

  pub states_agree : WellFormed T → (n : ℕ) → Node T n → AllNames (SameOn (unbound_in states) (is_unbound s mode)) (expr T n)
  states_agree w n v = names_all T w (SameOn (unbound_in states) (is_unbound s mode)) (λ m z k named.
      let x = w.named m z k in
      ap (λ (i : ℕ). eqb i 1) (states_each T.names T.text s mode of w.limits.names (first_word_of T.nodes m) x.low x.high)
      ∙ class_unbound (name_bytes T.names T.text (first_word_of T.nodes m)) (is_unbound s mode (first_word_of T.nodes m)) named) n v

  pub same_plan : WellFormed T → (n : ℕ) → Node T n → (seen : List ℕ) → plan (unbound_in states) (expr T n) seen ≡ plan (is_unbound s mode) (expr T n) seen
  same_plan w n v seen = plan_same (unbound_in states) (is_unbound s mode) (expr T n) (states_agree w n v) seen

  pub same_binders : WellFormed T → (n : ℕ) → Node T n → (binders : List ℕ) → binders_of (unbound_in states) (expr T n) binders ≡ binders_of (is_unbound s mode) (expr T n) binders
  same_binders w n v binders = binders_same (unbound_in states) (is_unbound s mode) (expr T n) (states_agree w n v) binders
