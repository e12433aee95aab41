-- The states of names, as names are bound: what the code clears is what the scope then says.
use Prim.Native.Nat.{ℕ, ◌+◌, ◌-◌, ◌/◌, ◌≤◌, ◌<◌}
use mathlib.Core.Path.{◌≡◌, refl, sym, ap, ◌∙◌}
use mathlib.Core.Bool.{Bool, true, false, cond, ◌&&◌}
use mathlib.Core.List.{List, [], ◌∷◌}
use native.Mathlib.Omega.{arith}
use borrow.Author.Tests.{eq-eqb, ne_eqb, eqb-true, eqb-false, leb-true, le-leb, lt-leb}
use lib.Dec.{eqb, leb}
use lib.ListN.{length, get_or, set, length-set}
use lib.Seq.{get_or-set_same, get_or-set_other, ext_get_or}
use Rattle.base.specs.Lists.{tabulate}
use Rattle.scope.specs.declared.Scope.{Scope}
use Rattle.scope.specs.declared.ScopingMode.TheVariants.{RespectParent}
use Rattle.scope.specs.Scope.{is_name, is_underscore, is_unbound, bind_variable}
use Rattle.scope.specs.Promises.{BindPromise}
use Rattle.scope.proofs.Laws.{bind_promise, scope_promise}
use Rattle.table.specs.declared.NameClass.{NameClass}
use Rattle.table.specs.declared.NameClass.TheVariants.{Underscore, InputOrData, Ordinary}
use Rattle.table.specs.Tables.{Tables, first_word_of, name_bytes}
use Rattle.table.specs.Names.{class_of}
use Rattle.table.proofs.tests.Bools.{and_true}
use Rattle.planner.specs.Names.{state_by, name_state}
use Rattle.base.proofs.Filling.{length_tabulate, get_d_tabulate, tabulate_same}
use Rattle.body.specs.Body.{bind_all}
use Rattle.body.specs.code.Post.{bound_entry, StatesOf, learned, learned_entry, learned_all}

-- by the code's tests
module _ (states : List ℕ) (x : ℕ) where
  pub learned_none : x < 1 → states ≡ learned states x
  unfolding is_name
  learned_none lt = simp (lt-leb 1 x lt)

  pub learned_past : 128 < x → states ≡ learned states x
  unfolding is_name
  learned_past lt = go (leb 1 x)
    where
      past : leb x 128 ≡ false
      past = lt-leb x 128 lt

      go : (b : Bool) → states ≡ cond (b && leb x 128) (cond (eqb (get_or states (x - 1) 0) 1) (set states (x - 1) 0) states) states
      go true = rw past refl
      go false = refl

  module _ (low : 1 ≤ x) (high : x ≤ 128) where
    named : is_name x ≡ true
    unfolding is_name
    named = simp (le-leb 1 x low, le-leb x 128 high)

    pub learned_now : get_or states (x - 1) 0 ≡ 1 → set states (x - 1) 0 ≡ learned states x
    learned_now one = rw (named, eq-eqb (get_or states (x - 1) 0) 1 one) refl

    pub learned_same : (get_or states (x - 1) 0 ≡ 1 → ⊥) → states ≡ learned states x
    learned_same other = rw (named, ne_eqb (get_or states (x - 1) 0) 1 other) refl

module _ (nodes states : List ℕ) (kind node : ℕ) where
  pub learns_none : (kind ≡ 1 → ⊥) → states ≡ learned_entry nodes states kind node
  learns_none e = simp (ne_eqb kind 1 e)

  pub learns_name : kind ≡ 1 → {x : ℕ} → x ≡ first_word_of nodes node → {after : List ℕ} → after ≡ learned states x → after ≡ learned_entry nodes states kind node
  learns_name e i a = a ∙ (ap (learned states) i ∙ simp (eq-eqb kind 1 e))

-- the state of a name that is bound, and of any other
module _ (names text : List ℕ) (s : Scope) (x : ℕ) where
  p : BindPromise s x
  p = bind_promise s x

  unbound_other : (y : ℕ) → (y ≡ x → ⊥) → is_unbound (bind_variable s x) RespectParent y ≡ is_unbound s RespectParent y
  unfolding is_unbound is_underscore
  unbound_other y other = simp (p.changed.frame.underscore, p.changed.frame.scheduler, p.changed.others y other)

  state_other : (y : ℕ) → (y ≡ x → ⊥) → name_state names text (bind_variable s x) RespectParent y ≡ name_state names text s RespectParent y
  state_other y other = ap (λ (u : Bool). cond (leb y (length names / 2)) (state_by (class_of (name_bytes names text y)) u) 0) (unbound_other y other)

  bound_known : is_name x ≡ true → is_unbound (bind_variable s x) RespectParent x ≡ false
  bound_known is = go (is_underscore s x) refl
    where
      go : (b : Bool) → is_underscore s x ≡ b → is_unbound (bind_variable s x) RespectParent x ≡ false
      go true u = ap (λ (t : Scope). is_unbound t RespectParent x) (p.changed.underscore u) ∙ (scope_promise s x).underscore_known RespectParent u
      go false u = p.respects is u

  cleared_state : (b : Bool) (class : NameClass) (u : Bool) → cond b (state_by class false) 0 ≡ cond (eqb (cond b (state_by class u) 0) 1) 0 (cond b (state_by class u) 0)
  cleared_state false class u = refl
  cleared_state true Underscore u = refl
  cleared_state true InputOrData true = refl
  cleared_state true InputOrData false = refl
  cleared_state true Ordinary true = refl
  cleared_state true Ordinary false = refl

  state_bound : is_name x ≡ true → name_state names text (bind_variable s x) RespectParent x ≡ cond (eqb (name_state names text s RespectParent x) 1) 0 (name_state names text s RespectParent x)
  state_bound is =
      ap (λ (u : Bool). cond (leb x (length names / 2)) (state_by (class_of (name_bytes names text x)) u) 0) (bound_known is)
      ∙ cleared_state (leb x (length names / 2)) (class_of (name_bytes names text x)) (is_unbound s RespectParent x)

  name_limits : is_name x ≡ true → (1 ≤ x) × (x ≤ 128)
  unfolding is_name
  name_limits is = let both = and_true (leb 1 x) (leb x 128) is in (leb-true 1 x both.0, leb-true x 128 both.1)

  abbrev old_state : ℕ → ℕ
  old_state = name_state names text s RespectParent

  abbrev new_state : ℕ → ℕ
  new_state = name_state names text (bind_variable s x) RespectParent

  -- the states of all names
  learned_is : (a : Bool) → is_name x ≡ a → cond a (cond (eqb (get_or (tabulate old_state 1 128) (x - 1) 0) 1) (set (tabulate old_state 1 128) (x - 1) 0) (tabulate old_state 1 128)) (tabulate old_state 1 128) ≡ tabulate new_state 1 128
  learned_is false out = ap (λ (t : Scope). tabulate (name_state names text t RespectParent) 1 128) (sym (p.changed.outside out))
  learned_is true is = by (eqb (old_state x) 1) refl
    where
      limits : (1 ≤ x) × (x ≤ 128)
      limits = name_limits is

      at_x : get_or (tabulate old_state 1 128) (x - 1) 0 ≡ old_state x
      at_x =
          let low = limits.0 in
          let high = limits.1 in
          let e : 1 + (x - 1) ≡ x = omega arith in
          get_d_tabulate old_state 1 128 (x - 1) (omega arith) ∙ ap old_state e

      same_at : (b : Bool) → eqb (old_state x) 1 ≡ b → (y : ℕ) → b ≡ false → old_state y ≡ new_state y
      same_at b q y off = go (eqb y x) refl
        where
          go : (d : Bool) → eqb y x ≡ d → old_state y ≡ new_state y
          go true e = let i = eqb-true y x e in rw i (sym (state_bound is ∙ rw (q ∙ off) refl))
          go false e = sym (state_other y (eqb-false y x e))

      set_at : eqb (old_state x) 1 ≡ true → (k : ℕ) → k < 128 → get_or (set (tabulate old_state 1 128) (x - 1) 0) k 0 ≡ new_state (1 + k)
      set_at q k lt = go (eqb k (x - 1)) refl
        where
          low : 1 ≤ x
          low = limits.0

          high : x ≤ 128
          high = limits.1

          go : (d : Bool) → eqb k (x - 1) ≡ d → get_or (set (tabulate old_state 1 128) (x - 1) 0) k 0 ≡ new_state (1 + k)
          go true e =
              let i = eqb-true k (x - 1) e in
              let l = low in
              let n : 1 + k ≡ x = omega arith in
              let long = length_tabulate old_state 1 128 in
              let h = high in
              ap (λ (j : ℕ). get_or (set (tabulate old_state 1 128) (x - 1) 0) j 0) i
              ∙ (get_or-set_same (tabulate old_state 1 128) (x - 1) 0 0 (omega arith)
              ∙ (sym (state_bound is ∙ rw q refl) ∙ ap new_state (sym n)))
          go false e =
              let differs = eqb-false k (x - 1) e in
              let l = low in
              get_or-set_other (tabulate old_state 1 128) (x - 1) k 0 0 differs
              ∙ (get_d_tabulate old_state 1 128 k lt ∙ sym (state_other (1 + k) (λ z. differs (omega arith))))

      by : (b : Bool) → eqb (old_state x) 1 ≡ b → cond (eqb (get_or (tabulate old_state 1 128) (x - 1) 0) 1) (set (tabulate old_state 1 128) (x - 1) 0) (tabulate old_state 1 128) ≡ tabulate new_state 1 128
      by true q = rw (at_x, q)
          (ext_get_or 0 (set (tabulate old_state 1 128) (x - 1) 0) (tabulate new_state 1 128)
          (length-set (tabulate old_state 1 128) (x - 1) 0 ∙ (length_tabulate old_state 1 128 ∙ sym (length_tabulate new_state 1 128)))
          (λ k lt. let long = length-set (tabulate old_state 1 128) (x - 1) 0 ∙ length_tabulate old_state 1 128 in
          set_at q k (rw long at lt) ∙ sym (get_d_tabulate new_state 1 128 k (rw long at lt))))
      by false q = rw (at_x, q) (tabulate_same old_state new_state (λ y. same_at false q y refl) 1 128)

pub learned_states : (T : Tables) (s : Scope) (x : ℕ) {states : List ℕ} → StatesOf T s states → StatesOf T (bind_variable s x) (learned states x)
learned_states T s x is = ap (λ (l : List ℕ). learned l x) is ∙ learned_is T.names T.text s x (is_name x) refl

pub learned_entry_lem : (T : Tables) (s : Scope) (kind node : ℕ) {states : List ℕ} → StatesOf T s states → StatesOf T (bound_entry T.nodes s kind node) (learned_entry T.nodes states kind node)
learned_entry_lem T s kind node {states} is = go (eqb kind 1)
  where
    go : (b : Bool) → StatesOf T (cond b (bind_variable s (first_word_of T.nodes node)) s) (cond b (learned states (first_word_of T.nodes node)) states)
    go true = learned_states T s (first_word_of T.nodes node) is
    go false = is

pub learned_all_lem : (T : Tables) (xs : List ℕ) (s : Scope) {states : List ℕ} → StatesOf T s states → StatesOf T (bind_all s xs) (learned_all states xs)
unfolding bind_all learned_all
learned_all_lem T [] s is = is
learned_all_lem T (x ∷ xs) s is = learned_all_lem T xs (bind_variable s x) (learned_states T s x is)
