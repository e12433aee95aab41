-- The names of a plan become known.
use Prim.Native.Nat.{ℕ, zero, suc, ◌+◌, ◌≤◌, ◌<◌}
use mathlib.Core.Path.{◌≡◌, refl, ap, ◌∙◌}
use mathlib.Core.Bool.{Bool, true, false}
use mathlib.Core.List.{List, [], ◌∷◌}
use native.Mathlib.Omega.{arith}
use borrow.Author.Tests.{eq-eqb, ne_eqb, eqb-true, eqb-false}
use lib.Dec.{eqb}
use lib.ListN.{get_or, set}
use lib.Seq.{get_or-set_other}
use Rattle.assignment.specs.code.Previewing.{learnt_state, LearntAt, Learnt}

-- one name
module _ (before binders : List ℕ) (i : ℕ) where
  unchanged : get_or before i 0 ≡ learnt_state (get_or before i 0) (get_or binders i 0) → LearntAt before binders i before
  unchanged e = record { here = e; others = λ k differs. refl }

  pub learnt_known : (get_or before i 0 ≡ 1 → ⊥) → LearntAt before binders i before
  learnt_known not-one = unchanged (simp (ne_eqb (get_or before i 0) 1 not-one))

  pub learnt_not : get_or before i 0 ≡ 1 → get_or binders i 0 ≡ 0 → LearntAt before binders i before
  learnt_not one unbound = unchanged (simp (eq-eqb (get_or before i 0) 1 one, eq-eqb (get_or binders i 0) 0 unbound))

  pub learnt_now : get_or before i 0 ≡ 1 → (get_or binders i 0 ≡ 0 → ⊥) → LearntAt before binders i (set before i 0)
  learnt_now one bound = record {
    here = set_zero before i ∙ simp (eq-eqb (get_or before i 0) 1 one, ne_eqb (get_or binders i 0) 0 bound);
    others = λ k differs. get_or-set_other before i k 0 0 differs;
  }
    where
      set_zero : (l : List ℕ) (j : ℕ) → get_or (set l j 0) j 0 ≡ 0
      set_zero [] j = refl
      set_zero (x ∷ l) zero = refl
      set_zero (x ∷ l) (suc j) = set_zero l j

-- the names in turn
pub record Learning (before binders : List ℕ) (i : ℕ) (mid : List ℕ) : Type 0 where
  pub inside : i ≤ 128
  pub done : (k : ℕ) → k < i → get_or mid k 0 ≡ learnt_state (get_or before k 0) (get_or binders k 0)
  pub left : (k : ℕ) → i ≤ k → get_or mid k 0 ≡ get_or before k 0

pub learning_start : (before binders : List ℕ) → Learning before binders 0 before
learning_start before binders = record { inside = omega arith; done = λ k lt. absurd (omega arith); left = λ k le. refl }

module _ {before binders : List ℕ} {i : ℕ} {mid : List ℕ} (go : Learning before binders i mid) where
  pub learning_on : i < 128 → {next : List ℕ} → LearntAt mid binders i next → Learning before binders (i + 1) next
  learning_on lt {next} l = record {
    inside = omega arith;
    done = λ k below. at k below (eqb k i) refl;
    left = λ k le. l.others k (λ e. omega arith) ∙ go.left k (omega arith);
  }
    where
      at : (k : ℕ) → k < i + 1 → (b : Bool) → eqb k i ≡ b → get_or next k 0 ≡ learnt_state (get_or before k 0) (get_or binders k 0)
      at k below true p =
          let is = eqb-true k i p in
          rw is (l.here ∙ ap (λ (s : ℕ). learnt_state s (get_or binders i 0)) (go.left i (omega arith)))
      at k below false p =
          let differs = eqb-false k i p in
          l.others k differs ∙ go.done k (omega (arith, differs))

  pub learning_ends : 128 ≤ i → Learnt before binders mid
  learning_ends le = record { each = λ k lt. go.done k (omega arith) }
