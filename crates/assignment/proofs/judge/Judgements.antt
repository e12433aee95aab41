-- What becomes of two sides, and what it says of them.
use Prim.Native.Nat.{ℕ}
use mathlib.Core.Path.{◌≡◌, refl, sym, ap, subst, ◌∙◌}
use mathlib.Core.Logic.{◌⊎◌, inl, inr}
use mathlib.Core.Bool.{Bool, true, false, ◌||◌, not, false≢true}
use mathlib.Core.List.{List}
use borrow.Author.Tests.{not-true, not-false}
use Rattle.table.specs.Tables.{Tables}
use Rattle.assignment.specs.declared.judge.Pairing.{Pairing}
use Rattle.assignment.specs.declared.judge.Pairing.TheVariants.{Whole, Items, ByKey, Opposed}
use Rattle.assignment.specs.declared.judge.Judgement.{Judgement}
use Rattle.assignment.specs.declared.judge.Judgement.TheVariants as Judged
use Rattle.assignment.specs.declared.judge.Judgement.TheVariants.{Compare, BindLeft, BindRight, Refuse}
use Rattle.assignment.specs.code.Previewing.{SidesAsks, SidesTold}
use Rattle.assignment.specs.code.Judging.{judgement_of, kinds_pairing, Judges}
use Rattle.assignment.proofs.judge.PairShapes.{pairing_is, or_false}

-- what becomes of two sides
module _ (one other : Bool) (p : Pairing) where
  pub judge_neither : {e : Bool} → e ≡ (one || other) → not e ≡ true → Compare ≡ judgement_of one other p
  judge_neither {e} is none_binds = let b = or_false one other (sym is ∙ not-true e none_binds) in rw (b.0, b.1)

  module _ {e : Bool} (is : e ≡ (one || other)) (some-binds : not e ≡ false) {q : Pairing} (is-q : q ≡ p) where
    pub judge_items : q ≡ Items → Judged.Items ≡ judgement_of one other p
    judge_items k = rw (← is-q, k) (go one other (sym is ∙ not-false e some-binds))
      where
        go : (a b : Bool) → (a || b) ≡ true → Judged.Items ≡ judgement_of a b Items
        go true true h = refl
        go true false h = refl
        go false true h = refl
        go false false h = absurd (false≢true h)

    pub judge_keys : q ≡ ByKey → Judged.ByKey ≡ judgement_of one other p
    judge_keys k = rw (← is-q, k) (go one other (sym is ∙ not-false e some-binds))
      where
        go : (a b : Bool) → (a || b) ≡ true → Judged.ByKey ≡ judgement_of a b ByKey
        go true true h = refl
        go true false h = refl
        go false true h = refl
        go false false h = absurd (false≢true h)

    pub judge_opposed : q ≡ Opposed → Refuse ≡ judgement_of one other p
    judge_opposed k = rw (← is-q, k) (go one other (sym is ∙ not-false e some-binds))
      where
        go : (a b : Bool) → (a || b) ≡ true → Refuse ≡ judgement_of a b Opposed
        go true true h = refl
        go true false h = refl
        go false true h = refl
        go false false h = absurd (false≢true h)

    pub judge_as_whole : {r : Judgement} → q ≡ Whole → r ≡ judgement_of one other Whole → r ≡ judgement_of one other p
    judge_as_whole k j = j ∙ ap (judgement_of one other) (sym k ∙ is-q)

-- by the kinds, so by the shapes
pub judges : {T : Tables} {states : List ℕ} {left right : ℕ} → SidesAsks T states left right
    → {before binders scratch : List ℕ} {count : ℕ} {one other : Bool} → SidesTold T states left right 1 before binders scratch count one other
    → {way : Judgement} → way ≡ judgement_of one other (kinds_pairing T.nodes T.children left right) → Judges T states left right before binders scratch count way
judges {T} a {one} {other} told is = record { one = one; other = other; sides = told; is = is ∙ ap (judgement_of one other) (pairing_is T a.pair_ok) }

-- what a judgement says
abbrev pub Means : Bool → Bool → Pairing → Judgement → Type 0
Means one other p Compare = (one ≡ false) × (other ≡ false)
Means one other p BindLeft = (one ≡ true) × (other ≡ false) × (p ≡ Whole)
Means one other p BindRight = (one ≡ false) × (other ≡ true) × (p ≡ Whole)
Means one other p Judged.Items = ((one || other) ≡ true) × (p ≡ Items)
Means one other p Judged.ByKey = ((one || other) ≡ true) × (p ≡ ByKey)
Means one other p Refuse = ((one || other) ≡ true) × ((p ≡ Opposed) ⊎ ((p ≡ Whole) × (one ≡ true) × (other ≡ true)))

judged : (one other : Bool) (p : Pairing) → Means one other p (judgement_of one other p)
judged true true Whole = (refl, inr (refl, refl, refl))
judged true true Items = (refl, refl)
judged true true ByKey = (refl, refl)
judged true true Opposed = (refl, inl refl)
judged true false Whole = (refl, refl, refl)
judged true false Items = (refl, refl)
judged true false ByKey = (refl, refl)
judged true false Opposed = (refl, inl refl)
judged false true Whole = (refl, refl, refl)
judged false true Items = (refl, refl)
judged false true ByKey = (refl, refl)
judged false true Opposed = (refl, inl refl)
judged false false p = (refl, refl)

pub means : (one other : Bool) (p : Pairing) {way : Judgement} → way ≡ judgement_of one other p → (r : Judgement) → way ≡ r → Means one other p r
means one other p is r e = subst (Means one other p) (sym is ∙ e) (judged one other p)
