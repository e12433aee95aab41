-- The rounds of joining, and their count of classes.
use Prim.Native.Nat.{ℕ, suc, ◌+◌, ◌-◌, ◌^◌, ◌≤◌, ◌<◌}
use mathlib.Core.Bool.{Bool, true, false, not}
use mathlib.Core.List.{List}
use mathlib.Core.Option.{none, some}
use mathlib.Core.Path.{◌≡◌, refl, ap, ap₂, sym, ◌∙◌}
use native.Mathlib.Omega.{arith}
use borrow.Author.Tests.{eq-eqb, ne_eqb, not-true, not-false}
use lib.Dec.{eqb}
use Rattle.literal.specs.Literal.{Literal}
use Rattle.common_example.specs.Unify.{Head, one_if, count_where, meet_at, onward, round, class_count, after_round, unless_closed, close}
use Rattle.common_example.specs.code.Graph.{head_at, Told}
use Rattle.common_example.specs.code.Classes.{class_in, ClassesOk, ClassAsks, ClassIs, classes_if, MeetAsks, Met, falling, RoundAsks, RoundDone, class_count_in, classes_of, CloseDone}

-- 1. one round
pub record Rounding (heads links before : List ℕ) (left : ℕ) (here : List ℕ) : Type 0 where
  pub asks : RoundAsks heads links here
  pub inside : left ≤ 2048
  pub same : (literal_of : ℕ → Literal) → Told literal_of heads links → round eqb (head_at literal_of heads links) (falling left) (class_in here) ≡ round eqb (head_at literal_of heads links) (falling 2048) (class_in before)

pub rounding_start : (heads links classes : List ℕ) → RoundAsks heads links classes → Rounding heads links classes 2048 classes
rounding_start heads links classes asks = record { asks = asks; inside = omega arith; same = λ literal_of t. refl }

round_step : (g : ℕ → Head ℕ) (left : ℕ) (c : ℕ → ℕ) → 0 < left → round eqb g (falling left) c ≡ onward eqb g (meet_at eqb g (left - 1 + 4) c) (round eqb g (falling (left - 1)))
unfolding falling round
round_step g left c more = let a : left ≡ suc (left - 1) = omega arith in ap (λ (k : ℕ). round eqb g (falling k) c) a

module _ {heads links before : List ℕ} {left : ℕ} {here : List ℕ} (go : Rounding heads links before left here) where
  module _ (more : 0 < left) where
    pub rounding_fits : left - 1 + 4 < 2052
    rounding_fits = let h = go.inside in omega arith

    pub rounding_meet : MeetAsks heads links here (left - 1 + 4)
    rounding_meet = record { linked = go.asks.linked; inside = rounding_fits; ok = go.asks.ok }

    module _ {later : List ℕ} {r : Bool} (m : Met heads links here (left - 1 + 4) later r) where
      pub rounding_on : not r ≡ false → Rounding heads links before (left - 1) later
      rounding_on t = let h = go.inside in let q = not-false r t in record {
        asks = record { linked = go.asks.linked; ok = m.ok };
        inside = omega arith;
        same = λ literal_of told.
            let e : some (class_in later) ≡ meet_at eqb (head_at literal_of heads links) (left - 1 + 4) (class_in here) = ap (λ (b : Bool). classes_if b later) (sym q) ∙ m.classes literal_of told in
            ap (λ o. onward eqb (head_at literal_of heads links) o (round eqb (head_at literal_of heads links) (falling (left - 1)))) e
            ∙ (sym (round_step (head_at literal_of heads links) left (class_in here) more) ∙ go.same literal_of told);
      }

      pub rounding_fails : not r ≡ true → RoundDone heads links before later false
      rounding_fails t = let q = not-true r t in record {
        classes = λ literal_of told.
            let e : none ≡ meet_at eqb (head_at literal_of heads links) (left - 1 + 4) (class_in here) = ap (λ (b : Bool). classes_if b later) (sym q) ∙ m.classes literal_of told in
            ap (λ o. onward eqb (head_at literal_of heads links) o (round eqb (head_at literal_of heads links) (falling (left - 1)))) e
            ∙ (sym (round_step (head_at literal_of heads links) left (class_in here) more) ∙ go.same literal_of told);
        ok = m.ok;
      }

  pub rounding_ends : left ≤ 0 → RoundDone heads links before here true
  unfolding falling round
  rounding_ends no_more = record { classes = λ literal_of told. let z : left ≡ 0 = omega arith in rw z at (go.same literal_of told); ok = go.asks.ok }

-- 2. how many classes
pub record CountingClasses (classes : List ℕ) (left total : ℕ) : Type 0 where
  pub ok : ClassesOk classes
  pub inside : left ≤ 2048
  pub few : total + left ≤ 2048
  pub same : total + class_count_in classes left ≡ class_count_in classes 2048

pub counting_start : (classes : List ℕ) → ClassesOk classes → CountingClasses classes 2048 0
counting_start classes ok = record { ok = ok; inside = omega arith; few = omega arith; same = omega arith }

count_step : (classes : List ℕ) (left : ℕ) → 0 < left → class_count_in classes left ≡ one_if (eqb (class_in classes (left - 1 + 4)) (left - 1 + 4)) + class_count_in classes (left - 1)
unfolding class_count_in falling count_where
count_step classes left more = let a : left ≡ suc (left - 1) = omega arith in ap (λ (k : ℕ). count_where (λ p. eqb (class_in classes p) p) (falling k)) a

none_counted : (classes : List ℕ) → class_count_in classes 0 ≡ 0
unfolding class_count_in falling count_where
none_counted classes = refl

one_most : (b : Bool) → one_if b ≤ 1
one_most true = omega arith
one_most false = omega arith

module _ {classes : List ℕ} {left total : ℕ} (go : CountingClasses classes left total) where
  module _ (more : 0 < left) where
    pub counting_class : ClassAsks classes (left - 1 + 4)
    counting_class = let h = go.inside in record { ok = go.ok; inside = omega arith }

    module _ {class one : ℕ} (is : ClassIs classes (left - 1 + 4) class) (o : one ≡ one_if (eqb class (left - 1 + 4))) where
      one_is : one ≡ one_if (eqb (class_in classes (left - 1 + 4)) (left - 1 + 4))
      one_is = o ∙ ap (λ (n : ℕ). one_if (eqb n (left - 1 + 4))) is.class

      pub counting_fits : total + one < 2 ^ 32
      counting_fits = let h = go.few in let m = one_most (eqb (class_in classes (left - 1 + 4)) (left - 1 + 4)) in let e = one_is in omega (arith, h, m, e)

      pub counting_on : CountingClasses classes (left - 1) (total + one)
      counting_on =
          let h = go.inside in
          let f = go.few in
          let m = one_most (eqb (class_in classes (left - 1 + 4)) (left - 1 + 4)) in
          let e = one_is in
          let s = go.same in
          let t = count_step classes left more in
          record { ok = go.ok; inside = omega arith; few = omega (arith, f, m, e, more); same = omega (arith, s, t, e) }

  pub counting_ends : left ≤ 0 → total ≡ class_count_in classes 2048
  counting_ends no_more =
      let z : left ≡ 0 = omega arith in
      let e : class_count_in classes left ≡ 0 = ap (class_count_in classes) z ∙ none_counted classes in
      let s = go.same in omega (arith, s, e)

-- 3. rounds until one joins nothing
pub record ClosingLoop (heads links before : List ℕ) (left counted : ℕ) (here : List ℕ) : Type 0 where
  pub asks : RoundAsks heads links here
  pub inside : left ≤ 2049
  pub number : counted ≡ class_count_in here 2048
  pub same : (literal_of : ℕ → Literal) → Told literal_of heads links → classes_of (close eqb (head_at literal_of heads links) (falling 2048) left (class_in here)) ≡ classes_of (close eqb (head_at literal_of heads links) (falling 2048) 2049 (class_in before))

pub closing_start : (heads links classes : List ℕ) {n : ℕ} → RoundAsks heads links classes → n ≡ class_count_in classes 2048 → ClosingLoop heads links classes 2049 n classes
closing_start heads links classes asks e = record { asks = asks; inside = omega arith; number = e; same = λ literal_of t. refl }

close_step : (g : ℕ → Head ℕ) (all : List ℕ) (left : ℕ) (c : ℕ → ℕ) → 0 < left → close eqb g all left c ≡ after_round eqb g all (class_count eqb g all c) (round eqb g all c) (close eqb g all (left - 1))
unfolding close
close_step g all left c more = let a : left ≡ suc (left - 1) = omega arith in ap (λ (k : ℕ). close eqb g all k c) a

count_is : (g : ℕ → Head ℕ) (classes : List ℕ) → class_count eqb g (falling 2048) (class_in classes) ≡ class_count_in classes 2048
unfolding class_count_in
count_is g classes = refl

module _ {heads links before : List ℕ} {left counted : ℕ} {here : List ℕ} (go : ClosingLoop heads links before left counted here) where
  pub closing_asks : RoundAsks heads links here
  closing_asks = go.asks

  module _ (more : 0 < left) {later : List ℕ} {r : Bool} (d : RoundDone heads links here later r) where
    stepped : (literal_of : ℕ → Literal) → Told literal_of heads links
        → classes_of (after_round eqb (head_at literal_of heads links) (falling 2048) (class_count eqb (head_at literal_of heads links) (falling 2048) (class_in here)) (classes_if r later) (close eqb (head_at literal_of heads links) (falling 2048) (left - 1)))
        ≡ classes_of (close eqb (head_at literal_of heads links) (falling 2048) 2049 (class_in before))
    stepped literal_of t =
        ap (λ o. classes_of (after_round eqb (head_at literal_of heads links) (falling 2048) (class_count eqb (head_at literal_of heads links) (falling 2048) (class_in here)) o (close eqb (head_at literal_of heads links) (falling 2048) (left - 1)))) (d.classes literal_of t)
        ∙ (ap classes_of (sym (close_step (head_at literal_of heads links) (falling 2048) left (class_in here) more)) ∙ go.same literal_of t)

    pub closing_fails : not r ≡ true → CloseDone heads links before later false
    closing_fails n = let q = not-true r n in record {
      classes = λ literal_of t. let x = stepped literal_of t in rw q at x;
      ok = d.ok;
    }

    module _ (n : not r ≡ false) {after : ℕ} (a : after ≡ class_count_in later 2048) where
      onward_told : (literal_of : ℕ → Literal) → Told literal_of heads links → (b : Bool) → eqb after counted ≡ b
          → classes_of (unless_closed eqb (head_at literal_of heads links) b (class_in later) (close eqb (head_at literal_of heads links) (falling 2048) (left - 1) (class_in later)))
          ≡ classes_of (close eqb (head_at literal_of heads links) (falling 2048) 2049 (class_in before))
      onward_told literal_of t b e =
          let q = not-false r n in
          let x = stepped literal_of t in
          let y : eqb (class_count eqb (head_at literal_of heads links) (falling 2048) (class_in later)) (class_count eqb (head_at literal_of heads links) (falling 2048) (class_in here)) ≡ b = ap₂ eqb (count_is (head_at literal_of heads links) later ∙ sym a) (count_is (head_at literal_of heads links) here ∙ sym go.number) ∙ e in
          rw y at (rw q at x)

      pub closing_done : after ≡ counted → CloseDone heads links before later true
      closing_done e = record { classes = λ literal_of t. onward_told literal_of t true (eq-eqb after counted e); ok = d.ok }

      pub closing_on : (after ≡ counted → ⊥) → ClosingLoop heads links before (left - 1) after later
      closing_on e = let h = go.inside in record {
        asks = record { linked = go.asks.linked; ok = d.ok };
        inside = omega arith;
        number = a;
        same = λ literal_of t. onward_told literal_of t false (ne_eqb after counted e);
      }

      pub closing_ok : ClassesOk later
      closing_ok = d.ok

  pub closing_ends : left ≤ 0 → CloseDone heads links before here false
  unfolding close
  closing_ends no_more = record { classes = λ literal_of t. let z : left ≡ 0 = omega arith in rw z at (go.same literal_of t); ok = go.asks.ok }
