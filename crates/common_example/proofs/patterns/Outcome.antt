-- What the outcome says: a value that both patterns match and that fixes no more than it must, or that there is none.
use Prim.Native.Nat.{ℕ, ◌+◌, ◌-◌}
use mathlib.Core.Bool.{Bool, true, false, ◌&&◌, ◌||◌, false≢true}
use mathlib.Core.List.{List}
use mathlib.Core.Option.{Option, none, some}
use mathlib.Core.Path.{◌≡◌, refl}
use native.Mathlib.Omega.{arith}
use borrow.Author.Tests.{eqb-true}
use lib.Dec.{eqb, leb, leb→le}
use lib.ListN.{length}
use Rattle.base.specs.Refusal.{Refusal, root_outside, list_too_short, pattern_not_simple, not_a_value, name_without_value, Tested, require_or, tested_or}
use Rattle.base.specs.Refusal as Refusal
use Rattle.table.specs.Tables.{Tables, name_count, is_node}
use Rattle.table.specs.Decode.{expr}
use Rattle.table.specs.Check.{checked}
use Rattle.table.proofs.tests.Bools.{and_true}
use Rattle.table.proofs.tests.Scan.{all_at}
use Rattle.table.proofs.trees.Facts.{passed, well_formed}
use Rattle.planner.specs.Simple.{simple}
use Rattle.value.specs.Value.{Value, Proper, Same}
use Rattle.value.proofs.Keys.{and_left, and_right, true_is}
use Rattle.run.specs.Operations.{listed_node, in_table, is_value_node, values_listed, known_listed}
use Rattle.common_example.specs.Overlap.{InOrder, Template, example, put_in, OverlapAnswer}
use Rattle.common_example.specs.Places.{GraphPlace, overlap}
use Rattle.common_example.specs.Operations.{PatternSide, known_in, held_by_side, side_checked, refused, both, tree_of, example_of, example_outcome}
use Rattle.value.proofs.Equal.{same←}
use Rattle.common_example.proofs.patterns.Blanks.{null_value}
use Rattle.common_example.proofs.unify.Ordered.{example_ordered}
use Rattle.common_example.proofs.patterns.Literals.{Stored, AllOf, example_stored}
use Rattle.common_example.specs.Promise.{known_to_side, OutcomeSays}
use Rattle.common_example.proofs.patterns.Tabled.{Checked, table_answer}

-- the facts of a side that no check refuses
pub record Passes (T : Tables) (s : PatternSide) : Type 0 where
  pub table : checked T s.scope ≡ Refusal.passed
  pub root : is_node T s.pattern ≡ true
  pub long : leb (name_count T) (length s.values) ≡ true
  pub is_simple : simple (expr T s.pattern) ≡ true
  pub values : values_listed T s.values ≡ true
  pub known : known_listed T (known_in s) (expr T s.pattern) s.values ≡ true

table_passes : (t o : Tested) → tested_or Refusal.refused t o ≡ Refusal.passed → (t ≡ Refusal.passed) × (o ≡ Refusal.passed)
table_passes Refusal.passed o e = (refl, e)
table_passes (Refusal.refused r) o e = absurd (false≢true (cc))

one_check : (b : Bool) (o : Tested) (r : Refusal) → require_or Refusal.refused b r o ≡ Refusal.passed → (b ≡ true) × (o ≡ Refusal.passed)
one_check true o r e = (refl, e)
one_check false o r e = absurd (false≢true (cc))

pub passes : (T : Tables) (s : PatternSide) → side_checked T s ≡ Refusal.passed → Passes T s
unfolding side_checked
passes T s e =
    let (a, e₁) = table_passes (checked T s.scope) _ e in
    let (b, e₂) = one_check (is_node T s.pattern && true) _ root_outside e₁ in
    let (c, e₃) = one_check (leb (name_count T) (length s.values)) _ list_too_short e₂ in
    let (d, e₄) = one_check (simple (expr T s.pattern)) _ pattern_not_simple e₃ in
    let (f, e₅) = one_check (values_listed T s.values) _ not_a_value e₄ in
    let (g, e₆) = one_check (known_listed T (known_in s) (expr T s.pattern) s.values) _ name_without_value e₅ in
    record { table = a; root = (and_true (is_node T s.pattern) true b).0; long = c; is_simple = d; values = f; known = g }

pub listed_values : (T : Tables) (values : List ℕ) → values_listed T values ≡ true → (x : ℕ) → in_table T x ≡ true → (listed_node values x ≡ 0 → ⊥) → is_value_node T (listed_node values x) ≡ true
unfolding values_listed
listed_values T values e x n z =
    let t = true_is n in
    let low = leb→le 1 x (and_left (leb 1 x) (leb x (name_count T)) t) in
    let high = leb→le x (name_count T) (and_right (leb 1 x) (leb x (name_count T)) t) in
    let a = all_at (λ y. eqb (listed_node values y) 0 || is_value_node T (listed_node values y)) 1 (name_count T) e (x - 1) (omega arith) in
    let q : 1 + (x - 1) ≡ x = omega arith in
    second (eqb (listed_node values x) 0) (is_value_node T (listed_node values x)) (λ h. z (eqb-true (listed_node values x) 0 h)) (rw q at a)
  where
    second : (a b : Bool) → (a ≡ true → ⊥) → (a || b) ≡ true → b ≡ true
    second true b f h = absurd (f refl)
    second false b f h = h

null_same : {H : Type 0} (t : Template H) → Proper (example t) → Same (put_in (λ x. null_value.value) t) (example t)
unfolding null_value
null_same t p = same← (example t) (example t) p refl

module _ (T : Tables) (s₁ s₂ : PatternSide) where
  said : (o : Option (Template GraphPlace)) → OverlapAnswer (known_to_side T s₁) (known_to_side T s₂) (expr T s₁.pattern) (expr T s₂.pattern) o → ((t : Template GraphPlace) → o ≡ some t → InOrder (example t)) → OutcomeSays T s₁ s₂ (example_of o)
  said none a st = a
  said (some t) a st =
      record {
        is_value = a.is_value;
        both_match_lem = a.only (example t) a.is_value (λ x. null_value, null_same t a.is_value);
        template = t;
        general = a;
        its_example = refl;
        ordered = st t refl;
      }

  -- of every outcome
  pub outcome_says : OutcomeSays T s₁ s₂ (example_outcome T s₁ s₂)
  unfolding example_outcome
  outcome_says = first (side_checked T s₁) refl (side_checked T s₂) refl
    where
      first : (o : Tested) → side_checked T s₁ ≡ o → (p : Tested) → side_checked T s₂ ≡ p
          → OutcomeSays T s₁ s₂ (tested_or refused o (tested_or refused p (example_of (overlap (tree_of T) (held_by_side T s₁) (held_by_side T s₂) 512 s₁.pattern s₂.pattern))))
      first (Refusal.refused r) e p q = tt
      first Refusal.passed e (Refusal.refused r) q = tt
      first Refusal.passed e Refusal.passed q =
          let a = passes T s₁ e in
          let b = passes T s₂ q in
          let g = passed T s₁.scope a.table in
          let w = well_formed T s₁.scope g.limits g.rules in
          let c₁ : Checked T w s₁ s₂ s₁ = record { root = a.root; is_simple = a.is_simple; listed_values_lem = listed_values T s₁.values a.values } in
          let c₂ : Checked T w s₁ s₂ s₂ = record { root = b.root; is_simple = b.is_simple; listed_values_lem = listed_values T s₂.values b.values } in
          said (overlap (tree_of T) (held_by_side T s₁) (held_by_side T s₂) 512 s₁.pattern s₂.pattern) (table_answer T w s₁ s₂ c₁ c₂) (example_ordered T (held_by_side T s₁) (held_by_side T s₂) 512 s₁.pattern s₂.pattern)

  -- the literals of a value that is found are equal to literals of the table, but for the null of a free place
  pub found_stored : (v : Value) → example_outcome T s₁ s₂ ≡ both v → AllOf (Stored T) v
  unfolding example_outcome
  found_stored v e = first (side_checked T s₁) refl (side_checked T s₂) e
    where
      last : Passes T s₁ → (o : Option (Template GraphPlace)) → overlap (tree_of T) (held_by_side T s₁) (held_by_side T s₂) 512 s₁.pattern s₂.pattern ≡ o → example_of o ≡ both v → AllOf (Stored T) v
      last a none p q = absurd (false≢true (cc))
      last a (some t) p q =
          let g = passed T s₁.scope a.table in
          let w = well_formed T s₁.scope g.limits g.rules in
          let r : example t ≡ v = cc in
          rw (← r) (example_stored T w (held_by_side T s₁) (held_by_side T s₂) 512 s₁.pattern s₂.pattern t p)

      first : (o : Tested) → side_checked T s₁ ≡ o → (p : Tested)
          → tested_or refused o (tested_or refused p (example_of (overlap (tree_of T) (held_by_side T s₁) (held_by_side T s₂) 512 s₁.pattern s₂.pattern))) ≡ both v → AllOf (Stored T) v
      first (Refusal.refused r) x p q = absurd (false≢true (cc))
      first Refusal.passed x (Refusal.refused r) q = absurd (false≢true (cc))
      first Refusal.passed x Refusal.passed q = last (passes T s₁ x) (overlap (tree_of T) (held_by_side T s₁) (held_by_side T s₂) 512 s₁.pattern s₂.pattern) refl q
