-- The whole of it: a value that is found within the limits is written so that a run of each pattern on its node matches.
use Prim.Native.Nat.{◌+◌, ◌≤◌}
use mathlib.Core.Bool.{false≢true}
use mathlib.Core.Path.{◌≡◌, refl}
use lib.ListN.{length}
use Rattle.table.specs.Tables.{Tables, node_count}
use Rattle.base.specs.Refusal.{Tested, tested_or}
use Rattle.base.specs.Refusal as Refusal
use Rattle.value.specs.Value.{Value}
use Rattle.common_example.specs.Overlap.{size, depthᵛ}
use Rattle.common_example.specs.Places.{overlap}
use Rattle.common_example.specs.Operations.{PatternSide, held_by_side, side_checked, refused, both, example_of, tree_of, example_outcome, child_entries}
use Rattle.common_example.proofs.patterns.OneExample.{one_example}
use Rattle.common_example.proofs.patterns.Outcome.{Passes, passes, outcome_says, found_stored}
use Rattle.common_example.specs.Promise.{IsExample, Matched, ExamplePromise}
use Rattle.common_example.proofs.written.Runs.{first_runs, second_runs}
use Rattle.common_example.proofs.written.Sound.{passes_check}

module _ (T : Tables) (s₁ s₂ : PatternSide) (v : Value) (found : example_outcome T s₁ s₂ ≡ both v) where
  -- the sides passed their checks
  sides_pass : Passes T s₁ × Passes T s₂
  unfolding example_outcome
  sides_pass = go (side_checked T s₁) refl (side_checked T s₂) refl found
    where
      go : (o : Tested) → side_checked T s₁ ≡ o → (p : Tested) → side_checked T s₂ ≡ p
          → tested_or refused o (tested_or refused p (example_of (overlap (tree_of T) (held_by_side T s₁) (held_by_side T s₂) 512 s₁.pattern s₂.pattern))) ≡ both v → Passes T s₁ × Passes T s₂
      go (Refusal.refused r) e p q h = absurd (false≢true (cc))
      go Refusal.passed e (Refusal.refused r) q h = absurd (false≢true (cc))
      go Refusal.passed e Refusal.passed q h = (passes T s₁ e, passes T s₂ q)

  is_example : IsExample T s₁ s₂ v
  is_example = rw found at (outcome_says T s₁ s₂)

  both_run : node_count T + size v ≤ 512 → length T.children + child_entries v ≤ 512 → depthᵛ v ≤ 32 → Matched T v s₁ × Matched T v s₂
  both_run a b c =
      let e = is_example in
      let st = found_stored T s₁ s₂ v found in
      let r = sides_pass in (
        λ x p. first_runs T s₁ s₂ v e st r.0 r.1 x (passes_check T s₁.scope r.0.table v e.is_value st a b c) p,
        λ y q. second_runs T s₁ s₂ v e st r.0 r.1 y (passes_check T s₂.scope r.1.table v e.is_value st a b c) q,
      )

pub promise : ExamplePromise
promise = record { one = one_example; says = outcome_says; runs = both_run }
