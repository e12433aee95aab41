-- A plan buffer that is cleared behind the entries.
use Rattle.std.proofs.Common.{Err}
use Prim.Native.Nat.{ℕ, zero, suc, ◌+◌, ◌*◌, ◌/◌, ◌≤◌, ◌<◌}
use mathlib.Core.Path.{◌≡◌, refl, sym, ap, ◌∙◌}
use mathlib.Core.List.{List, ◌∷◌}
use native.Mathlib.Omega.{arith}
use borrow.Author.Tests.{le-leb, lt-leb, lt-ltb, le-ltb}
use lib.ListN.{length, get_or, replicate, get_or-eq_default}
use Rattle.planner.specs.Entries.{word_at, Closed}
use Rattle.planner.specs.Layout.{entry_words}
use Rattle.planner.specs.Answer.{planned_as}
use Rattle.planner.specs.declared.PlanRefusal.TheVariants.{PlanTooLarge}
use Rattle.base.specs.Lists.{tabulate}
pub use Rattle.base.proofs.Filling.{Filling, filling_begin, filling_start, filling_on, filling_next, length_tabulate, get_d_tabulate, tabulate_next, tabulate_same, filling_ends, zeros_end}

-- behind the end
pub past_end : (l : List ℕ) (i : ℕ) → length l ≤ i → 0 ≡ get_or l i 0
past_end l i le = sym (get_or-eq_default l 0 le)

-- a word that is kept, or cleared
module _ (before : List ℕ) (size i : ℕ) where
  pub word_in : i < size → get_or before i 0 ≡ word_at before size i
  word_in lt = simp (lt-ltb i size lt)

  pub word_out : size ≤ i → 0 ≡ word_at before size i
  word_out le = simp (le-ltb i size le)

-- no word kept
pub all_cleared : (before : List ℕ) {after : List ℕ} → after ≡ tabulate (word_at before 0) 0 (length before) → after ≡ replicate (length before) 0
unfolding tabulate
all_cleared before e = e ∙ zeros (word_at before 0) (λ i. sym (word_out before 0 i (omega arith))) 0 (length before)
  where
    zeros : (f : ℕ → ℕ) → ((i : ℕ) → f i ≡ 0) → (i k : ℕ) → tabulate f i k ≡ replicate k 0
    zeros f none i zero = refl
    zeros f none i (suc k) = ap (λ h. h ∷ tabulate f (i + 1) k) (none i) ∙ ap (λ t. 0 ∷ t) (zeros f none (i + 1) k)

-- with and without space
module _ (form count : ℕ) (before after : List ℕ) where
  pub closed_small : length before / entry_words < count → after ≡ replicate (length before) 0 → Closed form count before after (Err (PlanTooLarge count))
  closed_small lt e = let b = lt-leb count (length before / entry_words) lt in record { answer = simp b; buffer = simp b e }

  pub closed_fits : count ≤ length before / entry_words → after ≡ tabulate (word_at before (count * entry_words)) 0 (length before) → Closed form count before after (planned_as form 0 count)
  closed_fits le e = let b = le-leb count (length before / entry_words) le in record { answer = simp b; buffer = simp b e }
