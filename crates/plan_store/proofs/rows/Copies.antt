-- Words copied, from the first on.
use Prim.Native.Nat.{ℕ, ◌+◌, ◌≤◌, ◌<◌}
use mathlib.Core.Path.{◌≡◌, refl, sym, ap, ◌∙◌}
use mathlib.Core.List.{List}
use native.Mathlib.Omega.{arith}
use native.Mathlib.Numerals.{add-one}
use lib.ListN.{length, get_or, set, length-set}
use lib.Seq.{paste, paste-zero, paste-suc}

pub record Copying (before : List ℕ) (at : ℕ) (plan : List ℕ) (count : ℕ) (store : List ℕ) (i : ℕ) : Type 0 where
  pub room : at + count ≤ length before
  pub enough : count ≤ length plan
  pub inside : i ≤ count
  pub long : length store ≡ length before
  pub same : store ≡ paste before at plan i

pub copying_start : (before : List ℕ) (at : ℕ) (plan : List ℕ) (count : ℕ) → at + count ≤ length before → count ≤ length plan → Copying before at plan count before 0
copying_start before at plan count room enough = record { room = room; enough = enough; inside = omega arith; long = refl; same = paste-zero before at plan }

module _ {before : List ℕ} {at : ℕ} {plan : List ℕ} {count : ℕ} {store : List ℕ} {i : ℕ} (c : Copying before at plan count store i) where
  pub copying_on : i < count → Copying before at plan count (set store (at + i) (get_or plan i 0)) (i + 1)
  copying_on lt =
      let r = c.room in
      let e = c.enough in
      record {
        room = r;
        enough = e;
        inside = omega arith;
        long = length-set store (at + i) (get_or plan i 0) ∙ c.long;
        same = ap (λ (l : List ℕ). set l (at + i) (get_or plan i 0)) c.same ∙ paste-suc before at plan i 0 (omega arith) (omega arith) ∙ ap (paste before at plan) (sym (add-one i));
      }

  pub copying_ends : count ≤ i → store ≡ paste before at plan count
  copying_ends le = let n = c.inside in let e : i ≡ count = omega arith in c.same ∙ ap (paste before at plan) e
