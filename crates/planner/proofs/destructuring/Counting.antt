-- A counter of steps: what is left makes of the count here the same as all of it of the count at the start.
use Prim.Native.Nat.{ℕ, ◌+◌, ◌≤◌}
use mathlib.Core.Path.{◌≡◌, refl}
use native.Mathlib.Omega.{arith}
use mir.Val.{Fits}
use mir.Syntax.{w64}
use Rattle.planner.specs.code.Post.{StepRoom}

-- one step of a node's, and those below it
pub enter_fits : {steps all : ℕ} → StepRoom steps all → 1 ≤ all → Fits w64 (steps + 1)
enter_fits r some = let m = r.room in record { fits = omega arith }

pub enter_room : {steps all : ℕ} → StepRoom steps all → (below : ℕ) → 1 + below ≡ all → StepRoom (steps + 1) below
enter_room r below e = let m = r.room in record { room = omega arith }

pub entered : (steps all below : ℕ) {after : ℕ} → 1 + below ≡ all → after ≡ steps + 1 + below → after ≡ steps + all
entered steps all below e a = omega arith

pub record Counting (start all here rest : ℕ) : Type 0 where
  pub room : StepRoom start all
  pub same : here + rest ≡ start + all

pub counting_start : {start all : ℕ} → StepRoom start all → Counting start all start all
counting_start r = record { room = r; same = refl }

module _ {start all here rest : ℕ} (go : Counting start all here rest) where
  pub counting_one : (one more : ℕ) → rest ≡ one + more → StepRoom here one
  counting_one one more e = let s = go.same in let m = go.room.room in record { room = omega arith }

  pub counting_on : (one more : ℕ) {next : ℕ} → rest ≡ one + more → next ≡ here + one → Counting start all next more
  counting_on one more e n = let s = go.same in record { room = go.room; same = omega arith }

  pub counting_ends : rest ≡ 0 → here ≡ start + all
  counting_ends e = let s = go.same in omega arith
