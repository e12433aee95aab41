-- An array in a local, for a walk by hand: as what lies in memory, which can be lent (`denote.Lend`), and as its local's value.
use mathlib.Core.Path.{◌≡◌, refl, subst}
use Prim.Native.Nat.{ℕ, zero, suc}
use mathlib.Core.List.{List, [], ◌∷◌}
use lib.ListN.{length, replicate, length-replicate}
use lib.Dec.{lit<}
use seplogic.Ra.Ura.{Ura}
use base.Fraction.{full_share}
use mir.Syntax.{w32, ty_array}
use mir.Val.{Val, vint}
use base.Logic.{ent, sep}
use base.Fml.{fat, fsep}
use types.Logic.{Logic, sem}
use types.Kit.{‵, given, some, mean, ◌$◌, ◌∵◌, !, qed, move, use1, rewrite, fsplit, fjoin, fpick, fpack, show, check, done}
use denote.RattleType.{RattleType}
use denote.Laws.{Is, shows}
use denote.Builtin.{u32}
use denote.Array.{Array, array_val, each}
use denote.Memory.{cell_at, lone, part_at, part_of}
use denote.Shadow.{shadow}
use denote.Steps.{facts}

module _ {M : Type 1} {𝓤 : Ura M} (𝓛 : Logic 𝓤) (R : RattleType) (n : ℕ) where
  -- its cell, and what it owns
  open 𝓛 use {H}

  pub lies_in : (xs : List R.Denot) (v : Val) (b o : ℕ)
      → ent 𝓤 (sep 𝓤 (H.at full_share (ty_array (lone R.mir) n) b o v) (sem 𝓛 ((Array R n).own_val xs (v ∷ [])))) (sem 𝓛 (part_at (Array R n) full_share xs b o))
  unfolding part_of
  lies_in xs v b o =
      qed 𝓛 (‵ (fat full_share (ty_array (lone R.mir) n) b o v) ∷ ‵ ((Array R n).own_val xs (v ∷ [])) ∷ []) ∵
      use1 𝓛 (‵ (cell_at full_share (Array R n).mir (v ∷ []) b o)) (𝓛.laws.at_raw full_share (ty_array (lone R.mir) n) b o v) $ fjoin ! $
      fpack ! (List Val) (λ vs. fsep (cell_at full_share (Array R n).mir vs b o) ((Array R n).own_val xs vs)) (v ∷ []) $ done !

  pub lies_out : (xs : List R.Denot) (b o : ℕ)
      → ent 𝓤 (sem 𝓛 (part_at (Array R n) full_share xs b o)) (mean 𝓛 (some (λ (v : Val). given (Is (Array R n) xs (v ∷ [])) (‵ (fat full_share (ty_array (lone R.mir) n) b o v)))))
  unfolding part_of
  lies_out xs b o =
      qed 𝓛 (‵ (part_at (Array R n) full_share xs b o) ∷ []) ∵ fpick ! (λ vs. fsplit ! $ move ! (1 ∷ []) $ facts ! (Array R n) (Is (Array R n)) (shows 𝓛 (Array R n)) xs vs (λ is.
      rewrite ! 0 (λ (ws : List Val). ‵ (cell_at full_share (Array R n).mir ws b o)) is.1.0.0 refl $
      use1 𝓛 (‵ (fat full_share (ty_array (lone R.mir) n) b o (array_val is.0))) (𝓛.laws.raw_at full_share (ty_array (lone R.mir) n) b o (array_val is.0)) $
      show ! (λ (v : Val). mean 𝓛 (given (Is (Array R n) xs (v ∷ [])) (‵ (fat full_share (ty_array (lone R.mir) n) b o v)))) (array_val is.0) $
      check ! (subst (Is (Array R n) xs) is.1.0.0 is) $ done !))

-- `[0u32; n]`
pub zeros : ℕ → List ℕ
zeros n = replicate n 0

pub zeros_length : (n : ℕ) → length (zeros n) ≡ n
unfolding zeros
zeros_length n = length-replicate {A = ℕ} n 0

abbrev pub zero_val : ℕ → Val
zero_val n = array_val (replicate n (vint w32 0))

each_zero : (n : ℕ) → shadow (each ℕ u32.own_val (replicate n 0) (replicate n (vint w32 0)))
each_zero zero = tt
each_zero (suc n) = ((refl, lit< tt), each_zero n)

pub is_zeros : (n : ℕ) → Is (Array u32 n) (zeros n) (zero_val n ∷ [])
unfolding zeros
is_zeros n = (replicate n (vint w32 0), ((refl, length-replicate {A = ℕ} n 0), each_zero n))
