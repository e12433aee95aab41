-- Keeping a plan, step by step.
use Prim.Native.Nat.{ℕ, ◌+◌, ◌-◌, ◌*◌, ◌≤◌, ◌<◌}
use mathlib.Core.Path.{◌≡◌, ap, ◌∙◌}
use mathlib.Core.Bool.{Bool, false, not}
use mathlib.Core.List.{List}
use native.Mathlib.Omega.{arith}
use mir.Val as Val
use mir.Syntax.{w32}
use lib.ListN.{length, get_or, drop, set, length-drop}
use lib.Seq.{paste, length-paste}
use Rattle.table.proofs.tests.Bools.{told_yes}
use Rattle.std.specs.Prelude.{Ok}
use Rattle.plan_store.specs.Calls.{can_keep, KeptBy}
use Rattle.plan_store.specs.code.Head.{Among, entries_end}
use Rattle.plan_store.specs.code.Rows.{InsertAsks, inserted, Admitted, plan_inserted}
use Rattle.plan_store.proofs.laws.Encoding.{store_size}
use Rattle.plan_store.proofs.head.Places.{used_word}
use Rattle.plan_store.proofs.Cases.{fits_low, fits_high, keep_asks}
use Rattle.plan_store.proofs.rows.Putting.{Steps, steps}

-- the words' two steps
module _ (ws : List ℕ) (at end : ℕ) (plan : List ℕ) (size : ℕ) (a : InsertAsks ws at end plan size) {mid : List ℕ} (mid-is : mid ≡ paste ws (at + size) (drop at ws) (end - at)) where
  pub insert_copy : at + size ≤ length mid
  insert_copy =
      let o = a.order in
      let r = a.room in
      let d = length-drop at ws in
      let m = ap length mid-is ∙ length-paste ws (at + size) (drop at ws) (end - at) (omega arith) (omega arith) in
      omega arith

  pub insert_done : {full : List ℕ} → full ≡ paste mid at plan size → full ≡ inserted ws at end plan size
  unfolding inserted
  insert_done e = e ∙ ap (λ (l : List ℕ). paste l at plan size) mid-is

-- a plan's steps
module _ {ws : List ℕ} {n : ℕ} {buffer : List ℕ} {count : ℕ} (f : Admitted ws n buffer count) where
  pub put_some : 0 < length ws
  put_some = let z = store_size ws f.is in omega arith

  pub put_among : Among ws n
  put_among = record { is = f.is; packs = fits_high f }

  module _ {packs : ℕ} (packs-is : packs ≡ get_or ws 0 0) where
    pub put_all : Among ws packs
    put_all = record { is = f.is; packs = omega arith }

    module _ {at end : ℕ} (at_is : at ≡ entries_end ws n) (end_is : end ≡ entries_end ws packs) where
      pub put_asks : InsertAsks ws at end buffer (count * 5)
      put_asks = rw (at_is, end_is, packs-is) (steps ws n buffer count f).asks

      pub put_done : {full : List ℕ} → full ≡ inserted ws at end buffer (count * 5) → full ≡ plan_inserted ws n buffer count
      unfolding plan_inserted
      put_done e = e ∙ rw (at_is, end_is, packs-is)

-- keeping: the plan, and then the count
module _ (n : ℕ) (buffer : List ℕ) (count : ℕ) (ws : List ℕ) {r : Bool} (told : r ≡ can_keep ws n buffer count) (yes : not r ≡ false) where
  here : Steps ws n buffer count
  here = steps ws n buffer count (keep_asks n buffer count ws told yes)

  pub keep_count : Val.Fits w32 (get_or ws (n * 2) 0 + count)
  keep_count = let a = here.few in omega arith

  module _ {full : List ℕ} (Full-is : full ≡ plan_inserted ws n buffer count) where
    pub keep_place : n * 2 < length full
    keep_place = let a = here.place in let b = ap length Full-is ∙ here.long in omega arith

    pub keep_done : KeptBy n buffer count ws (set full (n * 2) (get_or ws (n * 2) 0 + count)) (Ok (get_or ws (n * 2) 0))
    keep_done =
        let f = keep_asks n buffer count ws told yes in
        let y = told_yes told yes in
        let u = used_word ws n (fits_low f) (fits_high f) in
        record { answer = rw (y, u); store = ap (λ (l : List ℕ). set l (n * 2) (get_or ws (n * 2) 0 + count)) Full-is ∙ here.done ∙ rw y }
