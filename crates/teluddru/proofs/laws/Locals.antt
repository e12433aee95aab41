-- The steps of a function whose code runs straight through, over its locals (`laws.Cells`), which stand behind whatever else there is.
-- `enters` allocates them and stores the arguments, `loads` reads some, `sets` stores a right side, `lands_in` what a call returned, `relends` lends slices again, `takes` and `gives` lend a local's memory and take it back, `leaves` returns and frees all.
use Prim.Native.Nat.{ℕ, zero, suc, ◌+◌}
use mathlib.Core.Path.{◌≡◌, refl, sym, ◌∙◌, ap, subst}
use mathlib.Core.List.{List, [], ◌∷◌, ◌++◌, append_assoc, append-nil}
use seplogic.Ra.Ura.{Ura}
use base.Fraction.{full_share}
use lib.Dec.{T}
use mir.Syntax.{Ty, place, copy, w64, ty_int, Rv as RValue, addr_of, field, deref, Body, seq, assign, return, Local, local, Fn}
use mir.Val.{Val, vint, vptr, WT, has_ty}
use base.Logic.{SProp, ent, sep, emp, via, comm∗, assoc∗, assoc', mono_l, mono_r, snd∗, emp∗, id⊢}
use base.Fml.{Share, ftrue, froom, fat, fdies}
use prog.Memory.{up, align, size}
use prog.Wp.{Env, Spot, Calls, Loops, spot_of, release, WpFn}
use types.Logic.{Logic}
use types.Kit as Kit
use types.Kit.{Item, ‵, mean, ⋆, nth, del, put, push, pop, pull, ++⊢, ⊢++, Post, at_ret, Goal, prop, runs, lands, allocs, params', passes, Seq, Step, step, ◌$◌, by}
use types.Run.{Finds, Reads, Writes, Walks, Opd, Opds, Rv, look, init, from, stop, load, addr, fld, hop, and_then, no_more, assigns, land, returns, enter, alloc1, alloc0, params1, pass1, pass0}
use types.Part.{Part, agg, whole, sub, look_in}
use denote.Slice.{slice_ty, slice_val}
use Rattle.teluddru.proofs.laws.Cells.{Cell, free, full, away, type_of, block_of, holds, is_free, is_full, is_here, is_full_lem, both, cell_at, type_at, block_at, val_at, vals_at, free_at, full_at, all_here, Fits, filled, taken, filled_at, filled_other, homes, homes_filled, Sound, sound_filled, copies, Blocks, kind, fresh, stored, Fitting, begun, Lend, lends_on, start_in, count_in, ref_in, pointer_of, slice_of, pointed, lent_again, Lends, lent_all, LendsAll, homes_lent_one, slice_wt}

-- ---- as entries of a context, each with its leave to be freed
abbrev pos : ℕ → ℕ
pos zero = zero
pos (suc i) = suc (suc (pos i))

module _ {M : Type 1} (𝓤 : Ura M) where
  abbrev cell : Cell → Item 𝓤
  cell (free τ b) = ‵ (froom τ b zero)
  cell (full τ b v) = ‵ (fat full_share τ b zero v)
  cell (away τ b) = ‵ ftrue

  abbrev pub cells : List Cell → List (Item 𝓤)
  cells [] = []
  cells (c ∷ cs) = cell c ∷ ‵ (fdies (type_of c) (block_of c)) ∷ cells cs

  -- local i's memory, with a value
  abbrev held : List Cell → ℕ → Val → Item 𝓤
  held cs i v = ‵ (fat full_share (type_at cs i) (block_at cs i) zero v)

  as_free : (c : Cell) → T (is_free c) → cell c ≡ ‵ (froom (type_of c) (block_of c) zero)
  as_free (free τ b) z = refl
  as_free (full τ b v) z = absurd z
  as_free (away τ b) z = absurd z

  as_full : (c : Cell) → T (is_full c) → cell c ≡ ‵ (fat full_share (type_of c) (block_of c) zero (holds c))
  as_full (free τ b) z = absurd z
  as_full (full τ b v) z = refl
  as_full (away τ b) z = absurd z

  abbrev past : List (Item 𝓤) → ℕ → ℕ
  past [] n = n
  past (i ∷ Δ) n = suc (past Δ n)

-- they stand behind whatever else there is
infixr 40 ◌▹◌
abbrev pub ◌▹◌ : {M : Type 1} {𝓤 : Ura M} → List (Item 𝓤) → List Cell → List (Item 𝓤)
◌▹◌ {M} {𝓤} Δ cs = Δ ++ cells 𝓤 cs

module _ {M : Type 1} {𝓤 : Ura M} (𝓛 : Logic 𝓤) where
  open 𝓛 use {H}

  spot_is : (cs : List Cell) (i : ℕ) → spot_of 𝓤 H (homes cs) i ≡ (type_at cs i, block_at cs i, zero)
  spot_is [] i = refl
  spot_is (c ∷ cs) zero = refl
  spot_is (c ∷ cs) (suc i) = spot_is cs i

  nth_past : (Δ Γ : List (Item 𝓤)) (n : ℕ) → nth 𝓛 (past 𝓤 Δ n) (Δ ++ Γ) ≡ nth 𝓛 n Γ
  nth_past [] Γ n = refl
  nth_past (i ∷ Δ) Γ n = nth_past Δ Γ n

  put_past : (Δ Γ : List (Item 𝓤)) (n : ℕ) (k : Item 𝓤) → put 𝓛 (past 𝓤 Δ n) k (Δ ++ Γ) ≡ Δ ++ put 𝓛 n k Γ
  put_past [] Γ n k = refl
  put_past (i ∷ Δ) Γ n k = ap (λ (Θ : List (Item 𝓤)). i ∷ Θ) (put_past Δ Γ n k)

  nth_cell : (cs : List Cell) (i : ℕ) → nth 𝓛 (pos i) (cells 𝓤 cs) ≡ cell 𝓤 (cell_at cs i)
  nth_cell [] i = refl
  nth_cell (c ∷ cs) zero = refl
  nth_cell (c ∷ cs) (suc i) = nth_cell cs i

  put_full : (cs : List Cell) (i : ℕ) (v : Val) → put 𝓛 (pos i) (held 𝓤 cs i v) (cells 𝓤 cs) ≡ cells 𝓤 (filled cs i v)
  put_full [] i v = refl
  put_full (c ∷ cs) zero v = refl
  put_full (c ∷ cs) (suc i) v = ap (λ (Θ : List (Item 𝓤)). cell 𝓤 c ∷ ‵ (fdies (type_of c) (block_of c)) ∷ Θ) (put_full cs i v)

  put_away : (cs : List Cell) (i : ℕ) → put 𝓛 (pos i) (‵ ftrue) (cells 𝓤 cs) ≡ cells 𝓤 (taken cs i)
  put_away [] i = refl
  put_away (c ∷ cs) zero = refl
  put_away (c ∷ cs) (suc i) = ap (λ (Θ : List (Item 𝓤)). cell 𝓤 c ∷ ‵ (fdies (type_of c) (block_of c)) ∷ Θ) (put_away cs i)

  nth_at : (Δ : List (Item 𝓤)) (cs : List Cell) (i : ℕ) → nth 𝓛 (past 𝓤 Δ (pos i)) (Δ ▹ cs) ≡ cell 𝓤 (cell_at cs i)
  nth_at Δ cs i = nth_past Δ (cells 𝓤 cs) (pos i) ∙ nth_cell cs i

  full_at_lem : (Δ : List (Item 𝓤)) (cs : List Cell) (i : ℕ) (v : Val) → put 𝓛 (past 𝓤 Δ (pos i)) (held 𝓤 cs i v) (Δ ▹ cs) ≡ Δ ▹ filled cs i v
  full_at_lem Δ cs i v = put_past Δ (cells 𝓤 cs) (pos i) (held 𝓤 cs i v) ∙ ap (λ (Θ : List (Item 𝓤)). Δ ++ Θ) (put_full cs i v)

  away_at : (Δ : List (Item 𝓤)) (cs : List Cell) (i : ℕ) → put 𝓛 (past 𝓤 Δ (pos i)) (‵ ftrue) (Δ ▹ cs) ≡ Δ ▹ taken cs i
  away_at Δ cs i = put_past Δ (cells 𝓤 cs) (pos i) (‵ ftrue) ∙ ap (λ (Θ : List (Item 𝓤)). Δ ++ Θ) (put_away cs i)

  takes_out : (Δ : List (Item 𝓤)) (cs : List Cell) (i : ℕ) {τ : Ty} {b : ℕ} {v : Val} → cell_at cs i ≡ full τ b v → ent 𝓤 (⋆ 𝓛 (Δ ▹ cs)) (⋆ 𝓛 (‵ (fat full_share τ b zero v) ∷ Δ ▹ taken cs i))
  takes_out Δ cs i {τ} {b} {v} is =
      let n = past 𝓤 Δ (pos i) in
      let P : Item 𝓤 = ‵ (fat full_share τ b zero v) in
      let Rest = ⋆ 𝓛 (del 𝓛 n (Δ ▹ cs)) in
      subst (λ (Θ : List (Item 𝓤)). ent 𝓤 (⋆ 𝓛 (Δ ▹ cs)) (⋆ 𝓛 (P ∷ Θ))) (away_at Δ cs i)
      (via 𝓤 (sep 𝓤 (mean 𝓛 P) Rest) (subst (λ (j : Item 𝓤). ent 𝓤 (⋆ 𝓛 (Δ ▹ cs)) (sep 𝓤 (mean 𝓛 j) Rest)) (nth_at Δ cs i ∙ ap (cell 𝓤) is) (pull 𝓛 n (Δ ▹ cs)))
      (via 𝓤 (sep 𝓤 (mean 𝓛 P) (⋆ 𝓛 (put 𝓛 n (‵ ftrue) (Δ ▹ cs)))) (mono_r 𝓤 (mean 𝓛 P) (via 𝓤 (sep 𝓤 (emp 𝓤) Rest) (emp∗ 𝓤 Rest) (Kit.fill 𝓛 n (‵ ftrue) (Δ ▹ cs)))) (push 𝓛 P (put 𝓛 n (‵ ftrue) (Δ ▹ cs)))))

  gives_back : (Δ : List (Item 𝓤)) (cs : List Cell) (i : ℕ) (v : Val) {τ : Ty} {b : ℕ} → cell_at cs i ≡ away τ b → ent 𝓤 (⋆ 𝓛 (‵ (fat full_share τ b zero v) ∷ Δ ▹ cs)) (⋆ 𝓛 (Δ ▹ filled cs i v))
  gives_back Δ cs i v {τ} {b} is =
      let n = past 𝓤 Δ (pos i) in
      let P : Item 𝓤 = ‵ (fat full_share τ b zero v) in
      let Rest = ⋆ 𝓛 (del 𝓛 n (Δ ▹ cs)) in
      via 𝓤 (sep 𝓤 (mean 𝓛 P) (⋆ 𝓛 (Δ ▹ cs))) (pop 𝓛 P (Δ ▹ cs))
      (via 𝓤 (sep 𝓤 (mean 𝓛 P) Rest) (mono_r 𝓤 (mean 𝓛 P) (via 𝓤 (sep 𝓤 (mean 𝓛 (nth 𝓛 n (Δ ▹ cs))) Rest) (pull 𝓛 n (Δ ▹ cs)) (snd∗ 𝓤 (mean 𝓛 (nth 𝓛 n (Δ ▹ cs))) Rest)))
      (subst (λ (c : Cell). ent 𝓤 (sep 𝓤 (mean 𝓛 (‵ (fat full_share (type_of c) (block_of c) zero v))) Rest) (⋆ 𝓛 (Δ ▹ filled cs i v))) is
      (subst (λ (Θ : List (Item 𝓤)). ent 𝓤 (sep 𝓤 (mean 𝓛 (held 𝓤 cs i v)) Rest) (⋆ 𝓛 Θ)) (full_at_lem Δ cs i v) (Kit.fill 𝓛 n (held 𝓤 cs i v) (Δ ▹ cs)))))

  -- a local that holds a slice
  slice_spot : (cs : List Cell) {E : Env 𝓤 H} → homes cs ≡ E → (i : ℕ) (ref : Ty) (b : ℕ) (v : Val) → cell_at cs i ≡ full (slice_ty ref) b v → spot_of 𝓤 H E i ≡ (slice_ty ref, b, zero)
  slice_spot cs e i ref b v is = ap (λ (F : Env 𝓤 H). spot_of 𝓤 H F i) (sym e) ∙ spot_is cs i ∙ ap (λ (c : Cell). (type_of c, block_of c, zero)) is

-- ---- reading and storing
module _ {M : Type 1} {𝓤 : Ura M} {𝓛 : Logic 𝓤} {K : Type 0} (Δ : List (Item 𝓤)) (cs : List Cell) where
  open 𝓛 use {H}

  reads_at : K → (i : ℕ) → T (is_full (cell_at cs i)) → Reads K 𝓛 (Δ ▹ cs) (type_at cs i) (block_at cs i) zero (val_at cs i)
  reads_at t i z = look t (past 𝓤 Δ (pos i)) (nth_at 𝓛 Δ cs i ∙ as_full 𝓤 (cell_at cs i) z)

  writes_at : K → (i : ℕ) (v : Val) → T (free_at cs i) → Fits cs i v → Writes K 𝓛 (Δ ▹ cs) (type_at cs i) (block_at cs i) zero v (Δ ▹ filled cs i v)
  writes_at t i v z wt =
      subst (Writes K 𝓛 (Δ ▹ cs) (type_at cs i) (block_at cs i) zero v) (full_at_lem 𝓛 Δ cs i v) (init t (past 𝓤 Δ (pos i)) (nth_at 𝓛 Δ cs i ∙ as_free 𝓤 (cell_at cs i) z) wt)

  -- local i's memory is taken out, and put back with a value
  pub takes : K → {G : Goal 𝓤 H} (i : ℕ) {τ : Ty} {b : ℕ} {v : Val} → cell_at cs i ≡ full τ b v → Step K 𝓛 (‵ (fat full_share τ b zero v) ∷ Δ ▹ taken cs i) G (Δ ▹ cs) G
  takes t i {τ} {b} {v} is = step (λ s. by t (via 𝓤 (⋆ 𝓛 (‵ (fat full_share τ b zero v) ∷ Δ ▹ taken cs i)) (takes_out 𝓛 Δ cs i is) s.prf))

  pub gives : K → {G : Goal 𝓤 H} (i : ℕ) (v : Val) {τ : Ty} {b : ℕ} → cell_at cs i ≡ away τ b → Step K 𝓛 (Δ ▹ filled cs i v) G (‵ (fat full_share τ b zero v) ∷ Δ ▹ cs) G
  gives t i v is = step (λ s. by t (via 𝓤 (⋆ 𝓛 (Δ ▹ filled cs i v)) (gives_back 𝓛 Δ cs i v is) s.prf))

  module _ {E : Env 𝓤 H} (e : homes cs ≡ E) where
    finds : K → (i : ℕ) → Finds K 𝓛 (Δ ▹ cs) E (place i []) (type_at cs i, block_at cs i, zero)
    finds t i = subst (λ (F : Env 𝓤 H). Finds K 𝓛 (Δ ▹ cs) F (place i []) (type_at cs i, block_at cs i, zero)) e (subst (Finds K 𝓛 (Δ ▹ cs) (homes cs) (place i [])) (spot_is 𝓛 cs i) (from t (stop t)))

    pub loads_one : K → (i : ℕ) → T (is_full (cell_at cs i)) → Opd K 𝓛 (Δ ▹ cs) E (copy (place i [])) (val_at cs i)
    loads_one t i z = load t (finds t i) (reads_at t i z)

    pub loads : K → (is : List ℕ) → T (full_at cs is) → Opds K 𝓛 (Δ ▹ cs) E (copies is) (vals_at cs is)
    loads t [] z = no_more t
    loads t (i ∷ is) z = let zs = both (is_full (cell_at cs i)) (full_at cs is) z in and_then t (loads_one t i zs.0) (loads t is zs.1)

    pub address : K → (i : ℕ) → Rv K 𝓛 (Δ ▹ cs) E (addr_of (place i [])) (vptr (block_at cs i) zero)
    address t i = addr t (finds t i)

    module _ {C : Calls 𝓤 H} {Λ : Loops 𝓤 H} {q : Post 𝓤 H} {rest : Body} where
      -- a right side is stored in local i, and what a call returned
      pub sets : K → {rv : RValue} (i : ℕ) (v : Val) → Rv K 𝓛 (Δ ▹ cs) E rv v → T (free_at cs i) → Fits cs i v
          → Step K 𝓛 (Δ ▹ filled cs i v) (runs C Λ E rest q) (Δ ▹ cs) (runs C Λ E (seq (assign (place i []) rv) rest) q)
      sets t i v rv z wt = assigns t rv (finds t i) (writes_at t i v z wt)

      pub lands_in : K → (i : ℕ) (v : Val) → T (free_at cs i) → Fits cs i v → Step K 𝓛 (Δ ▹ filled cs i v) (runs C Λ E rest q) (Δ ▹ cs) (lands C Λ E (place i []) v rest q)
      lands_in t i v z wt = land t (finds t i) (writes_at t i v z wt)

    -- local i holds a slice: its pointer, and its count
    module _ (i : ℕ) (ref : Ty) (b : ℕ) (start : ℕ × ℕ) (count : ℕ) (is : cell_at cs i ≡ full (slice_ty ref) b (slice_val start count)) where
      slice_part : {q : Share} {τ : Ty} {o : ℕ} {v : Val} {back : Val → Item 𝓤} → Part K 𝓛 (‵ (fat full_share (slice_ty ref) b zero (slice_val start count))) q τ b o v back → Part K 𝓛 (nth 𝓛 (past 𝓤 Δ (pos i)) (Δ ▹ cs)) q τ b o v back
      slice_part {q} {τ} {o} {v} {back} = subst (λ (j : Item 𝓤). Part K 𝓛 j q τ b o v back) (sym (nth_at 𝓛 Δ cs i ∙ ap (cell 𝓤) is))

      slice_start : K → (τ : Ty) → Rv K 𝓛 (Δ ▹ cs) E (addr_of (place i (field 0 ∷ deref τ ∷ []))) (vptr start.0 start.1)
      slice_start t τ =
          addr t (from t (subst (λ (sp : Spot 𝓤 H). Walks K 𝓛 (Δ ▹ cs) E sp (field 0 ∷ deref τ ∷ []) (τ, start.0, start.1)) (sym (slice_spot 𝓛 cs e i ref b (slice_val start count) is))
          (fld t refl (hop t (look_in t (past 𝓤 Δ (pos i)) (slice_part (sub t 0 refl (whole t)))) (stop t)))))

      slice_count : K → Opd K 𝓛 (Δ ▹ cs) E (copy (place i (field 1 ∷ []))) (vint w64 count)
      slice_count t =
          load t (from t (subst (λ (sp : Spot 𝓤 H). Walks K 𝓛 (Δ ▹ cs) E sp (field 1 ∷ []) (ty_int w64, b, 0 + up (align (ty_int w64)) (up (align ref) 0 + size ref))) (sym (slice_spot 𝓛 cs e i ref b (slice_val start count) is)) (fld t refl (stop t))))
          (look_in t (past 𝓤 Δ (pos i)) (slice_part (sub t 1 refl (whole t))))

module _ {M : Type 1} {𝓤 : Ura M} {𝓛 : Logic 𝓤} {K : Type 0} where
  open 𝓛 use {H}

  pub relends_one : K → (Δ : List (Item 𝓤)) (cs : List Cell) (l : Lend) {E : Env 𝓤 H} → homes cs ≡ E → WT (slice_of cs l) → Lends cs l → {C : Calls 𝓤 H} {Λ : Loops 𝓤 H} {q : Post 𝓤 H} {rest : Body}
      → Step K 𝓛 (Δ ▹ lent_again cs l) (runs C Λ E rest q) (Δ ▹ cs) (runs C Λ E (lends_on (l ∷ []) rest) q)
  relends_one t Δ cs l {E} e wt ok =
      let c = cell_at cs l.slice in
      let cs₁ = pointed cs l in
      let e₁ = homes_filled cs l.pointer (pointer_of cs l) ∙ e in
      let z₀ = both (free_at cs l.pointer) _ ok.0 in
      let z₁ = both (has_ty (type_at cs l.pointer) (pointer_of cs l)) _ z₀.1 in
      let z₂ = both (free_at cs₁ l.again) _ z₁.1 in
      let at_pointer = filled_at cs l.pointer (pointer_of cs l) z₀.0 in
      let shr_slice_at = filled_other cs l.pointer l.slice (pointer_of cs l) z₀.0 (is_full_lem ok.1) ∙ ok.1 in
      step (λ k.
      sets Δ cs e t l.pointer (pointer_of cs l) (slice_start Δ cs e l.slice (ref_in (type_of c)) (block_of c) (start_in (holds c)) (count_in (holds c)) ok.1 t l.element) z₀.0 (z₁.0, tt) $
      sets Δ cs₁ e₁ t l.again (slice_of cs l)
      (agg t (and_then t (subst (λ (d : Cell). Opd K 𝓛 (Δ ▹ cs₁) E (copy (place l.pointer [])) (holds d)) at_pointer (loads_one Δ cs₁ e₁ t l.pointer (is_full_lem at_pointer)))
      (and_then t (slice_count Δ cs₁ e₁ l.slice (ref_in (type_of c)) (block_of c) (start_in (holds c)) (count_in (holds c)) shr_slice_at t) (no_more t))))
      z₂.0 (z₂.1, wt) $ k)

  pub relends : K → (Δ : List (Item 𝓤)) (cs : List Cell) (ls : List Lend) {E : Env 𝓤 H} → homes cs ≡ E → Sound cs → LendsAll cs ls → {C : Calls 𝓤 H} {Λ : Loops 𝓤 H} {q : Post 𝓤 H} {rest : Body}
      → Step K 𝓛 (Δ ▹ lent_all cs ls) (runs C Λ E rest q) (Δ ▹ cs) (runs C Λ E (lends_on ls rest) q)
  relends t Δ cs [] e s ok = step (λ k. k)
  relends t Δ cs (l ∷ ls) e s ok =
      let wt = slice_wt cs l ok.0 s in
      step (λ k. relends_one t Δ cs l e wt ok.0 $ relends t Δ (lent_again cs l) ls (homes_lent_one cs l ∙ e) (sound_filled (pointed cs l) l.again (slice_of cs l) wt (sound_filled cs l.pointer (pointer_of cs l) tt s)) ok.1 $ k)

-- ---- the entry
abbrev result_cell : {M : Type 1} (𝓤 : Ura M) (l : Local) (ls : List Local) → Blocks (l ∷ ls) → List (Item 𝓤)
result_cell 𝓤 l ls bs = ‵ (froom (kind l) bs.0 zero) ∷ ‵ (fdies (kind l) bs.0) ∷ []

module _ {M : Type 1} {𝓤 : Ura M} (𝓛 : Logic 𝓤) where
  open 𝓛 use {H}

  sinks : (i j : Item 𝓤) (Δ Γ : List (Item 𝓤)) → ent 𝓤 (⋆ 𝓛 (i ∷ j ∷ (Δ ++ Γ))) (⋆ 𝓛 (Δ ++ (i ∷ j ∷ Γ)))
  sinks i j Δ Γ =
      let X = ⋆ 𝓛 (i ∷ j ∷ []) in
      let Y = ⋆ 𝓛 Δ in
      let Z = ⋆ 𝓛 Γ in
      via 𝓤 (sep 𝓤 X (⋆ 𝓛 (Δ ++ Γ))) (⊢++ 𝓛 (i ∷ j ∷ []) (Δ ++ Γ))
      (via 𝓤 (sep 𝓤 X (sep 𝓤 Y Z)) (mono_r 𝓤 X (⊢++ 𝓛 Δ Γ))
      (via 𝓤 (sep 𝓤 (sep 𝓤 X Y) Z) (assoc' 𝓤 X Y Z)
      (via 𝓤 (sep 𝓤 (sep 𝓤 Y X) Z) (mono_l 𝓤 Z (comm∗ 𝓤 X Y))
      (via 𝓤 (sep 𝓤 Y (sep 𝓤 X Z)) (assoc∗ 𝓤 Y X Z)
      (via 𝓤 (sep 𝓤 Y (⋆ 𝓛 (i ∷ j ∷ Γ))) (mono_r 𝓤 Y (++⊢ 𝓛 (i ∷ j ∷ []) Γ)) (++⊢ 𝓛 Δ (i ∷ j ∷ Γ)))))))

  is_room : (c : Cell) → T (is_here c) → ent 𝓤 (mean 𝓛 (cell 𝓤 c)) (H.room (type_of c) (block_of c) zero)
  is_room (free τ b) z = id⊢ 𝓤 (H.room τ b zero)
  is_room (full τ b v) z = 𝓛.laws.at_room τ b zero v
  is_room (away τ b) z = absurd z

  released : (cs : List Cell) (Q P : SProp 𝓤) → T (all_here cs) → ent 𝓤 Q P → ent 𝓤 (sep 𝓤 (⋆ 𝓛 (cells 𝓤 cs)) Q) (release 𝓤 H (homes cs) P)
  released [] Q P z h = via 𝓤 Q (snd∗ 𝓤 (emp 𝓤) Q) h
  released (c ∷ cs) Q P z h =
      let zs = both (is_here c) (all_here cs) z in
      let Rm = H.room (type_of c) (block_of c) zero in
      let D = H.dies (type_of c) (block_of c) in
      let S = ⋆ 𝓛 (cells 𝓤 cs) in
      via 𝓤 (sep 𝓤 (sep 𝓤 Rm (sep 𝓤 D S)) Q)
      (mono_l 𝓤 Q (via 𝓤 (sep 𝓤 Rm (⋆ 𝓛 (‵ (fdies (type_of c) (block_of c)) ∷ cells 𝓤 cs))) (mono_l 𝓤 (⋆ 𝓛 (‵ (fdies (type_of c) (block_of c)) ∷ cells 𝓤 cs)) (is_room c zs.0))
      (mono_r 𝓤 Rm (pop 𝓛 (‵ (fdies (type_of c) (block_of c))) (cells 𝓤 cs)))))
      (via 𝓤 (sep 𝓤 (sep 𝓤 (sep 𝓤 Rm D) S) Q) (mono_l 𝓤 Q (assoc' 𝓤 Rm D S))
      (via 𝓤 (sep 𝓤 (sep 𝓤 Rm D) (sep 𝓤 S Q)) (assoc∗ 𝓤 (sep 𝓤 Rm D) S Q) (mono_r 𝓤 (sep 𝓤 Rm D) (released cs Q P zs.1 h))))

module _ {M : Type 1} {𝓤 : Ura M} {𝓛 : Logic 𝓤} {K : Type 0} where
  open 𝓛 use {H}

  allocates : K → (Δ : List (Item 𝓤)) (ls : List Local) {Kt : Env 𝓤 H → Goal 𝓤 H} → ((bs : Blocks ls) → Seq K 𝓛 (Δ ▹ fresh ls bs) (Kt (homes (fresh ls bs)))) → Seq K 𝓛 Δ (allocs ls Kt)
  allocates t Δ [] {Kt} k = alloc0 t $ subst (λ (Γ : List (Item 𝓤)). Seq K 𝓛 Γ (Kt [])) (append-nil Δ) (k tt)
  allocates t Δ (local τ h ∷ ls) {Kt} k =
      alloc1 t (λ b. allocates t (‵ (froom τ b zero) ∷ ‵ (fdies τ b) ∷ Δ) ls (λ bs. by t
      (via 𝓤 (⋆ 𝓛 (Δ ++ (‵ (froom τ b zero) ∷ ‵ (fdies τ b) ∷ cells 𝓤 (fresh ls bs)))) (sinks 𝓛 (‵ (froom τ b zero)) (‵ (fdies τ b)) Δ (cells 𝓤 (fresh ls bs))) (k (b, bs)).prf)))

  stores : K → (Δ : List (Item 𝓤)) (ls : List Local) (bs : Blocks ls) (vs : List Val) {g : Goal 𝓤 H} → Fitting ls vs
      → Seq K 𝓛 (Δ ▹ stored (fresh ls bs) vs) g → Seq K 𝓛 (Δ ▹ fresh ls bs) (passes (homes (fresh ls bs)) vs g)
  stores t Δ ls bs [] ok s = pass0 t $ s
  stores t Δ [] bs (v ∷ vs) ok s = absurd ok
  stores t Δ (local τ h ∷ ls) bs (v ∷ vs) {g} ok s =
      let done : List (Item 𝓤) = ‵ (fat full_share τ bs.0 zero v) ∷ ‵ (fdies τ bs.0) ∷ [] in
      pass1 t (writes_at Δ (fresh (local τ h ∷ ls) bs) t zero v tt ok.0) $
      subst (λ (Γ : List (Item 𝓤)). Seq K 𝓛 Γ (passes (homes (fresh ls bs.1)) vs g)) (append_assoc Δ done (cells 𝓤 (fresh ls bs.1)))
      (stores t (Δ ++ done) ls bs.1 vs ok.1 (subst (λ (Γ : List (Item 𝓤)). Seq K 𝓛 Γ g) (sym (append_assoc Δ done (cells 𝓤 (stored (fresh ls bs.1) vs)))) s))

  pub enters : K → (Δ : List (Item 𝓤)) (C : Calls 𝓤 H) (Λ : Loops 𝓤 H) (f : Fn) (vs : List Val) (Kf : Val → SProp 𝓤) (l : Local) (ls : List Local) → f.locals ≡ l ∷ ls
      → Fitting ls vs
      → ((bs : Blocks (l ∷ ls)) → Seq K 𝓛 (Δ ▹ begun l ls vs bs) (runs C Λ (homes (fresh (l ∷ ls) bs)) f.body (at_ret (homes (fresh (l ∷ ls) bs)) Kf)))
      → Seq K 𝓛 Δ (prop (WpFn 𝓤 H C Λ f vs Kf))
  enters t Δ C Λ f vs Kf l ls e fits k =
      enter t C Λ f vs Kf $ subst (λ (all : List Local). Seq K 𝓛 Δ (allocs all (λ E. params' E vs (runs C Λ E f.body (at_ret E Kf))))) (sym e)
      (allocates t Δ (l ∷ ls) (λ bs. params1 t $
      subst (λ (Γ : List (Item 𝓤)). Seq K 𝓛 Γ (passes (homes (fresh ls bs.1)) vs (runs C Λ (homes (fresh (l ∷ ls) bs)) f.body (at_ret (homes (fresh (l ∷ ls) bs)) Kf))))
      (append_assoc Δ (result_cell 𝓤 l ls bs) (cells 𝓤 (fresh ls bs.1)))
      (stores t (Δ ++ result_cell 𝓤 l ls bs) ls bs.1 vs fits
      (subst (λ (Γ : List (Item 𝓤)). Seq K 𝓛 Γ (runs C Λ (homes (fresh (l ∷ ls) bs)) f.body (at_ret (homes (fresh (l ∷ ls) bs)) Kf)))
      (sym (append_assoc Δ (result_cell 𝓤 l ls bs) (cells 𝓤 (stored (fresh ls bs.1) vs)))) (k bs)))))

  -- ---- the return
  pub leaves : K → (Δ : List (Item 𝓤)) (cs : List Cell) {E : Env 𝓤 H} → homes cs ≡ E → T (all_here cs) → {C : Calls 𝓤 H} {Λ : Loops 𝓤 H} {Kf : Val → SProp 𝓤} {τ : Ty} {b : ℕ} {r : Val} → cell_at cs zero ≡ full τ b r
      → Seq K 𝓛 Δ (prop (Kf r)) → Seq K 𝓛 (Δ ▹ cs) (runs C Λ E return (at_ret E Kf))
  leaves t Δ cs e here {C} {Λ} {Kf} {τ} {b} {r} is s =
      subst (λ (E : Env 𝓤 H). Seq K 𝓛 (Δ ▹ cs) (runs C Λ E return (at_ret E Kf))) e
      (returns t
      (subst (λ (sp : Spot 𝓤 H). Reads K 𝓛 (Δ ▹ cs) sp.0 sp.1 zero r) (sym (spot_is 𝓛 cs zero))
      (subst (λ (c : Cell). Reads K 𝓛 (Δ ▹ cs) (type_at cs zero) (block_at cs zero) zero (holds c)) is (reads_at Δ cs t zero (is_full_lem is)))) $
      by t (via 𝓤 (sep 𝓤 (⋆ 𝓛 Δ) (⋆ 𝓛 (cells 𝓤 cs))) (⊢++ 𝓛 Δ (cells 𝓤 cs))
      (via 𝓤 (sep 𝓤 (⋆ 𝓛 (cells 𝓤 cs)) (⋆ 𝓛 Δ)) (comm∗ 𝓤 (⋆ 𝓛 Δ) (⋆ 𝓛 (cells 𝓤 cs))) (released 𝓛 cs (⋆ 𝓛 Δ) (Kf r) here s.prf))))
