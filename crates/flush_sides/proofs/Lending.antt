-- What the walks of the three calls share. Such a call puts its name into an array of one record, lends that for a lifetime of the call, and hands on its parameters with the records in the place of `name`.
-- Its parameters are nodes, children, numbers, name, strings, text, and others, of the types Ts, which have n lifetimes.
use Prim.Native.Nat.{ℕ, suc, ◌+◌}
use mathlib.Core.Path.{◌≡◌, refl, sym, ◌∙◌, ap, subst}
use mathlib.Core.Bool.{◌&&◌}
use mathlib.Core.List.{List, [], ◌∷◌}
use lib.Dec.{T as True, lit<}
use lib.ListN.{length}
use seplogic.Ra.Ura.{Ura}
use base.Fraction.{full_share}
use mir.Syntax.{Callee, named, w64, Ty, ty_array, Place, place, Opd as Operand, copy, int, addr_of, aggregate, Body, seq, assign, call, return, Fn}
use mir.Val.{Val, vptr, has_ty, WT}
use base.Logic.{SProp, ent, sep, ex, emp, ex_e, ex_i, via, mono_r, guard_e, id⊢}
use base.Fml.{Fml, GName, fat, flft, flent, Incl-refl}
use prog.Model.{Model}
use prog.Routine.{Env as CodeEnv}
use prog.Wp.{Env, Calls, Loops, Closed, WpFn}
use types.Logic.{Logic, sem}
use contract.Lifetimes.{Lfts, Shares, toks}
use contract.Monad.{fact}
use contract.Running.{Running, tables as code-tables}
use types.Kit.{Item, ‵, raw, given, ◌⊛◌, some, later, mean, Post, at_ret, Go, Seq, runs, lands, ◌$◌, ◌∵◌, !, qed, by, move, drop, use1, use2, use3, split, join, pick, learn, fsplit, fjoin, frame, await, updating, now as at_once, show, check, done}
use types.Part.{agg}
use types.Run.{Opd, Opds, lit, and_then, no_more}
use types.Share.{arr_parts}
use types.Tokens.{lft_new, lft_end, lent_back}
use sound.WpLaws.{FmC}
use denote.RattleType.{RattleType, Denots, Valss, mirs, flat, owns}
use denote.Laws.{Is, Typed, shows}
use denote.Memory.{lone, part_at, shares}
use denote.Builtin.{u8, u32, u64}
use denote.Array.{Array, array_val, Array-Typed, Array-Makes}
use denote.ArrayMemory.{Array-apart, Array-whole}
use denote.Lend.{lends_shr_slice}
use denote.Ref.{Bor}
use denote.Slice.{ShrSlice, slice_val}
use denote.Steps.{only, owned, peeks}
use denote.Struct.Laws as LL
use denote.Triple.Call.{calls_from}
use denote.Triple.Clauses.{Ended, Lasts, lasts}
use denote.Triple.Entry.{Args}
use denote.Triple.Spec.{Spec, Meets}
use Rattle.teluddru.specs.declared.Name.{Name}
use Rattle.teluddru.specs.contracts.Name as T
use Rattle.teluddru.proofs.Name.TheLaws as T'
use Rattle.teluddru.proofs.laws.LocalArray.{lies_in, lies_out}
use Rattle.teluddru.proofs.laws.Cells as Cells
use Rattle.teluddru.proofs.laws.Cells.{Cell, is_full_lem, both, cell_at, type_at, block_at, vals_at, free_at, full_at, all_here, Fits, filled, taken, filled_at, taken_at, here_filled, homes, homes_filled, homes_taken, Sound, sound_filled, result_of, others_of, Blocks, fresh, Fitting, begun, homes_begun, sound_begun, Lend, lends_on, lent_all, LendsAll, homes_lent}
use Rattle.teluddru.proofs.laws.Locals.{◌▹◌, takes, gives, loads_one, loads, address, sets, lands_in, relends, enters, leaves}
use Rattle.teluddru.proofs.laws.Params.{Param, struct, shared, types_of, vals_of, lends_from, hands_from, signature_of, entry, left, walked}

-- the lifetimes of the tables, and n others
abbrev pub lives : ℕ → ℕ
lives n = suc (suc (suc (suc n)))

module _ (n : ℕ) (κs : Lfts (lives n)) (Ts : List RattleType) where
  abbrev Nodes : RattleType
  Nodes = ShrSlice (named 0) κs.0 u32

  abbrev Children : RattleType
  Children = ShrSlice (named 1) κs.1.0 u32

  abbrev Numbers : RattleType
  Numbers = ShrSlice (named 2) κs.1.1.0 u64

  -- those after name
  abbrev Later : List RattleType
  Later = ShrSlice (named 3) κs.1.1.1.0 u8 ∷ ShrSlice (named 3) κs.1.1.1.0 u8 ∷ Ts

  abbrev pub OverName : List RattleType
  OverName = Nodes ∷ Children ∷ Numbers ∷ T.the_row ∷ Later

  -- with a slice of records, lent for ν, in the place of name
  abbrev Names : ℕ → RattleType
  Names ν = ShrSlice (named 3) (ν ∷ []) T.the_row

  abbrev pub OverRecords : ℕ → List RattleType
  OverRecords ν = Nodes ∷ Children ∷ Numbers ∷ Names ν ∷ Later

  abbrev pub lfts_on : ℕ → Lfts (suc (lives n))
  lfts_on ν = (κs.0, (κs.1.0, (κs.1.1.0, (ν ∷ [], κs.1.1.1))))

  abbrev pub shares_on : Shares (lives n) → Shares (suc (lives n))
  shares_on qs = (qs.0, (qs.1.0, (qs.1.1.0, (full_share, qs.1.1.1))))

  -- the array lies at l
  abbrev ref_of : Denots OverName → ℕ → GName → Bor (List Name)
  ref_of a l γ = record { ref_ptr = (l, 0); now = a.1.1.1.0 ∷ [] }

  abbrev pub args_on : Denots OverName → ℕ → (ν : ℕ) → GName → Denots (OverRecords ν)
  args_on a l ν γ = (a.0, (a.1.0, (a.1.1.0, (ref_of a l γ, a.1.1.1.1))))

  abbrev pub vals_on : Valss OverName → ℕ → (ν : ℕ) → Valss (OverRecords ν)
  vals_on vs l ν = (vs.0, (vs.1.0, (vs.1.1.0, (slice_val (l, 0) 1 ∷ [], vs.1.1.1.1))))

-- a contract that says nothing, from one that says φ: what is kept is the last value of each `&mut`
pub says_nothing : {M : Type 1} {𝓤 : Ura M} (𝓛 : Logic 𝓤) (E : Ended) (κs : Lfts E.signature.lifetimes) (a : Args E.signature κs) (φ : Lasts E κs a → Type 0)
    → ent 𝓤 (ex 𝓤 (λ ws. sep 𝓤 (sem 𝓛 (lasts E κs a ws)) (fact 𝓤 (φ ws)))) (ex 𝓤 (λ ws. sep 𝓤 (sem 𝓛 (lasts E κs a ws)) (emp 𝓤)))
says_nothing {𝓤 = 𝓤} 𝓛 E κs a φ =
    ex_e 𝓤 (λ ws. sep 𝓤 (sem 𝓛 (lasts E κs a ws)) (fact 𝓤 (φ ws))) (λ ws.
    via 𝓤 (sep 𝓤 (sem 𝓛 (lasts E κs a ws)) (emp 𝓤)) (mono_r 𝓤 (sem 𝓛 (lasts E κs a ws)) (guard_e 𝓤 (φ ws) (emp 𝓤) (λ _. id⊢ 𝓤 (emp 𝓤)))) (ex_i 𝓤 (λ vs. sep 𝓤 (sem 𝓛 (lasts E κs a vs)) (emp 𝓤)) ws))

-- the array's MIR type
abbrev array_ty : Ty
array_ty = ty_array (lone (T.the_row).mir) 1

module _ {M : Type 1} {𝓤 : Ura M} (𝓛 : Logic 𝓤)
    (n : ℕ) (κs : Lfts (lives n)) (qs : Shares (lives n)) (Ts : List RattleType) (a : Denots (OverName n κs Ts)) (vs : Valss (OverName n κs Ts)) (l : ℕ) where
  open 𝓛 use {H, A}

  abbrev x : Name
  x = a.1.1.1.0

  -- the array, which lies at l, and what is lent of it
  abbrev array_of : Val
  array_of = array_val (only vs.1.1.1.0 ∷ [])

  abbrev Lies : Fml
  Lies = (arr_parts (shares T.the_row) 1).part full_share (x ∷ []) l 0

  abbrev ref : GName → Bor (List Name)
  ref = ref_of n κs Ts a l

  abbrev asks_args : (ν : ℕ) → GName → Denots (OverRecords n κs Ts ν)
  asks_args = args_on n κs Ts a l

  abbrev asks_vals : (ν : ℕ) → Valss (OverRecords n κs Ts ν)
  asks_vals = vals_on n κs Ts vs l

  is_array : Is T.the_row x (only vs.1.1.1.0 ∷ []) → Is (Array T.the_row 1) (x ∷ []) (array_of ∷ [])
  is_array is = (only vs.1.1.1.0 ∷ [], ((refl, refl), (is, tt)))

  array_typed_one : Is T.the_row x (only vs.1.1.1.0 ∷ []) → Typed (Array T.the_row 1).mir (array_of ∷ [])
  array_typed_one is = Array-Typed T.the_row (LL.lawful T.the_type T'.the_laws 𝓛).typed 1 (x ∷ []) (array_of ∷ []) (is_array is)

  abbrev Lent : ℕ → GName → Item 𝓤
  Lent ν γ = ‵ ((Names n κs Ts ν).own_val (ref γ) (slice_val (l, 0) 1 ∷ [])) ⊛ ‵ (flent (ν ∷ []) Lies)

  lends : Is T.the_row x (only vs.1.1.1.0 ∷ []) → (ν : ℕ) → ent 𝓤 (sep 𝓤 (sem 𝓛 (fat full_share array_ty l 0 array_of)) (A.lft (ν ∷ []) full_share)) (mean 𝓛 (later (Lent ν 0 ⊛ ‵ (flft (ν ∷ []) full_share))))
  lends is ν =
      qed 𝓛 (‵ (fat full_share array_ty l 0 array_of) ∷ ‵ (flft (ν ∷ []) full_share) ∷ []) ∵
      owned ! (Array T.the_row 1) (Is (Array T.the_row 1)) (Array-Makes 𝓛 T.the_row (LL.makes T.the_type T'.the_plain 𝓛) 1) (x ∷ []) _ (is_array is) $ move ! (1 ∷ 0 ∷ []) $
      use2 𝓛 (‵ (part_at (Array T.the_row 1) full_share (x ∷ []) l 0)) (lies_in 𝓛 T.the_row 1 (x ∷ []) array_of l 0) $
      use1 𝓛 (‵ Lies) (Array-apart 𝓛 T.the_row full_share tt 1 (x ∷ []) l 0) $
      by ! (lends_shr_slice 𝓛 T.the_row (named 3) (ν ∷ []) full_share (x ∷ []) l 0 (lit< tt, lit< tt) (ν ∷ []) ((LL.copied T.the_type T'.the_copy 𝓛).shares full_share (ν ∷ [])) ((ν ∷ [], full_share) ∷ []) (Incl-refl (ν ∷ [])) (Incl-refl (ν ∷ [])))

  abbrev Whole : Val → Item 𝓤
  Whole w = given (Is (Array T.the_row 1) (x ∷ []) (w ∷ [])) (‵ (fat full_share array_ty l 0 w))

  comes_back : ent 𝓤 (sem 𝓛 Lies) (mean 𝓛 (some Whole))
  comes_back =
      qed 𝓛 (‵ Lies ∷ []) ∵ use1 𝓛 (‵ (part_at (Array T.the_row 1) full_share (x ∷ []) l 0)) (Array-whole 𝓛 T.the_row full_share 1 (x ∷ []) l 0) $ by ! (lies_out 𝓛 T.the_row 1 (x ∷ []) l 0)

  -- the tokens, and with that of ν
  abbrev Last : Item 𝓤
  Last = raw (toks 𝓛 (suc n) κs.1.1.1 qs.1.1.1)

  abbrev With : Item 𝓤 → Item 𝓤
  With i = ‵ (flft κs.0 qs.0) ⊛ (‵ (flft κs.1.0 qs.1.0) ⊛ (‵ (flft κs.1.1.0 qs.1.1.0) ⊛ i))

  abbrev Entry : Item 𝓤
  Entry = raw (sep 𝓤 (toks 𝓛 (lives n) κs qs) (sem 𝓛 (owns (OverName n κs Ts) a vs)))

  abbrev Asked : ℕ → GName → SProp 𝓤
  Asked ν γ = sep 𝓤 (sep 𝓤 (toks 𝓛 (suc (lives n)) (lfts_on n κs Ts ν) (shares_on n κs Ts qs)) (sem 𝓛 (owns (OverRecords n κs Ts ν) (asks_args ν γ) (asks_vals ν)))) (emp 𝓤)

  asks : (ν : ℕ) (γ : GName) → ent 𝓤 (sep 𝓤 (A.lft (ν ∷ []) full_share) (sep 𝓤 (sem 𝓛 ((Names n κs Ts ν).own_val (ref γ) (slice_val (l, 0) 1 ∷ []))) (mean 𝓛 Entry))) (Asked ν γ)
  asks ν γ =
      qed 𝓛 (‵ (flft (ν ∷ []) full_share) ∷ ‵ ((Names n κs Ts ν).own_val (ref γ) (slice_val (l, 0) 1 ∷ [])) ∷ (With Last ⊛ ‵ (owns (OverName n κs Ts) a vs)) ∷ []) ∵ move ! (2 ∷ []) $ split ! $
      -- [the tokens; what is owned; ν's token; names]
      move ! (1 ∷ []) $ fsplit ! $ move ! (1 ∷ []) $ fsplit ! $ move ! (1 ∷ []) $ fsplit ! $ move ! (1 ∷ []) $ fsplit ! $ drop ! $
      -- [the later ones; numbers; children; nodes; the tokens; ν's token; names]
      move ! (6 ∷ 0 ∷ []) $ fjoin ! $ move ! (1 ∷ 0 ∷ []) $ fjoin ! $ move ! (1 ∷ 0 ∷ []) $ fjoin ! $ move ! (1 ∷ 0 ∷ []) $ fjoin ! $
      -- [what is owned; the tokens; ν's token]
      move ! (1 ∷ []) $ split ! $ move ! (1 ∷ []) $ split ! $ move ! (1 ∷ []) $ split ! $
      -- [numbers' token; the later ones; children's; nodes'; what is owned; ν's]
      move ! (5 ∷ 1 ∷ []) $ join ! $ move ! (1 ∷ 0 ∷ []) $ join ! $ move ! (1 ∷ 0 ∷ []) $ join ! $ move ! (1 ∷ 0 ∷ []) $ join ! $ join ! $ frame ! $ done !

  -- It returns a value of type R: what the callee says of it, and the caller.
  module _ (R : RattleType) (typed : (r : R.Denot) (us : List Val) → Is R r us → Typed R.mir us) (said : ℕ → GName → R.Denot → SProp 𝓤) (told : R.Denot → SProp 𝓤) (tells : (ν : ℕ) (γ : GName) (r : R.Denot) → ent 𝓤 (said ν γ r) (told r)) where
    abbrev Said : ℕ → GName → Val → SProp 𝓤
    Said ν γ v = H.⇛ (ex 𝓤 (λ (r : R.Denot). sep 𝓤 (sep 𝓤 (toks 𝓛 (suc (lives n)) (lfts_on n κs Ts ν) (shares_on n κs Ts qs)) (sem 𝓛 (R.own_val r (v ∷ [])))) (said ν γ r)))

    abbrev Told : Val → R.Denot → SProp 𝓤
    Told v r = sep 𝓤 (sep 𝓤 (toks 𝓛 (lives n) κs qs) (sem 𝓛 (R.own_val r (v ∷ [])))) (told r)

    abbrev Answer : Val → SProp 𝓤
    Answer v = H.⇛ (ex 𝓤 (Told v))

    abbrev Returned : ℕ → Val → Item 𝓤
    Returned ν v = later (given (Typed R.mir (v ∷ [])) (‵ (flft (ν ∷ []) full_share) ⊛ raw (Answer v)))

    returned : (ν : ℕ) (γ : GName) (v : Val) → ent 𝓤 (Said ν γ v) (mean 𝓛 (Returned ν v))
    returned ν γ v =
        qed 𝓛 (later (some (λ (r : R.Denot). (With (‵ (flft (ν ∷ []) full_share) ⊛ Last) ⊛ ‵ (R.own_val r (v ∷ []))) ⊛ raw (said ν γ r))) ∷ []) ∵ updating ! $ await ! tt $ pick ! (λ r. split ! $ split ! $ move ! (1 ∷ []) $
        peeks ! R (Is R) (shows 𝓛 R) r (v ∷ []) (λ is. at_once ! $ check ! (typed r (v ∷ []) is) $
        -- [the result; the tokens; what is said]
        move ! (1 ∷ []) $ split ! $ move ! (1 ∷ []) $ split ! $ move ! (1 ∷ []) $ split ! $ move ! (1 ∷ []) $ split ! $ frame ! $
        -- [the later tokens; numbers'; children's; nodes'; the result; what is said]
        updating ! $ at_once ! $ show ! (Told v) r $ move ! (1 ∷ 0 ∷ []) $ join ! $ move ! (1 ∷ 0 ∷ []) $ join ! $ move ! (1 ∷ 0 ∷ []) $ join ! $ join ! $
        move ! (1 ∷ []) $ use1 𝓛 (raw (told r)) (tells ν γ r) $ move ! (1 ∷ 0 ∷ []) $ done !))

    -- ---- the call, as a step of the calculus
    pub hands : {K : Type 0} {Γ : List (Item 𝓤)} {E : Env 𝓤 H} {C : Calls 𝓤 H} {Λ : Loops 𝓤 H} {q : Post 𝓤 H} {f : Callee} {xs : List Operand} {d : Place} {rest : Body}
        → K → FmC 𝓤 H 𝓛.laws C → Is T.the_row x (only vs.1.1.1.0 ∷ []) → ((ν : ℕ) (γ : GName) → ent 𝓤 (Asked ν γ) (C f (flat (OverRecords n κs Ts ν) (asks_vals ν)) (Said ν γ)))
        → ((ν : ℕ) (γ : GName) → Opds K 𝓛 (raw (Asked ν γ) ∷ ‵ (flent (ν ∷ []) Lies) ∷ Γ) E xs (flat (OverRecords n κs Ts ν) (asks_vals ν)))
        → ((v : Val) → Typed R.mir (v ∷ []) → (w : Val) → Seq K 𝓛 (raw (Answer v) ∷ ‵ (fat full_share array_ty l 0 w) ∷ Γ) (lands C Λ E d v rest q))
        → Seq K 𝓛 (Entry ∷ ‵ (fat full_share array_ty l 0 array_of) ∷ Γ) (runs C Λ E (seq (call f xs d) rest) q)
    hands t fm is known os k =
        lft_new t tt (λ ν. let γ : GName = 0 in move t (2 ∷ 0 ∷ []) $ use2 𝓛 (later (Lent ν γ ⊛ ‵ (flft (ν ∷ []) full_share))) (lends is ν) $ await t tt $ split t $ split t $
        -- [names; the lender's part; ν's token; what there is on entry]
        move t (2 ∷ 0 ∷ 3 ∷ []) $ use3 𝓛 (raw (Asked ν γ)) (asks ν γ) $ calls_from t fm (raw (Asked ν γ)) (flat (OverRecords n κs Ts ν) (asks_vals ν)) (Said ν γ) (known ν γ) (os ν γ) (λ v.
        use1 𝓛 (Returned ν v) (returned ν γ v) $ await t tt $ learn t (λ fits. split t $ lft_end t tt $ move t (0 ∷ 2 ∷ []) $ lent_back t tt $
        use1 𝓛 (some Whole) comes_back $ pick t (λ w. learn t (λ _. move t (1 ∷ []) $ k v fits w)))))

-- ---- the code of a call: the array of local 4, its address and a slice of it, what is lent again, the callee, the return
abbrev at : {n : ℕ} → List (Param n) → ℕ
at ps = 7 + length ps

abbrev lendings : {n : ℕ} → List (Param n) → List Lend
lendings ps = lends_from 7 (3 + at ps) ps

abbrev handed : {n : ℕ} → List (Param n) → List ℕ
handed ps = 1 ∷ 2 ∷ 3 ∷ (2 + at ps) ∷ 5 ∷ 6 ∷ hands_from 7 (3 + at ps) ps

abbrev pub lending : {n : ℕ} → Callee → List (Param n) → Body
lending callee ps =
    seq (assign (place (at ps) []) (aggregate (Cells.copies (4 ∷ [])))) (seq (assign (place (1 + at ps) []) (addr_of (place (at ps) [])))
    (seq (assign (place (2 + at ps) []) (aggregate (copy (place (1 + at ps) []) ∷ int w64 1 ∷ []))) (lends_on (lendings ps) (seq (call callee (Cells.copies (handed ps)) (place 0 [])) return))))

-- The code of a call is of this shape: for each call an equation that computes, beside its answers.
pub record IsLending {n : ℕ} (f : Fn) (callee : Callee) (ps : List (Param n)) : Type 0 where
  pub has : f.locals ≡ result_of f.locals ∷ others_of f.locals
  pub goes : f.body ≡ lending callee ps

-- the locals after each: with the array, the address, the slice; the slices lent again; the array lent
module _ {n : ℕ} (ps : List (Param n)) (cs : List Cell) where
  abbrev with_array : List Cell
  with_array = filled cs (at ps) (array_val (vals_at cs (4 ∷ [])))

  abbrev with_address : List Cell
  with_address = filled with_array (1 + at ps) (vptr (block_at with_array (at ps)) 0)

  abbrev with_slice : List Cell
  with_slice = filled with_address (2 + at ps) (slice_val (block_at with_array (at ps), 0) 1)

  abbrev after : List Cell
  after = lent_all with_slice (lendings ps)

  abbrev meanwhile : List Cell
  meanwhile = taken after (at ps)

-- What is read where: all of it computes.
pub record Hands {n : ℕ} (ps : List (Param n)) (cs : List Cell) (name : Val) (handed-on : List Val) (answer : List Ty) : Type 0 where
  pub ready : True (full_at cs (4 ∷ []) && (free_at cs (at ps) && (free_at (with_array ps cs) (1 + at ps) && (has_ty (type_at (with_array ps cs) (1 + at ps)) (vptr (block_at (with_array ps cs) (at ps)) 0)
      && (free_at (with_address ps cs) (2 + at ps) && (has_ty (type_at (with_address ps cs) (2 + at ps)) (slice_val (block_at (with_array ps cs) (at ps), 0) 1) && full_at (meanwhile ps cs) (handed ps)))))))
  pub lent : LendsAll (with_slice ps cs) (lendings ps)
  pub name_is : vals_at cs (4 ∷ []) ≡ name ∷ []
  pub array_fits : type_at cs (at ps) ∷ [] ≡ (Array T.the_row 1).mir
  pub array_at : cell_at (after ps cs) (at ps) ≡ Cells.full array_ty (block_at (with_array ps cs) (at ps)) (array_val (name ∷ []))
  pub handed_are : vals_at (meanwhile ps cs) (handed ps) ≡ handed-on
  pub back : (w : Val) → True (free_at (filled (meanwhile ps cs) (at ps) w) 0 && all_here (filled (meanwhile ps cs) (at ps) w))
  pub answer_fits : (w : Val) → type_at (filled (meanwhile ps cs) (at ps) w) 0 ∷ [] ≡ answer

module _ {M : Type 1} {𝓤 : Ura M} (𝓛 : Logic 𝓤)
    (n : ℕ) (κs : Lfts (lives n)) (qs : Shares (lives n)) (ps : List (Param (lives n))) (a : Denots (OverName n κs (types_of ps κs))) (vs : Valss (OverName n κs (types_of ps κs)))
    (R : RattleType) (typed : (r : R.Denot) (us : List Val) → Is R r us → Typed R.mir us)
    (said : (l ν : ℕ) → GName → R.Denot → SProp 𝓤) (told : R.Denot → SProp 𝓤) (tells : (l ν : ℕ) (γ : GName) (r : R.Denot) → ent 𝓤 (said l ν γ r) (told r))
    (C : Calls 𝓤 𝓛.H) (Λ : Loops 𝓤 𝓛.H) (fm : FmC 𝓤 𝓛.H 𝓛.laws C) (callee : Callee)
    (known : (l ν : ℕ) (γ : GName) → ent 𝓤 (Asked 𝓛 n κs qs (types_of ps κs) a vs l ν γ)
    (C callee (flat (OverRecords n κs (types_of ps κs) ν) (vals_on n κs (types_of ps κs) vs l ν)) (Said 𝓛 n κs qs (types_of ps κs) a vs l R typed (said l) told (tells l) ν γ)))
    (f : Fn) (has : f.locals ≡ result_of f.locals ∷ others_of f.locals) (goes : f.body ≡ lending callee ps) (fits : Fitting (others_of f.locals) (flat (OverName n κs (types_of ps κs)) vs))
    (shape : (bs : Blocks (result_of f.locals ∷ others_of f.locals)) (ν : ℕ)
    → let cs = begun (result_of f.locals) (others_of f.locals) (flat (OverName n κs (types_of ps κs)) vs) bs in
    Hands ps cs (only vs.1.1.1.0) (flat (OverRecords n κs (types_of ps κs) ν) (vals_on n κs (types_of ps κs) vs (block_at (with_array ps cs) (at ps)) ν)) R.mir) where
  open 𝓛 use {H}

  abbrev Ts : List RattleType
  Ts = types_of ps κs

  abbrev vals : List Val
  vals = flat (OverName n κs Ts) vs

  abbrev Began : Item 𝓤
  Began = raw (entry 𝓛 (lives n) κs qs (OverName n κs Ts) a vs)

  abbrev Final : Val → SProp 𝓤
  Final = left 𝓛 (lives n) κs qs R told

  pub lends_on_lem : Is T.the_row a.1.1.1.0 (only vs.1.1.1.0 ∷ []) → ent 𝓤 (mean 𝓛 Began) (WpFn 𝓤 H C Λ f vals Final)
  lends_on_lem is =
      qed 𝓛 (Began ∷ []) ∵ enters ! (Began ∷ []) C Λ f vals Final (result_of f.locals) (others_of f.locals) has fits (λ bs.
      let E : Env 𝓤 H = homes (fresh (result_of f.locals ∷ others_of f.locals) bs) in
      let cs : List Cell = begun (result_of f.locals) (others_of f.locals) vals bs in
      let cs₁ : List Cell = with_array ps cs in
      let cs₂ : List Cell = with_address ps cs in
      let cs₃ : List Cell = with_slice ps cs in
      let cs₄ : List Cell = after ps cs in
      let cs₅ : List Cell = meanwhile ps cs in
      let l : ℕ = block_at cs₁ (at ps) in
      let array : Val = array_val (vals_at cs (4 ∷ [])) in
      let slice : Val = slice_val (l, 0) 1 in
      let e : homes cs ≡ E = homes_begun (result_of f.locals) (others_of f.locals) vals bs in
      let e₁ : homes cs₁ ≡ E = homes_filled cs (at ps) array ∙ e in
      let e₂ : homes cs₂ ≡ E = homes_filled cs₁ (1 + at ps) (vptr l 0) ∙ e₁ in
      let e₃ : homes cs₃ ≡ E = homes_filled cs₂ (2 + at ps) slice ∙ e₂ in
      let e₄ : homes cs₄ ≡ E = homes_lent cs₃ (lendings ps) ∙ e₃ in
      let e₅ : homes cs₅ ≡ E = homes_taken cs₄ (at ps) ∙ e₄ in
      let ok = shape bs 0 in
      let z = both (full_at cs (4 ∷ [])) _ ok.ready in
      let z₁ = both (free_at cs (at ps)) _ z.1 in
      let z₂ = both (free_at cs₁ (1 + at ps)) _ z₁.1 in
      let z₃ = both (has_ty (type_at cs₁ (1 + at ps)) (vptr l 0)) _ z₂.1 in
      let z₄ = both (free_at cs₂ (2 + at ps)) _ z₃.1 in
      let z₅ = both (has_ty (type_at cs₂ (2 + at ps)) slice) (full_at cs₅ (handed ps)) z₄.1 in
      let array_fits : Fits cs (at ps) array = subst (λ (us : List Val). Fits cs (at ps) (array_val us)) (sym ok.name_is) (subst (λ (τs : List Ty). Typed τs (array_val (only vs.1.1.1.0 ∷ []) ∷ [])) (sym ok.array_fits) (array_typed_one 𝓛 n κs qs Ts a vs l is)).0 in
      let wt : WT slice = (tt, (record { fits = lit< tt }, tt)) in
      let at_address = filled_at cs₁ (1 + at ps) (vptr l 0) z₂.0 in
      let sound : Sound cs₃ = sound_filled cs₂ (2 + at ps) slice wt (sound_filled cs₁ (1 + at ps) (vptr l 0) tt (sound_filled cs (at ps) array array_fits.1 (sound_begun (result_of f.locals) (others_of f.locals) vals bs fits))) in
      subst (λ (b : Body). Seq (Go {0}) 𝓛 ((Began ∷ []) ▹ cs) (runs C Λ E b (at_ret E Final))) (sym goes)
      (sets (Began ∷ []) cs e ! (at ps) array (agg ! (loads (Began ∷ []) cs e ! (4 ∷ []) z.0)) z₁.0 array_fits $
      sets (Began ∷ []) cs₁ e₁ ! (1 + at ps) (vptr l 0) (address (Began ∷ []) cs₁ e₁ ! (at ps)) z₂.0 (z₃.0, tt) $
      sets (Began ∷ []) cs₂ e₂ ! (2 + at ps) slice
      (agg ! (and_then ! (subst (λ (v : Val). Opd (Go {0}) 𝓛 ((Began ∷ []) ▹ cs₂) E (copy (place (1 + at ps) [])) v) (ap Cells.holds at_address) (loads_one (Began ∷ []) cs₂ e₂ ! (1 + at ps) (is_full_lem at_address)))
      (and_then ! (lit ! tt) (no_more !)))) z₄.0 (z₅.0, wt) $
      relends ! (Began ∷ []) cs₃ (lendings ps) e₃ sound ok.lent $
      takes (Began ∷ []) cs₄ ! (at ps) ok.array_at $ move ! (1 ∷ []) $
      hands 𝓛 n κs qs Ts a vs l R typed (said l) told (tells l) ! fm is (known l)
      (λ ν γ. subst (Opds (Go {0}) 𝓛 ((raw (Asked 𝓛 n κs qs Ts a vs l ν γ) ∷ ‵ (flent (ν ∷ []) (Lies 𝓛 n κs qs Ts a vs l)) ∷ []) ▹ cs₅) E (Cells.copies (handed ps))) (shape bs ν).handed_are
      (loads (raw (Asked 𝓛 n κs qs Ts a vs l ν γ) ∷ ‵ (flent (ν ∷ []) (Lies 𝓛 n κs qs Ts a vs l)) ∷ []) cs₅ e₅ ! (handed ps) z₅.1))
      (λ v fits' w.
      let cs₆ : List Cell = filled cs₅ (at ps) w in
      let z₆ = both (free_at cs₆ 0) (all_here cs₆) (ok.back w) in
      move ! (1 ∷ []) $ gives (raw (Final v) ∷ []) cs₅ ! (at ps) w (taken_at cs₄ (at ps) ok.array_at) $
      lands_in (raw (Final v) ∷ []) cs₆ (homes_filled cs₅ (at ps) w ∙ e₅) ! 0 v z₆.0 (subst (λ (τs : List Ty). Typed τs (v ∷ [])) (sym (ok.answer_fits w)) fits').0 $
      leaves ! (raw (Final v) ∷ []) (filled cs₆ 0 v) (homes_filled cs₆ 0 v ∙ homes_filled cs₅ (at ps) w ∙ e₅) (here_filled cs₆ 0 v z₆.1) (filled_at cs₆ 0 v z₆.0) (done !))))

-- ---- a call meets its contract, as soon as its callee meets its own
abbrev pub tables_and : (n : ℕ) → List (Param (lives n)) → List (Param (lives n))
tables_and n ps = shared 0 tt u32 ∷ shared 1 tt u32 ∷ shared 2 tt u64 ∷ struct T.the_type T'.the_laws ∷ shared 3 tt u8 ∷ shared 3 tt u8 ∷ ps

module _ (n : ℕ) (ps : List (Param (lives n))) (κs : Lfts (lives n)) where
  abbrev pub ArgsOf : Type 0
  ArgsOf = Denots (OverName n κs (types_of ps κs))

  -- what it hands on, of an array at l that is lent for ν: lifetimes, parameters, and all that the callee's contract binds
  abbrev pub lfts_to : ℕ → Lfts (suc (lives n))
  lfts_to = lfts_on n κs (types_of ps κs)

  abbrev pub args_to : ArgsOf → ℕ → (ν : ℕ) → GName → Denots (OverRecords n κs (types_of ps κs) ν)
  args_to = args_on n κs (types_of ps κs)

  abbrev pub bound_to : Shares (lives n) → ArgsOf → Valss (OverName n κs (types_of ps κs)) → ℕ → (ν : ℕ) → GName
      → Lfts (suc (lives n)) × Shares (suc (lives n)) × Unit {0} × Denots (OverRecords n κs (types_of ps κs) ν) × Valss (OverRecords n κs (types_of ps κs) ν)
  bound_to qs a vs l ν γ = (lfts_to ν, shares_on n κs (types_of ps κs) qs, tt, args_to a l ν γ, vals_on n κs (types_of ps κs) vs l ν)

module _ {M : Type 1} {𝓤 : Ura M} (𝓛 : Logic 𝓤) (C : Calls 𝓤 𝓛.H) (callee : Callee)
    (n : ℕ) (ps : List (Param (lives n))) (answer : Param (lives n)) (c : Spec 𝓤 (signature_of (tables_and n ps) answer)) (f : Fn) where
  abbrev arg_vals : (κs : Lfts (lives n)) → ArgsOf n ps κs → Valss (OverName n κs (types_of ps κs))
  arg_vals = vals_of 𝓛 (tables_and n ps)

  abbrev began : (κs : Lfts (lives n)) → ArgsOf n ps κs → Blocks (result_of f.locals ∷ others_of f.locals) → List Cell
  began κs a = begun (result_of f.locals) (others_of f.locals) (flat (OverName n κs (types_of ps κs)) (arg_vals κs a))

  pub record Call : Type 2 where
    -- what the callee says, and what the call says
    pub said : (κs : Lfts (lives n)) → ArgsOf n ps κs → (l ν : ℕ) → GName → (answer.type κs).Denot → SProp 𝓤
    pub tells : (κs : Lfts (lives n)) (a : ArgsOf n ps κs) (g : (c κs a).ghost) (l ν : ℕ) (γ : GName) (r : (answer.type κs).Denot) → ent 𝓤 (said κs a l ν γ r) ((c κs a).ensures g r)
    pub known : (κs : Lfts (lives n)) (qs : Shares (lives n)) (a : ArgsOf n ps κs) (vs : Valss (OverName n κs (types_of ps κs))) (g : (c κs a).ghost) (l ν : ℕ) (γ : GName)
        → ent 𝓤 (Asked 𝓛 n κs qs (types_of ps κs) a vs l ν γ)
        (C callee (flat (OverRecords n κs (types_of ps κs) ν) (vals_on n κs (types_of ps κs) vs l ν)) (Said 𝓛 n κs qs (types_of ps κs) a vs l (answer.type κs) (answer.known 𝓛 κs).lawful.typed (said κs a l) ((c κs a).ensures g) (tells κs a g l) ν γ))
    -- the code
    pub has : f.locals ≡ result_of f.locals ∷ others_of f.locals
    pub goes : f.body ≡ lending callee ps
    pub fits : (κs : Lfts (lives n)) (a : ArgsOf n ps κs) → Typed (mirs (OverName n κs (types_of ps κs))) (flat (OverName n κs (types_of ps κs)) (arg_vals κs a)) → Fitting (others_of f.locals) (flat (OverName n κs (types_of ps κs)) (arg_vals κs a))
    pub shape : (κs : Lfts (lives n)) (a : ArgsOf n ps κs) (bs : Blocks (result_of f.locals ∷ others_of f.locals)) (ν : ℕ)
        → Hands ps (began κs a bs) (only (arg_vals κs a).1.1.1.0) (flat (OverRecords n κs (types_of ps κs) ν) (vals_on n κs (types_of ps κs) (arg_vals κs a) (block_at (with_array ps (began κs a bs)) (at ps)) ν)) (answer.type κs).mir

-- ---- as its theorem states it
module _ {M : Type 1} {𝓤 : Ura M} (𝓛 : Logic 𝓤) (𝓜 : Model 𝓤 𝓛.H) (𝓡 : Running 𝓤 𝓛.H 𝓜) (γ : CodeEnv) (self callee : Callee) (f : Fn)
    (n : ℕ) (ps : List (Param (lives n))) (answer : Param (lives n)) (c : Spec 𝓤 (signature_of (tables_and n ps) answer)) where
  open 𝓛 use {H}

  pub passed : Closed 𝓤 H (code-tables 𝓤 H 𝓜 𝓡 γ).C (code-tables 𝓤 H 𝓜 𝓡 γ).Λ self f → Call 𝓛 (code-tables 𝓤 H 𝓜 𝓡 γ).C callee n ps answer c f
      → Meets 𝓛 (signature_of (tables_and n ps) answer) (𝓡.run (γ self)) c
  passed closed k =
      walked 𝓛 𝓜 𝓡 γ self f (tables_and n ps) answer c closed (λ fm κs qs a g are fit.
      let vs = vals_of 𝓛 (tables_and n ps) κs a in
      lends_on_lem 𝓛 n κs qs ps a vs (answer.type κs) (answer.known 𝓛 κs).lawful.typed (k.said κs a) ((c κs a).ensures g) (k.tells κs a g) (code-tables 𝓤 H 𝓜 𝓡 γ).C (code-tables 𝓤 H 𝓜 𝓡 γ).Λ fm callee
      (k.known κs qs a vs g) f k.has k.goes (k.fits κs a fit) (k.shape κs a) are.1.1.1.0)
