-- What the walks of the calls over records share. Such a call copies the records into words, and hands on its parameters with the words in the place of `names`, to a function over words.
-- Its parameters are nodes, children, numbers, names, strings, text, and others, of the types Ts, which have n lifetimes.
use Prim.Native.Nat.{ℕ, suc, ◌+◌, ◌≤◌}
use mathlib.Core.Path.{◌≡◌, sym, ◌∙◌, subst}
use mathlib.Core.Bool.{◌&&◌}
use mathlib.Core.List.{List, [], ◌∷◌, ◌++◌}
use lib.Dec.{T as True}
use lib.ListN.{length}
use seplogic.Ra.Ura.{Ura}
use mir.Syntax.{Callee, named, Ty, Place, place, Opd as Operand, Body, seq, call, return, Fn}
use mir.Val.{Val, vunit}
use base.Logic.{SProp, ent, sep, ex, via, mono_r, snd∗, ex_e, ex_i}
use base.Fml.{Fml, ftrue, flft}
use prog.Memory.{Memory}
use prog.Model.{Model}
use prog.Routine.{Routine, Env as CodeEnv}
use prog.Wired.{Wired}
use prog.Wp.{Env, Calls, Loops, Closed, WpFn}
use types.Logic.{Logic, sem}
use contract.Lifetimes.{Lfts, Shares, toks}
use contract.Monad.{Fun, fact, fact_mono}
use contract.Running.{Running, within, tables as code-tables}
use types.Kit.{Item, ‵, raw, given, ◌⊛◌, some, later, mean, Post, at_ret, Go, Seq, runs, lands, ◌$◌, ◌∵◌, !, qed, move, drop, use1, use2, split, join, pick, learn, fsplit, fjoin, frame, await, updating, now as at_once, show, check, done}
use types.Run.{Opds}
use sound.WpLaws.{FmC}
use denote.RattleType.{RattleType, Denots, Valss, mirs, flat, owns}
use denote.Laws.{Is, Typed, shows}
use denote.Builtin.{u8, u32, u64}
use denote.Slice.{ShrSlice}
use denote.Steps.{nothing, owned, peeks, facts, heard}
use denote.Struct.Laws as LL
use denote.Triple.Entry.{Args}
use denote.Triple.Spec.{Spec, Meets, triple_of}
use denote.Triple.Statement.{Contract, Triple}
use denote.Triple.Call.{calls_at, calls_from}
use denote.Triple.Clauses.{Ended, Lasts, ensured, lasts}
use denote.Triple.Walked.{says}
use Rattle.table.specs.Tables.{Tables, tables}
use Rattle.teluddru.specs.declared.Name.{Name}
use Rattle.teluddru.specs.declared.records.NameWords.{NameWords}
use Rattle.teluddru.specs.code.Copying.{Copied}
use Rattle.teluddru.proofs.laws.Cells as Cells
use Rattle.teluddru.proofs.laws.Cells.{Cell, both, vals_at, type_at, free_at, full_at, all_here, Fits, filled, filled_at, here_filled, homes, homes_filled, sound_filled, result_of, others_of, Blocks, fresh, Fitting, begun, homes_begun, sound_begun, Lend, lends_on, lent_all, LendsAll, homes_lent}
use Rattle.teluddru.proofs.laws.Locals.{◌▹◌, loads, lands_in, relends, enters, leaves}
use Rattle.teluddru.proofs.laws.Params.{Param, shared, types_of, vals_of, lends_from, hands_from, signature_of, entry, left, walked}
use Rattle.teluddru.specs.contracts.Name as T
use Rattle.teluddru.specs.contracts.records.NameWords as N
use Rattle.teluddru.proofs.records.NameWords.TheLaws as N'
use Rattle.teluddru.specs.contracts.records.copy_names as copy-names
use Rattle.teluddru.proofs.records.copy_names.Symbol as copy-names-def
use Rattle.teluddru.proofs.records.copy_names.Symbol.{name as #copy-names}
use Rattle.teluddru.proofs.records.copy_names.Met as copy-names-thm

abbrev pub CopyNames : {M : Type 1} {𝓤 : Ura M} (𝓛 : Logic 𝓤) (mem : Memory → SProp 𝓤) (run : Routine → Fun 𝓤) → Contract 𝓤
CopyNames 𝓛 mem run = triple_of 𝓛 copy-names.signature (copy-names.spec 𝓛 mem run)

-- what is said at exit, from what the function over words says there
pub said_of_all : {M : Type 1} {𝓤 : Ura M} (𝓛 : Logic 𝓤) (E : Ended) (κs : Lfts E.signature.lifetimes) (a : Args E.signature κs) (φ ψ : Lasts E κs a → Type 0) → ((ws : Lasts E κs a) → φ ws → ψ ws)
    → ent 𝓤 (ex 𝓤 (λ ws. sep 𝓤 (sem 𝓛 (lasts E κs a ws)) (fact 𝓤 (φ ws)))) (ex 𝓤 (λ ws. sep 𝓤 (sem 𝓛 (lasts E κs a ws)) (fact 𝓤 (ψ ws))))
said_of_all {𝓤 = 𝓤} 𝓛 E κs a φ ψ f =
    ex_e 𝓤 (λ ws. sep 𝓤 (sem 𝓛 (lasts E κs a ws)) (fact 𝓤 (φ ws))) (λ ws.
    via 𝓤 (sep 𝓤 (sem 𝓛 (lasts E κs a ws)) (fact 𝓤 (ψ ws))) (mono_r 𝓤 (sem 𝓛 (lasts E κs a ws)) (fact_mono 𝓤 (φ ws) (ψ ws) (f ws))) (ex_i 𝓤 (λ vs. sep 𝓤 (sem 𝓛 (lasts E κs a vs)) (fact 𝓤 (ψ vs))) ws))

-- what a call returned, with the fact that its contract says of it
pub came : {M : Type 1} {𝓤 : Ura M} (𝓛 : Logic 𝓤) (R : RattleType) (Toks : Item 𝓤) (ens : R.Denot → SProp 𝓤) (φ : R.Denot → Type 0) → ((x : R.Denot) → ent 𝓤 (ens x) (fact 𝓤 (φ x))) → (v : Val)
    → ent 𝓤 (𝓛.H.⇛ (ex 𝓤 (λ (x : R.Denot). sep 𝓤 (sep 𝓤 (mean 𝓛 Toks) (sem 𝓛 (R.own_val x (v ∷ [])))) (ens x)))) (mean 𝓛 (later (some (λ (x : R.Denot). given (φ x × Is R x (v ∷ [])) Toks))))
came {𝓤 = 𝓤} 𝓛 R Toks ens φ tells v =
    qed 𝓛 (later (some (λ (x : R.Denot). (Toks ⊛ ‵ (R.own_val x (v ∷ []))) ⊛ raw (ens x))) ∷ []) ∵ updating ! $ await ! tt $ pick ! (λ x. split ! $ move ! (1 ∷ []) $ use1 𝓛 (raw (fact 𝓤 (φ x))) (tells x) $ heard ! (φ x) (λ f.
    split ! $ move ! (1 ∷ []) $ facts ! R (Is R) (shows 𝓛 R) x (v ∷ []) (λ is. at_once ! $
    show ! (λ (y : R.Denot). mean 𝓛 (given (φ y × Is R y (v ∷ [])) Toks)) x $ check ! (f, is) $ done !)))

-- the lifetimes of the tables, and n others
abbrev pub lives : ℕ → ℕ
lives n = suc (suc (suc (suc (suc n))))

module _ (n : ℕ) (κs : Lfts (lives n)) (Ts : List RattleType) where
  abbrev Nodes : RattleType
  Nodes = ShrSlice (named 0) κs.0 u32

  abbrev Children : RattleType
  Children = ShrSlice (named 1) κs.1.0 u32

  abbrev Numbers : RattleType
  Numbers = ShrSlice (named 2) κs.1.1.0 u64

  abbrev Names : RattleType
  Names = ShrSlice (named 3) κs.1.1.1.0 T.the_row

  -- those after names
  abbrev Later : List RattleType
  Later = ShrSlice (named 4) κs.1.1.1.1.0 u8 ∷ ShrSlice (named 4) κs.1.1.1.1.0 u8 ∷ Ts

  abbrev pub OverRecords : List RattleType
  OverRecords = Nodes ∷ Children ∷ Numbers ∷ Names ∷ Later

  abbrev pub OverWords : List RattleType
  OverWords = Nodes ∷ Children ∷ Numbers ∷ N.the_row ∷ Later

  -- without the lifetime of names
  abbrev pub lfts_on : Lfts (suc (suc (suc (suc n))))
  lfts_on = (κs.0, (κs.1.0, (κs.1.1.0, κs.1.1.1.1)))

  abbrev pub shares_on : Shares (lives n) → Shares (suc (suc (suc (suc n))))
  shares_on qs = (qs.0, (qs.1.0, (qs.1.1.0, qs.1.1.1.1)))

  -- with the words in the place of names
  abbrev pub args_on : Denots OverRecords → NameWords → Denots OverWords
  args_on a r = (a.0, (a.1.0, (a.1.1.0, (r, a.1.1.1.1))))

  abbrev pub vals_on : Valss OverRecords → Val → Valss OverWords
  vals_on vs v = (vs.0, (vs.1.0, (vs.1.1.0, (v ∷ [], vs.1.1.1.1))))

  abbrev pub over : Denots OverRecords → List ℕ → Tables
  over a names = tables a.0.now a.1.0.now a.1.1.0.now names a.1.1.1.1.0.now a.1.1.1.1.1.0.now

  abbrev pub records : Denots OverRecords → List Name
  records a = a.1.1.1.0.now

module _ {M : Type 1} {𝓤 : Ura M} (𝓛 : Logic 𝓤) (mem : Memory → SProp 𝓤) (run : Routine → Fun 𝓤)
    (n : ℕ) (κs : Lfts (lives n)) (qs : Shares (lives n)) (Ts : List RattleType) (a : Denots (OverRecords n κs Ts)) (vs : Valss (OverRecords n κs Ts)) where
  open 𝓛 use {H}

  abbrev ns : List Name
  ns = records n κs Ts a

  abbrev to_copy : (CopyNames 𝓛 mem run).Ghost
  to_copy = (((κs.1.1.1.0, tt), (qs.1.1.1.0, tt), tt, (a.1.1.1.0, tt), (vs.1.1.1.0, tt)), tt)

  abbrev Token : Fml
  Token = flft κs.1.1.1.0 qs.1.1.1.0

  -- the tokens with that of names, and without it
  abbrev With : Item 𝓤
  With = ‵ (flft κs.0 qs.0) ⊛ (‵ (flft κs.1.0 qs.1.0) ⊛ (‵ (flft κs.1.1.0 qs.1.1.0) ⊛ (‵ Token ⊛ raw (toks 𝓛 (suc n) κs.1.1.1.1 qs.1.1.1.1))))

  abbrev Without : Item 𝓤
  Without = ‵ (flft κs.0 qs.0) ⊛ (‵ (flft κs.1.0 qs.1.0) ⊛ (‵ (flft κs.1.1.0 qs.1.1.0) ⊛ raw (toks 𝓛 (suc n) κs.1.1.1.1 qs.1.1.1.1)))

  abbrev Others : Item 𝓤
  Others = ‵ ((Nodes n κs Ts).own_val a.0 vs.0) ⊛ (‵ ((Children n κs Ts).own_val a.1.0 vs.1.0) ⊛ (‵ ((Numbers n κs Ts).own_val a.1.1.0 vs.1.1.0) ⊛ ‵ (owns (Later n κs Ts) a.1.1.1.1 vs.1.1.1.1)))

  -- what stays beside the call of `copy_names`
  abbrev Kept : Item 𝓤
  Kept = Without ⊛ Others

  goes_copy : ent 𝓤 (sep 𝓤 (sem 𝓛 Token) (sem 𝓛 ((Names n κs Ts).own_val a.1.1.1.0 vs.1.1.1.0))) ((CopyNames 𝓛 mem run).pre to_copy)
  goes_copy =
      qed 𝓛 (‵ Token ∷ ‵ ((Names n κs Ts).own_val a.1.1.1.0 vs.1.1.1.0) ∷ []) ∵
      nothing ! $ move ! (2 ∷ 0 ∷ []) $ fjoin ! $ nothing ! $ move ! (2 ∷ 0 ∷ []) $ join ! $ join ! $ frame ! $ done !

  parts : ent 𝓤 (sep 𝓤 (toks 𝓛 (lives n) κs qs) (sem 𝓛 (owns (OverRecords n κs Ts) a vs))) (mean 𝓛 (raw ((CopyNames 𝓛 mem run).pre to_copy) ⊛ Kept))
  parts =
      qed 𝓛 (With ∷ ‵ (owns (OverRecords n κs Ts) a vs) ∷ []) ∵ split ! $ move ! (1 ∷ []) $ split ! $ move ! (1 ∷ []) $ split ! $ move ! (1 ∷ []) $ split ! $
      -- [names' token; the later ones; numbers'; children's; nodes'; what is owned]
      move ! (5 ∷ []) $ fsplit ! $ move ! (1 ∷ []) $ fsplit ! $ move ! (1 ∷ []) $ fsplit ! $ move ! (1 ∷ []) $ fsplit ! $
      -- [names; the later ones; numbers; children; nodes; names' token; …]
      move ! (5 ∷ 0 ∷ []) $ use2 𝓛 (raw ((CopyNames 𝓛 mem run).pre to_copy)) goes_copy $ frame ! $
      move ! (1 ∷ 0 ∷ []) $ join ! $ move ! (1 ∷ 0 ∷ []) $ join ! $ move ! (1 ∷ 0 ∷ []) $ join ! $ move ! (2 ∷ 1 ∷ []) $ join ! $ move ! (2 ∷ 0 ∷ []) $ join ! $ move ! (2 ∷ 0 ∷ []) $ join ! $ done !

  -- `copy_names` has returned v
  copied : (v : Val) → ent 𝓤 ((CopyNames 𝓛 mem run).post to_copy v) (mean 𝓛 (later (some (λ (r : NameWords). given (Copied ns r × Is N.the_row r (v ∷ [])) (‵ Token ⊛ ‵ ftrue)))))
  copied =
      came 𝓛 N.the_row (‵ Token ⊛ ‵ ftrue) (ensured 𝓛 copy-names.ended (copy-names.clauses 𝓛 mem run) (κs.1.1.1.0, tt) (a.1.1.1.0, tt) tt) (Copied ns)
      (λ r. ex_e 𝓤 _ (λ ws. snd∗ 𝓤 (sem 𝓛 (lasts copy-names.ended (κs.1.1.1.0, tt) (a.1.1.1.0, tt) ws)) (fact 𝓤 (Copied ns r))))

  -- what the function over words asks
  abbrev Asked : NameWords → Val → SProp 𝓤
  Asked r v = sep 𝓤 (sep 𝓤 (toks 𝓛 (suc (suc (suc (suc n)))) (lfts_on n κs Ts) (shares_on n κs Ts qs)) (sem 𝓛 (owns (OverWords n κs Ts) (args_on n κs Ts a r) (vals_on n κs Ts vs v)))) (fact 𝓤 (r.count ≤ 129))

  hands_on : (r : NameWords) (v : Val) → Copied ns r → Is N.the_row r (v ∷ []) → ent 𝓤 (mean 𝓛 Kept) (Asked r v)
  hands_on r v c is =
      qed 𝓛 (Without ∷ Others ∷ []) ∵ says ! c.few $ frame ! $ split ! $ move ! (1 ∷ []) $ split ! $ move ! (1 ∷ []) $ split ! $
      owned ! N.the_row (Is N.the_row) (LL.makes N.the_type N'.the_plain 𝓛) r _ is $ move ! (0 ∷ 2 ∷ []) $ fjoin ! $ move ! (1 ∷ 0 ∷ []) $ fjoin ! $ move ! (1 ∷ 0 ∷ []) $ fjoin ! $ move ! (1 ∷ 0 ∷ []) $ fjoin ! $ done !

  -- It returns a value of type R: what is said of it over words, and over records.
  module _ (R : RattleType) (typed : (x : R.Denot) (us : List Val) → Is R x us → Typed R.mir us) (said told : R.Denot → SProp 𝓤) (tells : (x : R.Denot) → ent 𝓤 (said x) (told x)) where
    abbrev Said : Val → SProp 𝓤
    Said v = H.⇛ (ex 𝓤 (λ (x : R.Denot). sep 𝓤 (sep 𝓤 (toks 𝓛 (suc (suc (suc (suc n)))) (lfts_on n κs Ts) (shares_on n κs Ts qs)) (sem 𝓛 (R.own_val x (v ∷ [])))) (said x)))

    abbrev Told : Val → R.Denot → SProp 𝓤
    Told v x = sep 𝓤 (sep 𝓤 (toks 𝓛 (lives n) κs qs) (sem 𝓛 (R.own_val x (v ∷ [])))) (told x)

    abbrev Answer : Val → SProp 𝓤
    Answer v = H.⇛ (ex 𝓤 (Told v))

    returned : (v : Val) → ent 𝓤 (sep 𝓤 (Said v) (sem 𝓛 Token)) (mean 𝓛 (later (given (Typed R.mir (v ∷ [])) (raw (Answer v)))))
    returned v =
        qed 𝓛 (later (some (λ (x : R.Denot). (Without ⊛ ‵ (R.own_val x (v ∷ []))) ⊛ raw (said x))) ∷ ‵ Token ∷ []) ∵ updating ! $ await ! tt $ pick ! (λ x. split ! $ split ! $ move ! (1 ∷ []) $
        peeks ! R (Is R) (shows 𝓛 R) x (v ∷ []) (λ is. at_once ! $ check ! (typed x (v ∷ []) is) $ updating ! $ at_once ! $ show ! (Told v) x $
        -- [the result; the tokens; what is said; names' token]
        move ! (2 ∷ []) $ use1 𝓛 (raw (told x)) (tells x) $ move ! (2 ∷ []) $ split ! $ move ! (1 ∷ []) $ split ! $ move ! (1 ∷ []) $ split ! $
        -- [numbers' token; the later ones; children's; nodes'; what is told; the result; names' token]
        move ! (6 ∷ 1 ∷ []) $ join ! $ move ! (1 ∷ 0 ∷ []) $ join ! $ move ! (1 ∷ 0 ∷ []) $ join ! $ move ! (1 ∷ 0 ∷ []) $ join ! $ move ! (0 ∷ 2 ∷ []) $ join ! $ done !))

  -- ---- the two calls, as steps of the calculus
  module _ {K : Type 0} {Γ : List (Item 𝓤)} {E : Env 𝓤 H} {C : Calls 𝓤 H} {Λ : Loops 𝓤 H} {q : Post 𝓤 H} {f : Callee} {xs : List Operand} {d : Place} {rest : Body} where
    pub copies : K → FmC 𝓤 H 𝓛.laws C → Triple 𝓤 (C f) (CopyNames 𝓛 mem run) → Opds K 𝓛 (raw ((CopyNames 𝓛 mem run).pre to_copy) ∷ Kept ∷ Γ) E xs ((CopyNames 𝓛 mem run).args to_copy)
        → ((v : Val) (r : NameWords) → Copied ns r → Is N.the_row r (v ∷ []) → Seq K 𝓛 (‵ Token ∷ Kept ∷ Γ) (lands C Λ E d v rest q))
        → Seq K 𝓛 (raw (sep 𝓤 (toks 𝓛 (lives n) κs qs) (sem 𝓛 (owns (OverRecords n κs Ts) a vs))) ∷ Γ) (runs C Λ E (seq (call f xs d) rest) q)
    copies t fm known os k =
        use1 𝓛 (raw ((CopyNames 𝓛 mem run).pre to_copy) ⊛ Kept) parts $ split t $ calls_at t fm (CopyNames 𝓛 mem run) known to_copy os (λ v.
        use1 𝓛 (later (some (λ (r : NameWords). given (Copied ns r × Is N.the_row r (v ∷ [])) (‵ Token ⊛ ‵ ftrue)))) (copied v) $ await t tt $ pick t (λ r. learn t (λ e.
        split t $ move t (1 ∷ []) $ drop t $ k v r e.0 e.1)))

    module _ (R : RattleType) (typed : (x : R.Denot) (us : List Val) → Is R x us → Typed R.mir us) (said told : R.Denot → SProp 𝓤) (tells : (x : R.Denot) → ent 𝓤 (said x) (told x)) where
      pub hands : K → FmC 𝓤 H 𝓛.laws C → (r : NameWords) (v : Val) → Copied ns r → Is N.the_row r (v ∷ []) → ent 𝓤 (Asked r v) (C f (flat (OverWords n κs Ts) (vals_on n κs Ts vs v)) (Said R typed said told tells))
          → Opds K 𝓛 (raw (Asked r v) ∷ ‵ Token ∷ Γ) E xs (flat (OverWords n κs Ts) (vals_on n κs Ts vs v))
          → ((v' : Val) → Typed R.mir (v' ∷ []) → Seq K 𝓛 (raw (Answer R typed said told tells v') ∷ Γ) (lands C Λ E d v' rest q))
          → Seq K 𝓛 (‵ Token ∷ Kept ∷ Γ) (runs C Λ E (seq (call f xs d) rest) q)
      hands t fm r v c is known os k =
          move t (1 ∷ []) $ use1 𝓛 (raw (Asked r v)) (hands_on r v c is) $ calls_from t fm (raw (Asked r v)) (flat (OverWords n κs Ts) (vals_on n κs Ts vs v)) (Said R typed said told tells) known os (λ v'.
          use2 𝓛 (later (given (Typed R.mir (v' ∷ [])) (raw (Answer R typed said told tells v')))) (returned R typed said told tells v') $ await t tt $ learn t (λ fits. k v' fits))

-- ---- the code of a call: `copy_names` of local 4, what is lent again, the function over words, the return
abbrev at : {n : ℕ} → List (Param n) → ℕ
at ps = 7 + length ps

abbrev lends : {n : ℕ} → List (Param n) → List Lend
lends ps = lends_from 7 (suc (at ps)) ps

abbrev handed : {n : ℕ} → List (Param n) → List ℕ
handed ps = 1 ∷ 2 ∷ 3 ∷ at ps ∷ 5 ∷ 6 ∷ hands_from 7 (suc (at ps)) ps

abbrev pub passing : {n : ℕ} → Callee → List (Param n) → Body
passing words ps = seq (call #copy-names (Cells.copies (4 ∷ [])) (place (at ps) [])) (lends_on (lends ps) (seq (call words (Cells.copies (handed ps)) (place 0 [])) return))

-- The code of a call is of this shape: for each call an equation that computes, beside its answers.
pub record IsPassing {n : ℕ} (f : Fn) (words : Callee) (ps : List (Param n)) : Type 0 where
  pub has : f.locals ≡ result_of f.locals ∷ others_of f.locals
  pub goes : f.body ≡ passing words ps

-- What is read where, once `copy_names` has returned v: all of it computes.
abbrev after : {n : ℕ} → List (Param n) → List Cell → Val → List Cell
after ps cs v = lent_all (filled cs (at ps) v) (lends ps)

pub record Passes {n : ℕ} (ps : List (Param n)) (cs : List Cell) (v : Val) (names handed-on : List Val) (answer : List Ty) : Type 0 where
  pub ready : True (full_at cs (4 ∷ []) && (free_at cs (at ps) && (full_at (after ps cs v) (handed ps) && (free_at (after ps cs v) 0 && all_here (after ps cs v)))))
  pub lent : LendsAll (filled cs (at ps) v) (lends ps)
  pub names_are : vals_at cs (4 ∷ []) ≡ names
  pub room_fits : type_at cs (at ps) ∷ [] ≡ (N.the_row).mir
  pub handed_are : vals_at (after ps cs v) (handed ps) ≡ handed-on
  pub answer_fits : type_at (after ps cs v) 0 ∷ [] ≡ answer

module _ {M : Type 1} {𝓤 : Ura M} (𝓛 : Logic 𝓤) (mem : Memory → SProp 𝓤) (run : Routine → Fun 𝓤)
    (n : ℕ) (κs : Lfts (lives n)) (qs : Shares (lives n)) (ps : List (Param (lives n)))
    (a : Denots (OverRecords n κs (types_of ps κs))) (vs : Valss (OverRecords n κs (types_of ps κs)))
    (R : RattleType) (typed : (x : R.Denot) (us : List Val) → Is R x us → Typed R.mir us)
    (said : NameWords → R.Denot → SProp 𝓤) (told : R.Denot → SProp 𝓤) (tells : (r : NameWords) → Copied (records n κs (types_of ps κs) a) r → (x : R.Denot) → ent 𝓤 (said r x) (told x))
    (C : Calls 𝓤 𝓛.H) (Λ : Loops 𝓤 𝓛.H) (fm : FmC 𝓤 𝓛.H 𝓛.laws C) (words : Callee) (known-copy : Triple 𝓤 (C #copy-names) (CopyNames 𝓛 mem run))
    (known_words : (r : NameWords) (c : Copied (records n κs (types_of ps κs) a) r) (v : Val)
    → ent 𝓤 (Asked 𝓛 mem run n κs qs (types_of ps κs) a vs r v)
    (C words (flat (OverWords n κs (types_of ps κs)) (vals_on n κs (types_of ps κs) vs v)) (Said 𝓛 mem run n κs qs (types_of ps κs) a vs R typed (said r) told (tells r c))))
    (f : Fn) (has : f.locals ≡ result_of f.locals ∷ others_of f.locals) (goes : f.body ≡ passing words ps) (fits : Fitting (others_of f.locals) (flat (OverRecords n κs (types_of ps κs)) vs))
    (shape : (bs : Blocks (result_of f.locals ∷ others_of f.locals)) (v : Val)
    → Passes ps (begun (result_of f.locals) (others_of f.locals) (flat (OverRecords n κs (types_of ps κs)) vs) bs) v (vs.1.1.1.0 ++ []) (flat (OverWords n κs (types_of ps κs)) (vals_on n κs (types_of ps κs) vs v)) R.mir) where
  open 𝓛 use {H}

  abbrev Ts : List RattleType
  Ts = types_of ps κs

  abbrev vals : List Val
  vals = flat (OverRecords n κs Ts) vs

  abbrev Entry : SProp 𝓤
  Entry = entry 𝓛 (lives n) κs qs (OverRecords n κs Ts) a vs

  abbrev Final : Val → SProp 𝓤
  Final = left 𝓛 (lives n) κs qs R told

  pub passes_on : ent 𝓤 Entry (WpFn 𝓤 H C Λ f vals Final)
  passes_on =
      qed 𝓛 (raw Entry ∷ []) ∵ enters ! (raw Entry ∷ []) C Λ f vals Final (result_of f.locals) (others_of f.locals) has fits (λ bs.
      let cs : List Cell = begun (result_of f.locals) (others_of f.locals) vals bs in
      let E : Env 𝓤 H = homes (fresh (result_of f.locals ∷ others_of f.locals) bs) in
      let e : homes cs ≡ E = homes_begun (result_of f.locals) (others_of f.locals) vals bs in
      let kept : Item 𝓤 = Kept 𝓛 mem run n κs qs Ts a vs in
      let token : Item 𝓤 = ‵ (Token 𝓛 mem run n κs qs Ts a vs) in
      let asks : Item 𝓤 = raw ((CopyNames 𝓛 mem run).pre (to_copy 𝓛 mem run n κs qs Ts a vs)) in
      subst (λ (b : Body). Seq (Go {0}) 𝓛 ((raw Entry ∷ []) ▹ cs) (runs C Λ E b (at_ret E Final))) (sym goes)
      (copies 𝓛 mem run n κs qs Ts a vs ! fm known-copy
      (subst (Opds (Go {0}) 𝓛 ((asks ∷ kept ∷ []) ▹ cs) E (Cells.copies (4 ∷ []))) (shape bs vunit).names_are (loads (asks ∷ kept ∷ []) cs e ! (4 ∷ []) (both (full_at cs (4 ∷ [])) _ (shape bs vunit).ready).0))
      (λ v r c is-words.
      let ok : Passes ps cs v (vs.1.1.1.0 ++ []) (flat (OverWords n κs Ts) (vals_on n κs Ts vs v)) R.mir = shape bs v in
      let cs₁ : List Cell = filled cs (at ps) v in
      let cs₂ : List Cell = after ps cs v in
      let e₁ : homes cs₁ ≡ E = homes_filled cs (at ps) v ∙ e in
      let e₂ : homes cs₂ ≡ E = homes_lent cs₁ (lends ps) ∙ e₁ in
      let z = both (free_at cs (at ps)) _ (both (full_at cs (4 ∷ [])) _ ok.ready).1 in
      let z₁ = both (full_at cs₂ (handed ps)) _ z.1 in
      let z₂ = both (free_at cs₂ 0) (all_here cs₂) z₁.1 in
      let fits-v : Fits cs (at ps) v = (subst (λ (τs : List Ty). Typed τs (v ∷ [])) (sym ok.room_fits) ((LL.lawful N.the_type N'.the_laws 𝓛).typed r (v ∷ []) is-words)).0 in
      lands_in (token ∷ kept ∷ []) cs e ! (at ps) v z.0 fits-v $
      relends ! (token ∷ kept ∷ []) cs₁ (lends ps) e₁ (sound_filled cs (at ps) v fits-v.1 (sound_begun (result_of f.locals) (others_of f.locals) vals bs fits)) ok.lent $
      hands 𝓛 mem run n κs qs Ts a vs R typed (said r) told (tells r c) ! fm r v c is-words (known_words r c v)
      (subst (Opds (Go {0}) 𝓛 ((raw (Asked 𝓛 mem run n κs qs Ts a vs r v) ∷ token ∷ []) ▹ cs₂) E (Cells.copies (handed ps))) ok.handed_are
      (loads (raw (Asked 𝓛 mem run n κs qs Ts a vs r v) ∷ token ∷ []) cs₂ e₂ ! (handed ps) z₁.0))
      (λ v' fits'.
      lands_in (raw (Final v') ∷ []) cs₂ e₂ ! 0 v' z₂.0 (subst (λ (τs : List Ty). Typed τs (v' ∷ [])) (sym ok.answer_fits) fits').0 $
      leaves ! (raw (Final v') ∷ []) (filled cs₂ 0 v') (homes_filled cs₂ 0 v' ∙ e₂) (here_filled cs₂ 0 v' z₂.1) (filled_at cs₂ 0 v' z₂.0) (done !)))))

-- ---- a call over records meets its contract, as soon as the function over words meets its own
abbrev pub tables_and : (n : ℕ) → List (Param (lives n)) → List (Param (lives n))
tables_and n ps = shared 0 tt u32 ∷ shared 1 tt u32 ∷ shared 2 tt u64 ∷ shared 3 tt T.the_row ∷ shared 4 tt u8 ∷ shared 4 tt u8 ∷ ps

module _ (n : ℕ) (ps : List (Param (lives n))) (κs : Lfts (lives n)) where
  -- its parameters' values; those after text; the records; the tables over other names
  abbrev pub ArgsOf : Type 0
  ArgsOf = Denots (OverRecords n κs (types_of ps κs))

  abbrev pub after_text : ArgsOf → Denots (types_of ps κs)
  after_text a = a.1.1.1.1.1.1

  abbrev pub records_of : ArgsOf → List Name
  records_of = records n κs (types_of ps κs)

  abbrev pub tables_over : ArgsOf → List ℕ → Tables
  tables_over = over n κs (types_of ps κs)

  -- what it hands on: lifetimes, parameters, and all that a contract over words binds
  abbrev pub lfts_to : Lfts (suc (suc (suc (suc n))))
  lfts_to = lfts_on n κs (types_of ps κs)

  abbrev pub args_to : ArgsOf → NameWords → Denots (OverWords n κs (types_of ps κs))
  args_to = args_on n κs (types_of ps κs)

  abbrev pub bound_to : Shares (lives n) → ArgsOf → Valss (OverRecords n κs (types_of ps κs)) → NameWords → Val
      → Lfts (suc (suc (suc (suc n)))) × Shares (suc (suc (suc (suc n)))) × Unit {0} × Denots (OverWords n κs (types_of ps κs)) × Valss (OverWords n κs (types_of ps κs))
  bound_to qs a vs r v = (lfts_to, shares_on n κs (types_of ps κs) qs, tt, args_to a r, vals_on n κs (types_of ps κs) vs v)

module _ {M : Type 1} {𝓤 : Ura M} (𝓛 : Logic 𝓤) (mem : Memory → SProp 𝓤) (run : Routine → Fun 𝓤) (C : Calls 𝓤 𝓛.H) (words : Callee)
    (n : ℕ) (ps : List (Param (lives n))) (answer : Param (lives n)) (c : Spec 𝓤 (signature_of (tables_and n ps) answer)) (f : Fn) where
  abbrev arg_vals : (κs : Lfts (lives n)) → ArgsOf n ps κs → Valss (OverRecords n κs (types_of ps κs))
  arg_vals = vals_of 𝓛 (tables_and n ps)

  pub record Call : Type 2 where
    -- what the function over words says, and what is said over records
    pub said : (κs : Lfts (lives n)) → ArgsOf n ps κs → NameWords → (answer.type κs).Denot → SProp 𝓤
    pub tells : (κs : Lfts (lives n)) (a : ArgsOf n ps κs) (g : (c κs a).ghost) (r : NameWords) → Copied (records_of n ps κs a) r → (x : (answer.type κs).Denot) → ent 𝓤 (said κs a r x) ((c κs a).ensures g x)
    pub known_words : (κs : Lfts (lives n)) (qs : Shares (lives n)) (a : ArgsOf n ps κs) (vs : Valss (OverRecords n κs (types_of ps κs))) (g : (c κs a).ghost) (r : NameWords) (copy : Copied (records_of n ps κs a) r) (v : Val)
        → ent 𝓤 (Asked 𝓛 mem run n κs qs (types_of ps κs) a vs r v)
        (C words (flat (OverWords n κs (types_of ps κs)) (vals_on n κs (types_of ps κs) vs v)) (Said 𝓛 mem run n κs qs (types_of ps κs) a vs (answer.type κs) (answer.known 𝓛 κs).lawful.typed (said κs a r) ((c κs a).ensures g) (tells κs a g r copy)))
    -- the code
    pub has : f.locals ≡ result_of f.locals ∷ others_of f.locals
    pub goes : f.body ≡ passing words ps
    pub fits : (κs : Lfts (lives n)) (a : ArgsOf n ps κs) → Typed (mirs (OverRecords n κs (types_of ps κs))) (flat (OverRecords n κs (types_of ps κs)) (arg_vals κs a)) → Fitting (others_of f.locals) (flat (OverRecords n κs (types_of ps κs)) (arg_vals κs a))
    pub shape : (κs : Lfts (lives n)) (a : ArgsOf n ps κs) (bs : Blocks (result_of f.locals ∷ others_of f.locals)) (v : Val)
        → Passes ps (begun (result_of f.locals) (others_of f.locals) (flat (OverRecords n κs (types_of ps κs)) (arg_vals κs a)) bs) v
        (arg_vals κs a).1.1.1.0 (flat (OverWords n κs (types_of ps κs)) (vals_on n κs (types_of ps κs) (arg_vals κs a) v)) (answer.type κs).mir

-- ---- as its theorem states it
module _ {M : Type 1} {𝓤 : Ura M} (𝓛 : Logic 𝓤) (𝓜 : Model 𝓤 𝓛.H) (𝓡 : Running 𝓤 𝓛.H 𝓜) (γ : CodeEnv) (self words : Callee) (f : Fn)
    (n : ℕ) (ps : List (Param (lives n))) (answer : Param (lives n)) (c : Spec 𝓤 (signature_of (tables_and n ps) answer)) where
  open 𝓛 use {H}

  pub passed : Closed 𝓤 H (code-tables 𝓤 H 𝓜 𝓡 γ).C (code-tables 𝓤 H 𝓜 𝓡 γ).Λ self f → Wired γ copy-names-def.code
      → Call 𝓛 𝓜.mem 𝓡.returns (code-tables 𝓤 H 𝓜 𝓡 γ).C words n ps answer c f → Meets 𝓛 (signature_of (tables_and n ps) answer) (𝓡.run (γ self)) c
  passed closed copy-wired k =
      walked 𝓛 𝓜 𝓡 γ self f (tables_and n ps) answer c closed (λ fm κs qs a g are fit.
      let vs = vals_of 𝓛 (tables_and n ps) κs a in
      passes_on 𝓛 𝓜.mem 𝓡.returns n κs qs ps a vs (answer.type κs) (answer.known 𝓛 κs).lawful.typed (k.said κs a) ((c κs a).ensures g) (k.tells κs a g) (code-tables 𝓤 H 𝓜 𝓡 γ).C (code-tables 𝓤 H 𝓜 𝓡 γ).Λ fm words
      (copy-names-thm.met 𝓤 𝓛 𝓜 (within 𝓤 H 𝓜 𝓡 γ) copy-wired) (k.known_words κs qs a vs g) f k.has k.goes (k.fits κs a fit) (k.shape κs a))
