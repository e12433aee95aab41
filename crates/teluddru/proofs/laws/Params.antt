-- The parameters of a function that is walked by hand: of each its type, how its machine values are spelled, told and typed, and which are lent again where they are handed on.
-- `walked`: a function meets its contract as soon as its code does, at machine values that are written out.
use Prim.Native.Nat.{ℕ, suc}
use mathlib.Core.List.{List, [], ◌∷◌}
use mathlib.Core.Option.{Option, none, some}
use seplogic.Ra.Ura.{Ura}
use mir.Syntax.{Callee, Ty, named, w32, Fn}
use mir.Val.{Val}
use base.Logic.{SProp, ent, sep, ex, via, fst∗}
use prog.Model.{Model}
use prog.Routine.{Env as CodeEnv}
use prog.Wp.{Closed, WpFn}
use types.Logic.{Logic, sem}
use contract.Lifetimes.{Lfts, Shares, toks, Within, lft_at}
use contract.Running.{Running, MachineTables, tables, tables_of}
use sound.WpLaws.{FmC, fm_of}
use denote.RattleType.{RattleType, Denots, Valss, mirs, flat, owns}
use denote.Laws.{Is, Ises, Are, Spells, Tells, Tellss, Typed, Lawful, Lawfuls, valss, all_Typed}
use denote.Memory.{lone}
use denote.Plain.{uint_vals, uint_Tells, uint_Lawful}
use denote.Builtin.{u32}
use denote.Slice.{ShrSlice, MutSlice, shr_slice_vals, mut_slice_vals, shr_slice_Tells, shr_slice_Lawful, mut_slice_Tells, mut_slice_Lawful}
use denote.Signature.{Slot, Signature, plain, types_at}
use denote.Steps.{said}
use denote.Struct.Declared as Struct
use denote.Struct.Laws as LL
use denote.Enum.Enum.{Few}
use denote.Enum.Declared as Enum
use denote.Enum.Laws as EL
use denote.Triple.Spec.{Spec, Meets, triple_of}
use denote.Triple.Table.{entered}
use Rattle.teluddru.proofs.laws.Cells.{Lend, lend}

pub record Known {M : Type 1} {𝓤 : Ura M} (𝓛 : Logic 𝓤) (X : RattleType) : Type 1 where
  pub vals : X.Denot → List Val
  pub told : Tells X (Is X) vals
  pub lawful : Lawful 𝓛 X

-- `again`: of a slice that is lent again, the type of its elements
pub record Param (n : ℕ) : Type 2 where
  pub type : Lfts n → RattleType
  pub known : {M : Type 1} {𝓤 : Ura M} (𝓛 : Logic 𝓤) → (κs : Lfts n) → Known 𝓛 (type κs)
  pub again : Option Ty

module _ {n : ℕ} where
  -- `u32`, `&'j [X]`, `&'j mut [X]`, and declared types by value
  abbrev pub word : Param n
  word = record { type = λ κs. u32; known = λ 𝓛 κs. record { vals = uint_vals w32; told = uint_Tells w32; lawful = uint_Lawful 𝓛 w32 }; again = none }

  abbrev pub shared : (j : ℕ) → Within n j → RattleType → Param n
  shared j ok X = record {
    type = λ κs. ShrSlice (named j) (lft_at n j ok κs) X;
    known = λ 𝓛 κs. record { vals = shr_slice_vals; told = shr_slice_Tells (named j) (lft_at n j ok κs) X; lawful = shr_slice_Lawful 𝓛 (named j) (lft_at n j ok κs) X };
    again = none;
  }

  abbrev pub lent : (j : ℕ) → Within n j → RattleType → Param n
  lent j ok X = record {
    type = λ κs. MutSlice (named j) (lft_at n j ok κs) X;
    known = λ 𝓛 κs. record { vals = mut_slice_vals; told = mut_slice_Tells (named j) (lft_at n j ok κs) X; lawful = mut_slice_Lawful 𝓛 (named j) (lft_at n j ok κs) X };
    again = some (lone X.mir);
  }

  abbrev pub struct : (X : Struct.Declared) → LL.Laws X → Param n
  struct X L = record { type = λ κs. Struct.row X; known = λ 𝓛 κs. record { vals = LL.vals X L; told = LL.tells X L; lawful = LL.lawful X L 𝓛 }; again = none }

  abbrev pub enum : (X : Enum.Declared) (L : EL.Laws X) → Few (Enum.shape X) → Param n
  enum X L few = record { type = λ κs. Enum.row X; known = λ 𝓛 κs. record { vals = EL.vals X L; told = EL.tells X L; lawful = EL.lawful X L 𝓛 few }; again = none }

  -- ---- of all parameters, in their order
  abbrev pub slots_of : List (Param n) → List (Slot n)
  slots_of [] = []
  slots_of (p ∷ ps) = plain p.type ∷ slots_of ps

  abbrev pub types_of : List (Param n) → Lfts n → List RattleType
  types_of ps κs = types_at (slots_of ps) κs

  module _ {M : Type 1} {𝓤 : Ura M} (𝓛 : Logic 𝓤) where
    abbrev spells_of : (ps : List (Param n)) (κs : Lfts n) → Spells (types_of ps κs)
    spells_of [] κs = tt
    spells_of (p ∷ ps) κs = ((p.known 𝓛 κs).vals, spells_of ps κs)

    abbrev pub vals_of : (ps : List (Param n)) (κs : Lfts n) → Denots (types_of ps κs) → Valss (types_of ps κs)
    vals_of ps κs = valss (types_of ps κs) (spells_of ps κs)

    abbrev tells_of : (ps : List (Param n)) (κs : Lfts n) → Tellss (types_of ps κs) (Ises (types_of ps κs)) (spells_of ps κs)
    tells_of [] κs = tt
    tells_of (p ∷ ps) κs = ((p.known 𝓛 κs).told, tells_of ps κs)

    abbrev laws_of : (ps : List (Param n)) (κs : Lfts n) → Lawfuls 𝓛 (types_of ps κs)
    laws_of [] κs = tt
    laws_of (p ∷ ps) κs = ((p.known 𝓛 κs).lawful, laws_of ps κs)

-- ---- where the code hands them on: the first is local i, and slices are lent again by way of the locals from k on
abbrev lends_if : Option Ty → ℕ → ℕ → (ℕ → List Lend) → List Lend
lends_if none i k rest = rest k
lends_if (some τ) i k rest = lend i k (suc k) τ ∷ rest (suc (suc k))

abbrev pub lends_from : {n : ℕ} → ℕ → ℕ → List (Param n) → List Lend
lends_from i k [] = []
lends_from i k (p ∷ ps) = lends_if p.again i k (λ k'. lends_from (suc i) k' ps)

abbrev hands_if : Option Ty → ℕ → ℕ → (ℕ → List ℕ) → List ℕ
hands_if none i k rest = i ∷ rest k
hands_if (some τ) i k rest = suc k ∷ rest (suc (suc k))

abbrev pub hands_from : {n : ℕ} → ℕ → ℕ → List (Param n) → List ℕ
hands_from i k [] = []
hands_from i k (p ∷ ps) = hands_if p.again i k (λ k'. hands_from (suc i) k' ps)

-- ---- the theorem of a function
abbrev pub signature_of : {n : ℕ} → List (Param n) → Param n → Signature
signature_of {n} ps answer = record { lifetimes = n; outlives = []; params = slots_of ps; result = plain answer.type }

-- what it has on entry, and what it leaves with the result v
module _ {M : Type 1} {𝓤 : Ura M} (𝓛 : Logic 𝓤) (n : ℕ) (κs : Lfts n) (qs : Shares n) where
  open 𝓛 use {H}

  abbrev pub entry : (Ts : List RattleType) → Denots Ts → Valss Ts → SProp 𝓤
  entry Ts a vs = sep 𝓤 (toks 𝓛 n κs qs) (sem 𝓛 (owns Ts a vs))

  abbrev pub left : (R : RattleType) → (R.Denot → SProp 𝓤) → Val → SProp 𝓤
  left R told v = H.⇛ (ex 𝓤 (λ (x : R.Denot). sep 𝓤 (sep 𝓤 (toks 𝓛 n κs qs) (sem 𝓛 (R.own_val x (v ∷ [])))) (told x)))

module _ {M : Type 1} {𝓤 : Ura M} (𝓛 : Logic 𝓤) (𝓜 : Model 𝓤 𝓛.H) (𝓡 : Running 𝓤 𝓛.H 𝓜) (γ : CodeEnv) (self : Callee) (f : Fn)
    {n : ℕ} (ps : List (Param n)) (answer : Param n) (c : Spec 𝓤 (signature_of ps answer)) where
  open 𝓛 use {H}

  abbrev 𝓣 : MachineTables 𝓤 H 𝓜
  𝓣 = tables 𝓤 H 𝓜 𝓡 γ

  abbrev vals : (κs : Lfts n) → Denots (types_of ps κs) → Valss (types_of ps κs)
  vals = vals_of 𝓛 ps

  pub walked : Closed 𝓤 H 𝓣.C 𝓣.Λ self f
      → (FmC 𝓤 H 𝓛.laws 𝓣.C → (κs : Lfts n) (qs : Shares n) (a : Denots (types_of ps κs)) (g : (c κs a).ghost)
      → Are (types_of ps κs) (Ises (types_of ps κs)) a (vals κs a) → Typed (mirs (types_of ps κs)) (flat (types_of ps κs) (vals κs a))
      → ent 𝓤 (entry 𝓛 n κs qs (types_of ps κs) a (vals κs a)) (WpFn 𝓤 H 𝓣.C 𝓣.Λ f (flat (types_of ps κs) (vals κs a)) (left 𝓛 n κs qs (answer.type κs) ((c κs a).ensures g))))
      → Meets 𝓛 (signature_of ps answer) (𝓡.run (γ self)) c
  unfolding tables_of
  walked closed walk =
      entered 𝓤 H (triple_of 𝓛 (signature_of ps answer) c) 𝓣.C 𝓣.Λ self f closed (λ y.
      let κs = y.0.0 in
      let a = y.0.3 in
      via 𝓤 _ (fst∗ 𝓤 _ ((c κs a).requires y.1))
      (said 𝓛 (signature_of ps answer) κs y.0.1 (spells_of 𝓛 ps κs) (tells_of 𝓛 ps κs) a
      (λ us. WpFn 𝓤 H 𝓣.C 𝓣.Λ f (flat (types_of ps κs) us) ((triple_of 𝓛 (signature_of ps answer) c).post y)) y.0.4
      (λ are. walk (fm_of 𝓤 H 𝓛.laws (tables_of 𝓤 H 𝓜 𝓣)) κs y.0.1 a y.1 are (all_Typed 𝓛 (types_of ps κs) (laws_of 𝓛 ps κs) a (vals κs a) are))))
