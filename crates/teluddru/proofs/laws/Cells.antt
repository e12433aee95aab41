-- The locals of a function whose code runs straight through, as a list of cells that computes: what each holds, at entry, once a value is stored, and once a slice is lent again.
use Prim.Native.Nat.{ℕ, zero, suc}
use mathlib.Core.Path.{◌≡◌, refl, sym, ◌∙◌, ap, subst}
use mathlib.Core.Bool.{Bool, true, false, ◌&&◌}
use mathlib.Core.Option.{Option, none, some}
use mathlib.Core.List.{List, [], ◌∷◌}
use lib.Dec.{T}
use mir.Syntax.{Ty, ty_enum, ttnil, ty_unit, place, Opd as Operand, copy, addr_of, aggregate, field, deref, Body, seq, assign, Local, value_local, local}
use mir.Val.{Val, vunit, vbool, vint, vfloat, vptr, vcode, vstruct, Vals, vnil, WT, has_ty, as_ptr, as_int}
use mir.Fields.{get_v}
use prog.Memory.{field_of}
use denote.Slice.{slice_ty, slice_val}

-- ---- a local's memory: room, a value, or lent away
pub data Cell : Type 0 where
  free : Ty → ℕ → Cell
  full : Ty → ℕ → Val → Cell
  away : Ty → ℕ → Cell

abbrev pub type_of : Cell → Ty
type_of (free τ b) = τ
type_of (full τ b v) = τ
type_of (away τ b) = τ

abbrev pub block_of : Cell → ℕ
block_of (free τ b) = b
block_of (full τ b v) = b
block_of (away τ b) = b

abbrev pub holds : Cell → Val
holds (free τ b) = vunit
holds (full τ b v) = v
holds (away τ b) = vunit

abbrev pub is_free : Cell → Bool
is_free (free τ b) = true
is_free (full τ b v) = false
is_free (away τ b) = false

abbrev pub is_full : Cell → Bool
is_full (free τ b) = false
is_full (full τ b v) = true
is_full (away τ b) = false

abbrev pub is_here : Cell → Bool
is_here (free τ b) = true
is_here (full τ b v) = true
is_here (away τ b) = false

not_both : (c : Cell) → T (is_free c) → T (is_full c) → ⊥
not_both (free τ b) z f = f
not_both (full τ b v) z f = z
not_both (away τ b) z f = z

pub is_full_lem : {c : Cell} {τ : Ty} {b : ℕ} {v : Val} → c ≡ full τ b v → T (is_full c)
is_full_lem e = subst (λ (c : Cell). T (is_full c)) (sym e) tt

pub both : (a b : Bool) → T (a && b) → T a × T b
both true b z = (tt, z)
both false b z = absurd z

-- ---- of all locals, in their order
abbrev pub cell_at : List Cell → ℕ → Cell
cell_at [] i = away (ty_enum [] ttnil) zero
cell_at (c ∷ cs) zero = c
cell_at (c ∷ cs) (suc i) = cell_at cs i

abbrev pub type_at : List Cell → ℕ → Ty
type_at cs i = type_of (cell_at cs i)

abbrev pub block_at : List Cell → ℕ → ℕ
block_at cs i = block_of (cell_at cs i)

abbrev pub val_at : List Cell → ℕ → Val
val_at cs i = holds (cell_at cs i)

abbrev pub vals_at : List Cell → List ℕ → List Val
vals_at cs [] = []
vals_at cs (i ∷ is) = val_at cs i ∷ vals_at cs is

abbrev pub free_at : List Cell → ℕ → Bool
free_at cs i = is_free (cell_at cs i)

abbrev pub full_at : List Cell → List ℕ → Bool
full_at cs [] = true
full_at cs (i ∷ is) = is_full (cell_at cs i) && full_at cs is

abbrev pub all_here : List Cell → Bool
all_here [] = true
all_here (c ∷ cs) = is_here c && all_here cs

abbrev pub Fits : List Cell → ℕ → Val → Type 0
Fits cs i v = T (has_ty (type_at cs i) v) × WT v

abbrev pub filled : List Cell → ℕ → Val → List Cell
filled [] i v = []
filled (c ∷ cs) zero v = full (type_of c) (block_of c) v ∷ cs
filled (c ∷ cs) (suc i) v = c ∷ filled cs i v

abbrev pub taken : List Cell → ℕ → List Cell
taken [] i = []
taken (c ∷ cs) zero = away (type_of c) (block_of c) ∷ cs
taken (c ∷ cs) (suc i) = c ∷ taken cs i

-- a value that is stored can be read there, and the others stay
pub filled_at : (cs : List Cell) (i : ℕ) (v : Val) → T (free_at cs i) → cell_at (filled cs i v) i ≡ full (type_at cs i) (block_at cs i) v
filled_at [] i v z = absurd z
filled_at (c ∷ cs) zero v z = refl
filled_at (c ∷ cs) (suc i) v z = filled_at cs i v z

pub filled_other : (cs : List Cell) (i j : ℕ) (v : Val) → T (free_at cs i) → T (is_full (cell_at cs j)) → cell_at (filled cs i v) j ≡ cell_at cs j
filled_other [] i j v z f = absurd z
filled_other (c ∷ cs) zero zero v z f = absurd (not_both c z f)
filled_other (c ∷ cs) zero (suc j) v z f = refl
filled_other (c ∷ cs) (suc i) zero v z f = refl
filled_other (c ∷ cs) (suc i) (suc j) v z f = filled_other cs i j v z f

taken_away : (cs : List Cell) (i : ℕ) → T (is_full (cell_at cs i)) → cell_at (taken cs i) i ≡ away (type_at cs i) (block_at cs i)
taken_away [] i z = absurd z
taken_away (c ∷ cs) zero z = refl
taken_away (c ∷ cs) (suc i) z = taken_away cs i z

pub taken_at : (cs : List Cell) (i : ℕ) {τ : Ty} {b : ℕ} {v : Val} → cell_at cs i ≡ full τ b v → cell_at (taken cs i) i ≡ away τ b
taken_at cs i is = taken_away cs i (is_full_lem is) ∙ ap (λ (c : Cell). away (type_of c) (block_of c)) is

pub here_filled : (cs : List Cell) (i : ℕ) (v : Val) → T (all_here cs) → T (all_here (filled cs i v))
here_filled [] i v z = tt
here_filled (c ∷ cs) zero v z = (both (is_here c) (all_here cs) z).1
here_filled (free τ b ∷ cs) (suc i) v z = here_filled cs i v z
here_filled (full τ b u ∷ cs) (suc i) v z = here_filled cs i v z
here_filled (away τ b ∷ cs) (suc i) v z = absurd z

-- as `prog.Wp` has them
abbrev pub homes : List Cell → List (Ty × ℕ)
homes [] = []
homes (c ∷ cs) = (type_of c, block_of c) ∷ homes cs

pub homes_filled : (cs : List Cell) (i : ℕ) (v : Val) → homes (filled cs i v) ≡ homes cs
homes_filled [] i v = refl
homes_filled (c ∷ cs) zero v = refl
homes_filled (c ∷ cs) (suc i) v = ap (λ (E : List (Ty × ℕ)). (type_of c, block_of c) ∷ E) (homes_filled cs i v)

pub homes_taken : (cs : List Cell) (i : ℕ) → homes (taken cs i) ≡ homes cs
homes_taken [] i = refl
homes_taken (c ∷ cs) zero = refl
homes_taken (c ∷ cs) (suc i) = ap (λ (E : List (Ty × ℕ)). (type_of c, block_of c) ∷ E) (homes_taken cs i)

-- each value is one of its width
abbrev pub Sound : List Cell → Type 0
Sound [] = Unit {0}
Sound (c ∷ cs) = (T (is_full c) → WT (holds c)) × Sound cs

sound_at : (cs : List Cell) (i : ℕ) → Sound cs → T (is_full (cell_at cs i)) → WT (val_at cs i)
sound_at [] i s z = absurd z
sound_at (c ∷ cs) zero s z = s.0 z
sound_at (c ∷ cs) (suc i) s z = sound_at cs i s.1 z

pub sound_filled : (cs : List Cell) (i : ℕ) (v : Val) → WT v → Sound cs → Sound (filled cs i v)
sound_filled [] i v wt s = tt
sound_filled (c ∷ cs) zero v wt s = (λ z. wt, s.1)
sound_filled (c ∷ cs) (suc i) v wt s = (s.0, sound_filled cs i v wt s.1)

abbrev pub copies : List ℕ → List Operand
copies [] = []
copies (i ∷ is) = copy (place i []) ∷ copies is

-- ---- the locals at entry: the first is the result's, and the arguments are stored in those after it
abbrev pub result_of : List Local → Local
result_of [] = local ty_unit value_local
result_of (l ∷ ls) = l

abbrev pub others_of : List Local → List Local
others_of [] = []
others_of (l ∷ ls) = ls

abbrev pub Blocks : List Local → Type 0
Blocks [] = Unit {0}
Blocks (l ∷ ls) = ℕ × Blocks ls

abbrev pub kind : Local → Ty
kind (local τ h) = τ

abbrev pub fresh : (ls : List Local) → Blocks ls → List Cell
fresh [] bs = []
fresh (l ∷ ls) bs = free (kind l) bs.0 ∷ fresh ls bs.1

abbrev pub stored : List Cell → List Val → List Cell
stored cs [] = cs
stored [] (v ∷ vs) = []
stored (c ∷ cs) (v ∷ vs) = full (type_of c) (block_of c) v ∷ stored cs vs

abbrev pub Fitting : List Local → List Val → Type 0
Fitting ls [] = Unit {0}
Fitting [] (v ∷ vs) = ⊥
Fitting (l ∷ ls) (v ∷ vs) = (T (has_ty (kind l) v) × WT v) × Fitting ls vs

abbrev pub begun : (l : Local) (ls : List Local) → List Val → Blocks (l ∷ ls) → List Cell
begun l ls vs bs = free (kind l) bs.0 ∷ stored (fresh ls bs.1) vs

homes_stored : (cs : List Cell) (vs : List Val) → homes (stored cs vs) ≡ homes cs
homes_stored cs [] = refl
homes_stored [] (v ∷ vs) = refl
homes_stored (c ∷ cs) (v ∷ vs) = ap (λ (E : List (Ty × ℕ)). (type_of c, block_of c) ∷ E) (homes_stored cs vs)

pub homes_begun : (l : Local) (ls : List Local) (vs : List Val) (bs : Blocks (l ∷ ls)) → homes (begun l ls vs bs) ≡ homes (fresh (l ∷ ls) bs)
homes_begun l ls vs bs = ap (λ (E : List (Ty × ℕ)). (kind l, bs.0) ∷ E) (homes_stored (fresh ls bs.1) vs)

sound_stored : (ls : List Local) (bs : Blocks ls) (vs : List Val) → Fitting ls vs → Sound (stored (fresh ls bs) vs)
sound_stored [] bs [] ok = tt
sound_stored (l ∷ ls) bs [] ok = (λ z. absurd z, sound_stored ls bs.1 [] tt)
sound_stored [] bs (v ∷ vs) ok = absurd ok
sound_stored (l ∷ ls) bs (v ∷ vs) ok = (λ z. ok.0.1, sound_stored ls bs.1 vs ok.1)

pub sound_begun : (l : Local) (ls : List Local) (vs : List Val) (bs : Blocks (l ∷ ls)) → Fitting ls vs → Sound (begun l ls vs bs)
sound_begun l ls vs bs ok = (λ z. absurd z, sound_stored ls bs.1 vs ok)

-- ---- a slice in local `slice` that is lent again: its pointer into one local, and that with the count into another
pub record Lend : Type 0 where
  pub slice : ℕ
  pub pointer : ℕ
  pub again : ℕ
  pub element : Ty

abbrev pub lend : ℕ → ℕ → ℕ → Ty → Lend
lend slice pointer again element = record { slice = slice; pointer = pointer; again = again; element = element }

abbrev pub lends_on : List Lend → Body → Body
lends_on [] rest = rest
lends_on (l ∷ ls) rest =
    seq (assign (place l.pointer []) (addr_of (place l.slice (field 0 ∷ deref l.element ∷ []))))
    (seq (assign (place l.again []) (aggregate (copy (place l.pointer []) ∷ copy (place l.slice (field 1 ∷ [])) ∷ []))) (lends_on ls rest))

-- the parts of a slice's machine value, and the type of its pointer
abbrev fields_in : Val → Vals
fields_in vunit = vnil
fields_in (vbool b) = vnil
fields_in (vint w n) = vnil
fields_in (vfloat f x) = vnil
fields_in (vptr b o) = vnil
fields_in (vcode ι) = vnil
fields_in (vstruct vs) = vs

abbrev pub start_in : Val → ℕ × ℕ
start_in v = as_ptr (zero, zero) (get_v (fields_in v) 0) (λ b o. (b, o))

abbrev pub count_in : Val → ℕ
count_in v = as_int zero (get_v (fields_in v) 1) (λ w n. n)

abbrev type_in : Option (Ty × ℕ) → Ty
type_in none = ty_unit
type_in (some p) = p.0

abbrev pub ref_in : Ty → Ty
ref_in τ = type_in (field_of τ 0)

abbrev a_slice : Cell → Cell
a_slice c = full (slice_ty (ref_in (type_of c))) (block_of c) (slice_val (start_in (holds c)) (count_in (holds c)))

abbrev pub pointer_of : List Cell → Lend → Val
pointer_of cs l = vptr (start_in (val_at cs l.slice)).0 (start_in (val_at cs l.slice)).1

abbrev pub slice_of : List Cell → Lend → Val
slice_of cs l = slice_val (start_in (val_at cs l.slice)) (count_in (val_at cs l.slice))

abbrev pub pointed : List Cell → Lend → List Cell
pointed cs l = filled cs l.pointer (pointer_of cs l)

abbrev pub lent_again : List Cell → Lend → List Cell
lent_again cs l = filled (pointed cs l) l.again (slice_of cs l)

-- The one local holds a slice, and the two are room for its parts: both compute.
abbrev pub Lends : List Cell → Lend → Type 0
Lends cs l = T (free_at cs l.pointer && (has_ty (type_at cs l.pointer) (pointer_of cs l) && (free_at (pointed cs l) l.again && has_ty (type_at (pointed cs l) l.again) (slice_of cs l))))
    × (cell_at cs l.slice ≡ a_slice (cell_at cs l.slice))

abbrev pub lent_all : List Cell → List Lend → List Cell
lent_all cs [] = cs
lent_all cs (l ∷ ls) = lent_all (lent_again cs l) ls

abbrev pub LendsAll : List Cell → List Lend → Type 0
LendsAll cs [] = Unit {0}
LendsAll cs (l ∷ ls) = Lends cs l × LendsAll (lent_again cs l) ls

pub homes_lent_one : (cs : List Cell) (l : Lend) → homes (lent_again cs l) ≡ homes cs
homes_lent_one cs l = homes_filled (pointed cs l) l.again (slice_of cs l) ∙ homes_filled cs l.pointer (pointer_of cs l)

pub homes_lent : (cs : List Cell) (ls : List Lend) → homes (lent_all cs ls) ≡ homes cs
homes_lent cs [] = refl
homes_lent cs (l ∷ ls) = homes_lent (lent_again cs l) ls ∙ homes_lent_one cs l

pub slice_wt : (cs : List Cell) (l : Lend) → Lends cs l → Sound cs → WT (slice_of cs l)
slice_wt cs l ok s = subst (λ (c : Cell). WT (holds c)) ok.1 (sound_at cs l.slice s (is_full_lem ok.1))
