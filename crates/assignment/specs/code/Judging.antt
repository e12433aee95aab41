-- What becomes of two sides.
use Rattle.std.specs.Prelude.{ℕ, ◌≡◌, Bool, true, false, cond, ◌&&◌, List, eqb}
use Rattle.base.specs.Lent.{MutSlices, old, new}
use Rattle.table.specs.Tables.{Tables, kind_of}
use Rattle.table.specs.Decode.{expr}
use Rattle.assignment.specs.declared.judge.Pairing.{Pairing}
use Rattle.assignment.specs.declared.judge.Pairing.TheVariants.{Whole, Items, ByKey, Opposed}
use Rattle.assignment.specs.declared.judge.Judgement.{Judgement}
use Rattle.assignment.specs.declared.judge.Judgement.TheVariants as Judged
use Rattle.assignment.specs.declared.judge.Judgement.TheVariants.{Compare, BindLeft, BindRight, Refuse}
use Rattle.assignment.specs.Pairs.{Shape, shape_of, items as itemsShape, fields as fieldsShape, single, all_literal}
use Rattle.assignment.specs.code.Previewing.{SidesTold}
use Rattle.assignment.specs.code.KeyMatching.{literal_keys}

-- how two sides are taken
abbrev pub pairing_of : Shape → Shape → Pairing
pairing_of (itemsShape n es) (itemsShape m fs) = Items
pairing_of (itemsShape n es) (fieldsShape m fs) = Opposed
pairing_of (itemsShape n es) single = Whole
pairing_of (fieldsShape n es) (itemsShape m fs) = Opposed
pairing_of (fieldsShape n es) (fieldsShape m fs) = cond (all_literal es && all_literal fs) ByKey Whole
pairing_of (fieldsShape n es) single = Whole
pairing_of single s = Whole

-- what becomes of two sides that bind or not
abbrev pub judgement_of : Bool → Bool → Pairing → Judgement
judgement_of false false p = Compare
judgement_of true false Whole = BindLeft
judgement_of false true Whole = BindRight
judgement_of true true Whole = Refuse
judgement_of true b Items = Judged.Items
judgement_of false true Items = Judged.Items
judgement_of true b ByKey = Judged.ByKey
judgement_of false true ByKey = Judged.ByKey
judgement_of true b Opposed = Refuse
judgement_of false true Opposed = Refuse

-- how two nodes are taken
abbrev pub pairing_at : Tables → ℕ → ℕ → Pairing
pairing_at T left right = pairing_of (shape_of (expr T left)) (shape_of (expr T right))

-- the same by their kinds, and of two objects by those of their keys
unfoldable pub objects_pairing : List ℕ → List ℕ → ℕ → ℕ → Pairing
objects_pairing nodes children left right = cond (literal_keys nodes children left && literal_keys nodes children right) ByKey Whole

unfoldable pub kinds_pairing : List ℕ → List ℕ → ℕ → ℕ → Pairing
kinds_pairing nodes children left right =
    cond (eqb (kind_of nodes left) 7) (cond (eqb (kind_of nodes right) 7) Items (cond (eqb (kind_of nodes right) 9) Opposed Whole))
    (cond (eqb (kind_of nodes left) 9) (cond (eqb (kind_of nodes right) 7) Opposed (cond (eqb (kind_of nodes right) 9) (objects_pairing nodes children left right) Whole))
    Whole)

-- what becomes of two nodes; the left one's plan stays in the scratch
pub record Judges (T : Tables) (states : List ℕ) (left right : ℕ) (before binders scratch : List ℕ) (count : ℕ) (r : Judgement) : Type 0 where
  pub one : Bool
  pub other : Bool
  pub sides : SidesTold T states left right 1 before binders scratch count one other
  pub is : r ≡ judgement_of one other (pairing_at T left right)

abbrev pub JudgesIn : MutSlices → MutSlices → Tables → List ℕ → ℕ → ℕ → ℕ → Judgement → Type 0
JudgesIn scratch binders T states left right count r = Judges T states left right (old scratch) (new binders) (new scratch) count r
