-- Numbers of at most six digits: a listing's column has space for these.
use Rattle.std.specs.Prelude.{ℕ, ◌<◌, List, [], ◌∷◌, length}
use Rattle.base.specs.Refusal.{Refusal, Line}
use Rattle.planner.specs.Layout.{Entry}
use Rattle.planner.specs.Operations.{Outcome, refused, planned}

pub record Short (a b c d : ℕ) : Type 0 where
  pub one : a < 1000000
  pub two : b < 1000000
  pub three : c < 1000000
  pub four : d < 1000000

abbrev pub ShortLine : Line → Type 0
ShortLine l = Short l.number l.second l.third l.fourth

pub record ShortEntry (e : Entry) : Type 0 where
  pub front : Short e.kind e.node e.children e.key
  pub position : e.position < 1000000

abbrev pub ShortRefusal : Refusal → Type 0
ShortRefusal r = Short r.number r.place r.first r.second

-- all elements of a list
abbrev pub Every : {A : Type 0} → (A → Type 0) → List A → Type 0
Every P [] = Unit {0}
Every P (a ∷ l) = P a × Every P l

-- form, side, number of entries, and each entry
abbrev pub ShortOutcome : Outcome → Type 0
ShortOutcome (refused r) = ShortRefusal r
ShortOutcome (planned form side es) = Short 0 form side (length es) × Every ShortEntry es
