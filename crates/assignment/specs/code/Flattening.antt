-- What the functions of `flatten` ask and say.
use Rattle.std.specs.Prelude.{ℕ, ◌+◌, ◌-◌, ◌^◌, ◌≤◌, ◌<◌, ◌≡◌, Bool, cond, ◌&&◌, List, [], ◌∷◌, ◌++◌, eqb, length, get_or, Result, Ok, Err}
use Rattle.base.specs.Lent.{MutSlice, MutSlices, old, new}
use Rattle.table.specs.Tables.{Tables, kind_of, child_at}
use Rattle.base.specs.Lists.{elem}
use Rattle.table.specs.code.Sound.{Node, WellFormed}
use Rattle.planner.specs.declared.PlanRefusal.{PlanRefusal}
use Rattle.planner.specs.Layout.{Entry, below, top, entry}
use Rattle.planner.specs.code.Post.{NameNumber, States, GoodPair}
use Rattle.planner.specs.Entries.{Wrote}
use Rattle.assignment.specs.Pairs.{Pair, pairs_entries, Flat, paired}
use Rattle.assignment.specs.code.Previewing.{Roomy, Scoped, SideWritten, Learnt}
use Rattle.assignment.specs.code.Flats.{FailedAs, side_flat, nodes_flat, arrays_flat, objects_flat, items_flat, most_of, most_items}
use Rattle.assignment.specs.code.KeyMatching.{KeysAsks, SameKeys}

-- the two entries of sides that are compared
pub record Compared (left right : ℕ) (before : List ℕ) (at : ℕ) (after : List ℕ) (r : ℕ) : Type 0 where
  pub wrote : Wrote before at (entry 7 right 1 top ∷ entry 3 left 0 (below 0 1) ∷ []) after r

-- the entries of a side that is bound, and its names known
pub record Bound (value : ℕ) (es : List Entry) (states₀ binders before : List ℕ) (at : ℕ) (states after : List ℕ) (r : ℕ) : Type 0 where
  pub wrote : Wrote before at (entry 7 value 1 top ∷ es) after r
  pub learnt : Learnt states₀ binders states

-- the names given become known, and no other state changes
abbrev pub known_if : Bool → ℕ → ℕ
known_if known state = cond (eqb state 1 && known) 0 state

pub record Learns (names before after : List ℕ) : Type 0 where
  pub each : (x : ℕ) → NameNumber x → get_or after (x - 1) 0 ≡ known_if (elem x names) (get_or before (x - 1) 0)

-- the pairs of two sides, and the names that they bind
pub record Reached (o : Flat) (seen : List ℕ) (most : ℕ) (states₀ before : List ℕ) (at : ℕ) (states after : List ℕ) (r : ℕ) : Type 0 where
  pub pairs : List Pair
  pub names : List ℕ
  pub is : o ≡ paired pairs (names ++ seen)
  pub wrote : Wrote before at (pairs_entries pairs) after r
  pub few : length (pairs_entries pairs) ≤ most
  pub learns : Learns names states₀ states

-- a refusal, and the pairs and names before it
pub record Stopped (o : Flat) (states₀ before : List ℕ) (at : ℕ) (states after : List ℕ) (a : PlanRefusal) : Type 0 where
  pub failed : FailedAs o a
  pub pairs : List Pair
  pub names : List ℕ
  pub end : ℕ
  pub wrote : Wrote before at (pairs_entries pairs) after end
  pub learns : Learns names states₀ states

abbrev pub FlattenedAs : Flat → List ℕ → ℕ → List ℕ → List ℕ → ℕ → List ℕ → List ℕ → Result ℕ PlanRefusal → Type 0
FlattenedAs o seen most states₀ before at states after (Ok r) = Reached o seen most states₀ before at states after r
FlattenedAs o seen most states₀ before at states after (Err a) = Stopped o states₀ before at states after a

-- f of a scope's answers and the names planned so far, at most `most` entries; whatever scope the states stand for
pub record Flattens (f : (ℕ → Bool) → List ℕ → Flat) (T : Tables) (most : ℕ) (states₀ before : List ℕ) (at : ℕ) (states after : List ℕ) (r : Result ℕ PlanRefusal) : Type 0 where
  pub each : (unbound : ℕ → Bool) (seen : List ℕ) → Scoped T unbound seen states₀ → FlattenedAs (f unbound seen) seen most states₀ before at states after r

pub record SideAsks (T : Tables) (states : List ℕ) (pattern value at : ℕ) : Type 0 where
  pub pair_ok : GoodPair T pattern value
  pub states_ok : States T states
  pub low : at ≤ 2 ^ 32

pub record FlattenAsks (T : Tables) (states : List ℕ) (left right at : ℕ) : Type 0 where
  pub pair_ok : GoodPair T left right
  pub states_ok : States T states
  pub room : at + most_of T right ≤ 2 ^ 32

pub record ByKeyAsks (T : Tables) (states : List ℕ) (left right at : ℕ) : Type 0 where
  pub asks : FlattenAsks T states left right at
  pub keyed : KeysAsks T left right

-- two arrays
pub record ArraysAsks (T : Tables) (states : List ℕ) (left right at : ℕ) : Type 0 where
  pub asks : FlattenAsks T states left right at
  pub left_kind : kind_of T.nodes left ≡ 7
  pub right_kind : kind_of T.nodes right ≡ 7

pub record ItemsAsks (T : Tables) (states : List ℕ) (left parent right k at : ℕ) : Type 0 where
  pub table : WellFormed T
  pub states_ok : States T states
  pub left_each : (i : ℕ) → i < k → Node T (child_at T.children (left + i))
  pub right_each : (i : ℕ) → i < k → Node T (child_at T.children (right + i)) × (child_at T.children (right + i) < parent)
  pub left_small : left + k ≤ 2 ^ 40
  pub right_small : right + k ≤ 2 ^ 40
  pub room : at + most_items T right k ≤ 2 ^ 32

pub record ObjectFieldsAsks (T : Tables) (states : List ℕ) (left right : ℕ) (order : List ℕ) (total at : ℕ) : Type 0 where
  pub asks : FlattenAsks T states left right at
  pub object : kind_of T.nodes right ≡ 9
  pub keys : SameKeys T left right order total

-- each with a scratch that has space for an entry of each node
abbrev pub SideAsksIn : MutSlice → Tables → List ℕ → ℕ → ℕ → ℕ → Type 0
SideAsksIn scratch T states pattern value at = SideAsks T states pattern value at × Roomy T scratch.now

abbrev pub FlattenAsksIn : MutSlice → Tables → List ℕ → ℕ → ℕ → ℕ → Type 0
FlattenAsksIn scratch T states left right at = FlattenAsks T states left right at × Roomy T scratch.now

abbrev pub ArraysAsksIn : MutSlice → Tables → List ℕ → ℕ → ℕ → ℕ → Type 0
ArraysAsksIn scratch T states left right at = ArraysAsks T states left right at × Roomy T scratch.now

abbrev pub ItemsAsksIn : MutSlice → Tables → List ℕ → ℕ → ℕ → ℕ → ℕ → ℕ → Type 0
ItemsAsksIn scratch T states left parent right k at = ItemsAsks T states left parent right k at × Roomy T scratch.now

abbrev pub ByKeyAsksIn : MutSlice → Tables → List ℕ → ℕ → ℕ → ℕ → Type 0
ByKeyAsksIn scratch T states left right at = ByKeyAsks T states left right at × Roomy T scratch.now

abbrev pub ObjectFieldsAsksIn : MutSlice → Tables → List ℕ → ℕ → ℕ → List ℕ → ℕ → ℕ → Type 0
ObjectFieldsAsksIn scratch T states left right order total at = ObjectFieldsAsks T states left right order total at × Roomy T scratch.now

-- what each says of what it is lent
abbrev pub SideFlattened : MutSlices → MutSlices → MutSlices → MutSlices → Tables → ℕ → ℕ → ℕ → ℕ → Type 0
SideFlattened states scratch binders plan T pattern value at r =
    Flattens (side_flat T pattern value) T 513 (old states) (old plan) at (new states) (new plan) (Ok r) × SideWritten T (old states) pattern 1 (old scratch) (new binders) (new scratch)

abbrev pub NodesFlattened : MutSlices → MutSlices → Tables → ℕ → ℕ → ℕ → Result ℕ PlanRefusal → Type 0
NodesFlattened states plan T left right at r = Flattens (nodes_flat T left right) T (most_of T right) (old states) (old plan) at (new states) (new plan) r

abbrev pub ArraysFlattened : MutSlices → MutSlices → Tables → ℕ → ℕ → ℕ → Result ℕ PlanRefusal → Type 0
ArraysFlattened states plan T left right at r = Flattens (arrays_flat T left right) T (most_of T right) (old states) (old plan) at (new states) (new plan) r

abbrev pub ItemsFlattened : MutSlices → MutSlices → Tables → ℕ → ℕ → ℕ → ℕ → Result ℕ PlanRefusal → Type 0
ItemsFlattened states plan T left right k at r = Flattens (items_flat T left right k) T (most_items T right k) (old states) (old plan) at (new states) (new plan) r

abbrev pub ObjectsFlattened : MutSlices → MutSlices → Tables → ℕ → ℕ → ℕ → Result ℕ PlanRefusal → Type 0
ObjectsFlattened states plan T left right at r = Flattens (objects_flat T left right) T (most_of T right) (old states) (old plan) at (new states) (new plan) r
