-- What the functions of the structure check ask and say.
use Rattle.std.specs.Prelude.{ℕ, ◌+◌, ◌-◌, ◌*◌, ◌^◌, ◌≤◌, ◌<◌, ◌≡◌, Bool, true, false, not, List, eqb, length, get_or}
use Rattle.std.proofs.Math.Option.{Option}
use Rattle.base.specs.Lent.{MutSlices}
use Rattle.table.specs.Tables.{Tables, kind_of, first_word_of, count_of, child_at}
use Rattle.literal.specs.Literal.{Literal, null}
use Rattle.table.specs.Expr.{Expr, other, Exprs}
use Rattle.table.specs.Decode.{expr, items, fields, fields_of}
use Rattle.table.specs.code.Sound.{Node, WellFormed}
use Rattle.checks.specs.declared.LiteralStructureCheck.{LiteralStructureCheck}
use Rattle.checks.specs.declared.texts.ComparedKeys.{ComparedKeys}
use Rattle.planner.specs.Layout.{Slot, FieldOrder, no_fields}
use Rattle.planner.specs.code.Passes.{order_of}
use Rattle.planner.specs.code.Ordering.{FieldsIn}
use Rattle.planner.specs.code.Post.{GoodPair}
use Rattle.planner.specs.Held.{value_order, is_empty}
use Rattle.checks.specs.declared.Reading.{Reading}
use Rattle.checks.specs.declared.Reading.TheVariants.{Careful}
use Rattle.checks.specs.declared.joining.FieldsSoFar.{FieldsSoFar}
use Rattle.checks.specs.Joining.{and_then, joined}
use Rattle.checks.specs.Structure.{same_keys, computed_keys, ValueField, is_under, partners, field_checks, structure, item_checks, value_fields}
use Rattle.checks.specs.code.Joins.{all_paired, each_paired, finished}

-- a buffer to work in: nothing is said of its words at exit
abbrev pub WorkingSpace : MutSlices → Type 0
WorkingSpace x = Unit {0}

abbrev pub WorkingSpaces : MutSlices → MutSlices → Type 0
WorkingSpaces x y = WorkingSpace x × WorkingSpace y

-- `left` items from child entry `at` on
abbrev pub items_at : Tables → ℕ → ℕ → Exprs
items_at T at left = items (expr T) T.children at left

-- two nodes
abbrev pub structure_at : Reading → Tables → ℕ → ℕ → LiteralStructureCheck
structure_at r T pattern value = structure r (expr T value) (expr T pattern)

-- so many items of a value and of a pattern
abbrev pub items_structure : Reading → Tables → ℕ → ℕ → ℕ → LiteralStructureCheck
items_structure r T place at left = joined r (item_checks r (items_at T place left) (items_at T at left))

-- `left` items of the value node's, and as many of a pattern's
pub record ItemsAsks (T : Tables) (value at place left : ℕ) : Type 0 where
  pub table : WellFormed T
  pub patterns : (i : ℕ) → i < left → Node T (child_at T.children (at + i))
  pub values : (i : ℕ) → i < left → Node T (child_at T.children (place + i)) × (child_at T.children (place + i) < value)
  pub small : (at + left < 2 ^ 40) × (place + left < 2 ^ 40)

-- two objects
pub record ObjectsAsks (T : Tables) (pattern value : ℕ) : Type 0 where
  pub pair : GoodPair T pattern value
  pub pattern_object : kind_of T.nodes pattern ≡ 9
  pub value_object : kind_of T.nodes value ≡ 9

-- an object's fields in order
abbrev pub order_of_node : Tables → ℕ → FieldOrder ℕ
order_of_node T n = order_of T (first_word_of T.nodes n) (count_of T.nodes n)

abbrev pub patterns_of : Tables → ℕ → FieldOrder Expr
patterns_of T n = value_order (fields_of T n) no_fields

-- the pattern's fields in order, and whether the literal keys' texts agree
pub record KeysCompared (T : Tables) (pattern value : ℕ) (order : List ℕ) (literals total : ℕ) (same : Bool) : Type 0 where
  pub ordered : FieldsIn T (first_word_of T.nodes pattern) (count_of T.nodes pattern) order literals total
  pub few : total ≤ 256
  pub same_texts_lem : same ≡ same_keys (order_of_node T pattern).literals (fields_of T value)

abbrev pub KeysComparedBy : Tables → ℕ → ℕ → List ℕ → ComparedKeys → Type 0
KeysComparedBy T pattern value order r = KeysCompared T pattern value order r.literals r.total r.same

pub record FieldsAsks (T : Tables) (pattern value : ℕ) (order : List ℕ) (literals total : ℕ) : Type 0 where
  pub objects : ObjectsAsks T pattern value
  pub ordered : FieldsIn T (first_word_of T.nodes pattern) (count_of T.nodes pattern) order literals total
  pub few : total ≤ 256

-- all fields, then whether the pattern has computed ones
abbrev pub fields_structure : Reading → Tables → ℕ → ℕ → LiteralStructureCheck
fields_structure r T pattern value = and_then (joined r (field_checks r (patterns_of T pattern).literals (value_fields r (fields_of T value)))) (computed_keys (patterns_of T pattern))

-- a key node that is looked for in a pattern
pub record PartnerAsks (T : Tables) (pattern : ℕ) (order : List ℕ) (literals key : ℕ) : Type 0 where
  pub value : ℕ
  pub total : ℕ
  pub asks : FieldsAsks T pattern value order literals total
  pub node : Node T key

-- The place of the one slot whose key is equal, past the slots if there is none.
abbrev pub no_slot : Slot Expr
no_slot = record { at = null; held = other 0 }

pub record PlaceIs (ss : List (Slot Expr)) (key : Option Literal) (place : ℕ) : Type 0 where
  pub here : place < length ss → is_under (get_or ss place no_slot).at key ≡ true
  pub others : (q : ℕ) → q < length ss → (q ≡ place → ⊥) → is_under (get_or ss q no_slot).at key ≡ false

-- a place in a pattern's order, and the node there
pub record SlotAsks (T : Tables) (pattern : ℕ) (order : List ℕ) (literals place : ℕ) : Type 0 where
  pub value : ℕ
  pub total : ℕ
  pub asks : FieldsAsks T pattern value order literals total
  pub inside : place < literals

pub record SlotIs (T : Tables) (ss : List (Slot Expr)) (place r : ℕ) : Type 0 where
  pub node : Node T r
  pub is : expr T r ≡ (get_or ss place no_slot).held

-- Marks by place: which slots have a partner.
abbrev pub is_marked : List ℕ → ℕ → Bool
is_marked marks q = not (eqb (get_or marks q 0) 0)

pub record Unmarked (marks : List ℕ) : Type 0 where
  pub each : (q : ℕ) → is_marked marks q ≡ false

pub record MarkedAt (place : ℕ) (before after : List ℕ) : Type 0 where
  pub here : place < length before → is_marked after place ≡ true
  pub others : (q : ℕ) → (q ≡ place → ⊥) → is_marked after q ≡ is_marked before q

-- the value's fields from number i on, k of them
abbrev pub values_from : Reading → Tables → ℕ → ℕ → ℕ → List ValueField
values_from r T value i k = value_fields r (fields (expr T) T.children (first_word_of T.nodes value + i * 2) k)

abbrev pub slot_at : Tables → ℕ → ℕ → Slot Expr
slot_at T pattern q = get_or (patterns_of T pattern).literals q no_slot

pub record Marked (T : Tables) (pattern value literals : ℕ) (marks : List ℕ) : Type 0 where
  pub each : (q : ℕ) → q < literals → is_marked marks q ≡ not (is_empty (partners (slot_at T pattern q) (value_fields Careful (fields_of T value))))

abbrev pub paired_at : Tables → ℕ → ℕ → Bool
paired_at T pattern value = all_paired (patterns_of T pattern).literals (value_fields Careful (fields_of T value))

abbrev pub paired_by : Reading → Tables → ℕ → ℕ → Bool
paired_by r T pattern value = each_paired r (patterns_of T pattern).literals (value_fields r (fields_of T value))

-- field i of the value, after those before it
pub record FieldAsks (T : Tables) (pattern value : ℕ) (order : List ℕ) (literals i : ℕ) (so_far : FieldsSoFar) : Type 0 where
  pub total : ℕ
  pub asks : FieldsAsks T pattern value order literals total
  pub inside : i < count_of T.nodes value
  pub low : so_far.end ≤ literals

pub record OneMore (reading : Reading) (T : Tables) (pattern value literals i : ℕ) (so_far r : FieldsSoFar) : Type 0 where
  pub low : r.end ≤ literals
  pub same : finished reading (patterns_of T pattern).literals (values_from reading T value (i + 1) (count_of T.nodes value - (i + 1))) r
      ≡ finished reading (patterns_of T pattern).literals (values_from reading T value i (count_of T.nodes value - i)) so_far
