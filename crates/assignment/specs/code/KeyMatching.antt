-- The keys of two objects: what the functions of `keys` ask and say.
use Rattle.planner.specs.declared.PlanRefusal.{PlanRefusal}
use Rattle.std.specs.Prelude.{ℕ, zero, suc, ◌+◌, ◌*◌, ◌^◌, ◌≤◌, ◌<◌, ◌≡◌, Bool, true, cond, List, eqb, leb, Result, Ok, Err}
use Rattle.std.proofs.Math.Option.{Option}
use Rattle.base.specs.Lists.{all_from}
use Rattle.literal.specs.Literal.{Literal}
use Rattle.table.specs.Tables.{Tables, kind_of, first_word_of, count_of, child_at}
use Rattle.table.specs.Decode.{literal_at, fields_of}
use Rattle.table.specs.code.Sound.{Node, WellFormed}
use Rattle.planner.specs.Layout.{Slot}
use Rattle.planner.specs.code.Passes.{value_node, order_of}
use Rattle.planner.specs.code.Post.{OrderedBy}
use Rattle.planner.specs.Held.{held_under}
use Rattle.assignment.specs.Pairs.{all_literal, distinct_keys}
use Rattle.assignment.specs.code.Flats.{FailedAs, fields_flat, objects_flat}

-- the node of an object's last value under a literal, or 0
abbrev pub held_node : Tables → ℕ → Option ℕ → ℕ
held_node T first Option.none = 0
held_node T first (Option.some i) = value_node T first i

abbrev pub held_by : Tables → ℕ → List (Slot ℕ) → Option Literal → ℕ
held_by T first ss Option.none = 0
held_by T first ss (Option.some l) = held_node T first (held_under l ss)

unfoldable pub partner_of : Tables → ℕ → ℕ → ℕ
partner_of T n key = held_by T (first_word_of T.nodes n) (order_of T (first_word_of T.nodes n) (count_of T.nodes n)).literals (literal_at T key)

-- the first key, of k fields from child entry `at` on, that object n lacks, or 0
unfoldable pub missing_from : Tables → ℕ → ℕ → ℕ → ℕ
missing_from T n at zero = 0
missing_from T n at (suc k) = cond (eqb (partner_of T n (child_at T.children at)) 0) (child_at T.children at) (missing_from T n (at + 2) k)

-- is the key of field i a literal? And are those of all fields of object n?
abbrev pub literal_kind : List ℕ → List ℕ → ℕ → ℕ → Bool
literal_kind nodes children first i = leb (kind_of nodes (child_at children (first + i * 2))) 5

unfoldable pub literal_keys : List ℕ → List ℕ → ℕ → Bool
literal_keys nodes children n = all_from (literal_kind nodes children (first_word_of nodes n)) 0 (count_of nodes n)

pub record ObjectAsks (T : Tables) (n : ℕ) : Type 0 where
  pub table : WellFormed T
  pub node : Node T n
  pub object : kind_of T.nodes n ≡ 9

-- an object all of whose keys are literals, with its fields in order
pub record InOrder (T : Tables) (n : ℕ) (order : List ℕ) (total : ℕ) : Type 0 where
  pub asks : ObjectAsks T n
  pub literal : all_literal (fields_of T n) ≡ true
  pub ordered : OrderedBy T (first_word_of T.nodes n) (count_of T.nodes n) order total

-- a node that is a literal
pub record LiteralNode (T : Tables) (n : ℕ) : Type 0 where
  pub node : Node T n
  pub own : Literal
  pub literal : literal_at T n ≡ Option.some own

pub record FindAsks (T : Tables) (n : ℕ) (order : List ℕ) (total key : ℕ) : Type 0 where
  pub in_order : InOrder T n order total
  pub key_ok : LiteralNode T key

pub record MissingAsks (T : Tables) (n : ℕ) (order : List ℕ) (total from k : ℕ) : Type 0 where
  pub in_order : InOrder T n order total
  pub keys : (i : ℕ) → i < k → LiteralNode T (child_at T.children (from + i * 2))
  pub small : from + k * 2 ≤ 2 ^ 40

-- two objects
pub record ObjectsAsks (T : Tables) (left right : ℕ) : Type 0 where
  pub left_ok : ObjectAsks T left
  pub right_ok : ObjectAsks T right

-- two objects all of whose keys are literals
pub record KeysAsks (T : Tables) (left right : ℕ) : Type 0 where
  pub both : ObjectsAsks T left right
  pub left_literal : all_literal (fields_of T left) ≡ true
  pub right_literal : all_literal (fields_of T right) ≡ true

-- the field at a child entry of the right object, and its partner
pub record FieldAsks (T : Tables) (left : ℕ) (order : List ℕ) (total at : ℕ) : Type 0 where
  pub in_order : InOrder T left order total
  pub key_ok : LiteralNode T (child_at T.children at)
  pub small : at + 2 ≤ 2 ^ 40

pub record FieldSides (T : Tables) (left at other value : ℕ) : Type 0 where
  pub left_is : other ≡ partner_of T left (child_at T.children at)
  pub right_is : value ≡ child_at T.children (at + 1)

pub record FieldOk (T : Tables) (left parent at : ℕ) : Type 0 where
  pub key_ok : LiteralNode T (child_at T.children at)
  pub value : Node T (child_at T.children (at + 1))
  pub below : child_at T.children (at + 1) < parent
  pub partner : partner_of T left (child_at T.children at) ≡ 0 → ⊥

-- two objects of the same keys
pub record SameKeys (T : Tables) (left right : ℕ) (order : List ℕ) (total : ℕ) : Type 0 where
  pub in_order : InOrder T left order total
  pub each : (i : ℕ) → i < count_of T.nodes right → FieldOk T left right (first_word_of T.nodes right + i * 2)
  pub listed : first_word_of T.nodes right + count_of T.nodes right * 2 ≤ 512
  pub flat : (unbound : ℕ → Bool) (seen : List ℕ) → objects_flat T left right unbound seen ≡ fields_flat T left (first_word_of T.nodes right) (count_of T.nodes right) unbound seen

abbrev pub MatchedBy : Tables → ℕ → ℕ → List ℕ → Result ℕ PlanRefusal → Type 0
MatchedBy T left right order (Ok total) = SameKeys T left right order total
MatchedBy T left right order (Err a) = (unbound : ℕ → Bool) (seen : List ℕ) → FailedAs (objects_flat T left right unbound seen) a

-- the left object's fields in order, whatever the answer
pub record KeysMatched (T : Tables) (left right : ℕ) (order : List ℕ) (r : Result ℕ PlanRefusal) : Type 0 where
  pub ordered : OrderedBy T (first_word_of T.nodes left) (count_of T.nodes left) order (distinct_keys (fields_of T left))
  pub told : MatchedBy T left right order r
