-- What the functions on values ask of their caller and say.
use Rattle.std.specs.Prelude.{ℕ, zero, suc, ◌+◌, ◌-◌, ◌*◌, ◌≤◌, ◌<◌, ◌≡◌, Bool, true, false, cond, ◌&&◌, List, eqb, leb, length, get_or, Some, None}
use Rattle.std.specs.Prelude as Prelude
use Rattle.std.proofs.Math.Option.{Option, none, some}
use Rattle.literal.specs.Literal.{Literal}
use Rattle.table.specs.Tables.{Tables, tables, kind_of, first_word_of, count_of, child_at, is_node}
use Rattle.table.specs.Decode.{expr, literal_at, fields_of, items}
use Rattle.table.specs.code.Sound.{Node, WellFormed}
use Rattle.planner.specs.code.Passes.{key_node}
use Rattle.base.specs.Lists.{tabulate}
use Rattle.planner.specs.Simple.{same_key, differing, keys_of, admitted}
use Rattle.value.specs.Value.{Values, is_value, values_of}

-- `marks` has 1 for each node that is admitted
abbrev pub is_marked : List ℕ → ℕ → Bool
is_marked marks n = eqb (get_or marks (n - 1) 0) 1

abbrev pub mark_of : Bool → ℕ
mark_of b = cond b 1 0

-- k items from child entry `at` on are marked
unfoldable pub items_marked : List ℕ → List ℕ → ℕ → ℕ → Bool
items_marked children marks at zero = true
items_marked children marks at (suc k) = is_marked marks (child_at children at) && items_marked children marks (at + 1) k

-- k fields have literal keys and marked values
unfoldable pub fields_marked : List ℕ → List ℕ → List ℕ → ℕ → ℕ → Bool
fields_marked nodes children marks at zero = true
fields_marked nodes children marks at (suc k) =
    leb (kind_of nodes (child_at children at)) 5 && (is_marked marks (child_at children (at + 1)) && fields_marked nodes children marks (at + 2) k)

-- some children of a node of a good table
pub record ChildrenAsks (T : Tables) (at step left : ℕ) : Type 0 where
  pub table : WellFormed T
  pub each : (i : ℕ) → i < left * step → Node T (child_at T.children (at + i))
  pub listed : at + left * step ≤ length T.children

-- the same of child entries alone, of some good table
pub record EntriesAsks (children : List ℕ) (at step left : ℕ) : Type 0 where
  pub T : Tables
  pub asks : ChildrenAsks (tables T.nodes children T.numbers T.names T.strings T.text) at step left

-- the nodes below n are marked right
pub record MarkAsks (T : Tables) (names : Bool) (marks : List ℕ) (n : ℕ) : Type 0 where
  pub table : WellFormed T
  pub node : Node T n
  pub below : (m : ℕ) → Node T m → m < n → is_marked marks m ≡ admitted names (expr T m)

-- the marks of all nodes, and 0 past them
unfoldable pub node_marks : Tables → Bool → List ℕ
node_marks T names = tabulate (λ i. mark_of (is_node T (i + 1) && admitted names (expr T (i + 1)))) 0 512

-- k fields from child entry `at` on, all with literal keys
pub record KeysAsks (T : Tables) (at left : ℕ) : Type 0 where
  pub children : ChildrenAsks T at 2 left
  pub literal : (i : ℕ) → i < left → kind_of T.nodes (key_node T at i) ≤ 5

-- are two literals there, and equal?
abbrev pub same_literals : Option Literal → Option Literal → Bool
same_literals none b = false
same_literals (some a) none = false
same_literals (some a) (some b) = same_key a b

-- a node, or none where it is 0
abbrev pub node_or_none : ℕ → Prelude.Option ℕ
node_or_none n = cond (eqb n 0) None (Some n)

-- the value node of the first of k fields under a key, or 0
unfoldable pub under_from : Tables → Option Literal → ℕ → ℕ → ℕ
under_from T own at zero = 0
under_from T own at (suc k) =
    cond (same_literals own (literal_at T (child_at T.children at))) (child_at T.children (at + 1)) (under_from T own (at + 2) k)

abbrev pub under_in : Tables → ℕ → ℕ → ℕ
under_in T n key = under_from T (literal_at T key) (first_word_of T.nodes n) (count_of T.nodes n)

-- an object with literal keys that differ
pub record KeyedObject (T : Tables) (n : ℕ) : Type 0 where
  pub table : WellFormed T
  pub node : Node T n
  pub object : kind_of T.nodes n ≡ 9
  pub literal : (i : ℕ) → i < count_of T.nodes n → kind_of T.nodes (key_node T (first_word_of T.nodes n) i) ≤ 5
  pub differ : differing (keys_of (fields_of T n)) ≡ true

pub record KeySetsAsks (T : Tables) (a b : ℕ) : Type 0 where
  pub left : KeyedObject T a
  pub right : KeyedObject T b

-- a node that is a value
pub record ValueNode (T : Tables) (n : ℕ) : Type 0 where
  pub node : Node T n
  pub value : is_value (expr T n) ≡ true

pub record SameAsks (T : Tables) (a b : ℕ) : Type 0 where
  pub table : WellFormed T
  pub left : ValueNode T a
  pub right : ValueNode T b

-- k items from child entry `at` on, as values
abbrev pub values_from : Tables → ℕ → ℕ → Values
values_from T at k = values_of (items (expr T) T.children at k)

-- items of two arrays, those of the first below `parent`
pub record SameItemsAsks (T : Tables) (parent at from left : ℕ) : Type 0 where
  pub table : WellFormed T
  pub lefts : (i : ℕ) → i < left → ValueNode T (child_at T.children (at + i)) × (child_at T.children (at + i) < parent)
  pub rights : (i : ℕ) → i < left → ValueNode T (child_at T.children (from + i))
  pub left_small : at + left ≤ 512
  pub right_small : from + left ≤ 512

-- two objects of as many fields
pub record SameFieldsAsks (T : Tables) (a b : ℕ) : Type 0 where
  pub both : SameAsks T a b
  pub left_object : kind_of T.nodes a ≡ 9
  pub right_object : kind_of T.nodes b ≡ 9
