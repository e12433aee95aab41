-- What the functions of the code ask of their callers and say.
use Rattle.std.specs.Prelude.{ℕ, ◌≤◌, ◌<◌, ◌≡◌, Bool, true, false, cond, Some, None, Result, Ok, Err, List, eqb}
use Rattle.std.specs.Prelude as Prelude
use Rattle.std.proofs.Math.Option.{Option, none, some}
use Rattle.base.specs.Lent.{MutSlices, old, new}
use Rattle.literal.specs.Literal.{Literal}
use Rattle.literal.specs.Order.{key_order}
use Rattle.table.specs.Tables.{Tables, kind_of, first_word_of, count_of}
use Rattle.table.specs.Decode.{expr, items, fields_of, literal_at}
use Rattle.table.specs.code.Sound.{Node, WellFormed}
use Rattle.planner.specs.Layout.{Slot}
use Rattle.planner.specs.Simple.{has_key, keys_of, simple}
use Rattle.value.specs.Value.{value_of, values_of, value_fields_of, same}
use Rattle.value.specs.code.Post.{under_in, KeyedObject, ValueNode}
use Rattle.matching.specs.Matching.{Env}
use Rattle.matching.specs.code.Post.{env_of, ListOk}
use Rattle.first_miss.specs.declared.Why.{Why}
use Rattle.first_miss.specs.declared.Miss.{Miss}
use Rattle.first_miss.specs.declared.Why.TheVariants.{LiteralDiffers, NoArray, OtherLength, NoObject, KeyMissing, KeyTooMany}
use Rattle.first_miss.specs.Miss.{MissOutcome, matched, missed, slot, is_less, lesser, missing_key, other_key}
use Rattle.first_miss.specs.Operations.{key_at}
use Rattle.first_miss.specs.code.Walk.{slots_of, walk, walk_items, walk_fields}

-- 1. Keys
abbrev pub comes_before : Option Literal → Option Literal → Bool
comes_before none b = false
comes_before (some a) none = false
comes_before (some a) (some b) = is_less (key_order a b)

abbrev pub slot_by : ℕ → Option Literal → Option (Slot ℕ)
slot_by n none = none
slot_by n (some l) = some (slot l n)

-- the key at a node, if there is one
abbrev pub slot_at : Tables → Prelude.Option ℕ → Option (Slot ℕ)
slot_at T None = none
slot_at T (Some n) = slot_by n (literal_at T n)

-- a node of a literal
pub record IsKey (T : Tables) (n : ℕ) : Type 0 where
  pub key : Literal
  pub is : literal_at T n ≡ some key
  pub low : 1 ≤ n

-- the least key so far, and one that is looked for in an object
pub record LesserAsks (T : Tables) (object key : ℕ) (least : Prelude.Option ℕ) : Type 0 where
  pub keyed : KeyedObject T object
  pub key_ok : IsKey T key
  pub least_ok : (n : ℕ) → least ≡ Some n → IsKey T n

abbrev pub keys_at : Tables → ℕ → List Literal
keys_at T n = keys_of (fields_of T n)

pub record LesserTold (T : Tables) (object key : ℕ) (least r : Prelude.Option ℕ) : Type 0 where
  pub is : (l : Literal) → literal_at T key ≡ some l → slot_at T r ≡ cond (has_key l (keys_at T object)) (slot_at T least) (some (lesser (slot l key) (slot_at T least)))
  pub ok : (n : ℕ) → r ≡ Some n → IsKey T n

pub record MissingTold (T : Tables) (a b : ℕ) (r : Prelude.Option ℕ) : Type 0 where
  pub is : slot_at T r ≡ missing_key (keys_at T b) (slots_of (fields_of T a))
  pub ok : (n : ℕ) → r ≡ Some n → IsKey T n

-- the node of a key by its number in an object
abbrev pub key_in : Tables → ℕ → Option ℕ → Prelude.Option ℕ
key_in T n none = None
key_in T n (some i) = Some (key_at T n i)

-- 2. What a part comes to without names
abbrev pub missed_by : Why → ℕ → ℕ → Result Unit Miss
missed_by why value pattern = Err (record { why = why; value = value; pattern = pattern })

abbrev pub literal_walked : Tables → ℕ → ℕ → Result Unit Miss
literal_walked T a b = cond (same (value_of (expr T a)) (value_of (expr T b))) (Ok tt) (missed_by LiteralDiffers b a)

-- an array of the pattern and a value
abbrev pub array_walked : List ℕ → ℕ → ℕ → Result Unit Miss
array_walked nodes a b = cond (eqb (kind_of nodes b) 7) (cond (eqb (count_of nodes b) (count_of nodes a)) (Ok tt) (missed_by OtherLength b a)) (missed_by NoArray b a)

abbrev pub keys_walked : Tables → ℕ → ℕ → Option (Slot ℕ) → Option ℕ → Result Unit Miss
keys_walked T a b (some k) i = missed_by KeyMissing b k.held
keys_walked T a b none (some i) = missed_by KeyTooMany (key_at T b i) a
keys_walked T a b none none = Ok tt

-- an object of the pattern and a value
pub record ObjectTold (T : Tables) (a b : ℕ) (r : Result Unit Miss) : Type 0 where
  pub is : r ≡ cond (eqb (kind_of T.nodes b) 9) (keys_walked T a b (missing_key (keys_at T b) (slots_of (fields_of T a))) (other_key (keys_at T a) 0 (keys_at T b))) (missed_by NoObject b a)

-- 3. The walk: a pattern's node, a value's node, and in `list` the nodes of the names' values
pub record PairAsks (T : Tables) (a b : ℕ) : Type 0 where
  pub table : WellFormed T
  pub node : Node T a
  pub is_simple : simple (expr T a) ≡ true
  pub value_ok : ValueNode T b

pub record LiteralAsks (T : Tables) (a b : ℕ) : Type 0 where
  pub pair : PairAsks T a b
  pub literal : kind_of T.nodes a ≤ 5

pub record ObjectAsks (T : Tables) (a b : ℕ) : Type 0 where
  pub pair : PairAsks T a b
  pub object : kind_of T.nodes a ≡ 9

pub record WalkAsks (T : Tables) (a b : ℕ) (list : List ℕ) : Type 0 where
  pub pair : PairAsks T a b
  pub list_ok : ListOk T list

pub record NameAsks (T : Tables) (a b : ℕ) (list : List ℕ) : Type 0 where
  pub asks : WalkAsks T a b list
  pub named : kind_of T.nodes a ≡ 6

-- arrays of one length
pub record ItemsAsks (T : Tables) (a b : ℕ) (list : List ℕ) : Type 0 where
  pub asks : WalkAsks T a b list
  pub left_array : kind_of T.nodes a ≡ 7
  pub right_array : kind_of T.nodes b ≡ 7
  pub even : count_of T.nodes b ≡ count_of T.nodes a

-- objects, the first one's keys all in the second
pub record FieldsAsks (T : Tables) (a b : ℕ) (list : List ℕ) : Type 0 where
  pub asks : WalkAsks T a b list
  pub left_object : kind_of T.nodes a ≡ 9
  pub right_object : kind_of T.nodes b ≡ 9
  pub covered : (i : ℕ) → i < count_of T.nodes a → under_in T b (key_at T a i) ≡ 0 → ⊥

abbrev pub outcome_in : Tables → List ℕ → Result Unit Miss → MissOutcome
outcome_in T list (Ok done) = matched (env_of T list)
outcome_in T list (Err m) = missed m

-- after a miss the list is free: working space of values' nodes
pub record Came (T : Tables) (o : MissOutcome) (list : List ℕ) (r : Result Unit Miss) : Type 0 where
  pub is : o ≡ outcome_in T list r
  pub list_ok : ListOk T list

abbrev pub walk_nodes : Tables → ℕ → ℕ → Env → MissOutcome
walk_nodes T a b env = walk (key_at T) (expr T a) (value_of (expr T b)) env

abbrev pub walk_listed : Tables → ℕ → ℕ → Env → MissOutcome
walk_listed T a b env =
    walk_items (key_at T) a b (items (expr T) T.children (first_word_of T.nodes a) (count_of T.nodes a)) (values_of (items (expr T) T.children (first_word_of T.nodes b) (count_of T.nodes b))) env

abbrev pub walk_under : Tables → ℕ → ℕ → Env → MissOutcome
walk_under T a b env = walk_fields (key_at T) b (fields_of T a) (value_fields_of (fields_of T b)) env

-- the same of a list that is lent, at entry and at exit
abbrev pub CameIn : MutSlices → Tables → (Env → MissOutcome) → Result Unit Miss → Type 0
CameIn list T f r = Came T (f (env_of T (old list))) (new list) r
