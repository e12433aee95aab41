-- What the functions on classes ask of their caller and say. The arrays are read by node or label itself: place 0 is not used.
use Rattle.std.specs.Prelude.{ℕ, ◌+◌, ◌-◌, ◌*◌, ◌/◌, ◌≤◌, ◌<◌, ◌≡◌, Bool, true, false, cond, ◌&&◌, List, eqb, length, get_or}
use Rattle.std.proofs.Math.Option.{Option, none, some}
use Rattle.std.specs.Borrow.{MutBor}
use denote.Triple.Both.{Both}
use Rattle.base.specs.Lent.{MutSlices, old, new}
use Rattle.base.specs.Lists.{all_from}
use Rattle.scope.specs.declared.Scope.{Scope}
use Rattle.scope.specs.declared.ScopingMode.{ScopingMode}
use Rattle.scope.specs.Scope.{is_unbound}
use Rattle.table.specs.Names.{class_of}
use Rattle.planner.specs.Layout.{top, entry_words, entries}
use Rattle.planner.specs.Operations.{plan_of}
use Rattle.planner.specs.Names.{state_by}
use Rattle.matching.specs.Matching.{matched}
use Rattle.run.specs.code.Post.{RunAsks}
use Rattle.tolerance.specs.declared.ToleranceAnswer.{ToleranceAnswer}
use Rattle.tolerance.specs.declared.ToleranceAnswer.TheVariants.{Always, Sometimes, Never}
use Rattle.tolerance.specs.declared.number.Number.{Number as StoredNumber}
use Rattle.tolerance.specs.declared.number.Range.{Range as StoredRange}
use Rattle.tolerance.specs.Operations.{range_ok, long_enough, listed_known, known_values, ranges_ok}
use Rattle.table.specs.Tables.{Tables, record_word, kind_of, first_word_of, count_of, name_bytes}
use Rattle.table.specs.Decode.{expr, items, fields_of}
use Rattle.table.specs.code.Sound.{Node, WellFormed}
use Rattle.planner.specs.Simple.{admitted}
use Rattle.value.specs.Value.{value_of, values_of, value_fields_of, value_at}
use Rattle.value.specs.code.Post.{ValueNode}
use Rattle.matching.specs.code.Post.{env_of, ListOk}
use Rattle.tolerance.specs.Tolerance.{Number, num, num_order, at_most, Ranges, Answer, always, sometimes, never}
use Rattle.tolerance.specs.code.Classes.{Equality, Classes, equal, larger, smaller, joined, node_of, open?, unified, is_some}
use Rattle.tolerance.specs.code.Decision.{Conditions, every_number, every_number_of, walked, decision}
use Rattle.tolerance.specs.code.Meeting.{Held, held, conditions_of, meets, meets_items, meets_fields}

abbrev pub label_in : List ℕ → ℕ → ℕ
label_in labels n = get_or labels n 0

-- the number that two words say
abbrev pub number_of : StoredNumber → Number
number_of m = num (eqb m.sign 1) m.size

-- number i of a list
abbrev pub number_in : List ℕ → ℕ → StoredNumber
number_in words i = record { sign = get_or words (i * 2) 0; size = get_or words (i * 2 + 1) 0 }

abbrev pub is_open : StoredRange → Bool
is_open r = at_most num_order (number_of r.low) (number_of r.high)

abbrev pub is_single : StoredRange → Bool
is_single r = equal num_order (number_of r.low) (number_of r.high)

abbrev pub same_ends : StoredRange → StoredRange → Bool
same_ends r s = equal num_order (number_of r.low) (number_of s.low) && equal num_order (number_of r.high) (number_of s.high)

-- what both ranges have
pub record Narrowed (r s left : StoredRange) : Type 0 where
  pub low : number_of left.low ≡ larger num_order (number_of r.low) (number_of s.low)
  pub high : number_of left.high ≡ smaller num_order (number_of r.high) (number_of s.high)

abbrev pub zero_range : StoredRange
zero_range = record { low = record { sign = 0; size = 0 }; high = record { sign = 0; size = 0 } }

abbrev pub low_in : List StoredRange → ℕ → Number
low_in ranges k = number_of (get_or ranges k zero_range).low

abbrev pub high_in : List StoredRange → ℕ → Number
high_in ranges k = number_of (get_or ranges k zero_range).high

-- labels of nodes, and ranges of labels
abbrev pub Stored : Type 0
Stored = List ℕ × List StoredRange

abbrev pub classes_in : Stored → Classes num_order
classes_in c = record { label = label_in c.0; low = low_in c.1; high = high_in c.1 }

-- labels of 512 nodes, each from 1 to 512
pub record LabelsOk (labels : List ℕ) : Type 0 where
  pub long : length labels ≡ 513
  pub zero : label_in labels 0 ≡ 0
  pub low : (n : ℕ) → 1 ≤ n → n ≤ 512 → 1 ≤ label_in labels n
  pub high : (n : ℕ) → label_in labels n ≤ 512

pub record NodeNumber (n : ℕ) : Type 0 where
  pub low : 1 ≤ n
  pub high : n ≤ 512

pub record RelabelAsks (labels : List ℕ) (to from : ℕ) : Type 0 where
  pub labels_ok : LabelsOk labels
  pub to_ok : NodeNumber to
  pub from_ok : NodeNumber from

pub record Relabelled (before : List ℕ) (to from : ℕ) (after : List ℕ) : Type 0 where
  pub labels_ok : LabelsOk after
  pub each : (n : ℕ) → label_in after n ≡ cond (eqb (label_in before n) from) to (label_in before n)

pub record ClassesOk (labels : List ℕ) (ranges : List StoredRange) : Type 0 where
  pub labels_ok : LabelsOk labels
  pub ranges_long : length ranges ≡ 513

-- the classes after an equality, and whether its class has a number left
pub record Joined (q : Equality Number) (before after : Classes num_order) (r : Bool) : Type 0 where
  pub classes : after ≡ joined num_order q before
  pub left : r ≡ open? num_order (node_of num_order q) (joined num_order q before)

-- Can the conditions all hold, and what classes are left if so?
pub record Equated (q : Conditions) (before after : Classes num_order) (r : Bool) : Type 0 where
  pub is : r ≡ (q.rest && is_some (unified num_order q.numbers before))
  pub classes : r ≡ true → unified num_order q.numbers before ≡ some after

pub record LiteralAsks (T : Tables) (a b : ℕ) : Type 0 where
  pub table : WellFormed T
  pub node : Node T a
  pub literal : kind_of T.nodes a ≤ 5
  pub value_ok : ValueNode T b

-- a pattern's node, or a value's, and a value's node; `list` has the nodes of the names' values
pub record MeetAsks (T : Tables) (pattern : Bool) (a b : ℕ) (list : List ℕ) : Type 0 where
  pub table : WellFormed T
  pub node : Node T a
  pub admits : admitted pattern (expr T a) ≡ true
  pub value_ok : ValueNode T b
  pub list_ok : ListOk T list

pub record NameAsks (T : Tables) (a b : ℕ) (list : List ℕ) : Type 0 where
  pub asks : MeetAsks T true a b list
  pub kind_is : kind_of T.nodes a ≡ 6

-- two arrays of as many items
pub record MeetItemsAsks (T : Tables) (pattern : Bool) (a b : ℕ) (list : List ℕ) : Type 0 where
  pub asks : MeetAsks T pattern a b list
  pub left_array : kind_of T.nodes a ≡ 7
  pub right_array : kind_of T.nodes b ≡ 7
  pub even : count_of T.nodes b ≡ count_of T.nodes a

-- two objects of as many fields
pub record MeetFieldsAsks (T : Tables) (pattern : Bool) (a b : ℕ) (list : List ℕ) : Type 0 where
  pub asks : MeetAsks T pattern a b list
  pub left_object : kind_of T.nodes a ≡ 9
  pub right_object : kind_of T.nodes b ≡ 9

abbrev pub held_in : Tables → List ℕ → Classes num_order → Held
held_in T list classes = held classes (env_of T list)

-- what is held afterwards; after a miss list and classes are free: working space
pub record Met (T : Tables) (o : Option Held) (list : List ℕ) (classes : Classes num_order) (r : Bool) : Type 0 where
  pub hit : r ≡ true → o ≡ some (held_in T list classes)
  pub miss : r ≡ false → o ≡ none
  pub list_ok : ListOk T list

abbrev pub conditions_at : Tables → Bool → ℕ → ℕ → Conditions
conditions_at T pattern a b = conditions_of pattern (expr T a) (value_of (expr T b))

abbrev pub meets_nodes : Tables → Bool → ℕ → ℕ → Held → Option Held
meets_nodes T pattern a b h = meets pattern (expr T a) (value_of (expr T b)) h

abbrev pub meets_listed : Tables → Bool → ℕ → ℕ → ℕ → Held → Option Held
meets_listed T pattern at from left h = meets_items pattern (items (expr T) T.children at left) (values_of (items (expr T) T.children from left)) h

abbrev pub meets_array : Tables → Bool → ℕ → ℕ → Held → Option Held
meets_array T pattern a b h = meets_listed T pattern (first_word_of T.nodes a) (first_word_of T.nodes b) (count_of T.nodes a) h

abbrev pub meets_under : Tables → Bool → ℕ → ℕ → Held → Option Held
meets_under T pattern a b h = meets_fields pattern (fields_of T a) (value_fields_of (fields_of T b)) h

-- the same of what is lent, at entry and at exit
abbrev pub MutClasses : Type 0
MutClasses = Both (MutBor Stored) (MutBor Stored)

abbrev pub EquatedIn : MutClasses → Conditions → Bool → Type 0
EquatedIn classes q r = Equated q (classes_in classes.entry.now) (classes_in classes.exit.now) r

abbrev pub MetIn : MutSlices → MutClasses → Tables → (Held → Option Held) → Bool → Type 0
MetIn list classes T f r = Met T (f (held_in T (old list) (classes_in classes.entry.now))) (new list) (classes_in classes.exit.now) r

-- the ranges at the start, by node
abbrev pub ranges_by : List StoredRange → Ranges Number
ranges_by ranges = record { lowest = low_in ranges; highest = high_in ranges }

-- each node's label is its own number
pub record OwnLabels (labels : List ℕ) : Type 0 where
  pub labels_ok : LabelsOk labels
  pub each : (n : ℕ) → n ≤ 512 → label_in labels n ≡ n

-- each node is a class of its own, with its range
pub record Apart (ranges : List StoredRange) (c : Stored) : Type 0 where
  pub labels : List ℕ
  pub own : OwnLabels labels
  pub is : c ≡ (labels, ranges)

-- a node's numbers in the lists
abbrev pub number_at : List ℕ → ℕ → StoredNumber
number_at words n = record { sign = record_word 2 0 words n; size = record_word 2 1 words n }

abbrev pub range_at : List ℕ → List ℕ → ℕ → StoredRange
range_at lows highs n = record { low = number_at lows n; high = number_at highs n }

-- each node's range, zero where it is none
abbrev pub first_range : List ℕ → List ℕ → ℕ → StoredRange
first_range lows highs n = cond (range_ok lows highs n) (range_at lows highs n) zero_range

pub record FirstRanges (lows highs : List ℕ) (ranges : List StoredRange) : Type 0 where
  pub long : length ranges ≡ 513
  pub each : (n : ℕ) → n ≤ 512 → get_or ranges n zero_range ≡ first_range lows highs n

-- 32 by the values
abbrev pub numbers_ok : Tables → List ℕ → List ℕ → ℕ → Bool
numbers_ok T lows highs n = every_number (range_ok lows highs) (value_of (expr T n))

abbrev pub numbers_ok_in : Tables → List ℕ → List ℕ → List ℕ → ℕ → Bool
numbers_ok_in T lows highs list i = every_number_of (range_ok lows highs) (value_at T (get_or list i 0))

unfoldable pub given_ok : Tables → ℕ → List ℕ → List ℕ → List ℕ → Bool
given_ok T value lows highs list =
    long_enough T lows && (long_enough T highs && (numbers_ok T lows highs value && all_from (numbers_ok_in T lows highs list) 0 128))

pub record RangesAsks (T : Tables) (n : ℕ) : Type 0 where
  pub table : WellFormed T
  pub value_ok : ValueNode T n

pub record ListedAsks (T : Tables) (list : List ℕ) (i : ℕ) : Type 0 where
  pub table : WellFormed T
  pub list_ok : ListOk T list
  pub inside : i < 128

pub record NamesAsks (T : Tables) (list : List ℕ) : Type 0 where
  pub table : WellFormed T
  pub list_ok : ListOk T list

pub record GivenAsks (T : Tables) (value : ℕ) (list : List ℕ) : Type 0 where
  pub table : WellFormed T
  pub value_ok : ValueNode T value
  pub list_ok : ListOk T list

-- known names have their listed values, others and `_` none
pub record KnownList (names text : List ℕ) (s : Scope) (mode : ScopingMode) (values list : List ℕ) : Type 0 where
  pub long : length list ≡ 128
  pub each : (x : ℕ) → 1 ≤ x → x ≤ length names / 2
      → get_or list (x - 1) 0 ≡ cond (eqb (state_by (class_of (name_bytes names text x)) (is_unbound s mode x)) 0) (get_or values (x - 1) 0) 0
  pub rest : (i : ℕ) → length names / 2 ≤ i → get_or list i 0 ≡ 0

-- the names that have a value get its node
pub record ListSet (count : ℕ) (list before after : List ℕ) : Type 0 where
  pub long : length after ≡ length before
  pub each : (i : ℕ) → i < count → get_or after i 0 ≡ cond (eqb (get_or list i 0) 0) (get_or before i 0) (get_or list i 0)
  pub rest : (i : ℕ) → count ≤ i → get_or after i 0 ≡ get_or before i 0

-- a run that nothing up to 32 refuses; the list has the known names' values
pub record Judging (T : Tables) (s : Scope) (mode : ScopingMode) (pattern value : ℕ) (values lows highs list : List ℕ) : Type 0 where
  pub asks : RunAsks T s mode pattern value values
  pub ranges : ranges_ok T s mode value values lows highs ≡ true
  pub begins : env_of T list ≡ known_values T s mode values

pub record DecideAsks (T : Tables) (pattern value : ℕ) (list : List ℕ) : Type 0 where
  pub table : WellFormed T
  pub node : Node T pattern
  pub is_simple : admitted true (expr T pattern) ≡ true
  pub value_ok : ValueNode T value
  pub list_ok : ListOk T list

abbrev pub answer_named : Answer → ToleranceAnswer
answer_named always = Always
answer_named sometimes = Sometimes
answer_named never = Never

-- the answer, whatever run it is of; where it is always the list has the names' values at the end
pub record Decided (T : Tables) (lows highs : List ℕ) (pattern value : ℕ) (before after : List ℕ) (r : ToleranceAnswer) : Type 0 where
  pub list_ok : ListOk T after
  pub each : (s : Scope) (mode : ScopingMode) (values : List ℕ) → Judging T s mode pattern value values lows highs before
      → (r ≡ answer_named (decision T s mode pattern value values lows highs))
      × (r ≡ Always → (walked (is_unbound s mode) (listed_known T values) (expr T pattern) (value_of (expr T value))).end ≡ matched (env_of T after))

abbrev pub DecidedIn : MutSlices → Tables → List ℕ → List ℕ → ℕ → ℕ → ToleranceAnswer → Type 0
DecidedIn list T lows highs pattern value r = Decided T lows highs pattern value (old list) (new list) r

pub record ToJudge (T : Tables) (s : Scope) (mode : ScopingMode) (pattern value : ℕ) (values lows highs list buffer : List ℕ) : Type 0 where
  pub judging : Judging T s mode pattern value values lows highs list
  pub list_ok : ListOk T list
  pub fits : length (entries (plan_of T s mode pattern) top) ≤ length buffer / entry_words
