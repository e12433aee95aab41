-- What the functions that carry a plan out ask of their caller and say.
use Rattle.std.specs.Prelude.{ℕ, ◌+◌, ◌-◌, ◌*◌, ◌≤◌, ◌<◌, ◌≡◌, Bool, true, false, cond, Result, Ok, Err, List, [], ◌++◌, eqb, length, get_or, replicate}
use Rattle.std.proofs.Math.Option.{none}
use Rattle.base.specs.Lent.{MutSlices}
use Rattle.table.specs.Tables.{Tables, kind_of, first_word_of, count_of}
use Rattle.table.specs.Expr.{depth}
use Rattle.table.specs.Decode.{expr}
use Rattle.base.specs.Lists.{tabulate}
use Rattle.table.specs.code.Sound.{Node, WellFormed}
use Rattle.planner.specs.Plan.{plan}
use Rattle.planner.specs.Layout.{Entry, Place, top, entry_words, entries}
use Rattle.planner.specs.Entries.{read_entries}
use Rattle.planner.specs.code.Post.{pattern_words, NameNumber, Laid}
use Rattle.planner.specs.Simple.{simple}
use Rattle.value.specs.Value.{Value, value_of, value_at, node_in}
use Rattle.value.specs.code.Post.{ValueNode}
use Rattle.matching.specs.Matching.{Env, MatchOutcome, matched, missed, fault, run}
use Rattle.matching.specs.Reading.{PlacedPlan, standing, run_entries}
use Rattle.matching.specs.code.Linking.{children_of, Linked}

abbrev pub node_at : List ℕ → ℕ → ℕ
node_at scratch at = get_or scratch (at * entry_words + 1) 0

-- `list` has for each name number the node of its value, or 0
abbrev pub env_of : Tables → List ℕ → Env
env_of T list x = cond (eqb x 0) none (value_at T (get_or list (x - 1) 0))

pub record ListOk (T : Tables) (list : List ℕ) : Type 0 where
  pub long : length list ≡ 128
  pub each : (i : ℕ) → (get_or list i 0 ≡ 0 → ⊥) → ValueNode T (get_or list i 0)

-- carrying out the entries of a scratch from entry `at` on, on a value node, from the values in a list
unfoldable pub run_at : Tables → List ℕ → ℕ → ℕ → List ℕ → MatchOutcome
run_at T scratch at value list = run_entries (expr T) (read_entries scratch at (512 - at)) (value_of (expr T value)) (env_of T list)

-- the entries of a plan stand from entry `at` on, among the first `size`
pub record StandsAt (scratch : List ℕ) (size at : ℕ) (t : PlacedPlan) : Type 0 where
  pub behind : List Entry
  pub read : read_entries scratch at (size - at) ≡ entries t.plan t.place ++ behind

-- The plan of a simple pattern, after the names that are planned before it, stands at entry `at` of `size` entries whose children are linked;
-- `rest` levels of depth are left.
pub record EntryAsks (T : Tables) (scratch starts links : List ℕ) (at value rest : ℕ) (list : List ℕ) : Type 0 where
  pub inside : at < 512
  pub table : WellFormed T
  pub size : ℕ
  pub few : size ≤ 512
  pub linked : Linked scratch size starts links
  pub unbound : ℕ → Bool
  pub seen : List ℕ
  pub place : Place
  pub stands : StandsAt scratch size at (standing (plan unbound (expr T (node_at scratch at)) seen) place)
  pub node : Node T (node_at scratch at)
  pub is_simple : simple (expr T (node_at scratch at)) ≡ true
  pub deep : depth (expr T (node_at scratch at)) ≤ rest
  pub value_ok : ValueNode T value
  pub list_ok : ListOk T list
  pub no_fault : run_at T scratch at value list ≡ fault → ⊥

-- an array or an object, by the kind of its node, with so many children
pub record PartsAsks (kind : ℕ) (T : Tables) (scratch starts links : List ℕ) (at count value rest : ℕ) (list : List ℕ) : Type 0 where
  pub asks : EntryAsks T scratch starts links at value (rest + 1) list
  pub kind_is : kind_of T.nodes (node_at scratch at) ≡ kind
  pub linked_count : count ≡ children_of scratch at
  pub counted : count ≡ count_of T.nodes (node_at scratch at)

abbrev pub ItemsAsks : Tables → List ℕ → List ℕ → List ℕ → ℕ → ℕ → ℕ → ℕ → List ℕ → Type 0
ItemsAsks = PartsAsks 7

abbrev pub FieldsAsks : Tables → List ℕ → List ℕ → List ℕ → ℕ → ℕ → ℕ → ℕ → List ℕ → Type 0
FieldsAsks = PartsAsks 9

-- What it came to: the list of the names' values, or a miss. After a miss the list is free: working space of values' nodes.
pub record Came (T : Tables) (o : MatchOutcome) (after : List ℕ) (r : Bool) : Type 0 where
  pub hit : r ≡ true → o ≡ matched (env_of T after)
  pub miss : r ≡ false → o ≡ missed
  pub list_ok : ListOk T after

-- the same of a `&mut` list, at entry and at exit
abbrev pub CameIn : MutSlices → Tables → List ℕ → ℕ → ℕ → Bool → Type 0
CameIn list T scratch at value r = Came T (run_at T scratch at value list.entry.now) list.exit.now r

-- the value that the list has for the name at a node
abbrev pub held_value : Tables → List ℕ → ℕ → Value
held_value T list n = value_of (expr T (get_or list (first_word_of T.nodes n - 1) 0))

-- a name's node, whose value is compared with another
pub record CompareAsks (T : Tables) (list : List ℕ) (n value : ℕ) : Type 0 where
  pub table : WellFormed T
  pub name : NameNumber (first_word_of T.nodes n)
  pub held : ValueNode T (get_or list (first_word_of T.nodes n - 1) 0)
  pub value_ok : ValueNode T value

-- the plan of a simple pattern, from no names, stands first in the scratch
pub record PlanIn (T : Tables) (unbound : ℕ → Bool) (root : ℕ) (scratch : List ℕ) (count : ℕ) : Type 0 where
  pub node : Node T root
  pub is_simple : simple (expr T root) ≡ true
  pub laid : Laid (replicate pattern_words 0) 0 (entries (plan unbound (expr T root) []) top) scratch count

pub record PatternAsks (T : Tables) (scratch : List ℕ) (count value : ℕ) (list : List ℕ) : Type 0 where
  pub table : WellFormed T
  pub unbound : ℕ → Bool
  pub root : ℕ
  pub planned : PlanIn T unbound root scratch count
  pub deep : depth (expr T root) ≤ 32
  pub value_ok : ValueNode T value
  pub list_ok : ListOk T list
  pub no_fault : run (plan unbound (expr T root) []) (value_of (expr T value)) (env_of T list) ≡ fault → ⊥

-- the nodes of the names' values after a match; without one those at the start
abbrev pub names_after : MatchOutcome → List ℕ → Result (List ℕ) (List ℕ)
names_after (matched env) start = Ok (tabulate (λ i. node_in (env (i + 1))) 0 128)
names_after missed start = Err start
names_after fault start = Err start

-- whatever pattern the entries are the plan of
pub record PatternCame (T : Tables) (scratch : List ℕ) (count value : ℕ) (start : List ℕ) (r : Result (List ℕ) (List ℕ)) : Type 0 where
  pub each : (unbound : ℕ → Bool) (root : ℕ) → PlanIn T unbound root scratch count → r ≡ names_after (run (plan unbound (expr T root) []) (value_of (expr T value)) (env_of T start)) start
