-- The operation: what is checked, what is answered, and what is written.
use Rattle.std.specs.Prelude.{ℕ, zero, suc, ◌+◌, ◌-◌, ◌*◌, ◌/◌, Bool, true, false, cond, ◌&&◌, List, [], ◌∷◌, ◌++◌, eqb, leb, length, replicate}
use Rattle.std.proofs.Math.Option.{Option, none, some}
use Rattle.literal.specs.Literal.{Literal}
use Rattle.base.specs.Refusal.{Refusal, value_too_large, list_too_short, pattern_not_simple, not_a_value, name_without_value, Tested, passed, require, tested_or}
use Rattle.base.specs.Refusal as Refusal
use Rattle.scope.specs.declared.Scope.{Scope}
use Rattle.scope.specs.declared.ScopingMode.{ScopingMode}
use Rattle.scope.specs.Scope.{is_unbound, known}
use Rattle.table.specs.Tables.{Tables, tables, kind_of, first_word_of, count_of, node_count, name_count, is_node}
use Rattle.table.specs.Expr.{Expr, other}
use Rattle.table.specs.Decode.{expr, literal_at}
use Rattle.table.specs.Check.{checked_or}
use Rattle.planner.specs.Simple.{same_key, simple}
use Rattle.value.specs.Value.{Value, literalᵛ, arrayᵛ, objectᵛ, Values, noneᵛ, itemᵛ, ValueFields, doneᵛ, fieldᵛ}
use Rattle.run.specs.Operations.{listed_node, in_table, values_listed, known_listed}
use Rattle.common_example.specs.Overlap.{Template, example, size, depthᵛ}
use Rattle.common_example.specs.Places.{overlap}

-- 1. A side: a pattern with the scope and the values of its own names.
pub record PatternSide : Type 0 where
  pub scope : Scope
  pub scoping : ScopingMode
  pub pattern : ℕ
  pub values : List ℕ

abbrev pub unbound_in : PatternSide → ℕ → Bool
unbound_in s = is_unbound s.scope s.scoping

abbrev pub known_in : PatternSide → ℕ → Bool
known_in s = known s.scope s.scoping

-- the node of a known name's value
abbrev pub held_if : Bool → Bool → Bool → ℕ → Option ℕ
held_if true named unlisted m = none
held_if false false unlisted m = none
held_if false true true m = none
held_if false true false m = some m

abbrev pub held_by_side : Tables → PatternSide → ℕ → Option ℕ
held_by_side T s x = held_if (unbound_in s x) (in_table T x) (eqb (listed_node s.values x) 0) (listed_node s.values x)

-- 2. The checks of a run, to 23, of one side. There is no value yet: 5 looks at the pattern, 22 at the list.
unfoldable pub side_checked : Tables → PatternSide → Tested
side_checked T s =
    checked_or Refusal.refused T s.scope (s.pattern ∷ [])
    (require (leb (name_count T) (length s.values)) list_too_short
    (require (simple (expr T s.pattern)) pattern_not_simple
    (require (values_listed T s.values) not_a_value
    (require (known_listed T (known_in s) (expr T s.pattern) s.values) name_without_value
    passed))))

-- 3. The value as it is written.

-- how many child entries a value has: one for each node but the top one
unfoldable mutual
  pub child_entries : Value → ℕ
  child_entries (literalᵛ n l) = 0
  child_entries (arrayᵛ n vs) = child_entries_all vs + count_items_lem vs
  child_entries (objectᵛ n fs) = child_entries_fields fs + count_fieldsᵛ fs * 2

  pub child_entries_all : Values → ℕ
  child_entries_all noneᵛ = 0
  child_entries_all (itemᵛ v vs) = child_entries v + child_entries_all vs

  pub child_entries_fields : ValueFields → ℕ
  child_entries_fields doneᵛ = 0
  child_entries_fields (fieldᵛ k v fs) = child_entries v + child_entries_fields fs

  pub count_items_lem : Values → ℕ
  count_items_lem noneᵛ = 0
  count_items_lem (itemᵛ v vs) = 1 + count_items_lem vs

  pub count_fieldsᵛ : ValueFields → ℕ
  count_fieldsᵛ doneᵛ = 0
  count_fieldsᵛ (fieldᵛ k v fs) = 1 + count_fieldsᵛ fs

module _ (T : Tables) where
  -- the lowest-numbered literal node, of k nodes from n on, that is equal to a literal
  abbrev pub is_like : Literal → Option Literal → Bool
  is_like l none = false
  is_like l (some k) = same_key l k

  unfoldable pub node_like : Literal → ℕ → ℕ → Option ℕ
  node_like l n zero = none
  node_like l n (suc k) = cond (is_like l (literal_at T n)) (some n) (node_like l (n + 1) k)

  -- its kind, first and count, with start and end 0; null, which may stand at no node, is the same wherever it stands
  abbrev pub words_like : Option ℕ → List ℕ
  words_like none = 5 ∷ (0 ∷ (0 ∷ (0 ∷ (0 ∷ []))))
  words_like (some n) = kind_of T.nodes n ∷ (0 ∷ (0 ∷ (first_word_of T.nodes n ∷ (count_of T.nodes n ∷ []))))

  unfoldable pub literal_words : Literal → List ℕ
  literal_words l = words_like (node_like l 1 (node_count T))

  -- the nodes of a value, children before parents; `place` child entries stand before
  unfoldable mutual
    pub node_words : Value → ℕ → List ℕ
    node_words (literalᵛ n l) place = literal_words l
    node_words (arrayᵛ n vs) place = node_words_all vs place ++ (7 ∷ (0 ∷ (0 ∷ ((place + child_entries_all vs) ∷ (count_items_lem vs ∷ [])))))
    node_words (objectᵛ n fs) place = node_words_fields fs place ++ (9 ∷ (0 ∷ (0 ∷ ((place + child_entries_fields fs) ∷ (count_fieldsᵛ fs ∷ [])))))

    pub node_words_all : Values → ℕ → List ℕ
    node_words_all noneᵛ place = []
    node_words_all (itemᵛ v vs) place = node_words v place ++ node_words_all vs (place + child_entries v)

    -- key, then value
    pub node_words_fields : ValueFields → ℕ → List ℕ
    node_words_fields doneᵛ place = []
    node_words_fields (fieldᵛ k v fs) place = literal_words k ++ (node_words v place ++ node_words_fields fs (place + child_entries v))

-- the child entries, parents in node order; `before` nodes stand before, so a value's own node is number before + size
unfoldable mutual
  pub child_words_lem : Value → ℕ → List ℕ
  child_words_lem (literalᵛ n l) before = []
  child_words_lem (arrayᵛ n vs) before = child_words_all vs before ++ item_nodes vs before
  child_words_lem (objectᵛ n fs) before = child_words_fields fs before ++ field_nodes fs before

  pub child_words_all : Values → ℕ → List ℕ
  child_words_all noneᵛ before = []
  child_words_all (itemᵛ v vs) before = child_words_lem v before ++ child_words_all vs (before + size v)

  pub child_words_fields : ValueFields → ℕ → List ℕ
  child_words_fields doneᵛ before = []
  child_words_fields (fieldᵛ k v fs) before = child_words_lem v (before + 1) ++ child_words_fields fs (before + 1 + size v)

  pub item_nodes : Values → ℕ → List ℕ
  item_nodes noneᵛ before = []
  item_nodes (itemᵛ v vs) before = (before + size v) ∷ item_nodes vs (before + size v)

  pub field_nodes : ValueFields → ℕ → List ℕ
  field_nodes doneᵛ before = []
  field_nodes (fieldᵛ k v fs) before = (before + 1) ∷ ((before + 1 + size v) ∷ field_nodes fs (before + 1 + size v))

-- the tables with the value: what the caller lends to a run
abbrev pub with_value : Tables → Value → Tables
with_value T v = tables (T.nodes ++ node_words T v (length T.children)) (T.children ++ child_words_lem v (node_count T)) T.numbers T.names T.strings T.text

-- 4. The outcome, before the lent lists are looked at: a refusal, no value, or the value.
pub data ExampleOutcome : Type 0 where
  refused : Refusal → ExampleOutcome
  no_value_lem : ExampleOutcome
  both : Value → ExampleOutcome

-- a node that is none says nothing
abbrev pub tree_of : Tables → ℕ → Expr
tree_of T n = cond (is_node T n) (expr T n) (other n)

abbrev pub example_of : {H : Type 0} → Option (Template H) → ExampleOutcome
example_of none = no_value_lem
example_of (some t) = both (example t)

-- of two sides that pass their checks
abbrev pub example_from : Tables → PatternSide → PatternSide → ExampleOutcome
example_from T s₁ s₂ = example_of (overlap (tree_of T) (held_by_side T s₁) (held_by_side T s₂) 512 s₁.pattern s₂.pattern)

-- the first side's refusals, then the second's, then the value
unfoldable pub example_outcome : Tables → PatternSide → PatternSide → ExampleOutcome
example_outcome T s₁ s₂ = tested_or refused (side_checked T s₁) (tested_or refused (side_checked T s₂) (example_from T s₁ s₂))

-- What is answered: a refusal, no value, or the value's node, how many nodes were written and how many child entries.
pub data ExampleResult : Type 0 where
  turned_back_lem : Refusal → ExampleResult
  no_example : ExampleResult
  found : ℕ → ℕ → ℕ → ExampleResult

-- Is there space for the value, and is it within 512 nodes and a depth of 32?
abbrev pub fits_in : Value → List ℕ → List ℕ → Bool
fits_in v nodes children = leb (size v) (length nodes / 5) && (leb (child_entries v) (length children) && (leb (size v) 512 && leb (depthᵛ v) 32))

-- the value's own node is the last one
unfoldable pub example_answer : Tables → ExampleOutcome → List ℕ → List ℕ → ExampleResult
example_answer T (refused r) nodes children = turned_back_lem r
example_answer T no_value_lem nodes children = no_example
example_answer T (both v) nodes children = cond (fits_in v nodes children) (found (node_count T + size v) (size v) (child_entries v)) (turned_back_lem value_too_large)

abbrev pub filled_up : List ℕ → ℕ → List ℕ
filled_up words rest = words ++ replicate rest 0

-- the two lent lists at exit: the value, then zeros
unfoldable pub nodes_after : Tables → ExampleOutcome → List ℕ → List ℕ → List ℕ
nodes_after T (refused r) nodes children = replicate (length nodes) 0
nodes_after T no_value_lem nodes children = replicate (length nodes) 0
nodes_after T (both v) nodes children =
    cond (fits_in v nodes children) (filled_up (node_words T v (length T.children)) (length nodes - size v * 5)) (replicate (length nodes) 0)

unfoldable pub children_after : Tables → ExampleOutcome → List ℕ → List ℕ → List ℕ
children_after T (refused r) nodes children = replicate (length children) 0
children_after T no_value_lem nodes children = replicate (length children) 0
children_after T (both v) nodes children =
    cond (fits_in v nodes children) (filled_up (child_words_lem v (node_count T)) (length children - child_entries v)) (replicate (length children) 0)
