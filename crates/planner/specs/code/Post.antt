-- What the planner's own functions ask of their caller.
use Rattle.std.specs.Prelude.{ℕ, ◌+◌, ◌-◌, ◌*◌, ◌^◌, ◌≤◌, ◌<◌, ◌≡◌, List, [], ◌++◌, eqb, length, get_or, take, drop, replicate}
use Rattle.std.proofs.lemmas.List.Edits.{sets}
use Rattle.table.specs.Tables.{Tables, kind_of, child_at}
use Rattle.std.specs.Borrow.{MutBor}
use denote.Triple.Both.{Both}
use Rattle.base.specs.Lent.{MutSlices}
use Rattle.scope.specs.declared.Scope.{Scope}
use Rattle.scope.specs.declared.ScopingMode.{ScopingMode}
use Rattle.scope.specs.Scope.{is_unbound}
use Rattle.table.specs.Decode.{is_wildcard, expr}
use Rattle.planner.specs.Layout.{Entry, entry_words, Place, below, top, entries, words, in_order}
use Rattle.planner.specs.Entries.{Wrote}
use Rattle.planner.specs.code.Passes.{lay_out, lay_out_items, lay_out_ordered, key_node, value_node, order_of, binders_of, unbound_in}
use Rattle.planner.specs.Plan.{plan}
use Rattle.table.specs.code.Sound.{Node, Named, WellFormed}

pub record NameNumber (x : ℕ) : Type 0 where
  pub low : 1 ≤ x
  pub high : x ≤ 128

-- `states` tells `_` by its bytes
pub record States (T : Tables) (states : List ℕ) : Type 0 where
  pub wild : (x : ℕ) → Named T x → is_wildcard T x ≡ eqb (get_or states (x - 1) 0) 2

-- a walk from a node of a good table
pub record Walks (T : Tables) (states : List ℕ) (n : ℕ) : Type 0 where
  pub table : WellFormed T
  pub states_ok : States T states
  pub node : Node T n

-- a walk over some children of a node
pub record WalksChildren (T : Tables) (states : List ℕ) (parent at step left : ℕ) : Type 0 where
  pub table : WellFormed T
  pub states_ok : States T states
  pub each : (i : ℕ) → i < left → Node T (child_at T.children (at + i * step)) × (child_at T.children (at + i * step) < parent)
  pub small : at + left * step < 2 ^ 40

-- a counter with space for so many more steps; and a lent one that went on by so many
pub record StepRoom (steps more : ℕ) : Type 0 where
  pub room : steps + more ≤ 2 ^ 41

abbrev pub Counts : Both (MutBor ℕ) (MutBor ℕ) → ℕ → Type 0
Counts steps more = steps.exit.now ≡ steps.entry.now + more

-- space for the plan of any pattern
abbrev pub pattern_words : ℕ
pattern_words = 512 * entry_words

-- entries stand in a scratch from place `at` on, and r is the place after them
pub record Laid (before : List ℕ) (at : ℕ) (es : List Entry) (after : List ℕ) (r : ℕ) : Type 0 where
  pub end : r ≡ at + length es
  pub stored : after ≡ sets before (at * entry_words) (words es)

pub record LayAsks (T : Tables) (states binders : List ℕ) (n : ℕ) (place : Place) (at : ℕ) : Type 0 where
  pub walks : Walks T states n
  pub room : at + length (lay_out binders (expr T n) place) ≤ 2 ^ 41

pub record LayObjectAsks (T : Tables) (states binders : List ℕ) (n : ℕ) (place : Place) (at : ℕ) : Type 0 where
  pub asks : LayAsks T states binders n place at
  pub object : kind_of T.nodes n ≡ 9

-- items from a position on
pub record LayItemsAsks (T : Tables) (states binders : List ℕ) (parent from left position at : ℕ) : Type 0 where
  pub walks : WalksChildren T states parent from 1 left
  pub room : at + length (lay_out_items binders T from left position) ≤ 2 ^ 41
  pub few : position + left ≤ 1024

-- an object whose fields are to be put in order
pub record OrderAsks (T : Tables) (first size : ℕ) : Type 0 where
  pub table : WellFormed T
  pub listed : first + size * 2 ≤ length T.children
  pub keys : (i : ℕ) → i < size → Node T (key_node T first i)

-- the first r numbers of the array are the fields in order
pub record OrderedBy (T : Tables) (first size : ℕ) (order : List ℕ) (r : ℕ) : Type 0 where
  pub total : r ≡ length (in_order (order_of T first size))
  pub fields : take r order ≡ in_order (order_of T first size)
  pub few : r ≤ 256

-- the fields in order, and behind them what was there before
pub record Arranged (T : Tables) (first size : ℕ) (before order : List ℕ) (r : ℕ) : Type 0 where
  pub total : r ≡ length (in_order (order_of T first size))
  pub numbers : order ≡ in_order (order_of T first size) ++ drop r before
  pub few : r ≤ 256

pub record LayOrderedAsks (T : Tables) (states binders : List ℕ) (parent first : ℕ) (order : List ℕ) (total at : ℕ) : Type 0 where
  pub table : WellFormed T
  pub states_ok : States T states
  pub few : total ≤ 256
  pub each : (q : ℕ) → q < total → (first + get_or order q 0 * 2 + 1 < 2 ^ 32) × Node T (value_node T first (get_or order q 0)) × (value_node T first (get_or order q 0) < parent)
  pub room : at + length (lay_out_ordered binders T first order 0 total) ≤ 2 ^ 41

-- a pattern to be planned from no names, its entries from place `at` on
pub record PlanAsks (T : Tables) (states : List ℕ) (root : ℕ) (binders : List ℕ) (at : ℕ) : Type 0 where
  pub walks : Walks T states root
  pub none_bound : binders ≡ replicate 128 0
  pub low : at ≤ 2 ^ 40

-- its binders, and its plan's entries at a position below a pair, or 0
pub record PlannedBy (T : Tables) (states : List ℕ) (root position at : ℕ) (before binders after : List ℕ) (r : ℕ) : Type 0 where
  pub bound : binders ≡ binders_of (unbound_in states) (expr T root) (replicate 128 0)
  pub wrote : Wrote before at (entries (plan (unbound_in states) (expr T root) []) (below 0 position)) after r
  pub few : r ≤ at + 512
  pub space : r ≤ at + root

-- a root in a good table
pub record GoodRoot (T : Tables) (root : ℕ) : Type 0 where
  pub table : WellFormed T
  pub node : Node T root

-- two roots in a good table
pub record GoodPair (T : Tables) (a b : ℕ) : Type 0 where
  pub table : WellFormed T
  pub first : Node T a
  pub second : Node T b

-- a pattern of a good table, with no name bound yet
pub record PatternAsks (T : Tables) (root : ℕ) (binders : List ℕ) (at : ℕ) : Type 0 where
  pub table : WellFormed T
  pub node : Node T root
  pub none_bound : binders ≡ replicate 128 0
  pub low : at ≤ 2 ^ 40

-- its binders, and its plan's entries, no more than its root's number
pub record PatternPlanned (T : Tables) (s : Scope) (mode : ScopingMode) (root at : ℕ) (before binders after : List ℕ) (r : ℕ) : Type 0 where
  pub bound : binders ≡ binders_of (is_unbound s mode) (expr T root) (replicate 128 0)
  pub wrote : Wrote before at (entries (plan (is_unbound s mode) (expr T root) []) top) after r
  pub few : r ≤ at + 512
  pub space : r ≤ at + root

-- the same of a `&mut` buffer and `&mut` binders, at entry and at exit
abbrev pub PlannedIn : MutSlices → MutSlices → Tables → List ℕ → ℕ → ℕ → ℕ → ℕ → Type 0
PlannedIn plan binders T states root position at r = PlannedBy T states root position at plan.entry.now binders.exit.now plan.exit.now r

abbrev pub PatternPlannedIn : MutSlices → MutSlices → Tables → Scope → ScopingMode → ℕ → ℕ → ℕ → Type 0
PatternPlannedIn plan binders T s mode root at r = PatternPlanned T s mode root at plan.entry.now binders.exit.now plan.exit.now r
