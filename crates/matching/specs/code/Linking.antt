-- The entries of an entry's children, found by their positions.
use Rattle.std.specs.Prelude.{ℕ, zero, suc, ◌+◌, ◌-◌, ◌*◌, ◌≤◌, ◌<◌, ◌≡◌, List, [], ◌∷◌, length, get_or, drop}
use Rattle.planner.specs.Layout.{entry_words}

abbrev pub children_of : List ℕ → ℕ → ℕ
children_of scratch at = get_or scratch (at * entry_words + 2) 0

abbrev pub position_of : List ℕ → ℕ → ℕ
position_of scratch at = get_or scratch (at * entry_words + 4) 0

-- the entries at which the plans start that stand one after the other, in k entries from entry `at` on
unfoldable pub starts_from : List ℕ → ℕ → ℕ → List ℕ
starts_from scratch at zero = []
starts_from scratch at (suc k) = at ∷ drop (children_of scratch at) (starts_from scratch (at + 1) k)

-- child j of an entry, of `count` entries in all: the plan that starts behind the entry, the next one, and so on; the end where there is none
abbrev pub child_entry : List ℕ → ℕ → ℕ → ℕ → ℕ
child_entry scratch count at j = get_or (starts_from scratch (at + 1) (count - (at + 1))) j count

-- how many children the first k entries have
unfoldable pub total : List ℕ → ℕ → ℕ
total scratch zero = 0
total scratch (suc k) = total scratch k + children_of scratch k

-- entries whose children stand behind them, at positions that differ
pub record LinkAsks (scratch : List ℕ) (count : ℕ) : Type 0 where
  pub few : count ≤ 512
  pub room : total scratch count ≤ 512
  pub counted : (at : ℕ) → at < count → children_of scratch at ≤ length (starts_from scratch (at + 1) (count - (at + 1)))
  pub placed : (at j : ℕ) → at < count → j < children_of scratch at → (1 ≤ position_of scratch (child_entry scratch count at j)) × (position_of scratch (child_entry scratch count at j) ≤ children_of scratch at)
  pub apart : (at i j : ℕ) → at < count → i < j → j < children_of scratch at → position_of scratch (child_entry scratch count at i) ≡ position_of scratch (child_entry scratch count at j) → ⊥

-- each child's entry at its position, from its parent's start on
pub record LinkedAt (scratch : List ℕ) (count at start : ℕ) (links : List ℕ) : Type 0 where
  pub inside : start + children_of scratch at ≤ 512
  pub each : (j : ℕ) → j < children_of scratch at → get_or links (start + position_of scratch (child_entry scratch count at j) - 1) 0 ≡ child_entry scratch count at j

pub record Linked (scratch : List ℕ) (count : ℕ) (starts links : List ℕ) : Type 0 where
  pub at : (at : ℕ) → at < count → LinkedAt scratch count at (get_or starts at 0) links

-- from entry to entry: `nexts` has for each entry the one behind its plan
unfoldable pub chain : List ℕ → ℕ → ℕ → ℕ
chain nexts c zero = c
chain nexts c (suc j) = get_or nexts (chain nexts c j) 0

-- one entry's children
pub record ChainAsks (scratch nexts links : List ℕ) (at start count : ℕ) : Type 0 where
  pub first : at < 512
  pub long : length links ≡ 512
  pub room : start + count ≤ 512
  pub each : (j : ℕ) → j < count → (chain nexts (at + 1) j < 512) × ((1 ≤ position_of scratch (chain nexts (at + 1) j)) × (position_of scratch (chain nexts (at + 1) j) ≤ count))
  pub apart : (i j : ℕ) → i < j → j < count → position_of scratch (chain nexts (at + 1) i) ≡ position_of scratch (chain nexts (at + 1) j) → ⊥

pub record ChainLinked (scratch nexts before : List ℕ) (at start count : ℕ) (after : List ℕ) (r : ℕ) : Type 0 where
  pub end : r ≡ chain nexts (at + 1) count
  pub long : length after ≡ 512
  pub each : (j : ℕ) → j < count → get_or after (start + position_of scratch (chain nexts (at + 1) j) - 1) 0 ≡ chain nexts (at + 1) j
  -- places behind these are not touched
  pub others : (q : ℕ) → start + count ≤ q → get_or after q 0 ≡ get_or before q 0
