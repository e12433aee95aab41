-- A side planned by the states: what the functions of `preview` ask and say.
use Rattle.std.specs.Prelude.{ℕ, ◌*◌, ◌≤◌, ◌<◌, ◌≡◌, Bool, false, cond, ◌&&◌, not, List, [], eqb, length, get_or, replicate}
use Rattle.base.specs.Lent.{Slices, MutSlice, MutSlices, old, new}
use Rattle.table.specs.Tables.{Tables, node_count, kind_of, first_word_of}
use Rattle.table.specs.Decode.{is_wildcard, expr}
use Rattle.table.specs.code.Sound.{Node}
use Rattle.planner.specs.Plan.{fresh, plan}
use Rattle.planner.specs.Layout.{Entry, below, entry_words, entries, introduces_binding}
use Rattle.planner.specs.Entries.{put_entries, Wrote}
use Rattle.planner.specs.code.Passes.{unbound_in, binders_of}
use Rattle.planner.specs.code.Post.{States, Walks, GoodPair}

-- entries that are read back from a scratch
pub record ReadAsks (scratch : List ℕ) (count : ℕ) : Type 0 where
  pub few : count ≤ 512
  pub held : count * entry_words ≤ length scratch

-- a scratch with space for an entry of each node
pub record Roomy (T : Tables) (scratch : List ℕ) : Type 0 where
  pub space : node_count T * entry_words ≤ length scratch

abbrev pub GoodPairIn : MutSlice → Tables → ℕ → ℕ → Type 0
GoodPairIn scratch T left right = GoodPair T left right × Roomy T scratch.now

-- `states` calls the names unbound that the scope does and that are not planned so far, and tells `_`
pub record Scoped (T : Tables) (unbound : ℕ → Bool) (seen states : List ℕ) : Type 0 where
  pub wild : States T states
  pub each : (n : ℕ) → Node T n → kind_of T.nodes n ≡ 6 → is_wildcard T (first_word_of T.nodes n) ≡ false → unbound_in states (first_word_of T.nodes n) ≡ fresh unbound seen (first_word_of T.nodes n)

-- the entries of a side by the states, at a position: 1 below a pair, else 0
abbrev pub side_entries : Tables → List ℕ → ℕ → ℕ → List Entry
side_entries T states n position = entries (plan (unbound_in states) (expr T n) []) (below 0 position)

abbrev pub PreviewAsksIn : MutSlice → Tables → List ℕ → ℕ → Type 0
PreviewAsksIn scratch T states n = Walks T states n × Roomy T scratch.now

-- the plan of a side from the scratch's first word on, its names, and whether it binds
pub record Previewed (T : Tables) (states : List ℕ) (n position : ℕ) (before binders scratch : List ℕ) (count : ℕ) (binds : Bool) : Type 0 where
  pub bound : binders ≡ binders_of (unbound_in states) (expr T n) (replicate 128 0)
  pub wrote : Wrote before 0 (side_entries T states n position) scratch count
  pub told : binds ≡ introduces_binding (plan (unbound_in states) (expr T n) [])
  pub asks : ReadAsks scratch count

abbrev pub PreviewedIn : MutSlices → MutSlices → Tables → List ℕ → ℕ → ℕ → ℕ → Bool → Type 0
PreviewedIn scratch binders T states n position count binds = Previewed T states n position (old scratch) (new binders) (new scratch) count binds

-- what a preview leaves in the scratch and the binders
pub record SideWritten (T : Tables) (states : List ℕ) (n position : ℕ) (before binders scratch : List ℕ) : Type 0 where
  pub bound : binders ≡ binders_of (unbound_in states) (expr T n) (replicate 128 0)
  pub put : scratch ≡ put_entries before 0 (side_entries T states n position)

-- a name with a binder becomes known, `_` stays `_`
abbrev pub learnt_state : ℕ → ℕ → ℕ
learnt_state state binder = cond (eqb state 1 && not (eqb binder 0)) 0 state

pub record LearntAt (before binders : List ℕ) (i : ℕ) (after : List ℕ) : Type 0 where
  pub here : get_or after i 0 ≡ learnt_state (get_or before i 0) (get_or binders i 0)
  pub others : (k : ℕ) → (k ≡ i → ⊥) → get_or after k 0 ≡ get_or before k 0

pub record Learnt (before binders after : List ℕ) : Type 0 where
  pub each : (i : ℕ) → i < 128 → get_or after i 0 ≡ learnt_state (get_or before i 0) (get_or binders i 0)

pub record SidesAsks (T : Tables) (states : List ℕ) (left right : ℕ) : Type 0 where
  pub pair_ok : GoodPair T left right
  pub states_ok : States T states

abbrev pub SidesAsksIn : MutSlice → Tables → List ℕ → ℕ → ℕ → Type 0
SidesAsksIn scratch T states left right = SidesAsks T states left right × Roomy T scratch.now

-- which of the sides binds; the left one's plan stays in the scratch, over the right one's
pub record SidesTold (T : Tables) (states : List ℕ) (left right position : ℕ) (before binders scratch : List ℕ) (count : ℕ) (one other : Bool) : Type 0 where
  pub left_seen : Previewed T states left position (put_entries before 0 (side_entries T states right position)) binders scratch count one
  pub right_told : other ≡ introduces_binding (plan (unbound_in states) (expr T right) [])

abbrev pub SidesToldIn : MutSlices → MutSlices → Slices → Tables → ℕ → ℕ → ℕ → ℕ → Bool → Bool → Type 0
SidesToldIn scratch binders states T left right position count one other = SidesTold T states.entry.now left right position (old scratch) (new binders) (new scratch) count one other
