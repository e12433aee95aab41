-- What an outcome means: of a value that both patterns match it and that nothing is fixed without need, of none that there is no such value; and that runs on the written value match.
use Rattle.std.specs.Prelude.{ℕ, ◌+◌, ◌*◌, ◌≤◌, List, ◌≡◌, length}
use Rattle.table.specs.Tables.{Tables, node_count}
use Rattle.table.specs.Decode.{expr}
use Rattle.planner.specs.Layout.{entries, top, entry_words}
use Rattle.planner.specs.Operations.{plan_of}
use Rattle.value.specs.Value.{Value, Proper}
use Rattle.matching.specs.Matching.{Env, start}
use Rattle.run.specs.Operations.{listed}
use Rattle.run.specs.Answer.{a_match}
use Rattle.run.specs.Demand.{answer}
use Rattle.common_example.specs.Overlap.{InOrder, Template, example, BothMatch, Overlap, size, depthᵛ}
use Rattle.common_example.specs.Places.{GraphPlace}
use Rattle.common_example.specs.Operations.{PatternSide, unbound_in, child_entries, with_value, ExampleOutcome, refused, no_value_lem, both, example_outcome}

-- the values of a side's known names
abbrev pub known_to_side : Tables → PatternSide → Env
known_to_side T s = start (unbound_in s) (listed T s.values)

module _ (T : Tables) (s₁ s₂ : PatternSide) where
  abbrev pub BothDo : Value → Type 0
  BothDo = BothMatch (known_to_side T s₁) (known_to_side T s₂) (expr T s₁.pattern) (expr T s₂.pattern)

  -- the value: both patterns match it, and it is the example of a template, all of whose instances both match, and nothing else
  pub record IsExample (v : Value) : Type 0 where
    pub is_value : Proper v
    pub both_match_lem : BothDo v
    pub template : Template GraphPlace
    pub general : Overlap (known_to_side T s₁) (known_to_side T s₂) (expr T s₁.pattern) (expr T s₂.pattern) template
    pub its_example : example template ≡ v
    -- in each object the keys ascend
    pub ordered : InOrder v

  abbrev pub OutcomeSays : ExampleOutcome → Type 0
  OutcomeSays (refused r) = Unit {0}
  OutcomeSays no_value_lem = (v : Value) → Proper v → BothDo v → ⊥
  OutcomeSays (both v) = IsExample v

-- a run of a side's pattern on the node of the value, which stands behind the tables, in a buffer with space for the plan
abbrev pub Matched : Tables → Value → PatternSide → Type 0
Matched T v s =
    (buffer : List ℕ) → entry_words * length (entries (plan_of (with_value T v) s.scope s.scoping s.pattern) top) ≤ length buffer
    → answer (with_value T v) s.scope s.scoping s.pattern (node_count T + size v) s.values buffer ≡ a_match

pub record ExamplePromise : Type 0 where
  -- what an example says fixes it, and so every word that is written
  pub one : (T : Tables) (s₁ s₂ : PatternSide) (v w : Value) → IsExample T s₁ s₂ v → IsExample T s₁ s₂ w → v ≡ w
  pub says : (T : Tables) (s₁ s₂ : PatternSide) → OutcomeSays T s₁ s₂ (example_outcome T s₁ s₂)
  -- where tables and value together are within the limits
  pub runs : (T : Tables) (s₁ s₂ : PatternSide) (v : Value) → example_outcome T s₁ s₂ ≡ both v
      → node_count T + size v ≤ 512 → length T.children + child_entries v ≤ 512 → depthᵛ v ≤ 32 → Matched T v s₁ × Matched T v s₂
