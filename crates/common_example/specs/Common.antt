-- What the common example of two patterns answers and writes.
use Rattle.std.specs.Prelude.{List, ◌≡◌, ℕ, Option, Some, None, Result, Ok, Err}
use Rattle.base.specs.Lent.{Slices, MutSlices, old, new}
use Rattle.base.specs.Refusal.{Refusal, value_too_large, Tested, passed}
use Rattle.base.specs.Refusal as Refusal
use Rattle.table.specs.Tables.{Tables}
use Rattle.common_example.specs.declared.example.Example.{Example}
use Rattle.common_example.specs.declared.example.ExampleRefusal.{ExampleRefusal}
use Rattle.common_example.specs.declared.example.ExampleRefusal.TheVariants.{SideRefused, ValueTooLarge}
use Rattle.common_example.specs.Answer.{side_refused}
use Rattle.common_example.specs.declared.sides.ScopedPattern.{ScopedPattern}
use Rattle.common_example.specs.Operations.{PatternSide, side_checked, ExampleOutcome, example_outcome, ExampleResult, turned_back_lem, no_example, found, example_answer, nodes_after, children_after}

abbrev pub example_refused : ExampleRefusal → Refusal
example_refused (SideRefused r) = side_refused r
example_refused ValueTooLarge = value_too_large

abbrev pub example_result : Result (Option Example) ExampleRefusal → ExampleResult
example_result (Ok (Some e)) = found e.node e.nodes e.children
example_result (Ok None) = no_example
example_result (Err r) = turned_back_lem (example_refused r)

-- the answer of an outcome, and the two lent lists at exit
pub record Gives (T : Tables) (o : ExampleOutcome) (nodes children nodes' children' : List ℕ) (r : Result (Option Example) ExampleRefusal) : Type 0 where
  pub answer : example_result r ≡ example_answer T o nodes children
  pub nodes_are : nodes' ≡ nodes_after T o nodes children
  pub children_are : children' ≡ children_after T o nodes children

-- a side as the call is given it
abbrev pub pattern_side : ScopedPattern → List ℕ → PatternSide
pattern_side p values = record { scope = p.scope; scoping = p.scoping; pattern = p.root; values = values }

abbrev pub CommonIn : Tables → ScopedPattern → Slices → ScopedPattern → Slices → MutSlices → MutSlices → Result (Option Example) ExampleRefusal → Type 0
CommonIn T p values₁ q values₂ nodes children r =
    Gives T (example_outcome T (pattern_side p values₁.entry.now) (pattern_side q values₂.entry.now)) (old nodes) (old children) (new nodes) (new children) r

-- the checks of one side
abbrev pub example_tested : Result Unit ExampleRefusal → Tested
example_tested (Ok done) = passed
example_tested (Err r) = Refusal.refused (example_refused r)

pub record SideChecked (T : Tables) (s : PatternSide) (r : Result Unit ExampleRefusal) : Type 0 where
  pub answer : example_tested r ≡ side_checked T s

abbrev pub SideCheckedIn : Tables → ScopedPattern → Slices → Result Unit ExampleRefusal → Type 0
SideCheckedIn T p values r = SideChecked T (pattern_side p values.entry.now) r
