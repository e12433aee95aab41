-- The call for the common example (request 13 of document 02): what is given of each side, the refusals in their order, the answer's four numbers in the lent words and the two lists afterwards.
use Rattle.std.specs.Prelude.{ℕ, ◌≡◌, List, Option, Result}
use Rattle.base.specs.Lent.{Slices, MutSlices, old, new}
use Rattle.base.specs.Refusal as Refusal
use Rattle.base.specs.Refusal.{breaks_rules, layout_broken, Tested, passed, require, tested_or, Line, line, refusal_line}
use Rattle.scope.specs.Bytes.{conversion_of, convertible, converted}
use Rattle.table.specs.Tables.{Tables}
use Rattle.operation.specs.declared.numbers.OperationNumbers.{OperationNumbers}
use Rattle.operation.specs.Numbers.{are_listed, scoping_of}
use Rattle.operation.specs.Rows.{Told}
use Rattle.common_example.specs.declared.example.Example.{Example}
use Rattle.common_example.specs.declared.example.ExampleRefusal.{ExampleRefusal}
use Rattle.common_example.specs.declared.sides.ScopedPattern.{ScopedPattern}
use Rattle.common_example.specs.Operations.{PatternSide, side_checked, ExampleOutcome, refused, example_from, ExampleResult, turned_back_lem, no_example, found, example_answer, nodes_after, children_after}
use Rattle.common_example.specs.Common.{example_refused, pattern_side, Gives}
use Rattle.c_calls.specs.declared.examples.HostSide.{HostSide}
use Rattle.c_calls.specs.declared.given.GivenRefusal.{GivenRefusal}
use Rattle.c_calls.specs.Given.{byte_scope_of, scope_of, pattern_numbers, tested_first, given_first, given_tested}

-- what a C host gives of a side
pub record GivenSide : Type 0 where
  pub marks : List ℕ
  pub scheduler : ℕ
  pub scoping : ℕ
  pub pattern : ℕ
  pub values : List ℕ

abbrev pub given_side : Slices → ℕ → ℕ → ℕ → Slices → GivenSide
given_side marks scheduler scoping pattern values = record { marks = marks.entry.now; scheduler = scheduler; scoping = scoping; pattern = pattern; values = values.entry.now }

abbrev pub numbers_in : GivenSide → OperationNumbers
numbers_in g = pattern_numbers g.scheduler g.scoping g.pattern

abbrev pub side_in : GivenSide → PatternSide
side_in g = record { scope = scope_of g.marks g.scheduler; scoping = scoping_of g.scoping; pattern = g.pattern; values = g.values }

-- 7 of the second side, as of the first, comes before all else. Then comes all that the first side is refused for, then the second.
unfoldable pub example_call : Tables → GivenSide → GivenSide → ExampleOutcome
example_call T g₁ g₂ =
    tested_or refused (require (are_listed (numbers_in g₂)) layout_broken passed)
    (tested_or refused (given_first T g₁.marks (numbers_in g₁))
    (tested_or refused (side_checked T (side_in g₁))
    (tested_or refused (given_first T g₂.marks (numbers_in g₂))
    (tested_or refused (side_checked T (side_in g₂))
    (example_from T (side_in g₁) (side_in g₂))))))

-- the value's node, nodes written, child entries written; 100 for none
abbrev pub example_line : ExampleResult → Line
example_line (turned_back_lem r) = refusal_line r
example_line no_example = line 100 0 0 0
example_line (found node nodes children) = line 0 node nodes children

pub record ExampleCalled (T : Tables) (o : ExampleOutcome) (nodes children words nodesExit childrenExit wordsExit : List ℕ) (r : ℕ) : Type 0 where
  pub answer : Told (example_line (example_answer T o nodes children)) words wordsExit r
  pub nodes_are : nodesExit ≡ nodes_after T o nodes children
  pub children_are : childrenExit ≡ children_after T o nodes children

abbrev pub ExampleCalledIn : Tables → GivenSide → GivenSide → MutSlices → MutSlices → MutSlices → ℕ → Type 0
ExampleCalledIn T g₁ g₂ nodes children answer r =
    ExampleCalled T (example_call T g₁ g₂) (old nodes) (old children) (old answer) (new nodes) (new children) (new answer) r

-- For the code. A side as it is read from what is given;
pub record OfHost (marks : List ℕ) (scheduler scoping pattern : ℕ) (h : HostSide) : Type 0 where
  pub made : conversion_of h.made ≡ convertible (byte_scope_of marks scheduler)
  pub scope : h.pattern.scope ≡ converted (byte_scope_of marks scheduler)
  pub scoping_is : h.pattern.scoping ≡ scoping_of scoping
  pub root : h.pattern.root ≡ pattern
  pub asked : h.asked ≡ pattern_numbers scheduler scoping pattern

-- what comes before both sides' own refusals;
pub record ExampleFirst (T : Tables) (first second : HostSide) (r : Result Unit GivenRefusal) : Type 0 where
  pub told : given_tested r ≡ tested_or Refusal.refused (require (are_listed second.asked) layout_broken passed) (tested_first T (conversion_of first.made) first.asked)

-- the first side's refusals, then 2;
pub record SecondRefused (T : Tables) (s : PatternSide) (r : ExampleRefusal) : Type 0 where
  pub answer : Refusal.refused (example_refused r) ≡ tested_or Refusal.refused (side_checked T s) (Refusal.refused breaks_rules)

abbrev pub SecondRefusedIn : Tables → ScopedPattern → Slices → ExampleRefusal → Type 0
SecondRefusedIn T p values r = SecondRefused T (pattern_side p values.entry.now) r

-- the example, with what the conversion of the second side's marks says between the two sides' checks.
abbrev pub marked_outcome : Tables → PatternSide → Tested → PatternSide → ExampleOutcome
marked_outcome T s₁ made s₂ = tested_or refused (side_checked T s₁) (tested_or refused made (tested_or refused (side_checked T s₂) (example_from T s₁ s₂)))

abbrev pub MarkedIn : Tables → ScopedPattern → Slices → Tested → ScopedPattern → Slices → MutSlices → MutSlices → Result (Option Example) ExampleRefusal → Type 0
MarkedIn T p values₁ made q values₂ nodes children r =
    Gives T (marked_outcome T (pattern_side p values₁.entry.now) made (pattern_side q values₂.entry.now)) (old nodes) (old children) (new nodes) (new children) r
