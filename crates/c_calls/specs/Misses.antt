-- The first miss over tables: what is given beside the tables is tested first, as for a run; 100 comes with the value's node, the pattern's node and why.
use Rattle.std.specs.Prelude.{ℕ, List}
use Rattle.base.specs.Lent.{Slices, MutSlices, old, new}
use Rattle.base.specs.Refusal.{Line, line, refusal_line, tested_or}
use Rattle.table.specs.Tables.{Tables}
use Rattle.operation.specs.Numbers.{scoping_of}
use Rattle.operation.specs.Rows.{Told}
use Rattle.first_miss.specs.declared.Why.{Why}
use Rattle.first_miss.specs.declared.Why.TheVariants.{NameDiffers, LiteralDiffers, NoArray, OtherLength, NoObject, KeyMissing, KeyTooMany}
use Rattle.first_miss.specs.Answer.{MissResult, turned_back_lem, a_match, no_match_lem}
use Rattle.first_miss.specs.Operations.{miss_result}
use Rattle.c_calls.specs.Given.{scope_of, pattern_numbers, given_first}

abbrev pub why_number : Why → ℕ
why_number NameDiffers = 1
why_number LiteralDiffers = 2
why_number NoArray = 3
why_number OtherLength = 4
why_number NoObject = 5
why_number KeyMissing = 6
why_number KeyTooMany = 7

abbrev pub miss_line : MissResult → Line
miss_line (turned_back_lem r) = refusal_line r
miss_line a_match = line 0 0 0 0
miss_line (no_match_lem m) = line 100 m.value m.pattern (why_number m.why)

abbrev pub miss_call : Tables → List ℕ → ℕ → ℕ → ℕ → ℕ → List ℕ → MissResult
miss_call T marks scheduler scoping pattern value values =
    tested_or turned_back_lem (given_first T marks (pattern_numbers scheduler scoping pattern)) (miss_result T (scope_of marks scheduler) (scoping_of scoping) pattern value values)

pub record MissCalled (o : MissResult) (words wordsExit : List ℕ) (r : ℕ) : Type 0 where
  pub answer : Told (miss_line o) words wordsExit r

abbrev pub MissCalledIn : Slices → MutSlices → Tables → Slices → ℕ → ℕ → ℕ → ℕ → ℕ → Type 0
MissCalledIn values answer T marks scheduler scoping pattern value r =
    MissCalled (miss_call T marks.entry.now scheduler scoping pattern value values.entry.now) (old answer) (new answer) r
