-- The first miss of a run over tables: what it answers. It writes nothing, so that there is no 6.
use Rattle.std.specs.Prelude.{ℕ, ◌+◌, ◌*◌, ◌≡◌, Option, Result, List}
use Rattle.base.specs.Lent.{Slices}
use Rattle.scope.specs.declared.Scope.{Scope}
use Rattle.scope.specs.declared.ScopingMode.{ScopingMode}
use Rattle.scope.specs.Scope.{is_unbound}
use Rattle.table.specs.Tables.{Tables, first_word_of, child_at}
use Rattle.table.specs.Decode.{expr}
use Rattle.planner.specs.Operations.{plan_of}
use Rattle.value.specs.Value.{value_of}
use Rattle.matching.specs.Matching.{start}
use Rattle.run.specs.Operations.{listed, RunOutcome, refused, carried_out, run_outcome}
use Rattle.first_miss.specs.declared.Why.TheVariants.{NameDiffers}
use Rattle.first_miss.specs.declared.Miss.{Miss}
use Rattle.run.specs.declared.RunRefusal.{RunRefusal}
use Rattle.first_miss.specs.Miss.{MissOutcome, matched, missed, fault, first_miss}
use Rattle.first_miss.specs.Answer.{MissResult, turned_back_lem, a_match, no_match_lem, miss_result_of}

-- the key at place i, from 0, of the object at node m
abbrev pub key_at : Tables → ℕ → ℕ → ℕ
key_at T m i = child_at T.children (first_word_of T.nodes m + i * 2)

-- A fault never comes up (demand 3), so that its miss makes no difference.
abbrev pub nowhere : Miss
nowhere = record { why = NameDiffers; value = 0; pattern = 0 }

abbrev pub carried_result : MissOutcome → MissResult
carried_result (matched env) = a_match
carried_result (missed m) = no_match_lem m
carried_result fault = no_match_lem nowhere

-- a run's own refusals, to 23, come first
abbrev pub after_checks : RunOutcome → MissResult → MissResult
after_checks (refused r) o = turned_back_lem r
after_checks (carried_out es m) o = o

module _ (T : Tables) (s : Scope) (mode : ScopingMode) (pattern value : ℕ) (values : List ℕ) where
  -- the pattern's plan, run on the value from the listed values of the known names
  abbrev pub miss_found : MissOutcome
  miss_found = first_miss (key_at T) (plan_of T s mode pattern) (value_of (expr T value)) (start (is_unbound s mode) (listed T values))

  abbrev pub miss_result : MissResult
  miss_result = after_checks (run_outcome T s mode pattern value values) (carried_result miss_found)

  pub record MissTold (r : Result (Option Miss) RunRefusal) : Type 0 where
    pub answer : miss_result_of r ≡ miss_result

-- the same of a list that is lent
abbrev pub MissToldIn : Slices → Tables → Scope → ScopingMode → ℕ → ℕ → Result (Option Miss) RunRefusal → Type 0
MissToldIn values T s mode pattern value r = MissTold T s mode pattern value values.entry.now r
