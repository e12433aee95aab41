-- The call that adds a name: the answer's numbers in the lent words, and the name table afterwards.
use Rattle.std.specs.Prelude.{ℕ, ◌≡◌, List}
use Rattle.base.specs.Lent.{MutSlices, old, new}
use Rattle.table.specs.Tables.{Tables}
use Rattle.operation.specs.Rows.{Told}
use Rattle.name_table.specs.Adding.{AddOutcome, add_outcome, add_line, names_after}

pub record NameCalled (o : AddOutcome) (used start size : ℕ) (names words namesExit wordsExit : List ℕ) (r : ℕ) : Type 0 where
  pub answer : Told (add_line o) words wordsExit r
  pub table : namesExit ≡ names_after o names used start size

-- the same of what is lent, at entry and at exit
abbrev pub NameCalledIn : MutSlices → MutSlices → Tables → ℕ → ℕ → ℕ → ℕ → Type 0
NameCalledIn names answer T used start size r =
    NameCalled (add_outcome T used start size) used start size (old names) (old answer) (new names) (new answer) r
