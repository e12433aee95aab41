-- What adding a name answers, as document 01's four numbers, and its contract.
use Rattle.std.specs.Prelude.{ℕ, ◌≡◌, List, Result, Ok, Err}
use Rattle.base.specs.Lent.{MutSlices, old, new}
use Rattle.base.specs.Refusal.{Refusal, Line, line, refusal_line, no_place}
use Rattle.table.specs.Check.{table_refused}
use Rattle.name_table.specs.declared.NameAnswer.{NameAnswer}
use Rattle.name_table.specs.declared.NameAnswer.TheVariants as Name
use Rattle.name_table.specs.declared.NameRefusal.{NameRefusal}
use Rattle.name_table.specs.declared.NameRefusal.TheVariants.{TableRefused, NoPlace}
use Rattle.name_table.specs.Adding.{AddOutcome, add_line, names_after}

abbrev pub name_refused : NameRefusal → Refusal
name_refused (TableRefused a) = table_refused a
name_refused NoPlace = no_place

abbrev pub name_line : Result NameAnswer NameRefusal → Line
name_line (Ok (Name.Existing x)) = line 0 x 0 0
name_line (Ok (Name.Added x)) = line 0 x 1 0
name_line (Err r) = refusal_line (name_refused r)

-- the answer, and every word of the name table at exit
pub record NameAdded (o : AddOutcome) (used start size : ℕ) (before after : List ℕ) (r : Result NameAnswer NameRefusal) : Type 0 where
  pub answer : name_line r ≡ add_line o
  pub names : after ≡ names_after o before used start size

-- the same of a `&mut` name table, at entry and at exit
abbrev pub NameAddedIn : MutSlices → AddOutcome → ℕ → ℕ → ℕ → Result NameAnswer NameRefusal → Type 0
NameAddedIn names o used start size r = NameAdded o used start size (old names) (new names) r

-- document 01's numbers settle the answer
pub record AddAnswerLaws : Type 0 where
  pub settled : (r q : Result NameAnswer NameRefusal) → name_line r ≡ name_line q → r ≡ q
