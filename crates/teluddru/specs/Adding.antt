-- Request 8 of document 02: adding a name to the lent table of records.
use Rattle.std.specs.Prelude.{ℕ, ◌≡◌, List, Result}
use Rattle.std.specs.Borrow.{MutBor}
use denote.Triple.Both.{Both}
use Rattle.name_table.specs.declared.NameAnswer.{NameAnswer}
use Rattle.name_table.specs.declared.NameRefusal.{NameRefusal}
use Rattle.name_table.specs.Adding.{AddOutcome}
use Rattle.name_table.specs.Answer.{NameAdded}
use Rattle.teluddru.specs.declared.Name.{Name}
use Rattle.teluddru.specs.Records.{name_words}

-- records lent to write, and what they say at exit
abbrev pub MutRecords : Type 0
MutRecords = Both (MutBor (List Name)) (MutBor (List Name))

abbrev pub records_out : MutRecords → List Name
records_out names = names.exit.now

-- The answer, and every record at exit: their words are those that adding the name leaves of the words at entry.
abbrev pub NameAddedTo : MutRecords → AddOutcome → ℕ → ℕ → ℕ → Result NameAnswer NameRefusal → Type 0
NameAddedTo names o used start size r = NameAdded o used start size (name_words names.entry.now) (name_words (records_out names)) r

-- the words settle the records
pub record RecordLaws : Type 0 where
  pub settled : (ns ms : List Name) → name_words ns ≡ name_words ms → ns ≡ ms
