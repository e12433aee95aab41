-- Where a name that was added goes among the records.
use Rattle.std.specs.Prelude.{ℕ, List, set, Option, Some, None, Result, Ok, Err}
use Rattle.name_table.specs.declared.NameAnswer.{NameAnswer}
use Rattle.name_table.specs.declared.NameAnswer.TheVariants as Answer
use Rattle.name_table.specs.declared.NameRefusal.{NameRefusal}
use Rattle.teluddru.specs.declared.Name.{Name}

abbrev pub a_name : ℕ → ℕ → Name
a_name start length = record { start = start; length = length }

-- the first free place, where a name was added
abbrev pub place_of : Result NameAnswer NameRefusal → ℕ → Option ℕ
place_of (Ok (Answer.Existing x)) used = None
place_of (Ok (Answer.Added x)) used = Some used
place_of (Err r) used = None

-- the records with one written there; none past the last
abbrev pub put_at : Option ℕ → Name → List Name → List Name
put_at None name names = names
put_at (Some i) name names = set names i name
