-- Names as records, and as the pairs of words that the crates below read.
use Rattle.std.specs.Prelude.{ℕ, List, [], ◌∷◌}
use Rattle.std.specs.Borrow.{Bor}
use denote.Triple.Both.{Both}
use Rattle.table.specs.Tables.{Tables, tables}
use Rattle.base.specs.Lent.{Slices}
use Rattle.teluddru.specs.declared.Name.{Name}
use Rattle.teluddru.specs.declared.Rule.{Rule}

-- start, length, start, length, ..
unfoldable pub name_words : List Name → List ℕ
name_words [] = []
name_words (n ∷ ns) = n.start ∷ n.length ∷ name_words ns

-- the tables that a function is lent, the names as records
abbrev pub lent_records : Rule → Tables
lent_records r = tables r.nodes.now r.children.now r.numbers.now (name_words r.names.now) r.strings.now r.text.now

-- lent records, as an `ensures` names them, and what they say
abbrev pub Records : Type 0
Records = Both (Bor (List Name)) (Bor (List Name))

abbrev pub records_in : Records → List Name
records_in names = names.entry.now

-- the same tables, lent as slices of their own
abbrev pub lent_slices : Slices → Slices → Slices → Records → Slices → Slices → Tables
lent_slices nodes children numbers names strings text = tables nodes.entry.now children.entry.now numbers.entry.now (name_words (records_in names)) strings.entry.now text.entry.now
