-- Records that are copied to pairs of words.
use Rattle.std.specs.Prelude.{ℕ, ◌*◌, ◌≤◌, ◌≡◌, List, get_or, take}
use Rattle.table.specs.Tables.{Tables, tables}
use Rattle.base.specs.Lent.{Slices}
use Rattle.teluddru.specs.declared.Name.{Name}
use Rattle.teluddru.specs.declared.records.NameWords.{NameWords}
use Rattle.teluddru.specs.Records.{name_words}

-- what stands where there is no record
abbrev pub none : Name
none = record { start = 0; length = 0 }

abbrev pub name_at : List Name → ℕ → Name
name_at names i = get_or names i none

-- the words of the first `count` names
abbrev pub held : NameWords → List ℕ
held names = take (names.count * 2) names.words

-- The first 129 records, one more than the limit of names. The words behind them are free: no call reads them.
pub record Copied (records : List Name) (names : NameWords) : Type 0 where
  pub few : names.count ≤ 129
  pub same : held names ≡ name_words (take 129 records)

-- the tables that a function is lent, the names in words
abbrev pub lent_words : Slices → Slices → Slices → NameWords → Slices → Slices → Tables
lent_words nodes children numbers names strings text = tables nodes.entry.now children.entry.now numbers.entry.now (held names) strings.entry.now text.entry.now
