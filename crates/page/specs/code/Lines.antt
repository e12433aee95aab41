-- Lines one after the other, and what the private functions ask.
use Rattle.std.specs.Prelude.{ℕ, zero, suc, ◌+◌, ◌*◌, ◌≤◌, List, [], ◌++◌, length}
use Rattle.planner.specs.Layout.{entry_words}
use Rattle.planner.specs.Entries.{entry_at}
use Rattle.columns.specs.Columns.{write_column}
use Rattle.page.specs.Page.{kind_width, source_width, key_width, page_line_length, cell, kind_name, entry_cells, cells_bytes}

-- the two halves of a line
unfoldable pub front_bytes : ℕ → ℕ → List ℕ
front_bytes number kind = write_column number ++ cell kind_width (kind_name kind)

unfoldable pub texts_bytes : List ℕ → List ℕ → List ℕ
texts_bytes source key = cell source_width source ++ cell key_width key

-- k lines from line i on, where `f i` is line i
unfoldable pub lines_from : (ℕ → List ℕ) → ℕ → ℕ → List ℕ
lines_from f i zero = []
lines_from f i (suc k) = f i ++ lines_from f (i + 1) k

-- line i, that of entry i of a plan's words
abbrev pub entry_line : (ℕ → List ℕ) → List ℕ → ℕ → List ℕ
entry_line source plan i = cells_bytes (entry_cells source (i + 1) (entry_at plan i))

pub record EntryAsks (out plan : List ℕ) (i : ℕ) : Type 0 where
  pub space : (i + 1) * page_line_length ≤ length out
  pub held : i * entry_words + entry_words ≤ length plan

pub record EntriesAsks (out plan : List ℕ) (count : ℕ) : Type 0 where
  pub space : count * page_line_length ≤ length out
  pub held : count * entry_words ≤ length plan

pub record PlanAsks (plan : List ℕ) (count : ℕ) : Type 0 where
  pub few : count ≤ 1536
  pub held : count * entry_words ≤ length plan
