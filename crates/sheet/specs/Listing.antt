-- The listing of a sheet's outcome.
use Rattle.std.specs.Prelude.{ℕ, ◌-◌, cond, List, [], ◌∷◌, ◌++◌, ◌≡◌, leb, length, replicate}
use Rattle.columns.specs.Columns.{write_column}
use Rattle.base.specs.Refusal.{plan_too_large, Line, line, refusal_line}
use Rattle.planner.specs.Layout.{Entry}
use Rattle.planner.specs.Operations.{Outcome, refused, planned}
use Rattle.sheet.specs.Sheet.{Parsed, parse}
use Rattle.sheet.specs.Outcome.{outcome_of_sheet}

-- The first line has the answer's four numbers; a line for each entry follows it.
pub record Listing : Type 0 where
  pub first : Line
  pub entries : List Entry

abbrev pub followed : Line → List Entry → Listing
followed first es = record { first = first; entries = es }

abbrev pub alone : Line → Listing
alone first = followed first []

-- A plan has space for 1,536 entries.
unfoldable pub lines_of : Outcome → Listing
lines_of (refused a) = alone (refusal_line a)
lines_of (planned form side es) =
    cond (leb (length es) 1536) (followed (line 0 form side (length es)) es) (alone (refusal_line (plan_too_large (length es))))

abbrev pub lines_of_sheet : Parsed → Listing
lines_of_sheet p = lines_of (outcome_of_sheet p)

-- columns of six
unfoldable pub four_columns : Line → List ℕ
four_columns l = write_column l.number ++ (write_column l.second ++ (write_column l.third ++ write_column l.fourth))

-- four columns, then LF
unfoldable pub line_bytes : Line → List ℕ
line_bytes l = four_columns l ++ (10 ∷ [])

-- an entry's words in a column each, its written position last, then LF
abbrev pub entry_line : Entry → Line
entry_line e = line e.kind e.node e.children e.key

unfoldable pub entry_bytes : Entry → List ℕ
entry_bytes e = four_columns (entry_line e) ++ (write_column e.position ++ (10 ∷ []))

unfoldable pub entries_bytes : List Entry → List ℕ
entries_bytes [] = []
entries_bytes (e ∷ es) = entry_bytes e ++ entries_bytes es

abbrev pub lines_bytes : Listing → List ℕ
lines_bytes l = line_bytes l.first ++ entries_bytes l.entries

-- the listing of a sheet
unfoldable pub listing_of : List ℕ → List ℕ
listing_of sheet = lines_bytes (lines_of_sheet (parse sheet))

-- The output: the listing, then zeros, and its length; all zeros, and 0, if it doesn't fit.
unfoldable pub printed : List ℕ → List ℕ → List ℕ
printed listing out =
    cond (leb (length listing) (length out)) (listing ++ replicate (length out - length listing) 0) (replicate (length out) 0)

unfoldable pub printed_count : List ℕ → List ℕ → ℕ
printed_count listing out = cond (leb (length listing) (length out)) (length listing) 0

pub record Printed (listing before after : List ℕ) (r : ℕ) : Type 0 where
  pub count : r ≡ printed_count listing before
  pub bytes : after ≡ printed listing before
