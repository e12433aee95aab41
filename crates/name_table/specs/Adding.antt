-- Request 8 of document 02: adding a name to the lent name table.
use Rattle.std.specs.Prelude.{ℕ, zero, suc, ◌+◌, ◌*◌, ◌/◌, ◌%◌, Bool, false, cond, ◌&&◌, List, [], ◌∷◌, ◌++◌, eqb, leb, ltb, length, take, drop, Option, Some, None}
use Rattle.base.specs.Lists.{part}
use Rattle.base.specs.Refusal.{Refusal, over_limit, breaks_rules, Tested, require, require_or, tested_or, Line, line, refusal_line, no_place}
use Rattle.scope.specs.Scope.{new_scope}
use Rattle.table.specs.Tables.{Tables, tables, node_count, number_count, name_bytes}
use Rattle.table.specs.Names.{same_bytes}
use Rattle.table.specs.Rules.{counts_within_limits, name_ok}
use Rattle.table.specs.Check.{checked}

-- The name table is lent with all its places, a pair of words each; the first `used` hold the names in use, and no other is read.
abbrev pub places : List ℕ → ℕ
places names = length names / 2

-- the tables with another name table
abbrev pub with_names : Tables → List ℕ → Tables
with_names T names = tables T.nodes T.children T.numbers names T.strings T.text

-- the tables with the names in use alone
abbrev pub in_use : Tables → ℕ → Tables
in_use T used = with_names T (take (used * 2) T.names)

-- the limits, where the names are those in use
abbrev pub in_use_within_limits : Tables → ℕ → Bool
in_use_within_limits T used = counts_within_limits (node_count T) (length T.children) (number_count T) used (length T.strings) (length T.text)

-- The name table is whole pairs, and each name in use has its place.
abbrev pub has_names : List ℕ → ℕ → Bool
has_names names used = eqb (length names % 2) 0 && leb used (places names)

-- The table check of the names in use. Adding reads no scope: the check is made with one without marks.
unfoldable pub checked_in_use : Tables → ℕ → Tested
checked_in_use T used =
    require (in_use_within_limits T used) over_limit
    (require (has_names T.names used) breaks_rules
    (checked (in_use T used) (new_scope 0 false)))

-- do the table rules allow a name of this range of the text?
unfoldable pub allowed : List ℕ → ℕ → ℕ → Bool
allowed text start size = name_ok (tables [] [] [] (start ∷ (size ∷ [])) [] text) 1

-- the first of k names from name x on that has these bytes, or 0
unfoldable pub number_from : List ℕ → List ℕ → List ℕ → ℕ → ℕ → ℕ
number_from names text bytes x zero = 0
number_from names text bytes x (suc k) = cond (same_bytes (name_bytes names text x) bytes) x (number_from names text bytes (x + 1) k)

-- the number as the code has it: none for 0
abbrev pub number_or_none : ℕ → Option ℕ
number_or_none x = cond (eqb x 0) None (Some x)

-- the name in use that has the bytes of a range of the text, or 0
abbrev pub number_with_bytes : Tables → ℕ → ℕ → ℕ → ℕ
number_with_bytes T used start size = number_from T.names T.text (part T.text start size) 1 used

-- a 129th name has no place either
abbrev pub has_place : List ℕ → ℕ → Bool
has_place names used = ltb used (places names) && ltb used 128

pub data AddOutcome : Type 0 where
  refused : Refusal → AddOutcome
  -- equal bytes give the existing number
  existing : ℕ → AddOutcome
  -- others go at the end
  added : ℕ → AddOutcome

-- bytes that no name has
unfoldable pub at_end : List ℕ → ℕ → AddOutcome
at_end names used = require_or refused (has_place names used) no_place (added (used + 1))

-- by the number of the name that has the bytes, or 0
abbrev pub existing_or_added : List ℕ → ℕ → ℕ → AddOutcome
existing_or_added names used number = cond (eqb number 0) (at_end names used) (existing number)

-- the table check, 2 for a name that the rules don't allow, 33
unfoldable pub add_outcome : Tables → ℕ → ℕ → ℕ → AddOutcome
add_outcome T used start size =
    tested_or refused (checked_in_use T used)
    (require_or refused (allowed T.text start size) breaks_rules
    (existing_or_added T.names used (number_with_bytes T used start size)))

-- 0, the name's number, 1 where it was added; or the refusal's numbers
abbrev pub add_line : AddOutcome → Line
add_line (refused r) = refusal_line r
add_line (existing x) = line 0 x 0 0
add_line (added x) = line 0 x 1 0

-- the lent name table afterwards: a new name stands in the first free place, all other words as they were
abbrev pub names_after : AddOutcome → List ℕ → ℕ → ℕ → ℕ → List ℕ
names_after (refused r) names used start size = names
names_after (existing x) names used start size = names
names_after (added x) names used start size = take (used * 2) names ++ (start ∷ (size ∷ drop (used * 2 + 2) names))

-- how many names are then in use
abbrev pub used_after : AddOutcome → ℕ → ℕ
used_after (refused r) used = used
used_after (existing x) used = used
used_after (added x) used = x
