-- What adding a name means for the names, the table check and the trees of the nodes.
use Rattle.std.specs.Prelude.{ℕ, ◌+◌, ◌*◌, ◌≤◌, ◌<◌, ◌≡◌, ◌⊎◌, true, false, length, get_or}
use Rattle.base.specs.Lists.{part}
use Rattle.base.specs.Refusal.{passed}
use Rattle.scope.specs.declared.Scope.{Scope}
use Rattle.scope.specs.Names.{is_name}
use Rattle.scope.specs.Scope.{new_scope}
use Rattle.table.specs.Tables.{Tables, name_bytes}
use Rattle.table.specs.Decode.{expr}
use Rattle.table.specs.Check.{checked}
use Rattle.name_table.specs.Adding.{with_names, in_use, has_names, checked_in_use, allowed, AddOutcome, existing, added, add_outcome, names_after, used_after}

-- x is a name in use and has the bytes of a range of the text
pub record Has (T : Tables) (used start size x : ℕ) : Type 0 where
  pub low : 1 ≤ x
  pub high : x ≤ used
  pub bytes : name_bytes T.names T.text x ≡ part T.text start size

module _ (T : Tables) (used start size : ℕ) where
  abbrev pub outcome : AddOutcome
  outcome = add_outcome T used start size

  -- the tables afterwards, and how many names are then in use
  abbrev pub tables_then : Tables
  tables_then = with_names T (names_after outcome T.names used start size)

  abbrev pub used_then : ℕ
  used_then = used_after outcome used

  pub record NameLaws : Type 0 where
    -- where the table has the names in use, their check is the table check
    pub table_check_lem : has_names T.names used ≡ true → checked_in_use T used ≡ checked (in_use T used) (new_scope 0 false)
    -- the number returned is that of a name with exactly these bytes
    pub existing_has_lem : (x : ℕ) → outcome ≡ existing x → Has T used start size x
    pub added_has_lem : (x : ℕ) → outcome ≡ added x → Has tables_then used_then start size x
    -- and one that the scope calls take
    pub existing_is_name_lem : (x : ℕ) → outcome ≡ existing x → is_name x ≡ true
    pub added_is_name_lem : (x : ℕ) → outcome ≡ added x → is_name x ≡ true
    -- a name in use that has them is the one returned; a name is added only where none has them, at the end
    pub finds : checked_in_use T used ≡ passed → allowed T.text start size ≡ true → (x : ℕ) → Has T used start size x → outcome ≡ existing x
    pub adds : (x : ℕ) → outcome ≡ added x → (x ≡ used + 1) × ((y : ℕ) → Has T used start size y → ⊥)
    -- and from then on it is found
    pub again : (x : ℕ) → outcome ≡ added x → add_outcome tables_then used_then start size ≡ existing x
    -- the names before keep their numbers and bytes
    pub keeps : (x : ℕ) → x ≤ used → name_bytes (in_use tables_then used_then).names T.text x ≡ name_bytes (in_use T used).names T.text x
    -- the name table keeps its length, and every word but the two of the first free place
    pub length_stays_lem : length tables_then.names ≡ length T.names
    pub others_stay_lem : (i : ℕ) → (i < used * 2) ⊎ (used * 2 + 2 ≤ i) → get_or tables_then.names i 0 ≡ get_or T.names i 0
    pub grows : used ≤ used_then
    -- tables that pass the check, with any scope, pass it with that scope afterwards; so they do for the next name
    pub sound : (s : Scope) → checked (in_use T used) s ≡ passed → checked (in_use tables_then used_then) s ≡ passed
    pub ready : checked_in_use T used ≡ passed → checked_in_use tables_then used_then ≡ passed
    -- the tree of every node stays
    pub trees : (n : ℕ) → expr (in_use tables_then used_then) n ≡ expr (in_use T used) n
