-- What a name that is added leaves as it was: every plan and body, and every run and report whose list has a place for the name, with a scope that the tables accept.
-- So for these the two histories need not agree on the names that were added.
use Rattle.std.specs.Prelude.{ℕ, ◌≤◌, ◌<◌, ◌≡◌, List, length}
use Rattle.base.specs.Refusal.{passed}
use Rattle.scope.specs.declared.Scope.{Scope}
use Rattle.scope.specs.declared.ScopingMode.{ScopingMode}
use Rattle.table.specs.Tables.{name_count}
use Rattle.table.specs.Check.{checked}
use Rattle.operation.specs.declared.Operation.{Operation}
use Rattle.run.specs.Operations.{listed_node}
use Rattle.parties.specs.Parties.{Shared, lent_tables, plan, body, run, report, add_name, seen, scope_after_call, shared_after}

-- the shared tables once the name at a range of the text is added
abbrev pub with_name_added : Shared → ℕ → ℕ → Shared
with_name_added m start size = shared_after (add_name start size) m

-- a list has a place for every name then in use, with 0 for one that was added
pub record Long (m : Shared) (start size : ℕ) (list : List ℕ) : Type 0 where
  pub long : name_count (lent_tables (with_name_added m start size)) ≤ length list
  pub zero : (x : ℕ) → name_count (lent_tables m) < x → x ≤ name_count (lent_tables (with_name_added m start size)) → listed_node list x ≡ 0

pub record NamesStay (m : Shared) (start size : ℕ) (s : Scope) : Type 0 where
  pub plans : (version : ℕ) (operation : Operation) (buffer : List ℕ) → seen (plan version operation buffer) (with_name_added m start size) s ≡ seen (plan version operation buffer) m s
  pub bodies : (lines buffer : List ℕ)
      → (seen (body lines buffer) (with_name_added m start size) s ≡ seen (body lines buffer) m s)
      × (scope_after_call (body lines buffer) (with_name_added m start size) s ≡ scope_after_call (body lines buffer) m s)
  -- a run needs the list, a report its length
  pub runs : (mode : ScopingMode) (pattern value : ℕ) (values buffer : List ℕ) → Long m start size values
      → seen (run mode pattern value values buffer) (with_name_added m start size) s ≡ seen (run mode pattern value values buffer) m s
  pub reports : (mode : ScopingMode) (pattern : ℕ) (list : List ℕ) → name_count (lent_tables (with_name_added m start size)) ≤ length list
      → seen (report mode pattern list) (with_name_added m start size) s ≡ seen (report mode pattern list) m s

pub record StayingPromise : Type 0 where
  pub stay : (m : Shared) (start size : ℕ) (s : Scope) → checked (lent_tables m) s ≡ passed → NamesStay m start size s
