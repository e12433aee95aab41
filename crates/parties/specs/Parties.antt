-- Request 8 of document 02: house rules and shop rules over one set of tables, each party with a scope of its own.
use Rattle.std.specs.Prelude.{ℕ, Bool, true, false, cond, List, [], ◌∷◌}
use Rattle.base.specs.Refusal.{Tested, Line}
use Rattle.scope.specs.declared.Scope.{Scope}
use Rattle.scope.specs.declared.ScopingMode.{ScopingMode}
use Rattle.scope.specs.Scope as Scope
use Rattle.scope.specs.Scope.{known, bind_variable, add_unbound_variable, child_of}
use Rattle.table.specs.Tables.{Tables}
use Rattle.table.specs.Decode.{expr}
use Rattle.planner.specs.Operations.{answered, written}
use Rattle.operation.specs.declared.Operation.{Operation}
use Rattle.operation.specs.Version.{version_outcome}
use Rattle.run.specs.Answer.{RunResult}
use Rattle.run.specs.Operations.{run_outcome, run_answer, plan_after, planned_name, values_after}
use Rattle.report.specs.Report.{report_outcome, report_answer, report_list}
use Rattle.body.specs.Body as Body
use Rattle.body.specs.Body.{BodyLine, body_outcome, body_answered, body_written}
use Rattle.name_table.specs.Adding.{in_use, add_outcome, add_line}
use Rattle.name_table.specs.Laws.{tables_then, used_then}

-- What both share: the tables, the name table with all its places, and how many names are in use.
pub record Shared : Type 0 where
  pub tables : Tables
  pub used : ℕ

-- as plans, bodies, runs and reports are lent them
abbrev pub lent_tables : Shared → Tables
lent_tables m = in_use m.tables m.used

-- What a party may call, with its buffers and lists as it lends them.
pub data PartyCall : Type 0 where
  -- a version of Rego, the operation, the plan buffer
  plan : ℕ → Operation → List ℕ → PartyCall
  -- the words of a rule body, the plan buffer
  body : List ℕ → List ℕ → PartyCall
  -- scoping, pattern, value, the list of value nodes, the plan buffer
  run : ScopingMode → ℕ → ℕ → List ℕ → List ℕ → PartyCall
  -- scoping, pattern, the list
  report : ScopingMode → ℕ → List ℕ → PartyCall
  bind : ℕ → PartyCall
  add_unbound : ℕ → PartyCall
  child : PartyCall
  -- a range of the text
  add_name : ℕ → ℕ → PartyCall
  -- rules are loaded: the tables are then these
  load : Shared → PartyCall

-- What it gets back: the answer, and what it lent as it then stands.
pub data Seen : Type 0 where
  planned : Line → List ℕ → Seen
  body_planned_lem : BodyLine → List ℕ → Seen
  ran : RunResult → List ℕ → List ℕ → Seen
  reported : Line → List ℕ → Seen
  scoped : Tested → Seen
  named : Line → Seen
  done : Seen

-- of a call on the shared tables with a scope
unfoldable pub seen : PartyCall → Shared → Scope → Seen
seen (plan version operation buffer) m s =
    let o = version_outcome (lent_tables m) s version operation in
    planned (answered o buffer) (written o buffer)
seen (body lines buffer) m s =
    let o = body_outcome (lent_tables m) s lines buffer in
    body_planned_lem (body_answered o) (body_written o buffer)
seen (run mode pattern value values buffer) m s =
    let o = run_outcome (lent_tables m) s mode pattern value values in
    ran (run_answer o buffer) (values_after (planned_name (known s mode) (expr (lent_tables m) pattern)) o buffer values) (plan_after o buffer)
seen (report mode pattern list) m s =
    let o = report_outcome (lent_tables m) s pattern list in
    reported (report_answer o) (report_list o (lent_tables m) s mode pattern list)
seen (bind x) m s = scoped (Scope.named x)
seen (add_unbound x) m s = scoped (Scope.named x)
seen child m s = done
seen (add_name start size) m s = named (add_line (add_outcome m.tables m.used start size))
seen (load n) m s = done

-- what a call makes of the scope that it is given
unfoldable pub scope_after_call : PartyCall → Shared → Scope → Scope
scope_after_call (plan version operation buffer) m s = s
scope_after_call (body lines buffer) m s = Body.scope_after s (body_outcome (lent_tables m) s lines buffer)
scope_after_call (run mode pattern value values buffer) m s = s
scope_after_call (report mode pattern list) m s = s
scope_after_call (bind x) m s = bind_variable s x
scope_after_call (add_unbound x) m s = add_unbound_variable s x
scope_after_call child m s = child_of s
scope_after_call (add_name start size) m s = s
scope_after_call (load n) m s = s

-- and of the tables that both share
unfoldable pub shared_after : PartyCall → Shared → Shared
shared_after (plan version operation buffer) m = m
shared_after (body lines buffer) m = m
shared_after (run mode pattern value values buffer) m = m
shared_after (report mode pattern list) m = m
shared_after (bind x) m = m
shared_after (add_unbound x) m = m
shared_after child m = m
shared_after (add_name start size) m = record { tables = tables_then m.tables m.used start size; used = used_then m.tables m.used start size }
shared_after (load n) m = n

pub data Party : Type 0 where
  house : Party
  shop : Party

-- one set of tables, two scopes
pub record State : Type 0 where
  pub shared : Shared
  pub house_scope : Scope
  pub shop_scope : Scope

abbrev pub party_scope : Party → State → Scope
party_scope house t = t.house_scope
party_scope shop t = t.shop_scope

abbrev pub with_scope : Party → Scope → State → State
with_scope house s t = record { shared = t.shared; house_scope = s; shop_scope = t.shop_scope }
with_scope shop s t = record { shared = t.shared; house_scope = t.house_scope; shop_scope = s }

abbrev pub with_shared : Shared → State → State
with_shared m t = record { shared = m; house_scope = t.house_scope; shop_scope = t.shop_scope }

-- A party calls with its own scope on the tables as they stand: what it sees, and the state that it leaves.
abbrev pub sees : Party → PartyCall → State → Seen
sees p c t = seen c t.shared (party_scope p t)

abbrev pub leaves : Party → PartyCall → State → State
leaves p c t = with_shared (shared_after c t.shared) (with_scope p (scope_after_call c t.shared (party_scope p t)) t)

-- A history: calls of both, one after the other.
pub record Event : Type 0 where
  pub party : Party
  pub call : PartyCall

unfoldable pub finally : State → List Event → State
finally t [] = t
finally t (e ∷ es) = finally (leaves e.party e.call t) es

abbrev pub is_by : Party → Party → Bool
is_by house house = true
is_by house shop = false
is_by shop house = false
is_by shop shop = true

-- a party's calls, each with the tables that it met
pub record OwnCall : Type 0 where
  pub call : PartyCall
  pub tables : Shared

unfoldable pub own_calls : Party → State → List Event → List OwnCall
own_calls p t [] = []
own_calls p t (e ∷ es) =
    let later = own_calls p (leaves e.party e.call t) es in
    cond (is_by p e.party) (record { call = e.call; tables = t.shared } ∷ later) later

-- what it sees, call by call
unfoldable pub observed : Party → State → List Event → List Seen
observed p t [] = []
observed p t (e ∷ es) =
    let later = observed p (leaves e.party e.call t) es in
    cond (is_by p e.party) (sees p e.call t ∷ later) later
