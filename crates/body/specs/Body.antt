-- A whole rule body (request 14 of document 02): its lines planned in turn from one scope, at version 0; the answer, the scope and the plan buffer afterwards.
use Rattle.std.specs.Prelude.{ℕ, ◌+◌, ◌≡◌, Result, Ok, Err, List, [], ◌∷◌, eqb, length}
use Rattle.base.specs.Lent.{MutSlices}
use Rattle.base.specs.Refusal.{Refusal, plan_too_large, not_a_body, name_not_ready, require_or, Line, line, refusal_line}
use Rattle.scope.specs.declared.Scope.{Scope}
use Rattle.scope.specs.Scope.{bind_variable}
use Rattle.table.specs.Tables.{Tables}
use Rattle.planner.specs.Answer.{line_of}
use Rattle.planner.specs.Operations.{Outcome, refused, planned, require, fits, zeros, written}
use Rattle.operation.specs.declared.Operation.{Operation}
use Rattle.operation.specs.Operation.{operation_outcome}
use Rattle.planner.specs.declared.Plan.{Plan}
use Rattle.body.specs.declared.BodyRefusal.{BodyRefusal}
use Rattle.body.specs.declared.BodyRefusal.TheVariants.{NotABody, LineRefused, NameNotReady}
use Rattle.body.specs.declared.BodyPlanned.{BodyPlanned}
use Rattle.body.specs.Lines.{operations_of, is_body}
use Rattle.body.specs.Ready.{names_bound, sides_of, first_not_ready}

-- A line's own refusals: 6 is the last.
abbrev pub unless_too_large : List ℕ → Outcome → Outcome
unless_too_large buffer (refused r) = refused r
unless_too_large buffer (planned form which es) = require (fits es buffer) (plan_too_large (length es)) (planned form which es)

-- After these a name that is not ready refuses.
abbrev pub unless_not_ready : Tables → Scope → Operation → Outcome → Outcome
unless_not_ready T s operation (refused r) = refused r
unless_not_ready T s operation (planned form which es) =
    let node = first_not_ready T s (sides_of T operation form which es) in
    require (eqb node 0) (name_not_ready node) (planned form which es)

unfoldable pub line_outcome : Tables → List ℕ → Scope → Operation → Outcome
line_outcome T buffer s operation = unless_not_ready T s operation (unless_too_large buffer (operation_outcome T s operation))

-- What a plan binds is bound in the scope.
unfoldable pub bind_all : Scope → List ℕ → Scope
bind_all s [] = s
bind_all s (x ∷ xs) = bind_all (bind_variable s x) xs

abbrev pub bind_plan : Tables → Scope → Outcome → Scope
bind_plan T s (refused r) = s
bind_plan T s (planned form which es) = bind_all s (names_bound T es)

pub data BodyOutcome : Type 0 where
  -- the line from 1, or 0, and its refusal
  refused_at : ℕ → Refusal → BodyOutcome
  -- the scope afterwards, and the last line's plan
  accepted : Scope → Outcome → BodyOutcome

-- a line's refusal ends the body
abbrev pub unless_refused : ℕ → Outcome → (Outcome → BodyOutcome) → BodyOutcome
unless_refused n (refused r) next = refused_at n r
unless_refused n (planned form which es) next = next (planned form which es)

-- the lines from line n on, after one that came to `last`
unfoldable pub body_from : Tables → List ℕ → ℕ → Scope → Outcome → List Operation → BodyOutcome
body_from T buffer n s last [] = accepted s last
body_from T buffer n s last (operation ∷ rest) = unless_refused n (line_outcome T buffer s operation) (λ o. body_from T buffer (n + 1) (bind_plan T s o) o rest)

-- before the first line
abbrev pub no_plan : Outcome
no_plan = planned 0 0 []

unfoldable pub body_outcome : Tables → Scope → List ℕ → List ℕ → BodyOutcome
body_outcome T s words buffer = require_or (refused_at 0) (is_body words) not_a_body (body_from T buffer 1 s no_plan (operations_of words))

-- An answer in numbers: 0, form, side and entries of the last line, or a refusal's number, place and two counts; then the line refused, from 1, or 0.
pub record BodyLine : Type 0 where
  pub numbers : Line
  pub line : ℕ

abbrev pub body_line : Line → ℕ → BodyLine
body_line numbers line = record { numbers = numbers; line = line }

abbrev pub line_answered : ℕ → Outcome → BodyLine
line_answered n (refused r) = body_line (refusal_line r) n
line_answered n (planned form which es) = body_line (line 0 form which (length es)) 0

unfoldable pub body_answered : BodyOutcome → BodyLine
body_answered (refused_at n r) = body_line (refusal_line r) n
body_answered (accepted s last) = line_answered 0 last

-- the scope afterwards; of a refused body as given
unfoldable pub scope_after : Scope → BodyOutcome → Scope
scope_after s (refused_at n r) = s
scope_after s (accepted t last) = t

-- the plan buffer holds the last line's plan; of a refused body all zeros
unfoldable pub body_written : BodyOutcome → List ℕ → List ℕ
body_written (refused_at n r) buffer = zeros buffer
body_written (accepted s last) buffer = written last buffer

-- what the code's answer says
abbrev pub body_line_of : Result Plan BodyRefusal → BodyLine
body_line_of (Ok p) = body_line (line 0 p.form p.side p.entries) 0
body_line_of (Err NotABody) = body_line (refusal_line not_a_body) 0
body_line_of (Err (LineRefused n r)) = body_line (line_of (Err r)) n
body_line_of (Err (NameNotReady n name)) = body_line (refusal_line (name_not_ready name)) n

pub record BodyAnswered (o : BodyOutcome) (s : Scope) (before after : List ℕ) (r : BodyPlanned) : Type 0 where
  pub answer : body_line_of r.answer ≡ body_answered o
  pub scope : r.scope ≡ scope_after s o
  pub buffer : after ≡ body_written o before

-- the same of a `&mut` buffer, at entry and at exit
abbrev pub BodyAnsweredIn : MutSlices → Scope → BodyOutcome → BodyPlanned → Type 0
BodyAnsweredIn plan s o r = BodyAnswered o s plan.entry.now plan.exit.now r
