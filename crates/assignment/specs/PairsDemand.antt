-- Demand 3, last sentence: in the pairs of an accepted `=` between two simple patterns each name on a value side is known or bound by an earlier pair,
-- and no name is bound twice in all the pairs.
use Rattle.std.specs.Prelude.{ℕ, ◌≡◌, Bool, true, List}
use Rattle.scope.specs.declared.Scope.{Scope}
use Rattle.table.specs.Tables.{Tables}
use Rattle.table.specs.Expr.{Expr}
use Rattle.table.specs.Decode.{expr}
use Rattle.planner.specs.Answer.{planned_as}
use Rattle.planner.specs.Layout.{Entry}
use Rattle.planner.specs.Simple.{simple}
use Rattle.planner.specs.Operations.{planned, Answered}
use Rattle.planner.specs.Entries.{read_entries}
use Rattle.checks.specs.declared.Reading.{Reading}
use Rattle.assignment.specs.PairsPromise.{PairsPromise, EntriesPromise}
use Rattle.assignment.specs.declared.AssignOp.TheVariants.{Eq}
use Rattle.assignment.specs.Assignment.{assignment_outcome}

-- Of what is answered, in either reading: form 4 with its entries, and the entries in the plan buffer of whatever meets the contract of create_assignment_binding_plan.
pub record AnswerPromise (T : Tables) (s : Scope) (left right : ℕ) : Type 0 where
  pub entries : (reading : Reading) (side : ℕ) (es : List Entry) → assignment_outcome T s Eq left right reading ≡ planned 4 side es → EntriesPromise T s es
  pub buffer : (reading : Reading) (before after : List ℕ) (side count : ℕ) → Answered (assignment_outcome T s Eq left right reading) before after (planned_as 4 side count)
      → EntriesPromise T s (read_entries after 0 count)

pub record PairsDemand : Type 0 where
  pub pairs : (unbound : ℕ → Bool) (left right : Expr) → simple left ≡ true → simple right ≡ true → PairsPromise unbound left right
  pub answers : (T : Tables) (s : Scope) (left right : ℕ) → simple (expr T left) ≡ true → simple (expr T right) ≡ true → AnswerPromise T s left right
