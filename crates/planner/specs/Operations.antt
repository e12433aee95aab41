-- The operations of the planner: the answer, and the plan buffer afterwards.
use Rattle.std.specs.Prelude.{ℕ, ◌*◌, ◌/◌, ◌≡◌, Bool, true, false, cond, List, [], ◌∷◌, ◌++◌, eqb, leb, length, drop, replicate, Result}
use Rattle.scope.specs.declared.Scope.{Scope}
use Rattle.scope.specs.declared.ScopingMode.{ScopingMode}
use Rattle.scope.specs.declared.ScopingMode.TheVariants.{RespectParent, AllowShadowing}
use Rattle.scope.specs.Scope.{is_unbound}
use Rattle.table.specs.declared.NameClass.{NameClass}
use Rattle.table.specs.declared.NameClass.TheVariants.{Underscore, InputOrData, Ordinary}
use Rattle.table.specs.Tables.{Tables, name_bytes}
use Rattle.base.specs.Lent.{MutSlices}
use Rattle.table.specs.Names.{class_of}
use Rattle.table.specs.Decode.{expr}
use Rattle.planner.specs.declared.Plan.{Plan}
use Rattle.planner.specs.declared.PlanRefusal.{PlanRefusal}
use Rattle.base.specs.Refusal.{Refusal, plan_too_large, variable_already_defined, require_or, Line, line, refusal_line, Tested, tested_or}
use Rattle.table.specs.Check.{checked_or}
use Rattle.planner.specs.Answer.{line_of}
use Rattle.planner.specs.Plan.{DestructuringPlan, plan, after}
use Rattle.planner.specs.Layout.{Entry, entry_words, top, entries, words}
use Rattle.planner.specs.Names.{occurrences, first_node}
use Rattle.planner.specs.Parameters.{already_defined}

-- What an operation comes to, the space of the buffer aside: a refusal, or form, side and entries.
pub data Outcome : Type 0 where
  refused : Refusal → Outcome
  planned : ℕ → ℕ → List Entry → Outcome

-- a buffer has space for one entry per whole `entry_words` words
abbrev pub space : List ℕ → ℕ
space buffer = length buffer / entry_words

abbrev pub fits : List Entry → List ℕ → Bool
fits es buffer = leb (length es) (space buffer)

abbrev pub zeros : List ℕ → List ℕ
zeros buffer = replicate (length buffer) 0

-- the last refusal: a plan larger than the buffer
unfoldable pub answered : Outcome → List ℕ → Line
answered (refused a) buffer = refusal_line a
answered (planned form side es) buffer = cond (fits es buffer) (line 0 form side (length es)) (refusal_line (plan_too_large (length es)))

-- the plan, then zeros; of a refusal, all zeros
unfoldable pub written : Outcome → List ℕ → List ℕ
written (refused a) buffer = zeros buffer
written (planned form side es) buffer = cond (fits es buffer) (words es ++ drop (entry_words * length es) (zeros buffer)) (zeros buffer)

pub record Answered (o : Outcome) (before after : List ℕ) (r : Result Plan PlanRefusal) : Type 0 where
  pub answer : line_of r ≡ answered o before
  pub buffer : after ≡ written o before

-- the same of a `&mut` buffer, at entry and at exit
abbrev pub AnsweredIn : MutSlices → Outcome → Result Plan PlanRefusal → Type 0
AnsweredIn plan o r = Answered o plan.entry.now plan.exit.now r

-- a test, its refusal, and the rest
abbrev pub require : Bool → Refusal → Outcome → Outcome
require = require_or refused

abbrev pub table_first : Tested → Outcome → Outcome
table_first = tested_or refused

-- every operation: the table check, then its roots, then the rest
abbrev pub checked_first : Tables → Scope → List ℕ → Outcome → Outcome
checked_first = checked_or refused

-- the plan of a pattern, from no names
abbrev pub plan_of : Tables → Scope → ScopingMode → ℕ → DestructuringPlan
plan_of T s mode root = plan (is_unbound s mode) (expr T root) []

abbrev pub pattern_planned : Tables → Scope → ScopingMode → ℕ → Outcome
pattern_planned T s mode root = planned 0 0 (entries (plan_of T s mode root) top)

abbrev pub pattern_outcome : Tables → Scope → ScopingMode → ℕ → Outcome
pattern_outcome T s mode root = checked_first T s (root ∷ []) (pattern_planned T s mode root)

-- a loop index respects the parent scope
abbrev pub index_outcome : Tables → Scope → ℕ → Outcome
index_outcome T s root = pattern_outcome T s RespectParent root

-- `input` and `data`
abbrev pub is_reserved : NameClass → Bool
is_reserved Underscore = false
is_reserved InputOrData = true
is_reserved Ordinary = false

unfoldable pub reserved : Tables → ℕ → Bool
reserved T x = is_reserved (class_of (name_bytes T.names T.text x))

-- the first name of a pattern that is defined already, or 0
unfoldable pub validated : Tables → Scope → ScopingMode → ℕ → ℕ
validated T s mode root =
    first_node (already_defined (reserved T) (is_unbound s RespectParent) (after (is_unbound s mode) (expr T root) [])) (occurrences true false (expr T root))

-- a name that is defined already refuses
abbrev pub unless_defined : ℕ → Outcome → Outcome
unless_defined node o = require (eqb node 0) (variable_already_defined node) o

-- only under AllowShadowing
abbrev pub parameter_check : Tables → Scope → ScopingMode → ℕ → ℕ
parameter_check T s RespectParent root = 0
parameter_check T s AllowShadowing root = validated T s AllowShadowing root

abbrev pub parameter_planned : Tables → Scope → ScopingMode → ℕ → Outcome
parameter_planned T s mode root = unless_defined (parameter_check T s mode root) (pattern_planned T s mode root)

abbrev pub parameter_outcome : Tables → Scope → ScopingMode → ℕ → Outcome
parameter_outcome T s mode root = checked_first T s (root ∷ []) (parameter_planned T s mode root)
