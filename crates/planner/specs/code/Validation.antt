-- What the code's validation of a pattern's names makes, and what its functions ask.
use Rattle.std.specs.Prelude.{ℕ, zero, suc, ◌+◌, ◌-◌, ◌*◌, ◌/◌, ◌^◌, ◌<◌, ◌≡◌, Bool, true, false, cond, ◌&&◌, not, List, [], ◌∷◌, ◌++◌, eqb, leb, length, get_or}
use Rattle.scope.specs.declared.Scope.{Scope}
use Rattle.scope.specs.declared.ScopingMode.{ScopingMode}
use Rattle.scope.specs.declared.ScopingMode.TheVariants.{RespectParent}
use Rattle.scope.specs.Scope.{is_unbound}
use Rattle.table.specs.declared.NameClass.{NameClass}
use Rattle.table.specs.declared.NameClass.TheVariants.{Underscore, InputOrData, Ordinary}
use Rattle.table.specs.Tables.{Tables, kind_of, first_word_of, count_of, child_at, name_bytes}
use Rattle.table.specs.Names.{class_of}
use Rattle.table.specs.Expr.{Expr}
use Rattle.table.specs.Decode.{expr}
use Rattle.planner.specs.Names.{Occurrence, occurrences, first_node, unbound_mark}
use Rattle.planner.specs.Operations.{Outcome, checked_first, reserved, validated, unless_defined, pattern_planned}
use Rattle.planner.specs.code.Passes.{binder_of}
use Rattle.base.specs.Lists.{tabulate}

-- 1 for a name with no binder that is known
abbrev pub defined_mark : ℕ → Bool → ℕ
defined_mark binder unbound = cond (eqb binder 0) (cond unbound 0 1) 0

-- by the rule: a name that is unbound, or one that is defined already
abbrev pub mark_if : Bool → ℕ → Bool → ℕ
mark_if defined binder unbound = cond defined (defined_mark binder unbound) (unbound_mark unbound)

-- a name's flag, 2 for `_`; `input` and `data` are never defined already
abbrev pub flag_by : Bool → NameClass → ℕ → Bool → ℕ
flag_by defined Underscore binder unbound = 2
flag_by defined InputOrData binder unbound = mark_if defined 1 unbound
flag_by defined Ordinary binder unbound = mark_if defined binder unbound

-- the flag of name x; 0 where the table does not have it
abbrev pub flag_of : List ℕ → List ℕ → Scope → ScopingMode → Bool → List ℕ → ℕ → ℕ
flag_of names text s mode defined binders x =
    cond (leb x (length names / 2)) (flag_by defined (class_of (name_bytes names text x)) (binder_of binders x) (is_unbound s mode x)) 0

-- the flags of all names, by their numbers
abbrev pub flags_of : List ℕ → List ℕ → Scope → ScopingMode → Bool → List ℕ → List ℕ
flags_of names text s mode defined binders = tabulate (flag_of names text s mode defined binders) 1 128

abbrev pub marked_in : List ℕ → ℕ → Bool
marked_in states x = eqb (get_or states (x - 1) 0) 1

-- the occurrences in the children at `at`, `at + step` and so on, k of them
unfoldable pub occurrences_from : Bool → Bool → (ℕ → Expr) → List ℕ → ℕ → ℕ → ℕ → List Occurrence
occurrences_from sets keys g ch at step zero = []
occurrences_from sets keys g ch at step (suc k) = occurrences sets keys (g (child_at ch at)) ++ occurrences_from sets keys g ch (at + step) step k

-- the same of a table
abbrev pub occurrences_below : Bool → Bool → Tables → ℕ → ℕ → ℕ → List Occurrence
occurrences_below sets keys T at step k = occurrences_from sets keys (expr T) T.children at step k

-- child entries at `at`, `at + step` and so on, `left` of them
pub record Places : Type 0 where
  pub at : ℕ
  pub step : ℕ
  pub left : ℕ

abbrev pub places : ℕ → ℕ → ℕ → Places
places at step left = record { at = at; step = step; left = left }

-- those below a node of this kind, first child entry and count
abbrev pub places_by : Bool → Bool → ℕ → ℕ → ℕ → Places
places_by sets keys kind first count =
    cond (eqb kind 7) (places first 1 count)
    (cond (eqb kind 8) (cond sets (places first 1 count) (places first 1 0))
    (cond (eqb kind 9) (cond keys (places first 1 (count * 2)) (places (first + 1) 2 count)) (places first 1 0)))

pub record SpanOf (nodes : List ℕ) (sets keys : Bool) (n at step left : ℕ) : Type 0 where
  pub is : places at step left ≡ places_by sets keys (kind_of nodes n) (first_word_of nodes n) (count_of nodes n)
  pub small : at + left * step < 2 ^ 40

-- The first name that is defined already, by the binders of the pattern's plan.
abbrev pub defined_in : Tables → Scope → List ℕ → ℕ → Bool
defined_in T s binders x = not (reserved T x) && (eqb (binder_of binders x) 0 && not (is_unbound s RespectParent x))

abbrev pub first_defined : Tables → Scope → List ℕ → ℕ → ℕ
first_defined T s binders root = first_node (defined_in T s binders) (occurrences true false (expr T root))

-- the plan of a pattern; if it is validated, a name that is defined already refuses
abbrev pub planned_if : Bool → Tables → Scope → ScopingMode → ℕ → Outcome
planned_if validate T s mode root = cond validate (unless_defined (validated T s mode root) (pattern_planned T s mode root)) (pattern_planned T s mode root)

abbrev pub outcome_if : Bool → Tables → Scope → ScopingMode → ℕ → Outcome
outcome_if validate T s mode root = checked_first T s (root ∷ []) (planned_if validate T s mode root)
