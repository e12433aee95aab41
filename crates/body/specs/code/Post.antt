-- What the functions of a body's check ask and leave.
use Rattle.std.specs.Prelude.{ℕ, ◌-◌, ◌*◌, ◌≤◌, ◌<◌, ◌≡◌, Bool, true, false, cond, Result, Ok, Err, is_ok, List, [], ◌∷◌, eqb, length, get_or, set}
use Rattle.base.specs.Lent.{MutSlices}
use Rattle.base.specs.Refusal.{passed}
use Rattle.scope.specs.declared.Scope.{Scope}
use Rattle.scope.specs.declared.ScopingMode.TheVariants.{RespectParent}
use Rattle.scope.specs.Scope.{is_name, bind_variable}
use Rattle.table.specs.Tables.{Tables, first_word_of}
use Rattle.table.specs.Check.{checked}
use Rattle.planner.specs.Layout.{entry_words, bound_names}
use Rattle.planner.specs.Names.{states_of}
use Rattle.planner.specs.Entries.{read_entries}
use Rattle.planner.specs.Operations.{Outcome, refused, planned, zeros, written}
use Rattle.operation.specs.declared.Operation.{Operation}
use Rattle.operation.specs.declared.Operation.TheVariants.{Pattern, ColonEquals, Equals, SomeIn, Index, Parameter}
use Rattle.body.specs.declared.sides.Sides.{Sides}
use Rattle.planner.specs.declared.Plan.{Plan}
use Rattle.body.specs.declared.BodyRefusal.{BodyRefusal}
use Rattle.body.specs.declared.LinePlanned.{LinePlanned}
use Rattle.body.specs.Ready.{side, one_side, first_in, first_not_ready, pair_sides, computed_key_sides, value_sides, sides_of}
use Rattle.body.specs.Body.{unless_not_ready, line_outcome, bind_all, bind_plan, line_answered, body_line_of}

-- an entry, and the entries of a plan buffer, bound
abbrev pub bound_entry : List ℕ → Scope → ℕ → ℕ → Scope
bound_entry nodes s kind node = cond (eqb kind 1) (bind_variable s (first_word_of nodes node)) s

abbrev pub bound_plan : List ℕ → Scope → List ℕ → ℕ → Scope
bound_plan nodes s plan count = bind_all s (bound_names (first_word_of nodes) (read_entries plan 0 count))

-- what the scope says of all names, as the code holds it: 1 unbound
abbrev pub StatesOf : Tables → Scope → List ℕ → Type 0
StatesOf T s states = states ≡ states_of T.names T.text s RespectParent

-- a name that is bound is known; `_` stays
abbrev pub learned : List ℕ → ℕ → List ℕ
learned states x = cond (is_name x) (cond (eqb (get_or states (x - 1) 0) 1) (set states (x - 1) 0) states) states

abbrev pub learned_entry : List ℕ → List ℕ → ℕ → ℕ → List ℕ
learned_entry nodes states kind node = cond (eqb kind 1) (learned states (first_word_of nodes node)) states

unfoldable pub learned_all : List ℕ → List ℕ → List ℕ
learned_all states [] = states
learned_all states (x ∷ xs) = learned_all (learned states x) xs

abbrev pub learned_plan : List ℕ → List ℕ → List ℕ → ℕ → List ℕ
learned_plan nodes states plan count = learned_all states (bound_names (first_word_of nodes) (read_entries plan 0 count))

-- the scope and the states with a plan's names bound
pub record PlanBound (nodes : List ℕ) (s : Scope) (states plan : List ℕ) (count : ℕ) (after : List ℕ) (r : Scope) : Type 0 where
  pub scope : r ≡ bound_plan nodes s plan count
  pub states_are : after ≡ learned_plan nodes states plan count

-- tables that pass the check with a scope, and what it says of all names
pub record Asks (T : Tables) (s : Scope) (states : List ℕ) : Type 0 where
  pub sound : checked T s ≡ passed
  pub states_are : StatesOf T s states

-- one node, or two, with no earlier pair
abbrev pub first_unknown : Tables → Scope → ℕ → ℕ
first_unknown T s node = first_in T s (side node [])

abbrev pub both_unknown : Tables → Scope → ℕ → ℕ → ℕ
both_unknown T s first second = first_not_ready T s (side first [] ∷ one_side second)

-- a plan of `count` entries, in tables that pass the check
pub record PlanHeld (T : Tables) (s : Scope) (states plan : List ℕ) (count : ℕ) : Type 0 where
  pub asks : Asks T s states
  pub held : count * entry_words ≤ length plan
  pub few : count < 1000000

abbrev pub pairs_found : Tables → Scope → List ℕ → ℕ → ℕ
pairs_found T s plan count = first_not_ready T s (pair_sides T [] (read_entries plan 0 count))

abbrev pub keys_found : Tables → Scope → List ℕ → ℕ → ℕ
keys_found T s plan count = first_not_ready T s (computed_key_sides T [] [] (read_entries plan 0 count))

abbrev pub values_found : Tables → Scope → Operation → ℕ → ℕ → List ℕ → ℕ → ℕ
values_found T s operation form which plan count = first_not_ready T s (value_sides T operation form which (read_entries plan 0 count))

abbrev pub line_found : Tables → Scope → Operation → ℕ → ℕ → List ℕ → ℕ → ℕ
line_found T s operation form which plan count = first_not_ready T s (sides_of T operation form which (read_entries plan 0 count))

-- the value sides as the code has them
abbrev pub nodes_by : ℕ → ℕ → Sides
nodes_by first second = record { pairs = false; first = first; second = second }

abbrev pub other_by : ℕ → ℕ → ℕ → Sides
other_by left right which = cond (eqb which 1) (nodes_by right 0) (cond (eqb which 2) (nodes_by left 0) (nodes_by 0 0))

abbrev pub equals_by : ℕ → ℕ → ℕ → ℕ → Sides
equals_by left right form which =
    cond (eqb form 2) (nodes_by right 0)
    (cond (eqb form 3) (nodes_by left 0)
    (cond (eqb form 4) (record { pairs = true; first = 0; second = 0 })
    (cond (eqb form 5) (nodes_by left right)
    (other_by left right which))))

abbrev pub sides_by : Operation → ℕ → ℕ → Sides
sides_by (ColonEquals left right reading) form which = nodes_by right 0
sides_by (Equals left right reading) form which = equals_by left right form which
sides_by (SomeIn value collection key reading) form which = nodes_by collection 0
sides_by (Index root) form which = nodes_by 0 0
sides_by (Pattern scoping root) form which = nodes_by 0 0
sides_by (Parameter scoping root) form which = nodes_by 0 0

abbrev pub is_planned : Outcome → Bool
is_planned (refused r) = false
is_planned (planned form which es) = true

-- the answer of a line, and the scope after it
abbrev pub line_answer : Result LinePlanned BodyRefusal → Result Plan BodyRefusal
line_answer (Ok p) = Ok p.plan
line_answer (Err r) = Err r

abbrev pub line_scope : Scope → Result LinePlanned BodyRefusal → Scope
line_scope s (Ok p) = p.scope
line_scope s (Err r) = s

-- a line that came to an outcome: the answer, the scope with what it binds and what that says of all names, the plan buffer
pub record LineDone (T : Tables) (s : Scope) (n : ℕ) (o : Outcome) (buffer after known : List ℕ) (r : Result LinePlanned BodyRefusal) : Type 0 where
  pub planned_is : is_ok r ≡ is_planned o
  pub answer : body_line_of (line_answer r) ≡ line_answered n o
  pub scope : line_scope s r ≡ bind_plan T s o
  pub plan : after ≡ buffer
  pub states_are : StatesOf T (line_scope s r) known

abbrev pub LineDoneIn : MutSlices → List ℕ → Tables → Scope → Operation → ℕ → Result LinePlanned BodyRefusal → Type 0
LineDoneIn plan known T s operation n r =
    let o = line_outcome T plan.entry.now s operation in
    LineDone T s n o (written o plan.entry.now) plan.exit.now known r

-- one whose plan is in the buffer
abbrev pub cleared : Outcome → List ℕ → List ℕ
cleared o buffer = cond (is_planned o) buffer (zeros buffer)

abbrev pub SettledIn : MutSlices → List ℕ → Tables → Scope → Operation → ℕ → Plan → Result LinePlanned BodyRefusal → Type 0
SettledIn plan known T s operation n p r =
    let o = unless_not_ready T s operation (planned p.form p.side (read_entries plan.entry.now 0 p.entries)) in
    LineDone T s n o (cleared o plan.entry.now) plan.exit.now known r
