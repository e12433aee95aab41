-- What a shape refusal means (request 12 of document 02): no values of each side's names and underscores make the sides equal.
use Rattle.std.specs.Prelude.{ℕ, ◌≤◌, ◌≡◌, Bool, true, List, Result}
use Rattle.scope.specs.declared.Scope.{Scope}
use Rattle.table.specs.Tables.{Tables}
use Rattle.table.specs.Expr.{Expr, array, Exprs, item}
use Rattle.table.specs.Decode.{expr}
use Rattle.planner.specs.declared.Plan.{Plan}
use Rattle.planner.specs.declared.PlanRefusal.{PlanRefusal}
use Rattle.planner.specs.Answer.{line_of}
use Rattle.planner.specs.Operations.{Outcome, Answered}
use Rattle.planner.specs.Simple.{simple}
use Rattle.checks.specs.declared.Reading.{Reading}
use Rattle.checks.specs.Joining.{is_mismatch}
use Rattle.checks.specs.Structure.{structure}
use Rattle.operation.specs.declared.Operation.TheVariants.{ColonEquals, Equals, SomeIn}
use Rattle.operation.specs.Version.{version_outcome}
use Rattle.value.specs.Value.{Value, Same}
use Rattle.matching.specs.Matching.{ProperValue, Blanks, Filling, fill}
use Rattle.shape_refusals.specs.Plain.{plain}

-- a side with a filling's values for its names and underscores
abbrev pub filled_by : (e : Expr) → Filling e → Value
filled_by e f = fill (λ x. (f.names x).value) e f.blanks

-- Each side has a filling of its own, so a name that both sides have may have two values.
abbrev pub NeverEqual : Expr → Expr → Type 0
NeverEqual l r = (f : Filling l) (g : Filling r) → Same (filled_by l f) (filled_by r g) → ⊥

-- The same where a name that both sides have is one name.
abbrev pub NeverEqualNames : Expr → Expr → Type 0
NeverEqualNames l r = (names : ℕ → ProperValue) (b : Blanks l) (c : Blanks r) → Same (fill (λ x. (names x).value) l b) (fill (λ x. (names x).value) r c) → ⊥

-- A refusal 12 to 16 as the answer r of a planning call, by its contract: the outcome, the plan buffer at entry and at exit, the answer.
pub record ShapeRefusal (o : Outcome) (before after : List ℕ) (r : Result Plan PlanRefusal) : Type 0 where
  pub contract : Answered o before after r
  pub least : 12 ≤ (line_of r).number
  pub most : (line_of r).number ≤ 16

-- an item of an array
pub data ItemOf (e : Expr) : Exprs → Type 0 where
  here : {es : Exprs} → ItemOf e (item e es)
  there : {d : Expr} {es : Exprs} → ItemOf e es → ItemOf e (item d es)

-- a collection that is an array, none of whose items of a kind can equal the pattern
pub record NoItemEqual (kind : Expr → Bool) (collection pattern : Expr) : Type 0 where
  pub node : ℕ
  pub items : Exprs
  pub is_array_lem : collection ≡ array node items
  pub no_item : (e : Expr) → ItemOf e items → kind e ≡ true → NeverEqual e pattern

-- Of sides of a kind, in either reading, for every version of Rego.
pub record MeansNoMatch (kind : Expr → Bool) : Type 0 where
  pub colon_equals : (T : Tables) (s : Scope) (version left right : ℕ) (reading : Reading) → kind (expr T left) ≡ true → kind (expr T right) ≡ true
      → (before after : List ℕ) (r : Result Plan PlanRefusal) → ShapeRefusal (version_outcome T s version (ColonEquals left right reading)) before after r
      → NeverEqual (expr T left) (expr T right)
  pub equals : (T : Tables) (s : Scope) (version left right : ℕ) (reading : Reading) → kind (expr T left) ≡ true → kind (expr T right) ≡ true
      → (before after : List ℕ) (r : Result Plan PlanRefusal) → ShapeRefusal (version_outcome T s version (Equals left right reading)) before after r
      → NeverEqual (expr T left) (expr T right)
  -- some-in: an item whose own check refuses cannot equal the value pattern
  pub one_item_lem : (reading : Reading) (e pattern : Expr) → kind e ≡ true → kind pattern ≡ true → is_mismatch (structure reading e pattern) ≡ true → NeverEqual e pattern
  -- so none can where all do: that is what some-in refuses
  pub some_in : (T : Tables) (s : Scope) (version value collection key : ℕ) (reading : Reading) → kind (expr T value) ≡ true
      → (before after : List ℕ) (r : Result Plan PlanRefusal) → ShapeRefusal (version_outcome T s version (SomeIn value collection key reading)) before after r
      → NoItemEqual kind (expr T collection) (expr T value)

pub record ShapeRefusalsPromise : Type 0 where
  -- of the sides that the request names
  pub of_plain : MeansNoMatch plain
  -- of all simple sides: keys that differ are enough, though their texts may agree, as in `{1: x, "1": y}`
  pub of_simple : MeansNoMatch simple
  pub plain_is_simple : (e : Expr) → plain e ≡ true → simple e ≡ true
  pub names : (l r : Expr) → NeverEqual l r → NeverEqualNames l r
