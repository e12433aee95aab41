-- What a body promises. Accepted: every name of a value side and of a computed key is known at the start or bound earlier.
-- Refused: which line is refused, by its own refusal or by the first name that is neither.
use Rattle.std.specs.Prelude.{ℕ, ◌+◌, ◌≡◌, Bool, true, false, ◌||◌, List, [], ◌∷◌, ◌++◌, length}
use Rattle.base.specs.Lists.{elem}
use Rattle.base.specs.Refusal.{Refusal, name_not_ready}
use Rattle.scope.specs.declared.Scope.{Scope}
use Rattle.scope.specs.declared.ScopingMode.TheVariants.{RespectParent}
use Rattle.scope.specs.Scope.{known}
use Rattle.table.specs.Tables.{Tables}
use Rattle.table.specs.Decode.{expr}
use Rattle.planner.specs.Layout.{Entry}
use Rattle.planner.specs.Names.{Occurrence, occurrence, occurrences}
use Rattle.planner.specs.Simple.{mentions}
use Rattle.planner.specs.Operations.{Outcome, refused, planned}
use Rattle.operation.specs.declared.Operation.{Operation}
use Rattle.operation.specs.Operation.{operation_outcome}
use Rattle.body.specs.Lines.{operations_of, is_body}
use Rattle.body.specs.Ready.{names_bound, Side, sides_of}
use Rattle.body.specs.Body.{unless_too_large, bind_all, refused_at, accepted, body_outcome}

abbrev pub outcome_names : Tables → Outcome → List ℕ
outcome_names T (refused r) = []
outcome_names T (planned form which es) = names_bound T es

-- the names that lines bind, planned in turn from a scope
unfoldable pub bound_by_lines : Tables → Scope → List Operation → List ℕ
bound_by_lines T s [] = []
bound_by_lines T s (l ∷ ls) = let names = outcome_names T (operation_outcome T s l) in names ++ bound_by_lines T (bind_all s names) ls

-- the scope that a line is planned from: that at the start, with what the lines before bind
abbrev pub scope_before : Tables → Scope → List Operation → Scope
scope_before T s earlier = bind_all s (bound_by_lines T s earlier)

-- known at the start, bound by an earlier line, or by an earlier pair
abbrev pub is_ready : Tables → Scope → List Operation → List ℕ → ℕ → Bool
is_ready T s lines pairs x = known s RespectParent x || (elem x (bound_by_lines T s lines) || elem x pairs)

-- each name at or below a side, `_` aside, keys and sets included
abbrev pub SideReady : Tables → Scope → List Operation → Side → Type 0
SideReady T s lines u = (x : ℕ) → mentions x (expr T u.node) ≡ true → is_ready T s lines u.earlier x ≡ true

-- line l after the lines `earlier`: it is planned, and its sides are ready
pub record LineReady (T : Tables) (s : Scope) (earlier : List Operation) (l : Operation) : Type 0 where
  pub form : ℕ
  pub which : ℕ
  pub entries : List Entry
  pub is_planned : operation_outcome T (scope_before T s earlier) l ≡ planned form which entries
  pub ready : (before after : List Side) (u : Side) → sides_of T l form which entries ≡ before ++ (u ∷ after) → SideReady T s earlier u

-- line l is planned and has at `node` a name that is not ready; all names before it are
pub record FirstUnready (T : Tables) (s : Scope) (earlier : List Operation) (l : Operation) (node : ℕ) : Type 0 where
  pub form : ℕ
  pub which : ℕ
  pub entries : List Entry
  pub is_planned : operation_outcome T (scope_before T s earlier) l ≡ planned form which entries
  -- the sides before
  pub before : List Side
  pub after : List Side
  pub unready : Side
  pub sides : sides_of T l form which entries ≡ before ++ (unready ∷ after)
  pub ready_sides : (first last : List Side) (u : Side) → before ≡ first ++ (u ∷ last) → SideReady T s earlier u
  -- the names before, as written
  pub names : List Occurrence
  pub rest : List Occurrence
  pub name : ℕ
  pub written : occurrences true true (expr T unready.node) ≡ names ++ (occurrence node name ∷ rest)
  pub ready_names : (first last : List Occurrence) (o : Occurrence) → names ≡ first ++ (o ∷ last) → is_ready T s earlier unready.earlier o.name ≡ true
  pub not_ready : is_ready T s earlier unready.earlier name ≡ false

-- why line l is refused
pub data Cause (T : Tables) (s : Scope) (buffer : List ℕ) (earlier : List Operation) (l : Operation) (r : Refusal) : Type 0 where
  own : unless_too_large buffer (operation_outcome T (scope_before T s earlier) l) ≡ refused r → Cause T s buffer earlier l r
  unready : (node : ℕ) → r ≡ name_not_ready node → FirstUnready T s earlier l node → Cause T s buffer earlier l r

-- line n is refused, and the lines before it are not
pub record LineRefused (T : Tables) (s : Scope) (buffer : List ℕ) (lines : List Operation) (n : ℕ) (r : Refusal) : Type 0 where
  pub earlier : List Operation
  pub later : List Operation
  pub here : Operation
  pub split : lines ≡ earlier ++ (here ∷ later)
  pub number : n ≡ length earlier + 1
  pub ready : (first last : List Operation) (l : Operation) → earlier ≡ first ++ (l ∷ last) → LineReady T s first l
  pub cause : Cause T s buffer earlier here r

pub record BodyPromise (T : Tables) (s : Scope) (words buffer : List ℕ) : Type 0 where
  pub every_name : (t : Scope) (last : Outcome) → body_outcome T s words buffer ≡ accepted t last
      → (earlier later : List Operation) (l : Operation) → operations_of words ≡ earlier ++ (l ∷ later) → LineReady T s earlier l
  pub scope_is_lem : (t : Scope) (last : Outcome) → body_outcome T s words buffer ≡ accepted t last → t ≡ scope_before T s (operations_of words)
  pub plan_is : (t : Scope) (last : Outcome) → body_outcome T s words buffer ≡ accepted t last
      → (earlier : List Operation) (l : Operation) → operations_of words ≡ earlier ++ (l ∷ []) → last ≡ operation_outcome T (scope_before T s earlier) l
  pub refusals : (n : ℕ) (r : Refusal) → is_body words ≡ true → body_outcome T s words buffer ≡ refused_at n r → LineRefused T s buffer (operations_of words) n r

abbrev pub BodyPromised : Type 0
BodyPromised = (T : Tables) (s : Scope) (words buffer : List ℕ) → BodyPromise T s words buffer
