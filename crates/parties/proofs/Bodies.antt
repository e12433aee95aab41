-- Tables with names more: rule bodies with a scope that the tables accept are the same, line by line.
use Prim.Native.Nat.{ℕ, ◌+◌}
use mathlib.Core.Path.{◌≡◌, refl}
use mathlib.Core.List.{List, [], ◌∷◌, ◌++◌}
use Rattle.scope.specs.declared.Scope.{Scope}
use Rattle.table.specs.Tables.{Tables}
use Rattle.planner.specs.Layout.{Entry}
use Rattle.planner.specs.Operations.{Outcome, refused, planned}
use Rattle.operation.specs.declared.Operation.{Operation}
use Rattle.operation.specs.declared.Operation.TheVariants.{Pattern, ColonEquals, Equals, SomeIn, Index, Parameter}
use Rattle.operation.specs.Operation.{operation_outcome}
use Rattle.body.specs.Lines.{operations_of}
use Rattle.body.specs.Ready.{names_bound, Side, pair_sides, equals_value_sides, value_sides, computed_key_sides, sides_of, first_not_ready}
use Rattle.body.specs.Body.{unless_too_large, unless_not_ready, line_outcome, bind_all, bind_plan, unless_refused, body_from, no_plan, body_outcome}
use Rattle.body.proofs.Knowing.{bound_checked}
use Rattle.name_table.specs.Adding.{with_names}
use Rattle.parties.proofs.Grown.{Grown, operation_same}

-- what a line binds leaves the scope one that the tables accept
bound_grown : {T : Tables} {names : List ℕ} {s : Scope} → Grown T names s → (xs : List ℕ) → Grown T names (bind_all s xs)
bound_grown {T} {names} {s} g xs = record {
  before = bound_checked T s xs g.before;
  after = bound_checked (with_names T names) s xs g.after;
  trees = g.trees;
  bytes = g.bytes;
  more = g.more;
}

-- the sides of a line
pairs_same : (T : Tables) (names earlier : List ℕ) (es : List Entry) → pair_sides (with_names T names) earlier es ≡ pair_sides T earlier es
unfolding pair_sides
pairs_same T names earlier [] = refl
pairs_same T names earlier (e ∷ es) = rw (pairs_same T names earlier es, pairs_same T names (earlier ++ names_bound T (e ∷ [])) es)

values_same : (T : Tables) (names : List ℕ) (operation : Operation) (form which : ℕ) (es : List Entry) → value_sides (with_names T names) operation form which es ≡ value_sides T operation form which es
unfolding value_sides equals_value_sides
values_same T names (Pattern scoping root) form which es = refl
values_same T names (ColonEquals left right reading) form which es = refl
values_same T names (Equals left right reading) form which es = rw (pairs_same T names [] es)
values_same T names (SomeIn value collection key reading) form which es = refl
values_same T names (Index root) form which es = refl
values_same T names (Parameter scoping root) form which es = refl

module _ {T : Tables} {names : List ℕ} {s : Scope} (g : Grown T names s) where
  keys_same : (earlier bound : List ℕ) (es : List Entry) → computed_key_sides (with_names T names) earlier bound es ≡ computed_key_sides T earlier bound es
  unfolding computed_key_sides
  keys_same earlier bound [] = refl
  keys_same earlier bound (e ∷ es) = rw (g.trees e.key, keys_same bound bound es, keys_same earlier (bound ++ names_bound T (e ∷ [])) es)

  unready_same : (us : List Side) → first_not_ready (with_names T names) s us ≡ first_not_ready T s us
  unfolding first_not_ready
  unready_same [] = refl
  unready_same (u ∷ us) = rw (g.trees u.node, unready_same us)

  ready_same : (operation : Operation) (o : Outcome) → unless_not_ready (with_names T names) s operation o ≡ unless_not_ready T s operation o
  ready_same operation (refused r) = refl
  ready_same operation (planned form which es) = rw (values_same T names operation form which es, keys_same [] [] es, unready_same (sides_of T operation form which es))

  line_same : (buffer : List ℕ) (operation : Operation) → line_outcome (with_names T names) buffer s operation ≡ line_outcome T buffer s operation
  unfolding line_outcome
  line_same buffer operation = rw (operation_same g operation) (ready_same operation (unless_too_large buffer (operation_outcome T s operation)))

lines_same : {T : Tables} {names : List ℕ} (buffer : List ℕ) (ls : List Operation) {s : Scope} → Grown T names s → (n : ℕ) (last : Outcome)
    → body_from (with_names T names) buffer n s last ls ≡ body_from T buffer n s last ls
unfolding body_from
lines_same buffer [] g n last = refl
lines_same {T} {names} buffer (operation ∷ ls) {s} g n last =
    rw (line_same g buffer operation) (go (line_outcome T buffer s operation) (λ xs o. lines_same buffer ls (bound_grown g xs) (n + 1) o))
  where
    go : (o : Outcome) → ((xs : List ℕ) (p : Outcome) → body_from (with_names T names) buffer (n + 1) (bind_all s xs) p ls ≡ body_from T buffer (n + 1) (bind_all s xs) p ls)
        → unless_refused n o (λ p. body_from (with_names T names) buffer (n + 1) (bind_plan (with_names T names) s p) p ls)
        ≡ unless_refused n o (λ p. body_from T buffer (n + 1) (bind_plan T s p) p ls)
    go (refused r) later = refl
    go (planned form which es) later = later (names_bound T es) (planned form which es)

pub body_same : {T : Tables} {names : List ℕ} {s : Scope} → Grown T names s → (words buffer : List ℕ) → body_outcome (with_names T names) s words buffer ≡ body_outcome T s words buffer
unfolding body_outcome
body_same {T} {names} {s} g words buffer = rw (lines_same buffer (operations_of words) g 1 no_plan)
