-- The promise of request 12. Plan: an answer 12 to 16 comes from a mismatch of a check or from pairs (Outcomes); each of these means that no fillings of
-- simple sides are equal (Checks, of the careful reading, which refuses all that the present one does; Pairs); plain sides are simple (Plain).
use Rattle.std.proofs.Common.{Result}
use Prim.Native.Nat.{ℕ}
use mathlib.Core.Path.{◌≡◌, refl}
use mathlib.Core.Bool.{Bool, true, false≢true}
use mathlib.Core.List.{List, []}
use lib.Dec.{T as True}
use Rattle.scope.specs.declared.Scope.{Scope}
use Rattle.scope.specs.declared.ScopingMode.TheVariants.{RespectParent}
use Rattle.scope.specs.Scope.{is_unbound}
use Rattle.table.specs.Tables.{Tables}
use Rattle.table.specs.Expr.{Expr}
use Rattle.table.specs.Decode.{expr}
use Rattle.planner.specs.declared.Plan.{Plan}
use Rattle.planner.specs.declared.PlanRefusal.{PlanRefusal}
use Rattle.planner.specs.Simple.{simple}
use Rattle.checks.specs.declared.Reading.{Reading}
use Rattle.checks.specs.declared.Reading.TheVariants.{Present, Careful}
use Rattle.checks.specs.Joining.{is_mismatch}
use Rattle.checks.specs.Structure.{structure}
use Rattle.checks.proofs.laws.Readings.{reading_laws}
use Rattle.assignment.specs.declared.AssignOp.TheVariants.{ColEq, Eq}
use Rattle.assignment.specs.Pairs.{Flat, failed, paired, flatten, flat_outcome}
use Rattle.assignment.specs.Assignment.{pairs_outcome}
use Rattle.some_in.specs.SomeIn.{some_in_outcome}
use Rattle.operation.specs.declared.Operation.{Operation}
use Rattle.operation.specs.declared.Operation.TheVariants.{ColonEquals, Equals, SomeIn}
use Rattle.operation.specs.Operation.{operation_outcome}
use Rattle.operation.specs.Version.{version_outcome}
use Rattle.value.specs.Value.{Same}
use Rattle.value.proofs.Keys.{is_true, true_is}
use Rattle.value.proofs.Equal.{same_sym}
use Rattle.matching.proofs.Fits.{filled}
use Rattle.shape_refusals.specs.Plain.{plain}
use Rattle.shape_refusals.specs.ShapeRefusals.{filled_by, NeverEqual, ShapeRefusal, NoItemEqual, MeansNoMatch, ShapeRefusalsPromise}
use Rattle.shape_refusals.proofs.Plain.{plain_simple}
use Rattle.shape_refusals.proofs.Checks.{check_differs}
use Rattle.shape_refusals.proofs.Pairs.{pairs_differ}
use Rattle.shape_refusals.proofs.Outcomes.{shape_refused, shape_bounds, answer_refused, past_version, Reason, left_binds, right_binds, in_pairs, assignment_reason, some_in_inside, collection_inside}

-- the other way round
turned : (l r : Expr) → True (simple l) → NeverEqual l r → NeverEqual r l
turned l r p never-equal g f t = never-equal f g (same_sym (filled_by r g) (filled_by l f) (filled (λ x. (f.names x).value) l f.blanks p (λ x. (f.names x).is_proper)) t)

-- the careful reading refuses what either reading refuses
careful_refuses : (r : Reading) (v p : Expr) → is_mismatch (structure r v p) ≡ true → is_mismatch (structure Careful v p) ≡ true
careful_refuses Present v p m = reading_laws.refuses v p m
careful_refuses Careful v p m = m

-- a check's mismatch
mismatch_differs : (r : Reading) (v p : Expr) → True (simple v) → True (simple p) → is_mismatch (structure r v p) ≡ true → NeverEqual v p
mismatch_differs r v p x y m f g = check_differs v p x y (careful_refuses r v p m) (λ i. (f.names i).value) (λ i. (g.names i).value) f.blanks g.blanks

-- the pairs' refusal
pairs_refused : (T : Tables) (s : Scope) (left right : ℕ) → True (simple (expr T right)) → True (simple (expr T left)) → shape_refused (pairs_outcome T s left right) ≡ true → NeverEqual (expr T right) (expr T left)
pairs_refused T s left right x y h f g = go (flatten (is_unbound s RespectParent) (expr T right) (expr T left) []) refl h
  where
    go : (o : Flat) → flatten (is_unbound s RespectParent) (expr T right) (expr T left) [] ≡ o → shape_refused (flat_outcome o) ≡ true → Same (filled_by (expr T right) f) (filled_by (expr T left) g) → ⊥
    go (failed a) q t =
        let n = shape_bounds a.number t in
        pairs_differ (is_unbound s RespectParent) a n.0 n.1 (expr T right) (expr T left) x y [] q (λ i. (f.names i).value) (λ i. (g.names i).value) f.blanks g.blanks
    go (paired ps later) q t = absurd (false≢true t)

-- of a kind of sides that are simple
module _ (kind : Expr → Bool) (kind-simple : (e : Expr) → kind e ≡ true → True (simple e)) where
  -- `:=` and `=`
  sides_differ : (r : Reading) (T : Tables) (s : Scope) (left right : ℕ) → kind (expr T left) ≡ true → kind (expr T right) ≡ true → Reason r T s left right → NeverEqual (expr T left) (expr T right)
  sides_differ r T s left right x y (left_binds m) =
      turned (expr T right) (expr T left) (kind-simple (expr T right) y) (mismatch_differs r (expr T right) (expr T left) (kind-simple (expr T right) y) (kind-simple (expr T left) x) m)
  sides_differ r T s left right x y (right_binds m) = mismatch_differs r (expr T left) (expr T right) (kind-simple (expr T left) x) (kind-simple (expr T right) y) m
  sides_differ r T s left right x y (in_pairs h) =
      turned (expr T right) (expr T left) (kind-simple (expr T right) y) (pairs_refused T s left right (kind-simple (expr T right) y) (kind-simple (expr T left) x) h)

  -- some-in, one item
  item_differs : (r : Reading) (e pattern : Expr) → kind e ≡ true → kind pattern ≡ true → is_mismatch (structure r e pattern) ≡ true → NeverEqual e pattern
  item_differs r e pattern x y m = mismatch_differs r e pattern (kind-simple e x) (kind-simple pattern y) m

  -- such an answer is the operation's own refusal
  refused_by_lem : (T : Tables) (s : Scope) (version : ℕ) (operation : Operation) (before after : List ℕ) (a : Result Plan PlanRefusal) → ShapeRefusal (version_outcome T s version operation) before after a → shape_refused (operation_outcome T s operation) ≡ true
  refused_by_lem T s version operation before after a h = past_version T s version operation (answer_refused (version_outcome T s version operation) before after a h)

  -- some-in, all items
  no_item_lem : (T : Tables) (s : Scope) (value collection key : ℕ) (r : Reading) → kind (expr T value) ≡ true → shape_refused (some_in_outcome T s value collection key r) ≡ true → NoItemEqual kind (expr T collection) (expr T value)
  no_item_lem T s value collection key r x h =
      let (n, es, is, each) = collection_inside r (expr T value) (expr T collection) (some_in_inside r T s value collection key h) in
      record { node = n; items = es; is_array_lem = is; no_item = λ e i y. item_differs r e (expr T value) y x (each e i) }

  means_no_match : MeansNoMatch kind
  unfolding operation_outcome
  means_no_match = record {
    colon_equals = λ T s version left right r x y before after a h. sides_differ r T s left right x y (assignment_reason r T s ColEq left right (refused_by_lem T s version (ColonEquals left right r) before after a h));
    equals = λ T s version left right r x y before after a h. sides_differ r T s left right x y (assignment_reason r T s Eq left right (refused_by_lem T s version (Equals left right r) before after a h));
    one_item_lem = item_differs;
    some_in = λ T s version value collection key r x before after a h. no_item_lem T s value collection key r x (refused_by_lem T s version (SomeIn value collection key r) before after a h);
  }

pub shape_refusals_promise : ShapeRefusalsPromise
shape_refusals_promise = record {
  of_plain = means_no_match plain (λ e t. plain_simple e (true_is t));
  of_simple = means_no_match simple (λ e t. true_is t);
  plain_is_simple = λ e t. is_true (plain_simple e (true_is t));
  names = λ l r never-equal names b c. never-equal (record { names = names; blanks = b }) (record { names = names; blanks = c });
}
