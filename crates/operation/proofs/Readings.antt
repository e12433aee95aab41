-- What the present reading refuses as 13 or 14 the careful one refuses, of every operation.
use Prim.Native.Nat.{ℕ}
use mathlib.Core.Path.{◌≡◌, refl, sym, ap}
use mathlib.Core.Bool.{Bool, true, false, cond, not, ◌||◌, false≢true}
use mathlib.Core.List.{List, [], ◌∷◌, ◌++◌}
use borrow.Author.Tests.{lt-leb}
use lib.Dec.{eqb}
use Rattle.base.specs.Refusal as Refusal
use Rattle.base.specs.Refusal.{Refusal, Tested, root_outside, reserved_name, variable_already_defined, colon_equals_requires_bindable_left, incompatible_destructuring_patterns}
use Rattle.scope.specs.declared.Scope.{Scope}
use Rattle.scope.specs.declared.ScopingMode.TheVariants.{RespectParent, AllowShadowing}
use Rattle.table.specs.Tables.{Tables}
use Rattle.table.specs.Expr.{Expr, literal, name, wildcard, array, set, object, other, Exprs, none, item}
use Rattle.table.specs.Decode.{expr}
use Rattle.table.specs.Check.{checked, all_nodes}
use Rattle.planner.specs.Layout.{Entry, top, entries, binds_any}
use Rattle.planner.specs.Operations.{Outcome, planned, require, table_first, checked_first, plan_of, validated, unless_defined}
use Rattle.checks.specs.declared.Reading.{Reading}
use Rattle.checks.specs.declared.Reading.TheVariants.{Present, Careful}
use Rattle.checks.specs.declared.LiteralStructureCheck.{LiteralStructureCheck}
use Rattle.checks.specs.declared.LiteralStructureCheck.TheVariants.{Match, Unknown, ArrayMismatch, ObjectMismatch}
use Rattle.checks.specs.Joining.{is_mismatch}
use Rattle.checks.specs.Structure.{structure}
use Rattle.checks.specs.Refusals.{unless_mismatch}
use Rattle.checks.proofs.laws.Readings.{reading_laws}
use Rattle.assignment.specs.declared.AssignOp.TheVariants.{ColEq, Eq}
use Rattle.assignment.specs.Pairs.{shape_of}
use Rattle.assignment.specs.Assignment.{opposed, bind_side, first_same_scope, by_sides, side_of, equals_sides, by_operator}
use Rattle.some_in.specs.SomeIn.{any_fits, first_mismatch, collection_structure, key_check, key_entries, key_form, roots, value_planned, some_in_planned}
use Rattle.operation.specs.declared.Operation.{Operation}
use Rattle.operation.specs.declared.Operation.TheVariants.{Pattern, ColonEquals, Equals, SomeIn, Index, Parameter}
use Rattle.operation.specs.declared.numbers.OperationNumbers.{OperationNumbers}
use Rattle.operation.specs.Operation.{operation_outcome}
use Rattle.operation.specs.Version.{patterns_of, roots_of, first_reserved, unless_reserved, version1_outcome, version_outcome}
use Rattle.operation.specs.Numbers.{scoping_of, reading_of, operation_of}
use Rattle.operation.specs.ReadingLaws.{read_as, with_scoping, is_shape_refusal, OperationReadings}

-- refused in one way, refused in the other
abbrev Again : Outcome → Outcome → Type 0
Again o p = is_shape_refusal o ≡ true → is_shape_refusal p ≡ true

-- the tests before are the same
require_again : (b : Bool) (r : Refusal) (o p : Outcome) → Again o p → Again (require b r o) (require b r p)
require_again true r o p f = f
require_again false r o p f = λ t. t

checked_again : (T : Tables) (s : Scope) (roots : List ℕ) (o p : Outcome) → Again o p → Again (checked_first T s roots o) (checked_first T s roots p)
checked_again T s roots o p f = go (checked T s)
  where
    go : (c : Tested) → Again (table_first c (require (all_nodes T roots) root_outside o)) (table_first c (require (all_nodes T roots) root_outside p))
    go Refusal.passed = require_again (all_nodes T roots) root_outside o p f
    go (Refusal.refused r) = λ t. t

-- a check's mismatch
mismatch_again : (c d : LiteralStructureCheck) (form side : ℕ) (es : List Entry) → (is_mismatch c ≡ true → is_mismatch d ≡ true) → Again (unless_mismatch c (planned form side es)) (unless_mismatch d (planned form side es))
mismatch_again c d form side es f t = there d (f (here c t))
  where
    here : (c : LiteralStructureCheck) → is_shape_refusal (unless_mismatch c (planned form side es)) ≡ true → is_mismatch c ≡ true
    here Match h = absurd (false≢true h)
    here Unknown h = absurd (false≢true h)
    here (ArrayMismatch value expected actual) h = refl
    here (ObjectMismatch value pattern) h = refl

    there : (c : LiteralStructureCheck) → is_mismatch c ≡ true → is_shape_refusal (unless_mismatch c (planned form side es)) ≡ true
    there Match h = absurd (false≢true h)
    there Unknown h = absurd (false≢true h)
    there (ArrayMismatch value expected actual) h = refl
    there (ObjectMismatch value pattern) h = refl

module _ (T : Tables) (s : Scope) where
  bind_again : (form binding value : ℕ) (es : List Entry) → Again (bind_side T form binding value Present es) (bind_side T form binding value Careful es)
  bind_again form binding value es =
      require_again (not (opposed (shape_of (expr T binding)) (shape_of (expr T value)))) (incompatible_destructuring_patterns binding)
      (unless_mismatch (structure Present (expr T value) (expr T binding)) (planned form 0 es)) (unless_mismatch (structure Careful (expr T value) (expr T binding)) (planned form 0 es))
      (mismatch_again (structure Present (expr T value) (expr T binding)) (structure Careful (expr T value) (expr T binding)) form 0 es (reading_laws.refuses (expr T value) (expr T binding)))

  -- `:=`
  colon_again : (left right : ℕ) → Again (by_operator ColEq T s left right Present) (by_operator ColEq T s left right Careful)
  colon_again left right =
      let es = entries (plan_of T s AllowShadowing left) top in
      require_again (binds_any es) (colon_equals_requires_bindable_left left)
      (unless_defined (first_same_scope T.nodes s es) (bind_side T 1 left right Present es)) (unless_defined (first_same_scope T.nodes s es) (bind_side T 1 left right Careful es))
      (require_again (eqb (first_same_scope T.nodes s es) 0) (variable_already_defined (first_same_scope T.nodes s es)) (bind_side T 1 left right Present es) (bind_side T 1 left right Careful es) (bind_again 1 left right es))

  -- `=`
  sides_again : (a b : Bool) (left right : ℕ) (ls rs : List Entry) → Again (by_sides a b T s left right Present ls rs) (by_sides a b T s left right Careful ls rs)
  sides_again true true left right ls rs = λ t. t
  sides_again false false left right ls rs = λ t. t
  sides_again true false left right ls rs = bind_again 2 left right ls
  sides_again false true left right ls rs = bind_again 3 right left rs

  equals_again : (left right : ℕ) → Again (by_operator Eq T s left right Present) (by_operator Eq T s left right Careful)
  equals_again left right = go (eqb (side_of T left right) 0)
    where
      go : (b : Bool) → Again (cond b (equals_sides T s left right Present) (planned 6 (side_of T left right) [])) (cond b (equals_sides T s left right Careful) (planned 6 (side_of T left right) []))
      go true =
          let ls = entries (plan_of T s RespectParent left) top in
          let rs = entries (plan_of T s RespectParent right) top in
          sides_again (binds_any ls) (binds_any rs) left right ls rs
      go false = λ t. t

-- some-in: where no item fits each is a mismatch
pub none_fit : (m rest : Bool) → (not m || rest) ≡ false → (m ≡ true) × (rest ≡ false)
none_fit true rest e = (refl, e)
none_fit false rest e = absurd (false≢true (sym e))

none_again : (p : Expr) (es : Exprs) → any_fits Present es p ≡ false → any_fits Careful es p ≡ false
unfolding any_fits
none_again p none n = refl
none_again p (item e es) n =
    let h = none_fit (is_mismatch (structure Present e p)) (any_fits Present es p) n in
    let m = reading_laws.refuses e p h.0 in
    let rest = none_again p es h.1 in
    rw (m, rest)

collection_again : (p c : Expr) → is_mismatch (collection_structure Present c p) ≡ true → is_mismatch (collection_structure Careful c p) ≡ true
unfolding collection_structure first_mismatch any_fits
collection_again p (literal n l) m = m
collection_again p (name n x) m = m
collection_again p (wildcard n) m = m
collection_again p (array n none) m = m
collection_again p (array n (item e es)) m =
    let none-now : any_fits Present (item e es) p ≡ false = go (any_fits Present (item e es) p) (first_mismatch Present (item e es) p) m in
    let h = none_fit (is_mismatch (structure Present e p)) (any_fits Present es p) none-now in
    let c = reading_laws.refuses e p h.0 in
    let rest = none_again p es h.1 in
    rw (c, rest) c
  where
    go : (b : Bool) (d : LiteralStructureCheck) → is_mismatch (cond b Match d) ≡ true → b ≡ false
    go true d t = absurd (false≢true t)
    go false d t = refl
collection_again p (set n es) m = m
collection_again p (object n fs) m = m
collection_again p (other n) m = m

some_in_again : (T : Tables) (s : Scope) (value collection key : ℕ) → Again (some_in_planned T s value collection key Present) (some_in_planned T s value collection key Careful)
some_in_again T s value collection key =
    let es = key_entries T s key ++ entries (plan_of T s RespectParent value) top in
    let now = collection_structure Present (expr T collection) (expr T value) in
    let later = collection_structure Careful (expr T collection) (expr T value) in
    require_again (eqb (key_check T s key) 0) (variable_already_defined (key_check T s key)) (value_planned T s value collection (key_form key) Present (key_entries T s key)) (value_planned T s value collection (key_form key) Careful (key_entries T s key))
    (require_again (eqb (validated T s RespectParent value) 0) (variable_already_defined (validated T s RespectParent value)) (unless_mismatch now (planned (key_form key) 0 es)) (unless_mismatch later (planned (key_form key) 0 es))
    (mismatch_again now later (key_form key) 0 es (collection_again (expr T value) (expr T collection))))

operation_again : (T : Tables) (s : Scope) (operation : Operation) → Again (operation_outcome T s (read_as Present operation)) (operation_outcome T s (read_as Careful operation))
unfolding operation_outcome read_as
operation_again T s (Pattern scoping root) = λ t. t
operation_again T s (ColonEquals left right reading) = checked_again T s (left ∷ (right ∷ [])) (by_operator ColEq T s left right Present) (by_operator ColEq T s left right Careful) (colon_again T s left right)
operation_again T s (Equals left right reading) = checked_again T s (left ∷ (right ∷ [])) (by_operator Eq T s left right Present) (by_operator Eq T s left right Careful) (equals_again T s left right)
operation_again T s (SomeIn value collection key reading) = checked_again T s (roots value collection key) (some_in_planned T s value collection key Present) (some_in_planned T s value collection key Careful) (some_in_again T s value collection key)
operation_again T s (Index root) = λ t. t
operation_again T s (Parameter scoping root) = λ t. t

-- patterns and roots have no reading
same_patterns : (r : Reading) (operation : Operation) → patterns_of (read_as r operation) ≡ patterns_of operation
unfolding patterns_of read_as
same_patterns r (Pattern scoping root) = refl
same_patterns r (ColonEquals left right reading) = refl
same_patterns r (Equals left right reading) = refl
same_patterns r (SomeIn value collection key reading) = refl
same_patterns r (Index root) = refl
same_patterns r (Parameter scoping root) = refl

same_roots : (r : Reading) (operation : Operation) → roots_of (read_as r operation) ≡ roots_of operation
unfolding roots_of read_as
same_roots r (Pattern scoping root) = refl
same_roots r (ColonEquals left right reading) = refl
same_roots r (Equals left right reading) = refl
same_roots r (SomeIn value collection key reading) = refl
same_roots r (Index root) = refl
same_roots r (Parameter scoping root) = refl

version_again : (T : Tables) (s : Scope) (version : ℕ) (operation : Operation) → Again (version_outcome T s version (read_as Present operation)) (version_outcome T s version (read_as Careful operation))
version_again T s version operation = go (eqb version 1)
  where
    go : (b : Bool) → Again (cond b (version1_outcome T s (read_as Present operation)) (operation_outcome T s (read_as Present operation))) (cond b (version1_outcome T s (read_as Careful operation)) (operation_outcome T s (read_as Careful operation)))
    go false = operation_again T s operation
    go true =
        let p = same_patterns Present operation in
        let c = same_patterns Careful operation in
        let x = same_roots Present operation in
        let y = same_roots Careful operation in
        rw (p, c, x, y) (checked_again T s (roots_of operation) (unless_reserved (first_reserved T s operation) (operation_outcome T s (read_as Present operation))) (unless_reserved (first_reserved T s operation) (operation_outcome T s (read_as Careful operation)))
        (require_again (eqb (first_reserved T s operation) 0) (reserved_name (first_reserved T s operation)) (operation_outcome T s (read_as Present operation)) (operation_outcome T s (read_as Careful operation)) (operation_again T s operation)))

-- the numbers
module _ (o : OperationNumbers) where
  by_number : (r : Reading) (read : reading_of o.scoping ≡ r) → operation_of o ≡ read_as r (operation_of o)
  unfolding operation_of read_as
  by_number r read = go (eqb o.number 1) (eqb o.number 2) (eqb o.number 3) (eqb o.number 4) (eqb o.number 5)
    where
      abbrevs : Bool → Bool → Bool → Bool → Bool → Operation
      abbrevs a b c d e =
          cond a (Pattern (scoping_of o.scoping) o.first) (cond b (ColonEquals o.first o.second (reading_of o.scoping)) (cond c (Equals o.first o.second (reading_of o.scoping))
          (cond d (SomeIn o.first o.second o.key (reading_of o.scoping)) (cond e (Index o.first) (Parameter (scoping_of o.scoping) o.first)))))

      go : (a b c d e : Bool) → abbrevs a b c d e ≡ read_as r (abbrevs a b c d e)
      go true b c d e = refl
      go false true c d e = ap (ColonEquals o.first o.second) read
      go false false true d e = ap (Equals o.first o.second) read
      go false false false true e = ap (SomeIn o.first o.second o.key) read
      go false false false false true = refl
      go false false false false false = refl

  as_other : (n m : ℕ) → scoping_of n ≡ scoping_of m → reading_of n ≡ Careful → operation_of (with_scoping n o) ≡ read_as Careful (operation_of (with_scoping m o))
  unfolding operation_of read_as
  as_other n m mode read = go (eqb o.number 1) (eqb o.number 2) (eqb o.number 3) (eqb o.number 4) (eqb o.number 5)
    where
      with_scoping_lem : ℕ → Bool → Bool → Bool → Bool → Bool → Operation
      with_scoping_lem k a b c d e =
          cond a (Pattern (scoping_of k) o.first) (cond b (ColonEquals o.first o.second (reading_of k)) (cond c (Equals o.first o.second (reading_of k))
          (cond d (SomeIn o.first o.second o.key (reading_of k)) (cond e (Index o.first) (Parameter (scoping_of k) o.first)))))

      go : (a b c d e : Bool) → with_scoping_lem n a b c d e ≡ read_as Careful (with_scoping_lem m a b c d e)
      go true b c d e = ap (λ x. Pattern x o.first) mode
      go false true c d e = ap (ColonEquals o.first o.second) read
      go false false true d e = ap (Equals o.first o.second) read
      go false false false true e = ap (SomeIn o.first o.second o.key) read
      go false false false false true = refl
      go false false false false false = ap (λ x. Parameter x o.first) mode

pub operation_readings : OperationReadings
operation_readings = record {
  present = λ o lt. by_number o Present (simp (lt-leb 3 o.scoping lt));
  third = λ o. as_other o 3 1 refl refl;
  fourth = λ o. as_other o 4 2 refl refl;
  refuses = version_again;
}
