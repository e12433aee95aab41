-- How an operation comes to a refusal 12 to 16: no test before the checks gives one.
use Rattle.std.proofs.Common.{Result}
use Prim.Native.Nat.{ℕ, ◌≤◌}
use mathlib.Core.Path.{◌≡◌, refl, sym, ap, ◌∙◌}
use mathlib.Core.Bool.{Bool, true, false, cond, ◌&&◌, not, false≢true}
use mathlib.Core.List.{List, [], ◌∷◌, ◌++◌}
use native.Mathlib.Omega.{arith}
use borrow.Author.Tests.{le-leb, leb-true}
use lib.Dec.{eqb, leb}
use lib.ListN.{length}
use Rattle.base.specs.Refusal as Refusal
use Rattle.base.specs.Refusal.{Refusal, Line, line, refusal_line, over_limit, breaks_rules, too_deep, equal_names, root_outside, plan_too_large, reserved_name, variable_already_defined, colon_equals_requires_bindable_left, incompatible_destructuring_patterns}
use Rattle.scope.specs.declared.Scope.{Scope}
use Rattle.scope.specs.declared.ScopingMode.TheVariants.{RespectParent, AllowShadowing}
use Rattle.table.specs.Tables.{Tables}
use Rattle.table.specs.Rules.{within_limits, follows_rules, shallow, names_differ}
use Rattle.table.specs.Expr.{Expr, literal, name, wildcard, array, set, object, other, Exprs}
use Rattle.table.specs.Decode.{expr}
use Rattle.table.specs.Check.{checked, all_nodes}
use Rattle.table.proofs.tests.Bools.{and_true}
use Rattle.planner.specs.declared.Plan.{Plan}
use Rattle.planner.specs.declared.PlanRefusal.{PlanRefusal}
use Rattle.planner.specs.Answer.{line_of}
use Rattle.planner.specs.Layout.{Entry, top, entries, binds_any}
use Rattle.planner.specs.Operations.{Outcome, refused, planned, fits, answered, require, table_first, checked_first, plan_of, validated, unless_defined}
use Rattle.checks.specs.declared.Reading.{Reading}
use Rattle.checks.specs.declared.LiteralStructureCheck.{LiteralStructureCheck}
use Rattle.checks.specs.declared.LiteralStructureCheck.TheVariants.{Match, Unknown, ArrayMismatch, ObjectMismatch}
use Rattle.checks.specs.Joining.{is_mismatch}
use Rattle.checks.specs.Structure.{structure}
use Rattle.checks.specs.Refusals.{unless_mismatch}
use Rattle.assignment.specs.declared.AssignOp.{AssignOp}
use Rattle.assignment.specs.declared.AssignOp.TheVariants.{ColEq, Eq}
use Rattle.assignment.specs.Pairs.{shape_of}
use Rattle.assignment.specs.Assignment.{opposed, bind_side, first_same_scope, by_sides, pairs_outcome, side_of, equals_sides, by_operator, assignment_outcome}
use Rattle.some_in.specs.SomeIn.{any_fits, first_mismatch, collection_structure, key_check, key_entries, key_form, roots, value_planned, some_in_planned, some_in_outcome}
use Rattle.operation.specs.declared.Operation.{Operation}
use Rattle.operation.specs.Operation.{operation_outcome}
use Rattle.operation.specs.Version.{roots_of, first_reserved, unless_reserved, version1_outcome, version_outcome}
use Rattle.operation.proofs.Readings.{none_fit}
use Rattle.shape_refusals.specs.ShapeRefusals.{ShapeRefusal, ItemOf, here, there}

-- 12 to 16
abbrev of_shape : ℕ → Bool
of_shape n = leb 12 n && leb n 16

-- an outcome that is a refusal 12 to 16
abbrev pub shape_refused : Outcome → Bool
shape_refused (refused r) = of_shape r.number
shape_refused (planned form side es) = false

-- the bounds that it says
pub shape_bounds : (n : ℕ) → of_shape n ≡ true → (12 ≤ n) × (n ≤ 16)
shape_bounds n e = let h = and_true (leb 12 n) (leb n 16) e in (leb-true 12 n h.0, leb-true n 16 h.1)

-- an answer 12 to 16 is the outcome's refusal
pub answer_refused : (o : Outcome) (before after : List ℕ) (r : Result Plan PlanRefusal) → ShapeRefusal o before after r → shape_refused o ≡ true
unfolding answered
answer_refused (refused a) before after r h =
    let n : (line_of r).number ≡ a.number = ap (λ (l : Line). l.number) h.contract.answer in
    let low = h.least in
    let high = h.most in
    let x : leb 12 a.number ≡ true = le-leb 12 a.number (omega arith) in
    let y : leb a.number 16 ≡ true = le-leb a.number 16 (omega arith) in
    rw (x, y)
answer_refused (planned form side es) before after r h = go (fits es before) h.contract.answer
  where
    go : (b : Bool) → line_of r ≡ cond b (line 0 form side (length es)) (refusal_line (plan_too_large (length es))) → false ≡ true
    go true e = let n : (line_of r).number ≡ 0 = ap (λ (l : Line). l.number) e in let low = h.least in absurd (omega arith)
    go false e = let n : (line_of r).number ≡ 6 = ap (λ (l : Line). l.number) e in let low = h.least in absurd (omega arith)

-- a test whose own refusal is another
past_test : (b : Bool) (r : Refusal) (o : Outcome) → of_shape r.number ≡ false → shape_refused (require b r o) ≡ true → shape_refused o ≡ true
past_test true r o out t = t
past_test false r o out t = absurd (false≢true (sym out ∙ t))

-- 17 is another
past_defined : (n : ℕ) (o : Outcome) → shape_refused (unless_defined n o) ≡ true → shape_refused o ≡ true
past_defined n o = past_test (eqb n 0) (variable_already_defined n) o refl

-- the table check and the roots: 1 to 5
past_checked : (T : Tables) (s : Scope) (ns : List ℕ) (o : Outcome) → shape_refused (checked_first T s ns o) ≡ true → shape_refused o ≡ true
unfolding checked
past_checked T s ns o t = past_test (all_nodes T ns) root_outside o refl (go (within_limits T) (follows_rules T s) (shallow T) (names_differ T) t)
  where
    go : (a b c d : Bool) → shape_refused (table_first (Refusal.require a over_limit (Refusal.require b breaks_rules (Refusal.require c too_deep (Refusal.require d equal_names Refusal.passed)))) (require (all_nodes T ns) root_outside o)) ≡ true
        → shape_refused (require (all_nodes T ns) root_outside o) ≡ true
    go true true true true t = t
    go true true true false t = absurd (false≢true t)
    go true true false d t = absurd (false≢true t)
    go true false c d t = absurd (false≢true t)
    go false b c d t = absurd (false≢true t)

-- a version's reserved names: 31
pub past_version : (T : Tables) (s : Scope) (version : ℕ) (operation : Operation) → shape_refused (version_outcome T s version operation) ≡ true → shape_refused (operation_outcome T s operation) ≡ true
past_version T s version operation = go (eqb version 1)
  where
    go : (b : Bool) → shape_refused (cond b (version1_outcome T s operation) (operation_outcome T s operation)) ≡ true → shape_refused (operation_outcome T s operation) ≡ true
    go true t =
        past_test (eqb (first_reserved T s operation) 0) (reserved_name (first_reserved T s operation)) (operation_outcome T s operation) refl
        (past_checked T s (roots_of operation) (unless_reserved (first_reserved T s operation) (operation_outcome T s operation)) t)
    go false t = t

-- a check refuses by a mismatch
mismatch_inside : (c : LiteralStructureCheck) (form side : ℕ) (es : List Entry) → shape_refused (unless_mismatch c (planned form side es)) ≡ true → is_mismatch c ≡ true
mismatch_inside Match form side es t = t
mismatch_inside Unknown form side es t = t
mismatch_inside (ArrayMismatch value expected actual) form side es t = refl
mismatch_inside (ObjectMismatch value pattern) form side es t = refl

-- `:=` and `=`: a check's mismatch, or the pairs' refusal
pub data Reason (r : Reading) (T : Tables) (s : Scope) (left right : ℕ) : Type 0 where
  left_binds : is_mismatch (structure r (expr T right) (expr T left)) ≡ true → Reason r T s left right
  right_binds : is_mismatch (structure r (expr T left) (expr T right)) ≡ true → Reason r T s left right
  in_pairs : shape_refused (pairs_outcome T s left right) ≡ true → Reason r T s left right

module _ (r : Reading) (T : Tables) (s : Scope) where
  -- a side that binds
  bind_inside : (form binding value : ℕ) (es : List Entry) → shape_refused (bind_side T form binding value r es) ≡ true → is_mismatch (structure r (expr T value) (expr T binding)) ≡ true
  bind_inside form binding value es t =
      mismatch_inside (structure r (expr T value) (expr T binding)) form 0 es
      (past_test (not (opposed (shape_of (expr T binding)) (shape_of (expr T value)))) (incompatible_destructuring_patterns binding) (unless_mismatch (structure r (expr T value) (expr T binding)) (planned form 0 es)) refl t)

  -- past the table check and the roots
  operator_reason : (op : AssignOp) (left right : ℕ) → shape_refused (by_operator op T s left right r) ≡ true → Reason r T s left right
  operator_reason ColEq left right t =
      let es = entries (plan_of T s AllowShadowing left) top in
      let n = first_same_scope T.nodes s es in
      left_binds (bind_inside 1 left right es (past_defined n (bind_side T 1 left right r es) (past_test (binds_any es) (colon_equals_requires_bindable_left left) (unless_defined n (bind_side T 1 left right r es)) refl t)))
  operator_reason Eq left right t = go (eqb (side_of T left right) 0) t
    where
      sides : (a b : Bool) (ls rs : List Entry) → shape_refused (by_sides a b T s left right r ls rs) ≡ true → Reason r T s left right
      sides true true ls rs t = in_pairs t
      sides false false ls rs t = absurd (false≢true t)
      sides true false ls rs t = left_binds (bind_inside 2 left right ls t)
      sides false true ls rs t = right_binds (bind_inside 3 right left rs t)

      go : (b : Bool) → shape_refused (cond b (equals_sides T s left right r) (planned 6 (side_of T left right) [])) ≡ true → Reason r T s left right
      go true t =
          let ls = entries (plan_of T s RespectParent left) top in
          let rs = entries (plan_of T s RespectParent right) top in
          sides (binds_any ls) (binds_any rs) ls rs t
      go false t = absurd (false≢true t)

  -- of the whole operation
  pub assignment_reason : (op : AssignOp) (left right : ℕ) → shape_refused (assignment_outcome T s op left right r) ≡ true → Reason r T s left right
  assignment_reason op left right t = operator_reason op left right (past_checked T s (left ∷ (right ∷ [])) (by_operator op T s left right r) t)

  -- some-in: a mismatch of the collection
  pub some_in_inside : (value collection key : ℕ) → shape_refused (some_in_outcome T s value collection key r) ≡ true → is_mismatch (collection_structure r (expr T collection) (expr T value)) ≡ true
  some_in_inside value collection key t =
      let es = key_entries T s key ++ entries (plan_of T s RespectParent value) top in
      let c = collection_structure r (expr T collection) (expr T value) in
      let rest = unless_mismatch c (planned (key_form key) 0 es) in
      mismatch_inside c (key_form key) 0 es
      (past_defined (validated T s RespectParent value) rest
      (past_defined (key_check T s key) (value_planned T s value collection (key_form key) r (key_entries T s key)) (past_checked T s (roots value collection key) (some_in_planned T s value collection key r) t)))

-- where no item fits, each is a mismatch
each_mismatch : (r : Reading) (p e : Expr) (es : Exprs) → ItemOf e es → any_fits r es p ≡ false → is_mismatch (structure r e p) ≡ true
unfolding any_fits
each_mismatch r p e es (here {es = rest}) n = (none_fit (is_mismatch (structure r e p)) (any_fits r rest p) n).0
each_mismatch r p e es (there {d = d} {es = rest} i) n = each_mismatch r p e rest i (none_fit (is_mismatch (structure r d p)) (any_fits r rest p) n).1

-- a collection with a mismatch is an array, and each item is one
pub collection_inside : (r : Reading) (p c : Expr) → is_mismatch (collection_structure r c p) ≡ true → (n : ℕ) × (es : Exprs) × (c ≡ array n es) × ((e : Expr) → ItemOf e es → is_mismatch (structure r e p) ≡ true)
unfolding collection_structure
collection_inside r p (literal n l) m = absurd (false≢true m)
collection_inside r p (name n x) m = absurd (false≢true m)
collection_inside r p (wildcard n) m = absurd (false≢true m)
collection_inside r p (array n es) m = (n, es, refl, λ e i. each_mismatch r p e es i (go (any_fits r es p) m))
  where
    go : (b : Bool) → is_mismatch (cond b Match (first_mismatch r es p)) ≡ true → b ≡ false
    go true t = absurd (false≢true t)
    go false t = refl
collection_inside r p (set n es) m = absurd (false≢true m)
collection_inside r p (object n fs) m = absurd (false≢true m)
collection_inside r p (other n) m = absurd (false≢true m)
