-- `:=` and `=`, answer by answer.
use Rattle.table.specs.declared.TableRefusal.{TableRefusal}
use Prim.Native.Nat.{ℕ, ◌/◌, ◌≤◌}
use mathlib.Core.Path.{◌≡◌, refl, sym, ap, ap₂, subst, ◌∙◌}
use mathlib.Core.List.{List, [], ◌∷◌}
use mathlib.Core.Bool.{Bool, true, false, cond, not, ◌&&◌}
use native.Mathlib.Omega.{arith}
use borrow.Author.Tests.{ne_eqb, eqb-true, eqb-false, not-true, not-false, le-leb}
use lib.Dec.{eqb, leb}
use lib.ListN.{length, replicate}
use Rattle.scope.specs.declared.Scope.{Scope}
use Rattle.scope.specs.declared.ScopingMode.TheVariants.{RespectParent, AllowShadowing}
use Rattle.std.proofs.Common.{Result, Ok, Err}
use Rattle.table.specs.declared.NameClass.{NameClass}
use Rattle.table.specs.declared.NameClass.TheVariants.{Underscore, InputOrData, Ordinary}
use Rattle.table.specs.Tables.{Tables, kind_of, first_word_of, name_bytes, is_node}
use Rattle.table.specs.Names.{class_of}
use Rattle.table.specs.Expr.{Expr, name, wildcard}
use Rattle.table.specs.Decode.{expr, is_wildcard}
use Rattle.table.specs.Check.{TableAnswered}
use Rattle.table.specs.code.Sound.{Node, WellFormed}
use Rattle.table.proofs.trees.Trees.{expr_name, expr_array, expr_object}
use Rattle.planner.specs.Names.{state_by, states_of}
use Rattle.planner.specs.declared.Plan.{Plan}
use Rattle.planner.specs.declared.PlanRefusal.{PlanRefusal}
use Rattle.planner.specs.Answer.{planned_as}
use Rattle.planner.specs.declared.PlanRefusal.TheVariants.{RootOutside, ColonEqualsRequiresBindableLeft, VariableAlreadyDefined}
use Rattle.base.specs.Refusal.{colon_equals_requires_bindable_left}
use Rattle.planner.specs.Layout.{Entry, top, entry_words, entries, words, binds_any, introduces_binding}
use Rattle.planner.specs.Plan.{DestructuringPlan, plan}
use Rattle.planner.specs.code.Passes.{unbound_in}
use Rattle.planner.specs.Operations.{planned, answered, written, Answered, plan_of}
use Rattle.planner.specs.code.Post.{PatternAsks, PatternPlanned, GoodPair}
use Rattle.planner.proofs.destructuring.NodeKinds.{Plain, plain_literal, plain_set, plain_other, plain_kind}
use Rattle.planner.proofs.laws.SamePlan.{class_wild, states_wild, same_plan}
use Rattle.planner.proofs.laws.Operations.{refuses, check_passes, roots_refuse, roots_pass}
use Rattle.planner.proofs.buffer.Copies.{wrote_long, wrote_read}
use Rattle.assignment.specs.code.Previewing.{Roomy, Previewed, SidesAsks, SidesTold}
use Rattle.assignment.proofs.preview.Previews.{previewed_entries, previewed_written}
use Rattle.assignment.specs.declared.AssignOp.{AssignOp}
use Rattle.assignment.specs.declared.AssignOp.TheVariants.{ColEq, Eq}
use Rattle.planner.specs.Entries.{read_entries}
use Rattle.checks.specs.declared.Reading.{Reading}
use Rattle.assignment.specs.Assignment.{bind_side, first_same_scope, colon_equals_from, colon_equals_planned, is_wildcard_expr, wildcard_side, side_of, pairs_outcome, equals_sides, equals_planned, by_operator, assignment_outcome}
use Rattle.assignment.specs.code.Binding.{BindAsks, underscore_at, underscore_side, RightBound}
use Rattle.checks.proofs.Refused.{passes_undefined, refuses_defined}

-- no entries
pub none_delivered : (form side : ℕ) {before later : List ℕ} → later ≡ replicate (length before) 0 → Answered (planned form side []) before later (planned_as form side 0)
unfolding answered written words
none_delivered form side {before} e =
    let z = leb_zero (length before / entry_words) in
    record { answer = simp z; buffer = simp z e }
  where
    leb_zero : (n : ℕ) → leb 0 n ≡ true
    leb_zero n = le-leb 0 n (omega arith)

-- `:=` from the left side's entries
module _ (T : Tables) (s : Scope) (left right : ℕ) (reading : Reading) (es : List Entry) {before later : List ℕ} {b : Bool} (of : b ≡ binds_any es) where
  pub colon_unbound : not b ≡ true → later ≡ replicate (length before) 0 → Answered (colon_equals_from T s left right reading es) before later (Err (ColonEqualsRequiresBindableLeft left))
  colon_unbound n z = let p : binds_any es ≡ false = sym of ∙ not-true b n in simp p (refuses (colon_equals_requires_bindable_left left) refl z)

  module _ (binds : not b ≡ false) {name : ℕ} (is : name ≡ first_same_scope T.nodes s es) where
    pub colon_defined : (name ≡ 0 → ⊥) → later ≡ replicate (length before) 0 → Answered (colon_equals_from T s left right reading es) before later (Err (VariableAlreadyDefined name))
    colon_defined d z =
        let p : binds_any es ≡ true = sym of ∙ not-false b binds in
        simp (p, sym is) (refuses_defined (bind_side T 1 left right reading es) d z)

    pub colon_binds : {r : Result Plan PlanRefusal} → name ≡ 0 → Answered (bind_side T 1 left right reading es) before later r → Answered (colon_equals_from T s left right reading es) before later r
    colon_binds e a =
        let p : binds_any es ≡ true = sym of ∙ not-false b binds in
        simp (p, sym is) (passes_undefined (bind_side T 1 left right reading es) e a)

-- a side's plan in a scratch
module _ (T : Tables) (a b : ℕ) (g : GoodPair T a b) where
  pub ask_first : PatternAsks T a (replicate 128 0) 0
  ask_first = record { table = g.table; node = g.first; none_bound = refl; low = omega arith }

  module _ {before : List ℕ} (space : Roomy T before) (s : Scope) {binders scratch : List ℕ} {count : ℕ} (p : PatternPlanned T s AllowShadowing a 0 before binders scratch count) where
    held : count ≤ length before / entry_words
    held =
        let m = p.space in
        let h = g.first.high in
        let r = space.space in
        omega arith

    pub ask_colon : BindAsks T a b scratch count
    ask_colon =
        let h = held in
        let long = wrote_long p.wrote in
        record { pair = g; read = record { few = p.few; held = omega arith } }

    pub colon_planned : (reading : Reading) {plan later : List ℕ} {r : Result Plan PlanRefusal} → Answered (colon_equals_from T s a b reading (read_entries scratch 0 count)) plan later r → Answered (colon_equals_planned T s a b reading) plan later r
    colon_planned reading {plan} {later} {r} answer =
        let e = wrote_read p.wrote held in
        subst (λ (es : List Entry). Answered (colon_equals_from T s a b reading es) plan later r) e answer

-- underscores, as the code tests them
module _ (nodes names text : List ℕ) (n : ℕ) {kind : ℕ} (is-kind : kind ≡ kind_of nodes n) where
  module _ (k : kind ≡ 6) {first : ℕ} (is_first : first ≡ first_word_of nodes n) {class : NameClass} (of : class ≡ class_of (name_bytes names text first)) where
    wild : {w : Bool} → eqb (state_by class false) 2 ≡ w → w ≡ underscore_at nodes names text n
    unfolding underscore_at
    wild {w} e = rw (← is-kind, k, ← is_first) (sym e ∙ (ap (λ (d : NameClass). eqb (state_by d false) 2) of ∙ class_wild (name_bytes names text first) false))

    pub underscore_yes : class ≡ Underscore → true ≡ underscore_at nodes names text n
    underscore_yes e = wild (simp e)

    pub underscore_reserved : class ≡ InputOrData → false ≡ underscore_at nodes names text n
    underscore_reserved e = wild (simp e)

    pub underscore_ordinary : class ≡ Ordinary → false ≡ underscore_at nodes names text n
    underscore_ordinary e = wild (simp e)

  pub underscore_none : (kind ≡ 6 → ⊥) → false ≡ underscore_at nodes names text n
  unfolding underscore_at
  underscore_none not-6 = let z = ne_eqb kind 6 not-6 in rw (← is-kind, z)

module _ (nodes names text : List ℕ) (left right : ℕ) {l r : Bool} (is-left : l ≡ underscore_at nodes names text left) (is_right : r ≡ underscore_at nodes names text right) where
  pub side_both : l ≡ true → r ≡ true → 3 ≡ underscore_side nodes names text left right
  side_both p q = simp (sym is-left ∙ p, sym is_right ∙ q)

  pub side_left : l ≡ true → r ≡ false → 1 ≡ underscore_side nodes names text left right
  side_left p q = simp (sym is-left ∙ p, sym is_right ∙ q)

  pub side_right : l ≡ false → r ≡ true → 2 ≡ underscore_side nodes names text left right
  side_right p q = simp (sym is-left ∙ p, sym is_right ∙ q)

  pub side_none : l ≡ false → r ≡ false → 0 ≡ underscore_side nodes names text left right
  side_none p q = simp (sym is-left ∙ p, sym is_right ∙ q)

underscore_is : (T : Tables) (n : ℕ) → WellFormed T → Node T n → underscore_at T.nodes T.names T.text n ≡ is_wildcard_expr (expr T n)
unfolding underscore_at
underscore_is T n w v = go (eqb (kind_of T.nodes n) 6) refl (eqb (kind_of T.nodes n) 7) refl (eqb (kind_of T.nodes n) 9) refl
  where
    named : (b : Bool) → b ≡ is_wildcard_expr (cond b (wildcard n) (name n (first_word_of T.nodes n)))
    named true = refl
    named false = refl

    by : (e : Expr) → expr T n ≡ e → Plain (kind_of T.nodes n) n e → false ≡ is_wildcard_expr (expr T n)
    by e q (plain_literal l h) = sym (ap is_wildcard_expr q)
    by e q (plain_set es h) = sym (ap is_wildcard_expr q)
    by e q (plain_other h) = sym (ap is_wildcard_expr q)

    go : (a : Bool) → eqb (kind_of T.nodes n) 6 ≡ a → (b : Bool) → eqb (kind_of T.nodes n) 7 ≡ b → (c : Bool) → eqb (kind_of T.nodes n) 9 ≡ c
        → (a && is_wildcard T (first_word_of T.nodes n)) ≡ is_wildcard_expr (expr T n)
    go true p b q c r = named (is_wildcard T (first_word_of T.nodes n)) ∙ sym (ap is_wildcard_expr (expr_name T w n v (eqb-true _ _ p)))
    go false p true q c r = sym (ap is_wildcard_expr (expr_array T w n v (eqb-true _ _ q)))
    go false p false q true r = sym (ap is_wildcard_expr (expr_object T w n v (eqb-true _ _ r)))
    go false p false q false r = let e = plain_kind T w n v (eqb-false _ _ p) (eqb-false _ _ q) (eqb-false _ _ r) in by e.0 e.1 e.2

-- `=` by the sides that bind
module _ (T : Tables) (s : Scope) (left right : ℕ) (g : GoodPair T left right) {states : List ℕ} (of : states ≡ states_of T.names T.text s RespectParent) where
  pub ask_sides : SidesAsks T states left right
  ask_sides = record { pair_ok = g; states_ok = states_wild T s RespectParent states of g.table }

  -- a side's plan by the scope
  module _ {n : ℕ} (v : Node T n) where
    same : plan (unbound_in states) (expr T n) [] ≡ plan_of T s RespectParent n
    same = same_plan T s RespectParent states of g.table n v []

    told_by : {b : Bool} → b ≡ introduces_binding (plan (unbound_in states) (expr T n) []) → binds_any (entries (plan_of T s RespectParent n) top) ≡ b
    told_by e = sym (e ∙ ap introduces_binding same)

    read_by : {start binders scratch : List ℕ} {count : ℕ} {b : Bool} → Previewed T states n 0 start binders scratch count b → read_entries scratch 0 count ≡ entries (plan_of T s RespectParent n) top
    read_by p = previewed_entries p ∙ ap (λ (q : DestructuringPlan). entries q top) same

  module _ {start binders scratch : List ℕ} {count : ℕ} {one other : Bool} (told : SidesTold T states left right 0 start binders scratch count one other) where
    left_is : binds_any (entries (plan_of T s RespectParent left) top) ≡ one
    left_is = told_by g.first told.left_seen.told

    right_is : binds_any (entries (plan_of T s RespectParent right) top) ≡ other
    right_is = told_by g.second told.right_told

    module _ (reading : Reading) {before later : List ℕ} {answer : Result Plan PlanRefusal} where
      pub equals_both : one ≡ true → other ≡ true → Answered (pairs_outcome T s left right) before later answer → Answered (equals_sides T s left right reading) before later answer
      equals_both p q a = simp (left_is ∙ p, right_is ∙ q) a

      pub equals_left : one ≡ true → other ≡ false → Answered (bind_side T 2 left right reading (read_entries scratch 0 count)) before later answer → Answered (equals_sides T s left right reading) before later answer
      equals_left p q a =
          let e = read_by g.first told.left_seen in
          simp (left_is ∙ p, right_is ∙ q) (rw e at a)

      pub equals_right : one ≡ false → other ≡ true → Answered (bind_side T 3 right left reading (entries (plan (unbound_in states) (expr T right) []) top)) before later answer → Answered (equals_sides T s left right reading) before later answer
      equals_right p q a =
          let e = same g.second in
          simp (left_is ∙ p, right_is ∙ q) (rw e at a)

      pub equals_none : one ≡ false → other ≡ false → Answered (planned 5 0 []) before later answer → Answered (equals_sides T s left right reading) before later answer
      equals_none p q a = simp (left_is ∙ p, right_is ∙ q) a

-- the right side, planned anew
pub bound_right : {T : Tables} {states : List ℕ} (left : ℕ) {right : ℕ} (reading : Reading) {start binders scratch : List ℕ} {count : ℕ} {b : Bool} → Previewed T states right 0 start binders scratch count b → {before later : List ℕ} {r : Result Plan PlanRefusal}
    → Answered (bind_side T 3 right left reading (read_entries scratch 0 count)) before later r → RightBound T states left right reading start binders scratch before later r
bound_right left reading seen answer = record { answered = rw (previewed_entries seen) at answer; written = previewed_written seen }

-- the wildcard form, or the sides
module _ (T : Tables) (s : Scope) (left right : ℕ) (reading : Reading) (g : GoodPair T left right) {side : ℕ} (is : side ≡ underscore_side T.nodes T.names T.text left right) where
  side_is : side_of T left right ≡ side
  side_is = sym (is ∙ ap₂ wildcard_side (underscore_is T left g.table g.first) (underscore_is T right g.table g.second))

  pub equals_wild : {before later : List ℕ} {r : Result Plan PlanRefusal} → (side ≡ 0 → ⊥) → Answered (planned 6 side []) before later r → Answered (equals_planned T s left right reading) before later r
  equals_wild d a = let q = ne_eqb side 0 d in simp (side_is, q) a

  pub equals_sides_lem : {before later : List ℕ} {r : Result Plan PlanRefusal} → side ≡ 0 → Answered (equals_sides T s left right reading) before later r → Answered (equals_planned T s left right reading) before later r
  equals_sides_lem e a = let q = side_is ∙ e in simp q a

-- by the operator
module _ (T : Tables) (s : Scope) (op : AssignOp) (left right : ℕ) (reading : Reading) {before later : List ℕ} {r : Result Plan PlanRefusal} where
  pub assigns_colon : op ≡ ColEq → Answered (colon_equals_planned T s left right reading) before later r → Answered (by_operator op T s left right reading) before later r
  assigns_colon e a = simp e a

  pub assigns_equals : op ≡ Eq → Answered (equals_planned T s left right reading) before later r → Answered (by_operator op T s left right reading) before later r
  assigns_equals e a = simp e a

-- the table check and both roots
module _ (T : Tables) (s : Scope) (op : AssignOp) (left right : ℕ) (reading : Reading) {c : Result Unit TableRefusal} (is : TableAnswered T s c) (sound : c ≡ Ok tt) {before later : List ℕ} where
  module _ {l : Bool} (in_left : l ≡ is_node T left) where
    pub left_outside : not l ≡ true → later ≡ replicate (length before) 0 → Answered (assignment_outcome T s op left right reading) before later (Err RootOutside)
    left_outside n z =
        let p : is_node T left ≡ false = sym in_left ∙ not-true l n in
        roots_refuse T s (check_passes T s is sound) (left ∷ (right ∷ [])) (by_operator op T s left right reading) (rw p) z

    module _ (at_left : not l ≡ false) {r : Bool} (in_right : r ≡ is_node T right) where
      pub right_outside : not r ≡ true → later ≡ replicate (length before) 0 → Answered (assignment_outcome T s op left right reading) before later (Err RootOutside)
      right_outside n z =
          let p : is_node T left ≡ true = sym in_left ∙ not-false l at_left in
          let o : is_node T right ≡ false = sym in_right ∙ not-true r n in
          roots_refuse T s (check_passes T s is sound) (left ∷ (right ∷ [])) (by_operator op T s left right reading) (rw (p, o)) z

      module _ (at_right : not r ≡ false) {answer : Result Plan PlanRefusal} where
        pub both_inside : Answered (by_operator op T s left right reading) before later answer → Answered (assignment_outcome T s op left right reading) before later answer
        both_inside a =
            let p : is_node T left ≡ true = sym in_left ∙ not-false l at_left in
            let o : is_node T right ≡ true = sym in_right ∙ not-false r at_right in
            roots_pass T s (check_passes T s is sound) (left ∷ (right ∷ [])) (by_operator op T s left right reading) (rw (p, o)) a
