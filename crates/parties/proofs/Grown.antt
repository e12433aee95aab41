-- Tables with names more: plans, runs and reports with a scope that the tables accept are the same. The trees are, and a pattern has the names before alone.
use Prim.Native.Nat.{ℕ, zero, suc, ◌+◌, ◌-◌, ◌/◌, ◌≤◌, ◌<◌}
use mathlib.Core.Path.{◌≡◌, refl, sym, ap, ◌∙◌, fun_ext}
use mathlib.Core.Bool.{Bool, true, false, cond, not, ◌&&◌, ◌||◌, false≢true}
use mathlib.Core.List.{List, [], ◌∷◌}
use native.Mathlib.Omega.{arith}
use borrow.Author.Tests.{leb-true, leb-false, le-leb, eq-eqb}
use lib.Dec.{eqb, leb}
use lib.ListN.{length}
use Rattle.base.specs.Refusal.{Refusal, root_outside, passed, require_or}
use Rattle.scope.specs.declared.Scope.{Scope}
use Rattle.scope.specs.declared.ScopingMode.{ScopingMode}
use Rattle.scope.specs.declared.ScopingMode.TheVariants.{RespectParent, AllowShadowing}
use Rattle.scope.specs.Scope.{is_unbound, known}
use Rattle.table.specs.Tables.{Tables, name_count, name_bytes, is_node}
use Rattle.table.specs.Names.{class_of}
use Rattle.table.specs.Decode.{expr}
use Rattle.table.specs.Check.{checked, all_nodes, checked_or}
use Rattle.table.specs.code.Sound.{Node, Named, WellFormed}
use Rattle.base.specs.Lists.{all_from}
use Rattle.table.proofs.tests.Bools.{and_true}
use Rattle.table.proofs.tests.Scan.{all_of}
use Rattle.table.proofs.trees.Facts.{well_formed}
use Rattle.table.proofs.trees.Facts as Facts
use Rattle.planner.specs.Layout.{Entry, top, entries, binds_any}
use Rattle.planner.specs.Operations.{refused, planned, plan_of, is_reserved, reserved, validated, pattern_outcome, parameter_outcome}
use Rattle.planner.proofs.laws.Names.{first_agree}
use Rattle.assignment.specs.declared.AssignOp.{AssignOp}
use Rattle.assignment.specs.declared.AssignOp.TheVariants.{ColEq, Eq}
use Rattle.assignment.specs.Assignment.{by_sides, side_of, assignment_outcome}
use Rattle.some_in.specs.SomeIn.{roots, some_in_planned, some_in_outcome}
use Rattle.checks.specs.declared.Reading.{Reading}
use Rattle.operation.specs.declared.Operation.{Operation}
use Rattle.operation.specs.declared.Operation.TheVariants.{Pattern, ColonEquals, Equals, SomeIn, Index, Parameter}
use Rattle.operation.specs.Operation.{operation_outcome}
use Rattle.operation.specs.Version.{patterns_of, roots_of, reserved_in, reserved_among, first_reserved, version1_outcome, version_outcome}
use Rattle.planner.specs.Simple.{mentions}
use Rattle.operation.proofs.OperationParts.{nodes_of_table}
use Rattle.run.specs.Operations as Run
use Rattle.run.specs.Operations.{listed_node, in_table, all_names, is_value_node, listed, values_listed, known_listed, run_outcome}
use Rattle.run.proofs.Checking.{node_of_test}
use Rattle.report.specs.Report as Report
use Rattle.report.specs.Report.{ReportOutcome, report_outcome, report_list}
use Rattle.report.proofs.Meeting.{mentioned_named}
use Rattle.name_table.specs.Adding.{with_names}

-- a test of more numbers, which pass
all_grown : (p : ℕ → Bool) (i k d : ℕ) → ((j : ℕ) → k ≤ j → j < k + d → p (i + j) ≡ true) → all_from p i (k + d) ≡ all_from p i k
unfolding all_from
all_grown p i zero d each = let z : 0 + d ≡ d = omega arith in rw z (all_of p i d (λ j lt. each j (omega arith) (omega arith)))
all_grown p i (suc k) d each =
    let z : suc k + d ≡ suc (k + d) = omega arith in
    rw z (ap (λ (b : Bool). p i && b) (all_grown p (i + 1) k d (λ j low lt. let e : i + 1 + j ≡ i + suc j = omega arith in rw e (each (suc j) (omega arith) (omega arith)))))

-- other names, as many or more: the check passes, the trees are the same, and so are the bytes where the table has a name
pub record Grown (T : Tables) (names : List ℕ) (s : Scope) : Type 0 where
  pub before : checked T s ≡ passed
  pub after : checked (with_names T names) s ≡ passed
  pub trees : (n : ℕ) → expr (with_names T names) n ≡ expr T n
  pub bytes : (x : ℕ) → Named T x → name_bytes names T.text x ≡ name_bytes T.names T.text x
  pub more : name_count T ≤ length names / 2

module _ {T : Tables} {names : List ℕ} {s : Scope} (g : Grown T names s) where
  well : WellFormed T
  well = let p = Facts.passed T s g.before in well_formed T s p.limits p.rules

  roots_same : (ns : List ℕ) → all_nodes (with_names T names) ns ≡ all_nodes T ns
  roots_same ns = sym (nodes_of_table (with_names T names) ns) ∙ nodes_of_table T ns

  -- the check and the roots come first
  first_same : {O : Type 0} (refuse : Refusal → O) (ns : List ℕ) (later rest : O) → (all_nodes T ns ≡ true → later ≡ rest)
      → checked_or refuse (with_names T names) s ns later ≡ checked_or refuse T s ns rest
  first_same refuse ns later rest same = rw (g.before, g.after, roots_same ns) (go (all_nodes T ns) refl)
    where
      go : (b : Bool) → all_nodes T ns ≡ b → require_or refuse b root_outside later ≡ require_or refuse b root_outside rest
      go true p = same p
      go false p = refl

  reserved_same : (x : ℕ) → Named T x → reserved (with_names T names) x ≡ reserved T x
  unfolding reserved
  reserved_same x v = ap (λ (bs : List ℕ). is_reserved (class_of bs)) (g.bytes x v)

  reserved_in_lem : (scoping : ScopingMode) (root : ℕ) → Node T root → reserved_in (with_names T names) s scoping root ≡ reserved_in T s scoping root
  unfolding reserved_in
  reserved_in_lem scoping root v =
      rw (g.trees root) (first_agree false false T well root v _ _ (λ x named wild. ap (λ (b : Bool). b && is_unbound s scoping x) (reserved_same x named)))

  validated_same : (mode : ScopingMode) (root : ℕ) → Node T root → validated (with_names T names) s mode root ≡ validated T s mode root
  unfolding validated
  validated_same mode root v =
      rw (g.trees root) (first_agree true false T well root v _ _ (λ x named wild. rw (reserved_same x named)))

  pattern_same : (mode : ScopingMode) (root : ℕ) → pattern_outcome (with_names T names) s mode root ≡ pattern_outcome T s mode root
  pattern_same mode root = first_same refused (root ∷ []) _ _ (λ e. rw (g.trees root))

  parameter_same : (mode : ScopingMode) (root : ℕ) → parameter_outcome (with_names T names) s mode root ≡ parameter_outcome T s mode root
  parameter_same RespectParent root = first_same refused (root ∷ []) _ _ (λ e. rw (g.trees root))
  parameter_same AllowShadowing root = first_same refused (root ∷ []) _ _ (λ e. rw (g.trees root, validated_same AllowShadowing root (node_of_test T root (and_true (is_node T root) _ e).0)))

  assignment_same : (op : AssignOp) (left right : ℕ) (reading : Reading) → assignment_outcome (with_names T names) s op left right reading ≡ assignment_outcome T s op left right reading
  assignment_same ColEq left right reading = first_same refused (left ∷ (right ∷ [])) _ _ (λ e. rw (g.trees left, g.trees right))
  assignment_same Eq left right reading = first_same refused (left ∷ (right ∷ [])) _ _ (λ e. rw (g.trees left, g.trees right) (equals_same (eqb side 0)))
    where
      side : ℕ
      side = side_of T left right

      ls : List Entry
      ls = entries (plan_of T s RespectParent left) top

      rs : List Entry
      rs = entries (plan_of T s RespectParent right) top

      by_sides_lem : (a b : Bool) → by_sides a b (with_names T names) s left right reading ls rs ≡ by_sides a b T s left right reading ls rs
      by_sides_lem true true = rw (g.trees left, g.trees right)
      by_sides_lem true false = rw (g.trees left, g.trees right)
      by_sides_lem false true = rw (g.trees left, g.trees right)
      by_sides_lem false false = refl

      equals_same : (b : Bool) → cond b (by_sides (binds_any ls) (binds_any rs) (with_names T names) s left right reading ls rs) (planned 6 side []) ≡ cond b (by_sides (binds_any ls) (binds_any rs) T s left right reading ls rs) (planned 6 side [])
      equals_same true = by_sides_lem (binds_any ls) (binds_any rs)
      equals_same false = refl

  some_in_same : (value collection key : ℕ) (reading : Reading) → some_in_outcome (with_names T names) s value collection key reading ≡ some_in_outcome T s value collection key reading
  some_in_same value collection key reading = first_same refused (roots value collection key) _ _ (λ e. go (eqb key 0) refl e)
    where
      go : (b : Bool) → eqb key 0 ≡ b → all_nodes T (roots value collection key) ≡ true → some_in_planned (with_names T names) s value collection key reading ≡ some_in_planned T s value collection key reading
      go true p e =
          let v = node_of_test T value (and_true (is_node T value) _ e).0 in
          rw p (rw (validated_same RespectParent value v, g.trees value, g.trees collection))
      go false p e =
          let v = node_of_test T value (and_true (is_node T value) _ e).0 in
          let r : (is_node T value && (is_node T collection && (is_node T key && true))) ≡ true = rw p at e in
          let k = node_of_test T key (and_true (is_node T key) _ (and_true (is_node T collection) _ (and_true (is_node T value) _ r).1).1).0 in
          rw p (rw (validated_same RespectParent value v, validated_same RespectParent key k, g.trees value, g.trees collection, g.trees key))

  pub operation_same : (operation : Operation) → operation_outcome (with_names T names) s operation ≡ operation_outcome T s operation
  unfolding operation_outcome
  operation_same (Pattern scoping root) = pattern_same scoping root
  operation_same (ColonEquals left right reading) = assignment_same ColEq left right reading
  operation_same (Equals left right reading) = assignment_same Eq left right reading
  operation_same (SomeIn value collection key reading) = some_in_same value collection key reading
  operation_same (Index root) = pattern_same RespectParent root
  operation_same (Parameter scoping root) = parameter_same scoping root

  -- for Rego v1: the names that are reserved
  first_reserved_lem : (operation : Operation) → all_nodes T (roots_of operation) ≡ true → first_reserved (with_names T names) s operation ≡ first_reserved T s operation
  unfolding patterns_of roots_of reserved_among
  first_reserved_lem (Pattern scoping root) e = rw (reserved_in_lem scoping root (node_of_test T root (and_true (is_node T root) _ e).0))
  first_reserved_lem (ColonEquals left right reading) e = rw (reserved_in_lem AllowShadowing left (node_of_test T left (and_true (is_node T left) _ e).0))
  first_reserved_lem (Equals left right reading) e =
      let a = and_true (is_node T left) _ e in
      rw (reserved_in_lem RespectParent left (node_of_test T left a.0), reserved_in_lem RespectParent right (node_of_test T right (and_true (is_node T right) _ a.1).0))
  first_reserved_lem (SomeIn value collection key reading) e = go (eqb key 0) refl
    where
      a : (is_node T value ≡ true) × ((is_node T collection && all_nodes T (cond (eqb key 0) [] (key ∷ []))) ≡ true)
      a = and_true (is_node T value) _ e

      go : (b : Bool) → eqb key 0 ≡ b → first_reserved (with_names T names) s (SomeIn value collection key reading) ≡ first_reserved T s (SomeIn value collection key reading)
      go true p = rw p (rw (reserved_in_lem RespectParent value (node_of_test T value a.0)))
      go false p =
          let b : all_nodes T (key ∷ []) ≡ true = rw p at (and_true (is_node T collection) _ a.1).1 in
          rw p (rw (reserved_in_lem RespectParent value (node_of_test T value a.0), reserved_in_lem RespectParent key (node_of_test T key (and_true (is_node T key) _ b).0)))
  first_reserved_lem (Index root) e = rw (reserved_in_lem RespectParent root (node_of_test T root (and_true (is_node T root) _ e).0))
  first_reserved_lem (Parameter scoping root) e = rw (reserved_in_lem scoping root (node_of_test T root (and_true (is_node T root) _ e).0))

  pub version_same : (version : ℕ) (operation : Operation) → version_outcome (with_names T names) s version operation ≡ version_outcome T s version operation
  version_same version operation = go (eqb version 1)
    where
      go : (b : Bool) → cond b (version1_outcome (with_names T names) s operation) (operation_outcome (with_names T names) s operation) ≡ cond b (version1_outcome T s operation) (operation_outcome T s operation)
      go true = first_same refused (roots_of operation) _ _ (λ e. rw (first_reserved_lem operation e, operation_same operation))
      go false = operation_same operation

  -- runs and reports: the names that are counted are as many or more
  all_names_lem : (p : ℕ → Bool) → ((x : ℕ) → name_count T < x → x ≤ length names / 2 → p x ≡ true) → all_names (with_names T names) p ≡ all_names T p
  all_names_lem p holds =
      let e : length names / 2 ≡ name_count T + (length names / 2 - name_count T) = omega arith in
      ap (λ (k : ℕ). all_from p 1 k) e ∙ all_grown p 1 (name_count T) (length names / 2 - name_count T) (λ j low lt. holds (1 + j) (omega arith) (omega arith))

  not_mentioned : (pattern : ℕ) → Node T pattern → (x : ℕ) → name_count T < x → mentions x (expr T pattern) ≡ false
  not_mentioned pattern v x high = go (mentions x (expr T pattern)) refl
    where
      go : (b : Bool) → mentions x (expr T pattern) ≡ b → mentions x (expr T pattern) ≡ false
      go true p = let h = (mentioned_named T well pattern v x (rw p tt)).high in absurd (omega arith)
      go false p = p

  module _ (values : List ℕ) (long : length names / 2 ≤ length values) (zero : (x : ℕ) → name_count T < x → x ≤ length names / 2 → listed_node values x ≡ 0) where
    listed_same : listed (with_names T names) values ≡ listed T values
    listed_same = fun_ext (λ x. go x (in_table T x) refl (in_table (with_names T names) x) refl)
      where
        go : (x : ℕ) (a : Bool) → in_table T x ≡ a → (b : Bool) → in_table (with_names T names) x ≡ b → listed (with_names T names) values x ≡ listed T values x
        go x true p true q = rw (p, q, g.trees (listed_node values x))
        go x true p false q =
            let a = and_true (leb 1 x) _ p in
            let high = leb-true x (name_count T) a.1 in
            absurd (false≢true (sym q ∙ simp (a.0, le-leb x (length names / 2) (omega arith))))
        go x false p false q = rw (p, q)
        go x false p true q =
            let a = and_true (leb 1 x) _ q in
            let high = leb-true x (length names / 2) a.1 in
            let low = leb-false x (name_count T) (simp a.0 at p) in
            rw (p, q, eq-eqb (listed_node values x) 0 (zero x (omega arith) high))

    values_same : values_listed (with_names T names) values ≡ values_listed T values
    unfolding values_listed
    values_same =
        ap (all_names (with_names T names)) (fun_ext (λ x. rw (g.trees (listed_node values x))))
        ∙ all_names_lem (λ x. eqb (listed_node values x) 0 || is_value_node T (listed_node values x)) (λ x low high. rw (eq-eqb (listed_node values x) 0 (zero x low high)))

    known_same : (mode : ScopingMode) (pattern : ℕ) → Node T pattern → known_listed (with_names T names) (known s mode) (expr T pattern) values ≡ known_listed T (known s mode) (expr T pattern) values
    unfolding known_listed
    known_same mode pattern v = all_names_lem (λ x. not (mentions x (expr T pattern) && known s mode x) || not (eqb (listed_node values x) 0)) (λ x low high. rw (not_mentioned pattern v x low))

    pub run_same : (mode : ScopingMode) (pattern value : ℕ) → run_outcome (with_names T names) s mode pattern value values ≡ run_outcome T s mode pattern value values
    run_same mode pattern value = first_same Run.refused (pattern ∷ (value ∷ [])) _ _ (λ e.
        let v = node_of_test T pattern (and_true (is_node T pattern) _ e).0 in
        let trees : expr (with_names T names) ≡ expr T = fun_ext g.trees in
        rw (trees, listed_same, values_same, known_same mode pattern v, le-leb (length names / 2) (length values) long, le-leb (name_count T) (length values) (omega arith)))

  pub report_same : (pattern : ℕ) (list : List ℕ) → length names / 2 ≤ length list → report_outcome (with_names T names) s pattern list ≡ report_outcome T s pattern list
  report_same pattern list long = first_same Report.refused (pattern ∷ []) _ _ (λ e. rw (le-leb (length names / 2) (length list) long, le-leb (name_count T) (length list) (omega arith)))

  pub list_same : (mode : ScopingMode) (pattern : ℕ) (list : List ℕ) (o : ReportOutcome) → report_list o (with_names T names) s mode pattern list ≡ report_list o T s mode pattern list
  list_same mode pattern list (Report.refused r) = refl
  list_same mode pattern list Report.filled = rw (g.trees pattern)
