-- Six digits are enough for each number of an operation's outcome, under any version.
use Prim.Native.Nat.{ℕ, ◌≤◌}
use mathlib.Core.Path.{◌≡◌, refl, ap}
use mathlib.Core.Bool.{Bool, true, false, cond, not}
use mathlib.Core.List.{List, [], ◌∷◌, ◌++◌}
use native.Mathlib.Omega.{arith}
use lib.Dec.{eqb}
use Rattle.base.specs.Refusal.{reserved_name}
use Rattle.scope.specs.declared.Scope.{Scope}
use Rattle.table.specs.Tables.{Tables, is_node}
use Rattle.table.specs.Check.{all_nodes}
use Rattle.table.specs.Expr.{Expr, literal, name, wildcard, array, set, object, other, Exprs, none, item, Fields, done, field}
use Rattle.table.specs.Decode.{expr}
use Rattle.table.specs.code.Sound.{WellFormed}
use Rattle.table.proofs.tests.Bools.{and_true}
use Rattle.planner.specs.Names.{Occurrence, occurrences, occurrences_all, occurrences_fields, first_node}
use Rattle.planner.specs.Short.{ShortOutcome}
use Rattle.planner.proofs.laws.Binders.{AllNames, AllNamesAll, AllNamesFields, names_all}
use Rattle.planner.proofs.laws.Operations.{root_node}
use Rattle.planner.proofs.laws.ShortOutcomes.{pattern_short, index_short, parameter_short, refusal_short, require_short, checked_short}
use Rattle.assignment.specs.declared.AssignOp.TheVariants.{ColEq, Eq}
use Rattle.assignment.proofs.laws.ShortAssignments.{assignment_short}
use Rattle.some_in.proofs.ShortSomeIn.{some_in_short}
use Rattle.operation.specs.declared.Operation.{Operation}
use Rattle.operation.specs.declared.Operation.TheVariants.{Pattern, ColonEquals, Equals, SomeIn, Index, Parameter}
use Rattle.operation.specs.Operation.{operation_outcome}
use Rattle.operation.specs.Version.{PatternRoot, patterns_of, roots_of, reserved_in, reserved_among, first_reserved, unless_reserved, version1_outcome, version_outcome}
use Rattle.operation.proofs.OperationParts.{roots_in, patterns_inside}

pub operation_short : (T : Tables) (s : Scope) (operation : Operation) → ShortOutcome (operation_outcome T s operation)
unfolding operation_outcome
operation_short T s (Pattern scoping root) = pattern_short T s scoping root
operation_short T s (ColonEquals left right reading) = assignment_short T s ColEq left right reading
operation_short T s (Equals left right reading) = assignment_short T s Eq left right reading
operation_short T s (SomeIn value collection key reading) = some_in_short T s value collection key reading
operation_short T s (Index root) = index_short T s root
operation_short T s (Parameter scoping root) = parameter_short T s scoping root

-- the node of a reserved name
abbrev LowNode : ℕ → ℕ → Type 0
LowNode n x = n ≤ 512

module _ (bad : ℕ → Bool) where
  append_low : (os ps : List Occurrence) → first_node bad os ≤ 512 → first_node bad ps ≤ 512 → first_node bad (os ++ ps) ≤ 512
  unfolding first_node
  append_low [] ps a b = b
  append_low (o ∷ os) ps a b = go (bad o.name) (λ h. append_low os ps h b) a
    where
      go : (t : Bool) → (first_node bad os ≤ 512 → first_node bad (os ++ ps) ≤ 512) → cond t o.node (first_node bad os) ≤ 512 → cond t o.node (first_node bad (os ++ ps)) ≤ 512
      go true rest h = h
      go false rest h = rest h

  name_low : (n x : ℕ) → n ≤ 512 → (t : Bool) → cond t n 0 ≤ 512
  name_low n x low true = low
  name_low n x low false = omega arith

  mutual
    unfolding occurrences AllNames first_node

    names_low : (e : Expr) → AllNames LowNode e → first_node bad (occurrences false false e) ≤ 512
    names_low (literal n l) h = omega arith
    names_low (name n x) h = name_low n x h (bad x)
    names_low (wildcard n) h = omega arith
    names_low (array n es) h = items_low es h
    names_low (set n es) h = omega arith
    names_low (object n fs) h = values_low fs h
    names_low (other n) h = omega arith

    items_low : (es : Exprs) → AllNamesAll LowNode es → first_node bad (occurrences_all false false es) ≤ 512
    items_low none h = omega arith
    items_low (item e es) h = append_low (occurrences false false e) (occurrences_all false false es) (names_low e h.0) (items_low es h.1)

    values_low : (fs : Fields) → AllNamesFields LowNode fs → first_node bad (occurrences_fields false false fs) ≤ 512
    values_low done h = omega arith
    values_low (field k v fs) h = append_low (occurrences false false v) (occurrences_fields false false fs) (names_low v h.1) (values_low fs h.2)

module _ (T : Tables) (s : Scope) (w : WellFormed T) where
  in_low : (p : PatternRoot) → is_node T p.root ≡ true → reserved_in T s p.scoping p.root ≤ 512
  unfolding reserved_in
  in_low p i = names_low _ (expr T p.root) (names_all T w LowNode (λ m z k named. let h = z.high in let l = w.limits.nodes in omega arith) p.root (root_node T p.root refl (ap not i)))

  among_low : (ps : List PatternRoot) → all_nodes T (roots_in ps) ≡ true → reserved_among T s ps ≤ 512
  unfolding reserved_among
  among_low [] h = omega arith
  among_low (p ∷ ps) h = let b = and_true (is_node T p.root) _ h in go (eqb (reserved_in T s p.scoping p.root) 0) (in_low p b.0) (among_low ps b.1)
    where
      go : (t : Bool) → reserved_in T s p.scoping p.root ≤ 512 → reserved_among T s ps ≤ 512 → cond t (reserved_among T s ps) (reserved_in T s p.scoping p.root) ≤ 512
      go true a b = b
      go false a b = a

pub version_short : (T : Tables) (s : Scope) (version : ℕ) (operation : Operation) → ShortOutcome (version_outcome T s version operation)
version_short T s version operation = go (eqb version 1)
  where
    go : (v : Bool) → ShortOutcome (cond v (version1_outcome T s operation) (operation_outcome T s operation))
    go false = operation_short T s operation
    go true = checked_short T s (roots_of operation) (unless_reserved (first_reserved T s operation) (operation_outcome T s operation)) (λ w i.
        require_short (eqb (first_reserved T s operation) 0) (reserved_name (first_reserved T s operation)) (operation_outcome T s operation) (refusal_short (omega arith) (among_low T s w (patterns_of operation) (patterns_inside T operation i))) (λ t. operation_short T s operation))
