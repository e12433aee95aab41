-- The patterns and the roots of an operation, as the code lists and tests them.
use Prim.Native.Nat.{ℕ}
use mathlib.Core.Path.{◌≡◌, refl, sym, ap, subst, ◌∙◌}
use mathlib.Core.Bool.{Bool, true, false, not, ◌&&◌, and-false}
use mathlib.Core.List.{List, [], ◌∷◌}
use borrow.Author.Tests.{eq-eqb, ne_eqb, not-false}
use lib.Dec.{eqb}
use Rattle.scope.specs.declared.ScopingMode.{ScopingMode}
use Rattle.scope.specs.declared.ScopingMode.TheVariants.{RespectParent, AllowShadowing}
use Rattle.table.specs.Tables.{Tables, tables, is_node}
use Rattle.table.specs.Check.{all_nodes}
use Rattle.table.proofs.tests.Bools.{and_true}
use Rattle.planner.specs.code.Post.{GoodRoot}
use Rattle.planner.proofs.laws.Operations.{root_node}
use Rattle.checks.specs.declared.Reading.{Reading}
use Rattle.some_in.specs.SomeIn.{roots}
use Rattle.operation.specs.declared.Operation.{Operation}
use Rattle.operation.specs.declared.Operation.TheVariants.{Pattern, ColonEquals, Equals, SomeIn, Index, Parameter}
use Rattle.operation.specs.declared.patterns.Patterns.{Patterns}
use Rattle.operation.specs.Version.{PatternRoot, pattern_root, some_in_patterns, patterns_of, roots_of}
use Rattle.operation.specs.code.Reserved.{listed, ReservedAsks}

-- the patterns, by the case of the operation
module _ (value key : ℕ) {l : List PatternRoot} where
  pub without_key : key ≡ 0 → l ≡ pattern_root RespectParent value ∷ [] → l ≡ some_in_patterns value key
  without_key e is = simp (eq-eqb key 0 e) is

  pub with_key : (key ≡ 0 → ⊥) → l ≡ pattern_root RespectParent key ∷ (pattern_root RespectParent value ∷ []) → l ≡ some_in_patterns value key
  with_key e is = simp (ne_eqb key 0 e) is

module _ (operation : Operation) {l : List PatternRoot} where
  pub of_pattern : {scoping : ScopingMode} {root : ℕ} → operation ≡ Pattern scoping root → l ≡ pattern_root scoping root ∷ [] → l ≡ patterns_of operation
  unfolding patterns_of
  of_pattern e is = rw e is

  pub of_colon_equals : {left right : ℕ} {reading : Reading} → operation ≡ ColonEquals left right reading → l ≡ pattern_root AllowShadowing left ∷ [] → l ≡ patterns_of operation
  unfolding patterns_of
  of_colon_equals e is = rw e is

  pub of_equals : {left right : ℕ} {reading : Reading} → operation ≡ Equals left right reading → l ≡ pattern_root RespectParent left ∷ (pattern_root RespectParent right ∷ []) → l ≡ patterns_of operation
  unfolding patterns_of
  of_equals e is = rw e is

  pub of_some_in : {value collection key : ℕ} {reading : Reading} → operation ≡ SomeIn value collection key reading → l ≡ some_in_patterns value key → l ≡ patterns_of operation
  unfolding patterns_of
  of_some_in e is = rw e is

  pub of_index : {root : ℕ} → operation ≡ Index root → l ≡ pattern_root RespectParent root ∷ [] → l ≡ patterns_of operation
  unfolding patterns_of
  of_index e is = rw e is

  pub of_parameter : {scoping : ScopingMode} {root : ℕ} → operation ≡ Parameter scoping root → l ≡ pattern_root scoping root ∷ [] → l ≡ patterns_of operation
  unfolding patterns_of
  of_parameter e is = rw e is

-- the roots: only the nodes are read
abbrev pub in_nodes : List ℕ → Tables
in_nodes nodes = tables nodes [] [] [] [] []

only : (b : Bool) → b ≡ (b && true)
only true = refl
only false = refl

module _ (nodes : List ℕ) where
  module _ (first second : ℕ) {inside : Bool} (told : inside ≡ is_node (in_nodes nodes) first) where
    pub first_inside : {r : Bool} → inside ≡ true → r ≡ is_node (in_nodes nodes) second → r ≡ all_nodes (in_nodes nodes) (first ∷ (second ∷ []))
    first_inside t is = let e : is_node (in_nodes nodes) first ≡ true = sym told ∙ t in rw e (is ∙ only (is_node (in_nodes nodes) second))

    pub first_outside : inside ≡ false → false ≡ all_nodes (in_nodes nodes) (first ∷ (second ∷ []))
    first_outside t = let e : is_node (in_nodes nodes) first ≡ false = sym told ∙ t in rw e refl

  module _ (value collection key : ℕ) where
    pub keyless_roots : {r : Bool} → key ≡ 0 → r ≡ all_nodes (in_nodes nodes) (value ∷ (collection ∷ [])) → r ≡ all_nodes (in_nodes nodes) (roots value collection key)
    keyless_roots e is = simp (eq-eqb key 0 e) is

    module _ (some : key ≡ 0 → ⊥) {inside : Bool} (told : inside ≡ is_node (in_nodes nodes) key) where
      pub key_inside : {r : Bool} → inside ≡ true → r ≡ all_nodes (in_nodes nodes) (value ∷ (collection ∷ [])) → r ≡ all_nodes (in_nodes nodes) (roots value collection key)
      key_inside t is = let e : is_node (in_nodes nodes) key ≡ true = sym told ∙ t in simp (ne_eqb key 0 some, e) is

      pub key_outside : inside ≡ false → false ≡ all_nodes (in_nodes nodes) (roots value collection key)
      key_outside t = let e : is_node (in_nodes nodes) key ≡ false = sym told ∙ t in simp (ne_eqb key 0 some, e, and-false)

  module _ (operation : Operation) {r : Bool} where
    pub root_pattern : {scoping : ScopingMode} {root : ℕ} → operation ≡ Pattern scoping root → r ≡ is_node (in_nodes nodes) root → r ≡ all_nodes (in_nodes nodes) (roots_of operation)
    unfolding roots_of
    root_pattern {root = root} e is = rw e (is ∙ only (is_node (in_nodes nodes) root))

    pub roots_colon_equals : {left right : ℕ} {reading : Reading} → operation ≡ ColonEquals left right reading → r ≡ all_nodes (in_nodes nodes) (left ∷ (right ∷ [])) → r ≡ all_nodes (in_nodes nodes) (roots_of operation)
    unfolding roots_of
    roots_colon_equals e is = rw e is

    pub roots_equals : {left right : ℕ} {reading : Reading} → operation ≡ Equals left right reading → r ≡ all_nodes (in_nodes nodes) (left ∷ (right ∷ [])) → r ≡ all_nodes (in_nodes nodes) (roots_of operation)
    unfolding roots_of
    roots_equals e is = rw e is

    pub roots_some_in : {value collection key : ℕ} {reading : Reading} → operation ≡ SomeIn value collection key reading → r ≡ all_nodes (in_nodes nodes) (roots value collection key) → r ≡ all_nodes (in_nodes nodes) (roots_of operation)
    unfolding roots_of
    roots_some_in e is = rw e is

    pub root_index : {root : ℕ} → operation ≡ Index root → r ≡ is_node (in_nodes nodes) root → r ≡ all_nodes (in_nodes nodes) (roots_of operation)
    unfolding roots_of
    root_index {root} e is = rw e (is ∙ only (is_node (in_nodes nodes) root))

    pub root_parameter : {scoping : ScopingMode} {root : ℕ} → operation ≡ Parameter scoping root → r ≡ is_node (in_nodes nodes) root → r ≡ all_nodes (in_nodes nodes) (roots_of operation)
    unfolding roots_of
    root_parameter {root = root} e is = rw e (is ∙ only (is_node (in_nodes nodes) root))

pub nodes_of_table : (T : Tables) (ns : List ℕ) → all_nodes (in_nodes T.nodes) ns ≡ all_nodes T ns
nodes_of_table T [] = refl
nodes_of_table T (n ∷ ns) = ap (λ (b : Bool). is_node T n && b) (nodes_of_table T ns)

-- a pattern's root is one of the roots
abbrev pub roots_in : List PatternRoot → List ℕ
roots_in [] = []
roots_in (p ∷ ps) = p.root ∷ roots_in ps

pub patterns_inside : (T : Tables) (operation : Operation) → all_nodes T (roots_of operation) ≡ true → all_nodes T (roots_in (patterns_of operation)) ≡ true
unfolding patterns_of roots_of
patterns_inside T (Pattern scoping root) h = h
patterns_inside T (ColonEquals left right reading) h = let a = (and_true (is_node T left) _ h).0 in rw a refl
patterns_inside T (Equals left right reading) h = h
patterns_inside T (SomeIn value collection key reading) h = go (eqb key 0) refl
  where
    go : (b : Bool) → eqb key 0 ≡ b → all_nodes T (roots_in (some_in_patterns value key)) ≡ true
    go true e = let a = (and_true (is_node T value) _ h).0 in simp (e, a)
    go false e =
        let a = (and_true (is_node T value) _ h).0 in
        let rest = (and_true (is_node T collection) _ (and_true (is_node T value) _ h).1).1 in
        let k = (and_true (is_node T key) _ (rw e at rest)).0 in
        simp (e, a, k)
patterns_inside T (Index root) h = h
patterns_inside T (Parameter scoping root) h = h

module _ (T : Tables) (operation : Operation) (asks : ReservedAsks T operation) (p : Patterns) (is : listed p ≡ patterns_of operation) where
  inside : all_nodes T (roots_in (listed p)) ≡ true
  inside = subst (λ (ps : List PatternRoot). all_nodes T (roots_in ps) ≡ true) (sym is) (patterns_inside T operation asks.roots)

  good : (root : ℕ) → is_node T root ≡ true → GoodRoot T root
  good root i = record { table = asks.table; node = root_node T root refl (ap not i) }

  pub first_good : GoodRoot T p.first
  first_good = good p.first (and_true (is_node T p.first) _ inside).0

  pub second_good : not p.two ≡ false → GoodRoot T p.second
  second_good t =
      let two = not-false p.two t in
      let rest = (and_true (is_node T p.first) _ inside).1 in
      good p.second (and_true (is_node T p.second) _ (rw two at rest)).0
