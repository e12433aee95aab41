-- The words of a body, and the value sides of a line, case by case.
use Prim.Native.Nat.{ℕ, ◌+◌, ◌*◌, ◌%◌, ◌≤◌, ◌<◌}
use mathlib.Core.Path.{◌≡◌, refl, sym, ap, subst, ◌∙◌}
use mathlib.Core.Bool.{Bool, true, false, cond, not, ◌&&◌}
use mathlib.Core.List.{List, [], ◌∷◌, ◌++◌}
use native.Mathlib.Omega.{arith}
use borrow.Author.Tests.{eq-eqb, ne_eqb, le-leb, lt-leb, not-true, not-false}
use lib.Dec.{eqb, leb}
use lib.ListN.{length, get_or}
use Rattle.base.specs.Lists.{all_from}
use Rattle.scope.specs.declared.Scope.{Scope}
use Rattle.table.specs.Tables.{Tables}
use Rattle.table.proofs.tests.Scan.{Scan, scan_on, scan_fails}
use Rattle.planner.specs.Layout.{Entry}
use Rattle.planner.specs.Entries.{read_entries}
use Rattle.operation.specs.declared.Operation.{Operation}
use Rattle.operation.specs.declared.Operation.TheVariants.{Pattern, ColonEquals, Equals, SomeIn, Index, Parameter}
use Rattle.body.specs.declared.sides.Sides.{Sides}
use Rattle.body.specs.Lines.{line_words, line_count, is_line_at, is_body}
use Rattle.body.specs.Ready.{Side, side, one_side, other_side, equals_value_sides, value_sides, pair_sides, computed_key_sides, first_in, first_not_ready}
use Rattle.body.specs.code.Post.{both_unknown, nodes_by, other_by, equals_by, sides_by, pairs_found, keys_found, values_found, line_found}
use Rattle.body.proofs.PlanLoops.{zero_ready}

-- the operation of a line
module _ (x : ℕ) where
  pub line_low : x < 2 → false ≡ (leb 2 x && leb x 5)
  line_low lt = rw (lt-leb 2 x lt) refl

  pub line_by : {r : Bool} → 2 ≤ x → r ≡ leb x 5 → r ≡ (leb 2 x && leb x 5)
  line_by le e = rw (le-leb 2 x le) e

-- line after line
module _ (words : List ℕ) {k i : ℕ} (go : Scan (is_line_at words) 0 k i) (more : i < k) {r : Bool} (is : r ≡ (leb 2 (get_or words (i * line_words) 0) && leb (get_or words (i * line_words) 0) 5)) where
  pub lines_fail : not r ≡ true → false ≡ all_from (is_line_at words) 0 k
  lines_fail no_line = let z : 0 + i ≡ i = omega arith in scan_fails go more (rw z (sym is ∙ not-true r no_line))

  pub lines_on : not r ≡ false → Scan (is_line_at words) 0 k (i + 1)
  lines_on a-line = let z : 0 + i ≡ i = omega arith in scan_on go more (rw z (sym is ∙ not-false r a-line))

module _ (words : List ℕ) where
  pub body_broken : (length words % 4 ≡ 0 → ⊥) → false ≡ is_body words
  unfolding is_body
  body_broken e = rw (ne_eqb (length words % 4) 0 e) refl

  module _ (whole : length words % 4 ≡ 0) where
    pub body_empty : line_count words < 1 → false ≡ is_body words
    unfolding is_body
    body_empty lt = rw (eq-eqb (length words % 4) 0 whole, lt-leb 1 (line_count words) lt) refl

    module _ (some : 1 ≤ line_count words) where
      pub body_long : 64 < line_count words → false ≡ is_body words
      unfolding is_body
      body_long lt = rw (eq-eqb (length words % 4) 0 whole, le-leb 1 (line_count words) some, lt-leb (line_count words) 64 lt) refl

      pub body_by : line_count words ≤ 64 → {r : Bool} → r ≡ all_from (is_line_at words) 0 (line_count words) → r ≡ is_body words
      unfolding is_body
      body_by le e = rw (eq-eqb (length words % 4) 0 whole, le-leb 1 (line_count words) some, le-leb (line_count words) 64 le) e

-- by a number
module _ {A : Type 0} (a b : ℕ) (x y : A) where
  pub cond_is : {r : A} → a ≡ b → r ≡ x → r ≡ cond (eqb a b) x y
  cond_is e q = q ∙ simp (eq-eqb a b e)

  pub cond_other : {r : A} → (a ≡ b → ⊥) → r ≡ y → r ≡ cond (eqb a b) x y
  cond_other e q = q ∙ simp (ne_eqb a b e)

-- by the case of the operation
pub sides_by_lem : (operation case : Operation) (form which : ℕ) {r : Sides} → operation ≡ case → r ≡ sides_by case form which → r ≡ sides_by operation form which
sides_by_lem operation case form which {r} e is = subst (λ (o : Operation). r ≡ sides_by o form which) (sym e) is

-- what is searched are the value sides
module _ (T : Tables) (s : Scope) where
  -- one node, and none
  one : (n : ℕ) → both_unknown T s n 0 ≡ first_not_ready T s (one_side n)
  unfolding first_not_ready
  one n = rw (zero_ready T s []) refl

  none_there : both_unknown T s 0 0 ≡ first_not_ready T s []
  unfolding first_not_ready
  none_there = rw (zero_ready T s []) refl

  -- the code's sides stand for the value sides
  record StandsFor (es : List Entry) (r : Sides) (us : List Side) : Type 0 where
    paired : r.pairs ≡ true → first_not_ready T s (pair_sides T [] es) ≡ first_not_ready T s us
    apart : r.pairs ≡ false → both_unknown T s r.first r.second ≡ first_not_ready T s us

  module _ (es : List Entry) where
    nodes_stand : (first second : ℕ) (us : List Side) → both_unknown T s first second ≡ first_not_ready T s us → StandsFor es (nodes_by first second) us
    nodes_stand first second us e = record { paired = λ p. absurd (mathlib.Core.Bool.false≢true p); apart = λ p. e }

    other_stands : (a b : Bool) (left right : ℕ) → StandsFor es (cond a (nodes_by right 0) (cond b (nodes_by left 0) (nodes_by 0 0))) (cond a (one_side right) (cond b (one_side left) []))
    other_stands true b left right = nodes_stand right 0 (one_side right) (one right)
    other_stands false true left right = nodes_stand left 0 (one_side left) (one left)
    other_stands false false left right = nodes_stand 0 0 [] none_there

    equals_stand : (left right form which : ℕ) → StandsFor es (equals_by left right form which) (equals_value_sides T left right form which es)
    unfolding equals_value_sides
    equals_stand left right form which = go (eqb form 2) (eqb form 3) (eqb form 4) (eqb form 5)
      where
        go : (a b c d : Bool)
            → StandsFor es (cond a (nodes_by right 0) (cond b (nodes_by left 0) (cond c (record { pairs = true; first = 0; second = 0 }) (cond d (nodes_by left right) (other_by left right which)))))
            (cond a (one_side right) (cond b (one_side left) (cond c (pair_sides T [] es) (cond d (side left [] ∷ one_side right) (other_side left right which)))))
        go true b c d = nodes_stand right 0 (one_side right) (one right)
        go false true c d = nodes_stand left 0 (one_side left) (one left)
        go false false true d = record { paired = λ p. refl; apart = λ p. absurd (mathlib.Core.Bool.false≢true (sym p)) }
        go false false false true = nodes_stand left right (side left [] ∷ one_side right) refl
        go false false false false = other_stands (eqb which 1) (eqb which 2) left right

    stands : (operation : Operation) (form which : ℕ) → StandsFor es (sides_by operation form which) (value_sides T operation form which es)
    unfolding value_sides
    stands (ColonEquals left right reading) form which = nodes_stand right 0 (one_side right) (one right)
    stands (Equals left right reading) form which = equals_stand left right form which
    stands (SomeIn value collection key reading) form which = nodes_stand collection 0 (one_side collection) (one collection)
    stands (Index root) form which = nodes_stand 0 0 [] none_there
    stands (Pattern scoping root) form which = nodes_stand 0 0 [] none_there
    stands (Parameter scoping root) form which = nodes_stand 0 0 [] none_there

  module _ (operation : Operation) (form which : ℕ) (plan : List ℕ) (count : ℕ) where
    module _ {r : Sides} (is : r ≡ sides_by operation form which) where
      pub values_paired : r.pairs ≡ true → {found : ℕ} → found ≡ pairs_found T s plan count → found ≡ values_found T s operation form which plan count
      values_paired p e = e ∙ (stands (read_entries plan 0 count) operation form which).paired (ap (λ (q : Sides). q.pairs) (sym is) ∙ p)

      pub values_apart : r.pairs ≡ false → {found : ℕ} → found ≡ both_unknown T s r.first r.second → found ≡ values_found T s operation form which plan count
      values_apart p e = e ∙ (ap (λ (q : Sides). both_unknown T s q.first q.second) is ∙ (stands (read_entries plan 0 count) operation form which).apart (ap (λ (q : Sides). q.pairs) (sym is) ∙ p))

    -- value sides, then computed keys
    sides_then : (us vs : List Side) → first_not_ready T s (us ++ vs) ≡ cond (eqb (first_not_ready T s us) 0) (first_not_ready T s vs) (first_not_ready T s us)
    unfolding first_not_ready
    sides_then [] vs = refl
    sides_then (u ∷ us) vs = go (eqb (first_in T s u) 0) refl (sides_then us vs)
      where
        go : (b : Bool) → eqb (first_in T s u) 0 ≡ b → first_not_ready T s (us ++ vs) ≡ cond (eqb (first_not_ready T s us) 0) (first_not_ready T s vs) (first_not_ready T s us)
            → cond b (first_not_ready T s (us ++ vs)) (first_in T s u) ≡ cond (eqb (cond b (first_not_ready T s us) (first_in T s u)) 0) (first_not_ready T s vs) (cond b (first_not_ready T s us) (first_in T s u))
        go true q h = h
        go false q h = rw q refl

    module _ {found : ℕ} (is : found ≡ values_found T s operation form which plan count) where
      pub line_value : (found ≡ 0 → ⊥) → found ≡ line_found T s operation form which plan count
      line_value some = sym (sides_then (value_sides T operation form which (read_entries plan 0 count)) (computed_key_sides T [] [] (read_entries plan 0 count)) ∙ rw (← is, ne_eqb found 0 some) refl)

      pub line_key : found ≡ 0 → {next : ℕ} → next ≡ keys_found T s plan count → next ≡ line_found T s operation form which plan count
      line_key none e = e ∙ sym (sides_then (value_sides T operation form which (read_entries plan 0 count)) (computed_key_sides T [] [] (read_entries plan 0 count)) ∙ rw (← is, eq-eqb found 0 none) refl)
