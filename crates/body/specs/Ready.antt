-- The names that a line needs a value for: those of its value sides and of its plan's computed keys. The first that has none is refused.
use Rattle.std.specs.Prelude.{ℕ, Bool, true, cond, ◌&&◌, not, List, [], ◌∷◌, ◌++◌, eqb}
use Rattle.base.specs.Lists.{elem}
use Rattle.scope.specs.declared.Scope.{Scope}
use Rattle.scope.specs.declared.ScopingMode.TheVariants.{RespectParent}
use Rattle.scope.specs.Scope.{known}
use Rattle.table.specs.Tables.{Tables, first_word_of}
use Rattle.table.specs.Decode.{expr}
use Rattle.planner.specs.Layout.{Entry, literal_key, bound_names}
use Rattle.planner.specs.Simple.{is_literal}
use Rattle.planner.specs.Names.{occurrences, first_node}
use Rattle.operation.specs.declared.Operation.{Operation}
use Rattle.operation.specs.declared.Operation.TheVariants.{Pattern, ColonEquals, Equals, SomeIn, Index, Parameter}

-- the names that entries bind
abbrev pub names_bound : Tables → List Entry → List ℕ
names_bound T es = bound_names (first_word_of T.nodes) es

-- an expression that is searched, and the names that earlier pairs of its line bind
pub record Side : Type 0 where
  pub node : ℕ
  pub earlier : List ℕ

abbrev pub side : ℕ → List ℕ → Side
side node earlier = record { node = node; earlier = earlier }

abbrev pub one_side : ℕ → List Side
one_side node = side node [] ∷ []

-- The value side of each pair. `earlier` are the names that the entries before bind: no pair stands below another, so they are those of earlier pairs.
unfoldable pub pair_sides : Tables → List ℕ → List Entry → List Side
pair_sides T earlier [] = []
pair_sides T earlier (e ∷ es) = cond (eqb e.kind 7) (side e.node earlier ∷ pair_sides T earlier es) (pair_sides T (earlier ++ names_bound T (e ∷ [])) es)

-- the other side of a wildcard; where both sides are one there is none
abbrev pub other_side : ℕ → ℕ → ℕ → List Side
other_side left right which = cond (eqb which 1) (one_side right) (cond (eqb which 2) (one_side left) [])

-- of an `=`, by its form: 2 bind left, 3 bind right, 4 pairs, 5 equality check, 6 wildcard
unfoldable pub equals_value_sides : Tables → ℕ → ℕ → ℕ → ℕ → List Entry → List Side
equals_value_sides T left right form which es =
    cond (eqb form 2) (one_side right)
    (cond (eqb form 3) (one_side left)
    (cond (eqb form 4) (pair_sides T [] es)
    (cond (eqb form 5) (side left [] ∷ one_side right)
    (other_side left right which))))

-- the value sides of a line that is planned with this form, side and entries, in plan order
unfoldable pub value_sides : Tables → Operation → ℕ → ℕ → List Entry → List Side
value_sides T (ColonEquals left right reading) form which es = one_side right
value_sides T (Equals left right reading) form which es = equals_value_sides T left right form which es
value_sides T (SomeIn value collection key reading) form which es = one_side collection
value_sides T (Index root) form which es = []
value_sides T (Pattern scoping root) form which es = []
value_sides T (Parameter scoping root) form which es = []

-- a key that is no literal
abbrev pub is_computed : Tables → ℕ → Bool
is_computed T key = not (eqb key 0) && not (is_literal (literal_key (expr T key)))

-- The computed keys of entries. `bound` are the names that the entries before bind, `earlier` those of them that earlier pairs bind.
unfoldable pub computed_key_sides : Tables → List ℕ → List ℕ → List Entry → List Side
computed_key_sides T earlier bound [] = []
computed_key_sides T earlier bound (e ∷ es) =
    cond (eqb e.kind 7) (computed_key_sides T bound bound es)
    (cond (is_computed T e.key) (side e.key earlier ∷ []) [] ++ computed_key_sides T earlier (bound ++ names_bound T (e ∷ [])) es)

-- value sides, then computed keys, in plan order
abbrev pub sides_of : Tables → Operation → ℕ → ℕ → List Entry → List Side
sides_of T operation form which es = value_sides T operation form which es ++ computed_key_sides T [] [] es

-- neither known under RespectParent nor bound by an earlier pair; what earlier lines bind is bound in the scope
abbrev pub not_ready : Scope → List ℕ → ℕ → Bool
not_ready s earlier x = not (known s RespectParent x) && not (elem x earlier)

-- the node of the first such name of a side as written, through arrays, sets and objects, keys included; or 0
abbrev pub first_in : Tables → Scope → Side → ℕ
first_in T s u = first_node (not_ready s u.earlier) (occurrences true true (expr T u.node))

-- that of the first side that has one
unfoldable pub first_not_ready : Tables → Scope → List Side → ℕ
first_not_ready T s [] = 0
first_not_ready T s (u ∷ us) = cond (eqb (first_in T s u) 0) (first_not_ready T s us) (first_in T s u)
