-- The keys of each object must differ: where one repeats, a shape refusal may come though values of the names make the sides equal.
use Rattle.std.specs.Prelude.{ℕ, ◌≡◌, false, List, [], ◌∷◌}
use Rattle.base.specs.Refusal.{Refusal, object_literal_keys_mismatch, object_field_count_mismatch}
use Rattle.literal.specs.Literal.{Literal, number, string}
use Rattle.scope.specs.Scope.{new_scope}
use Rattle.table.specs.Tables.{Tables, tables}
use Rattle.table.specs.Expr.{Expr, literal, name, object, done, field}
use Rattle.table.specs.Decode.{expr}
use Rattle.planner.specs.Operations.{refused}
use Rattle.checks.specs.declared.Reading.{Reading}
use Rattle.operation.specs.declared.Operation.{Operation}
use Rattle.operation.specs.declared.Operation.TheVariants.{ColonEquals, Equals}
use Rattle.operation.specs.Operation.{operation_outcome}
use Rattle.value.specs.Value.{Same}
use Rattle.matching.specs.Matching.{ProperValue, Blanks, fill}

-- An operation on the sides at nodes 3 and 8 of a table refuses them, in a scope without names and in both readings, yet they can be equal.
-- Each name has one value, so neither `NeverEqual` nor `NeverEqualNames` holds of the sides.
pub record RefusedThoughEqual (T : Tables) (operation : ℕ → ℕ → Reading → Operation) (l r : Expr) (refusal : Refusal) : Type 0 where
  pub left : expr T 3 ≡ l
  pub right : expr T 8 ≡ r
  pub refuses : (reading : Reading) → operation_outcome T (new_scope 0 false) (operation 3 8 reading) ≡ refused refusal
  pub names : ℕ → ProperValue
  pub left_blanks : Blanks l
  pub right_blanks : Blanks r
  pub equal : Same (fill (λ x. (names x).value) l left_blanks) (fill (λ x. (names x).value) r right_blanks)

abbrev pub a : Literal
a = string (97 ∷ [])

abbrev pub one : Literal
one = number false 1

-- {"a": x}
abbrev pub only_x : Expr
only_x = object 3 (field (literal 1 a) (name 2 1) done)

-- {"a": 1, "a": 1}
abbrev pub ones_twice : Expr
ones_twice = object 8 (field (literal 4 a) (literal 5 one) (field (literal 6 a) (literal 7 one) done))

-- {"a": 1, "a": y}
abbrev pub one_and_y : Expr
one_and_y = object 8 (field (literal 4 a) (literal 5 one) (field (literal 6 a) (name 7 2) done))

-- five words of a node
abbrev node : ℕ → ℕ → ℕ → ℕ → ℕ → List ℕ → List ℕ
node kind start end first count rest = kind ∷ (start ∷ (end ∷ (first ∷ (count ∷ rest))))

abbrev string_a : List ℕ → List ℕ
string_a = node 1 0 0 0 1

abbrev number_one : List ℕ → List ℕ
number_one = node 3 0 0 0 0

abbrev name_x : List ℕ → List ℕ
name_x = node 6 0 1 1 0

abbrev name_y : List ℕ → List ℕ
name_y = node 6 1 2 2 0

abbrev object_at : ℕ → ℕ → List ℕ → List ℕ
object_at first count = node 9 0 0 first count

-- of eight nodes: {"a": x}, then an object {"a": 1, "a": ..} whose last value is given
abbrev two_objects : (List ℕ → List ℕ) → Tables
two_objects value =
    tables (string_a (name_x (object_at 0 1 (string_a (number_one (string_a (value (object_at 2 2 []))))))))
    (1 ∷ 2 ∷ 4 ∷ 5 ∷ 6 ∷ 7 ∷ []) (0 ∷ 1 ∷ []) (0 ∷ 1 ∷ 1 ∷ 1 ∷ []) (97 ∷ []) (120 ∷ 121 ∷ [])

pub record KeysMustDiffer : Type 0 where
  -- {"a": x} := {"a": 1, "a": 1} is refused as 14, as the value's texts are counted with repeats; equal where x is 1.
  -- No smaller pair of sides does it: oracle/no_match finds none of less than these 8 nodes. That is tried, not proved.
  pub colon_equals : RefusedThoughEqual (two_objects number_one) ColonEquals only_x ones_twice (object_literal_keys_mismatch 8 3)
  -- {"a": x} = {"a": 1, "a": y} is refused as 15, as the right side's fields are counted with repeats; equal where x and y are 1
  pub equals : RefusedThoughEqual (two_objects name_y) Equals only_x one_and_y (object_field_count_mismatch 3 1 2)
