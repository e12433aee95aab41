-- The definitions run on small patterns. Each part of a pattern has a node number of its own.
use Prim.Native.Nat.{ℕ}
use mathlib.Core.Bool.{Bool, true, false, cond, ◌&&◌}
use mathlib.Core.List.{List, [], ◌∷◌}
use mathlib.Core.Option.{Option, none, some}
use mathlib.Core.Path.{◌≡◌, refl}
use lib.Dec.{eqb}
use Rattle.literal.specs.Literal.{Literal, null, boolean, number, string, is_number}
use Rattle.literal.specs.Order.{key_order, bytes_order}
use Rattle.literal.specs.Reading.{literal_of}
use Rattle.table.specs.Tables.{Tables, tables, record_word}
use Rattle.table.specs.Decode.{literal_node, ref_of}
use Rattle.table.specs.Expr as Expr
use Rattle.table.specs.Expr.{Expr, literal, name, wildcard, array, set, object, other, Exprs, item, Fields, done, field, node_of}
use Rattle.planner.specs.Layout.{insert}
use Rattle.planner.specs.Simple.{admitted, has_key, differing, keys_of}
use Rattle.value.specs.Value.{Value, literalᵛ, arrayᵛ, objectᵛ, noneᵛ, itemᵛ, doneᵛ, fieldᵛ, same, keysᵛ, under, within}
use Rattle.common_example.specs.Overlap.{Template, put_in, example, size}
use Rattle.common_example.specs.Operations.{node_words, literal_words, node_like, child_entries, child_words_lem}
use Rattle.common_example.specs.Unify.{keyed_in, unified, close, join_pairs, round, count_where, meet, meet_items, meet_fields, build, build_items, build_fields, keys_in, place_under}
use Rattle.common_example.specs.Places.{overlap, graph_places, places_of, placed_fields}

abbrev or_else : Option Expr → Option Expr → Option Expr
or_else none o = o
or_else (some e) o = some e

abbrev here : ℕ → Expr → Option Expr → Option Expr
here n e o = cond (eqb n (node_of e)) (some e) o

-- the part with node n
mutual
  part_at : ℕ → Expr → Option Expr
  part_at n (literal m l) = here n (literal m l) none
  part_at n (name m x) = here n (name m x) none
  part_at n (wildcard m) = here n (wildcard m) none
  part_at n (array m es) = here n (array m es) (part_in n es)
  part_at n (set m es) = here n (set m es) none
  part_at n (object m fs) = here n (object m fs) (part_under_lem n fs)
  part_at n (other m) = here n (other m) none

  part_in : ℕ → Exprs → Option Expr
  part_in n Expr.none = none
  part_in n (item e es) = or_else (part_at n e) (part_in n es)

  part_under_lem : ℕ → Fields → Option Expr
  part_under_lem n done = none
  part_under_lem n (field k v fs) = or_else (part_at n v) (part_under_lem n fs)

abbrev or_other : ℕ → Option Expr → Expr
or_other n none = other n
or_other n (some e) = e

abbrev among : List Expr → ℕ → Option Expr
among [] n = none
among (e ∷ es) n = or_else (part_at n e) (among es n)

abbrev example_of : {H : Type 0} → Option (Template H) → Option Value
example_of none = none
example_of (some t) = some (example t)

-- p and q, the values of known names, and which name holds which node on each side
given : Expr → Expr → List Expr → (ℕ → Option ℕ) → (ℕ → Option ℕ) → Option Value
given p q vs held₁ held₂ = example_of (overlap (λ n. or_other n (among (p ∷ (q ∷ vs)) n)) held₁ held₂ 32 (node_of p) (node_of q))

unknown : ℕ → Option ℕ
unknown x = none

-- no name is known
of : Expr → Expr → Option Value
of p q = given p q [] unknown unknown

one : ℕ → Expr
one n = literal n (number false 1)

two : ℕ → Expr
two n = literal n (number false 2)

-- x is name 1, y name 2, on both sides
x : ℕ → Expr
x n = name n 1

y : ℕ → Expr
y n = name n 2

list0 : ℕ → Expr
list0 n = array n Expr.none

list1 : ℕ → Expr → Expr
list1 n a = array n (item a Expr.none)

list2 : ℕ → Expr → Expr → Expr
list2 n a b = array n (item a (item b Expr.none))

nothing : Value
nothing = literalᵛ 0 null

oneᵛ : Value
oneᵛ = literalᵛ 0 (number false 1)

twoᵛ : Value
twoᵛ = literalᵛ 0 (number false 2)

list1ᵛ : Value → Value
list1ᵛ a = arrayᵛ 0 (itemᵛ a noneᵛ)

list2ᵛ : Value → Value → Value
list2ᵛ a b = arrayᵛ 0 (itemᵛ a (itemᵛ b noneᵛ))

object2 : ℕ → ℕ → Literal → Expr → ℕ → Literal → Expr → Expr
object2 n i k a j l b = object n (field (literal i k) a (field (literal j l) b done))

letter_a : Literal
letter_a = string (97 ∷ [])

letter_b : Literal
letter_b = string (98 ∷ [])

object2ᵛ : Literal → Value → Literal → Value → Value
object2ᵛ k a l b = objectᵛ 0 (fieldᵛ k a (fieldᵛ l b doneᵛ))

-- name 1 holds node 20
holds20 : ℕ → Option ℕ
holds20 x = cond (eqb x 1) (some 20) none

-- two patterns, and the example or none
pub record Row : Type 0 where
  pub found : Option Value
  pub due : Option Value

row : Option Value → Option Value → Row
row found due = record { found = found; due = due }

agree : Option Value → Option Value → Bool
agree none none = true
agree none (some v) = false
agree (some v) none = false
agree (some v) (some w) = same v w

all_agree : List Row → Bool
all_agree [] = true
all_agree (r ∷ rs) = agree r.found r.due && all_agree rs

rows : List Row
rows =
    -- `[x, x]` with `[[y], y]`: a value would have to hold itself
    row (of (list2 3 (x 1) (x 2)) (list2 7 (list1 5 (y 4)) (y 6))) none
    -- `[x, 1]` with `[2, x]`: the two names are different
    ∷ (row (of (list2 3 (x 1) (one 2)) (list2 6 (two 4) (x 5))) (some (list2ᵛ twoᵛ oneᵛ))
    -- `[x, x]` with `[1, 2]`: one name has one value
    ∷ (row (of (list2 3 (x 1) (x 2)) (list2 6 (one 4) (two 5))) none
    -- `[_, _]` with `[1, 2]`: each underscore has its own
    ∷ (row (of (list2 3 (wildcard 1) (wildcard 2)) (list2 6 (one 4) (two 5))) (some (list2ᵛ oneᵛ twoᵛ))
    -- `x` with `y`: nothing is fixed
    ∷ (row (of (x 1) (y 2)) (some nothing)
    -- `[x, y]` with `[y, y]`: both are free
    ∷ (row (of (list2 3 (x 1) (y 2)) (list2 6 (y 4) (y 5))) (some (list2ᵛ nothing nothing))
    -- `[x, [x]]` with `[y, y]`: none, through two names
    ∷ (row (of (list2 4 (x 1) (list1 3 (x 2))) (list2 7 (y 5) (y 6))) none
    -- `[x, [1, _]]` with `[y, y]`: what one place fixes the other has too
    ∷ (row (of (list2 5 (x 1) (list2 4 (one 2) (wildcard 3))) (list2 8 (y 6) (y 7))) (some (list2ᵛ (list2ᵛ oneᵛ nothing) (list2ᵛ oneᵛ nothing)))
    -- `[]` with `[_]`: lengths differ
    ∷ (row (of (list0 1) (list1 3 (wildcard 2))) none
    -- `{"b": x, "a": 1}` with `{"a": y, "b": y}`: by key, whatever the order
    ∷ (row (of (object2 5 1 letter_b (x 2) 3 letter_a (one 4)) (object2 10 6 letter_a (y 7) 8 letter_b (y 9))) (some (object2ᵛ letter_a oneᵛ letter_b oneᵛ))
    -- `{"a": x, "b": 1}` with `{"a": 1, "c": x}`: key sets differ
    ∷ (row (of (object2 5 1 letter_a (x 2) 3 letter_b (one 4)) (object2 10 6 letter_a (one 7) 8 (string (99 ∷ [])) (x 9))) none
    -- `[x, y]` with `[y, x]`, x known as `[1]` on the first side: the second side's x is another name
    ∷ (row (given (list2 3 (x 1) (y 2)) (list2 6 (y 4) (x 5)) (list1 20 (one 19) ∷ []) holds20 unknown) (some (list2ᵛ (list1ᵛ oneᵛ) nothing))
    -- `[x]` with `[2]`, x known as `[1]`
    ∷ (row (given (list1 2 (x 1)) (list1 4 (two 3)) (list1 20 (one 19) ∷ []) holds20 unknown) none
    -- null with `_`, and null with false
    ∷ (row (of (literal 1 null) (wildcard 2)) (some nothing)
    ∷ (row (of (literal 1 null) (literal 2 (boolean false))) none
    ∷ []))))))))))))))

rows_agree : all_agree rows ≡ true
unfolding rows row agree all_agree holds20 object2 letter_a letter_b object2ᵛ same keysᵛ under within keys_in place_under placed_fields keyed_in insert meet_fields build_fields key_order admitted has_key differing keys_of of given unknown x y one two list0 list1 list2 list1ᵛ list2ᵛ oneᵛ twoᵛ nothing part_at unified graph_places close join_pairs round count_where meet meet_items build build_items places_of put_in bytes_order
rows_agree = refl

-- A table with node 6 `{"b": x, "a": [1]}` and node 7 `y`, and what is written for `{"a": [1], "b": null}`.
small : Tables
small = tables
    (1 ∷ (0 ∷ (0 ∷ (1 ∷ (1 ∷ (6 ∷ (0 ∷ (1 ∷ (1 ∷ (0 ∷ (1 ∷ (0 ∷ (0 ∷ (0 ∷ (1 ∷ (3 ∷ (0 ∷ (0 ∷ (0 ∷ (0 ∷ (7 ∷ (0 ∷ (0 ∷ (0 ∷ (1 ∷ (9 ∷ (0 ∷ (0 ∷ (1 ∷ (2 ∷ (6 ∷ (1 ∷ (2 ∷ (2 ∷ (0 ∷ [])))))))))))))))))))))))))))))))))))
    (4 ∷ (1 ∷ (2 ∷ (3 ∷ (5 ∷ [])))))
    (0 ∷ (1 ∷ []))
    (0 ∷ (1 ∷ (1 ∷ (1 ∷ []))))
    (97 ∷ (98 ∷ []))
    (120 ∷ (121 ∷ []))

written : Value
written = object2ᵛ letter_a (list1ᵛ oneᵛ) letter_b nothing

-- nodes 8 to 13: key `a`, 1, the array at place 5, key `b`, null, the object at place 6
small_nodes : node_words small written 5 ≡ (1 ∷ (0 ∷ (0 ∷ (0 ∷ (1 ∷ (3 ∷ (0 ∷ (0 ∷ (0 ∷ (0 ∷ (7 ∷ (0 ∷ (0 ∷ (5 ∷ (1 ∷ (1 ∷ (0 ∷ (0 ∷ (1 ∷ (1 ∷ (5 ∷ (0 ∷ (0 ∷ (0 ∷ (0 ∷ (9 ∷ (0 ∷ (0 ∷ (6 ∷ (2 ∷ []))))))))))))))))))))))))))))))
unfolding small written object2ᵛ letter_a letter_b nothing list1ᵛ oneᵛ node_words literal_words node_like child_entries literal_node ref_of literal_of record_word key_order bytes_order is_number
small_nodes = refl

small_children : child_words_lem written 7 ≡ (9 ∷ (8 ∷ (10 ∷ (11 ∷ (12 ∷ [])))))
unfolding written object2ᵛ letter_a letter_b nothing list1ᵛ oneᵛ child_words_lem size
small_children = refl
