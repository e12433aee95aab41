-- Worked examples of the decision: what it answers, by computing.
use Prim.Native.Nat.{ℕ, ◌-◌, ◌^◌}
use mathlib.Core.Bool.{Bool, true, false, cond}
use mathlib.Core.List.{List, [], ◌∷◌}
use mathlib.Core.Option.{none, some}
use mathlib.Core.Path.{◌≡◌, refl}
use lib.Dec.{eqb}
use lib.ListN.{get_or}
use Rattle.literal.specs.Literal.{null, number, is_number}
use Rattle.literal.specs.Order.{key_order}
use Rattle.literal.specs.Reading.{literal_of}
use Rattle.scope.specs.declared.Scope.{Scope}
use Rattle.scope.specs.declared.ScopingMode.{ScopingMode}
use Rattle.table.specs.Tables.{Tables, tables, record_word}
use Rattle.table.specs.Decode.{expr, expr_at, headed, literal_node, ref_of}
use Rattle.table.specs.Expr as Expr
use Rattle.table.specs.Expr.{Expr, literal, name, array, object, item, done, field}
use Rattle.base.specs.Lists.{elem, all_from}
use Rattle.planner.specs.Plan.{plan}
use Rattle.planner.specs.Simple.{has_key}
use Rattle.value.specs.Value.{Value, literalᵛ, arrayᵛ, objectᵛ, noneᵛ, itemᵛ, doneᵛ, fieldᵛ, keysᵛ, within, under, same, value_of}
use Rattle.matching.specs.Matching.{Env, same_length, plan_keys}
use Rattle.tolerance.specs.Tolerance.{Ranges}
use Rattle.tolerance.specs.code.Classes.{certain, all_certain, unified}
use Rattle.tolerance.specs.Tolerance.{Number, num, has_number, always, sometimes, never}
use Rattle.tolerance.specs.Operations.{is_measured, ranges_ok}
use Rattle.tolerance.specs.code.Decision.{equal_if, walk, decided, answer, names_after}

-- Nodes 1, 2, 3 .. of a value have these ranges; name 1 is unbound, name 2 is known.
abbrev measured : List (Number × Number) → Ranges Number
measured rs = record { lowest = λ n. (get_or rs (n - 1) (num false 0, num false 0)).0; highest = λ n. (get_or rs (n - 1) (num false 0, num false 0)).1 }

abbrev to : ℕ → ℕ → Number × Number
to a b = (num false a, num false b)

abbrev unbound : ℕ → Bool
unbound x = eqb x 1

abbrev none_listed : Env
none_listed x = none

-- name 2 has a value
abbrev listing : Value → Env
listing w x = cond (eqb x 2) (some w) none

-- a number node of the value
abbrev at : ℕ → Value
at n = literalᵛ n (number false 17)

abbrev array₂ : Value → Value → Value
array₂ v w = arrayᵛ 9 (itemᵛ v (itemᵛ w noneᵛ))

abbrev array₃ : Value → Value → Value → Value
array₃ u v w = arrayᵛ 9 (itemᵛ u (itemᵛ v (itemᵛ w noneᵛ)))

abbrev pattern₂ : Expr → Expr → Expr
pattern₂ p q = array 19 (item p (item q Expr.none))

abbrev pattern₃ : Expr → Expr → Expr → Expr
pattern₃ p q o = array 19 (item p (item q (item o Expr.none)))

abbrev x : ℕ → Expr
x n = name n 1

abbrev y : ℕ → Expr
y n = name n 2

abbrev is : ℕ → Expr
is k = literal 11 (number false k)

-- `18` on 17 to 19
reading : answer unbound none_listed (is 18) (at 1) (measured (to 17 19 ∷ [])) ≡ sometimes
unfolding plan walk equal_if all_certain certain unified decided same key_order
reading = refl

-- `18` on 18 to 18, and on 19 to 20
reading_exact : answer unbound none_listed (is 18) (at 1) (measured (to 18 18 ∷ [])) ≡ always
unfolding plan walk equal_if all_certain certain unified decided same key_order
reading_exact = refl

reading_outside : answer unbound none_listed (is 18) (at 1) (measured (to 19 20 ∷ [])) ≡ never
unfolding plan walk equal_if all_certain certain unified decided same key_order
reading_outside = refl

-- `x` on 17 to 19: always, and x holds the node
bound : answer unbound none_listed (x 11) (at 1) (measured (to 17 19 ∷ [])) ≡ always
unfolding plan walk equal_if all_certain certain unified decided same key_order elem
bound = refl

bound_node : names_after unbound none_listed (x 11) (at 1) (measured (to 17 19 ∷ [])) 1 ≡ some (at 1)
unfolding plan walk equal_if all_certain certain unified decided same key_order elem
bound_node = refl

-- `[x, x]`: ranges that overlap, that do not, that are one number
overlap : answer unbound none_listed (pattern₂ (x 11) (x 12)) (array₂ (at 1) (at 2)) (measured (to 17 19 ∷ to 18 20 ∷ [])) ≡ sometimes
unfolding plan walk equal_if all_certain certain unified decided same key_order same_length elem
overlap = refl

overlap_unset : names_after unbound none_listed (pattern₂ (x 11) (x 12)) (array₂ (at 1) (at 2)) (measured (to 17 19 ∷ to 18 20 ∷ [])) 1 ≡ none
unfolding plan walk equal_if all_certain certain unified decided same key_order same_length elem
overlap_unset = refl

disjoint : answer unbound none_listed (pattern₂ (x 11) (x 12)) (array₂ (at 1) (at 2)) (measured (to 17 18 ∷ to 19 20 ∷ [])) ≡ never
unfolding plan walk equal_if all_certain certain unified decided same key_order same_length elem
disjoint = refl

exact : answer unbound none_listed (pattern₂ (x 11) (x 12)) (array₂ (at 1) (at 2)) (measured (to 17 17 ∷ to 17 17 ∷ [])) ≡ always
unfolding plan walk equal_if all_certain certain unified decided same key_order same_length elem
exact = refl

-- the same range twice is not the same number
same_range : answer unbound none_listed (pattern₂ (x 11) (x 12)) (array₂ (at 1) (at 2)) (measured (to 17 19 ∷ to 17 19 ∷ [])) ≡ sometimes
unfolding plan walk equal_if all_certain certain unified decided same key_order same_length elem
same_range = refl

-- a node with itself is: `y` on 17 to 19, with y listed at the very node
itself : answer unbound (listing (at 1)) (y 11) (at 1) (measured (to 17 19 ∷ [])) ≡ always
unfolding plan walk equal_if all_certain certain unified decided same key_order elem
itself = refl

-- `[y, y]` with y a third node: the first two numbers are equal to one another only through it
through : answer unbound (listing (at 3)) (pattern₂ (y 11) (y 12)) (array₂ (at 1) (at 2)) (measured (to 16 17 ∷ to 18 19 ∷ to 16 19 ∷ [])) ≡ never
unfolding plan walk equal_if all_certain certain unified decided same key_order same_length elem
through = refl

-- three ranges with 18 in common; and a known name whose class takes in two nodes, one of which must be 17 besides
three : answer unbound none_listed (pattern₃ (x 11) (x 12) (x 13)) (array₃ (at 1) (at 2) (at 3)) (measured (to 16 18 ∷ to 17 19 ∷ to 18 20 ∷ [])) ≡ sometimes
unfolding plan walk equal_if all_certain certain unified decided same key_order same_length elem
three = refl

three_and_literal : answer unbound (listing (at 1)) (pattern₃ (y 11) (y 12) (is 17)) (array₃ (at 2) (at 3) (at 3)) (measured (to 16 18 ∷ to 18 19 ∷ to 16 20 ∷ [])) ≡ never
unfolding plan walk equal_if all_certain certain unified decided same key_order same_length elem
three_and_literal = refl

-- a pattern's number keeps its own number though its node is measured: node 1 is the pattern and the value
overlapping_roots : answer unbound none_listed (literal 1 (number false 17)) (at 1) (measured (to 17 19 ∷ [])) ≡ sometimes
unfolding plan walk equal_if all_certain certain unified decided same key_order
overlapping_roots = refl

-- a key carries no range: `{17: x}` on `{17: 20}`
keyed : answer unbound none_listed (object 19 (field (is 17) (x 12) done)) (objectᵛ 9 (fieldᵛ (number false 17) (at 2) doneᵛ)) (measured (to 30 40 ∷ to 18 20 ∷ [])) ≡ always
unfolding plan walk equal_if all_certain certain unified decided same key_order plan_keys keysᵛ within has_key under elem
keyed = refl

-- no array of the length, no number: no choice helps
short : answer unbound none_listed (pattern₂ (x 11) (x 12)) (arrayᵛ 9 (itemᵛ (at 1) noneᵛ)) (measured (to 17 19 ∷ [])) ≡ never
unfolding plan walk equal_if all_certain certain unified decided same key_order same_length elem
short = refl

no_number : answer unbound none_listed (is 17) (literalᵛ 1 null) (measured (to 17 19 ∷ [])) ≡ never
unfolding plan walk equal_if all_certain certain unified decided same key_order
no_number = refl

-- from below zero to above the signed range
wide : answer unbound none_listed (literal 11 (number false (2 ^ 64 - 1))) (at 1) (measured ((num true (2 ^ 63), num false (2 ^ 64 - 1)) ∷ [])) ≡ sometimes
unfolding plan walk equal_if all_certain certain unified decided same key_order
wide = refl

-- 32: one node, a number, as the value; what the two lists say of it.
abbrev one_number : Tables
one_number = tables (3 ∷ 0 ∷ 0 ∷ 0 ∷ 0 ∷ []) [] (0 ∷ 17 ∷ []) [] [] []

module _ (s : Scope) (mode : ScopingMode) where
  in_order : ranges_ok one_number s mode 1 [] (0 ∷ 17 ∷ []) (0 ∷ 19 ∷ []) ≡ true
  unfolding ranges_ok is_measured all_from record_word is_number expr expr_at headed literal_node ref_of literal_of value_of has_number
  in_order = refl

  out_of_order : ranges_ok one_number s mode 1 [] (0 ∷ 17 ∷ []) (1 ∷ 19 ∷ []) ≡ false
  unfolding ranges_ok is_measured all_from record_word is_number expr expr_at headed literal_node ref_of literal_of value_of has_number
  out_of_order = refl

  minus_zero : ranges_ok one_number s mode 1 [] (1 ∷ 0 ∷ []) (0 ∷ 19 ∷ []) ≡ false
  unfolding ranges_ok is_measured all_from record_word is_number expr expr_at headed literal_node ref_of literal_of value_of has_number
  minus_zero = refl

  too_short : ranges_ok one_number s mode 1 [] (0 ∷ []) (0 ∷ 19 ∷ []) ≡ false
  unfolding ranges_ok
  too_short = refl
