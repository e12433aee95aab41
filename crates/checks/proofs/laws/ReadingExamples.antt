-- The two readings on worked examples, by computation.
use Prim.Native.Nat.{ℕ}
use mathlib.Core.Path.{◌≡◌, refl}
use mathlib.Core.Bool.{false}
use mathlib.Core.List.{[], ◌∷◌}
use Rattle.literal.specs.Literal.{number, string}
use Rattle.literal.specs.Order.{bytes_order, key_order}
use Rattle.literal.specs.Text.{key_text, digits}
use Rattle.table.specs.Names.{same_bytes}
use Rattle.table.specs.Expr.{Expr, literal, name, array, object, done, field, count}
use Rattle.table.specs.Expr as Expr
use Rattle.planner.specs.Layout.{insert}
use Rattle.planner.specs.Held.{value_order, held_under}
use Rattle.checks.specs.declared.Reading.TheVariants.{Present, Careful}
use Rattle.checks.specs.declared.LiteralStructureCheck.{LiteralStructureCheck}
use Rattle.checks.specs.declared.LiteralStructureCheck.TheVariants.{Match, Unknown, ArrayMismatch, ObjectMismatch}
use Rattle.checks.specs.Joining.{in_turn, any_unknown, first_mismatch_or, joined}
use Rattle.checks.specs.Structure.{key_texts, insert_text, sort_texts, same_texts, written_checks, partners, ordered_checks, field_checks, structure}

-- x, y; 1, 2; the keys "1", "2", "a", "b"; k, a key that is no literal
abbrev x : Expr
x = name 1 1

abbrev y : Expr
y = name 2 2

abbrev one : Expr
one = literal 3 (number false 1)

abbrev two : Expr
two = literal 4 (number false 2)

abbrev text1 : Expr
text1 = literal 5 (string (49 ∷ []))

abbrev text2 : Expr
text2 = literal 6 (string (50 ∷ []))

abbrev a : Expr
a = literal 7 (string (97 ∷ []))

abbrev b : Expr
b = literal 8 (string (98 ∷ []))

abbrev k : Expr
k = name 9 3

-- arrays and objects at a node
abbrev empty : ℕ → Expr
empty n = array n Expr.none

abbrev only : ℕ → Expr → Expr
only n e = array n (Expr.item e Expr.none)

abbrev pair : ℕ → Expr → Expr → Expr
pair n d e = array n (Expr.item d (Expr.item e Expr.none))

abbrev held : ℕ → Expr → Expr → Expr
held n l e = object n (field l e done)

abbrev both : ℕ → Expr → Expr → Expr → Expr → Expr
both n l d m e = object n (field l d (field m e done))

-- a value against a pattern comes to one check in the present reading, and to another in the careful one
record Comes (value pattern : Expr) (present careful : LiteralStructureCheck) : Type 0 where
  now : structure Present value pattern ≡ present
  careful_is : structure Careful value pattern ≡ careful

-- `[x, [y]] := [1, [1, 2]]`: the careful reading looks past x
past_unknown_lem : Comes (pair 20 one (pair 21 one two)) (pair 30 x (only 31 y)) Unknown (ArrayMismatch 21 1 2)
unfolding structure joined in_turn any_unknown first_mismatch_or count
past_unknown_lem = record { now = refl; careful_is = refl }

-- nothing mismatches and an item is unknown; nothing is unknown
stays_unknown : Comes (pair 20 one (empty 21)) (pair 30 x (empty 31)) Unknown Unknown
unfolding structure joined in_turn any_unknown first_mismatch_or count
stays_unknown = record { now = refl; careful_is = refl }

stays_match : Comes (pair 20 (empty 21) (empty 22)) (pair 30 (empty 31) (empty 32)) Match Match
unfolding structure joined in_turn any_unknown first_mismatch_or count
stays_match = record { now = refl; careful_is = refl }

-- `{"b": [x], "a": [y]}` on `{"b": [], "a": [1, 2]}`: as written b is met first, in key order a
other_place : Comes (both 20 b (empty 21) a (pair 22 one two)) (both 30 b (only 31 x) a (only 32 y)) (ArrayMismatch 21 1 0) (ArrayMismatch 22 1 2)
unfolding structure joined in_turn any_unknown first_mismatch_or count written_checks partners ordered_checks field_checks value_order held_under insert key_order bytes_order key_text digits key_texts insert_text sort_texts same_texts same_bytes
other_place = record { now = refl; careful_is = refl }

-- `{"b": [x], "a": {"b": y}}` on `{"b": [], "a": {"a": 1}}`: 13 as written, 14 in key order
other_number : Comes (both 20 b (empty 21) a (held 22 a one)) (both 30 b (only 31 x) a (held 32 b y)) (ArrayMismatch 21 1 0) (ObjectMismatch 22 32)
unfolding structure joined in_turn any_unknown first_mismatch_or count written_checks partners ordered_checks field_checks value_order held_under insert key_order bytes_order key_text digits key_texts insert_text sort_texts same_texts same_bytes
other_number = record { now = refl; careful_is = refl }

-- `{1: x}` on `{"1": 2}`, the smallest field without a partner: passed over in the present reading, unknown in the careful one
no_partner : Comes (held 20 text1 two) (held 30 one x) Match Unknown
unfolding structure joined in_turn any_unknown first_mismatch_or count written_checks partners ordered_checks field_checks value_order held_under insert key_order bytes_order key_text digits key_texts insert_text sort_texts same_texts same_bytes
no_partner = record { now = refl; careful_is = refl }

-- `{1: x, "2": [y]}` on `{"1": 1, "2": [1, 2]}`: were such a field unknown in the present reading, this would be accepted, against the Rust
past_no_partner : Comes (both 20 text1 one text2 (pair 21 one two)) (both 30 one x text2 (only 31 y)) (ArrayMismatch 21 1 2) (ArrayMismatch 21 1 2)
unfolding structure joined in_turn any_unknown first_mismatch_or count written_checks partners ordered_checks field_checks value_order held_under insert key_order bytes_order key_text digits key_texts insert_text sort_texts same_texts same_bytes
past_no_partner = record { now = refl; careful_is = refl }

-- `{1: x, "1": [y]}` on `{"1": [1, 2], "1": [1]}`, and with the value's fields the other way round: both are held against [y]
repeated_first : Comes (both 20 text1 (pair 21 one two) text1 (only 22 one)) (both 30 one x text1 (only 31 y)) (ArrayMismatch 21 1 2) (ArrayMismatch 21 1 2)
unfolding structure joined in_turn any_unknown first_mismatch_or count written_checks partners ordered_checks field_checks value_order held_under insert key_order bytes_order key_text digits key_texts insert_text sort_texts same_texts same_bytes
repeated_first = record { now = refl; careful_is = refl }

repeated_last : Comes (both 20 text1 (only 22 one) text1 (pair 21 one two)) (both 30 one x text1 (only 31 y)) Unknown (ArrayMismatch 21 1 2)
unfolding structure joined in_turn any_unknown first_mismatch_or count written_checks partners ordered_checks field_checks value_order held_under insert key_order bytes_order key_text digits key_texts insert_text sort_texts same_texts same_bytes
repeated_last = record { now = refl; careful_is = refl }

-- key checks are those of the present reading: `{}` on any object, `{k: x}` on `{"a": 1}`, `{"a": x}` on `{"b": 1}`
any_object : Comes (held 20 a one) (object 30 done) Match Match
unfolding structure joined in_turn any_unknown first_mismatch_or value_order
any_object = record { now = refl; careful_is = refl }

computed_alone : Comes (held 20 a one) (held 30 k x) Unknown Unknown
unfolding structure joined in_turn any_unknown first_mismatch_or value_order
computed_alone = record { now = refl; careful_is = refl }

other_keys : Comes (held 20 b one) (held 30 a x) (ObjectMismatch 20 30) (ObjectMismatch 20 30)
unfolding structure joined in_turn any_unknown first_mismatch_or count written_checks partners ordered_checks field_checks value_order held_under insert key_order bytes_order key_text digits key_texts insert_text sort_texts same_texts same_bytes
other_keys = record { now = refl; careful_is = refl }

-- a computed field makes an object unknown, and hides no mismatch
computed_unknown : Comes (held 20 a (empty 21)) (both 30 a (empty 31) k x) Unknown Unknown
unfolding structure joined in_turn any_unknown first_mismatch_or count written_checks partners ordered_checks field_checks value_order held_under insert key_order bytes_order key_text digits key_texts insert_text sort_texts same_texts same_bytes
computed_unknown = record { now = refl; careful_is = refl }

computed_mismatch : Comes (held 20 a (empty 21)) (both 30 a (only 31 y) k x) (ArrayMismatch 21 1 0) (ArrayMismatch 21 1 0)
unfolding structure joined in_turn any_unknown first_mismatch_or count written_checks partners ordered_checks field_checks value_order held_under insert key_order bytes_order key_text digits key_texts insert_text sort_texts same_texts same_bytes
computed_mismatch = record { now = refl; careful_is = refl }
