-- Sides that are plain, simple or neither, and what a refusal says of them, by computation.
use mathlib.Core.Path.{◌≡◌, refl}
use mathlib.Core.Bool.{true, false}
use mathlib.Core.List.{[], ◌∷◌}
use Rattle.literal.specs.Literal.{Literal, number, string}
use Rattle.literal.specs.Order.{bytes_order, key_order}
use Rattle.literal.specs.Text.{key_text, digits}
use Rattle.table.specs.Names.{same_bytes}
use Rattle.table.specs.Expr.{Expr, literal, name, wildcard, array, object, none, item, done, field, count}
use Rattle.planner.specs.Layout.{insert}
use Rattle.planner.specs.Held.{value_order}
use Rattle.planner.specs.Simple.{has_key, differing, keys_of, admitted, simple}
use Rattle.checks.specs.declared.Reading.TheVariants.{Present, Careful}
use Rattle.checks.specs.Joining.{is_mismatch, in_turn, first_mismatch_or, joined}
use Rattle.checks.specs.Structure.{key_texts, insert_text, sort_texts, same_texts, structure}
use Rattle.shape_refusals.specs.Plain.{has_text, differing_texts, plain}
use Rattle.shape_refusals.specs.ShapeRefusals.{NeverEqual}
use Rattle.shape_refusals.proofs.Promise.{shape_refusals_promise}

abbrev one : Literal
one = number false 1

-- its text is that of 1
abbrev text_one : Literal
text_one = string (49 ∷ [])

abbrev b : Literal
b = string (98 ∷ [])

-- {1: x, "b": [_, 1]}: key texts differ
abbrev texts_differ : Expr
texts_differ = object 8 (field (literal 1 one) (name 2 1) (field (literal 3 b) (array 7 (item (wildcard 4) (item (literal 5 one) none))) done))

plain_side : plain texts_differ ≡ true
unfolding plain key_texts differing_texts has_text same_bytes bytes_order key_text digits
plain_side = refl

-- {1: x, "1": y}: keys differ, their texts do not
abbrev texts_agree : Expr
texts_agree = object 5 (field (literal 1 one) (name 2 1) (field (literal 3 text_one) (name 4 2) done))

simple_side : (plain texts_agree ≡ false) × (simple texts_agree ≡ true)
unfolding plain key_texts differing_texts has_text same_bytes bytes_order key_text digits admitted keys_of differing has_key key_order
simple_side = (refl, refl)

-- {"b": x, "b": y}: a key that repeats is neither
repeated_key : (plain (object 5 (field (literal 1 b) (name 2 1) (field (literal 3 b) (name 4 2) done))) ≡ false) × (simple (object 5 (field (literal 1 b) (name 2 1) (field (literal 3 b) (name 4 2) done))) ≡ false)
unfolding plain key_texts differing_texts has_text same_bytes bytes_order key_text admitted keys_of differing has_key key_order
repeated_key = (refl, refl)

-- {1: 1, "1": 1} has other keys than {1: x, "b": [_, 1]}: simple sides, and never equal
keys_differ : NeverEqual (object 9 (field (literal 1 one) (literal 2 one) (field (literal 3 text_one) (literal 4 one) done))) texts_differ
unfolding admitted keys_of differing has_key key_order structure key_texts insert_text sort_texts same_texts same_bytes bytes_order key_text digits value_order insert
keys_differ = shape_refusals_promise.of_simple.one_item_lem Present (object 9 (field (literal 1 one) (literal 2 one) (field (literal 3 text_one) (literal 4 one) done))) texts_differ refl refl refl

-- [1, [1, 1]] and [x, [y]]: the present reading ends at x, the careful one refuses, and so they are never equal
abbrev longer : Expr
longer = array 5 (item (literal 1 one) (item (array 4 (item (literal 2 one) (item (literal 3 one) none))) none))

abbrev shorter : Expr
shorter = array 4 (item (name 1 1) (item (array 3 (item (name 2 2) none)) none))

present_ends : is_mismatch (structure Present longer shorter) ≡ false
unfolding structure joined in_turn count
present_ends = refl

lengths_differ : NeverEqual longer shorter
unfolding plain structure joined first_mismatch_or count
lengths_differ = shape_refusals_promise.of_plain.one_item_lem Careful longer shorter refl refl refl
