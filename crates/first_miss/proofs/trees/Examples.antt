-- Examples of first misses, computed. Keys of the object at node m have the nodes m * 10, m * 10 + 1 and on.
use Prim.Native.Nat.{ℕ, ◌+◌, ◌*◌}
use mathlib.Core.Bool.{true, false}
use mathlib.Core.List.{[]}
use mathlib.Core.Option.{none}
use mathlib.Core.Path.{◌≡◌, refl}
use Rattle.literal.specs.Literal.{Literal, number}
use Rattle.literal.specs.Order.{key_order}
use Rattle.base.specs.Lists.{elem}
use Rattle.table.specs.Expr as Expr
use Rattle.table.specs.Expr.{Expr, literal, name, wildcard, array, object, item, done, field}
use Rattle.planner.specs.Plan.{plan}
use Rattle.planner.specs.Simple.{has_key}
use Rattle.value.specs.Value.{Value, literalᵛ, arrayᵛ, objectᵛ, noneᵛ, itemᵛ, doneᵛ, fieldᵛ, keysᵛ, under, same}
use Rattle.matching.specs.Matching.{plan_keys, same_length}
use Rattle.first_miss.specs.declared.Why.TheVariants.{NameDiffers, LiteralDiffers, NoArray, OtherLength, NoObject, KeyMissing, KeyTooMany}
use Rattle.first_miss.specs.Miss.{MissOutcome, miss_at, key_slots, missing_key, other_key, first_miss}

abbrev miss_of : Expr → Value → MissOutcome
miss_of e v = first_miss (λ m i. m * 10 + i) (plan (λ x. true) e []) v (λ x. none)

abbrev is : ℕ → Literal
is k = number false k

abbrev at : ℕ → ℕ → Value
at n k = literalᵛ n (is k)

-- the keys 2 and 1, as written
abbrev keyed : Expr
keyed = object 9 (field (literal 5 (is 2)) (wildcard 6) (field (literal 7 (is 1)) (literal 8 (is 4)) done))

-- `[x, x]` on [1, 2]: the second item against the first
again : miss_of (array 3 (item (name 1 1) (item (name 2 1) Expr.none))) (arrayᵛ 6 (itemᵛ (at 4 1) (itemᵛ (at 5 2) noneᵛ))) ≡ miss_at NameDiffers 5 2
unfolding plan first_miss same_length same key_order elem key_slots plan_keys missing_key other_key has_key keysᵛ under
again = refl

-- `[1, 2]` on [3, 4]: the first of two misses
first : miss_of (array 3 (item (literal 1 (is 1)) (item (literal 2 (is 2)) Expr.none))) (arrayᵛ 6 (itemᵛ (at 4 3) (itemᵛ (at 5 4) noneᵛ))) ≡ miss_at LiteralDiffers 4 1
unfolding plan first_miss same_length same key_order elem key_slots plan_keys missing_key other_key has_key keysᵛ under
first = refl

-- `[]` on 1
no_array : miss_of (array 3 Expr.none) (at 4 1) ≡ miss_at NoArray 4 3
unfolding plan first_miss same_length same key_order elem key_slots plan_keys missing_key other_key has_key keysᵛ under
no_array = refl

-- `[]` on [1]
length : miss_of (array 3 Expr.none) (arrayᵛ 6 (itemᵛ (at 4 1) noneᵛ)) ≡ miss_at OtherLength 6 3
unfolding plan first_miss same_length same key_order elem key_slots plan_keys missing_key other_key has_key keysᵛ under
length = refl

-- `{}` on []
no_object : miss_of (object 3 done) (arrayᵛ 6 noneᵛ) ≡ miss_at NoObject 6 3
unfolding plan first_miss same_length same key_order elem key_slots plan_keys missing_key other_key has_key keysᵛ under
no_object = refl

-- `{2: _, 1: 4}` on {3: 0}: the least missing key, before the one too many
missing : miss_of keyed (objectᵛ 20 (fieldᵛ (is 3) (at 12 0) doneᵛ)) ≡ miss_at KeyMissing 20 7
unfolding plan first_miss same_length same key_order elem key_slots plan_keys missing_key other_key has_key keysᵛ under
missing = refl

-- and on {1: 0, 3: 0, 2: 0}: a key too many, before the field that differs
too_many : miss_of keyed (objectᵛ 20 (fieldᵛ (is 1) (at 11 0) (fieldᵛ (is 3) (at 12 0) (fieldᵛ (is 2) (at 13 0) doneᵛ)))) ≡ miss_at KeyTooMany 201 9
unfolding plan first_miss same_length same key_order elem key_slots plan_keys missing_key other_key has_key keysᵛ under
too_many = refl

-- and on {1: 0, 2: 0}: the value under the key
under_key_lem : miss_of keyed (objectᵛ 20 (fieldᵛ (is 1) (at 11 0) (fieldᵛ (is 2) (at 13 0) doneᵛ))) ≡ miss_at LiteralDiffers 11 8
unfolding plan first_miss same_length same key_order elem key_slots plan_keys missing_key other_key has_key keysᵛ under
under_key_lem = refl
