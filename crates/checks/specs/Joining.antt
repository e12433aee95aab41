-- What the checks of several items come to, by the reading: present, as in the Rust, or careful (request 10 of document 02).
use Rattle.std.specs.Prelude.{Bool, true, false, cond, ◌||◌, List, [], ◌∷◌}
use Rattle.checks.specs.declared.Reading.{Reading}
use Rattle.checks.specs.declared.Reading.TheVariants.{Present, Careful}
use Rattle.checks.specs.declared.LiteralStructureCheck.{LiteralStructureCheck}
use Rattle.checks.specs.declared.LiteralStructureCheck.TheVariants.{Match, Unknown, ArrayMismatch, ObjectMismatch}

abbrev pub is_mismatch : LiteralStructureCheck → Bool
is_mismatch Match = false
is_mismatch Unknown = false
is_mismatch (ArrayMismatch value expected actual) = true
is_mismatch (ObjectMismatch value pattern) = true

abbrev pub is_unknown : LiteralStructureCheck → Bool
is_unknown Match = false
is_unknown Unknown = true
is_unknown (ArrayMismatch value expected actual) = false
is_unknown (ObjectMismatch value pattern) = false

-- Present: the first item that does not match, be it unknown, ends an array or object.
abbrev pub and_then : LiteralStructureCheck → LiteralStructureCheck → LiteralStructureCheck
and_then Match rest = rest
and_then Unknown rest = Unknown
and_then (ArrayMismatch n a b) rest = ArrayMismatch n a b
and_then (ObjectMismatch n m) rest = ObjectMismatch n m

unfoldable pub in_turn : List LiteralStructureCheck → LiteralStructureCheck
in_turn [] = Match
in_turn (c ∷ cs) = and_then c (in_turn cs)

-- Careful: the first mismatch; without one unknown, if some item is; else a match.
unfoldable pub any_unknown : List LiteralStructureCheck → Bool
any_unknown [] = false
any_unknown (c ∷ cs) = is_unknown c || any_unknown cs

unfoldable pub first_mismatch_or : List LiteralStructureCheck → LiteralStructureCheck → LiteralStructureCheck
first_mismatch_or [] otherwise = otherwise
first_mismatch_or (c ∷ cs) otherwise = cond (is_mismatch c) c (first_mismatch_or cs otherwise)

-- the items in the order in which they are met
unfoldable pub joined : Reading → List LiteralStructureCheck → LiteralStructureCheck
joined Present cs = in_turn cs
joined Careful cs = first_mismatch_or cs (cond (any_unknown cs) Unknown Match)
