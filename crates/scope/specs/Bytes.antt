-- The byte layout, as sheets have it: the marks of name x stand at place x - 1, summed. The calls and questions are defined on it as on bit
-- words; `Agreement` says that the two agree. Conversions between them.
use Rattle.std.specs.Prelude.{ℕ, zero, suc, ◌+◌, ◌-◌, ◌*◌, ◌/◌, ◌%◌, ◌^◌, ◌≡◌, Bool, true, false, cond, not, ◌&&◌, List, [], ◌∷◌, map, eqb, leb, get_or, set, replicate, Result, Ok, Err, IfOk}
use Rattle.base.specs.Lists.{tabulate}
use Rattle.base.specs.Refusal.{breaks_rules, Tested, passed, refused, require}
use Rattle.scope.specs.declared.name_set.NameSet.{NameSet}
use Rattle.scope.specs.declared.Scope.{Scope}
use Rattle.scope.specs.declared.ByteScope.{ByteScope}
use Rattle.scope.specs.declared.ScopingMode.{ScopingMode}
use Rattle.scope.specs.declared.MarkOutside.{MarkOutside}
use Rattle.scope.specs.Names.{is_name, contains, count_from}
use Rattle.scope.specs.Says.{Says, unbound_under, bound_here}
use Rattle.scope.specs.Scope.{new_scope}

-- Marks, summed: 1 bound, 2 bound in this scope, 4 unbound, 8 local, 16 global.
abbrev pub has : ℕ → ℕ → Bool
has k m = eqb (m / k % 2) 1

abbrev pub mark_of : ByteScope → ℕ → ℕ
mark_of b x = get_or b.marks (x - 1) 0

abbrev pub says_mark : ℕ → Says
says_mark m = record { bound = has 1 m; here = has 2 m; unbound = has 4 m; local = has 8 m; global = has 16 m }

unfoldable pub says : ByteScope → ℕ → Says
says b x = says_mark (mark_of b x)

unfoldable pub is_underscore : ByteScope → ℕ → Bool
is_underscore b x = eqb x b.underscore

unfoldable pub is_unbound : ByteScope → ScopingMode → ℕ → Bool
is_unbound b mode x = unbound_under (is_underscore b x) b.scheduler mode (says b x)

unfoldable pub same_scope : ByteScope → ℕ → Bool
same_scope b x = bound_here (is_underscore b x) (says b x)

unfoldable pub bound_count : ByteScope → ℕ
bound_count b = count_from (λ x. (says b x).bound) 1 128

abbrev pub with_marks : ByteScope → List ℕ → ByteScope
with_marks b ms = record { marks = ms; underscore = b.underscore; scheduler = b.scheduler }

-- a name's 1, 2, 4 and 8 replaced
unfoldable pub with_lower : ℕ → ByteScope → ℕ → ByteScope
with_lower lower b x = cond (is_name x && not (is_underscore b x)) (with_marks b (set b.marks (x - 1) (mark_of b x / 16 * 16 + lower))) b

-- sets 1 and 2, clears 4 and 8
unfoldable pub bind_variable : ByteScope → ℕ → ByteScope
bind_variable b x = with_lower 3 b x

-- sets 4, clears 1, 2 and 8
unfoldable pub add_unbound_variable : ByteScope → ℕ → ByteScope
add_unbound_variable b x = with_lower 4 b x

-- a mark without 2
abbrev pub without_same : ℕ → ℕ
without_same m = m - m / 2 % 2 * 2

unfoldable pub child_of : ByteScope → ByteScope
child_of b = with_marks b (map without_same b.marks)

unfoldable pub empty_bytes : ℕ → Bool → ByteScope
empty_bytes underscore scheduler = record { marks = replicate 128 0; underscore = underscore; scheduler = scheduler }

-- Is every mark at most 31?
unfoldable pub small_marks : List ℕ → Bool
small_marks [] = true
small_marks (m ∷ ms) = leb m 31 && small_marks ms

unfoldable pub marks_ok : ByteScope → Bool
marks_ok b = small_marks b.marks

-- Bit words from bytes: the bits `f from`, `f (from + 1)`, .., the lowest first.
unfoldable pub word_from : (ℕ → ℕ) → ℕ → ℕ → ℕ
word_from f from zero = 0
word_from f from (suc count) = f from + word_from f (suc from) count * 2

-- bit `place` of the mark at index i
abbrev pub mark_bit : List ℕ → ℕ → ℕ → ℕ
mark_bit ms place i = get_or ms i 0 / 2 ^ place % 2

abbrev pub unmarked : List ℕ → ℕ → ℕ → Bool
unmarked ms place i = eqb (mark_bit ms place i) 0

-- the names whose mark has that bit
unfoldable pub marked : List ℕ → ℕ → NameSet
marked ms place = record { low = word_from (mark_bit ms place) 0 64; high = word_from (mark_bit ms place) 64 64 }

unfoldable pub of_bytes : ByteScope → Scope
of_bytes b =
    record {
      bound = marked b.marks 0;
      here = marked b.marks 1;
      unbound = marked b.marks 2;
      local = marked b.marks 3;
      global = marked b.marks 4;
      underscore = b.underscore;
      scheduler = b.scheduler;
    }

-- what a conversion answers: marks above 31 break the table rules
abbrev pub conversion_of : Result Scope MarkOutside → Tested
conversion_of (Ok s) = passed
conversion_of (Err outside) = refused breaks_rules

abbrev pub convertible : ByteScope → Tested
convertible b = require (marks_ok b) breaks_rules passed

-- the scope of a conversion, or an empty one in its place at a refusal
abbrev pub converted : ByteScope → Scope
converted b = cond (marks_ok b) (of_bytes b) (new_scope 0 false)

pub record ConvertedFrom (b : ByteScope) (r : Result Scope MarkOutside) : Type 0 where
  pub answer : conversion_of r ≡ convertible b
  pub scope : IfOk r (λ s. s ≡ of_bytes b)

-- Bytes from bit words: the marks of a name, summed.
abbrev pub weight : Bool → ℕ → ℕ
weight b k = cond b k 0

unfoldable pub sum_of : Scope → ℕ → ℕ
sum_of s x =
    weight (contains s.bound x) 1 + weight (contains s.here x) 2 + weight (contains s.unbound x) 4
    + weight (contains s.local x) 8 + weight (contains s.global x) 16

unfoldable pub to_bytes : Scope → ByteScope
to_bytes s = record { marks = tabulate (λ i. sum_of s (i + 1)) 0 128; underscore = s.underscore; scheduler = s.scheduler }
