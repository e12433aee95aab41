-- What is turned back (document 01, "What each operation turns back"): a number, a place and two counts; and the order of tests.
use Rattle.std.specs.Prelude.{ℕ, ◌≡◌, refl, Bool, false, cond, eqb}

-- number, place (a node or 0), two counts; 0 is no refusal's number
pub record Refusal : Type 0 where
  pub number : ℕ
  pub place : ℕ
  pub first : ℕ
  pub second : ℕ
  pub refuses : eqb number 0 ≡ false

abbrev pub refusal : (number : ℕ) → eqb number 0 ≡ false → ℕ → ℕ → ℕ → Refusal
refusal number refuses place first second = record { number = number; place = place; first = first; second = second; refuses = refuses }

-- table check
abbrev pub over_limit : Refusal
over_limit = refusal 1 refl 0 0 0

abbrev pub breaks_rules : Refusal
breaks_rules = refusal 2 refl 0 0 0

abbrev pub too_deep : Refusal
too_deep = refusal 3 refl 0 0 0

abbrev pub equal_names : Refusal
equal_names = refusal 4 refl 0 0 0

-- planning operations
abbrev pub root_outside : Refusal
root_outside = refusal 5 refl 0 0 0

abbrev pub plan_too_large : ℕ → Refusal
plan_too_large needed = refusal 6 refl 0 needed 0

-- sheet
abbrev pub layout_broken : Refusal
layout_broken = refusal 7 refl 0 0 0

-- scope calls
abbrev pub name_outside : Refusal
name_outside = refusal 8 refl 0 0 0

-- assignments, some-in and parameters, by the Rust's names
abbrev pub colon_equals_requires_bindable_left : ℕ → Refusal
colon_equals_requires_bindable_left left = refusal 11 refl left 0 0

abbrev pub array_size_mismatch : ℕ → ℕ → ℕ → Refusal
array_size_mismatch left size other = refusal 12 refl left size other

abbrev pub array_length_mismatch : ℕ → ℕ → ℕ → Refusal
array_length_mismatch value expected actual = refusal 13 refl value expected actual

abbrev pub object_literal_keys_mismatch : ℕ → ℕ → Refusal
object_literal_keys_mismatch value pattern = refusal 14 refl value pattern 0

abbrev pub object_field_count_mismatch : ℕ → ℕ → ℕ → Refusal
object_field_count_mismatch left keys fields = refusal 15 refl left keys fields

abbrev pub object_key_not_found : ℕ → Refusal
object_key_not_found key = refusal 16 refl key 0 0

abbrev pub variable_already_defined : ℕ → Refusal
variable_already_defined node = refusal 17 refl node 0 0

abbrev pub incompatible_destructuring_patterns : ℕ → Refusal
incompatible_destructuring_patterns side = refusal 18 refl side 0 0

-- run and names report
abbrev pub list_too_short : Refusal
list_too_short = refusal 20 refl 0 0 0

abbrev pub pattern_not_simple : Refusal
pattern_not_simple = refusal 21 refl 0 0 0

abbrev pub not_a_value : Refusal
not_a_value = refusal 22 refl 0 0 0

abbrev pub name_without_value : Refusal
name_without_value = refusal 23 refl 0 0 0

-- pages
abbrev pub page_buffer_too_short : Refusal
page_buffer_too_short = refusal 30 refl 0 0 0

-- planning for Rego v1
abbrev pub reserved_name : ℕ → Refusal
reserved_name name = refusal 31 refl name 0 0

-- a run with tolerance: the ends of a range
abbrev pub range_wrong : Refusal
range_wrong = refusal 32 refl 0 0 0

-- adding a name: no place in the lent table, or for a 129th name
abbrev pub no_place : Refusal
no_place = refusal 33 refl 0 0 0

-- the plan store: when it is set up; when a plan is kept or the store emptied
abbrev pub shares_refused : Refusal
shares_refused = refusal 34 refl 0 0 0

abbrev pub store_refused : Refusal
store_refused = refusal 35 refl 0 0 0

-- the common example: larger than what was lent or the limits
abbrev pub value_too_large : Refusal
value_too_large = refusal 36 refl 0 0 0

-- rule bodies
abbrev pub not_a_body : Refusal
not_a_body = refusal 37 refl 0 0 0

abbrev pub name_not_ready : ℕ → Refusal
name_not_ready name = refusal 38 refl name 0 0

-- An answer's four numbers: 0, form, side, entries; or a refusal's number, place, two counts.
pub record Line : Type 0 where
  pub number : ℕ
  pub second : ℕ
  pub third : ℕ
  pub fourth : ℕ

abbrev pub line : ℕ → ℕ → ℕ → ℕ → Line
line a b c d = record { number = a; second = b; third = c; fourth = d }

abbrev pub refusal_line : Refusal → Line
refusal_line r = line r.number r.place r.first r.second

-- The order of tests, for whatever comes after them: a test, its refusal, and the rest.
abbrev pub require_or : {O : Type 0} → (Refusal → O) → Bool → Refusal → O → O
require_or refused test r rest = cond test rest (refused r)

-- what tests alone come to: the refusal of the first that fails, or none
pub data Tested : Type 0 where
  passed : Tested
  refused : Refusal → Tested

abbrev pub require : Bool → Refusal → Tested → Tested
require = require_or refused

-- tests first, then the rest
abbrev pub tested_or : {O : Type 0} → (Refusal → O) → Tested → O → O
tested_or refuse passed rest = rest
tested_or refuse (refused r) rest = refuse r

abbrev pub tested_line : Tested → Line
tested_line passed = line 0 0 0 0
tested_line (refused r) = refusal_line r
