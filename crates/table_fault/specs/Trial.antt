-- Faults worked out.
use Rattle.std.specs.Prelude.{ℕ, zero, suc, ◌+◌, ◌≡◌, List, [], ◌∷◌, ◌++◌, replicate, set}
use Rattle.base.specs.Lists.{tabulate}
use Rattle.base.specs.Refusal.{Line, line}
use Rattle.table.specs.Tables.{tables}
use Rattle.table_fault.specs.Fault.{fault_of, fault_line}

-- {"a": [w, w]}, w and u: nodes 1 and 2 are w, 3 the array, 4 the key, 5 the object, 6 the number -1
abbrev pub nodes : List ℕ
nodes =
    (6 ∷ 7 ∷ 8 ∷ 1 ∷ 0 ∷ []) ++ (6 ∷ 10 ∷ 11 ∷ 1 ∷ 0 ∷ []) ++ (7 ∷ 6 ∷ 12 ∷ 0 ∷ 2 ∷ []) ++ (1 ∷ 1 ∷ 4 ∷ 0 ∷ 1 ∷ [])
    ++ (9 ∷ 0 ∷ 13 ∷ 2 ∷ 1 ∷ []) ++ (3 ∷ 0 ∷ 0 ∷ 0 ∷ 0 ∷ [])

abbrev pub children : List ℕ
children = 1 ∷ 2 ∷ 4 ∷ 3 ∷ []

abbrev pub numbers : List ℕ
numbers = 1 ∷ 1 ∷ []

-- w and u
abbrev pub names : List ℕ
names = 7 ∷ 1 ∷ 14 ∷ 1 ∷ []

-- a; {"a": [w, w]} u
abbrev pub strings : List ℕ
strings = 97 ∷ []

abbrev pub text : List ℕ
text = 123 ∷ 34 ∷ 97 ∷ 34 ∷ 58 ∷ 32 ∷ 91 ∷ 119 ∷ 44 ∷ 32 ∷ 119 ∷ 93 ∷ 125 ∷ 32 ∷ 117 ∷ []

-- no marks
abbrev pub unmarked : List ℕ
unmarked = []

abbrev pub fault : List ℕ → List ℕ → List ℕ → List ℕ → List ℕ → List ℕ → List ℕ → Line
fault nodes children numbers names strings text marks = fault_line (fault_of (tables nodes children numbers names strings text) marks)

-- null in so many arrays: node 1 is null, each further node the array of the one before
unfoldable pub nested : ℕ → ℕ → List ℕ
nested at zero = []
nested at (suc k) = 7 ∷ 0 ∷ 0 ∷ at ∷ 1 ∷ nested (at + 1) k

abbrev pub in_arrays : ℕ → Line
in_arrays k = fault (5 ∷ 0 ∷ 0 ∷ 0 ∷ 0 ∷ nested 0 k) (tabulate (λ i. i + 1) 0 k) [] names [] text unmarked

-- with one word of a list replaced
abbrev pub with_node : ℕ → ℕ → Line
with_node i word = fault (set nodes i word) children numbers names strings text unmarked

abbrev pub with_child : ℕ → ℕ → Line
with_child i word = fault nodes (set children i word) numbers names strings text unmarked

abbrev pub with_name : ℕ → ℕ → Line
with_name i word = fault nodes children numbers (set names i word) strings text unmarked

pub record Trial : Type 0 where
  pub sound : fault nodes children numbers names strings text unmarked ≡ line 0 0 0 0
  -- limits come before all else
  pub many_entries : fault (1 ∷ []) (replicate 513 0) numbers names strings text unmarked ≡ line 1 2 0 0
  pub many_names : fault nodes children numbers (replicate 258 0) strings text unmarked ≡ line 1 4 0 0
  -- records that are not whole
  pub half_node : fault (nodes ++ (6 ∷ [])) children numbers names strings text unmarked ≡ line 2 7 0 0
  pub half_number : fault nodes children (1 ∷ []) names strings text unmarked ≡ line 2 8 0 0
  pub half_name : fault nodes children numbers (7 ∷ []) strings text unmarked ≡ line 2 9 0 0
  -- a name of no byte; one past the text
  pub no_name_lem : with_name 1 0 ≡ line 2 10 1 0
  pub past_text : with_name 3 2 ≡ line 2 10 2 0
  -- minus zero
  pub minus_zero_lem : fault nodes children (1 ∷ 0 ∷ []) names strings text unmarked ≡ line 2 11 1 0
  -- nodes numbered from 0; past the last
  pub no_node : with_child 0 0 ≡ line 2 12 1 0
  pub past_nodes : with_child 3 7 ≡ line 2 12 4 0
  -- a kind of 11; an end before its start; an unused word
  pub no_kind_lem : with_node 15 11 ≡ line 2 13 4 0
  pub turned : with_node 12 5 ≡ line 2 14 3 0
  pub unused : with_node 29 1 ≡ line 2 15 6 0
  -- a string past the string store; a number past the numbers; names numbered from 0
  pub past_strings : with_node 19 2 ≡ line 2 16 4 0
  pub past_numbers : with_node 28 1 ≡ line 2 16 6 0
  pub name_zero : with_node 3 0 ≡ line 2 16 1 0
  -- the second w's text is the comma before it; it is u
  pub other_text : with_node 6 9 ≡ line 2 17 2 0
  pub other_name : with_node 8 2 ≡ line 2 17 2 0
  -- the array's second child is the array itself
  pub own_child : with_child 1 3 ≡ line 2 18 3 0
  -- one w for both
  pub twice : with_child 1 1 ≡ line 2 19 2 0
  -- the object's field is the array's
  pub shared : with_node 23 0 ≡ line 2 20 5 0
  -- a mark of 32, of a name that is there or not
  pub marked : fault nodes children numbers names strings text (0 ∷ 32 ∷ 33 ∷ []) ≡ line 2 21 2 0
  pub marked_more : fault nodes children numbers names strings text (replicate 127 31 ++ (32 ∷ [])) ≡ line 2 21 128 0
  -- past the 128th is no mark
  pub marked_past : fault nodes children numbers names strings text (replicate 128 31 ++ (32 ∷ [])) ≡ line 0 0 0 0
  -- the 33rd level is too deep
  pub level32 : in_arrays 31 ≡ line 0 0 0 0
  pub level33 : in_arrays 33 ≡ line 3 22 33 0
  -- u is w too; a mark comes before it
  pub equal : with_name 2 10 ≡ line 4 23 2 0
  pub mark_first : fault nodes children numbers (7 ∷ 1 ∷ 10 ∷ 1 ∷ []) strings text (32 ∷ []) ≡ line 2 21 1 0
  -- two rules broken: the first of the list, at its first place
  pub first_rule : fault (set (set nodes 15 11) 2 0) (set children 3 7) numbers names strings text unmarked ≡ line 2 12 4 0
  pub first_place_lem : fault (set (set nodes 15 11) 5 0) children numbers names strings text unmarked ≡ line 2 13 2 0
