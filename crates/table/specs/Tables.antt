-- The lent tables, and how their words are read. Nodes, names and numbers are counted from their lists; nodes and names are numbered from 1, places from 0.
use Rattle.std.specs.Prelude.{ℕ, ◌+◌, ◌-◌, ◌*◌, ◌/◌, Bool, cond, ◌&&◌, List, eqb, leb, length, get_or}
use Rattle.base.specs.Lists.{part}

pub record Tables : Type 0 where
  -- five words each: kind, start, end, first, count
  pub nodes : List ℕ
  pub children : List ℕ
  -- two words each: 1 for below zero or 0, then the size
  pub numbers : List ℕ
  -- two words each: start and length in the text
  pub names : List ℕ
  pub strings : List ℕ
  pub text : List ℕ

abbrev pub tables : List ℕ → List ℕ → List ℕ → List ℕ → List ℕ → List ℕ → Tables
tables nodes children numbers names strings text =
    record { nodes = nodes; children = children; numbers = numbers; names = names; strings = strings; text = text }

-- word k of record n, of `size` words each, or 0 where there is none
unfoldable pub record_word : ℕ → ℕ → List ℕ → ℕ → ℕ
record_word size k words n = cond (eqb n 0) 0 (get_or words ((n - 1) * size + k) 0)

abbrev pub kind_of : List ℕ → ℕ → ℕ
kind_of = record_word 5 0

abbrev pub start_of : List ℕ → ℕ → ℕ
start_of = record_word 5 1

abbrev pub end_of : List ℕ → ℕ → ℕ
end_of = record_word 5 2

abbrev pub first_word_of : List ℕ → ℕ → ℕ
first_word_of = record_word 5 3

abbrev pub count_of : List ℕ → ℕ → ℕ
count_of = record_word 5 4

abbrev pub node_count : Tables → ℕ
node_count T = length T.nodes / 5

abbrev pub number_count : Tables → ℕ
number_count T = length T.numbers / 2

abbrev pub name_count : Tables → ℕ
name_count T = length T.names / 2

-- a node's number: 1 to the count of nodes
abbrev pub is_node : Tables → ℕ → Bool
is_node T n = leb 1 n && leb n (node_count T)

-- The child entries of a node: an array's or a set's items, or the keys and values of an object's fields.
unfoldable pub width_of : ℕ → ℕ → ℕ
width_of kind count = cond (eqb kind 9) (count * 2) (cond (eqb kind 7) count (cond (eqb kind 8) count 0))

abbrev pub width : List ℕ → ℕ → ℕ
width nodes n = width_of (kind_of nodes n) (count_of nodes n)

abbrev pub child_at : List ℕ → ℕ → ℕ
child_at children place = get_or children place 0

-- name x: its range of the text, and its bytes
abbrev pub name_start : List ℕ → ℕ → ℕ
name_start = record_word 2 0

abbrev pub name_length : List ℕ → ℕ → ℕ
name_length = record_word 2 1

unfoldable pub name_bytes : List ℕ → List ℕ → ℕ → List ℕ
name_bytes names text x = part text (name_start names x) (name_length names x)
