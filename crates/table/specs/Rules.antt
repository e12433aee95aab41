-- Document 01, "Tables" and "Limits", rule by rule. A rule is a Boolean, so that it can be computed.
use Rattle.std.specs.Prelude.{ℕ, zero, suc, ◌+◌, ◌-◌, ◌*◌, ◌%◌, Bool, false, cond, ◌&&◌, ◌||◌, not, List, [], ◌∷◌, ◌++◌, eqb, leb, ltb, length, get_or}
use Rattle.base.specs.Lists.{all_from, no_repeat, part}
use Rattle.literal.specs.Literal.{is_number}
use Rattle.scope.specs.declared.Scope.{Scope}
use Rattle.table.specs.Tables.{Tables, kind_of, start_of, end_of, first_word_of, count_of, node_count, number_count, name_count, is_node, width, child_at, name_start, name_length, name_bytes}
use Rattle.table.specs.Names.{same_bytes, underscore_bytes}
use Rattle.table.specs.Expr.{depth}
use Rattle.table.specs.Decode.{expr}

-- Limits: 512 nodes, 512 child entries, 256 numbers, 128 names, 8,192 string bytes, 16,384 text bytes.
abbrev pub counts_within_limits : ℕ → ℕ → ℕ → ℕ → ℕ → ℕ → Bool
counts_within_limits nodes children numbers names strings text =
    leb nodes 512 && (leb children 512 && (leb numbers 256 && (leb names 128 && (leb strings 8192 && leb text 16384))))

unfoldable pub within_limits : Tables → Bool
within_limits T = counts_within_limits (node_count T) (length T.children) (number_count T) (name_count T) (length T.strings) (length T.text)

-- The node list is whole fives of words, numbers and names are whole pairs.
unfoldable pub whole_records : Tables → Bool
whole_records T = eqb (length T.nodes % 5) 0 && (eqb (length T.numbers % 2) 0 && eqb (length T.names % 2) 0)

-- A range, an empty one too, ends no later than what it points into.
abbrev pub inside : ℕ → ℕ → List ℕ → Bool
inside start size store = leb (start + size) (length store)

-- A start is never above its end, and the bytes are of the rule text.
unfoldable pub span_ok : Tables → ℕ → Bool
span_ok T n = leb (start_of T.nodes n) (end_of T.nodes n) && leb (end_of T.nodes n) (length T.text)

-- A name node's own text equals its name's bytes.
unfoldable pub name_text_ok : Tables → ℕ → Bool
name_text_ok T n =
    same_bytes (part T.text (start_of T.nodes n) (end_of T.nodes n - start_of T.nodes n)) (name_bytes T.names T.text (first_word_of T.nodes n))

-- The kinds, with what first and count are; an unused word is 0.
unfoldable pub words_ok : Tables → ℕ → ℕ → ℕ → ℕ → Bool
words_ok T n kind first count =
    cond (eqb kind 1) (inside first count T.strings)
    (cond (eqb kind 2) (inside first count T.text)
    (cond (eqb kind 3) (ltb first (number_count T) && eqb count 0)
    (cond (eqb kind 4) (leb first 1 && eqb count 0)
    (cond (eqb kind 5) (eqb first 0 && eqb count 0)
    (cond (eqb kind 6) (leb 1 first && (leb first (name_count T) && (eqb count 0 && name_text_ok T n)))
    (cond (eqb kind 7) (inside first count T.children)
    (cond (eqb kind 8) (inside first count T.children)
    (cond (eqb kind 9) (inside first (count * 2) T.children)
    (cond (eqb kind 10) (eqb first 0 && eqb count 0)
    false)))))))))

-- A child's number is below its parent's.
abbrev pub below_at : Tables → ℕ → ℕ → Bool
below_at T n place = ltb (child_at T.children place) n

unfoldable pub children_below : Tables → ℕ → Bool
children_below T n = all_from (below_at T n) (first_word_of T.nodes n) (width T.nodes n)

-- a node, by all rules that speak of it alone
unfoldable pub node_ok : Tables → ℕ → Bool
node_ok T n = span_ok T n && (words_ok T n (kind_of T.nodes n) (first_word_of T.nodes n) (count_of T.nodes n) && children_below T n)

abbrev pub node_ok_at : Tables → ℕ → Bool
node_ok_at T j = node_ok T (j + 1)

-- Every child entry, used or not, is the number of a node.
abbrev pub entry_ok : Tables → ℕ → Bool
entry_ok T place = is_node T (child_at T.children place)

-- No child entry serves two nodes: the places that the nodes use, one node after the other, do not repeat.
unfoldable pub places_from : ℕ → ℕ → List ℕ
places_from at zero = []
places_from at (suc k) = at ∷ places_from (at + 1) k

-- of k nodes from node n on
unfoldable pub used_places : List ℕ → ℕ → ℕ → List ℕ
used_places nodes n zero = []
used_places nodes n (suc k) = places_from (first_word_of nodes n) (width nodes n) ++ used_places nodes (n + 1) k

-- a number is one from -2^63 to 2^64 - 1, and not minus zero
abbrev pub number_ok : Tables → ℕ → Bool
number_ok T place = is_number (get_or T.numbers (place * 2) 0) (get_or T.numbers (place * 2 + 1) 0)

-- a name has 1 to 255 bytes of the text
unfoldable pub name_ok : Tables → ℕ → Bool
name_ok T x = leb 1 (name_length T.names x) && (leb (name_length T.names x) 255 && inside (name_start T.names x) (name_length T.names x) T.text)

abbrev pub name_ok_at : Tables → ℕ → Bool
name_ok_at T j = name_ok T (j + 1)

-- The scope's number of `_` is 0 or that of the name `_`. Its marks can't be above 31: a conversion from bytes refuses those (`convertible` in scope/specs/Bytes).
unfoldable pub scope_ok : Tables → Scope → Bool
scope_ok T s =
    eqb s.underscore 0
    || (leb s.underscore (name_count T) && same_bytes (name_bytes T.names T.text s.underscore) underscore_bytes)

-- All rules of the table. Whichever is broken, the answer is 2.
unfoldable pub follows_rules : Tables → Scope → Bool
follows_rules T s =
    whole_records T
    && (all_from (name_ok_at T) 0 (name_count T)
    && (all_from (number_ok T) 0 (number_count T)
    && (all_from (entry_ok T) 0 (length T.children)
    && (all_from (node_ok_at T) 0 (node_count T)
    && (no_repeat T.children
    && (no_repeat (used_places T.nodes 1 (node_count T))
    && scope_ok T s))))))

-- A depth of at most 32, of every node.
abbrev pub depth_ok_at : Tables → ℕ → Bool
depth_ok_at T j = leb (depth (expr T (j + 1))) 32

unfoldable pub shallow : Tables → Bool
shallow T = all_from (depth_ok_at T) 0 (node_count T)

-- No two names have equal bytes: each differs from all before it.
abbrev pub differ_at : Tables → ℕ → ℕ → Bool
differ_at T y x = not (same_bytes (name_bytes T.names T.text (x + 1)) (name_bytes T.names T.text (y + 1)))

abbrev pub new_name_at : Tables → ℕ → Bool
new_name_at T y = all_from (differ_at T y) 0 y

unfoldable pub names_differ : Tables → Bool
names_differ T = all_from (new_name_at T) 0 (name_count T)
