-- The table check taken apart: its rules one by one, in a fixed order. Each has the check's refusal, its places, and whether it is kept at one.
use Rattle.std.specs.Prelude.{ℕ, ◌+◌, ◌-◌, ◌*◌, ◌%◌, Bool, true, cond, not, ◌&&◌, ◌||◌, List, [], ◌∷◌, eqb, leb, ltb, length, get_or, take}
use Rattle.base.specs.Lists.{all_from, elem}
use Rattle.base.specs.Refusal.{Refusal, over_limit, breaks_rules, too_deep, equal_names}
use Rattle.table.specs.Tables.{Tables, kind_of, first_word_of, count_of, node_count, number_count, name_count, width, child_at}
use Rattle.table.specs.Rules.{inside, span_ok, name_text_ok, children_below, entry_ok, used_places, number_ok, name_ok_at, depth_ok_at, new_name_at}

-- its places are numbered from the first on
pub record Rule : Type 0 where
  pub refusal : Refusal
  pub first : ℕ
  pub places : ℕ
  pub kept : ℕ → Bool

-- of the tables as a whole: the one place is 0
abbrev pub of_all : Refusal → Bool → Rule
of_all refusal kept = record { refusal = refusal; first = 0; places = 1; kept = λ place. kept }

-- of each of so many nodes, child entries, numbers or names, from 1; `kept` counts them from 0, as table/specs/Rules does
abbrev pub of_each : Refusal → ℕ → (ℕ → Bool) → Rule
of_each refusal places kept = record { refusal = refusal; first = 1; places = places; kept = λ place. kept (place - 1) }

abbrev pub limit : ℕ → ℕ → Rule
limit most size = of_all over_limit (leb size most)

-- whole records of so many words
abbrev pub whole : ℕ → List ℕ → Rule
whole size words = of_all breaks_rules (eqb (length words % size) 0)

-- `words_ok` in four: the kind, the words that it does not use, the range, a name's text.
abbrev pub kind_listed : ℕ → Bool
kind_listed kind = leb 1 kind && leb kind 10

-- Numbers, bools and names do not use count; null and any other expression use neither word.
unfoldable pub unused_zero : ℕ → ℕ → ℕ → Bool
unused_zero kind first count =
    cond (eqb kind 3 || (eqb kind 4 || eqb kind 6)) (eqb count 0)
    (cond (eqb kind 5 || eqb kind 10) (eqb first 0 && eqb count 0)
    true)

unfoldable pub range_ok : Tables → ℕ → ℕ → ℕ → Bool
range_ok T kind first count =
    cond (eqb kind 1) (inside first count T.strings)
    (cond (eqb kind 2) (inside first count T.text)
    (cond (eqb kind 3) (ltb first (number_count T))
    (cond (eqb kind 4) (leb first 1)
    (cond (eqb kind 6) (leb 1 first && leb first (name_count T))
    (cond (eqb kind 7) (inside first count T.children)
    (cond (eqb kind 8) (inside first count T.children)
    (cond (eqb kind 9) (inside first (count * 2) T.children)
    true)))))))

abbrev pub node_range_ok : Tables → ℕ → Bool
node_range_ok T n = range_ok T (kind_of T.nodes n) (first_word_of T.nodes n) (count_of T.nodes n)

-- of node j + 1
abbrev pub kind_ok_at : Tables → ℕ → Bool
kind_ok_at T j = kind_listed (kind_of T.nodes (j + 1))

abbrev pub span_ok_at : Tables → ℕ → Bool
span_ok_at T j = span_ok T (j + 1)

abbrev pub unused_ok_at : Tables → ℕ → Bool
unused_ok_at T j = unused_zero (kind_of T.nodes (j + 1)) (first_word_of T.nodes (j + 1)) (count_of T.nodes (j + 1))

abbrev pub range_ok_at : Tables → ℕ → Bool
range_ok_at T j = node_range_ok T (j + 1)

abbrev pub text_ok_at : Tables → ℕ → Bool
text_ok_at T j = cond (eqb (kind_of T.nodes (j + 1)) 6) (name_text_ok T (j + 1)) true

abbrev pub below_ok_at : Tables → ℕ → Bool
below_ok_at T j = children_below T (j + 1)

-- No node stands twice among the children: an entry is none of those before it.
unfoldable pub new_entry_at : List ℕ → ℕ → Bool
new_entry_at children place = not (elem (child_at children place) (take place children))

-- No child entry serves two nodes: none of node j + 1 is used by a node before it.
abbrev pub unused_before : List ℕ → ℕ → ℕ → Bool
unused_before nodes j place = not (elem place (used_places nodes 1 j))

unfoldable pub new_places_at : List ℕ → ℕ → Bool
new_places_at nodes j = all_from (unused_before nodes j) (first_word_of nodes (j + 1)) (width nodes (j + 1))

-- A mark is at most 31; there are 128, and those that are not lent are 0.
abbrev pub mark_ok_at : List ℕ → ℕ → Bool
mark_ok_at marks j = leb (get_or marks j 0) 31

-- All rules, rule 1 first.
unfoldable pub rules : Tables → List ℕ → List Rule
rules T marks =
    -- 1 to 6: the limits
    limit 512 (node_count T)
    ∷ limit 512 (length T.children)
    ∷ limit 256 (number_count T)
    ∷ limit 128 (name_count T)
    ∷ limit 8192 (length T.strings)
    ∷ limit 16384 (length T.text)
    -- 7 to 9: whole records
    ∷ whole 5 T.nodes
    ∷ whole 2 T.numbers
    ∷ whole 2 T.names
    -- 10 to 12: a name's range, a number's words, a child entry
    ∷ of_each breaks_rules (name_count T) (name_ok_at T)
    ∷ of_each breaks_rules (number_count T) (number_ok T)
    ∷ of_each breaks_rules (length T.children) (entry_ok T)
    -- 13 to 18: a node's kind, start and end, unused words, range, name and children
    ∷ of_each breaks_rules (node_count T) (kind_ok_at T)
    ∷ of_each breaks_rules (node_count T) (span_ok_at T)
    ∷ of_each breaks_rules (node_count T) (unused_ok_at T)
    ∷ of_each breaks_rules (node_count T) (range_ok_at T)
    ∷ of_each breaks_rules (node_count T) (text_ok_at T)
    ∷ of_each breaks_rules (node_count T) (below_ok_at T)
    -- 19 and 20: a child that repeats an earlier one, a node whose entries an earlier one uses
    ∷ of_each breaks_rules (length T.children) (new_entry_at T.children)
    ∷ of_each breaks_rules (node_count T) (new_places_at T.nodes)
    -- 21: a mark
    ∷ of_each breaks_rules 128 (mark_ok_at marks)
    -- 22: a node's depth
    ∷ of_each too_deep (node_count T) (depth_ok_at T)
    -- 23: a name that repeats an earlier one
    ∷ of_each equal_names (name_count T) (new_name_at T)
    ∷ []
