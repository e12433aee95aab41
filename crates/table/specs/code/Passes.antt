-- The rules in the check's own parts: lists, nodes, scope. The heads of all nodes come before the children of any, so that no child entry is looked at for two nodes.
use Rattle.std.specs.Prelude.{ℕ, ◌+◌, ◌≤◌, ◌≡◌, Bool, true, ◌&&◌, length}
use Rattle.table.specs.Tables.{Tables, kind_of, first_word_of, count_of, node_count, number_count, name_count}
use Rattle.base.specs.Lists.{all_from, no_repeat}
use Rattle.table.specs.Rules.{used_places, whole_records, name_ok_at, number_ok, entry_ok, node_ok_at, span_ok, words_ok, children_below}

unfoldable pub lists_ok : Tables → Bool
lists_ok T =
    whole_records T
    && (all_from (name_ok_at T) 0 (name_count T) && (all_from (number_ok T) 0 (number_count T) && all_from (entry_ok T) 0 (length T.children)))

unfoldable pub nodes_ok : Tables → Bool
nodes_ok T = all_from (node_ok_at T) 0 (node_count T) && (no_repeat T.children && no_repeat (used_places T.nodes 1 (node_count T)))

-- a node but for its children
unfoldable pub head_ok : Tables → ℕ → Bool
head_ok T n = span_ok T n && words_ok T n (kind_of T.nodes n) (first_word_of T.nodes n) (count_of T.nodes n)

-- the words of node j + 1
abbrev pub words_ok_at : Tables → ℕ → Bool
words_ok_at T j = words_ok T (j + 1) (kind_of T.nodes (j + 1)) (first_word_of T.nodes (j + 1)) (count_of T.nodes (j + 1))

abbrev pub head_ok_at : Tables → ℕ → Bool
head_ok_at T j = head_ok T (j + 1)

abbrev pub children_below_at : Tables → ℕ → Bool
children_below_at T j = children_below T (j + 1)

-- `nodes_ok`: within the limits, and the child entries are numbers of nodes
pub record NodesAsks (T : Tables) : Type 0 where
  pub few : node_count T ≤ 512
  pub short : length T.children ≤ 512
  pub entries : all_from (entry_ok T) 0 (length T.children) ≡ true
