-- The words of a class's value, from the arrays of heads, links, classes and sizes.
use Rattle.std.specs.Prelude.{ℕ, zero, suc, ◌+◌, ◌-◌, ◌*◌, ◌/◌, ◌≤◌, ◌<◌, cond, List, [], ◌∷◌, ◌++◌, ◌≡◌, eqb, leb, length, get_or}
use Rattle.std.proofs.lemmas.List.Edits.{sets}
use Rattle.base.specs.Lent.{MutSlices, old, new}
use Rattle.literal.specs.Literal.{Literal, null}
use Rattle.table.specs.Tables.{Tables, kind_of, first_word_of, count_of}
use Rattle.common_example.specs.Operations.{literal_words}
use Rattle.common_example.specs.declared.graph.Parts.{Parts}
use Rattle.common_example.specs.declared.writing.Source.{Source}
use Rattle.common_example.specs.code.Graph.{kind_at, start_at, count_at, Linked, shape_kind, step_by, link_by, step_of}
use Rattle.common_example.specs.code.Classes.{class_in, ClassesOk}
use Rattle.common_example.specs.code.Sizes.{SizesOk}

-- a node's five words; start and end are 0
abbrev pub node_entry : ℕ → ℕ → ℕ → List ℕ
node_entry kind first count = kind ∷ (0 ∷ (0 ∷ (first ∷ (count ∷ []))))

-- the literal of a node; null for 0
unfoldable pub literal_entry : List ℕ → ℕ → List ℕ
literal_entry nodes id = cond (eqb id 0) (node_entry 5 0 0) (node_entry (kind_of nodes id) (first_word_of nodes id) (count_of nodes id))

-- a field has a key's node before its value's
abbrev pub key_count : ℕ → ℕ
key_count step = cond (eqb step 8) 1 0

unfoldable pub key_words : List ℕ → List ℕ → ℕ → ℕ → List ℕ
key_words nodes links step link = cond (eqb step 8) (literal_entry nodes (get_or links (link - 2) 0)) []

unfoldable pub key_number : ℕ → ℕ → List ℕ
key_number step before = cond (eqb step 8) ((before + 1) ∷ []) []

abbrev pub leaf_node : List ℕ → ℕ → ℕ
leaf_node heads q = cond (eqb (kind_at heads q) 1) (start_at heads q) 0

abbrev pub parent_kind : ℕ → ℕ
parent_kind kind = cond (eqb kind 2) 7 9

-- of k parts from a link on: their nodes with keys, and their own child entries
module _ (links sizes : List ℕ) (step : ℕ) where
  abbrev pub size_from : ℕ → ℕ
  size_from link = get_or sizes (get_or links link 0) 0

  unfoldable pub part_sizes : ℕ → ℕ → ℕ
  part_sizes link zero = 0
  part_sizes link (suc k) = key_count step + size_from link + part_sizes (link + step) k

  unfoldable pub part_entries : ℕ → ℕ → ℕ
  part_entries link zero = 0
  part_entries link (suc k) = (size_from link - 1) + part_entries (link + step) k

  -- the parts' own node numbers, after `before` nodes
  unfoldable pub part_numbers : ℕ → ℕ → ℕ → List ℕ
  part_numbers link zero before = []
  part_numbers link (suc k) before = key_number step before ++ ((before + key_count step + size_from link) ∷ part_numbers (link + step) k (before + key_count step + size_from link))

  module _ (nodes : List ℕ) (each : ℕ → ℕ → List ℕ) where
    unfoldable pub part_nodes : ℕ → ℕ → ℕ → List ℕ
    part_nodes link zero entry = []
    part_nodes link (suc k) entry = key_words nodes links step link ++ (each (get_or links link 0) entry ++ part_nodes (link + step) k (entry + (size_from link - 1)))

  module _ (each : ℕ → ℕ → List ℕ) where
    unfoldable pub part_children : ℕ → ℕ → ℕ → List ℕ
    part_children link zero before = []
    part_children link (suc k) before = each (get_or links link 0) (before + key_count step) ++ part_children (link + step) k (before + key_count step + size_from link)

module _ (nodes heads links sizes : List ℕ) (each : ℕ → ℕ → List ℕ) where
  abbrev pub parent_nodes : ℕ → ℕ → ℕ → ℕ → List ℕ
  parent_nodes kind link count entry =
      part_nodes links sizes (step_by kind) nodes each link count entry ++ node_entry (parent_kind kind) (entry + part_entries links sizes (step_by kind) link count) count

  abbrev pub head_nodes : ℕ → ℕ → List ℕ
  head_nodes q entry =
      cond (leb (kind_at heads q) 1) (literal_entry nodes (leaf_node heads q)) (parent_nodes (kind_at heads q) (link_by (kind_at heads q) (start_at heads q)) (count_at heads q) entry)

module _ (heads links sizes : List ℕ) (each : ℕ → ℕ → List ℕ) where
  abbrev pub parent_children : ℕ → ℕ → ℕ → ℕ → List ℕ
  parent_children kind link count before = part_children links sizes (step_by kind) each link count before ++ part_numbers links sizes (step_by kind) link count before

  abbrev pub head_children : ℕ → ℕ → List ℕ
  head_children q before = cond (leb (kind_at heads q) 1) [] (parent_children (kind_at heads q) (link_by (kind_at heads q) (start_at heads q)) (count_at heads q) before)

-- of at most so many levels
unfoldable pub place_nodes : List ℕ → List ℕ → List ℕ → List ℕ → List ℕ → ℕ → ℕ → ℕ → List ℕ
place_nodes nodes heads links classes sizes zero p entry = []
place_nodes nodes heads links classes sizes (suc r) p entry = head_nodes nodes heads links sizes (place_nodes nodes heads links classes sizes r) (class_in classes p) entry

unfoldable pub place_children : List ℕ → List ℕ → List ℕ → List ℕ → ℕ → ℕ → ℕ → List ℕ
place_children heads links classes sizes zero p before = []
place_children heads links classes sizes (suc r) p before = head_children heads links sizes (place_children heads links classes sizes r) (class_in classes p) before

-- The sizes are right, of a place and all its parts.
pub record PartsFit (F : ℕ → Type 0) (links : List ℕ) (step link k : ℕ) : Type 0 where
  pub inside : link + k * step < 2048 + step
  pub low : 4 ≤ step
  pub high : step ≤ 8
  pub keys : step ≡ 8 → 4 ≤ link
  pub each : (i : ℕ) → i < k → F (get_or links (link + i * step) 0)

pub record HeadFit (F : ℕ → Type 0) (heads links sizes : List ℕ) (size q : ℕ) : Type 0 where
  pub leaf : kind_at heads q ≤ 1 → size ≡ 1
  pub parent : 1 < kind_at heads q
      → size ≡ 1 + part_sizes links sizes (step_by (kind_at heads q)) (link_by (kind_at heads q) (start_at heads q)) (count_at heads q)
  pub parts : 1 < kind_at heads q → PartsFit F links (step_by (kind_at heads q)) (link_by (kind_at heads q) (start_at heads q)) (count_at heads q)

unfoldable pub Fit : List ℕ → List ℕ → List ℕ → List ℕ → ℕ → ℕ → Type 0
Fit heads links classes sizes zero p = ⊥
Fit heads links classes sizes (suc r) p = HeadFit (Fit heads links classes sizes r) heads links sizes (get_or sizes p 0) (class_in classes p)

-- Space for `size` nodes from node `at` on, and one child entry less from `entry` on; so many stand before them in the tables.
pub record Space (size at entry before entries : ℕ) (out kids : List ℕ) : Type 0 where
  pub nodes : at + size ≤ 512
  pub children : entry + size ≤ 513
  pub before_nodes : before ≤ 512
  pub before_entries : entries ≤ 512
  pub out_nodes : at + size ≤ length out / 5
  pub out_children : entry + size ≤ length kids + 1

pub record Arrays (heads links classes sizes : List ℕ) : Type 0 where
  pub linked : Linked heads links
  pub ok : ClassesOk classes
  pub sizes_ok : SizesOk sizes

pub record LiteralAsks (at : ℕ) (out : List ℕ) : Type 0 where
  pub room : at < length out / 5
  pub few : at < 512

pub record KeyAsks (step link at : ℕ) (out : List ℕ) : Type 0 where
  pub low : step ≡ 8 → 4 ≤ link
  pub inside : link < 2048
  pub room : at < length out / 5
  pub few : at < 512

pub record KeyWritten (nodes links : List ℕ) (step link at : ℕ) (before after : List ℕ) (r : ℕ) : Type 0 where
  pub words : after ≡ sets before (at * 5) (key_words nodes links step link)
  pub next : r ≡ at + key_count step

pub record KeyNumberAsks (step before entry : ℕ) (children : List ℕ) : Type 0 where
  pub few : before ≤ 1024
  pub low : entry ≤ 1024
  pub room : entry < length children

pub record KeyNumbered (step before entry : ℕ) (children children' : List ℕ) (r : ℕ) : Type 0 where
  pub words : children' ≡ sets children entry (key_number step before)
  pub next : r ≡ entry + key_count step

pub record NumberAsks (links sizes : List ℕ) (step link k before entry : ℕ) (children : List ℕ) : Type 0 where
  pub places : (i : ℕ) → get_or links i 0 < 2052
  pub inside : link + k * step < 2048 + step
  pub high : step ≤ 8
  pub few : before + part_sizes links sizes step link k ≤ 1024
  pub room : entry + k * (1 + key_count step) ≤ length children
  pub low : entry + k * (1 + key_count step) ≤ 1024

pub record ParentAsks (links sizes : List ℕ) (kind link k before entries first node end : ℕ) (out kids : List ℕ) : Type 0 where
  pub places : (i : ℕ) → get_or links i 0 < 2052
  pub inside : link + k * step_by kind < 2048 + step_by kind
  pub counted : node ≡ first + part_sizes links sizes (step_by kind) link k
  pub few : node < 512
  pub before_nodes : before ≤ 512
  pub before_entries : entries ≤ 512
  pub last : end + k * (1 + key_count (step_by kind)) ≤ 512
  pub out_nodes : node < length out / 5
  pub out_children : end + k * (1 + key_count (step_by kind)) ≤ length kids

pub record ParentWritten (links sizes : List ℕ) (kind link k before entries first node end : ℕ) (out kids out' kids' : List ℕ) : Type 0 where
  pub node_is : out' ≡ sets out (node * 5) (node_entry (parent_kind kind) (entries + end) k)
  pub children_are : kids' ≡ sets kids end (part_numbers links sizes (step_by kind) link k (before + first))

pub record PlaceAsks (heads links classes sizes : List ℕ) (p r before entries at entry : ℕ) (out children : List ℕ) : Type 0 where
  pub arrays : Arrays heads links classes sizes
  pub inside : p < 2052
  pub fit : Fit heads links classes sizes r p
  pub space : Space (get_or sizes p 0) at entry before entries out children

pub record PlaceWritten (nodes heads links classes sizes : List ℕ) (p r before entries at entry : ℕ) (out children out' children' : List ℕ) : Type 0 where
  pub nodes_are : out' ≡ sets out (at * 5) (place_nodes nodes heads links classes sizes r p (entries + entry))
  pub children_are : children' ≡ sets children entry (place_children heads links classes sizes r p (before + at))

pub record PartsAsks (heads links classes sizes : List ℕ) (step link k r before entries at entry : ℕ) (out children : List ℕ) : Type 0 where
  pub arrays : Arrays heads links classes sizes
  pub fit : PartsFit (Fit heads links classes sizes r) links step link k
  pub space : Space (1 + part_sizes links sizes step link k) at entry before entries out children

pub record PartsWritten (nodes heads links classes sizes : List ℕ) (step link k r before entries at entry : ℕ) (out children out' children' : List ℕ) (end : ℕ) : Type 0 where
  pub nodes_are : out' ≡ sets out (at * 5) (part_nodes links sizes step nodes (place_nodes nodes heads links classes sizes r) link k (entries + entry))
  pub children_are : children' ≡ sets children entry (part_children links sizes step (place_children heads links classes sizes r) link k (before + at))
  pub ends : end ≡ entry + part_entries links sizes step link k

-- the same of what a function is lent, at entry and at exit
abbrev pub numbers_of : Source → Parts → ℕ → List ℕ
numbers_of s parts before = part_numbers s.joined.now.graph.links s.sizes.now (step_of parts.shape) parts.link parts.count before

abbrev pub NumberAsksIn : Source → Parts → ℕ → ℕ → List ℕ → Type 0
NumberAsksIn s parts before entry children = NumberAsks s.joined.now.graph.links s.sizes.now (step_of parts.shape) parts.link parts.count before entry children

abbrev pub ParentAsksIn : Source → Parts → ℕ → ℕ → ℕ → List ℕ → List ℕ → Type 0
ParentAsksIn s parts first node end out kids =
    ParentAsks s.joined.now.graph.links s.sizes.now (shape_kind parts.shape) parts.link parts.count s.before s.entries first node end out kids

abbrev pub ParentWrittenIn : Source → Parts → ℕ → ℕ → ℕ → MutSlices → MutSlices → Type 0
ParentWrittenIn s parts first node end out kids =
    ParentWritten s.joined.now.graph.links s.sizes.now (shape_kind parts.shape) parts.link parts.count s.before s.entries first node end (old out) (old kids) (new out) (new kids)

abbrev pub PlaceAsksIn : Source → ℕ → ℕ → ℕ → ℕ → List ℕ → List ℕ → Type 0
PlaceAsksIn s p r at entry out kids =
    PlaceAsks s.joined.now.graph.heads s.joined.now.graph.links s.joined.now.classes s.sizes.now p r s.before s.entries at entry out kids

abbrev pub PlaceWrittenIn : Source → ℕ → ℕ → ℕ → ℕ → MutSlices → MutSlices → Type 0
PlaceWrittenIn s p r at entry out kids =
    PlaceWritten s.nodes.now s.joined.now.graph.heads s.joined.now.graph.links s.joined.now.classes s.sizes.now p r s.before s.entries at entry (old out) (old kids) (new out) (new kids)

abbrev pub PartsAsksIn : Source → Parts → ℕ → ℕ → ℕ → List ℕ → List ℕ → Type 0
PartsAsksIn s parts r at entry out kids =
    PartsAsks s.joined.now.graph.heads s.joined.now.graph.links s.joined.now.classes s.sizes.now (step_of parts.shape) parts.link parts.count r s.before s.entries at entry out kids

abbrev pub PartsWrittenIn : Source → Parts → ℕ → ℕ → ℕ → MutSlices → MutSlices → ℕ → Type 0
PartsWrittenIn s parts r at entry out kids end =
    PartsWritten s.nodes.now s.joined.now.graph.heads s.joined.now.graph.links s.joined.now.classes s.sizes.now (step_of parts.shape) parts.link parts.count r s.before s.entries at entry
    (old out) (old kids) (new out) (new kids) end

-- the nodes that stand for literals are those that are copied, and null's words are always the same
pub record Copied (T : Tables) (literal_of : ℕ → Literal) (heads links : List ℕ) : Type 0 where
  pub free : literal_entry T.nodes 0 ≡ literal_words T null
  pub leaves : (p : ℕ) → kind_at heads p ≡ 1 → literal_entry T.nodes (start_at heads p) ≡ literal_words T (literal_of (start_at heads p))
  pub keys : (p i : ℕ) → kind_at heads p ≡ 3 → i < count_at heads p
      → literal_entry T.nodes (get_or links (start_at heads p + i * 8 + 2) 0) ≡ literal_words T (literal_of (get_or links (start_at heads p + i * 8 + 2) 0))
