-- What a table that passed the check gives, for the crates above.
use Rattle.std.specs.Prelude.{ℕ, ◌+◌, ◌-◌, ◌%◌, ◌≤◌, ◌<◌, ◌≡◌, true, length}
use Rattle.std.proofs.Math.Option.{none, some}
use Rattle.literal.specs.Literal.{Literal}
use Rattle.base.specs.Lists.{part, elem, no_repeat}
use Rattle.table.specs.Tables.{Tables, kind_of, start_of, end_of, first_word_of, node_count, number_count, name_count, width, child_at, name_start, name_length, name_bytes}
use Rattle.table.specs.Expr.{depth, parts}
use Rattle.table.specs.Decode.{expr, literal_at}
use Rattle.table.specs.Rules.{used_places}

-- n is a node's number
pub record Node (T : Tables) (n : ℕ) : Type 0 where
  pub low : 1 ≤ n
  pub high : n ≤ node_count T

-- x is a name's number
pub record Named (T : Tables) (x : ℕ) : Type 0 where
  pub low : 1 ≤ x
  pub high : x ≤ name_count T

pub record Limits (T : Tables) : Type 0 where
  pub nodes : node_count T ≤ 512
  pub children : length T.children ≤ 512
  pub numbers : number_count T ≤ 256
  pub names : name_count T ≤ 128
  pub strings : length T.strings ≤ 8192
  pub text : length T.text ≤ 16384

-- the rules as facts
pub record WellFormed (T : Tables) : Type 0 where
  pub limits : Limits T
  pub whole : length T.nodes % 5 ≡ 0
  pub span : (n : ℕ) → Node T n → (start_of T.nodes n ≤ end_of T.nodes n) × (end_of T.nodes n ≤ length T.text)
  pub kinds : (n : ℕ) → Node T n → (1 ≤ kind_of T.nodes n) × (kind_of T.nodes n ≤ 10)
  -- kinds 1 to 5 are literals
  pub literals : (n : ℕ) → Node T n → kind_of T.nodes n ≤ 5 → (l : Literal) × (literal_at T n ≡ some l)
  pub others : (n : ℕ) → Node T n → kind_of T.nodes n ≡ 10 → literal_at T n ≡ none
  pub named : (n : ℕ) → Node T n → kind_of T.nodes n ≡ 6 → Named T (first_word_of T.nodes n)
  -- a name node's own text is its name's
  pub name_text_lem : (n : ℕ) → Node T n → kind_of T.nodes n ≡ 6
      → part T.text (start_of T.nodes n) (end_of T.nodes n - start_of T.nodes n) ≡ name_bytes T.names T.text (first_word_of T.nodes n)
  -- arrays, sets and objects: their child entries stand in the list, even where there are none
  pub listed : (n : ℕ) → Node T n → 7 ≤ kind_of T.nodes n → kind_of T.nodes n ≤ 9 → first_word_of T.nodes n + width T.nodes n ≤ length T.children
  -- a child is a node of a lower number
  pub below : (n : ℕ) → Node T n → (i : ℕ) → i < width T.nodes n
      → (1 ≤ child_at T.children (first_word_of T.nodes n + i)) × (child_at T.children (first_word_of T.nodes n + i) < n)
  pub entries : (place : ℕ) → place < length T.children → Node T (child_at T.children place)
  -- no node stands twice in the child list, no child entry serves two nodes
  pub once : no_repeat T.children ≡ true
  pub apart : no_repeat (used_places T.nodes 1 (node_count T)) ≡ true
  pub name_span_lem : (x : ℕ) → Named T x
      → (1 ≤ name_length T.names x) × (name_length T.names x ≤ 255) × (name_start T.names x + name_length T.names x ≤ length T.text)

-- the check passed
pub record SoundTable (T : Tables) : Type 0 where
  pub well_formed_lem : WellFormed T
  pub shallow : (n : ℕ) → Node T n → depth (expr T n) ≤ 32
  -- names' bytes tell names apart
  pub differ : (x y : ℕ) → Named T x → Named T y → name_bytes T.names T.text x ≡ name_bytes T.names T.text y → x ≡ y

-- the nodes at and below node n are all different, and none is above n: so a tree has at most as many parts as its node's number
pub record Forest (T : Tables) (n : ℕ) : Type 0 where
  pub different : no_repeat (parts (expr T n)) ≡ true
  pub within : (m : ℕ) → elem m (parts (expr T n)) ≡ true → (1 ≤ m) × (m ≤ n)
  pub few : length (parts (expr T n)) ≤ n
