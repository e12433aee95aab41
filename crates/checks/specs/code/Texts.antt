-- The texts of key nodes: sorted in arrays, and held against each other.
use Rattle.std.specs.Prelude.{ℕ, zero, suc, ◌+◌, ◌≤◌, ◌≡◌, Bool, true, false, ◌&&◌, List, [], map, eqb, length, get_or, take, drop}
use Rattle.std.proofs.Math.Option.{Option, some}
use Rattle.base.specs.Lent.{Slice}
use Rattle.base.specs.code.Search.{Between}
use Rattle.literal.specs.Literal.{Literal}
use Rattle.literal.specs.Reading.{literal_of}
use Rattle.literal.specs.declared.LiteralRef.{LiteralRef}
use Rattle.literal.specs.declared.Comparison.{Comparison}
use Rattle.literal.specs.declared.Comparison.TheVariants.{Less, Equal, Greater, NoLiteral}
use Rattle.literal.specs.Text.{key_text, texts_compared}
use Rattle.table.specs.Tables.{Tables, kind_of}
use Rattle.table.specs.Decode.{literal_node}
use Rattle.planner.specs.code.Passes.{field_key}
use Rattle.planner.specs.code.Post.{OrderAsks, OrderedBy}
use Rattle.checks.specs.declared.texts.ComparedKeys.{ComparedKeys}
use Rattle.checks.specs.Structure.{text_or, insert_text, sort_texts, same_texts}

abbrev pub is_greater : Comparison → Bool
is_greater Less = false
is_greater Equal = false
is_greater Greater = true
is_greater NoLiteral = false

abbrev pub is_equal : Comparison → Bool
is_equal Less = false
is_equal Equal = true
is_equal Greater = false
is_equal NoLiteral = false

-- the literals of a table's nodes
abbrev pub literals_of : Tables → ℕ → Option Literal
literals_of T = literal_node T.nodes T.numbers T.strings T.text

-- the first `size` of an array are literals' nodes, whose key texts are ts
pub record KeysOf (lit : ℕ → Option Literal) (keys : List ℕ) (size : ℕ) (ts : List (List ℕ)) : Type 0 where
  pub own : List Literal
  pub sized : size ≡ length own
  pub listed : map lit (take size keys) ≡ map some own
  pub texts : map key_text own ≡ ts

-- a literal's text with that of the key node at place q
abbrev pub text_at : (ℕ → Option Literal) → Option Literal → List ℕ → ℕ → Comparison
text_at lit key keys q = texts_compared key (lit (get_or keys q 0))

-- a literal, whose place among texts in order is looked for
pub record TextAsks (lit : ℕ → Option Literal) (keys : List ℕ) (size : ℕ) (key : Option Literal) : Type 0 where
  pub texts : List (List ℕ)
  pub sorted : KeysOf lit keys size (sort_texts texts)
  pub few : size ≤ 256
  pub own : Literal
  pub literal : key ≡ some own

-- the same of what a function is lent
abbrev pub TextAsksIn : Slice → Slice → Slice → Slice → Slice → ℕ → LiteralRef → Type 0
TextAsksIn nodes numbers strings text keys size key =
    TextAsks (literal_node nodes.now numbers.now strings.now text.now) keys.now size (literal_of numbers.now strings.now text.now key)

-- the first place, from low to high, whose text does not come before the key's
abbrev pub TextBetween : (ℕ → Option Literal) → List ℕ → Option Literal → ℕ → ℕ → ℕ → Type 0
TextBetween lit keys key = Between (λ (q : ℕ). is_greater (text_at lit key keys q) ≡ true) (λ (q : ℕ). is_greater (text_at lit key keys q) ≡ false)

pub record TextPlace (lit : ℕ → Option Literal) (keys : List ℕ) (size : ℕ) (key : Option Literal) (found : ℕ) : Type 0 where
  pub place : TextBetween lit keys key size found found

-- one key node more
pub record AddKeyAsks (nodes : List ℕ) (lit : ℕ → Option Literal) (key : ℕ) (keys : List ℕ) (size : ℕ) : Type 0 where
  pub texts : List (List ℕ)
  pub sorted : KeysOf lit keys size (sort_texts texts)
  pub few : size ≤ 255
  pub sound : kind_of nodes key ≤ 5 → (l : Literal) × (lit key ≡ some l)

abbrev pub insert_or : Option Literal → List (List ℕ) → List (List ℕ)
insert_or Option.none ts = ts
insert_or (Option.some l) ts = insert_text (key_text l) ts

-- it stands among the first r, and behind them is what was there before
pub record KeyAdded (lit : ℕ → Option Literal) (key : ℕ) (keys : List ℕ) (size : ℕ) (later : List ℕ) (r : ℕ) : Type 0 where
  pub added : (ts : List (List ℕ)) → KeysOf lit keys size ts → KeysOf lit later r (insert_or (lit key) ts)
  pub more : size ≤ r
  pub few : r ≤ size + 1
  pub behind : drop r later ≡ drop r keys

-- the texts of k literal keys from number i on
unfoldable pub texts_from : (ℕ → Option Literal) → ℕ → ℕ → List (List ℕ)
texts_from key i zero = []
texts_from key i (suc k) = text_or (key i) (texts_from key (i + 1) k)

-- n keys, sorted by their texts, and behind them what was there before
pub record SortedKeys (T : Tables) (key : ℕ → Option Literal) (n : ℕ) (before keys : List ℕ) (r : ℕ) : Type 0 where
  pub sorted : KeysOf (literals_of T) keys r (sort_texts (texts_from key 0 n))
  pub few : r ≤ n
  pub behind : drop r keys ≡ drop r before

-- the key of the field at place q of an order
unfoldable pub ordered_key : Tables → ℕ → List ℕ → ℕ → Option Literal
ordered_key T first order q = field_key T first (get_or order q 0)

pub record OrderedAsks (T : Tables) (first : ℕ) (order : List ℕ) (total : ℕ) : Type 0 where
  pub count : ℕ
  pub asks : OrderAsks T first count
  pub by : OrderedBy T first count order total

-- k texts of two arrays from place q on
unfoldable pub agree_from : (ℕ → Option Literal) → List ℕ → List ℕ → ℕ → ℕ → Bool
agree_from lit a b q zero = true
agree_from lit a b q (suc k) = is_equal (text_at lit (lit (get_or a q 0)) b q) && agree_from lit a b (q + 1) k

abbrev pub texts_agree : (ℕ → Option Literal) → List ℕ → ℕ → List ℕ → ℕ → Bool
texts_agree lit a m b n = eqb m n && agree_from lit a b 0 m

pub record BothAsks (T : Tables) (first : ℕ) (order : List ℕ) (total from size : ℕ) : Type 0 where
  pub pattern : OrderedAsks T first order total
  pub value : OrderAsks T from size

-- how many literal keys the pattern has, and whether the value's have the same texts
pub record TextsCompared (T : Tables) (first : ℕ) (order : List ℕ) (total from size literals all : ℕ) (same : Bool) : Type 0 where
  pub ordered : all ≡ total
  pub counted : literals ≡ length (texts_from (ordered_key T first order) 0 total)
  pub same_texts_lem : same ≡ same_texts (sort_texts (texts_from (ordered_key T first order) 0 total)) (sort_texts (texts_from (field_key T from) 0 size))

abbrev pub TextsComparedBy : Tables → ℕ → List ℕ → ℕ → ℕ → ℕ → ComparedKeys → Type 0
TextsComparedBy T first order total from size r = TextsCompared T first order total from size r.literals r.total r.same
