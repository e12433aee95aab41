-- What the functions that put an object's fields in order ask and say.
use Rattle.std.specs.Prelude.{ℕ, ◌+◌, ◌≤◌, ◌≡◌, Result, List, length, get_or, take, drop}
use Rattle.std.proofs.Math.Option.{Option, some}
use Rattle.base.specs.code.Search.{Between, Placed}
use Rattle.literal.specs.Literal.{Literal}
use Rattle.literal.specs.declared.LiteralRef.{LiteralRef}
use Rattle.literal.specs.Order.{Order, less, same, more, compared, comparison_of}
use Rattle.table.specs.Tables.{Tables}
use Rattle.table.specs.Decode.{referred}
use Rattle.planner.specs.Layout.{in_order}
use Rattle.planner.specs.code.Passes.{field_key, order_of}
use Rattle.planner.specs.code.Post.{OrderAsks}

-- how a key `own` compares with the key of the field number at place q
abbrev pub At : Order → (ℕ → Option Literal) → Option Literal → List ℕ → ℕ → Type 0
At r key own order q = compared own (key (get_or order q 0)) ≡ comparison_of r

-- the place of `own`, among m literal keys, is from low to high
abbrev pub KeyBetween : (ℕ → Option Literal) → Option Literal → List ℕ → ℕ → ℕ → ℕ → Type 0
KeyBetween key own order = Between (At more key own order) (At less key own order)

-- the first i fields of an object in order: m numbers of fields with literal keys, `total` numbers in all
pub record FieldsIn (T : Tables) (first i : ℕ) (order : List ℕ) (m total : ℕ) : Type 0 where
  pub counted : m ≡ length (order_of T first i).literals
  pub sized : total ≡ length (in_order (order_of T first i))
  pub listed : take total order ≡ in_order (order_of T first i)

-- field i is next
pub record AddAsks (T : Tables) (first i : ℕ) (order : List ℕ) (m total : ℕ) : Type 0 where
  pub asks : OrderAsks T first (i + 1)
  pub so_far : FieldsIn T first i order m total

-- field i is in; what stands behind the fields is kept
pub record FieldAdded (T : Tables) (first i : ℕ) (before : List ℕ) (from : ℕ) (order : List ℕ) (m total : ℕ) : Type 0 where
  pub fields : FieldsIn T first (i + 1) order m total
  pub grows : from ≤ total
  pub behind : drop total order ≡ drop total before

-- a literal, which is looked for among the keys of the first fields in order
pub record FindAsks (T : Tables) (first : ℕ) (order : List ℕ) (m : ℕ) (key : LiteralRef) : Type 0 where
  pub fields : ℕ
  pub total : ℕ
  pub so_far : FieldsIn T first fields order m total
  pub few : m ≤ 256
  pub small : first ≤ 512
  pub own : Literal
  pub literal : referred T key ≡ some own

-- either a literal field has an equal key, or the key goes in before a place
pub record FoundBy (key : ℕ → Option Literal) (own : Option Literal) (order : List ℕ) (m : ℕ) (r : Result ℕ ℕ) : Type 0 where
  pub place : Placed (At more key own order) (At same key own order) (At less key own order) m r

-- a literal among the keys of an object's fields
abbrev pub FoundIn : Tables → ℕ → LiteralRef → List ℕ → ℕ → Result ℕ ℕ → Type 0
FoundIn T first key order m r = FoundBy (field_key T first) (referred T key) order m r
