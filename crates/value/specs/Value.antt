-- Values, and when two are equal. A value is a literal, an array of values, or an object of values under literal keys that differ; each part keeps the number of its node.
use Rattle.std.specs.Prelude.{ℕ, Bool, true, false, cond, ◌&&◌, List, [], ◌∷◌, T, eqb}
use Rattle.std.proofs.Math.Option.{Option, none, some}
use Rattle.literal.specs.Literal.{Literal, null}
use Rattle.table.specs.Tables.{Tables}
use Rattle.table.specs.Decode.{expr}
use Rattle.table.specs.Expr as Expr
use Rattle.table.specs.Expr.{Expr, literal, name, wildcard, array, set, object, other, Exprs, item, Fields, done, field}
use Rattle.planner.specs.Layout.{literal_key}
use Rattle.planner.specs.Simple.{same_key, has_key, differing, admitted}

mutual
  pub data Value : Type 0 where
    literalᵛ : ℕ → Literal → Value
    arrayᵛ : ℕ → Values → Value
    objectᵛ : ℕ → ValueFields → Value

  pub data Values : Type 0 where
    noneᵛ : Values
    itemᵛ : Value → Values → Values

  pub data ValueFields : Type 0 where
    doneᵛ : ValueFields
    fieldᵛ : Literal → Value → ValueFields → ValueFields

-- Is the expression a value?
abbrev pub is_value : Expr → Bool
is_value = admitted false

abbrev pub filled_field : Option Literal → Value → ValueFields → ValueFields
filled_field (some k) v fs = fieldᵛ k v fs
filled_field none v fs = fs

-- The value that it is; of no matter where it is none.
unfoldable mutual
  pub value_of : Expr → Value
  value_of (literal n l) = literalᵛ n l
  value_of (name n x) = literalᵛ n null
  value_of (wildcard n) = literalᵛ n null
  value_of (array n es) = arrayᵛ n (values_of es)
  value_of (set n es) = literalᵛ n null
  value_of (object n fs) = objectᵛ n (value_fields_of fs)
  value_of (other n) = literalᵛ n null

  pub values_of : Exprs → Values
  values_of Expr.none = noneᵛ
  values_of (item e es) = itemᵛ (value_of e) (values_of es)

  pub value_fields_of : Fields → ValueFields
  value_fields_of done = doneᵛ
  value_fields_of (field k v fs) = filled_field (literal_key k) (value_of v) (value_fields_of fs)

-- the value at a node of a table; of 0 none
abbrev pub value_at : Tables → ℕ → Option Value
value_at T n = cond (eqb n 0) none (some (value_of (expr T n)))

-- the node that a value stands at
abbrev pub nodeᵛ : Value → ℕ
nodeᵛ (literalᵛ n l) = n
nodeᵛ (arrayᵛ n vs) = n
nodeᵛ (objectᵛ n fs) = n

-- of no value 0
abbrev pub node_in : Option Value → ℕ
node_in none = 0
node_in (some v) = nodeᵛ v

-- Are all keys of one list in the other? Do two lists hold the same keys?
unfoldable pub within : List Literal → List Literal → Bool
within [] ls = true
within (k ∷ ks) ls = has_key k ls && within ks ls

abbrev pub same_key_sets : List Literal → List Literal → Bool
same_key_sets ks ls = within ks ls && within ls ks

-- An object's keys, and the value under a key.
unfoldable pub keysᵛ : ValueFields → List Literal
keysᵛ doneᵛ = []
keysᵛ (fieldᵛ k v fs) = k ∷ keysᵛ fs

abbrev pub first_hit : Bool → Value → Option Value → Option Value
first_hit true v o = some v
first_hit false v o = o

unfoldable pub under : Literal → ValueFields → Option Value
under k doneᵛ = none
under k (fieldᵛ l v fs) = first_hit (same_key k l) v (under k fs)

-- In each object of the value the keys differ.
unfoldable mutual
  pub proper : Value → Bool
  proper (literalᵛ n l) = true
  proper (arrayᵛ n vs) = proper_all_lem vs
  proper (objectᵛ n fs) = differing (keysᵛ fs) && proper_fields_lem fs

  pub proper_all_lem : Values → Bool
  proper_all_lem noneᵛ = true
  proper_all_lem (itemᵛ v vs) = proper v && proper_all_lem vs

  pub proper_fields_lem : ValueFields → Bool
  proper_fields_lem doneᵛ = true
  proper_fields_lem (fieldᵛ k v fs) = proper v && proper_fields_lem fs

abbrev pub Proper : Value → Type 0
Proper v = T (proper v)

abbrev pub holds : (Value → Bool) → Option Value → Bool
holds f none = false
holds f (some v) = f v

-- Are two values equal? Literals by the order of keys, arrays by length and items, objects by key sets and the value under each key.
unfoldable mutual
  pub same : Value → Value → Bool
  same (literalᵛ n l) (literalᵛ m k) = same_key l k
  same (literalᵛ n l) (arrayᵛ m ws) = false
  same (literalᵛ n l) (objectᵛ m gs) = false
  same (arrayᵛ n vs) (literalᵛ m k) = false
  same (arrayᵛ n vs) (arrayᵛ m ws) = same_items vs ws
  same (arrayᵛ n vs) (objectᵛ m gs) = false
  same (objectᵛ n fs) (literalᵛ m k) = false
  same (objectᵛ n fs) (arrayᵛ m ws) = false
  same (objectᵛ n fs) (objectᵛ m gs) = same_key_sets (keysᵛ fs) (keysᵛ gs) && same_fields_lem fs gs

  pub same_items : Values → Values → Bool
  same_items noneᵛ noneᵛ = true
  same_items noneᵛ (itemᵛ w ws) = false
  same_items (itemᵛ v vs) noneᵛ = false
  same_items (itemᵛ v vs) (itemᵛ w ws) = same v w && same_items vs ws

  -- each field of the first is equal to the second's value under its key
  pub same_fields_lem : ValueFields → ValueFields → Bool
  same_fields_lem doneᵛ gs = true
  same_fields_lem (fieldᵛ k v fs) gs = holds (λ w. same v w) (under k gs) && same_fields_lem fs gs

abbrev pub Same : Value → Value → Type 0
Same v w = T (same v w)

-- Of values, equality is an equivalence.
pub record EqualityLaws : Type 0 where
  pub reflexive : (v : Value) → Proper v → Same v v
  pub symmetric : (v w : Value) → Proper w → Same v w → Same w v
  pub transitive : (u v w : Value) → Proper u → Same u v → Same v w → Same u w
