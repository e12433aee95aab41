-- The places of two patterns: each node and each name, on either side. A known name stands for its value's node.
use Rattle.std.specs.Prelude.{ℕ, zero, suc, ◌+◌, ◌*◌, ◌/◌, ◌%◌, Bool, true, false, ◌&&◌, cond, List, [], ◌∷◌, eqb}
use Rattle.std.proofs.Math.Option.{Option, none, some}
use Rattle.table.specs.Expr as Expr
use Rattle.table.specs.Expr.{Expr, literal, name, wildcard, array, set, object, other, Exprs, item, Fields, done, field}
use Rattle.planner.specs.Layout.{literal_key, FieldOrder, no_fields, add_field}
use Rattle.planner.specs.Simple.{simple}
use Rattle.value.specs.Value.{Value, value_of}
use Rattle.matching.specs.Matching.{Env}
use Rattle.common_example.specs.Overlap.{Template}
use Rattle.common_example.specs.Unify.{Head, free, leaf, items, keyed, Keyed, keyed_in, unified}

-- `true` is the first pattern's side
pub data GraphPlace : Type 0 where
  nodeᵖ : Bool → ℕ → GraphPlace
  nameᵖ : Bool → ℕ → GraphPlace

abbrev pub same_side : Bool → Bool → Bool
same_side true s = s
same_side false true = false
same_side false false = true

abbrev pub same_place : GraphPlace → GraphPlace → Bool
same_place (nodeᵖ s n) (nodeᵖ t m) = same_side s t && eqb n m
same_place (nodeᵖ s n) (nameᵖ t m) = false
same_place (nameᵖ s n) (nodeᵖ t m) = false
same_place (nameᵖ s n) (nameᵖ t m) = same_side s t && eqb n m

-- places as numbers, for arrays: four for each node or name
abbrev pub place_number : GraphPlace → ℕ
place_number (nodeᵖ true n) = n * 4
place_number (nodeᵖ false n) = n * 4 + 1
place_number (nameᵖ true x) = x * 4 + 2
place_number (nameᵖ false x) = x * 4 + 3

unfoldable pub place_at : ℕ → GraphPlace
place_at i = cond (eqb (i % 4) 0) (nodeᵖ true (i / 4)) (cond (eqb (i % 4) 1) (nodeᵖ false (i / 4)) (cond (eqb (i % 4) 2) (nameᵖ true (i / 4)) (nameᵖ false (i / 4))))

-- the places of nodes and names up to a limit, by falling numbers
unfoldable pub graph_places : ℕ → List GraphPlace
graph_places zero = []
graph_places (suc n) = nameᵖ false (suc n) ∷ (nameᵖ true (suc n) ∷ (nodeᵖ false (suc n) ∷ (nodeᵖ true (suc n) ∷ graph_places n)))

-- `held x` is the node of name x's value where the name is known
module _ (held : ℕ → Option ℕ) (side : Bool) where
  abbrev pub name_place : ℕ → Option ℕ → GraphPlace
  name_place x (some m) = nodeᵖ side m
  name_place x none = nameᵖ side x

  -- the place that an expression has its value from
  abbrev pub graph_place_of : Expr → GraphPlace
  graph_place_of (literal n l) = nodeᵖ side n
  graph_place_of (name n x) = name_place x (held x)
  graph_place_of (wildcard n) = nodeᵖ side n
  graph_place_of (array n es) = nodeᵖ side n
  graph_place_of (set n es) = nodeᵖ side n
  graph_place_of (object n fs) = nodeᵖ side n
  graph_place_of (other n) = nodeᵖ side n

  unfoldable pub places_of : Exprs → List GraphPlace
  places_of Expr.none = []
  places_of (item e es) = graph_place_of e ∷ places_of es

  -- fields in key order, as a plan has them
  unfoldable pub placed_fields : Fields → FieldOrder GraphPlace → FieldOrder GraphPlace
  placed_fields done o = o
  placed_fields (field k v fs) o = placed_fields fs (add_field (literal_key k) (graph_place_of v) o)

  abbrev pub keyed_of : Fields → Keyed GraphPlace
  keyed_of fs = keyed_in (placed_fields fs no_fields).literals

  -- what an expression's own node says
  abbrev pub head_of : Expr → Head GraphPlace
  head_of (literal n l) = leaf l
  head_of (name n x) = free
  head_of (wildcard n) = free
  head_of (array n es) = items (places_of es)
  head_of (set n es) = free
  head_of (object n fs) = keyed (keyed_of fs)
  head_of (other n) = free

  -- of a node that is no simple pattern nothing is said: no simple root reaches it
  abbrev pub head_if : Bool → Expr → Head GraphPlace
  head_if true e = head_of e
  head_if false e = free

abbrev pub pick_held : Bool → (ℕ → Option ℕ) → (ℕ → Option ℕ) → ℕ → Option ℕ
pick_held true f h = f
pick_held false f h = h

-- of nodes `tree n`, with the known names' nodes on each side
module _ (tree : ℕ → Expr) (held₁ held₂ : ℕ → Option ℕ) where
  abbrev pub graph : GraphPlace → Head GraphPlace
  graph (nodeᵖ s n) = head_if (pick_held s held₁ held₂) s (simple (tree n)) (tree n)
  graph (nameᵖ s x) = free

  -- the template of two patterns' roots, of nodes and names up to `limit` each
  abbrev pub overlap : ℕ → ℕ → ℕ → Option (Template GraphPlace)
  overlap limit root₁ root₂ = unified same_place graph (graph_places limit) (limit * 4) (graph_place_of held₁ true (tree root₁)) (graph_place_of held₂ false (tree root₂))

-- a known name's value, from its node
abbrev pub value_from : (ℕ → Expr) → Option ℕ → Option Value
value_from tree none = none
value_from tree (some m) = some (value_of (tree m))

abbrev pub known_by : (ℕ → Expr) → (ℕ → Option ℕ) → Env
known_by tree held x = value_from tree (held x)
