-- The entries of a plan, in plan order: parents first, each child followed by its own children before the next child;
-- an object's literal fields in key order, then its computed ones as written.
use Rattle.std.specs.Prelude.{ℕ, ◌+◌, Bool, false, cond, ◌||◌, List, [], ◌∷◌, ◌++◌, map, eqb, length}
use Rattle.std.proofs.Math.Option.{Option}
use Rattle.literal.specs.Literal.{Literal}
use Rattle.literal.specs.Order.{Order, less, same, more, key_order}
use Rattle.table.specs.Expr.{Expr, literal, name, wildcard, array, set, object, other, node_of}
use Rattle.planner.specs.Plan.{DestructuringPlan, var, ignore, equality_expr, equality_value, array_plan, object_plan, Plans, no_plan, item_plan, FieldPlans, no_field, field_plan}

-- An entry: kind (1 bind, 2 ignore, 3 compare expression, 4 compare literal, 5 array, 6 object, 7 pair), node, children, key node or 0,
-- written position under its parent from 1, or 0 without a parent.
pub record Entry : Type 0 where
  pub kind : ℕ
  pub node : ℕ
  pub children : ℕ
  pub key : ℕ
  pub position : ℕ

-- how a plan stands under its parent: its key node or 0, and its written position
pub record Place : Type 0 where
  pub key : ℕ
  pub position : ℕ

abbrev pub below : ℕ → ℕ → Place
below key position = record { key = key; position = position }

-- without a parent
abbrev pub top : Place
top = below 0 0

abbrev pub entry : ℕ → ℕ → ℕ → Place → Entry
entry kind node children place = record { kind = kind; node = node; children = children; key = place.key; position = place.position }

-- a key that is a literal, if it is one (extract_literal_key)
abbrev pub literal_key : Expr → Option Literal
literal_key (literal n l) = Option.some l
literal_key (name n x) = Option.none
literal_key (wildcard n) = Option.none
literal_key (array n es) = Option.none
literal_key (set n es) = Option.none
literal_key (object n fs) = Option.none
literal_key (other n) = Option.none

-- what is held under a literal key
pub record Slot (A : Type 0) : Type 0 where
  pub at : Literal
  pub held : A

abbrev pub placed : {A : Type 0} → Order → Slot A → Slot A → List (Slot A) → List (Slot A) → List (Slot A)
placed less new old rest further = new ∷ (old ∷ rest)
placed same new old rest further = new ∷ rest
placed more new old rest further = old ∷ further

-- into slots in key order; one of an equal key is replaced
unfoldable pub insert : {A : Type 0} → Slot A → List (Slot A) → List (Slot A)
insert s [] = s ∷ []
insert s (t ∷ ts) = placed (key_order s.at t.at) s t ts (insert s ts)

-- an object's fields: those under literal keys in key order, the last of a repeated key alone; the computed ones as written
pub record FieldOrder (A : Type 0) : Type 0 where
  pub literals : List (Slot A)
  pub computed : List A

abbrev pub no_fields : {A : Type 0} → FieldOrder A
no_fields = record { literals = []; computed = [] }

abbrev pub add_field : {A : Type 0} → Option Literal → A → FieldOrder A → FieldOrder A
add_field (Option.some l) a o = record { literals = insert (record { at = l; held = a }) o.literals; computed = o.computed }
add_field Option.none a o = record { literals = o.literals; computed = o.computed ++ (a ∷ []) }

abbrev pub held_in : {A : Type 0} → Slot A → A
held_in s = s.held

abbrev pub in_order : {A : Type 0} → FieldOrder A → List A
in_order o = map held_in o.literals ++ o.computed

unfoldable pub concat : {A : Type 0} → List (List A) → List A
concat [] = []
concat (l ∷ ls) = l ++ concat ls

unfoldable mutual
  -- the entries of a plan that stands at a place under its parent
  pub entries : DestructuringPlan → Place → List Entry
  entries (var n x) place = entry 1 n 0 place ∷ []
  entries (ignore n) place = entry 2 n 0 place ∷ []
  entries (equality_expr e) place = entry 3 (node_of e) 0 place ∷ []
  entries (equality_value n l) place = entry 4 n 0 place ∷ []
  entries (array_plan n ps) place = entry 5 n (count_plans_lem ps) place ∷ entries_all_lem ps 1
  entries (object_plan n fs) place =
      let order = in_order (field_order fs 1 no_fields) in
      entry 6 n (length order) place ∷ concat order

  -- items from a position on
  pub entries_all_lem : Plans → ℕ → List Entry
  entries_all_lem no_plan i = []
  entries_all_lem (item_plan p ps) i = entries p (below 0 i) ++ entries_all_lem ps (i + 1)

  pub count_plans_lem : Plans → ℕ
  count_plans_lem no_plan = 0
  count_plans_lem (item_plan p ps) = 1 + count_plans_lem ps

  -- the fields' entries from a position on, taken as written into the order
  pub field_order : FieldPlans → ℕ → FieldOrder (List Entry) → FieldOrder (List Entry)
  field_order no_field i o = o
  field_order (field_plan k p fs) i o = field_order fs (i + 1) (add_field (literal_key k) (entries p (below (node_of k) i)) o)

-- the words of an entry
abbrev pub entry_words : ℕ
entry_words = 5

unfoldable pub words : List Entry → List ℕ
words [] = []
words (e ∷ es) = e.kind ∷ (e.node ∷ (e.children ∷ (e.key ∷ (e.position ∷ words es))))

-- A plan introduces a binding where an entry binds or ignores; a field that an equal key replaced has no entry.
unfoldable pub binds_any : List Entry → Bool
binds_any [] = false
binds_any (e ∷ es) = (eqb e.kind 1 || eqb e.kind 2) || binds_any es

abbrev pub introduces_binding : DestructuringPlan → Bool
introduces_binding p = binds_any (entries p top)

-- the names of the entries that bind, by their nodes
unfoldable pub bound_names : (ℕ → ℕ) → List Entry → List ℕ
bound_names nm [] = []
bound_names nm (e ∷ es) = cond (eqb e.kind 1) (nm e.node ∷ bound_names nm es) (bound_names nm es)
