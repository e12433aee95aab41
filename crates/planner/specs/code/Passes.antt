-- What the code's two passes over a pattern make: `binders`, in written order, and the entries by binders, in plan order.
use Rattle.std.specs.Prelude.{ℕ, zero, suc, ◌+◌, ◌-◌, ◌*◌, Bool, cond, ◌&&◌, List, [], ◌∷◌, ◌++◌, eqb, leb, length, get_or, set}
use Rattle.std.proofs.Math.Option.{Option}
use Rattle.literal.specs.Literal.{Literal}
use Rattle.table.specs.Tables.{Tables, child_at}
use Rattle.table.specs.Decode.{expr, items, literal_at}
use Rattle.table.specs.Expr.{Expr, literal, name, wildcard, array, object, other, Exprs, none, item, Fields, done, field, node_of, count}
use Rattle.planner.specs.Steps.{written_steps}
use Rattle.planner.specs.Layout.{Entry, Place, below, entry, literal_key, FieldOrder, no_fields, add_field, in_order, concat}

-- `binders` has for each name number the node that binds it, or 0
abbrev pub binder_of : List ℕ → ℕ → ℕ
binder_of binders x = get_or binders (x - 1) 0

module _ (unbound : ℕ → Bool) where
  abbrev pub bind_name : ℕ → ℕ → List ℕ → List ℕ
  bind_name n x binders = cond (unbound x && eqb (binder_of binders x) 0) (set binders (x - 1) n) binders

  unfoldable mutual
    pub binders_of : Expr → List ℕ → List ℕ
    binders_of (literal n l) binders = binders
    binders_of (name n x) binders = bind_name n x binders
    binders_of (wildcard n) binders = binders
    binders_of (array n es) binders = binders_all es binders
    binders_of (Expr.set n es) binders = binders
    binders_of (object n fs) binders = binders_fields fs binders
    binders_of (other n) binders = binders

    pub binders_all : Exprs → List ℕ → List ℕ
    binders_all none binders = binders
    binders_all (item e es) binders = binders_all es (binders_of e binders)

    pub binders_fields : Fields → List ℕ → List ℕ
    binders_fields done binders = binders
    binders_fields (field k v fs) binders = binders_fields fs (binders_of v binders)

-- a name node binds where it is its name's binder
abbrev pub name_kind : List ℕ → ℕ → ℕ → ℕ
name_kind binders n x = cond (eqb (binder_of binders x) n) 1 3

module _ (binders : List ℕ) where
  unfoldable mutual
    pub lay_out : Expr → Place → List Entry
    lay_out (literal n l) place = entry 4 n 0 place ∷ []
    lay_out (name n x) place = entry (name_kind binders n x) n 0 place ∷ []
    lay_out (wildcard n) place = entry 2 n 0 place ∷ []
    lay_out (array n es) place = entry 5 n (count es) place ∷ lay_out_all es 1
    lay_out (Expr.set n es) place = entry 3 n 0 place ∷ []
    lay_out (object n fs) place =
        let order = in_order (lay_out_fields fs 1 no_fields) in
        entry 6 n (length order) place ∷ concat order
    lay_out (other n) place = entry 3 n 0 place ∷ []

    pub lay_out_all : Exprs → ℕ → List Entry
    lay_out_all none i = []
    lay_out_all (item e es) i = lay_out e (below 0 i) ++ lay_out_all es (i + 1)

    pub lay_out_fields : Fields → ℕ → FieldOrder (List Entry) → FieldOrder (List Entry)
    lay_out_fields done i o = o
    lay_out_fields (field k v fs) i o = lay_out_fields fs (i + 1) (add_field (literal_key k) (lay_out v (below (node_of k) i)) o)

-- the children at `at`, `at + step` and so on, k of them
unfoldable pub binders_from : (ℕ → Bool) → (ℕ → Expr) → List ℕ → ℕ → ℕ → ℕ → List ℕ → List ℕ
binders_from unbound g ch at step zero binders = binders
binders_from unbound g ch at step (suc k) binders = binders_from unbound g ch (at + step) step k (binders_of unbound (g (child_at ch at)) binders)

-- `states` has for each name number 0 known, 1 unbound, 2 `_`
abbrev pub unbound_in : List ℕ → ℕ → Bool
unbound_in states x = eqb (get_or states (x - 1) 0) 1

-- the same of a table, by the states
abbrev pub binders_below : List ℕ → Tables → ℕ → ℕ → ℕ → List ℕ → List ℕ
binders_below states T at step k binders = binders_from (unbound_in states) (expr T) T.children at step k binders

-- the steps of the first pass over them
unfoldable pub steps_from : (ℕ → Expr) → List ℕ → ℕ → ℕ → ℕ → ℕ
steps_from g ch at step zero = 0
steps_from g ch at step (suc k) = written_steps (g (child_at ch at)) + steps_from g ch (at + step) step k

abbrev pub steps_below : Tables → ℕ → ℕ → ℕ → ℕ
steps_below T at step k = steps_from (expr T) T.children at step k

-- the order of k fields from field number i on, by their keys
unfoldable pub order_from : (ℕ → Option Literal) → ℕ → ℕ → FieldOrder ℕ → FieldOrder ℕ
order_from key i zero o = o
order_from key i (suc k) o = order_from key (i + 1) k (add_field (key i) i o)

-- The steps of laying a node out, one for each entry.
abbrev pub lay_steps : List ℕ → Tables → ℕ → Place → ℕ
lay_steps binders T n place = length (lay_out binders (expr T n) place)

-- The entry kinds of a name node and of any other node with no entries below it.
abbrev pub name_entry_kind : List ℕ → List ℕ → ℕ → ℕ → ℕ
name_entry_kind states binders n x = cond (eqb (get_or states (x - 1) 0) 2) 2 (name_kind binders n x)

abbrev pub leaf_entry_kind : ℕ → ℕ
leaf_entry_kind kind = cond (leb kind 5) 4 3

-- The entries of k items from child entry `from` and position i on.
abbrev pub lay_out_items : List ℕ → Tables → ℕ → ℕ → ℕ → List Entry
lay_out_items binders T from k i = lay_out_all binders (items (expr T) T.children from k) i

-- Field i of an object whose child entries start at `first`: its key node, its literal key, its entries.
abbrev pub key_node : Tables → ℕ → ℕ → ℕ
key_node T first i = child_at T.children (first + i * 2)

abbrev pub value_node : Tables → ℕ → ℕ → ℕ
value_node T first i = child_at T.children (first + i * 2 + 1)

abbrev pub field_key : Tables → ℕ → ℕ → Option Literal
field_key T first i = literal_at T (key_node T first i)

abbrev pub field_entries : List ℕ → Tables → ℕ → ℕ → List Entry
field_entries binders T first i = lay_out binders (expr T (value_node T first i)) (below (key_node T first i) (i + 1))

-- the order of an object's fields, and the entries of fields in an order
abbrev pub order_of : Tables → ℕ → ℕ → FieldOrder ℕ
order_of T first k = order_from (field_key T first) 0 k no_fields

-- f of k numbers of a list from place q on
unfoldable pub concat_at : (ℕ → List Entry) → List ℕ → ℕ → ℕ → List Entry
concat_at f order q zero = []
concat_at f order q (suc k) = f (get_or order q 0) ++ concat_at f order (q + 1) k

abbrev pub lay_out_ordered : List ℕ → Tables → ℕ → List ℕ → ℕ → ℕ → List Entry
lay_out_ordered binders T first order q k = concat_at (field_entries binders T first) order q k
