-- The expression that a node of the tables says.
use Rattle.std.specs.Prelude.{ℕ, zero, suc, ◌+◌, Bool, cond, List, eqb}
use Rattle.std.proofs.Math.Option.{Option}
use Rattle.literal.specs.Literal.{Literal}
use Rattle.literal.specs.Reading.{literal_of}
use Rattle.literal.specs.declared.LiteralRef.{LiteralRef}
use Rattle.literal.specs.declared.LiteralRef.TheVariants.{Null, False, True, Number, String, RawString}
use Rattle.table.specs.declared.Key.{Key}
use Rattle.table.specs.Tables.{Tables, kind_of, first_word_of, count_of, child_at, name_bytes}
use Rattle.table.specs.Names.{same_bytes, underscore_bytes}
use Rattle.table.specs.Expr.{Expr, literal, name, wildcard, array, set, object, other, Exprs, none, item, Fields, done, field}

-- A node of kind 1 to 5 refers to a literal; one of another kind is no literal.
abbrev pub ref_by : ℕ → ℕ → ℕ → Key
ref_by kind first count =
    cond (eqb kind 1) (Key.Literal (String first count))
    (cond (eqb kind 2) (Key.Literal (RawString first count))
    (cond (eqb kind 3) (Key.Literal (Number first))
    (cond (eqb kind 4) (Key.Literal (cond (eqb first 0) False True))
    (cond (eqb kind 5) (Key.Literal Null)
    Key.Computed))))

unfoldable pub ref_of : List ℕ → ℕ → Key
ref_of nodes n = ref_by (kind_of nodes n) (first_word_of nodes n) (count_of nodes n)

abbrev pub literal_in : List ℕ → List ℕ → List ℕ → Key → Option Literal
literal_in numbers strings text Key.Computed = Option.none
literal_in numbers strings text (Key.Literal l) = literal_of numbers strings text l

-- the literal of a node, if it is one
unfoldable pub literal_node : List ℕ → List ℕ → List ℕ → List ℕ → ℕ → Option Literal
literal_node nodes numbers strings text n = literal_in numbers strings text (ref_of nodes n)

abbrev pub literal_at : Tables → ℕ → Option Literal
literal_at T n = literal_node T.nodes T.numbers T.strings T.text n

-- the literal of a reference
abbrev pub referred : Tables → LiteralRef → Option Literal
referred T l = literal_of T.numbers T.strings T.text l

unfoldable pub items : (ℕ → Expr) → List ℕ → ℕ → ℕ → Exprs
items g children at zero = none
items g children at (suc k) = item (g (child_at children at)) (items g children (at + 1) k)

-- key, then value, for each
unfoldable pub fields : (ℕ → Expr) → List ℕ → ℕ → ℕ → Fields
fields g children at zero = done
fields g children at (suc k) = field (g (child_at children at)) (g (child_at children (at + 1))) (fields g children (at + 2) k)

abbrev pub leaf_of : ℕ → Option Literal → Expr
leaf_of n Option.none = other n
leaf_of n (Option.some l) = literal n l

-- a name node by its name's bytes
abbrev pub named_by : Bool → ℕ → ℕ → Expr
named_by underscore n x = cond underscore (wildcard n) (name n x)

abbrev pub is_wildcard : Tables → ℕ → Bool
is_wildcard T x = same_bytes (name_bytes T.names T.text x) underscore_bytes

-- node n by its kind, its items and its fields
unfoldable pub headed : Tables → ℕ → Exprs → Fields → Expr
headed T n es fs =
    cond (eqb (kind_of T.nodes n) 6) (named_by (is_wildcard T (first_word_of T.nodes n)) n (first_word_of T.nodes n))
    (cond (eqb (kind_of T.nodes n) 7) (array n es)
    (cond (eqb (kind_of T.nodes n) 8) (set n es)
    (cond (eqb (kind_of T.nodes n) 9) (object n fs)
    (leaf_of n (literal_at T n)))))

-- the tree of node n, at most `fuel` levels deep
unfoldable pub expr_at : Tables → ℕ → ℕ → Expr
expr_at T zero n = other n
expr_at T (suc fuel) n =
    headed T n (items (expr_at T fuel) T.children (first_word_of T.nodes n) (count_of T.nodes n))
    (fields (expr_at T fuel) T.children (first_word_of T.nodes n) (count_of T.nodes n))

-- a child's number is below its parent's, so n levels are enough
unfoldable pub expr : Tables → ℕ → Expr
expr T n = expr_at T n n

-- an object's fields, as written
abbrev pub fields_of : Tables → ℕ → Fields
fields_of T n = fields (expr T) T.children (first_word_of T.nodes n) (count_of T.nodes n)
