-- Simple patterns: names, underscores, literals, arrays, and objects with literal keys, all different. Demand 3 speaks of these.
use Rattle.std.specs.Prelude.{ℕ, Bool, true, false, ◌&&◌, ◌||◌, not, List, [], ◌∷◌}
use Rattle.std.proofs.Math.Option.{Option}
use Rattle.literal.specs.Literal.{Literal}
use Rattle.literal.specs.Order.{key_order}
use Rattle.table.specs.Names.{is_same}
use Rattle.table.specs.Expr.{Expr, literal, name, wildcard, array, set, object, other, Exprs, none, item, Fields, done, field}
use Rattle.base.specs.Lists.{elem}
use Rattle.planner.specs.Layout.{literal_key}
use Rattle.planner.specs.Names.{names_in}

-- literals are equal by the order of keys
abbrev pub same_key : Literal → Literal → Bool
same_key a b = is_same (key_order a b)

unfoldable pub has_key : Literal → List Literal → Bool
has_key k [] = false
has_key k (l ∷ ls) = same_key k l || has_key k ls

-- Do the keys differ?
unfoldable pub differing : List Literal → Bool
differing [] = true
differing (k ∷ ks) = not (has_key k ks) && differing ks

abbrev pub add_key : Option Literal → List Literal → List Literal
add_key (Option.some l) ls = l ∷ ls
add_key Option.none ls = ls

-- an object's literal keys as written
unfoldable pub keys_of : Fields → List Literal
keys_of done = []
keys_of (field k v fs) = add_key (literal_key k) (keys_of fs)

abbrev pub is_literal : Option Literal → Bool
is_literal (Option.some l) = true
is_literal Option.none = false

-- Simple patterns, and without names and underscores values.
module _ (names : Bool) where
  unfoldable mutual
    pub admitted : Expr → Bool
    admitted (literal n l) = true
    admitted (name n x) = names
    admitted (wildcard n) = names
    admitted (array n es) = admitted_all es
    admitted (set n es) = false
    admitted (object n fs) = differing (keys_of fs) && admitted_fields fs
    admitted (other n) = false

    pub admitted_all : Exprs → Bool
    admitted_all none = true
    admitted_all (item e es) = admitted e && admitted_all es

    pub admitted_fields : Fields → Bool
    admitted_fields done = true
    admitted_fields (field k v fs) = is_literal (literal_key k) && (admitted v && admitted_fields fs)

abbrev pub simple : Expr → Bool
simple = admitted true

abbrev pub simple_all : Exprs → Bool
simple_all = admitted_all true

abbrev pub simple_fields : Fields → Bool
simple_fields = admitted_fields true

-- Does the name x stand at or below the expression, keys and sets included?
abbrev pub mentions : ℕ → Expr → Bool
mentions x e = elem x (names_in true true e)
