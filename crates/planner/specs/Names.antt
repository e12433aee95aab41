-- A pattern's names (document 01: refusal 17, the names report, refusal 23).
use Rattle.std.specs.Prelude.{ℕ, ◌/◌, Bool, cond, List, [], ◌∷◌, ◌++◌, leb, length}
use Rattle.base.specs.Lists.{tabulate}
use Rattle.scope.specs.declared.Scope.{Scope}
use Rattle.scope.specs.declared.ScopingMode.{ScopingMode}
use Rattle.scope.specs.Scope.{is_unbound}
use Rattle.table.specs.Tables.{name_bytes}
use Rattle.table.specs.Names.{class_of}
use Rattle.table.specs.declared.NameClass.{NameClass}
use Rattle.table.specs.declared.NameClass.TheVariants.{Underscore, InputOrData, Ordinary}
use Rattle.table.specs.Expr.{Expr, literal, name, wildcard, array, set, object, other, Exprs, none, item, Fields, done, field}

-- a name's node and number
pub record Occurrence : Type 0 where
  pub node : ℕ
  pub name : ℕ

abbrev pub occurrence : ℕ → ℕ → Occurrence
occurrence n x = record { node = n; name = x }

-- The names as written, `_` aside, those of fields that an equal key replaces too; inside sets if `sets`, inside keys of objects if `keys`.
module _ (sets keys : Bool) where
  unfoldable mutual
    pub occurrences : Expr → List Occurrence
    occurrences (literal n l) = []
    occurrences (name n x) = occurrence n x ∷ []
    occurrences (wildcard n) = []
    occurrences (array n es) = occurrences_all es
    occurrences (set n es) = cond sets (occurrences_all es) []
    occurrences (object n fs) = occurrences_fields fs
    occurrences (other n) = []

    pub occurrences_all : Exprs → List Occurrence
    occurrences_all none = []
    occurrences_all (item e es) = occurrences e ++ occurrences_all es

    pub occurrences_fields : Fields → List Occurrence
    occurrences_fields done = []
    occurrences_fields (field k v fs) = cond keys (occurrences k) [] ++ (occurrences v ++ occurrences_fields fs)

unfoldable pub names_of : List Occurrence → List ℕ
names_of [] = []
names_of (o ∷ os) = o.name ∷ names_of os

abbrev pub names_in : Bool → Bool → Expr → List ℕ
names_in sets keys e = names_of (occurrences sets keys e)

-- the node of the first name that a test holds of, or 0
unfoldable pub first_node : (ℕ → Bool) → List Occurrence → ℕ
first_node test [] = 0
first_node test (o ∷ os) = cond (test o.name) o.node (first_node test os)

-- What the scope says of the names, asked once for an operation: `_` by its bytes, any other by the scope's answer.
abbrev pub unbound_mark : Bool → ℕ
unbound_mark unbound = cond unbound 1 0

abbrev pub state_by : NameClass → Bool → ℕ
state_by Underscore unbound = 2
state_by InputOrData unbound = unbound_mark unbound
state_by Ordinary unbound = unbound_mark unbound

-- the state of name x; 0 where the table does not have it
abbrev pub name_state : List ℕ → List ℕ → Scope → ScopingMode → ℕ → ℕ
name_state names text s mode x = cond (leb x (length names / 2)) (state_by (class_of (name_bytes names text x)) (is_unbound s mode x)) 0

-- the states of all names, by their numbers
abbrev pub states_of : List ℕ → List ℕ → Scope → ScopingMode → List ℕ
states_of names text s mode = tabulate (name_state names text s mode) 1 128
