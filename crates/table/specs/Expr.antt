-- An expression of a rule as a tree. Each part keeps the number of its node.
use Rattle.std.specs.Prelude.{ℕ, ◌+◌, max, List, [], ◌∷◌, ◌++◌}
use Rattle.literal.specs.Literal.{Literal}

mutual
  pub data Expr : Type 0 where
    literal : ℕ → Literal → Expr
    -- its node and its number
    name : ℕ → ℕ → Expr
    wildcard : ℕ → Expr
    array : ℕ → Exprs → Expr
    set : ℕ → Exprs → Expr
    object : ℕ → Fields → Expr
    other : ℕ → Expr

  pub data Exprs : Type 0 where
    none : Exprs
    item : Expr → Exprs → Exprs

  pub data Fields : Type 0 where
    done : Fields
    -- key, value
    field : Expr → Expr → Fields → Fields

abbrev pub node_of : Expr → ℕ
node_of (literal n l) = n
node_of (name n x) = n
node_of (wildcard n) = n
node_of (array n es) = n
node_of (set n es) = n
node_of (object n fs) = n
node_of (other n) = n

unfoldable pub count : Exprs → ℕ
count none = 0
count (item e es) = 1 + count es

unfoldable pub count_fields : Fields → ℕ
count_fields done = 0
count_fields (field k v fs) = 1 + count_fields fs

-- the nodes of a tree, itself first
unfoldable mutual
  pub parts : Expr → List ℕ
  parts (literal n l) = n ∷ []
  parts (name n x) = n ∷ []
  parts (wildcard n) = n ∷ []
  parts (array n es) = n ∷ parts_all es
  parts (set n es) = n ∷ parts_all es
  parts (object n fs) = n ∷ parts_fields fs
  parts (other n) = n ∷ []

  pub parts_all : Exprs → List ℕ
  parts_all none = []
  parts_all (item e es) = parts e ++ parts_all es

  pub parts_fields : Fields → List ℕ
  parts_fields done = []
  parts_fields (field k v fs) = parts k ++ (parts v ++ parts_fields fs)

-- A childless node has depth 1. Items of sets and keys of objects are children too.
unfoldable mutual
  pub depth : Expr → ℕ
  depth (literal n l) = 1
  depth (name n x) = 1
  depth (wildcard n) = 1
  depth (array n es) = 1 + depth_all es
  depth (set n es) = 1 + depth_all es
  depth (object n fs) = 1 + depth_fields_lem fs
  depth (other n) = 1

  pub depth_all : Exprs → ℕ
  depth_all none = 0
  depth_all (item e es) = max (depth e) (depth_all es)

  pub depth_fields_lem : Fields → ℕ
  depth_fields_lem done = 0
  depth_fields_lem (field k v fs) = max (depth k) (max (depth v) (depth_fields_lem fs))
