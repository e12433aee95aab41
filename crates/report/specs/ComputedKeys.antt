-- The names that stand as computed keys: a key that is itself a name, `_` aside.
use Rattle.std.specs.Prelude.{ℕ, List, [], ◌∷◌, ◌++◌}
use Rattle.table.specs.Expr.{Expr, literal, name, wildcard, array, set, object, other, Exprs, none, item, Fields, done, field}

abbrev pub key_name : Expr → List ℕ
key_name (literal n l) = []
key_name (name n x) = x ∷ []
key_name (wildcard n) = []
key_name (array n es) = []
key_name (set n es) = []
key_name (object n fs) = []
key_name (other n) = []

-- those of one object, lost fields too
unfoldable pub key_names : Fields → List ℕ
key_names done = []
key_names (field k v fs) = key_name k ++ key_names fs

-- those of the objects that are reached through arrays and object values
unfoldable mutual
  pub names_as_keys : Expr → List ℕ
  names_as_keys (literal n l) = []
  names_as_keys (name n x) = []
  names_as_keys (wildcard n) = []
  names_as_keys (array n es) = names_as_keys_all es
  names_as_keys (set n es) = []
  names_as_keys (object n fs) = key_names fs ++ names_as_keys_fields fs
  names_as_keys (other n) = []

  pub names_as_keys_all : Exprs → List ℕ
  names_as_keys_all none = []
  names_as_keys_all (item e es) = names_as_keys e ++ names_as_keys_all es

  pub names_as_keys_fields : Fields → List ℕ
  names_as_keys_fields done = []
  names_as_keys_fields (field k v fs) = names_as_keys v ++ names_as_keys_fields fs
