-- The sides that request 12 of document 02 speaks of: names, underscores, literals, arrays, and objects with literal keys of differing text.
use Rattle.std.specs.Prelude.{ℕ, Bool, true, false, ◌&&◌, ◌||◌, not, List, [], ◌∷◌}
use Rattle.table.specs.Names.{same_bytes}
use Rattle.table.specs.Expr.{Expr, literal, name, wildcard, array, set, object, other, Exprs, none, item, Fields, done, field}
use Rattle.planner.specs.Layout.{literal_key}
use Rattle.planner.specs.Simple.{is_literal}
use Rattle.checks.specs.Structure.{key_texts}

unfoldable pub has_text : List ℕ → List (List ℕ) → Bool
has_text t [] = false
has_text t (u ∷ us) = same_bytes t u || has_text t us

-- Do the texts differ?
unfoldable pub differing_texts : List (List ℕ) → Bool
differing_texts [] = true
differing_texts (t ∷ ts) = not (has_text t ts) && differing_texts ts

unfoldable mutual
  pub plain : Expr → Bool
  plain (literal n l) = true
  plain (name n x) = true
  plain (wildcard n) = true
  plain (array n es) = plain_all_lem es
  plain (set n es) = false
  plain (object n fs) = differing_texts (key_texts fs) && plain_fields_lem fs
  plain (other n) = false

  pub plain_all_lem : Exprs → Bool
  plain_all_lem none = true
  plain_all_lem (item e es) = plain e && plain_all_lem es

  pub plain_fields_lem : Fields → Bool
  plain_fields_lem done = true
  plain_fields_lem (field k v fs) = is_literal (literal_key k) && (plain v && plain_fields_lem fs)
