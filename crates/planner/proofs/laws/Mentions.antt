-- Which names stand in an expression, part by part.
use Prim.Native.Nat.{ℕ}
use mathlib.Core.Path.{◌≡◌, refl, ap, ◌∙◌}
use mathlib.Core.List.{List, [], ◌∷◌, ◌++◌}
use mathlib.Core.Bool.{Bool, true, false, ◌||◌}
use lib.Dec.{eqb}
use Rattle.base.specs.Lists.{elem}
use Rattle.table.specs.Expr.{Expr, name, Exprs, item, Fields, field}
use Rattle.planner.specs.Names.{Occurrence, occurrences, occurrences_all, occurrences_fields, names_of}
use Rattle.planner.specs.Simple.{mentions}

module _ (x : ℕ) where
  pub names_or : (os ps : List Occurrence) → elem x (names_of (os ++ ps)) ≡ (elem x (names_of os) || elem x (names_of ps))
  unfolding elem names_of
  names_or [] ps = refl
  names_or (o ∷ os) ps = ap (λ (b : Bool). eqb x o.name || b) (names_or os ps) ∙ assoc (eqb x o.name) (elem x (names_of os)) (elem x (names_of ps))
    where
      assoc : (a b c : Bool) → (a || (b || c)) ≡ ((a || b) || c)
      assoc true b c = refl
      assoc false b c = refl

abbrev pub mentions_any : ℕ → Exprs → Bool
mentions_any x es = elem x (names_of (occurrences_all true true es))

abbrev pub mentions_fields : ℕ → Fields → Bool
mentions_fields x fs = elem x (names_of (occurrences_fields true true fs))

module _ (x : ℕ) where
  pub mentions_name : (n y : ℕ) → mentions x (name n y) ≡ eqb x y
  unfolding occurrences names_of elem
  mentions_name n y = go (eqb x y)
    where
      go : (b : Bool) → (b || false) ≡ b
      go true = refl
      go false = refl

  pub mentions_item : (e : Expr) (es : Exprs) → mentions_any x (item e es) ≡ (mentions x e || mentions_any x es)
  unfolding occurrences
  mentions_item e es = names_or x (occurrences true true e) (occurrences_all true true es)

  pub mentions_field : (k v : Expr) (fs : Fields) → mentions_fields x (field k v fs) ≡ (mentions x k || (mentions x v || mentions_fields x fs))
  unfolding occurrences
  mentions_field k v fs =
      names_or x (occurrences true true k) (occurrences true true v ++ occurrences_fields true true fs)
      ∙ ap (λ (b : Bool). mentions x k || b) (names_or x (occurrences true true v) (occurrences_fields true true fs))
