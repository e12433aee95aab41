-- A value stands at the node of the expression that it is.
use mathlib.Core.Path.{◌≡◌, refl}
use Rattle.table.specs.Expr.{Expr, literal, name, wildcard, array, set, object, other, node_of}
use Rattle.value.specs.Value.{value_of, nodeᵛ}

pub value_node_lem : (e : Expr) → nodeᵛ (value_of e) ≡ node_of e
unfolding value_of
value_node_lem (literal n l) = refl
value_node_lem (name n x) = refl
value_node_lem (wildcard n) = refl
value_node_lem (array n es) = refl
value_node_lem (set n es) = refl
value_node_lem (object n fs) = refl
value_node_lem (other n) = refl
