-- Numbers are totally ordered, as the keys that they are.
use mathlib.Core.Logic.{◌⊎◌, inl, inr}
use mathlib.Core.Path.{◌≡◌, refl, sym, ap, ap₂, ◌∙◌}
use Rattle.literal.specs.Literal.{Literal, number}
use Rattle.literal.specs.Order.{Order, less, same, more, opposite, key_order}
use Rattle.literal.specs.Laws.{TotalOrder}
use Rattle.literal.proofs.Orders.{key_order_lem}
use Rattle.table.specs.Names.{is_same}
use Rattle.tolerance.specs.code.Classes.{equal}
use Rattle.tolerance.specs.Tolerance.{Number, num, num_order}

abbrev key : Number → Literal
key m = number m.below m.size

key_path : (a b : Number) → key a ≡ key b → a ≡ b
key_path a b e =
    let p : a.below ≡ b.below = cc in
    let q : a.size ≡ b.size = cc in
    ap₂ num p q

pub num_order_lem : TotalOrder num_order
unfolding key_order
num_order_lem = record {
  reflexive = λ a. key_order_lem.reflexive (key a);
  equal = λ a b h. key_path a b (key_order_lem.equal (key a) (key b) h);
  antisymmetric = λ a b. key_order_lem.antisymmetric (key a) (key b);
  transitive = λ a b c h k. key_order_lem.transitive (key a) (key b) (key c) h k;
  total = λ a b. go a b (key_order_lem.total (key a) (key b));
}
  where
    go : (a b : Number) → (key_order (key a) (key b) ≡ less) ⊎ ((key a ≡ key b) ⊎ (key_order (key b) (key a) ≡ less)) → (num_order a b ≡ less) ⊎ ((a ≡ b) ⊎ (num_order b a ≡ less))
    go a b (inl h) = inl h
    go a b (inr (inl h)) = inr (inl (key_path a b h))
    go a b (inr (inr h)) = inr (inr h)

pub equal_swap : (a b : Number) → equal num_order a b ≡ equal num_order b a
equal_swap a b = sym (ap is_same (num_order_lem.antisymmetric a b) ∙ go (num_order a b))
  where
    go : (o : Order) → is_same (opposite o) ≡ is_same o
    go less = refl
    go same = refl
    go more = refl
