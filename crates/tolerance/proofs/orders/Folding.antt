-- What code may do instead: equality after equality as they are met, and never as soon as a class has no number left.
use Prim.Native.Nat.{ℕ}
use mathlib.Core.Bool.{Bool, true, false, cond, ◌&&◌, false≢true}
use mathlib.Core.List.{List, [], ◌∷◌, ◌++◌}
use mathlib.Core.Option.{Option, none, some}
use mathlib.Core.Path.{◌≡◌, refl, sym, ap, ◌∙◌}
use Rattle.literal.specs.Order.{Order}
use Rattle.value.proofs.Keys.{true_is}
use Rattle.tolerance.specs.code.Classes.{Equality, certain, all_certain, Classes, joined, node_of, open?, unified, apart, is_some}
use Rattle.tolerance.specs.Tolerance.{Ranges}
use Rattle.tolerance.specs.Tolerance.{Number, num_order, is_allowed, always, sometimes, never}
use Rattle.tolerance.specs.code.Decision.{decided}
use Rattle.tolerance.proofs.orders.Numbers.{num_order_lem}
use Rattle.tolerance.proofs.orders.Unify.{AllCount, Good, Starts, starts_apart, no_choice, same_verdict}
use Rattle.tolerance.proofs.orders.Certain.{all_met, lowest_within}

module _ {N : Type 0} (order : N → N → Order) where
  abbrev pub go_on : Option (Classes order) → (Classes order → Option (Classes order)) → Option (Classes order)
  go_on none f = none
  go_on (some s) f = f s

  pub unified_append : (ps qs : List (Equality N)) (s : Classes order) → unified order (ps ++ qs) s ≡ go_on (unified order ps s) (λ t. unified order qs t)
  unfolding unified
  unified_append [] qs s = refl
  unified_append (p ∷ ps) qs s = go (open? order (node_of order p) (joined order p s)) (unified_append ps qs (joined order p s))
    where
      go : (b : Bool) → unified order (ps ++ qs) (joined order p s) ≡ go_on (unified order ps (joined order p s)) (λ t. unified order qs t)
          → cond b (unified order (ps ++ qs) (joined order p s)) none ≡ go_on (cond b (unified order ps (joined order p s)) none) (λ t. unified order qs t)
      go true e = e
      go false e = refl

  pub certain_append : (r : Ranges N) (ps qs : List (Equality N)) → all_certain order r (ps ++ qs) ≡ (all_certain order r ps && all_certain order r qs)
  unfolding all_certain
  certain_append r [] qs = refl
  certain_append r (p ∷ ps) qs = ap (λ (b : Bool). certain order r p && b) (certain_append r ps qs) ∙ assoc (certain order r p) (all_certain order r ps) (all_certain order r qs)
    where
      assoc : (x y z : Bool) → (x && (y && z)) ≡ ((x && y) && z)
      assoc true y z = refl
      assoc false y z = refl

-- The decision, by classes that start from any labels of their own: never where a class has no number left, else always or sometimes.
pub by_classes_first : (K : ℕ → Type 0) (r : Ranges Number) (s : Classes num_order) → Starts num_order_lem K is_allowed r s → Good num_order_lem K is_allowed r → (qs : List (Equality Number)) → AllCount num_order_lem K is_allowed qs
    → decided r qs ≡ cond (is_some (unified num_order qs s)) (cond (all_certain num_order r qs) always sometimes) never
unfolding decided
by_classes_first K r s start g qs k = go (all_certain num_order r qs) refl (unified num_order qs (apart num_order r)) refl (is_some (unified num_order qs s)) (same_verdict num_order_lem K is_allowed r (apart num_order r) s (starts_apart num_order_lem K is_allowed r) start g qs k)
  where
    go : (b : Bool) → all_certain num_order r qs ≡ b → (o : Option (Classes num_order)) → unified num_order qs (apart num_order r) ≡ o → (d : Bool) → is_some (unified num_order qs (apart num_order r)) ≡ d
        → cond b always (cond (is_some (unified num_order qs (apart num_order r))) sometimes never) ≡ cond d (cond b always sometimes) never
    go true e none u d v =
        let h = all_met num_order_lem K is_allowed r r.lowest (lowest_within num_order_lem K is_allowed r g) qs k (true_is e) in
        absurd (no_choice num_order_lem K is_allowed r (apart num_order r) (starts_apart num_order_lem K is_allowed r) qs k u r.lowest (lowest_within num_order_lem K is_allowed r g) h)
    go true e (some t) u true v = refl
    go true e (some t) u false v = absurd (false≢true (sym v ∙ ap is_some u))
    go false e o u true v = ap (λ (x : Bool). cond x sometimes never) v
    go false e o u false v = ap (λ (x : Bool). cond x sometimes never) v
