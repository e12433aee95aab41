-- The decision from the arrays: ranges of 512 nodes, each in a class of its own at the start; equalities joined; one look at each node.
use Prim.Native.Nat.{ℕ, ◌+◌, ◌-◌, ◌≤◌}
use mathlib.Core.Bool.{Bool, true, false, cond, ◌&&◌, ◌||◌}
use mathlib.Core.List.{List, [], ◌∷◌}
use mathlib.Core.Option.{Option, none, some}
use mathlib.Core.Path.{◌≡◌, refl, sym, ap, ap₂, ◌∙◌}
use native.Mathlib.Omega.{arith}
use lib.Dec.{T, eqb}
use Rattle.base.specs.Lists.{all_from}
use Rattle.table.proofs.tests.Scan.{all_at, all_of}
use Rattle.value.proofs.Keys.{is_true, true_is}
use Rattle.tolerance.specs.code.Classes.{Equality, alike, equals, equal, single, certain, all_certain, free, Classes, unified, apart, is_some}
use Rattle.tolerance.specs.Tolerance.{Ranges}
use Rattle.tolerance.specs.Tolerance.{Number, num_order, is_allowed, always, sometimes, never}
use Rattle.tolerance.specs.code.Decision.{decided}
use Rattle.tolerance.specs.declared.number.Range.{Range as StoredRange}
use Rattle.tolerance.specs.code.Post.{label_in, classes_in, ranges_by}
use Rattle.tolerance.proofs.orders.Numbers.{num_order_lem}
use Rattle.tolerance.proofs.orders.Unify.{Counts, AllCount, Good, Starts, starts_apart, same_verdict}
use Rattle.tolerance.proofs.orders.Folding.{by_classes_first}
use Rattle.tolerance.proofs.orders.Free.{Own, free_certain, certain_free}

-- 1. Ranges that agree on the nodes that count give the same answer.
module _ (K : ℕ → Type 0) (r r' : Ranges Number) (low : (n : ℕ) → K n → r.lowest n ≡ r'.lowest n) (high : (n : ℕ) → K n → r.highest n ≡ r'.highest n) where
  single_as : (n : ℕ) → K n → single num_order r n ≡ single num_order r' n
  single_as n k = ap₂ (equal num_order) (low n k) (high n k)

  certain_as : (q : Equality Number) → Counts num_order_lem K is_allowed q → certain num_order r q ≡ certain num_order r' q
  unfolding certain
  certain_as (alike n m) (k, j) = ap₂ (λ (a b : Bool). eqb n m || (a && b)) (single_as n k) (ap₂ ◌&&◌ (single_as m j) (ap₂ (equal num_order) (low n k) (low m j)))
  certain_as (equals n m) (k, j) = ap₂ ◌&&◌ (single_as n k) (ap (λ (x : Number). equal num_order x m) (low n k))

  all_certain_as : (qs : List (Equality Number)) → AllCount num_order_lem K is_allowed qs → all_certain num_order r qs ≡ all_certain num_order r' qs
  unfolding all_certain
  all_certain_as [] k = refl
  all_certain_as (q ∷ qs) (k, ks) = ap₂ ◌&&◌ (certain_as q k) (all_certain_as qs ks)

  pub decided_as : Good num_order_lem K is_allowed r → (qs : List (Equality Number)) → AllCount num_order_lem K is_allowed qs → decided r qs ≡ decided r' qs
  unfolding decided
  decided_as g qs k = ap₂ (λ (a b : Bool). cond a always (cond b sometimes never)) (all_certain_as qs k)
      (same_verdict num_order_lem K is_allowed r (apart num_order r) (apart num_order r') (starts_apart num_order_lem K is_allowed r) (record { low = λ n j. sym (low n j); high = λ n j. sym (high n j); differ = λ n m j i e. e }) g qs k)

-- 2. Of 512 nodes
pub record In512 (n : ℕ) : Type 0 where
  pub low : 1 ≤ n
  pub high : n ≤ 512

module _ (labels : List ℕ) (ranges : List StoredRange) (each : (n : ℕ) → n ≤ 512 → label_in labels n ≡ n) (good : Good num_order_lem In512 is_allowed (ranges_by ranges)) (qs : List (Equality Number)) (count : AllCount num_order_lem In512 is_allowed qs) where
  abbrev r : Ranges Number
  r = ranges_by ranges

  abbrev first : Classes num_order
  first = classes_in (labels, ranges)

  starts : Starts num_order_lem In512 is_allowed r first
  starts = record {
    low = λ n k. ap r.lowest (each n k.high);
    high = λ n k. ap r.highest (each n k.high);
    differ = λ n m k j e. sym (each n k.high) ∙ (e ∙ each m j.high);
  }

  own : Own num_order_lem In512 is_allowed first
  own = record { node = λ n k. let e = each n k.high in rw e k; self = λ n k. ap (label_in labels) (each n k.high) }

  module _ (s : Classes num_order) (e : unified num_order qs first ≡ some s) where
    both_ways : (a b : Bool) → (a ≡ true → b ≡ true) → (b ≡ true → a ≡ true) → a ≡ b
    both_ways true b f g = sym (f refl)
    both_ways false true f g = g refl
    both_ways false false f g = refl

    -- what `all_free` says
    looked : all_from (free num_order r s) 1 512 ≡ all_certain num_order r qs
    looked = both_ways (all_from (free num_order r s) 1 512) (all_certain num_order r qs)
        (λ t. free_certain num_order_lem In512 is_allowed r good qs count first s starts own e (λ n k. at t n k))
        (λ t. all_of (free num_order r s) 1 512 (λ j lt. is_true (certain_free num_order_lem In512 is_allowed r good qs count first s starts own e t (1 + j) (record { low = omega arith; high = omega arith }))))
      where
        at : all_from (free num_order r s) 1 512 ≡ true → (n : ℕ) → In512 n → T (free num_order r s n)
        at t n k =
            let l = k.low in
            let h = k.high in
            let z : 1 + (n - 1) ≡ n = omega arith in
            true_is (ap (free num_order r s) (sym z) ∙ all_at (free num_order r s) 1 512 t (n - 1) (omega arith))

    pub left_decided : cond (all_from (free num_order r s) 1 512) always sometimes ≡ decided r qs
    left_decided = ap (λ (b : Bool). cond b always sometimes) looked ∙ sym (by_classes_first In512 r first starts good qs count ∙ ap (λ (o : Option (Classes num_order)). cond (is_some o) (cond (all_certain num_order r qs) always sometimes) never) e)

  pub shut_decided : unified num_order qs first ≡ none → never ≡ decided r qs
  shut_decided e = sym (by_classes_first In512 r first starts good qs count ∙ ap (λ (o : Option (Classes num_order)). cond (is_some o) (cond (all_certain num_order r qs) always sometimes) never) e)
