-- The classes of two roots: each place its own class, the roots joined, and what that forces.
use Prim.Native.Nat.{ℕ}
use mathlib.Core.Bool.{Bool, true, false}
use mathlib.Core.List.{List}
use mathlib.Core.Path.{◌≡◌, refl, ap, ◌∙◌, fun_ext}
use native.Mathlib.Omega.{arith}
use borrow.Author.Tests.{ltb-true, ltb-false}
use lib.Dec.{eqb, ltb}
use lib.ListN.{get_or-eq_default}
use Rattle.base.specs.Lists.{tabulate}
use Rattle.base.proofs.Filling.{length_tabulate, get_d_tabulate}
use Rattle.common_example.specs.Unify.{join_pair, close}
use Rattle.common_example.specs.code.Graph.{head_at}
use Rattle.common_example.specs.code.Classes.{class_in, ClassesOk, PairAsks, PairJoined, RoundAsks, CloseDone, classes_of, falling}
use Rattle.common_example.specs.code.Roots.{UnifyAsks, Unified}
use Rattle.common_example.proofs.loops.classes.ClassLoop.{own_default}

abbrev own : List ℕ
own = tabulate (λ i. i) 0 2052

own_ok : ClassesOk own
own_ok = record {
  long = length_tabulate (λ i. i) 0 2052;
  each = λ i h. let e = get_d_tabulate (λ i. i) 0 2052 i h in omega (arith, e, h);
}

own_class : class_in own ≡ λ p. p
own_class = fun_ext (λ i. at i (ltb i 2052) refl)
  where
    at : (i : ℕ) (b : Bool) → ltb i 2052 ≡ b → class_in own i ≡ i
    at i true e =
        let h = ltb-true i 2052 e in
        let l = length_tabulate (λ i. i) 0 2052 in
        let q = get_d_tabulate (λ i. i) 0 2052 i h in
        own_default own i i (omega arith) ∙ omega (arith, q)
    at i false e =
        let h = ltb-false i 2052 e in
        let l = length_tabulate (λ i. i) 0 2052 in
        get_or-eq_default own i (omega arith)

module _ {heads links : List ℕ} {a b : ℕ} (asks : UnifyAsks heads links a b) {start : List ℕ} (s : start ≡ tabulate (λ i. i) 0 2052) where
  pub roots_pair : PairAsks heads start a b
  roots_pair = record { kinds = asks.linked.kinds; first = asks.first; second = asks.second; ok = rw s own_ok }

  module _ {mid : List ℕ} (j : PairJoined heads start a b mid) where
    pub roots_close : RoundAsks heads links mid
    roots_close = record { linked = asks.linked; ok = j.ok }

    pub roots_unified : {after : List ℕ} {r : Bool} → CloseDone heads links mid after r → Unified heads links a b after r
    roots_unified d = record {
      classes = λ literal_of told.
          let e : class_in mid ≡ join_pair eqb (head_at literal_of heads links) a b (λ p. p) = j.classes literal_of links ∙ ap (join_pair eqb (head_at literal_of heads links) a b) (ap class_in s ∙ own_class) in
          d.classes literal_of told ∙ ap (λ c. classes_of (close eqb (head_at literal_of heads links) (falling 2048) 2049 c)) e;
      ok = d.ok;
    }
