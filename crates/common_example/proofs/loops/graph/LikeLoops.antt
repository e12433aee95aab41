-- The pass over the nodes that finds the lowest of equal literals, and that it is the definition's.
use Prim.Native.Nat.{ℕ, zero, suc, ◌+◌, ◌-◌, ◌/◌, ◌≤◌, ◌<◌}
use mathlib.Core.Bool.{Bool, true, false, cond}
use mathlib.Core.List.{List}
use mathlib.Core.Option.{Option, none, some}
use mathlib.Core.Path.{◌≡◌, refl, ap, sym, subst, ◌∙◌}
use native.Mathlib.Omega.{arith}
use borrow.Author.Tests.{lt-ltb, le-ltb, ltb-true, ltb-false}
use lib.Dec.{ltb}
use lib.ListN.{length, get_or, set, replicate}
use lib.Seq.{get_or-set_other, ext_get_or}
use Rattle.literal.specs.Literal.{Literal}
use Rattle.table.specs.Tables.{Tables}
use Rattle.table.specs.Decode.{literal_at}
use Rattle.planner.specs.Simple.{same_key}
use Rattle.base.specs.Lists.{tabulate}
use Rattle.base.proofs.Filling.{Filling, filling_start, filling_on, length_tabulate, get_d_tabulate}
use Rattle.value.specs.code.Post.{same_literals}
use Rattle.common_example.proofs.loops.sizes.SizeLoops.{zero_at}
use Rattle.common_example.specs.Operations.{is_like, node_like}
use Rattle.common_example.specs.code.arrays.Likes.{like_from, like_in, like_at, likes, LikesAsks}
use Rattle.common_example.specs.code.arrays.Distinct.{Distinct, AddAsks, NodeAdded}
use Rattle.common_example.proofs.arrays.LikeLaws.{none_like, like_kept, like_found}

-- 1. an array of 512 that is filled up to a count, and 0 from there on
pub record FilledTo (f : ℕ → ℕ) (count i : ℕ) (here : List ℕ) : Type 0 where
  pub few : count ≤ 512
  pub inside : i ≤ count
  pub filled : Filling (λ k. cond (ltb k count) (f k) 0) 512 i here
  pub rest : (k : ℕ) → i ≤ k → get_or here k 0 ≡ 0

pub filled_start : (f : ℕ → ℕ) (count : ℕ) → count ≤ 512 → FilledTo f count 0 (replicate 512 0)
filled_start f count few = record { few = few; inside = omega arith; filled = filling_start (λ k. cond (ltb k count) (f k) 0) 512; rest = λ k h. zero_at 512 k }

module _ {f : ℕ → ℕ} {count i : ℕ} {here : List ℕ} (go : FilledTo f count i here) where
  pub filled_place : i < count → i < 512
  filled_place lt = let h = go.few in omega arith

  pub filled_on : i < count → {v : ℕ} → v ≡ f i → FilledTo f count (i + 1) (set here i v)
  filled_on lt {v} e =
      let h = go.few in
      let q = lt-ltb i count lt in
      record {
        few = h;
        inside = omega arith;
        filled = filling_on {count = count} go.filled lt h (e ∙ sym (rw q));
        rest = λ k below. get_or-set_other here i k v 0 (later k below) ∙ go.rest k (omega arith);
      }
    where
      later : (k : ℕ) → i + 1 ≤ k → k ≡ i → ⊥
      later k h e = omega arith

  pub filled_ends : count ≤ i → here ≡ tabulate (λ k. cond (ltb k count) (f k) 0) 0 512
  filled_ends done =
      let l = go.filled.long in
      ext_get_or 0 here (tabulate (λ k. cond (ltb k count) (f k) 0) 0 512) (l ∙ sym (length_tabulate (λ k. cond (ltb k count) (f k) 0) 0 512)) (λ k h.
      let z : 0 + k ≡ k = omega arith in
      at k (ltb k i) refl ∙ sym (get_d_tabulate (λ k. cond (ltb k count) (f k) 0) 0 512 k (omega (arith, l, h)) ∙ ap (λ (k : ℕ). cond (ltb k count) (f k) 0) z))
    where
      at : (k : ℕ) (b : Bool) → ltb k i ≡ b → get_or here k 0 ≡ cond (ltb k count) (f k) 0
      at k true e = go.filled.each k (ltb-true k i e)
      at k false e =
          let h = ltb-false k i e in
          let n = go.inside in
          let q : ltb k count ≡ false = le-ltb k count (omega arith) in
          go.rest k (omega arith) ∙ sym (rw q)

-- 2. all nodes

-- the lowest node up to a node itself is the lowest of all
like_in_lem : (literals : ℕ → Option Literal) (count n : ℕ) → 1 ≤ n → n ≤ count → like_from literals (literals n) 1 n ≡ like_in literals count n
like_in_lem literals count n low high = go (literals n) refl
  where
    go : (o : Option Literal) → literals n ≡ o → like_from literals o 1 n ≡ like_from literals o 1 count
    go none e = none_like literals 1 n ∙ sym (none_like literals 1 count)
    go (some l) e =
        let r : n + (count - n) ≡ count = omega arith in
        let f = rw e at (like_found literals n low (omega arith) e) in
        let k = like_kept literals (some l) 1 n (count - n) f.low refl in
        sym (rw r at k)

none_yet : (literals : ℕ → Option Literal) (order : List ℕ) → Distinct literals 0 order 0
unfolding like_from
none_yet literals order = record {
  few = omega arith;
  ascending = λ p q lt to. absurd (omega arith);
  node = λ q lt. absurd (omega arith);
  lowest = λ q lt. absurd (omega arith);
  all = λ l h. refl;
}

pub record Liking (literals : ℕ → Option Literal) (nodes : List ℕ) (count i : ℕ) (here order : List ℕ) (m : ℕ) : Type 0 where
  pub asks : LikesAsks nodes
  pub counted : count ≡ length nodes / 5
  pub filled : FilledTo (λ k. like_in literals count (k + 1)) count i here
  pub distinct : Distinct literals i order m

pub liking_start : (literals : ℕ → Option Literal) (nodes order : List ℕ) {count : ℕ} → LikesAsks nodes → count ≡ length nodes / 5 → Liking literals nodes count 0 (replicate 512 0) order 0
liking_start literals nodes order {count} a e =
    let f = a.few in
    record { asks = a; counted = e; filled = filled_start (λ k. like_in literals count (k + 1)) count (omega (arith, f, e)); distinct = none_yet literals order }

module _ {literals : ℕ → Option Literal} {nodes : List ℕ} {count i : ℕ} {here order : List ℕ} {m : ℕ} (go : Liking literals nodes count i here order m) where
  pub liking_place : i < count → i < 512
  liking_place lt = filled_place go.filled lt

  pub liking_add : i < count → AddAsks literals (i + 1) order m
  liking_add lt =
      let p = liking_place lt in
      let e : i ≡ i + 1 - 1 = omega arith in
      record { first = omega arith; last = omega arith; distinct = subst (λ (n : ℕ). Distinct literals n order m) e go.distinct }

  pub liking_on : i < count → {later : List ℕ} {m' v : ℕ} → NodeAdded literals (i + 1) later m' v → Liking literals nodes count (i + 1) (set here i v) later m'
  liking_on lt a = record {
    asks = go.asks;
    counted = go.counted;
    filled = filled_on go.filled lt (a.lowest ∙ like_in_lem literals count (i + 1) (omega arith) (omega arith));
    distinct = a.distinct;
  }

  pub liking_ends : count ≤ i → here ≡ likes literals (length nodes / 5)
  unfolding likes
  liking_ends done = filled_ends go.filled done ∙ ap (λ (n : ℕ). tabulate (like_at literals n) 0 512) go.counted

-- 3. what is found is the definition's node, and 0 where that has none
abbrev pub node_or : Option ℕ → ℕ
node_or none = 0
node_or (some n) = n

pub like_is : (T : Tables) (l : Literal) (n k : ℕ) → like_from (literal_at T) (some l) n k ≡ node_or (node_like T l n k)
unfolding like_from node_like
like_is T l n zero = refl
like_is T l n (suc k) = go (literal_at T n) (like_is T l (n + 1) k)
  where
    pick : (b : Bool) → like_from (literal_at T) (some l) (n + 1) k ≡ node_or (node_like T l (n + 1) k) → cond b n (like_from (literal_at T) (some l) (n + 1) k) ≡ node_or (cond b (some n) (node_like T l (n + 1) k))
    pick true e = refl
    pick false e = e

    go : (o : Option Literal) → like_from (literal_at T) (some l) (n + 1) k ≡ node_or (node_like T l (n + 1) k) → cond (same_literals (some l) o) n (like_from (literal_at T) (some l) (n + 1) k) ≡ node_or (cond (is_like T l o) (some n) (node_like T l (n + 1) k))
    go none e = e
    go (some m) e = pick (same_key l m) e
