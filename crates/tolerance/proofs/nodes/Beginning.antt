-- What the arrays begin with: labels, ends of ranges, the values of known names; and the list at the end.
use Prim.Native.Nat.{ℕ, ◌+◌, ◌-◌, ◌/◌, ◌≤◌, ◌<◌}
use mathlib.Core.Path.{◌≡◌, refl, ap, ◌∙◌}
use mathlib.Core.List.{List}
use mathlib.Core.Bool.{Bool, true, false, cond}
use native.Mathlib.Omega.{arith}
use mir.Val.{Fits}
use mir.Syntax.{w32}
use borrow.Author.Tests.{eqb-true, eqb-false, leb-true, leb-false}
use lib.Dec.{eqb, leb}
use lib.ListN.{length, get_or, set, replicate, length-set, length-replicate}
use lib.Seq.{get_or-set_same, get_or-set_other}
use Rattle.scope.specs.declared.Scope.{Scope}
use Rattle.scope.specs.declared.ScopingMode.{ScopingMode}
use Rattle.planner.specs.Names.{states_of}
use Rattle.planner.proofs.buffer.Filling.{past_end}
use Rattle.planner.proofs.laws.States.{states_each}
use Rattle.value.proofs.Changing.{Changing, changing_zeros, changing_on}
use Rattle.run.specs.code.NamesPost.{ListAsks}
use Rattle.tolerance.specs.declared.number.Range.{Range as StoredRange}
use Rattle.tolerance.specs.code.Post.{label_in, OwnLabels, zero_range, first_range, FirstRanges, KnownList, ListSet}

-- 1. Labels
pub own_labels_ok : {labels : List ℕ} → length labels ≡ 513 → ((n : ℕ) → n ≤ 512 → label_in labels n ≡ n) → OwnLabels labels
own_labels_ok {labels} long own = record {
  labels_ok = record {
    long = long;
    zero = own 0 (omega arith);
    low = λ k low high. let e = own k high in omega arith;
    high = λ k. at k (leb 513 k) refl;
  };
  each = own;
}
  where
    at : (k : ℕ) (b : Bool) → leb 513 k ≡ b → label_in labels k ≤ 512
    at k true e = let l = leb-true 513 k e in let z = past_end labels k (omega arith) in omega arith
    at k false e = let l = leb-false 513 k e in let z = own k (omega arith) in omega arith

-- 2. Ranges
pub record Ranging (lows highs : List ℕ) (ranges : List StoredRange) (n : ℕ) : Type 0 where
  pub inside : n ≤ 513
  pub long : length ranges ≡ 513
  pub each : (k : ℕ) → k < n → get_or ranges k zero_range ≡ first_range lows highs k

pub ranges_start : (lows highs : List ℕ) → Ranging lows highs (replicate 513 zero_range) 0
ranges_start lows highs = record { inside = omega arith; long = length-replicate {A = StoredRange} 513 zero_range; each = λ k lt. absurd (omega arith) }

module _ {lows highs : List ℕ} {ranges : List StoredRange} {n : ℕ} (go : Ranging lows highs ranges n) where
  pub ranges_node : n < 513 → Fits w32 n
  ranges_node lt = record { fits = omega arith }

  pub ranges_on : n < 513 → {r : StoredRange} → r ≡ first_range lows highs n → Ranging lows highs (set ranges n r) (n + 1)
  ranges_on lt {r} e = record { inside = omega arith; long = length-set ranges n r ∙ go.long; each = λ j l. at j l (eqb j n) refl }
    where
      at : (j : ℕ) → j < n + 1 → (b : Bool) → eqb j n ≡ b → get_or (set ranges n r) j zero_range ≡ first_range lows highs j
      at j l true q = let z = eqb-true j n q in let long = go.long in rw z (get_or-set_same ranges n r zero_range (omega arith) ∙ e)
      at j l false q = let d = eqb-false j n q in get_or-set_other ranges n j r zero_range d ∙ go.each j (omega (arith, d))

  pub ranges_end : 513 ≤ n → FirstRanges lows highs ranges
  ranges_end le = record { long = go.long; each = λ k high. go.each k (omega arith) }

-- 3. The known names' values
pub record Knowing (names values states : List ℕ) (count i : ℕ) (list : List ℕ) : Type 0 where
  pub asks : ListAsks names values
  pub counted : count ≡ length names / 2
  pub inside : i ≤ count
  pub going : Changing (λ k. cond (eqb (get_or states k 0) 0) (get_or values k 0) 0) (λ k. 0) 128 i list

pub knowing : {names values : List ℕ} (states : List ℕ) {count : ℕ} → ListAsks names values → count ≡ length names / 2 → Knowing names values states count 0 (replicate 128 0)
knowing {names} {values} states a is = record { asks = a; counted = is; inside = omega arith; going = changing_zeros (λ k. cond (eqb (get_or states k 0) 0) (get_or values k 0) 0) 128 }

module _ {names values states : List ℕ} {count i : ℕ} {list : List ℕ} (go : Knowing names values states count i list) where
  module _ (more : i < count) where
    pub knowing_small : i < 128
    knowing_small = let few = go.asks.few in let e = go.counted in omega arith

    pub knowing_listed : i < length values
    knowing_listed = let l = go.asks.long in let e = go.counted in omega arith

    pub knowing_on : {v : ℕ} → v ≡ cond (eqb (get_or states i 0) 0) (get_or values i 0) 0 → Knowing names values states count (i + 1) (set list i v)
    knowing_on e = record { asks = go.asks; counted = go.counted; inside = omega arith; going = changing_on go.going knowing_small e }

  pub knowing_ends : count ≤ i → (text : List ℕ) (s : Scope) (mode : ScopingMode) → states ≡ states_of names text s mode → KnownList names text s mode values list
  knowing_ends le text s mode stated = record {
    long = go.going.long;
    each = λ x low high.
        let c = go.counted in
        go.going.each (x - 1) (omega arith) ∙ ap (λ (m : ℕ). cond (eqb m 0) (get_or values (x - 1) 0) 0) (states_each names text s mode stated go.asks.few x low high);
    rest = λ k h. let c = go.counted in let n = go.inside in go.going.rest k (omega arith);
  }

-- 4. The list at the end
pub record Setting (names list before : List ℕ) (count i : ℕ) (here : List ℕ) : Type 0 where
  pub asks : ListAsks names before
  pub counted : count ≡ length names / 2
  pub inside : i ≤ count
  pub going : Changing (λ k. cond (eqb (get_or list k 0) 0) (get_or before k 0) (get_or list k 0)) (λ k. get_or before k 0) (length before) i here

pub setting_start : {names : List ℕ} (list : List ℕ) {before : List ℕ} {count : ℕ} → ListAsks names before → count ≡ length names / 2 → Setting names list before count 0 before
setting_start list a is = record { asks = a; counted = is; inside = omega arith; going = record { long = refl; each = λ k lt. absurd (omega arith); rest = λ k le. refl } }

module _ {names list before : List ℕ} {count i : ℕ} {here : List ℕ} (go : Setting names list before count i here) where
  module _ (more : i < count) where
    pub setting_small : i < 128
    setting_small = let few = go.asks.few in let e = go.counted in omega arith

    pub setting_inside : i < length here
    setting_inside = let l = go.asks.long in let e = go.counted in let long = go.going.long in omega arith

    pub setting_on : {v : ℕ} → v ≡ cond (eqb (get_or list i 0) 0) (get_or here i 0) (get_or list i 0) → Setting names list before count (i + 1) (set here i v)
    setting_on e =
        let l = go.asks.long in
        let c = go.counted in
        let old = go.going.rest i (omega arith) in
        record { asks = go.asks; counted = go.counted; inside = omega arith; going = changing_on go.going (omega arith) (rw old at e) }

  pub setting_long : length here ≡ length before
  setting_long = go.going.long

  pub setting_ends : count ≤ i → ListSet (length names / 2) list before here
  setting_ends le = record {
    long = go.going.long;
    each = λ k lt. let c = go.counted in go.going.each k (omega arith);
    rest = λ k h. let c = go.counted in let n = go.inside in go.going.rest k (omega arith);
  }
