-- The loops that find how large values are.
use Prim.Native.Nat.{ℕ, zero, suc, ◌+◌, ◌-◌, ◌*◌, ◌^◌, ◌≤◌, ◌<◌, min}
use mathlib.Core.Bool.{Bool, true, false, cond}
use mathlib.Core.List.{List}
use mathlib.Core.Path.{◌≡◌, refl, ap, sym, ◌∙◌}
use native.Mathlib.Omega.{arith}
use borrow.Author.Tests.{eq-eqb, ne_eqb, eqb-false, le-leb, lt-leb, leb-false, ltb-true, ltb-false}
use mir.Syntax.{w16, w32}
use mir.Val.{Fits}
use lib.Dec.{eqb, leb, ltb}
use lib.ListN.{get_or, set, replicate, length-replicate, get_or-eq_default}
use Rattle.std.specs.Prelude.{Option}
use Rattle.std.proofs.Common.{Some, None}
use Rattle.base.proofs.Filling.{Filling, filling_start, filling_on, filling_ends, get_d_tabulate, length_tabulate}
use Rattle.common_example.specs.declared.graph.Shape.{Shape}
use Rattle.common_example.specs.declared.graph.Shape.TheVariants.{Items, Fields}
use Rattle.common_example.specs.declared.graph.Parts.{Parts}
use Rattle.common_example.specs.code.Graph.{kind_at, start_at, count_at, Linked, shape_kind, link_by, step_of, ShapeAsks, PartsOf, PartsAre}
use Rattle.common_example.specs.code.Classes.{class_in, ClassAsks, ClassIs}
use Rattle.common_example.specs.code.Sizes.{SizesOk, CapAsks, sum_at, SumAsks, place_size, SizeAsks, LevelAsks, level_size, next_sizes, LevelDone, sizes_after, SettleAsks, Settled}
use Rattle.common_example.proofs.loops.graph.PartsTold.{shape_deep, items_step, fields_step, no_parts, some_parts}

cap_most : (n : ℕ) → min 513 n ≤ 513
cap_most n = omega arith

-- 1. a sum
pub record Summing (links sizes : List ℕ) (step at₀ k₀ total₀ at left total : ℕ) : Type 0 where
  pub asks : SumAsks links sizes step at left total
  pub same : sum_at links sizes step at left total ≡ sum_at links sizes step at₀ k₀ total₀

pub summing_start : (links sizes : List ℕ) (step at k total : ℕ) → SumAsks links sizes step at k total → Summing links sizes step at k total at k total
summing_start links sizes step at k total asks = record { asks = asks; same = refl }

sum_step : (links sizes : List ℕ) (step at left total : ℕ) → 0 < left
    → sum_at links sizes step at left total ≡ cond (eqb (get_or sizes (get_or links at 0) 0) 0) 0 (sum_at links sizes step (at + step) (left - 1) (min 513 (total + get_or sizes (get_or links at 0) 0)))
unfolding sum_at
sum_step links sizes step at left total more = let a : left ≡ suc (left - 1) = omega arith in ap (λ (k : ℕ). sum_at links sizes step at k total) a

scaled : (left step : ℕ) → 0 < left → left * step ≡ step + (left - 1) * step
scaled left step more = let a : left ≡ suc (left - 1) = omega arith in ap (λ (k : ℕ). k * step) a ∙ one_more (left - 1) step
  where
    one_more : (k s : ℕ) → suc k * s ≡ s + k * s
    one_more k s = omega arith

module _ {links sizes : List ℕ} {step at₀ k₀ total₀ at left total : ℕ} (go : Summing links sizes step at₀ k₀ total₀ at left total) where
  module _ (more : 0 < left) where
    pub link_low : at < 2048
    link_low = let h = go.asks.inside in let e = scaled left step more in omega (arith, h, e)

    pub size_low : get_or links at 0 < 2052
    size_low = go.asks.places at

    pub link_fits : {apart : ℕ} → apart ≡ step → at + apart < 2 ^ 64
    link_fits e = let h = link_low in let s = go.asks.short in omega (arith, h, s, e)

    module _ {size : ℕ} (is : size ≡ get_or sizes (get_or links at 0) 0) where
      pub summed : CapAsks total size
      summed = record { first = go.asks.few; second = rw is (go.asks.sizes_ok.few (get_or links at 0)) }

      pub summing_none : size ≡ 0 → 0 ≡ sum_at links sizes step at₀ k₀ total₀
      summing_none z = let e = eq-eqb (get_or sizes (get_or links at 0) 0) 0 (sym is ∙ z) in sym (sum_step links sizes step at left total more ∙ rw e) ∙ go.same

      pub summing_on : (size ≡ 0 → ⊥) → {r apart : ℕ} → r ≡ min 513 (total + size) → apart ≡ step → Summing links sizes step at₀ k₀ total₀ (at + apart) (left - 1) r
      summing_on n {r} {apart} c₀ i =
          let c : r ≡ min 513 (total + get_or sizes (get_or links at 0) 0) = c₀ ∙ ap (λ (x : ℕ). min 513 (total + x)) is in
          let h = go.asks.inside in
          let e = scaled left step more in
          let m = cap_most (total + get_or sizes (get_or links at 0) 0) in
          let q = ne_eqb (get_or sizes (get_or links at 0) 0) 0 (λ z. n (is ∙ z)) in
          rw i (record {
            asks = record { places = go.asks.places; inside = omega (arith, h, e); short = go.asks.short; sizes_ok = go.asks.sizes_ok; few = rw c m };
            same = ap (sum_at links sizes step (at + step) (left - 1)) c ∙ (sym (sum_step links sizes step at left total more ∙ rw q) ∙ go.same);
          })

  pub summing_ends : left ≤ 0 → total ≡ sum_at links sizes step at₀ k₀ total₀
  unfolding sum_at
  summing_ends no_more = let z : left ≡ 0 = omega arith in rw z at go.same

-- 2. a place
module _ {heads links sizes : List ℕ} {q : ℕ} (asks : SizeAsks heads links sizes q) where
  pub size_asks : ShapeAsks heads links q
  size_asks = record { linked = asks.linked; inside = asks.inside }

  module _ {r : Option Parts} (told : PartsAre heads q r) where
    pub leaf_size : r ≡ None → 1 ≡ place_size heads links sizes q
    unfolding place_size
    leaf_size n = let e = le-leb (kind_at heads q) 1 (no_parts heads q told n) in rw e

  module _ {r : Option Parts} (told : PartsAre heads q r) {parts : Parts} (is_some : r ≡ Some parts) where
    of : PartsOf heads q parts
    of = some_parts heads q told is_some

    parts_size : leb (kind_at heads q) 1 ≡ false
    parts_size = let k = of.kind in let d = shape_deep parts.shape in lt-leb (kind_at heads q) 1 (omega (arith, k, d))

    module _ (e : parts.shape ≡ Items) where
      array_kind : kind_at heads q ≡ 2
      array_kind = of.kind ∙ ap (λ (s : Shape). shape_kind s) e

      array_link : parts.link ≡ start_at heads q
      array_link = of.link ∙ ap (λ (s : Shape). link_by (shape_kind s) (start_at heads q)) e

      pub array_asks : SumAsks links sizes (step_of parts.shape) parts.link parts.count 1
      array_asks =
          let h = asks.linked.arrays q array_kind in
          let s = array_link in
          let c = of.count in
          let z = items_step e in
          rw z (record { places = asks.linked.places; inside = omega (arith, h, s, c); short = omega arith; sizes_ok = asks.sizes_ok; few = omega arith })

      pub array_size : {r : ℕ} → r ≡ sum_at links sizes (step_of parts.shape) parts.link parts.count 1 → r ≡ place_size heads links sizes q
      unfolding place_size
      array_size {r} is =
          let p = parts_size in
          let t = eq-eqb (kind_at heads q) 2 array_kind in
          rw (p, t) (is
          ∙ (ap (λ (n : ℕ). sum_at links sizes n parts.link parts.count 1) (items_step e)
          ∙ (ap (λ (n : ℕ). sum_at links sizes 4 n parts.count 1) array_link ∙ ap (λ (n : ℕ). sum_at links sizes 4 (start_at heads q) n 1) of.count)))

    module _ (e : parts.shape ≡ Fields) where
      object_kind : kind_at heads q ≡ 3
      object_kind = of.kind ∙ ap (λ (s : Shape). shape_kind s) e

      object_link : parts.link ≡ start_at heads q + 4
      object_link = of.link ∙ ap (λ (s : Shape). link_by (shape_kind s) (start_at heads q)) e

      pub object_few : 1 + parts.count ≤ 513
      object_few = let h = asks.linked.objects q object_kind in let c = of.count in omega (arith, h, c)

      pub object_fits : Fits w32 (1 + parts.count)
      object_fits = let h = object_few in record { fits = omega arith }

      pub object_asks : SumAsks links sizes (step_of parts.shape) parts.link parts.count (1 + parts.count)
      object_asks =
          let h = asks.linked.objects q object_kind in
          let s = object_link in
          let c = of.count in
          let z = fields_step e in
          rw z (record { places = asks.linked.places; inside = omega (arith, h, s, c); short = omega arith; sizes_ok = asks.sizes_ok; few = object_few })

      pub object_size : {r : ℕ} → r ≡ sum_at links sizes (step_of parts.shape) parts.link parts.count (1 + parts.count) → r ≡ place_size heads links sizes q
      unfolding place_size
      object_size {r} is =
          let p = parts_size in
          let k = object_kind in
          let t = ne_eqb (kind_at heads q) 2 (λ z. omega (arith, z, k)) in
          rw (p, t) (is
          ∙ (ap (λ (n : ℕ). sum_at links sizes n parts.link parts.count (1 + parts.count)) (fields_step e)
          ∙ (ap (λ (n : ℕ). sum_at links sizes 8 n parts.count (1 + parts.count)) object_link ∙ ap (λ (n : ℕ). sum_at links sizes 8 (start_at heads q + 4) n (1 + n)) of.count)))

-- sizes stay within the cap
sum_most : (links sizes : List ℕ) (step at k total : ℕ) → total ≤ 513 → sum_at links sizes step at k total ≤ 513
unfolding sum_at
sum_most links sizes step at zero total h = h
sum_most links sizes step at (suc k) total h = go (eqb (get_or sizes (get_or links at 0) 0) 0) (sum_most links sizes step (at + step) k (min 513 (total + get_or sizes (get_or links at 0) 0)) (cap_most (total + get_or sizes (get_or links at 0) 0)))
  where
    go : (b : Bool) → sum_at links sizes step (at + step) k (min 513 (total + get_or sizes (get_or links at 0) 0)) ≤ 513 → cond b 0 (sum_at links sizes step (at + step) k (min 513 (total + get_or sizes (get_or links at 0) 0))) ≤ 513
    go true i = omega arith
    go false i = i

-- 3. a level
pub record Levelling (heads links classes sizes : List ℕ) (i : ℕ) (next : List ℕ) : Type 0 where
  pub asks : LevelAsks heads links classes sizes
  pub filled : Filling (level_size heads links classes sizes) 2052 i next

pub levelling_start : (heads links classes sizes : List ℕ) → LevelAsks heads links classes sizes → Levelling heads links classes sizes 0 (replicate 2052 0)
levelling_start heads links classes sizes asks = record { asks = asks; filled = filling_start (level_size heads links classes sizes) 2052 }

place_most : (heads links sizes : List ℕ) (q : ℕ) → Linked heads links → place_size heads links sizes q ≤ 513
unfolding place_size
place_most heads links sizes q linked = go (leb (kind_at heads q) 1) refl (eqb (kind_at heads q) 2) refl
  where
    go : (a : Bool) → leb (kind_at heads q) 1 ≡ a → (b : Bool) → eqb (kind_at heads q) 2 ≡ b → cond a 1 (cond b (sum_at links sizes 4 (start_at heads q) (count_at heads q) 1) (sum_at links sizes 8 (start_at heads q + 4) (count_at heads q) (1 + count_at heads q))) ≤ 513
    go true p b r = omega arith
    go false p true r = sum_most links sizes 4 (start_at heads q) (count_at heads q) 1 (omega arith)
    go false p false r = sum_most links sizes 8 (start_at heads q + 4) (count_at heads q) (1 + count_at heads q) (few p r)
      where
        few : leb (kind_at heads q) 1 ≡ false → eqb (kind_at heads q) 2 ≡ false → 1 + count_at heads q ≤ 513
        few p r =
            let a = leb-false (kind_at heads q) 1 p in
            let b = eqb-false (kind_at heads q) 2 r in
            let h = linked.kinds q in
            let o = linked.objects q (omega (arith, a, b, h)) in
            omega (arith, o)

next_ok : (heads links classes sizes : List ℕ) → Linked heads links → SizesOk (next_sizes heads links classes sizes)
next_ok heads links classes sizes linked = record { long = length_tabulate (level_size heads links classes sizes) 0 2052; few = λ i. at i (ltb i 2052) refl }
  where
    at : (i : ℕ) (b : Bool) → ltb i 2052 ≡ b → get_or (next_sizes heads links classes sizes) i 0 ≤ 513
    at i true e = let h = ltb-true i 2052 e in let z : 0 + i ≡ i = omega arith in let q = get_d_tabulate (level_size heads links classes sizes) 0 2052 i h ∙ ap (level_size heads links classes sizes) z in rw q (place_most heads links sizes (class_in classes i) linked)
    at i false e = let h = ltb-false i 2052 e in let l = length_tabulate (level_size heads links classes sizes) 0 2052 in let q = get_or-eq_default (next_sizes heads links classes sizes) 0 {n = i} (omega arith) in rw q (omega arith)

module _ {heads links classes sizes : List ℕ} {i : ℕ} {next : List ℕ} (go : Levelling heads links classes sizes i next) where
  module _ (more : i < 2052) where
    pub level_class : ClassAsks classes i
    level_class = record { ok = go.asks.ok; inside = more }

    module _ {class : ℕ} (is : ClassIs classes i class) where
      pub level_size_lem : SizeAsks heads links sizes class
      level_size_lem = record { linked = go.asks.linked; sizes_ok = go.asks.sizes_ok; inside = is.inside }

      pub level_narrow : {v : ℕ} → v ≡ place_size heads links sizes class → Fits w16 v
      level_narrow e = let h = place_most heads links sizes class go.asks.linked in record { fits = omega (arith, h, e) }

      pub levelling_on : {v : ℕ} → v ≡ place_size heads links sizes class → Levelling heads links classes sizes (i + 1) (set next i v)
      levelling_on {v} e = record { asks = go.asks; filled = filling_on {count = 2052} go.filled more (omega arith) (e ∙ ap (place_size heads links sizes) is.class) }

  pub levelling_ends : 2052 ≤ i → LevelDone heads links classes sizes next
  levelling_ends done =
      let l = go.filled.long in
      let e : next ≡ next_sizes heads links classes sizes = filling_ends go.filled (omega arith) in
      record { next = e; ok = rw e (next_ok heads links classes sizes go.asks.linked) }

-- 4. levels
pub record Settling (heads links classes : List ℕ) (levels done : ℕ) (sizes : List ℕ) : Type 0 where
  pub asks : SettleAsks heads links classes
  pub inside : done ≤ levels
  pub so_far : sizes ≡ sizes_after heads links classes done
  pub ok : SizesOk sizes

pub zero_at : (n i : ℕ) → get_or {A = ℕ} (replicate n 0) i 0 ≡ 0
zero_at zero i = refl
zero_at (suc n) zero = refl
zero_at (suc n) (suc i) = zero_at n i

zeros_ok : SizesOk (replicate 2052 0)
zeros_ok = record { long = length-replicate {A = ℕ} 2052 0; few = λ i. let e = zero_at 2052 i in rw e (omega arith) }

pub settling_start : (heads links classes : List ℕ) (levels : ℕ) → SettleAsks heads links classes → Settling heads links classes levels 0 (replicate 2052 0)
unfolding sizes_after
settling_start heads links classes levels asks = record { asks = asks; inside = omega arith; so_far = refl; ok = zeros_ok }

module _ {heads links classes : List ℕ} {levels done : ℕ} {sizes : List ℕ} (go : Settling heads links classes levels done sizes) where
  pub settling_level : LevelAsks heads links classes sizes
  settling_level = record { linked = go.asks.linked; ok = go.asks.ok; sizes_ok = go.ok }

  pub settling_on : done < levels → {next : List ℕ} → LevelDone heads links classes sizes next → Settling heads links classes levels (done + 1) next
  unfolding sizes_after
  settling_on more {next} d =
      let q : done + 1 ≡ suc done = omega arith in
      record {
        asks = go.asks;
        inside = omega arith;
        so_far = d.next ∙ (ap (next_sizes heads links classes) go.so_far ∙ ap (sizes_after heads links classes) (sym q));
        ok = d.ok;
      }

  -- no later level changes anything either
  stays : next_sizes heads links classes sizes ≡ sizes → (k : ℕ) → sizes_after heads links classes (done + k) ≡ sizes
  unfolding sizes_after
  stays still zero = let z : done + 0 ≡ done = omega arith in ap (sizes_after heads links classes) z ∙ sym go.so_far
  stays still (suc k) = let z : done + suc k ≡ suc (done + k) = omega arith in ap (sizes_after heads links classes) z ∙ (ap (next_sizes heads links classes) (stays still k) ∙ still)

  pub settling_stops : done < levels → {next : List ℕ} → LevelDone heads links classes sizes next → sizes ≡ next → Settled heads links classes levels sizes
  settling_stops more {next} d same =
      let q : done + (levels - done) ≡ levels = omega arith in
      let still : next_sizes heads links classes sizes ≡ sizes = sym (same ∙ d.next) in
      record { sizes = sym (stays still (levels - done)) ∙ ap (sizes_after heads links classes) q; ok = go.ok }

  pub settling_ends : levels ≤ done → Settled heads links classes levels sizes
  settling_ends e = let h = go.inside in let q : done ≡ levels = omega arith in record { sizes = go.so_far ∙ ap (sizes_after heads links classes) q; ok = go.ok }
