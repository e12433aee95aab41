-- The walk over an entry's children, and the pass over all entries.
use Prim.Native.Nat.{ℕ, zero, suc, ◌+◌, ◌-◌, ◌*◌, ◌≤◌, ◌<◌}
use mathlib.Core.Path.{◌≡◌, refl, sym, ap, ◌∙◌}
use mathlib.Core.List.{List, [], ◌∷◌}
use mathlib.Core.Bool.{Bool, true, false}
use native.Mathlib.Omega.{arith}
use mir.Val.{Fits}
use mir.Syntax.{w16, w64}
use borrow.Author.Tests.{eqb-true, eqb-false}
use lib.Dec.{eqb}
use lib.ListN.{length, get_or, set, drop, replicate, length-set, length-replicate, length-drop}
use lib.Seq.{get_or-set_same, get_or-set_other, get_or-drop, drop-drop}
use Rattle.planner.specs.Layout.{entry_words}
use Rattle.planner.specs.code.Post.{pattern_words}
use Rattle.matching.specs.code.Linking.{children_of, position_of, starts_from, child_entry, total, LinkAsks, LinkedAt, Linked, chain, ChainAsks, ChainLinked}

-- one entry's children

chain_next : (nexts : List ℕ) (c j : ℕ) → chain nexts c (j + 1) ≡ get_or nexts (chain nexts c j) 0
unfolding chain
chain_next nexts c j = let e : j + 1 ≡ suc j = omega arith in rw e

chain_first : (nexts : List ℕ) (c : ℕ) → chain nexts c 0 ≡ c
unfolding chain
chain_first nexts c = refl

pub record Chaining (scratch nexts before : List ℕ) (at start count i : ℕ) (links : List ℕ) (child : ℕ) : Type 0 where
  pub asks : ChainAsks scratch nexts before at start count
  pub inside : i ≤ count
  pub long : length links ≡ 512
  pub here : child ≡ chain nexts (at + 1) i
  pub each : (j : ℕ) → j < i → get_or links (start + position_of scratch (chain nexts (at + 1) j) - 1) 0 ≡ chain nexts (at + 1) j
  pub others : (q : ℕ) → start + count ≤ q → get_or links q 0 ≡ get_or before q 0

pub chain_fits : {scratch nexts links : List ℕ} {at start count : ℕ} → ChainAsks scratch nexts links at start count → Fits w64 (at + 1)
chain_fits a = let f = a.first in record { fits = omega arith }

pub chaining_start : {scratch nexts links : List ℕ} {at start count : ℕ} → ChainAsks scratch nexts links at start count → Chaining scratch nexts links at start count 0 links (at + 1)
chaining_start {nexts = nexts} {at = at} a = record { asks = a; inside = omega arith; long = a.long; here = sym (chain_first nexts (at + 1)); each = λ j lt. absurd (omega arith); others = λ q le. refl }

module _ {scratch nexts before : List ℕ} {at start count i : ℕ} {links : List ℕ} {child : ℕ} (go : Chaining scratch nexts before at start count i links child) where
  module _ (lt : i < count) where
    low : child < 512
    low = rw go.here (go.asks.each i lt).0

    pub chaining_index : child < 512
    chaining_index = low

    pub chaining_word : child * entry_words + 4 < pattern_words
    chaining_word = let l = low in omega arith

    pub chaining_bytes : Fits w64 ((child * entry_words + 4) * 4)
    chaining_bytes = let l = low in record { fits = omega arith }

    pub chaining_pair : Fits w64 (child * 2)
    chaining_pair = let l = low in record { fits = omega arith }

    pub chaining_small : Fits w16 child
    chaining_small = let l = low in record { fits = omega arith }

    module _ {position : ℕ} (is : position ≡ position_of scratch child) where
      own : position ≡ position_of scratch (chain nexts (at + 1) i)
      own = is ∙ ap (position_of scratch) go.here

      bounds : (1 ≤ position) × (position ≤ count)
      bounds = rw own (go.asks.each i lt).1

      pub chaining_sum : Fits w64 (start + position)
      chaining_sum = let b = bounds.1 in let r = go.asks.room in record { fits = omega arith }

      pub chaining_low : 1 ≤ start + position
      chaining_low = let b = bounds.0 in omega arith

      pub chaining_place : start + position - 1 < 512
      chaining_place = let b = bounds.0 in let h = bounds.1 in let r = go.asks.room in omega arith

      pub chaining_on : {next : ℕ} → next ≡ get_or nexts child 0 → Chaining scratch nexts before at start count (i + 1) (set links (start + position - 1) child) next
      chaining_on {next} to = record {
        asks = go.asks;
        inside = omega arith;
        long = length-set links (start + position - 1) child ∙ go.long;
        here = to ∙ (ap (λ (c : ℕ). get_or nexts c 0) go.here ∙ sym (chain_next nexts (at + 1) i));
        each = λ j below. by j below (eqb j i) refl;
        others = λ q le. let h = bounds.1 in let b = bounds.0 in get_or-set_other links (start + position - 1) q child 0 (λ e. omega arith) ∙ go.others q le;
      }
        where
          by : (j : ℕ) → j < i + 1 → (b : Bool) → eqb j i ≡ b → get_or (set links (start + position - 1) child) (start + position_of scratch (chain nexts (at + 1) j) - 1) 0 ≡ chain nexts (at + 1) j
          by j below true p =
              let e : j ≡ i = eqb-true j i p in
              let long = go.long in
              let inside = chaining_place in
              rw (e, ← own) (get_or-set_same links (start + position - 1) child 0 (omega arith) ∙ go.here)
          by j below false p =
              let differs = eqb-false j i p in
              let less : j < i = omega (arith, differs) in
              let b = bounds.0 in
              let c = (go.asks.each j (omega arith)).1.0 in
              let n : position_of scratch (chain nexts (at + 1) j) ≡ position → ⊥ = λ e. go.asks.apart j i less lt (e ∙ own) in
              get_or-set_other links (start + position - 1) (start + position_of scratch (chain nexts (at + 1) j) - 1) child 0 (λ e. n (omega arith)) ∙ go.each j less

  pub chaining_ends : count ≤ i → ChainLinked scratch nexts before at start count links child
  chaining_ends le =
      let n = go.inside in
      let e : i ≡ count = omega arith in
      record { end = rw e at go.here; long = go.long; each = λ j lt. go.each j (omega arith); others = go.others }

-- where the plans start

module _ (scratch : List ℕ) where
  starts_here : (at k : ℕ) (d : ℕ) → get_or (starts_from scratch at (suc k)) 0 d ≡ at
  unfolding starts_from
  starts_here at k d = refl

  -- a start lies inside, and from it on the starts are the rest
  pub starts_rest : (k at j d : ℕ) → j < length (starts_from scratch at k)
      → (at ≤ get_or (starts_from scratch at k) j d) × ((get_or (starts_from scratch at k) j d < at + k)
      × (starts_from scratch (get_or (starts_from scratch at k) j d) (at + k - get_or (starts_from scratch at k) j d) ≡ drop j (starts_from scratch at k)))
  unfolding starts_from
  starts_rest zero at j d lt = absurd (omega arith)
  starts_rest (suc k) at zero d lt = let e : at + suc k - at ≡ suc k = omega arith in (omega arith, (omega arith, rw e))
  starts_rest (suc k) at (suc j) d lt =
      let n : ℕ = children_of scratch at in
      let long = length-drop n (starts_from scratch (at + 1) k) in
      let inside : n + j < length (starts_from scratch (at + 1) k) = omega arith in
      let same : get_or (drop n (starts_from scratch (at + 1) k)) j d ≡ get_or (starts_from scratch (at + 1) k) (n + j) d = get_or-drop n (starts_from scratch (at + 1) k) j d in
      let h = starts_rest k (at + 1) (n + j) d inside in
      let l = h.0 in
      let m = h.1.0 in
      let e : at + suc k ≡ at + 1 + k = omega arith in
      rw (same, e) (omega arith, (omega arith, h.1.1 ∙ sym (drop-drop j n (starts_from scratch (at + 1) k))))

-- the children of an entry, one after the other

abbrev next_of : List ℕ → ℕ → ℕ → ℕ
next_of scratch count at = child_entry scratch count at (children_of scratch at)

module _ (scratch : List ℕ) (count at : ℕ) (lt : at < count) where
  here_next : next_of scratch count at ≡ get_or (starts_from scratch at (count - at)) 1 count
  unfolding starts_from
  here_next =
      let e : count - at ≡ suc (count - (at + 1)) = omega arith in
      let z : children_of scratch at + 0 ≡ children_of scratch at = omega arith in
      rw e (ap (λ (m : ℕ). get_or (starts_from scratch (at + 1) (count - (at + 1))) m count) (sym z) ∙ sym (get_or-drop (children_of scratch at) (starts_from scratch (at + 1) (count - (at + 1))) 0 count))

  first_child : child_entry scratch count at 0 ≡ at + 1
  unfolding starts_from
  first_child = go (count - (at + 1)) refl
    where
      go : (k : ℕ) → count - (at + 1) ≡ k → child_entry scratch count at 0 ≡ at + 1
      go zero e = rw e (omega arith)
      go (suc k) e = rw e

  module _ (j : ℕ) (inside : j < length (starts_from scratch (at + 1) (count - (at + 1)))) where
    child_inside : (at < child_entry scratch count at j) × (child_entry scratch count at j < count)
    child_inside =
        let h = starts_rest scratch (count - (at + 1)) (at + 1) j count inside in
        let l = h.0 in
        let m = h.1.0 in
        (omega arith, omega arith)

child_next : (scratch : List ℕ) (count at : ℕ) → at < count → (j : ℕ) → j < length (starts_from scratch (at + 1) (count - (at + 1))) → next_of scratch count (child_entry scratch count at j) ≡ child_entry scratch count at (j + 1)
child_next scratch count at lt j inside =
    let h = (starts_rest scratch (count - (at + 1)) (at + 1) j count inside).1.1 in
    let e : at + 1 + (count - (at + 1)) ≡ count = omega arith in
    here_next scratch count (child_entry scratch count at j) (child_inside scratch count at lt j inside).1
    ∙ (ap (λ (l : List ℕ). get_or l 1 count) (rw e at h) ∙ get_or-drop j (starts_from scratch (at + 1) (count - (at + 1))) 1 count)

child_most : (scratch : List ℕ) (count at : ℕ) → at < count → (j : ℕ) → child_entry scratch count at j ≤ count
child_most scratch count at lt j = most (starts_from scratch (at + 1) (count - (at + 1))) j (λ i inside. let h = (child_inside scratch count at lt i inside).1 in omega arith)
  where
    most : (l : List ℕ) (j : ℕ) → ((i : ℕ) → i < length l → get_or l i count ≤ count) → get_or l j count ≤ count
    most [] j each = omega arith
    most (x ∷ l) zero each = each 0 (omega arith)
    most (x ∷ l) (suc j) each = most l j (λ i inside. each (suc i) (omega arith))

-- the pass over all entries, from the last to the first
pub record Linking (scratch : List ℕ) (count at : ℕ) (nexts starts links : List ℕ) (free : ℕ) : Type 0 where
  pub asks : LinkAsks scratch count
  pub inside : at ≤ count
  pub nexts_long : length nexts ≡ 512
  pub starts_long : length starts ≡ 512
  pub links_long : length links ≡ 512
  pub spare : total scratch at ≤ free
  pub bound : free ≤ 512
  pub next : (j : ℕ) → at ≤ j → j < count → get_or nexts j 0 ≡ next_of scratch count j
  pub each : (j : ℕ) → at ≤ j → j < count → (free ≤ get_or starts j 0) × LinkedAt scratch count j (get_or starts j 0) links

pub linking_start : {scratch : List ℕ} {count : ℕ} → LinkAsks scratch count → Linking scratch count count (replicate 512 0) (replicate 512 0) (replicate 512 0) 512
linking_start a = record {
  asks = a;
  inside = omega arith;
  nexts_long = length-replicate {A = ℕ} 512 0;
  starts_long = length-replicate {A = ℕ} 512 0;
  links_long = length-replicate {A = ℕ} 512 0;
  spare = a.room;
  bound = omega arith;
  next = λ j le lt. absurd (omega arith);
  each = λ j le lt. absurd (omega arith);
}

module _ {scratch : List ℕ} {count at : ℕ} {nexts starts links : List ℕ} {free : ℕ} (go : Linking scratch count at nexts starts links free) where
  module _ (more : 0 < at) where
    last : at - 1 < count
    last = let n = go.inside in omega arith

    index_low : at - 1 < 512
    index_low = let l = last in let f = go.asks.few in omega arith

    pub linking_index : at - 1 < 512
    linking_index = index_low

    pub linking_word : (at - 1) * entry_words + 2 < pattern_words
    linking_word = let l = index_low in omega arith

    module _ {children : ℕ} (is : children ≡ children_of scratch (at - 1)) where
      total_here : total scratch (at - 1) + children ≤ free
      unfolding total
      total_here =
          let e : at ≡ suc (at - 1) = omega arith in
          let s = ap (total scratch) e in
          let f = go.spare in
          omega arith

      pub linking_room : children ≤ free
      linking_room = let t = total_here in omega arith

      pub linking_small : Fits w16 (free - children)
      linking_small = let b = go.bound in record { fits = omega arith }

      chain_is : (i : ℕ) → i ≤ children → chain nexts (at - 1 + 1) i ≡ child_entry scratch count (at - 1) i
      unfolding chain
      chain_is zero le = sym (first_child scratch count (at - 1) last)
      chain_is (suc i) le =
          let few = go.asks.counted (at - 1) last in
          let inside : i < length (starts_from scratch (at - 1 + 1) (count - (at - 1 + 1))) = omega arith in
          let c = child_inside scratch count (at - 1) last i inside in
          let l = c.0 in
          let e : i + 1 ≡ suc i = omega arith in
          ap (λ (m : ℕ). get_or nexts m 0) (chain_is i (omega arith))
          ∙ (go.next (child_entry scratch count (at - 1) i) (omega arith) c.1 ∙ (rw e at (child_next scratch count (at - 1) last i inside)))

      pub linking_asks : ChainAsks scratch nexts links (at - 1) (free - children) children
      linking_asks = record {
        first = index_low;
        long = go.links_long;
        room = let r = linking_room in let b = go.bound in omega arith;
        each = λ j lt.
            let few = go.asks.counted (at - 1) last in
            let f = go.asks.few in
            let c = child_inside scratch count (at - 1) last j (omega arith) in
            let h = c.1 in
            let p = go.asks.placed (at - 1) j last (omega arith) in
            let q = p.1 in
            rw (chain_is j (omega arith)) (omega arith, (p.0, omega arith));
        apart = λ i j lt jt. rw (chain_is i (omega arith), chain_is j (omega arith)) (go.asks.apart (at - 1) i j last lt (omega arith));
      }

      module _ {after : List ℕ} {r : ℕ} (done : ChainLinked scratch nexts links (at - 1) (free - children) children after r) where
        next_is : r ≡ next_of scratch count (at - 1)
        next_is = done.end ∙ (chain_is children (omega arith) ∙ ap (child_entry scratch count (at - 1)) is)

        pub linking_next : Fits w16 r
        linking_next =
            let m = child_most scratch count (at - 1) last (children_of scratch (at - 1)) in
            let e = next_is in
            let f = go.asks.few in
            record { fits = omega arith }

        pub linking_on : Linking scratch count (at - 1) (set nexts (at - 1) r) (set starts (at - 1) (free - children)) after (free - children)
        linking_on = record {
          asks = go.asks;
          inside = let l = last in omega arith;
          nexts_long = length-set nexts (at - 1) r ∙ go.nexts_long;
          starts_long = length-set starts (at - 1) (free - children) ∙ go.starts_long;
          links_long = done.long;
          spare = let t = total_here in omega arith;
          bound = let b = go.bound in omega arith;
          next = λ j le lt. by_next j le lt (eqb j (at - 1)) refl;
          each = λ j le lt. by_each j le lt (eqb j (at - 1)) refl;
        }
          where
            by_next : (j : ℕ) → at - 1 ≤ j → j < count → (b : Bool) → eqb j (at - 1) ≡ b → get_or (set nexts (at - 1) r) j 0 ≡ next_of scratch count j
            by_next j le lt true p =
                let e : j ≡ at - 1 = eqb-true j (at - 1) p in
                let long = go.nexts_long in
                let l = index_low in
                rw e (get_or-set_same nexts (at - 1) r 0 (omega arith) ∙ next_is)
            by_next j le lt false p =
                let differs = eqb-false j (at - 1) p in
                get_or-set_other nexts (at - 1) j r 0 differs ∙ go.next j (omega (arith, differs)) lt

            by_each : (j : ℕ) → at - 1 ≤ j → j < count → (b : Bool) → eqb j (at - 1) ≡ b
                → (free - children ≤ get_or (set starts (at - 1) (free - children)) j 0) × LinkedAt scratch count j (get_or (set starts (at - 1) (free - children)) j 0) after
            by_each j le lt true p =
                let e : j ≡ at - 1 = eqb-true j (at - 1) p in
                let long = go.starts_long in
                let l = index_low in
                let same = get_or-set_same starts (at - 1) (free - children) 0 (omega arith) in
                let room = linking_room in
                let b = go.bound in
                rw (e, same) (
                  omega arith,
                  record {
                    inside = omega arith;
                    each = λ i below. rw (chain_is i (omega arith)) at (done.each i (omega arith));
                  },
                )
            by_each j le lt false p =
                let differs = eqb-false j (at - 1) p in
                let other = get_or-set_other starts (at - 1) j (free - children) 0 differs in
                let old = go.each j (omega (arith, differs)) lt in
                let above = old.0 in
                let room = linking_room in
                rw other (
                  omega arith,
                  record {
                    inside = old.1.inside;
                    each = λ i below.
                        let low-position = (go.asks.placed j i lt below).0 in
                        done.others (get_or starts j 0 + position_of scratch (child_entry scratch count j i) - 1) (omega arith) ∙ old.1.each i below;
                  },
                )

  pub linking_ends : at ≤ 0 → Linked scratch count starts links
  linking_ends le = record { at = λ j lt. (go.each j (omega arith) lt).1 }
