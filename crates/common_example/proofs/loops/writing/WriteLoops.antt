-- The loops that write a value.
use Prim.Native.Nat.{ℕ, suc, ◌+◌, ◌-◌, ◌*◌, ◌^◌, ◌≤◌, ◌<◌}
use mathlib.Core.Bool.{Bool, true, false, cond}
use mathlib.Core.List.{List, [], ◌∷◌, ◌++◌}
use mathlib.Core.Path.{◌≡◌, refl, ap, sym, ◌∙◌}
use native.Mathlib.Omega.{arith}
use borrow.Author.Tests.{eq-eqb, ne_eqb}
use mir.Syntax.{w32}
use mir.Val.{Fits}
use lib.Dec.{eqb}
use lib.ListN.{length, get_or, set, length-set}
use lib.Seq.{sets, length-sets}
use Rattle.common_example.specs.code.Writing.{key_count, key_number, size_from, part_sizes, part_numbers, KeyNumberAsks, KeyNumbered, NumberAsks}
use Rattle.common_example.proofs.loops.writing.WriteWords.{sets_on, key_numbers}

-- 1. a key's number
pub keys_one : (step : ℕ) → step ≡ 8 → 1 ≡ key_count step
keys_one step e = let q = eq-eqb step 8 e in rw q

pub keys_none : (step : ℕ) → (step ≡ 8 → ⊥) → 0 ≡ key_count step
keys_none step n = let q = ne_eqb step 8 n in rw q

key_most : (step : ℕ) → key_count step ≤ 1
key_most step = go (eqb step 8)
  where
    go : (b : Bool) → cond b 1 0 ≤ 1
    go true = omega arith
    go false = omega arith

module _ (step before entry : ℕ) (children : List ℕ) where
  pub numbered : step ≡ 8 → KeyNumbered step before entry children (set children entry (before + 1)) (entry + 1)
  unfolding key_number
  numbered e =
      let q = eq-eqb step 8 e in
      let same : ((before + 1) ∷ []) ≡ key_number step before = rw q in
      record { words = ap (sets children entry) same; next = rw q }

  pub unnumbered : (step ≡ 8 → ⊥) → KeyNumbered step before entry children children entry
  unfolding key_number
  unnumbered n =
      let q = ne_eqb step 8 n in
      let same : [] ≡ key_number step before = rw q in
      let none = keys_none step n in
      record { words = ap (sets children entry) same; next = omega (arith, none) }

-- 2. a parent's child entries
pub record Numbering (links sizes : List ℕ) (step link count before entry : ℕ) (children₀ : List ℕ) (from left node to : ℕ) (here : List ℕ) : Type 0 where
  pub asks : NumberAsks links sizes step from left node to here
  pub same : sets here to (part_numbers links sizes step from left node) ≡ sets children₀ entry (part_numbers links sizes step link count before)
  pub long : length here ≡ length children₀

pub numbering_start : (links sizes : List ℕ) (step link count before entry : ℕ) (children : List ℕ) → NumberAsks links sizes step link count before entry children → Numbering links sizes step link count before entry children link count before entry children
numbering_start links sizes step link count before entry children asks = record { asks = asks; same = refl; long = refl }

-- by how many parts are done
pub more_left : {done count : ℕ} → done < count → 0 < count - done
more_left h = omega arith

pub none_left : {done count : ℕ} → count ≤ done → count - done ≤ 0
none_left h = omega arith

pub scaled : (left step : ℕ) → 0 < left → left * step ≡ step + (left - 1) * step
scaled left step more = let a : left ≡ suc (left - 1) = omega arith in ap (λ (k : ℕ). k * step) a ∙ one_more (left - 1) step
  where
    one_more : (k s : ℕ) → suc k * s ≡ s + k * s
    one_more k s = omega arith

pub sizes_step : (links sizes : List ℕ) (step from left : ℕ) → 0 < left → part_sizes links sizes step from left ≡ key_count step + size_from links sizes step from + part_sizes links sizes step (from + step) (left - 1)
unfolding part_sizes
sizes_step links sizes step from left more = let a : left ≡ suc (left - 1) = omega arith in ap (λ (k : ℕ). part_sizes links sizes step from k) a

numbers_step : (links sizes : List ℕ) (step from left node : ℕ) → 0 < left
    → part_numbers links sizes step from left node ≡ key_number step node ++ ((node + key_count step + size_from links sizes step from) ∷ part_numbers links sizes step (from + step) (left - 1) (node + key_count step + size_from links sizes step from))
unfolding part_numbers
numbers_step links sizes step from left node more = let a : left ≡ suc (left - 1) = omega arith in ap (λ (k : ℕ). part_numbers links sizes step from k node) a

module _ {links sizes : List ℕ} {step link count before entry : ℕ} {children₀ : List ℕ} {from left node to : ℕ} {here : List ℕ} (go : Numbering links sizes step link count before entry children₀ from left node to here) where
  module _ (more : 0 < left) where
    pub number_link : from < 2048
    number_link = let h = go.asks.inside in let e = scaled left step more in omega (arith, h, e)

    pub number_place : get_or links from 0 < 2052
    number_place = go.asks.places from

    pub number_next : {apart : ℕ} → apart ≡ step → from + apart < 2 ^ 64
    number_next e = let h = number_link in let s = go.asks.high in omega (arith, h, s, e)

    pub number_asks : KeyNumberAsks step node to here
    number_asks =
        let a = go.asks.few in
        let b = go.asks.room in
        let c = go.asks.low in
        let e = scaled left (1 + key_count step) more in
        record { few = omega arith; low = omega (arith, c, e); room = omega (arith, b, e) }

    module _ {keys : ℕ} (k : keys ≡ key_count step) where
      pub number_key_fits : Fits w32 (node + keys)
      number_key_fits = let a = go.asks.few in let e = sizes_step links sizes step from left more in record { fits = omega (arith, a, e, k) }

      pub number_fits : {size : ℕ} → size ≡ get_or sizes (get_or links from 0) 0 → Fits w32 (node + keys + size)
      number_fits z = let a = go.asks.few in let e = sizes_step links sizes step from left more in record { fits = omega (arith, a, e, k, z) }

    module _ {mid : List ℕ} {value : ℕ} (n : KeyNumbered step node to here mid value) where
      mid_long : length mid ≡ length here
      mid_long = let e = n.words in ap (λ (l : List ℕ). length l) e ∙ length-sets here to (key_number step node)

      pub number_room : value < length mid
      number_room = let b = go.asks.room in let e = scaled left (1 + key_count step) more in let v = n.next in let l = mid_long in omega (arith, b, e, v, l)

      pub number_value : Fits w32 (value + 1)
      number_value = let b = go.asks.low in let e = scaled left (1 + key_count step) more in let v = n.next in record { fits = omega (arith, b, e, v) }

      pub numbering_on : {keys size apart : ℕ} → keys ≡ key_count step → size ≡ get_or sizes (get_or links from 0) 0 → apart ≡ step
          → Numbering links sizes step link count before entry children₀ (from + apart) (left - 1) (node + keys + size) (value + 1) (set mid value (node + keys + size))
      numbering_on {keys} {size} {apart} k z i =
          let a = go.asks.inside in
          let b = go.asks.few in
          let c = go.asks.room in
          let d = go.asks.low in
          let p = scaled left step more in
          let q = sizes_step links sizes step from left more in
          let s = scaled left (1 + key_count step) more in
          let v = n.next in
          let l = mid_long in
          let m = length-set mid value (node + keys + size) in
          let same : node + keys + size ≡ node + key_count step + size_from links sizes step from = omega (arith, k, z) in
          let long : length (set mid value (node + keys + size)) ≡ length children₀ = m ∙ (l ∙ go.long) in
          rw i (record {
            asks = record {
              places = go.asks.places;
              inside = omega (arith, a, p);
              high = go.asks.high;
              few = omega (arith, b, q, same);
              room = omega (arith, c, s, v, l, m);
              low = omega (arith, d, s, v);
            };
            same = rw same (stores ∙ go.same);
            long = long;
          })
        where
          stores : sets (set mid value (node + key_count step + size_from links sizes step from)) (value + 1) (part_numbers links sizes step (from + step) (left - 1) (node + key_count step + size_from links sizes step from))
              ≡ sets here to (part_numbers links sizes step from left node)
          stores =
              let v = n.next in
              let one : value + 1 ≡ suc value = omega arith in
              let key = key_numbers step node in
              let w = n.words in
              ap (λ (j : ℕ). sets (set mid value (node + key_count step + size_from links sizes step from)) j (part_numbers links sizes step (from + step) (left - 1) (node + key_count step + size_from links sizes step from))) one
              ∙ (ap (λ (l : List ℕ). sets l value ((node + key_count step + size_from links sizes step from) ∷ part_numbers links sizes step (from + step) (left - 1) (node + key_count step + size_from links sizes step from))) w
              ∙ (sets_on here to value (key_number step node) ((node + key_count step + size_from links sizes step from) ∷ part_numbers links sizes step (from + step) (left - 1) (node + key_count step + size_from links sizes step from)) (omega (arith, v, key))
              ∙ ap (sets here to) (sym (numbers_step links sizes step from left node more))))

  pub numbering_ends : left ≤ 0 → here ≡ sets children₀ entry (part_numbers links sizes step link count before)
  unfolding part_numbers
  numbering_ends done = let z : left ≡ 0 = omega arith in rw z at go.same
