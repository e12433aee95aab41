-- The words of the graph's arrays, and the loops that fill them.
use Prim.Native.Nat.{ℕ, ◌+◌, ◌-◌, ◌*◌, ◌/◌, ◌%◌, ◌≤◌, ◌<◌}
use mathlib.Core.Bool.{Bool, true, false, cond}
use mathlib.Core.List.{List}
use mathlib.Core.Path.{◌≡◌, refl, ap, sym, ◌∙◌}
use native.Mathlib.Omega.{arith}
use borrow.Author.Tests.{eq-eqb, ne_eqb, le-leb, lt-leb, eqb-true}
use mir.Syntax.{w32}
use mir.Val.{Fits}
use lib.Dec.{eqb, leb}
use lib.ListN.{get_or, set, replicate}
use Rattle.base.specs.Lists.{tabulate}
use Rattle.base.proofs.Filling.{Filling, filling_start, filling_on, filling_ends}
use Rattle.table.specs.Tables.{kind_of, first_word_of, count_of, child_at}
use Rattle.common_example.specs.code.arrays.Arrays.{of_node, link_word, head_kind, head_start, head_count, HeadAsks, HeadsAsks, part_by, head_part, head_word_at}

-- 1. a node's word
pub of_none : (list : List ℕ) {n : ℕ} → n ≡ 0 → 0 ≡ of_node list n
of_none list {n} e = let q = eq-eqb n 0 e in rw q

pub of_some : (list : List ℕ) {n r : ℕ} → (n ≡ 0 → ⊥) → r ≡ child_at list (n - 1) → r ≡ of_node list n
of_some list {n} m e = let q = ne_eqb n 0 m in rw q e

-- 2. a link
module _ (ordered first second like : List ℕ) (i : ℕ) {n : ℕ} (is : n ≡ child_at ordered (i / 4)) {r : ℕ} where
  pub link_first : i % 4 ≡ 0 → r ≡ of_node first n → r ≡ link_word ordered first second like i
  unfolding link_word
  link_first w e = let q = eq-eqb (i % 4) 0 w in rw (← is, q) e

  module _ (m : i % 4 ≡ 0 → ⊥) where
    pub link_second : i % 4 ≡ 1 → r ≡ of_node second n → r ≡ link_word ordered first second like i
    unfolding link_word
    link_second w e = let q = ne_eqb (i % 4) 0 m in let p = eq-eqb (i % 4) 1 w in rw (← is, q, p) e

    pub link_like : (i % 4 ≡ 1 → ⊥) → r ≡ of_node like n → r ≡ link_word ordered first second like i
    unfolding link_word
    link_like w e = let q = ne_eqb (i % 4) 0 m in let p = ne_eqb (i % 4) 1 w in rw (← is, q, p) e

-- 3. an array that is filled
pub record FillingTo (f : ℕ → ℕ) (size i : ℕ) (here : List ℕ) : Type 0 where
  pub filled : Filling f size i here

pub fill_start : (f : ℕ → ℕ) (size : ℕ) → FillingTo f size 0 (replicate size 0)
fill_start f size = record { filled = filling_start f size }

module _ {f : ℕ → ℕ} {size i : ℕ} {here : List ℕ} (go : FillingTo f size i here) where
  pub fill_on : i < size → {v : ℕ} → v ≡ f i → FillingTo f size (i + 1) (set here i v)
  fill_on lt e = record { filled = filling_on {count = size} go.filled lt (omega arith) e }

  pub fill_ends : size ≤ i → here ≡ tabulate f 0 size
  fill_ends done = let l = go.filled.long in filling_ends go.filled (omega arith)

-- 4. what is known of a node
pub kind_literal : {kind : ℕ} → kind ≤ 5 → 1 ≡ head_kind kind
kind_literal {kind} h = let q = le-leb kind 5 h in rw q

module _ {kind : ℕ} (h : 5 < kind) where
  pub kind_array : kind ≡ 7 → 2 ≡ head_kind kind
  kind_array e = let q = lt-leb kind 5 h in let p = eq-eqb kind 7 e in rw (q, p)

  module _ (n : kind ≡ 7 → ⊥) where
    pub kind_object : kind ≡ 9 → 3 ≡ head_kind kind
    kind_object e = let q = lt-leb kind 5 h in let p = ne_eqb kind 7 n in let o = eq-eqb kind 9 e in rw (q, p, o)

    pub kind_none : (kind ≡ 9 → ⊥) → 0 ≡ head_kind kind
    kind_none m = let q = lt-leb kind 5 h in let p = ne_eqb kind 7 n in let o = ne_eqb kind 9 m in rw (q, p, o)

-- parts are known of arrays and objects alone
pub known_parts : (kind : ℕ) → 1 < head_kind kind → (7 ≤ kind) × (kind ≤ 9)
known_parts kind h = go (leb kind 5) (eqb kind 7) refl (eqb kind 9) refl h
  where
    go : (a b : Bool) → eqb kind 7 ≡ b → (c : Bool) → eqb kind 9 ≡ c → 1 < cond a 1 (cond b 2 (cond c 3 0)) → (7 ≤ kind) × (kind ≤ 9)
    go true b p c q l = absurd (omega arith)
    go false true p c q l = let e = eqb-true kind 7 p in (omega arith, omega arith)
    go false false p true q l = let e = eqb-true kind 9 q in (omega arith, omega arith)
    go false false p false q l = absurd (omega arith)

module _ (nodes like : List ℕ) (n side : ℕ) {known kind : ℕ} (k : kind ≡ kind_of nodes n) (is : known ≡ head_kind kind) where
  known_is : known ≡ head_kind (kind_of nodes n)
  known_is = is ∙ ap head_kind k

  pub start_none : known ≡ 0 → 0 ≡ head_start nodes like n side
  unfolding head_start
  start_none e = let w = known_is in let q = eq-eqb known 0 e in rw (← w, q)

  module _ (m : known ≡ 0 → ⊥) where
    pub start_literal : {r : ℕ} → known ≡ 1 → r ≡ of_node like n → r ≡ head_start nodes like n side
    unfolding head_start
    start_literal e h = let w = known_is in let q = ne_eqb known 0 m in let p = eq-eqb known 1 e in rw (← w, q, p) h

    module _ (l : known ≡ 1 → ⊥) {first : ℕ} (f : first ≡ first_word_of nodes n) where
      pub start_link : first * 4 + side ≡ head_start nodes like n side
      unfolding head_start
      start_link = let w = known_is in let q = ne_eqb known 0 m in let p = ne_eqb known 1 l in rw (← w, q, p, f)

      first_small : HeadAsks nodes n side → first ≤ 512
      first_small a = let w = known_is in let b = known_parts (kind_of nodes n) (omega (arith, w, m, l)) in rw f (a.small b.0 b.1)

      pub link_four : HeadAsks nodes n side → Fits w32 (first * 4)
      link_four a = let s = first_small a in record { fits = omega arith }

      pub link_side : HeadAsks nodes n side → Fits w32 (first * 4 + side)
      link_side a = let s = first_small a in let z = a.a_side in record { fits = omega arith }

  pub count_none : known ≤ 1 → 0 ≡ head_count nodes n
  unfolding head_count
  count_none e = let w = known_is in let q = le-leb known 1 e in rw (← w, q)

  pub count_links : 1 < known → {r : ℕ} → r ≡ count_of nodes n → r ≡ head_count nodes n
  unfolding head_count
  count_links e h = let w = known_is in let q = lt-leb known 1 e in rw (← w, q) h

-- 5. a word of a head
module _ (nodes marks like : List ℕ) (n side k : ℕ) where
  pub part_zero : n ≡ 0 → 0 ≡ head_part nodes marks like n side k
  unfolding head_part
  part_zero e = let q = eq-eqb n 0 e in rw q

  module _ (m : n ≡ 0 → ⊥) where
    pub part_name : 1 < side → 0 ≡ head_part nodes marks like n side k
    unfolding head_part
    part_name e = let q = ne_eqb n 0 m in let p = lt-leb side 1 e in rw (q, p)

    module _ (s : side ≤ 1) where
      pub part_unmarked : (get_or marks (n - 1) 0 ≡ 1 → ⊥) → 0 ≡ head_part nodes marks like n side k
      unfolding head_part
      part_unmarked e = let q = ne_eqb n 0 m in let p = le-leb side 1 s in let o = ne_eqb (get_or marks (n - 1) 0) 1 e in rw (q, p, o)

      module _ (marked : get_or marks (n - 1) 0 ≡ 1) where
        part_is : head_part nodes marks like n side k ≡ part_by nodes like n side k
        unfolding head_part
        part_is = let q = ne_eqb n 0 m in let p = le-leb side 1 s in let o = eq-eqb (get_or marks (n - 1) 0) 1 marked in rw (q, p, o)

        pub part_kind : {kind r : ℕ} → k ≡ 0 → kind ≡ kind_of nodes n → r ≡ head_kind kind → r ≡ head_part nodes marks like n side k
        part_kind e h i = let q = eq-eqb k 0 e in i ∙ (ap head_kind h ∙ sym (part_is ∙ rw q))

        module _ (z : k ≡ 0 → ⊥) {r : ℕ} where
          pub part_start : k ≡ 1 → r ≡ head_start nodes like n side → r ≡ head_part nodes marks like n side k
          part_start e h = let q = ne_eqb k 0 z in let p = eq-eqb k 1 e in h ∙ sym (part_is ∙ rw (q, p))

          pub part_count : (k ≡ 1 → ⊥) → r ≡ head_count nodes n → r ≡ head_part nodes marks like n side k
          part_count e h = let q = ne_eqb k 0 z in let p = ne_eqb k 1 e in h ∙ sym (part_is ∙ rw (q, p))

pub part_asks : {nodes marks : List ℕ} {n side : ℕ} → HeadsAsks nodes marks → (n ≡ 0 → ⊥) → side ≤ 1 → get_or marks (n - 1) 0 ≡ 1 → HeadAsks nodes n side
part_asks {n = n} a m s marked = record { small = a.small n marked (omega (arith, m)); a_side = s }

-- 6. all heads
pub record HeadsFilling (nodes marks like : List ℕ) (i : ℕ) (here : List ℕ) : Type 0 where
  pub asks : HeadsAsks nodes marks
  pub filled : FillingTo (head_word_at nodes marks like) 6156 i here

pub heads_start : (nodes marks like : List ℕ) → HeadsAsks nodes marks → HeadsFilling nodes marks like 0 (replicate 6156 0)
heads_start nodes marks like a = record { asks = a; filled = fill_start (head_word_at nodes marks like) 6156 }

module _ {nodes marks like : List ℕ} {i : ℕ} {here : List ℕ} (go : HeadsFilling nodes marks like i here) where
  pub heads_asks : HeadsAsks nodes marks
  heads_asks = go.asks

  pub heads_node : i < 6156 → i / 12 ≤ 512
  heads_node lt = omega arith

  pub heads_on : i < 6156 → {v : ℕ} → v ≡ head_part nodes marks like (i / 12) (i / 3 % 4) (i % 3) → HeadsFilling nodes marks like (i + 1) (set here i v)
  heads_on lt e = record { asks = go.asks; filled = fill_on go.filled lt e }

  pub heads_end : 6156 ≤ i → here ≡ tabulate (head_word_at nodes marks like) 0 6156
  heads_end done = fill_ends go.filled done
