-- Loops that look for an earlier one: a child entry, a node's places, a name's bytes.
use Prim.Native.Nat.{ℕ, zero, suc, ◌+◌, ◌-◌, ◌^◌, ◌≤◌, ◌<◌}
use mathlib.Core.Path.{◌≡◌, refl, sym, ap, ◌∙◌}
use mathlib.Core.Logic.{◌⊎◌, inl, inr}
use mathlib.Core.Bool.{Bool, true, false, not, ◌||◌, false≢true}
use mathlib.Core.List.{List, [], ◌∷◌, ◌++◌}
use native.Mathlib.Omega.{arith}
use native.Mathlib.Nat.{eq-or-lt_of_le}
use borrow.Author.Tests.{eq-eqb, ne_eqb, leb-true, leb-false, ltb-true, lt-ltb, not-true}
use lib.Dec.{eqb, leb, ltb}
use lib.ListN.{length, get_or, take}
use lib.Seq.{take-suc}
use Rattle.base.specs.Lists.{all_from, elem}
use Rattle.table.specs.Tables.{tables, first_word_of, width, child_at, name_bytes}
use Rattle.table.specs.Names.{same_bytes}
use Rattle.table.specs.Rules.{places_from, used_places, differ_at, new_name_at}
use Rattle.table.proofs.tests.Bools.{and_true}
use Rattle.table.proofs.tests.Scan.{Scan, scan_start, scan_on, scan_fails, scan_ends, all_at, all_of}
use Rattle.table_fault.specs.Rules.{new_entry_at, unused_before, new_places_at}
use Rattle.table_fault.specs.code.Asking.{Short, share}
use Rattle.table_fault.proofs.Distinct.{elem_snoc, used_snoc}

or_both : (a b : Bool) → a ≡ false → b ≡ false → (a || b) ≡ false
or_both a b e f = rw (e, f)

or_first : (a b : Bool) → a ≡ true → (a || b) ≡ true
or_first a b e = rw e

or_second : (a b : Bool) → b ≡ true → (a || b) ≡ true
or_second true b e = refl
or_second false b e = e

-- a test that fails at one number of a range
all_fails_at : (p : ℕ → Bool) (from k j : ℕ) → j < k → p (from + j) ≡ false → all_from p from k ≡ false
all_fails_at p from k j lt no-here = go (all_from p from k) refl
  where
    go : (b : Bool) → all_from p from k ≡ b → all_from p from k ≡ false
    go true e = absurd (false≢true (sym no-here ∙ all_at p from k e j lt))
    go false e = e

-- one child entry more
elem_take : (x : ℕ) (xs : List ℕ) (i : ℕ) → i < length xs → elem x (take (suc i) xs) ≡ (eqb (get_or xs i 0) x || elem x (take i xs))
elem_take x xs i lt = ap (elem x) (take-suc xs i 0 lt) ∙ elem_snoc x (get_or xs i 0) (take i xs)

elem_more : (x : ℕ) (xs : List ℕ) (i k : ℕ) → i ≤ k → k ≤ length xs → elem x (take i xs) ≡ true → elem x (take k xs) ≡ true
elem_more x xs i zero le room e = let z : i ≡ 0 = omega arith in rw z at e
elem_more x xs i (suc k) le room e = go (eq-or-lt_of_le le) (λ h. elem_more x xs i k h (omega arith) e)
  where
    go : (i ≡ suc k) ⊎ (i < suc k) → (i ≤ k → elem x (take k xs) ≡ true) → elem x (take (suc k) xs) ≡ true
    go (inl h) on = rw h at e
    go (inr h) on = elem_take x xs k (omega arith) ∙ or_second (eqb (get_or xs k 0) x) (elem x (take k xs)) (on (omega arith))

-- `is_new_entry`: none of the entries that are passed
pub record Unmet (children : List ℕ) (place i : ℕ) : Type 0 where
  pub inside : i ≤ place
  pub room : place < length children
  pub none : elem (child_at children place) (take i children) ≡ false

pub unmet_start : (children : List ℕ) (place : ℕ) → place < length children → Unmet children place 0
unfolding elem
unmet_start children place room = record { inside = omega arith; room = room; none = refl }

module _ {children : List ℕ} {place i : ℕ} (go : Unmet children place i) where
  pub unmet_room : place < length children
  unmet_room = go.room

  module _ (lt : i < place) where
    pub unmet_on : (get_or children i 0 ≡ get_or children place 0 → ⊥) → Unmet children place (i + 1)
    unmet_on ne =
        let r = go.room in
        let s : i + 1 ≡ suc i = omega arith in
        record {
          inside = omega arith;
          room = r;
          none = rw s (elem_take (child_at children place) children i (omega arith) ∙ or_both _ _ (ne_eqb _ _ ne) go.none);
        }

    pub unmet_fails : get_or children i 0 ≡ get_or children place 0 → false ≡ new_entry_at children place
    unfolding new_entry_at
    unmet_fails e =
        let r = go.room in
        let h = elem_take (child_at children place) children i (omega arith) ∙ or_first _ (elem (child_at children place) (take i children)) (eq-eqb _ _ e) in
        rw (elem_more (child_at children place) children (suc i) place (omega arith) (omega arith) h)

  pub unmet_ends : place ≤ i → true ≡ new_entry_at children place
  unfolding new_entry_at
  unmet_ends le = let n = go.inside in let e : i ≡ place = omega arith in let none = rw e at go.none in rw none

-- the places of a range
in_places : (p at k : ℕ) → at ≤ p → p < at + k → elem p (places_from at k) ≡ true
unfolding places_from elem
in_places p at zero low high = absurd (omega arith)
in_places p at (suc k) low high = go (eq-or-lt_of_le low) (λ h. in_places p (at + 1) k h (omega arith))
  where
    go : (at ≡ p) ⊎ (at < p) → (at + 1 ≤ p → elem p (places_from (at + 1) k) ≡ true) → (eqb p at || elem p (places_from (at + 1) k)) ≡ true
    go (inl h) on = or_first (eqb p at) (elem p (places_from (at + 1) k)) (eq-eqb p at (sym h))
    go (inr h) on = or_second (eqb p at) (elem p (places_from (at + 1) k)) (on (omega arith))

outside : (p at k : ℕ) → ((i : ℕ) → i < k → p ≡ at + i → ⊥) → elem p (places_from at k) ≡ false
unfolding places_from elem
outside p at zero no_place = refl
outside p at (suc k) no_place =
    or_both _ _ (ne_eqb p at (λ e. no_place 0 (omega arith) (omega arith))) (outside p (at + 1) k (λ i lt e. no_place (i + 1) (omega arith) (omega arith)))

elem_join : (p : ℕ) (xs ys : List ℕ) → elem p (xs ++ ys) ≡ (elem p xs || elem p ys)
unfolding elem
elem_join p [] ys = refl
elem_join p (x ∷ xs) ys = rw (elem_join p xs ys) (sym (grouped (eqb p x) (elem p xs) (elem p ys)))
  where
    grouped : (a b c : Bool) → ((a || b) || c) ≡ (a || (b || c))
    grouped true b c = refl
    grouped false b c = refl

module _ (nodes : List ℕ) where
  elem_used : (p q : ℕ) → elem p (used_places nodes 1 (suc q)) ≡ (elem p (used_places nodes 1 q) || elem p (places_from (first_word_of nodes (q + 1)) (width nodes (q + 1))))
  elem_used p q =
      let e : 1 + q ≡ q + 1 = omega arith in
      ap (elem p) (used_snoc nodes 1 q) ∙ (elem_join p (used_places nodes 1 q) _ ∙ rw e)

  used_more : (p q k : ℕ) → q ≤ k → elem p (used_places nodes 1 q) ≡ true → elem p (used_places nodes 1 k) ≡ true
  used_more p q zero le e = let z : q ≡ 0 = omega arith in rw z at e
  used_more p q (suc k) le e = go (eq-or-lt_of_le le) (λ h. used_more p q k h e)
    where
      go : (q ≡ suc k) ⊎ (q < suc k) → (q ≤ k → elem p (used_places nodes 1 k) ≡ true) → elem p (used_places nodes 1 (suc k)) ≡ true
      go (inl h) on = rw h at e
      go (inr h) on = elem_used p k ∙ or_first _ _ (on (omega arith))

-- what `overlap` says
module _ (first count other size : ℕ) where
  share_at_lem : share first count other size ≡ true → (0 < count) × ((0 < size) × ((other < first + count) × (first < other + size)))
  unfolding share
  share_at_lem e =
      let a = and_true (ltb 0 count) _ e in
      let b = and_true (ltb 0 size) _ a.1 in
      let d = and_true (ltb other (first + count)) _ b.1 in
      (ltb-true _ _ a.0, (ltb-true _ _ b.0, (ltb-true _ _ d.0, ltb-true _ _ d.1)))

  shared : (p : ℕ) → first ≤ p → p < first + count → other ≤ p → p < other + size → share first count other size ≡ true
  unfolding share
  shared p a b d e = rw (lt-ltb 0 count (omega arith), lt-ltb 0 size (omega arith), lt-ltb other (first + count) (omega arith), lt-ltb first (other + size) (omega arith))

-- `has_new_places`: none of the node's is used by the nodes that are passed
pub record Unused (nodes : List ℕ) (node first count other : ℕ) : Type 0 where
  pub start : first ≡ first_word_of nodes node
  pub size : count ≡ width nodes node
  pub short : Short first count
  pub low : 1 ≤ other
  pub high : other ≤ node
  pub few : node ≤ 512
  pub none : all_from (unused_before nodes (other - 1)) first count ≡ true

pub unused_start : (nodes : List ℕ) (node : ℕ) {first count : ℕ} → first ≡ first_word_of nodes node → count ≡ width nodes node → first < 2 ^ 32 → count < 2 ^ 33 → 1 ≤ node → node ≤ 512
    → Unused nodes node first count 1
unfolding used_places elem
unused_start nodes node {first} {count} f w small narrow low few = record {
  start = f;
  size = w;
  short = record { start = small; size = narrow };
  low = omega arith;
  high = low;
  few = few;
  none = all_of (unused_before nodes 0) first count (λ j lt. refl);
}

module _ {nodes : List ℕ} {node first count other : ℕ} (go : Unused nodes node first count other) where
  pub ask_overlap : {begin size : ℕ} → begin < 2 ^ 32 → size < 2 ^ 33 → Short first count × Short begin size
  ask_overlap small narrow = (go.short, record { start = small; size = narrow })

  module _ (lt : other < node) {begin size : ℕ} {r : Bool} (b : begin ≡ first_word_of nodes other) (w : size ≡ width nodes other) (is : r ≡ share first count begin size) where
    last : suc (other - 1) ≡ other
    last = let l = go.low in omega arith

    used_last : (p : ℕ) → elem p (used_places nodes 1 other) ≡ (elem p (used_places nodes 1 (other - 1)) || elem p (places_from begin size))
    used_last p =
        let e : other - 1 + 1 ≡ other = let l = go.low in omega arith in
        let h = elem_used nodes p (other - 1) in
        rw (b, w) (rw (last, e) at h)

    pub unused_on : r ≡ false → Unused nodes node first count (other + 1)
    unused_on no-share = record {
      start = go.start;
      size = go.size;
      short = go.short;
      low = omega arith;
      high = omega arith;
      few = go.few;
      none = all_of (unused_before nodes (other + 1 - 1)) first count (λ j l.
          let z : other + 1 - 1 ≡ other = omega arith in
          let old : elem (first + j) (used_places nodes 1 (other - 1)) ≡ false = not-true _ (all_at (unused_before nodes (other - 1)) first count go.none j l) in
          let new : elem (first + j) (places_from begin size) ≡ false = outside (first + j) begin size (λ i k e.
          false≢true (sym no-share ∙ (is ∙ shared first count begin size (first + j) (omega arith) (omega arith) (omega arith) (omega arith)))) in
          let here : elem (first + j) (used_places nodes 1 other) ≡ false = used_last (first + j) ∙ or_both _ _ old new in
          rw (z, here));
    }

    -- the later of the two starts is in both
    common : (p : ℕ) → first ≤ p → p < first + count → begin ≤ p → p < begin + size → false ≡ new_places_at nodes (node - 1)
    unfolding new_places_at
    common p a d e f =
        let z : node - 1 + 1 ≡ node = let l = go.low in omega arith in
        let j : first + (p - first) ≡ p = omega arith in
        let used : elem p (used_places nodes 1 other) ≡ true = used_last p ∙ or_second (elem p (used_places nodes 1 (other - 1))) _ (in_places p begin size e f) in
        let more : elem p (used_places nodes 1 (node - 1)) ≡ true = used_more nodes p other (node - 1) (omega arith) used in
        let here : unused_before nodes (node - 1) (first + (p - first)) ≡ false = rw (j, more) in
        let start = go.start in
        let size = go.size in
        rw (z, ← start, ← size) (sym (all_fails_at (unused_before nodes (node - 1)) first count (p - first) (omega arith) here))

    pub unused_fails : r ≡ true → false ≡ new_places_at nodes (node - 1)
    unused_fails yes-share = at_last (share_at_lem first count begin size (sym is ∙ yes-share)) (leb first begin) refl
      where
        at_last : (0 < count) × ((0 < size) × ((begin < first + count) × (first < begin + size))) → (d : Bool) → leb first begin ≡ d → false ≡ new_places_at nodes (node - 1)
        at_last (c, (s, (h, k))) true e = let l = leb-true first begin e in common begin l h (omega arith) (omega arith)
        at_last (c, (s, (h, k))) false e = let l = leb-false first begin e in common first (omega arith) (omega arith) (omega arith) k

  pub unused_ends : node ≤ other → true ≡ new_places_at nodes (node - 1)
  unfolding new_places_at
  unused_ends le =
      let h = go.high in
      let l = go.low in
      let e : other ≡ node = omega arith in
      let z : node - 1 + 1 ≡ node = omega arith in
      let start = go.start in
      let size = go.size in
      rw (z, ← start, ← size) (sym (rw e at go.none))

-- `is_new_name`: the names that are passed differ from it
pub record Differing (names text : List ℕ) (name other : ℕ) : Type 0 where
  pub low : 1 ≤ other
  pub high : other ≤ name
  pub few : name ≤ 128
  pub scan : Scan (differ_at (tables [] [] [] names [] text) (name - 1)) 0 (name - 1) (other - 1)

pub differing_start : (names text : List ℕ) (name : ℕ) → 1 ≤ name → name ≤ 128 → Differing names text name 1
differing_start names text name low few = record { low = omega arith; high = low; few = few; scan = scan_start _ 0 (name - 1) }

module _ {names text : List ℕ} {name other : ℕ} (go : Differing names text name other) where
  module _ (lt : other < name) {own bytes : List ℕ} {r : Bool} (o : own ≡ name_bytes names text other) (b : bytes ≡ name_bytes names text name) (is : r ≡ same_bytes own bytes) where
    test : differ_at (tables [] [] [] names [] text) (name - 1) (0 + (other - 1)) ≡ not r
    test =
        let l = go.low in
        let x : 0 + (other - 1) + 1 ≡ other = omega arith in
        let y : name - 1 + 1 ≡ name = omega arith in
        rw (x, y, ← o, ← b, ← is)

    pub differing_on : r ≡ false → Differing names text name (other + 1)
    differing_on e =
        let l = go.low in
        let z : other + 1 - 1 ≡ other - 1 + 1 = omega arith in
        record { low = omega arith; high = omega arith; few = go.few; scan = rw z (scan_on go.scan (omega arith) (test ∙ ap not e)) }

    pub differing_fails : r ≡ true → false ≡ new_name_at (tables [] [] [] names [] text) (name - 1)
    differing_fails e = let l = go.low in scan_fails go.scan (omega arith) (test ∙ ap not e)

  pub differing_ends : name ≤ other → true ≡ new_name_at (tables [] [] [] names [] text) (name - 1)
  differing_ends le = scan_ends go.scan (omega arith)
