-- The functions on classes do what the definitions say.
use Prim.Native.Nat.{ℕ, ◌+◌, ◌≤◌, ◌<◌}
use mathlib.Core.Path.{◌≡◌, refl, sym, ap, ◌∙◌, fun_ext}
use mathlib.Core.Bool.{Bool, true, false, cond, ◌&&◌, ◌||◌, not}
use mathlib.Core.List.{List}
use native.Mathlib.Omega.{arith}
use borrow.Author.Tests.{eqb-true, eqb-false, eq-eqb, ne_eqb, leb-true, leb-false, not-true, not-false}
use lib.Dec.{eqb, leb}
use lib.ListN.{length, get_or, set, length-set}
use lib.Seq.{get_or-set_same, get_or-set_other}
use Rattle.tolerance.specs.code.Classes.{alike, equals, equal, free, Classes, larger, smaller, joined, open?}
use Rattle.base.specs.Lists.{all_from}
use Rattle.table.proofs.tests.Scan.{Scan, scan_on, scan_fails}
use Rattle.tolerance.specs.Tolerance.{Number, num_order}
use Rattle.tolerance.specs.declared.number.Number.{Number as StoredNumber}
use Rattle.tolerance.specs.declared.number.Range.{Range as StoredRange}
use Rattle.tolerance.specs.code.Post.{label_in, number_of, is_open, is_single, same_ends, zero_range, low_in, high_in, Narrowed, Stored, classes_in, LabelsOk, ClassesOk, RelabelAsks, Relabelled, NodeNumber, Joined, ranges_by}

-- 1. Ranges by label
module _ (ranges : List StoredRange) {k : ℕ} (inside : k < length ranges) (left : StoredRange) where
  range_here : get_or (set ranges k left) k zero_range ≡ left
  range_here = get_or-set_same ranges k left zero_range inside

  -- one end, the new one's at k
  each_end : (end : StoredRange → Number) {m : Number} → end left ≡ m → (j : ℕ) → end (get_or (set ranges k left) j zero_range) ≡ cond (eqb j k) m (end (get_or ranges j zero_range))
  each_end end {m} e j = go (eqb j k) refl
    where
      go : (b : Bool) → eqb j k ≡ b → end (get_or (set ranges k left) j zero_range) ≡ cond b m (end (get_or ranges j zero_range))
      go true q = let z = eqb-true j k q in rw z (ap end range_here ∙ e)
      go false q = ap end (get_or-set_other ranges k j left zero_range (eqb-false j k q))

-- 2. Labels
abbrev new_label : List ℕ → ℕ → ℕ → ℕ → ℕ
new_label before to from n = cond (eqb (label_in before n) from) to (label_in before n)

pub record Relabelling (before : List ℕ) (to from n : ℕ) (here : List ℕ) : Type 0 where
  pub asks : RelabelAsks before to from
  pub inside : n ≤ 513
  pub long : length here ≡ 513
  pub each : (j : ℕ) → j < n → label_in here j ≡ new_label before to from j
  pub rest : (j : ℕ) → n ≤ j → label_in here j ≡ label_in before j

pub relabelling_start : {before : List ℕ} {to from : ℕ} → RelabelAsks before to from → Relabelling before to from 0 before
relabelling_start a = record { asks = a; inside = omega arith; long = a.labels_ok.long; each = λ j lt. absurd (omega arith); rest = λ j le. refl }

module _ {before : List ℕ} {to from n : ℕ} {here : List ℕ} (go : Relabelling before to from n here) where
  pub relabelling_on : {new : ℕ} → n < length here → new ≡ cond (eqb (label_in here n) from) to (label_in here n) → Relabelling before to from (n + 1) (set here n new)
  relabelling_on {new} lt is = let l = go.long in record {
    asks = go.asks;
    inside = omega arith;
    long = length-set here n new ∙ go.long;
    each = λ j below. at j below (eqb j n) refl;
    rest = λ j le. get_or-set_other here n j new 0 (λ e. omega arith) ∙ go.rest j (omega arith);
  }
    where
      at : (j : ℕ) → j < n + 1 → (b : Bool) → eqb j n ≡ b → label_in (set here n new) j ≡ new_label before to from j
      at j below true q =
          let z = eqb-true j n q in
          let l = go.long in
          let old = go.rest n (omega arith) in
          let e : new ≡ new_label before to from n = is ∙ ap (λ (w : ℕ). cond (eqb w from) to w) old in
          rw z (get_or-set_same here n new 0 (omega arith) ∙ e)
      at j below false q = let d = eqb-false j n q in get_or-set_other here n j new 0 d ∙ go.each j (omega (arith, d))

  pub relabelling_ends : length here ≤ n → Relabelled before to from here
  relabelling_ends le = record { labels_ok = record { long = go.long; zero = zero_kept; low = low; high = high }; each = all }
    where
      ok : LabelsOk before
      ok = go.asks.labels_ok

      differs : 0 ≡ from → ⊥
      differs e = let l = go.asks.from_ok.low in omega arith

      past : (j : ℕ) → 513 ≤ j → label_in before j ≡ 0
      past j h = let l = ok.long in lib.ListN.get_or-eq_default before 0 (omega arith)

      all : (j : ℕ) → label_in here j ≡ new_label before to from j
      all j = by (leb 513 j) refl
        where
          by : (b : Bool) → leb 513 j ≡ b → label_in here j ≡ new_label before to from j
          by true q =
              let h = leb-true 513 j q in
              let i = go.inside in
              let z = past j h in
              let d = ne_eqb 0 from differs in
              go.rest j (omega arith) ∙ (z ∙ sym (ap (λ (w : ℕ). cond (eqb w from) to w) z ∙ rw d))
          by false q = let h = leb-false 513 j q in let l = go.long in go.each j (omega arith)

      either : (P : ℕ → Type 0) (w : ℕ) → P to → P w → P (cond (eqb w from) to w)
      either P w p q = by (eqb w from)
        where
          by : (b : Bool) → P (cond b to w)
          by true = p
          by false = q

      zero_kept : label_in here 0 ≡ 0
      zero_kept = let z = ok.zero in let d = ne_eqb 0 from differs in all 0 ∙ (ap (λ (w : ℕ). cond (eqb w from) to w) z ∙ rw d)

      low : (j : ℕ) → 1 ≤ j → j ≤ 512 → 1 ≤ label_in here j
      low j a b = rw (all j) (either (λ w. 1 ≤ w) (label_in before j) go.asks.to_ok.low (ok.low j a b))

      high : (j : ℕ) → label_in here j ≤ 512
      high j = rw (all j) (either (λ w. w ≤ 512) (label_in before j) go.asks.to_ok.high (ok.high j))

-- 3. Equalities
classes_eq : {l l' : ℕ → ℕ} {a a' b b' : ℕ → Number} → l ≡ l' → a ≡ a' → b ≡ b' → ◌≡◌ {A = Classes num_order} (record { label = l; low = a; high = b }) (record { label = l'; low = a'; high = b' })
classes_eq {l} {l'} {a} {a'} {b} {b'} p q r =
    ap (λ (f : ℕ → ℕ). record { label = f; low = a; high = b }) p
    ∙ (ap (λ (f : ℕ → Number). record { label = l'; low = f; high = b }) q ∙ ap (λ (f : ℕ → Number). record { label = l'; low = a'; high = f }) r)

module _ {labels : List ℕ} {ranges : List StoredRange} (ok : ClassesOk labels ranges) where
  label_node : {n : ℕ} → NodeNumber n → NodeNumber (label_in labels n)
  label_node {n} node = record { low = ok.labels_ok.low n node.low node.high; high = ok.labels_ok.high n }

  pub join_relabels : {a b : ℕ} → NodeNumber a → NodeNumber b → RelabelAsks labels (label_in labels a) (label_in labels b)
  join_relabels first second = record { labels_ok = ok.labels_ok; to_ok = label_node first; from_ok = label_node second }

  pub joined_ok : (k : ℕ) (left : StoredRange) {labels' : List ℕ} → LabelsOk labels' → ClassesOk labels' (set ranges k left)
  joined_ok k left new = record { labels_ok = new; ranges_long = length-set ranges k left ∙ ok.ranges_long }

  module _ (a : ℕ) where
    long_at : label_in labels a < length ranges
    long_at = let h = ok.labels_ok.high a in let l = ok.ranges_long in omega arith

    module _ {other left : StoredRange} (narrow : Narrowed (get_or ranges (label_in labels a) zero_range) other left) where
      -- its class is open if what is left of its range is
      opened : (labels' : List ℕ) {r : Bool} → label_in labels' a ≡ label_in labels a → r ≡ is_open left → r ≡ open? num_order a (classes_in (labels', set ranges (label_in labels a) left))
      opened labels' kept e =
          e ∙ (ap is_open (sym (range_here ranges long_at left))
          ∙ ap (λ (n : ℕ). is_open (get_or (set ranges (label_in labels a) left) n zero_range)) (sym kept))

      low_after : (j : ℕ) → low_in (set ranges (label_in labels a) left) j ≡ cond (eqb j (label_in labels a)) (larger num_order (low_in ranges (label_in labels a)) (number_of other.low)) (low_in ranges j)
      low_after = each_end ranges long_at left (λ r. number_of r.low) narrow.low

      high_after : (j : ℕ) → high_in (set ranges (label_in labels a) left) j ≡ cond (eqb j (label_in labels a)) (smaller num_order (high_in ranges (label_in labels a)) (number_of other.high)) (high_in ranges j)
      high_after = each_end ranges long_at left (λ r. number_of r.high) narrow.high

  -- two nodes
  pub joined_alike : {a b : ℕ} {stored : Stored} {left : StoredRange} {labels' : List ℕ} {r : Bool} → (labels, ranges) ≡ stored
      → Narrowed (get_or ranges (label_in labels a) zero_range) (get_or ranges (label_in labels b) zero_range) left
      → Relabelled labels (label_in labels a) (label_in labels b) labels' → r ≡ is_open left
      → Joined (alike a b) (classes_in stored) (classes_in (labels', set ranges (label_in labels a) left)) r
  joined_alike {a} {b} {stored} {left} {labels'} {r} v narrow new e =
      rw (← v) (record { classes = whole; left = opened a narrow labels' same_label e ∙ ap (open? num_order a) whole })
    where
      whole : classes_in (labels', set ranges (label_in labels a) left) ≡ joined num_order (alike a b) (classes_in (labels, ranges))
      whole = classes_eq (fun_ext new.each) (fun_ext (low_after a narrow)) (fun_ext (high_after a narrow))

      pick : (c : Bool) (n : ℕ) → cond c n n ≡ n
      pick true n = refl
      pick false n = refl

      same_label : label_in labels' a ≡ label_in labels a
      same_label = new.each a ∙ pick (eqb (label_in labels a) (label_in labels b)) (label_in labels a)

  -- a node and a number
  pub joined_equals : {a : ℕ} (number : StoredNumber) {stored : Stored} {left : StoredRange} {r : Bool} → (labels, ranges) ≡ stored
      → Narrowed (get_or ranges (label_in labels a) zero_range) (record { low = number; high = number }) left → r ≡ is_open left
      → Joined (equals a (number_of number)) (classes_in stored) (classes_in (labels, set ranges (label_in labels a) left)) r
  joined_equals {a} number {stored} {left} {r} v narrow e =
      rw (← v) (record { classes = whole; left = opened a narrow labels refl e ∙ ap (open? num_order a) whole })
    where
      whole : classes_in (labels, set ranges (label_in labels a) left) ≡ joined num_order (equals a (number_of number)) (classes_in (labels, ranges))
      whole = classes_eq refl (fun_ext (low_after a narrow)) (fun_ext (high_after a narrow))

-- 4. The look at each node
module _ (labels : List ℕ) (left ranges : List StoredRange) (n : ℕ) {stored : Stored} (v : (labels, left) ≡ stored) where
  abbrev is_free : Bool
  is_free = free num_order (ranges_by ranges) (classes_in stored) n

  abbrev lone : Bool
  lone = eqb (label_in labels n) n || is_single (get_or ranges n zero_range)

  module _ {x : Bool} (same : x ≡ same_ends (get_or left (label_in labels n) zero_range) (get_or ranges n zero_range)) where
    free_as : is_free ≡ (x && lone)
    unfolding free
    free_as =
        ap (λ (s : Stored). free num_order (ranges_by ranges) (classes_in s) n) (sym v)
        ∙ (assoc (equal num_order (low_in left (label_in labels n)) (low_in ranges n)) (equal num_order (high_in left (label_in labels n)) (high_in ranges n)) ∙ ap (λ (b : Bool). b && lone) (sym same))
      where
        assoc : (l h : Bool) → (l && (h && lone)) ≡ ((l && h) && lone)
        assoc true h = refl
        assoc false h = refl

    pub free_ends : not x ≡ true → false ≡ is_free
    free_ends t = sym (free_as ∙ ap (λ (b : Bool). b && lone) (not-true x t))

    module _ (held : not x ≡ false) where
      free_rest : is_free ≡ lone
      free_rest = free_as ∙ ap (λ (b : Bool). b && lone) (not-false x held)

      pub free_own : label_in labels n ≡ n → true ≡ is_free
      free_own e = let q = eq-eqb (label_in labels n) n e in sym (free_rest ∙ rw q)

      pub free_single : (label_in labels n ≡ n → ⊥) → {z : Bool} → z ≡ is_single (get_or ranges n zero_range) → z ≡ is_free
      free_single d {z} e = let q = ne_eqb (label_in labels n) n d in e ∙ sym (free_rest ∙ rw q)

-- every node in turn
module _ {p : ℕ → Bool} {i : ℕ} (go : Scan p 1 512 i) where
  module _ (more : i < 512) {r : Bool} (is : r ≡ p (i + 1)) where
    next_node : p (1 + i) ≡ r
    next_node = let e : 1 + i ≡ i + 1 = omega arith in ap p e ∙ sym is

    pub looking_on : not r ≡ false → Scan p 1 512 (i + 1)
    looking_on t = scan_on go more (next_node ∙ not-false r t)

    pub looking_fails : not r ≡ true → false ≡ all_from p 1 512
    looking_fails t = scan_fails go more (next_node ∙ not-true r t)
