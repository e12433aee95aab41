-- The depth of a tree is one more than the greatest of its children's, whatever its kind.
use Prim.Native.Nat.{ℕ, zero, suc, ◌+◌, ◌-◌, ◌*◌, ◌/◌, ◌^◌, ◌≤◌, ◌<◌, max}
use mathlib.Core.Path.{◌≡◌, refl, ap, ◌∙◌}
use mathlib.Core.Logic.{⊎_elim}
use mathlib.Core.List.{List}
use mathlib.Core.Bool.{Bool, true, false}
use mathlib.Core.Option.{Option, none, some}
use native.Mathlib.Omega.{arith}
use native.Mathlib.Nat.{eq-or-lt_of_le}
use borrow.Author.Tests.{eqb-true, eqb-false, le-leb, lt-leb}
use lib.Dec.{eqb}
use lib.ListN.{length, get_or, set, replicate, length-set}
use lib.Seq.{get_or-set_same, get_or-set_other}
use Rattle.literal.specs.Literal.{Literal}
use Rattle.table.specs.Tables.{Tables, kind_of, first_word_of, count_of, width, child_at}
use Rattle.table.specs.Expr.{Expr, depth, depth_all, depth_fields_lem}
use Rattle.table.specs.Decode.{items, fields, leaf_of, named_by, is_wildcard, literal_at, expr}
use Rattle.table.specs.code.Sound.{Node, WellFormed}
use Rattle.table.specs.code.Depths.{deepest, listed_depth, ChildrenAsks, DepthsAsks, Depths, shallow_at, DepthsTold}
use Rattle.table.proofs.tests.Scan.{Scan, scan_start, scan_on, scan_fails, scan_ends}
use Rattle.table.proofs.trees.Trees.{width_array, width_set, width_object, width_leaf, expr_name, expr_array, expr_set, expr_object, expr_leaf}

module _ (g : ℕ → Expr) (ch : List ℕ) where
  depth_items : (at k : ℕ) → depth_all (items g ch at k) ≡ deepest (λ (c : ℕ). depth (g c)) ch at k
  unfolding items depth_all deepest
  depth_items at zero = refl
  depth_items at (suc k) = rw (depth_items (at + 1) k)

  depth_fields : (at k : ℕ) → depth_fields_lem (fields g ch at k) ≡ deepest (λ (c : ℕ). depth (g c)) ch at (k * 2)
  unfolding fields depth_fields_lem deepest
  depth_fields at zero = refl
  depth_fields at (suc k) =
      let e : suc k * 2 ≡ suc (suc (k * 2)) = omega arith in
      let p : at + 1 + 1 ≡ at + 2 = omega arith in
      rw (e, p, depth_fields (at + 2) k)

depth_leaf : (n : ℕ) (l : Option Literal) → depth (leaf_of n l) ≡ 1
unfolding depth
depth_leaf n none = refl
depth_leaf n (some l) = refl

depth_named : (b : Bool) (n x : ℕ) → depth (named_by b n x) ≡ 1
unfolding depth
depth_named true n x = refl
depth_named false n x = refl

module _ (T : Tables) (w : WellFormed T) (n : ℕ) (v : Node T n) where
  below : ℕ → ℕ
  below = deepest (λ (c : ℕ). depth (expr T c)) T.children (first_word_of T.nodes n)

  -- by the number of child entries, as the kind says
  by_width : (k : ℕ) → width T.nodes n ≡ k → depth (expr T n) ≡ 1 + below k → depth (expr T n) ≡ 1 + below (width T.nodes n)
  by_width k e h = rw e h

  depth_step : depth (expr T n) ≡ 1 + below (width T.nodes n)
  unfolding depth below deepest
  depth_step = go (eqb (kind_of T.nodes n) 6) refl (eqb (kind_of T.nodes n) 7) refl (eqb (kind_of T.nodes n) 8) refl (eqb (kind_of T.nodes n) 9) refl
    where
      go : (a : Bool) → eqb (kind_of T.nodes n) 6 ≡ a → (b : Bool) → eqb (kind_of T.nodes n) 7 ≡ b → (d : Bool) → eqb (kind_of T.nodes n) 8 ≡ d → (h : Bool) → eqb (kind_of T.nodes n) 9 ≡ h
          → depth (expr T n) ≡ 1 + below (width T.nodes n)
      go true p b q d r h s =
          let k = eqb-true (kind_of T.nodes n) 6 p in
          by_width 0 (width_leaf (kind_of T.nodes n) (count_of T.nodes n) (λ e. omega arith) (λ e. omega arith) (λ e. omega arith))
          (ap depth (expr_name T w n v k) ∙ depth_named (is_wildcard T (first_word_of T.nodes n)) n (first_word_of T.nodes n))
      go false p true q d r h s =
          let k = eqb-true (kind_of T.nodes n) 7 q in
          by_width (count_of T.nodes n) (width_array (kind_of T.nodes n) (count_of T.nodes n) k)
          (ap depth (expr_array T w n v k) ∙ ap (λ (m : ℕ). 1 + m) (depth_items (expr T) T.children (first_word_of T.nodes n) (count_of T.nodes n)))
      go false p false q true r h s =
          let k = eqb-true (kind_of T.nodes n) 8 r in
          by_width (count_of T.nodes n) (width_set (kind_of T.nodes n) (count_of T.nodes n) k)
          (ap depth (expr_set T w n v k) ∙ ap (λ (m : ℕ). 1 + m) (depth_items (expr T) T.children (first_word_of T.nodes n) (count_of T.nodes n)))
      go false p false q false r true s =
          let k = eqb-true (kind_of T.nodes n) 9 s in
          by_width (count_of T.nodes n * 2) (width_object (kind_of T.nodes n) (count_of T.nodes n) k)
          (ap depth (expr_object T w n v k) ∙ ap (λ (m : ℕ). 1 + m) (depth_fields (expr T) T.children (first_word_of T.nodes n) (count_of T.nodes n)))
      go false p false q false r false s =
          let a = eqb-false (kind_of T.nodes n) 7 q in
          let b = eqb-false (kind_of T.nodes n) 8 r in
          let d = eqb-false (kind_of T.nodes n) 9 s in
          by_width 0 (width_leaf (kind_of T.nodes n) (count_of T.nodes n) a b d)
          (ap depth (expr_leaf T w n v (eqb-false (kind_of T.nodes n) 6 p) a b d) ∙ depth_leaf n (literal_at T n))

pub depths_of : (T : Tables) → WellFormed T → Depths T.nodes T.children (λ (n : ℕ). depth (expr T n))
unfolding below
depths_of T w = record { step = λ n low high. depth_step T w n (record { low = low; high = high }) }

-- accounts that agree at the children
deepest_same : (f g : ℕ → ℕ) (ch : List ℕ) (at k : ℕ) → ((i : ℕ) → i < k → f (child_at ch (at + i)) ≡ g (child_at ch (at + i))) → deepest f ch at k ≡ deepest g ch at k
unfolding deepest
deepest_same f g ch at zero same = refl
deepest_same f g ch at (suc k) same =
    let z : at + 0 ≡ at = omega arith in
    let here : f (child_at ch at) ≡ g (child_at ch at) = rw z at (same 0 (omega arith)) in
    let tail = deepest_same f g ch (at + 1) k (λ i lt. let e : at + (i + 1) ≡ at + 1 + i = omega arith in rw e at (same (i + 1) (omega arith))) in
    cc

-- `deepest_of`: the greatest so far, with those of the children that are left
pub record Deepening (children depths : List ℕ) (first count i deep : ℕ) : Type 0 where
  pub ask : ChildrenAsks children first count
  pub room : first + count < 2 ^ 64
  pub inside : i ≤ count
  pub same : max deep (deepest (listed_depth depths) children (first + i) (count - i)) ≡ deepest (listed_depth depths) children first count

pub deepening_start : (children depths : List ℕ) (first count : ℕ) → ChildrenAsks children first count → Deepening children depths first count 0 0
deepening_start children depths first count ask =
    let a : first + 0 ≡ first = omega arith in
    let b : count - 0 ≡ count = omega arith in
    record { ask = ask; room = ask.room; inside = omega arith; same = rw (a, b) (omega arith) }

module _ {children depths : List ℕ} {first count i deep : ℕ} (go : Deepening children depths first count i deep) where
  module _ (lt : i < count) {child : ℕ} (is : child ≡ child_at children (first + i)) where
    pub child_low : 1 ≤ child
    child_low = let h = (go.ask.nodes i lt).0 in omega arith

    pub child_high : child - 1 < 512
    child_high = let h = (go.ask.nodes i lt).1 in let l = child_low in omega arith

    pub deepening_on : {r : ℕ} → r ≡ max deep (get_or depths (child - 1) 0) → Deepening children depths first count (i + 1) r
    unfolding deepest
    deepening_on {r} e =
        let a : count - i ≡ suc (count - (i + 1)) = omega arith in
        let b : first + i + 1 ≡ first + (i + 1) = omega arith in
        let s = rw (a, ← is, b) at go.same in
        record { ask = go.ask; room = go.room; inside = omega arith; same = omega arith }

  pub deepening_ends : count ≤ i → deep ≡ deepest (listed_depth depths) children first count
  unfolding deepest
  deepening_ends le = let a : count - i ≡ 0 = omega arith in let s = rw a at go.same in omega arith

-- `depths_ok`: the depths of the nodes that are passed
pub record Deep (nodes children : List ℕ) (total n : ℕ) (depths : List ℕ) : Type 0 where
  pub ask : DepthsAsks nodes children
  pub few : length nodes / 5 ≤ 512
  pub all : total ≤ length nodes / 5
  pub inside : n ≤ total
  pub scan : (d : ℕ → ℕ) → Depths nodes children d → Scan (shallow_at d) 0 total n
  pub known : (d : ℕ → ℕ) → Depths nodes children d → (c : ℕ) → 1 ≤ c → c ≤ n → get_or depths (c - 1) 0 ≡ d c
  pub long : length depths ≡ 512

pub deep_start : (nodes children : List ℕ) (total : ℕ) → DepthsAsks nodes children → total ≤ length nodes / 5 → Deep nodes children total 0 (replicate 512 0)
deep_start nodes children total ask all = record {
  ask = ask;
  few = ask.few;
  all = all;
  inside = omega arith;
  scan = λ d is. scan_start (shallow_at d) 0 total;
  known = λ d is c low high. absurd (omega arith);
  long = refl;
}

module _ {nodes children : List ℕ} {total n : ℕ} {depths : List ℕ} (go : Deep nodes children total n depths) where
  module _ (lt : n < total) {first count : ℕ} (f : first ≡ first_word_of nodes (n + 1)) (w : count ≡ width nodes (n + 1)) where
    pub ask_children : first < 2 ^ 32 → count < 2 ^ 33 → ChildrenAsks children first count
    ask_children small narrow = record {
      room = omega arith;
      nodes = λ i l.
          let a = go.all in
          let b = go.ask.below (n + 1) (omega arith) (omega arith) i (omega arith) in
          let q = go.few in
          rw f (b.0, omega arith);
    }

    module _ {deep : ℕ} (is : deep ≡ deepest (listed_depth depths) children first count) where
      depth_here : (d : ℕ → ℕ) → Depths nodes children d → d (n + 1) ≡ 1 + deep
      depth_here d by =
          let a = go.all in
          let e = deepest_same (listed_depth depths) d children first count (λ i l.
          let b = go.ask.below (n + 1) (omega arith) (omega arith) i (omega arith) in
          let q : child_at children (first + i) ≡ child_at children (first_word_of nodes (n + 1) + i) = ap (λ (m : ℕ). child_at children (m + i)) f in
          go.known d by (child_at children (first + i)) (omega arith) (omega arith)) in
          let s : d (n + 1) ≡ 1 + deepest d children first count = rw (f, w) (by.step (n + 1) (omega arith) (omega arith)) in
          omega arith

      pub deep_fails : 31 < deep → DepthsTold nodes children total false
      deep_fails far = record {
        told = λ d by. let h = depth_here d by in let j : 0 + n + 1 ≡ n + 1 = omega arith in
            scan_fails (go.scan d by) lt (rw j (lt-leb (d (n + 1)) 32 (omega arith)));
      }

      pub deep_on : deep ≤ 31 → Deep nodes children total (n + 1) (set depths n (deep + 1))
      deep_on near = record {
        ask = go.ask;
        few = go.few;
        all = go.all;
        inside = omega arith;
        scan = λ d by. let h = depth_here d by in let j : 0 + n + 1 ≡ n + 1 = omega arith in
            scan_on (go.scan d by) lt (rw j (le-leb (d (n + 1)) 32 (omega arith)));
        known = λ d by c low high.
            let h = depth_here d by in
            let l = go.long in
            let q = go.few in
            let a = go.all in
            ⊎_elim
            (λ e. let z : c - 1 ≡ n = omega arith in let y : c ≡ n + 1 = omega arith in rw (z, y, get_or-set_same depths n (deep + 1) 0 (omega arith)) (omega arith))
            (λ less. let ne : c - 1 ≡ n → ⊥ = λ e. omega arith in get_or-set_other depths n (c - 1) (deep + 1) 0 ne ∙ go.known d by c low (omega arith))
            (eq-or-lt_of_le high);
        long = length-set depths n (deep + 1) ∙ go.long;
      }

  pub deep_ends : total ≤ n → DepthsTold nodes children total true
  deep_ends le = record { told = λ d by. scan_ends (go.scan d by) le }
