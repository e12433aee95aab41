-- Simple patterns and values by their marks.
use Prim.Native.Nat.{ℕ, ◌+◌, ◌-◌, ◌/◌, ◌≤◌, ◌<◌}
use mathlib.Core.Path.{◌≡◌, refl, sym, ap, ◌∙◌, fun_ext}
use mathlib.Core.List.{List, []}
use mathlib.Core.Bool.{Bool, true, false, ◌&&◌, ◌||◌, not}
use native.Mathlib.Omega.{arith}
use borrow.Author.Tests.{eq-eqb, ne_eqb, leb-true, le-leb, not-true, not-false}
use lib.Dec.{eqb, leb}
use lib.ListN.{length, get_or}
use Rattle.base.specs.Lists.{all_from}
use Rattle.table.specs.Tables.{Tables, tables, node_count, name_count, is_node}
use Rattle.table.specs.Decode.{expr}
use Rattle.table.specs.code.Sound.{Node}
use Rattle.table.proofs.tests.Bools.{and_true}
use Rattle.table.proofs.tests.Scan.{Scan, scan_start, scan_on, scan_fails, scan_ends}
use Rattle.planner.specs.code.Post.{GoodRoot}
use Rattle.planner.specs.Simple.{simple}
use Rattle.value.specs.Value.{is_value}
use Rattle.value.specs.code.Post.{is_marked, node_marks}
use Rattle.value.proofs.Marking.{marked_at}
use Rattle.run.specs.Operations.{listed_node, is_value_node, values_listed}
use Rattle.run.specs.code.ChecksPost.{marked_node, marked_if_listed, all_marked, ValuesAsks, AllAsks}

pub simple_told : (T : Tables) (node : ℕ) {marks : List ℕ} → GoodRoot T node → marks ≡ node_marks T true → eqb (get_or marks (node - 1) 0) 1 ≡ simple (expr T node)
simple_told T node g m = marked_at T true g.table m node g.node

pub node_of_test : (T : Tables) (n : ℕ) → is_node T n ≡ true → Node T n
node_of_test T n e = let b = and_true (leb 1 n) (leb n (node_count T)) e in record { low = leb-true 1 n b.0; high = leb-true n (node_count T) b.1 }

pub test_of_node : (T : Tables) (n : ℕ) → Node T n → is_node T n ≡ true
test_of_node T n v = let a = le-leb 1 n v.low in let b = le-leb n (node_count T) v.high in rw (a, b)

-- a node by the marks
module _ (nodes marks : List ℕ) (n : ℕ) where
  module _ {inside : Bool} (is : inside ≡ is_node (tables nodes [] [] [] [] []) n) where
    pub marked_low : inside ≡ true → 1 ≤ n
    marked_low t = (node_of_test (tables nodes [] [] [] [] []) n (sym is ∙ t)).low

    pub marked_place : length nodes / 5 ≤ 512 → inside ≡ true → n - 1 < 512
    marked_place few t = let v = node_of_test (tables nodes [] [] [] [] []) n (sym is ∙ t) in let l = v.low in let h = v.high in omega arith

    pub value_told : inside ≡ true → is_marked marks n ≡ marked_node nodes marks n
    value_told t = sym (ap (λ (b : Bool). b && is_marked marks n) (sym is ∙ t))

    pub value_outside : inside ≡ false → false ≡ marked_node nodes marks n
    value_outside t = sym (ap (λ (b : Bool). b && is_marked marks n) (sym is ∙ t))

  pub listed_none : n ≡ 0 → true ≡ marked_if_listed nodes marks n
  listed_none z = let e = eq-eqb n 0 z in rw e

  pub listed_some : {r : Bool} → (n ≡ 0 → ⊥) → r ≡ marked_node nodes marks n → r ≡ marked_if_listed nodes marks n
  listed_some nz is = let e = ne_eqb n 0 nz in rw e is

-- all entries of the list in turn
pub record Listing (nodes names marks values : List ℕ) (count i : ℕ) : Type 0 where
  pub asks : ValuesAsks nodes names values
  pub counted : count ≡ length names / 2
  pub scan : Scan (λ x. marked_if_listed nodes marks (listed_node values x)) 1 count i

pub listing_start : {nodes names marks values : List ℕ} {count : ℕ} → ValuesAsks nodes names values → count ≡ length names / 2 → Listing nodes names marks values count 0
listing_start {nodes} {names} {marks} {values} {count} a is = record { asks = a; counted = is; scan = scan_start (λ x. marked_if_listed nodes marks (listed_node values x)) 1 count }

module _ {nodes names marks values : List ℕ} {count i : ℕ} (go : Listing nodes names marks values count i) where
  module _ (more : i < count) where
    pub listing_inside : i < length values
    listing_inside = let l = go.asks.long in let e = go.counted in omega arith

    module _ {r : Bool} (is : r ≡ marked_if_listed nodes marks (get_or values i 0)) where
      next_entry : marked_if_listed nodes marks (listed_node values (1 + i)) ≡ r
      next_entry = let e : 1 + i - 1 ≡ i = omega arith in ap (λ (j : ℕ). marked_if_listed nodes marks (get_or values j 0)) e ∙ sym is

      pub listing_on : not r ≡ false → Listing nodes names marks values count (i + 1)
      listing_on t = record { asks = go.asks; counted = go.counted; scan = scan_on go.scan more (next_entry ∙ not-false r t) }

      pub listing_fails : not r ≡ true → false ≡ all_marked nodes names marks values
      unfolding all_marked
      listing_fails t = rw go.counted at (scan_fails go.scan more (next_entry ∙ not-true r t))

  pub listing_ends : count ≤ i → true ≡ all_marked nodes names marks values
  unfolding all_marked
  listing_ends le = rw go.counted at (scan_ends go.scan le)

-- the value, then the list
module _ (T : Tables) (value : ℕ) (values : List ℕ) (a : AllAsks T value values) where
  pub all_asks : ValuesAsks T.nodes T.names values
  all_asks = let m = a.good.table.limits.nodes in record { few = omega arith; long = a.long }

  module _ {marks : List ℕ} (m : marks ≡ node_marks T false) where
    node_is : (n : ℕ) → marked_node T.nodes marks n ≡ is_value_node T n
    node_is n = go (is_node T n) refl
      where
        go : (b : Bool) → is_node T n ≡ b → marked_node T.nodes marks n ≡ is_value_node T n
        go true e = ap (λ (b : Bool). is_node T n && b) (marked_at T false a.good.table m n (node_of_test T n e))
        go false e = rw e

    pub listed_is : all_marked T.nodes T.names marks values ≡ values_listed T values
    unfolding all_marked values_listed
    listed_is = ap (λ (p : ℕ → Bool). all_from p 1 (name_count T)) (fun_ext (λ x. ap (λ (b : Bool). eqb (listed_node values x) 0 || b) (node_is (listed_node values x))))

    module _ {ok : Bool} (is : ok ≡ marked_node T.nodes marks value) where
      value_is_lem : is_value (expr T value) ≡ ok
      value_is_lem = sym (is ∙ (node_is value ∙ ap (λ (b : Bool). b && is_value (expr T value)) (test_of_node T value a.good.node)))

      pub all_no_value : not ok ≡ true → false ≡ (is_value (expr T value) && values_listed T values)
      all_no_value t = sym (ap (λ (b : Bool). b && values_listed T values) (value_is_lem ∙ not-true ok t))

      pub all_told : {r : Bool} → not ok ≡ false → r ≡ all_marked T.nodes T.names marks values → r ≡ (is_value (expr T value) && values_listed T values)
      all_told t e = (e ∙ listed_is) ∙ sym (ap (λ (b : Bool). b && values_listed T values) (value_is_lem ∙ not-false ok t))
