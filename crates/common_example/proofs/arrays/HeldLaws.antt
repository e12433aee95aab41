-- Listed values are nodes, so the list that a run starts with is small enough.
use Prim.Native.Nat.{ℕ, ◌+◌, ◌-◌, ◌≤◌, ◌<◌}
use mathlib.Core.Bool.{Bool, true, false, cond, ◌&&◌, ◌||◌, false≢true}
use mathlib.Core.List.{List}
use mathlib.Core.Path.{◌≡◌, refl}
use native.Mathlib.Omega.{arith}
use borrow.Author.Tests.{eqb-true, leb-true, ltb-true, ltb-false}
use lib.Dec.{eqb, leb, ltb}
use lib.ListN.{get_or}
use Rattle.scope.specs.Scope.{is_unbound}
use Rattle.table.specs.Tables.{Tables, node_count, name_count}
use Rattle.table.specs.code.Sound.{WellFormed}
use Rattle.run.specs.Operations.{listed_node, is_value_node, values_listed}
use Rattle.run.specs.code.NamesPost.{StartOf}
use Rattle.common_example.specs.Operations.{PatternSide}
use Rattle.common_example.specs.code.arrays.NodePlaces.{HeldOk}
use Rattle.table.proofs.tests.Scan.{all_at}
use Rattle.table.specs.Decode.{expr}
use Rattle.value.specs.Value.{is_value}

pub start_few : (T : Tables) (s : PatternSide) {list : List ℕ} → WellFormed T → values_listed T s.values ≡ true → StartOf (name_count T) s.scope s.scoping s.values list → HeldOk list
unfolding values_listed
start_few T s {list} w ok st = record { few = λ i. at i (ltb i (name_count T)) refl }
  where
    one : (a b c d : Bool) (m : ℕ) → eqb m 0 ≡ a → leb 1 m ≡ b → leb m (node_count T) ≡ c → (a || ((b && c) && d)) ≡ true → m ≤ 512
    one true b c d m e f g h = let z = eqb-true m 0 e in omega (arith, z)
    one false true true d m e f g h = let z = leb-true m (node_count T) g in let l = w.limits.nodes in omega (arith, z, l)
    one false true false d m e f g h = absurd (false≢true h)
    one false false c d m e f g h = absurd (false≢true h)

    value_few : (i : ℕ) → i < name_count T → listed_node s.values (1 + i) ≤ 512
    value_few i lt =
        let m = listed_node s.values (1 + i) in
        one (eqb m 0) (leb 1 m) (leb m (node_count T)) (is_value (expr T m)) m refl refl refl (all_at (λ x. eqb (listed_node s.values x) 0 || is_value_node T (listed_node s.values x)) 1 (name_count T) ok i lt)

    at : (i : ℕ) (b : Bool) → ltb i (name_count T) ≡ b → get_or list i 0 ≤ 512
    at i true e =
        let lt = ltb-true i (name_count T) e in
        let h = st.each (1 + i) (omega arith) (omega arith) in
        let z : 1 + i - 1 ≡ i = omega arith in
        let few : get_or list (1 + i - 1) 0 ≤ 512 = rw h (either (is_unbound s.scope s.scoping (1 + i)) (value_few i lt)) in
        rw z at few
      where
        either : (u : Bool) {m : ℕ} → m ≤ 512 → cond u 0 m ≤ 512
        either true h = omega arith
        either false h = h
    at i false e = let q = st.rest i (ltb-false i (name_count T) e) in rw q (omega arith)
