-- The list of value nodes by name number, as the values that names have.
use Prim.Native.Nat.{ℕ, ◌+◌, ◌-◌, ◌≤◌}
use mathlib.Core.Path.{◌≡◌, refl, sym, ap, ◌∙◌, fun_ext}
use mathlib.Core.List.{List}
use mathlib.Core.Bool.{Bool, true, false, cond}
use mathlib.Core.Option.{none, some}
use native.Mathlib.Omega.{arith}
use borrow.Author.Tests.{eqb-true, eqb-false, ne_eqb}
use lib.Dec.{eqb}
use lib.ListN.{get_or, set, length-set}
use lib.Seq.{get_or-set_same, get_or-set_other, ext_get_or}
use Rattle.table.specs.Tables.{Tables}
use Rattle.table.specs.Decode.{expr}
use Rattle.table.specs.code.Sound.{WellFormed}
use Rattle.base.specs.Lists.{tabulate}
use Rattle.planner.proofs.buffer.Filling.{length_tabulate, get_d_tabulate}
use Rattle.planner.proofs.fields.Objects.{node_of_lem}
use Rattle.value.specs.Value.{value_of, value_at, node_in}
use Rattle.value.proofs.Node as Node·
use Rattle.value.specs.code.Post.{ValueNode}
use Rattle.matching.specs.Matching.{pick_value, assign}
use Rattle.matching.specs.code.Post.{env_of, ListOk}

-- a value's node has a value
pub node_value : (T : Tables) (n : ℕ) → (n ≡ 0 → ⊥) → value_at T n ≡ some (value_of (expr T n))
node_value T n nz = let z = ne_eqb n 0 nz in rw z

pub value_some : {T : Tables} {n : ℕ} → ValueNode T n → n ≡ 0 → ⊥
value_some v e = let l = v.node.low in omega arith

module _ (T : Tables) (x : ℕ) (low : 1 ≤ x) (list : List ℕ) where
  -- a name's value is that of its place
  pub env_at : env_of T list x ≡ value_at T (get_or list (x - 1) 0)
  env_at = let z = ne_eqb x 0 (λ e. omega arith) in rw z

  module _ (high : x ≤ 128) (value : ℕ) (ok : ListOk T list) (v : ValueNode T value) where
    pub set_ok : ListOk T (set list (x - 1) value)
    set_ok = record { long = length-set list (x - 1) value ∙ ok.long; each = λ i nz. at i nz (eqb i (x - 1)) refl }
      where
        at : (i : ℕ) → (get_or (set list (x - 1) value) i 0 ≡ 0 → ⊥) → (b : Bool) → eqb i (x - 1) ≡ b → ValueNode T (get_or (set list (x - 1) value) i 0)
        at i nz true p =
            let q = eqb-true i (x - 1) p in
            let long = ok.long in
            let e : get_or (set list (x - 1) value) i 0 ≡ value = ap (λ (j : ℕ). get_or (set list (x - 1) value) j 0) q ∙ get_or-set_same list (x - 1) value 0 (omega arith) in
            rw e v
        at i nz false p =
            let e : get_or (set list (x - 1) value) i 0 ≡ get_or list i 0 = get_or-set_other list (x - 1) i value 0 (eqb-false i (x - 1) p) in
            rw e (ok.each i (λ z. nz (e ∙ z)))

    pub env_set : assign x (value_of (expr T value)) (env_of T list) ≡ env_of T (set list (x - 1) value)
    env_set = fun_ext (λ y. at y (eqb y x) refl (eqb y 0) refl)
      where
        at : (y : ℕ) (b : Bool) → eqb y x ≡ b → (c : Bool) → eqb y 0 ≡ c → pick_value b (some (value_of (expr T value))) (env_of T list y) ≡ env_of T (set list (x - 1) value) y
        at y true p c z =
            let q = eqb-true y x p in
            let long = ok.long in
            let here : get_or (set list (x - 1) value) (x - 1) 0 ≡ value = get_or-set_same list (x - 1) value 0 (omega arith) in
            let nx = ne_eqb x 0 (λ e. omega arith) in
            rw q (rw nx (rw here (sym (node_value T value (value_some v)))))
        at y false p true z = rw z
        at y false p false z =
            let q = eqb-false y x p in
            let ny = eqb-false y 0 z in
            let there : get_or (set list (x - 1) value) (y - 1) 0 ≡ get_or list (y - 1) 0 = get_or-set_other list (x - 1) (y - 1) value 0 (λ e. q (omega (arith, ny))) in
            rw (z, there)

-- the node of a name's value is what its place holds
place_node : {T : Tables} {list : List ℕ} → WellFormed T → ListOk T list → (i : ℕ) → node_in (env_of T list (i + 1)) ≡ get_or list i 0
place_node {T} {list} w ok i =
    let q : i + 1 - 1 ≡ i = omega arith in
    ap node_in (env_at T (i + 1) (omega arith) list) ∙ rw q (go (eqb (get_or list i 0) 0) refl)
  where
    go : (b : Bool) → eqb (get_or list i 0) 0 ≡ b → node_in (cond (eqb (get_or list i 0) 0) none (some (value_of (expr T (get_or list i 0))))) ≡ get_or list i 0
    go true z = let e = eqb-true (get_or list i 0) 0 z in rw z (sym e)
    go false z =
        let v = ok.each i (eqb-false (get_or list i 0) 0 z) in
        rw z (Node·.value_node_lem (expr T (get_or list i 0)) ∙ node_of_lem T w (get_or list i 0) v.node)

pub whole_list : {T : Tables} {list : List ℕ} → WellFormed T → ListOk T list → list ≡ tabulate (λ i. node_in (env_of T list (i + 1))) 0 128
whole_list {T} {list} w ok =
    ext_get_or 0 list (tabulate (λ i. node_in (env_of T list (i + 1))) 0 128) (ok.long ∙ sym (length_tabulate (λ i. node_in (env_of T list (i + 1))) 0 128)) (λ i lt.
    let long = ok.long in
    let z : 0 + i ≡ i = omega arith in
    sym (get_d_tabulate (λ j. node_in (env_of T list (j + 1))) 0 128 i (omega arith) ∙ (ap (λ (j : ℕ). node_in (env_of T list (j + 1))) z ∙ place_node w ok i)))
