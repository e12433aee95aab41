-- A pattern has no more entries than parts, and an object no more ordered fields than written ones.
use Prim.Native.Nat.{ℕ, zero, suc, ◌+◌, ◌≤◌}
use mathlib.Core.Path.{◌≡◌, refl}
use mathlib.Core.List.{List, [], ◌∷◌, ◌++◌, map}
use mathlib.Core.Option.{Option}
use native.Mathlib.Omega.{arith}
use lib.ListN.{length, length-append}
use Rattle.literal.specs.Literal.{Literal}
use Rattle.literal.specs.Order.{Order, less, same, more, key_order}
use Rattle.table.specs.Expr.{Expr, literal, name, wildcard, array, object, other, Exprs, none, item, Fields, done, field, node_of, count_fields, parts, parts_all, parts_fields}
use Rattle.table.specs.Tables.{Tables}
use Rattle.table.specs.Decode.{expr}
use Rattle.table.specs.code.Sound.{Node, WellFormed}
use Rattle.table.proofs.trees.Forest.{forest, tree_few}
use Rattle.planner.specs.Layout.{Entry, Place, below, literal_key, Slot, placed, insert, FieldOrder, no_fields, add_field, held_in, in_order, concat}
use Rattle.planner.specs.code.Passes.{lay_out, lay_out_all, lay_out_fields, order_from}

-- the weights of a list's elements, summed
unfoldable pub total : {A : Type 0} → (A → ℕ) → List A → ℕ
total w [] = 0
total w (a ∷ l) = w a + total w l

module _ {A : Type 0} (w : A → ℕ) where
  pub total_append : (xs ys : List A) → total w (xs ++ ys) ≡ total w xs + total w ys
  unfolding total
  total_append [] ys = omega arith
  total_append (x ∷ xs) ys = let e = total_append xs ys in omega arith

  insert_total : (s : Slot A) (ss : List (Slot A)) → total w (map held_in (insert s ss)) ≤ w s.held + total w (map held_in ss)
  unfolding total insert
  insert_total s [] = omega arith
  insert_total s (t ∷ ts) = go (key_order s.at t.at) (insert_total s ts)
    where
      go : (o : Order) → total w (map held_in (insert s ts)) ≤ w s.held + total w (map held_in ts)
          → total w (map held_in (placed o s t ts (insert s ts))) ≤ w s.held + (w t.held + total w (map held_in ts))
      go less h = omega arith
      go same h = omega arith
      go more h = omega arith

  -- a field adds at most its own weight
  pub add_total : (k : Option Literal) (a : A) (o : FieldOrder A) → total w (in_order (add_field k a o)) ≤ w a + total w (in_order o)
  unfolding total
  add_total Option.none a o =
      let x = total_append (map held_in o.literals) (o.computed ++ (a ∷ [])) in
      let y = total_append o.computed (a ∷ []) in
      let z = total_append (map held_in o.literals) o.computed in
      omega arith
  add_total (Option.some l) a o =
      let s : Slot A = record { at = l; held = a } in
      let x = total_append (map held_in (insert s o.literals)) o.computed in
      let z = total_append (map held_in o.literals) o.computed in
      let h = insert_total s o.literals in
      omega arith

-- lengths as weights
abbrev pub one : {A : Type 0} → A → ℕ
one a = 1

pub total_one : {A : Type 0} (l : List A) → total one l ≡ length l
unfolding total
total_one [] = refl
total_one (a ∷ l) = let e = total_one l in omega arith

pub total_length : {A : Type 0} (ls : List (List A)) → total length ls ≡ length (concat ls)
unfolding total concat
total_length [] = refl
total_length (l ∷ ls) = let e = total_length ls in let a = length-append l (concat ls) in omega arith

module _ {A : Type 0} (k : Option Literal) where
  pub add_length : (a : A) (o : FieldOrder A) → length (in_order (add_field k a o)) ≤ 1 + length (in_order o)
  add_length a o =
      let h = add_total one k a o in
      let x = total_one (in_order (add_field k a o)) in
      let y = total_one (in_order o) in
      omega arith

  pub add_concat : (l : List A) (o : FieldOrder (List A)) → length (concat (in_order (add_field k l o))) ≤ length l + length (concat (in_order o))
  add_concat l o =
      let h = add_total length k l o in
      let x = total_length (in_order (add_field k l o)) in
      let y = total_length (in_order o) in
      omega arith

pub order_few : (key : ℕ → Option Literal) (i k : ℕ) (o : FieldOrder ℕ) → length (in_order (order_from key i k o)) ≤ k + length (in_order o)
unfolding order_from
order_few key i zero o = omega arith
order_few key i (suc k) o =
    let h = order_few key (i + 1) k (add_field (key i) i o) in
    let a = add_length (key i) i o in
    omega arith

module _ (b : List ℕ) where
  pub fields_few : (fs : Fields) (i : ℕ) (o : FieldOrder (List Entry)) → length (in_order (lay_out_fields b fs i o)) ≤ count_fields fs + length (in_order o)
  unfolding lay_out count_fields
  fields_few done i o = omega arith
  fields_few (field k v fs) i o =
      let h = fields_few fs (i + 1) (add_field (literal_key k) (lay_out b v (below (node_of k) i)) o) in
      let a = add_length (literal_key k) (lay_out b v (below (node_of k) i)) o in
      omega arith

  pub object_few : (fs : Fields) → length (in_order (lay_out_fields b fs 1 no_fields)) ≤ count_fields fs
  object_few fs = let h = fields_few fs 1 no_fields in omega arith

  mutual
    unfolding lay_out parts concat

    pub lay_few : (e : Expr) (key : Place) → length (lay_out b e key) ≤ length (parts e)
    lay_few (literal n l) key = omega arith
    lay_few (name n x) key = omega arith
    lay_few (wildcard n) key = omega arith
    lay_few (array n es) key = let h = lay_few_all es 1 in omega arith
    lay_few (Expr.set n es) key = omega arith
    lay_few (object n fs) key = let h = lay_few_fields fs 1 no_fields in omega arith
    lay_few (other n) key = omega arith

    pub lay_few_all : (es : Exprs) (i : ℕ) → length (lay_out_all b es i) ≤ length (parts_all es)
    lay_few_all none i = omega arith
    lay_few_all (item e es) i =
        let h = lay_few e (below 0 i) in
        let t = lay_few_all es (i + 1) in
        let x = length-append (lay_out b e (below 0 i)) (lay_out_all b es (i + 1)) in
        let y = length-append (parts e) (parts_all es) in
        omega arith

    pub lay_few_fields : (fs : Fields) (i : ℕ) (o : FieldOrder (List Entry))
        → length (concat (in_order (lay_out_fields b fs i o))) ≤ length (parts_fields fs) + length (concat (in_order o))
    lay_few_fields done i o = omega arith
    lay_few_fields (field k v fs) i o =
        let h = lay_few v (below (node_of k) i) in
        let t = lay_few_fields fs (i + 1) (add_field (literal_key k) (lay_out b v (below (node_of k) i)) o) in
        let a = add_concat (literal_key k) (lay_out b v (below (node_of k) i)) o in
        let x = length-append (parts k) (parts v ++ parts_fields fs) in
        let y = length-append (parts v) (parts_fields fs) in
        omega arith

module _ (T : Tables) (w : WellFormed T) (b : List ℕ) (n : ℕ) (v : Node T n) (key : Place) where
  -- no more than the node's number
  pub lay_space_of : length (lay_out b (expr T n) key) ≤ n
  lay_space_of =
      let h = lay_few b (expr T n) key in
      let f = (forest T w n v).few in
      omega arith

  pub lay_few_of : length (lay_out b (expr T n) key) ≤ 512
  lay_few_of =
      let h = lay_few b (expr T n) key in
      let f = tree_few T w n v in
      omega arith
