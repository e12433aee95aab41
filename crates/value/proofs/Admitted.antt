-- What is admitted of a node is admitted of its parts.
use Prim.Native.Nat.{ℕ, zero, suc, ◌+◌, ◌*◌, ◌≤◌, ◌<◌}
use mathlib.Core.Path.{◌≡◌, refl, ap}
use mathlib.Core.List.{List, ◌∷◌}
use mathlib.Core.Bool.{Bool, true, false, cond, ◌&&◌, false≢true}
use mathlib.Core.Option.{Option}
use native.Mathlib.Omega.{arith}
use borrow.Author.Tests.{eqb-true, eqb-false}
use lib.Dec.{T, eqb}
use Rattle.literal.specs.Literal.{Literal}
use Rattle.table.specs.Tables.{Tables, kind_of, first_word_of, count_of, child_at}
use Rattle.table.specs.Expr as Expr
use Rattle.table.specs.Expr.{Expr, literal, name, wildcard, array, set, object, other, Exprs, item, Fields, done, field}
use Rattle.table.specs.Decode.{expr, items, fields, is_wildcard, fields_of}
use Rattle.table.specs.code.Sound.{Node, WellFormed}
use Rattle.table.proofs.tests.Bools.{and_true}
use Rattle.table.proofs.trees.Trees.{expr_name, expr_array, expr_object, width_array, width_object, child_node}
use Rattle.planner.specs.Layout.{literal_key}
use Rattle.planner.specs.code.Passes.{key_node, value_node}
use Rattle.planner.specs.Simple.{add_key, keys_of, is_literal, differing, admitted, admitted_all, admitted_fields}
use Rattle.planner.proofs.destructuring.NodeKinds.{Plain, plain_literal, plain_set, plain_other, plain_kind}
use Rattle.value.specs.Value.{is_value, filled_field, value_of, values_of, value_fields_of, keysᵛ, proper, proper_all_lem, proper_fields_lem, Proper}
use Rattle.value.specs.code.Post.{ChildrenAsks, KeyedObject, ValueNode}
use Rattle.value.proofs.Keys.{and_left, and_right, both}

-- an object's keys are those of its value
pub value_keys : (fs : Fields) → keysᵛ (value_fields_of fs) ≡ keys_of fs
unfolding keysᵛ value_of keys_of
value_keys done = refl
value_keys (field k v fs) = go (literal_key k) (value_keys fs)
  where
    go : (κ : Option Literal) → keysᵛ (value_fields_of fs) ≡ keys_of fs → keysᵛ (filled_field κ (value_of v) (value_fields_of fs)) ≡ add_key κ (keys_of fs)
    go (Option.some l) e = ap (λ (ls : List Literal). l ∷ ls) e
    go Option.none e = e

-- the value of an expression that is one has differing keys in each object
mutual
  unfolding admitted value_of proper

  pub value_proper : (e : Expr) → T (is_value e) → Proper (value_of e)
  value_proper (literal n l) p = tt
  value_proper (name n x) p = tt
  value_proper (wildcard n) p = tt
  value_proper (array n es) p = values_proper es p
  value_proper (set n es) p = tt
  value_proper (object n fs) p =
      both (differing (keysᵛ (value_fields_of fs))) (proper_fields_lem (value_fields_of fs))
      (rw (value_keys fs) (and_left (differing (keys_of fs)) (admitted_fields false fs) p))
      (fields_proper fs (and_right (differing (keys_of fs)) (admitted_fields false fs) p))
  value_proper (other n) p = tt

  values_proper : (es : Exprs) → T (admitted_all false es) → T (proper_all_lem (values_of es))
  values_proper Expr.none p = tt
  values_proper (item e es) p =
      both (proper (value_of e)) (proper_all_lem (values_of es)) (value_proper e (and_left (is_value e) (admitted_all false es) p)) (values_proper es (and_right (is_value e) (admitted_all false es) p))

  fields_proper : (fs : Fields) → T (admitted_fields false fs) → T (proper_fields_lem (value_fields_of fs))
  fields_proper done p = tt
  fields_proper (field k v fs) p =
      let q : T (is_value v && admitted_fields false fs) = and_right (is_literal (literal_key k)) (is_value v && admitted_fields false fs) p in
      go (literal_key k) (value_proper v (and_left (is_value v) (admitted_fields false fs) q)) (fields_proper fs (and_right (is_value v) (admitted_fields false fs) q))
    where
      go : (κ : Option Literal) → Proper (value_of v) → T (proper_fields_lem (value_fields_of fs)) → T (proper_fields_lem (filled_field κ (value_of v) (value_fields_of fs)))
      go (Option.some l) s t = both (proper (value_of v)) (proper_fields_lem (value_fields_of fs)) s t
      go Option.none s t = t

-- items and fields, one by one
module _ (b : Bool) (g : ℕ → Expr) (ch : List ℕ) where
  pub item_admitted : (at k : ℕ) → admitted_all b (items g ch at k) ≡ true → (i : ℕ) → i < k → admitted b (g (child_at ch (at + i))) ≡ true
  unfolding items admitted
  item_admitted at zero e i lt = absurd (omega arith)
  item_admitted at (suc k) e zero lt = let z : at + 0 ≡ at = omega arith in rw z (and_true (admitted b (g (child_at ch at))) (admitted_all b (items g ch (at + 1) k)) e).0
  item_admitted at (suc k) e (suc i) lt =
      let z : at + suc i ≡ at + 1 + i = omega arith in
      rw z (item_admitted (at + 1) k (and_true (admitted b (g (child_at ch at))) (admitted_all b (items g ch (at + 1) k)) e).1 i (omega arith))

  pub field_admitted : (at k : ℕ) → admitted_fields b (fields g ch at k) ≡ true → (i : ℕ) → i < k
      → (is_literal (literal_key (g (child_at ch (at + i * 2)))) ≡ true) × (admitted b (g (child_at ch (at + i * 2 + 1))) ≡ true)
  unfolding fields admitted
  field_admitted at zero e i lt = absurd (omega arith)
  field_admitted at (suc k) e zero lt =
      let z : at + 0 * 2 ≡ at = omega arith in
      let p = and_true (is_literal (literal_key (g (child_at ch at)))) (admitted b (g (child_at ch (at + 1))) && admitted_fields b (fields g ch (at + 2) k)) e in
      rw z (p.0, (and_true (admitted b (g (child_at ch (at + 1)))) (admitted_fields b (fields g ch (at + 2) k)) p.1).0)
  field_admitted at (suc k) e (suc i) lt =
      let z : at + suc i * 2 ≡ at + 2 + i * 2 = omega arith in
      let p = and_true (is_literal (literal_key (g (child_at ch at)))) (admitted b (g (child_at ch (at + 1))) && admitted_fields b (fields g ch (at + 2) k)) e in
      rw z (field_admitted (at + 2) k (and_true (admitted b (g (child_at ch (at + 1)))) (admitted_fields b (fields g ch (at + 2) k)) p.1).1 i (omega arith))

-- in a table

module _ (T : Tables) (w : WellFormed T) (n : ℕ) (v : Node T n) where
  -- a key that is a literal has the kind of one
  pub literal_kind_lem : is_literal (literal_key (expr T n)) ≡ true → kind_of T.nodes n ≤ 5
  literal_kind_lem e = go (eqb (kind_of T.nodes n) 6) refl (eqb (kind_of T.nodes n) 7) refl (eqb (kind_of T.nodes n) 9) refl
    where
      by : (e : Expr) → expr T n ≡ e → Plain (kind_of T.nodes n) n e → is_literal (literal_key e) ≡ true → kind_of T.nodes n ≤ 5
      by e q (plain_literal l h) t = h
      by e q (plain_set es h) t = absurd (false≢true t)
      by e q (plain_other h) t = absurd (false≢true t)

      named : (c : Bool) (x : ℕ) → is_literal (literal_key (cond c (wildcard n) (name n x))) ≡ true → kind_of T.nodes n ≤ 5
      named true x t = absurd (false≢true t)
      named false x t = absurd (false≢true t)

      go : (a : Bool) → eqb (kind_of T.nodes n) 6 ≡ a → (b : Bool) → eqb (kind_of T.nodes n) 7 ≡ b → (d : Bool) → eqb (kind_of T.nodes n) 9 ≡ d → kind_of T.nodes n ≤ 5
      go true p b q d r = named (is_wildcard T (first_word_of T.nodes n)) (first_word_of T.nodes n) (rw (expr_name T w n v (eqb-true (kind_of T.nodes n) 6 p)) at e)
      go false p true q d r = absurd (false≢true (rw (expr_array T w n v (eqb-true (kind_of T.nodes n) 7 q)) at e))
      go false p false q true r = absurd (false≢true (rw (expr_object T w n v (eqb-true (kind_of T.nodes n) 9 r)) at e))
      go false p false q false r =
          let s = plain_kind T w n v (eqb-false (kind_of T.nodes n) 6 p) (eqb-false (kind_of T.nodes n) 7 q) (eqb-false (kind_of T.nodes n) 9 r) in
          by s.0 s.1 s.2 (rw s.1 at e)

  -- an array's items, an object's keys and values
  module _ (b : Bool) (is : admitted b (expr T n) ≡ true) where
    pub array_item : kind_of T.nodes n ≡ 7 → (i : ℕ) → i < count_of T.nodes n → admitted b (expr T (child_at T.children (first_word_of T.nodes n + i))) ≡ true
    unfolding admitted
    array_item k = item_admitted b (expr T) T.children (first_word_of T.nodes n) (count_of T.nodes n) (rw (expr_array T w n v k) at is)

    object_parts : kind_of T.nodes n ≡ 9 → (differing (keys_of (fields_of T n)) ≡ true) × (admitted_fields b (fields_of T n) ≡ true)
    unfolding admitted
    object_parts k = and_true (differing (keys_of (fields_of T n))) (admitted_fields b (fields_of T n)) (rw (expr_object T w n v k) at is)

    object_field : kind_of T.nodes n ≡ 9 → (i : ℕ) → i < count_of T.nodes n
        → (is_literal (literal_key (expr T (key_node T (first_word_of T.nodes n) i))) ≡ true) × (admitted b (expr T (value_node T (first_word_of T.nodes n) i)) ≡ true)
    object_field k = field_admitted b (expr T) T.children (first_word_of T.nodes n) (count_of T.nodes n) (object_parts k).1

    pub object_value : kind_of T.nodes n ≡ 9 → (i : ℕ) → i < count_of T.nodes n → admitted b (expr T (value_node T (first_word_of T.nodes n) i)) ≡ true
    object_value k i lt = (object_field k i lt).1

  -- the children of an array and of an object
  pub array_children : kind_of T.nodes n ≡ 7 → ChildrenAsks T (first_word_of T.nodes n) 1 (count_of T.nodes n)
  array_children k =
      let wide = width_array (kind_of T.nodes n) (count_of T.nodes n) k in
      let listed = w.listed n v (omega arith) (omega arith) in
      record { table = w; each = λ i lt. child_node T w n v i (omega arith); listed = omega arith }

  pub object_children : kind_of T.nodes n ≡ 9 → ChildrenAsks T (first_word_of T.nodes n) 2 (count_of T.nodes n)
  object_children k =
      let wide = width_object (kind_of T.nodes n) (count_of T.nodes n) k in
      let listed = w.listed n v (omega arith) (omega arith) in
      record { table = w; each = λ i lt. child_node T w n v i (omega arith); listed = omega arith }

-- child entries of fields
module _ {T : Tables} {at left : ℕ} (a : ChildrenAsks T at 2 left) (i : ℕ) (lt : i < left) where
  pub key-node : Node T (key_node T at i)
  key-node = a.each (i * 2) (omega arith)

  pub value_node_lem : Node T (value_node T at i)
  value_node_lem = let e : at + (i * 2 + 1) ≡ at + i * 2 + 1 = omega arith in rw e at (a.each (i * 2 + 1) (omega arith))

pub keyed_object : (T : Tables) → WellFormed T → (n : ℕ) → Node T n → (b : Bool) → admitted b (expr T n) ≡ true → kind_of T.nodes n ≡ 9 → KeyedObject T n
keyed_object T w n v b is k = record {
  table = w;
  node = v;
  object = k;
  literal = λ i lt. literal_kind_lem T w (key_node T (first_word_of T.nodes n) i) (key-node (object_children T w n v k) i lt) (object_field T w n v b is k i lt).0;
  differ = (object_parts T w n v b is k).0;
}

pub admitted_value : (T : Tables) (n : ℕ) → Node T n → admitted false (expr T n) ≡ true → ValueNode T n
admitted_value T n v is = record { node = v; value = is }
