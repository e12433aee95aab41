-- An object's fields in order, as the second pass lays them out.
use Prim.Native.Nat.{ℕ, zero, suc, ◌+◌, ◌-◌, ◌*◌, ◌≤◌, ◌<◌}
use mathlib.Core.Path.{◌≡◌, refl, sym, ap, subst, ◌∙◌}
use mathlib.Core.List.{List, [], ◌∷◌, ◌++◌, map}
use mathlib.Core.Bool.{Bool, true, false}
use mathlib.Core.Option.{Option}
use native.Mathlib.Omega.{arith}
use borrow.Author.Tests.{ne_eqb, leb-true, leb-false}
use lib.Dec.{eqb, leb}
use lib.ListN.{length, get_or, take, drop, length-take, length-map}
use lib.Seq.{get_or-take, drop-cons}
use Rattle.literal.specs.Literal.{Literal}
use Rattle.table.specs.Tables.{Tables, kind_of, first_word_of, count_of, width, child_at}
use Rattle.table.specs.Expr.{Expr, object, Exprs, Fields, node_of}
use Rattle.table.specs.Decode.{expr, fields, is_wildcard, headed, literal_at, literal_node, ref_of}
use Rattle.table.specs.code.Sound.{Node, WellFormed}
use Rattle.table.proofs.trees.Trees.{expr_unfolds, expr_literal, expr_object, width_object, child_node}
use Rattle.planner.specs.Layout.{Entry, Place, below, entry, literal_key, Slot, held_in, FieldOrder, no_fields, in_order, add_field, concat}
use Rattle.planner.specs.Entries.{Wrote}
use Rattle.planner.specs.code.Passes.{lay_out, lay_out_fields, order_from, concat_at, lay_out_ordered, key_node, value_node, field_key, field_entries, order_of}
use Rattle.planner.specs.code.Post.{StepRoom, LayObjectAsks, OrderAsks, OrderedBy, Arranged, LayOrderedAsks}
use Rattle.planner.proofs.fields.FieldLoops.{arranged_first}
use Rattle.planner.proofs.fields.FieldOrder as Fields
use Rattle.planner.proofs.fields.FieldOrder.{AllSlots, insert_all, order_entries}
use Rattle.planner.proofs.buffer.Copies.{wrote_append}

module _ (T : Tables) (w : WellFormed T) (n : ℕ) (v : Node T n) where
  -- a node that is above kind 5 refers to no literal
  no_literal : 5 < kind_of T.nodes n → literal_at T n ≡ Option.none
  unfolding literal_node ref_of
  no_literal h = simp (
    ne_eqb (kind_of T.nodes n) 1 (λ e. omega arith),
    ne_eqb (kind_of T.nodes n) 2 (λ e. omega arith),
    ne_eqb (kind_of T.nodes n) 3 (λ e. omega arith),
    ne_eqb (kind_of T.nodes n) 4 (λ e. omega arith),
    ne_eqb (kind_of T.nodes n) 5 (λ e. omega arith),
  )

  headed_key : (es : Exprs) (fs : Fields) → literal_at T n ≡ Option.none → (literal_key (headed T n es fs) ≡ Option.none) × (node_of (headed T n es fs) ≡ n)
  unfolding headed
  headed_key es fs e = go (eqb (kind_of T.nodes n) 6) refl (eqb (kind_of T.nodes n) 7) refl (eqb (kind_of T.nodes n) 8) refl (eqb (kind_of T.nodes n) 9) refl (is_wildcard T (first_word_of T.nodes n)) refl
    where
      go : (a : Bool) → eqb (kind_of T.nodes n) 6 ≡ a → (b : Bool) → eqb (kind_of T.nodes n) 7 ≡ b → (d : Bool) → eqb (kind_of T.nodes n) 8 ≡ d → (f : Bool) → eqb (kind_of T.nodes n) 9 ≡ f
          → (u : Bool) → is_wildcard T (first_word_of T.nodes n) ≡ u → (literal_key (headed T n es fs) ≡ Option.none) × (node_of (headed T n es fs) ≡ n)
      go true p b q d r f s true t = (simp (p, t), simp (p, t))
      go true p b q d r f s false t = (simp (p, t), simp (p, t))
      go false p true q d r f s u t = (simp (p, q), simp (p, q))
      go false p false q true r f s u t = (simp (p, q, r), simp (p, q, r))
      go false p false q false r true s u t = (simp (p, q, r, s), simp (p, q, r, s))
      go false p false q false r false s u t = (simp (p, q, r, s, e), simp (p, q, r, s, e))

  -- a node's literal key and number, read off its expression
  key_and_node : (literal_key (expr T n) ≡ literal_at T n) × (node_of (expr T n) ≡ n)
  key_and_node = go (leb (kind_of T.nodes n) 5) refl
    where
      go : (a : Bool) → leb (kind_of T.nodes n) 5 ≡ a → (literal_key (expr T n) ≡ literal_at T n) × (node_of (expr T n) ≡ n)
      go true p =
          let l = w.literals n v (leb-true (kind_of T.nodes n) 5 p) in
          let t = expr_literal T w n v l.0 (leb-true (kind_of T.nodes n) 5 p) l.1 in
          (ap literal_key t ∙ sym l.1, ap node_of t)
      go false p =
          let z = no_literal (leb-false (kind_of T.nodes n) 5 p) in
          let t = expr_unfolds T w n v in
          let h = headed_key _ _ z in
          (ap literal_key t ∙ (h.0 ∙ sym z), ap node_of t ∙ h.1)

  pub key_literal : literal_key (expr T n) ≡ literal_at T n
  key_literal = key_and_node.0

  pub node_of_lem : node_of (expr T n) ≡ n
  node_of_lem = key_and_node.1

-- two keys that agree below k
order_same : (f g : ℕ → Option Literal) (i k : ℕ) (o : FieldOrder ℕ) → ((j : ℕ) → j < k → f (i + j) ≡ g (i + j)) → order_from f i k o ≡ order_from g i k o
unfolding order_from
order_same f g i zero o same = refl
order_same f g i (suc k) o same =
    let z : i + 0 ≡ i = omega arith in
    let here : f i ≡ g i = rw z at (same 0 (omega arith)) in
    ap (λ (l : Option Literal). order_from f (i + 1) k (add_field l i o)) here
    ∙ order_same f g (i + 1) k (add_field (g i) i o) (λ j lt. let e : i + (j + 1) ≡ i + 1 + j = omega arith in rw e at (same (j + 1) (omega arith)))

-- all numbers of an order
unfoldable pub AllBelow : ℕ → List ℕ → Type 0
AllBelow k [] = Unit {0}
AllBelow k (x ∷ xs) = (x < k) × AllBelow k xs

pub below_at : (k : ℕ) (l : List ℕ) (q : ℕ) → q < length l → AllBelow k l → get_or l q 0 < k
unfolding AllBelow
below_at k [] q lt a = absurd (omega arith)
below_at k (x ∷ xs) zero lt a = a.0
below_at k (x ∷ xs) (suc q) lt a = below_at k xs q (omega arith) a.1

-- a map of two functions that agree below k
map_same : (f g : ℕ → List Entry) (k : ℕ) (l : List ℕ) → AllBelow k l → ((i : ℕ) → i < k → f i ≡ g i) → map f l ≡ map g l
unfolding AllBelow
map_same f g k [] a same = refl
map_same f g k (x ∷ xs) a same = let h = map_same f g k xs a.1 same in let e = same x a.0 in cc

-- f of an array's first numbers is f of the list that they are
concat_at_lem : (f : ℕ → List Entry) (order l : List ℕ) (q : ℕ) → take (length l) (drop q order) ≡ l → q + length l ≤ length order → concat_at f order q (length l) ≡ concat (map f l)
unfolding concat_at concat
concat_at_lem f order [] q e le = refl
concat_at_lem f order (x ∷ xs) q e le =
    let d : drop q order ≡ get_or order q 0 ∷ drop (suc q) order = drop-cons order q 0 (omega arith) in
    let h : get_or order q 0 ∷ take (length xs) (drop (suc q) order) ≡ x ∷ xs = sym (ap (λ (l : List ℕ). take (suc (length xs)) l) d) ∙ e in
    let first : get_or order q 0 ≡ x = cc in
    let rest : take (length xs) (drop (suc q) order) ≡ xs = cc in
    let one : q + 1 ≡ suc q = omega arith in
    let tail = concat_at_lem f order xs (suc q) rest (omega arith) in
    ap (λ (l : List Entry). f (get_or order q 0) ++ l) (ap (λ (j : ℕ). concat_at f order j (length xs)) one ∙ tail) ∙ ap (λ (i : ℕ). f i ++ concat (map f xs)) first

below_append : (k : ℕ) (l m : List ℕ) → AllBelow k l → AllBelow k m → AllBelow k (l ++ m)
unfolding AllBelow
below_append k [] m a b = b
below_append k (x ∷ xs) m a b = (a.0, below_append k xs m a.1 b)

-- every field number of an order is below k
abbrev HeldBelow : ℕ → Slot ℕ → Type 0
HeldBelow k s = s.held < k

held_below : (k : ℕ) (ss : List (Slot ℕ)) → AllSlots (HeldBelow k) ss → AllBelow k (map held_in ss)
unfolding AllBelow AllSlots
held_below k [] a = a
held_below k (s ∷ ss) a = (a.0, held_below k ss a.1)

pub record OrderBelow (k : ℕ) (o : FieldOrder ℕ) : Type 0 where
  pub literals : AllSlots (HeldBelow k) o.literals
  pub computed : AllBelow k o.computed

add_below : (k : ℕ) (l : Option Literal) (i : ℕ) (o : FieldOrder ℕ) → i < k → OrderBelow k o → OrderBelow k (add_field l i o)
unfolding AllBelow
add_below k (Option.some l) i o lt b = record { literals = insert_all (HeldBelow k) (record { at = l; held = i }) o.literals lt b.literals; computed = b.computed }
add_below k Option.none i o lt b = record { literals = b.literals; computed = below_append k o.computed (i ∷ []) b.computed (lt, tt) }

from_below : (key : ℕ → Option Literal) (i k n : ℕ) (o : FieldOrder ℕ) → i + k ≤ n → OrderBelow n o → OrderBelow n (order_from key i k o)
unfolding order_from
from_below key i zero n o le b = b
from_below key i (suc k) n o le b = from_below key (i + 1) k n (add_field (key i) i o) (omega arith) (add_below n (key i) i o (omega arith) b)

pub order_below : (key : ℕ → Option Literal) (k : ℕ) → AllBelow k (in_order (order_from key 0 k no_fields))
unfolding AllBelow AllSlots
order_below key k =
    let b = from_below key 0 k k no_fields (omega arith) (record { literals = tt; computed = tt }) in
    below_append k (map held_in (order_from key 0 k no_fields).literals) (order_from key 0 k no_fields).computed (held_below k (order_from key 0 k no_fields).literals b.literals) b.computed

-- an object node
module _ (T : Tables) (states binders : List ℕ) (n : ℕ) (key : Place) (at : ℕ) (a : LayObjectAsks T states binders n key at) {first size : ℕ} (is_first : first ≡ first_word_of T.nodes n) (is_size : size ≡ count_of T.nodes n) where
  well : WellFormed T
  well = a.asks.walks.table

  node : Node T n
  node = a.asks.walks.node

  in_list : first + size * 2 ≤ length T.children
  in_list =
      let k = a.object in
      let h = well.listed n node (omega arith) (omega arith) in
      let w = width_object (kind_of T.nodes n) (count_of T.nodes n) k in
      omega arith

  -- the child entry j of the object
  child : (j : ℕ) → j < size * 2 → Node T (child_at T.children (first + j)) × (child_at T.children (first + j) < n)
  child j lt =
      let w = width_object (kind_of T.nodes n) (count_of T.nodes n) a.object in
      let in-width : j < width T.nodes n = omega arith in
      rw is_first (child_node T well n node j in-width, (well.below n node j in-width).1)

  pub ask_order : OrderAsks T first size
  ask_order = record { table = well; listed = in_list; keys = λ i lt. (child (i * 2) (omega arith)).0 }

  -- the fields of the tree, in order
  tree : expr T n ≡ object n (fields (expr T) T.children first size)
  tree = rw (is_first, is_size) (expr_object T well n node a.object)

  keys_same : order_from (Fields.field_key (expr T) T.children first) 0 size no_fields ≡ order_of T first size
  keys_same = order_same (Fields.field_key (expr T) T.children first) (field_key T first) 0 size no_fields (λ j lt.
      let z : 0 + j ≡ j = omega arith in
      rw z (key_literal T well (key_node T first j) (child (j * 2) (omega arith)).0))

  order_is : in_order (lay_out_fields binders (fields (expr T) T.children first size) 1 no_fields) ≡ map (field_entries binders T first) (in_order (order_of T first size))
  order_is =
      order_entries binders (expr T) T.children first size
      ∙ (ap (λ (o : FieldOrder ℕ). map (Fields.field_entries binders (expr T) T.children first) (in_order o)) keys_same
      ∙ map_same (Fields.field_entries binders (expr T) T.children first) (field_entries binders T first) size (in_order (order_of T first size)) (order_below (field_key T first) size) (λ i lt.
      ap (λ (k : ℕ). lay_out binders (expr T (value_node T first i)) (below k (i + 1))) (node_of_lem T well (key_node T first i) (child (i * 2) (omega arith)).0)))

  entries_of_lem : lay_out binders (expr T n) key ≡ entry 6 n (length (in_order (order_of T first size))) key ∷ concat (map (field_entries binders T first) (in_order (order_of T first size)))
  unfolding lay_out
  entries_of_lem =
      ap (λ (e : Expr). lay_out binders e key) tree
      ∙ (ap (λ (l : List (List Entry)). entry 6 n (length l) key ∷ concat l) order_is
      ∙ ap (λ (k : ℕ). entry 6 n k key ∷ concat (map (field_entries binders T first) (in_order (order_of T first size)))) (length-map (in_order (order_of T first size)) (field_entries binders T first)))

  module _ {from order : List ℕ} {total : ℕ} (arranged : Arranged T first size from order total) where
    by : OrderedBy T first size order total
    by = arranged_first arranged

    fits_array : total ≤ length order
    fits_array = let t = by.total in omega (arith, ap length by.fields, length-take total order)

    ordered_is : lay_out_ordered binders T first order 0 total ≡ concat (map (field_entries binders T first) (in_order (order_of T first size)))
    ordered_is =
        let f = fits_array in
        let t = by.total in
        let z : 0 + length (in_order (order_of T first size)) ≤ length order = omega arith in
        ap (λ (k : ℕ). lay_out_ordered binders T first order 0 k) t
        ∙ concat_at_lem (field_entries binders T first) order (in_order (order_of T first size)) 0 (rw t at by.fields) z

    field_below : (q : ℕ) → q < total → get_or order q 0 < size
    field_below q lt =
        let t = by.total in
        let e : get_or (take total order) q 0 ≡ get_or order q 0 = get_or-take total order q 0 lt in
        rw (← e) (rw by.fields (below_at size (in_order (order_of T first size)) q (omega arith) (order_below (field_key T first) size)))

    pub ask_ordered : LayOrderedAsks T states binders n first order total (at + 1)
    ask_ordered = record {
      table = well;
      states_ok = a.asks.walks.states_ok;
      few = by.few;
      each = λ q lt.
          let i = field_below q lt in
          let l = in_list in
          let few = well.limits.children in
          let e : first + get_or order q 0 * 2 + 1 ≡ first + (get_or order q 0 * 2 + 1) = omega arith in
          let c = child (get_or order q 0 * 2 + 1) (omega arith) in
          (omega arith, rw e c.0, rw e c.1);
      room = let r = rw entries_of_lem at a.asks.room in rw ordered_is (omega arith);
    }

    fields_steps : length (lay_out binders (expr T n) key) - 1 ≡ length (lay_out_ordered binders T first order 0 total)
    fields_steps = let l = ap length entries_of_lem in let o = ap length ordered_is in omega arith

    pub fields_room : {steps : ℕ} → StepRoom steps (length (lay_out binders (expr T n) key) - 1) → StepRoom steps (length (lay_out_ordered binders T first order 0 total))
    fields_room r = rw (← fields_steps) r

    pub fields_taken : (steps : ℕ) {later : ℕ} → later ≡ steps + length (lay_out_ordered binders T first order 0 total) → later ≡ steps + (length (lay_out binders (expr T n) key) - 1)
    fields_taken steps e = rw fields_steps e

    pub laid_object : {before mid after : List ℕ} {r : ℕ} → Wrote before at (entry 6 n total key ∷ []) mid (at + 1) → Wrote mid (at + 1) (lay_out_ordered binders T first order 0 total) after r → Wrote before at (lay_out binders (expr T n) key) after r
    laid_object {before} {mid} {after} {r} p l =
        subst (λ (es : List Entry). Wrote before at es after r) (sym entries_of_lem)
        (wrote_append (rw by.total at p) (rw ordered_is at l))
