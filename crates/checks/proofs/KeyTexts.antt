-- The key texts of an object's fields, as written and in order.
use Prim.Native.Nat.{ℕ, zero, suc, ◌+◌, ◌-◌, ◌*◌, ◌≤◌, ◌<◌}
use mathlib.Core.Path.{◌≡◌, refl, sym, ap, ◌∙◌}
use mathlib.Core.List.{List, [], ◌∷◌, ◌++◌, map}
use mathlib.Core.Option.{Option}
use native.Mathlib.Omega.{arith}
use lib.ListN.{length, get_or, take, drop, length-take}
use lib.Seq.{get_or-take, drop-cons}
use Rattle.literal.specs.Literal.{Literal}
use Rattle.literal.specs.Order.{Order, less, same, more, bytes_order}
use Rattle.literal.proofs.Orders.{key_order_lem}
use Rattle.table.specs.Tables.{Tables}
use Rattle.table.specs.Decode.{expr, fields}
use Rattle.table.specs.code.Sound.{Node, WellFormed}
use Rattle.planner.specs.Layout.{Slot, FieldOrder, no_fields, add_field, held_in, in_order}
use Rattle.planner.specs.code.Passes.{key_node, field_key, order_from, order_of}
use Rattle.planner.specs.code.Post.{OrderedBy}
use Rattle.planner.proofs.fields.FieldOrder.{AllSlots, Keyed, ordered_first}
use Rattle.planner.proofs.fields.Objects.{key_literal, order_below, below_at}
use Rattle.checks.specs.Structure.{slot_text, text_or, key_texts, inserted_by, insert_text, sort_texts}
use Rattle.checks.specs.code.Texts.{insert_or, texts_from, ordered_key}

-- the texts of literal keys by field numbers
unfoldable texts_by : (ℕ → Option Literal) → List ℕ → List (List ℕ)
texts_by key [] = []
texts_by key (i ∷ is) = text_or (key i) (texts_by key is)

-- no literal key among them
unfoldable AllComputed : (ℕ → Option Literal) → List ℕ → Type 0
AllComputed key [] = Unit {0}
AllComputed key (i ∷ is) = (key i ≡ Option.none) × AllComputed key is

module _ (key : ℕ → Option Literal) where
  computed_snoc : (is : List ℕ) (i : ℕ) → AllComputed key is → key i ≡ Option.none → AllComputed key (is ++ (i ∷ []))
  unfolding AllComputed
  computed_snoc [] i a e = (e, tt)
  computed_snoc (j ∷ is) i a e = (a.0, computed_snoc is i a.1 e)

  add_computed : (k : Option Literal) (i : ℕ) (o : FieldOrder ℕ) → key i ≡ k → AllComputed key o.computed → AllComputed key (add_field k i o).computed
  add_computed Option.none i o own a = computed_snoc o.computed i a own
  add_computed (Option.some l) i o own a = a

  order_computed : (i k : ℕ) (o : FieldOrder ℕ) → AllComputed key o.computed → AllComputed key (order_from key i k o).computed
  unfolding order_from
  order_computed i zero o a = a
  order_computed i (suc k) o a = order_computed (i + 1) k (add_field (key i) i o) (add_computed (key i) i o refl a)

  texts_computed : (is : List ℕ) → AllComputed key is → texts_by key is ≡ []
  unfolding texts_by AllComputed
  texts_computed [] a = refl
  texts_computed (i ∷ is) a = let e = a.0 in rw e (texts_computed is a.1)

  texts_slots : (ss : List (Slot ℕ)) (cs : List ℕ) → AllSlots (Keyed key) ss → AllComputed key cs → texts_by key (map held_in ss ++ cs) ≡ map slot_text ss
  unfolding texts_by AllSlots
  texts_slots [] cs a b = texts_computed cs b
  texts_slots (s ∷ ss) cs a b = let e = a.0 in rw e (ap (λ (ts : List (List ℕ)). slot_text s ∷ ts) (texts_slots ss cs a.1 b))

-- the field numbers of an array
texts_array : (T : Tables) (first : ℕ) (order is : List ℕ) (q : ℕ) → take (length is) (drop q order) ≡ is → q + length is ≤ length order
    → texts_from (ordered_key T first order) q (length is) ≡ texts_by (field_key T first) is
unfolding texts_from texts_by ordered_key
texts_array T first order [] q e le = refl
texts_array T first order (i ∷ is) q e le =
    let d : drop q order ≡ get_or order q 0 ∷ drop (suc q) order = drop-cons order q 0 (omega arith) in
    let h : get_or order q 0 ∷ take (length is) (drop (suc q) order) ≡ i ∷ is = sym (ap (λ (l : List ℕ). take (suc (length is)) l) d) ∙ e in
    let here : get_or order q 0 ≡ i = cc in
    let rest : take (length is) (drop (suc q) order) ≡ is = cc in
    let one : q + 1 ≡ suc q = omega arith in
    let tail = texts_array T first order is (suc q) rest (omega arith) in
    ap (λ (n : ℕ). text_or (field_key T first (get_or order q 0)) (texts_from (ordered_key T first order) n (length is))) one
    ∙ (ap (λ (ts : List (List ℕ)). text_or (field_key T first (get_or order q 0)) ts) tail ∙ ap (λ (j : ℕ). text_or (field_key T first j) (texts_by (field_key T first) is)) here)

module _ {T : Tables} {first size : ℕ} {order : List ℕ} {total : ℕ} (by : OrderedBy T first size order total) where
  -- the texts of the fields in order are those of the literal ones
  pub ordered_texts : texts_from (ordered_key T first order) 0 total ≡ map slot_text (order_of T first size).literals
  unfolding AllComputed
  ordered_texts =
      let t = by.total in
      let l = length-take total order in
      let m = ap length by.fields in
      let z : 0 + length (in_order (order_of T first size)) ≤ length order = omega arith in
      let o = ordered_first (field_key T first) key_order_lem size order refl t by.fields in
      ap (λ (n : ℕ). texts_from (ordered_key T first order) 0 n) t
      ∙ (texts_array T first order (in_order (order_of T first size)) 0 (rw t at by.fields) z
      ∙ texts_slots (field_key T first) (order_of T first size).literals (order_of T first size).computed o.keyed (order_computed (field_key T first) 0 size no_fields tt))

  pub field_below : (q : ℕ) → q < total → get_or order q 0 < size
  field_below q lt =
      let t = by.total in
      let e : get_or (take total order) q 0 ≡ get_or order q 0 = get_or-take total order q 0 lt in
      rw (← e) (rw by.fields (below_at size (in_order (order_of T first size)) q (omega arith) (order_below (field_key T first) size)))

-- the texts of the fields as written
module _ (T : Tables) (w : WellFormed T) (first : ℕ) where
  written_from : (i k : ℕ) → ((j : ℕ) → j < i + k → Node T (key_node T first j)) → texts_from (field_key T first) i k ≡ key_texts (fields (expr T) T.children (first + i * 2) k)
  unfolding texts_from fields key_texts
  written_from i zero keys = refl
  written_from i (suc k) keys =
      let a : first + i * 2 + 2 ≡ first + (i + 1) * 2 = omega arith in
      let here = key_literal T w (key_node T first i) (keys i (omega arith)) in
      let tail = written_from (i + 1) k (λ j lt. keys j (omega arith)) in
      rw (a, here, tail)

  pub written_texts : (k : ℕ) → ((j : ℕ) → j < k → Node T (key_node T first j)) → texts_from (field_key T first) 0 k ≡ key_texts (fields (expr T) T.children first k)
  written_texts k keys =
      let z : first + 0 * 2 ≡ first = omega arith in
      rw z at (written_from 0 k (λ j lt. keys j (omega arith)))

-- sorting, one text more
pub sort_or : (o : Option Literal) (ts : List (List ℕ)) → sort_texts (text_or o ts) ≡ insert_or o (sort_texts ts)
unfolding sort_texts
sort_or Option.none ts = refl
sort_or (Option.some l) ts = refl

insert_length : (t : List ℕ) (ts : List (List ℕ)) → length (insert_text t ts) ≡ suc (length ts)
unfolding insert_text
insert_length t [] = refl
insert_length t (u ∷ us) = go (bytes_order t u) (insert_length t us)
  where
    go : (o : Order) → length (insert_text t us) ≡ suc (length us) → length (inserted_by o t u us (insert_text t us)) ≡ suc (suc (length us))
    go less h = refl
    go same h = refl
    go more h = ap suc h

pub sort_length : (ts : List (List ℕ)) → length (sort_texts ts) ≡ length ts
unfolding sort_texts
sort_length [] = refl
sort_length (t ∷ ts) = insert_length t (sort_texts ts) ∙ ap suc (sort_length ts)

module _ (key : ℕ → Option Literal) (n : ℕ) where
  pub texts_step : (i : ℕ) → 0 < i → i ≤ n → texts_from key (i - 1) (n - (i - 1)) ≡ text_or (key (i - 1)) (texts_from key i (n - i))
  unfolding texts_from
  texts_step i low high =
      let a : n - (i - 1) ≡ suc (n - i) = omega arith in
      let b : i - 1 + 1 ≡ i = omega arith in
      ap (λ (k : ℕ). texts_from key (i - 1) k) a ∙ ap (λ (j : ℕ). text_or (key (i - 1)) (texts_from key j (n - i))) b

  pub texts_none : texts_from key n (n - n) ≡ []
  unfolding texts_from
  texts_none = let z : n - n ≡ 0 = omega arith in ap (λ (k : ℕ). texts_from key n k) z
