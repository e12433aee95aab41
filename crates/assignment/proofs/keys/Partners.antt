-- The values of an object under its literal keys, found by its fields in order.
use Prim.Native.Nat.{ℕ, zero, suc, ◌+◌, ◌*◌, ◌≤◌, ◌<◌}
use mathlib.Core.Path.{◌≡◌, refl, sym, ap, ◌∙◌}
use mathlib.Core.Logic.{◌⊎◌, inl, inr, ⊎_elim}
use mathlib.Core.Bool.{Bool, true, false, cond, ◌&&◌, false≢true}
use mathlib.Core.List.{List, [], ◌∷◌, ◌++◌, map}
use mathlib.Core.Option.{Option}
use mathlib.Core.Option as Option
use native.Mathlib.Omega.{arith}
use borrow.Author.Tests.{eq-eqb, ne_eqb, eqb-true, eqb-false, leb-true, leb-false}
use lib.Dec.{eqb}
use lib.ListN.{length, length-map}
use Rattle.literal.specs.Literal.{Literal}
use Rattle.literal.specs.Order.{key_order}
use Rattle.table.specs.Names.{is_same}
use Rattle.table.specs.Tables.{Tables, kind_of, first_word_of, count_of, width, child_at}
use Rattle.table.specs.Expr.{Expr, node_of}
use Rattle.table.specs.Decode.{expr, fields, literal_at, literal_node, fields_of}
use Rattle.base.specs.Lists.{all_from}
use Rattle.table.specs.code.Sound.{Node, WellFormed}
use Rattle.table.proofs.tests.Scan.{all_at}
use Rattle.table.proofs.trees.Trees.{width_object, child_node}
use Rattle.table.proofs.trees.Words.{ref_none}
use Rattle.planner.specs.Layout.{literal_key, Slot, held_in, FieldOrder, no_fields, add_field}
use Rattle.planner.specs.code.Passes.{order_from, key_node, value_node, field_key, order_of}
use Rattle.planner.specs.code.Post.{OrderAsks}
use Rattle.planner.proofs.fields.FieldOrder.{map_slot, map_order, add_map}
use Rattle.base.specs.Refusal.{object_key_not_found}
use Rattle.planner.proofs.fields.Objects.{key_literal, node_of_lem, AllBelow, order_below}
use Rattle.planner.specs.Held.{first_or, held_under, is_empty, value_order}
use Rattle.assignment.specs.Pairs.{Flat, failed, all_literal, distinct_keys, last_under, has_partner, check_keys}
use Rattle.assignment.specs.code.KeyMatching.{held_node, partner_of, missing_from, literal_kind, literal_keys, ObjectAsks, LiteralNode}

-- the child entries of an object
module _ (T : Tables) {n : ℕ} (a : ObjectAsks T n) where
  pub object_child : (j : ℕ) → j < count_of T.nodes n * 2 → Node T (child_at T.children (first_word_of T.nodes n + j)) × (child_at T.children (first_word_of T.nodes n + j) < n)
  object_child j lt =
      let w = width_object (kind_of T.nodes n) (count_of T.nodes n) a.object in
      let in-width : j < width T.nodes n = omega arith in
      (child_node T a.table n a.node j in-width, (a.table.below n a.node j in-width).1)

  pub object_listed : first_word_of T.nodes n + count_of T.nodes n * 2 ≤ length T.children
  object_listed =
      let k = a.object in
      let h = a.table.listed n a.node (omega arith) (omega arith) in
      let w = width_object (kind_of T.nodes n) (count_of T.nodes n) k in
      omega arith

  pub object_order : OrderAsks T (first_word_of T.nodes n) (count_of T.nodes n)
  object_order = record { table = a.table; listed = object_listed; keys = λ i lt. (object_child (i * 2) (omega arith)).0 }

  object_value : (i : ℕ) → i < count_of T.nodes n → Node T (value_node T (first_word_of T.nodes n) i)
  object_value i lt =
      let e : first_word_of T.nodes n + i * 2 + 1 ≡ first_word_of T.nodes n + (i * 2 + 1) = omega arith in
      rw e (object_child (i * 2 + 1) (omega arith)).0

-- values in order, by the numbers of their fields
module _ (T : Tables) (first : ℕ) where
  abbrev value_at : ℕ → Expr
  value_at i = expr T (value_node T first i)

  values_from_lem : (i k : ℕ) (o : FieldOrder ℕ) → ((j : ℕ) → j < k → literal_key (expr T (key_node T first (i + j))) ≡ field_key T first (i + j))
      → value_order (fields (expr T) T.children (first + i * 2) k) (map_order value_at o) ≡ map_order value_at (order_from (field_key T first) i k o)
  unfolding fields value_order order_from
  values_from_lem i zero o keys = refl
  values_from_lem i (suc k) o keys =
      let z : i + 0 ≡ i = omega arith in
      let key : literal_key (expr T (key_node T first i)) ≡ field_key T first i = rw z at (keys 0 (omega arith)) in
      let a : first + i * 2 + 2 ≡ first + (i + 1) * 2 = omega arith in
      ap (λ (l : Option Literal). value_order (fields (expr T) T.children (first + i * 2 + 2) k) (add_field l (value_at i) (map_order value_at o))) key
      ∙ (ap (λ (q : FieldOrder Expr). value_order (fields (expr T) T.children (first + i * 2 + 2) k) q) (add_map value_at (field_key T first i) i o)
      ∙ rw a (values_from_lem (i + 1) k (add_field (field_key T first i) i o) (λ j lt. let e : i + (j + 1) ≡ i + 1 + j = omega arith in rw e at (keys (j + 1) (omega arith)))))

  values_order : {k : ℕ} → OrderAsks T first k → value_order (fields (expr T) T.children first k) no_fields ≡ map_order (λ (i : ℕ). expr T (value_node T first i)) (order_of T first k)
  values_order {k} a =
      let z : first + 0 * 2 ≡ first = omega arith in
      rw z at (values_from_lem 0 k no_fields (λ j lt. let e : 0 + j ≡ j = omega arith in rw e (key_literal T a.table (key_node T first j) (a.keys j lt))))

-- all keys are literals
empty_map : {A B : Type 0} (f : A → B) (l : List A) → is_empty (map f l) ≡ is_empty l
empty_map f [] = refl
empty_map f (a ∷ l) = refl

empty_snoc : {A : Type 0} (l : List A) (a : A) → is_empty (l ++ (a ∷ [])) ≡ false
empty_snoc [] a = refl
empty_snoc (b ∷ l) a = refl

pub empty_nil : {A : Type 0} (l : List A) → is_empty l ≡ true → l ≡ []
empty_nil [] e = refl
empty_nil (a ∷ l) e = absurd (false≢true e)

module _ (T : Tables) where
  literal_kind_lem : WellFormed T → (n : ℕ) → Node T n → kind_of T.nodes n ≤ 5 → LiteralNode T n
  literal_kind_lem w n v le = let l = w.literals n v le in record { node = v; own = l.0; literal = l.1 }

  no_literal : (n : ℕ) → 5 < kind_of T.nodes n → literal_at T n ≡ Option.none
  unfolding literal_node
  no_literal n h = let e = ref_none T.nodes n refl refl refl (λ e. omega arith) (λ e. omega arith) (λ e. omega arith) (λ e. omega arith) (λ e. omega arith) in rw (← e)

  computed_from : WellFormed T → (first i k : ℕ) (o : FieldOrder ℕ) → ((j : ℕ) → j < k → Node T (key_node T first (i + j)))
      → is_empty (order_from (field_key T first) i k o).computed ≡ (is_empty o.computed && all_from (literal_kind T.nodes T.children first) i k)
  unfolding order_from all_from
  computed_from w first i zero o keys = and_yes (is_empty o.computed)
    where
      and_yes : (b : Bool) → b ≡ (b && true)
      and_yes true = refl
      and_yes false = refl
  computed_from w first i (suc k) o keys =
      let z : i + 0 ≡ i = omega arith in
      computed_from w first (i + 1) k (add_field (field_key T first i) i o) (λ j lt. let e : i + (j + 1) ≡ i + 1 + j = omega arith in rw e at (keys (j + 1) (omega arith)))
      ∙ go (literal_kind T.nodes T.children first i) refl (rw z at (keys 0 (omega arith)))
    where
      and_no : (b c : Bool) → (b && (false && c)) ≡ false
      and_no true c = refl
      and_no false c = refl

      go : (b : Bool) → literal_kind T.nodes T.children first i ≡ b → Node T (key_node T first i)
          → (is_empty (add_field (field_key T first i) i o).computed && all_from (literal_kind T.nodes T.children first) (i + 1) k) ≡ (is_empty o.computed && (b && all_from (literal_kind T.nodes T.children first) (i + 1) k))
      go true p v =
          let l = w.literals (key_node T first i) v (leb-true _ _ p) in
          ap (λ (key : Option Literal). is_empty (add_field key i o).computed && all_from (literal_kind T.nodes T.children first) (i + 1) k) l.1
      go false p v =
          ap (λ (key : Option Literal). is_empty (add_field key i o).computed && all_from (literal_kind T.nodes T.children first) (i + 1) k) (no_literal (key_node T first i) (leb-false _ _ p))
          ∙ (ap (λ (c : Bool). c && all_from (literal_kind T.nodes T.children first) (i + 1) k) (empty_snoc o.computed i)
          ∙ sym (and_no (is_empty o.computed) (all_from (literal_kind T.nodes T.children first) (i + 1) k)))

-- an object's order
module _ (T : Tables) {n : ℕ} (a : ObjectAsks T n) where
  pub computed_empty : all_literal (fields_of T n) ≡ is_empty (order_of T (first_word_of T.nodes n) (count_of T.nodes n)).computed
  computed_empty = ap (λ (o : FieldOrder Expr). is_empty o.computed) (values_order T (first_word_of T.nodes n) (object_order T a)) ∙ empty_map _ (order_of T (first_word_of T.nodes n) (count_of T.nodes n)).computed

  -- as the code asks it
  pub literal_keys_lem : literal_keys T.nodes T.children n ≡ all_literal (fields_of T n)
  unfolding literal_keys
  literal_keys_lem = sym (computed_empty ∙ computed_from T a.table (first_word_of T.nodes n) 0 (count_of T.nodes n) no_fields (λ j lt. let z : 0 + j ≡ j = omega arith in rw z ((object_order T a).keys j lt)))

  pub literal_each : all_literal (fields_of T n) ≡ true → (i : ℕ) → i < count_of T.nodes n → LiteralNode T (key_node T (first_word_of T.nodes n) i)
  unfolding literal_keys
  literal_each all i lt =
      let z : 0 + i ≡ i = omega arith in
      let k = rw z at (all_at (literal_kind T.nodes T.children (first_word_of T.nodes n)) 0 (count_of T.nodes n) (literal_keys_lem ∙ all) i lt) in
      literal_kind_lem T a.table (key_node T (first_word_of T.nodes n) i) ((object_order T a).keys i lt) (leb-true _ _ k)

  pub distinct_count : distinct_keys (fields_of T n) ≡ length (order_of T (first_word_of T.nodes n) (count_of T.nodes n)).literals
  distinct_count =
      ap (λ (o : FieldOrder Expr). length o.literals) (values_order T (first_word_of T.nodes n) (object_order T a))
      ∙ length-map (order_of T (first_word_of T.nodes n) (count_of T.nodes n)).literals (map_slot (λ (i : ℕ). expr T (value_node T (first_word_of T.nodes n) i)))

-- what is held under a key
held_map : {A B : Type 0} (f : A → B) (l : Literal) (ss : List (Slot A)) → held_under l (map (map_slot f) ss) ≡ Option.map f (held_under l ss)
unfolding held_under
held_map f l [] = refl
held_map f l (s ∷ ss) = go (is_same (key_order l s.at)) (held_map f l ss)
  where
    go : (b : Bool) → held_under l (map (map_slot f) ss) ≡ Option.map f (held_under l ss) → first_or b (f s.held) (held_under l (map (map_slot f) ss)) ≡ Option.map f (first_or b s.held (held_under l ss))
    go true h = refl
    go false h = h

held_below : (l : Literal) (ss : List (Slot ℕ)) (cs : List ℕ) (k i : ℕ) → AllBelow k (map held_in ss ++ cs) → held_under l ss ≡ Option.some i → i < k
unfolding held_under AllBelow
held_below l [] cs k i a e = let z : ◌≡◌ {A = ℕ} 0 1 = cc in absurd (omega arith)
held_below l (s ∷ ss) cs k i a e = go (is_same (key_order l s.at)) (held_below l ss cs k i a.1) e
  where
    go : (b : Bool) → (held_under l ss ≡ Option.some i → i < k) → first_or b s.held (held_under l ss) ≡ Option.some i → i < k
    go true h q = let is : s.held ≡ i = cc in rw is at a.0
    go false h q = h q

-- the partner of a literal key
module _ (T : Tables) {n : ℕ} (a : ObjectAsks T n) {key : ℕ} (k : LiteralNode T key) where
  slots : List (Slot ℕ)
  slots = (order_of T (first_word_of T.nodes n) (count_of T.nodes n)).literals

  abbrev value : ℕ → Expr
  value i = expr T (value_node T (first_word_of T.nodes n) i)

  last_held : last_under (literal_key (expr T key)) (fields_of T n) ≡ Option.map value (held_under k.own slots)
  unfolding slots
  last_held =
      ap (λ (l : Option Literal). last_under l (fields_of T n)) (key_literal T a.table key k.node ∙ k.literal)
      ∙ (ap (λ (o : FieldOrder Expr). held_under k.own o.literals) (values_order T (first_word_of T.nodes n) (object_order T a)) ∙ held_map value k.own slots)

  pub partner_held : partner_of T n key ≡ held_node T (first_word_of T.nodes n) (held_under k.own (order_of T (first_word_of T.nodes n) (count_of T.nodes n)).literals)
  unfolding partner_of
  partner_held = rw k.literal

  held_size : (i : ℕ) → held_under k.own slots ≡ Option.some i → i < count_of T.nodes n
  unfolding slots
  held_size i e = held_below k.own slots _ (count_of T.nodes n) i (order_below (field_key T (first_word_of T.nodes n)) (count_of T.nodes n)) e

  -- either there is none, or it is a node
  partner_or : ((partner_of T n key ≡ 0) × (last_under (literal_key (expr T key)) (fields_of T n) ≡ Option.none))
      ⊎ (Node T (partner_of T n key) × (last_under (literal_key (expr T key)) (fields_of T n) ≡ Option.some (expr T (partner_of T n key))))
  unfolding slots
  partner_or = go (held_under k.own slots) refl
    where
      go : (h : Option ℕ) → held_under k.own slots ≡ h → ((partner_of T n key ≡ 0) × (last_under (literal_key (expr T key)) (fields_of T n) ≡ Option.none))
          ⊎ (Node T (partner_of T n key) × (last_under (literal_key (expr T key)) (fields_of T n) ≡ Option.some (expr T (partner_of T n key))))
      go Option.none e = inl (partner_held ∙ ap (held_node T (first_word_of T.nodes n)) e, last_held ∙ ap (Option.map value) e)
      go (Option.some i) e =
          let p : partner_of T n key ≡ value_node T (first_word_of T.nodes n) i = partner_held ∙ ap (held_node T (first_word_of T.nodes n)) e in
          inr (rw p (object_value T a i (held_size i e)), rw p (last_held ∙ ap (Option.map value) e))

  module _ (there : partner_of T n key ≡ 0 → ⊥) where
    pub partner_node : Node T (partner_of T n key)
    partner_node = ⊎_elim (λ p. absurd (there p.0)) (λ p. p.0) partner_or

    pub partner_some : last_under (literal_key (expr T key)) (fields_of T n) ≡ Option.some (expr T (partner_of T n key))
    partner_some = ⊎_elim (λ p. absurd (there p.0)) (λ p. p.1) partner_or

  partner_none : partner_of T n key ≡ 0 → last_under (literal_key (expr T key)) (fields_of T n) ≡ Option.none
  partner_none e = ⊎_elim (λ p. p.1) (λ p. let l = p.0.low in absurd (omega arith)) partner_or

-- the first key that is missing
module _ (T : Tables) {n : ℕ} (a : ObjectAsks T n) where
  pub check_missing : (at k : ℕ) → ((i : ℕ) → i < k → LiteralNode T (child_at T.children (at + i * 2))) → (o : Flat)
      → check_keys (fields (expr T) T.children at k) (fields_of T n) o ≡ cond (eqb (missing_from T n at k) 0) o (failed (object_key_not_found (missing_from T n at k)))
  unfolding fields check_keys missing_from
  check_missing at zero keys o = refl
  check_missing at (suc k) keys o =
      let z : at + 0 * 2 ≡ at = omega arith in
      go (rw z at (keys 0 (omega arith))) (eqb (partner_of T n (child_at T.children at)) 0) refl
      (check_missing (at + 2) k (λ i lt. let e : at + (i + 1) * 2 ≡ at + 2 + i * 2 = omega arith in rw e at (keys (i + 1) (omega arith))) o)
    where
      go : LiteralNode T (child_at T.children at) → (b : Bool) → eqb (partner_of T n (child_at T.children at)) 0 ≡ b
          → check_keys (fields (expr T) T.children (at + 2) k) (fields_of T n) o ≡ cond (eqb (missing_from T n (at + 2) k) 0) o (failed (object_key_not_found (missing_from T n (at + 2) k)))
          → cond (has_partner (last_under (literal_key (expr T (child_at T.children at))) (fields_of T n))) (check_keys (fields (expr T) T.children (at + 2) k) (fields_of T n) o) (failed (object_key_not_found (node_of (expr T (child_at T.children at)))))
          ≡ cond (eqb (cond b (child_at T.children at) (missing_from T n (at + 2) k)) 0) o (failed (object_key_not_found (cond b (child_at T.children at) (missing_from T n (at + 2) k))))
      go l true p h =
          let none_there = partner_none T a l (eqb-true _ _ p) in
          let low = l.node.low in
          let z : eqb (child_at T.children at) 0 ≡ false = ne_eqb (child_at T.children at) 0 (λ e. omega arith) in
          rw (none_there, z, node_of_lem T a.table (child_at T.children at) l.node)
      go l false p h =
          let there = partner_some T a l (eqb-false _ _ p) in
          rw there h

  pub missing_none : (at k : ℕ) → ((i : ℕ) → i < k → LiteralNode T (child_at T.children (at + i * 2))) → missing_from T n at k ≡ 0 → (i : ℕ) → i < k → partner_of T n (child_at T.children (at + i * 2)) ≡ 0 → ⊥
  unfolding missing_from
  missing_none at zero keys e i lt none_there = omega arith
  missing_none at (suc k) keys e zero lt none_there =
      let z : at + 0 * 2 ≡ at = omega arith in
      let low = (rw z at (keys 0 (omega arith))).node.low in
      let gone = eq-eqb (partner_of T n (child_at T.children at)) 0 (rw z at none_there) in
      let zero-key : child_at T.children at ≡ 0 = rw gone at e in
      omega arith
  missing_none at (suc k) keys e (suc i) lt none_there =
      let z : at + 0 * 2 ≡ at = omega arith in
      let p : at + suc i * 2 ≡ at + 2 + i * 2 = omega arith in
      go (rw z at (keys 0 (omega arith))) (eqb (partner_of T n (child_at T.children at)) 0) e (λ rest.
      missing_none (at + 2) k (λ j h. let q : at + (j + 1) * 2 ≡ at + 2 + j * 2 = omega arith in rw q at (keys (j + 1) (omega arith))) rest i (omega arith) (rw p at none_there))
    where
      go : LiteralNode T (child_at T.children at) → (b : Bool) → cond b (child_at T.children at) (missing_from T n (at + 2) k) ≡ 0 → (missing_from T n (at + 2) k ≡ 0 → ⊥) → ⊥
      go l true q later = let low = l.node.low in omega arith
      go l false q later = later q
