-- The tables with the value pass the table check, where they are within the limits and the value is no deeper than 32.
use Prim.Native.Nat.{ℕ, zero, suc, ◌+◌, ◌*◌, ◌≤◌, ◌<◌, max}
use mathlib.Core.Bool.{Bool, true, false, cond, false≢true}
use mathlib.Core.List.{List, ◌++◌}
use mathlib.Core.Option.{Option, none, some}
use mathlib.Core.Path.{◌≡◌, refl, ap, sym, ◌∙◌}
use native.Mathlib.Omega.{arith}
use borrow.Author.Tests.{ne_eqb, le-leb, lt-ltb}
use lib.Dec.{T as True, leb, leb→le, le→leb}
use lib.ListN.{length}
use Rattle.literal.specs.Literal.{Literal}
use Rattle.table.specs.Tables.{Tables, tables, kind_of, first_word_of, count_of, node_count, width_of, child_at}
use Rattle.table.specs.Expr.{depth}
use Rattle.table.specs.Decode.{expr, literal_at}
use Rattle.table.specs.Rules.{span_ok, words_ok, below_at, children_below, node_ok}
use Rattle.table.specs.code.Sound.{Node}
use Rattle.table.proofs.tests.Scan.{all_of}
use Rattle.table.proofs.trees.Trees.{width_array, width_object, width_leaf}
use Rattle.planner.specs.Simple.{differing}
use Rattle.value.specs.Value.{Value, literalᵛ, arrayᵛ, objectᵛ, Values, noneᵛ, itemᵛ, ValueFields, doneᵛ, fieldᵛ, keysᵛ, proper, proper_all_lem, proper_fields_lem, Proper}
use Rattle.value.proofs.Keys.{and_left, and_right, is_true, true_is}
use Rattle.common_example.specs.Overlap.{size, size_all, size_fields, depthᵛ, depth_allᵛ, depth_fieldsᵛ}
use Rattle.common_example.specs.Operations.{child_entries, child_entries_all, child_entries_fields, count_items_lem, count_fieldsᵛ, is_like, node_like, words_like, literal_words, node_words, node_words_all, node_words_fields, child_words_lem, child_words_all, child_words_fields, item_nodes, field_nodes}
use Rattle.common_example.proofs.patterns.Literals.{Stored, AllOf, AllIn, AllUnder}
use Rattle.common_example.proofs.written.ReadBack.{Stands, stands_left, stands_after, Words, five_words, literal_kind_lem, node_like_lem, node_end, one_after, words_length, words_length_all, words_length_fields, literal_five, entries_length, entries_length_all, entries_length_fields, items_length, fields_length, array_words, object_words, read_back}
use Rattle.common_example.proofs.written.Entries.{each_at, Between, range_items, range_nodes}

pub split : {C : Type 0} (m a : ℕ) → (m ≤ a → C) → (a < m → C) → C
split {C} m a f h = go (leb m a) refl
  where
    go : (b : Bool) → leb m a ≡ b → C
    go true e = f (leb→le m a (true_is e))
    go false e = h (above (λ le. false≢true (sym e ∙ is_true (le→leb m a le))))
      where
        above : (m ≤ a → ⊥) → a < m
        above n = omega (arith, n)

max_left : (a b c : ℕ) → max a b ≤ c → a ≤ c
max_left a b c h = omega arith

max_right : (a b c : ℕ) → max a b ≤ c → b ≤ c
max_right a b c h = omega arith

nothing : (n m : ℕ) → n < m → m ≤ n + 0 → ⊥
nothing n m lo hi = omega arith

no_index : (i : ℕ) → i < 0 → ⊥
no_index i h = omega arith

-- 1. Each written node is that of a part of the value.
module _ (T : Tables) (nodes⁺ children⁺ : List ℕ) (deep : ℕ) where
  pub record Part (m : ℕ) : Type 0 where
    pub value : Value
    pub before : ℕ
    pub place : ℕ
    pub nodes_stand_lem : Stands nodes⁺ (before * 5) (node_words T value place)
    pub entries_stand_lem : Stands children⁺ place (child_words_lem value before)
    pub entries_fit : place + child_entries value ≤ length children⁺
    pub is_proper : Proper value
    pub is_stored : AllOf (Stored T) value
    pub is_deep : depthᵛ value ≤ deep
    pub is : before + size value ≡ m

  whole : (v : Value) (n p : ℕ) → Stands nodes⁺ (n * 5) (node_words T v p) → Stands children⁺ p (child_words_lem v n) → p + child_entries v ≤ length children⁺ → Proper v → AllOf (Stored T) v → depthᵛ v ≤ deep → (m : ℕ) → n + size v ≡ m → Part m
  whole v n p s c f q k d m e = record { value = v; before = n; place = p; nodes_stand_lem = s; entries_stand_lem = c; entries_fit = f; is_proper = q; is_stored = k; is_deep = d; is = e }

  mutual
    unfolding node_words child_words_lem size child_entries proper depthᵛ

    pub part_of : (v : Value) (n p : ℕ) → Stands nodes⁺ (n * 5) (node_words T v p) → Stands children⁺ p (child_words_lem v n) → p + child_entries v ≤ length children⁺ → Proper v → AllOf (Stored T) v → depthᵛ v ≤ deep → (m : ℕ) → n < m → m ≤ n + size v → Part m
    part_of (literalᵛ x l) n p s c f q k d m lo hi = whole (literalᵛ x l) n p s c f q k d m (omega arith)
    part_of (arrayᵛ x vs) n p s c f q k d m lo hi = split m (n + size_all vs)
        (λ le. part_all vs n p (stands_left nodes⁺ (n * 5) (node_words_all T vs p) (array_words T nodes⁺ children⁺ vs p) s) (stands_left children⁺ p (child_words_all vs n) (item_nodes vs n) c) (omega arith) q k (omega arith) m lo le)
        (λ gt. whole (arrayᵛ x vs) n p s c f q k d m (omega arith))
    part_of (objectᵛ x fs) n p s c f q k d m lo hi = split m (n + size_fields fs)
        (λ le. part_fields fs n p (stands_left nodes⁺ (n * 5) (node_words_fields T fs p) (object_words T nodes⁺ children⁺ fs p) s) (stands_left children⁺ p (child_words_fields fs n) (field_nodes fs n) c) (omega arith) (and_right (differing (keysᵛ fs)) (proper_fields_lem fs) q) k (omega arith) m lo le)
        (λ gt. whole (objectᵛ x fs) n p s c f q k d m (omega arith))

    part_all : (vs : Values) (n p : ℕ) → Stands nodes⁺ (n * 5) (node_words_all T vs p) → Stands children⁺ p (child_words_all vs n) → p + child_entries_all vs ≤ length children⁺ → True (proper_all_lem vs) → AllIn (Stored T) vs → depth_allᵛ vs ≤ deep → (m : ℕ) → n < m → m ≤ n + size_all vs → Part m
    part_all noneᵛ n p s c f q k d m lo hi = absurd (nothing n m lo hi)
    part_all (itemᵛ v vs) n p s c f q k d m lo hi = split m (n + size v)
        (λ le. part_of v n p (stands_left nodes⁺ (n * 5) (node_words T v p) (node_words_all T vs (p + child_entries v)) s) (stands_left children⁺ p (child_words_lem v n) (child_words_all vs (n + size v)) c) (omega arith) (and_left (proper v) (proper_all_lem vs) q) k.0 (max_left (depthᵛ v) (depth_allᵛ vs) deep d) m lo le)
        (λ gt. part_all vs (n + size v) (p + child_entries v)
        (stands_after nodes⁺ (n * 5) ((n + size v) * 5) (node_words T v p) (node_words_all T vs (p + child_entries v)) (node_end T nodes⁺ children⁺ n (length (node_words T v p)) (size v) (words_length T v p)) s)
        (stands_after children⁺ p (p + child_entries v) (child_words_lem v n) (child_words_all vs (n + size v)) (ap (λ x. p + x) (entries_length v n)) c)
        (omega arith) (and_right (proper v) (proper_all_lem vs) q) k.1 (max_right (depthᵛ v) (depth_allᵛ vs) deep d) m gt (omega arith))

    part_fields : (fs : ValueFields) (n p : ℕ) → Stands nodes⁺ (n * 5) (node_words_fields T fs p) → Stands children⁺ p (child_words_fields fs n) → p + child_entries_fields fs ≤ length children⁺ → True (proper_fields_lem fs) → AllUnder (Stored T) fs → depth_fieldsᵛ fs ≤ deep → (m : ℕ) → n < m → m ≤ n + size_fields fs → Part m
    part_fields doneᵛ n p s c f q k d m lo hi = absurd (nothing n m lo hi)
    part_fields (fieldᵛ j v fs) n p s c f q k d m lo hi =
        let s' = stands_after nodes⁺ (n * 5) ((n + 1) * 5) (literal_words T j) (node_words T v p ++ node_words_fields T fs (p + child_entries v)) (node_end T nodes⁺ children⁺ n (length (literal_words T j)) 1 (literal_five T j)) s in
        let rest = max_right 1 (max (depthᵛ v) (depth_fieldsᵛ fs)) deep d in
        split m (n + 1)
        (λ le. whole (literalᵛ 0 j) n p (stands_left nodes⁺ (n * 5) (literal_words T j) (node_words T v p ++ node_words_fields T fs (p + child_entries v)) s) (λ i h. absurd (no_index i h)) (omega arith) tt k.0 (max_left 1 (max (depthᵛ v) (depth_fieldsᵛ fs)) deep d) m (omega arith))
        (λ gt. split m (n + 1 + size v)
        (λ le. part_of v (n + 1) p (stands_left nodes⁺ ((n + 1) * 5) (node_words T v p) (node_words_fields T fs (p + child_entries v)) s') (stands_left children⁺ p (child_words_lem v (n + 1)) (child_words_fields fs (n + 1 + size v)) c) (omega arith) (and_left (proper v) (proper_fields_lem fs) q) k.1 (max_left (depthᵛ v) (depth_fieldsᵛ fs) deep rest) m gt le)
        (λ gt'. part_fields fs (n + 1 + size v) (p + child_entries v)
        (stands_after nodes⁺ ((n + 1) * 5) ((n + 1 + size v) * 5) (node_words T v p) (node_words_fields T fs (p + child_entries v)) (node_end T nodes⁺ children⁺ (n + 1) (length (node_words T v p)) (size v) (words_length T v p)) s')
        (stands_after children⁺ p (p + child_entries v) (child_words_lem v (n + 1)) (child_words_fields fs (n + 1 + size v)) (ap (λ x. p + x) (entries_length v (n + 1))) c)
        (omega arith) (and_right (proper v) (proper_fields_lem fs) q) k.2 (max_right (depthᵛ v) (depth_fieldsᵛ fs) deep rest) m gt' (omega arith)))

  -- 2. By the rules that speak of one node alone it is good.
  abbrev T⁺ : Tables
  T⁺ = tables nodes⁺ children⁺ T.numbers T.names T.strings T.text

  node_by : (n kind first count : ℕ) → Words T nodes⁺ children⁺ n kind first count → words_ok T⁺ (n + 1) kind first count ≡ true
      → ((i : ℕ) → i < width_of kind count → child_at children⁺ (first + i) < n + 1) → node_ok T⁺ (n + 1) ≡ true
  unfolding node_ok span_ok children_below
  node_by n kind first count w ok below =
      let a = w.is_kind in
      let b = w.is_first_lem in
      let c = w.is_count_lem in
      let s = w.is_start_lem in
      let e = w.is_end in
      let z : leb 0 (length T.text) ≡ true = le-leb 0 (length T.text) (omega arith) in
      let y : leb 0 0 ≡ true = refl in
      let r = all_of (below_at T⁺ (n + 1)) first (width_of kind count) (λ j h. lt-ltb (child_at children⁺ (first + j)) (n + 1) (below j h)) in
      rw (a, b, c, s, e, z, ok) r

  no_width : (kind count : ℕ) → width_of kind count ≡ 0 → (i : ℕ) → i < width_of kind count → ⊥
  no_width kind count e i h = omega arith

  -- the words of a literal are good wherever they stand
  literal_words_lem : (m n : ℕ) (l : Literal) → literal_at T m ≡ some l → words_ok T m (kind_of T.nodes m) (first_word_of T.nodes m) (count_of T.nodes m) ≡ true → words_ok T⁺ n (kind_of T.nodes m) (first_word_of T.nodes m) (count_of T.nodes m) ≡ true
  unfolding words_ok
  literal_words_lem m n l e ok =
      let f6 = ne_eqb (kind_of T.nodes m) 6 (literal_kind_lem T nodes⁺ children⁺ T m l e 6 (omega arith)) in
      let f7 = ne_eqb (kind_of T.nodes m) 7 (literal_kind_lem T nodes⁺ children⁺ T m l e 7 (omega arith)) in
      let f8 = ne_eqb (kind_of T.nodes m) 8 (literal_kind_lem T nodes⁺ children⁺ T m l e 8 (omega arith)) in
      let f9 = ne_eqb (kind_of T.nodes m) 9 (literal_kind_lem T nodes⁺ children⁺ T m l e 9 (omega arith)) in
      let f10 = ne_eqb (kind_of T.nodes m) 10 (literal_kind_lem T nodes⁺ children⁺ T m l e 10 (omega arith)) in
      simp (f6, f7, f8, f9, f10) (simp (f6, f7, f8, f9, f10) at ok)

  like_node : (l : Literal) (n k m : ℕ) → node_like T l n k ≡ some m → (n ≤ m) × (m < n + k)
  unfolding node_like
  like_node l n zero m e = absurd (false≢true (cc))
  like_node l n (suc k) m e = go (is_like T l (literal_at T n)) (like_node l (n + 1) k m) e
    where
      go : (b : Bool) → (node_like T l (n + 1) k ≡ some m → (n + 1 ≤ m) × (m < n + 1 + k)) → cond b (some n) (node_like T l (n + 1) k) ≡ some m → (n ≤ m) × (m < n + suc k)
      go true f q = let r : n ≡ m = cc in (omega arith, omega arith)
      go false f q = let r = f q in let a = r.0 in let b = r.1 in (omega arith, omega arith)

  null_words : (n : ℕ) → words_ok T⁺ n 5 0 0 ≡ true
  unfolding words_ok
  null_words n = refl

  array_words_lem : (n first count : ℕ) → first + count ≤ length children⁺ → words_ok T⁺ n 7 first count ≡ true
  unfolding words_ok
  array_words_lem n first count h = le-leb (first + count) (length children⁺) h

  object_words_lem : (n first count : ℕ) → first + count * 2 ≤ length children⁺ → words_ok T⁺ n 9 first count ≡ true
  unfolding words_ok
  object_words_lem n first count h = le-leb (first + count * 2) (length children⁺) h

  module _ (old : (n : ℕ) → Node T n → words_ok T n (kind_of T.nodes n) (first_word_of T.nodes n) (count_of T.nodes n) ≡ true) where
    literal_ok : (n : ℕ) (l : Literal) → Stands nodes⁺ (n * 5) (literal_words T l) → node_ok T⁺ (n + 1) ≡ true
    unfolding literal_words
    literal_ok n l s = go (node_like T l 1 (node_count T)) refl s
      where
        go : (o : Option ℕ) → node_like T l 1 (node_count T) ≡ o → Stands nodes⁺ (n * 5) (words_like T o) → node_ok T⁺ (n + 1) ≡ true
        go none e h = node_by n 5 0 0 (five_words T nodes⁺ children⁺ n 5 0 0 h) (null_words (n + 1)) (λ i lt. absurd (no_width 5 0 (width_leaf 5 0 (λ (x : 5 ≡ 7). omega arith) (λ (x : 5 ≡ 8). omega arith) (λ (x : 5 ≡ 9). omega arith)) i lt))
        go (some m) e h =
            let q = node_like_lem T nodes⁺ children⁺ l 1 (node_count T) m e in
            let r = like_node l 1 (node_count T) m e in
            let a = r.0 in
            let b = r.1 in
            let v : Node T m = record { low = a; high = omega arith } in
            node_by n (kind_of T.nodes m) (first_word_of T.nodes m) (count_of T.nodes m) (five_words T nodes⁺ children⁺ n (kind_of T.nodes m) (first_word_of T.nodes m) (count_of T.nodes m) h)
            (literal_words_lem m (n + 1) l q (old m v))
            (λ i lt. absurd (no_width (kind_of T.nodes m) (count_of T.nodes m) (width_leaf (kind_of T.nodes m) (count_of T.nodes m) (literal_kind_lem T nodes⁺ children⁺ T m l q 7 (omega arith)) (literal_kind_lem T nodes⁺ children⁺ T m l q 8 (omega arith)) (literal_kind_lem T nodes⁺ children⁺ T m l q 9 (omega arith))) i lt))

    value_ok : (v : Value) (n p : ℕ) → Stands nodes⁺ (n * 5) (node_words T v p) → Stands children⁺ p (child_words_lem v n) → p + child_entries v ≤ length children⁺ → node_ok T⁺ (n + size v) ≡ true
    unfolding node_words child_words_lem size child_entries
    value_ok (literalᵛ x l) n p s c f = literal_ok n l s
    value_ok (arrayᵛ x vs) n p s c f =
        let c' = stands_after children⁺ p (p + child_entries_all vs) (child_words_all vs n) (item_nodes vs n) (ap (λ x. p + x) (entries_length_all vs n)) c in
        let k = items_length vs n in
        let wd = width_array 7 (count_items_lem vs) refl in
        ap (node_ok T⁺) (one_after T nodes⁺ children⁺ n (size_all vs))
        ∙ node_by (n + size_all vs) 7 (p + child_entries_all vs) (count_items_lem vs) (five_words T nodes⁺ children⁺ (n + size_all vs) 7 (p + child_entries_all vs) (count_items_lem vs) (stands_after nodes⁺ (n * 5) ((n + size_all vs) * 5) (node_words_all T vs p) (array_words T nodes⁺ children⁺ vs p) (node_end T nodes⁺ children⁺ n (length (node_words_all T vs p)) (size_all vs) (words_length_all T vs p)) s))
        (array_words_lem (n + size_all vs + 1) (p + child_entries_all vs) (count_items_lem vs) (omega arith))
        (λ i h. let e = c' i (omega arith) in let b = each_at (Between n (n + size_all vs + 1)) (item_nodes vs n) (range_items vs n) i (omega arith) in rw e b.1)
    value_ok (objectᵛ x fs) n p s c f =
        let c' = stands_after children⁺ p (p + child_entries_fields fs) (child_words_fields fs n) (field_nodes fs n) (ap (λ x. p + x) (entries_length_fields fs n)) c in
        let k = fields_length fs n in
        let wd = width_object 9 (count_fieldsᵛ fs) refl in
        ap (node_ok T⁺) (one_after T nodes⁺ children⁺ n (size_fields fs))
        ∙ node_by (n + size_fields fs) 9 (p + child_entries_fields fs) (count_fieldsᵛ fs) (five_words T nodes⁺ children⁺ (n + size_fields fs) 9 (p + child_entries_fields fs) (count_fieldsᵛ fs) (stands_after nodes⁺ (n * 5) ((n + size_fields fs) * 5) (node_words_fields T fs p) (object_words T nodes⁺ children⁺ fs p) (node_end T nodes⁺ children⁺ n (length (node_words_fields T fs p)) (size_fields fs) (words_length_fields T fs p)) s))
        (object_words_lem (n + size_fields fs + 1) (p + child_entries_fields fs) (count_fieldsᵛ fs) (omega arith))
        (λ i h. let e = c' i (omega arith) in let b = each_at (Between n (n + size_fields fs + 1)) (field_nodes fs n) (range_nodes fs n) i (omega arith) in rw e b.1)

    pub part_ok : (m : ℕ) → Part m → node_ok T⁺ m ≡ true
    part_ok m r = let e = r.is in rw (← e) (value_ok r.value r.before r.place r.nodes_stand_lem r.entries_stand_lem r.entries_fit)

  -- 3. And no deeper than the value.
  pub part_deep : (m : ℕ) → Part m → depth (expr T⁺ m) ≤ deep
  unfolding expr
  part_deep m r =
      let e = r.is in
      let b = read_back T nodes⁺ children⁺ r.value r.before r.place (r.before + size r.value) r.nodes_stand_lem r.entries_stand_lem (omega arith) r.is_proper r.is_stored in
      let d = b.is_deep in
      let h = r.is_deep in
      rw (← e) (rw d h)
