-- What is written reads back: the tree of the last written node is the value, whatever stands before and after.
use Prim.Native.Nat.{ℕ, zero, suc, ◌+◌, ◌-◌, ◌*◌, ◌≤◌, ◌<◌, max}
use mathlib.Core.Bool.{Bool, true, false, cond, false≢true}
use mathlib.Core.List.{List, [], ◌∷◌, ◌++◌}
use mathlib.Core.Option.{Option, none, some}
use mathlib.Core.Path.{◌≡◌, refl, ap, ap₂, sym, ◌∙◌, fun_ext}
use native.Mathlib.Omega.{arith}
use borrow.Author.Tests.{ne_eqb}
use lib.Dec.{T as True, eqb}
use lib.ListN.{length, get_or, length-append, get_or-append}
use lib.Seq.{get_or-append-add}
use Rattle.literal.specs.Literal.{Literal, null}
use Rattle.literal.specs.Reading.{literal_of}
use Rattle.table.specs.Tables.{Tables, tables, record_word, kind_of, start_of, end_of, first_word_of, count_of, node_count, child_at}
use Rattle.table.specs.Expr as Expr
use Rattle.table.specs.Expr.{Expr, literal, array, object, Exprs, item, Fields, done, field, depth, depth_all, depth_fields_lem}
use Rattle.table.specs.Decode.{ref_of, literal_node, literal_at, items, fields, headed, expr_at}
use Rattle.planner.specs.Simple.{admitted, same_key, differing, keys_of, admitted_all, admitted_fields}
use Rattle.value.specs.Value.{Value, literalᵛ, arrayᵛ, objectᵛ, Values, noneᵛ, itemᵛ, ValueFields, doneᵛ, fieldᵛ, keysᵛ, proper, proper_all_lem, proper_fields_lem, Proper, is_value, value_of, values_of, value_fields_of}
use Rattle.value.proofs.Keys.{and_left, and_right, both, true_is, key→}
use Rattle.common_example.specs.Overlap.{size, size_all, size_fields, depthᵛ, depth_allᵛ, depth_fieldsᵛ}
use Rattle.common_example.specs.Operations.{child_entries, child_entries_all, child_entries_fields, count_items_lem, count_fieldsᵛ, is_like, node_like, words_like, literal_words, node_words, node_words_all, node_words_fields, child_words_lem, child_words_all, child_words_fields, item_nodes, field_nodes}
use Rattle.common_example.proofs.patterns.Literals.{Stored, AllOf, AllIn, AllUnder}
use Rattle.value.proofs.Equal.{an_array, an_object, one_more_lem, present, pick, meaning, meanings, meaning_at}

-- words that stand in a list from a place on
abbrev pub Stands : List ℕ → ℕ → List ℕ → Type 0
Stands xs at ws = (i : ℕ) → i < length ws → get_or xs (at + i) 0 ≡ get_or ws i 0

pub stands_left : (xs : List ℕ) (at : ℕ) (vs ws : List ℕ) → Stands xs at (vs ++ ws) → Stands xs at vs
stands_left xs at vs ws f i h = let l = length-append vs ws in f i (omega arith) ∙ get_or-append vs ws 0 i h

pub stands_right : (xs : List ℕ) (at : ℕ) (vs ws : List ℕ) → Stands xs at (vs ++ ws) → Stands xs (at + length vs) ws
stands_right xs at vs ws f i h =
    let l = length-append vs ws in
    let e : at + length vs + i ≡ at + (length vs + i) = omega arith in
    rw e (f (length vs + i) (omega arith) ∙ get_or-append-add vs ws i 0)

pub stands_after : (xs : List ℕ) (at to : ℕ) (vs ws : List ℕ) → at + length vs ≡ to → Stands xs at (vs ++ ws) → Stands xs to ws
stands_after xs at to vs ws e f = rw e at (stands_right xs at vs ws f)

-- 1. How much is written.
module _ (T : Tables) where
  pub literal_five : (l : Literal) → length (literal_words T l) ≡ 5
  unfolding literal_words
  literal_five l = go (node_like T l 1 (node_count T))
    where
      go : (o : Option ℕ) → length (words_like T o) ≡ 5
      go none = refl
      go (some n) = refl

  mutual
    unfolding node_words size

    pub words_length : (v : Value) (p : ℕ) → length (node_words T v p) ≡ size v * 5
    words_length (literalᵛ n l) p = literal_five l
    words_length (arrayᵛ n vs) p = let a = words_length_all vs p in let b = length-append (node_words_all T vs p) (7 ∷ (0 ∷ (0 ∷ ((p + child_entries_all vs) ∷ (count_items_lem vs ∷ []))))) in omega (arith, a, b)
    words_length (objectᵛ n fs) p = let a = words_length_fields fs p in let b = length-append (node_words_fields T fs p) (9 ∷ (0 ∷ (0 ∷ ((p + child_entries_fields fs) ∷ (count_fieldsᵛ fs ∷ []))))) in omega (arith, a, b)

    pub words_length_all : (vs : Values) (p : ℕ) → length (node_words_all T vs p) ≡ size_all vs * 5
    words_length_all noneᵛ p = refl
    words_length_all (itemᵛ v vs) p = let a = words_length v p in let b = words_length_all vs (p + child_entries v) in let c = length-append (node_words T v p) (node_words_all T vs (p + child_entries v)) in omega (arith, a, b, c)

    pub words_length_fields : (fs : ValueFields) (p : ℕ) → length (node_words_fields T fs p) ≡ size_fields fs * 5
    words_length_fields doneᵛ p = refl
    words_length_fields (fieldᵛ k v fs) p =
        let a = words_length v p in
        let b = words_length_fields fs (p + child_entries v) in
        let c = length-append (node_words T v p) (node_words_fields T fs (p + child_entries v)) in
        let d = length-append (literal_words T k) (node_words T v p ++ node_words_fields T fs (p + child_entries v)) in
        let e = literal_five k in
        omega (arith, a, b, c, d, e)

pub items_length : (vs : Values) (n : ℕ) → length (item_nodes vs n) ≡ count_items_lem vs
unfolding child_words_lem child_entries
items_length noneᵛ n = refl
items_length (itemᵛ v vs) n = let a = items_length vs (n + size v) in omega arith

pub fields_length : (fs : ValueFields) (n : ℕ) → length (field_nodes fs n) ≡ count_fieldsᵛ fs * 2
unfolding child_words_lem child_entries
fields_length doneᵛ n = refl
fields_length (fieldᵛ k v fs) n = let a = fields_length fs (n + 1 + size v) in omega arith

mutual
  unfolding child_words_lem child_entries

  pub entries_length : (v : Value) (n : ℕ) → length (child_words_lem v n) ≡ child_entries v
  entries_length (literalᵛ m l) n = refl
  entries_length (arrayᵛ m vs) n = let a = entries_length_all vs n in let b = items_length vs n in let c = length-append (child_words_all vs n) (item_nodes vs n) in omega (arith, a, b, c)
  entries_length (objectᵛ m fs) n = let a = entries_length_fields fs n in let b = fields_length fs n in let c = length-append (child_words_fields fs n) (field_nodes fs n) in omega (arith, a, b, c)

  pub entries_length_all : (vs : Values) (n : ℕ) → length (child_words_all vs n) ≡ child_entries_all vs
  entries_length_all noneᵛ n = refl
  entries_length_all (itemᵛ v vs) n = let a = entries_length v n in let b = entries_length_all vs (n + size v) in let c = length-append (child_words_lem v n) (child_words_all vs (n + size v)) in omega (arith, a, b, c)

  pub entries_length_fields : (fs : ValueFields) (n : ℕ) → length (child_words_fields fs n) ≡ child_entries_fields fs
  entries_length_fields doneᵛ n = refl
  entries_length_fields (fieldᵛ k v fs) n = let a = entries_length v (n + 1) in let b = entries_length_fields fs (n + 1 + size v) in let c = length-append (child_words_lem v (n + 1)) (child_words_fields fs (n + 1 + size v)) in omega (arith, a, b, c)

-- 2. Reading it.
module _ (T : Tables) (nodes⁺ children⁺ : List ℕ) where
  abbrev T⁺ : Tables
  T⁺ = tables nodes⁺ children⁺ T.numbers T.names T.strings T.text

  word_at : (k n : ℕ) → record_word 5 k nodes⁺ (n + 1) ≡ get_or nodes⁺ (n * 5 + k) 0
  unfolding record_word
  word_at k n =
      let e : eqb (n + 1) 0 ≡ false = ne_eqb (n + 1) 0 (λ (h : n + 1 ≡ 0). omega arith) in
      let q : (n + 1 - 1) * 5 + k ≡ n * 5 + k = omega arith in
      rw (e, q)

  pub record Words (n kind first count : ℕ) : Type 0 where
    pub is_kind : kind_of nodes⁺ (n + 1) ≡ kind
    pub is_start_lem : start_of nodes⁺ (n + 1) ≡ 0
    pub is_end : end_of nodes⁺ (n + 1) ≡ 0
    pub is_first_lem : first_word_of nodes⁺ (n + 1) ≡ first
    pub is_count_lem : count_of nodes⁺ (n + 1) ≡ count

  pub five_words : (n kind first count : ℕ) → Stands nodes⁺ (n * 5) (kind ∷ (0 ∷ (0 ∷ (first ∷ (count ∷ []))))) → Words n kind first count
  five_words n kind first count f = record {
    is_kind = word_at 0 n ∙ f 0 (omega arith);
    is_start_lem = word_at 1 n ∙ f 1 (omega arith);
    is_end = word_at 2 n ∙ f 2 (omega arith);
    is_first_lem = word_at 3 n ∙ f 3 (omega arith);
    is_count_lem = word_at 4 n ∙ f 4 (omega arith);
  }

  like_is : (l : Literal) (o : Option Literal) → is_like T l o ≡ true → o ≡ some l
  like_is l none e = absurd (false≢true e)
  like_is l (some k) e = ap some (sym (key→ l k (true_is e)))

  pub node_like_lem : (l : Literal) (n k m : ℕ) → node_like T l n k ≡ some m → literal_at T m ≡ some l
  unfolding node_like
  node_like_lem l n zero m e = absurd (false≢true (cc))
  node_like_lem l n (suc k) m e = go (is_like T l (literal_at T n)) refl (node_like_lem l (n + 1) k m) e
    where
      go : (b : Bool) → is_like T l (literal_at T n) ≡ b → (node_like T l (n + 1) k ≡ some m → literal_at T m ≡ some l) → cond b (some n) (node_like T l (n + 1) k) ≡ some m → literal_at T m ≡ some l
      go true p f q = let r : n ≡ m = cc in rw (← r) (like_is l (literal_at T n) p)
      go false p f q = f q

  -- no literal has the kind of a name, an array, a set or an object
  pub literal_kind_lem : (U : Tables) (m : ℕ) (l : Literal) → literal_at U m ≡ some l → (k : ℕ) → 6 ≤ k → kind_of U.nodes m ≡ k → ⊥
  unfolding literal_node ref_of
  literal_kind_lem U m l e k h q =
      let a = ne_eqb (kind_of U.nodes m) 1 (λ (x : kind_of U.nodes m ≡ 1). omega arith) in
      let b = ne_eqb (kind_of U.nodes m) 2 (λ (x : kind_of U.nodes m ≡ 2). omega arith) in
      let c = ne_eqb (kind_of U.nodes m) 3 (λ (x : kind_of U.nodes m ≡ 3). omega arith) in
      let d = ne_eqb (kind_of U.nodes m) 4 (λ (x : kind_of U.nodes m ≡ 4). omega arith) in
      let f = ne_eqb (kind_of U.nodes m) 5 (λ (x : kind_of U.nodes m ≡ 5). omega arith) in
      let x : none ≡ some l = simp (a, b, c, d, f) at e in
      false≢true (cc)

  leaf_read : (n f : ℕ) (l : Literal) → literal_at T⁺ (n + 1) ≡ some l → expr_at T⁺ (suc f) (n + 1) ≡ literal (n + 1) l
  unfolding expr_at headed
  leaf_read n f l e =
      let a = ne_eqb (kind_of nodes⁺ (n + 1)) 6 (literal_kind_lem T⁺ (n + 1) l e 6 (omega arith)) in
      let b = ne_eqb (kind_of nodes⁺ (n + 1)) 7 (literal_kind_lem T⁺ (n + 1) l e 7 (omega arith)) in
      let c = ne_eqb (kind_of nodes⁺ (n + 1)) 8 (literal_kind_lem T⁺ (n + 1) l e 8 (omega arith)) in
      let d = ne_eqb (kind_of nodes⁺ (n + 1)) 9 (literal_kind_lem T⁺ (n + 1) l e 9 (omega arith)) in
      simp (a, b, c, d, e)

  literal_like : (n m : ℕ) → Words n (kind_of T.nodes m) (first_word_of T.nodes m) (count_of T.nodes m) → literal_at T⁺ (n + 1) ≡ literal_at T m
  unfolding literal_node ref_of
  literal_like n m w = let a = w.is_kind in let b = w.is_first_lem in let c = w.is_count_lem in rw (a, b, c)

  literal_null : (n : ℕ) → Words n 5 0 0 → literal_at T⁺ (n + 1) ≡ some null
  unfolding literal_node ref_of literal_of
  literal_null n w = let a = w.is_kind in rw a

  literal_read_lem : (n f : ℕ) (l : Literal) → Stands nodes⁺ (n * 5) (literal_words T l) → Stored T l → expr_at T⁺ (suc f) (n + 1) ≡ literal (n + 1) l
  unfolding literal_words
  literal_read_lem n f l s known = go (node_like T l 1 (node_count T)) refl s
    where
      go : (o : Option ℕ) → node_like T l 1 (node_count T) ≡ o → Stands nodes⁺ (n * 5) (words_like T o) → expr_at T⁺ (suc f) (n + 1) ≡ literal (n + 1) l
      go none e h = leaf_read n f l (literal_null n (five_words n 5 0 0 h) ∙ ap some (sym (known e)))
      go (some m) e h = leaf_read n f l (literal_like n m (five_words n (kind_of T.nodes m) (first_word_of T.nodes m) (count_of T.nodes m) h) ∙ node_like_lem l 1 (node_count T) m e)

  array_read : (n f first count : ℕ) → Words n 7 first count → expr_at T⁺ (suc f) (n + 1) ≡ array (n + 1) (items (expr_at T⁺ f) children⁺ first count)
  unfolding expr_at headed
  array_read n f first count w = let a = w.is_kind in let b = w.is_first_lem in let c = w.is_count_lem in simp (a, b, c)

  object_read : (n f first count : ℕ) → Words n 9 first count → expr_at T⁺ (suc f) (n + 1) ≡ object (n + 1) (fields (expr_at T⁺ f) children⁺ first count)
  unfolding expr_at headed
  object_read n f first count w = let a = w.is_kind in let b = w.is_first_lem in let c = w.is_count_lem in simp (a, b, c)

  -- an expression that is this value
  pub record Reads (v : Value) (e : Expr) : Type 0 where
    pub is_a_value : True (is_value e)
    pub means : meaning (value_of e) ≡ meaning v
    pub is_deep : depth e ≡ depthᵛ v

  abbrev ReadsAll : Values → Exprs → Type 0
  ReadsAll vs es = True (admitted_all false es) × (meanings (values_of es) ≡ meanings vs) × (depth_all es ≡ depth_allᵛ vs)

  abbrev ReadsFields : ValueFields → Fields → Type 0
  ReadsFields fs gs = True (admitted_fields false gs) × (keys_of gs ≡ keysᵛ fs) × ((k : Literal) → meaning_at (value_fields_of gs) k ≡ meaning_at fs k) × (depth_fields_lem gs ≡ depth_fieldsᵛ fs)

  reads_literal : (m n : ℕ) (l : Literal) (e : Expr) → e ≡ literal n l → Reads (literalᵛ m l) e
  unfolding admitted value_of meaning depth depthᵛ
  reads_literal m n l e q = rw q (record { is_a_value = tt; means = refl; is_deep = refl })

  reads_array : (m n : ℕ) (vs : Values) (es : Exprs) (e : Expr) → e ≡ array n es → ReadsAll vs es → Reads (arrayᵛ m vs) e
  unfolding admitted value_of meaning depth depthᵛ
  reads_array m n vs es e q r = rw q (record { is_a_value = r.0; means = ap an_array r.1; is_deep = ap (λ x. 1 + x) r.2 })

  reads_object : (m n : ℕ) (fs : ValueFields) (gs : Fields) (e : Expr) → e ≡ object n gs → True (differing (keysᵛ fs)) → ReadsFields fs gs → Reads (objectᵛ m fs) e
  unfolding admitted value_of meaning depth depthᵛ
  reads_object m n fs gs e q d r = let k = r.1 in rw q (record { is_a_value = both (differing (keys_of gs)) (admitted_fields false gs) (rw k d) r.0; means = ap an_object (fun_ext r.2); is_deep = ap (λ x. 1 + x) r.3 })

  reads_item : (v : Value) (vs : Values) (e : Expr) (es : Exprs) → Reads v e → ReadsAll vs es → ReadsAll (itemᵛ v vs) (item e es)
  unfolding admitted value_of meaning depth depthᵛ
  reads_item v vs e es a b = (both (is_value e) (admitted_all false es) a.is_a_value b.0, ap₂ one_more_lem a.means b.1, ap₂ max a.is_deep b.2)

  reads_none : ReadsAll noneᵛ Expr.none
  unfolding admitted value_of meaning depth depthᵛ
  reads_none = (tt, refl, refl)

  reads_done : ReadsFields doneᵛ done
  unfolding admitted value_of meaning keys_of keysᵛ depth depthᵛ
  reads_done = (tt, refl, λ k. refl, refl)

  reads_field : (k : Literal) (n : ℕ) (v : Value) (fs : ValueFields) (c e : Expr) (gs : Fields) → c ≡ literal n k → Reads v e → ReadsFields fs gs → ReadsFields (fieldᵛ k v fs) (field c e gs)
  unfolding admitted value_of meaning keys_of keysᵛ depth depthᵛ
  reads_field k n v fs c e gs q a b = rw q (
    both (is_value e) (admitted_fields false gs) a.is_a_value b.0,
    ap (λ ks. k ∷ ks) b.1,
    λ j. ap₂ (λ m u. pick (same_key j k) (present m) u) a.means (b.2 j),
    ap₂ (λ (x y : ℕ). max 1 (max x y)) a.is_deep b.3,
  )

  -- small steps
  no_level : (a : ℕ) → (1 + a ≤ 0 → ⊥) → 1 + a ≤ 0 → ⊥
  no_level a f h = f h

  less_level : (a f : ℕ) → 1 + a ≤ suc f → a ≤ f
  less_level a f h = omega arith

  part_left : (a b f : ℕ) → a + b ≤ f → a ≤ f
  part_left a b f h = omega arith

  part_right : (a b f : ℕ) → a + b ≤ f → b ≤ f
  part_right a b f h = omega arith

  part_middle : (a b f : ℕ) → 1 + (a + b) ≤ f → a ≤ f
  part_middle a b f h = omega arith

  part_last : (a b f : ℕ) → 1 + (a + b) ≤ f → b ≤ f
  part_last a b f h = omega arith

  pub node_end : (n w a : ℕ) → w ≡ a * 5 → n * 5 + w ≡ (n + a) * 5
  node_end n w a e = omega arith

  pub one_after : (n a : ℕ) → n + (1 + a) ≡ n + a + 1
  one_after n a = omega arith

  first_at : (at x : ℕ) (xs : List ℕ) → Stands children⁺ at (x ∷ xs) → child_at children⁺ at ≡ x
  first_at at x xs r = let e : at + 0 ≡ at = omega arith in rw e at (r 0 (omega arith))

  two_after : (at x y : ℕ) (xs : List ℕ) → Stands children⁺ at (x ∷ (y ∷ xs)) → Stands children⁺ (at + 2) xs
  two_after at x y xs r = stands_right children⁺ at (x ∷ (y ∷ [])) xs r

  key_read : (n f : ℕ) (j : Literal) (a : ℕ) → 1 + a ≤ f → Stands nodes⁺ (n * 5) (literal_words T j) → Stored T j → expr_at T⁺ f (n + 1) ≡ literal (n + 1) j
  key_read n zero j a h s k = absurd (no_level a (λ x. omega arith) h)
  key_read n (suc f) j a h s k = literal_read_lem n f j s k

  abbrev pub array_words : Values → ℕ → List ℕ
  array_words vs p = 7 ∷ (0 ∷ (0 ∷ ((p + child_entries_all vs) ∷ (count_items_lem vs ∷ []))))

  abbrev pub object_words : ValueFields → ℕ → List ℕ
  object_words fs p = 9 ∷ (0 ∷ (0 ∷ ((p + child_entries_fields fs) ∷ (count_fieldsᵛ fs ∷ []))))

  items_on : (k at f : ℕ) → items (expr_at T⁺ f) children⁺ at (1 + k) ≡ item (expr_at T⁺ f (child_at children⁺ at)) (items (expr_at T⁺ f) children⁺ (at + 1) k)
  unfolding items
  items_on k at f = let e : 1 + k ≡ suc k = omega arith in ap (λ (m : ℕ). items (expr_at T⁺ f) children⁺ at m) e

  fields_on : (k at f : ℕ) → fields (expr_at T⁺ f) children⁺ at (1 + k) ≡ field (expr_at T⁺ f (child_at children⁺ at)) (expr_at T⁺ f (child_at children⁺ (at + 1))) (fields (expr_at T⁺ f) children⁺ (at + 2) k)
  unfolding fields
  fields_on k at f = let e : 1 + k ≡ suc k = omega arith in ap (λ (m : ℕ). fields (expr_at T⁺ f) children⁺ at m) e

  -- the tree of what stands after n nodes, with its child entries from place p on
  mutual
    unfolding node_words child_words_lem size child_entries proper items fields

    pub read_back : (v : Value) (n p f : ℕ) → Stands nodes⁺ (n * 5) (node_words T v p) → Stands children⁺ p (child_words_lem v n) → size v ≤ f → Proper v → AllOf (Stored T) v → Reads v (expr_at T⁺ f (n + size v))
    read_back (literalᵛ m l) n p zero s c h q k = absurd (no_level 0 (λ x. omega arith) h)
    read_back (literalᵛ m l) n p (suc f) s c h q k = reads_literal m (n + 1) l (expr_at T⁺ (suc f) (n + 1)) (literal_read_lem n f l s k)
    read_back (arrayᵛ m vs) n p zero s c h q k = absurd (no_level (size_all vs) (λ x. omega arith) h)
    read_back (arrayᵛ m vs) n p (suc f) s c h q k =
        let r = read_all vs n p (p + child_entries_all vs) f (stands_left nodes⁺ (n * 5) (node_words_all T vs p) (array_words vs p) s) (stands_left children⁺ p (child_words_all vs n) (item_nodes vs n) c) (stands_after children⁺ p (p + child_entries_all vs) (child_words_all vs n) (item_nodes vs n) (ap (λ x. p + x) (entries_length_all vs n)) c) (less_level (size_all vs) f h) q k in
        let w = five_words (n + size_all vs) 7 (p + child_entries_all vs) (count_items_lem vs) (stands_after nodes⁺ (n * 5) ((n + size_all vs) * 5) (node_words_all T vs p) (array_words vs p) (node_end n (length (node_words_all T vs p)) (size_all vs) (words_length_all T vs p)) s) in
        reads_array m (n + size_all vs + 1) vs (items (expr_at T⁺ f) children⁺ (p + child_entries_all vs) (count_items_lem vs)) (expr_at T⁺ (suc f) (n + (1 + size_all vs))) (ap (expr_at T⁺ (suc f)) (one_after n (size_all vs)) ∙ array_read (n + size_all vs) f (p + child_entries_all vs) (count_items_lem vs) w) r
    read_back (objectᵛ m fs) n p zero s c h q k = absurd (no_level (size_fields fs) (λ x. omega arith) h)
    read_back (objectᵛ m fs) n p (suc f) s c h q k =
        let r = read_fields fs n p (p + child_entries_fields fs) f (stands_left nodes⁺ (n * 5) (node_words_fields T fs p) (object_words fs p) s) (stands_left children⁺ p (child_words_fields fs n) (field_nodes fs n) c) (stands_after children⁺ p (p + child_entries_fields fs) (child_words_fields fs n) (field_nodes fs n) (ap (λ x. p + x) (entries_length_fields fs n)) c) (less_level (size_fields fs) f h) (and_right (differing (keysᵛ fs)) (proper_fields_lem fs) q) k in
        let w = five_words (n + size_fields fs) 9 (p + child_entries_fields fs) (count_fieldsᵛ fs) (stands_after nodes⁺ (n * 5) ((n + size_fields fs) * 5) (node_words_fields T fs p) (object_words fs p) (node_end n (length (node_words_fields T fs p)) (size_fields fs) (words_length_fields T fs p)) s) in
        reads_object m (n + size_fields fs + 1) fs (fields (expr_at T⁺ f) children⁺ (p + child_entries_fields fs) (count_fieldsᵛ fs)) (expr_at T⁺ (suc f) (n + (1 + size_fields fs))) (ap (expr_at T⁺ (suc f)) (one_after n (size_fields fs)) ∙ object_read (n + size_fields fs) f (p + child_entries_fields fs) (count_fieldsᵛ fs) w) (and_left (differing (keysᵛ fs)) (proper_fields_lem fs) q) r

    read_all : (vs : Values) (n p at f : ℕ) → Stands nodes⁺ (n * 5) (node_words_all T vs p) → Stands children⁺ p (child_words_all vs n) → Stands children⁺ at (item_nodes vs n) → size_all vs ≤ f → True (proper_all_lem vs) → AllIn (Stored T) vs
        → ReadsAll vs (items (expr_at T⁺ f) children⁺ at (count_items_lem vs))
    read_all noneᵛ n p at f s c r h q k = reads_none
    read_all (itemᵛ v vs) n p at f s c r h q k =
        let here = read_back v n p f (stands_left nodes⁺ (n * 5) (node_words T v p) (node_words_all T vs (p + child_entries v)) s) (stands_left children⁺ p (child_words_lem v n) (child_words_all vs (n + size v)) c) (part_left (size v) (size_all vs) f h) (and_left (proper v) (proper_all_lem vs) q) k.0 in
        let rest = read_all vs (n + size v) (p + child_entries v) (at + 1) f
        (stands_after nodes⁺ (n * 5) ((n + size v) * 5) (node_words T v p) (node_words_all T vs (p + child_entries v)) (node_end n (length (node_words T v p)) (size v) (words_length T v p)) s)
        (stands_after children⁺ p (p + child_entries v) (child_words_lem v n) (child_words_all vs (n + size v)) (ap (λ x. p + x) (entries_length v n)) c)
        (stands_right children⁺ at ((n + size v) ∷ []) (item_nodes vs (n + size v)) r) (part_right (size v) (size_all vs) f h) (and_right (proper v) (proper_all_lem vs) q) k.1 in
        let child : child_at children⁺ at ≡ n + size v = first_at at (n + size v) (item_nodes vs (n + size v)) r in
        let step = items_on (count_items_lem vs) at f in
        rw step (reads_item v vs (expr_at T⁺ f (child_at children⁺ at)) (items (expr_at T⁺ f) children⁺ (at + 1) (count_items_lem vs)) (rw child here) rest)

    read_fields : (fs : ValueFields) (n p at f : ℕ) → Stands nodes⁺ (n * 5) (node_words_fields T fs p) → Stands children⁺ p (child_words_fields fs n) → Stands children⁺ at (field_nodes fs n) → size_fields fs ≤ f → True (proper_fields_lem fs) → AllUnder (Stored T) fs
        → ReadsFields fs (fields (expr_at T⁺ f) children⁺ at (count_fieldsᵛ fs))
    read_fields doneᵛ n p at f s c r h q k = reads_done
    read_fields (fieldᵛ j v fs) n p at f s c r h q k =
        let s' = stands_after nodes⁺ (n * 5) ((n + 1) * 5) (literal_words T j) (node_words T v p ++ node_words_fields T fs (p + child_entries v)) (node_end n (length (literal_words T j)) 1 (literal_five T j)) s in
        let r' = stands_right children⁺ at ((n + 1) ∷ []) ((n + 1 + size v) ∷ field_nodes fs (n + 1 + size v)) r in
        let key : expr_at T⁺ f (n + 1) ≡ literal (n + 1) j = key_read n f j (size v + size_fields fs) h (stands_left nodes⁺ (n * 5) (literal_words T j) (node_words T v p ++ node_words_fields T fs (p + child_entries v)) s) k.0 in
        let here = read_back v (n + 1) p f (stands_left nodes⁺ ((n + 1) * 5) (node_words T v p) (node_words_fields T fs (p + child_entries v)) s') (stands_left children⁺ p (child_words_lem v (n + 1)) (child_words_fields fs (n + 1 + size v)) c) (part_middle (size v) (size_fields fs) f h) (and_left (proper v) (proper_fields_lem fs) q) k.1 in
        let rest = read_fields fs (n + 1 + size v) (p + child_entries v) (at + 2) f
        (stands_after nodes⁺ ((n + 1) * 5) ((n + 1 + size v) * 5) (node_words T v p) (node_words_fields T fs (p + child_entries v)) (node_end (n + 1) (length (node_words T v p)) (size v) (words_length T v p)) s')
        (stands_after children⁺ p (p + child_entries v) (child_words_lem v (n + 1)) (child_words_fields fs (n + 1 + size v)) (ap (λ x. p + x) (entries_length v (n + 1))) c)
        (two_after at (n + 1) (n + 1 + size v) (field_nodes fs (n + 1 + size v)) r) (part_last (size v) (size_fields fs) f h) (and_right (proper v) (proper_fields_lem fs) q) k.2 in
        let first : child_at children⁺ at ≡ n + 1 = first_at at (n + 1) ((n + 1 + size v) ∷ field_nodes fs (n + 1 + size v)) r in
        let second : child_at children⁺ (at + 1) ≡ n + 1 + size v = first_at (at + 1) (n + 1 + size v) (field_nodes fs (n + 1 + size v)) r' in
        let step = fields_on (count_fieldsᵛ fs) at f in
        rw step (reads_field j (n + 1) v fs (expr_at T⁺ f (child_at children⁺ at)) (expr_at T⁺ f (child_at children⁺ (at + 1))) (fields (expr_at T⁺ f) children⁺ (at + 2) (count_fieldsᵛ fs)) (rw first key) (rw second here) rest)
