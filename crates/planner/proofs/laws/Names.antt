-- The walk over a pattern's names.
use Prim.Native.Nat.{ℕ, zero, suc, ◌+◌, ◌-◌, ◌*◌, ◌^◌, ◌≤◌, ◌<◌}
use mathlib.Core.Path.{◌≡◌, refl, sym, ap, subst, ◌∙◌}
use mathlib.Core.List.{List, [], ◌∷◌, ◌++◌}
use mathlib.Core.Bool.{Bool, true, false, cond}
use mathlib.Core.Option.{Option}
use native.Mathlib.Omega.{arith}
use mir.Val.{Fits}
use mir.Syntax.{w64}
use borrow.Author.Tests.{eq-eqb, ne_eqb, eqb-true, eqb-false}
use lib.Dec.{eqb}
use lib.ListN.{get_or}
use Rattle.literal.specs.Literal.{Literal}
use Rattle.table.specs.Tables.{Tables, kind_of, first_word_of, count_of, width, child_at}
use Rattle.table.specs.Expr.{Expr, literal, name, wildcard, array, set, object, other, Exprs, none, item, Fields, done, field}
use Rattle.table.specs.Decode.{expr, items, fields, is_wildcard, leaf_of, literal_at}
use Rattle.table.specs.code.Sound.{Node, Named, WellFormed}
use Rattle.table.proofs.trees.Trees.{width_array, width_set, width_object, child_node, expr_name, expr_array, expr_set, expr_object, expr_leaf}
use Rattle.planner.specs.Names.{Occurrence, occurrences, occurrences_all, occurrences_fields, first_node}
use Rattle.planner.specs.code.Post.{Walks, WalksChildren}
use Rattle.planner.specs.code.Validation.{marked_in, occurrences_from, Places, places, places_by, SpanOf}
use Rattle.planner.proofs.laws.Binders.{AllNames, AllNamesAll, AllNamesFields, names_all}
use Rattle.planner.proofs.destructuring.Walking.{walk_fits, walk_on, walk_child, walk_below}

-- P holds of every occurrence
module _ (P : ℕ → ℕ → Type 0) where
  unfoldable pub Each : List Occurrence → Type 0
  Each [] = Unit {0}
  Each (o ∷ os) = P o.node o.name × Each os

  each_append : (os ps : List Occurrence) → Each os → Each ps → Each (os ++ ps)
  unfolding Each
  each_append [] ps a b = b
  each_append (o ∷ os) ps a b = (a.0, each_append os ps a.1 b)

  each_cond : (b : Bool) (os : List Occurrence) → Each os → Each (cond b os [])
  unfolding Each
  each_cond true os h = h
  each_cond false os h = tt

  module _ (sets keys : Bool) where
    mutual
      unfolding occurrences AllNames Each

      pub each_occurrence : (e : Expr) → AllNames P e → Each (occurrences sets keys e)
      each_occurrence (literal n l) h = tt
      each_occurrence (name n x) h = (h, tt)
      each_occurrence (wildcard n) h = tt
      each_occurrence (array n es) h = each_occurrence_all es h
      each_occurrence (set n es) h = each_cond sets (occurrences_all sets keys es) (each_occurrence_all es h)
      each_occurrence (object n fs) h = each_occurrence_fields fs h
      each_occurrence (other n) h = tt

      each_occurrence_all : (es : Exprs) → AllNamesAll P es → Each (occurrences_all sets keys es)
      each_occurrence_all none h = tt
      each_occurrence_all (item e es) h = each_append (occurrences sets keys e) (occurrences_all sets keys es) (each_occurrence e h.0) (each_occurrence_all es h.1)

      each_occurrence_fields : (fs : Fields) → AllNamesFields P fs → Each (occurrences_fields sets keys fs)
      each_occurrence_fields done h = tt
      each_occurrence_fields (field k v fs) h =
          each_append (cond keys (occurrences sets keys k) []) (occurrences sets keys v ++ occurrences_fields sets keys fs) (each_cond keys (occurrences sets keys k) (each_occurrence k h.0))
          (each_append (occurrences sets keys v) (occurrences_fields sets keys fs) (each_occurrence v h.1) (each_occurrence_fields fs h.2))

-- the first node
abbrev pub IsNode : ℕ → ℕ → Type 0
IsNode n x = 1 ≤ n

first_append : (bad : ℕ → Bool) (os ps : List Occurrence) → Each IsNode os → first_node bad (os ++ ps) ≡ cond (eqb (first_node bad os) 0) (first_node bad ps) (first_node bad os)
unfolding first_node Each
first_append bad [] ps h = refl
first_append bad (o ∷ os) ps h = go (first_append bad os ps h.1) (bad o.name) refl
  where
    go : first_node bad (os ++ ps) ≡ cond (eqb (first_node bad os) 0) (first_node bad ps) (first_node bad os) → (b : Bool) → bad o.name ≡ b → first_node bad ((o ∷ os) ++ ps) ≡ cond (eqb (first_node bad (o ∷ os)) 0) (first_node bad ps) (first_node bad (o ∷ os))
    go rest true p = let l = h.0 in let z : eqb o.node 0 ≡ false = ne_eqb o.node 0 (λ q. omega arith) in simp (p, z)
    go rest false p = simp p rest

abbrev SameTest : (ℕ → Bool) → (ℕ → Bool) → ℕ → ℕ → Type 0
SameTest bad worse n x = bad x ≡ worse x

first_same : (bad worse : ℕ → Bool) (os : List Occurrence) → Each (SameTest bad worse) os → first_node bad os ≡ first_node worse os
unfolding first_node Each
first_same bad worse [] h = refl
first_same bad worse (o ∷ os) h = let r = first_same bad worse os h.1 in simp (h.0, r)

-- of a table
module _ (sets keys : Bool) (T : Tables) (w : WellFormed T) (n : ℕ) (v : Node T n) where
  pub occurs_at : Each IsNode (occurrences sets keys (expr T n))
  occurs_at = each_occurrence IsNode sets keys (expr T n) (names_all T w IsNode (λ m z k named. z.low) n v)

  pub first_agree : (bad worse : ℕ → Bool) → ((x : ℕ) → Named T x → is_wildcard T x ≡ false → bad x ≡ worse x) → first_node bad (occurrences sets keys (expr T n)) ≡ first_node worse (occurrences sets keys (expr T n))
  first_agree bad worse same =
      first_same bad worse (occurrences sets keys (expr T n))
      (each_occurrence (SameTest bad worse) sets keys (expr T n) (names_all T w (SameTest bad worse) (λ m z k named. same (first_word_of T.nodes m) (w.named m z k) named) n v))

-- a walk over children with a step, and the lists of a tree
module _ (sets keys : Bool) (g : ℕ → Expr) (ch : List ℕ) where
  all_from : (at k : ℕ) → occurrences_all sets keys (items g ch at k) ≡ occurrences_from sets keys g ch at 1 k
  unfolding occurrences occurrences_from items
  all_from at zero = refl
  all_from at (suc k) = ap (λ (os : List Occurrence). occurrences sets keys (g (child_at ch at)) ++ os) (all_from (at + 1) k)

  from_step : (at step left : ℕ) → 0 < left → occurrences_from sets keys g ch at step left ≡ occurrences sets keys (g (child_at ch at)) ++ occurrences_from sets keys g ch (at + step) step (left - 1)
  unfolding occurrences_from
  from_step at step left more = let a : left ≡ suc (left - 1) = omega arith in ap (λ (k : ℕ). occurrences_from sets keys g ch at step k) a

  from_end : (at step left : ℕ) → left ≤ 0 → occurrences_from sets keys g ch at step left ≡ []
  unfolding occurrences_from
  from_end at step left no_more = let a : left ≡ 0 = omega arith in rw a

module _ (sets : Bool) (g : ℕ → Expr) (ch : List ℕ) where
  values_from_lem : (at k : ℕ) → occurrences_fields sets false (fields g ch at k) ≡ occurrences_from sets false g ch (at + 1) 2 k
  unfolding occurrences occurrences_from fields
  values_from_lem at zero = refl
  values_from_lem at (suc k) =
      let e : at + 2 + 1 ≡ at + 1 + 2 = omega arith in
      ap (λ (os : List Occurrence). occurrences sets false (g (child_at ch (at + 1))) ++ os) (values_from_lem (at + 2) k ∙ ap (λ (i : ℕ). occurrences_from sets false g ch i 2 k) e)

  keyed_from : (at k : ℕ) → occurrences_fields sets true (fields g ch at k) ≡ occurrences_from sets true g ch at 1 (k * 2)
  unfolding occurrences occurrences_from fields
  keyed_from at zero = refl
  keyed_from at (suc k) =
      let e : at + 2 ≡ at + 1 + 1 = omega arith in
      let d : suc k * 2 ≡ suc (suc (k * 2)) = omega arith in
      ap (λ (os : List Occurrence). occurrences sets true (g (child_at ch at)) ++ (occurrences sets true (g (child_at ch (at + 1))) ++ os)) (keyed_from (at + 2) k ∙ ap (λ (i : ℕ). occurrences_from sets true g ch i 1 (k * 2)) e)
      ∙ ap (λ (m : ℕ). occurrences_from sets true g ch at 1 m) (sym d)

-- a name, by its flag
module _ (states : List ℕ) (n x : ℕ) where
  pub node_marked : get_or states (x - 1) 0 ≡ 1 → n ≡ cond (marked_in states x) n 0
  node_marked e = simp (eq-eqb (get_or states (x - 1) 0) 1 e)

  pub node_free : (get_or states (x - 1) 0 ≡ 1 → ⊥) → 0 ≡ cond (marked_in states x) n 0
  node_free e = simp (ne_eqb (get_or states (x - 1) 0) 1 e)

-- a name node, as the readers gave its words
module _ (sets keys : Bool) (T : Tables) (states : List ℕ) (n : ℕ) (a : Walks T states n) {kind first : ℕ} (is-kind : kind ≡ kind_of T.nodes n) (is_first : first ≡ first_word_of T.nodes n) where
  node_kind : {k : ℕ} → kind ≡ k → kind_of T.nodes n ≡ k
  node_kind e = sym is-kind ∙ e

  -- of a tree that the node is
  by_tree : {t : Expr} → expr T n ≡ t → {r : ℕ} → r ≡ first_node (marked_in states) (occurrences sets keys t) → r ≡ first_node (marked_in states) (occurrences sets keys (expr T n))
  by_tree tree e = e ∙ sym (ap (λ (t : Expr). first_node (marked_in states) (occurrences sets keys t)) tree)

  pub found_name : {r : ℕ} → kind ≡ 6 → r ≡ cond (marked_in states first) n 0 → r ≡ first_node (marked_in states) (occurrences sets keys (expr T n))
  unfolding occurrences first_node
  found_name {r} k e = go (is_wildcard T (first_word_of T.nodes n)) refl
    where
      at_first : r ≡ cond (marked_in states (first_word_of T.nodes n)) n 0
      at_first = rw is_first at e

      go : (b : Bool) → is_wildcard T (first_word_of T.nodes n) ≡ b → r ≡ first_node (marked_in states) (occurrences sets keys (expr T n))
      go true p =
          let is-two = eqb-true (get_or states (first_word_of T.nodes n - 1) 0) 2 (sym (a.states_ok.wild (first_word_of T.nodes n) (a.table.named n a.node (node_kind k))) ∙ p) in
          let tree : expr T n ≡ wildcard n = expr_name T a.table n a.node (node_kind k) ∙ simp p in
          by_tree tree (at_first ∙ sym (node_free states n (first_word_of T.nodes n) (λ one. omega arith)))
      go false p =
          let tree : expr T n ≡ name n (first_word_of T.nodes n) = expr_name T a.table n a.node (node_kind k) ∙ simp p in
          by_tree tree at_first

-- where the walk goes on below a node
module _ (nodes : List ℕ) (sets keys : Bool) (n : ℕ) {kind first count : ℕ} (is-kind : kind ≡ kind_of nodes n) (is_first : first ≡ first_word_of nodes n) (is_count : count ≡ count_of nodes n) (low : first < 2 ^ 32) (few : count < 2 ^ 32) where
  by_words : {p : Places} → p ≡ places_by sets keys kind first count → p ≡ places_by sets keys (kind_of nodes n) (first_word_of nodes n) (count_of nodes n)
  by_words e =
      e
      ∙ (ap (λ (k : ℕ). places_by sets keys k first count) is-kind
      ∙ (ap (λ (f : ℕ). places_by sets keys (kind_of nodes n) f count) is_first
      ∙ ap (λ (m : ℕ). places_by sets keys (kind_of nodes n) (first_word_of nodes n) m) is_count))

  pub span_items : kind ≡ 7 → SpanOf nodes sets keys n first 1 count
  span_items k = record { is = by_words (simp k); small = omega arith }

  pub span_members : kind ≡ 8 → sets ≡ true → SpanOf nodes sets keys n first 1 count
  span_members k s = record { is = by_words (simp (k, s)); small = omega arith }

  pub span_set : kind ≡ 8 → sets ≡ false → SpanOf nodes sets keys n first 1 0
  span_set k s = record { is = by_words (simp (k, s)); small = omega arith }

  pub span_keyed : kind ≡ 9 → keys ≡ true → SpanOf nodes sets keys n first 1 (count * 2)
  span_keyed k s = record { is = by_words (simp (k, s)); small = omega arith }

  pub span_values : kind ≡ 9 → keys ≡ false → SpanOf nodes sets keys n (first + 1) 2 count
  span_values k s = record { is = by_words (simp (k, s)); small = omega arith }

  pub span_leaf : (kind ≡ 7 → ⊥) → (kind ≡ 8 → ⊥) → (kind ≡ 9 → ⊥) → SpanOf nodes sets keys n first 1 0
  span_leaf not-7 not-8 not-9 = let a = ne_eqb kind 7 not-7 in let b = ne_eqb kind 8 not-8 in let c = ne_eqb kind 9 not-9 in record { is = by_words (simp (a, b, c)); small = omega arith }

-- there stand the node's occurrences
record Spans (sets keys : Bool) (T : Tables) (states : List ℕ) (n : ℕ) (p : Places) : Type 0 where
  asks : p.at + p.left * p.step < 2 ^ 40 → WalksChildren T states n p.at p.step p.left
  same : occurrences_from sets keys (expr T) T.children p.at p.step p.left ≡ occurrences sets keys (expr T n)

module _ (T : Tables) (states : List ℕ) (n : ℕ) (a : Walks T states n) where
  below : (at step left off : ℕ) → at ≡ first_word_of T.nodes n + off → ((i : ℕ) → i < left → off + i * step < width T.nodes n) → at + left * step < 2 ^ 40 → WalksChildren T states n at step left
  below at step left off is inside small = record {
    table = a.table;
    states_ok = a.states_ok;
    each = λ i lt.
        let e : at + i * step ≡ first_word_of T.nodes n + (off + i * step) = omega arith in
        rw e (child_node T a.table n a.node (off + i * step) (inside i lt), (a.table.below n a.node (off + i * step) (inside i lt)).1);
    small = small;
  }

  none_spans : (sets keys : Bool) → [] ≡ occurrences sets keys (expr T n) → Spans sets keys T states n (places (first_word_of T.nodes n) 1 0)
  unfolding occurrences_from
  none_spans sets keys e = record { asks = below (first_word_of T.nodes n) 1 0 0 (omega arith) (λ i lt. absurd (omega arith)); same = e }

  from_items : (sets keys : Bool) → width T.nodes n ≡ count_of T.nodes n → occurrences_all sets keys (items (expr T) T.children (first_word_of T.nodes n) (count_of T.nodes n)) ≡ occurrences sets keys (expr T n)
      → Spans sets keys T states n (places (first_word_of T.nodes n) 1 (count_of T.nodes n))
  from_items sets keys w e = record {
    asks = below (first_word_of T.nodes n) 1 (count_of T.nodes n) 0 (omega arith) (λ i lt. omega arith);
    same = sym (all_from sets keys (expr T) T.children (first_word_of T.nodes n) (count_of T.nodes n)) ∙ e;
  }

  array_spans : (sets keys : Bool) → kind_of T.nodes n ≡ 7 → Spans sets keys T states n (places (first_word_of T.nodes n) 1 (count_of T.nodes n))
  unfolding occurrences
  array_spans sets keys k = from_items sets keys (width_array (kind_of T.nodes n) (count_of T.nodes n) k) (sym (ap (occurrences sets keys) (expr_array T a.table n a.node k)))

  set_spans : (sets keys : Bool) → kind_of T.nodes n ≡ 8 → Spans sets keys T states n (cond sets (places (first_word_of T.nodes n) 1 (count_of T.nodes n)) (places (first_word_of T.nodes n) 1 0))
  unfolding occurrences
  set_spans true keys k = from_items true keys (width_set (kind_of T.nodes n) (count_of T.nodes n) k) (sym (ap (occurrences true keys) (expr_set T a.table n a.node k)))
  set_spans false keys k = none_spans false keys (sym (ap (occurrences false keys) (expr_set T a.table n a.node k)))

  object_spans : (sets keys : Bool) → kind_of T.nodes n ≡ 9
      → Spans sets keys T states n (cond keys (places (first_word_of T.nodes n) 1 (count_of T.nodes n * 2)) (places (first_word_of T.nodes n + 1) 2 (count_of T.nodes n)))
  unfolding occurrences
  object_spans sets true k =
      let w = width_object (kind_of T.nodes n) (count_of T.nodes n) k in
      record {
        asks = below (first_word_of T.nodes n) 1 (count_of T.nodes n * 2) 0 (omega arith) (λ i lt. omega arith);
        same = sym (keyed_from sets (expr T) T.children (first_word_of T.nodes n) (count_of T.nodes n)) ∙ sym (ap (occurrences sets true) (expr_object T a.table n a.node k));
      }
  object_spans sets false k =
      let w = width_object (kind_of T.nodes n) (count_of T.nodes n) k in
      record {
        asks = below (first_word_of T.nodes n + 1) 2 (count_of T.nodes n) 1 (omega arith) (λ i lt. omega arith);
        same = sym (values_from_lem sets (expr T) T.children (first_word_of T.nodes n) (count_of T.nodes n)) ∙ sym (ap (occurrences sets false) (expr_object T a.table n a.node k));
      }

  leaf_spans : (sets keys : Bool) → (kind_of T.nodes n ≡ 6 → ⊥) → (kind_of T.nodes n ≡ 7 → ⊥) → (kind_of T.nodes n ≡ 8 → ⊥) → (kind_of T.nodes n ≡ 9 → ⊥) → Spans sets keys T states n (places (first_word_of T.nodes n) 1 0)
  unfolding occurrences
  leaf_spans sets keys not-6 not-7 not-8 not-9 = none_spans sets keys (by_leaf (literal_at T n) (expr_leaf T a.table n a.node not-6 not-7 not-8 not-9))
    where
      by_leaf : (o : Option Literal) → expr T n ≡ leaf_of n o → [] ≡ occurrences sets keys (expr T n)
      by_leaf Option.none tree = sym (ap (occurrences sets keys) tree)
      by_leaf (Option.some l) tree = sym (ap (occurrences sets keys) tree)

  spans : (sets keys : Bool) → (kind_of T.nodes n ≡ 6 → ⊥) → Spans sets keys T states n (places_by sets keys (kind_of T.nodes n) (first_word_of T.nodes n) (count_of T.nodes n))
  spans sets keys not-6 = go7 (eqb (kind_of T.nodes n) 7) refl
    where
      go9 : (kind_of T.nodes n ≡ 7 → ⊥) → (kind_of T.nodes n ≡ 8 → ⊥) → (b : Bool) → eqb (kind_of T.nodes n) 9 ≡ b
          → Spans sets keys T states n (cond b (cond keys (places (first_word_of T.nodes n) 1 (count_of T.nodes n * 2)) (places (first_word_of T.nodes n + 1) 2 (count_of T.nodes n))) (places (first_word_of T.nodes n) 1 0))
      go9 not-7 not-8 true p = object_spans sets keys (eqb-true (kind_of T.nodes n) 9 p)
      go9 not-7 not-8 false p = leaf_spans sets keys not-6 not-7 not-8 (eqb-false (kind_of T.nodes n) 9 p)

      go8 : (kind_of T.nodes n ≡ 7 → ⊥) → (b : Bool) → eqb (kind_of T.nodes n) 8 ≡ b
          → Spans sets keys T states n (cond b (cond sets (places (first_word_of T.nodes n) 1 (count_of T.nodes n)) (places (first_word_of T.nodes n) 1 0))
          (cond (eqb (kind_of T.nodes n) 9) (cond keys (places (first_word_of T.nodes n) 1 (count_of T.nodes n * 2)) (places (first_word_of T.nodes n + 1) 2 (count_of T.nodes n))) (places (first_word_of T.nodes n) 1 0)))
      go8 not-7 true p = set_spans sets keys (eqb-true (kind_of T.nodes n) 8 p)
      go8 not-7 false p = go9 not-7 (eqb-false (kind_of T.nodes n) 8 p) (eqb (kind_of T.nodes n) 9) refl

      go7 : (b : Bool) → eqb (kind_of T.nodes n) 7 ≡ b
          → Spans sets keys T states n (cond b (places (first_word_of T.nodes n) 1 (count_of T.nodes n)) (cond (eqb (kind_of T.nodes n) 8) (cond sets (places (first_word_of T.nodes n) 1 (count_of T.nodes n)) (places (first_word_of T.nodes n) 1 0))
          (cond (eqb (kind_of T.nodes n) 9) (cond keys (places (first_word_of T.nodes n) 1 (count_of T.nodes n * 2)) (places (first_word_of T.nodes n + 1) 2 (count_of T.nodes n))) (places (first_word_of T.nodes n) 1 0))))
      go7 true p = array_spans sets keys (eqb-true (kind_of T.nodes n) 7 p)
      go7 false p = go8 (eqb-false (kind_of T.nodes n) 7 p) (eqb (kind_of T.nodes n) 8) refl

  module _ (sets keys : Bool) {kind : ℕ} (is-kind : kind ≡ kind_of T.nodes n) (not-6 : kind ≡ 6 → ⊥) {at step left : ℕ} (s : SpanOf T.nodes sets keys n at step left) where
    pub span_asks : WalksChildren T states n at step left
    span_asks = subst (λ (p : Places). p.at + p.left * p.step < 2 ^ 40 → WalksChildren T states n p.at p.step p.left) (sym s.is) (spans sets keys (λ k. not-6 (is-kind ∙ k))).asks s.small

    pub span_found : {r : ℕ} → r ≡ first_node (marked_in states) (occurrences_from sets keys (expr T) T.children at step left) → r ≡ first_node (marked_in states) (occurrences sets keys (expr T n))
    span_found e =
        e
        ∙ ap (first_node (marked_in states))
        (subst (λ (p : Places). occurrences_from sets keys (expr T) T.children p.at p.step p.left ≡ occurrences sets keys (expr T n)) (sym s.is) (spans sets keys (λ k. not-6 (is-kind ∙ k))).same)

-- the walk over children: none found so far, what is left has the first of all
pub record Looking (sets keys : Bool) (T : Tables) (states : List ℕ) (parent at₀ step left₀ at left : ℕ) : Type 0 where
  pub asks : WalksChildren T states parent at step left
  pub same : first_node (marked_in states) (occurrences_from sets keys (expr T) T.children at step left) ≡ first_node (marked_in states) (occurrences_from sets keys (expr T) T.children at₀ step left₀)

pub looking_start : (sets keys : Bool) (T : Tables) (states : List ℕ) (parent at step left : ℕ) {place more : ℕ} → WalksChildren T states parent at step left → place ≡ at → more ≡ left
    → Looking sets keys T states parent at step left place more
looking_start sets keys T states parent at step left a is of = rw (is, of) (record { asks = a; same = refl })

module _ {sets keys : Bool} {T : Tables} {states : List ℕ} {parent at₀ step left₀ at left : ℕ} (go : Looking sets keys T states parent at₀ step left₀ at left) where
  module _ (more : 0 < left) {child : ℕ} (is-child : child ≡ child_at T.children at) where
    pub looking_child : Walks T states child
    looking_child = walk_child go.asks more is-child

    pub looking_below : child < parent
    looking_below = walk_below go.asks more is-child

    module _ {found : ℕ} (is_found : found ≡ first_node (marked_in states) (occurrences sets keys (expr T child))) where
      abbrev rest : List Occurrence
      rest = occurrences_from sets keys (expr T) T.children (at + step) step (left - 1)

      split : cond (eqb found 0) (first_node (marked_in states) rest) found ≡ first_node (marked_in states) (occurrences_from sets keys (expr T) T.children at₀ step left₀)
      split =
          ap (λ (m : ℕ). cond (eqb m 0) (first_node (marked_in states) rest) m) is_found
          ∙ (sym (first_append (marked_in states) (occurrences sets keys (expr T child)) rest (occurs_at sets keys T go.asks.table child looking_child.node))
          ∙ (ap (λ (c : ℕ). first_node (marked_in states) (occurrences sets keys (expr T c) ++ rest)) is-child
          ∙ (sym (ap (first_node (marked_in states)) (from_step sets keys (expr T) T.children at step left more)) ∙ go.same)))

      pub looking_on : {next last : ℕ} → found ≡ 0 → next ≡ at + step → last ≡ left - 1 → Looking sets keys T states parent at₀ step left₀ next last
      looking_on zero-found on of = rw (on, of) (record { asks = walk_on go.asks more; same = simp (eq-eqb found 0 zero-found) at split })

      pub looking_found : (found ≡ 0 → ⊥) → found ≡ first_node (marked_in states) (occurrences_from sets keys (expr T) T.children at₀ step left₀)
      looking_found some = simp (ne_eqb found 0 some) at split

  pub looking_fits : 0 < left → Fits w64 at
  looking_fits more = walk_fits go.asks more

  pub looking_ends : left ≤ 0 → 0 ≡ first_node (marked_in states) (occurrences_from sets keys (expr T) T.children at₀ step left₀)
  unfolding first_node
  looking_ends no_more = sym (ap (first_node (marked_in states)) (from_end sets keys (expr T) T.children at step left no_more)) ∙ go.same
