-- Two nodes of a table in pairs, answer by answer.
use Rattle.std.proofs.Common.{Result, Err, Ok}
use Prim.Native.Nat.{ℕ, ◌+◌, ◌^◌, ◌≤◌, ◌<◌}
use mathlib.Core.Path.{◌≡◌, refl, sym, ap, subst, ◌∙◌}
use mathlib.Core.Bool.{Bool, true, false, cond, ◌&&◌, ◌||◌}
use mathlib.Core.List.{List, [], ◌∷◌}
use mathlib.Core.Logic.{◌⊎◌, inl, inr}
use native.Mathlib.Omega.{arith}
use borrow.Author.Tests.{eq-eqb, ne_eqb, eqb-true}
use lib.Dec.{eqb}
use lib.ListN.{length, replicate}
use Rattle.scope.specs.declared.Scope.{Scope}
use Rattle.scope.specs.declared.ScopingMode.TheVariants.{RespectParent}
use Rattle.scope.specs.Scope.{is_unbound}
use Rattle.table.specs.Tables.{Tables, kind_of, first_word_of, count_of, width}
use Rattle.table.specs.Expr.{Expr, parts}
use Rattle.table.specs.Decode.{expr, items, fields_of}
use Rattle.table.proofs.trees.Trees.{expr_array, expr_object, width_array, child_node, count_items, count_fields_lem}
use Rattle.table.proofs.trees.Forest.{tree_few}
use Rattle.planner.specs.Names.{states_of}
use Rattle.planner.specs.declared.Plan.{Plan}
use Rattle.planner.specs.declared.PlanRefusal.{PlanRefusal}
use Rattle.planner.specs.declared.PlanRefusal.TheVariants.{ArraySizeMismatch, IncompatibleDestructuringPatterns}
use Rattle.base.specs.Refusal.{array_size_mismatch, incompatible_destructuring_patterns}
use Rattle.planner.specs.Plan.{equality_expr}
use Rattle.planner.specs.Layout.{Entry, below, top, entry, entries}
use Rattle.planner.specs.Operations.{Answered}
use Rattle.planner.specs.Entries.{read_entries, Wrote, Closed}
use Rattle.planner.specs.code.Post.{GoodPair}
use Rattle.planner.proofs.fields.Objects.{node_of_lem}
use Rattle.assignment.specs.declared.judge.Pairing.{Pairing}
use Rattle.assignment.specs.declared.judge.Pairing.TheVariants.{Whole, Items, ByKey, Opposed}
use Rattle.assignment.specs.declared.judge.Judgement.{Judgement}
use Rattle.assignment.specs.declared.judge.Judgement.TheVariants as Judged
use Rattle.assignment.specs.declared.judge.Judgement.TheVariants.{Compare, BindLeft, BindRight, Refuse}
use Rattle.assignment.specs.Pairs.{pair, pairs_entries, Flat, failed, flat_outcome, items as itemsShape, fields as fieldsShape, single, shape_of, all_literal, binds, side, flatten, flatten_all}
use Rattle.assignment.specs.code.Previewing.{ReadAsks, Scoped, SidesAsks}
use Rattle.assignment.specs.code.Flattening.{Bound, Flattens, FlattenedAs, SideAsks, Compared, ObjectFieldsAsks, FlattenAsks, ByKeyAsks, ArraysAsks, ItemsAsks}
use Rattle.assignment.specs.code.Judging.{pairing_of, Judges}
use Rattle.assignment.specs.code.KeyMatching.{KeysMatched, MatchedBy}
use Rattle.assignment.specs.code.Flats.{side_flat, nodes_flat, arrays_flat, objects_flat, items_flat, fields_flat, most_of, most_items}
use Rattle.assignment.proofs.preview.Seen.{scoped_start, learns_none}
use Rattle.planner.proofs.laws.Operations.{refuses}
use Rattle.planner.proofs.buffer.Copies.{wrote_closed}
use Rattle.assignment.proofs.judge.PairShapes.{items_of, shape_items, shape_fields, shape_at, flat_neither, flat_whole, flat_items, flat_fields, flat_array_object, flat_object_array}
use Rattle.assignment.proofs.flatten.PairSides.{flattens_as, flattens_none, binds_told, side_bound}
use Rattle.assignment.proofs.judge.Judgements.{means}

-- what a pairing says of the kinds
module _ (T : Tables) {left right : ℕ} (g : GoodPair T left right) where
  abbrev Kinds : Pairing → Type 0
  Kinds Whole = Unit {0}
  Kinds Items = (kind_of T.nodes left ≡ 7) × (kind_of T.nodes right ≡ 7)
  Kinds ByKey = (kind_of T.nodes left ≡ 9) × (kind_of T.nodes right ≡ 9) × (all_literal (fields_of T left) ≡ true) × (all_literal (fields_of T right) ≡ true)
  Kinds Opposed = ((kind_of T.nodes left ≡ 7) × (kind_of T.nodes right ≡ 9)) ⊎ ((kind_of T.nodes left ≡ 9) × (kind_of T.nodes right ≡ 7))

  pairing_kinds : Kinds (pairing_of (shape_of (expr T left)) (shape_of (expr T right)))
  pairing_kinds =
      rw (shape_at T g.table left g.first, shape_at T g.table right g.second)
      (go (eqb (kind_of T.nodes left) 7) refl (eqb (kind_of T.nodes left) 9) refl (eqb (kind_of T.nodes right) 7) refl (eqb (kind_of T.nodes right) 9) refl)
    where
      keyed : kind_of T.nodes left ≡ 9 → kind_of T.nodes right ≡ 9 → (b c : Bool) → all_literal (fields_of T left) ≡ b → all_literal (fields_of T right) ≡ c → Kinds (cond (b && c) ByKey Whole)
      keyed k l true true p q = (k, l, p, q)
      keyed k l true false p q = tt
      keyed k l false c p q = tt

      go : (a : Bool) → eqb (kind_of T.nodes left) 7 ≡ a → (b : Bool) → eqb (kind_of T.nodes left) 9 ≡ b
          → (c : Bool) → eqb (kind_of T.nodes right) 7 ≡ c → (d : Bool) → eqb (kind_of T.nodes right) 9 ≡ d
          → Kinds (pairing_of (cond a (itemsShape left (items_of T left)) (cond b (fieldsShape left (fields_of T left)) single)) (cond c (itemsShape right (items_of T right)) (cond d (fieldsShape right (fields_of T right)) single)))
      go true k b l true m d n = (eqb-true _ _ k, eqb-true _ _ m)
      go true k b l false m true n = inl (eqb-true _ _ k, eqb-true _ _ n)
      go true k b l false m false n = tt
      go false k true l true m d n = inr (eqb-true _ _ l, eqb-true _ _ m)
      go false k true l false m true n = keyed (eqb-true _ _ l) (eqb-true _ _ n) (all_literal (fields_of T left)) (all_literal (fields_of T right)) refl refl
      go false k true l false m false n = tt
      go false k false l c m d n = tt

  kinds_of : (p : Pairing) → pairing_of (shape_of (expr T left)) (shape_of (expr T right)) ≡ p → Kinds p
  kinds_of p e = subst Kinds e pairing_kinds

-- lists of a tree
parts_some : (e : Expr) → 1 ≤ length (parts e)
unfolding parts
parts_some (Expr.literal n l) = omega arith
parts_some (Expr.name n x) = omega arith
parts_some (Expr.wildcard n) = omega arith
parts_some (Expr.array n es) = omega arith
parts_some (Expr.set n es) = omega arith
parts_some (Expr.object n fs) = omega arith
parts_some (Expr.other n) = omega arith

most_some : (T : Tables) (n : ℕ) → 513 ≤ most_of T n
unfolding most_of
most_some T n = let p = parts_some (expr T n) in omega arith

same_count : (a b : ℕ) (f : ℕ → Flat) (o : Flat) → cond (eqb a b) (f b) o ≡ cond (eqb a b) (f a) o
same_count a b f o = go (eqb a b) refl
  where
    go : (c : Bool) → eqb a b ≡ c → cond c (f b) o ≡ cond c (f a) o
    go true e = ap f (sym (eqb-true a b e))
    go false e = refl

-- the answers of `flatten`
module _ {T : Tables} {states : List ℕ} {left right at : ℕ} (a : FlattenAsks T states left right at) where
  pub ask_sides : SidesAsks T states left right
  ask_sides = record { pair_ok = a.pair_ok; states_ok = a.states_ok }

  pub at_low : at ≤ 2 ^ 32
  at_low = let r = a.room in omega arith

  pub ask_bind_left : SideAsks T states left right at
  ask_bind_left = record { pair_ok = a.pair_ok; states_ok = a.states_ok; low = at_low }

  pub ask_bind_right : SideAsks T states right left at
  ask_bind_right = record { pair_ok = record { table = a.pair_ok.table; first = a.pair_ok.second; second = a.pair_ok.first }; states_ok = a.states_ok; low = at_low }

  module _ {start binders scratch : List ℕ} {count : ℕ} {way : Judgement} (j : Judges T states left right start binders scratch count way) where
    left_binds : (u : ℕ → Bool) (seen : List ℕ) → Scoped T u seen states → j.one ≡ binds u (expr T left) seen
    left_binds = binds_told T a.pair_ok.table a.pair_ok.first j.sides.left_seen.told

    right_binds : (u : ℕ → Bool) (seen : List ℕ) → Scoped T u seen states → j.other ≡ binds u (expr T right) seen
    right_binds = binds_told T a.pair_ok.table a.pair_ok.second j.sides.right_told

    pub ask_bound : ReadAsks scratch count
    ask_bound = j.sides.left_seen.asks

    some_bind : {b : Bool} → (j.one || j.other) ≡ b → (u : ℕ → Bool) (seen : List ℕ) → Scoped T u seen states → (binds u (expr T left) seen || binds u (expr T right) seen) ≡ b
    some_bind e u seen s = rw (← left_binds u seen s, ← right_binds u seen s) e

    -- as they are
    as_whole : {b c : Bool} → j.one ≡ b → j.other ≡ c → (b || c) ≡ true → pairing_of (shape_of (expr T left)) (shape_of (expr T right)) ≡ Whole
        → (u : ℕ → Bool) (seen : List ℕ) → Scoped T u seen states → nodes_flat T left right u seen ≡ side u b c (expr T left) (expr T right) seen
    unfolding nodes_flat
    as_whole p q one-does k u seen s =
        flat_whole u seen (expr T left) (expr T right) (some_bind (rw (p, q) one-does) u seen s) k
        ∙ rw (sym (left_binds u seen s) ∙ p, sym (right_binds u seen s) ∙ q)

    pub flat_compared : way ≡ Compare → {before later : List ℕ} {r : ℕ} → Compared left right before at later r → Flattens (nodes_flat T left right) T (most_of T right) states before at states later (Ok r)
    unfolding nodes_flat pairs_entries entries
    flat_compared e {before} {later} {r} c =
        let m = means j.one j.other _ j.is Compare e in
        record {
          each = λ u seen s.
              let all : entry 7 right 1 top ∷ entry 3 left 0 (below 0 1) ∷ [] ≡ pairs_entries (pair (expr T right) (equality_expr (expr T left)) ∷ []) =
              rw (node_of_lem T a.pair_ok.table left a.pair_ok.first, node_of_lem T a.pair_ok.table right a.pair_ok.second) in
              record {
                pairs = pair (expr T right) (equality_expr (expr T left)) ∷ [];
                names = [];
                is = flat_neither u seen (expr T left) (expr T right) (some_bind (rw (m.0, m.1)) u seen s);
                wrote = subst (λ (es : List Entry). Wrote before at es later r) all c.wrote;
                few = let n = ap length all in let k = most_some T right in omega arith;
                learns = learns_none states;
              };
        }

    module _ {before known later : List ℕ} {r : ℕ} where
      pub flat_bind_left : way ≡ BindLeft → Bound right (read_entries scratch 0 count) states binders before at known later r → Flattens (nodes_flat T left right) T (most_of T right) states before at known later (Ok r)
      unfolding side_flat
      flat_bind_left e f =
          let m = means j.one j.other _ j.is BindLeft e in
          flattens_as (λ u seen s. sym (as_whole m.0 m.1 refl m.2 u seen s)) (most_some T right) (side_bound ask_bind_left j.sides.left_seen f)

      pub flat_bind_right : way ≡ BindRight → Flattens (side_flat T right left) T 513 states before at known later (Ok r) → Flattens (nodes_flat T left right) T (most_of T right) states before at known later (Ok r)
      unfolding side_flat
      flat_bind_right e f =
          let m = means j.one j.other _ j.is BindRight e in
          flattens_as (λ u seen s. sym (as_whole m.0 m.1 refl m.2 u seen s)) (most_some T right) f

    pub ask_arrays : way ≡ Judged.Items → ArraysAsks T states left right at
    ask_arrays e =
        let m = means j.one j.other _ j.is Judged.Items e in
        let k = kinds_of T a.pair_ok Items m.1 in
        record { asks = a; left_kind = k.0; right_kind = k.1 }

    pub ask_keyed : way ≡ Judged.ByKey → ByKeyAsks T states left right at
    ask_keyed e =
        let m = means j.one j.other _ j.is Judged.ByKey e in
        let k = kinds_of T a.pair_ok ByKey m.1 in
        record {
          asks = a;
          keyed = record {
            both = record {
              left_ok = record { table = a.pair_ok.table; node = a.pair_ok.first; object = k.0 };
              right_ok = record { table = a.pair_ok.table; node = a.pair_ok.second; object = k.1 };
            };
            left_literal = k.2;
            right_literal = k.3;
          };
        }

    module _ {before known later : List ℕ} {r : Result ℕ PlanRefusal} where
      pub flat_by_items : way ≡ Judged.Items → Flattens (arrays_flat T left right) T (most_of T right) states before at known later r → Flattens (nodes_flat T left right) T (most_of T right) states before at known later r
      unfolding nodes_flat arrays_flat items_flat
      flat_by_items e f = flattens_as same (omega arith) f
        where
          same : (u : ℕ → Bool) (seen : List ℕ) → Scoped T u seen states → arrays_flat T left right u seen ≡ nodes_flat T left right u seen
          same u seen s =
              let m = means j.one j.other _ j.is Judged.Items e in
              let k = kinds_of T a.pair_ok Items m.1 in
              let w = a.pair_ok.table in
              sym (flat_items u seen (expr T left) (expr T right) (some_bind m.0 u seen s) (shape_items T w left a.pair_ok.first k.0) (expr_array T w right a.pair_ok.second k.1)
              ∙ rw (count_items (expr T) T.children (first_word_of T.nodes left) (count_of T.nodes left), count_items (expr T) T.children (first_word_of T.nodes right) (count_of T.nodes right))
              (same_count (count_of T.nodes left) (count_of T.nodes right)
              (λ (k : ℕ). flatten_all u (items (expr T) T.children (first_word_of T.nodes right) k) (items (expr T) T.children (first_word_of T.nodes left) (count_of T.nodes left)) seen)
              (failed (array_size_mismatch left (count_of T.nodes left) (count_of T.nodes right)))))

      pub flat_by_keys : way ≡ Judged.ByKey → Flattens (objects_flat T left right) T (most_of T right) states before at known later r → Flattens (nodes_flat T left right) T (most_of T right) states before at known later r
      unfolding nodes_flat objects_flat fields_flat
      flat_by_keys e f = flattens_as same (omega arith) f
        where
          same : (u : ℕ → Bool) (seen : List ℕ) → Scoped T u seen states → objects_flat T left right u seen ≡ nodes_flat T left right u seen
          same u seen s =
              let m = means j.one j.other _ j.is Judged.ByKey e in
              let k = kinds_of T a.pair_ok ByKey m.1 in
              let w = a.pair_ok.table in
              sym (flat_fields u seen (expr T left) (expr T right) (some_bind m.0 u seen s) (shape_fields T w left a.pair_ok.first k.0) (expr_object T w right a.pair_ok.second k.1) k.2 k.3
              ∙ rw (count_fields_lem (expr T) T.children (first_word_of T.nodes right) (count_of T.nodes right)))

    pub flat_refused : way ≡ Refuse → (before : List ℕ) → Flattens (nodes_flat T left right) T (most_of T right) states before at states before (Err (IncompatibleDestructuringPatterns left))
    unfolding nodes_flat
    flat_refused e before = let m = means j.one j.other _ j.is Refuse e in flattens_none T (most_of T right) states before at (λ u seen s. record { refusal = incompatible_destructuring_patterns left; is = go u seen s m.0 m.1; line = refl })
      where
        opposed : (u : ℕ → Bool) (seen : List ℕ) → Scoped T u seen states → (j.one || j.other) ≡ true → Kinds T a.pair_ok Opposed → nodes_flat T left right u seen ≡ failed (incompatible_destructuring_patterns left)
        opposed u seen s h (inl k) =
            flat_array_object u seen (expr T left) (expr T right) (some_bind h u seen s) (shape_items T a.pair_ok.table left a.pair_ok.first k.0) (expr_object T a.pair_ok.table right a.pair_ok.second k.1)
        opposed u seen s h (inr k) =
            flat_object_array u seen (expr T left) (expr T right) (some_bind h u seen s) (shape_fields T a.pair_ok.table left a.pair_ok.first k.0) (expr_array T a.pair_ok.table right a.pair_ok.second k.1)

        go : (u : ℕ → Bool) (seen : List ℕ) → Scoped T u seen states → (j.one || j.other) ≡ true
            → (pairing_of (shape_of (expr T left)) (shape_of (expr T right)) ≡ Opposed) ⊎ ((pairing_of (shape_of (expr T left)) (shape_of (expr T right)) ≡ Whole) × (j.one ≡ true) × (j.other ≡ true))
            → nodes_flat T left right u seen ≡ failed (incompatible_destructuring_patterns left)
        go u seen s h (inl p) = opposed u seen s h (kinds_of T a.pair_ok Opposed p)
        go u seen s h (inr p) = as_whole p.1 p.2 refl p.0 u seen s ∙ rw (node_of_lem T a.pair_ok.table left a.pair_ok.first)

-- two arrays
module _ {T : Tables} {states : List ℕ} {left right at : ℕ} (a : ArraysAsks T states left right at) {size other : ℕ} (is_size : size ≡ count_of T.nodes left) (is-other : other ≡ count_of T.nodes right) where
  pub arrays_differ : (size ≡ other → ⊥) → (before : List ℕ) → Flattens (arrays_flat T left right) T (most_of T right) states before at states before (Err (ArraySizeMismatch left size other))
  unfolding arrays_flat
  arrays_differ differ before =
      let z = ne_eqb (count_of T.nodes left) (count_of T.nodes right) (λ e. differ (is_size ∙ (e ∙ sym is-other))) in
      flattens_none T (most_of T right) states before at (λ u seen s. record { refusal = array_size_mismatch left size other; is = rw (is_size, is-other) (simp z); line = refl })

  module _ (same_size : size ≡ other) {left-first right-first : ℕ} (is-left : left-first ≡ first_word_of T.nodes left) (is_right : right-first ≡ first_word_of T.nodes right) where
    tree : expr T right ≡ Expr.array right (items (expr T) T.children right-first size)
    tree = rw (is_right, same_size, is-other) (expr_array T a.asks.pair_ok.table right a.asks.pair_ok.second a.right_kind)

    most_less : most_items T right-first size + 513 ≤ most_of T right
    unfolding most_of most_items parts
    most_less = rw tree (omega arith)

    pub ask_items : left-first < 2 ^ 32 → right-first < 2 ^ 32 → size < 2 ^ 32 → ItemsAsks T states left-first right right-first size at
    ask_items low-left low-right low-size =
        let w = a.asks.pair_ok.table in
        let wl = width_array (kind_of T.nodes left) (count_of T.nodes left) a.left_kind in
        let wr = width_array (kind_of T.nodes right) (count_of T.nodes right) a.right_kind in
        record {
          table = w;
          states_ok = a.asks.states_ok;
          left_each = λ i lt. let in-width : i < width T.nodes left = omega arith in rw is-left (child_node T w left a.asks.pair_ok.first i in-width);
          right_each = λ i lt. let in-width : i < width T.nodes right = omega arith in rw is_right (child_node T w right a.asks.pair_ok.second i in-width, (w.below right a.asks.pair_ok.second i in-width).1);
          left_small = omega arith;
          right_small = omega arith;
          room = let r = a.asks.room in let m = most_less in omega arith;
        }

    pub arrays_items : {before known later : List ℕ} {r : Result ℕ PlanRefusal} → Flattens (items_flat T left-first right-first size) T (most_items T right-first size) states before at known later r → Flattens (arrays_flat T left right) T (most_of T right) states before at known later r
    unfolding arrays_flat
    arrays_items f =
        let z = eq-eqb (count_of T.nodes left) (count_of T.nodes right) (sym is_size ∙ (same_size ∙ is-other)) in
        flattens_as (λ u seen s. rw (is-left, is_right, is_size) (simp z)) (let m = most_less in omega arith) f

-- two objects by their keys
module _ {T : Tables} {states : List ℕ} {left right at : ℕ} (a : ByKeyAsks T states left right at) {order : List ℕ} {keys : Result ℕ PlanRefusal} (m : KeysMatched T left right order keys) where
  pub ask_fields : {total : ℕ} → keys ≡ Ok total → ObjectFieldsAsks T states left right order total at
  ask_fields {total} e = record { asks = a.asks; object = a.keyed.both.right_ok.object; keys = subst (MatchedBy T left right order) e m.told }

  pub objects_refused : {answer : PlanRefusal} → keys ≡ Err answer → (before : List ℕ) → Flattens (objects_flat T left right) T (most_of T right) states before at states before (Err answer)
  objects_refused {answer} e before = let f = subst (MatchedBy T left right order) e m.told in flattens_none T (most_of T right) states before at (λ u seen s. f u seen)

-- the whole call
module _ (T : Tables) {left right : ℕ} (g : GoodPair T left right) (s : Scope) {states : List ℕ} (of : states ≡ states_of T.names T.text s RespectParent) where
  scoped : Scoped T (is_unbound s RespectParent) [] states
  scoped = scoped_start T states s RespectParent of g.table

  pub ask_flatten : FlattenAsks T states left right 0
  unfolding most_of
  ask_flatten = record { pair_ok = g; states_ok = scoped.wild; room = let f = tree_few T g.table right g.second in omega arith }

  module _ {before known mid : List ℕ} {done : Result ℕ PlanRefusal} (f : Flattens (nodes_flat T left right) T (most_of T right) states before 0 known mid done) where
    came : (r : Result ℕ PlanRefusal) → done ≡ r → FlattenedAs (flatten (is_unbound s RespectParent) (expr T right) (expr T left) []) [] (most_of T right) states before 0 known mid r
    unfolding nodes_flat
    came r e = subst (λ (x : Result ℕ PlanRefusal). FlattenedAs (flatten (is_unbound s RespectParent) (expr T right) (expr T left) []) [] (most_of T right) states before 0 known mid x) e (f.each (is_unbound s RespectParent) [] scoped)

    pub pairs_refused : {answer : PlanRefusal} {later : List ℕ} → done ≡ Err answer → length mid ≡ length before → later ≡ replicate (length mid) 0
        → Answered (flat_outcome (flatten (is_unbound s RespectParent) (expr T right) (expr T left) [])) before later (Err answer)
    pairs_refused {answer} e long zeros =
        let c = (came (Err answer) e).failed in
        rw c.is (refuses c.refusal c.line (rw long at zeros))

    pub pairs_planned : {at : ℕ} {later : List ℕ} {r : Result Plan PlanRefusal} → done ≡ Ok at → Closed 4 at mid later r
        → Answered (flat_outcome (flatten (is_unbound s RespectParent) (expr T right) (expr T left) [])) before later r
    pairs_planned {at} e d =
        let c = came (Ok at) e in
        rw c.is (wrote_closed 4 (pairs_entries c.pairs) c.wrote d)
