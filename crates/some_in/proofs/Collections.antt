-- A pattern held against the items of a collection.
use Prim.Native.Nat.{ℕ, ◌+◌, ◌-◌, ◌≤◌, ◌<◌}
use mathlib.Core.Path.{◌≡◌, refl, sym, ap, ◌∙◌}
use mathlib.Core.Bool.{Bool, true, false, not, ◌||◌, false≢true}
use native.Mathlib.Omega.{arith}
use mir.Val.{Fits}
use mir.Syntax.{w64}
use borrow.Author.Tests.{eqb-true, eqb-false}
use lib.Dec.{eqb}
use Rattle.table.specs.Tables.{Tables, kind_of, first_word_of, count_of, child_at, width}
use Rattle.table.specs.Expr.{Expr, name, wildcard, Exprs}
use Rattle.table.specs.Decode.{expr, is_wildcard}
use Rattle.table.proofs.trees.Trees.{expr_name, expr_array, expr_object, width_array, items_step, items_end, child_node}
use Rattle.planner.proofs.destructuring.NodeKinds.{Plain, plain_literal, plain_set, plain_other, plain_kind}
use Rattle.checks.specs.declared.LiteralStructureCheck.{LiteralStructureCheck}
use Rattle.checks.specs.declared.LiteralStructureCheck.TheVariants.{Match, Unknown, ArrayMismatch, ObjectMismatch}
use Rattle.checks.specs.declared.Reading.{Reading}
use Rattle.checks.specs.Joining.{is_mismatch}
use Rattle.checks.specs.Structure.{structure}
use Rattle.checks.specs.code.Post.{items_at}
use Rattle.planner.specs.code.Post.{GoodPair}
use Rattle.some_in.specs.SomeIn.{any_fits, first_mismatch, items_structure, collection_structure}
use Rattle.some_in.specs.code.Post.{ItemsAsks}

-- the items in turn
pub record Looking (r : Reading) (T : Tables) (pattern at left place more : ℕ) : Type 0 where
  pub asks : ItemsAsks T pattern place more
  pub same : any_fits r (items_at T place more) (expr T pattern) ≡ any_fits r (items_at T at left) (expr T pattern)

pub looking_start : (r : Reading) {T : Tables} {pattern at left more : ℕ} → ItemsAsks T pattern at left → more ≡ left → Looking r T pattern at left at more
looking_start r a of = rw of (record { asks = a; same = refl })

pub looking_fits : {T : Tables} {pattern at left : ℕ} → ItemsAsks T pattern at left → Fits w64 (at + left)
looking_fits a = let m = a.small in record { fits = omega arith }

module _ {r : Reading} {T : Tables} {pattern at left place more : ℕ} (go : Looking r T pattern at left place more) where
  module _ (some : 0 < more) where
    module _ {e : ℕ} (is : e ≡ child_at T.children place) where
      pub looking_pair : GoodPair T pattern e
      looking_pair =
          let z : place + 0 ≡ place = omega arith in
          record { table = go.asks.table; first = go.asks.node; second = rw is (rw z at (go.asks.each 0 some)) }

      module _ {c : LiteralStructureCheck} (checked : c ≡ structure r (expr T e) (expr T pattern)) {m : Bool} (of : m ≡ is_mismatch c) where
        step : (not m || any_fits r (items_at T (place + 1) (more - 1)) (expr T pattern)) ≡ any_fits r (items_at T at left) (expr T pattern)
        unfolding any_fits
        step =
            let here = items_step (expr T) T.children place more some in
            rw (of, checked, is) (sym (ap (λ (es : Exprs). any_fits r es (expr T pattern)) here) ∙ go.same)

        pub looking_found : not m ≡ true → true ≡ any_fits r (items_at T at left) (expr T pattern)
        looking_found n = rw n at step

        pub looking_on : {last : ℕ} → not m ≡ false → last ≡ more - 1 → Looking r T pattern at left (place + 1) last
        looking_on n of = rw of (record {
          asks = record {
            table = go.asks.table;
            node = go.asks.node;
            each = λ i lt. let s : place + 1 + i ≡ place + (i + 1) = omega arith in rw s (go.asks.each (i + 1) (omega arith));
            small = let m = go.asks.small in omega arith;
          };
          same = rw n at step;
        })

  pub looking_ends : more ≤ 0 → false ≡ any_fits r (items_at T at left) (expr T pattern)
  unfolding any_fits
  looking_ends le = sym (ap (λ (es : Exprs). any_fits r es (expr T pattern)) (items_end (expr T) T.children place more le)) ∙ go.same

-- all of them
module _ {T : Tables} {pattern at left : ℕ} (a : ItemsAsks T pattern at left) where
  pub items_empty : (r : Reading) → left ≡ 0 → Unknown ≡ items_structure r (items_at T at left) (expr T pattern)
  unfolding any_fits first_mismatch
  items_empty r e = let n = items_end (expr T) T.children at left (omega arith) in rw n

  module _ (some : left ≡ 0 → ⊥) where
    pub items_fit : (r : Reading) {fits : Bool} → fits ≡ any_fits r (items_at T at left) (expr T pattern) → fits ≡ true → Match ≡ items_structure r (items_at T at left) (expr T pattern)
    items_fit r of e = let f = sym of ∙ e in rw f

    module _ {e : ℕ} (is : e ≡ child_at T.children at) where
      pub first_pair : GoodPair T pattern e
      first_pair =
          let z : at + 0 ≡ at = omega arith in
          record { table = a.table; first = a.node; second = rw is (rw z at (a.each 0 (omega arith))) }

      pub items_first : (r : Reading) {fits : Bool} → fits ≡ any_fits r (items_at T at left) (expr T pattern) → fits ≡ false → {c : LiteralStructureCheck} → c ≡ structure r (expr T e) (expr T pattern)
          → c ≡ items_structure r (items_at T at left) (expr T pattern)
      unfolding any_fits first_mismatch
      items_first r of none-fits {c} checked =
          let here = items_step (expr T) T.children at left (omega arith) in
          let c-is = rw is at checked in
          let f = rw here at (sym of ∙ none-fits) in
          rw (here, f, ← c-is, mismatch c _ (rw (← c-is) at f))
        where
          mismatch : (c : LiteralStructureCheck) (rest : Bool) → (not (is_mismatch c) || rest) ≡ false → is_mismatch c ≡ true
          mismatch Match rest e = absurd (false≢true (sym e))
          mismatch Unknown rest e = absurd (false≢true (sym e))
          mismatch (ArrayMismatch n x y) rest e = refl
          mismatch (ObjectMismatch n m) rest e = refl

-- the whole collection
module _ {T : Tables} {pattern collection : ℕ} (a : GoodPair T pattern collection) {kind : ℕ} (is-kind : kind ≡ kind_of T.nodes collection) where
  pub collection_other : (r : Reading) → (kind ≡ 7 → ⊥) → Unknown ≡ collection_structure r (expr T collection) (expr T pattern)
  unfolding collection_structure
  collection_other r not-7 = go (eqb (kind_of T.nodes collection) 6) refl (is_wildcard T (first_word_of T.nodes collection)) refl (eqb (kind_of T.nodes collection) 9) refl
    where
      known : {e : Expr} → expr T collection ≡ e → Unknown ≡ collection_structure r e (expr T pattern) → Unknown ≡ collection_structure r (expr T collection) (expr T pattern)
      known q u = u ∙ sym (ap (λ (d : Expr). collection_structure r d (expr T pattern)) q)

      plain : (e : Expr) → expr T collection ≡ e → Plain (kind_of T.nodes collection) collection e → Unknown ≡ collection_structure r (expr T collection) (expr T pattern)
      plain e q (plain_literal l h) = known q refl
      plain e q (plain_set es h) = known q refl
      plain e q (plain_other h) = known q refl

      go : (x : Bool) → eqb (kind_of T.nodes collection) 6 ≡ x → (y : Bool) → is_wildcard T (first_word_of T.nodes collection) ≡ y → (z : Bool) → eqb (kind_of T.nodes collection) 9 ≡ z
          → Unknown ≡ collection_structure r (expr T collection) (expr T pattern)
      go true h true w z o = let tree : expr T collection ≡ wildcard collection = expr_name T a.table collection a.second (eqb-true _ _ h) ∙ simp w in known tree refl
      go true h false w z o = let tree : expr T collection ≡ name collection (first_word_of T.nodes collection) = expr_name T a.table collection a.second (eqb-true _ _ h) ∙ simp w in known tree refl
      go false h y w true o = known (expr_object T a.table collection a.second (eqb-true _ _ o)) refl
      go false h y w false o = let k = plain_kind T a.table collection a.second (eqb-false _ _ h) (λ k. not-7 (is-kind ∙ k)) (eqb-false _ _ o) in plain k.0 k.1 k.2

  module _ (k : kind ≡ 7) {at left : ℕ} (is_at : at ≡ first_word_of T.nodes collection) (is-left : left ≡ count_of T.nodes collection) where
    is_array_kind : kind_of T.nodes collection ≡ 7
    is_array_kind = sym is-kind ∙ k

    pub ask_items : ItemsAsks T pattern at left
    ask_items =
        let e = width_array (kind_of T.nodes collection) (count_of T.nodes collection) is_array_kind in
        let l = a.table.listed collection a.second (omega (arith, is_array_kind)) (omega (arith, is_array_kind)) in
        let c = a.table.limits.children in
        record {
          table = a.table;
          node = a.first;
          each = λ i lt. let in-width : i < width T.nodes collection = omega arith in rw is_at (child_node T a.table collection a.second i in-width);
          small = omega arith;
        }

    pub collection_items : (r : Reading) {c : LiteralStructureCheck} → c ≡ items_structure r (items_at T at left) (expr T pattern) → c ≡ collection_structure r (expr T collection) (expr T pattern)
    unfolding collection_structure
    collection_items r c = let t = expr_array T a.table collection a.second is_array_kind in rw (t, ← is_at, ← is-left) c
