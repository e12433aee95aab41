-- The keys of two objects, answer by answer.
use Rattle.std.proofs.Common.{Err, Ok}
use Prim.Native.Nat.{ℕ, ◌+◌, ◌*◌, ◌≤◌, ◌<◌}
use mathlib.Core.Path.{◌≡◌, refl, sym, subst, ◌∙◌}
use mathlib.Core.Bool.{Bool, cond}
use mathlib.Core.List.{List}
use native.Mathlib.Omega.{arith}
use borrow.Author.Tests.{eq-eqb, ne_eqb}
use lib.Dec.{eqb}
use Rattle.table.specs.Tables.{Tables, first_word_of, count_of, child_at}
use Rattle.table.specs.Decode.{fields_of}
use Rattle.planner.specs.declared.PlanRefusal.TheVariants.{ObjectFieldCountMismatch, ObjectKeyNotFound}
use Rattle.base.specs.Refusal.{object_field_count_mismatch, object_key_not_found}
use Rattle.planner.specs.code.Post.{OrderAsks, OrderedBy}
use Rattle.assignment.specs.Pairs.{failed, distinct_keys}
use Rattle.assignment.specs.code.KeyMatching.{missing_from, InOrder, LiteralNode, MissingAsks, KeysAsks, KeysMatched}
use Rattle.assignment.specs.code.Flats.{objects_flat, fields_flat}
use Rattle.assignment.proofs.keys.Partners.{object_child, object_listed, object_order, literal_each, check_missing, missing_none}
use Rattle.assignment.proofs.keys.KeySearch.{total_distinct}

-- the keys of two objects
module _ {T : Tables} {left right : ℕ} (a : KeysAsks T left right) {left-first left-count : ℕ} (is-left : left-first ≡ first_word_of T.nodes left) (is_count : left-count ≡ count_of T.nodes left) where
  pub ask_order : OrderAsks T left-first left-count
  ask_order = rw (is-left, is_count) (object_order T a.both.left_ok)

  module _ {order : List ℕ} {keys : ℕ} (by : OrderedBy T left-first left-count order keys) where
    in_order : InOrder T left order keys
    in_order = record { asks = a.both.left_ok; literal = a.left_literal; ordered = rw (is-left, is_count) at by }

    by_keys : OrderedBy T (first_word_of T.nodes left) (count_of T.nodes left) order (distinct_keys (fields_of T left))
    by_keys = subst (OrderedBy T (first_word_of T.nodes left) (count_of T.nodes left) order) (total_distinct in_order) in_order.ordered

    module _ {count : ℕ} (is_right : count ≡ count_of T.nodes right) where
      pub keys_differ : (keys ≡ count → ⊥) → KeysMatched T left right order (Err (ObjectFieldCountMismatch left keys count))
      unfolding objects_flat
      keys_differ differ =
          let d = total_distinct in_order in
          let z = ne_eqb (distinct_keys (fields_of T left)) (count_of T.nodes right) (λ e. differ (d ∙ (e ∙ sym is_right))) in
          record { ordered = by_keys; told = λ u seen. record { refusal = object_field_count_mismatch left keys count; is = rw (d, is_right) (simp z); line = refl } }

      module _ {first : ℕ} (is_first : first ≡ first_word_of T.nodes right) where
        literal_at_lem : (i : ℕ) → i < count → LiteralNode T (child_at T.children (first + i * 2))
        literal_at_lem i lt = rw is_first (literal_each T a.both.right_ok a.right_literal i (omega arith))

        listed : first + count * 2 ≤ 512
        listed =
            let l = object_listed T a.both.right_ok in
            let few = a.both.right_ok.table.limits.children in
            omega arith

        pub ask_missing : MissingAsks T left order keys first count
        ask_missing = record { in_order = in_order; keys = literal_at_lem; small = let l = listed in omega arith }

        module _ (same_size : keys ≡ count) where
          flat_is : (u : ℕ → Bool) (seen : List ℕ) → objects_flat T left right u seen ≡ cond (eqb (missing_from T left first count) 0) (fields_flat T left first count u seen) (failed (object_key_not_found (missing_from T left first count)))
          unfolding objects_flat
          flat_is u seen =
              let d = total_distinct in_order in
              let z = eq-eqb (distinct_keys (fields_of T left)) (count_of T.nodes right) (sym d ∙ (same_size ∙ is_right)) in
              rw (is_first, is_right) (simp z (check_missing T a.both.left_ok (first_word_of T.nodes right) (count_of T.nodes right) (rw (is_first, is_right) at literal_at_lem) (fields_flat T left (first_word_of T.nodes right) (count_of T.nodes right) u seen)))

          module _ {key : ℕ} (is_key : key ≡ missing_from T left first count) where
            pub key_missing : (key ≡ 0 → ⊥) → KeysMatched T left right order (Err (ObjectKeyNotFound key))
            key_missing gone = let z = ne_eqb (missing_from T left first count) 0 (λ e. gone (is_key ∙ e)) in record { ordered = by_keys; told = λ u seen. record { refusal = object_key_not_found key; is = flat_is u seen ∙ rw is_key (simp z); line = refl } }

            pub keys_same : key ≡ 0 → KeysMatched T left right order (Ok keys)
            keys_same none_missing =
                let z = eq-eqb (missing_from T left first count) 0 (sym is_key ∙ none_missing) in
                record {
                  ordered = by_keys;
                  told = record {
                    in_order = in_order;
                    each = λ i lt.
                        let e : first_word_of T.nodes right + i * 2 + 1 ≡ first_word_of T.nodes right + (i * 2 + 1) = omega arith in
                        let c = object_child T a.both.right_ok (i * 2 + 1) (omega arith) in
                        record {
                          key_ok = rw is_first at (literal_at_lem i (omega arith));
                          value = rw e c.0;
                          below = rw e c.1;
                          partner = rw is_first at (missing_none T a.both.left_ok first count literal_at_lem (sym is_key ∙ none_missing) i (omega arith));
                        };
                    listed = let l = listed in omega arith;
                    flat = λ u seen. rw (← is_first, ← is_right) (flat_is u seen ∙ simp z);
                  };
                }
