-- A table that passed the check passes it with a name more, if the rules allow the name and no other has its bytes.
use Prim.Native.Nat.{ℕ, ◌+◌, ◌*◌, ◌/◌, ◌%◌, ◌≤◌, ◌<◌}
use mathlib.Core.Path.{◌≡◌, refl}
use mathlib.Core.Logic.{◌⊎◌, inl, inr}
use mathlib.Core.List.{List, [], ◌∷◌, ◌++◌}
use mathlib.Core.Bool.{Bool, true, false, ◌&&◌}
use mathlib.Core.Bool as Bool
use native.Mathlib.Omega.{arith}
use borrow.Author.Tests.{eqb-true, eqb-false, eq-eqb, le-leb, leb-true}
use lib.Dec.{eqb, leb}
use lib.ListN.{length, length-append}
use Rattle.base.specs.Lists.{part, all_from}
use Rattle.base.specs.Refusal.{passed}
use Rattle.scope.specs.declared.Scope.{Scope}
use Rattle.table.specs.Tables.{Tables, record_word, kind_of, first_word_of, count_of, name_count, name_bytes}
use Rattle.table.specs.Names.{same_bytes, underscore_bytes}
use Rattle.table.specs.Rules.{within_limits, whole_records, span_ok, name_text_ok, words_ok, children_below, node_ok, node_ok_at, name_ok, name_ok_at, scope_ok, follows_rules, depth_ok_at, shallow, differ_at, new_name_at, names_differ}
use Rattle.table.specs.Check.{checked}
use Rattle.table.specs.code.Sound.{WellFormed}
use Rattle.table.proofs.tests.Bools.{and_true, or_true}
use Rattle.table.proofs.tests.Scan.{all_of}
use Rattle.table.proofs.trees.Facts.{Passed, limits_of, Followed, followed, from_zero, well_formed}
use Rattle.table.proofs.trees.Facts as Facts
use Rattle.name_table.specs.Adding.{with_names, allowed}
use Rattle.name_table.proofs.Kept.{start_kept, length_kept, bytes_kept, start_new, length_new, bytes_new, expr_kept}

module _ (T : Tables) (used start size : ℕ) (s : Scope) (ok : checked T s ≡ passed) (long : length T.names ≡ used * 2) where
  abbrev new : List ℕ
  new = start ∷ (size ∷ [])

  parts : Passed T s
  parts = Facts.passed T s ok

  rules : Followed T s
  rules = followed T s parts.rules

  well : WellFormed T
  well = well_formed T s parts.limits parts.rules

  longer : length (T.names ++ new) ≡ (used + 1) * 2
  longer = let h = length-append T.names new in omega arith

  limits_stay : used < 128 → within_limits (with_names T (T.names ++ new)) ≡ true
  unfolding within_limits
  limits_stay few =
      let l = limits_of T parts.limits in
      let h = longer in
      simp (
        le-leb _ _ l.nodes,
        le-leb _ _ l.children,
        le-leb _ _ l.numbers,
        le-leb (length (T.names ++ new) / 2) 128 (omega arith),
        le-leb _ _ l.strings,
        le-leb _ _ l.text,
      )

  whole_stays : whole_records (with_names T (T.names ++ new)) ≡ true
  unfolding whole_records
  whole_stays =
      let a = and_true (eqb (length T.nodes % 5) 0) _ rules.whole in
      let b = and_true (eqb (length T.numbers % 2) 0) _ a.1 in
      let h = longer in
      simp (a.0, b.0, eq-eqb (length (T.names ++ new) % 2) 0 (omega arith))

  -- each name
  name_stays : allowed T.text start size ≡ true → (j : ℕ) → j < used + 1 → name_ok_at (with_names T (T.names ++ new)) j ≡ true
  unfolding allowed name_ok
  name_stays good j lt = go (eqb j used) refl
    where
      go : (b : Bool) → eqb j used ≡ b → name_ok_at (with_names T (T.names ++ new)) j ≡ true
      go true p =
          let e = eqb-true j used p in
          let t : record_word 2 0 new 1 ≡ start = start_new [] [] 0 start size refl in
          let u : record_word 2 1 new 1 ≡ size = length_new [] [] 0 start size refl in
          rw (e, start_new T.names [] used start size long, length_new T.names [] used start size long) (rw (t, u) at good)
      go false p =
          let other = eqb-false j used p in
          let le : j + 1 ≤ used = omega (arith, other) in
          rw (start_kept T.names new used long (j + 1) le, length_kept T.names new used long (j + 1) le)
          (from_zero (name_ok_at T) (name_count T) rules.names j (omega arith))

  names_stay : allowed T.text start size ≡ true
      → all_from (name_ok_at (with_names T (T.names ++ new))) 0 (length (T.names ++ new) / 2) ≡ true
  names_stay good =
      let h = longer in
      all_of _ 0 _ (λ j lt. let z : 0 + j ≡ j = omega arith in rw z (name_stays good j (omega arith)))

  -- each node
  words_stay : (n : ℕ) → words_ok T n (kind_of T.nodes n) (first_word_of T.nodes n) (count_of T.nodes n) ≡ true
      → words_ok (with_names T (T.names ++ new)) n (kind_of T.nodes n) (first_word_of T.nodes n) (count_of T.nodes n) ≡ true
  unfolding words_ok name_text_ok
  words_stay n right = go (eqb (kind_of T.nodes n) 6) refl
    where
      go : (b : Bool) → eqb (kind_of T.nodes n) 6 ≡ b → words_ok (with_names T (T.names ++ new)) n (kind_of T.nodes n) (first_word_of T.nodes n) (count_of T.nodes n) ≡ true
      go true p =
          let k = eqb-true (kind_of T.nodes n) 6 p in
          let h : (leb 1 (first_word_of T.nodes n) && (leb (first_word_of T.nodes n) (length T.names / 2) && (eqb (count_of T.nodes n) 0 && name_text_ok T n))) ≡ true = simp k at right in
          let a = and_true (leb 1 (first_word_of T.nodes n)) _ h in
          let b = and_true (leb (first_word_of T.nodes n) (length T.names / 2)) _ a.1 in
          let d = and_true (eqb (count_of T.nodes n) 0) _ b.1 in
          let high = leb-true (first_word_of T.nodes n) (length T.names / 2) b.0 in
          let l = longer in
          simp (k, a.0, le-leb (first_word_of T.nodes n) (length (T.names ++ new) / 2) (omega arith), d.0, bytes_kept T.names new used long T.text (first_word_of T.nodes n) (omega arith)) d.1
      go false p = rw p (rw p at right)

  node_stays : (j : ℕ) → node_ok_at T j ≡ true → node_ok_at (with_names T (T.names ++ new)) j ≡ true
  unfolding node_ok span_ok children_below
  node_stays j right =
      let a = and_true (span_ok T (j + 1)) _ right in
      let b = and_true (words_ok T (j + 1) (kind_of T.nodes (j + 1)) (first_word_of T.nodes (j + 1)) (count_of T.nodes (j + 1))) _ a.1 in
      simp (a.0, words_stay (j + 1) b.0) b.1

  scope_stays : scope_ok (with_names T (T.names ++ new)) s ≡ true
  unfolding scope_ok
  scope_stays = go (or_true (eqb s.underscore 0) _ rules.scope)
    where
      go : (eqb s.underscore 0 ≡ true) ⊎ ((leb s.underscore (length T.names / 2) && same_bytes (name_bytes T.names T.text s.underscore) underscore_bytes) ≡ true)
          → scope_ok (with_names T (T.names ++ new)) s ≡ true
      go (inl z) = simp z
      go (inr h) =
          let a = and_true (leb s.underscore (length T.names / 2)) _ h in
          let high = leb-true s.underscore (length T.names / 2) a.0 in
          let l = longer in
          simp (
            le-leb s.underscore (length (T.names ++ new) / 2) (omega arith),
            bytes_kept T.names new used long T.text s.underscore (omega arith),
            a.1,
            Bool.or-true,
          )

  rules_stay : allowed T.text start size ≡ true → follows_rules (with_names T (T.names ++ new)) s ≡ true
  unfolding follows_rules
  rules_stay good =
      let nodes-stay : all_from (node_ok_at (with_names T (T.names ++ new))) 0 (length T.nodes / 5) ≡ true =
      all_of _ 0 _ (λ j lt. let z : 0 + j ≡ j = omega arith in rw z (node_stays j (from_zero (node_ok_at T) (length T.nodes / 5) rules.nodes j lt))) in
      simp (whole_stays, names_stay good, rules.numbers, rules.entries, nodes-stay, rules.once, rules.apart, scope_stays)

  depths_stay : shallow (with_names T (T.names ++ new)) ≡ true
  unfolding shallow
  depths_stay = all_of _ 0 _ (λ j lt.
      let z : 0 + j ≡ j = omega arith in
      rw (z, expr_kept T new used long well (j + 1))
      (from_zero (depth_ok_at T) (length T.nodes / 5) parts.depths j lt))

  -- no two T.names have equal bytes
  names_differ_still : ((x : ℕ) → x < used → same_bytes (name_bytes T.names T.text (x + 1)) (part T.text start size) ≡ false)
      → names_differ (with_names T (T.names ++ new)) ≡ true
  unfolding names_differ
  names_differ_still apart =
      let l = longer in
      all_of _ 0 _ (λ y lt. let z : 0 + y ≡ y = omega arith in rw z (all_of _ 0 y (λ x below. let q : 0 + x ≡ x = omega arith in rw q (differ x y (omega arith) below (eqb y used) refl))))
    where
      differ : (x y : ℕ) → y < used + 1 → x < y → (b : Bool) → eqb y used ≡ b → differ_at (with_names T (T.names ++ new)) y x ≡ true
      differ x y lt below true p =
          let e = eqb-true y used p in
          rw (e, bytes_kept T.names new used long T.text (x + 1) (omega arith), bytes_new T.names [] used start size long T.text, apart x (omega arith))
      differ x y lt below false p =
          let other = eqb-false y used p in
          let all : new_name_at T y ≡ true = from_zero (new_name_at T) (length T.names / 2) parts.names y (omega (arith, other)) in
          rw (bytes_kept T.names new used long T.text (x + 1) (omega (arith, other)), bytes_kept T.names new used long T.text (y + 1) (omega (arith, other)))
          (from_zero (differ_at T y) y all x below)

  pub stays_checked : used < 128 → allowed T.text start size ≡ true → ((x : ℕ) → x < used → same_bytes (name_bytes T.names T.text (x + 1)) (part T.text start size) ≡ false)
      → checked (with_names T (T.names ++ new)) s ≡ passed
  unfolding checked
  stays_checked few good apart = simp (limits_stay few, rules_stay good, depths_stay, names_differ_still apart)
