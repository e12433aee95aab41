-- The table check of the tables with the value.
use Prim.Native.Nat.{ℕ, suc, ◌+◌, ◌-◌, ◌*◌, ◌/◌, ◌%◌, ◌≤◌, ◌<◌}
use mathlib.Core.Bool.{Bool, true, false, ◌&&◌}
use mathlib.Core.List.{List, [], ◌∷◌, ◌++◌}
use mathlib.Core.Path.{◌≡◌, refl, ap, ap₂, sym, ◌∙◌}
use native.Mathlib.Omega.{arith}
use borrow.Author.Tests.{eqb-true, le-leb, leb-true}
use lib.Dec.{eqb, leb}
use lib.ListN.{length, get_or, length-append}
use lib.Seq.{get_or-append-add}
use Rattle.scope.specs.declared.Scope.{Scope}
use Rattle.base.specs.Refusal as Refusal
use Rattle.table.specs.Tables.{Tables, kind_of, first_word_of, count_of, node_count, number_count, name_count, is_node, width, child_at}
use Rattle.table.specs.Expr.{depth}
use Rattle.table.specs.Decode.{expr}
use Rattle.base.specs.Lists.{all_from, no_repeat}
use Rattle.table.specs.Rules.{within_limits, whole_records, span_ok, name_text_ok, words_ok, below_at, children_below, node_ok, node_ok_at, entry_ok, used_places, places_from, name_ok, name_ok_at, scope_ok, follows_rules, depth_ok_at, shallow, names_differ}
use Rattle.table.specs.Check.{checked}
use Rattle.table.specs.code.Sound.{Node, WellFormed}
use Rattle.table.proofs.tests.Bools.{and_true}
use Rattle.table.proofs.tests.Scan.{all_at, all_of}
use Rattle.table.proofs.trees.Facts.{Passed, passed, Followed, followed, from_zero, well_formed, sound_table, wide_kind}
use Rattle.table.proofs.trees.Lists.{append_no_repeat}
use Rattle.value.specs.Value.{Value, Proper}
use Rattle.common_example.specs.Overlap.{size, depthᵛ}
use Rattle.common_example.specs.Operations.{child_entries, node_words, child_words_lem, with_value}
use Rattle.common_example.proofs.patterns.Literals.{Stored, AllOf}
use Rattle.common_example.proofs.written.ReadBack.{Stands, words_length, entries_length}
use Rattle.common_example.proofs.written.Kept.{word_kept, child_kept, tree_kept}
use Rattle.common_example.proofs.written.Entries.{Each, each_at, each_elem, Between, range, once}
use Rattle.common_example.proofs.written.Used.{in_places, places_once, used_append, used_kept, used_below, used_new}
use Rattle.common_example.proofs.written.Passing.{split, Part, part_of, part_ok, part_deep}

conj : {a b : Bool} → a ≡ true → b ≡ true → (a && b) ≡ true
conj p q = rw (p, q)

each_of : (Q : ℕ → Type 0) (xs : List ℕ) → ((i : ℕ) → i < length xs → Q (get_or xs i 0)) → Each Q xs
each_of Q [] f = tt
each_of Q (x ∷ xs) f = (f 0 (omega arith), each_of Q xs (λ i h. f (suc i) (omega arith)))

module _ (T : Tables) (s : Scope) (ok : checked T s ≡ Refusal.passed) (v : Value) (is_proper : Proper v) (is_stored : AllOf (Stored T) v)
    (fewNodes : node_count T + size v ≤ 512) (fewEntries : length T.children + child_entries v ≤ 512) (isShallow : depthᵛ v ≤ 32) where
  abbrev T⁺ : Tables
  T⁺ = with_value T v

  abbrev new : List ℕ
  new = node_words T v (length T.children)

  abbrev new_entries : List ℕ
  new_entries = child_words_lem v (node_count T)

  pass : Passed T s
  pass = passed T s ok

  rules : Followed T s
  rules = followed T s pass.rules

  w : WellFormed T
  w = well_formed T s pass.limits pass.rules

  nodes_long : length (T.nodes ++ new) ≡ length T.nodes + size v * 5
  nodes_long = length-append T.nodes new ∙ ap (λ x. length T.nodes + x) (words_length T v (length T.children))

  entries_long : length (T.children ++ new_entries) ≡ length T.children + child_entries v
  entries_long = length-append T.children new_entries ∙ ap (λ x. length T.children + x) (entries_length v (node_count T))

  count_is : node_count T⁺ ≡ node_count T + size v
  count_is = rw nodes_long (fifth (length T.nodes) (size v))
    where
      fifth : (l a : ℕ) → (l + a * 5) / 5 ≡ l / 5 + a
      fifth l a = omega arith

  nodes_stand : Stands (T.nodes ++ new) (node_count T * 5) new
  nodes_stand i h = let e = whole_nodes (length T.nodes) w.whole in ap (λ (x : ℕ). get_or (T.nodes ++ new) (x + i) 0) (sym e) ∙ get_or-append-add T.nodes new i 0
    where
      whole_nodes : (l : ℕ) → l % 5 ≡ 0 → l ≡ l / 5 * 5
      whole_nodes l e = omega arith

  entries_stand : Stands (T.children ++ new_entries) (length T.children) new_entries
  entries_stand i h = get_or-append-add T.children new_entries i 0

  -- every node beyond the table's own is a part of the value
  part : (m : ℕ) → node_count T < m → m ≤ node_count T + size v → Part T T⁺.nodes T⁺.children 32 m
  part m lo hi = part_of T T⁺.nodes T⁺.children 32 v (node_count T) (length T.children) nodes_stand entries_stand (let e = entries_long in omega (arith, e)) is_proper is_stored isShallow m lo hi

  old_node : (m : ℕ) → 1 ≤ m → m ≤ node_count T → Node T m
  old_node m lo hi = record { low = lo; high = hi }

  -- 1. limits
  limits_ok : within_limits T⁺ ≡ true
  unfolding within_limits
  limits_ok =
      let l = w.limits in
      let a = count_is in
      let b = entries_long in
      conj (le-leb (node_count T⁺) 512 (rw a fewNodes)) (conj (le-leb (length T⁺.children) 512 (rw b fewEntries))
      (conj (le-leb (number_count T) 256 l.numbers) (conj (le-leb (name_count T) 128 l.names) (conj (le-leb (length T.strings) 8192 l.strings) (le-leb (length T.text) 16384 l.text)))))

  -- 2. rules
  whole_ok : whole_records T⁺ ≡ true
  unfolding whole_records
  whole_ok =
      let r = and_true (eqb (length T.nodes % 5) 0) _ rules.whole in
      let first : eqb (length (T.nodes ++ new) % 5) 0 ≡ true = ap (λ (x : ℕ). eqb (x % 5) 0) nodes_long ∙ (ap (λ (x : ℕ). eqb x 0) (still (length T.nodes) (size v)) ∙ r.0) in
      conj first r.1
    where
      still : (l a : ℕ) → (l + a * 5) % 5 ≡ l % 5
      still l a = omega arith

  names_ok_lem : all_from (name_ok_at T⁺) 0 (name_count T⁺) ≡ true
  unfolding name_ok
  names_ok_lem = rules.names

  inside_ok : (m : ℕ) → 1 ≤ m → m ≤ node_count T + size v → is_node T⁺ m ≡ true
  inside_ok m lo hi = let c = count_is in conj (le-leb 1 m lo) (le-leb m (node_count T⁺) (rw c hi))

  entries_ok : all_from (entry_ok T⁺) 0 (length T⁺.children) ≡ true
  entries_ok = all_of (entry_ok T⁺) 0 (length T⁺.children) (λ j h. let z : 0 + j ≡ j = omega arith in rw z (split (suc j) (length T.children) (old j) (fresh j h)))
    where
      old : (j : ℕ) → suc j ≤ length T.children → entry_ok T⁺ j ≡ true
      old j lt =
          let e = child_kept T w new new_entries j lt in
          let u = w.entries j lt in
          let a = u.low in
          let b = u.high in
          rw e (inside_ok (child_at T.children j) a (omega arith))

      fresh : (j : ℕ) → j < length T⁺.children → length T.children < suc j → entry_ok T⁺ j ≡ true
      fresh j h gt =
          let l = entries_long in
          let k = entries_length v (node_count T) in
          let q : length T.children + (j - length T.children) ≡ j = omega arith in
          let lt : j - length T.children < length new_entries = omega (arith, l, k) in
          let e : child_at T⁺.children j ≡ get_or new_entries (j - length T.children) 0 = rw q at (entries_stand (j - length T.children) lt) in
          let r = each_at (Between (node_count T) (node_count T + size v)) new_entries (range v (node_count T)) (j - length T.children) lt in
          let a = r.0 in
          let b = r.1 in
          rw e (inside_ok (get_or new_entries (j - length T.children) 0) (omega arith) (omega arith))

  -- a node of the table's own is as good as it was
  name_text : (n : ℕ) → Node T n → name_text_ok T⁺ n ≡ name_text_ok T n
  unfolding name_text_ok
  name_text n u =
      let a = word_kept T w new new_entries 1 n (omega arith) u in
      let b = word_kept T w new new_entries 2 n (omega arith) u in
      let c = word_kept T w new new_entries 3 n (omega arith) u in
      rw (a, b, c)

  words_kept : (n : ℕ) (u : Node T n) → words_ok T n (kind_of T.nodes n) (first_word_of T.nodes n) (count_of T.nodes n) ≡ true → words_ok T⁺ n (kind_of T.nodes n) (first_word_of T.nodes n) (count_of T.nodes n) ≡ true
  unfolding words_ok
  words_kept n u good = go (eqb (kind_of T.nodes n) 7) refl (eqb (kind_of T.nodes n) 8) refl (eqb (kind_of T.nodes n) 9) refl
    where
      longer : (a : ℕ) → a ≤ length T.children → leb a (length T⁺.children) ≡ true
      longer a h = let l = entries_long in le-leb a (length T⁺.children) (omega (arith, l))

      go : (a : Bool) → eqb (kind_of T.nodes n) 7 ≡ a → (b : Bool) → eqb (kind_of T.nodes n) 8 ≡ b → (c : Bool) → eqb (kind_of T.nodes n) 9 ≡ c → words_ok T⁺ n (kind_of T.nodes n) (first_word_of T.nodes n) (count_of T.nodes n) ≡ true
      go true p b q c r =
          let k = eqb-true (kind_of T.nodes n) 7 p in
          let g : leb (first_word_of T.nodes n + count_of T.nodes n) (length T.children) ≡ true = rw k at good in
          rw k (longer (first_word_of T.nodes n + count_of T.nodes n) (leb-true (first_word_of T.nodes n + count_of T.nodes n) (length T.children) g))
      go false p true q c r =
          let k = eqb-true (kind_of T.nodes n) 8 q in
          let g : leb (first_word_of T.nodes n + count_of T.nodes n) (length T.children) ≡ true = rw k at good in
          rw k (longer (first_word_of T.nodes n + count_of T.nodes n) (leb-true (first_word_of T.nodes n + count_of T.nodes n) (length T.children) g))
      go false p false q true r =
          let k = eqb-true (kind_of T.nodes n) 9 r in
          let g : leb (first_word_of T.nodes n + count_of T.nodes n * 2) (length T.children) ≡ true = rw k at good in
          rw k (longer (first_word_of T.nodes n + count_of T.nodes n * 2) (leb-true (first_word_of T.nodes n + count_of T.nodes n * 2) (length T.children) g))
      go false p false q false r = let t = name_text n u in simp (p, q, r, t) (simp (p, q, r) at good)

  old_ok : (n : ℕ) → Node T n → node_ok T⁺ n ≡ true
  unfolding node_ok span_ok children_below
  old_ok n u =
      let low = u.low in
      let high = u.high in
      let q : n - 1 + 1 ≡ n = omega arith in
      let g : node_ok T n ≡ true = rw q at (from_zero (node_ok_at T) (node_count T) rules.nodes (n - 1) (omega arith)) in
      let r₁ = and_true (span_ok T n) (words_ok T n (kind_of T.nodes n) (first_word_of T.nodes n) (count_of T.nodes n) && children_below T n) g in
      let r₂ = and_true (words_ok T n (kind_of T.nodes n) (first_word_of T.nodes n) (count_of T.nodes n)) (children_below T n) r₁.1 in
      let a = word_kept T w new new_entries 0 n (omega arith) u in
      let b = word_kept T w new new_entries 1 n (omega arith) u in
      let c = word_kept T w new new_entries 2 n (omega arith) u in
      let d = word_kept T w new new_entries 3 n (omega arith) u in
      let e = word_kept T w new new_entries 4 n (omega arith) u in
      let under = all_of (below_at T⁺ n) (first_word_of T.nodes n) (width T.nodes n) (λ j h.
      let k = wide_kind T n j h in
      let l = w.listed n u k.0 k.1 in
      let x = child_kept T w new new_entries (first_word_of T.nodes n + j) (omega arith) in
      rw x (all_at (below_at T n) (first_word_of T.nodes n) (width T.nodes n) r₂.1 j h)) in
      rw (a, b, c, d, e) (conj r₁.0 (conj (words_kept n u r₂.0) under))

  old_words : (n : ℕ) → Node T n → words_ok T n (kind_of T.nodes n) (first_word_of T.nodes n) (count_of T.nodes n) ≡ true
  unfolding node_ok
  old_words n u =
      let low = u.low in
      let high = u.high in
      let q : n - 1 + 1 ≡ n = omega arith in
      let g : node_ok T n ≡ true = rw q at (from_zero (node_ok_at T) (node_count T) rules.nodes (n - 1) (omega arith)) in
      let r₁ = and_true (span_ok T n) (words_ok T n (kind_of T.nodes n) (first_word_of T.nodes n) (count_of T.nodes n) && children_below T n) g in
      (and_true (words_ok T n (kind_of T.nodes n) (first_word_of T.nodes n) (count_of T.nodes n)) (children_below T n) r₁.1).0

  nodes_ok_lem : all_from (node_ok_at T⁺) 0 (node_count T⁺) ≡ true
  nodes_ok_lem = all_of (node_ok_at T⁺) 0 (node_count T⁺) (λ j h. let z : 0 + j + 1 ≡ j + 1 = omega arith in let c = count_is in rw z (split (j + 1) (node_count T) (λ le. old_ok (j + 1) (old_node (j + 1) (omega arith) le)) (λ gt. part_ok T T⁺.nodes T⁺.children 32 old_words (j + 1) (part (j + 1) gt (last j c h)))))
    where
      last : (j : ℕ) → node_count T⁺ ≡ node_count T + size v → j < node_count T⁺ → j + 1 ≤ node_count T + size v
      last j c h = omega arith

  entries_once : no_repeat T⁺.children ≡ true
  entries_once = append_no_repeat T.children new_entries rules.once (once v (node_count T)) (λ m a b.
      let o = each_elem (λ x. x ≤ node_count T) T.children (each_of (λ x. x ≤ node_count T) T.children (λ i h. (w.entries i h).high)) m a in
      let r = each_elem (Between (node_count T) (node_count T + size v)) new_entries (range v (node_count T)) m b in
      above m o r.0)
    where
      above : (m : ℕ) → m ≤ node_count T → node_count T < m → ⊥
      above m a b = omega arith

  places_apart : no_repeat (used_places T⁺.nodes 1 (node_count T⁺)) ≡ true
  places_apart =
      let e : used_places T⁺.nodes 1 (node_count T⁺) ≡ used_places T.nodes 1 (node_count T) ++ places_from (length T.children) (child_entries v) =
      ap (used_places T⁺.nodes 1) count_is
      ∙ (used_append T⁺.nodes 1 (node_count T) (size v)
      ∙ ap₂ (λ xs ys. xs ++ ys) (used_kept T w new new_entries 1 (node_count T) own)
      (ap (λ (x : ℕ). used_places T⁺.nodes x (size v)) (turn (node_count T)) ∙ used_new T T⁺.nodes T⁺.children v (node_count T) (length T.children) nodes_stand)) in
      rw e (append_no_repeat (used_places T.nodes 1 (node_count T)) (places_from (length T.children) (child_entries v)) rules.apart (places_once (length T.children) (child_entries v))
      (λ m a b. above m (used_below T w 1 (node_count T) own m a) (in_places (length T.children) (child_entries v) m b).0))
    where
      own : (i : ℕ) → i < node_count T → Node T (1 + i)
      own i h = record { low = omega arith; high = omega arith }

      turn : (n : ℕ) → 1 + n ≡ n + 1
      turn n = omega arith

      above : (m : ℕ) → m < length T.children → length T.children ≤ m → ⊥
      above m a b = omega arith

  scope_ok_lem : scope_ok T⁺ s ≡ true
  unfolding scope_ok
  scope_ok_lem = rules.scope

  rules_ok : follows_rules T⁺ s ≡ true
  unfolding follows_rules
  rules_ok = conj whole_ok (conj names_ok_lem (conj rules.numbers (conj entries_ok (conj nodes_ok_lem (conj entries_once (conj places_apart scope_ok_lem))))))

  -- 3. depth, 4. names
  depth_ok : shallow T⁺ ≡ true
  unfolding shallow
  depth_ok = all_of (depth_ok_at T⁺) 0 (node_count T⁺) (λ j h. let z : 0 + j + 1 ≡ j + 1 = omega arith in let c = count_is in rw z (split (j + 1) (node_count T) (λ le. old j (old_node (j + 1) (omega arith) le)) (λ gt. le-leb (depth (expr T⁺ (j + 1))) 32 (part_deep T T⁺.nodes T⁺.children 32 (j + 1) (part (j + 1) gt (last j c h))))))
    where
      last : (j : ℕ) → node_count T⁺ ≡ node_count T + size v → j < node_count T⁺ → j + 1 ≤ node_count T + size v
      last j c h = omega arith

      old : (j : ℕ) → Node T (j + 1) → leb (depth (expr T⁺ (j + 1))) 32 ≡ true
      old j u = let e = tree_kept T w new new_entries (j + 1) u in rw e (le-leb (depth (expr T (j + 1))) 32 ((sound_table T s ok).shallow (j + 1) u))

  names_differ_lem : names_differ T⁺ ≡ true
  unfolding names_differ
  names_differ_lem = pass.names

  -- the tables with the value pass the check
  pub passes_check : checked T⁺ s ≡ Refusal.passed
  unfolding checked
  passes_check = let a = limits_ok in let b = rules_ok in let c = depth_ok in let d = names_differ_lem in rw (a, b, c, d)
