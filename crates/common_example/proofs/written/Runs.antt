-- Running each pattern on the written value matches, where the tables with the value pass the table check.
use Prim.Native.Nat.{ℕ, ◌+◌, ◌-◌, ◌*◌, ◌/◌, ◌%◌, ◌≤◌}
use mathlib.Core.Bool.{Bool, true, false, cond, ◌&&◌, ◌||◌, not, false≢true}
use mathlib.Core.List.{List, ◌++◌}
use mathlib.Core.Option.{none, some}
use mathlib.Core.Path.{◌≡◌, refl, ap, sym, ◌∙◌, fun_ext}
use native.Mathlib.Omega.{arith}
use borrow.Author.Tests.{eqb-false, eq-eqb}
use lib.Dec.{eqb, leb, leb→le, le→leb}
use lib.ListN.{length, length-append}
use lib.Seq.{get_or-append-add}
use Rattle.base.specs.Refusal as Refusal
use Rattle.table.specs.Tables.{Tables, node_count, name_count, is_node}
use Rattle.table.specs.Expr.{Expr}
use Rattle.table.specs.Decode.{expr}
use Rattle.table.specs.Check.{checked}
use Rattle.table.specs.code.Sound.{Node, WellFormed}
use Rattle.table.proofs.tests.Scan.{all_at}
use Rattle.table.proofs.trees.Facts.{passed, well_formed}
use Rattle.planner.specs.Layout.{entries, top, entry_words}
use Rattle.planner.specs.Operations.{plan_of}
use Rattle.planner.specs.Simple.{mentions}
use Rattle.value.specs.Value.{Value, is_value, value_of, Proper}
use Rattle.value.proofs.Keys.{and_left, and_right, both, is_true, true_is}
use Rattle.value.proofs.Admitted.{value_proper}
use Rattle.matching.specs.Matching.{Env, start}
use Rattle.report.proofs.Meeting.{mentioned_named}
use Rattle.run.specs.Answer.{a_match}
use Rattle.run.specs.Operations.{listed_node, in_table, is_value_node, listed, values_listed, known_listed}
use Rattle.run.specs.Demand.{Hypotheses, answer}
use Rattle.run.proofs.Demand.{demand}
use Rattle.common_example.specs.Overlap.{example, size, PatternMatches}
use Rattle.common_example.specs.Operations.{PatternSide, unbound_in, known_in, node_words, child_words_lem, with_value}
use Rattle.value.proofs.Equal.{meaning, same←}
use Rattle.common_example.proofs.patterns.Blanks.{null_value}
use Rattle.common_example.proofs.written.Kept.{tree_kept}
use Rattle.common_example.proofs.written.ReadBack.{Stands, words_length, Reads, read_back}
use Rattle.common_example.proofs.patterns.Literals.{Stored, AllOf}
use Rattle.common_example.proofs.written.Entries.{size_one}
use Rattle.common_example.proofs.patterns.Tabled.{node_is}
use Rattle.common_example.proofs.patterns.Outcome.{Passes, listed_values}
use Rattle.common_example.specs.Promise.{known_to_side, IsExample}

stands_behind : (xs ws : List ℕ) (at : ℕ) → length xs ≡ at → Stands (xs ++ ws) at ws
stands_behind xs ws at e i h = rw (← e) (get_or-append-add xs ws i 0)

whole_nodes : (l : ℕ) → l % 5 ≡ 0 → l ≡ l / 5 * 5
whole_nodes l e = omega arith

more_nodes : (l a : ℕ) → l / 5 + a ≤ (l + a * 5) / 5
more_nodes l a = omega arith

module _ (T : Tables) (w : WellFormed T) (v : Value) where
  abbrev T⁺ : Tables
  T⁺ = with_value T v

  -- the value's node is the last one written
  abbrev pub value_node : ℕ
  value_node = node_count T + size v

  count_more : node_count T + size v ≤ node_count T⁺
  count_more =
      let a = length-append T.nodes (node_words T v (length T.children)) in
      let b = words_length T v (length T.children) in
      let e : length (T.nodes ++ node_words T v (length T.children)) ≡ length T.nodes + size v * 5 = a ∙ ap (λ x. length T.nodes + x) b in
      rw e (more_nodes (length T.nodes) (size v))

  old_node : (n : ℕ) → Node T n → is_node T⁺ n ≡ true
  old_node n u =
      let h = u.high in let c = count_more in
      is_true (both (leb 1 n) (leb n (node_count T⁺)) (le→leb 1 n u.low) (le→leb n (node_count T⁺) (omega (arith, c, h))))

  old_tree : (n : ℕ) → Node T n → expr T⁺ n ≡ expr T n
  old_tree n u = tree_kept T w (node_words T v (length T.children)) (child_words_lem v (node_count T)) n u

  -- what was written is the value
  written : Proper v → AllOf (Stored T) v → Reads T T⁺.nodes T⁺.children v (expr T⁺ value_node)
  unfolding expr
  written p st =
      read_back T T⁺.nodes T⁺.children v (node_count T) (length T.children) value_node
      (stands_behind T.nodes (node_words T v (length T.children)) (node_count T * 5) (whole_nodes (length T.nodes) w.whole))
      (stands_behind T.children (child_words_lem v (node_count T)) (length T.children) refl)
      (omega arith) p st

  -- names' listed values are as before
  listed_kept : (values : List ℕ) → values_listed T values ≡ true → listed T⁺ values ≡ listed T values
  listed_kept values e = fun_ext (λ x. go x (in_table T x) refl (eqb (listed_node values x) 0) refl)
    where
      go : (x : ℕ) (b : Bool) → in_table T x ≡ b → (z : Bool) → eqb (listed_node values x) 0 ≡ z
          → cond b (cond z none (some (value_of (expr T⁺ (listed_node values x))))) none ≡ cond b (cond z none (some (value_of (expr T (listed_node values x))))) none
      go x false q z r = refl
      go x true q true r = refl
      go x true q false r =
          let h = listed_values T values e x q (eqb-false (listed_node values x) 0 r) in
          let u = node_is T w (listed_node values x) (is_true (and_left (is_node T (listed_node values x)) (is_value (expr T (listed_node values x))) (true_is h))) in
          ap (λ e'. some (value_of e')) (old_tree (listed_node values x) u)

  -- one side: what matched the value matches the written one
  module _ (s : PatternSide) (p : Passes T s) (last : is_value (expr T⁺ value_node) ≡ true) (one : 1 ≤ size v) (buffer : List ℕ)
      (sound : checked T⁺ s.scope ≡ Refusal.passed) (roomy : entry_words * length (entries (plan_of T⁺ s.scope s.scoping s.pattern) top) ≤ length buffer) where
    root : Node T s.pattern
    root = node_is T w s.pattern p.root

    side_listed : (x : ℕ) → in_table T x ≡ true → (listed_node s.values x ≡ 0 → ⊥) → is_value_node T⁺ (listed_node s.values x) ≡ true
    side_listed x q z =
        let h = listed_values T s.values p.values x q z in
        let u = node_is T w (listed_node s.values x) (is_true (and_left (is_node T (listed_node s.values x)) (is_value (expr T (listed_node s.values x))) (true_is h))) in
        let t = old_tree (listed_node s.values x) u in
        let n = old_node (listed_node s.values x) u in
        rw (t, n) (is_true (and_right (is_node T (listed_node s.values x)) (is_value (expr T (listed_node s.values x))) (true_is h)))

    side_known : (x : ℕ) → mentions x (expr T s.pattern) ≡ true → known_in s x ≡ true → listed_node s.values x ≡ 0 → ⊥
    unfolding known_listed
    side_known x m u z =
        let v = mentioned_named T w s.pattern root x (true_is m) in
        let low = v.low in
        let high = v.high in
        let q : 1 + (x - 1) ≡ x = omega arith in
        let a = all_at (λ y. not (mentions y (expr T s.pattern) && known_in s y) || not (eqb (listed_node s.values y) 0)) 1 (name_count T) p.known (x - 1) (omega arith) in
        let b = rw q at a in
        let c = eq-eqb (listed_node s.values x) 0 z in
        false≢true (rw (m, u, c) at b)

    hypotheses : Hypotheses T⁺ s.scope s.scoping s.pattern value_node s.values buffer
    hypotheses =
        let t = old_tree s.pattern root in
        let c = count_more in
        record {
          tables_pass = sound;
          pattern_inside = old_node s.pattern root;
          value_inside = is_true (both (leb 1 value_node) (leb value_node (node_count T⁺)) (le→leb 1 value_node (omega (arith, one))) (le→leb value_node (node_count T⁺) c));
          list_long_lem = leb→le (name_count T) (length s.values) (true_is p.long);
          buffer_long = roomy;
          pattern_simple = rw t p.is_simple;
          value_is_value = last;
          listed_are_values = side_listed;
          known_are_listed = λ x m u z. side_known x (rw t at m) u z;
        }

    side_runs : PatternMatches (known_to_side T s) (expr T s.pattern) (value_of (expr T⁺ value_node)) → answer T⁺ s.scope s.scoping s.pattern value_node s.values buffer ≡ a_match
    side_runs m =
        let t = old_tree s.pattern root in
        let l = listed_kept s.values p.values in
        let m⁺ = moved (sym l) (sym t) m in
        (demand.runs T⁺ s.scope s.scoping s.pattern value_node s.values buffer hypotheses).if_filled m⁺.0 m⁺.1
      where
        moved : {a b : Env} {e f : Expr} → a ≡ b → e ≡ f → PatternMatches (start (unbound_in s) a) e (value_of (expr T⁺ value_node)) → PatternMatches (start (unbound_in s) b) f (value_of (expr T⁺ value_node))
        moved {a} {b} {e} {f} r q x = coe 0 1 (i. PatternMatches (start (unbound_in s) (r i)) (q i) (value_of (expr T⁺ value_node))) x

-- The theorem: where the tables with the value pass the table check and the plan buffer has space, each pattern's run on the value's node answers Match.
module _ (T : Tables) (s₁ s₂ : PatternSide) (v : Value) (outcome : IsExample T s₁ s₂ v) (is_stored : AllOf (Stored T) v) (p₁ : Passes T s₁) (p₂ : Passes T s₂) where
  sound_nodes : WellFormed T
  sound_nodes = let g = passed T s₁.scope p₁.table in well_formed T s₁.scope g.limits g.rules

  reads : Reads T (with_value T v).nodes (with_value T v).children v (expr (with_value T v) (node_count T + size v))
  reads = written T sound_nodes v outcome.is_value is_stored

  -- both patterns match the value as it reads back
  both_match : PatternMatches (known_to_side T s₁) (expr T s₁.pattern) (value_of (expr (with_value T v) (node_count T + size v))) × PatternMatches (known_to_side T s₂) (expr T s₂.pattern) (value_of (expr (with_value T v) (node_count T + size v)))
  unfolding null_value
  both_match =
      let o = outcome.general in
      let t = outcome.template in
      let u = value_of (expr (with_value T v) (node_count T + size v)) in
      let p = value_proper (expr (with_value T v) (node_count T + size v)) reads.is_a_value in
      o.only u p (λ x. null_value, same← (example t) u o.is_value (ap meaning outcome.its_example ∙ sym reads.means))

  pub first_runs : (buffer : List ℕ) → checked (with_value T v) s₁.scope ≡ Refusal.passed → entry_words * length (entries (plan_of (with_value T v) s₁.scope s₁.scoping s₁.pattern) top) ≤ length buffer
      → answer (with_value T v) s₁.scope s₁.scoping s₁.pattern (node_count T + size v) s₁.values buffer ≡ a_match
  first_runs buffer sound roomy = side_runs T sound_nodes v s₁ p₁ (is_true reads.is_a_value) (size_one v) buffer sound roomy both_match.0

  pub second_runs : (buffer : List ℕ) → checked (with_value T v) s₂.scope ≡ Refusal.passed → entry_words * length (entries (plan_of (with_value T v) s₂.scope s₂.scoping s₂.pattern) top) ≤ length buffer
      → answer (with_value T v) s₂.scope s₂.scoping s₂.pattern (node_count T + size v) s₂.values buffer ≡ a_match
  second_runs buffer sound roomy = side_runs T sound_nodes v s₂ p₂ (is_true reads.is_a_value) (size_one v) buffer sound roomy both_match.1
