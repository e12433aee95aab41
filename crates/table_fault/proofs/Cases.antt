-- What each answer of the code says of its rule.
use Prim.Native.Nat.{ℕ, suc, ◌+◌, ◌-◌, ◌/◌, ◌%◌, ◌≤◌, ◌<◌}
use mathlib.Core.Path.{◌≡◌, sym, ◌∙◌}
use mathlib.Core.Bool.{Bool, true, cond, ◌&&◌}
use mathlib.Core.List.{List, []}
use native.Mathlib.Omega.{arith}
use borrow.Author.Tests.{lt-leb}
use lib.Dec.{eqb, leb}
use lib.ListN.{length}
use Rattle.base.specs.Lists.{all_from}
use Rattle.table.specs.Tables.{Tables, tables, kind_of, first_word_of, count_of, node_count, is_node, child_at}
use Rattle.table.specs.Expr.{depth}
use Rattle.table.specs.Decode.{expr}
use Rattle.table.specs.Rules.{span_ok, name_text_ok, children_below, number_ok, name_ok, depth_ok_at, new_name_at}
use Rattle.table.specs.code.Depths.{DepthsAsks, DepthsTold}
use Rattle.table.proofs.trees.Deepest.{depths_of}
use Rattle.table.proofs.trees.Facts.{limits_of}
use Rattle.table_fault.specs.Rules.{kind_listed, unused_zero, range_ok, new_entry_at, new_places_at, mark_ok_at, rules}
use Rattle.table_fault.specs.code.Asking.{rule_at, numbered, kept_at, Asked, NodeAsked, first_by, places_by}
use Rattle.table_fault.proofs.Ranges.{all_last, all_shifted}
use Rattle.table_fault.proofs.Words.{next}
use Rattle.table_fault.proofs.Numbers.{by_number, reached_limits, reached_sound}

-- rules 1 to 9
module _ (T : Tables) (rule : ℕ) where
  pub whole_nodes : {r : Bool} → rule ≡ 1 → r ≡ leb (length T.nodes / 5) 512 → r ≡ kept_at T [] rule 0
  unfolding numbered rule_at rules
  whole_nodes e is = rw e is

  pub whole_children : {r : Bool} → rule ≡ 2 → r ≡ leb (length T.children) 512 → r ≡ kept_at T [] rule 0
  unfolding numbered rule_at rules
  whole_children e is = rw e is

  pub whole_numbers : {r : Bool} → rule ≡ 3 → r ≡ leb (length T.numbers / 2) 256 → r ≡ kept_at T [] rule 0
  unfolding numbered rule_at rules
  whole_numbers e is = rw e is

  pub whole_names : {r : Bool} → rule ≡ 4 → r ≡ leb (length T.names / 2) 128 → r ≡ kept_at T [] rule 0
  unfolding numbered rule_at rules
  whole_names e is = rw e is

  pub whole_strings : {r : Bool} → rule ≡ 5 → r ≡ leb (length T.strings) 8192 → r ≡ kept_at T [] rule 0
  unfolding numbered rule_at rules
  whole_strings e is = rw e is

  pub whole_text : {r : Bool} → rule ≡ 6 → r ≡ leb (length T.text) 16384 → r ≡ kept_at T [] rule 0
  unfolding numbered rule_at rules
  whole_text e is = rw e is

  pub whole_node_words : {r : Bool} → rule ≡ 7 → r ≡ eqb (length T.nodes % 5) 0 → r ≡ kept_at T [] rule 0
  unfolding numbered rule_at rules
  whole_node_words e is = rw e is

  pub whole_number_words : {r : Bool} → rule ≡ 8 → r ≡ eqb (length T.numbers % 2) 0 → r ≡ kept_at T [] rule 0
  unfolding numbered rule_at rules
  whole_number_words e is = rw e is

  pub whole_name_words : {r : Bool} → 1 ≤ rule → rule ≤ 9 → (rule ≡ 1 → ⊥) → (rule ≡ 2 → ⊥) → (rule ≡ 3 → ⊥) → (rule ≡ 4 → ⊥) → (rule ≡ 5 → ⊥) → (rule ≡ 6 → ⊥) → (rule ≡ 7 → ⊥) → (rule ≡ 8 → ⊥)
      → r ≡ eqb (length T.names % 2) 0 → r ≡ kept_at T [] rule 0
  unfolding numbered rule_at rules
  whole_name_words low high a₁ a₂ a₃ a₄ a₅ a₆ a₇ a₈ is =
      next rule 1 low (λ e. absurd (a₁ e)) (λ b. next rule 2 b (λ e. absurd (a₂ e)) (λ b. next rule 3 b (λ e. absurd (a₃ e)) (λ b. next rule 4 b (λ e. absurd (a₄ e))
      (λ b. next rule 5 b (λ e. absurd (a₅ e)) (λ b. next rule 6 b (λ e. absurd (a₆ e)) (λ b. next rule 7 b (λ e. absurd (a₇ e)) (λ b. next rule 8 b (λ e. absurd (a₈ e))
      (λ b. next rule 9 b (λ e. rw e is) (λ b. absurd (past high b))))))))))
    where
      past : rule ≤ 9 → 10 ≤ rule → ⊥
      past high b = omega arith

  -- whatever the marks and the place
  whole_same : (marks : List ℕ) (place : ℕ) {r : Bool} → 1 ≤ rule → rule ≤ 9 → r ≡ kept_at T [] rule 0 → r ≡ kept_at T marks rule place
  unfolding numbered rule_at rules
  whole_same marks place {r} low high is =
      is ∙ (next rule 1 low (λ e. rw e) (λ b. next rule 2 b (λ e. rw e) (λ b. next rule 3 b (λ e. rw e) (λ b. next rule 4 b (λ e. rw e)
      (λ b. next rule 5 b (λ e. rw e) (λ b. next rule 6 b (λ e. rw e) (λ b. next rule 7 b (λ e. rw e) (λ b. next rule 8 b (λ e. rw e)
      (λ b. next rule 9 b (λ e. rw e) (λ b. absurd (past high b)))))))))))
    where
      past : rule ≤ 9 → 10 ≤ rule → ⊥
      past high b = omega arith

-- rules 13 to 18
module _ (nodes ch nums names strings text : List ℕ) {rule node : ℕ} (ask : NodeAsked (tables nodes ch nums names strings text) rule node) where
  abbrev T : Tables
  T = tables nodes ch nums names strings text

  here : node - 1 + 1 ≡ node
  here = let l = ask.low in omega arith

  pub node_low : 1 ≤ node
  node_low = ask.low

  pub node_high : node ≤ length nodes / 5
  node_high = ask.high

  pub node_inside : {i : ℕ} → i ≡ node - 1 → i < length nodes / 5
  node_inside e = let l = ask.low in let h = ask.high in omega arith

  module _ {r : Bool} where
    pub node_kind : {kind : ℕ} → rule ≡ 13 → kind ≡ kind_of nodes node → r ≡ kind_listed kind → r ≡ kept_at T [] rule node
    unfolding numbered rule_at rules
    node_kind e k is = rw (e, here, ← k) is

    pub node_span : {i : ℕ} → rule ≡ 14 → i ≡ node - 1 → r ≡ span_ok (tables nodes [] [] [] [] text) (i + 1) → r ≡ kept_at T [] rule node
    unfolding numbered rule_at rules span_ok
    node_span e at is = rw (e, ← at) is

    pub node_unused : {kind first count : ℕ} → rule ≡ 15 → kind ≡ kind_of nodes node → first ≡ first_word_of nodes node → count ≡ count_of nodes node
        → r ≡ unused_zero kind first count → r ≡ kept_at T [] rule node
    unfolding numbered rule_at rules
    node_unused e k f m is = rw (e, here, ← k, ← f, ← m) is

    pub node_range : rule ≡ 16 → r ≡ range_ok T (kind_of nodes node) (first_word_of nodes node) (count_of nodes node) → r ≡ kept_at T [] rule node
    unfolding numbered rule_at rules
    node_range e is = rw (e, here) is

    pub node_text : rule ≡ 17 → r ≡ cond (eqb (kind_of nodes node) 6) (name_text_ok (tables nodes [] [] names [] text) node) true → r ≡ kept_at T [] rule node
    unfolding numbered rule_at rules name_text_ok
    node_text e is = rw (e, here) is

    pub node_below : {i : ℕ} → (rule ≡ 13 → ⊥) → (rule ≡ 14 → ⊥) → (rule ≡ 15 → ⊥) → (rule ≡ 16 → ⊥) → (rule ≡ 17 → ⊥) → i ≡ node - 1
        → r ≡ children_below (tables nodes ch [] [] [] []) (i + 1) → r ≡ kept_at T [] rule node
    unfolding numbered rule_at rules children_below
    node_below a₁₃ a₁₄ a₁₅ a₁₆ a₁₇ at is = let f = ask.from in let t = ask.to in let e : rule ≡ 18 = omega arith in rw (e, ← at) is

-- rules 13 to 18 do not look at the marks, and have the nodes for places
module _ (T : Tables) where
  node_same : (marks others : List ℕ) (rule place : ℕ) → 13 ≤ rule → rule ≤ 18 → kept_at T marks rule place ≡ kept_at T others rule place
  unfolding numbered rule_at rules
  node_same marks others rule place from to =
      next rule 13 from (λ e. rw e) (λ b. next rule 14 b (λ e. rw e) (λ b. next rule 15 b (λ e. rw e) (λ b. next rule 16 b (λ e. rw e)
      (λ b. next rule 17 b (λ e. rw e) (λ b. next rule 18 b (λ e. rw e) (λ b. absurd (omega arith)))))))

  node_places : (rule : ℕ) → 13 ≤ rule → rule ≤ 18 → places_by T rule ≡ node_count T
  unfolding places_by
  node_places rule from to =
      next rule 13 from (λ e. rw e) (λ b. next rule 14 b (λ e. rw e) (λ b. next rule 15 b (λ e. rw e) (λ b. next rule 16 b (λ e. rw e)
      (λ b. next rule 17 b (λ e. rw e) (λ b. next rule 18 b (λ e. rw e) (λ b. absurd (omega arith)))))))

next_down : {A : Type 0} (x k : ℕ) → x ≤ k + 1 → (x ≡ k + 1 → ⊥) → (x ≤ k → A) → A
next_down x k le ne on = on (omega arith)

-- rules from 10 on
module _ (nodes ch nums names strings text marks : List ℕ) {rule place : ℕ} (ask : Asked (tables nodes ch nums names strings text) marks rule place) where
  abbrev U : Tables
  U = tables nodes ch nums names strings text

  place_from : 9 < rule → 1 ≤ place
  place_from lt =
      let b = by_number U marks rule ask.reached.low ask.reached.high in
      let f : first_by rule ≡ 1 = rw (lt-leb rule 9 lt) in
      let l = ask.low in
      omega (arith, b.first)

  place_to : 9 < rule → place ≤ places_by U rule
  place_to lt =
      let b = by_number U marks rule ask.reached.low ask.reached.high in
      let f : first_by rule ≡ 1 = rw (lt-leb rule 9 lt) in
      let h = ask.high in
      omega (arith, b.first, b.places)

  at_place : 9 < rule → place - 1 + 1 ≡ place
  at_place lt = let l = place_from lt in omega arith

  pub asked_low : 9 < rule → 1 ≤ place
  asked_low = place_from

  pub asked_rule : 1 ≤ rule
  asked_rule = ask.reached.low

  pub kept_whole : {r : Bool} → rule ≤ 9 → r ≡ kept_at U [] rule 0 → r ≡ kept_at U marks rule place
  kept_whole le is = whole_same U rule marks place ask.reached.low le is

  pub ask_number : {i : ℕ} → rule ≡ 11 → i ≡ place - 1 → i < length nums / 2
  unfolding places_by
  ask_number e at =
      let l = place_from (omega arith) in
      let h : place ≤ length nums / 2 = rw e at (place_to (omega arith)) in
      omega arith

  pub ask_entry : {i : ℕ} → rule ≡ 19 → i ≡ place - 1 → i < length ch
  unfolding places_by
  ask_entry e at =
      let l = place_from (omega arith) in
      let h : place ≤ length ch = rw e at (place_to (omega arith)) in
      omega arith

  pub ask_places : rule ≡ 20 → place ≤ 512
  unfolding places_by
  ask_places e =
      let h : place ≤ length nodes / 5 = rw e at (place_to (omega arith)) in
      let m = (limits_of U (reached_limits ask.reached (omega arith))).nodes in
      omega arith

  pub ask_name : rule ≡ 23 → place ≤ 128
  unfolding places_by
  ask_name e =
      let h : place ≤ length names / 2 = rw e at (place_to (omega arith)) in
      let m = (limits_of U (reached_limits ask.reached (omega arith))).names in
      omega arith

  -- the rules are kept that the depths need
  pub ask_depths : rule ≡ 22 → DepthsAsks nodes ch
  ask_depths e =
      let w = reached_sound ask.reached e in
      record { few = w.limits.nodes; below = λ n low high i lt. w.below n (record { low = low; high = high }) i lt }

  pub ask_deep : rule ≡ 22 → place ≤ length nodes / 5
  unfolding places_by
  ask_deep e = rw e at (place_to (omega arith))

  pub ask_node : 9 < rule → (rule ≡ 10 → ⊥) → (rule ≡ 11 → ⊥) → (rule ≡ 12 → ⊥) → (rule ≡ 19 → ⊥) → (rule ≡ 20 → ⊥) → (rule ≡ 21 → ⊥) → (rule ≡ 22 → ⊥) → (rule ≡ 23 → ⊥)
      → NodeAsked U rule place
  ask_node lt a₁₀ a₁₁ a₁₂ a₁₉ a₂₀ a₂₁ a₂₂ a₂₃ = record { from = from; to = to; low = place_from lt; high = high }
    where
      from : 13 ≤ rule
      from = next rule 10 lt (λ e. absurd (a₁₀ e)) (λ b. next rule 11 b (λ e. absurd (a₁₁ e)) (λ b. next rule 12 b (λ e. absurd (a₁₂ e)) (λ b. b)))

      to : rule ≤ 18
      to =
          let h = ask.reached.high in
          next_down rule 22 h a₂₃ (λ h. next_down rule 21 h a₂₂ (λ h. next_down rule 20 h a₂₁ (λ h. next_down rule 19 h a₂₀ (λ h. next_down rule 18 h a₁₉ (λ h. h)))))

      high : place ≤ length nodes / 5
      high = rw (node_places U rule from to) at (place_to lt)

  module _ {r : Bool} where
    pub kept_name : rule ≡ 10 → r ≡ name_ok (tables [] [] [] names [] text) place → r ≡ kept_at U marks rule place
    unfolding numbered rule_at rules name_ok
    kept_name e is = let z = at_place (omega arith) in rw (e, z) is

    pub kept_number : {i : ℕ} → rule ≡ 11 → i ≡ place - 1 → r ≡ number_ok (tables [] [] nums [] [] []) i → r ≡ kept_at U marks rule place
    unfolding numbered rule_at rules
    kept_number e at is = rw (e, ← at) is

    pub kept_entry : {i child : ℕ} → rule ≡ 12 → i ≡ place - 1 → child ≡ child_at ch i → r ≡ is_node (tables nodes [] [] [] [] []) child → r ≡ kept_at U marks rule place
    unfolding numbered rule_at rules
    kept_entry e at c is = rw (e, ← at, ← c) is

    pub kept_once : {i : ℕ} → rule ≡ 19 → i ≡ place - 1 → r ≡ new_entry_at ch i → r ≡ kept_at U marks rule place
    unfolding numbered rule_at rules
    kept_once e at is = rw (e, ← at) is

    pub kept_apart : rule ≡ 20 → r ≡ new_places_at nodes (place - 1) → r ≡ kept_at U marks rule place
    unfolding numbered rule_at rules
    kept_apart e is = rw e is

    pub kept_mark : {i : ℕ} → rule ≡ 21 → i ≡ place - 1 → r ≡ mark_ok_at marks i → r ≡ kept_at U marks rule place
    unfolding numbered rule_at rules
    kept_mark e at is = rw (e, ← at) is

    pub kept_differs : rule ≡ 23 → r ≡ new_name_at (tables [] [] [] names [] text) (place - 1) → r ≡ kept_at U marks rule place
    unfolding numbered rule_at rules
    kept_differs e is = rw e is

    pub kept_node : 9 < rule → (rule ≡ 10 → ⊥) → (rule ≡ 11 → ⊥) → (rule ≡ 12 → ⊥) → (rule ≡ 19 → ⊥) → (rule ≡ 20 → ⊥) → (rule ≡ 21 → ⊥) → (rule ≡ 22 → ⊥) → (rule ≡ 23 → ⊥)
        → r ≡ kept_at U [] rule place → r ≡ kept_at U marks rule place
    kept_node lt a₁₀ a₁₁ a₁₂ a₁₉ a₂₀ a₂₁ a₂₂ a₂₃ is =
        let v = ask_node lt a₁₀ a₁₁ a₁₂ a₁₉ a₂₀ a₂₁ a₂₂ a₂₃ in
        is ∙ node_same U [] marks rule place v.from v.to

    -- all nodes before it are shallow
    pub kept_depth : {total : ℕ} → rule ≡ 22 → total ≡ place → DepthsTold nodes ch total r → r ≡ kept_at U marks rule place
    unfolding numbered rule_at rules
    kept_depth {total} e at told =
        let l = place_from (omega arith) in
        let w = reached_sound ask.reached e in
        let s : total ≡ suc (place - 1) = omega arith in
        let all : r ≡ all_from (depth_ok_at U) 0 (suc (place - 1)) = rw s at (told.told (λ (n : ℕ). depth (expr U n)) (depths_of U w)) in
        let shifted : all_from (λ (p : ℕ). depth_ok_at U (p - 1)) 1 (place - 1) ≡ true = rw e at ask.before in
        let before : all_from (depth_ok_at U) 0 (place - 1) ≡ true = sym (all_shifted (depth_ok_at U) 0 (place - 1)) ∙ shifted in
        let last : r ≡ (all_from (depth_ok_at U) 0 (place - 1) && depth_ok_at U (place - 1)) = all ∙ all_last (depth_ok_at U) (place - 1) in
        rw e (rw before at last)
