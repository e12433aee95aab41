-- The check's parts put together, answer by answer.
use Rattle.table.specs.declared.TableRefusal.{TableRefusal}
use Prim.Native.Nat.{ℕ, ◌+◌, ◌-◌, ◌/◌, ◌≤◌, ◌<◌}
use mathlib.Core.Path.{◌≡◌, refl, sym, ap, ◌∙◌}
use mathlib.Core.List.{List, []}
use mathlib.Core.Bool.{Bool, true, false, cond, not, ◌&&◌, and-false, and_assoc}
use mathlib.Core.Bool as Bool
use native.Mathlib.Omega.{arith}
use borrow.Author.Tests.{leb-true}
use lib.Dec.{eqb, leb}
use lib.ListN.{length, get_or}
use Rattle.scope.specs.declared.Scope.{Scope}
use Rattle.std.proofs.Common.{Result, Ok, Err}
use Rattle.table.specs.declared.TableRefusal.TheVariants.{OverLimit, BreaksRules, TooDeep, EqualNames}
use Rattle.table.specs.Tables.{Tables, tables, first_word_of, node_count, number_count, name_count, width, child_at}
use Rattle.table.specs.Expr.{depth}
use Rattle.table.specs.Decode.{expr}
use Rattle.base.specs.Lists.{all_from, no_repeat}
use Rattle.base.specs.Refusal.{Tested, passed, refused}
use Rattle.table.specs.Rules.{within_limits, whole_records, name_ok, name_ok_at, number_ok, entry_ok, span_ok, children_below, node_ok, node_ok_at, used_places, scope_ok, follows_rules, shallow, names_differ}
use Rattle.table.specs.code.Distinct.{PlacesAsks}
use Rattle.table.specs.code.Depths.{DepthsAsks, DepthsTold}
use Rattle.table.specs.code.Passes.{lists_ok, nodes_ok, head_ok, head_ok_at, children_below_at, NodesAsks}
use Rattle.table.specs.Check.{checked, tested_of, TableAnswered, TableLaws}
use Rattle.table.specs.code.Sound.{WellFormed}
use Rattle.table.proofs.tests.Bools.{and_true, told_no, told_yes}
use Rattle.table.proofs.tests.Scan.{all_both}
use Rattle.table.proofs.trees.Deepest.{depths_of}
use Rattle.table.proofs.trees.Facts.{limits_of, from_zero, listed_by, wide_kind, well_formed}

-- the lists
module _ (nodes ch nums names text : List ℕ) {a : Bool} (whole : a ≡ whole_records (tables nodes [] nums names [] [])) where
  pub lists_ragged : not a ≡ true → false ≡ lists_ok (tables nodes ch nums names [] text)
  unfolding lists_ok whole_records
  lists_ragged t = simp (told_no whole t)

  module _ (t : not a ≡ false) {b : Bool} (named : b ≡ all_from (name_ok_at (tables [] [] [] names [] text)) 0 (length names / 2)) where
    pub lists_names : not b ≡ true → false ≡ lists_ok (tables nodes ch nums names [] text)
    unfolding lists_ok whole_records name_ok
    lists_names u = simp (told_yes whole t, told_no named u)

    module _ (u : not b ≡ false) {d : Bool} (numbered : d ≡ all_from (number_ok (tables [] [] nums [] [] [])) 0 (length nums / 2)) where
      pub lists_numbers : not d ≡ true → false ≡ lists_ok (tables nodes ch nums names [] text)
      unfolding lists_ok whole_records name_ok
      lists_numbers v = simp (told_yes whole t, told_yes named u, told_no numbered v)

      pub lists_entries : {e : Bool} → not d ≡ false → e ≡ all_from (entry_ok (tables nodes ch [] [] [] [])) 0 (length ch) → e ≡ lists_ok (tables nodes ch nums names [] text)
      unfolding lists_ok whole_records name_ok
      lists_entries v is = simp (told_yes whole t, told_yes named u, told_yes numbered v) is

-- the nodes
module _ (T : Tables) (n : ℕ) (ok : head_ok T n ≡ true) where
  -- the places of its child entries
  head_place : (i : ℕ) → i < width T.nodes n → first_word_of T.nodes n + i < length T.children
  unfolding head_ok
  head_place i lt =
      let k = wide_kind T n i lt in
      let h = listed_by T n (and_true (span_ok T n) _ ok).1 k.0 k.1 in
      omega arith

two_passes : (T : Tables) → all_from (node_ok_at T) 0 (node_count T) ≡ (all_from (head_ok_at T) 0 (node_count T) && all_from (children_below_at T) 0 (node_count T))
unfolding node_ok head_ok
two_passes T = all_both (head_ok_at T) (children_below_at T) (node_ok_at T) (λ j. sym (and_assoc (span_ok T (j + 1)) _ _)) 0 (node_count T)

module _ (nodes ch nums names strings text : List ℕ) (ask : NodesAsks (tables nodes ch nums names strings text)) where
  pub entry_bound : (i : ℕ) → i < length ch → get_or ch i 0 ≤ 512
  entry_bound i lt =
      let e = from_zero (entry_ok (tables nodes ch nums names strings text)) (length ch) ask.entries i lt in
      let h = leb-true (child_at ch i) (length nodes / 5) (and_true (leb 1 (child_at ch i)) _ e).1 in
      let f = ask.few in
      omega arith

  module _ {a : Bool} (heads : a ≡ all_from (head_ok_at (tables nodes ch nums names strings text)) 0 (length nodes / 5)) where
    pub nodes_heads : not a ≡ true → false ≡ nodes_ok (tables nodes ch nums names strings text)
    unfolding nodes_ok
    nodes_heads t = rw (two_passes (tables nodes ch nums names strings text), told_no heads t)

    module _ (t : not a ≡ false) where
      pub heads_places : PlacesAsks nodes
      heads_places = record {
        few = ask.few;
        low = λ n low high i lt.
            let e : n - 1 + 1 ≡ n = omega arith in
            let ok : head_ok (tables nodes ch nums names strings text) n ≡ true = rw e at (from_zero (head_ok_at (tables nodes ch nums names strings text)) (length nodes / 5) (told_yes heads t) (n - 1) (omega arith)) in
            let h = head_place (tables nodes ch nums names strings text) n ok i lt in
            let s = ask.short in
            omega arith;
      }

      module _ {b : Bool} (once : b ≡ no_repeat ch) where
        pub nodes_twice : not b ≡ true → false ≡ nodes_ok (tables nodes ch nums names strings text)
        unfolding nodes_ok
        nodes_twice u = simp (told_no once u, and-false)

        module _ (u : not b ≡ false) {d : Bool} (apart : d ≡ no_repeat (used_places nodes 1 (length nodes / 5))) where
          pub nodes_shared : not d ≡ true → false ≡ nodes_ok (tables nodes ch nums names strings text)
          unfolding nodes_ok
          nodes_shared v = simp (told_no apart v, and-false)

          pub nodes_below : {e : Bool} → not d ≡ false → e ≡ all_from (children_below_at (tables nodes ch [] [] [] [])) 0 (length nodes / 5) → e ≡ nodes_ok (tables nodes ch nums names strings text)
          unfolding nodes_ok children_below
          nodes_below {e} v is = rw (two_passes (tables nodes ch nums names strings text), told_yes heads t, told_yes once u, told_yes apart v) (is ∙ sym (Bool.and-true _))

-- the rules
in_parts : (T : Tables) (s : Scope) → follows_rules T s ≡ (lists_ok T && (nodes_ok T && scope_ok T s))
unfolding follows_rules lists_ok nodes_ok
in_parts T s = simp and_assoc

module _ (nodes ch nums names strings text : List ℕ) where
  same_lists : lists_ok (tables nodes ch nums names [] text) ≡ lists_ok (tables nodes ch nums names strings text)
  unfolding lists_ok whole_records name_ok
  same_lists = refl

  same_scope_lem : (s : Scope) → scope_ok (tables [] [] [] names [] text) s ≡ scope_ok (tables nodes ch nums names strings text) s
  unfolding scope_ok
  same_scope_lem s = refl

  module _ (limits : within_limits (tables nodes ch nums names strings text) ≡ true) where
    pub names_few : length names / 2 ≤ 128
    names_few = (limits_of (tables nodes ch nums names strings text) limits).names

    module _ {a : Bool} (lists : a ≡ lists_ok (tables nodes ch nums names [] text)) where
      pub rules_lists : (s : Scope) → not a ≡ true → false ≡ follows_rules (tables nodes ch nums names strings text) s
      rules_lists s t = rw (in_parts (tables nodes ch nums names strings text) s, told_no (lists ∙ same_lists) t)

      module _ (t : not a ≡ false) where
        lists_pass : lists_ok (tables nodes ch nums names strings text) ≡ true
        lists_pass = told_yes (lists ∙ same_lists) t

        pub ask_nodes : NodesAsks (tables nodes ch nums names strings text)
        unfolding lists_ok
        ask_nodes =
            let w = and_true (whole_records (tables nodes ch nums names strings text)) _ lists_pass in
            let n = and_true (all_from (name_ok_at (tables nodes ch nums names strings text)) 0 (name_count (tables nodes ch nums names strings text))) _ w.1 in
            let m = and_true (all_from (number_ok (tables nodes ch nums names strings text)) 0 (number_count (tables nodes ch nums names strings text))) _ n.1 in
            record { few = (limits_of (tables nodes ch nums names strings text) limits).nodes; short = (limits_of (tables nodes ch nums names strings text) limits).children; entries = m.1 }

        module _ {b : Bool} (ok : b ≡ nodes_ok (tables nodes ch nums names strings text)) where
          pub rules_nodes : (s : Scope) → not b ≡ true → false ≡ follows_rules (tables nodes ch nums names strings text) s
          rules_nodes s u = rw (in_parts (tables nodes ch nums names strings text) s, lists_pass, told_no ok u)

          pub rules_scope : (s : Scope) {d : Bool} → not b ≡ false → d ≡ scope_ok (tables [] [] [] names [] text) s → d ≡ follows_rules (tables nodes ch nums names strings text) s
          rules_scope s u is = rw (in_parts (tables nodes ch nums names strings text) s, lists_pass, told_yes ok u, ← same_scope_lem s) is

-- the answers
module _ (nodes ch nums names strings text : List ℕ) (s : Scope) {a : Bool} (limits : a ≡ within_limits (tables nodes ch nums names strings text)) where
  pub answer_limit : not a ≡ true → TableAnswered (tables nodes ch nums names strings text) s (Err OverLimit)
  unfolding checked
  answer_limit t = record { answer = rw (told_no limits t) }

  module _ (t : not a ≡ false) {b : Bool} (rules : b ≡ follows_rules (tables nodes ch nums names strings text) s) where
    pub answer_rules : not b ≡ true → TableAnswered (tables nodes ch nums names strings text) s (Err BreaksRules)
    unfolding checked
    answer_rules u = record { answer = rw (told_yes limits t, told_no rules u) }

    module _ (u : not b ≡ false) where
      well : WellFormed (tables nodes ch nums names strings text)
      well = well_formed (tables nodes ch nums names strings text) s (told_yes limits t) (told_yes rules u)

      pub ask_depths : DepthsAsks nodes ch
      ask_depths = record { few = well.limits.nodes; below = λ n low high i lt. well.below n (record { low = low; high = high }) i lt }

      pub few_names : length names / 2 ≤ 128
      few_names = well.limits.names

      module _ {d : Bool} (deep : DepthsTold nodes ch (length nodes / 5) d) where
        told_shallow : d ≡ shallow (tables nodes ch nums names strings text)
        unfolding shallow
        told_shallow = deep.told (λ (n : ℕ). depth (expr (tables nodes ch nums names strings text) n)) (depths_of (tables nodes ch nums names strings text) well)

        pub answer_deep : not d ≡ true → TableAnswered (tables nodes ch nums names strings text) s (Err TooDeep)
        unfolding checked
        answer_deep v = record { answer = rw (told_yes limits t, told_yes rules u, told_no told_shallow v) }

        module _ (v : not d ≡ false) {e : Bool} (differ : e ≡ names_differ (tables [] [] [] names [] text)) where
          same_names : names_differ (tables [] [] [] names [] text) ≡ names_differ (tables nodes ch nums names strings text)
          unfolding names_differ
          same_names = refl

          pub answer_names : not e ≡ true → TableAnswered (tables nodes ch nums names strings text) s (Err EqualNames)
          unfolding checked
          answer_names w = record { answer = rw (told_yes limits t, told_yes rules u, told_yes told_shallow v, told_no (differ ∙ same_names) w) }

          pub answer_sound : not e ≡ false → TableAnswered (tables nodes ch nums names strings text) s (Ok tt)
          unfolding checked
          answer_sound w = record { answer = rw (told_yes limits t, told_yes rules u, told_yes told_shallow v, told_yes (differ ∙ same_names) w) }

-- an answer from its number
abbrev answer_in : Tested → Result Unit TableRefusal
answer_in passed = Ok tt
answer_in (refused r) = cond (eqb r.number 1) (Err OverLimit) (cond (eqb r.number 2) (Err BreaksRules) (cond (eqb r.number 3) (Err TooDeep) (Err EqualNames)))

back : (r : Result Unit TableRefusal) → answer_in (tested_of r) ≡ r
back (Ok tt) = refl
back (Err OverLimit) = refl
back (Err BreaksRules) = refl
back (Err TooDeep) = refl
back (Err EqualNames) = refl

pub table_laws : TableLaws
table_laws = record { settled = λ r q e. sym (back r) ∙ (ap answer_in e ∙ back q) }
