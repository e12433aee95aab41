-- The entries of a simple pattern's plan say that plan, so carrying them out by their positions is the run of the plan.
use Prim.Native.Nat.{ℕ, zero, suc, ◌+◌, ◌*◌, ◌≤◌, ◌<◌}
use mathlib.Core.Path.{◌≡◌, refl, ap, ◌∙◌}
use mathlib.Core.List.{List, [], ◌∷◌, ◌++◌, append-nil}
use mathlib.Core.Bool.{Bool, true, false, cond}
use native.Mathlib.Omega.{arith}
use Rattle.table.specs.Tables.{Tables, kind_of, first_word_of, count_of, child_at}
use Rattle.table.specs.Decode.{expr, items, fields, fields_of}
use Rattle.table.specs.Expr.{Expr, name, object, Fields, done, field}
use Rattle.table.specs.code.Sound.{Node, WellFormed}
use Rattle.table.proofs.tests.Bools.{and_true}
use Rattle.table.proofs.trees.Trees.{child_node, width_array, width_object}
use Rattle.planner.specs.Plan.{var, equality_expr, fresh, plan, plans, field_plans, after}
use Rattle.planner.specs.Layout.{Entry, Place, entries, literal_key}
use Rattle.planner.specs.Simple.{differing, add_key, keys_of, admitted, simple, simple_fields}
use Rattle.planner.proofs.fields.Objects.{node_of_lem}
use Rattle.value.specs.Value.{Value}
use Rattle.value.proofs.Admitted.{array_item, object_value}
use Rattle.matching.specs.Matching.{Env, plan_keys, run}
use Rattle.matching.proofs.Patterns.{PatternShape, pattern_literal, pattern_wildcard, pattern_name, pattern_array, pattern_object, pattern_shape}
use Rattle.matching.specs.Reading.{standing, plans_read, run_first, run_entries}
use Rattle.matching.proofs.reading.ReadBack.{Told, ToldAll, ToldFields, read_back}

pub plan_keys_lem : (u : ℕ → Bool) (fs : Fields) (seen : List ℕ) → plan_keys (field_plans u fs seen) ≡ keys_of fs
unfolding plan_keys plan keys_of
plan_keys_lem u done seen = refl
plan_keys_lem u (field k v fs) seen = ap (add_key (literal_key k)) (plan_keys_lem u fs (after u v seen))

module _ (T : Tables) (w : WellFormed T) (u : ℕ → Bool) where
  items_told : (at k : ℕ) (seen : List ℕ) → ((i : ℕ) → i < k → (s : List ℕ) → Told (expr T) (plan u (expr T (child_at T.children (at + i))) s))
      → ToldAll (expr T) (plans u (items (expr T) T.children at k) seen)
  unfolding items plan
  items_told at zero seen each = tt
  items_told at (suc k) seen each =
      let z : at + 0 ≡ at = omega arith in
      let later : List ℕ = after u (expr T (child_at T.children at)) seen in
      (rw z at (each 0 (omega arith) seen), items_told (at + 1) k later (λ i lt s. let e : at + (i + 1) ≡ at + 1 + i = omega arith in rw e at (each (i + 1) (omega arith) s)))

  fields_told : (at k : ℕ) (seen : List ℕ) → ((i : ℕ) → i < k → Node T (child_at T.children (at + i * 2))) → ((i : ℕ) → i < k → (s : List ℕ) → Told (expr T) (plan u (expr T (child_at T.children (at + i * 2 + 1))) s))
      → ToldFields (expr T) (field_plans u (fields (expr T) T.children at k) seen)
  unfolding fields plan
  fields_told at zero seen keys each = tt
  fields_told at (suc k) seen keys each =
      let z : at + 0 * 2 ≡ at = omega arith in
      let v : Node T (child_at T.children at) = rw z at (keys 0 (omega arith)) in
      let later : List ℕ = after u (expr T (child_at T.children (at + 1))) seen in (
        ap (expr T) (node_of_lem T w (child_at T.children at) v),
        (
          rw z at (each 0 (omega arith) seen),
          fields_told (at + 2) k later (λ i lt. let e : at + suc i * 2 ≡ at + 2 + i * 2 = omega arith in rw e at (keys (suc i) (omega arith)))
              (λ i lt s. let e : at + suc i * 2 ≡ at + 2 + i * 2 = omega arith in rw e at (each (suc i) (omega arith) s)),
        ),
      )

  told_to : (fuel n : ℕ) → Node T n → n ≤ fuel → simple (expr T n) ≡ true → (seen : List ℕ) → Told (expr T) (plan u (expr T n) seen)
  unfolding plan admitted
  told_to zero n v le is seen = let l = v.low in absurd (omega arith)
  told_to (suc fuel) n v le is seen =
      let s = pattern_shape T w n v is in
      go s.0 s.1 s.2 (rw s.1 at is)
      (λ k i lt. let wide = width_array (kind_of T.nodes n) (count_of T.nodes n) k in let below = w.below n v i (omega arith) in
      told_to fuel (child_at T.children (first_word_of T.nodes n + i)) (child_node T w n v i (omega arith)) (omega arith)
      (array_item T w n v true is k i lt))
      (λ k i lt. let wide = width_object (kind_of T.nodes n) (count_of T.nodes n) k in child_node T w n v (i * 2) (omega arith))
      (λ k i lt. let wide = width_object (kind_of T.nodes n) (count_of T.nodes n) k in let below = w.below n v (i * 2 + 1) (omega arith) in
      let e : first_word_of T.nodes n + (i * 2 + 1) ≡ first_word_of T.nodes n + i * 2 + 1 = omega arith in
      told_to fuel (child_at T.children (first_word_of T.nodes n + i * 2 + 1)) (rw e at (child_node T w n v (i * 2 + 1) (omega arith))) (let q = ap (λ (p : ℕ). child_at T.children p) e in omega arith)
      (object_value T w n v true is k i lt))
    where
      named : (x : ℕ) → expr T n ≡ name n x → (c : Bool) → Told (expr T) (cond c (var n x) (equality_expr (name n x)))
      named x q true = rw q refl
      named x q false = q

      go : (e : Expr) → expr T n ≡ e → PatternShape T n e → simple e ≡ true
          → (kind_of T.nodes n ≡ 7 → (i : ℕ) → i < count_of T.nodes n → (s : List ℕ) → Told (expr T) (plan u (expr T (child_at T.children (first_word_of T.nodes n + i))) s))
          → (kind_of T.nodes n ≡ 9 → (i : ℕ) → i < count_of T.nodes n → Node T (child_at T.children (first_word_of T.nodes n + i * 2)))
          → (kind_of T.nodes n ≡ 9 → (i : ℕ) → i < count_of T.nodes n → (s : List ℕ) → Told (expr T) (plan u (expr T (child_at T.children (first_word_of T.nodes n + i * 2 + 1))) s))
          → Told (expr T) (plan u (expr T n) seen)
      go e q (pattern_literal l h) is' arrays keys objects = rw q (ap literal_key q)
      go e q (pattern_wildcard h) is' arrays keys objects = rw q tt
      go e q (pattern_name h) is' arrays keys objects = rw q (named (first_word_of T.nodes n) q (fresh u seen (first_word_of T.nodes n)))
      go e q (pattern_array h) is' arrays keys objects = rw q (items_told (first_word_of T.nodes n) (count_of T.nodes n) seen (arrays h))
      go e q (pattern_object h) is' arrays keys objects =
          rw q (
            ap differing (plan_keys_lem u (fields_of T n) seen) ∙ object_differs (fields_of T n) is',
            fields_told (first_word_of T.nodes n) (count_of T.nodes n) seen (keys h) (objects h),
          )
        where
          object_differs : (fs : Fields) → simple (object n fs) ≡ true → differing (keys_of fs) ≡ true
          object_differs fs i = (and_true (differing (keys_of fs)) (simple_fields fs) i).0

  module _ (n : ℕ) (v : Node T n) (is : simple (expr T n) ≡ true) (seen : List ℕ) where
    pub plan_told : Told (expr T) (plan u (expr T n) seen)
    plan_told = told_to n n v (omega arith) is seen

    -- laid out and read back, a simple pattern's plan is itself, whatever entries stand behind it
    pub plan_read_lem : (place : Place) (rest : List Entry) → plans_read (expr T) (entries (plan u (expr T n) seen) place ++ rest) ≡ standing (plan u (expr T n) seen) place ∷ plans_read (expr T) rest
    plan_read_lem place rest = read_back (expr T) (plan u (expr T n) seen) plan_told place rest

    -- carrying the entries out is the run of the plan
    pub run_read : (place : Place) (rest : List Entry) (value : Value) (env : Env) → run_entries (expr T) (entries (plan u (expr T n) seen) place ++ rest) value env ≡ run (plan u (expr T n) seen) value env
    run_read place rest value env = ap (λ ps. run_first (expr T) ps value env) (plan_read_lem place rest)

    pub run_whole : (place : Place) (value : Value) (env : Env) → run_entries (expr T) (entries (plan u (expr T n) seen) place) value env ≡ run (plan u (expr T n) seen) value env
    run_whole place value env = rw (append-nil (entries (plan u (expr T n) seen) place)) at (run_read place [] value env)
