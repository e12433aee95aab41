-- 32 by a walk over the values: every number of the value, and of each known name's value, has a good range.
use Prim.Native.Nat.{ℕ, ◌+◌, ◌-◌}
use mathlib.Core.Path.{◌≡◌, refl, sym, ap, ◌∙◌}
use mathlib.Core.List.{List}
use mathlib.Core.Bool.{Bool, true, false, ◌&&◌, ◌||◌, not}
use mathlib.Core.Option.{Option, none, some}
use native.Mathlib.Omega.{arith}
use lib.Dec.{T as True, eqb→eq, eqb_refl}
use Rattle.literal.specs.Literal.{Literal, null, boolean, number, string}
use Rattle.scope.specs.declared.Scope.{Scope}
use Rattle.scope.specs.declared.ScopingMode.{ScopingMode}
use Rattle.table.specs.Tables.{Tables, node_count, name_count}
use Rattle.table.specs.Decode.{expr}
use Rattle.base.specs.Lists.{all_from}
use Rattle.table.proofs.tests.Scan.{all_at, all_of}
use Rattle.value.specs.Value.{Value, literalᵛ, arrayᵛ, objectᵛ, Values, noneᵛ, itemᵛ, ValueFields, doneᵛ, fieldᵛ, value_of}
use Rattle.value.proofs.Keys.{and_left, and_right, both, or_left, or_right, or_elim, is_true, true_is}
use Rattle.run.specs.code.Post.{RunAsks}
use Rattle.tolerance.specs.Tolerance.{has_number, has_number_any, has_number_under, Measured, in_value, in_name}
use Rattle.tolerance.specs.Operations.{range_ok, long_enough, is_number_of, known_values, is_measured, ranges_ok}
use Rattle.tolerance.specs.code.Decision.{every_number, every_number_all, every_number_under, every_number_of}
use Rattle.tolerance.proofs.tables.Tied.{measured_node, measured_told}

module _ (p : ℕ → Bool) where
  mutual
    unfolding every_number has_number

    -- what holds of every number holds of each
    every_at : (v : Value) → True (every_number p v) → (n : ℕ) → True (has_number n v) → True (p n)
    every_at (literalᵛ m l) t n h = leaf l t h
      where
        leaf : (l : Literal) → True (every_number p (literalᵛ m l)) → True (has_number n (literalᵛ m l)) → True (p n)
        leaf null t h = absurd h
        leaf (boolean b) t h = absurd h
        leaf (number s k) t h = let e : n ≡ m = eqb→eq n m h in rw e t
        leaf (string bs) t h = absurd h
    every_at (arrayᵛ m vs) t n h = every_all vs t n h
    every_at (objectᵛ m fs) t n h = every_under fs t n h

    every_all : (vs : Values) → True (every_number_all p vs) → (n : ℕ) → True (has_number_any n vs) → True (p n)
    every_all noneᵛ t n h = absurd h
    every_all (itemᵛ v vs) t n h = or_elim (has_number n v) (has_number_any n vs) h (λ g. every_at v (and_left (every_number p v) (every_number_all p vs) t) n g) (λ g. every_all vs (and_right (every_number p v) (every_number_all p vs) t) n g)

    every_under : (fs : ValueFields) → True (every_number_under p fs) → (n : ℕ) → True (has_number_under n fs) → True (p n)
    every_under doneᵛ t n h = absurd h
    every_under (fieldᵛ k v fs) t n h = or_elim (has_number n v) (has_number_under n fs) h (λ g. every_at v (and_left (every_number p v) (every_number_under p fs) t) n g) (λ g. every_under fs (and_right (every_number p v) (every_number_under p fs) t) n g)

  mutual
    unfolding every_number has_number

    -- and the other way
    each_every : (v : Value) → ((n : ℕ) → True (has_number n v) → True (p n)) → True (every_number p v)
    each_every (literalᵛ m l) f = leaf l f
      where
        leaf : (l : Literal) → ((n : ℕ) → True (has_number n (literalᵛ m l)) → True (p n)) → True (every_number p (literalᵛ m l))
        leaf null f = tt
        leaf (boolean b) f = tt
        leaf (number s k) f = f m (eqb_refl m)
        leaf (string bs) f = tt
    each_every (arrayᵛ m vs) f = each_all vs f
    each_every (objectᵛ m fs) f = each_under fs f

    each_all : (vs : Values) → ((n : ℕ) → True (has_number_any n vs) → True (p n)) → True (every_number_all p vs)
    each_all noneᵛ f = tt
    each_all (itemᵛ v vs) f = both (every_number p v) (every_number_all p vs) (each_every v (λ n h. f n (or_left (has_number n v) (has_number_any n vs) h))) (each_all vs (λ n h. f n (or_right (has_number n v) (has_number_any n vs) h)))

    each_under : (fs : ValueFields) → ((n : ℕ) → True (has_number_under n fs) → True (p n)) → True (every_number_under p fs)
    each_under doneᵛ f = tt
    each_under (fieldᵛ k v fs) f = both (every_number p v) (every_number_under p fs) (each_every v (λ n h. f n (or_left (has_number n v) (has_number_under n fs) h))) (each_under fs (λ n h. f n (or_right (has_number n v) (has_number_under n fs) h)))

both_ways : (a b : Bool) → (True a → True b) → (True b → True a) → a ≡ b
both_ways true true f g = refl
both_ways true false f g = absurd (f tt)
both_ways false true f g = absurd (g tt)
both_ways false false f g = refl

module _ {T : Tables} {s : Scope} {mode : ScopingMode} {pattern value : ℕ} {values : List ℕ} (a : RunAsks T s mode pattern value values) (p : ℕ → Bool) where
  abbrev by_nodes : Bool
  by_nodes = all_from (λ n. not (is_measured T s mode value values n) || p n) 1 (node_count T)

  abbrev by_values : Bool
  by_values = every_number p (value_of (expr T value)) && all_from (λ x. every_number_of p (known_values T s mode values x)) 1 (name_count T)

  -- each measured node, from the walk by nodes
  at_node : True by_nodes → (n : ℕ) → Measured (value_of (expr T value)) (known_values T s mode values) n → True (p n)
  at_node t n m =
      let k = measured_node a n m in
      let low = k.low in
      let high = k.high in
      let z : 1 + (n - 1) ≡ n = omega arith in
      let h = all_at (λ k. not (is_measured T s mode value values k) || p k) 1 (node_count T) (is_true t) (n - 1) (omega arith) in
      let i : (not (is_measured T s mode value values n) || p n) ≡ true = ap (λ (y : ℕ). not (is_measured T s mode value values y) || p y) (sym z) ∙ h in
      let e = measured_told a n m in
      true_is (rw e at i)

  of_known : (x : ℕ) → ((w : Value) → known_values T s mode values x ≡ some w → True (every_number p w)) → every_number_of p (known_values T s mode values x) ≡ true
  of_known x f = go (known_values T s mode values x) refl
    where
      go : (o : Option Value) → known_values T s mode values x ≡ o → every_number_of p o ≡ true
      go none e = refl
      go (some w) e = is_true (f w e)

  to_values : True by_nodes → True by_values
  to_values t = both (every_number p (value_of (expr T value))) (all_from (λ x. every_number_of p (known_values T s mode values x)) 1 (name_count T))
      (each_every p (value_of (expr T value)) (λ n h. at_node t n (in_value h)))
      (true_is (all_of (λ x. every_number_of p (known_values T s mode values x)) 1 (name_count T) (λ j lt. of_known (1 + j) (λ w e. each_every p w (λ n h. at_node t n (in_name (1 + j) w e h))))))

  -- a node is measured only by the value or by a known name
  to_nodes : True by_values → True by_nodes
  unfolding is_measured
  to_nodes t = true_is (all_of (λ n. not (is_measured T s mode value values n) || p n) 1 (node_count T) (λ j lt. at (1 + j) (has_number (1 + j) (value_of (expr T value))) refl (all_from (λ x. not (is_number_of (1 + j) (known_values T s mode values x))) 1 (name_count T)) refl))
    where
      here : True (every_number p (value_of (expr T value)))
      here = and_left (every_number p (value_of (expr T value))) (all_from (λ x. every_number_of p (known_values T s mode values x)) 1 (name_count T)) t

      names : all_from (λ x. every_number_of p (known_values T s mode values x)) 1 (name_count T) ≡ true
      names = is_true (and_right (every_number p (value_of (expr T value))) (all_from (λ x. every_number_of p (known_values T s mode values x)) 1 (name_count T)) t)

      -- unless p holds of n, no known name's value has it
      absent : (n : ℕ) → p n ≡ false → (o : Option Value) → every_number_of p o ≡ true → not (is_number_of n o) ≡ true
      absent n f none e = refl
      absent n f (some w) e = by (has_number n w) refl
        where
          by : (b : Bool) → has_number n w ≡ b → not b ≡ true
          by true q = let h : True (p n) = every_at p w (true_is e) n (true_is q) in absurd (rw f at h)
          by false q = refl

      at : (n : ℕ) (b : Bool) → has_number n (value_of (expr T value)) ≡ b → (d : Bool) → all_from (λ x. not (is_number_of n (known_values T s mode values x))) 1 (name_count T) ≡ d → (not (b || not d) || p n) ≡ true
      at n true q d r = is_true (every_at p (value_of (expr T value)) here n (true_is q))
      at n false q true r = refl
      at n false q false r = by (p n) refl
        where
          by : (c : Bool) → p n ≡ c → c ≡ true
          by true e = refl
          by false e = sym r ∙ all_of (λ x. not (is_number_of n (known_values T s mode values x))) 1 (name_count T) (λ j lt. absent n e (known_values T s mode values (1 + j)) (all_at (λ x. every_number_of p (known_values T s mode values x)) 1 (name_count T) names j lt))

  pub by_values_lem : by_nodes ≡ by_values
  by_values_lem = both_ways by_nodes by_values to_values to_nodes

-- the walk over values is 32's test
pub ranges_by_values : {T : Tables} {s : Scope} {mode : ScopingMode} {pattern value : ℕ} {values : List ℕ} → RunAsks T s mode pattern value values → (lows highs : List ℕ)
    → ranges_ok T s mode value values lows highs ≡ (long_enough T lows && (long_enough T highs && (every_number (range_ok lows highs) (value_of (expr T value)) && all_from (λ x. every_number_of (range_ok lows highs) (known_values T s mode values x)) 1 (name_count T))))
unfolding ranges_ok
ranges_by_values {T} a lows highs = ap (λ (b : Bool). long_enough T lows && (long_enough T highs && b)) (by_values_lem a (range_ok lows highs))
