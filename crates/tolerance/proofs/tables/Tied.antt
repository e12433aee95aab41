-- The definitions on trees, of tables that a run does not refuse: the ranges are good where 32 does not refuse, and demand 3 holds of each choice.
use Prim.Native.Nat.{ℕ, zero, suc, ◌+◌, ◌-◌, ◌*◌, ◌≤◌}
use mathlib.Core.Path.{◌≡◌, refl, sym, ap, ◌∙◌}
use mathlib.Core.List.{List, [], ◌∷◌, ◌++◌}
use mathlib.Core.Bool.{Bool, true, false, cond, ◌||◌, not, false≢true}
use mathlib.Core.Option.{Option, none, some}
use native.Mathlib.Omega.{arith}
use borrow.Author.Tests.{eqb-true, eqb-false, leb-true}
use lib.Dec.{T as True, eqb, leb, eqb→eq}
use lib.ListN.{length, get_or}
use Rattle.literal.specs.Literal.{Literal, null, boolean, number, string, is_number}
use Rattle.base.specs.Lists.{part}
use Rattle.literal.specs.Reading.{literal_of, has_number as numberThere}
use Rattle.literal.specs.declared.LiteralRef.{LiteralRef}
use Rattle.literal.specs.declared.LiteralRef.TheVariants as Ref
use Rattle.literal.proofs.Numbers.{number_bounds}
use Rattle.scope.specs.declared.Scope.{Scope}
use Rattle.scope.specs.declared.ScopingMode.{ScopingMode}
use Rattle.scope.specs.Scope.{is_unbound}
use Rattle.table.specs.Tables.{Tables, kind_of, first_word_of, count_of, child_at, node_count, name_count, record_word}
use Rattle.table.specs.Expr as Expr
use Rattle.table.specs.Expr.{Expr, literal, name, wildcard, array, set, object, other, Exprs, item, Fields, done, field, parts, parts_all, parts_fields}
use Rattle.table.specs.Decode.{expr, expr_at, headed, items, fields, leaf_of, named_by, is_wildcard, literal_at, literal_node, literal_in, ref_of}
use Rattle.table.specs.declared.Key.{Key}
use Rattle.base.specs.Lists.{elem, all_from}
use Rattle.table.specs.code.Sound.{Node, Named, WellFormed}
use Rattle.table.proofs.tests.Scan.{all_at}
use Rattle.table.proofs.tests.Bools.{and_true}
use Rattle.table.proofs.trees.Lists.{elem_head, elem_tail, elem_left, elem_right}
use Rattle.table.proofs.trees.Forest.{forest}
use Rattle.planner.specs.Layout.{literal_key}
use Rattle.planner.specs.Simple.{mentions}
use Rattle.value.specs.Value.{Value, filled_field, value_of, values_of, value_fields_of}
use Rattle.value.proofs.Keys.{or_elim, both, is_true, true_is}
use Rattle.matching.specs.Matching.{pick_value, Asked}
use Rattle.run.specs.Operations.{listed_node, in_table, listed}
use Rattle.run.specs.code.Post.{RunAsks}
use Rattle.run.proofs.Running.{run_table, listed_value, asked}
use Rattle.tolerance.specs.Tolerance.{at_most}
use Rattle.tolerance.specs.Tolerance.{num, num_order, sign_word, is_allowed, has_number, has_number_any, has_number_under, Measured, in_value, in_name}
use Rattle.tolerance.specs.code.Trees.{literal_allowed, numbers_allowed, numbers_allowed_all, numbers_allowed_fields, EndsOk}
use Rattle.tolerance.specs.Promise.{Promised}
use Rattle.tolerance.specs.Operations.{is_number_in, end_at, ranges_in, range_ok, long_enough, listed_known, is_number_of, known_values, is_measured, ranges_ok}
use Rattle.tolerance.specs.code.Decision.{decision, names}
use Rattle.tolerance.proofs.trees.Demand.{promised}
use Rattle.planner.proofs.laws.Binders.{names_all}
use Rattle.report.proofs.Meeting.{mentioned}

-- 1. Two words that say a number give an allowed one.
pub allowed_words : (below size : ℕ) → is_number below size ≡ true → True (is_allowed (num (eqb below 1) size))
allowed_words below size e = go (eqb below 1) refl (number_bounds below size e).sign
  where
    go : (b : Bool) → eqb below 1 ≡ b → below ≤ 1 → True (is_number (sign_word b) size)
    go true q le = let z = eqb-true below 1 q in true_is (ap (λ (w : ℕ). is_number w size) (sym z) ∙ e)
    go false q le = let n = eqb-false below 1 q in let z : below ≡ 0 = omega (arith, n) in true_is (ap (λ (w : ℕ). is_number w size) (sym z) ∙ e)

-- 2. Every number of a table's expression is allowed.
leaf_allowed : (n : ℕ) (o : Option Literal) → ((l : Literal) → o ≡ some l → True (literal_allowed l)) → True (numbers_allowed (leaf_of n o))
unfolding numbers_allowed
leaf_allowed n none f = tt
leaf_allowed n (some l) f = f l refl

module _ (numbers strings text : List ℕ) where
  string_allowed : (b : Bool) (bs : List ℕ) (l : Literal) → cond b (some (string bs)) none ≡ some l → True (literal_allowed l)
  string_allowed true bs l e = let q : string bs ≡ l = cc in rw (← q) tt
  string_allowed false bs l e = absurd (false≢true (cc))

  number_allowed : (place : ℕ) (b : Bool) → numberThere numbers place ≡ b → (l : Literal) → cond b (some (number (eqb (get_or numbers (place * 2) 0) 1) (get_or numbers (place * 2 + 1) 0))) none ≡ some l → True (literal_allowed l)
  number_allowed place true h l e =
      let q : number (eqb (get_or numbers (place * 2) 0) 1) (get_or numbers (place * 2 + 1) 0) ≡ l = cc in
      let w = (and_true (leb (place * 2 + 2) (length numbers)) (is_number (get_or numbers (place * 2) 0) (get_or numbers (place * 2 + 1) 0)) h).1 in
      rw (← q) (allowed_words (get_or numbers (place * 2) 0) (get_or numbers (place * 2 + 1) 0) w)
  number_allowed place false h l e = absurd (false≢true (cc))

  ref_allowed : (r : LiteralRef) (l : Literal) → literal_of numbers strings text r ≡ some l → True (literal_allowed l)
  unfolding literal_of
  ref_allowed Ref.Null l e = let q : null ≡ l = cc in rw (← q) tt
  ref_allowed Ref.False l e = let q : boolean false ≡ l = cc in rw (← q) tt
  ref_allowed Ref.True l e = let q : boolean true ≡ l = cc in rw (← q) tt
  ref_allowed (Ref.Number place) l e = number_allowed place (numberThere numbers place) refl l e
  ref_allowed (Ref.String first count) l e = string_allowed (leb (first + count) (length strings)) (part strings first count) l e
  ref_allowed (Ref.RawString first count) l e = string_allowed (leb (first + count) (length text)) (part text first count) l e

  key_allowed : (k : Key) (l : Literal) → literal_in numbers strings text k ≡ some l → True (literal_allowed l)
  key_allowed Key.Computed l e = absurd (false≢true (cc))
  key_allowed (Key.Literal r) l e = ref_allowed r l e

items_allowed : (g : ℕ → Expr) (ch : List ℕ) → ((m : ℕ) → True (numbers_allowed (g m))) → (at k : ℕ) → True (numbers_allowed_all (items g ch at k))
unfolding items numbers_allowed
items_allowed g ch f at zero = tt
items_allowed g ch f at (suc k) = both (numbers_allowed (g (child_at ch at))) (numbers_allowed_all (items g ch (at + 1) k)) (f (child_at ch at)) (items_allowed g ch f (at + 1) k)

fields_allowed : (g : ℕ → Expr) (ch : List ℕ) → ((m : ℕ) → True (numbers_allowed (g m))) → (at k : ℕ) → True (numbers_allowed_fields (fields g ch at k))
unfolding fields numbers_allowed
fields_allowed g ch f at zero = tt
fields_allowed g ch f at (suc k) = both (numbers_allowed (g (child_at ch (at + 1)))) (numbers_allowed_fields (fields g ch (at + 2) k)) (f (child_at ch (at + 1))) (fields_allowed g ch f (at + 2) k)

headed_allowed : (T : Tables) (n : ℕ) (es : Exprs) (fs : Fields) → True (numbers_allowed_all es) → True (numbers_allowed_fields fs) → True (numbers_allowed (headed T n es fs))
unfolding headed numbers_allowed literal_node
headed_allowed T n es fs a b = go (eqb (kind_of T.nodes n) 6) (eqb (kind_of T.nodes n) 7) (eqb (kind_of T.nodes n) 8) (eqb (kind_of T.nodes n) 9)
  where
    named : (w : Bool) → True (numbers_allowed (named_by w n (first_word_of T.nodes n)))
    named true = tt
    named false = tt

    go : (i j k l : Bool) → True (numbers_allowed (cond i (named_by (is_wildcard T (first_word_of T.nodes n)) n (first_word_of T.nodes n)) (cond j (array n es) (cond k (set n es) (cond l (object n fs) (leaf_of n (literal_at T n)))))))
    go true j k l = named (is_wildcard T (first_word_of T.nodes n))
    go false true k l = a
    go false false true l = tt
    go false false false true = b
    go false false false false = leaf_allowed n (literal_at T n) (λ l e. key_allowed T.numbers T.strings T.text (ref_of T.nodes n) l e)

all_allowed : (T : Tables) (fuel n : ℕ) → True (numbers_allowed (expr_at T fuel n))
unfolding expr_at numbers_allowed
all_allowed T zero n = tt
all_allowed T (suc fuel) n =
    headed_allowed T n (items (expr_at T fuel) T.children (first_word_of T.nodes n) (count_of T.nodes n)) (fields (expr_at T fuel) T.children (first_word_of T.nodes n) (count_of T.nodes n))
    (items_allowed (expr_at T fuel) T.children (λ m. all_allowed T fuel m) (first_word_of T.nodes n) (count_of T.nodes n))
    (fields_allowed (expr_at T fuel) T.children (λ m. all_allowed T fuel m) (first_word_of T.nodes n) (count_of T.nodes n))

pub pattern_allowed : (T : Tables) (n : ℕ) → True (numbers_allowed (expr T n))
unfolding expr
pattern_allowed T n = all_allowed T n n

-- 3. No name of a table's expression is `_`.
pub not_wildcard : (T : Tables) → WellFormed T → (n : ℕ) → Node T n → (x : ℕ) → True (mentions x (expr T n)) → is_wildcard T x ≡ false
not_wildcard T w n v x t = mentioned (λ y. is_wildcard T y ≡ false) (expr T n) (names_all T w (λ m y. is_wildcard T y ≡ false) (λ m z k h. h) n v) x t

-- 4. A number node of a value is one of its parts, so a node of the table.
module _ (n : ℕ) where
  mutual
    unfolding has_number value_of parts

    number_part : (e : Expr) → True (has_number n (value_of e)) → elem n (parts e) ≡ true
    number_part (literal m l) t = leaf l t
      where
        leaf : (l : Literal) → True (has_number n (value_of (literal m l))) → elem n (m ∷ []) ≡ true
        leaf null t = absurd t
        leaf (boolean b) t = absurd t
        leaf (number s k) t = elem_head n m [] (eqb→eq n m t)
        leaf (string bs) t = absurd t
    number_part (name m x) t = absurd t
    number_part (wildcard m) t = absurd t
    number_part (array m es) t = elem_tail n m (parts_all es) (number_parts es t)
    number_part (set m es) t = absurd t
    number_part (object m fs) t = elem_tail n m (parts_fields fs) (number_fields fs t)
    number_part (other m) t = absurd t

    number_parts : (es : Exprs) → True (has_number_any n (values_of es)) → elem n (parts_all es) ≡ true
    number_parts Expr.none t = absurd t
    number_parts (item e es) t = or_elim (has_number n (value_of e)) (has_number_any n (values_of es)) t (λ h. elem_left n (parts e) (parts_all es) (number_part e h)) (λ h. elem_right n (parts e) (parts_all es) (number_parts es h))

    number_fields : (fs : Fields) → True (has_number_under n (value_fields_of fs)) → elem n (parts_fields fs) ≡ true
    number_fields done t = absurd t
    number_fields (field k v fs) t = elem_right n (parts k) (parts v ++ parts_fields fs) (go (literal_key k) t (λ h. number_part v h) (λ h. number_fields fs h))
      where
        go : (κ : Option Literal) → True (has_number_under n (filled_field κ (value_of v) (value_fields_of fs))) → (True (has_number n (value_of v)) → elem n (parts v) ≡ true) → (True (has_number_under n (value_fields_of fs)) → elem n (parts_fields fs) ≡ true) → elem n (parts v ++ parts_fields fs) ≡ true
        go (some l) t f g = or_elim (has_number n (value_of v)) (has_number_under n (value_fields_of fs)) t (λ h. elem_left n (parts v) (parts_fields fs) (f h)) (λ h. elem_right n (parts v) (parts_fields fs) (g h))
        go none t f g = elem_right n (parts v) (parts_fields fs) (g t)

number_node_lem : (T : Tables) → WellFormed T → (m n : ℕ) → Node T m → True (has_number n (value_of (expr T m))) → Node T n
number_node_lem T w m n v t =
    let b = (forest T w m v).within n (number_part n (expr T m) t) in
    let h = v.high in
    record { low = b.0; high = omega arith }

-- 5. Of a run that nothing up to 23 refuses.
module _ {T : Tables} {s : Scope} {mode : ScopingMode} {pattern value : ℕ} {values : List ℕ} (a : RunAsks T s mode pattern value values) where
  abbrev unbound : ℕ → Bool
  unbound = is_unbound s mode

  abbrev v : Value
  v = value_of (expr T value)

  -- a known name's value stands at its listed node
  record At (x : ℕ) (w : Value) : Type 0 where
    pub named : Named T x
    pub node : Node T (listed_node values x)
    pub is : value_of (expr T (listed_node values x)) ≡ w

  known_at : (x : ℕ) (w : Value) → known_values T s mode values x ≡ some w → At x w
  known_at x w e = go (unbound x) (is_wildcard T x) (in_table T x) refl (eqb (listed_node values x) 0) refl e
    where
      go : (u c b : Bool) → in_table T x ≡ b → (z : Bool) → eqb (listed_node values x) 0 ≡ z → pick_value u none (cond c none (cond b (cond z none (some (value_of (expr T (listed_node values x))))) none)) ≡ some w → At x w
      go true c b n z q e = absurd (false≢true (cc))
      go false true b n z q e = absurd (false≢true (cc))
      go false false false n z q e = absurd (false≢true (cc))
      go false false true n true q e = absurd (false≢true (cc))
      go false false true n false q e =
          let p = and_true (leb 1 x) (leb x (name_count T)) n in
          let named : Named T x = record { low = leb-true 1 x p.0; high = leb-true x (name_count T) p.1 } in
          record { named = named; node = (listed_value a x named (eqb-false (listed_node values x) 0 q)).node; is = cc }

  pub measured_node : (n : ℕ) → Measured v (known_values T s mode values) n → Node T n
  measured_node n (in_value t) = number_node_lem T (run_table a) value n a.value_node_lem t
  measured_node n (in_name x w e t) = let k = known_at x w e in let q = k.is in number_node_lem T (run_table a) (listed_node values x) n k.node (rw q t)

  -- the test finds each of them
  pub measured_told : (n : ℕ) → Measured v (known_values T s mode values) n → is_measured T s mode value values n ≡ true
  unfolding is_measured
  measured_told n (in_value t) = let e : has_number n v ≡ true = is_true t in rw e
  measured_told n (in_name x w e t) = go (all_from (λ y. not (is_number_of n (known_values T s mode values y))) 1 (name_count T)) refl
    where
      right : (b : Bool) → (b || true) ≡ true
      right true = refl
      right false = refl

      go : (b : Bool) → all_from (λ y. not (is_number_of n (known_values T s mode values y))) 1 (name_count T) ≡ b → (has_number n v || not b) ≡ true
      go false q = right (has_number n v)
      go true q =
          let k = known_at x w e in
          let low = k.named.low in
          let high = k.named.high in
          let z : 1 + (x - 1) ≡ x = omega arith in
          let h = all_at (λ y. not (is_number_of n (known_values T s mode values y))) 1 (name_count T) q (x - 1) (omega arith) in
          let i : not (is_number_of n (known_values T s mode values x)) ≡ true = ap (λ (y : ℕ). not (is_number_of n (known_values T s mode values y))) (sym z) ∙ h in
          let j : is_number_of n (known_values T s mode values x) ≡ true = ap (is_number_of n) e ∙ is_true t in
          absurd (false≢true (sym (ap not j) ∙ i))

  -- where 32 does not refuse, the ranges are good
  module _ (lows highs : List ℕ) (ok : ranges_ok T s mode value values lows highs ≡ true) where
    pub in_range : (n : ℕ) → Measured v (known_values T s mode values) n → range_ok lows highs n ≡ true
    unfolding ranges_ok
    in_range n m =
        let o = (and_true (long_enough T lows) _ ok).1 in
        let all = (and_true (long_enough T highs) (all_from (λ k. not (is_measured T s mode value values k) || range_ok lows highs k) 1 (node_count T)) o).1 in
        let k = measured_node n m in
        let low = k.low in
        let high = k.high in
        let z : 1 + (n - 1) ≡ n = omega arith in
        let h = all_at (λ k. not (is_measured T s mode value values k) || range_ok lows highs k) 1 (node_count T) all (n - 1) (omega arith) in
        let i : (not (is_measured T s mode value values n) || range_ok lows highs n) ≡ true = ap (λ (y : ℕ). not (is_measured T s mode value values y) || range_ok lows highs y) (sym z) ∙ h in
        let t = measured_told n m in
        rw t at i

    pub ranges_good : EndsOk v (known_values T s mode values) (ranges_in lows highs)
    ranges_good = record {
      lowest_allowed = λ n m. allowed_words (record_word 2 0 lows n) (record_word 2 1 lows n) (and_true (is_number_in lows n) _ (in_range n m)).0;
      highest_allowed = λ n m. allowed_words (record_word 2 0 highs n) (record_word 2 1 highs n) (and_true (is_number_in highs n) _ (and_true (is_number_in lows n) _ (in_range n m)).1).0;
      ordered = λ n m. true_is (and_true (is_number_in highs n) (at_most num_order (end_at lows n) (end_at highs n)) (and_true (is_number_in lows n) _ (in_range n m)).1).1;
    }

    -- the run's own promise is asked of the values of known names; `_` is none of the pattern's names
    pub known_asked : Asked unbound (listed_known T values) (expr T pattern) v
    known_asked = record {
      is_simple = (asked a).is_simple;
      value_proper_lem = (asked a).value_proper_lem;
      list_proper = λ x w e. (asked a).list_proper x w (listed_of x w (is_wildcard T x) e);
      known_listed = λ x m k. let (w, q) = (asked a).known_listed x m k in let n = not_wildcard T (run_table a) pattern a.pattern_node x m in (w, ap (λ (b : Bool). cond b none (listed T values x)) n ∙ q);
    }
      where
        listed_of : (x : ℕ) (w : Value) (b : Bool) → cond b none (listed T values x) ≡ some w → listed T values x ≡ some w
        listed_of x w true e = absurd (false≢true (cc))
        listed_of x w false e = e

    -- Demand 3 of each choice, for tables.
    pub tolerance_promised : Promised unbound (listed_known T values) (expr T pattern) v (ranges_in lows highs) (decision T s mode pattern value values lows highs) (names T s mode pattern value values lows highs)
    tolerance_promised = promised unbound (listed_known T values) (expr T pattern) v known_asked (ranges_in lows highs) (pattern_allowed T pattern) ranges_good
