-- A pattern's node, or a value's, and a value's node: what is held after they met, by their kinds.
use Prim.Native.Nat.{ℕ, zero, suc, ◌+◌, ◌-◌, ◌*◌, ◌≤◌, ◌<◌}
use mathlib.Core.Path.{◌≡◌, refl, sym, ap, ap₂, ◌∙◌}
use mathlib.Core.List.{List, [], ◌∷◌}
use mathlib.Core.Bool.{Bool, true, false, cond, ◌&&◌, not, false≢true}
use mathlib.Core.Option.{Option, none, some}
use native.Mathlib.Omega.{arith}
use mir.Val.{Fits}
use mir.Syntax.{w64}
use borrow.Author.Tests.{ne_eqb, eqb-true, not-true, not-false}
use lib.Dec.{T as True, eqb, leb}
use lib.ListN.{length, get_or, set as set_at}
use Rattle.literal.specs.Literal.{Literal, null, boolean, number, string}
use Rattle.literal.specs.Order.{key_order}
use Rattle.literal.specs.Reading.{literal_of, has_number as numberThere}
use Rattle.literal.specs.declared.LiteralRef.TheVariants as Ref
use Rattle.base.specs.Lists.{part}
use Rattle.std.specs.Prelude.{Some, None}
use Rattle.std.specs.Prelude as Prelude
use Rattle.table.specs.Tables.{Tables, kind_of, first_word_of, count_of, child_at}
use Rattle.table.specs.Decode.{expr, items, fields, literal_at, literal_node, literal_in, ref_of, ref_by, fields_of, is_wildcard, named_by}
use Rattle.table.specs.declared.Key.{Key}
use Rattle.table.specs.Expr as Expr
use Rattle.table.specs.Expr.{Expr, literal, name, wildcard, array, set, object, other, Exprs, item, Fields, done, field}
use Rattle.table.specs.code.Sound.{Node, WellFormed}
use Rattle.table.proofs.tests.Bools.{and_true}
use Rattle.table.proofs.trees.Trees.{expr_literal, expr_array, expr_object, expr_name, width_array, width_object}
use Rattle.planner.specs.Layout.{literal_key}
use Rattle.planner.specs.code.Passes.{value_node}
use Rattle.planner.specs.code.Post.{NameNumber}
use Rattle.planner.specs.Simple.{same_key, has_key, differing, add_key, keys_of, is_literal, admitted, admitted_all, admitted_fields}
use Rattle.planner.proofs.fields.Objects.{key_literal}
use Rattle.value.specs.Value.{Value, ValueFields, value_of, values_of, value_fields_of, value_at, keysᵛ, under, within, same_key_sets}
use Rattle.value.specs.code.Post.{same_literals, node_or_none, under_from, under_in, KeyedObject, ValueNode}
use Rattle.value.proofs.Keys.{both, is_true, true_is, sets_by_count, sets_uneven}
use Rattle.value.proofs.Admitted.{value_keys, array_item, object_value, array_children, value_node_lem, keyed_object, admitted_value}
use Rattle.value.proofs.SameValues.{ValueShape, value_literal, value_array, value_object, value_shape, under_has}
use Rattle.value.proofs.Under.{node_told, no_node, Fielded, object_fielded, keys_length, found_field, found_value, key_of, position_fits, position_key_fits, position_value_fits}
use Rattle.matching.specs.Matching.{Env, under_key}
use Rattle.matching.specs.code.Post.{env_of, ListOk}
use Rattle.matching.proofs.Patterns.{PatternShape, pattern_literal, pattern_wildcard, pattern_name, pattern_array, pattern_object, pattern_shape}
use Rattle.matching.proofs.Lists.{env_at, env_set, set_ok}
use Rattle.tolerance.specs.Tolerance.{Number, num, num_order}
use Rattle.tolerance.specs.code.Classes.{Equality, alike, equals, Classes, joined, node_of, open?, unified, is_some}
use Rattle.tolerance.specs.code.Decision.{Conditions, only_rest, literals_met, literal_met}
use Rattle.tolerance.specs.code.Meeting.{Held, held, held_with, asking, and_then, meets_at, naming, numbers_met, conditions_of, meets, meets_items, meets_fields}
use Rattle.tolerance.specs.declared.number.Number.{Number as StoredNumber}
use Rattle.tolerance.specs.code.Post.{number_of, number_in, NodeNumber, Joined, Equated, LiteralAsks, MeetAsks, NameAsks, MeetItemsAsks, MeetFieldsAsks, held_in, Met, conditions_at, meets_nodes, meets_listed, meets_array, meets_under}
use Rattle.tolerance.proofs.trees.Meets.{value_meets}

-- 1. Conditions that ask for no equality, or for one
module _ {classes : Classes num_order} where
  plainly : (q : Conditions) (b : Bool) → q ≡ only_rest b → Equated q classes classes b
  unfolding unified
  plainly q b e = rw e (record { is = right_true b; classes = λ t. refl })
    where
      right_true : (b : Bool) → b ≡ (b && true)
      right_true true = refl
      right_true false = refl

one_equality : (q : Equality Number) (c : Conditions) → c ≡ record { numbers = q ∷ []; rest = true } → {classes classes' : Classes num_order} {r : Bool} → Joined q classes classes' r
    → Equated c classes classes' r
unfolding unified
one_equality q c e {classes} {classes'} {r} j =
    rw e (record {
      is = j.left ∙ told (open? num_order (node_of num_order q) (joined num_order q classes));
      classes = λ y. after (open? num_order (node_of num_order q) (joined num_order q classes)) (sym j.left ∙ y);
    })
  where
    told : (b : Bool) → b ≡ is_some (cond b (some (joined num_order q classes)) none)
    told true = refl
    told false = refl

    after : (b : Bool) → b ≡ true → cond b (some (joined num_order q classes)) none ≡ some classes'
    after true e = ap some (sym j.classes)
    after false e = absurd (false≢true e)

-- 2. Literals by the kind of their node
abbrev pub is_num : Literal → Bool
is_num null = false
is_num (boolean b) = false
is_num (number s k) = true
is_num (string bs) = false

module _ (numbers strings text : List ℕ) where
  string_kind : (b : Bool) (bs : List ℕ) (l : Literal) → cond b (some (string bs)) none ≡ some l → is_num l ≡ false
  string_kind true bs l e = let q : string bs ≡ l = cc in rw (← q)
  string_kind false bs l e = absurd (false≢true (cc))

  number_kind : (b : Bool) (m l : Literal) → is_num m ≡ true → cond b (some m) none ≡ some l → is_num l ≡ true
  number_kind true m l n e = let q : m ≡ l = cc in rw (← q) n
  number_kind false m l n e = absurd (false≢true (cc))

  bool_kind : (b : Bool) (l : Literal) → literal_of numbers strings text (cond b Ref.False Ref.True) ≡ some l → is_num l ≡ false
  unfolding literal_of
  bool_kind true l e = let q : boolean false ≡ l = cc in rw (← q)
  bool_kind false l e = let q : boolean true ≡ l = cc in rw (← q)

  by_kind : (kind first count : ℕ) (l : Literal) → literal_in numbers strings text (ref_by kind first count) ≡ some l → is_num l ≡ eqb kind 3
  unfolding literal_of
  by_kind kind first count l e = go (eqb kind 1) refl (eqb kind 2) refl (eqb kind 3) refl (eqb kind 4) (eqb kind 5) e
    where
      go : (a : Bool) → eqb kind 1 ≡ a → (b : Bool) → eqb kind 2 ≡ b → (c : Bool) → eqb kind 3 ≡ c → (d f : Bool)
          → literal_in numbers strings text (cond a (Key.Literal (Ref.String first count)) (cond b (Key.Literal (Ref.RawString first count)) (cond c (Key.Literal (Ref.Number first)) (cond d (Key.Literal (cond (eqb first 0) Ref.False Ref.True)) (cond f (Key.Literal Ref.Null) Key.Computed))))) ≡ some l
          → is_num l ≡ c
      go true p b q c r d f e = let k = eqb-true kind 1 p in string_kind (leb (first + count) (length strings)) (part strings first count) l e ∙ (sym (ap (λ (n : ℕ). eqb n 3) k) ∙ r)
      go false p true q c r d f e = let k = eqb-true kind 2 q in string_kind (leb (first + count) (length text)) (part text first count) l e ∙ (sym (ap (λ (n : ℕ). eqb n 3) k) ∙ r)
      go false p false q true r d f e = number_kind (numberThere numbers first) (number (eqb (get_or numbers (first * 2) 0) 1) (get_or numbers (first * 2 + 1) 0)) l refl e
      go false p false q false r true f e = bool_kind (eqb first 0) l e
      go false p false q false r false true e = let q : null ≡ l = cc in rw (← q)
      go false p false q false r false false e = absurd (false≢true (cc))

pub number_literal : (T : Tables) (n : ℕ) (l : Literal) → literal_at T n ≡ some l → is_num l ≡ eqb (kind_of T.nodes n) 3
unfolding literal_node ref_of
number_literal T n l e = by_kind T.numbers T.strings T.text (kind_of T.nodes n) (first_word_of T.nodes n) _ l e

-- the number that a node of kind 3 says
pub number_words : (T : Tables) (n : ℕ) (l : Literal) → kind_of T.nodes n ≡ 3 → literal_at T n ≡ some l
    → l ≡ number (eqb (get_or T.numbers (first_word_of T.nodes n * 2) 0) 1) (get_or T.numbers (first_word_of T.nodes n * 2 + 1) 0)
unfolding literal_node ref_of literal_of
number_words T n l k e = go (numberThere T.numbers (first_word_of T.nodes n)) (rw k at e)
  where
    go : (b : Bool) → cond b (some (number (eqb (get_or T.numbers (first_word_of T.nodes n * 2) 0) 1) (get_or T.numbers (first_word_of T.nodes n * 2 + 1) 0))) none ≡ some l
        → l ≡ number (eqb (get_or T.numbers (first_word_of T.nodes n * 2) 0) 1) (get_or T.numbers (first_word_of T.nodes n * 2 + 1) 0)
    go true e = cc
    go false e = absurd (false≢true (cc))

-- what two literals come to
module _ (q : Number → Equality Number) where
  plain_left : (l k : Literal) → is_num l ≡ false → literals_met q l k ≡ only_rest (same_key l k)
  plain_left null k e = refl
  plain_left (boolean b) k e = refl
  plain_left (number s i) k e = absurd (false≢true (sym e))
  plain_left (string bs) k e = refl

  plain_right : (l k : Literal) → is_num l ≡ true → is_num k ≡ false → literals_met q l k ≡ only_rest (same_key l k)
  unfolding key_order
  plain_right null k e f = absurd (false≢true e)
  plain_right (boolean b) k e f = absurd (false≢true e)
  plain_right (number s i) null e f = refl
  plain_right (number s i) (boolean true) e f = refl
  plain_right (number s i) (boolean false) e f = refl
  plain_right (number s i) (number t j) e f = absurd (false≢true (sym f))
  plain_right (number s i) (string bs) e f = refl
  plain_right (string bs) k e f = absurd (false≢true e)

  two_numbers : (s : Bool) (i : ℕ) (k : Literal) → is_num k ≡ true → literals_met q (number s i) k ≡ record { numbers = q (num s i) ∷ []; rest = true }
  two_numbers s i null f = absurd (false≢true f)
  two_numbers s i (boolean b) f = absurd (false≢true f)
  two_numbers s i (number t j) f = refl
  two_numbers s i (string bs) f = absurd (false≢true f)

-- 3. A literal node and a value node
module _ {T : Tables} {a b : ℕ} (asks : LiteralAsks T a b) (pattern : Bool) where
  left_literal : (l : Literal) × (literal_at T a ≡ some l) × (expr T a ≡ literal a l)
  left_literal =
      let (l, p) = asks.table.literals a asks.node asks.literal in
      (l, p, expr_literal T asks.table a asks.node l asks.literal p)

  right_shape : (e : Expr) × (expr T b ≡ e) × ValueShape T b e
  right_shape = value_shape T asks.table b asks.value_ok

  right_key : literal_key (expr T b) ≡ literal_at T b
  right_key = key_literal T asks.table b asks.value_ok.node

  as_literal : (l : Literal) → expr T a ≡ literal a l → conditions_at T pattern a b ≡ literal_met (numbers_met pattern a) l (value_of (expr T b))
  as_literal l t = ap (λ (e : Expr). conditions_of pattern e (value_of (expr T b))) t

  -- not both numbers
  not_both : (l : Literal) → expr T a ≡ literal a l → literal_at T a ≡ some l → ((k : Literal) → literal_at T b ≡ some k → literals_met (numbers_met pattern a b) l k ≡ only_rest (same_key l k))
      → conditions_at T pattern a b ≡ only_rest (same_literals (literal_at T a) (literal_at T b))
  unfolding value_of
  not_both l t p f =
      let s = right_shape in
      as_literal l t ∙ (ap (λ (e : Expr). literal_met (numbers_met pattern a) l (value_of e)) s.1
      ∙ (go s.0 s.1 s.2 ∙ sym (ap₂ (λ (x y : Option Literal). only_rest (same_literals x y)) p (sym right_key ∙ ap literal_key s.1))))
    where
      go : (e : Expr) → expr T b ≡ e → ValueShape T b e → literal_met (numbers_met pattern a) l (value_of e) ≡ only_rest (same_literals (some l) (literal_key e))
      go e q (value_literal k h) = f k (sym right_key ∙ ap literal_key q)
      go e q (value_array h) = refl
      go e q (value_object h) = refl

  pub met_plain : {classes : Classes num_order} {kind : ℕ} {r : Bool} → kind ≡ kind_of T.nodes a → (kind ≡ 3 → ⊥) → r ≡ same_literals (literal_at T a) (literal_at T b) → Equated (conditions_at T pattern a b) classes classes r
  met_plain {classes} {kind} {r} is not_three e =
      let (l, p, t) = left_literal in
      let n : is_num l ≡ false = number_literal T a l p ∙ (sym (ap (λ (x : ℕ). eqb x 3) is) ∙ ne_eqb kind 3 not_three) in
      plainly (conditions_at T pattern a b) r (not_both l t p (λ k q. plain_left (numbers_met pattern a b) l k n) ∙ ap only_rest (sym e))

  pub met_unlike : {classes : Classes num_order} {kind other : ℕ} {r : Bool} → kind ≡ kind_of T.nodes a → kind ≡ 3 → other ≡ kind_of T.nodes b → (other ≡ 3 → ⊥) → r ≡ same_literals (literal_at T a) (literal_at T b)
      → Equated (conditions_at T pattern a b) classes classes r
  met_unlike {classes} {kind} {other} {r} is three o not_three e =
      let (l, p, t) = left_literal in
      let n : is_num l ≡ true = number_literal T a l p ∙ ap (λ (x : ℕ). eqb x 3) (sym is ∙ three) in
      plainly (conditions_at T pattern a b) r (not_both l t p (λ k q. plain_right (numbers_met pattern a b) l k n (number_literal T b k q ∙ (sym (ap (λ (x : ℕ). eqb x 3) o) ∙ ne_eqb other 3 not_three))) ∙ ap only_rest (sym e))

  number_of_node : (n : ℕ) → Node T n → NodeNumber n
  number_of_node n v =
      let few = asks.table.limits.nodes in
      let high = v.high in
      record { low = v.low; high = omega arith }

  pub left_node : NodeNumber a
  left_node = number_of_node a asks.node

  pub right_node : NodeNumber b
  right_node = number_of_node b asks.value_ok.node

  -- both numbers
  module _ {kind other : ℕ} (is : kind ≡ kind_of T.nodes a) (three : kind ≡ 3) (o : other ≡ kind_of T.nodes b) (too : other ≡ 3) where
    abbrev own : Number
    own = num (eqb (get_or T.numbers (first_word_of T.nodes a * 2) 0) 1) (get_or T.numbers (first_word_of T.nodes a * 2 + 1) 0)

    both_numbers : conditions_at T pattern a b ≡ record { numbers = numbers_met pattern a b own ∷ []; rest = true }
    unfolding value_of
    both_numbers =
        let (l, p, t) = left_literal in
        let low : kind_of T.nodes b ≤ 5 = omega arith in
        let (k, q) = asks.table.literals b asks.value_ok.node low in
        let u = expr_literal T asks.table b asks.value_ok.node k low q in
        let m : is_num k ≡ true = number_literal T b k q ∙ ap (λ (x : ℕ). eqb x 3) (sym o ∙ too) in
        let e : l ≡ number own.below own.size = number_words T a l (sym is ∙ three) p in
        as_literal l t ∙ (ap₂ (λ (x : Expr) (y : Literal). literal_met (numbers_met pattern a) y (value_of x)) u e ∙ two_numbers (numbers_met pattern a b) own.below own.size k m)

    pub met_own : {classes : Classes num_order} → pattern ≡ true → {first : ℕ} {number : StoredNumber} → first ≡ first_word_of T.nodes a → number ≡ number_in T.numbers first
        → {classes' : Classes num_order} {r : Bool} → Joined (equals b (number_of number)) classes classes' r → Equated (conditions_at T pattern a b) classes classes' r
    met_own {classes} is_pattern {first} {number} f n j =
        one_equality (equals b (number_of number)) (conditions_at T pattern a b)
        (both_numbers ∙ ap₂ (λ (p : Bool) (x : Number). record { numbers = numbers_met p a b x ∷ []; rest = true }) is_pattern
        (ap (λ (x : ℕ). number_of (number_in T.numbers x)) (sym f) ∙ ap number_of (sym n))) j

    pub met_numbers : {classes : Classes num_order} → pattern ≡ false → {classes' : Classes num_order} {r : Bool} → Joined (alike a b) classes classes' r → Equated (conditions_at T pattern a b) classes classes' r
    met_numbers {classes} value j = one_equality (alike a b) (conditions_at T pattern a b) (both_numbers ∙ ap (λ (p : Bool). record { numbers = numbers_met p a b own ∷ []; rest = true }) value) j

-- 4. Two nodes
mutual
  unfolding admitted

  value_simple : (e : Expr) → admitted false e ≡ true → admitted true e ≡ true
  value_simple (literal n l) t = refl
  value_simple (name n x) t = refl
  value_simple (wildcard n) t = refl
  value_simple (array n es) t = values_simple es t
  value_simple (set n es) t = t
  value_simple (object n fs) t = let p = and_true (differing (keys_of fs)) (admitted_fields false fs) t in ap₂ ◌&&◌ p.0 (fields_simple fs p.1)
  value_simple (other n) t = t

  values_simple : (es : Exprs) → admitted_all false es ≡ true → admitted_all true es ≡ true
  values_simple Expr.none t = refl
  values_simple (item e es) t = let p = and_true (admitted false e) (admitted_all false es) t in ap₂ ◌&&◌ (value_simple e p.0) (values_simple es p.1)

  fields_simple : (fs : Fields) → admitted_fields false fs ≡ true → admitted_fields true fs ≡ true
  fields_simple done t = refl
  fields_simple (field k v fs) t =
      let p = and_true (is_literal (literal_key k)) (admitted false v && admitted_fields false fs) t in
      let q = and_true (admitted false v) (admitted_fields false fs) p.1 in
      ap₂ ◌&&◌ p.0 (ap₂ ◌&&◌ (value_simple v q.0) (fields_simple fs q.1))

admitted_simple : (pattern : Bool) (e : Expr) → admitted pattern e ≡ true → admitted true e ≡ true
admitted_simple true e t = t
admitted_simple false e t = value_simple e t

module _ {T : Tables} {list : List ℕ} {classes : Classes num_order} (list_ok : ListOk T list) where
  -- conditions on numbers alone
  met_asking : {q : Conditions} {classes' : Classes num_order} {r : Bool} → Equated q classes classes' r → Met T (asking q (held_in T list classes)) list classes' r
  met_asking {q} {classes'} {r} e = record {
    hit = λ t. yea q.rest (unified num_order q.numbers classes) (sym e.is ∙ t) (e.classes t);
    miss = λ t. nay q.rest (unified num_order q.numbers classes) (sym e.is ∙ t);
    list_ok = list_ok;
  }
    where
      yea : (b : Bool) (o : Option (Classes num_order)) → (b && is_some o) ≡ true → o ≡ some classes' → cond b (held_with o (env_of T list)) none ≡ some (held_in T list classes')
      yea true o t i = ap (λ (x : Option (Classes num_order)). held_with x (env_of T list)) i
      yea false o t i = absurd (false≢true t)

      nay : (b : Bool) (o : Option (Classes num_order)) → (b && is_some o) ≡ false → cond b (held_with o (env_of T list)) none ≡ none
      nay true none t = refl
      nay true (some s) t = absurd (false≢true (sym t))
      nay false o t = refl

  met_nothing : {o : Option Held} → o ≡ none → Met T o list classes false
  met_nothing e = record { hit = λ t. absurd (false≢true t); miss = λ t. e; list_ok = list_ok }

  met_something : {o : Option Held} → o ≡ some (held_in T list classes) → Met T o list classes true
  met_something e = record { hit = λ t. e; miss = λ t. absurd (false≢true (sym t)); list_ok = list_ok }

items_uneven : (pattern : Bool) (g : ℕ → Expr) (ch : List ℕ) (at k from m : ℕ) (h : Held) → (m ≡ k → ⊥) → meets_items pattern (items g ch at k) (values_of (items g ch from m)) h ≡ none
unfolding items value_of meets
items_uneven pattern g ch at zero from zero h n = absurd (n refl)
items_uneven pattern g ch at zero from (suc m) h n = refl
items_uneven pattern g ch at (suc k) from zero h n = refl
items_uneven pattern g ch at (suc k) from (suc m) h n = by (meets pattern (g (child_at ch at)) (value_of (g (child_at ch from))) h) (λ x. items_uneven pattern g ch (at + 1) k (from + 1) m x (λ e. n (ap suc e)))
  where
    by : (o : Option Held) → ((x : Held) → meets_items pattern (items g ch (at + 1) k) (values_of (items g ch (from + 1) m)) x ≡ none) → and_then o (λ x. meets_items pattern (items g ch (at + 1) k) (values_of (items g ch (from + 1) m)) x) ≡ none
    by none f = refl
    by (some x) f = f x

-- fields that are met all have a partner
fields_within : (pattern : Bool) (fs : Fields) (gs : ValueFields) (h h' : Held) → admitted_fields pattern fs ≡ true → meets_fields pattern fs gs h ≡ some h' → True (within (keys_of fs) (keysᵛ gs))
unfolding meets within keys_of admitted
fields_within pattern done gs h h' t e = tt
fields_within pattern (field k v fs) gs h h' t e =
    let p = and_true (is_literal (literal_key k)) (admitted pattern v && admitted_fields pattern fs) t in
    go (literal_key k) p.0 (λ x q. fields_within pattern fs gs x h' (and_true (admitted pattern v) (admitted_fields pattern fs) p.1).1 q) e
  where
    rest_of : (o : Option Held) → ((x : Held) → meets_fields pattern fs gs x ≡ some h' → True (within (keys_of fs) (keysᵛ gs))) → and_then o (λ g. meets_fields pattern fs gs g) ≡ some h' → True (within (keys_of fs) (keysᵛ gs))
    rest_of none f q = absurd (false≢true (cc))
    rest_of (some x) f q = f x q

    at : (l : Literal) (o : Option Value) → under l gs ≡ o → ((x : Held) → meets_fields pattern fs gs x ≡ some h' → True (within (keys_of fs) (keysᵛ gs)))
        → meets_at o (λ w. and_then (meets pattern v w h) (λ g. meets_fields pattern fs gs g)) ≡ some h' → True (has_key l (keysᵛ gs) && within (keys_of fs) (keysᵛ gs))
    at l none u f q = absurd (false≢true (cc))
    at l (some w) u f q = both (has_key l (keysᵛ gs)) (within (keys_of fs) (keysᵛ gs)) (under_has (λ x. true) l gs (rw u tt)) (rest_of (meets pattern v w h) f q)

    go : (o : Option Literal) → is_literal o ≡ true → ((x : Held) → meets_fields pattern fs gs x ≡ some h' → True (within (keys_of fs) (keysᵛ gs)))
        → meets_at (under_key o gs) (λ w. and_then (meets pattern v w h) (λ g. meets_fields pattern fs gs g)) ≡ some h' → True (within (add_key o (keys_of fs)) (keysᵛ gs))
    go none i f q = absurd (false≢true i)
    go (some l) i f q = at l (under l gs) refl f q

nothing_either : (c : Bool) (o : Option Held) → o ≡ none → o ≡ cond c o none
nothing_either true o e = refl
nothing_either false o e = e

module _ {T : Tables} {pattern : Bool} {a b : ℕ} {list : List ℕ} (asks : MeetAsks T pattern a b list) where
  abbrev here : Classes num_order → Held
  here classes = held_in T list classes

  left_is : (e : Expr) × (expr T a ≡ e) × PatternShape T a e
  left_is = pattern_shape T asks.table a asks.node (admitted_simple pattern (expr T a) asks.admits)

  right_is : (e : Expr) × (expr T b ≡ e) × ValueShape T b e
  right_is = value_shape T asks.table b asks.value_ok

  meet_as : (classes : Classes num_order) (e f : Expr) → expr T a ≡ e → expr T b ≡ f → meets_nodes T pattern a b (here classes) ≡ meets pattern e (value_of f) (here classes)
  meet_as classes e f p q = ap₂ (λ (x y : Expr). meets pattern x (value_of y) (here classes)) p q

  left_keyed : kind_of T.nodes a ≡ 9 → KeyedObject T a
  left_keyed k = keyed_object T asks.table a asks.node pattern asks.admits k

  right_keyed : kind_of T.nodes b ≡ 9 → KeyedObject T b
  right_keyed k = keyed_object T asks.table b asks.value_ok.node false asks.value_ok.value k

  -- objects by the count of their fields
  module _ (ka : kind_of T.nodes a ≡ 9) (kb : kind_of T.nodes b ≡ 9) where
    left_long : length (keys_of (fields_of T a)) ≡ count_of T.nodes a
    left_long = keys_length T (first_word_of T.nodes a) (count_of T.nodes a) (object_fielded (left_keyed ka))

    right_long : length (keys_of (fields_of T b)) ≡ count_of T.nodes b
    right_long = keys_length T (first_word_of T.nodes b) (count_of T.nodes b) (object_fielded (right_keyed kb))

    uneven_keys : (count_of T.nodes b ≡ count_of T.nodes a → ⊥) → same_key_sets (keys_of (fields_of T a)) (keysᵛ (value_fields_of (fields_of T b))) ≡ false
    uneven_keys n =
        let p = left_long in
        let q = right_long in
        rw (value_keys (fields_of T b)) (sets_uneven (keys_of (fields_of T a)) (keys_of (fields_of T b)) (true_is (left_keyed ka).differ) (true_is (right_keyed kb).differ) (λ e. n (omega arith)))

    even_keys : count_of T.nodes b ≡ count_of T.nodes a → within (keys_of (fields_of T a)) (keysᵛ (value_fields_of (fields_of T b))) ≡ same_key_sets (keys_of (fields_of T a)) (keysᵛ (value_fields_of (fields_of T b)))
    even_keys even =
        let p = left_long in
        let q = right_long in
        rw (value_keys (fields_of T b)) (sets_by_count (keys_of (fields_of T a)) (keys_of (fields_of T b)) (true_is (left_keyed ka).differ) (true_is (right_keyed kb).differ) (omega arith))

  -- a value has no name
  name_pattern : kind_of T.nodes a ≡ 6 → pattern ≡ true
  unfolding admitted
  name_pattern k = go pattern refl
    where
      no_name : (c : Bool) → admitted false (named_by c a (first_word_of T.nodes a)) ≡ true → ⊥
      no_name true t = false≢true t
      no_name false t = false≢true t

      go : (p : Bool) → pattern ≡ p → p ≡ true
      go true q = refl
      go false q =
          let t : admitted false (expr T a) ≡ true = rw q at asks.admits in
          absurd (no_name (is_wildcard T (first_word_of T.nodes a)) (rw (expr_name T asks.table a asks.node k) at t))

  module _ {kind : ℕ} (is-kind : kind ≡ kind_of T.nodes a) where
    pub ask_literal : kind ≤ 5 → LiteralAsks T a b
    ask_literal low = record { table = asks.table; node = asks.node; literal = rw (← is-kind) low; value_ok = asks.value_ok }

    pub met_literal : {classes : Classes num_order} → kind ≤ 5 → {classes' : Classes num_order} {r : Bool} → Equated (conditions_at T pattern a b) classes classes' r → Met T (meets_nodes T pattern a b (here classes)) list classes' r
    unfolding meets
    met_literal {classes} low e =
        let (l, p, t) = left_literal (ask_literal low) pattern in
        let q : asking (conditions_at T pattern a b) (here classes) ≡ meets_nodes T pattern a b (here classes) =
        ap (λ (x : Expr). asking (conditions_of pattern x (value_of (expr T b))) (here classes)) t ∙ sym (ap (λ (x : Expr). meets pattern x (value_of (expr T b)) (here classes)) t) in
        rw q at (met_asking asks.list_ok e)

    pub ask_name : kind ≡ 6 → NameAsks T a b list
    ask_name six = record {
      asks = record { table = asks.table; node = asks.node; admits = admitted_simple pattern (expr T a) asks.admits; value_ok = asks.value_ok; list_ok = asks.list_ok };
      kind_is = sym is-kind ∙ six;
    }

    pub met_name : (classes : Classes num_order) → kind ≡ 6 → {list' : List ℕ} {classes' : Classes num_order} {r : Bool} → Met T (meets_nodes T true a b (here classes)) list' classes' r → Met T (meets_nodes T pattern a b (here classes)) list' classes' r
    met_name classes six m = let q = name_pattern (sym is-kind ∙ six) in rw q m

    pub name_falls : kind ≡ 6 → {t : ℕ} → cond pattern 1200 0 + 2 * a ≡ t → 1200 + 2 * a - 1 < t
    name_falls six {t} e =
        let q = name_pattern (sym is-kind ∙ six) in
        let low = asks.node.low in
        let s : 1200 + 2 * a ≡ t = rw q at e in
        omega arith

    module _ (high : 5 < kind) (not-name : kind ≡ 6 → ⊥) {other : ℕ} (is-other : other ≡ kind_of T.nodes b) where
      pub met_kinds : {classes : Classes num_order} → (other ≡ kind → ⊥) → Met T (meets_nodes T pattern a b (here classes)) list classes false
      unfolding value_of meets
      met_kinds {classes} unlike = let s = left_is in let t = right_is in met_nothing asks.list_ok (meet_as classes s.0 t.0 s.1 t.1 ∙ go s.0 t.0 s.2 t.2)
        where
          go : (e f : Expr) → PatternShape T a e → ValueShape T b f → meets pattern e (value_of f) (here classes) ≡ none
          go e f (pattern_literal l h) y = absurd (omega arith)
          go e f (pattern_wildcard h) y = absurd (not-name (is-kind ∙ h))
          go e f (pattern_name h) y = absurd (not-name (is-kind ∙ h))
          go e f (pattern_array h) (value_literal m k) = refl
          go e f (pattern_array h) (value_array k) = absurd (unlike (omega arith))
          go e f (pattern_array h) (value_object k) = refl
          go e f (pattern_object h) (value_literal m k) = refl
          go e f (pattern_object h) (value_array k) = refl
          go e f (pattern_object h) (value_object k) = absurd (unlike (omega arith))

      module _ (alike-kinds : other ≡ kind) {size count : ℕ} (is_size : size ≡ count_of T.nodes a) (is_count : count ≡ count_of T.nodes b) where
        pub met_counts : {classes : Classes num_order} → (count ≡ size → ⊥) → Met T (meets_nodes T pattern a b (here classes)) list classes false
        unfolding value_of meets
        met_counts {classes} uneven = let s = left_is in let t = right_is in met_nothing asks.list_ok (meet_as classes s.0 t.0 s.1 t.1 ∙ go s.0 t.0 s.2 t.2)
          where
            go : (e f : Expr) → PatternShape T a e → ValueShape T b f → meets pattern e (value_of f) (here classes) ≡ none
            go e f (pattern_literal l h) y = absurd (omega arith)
            go e f (pattern_wildcard h) y = absurd (not-name (is-kind ∙ h))
            go e f (pattern_name h) y = absurd (not-name (is-kind ∙ h))
            go e f (pattern_array h) (value_literal m k) = refl
            go e f (pattern_array h) (value_array k) = items_uneven pattern (expr T) T.children (first_word_of T.nodes a) (count_of T.nodes a) (first_word_of T.nodes b) (count_of T.nodes b) (here classes) (λ q. uneven (omega arith))
            go e f (pattern_array h) (value_object k) = refl
            go e f (pattern_object h) (value_literal m k) = refl
            go e f (pattern_object h) (value_array k) = refl
            go e f (pattern_object h) (value_object k) =
                ap (λ (x : Bool). cond x (meets_fields pattern (fields_of T a) (value_fields_of (fields_of T b)) (here classes)) none) (uneven_keys h k (λ q. uneven (omega arith)))

        module _ (even : count ≡ size) where
          module _ (seven : kind ≡ 7) where
            left_seven : kind_of T.nodes a ≡ 7
            left_seven = sym is-kind ∙ seven

            right_seven : kind_of T.nodes b ≡ 7
            right_seven = sym is-other ∙ (alike-kinds ∙ seven)

            pub ask_items : MeetItemsAsks T pattern a b list
            ask_items = record { asks = asks; left_array = left_seven; right_array = right_seven; even = sym is_count ∙ (even ∙ is_size) }

            pub met_array : (classes : Classes num_order) {list' : List ℕ} {classes' : Classes num_order} {r : Bool} → Met T (meets_array T pattern a b (here classes)) list' classes' r → Met T (meets_nodes T pattern a b (here classes)) list' classes' r
            unfolding value_of meets
            met_array classes m =
                let sizes : count_of T.nodes a ≡ count_of T.nodes b = omega arith in
                let q : meets_array T pattern a b (here classes) ≡ meets_nodes T pattern a b (here classes) =
                ap (λ (y : ℕ). meets_items pattern (items (expr T) T.children (first_word_of T.nodes a) (count_of T.nodes a)) (values_of (items (expr T) T.children (first_word_of T.nodes b) y)) (here classes)) sizes
                ∙ sym (meet_as _ _ _ (expr_array T asks.table a asks.node left_seven) (expr_array T asks.table b asks.value_ok.node right_seven)) in
                rw q at m

          module _ (not-seven : kind ≡ 7 → ⊥) where
            left_object : kind_of T.nodes a ≡ 9
            left_object = let s = left_is in go s.0 s.2
              where
                go : (e : Expr) → PatternShape T a e → kind_of T.nodes a ≡ 9
                go e (pattern_literal l h) = absurd (omega arith)
                go e (pattern_wildcard h) = absurd (not-name (is-kind ∙ h))
                go e (pattern_name h) = absurd (not-name (is-kind ∙ h))
                go e (pattern_array h) = absurd (not-seven (is-kind ∙ h))
                go e (pattern_object h) = h

            right_object : kind_of T.nodes b ≡ 9
            right_object = let h = left_object in omega arith

            pub ask_fields : MeetFieldsAsks T pattern a b list
            ask_fields = record { asks = asks; left_object = left_object; right_object = right_object }

            pub met_object : (classes : Classes num_order) {list' : List ℕ} {classes' : Classes num_order} {r : Bool} → Met T (meets_under T pattern a b (here classes)) list' classes' r → Met T (meets_nodes T pattern a b (here classes)) list' classes' r
            unfolding value_of meets admitted
            met_object classes m =
                let q : meets_under T pattern a b (here classes) ≡ meets_nodes T pattern a b (here classes) =
                keyed (meets_under T pattern a b (here classes)) refl
                ∙ sym (meet_as _ _ _ (expr_object T asks.table a asks.node left_object) (expr_object T asks.table b asks.value_ok.node right_object)) in
                rw q at m
              where
                fields_admitted : admitted_fields pattern (fields_of T a) ≡ true
                fields_admitted = (and_true (differing (keys_of (fields_of T a))) (admitted_fields pattern (fields_of T a)) (rw (expr_object T asks.table a asks.node left_object) at asks.admits)).1

                keyed : (o : Option Held) → meets_under T pattern a b (here classes) ≡ o → o ≡ cond (same_key_sets (keys_of (fields_of T a)) (keysᵛ (value_fields_of (fields_of T b)))) o none
                keyed none q = nothing_either (same_key_sets (keys_of (fields_of T a)) (keysᵛ (value_fields_of (fields_of T b)))) none refl
                keyed (some h) q =
                    let w : within (keys_of (fields_of T a)) (keysᵛ (value_fields_of (fields_of T b))) ≡ true = is_true (fields_within pattern (fields_of T a) (value_fields_of (fields_of T b)) (here classes) h fields_admitted q) in
                    sym (ap (λ (x : Bool). cond x (some h) none) (sym (even_keys left_object right_object (omega arith)) ∙ w))

-- 5. A name
module _ {T : Tables} {a b : ℕ} {list : List ℕ} (asks : NameAsks T a b list) {x : ℕ} (is_name : x ≡ first_word_of T.nodes a) where
  abbrev held_here : Classes num_order → Held
  held_here classes = held_in T list classes

  pub name_number : NameNumber x
  name_number =
      let v = asks.asks.table.named a asks.asks.node asks.kind_is in
      let few = asks.asks.table.limits.names in
      let low = v.low in
      let high = v.high in
      record { low = omega arith; high = omega arith }

  pub name_low : 1 ≤ x
  name_low = name_number.low

  pub place_inside : x - 1 < 128
  place_inside = let n = name_number in let high = n.high in let low = n.low in omega arith

  named_as : expr T a ≡ named_by (is_wildcard T x) a x
  named_as = expr_name T asks.asks.table a asks.asks.node asks.kind_is ∙ ap (λ (y : ℕ). named_by (is_wildcard T y) a y) (sym is_name)

  pub wild_met : {classes : Classes num_order} {w : Bool} → w ≡ is_wildcard T x → w ≡ true → Met T (meets_nodes T true a b (held_here classes)) list classes true
  unfolding meets
  wild_met {classes} e t = met_something asks.asks.list_ok
      (ap (λ (y : Expr). meets true y (value_of (expr T b)) (held_here classes)) (named_as ∙ ap (λ (c : Bool). named_by c a x) (sym e ∙ t)))

  module _ {w : Bool} (e : w ≡ is_wildcard T x) (f : w ≡ false) where
    named_meets : (classes : Classes num_order) → meets_nodes T true a b (held_here classes) ≡ naming x (value_of (expr T b)) (held_here classes) (value_at T (get_or list (x - 1) 0))
    unfolding meets
    named_meets classes =
        let low = name_number.low in
        ap (λ (y : Expr). meets true y (value_of (expr T b)) (held_here classes)) (named_as ∙ ap (λ (c : Bool). named_by c a x) (sym e ∙ f))
        ∙ ap (naming x (value_of (expr T b)) (held_here classes)) (env_at T x low list)

    pub name_bound : {classes : Classes num_order} → get_or list (x - 1) 0 ≡ 0 → Met T (meets_nodes T true a b (held_here classes)) (set_at list (x - 1) b) classes true
    name_bound {classes} z =
        let n = name_number in
        met_something (set_ok T x n.low list n.high b asks.asks.list_ok asks.asks.value_ok)
        (named_meets classes ∙ (ap (λ (m : ℕ). naming x (value_of (expr T b)) (held_here classes) (value_at T m)) z
        ∙ ap (λ (env : Env). some (held classes env)) (env_set T x n.low list n.high b asks.asks.list_ok asks.asks.value_ok)))

    module _ (nz : get_or list (x - 1) 0 ≡ 0 → ⊥) where
      pub ask_held : MeetAsks T false (get_or list (x - 1) 0) b list
      ask_held =
          let v = asks.asks.list_ok.each (x - 1) nz in
          record { table = asks.asks.table; node = v.node; admits = v.value; value_ok = asks.asks.value_ok; list_ok = asks.asks.list_ok }

      pub held_falls : {t : ℕ} → 1200 + 2 * a - 1 ≡ t → 0 + 2 * get_or list (x - 1) 0 < t
      held_falls e =
          let v = asks.asks.list_ok.each (x - 1) nz in
          let high = v.node.high in
          let few = asks.asks.table.limits.nodes in
          let low = asks.asks.node.low in
          omega arith

      pub held_met : (classes : Classes num_order) {list' : List ℕ} {classes' : Classes num_order} {r : Bool} → Met T (meets_nodes T false (get_or list (x - 1) 0) b (held_here classes)) list' classes' r → Met T (meets_nodes T true a b (held_here classes)) list' classes' r
      held_met classes m =
          let v = asks.asks.list_ok.each (x - 1) nz in
          let z = ne_eqb (get_or list (x - 1) 0) 0 nz in
          let there : value_at T (get_or list (x - 1) 0) ≡ some (value_of (expr T (get_or list (x - 1) 0))) = rw z in
          let q : meets_nodes T false (get_or list (x - 1) 0) b (held_here classes) ≡ meets_nodes T true a b (held_here classes) =
          value_meets (expr T (get_or list (x - 1) 0)) (value_of (expr T b)) (held_here classes) v.value
          ∙ sym (named_meets classes ∙ ap (naming x (value_of (expr T b)) (held_here classes)) there) in
          rw q at m

-- the measures: a value's node is twice its number, a pattern's 1,200 more, their children's one less
pub child_falls : (pattern : Bool) {child parent t : ℕ} → child < parent → cond pattern 1200 0 + 2 * parent - 1 ≡ t → cond pattern 1200 0 + 2 * child < t
child_falls true lt e = omega arith
child_falls false lt e = omega arith

-- 6. Items in turn
-- those of two arrays, the first below `parent`
pub record Items (T : Tables) (pattern : Bool) (parent at from left : ℕ) : Type 0 where
  pub table : WellFormed T
  pub lefts : (i : ℕ) → i < left → Node T (child_at T.children (at + i)) × (admitted pattern (expr T (child_at T.children (at + i))) ≡ true) × (child_at T.children (at + i) < parent)
  pub rights : (i : ℕ) → i < left → ValueNode T (child_at T.children (from + i))
  pub left_small : at + left ≤ 512
  pub right_small : from + left ≤ 512

pub record MeetingItems (T : Tables) (pattern : Bool) (parent other at from left i : ℕ) (list₀ : List ℕ) (classes₀ : Classes num_order) (list : List ℕ) (classes : Classes num_order) : Type 0 where
  pub asks : Items T pattern parent at from left
  pub inside : i ≤ left
  pub list_ok : ListOk T list
  pub same : meets_listed T pattern (at + i) (from + i) (left - i) (held_in T list classes) ≡ meets_array T pattern parent other (held_in T list₀ classes₀)

pub items_start : {T : Tables} {pattern : Bool} {a b at from size : ℕ} {list : List ℕ} {classes : Classes num_order} → MeetItemsAsks T pattern a b list → at ≡ first_word_of T.nodes a → from ≡ first_word_of T.nodes b → size ≡ count_of T.nodes a
    → MeetingItems T pattern a b at from size 0 list classes list classes
items_start {T} {pattern} {a} {b} {at} {from} {size} items is_at is_from is_size =
    let asks = items.asks in
    let even = items.even in
    let left = array_children T asks.table a asks.node items.left_array in
    let right = array_children T asks.table b asks.value_ok.node items.right_array in
    let few = asks.table.limits.children in
    let ls = left.listed in
    let rs = right.listed in
    let wide = width_array (kind_of T.nodes a) (count_of T.nodes a) items.left_array in
    let x : at + 0 ≡ first_word_of T.nodes a = omega arith in
    let y : from + 0 ≡ first_word_of T.nodes b = omega arith in
    let z : size - 0 ≡ count_of T.nodes a = omega arith in
    record {
      asks = record {
        table = asks.table;
        lefts = λ i lt. rw is_at (
          left.each i (omega arith),
          array_item T asks.table a asks.node pattern asks.admits items.left_array i (omega arith),
          (asks.table.below a asks.node i (omega arith)).1,
        );
        rights = λ i lt. rw is_from (admitted_value T (child_at T.children (first_word_of T.nodes b + i)) (right.each i (omega arith)) (array_item T asks.table b asks.value_ok.node false asks.value_ok.value items.right_array i (omega arith)));
        left_small = omega arith;
        right_small = omega arith;
      };
      inside = omega arith;
      list_ok = asks.list_ok;
      same = rw (x, y, z);
    }

-- what is left, after a part was met or not
met_on : {T : Tables} {o : Option Held} {list : List ℕ} {classes : Classes num_order} {r : Bool} → Met T o list classes r → not r ≡ false → (f : Held → Option Held) → and_then o f ≡ f (held_in T list classes)
met_on {r = r} m t f = let e = m.hit (not-false r t) in rw e

met_fails : {T : Tables} {o : Option Held} {list : List ℕ} {classes : Classes num_order} {r : Bool} → Met T o list classes r → not r ≡ true → (f : Held → Option Held) → and_then o f ≡ none
met_fails {r = r} m t f = let e = m.miss (not-true r t) in rw e

module _ {T : Tables} {pattern : Bool} {parent partner at from left i : ℕ} {list₀ : List ℕ} {classes₀ : Classes num_order} {list : List ℕ} {classes : Classes num_order} (go : MeetingItems T pattern parent partner at from left i list₀ classes₀ list classes) where
  module _ (more : i < left) where
    pub items_left_fits : Fits w64 (at + i)
    items_left_fits = let s = go.asks.left_small in record { fits = omega arith }

    pub items_right_fits : Fits w64 (from + i)
    items_right_fits = let s = go.asks.right_small in record { fits = omega arith }

    module _ {a b : ℕ} (is-a : a ≡ child_at T.children (at + i)) (is_b : b ≡ child_at T.children (from + i)) where
      pub items_ask : MeetAsks T pattern a b list
      items_ask = record { table = go.asks.table; node = rw is-a (go.asks.lefts i more).0; admits = rw is-a (go.asks.lefts i more).1; value_ok = rw is_b (go.asks.rights i more); list_ok = go.list_ok }

      pub items_below : a < parent
      items_below = rw is-a (go.asks.lefts i more).2

      abbrev later_items : Held → Option Held
      later_items g = meets_listed T pattern (at + (i + 1)) (from + (i + 1)) (left - (i + 1)) g

      items_step : and_then (meets_nodes T pattern a b (held_in T list classes)) later_items ≡ meets_array T pattern parent partner (held_in T list₀ classes₀)
      unfolding items value_of meets
      items_step =
          let e : left - i ≡ suc (left - (i + 1)) = omega arith in
          let x : at + i + 1 ≡ at + (i + 1) = omega arith in
          let y : from + i + 1 ≡ from + (i + 1) = omega arith in
          ap₂ (λ (m n : ℕ). and_then (meets_nodes T pattern m n (held_in T list classes)) later_items) is-a is_b
          ∙ (sym (ap₂ (λ (m n : ℕ). and_then (meets_nodes T pattern (child_at T.children (at + i)) (child_at T.children (from + i)) (held_in T list classes)) (λ g. meets_listed T pattern m n (left - (i + 1)) g)) x y)
          ∙ (sym (ap (λ (k : ℕ). meets_listed T pattern (at + i) (from + i) k (held_in T list classes)) e)
          ∙ go.same))

      module _ {list' : List ℕ} {classes' : Classes num_order} {r : Bool} (m : Met T (meets_nodes T pattern a b (held_in T list classes)) list' classes' r) where
        pub items_fail : not r ≡ true → Met T (meets_array T pattern parent partner (held_in T list₀ classes₀)) list' classes' false
        items_fail t = met_nothing m.list_ok (sym items_step ∙ met_fails m t later_items)

        pub items_on : not r ≡ false → MeetingItems T pattern parent partner at from left (i + 1) list₀ classes₀ list' classes'
        items_on t = record { asks = go.asks; inside = omega arith; list_ok = m.list_ok; same = sym (met_on m t later_items) ∙ items_step }

  pub items_end : left ≤ i → Met T (meets_array T pattern parent partner (held_in T list₀ classes₀)) list classes true
  unfolding items value_of meets
  items_end le =
      let z : left - i ≡ 0 = omega arith in
      met_something go.list_ok (sym (rw z at go.same))

-- 7. Fields in turn, by the first object's keys
pub record MeetingFields (T : Tables) (pattern : Bool) (a b first size i : ℕ) (list₀ : List ℕ) (classes₀ : Classes num_order) (list : List ℕ) (classes : Classes num_order) : Type 0 where
  pub asks : MeetFieldsAsks T pattern a b list₀
  pub is_first : first ≡ first_word_of T.nodes a
  pub is_size : size ≡ count_of T.nodes a
  pub inside : i ≤ size
  pub list_ok : ListOk T list
  pub same : meets_fields pattern (fields (expr T) T.children (first + i * 2) (size - i)) (value_fields_of (fields_of T b)) (held_in T list classes) ≡ meets_under T pattern a b (held_in T list₀ classes₀)

pub fields_start : {T : Tables} {pattern : Bool} {a b first size : ℕ} {list : List ℕ} {classes : Classes num_order} → MeetFieldsAsks T pattern a b list → first ≡ first_word_of T.nodes a → size ≡ count_of T.nodes a
    → MeetingFields T pattern a b first size 0 list classes list classes
fields_start {T} {pattern} {a} {b} {first} {size} asks is of =
    let x : first + 0 * 2 ≡ first_word_of T.nodes a = omega arith in
    let z : size - 0 ≡ count_of T.nodes a = omega arith in
    record { asks = asks; is_first = is; is_size = of; inside = omega arith; list_ok = asks.asks.list_ok; same = rw (x, z) }

module _ {T : Tables} {pattern : Bool} {a b first size i : ℕ} {list₀ : List ℕ} {classes₀ : Classes num_order} {list : List ℕ} {classes : Classes num_order} (go : MeetingFields T pattern a b first size i list₀ classes₀ list classes) where
  asked : MeetAsks T pattern a b list₀
  asked = go.asks.asks

  first_keyed : KeyedObject T a
  first_keyed = left_keyed asked go.asks.left_object

  pub fields_object : KeyedObject T b
  fields_object = right_keyed asked go.asks.right_object

  module _ (more : i < size) where
    pub fields_twice : Fits w64 (i * 2)
    fields_twice = position_fits T a first_keyed go.is_first go.is_size more

    pub fields_place : Fits w64 (first + i * 2)
    fields_place = position_key_fits T a first_keyed go.is_first go.is_size more

    pub fields_value : Fits w64 (first + i * 2 + 1)
    fields_value = position_value_fits T a first_keyed go.is_first go.is_size more

    fielded : Fielded T first size
    fielded = rw (go.is_first, go.is_size) (object_fielded first_keyed)

    fields_below : {value : ℕ} → value ≡ child_at T.children (first + i * 2 + 1) → value < a
    fields_below is-value =
        let wide = width_object (kind_of T.nodes a) (count_of T.nodes a) go.asks.left_object in
        let is_size = go.is_size in
        let e : first_word_of T.nodes a + (i * 2 + 1) ≡ first + i * 2 + 1 = let is = go.is_first in omega arith in
        rw is-value (rw e at (asked.table.below a asked.node (i * 2 + 1) (omega arith)).1)

    pub fields_fall : {value : ℕ} → value ≡ child_at T.children (first + i * 2 + 1) → {t : ℕ} → cond pattern 1200 0 + 2 * a - 1 ≡ t → cond pattern 1200 0 + 2 * value < t
    fields_fall is-value e = child_falls pattern (fields_below is-value) e

    module _ {key value : ℕ} (is_key : key ≡ child_at T.children (first + i * 2)) (is-value : value ≡ child_at T.children (first + i * 2 + 1)) {found : Prelude.Option ℕ} (is-found : found ≡ node_or_none (under_in T b key)) where
      abbrev later_fields : Held → Option Held
      later_fields g = meets_fields pattern (fields (expr T) T.children (first + (i + 1) * 2) (size - (i + 1))) (value_fields_of (fields_of T b)) g

      field_step : meets_at (value_at T (under_in T b key)) (λ v. and_then (meets pattern (expr T value) v (held_in T list classes)) later_fields) ≡ meets_under T pattern a b (held_in T list₀ classes₀)
      unfolding fields meets
      field_step =
          let (l, d, q) = key_of T first size fielded i more in
          let e : size - i ≡ suc (size - (i + 1)) = omega arith in
          let x : first + i * 2 + 2 ≡ first + (i + 1) * 2 = omega arith in
          let there : under l (value_fields_of (fields_of T b)) ≡ value_at T (under_in T b key) =
          found_value T (first_word_of T.nodes b) (count_of T.nodes b) (object_fielded fields_object) l
          ∙ ap (value_at T) (sym (ap (λ (o : Option Literal). under_from T o (first_word_of T.nodes b) (count_of T.nodes b)) (ap (λ (m : ℕ). literal_at T m) is_key ∙ d))) in
          ap₂ (λ (o : Option Value) (m : ℕ). meets_at o (λ v. and_then (meets pattern (expr T m) v (held_in T list classes)) later_fields)) (sym there) is-value
          ∙ (ap₂ (λ (o : Option Literal) (p : ℕ). meets_at (under_key o (value_fields_of (fields_of T b))) (λ v. and_then (meets pattern (expr T (child_at T.children (first + i * 2 + 1))) v (held_in T list classes))
          (λ g. meets_fields pattern (fields (expr T) T.children p (size - (i + 1))) (value_fields_of (fields_of T b)) g))) (sym q) (sym x)
          ∙ (sym (ap (λ (k : ℕ). meets_fields pattern (fields (expr T) T.children (first + i * 2) k) (value_fields_of (fields_of T b)) (held_in T list classes)) e)
          ∙ go.same))

      pub fields_missing : found ≡ None → Met T (meets_under T pattern a b (held_in T list₀ classes₀)) list classes false
      fields_missing none_there = let z = no_node is-found none_there in met_nothing go.list_ok (sym field_step ∙ ap (λ (m : ℕ). meets_at (value_at T m) (λ v. and_then (meets pattern (expr T value) v (held_in T list classes)) later_fields)) z)

      module _ {other : ℕ} (some_other : found ≡ Some other) where
        is-other : other ≡ under_in T b key
        is-other = (node_told is-found some_other).0

        is_there : under_in T b key ≡ 0 → ⊥
        is_there = (node_told is-found some_other).1

        partner : ValueNode T other
        partner =
            let (j, lt, e) = found_field T (literal_at T key) (first_word_of T.nodes b) (count_of T.nodes b) is_there in
            rw is-other (rw e (admitted_value T (value_node T (first_word_of T.nodes b) j) (value_node_lem (object_fielded fields_object).asks j lt)
            (object_value T asked.table b asked.value_ok.node false asked.value_ok.value go.asks.right_object j lt)))

        pub fields_ask : MeetAsks T pattern value other list
        fields_ask =
            let lt : i < count_of T.nodes a = rw (← go.is_size) more in
            record {
              table = asked.table;
              node = rw is-value (rw go.is_first (value_node_lem (object_fielded first_keyed).asks i lt));
              admits = rw is-value (rw go.is_first (object_value T asked.table a asked.node pattern asked.admits go.asks.left_object i lt));
              value_ok = partner;
              list_ok = go.list_ok;
            }

        field_met : and_then (meets_nodes T pattern value other (held_in T list classes)) later_fields ≡ meets_under T pattern a b (held_in T list₀ classes₀)
        field_met =
            let z = ne_eqb (under_in T b key) 0 is_there in
            let there : value_at T (under_in T b key) ≡ some (value_of (expr T other)) = rw (z, is-other) in
            sym (ap (λ (o : Option Value). meets_at o (λ v. and_then (meets pattern (expr T value) v (held_in T list classes)) later_fields)) there) ∙ field_step

        module _ {list' : List ℕ} {classes' : Classes num_order} {r : Bool} (m : Met T (meets_nodes T pattern value other (held_in T list classes)) list' classes' r) where
          pub fields_fail : not r ≡ true → Met T (meets_under T pattern a b (held_in T list₀ classes₀)) list' classes' false
          fields_fail t = met_nothing m.list_ok (sym field_met ∙ met_fails m t later_fields)

          pub fields_on : not r ≡ false → MeetingFields T pattern a b first size (i + 1) list₀ classes₀ list' classes'
          fields_on t = record {
            asks = go.asks;
            is_first = go.is_first;
            is_size = go.is_size;
            inside = omega arith;
            list_ok = m.list_ok;
            same = sym (met_on m t later_fields) ∙ field_met;
          }

  pub fields_end : size ≤ i → Met T (meets_under T pattern a b (held_in T list₀ classes₀)) list classes true
  unfolding fields meets
  fields_end le =
      let z : size - i ≡ 0 = omega arith in
      met_something go.list_ok (sym (rw z at go.same))

pub parts_fall : {T : Tables} {pattern : Bool} {a b t : ℕ} {list : List ℕ} → MeetAsks T pattern a b list → cond pattern 1200 0 + 2 * a ≡ t → cond pattern 1200 0 + 2 * a - 1 < t
parts_fall {pattern = true} asks e = let l = asks.node.low in omega arith
parts_fall {pattern = false} asks e = let l = asks.node.low in omega arith
