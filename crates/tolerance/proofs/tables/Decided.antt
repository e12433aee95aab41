-- The answer from the classes that are left when the pattern was met with the value.
use Prim.Native.Nat.{ℕ, ◌≤◌}
use mathlib.Core.Path.{◌≡◌, refl, sym, ap, ap₂, subst, ◌∙◌}
use mathlib.Core.List.{List, []}
use mathlib.Core.Bool.{Bool, true, false, cond, ◌&&◌, not, false≢true}
use mathlib.Core.Option.{Option, none, some}
use native.Mathlib.Omega.{arith}
use borrow.Author.Tests.{not-true, not-false}
use lib.Dec.{T as True}
use Rattle.base.specs.Lists.{all_from, elem}
use Rattle.literal.specs.Literal.{is_number}
use Rattle.scope.specs.declared.Scope.{Scope}
use Rattle.scope.specs.declared.ScopingMode.{ScopingMode}
use Rattle.scope.specs.Scope.{is_unbound}
use Rattle.table.specs.Tables.{Tables, record_word}
use Rattle.table.specs.Decode.{expr}
use Rattle.table.specs.Expr.{Expr}
use Rattle.table.proofs.tests.Bools.{and_true}
use Rattle.planner.specs.Plan.{fresh}
use Rattle.planner.specs.Simple.{mentions}
use Rattle.value.specs.Value.{Value, value_of}
use Rattle.value.proofs.Keys.{true_is}
use Rattle.matching.specs.Matching.{Env, MatchOutcome, matched, missed, fault, pick_value}
use Rattle.matching.specs.code.Post.{env_of}
use Rattle.matching.proofs.Good.{is_none}
use Rattle.run.proofs.Running.{run_table}
use Rattle.tolerance.specs.declared.ToleranceAnswer.TheVariants.{Always, Sometimes, Never}
use Rattle.tolerance.specs.Tolerance.{Number, num, num_order, at_most, is_allowed, Measured, in_value, in_name, always, sometimes}
use Rattle.tolerance.specs.Operations.{is_number_in, end_at, ranges_in, range_ok, listed_known, known_values}
use Rattle.tolerance.specs.code.Classes.{Equality, Classes, unified, free}
use Rattle.tolerance.specs.code.Decision.{Walk, decided, answer_at_end, walked, decision}
use Rattle.tolerance.specs.code.Meeting.{Held, held, meets}
use Rattle.tolerance.specs.declared.number.Range.{Range as StoredRange}
use Rattle.tolerance.specs.code.Post.{number_of, zero_range, low_in, high_in, range_at, Stored, classes_in, ranges_by, MeetAsks, held_in, Met, meets_nodes, OwnLabels, Apart, FirstRanges, Judging, DecideAsks, answer_named, Decided}
use Rattle.tolerance.proofs.orders.Numbers.{num_order_lem}
use Rattle.tolerance.proofs.orders.Unify.{Good, AllCount}
use Rattle.tolerance.proofs.trees.Counted.{plan_counts}
use Rattle.tolerance.proofs.trees.Meets.{judged, walk_meets}
use Rattle.tolerance.proofs.tables.Tied.{allowed_words, pattern_allowed, measured_node, in_range, ranges_good, known_asked}
use Rattle.tolerance.proofs.orders.Arrays.{In512, decided_as, left_decided, shut_decided}

zero_is : is_number 0 0 ≡ true
unfolding is_number
zero_is = refl

-- the ranges of all 512 nodes are good
module _ {lows highs : List ℕ} {ranges : List StoredRange} (f : FirstRanges lows highs ranges) where
  low_end : (n : ℕ) → n ≤ 512 → low_in ranges n ≡ cond (range_ok lows highs n) (end_at lows n) (num false 0)
  low_end n le = ap (λ (r : StoredRange). number_of r.low) (f.each n le) ∙ go (range_ok lows highs n)
    where
      go : (b : Bool) → number_of (cond b (range_at lows highs n) zero_range).low ≡ cond b (end_at lows n) (num false 0)
      go true = refl
      go false = refl

  high_end : (n : ℕ) → n ≤ 512 → high_in ranges n ≡ cond (range_ok lows highs n) (end_at highs n) (num false 0)
  high_end n le = ap (λ (r : StoredRange). number_of r.high) (f.each n le) ∙ go (range_ok lows highs n)
    where
      go : (b : Bool) → number_of (cond b (range_at lows highs n) zero_range).high ≡ cond b (end_at highs n) (num false 0)
      go true = refl
      go false = refl

  range_parts : (n : ℕ) → range_ok lows highs n ≡ true → (is_number_in lows n ≡ true) × (is_number_in highs n ≡ true) × (at_most num_order (end_at lows n) (end_at highs n) ≡ true)
  range_parts n e =
      let p = and_true (is_number_in lows n) (is_number_in highs n && at_most num_order (end_at lows n) (end_at highs n)) e in
      let q = and_true (is_number_in highs n) (at_most num_order (end_at lows n) (end_at highs n)) p.1 in
      (p.0, q.0, q.1)

  good_arrays : Good num_order_lem In512 is_allowed (ranges_by ranges)
  good_arrays = record {
    low = λ n k. subst (λ (x : Number). True (is_allowed x)) (sym (low_end n k.high)) (low_ok n (range_ok lows highs n) refl);
    high = λ n k. subst (λ (x : Number). True (is_allowed x)) (sym (high_end n k.high)) (high_ok n (range_ok lows highs n) refl);
    ordered = λ n k. subst (λ (b : Bool). True b) (sym (ap₂ (at_most num_order) (low_end n k.high) (high_end n k.high))) (in_order n (range_ok lows highs n) refl);
  }
    where
      low_ok : (n : ℕ) (b : Bool) → range_ok lows highs n ≡ b → True (is_allowed (cond b (end_at lows n) (num false 0)))
      low_ok n true e = allowed_words (record_word 2 0 lows n) (record_word 2 1 lows n) (range_parts n e).0
      low_ok n false e = allowed_words 0 0 zero_is

      high_ok : (n : ℕ) (b : Bool) → range_ok lows highs n ≡ b → True (is_allowed (cond b (end_at highs n) (num false 0)))
      high_ok n true e = allowed_words (record_word 2 0 highs n) (record_word 2 1 highs n) (range_parts n e).1
      high_ok n false e = allowed_words 0 0 zero_is

      in_order : (n : ℕ) (b : Bool) → range_ok lows highs n ≡ b → True (at_most num_order (cond b (end_at lows n) (num false 0)) (cond b (end_at highs n) (num false 0)))
      in_order n true e = true_is (range_parts n e).2
      in_order n false e = tt

module _ {T : Tables} {s : Scope} {mode : ScopingMode} {pattern value : ℕ} {values lows highs list : List ℕ} (j : Judging T s mode pattern value values lows highs list) {labels : List ℕ} {ranges : List StoredRange}
    (own : OwnLabels labels) (f : FirstRanges lows highs ranges) where
  abbrev unbound : ℕ → Bool
  unbound = is_unbound s mode

  abbrev e : Expr
  e = expr T pattern

  abbrev v : Value
  v = value_of (expr T value)

  abbrev w : Walk
  w = walked unbound (listed_known T values) e v

  abbrev first : Classes num_order
  first = classes_in (labels, ranges)

  -- of the pattern's names, just those to be planned have no value at the start
  in_step : (x : ℕ) → True (mentions x e) → fresh unbound [] x ≡ is_none (known_values T s mode values x)
  unfolding elem
  in_step x m = go (unbound x) refl ((known_asked j.asks lows highs j.ranges).known_listed x m)
    where
      go : (b : Bool) → unbound x ≡ b → (unbound x ≡ false → (u : Value) × (listed_known T values x ≡ some u)) → (b && true) ≡ is_none (pick_value b none (listed_known T values x))
      go true q f = refl
      go false q f = let (u, i) = f q in rw i

  met_walk : judged w first ≡ meets_nodes T true pattern value (held_in T list (classes_in (labels, ranges)))
  met_walk =
      walk_meets unbound (λ x. True (mentions x e)) e v [] first (known_values T s mode values) j.asks.is_simple (λ x m. m) in_step
      ∙ ap (λ (env : Env). meets true e v (held first env)) (sym j.begins)

  in512 : (n : ℕ) → Measured v (known_values T s mode values) n → In512 n
  in512 n m =
      let k = measured_node j.asks n m in
      let few = (run_table j.asks).limits.nodes in
      let top = k.high in
      record { low = k.low; high = omega arith }

  abbrev qs : List (Equality Number)
  qs = w.numbers

  counted : AllCount num_order_lem In512 is_allowed qs
  counted = plan_counts In512 unbound e v (known_values T s mode values) (pattern_allowed T pattern) (λ n t. in512 n (in_value t)) (λ x u q n t. in512 n (in_name x u q t))

  measured : AllCount num_order_lem (Measured v (known_values T s mode values)) is_allowed qs
  measured = plan_counts (Measured v (known_values T s mode values)) unbound e v (known_values T s mode values) (pattern_allowed T pattern) (λ n t. in_value t) (λ x u q n t. in_name x u q t)

  same_decided : decided (ranges_in lows highs) qs ≡ decided (ranges_by ranges) qs
  same_decided =
      let g = ranges_good j.asks lows highs j.ranges in
      decided_as (Measured v (known_values T s mode values)) (ranges_in lows highs) (ranges_by ranges)
      (λ n m. sym (low_end f n (in512 n m).high ∙ ap (λ (b : Bool). cond b (end_at lows n) (num false 0)) (in_range j.asks lows highs j.ranges n m)))
      (λ n m. sym (high_end f n (in512 n m).high ∙ ap (λ (b : Bool). cond b (end_at highs n) (num false 0)) (in_range j.asks lows highs j.ranges n m)))
      (record { low = g.lowest_allowed; high = g.highest_allowed; ordered = g.ordered }) qs measured

  -- no classes left
  told_never : meets_nodes T true pattern value (held_in T list (classes_in (labels, ranges))) ≡ none → Never ≡ answer_named (decision T s mode pattern value values lows highs)
  told_never q = go w.end refl (unified num_order qs first) refl (met_walk ∙ q)
    where
      go : (o : MatchOutcome) → w.end ≡ o → (u : Option (Classes num_order)) → unified num_order qs first ≡ u → judged (record { numbers = qs; end = o }) first ≡ none → Never ≡ answer_named (answer_at_end (ranges_in lows highs) qs o)
      go (matched env) i none k p = ap answer_named (shut_decided labels ranges own.each (good_arrays f) qs counted k ∙ sym same_decided)
      go (matched env) i (some t) k p = absurd (false≢true (let z = rw k at p in cc))
      go missed i u k p = refl
      go fault i u k p = refl

  -- classes left
  module _ (list' : List ℕ) (classes' : Classes num_order) (q : meets_nodes T true pattern value (held_in T list (classes_in (labels, ranges))) ≡ some (held_in T list' classes')) where
    record Left : Type 0 where
      pub end : w.end ≡ matched (env_of T list')
      pub classes : unified num_order qs first ≡ some classes'

    left : Left
    left = go w.end refl (unified num_order qs first) refl (met_walk ∙ q)
      where
        go : (o : MatchOutcome) → w.end ≡ o → (u : Option (Classes num_order)) → unified num_order qs first ≡ u → judged (record { numbers = qs; end = o }) first ≡ some (held_in T list' classes') → Left
        go (matched env) i none k p = absurd (false≢true (let z = rw k at p in cc))
        go (matched env) i (some t) k p =
            let z : some (held t env) ≡ some (held_in T list' classes') = rw k at p in
            let y : held t env ≡ held_in T list' classes' = cc in
            record { end = i ∙ ap (λ (x : Held). matched x.env) y; classes = k ∙ ap (λ (x : Held). some x.classes) y }
        go missed i u k p = absurd (false≢true (cc))
        go fault i u k p = absurd (false≢true (cc))

    told_left : answer_named (cond (all_from (free num_order (ranges_by ranges) classes') 1 512) always sometimes) ≡ answer_named (decision T s mode pattern value values lows highs)
    told_left =
        ap answer_named (left_decided labels ranges own.each (good_arrays f) qs counted classes' left.classes
        ∙ (sym same_decided ∙ sym (ap (answer_at_end (ranges_in lows highs) qs) left.end)))

-- for the code
module _ {T : Tables} {pattern value : ℕ} {list : List ℕ} (asks : DecideAsks T pattern value list) where
  pub decide_meet : MeetAsks T true pattern value list
  decide_meet = record {
    table = asks.table;
    node = asks.node;
    admits = asks.is_simple;
    value_ok = asks.value_ok;
    list_ok = asks.list_ok;
  }

module _ {T : Tables} {pattern value : ℕ} {list : List ℕ} (asks : DecideAsks T pattern value list) {lows highs : List ℕ} {ranges : List StoredRange} (f : FirstRanges lows highs ranges) {began : Stored} (a : Apart ranges began)
    {list' : List ℕ} {classes' : Classes num_order} {r : Bool} (m : Met T (meets_nodes T true pattern value (held_in T list (classes_in began))) list' classes' r) where
  from_apart : {o : Option Held} → meets_nodes T true pattern value (held_in T list (classes_in began)) ≡ o → meets_nodes T true pattern value (held_in T list (classes_in (a.labels, ranges))) ≡ o
  from_apart q = ap (λ (s : Stored). meets_nodes T true pattern value (held_in T list (classes_in s))) (sym a.is) ∙ q

  pub decided_never : not r ≡ true → Decided T lows highs pattern value list list' Never
  decided_never t = record { list_ok = m.list_ok; each = λ s mode values j. (told_never j a.own f (from_apart (m.miss (not-true r t))), λ z. absurd (false≢true (cc))) }

  module _ (t : not r ≡ false) {all : Bool} (is : all ≡ all_from (free num_order (ranges_by ranges) classes') 1 512) where
    told : (s : Scope) (mode : ScopingMode) (values : List ℕ) → Judging T s mode pattern value values lows highs list → answer_named (cond all always sometimes) ≡ answer_named (decision T s mode pattern value values lows highs)
    told s mode values j = ap (λ (b : Bool). answer_named (cond b always sometimes)) is ∙ told_left j a.own f list' classes' (from_apart (m.hit (not-false r t)))

    pub decided_always : all ≡ true → Decided T lows highs pattern value list list' Always
    decided_always y = record {
      list_ok = m.list_ok;
      each = λ s mode values j. (sym (ap (λ (b : Bool). answer_named (cond b always sometimes)) y) ∙ told s mode values j, λ z. (left j a.own f list' classes' (from_apart (m.hit (not-false r t)))).end);
    }

    pub decided_sometimes : all ≡ false → Decided T lows highs pattern value list list' Sometimes
    decided_sometimes n = record {
      list_ok = m.list_ok;
      each = λ s mode values j. (sym (ap (λ (b : Bool). answer_named (cond b always sometimes)) n) ∙ told s mode values j, λ z. absurd (false≢true (cc)));
    }
