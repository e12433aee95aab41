-- A fault is the first: no rule before it is broken, and its rule at no place before.
use Prim.Native.Nat.{ℕ, zero, suc, ◌+◌, ◌-◌, ◌≤◌, ◌<◌}
use mathlib.Core.Path.{◌≡◌, refl, sym, ap, ◌∙◌}
use mathlib.Core.Logic.{◌⊎◌, inl, inr}
use mathlib.Core.Bool.{Bool, true, false, cond, ◌&&◌}
use mathlib.Core.List.{List, [], ◌∷◌, ◌++◌}
use Rattle.std.proofs.Common.{Option, Some, None}
use native.Mathlib.Omega.{arith}
use native.Mathlib.Nat.{eq-or-lt_of_le}
use lib.Dec.{eqb, leb}
use lib.ListN.{length, take, length-append}
use lib.Seq.{take-append_seam}
use Rattle.base.specs.Refusal.{Refusal, over_limit, breaks_rules, too_deep, equal_names}
use Rattle.table.specs.Tables.{Tables}
use Rattle.table.proofs.tests.Bools.{never}
use Rattle.table.proofs.trees.Facts.{limits_of}
use Rattle.table_fault.specs.Rules.{Rule, rules}
use Rattle.table_fault.specs.Fault.{first_broken, broken_place, no_fault_lem, broken, fault_from, fault_of}
use Rattle.table_fault.specs.Promise.{is_kept, all_kept, FaultPromise}
use Rattle.table_fault.specs.code.Asking.{rule_at, numbered, Reached, first_by, refusal_by}
use Rattle.table_fault.proofs.Promised.{fault_checked}
use Rattle.table_fault.proofs.Numbers.{by_number, reached_limits}
use Rattle.table_fault.proofs.Walking.{kept_of_none, cond_small, places_few}

-- the first broken place
record Place (p : ℕ → Bool) (at k place : ℕ) : Type 0 where
  low : at ≤ place
  high : place < at + k
  here : p place ≡ false
  earlier : (q : ℕ) → at ≤ q → q < place → p q ≡ true

some_same : {x y : ℕ} → Some x ≡ Some y → x ≡ y
some_same e = cc

first_place : (p : ℕ → Bool) (at k place : ℕ) → first_broken p at k ≡ Some place → Place p at k place
unfolding first_broken
first_place p at zero place e = never (cc)
first_place p at (suc k) place e = go (p at) refl (λ h. first_place p (at + 1) k place h)
  where
    go : (b : Bool) → p at ≡ b → (first_broken p (at + 1) k ≡ Some place → Place p (at + 1) k place) → Place p at (suc k) place
    go true h on =
        let f : first_broken p (at + 1) k ≡ Some place = rw h at e in
        let o = on f in
        let l = o.low in
        let u = o.high in
        record { low = omega arith; high = omega arith; here = o.here; earlier = λ q a b. from q (eq-or-lt_of_le a) (λ m. o.earlier q m b) }
      where
        from : (q : ℕ) → (at ≡ q) ⊎ (at < q) → (at + 1 ≤ q → p q ≡ true) → p q ≡ true
        from q (inl same) more = rw (← same) h
        from q (inr above) more = more (omega arith)
    go false h on =
        let f : Some at ≡ Some place = rw h at e in
        let z = some_same f in
        record { low = omega arith; high = omega arith; here = rw (← z) h; earlier = λ q a b. absurd (omega arith) }

-- the first broken rule, of rules that are numbered from n on
record From (n : ℕ) (rs : List Rule) (refusal : Refusal) (number place : ℕ) : Type 0 where
  before : List Rule
  rule : Rule
  after : List Rule
  list : rs ≡ before ++ (rule ∷ after)
  numbered : number ≡ n + length before
  refuses : refusal ≡ rule.refusal
  kept : all_kept before ≡ true
  at : Place rule.kept rule.first rule.places place

fault_from_lem : (rs : List Rule) (n : ℕ) (refusal : Refusal) (number place : ℕ) → fault_from n rs ≡ broken refusal number place → From n rs refusal number place
unfolding fault_from all_kept
fault_from_lem [] n refusal number place e = never (cc)
fault_from_lem (r ∷ rs) n refusal number place e = go (broken_place r) refl (λ h. fault_from_lem rs (n + 1) refusal number place h)
  where
    go : (o : Option ℕ) → broken_place r ≡ o → (fault_from (n + 1) rs ≡ broken refusal number place → From (n + 1) rs refusal number place) → From n (r ∷ rs) refusal number place
    go None h on =
        let f : fault_from (n + 1) rs ≡ broken refusal number place = rw h at e in
        let o = on f in
        let m = o.numbered in
        record {
          before = r ∷ o.before;
          rule = o.rule;
          after = o.after;
          list = ap (λ (l : List Rule). r ∷ l) o.list;
          numbered = omega arith;
          refuses = o.refuses;
          kept = rw (kept_of_none r.kept r.first r.places h) o.kept;
          at = o.at;
        }
    go (Some q) h on =
        let f : broken r.refusal n q ≡ broken refusal number place = rw h at e in
        let z : n ≡ number = cc in
        let w : q ≡ place = cc in
        record {
          before = [];
          rule = r;
          after = rs;
          list = refl;
          numbered = omega arith;
          refuses = cc;
          kept = refl;
          at = rw (← w) (first_place r.kept r.first r.places q h);
        }

fault_none : (rs : List Rule) (n : ℕ) → fault_from n rs ≡ no_fault_lem → all_kept rs ≡ true
unfolding fault_from all_kept
fault_none [] n e = refl
fault_none (r ∷ rs) n e = go (broken_place r) refl (λ h. fault_none rs (n + 1) h)
  where
    go : (o : Option ℕ) → broken_place r ≡ o → (fault_from (n + 1) rs ≡ no_fault_lem → all_kept rs ≡ true) → (is_kept r && all_kept rs) ≡ true
    go None h on = let f : fault_from (n + 1) rs ≡ no_fault_lem = rw h at e in rw (kept_of_none r.kept r.first r.places h) (on f)
    go (Some q) h on = let f : broken r.refusal n q ≡ no_fault_lem = rw h at e in never (cc)

-- a rule behind others
behind : (before : List Rule) (rule : Rule) (after : List Rule) → rule_at (before ++ (rule ∷ after)) (length before) ≡ rule
unfolding rule_at
behind [] rule after = refl
behind (r ∷ before) rule after = behind before rule after

many_rules : (T : Tables) (marks : List ℕ) → length (rules T marks) ≡ 23
unfolding rules
many_rules T marks = refl

module _ (T : Tables) (marks : List ℕ) (refusal : Refusal) (number place : ℕ) (e : fault_from 1 (rules T marks) ≡ broken refusal number place) where
  from_one : From 1 (rules T marks) refusal number place
  from_one = fault_from_lem (rules T marks) 1 refusal number place e

  few_rules : number ≤ 23
  few_rules =
      let o = from_one in
      let m = o.numbered in
      let n = sym (many_rules T marks) ∙ (ap length o.list ∙ length-append o.before (o.rule ∷ o.after)) in
      omega arith

  reaches : Reached T marks number
  reaches =
      let o = from_one in
      let m = o.numbered in
      let z : number - 1 ≡ length o.before = omega arith in
      let b : take (number - 1) (rules T marks) ≡ o.before = rw (z, o.list) (take-append_seam o.before (o.rule ∷ o.after)) in
      record { low = omega arith; high = few_rules; before = rw b o.kept }

  is_rule : numbered T marks number ≡ from_one.rule
  unfolding numbered
  is_rule =
      let o = from_one in
      let m = o.numbered in
      let z : number - 1 ≡ length o.before = omega arith in
      rw (z, o.list) (behind o.before o.rule o.after)

  low_place : place ≤ 512
  low_place =
      let r = reaches in
      let b = by_number T marks number r.low r.high in
      let few = places_few T number (λ lt. limits_of T (reached_limits r lt)) in
      let f : first_by number ≤ 1 = cond_small (leb number 9) 0 1 1 (omega arith) (omega arith) in
      let h : place < (numbered T marks number).first + (numbered T marks number).places = rw is_rule from_one.at.high in
      omega (arith, b.first, b.places)

  low_number : refusal.number ≤ 4
  low_number =
      let r = reaches in
      let b = by_number T marks number r.low r.high in
      let q : refusal ≡ refusal_by number = from_one.refuses ∙ (ap (λ (x : Rule). x.refusal) (sym is_rule) ∙ b.refusal) in
      let k : (refusal_by number).number ≤ 4 = go (leb number 6) (eqb number 22) (eqb number 23) in
      rw q k
    where
      go : (a b c : Bool) → (cond a over_limit (cond b too_deep (cond c equal_names breaks_rules))).number ≤ 4
      go true b c = omega arith
      go false true c = omega arith
      go false false true = omega arith
      go false false false = omega arith

pub fault_promise : (T : Tables) (marks : List ℕ) → FaultPromise T marks
unfolding fault_of
fault_promise T marks = record {
  check = fault_checked T marks;
  first = λ refusal number place e.
      let o = fault_from_lem (rules T marks) 1 refusal number place e in
      let m = o.numbered in
      let p = o.at in
      record {
        before = o.before;
        rule = o.rule;
        after = o.after;
        list = o.list;
        numbered = omega arith;
        refuses = o.refuses;
        kept = o.kept;
        low = p.low;
        high = p.high;
        here = p.here;
        earlier = p.earlier;
      };
  small = λ refusal number place e. (few_rules T marks refusal number place e, low_place T marks refusal number place e);
  none = λ e. fault_none (rules T marks) 1 e;
}

pub fault_number : (T : Tables) (marks : List ℕ) (refusal : Refusal) (number place : ℕ) → fault_of T marks ≡ broken refusal number place → refusal.number ≤ 4
unfolding fault_of
fault_number T marks refusal number place e = low_number T marks refusal number place e
