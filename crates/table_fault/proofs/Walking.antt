-- The loops over a rule's places and over the rules.
use Prim.Native.Nat.{ℕ, zero, suc, ◌+◌, ◌-◌, ◌≤◌, ◌<◌}
use mathlib.Core.Path.{◌≡◌, refl, sym, ap, ◌∙◌}
use mathlib.Core.Bool.{Bool, true, false, cond, not, ◌&&◌}
use mathlib.Core.List.{List, [], ◌∷◌}
use Rattle.std.proofs.Common.{Option, Some, None}
use native.Mathlib.Omega.{arith}
use borrow.Author.Tests.{leb-false, not-true, not-false}
use lib.Dec.{eqb, leb}
use lib.ListN.{length, take}
use mir.Val.{Fits}
use mir.Syntax.{w32}
use Rattle.base.specs.Lists.{all_from}
use Rattle.table.specs.Tables.{Tables, tables}
use Rattle.table.specs.Check.{table_refused}
use Rattle.table.specs.declared.TableRefusal.{TableRefusal}
use Rattle.table.specs.code.Sound.{Limits}
use Rattle.table.proofs.tests.Bools.{and_true, never}
use Rattle.table.proofs.trees.Facts.{limits_of}
use Rattle.table_fault.specs.Rules.{Rule, rules}
use Rattle.table_fault.specs.Fault.{first_broken, broken_place, no_fault_lem, broken, fault_from, fault_of, FaultAnswered}
use Rattle.table_fault.specs.Promise.{is_kept, all_kept}
use Rattle.table_fault.specs.code.Asking.{rule_at, numbered, kept_at, Reached, Asked, first_by, places_by, refusal_by}
use Rattle.table_fault.proofs.Ranges.{all_snoc}
use Rattle.table_fault.proofs.Numbers.{by_number, reached_limits}

-- past places at which a rule is kept
first_after : (p : ℕ → Bool) (at k j : ℕ) → j ≤ k → all_from p at j ≡ true → first_broken p at k ≡ first_broken p (at + j) (k - j)
unfolding first_broken all_from
first_after p at k zero le e =
    let a : at + 0 ≡ at = omega arith in
    let b : k - 0 ≡ k = omega arith in
    rw (a, b)
first_after p at zero (suc j) le e = absurd (omega arith)
first_after p at (suc k) (suc j) le e =
    let h = and_true (p at) (all_from p (at + 1) j) e in
    let a : at + 1 + j ≡ at + suc j = omega arith in
    let b : suc k - suc j ≡ k - j = omega arith in
    rw (h.0, b, ← a) (first_after p (at + 1) k j (omega arith) h.1)

none_broken : (p : ℕ → Bool) (at k : ℕ) → all_from p at k ≡ true → first_broken p at k ≡ None
unfolding first_broken
none_broken p at k e = let z : k - k ≡ 0 = omega arith in rw z at (first_after p at k k (omega arith) e)

pub kept_of_none : (p : ℕ → Bool) (at k : ℕ) → first_broken p at k ≡ None → all_from p at k ≡ true
unfolding first_broken all_from
kept_of_none p at zero e = refl
kept_of_none p at (suc k) e = go (p at) refl (λ h. kept_of_none p (at + 1) k h)
  where
    go : (b : Bool) → p at ≡ b → (first_broken p (at + 1) k ≡ None → all_from p (at + 1) k ≡ true) → (p at && all_from p (at + 1) k) ≡ true
    go true h on = let f : first_broken p (at + 1) k ≡ None = rw h at e in rw h (on f)
    go false h on = let f : Some at ≡ None = rw h at e in never (cc)

pub cond_small : (b : Bool) (x y k : ℕ) → x ≤ k → y ≤ k → cond b x y ≤ k
cond_small true x y k h j = h
cond_small false x y k h j = j

pub places_few : (T : Tables) (rule : ℕ) → (9 < rule → Limits T) → places_by T rule ≤ 512
unfolding places_by
places_few T rule limits = go (leb rule 9) refl
  where
    go : (b : Bool) → leb rule 9 ≡ b → places_by T rule ≤ 512
    go true e = rw e (omega arith)
    go false e =
        let l = limits (leb-false rule 9 e) in
        let a = l.nodes in
        let b = l.children in
        let d = l.numbers in
        let f = l.names in
        rw e
        (cond_small (eqb rule 10) _ _ 512 (omega arith)
        (cond_small (eqb rule 11) _ _ 512 (omega arith)
        (cond_small (eqb rule 12) _ _ 512 b
        (cond_small (eqb rule 19) _ _ 512 b
        (cond_small (eqb rule 21) _ _ 512 (omega arith)
        (cond_small (eqb rule 23) _ _ 512 (omega arith) a))))))

-- `first_broken`: the rule is kept at the places that are passed
pub record Looking (T : Tables) (marks : List ℕ) (rule first end place : ℕ) : Type 0 where
  pub reached : Reached T marks rule
  pub start : first ≡ (numbered T marks rule).first
  pub ends : end ≡ first + (numbered T marks rule).places
  pub small : end ≤ 513
  pub low : first ≤ place
  pub high : place ≤ end
  pub before : all_from (numbered T marks rule).kept first (place - first) ≡ true

module _ (nodes ch nums names strings text marks : List ℕ) {rule first count : ℕ} (go : Reached (tables nodes ch nums names strings text) marks rule)
    (f : first ≡ first_by rule) (m : count ≡ places_by (tables nodes ch nums names [] []) rule) where
  abbrev T : Tables
  T = tables nodes ch nums names strings text

  same_places : count ≡ places_by T rule
  unfolding places_by
  same_places = m

  few_places : first + count ≤ 513
  few_places =
      let c = same_places in
      let h = places_few T rule (λ lt. limits_of T (reached_limits go lt)) in
      let g : first_by rule ≤ 1 = cond_small (leb rule 9) 0 1 1 (omega arith) (omega arith) in
      omega arith

  pub few_fits : Fits w32 (first + count)
  few_fits = let h = few_places in record { fits = omega arith }

  pub count_fits : Fits w32 count
  count_fits = let h = few_places in record { fits = omega arith }

  pub looking_start : {end : ℕ} → end ≡ first + count → Looking T marks rule first end first
  unfolding all_from
  looking_start {end} e =
      let b = by_number T marks rule go.low go.high in
      let c = same_places in
      let h = few_places in
      let z : first - first ≡ 0 = omega arith in
      record {
        reached = go;
        start = f ∙ sym b.first;
        ends = e ∙ ap (λ (n : ℕ). first + n) (c ∙ sym b.places);
        small = omega arith;
        low = omega arith;
        high = omega arith;
        before = rw z;
      }

module _ {T : Tables} {marks : List ℕ} {rule first end place : ℕ} (go : Looking T marks rule first end place) where
  module _ (lt : place < end) where
    pub looking_ask : Asked T marks rule place
    looking_ask =
        let s = go.start in
        let e = go.ends in
        let l = go.low in
        record { reached = go.reached; low = omega arith; high = omega arith; before = rw (← s) go.before }

    module _ {r : Bool} (is : r ≡ kept_at T marks rule place) where
      pub looking_on : not r ≡ false → Looking T marks rule first end (place + 1)
      looking_on t =
          let l = go.low in
          let z : place + 1 - first ≡ suc (place - first) = omega arith in
          let y : first + (place - first) ≡ place = omega arith in
          record {
            reached = go.reached;
            start = go.start;
            ends = go.ends;
            small = go.small;
            low = omega arith;
            high = omega arith;
            before = rw (z, all_snoc (numbered T marks rule).kept first (place - first), y, go.before) (sym is ∙ not-false r t);
          }

      pub looking_fails : not r ≡ true → Some place ≡ broken_place (numbered T marks rule)
      unfolding first_broken
      looking_fails t =
          let s = go.start in
          let l = go.low in
          let e = go.ends in
          let k = (numbered T marks rule).places in
          let y : first + (place - first) ≡ place = omega arith in
          let z : k - (place - first) ≡ suc (k - (place - first) - 1) = omega arith in
          let no_more : kept_at T marks rule place ≡ false = sym is ∙ not-true r t in
          rw (← s, first_after (numbered T marks rule).kept first k (place - first) (omega arith) go.before, y, z, no_more)

  pub looking_ends : end ≤ place → None ≡ broken_place (numbered T marks rule)
  looking_ends le =
      let s = go.start in
      let h = go.high in
      let e = go.ends in
      let z : place - first ≡ (numbered T marks rule).places = omega arith in
      rw (← s) (sym (none_broken (numbered T marks rule).kept first (numbered T marks rule).places (rw z at go.before)))

-- the first rule that is broken, behind rules that are kept
fault_at : (rs : List Rule) (n i place : ℕ) → all_kept (take i rs) ≡ true → i < length rs → Some place ≡ broken_place (rule_at rs i)
    → broken (rule_at rs i).refusal (n + i) place ≡ fault_from n rs
unfolding all_kept rule_at fault_from
fault_at [] n i place e lt b = absurd (omega arith)
fault_at (r ∷ rs) n zero place e lt b = let z : n + 0 ≡ n = omega arith in rw (z, ← b)
fault_at (r ∷ rs) n (suc i) place e lt b =
    let h = and_true (is_kept r) (all_kept (take i rs)) e in
    let z : n + suc i ≡ n + 1 + i = omega arith in
    rw (none_broken r.kept r.first r.places h.0, z) (fault_at rs (n + 1) i place h.1 (omega arith) b)

fault_none : (rs : List Rule) (n : ℕ) → all_kept rs ≡ true → no_fault_lem ≡ fault_from n rs
unfolding all_kept fault_from
fault_none [] n e = refl
fault_none (r ∷ rs) n e =
    let h = and_true (is_kept r) (all_kept rs) e in
    rw (none_broken r.kept r.first r.places h.0) (fault_none rs (n + 1) h.1)

kept_more : (rs : List Rule) (i : ℕ) → all_kept (take i rs) ≡ true → is_kept (rule_at rs i) ≡ true → all_kept (take (suc i) rs) ≡ true
unfolding all_kept rule_at
kept_more [] i e k = refl
kept_more (r ∷ rs) zero e k = rw k
kept_more (r ∷ rs) (suc i) e k =
    let h = and_true (is_kept r) (all_kept (take i rs)) e in
    rw h.0 (kept_more rs i h.1 k)

-- `table_fault`: the rules that are passed are kept
pub record Walking (T : Tables) (marks : List ℕ) (rule : ℕ) : Type 0 where
  pub low : 1 ≤ rule
  pub high : rule ≤ 24
  pub before : all_kept (take (rule - 1) (rules T marks)) ≡ true

pub walking_start : (T : Tables) (marks : List ℕ) → Walking T marks 1
unfolding all_kept
walking_start T marks = record { low = omega arith; high = omega arith; before = refl }

module _ {T : Tables} {marks : List ℕ} {rule : ℕ} (go : Walking T marks rule) where
  module _ (le : rule ≤ 23) where
    pub walking_reach : Reached T marks rule
    walking_reach = record { low = go.low; high = le; before = go.before }

    pub walking_on : {found : Option ℕ} → found ≡ None → found ≡ broken_place (numbered T marks rule) → Walking T marks (rule + 1)
    unfolding numbered
    walking_on at is =
        let e = sym at ∙ is in
        let l = go.low in
        let z : rule + 1 - 1 ≡ suc (rule - 1) = omega arith in
        record {
          low = omega arith;
          high = omega arith;
          before = rw z (kept_more (rules T marks) (rule - 1) go.before (kept_of_none _ _ _ (sym e)));
        }

    long : rule - 1 < length (rules T marks)
    unfolding rules
    long = let l = go.low in omega arith

    pub walking_broken : {found : Option ℕ} {place : ℕ} {refused : TableRefusal} → found ≡ Some place → found ≡ broken_place (numbered T marks rule) → table_refused refused ≡ refusal_by rule
        → FaultAnswered T marks (Some (record { refused = refused; rule = rule; place = place }))
    unfolding numbered fault_of
    walking_broken {place = place} at by is =
        let e = sym at ∙ by in
        let l = go.low in
        let z : 1 + (rule - 1) ≡ rule = omega arith in
        let b = by_number T marks rule l le in
        record { answer = rw (is, ← b.refusal) (rw z at (fault_at (rules T marks) 1 (rule - 1) place go.before long e)) }

  pub walking_ends : 23 < rule → FaultAnswered T marks None
  unfolding fault_of rules
  walking_ends lt =
      let h = go.high in
      let z : rule - 1 ≡ 23 = omega arith in
      record { answer = fault_none (rules T marks) 1 (rw z at go.before) }
