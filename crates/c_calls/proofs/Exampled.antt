-- The call for the common example, function by function.
use Prim.Native.Nat.{ℕ, ◌+◌, ◌/◌, ◌≤◌}
use mathlib.Core.Path.{◌≡◌, refl, sym, ap, subst, ◌∙◌}
use mathlib.Core.Bool.{Bool, true, false, not, ◌&&◌, cond, false≢true}
use mathlib.Core.List.{List}
use Rattle.std.proofs.Common.{Option, Some, None, Result, Ok, Err}
use native.Mathlib.Omega.{arith}
use Rattle.std.specs.Prelude.{IsErrAnd}
use Rattle.std.proofs.lemmas.Result.{err_from_is_err_and}
use borrow.Author.Tests.{leb-true}
use lib.Dec.{leb}
use lib.ListN.{length, replicate}
use Rattle.base.specs.Refusal as Refusal
use Rattle.base.specs.Refusal.{layout_broken, breaks_rules, over_limit, value_too_large, Tested, passed, require, tested_or, Line, line, refusal_line}
use Rattle.scope.specs.declared.Scope.{Scope}
use Rattle.scope.specs.declared.MarkOutside.{MarkOutside}
use Rattle.scope.proofs.Agreeing.{converted_or_empty}
use Rattle.scope.specs.declared.ScopingMode.{ScopingMode}
use Rattle.scope.specs.Bytes.{marks_ok, conversion_of, ConvertedFrom}
use Rattle.table.specs.declared.TableRefusal.{TableRefusal}
use Rattle.table.specs.declared.TableRefusal.TheVariants.{OverLimit, BreaksRules, TooDeep, EqualNames}
use Rattle.table.specs.Tables.{Tables, node_count}
use Rattle.table.specs.Rules.{within_limits}
use Rattle.table.specs.Check.{table_refused}
use Rattle.table.proofs.trees.Facts.{limits_of}
use Rattle.table.proofs.tests.Bools.{and_true, never, told_no, told_yes}
use Rattle.planner.specs.Short.{ShortLine}
use Rattle.planner.proofs.laws.ShortOutcomes.{short}
use Rattle.operation.specs.declared.numbers.OperationNumbers.{OperationNumbers}
use Rattle.operation.specs.declared.row.Row.{Row}
use Rattle.operation.specs.Numbers.{are_listed, scoping_of}
use Rattle.operation.specs.Rows.{row_line, Told}
use Rattle.operation.proofs.RowLaws.{table_row}
use Rattle.value.specs.Value.{Value}
use Rattle.common_example.specs.declared.example.Example.{Example}
use Rattle.common_example.specs.declared.example.ExampleRefusal.{ExampleRefusal}
use Rattle.common_example.specs.declared.example.ExampleRefusal.TheVariants.{SideRefused, ValueTooLarge}
use Rattle.common_example.specs.declared.sides.SideRefusal.{SideRefusal}
use Rattle.common_example.specs.declared.sides.SideRefusal.TheVariants as Side
use Rattle.common_example.specs.Answer.{side_refused}
use Rattle.common_example.specs.Overlap.{size, depthᵛ}
use Rattle.common_example.specs.Operations.{PatternSide, side_checked, child_entries, ExampleOutcome, refused, no_value_lem, both, example_outcome, turned_back_lem, found, fits_in, example_answer, nodes_after, children_after}
use Rattle.common_example.specs.Common.{example_refused, example_result, pattern_side, Gives, example_tested, SideChecked}
use Rattle.common_example.proofs.written.Sizes.{entries_size}
use Rattle.c_calls.specs.declared.examples.HostSide.{HostSide}
use Rattle.c_calls.specs.declared.given.GivenRefusal.{GivenRefusal}
use Rattle.c_calls.specs.declared.given.GivenRefusal.TheVariants.{LayoutBroken}
use Rattle.c_calls.specs.Given.{byte_scope_of, scope_of, given_scope, pattern_numbers, tested_first, given_first, given_refused, given_tested, GivenTold}
use Rattle.c_calls.specs.Examples.{GivenSide, numbers_in, side_in, example_call, example_line, ExampleCalled, OfHost, ExampleFirst, SecondRefused, marked_outcome}

-- 1. the four numbers
pub side_is : (answer : SideRefusal) {a : SideRefusal} {l : Line} → answer ≡ a → l ≡ refusal_line (side_refused a) → l ≡ refusal_line (side_refused answer)
side_is answer e is = rw e is

pub side_table : (answer : SideRefusal) {t : TableRefusal} {l : Line} {n : ℕ} → answer ≡ Side.TableRefused t → n ≡ (table_refused t).number → l ≡ line n 0 0 0 → l ≡ refusal_line (side_refused answer)
side_table answer {t} e n is = rw e (table_row t n is)

pub example_is : (answer : Result (Option Example) ExampleRefusal) {a : Result (Option Example) ExampleRefusal} {l : Line} → answer ≡ a → l ≡ example_line (example_result a) → l ≡ example_line (example_result answer)
example_is answer e is = rw e is

pub example_side : (answer : Result (Option Example) ExampleRefusal) {x : SideRefusal} {l : Line} → answer ≡ Err (SideRefused x) → l ≡ refusal_line (side_refused x) → l ≡ example_line (example_result answer)
example_side answer e is = rw e is

-- 2. a side as it is given
pub host_is : (marks : List ℕ) (scheduler scoping pattern : ℕ) {c : Result Scope MarkOutside} {s : Scope} {o : OperationNumbers} {mode : ScopingMode} → ConvertedFrom (byte_scope_of marks scheduler) c
    → s ≡ given_scope c → o ≡ pattern_numbers scheduler scoping pattern → mode ≡ scoping_of scoping
    → OfHost marks scheduler scoping pattern (record { made = c; asked = o; pattern = record { scope = s; scoping = mode; root = pattern } })
host_is marks scheduler scoping pattern from given asked mode = record { made = from.answer; scope = converted_or_empty (byte_scope_of marks scheduler) from refl given; scoping_is = mode; root = refl; asked = asked }

-- 3. what comes first
module _ (T : Tables) {h₁ h₂ : HostSide} {l : Bool} (listed : l ≡ are_listed h₂.asked) where
  pub first_unlisted : not l ≡ true → ExampleFirst T h₁ h₂ (Err LayoutBroken)
  first_unlisted t = record { told = rw (told_no listed t) refl }

  module _ (t : not l ≡ false) {given : Result Scope GivenRefusal} (g : GivenTold T h₁.made h₁.asked given) where
    first_as : {r : Result Unit GivenRefusal} → given_tested r ≡ given_tested given → ExampleFirst T h₁ h₂ r
    first_as e = record { told = rw (told_yes listed t) (e ∙ g.told) }

    pub first_refused : {x : GivenRefusal} → given ≡ Err x → {r : Result Unit GivenRefusal} → IsErrAnd r (λ y. y ≡ x) → ExampleFirst T h₁ h₂ r
    first_refused e {r} gives = let i = err_from_is_err_and r gives in first_as (rw (i.1, i.2, e) refl)

    pub first_passed : {s : Scope} {u : Unit} → given ≡ Ok s → ExampleFirst T h₁ h₂ (Ok u)
    first_passed e = first_as (sym (ap given_tested e))

-- 4. marks of the second side above 31
module _ {T : Tables} {s : PatternSide} {c : Result Unit ExampleRefusal} (i : SideChecked T s c) where
  pub second_first : {x : ExampleRefusal} → c ≡ Err x → SecondRefused T s x
  second_first e = let h = sym i.answer ∙ ap example_tested e in record { answer = rw h refl }

  pub second_marks : {u : Unit} → c ≡ Ok u → SecondRefused T s (SideRefused (Side.TableRefused BreaksRules))
  second_marks e = let h = sym i.answer ∙ ap example_tested e in record { answer = rw h refl }

module _ {T : Tables} (s₁ s₂ : PatternSide) {out kids out' kids' : List ℕ} where
  pub given_done : {r : Result (Option Example) ExampleRefusal} (made : Result Scope MarkOutside) {s : Scope} → made ≡ Ok s → Gives T (example_outcome T s₁ s₂) out kids out' kids' r → Gives T (marked_outcome T s₁ (conversion_of made) s₂) out kids out' kids' r
  unfolding example_outcome
  given_done made e g = rw e g

  pub given_marked : {r : ExampleRefusal} (made : Result Scope MarkOutside) {o : MarkOutside} → made ≡ Err o → SecondRefused T s₁ r → out' ≡ replicate (length out) 0 → kids' ≡ replicate (length kids) 0
      → Gives T (marked_outcome T s₁ (conversion_of made) s₂) out kids out' kids' (Err r)
  unfolding example_answer nodes_after children_after
  given_marked {r} made e i f g = rw e (go (side_checked T s₁) i.answer)
    where
      go : (t : Tested) → Refusal.refused (example_refused r) ≡ tested_or Refusal.refused t (Refusal.refused breaks_rules)
          → Gives T (tested_or refused t (refused breaks_rules)) out kids out' kids' (Err r)
      go passed q = let z : example_refused r ≡ breaks_rules = cc in record { answer = ap turned_back_lem z; nodes_are = f; children_are = g }
      go (Refusal.refused x) q = let z : example_refused r ≡ x = cc in record { answer = ap turned_back_lem z; nodes_are = f; children_are = g }

-- 5. what is told fits in the words
small_value : (v : Value) (out kids : List ℕ) → fits_in v out kids ≡ true → size v ≤ 512
small_value v out kids e =
    let a = (and_true (leb (size v) (length out / 5)) (leb (child_entries v) (length kids) && (leb (size v) 512 && leb (depthᵛ v) 32)) e).1 in
    let b = (and_true (leb (child_entries v) (length kids)) (leb (size v) 512 && leb (depthᵛ v) 32) a).1 in
    leb-true (size v) 512 (and_true (leb (size v) 512) (leb (depthᵛ v) 32) b).0

found_short : (T : Tables) (o : ExampleOutcome) (out kids : List ℕ) (n k m : ℕ) → node_count T ≤ 512 → found n k m ≡ example_answer T o out kids → ShortLine (line 0 n k m)
unfolding example_answer
found_short T (refused r) out kids n k m few e = absurd (false≢true (cc))
found_short T no_value_lem out kids n k m few e = absurd (false≢true (cc))
found_short T (both v) out kids n k m few e = go (fits_in v out kids) refl e
  where
    go : (b : Bool) → fits_in v out kids ≡ b → found n k m ≡ cond b (found (node_count T + size v) (size v) (child_entries v)) (turned_back_lem value_too_large) → ShortLine (line 0 n k m)
    go true f q =
        let a : n ≡ node_count T + size v = cc in
        let b : k ≡ size v = cc in
        let c : m ≡ child_entries v = cc in
        let s = entries_size v in
        let g = small_value v out kids f in
        short (omega arith) (omega arith) (omega arith) (omega arith)
    go false f q = absurd (false≢true (cc))

side_short : (r : SideRefusal) → ShortLine (refusal_line (side_refused r))
side_short (Side.TableRefused OverLimit) = short (omega arith) (omega arith) (omega arith) (omega arith)
side_short (Side.TableRefused BreaksRules) = short (omega arith) (omega arith) (omega arith) (omega arith)
side_short (Side.TableRefused TooDeep) = short (omega arith) (omega arith) (omega arith) (omega arith)
side_short (Side.TableRefused EqualNames) = short (omega arith) (omega arith) (omega arith) (omega arith)
side_short Side.RootOutside = short (omega arith) (omega arith) (omega arith) (omega arith)
side_short Side.ListTooShort = short (omega arith) (omega arith) (omega arith) (omega arith)
side_short Side.PatternNotSimple = short (omega arith) (omega arith) (omega arith) (omega arith)
side_short Side.NotAValue = short (omega arith) (omega arith) (omega arith) (omega arith)
side_short Side.NameWithoutValue = short (omega arith) (omega arith) (omega arith) (omega arith)

answer_short : (T : Tables) (o : ExampleOutcome) (out kids : List ℕ) → node_count T ≤ 512 → (x : Result (Option Example) ExampleRefusal) → example_result x ≡ example_answer T o out kids → ShortLine (example_line (example_result x))
answer_short T o out kids few (Ok (Some a)) e = found_short T o out kids a.node a.nodes a.children few e
answer_short T o out kids few (Ok None) e = short (omega arith) (omega arith) (omega arith) (omega arith)
answer_short T o out kids few (Err (SideRefused r)) e = side_short r
answer_short T o out kids few (Err ValueTooLarge) e = short (omega arith) (omega arith) (omega arith) (omega arith)

-- 6. the call
module _ (T : Tables) {marks₁ marks₂ : List ℕ} {scheduler₁ scoping₁ pattern₁ scheduler₂ scoping₂ pattern₂ : ℕ} {h₁ h₂ : HostSide}
    (of₁ : OfHost marks₁ scheduler₁ scoping₁ pattern₁ h₁) (of₂ : OfHost marks₂ scheduler₂ scoping₂ pattern₂ h₂) {given : Result Unit GivenRefusal} (first : ExampleFirst T h₁ h₂ given) (values₁ values₂ : List ℕ) where
  abbrev g₁ : GivenSide
  g₁ = record { marks = marks₁; scheduler = scheduler₁; scoping = scoping₁; pattern = pattern₁; values = values₁ }

  abbrev g₂ : GivenSide
  g₂ = record { marks = marks₂; scheduler = scheduler₂; scoping = scoping₂; pattern = pattern₂; values = values₂ }

  first_is : given_tested given ≡ tested_or Refusal.refused (require (are_listed (numbers_in g₂)) layout_broken passed) (given_first T marks₁ (numbers_in g₁))
  first_is = rw (of₁.made, of₁.asked, of₂.asked) at first.told

  module _ {out kids out' kids' words words' : List ℕ} {r : ℕ} where
    pub example_first : {x : GivenRefusal} → given ≡ Err x → out' ≡ replicate (length out) 0 → kids' ≡ replicate (length kids) 0 → Told (refusal_line (given_refused x)) words words' r
        → ExampleCalled T (example_call T g₁ g₂) out kids words out' kids' words' r
    unfolding example_call example_answer nodes_after children_after
    example_first {x} e f g d = go (require (are_listed (numbers_in g₂)) layout_broken passed) (given_first T marks₁ (numbers_in g₁)) _ (sym first_is ∙ ap given_tested e)
      where
        go : (t u : Tested) (o : ExampleOutcome) → tested_or Refusal.refused t u ≡ Refusal.refused (given_refused x) → ExampleCalled T (tested_or refused t (tested_or refused u o)) out kids words out' kids' words' r
        go passed u o e = rw e (record { answer = d; nodes_are = f; children_are = g })
        go (Refusal.refused y) u o e = let q : y ≡ given_refused x = cc in record { answer = rw q d; nodes_are = f; children_are = g }

  module _ {u : Unit} (none : given ≡ Ok u) where
    all_passed : tested_or Refusal.refused (require (are_listed (numbers_in g₂)) layout_broken passed) (given_first T marks₁ (numbers_in g₁)) ≡ passed
    all_passed = sym first_is ∙ ap given_tested none

    -- what passed: both sides' numbers, the limits, the first side's marks
    record Let : Type 0 where
      pub listed₁ : are_listed (numbers_in g₁) ≡ true
      pub listed₂ : are_listed (numbers_in g₂) ≡ true
      pub limits : within_limits T ≡ true
      pub marks_ok_lem : marks_ok (byte_scope_of marks₁ scheduler₁) ≡ true

    passes : Let
    unfolding tested_first
    passes = go (are_listed (numbers_in g₂)) refl (are_listed (numbers_in g₁)) refl (within_limits T) refl (marks_ok (byte_scope_of marks₁ scheduler₁)) refl all_passed
      where
        go : (a : Bool) → are_listed (numbers_in g₂) ≡ a → (b : Bool) → are_listed (numbers_in g₁) ≡ b → (c : Bool) → within_limits T ≡ c → (d : Bool) → marks_ok (byte_scope_of marks₁ scheduler₁) ≡ d
            → tested_or Refusal.refused (require a layout_broken passed) (require b layout_broken (require c over_limit (require d breaks_rules passed))) ≡ passed → Let
        go true p true q true s true t e = record { listed₁ = q; listed₂ = p; limits = s; marks_ok_lem = t }
        go true p true q true s false t e = never (cc)
        go true p true q false s d t e = never (cc)
        go true p false q c s d t e = never (cc)
        go false p b q c s d t e = never (cc)

    first_side : pattern_side h₁.pattern values₁ ≡ side_in g₁
    first_side =
        let s : h₁.pattern.scope ≡ scope_of marks₁ scheduler₁ = of₁.scope ∙ rw passes.marks_ok_lem refl in
        rw (s, of₁.scoping_is, of₁.root) refl

    outcome_is : marked_outcome T (pattern_side h₁.pattern values₁) (conversion_of h₂.made) (pattern_side h₂.pattern values₂) ≡ example_call T g₁ g₂
    unfolding example_call tested_first
    outcome_is = go (marks_ok (byte_scope_of marks₂ scheduler₂)) refl
      where
        go : (b : Bool) → marks_ok (byte_scope_of marks₂ scheduler₂) ≡ b → marked_outcome T (pattern_side h₁.pattern values₁) (conversion_of h₂.made) (pattern_side h₂.pattern values₂) ≡ example_call T g₁ g₂
        go true m =
            let c : conversion_of h₂.made ≡ passed = of₂.made ∙ rw m refl in
            let s : h₂.pattern.scope ≡ scope_of marks₂ scheduler₂ = of₂.scope ∙ rw m refl in
            let second-side : pattern_side h₂.pattern values₂ ≡ side_in g₂ = rw (s, of₂.scoping_is, of₂.root) refl in
            let end : marked_outcome T (side_in g₁) passed (side_in g₂) ≡ example_call T g₁ g₂ = rw (passes.listed₂, passes.listed₁, passes.limits, passes.marks_ok_lem, m) refl in
            ap (λ (x : PatternSide). marked_outcome T x (conversion_of h₂.made) (pattern_side h₂.pattern values₂)) first_side
            ∙ (ap (λ (x : Tested). marked_outcome T (side_in g₁) x (pattern_side h₂.pattern values₂)) c ∙ (ap (λ (x : PatternSide). marked_outcome T (side_in g₁) passed x) second-side ∙ end))
        go false m =
            let c : conversion_of h₂.made ≡ Refusal.refused breaks_rules = of₂.made ∙ rw m refl in
            let end : tested_or refused (side_checked T (side_in g₁)) (refused breaks_rules) ≡ example_call T g₁ g₂ = rw (passes.listed₂, passes.listed₁, passes.limits, passes.marks_ok_lem, m) refl in
            ap (λ (x : PatternSide). marked_outcome T x (conversion_of h₂.made) (pattern_side h₂.pattern values₂)) first_side ∙ (ap (λ (x : Tested). marked_outcome T (side_in g₁) x (pattern_side h₂.pattern values₂)) c ∙ end)

    few_nodes : node_count T ≤ 512
    few_nodes = (limits_of T passes.limits).nodes

    module _ {out kids out' kids' : List ℕ} {x : Result (Option Example) ExampleRefusal} (was : Gives T (marked_outcome T (pattern_side h₁.pattern values₁) (conversion_of h₂.made) (pattern_side h₂.pattern values₂)) out kids out' kids' x)
        {row : Row} (is : row_line row ≡ example_line (example_result x)) where
      pub example_fits : ShortLine (row_line row)
      example_fits = subst ShortLine (sym is) (answer_short T (marked_outcome T (pattern_side h₁.pattern values₁) (conversion_of h₂.made) (pattern_side h₂.pattern values₂)) out kids few_nodes x was.answer)

      pub example_done : {words words' : List ℕ} {r : ℕ} → Told (row_line row) words words' r → ExampleCalled T (example_call T g₁ g₂) out kids words out' kids' words' r
      example_done {words} {words'} {r} d =
          rw (← outcome_is) (record {
            answer = subst (λ (l : Line). Told l words words' r) (is ∙ ap example_line was.answer) d;
            nodes_are = was.nodes_are;
            children_are = was.children_are;
          })
