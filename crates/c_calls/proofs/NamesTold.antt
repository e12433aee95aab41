-- Adding a name, as a C host is told of it.
use Prim.Native.Nat.{ℕ, ◌+◌, ◌≤◌}
use mathlib.Core.Path.{◌≡◌, refl, sym, ◌∙◌, subst}
use mathlib.Core.List.{List}
use mathlib.Core.Bool.{Bool, true, false, cond}
use native.Mathlib.Omega.{arith}
use borrow.Author.Tests.{leb-true}
use lib.Dec.{eqb, leb}
use Rattle.base.specs.Refusal as Refusal
use Rattle.base.specs.Refusal.{Refusal, over_limit, breaks_rules, Tested, passed, require_or, tested_or, Line, line, no_place}
use Rattle.scope.specs.Names.{is_name}
use Rattle.scope.specs.Scope.{new_scope}
use Rattle.table.specs.declared.TableRefusal.{TableRefusal}
use Rattle.table.specs.Tables.{Tables}
use Rattle.table.specs.Check.{table_refused, checked}
use Rattle.table.proofs.tests.Bools.{and_true}
use Rattle.planner.specs.Short.{ShortLine, ShortRefusal}
use Rattle.planner.proofs.laws.ShortOutcomes.{short, refusal_short}
use Rattle.operation.specs.declared.row.Row.{Row}
use Rattle.operation.specs.Rows.{row_line, Told}
use Rattle.operation.proofs.RowLaws.{table_row}
use Rattle.name_table.specs.declared.NameAnswer.{NameAnswer}
use Rattle.name_table.specs.declared.NameRefusal.{NameRefusal}
use Rattle.name_table.specs.declared.NameRefusal.TheVariants as No
use Rattle.std.proofs.Common.{Result, Err}
use Rattle.name_table.specs.Adding.{in_use, in_use_within_limits, has_names, checked_in_use, allowed, number_with_bytes, has_place, AddOutcome, refused, existing, added, at_end, existing_or_added, add_outcome, add_line}
use Rattle.name_table.specs.Answer.{name_line, NameAdded}
use Rattle.name_table.proofs.Laws.{name_laws}
use Rattle.c_calls.specs.NameCall.{NameCalled}
use Rattle.c_calls.proofs.Shortness.{require_is, table_short}

pub name_is : (answer : Result NameAnswer NameRefusal) {a : Result NameAnswer NameRefusal} {l : Line} → answer ≡ a → l ≡ name_line a → l ≡ name_line answer
name_is answer e is = rw e is

pub name_table : (answer : Result NameAnswer NameRefusal) {t : TableRefusal} {l : Line} {n : ℕ} → answer ≡ Err (No.TableRefused t) → n ≡ (table_refused t).number → l ≡ line n 0 0 0 → l ≡ name_line answer
name_table answer {t} e n is = rw e (table_row t n is)

-- what is told fits in the words
abbrev ShortTest : Tested → Type 0
ShortTest passed = Unit {0}
ShortTest (Refusal.refused r) = ShortRefusal r

abbrev ShortNo : AddOutcome → Type 0
ShortNo (refused r) = ShortRefusal r
ShortNo (existing x) = Unit {0}
ShortNo (added x) = Unit {0}

module _ (T : Tables) (used start size : ℕ) where
  in_use_short : ShortTest (checked_in_use T used)
  unfolding checked_in_use
  in_use_short =
      require_is Refusal.refused ShortTest (λ r p. p) (in_use_within_limits T used) over_limit _ (refusal_short (omega arith) (omega arith)) (λ a.
      require_is Refusal.refused ShortTest (λ r p. p) (has_names T.names used) breaks_rules _ (refusal_short (omega arith) (omega arith)) (λ b. go (checked (in_use T used) (new_scope 0 false)) refl))
    where
      go : (t : Tested) → checked (in_use T used) (new_scope 0 false) ≡ t → ShortTest t
      go passed e = tt
      go (Refusal.refused r) e = table_short (in_use T used) (new_scope 0 false) r e

  refused_short : ShortNo (add_outcome T used start size)
  unfolding add_outcome at_end
  refused_short = go (checked_in_use T used) in_use_short
    where
      at : (b : Bool) → ShortNo (cond b (require_or refused (has_place T.names used) no_place (added (used + 1))) (existing (number_with_bytes T used start size)))
      at true = require_is refused ShortNo (λ r p. p) (has_place T.names used) no_place _ (short (omega arith) (omega arith) (omega arith) (omega arith)) (λ a. tt)
      at false = tt

      go : (t : Tested) → ShortTest t → ShortNo (tested_or refused t (require_or refused (allowed T.text start size) breaks_rules (existing_or_added T.names used (number_with_bytes T used start size))))
      go passed p = require_is refused ShortNo (λ r q. q) (allowed T.text start size) breaks_rules _ (refusal_short (omega arith) (omega arith)) (λ a. at (eqb (number_with_bytes T used start size) 0))
      go (Refusal.refused r) p = p

  number_short : {x : ℕ} → is_name x ≡ true → x ≤ 128
  unfolding is_name
  number_short {x} e = leb-true x 128 (and_true (leb 1 x) _ e).1

  name_short : ShortLine (add_line (add_outcome T used start size))
  name_short = go (add_outcome T used start size) refl
    where
      go : (o : AddOutcome) → add_outcome T used start size ≡ o → ShortLine (add_line o)
      go (refused r) e = rw e at refused_short
      go (existing x) e = let h = number_short ((name_laws T used start size).existing_is_name_lem x e) in short (omega arith) (omega arith) (omega arith) (omega arith)
      go (added x) e = let h = number_short ((name_laws T used start size).added_is_name_lem x e) in short (omega arith) (omega arith) (omega arith) (omega arith)

  module _ {names after : List ℕ} {answer : Result NameAnswer NameRefusal} {row : Row} (done : NameAdded (add_outcome T used start size) used start size names after answer) (is : row_line row ≡ name_line answer) where
    pub name_fits : ShortLine (row_line row)
    name_fits = subst ShortLine (sym (is ∙ done.answer)) name_short

    pub name_done : {words wordsExit : List ℕ} {r : ℕ} → Told (row_line row) words wordsExit r → NameCalled (add_outcome T used start size) used start size names words after wordsExit r
    name_done {words} {wordsExit} {r} told = record { answer = subst (λ (l : Line). Told l words wordsExit r) (is ∙ done.answer) told; table = done.names }
