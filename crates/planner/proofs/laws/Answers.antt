-- An answer from its four numbers.
use Rattle.std.proofs.Common.{Result, Ok, Err}
use Prim.Native.Nat.{ℕ}
use mathlib.Core.Path.{◌≡◌, refl, sym, ap, ◌∙◌}
use mathlib.Core.Bool.{cond}
use mathlib.Core.List.{List}
use lib.Dec.{eqb}
use Rattle.table.specs.declared.TableRefusal.TheVariants.{OverLimit, BreaksRules, TooDeep, EqualNames}
use Rattle.planner.specs.declared.Plan.{Plan}
use Rattle.planner.specs.declared.PlanRefusal.{PlanRefusal}
use Rattle.planner.specs.Answer.{planned_as}
use Rattle.planner.specs.declared.PlanRefusal.TheVariants.{TableRefused, RootOutside, PlanTooLarge, ColonEqualsRequiresBindableLeft, ArraySizeMismatch, ArrayLengthMismatch, ObjectLiteralKeysMismatch, ObjectFieldCountMismatch, ObjectKeyNotFound, VariableAlreadyDefined, IncompatibleDestructuringPatterns, ReservedName}
use Rattle.base.specs.Refusal.{Line}
use Rattle.planner.specs.Answer.{line_of}
use Rattle.planner.specs.Operations.{Outcome, answered, Answered}
use Rattle.planner.specs.Laws.{LineLaws}

abbrev pub answer_of : Line → Result Plan PlanRefusal
answer_of l =
    cond (eqb l.number 0) (planned_as l.second l.third l.fourth)
    (cond (eqb l.number 1) (Err (TableRefused OverLimit))
    (cond (eqb l.number 2) (Err (TableRefused BreaksRules))
    (cond (eqb l.number 3) (Err (TableRefused TooDeep))
    (cond (eqb l.number 4) (Err (TableRefused EqualNames))
    (cond (eqb l.number 5) (Err RootOutside)
    (cond (eqb l.number 6) (Err (PlanTooLarge l.third))
    (cond (eqb l.number 11) (Err (ColonEqualsRequiresBindableLeft l.second))
    (cond (eqb l.number 12) (Err (ArraySizeMismatch l.second l.third l.fourth))
    (cond (eqb l.number 13) (Err (ArrayLengthMismatch l.second l.third l.fourth))
    (cond (eqb l.number 14) (Err (ObjectLiteralKeysMismatch l.second l.third))
    (cond (eqb l.number 15) (Err (ObjectFieldCountMismatch l.second l.third l.fourth))
    (cond (eqb l.number 16) (Err (ObjectKeyNotFound l.second))
    (cond (eqb l.number 17) (Err (VariableAlreadyDefined l.second))
    (cond (eqb l.number 18) (Err (IncompatibleDestructuringPatterns l.second))
    (Err (ReservedName l.second))))))))))))))))

back : (r : Result Plan PlanRefusal) → answer_of (line_of r) ≡ r
back (Ok p) = refl
back (Err (TableRefused OverLimit)) = refl
back (Err (TableRefused BreaksRules)) = refl
back (Err (TableRefused TooDeep)) = refl
back (Err (TableRefused EqualNames)) = refl
back (Err RootOutside) = refl
back (Err (PlanTooLarge needed)) = refl
back (Err (ColonEqualsRequiresBindableLeft left)) = refl
back (Err (ArraySizeMismatch left size other)) = refl
back (Err (ArrayLengthMismatch value expected actual)) = refl
back (Err (ObjectLiteralKeysMismatch value pattern)) = refl
back (Err (ObjectFieldCountMismatch left keys fields)) = refl
back (Err (ObjectKeyNotFound key)) = refl
back (Err (VariableAlreadyDefined name)) = refl
back (Err (IncompatibleDestructuringPatterns side)) = refl
back (Err (ReservedName name)) = refl

pub settled : (r q : Result Plan PlanRefusal) → line_of r ≡ line_of q → r ≡ q
settled r q e = sym (back r) ∙ (ap answer_of e ∙ back q)

pub line_laws : LineLaws
line_laws = record { settled = settled }

-- for a caller that goes by the enum
pub answer_is : {o : Outcome} {before after : List ℕ} {r : Result Plan PlanRefusal} → Answered o before after r → r ≡ answer_of (answered o before)
answer_is {r = r} a = sym (back r) ∙ ap answer_of a.answer
