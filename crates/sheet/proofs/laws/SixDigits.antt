-- Six digits are enough for each number of a listing.
use Prim.Native.Nat.{ℕ}
use mathlib.Core.Bool.{Bool, true, false, cond}
use mathlib.Core.List.{List}
use native.Mathlib.Omega.{arith}
use lib.Dec.{leb}
use lib.ListN.{length}
use Rattle.base.specs.Refusal.{line, refusal_line, plan_too_large, layout_broken, over_limit}
use Rattle.planner.specs.Operations.{Outcome, refused, planned}
use Rattle.planner.specs.Short.{ShortOutcome}
use Rattle.planner.proofs.laws.ShortOutcomes.{short, refusal_short}
use Rattle.operation.proofs.ShortOperation.{operation_short}
use Rattle.sheet.specs.Sheet.{line1, unparsed, parsed, parse, counts_of, counts_ok, layout_ok, sheet_of}
use Rattle.sheet.specs.Outcome.{outcome_of_sheet}
use Rattle.sheet.specs.Listing.{followed, alone, lines_of}
use Rattle.sheet.specs.Lines.{is_line}
use Rattle.sheet.specs.Laws.{ShortListing, SixDigits}

lines_short : (o : Outcome) → ShortOutcome o → ShortListing (lines_of o)
unfolding lines_of
lines_short (refused r) p = record { head = p; each = tt }
lines_short (planned form side es) p = go (leb (length es) 1536)
  where
    go : (b : Bool) → ShortListing (cond b (followed (line 0 form side (length es)) es) (alone (refusal_line (plan_too_large (length es)))))
    go true = record { head = p.0; each = p.1 }
    go false = record { head = short (omega arith) (omega arith) p.0.four (omega arith); each = tt }

-- a sheet that is not read has 1 or 7
sheet_short : (sheet : List ℕ) → ShortOutcome (outcome_of_sheet (parse sheet))
unfolding parse
sheet_short sheet = go (is_line sheet line1 6) (counts_ok (counts_of sheet)) (layout_ok sheet (counts_of sheet))
  where
    go : (a b c : Bool) → ShortOutcome (outcome_of_sheet (cond a (cond b (cond c (parsed (sheet_of sheet (counts_of sheet))) (unparsed layout_broken)) (unparsed over_limit)) (unparsed layout_broken)))
    go false b c = refusal_short (omega arith) (omega arith)
    go true false c = refusal_short (omega arith) (omega arith)
    go true true false = refusal_short (omega arith) (omega arith)
    go true true true = operation_short _ _ _

pub six_digits : SixDigits
six_digits = record { short = λ sheet. lines_short (outcome_of_sheet (parse sheet)) (sheet_short sheet) }
