use Rattle.sheet.proofs.laws.ListingLines.{Entering}
use Rattle.sheet.proofs.listing.write_entries.Given as goal

abbrev pub invariant-loop-i : goal.invariant-loop-i
invariant-loop-i l = Entering l.initial.out l.plan l.count l.i l.out
