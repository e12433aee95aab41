use Rattle.teluddru.proofs.words.tolerances.tolerance_words.Goals as goal

pub returns : goal.returns
returns c = rw c.among-tables.ensures at c.run_with_tolerance.ensures
