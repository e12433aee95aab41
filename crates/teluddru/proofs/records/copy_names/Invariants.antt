use Rattle.std.proofs.Common.{◌≡◌, ◌≤◌, replicate}
use Rattle.teluddru.proofs.laws.Copying.{after}
use Rattle.teluddru.proofs.records.copy_names.Given as goal

-- the first i records are copied
abbrev pub invariant-loop-i : goal.invariant-loop-i
invariant-loop-i l = (l.i ≤ l.count) × (l.words ≡ after l.i l.names (replicate 258 0))
