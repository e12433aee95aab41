use Rattle.plan_store.proofs.head.Passes.{Sharing}
use Rattle.plan_store.proofs.head.shares_ok.Given as goal

abbrev pub invariant-loop-share : goal.invariant-loop-share
invariant-loop-share l = Sharing l.shares l.share-index l.left
