use Rattle.planner.proofs.buffer.Copies.{copying_start, copying_full, copying_on, copying_ends}
use borrow.Author.Rules.{rules}
use Rattle.planner.proofs.buffer.copy_entries.Goals as goal

pub loop-i-init : goal.loop-i-init
loop-i-init c = search (copying_start, rules)

pub returns-then-plan-to : goal.returns-then-plan-to
returns-then-plan-to c = search (copying_full, rules)

pub loop-i-preserved : goal.loop-i-preserved
loop-i-preserved c = copying_on c.loop-i.invariant c.loop-i-test.true c.word_of.ensures c.word_of-in-loop-i.ensures c.word_of-in-loop-i-2.ensures c.word_of-in-loop-i-3.ensures c.word_of-in-loop-i-4.ensures c.put_entry.ensures

pub returns : goal.returns
returns c = search (copying_ends, rules)
