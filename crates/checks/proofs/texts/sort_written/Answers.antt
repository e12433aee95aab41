use Rattle.checks.proofs.TextLoops.{written_start, written_key, written_on, written_ends}
use borrow.Author.Rules.{rules}
use Rattle.checks.proofs.texts.sort_written.Goals as goal

pub loop-i-init : goal.loop-i-init
loop-i-init c = search (written_start, rules)

pub add_key-size-requires : goal.add_key-size-requires
add_key-size-requires c = search (written_key, rules)

pub loop-i-preserved : goal.loop-i-preserved
loop-i-preserved c = search (written_on, rules)

pub returns : goal.returns
returns c = search (written_ends, rules)
