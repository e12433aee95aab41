use Rattle.page.proofs.EntryLines.{entering_start, entry_asked, entering_on, entering_ends}
use borrow.Author.Rules.{rules}
use Rattle.page.proofs.lines.write_entries.Goals as goal

pub loop-i-init : goal.loop-i-init
loop-i-init c = search (entering_start, rules)

pub write_entry-requires : goal.write_entry-requires
write_entry-requires c = search (entry_asked, rules)

pub loop-i-preserved : goal.loop-i-preserved
loop-i-preserved c = search (entering_on, rules)

pub returns : goal.returns
returns c = search (entering_ends, rules)
