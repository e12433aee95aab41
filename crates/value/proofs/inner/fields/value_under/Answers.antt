use Rattle.value.proofs.Under.{position_found, ask_scan, scan_found}
use borrow.Author.Rules.{rules}
use Rattle.value.proofs.inner.fields.value_under.Goals as goal

pub returns-then-same_literals : goal.returns-then-same_literals
returns-then-same_literals c = search (position_found, rules)

pub scan_under-requires : goal.scan_under-requires
scan_under-requires c = search (ask_scan, rules)

pub returns : goal.returns
returns c = search (scan_found, rules)
