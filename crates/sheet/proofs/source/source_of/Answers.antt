use Rattle.sheet.proofs.source.SourceTests.{place_fits, span_back, span_on}
use borrow.Author.Rules.{rules}
use Rattle.sheet.proofs.source.source_of.Goals as goal

pub overflow_add-places : goal.overflow_add-places
overflow_add-places c = search (place_fits, rules)

pub overflow_add-places-2 : goal.overflow_add-places-2
overflow_add-places-2 c = search (place_fits, rules)

pub returns-then-end-start : goal.returns-then-end-start
returns-then-end-start c = search (span_back, rules)

pub returns : goal.returns
returns c = search (span_on, rules)
