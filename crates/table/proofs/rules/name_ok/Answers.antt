use Rattle.table.proofs.tests.Clauses.{name_short, name_long, name_spans}
use borrow.Author.Rules.{rules}
use Rattle.table.proofs.rules.name_ok.Goals as goal

pub returns-then-length-lt1 : goal.returns-then-length-lt1
returns-then-length-lt1 c = search (name_short, rules)

pub returns-then-length-gt255 : goal.returns-then-length-gt255
returns-then-length-gt255 c = search (name_long, rules)

pub returns : goal.returns
returns c = search (name_spans, rules)
