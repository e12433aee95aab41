use Rattle.table.proofs.tests.Bytes.{class_underscore, class_input, class_data, class_other}
use borrow.Author.Rules.{rules}
use Rattle.table.proofs.reading.name_class.Goals as goal

pub returns-then-same_bytes : goal.returns-then-same_bytes
returns-then-same_bytes c = search (class_underscore, rules)

pub returns-then-same_bytes-2 : goal.returns-then-same_bytes-2
returns-then-same_bytes-2 c = search (class_input, rules)

pub returns-then-same_bytes-3 : goal.returns-then-same_bytes-3
returns-then-same_bytes-3 c = search (class_data, rules)

pub returns : goal.returns
returns c = search (class_other, rules)
