use Rattle.table.proofs.tests.Bytes.{other_length, same_equal, same_less, same_greater, same_none}
use borrow.Author.Rules.{rules}
use Rattle.table.proofs.reading.same_bytes.Goals as goal

pub returns-then-a-b : goal.returns-then-a-b
returns-then-a-b c = search (other_length, rules)

pub returns-in-Equal : goal.returns-in-Equal
returns-in-Equal c = search (same_equal, rules)

pub returns-in-Less : goal.returns-in-Less
returns-in-Less c = search (same_less, rules)

pub returns-in-Greater : goal.returns-in-Greater
returns-in-Greater c = search (same_greater, rules)

pub returns-in-NoLiteral : goal.returns-in-NoLiteral
returns-in-NoLiteral c = search (same_none, rules)
