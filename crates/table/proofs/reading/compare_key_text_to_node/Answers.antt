use Rattle.table.proofs.tests.Bytes.{by_text, right_none, right_literal}
use borrow.Author.Rules.{rules}
use Rattle.table.proofs.reading.compare_key_text_to_node.Goals as goal

pub returns-in_default : goal.returns-in_default
returns-in_default c = search (right_none by_text, rules)

pub returns : goal.returns
returns c = search (right_literal by_text, rules)
