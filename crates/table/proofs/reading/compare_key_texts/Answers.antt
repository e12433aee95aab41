use Rattle.table.proofs.tests.Bytes.{by_text, left_none, left_literal}
use borrow.Author.Rules.{rules}
use Rattle.table.proofs.reading.compare_key_texts.Goals as goal

pub returns-in_default : goal.returns-in_default
returns-in_default c = search (left_none by_text, rules)

pub returns : goal.returns
returns c = search (left_literal by_text, rules)
