use Rattle.table.proofs.trees.Words.{text_part}
use Rattle.table.proofs.tests.Clauses.{text_same}
use borrow.Author.Rules.{rules}
use Rattle.table.proofs.inner.node.name_text_ok.Goals as goal

pub returns : goal.returns
returns c = search (text_same, text_part, rules)
