use Rattle.table.proofs.tests.Clauses.{named_low, named_high, named_counted, named_text}
use borrow.Author.Rules.{rules}
use Rattle.table.proofs.inner.node.name_words_ok.Goals as goal

pub returns-then-name-lt1 : goal.returns-then-name-lt1
returns-then-name-lt1 c = search (named_low, rules)

pub returns-then-names-name : goal.returns-then-names-name
returns-then-names-name c = search (named_high, rules)

pub returns-then-node_word-ne0 : goal.returns-then-node_word-ne0
returns-then-node_word-ne0 c = search (named_counted, rules)

pub returns : goal.returns
returns c = search (named_text, rules)
