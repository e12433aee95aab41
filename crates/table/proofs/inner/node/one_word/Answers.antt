use Rattle.table.proofs.tests.Clauses.{one_word_in, one_word_out}
use borrow.Author.Rules.{rules}
use Rattle.table.proofs.inner.node.one_word.Goals as goal

pub returns-then-first-limit : goal.returns-then-first-limit
returns-then-first-limit c = search (one_word_in, rules)

pub returns : goal.returns
returns c = search (one_word_out, rules)
