use Rattle.sheet.proofs.lines.LineTests.{word_read, word_none}
use borrow.Author.Rules.{rules}
use Rattle.sheet.proofs.lines.read_word.Goals as goal

pub returns : goal.returns
returns c = search (word_read, rules)

pub returns-in_default : goal.returns-in_default
returns-in_default c = search (word_none, rules)
