use Rattle.literal.proofs.Answers.{text_left}
use borrow.Author.Rules.{rules}
use Rattle.literal.proofs.text.compare_string_text.Goals as goal

pub returns : goal.returns
returns c = search (text_left, rules)
