use Rattle.common_example.proofs.loops.writing.WriteWords.{null_written, literal_written}
use borrow.Author.Rules.{rules}
use Rattle.common_example.proofs.writing.write_literal.Goals as goal

pub returns-then-literal-eq0 : goal.returns-then-literal-eq0
returns-then-literal-eq0 c = search (null_written, rules)

pub returns : goal.returns
returns c = search (literal_written, rules)
