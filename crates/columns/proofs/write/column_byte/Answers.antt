use Rattle.columns.proofs.write.Writing.{byte_blank, byte_digit}
use borrow.Author.Rules.{rules}
use Rattle.columns.proofs.write.column_byte.Goals as goal

pub returns-then-rest-eq0 : goal.returns-then-rest-eq0
returns-then-rest-eq0 c = search (byte_blank, rules)

pub returns : goal.returns
returns c = search (byte_digit, rules)
