use Rattle.c_calls.proofs.BodyCalls.{told_with_line}
use borrow.Author.Rules.{rules}
use Rattle.c_calls.proofs.bodies.tell_body.Goals as goal

pub returns : goal.returns
returns c = search (told_with_line, rules)
