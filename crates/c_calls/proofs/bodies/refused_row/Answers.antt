use Rattle.c_calls.proofs.BodyCalls.{body_row_is}
use borrow.Author.Rules.{rules}
use Rattle.c_calls.proofs.bodies.refused_row.Goals as goal

pub returns-in-NotABody : goal.returns-in-NotABody
returns-in-NotABody c = search (body_row_is, rules)

pub returns-in-LineRefused : goal.returns-in-LineRefused
returns-in-LineRefused c = search (body_row_is, rules)

pub returns-in-NameNotReady : goal.returns-in-NameNotReady
returns-in-NameNotReady c = search (body_row_is, rules)
