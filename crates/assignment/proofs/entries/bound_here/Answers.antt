use Rattle.assignment.proofs.entries.Reading.{here_reply, here_other}
use borrow.Author.Rules.{rules}
use Rattle.assignment.proofs.entries.bound_here.Goals as goal

pub returns-then-kind-eq-BIND : goal.returns-then-kind-eq-BIND
returns-then-kind-eq-BIND c = search (here_reply, rules)

pub returns : goal.returns
returns c = search (here_other, rules)
