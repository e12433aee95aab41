use Rattle.c_calls.proofs.BodyCalls.{words_unlisted, words_body, words_none}
use borrow.Author.Rules.{rules}
use Rattle.c_calls.proofs.bodies.words_first.Goals as goal

pub returns-then-scheduler-gt1 : goal.returns-then-scheduler-gt1
returns-then-scheduler-gt1 c = search (words_unlisted, rules)

pub returns-then-not-is_body : goal.returns-then-not-is_body
returns-then-not-is_body c = search (words_none, rules)

pub returns : goal.returns
returns c = search (words_body, rules)
