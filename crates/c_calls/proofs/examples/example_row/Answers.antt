use Rattle.c_calls.proofs.Exampled.{example_is, example_side}
use borrow.Author.Rules.{rules}
use Rattle.c_calls.proofs.examples.example_row.Goals as goal

pub returns-in-Ok-Some : goal.returns-in-Ok-Some
returns-in-Ok-Some c = search (example_is, rules)

pub returns-in-Ok-None : goal.returns-in-Ok-None
returns-in-Ok-None c = search (example_is, rules)

pub returns-in-Err-SideRefused : goal.returns-in-Err-SideRefused
returns-in-Err-SideRefused c = search (example_side, rules)

pub returns-in-Err-ValueTooLarge : goal.returns-in-Err-ValueTooLarge
returns-in-Err-ValueTooLarge c = search (example_is, rules)
