use Rattle.c_calls.proofs.Exampled.{example_first, example_fits, example_done}
use borrow.Author.Rules.{rules}
use Rattle.c_calls.proofs.examples.teluddru_common_example.Goals as goal

pub returns-in-Err : goal.returns-in-Err
returns-in-Err c = search (example_first, rules)

pub tell-requires : goal.tell-requires
tell-requires c = search (example_fits, rules)

pub returns : goal.returns
returns c = search (example_done, rules)
