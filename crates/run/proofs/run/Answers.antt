use Rattle.run.proofs.Refusing.{checks_pass, run_refused, run_carried}
use borrow.Author.Rules.{rules}
use Rattle.run.proofs.run.Goals as goal

pub returns-in-Err : goal.returns-in-Err
returns-in-Err c = search (run_refused, rules)

pub carry_out-requires : goal.carry_out-requires
carry_out-requires c = checks_pass _ _ _ _ _ c.check_run-checked.ensures c.in_default.is

pub returns : goal.returns
returns c = search (run_carried, rules)
