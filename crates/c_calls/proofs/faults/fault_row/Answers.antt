use Rattle.c_calls.proofs.FaultsTold.{fault_none, fault_some}
use borrow.Author.Rules.{rules}
use Rattle.c_calls.proofs.faults.fault_row.Goals as goal

pub returns-in-None : goal.returns-in-None
returns-in-None c = search (fault_none, rules)

pub returns-in-Some : goal.returns-in-Some
returns-in-Some c = search (fault_some, rules)
