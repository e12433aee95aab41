use Rattle.c_calls.proofs.FaultsTold.{fault_fits, fault_done}
use borrow.Author.Rules.{rules}
use Rattle.c_calls.proofs.faults.teluddru_table_fault.Goals as goal

pub tell-requires : goal.tell-requires
tell-requires c = search (fault_fits, rules)

pub returns : goal.returns
returns c = search (fault_done, rules)
