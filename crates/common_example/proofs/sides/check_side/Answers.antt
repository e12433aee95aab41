use Rattle.common_example.proofs.loops.SideChecks.{table_refused_lem, ask_root, side_ends}
use Rattle.common_example.proofs.sides.check_side.Goals as goal

pub returns-in_err-check : goal.returns-in_err-check
returns-in_err-check c = table_refused_lem _ _ _ c.check.ensures c.in_err-check.was c.from_residual.ensures.1

pub check_root-requires : goal.check_root-requires
check_root-requires c = ask_root _ _ c.check.ensures c.in_ok-check.was

pub returns : goal.returns
returns c = side_ends _ _ _ c.check.ensures c.in_ok-check.was c.check_root.ensures
