use Rattle.common_example.proofs.arrays.Common.{side_turned, side_passed}
use Rattle.common_example.proofs.refused_side.Goals as goal

pub returns-in_err-check_side : goal.returns-in_err-check_side
returns-in_err-check_side c = side_turned c.check_side.ensures c.in_err-check_side.was c.from_residual.ensures.1

pub returns : goal.returns
returns c = side_passed c.check_side.ensures c.in_ok-check_side.was
