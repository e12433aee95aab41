use Rattle.common_example.proofs.arrays.Common.{sides_first, sides_second}
use Rattle.common_example.proofs.check_sides.Goals as goal

pub returns-in_err-refused_side : goal.returns-in_err-refused_side
returns-in_err-refused_side c = sides_first c.refused_side.ensures c.in_err-refused_side.was c.from_residual.ensures.1

pub returns : goal.returns
returns c = sides_second c.refused_side.ensures c.in_ok-refused_side.was c.refused_side-2.ensures
