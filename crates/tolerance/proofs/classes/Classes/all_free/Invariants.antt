use Rattle.tolerance.specs.code.Classes.{free}
use Rattle.tolerance.specs.Tolerance.{num_order}
use Rattle.tolerance.specs.code.Post.{ranges_by, classes_in}
use Rattle.table.proofs.tests.Scan.{Scan}
use Rattle.tolerance.proofs.classes.Classes.all_free.Given as goal

abbrev pub invariant-loop-i : goal.invariant-loop-i
invariant-loop-i l = Scan (free num_order (ranges_by l.first) (classes_in l.self)) 1 512 l.i
