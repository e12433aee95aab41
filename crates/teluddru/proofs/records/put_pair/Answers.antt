use mathlib.Core.Path.{refl}
use Rattle.teluddru.proofs.records.put_pair.Goals as goal

pub returns : goal.returns
returns c = refl
