-- Its code is of the shape that `proofs.Lending` speaks of.
use mathlib.Core.Path.{refl}
use mathlib.Core.List.{List, [], ◌∷◌}
use denote.Builtin.{u32}
use Rattle.scope.specs.contracts.Scope as S
use Rattle.scope.proofs.Scope.TheLaws as S'
use Rattle.scope.specs.contracts.ScopingMode as M
use Rattle.scope.proofs.ScopingMode.TheLaws as M'
use Rattle.teluddru.proofs.laws.Params.{Param, struct, enum, word, lent}
use Rattle.flush_sides.proofs.Lending.{IsLending}
use Rattle.teluddru.proofs.over_records.names_report.Symbol.{name as #names_report}
use Rattle.flush_sides.proofs.calls.names_report.Code as code

-- the parameters after text
abbrev ps : List (Param 5)
ps = struct S.the_type S'.the_laws ∷ enum M.the_type M'.the_laws tt ∷ word ∷ lent 4 tt u32 ∷ []

pub shape : IsLending code.function #names_report ps
shape = record { has = refl; goes = refl }
