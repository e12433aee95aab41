-- Its code is of the shape that `proofs.Lending` speaks of.
use mathlib.Core.Path.{refl}
use mathlib.Core.List.{List, [], ◌∷◌}
use denote.Builtin.{u32}
use Rattle.scope.specs.contracts.Scope as S
use Rattle.scope.proofs.Scope.TheLaws as S'
use Rattle.operation.specs.contracts.Operation as O
use Rattle.operation.proofs.Operation.TheLaws as O'
use Rattle.teluddru.proofs.laws.Params.{Param, struct, enum, word, lent}
use Rattle.flush_sides.proofs.Lending.{IsLending}
use Rattle.teluddru.proofs.over_records.plan.Symbol.{name as #plan}
use Rattle.flush_sides.proofs.calls.plan.Code as code

-- the parameters after text
abbrev ps : List (Param 5)
ps = struct S.the_type S'.the_laws ∷ enum O.the_type O'.the_laws tt ∷ word ∷ lent 4 tt u32 ∷ []

pub shape : IsLending code.function #plan ps
shape = record { has = refl; goes = refl }
