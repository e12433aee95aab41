-- Its code is of the shape that `proofs.laws.Passing` speaks of.
use mathlib.Core.Path.{refl}
use mathlib.Core.List.{List, [], ◌∷◌}
use denote.Builtin.{u32}
use Rattle.scope.specs.contracts.Scope as S
use Rattle.scope.proofs.Scope.TheLaws as S'
use Rattle.operation.specs.contracts.Operation as O
use Rattle.operation.proofs.Operation.TheLaws as O'
use Rattle.teluddru.proofs.laws.Params.{Param, struct, enum, word, lent}
use Rattle.teluddru.proofs.laws.Passing.{IsPassing}
use Rattle.teluddru.proofs.words.plans.plan_words.Symbol.{name as #plan_words}
use Rattle.teluddru.proofs.over_records.plan.Code as code

-- the parameters after text
abbrev ps : List (Param 6)
ps = struct S.the_type S'.the_laws ∷ enum O.the_type O'.the_laws tt ∷ word ∷ lent 5 tt u32 ∷ []

pub shape : IsPassing code.function #plan_words ps
shape = record { has = refl; goes = refl }
