-- Its code is of the shape that `proofs.laws.Passing` speaks of.
use mathlib.Core.Path.{refl}
use mathlib.Core.List.{List, [], ◌∷◌}
use denote.Builtin.{u32}
use Rattle.scope.specs.contracts.Scope as S
use Rattle.scope.proofs.Scope.TheLaws as S'
use Rattle.teluddru.proofs.laws.Params.{Param, struct, shared, lent}
use Rattle.teluddru.proofs.laws.Passing.{IsPassing}
use Rattle.teluddru.proofs.words.bodies.body_words.Symbol.{name as #body_words}
use Rattle.teluddru.proofs.over_records.plan_body.Code as code

-- the parameters after text
abbrev ps : List (Param 7)
ps = struct S.the_type S'.the_laws ∷ shared 5 tt u32 ∷ lent 6 tt u32 ∷ []

pub shape : IsPassing code.function #body_words ps
shape = record { has = refl; goes = refl }
