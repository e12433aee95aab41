-- Its code is of the shape that `proofs.laws.Passing` speaks of.
use mathlib.Core.Path.{refl}
use mathlib.Core.List.{List, [], ◌∷◌}
use denote.Builtin.{u32, u64}
use Rattle.scope.specs.contracts.Scope as S
use Rattle.scope.proofs.Scope.TheLaws as S'
use Rattle.scope.specs.contracts.ScopingMode as M
use Rattle.scope.proofs.ScopingMode.TheLaws as M'
use Rattle.teluddru.proofs.laws.Params.{Param, struct, enum, word, shared, lent}
use Rattle.teluddru.proofs.laws.Passing.{IsPassing}
use Rattle.teluddru.proofs.words.tolerances.tolerance_words.Symbol.{name as #tolerance_words}
use Rattle.teluddru.proofs.over_records.run_with_tolerance.Code as code

-- the parameters after text
abbrev ps : List (Param 9)
ps = struct S.the_type S'.the_laws ∷ enum M.the_type M'.the_laws tt ∷ word ∷ word ∷ lent 5 tt u32 ∷ shared 6 tt u64 ∷ shared 7 tt u64 ∷ lent 8 tt u32 ∷ []

pub shape : IsPassing code.function #tolerance_words ps
shape = record { has = refl; goes = refl }
