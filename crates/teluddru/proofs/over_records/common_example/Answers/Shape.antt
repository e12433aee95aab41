-- Its code is of the shape that `proofs.laws.Passing` speaks of.
use mathlib.Core.Path.{refl}
use mathlib.Core.List.{List, [], ◌∷◌}
use denote.Builtin.{u32}
use Rattle.common_example.specs.contracts.sides.ScopedPattern as P
use Rattle.common_example.proofs.sides.ScopedPattern.TheLaws as P'
use Rattle.teluddru.proofs.laws.Params.{Param, struct, shared, lent}
use Rattle.teluddru.proofs.laws.Passing.{IsPassing}
use Rattle.teluddru.proofs.words.examples.example_words.Symbol.{name as #example_words}
use Rattle.teluddru.proofs.over_records.common_example.Code as code

-- the parameters after text
abbrev ps : List (Param 9)
ps = struct P.the_type P'.the_laws ∷ shared 5 tt u32 ∷ struct P.the_type P'.the_laws ∷ shared 6 tt u32 ∷ lent 7 tt u32 ∷ lent 8 tt u32 ∷ []

pub shape : IsPassing code.function #example_words ps
shape = record { has = refl; goes = refl }
