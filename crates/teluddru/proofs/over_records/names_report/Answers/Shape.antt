-- Its code is of the shape that `proofs.laws.Passing` speaks of.
use mathlib.Core.Path.{refl}
use mathlib.Core.List.{List, [], ◌∷◌}
use denote.Builtin.{u32}
use Rattle.scope.specs.contracts.Scope as S
use Rattle.scope.proofs.Scope.TheLaws as S'
use Rattle.scope.specs.contracts.ScopingMode as M
use Rattle.scope.proofs.ScopingMode.TheLaws as M'
use Rattle.teluddru.proofs.laws.Params.{Param, struct, enum, word, lent}
use Rattle.teluddru.proofs.laws.Passing.{IsPassing}
use Rattle.teluddru.proofs.words.reports.report_words.Symbol.{name as #report_words}
use Rattle.teluddru.proofs.over_records.names_report.Code as code

-- the parameters after text
abbrev ps : List (Param 6)
ps = struct S.the_type S'.the_laws ∷ enum M.the_type M'.the_laws tt ∷ word ∷ lent 5 tt u32 ∷ []

pub shape : IsPassing code.function #report_words ps
shape = record { has = refl; goes = refl }
