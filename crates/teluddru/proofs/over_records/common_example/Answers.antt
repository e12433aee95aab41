mod Shape
use mathlib.Core.Path.{refl}
use Prim.Native.Nat.{ℕ}
use mathlib.Core.List.{List}
use Rattle.table.specs.Tables.{tables}
use Rattle.teluddru.proofs.laws.AllNames.{example_all}
use Rattle.teluddru.proofs.over_records.common_example.Goals as goal

pub returns : goal.returns
returns c =
    example_all (λ (ws : List ℕ). tables c.args.nodes.now c.args.children.now c.args.numbers.now ws c.args.strings.now c.args.text.now) (λ names. refl)
    c.args.first c.args.second c.args.values1.now c.args.values2.now
    c.args.names.now c.copy_names.result c.copy_names.ensures c.example_words.ensures
