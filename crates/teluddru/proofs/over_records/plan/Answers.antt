mod Shape
use mathlib.Core.Path.{refl}
use Prim.Native.Nat.{ℕ}
use mathlib.Core.List.{List}
use Rattle.table.specs.Tables.{tables}
use Rattle.teluddru.proofs.laws.AllNames.{plan_all}
use Rattle.teluddru.proofs.over_records.plan.Goals as goal

pub returns : goal.returns
returns c =
    plan_all (λ (ws : List ℕ). tables c.args.nodes.now c.args.children.now c.args.numbers.now ws c.args.strings.now c.args.text.now) (λ names. refl)
    c.args.scope c.args.version c.args.operation
    c.args.names.now c.copy_names.result c.copy_names.ensures c.plan_words.ensures
