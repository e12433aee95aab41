use Rattle.table.proofs.tests.NameOrder.{name_searches, name_found}
use Rattle.literal.proofs.Searched.{searched}
use Rattle.std.proofs.Common.{rules, of_calls}
use native.Mathlib.Omega.{arith}
use Rattle.table.proofs.names.find_name.Goals as goal

pub returns : goal.returns
returns c =
    let ascending = c.requires.0 in
    let bytes = c.args.bytes.now in
    let order = name_searches ascending bytes (omega (arith, c.told-order)) in
    name_found ascending bytes _ (searched order _ c.search_by.ensures.bound c.search_by.ensures.position (λ a r f k. search (rules, of_calls)))
