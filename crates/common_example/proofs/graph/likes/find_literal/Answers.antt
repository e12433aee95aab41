use Rattle.common_example.proofs.loops.graph.LiteralOrder.{literal_searches}
use Rattle.literal.proofs.Searched.{searched}
use Rattle.std.proofs.Common.{rules, of_calls}
use Rattle.common_example.proofs.graph.likes.find_literal.Goals as goal

pub returns : goal.returns
returns c =
    let literals = literal_searches c.requires c.told-order in
    record { place = searched literals _ c.search_by.ensures.bound c.search_by.ensures.position (λ a r f k. search (rules, of_calls)) }
