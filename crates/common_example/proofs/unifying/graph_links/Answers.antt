use Rattle.common_example.proofs.arrays.Unifying.{links_made}
use borrow.Author.Rules.{rules}
use Rattle.common_example.proofs.unifying.graph_links.Goals as goal

pub returns : goal.returns
returns c = search (links_made, rules)
