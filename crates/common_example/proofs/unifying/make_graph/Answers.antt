use Rattle.common_example.proofs.arrays.Unifying.{heads_ask, graph_made}
use borrow.Author.Rules.{rules}
use Rattle.common_example.proofs.unifying.make_graph.Goals as goal

pub head_words-requires : goal.head_words-requires
head_words-requires c = search (heads_ask, rules)

pub returns : goal.returns
returns c = search (graph_made, rules)
