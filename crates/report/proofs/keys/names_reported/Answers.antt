use Rattle.report.proofs.KeyNames.{ask_walk, reported_words}
use borrow.Author.Rules.{rules}
use Rattle.report.proofs.keys.names_reported.Goals as goal

pub mark_keys-requires : goal.mark_keys-requires
mark_keys-requires c = search (ask_walk, rules)

pub returns : goal.returns
returns c = search (reported_words, rules)
