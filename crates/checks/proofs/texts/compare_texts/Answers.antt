use Rattle.checks.proofs.TextLoops.{few_keys, texts_compared_lem}
use borrow.Author.Rules.{rules}
use Rattle.checks.proofs.texts.compare_texts.Goals as goal

pub same_texts-same-requires : goal.same_texts-same-requires
same_texts-same-requires c = search (few_keys, rules)

pub returns : goal.returns
returns c = search (texts_compared_lem, rules)
