use Rattle.checks.proofs.TextLoops.{added_none, ask_text, added_key}
use borrow.Author.Rules.{rules}
use Rattle.checks.proofs.texts.add_key.Goals as goal

pub returns-in_default : goal.returns-in_default
returns-in_default c = search (added_none, rules)

pub find_text-place-requires : goal.find_text-place-requires
find_text-place-requires c = search (ask_text, rules)

pub returns : goal.returns
returns c = search (added_key, rules)
