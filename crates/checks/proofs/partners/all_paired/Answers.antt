use Rattle.checks.proofs.ObjectFields.{none_marked, paired_done}
use Rattle.checks.proofs.PatternObjects.{slots_few}
use borrow.Author.Rules.{rules}
use Rattle.checks.proofs.partners.all_paired.Goals as goal

pub mark_partners-requires : goal.mark_partners-requires
mark_partners-requires c = (search rules, search (none_marked, rules))

pub all_marked-requires : goal.all_marked-requires
all_marked-requires c = search (slots_few, rules)

pub returns : goal.returns
returns c = search (paired_done, rules)
