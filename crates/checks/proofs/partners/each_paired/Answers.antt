use Rattle.checks.proofs.ObjectFields.{paired_present, paired_careful}
use borrow.Author.Rules.{rules}
use Rattle.checks.proofs.partners.each_paired.Goals as goal

pub returns-in-Present : goal.returns-in-Present
returns-in-Present c = search (paired_present, rules)

pub returns-in-Careful : goal.returns-in-Careful
returns-in-Careful c = search (paired_careful, rules)
