use Rattle.checks.proofs.ObjectFields.{marking_start, marking_double, marking_place, marking_ask, marking_on, marking_ends}
use borrow.Author.Rules.{rules}
use Rattle.checks.proofs.partners.mark_partners.Goals as goal

pub loop-i-init : goal.loop-i-init
loop-i-init c = search (marking_start, rules)

pub overflow_mul-i : goal.overflow_mul-i
overflow_mul-i c = search (marking_double, rules)

pub overflow_add-first : goal.overflow_add-first
overflow_add-first c = search (marking_place, rules)

pub partner_place-place-requires : goal.partner_place-place-requires
partner_place-place-requires c = search (marking_ask, rules)

pub loop-i-preserved : goal.loop-i-preserved
loop-i-preserved c = search (marking_on, rules)

pub returns : goal.returns
returns c = search (marking_ends, rules)
