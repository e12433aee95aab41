use Rattle.literal.proofs.TextOrder.{ranks_differ, signs_differ, form_by_digits}
use borrow.Author.Rules.{rules}
use Rattle.literal.proofs.text.same_form.Goals as goal

pub returns-then-x-y : goal.returns-then-x-y
returns-then-x-y c = search (ranks_differ, rules)

pub returns-then-x-y-2 : goal.returns-then-x-y-2
returns-then-x-y-2 c = search (signs_differ, rules)

pub returns : goal.returns
returns c = search (form_by_digits, rules)
