use Rattle.sheet.proofs.header.Headings.{header_refused, header_good}
use borrow.Author.Rules.{rules}
use Rattle.sheet.proofs.plan_sheet.Goals as goal

pub list_headed-requires : goal.list_headed-requires
list_headed-requires c = search (header_good, rules)

pub returns-in-Err : goal.returns-in-Err
returns-in-Err c = search (header_refused, rules)
