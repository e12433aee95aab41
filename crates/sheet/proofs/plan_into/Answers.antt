use Rattle.sheet.proofs.header.Headings.{header_into, header_good}
use borrow.Author.Rules.{rules}
use Rattle.sheet.proofs.plan_into.Goals as goal

pub plan_headed-requires : goal.plan_headed-requires
plan_headed-requires c = search (header_good, rules)

pub returns-in-Err : goal.returns-in-Err
returns-in-Err c = search (header_into, rules)
