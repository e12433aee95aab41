use Rattle.page.proofs.SheetPages.{sheet_turned, plan_asked, sheet_laid}
use borrow.Author.Rules.{rules}
use Rattle.page.proofs.lay_out_pages.Goals as goal

pub returns-then-row-ne0 : goal.returns-then-row-ne0
returns-then-row-ne0 c = search (sheet_turned, rules)

pub lay_out_plan-requires : goal.lay_out_plan-requires
lay_out_plan-requires c = search (plan_asked, rules)

pub returns : goal.returns
returns c = search (sheet_laid, rules)
