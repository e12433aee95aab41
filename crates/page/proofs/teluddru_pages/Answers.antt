use Rattle.page.proofs.Telling.{pages_fit_lem, pages_told}
use borrow.Author.Rules.{rules}
use Rattle.page.proofs.teluddru_pages.Goals as goal

pub tell-requires : goal.tell-requires
tell-requires c = search (pages_fit_lem, rules)

pub returns : goal.returns
returns c = search (pages_told, rules)
