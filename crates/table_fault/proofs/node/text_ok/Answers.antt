use Rattle.table_fault.proofs.Tests.{text_name, text_other}
use borrow.Author.Rules.{rules}
use Rattle.table_fault.proofs.node.text_ok.Goals as goal

pub returns-then-kind_of-eq-NAME : goal.returns-then-kind_of-eq-NAME
returns-then-kind_of-eq-NAME c = search (text_name, rules)

pub returns : goal.returns
returns c = search (text_other, rules)
