use Rattle.name_table.proofs.Cases.{put_many, put_none, put_there}
use borrow.Author.Rules.{rules}
use Rattle.name_table.proofs.put_name.Goals as goal

pub returns-then-names-last : goal.returns-then-names-last
returns-then-names-last c = search (put_none, rules)

pub returns-then-used-gt127 : goal.returns-then-used-gt127
returns-then-used-gt127 c = search (put_many, rules)

pub returns : goal.returns
returns c = search (put_there, rules)
