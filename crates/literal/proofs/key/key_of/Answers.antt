use Rattle.literal.proofs.Keys.{key_at_lem}
use Rattle.literal.specs.Reading.{literal_of}
use Rattle.literal.specs.code.SortKey.{key_of}
use borrow.Author.Rules.{rules}
use Rattle.literal.proofs.key.key_of.Goals as goal

pub returns-in-Null : goal.returns-in-Null
unfolding literal_of key_of
returns-in-Null c = search (key_at_lem, rules)

pub returns-in-False : goal.returns-in-False
unfolding literal_of key_of
returns-in-False c = search (key_at_lem, rules)

pub returns-in-True : goal.returns-in-True
unfolding literal_of key_of
returns-in-True c = search (key_at_lem, rules)

pub returns-in-Number : goal.returns-in-Number
unfolding literal_of key_of
returns-in-Number c = search (key_at_lem, rules)

pub returns-in-String : goal.returns-in-String
unfolding literal_of key_of
returns-in-String c = search (key_at_lem, rules)

pub returns-in-RawString : goal.returns-in-RawString
unfolding literal_of key_of
returns-in-RawString c = search (key_at_lem, rules)
