use Rattle.literal.proofs.Strings.{bytes_string, bytes_raw, bytes_none}
use borrow.Author.Rules.{rules}
use Rattle.literal.proofs.text.string_bytes.Goals as goal

pub returns-in-String : goal.returns-in-String
returns-in-String c = search (bytes_string, rules)

pub returns-in-RawString : goal.returns-in-RawString
returns-in-RawString c = search (bytes_raw, rules)

pub returns-in_default : goal.returns-in_default
returns-in_default c = search (bytes_none, rules)
