use Rattle.operation.proofs.Versions.{none_other, none_table, none_roots, ask_names, the_reserved}
use borrow.Author.Rules.{rules}
use Rattle.operation.proofs.version.refusing_name.Goals as goal

pub returns-then-version-ne-REGO_V1 : goal.returns-then-version-ne-REGO_V1
returns-then-version-ne-REGO_V1 c = search (none_other, rules)

pub returns-in-Err : goal.returns-in-Err
returns-in-Err c = search (none_table, rules)

pub returns-then-not-roots_are_nodes : goal.returns-then-not-roots_are_nodes
returns-then-not-roots_are_nodes c = search (none_roots, rules)

pub first_reserved-requires : goal.first_reserved-requires
first_reserved-requires c = ask_names _ _ _ c.check-checked.ensures c.in_default.is c.roots_are_nodes.ensures c.if-not-roots_are_nodes.false-raw

pub returns : goal.returns
returns c = search (the_reserved, rules)
