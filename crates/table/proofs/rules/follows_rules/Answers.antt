use Rattle.table.proofs.tests.Answers.{names_few, rules_lists, ask_nodes, rules_nodes, rules_scope}
use borrow.Author.Rules.{rules}
use Rattle.table.proofs.rules.follows_rules.Goals as goal

pub lists_ok-requires : goal.lists_ok-requires
lists_ok-requires c = search (names_few, rules)

pub returns-then-not-lists_ok : goal.returns-then-not-lists_ok
returns-then-not-lists_ok c = search (rules_lists, rules)

pub nodes_ok-requires : goal.nodes_ok-requires
nodes_ok-requires c = search (ask_nodes, rules)

pub returns-then-not-nodes_ok : goal.returns-then-not-nodes_ok
returns-then-not-nodes_ok c = search (rules_nodes, rules)

pub returns : goal.returns
returns c = search (rules_scope, rules)
