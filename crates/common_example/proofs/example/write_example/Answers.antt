use Rattle.common_example.proofs.written.Giving.{example_settles, example_decides, example_fits, example_found, example_large, example_none}
use borrow.Author.Rules.{rules}
use Rattle.common_example.proofs.example.write_example.Goals as goal

pub settle-requires : goal.settle-requires
settle-requires c = search (example_settles, rules)

pub decide-verdict-requires : goal.decide-verdict-requires
decide-verdict-requires c = search (example_decides, rules)

pub write_found-requires : goal.write_found-requires
write_found-requires c = example_fits c.requires c.settle.ensures c.decide-verdict.ensures (search rules)

pub returns-in-Fits : goal.returns-in-Fits
returns-in-Fits c = example_found c.requires _ _ c.clear.ensures c.clear-2.ensures c.decide-verdict.ensures.decided (search rules) c.write_found.ensures

pub returns-in-TooLarge : goal.returns-in-TooLarge
returns-in-TooLarge c = example_large c.requires _ _ c.clear.ensures c.clear-2.ensures c.decide-verdict.ensures.decided (search rules)

pub returns-in-NoValue : goal.returns-in-NoValue
returns-in-NoValue c = example_none c.requires _ _ c.clear.ensures c.clear-2.ensures c.decide-verdict.ensures.decided (search rules)
