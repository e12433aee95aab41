use Rattle.tolerance.proofs.tables.Decided.{decide_meet, decided_never, decided_always, decided_sometimes}
use borrow.Author.Rules.{rules}
use Rattle.tolerance.proofs.deciding.decide.Goals as goal

pub meet-requires : goal.meet-requires
meet-requires c = search (decide_meet, rules)

pub returns-then-not-meet : goal.returns-then-not-meet
returns-then-not-meet c = search (decided_never, rules)

pub returns-then-all_free : goal.returns-then-all_free
returns-then-all_free c = search (decided_always, rules)

pub returns : goal.returns
returns c = search (decided_sometimes, rules)
