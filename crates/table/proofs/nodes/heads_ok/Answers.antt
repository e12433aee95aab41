use Rattle.table.proofs.tests.Scan.{scan_start, scan_ends}
use Rattle.table.proofs.tests.Clauses.{head_span, head_words_lem, head_on}
use borrow.Author.Rules.{rules}
use Rattle.table.proofs.nodes.heads_ok.Goals as goal

pub loop-i-init : goal.loop-i-init
loop-i-init c = search (scan_start, rules)

pub returns-then-not-span_ok : goal.returns-then-not-span_ok
returns-then-not-span_ok c = search (head_span, rules)

pub returns-then-not-words_ok : goal.returns-then-not-words_ok
returns-then-not-words_ok c = search (head_words_lem, rules)

pub loop-i-preserved : goal.loop-i-preserved
loop-i-preserved c = let w = c.loop-i.invariant in
    search (head_on _ _ _ _ _ _ w, rules)

pub returns : goal.returns
returns c = search (scan_ends, rules)
