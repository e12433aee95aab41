use Rattle.matching.proofs.Carried.{pattern_links, pattern_asks, pattern_matched, pattern_missed}
use borrow.Author.Rules.{rules}
use Rattle.matching.proofs.inner.match_pattern.Goals as goal

pub link_entries-links-requires : goal.link_entries-links-requires
link_entries-links-requires c = search (pattern_links, rules)

pub match_entry-requires : goal.match_entry-requires
match_entry-requires c = search (pattern_asks, rules)

pub returns-then-match_entry : goal.returns-then-match_entry
returns-then-match_entry c = search (pattern_matched, rules)

pub returns : goal.returns
returns c = search (pattern_missed, rules)
