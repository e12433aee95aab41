use Rattle.assignment.proofs.preview.Previews.{roomy_kept}
use Rattle.assignment.proofs.laws.Sides.{ask_sides, equals_both, equals_left, equals_right, equals_none}
use borrow.Author.Rules.{rules}
use Rattle.assignment.proofs.assignment.equals_in.Goals as goal

pub preview_sides-sides-requires : goal.preview_sides-sides-requires
preview_sides-sides-requires c = (search (ask_sides, rules), search rules)

pub flatten_assignment_pairs-requires : goal.flatten_assignment_pairs-requires
flatten_assignment_pairs-requires c = (search rules, search (roomy_kept, rules))

pub returns-then-sides-2 : goal.returns-then-sides-2
returns-then-sides-2 c = (search (equals_both, c.requires.0, c.preview_sides-sides.ensures, rules), tt)

pub returns-then-sides : goal.returns-then-sides
returns-then-sides c = (equals_left _ _ _ _ c.requires.0 (search rules) c.preview_sides-sides.ensures _ (search rules) (search rules) c.bind_side.ensures, tt)

pub bind_right-requires : goal.bind_right-requires
bind_right-requires c = (search (ask_sides, rules), search (roomy_kept, rules))

pub returns-then-sides-3 : goal.returns-then-sides-3
returns-then-sides-3 c = (search (equals_right, c.requires.0, c.preview_sides-sides.ensures, c.bind_right.ensures.answered, rules), tt)

pub returns : goal.returns
returns c = (search (equals_none, rules), tt)
