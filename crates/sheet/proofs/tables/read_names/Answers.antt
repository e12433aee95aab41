use Rattle.sheet.proofs.tables.TableTests.{marks_asked, words_asked, rows_fail, marks_fail, names_read}
use borrow.Author.Rules.{rules}
use Rattle.sheet.proofs.tables.read_names.Goals as goal

pub returns-then-not-read_lines : goal.returns-then-not-read_lines
returns-then-not-read_lines c = search (rows_fail, rules)

pub fill_marks-requires : goal.fill_marks-requires
fill_marks-requires c = search (marks_asked, rules)

pub returns-then-not-fill_marks : goal.returns-then-not-fill_marks
returns-then-not-fill_marks c = marks_fail _ _ _ c.read_lines.ensures (search rules) c.fill_marks.ensures (search rules)

pub close_up-requires : goal.close_up-requires
close_up-requires c = search (words_asked, rules)

pub returns : goal.returns
returns c = search (names_read, rules)
