-- Cells, page counts and the pages of document 01's sheet, computed.
use mathlib.Core.List.{[], ◌∷◌, ◌++◌}
use mathlib.Core.Path.{◌≡◌, refl}
use lib.ListN.{replicate}
use Rattle.literal.specs.Literal.{is_number}
use Rattle.literal.specs.Text.{digits, value}
use Rattle.literal.specs.Reading.{literal_of}
use Rattle.literal.specs.Order.{bytes_order, key_order}
use Rattle.columns.specs.Columns.{after_blanks, all_digits, is_decimal, read_column, column_bytes, signed_number, read_signed, justified}
use Rattle.scope.specs.Names.{is_name, contains}
use Rattle.scope.specs.Scope.{says, is_underscore, is_unbound}
use Rattle.scope.specs.Bytes.{word_from, marked, of_bytes}
use Rattle.table.specs.Tables.{record_word, width_of, name_bytes}
use Rattle.table.specs.Names.{same_bytes}
use Rattle.table.specs.Expr.{depth}
use Rattle.table.specs.Decode.{ref_of, literal_node, items, fields, headed, expr_at, expr}
use Rattle.base.specs.Lists.{all_from, elem, no_repeat, tabulate}
use Rattle.table.specs.Rules.{whole_records, span_ok, name_text_ok, words_ok, children_below, node_ok, places_from, used_places, name_ok, scope_ok, follows_rules, shallow, names_differ}
use Rattle.table.specs.Rules as Rules
use Rattle.table.specs.Check.{checked}
use Rattle.planner.specs.Plan.{plan}
use Rattle.planner.specs.Layout.{insert, concat, entries}
use Rattle.operation.specs.Operation.{operation_outcome}
use Rattle.operation.specs.Numbers.{are_listed, operation_of}
use Rattle.sheet.specs.Lines.{column_number, is_line, is_number_line, column_word_at, number_word}
use Rattle.sheet.specs.Sheet.{counts_ok, layout_ok, parse}
use Rattle.sheet.specs.Trial.{example_sheet}
use Rattle.sheet.specs.Source.{source_text}
use Rattle.page.specs.Page.{source_width, key_width, kind_width, blanks, left_in, cell, kind_name, entry_lines, page_count, cells_bytes, page_bytes}
use Rattle.page.specs.Answer.{pages_of_sheet, pages_answer, pages_after, page_line}
use Rattle.base.specs.Refusal.{line}
use Rattle.page.specs.Trial.{example_pages}

-- source texts of 39, 40 and 41 bytes
text_39 : cell source_width (replicate 39 97) ≡ replicate 39 97 ++ (32 ∷ [])
unfolding left_in
text_39 = refl

text_40 : cell source_width (replicate 40 97) ≡ replicate 40 97
unfolding left_in
text_40 = refl

text_41 : cell source_width (replicate 41 97) ≡ replicate 39 97 ++ (126 ∷ [])
unfolding left_in
text_41 = refl

-- keys of 0, 15, 16 and 17
key_0 : cell key_width [] ≡ blanks 16
unfolding left_in
key_0 = refl

key_15 : cell key_width (replicate 15 97) ≡ replicate 15 97 ++ (32 ∷ [])
unfolding left_in
key_15 = refl

key_16 : cell key_width (replicate 16 97) ≡ replicate 16 97
unfolding left_in
key_16 = refl

key_17 : cell key_width (replicate 17 97) ≡ replicate 15 97 ++ (126 ∷ [])
unfolding left_in
key_17 = refl

-- NUL, LF, 31, blank, `~`, 127 and 255
bytes_print : cell key_width (0 ∷ 10 ∷ 31 ∷ 32 ∷ 126 ∷ 127 ∷ 255 ∷ []) ≡ 63 ∷ 63 ∷ 63 ∷ 32 ∷ 126 ∷ 63 ∷ 63 ∷ blanks 9
unfolding left_in
bytes_print = refl

-- the longest name of a kind fills its cell
kind_3 : cell kind_width (kind_name 3) ≡ kind_name 3
unfolding left_in
kind_3 = refl

none : page_count 0 ≡ 0
none = refl

one : page_count 1 ≡ 1
one = refl

sixty : page_count 60 ≡ 1
sixty = refl

sixty_one : page_count 61 ≡ 2
sixty_one = refl

largest : page_count 1536 ≡ 26
largest = refl

-- [x, x]: three lines and 57 blank ones, then a zero
pub example_pages_lem : pages_after (pages_of_sheet (parse example_sheet)) (replicate 4381 7) ≡ example_pages ++ (0 ∷ [])
unfolding is_number digits value literal_of bytes_order key_order after_blanks all_digits is_decimal read_column column_bytes signed_number read_signed justified is_name contains says is_underscore is_unbound word_from marked of_bytes record_word width_of name_bytes same_bytes depth ref_of literal_node items fields headed expr_at expr all_from elem no_repeat Rules.within_limits whole_records span_ok name_text_ok words_ok children_below node_ok places_from used_places name_ok scope_ok follows_rules shallow names_differ checked tabulate plan insert concat entries column_number is_line is_number_line column_word_at number_word counts_ok are_listed layout_ok parse operation_of operation_outcome source_text left_in entry_lines cells_bytes page_bytes pages_answer pages_after
example_pages_lem = refl

pub example_answer_lem : page_line (pages_answer (pages_of_sheet (parse example_sheet)) (replicate 4380 7)) ≡ line 0 1 0 0
unfolding is_number digits value literal_of bytes_order key_order after_blanks all_digits is_decimal read_column column_bytes signed_number read_signed justified is_name contains says is_underscore is_unbound word_from marked of_bytes record_word width_of name_bytes same_bytes depth ref_of literal_node items fields headed expr_at expr all_from elem no_repeat Rules.within_limits whole_records span_ok name_text_ok words_ok children_below node_ok places_from used_places name_ok scope_ok follows_rules shallow names_differ checked tabulate plan insert concat entries column_number is_line is_number_line column_word_at number_word counts_ok are_listed layout_ok parse operation_of operation_outcome source_text left_in entry_lines cells_bytes page_bytes pages_answer pages_after
example_answer_lem = refl

-- one byte short
pub example_short : page_line (pages_answer (pages_of_sheet (parse example_sheet)) (replicate 4379 7)) ≡ line 30 0 0 0
unfolding is_number digits value literal_of bytes_order key_order after_blanks all_digits is_decimal read_column column_bytes signed_number read_signed justified is_name contains says is_underscore is_unbound word_from marked of_bytes record_word width_of name_bytes same_bytes depth ref_of literal_node items fields headed expr_at expr all_from elem no_repeat Rules.within_limits whole_records span_ok name_text_ok words_ok children_below node_ok places_from used_places name_ok scope_ok follows_rules shallow names_differ checked tabulate plan insert concat entries column_number is_line is_number_line column_word_at number_word counts_ok are_listed layout_ok parse operation_of operation_outcome source_text left_in entry_lines cells_bytes page_bytes pages_answer pages_after
example_short = refl

pub example_untouched : pages_after (pages_of_sheet (parse example_sheet)) (replicate 4379 7) ≡ replicate 4379 7
unfolding is_number digits value literal_of bytes_order key_order after_blanks all_digits is_decimal read_column column_bytes signed_number read_signed justified is_name contains says is_underscore is_unbound word_from marked of_bytes record_word width_of name_bytes same_bytes depth ref_of literal_node items fields headed expr_at expr all_from elem no_repeat Rules.within_limits whole_records span_ok name_text_ok words_ok children_below node_ok places_from used_places name_ok scope_ok follows_rules shallow names_differ checked tabulate plan insert concat entries column_number is_line is_number_line column_word_at number_word counts_ok are_listed layout_ok parse operation_of operation_outcome source_text left_in entry_lines cells_bytes page_bytes pages_answer pages_after
example_untouched = refl
