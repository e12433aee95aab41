-- The starred rules on trial hold of the definitions, in one computed test.
use mathlib.Core.Path.{◌≡◌, refl}
use mathlib.Core.List.{map}
use Rattle.literal.specs.Literal.{is_number}
use Rattle.literal.specs.Reading.{literal_of}
use Rattle.literal.specs.Order.{bytes_order, key_order}
use Rattle.literal.specs.Text.{key_text, digits}
use Rattle.scope.specs.Names.{is_name, contains}
use Rattle.scope.specs.Scope.{says, is_underscore, is_unbound, known, same_scope}
use Rattle.scope.specs.Bytes.{word_from, of_bytes}
use Rattle.scope.specs.Bytes as Bytes
use Rattle.table.specs.Tables.{record_word, width_of, name_bytes}
use Rattle.table.specs.Names.{same_bytes}
use Rattle.table.specs.Expr.{depth, count}
use Rattle.table.specs.Decode.{ref_of, literal_node, items, fields, headed, expr_at, expr}
use Rattle.base.specs.Lists.{all_from, elem, no_repeat, tabulate}
use Rattle.table.specs.Rules.{within_limits, whole_records, span_ok, name_text_ok, words_ok, children_below, node_ok, places_from, used_places, name_ok, scope_ok, follows_rules, shallow, names_differ}
use Rattle.table.specs.Check.{checked}
use Rattle.planner.specs.Plan.{plan}
use Rattle.planner.specs.Layout.{insert, concat, entries, words, binds_any}
use Rattle.planner.specs.Operations.{answered, written}
use Rattle.planner.specs.Entries.{read_entries}
use Rattle.checks.specs.Joining.{in_turn, any_unknown, first_mismatch_or, joined}
use Rattle.checks.specs.Structure.{key_texts, insert_text, sort_texts, same_texts, written_checks, field_checks, structure}
use Rattle.planner.specs.Held.{held_under, value_order}
use Rattle.assignment.specs.Pairs.{pairs_entries, flatten}
use Rattle.assignment.specs.Assignment.{first_same_scope}
use Rattle.planner.specs.Simple.{has_key, differing, keys_of, admitted}
use Rattle.value.specs.Value.{value_of, same, within, keysᵛ, under}
use Rattle.planner.specs.Names.{occurrences, names_of}
use Rattle.matching.specs.Matching.{run, plan_keys, same_length}
use Rattle.matching.specs.Reading.{insert_written, as_written, items_read, fields_read, plans_read}
use Rattle.run.specs.Operations.{values_listed, known_listed, run_answer, values_after}
use Rattle.operation.specs.Operation.{operation_outcome}
use Rattle.teluddru.specs.Trial.{Shown, Trial, trials, one_byte_each, positive}

abbrev shown_in : Trial → Shown
shown_in t = t.shown

abbrev expected_in : Trial → Shown
expected_in t = t.expected

pub trials_hold : map shown_in trials ≡ map expected_in trials
unfolding is_number literal_of bytes_order key_order key_text digits is_name contains says is_underscore is_unbound known same_scope word_from Bytes.marked of_bytes record_word width_of name_bytes same_bytes depth count ref_of literal_node items fields headed expr_at expr all_from elem no_repeat within_limits whole_records span_ok name_text_ok words_ok children_below node_ok places_from used_places name_ok scope_ok follows_rules shallow names_differ checked plan insert concat entries words binds_any answered written value_order key_texts insert_text sort_texts same_texts held_under in_turn any_unknown first_mismatch_or joined written_checks field_checks structure pairs_entries flatten first_same_scope read_entries one_byte_each positive operation_outcome admitted has_key differing keys_of occurrences names_of value_of same within keysᵛ under run plan_keys same_length insert_written as_written items_read fields_read plans_read values_listed known_listed run_answer values_after tabulate
trials_hold = refl
