-- The histories on trial, by computation.
use mathlib.Core.Path.{refl}
use Rattle.literal.specs.Literal.{is_number}
use Rattle.literal.specs.Reading.{literal_of}
use Rattle.literal.specs.Order.{bytes_order}
use Rattle.scope.specs.Names.{is_name, contains, with_name, without_name}
use Rattle.scope.specs.Scope.{says, is_underscore, is_unbound, known, changeable, bind_variable, add_unbound_variable, child_of, new_scope}
use Rattle.table.specs.Tables.{record_word, width_of, name_bytes}
use Rattle.table.specs.Names.{same_bytes}
use Rattle.table.specs.Expr.{depth, count}
use Rattle.table.specs.Decode.{ref_of, literal_node, items, fields, headed, expr_at, expr}
use Rattle.base.specs.Lists.{all_from, elem, no_repeat, tabulate}
use Rattle.table.specs.Rules.{within_limits, whole_records, span_ok, name_text_ok, words_ok, children_below, node_ok, places_from, used_places, name_ok, scope_ok, follows_rules, shallow, names_differ}
use Rattle.table.specs.Check.{checked}
use Rattle.planner.specs.Plan.{plan}
use Rattle.planner.specs.Layout.{entries, words, bound_names}
use Rattle.planner.specs.Operations.{answered, written}
use Rattle.planner.specs.Simple.{admitted}
use Rattle.value.specs.Value.{value_of, same}
use Rattle.planner.specs.Names.{occurrences, names_of}
use Rattle.matching.specs.Matching.{run}
use Rattle.matching.specs.Reading.{as_written, items_read, plans_read}
use Rattle.run.specs.Operations.{values_listed, known_listed, run_answer, plan_after, values_after}
use Rattle.operation.specs.Operation.{operation_outcome}
use Rattle.operation.specs.Numbers.{operation_of}
use Rattle.body.specs.Lines.{lines_from, is_body}
use Rattle.body.specs.Ready.{pair_sides, equals_value_sides, value_sides, computed_key_sides, first_not_ready}
use Rattle.body.specs.Body.{line_outcome, bind_all, body_from, body_outcome, body_answered, body_written}
use Rattle.body.specs.Body as Body
use Rattle.name_table.specs.Adding.{checked_in_use, allowed, number_from, at_end, add_outcome}
use Rattle.parties.specs.Parties.{seen, scope_after_call, shared_after, own_calls, observed}
use Rattle.parties.specs.Trial.{HistoriesApart, TablesMustAgree}

pub trials_hold : HistoriesApart × TablesMustAgree
unfolding is_number literal_of bytes_order is_name contains says is_underscore is_unbound known record_word width_of name_bytes same_bytes depth count ref_of literal_node items fields headed expr_at expr all_from elem no_repeat within_limits whole_records span_ok name_text_ok words_ok children_below node_ok places_from used_places name_ok scope_ok follows_rules shallow names_differ checked plan entries words bound_names answered written operation_outcome admitted occurrences names_of value_of same run as_written items_read plans_read values_listed known_listed run_answer values_after tabulate changeable bind_variable add_unbound_variable child_of new_scope with_name without_name plan_after checked_in_use allowed number_from at_end add_outcome operation_of lines_from is_body pair_sides equals_value_sides value_sides computed_key_sides first_not_ready line_outcome bind_all body_from body_outcome body_answered body_written Body.scope_after seen scope_after_call shared_after own_calls observed
trials_hold = (
  record { same_calls = refl; quietly = refl; busily = refl; binds = refl },
  record { adds = refl; adds_later = refl; runs = refl; runs_later = refl; plans_later = refl },
)
