-- The additions on trial, by computation.
use mathlib.Core.Path.{refl}
use Rattle.literal.specs.Literal.{is_number}
use Rattle.literal.specs.Reading.{literal_of}
use Rattle.literal.specs.Order.{bytes_order, key_order}
use Rattle.scope.specs.Scope.{new_scope}
use Rattle.table.specs.Tables.{record_word, width_of, name_bytes}
use Rattle.table.specs.Names.{same_bytes}
use Rattle.table.specs.Expr.{depth, count}
use Rattle.table.specs.Decode.{ref_of, literal_node, items, fields, headed, expr_at, expr}
use Rattle.base.specs.Lists.{all_from, elem, no_repeat}
use Rattle.table.specs.Rules.{within_limits, whole_records, span_ok, name_text_ok, words_ok, children_below, node_ok, places_from, used_places, name_ok, scope_ok, follows_rules, shallow, names_differ}
use Rattle.table.specs.Check.{checked}
use Rattle.name_table.specs.Adding.{checked_in_use, allowed, number_from, at_end, add_outcome}
use Rattle.name_table.specs.Trial.{Addition}

pub trials_hold : Addition
unfolding is_number literal_of bytes_order key_order new_scope record_word width_of name_bytes same_bytes depth count ref_of literal_node items fields headed expr_at expr all_from elem no_repeat within_limits whole_records span_ok name_text_ok words_ok children_below node_ok places_from used_places name_ok scope_ok follows_rules shallow names_differ checked checked_in_use allowed number_from at_end add_outcome
trials_hold = record {
  equal_bytes = refl;
  other_place_lem = refl;
  new = refl;
  longer = refl;
  free = refl;
  empty = refl;
  past = refl;
  no_room_lem = refl;
  needs_none = refl;
  barred_first = refl;
  half = refl;
  half_more = refl;
  half_needs_none = refl;
  beyond = refl;
  over = refl;
  over_first = refl;
  twice = refl;
}
