-- The faults on trial, by computation.
use mathlib.Core.Path.{refl}
use Rattle.literal.specs.Literal.{is_number}
use Rattle.literal.specs.Reading.{literal_of}
use Rattle.literal.specs.Order.{bytes_order, key_order}
use Rattle.table.specs.Tables.{record_word, width_of, name_bytes}
use Rattle.table.specs.Names.{same_bytes}
use Rattle.table.specs.Expr.{depth, count}
use Rattle.table.specs.Decode.{ref_of, literal_node, items, fields, headed, expr_at, expr}
use Rattle.base.specs.Lists.{all_from, elem, tabulate}
use Rattle.table.specs.Rules.{span_ok, name_text_ok, children_below, places_from, used_places, name_ok}
use Rattle.table_fault.specs.Rules.{unused_zero, range_ok, new_entry_at, new_places_at, rules}
use Rattle.table_fault.specs.Fault.{first_broken, fault_from, fault_of}
use Rattle.table_fault.specs.Trial.{nested, Trial}

pub trials_hold : Trial
unfolding is_number literal_of bytes_order key_order record_word width_of name_bytes same_bytes depth count ref_of literal_node items fields headed expr_at expr all_from elem span_ok name_text_ok children_below places_from used_places name_ok unused_zero range_ok new_entry_at new_places_at rules first_broken fault_from fault_of nested tabulate
trials_hold = record {
  sound = refl;
  many_entries = refl;
  many_names = refl;
  half_node = refl;
  half_number = refl;
  half_name = refl;
  no_name_lem = refl;
  past_text = refl;
  minus_zero_lem = refl;
  no_node = refl;
  past_nodes = refl;
  no_kind_lem = refl;
  turned = refl;
  unused = refl;
  past_strings = refl;
  past_numbers = refl;
  name_zero = refl;
  other_text = refl;
  other_name = refl;
  own_child = refl;
  twice = refl;
  shared = refl;
  marked = refl;
  marked_more = refl;
  marked_past = refl;
  level32 = refl;
  level33 = refl;
  equal = refl;
  mark_first = refl;
  first_rule = refl;
  first_place_lem = refl;
}
