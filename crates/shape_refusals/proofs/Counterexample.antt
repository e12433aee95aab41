-- The two refusals over tables, and the two equalities, by computation.
use mathlib.Core.Path.{refl}
use Rattle.literal.specs.Literal.{is_number}
use Rattle.literal.specs.Reading.{literal_of}
use Rattle.literal.specs.Order.{bytes_order, key_order}
use Rattle.literal.specs.Text.{key_text}
use Rattle.scope.specs.Names.{is_name, contains}
use Rattle.scope.specs.Scope.{says, is_underscore, is_unbound, same_scope, new_scope}
use Rattle.table.specs.Tables.{record_word, width_of, name_bytes}
use Rattle.table.specs.Names.{same_bytes}
use Rattle.table.specs.Expr.{depth, count_fields}
use Rattle.table.specs.Decode.{ref_of, literal_node, fields, headed, expr_at, expr}
use Rattle.base.specs.Lists.{all_from, elem, no_repeat}
use Rattle.table.specs.Rules.{within_limits, whole_records, span_ok, name_text_ok, words_ok, children_below, node_ok, places_from, used_places, name_ok, scope_ok, follows_rules, shallow, names_differ}
use Rattle.table.specs.Check.{checked}
use Rattle.planner.specs.Plan.{plan}
use Rattle.planner.specs.Layout.{insert, concat, entries, binds_any}
use Rattle.planner.specs.Held.{value_order}
use Rattle.planner.specs.Simple.{has_key}
use Rattle.checks.specs.declared.Reading.TheVariants.{Present, Careful}
use Rattle.checks.specs.Structure.{key_texts, insert_text, sort_texts, same_texts, structure}
use Rattle.assignment.specs.Pairs.{flatten}
use Rattle.assignment.specs.Assignment.{first_same_scope}
use Rattle.operation.specs.Operation.{operation_outcome}
use Rattle.value.specs.Value.{literalᵛ, proper, same, within, keysᵛ, under}
use Rattle.matching.specs.Matching.{ProperValue, fill}
use Rattle.shape_refusals.specs.Counterexample.{one, KeysMustDiffer}

-- every name is 1
abbrev ones : ProperValue
unfolding proper
ones = record { value = literalᵛ 7 one; is_proper = tt }

pub keys_must_differ : KeysMustDiffer
unfolding is_number literal_of bytes_order key_order key_text is_name contains says is_underscore is_unbound same_scope new_scope record_word width_of name_bytes same_bytes depth count_fields ref_of literal_node fields headed expr_at expr all_from elem no_repeat within_limits whole_records span_ok name_text_ok words_ok children_below node_ok places_from used_places name_ok scope_ok follows_rules shallow names_differ checked plan insert concat entries binds_any value_order has_key key_texts insert_text sort_texts same_texts structure flatten first_same_scope operation_outcome proper same within keysᵛ under fill
keys_must_differ = record {
  colon_equals = record { left = refl; right = refl; refuses = elim [ Present ↦ refl | Careful ↦ refl ]; names = λ x. ones; left_blanks = (tt, tt); right_blanks = (tt, (tt, tt)); equal = tt };
  equals = record { left = refl; right = refl; refuses = elim [ Present ↦ refl | Careful ↦ refl ]; names = λ x. ones; left_blanks = (tt, tt); right_blanks = (tt, (tt, tt)); equal = tt };
}
