-- What is rendered is parsed back.
use Prim.Native.Nat.{ℕ, zero, suc, ◌^◌, ◌<◌}
use mathlib.Core.Bool.{true}
use mathlib.Core.List.{List, [], ◌++◌, append-nil}
use mathlib.Core.Path.{◌≡◌, refl, sym, ap, ◌∙◌}
use native.Mathlib.Omega.{arith}
use borrow.Author.Tests.{eq-eqb}
use lib.ListN.{length, get_or, length-append}
use Rattle.table.specs.Rules as Rules
use Rattle.table.specs.Tables.{Tables, tables, node_count, number_count, name_count}
use Rattle.table.specs.code.Sound.{Limits}
use Rattle.table.proofs.trees.Facts.{limits_of}
use Rattle.sheet.specs.declared.header.Counts.{Counts}
use Rattle.operation.specs.declared.numbers.OperationNumbers.{OperationNumbers}
use Rattle.operation.specs.Numbers.{are_listed}
use Rattle.sheet.specs.Lines.{number_in, is_line}
use Rattle.sheet.specs.Sheet.{line1, line2, nodes_place, counts_of, counts_ok, children_place, numbers_place, names_place, strings_place, text_place, end_place, operation_numbers, layout_ok, Sheet, sheet_of, parsed, parsed_by, parse}
use Rattle.sheet.specs.Render.{write_line, write_lines, counts_row, operation_row, node_row, child_row, name_row, number_line, render, Renderable, RoundTrip}
use Rattle.sheet.proofs.header.HeaderTests.{counts_read, operation_read}
use Rattle.sheet.proofs.laws.RoundTripParts.{Stands, stands_at, stands_first, stands_next, stands_part, line_long, number_at, line_there}
use Rattle.sheet.proofs.laws.RoundTripTables.{nodes_long, nodes_there, nodes_back, children_long, children_there, children_back, names_long, names_there, names_back, marks_there, marks_back, numbers_long, numbers_there, numbers_back}
use Rattle.sheet.proofs.laws.RoundTripSound.{Whole, whole_of, sound_renders}

-- the counts that line 1 has
abbrev counts_in : Tables → Counts
counts_in T =
    record {
      nodes = node_count T;
      children = length T.children;
      numbers = number_count T;
      names = name_count T;
      strings = length T.strings;
      text = length T.text;
    }

same_limits : (T : Tables) → Rules.within_limits T ≡ true → counts_ok (counts_in T) ≡ true
unfolding Rules.within_limits counts_ok
same_limits T e = e

counts_small : (T : Tables) → Limits T → (j : ℕ) → j < 6 → get_or (counts_row T) j 0 < 10 ^ 6
counts_small T few zero lt = omega (arith, few)
counts_small T few (suc zero) lt = omega (arith, few)
counts_small T few (suc (suc zero)) lt = omega (arith, few)
counts_small T few (suc (suc (suc zero))) lt = omega (arith, few)
counts_small T few (suc (suc (suc (suc zero)))) lt = omega (arith, few)
counts_small T few (suc (suc (suc (suc (suc zero))))) lt = omega (arith, few)
counts_small T few (suc (suc (suc (suc (suc (suc j)))))) lt = absurd (omega arith)

-- sheets with the same fields
abbrev filled : OperationNumbers → List ℕ → List ℕ → List ℕ → List ℕ → List ℕ → List ℕ → List ℕ → Sheet
filled o nodes children numbers names strings text marks = record { operation = o; held = tables nodes children numbers names strings text; marks = marks }

sheet_same : {o o' : OperationNumbers} {n n' k k' m m' x x' s s' t t' b b' : List ℕ} → o ≡ o' → n ≡ n' → k ≡ k' → m ≡ m' → x ≡ x' → s ≡ s' → t ≡ t' → b ≡ b' → filled o n k m x s t b ≡ filled o' n' k' m' x' s' t' b'
sheet_same a b c d e f g h = cc

parsed_as : (sheet : List ℕ) (c : Counts) (S : Sheet) → is_line sheet line1 6 ≡ true → c ≡ counts_of sheet → counts_ok c ≡ true → layout_ok sheet c ≡ true → sheet_of sheet c ≡ S → parse sheet ≡ parsed S
unfolding parse
parsed_as sheet c S first counts few laid same =
    let by : parsed_by sheet c ≡ parsed S = rw (few, laid) (ap parsed same) in
    rw first (ap (parsed_by sheet) (sym counts) ∙ by)

module _ (S : Sheet) (ok : Renderable S) where
  abbrev T : Tables
  T = S.held

  abbrev c : Counts
  c = counts_in S.held

  whole : Whole T
  whole = whole_of T ok.whole

  few : Limits T
  few = limits_of T ok.few

  -- the parts, and what comes after each
  abbrev line_1 : List ℕ
  line_1 = write_line (counts_row T)

  abbrev line_2 : List ℕ
  line_2 = write_line (operation_row S.operation)

  abbrev node_lines : List ℕ
  node_lines = write_lines (λ i. write_line (node_row T i)) 0 (node_count T)

  abbrev child_lines : List ℕ
  child_lines = write_lines (λ i. write_line (child_row T i)) 0 (length T.children)

  abbrev number_lines : List ℕ
  number_lines = write_lines (number_line T) 0 (number_count T)

  abbrev name_lines : List ℕ
  name_lines = write_lines (λ i. write_line (name_row T S.marks i)) 0 (name_count T)

  abbrev after_names : List ℕ
  after_names = T.strings ++ T.text

  abbrev after_numbers : List ℕ
  after_numbers = name_lines ++ after_names

  abbrev after_children : List ℕ
  after_children = number_lines ++ after_numbers

  abbrev after_nodes : List ℕ
  after_nodes = child_lines ++ after_children

  abbrev after_2 : List ℕ
  after_2 = node_lines ++ after_nodes

  abbrev after_1 : List ℕ
  after_1 = line_2 ++ after_2

  -- where they stand
  sheet_at : Stands (render S) (line_1 ++ after_1) line1
  unfolding render
  sheet_at = record { before = []; after = []; is = sym (append-nil (line_1 ++ after_1)); long = refl }

  line_1_at : Stands (render S) line_1 line1
  line_1_at = stands_first line_1 after_1 sheet_at

  after_1_at : Stands (render S) after_1 line2
  after_1_at = stands_at refl (stands_next line_1 after_1 sheet_at (line_long (counts_row T) refl))

  line_2_at : Stands (render S) line_2 line2
  line_2_at = stands_first line_2 after_2 after_1_at

  after_2_at : Stands (render S) after_2 nodes_place
  after_2_at = stands_at refl (stands_next line_2 after_2 after_1_at (line_long (operation_row S.operation) refl))

  nodes_at : Stands (render S) node_lines nodes_place
  nodes_at = stands_first node_lines after_nodes after_2_at

  after_nodes_at : Stands (render S) after_nodes (children_place c)
  after_nodes_at = stands_next node_lines after_nodes after_2_at (nodes_long T whole.nodes)

  children_at : Stands (render S) child_lines (children_place c)
  children_at = stands_first child_lines after_children after_nodes_at

  after_children_at : Stands (render S) after_children (numbers_place c)
  after_children_at = stands_next child_lines after_children after_nodes_at (children_long T)

  numbers_at_lem : Stands (render S) number_lines (numbers_place c)
  numbers_at_lem = stands_first number_lines after_numbers after_children_at

  after_numbers_at : Stands (render S) after_numbers (names_place c)
  after_numbers_at = stands_next number_lines after_numbers after_children_at (numbers_long T)

  names_at : Stands (render S) name_lines (names_place c)
  names_at = stands_first name_lines after_names after_numbers_at

  after_names_at : Stands (render S) after_names (strings_place c)
  after_names_at = stands_next name_lines after_names after_numbers_at (names_long T S.marks whole.names)

  strings_at : Stands (render S) T.strings (strings_place c)
  strings_at = stands_first T.strings T.text after_names_at

  text_at : Stands (render S) T.text (text_place c)
  text_at = stands_next T.strings T.text after_names_at refl

  sheet_long : length (render S) ≡ end_place c
  unfolding render
  sheet_long =
      length-append line_1 after_1
      ∙ omega (
        arith,
        length-append line_2 after_2,
        length-append node_lines after_nodes,
        length-append child_lines after_children,
        length-append number_lines after_numbers,
        length-append name_lines after_names,
        length-append T.strings T.text,
        line_long (counts_row T) refl,
        line_long (operation_row S.operation) refl,
        nodes_long T whole.nodes,
        children_long T,
        numbers_long T,
        names_long T S.marks whole.names,
      )

  -- lines 1 and 2
  count_at : (j : ℕ) → j < 6 → get_or (counts_row T) j 0 ≡ number_in (render S) line1 j
  count_at j lt = sym (number_at (counts_row T) line_1_at refl (counts_small T few) j lt)

  counts_back : c ≡ counts_of (render S)
  counts_back =
      counts_read (render S) (count_at 0 (omega arith)) (count_at 1 (omega arith)) (count_at 2 (omega arith)) (count_at 3 (omega arith)) (count_at 4 (omega arith)) (count_at 5 (omega arith))

  operation_at : (j : ℕ) → j < 6 → get_or (operation_row S.operation) j 0 ≡ number_in (render S) line2 j
  operation_at j lt = sym (number_at (operation_row S.operation) line_2_at refl (λ j lt. ok.operation_narrow.digits j) j lt)

  operation_back : S.operation ≡ operation_numbers (render S)
  operation_back =
      operation_read (render S) (operation_at 0 (omega arith)) (operation_at 1 (omega arith)) (operation_at 2 (omega arith)) (operation_at 3 (omega arith)) (operation_at 4 (omega arith)) (operation_at 5 (omega arith))

  -- the layout and the tables
  laid_out : layout_ok (render S) c ≡ true
  unfolding layout_ok
  laid_out =
      simp (
        eq-eqb (length (render S)) (end_place c) sheet_long,
        line_there (operation_row S.operation) line_2_at refl (λ j lt. ok.operation_narrow.digits j),
        ap are_listed (sym operation_back) ∙ ok.operation_ok,
        nodes_there T whole.nodes nodes_at ok.nodes,
        children_there T children_at ok.children,
        numbers_there T numbers_at_lem ok.numbers,
        names_there T S.marks whole.names names_at ok.names ok.low,
        marks_there T S.marks whole.names names_at ok.names ok.low,
      )

  sheet_back : sheet_of (render S) c ≡ S
  sheet_back =
      sheet_same (sym operation_back) (nodes_back T whole.nodes nodes_at ok.nodes) (children_back T children_at ok.children) (numbers_back T numbers_at_lem ok.numbers whole.numbers)
      (names_back T S.marks whole.names names_at ok.names ok.low) (stands_part strings_at refl) (stands_part text_at refl)
      (marks_back T S.marks whole.names names_at ok.names ok.low ok.as_many)

  parsed_back : parse (render S) ≡ parsed S
  parsed_back =
      parsed_as (render S) c S (line_there (counts_row T) line_1_at refl (counts_small T few)) counts_back (same_limits T ok.few) laid_out sheet_back

pub round_trip : RoundTrip
round_trip = record { back = parsed_back; sound = sound_renders }
