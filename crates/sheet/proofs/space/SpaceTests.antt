-- Tables in arrays, cut to their size, and what their sheet comes to.
use Rattle.std.proofs.Common.{Result}
use Prim.Native.Nat.{ℕ, ◌+◌, ◌-◌, ◌*◌, ◌<◌, ◌≤◌}
use mathlib.Core.Bool.{Bool, true, false, not}
use mathlib.Core.List.{List, ◌++◌}
use mathlib.Core.Path.{◌≡◌, refl, sym, ap, ◌∙◌}
use native.Mathlib.Omega.{arith}
use borrow.Author.Tests.{ltb-true, ltb-false, not-false}
use lib.Dec.{ltb}
use lib.ListN.{length, get_or, take, drop, replicate, length-append, length-replicate, get_or-replicate, get_or-append}
use lib.Seq.{ext_get_or, length-take-le, get_or-append-add}
use Rattle.scope.specs.declared.Scope.{Scope}
use Rattle.table.specs.Tables.{Tables, tables}
use Rattle.table.proofs.tests.Bools.{told_no, told_yes}
use Rattle.base.specs.Lists.{tabulate}
use Rattle.base.specs.Refusal.{layout_broken}
use Rattle.planner.specs.declared.Plan.{Plan}
use Rattle.planner.specs.declared.PlanRefusal.{PlanRefusal}
use Rattle.planner.specs.Answer.{line_of}
use Rattle.planner.specs.Operations.{Answered}
use Rattle.operation.specs.declared.Operation.{Operation}
use Rattle.operation.specs.declared.row.Row.{Row}
use Rattle.operation.specs.Rows.{row_line}
use Rattle.operation.specs.Operation.{operation_outcome}
use Rattle.operation.specs.Numbers.{operation_of}
use Rattle.operation.proofs.Cases.{by_case}
use Rattle.planner.proofs.buffer.Filling.{length_tabulate, get_d_tabulate}
use Rattle.sheet.specs.declared.header.Counts.{Counts}
use Rattle.sheet.specs.declared.header.Header.{Header}
use Rattle.sheet.specs.Sheet.{mark_word, names_place, strings_place, text_place, end_place, marks_of, operation_numbers, parse, scope_of}
use Rattle.sheet.specs.Outcome.{outcome_of_sheet, PlannedInto}
use Rattle.sheet.specs.Listing.{lines_of, listing_of, Printed}
use Rattle.sheet.specs.code.Header.{Limited, Headed}
use Rattle.sheet.specs.code.Post.{Overlaid, RefusedBy, refusal_bytes, scope_in, Roomy, TablesAsks, TablesRead, SheetHeld}
use Rattle.sheet.proofs.header.Headings.{refused_into}
use Rattle.sheet.proofs.lines.LineTests.{filled_first}
use Rattle.sheet.proofs.space.Scopes.{scope_is}

-- space for the tables
pub most_nodes : (c : Counts) (nodes : List ℕ) → Limited c → length nodes ≡ 512 * 5 → c.nodes * 5 ≤ length nodes
most_nodes c nodes l long = omega (arith, l.nodes_few)

pub few_nodes : (c : Counts) (nodes : List ℕ) → c.nodes ≤ 64 → length nodes ≡ 64 * 5 → c.nodes * 5 ≤ length nodes
few_nodes c nodes few long = omega arith

roomy : {c : Counts} → Limited c → (nodes children numbers names : List ℕ) → c.nodes * 5 ≤ length nodes → length children ≡ 512 → length numbers ≡ 256 * 2 → length names ≡ 128 * 3 → Roomy c nodes children numbers names
roomy l nodes children numbers names a b d e =
    record { nodes_room = a; children_room = omega (arith, l.children_few); numbers_room = omega (arith, l.numbers_few); names_room = omega (arith, l.names_few) }

pub tables_asked : {sheet : List ℕ} {h : Header} → Headed sheet h → (nodes children numbers names : List ℕ) → h.counts.nodes * 5 ≤ length nodes → length children ≡ 512 → length numbers ≡ 256 * 2 → length names ≡ 128 * 3 → TablesAsks h nodes children numbers names
tables_asked headed nodes children numbers names a b d e =
    record { limited = headed.limited; places_are = headed.places_are; roomy = roomy headed.limited nodes children numbers names a b d e }

-- with space for the most nodes
pub all_asked : {sheet : List ℕ} {h : Header} → Headed sheet h → (nodes children numbers names : List ℕ) → length nodes ≡ 512 * 5 → length children ≡ 512 → length numbers ≡ 256 * 2 → length names ≡ 128 * 3 → TablesAsks h nodes children numbers names
all_asked {h = h} headed nodes children numbers names a = tables_asked headed nodes children numbers names (most_nodes h.counts nodes headed.limited a)

pub cut : (n : ℕ) (array : List ℕ) → n ≤ length array → n ≡ length (take n array)
cut n array le = sym (length-take-le n array le)

-- what was read
module _ {sheet : List ℕ} {h : Header} (headed : Headed sheet h) {nodes children numbers names marks : List ℕ} {r : Bool}
    (read : TablesRead sheet h.counts nodes children numbers names (replicate 128 0) marks r) where
  pub tables_refused : not r ≡ true → {before after : List ℕ} {row : Row} → RefusedBy 7 before after row → PlannedInto (outcome_of_sheet (parse sheet)) before after row
  tables_refused t p = refused_into (record { why = layout_broken; is = rw (headed.parses, told_no read.ok t); bare = refl }) p

  pub listing_refused : not r ≡ true → {before after : List ℕ} {bytes : ℕ} → Printed (refusal_bytes 7) before after bytes → Printed (listing_of sheet) before after bytes
  unfolding listing_of lines_of
  listing_refused t p = rw (headed.parses, told_no read.ok t) p

  pub sheet_held : not r ≡ false → h.counts.nodes * 5 ≤ length nodes → length children ≡ 512 → length numbers ≡ 256 * 2 → length names ≡ 128 * 3
      → {s : Scope} → s ≡ scope_in h.operation marks → SheetHeld sheet h nodes children numbers names s
  sheet_held t a b d e made = record {
    marks = marks;
    scope_made = made;
    headed = headed;
    good = told_yes read.ok t;
    roomy = roomy headed.limited nodes children numbers names a b d e;
    held = read.held (not-false r t);
  }

  pub all_held : not r ≡ false → length nodes ≡ 512 * 5 → length children ≡ 512 → length numbers ≡ 256 * 2 → length names ≡ 128 * 3
      → {s : Scope} → s ≡ scope_in h.operation marks → SheetHeld sheet h nodes children numbers names s
  all_held t a = sheet_held t (most_nodes h.counts nodes headed.limited a)

-- the marks of a scope
marks_all : (f : ℕ → ℕ) (count : ℕ) → count ≤ 128 → {marks : List ℕ} → Overlaid f count (replicate 128 0) marks → marks ≡ tabulate f 0 count ++ replicate (128 - count) 0
marks_all f count few {marks} m = ext_get_or 0 marks (first ++ rest) long each
  where
    first : List ℕ
    first = tabulate f 0 count

    rest : List ℕ
    rest = replicate (128 - count) 0

    first_long : length first ≡ count
    first_long = length_tabulate f 0 count

    long : length marks ≡ length (first ++ rest)
    long = m.long ∙ sym (length-append first rest ∙ omega (arith, first_long, length-replicate {A = ℕ} (128 - count) 0))

    at_k : (k : ℕ) → k < 128 → (b : Bool) → ltb k count ≡ b → get_or marks k 0 ≡ get_or (first ++ rest) k 0
    at_k k lt true q =
        let inside = ltb-true k count q in
        let z : 0 + k ≡ k = omega arith in
        m.first.each k inside
        ∙ sym (get_or-append first rest 0 k (omega (arith, first_long)) ∙ (get_d_tabulate f 0 count k inside ∙ ap f z))
    at_k k lt false q =
        let past = ltb-false k count q in
        let l = first_long in
        let split : length first + (k - count) ≡ k = omega arith in
        m.rest k past ∙ (get_or-replicate 128 k 0 0 lt
        ∙ sym (ap (λ (j : ℕ). get_or (first ++ rest) j 0) (sym split) ∙ (get_or-append-add first rest (k - count) 0 ∙ get_or-replicate (128 - count) (k - count) 0 0 (omega arith))))

    each : (k : ℕ) → k < length marks → get_or marks k 0 ≡ get_or (first ++ rest) k 0
    each k lt = at_k k (omega (arith, m.long, length-replicate {A = ℕ} 128 0)) (ltb k count) refl

-- the tables, the strings, the text and the scope
module _ {sheet : List ℕ} {h : Header} {nodes children numbers names : List ℕ} {s : Scope} (t : SheetHeld sheet h nodes children numbers names s) where
  pub nodes_inside : h.counts.nodes * 5 ≤ length nodes
  nodes_inside = t.roomy.nodes_room

  pub children_inside : h.counts.children ≤ length children
  children_inside = t.roomy.children_room

  pub numbers_inside : h.counts.numbers * 2 ≤ length numbers
  numbers_inside = t.roomy.numbers_room

  pub names_inside : h.counts.names * 2 ≤ length names
  names_inside = omega (arith, t.roomy.names_room)

  pub strings_before : h.places.strings ≤ h.places.text
  strings_before = rw t.headed.places_are (omega arith)

  pub text_before : h.places.text ≤ h.places.end
  text_before = rw t.headed.places_are (omega arith)

  pub text_inside : h.places.text ≤ length sheet
  text_inside = rw t.headed.places_are (omega (arith, t.headed.size))

  pub end_inside : h.places.end ≤ length sheet
  end_inside = rw t.headed.places_are (omega (arith, t.headed.size))

  abbrev tables_cut : Tables
  tables_cut =
      tables (take (h.counts.nodes * 5) nodes) (take h.counts.children children) (take (h.counts.numbers * 2) numbers) (take (h.counts.names * 2) names)
      (take (h.places.text - h.places.strings) (drop h.places.strings sheet)) (take (h.places.end - h.places.text) (drop h.places.text sheet))

  sheet_outcome : operation_outcome tables_cut s (operation_of h.operation) ≡ outcome_of_sheet (parse sheet)
  sheet_outcome =
      let c = h.counts in
      let strings : text_place c - strings_place c ≡ c.strings = omega arith in
      let text : end_place c - text_place c ≡ c.text = omega arith in
      let held = t.held in
      let all : t.marks ≡ marks_of sheet c ++ replicate (128 - c.names) 0 = marks_all (mark_word sheet (names_place c)) c.names t.headed.limited.names_few held.names_held.marked in
      let scope-marks : t.marks ≡ marks_of sheet c ++ replicate (128 - length (marks_of sheet c)) 0 = rw (length_tabulate (mark_word sheet (names_place c)) 0 c.names) all in
      let scope : s ≡ scope_of (operation_numbers sheet) (marks_of sheet c) = t.scope_made ∙ scope_is sheet c t.good t.headed.operation_is scope-marks in
      rw (t.headed.parses, t.good, t.headed.places_are, scope, t.headed.operation_is, strings, text, filled_first held.nodes_filled nodes_inside, filled_first held.children_filled children_inside, filled_first held.numbers_filled numbers_inside, filled_first held.names_held.words names_inside)

  pub tables_planned : {operation : Operation} {blank plan : List ℕ} {a : Result Plan PlanRefusal} {r : Row} → operation ≡ operation_of h.operation → Answered (operation_outcome tables_cut s operation) blank plan a → row_line r ≡ line_of a
      → PlannedInto (outcome_of_sheet (parse sheet)) blank plan r
  tables_planned {operation} of done is =
      let here = by_case tables_cut s (operation_of h.operation) operation (sym of) done in
      rw (← sheet_outcome) (record { answer = is ∙ here.answer; buffer = here.buffer })
