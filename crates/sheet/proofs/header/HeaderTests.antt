-- Line 1 and line 2, as the code tests them.
use Prim.Native.Nat.{ℕ, ◌<◌, ◌≤◌}
use mathlib.Core.Bool.{Bool, false, not, ◌&&◌, and-false}
use mathlib.Core.List.{List}
use mathlib.Core.Path.{◌≡◌}
use native.Mathlib.Omega.{arith}
use borrow.Author.Tests.{ne_eqb, le-leb, lt-leb, leb-true}
use lib.Dec.{leb}
use lib.ListN.{length, get_or}
use Rattle.table.proofs.tests.Bools.{and_true, told_yes}
use Rattle.sheet.specs.declared.header.Counts.{Counts}
use Rattle.operation.specs.declared.numbers.OperationNumbers.{OperationNumbers}
use Rattle.sheet.specs.Lines.{number_in}
use Rattle.sheet.specs.Sheet.{line1, line2, counts_of, counts_ok, end_place, operation_numbers, layout_ok}
use Rattle.sheet.specs.code.Header.{counts_in, Countable, Limited}

-- limits
module _ (c : Counts) where
  pub limit_nodes : 512 < c.nodes → false ≡ counts_ok c
  unfolding counts_ok
  limit_nodes h = simp (lt-leb c.nodes 512 h)

  pub limit_children : 512 < c.children → false ≡ counts_ok c
  unfolding counts_ok
  limit_children h = simp (lt-leb c.children 512 h, and-false)

  pub limit_numbers : 256 < c.numbers → false ≡ counts_ok c
  unfolding counts_ok
  limit_numbers h = simp (lt-leb c.numbers 256 h, and-false)

  pub limit_names : 128 < c.names → false ≡ counts_ok c
  unfolding counts_ok
  limit_names h = simp (lt-leb c.names 128 h, and-false)

  pub limit_strings : 8192 < c.strings → false ≡ counts_ok c
  unfolding counts_ok
  limit_strings h = simp (lt-leb c.strings 8192 h, and-false)

  pub limit_text : c.nodes ≤ 512 → c.children ≤ 512 → c.numbers ≤ 256 → c.names ≤ 128 → c.strings ≤ 8192 → leb c.text 16384 ≡ counts_ok c
  unfolding counts_ok
  limit_text n k m x s = simp (le-leb c.nodes 512 n, le-leb c.children 512 k, le-leb c.numbers 256 m, le-leb c.names 128 x, le-leb c.strings 8192 s)

  pub limited : {r : Bool} → r ≡ counts_ok c → not r ≡ false → Limited c
  unfolding counts_ok
  limited is t =
      let all = told_yes is t in
      let a = and_true (leb c.nodes 512) (leb c.children 512 && (leb c.numbers 256 && (leb c.names 128 && (leb c.strings 8192 && leb c.text 16384)))) all in
      let b = and_true (leb c.children 512) (leb c.numbers 256 && (leb c.names 128 && (leb c.strings 8192 && leb c.text 16384))) a.1 in
      let d = and_true (leb c.numbers 256) (leb c.names 128 && (leb c.strings 8192 && leb c.text 16384)) b.1 in
      let e = and_true (leb c.names 128) (leb c.strings 8192 && leb c.text 16384) d.1 in
      let f = and_true (leb c.strings 8192) (leb c.text 16384) e.1 in
      record {
        nodes_few = leb-true c.nodes 512 a.0;
        children_few = leb-true c.children 512 b.0;
        numbers_few = leb-true c.numbers 256 d.0;
        names_few = leb-true c.names 128 e.0;
        strings_few = leb-true c.strings 8192 f.0;
        text_few = leb-true c.text 16384 f.1;
      }

pub countable : {c : Counts} → Limited c → Countable c
countable l = record {
  nodes_below = omega (arith, l.nodes_few);
  children_below_lem = omega (arith, l.children_few);
  numbers_below = omega (arith, l.numbers_few);
  names_below = omega (arith, l.names_few);
  strings_below = omega (arith, l.strings_few);
  text_below = omega (arith, l.text_few);
}

-- the length
pub length_differs : (sheet : List ℕ) (c : Counts) → (length sheet ≡ end_place c → ⊥) → false ≡ layout_ok sheet c
unfolding layout_ok
length_differs sheet c h = simp (ne_eqb (length sheet) (end_place c) h)

-- the two lines as they are read
module _ (sheet : List ℕ) where
  pub counts_read : {n k m x s t : ℕ} → n ≡ number_in sheet line1 0 → k ≡ number_in sheet line1 1 → m ≡ number_in sheet line1 2 → x ≡ number_in sheet line1 3 → s ≡ number_in sheet line1 4 → t ≡ number_in sheet line1 5
      → ◌≡◌ {A = Counts} (record { nodes = n; children = k; numbers = m; names = x; strings = s; text = t }) (counts_of sheet)
  counts_read a b c d e f = cc

  pub operation_read : {n d g f s k : ℕ} → n ≡ number_in sheet line2 0 → d ≡ number_in sheet line2 1 → g ≡ number_in sheet line2 2 → f ≡ number_in sheet line2 3 → s ≡ number_in sheet line2 4 → k ≡ number_in sheet line2 5
      → ◌≡◌ {A = OperationNumbers} (record { number = n; scheduler = d; scoping = g; first = f; second = s; key = k }) (operation_numbers sheet)
  operation_read a b c d e f = cc

pub counts_in_lem : (line : List ℕ) {n k m x s t : ℕ} → n ≡ get_or line 0 0 → k ≡ get_or line 1 0 → m ≡ get_or line 2 0 → x ≡ get_or line 3 0 → s ≡ get_or line 4 0 → t ≡ get_or line 5 0
    → ◌≡◌ {A = Counts} (record { nodes = n; children = k; numbers = m; names = x; strings = s; text = t }) (counts_in line)
counts_in_lem line a b c d e f = cc
