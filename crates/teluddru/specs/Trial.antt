-- Rules on trial, starred: what the definitions show for a rule, and what document 01 says.
use Rattle.std.specs.Prelude.{ℕ, ◌+◌, ◌-◌, ◌*◌, Bool, false, cond, eqb, List, [], ◌∷◌, ◌++◌, length, replicate}
use Rattle.scope.specs.declared.Scope.{Scope}
use Rattle.scope.specs.declared.ScopingMode.TheVariants.{RespectParent}
use Rattle.scope.specs.Scope.{known}
use Rattle.scope.specs.Bytes.{of_bytes}
use Rattle.table.specs.Tables.{Tables, tables, name_count}
use Rattle.table.specs.Decode.{expr}
use Rattle.base.specs.Refusal.{Line, line}
use Rattle.planner.specs.Layout.{Entry, entry_words, below, entry}
use Rattle.planner.specs.Operations.{Outcome, answered, written}
use Rattle.planner.specs.Entries.{read_entries}
use Rattle.run.specs.Answer.{RunResult, a_match}
use Rattle.run.specs.Operations.{RunOutcome, run_outcome, run_answer, values_after, planned_name}
use Rattle.checks.specs.declared.Reading.TheVariants.{Present, Careful}
use Rattle.operation.specs.declared.Operation.{Operation}
use Rattle.operation.specs.declared.Operation.TheVariants.{Pattern, ColonEquals, Equals}
use Rattle.operation.specs.Operation.{operation_outcome}

-- an answer's line with its entries, or a run's answer with the list afterwards
pub data Shown : Type 0 where
  planned : Line → List Entry → Shown
  ran : RunResult → List ℕ → Shown

pub record Trial : Type 0 where
  pub shown : Shown
  pub expected : Shown

-- a buffer of 16 entries
abbrev pub blank : List ℕ
blank = replicate (16 * entry_words) 0

-- kind, node, children, key node or 0, written position or 0
abbrev pub row : ℕ → ℕ → ℕ → ℕ → ℕ → Entry
row kind node children key position = entry kind node children (below key position)

-- an answer's line, then its entries; a refusal has none
abbrev pub entries_in : Line → ℕ
entries_in l = cond (eqb l.number 0) l.fourth 0

abbrev pub listing : Outcome → Shown
listing o = planned (answered o blank) (read_entries (written o blank) 0 (entries_in (answered o blank)))

-- Marks of the names 1, 2 and so on; the others have none.
abbrev pub scope_marked : List ℕ → Scope
scope_marked marks = of_bytes (record { marks = marks ++ replicate (128 - length marks) 0; underscore = 0; scheduler = false })

-- five words of a node
abbrev pub node : ℕ → ℕ → ℕ → ℕ → ℕ → List ℕ → List ℕ
node kind start end first count rest = kind ∷ (start ∷ (end ∷ (first ∷ (count ∷ rest))))

-- [x, x], as in document 01's sheet
abbrev pub twice : Tables
twice = tables (node 6 1 2 1 0 (node 6 4 5 1 0 (node 7 0 6 0 2 []))) (1 ∷ 2 ∷ []) [] (1 ∷ 1 ∷ []) [] (91 ∷ 120 ∷ 44 ∷ 32 ∷ 120 ∷ 93 ∷ [])

-- The other rules keep in their text the names alone, one byte each. Nodes that are no names have an empty range of it.
abbrev pub name_node : ℕ → List ℕ → List ℕ
name_node x = node 6 (x - 1) x x 0

abbrev pub string_node : ℕ → ℕ → List ℕ → List ℕ
string_node place size = node 1 0 0 place size

abbrev pub number_node : ℕ → List ℕ → List ℕ
number_node place = node 3 0 0 place 0

abbrev pub array_node : ℕ → ℕ → List ℕ → List ℕ
array_node first count = node 7 0 0 first count

abbrev pub object_node : ℕ → ℕ → List ℕ → List ℕ
object_node first count = node 9 0 0 first count

-- start and length of each name
unfoldable pub one_byte_each : ℕ → List ℕ → List ℕ
one_byte_each at [] = []
one_byte_each at (b ∷ bs) = at ∷ (1 ∷ one_byte_each (at + 1) bs)

-- two words of each number
unfoldable pub positive : List ℕ → List ℕ
positive [] = []
positive (n ∷ ns) = 0 ∷ (n ∷ positive ns)

-- names by their bytes, strings, numbers, children, nodes
abbrev pub rule : List ℕ → List ℕ → List ℕ → List ℕ → List ℕ → Tables
rule names strings numbers children nodes = tables nodes children (positive numbers) (one_byte_each 0 names) strings names

abbrev pub planning : List ℕ → Tables → Operation → Shown
planning marks T operation = listing (operation_outcome T (scope_marked marks) operation)

abbrev pub pattern : Tables → ℕ → Shown
pattern T root = planning [] T (Pattern RespectParent root)

abbrev pub colon_equals : List ℕ → Tables → ℕ → ℕ → Shown
colon_equals marks T left right = planning marks T (ColonEquals left right Present)

abbrev pub equals : Tables → ℕ → ℕ → Shown
equals T left right = planning [] T (Equals left right Present)

abbrev pub after_run : (ℕ → Bool) → RunOutcome → List ℕ → Shown
after_run to_set outcome values = ran (run_answer outcome blank) (values_after to_set outcome blank values)

abbrev pub run_from : List ℕ → Tables → ℕ → ℕ → Shown
run_from values T root value =
    after_run (planned_name (known (scope_marked []) RespectParent) (expr T root)) (run_outcome T (scope_marked []) RespectParent root value values) values

-- from a list in which no name has a value
abbrev pub running : Tables → ℕ → ℕ → Shown
running T = run_from (replicate (name_count T) 0) T

abbrev pub x : ℕ
x = 120

abbrev pub y : ℕ
y = 121

abbrev pub underscore : ℕ
underscore = 95

-- [x, [y]] and [1, [1, 2]]
abbrev pub past_unknown : Tables
past_unknown =
    rule (x ∷ y ∷ []) [] (1 ∷ 1 ∷ 2 ∷ []) (2 ∷ 1 ∷ 3 ∷ 6 ∷ 7 ∷ 5 ∷ 8 ∷ [])
    (name_node 1 (name_node 2 (array_node 0 1 (array_node 1 2 (number_node 0 (number_node 1 (number_node 2 (array_node 3 2 (array_node 5 2 [])))))))))

abbrev pub trials : List Trial
trials =
    record {
      shown = pattern twice 3;
      expected = planned (line 0 0 0 3) (row 5 3 2 0 0 ∷ row 1 1 0 0 1 ∷ row 3 2 0 0 2 ∷ []);
    }
    -- x := 1, where x is bound in this scope, and where it is bound above
    ∷ record {
      shown = colon_equals (2 ∷ []) (rule (x ∷ []) [] (1 ∷ []) [] (name_node 1 (number_node 0 []))) 1 2;
      expected = planned (line 17 1 0 0) [];
    }
    ∷ record {
      shown = colon_equals (1 ∷ []) (rule (x ∷ []) [] (1 ∷ []) [] (name_node 1 (number_node 0 []))) 1 2;
      expected = planned (line 0 1 0 1) (row 1 1 0 0 0 ∷ []);
    }
    -- 1 := 1
    ∷ record {
      shown = colon_equals [] (rule [] [] (1 ∷ 1 ∷ []) [] (number_node 0 (number_node 1 []))) 1 2;
      expected = planned (line 11 1 0 0) [];
    }
    -- _ := 1
    ∷ record {
      shown = colon_equals [] (rule (underscore ∷ []) [] (1 ∷ []) [] (name_node 1 (number_node 0 []))) 1 2;
      expected = planned (line 0 1 0 1) (row 2 1 0 0 0 ∷ []);
    }
    -- x = y
    ∷ record {
      shown = equals (rule (x ∷ y ∷ []) [] [] [] (name_node 1 (name_node 2 []))) 1 2;
      expected = planned (line 18 1 0 0) [];
    }
    -- _ = y
    ∷ record {
      shown = equals (rule (underscore ∷ y ∷ []) [] [] [] (name_node 1 (name_node 2 []))) 1 2;
      expected = planned (line 0 6 1 0) [];
    }
    -- [_] = [x]
    ∷ record {
      shown = equals (rule (underscore ∷ x ∷ []) [] [] (1 ∷ 3 ∷ []) (name_node 1 (array_node 0 1 (name_node 2 (array_node 1 1 []))))) 2 4;
      expected = planned (line 18 1 0 0) [];
    }
    -- [x, 1] = [1, x]
    ∷ record {
      shown =
          equals
          (rule (x ∷ []) [] (1 ∷ 1 ∷ []) (1 ∷ 2 ∷ 4 ∷ 5 ∷ []) (name_node 1 (number_node 0 (array_node 0 2 (number_node 1 (name_node 1 (array_node 2 2 [])))))))
          3 6;
      expected = planned (line 0 4 0 4) (row 7 4 1 0 0 ∷ row 1 1 0 0 1 ∷ row 7 5 1 0 0 ∷ row 3 2 0 0 1 ∷ []);
    }
    -- [x] := [1, 2]
    ∷ record {
      shown =
          colon_equals []
          (rule (x ∷ []) [] (1 ∷ 2 ∷ []) (1 ∷ 3 ∷ 4 ∷ []) (name_node 1 (array_node 0 1 (number_node 0 (number_node 1 (array_node 1 2 []))))))
          2 5;
      expected = planned (line 13 5 1 2) [];
    }
    -- [x, [y]] := [1, [1, 2]]; and read carefully
    ∷ record {
      shown = colon_equals [] past_unknown 4 9;
      expected = planned (line 0 1 0 4) (row 5 4 2 0 0 ∷ row 1 1 0 0 1 ∷ row 5 3 1 0 2 ∷ row 1 2 0 0 1 ∷ []);
    }
    ∷ record {
      shown = planning [] past_unknown (ColonEquals 4 9 Careful);
      expected = planned (line 13 8 1 2) [];
    }
    -- {1: x} := {"1": 2}
    ∷ record {
      shown =
          colon_equals []
          (rule (x ∷ []) (49 ∷ []) (1 ∷ 2 ∷ []) (1 ∷ 2 ∷ 4 ∷ 5 ∷ []) (number_node 0 (name_node 1 (object_node 0 1 (string_node 0 1 (number_node 1 (object_node 2 1 [])))))))
          3 6;
      expected = planned (line 0 1 0 2) (row 6 3 1 0 0 ∷ row 1 2 0 1 1 ∷ []);
    }
    -- {"b": x, "a": x}: its plan lists a first
    ∷ record {
      shown =
          pattern
          (rule (x ∷ []) (98 ∷ 97 ∷ []) [] (1 ∷ 2 ∷ 3 ∷ 4 ∷ []) (string_node 0 1 (name_node 1 (string_node 1 1 (name_node 1 (object_node 0 2 []))))))
          5;
      expected = planned (line 0 0 0 3) (row 6 5 2 0 0 ∷ row 3 4 0 3 2 ∷ row 1 2 0 1 1 ∷ []);
    }
    -- {"b": x, "a": x} on {"a": 1, "b": 1}: x is the 1 under b, the first as written
    ∷ record {
      shown =
          running
          (rule (x ∷ []) (98 ∷ 97 ∷ []) (1 ∷ 1 ∷ []) (1 ∷ 2 ∷ 3 ∷ 4 ∷ 6 ∷ 7 ∷ 8 ∷ 9 ∷ [])
          (string_node 0 1 (name_node 1 (string_node 1 1 (name_node 1 (object_node 0 2 (string_node 1 1 (number_node 0 (string_node 0 1 (number_node 1 (object_node 4 2 [])))))))))))
          5 10;
      expected = ran a_match (9 ∷ []);
    }
    ∷ []
