-- Demand 3, of what a run answers: its contract says that the answer, the plan buffer and the list at exit are the ones below.
use Rattle.std.specs.Prelude.{ℕ, ◌+◌, ◌*◌, ◌≤◌, ◌≡◌, ◌⊎◌, true, List, T as True, length, get_or}
use Rattle.base.specs.Refusal.{passed}
use Rattle.scope.specs.declared.Scope.{Scope}
use Rattle.scope.specs.declared.ScopingMode.{ScopingMode}
use Rattle.scope.specs.Scope.{is_unbound, known}
use Rattle.table.specs.Tables.{Tables, name_count, is_node}
use Rattle.table.specs.Expr.{Expr}
use Rattle.table.specs.Decode.{expr}
use Rattle.table.specs.Check.{checked}
use Rattle.planner.specs.Layout.{top, entry_words, entries}
use Rattle.planner.specs.Operations.{plan_of}
use Rattle.planner.specs.Simple.{simple, mentions}
use Rattle.value.specs.Value.{Value, is_value, value_of, Proper, Same, EqualityLaws}
use Rattle.matching.specs.Matching.{fault, outcome, Blanks, fill, SameBlanks, Filling, Makes}
use Rattle.run.specs.Answer.{RunResult, a_match, no_match_lem}
use Rattle.run.specs.Operations.{listed_node, in_table, is_value_node, listed, ran, run_outcome, run_answer, planned_name, values_after}

module _ (T : Tables) (s : Scope) (mode : ScopingMode) (pattern value : ℕ) (values buffer : List ℕ) where
  -- A pattern of names, underscores, literals, arrays and objects with literal keys only, all different; tables and scope pass the check, list and buffer are long enough;
  -- the value and the listed nodes are values, and the pattern's known names are listed.
  pub record Hypotheses : Type 0 where
    pub tables_pass : checked T s ≡ passed
    pub pattern_inside : is_node T pattern ≡ true
    pub value_inside : is_node T value ≡ true
    pub list_long_lem : name_count T ≤ length values
    pub buffer_long : entry_words * length (entries (plan_of T s mode pattern) top) ≤ length buffer
    pub pattern_simple : simple (expr T pattern) ≡ true
    pub value_is_value : is_value (expr T value) ≡ true
    pub listed_are_values : (x : ℕ) → in_table T x ≡ true → (listed_node values x ≡ 0 → ⊥) → is_value_node T (listed_node values x) ≡ true
    pub known_are_listed : (x : ℕ) → mentions x (expr T pattern) ≡ true → known s mode x ≡ true → listed_node values x ≡ 0 → ⊥

  -- what the run answers, and the list at exit
  abbrev pub answer : RunResult
  answer = run_answer (run_outcome T s mode pattern value values) buffer

  abbrev pub list : List ℕ
  list = values_after (planned_name (known s mode) (expr T pattern)) (run_outcome T s mode pattern value values) buffer values

  -- the planned names: the pattern's that are not known
  abbrev pub is_planned : ℕ → Type 0
  is_planned x = True (planned_name (known s mode) (expr T pattern) x)

  -- a filling, one value for each name and each underscore, makes pattern and value equal; known names keep their listed values
  abbrev pub Fills : Filling (expr T pattern) → Type 0
  Fills f = Makes (is_unbound s mode) (listed T values) (expr T pattern) (value_of (expr T value)) f

  -- of an answer and a list at exit
  pub record Promised (told : RunResult) (after : List ℕ) : Type 0 where
    pub decided : (told ≡ a_match) ⊎ (told ≡ no_match_lem)
    -- the entries, carried out by their positions, come to what the plan does as written
    pub as_planned : ran T s mode pattern value values ≡ outcome (is_unbound s mode) (listed T values) (expr T pattern) (value_of (expr T value))
    -- no name is read without a value, none set that has one
    pub no_fault_lem : ran T s mode pattern value values ≡ fault → ⊥
    -- match exactly when some filling makes pattern and value equal
    pub if_matched : told ≡ a_match → (f : Filling (expr T pattern)) × Fills f
    pub if_filled : (f : Filling (expr T pattern)) → Fills f → told ≡ a_match
    -- a match sets the planned names to the nodes of values that are equal to theirs in any such filling, and no other name
    pub sets : told ≡ a_match → (x : ℕ) → is_planned x
        → (is_value_node T (listed_node after x) ≡ true) × ((f : Filling (expr T pattern)) → Fills f → Same (value_of (expr T (listed_node after x))) (f.names x).value)
    pub keeps : (i : ℕ) → (is_planned (i + 1) → ⊥) → get_or after i 0 ≡ get_or values i 0
    pub unmatched : told ≡ no_match_lem → after ≡ values
    -- any two such fillings give each planned name and each underscore equal values
    pub only_names : (f g : Filling (expr T pattern)) → Fills f → Fills g → (x : ℕ) → is_planned x → Same (f.names x).value (g.names x).value
    pub only_blanks : (f g : Filling (expr T pattern)) → Fills f → Fills g → SameBlanks (expr T pattern) f.blanks g.blanks

pub record RunDemand : Type 0 where
  pub runs : (T : Tables) (s : Scope) (mode : ScopingMode) (pattern value : ℕ) (values buffer : List ℕ) → Hypotheses T s mode pattern value values buffer
      → Promised T s mode pattern value values buffer (answer T s mode pattern value values buffer) (list T s mode pattern value values buffer)
  -- equality is an equivalence of values, and a simple pattern that is filled with values is a value
  pub equality : EqualityLaws
  pub filled : (names : ℕ → Value) (pattern : Expr) (blanks : Blanks pattern) → True (simple pattern) → ((x : ℕ) → Proper (names x)) → Proper (fill names pattern blanks)
