-- What the functions of the names report ask of their caller and say.
use Rattle.std.specs.Prelude.{ℕ, zero, suc, ◌+◌, ◌-◌, ◌*◌, ◌≤◌, ◌<◌, ◌≡◌, cond, List, [], ◌∷◌, ◌++◌, eqb, ltb, length, get_or, set}
use Rattle.scope.specs.declared.Scope.{Scope}
use Rattle.scope.specs.declared.ScopingMode.{ScopingMode}
use Rattle.table.specs.Tables.{Tables, kind_of, first_word_of, child_at, name_count}
use Rattle.table.specs.Expr.{Expr}
use Rattle.table.specs.Decode.{expr}
use Rattle.base.specs.Lists.{elem, tabulate}
use Rattle.planner.specs.Layout.{top, entry_words, entries, bound_names}
use Rattle.planner.specs.Operations.{plan_of}
use Rattle.planner.specs.code.Post.{Walks, GoodRoot}
use Rattle.report.specs.ComputedKeys.{names_as_keys}
use Rattle.report.specs.Report.{names_met, names_reported, reported}
use Rattle.planner.specs.Entries.{read_entries}

-- 2 for each name of a list
abbrev pub name_words : List ℕ → List ℕ
name_words xs = tabulate (λ i. cond (elem (i + 1) xs) 2 0) 0 128

-- for each name that is met, and for those of the report
unfoldable pub met_words : Expr → List ℕ
met_words e = name_words (names_met e)

unfoldable pub report_words : Expr → List ℕ
report_words e = name_words (names_reported e)

-- 2 in the word of each name of a list, the others as before
unfoldable pub marked : List ℕ → List ℕ → List ℕ
marked [] words = words
marked (x ∷ xs) words = marked xs (set words (x - 1) 2)

-- the names that are keys in the children at `at`, `at + step` and so on, k of them
unfoldable pub keys_from : (ℕ → Expr) → List ℕ → ℕ → ℕ → ℕ → List ℕ
keys_from g ch at step zero = []
keys_from g ch at step (suc k) = names_as_keys (g (child_at ch at)) ++ keys_from g ch (at + step) step k

-- the same of a table
abbrev pub keys_below : Tables → ℕ → ℕ → ℕ → List ℕ
keys_below T at step k = keys_from (expr T) T.children at step k

-- a walk that is at an object
pub record ObjectAsks (T : Tables) (states : List ℕ) (n : ℕ) : Type 0 where
  pub walks : Walks T states n
  pub object : kind_of T.nodes n ≡ 9

abbrev pub met_mark : List ℕ → ℕ → ℕ
met_mark met i = cond (ltb i 128) (cond (eqb (get_or met i 0) 0) 0 2) 0

-- the name that an entry binds has a place in the list
pub record EntryBound (nodes : List ℕ) (kind node : ℕ) (list : List ℕ) : Type 0 where
  pub inside : kind ≡ 1 → (1 ≤ first_word_of nodes node) × (first_word_of nodes node ≤ length list)

abbrev pub marked_by : List ℕ → ℕ → ℕ → List ℕ → List ℕ
marked_by nodes kind node list = cond (eqb kind 1) (set list (first_word_of nodes node - 1) 1) list

pub record BoundAsks (nodes scratch : List ℕ) (count : ℕ) (list : List ℕ) : Type 0 where
  pub few : count ≤ 512
  pub each : (i : ℕ) → i < count → EntryBound nodes (get_or scratch (i * entry_words) 0) (get_or scratch (i * entry_words + 1) 0) list

-- 1 for each name that is bound, the others as before
pub record BoundMarked (nodes scratch : List ℕ) (count : ℕ) (before after : List ℕ) : Type 0 where
  pub long : length after ≡ length before
  pub each : (k : ℕ) → get_or after k 0 ≡ cond (elem (k + 1) (bound_names (first_word_of nodes) (read_entries scratch 0 count))) 1 (get_or before k 0)

pub record ReportAsks (T : Tables) (pattern : ℕ) (list : List ℕ) : Type 0 where
  pub good : GoodRoot T pattern
  pub long : name_count T ≤ length list

pub record PlannedMarked (T : Tables) (s : Scope) (mode : ScopingMode) (pattern : ℕ) (before after : List ℕ) : Type 0 where
  pub long : length after ≡ length before
  pub each : (k : ℕ) → get_or after k 0 ≡ cond (elem (k + 1) (bound_names (first_word_of T.nodes) (entries (plan_of T s mode pattern) top))) 1 (get_or before k 0)

pub record ReportMarked (T : Tables) (s : Scope) (mode : ScopingMode) (pattern : ℕ) (before after : List ℕ) : Type 0 where
  pub list : after ≡ tabulate (λ i. reported T s mode pattern (i + 1)) 0 (length before)
