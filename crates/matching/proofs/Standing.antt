-- What the entry says at which a pattern's plan stands, and what carrying out from it on comes to.
use Prim.Native.Nat.{ℕ, zero, suc, ◌+◌, ◌-◌, ◌*◌, ◌≤◌, ◌<◌}
use mathlib.Core.Path.{◌≡◌, refl, ap, ◌∙◌}
use mathlib.Core.List.{List, [], ◌∷◌, ◌++◌, append_assoc}
use mathlib.Core.Bool.{Bool, true, false, cond}
use native.Mathlib.Omega.{arith}
use lib.ListN.{length, get_or}
use Rattle.table.specs.Tables.{Tables}
use Rattle.table.specs.Decode.{expr}
use Rattle.table.specs.Expr.{Expr, literal, name, wildcard, array, object, other, node_of}
use Rattle.table.specs.code.Sound.{Node, WellFormed}
use Rattle.planner.specs.Layout.{Entry, Place, entry_words, entry, entries, entries_all_lem, count_plans_lem, field_order, no_fields, in_order, concat}
use Rattle.planner.specs.Entries.{entry_at, read_entries}
use Rattle.planner.specs.Plan.{var, equality_expr, fresh, plan, plans, field_plans}
use Rattle.planner.specs.Simple.{simple}
use Rattle.value.specs.Value.{value_of}
use Rattle.matching.specs.Matching.{run}
use Rattle.matching.specs.Reading.{standing, name_of, run_entries}
use Rattle.matching.specs.code.Post.{node_at, env_of, run_at, StandsAt}
use Rattle.matching.proofs.EntryLists.{blank}
use Rattle.matching.proofs.reading.PlanTold.{run_read}

-- the kind of an expression's entry
abbrev pub entry_kind : Bool → Expr → ℕ
entry_kind binds (literal n l) = 4
entry_kind binds (name n x) = cond binds 1 3
entry_kind binds (wildcard n) = 2
entry_kind binds (array n es) = 5
entry_kind binds (Expr.set n es) = 3
entry_kind binds (object n fs) = 6
entry_kind binds (other n) = 3

plan_head : (u : ℕ → Bool) (e : Expr) (seen : List ℕ) (place : Place)
    → (children : ℕ) × (es : List Entry) × (entries (plan u e seen) place ≡ entry (entry_kind (fresh u seen (name_of e)) e) (node_of e) children place ∷ es)
unfolding plan entries
plan_head u (literal n l) seen place = (0, [], refl)
plan_head u (name n x) seen place = go (fresh u seen x)
  where
    go : (c : Bool) → (children : ℕ) × (es : List Entry) × (entries (cond c (var n x) (equality_expr (name n x))) place ≡ entry (cond c 1 3) n children place ∷ es)
    go true = (0, [], refl)
    go false = (0, [], refl)
plan_head u (wildcard n) seen place = (0, [], refl)
plan_head u (array n es) seen place = (count_plans_lem (plans u es seen), entries_all_lem (plans u es seen) 1, refl)
plan_head u (Expr.set n es) seen place = (0, [], refl)
plan_head u (object n fs) seen place = (length (in_order (field_order (field_plans u fs seen) 1 no_fields)), concat (in_order (field_order (field_plans u fs seen) 1 no_fields)), refl)
plan_head u (other n) seen place = (0, [], refl)

abbrev first : List Entry → Entry
first [] = blank
first (e ∷ es) = e

read_head : (scratch : List ℕ) (i k : ℕ) (e : Entry) (es : List Entry) → read_entries scratch i k ≡ e ∷ es → (1 ≤ k) × (entry_at scratch i ≡ e)
unfolding read_entries
read_head scratch i zero e es q = let l = ap length q in absurd (omega arith)
read_head scratch i (suc k) e es q = (omega arith, ap first q)

read_append : (scratch : List ℕ) (k i m : ℕ) → read_entries scratch i (k + m) ≡ read_entries scratch i k ++ read_entries scratch (i + k) m
unfolding read_entries
read_append scratch zero i m = let z : i + 0 ≡ i = omega arith in let y : 0 + m ≡ m = omega arith in rw (z, y)
read_append scratch (suc k) i m =
    let y : suc k + m ≡ suc (k + m) = omega arith in
    let z : i + suc k ≡ i + 1 + k = omega arith in
    rw (y, z) (ap (λ (es : List Entry). entry_at scratch i ∷ es) (read_append scratch k (i + 1) m))

-- a plan stands at entry `at` of `size`
module _ (u : ℕ → Bool) (e : Expr) (seen : List ℕ) (place : Place) {scratch : List ℕ} {size at : ℕ} (stands : StandsAt scratch size at (standing (plan u e seen) place)) where
  head : (children : ℕ) × (1 ≤ size - at) × (entry_at scratch at ≡ entry (entry_kind (fresh u seen (name_of e)) e) (node_of e) children place)
  head =
      let (children, es, q) = plan_head u e seen place in
      let r = read_head scratch at (size - at) (entry (entry_kind (fresh u seen (name_of e)) e) (node_of e) children place) (es ++ stands.behind) (stands.read ∙ ap (λ (l : List Entry). l ++ stands.behind) q) in
      (children, r.0, r.1)

  pub stands_inside : at < size
  stands_inside = let h = head.1 in omega arith

  pub stands_kind : get_or scratch (at * entry_words) 0 ≡ entry_kind (fresh u seen (name_of e)) e
  stands_kind = ap (λ (x : Entry). x.kind) head.2

  pub stands_node : node_at scratch at ≡ node_of e
  stands_node = ap (λ (x : Entry). x.node) head.2

  pub stands_key : get_or scratch (at * entry_words + 3) 0 ≡ place.key
  stands_key = ap (λ (x : Entry). x.key) head.2

-- carrying out from there on is the run of the plan
pub stands_run : (T : Tables) → WellFormed T → (u : ℕ → Bool) (n : ℕ) → Node T n → simple (expr T n) ≡ true → (seen : List ℕ) (place : Place) {scratch : List ℕ} {size at : ℕ} → size ≤ 512
    → StandsAt scratch size at (standing (plan u (expr T n) seen) place)
    → (value : ℕ) (list : List ℕ) → run_at T scratch at value list ≡ run (plan u (expr T n) seen) (value_of (expr T value)) (env_of T list)
unfolding run_at
stands_run T w u n v is seen place {scratch} {size} {at} few stands value list =
    let behind : List Entry = stands.behind in
    let inside = stands_inside u (expr T n) seen place stands in
    let split : 512 - at ≡ size - at + (512 - size) = omega arith in
    let end : at + (size - at) ≡ size = omega arith in
    let all : read_entries scratch at (512 - at) ≡ entries (plan u (expr T n) seen) place ++ (behind ++ read_entries scratch size (512 - size)) =
    ap (read_entries scratch at) split
    ∙ (read_append scratch (size - at) at (512 - size)
    ∙ (ap (λ (m : ℕ). read_entries scratch at (size - at) ++ read_entries scratch m (512 - size)) end
    ∙ (ap (λ (es : List Entry). es ++ read_entries scratch size (512 - size)) stands.read
    ∙ append_assoc (entries (plan u (expr T n) seen) place) behind (read_entries scratch size (512 - size))))) in
    ap (λ (es : List Entry). run_entries (expr T) es (value_of (expr T value)) (env_of T list)) all
    ∙ run_read T w u n v is seen place (behind ++ read_entries scratch size (512 - size)) (value_of (expr T value)) (env_of T list)
