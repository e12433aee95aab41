-- A pattern's plan that stands first in the scratch, carried out.
use Prim.Native.Nat.{ℕ, ◌-◌, ◌*◌, ◌≤◌}
use mathlib.Core.Path.{◌≡◌, sym, ap, subst, ◌∙◌}
use mathlib.Core.List.{List, [], append-nil}
use mathlib.Core.Bool.{Bool, true, false}
use native.Mathlib.Omega.{arith}
use lib.ListN.{length, replicate, length-replicate}
use lib.Seq.{length-sets}
use Rattle.table.specs.Tables.{Tables}
use Rattle.table.specs.Decode.{expr}
use Rattle.table.specs.code.Sound.{WellFormed}
use Rattle.planner.specs.Plan.{plan}
use Rattle.planner.specs.Layout.{top, entry_words, entries, words}
use Rattle.planner.specs.Entries.{read_entries}
use Rattle.planner.specs.code.Post.{pattern_words}
use Rattle.planner.specs.code.Passes.{binders_of}
use Rattle.planner.proofs.buffer.ReadBack.{read_laid}
use Rattle.planner.proofs.laws.Binders.{lay_plan_of}
use Rattle.planner.proofs.laws.Sizes.{lay_few_of}
use Rattle.planner.proofs.fields.Objects.{node_of_lem}
use Rattle.value.specs.Value.{value_of}
use Rattle.std.proofs.Common.{Ok, Err}
use Rattle.matching.specs.Matching.{MatchOutcome, run}
use Rattle.matching.specs.Reading.{standing}
use Rattle.matching.specs.code.Linking.{LinkAsks, Linked}
use Rattle.matching.specs.code.Post.{node_at, env_of, run_at, StandsAt, EntryAsks, Came, PlanIn, PatternAsks, names_after, PatternCame}
use Rattle.matching.proofs.Lists.{whole_list}
use Rattle.matching.proofs.Standing.{stands_node, stands_run}
use Rattle.matching.proofs.reading.PlanTold.{plan_told}
use Rattle.matching.proofs.reading.LinkedPlans.{plan_links}

module _ (T : Tables) (w : WellFormed T) (u : ℕ → Bool) (root : ℕ) {scratch : List ℕ} {count : ℕ} (p : PlanIn T u root scratch count) where
  size : count ≡ length (entries (plan u (expr T root) []) top)
  size = let e = p.laid.end in omega arith

  few : count ≤ 512
  few =
      let f = rw (lay_plan_of T w u root p.node top) at (lay_few_of T w (binders_of u (expr T root) (replicate 128 0)) root p.node top) in
      let z = size in
      omega arith

  whole : read_entries scratch 0 count ≡ entries (plan u (expr T root) []) top
  whole =
      let f = few in
      let long = ap length p.laid.stored ∙ (length-sets (replicate pattern_words 0) (0 * entry_words) (words (entries (plan u (expr T root) []) top)) ∙ length-replicate {A = ℕ} pattern_words 0) in
      read_laid p.laid (omega arith)

  stands : StandsAt scratch count 0 (standing (plan u (expr T root) []) top)
  stands = let z : count - 0 ≡ count = omega arith in record { behind = []; read = rw z (whole ∙ sym (append-nil (entries (plan u (expr T root) []) top))) }

  root_is : node_at scratch 0 ≡ root
  root_is = stands_node u (expr T root) [] top stands ∙ node_of_lem T w root p.node

  runs_plan : (value : ℕ) (list : List ℕ) → run_at T scratch 0 value list ≡ run (plan u (expr T root) []) (value_of (expr T value)) (env_of T list)
  runs_plan = stands_run T w u root p.node p.is_simple [] top few stands

module _ {T : Tables} {scratch : List ℕ} {count value : ℕ} {list : List ℕ} (a : PatternAsks T scratch count value list) where
  pub pattern_links : LinkAsks scratch count
  pattern_links =
      let p = a.planned in
      plan_links (expr T) scratch (plan a.unbound (expr T a.root) []) (plan_told T a.table a.unbound a.root p.node p.is_simple []) top count
      (whole T a.table a.unbound a.root p) (size T a.table a.unbound a.root p) (few T a.table a.unbound a.root p)

  pub pattern_asks : {starts links : List ℕ} → Linked scratch count starts links → EntryAsks T scratch starts links 0 value 32 list
  pattern_asks linked =
      let p = a.planned in
      let is = root_is T a.table a.unbound a.root p in
      record {
        inside = omega arith;
        table = a.table;
        size = count;
        few = few T a.table a.unbound a.root p;
        linked = linked;
        unbound = a.unbound;
        seen = [];
        place = top;
        stands = rw is (stands T a.table a.unbound a.root p);
        node = rw is p.node;
        is_simple = rw is p.is_simple;
        deep = rw is a.deep;
        value_ok = a.value_ok;
        list_ok = a.list_ok;
        no_fault = λ e. a.no_fault (sym (runs_plan T a.table a.unbound a.root p value list) ∙ e);
      }

  module _ {after : List ℕ} {r : Bool} (c : Came T (run_at T scratch 0 value list) after r) where
    came_as : (u : ℕ → Bool) (root : ℕ) → PlanIn T u root scratch count → Came T (run (plan u (expr T root) []) (value_of (expr T value)) (env_of T list)) after r
    came_as u root p = subst (λ (o : MatchOutcome). Came T o after r) (runs_plan T a.table u root p value list) c

    pub pattern_matched : r ≡ true → PatternCame T scratch count value list (Ok after)
    pattern_matched t = record {
      each = λ u root p.
          let d = came_as u root p in
          let e = d.hit t in
          ap Ok (whole_list a.table d.list_ok) ∙ sym (ap (λ (o : MatchOutcome). names_after o list) e);
    }

    pub pattern_missed : r ≡ false → PatternCame T scratch count value list (Err list)
    pattern_missed t = record {
      each = λ u root p. sym (ap (λ (o : MatchOutcome). names_after o list) ((came_as u root p).miss t));
    }
