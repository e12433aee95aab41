-- The pair of two sides as they are.
use Rattle.std.proofs.Common.{Result, Ok, Err}
use Prim.Native.Nat.{ℕ, ◌+◌, ◌≤◌}
use mathlib.Core.Path.{◌≡◌, sym, ap, subst, ◌∙◌}
use mathlib.Core.Bool.{Bool}
use mathlib.Core.List.{List, [], ◌∷◌, append-nil}
use native.Mathlib.Omega.{arith}
use lib.ListN.{length}
use Rattle.table.specs.Tables.{Tables}
use Rattle.table.specs.Decode.{expr}
use Rattle.table.specs.code.Sound.{Node, WellFormed}
use Rattle.planner.specs.declared.PlanRefusal.{PlanRefusal}
use Rattle.planner.specs.Plan.{DestructuringPlan, plan, after}
use Rattle.planner.specs.Layout.{Entry, below, top, entry, entries, introduces_binding}
use Rattle.planner.specs.code.Passes.{unbound_in}
use Rattle.planner.proofs.fields.Objects.{node_of_lem}
use Rattle.assignment.specs.Pairs.{pair, pairs_entries, Flat, paired, binds}
use Rattle.assignment.specs.code.Previewing.{Scoped, Previewed, Learnt}
use Rattle.assignment.specs.code.Flattening.{FlattenedAs, Flattens, SideAsks, Compared, Bound}
use Rattle.assignment.specs.code.Flats.{FailedAs, side_flat}
use Rattle.planner.specs.Entries.{read_entries, Wrote, put_entries}
use Rattle.assignment.proofs.preview.Seen.{plan_scoped, after_scoped, learns_none, learns_bound}
use Rattle.planner.proofs.buffer.ReadBack.{length_read}
use Rattle.planner.proofs.buffer.Copies.{wrote_none, wrote_append, wrote_copied}
use Rattle.assignment.proofs.preview.Previews.{previewed_entries}

-- the same of another definition
pub flattens_as : {f g : (ℕ → Bool) → List ℕ → Flat} {T : Tables} {most bound : ℕ} {states before : List ℕ} {at : ℕ} {later after : List ℕ} {r : Result ℕ PlanRefusal}
    → ((u : ℕ → Bool) (seen : List ℕ) → Scoped T u seen states → f u seen ≡ g u seen) → most ≤ bound → Flattens f T most states before at later after r → Flattens g T bound states before at later after r
flattens_as {f} {g} {T} {most} {bound} {states} {before} {at} {later} {after} {r} same le a = record { each = λ u seen s. go r u seen (same u seen s) (a.each u seen s) }
  where
    go : (r : Result ℕ PlanRefusal) (u : ℕ → Bool) (seen : List ℕ) → f u seen ≡ g u seen → FlattenedAs (f u seen) seen most states before at later after r → FlattenedAs (g u seen) seen bound states before at later after r
    go (Ok k) u seen e c = record {
      pairs = c.pairs;
      names = c.names;
      is = sym e ∙ c.is;
      wrote = c.wrote;
      few = let f = c.few in omega arith;
      learns = c.learns;
    }
    go (Err a) u seen e c = record {
      failed = record { refusal = c.failed.refusal; is = sym e ∙ c.failed.is; line = c.failed.line };
      pairs = c.pairs;
      names = c.names;
      end = c.end;
      wrote = c.wrote;
      learns = c.learns;
    }

-- a refusal before any pair
pub flattens_none : {f : (ℕ → Bool) → List ℕ → Flat} (T : Tables) (most : ℕ) (states before : List ℕ) (at : ℕ) {answer : PlanRefusal}
    → ((u : ℕ → Bool) (seen : List ℕ) → Scoped T u seen states → FailedAs (f u seen) answer) → Flattens f T most states before at states before (Err answer)
unfolding pairs_entries
flattens_none T most states before at fails = record {
  each = λ u seen s. record { failed = fails u seen s; pairs = []; names = []; end = at; wrote = wrote_none before at; learns = learns_none states };
}

-- a side's plan, by the states
module _ (T : Tables) (w : WellFormed T) {states : List ℕ} {n : ℕ} (v : Node T n) {told : Bool} (is : told ≡ introduces_binding (plan (unbound_in states) (expr T n) [])) where
  pub binds_told : (u : ℕ → Bool) (seen : List ℕ) → Scoped T u seen states → told ≡ binds u (expr T n) seen
  binds_told u seen s = is ∙ ap introduces_binding (plan_scoped T w u seen states s n v)

-- one side binds
pub side_wrote : (scratch : List ℕ) (count : ℕ) {before mid after : List ℕ} {at value : ℕ} → Wrote before at (entry 7 value 1 top ∷ []) mid (at + 1) → after ≡ put_entries mid (at + 1) (read_entries scratch 0 count)
    → {states binders known : List ℕ} → Learnt states binders known → Bound value (read_entries scratch 0 count) states binders before at known after (at + 1 + count)
side_wrote scratch count {mid = mid} {at = at} a b l = record { wrote = wrote_append a (wrote_copied scratch mid (at + 1) count b); learnt = l }

pub side_bound : {T : Tables} {states : List ℕ} {pattern value at : ℕ} → SideAsks T states pattern value at → {start binders scratch : List ℕ} {count : ℕ} {told : Bool} → Previewed T states pattern 1 start binders scratch count told
    → {before known later : List ℕ} {r : ℕ} → Bound value (read_entries scratch 0 count) states binders before at known later r → Flattens (side_flat T pattern value) T 513 states before at known later (Ok r)
unfolding side_flat pairs_entries
side_bound {T} {states} {pattern} {value} {at} a {start} {binders} {scratch} {count} p {before} {known} {later} {r} b = record {
  each = λ u seen s.
      let w = a.pair_ok.table in
      let read : read_entries scratch 0 count ≡ entries (plan u (expr T pattern) seen) (below 0 1) = previewed_entries p ∙ ap (λ (q : DestructuringPlan). entries q (below 0 1)) (plan_scoped T w u seen states s pattern a.pair_ok.first) in
      let value_node_lem = node_of_lem T w value a.pair_ok.second in
      let all : entry 7 value 1 top ∷ read_entries scratch 0 count ≡ pairs_entries (pair (expr T value) (plan u (expr T pattern) seen) ∷ []) =
      sym (append-nil (entry 7 value 1 top ∷ read_entries scratch 0 count)) ∙ rw (read, value_node_lem) in
      record {
        pairs = pair (expr T value) (plan u (expr T pattern) seen) ∷ [];
        names = after (unbound_in states) (expr T pattern) [];
        is = ap (paired (pair (expr T value) (plan u (expr T pattern) seen) ∷ [])) (after_scoped T w u seen states s pattern a.pair_ok.first);
        wrote = subst (λ (es : List Entry). Wrote before at es later r) all b.wrote;
        few = let n = ap length all in let k = length_read scratch 0 count in let f = p.asks.few in omega arith;
        learns = learns_bound T w pattern a.pair_ok.first p.bound b.learnt;
      };
}

-- neither does
pub sides_compared : {before mid after : List ℕ} {at left right : ℕ} → Wrote before at (entry 7 right 1 top ∷ []) mid (at + 1) → Wrote mid (at + 1) (entry 3 left 0 (below 0 1) ∷ []) after (at + 1 + 1)
    → Compared left right before at after (at + 2)
sides_compared {at = at} a b = let e : at + 1 + 1 ≡ at + 2 = omega arith in record { wrote = rw e at (wrote_append a b) }
