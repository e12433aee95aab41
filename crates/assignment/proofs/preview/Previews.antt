-- A side's preview, and those of two sides.
use Prim.Native.Nat.{ℕ}
use mathlib.Core.Path.{◌≡◌, ap, subst, ◌∙◌}
use mathlib.Core.Bool.{Bool}
use mathlib.Core.List.{List, []}
use native.Mathlib.Omega.{arith}
use lib.ListN.{length, replicate}
use Rattle.table.specs.Tables.{Tables}
use Rattle.table.specs.Decode.{expr}
use Rattle.planner.specs.Plan.{plan}
use Rattle.planner.specs.Layout.{Entry, below, binds_any}
use Rattle.planner.specs.code.Passes.{unbound_in}
use Rattle.planner.specs.code.Post.{Walks, PlanAsks, PlannedBy}
use Rattle.assignment.specs.code.Previewing.{ReadAsks, Roomy, side_entries, Previewed, SideWritten, SidesTold}
use Rattle.planner.specs.Entries.{read_entries, Wrote}
use Rattle.planner.proofs.Places.{binds_anywhere}
use Rattle.planner.proofs.buffer.Copies.{wrote_long, wrote_read}

-- a preview
read_back : {before scratch : List ℕ} {count : ℕ} {es : List Entry} → Wrote before 0 es scratch count → ReadAsks scratch count → read_entries scratch 0 count ≡ es
read_back w a = let h = a.held in let long = wrote_long w in wrote_read w (omega arith)

pub previewed_entries : {T : Tables} {states : List ℕ} {n position : ℕ} {before binders scratch : List ℕ} {count : ℕ} {told : Bool} → Previewed T states n position before binders scratch count told → read_entries scratch 0 count ≡ side_entries T states n position
previewed_entries p = read_back p.wrote p.asks

pub previewed_written : {T : Tables} {states : List ℕ} {n position : ℕ} {before binders scratch : List ℕ} {count : ℕ} {told : Bool} → Previewed T states n position before binders scratch count told → SideWritten T states n position before binders scratch
previewed_written p = record { bound = p.bound; put = p.wrote.put }

pub ask_preview : {T : Tables} {states : List ℕ} {n : ℕ} → Walks T states n → (start : List ℕ) {binders : List ℕ} → binders ≡ replicate (length start) 0 → length start ≡ 128 → PlanAsks T states n binders 0
ask_preview a start e long = record { walks = a; none_bound = rw long at e; low = omega arith }

module _ {T : Tables} {states : List ℕ} {n position : ℕ} (a : Walks T states n) {before : List ℕ} (space : Roomy T before) {binders scratch : List ℕ} {count : ℕ} (p : PlannedBy T states n position 0 before binders scratch count) where
  pub ask_read : ReadAsks scratch count
  ask_read =
      let s = space.space in
      let m = p.space in
      let h = a.node.high in
      let long = wrote_long p.wrote in
      record { few = p.few; held = omega arith }

  pub previewed : {told : Bool} → told ≡ binds_any (read_entries scratch 0 count) → Previewed T states n position before binders scratch count told
  previewed is = record { bound = p.bound; wrote = p.wrote; told = is ∙ (ap binds_any (read_back p.wrote ask_read) ∙ binds_anywhere (plan (unbound_in states) (expr T n) []) (below 0 position)); asks = ask_read }

-- two previews, the left one's over the right one's
pub sides_told : {T : Tables} {states : List ℕ} {left right position : ℕ} {before known mid : List ℕ} {some : ℕ} {other : Bool} → Previewed T states right position before known mid some other
    → {binders scratch : List ℕ} {count : ℕ} {one : Bool} → Previewed T states left position mid binders scratch count one → SidesTold T states left right position before binders scratch count one other
sides_told {T} {states} {left} {position = position} r {binders} {scratch} {count} {one} l = record {
  left_seen = subst (λ (x : List ℕ). Previewed T states left position x binders scratch count one) r.wrote.put l;
  right_told = r.told;
}

pub roomy_kept : {T : Tables} {before after : List ℕ} → Roomy T before → length after ≡ length before → Roomy T after
roomy_kept r e = record { space = rw e r.space }
