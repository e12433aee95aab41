-- What was planned, and its listing.
use Prim.Native.Nat.{ℕ, ◌/◌, ◌+◌, ◌*◌, ◌≤◌}
use mathlib.Core.Bool.{Bool, true, false, cond}
use mathlib.Core.List.{List, ◌++◌}
use mathlib.Core.Path.{◌≡◌, refl, ap, ◌∙◌}
use native.Mathlib.Omega.{arith}
use borrow.Author.Tests.{leb-true, le-leb}
use lib.Dec.{leb}
use lib.ListN.{length, drop, replicate, length-append, get_or-append}
use Rattle.base.specs.Refusal.{Refusal, plan_too_large, Line, line, refusal_line}
use Rattle.planner.specs.Layout.{Entry, entry_words, words}
use Rattle.planner.specs.Operations.{Outcome, refused, planned, answered, written}
use Rattle.planner.specs.Entries.{read_entries}
use Rattle.planner.proofs.buffer.ReadBack.{read_words}
use Rattle.planner.proofs.buffer.Written.{length_words}
use Rattle.operation.specs.declared.row.Row.{Row}
use Rattle.operation.specs.Rows.{row_line}
use Rattle.sheet.specs.Sheet.{parse}
use Rattle.sheet.specs.Outcome.{outcome_of_sheet, PlannedInto}
use Rattle.sheet.specs.Listing.{lines_of, lines_bytes, listing_of, Printed}
use Rattle.std.specs.Prelude.{Option, Some, None}
use Rattle.sheet.specs.code.Post.{plan_words, entries_in, answer_lines, TriedBy}

-- what is listed of an answer and its plan
record Listed (o : Outcome) (first : Line) (plan : List ℕ) : Type 0 where
  held : entries_in first * entry_words ≤ length plan
  lines : answer_lines first plan ≡ lines_of o

listed_refused : (a : Refusal) (plan : List ℕ) → Listed (refused a) (refusal_line a) plan
unfolding lines_of read_entries
listed_refused a plan =
    let z : entries_in (refusal_line a) ≡ 0 = rw a.refuses in
    record { held = omega arith; lines = rw z }

module _ (form side : ℕ) (es : List Entry) {plan : List ℕ} where
  listed_planned : (size : ℕ) → leb (length es) 1536 ≡ true → plan ≡ words es ++ drop (entry_words * length es) (replicate size 0) → Listed (planned form side es) (line 0 form side (length es)) plan
  unfolding lines_of
  listed_planned size fits e =
      let rest : List ℕ = drop (entry_words * length es) (replicate size 0) in
      let w = length_words es in
      let long : length plan ≡ length (words es) + length rest = ap length e ∙ length-append (words es) rest in
      let read : read_entries plan 0 (length es) ≡ es =
      read_words es plan 0 (λ j lt.
      let z : 0 * entry_words + j ≡ j = omega arith in
      rw (z, e) (get_or-append (words es) rest 0 j (omega arith))) in
      record { held = omega arith; lines = rw (fits, read) }

  listed_large : leb (length es) 1536 ≡ false → Listed (planned form side es) (refusal_line (plan_too_large (length es))) plan
  unfolding lines_of read_entries
  listed_large past = record { held = omega arith; lines = rw past }

-- what was planned into the full space
listed_full : (o : Outcome) {blank plan : List ℕ} {r : Row} → length blank ≡ plan_words → PlannedInto o blank plan r → Listed o (row_line r) plan
unfolding answered written
listed_full (refused b) {plan = plan} long done = rw done.answer (listed_refused b plan)
listed_full (planned form side es) {blank} {plan} {r} long done = go (leb (length es) 1536) refl (rw long at done.answer) (rw long at done.buffer)
  where
    go : (b : Bool) → leb (length es) 1536 ≡ b → row_line r ≡ cond b (line 0 form side (length es)) (refusal_line (plan_too_large (length es)))
        → plan ≡ cond b (words es ++ drop (entry_words * length es) (replicate plan_words 0)) (replicate plan_words 0)
        → Listed (planned form side es) (row_line r) plan
    go true p e f = rw e (listed_planned form side es plan_words p f)
    go false p e f = rw e (listed_large form side es p)

-- in a smaller space, where that suffices
listed_small : (o : Outcome) {blank plan : List ℕ} {r : Row} → length blank ≤ plan_words → PlannedInto o blank plan r → (r.number ≡ 6 → ⊥) → Listed o (row_line r) plan
unfolding answered written
listed_small (refused b) {plan = plan} few done other = rw done.answer (listed_refused b plan)
listed_small (planned form side es) {blank} {plan} {r} few done other = go (leb (length es) (length blank / entry_words)) refl done.answer done.buffer
  where
    go : (b : Bool) → leb (length es) (length blank / entry_words) ≡ b → row_line r ≡ cond b (line 0 form side (length es)) (refusal_line (plan_too_large (length es)))
        → plan ≡ cond b (words es ++ drop (entry_words * length es) (replicate (length blank) 0)) (replicate (length blank) 0)
        → Listed (planned form side es) (row_line r) plan
    go true p e f =
        let fits = leb-true (length es) (length blank / entry_words) p in
        rw e (listed_planned form side es (length blank) (le-leb (length es) 1536 (omega arith)) f)
    go false p e f = absurd (other (ap (λ (l : Line). l.number) e))

-- a sheet's listing, by its plan in the full space
module _ (sheet : List ℕ) {blank plan : List ℕ} {r : Row} (done : PlannedInto (outcome_of_sheet (parse sheet)) blank plan r) where
  module _ (long : length blank ≡ plan_words) where
    pub full_held : entries_in (row_line r) * entry_words ≤ length plan
    full_held = (listed_full (outcome_of_sheet (parse sheet)) long done).held

    pub full_listed : {before after : List ℕ} {bytes : ℕ} → Printed (lines_bytes (answer_lines (row_line r) plan)) before after bytes → Printed (listing_of sheet) before after bytes
    unfolding listing_of
    full_listed p = rw (← (listed_full (outcome_of_sheet (parse sheet)) long done).lines) p

  -- and in the small one
  module _ (small : length blank ≤ plan_words) (other : r.number ≡ 6 → ⊥) where
    pub small_held : entries_in (row_line r) * entry_words ≤ length plan
    small_held = (listed_small (outcome_of_sheet (parse sheet)) small done other).held

    pub small_listed : {before after : List ℕ} {bytes : ℕ} → Printed (lines_bytes (answer_lines (row_line r) plan)) before after bytes → TriedBy (listing_of sheet) before after (Some bytes)
    unfolding listing_of
    small_listed {bytes = bytes} p = record {
      listed = λ n e. let same : bytes ≡ n = cc in rw (← (listed_small (outcome_of_sheet (parse sheet)) small done other).lines, ← same) p;
      kept = λ e. let z : ◌≡◌ {A = ℕ} 0 1 = cc in absurd (omega arith);
    }

pub too_large : (sheet out : List ℕ) → TriedBy (listing_of sheet) out out None
too_large sheet out = record { listed = λ n e. let z : ◌≡◌ {A = ℕ} 0 1 = cc in absurd (omega arith); kept = λ _. refl }

-- and what is made of it
module _ {listing before after : List ℕ} {r : Option ℕ} (tried : TriedBy listing before after r) where
  pub was_listed : {bytes : ℕ} → r ≡ Some bytes → Printed listing before after bytes
  was_listed {bytes} e = tried.listed bytes e

  pub then_listed : {last : List ℕ} {bytes : ℕ} → r ≡ None → Printed listing after last bytes → Printed listing before last bytes
  then_listed e p = rw (tried.kept e) at p
