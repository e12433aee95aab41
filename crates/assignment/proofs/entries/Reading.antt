-- Names that this very scope has bound, found among the entries of a scratch.
use Prim.Native.Nat.{ℕ, zero, suc, ◌+◌, ◌-◌, ◌*◌, ◌/◌, ◌≤◌, ◌<◌}
use mathlib.Core.Path.{◌≡◌, refl, sym, ap, ◌∙◌}
use mathlib.Core.List.{List, ◌∷◌}
use mathlib.Core.Bool.{Bool, true, false}
use native.Mathlib.Omega.{arith}
use borrow.Author.Tests.{ne_eqb}
use lib.ListN.{get_or, length, get_or-eq_default}
use Rattle.scope.specs.declared.Scope.{Scope}
use Rattle.scope.specs.declared.NameOutside.{NameOutside}
use Rattle.std.specs.Prelude.{Result}
use Rattle.std.specs.Result.{result_unwrap_or}
use Rattle.scope.specs.Scope.{same_scope, asked, question_of}
use Rattle.scope.proofs.Laws.{reply_or_no}
use Rattle.table.specs.Tables.{first_word_of}
use Rattle.planner.specs.Entries.{entry_at, read_entries}
use Rattle.planner.proofs.buffer.ReadBack.{read_step, read_end}
use Rattle.assignment.specs.Assignment.{binds_again, first_same_scope}
use Rattle.planner.specs.Layout.{Entry, entry_words, binds_any}

-- the entries in turn: those that are left say the same as all of them
pub record Scanning {A : Type 0} (f : List Entry → A) (scratch : List ℕ) (k i : ℕ) : Type 0 where
  pub inside : i ≤ k
  pub same : f (read_entries scratch i (k - i)) ≡ f (read_entries scratch 0 k)

pub scanning_start : {A : Type 0} (f : List Entry → A) (scratch : List ℕ) (k : ℕ) → Scanning f scratch k 0
scanning_start f scratch k = let a : k - 0 ≡ k = omega arith in record { inside = omega arith; same = rw a }

-- past the scratch
past_none : (scratch : List ℕ) (i k : ℕ) → length scratch ≤ i * entry_words → binds_any (read_entries scratch i k) ≡ false
unfolding binds_any read_entries
past_none scratch i zero out = refl
past_none scratch i (suc k) out = let z = get_or-eq_default scratch 0 {n = i * entry_words} out in simp z (past_none scratch (i + 1) k (omega arith))

-- does any bind?
module _ {scratch : List ℕ} {k i : ℕ} (s : Scanning binds_any scratch k i) where
  module _ (lt : i < k) where
    here : binds_any (read_entries scratch 0 k) ≡ binds_any (entry_at scratch i ∷ read_entries scratch (i + 1) (k - (i + 1)))
    here = sym s.same ∙ ap binds_any (read_step scratch i k lt)

    pub any_binds : {kind : ℕ} → kind ≡ get_or scratch (i * entry_words) 0 → kind ≡ 1 → true ≡ binds_any (read_entries scratch 0 k)
    unfolding binds_any
    any_binds is e = sym (here ∙ simp (sym is ∙ e))

    pub any_ignores : {kind : ℕ} → kind ≡ get_or scratch (i * entry_words) 0 → kind ≡ 2 → true ≡ binds_any (read_entries scratch 0 k)
    unfolding binds_any
    any_ignores is e = sym (here ∙ simp (sym is ∙ e))

    pub any_on : (get_or scratch (i * entry_words) 0 ≡ 1 → ⊥) → (get_or scratch (i * entry_words) 0 ≡ 2 → ⊥) → Scanning binds_any scratch k (i + 1)
    unfolding binds_any
    any_on not-1 not-2 = record {
      inside = omega arith;
      same = sym (here ∙ simp (ne_eqb (get_or scratch (i * entry_words) 0) 1 not-1, ne_eqb (get_or scratch (i * entry_words) 0) 2 not-2));
    }

  pub any_past : length scratch ≤ i * entry_words → false ≡ binds_any (read_entries scratch 0 k)
  any_past out = sym (sym s.same ∙ past_none scratch i (k - i) out)

  pub any_far : length scratch / entry_words < i → false ≡ binds_any (read_entries scratch 0 k)
  any_far out = any_past (omega arith)

  pub any_ends : k ≤ i → false ≡ binds_any (read_entries scratch 0 k)
  unfolding binds_any
  any_ends le = sym (sym s.same ∙ ap binds_any (read_end scratch i k le))

-- one entry
module _ (nodes : List ℕ) (s : Scope) (node : ℕ) {kind : ℕ} where
  pub here_reply : kind ≡ 1 → {x : ℕ} → x ≡ first_word_of nodes node → (r : Result Bool NameOutside) → question_of r ≡ asked x (same_scope s x) → {b : Bool} → b ≡ result_unwrap_or r false
      → b ≡ binds_again nodes s kind node
  here_reply is-bind {x} is r told e = e ∙ (reply_or_no x (same_scope s x) r told ∙ simp (is-bind, is))

  pub here_other : (kind ≡ 1 → ⊥) → false ≡ binds_again nodes s kind node
  here_other d = simp (ne_eqb kind 1 d)

-- the entries in turn
module _ (nodes : List ℕ) (s : Scope) {scratch : List ℕ} {k i : ℕ} (go : Scanning (first_same_scope nodes s) scratch k i) where
  module _ (lt : i < k) {r : Bool} (is : r ≡ binds_again nodes s (get_or scratch (i * entry_words) 0) (get_or scratch (i * entry_words + 1) 0)) where
    first_here : first_same_scope nodes s (read_entries scratch 0 k) ≡ first_same_scope nodes s (entry_at scratch i ∷ read_entries scratch (i + 1) (k - (i + 1)))
    first_here = sym go.same ∙ ap (first_same_scope nodes s) (read_step scratch i k lt)

    pub first_found : r ≡ true → get_or scratch (i * entry_words + 1) 0 ≡ first_same_scope nodes s (read_entries scratch 0 k)
    unfolding first_same_scope
    first_found e = sym (first_here ∙ simp (sym is ∙ e))

    pub first_on : r ≡ false → Scanning (first_same_scope nodes s) scratch k (i + 1)
    unfolding first_same_scope
    first_on e = record { inside = omega arith; same = sym (first_here ∙ simp (sym is ∙ e)) }

  pub first_ends : k ≤ i → 0 ≡ first_same_scope nodes s (read_entries scratch 0 k)
  unfolding first_same_scope
  first_ends le = sym (sym go.same ∙ ap (first_same_scope nodes s) (read_end scratch i k le))
