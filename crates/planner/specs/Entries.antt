-- Entries in the words of a scratch or a buffer.
use Rattle.std.specs.Prelude.{ℕ, zero, suc, ◌+◌, ◌*◌, ◌/◌, ◌≡◌, cond, List, [], ◌∷◌, leb, ltb, length, get_or, replicate, Result}
use Rattle.std.proofs.lemmas.List.Edits.{sets}
use Rattle.base.specs.Lists.{tabulate}
use Rattle.base.specs.Refusal.{plan_too_large, line, refusal_line}
use Rattle.base.specs.Lent.{MutSlices}
use Rattle.planner.specs.declared.Plan.{Plan}
use Rattle.planner.specs.declared.PlanRefusal.{PlanRefusal}
use Rattle.planner.specs.Answer.{line_of}
use Rattle.planner.specs.Layout.{Entry, entry_words, below, entry, words}

abbrev pub entry_at : List ℕ → ℕ → Entry
entry_at scratch i = entry (get_or scratch (i * entry_words) 0) (get_or scratch (i * entry_words + 1) 0) (get_or scratch (i * entry_words + 2) 0) (below (get_or scratch (i * entry_words + 3) 0) (get_or scratch (i * entry_words + 4) 0))

-- k entries from entry i on
unfoldable pub read_entries : List ℕ → ℕ → ℕ → List Entry
read_entries scratch i zero = []
read_entries scratch i (suc k) = entry_at scratch i ∷ read_entries scratch (i + 1) k

-- an entry's words at its place, if the buffer has space for it
abbrev pub put_entry : List ℕ → ℕ → Entry → List ℕ
put_entry buffer at e = cond (ltb at (length buffer / entry_words)) (sets buffer (at * entry_words) (words (e ∷ []))) buffer

-- entries from place `at` on, as far as there is space
unfoldable pub put_entries : List ℕ → ℕ → List Entry → List ℕ
put_entries buffer at [] = buffer
put_entries buffer at (e ∷ es) = put_entries (put_entry buffer at e) (at + 1) es

-- such entries in the buffer; r is the place after them
pub record Wrote (before : List ℕ) (at : ℕ) (es : List Entry) (after : List ℕ) (r : ℕ) : Type 0 where
  pub end : r ≡ at + length es
  pub put : after ≡ put_entries before at es

-- the same of a `&mut` buffer, at entry and at exit
abbrev pub WroteIn : MutSlices → ℕ → List Entry → ℕ → Type 0
WroteIn plan at es r = Wrote plan.entry.now at es plan.exit.now r

-- word i of a buffer of which the first words are kept
abbrev pub word_at : List ℕ → ℕ → ℕ → ℕ
word_at before size i = cond (ltb i size) (get_or before i 0) 0

-- as many entries of a buffer, if it has space for them, and zeros behind them
pub record Closed (form count : ℕ) (before after : List ℕ) (r : Result Plan PlanRefusal) : Type 0 where
  pub answer : line_of r ≡ cond (leb count (length before / entry_words)) (line 0 form 0 count) (refusal_line (plan_too_large count))
  pub buffer : after ≡ cond (leb count (length before / entry_words)) (tabulate (word_at before (count * entry_words)) 0 (length before)) (replicate (length before) 0)

abbrev pub ClosedIn : MutSlices → ℕ → ℕ → Result Plan PlanRefusal → Type 0
ClosedIn plan form count r = Closed form count plan.entry.now plan.exit.now r
