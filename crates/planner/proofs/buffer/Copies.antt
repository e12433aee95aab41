-- Entries put into the lent buffer as far as they fit.
use Rattle.std.proofs.Common.{Result}
use Prim.Native.Nat.{ℕ, suc, ◌+◌, ◌-◌, ◌*◌, ◌/◌, ◌≤◌, ◌<◌}
use mathlib.Core.Path.{◌≡◌, refl, sym, ap, ◌∙◌}
use mathlib.Core.Bool.{Bool, true, false}
use mathlib.Core.List.{List, [], ◌∷◌, ◌++◌}
use native.Mathlib.Omega.{arith}
use borrow.Author.Tests.{lt-ltb, le-ltb, leb-true}
use lib.Dec.{leb, ltb}
use lib.ListN.{length, get_or, set, length-append}
use lib.Seq.{length-sets}
use Rattle.planner.specs.declared.Plan.{Plan}
use Rattle.planner.specs.declared.PlanRefusal.{PlanRefusal}
use Rattle.planner.specs.Layout.{Entry, entry_words, below, entry, words}
use Rattle.planner.specs.Entries.{entry_at, read_entries, put_entry, put_entries, Wrote, Closed, word_at}
use Rattle.planner.specs.Operations.{planned, answered, written, Answered}
use Rattle.planner.specs.code.Post.{Laid}
use Rattle.planner.proofs.buffer.Filling.{Filling, word_in}
use Rattle.planner.proofs.buffer.Written.{put_stores, laid_put, laid_none, laid_append}
use Rattle.planner.proofs.buffer.ReadBack.{length_read, read_laid, closed_read}

-- one entry
module _ (before : List ℕ) (at kind node count key position : ℕ) where
  pub wrote_in : at < length before / entry_words → Wrote before at (entry kind node count (below key position) ∷ []) (set (set (set (set (set before (at * entry_words) kind) (at * entry_words + 1) node) (at * entry_words + 2) count) (at * entry_words + 3) key) (at * entry_words + 4) position) (at + 1)
  unfolding put_entries
  wrote_in lt = let b = lt-ltb at (length before / entry_words) lt in record { end = refl; put = simp b (put_stores before at kind node count key position) }

  pub wrote_out : length before / entry_words ≤ at → Wrote before at (entry kind node count (below key position) ∷ []) before (at + 1)
  unfolding put_entries
  wrote_out le = let b = le-ltb at (length before / entry_words) le in record { end = refl; put = simp b }

-- the words of an entry that fits
module _ {size at : ℕ} (fits : at < size / entry_words) where
  pub word_2 : at * entry_words + 1 < size
  word_2 = omega arith

  pub word_3 : at * entry_words + 2 < size
  word_3 = omega arith

  pub word_4 : at * entry_words + 3 < size
  word_4 = omega arith

  pub word_5 : at * entry_words + 4 < size
  word_5 = omega arith

put_length : (before : List ℕ) (at : ℕ) (e : Entry) → length (put_entry before at e) ≡ length before
put_length before at e = go (ltb at (length before / entry_words)) refl
  where
    go : (b : Bool) → ltb at (length before / entry_words) ≡ b → length (put_entry before at e) ≡ length before
    go true p = simp p (length-sets before (at * entry_words) (words (e ∷ [])))
    go false p = simp p

puts_length : (es : List Entry) (before : List ℕ) (at : ℕ) → length (put_entries before at es) ≡ length before
unfolding put_entries
puts_length [] before at = refl
puts_length (e ∷ es) before at = puts_length es (put_entry before at e) (at + 1) ∙ put_length before at e

-- where all of them fit
puts_laid : (es : List Entry) (before : List ℕ) (at : ℕ) → at + length es ≤ length before / entry_words → Laid before at es (put_entries before at es) (at + length es)
unfolding put_entries
puts_laid [] before at fits = let e : at + 0 ≡ at = omega arith in rw e (laid_none before at)
puts_laid (e ∷ es) before at fits =
    let b = lt-ltb at (length before / entry_words) (omega arith) in
    let long = put_length before at e in
    let s : at + suc (length es) ≡ at + 1 + length es = omega arith in
    rw s (laid_append (laid_put (simp b)) (puts_laid es (put_entry before at e) (at + 1) (omega arith)))

puts_append : (es fs : List Entry) (before : List ℕ) (at : ℕ) → put_entries before at (es ++ fs) ≡ put_entries (put_entries before at es) (at + length es) fs
unfolding put_entries
puts_append [] fs before at = let e : at + 0 ≡ at = omega arith in rw e
puts_append (e ∷ es) fs before at = let s : at + suc (length es) ≡ at + 1 + length es = omega arith in rw s (puts_append es fs (put_entry before at e) (at + 1))

pub wrote_long : {before after : List ℕ} {at r : ℕ} {es : List Entry} → Wrote before at es after r → length after ≡ length before
wrote_long {before} {at = at} {es = es} w = ap length w.put ∙ puts_length es before at

pub wrote_none : (before : List ℕ) (at : ℕ) → Wrote before at [] before at
unfolding put_entries
wrote_none before at = record { end = omega arith; put = refl }

pub wrote_append : {before mid after : List ℕ} {at r s : ℕ} {es fs : List Entry} → Wrote before at es mid r → Wrote mid r fs after s → Wrote before at (es ++ fs) after s
wrote_append {before} {mid} {after} {at} {r} {s} {es} {fs} a b = record {
  end = let p = a.end in let q = b.end in omega (arith, length-append es fs);
  put =
      b.put
      ∙ (ap (λ (l : List ℕ). put_entries l r fs) a.put
      ∙ (ap (λ (k : ℕ). put_entries (put_entries before at es) k fs) a.end ∙ sym (puts_append es fs before at)));
}

-- the entries of a scratch, one after the other: those left put here make what all of them make of the start
pub record Copying (scratch before : List ℕ) (at count i to : ℕ) (mid : List ℕ) : Type 0 where
  pub inside : i ≤ to
  pub long : length mid ≡ length before
  pub same : put_entries mid to (read_entries scratch i (count - i)) ≡ put_entries before at (read_entries scratch 0 count)

pub copying_start : (scratch before : List ℕ) (at count : ℕ) → Copying scratch before at count 0 at before
copying_start scratch before at count = record { inside = omega arith; long = refl; same = let z : count - 0 ≡ count = omega arith in rw z }

-- no space left
puts_full : (es : List Entry) (before : List ℕ) (at : ℕ) → length before / entry_words ≤ at → put_entries before at es ≡ before
unfolding put_entries
puts_full [] before at full = refl
puts_full (e ∷ es) before at full = let b = le-ltb at (length before / entry_words) full in simp b (puts_full es before (at + 1) (omega arith))

module _ {scratch before : List ℕ} {at count i to : ℕ} {mid : List ℕ} (go : Copying scratch before at count i to mid) where
  pub copying_full : length mid / entry_words ≤ to → mid ≡ put_entries before at (read_entries scratch 0 count)
  copying_full full = sym (puts_full (read_entries scratch i (count - i)) mid to full) ∙ go.same

  pub copying_on : i < count → {a b c d p : ℕ} {next : List ℕ} → a ≡ get_or scratch (i * entry_words) 0 → b ≡ get_or scratch (i * entry_words + 1) 0 → c ≡ get_or scratch (i * entry_words + 2) 0 → d ≡ get_or scratch (i * entry_words + 3) 0
      → p ≡ get_or scratch (i * entry_words + 4) 0 → Wrote mid to (entry a b c (below d p) ∷ []) next (to + 1) → Copying scratch before at count (i + 1) (to + 1) next
  unfolding put_entries read_entries
  copying_on lt {a} {b} {c} {d} {p} {next} is-a is_b is_c is-d is-p w =
      let n = go.inside in
      let s : count - i ≡ suc (count - (i + 1)) = omega arith in
      let e : entry a b c (below d p) ≡ entry_at scratch i = rw (is-a, is_b, is_c, is-d, is-p) in
      let stored : next ≡ put_entry mid to (entry_at scratch i) = w.put ∙ ap (put_entry mid to) e in
      record {
        inside = omega arith;
        long = wrote_long w ∙ go.long;
        same = ap (λ (l : List ℕ). put_entries l (to + 1) (read_entries scratch (i + 1) (count - (i + 1)))) stored ∙ (ap (λ (k : ℕ). put_entries mid to (read_entries scratch i k)) (sym s) ∙ go.same);
      }

  pub copying_ends : count ≤ i → mid ≡ put_entries before at (read_entries scratch 0 count)
  unfolding put_entries read_entries
  copying_ends le = let z : count - i ≡ 0 = omega arith in ap (λ (k : ℕ). put_entries mid to (read_entries scratch i k)) (sym z) ∙ go.same

-- such entries, and the place after them
pub wrote_copied : (scratch before : List ℕ) (at count : ℕ) {after : List ℕ} → after ≡ put_entries before at (read_entries scratch 0 count) → Wrote before at (read_entries scratch 0 count) after (at + count)
wrote_copied scratch before at count e = record { end = let l = length_read scratch 0 count in omega arith; put = e }

pub wrote_first : (scratch before : List ℕ) (count : ℕ) {after : List ℕ} → after ≡ put_entries before 0 (read_entries scratch 0 count) → Wrote before 0 (read_entries scratch 0 count) after count
wrote_first scratch before count e = record { end = let l = length_read scratch 0 count in omega arith; put = e }

-- entries that all fit stand where they were put
pub wrote_laid : {before after : List ℕ} {at r : ℕ} {es : List Entry} → Wrote before at es after r → r ≤ length before / entry_words → Laid before at es after r
wrote_laid {before} {at = at} {es = es} w fits =
    let e = w.end in
    record { end = w.end; stored = w.put ∙ (puts_laid es before at (omega arith)).stored }

pub wrote_read : {before after : List ℕ} {r : ℕ} {es : List Entry} → Wrote before 0 es after r → r ≤ length before / entry_words → read_entries after 0 r ≡ es
wrote_read w fits = let long = wrote_long w in read_laid (wrote_laid w fits) (omega arith)

-- zeros behind a plan
pub clearing_start : (plan : List ℕ) (from : ℕ) → Filling (word_at plan from) (length plan) from plan
clearing_start plan from = record { long = refl; each = λ k lt. word_in plan from k lt }

-- the plan in the buffer, and zeros behind it
pub wrote_closed : (form : ℕ) (es : List Entry) {before mid later : List ℕ} {at : ℕ} {r : Result Plan PlanRefusal} → Wrote before 0 es mid at → Closed form at mid later r → Answered (planned form 0 es) before later r
unfolding answered written
wrote_closed form es {before} {mid} {later} {at} {r} w d = go (leb (length es) (length before / entry_words)) refl
  where
    size : at ≡ length es
    size = let e = w.end in omega arith

    read : Answered (planned form 0 (read_entries mid 0 at)) mid later r
    read = closed_read form d

    go : (b : Bool) → leb (length es) (length before / entry_words) ≡ b → Answered (planned form 0 es) before later r
    go true p =
        let s = size in
        let fits = leb-true (length es) (length before / entry_words) p in
        let long = wrote_long w in
        let same = wrote_read w (omega arith) in
        record { answer = (rw (same, long) at read.answer); buffer = (rw (same, long) at read.buffer) }
    go false p =
        let s = size in
        let long = wrote_long w in
        let b : leb at (length mid / entry_words) ≡ false = rw (s, long) p in
        record { answer = simp p (rw s at (simp b at d.answer)); buffer = simp p (rw long at (simp b at d.buffer)) }
