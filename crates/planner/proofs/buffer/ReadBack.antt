-- Entries read back from a scratch or a buffer.
use Rattle.std.proofs.Common.{Result}
use Prim.Native.Nat.{ℕ, zero, suc, ◌+◌, ◌-◌, ◌*◌, ◌/◌, ◌≤◌, ◌<◌}
use mathlib.Core.Path.{◌≡◌, refl, sym, ap, ◌∙◌}
use mathlib.Core.List.{List, [], ◌∷◌, ◌++◌}
use mathlib.Core.Bool.{Bool, true, false, cond, false≢true}
use native.Mathlib.Omega.{arith}
use borrow.Author.Tests.{leb-true, ltb-true, ltb-false}
use lib.Dec.{eqb, leb, ltb}
use lib.ListN.{length, get_or, drop, replicate, length-replicate, get_or-replicate, length-append, length-drop, get_or-append}
use lib.Seq.{sets-eq, length-sets, ext_get_or, get_or-append-add, get_or-drop}
use Rattle.base.specs.Refusal.{Line, line, refusal_line, plan_too_large}
use Rattle.planner.specs.declared.Plan.{Plan}
use Rattle.planner.specs.declared.PlanRefusal.{PlanRefusal}
use Rattle.planner.specs.Answer.{planned_as}
use Rattle.planner.specs.Layout.{Entry, entry_words, words}
use Rattle.planner.specs.Entries.{entry_at, read_entries, Closed, word_at}
use Rattle.planner.specs.Operations.{Outcome, refused, planned, space, fits, zeros, answered, written, Answered}
use Rattle.base.specs.Lists.{tabulate}
use Rattle.planner.specs.code.Post.{Laid}
use Rattle.planner.proofs.buffer.Filling.{length_tabulate, get_d_tabulate}
use Rattle.planner.proofs.buffer.Written.{length_words}

pub length_read : (scratch : List ℕ) (i k : ℕ) → length (read_entries scratch i k) ≡ k
unfolding read_entries
length_read scratch i zero = refl
length_read scratch i (suc k) = ap suc (length_read scratch (i + 1) k)

-- the entries that are left
pub read_step : (scratch : List ℕ) (i k : ℕ) → i < k → read_entries scratch i (k - i) ≡ entry_at scratch i ∷ read_entries scratch (i + 1) (k - (i + 1))
unfolding read_entries
read_step scratch i k lt = let a : k - i ≡ suc (k - (i + 1)) = omega arith in ap (λ (n : ℕ). read_entries scratch i n) a

pub read_end : (scratch : List ℕ) (i k : ℕ) → k ≤ i → read_entries scratch i (k - i) ≡ []
unfolding read_entries
read_end scratch i k le = let a : k - i ≡ 0 = omega arith in rw a

add_five : (j : ℕ) → j + 5 ≡ suc (suc (suc (suc (suc j))))
add_five j = omega arith

-- entries whose words stand in a scratch read back as they are
pub read_words : (es : List Entry) (scratch : List ℕ) (i : ℕ) → ((j : ℕ) → j < length es * entry_words → get_or scratch (i * entry_words + j) 0 ≡ get_or (words es) j 0) → read_entries scratch i (length es) ≡ es
unfolding read_entries words
read_words [] scratch i same = refl
read_words (e ∷ es) scratch i same =
    let z : i * entry_words + 0 ≡ i * entry_words = omega arith in
    let kind : get_or scratch (i * entry_words) 0 ≡ e.kind = rw z at (same 0 (omega arith)) in
    let node : get_or scratch (i * entry_words + 1) 0 ≡ e.node = same 1 (omega arith) in
    let children : get_or scratch (i * entry_words + 2) 0 ≡ e.children = same 2 (omega arith) in
    let key : get_or scratch (i * entry_words + 3) 0 ≡ e.key = same 3 (omega arith) in
    let position : get_or scratch (i * entry_words + 4) 0 ≡ e.position = same 4 (omega arith) in
    let rest = read_words es scratch (i + 1) (λ j lt.
    let p : (i + 1) * entry_words + j ≡ i * entry_words + (j + 5) = omega arith in
    rw p (same (j + 5) (omega arith) ∙ simp (add_five j))) in
    rw (kind, node, children, key, position, rest)

pub read_laid : {es : List Entry} {before scratch : List ℕ} {count : ℕ} → Laid before 0 es scratch count → count ≤ length scratch / entry_words → read_entries scratch 0 count ≡ es
read_laid {es} {before} {scratch} {count} l few =
    let size : count ≡ length es = let e = l.end in omega arith in
    let w = length_words es in
    let same_length : length scratch ≡ length before = ap length l.stored ∙ length-sets before (0 * entry_words) (words es) in
    let room : 0 + length (words es) ≤ length before = omega arith in
    rw size (read_words es scratch 0 (λ j lt.
    let z : 0 * entry_words + j ≡ j = omega arith in
    rw z (ap (λ (ws : List ℕ). get_or ws j 0) (l.stored ∙ sets-eq (words es) before 0 room) ∙ get_or-append (words es) _ 0 j (omega arith))))

-- the words of the entries that were read are those of the scratch
pub words_read : (scratch : List ℕ) (i k j : ℕ) → j < k * entry_words → get_or (words (read_entries scratch i k)) j 0 ≡ get_or scratch (i * entry_words + j) 0
unfolding read_entries words
words_read scratch i zero j lt = absurd (omega arith)
words_read scratch i (suc k) zero lt = let e : i * entry_words ≡ i * entry_words + 0 = omega arith in ap (λ (m : ℕ). get_or scratch m 0) e
words_read scratch i (suc k) (suc zero) lt = refl
words_read scratch i (suc k) (suc (suc zero)) lt = refl
words_read scratch i (suc k) (suc (suc (suc zero))) lt = refl
words_read scratch i (suc k) (suc (suc (suc (suc zero)))) lt = refl
words_read scratch i (suc k) (suc (suc (suc (suc (suc j))))) lt =
    let e : (i + 1) * entry_words + j ≡ i * entry_words + suc (suc (suc (suc (suc j)))) = omega arith in
    words_read scratch (i + 1) k j (omega arith) ∙ ap (λ (m : ℕ). get_or scratch m 0) e

-- a scratch's first words and then zeros
first_words : (ws scratch : List ℕ) (size n : ℕ) → size ≡ length ws → size ≤ n → ((i : ℕ) → i < size → get_or ws i 0 ≡ get_or scratch i 0) → tabulate (word_at scratch size) 0 n ≡ ws ++ drop size (replicate n 0)
first_words ws scratch size n long fits same =
    let longer = length-append ws (drop size (replicate n 0)) in
    let dropped = length-drop {A = ℕ} size (replicate n 0) in
    let whole = length-replicate {A = ℕ} n 0 in
    ext_get_or 0 (tabulate (word_at scratch size) 0 n) (ws ++ drop size (replicate n 0)) (length_tabulate (word_at scratch size) 0 n ∙ omega arith) (λ i lt. at i (rw (length_tabulate (word_at scratch size) 0 n) at lt))
  where
    at : (i : ℕ) → i < n → get_or (tabulate (word_at scratch size) 0 n) i 0 ≡ get_or (ws ++ drop size (replicate n 0)) i 0
    at i lt =
        let z : 0 + i ≡ i = omega arith in
        get_d_tabulate (word_at scratch size) 0 n i lt ∙ (ap (word_at scratch size) z ∙ by (ltb i size) refl)
      where
        by : (b : Bool) → ltb i size ≡ b → word_at scratch size i ≡ get_or (ws ++ drop size (replicate n 0)) i 0
        by true p =
            let below = ltb-true i size p in
            simp p (sym (get_or-append ws (drop size (replicate n 0)) 0 i (omega arith) ∙ same i below))
        by false p =
            let above = ltb-false i size p in
            let split : i ≡ length ws + (i - length ws) = omega arith in
            simp p (sym (
            ap (λ (k : ℕ). get_or (ws ++ drop size (replicate n 0)) k 0) split
            ∙ (get_or-append-add ws (drop size (replicate n 0)) (i - length ws) 0
            ∙ (get_or-drop size (replicate n 0) (i - length ws) 0
            ∙ get_or-replicate n (size + (i - length ws)) 0 0 (omega arith)))))

-- what is read and then closed
pub closed_read : (form : ℕ) {before later : List ℕ} {count : ℕ} {r : Result Plan PlanRefusal} → Closed form count before later r → Answered (planned form 0 (read_entries before 0 count)) before later r
unfolding answered written
closed_read form {before} {later} {count} {r} d = go (leb count (length before / entry_words)) refl
  where
    size : length (read_entries before 0 count) ≡ count
    size = length_read before 0 count

    buffer_is : count ≤ length before / entry_words → tabulate (word_at before (count * entry_words)) 0 (length before) ≡ words (read_entries before 0 count) ++ drop (entry_words * count) (replicate (length before) 0)
    buffer_is fits =
        let n = size in
        let w = length_words (read_entries before 0 count) in
        let e : entry_words * count ≡ count * entry_words = omega arith in
        let z : (i : ℕ) → 0 * entry_words + i ≡ i = λ i. omega arith in
        rw e (first_words (words (read_entries before 0 count)) before (count * entry_words) (length before) (omega arith) (omega arith) (λ i lt. words_read before 0 count i lt ∙ ap (λ (m : ℕ). get_or before m 0) (z i)))

    go : (b : Bool) → leb count (length before / entry_words) ≡ b → Answered (planned form 0 (read_entries before 0 count)) before later r
    go true p = record {
      answer = rw size d.answer;
      buffer = rw size (simp p ((simp p at d.buffer) ∙ buffer_is (leb-true count (length before / entry_words) p)));
    }
    go false p = record {
      answer = rw size d.answer;
      buffer = rw size (simp p (simp p at d.buffer));
    }

-- a plan that was answered stands in the buffer
pub record PlanRead (o : Outcome) (before after : List ℕ) (form which count : ℕ) : Type 0 where
  pub is : o ≡ planned form which (read_entries after 0 count)
  pub fit : fits (read_entries after 0 count) before ≡ true
  pub held : count * entry_words ≤ length after

pub read_back : (o : Outcome) {before after : List ℕ} {form which count : ℕ} → Answered o before after (planned_as form which count) → PlanRead o before after form which count
unfolding answered written
read_back (refused r) a = absurd (false≢true (sym r.refuses ∙ ap (λ (l : Line). eqb l.number 0) (sym a.answer)))
read_back (planned f w es) {before} {after} {form} {which} {count} a = go (fits es before) refl a.answer a.buffer
  where
    go : (b : Bool) → fits es before ≡ b → line 0 form which count ≡ cond b (line 0 f w (length es)) (refusal_line (plan_too_large (length es)))
        → after ≡ cond b (words es ++ drop (entry_words * length es) (zeros before)) (zeros before) → PlanRead (planned f w es) before after form which count
    go true p l e =
        let i : form ≡ f = ap (λ (q : Line). q.second) l in
        let j : which ≡ w = ap (λ (q : Line). q.third) l in
        let n : count ≡ length es = ap (λ (q : Line). q.fourth) l in
        let long = length_words es in
        let whole = ap length e ∙ length-append (words es) (drop (entry_words * length es) (zeros before)) in
        let read : read_entries after 0 count ≡ es = rw n (read_words es after 0 (λ k lt. let z : 0 * entry_words + k ≡ k = omega arith in rw (z, e) (get_or-append (words es) (drop (entry_words * length es) (zeros before)) 0 k (omega arith)))) in
        record { is = rw (i, j, read) refl; fit = rw read p; held = omega arith }
    go false p l e = let z : ◌≡◌ {A = ℕ} 0 6 = ap (λ (q : Line). q.number) l in absurd (omega arith)

-- what is written has the buffer's length
pub written_long : (o : Outcome) (buffer : List ℕ) → length (written o buffer) ≡ length buffer
unfolding written
written_long (refused r) buffer = length-replicate (length buffer) 0
written_long (planned form which es) buffer = go (fits es buffer) refl
  where
    go : (b : Bool) → fits es buffer ≡ b → length (cond b (words es ++ drop (entry_words * length es) (zeros buffer)) (zeros buffer)) ≡ length buffer
    go true p =
        let room = leb-true (length es) (space buffer) p in
        let long = length_words es in
        let whole = length-append (words es) (drop (entry_words * length es) (zeros buffer)) in
        let cut = length-drop (entry_words * length es) (zeros buffer) in
        let zero = length-replicate {A = ℕ} (length buffer) 0 in
        omega arith
    go false p = length-replicate (length buffer) 0
