-- The answers of the functions, one by one.
use Prim.Native.Nat.{ℕ, suc, ◌+◌, ◌-◌, ◌*◌, ◌/◌, ◌%◌, ◌≤◌, ◌<◌}
use mathlib.Core.Path.{◌≡◌, refl, sym, ap, ◌∙◌}
use mathlib.Core.List.{List, [], ◌∷◌, append_assoc}
use mathlib.Core.Bool.{Bool, true, false, cond, not, ◌&&◌, and-false}
use native.Mathlib.Omega.{arith}
use borrow.Author.Tests.{eq-eqb, ne_eqb, le-leb, lt-leb, leb-true, lt-ltb, le-ltb}
use lib.Dec.{eqb, leb, ltb}
use lib.ListN.{length, take, drop, set}
use lib.Seq.{length-take-le, sets-eq}
use Rattle.base.specs.Lists.{part}
use Rattle.base.specs.Refusal.{over_limit, Tested, passed, refused, require, require_or, no_place}
use Rattle.scope.specs.declared.Scope.{Scope}
use Rattle.scope.specs.Scope.{new_scope}
use Rattle.std.proofs.Common.{Option, Some, None, Result, Ok, Err}
use Rattle.std.specs.Result.{IsErrAnd}
use Rattle.std.proofs.lemmas.Result.{err_from_is_err_and}
use Rattle.table.specs.declared.TableRefusal.{TableRefusal}
use Rattle.table.specs.declared.TableRefusal.TheVariants.{OverLimit, BreaksRules}
use Rattle.table.specs.Tables.{Tables, tables, record_word, name_bytes}
use Rattle.table.specs.Names.{same_bytes}
use Rattle.table.specs.Rules.{within_limits, name_ok}
use Rattle.table.specs.Check.{checked, tested_of, TableAnswered}
use Rattle.table.proofs.trees.Words.{part_whole}
use Rattle.table.proofs.tests.Bools.{and_true, told_no, told_yes, never}
use Rattle.name_table.specs.declared.NameAnswer.{NameAnswer}
use Rattle.name_table.specs.declared.NameAnswer.TheVariants as Name
use Rattle.name_table.specs.declared.NameRefusal.{NameRefusal}
use Rattle.name_table.specs.declared.NameRefusal.TheVariants as No
use Rattle.name_table.specs.Adding.{in_use, in_use_within_limits, has_names, checked_in_use, allowed, number_from, number_or_none, added, at_end, existing_or_added, add_outcome}
use Rattle.name_table.specs.Adding as Adding
use Rattle.name_table.specs.Answer.{NameAdded}

-- the name table: whole pairs, and a place for each name in use
module _ (names : List ℕ) (used : ℕ) where
  pub odd_names : (length names % 2 ≡ 0 → ⊥) → false ≡ has_names names used
  odd_names odd = simp (ne_eqb (length names % 2) 0 odd)

  pub pairs_of_names : length names % 2 ≡ 0 → leb used (length names / 2) ≡ has_names names used
  pairs_of_names even = simp (eq-eqb (length names % 2) 0 even)

  module _ {r : Bool} (told : r ≡ has_names names used) (yes : r ≡ true) where
    pub enough_places : used ≤ length names / 2
    enough_places = leb-true used (length names / 2) (and_true (eqb (length names % 2) 0) _ (sym told ∙ yes)).1

    -- the names in use are a part of the lent table
    pub in_use_part : used * 2 ≡ length (take (used * 2) names)
    in_use_part = let e = enough_places in sym (length-take-le (used * 2) names (omega arith))

-- where the table has the names in use, their check is the table check
within-limits : (T : Tables) (used : ℕ) → used ≤ length T.names / 2 → within_limits (in_use T used) ≡ in_use_within_limits T used
unfolding within_limits
within-limits T used enough =
    let l = length-take-le (used * 2) T.names (omega arith) in
    let e : length (take (used * 2) T.names) / 2 ≡ used = omega arith in
    rw e

pub table_check : (T : Tables) (used : ℕ) → has_names T.names used ≡ true → checked_in_use T used ≡ checked (in_use T used) (new_scope 0 false)
unfolding checked_in_use checked
table_check T used there = rw (there, within-limits T used (enough_places T.names used refl there)) (go (in_use_within_limits T used) _)
  where
    go : (b : Bool) (rest : Tested) → require b over_limit (require b over_limit rest) ≡ require b over_limit rest
    go true rest = refl
    go false rest = refl

-- the check of the names in use
module _ (nodes ch nums names strings text : List ℕ) (used : ℕ) where
  pub use_over : 128 < used → tested_of (Err OverLimit) ≡ checked_in_use (tables nodes ch nums names strings text) used
  unfolding checked_in_use
  use_over many = simp (lt-leb used 128 many, and-false)

  module _ (few : used ≤ 128) {r : Bool} (told : r ≡ has_names names used) where
    -- with no name, the limits are those of all else
    module _ {within : Bool} (limits : within ≡ within_limits (tables nodes ch nums (take 0 names) strings text)) where
      others_within : within ≡ in_use_within_limits (tables nodes ch nums names strings text) used
      unfolding within_limits
      others_within = limits ∙ rw (le-leb used 128 few)

      pub use_broken : r ≡ false → within ≡ true → tested_of (Err BreaksRules) ≡ checked_in_use (tables nodes ch nums names strings text) used
      unfolding checked_in_use
      use_broken lacks told-so = rw (← others_within, told-so, ← told, lacks)

      pub use_limits : within ≡ false → tested_of (Err OverLimit) ≡ checked_in_use (tables nodes ch nums names strings text) used
      unfolding checked_in_use
      use_limits no_more = rw (← others_within, no_more)

  pub use_checked : {r : Bool} {s : Scope} {a : Result Unit TableRefusal} → r ≡ has_names names used → r ≡ true → s ≡ new_scope 0 false
      → TableAnswered (in_use (tables nodes ch nums names strings text) used) s a → tested_of a ≡ checked_in_use (tables nodes ch nums names strings text) used
  use_checked told has bare done =
      done.answer ∙ (ap (checked (in_use (tables nodes ch nums names strings text) used)) bare ∙ sym (table_check (tables nodes ch nums names strings text) used (sym told ∙ has)))

-- a range of the text
module _ (text : List ℕ) (start size : ℕ) where
  pub allowed_none : size < 1 → false ≡ allowed text start size
  unfolding allowed name_ok record_word
  allowed_none low = simp (lt-leb 1 size low)

  pub allowed_long : 255 < size → false ≡ allowed text start size
  unfolding allowed name_ok record_word
  allowed_long high = simp (le-leb 1 size (omega arith), lt-leb size 255 high)

  pub allowed_inside : 1 ≤ size → size ≤ 255 → leb (start + size) (length text) ≡ allowed text start size
  unfolding allowed name_ok record_word
  allowed_inside low high = simp (le-leb 1 size low, le-leb size 255 high)

-- the search among the names in use
pub record Seeking (names text bytes : List ℕ) (used x : ℕ) : Type 0 where
  pub low : 1 ≤ x
  pub high : x ≤ used + 1
  pub few : used ≤ 128
  pub same : number_from names text bytes x (used + 1 - x) ≡ number_from names text bytes 1 used

pub seeking_start : (names text bytes : List ℕ) (used : ℕ) → used ≤ 128 → Seeking names text bytes used 1
seeking_start names text bytes used few =
    let e : used + 1 - 1 ≡ used = omega arith in
    record { low = omega arith; high = omega arith; few = few; same = rw e }

module _ {names text bytes : List ℕ} {used x : ℕ} (go : Seeking names text bytes used x) where
  module _ (more : x ≤ used) where
    seeking_step : number_from names text bytes x (used + 1 - x)
        ≡ cond (same_bytes (name_bytes names text x) bytes) x (number_from names text bytes (x + 1) (used + 1 - (x + 1)))
    unfolding number_from
    seeking_step = let a : used + 1 - x ≡ suc (used + 1 - (x + 1)) = omega arith in ap (λ (k : ℕ). number_from names text bytes x k) a

    module _ {here : List ℕ} {r : Bool} (is : here ≡ name_bytes names text x) (told : r ≡ same_bytes here bytes) where
      pub seeking_found : r ≡ true → Some x ≡ number_or_none (number_from names text bytes 1 used)
      seeking_found told-so =
          let low = go.low in
          let e : x ≡ number_from names text bytes 1 used = sym (sym go.same ∙ (seeking_step ∙ rw (← is) (simp (sym told ∙ told-so)))) in
          rw (← e, ne_eqb x 0 (λ z. omega arith))

      pub seeking_on : r ≡ false → Seeking names text bytes used (x + 1)
      seeking_on no_more = record {
        low = omega arith;
        high = omega arith;
        few = go.few;
        same = sym (seeking_step ∙ rw (← is) (simp (sym told ∙ no_more))) ∙ go.same;
      }

  pub seeking_ends : used < x → None ≡ number_or_none (number_from names text bytes 1 used)
  unfolding number_from
  seeking_ends past =
      let h = go.high in
      let a : used + 1 - x ≡ 0 = omega arith in
      ap number_or_none (rw a at go.same)

-- a name at the end
module _ (names : List ℕ) (used start size : ℕ) where
  pub put_many : 127 < used → NameAdded (at_end names used) used start size names names (Err No.NoPlace)
  unfolding at_end
  put_many many = go (ltb used (length names / 2))
    where
      go : (b : Bool) → NameAdded (require_or Adding.refused (b && ltb used 128) no_place (added (used + 1))) used start size names names (Err No.NoPlace)
      go true = rw (le-ltb used 128 (omega arith)) (record { answer = refl; names = refl })
      go false = record { answer = refl; names = refl }

  pub put_none : length names ≤ used * 2 + 1 → NameAdded (at_end names used) used start size names names (Err No.NoPlace)
  unfolding at_end
  put_none short = rw (le-ltb used (length names / 2) (omega arith)) (record { answer = refl; names = refl })

  pub put_there : used ≤ 127 → used * 2 + 1 < length names
      → NameAdded (at_end names used) used start size names (set (set names (used * 2) start) (used * 2 + 1) size) (Ok (Name.Added (used + 1)))
  unfolding at_end
  put_there few room =
      let a = lt-ltb used (length names / 2) (omega arith) in
      let b = lt-ltb used 128 (omega arith) in
      let e : used * 2 + 1 ≡ suc (used * 2) = omega arith in
      let new_words : List ℕ = start ∷ (size ∷ []) in
      rw (a, b) (record { answer = refl; names = rw e (sets-eq new_words names (used * 2) (omega arith) ∙ append_assoc (take (used * 2) names) new_words (drop (used * 2 + 2) names)) })

-- the whole call
module _ (nodes ch nums names strings text : List ℕ) (used start size : ℕ) {checking : Result Unit TableRefusal} (told : tested_of checking ≡ checked_in_use (tables nodes ch nums names strings text) used) where
  pub add_table : {a : TableRefusal} {r : Result NameAnswer NameRefusal} → checking ≡ Err a → IsErrAnd r (λ e. e ≡ No.TableRefused a)
      → NameAdded (add_outcome (tables nodes ch nums names strings text) used start size) used start size names names r
  unfolding add_outcome
  add_table {r = r} is gives =
      let g = err_from_is_err_and r gives in
      rw (← told, is, g.1, g.2) (record { answer = refl; names = refl })

  module _ (sound : checking ≡ Ok tt) where
    passes : checked_in_use (tables nodes ch nums names strings text) used ≡ passed
    passes = sym told ∙ ap tested_of sound

    pub few_used : used ≤ 128
    unfolding checked_in_use
    few_used = go (leb used 128) refl
      where
        go : (b : Bool) → leb used 128 ≡ b → used ≤ 128
        go true p = leb-true used 128 p
        go false p = let h : refused over_limit ≡ passed = simp (p, and-false) at passes in never (cc)

    module _ {good : Bool} (may : good ≡ allowed text start size) where
      pub add_barred : not good ≡ true → NameAdded (add_outcome (tables nodes ch nums names strings text) used start size) used start size names names (Err (No.TableRefused BreaksRules))
      unfolding add_outcome
      add_barred t = rw (passes, told_no may t) (record { answer = refl; names = refl })

      module _ (t : not good ≡ false) where
        pub range_inside : start + size ≤ length text
        unfolding allowed name_ok record_word
        range_inside =
            let a = and_true (leb 1 size) _ (told_yes may t) in
            let b = and_true (leb size 255) _ a.1 in
            leb-true (start + size) (length text) b.1

        module _ {x : Option ℕ} (seen : x ≡ number_or_none (number_from names text (take (start + size - start) (drop start text)) 1 used)) where
          found : x ≡ number_or_none (number_from names text (part text start size) 1 used)
          found = seen ∙ ap (λ (bytes : List ℕ). number_or_none (number_from names text bytes 1 used)) (part_whole text start size)

          pub add_existing : {y : ℕ} → x ≡ Some y → NameAdded (add_outcome (tables nodes ch nums names strings text) used start size) used start size names names (Ok (Name.Existing y))
          unfolding add_outcome
          add_existing {y} is = rw (passes, told_yes may t) (go (number_from names text (part text start size) 1 used) (sym is ∙ found))
            where
              go : (n : ℕ) → Some y ≡ number_or_none n → NameAdded (existing_or_added names used n) used start size names names (Ok (Name.Existing y))
              go n e = by (eqb n 0) e
                where
                  by : (b : Bool) → Some y ≡ cond b None (Some n) → NameAdded (cond b (at_end names used) (Adding.existing n)) used start size names names (Ok (Name.Existing y))
                  by true q = never (cc)
                  by false q = let z : y ≡ n = cc in rw z (record { answer = refl; names = refl })

          pub add_new : x ≡ None → {after : List ℕ} {r : Result NameAnswer NameRefusal} → NameAdded (at_end names used) used start size names after r
              → NameAdded (add_outcome (tables nodes ch nums names strings text) used start size) used start size names after r
          unfolding add_outcome
          add_new none {after} {r} done = rw (passes, told_yes may t) (go (number_from names text (part text start size) 1 used) (sym none ∙ found))
            where
              go : (n : ℕ) → None ≡ number_or_none n → NameAdded (existing_or_added names used n) used start size names after r
              go n e = by (eqb n 0) e
                where
                  by : (b : Bool) → None ≡ cond b None (Some n) → NameAdded (cond b (at_end names used) (Adding.existing n)) used start size names after r
                  by true q = done
                  by false q = never (cc)
