-- The calls over lent words: the answer in document 02's numbers, and the words afterwards. Words of another length are no store.
use Rattle.std.specs.Prelude.{ℕ, ◌≡◌, Bool, cond, ◌&&◌, List, Result, Ok, Err, eqb, leb, length}
use Rattle.base.specs.Lent.{Slices, MutSlices, old, new}
use Rattle.base.specs.Refusal.{shares_refused, store_refused, Line, line, refusal_line, require_or}
use Rattle.planner.specs.Layout.{Entry}
use Rattle.planner.specs.Entries.{read_entries}
use Rattle.planner.specs.Operations.{space}
use Rattle.plan_store.specs.declared.SharesRefused.{SharesRefused}
use Rattle.plan_store.specs.declared.StoreRefused.{StoreRefused}
use Rattle.plan_store.specs.Store.{used, pack_of, shares_ok, fresh, is_kept, with_plan, no_entry, read_entry, emptied}
use Rattle.plan_store.specs.Words.{store_words, with_store, store_of, is_store}

-- the answers' four numbers
abbrev pub set_up_numbers : Result Unit SharesRefused → Line
set_up_numbers (Ok done) = line 0 0 0 0
set_up_numbers (Err e) = refusal_line shares_refused

abbrev pub keep_numbers : Result ℕ StoreRefused → Line
keep_numbers (Ok place) = line 0 place 0 0
keep_numbers (Err e) = refusal_line store_refused

abbrev pub empty_numbers : Result Unit StoreRefused → Line
empty_numbers (Ok done) = line 0 0 0 0
empty_numbers (Err e) = refusal_line store_refused

-- the numbers settle the answer
pub record StoreAnswerLaws : Type 0 where
  pub set_ups : (r q : Result Unit SharesRefused) → set_up_numbers r ≡ set_up_numbers q → r ≡ q
  pub keeps : (r q : Result ℕ StoreRefused) → keep_numbers r ≡ keep_numbers q → r ≡ q
  pub empties : (r q : Result Unit StoreRefused) → empty_numbers r ≡ empty_numbers q → r ≡ q

-- Set-up: it does not matter what stood in the words.
unfoldable pub can_set_up : List ℕ → List ℕ → Bool
can_set_up before shares = eqb (length before) store_words && shares_ok shares

abbrev pub set_up_after : List ℕ → List ℕ → List ℕ
set_up_after before shares = cond (can_set_up before shares) (with_store before (fresh shares)) before

abbrev pub set_up_line : List ℕ → List ℕ → Line
set_up_line before shares = require_or refusal_line (can_set_up before shares) shares_refused (line 0 0 0 0)

pub record SetUp (shares before after : List ℕ) (r : Result Unit SharesRefused) : Type 0 where
  pub answer : set_up_numbers r ≡ set_up_line before shares
  pub store : after ≡ set_up_after before shares

-- Keeping the plan of `count` entries in a lent buffer, which may end past it.
unfoldable pub can_keep : List ℕ → ℕ → List ℕ → ℕ → Bool
can_keep ws n buffer count = is_store ws && (leb count (space buffer) && is_kept (store_of ws) n (read_entries buffer 0 count))

abbrev pub keep_after : List ℕ → ℕ → List ℕ → ℕ → List ℕ
keep_after ws n buffer count = cond (can_keep ws n buffer count) (with_store ws (with_plan (store_of ws) n (read_entries buffer 0 count))) ws

abbrev pub keep_line : List ℕ → ℕ → List ℕ → ℕ → Line
keep_line ws n buffer count = require_or refusal_line (can_keep ws n buffer count) store_refused (line 0 (used (pack_of (store_of ws) n)) 0 0)

pub record KeptBy (n : ℕ) (buffer : List ℕ) (count : ℕ) (before after : List ℕ) (r : Result ℕ StoreRefused) : Type 0 where
  pub answer : keep_numbers r ≡ keep_line before n buffer count
  pub store : after ≡ keep_after before n buffer count

-- Reading: zeros from words that are no store.
unfoldable pub read_from : List ℕ → ℕ → ℕ → Entry
read_from ws n place = cond (is_store ws) (read_entry (store_of ws) n place) no_entry

-- Emptying
abbrev pub empty_after : List ℕ → List ℕ
empty_after ws = cond (is_store ws) (with_store ws (emptied (store_of ws))) ws

abbrev pub empty_line : List ℕ → Line
empty_line ws = require_or refusal_line (is_store ws) store_refused (line 0 0 0 0)

pub record EmptiedBy (before after : List ℕ) (r : Result Unit StoreRefused) : Type 0 where
  pub answer : empty_numbers r ≡ empty_line before
  pub store : after ≡ empty_after before

-- the same of what is lent, at entry and at exit
abbrev pub SetUpIn : MutSlices → Slices → Result Unit SharesRefused → Type 0
SetUpIn store shares r = SetUp shares.entry.now (old store) (new store) r

abbrev pub KeptIn : MutSlices → ℕ → Slices → ℕ → Result ℕ StoreRefused → Type 0
KeptIn store n plan count r = KeptBy n plan.entry.now count (old store) (new store) r

abbrev pub EmptiedIn : MutSlices → Result Unit StoreRefused → Type 0
EmptiedIn store r = EmptiedBy (old store) (new store) r
